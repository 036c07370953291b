use Rattle.std.proofs.Common.{◌≡◌, ℕ, ◌∙◌, length, ap, arith}
use Rattle.vital_self.specs.Netlist.{netlist}
use Rattle.vital_self.specs.Stimuli.{stimuli}
use Rattle.vital_self.proofs.Lengths.{short_library, short_netlist, short_stimuli}
use Rattle.vital_self.proofs.files.texts_of.Goals as goal

pub returns-clause-short_library : goal.returns-clause-short_library
returns-clause-short_library c =
    omega (arith, ap length (c.new.ensures ∙ c.in_ok-from_slice.ensures.items ∙ c.library.ensures), short_library)

pub returns-clause-short_netlist : goal.returns-clause-short_netlist
returns-clause-short_netlist c =
    let is : c.new-2.result ≡ netlist c.args.seed c.args.cells = c.new-2.ensures ∙ c.in_ok-netlist.ensures.text ∙ ap (λ (seed : ℕ). netlist seed c.args.cells) c.new-draws.ensures.seed in
    omega (arith, ap length is, short_netlist c.args.seed c.args.cells c.requires.1)

pub returns-clause-short_stimuli : goal.returns-clause-short_stimuli
returns-clause-short_stimuli c =
    let is : c.new-3.result ≡ stimuli c.args.seed c.args.cells =
    c.new-3.ensures ∙ c.in_ok-stimuli.ensures ∙ ap (λ (seed : ℕ). stimuli seed c.args.cells) (c.in_ok-netlist.ensures.seed ∙ c.new-draws.ensures.seed) in
    omega (arith, ap length is, short_stimuli c.args.seed c.args.cells)
