use Rattle.std.proofs.Common.{◌++◌, map, ◌∙◌, sym, ap, append-nil}
use Rattle.std.proofs.lemmas.Map.Iter.{rest_all}
use Rattle.std.proofs.lemmas.Simd.{map-map}
use Rattle.vital_stim.specs.Stimuli.{input_port}
use Rattle.vital_stim.proofs.known_ports.ports_of.Goals as goal

pub returns : goal.returns
returns c =
    let none = rest_all (λ x. x) _ _ _ c.in-None.is c.next.ensures.steps in
    let all = ap (λ rest. c.loop-name.ports.items ++ map (λ key. input_port key.items) rest) none in
    c.new.ensures ∙ sym (append-nil c.loop-name.ports.items) ∙ sym all ∙ c.loop-name.invariant ∙ sym (map-map input_port (λ key. key.items) c.args.names.keys)
