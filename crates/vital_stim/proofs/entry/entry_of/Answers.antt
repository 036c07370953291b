use Rattle.std.proofs.Common.{◌∷◌, sym, ◌∙◌, ap}
use Rattle.vital_stim.specs.Parts.{field_of, fields_of}
use Rattle.vital_stim.specs.Stimuli.{stimulus_of}
use Rattle.vital_stim.proofs.EntryLemmas.{begins_with_number, begins_with_none}
use Rattle.vital_stim.proofs.entry.entry_of.Goals as goal

pub returns-in-Some : goal.returns-in-Some
returns-in-Some c =
    let field = field_of c.after_blanks.result.now in
    let line = begins_with_number c.args.line.now _ _ c.after_blanks.ensures c.in-Some.ensures.number in
    c.after_number.ensures field c.in-Some.ensures.number
    ∙ ap (λ rest. stimulus_of (field ∷ fields_of rest)) c.in-Some.ensures.after
    ∙ ap stimulus_of (sym line)

pub returns-in-None : goal.returns-in-None
returns-in-None c = sym (begins_with_none c.args.line.now _ c.after_blanks.ensures c.in-None.ensures.none)
