use Rattle.std.proofs.Common.{sym, ◌∙◌}
use Rattle.vital_stim.proofs.EntryLemmas.{no_unit, no_time, no_value}
use Rattle.vital_stim.proofs.entry.from_fields.Goals as goal

pub returns-in-None : goal.returns-in-None
returns-in-None c = λ digits number. no_unit digits c.args.letters.now c.args.port.now c.args.level.now _ _ number (sym c.named.ensures ∙ c.in-None.is) c.first_fault.ensures

pub returns-in-None-time : goal.returns-in-None-time
returns-in-None-time c = λ digits number. no_time digits c.args.letters.now c.args.port.now c.args.level.now _ _ _ number (sym c.named.ensures ∙ c.in-Some.is) (sym c.time.ensures ∙ c.in-None-time.is) c.first_fault-in-None-time.ensures

pub returns-in-None-value_named : goal.returns-in-None-value_named
returns-in-None-value_named c = λ digits number. no_value digits c.args.letters.now c.args.port.now c.args.level.now _ _ _ _ number (sym c.named.ensures ∙ c.in-Some.is) (sym c.time.ensures ∙ c.in-Some-time.is) (sym c.value_named.ensures ∙ c.in-None-value_named.is) c.first_fault-in-None-value_named.ensures
