use Rattle.std.proofs.Common.{sym, ap, ◌∙◌}
use Rattle.std.specs.Prelude.{Some}
use Rattle.vital_instances.proofs.MarkLemmas.{fault-at-is}
use Rattle.vital_instances.proofs.open_units.OpenUnits.judge.Goals as goal

pub returns-then-is_good-clause-fault : goal.returns-then-is_good-clause-fault
returns-then-is_good-clause-fault c = λ judge judges.
    sym (fault-at-is judge _ _ _ c.requires.unit) ∙ c.is_good.ensures c.if-is_good.true judge judges

pub keep_good-requires-clause-good : goal.keep_good-requires-clause-good
keep_good-requires-clause-good c = λ judge judges.
    let unit = c.args.unit in
    let same = c.self.invariant.0 ∙ c.self.view_is in
    fault-at-is judge _ _ _ c.requires.unit
    ∙ sym (ap (λ files. judge (record { files = files; entity = unit.entity.now; arch = Some unit.arch.now })) same)
    ∙ c.in_ok-fault.ensures judge judges
    ∙ c.in-None.is
