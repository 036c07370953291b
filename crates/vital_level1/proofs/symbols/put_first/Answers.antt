use Rattle.std.proofs.Common.{◌∙◌, ap, sym}
use Rattle.std.specs.Prelude.{cond, Some}
use Rattle.std.specs.BTreeMap.{get}
use Rattle.vital_base.specs.Places.{compare_places}
use Rattle.vital_names.proofs.FirstLemmas.{put-new}
use Rattle.vital_operands.proofs.PlaceLemmas.{same-place}
use Rattle.vital_operands.specs.Faults.{is_same_place}
use Rattle.vital_level1.proofs.ConstantLemmas.{same_place}
use Rattle.vital_level1.proofs.symbols.put_first.Goals as goal

pub returns-in_ok-insert : goal.returns-in_ok-insert
returns-in_ok-insert c = λ q.
    let m = c.args.constants.now in
    put-new (get compare_places m c.args.place) (get compare_places m q) (get compare_places c.insert.new.self q) c.args.constant (is_same_place c.args.place q)
    (λ e. ap (get compare_places m) (same_place c.args.place q e))
    (sym c.contains_key.ensures ∙ c.if-not-contains_key.true)
    (c.in_ok-insert.ensures.updates.0 q ∙ ap (λ b. cond b (Some c.args.constant) (get compare_places m q)) (same-place c.args.place q))
