use Rattle.std.proofs.Common.{get_or, refl, rules}
use Rattle.std.proofs.lemmas.Bool.{eqb-true, eqb-false, not-true, not-false}
use Rattle.std.proofs.lemmas.Nat.{or_lt}
use Rattle.vital_ll.proofs.passes.add.Goals as goal

pub returns : goal.returns
returns c = record {
  masks = refl;
  fits = or_lt 128 (get_or c.args.masks.now c.args.rule 0) c.args.bits (search (rules, c.items_fit c.args.rule)) (search rules);
  same = λ e. eqb-true _ _ (not-false _ e);
  other = λ e. eqb-false _ _ (not-true _ e);
}
