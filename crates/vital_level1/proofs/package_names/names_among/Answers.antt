use Rattle.std.proofs.Common.{ℕ, ◌<◌, length, refl, arith}
use Rattle.std.proofs.lemmas.List.{get_or_default}
use Rattle.std.specs.Prelude.{Bool}
use Rattle.std.specs.BTreeSet.{contains}
use Rattle.std.specs.Ordering.{nat_cmp}
use Rattle.vital_level1.specs.declared.package_names.NamedConstant.{NamedConstant}
use Rattle.vital_nodes.proofs.Lists.{map_filter-one, turn}
use Rattle.vital_level1.proofs.package_names.names_among.Goals as goal

pub loop-one-preserved : goal.loop-one-preserved
loop-one-preserved c =
    let test : ℕ → Bool = λ n. contains nat_cmp c.args.numbers.now n in
    let named = c.args.named.now in
    let i = c.loop-one.one-index in
    let within : i < length named = omega arith in
    turn _ _ _ _ _ _ c.in_ok-put_if_among.ensures c.loop-one.invariant refl
    (map_filter-one (λ (n : NamedConstant). test n.number) (λ (n : NamedConstant). n.place) named i _ within (get_or_default named i _ _ within))
