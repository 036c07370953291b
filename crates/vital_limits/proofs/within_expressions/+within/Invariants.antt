use Rattle.std.proofs.Common.{◌≡◌, ◌++◌, map, take}
use Rattle.std.specs.List.{flat_map}
use Rattle.vital_limits.specs.WithinLimits.{limits_within_all}
use Rattle.vital_nodes.specs.Nodes.{Expression, expressions, items, parts_of_suffix}
use Rattle.vital_limits.proofs.within_expressions.+within.Given as goal

abbrev pub invariant-put_within_exprs-loop-expr : goal.invariant-put_within_exprs-loop-expr
invariant-put_within_exprs-loop-expr l = l.limits.items ≡ l.initial.limits.items ++ limits_within_all (expressions (take l.expr-index l.exprs))

abbrev pub invariant-put_within_terms-loop-term : goal.invariant-put_within_terms-loop-term
invariant-put_within_terms-loop-term l = l.limits.items ≡ l.initial.limits.items ++ limits_within_all (map (λ term. Expression term.1) (take l.term-index l.terms))

abbrev pub invariant-put_within_factors-loop-factor : goal.invariant-put_within_factors-loop-factor
invariant-put_within_factors-loop-factor l = l.limits.items ≡ l.initial.limits.items ++ limits_within_all (map (λ factor. Expression factor.1) (take l.factor-index l.factors))

abbrev pub invariant-put_within_items-loop-item : goal.invariant-put_within_items-loop-item
invariant-put_within_items-loop-item l = l.limits.items ≡ l.initial.limits.items ++ limits_within_all (items (take l.item-index l.list))

abbrev pub invariant-put_in_suffixes-loop-suffix : goal.invariant-put_in_suffixes-loop-suffix
invariant-put_in_suffixes-loop-suffix l = l.limits.items ≡ l.initial.limits.items ++ limits_within_all (flat_map parts_of_suffix (take l.suffix-index l.suffixes))
