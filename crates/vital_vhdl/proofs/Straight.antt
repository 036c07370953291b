-- An expression that begins with a primary, and one that is no more.
use Rattle.std.proofs.Common.{◌≡◌, ◌≢◌, ℕ, zero, suc, ◌==◌, eqb, cond, if◌then◌else◌, List, [], ◌∷◌, length, drop, Option, Some, None, refl, ap, sym, ◌∙◌}
use Rattle.std.proofs.lemmas.Bool.{ne_eqb}
use Rattle.vital_ll.specs.declared.derivation.Step.{Step}
use Rattle.vital_base.specs.declared.place.Place.{Place}
use Rattle.vital_nodes.specs.declared.expr.Expr.{Expr}
use Rattle.vital_nodes.specs.declared.expr.Expr.TheVariants as e
use Rattle.vital_nodes.specs.declared.expr.Item.{Item}
use Rattle.vital_nodes.specs.declared.expr.Relation.{roll-Relation}
use Rattle.vital_nodes.specs.declared.expr.Sign.{Sign}
use Rattle.vital_shapes.specs.Reading.{Input, Reader, ◌>>=◌, ◌>>◌, onward, pure, skip, place, alternative, past_step, left, next_place, next_token, alone, lists_from, many}
use Rattle.vital_shapes.specs.Expressions.{logical_of, relational_of, sign_of, sum_of, product_of, sign_before, primary, next_factor, next_term, after_factor, after_term, after_sum, after_relation, factor, term, simple, relation, operands, expr}
use Rattle.vital_vhdl.specs.Levels.{at_primary, BeginsWithPrimary, past_levels, EndsLevels, outwards}

-- ---- where nothing follows a primary

none_dropped : (steps : List Step) → length steps ≡ 0 → drop 1 steps ≡ steps
none_dropped [] none = refl
none_dropped (s ∷ steps) none = absurd (cc)

turns_end : {A : Type 0} (item : ℕ → Reader (List A)) (i : Input) (turns : ℕ) → turns ≡ length i.steps → alternative i ≡ 0 → lists_from item turns [] i ≡ Some ([], past_step i)
unfolding lists_from past_step
turns_end item i zero all none = ap (λ (steps : List Step). Some ([], record i { steps = steps })) (sym (none_dropped i.steps (sym all)))
turns_end {A} item i (suc turns) all none = ap (λ (c : ℕ). (if c == 0 then pure [] else (item c >>= λ xs. lists_from item turns xs)) (past_step i)) none

many_end : {A : Type 0} (item : ℕ → Reader A) (i : Input) → alternative i ≡ 0 → many item i ≡ Some ([], past_step i)
unfolding left
many_end item i none = turns_end (alone item) i (length i.steps) refl none

module _ (items : Reader (List Item)) (p : Place) where
  term_ends : (x : Expr) (i : Input) → alternative i ≡ 0 → after_factor items p x i ≡ Some (x, past_step i)
  unfolding after_factor product_of
  term_ends x i none = ap (λ r. onward r (λ others. pure (product_of p x others))) (many_end (next_factor items) i none)

  sum_ends : (x : Expr) (i : Input) → alternative i ≡ 0 → after_term items p None x i ≡ Some (x, past_step i)
  unfolding after_term sum_of
  sum_ends x i none = ap (λ r. onward r (λ others. pure (sum_of p None x others))) (many_end (next_term items) i none)

  relation_ends : (x : Expr) (i : Input) → alternative i ≡ 0 → after_sum items p x i ≡ Some (x, past_step i)
  unfolding after_sum
  relation_ends x i none =
      ap (λ (c : ℕ). (if c == 0 then pure x else (skip >> (simple items >>= λ second. pure (e.Relation (roll-Relation (record { place = p; operator = relational_of c; left = x; right = second })))))) (past_step i)) none

  expression_ends : (x : Expr) (i : Input) → alternative i ≡ 0 → after_relation items p x i ≡ Some (x, past_step i)
  unfolding after_relation
  expression_ends x i none = ap (λ (c : ℕ). (if c == 0 then pure x else (operands items x c >>= λ found. pure (e.Logical p (logical_of c) found))) (past_step i)) none

  pub is_alone : (x : Expr) (i : Input) → EndsLevels i → outwards items p (Some (x, i)) ≡ Some (x, past_levels i)
  is_alone x i ends =
      ap (λ r. onward (onward (onward r (after_term items p None)) (after_sum items p)) (after_relation items p)) (term_ends x i ends.term)
      ∙ ap (λ r. onward (onward r (after_sum items p)) (after_relation items p)) (sum_ends x (past_step i) ends.sum)
      ∙ ap (λ r. onward r (after_relation items p)) (relation_ends x (past_step (past_step i)) ends.relation)
      ∙ expression_ends x (past_step (past_step (past_step i))) ends.expression

-- ---- where nothing stands before a primary

module _ (items : Reader (List Item)) where
  no_sign : (i : Input) → alternative i ≡ 0 → sign_before i ≡ Some (None, past_step i)
  unfolding sign_before
  no_sign i none = ap (λ (c : ℕ). (if c == 0 then pure None else (skip >> pure (Some (sign_of c)))) (past_step i)) none

  no_not : (i : Input) → alternative i ≢ 0 → factor items i ≡ primary items (past_step i)
  unfolding factor
  no_not i some =
      ap (λ b. (place >>= λ p. cond {A = Reader Expr} b (skip >> (primary items >>= λ x. pure (e.Not p x))) (primary items)) (past_step i)) (ne_eqb (alternative i) 0 some)

  in_term : (i : Input) → alternative (past_step i) ≢ 0 → term items i ≡ onward (primary items (past_step (past_step i))) (after_factor items (next_place i))
  unfolding term next_place next_token past_step
  in_term i some = ap (λ r. onward r (after_factor items (next_place i))) (no_not (past_step i) some)

  in_sum : (i : Input) → alternative (past_step i) ≡ 0 → simple items i ≡ onward (term items (past_step (past_step i))) (after_term items (next_place i) None)
  unfolding simple next_place next_token past_step
  in_sum i none = ap (λ r. onward r (λ s. term items >>= λ first. after_term items (next_place i) s first)) (no_sign (past_step i) none)

  pub is_straight : (i : Input) → BeginsWithPrimary i → expr items i ≡ outwards items (next_place (at_primary i)) (primary items (at_primary i))
  unfolding expr relation next_place next_token past_step
  is_straight i begins =
      ap (λ r. onward (onward r (after_sum items (next_place i))) (after_relation items (next_place i)))
      (in_sum (past_step (past_step i)) begins.no_sign
      ∙ ap (λ r. onward r (after_term items (next_place i) None)) (in_term (past_step (past_step (past_step (past_step i)))) begins.no_not))
