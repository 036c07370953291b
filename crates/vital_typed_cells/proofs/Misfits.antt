-- What does not go with other actuals breaks a clause at an item that is there.
use Rattle.std.proofs.Common.{◌≡◌, ℕ, Bool, true, false, List, [], Option, Some, None, refl}
use Rattle.std.specs.Prelude.{IsSome}
use Rattle.std.specs.Option.{option_and_then}
use Rattle.vital_actuals.specs.declared.target.Target.{Target}
use Rattle.vital_actuals.specs.Actuals.{place_given}
use Rattle.vital_calls.specs.Formals.{Formals}
use Rattle.vital_calls.specs.Matching.{actual_of as item_for}
use Rattle.vital_expr.specs.Readings.{Context}
use Rattle.vital_nodes.specs.declared.expr.Item.{Item as Item'}
use Rattle.vital_nodes.specs.Nodes.{Item}
use Rattle.vital_typed_statements.specs.StateTables.{is_greater_than_results}
use Rattle.vital_typed_statements.specs.Statements.{breach_at, breach_if}
use Rattle.vital_typed_cells.proofs.ToldNodes.{breach-there}

some-breach : (c : Context) (o : Option Item') → c.faults ≡ [] → IsSome o → breach_at c o ≡ [] → ⊥
some-breach c None none there whole = cc
some-breach c (Some i) none there whole = breach-there c.faults (place_given i) (Item i) none whole

pub no-breach : (c : Context) (fs : Formals) (is : List Item') (b : Bool) (name : List ℕ) → c.faults ≡ [] → breach_if b c fs is name ≡ [] → (b ≡ true → IsSome (item_for is fs name)) → b ≡ false
no-breach c fs is false name none whole there = refl
no-breach c fs is true name none whole there = absurd (some-breach c (item_for is fs name) none (there refl) whole)

pub some-in : {A B : Type 0} (f : A → Option B) (o : Option A) → IsSome (option_and_then f o) → IsSome o
some-in f None there = there
some-in f (Some x) there = refl

pub greater-some : (o : Option ℕ) (t : Option Target) → is_greater_than_results o t ≡ true → IsSome o
greater-some None t is = cc
greater-some (Some n) t is = refl
