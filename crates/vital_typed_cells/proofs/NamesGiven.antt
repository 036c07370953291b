-- What is given for a formal that comes by its name is given alone by an item of the call.
use Rattle.std.proofs.Common.{◌≡◌, ℕ, ◌+◌, ◌≤◌, Bool, true, false, List, [], ◌∷◌, Option, Some, None, refl, ap, ◌∙◌, arith}
use Rattle.std.proofs.lemmas.Slice.Eq.{bytes_eq-Decides}
use Rattle.std.specs.Prelude.{cond, find, if◌then◌else◌}
use Rattle.std.specs.List.{enumerate_from, filter_map}
use Rattle.std.specs.Option.{option_and_then, option_map, option_map_or}
use Rattle.std.specs.Str.{bytes_eq}
use Rattle.vital_actuals.specs.declared.actual.Actual.TheVariants as actual
use Rattle.vital_actuals.specs.Actuals.{actual_as, actual_if_given, actual_of, name_as}
use Rattle.vital_actuals.specs.Kinds.{fits, operand_named}
use Rattle.vital_calls.specs.declared.actual_form.ActualForm.{ActualForm}
use Rattle.vital_calls.specs.Formals.{Formal, Names}
use Rattle.vital_calls.specs.Matching.{actual_of as item_for, form_of, formal_name, is_for, name_of, named}
use Rattle.vital_expr.specs.Outcomes.{map_typed, or_broken}
use Rattle.vital_expr.specs.Readings.{Context, breach}
use Rattle.vital_nodes.specs.declared.expr.Expr.{Expr}
use Rattle.vital_nodes.specs.declared.expr.Item.{Item}
use Rattle.vital_nodes.specs.declared.identifier.Identifier.{Identifier}
use Rattle.vital_sections.specs.Given.{given, name_given, name_in}
use Rattle.vital_nodes.specs.Items.{actual as actual_given}
use Rattle.vital_nodes.specs.Names.{identifier_of}
use Rattle.vital_typed_cells.proofs.Parts.{if_there, once, times, times-put}

-- ---- which formal an item is for

-- An item that is for the formal of a name has the form that this formal asks.
pub form-is : (fs : List Formal) (name : List ℕ) (f : ActualForm) (position : ℕ) (i : Item) → option_map (λ x. x.form) (named name fs) ≡ Some f → is_for name (Names fs) position i ≡ true
    → form_of (Names fs) 0 i ≡ Some f
unfolding form_of formal_name
form-is fs name f position i asked is = by-name (name_of i) is
  where
    by-name : (o : Option (List ℕ)) → option_map_or (λ n. bytes_eq n name) o false ≡ true → option_map (λ x. x.form) (option_and_then (λ n. named n fs) o) ≡ Some f
    by-name None is = absurd cc
    by-name (Some n) is = ap (λ m. option_map (λ x. x.form) (named m fs)) ((bytes_eq-Decides n name).0 is) ∙ asked

-- ---- the first item that is for a formal

abbrev for_name : List Formal → List ℕ → ℕ → List Item → Option Item
for_name fs name position is = option_map (λ e. e.1) (find (λ e. is_for name (Names fs) e.0 e.1) (enumerate_from position is))

given-step : (fs : List Formal) (name : List ℕ) (take found : Item → Option (List ℕ)) (n : List ℕ) (position : ℕ) (i : Item) (es : List (ℕ × Item)) (most : ℕ) (b : Bool)
    → (b ≡ true → if_there n (take i) ≤ if_there n (found i)) → if_there n (option_and_then take (option_map (λ e. e.1) (find (λ e. is_for name (Names fs) e.0 e.1) es))) ≤ most
    → if_there n (option_and_then take (option_map (λ e. e.1) (cond b (Some (position, i)) (find (λ e. is_for name (Names fs) e.0 e.1) es)))) ≤ if_there n (found i) + most
given-step fs name take found n position i es most true here others = let first = here refl in omega arith
given-step fs name take found n position i es most false here others = omega arith

-- What an item gives that is for a formal is found at it; so what is given for this formal is found among all items.
given-found : (fs : List Formal) (name : List ℕ) (take found : Item → Option (List ℕ)) (n : List ℕ)
    → ((position : ℕ) (i : Item) → is_for name (Names fs) position i ≡ true → if_there n (take i) ≤ if_there n (found i))
    → (position : ℕ) (is : List Item) → if_there n (option_and_then take (for_name fs name position is)) ≤ times n (filter_map found is)
given-found fs name take found n each position [] = omega arith
given-found fs name take found n each position (i ∷ is) =
    omega (
      arith,
      times-put n (found i) (filter_map found is),
      given-step fs name take found n position i (enumerate_from (position + 1) is) (times n (filter_map found is)) (is_for name (Names fs) position i) (each position i)
          (given-found fs name take found n each (position + 1) is),
    )

and-twice : {A B C : Type 0} (f : A → Option B) (g : B → Option C) (o : Option A) → option_and_then g (option_and_then f o) ≡ option_and_then (λ x. option_and_then g (f x)) o
and-twice f g None = refl
and-twice f g (Some x) = refl

-- The name that is given for a formal, where the name of a formal is that of one that asks this form.
pub name-found : (c : Context) (fs : List Formal) (is : List Item) (name : List ℕ) (f : ActualForm) (found : Item → Option (List ℕ)) (n : List ℕ)
    → ((position : ℕ) (i : Item) → is_for name (Names fs) position i ≡ true → if_there n (option_and_then name_in (actual_of c f i).tree) ≤ if_there n (found i))
    → if_there n (name_given (record { context = c; formals = Names fs; items = is }) name f) ≤ times n (filter_map found is)
unfolding given item_for
name-found c fs is name f found n each =
    let first = given-found fs name (λ i. option_and_then name_in (actual_of c f i).tree) found n each 0 is in
    omega (arith, first, ap (if_there n) (and-twice (λ i. (actual_of c f i).tree) name_in (for_name fs name 0 is)))

-- ---- names that are what a form asks

-- A form that asks for the name of something declared.
abbrev pub AsksName : ActualForm → Type 0
AsksName f = (c : Context) (e : Expr) → actual_as c f e ≡ name_as c f e

named-by : (c : Context) (f : ActualForm) (e : Expr) (n : List ℕ) (found : Option Identifier → Option (List ℕ)) (o : Option Identifier) (b : Identifier → Bool)
    → ((i : Identifier) → b i ≡ true → found (Some i) ≡ Some i.name)
    → if_there n (option_and_then name_in (map_typed (λ m. actual.Named m) (or_broken (breach c e) (option_and_then (λ i. if b i then Some i.name else None) o))).tree) ≤ if_there n (found o)
named-by c f e n found None b same = omega arith
named-by c f e n found (Some i) b same = step (b i) refl
  where
    step : (t : Bool) → b i ≡ t
        → if_there n (option_and_then name_in (map_typed (λ m. actual.Named m) (or_broken (breach c e) (if t then Some i.name else None))).tree) ≤ if_there n (found (Some i))
    step true is = let there : if_there n (found (Some i)) ≡ once n i.name = ap (if_there n) (same i is) in omega arith
    step false is = omega arith

-- What an item gives, where the same is found of its identifier alone if that is what the form asks.
pub item-named : (c : Context) (f : ActualForm) (i : Item) (n : List ℕ) (found : Option Identifier → Option (List ℕ)) → AsksName f
    → ((x : Identifier) → fits f (operand_named c.position x) ≡ true → found (Some x) ≡ Some x.name)
    → if_there n (option_and_then name_in (actual_of c f i).tree) ≤ if_there n (found (option_and_then identifier_of (actual_given i)))
item-named c f i n found asks same = by-actual (actual_given i)
  where
    by-actual : (o : Option Expr) → if_there n (option_and_then name_in (actual_if_given c f i o).tree) ≤ if_there n (found (option_and_then identifier_of o))
    by-actual None = omega arith
    by-actual (Some e) =
        let is = named-by c f e n found (identifier_of e) (λ x. fits f (operand_named c.position x)) same in
        omega (arith, is, ap (λ x. if_there n (option_and_then name_in x.tree)) (asks c e))
