-- What is given for the formal of a name is the actual of the first item that is for it, where all actuals are of their forms.
use Rattle.std.proofs.Common.{◌≡◌, ℕ, ◌+◌, Bool, true, false, List, [], ◌∷◌, Option, Some, None, refl, ap}
use Rattle.std.specs.Prelude.{cond, find, IsSome}
use Rattle.std.specs.List.{cons_option, enumerate_from, filter_map}
use Rattle.std.proofs.lemmas.Option.{same_Some}
use Rattle.std.specs.Option.{option_and_then, option_map, option_map_or}
use Rattle.std.specs.Str.{bytes_eq}
use Rattle.vital_actuals.specs.declared.actual.Actual.{Actual}
use Rattle.vital_actuals.specs.Actuals.{actual_of}
use Rattle.vital_calls.specs.declared.actual_form.ActualForm.{ActualForm}
use Rattle.vital_calls.specs.Formals.{Formals}
use Rattle.vital_calls.specs.Matching.{actual_of as item_for, form_of, formal_name, is_for}
use Rattle.vital_expr.specs.Outcomes.{Outcome, map_typed}
use Rattle.vital_expr.specs.Readings.{Context}
use Rattle.vital_nodes.specs.declared.expr.Item.{Item as Item'}
use Rattle.vital_typed_statements.specs.declared.given.GivenActual.{GivenActual}
use Rattle.vital_typed_statements.specs.Given.{actual_for, all_given, broken_ones, given_as, given_by, typed_ones}
use Rattle.vital_typed_cells.proofs.ExprTold.{none-before, none-behind}
use Rattle.vital_typed_cells.proofs.ToldActuals.{item-told}

-- The items that are for the formal of a name have this form.
abbrev pub HasForm : Formals → List ℕ → ActualForm → Type 0
HasForm fs name f = (n : ℕ) (i : Item') → is_for name fs n i ≡ true → form_of fs n i ≡ Some f

abbrev pub tree_at : Context → ActualForm → Option (ℕ × Item') → Option Actual
tree_at c f o = option_and_then (λ i. (actual_of c f i).tree) (option_map (λ e. e.1) o)

abbrev pub found_in : List ℕ → List (Outcome GivenActual) → Option Actual
found_in name os = actual_for name (typed_ones os)

-- One more actual that is of its form.
by-test : (c : Context) (f : ActualForm) (name m : List ℕ) (n : ℕ) (i : Item') (b : Bool) (a : Actual) (gs : List GivenActual) (rest : Option (ℕ × Item'))
    → (b ≡ true → Some a ≡ (actual_of c f i).tree)
    → actual_for name gs ≡ tree_at c f rest
    → option_map (λ g. g.actual) (cond b (Some (given_as m a)) (find (λ g. bytes_eq g.formal name) gs)) ≡ tree_at c f (cond b (Some (n, i)) rest)
by-test c f name m n i true a gs rest first others = first refl
by-test c f name m n i false a gs rest first others = others

typed-head : (c : Context) (f : ActualForm) (name m : List ℕ) (n : ℕ) (i : Item') (t : Option Actual) (gs : List GivenActual) (rest : Option (ℕ × Item'))
    → IsSome t
    → (bytes_eq m name ≡ true → t ≡ (actual_of c f i).tree)
    → actual_for name gs ≡ tree_at c f rest
    → actual_for name (cons_option (option_map (given_as m) t) gs) ≡ tree_at c f (cond (bytes_eq m name) (Some (n, i)) rest)
typed-head c f name m n i None gs rest there first others = cc
typed-head c f name m n i (Some a) gs rest there first others = by-test c f name m n i (bytes_eq m name) a gs rest first others

apart : (c : Context) (f : ActualForm) (b : Bool) (e : ℕ × Item') (rest : Option (ℕ × Item')) (x : Option Actual) → (b ≡ true → ◌≡◌ {A = Option ActualForm} None (Some f)) → x ≡ tree_at c f rest → x ≡ tree_at c f (cond b (Some e) rest)
apart c f true e rest x form is = let wrong : ◌≡◌ {A = Option ActualForm} None (Some f) = form refl in cc
apart c f false e rest x form is = is

-- What an item gives whose formal has a form and a name.
abbrev pub gives : Context → Item' → Option ActualForm → Option (List ℕ) → Option (Outcome GivenActual)
gives c i g m = option_and_then (λ h. option_map (λ l. map_typed (given_as l) (actual_of c h i)) m) g

head-found : (c : Context) (f : ActualForm) (name : List ℕ) (n : ℕ) (i : Item') (g : Option ActualForm) (m : Option (List ℕ)) (os : List (Outcome GivenActual)) (rest : Option (ℕ × Item'))
    → c.faults ≡ []
    → (option_map_or (λ l. bytes_eq l name) m false ≡ true → g ≡ Some f)
    → broken_ones (cons_option (gives c i g m) os) ≡ []
    → (broken_ones os ≡ [] → found_in name os ≡ tree_at c f rest)
    → found_in name (cons_option (gives c i g m) os) ≡ tree_at c f (cond (option_map_or (λ l. bytes_eq l name) m false) (Some (n, i)) rest)
head-found c f name n i None None os rest none form whole others = others whole
head-found c f name n i None (Some l) os rest none form whole others = apart c f (bytes_eq l name) (n, i) rest (found_in name os) form (others whole)
head-found c f name n i (Some h) None os rest none form whole others = others whole
head-found c f name n i (Some h) (Some l) os rest none form whole others =
    typed-head c f name l n i (actual_of c h i).tree (typed_ones os) rest
    (item-told c h i none (none-before (actual_of c h i).places (broken_ones os) whole))
    (λ is. let same : h ≡ f = same_Some h f (form is) in ap (λ (x : ActualForm). (actual_of c x i).tree) same)
    (others (none-behind (actual_of c h i).places (broken_ones os) whole))

pub same-found : (c : Context) (fs : Formals) (name : List ℕ) (f : ActualForm) (is : List Item') (n : ℕ) → c.faults ≡ [] → HasForm fs name f → broken_ones (filter_map (given_by c fs) (enumerate_from n is)) ≡ [] → found_in name (filter_map (given_by c fs) (enumerate_from n is)) ≡ tree_at c f (find (λ e. is_for name fs e.0 e.1) (enumerate_from n is))
same-found c fs name f [] n none form whole = refl
same-found c fs name f (i ∷ is) n none form whole =
    head-found c f name n i (form_of fs n i) (formal_name fs n i) (filter_map (given_by c fs) (enumerate_from (n + 1) is)) (find (λ e. is_for name fs e.0 e.1) (enumerate_from (n + 1) is))
    none (form n i) whole (same-found c fs name f is (n + 1) none form)

-- ---- items that are there

or-there : (b : Bool) (e : ℕ × Item') (rest : Option (ℕ × Item')) → IsSome rest → IsSome (cond b (Some e) rest)
or-there true e rest there = refl
or-there false e rest there = there

test-there : (b : Bool) (e : ℕ × Item') (rest : Option (ℕ × Item')) (a : GivenActual) (others : Option GivenActual) → (IsSome (option_map (λ g. g.actual) others) → IsSome rest) → IsSome (option_map (λ g. g.actual) (cond b (Some a) others)) → IsSome (cond b (Some e) rest)
test-there true e rest a others behind there = refl
test-there false e rest a others behind there = behind there

tree-there : (name l : List ℕ) (e : ℕ × Item') (t : Option Actual) (gs : List GivenActual) (rest : Option (ℕ × Item')) → (IsSome (actual_for name gs) → IsSome rest) → IsSome (actual_for name (cons_option (option_map (given_as l) t) gs)) → IsSome (cond (bytes_eq l name) (Some e) rest)
tree-there name l e None gs rest behind there = or-there (bytes_eq l name) e rest (behind there)
tree-there name l e (Some a) gs rest behind there = test-there (bytes_eq l name) e rest (given_as l a) (find (λ g. bytes_eq g.formal name) gs) behind there

head-there : (c : Context) (name : List ℕ) (n : ℕ) (i : Item') (g : Option ActualForm) (m : Option (List ℕ)) (os : List (Outcome GivenActual)) (rest : Option (ℕ × Item')) → (IsSome (found_in name os) → IsSome rest) → IsSome (found_in name (cons_option (gives c i g m) os)) → IsSome (cond (option_map_or (λ l. bytes_eq l name) m false) (Some (n, i)) rest)
head-there c name n i None None os rest behind there = behind there
head-there c name n i None (Some l) os rest behind there = or-there (bytes_eq l name) (n, i) rest (behind there)
head-there c name n i (Some h) None os rest behind there = behind there
head-there c name n i (Some h) (Some l) os rest behind there = tree-there name l (n, i) (actual_of c h i).tree (typed_ones os) rest behind there

found-there : (c : Context) (fs : Formals) (name : List ℕ) (is : List Item') (n : ℕ) → IsSome (found_in name (filter_map (given_by c fs) (enumerate_from n is))) → IsSome (find (λ e. is_for name fs e.0 e.1) (enumerate_from n is))
found-there c fs name [] n there = there
found-there c fs name (i ∷ is) n there =
    head-there c name n i (form_of fs n i) (formal_name fs n i) (filter_map (given_by c fs) (enumerate_from (n + 1) is)) (find (λ e. is_for name fs e.0 e.1) (enumerate_from (n + 1) is)) (found-there c fs name is (n + 1)) there

second-there : (o : Option (ℕ × Item')) → IsSome o → IsSome (option_map (λ e. e.1) o)
second-there None there = there
second-there (Some e) there = refl

-- An item is there for the formal of a name that has an actual.
pub item-of : (c : Context) (fs : Formals) (is : List Item') (name : List ℕ) → IsSome (actual_for name (typed_ones (all_given c fs is))) → IsSome (item_for is fs name)
unfolding item_for
item-of c fs is name there = second-there (find (λ e. is_for name fs e.0 e.1) (enumerate_from 0 is)) (found-there c fs name is 0 there)
