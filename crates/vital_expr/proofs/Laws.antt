-- What expressions are worth, by their forms: the law of folds, with the parts of each form taken apart.
use Rattle.std.proofs.Common.{◌≡◌, ℕ, Bool, ◌||◌, List, [], ◌∷◌, ◌++◌, map, Option, Some, if◌then◌else◌, refl, ap, sym, ◌∙◌}
use Rattle.std.proofs.lemmas.List.{append-nil}
use Rattle.std.specs.List.{flat_map, list_any}
use Rattle.vital_base.specs.declared.place.Place.{Place}
use Rattle.vital_nodes.specs.declared.expr.Actual.TheOpen.{Actual-F, Choice-F, Expr-F, Item-F, Suffix-F}
use Rattle.vital_nodes.specs.declared.expr.Actual.TheViews.{out-Actual, out-Choice, out-Expr, out-Item, out-Suffix}
use Rattle.vital_nodes.specs.declared.expr.Expr.{Expr}
use Rattle.vital_nodes.specs.declared.expr.Item.{Item as Item'}
use Rattle.vital_nodes.specs.declared.expr.Reference.{Reference}
use Rattle.vital_nodes.specs.declared.expr.Suffix.{Suffix}
use Rattle.vital_nodes.specs.Layers.{ActualLayer, ChoiceLayer, ExprLayer, ItemLayer, SuffixLayer}
use Rattle.vital_nodes.specs.Nodes.{Expression, Item, Name, parts_of, parts_in_actual, parts_in_choice, parts_in_expr, parts_in_item, parts_in_suffix, parts_of_suffix, items}
use Rattle.vital_nodes.specs.Places.{place_in_expr, place_of_name}
use Rattle.vital_nodes.specs.Walk.{nodes_of}
use Rattle.vital_nodes.proofs.Walking.{folded-law, nodes-law}
use Rattle.vital_operands.specs.Calls.{only_items}
use Rattle.vital_operands.specs.Faults.{has_fault, is_faulty, is_faulty_in, own_breach}
use Rattle.vital_timing.specs.declared.delay.DelayType.{DelayType}
use Rattle.vital_nodes.specs.Items.{actual_in, value_in_actual, value_in_choice}
use Rattle.vital_nodes.specs.Names.{items_in}
use Rattle.vital_expr.specs.Names.{level_of_items, name_in, vector_of_items}
use Rattle.vital_expr.specs.Reading.{Reading, broken_reading, if_given}
use Rattle.vital_expr.specs.Readings.{Context, breach, expr_reading, reading, reading_step, worth}
use Rattle.vital_expr.specs.Steps.{boolean_by_form, delay_by_form, is_boolean_by_form, item_reading, item_readings, level_by_form, literal_by_form, name_reading, reading_if_given, readings_if_there, readings_in, text_by_form, time_by_form, vector_by_form}

-- A function of each of a list of things that are made of others.
map-of-map : {A B C : Type 0} (f : B → C) (g : A → B) (xs : List A) → map f (map g xs) ≡ map (λ x. f (g x)) xs
map-of-map f g [] = refl
map-of-map f g (x ∷ xs) = ap (λ ys. f (g x) ∷ ys) (map-of-map f g xs)

-- An item is worth what its value is, which is its first part.
choice-law : (c : Context) (l : ChoiceLayer) → if_given (value_in_choice l) (map (worth c) (parts_in_choice l)) ≡ reading_if_given c (value_in_choice l)
choice-law c (Choice-F.Choice::Value e) = refl
choice-law c (Choice-F.Range r) = refl

actual-law : (c : Context) (l : ActualLayer) → if_given (value_in_actual l) (map (worth c) (parts_in_actual l)) ≡ reading_if_given c (value_in_actual l)
actual-law c (Actual-F.Actual::Value e) = refl
actual-law c (Actual-F.Actual::Open place) = refl

given-law : (c : Context) (l : ItemLayer) → if_given (actual_in l) (map (worth c) (parts_in_item l)) ≡ reading_if_given c (actual_in l)
given-law c (Item-F.Others place e) = refl
given-law c (Item-F.Item::Open place) = refl
given-law c (Item-F.Positional choice) = choice-law c (out-Choice choice)
given-law c (Item-F.Named a) = actual-law c (out-Actual a.actual)

item-law : (c : Context) (i : Item') → worth c (Item i) ≡ item_reading c i
unfolding parts_of reading_step
item-law c i = folded-law (reading_step c) (Item i) ∙ given-law c (out-Item i)

items-law : (c : Context) (is : List Item') → map (worth c) (items is) ≡ item_readings c is
items-law c [] = refl
items-law c (i ∷ is) = ap (λ r. r ∷ map (worth c) (items is)) (item-law c i) ∙ ap (λ rs. item_reading c i ∷ rs) (items-law c is)

-- A name has a fault where the expression that it is has one, and stands where that does.
has-law : (faults : List Place) (e : Expr) (r : Reference) → out-Expr e ≡ Expr-F.Reference r → has_fault faults (Expression e) ≡ has_fault faults (Name r)
unfolding parts_of
has-law faults e r is =
    ap (list_any (is_faulty faults)) (nodes-law (Expression e))
    ∙ ap (λ (l : ExprLayer). is_faulty_in faults l || list_any (is_faulty faults) (flat_map nodes_of (parts_in_expr l))) is
    ∙ ap (list_any (is_faulty faults)) (append-nil (nodes_of (Name r)))

breach-law : (c : Context) (e : Expr) (r : Reference) → out-Expr e ≡ Expr-F.Reference r → own_breach c.faults (place_of_name r) (Name r) ≡ breach c e
breach-law c e r is =
    ap (λ (b : Bool). if b then [] else place_of_name r ∷ []) (sym (has-law c.faults e r is))
    ∙ ap (λ (l : ExprLayer). if has_fault c.faults (Expression e) then [] else place_in_expr l ∷ []) (sym is)

abbrev by_items : List Place → Context → Reference → Option (List Item') → List Reading → Reading
by_items own c r o rs = record (broken_reading own) {
  level = level_of_items own c.position r o rs;
  vector = λ asked. vector_of_items own c.position asked r o rs;
}

suffix-law : (own : List Place) (c : Context) (r : Reference) (l : SuffixLayer) → by_items own c r (items_in l) (map (worth c) (parts_in_suffix l ++ [])) ≡ by_items own c r (items_in l) (readings_if_there c (items_in l))
suffix-law own c r (Suffix-F.Selected identifier) = refl
suffix-law own c r (Suffix-F.All place) = refl
suffix-law own c r (Suffix-F.Attribute identifier) = refl
suffix-law own c r (Suffix-F.Qualified is) = refl
suffix-law own c r (Suffix-F.Items is) = ap (by_items own c r (Some is)) (ap (map (worth c)) (append-nil (items is)) ∙ items-law c is)

suffixes-law : (own : List Place) (c : Context) (r : Reference) (ss : List Suffix) → name_in own c.position r (map (worth c) (flat_map parts_of_suffix ss)) ss ≡ name_in own c.position r (readings_if_there c (only_items ss)) ss
suffixes-law own c r [] = refl
suffixes-law own c r (s ∷ []) = suffix-law own c r (out-Suffix s)
suffixes-law own c r (s ∷ t ∷ ss) = refl

-- What a name is worth in an expression that is this name.
name-law : (c : Context) (e : Expr) (r : Reference) → out-Expr e ≡ Expr-F.Reference r → worth c (Name r) ≡ name_reading (breach c e) c r
unfolding parts_of reading_step
name-law c e r is =
    folded-law (reading_step c) (Name r)
    ∙ suffixes-law (own_breach c.faults (place_of_name r) (Name r)) c r r.suffixes
    ∙ ap (λ (own : List Place). name_reading own c r) (breach-law c e r is)

parts-law : (c : Context) (e : Expr) (l : ExprLayer) → out-Expr e ≡ l → map (worth c) (parts_in_expr l) ≡ readings_in c (breach c e) l
parts-law c e (Expr-F.Logical place operator operands) is = map-of-map (worth c) (λ e. Expression e) operands
parts-law c e (Expr-F.Relation r) is = refl
parts-law c e (Expr-F.Sum s) is = ap (λ rs. reading c s.first ∷ rs) (map-of-map (worth c) (λ term. Expression term.1) s.others)
parts-law c e (Expr-F.Product p) is = ap (λ rs. reading c p.first ∷ rs) (map-of-map (worth c) (λ factor. Expression factor.1) p.others)
parts-law c e (Expr-F.Not place operand) is = refl
parts-law c e (Expr-F.Number place number) is = refl
parts-law c e (Expr-F.Physical physical) is = refl
parts-law c e (Expr-F.Character place character) is = refl
parts-law c e (Expr-F.StringLiteral place text) is = refl
parts-law c e (Expr-F.Reference name) is = ap (λ r. r ∷ []) (name-law c e name is)
parts-law c e (Expr-F.Parenthesized place is') is = items-law c is'

reading-law : (c : Context) (e : Expr) → reading c e ≡ expr_reading (breach c e) (readings_in c (breach c e) (out-Expr e)) (out-Expr e)
unfolding parts_of reading_step
reading-law c e =
    folded-law (reading_step c) (Expression e)
    ∙ ap (λ (rs : List Reading). expr_reading (breach c e) rs (out-Expr e)) (parts-law c e (out-Expr e) refl)

pub text_law : (c : Context) (e : Expr) → (reading c e).text ≡ text_by_form c e
text_law c e = ap (λ (r : Reading). r.text) (reading-law c e)

pub boolean_law : (c : Context) (e : Expr) → (reading c e).boolean ≡ boolean_by_form c e
boolean_law c e = ap (λ (r : Reading). r.boolean) (reading-law c e)

pub is_boolean_law : (c : Context) (e : Expr) → (reading c e).is_boolean ≡ is_boolean_by_form c e
is_boolean_law c e = ap (λ (r : Reading). r.is_boolean) (reading-law c e)

pub time_law : (c : Context) (e : Expr) → (reading c e).time ≡ time_by_form c e
time_law c e = ap (λ (r : Reading). r.time) (reading-law c e)

pub delay_law : (c : Context) (d : DelayType) (e : Expr) → (reading c e).delay d ≡ delay_by_form c d e
delay_law c d e = ap (λ (r : Reading). r.delay d) (reading-law c e)

pub level_law : (c : Context) (e : Expr) → (reading c e).level ≡ level_by_form c e
level_law c e = ap (λ (r : Reading). r.level) (reading-law c e)

pub vector_law : (c : Context) (asked : Option ℕ) (e : Expr) → (reading c e).vector asked ≡ vector_by_form c asked e
vector_law c asked e = ap (λ (r : Reading). r.vector asked) (reading-law c e)

pub literal_law : (c : Context) (e : Expr) → (reading c e).literal ≡ literal_by_form c e
literal_law c e = ap (λ (r : Reading). r.literal) (reading-law c e)
