-- Names with parentheses behind them are sound where what stands in these is, and the table of a call is in the scope.
use Rattle.std.proofs.Common.{◌≡◌, ℕ, ◌-◌, ◌<◌, Bool, true, false, List, [], ◌∷◌, ◌++◌, length, map, Option, Some, None, refl, ap, sym, subst, ◌∙◌, arith}
use Rattle.std.specs.Prelude.{◌==◌, if◌then◌else◌, IfSome}
use Rattle.std.specs.List.{flat_map}
use Rattle.std.specs.Option.{option_and_then, option_map}
use Rattle.std.proofs.lemmas.Bool.Decides.{nat_tests}
use Rattle.std.proofs.lemmas.List.{append-nil, length-map}
use Rattle.vital_base.specs.declared.place.Place.{Place}
use Rattle.vital_calls.specs.Formals.{input_count}
use Rattle.vital_names.specs.declared.predeclared.Function.{Function}
use Rattle.vital_names.specs.declared.predeclared.Function.TheVariants as function
use Rattle.vital_nodes.specs.declared.expr.Actual.TheOpen.{Actual-F, Choice-F, Item-F, Suffix-F}
use Rattle.vital_nodes.specs.declared.expr.Actual.TheViews.{out-Actual, out-Choice, out-Item, out-Suffix}
use Rattle.vital_nodes.specs.declared.expr.Expr.{Expr}
use Rattle.vital_nodes.specs.declared.expr.Item.{Item as Item'}
use Rattle.vital_nodes.specs.declared.expr.Reference.{Reference}
use Rattle.vital_nodes.specs.declared.expr.Suffix.{Suffix}
use Rattle.vital_nodes.specs.Layers.{ActualLayer, ChoiceLayer, ItemLayer, SuffixLayer}
use Rattle.vital_nodes.specs.Nodes.{Node, Item, items, parts_of, parts_in_actual, parts_in_choice, parts_in_item, parts_in_suffix, parts_of_suffix}
use Rattle.vital_nodes.proofs.Walking.{folded-law}
use Rattle.vital_operands.specs.declared.tree.ConstantName.{ConstantName}
use Rattle.vital_operands.specs.declared.tree.LevelExpr.TheVariants as level
use Rattle.vital_operands.specs.declared.tree.TruthTableCall.{TruthTableCall}
use Rattle.vital_operands.specs.declared.tree.VectorExpr.{VectorExpr}
use Rattle.vital_operands.specs.declared.tree.VectorExpr.TheVariants as vector
use Rattle.vital_operands.specs.Calls.{both_actuals, function_named, in_order, is_truth_table, only_items, table_actuals, table_first}
use Rattle.vital_operands.specs.Items.{are_positional, are_values}
use Rattle.vital_operands.specs.Named.{table_named}
use Rattle.vital_nodes.specs.Items.{actual, actual_in, value_in_actual, value_in_choice}
use Rattle.vital_nodes.specs.Names.{identifier_of, items_in}
use Rattle.vital_expr.specs.Names.{called, element_of, level_of_function, level_of_items, name_in, one_result, ordered_call, some_results, table_actual, table_call, truth_table_call, vector_of_function, vector_of_items}
use Rattle.vital_expr.specs.Outcomes.{both, both_by, broken, map_typed, or_broken, typed}
use Rattle.vital_expr.specs.Reading.{Reading, broken_reading, first_of, if_given, levels_of}
use Rattle.vital_expr.specs.Readings.{Context, reading_step, worth}
use Rattle.vital_expr.specs.Steps.{reading_if_given}
use Rattle.vital_expr.specs.Vectors.{if_vector_fits, length_of}
use Rattle.vital_typed_cells.specs.Calls.{HasActuals, HasTable, HasTableOf}
use Rattle.vital_typed_cells.specs.Positions.{HasIdentifier}
use Rattle.vital_typed_cells.specs.ExprScopes.{Scope}
use Rattle.vital_typed_cells.proofs.ExprNames.{element-sound, plain-sound}
use Rattle.vital_typed_cells.proofs.Outcomes.{IfTyped, EachOf, if-mapped, if-or, if-test, if-then}
use Rattle.vital_typed_cells.proofs.Readings.{SoundReading, SoundReadings, SoundVector, first-sound, levels-sound}
use Rattle.vital_typed_cells.proofs.ExprTests.{first-true, number-is}
use Rattle.vital_typed_cells.proofs.ExprTrees.{SoundLevel, is_sound_call, sound-call, sound-conversion, sound-primitive, sound-result, sound-results}
use Rattle.vital_typed_cells.proofs.Vectors.{vector-fitting}

-- ---- what an item is worth

choice-law : (c : Context) (l : ChoiceLayer) → if_given (value_in_choice l) (map (worth c) (parts_in_choice l)) ≡ reading_if_given c (value_in_choice l)
choice-law c (Choice-F.Choice::Value e) = refl
choice-law c (Choice-F.Range r) = refl

actual-law : (c : Context) (l : ActualLayer) → if_given (value_in_actual l) (map (worth c) (parts_in_actual l)) ≡ reading_if_given c (value_in_actual l)
actual-law c (Actual-F.Actual::Value e) = refl
actual-law c (Actual-F.Actual::Open place) = refl

given-law : (c : Context) (l : ItemLayer) → if_given (actual_in l) (map (worth c) (parts_in_item l)) ≡ reading_if_given c (actual_in l)
given-law c (Item-F.Others place e) = refl
given-law c (Item-F.Item::Open place) = refl
given-law c (Item-F.Positional choice) = choice-law c (out-Choice choice)
given-law c (Item-F.Named a) = actual-law c (out-Actual a.actual)

-- An item is worth what its value is.
pub item-law : (c : Context) (i : Item') → worth c (Item i) ≡ reading_if_given c (actual i)
unfolding parts_of reading_step
item-law c i = folded-law (reading_step c) (Item i) ∙ given-law c (out-Item i)

-- ---- calls of VitalTruthTable

-- A call with so many results, if there are any.
abbrev SoundCall : Scope → (TruthTableCall × ℕ) → Type 0
SoundCall s q = 0 < q.1 → is_sound_call s q.0 q.1 ≡ true

called-sound : (s : Scope) (own ps : List Place) (t : Option (ConstantName × ℕ)) (v : Option VectorExpr) → HasTable s t v → IfSome v (SoundVector s None) → IfTyped (SoundCall s) (both_by called (or_broken own t).tree v ps)
called-sound s own ps None v has holds = tt
called-sound s own ps (Some t) None has holds = tt
called-sound s own ps (Some t) (Some v) has holds = λ there. sound-call s t.0 v (t.1 - length_of v) holds.holds (has (t.1 - length_of v) there (omega arith))

no-inputs : (s : Scope) (t : Option (ConstantName × ℕ)) → HasTable s t None
no-inputs s None = tt
no-inputs s (Some t) = tt

actuals-sound : (s : Scope) (c : Context) (own : List Place) (a b : Option Expr)
    → IfSome (option_and_then (λ table. option_map (λ inputs. record { table = table; inputs = inputs }) b) a) (HasActuals s c)
    → IfTyped (SoundVector s None) ((reading_if_given c b).vector None)
    → IfTyped (SoundCall s) (both called (or_broken own (option_and_then (table_named c.position) (option_and_then identifier_of a))) ((reading_if_given c b).vector None))
actuals-sound s c own None b has holds = tt
actuals-sound s c own (Some e) None has holds = called-sound s own _ (option_and_then (table_named c.position) (identifier_of e)) None (no-inputs s (option_and_then (table_named c.position) (identifier_of e))) tt
actuals-sound s c own (Some e) (Some g) has holds = called-sound s own _ (option_and_then (table_named c.position) (identifier_of e)) ((reading_if_given c (Some g)).vector None).tree has holds

table-sound : (s : Scope) (c : Context) (i j : Item') → IfSome (both_actuals i j) (HasActuals s c) → SoundReading s (worth c (Item j)) → IfTyped (SoundCall s) (table_call c.position i (worth c (Item i)) (worth c (Item j)))
table-sound s c i j has sound =
    subst (λ (r : Reading). IfTyped (SoundCall s) (both called (table_actual c.position i (worth c (Item i))) (r.vector None))) (sym (item-law c j))
    (actuals-sound s c (worth c (Item i)).own (actual i) (actual j) has (subst (λ (r : Reading). IfTyped (SoundVector s None) (r.vector None)) (item-law c j) (sound.vector None)))

ordered-sound : (s : Scope) (c : Context) (own : List Place) (o : Option Bool) (i j : Item') → IfSome (option_and_then (in_order i j) o) (HasActuals s c) → SoundReading s (worth c (Item i)) → SoundReading s (worth c (Item j)) → IfTyped (SoundCall s) (ordered_call own c.position o i (worth c (Item i)) j (worth c (Item j)))
ordered-sound s c own (Some true) i j has first second = table-sound s c i j has second
ordered-sound s c own (Some false) i j has first second = table-sound s c j i has first
ordered-sound s c own None i j has first second = tt

table-call-sound : (s : Scope) (c : Context) (own : List Place) (is : List Item') → IfSome (table_actuals is) (HasActuals s c) → SoundReadings s (map (worth c) (items is)) → IfTyped (SoundCall s) (truth_table_call own c.position is (map (worth c) (items is)))
table-call-sound s c own [] has sound = tt
table-call-sound s c own (i ∷ []) has sound = tt
table-call-sound s c own (i ∷ j ∷ []) has sound = ordered-sound s c own (table_first (i ∷ j ∷ [])) i j has sound.0 sound.1.0
table-call-sound s c own (i ∷ j ∷ k ∷ is) has sound = tt

result-sound : (s : Scope) (own : List Place) (q : TruthTableCall × ℕ) → SoundCall s q → IfTyped (SoundLevel s) (one_result own q)
result-sound s own q holds =
    if-test (SoundLevel s) (q.1 == 1) (typed (level.TruthTable q.0)) (broken own)
    (λ h. let is : q.1 ≡ 1 = grind (arith, nat_tests) in sound-result s q.0 (subst (λ n. is_sound_call s q.0 n ≡ true) is (holds (omega arith))))
    (λ h. tt)

results-sound : (s : Scope) (own : List Place) (asked : Option ℕ) (q : TruthTableCall × ℕ) → SoundCall s q → IfTyped (SoundVector s asked) (some_results own asked q)
results-sound s own asked q holds =
    if-test (SoundVector s asked) (q.1 == 0) (broken own) (if_vector_fits own asked (vector.TruthTable q.0 q.1))
    (λ h. tt)
    (λ h. vector-fitting s own asked (vector.TruthTable q.0 q.1) (sound-results s q.0 q.1 (holds (grind (arith, nat_tests)))))

-- The table of a call of VitalTruthTable with these items.
table-of : (s : Scope) (c : Context) (r : Reference) (is : List Item') → function_named c.position r.identifier ≡ Some function.TruthTable → only_items r.suffixes ≡ Some is → HasTableOf s c r → IfSome (table_actuals is) (HasActuals s c)
table-of s c r is means behind has =
    subst (λ (o : Option (List Item')). IfSome (option_and_then table_actuals o) (HasActuals s c))
    (ap (λ (f : Option Function). if is_truth_table f then only_items r.suffixes else None) means ∙ behind) has

-- ---- calls of functions, and elements

-- So many values by position are so many levels.
count-law : (s : Scope) (c : Context) (n : ℕ) (is : List Item') → are_values n is ≡ true → length (map (λ (r : Reading). r.level) (map (worth c) (items is))) ≡ n
count-law s c n is are =
    let count : (length is == n) ≡ true = first-true (length is == n) (are_positional is) are in
    length-map (map (worth c) (items is)) (λ r. r.level) ∙ length-map (items is) (worth c) ∙ length-map is (λ i. Item i) ∙ number-is (length is) n count

level-function : (s : Scope) (c : Context) (own : List Place) (r : Reference) (is : List Item') (f : Option Function) → HasIdentifier s c.position r.identifier → function_named c.position r.identifier ≡ f → only_items r.suffixes ≡ Some is → HasTableOf s c r → SoundReadings s (map (worth c) (items is)) → IfTyped (SoundLevel s) (level_of_function own c.position r is (map (worth c) (items is)) f)
level-function s c own r is (Some (function.Primitive p)) named means behind has sound =
    if-test (SoundLevel s) (are_values (input_count p) is) (map_typed (λ ts. level.Primitive p ts) (levels_of (map (worth c) (items is)))) (broken own)
    (λ h. if-mapped (EachOf (SoundLevel s) (map (λ r. r.level) (map (worth c) (items is)))) (SoundLevel s) (λ ts. level.Primitive p ts) (levels_of (map (worth c) (items is))) (levels-sound s (map (worth c) (items is)) sound)
    (λ ts hold. sound-primitive s p ts (hold.1 ∙ count-law s c (input_count p) is h) hold.0))
    (λ h. tt)
level-function s c own r is (Some (function.Conversion k)) named means behind has sound =
    if-test (SoundLevel s) (are_values 1 is) (map_typed (λ t. level.Conversion k t) (first_of (map (worth c) (items is))).level) (broken own)
    (λ h. if-mapped (SoundLevel s) (SoundLevel s) (λ t. level.Conversion k t) (first_of (map (worth c) (items is))).level (first-sound s (map (worth c) (items is)) sound).level (sound-conversion s k))
    (λ h. tt)
level-function s c own r is (Some function.TruthTable) named means behind has sound =
    if-then (SoundCall s) (SoundLevel s) (one_result own) (truth_table_call own c.position is (map (worth c) (items is)))
    (table-call-sound s c own is (table-of s c r is means behind has) sound) (result-sound s own)
level-function s c own r is None named means behind has sound = if-or (SoundLevel s) own (element_of c.position r) (element-sound s c.position r named)

vector-function : (s : Scope) (c : Context) (own : List Place) (asked : Option ℕ) (r : Reference) (is : List Item') (f : Option Function) → function_named c.position r.identifier ≡ f → only_items r.suffixes ≡ Some is → HasTableOf s c r → SoundReadings s (map (worth c) (items is)) → IfTyped (SoundVector s asked) (vector_of_function own c.position asked is (map (worth c) (items is)) f)
vector-function s c own asked r is (Some (function.Primitive p)) means behind has sound = tt
vector-function s c own asked r is (Some (function.Conversion k)) means behind has sound = tt
vector-function s c own asked r is (Some function.TruthTable) means behind has sound =
    if-then (SoundCall s) (SoundVector s asked) (some_results own asked) (truth_table_call own c.position is (map (worth c) (items is)))
    (table-call-sound s c own is (table-of s c r is means behind has) sound) (results-sound s own asked)
vector-function s c own asked r is None means behind has sound = tt

-- ---- names

-- What is behind a name, where the items in its parentheses have these readings.
abbrev behind_reading : List Place → Context → Reference → Option (List Item') → List Reading → Reading
behind_reading own c r o rs = record (broken_reading own) {
  level = level_of_items own c.position r o rs;
  vector = λ asked. vector_of_items own c.position asked r o rs;
}

items-sound : (s : Scope) (c : Context) (own : List Place) (r : Reference) (is : List Item') → HasIdentifier s c.position r.identifier → only_items r.suffixes ≡ Some is → HasTableOf s c r → SoundReadings s (map (worth c) (items is)) → SoundReading s (behind_reading own c r (Some is) (map (worth c) (items is)))
items-sound s c own r is named behind has sound = record {
  level = level-function s c own r is (function_named c.position r.identifier) named refl behind has sound;
  vector = λ asked. vector-function s c own asked r is (function_named c.position r.identifier) refl behind has sound;
  boolean = tt;
  time = tt;
  delay = λ d. tt;
  literal = tt;
}

no-items : (s : Scope) (c : Context) (own : List Place) (r : Reference) (rs : List Reading) → SoundReading s (behind_reading own c r None rs)
no-items s c own r rs = record { level = tt; vector = λ asked. tt; boolean = tt; time = tt; delay = λ d. tt; literal = tt }

suffix-sound : (s : Scope) (c : Context) (own : List Place) (r : Reference) (l : SuffixLayer) → HasIdentifier s c.position r.identifier → only_items r.suffixes ≡ items_in l → HasTableOf s c r → SoundReadings s (map (worth c) (parts_in_suffix l ++ [])) → SoundReading s (behind_reading own c r (items_in l) (map (worth c) (parts_in_suffix l ++ [])))
suffix-sound s c own r (Suffix-F.Selected identifier) named behind has sound = no-items s c own r []
suffix-sound s c own r (Suffix-F.All place) named behind has sound = no-items s c own r []
suffix-sound s c own r (Suffix-F.Attribute identifier) named behind has sound = no-items s c own r []
suffix-sound s c own r (Suffix-F.Qualified is) named behind has sound = no-items s c own r (map (worth c) (items is ++ []))
suffix-sound s c own r (Suffix-F.Items is) named behind has sound =
    subst (λ (vs : List Node). SoundReading s (behind_reading own c r (Some is) (map (worth c) vs))) (sym (append-nil (items is)))
    (items-sound s c own r is named behind has (subst (λ (vs : List Node). SoundReadings s (map (worth c) vs)) (append-nil (items is)) sound))

pub name-sound : (s : Scope) (c : Context) (own : List Place) (r : Reference) (ss : List Suffix) → HasIdentifier s c.position r.identifier → r.suffixes ≡ ss → HasTableOf s c r → SoundReadings s (map (worth c) (flat_map parts_of_suffix ss)) → SoundReading s (name_in own c.position r (map (worth c) (flat_map parts_of_suffix ss)) ss)
name-sound s c own r [] named are has sound = plain-sound s own c.position r.identifier named
name-sound s c own r (t ∷ []) named are has sound = suffix-sound s c own r (out-Suffix t) named (ap only_items are) has sound
name-sound s c own r (t ∷ u ∷ ss) named are has sound = no-items s c own r (map (worth c) (flat_map parts_of_suffix (t ∷ u ∷ ss)))
