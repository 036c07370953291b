-- Paths are sound where what the names in them stand for is in a scope, and so are the tables of the calls in them.
use Rattle.std.proofs.Common.{◌≡◌, Bool, true, false, List, [], ◌∷◌, ℕ, map, Option, Some, None}
use Rattle.std.specs.Prelude.{◌&&◌, cond, IfSome}
use Rattle.std.specs.List.{AllByRecursion}
use Rattle.std.proofs.lemmas.Option.{IfSome_then}
use Rattle.vital_actuals.specs.declared.actual.Path.{Path}
use Rattle.vital_actuals.specs.Kinds.{name_for}
use Rattle.vital_actuals.specs.Paths.{PathParts, are_listed, change_at, change_in, change_named, change_of, is_last_event, is_named, named_parts, pair_typed, parts_from, parts_of_items, path_given, path_if_given, path_of_item, path_of_parts, path_parts, path_typed, paths_in_list, paths_of, positional_parts, value_behind, value_behind_in, value_named}
use Rattle.vital_calls.specs.declared.actual_form.ActualForm.TheVariants as form
use Rattle.vital_nodes.specs.declared.expr.Actual.TheOpen.{Actual-F, Choice-F, Expr-F, Item-F}
use Rattle.vital_nodes.specs.declared.expr.Actual.TheViews.{out-Actual, out-Choice, out-Expr, out-Item}
use Rattle.vital_nodes.specs.declared.expr.Expr.{Expr}
use Rattle.vital_nodes.specs.declared.expr.Item.{Item as Item'}
use Rattle.vital_nodes.specs.declared.expr.Reference.{Reference}
use Rattle.vital_nodes.specs.Layers.{ActualLayer, ChoiceLayer, ExprLayer, ItemLayer}
use Rattle.vital_nodes.specs.Nodes.{Expression, Item, Name, items, parts_of, parts_in_actual, parts_in_choice, parts_in_expr, parts_in_item}
use Rattle.vital_operands.specs.declared.tree.BooleanExpr.{BooleanExpr}
use Rattle.vital_operands.specs.declared.tree.DelayExpr.{DelayExpr}
use Rattle.vital_operands.specs.Items.{are_positional}
use Rattle.vital_operands.specs.Positions.{Position}
use Rattle.vital_timing.specs.declared.delay.DelayType.{DelayType}
use Rattle.vital_nodes.specs.Items.{actual, actual_in, items_in_expr, listed_items, positional_in, positional_value, value_in_actual, value_in_choice}
use Rattle.vital_expr.specs.Outcomes.{all_typed, both, broken}
use Rattle.vital_expr.specs.Readings.{Context, boolean_of, breach, delay_of}
use Rattle.vital_typed_cells.specs.Positions.{HasIdentifier}
use Rattle.vital_typed_cells.specs.Trees.{is_sound_boolean, is_sound_delay}
use Rattle.vital_typed_cells.proofs.Nodes.{IsKnown, known-here, known-parts, known-sound}
use Rattle.vital_typed_cells.proofs.Outcomes.{IfTyped, if-all, if-and-then, if-both, if-or, if-test}
use Rattle.vital_typed_cells.proofs.ExprTests.{both-true}
use Rattle.vital_typed_cells.specs.ExprScopes.{Scope}
use Rattle.vital_typed_cells.specs.ActualPositions.{IsActualScopeOf}
use Rattle.vital_typed_cells.specs.ActualScopes.{ActualScope}
use Rattle.vital_typed_cells.specs.SoundActuals.{is_sound_name, is_sound_path}
use Rattle.vital_typed_cells.proofs.ActualNames.{name-sound}

-- ---- what items hold

-- What names and tables in an expression stand for.
abbrev pub HasWithin : Scope → Context → Expr → Type 0
HasWithin s c e = IsKnown s c (Expression e)

choice-value : (s : Scope) (c : Context) (l : ChoiceLayer) → AllByRecursion (IsKnown s c) (parts_in_choice l) → IfSome (value_in_choice l) (HasWithin s c)
choice-value s c (Choice-F.Choice::Value e) has = has.0
choice-value s c (Choice-F.Range r) has = tt

actual-value : (s : Scope) (c : Context) (l : ActualLayer) → AllByRecursion (IsKnown s c) (parts_in_actual l) → IfSome (value_in_actual l) (HasWithin s c)
actual-value s c (Actual-F.Actual::Value e) has = has.0
actual-value s c (Actual-F.Actual::Open place) has = tt

given-value : (s : Scope) (c : Context) (l : ItemLayer) → AllByRecursion (IsKnown s c) (parts_in_item l) → IfSome (actual_in l) (HasWithin s c)
given-value s c (Item-F.Others place e) has = has.0
given-value s c (Item-F.Item::Open place) has = tt
given-value s c (Item-F.Positional choice) has = choice-value s c (out-Choice choice) has
given-value s c (Item-F.Named a) has = actual-value s c (out-Actual a.actual) has

position-value : (s : Scope) (c : Context) (l : ItemLayer) → AllByRecursion (IsKnown s c) (parts_in_item l) → IfSome (positional_in l) (HasWithin s c)
position-value s c (Item-F.Others place e) has = tt
position-value s c (Item-F.Item::Open place) has = tt
position-value s c (Item-F.Positional choice) has = choice-value s c (out-Choice choice) has
position-value s c (Item-F.Named a) has = tt

behind-value : (s : Scope) (c : Context) (l : ItemLayer) → AllByRecursion (IsKnown s c) (parts_in_item l) → IfSome (value_behind_in l) (HasWithin s c)
behind-value s c (Item-F.Others place e) has = tt
behind-value s c (Item-F.Item::Open place) has = tt
behind-value s c (Item-F.Positional choice) has = tt
behind-value s c (Item-F.Named a) has = actual-value s c (out-Actual a.actual) has

item-parts : (s : Scope) (c : Context) (i : Item') → IsKnown s c (Item i) → AllByRecursion (IsKnown s c) (parts_in_item (out-Item i))
unfolding parts_of
item-parts s c i has = known-parts s c (Item i) has

pub in-actual : (s : Scope) (c : Context) (i : Item') → IsKnown s c (Item i) → IfSome (actual i) (HasWithin s c)
in-actual s c i has = given-value s c (out-Item i) (item-parts s c i has)

in-position : (s : Scope) (c : Context) (i : Item') → IsKnown s c (Item i) → IfSome (positional_value i) (HasWithin s c)
in-position s c i has = position-value s c (out-Item i) (item-parts s c i has)

if-named : {A : Type 0} (P : A → Type 0) (b : Bool) (o : Option A) → IfSome o P → IfSome (cond b o None) P
if-named P true o holds = holds
if-named P false o holds = tt

in-name : (s : Scope) (c : Context) (name : List ℕ) (i : Item') → IsKnown s c (Item i) → IfSome (value_named name i) (HasWithin s c)
in-name s c name i has = if-named (HasWithin s c) (is_named name i) (value_behind i) (behind-value s c (out-Item i) (item-parts s c i has))

abbrev pub HasItems : Scope → Context → List Item' → Type 0
HasItems s c is = AllByRecursion (λ i. IsKnown s c (Item i)) is

each-item : (s : Scope) (c : Context) (is : List Item') → AllByRecursion (IsKnown s c) (items is) → HasItems s c is
each-item s c [] has = tt
each-item s c (i ∷ is) has = (has.0, each-item s c is has.1)

layer-items : (s : Scope) (c : Context) (l : ExprLayer) → AllByRecursion (IsKnown s c) (parts_in_expr l) → IfSome (items_in_expr l) (HasItems s c)
layer-items s c (Expr-F.Logical place operator operands) has = tt
layer-items s c (Expr-F.Relation r) has = tt
layer-items s c (Expr-F.Sum u) has = tt
layer-items s c (Expr-F.Product p) has = tt
layer-items s c (Expr-F.Not place operand) has = tt
layer-items s c (Expr-F.Number place number) has = tt
layer-items s c (Expr-F.Physical physical) has = tt
layer-items s c (Expr-F.Character place character) has = tt
layer-items s c (Expr-F.StringLiteral place text) has = tt
layer-items s c (Expr-F.Reference name) has = tt
layer-items s c (Expr-F.Parenthesized place is) has = each-item s c is has

in-items : (s : Scope) (c : Context) (e : Expr) → HasWithin s c e → IfSome (listed_items e) (HasItems s c)
unfolding parts_of
in-items s c e has = layer-items s c (out-Expr e) (known-parts s c (Expression e) has)

-- ---- the parts of a path

abbrev HasParts : Scope → Context → PathParts → Type 0
HasParts s c q = HasWithin s c q.change × (HasWithin s c q.delay × HasWithin s c q.condition)

from-parts : (s : Scope) (c : Context) (change delay condition : Option Expr) → IfSome change (HasWithin s c) → IfSome delay (HasWithin s c) → IfSome condition (HasWithin s c) → IfSome (parts_from change delay condition) (HasParts s c)
from-parts s c None d b change delay condition = tt
from-parts s c (Some e) None b change delay condition = tt
from-parts s c (Some e) (Some d) None change delay condition = tt
from-parts s c (Some e) (Some d) (Some b) change delay condition = (change, (delay, condition))

one-of : {A : Type 0} (P : A → Type 0) (b : Bool) (o q : Option A) → IfSome o P → IfSome q P → IfSome (cond b o q) P
one-of P true o q first second = first
one-of P false o q first second = second

items-parts : (s : Scope) (c : Context) (is : List Item') → HasItems s c is → IfSome (parts_of_items is) (HasParts s c)
items-parts s c [] has = tt
items-parts s c (i ∷ []) has = tt
items-parts s c (i ∷ j ∷ []) has = tt
items-parts s c (i ∷ j ∷ k ∷ []) has =
    one-of (HasParts s c) (are_positional (i ∷ j ∷ k ∷ [])) (positional_parts i j k) (named_parts i j k)
    (from-parts s c _ _ _ (in-position s c i has.0) (in-position s c j has.1.0) (in-position s c k has.1.1.0))
    (from-parts s c _ _ _ (in-name s c _ i has.0) (in-name s c _ j has.1.0) (in-name s c _ k has.1.1.0))
items-parts s c (i ∷ j ∷ k ∷ l ∷ is) has = tt

expr-parts : (s : Scope) (c : Context) (e : Expr) → HasWithin s c e → IfSome (path_parts e) (HasParts s c)
expr-parts s c e has = if-and-then (HasItems s c) (HasParts s c) parts_of_items (listed_items e) (in-items s c e has) (items-parts s c)

-- ---- when an input changed

abbrev SoundChange : ActualScope → List ℕ → Type 0
SoundChange s n = is_sound_name s form.Signal n ≡ true

change-name : (s : ActualScope) (p : Position) (r : Reference) → IsActualScopeOf s p → HasIdentifier s.names p r.identifier → IfSome (change_named p r) (SoundChange s)
change-name s p r scope known = if-named (SoundChange s) (is_last_event r.suffixes) (name_for p form.Signal r.identifier) (name-sound s p form.Signal r.identifier scope known)

change-layer : (s : ActualScope) (c : Context) (l : ExprLayer) → IsActualScopeOf s c.position → AllByRecursion (IsKnown s.names c) (parts_in_expr l) → IfSome (change_in c.position l) (SoundChange s)
change-layer s c (Expr-F.Logical place operator operands) scope known = tt
change-layer s c (Expr-F.Relation r) scope known = tt
change-layer s c (Expr-F.Sum u) scope known = tt
change-layer s c (Expr-F.Product q) scope known = tt
change-layer s c (Expr-F.Not place operand) scope known = tt
change-layer s c (Expr-F.Number place number) scope known = tt
change-layer s c (Expr-F.Physical physical) scope known = tt
change-layer s c (Expr-F.Character place character) scope known = tt
change-layer s c (Expr-F.StringLiteral place text) scope known = tt
change-layer s c (Expr-F.Reference name) scope known = change-name s c.position name scope (known-here s.names c (Name name) known.0).0
change-layer s c (Expr-F.Parenthesized place is) scope known = tt

change-sound : (s : ActualScope) (c : Context) (e : Expr) → IsActualScopeOf s c.position → HasWithin s.names c e → IfTyped (SoundChange s) (change_of c e)
unfolding parts_of
change-sound s c e scope known = if-or (SoundChange s) (breach c e) (change_at c.position e) (change-layer s c (out-Expr e) scope (known-parts s.names c (Expression e) known))

-- ---- paths

abbrev pub SoundPath : ActualScope → DelayType → Path → Type 0
SoundPath s d p = is_sound_path s.names d p ≡ true

abbrev SoundPair : ActualScope → DelayType → (DelayExpr × BooleanExpr) → Type 0
SoundPair s d q = (is_sound_delay s.names d q.0 && is_sound_boolean s.names q.1) ≡ true

parts-sound : (s : ActualScope) (c : Context) (d : DelayType) (q : PathParts) → IsActualScopeOf s c.position → HasParts s.names c q → IfTyped (SoundPath s d) (path_of_parts c d q)
parts-sound s c d q scope has =
    if-both (SoundChange s) (SoundPair s d) (SoundPath s d) path_typed (change_of c q.change) (both pair_typed (delay_of c d q.delay) (boolean_of c q.condition))
    (change-sound s c q.change scope has.0)
    (if-both (λ t. is_sound_delay s.names d t ≡ true) (λ t. is_sound_boolean s.names t ≡ true) (SoundPair s d) pair_typed (delay_of c d q.delay) (boolean_of c q.condition)
    ((known-sound s.names c (Expression q.delay) has.1.0).delay d)
    (known-sound s.names c (Expression q.condition) has.1.1).boolean
    (λ t u first second. both-true (is_sound_delay s.names d t) (is_sound_boolean s.names u) first second))
    (λ n p first second. both-true (s.names.has_signal n) (is_sound_delay s.names d p.0 && is_sound_boolean s.names p.1) first second)

given-path : (s : ActualScope) (c : Context) (d : DelayType) (e : Expr) (o : Option PathParts) → IsActualScopeOf s c.position → IfSome o (HasParts s.names c) → IfTyped (SoundPath s d) (path_given c d e o)
given-path s c d e None scope has = tt
given-path s c d e (Some q) scope has = parts-sound s c d q scope has

value-path : (s : ActualScope) (c : Context) (d : DelayType) (o : Option Expr) → IsActualScopeOf s c.position → IfSome o (HasWithin s.names c) → IfTyped (SoundPath s d) (path_if_given c d o)
value-path s c d None scope has = tt
value-path s c d (Some e) scope has = given-path s c d e (path_parts e) scope (expr-parts s.names c e has)

each-path : (s : ActualScope) (c : Context) (d : DelayType) (is : List Item') → IsActualScopeOf s c.position → HasItems s.names c is → AllByRecursion (IfTyped (SoundPath s d)) (map (path_of_item c d) is)
each-path s c d [] scope has = tt
each-path s c d (i ∷ is) scope has = (value-path s c d (actual i) scope (in-actual s.names c i has.0), each-path s c d is scope has.1)

-- Paths, each of which is sound.
abbrev pub SoundPaths : ActualScope → DelayType → List Path → Type 0
SoundPaths s d ps = AllByRecursion (SoundPath s d) ps

listed-paths : (s : ActualScope) (c : Context) (d : DelayType) (e : Expr) (o : Option (List Item')) → IsActualScopeOf s c.position → IfSome o (HasItems s.names c) → IfTyped (SoundPaths s d) (paths_in_list c d e o)
listed-paths s c d e None scope has = tt
listed-paths s c d e (Some is) scope has =
    if-test (SoundPaths s d) (are_listed is) (all_typed (map (path_of_item c d) is)) (broken (breach c e))
    (λ h. IfSome_then (all_typed (map (path_of_item c d) is)).tree (if-all (SoundPath s d) (map (path_of_item c d) is) (each-path s c d is scope has)) (λ ts hold. hold.0))
    (λ h. tt)

pub paths-sound : (s : ActualScope) (c : Context) (d : DelayType) (e : Expr) → IsActualScopeOf s c.position → HasWithin s.names c e → IfTyped (SoundPaths s d) (paths_of c d e)
paths-sound s c d e scope has = listed-paths s c d e (listed_items e) scope (in-items s.names c e has)
