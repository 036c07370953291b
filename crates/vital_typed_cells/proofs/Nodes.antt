-- What a node is worth is sound where what the names in it stand for is in a scope, and so are the tables of its calls.
use Rattle.std.proofs.Common.{List, [], ◌∷◌, ◌++◌, map, refl, sym, subst}
use Rattle.std.specs.List.{AllByRecursion, flat_map}
use Rattle.std.proofs.lemmas.List.Elements.{recursion_from_All}
use Rattle.vital_base.specs.declared.place.Place.{Place}
use Rattle.vital_nodes.specs.declared.expr.Actual.TheOpen.{Expr-F}
use Rattle.vital_nodes.specs.declared.expr.Actual.TheViews.{out-Expr}
use Rattle.vital_nodes.specs.declared.expr.Expr.{Expr}
use Rattle.vital_nodes.specs.declared.expr.Reference.{Reference}
use Rattle.vital_nodes.specs.declared.expr.Suffix.{Suffix}
use Rattle.vital_nodes.specs.declared.identifier.Identifier.{Identifier}
use Rattle.vital_nodes.specs.Layers.{ExprLayer}
use Rattle.vital_nodes.specs.Nodes.{Node, Declaration, Interface, Concurrent, Sequential, Expression, Item, Name, parts_in_expr, parts_of}
use Rattle.vital_nodes.specs.Walk.{nodes_of}
use Rattle.vital_nodes.proofs.Walking.{folded-law, nodes-law}
use Rattle.vital_operands.specs.Positions.{Position}
use Rattle.vital_nodes.specs.Items.{actual}
use Rattle.vital_nodes.specs.Names.{identifier_in, identifier_of, if_plain}
use Rattle.std.specs.Prelude.{IfSome, Option, Some, None}
use Rattle.vital_expr.specs.Reading.{Reading, if_given}
use Rattle.vital_expr.specs.Readings.{Context, expr_reading, reading_step, worth}
use Rattle.vital_typed_cells.specs.Calls.{HasTableAt, HasTables}
use Rattle.vital_typed_cells.specs.Positions.{HasIdentifier, HasNameAt, IsScopeOf}
use Rattle.vital_typed_cells.specs.ExprScopes.{Scope}
use Rattle.vital_typed_cells.proofs.Booleans.{boolean-sound}
use Rattle.vital_typed_cells.proofs.Calls.{name-sound}
use Rattle.vital_typed_cells.proofs.Delays.{delay-sound, literal-sound, time-sound}
use Rattle.vital_typed_cells.proofs.Levels.{level-sound}
use Rattle.vital_typed_cells.proofs.Readings.{SoundReading, SoundReadings, broken-sound, first-sound}
use Rattle.vital_typed_cells.proofs.Upwards.{upwards}
use Rattle.vital_typed_cells.proofs.Vectors.{vector-sound}

expr-sound : (s : Scope) (own : List Place) (rs : List Reading) (l : ExprLayer) → SoundReadings s rs → SoundReading s (expr_reading own rs l)
expr-sound s own rs l sound = record {
  level = level-sound s own rs l sound;
  vector = λ asked. vector-sound s own rs asked l sound;
  boolean = boolean-sound s own rs l sound;
  time = time-sound s own rs l sound;
  delay = λ d. delay-sound s own rs d l sound;
  literal = literal-sound own l;
}

given-sound : (s : Scope) (o : Option Expr) (rs : List Reading) → SoundReadings s rs → SoundReading s (if_given o rs)
given-sound s None rs sound = broken-sound s []
given-sound s (Some e) rs sound = first-sound s rs sound

-- What the name at a node and the table of a call there stand for is in a scope.
abbrev pub IsKnownAt : Scope → Context → Node → Type 0
IsKnownAt s c v = HasNameAt s c.position v × HasTableAt s c v

step-sound : (s : Scope) (c : Context) (v : Node) → IsKnownAt s c v → SoundReadings s (map (worth c) (parts_of v)) → SoundReading s (reading_step c v (map (worth c) (parts_of v)))
unfolding parts_of reading_step
step-sound s c (Declaration d) known sound = broken-sound s []
step-sound s c (Interface i) known sound = broken-sound s []
step-sound s c (Concurrent k) known sound = broken-sound s []
step-sound s c (Sequential k) known sound = broken-sound s []
step-sound s c (Expression e) known sound = expr-sound s _ (map (worth c) (parts_of (Expression e))) (out-Expr e) sound
step-sound s c (Item i) known sound = given-sound s (actual i) (map (worth c) (parts_of (Item i))) sound
step-sound s c (Name r) known sound = name-sound s c _ r r.suffixes known.0 refl known.1 sound

-- ---- from parts upwards

-- The same of each node in a node, by recursion.
abbrev pub IsKnown : Scope → Context → Node → Type 0
IsKnown s c v = AllByRecursion (IsKnownAt s c) (nodes_of v)

all-both : {A : Type 0} (P Q : A → Type 0) (xs : List A) → AllByRecursion P xs → AllByRecursion Q xs → AllByRecursion (λ x. P x × Q x) xs
all-both P Q [] first second = tt
all-both P Q (x ∷ xs) first second = ((first.0, second.0), all-both P Q xs first.1 second.1)

pub known-by : (s : Scope) (c : Context) (v : Node) → IsScopeOf s c.position v → HasTables s c v → IsKnown s c v
known-by s c v scope has =
    all-both (HasNameAt s c.position) (HasTableAt s c) (nodes_of v) (recursion_from_All (HasNameAt s c.position) (nodes_of v) scope) (recursion_from_All (HasTableAt s c) (nodes_of v) has)

-- What holds of all nodes of some holds of those of each.
front-all : {A : Type 0} (P : A → Type 0) (xs ys : List A) → AllByRecursion P (xs ++ ys) → AllByRecursion P xs
front-all P [] ys all = tt
front-all P (x ∷ xs) ys all = (all.0, front-all P xs ys all.1)

back-all : {A : Type 0} (P : A → Type 0) (xs ys : List A) → AllByRecursion P (xs ++ ys) → AllByRecursion P ys
back-all P [] ys all = all
back-all P (x ∷ xs) ys all = back-all P xs ys all.1

pub all-nodes : (P : Node → Type 0) (vs : List Node) → AllByRecursion P (flat_map nodes_of vs) → AllByRecursion (λ v. AllByRecursion P (nodes_of v)) vs
all-nodes P [] all = tt
all-nodes P (v ∷ vs) all = (front-all P (nodes_of v) (flat_map nodes_of vs) all, all-nodes P vs (back-all P (nodes_of v) (flat_map nodes_of vs) all))

-- What holds of all nodes of a node holds of itself, and of all nodes of its parts.
pub all-within : (P : Node → Type 0) (v : Node) → AllByRecursion P (nodes_of v) → AllByRecursion P (v ∷ flat_map nodes_of (parts_of v))
all-within P v all = subst (AllByRecursion P) (nodes-law v) all

pub known-here : (s : Scope) (c : Context) (v : Node) → IsKnown s c v → IsKnownAt s c v
known-here s c v known = (all-within (IsKnownAt s c) v known).0

pub known-parts : (s : Scope) (c : Context) (v : Node) → IsKnown s c v → AllByRecursion (IsKnown s c) (parts_of v)
known-parts s c v known = all-nodes (IsKnownAt s c) (parts_of v) (all-within (IsKnownAt s c) v known).1

abbrev IsSoundAt : Scope → Context → Node → Type 0
IsSoundAt s c v = IsKnown s c v → SoundReading s (worth c v)

parts-sound : (s : Scope) (c : Context) (vs : List Node) → AllByRecursion (IsSoundAt s c) vs → AllByRecursion (IsKnown s c) vs → SoundReadings s (map (worth c) vs)
parts-sound s c [] sound known = tt
parts-sound s c (v ∷ vs) sound known = (sound.0 known.0, parts-sound s c vs sound.1 known.1)

node-step : (s : Scope) (c : Context) (v : Node) → AllByRecursion (IsSoundAt s c) (parts_of v) → IsSoundAt s c v
node-step s c v sound known =
    subst (SoundReading s) (sym (folded-law (reading_step c) v)) (step-sound s c v (known-here s c v known) (parts-sound s c (parts_of v) sound (known-parts s c v known)))

pub known-sound : (s : Scope) (c : Context) (v : Node) → IsKnown s c v → SoundReading s (worth c v)
known-sound s c v known = upwards (IsSoundAt s c) (node-step s c) v known

pub node-sound : (s : Scope) (c : Context) (v : Node) → IsScopeOf s c.position v → HasTables s c v → SoundReading s (worth c v)
node-sound s c v scope has = known-sound s c v (known-by s c v scope has)

-- ---- identifiers that names and expressions are

pub name-there : (s : Scope) (p : Position) (r : Reference) → IsScopeOf s p (Name r) → HasIdentifier s p r.identifier
name-there s p r scope = (all-within (HasNameAt s p) (Name r) (recursion_from_All (HasNameAt s p) (nodes_of (Name r)) scope)).0

plain-known : (s : Scope) (p : Position) (i : Identifier) (ss : List Suffix) → HasIdentifier s p i → IfSome (if_plain i ss) (HasIdentifier s p)
plain-known s p i [] known = known
plain-known s p i (t ∷ ss) known = tt

layer-known : (s : Scope) (c : Context) (l : ExprLayer) → AllByRecursion (IsKnown s c) (parts_in_expr l) → IfSome (identifier_in l) (HasIdentifier s c.position)
layer-known s c (Expr-F.Logical place operator operands) known = tt
layer-known s c (Expr-F.Relation r) known = tt
layer-known s c (Expr-F.Sum u) known = tt
layer-known s c (Expr-F.Product p) known = tt
layer-known s c (Expr-F.Not place operand) known = tt
layer-known s c (Expr-F.Number place number) known = tt
layer-known s c (Expr-F.Physical physical) known = tt
layer-known s c (Expr-F.Character place character) known = tt
layer-known s c (Expr-F.StringLiteral place text) known = tt
layer-known s c (Expr-F.Reference name) known = plain-known s c.position name.identifier name.suffixes (known-here s c (Name name) known.0).0
layer-known s c (Expr-F.Parenthesized place is) known = tt

-- What the identifier stands for that an expression is.
pub identifier-known : (s : Scope) (c : Context) (e : Expr) → IsKnown s c (Expression e) → IfSome (identifier_of e) (HasIdentifier s c.position)
unfolding parts_of
identifier-known s c e known = layer-known s c (out-Expr e) (known-parts s c (Expression e) known)
