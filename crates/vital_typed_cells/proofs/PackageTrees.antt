-- The value of a constant of a package is sound in the scope of constants before it.
use Rattle.std.proofs.Common.{◌≡◌, ℕ, Bool, true, false, List, Option, Some, None, refl}
use Rattle.std.specs.Prelude.{◌&&◌, ◌||◌, cond, take, IfSome}
use Rattle.std.specs.List.{AllByRecursion}
use Rattle.std.specs.Option.{option_and_then, option_map, option_map_or}
use Rattle.std.proofs.lemmas.List.Elements.{All-from_recursion}
use Rattle.vital_declaration_clauses.specs.Scopes as scopes
use Rattle.vital_declarations.specs.declared.declared_type.TableType.TheVariants as table
use Rattle.vital_declarations.specs.Types.{type_of}
use Rattle.vital_limits.specs.ConstantLimits.{named_at}
use Rattle.vital_names.specs.Meanings.{constants}
use Rattle.vital_nodes.specs.declared.decl.Object.{Object}
use Rattle.vital_nodes.specs.declared.expr.Expr.{Expr}
use Rattle.vital_nodes.specs.declared.unit.Units.{Units}
use Rattle.vital_nodes.specs.Nodes.{Node, Declaration, Interface, Concurrent, Sequential, Expression, Item, Name}
use Rattle.vital_nodes.specs.Walk.{nodes_of}
use Rattle.vital_objects.specs.declared.package_value.PackageValue.{PackageValue}
use Rattle.vital_objects.specs.declared.package_value.PackageValue.TheVariants as worth
use Rattle.vital_objects.specs.PackageValues.{at_package, known_delay, known_time, known_value, rows_in}
use Rattle.vital_operands.specs.declared.tree.DelayExpr.{DelayExpr}
use Rattle.vital_operands.specs.Named.{is_table_type, same_type}
use Rattle.vital_operands.specs.Positions.{InPackage, Position}
use Rattle.vital_package_constants.specs.Tables.{makes_wrong_at}
use Rattle.vital_timing.specs.declared.delay.Delay.{Delay}
use Rattle.vital_timing.specs.declared.delay.DelayType.{DelayType}
use Rattle.vital_timing.specs.Delays.{type_of as type_of_delay}
use Rattle.vital_typed_declarations.specs.Asked.{of_object}
use Rattle.vital_typed_declarations.specs.declared.asked_type.AskedType.{AskedType}
use Rattle.vital_typed_declarations.specs.declared.asked_type.AskedType.TheVariants as asked
use Rattle.vital_typed_declarations.specs.declared.value.TypedValue.{TypedValue}
use Rattle.vital_typed_declarations.specs.declared.value.TypedValue.TheVariants as value
use Rattle.vital_typed_declarations.specs.Declarations.{object_value}
use Rattle.vital_nodes.specs.Objects.{is_constant}
use Rattle.vital_typed_cells.specs.Positions.{HasNameAt}
use Rattle.vital_typed_cells.specs.ExprScopes.{Scope}
use Rattle.vital_typed_cells.specs.Times.{are_short}
use Rattle.vital_typed_cells.proofs.Anything.{any-tables}
use Rattle.vital_typed_cells.proofs.Outcomes.{if-and-then}
use Rattle.vital_typed_cells.specs.SoundValues.{HasBooleanAt, HasNamesIn, HasTablesIn, ValueScope, is_sound_value}
use Rattle.vital_typed_cells.proofs.SoundValues.{SoundValue, value-sound}
use Rattle.vital_typed_cells.specs.Named.{is_package_delay, is_package_time}
use Rattle.vital_typed_cells.specs.SoundDeclarations.{is_sound_package, names_in_packages}
use Rattle.vital_typed_cells.proofs.Found.{each, weaker}
use Rattle.vital_typed_cells.proofs.Lookups.{IsAt}
use Rattle.vital_typed_cells.proofs.PackageNames.{HasFree, IsIn, node-there}
use Rattle.vital_typed_cells.proofs.PackageTables.{TableAt, value-tables}
use Rattle.vital_typed_cells.proofs.Tests.{second-true}
use Rattle.vital_typed_cells.proofs.Worth.{known-delay, known-time, known_scope, next_at}

-- ---- values

-- A scope in which each constant of a package of type BOOLEAN is one: values of constants name none.
abbrev values_in : Scope → ValueScope
values_in s = record { names = s; has_boolean = λ n. true }

abbrev pub SoundPackage : Scope → PackageValue → Type 0
SoundPackage s w = is_sound_package s w ≡ true

short-time : (s : Scope) (o : Option ℕ) → option_map_or is_package_time (option_map (λ u. worth.Time u) o) false ≡ true → IfSome (option_map (λ u. worth.Time u) o) (SoundPackage s)
short-time s None is = tt
short-time s (Some u) is = is

short-delay : (s : Scope) (d : DelayType) (o : Option Delay) → option_map_or (is_package_delay d) (option_map (λ u. worth.Delay u) o) false ≡ true → IfSome (option_map (λ u. worth.Delay u) o) (SoundPackage s)
short-delay s d None is = tt
short-delay s d (Some u) is = second-true (same_type d (type_of_delay u)) (are_short u) is

delay-sound : (s : Scope) (known : List (Option PackageValue)) (a : AskedType) (t : DelayExpr) → is_sound_value (values_in (known_scope known)) a (value.Delay t) ≡ true → IfSome (option_map (λ u. worth.Delay u) (known_delay known t)) (SoundPackage s)
delay-sound s known (asked.Delay d) t sound = short-delay s d (known_delay known t) (known-delay known d t sound)
delay-sound s known other t sound = absurd (cc)

-- What a value is worth that is sound among those that are known, and in a scope.
typed-sound : (s : Scope) (known : List (Option PackageValue)) (a : AskedType) (v : TypedValue) → SoundValue (values_in (known_scope known)) a v → SoundValue (values_in s) a v → IfSome (known_value known v) (SoundPackage s)
typed-sound s known a (value.Level t) first second = second
typed-sound s known a (value.Vector v) first second = tt
typed-sound s known a (value.Boolean b) first second = second
typed-sound s known a (value.PackageBoolean n) first second = tt
typed-sound s known a (value.Time t) first second = short-time s (known_time known t) (known-time known t first)
typed-sound s known a (value.Delay t) first second = delay-sound s known a t first
typed-sound s known a value.Text first second = tt
typed-sound s known a value.Untyped first second = tt
typed-sound s known a value.Missing first second = tt

pub both-some : {A : Type 0} (P Q : A → Type 0) (o : Option A) → IfSome o P → IfSome o Q → IfSome o (λ x. P x × Q x)
both-some P Q None first second = tt
both-some P Q (Some x) first second = (first, second)

tree-sound : (s : Scope) (known : List (Option PackageValue)) (a : AskedType) (o : Option TypedValue) → IfSome o (SoundValue (values_in (known_scope known)) a) → IfSome o (SoundValue (values_in s) a)
    → IfSome (option_and_then (known_value known) o) (SoundPackage s)
tree-sound s known a o first second =
    if-and-then (λ v. SoundValue (values_in (known_scope known)) a v × SoundValue (values_in s) a v) (SoundPackage s) (known_value known) o
    (both-some (SoundValue (values_in (known_scope known)) a) (SoundValue (values_in s) a) o first second) (λ v both. typed-sound s known a v both.0 both.1)

-- ---- names and tables

boolean-at : (s : Scope) (p : Position) (v : Node) → HasBooleanAt (values_in s) p v
boolean-at s p (Declaration d) = tt
boolean-at s p (Interface i) = tt
boolean-at s p (Concurrent k) = tt
boolean-at s p (Sequential k) = tt
boolean-at s p (Expression e) = tt
boolean-at s p (Item i) = tt
boolean-at s p (Name r) = λ n o is typed. refl

-- All that a value names is free, and no call in it makes a table wrong.
pub record ValueFree (files : List Units) (n : ℕ) (Free : ℕ → Type 0) (e : Expr) : Type 0 where
  pub named : AllByRecursion (λ v. IfSome (named_at files n v) Free) (nodes_of (Expression e))
  pub right : AllByRecursion (λ v. makes_wrong_at files (at_package files n) v ≡ false) (nodes_of (Expression e))

-- What is so of the constants before one.
pub record HasBefore (files : List Units) (n : ℕ) (os : List Object) (Free : ℕ → Type 0) (known seen : List (Option PackageValue)) : Type 0 where
  pub at : AllByRecursion (IsAt 0 os) (take n (constants files))
  pub known_in : HasFree os Free (IsIn (known_scope known))
  pub seen_in : HasFree os Free (IsIn (names_in_packages seen))
  pub tables : HasFree os Free (TableAt files seen)

names-there : (s : Scope) (files : List Units) (n : ℕ) (os : List Object) (Free : ℕ → Type 0) (v : Option Expr) → HasFree os Free (IsIn s) → AllByRecursion (IsAt 0 os) (take n (constants files)) → IfSome v (ValueFree files n Free)
    → HasNamesIn (values_in s) (InPackage files n) v
names-there s files n os Free None has at free = tt
names-there s files n os Free (Some e) has at free = record {
  names =
      All-from_recursion (HasNameAt s (InPackage files n)) (nodes_of (Expression e))
      (weaker (λ v. IfSome (named_at files n v) Free) (HasNameAt s (InPackage files n)) (node-there s files n os Free has at) (nodes_of (Expression e)) free.named);
  booleans = All-from_recursion (HasBooleanAt (values_in s) (InPackage files n)) (nodes_of (Expression e)) (each (HasBooleanAt (values_in s) (InPackage files n)) (boolean-at s (InPackage files n)) (nodes_of (Expression e)));
}

known-tables : (known : List (Option PackageValue)) (files : List Units) (n : ℕ) (v : Option Expr) → HasTablesIn (known_scope known) (at_package files n) v
known-tables known files n None = tt
known-tables known files n (Some e) = any-tables (known_scope known) (at_package files n) (Expression e) (λ name inputs results. refl)

seen-tables : (files : List Units) (n : ℕ) (os : List Object) (Free : ℕ → Type 0) (known seen : List (Option PackageValue)) (v : Option Expr) → HasBefore files n os Free known seen → IfSome v (ValueFree files n Free)
    → HasTablesIn (names_in_packages seen) (at_package files n) v
seen-tables files n os Free known seen None has free = tt
seen-tables files n os Free known seen (Some e) has free = value-tables files n os Free seen e has.tables has.at free.named free.right

-- ---- the value of a constant

chosen : (s : Scope) (b : Bool) (rows : Option (List (List ℕ))) (w : Option PackageValue) → IfSome w (SoundPackage s) → IfSome (cond b (option_map (λ r. worth.Table r) rows) w) (SoundPackage s)
chosen s true None w sound = tt
chosen s true (Some r) w sound = refl
chosen s false rows w sound = sound

pub constant-sound : (files : List Units) (n : ℕ) (os : List Object) (Free : ℕ → Type 0) (known seen : List (Option PackageValue)) (o : Object) → HasBefore files n os Free known seen → IfSome o.parts.value (ValueFree files n Free)
    → IfSome (next_at files known n o) (SoundPackage (names_in_packages seen))
constant-sound files n os Free known seen o has free =
    chosen (names_in_packages seen) (is_constant o && is_table_type table.Truth (type_of o.parts.subtype) || is_constant o && is_table_type table.State (type_of o.parts.subtype)) (rows_in (scopes.InPackage files n) o)
    (option_and_then (known_value known) (object_value (at_package files n) o).tree)
    (tree-sound (names_in_packages seen) known (of_object o) (object_value (at_package files n) o).tree
    (value-sound (values_in (known_scope known)) (at_package files n) (of_object o) o.parts.value (names-there (known_scope known) files n os Free o.parts.value has.known_in has.at free) (known-tables known files n o.parts.value))
    (value-sound (values_in (names_in_packages seen)) (at_package files n) (of_object o) o.parts.value (names-there (names_in_packages seen) files n os Free o.parts.value has.seen_in has.at free)
    (seen-tables files n os Free known seen o.parts.value has free)))
