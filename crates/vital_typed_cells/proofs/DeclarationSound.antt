-- The values of constants and the defaults of variables are sound in a scope of values.
use Rattle.std.proofs.Common.{◌≡◌, ℕ, Bool, true, false, List, [], Option, Some, None, refl, sym, ap, ◌∙◌, subst}
use Rattle.std.specs.Prelude.{cond, nat_le, IfSome}
use Rattle.std.specs.List.{AllByRecursion, filter_map}
use Rattle.std.specs.Option.{option_and_then, option_map, option_map_or}
use Rattle.vital_declarations.specs.Numbers.{Range, length_of}
use Rattle.vital_declarations.specs.Operands.{VariableType, Level, X01, VectorOf, GlitchData, TimingData, PeriodData, variable_type}
use Rattle.vital_declaration_clauses.specs.Scopes.{InCell}
use Rattle.vital_library.specs.Constants.{as_constant, where_constant}
use Rattle.vital_base.specs.declared.place.Place.{Place}
use Rattle.vital_names.specs.Sites.{Cell}
use Rattle.vital_names.specs.Viewpoints.{is_last}
use Rattle.vital_nodes.specs.declared.decl.Decl.{Decl}
use Rattle.vital_nodes.specs.declared.decl.Decl.TheVariants as decl
use Rattle.vital_nodes.specs.declared.decl.Object.{Object}
use Rattle.vital_nodes.specs.declared.decl.ObjectClass.{ObjectClass}
use Rattle.vital_nodes.specs.declared.decl.ObjectClass.TheVariants as class
use Rattle.vital_nodes.specs.declared.expr.Expr.{Expr}
use Rattle.vital_nodes.specs.declared.stmt.Process.{Process}
use Rattle.vital_nodes.specs.Nodes.{Expression}
use Rattle.vital_nodes.specs.Walk.{nodes_of, nodes_of_all}
use Rattle.vital_objects.specs.declared.constant.Constant.{Constant}
use Rattle.vital_objects.specs.declared.constant.ConstantValue.{ConstantValue}
use Rattle.vital_objects.specs.declared.constant.ConstantValue.TheVariants as worth
use Rattle.vital_objects.specs.declared.variable.VariableKind.{VariableKind}
use Rattle.vital_objects.specs.Constants.{constant, constant_value, constant_with, delay_in, value_behind, value_in}
use Rattle.vital_objects.specs.PackageValues.{is_any_table, rows_in}
use Rattle.vital_objects.specs.Ports.{level_in}
use Rattle.vital_objects.specs.Together.{is_last_declaration}
use Rattle.vital_objects.specs.Variables.{as_variable, kind_behind, kind_of, length_asked, variable, variable_kind, variable_with, variables, vector_in, where_variable}
use Rattle.vital_operands.specs.declared.tree.DelayExpr.{DelayExpr}
use Rattle.vital_operands.specs.declared.tree.VectorExpr.{VectorExpr}
use Rattle.vital_operands.specs.Positions.{InValue}
use Rattle.vital_typed_declarations.specs.declared.asked_type.AskedType.{AskedType}
use Rattle.vital_typed_declarations.specs.declared.asked_type.AskedType.TheVariants as asked
use Rattle.vital_typed_declarations.specs.declared.value.TypedValue.{TypedValue}
use Rattle.vital_typed_declarations.specs.declared.value.TypedValue.TheVariants as value
use Rattle.vital_typed_declarations.specs.Asked.{of_object, of_object_class, of_range, of_variable}
use Rattle.vital_typed_declarations.specs.Declarations.{in_value, object_value}
use Rattle.vital_uses.specs.Nodes.{sited_declarations}
use Rattle.vital_table_uses.specs.TableUses.{truth_use_at}
use Rattle.vital_uses.specs.Parts.{asked_of_decl, asked_of_subtype, value_of_decl}
use Rattle.vital_uses.specs.Sited.{Sited}
use Rattle.vital_typed_cells.specs.Trees.{is_sound_level, is_sound_vector}
use Rattle.vital_typed_cells.proofs.Outcomes.{if-and-then}
use Rattle.vital_typed_cells.specs.SoundValues.{HasNamesIn, HasTablesIn, ValueScope, is_sound_value}
use Rattle.vital_typed_cells.proofs.SoundValues.{SoundValue, value-sound}
use Rattle.vital_as_read.specs.AsRead.{IsAsRead}
use Rattle.vital_typed_cells.specs.SoundDeclarations.{is_sound_constant, is_sound_kind}
use Rattle.vital_typed_cells.proofs.Facts.{Meets}
use Rattle.vital_typed_cells.proofs.Found.{all-kept, weaker}
use Rattle.vital_typed_cells.proofs.Lists.{all-both, lasts-have}
use Rattle.vital_typed_cells.proofs.NamedConstants.{DeclFree, FreeAt}
use Rattle.vital_typed_cells.proofs.Packages.{last-nodes}
use Rattle.vital_typed_cells.proofs.Seen.{site_at}
use Rattle.vital_typed_cells.proofs.Tests.{both-true}
use Rattle.vital_typed_cells.proofs.Together.{Pair, pairs}
use Rattle.vital_typed_cells.proofs.TruthTables.{value-tables}
use Rattle.vital_typed_cells.proofs.Uses.{AllFit}
use Rattle.vital_typed_cells.proofs.ValueScopes.{GoodIn, SeesAt, value-names, value-reads, value_scope, values}

-- ---- values

abbrev SoundConstant : ValueScope → ConstantValue → Type 0
SoundConstant s v = is_sound_constant s.names v ≡ true

delay-constant : (s : ValueScope) (a : AskedType) (t : DelayExpr) → is_sound_value s a (value.Delay t) ≡ true → IfSome (delay_in a t) (SoundConstant s)
delay-constant s (asked.Delay d) t sound = sound
delay-constant s other t sound = tt

value-constant : (s : ValueScope) (a : AskedType) (v : TypedValue) → is_sound_value s a v ≡ true → IfSome (value_in a v) (SoundConstant s)
value-constant s a (value.Level t) sound = sound
value-constant s a (value.Vector v) sound = tt
value-constant s a (value.Boolean b) sound = sound
value-constant s a (value.PackageBoolean n) sound = tt
value-constant s a (value.Time t) sound = sound
value-constant s a (value.Delay t) sound = delay-constant s a t sound
value-constant s a value.Text sound = tt
value-constant s a value.Untyped sound = tt
value-constant s a value.Missing sound = tt

table-constant : (s : ValueScope) (o : Option (List (List ℕ))) → IfSome (option_map (λ rows. worth.Table rows) o) (SoundConstant s)
table-constant s None = tt
table-constant s (Some rows) = refl

either-constant : (s : ValueScope) (b : Bool) (o q : Option ConstantValue) → IfSome o (SoundConstant s) → IfSome q (SoundConstant s) → IfSome (cond b o q) (SoundConstant s)
either-constant s true o q first second = first
either-constant s false o q first second = second

-- A declaration at a site from which these constants are seen.
abbrev pub SeenIn : Cell → Option Process → List Constant → Sited Decl → Type 0
SeenIn cell process cs e = (v : Place) × ((e.site ≡ site_at process v) × SeesAt cell process cs v)

-- What is so of a last declaration at its site: what its value names breaks no clause.
abbrev pub LastIn : Cell → Option Process → List Constant → Sited Decl → Type 0
LastIn cell process cs e = SeenIn cell process cs e × (DeclFree cell e × (is_last_declaration e ≡ true))

-- The tables that the value of a last object names.
tables-in : (cell : Cell) (process : Option Process) (cs : List Constant) (e : Sited Decl) (o : Object) → IsAsRead cell → LastIn cell process cs e → e.declaration ≡ decl.Object o
    → IfSome o.parts.value (λ x. AllByRecursion (FreeAt cell e.site) (nodes_of (Expression x))) → HasTablesIn (value_scope cell cs).names (in_value cell [] e.site) o.parts.value
tables-in cell process cs e o read last is free =
    let v : Place = last.0.0 in
    let at : e.site ≡ site_at process v = last.0.1.0 in
    let fits : AllFit cell (filter_map (truth_use_at (in_value cell [] e.site)) (nodes_of_all (value_of_decl (decl.Object o)))) =
    subst (λ d. AllFit cell (filter_map (truth_use_at (in_value cell [] e.site)) (nodes_of_all (value_of_decl d)))) is last.1.0.1 in
    subst (λ s. HasTablesIn (value_scope cell cs).names (in_value cell [] s) o.parts.value) (sym at)
    (value-tables cell (values cell cs) (in_value cell [] (site_at process v)) (FreeAt cell (site_at process v)) o.is_last o.parts.value (sym (ap is_last is) ∙ last.1.1) (value-reads cell process cs v read last.0.1.1)
    (subst (λ s. IfSome o.parts.value (λ x. AllByRecursion (FreeAt cell s) (nodes_of (Expression x)))) at free)
    (subst (λ s. AllFit cell (filter_map (truth_use_at (in_value cell [] s)) (nodes_of_all (value_of_decl (decl.Object o))))) at fits))

names-in : (cell : Cell) (process : Option Process) (cs : List Constant) (e : Sited Decl) (o : Option Expr) → IsAsRead cell → Meets cell → GoodIn cell process → SeenIn cell process cs e → IfSome o (λ x. AllByRecursion (FreeAt cell e.site) (nodes_of (Expression x)))
    → HasNamesIn (value_scope cell cs) (InValue cell e.site) o
names-in cell process cs e o read met good site free =
    subst (λ s. HasNamesIn (value_scope cell cs) (InValue cell s) o) (sym site.1.0)
    (value-names cell process cs site.0 o read met good site.1.1 (subst (λ s. IfSome o (λ x. AllByRecursion (FreeAt cell s) (nodes_of (Expression x)))) site.1.0 free))

-- The value of the object that a last declaration declares.
object-sound : (cell : Cell) (process : Option Process) (cs : List Constant) (e : Sited Decl) (o : Object) → IsAsRead cell → Meets cell → GoodIn cell process → LastIn cell process cs e → e.declaration ≡ decl.Object o
    → IfSome (object_value (in_value cell [] e.site) o).tree (SoundValue (value_scope cell cs) (of_object o))
object-sound cell process cs e o read met good last is =
    let free : IfSome o.parts.value (λ x. AllByRecursion (FreeAt cell e.site) (nodes_of (Expression x))) =
    last-nodes (FreeAt cell e.site) o.is_last (asked_of_subtype o.parts.subtype) o.parts.value (sym (ap is_last is) ∙ last.1.1) (subst (λ d. AllByRecursion (FreeAt cell e.site) (nodes_of_all (asked_of_decl d))) is last.1.0.0) in
    value-sound (value_scope cell cs) (in_value cell [] e.site) (of_object o) o.parts.value (names-in cell process cs e o.parts.value read met good last.0 free) (tables-in cell process cs e o read last is free)

-- ---- constants

constant-sound : (cell : Cell) (process : Option Process) (cs : List Constant) (e : Sited Decl) (o : Object) → IsAsRead cell → Meets cell → GoodIn cell process → LastIn cell process cs e → e.declaration ≡ decl.Object o
    → IfSome (constant_value cell [] e.site o) (SoundConstant (value_scope cell cs))
constant-sound cell process cs e o read met good last is =
    either-constant (value_scope cell cs) (is_any_table o) (option_map (λ rows. worth.Table rows) (rows_in (InCell cell e.site) o)) (option_and_then (value_in (of_object o)) (object_value (in_value cell [] e.site) o).tree)
    (table-constant (value_scope cell cs) (rows_in (InCell cell e.site) o))
    (if-and-then (SoundValue (value_scope cell cs) (of_object o)) (SoundConstant (value_scope cell cs)) (value_in (of_object o)) (object_value (in_value cell [] e.site) o).tree
    (object-sound cell process cs e o read met good last is) (value-constant (value_scope cell cs) (of_object o)))

class-constant : (cell : Cell) (process : Option Process) (cs : List Constant) (e : Sited Decl) (k : ObjectClass) (o : Object) → IsAsRead cell → Meets cell → GoodIn cell process → LastIn cell process cs e → e.declaration ≡ decl.Object o
    → IfSome (option_and_then (constant_value cell [] e.site) (where_constant k o)) (SoundConstant (value_scope cell cs))
class-constant cell process cs e class.Constant o read met good last is = constant-sound cell process cs e o read met good last is
class-constant cell process cs e class.Signal o read met good last is = tt
class-constant cell process cs e class.Variable o read met good last is = tt

declared-constant : (cell : Cell) (process : Option Process) (cs : List Constant) (e : Sited Decl) (d : Decl) → IsAsRead cell → Meets cell → GoodIn cell process → LastIn cell process cs e → e.declaration ≡ d
    → IfSome (option_and_then (constant_value cell [] e.site) (as_constant d)) (SoundConstant (value_scope cell cs))
declared-constant cell process cs e (decl.Attribute identifier type_mark) read met good last is = tt
declared-constant cell process cs e (decl.Specification s) read met good last is = tt
declared-constant cell process cs e (decl.Object o) read met good last is = class-constant cell process cs e o.«class» o read met good last is
declared-constant cell process cs e (decl.Alias a) read met good last is = tt
declared-constant cell process cs e (decl.Component c) read met good last is = tt

behind-constant : (cell : Cell) (process : Option Process) (cs : List Constant) (o : Option (Sited Decl)) → IsAsRead cell → Meets cell → GoodIn cell process → IfSome o (LastIn cell process cs)
    → IfSome (option_and_then (value_behind cell []) o) (SoundConstant (value_scope cell cs))
behind-constant cell process cs None read met good last = tt
behind-constant cell process cs (Some e) read met good last = declared-constant cell process cs e e.declaration read met good last refl

with-value : (s : ValueScope) (o : Option Object) (v : Option ConstantValue) → IfSome v (SoundConstant s) → IfSome (option_and_then (λ q. option_map (λ w. constant_with w q) v) o) (λ k. is_sound_constant s.names k.value ≡ true)
with-value s None v sound = tt
with-value s (Some o) None sound = tt
with-value s (Some o) (Some w) sound = sound

-- The constant that a declaration declares, beside the last of those that are declared together with it.
pub one-constant : (cell : Cell) (process : Option Process) (cs : List Constant) (x : Pair) → IsAsRead cell → Meets cell → GoodIn cell process → IfSome x.1 (LastIn cell process cs)
    → IfSome (constant cell [] x) (λ k. is_sound_constant (value_scope cell cs).names k.value ≡ true)
one-constant cell process cs x read met good last =
    with-value (value_scope cell cs) (as_constant x.0.declaration) (option_and_then (value_behind cell []) x.1) (behind-constant cell process cs x.1 read met good last)

-- ---- variables

abbrev SoundKind : ValueScope → VariableKind → Type 0
SoundKind s k = is_sound_kind s.names k ≡ true

abbrev IsSoundOf : ValueScope → AskedType → Option TypedValue → Type 0
IsSoundOf s a o = IfSome o (SoundValue s a)

level-of : (s : ValueScope) (a : AskedType) (v : TypedValue) → SoundValue s a v → option_map_or (is_sound_level s.names) (level_in v) true ≡ true
level-of s a (value.Level t) sound = sound
level-of s a (value.Vector v) sound = refl
level-of s a (value.Boolean b) sound = refl
level-of s a (value.PackageBoolean n) sound = refl
level-of s a (value.Time t) sound = refl
level-of s a (value.Delay t) sound = refl
level-of s a value.Text sound = refl
level-of s a value.Untyped sound = refl
level-of s a value.Missing sound = refl

level-default : (s : ValueScope) (a : AskedType) (o : Option TypedValue) → IsSoundOf s a o → option_map_or (is_sound_level s.names) (option_and_then level_in o) true ≡ true
level-default s a None sound = refl
level-default s a (Some v) sound = level-of s a v sound

asked-vector : (s : ValueScope) (a : AskedType) (v : VectorExpr) → SoundValue s a (value.Vector v) → is_sound_vector s.names (length_asked a) v ≡ true
asked-vector s (asked.Vector n) v sound = sound
asked-vector s asked.Level v sound = cc
asked-vector s asked.Boolean v sound = cc
asked-vector s asked.BooleanDefault v sound = cc
asked-vector s asked.Time v sound = cc
asked-vector s (asked.Delay d) v sound = cc
asked-vector s asked.Text v sound = cc
asked-vector s asked.Nothing v sound = cc

vector-of : (s : ValueScope) (a : AskedType) (v : TypedValue) → SoundValue s a v → option_map_or (is_sound_vector s.names (length_asked a)) (vector_in v) true ≡ true
vector-of s a (value.Level t) sound = refl
vector-of s a (value.Vector v) sound = asked-vector s a v sound
vector-of s a (value.Boolean b) sound = refl
vector-of s a (value.PackageBoolean n) sound = refl
vector-of s a (value.Time t) sound = refl
vector-of s a (value.Delay t) sound = refl
vector-of s a value.Text sound = refl
vector-of s a value.Untyped sound = refl
vector-of s a value.Missing sound = refl

vector-default : (s : ValueScope) (a : AskedType) (o : Option TypedValue) → IsSoundOf s a o → option_map_or (is_sound_vector s.names (length_asked a)) (option_and_then vector_in o) true ≡ true
vector-default s a None sound = refl
vector-default s a (Some v) sound = vector-of s a v sound

short-if : (b : Bool) (n : ℕ) → nat_le n 256 ≡ b → nat_le (length_asked (cond b (asked.Vector n) asked.Nothing)) 256 ≡ true
short-if true n is = is
short-if false n is = refl

short-range : (r : Range) → nat_le (length_asked (of_range r)) 256 ≡ true
short-range r = short-if (nat_le (length_of r) 256) (length_of r) refl

kind-sound : (s : ValueScope) (a : AskedType) (t : VariableType) (default : Option TypedValue) → of_variable (Some t) ≡ a → IsSoundOf s a default → SoundKind s (kind_of t a default)
kind-sound s a Level default is sound = level-default s a default sound
kind-sound s a X01 default is sound = level-default s a default sound
kind-sound s a (VectorOf r) default is sound =
    both-true (nat_le (length_asked a) 256) (option_map_or (is_sound_vector s.names (length_asked a)) (option_and_then vector_in default) true)
    (subst (λ b. nat_le (length_asked b) 256 ≡ true) is (short-range r)) (vector-default s a default sound)
kind-sound s a GlitchData default is sound = refl
kind-sound s a TimingData default is sound = refl
kind-sound s a PeriodData default is sound = refl

typed-kind : (s : ValueScope) (a : AskedType) (t : Option VariableType) (default : Option TypedValue) → of_variable t ≡ a → IsSoundOf s a default → IfSome (option_map (λ u. kind_of u a default) t) (SoundKind s)
typed-kind s a None default is sound = tt
typed-kind s a (Some t) default is sound = kind-sound s a t default is sound

variable-sound : (cell : Cell) (process : Option Process) (cs : List Constant) (e : Sited Decl) (o : Object) → IsAsRead cell → Meets cell → GoodIn cell process → LastIn cell process cs e → e.declaration ≡ decl.Object o → o.«class» ≡ class.Variable
    → IfSome (variable_kind cell [] e.site o) (SoundKind (value_scope cell cs))
variable-sound cell process cs e o read met good last is variable_there =
    typed-kind (value_scope cell cs) (of_object o) (variable_type o.parts.subtype) (object_value (in_value cell [] e.site) o).tree (sym (ap (λ k. of_object_class k o) variable_there)) (object-sound cell process cs e o read met good last is)

class-variable : (cell : Cell) (process : Option Process) (cs : List Constant) (e : Sited Decl) (k : ObjectClass) (o : Object) → IsAsRead cell → Meets cell → GoodIn cell process → LastIn cell process cs e → e.declaration ≡ decl.Object o → o.«class» ≡ k
    → IfSome (option_and_then (variable_kind cell [] e.site) (where_variable k o)) (SoundKind (value_scope cell cs))
class-variable cell process cs e class.Constant o read met good last is there = tt
class-variable cell process cs e class.Signal o read met good last is there = tt
class-variable cell process cs e class.Variable o read met good last is there = variable-sound cell process cs e o read met good last is there

declared-variable : (cell : Cell) (process : Option Process) (cs : List Constant) (e : Sited Decl) (d : Decl) → IsAsRead cell → Meets cell → GoodIn cell process → LastIn cell process cs e → e.declaration ≡ d
    → IfSome (option_and_then (variable_kind cell [] e.site) (as_variable d)) (SoundKind (value_scope cell cs))
declared-variable cell process cs e (decl.Attribute identifier type_mark) read met good last is = tt
declared-variable cell process cs e (decl.Specification s) read met good last is = tt
declared-variable cell process cs e (decl.Object o) read met good last is = class-variable cell process cs e o.«class» o read met good last is refl
declared-variable cell process cs e (decl.Alias a) read met good last is = tt
declared-variable cell process cs e (decl.Component c) read met good last is = tt

behind-variable : (cell : Cell) (process : Option Process) (cs : List Constant) (o : Option (Sited Decl)) → IsAsRead cell → Meets cell → GoodIn cell process → IfSome o (LastIn cell process cs)
    → IfSome (option_and_then (kind_behind cell []) o) (SoundKind (value_scope cell cs))
behind-variable cell process cs None read met good last = tt
behind-variable cell process cs (Some e) read met good last = declared-variable cell process cs e e.declaration read met good last refl

with-kind : (s : ValueScope) (o : Option Object) (k : Option VariableKind) → IfSome k (SoundKind s) → IfSome (option_and_then (λ q. option_map (λ w. variable_with w q) k) o) (λ v. is_sound_kind s.names v.kind ≡ true)
with-kind s None k sound = tt
with-kind s (Some o) None sound = tt
with-kind s (Some o) (Some w) sound = sound

regroup : (cell : Cell) (p : Process) (cs : List Constant) (o : Option (Sited Decl)) → IfSome o (λ e. (SeenIn cell (Some p) cs e × DeclFree cell e) × (is_last_declaration e ≡ true)) → IfSome o (LastIn cell (Some p) cs)
regroup cell p cs None last = tt
regroup cell p cs (Some e) last = (last.0.0, (last.0.1, last.1))

pub variables-sound : (cell : Cell) (p : Process) (cs : List Constant) → IsAsRead cell → Meets cell → GoodIn cell (Some p) → AllByRecursion (SeenIn cell (Some p) cs) (sited_declarations (Some p) p.declarations)
    → AllByRecursion (DeclFree cell) (sited_declarations (Some p) p.declarations) → AllByRecursion (λ v. is_sound_kind (value_scope cell cs).names v.kind ≡ true) (variables cell [] p)
variables-sound cell p cs read met good seen free =
    all-kept (λ v. is_sound_kind (value_scope cell cs).names v.kind ≡ true) (variable cell []) (pairs (Some p) p.declarations)
    (weaker (λ x. IfSome x.1 (λ e. (SeenIn cell (Some p) cs e × DeclFree cell e) × (is_last_declaration e ≡ true))) (λ x. IfSome (variable cell [] x) (λ v. is_sound_kind (value_scope cell cs).names v.kind ≡ true))
    (λ x last. with-kind (value_scope cell cs) (as_variable x.0.declaration) (option_and_then (kind_behind cell []) x.1) (behind-variable cell (Some p) cs x.1 read met good (regroup cell p cs x.1 last))) (pairs (Some p) p.declarations)
    (lasts-have (λ e. SeenIn cell (Some p) cs e × DeclFree cell e) is_last_declaration (sited_declarations (Some p) p.declarations)
    (all-both (SeenIn cell (Some p) cs) (DeclFree cell) (sited_declarations (Some p) p.declarations) seen free)))
