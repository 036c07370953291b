-- What a name stands for is in a scope, where what is declared is in it, and a constant of a package that it means.
use Rattle.std.proofs.Common.{◌≡◌, ◌<◌, ℕ, Bool, true, false, List, [], ◌∷◌, map, Option, Some, None, refl, ap, subst}
use Rattle.std.specs.Prelude.{cond, IfSome}
use Rattle.std.specs.List.{AllByRecursion}
use Rattle.std.specs.Option.{option_and_then, option_map_or}
use Rattle.std.specs.Ordering.{is_lt}
use Rattle.std.specs.declared.cmp.Ordering.{Ordering}
use Rattle.std.specs.declared.cmp.Ordering.TheVariants.{Less, Equal, Greater}
use Rattle.std.proofs.lemmas.Cmp.{nat_cmp_total, on_total, then_total}
use Rattle.std.proofs.lemmas.Slice.Eq.{bytes_eq-Decides}
use Rattle.vital_base.specs.declared.place.Place.{Place}
use Rattle.vital_base.specs.Places.{compare_places, is_before}
use Rattle.vital_declarations.specs.Numbers.{length_of, number, offset_of}
use Rattle.vital_declarations.specs.Operands.{AliasTarget, OperandKind, NoOperand, Signal, Port, VariableOf, ConstantOf, Generic, AliasOf, VariableType, Level, X01, VectorOf, GlitchData, TimingData, PeriodData, alias_target, constant_target, declared_element, declared_target, element_of, element_target, is_of_levels, is_scalar, literal_index, object_element, object_kind, object_target, offset_in, offset_in_type, operand_kind, site_of_alias, target_at, target_by, variable_target, variable_type, whole_target}
use Rattle.vital_declarations.specs.Operands as target
use Rattle.vital_declarations.specs.Types.{type_of}
use Rattle.vital_names.specs.declared.site.CellUnit.TheVariants.{Architecture}
use Rattle.vital_names.specs.Declarations.{Declared, identifier_of, interface_of}
use Rattle.vital_names.specs.Declarations as declared
use Rattle.vital_names.specs.Meanings.{Meaning, meaning}
use Rattle.vital_names.specs.Meanings as meanings
use Rattle.vital_names.specs.Sites.{Cell, Site}
use Rattle.vital_nodes.specs.declared.decl.Alias.{Alias}
use Rattle.vital_nodes.specs.declared.decl.Object.{Object}
use Rattle.vital_nodes.specs.declared.decl.ObjectClass.{ObjectClass}
use Rattle.vital_nodes.specs.declared.decl.ObjectClass.TheVariants as class
use Rattle.vital_nodes.specs.declared.expr.Suffix.{Suffix}
use Rattle.vital_nodes.specs.declared.identifier.Identifier.{Identifier}
use Rattle.vital_nodes.specs.declared.stmt.Process.{Process}
use Rattle.vital_operands.specs.declared.tree.ConstantName.TheVariants as constant
use Rattle.vital_operands.specs.Positions.{Position, InStatement, InValue, InInterface, Standing, Operand, Constant, Word, Nothing, changes, standing_of}
use Rattle.vital_typed_cells.specs.Positions.{HasConstant, HasIdentifier, HasOperand, HasStanding, HasTarget}
use Rattle.vital_typed_cells.specs.ExprScopes.{Scope}
use Rattle.vital_typed_cells.proofs.ExprNames.{offset-inside}
use Rattle.vital_typed_cells.proofs.Found.{all-mapped, both-lists, each, weaker}
use Rattle.vital_typed_cells.proofs.Seen.{Before, Declares, IfPackaged, Means, interface-has, meaning-has, site_at, site_of_interface}

-- ---- what is asked of a scope

abbrev pub IsPackaged : Scope → ℕ → Object → Type 0
IsPackaged s n o = HasConstant s (constant.Package n) (type_of o.parts.subtype)

-- What is declared is in a scope, as far as it may be an operand at a position; an alias stands before a place, and a constant of a package
-- that it names is in the scope.
abbrev pub IsIn : Scope → Position → Cell → Option Process → Place → Declared → Type 0
IsIn s p cell process v (declared.Generic i) = HasOperand s p i.identifier.name (Generic (type_of i.parts.subtype))
IsIn s p cell process v (declared.Port i) = HasOperand s p i.identifier.name (Port i.parts.mode (type_of i.parts.subtype))
IsIn s p cell process v (declared.Object o) = HasOperand s p o.identifier.name (object_kind o.«class» o)
IsIn s p cell process v (declared.Alias a) =
    (is_before a.identifier.place v ≡ true) × IfPackaged (IsPackaged s) (meaning a.target.identifier.name cell (site_at process a.identifier.place))

-- ---- places

is-less : (o : Ordering) → is_lt o ≡ true → o ≡ Less
is-less Less is = refl
is-less Equal is = cc
is-less Greater is = cc

pub before-both : (a b c : Place) → is_before a b ≡ true → is_before b c ≡ true → is_before a c ≡ true
before-both a b c first second =
    ap is_lt ((then_total (on_total (λ p. p.file) nat_cmp_total) (then_total (on_total (λ p. p.line) nat_cmp_total) (on_total (λ p. p.column) nat_cmp_total))).trans a b c
    (is-less (compare_places a b) first) (is-less (compare_places b c) second))

narrower : (P : Declared → Type 0) (w v : Place) → is_before w v ≡ true → (ds : List Declared) → AllByRecursion (Before P v) ds → AllByRecursion (Before P w) ds
narrower P w v before ds all = weaker (Before P v) (Before P w) (λ d has. λ is. has (before-both (identifier_of d).place w v is before)) ds all

process-narrower : (P : Declared → Type 0) (w v : Place) → is_before w v ≡ true → (o : Option Process) → IfSome o (λ q. AllByRecursion (Before P v) (declared.declared_in q.declarations))
    → IfSome o (λ q. AllByRecursion (Before P w) (declared.declared_in q.declarations))
process-narrower P w v before None has = tt
process-narrower P w v before (Some q) has = narrower P w v before (declared.declared_in q.declarations) has

-- What an alias sees is among what is seen where the alias is.
earlier : (P : Declared → Type 0) (cell : Cell) (process : Option Process) (w v : Place) → is_before w v ≡ true → Declares P cell process v → Declares P cell process w
earlier P cell process w v before has = record {
  in_process = process-narrower P w v before process has.in_process;
  in_arch = narrower P w v before (declared.body_of cell.arch) has.in_arch;
  in_entity = has.in_entity;
}

-- ---- what aliases name

if-target : (s : Scope) (p : Position) (b : Bool) (t : AliasTarget) → (b ≡ true → HasTarget s p t) → HasTarget s p (cond b t target.NoTarget)
if-target s p true t has = has refl
if-target s p false t has = tt

scalar-there : (s : Scope) (p : Position) (name : List ℕ) (t : Option VariableType) → HasOperand s p name (option_map_or (λ u. VariableOf u) t NoOperand) → option_map_or is_scalar t false ≡ true → changes p ≡ true → s.has_variable name ≡ true
scalar-there s p name None has is changing = cc
scalar-there s p name (Some Level) has is changing = has changing
scalar-there s p name (Some X01) has is changing = has changing
scalar-there s p name (Some (VectorOf r)) has is changing = cc
scalar-there s p name (Some GlitchData) has is changing = cc
scalar-there s p name (Some TimingData) has is changing = cc
scalar-there s p name (Some PeriodData) has is changing = cc

object-whole : (s : Scope) (p : Position) (k : ObjectClass) (o : Object) → HasOperand s p o.identifier.name (object_kind k o) → HasTarget s p (object_target k o)
object-whole s p class.Constant o has = if-target s p (is_of_levels o) (target.Constant o) (λ is. has.levels is)
object-whole s p class.Signal o has = tt
object-whole s p class.Variable o has =
    if-target s p (option_map_or is_scalar (variable_type o.parts.subtype) false) (target.Variable o)
    (λ is. λ changing. scalar-there s p o.identifier.name (variable_type o.parts.subtype) has is changing)

offset-there : (s : Scope) (p : Position) (o : Object) (length : ℕ) (n : Option ℕ) → (changes p ≡ true → (m : ℕ) → m < length → s.has_element o.identifier.name m ≡ true) → IfSome n (λ m. m < length)
    → HasTarget s p (option_map_or (λ m. target.Element o m) n target.NoTarget)
offset-there s p o length None has inside = tt
offset-there s p o length (Some m) has inside = λ changing. has changing m inside

element-there : (s : Scope) (p : Position) (o : Object) (index : List ℕ) (t : Option VariableType) → HasOperand s p o.identifier.name (option_map_or (λ u. VariableOf u) t NoOperand)
    → HasTarget s p (option_map_or (λ m. target.Element o m) (option_and_then (λ u. offset_in_type u (number index)) t) target.NoTarget)
element-there s p o index None has = tt
element-there s p o index (Some Level) has = tt
element-there s p o index (Some X01) has = tt
element-there s p o index (Some (VectorOf r)) has = offset-there s p o (length_of r) (offset_of r (number index)) (λ changing. (has changing).elements) (offset-inside r.direction r.left r.right (number index))
element-there s p o index (Some GlitchData) has = tt
element-there s p o index (Some TimingData) has = tt
element-there s p o index (Some PeriodData) has = tt

object-part : (s : Scope) (p : Position) (k : ObjectClass) (o : Object) (index : List ℕ) → HasOperand s p o.identifier.name (object_kind k o) → HasTarget s p (object_element k o index)
object-part s p class.Constant o index has = tt
object-part s p class.Signal o index has = tt
object-part s p class.Variable o index has = element-there s p o index (variable_type o.parts.subtype) has

declared-whole : (s : Scope) (p : Position) (cell : Cell) (process : Option Process) (v : Place) (d : Declared) → IsIn s p cell process v d → HasTarget s p (declared_target d)
declared-whole s p cell process v (declared.Generic i) has = tt
declared-whole s p cell process v (declared.Port i) has = tt
declared-whole s p cell process v (declared.Object o) has = object-whole s p o.«class» o has
declared-whole s p cell process v (declared.Alias a) has = tt

declared-part : (s : Scope) (p : Position) (cell : Cell) (process : Option Process) (v : Place) (d : Declared) (index : List ℕ) → IsIn s p cell process v d → HasTarget s p (declared_element d index)
declared-part s p cell process v (declared.Generic i) index has = tt
declared-part s p cell process v (declared.Port i) index has = tt
declared-part s p cell process v (declared.Object o) index has = object-part s p o.«class» o index has
declared-part s p cell process v (declared.Alias a) index has = tt

meant-whole : (s : Scope) (p : Position) (cell : Cell) (process : Option Process) (v : Place) (name : List ℕ) (m : Meaning) → Means (IsIn s p cell process v) (IsPackaged s) name m → HasTarget s p (whole_target m)
meant-whole s p cell process v name (meanings.Declared d) has = declared-whole s p cell process v d has.0
meant-whole s p cell process v name (meanings.Constant n o) has = if-target s p (is_of_levels o) (target.PackageConstant n o) (λ is. has.levels is)
meant-whole s p cell process v name (meanings.Predeclared w) has = tt

meant-part : (s : Scope) (p : Position) (cell : Cell) (process : Option Process) (v : Place) (name index : List ℕ) (m : Meaning) → Means (IsIn s p cell process v) (IsPackaged s) name m → HasTarget s p (element_target index m)
meant-part s p cell process v name index (meanings.Declared d) has = declared-part s p cell process v d index has.0
meant-part s p cell process v name index (meanings.Constant n o) has = tt
meant-part s p cell process v name index (meanings.Predeclared w) has = tt

index-part : (s : Scope) (p : Position) (cell : Cell) (process : Option Process) (v : Place) (name : List ℕ) (o : Option (List ℕ)) (m : Meaning) → Means (IsIn s p cell process v) (IsPackaged s) name m → HasTarget s p (option_map_or (λ index. element_target index m) o target.NoTarget)
index-part s p cell process v name None m has = tt
index-part s p cell process v name (Some index) m has = meant-part s p cell process v name index m has

target-there : (s : Scope) (p : Position) (cell : Cell) (process : Option Process) (v : Place) (name : List ℕ) (ss : List Suffix) (o : Option Meaning) → IfSome o (Means (IsIn s p cell process v) (IsPackaged s) name) → HasTarget s p (option_map_or (target_by ss) o target.NoTarget)
target-there s p cell process v name ss None has = tt
target-there s p cell process v name [] (Some m) has = meant-whole s p cell process v name m has
target-there s p cell process v name (x ∷ ss) (Some m) has = index-part s p cell process v name (literal_index (x ∷ ss)) m has

alias-there : (s : Scope) (p : Position) (cell : Cell) (process : Option Process) (v : Place) (a : Alias) → IsIn s p cell process v (declared.Alias a) → Declares (IsIn s p cell process v) cell process v
    → HasTarget s p (alias_target cell (site_at process v) a)
alias-there s p cell process v a is has =
    target-there s p cell process v a.target.identifier.name a.target.suffixes (meaning a.target.identifier.name cell (site_at process a.identifier.place))
    (meaning-has (IsIn s p cell process v) (IsPackaged s) a.target.identifier.name cell process a.identifier.place (earlier (IsIn s p cell process v) cell process a.identifier.place v is.0 has) is.1)

-- ---- what names stand for

operand-there : (s : Scope) (p : Position) (cell : Cell) (process : Option Process) (v : Place) (d : Declared) → IsIn s p cell process v d → Declares (IsIn s p cell process v) cell process v → HasOperand s p (identifier_of d).name (operand_kind cell (site_at process v) d)
operand-there s p cell process v (declared.Generic i) is has = is
operand-there s p cell process v (declared.Port i) is has = is
operand-there s p cell process v (declared.Object o) is has = is
operand-there s p cell process v (declared.Alias a) is has = alias-there s p cell process v a is has

-- What a name stands for by its meaning.
abbrev StandsFor : Cell → Site → Meaning → Standing
StandsFor cell site (meanings.Declared d) = Operand (operand_kind cell site d)
StandsFor cell site (meanings.Constant n o) = Constant n o
StandsFor cell site (meanings.Predeclared w) = Word w

meant-there : (s : Scope) (p : Position) (cell : Cell) (process : Option Process) (v : Place) (name : List ℕ) (m : Meaning) → Means (IsIn s p cell process v) (IsPackaged s) name m → Declares (IsIn s p cell process v) cell process v
    → HasStanding s p name (StandsFor cell (site_at process v) m)
meant-there s p cell process v name (meanings.Declared d) is has =
    subst (λ n. HasOperand s p n (operand_kind cell (site_at process v) d)) ((bytes_eq-Decides (identifier_of d).name name).0 is.1) (operand-there s p cell process v d is.0 has)
meant-there s p cell process v name (meanings.Constant n o) is has = is
meant-there s p cell process v name (meanings.Predeclared w) is has = tt

maybe-there : (s : Scope) (p : Position) (cell : Cell) (process : Option Process) (v : Place) (name : List ℕ) (o : Option Meaning) → IfSome o (Means (IsIn s p cell process v) (IsPackaged s) name) → Declares (IsIn s p cell process v) cell process v
    → HasStanding s p name (option_map_or (StandsFor cell (site_at process v)) o Nothing)
maybe-there s p cell process v name None is has = tt
maybe-there s p cell process v name (Some m) is has = meant-there s p cell process v name m is has

stands-there : (s : Scope) (p : Position) (cell : Cell) (process : Option Process) (v : Place) (name : List ℕ) → Declares (IsIn s p cell process v) cell process v → IfPackaged (IsPackaged s) (meaning name cell (site_at process v))
    → HasStanding s p name (option_map_or (StandsFor cell (site_at process v)) (meaning name cell (site_at process v)) Nothing)
stands-there s p cell process v name has packaged =
    maybe-there s p cell process v name (meaning name cell (site_at process v)) (meaning-has (IsIn s p cell process v) (IsPackaged s) name cell process v has packaged) has

-- ---- positions

by-statement : (s : Scope) (cell : Cell) (process : Option Process) (i : Identifier) (name : List ℕ) (o : Option Meaning)
    → HasStanding s (InStatement cell Architecture process) name (option_map_or (StandsFor cell (site_at process i.place)) o Nothing)
    → HasStanding s (InStatement cell Architecture process) name (option_map_or (standing_of (InStatement cell Architecture process) i) o Nothing)
by-statement s cell process i name None has = tt
by-statement s cell process i name (Some (meanings.Declared d)) has = has
by-statement s cell process i name (Some (meanings.Constant n o)) has = has
by-statement s cell process i name (Some (meanings.Predeclared w)) has = tt

by-value : (s : Scope) (cell : Cell) (site : Site) (i : Identifier) (name : List ℕ) (o : Option Meaning)
    → HasStanding s (InValue cell site) name (option_map_or (StandsFor cell site) o Nothing)
    → HasStanding s (InValue cell site) name (option_map_or (standing_of (InValue cell site) i) o Nothing)
by-value s cell site i name None has = tt
by-value s cell site i name (Some (meanings.Declared d)) has = has
by-value s cell site i name (Some (meanings.Constant n o)) has = has
by-value s cell site i name (Some (meanings.Predeclared w)) has = tt

-- A statement sees what stands before each name in it.
pub statement-scope : (s : Scope) (cell : Cell) (process : Option Process) (i : Identifier) → Declares (IsIn s (InStatement cell Architecture process) cell process i.place) cell process i.place
    → IfPackaged (IsPackaged s) (meaning i.name cell (site_at process i.place)) → HasIdentifier s (InStatement cell Architecture process) i
statement-scope s cell process i has packaged =
    by-statement s cell process i i.name (meaning i.name cell (site_at process i.place)) (stands-there s (InStatement cell Architecture process) cell process i.place i.name has packaged)

-- A value sees what stands before its site.
pub value-scope : (s : Scope) (cell : Cell) (process : Option Process) (v : Place) (i : Identifier) → Declares (IsIn s (InValue cell (site_at process v)) cell process v) cell process v
    → IfPackaged (IsPackaged s) (meaning i.name cell (site_at process v)) → HasIdentifier s (InValue cell (site_at process v)) i
value-scope s cell process v i has packaged =
    by-value s cell (site_at process v) i i.name (meaning i.name cell (site_at process v)) (stands-there s (InValue cell (site_at process v)) cell process v i.name has packaged)

-- ---- interfaces

abbrev Unused : Scope → Cell → Place → Declared → Type 0
Unused s cell v d = HasOperand s (InInterface cell (site_of_interface v)) (identifier_of d).name (operand_kind cell (site_of_interface v) d)

unused : (s : Scope) (cell : Cell) (v : Place) → AllByRecursion (Before (Unused s cell v) v) (interface_of cell.entity)
unused s cell v =
    both-lists (Before (Unused s cell v) v) (map (λ i. declared.Generic i) cell.entity.generics) (map (λ i. declared.Port i) cell.entity.ports)
    (all-mapped (Before (Unused s cell v) v) (λ i. declared.Generic i) cell.entity.generics (each (λ i. Before (Unused s cell v) v (declared.Generic i)) (λ i before has. cc) cell.entity.generics))
    (all-mapped (Before (Unused s cell v) v) (λ i. declared.Port i) cell.entity.ports (each (λ i. Before (Unused s cell v) v (declared.Port i)) (λ i before changing. cc) cell.entity.ports))

by-interface : (s : Scope) (cell : Cell) (v : Place) (i : Identifier) (o : Option Meaning) → IfSome o (Means (Unused s cell v) (IsPackaged s) i.name)
    → HasStanding s (InInterface cell (site_of_interface v)) i.name (option_map_or (standing_of (InInterface cell (site_of_interface v)) i) o Nothing)
by-interface s cell v i None has = tt
by-interface s cell v i (Some (meanings.Declared d)) has =
    subst (λ n. HasOperand s (InInterface cell (site_of_interface v)) n (operand_kind cell (site_of_interface v) d)) ((bytes_eq-Decides (identifier_of d).name i.name).0 has.1) has.0
by-interface s cell v i (Some (meanings.Constant n o)) has = has
by-interface s cell v i (Some (meanings.Predeclared w)) has = tt

-- A default in an interface sees constants of packages, and of a cell nothing that is an operand there.
pub interface-scope : (s : Scope) (cell : Cell) (v : Place) (i : Identifier) → IfPackaged (IsPackaged s) (meaning i.name cell (site_of_interface v)) → HasIdentifier s (InInterface cell (site_of_interface v)) i
interface-scope s cell v i packaged =
    by-interface s cell v i (meaning i.name cell (site_of_interface v)) (interface-has (Unused s cell v) (IsPackaged s) i.name cell v (unused s cell v) packaged)
