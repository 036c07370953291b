-- What a process and an architecture declare is in a scope of the lists of a typed tree.
use Rattle.std.proofs.Common.{◌≡◌, ◌<◌, ℕ, Bool, true, false, List, ◌++◌, map, Option, Some, None, refl, sym, ap, ◌∙◌, subst, arith}
use Rattle.std.proofs.lemmas.Bool.Decides.{nat_tests}
use Rattle.std.proofs.lemmas.List.Folds.{list_any-append}
use Rattle.std.proofs.lemmas.Option.{cond_some}
use Rattle.std.specs.Prelude.{⊤, ◌==◌, ◌&&◌, cond, nat_le, nat_lt, IfSome}
use Rattle.std.specs.List.{AllByRecursion, list_any}
use Rattle.std.specs.Option.{option_map_or}
use Rattle.std.specs.Str.{bytes_eq}
use Rattle.vital_base.specs.declared.place.Place.{Place}
use Rattle.vital_base.specs.Places.{is_before}
use Rattle.vital_declarations.specs.Numbers.{Range, length_of}
use Rattle.vital_declarations.specs.Operands.{Signal, VariableOf, NoOperand, VariableType, Level, X01, VectorOf, GlitchData, TimingData, PeriodData, is_of_levels, object_kind, variable_type, variable_type_in}
use Rattle.vital_declarations.specs.Types.{DeclaredType, Plain, Vector, Table, Other, type_of}
use Rattle.vital_names.specs.declared.predeclared.TypeName.TheVariants as type
use Rattle.vital_names.specs.Declarations.{Declared, body_of, declared_in, identifier_of, interface_of}
use Rattle.vital_names.specs.Declarations as declared
use Rattle.vital_names.specs.Meanings.{meaning}
use Rattle.vital_names.specs.Sites.{Cell}
use Rattle.vital_nodes.specs.declared.decl.Iface.{Iface}
use Rattle.vital_nodes.specs.declared.decl.Object.{Object}
use Rattle.vital_nodes.specs.declared.decl.ObjectClass.{ObjectClass}
use Rattle.vital_nodes.specs.declared.decl.ObjectClass.TheVariants as class
use Rattle.vital_nodes.specs.declared.stmt.Process.{Process}
use Rattle.vital_objects.specs.declared.constant.Constant.{Constant}
use Rattle.vital_objects.specs.declared.constant.ConstantValue.{ConstantValue}
use Rattle.vital_objects.specs.declared.variable.Variable.{Variable}
use Rattle.vital_objects.specs.declared.variable.VariableKind.{VariableKind}
use Rattle.vital_operands.specs.declared.tree.ConstantName.TheVariants as constant
use Rattle.vital_operands.specs.Named.{is_delay as is_delay_type, is_read_mode, same_type}
use Rattle.vital_operands.specs.Positions.{Position, changes}
use Rattle.vital_timing.specs.declared.delay.DelayType.{DelayType}
use Rattle.vital_objects.specs.Variables.{length_asked}
use Rattle.vital_typed_declarations.specs.declared.asked_type.AskedType.{AskedType}
use Rattle.vital_typed_declarations.specs.declared.asked_type.AskedType.TheVariants as asked
use Rattle.vital_typed_cells.specs.Positions.{HasConstant, HasOperand, HasVariable}
use Rattle.vital_typed_cells.specs.ExprScopes.{Scope}
use Rattle.vital_typed_cells.specs.Named.{has_element, is_delay, is_input_port, is_internal, is_level, is_scalar, is_time, is_vector}
use Rattle.vital_typed_cells.specs.Scopes.{Visible, scope_of}
use Rattle.vital_typed_cells.proofs.CellTables.{TableValue, tables-back, tables-front}
use Rattle.vital_typed_cells.proofs.Constants.{IsKeptConstant}
use Rattle.vital_typed_cells.proofs.Found.{all-mapped, both-lists, weaker}
use Rattle.vital_typed_cells.proofs.Operands.{IsIn, IsPackaged}
use Rattle.vital_typed_cells.proofs.Seen.{Before, Declares, IfPackaged, site_at}
use Rattle.vital_typed_cells.proofs.Signals.{IsObject, IsSignal}
use Rattle.vital_typed_cells.proofs.Tests.{one-true, other-true}
use Rattle.vital_typed_cells.proofs.ValueTrees.{AsksDelay, constant-asks, delay-asked, level-asked, time-asked}
use Rattle.vital_typed_cells.proofs.Variables.{GivesType, IsKeptVariable, IsVariableOf}

-- ---- what is asked of declarations

-- What a process or an architecture declares itself: objects, and aliases.
abbrev pub OwnObject : (Object → Type 0) → Declared → Type 0
OwnObject P (declared.Generic i) = ⊥
OwnObject P (declared.Port i) = ⊥
OwnObject P (declared.Object o) = P o
OwnObject P (declared.Alias a) = ⊤

-- An object is in a scope, as far as it may be an operand.
abbrev pub IsObjectIn : Scope → Position → Object → Type 0
IsObjectIn s p o = HasOperand s p o.identifier.name (object_kind o.«class» o)

-- ---- constants

-- A constant is among some with its value, whichever type it has.
pub record HasValue (cell : Cell) (cs : List Constant) (d : Declared) : Type 0 where
  pub level : IsKeptConstant asked.Level is_level cs d
  pub time : IsKeptConstant asked.Time is_time cs d
  pub delay : (e k : DelayType) → same_type e k ≡ true → IsKeptConstant (asked.Delay k) (is_delay e) cs d
  pub table : TableValue cell cs d

abbrev NamedConstant : (ConstantValue → Bool) → List ℕ → Constant → Bool
NamedConstant test name k = bytes_eq k.name name && test k.value

in-front : (a : AskedType) (test : ConstantValue → Bool) (cs ds : List Constant) (d : Declared) → IsKeptConstant a test cs d → IsKeptConstant a test (cs ++ ds) d
in-front a test cs ds d has = λ is. list_any-append (NamedConstant test (identifier_of d).name) cs ds ∙ one-true (list_any (NamedConstant test (identifier_of d).name) cs) (list_any (NamedConstant test (identifier_of d).name) ds) (has is)

in-back : (a : AskedType) (test : ConstantValue → Bool) (cs ds : List Constant) (d : Declared) → IsKeptConstant a test ds d → IsKeptConstant a test (cs ++ ds) d
in-back a test cs ds d has = λ is. list_any-append (NamedConstant test (identifier_of d).name) cs ds ∙ other-true (list_any (NamedConstant test (identifier_of d).name) cs) (list_any (NamedConstant test (identifier_of d).name) ds) (has is)

pub value-front : (cell : Cell) (cs ds : List Constant) (d : Declared) → HasValue cell cs d → HasValue cell (cs ++ ds) d
value-front cell cs ds d has = record {
  level = in-front asked.Level is_level cs ds d has.level;
  time = in-front asked.Time is_time cs ds d has.time;
  delay = λ e k same. in-front (asked.Delay k) (is_delay e) cs ds d (has.delay e k same);
  table = tables-front cell cs ds d has.table;
}

pub value-back : (cell : Cell) (cs ds : List Constant) (d : Declared) → HasValue cell ds d → HasValue cell (cs ++ ds) d
value-back cell cs ds d has = record {
  level = in-back asked.Level is_level cs ds d has.level;
  time = in-back asked.Time is_time cs ds d has.time;
  delay = λ e k same. in-back (asked.Delay k) (is_delay e) cs ds d (has.delay e k same);
  table = tables-back cell cs ds d has.table;
}

delay-in : (cell : Cell) (v : Visible) (o : Object) (e : DelayType) → o.«class» ≡ class.Constant → HasValue cell v.constants (declared.Object o) → AsksDelay e (type_of o.parts.subtype) → (scope_of v).has_delay e (constant.Cell o.identifier.name) ≡ true
delay-in cell v o e is has asks = has.delay e asks.asked_type asks.same (constant-asks (asked.Delay asks.asked_type) o is asks.asks)

pub constant-in : (cell : Cell) (v : Visible) (o : Object) → o.«class» ≡ class.Constant → HasValue cell v.constants (declared.Object o) → HasConstant (scope_of v) (constant.Cell o.identifier.name) (type_of o.parts.subtype)
constant-in cell v o is has = record {
  levels = λ level. has.level (constant-asks asked.Level o is (level-asked (type_of o.parts.subtype) level));
  times = λ time. has.time (constant-asks asked.Time o is (time-asked (type_of o.parts.subtype) time));
  delays = λ e delay. delay-in cell v o e is has (delay-asked e (type_of o.parts.subtype) delay);
}

-- ---- variables

pub record HasKind (vs : List Variable) (d : Declared) : Type 0 where
  pub scalar : IsKeptVariable is_scalar vs d
  pub whole : (n : ℕ) → IsKeptVariable (is_vector n) vs d
  pub element : (n : ℕ) → IsKeptVariable (has_element n) vs d

abbrev range-in : VariableType → Range → Range
range-in (VectorOf r) q = r
range-in other q = q

short-vector : (t : DeclaredType) (r : Range) → variable_type_in t ≡ Some (VectorOf r) → nat_le (length_of r) 256 ≡ true
short-vector (Plain type.StdUlogic) r is = cc
short-vector (Plain type.StdLogic) r is = cc
short-vector (Plain type.StdLogicVector) r is = cc
short-vector (Plain type.X01) r is = cc
short-vector (Plain type.X01Z) r is = cc
short-vector (Plain type.Ux01) r is = cc
short-vector (Plain type.Ux01Z) r is = cc
short-vector (Plain type.Boolean) r is = cc
short-vector (Plain type.Text) r is = cc
short-vector (Plain type.Time) r is = cc
short-vector (Plain (type.Delay e)) r is = cc
short-vector (Plain type.TableSymbol) r is = cc
short-vector (Plain type.TruthTable) r is = cc
short-vector (Plain type.StateTable) r is = cc
short-vector (Plain type.GlitchData) r is = cc
short-vector (Plain type.TimingData) r is = cc
short-vector (Plain type.PeriodData) r is = cc
short-vector (Vector q) r is =
    let both = cond_some (nat_le (length_of q) 256) (VectorOf q) (VectorOf r) is in
    ap (λ t. nat_le (length_of (range-in t q)) 256) (sym both.1) ∙ both.0
short-vector (Table t rows columns) r is = cc
short-vector Other r is = cc

pub kind-is : (test : VariableKind → Bool) (o : Object) (t : VariableType) → o.«class» ≡ class.Variable → variable_type o.parts.subtype ≡ Some t → GivesType test (Some t) → IsVariableOf test o
kind-is test o t is typed gives = record { class_is = is; gives = subst (GivesType test) (sym typed) gives }

same-length : (n : ℕ) → (n == n) ≡ true
same-length n = grind (arith, nat_tests)

below : (n m : ℕ) → n < m → nat_lt n m ≡ true
below n m is = grind (arith, nat_tests)

pub variable-in : (v : Visible) (o : Object) (t : VariableType) → o.«class» ≡ class.Variable → variable_type o.parts.subtype ≡ Some t → HasKind v.variables (declared.Object o) → HasVariable (scope_of v) o.identifier.name t
variable-in v o Level is typed has = has.scalar (kind-is is_scalar o Level is typed (λ default. refl))
variable-in v o X01 is typed has = has.scalar (kind-is is_scalar o X01 is typed (λ default. refl))
variable-in v o (VectorOf r) is typed has =
    let short : nat_le (length_of r) 256 ≡ true = short-vector (type_of o.parts.subtype) r typed in
    record {
      whole = has.whole (length_of r) (kind-is (is_vector (length_of r)) o (VectorOf r) is typed (λ default. ap (λ b. length_of r == length_asked (cond b (asked.Vector (length_of r)) asked.Nothing)) short ∙ same-length (length_of r)));
      elements = λ n inside. has.element n (kind-is (has_element n) o (VectorOf r) is typed (λ default. ap (λ b. nat_lt n (length_asked (cond b (asked.Vector (length_of r)) asked.Nothing))) short ∙ below n (length_of r) inside));
    }
variable-in v o GlitchData is typed has = tt
variable-in v o TimingData is typed has = tt
variable-in v o PeriodData is typed has = tt

-- ---- objects by their class

if-signal : (s : Scope) (p : Position) (name : List ℕ) (b : Bool) → (changes p ≡ true → s.has_signal name ≡ true) → HasOperand s p name (cond b Signal NoOperand)
if-signal s p name true has = has
if-signal s p name false has = tt

if-variable : (s : Scope) (p : Position) (name : List ℕ) (t : Option VariableType) → ((u : VariableType) → t ≡ Some u → changes p ≡ true → HasVariable s name u) → HasOperand s p name (option_map_or (λ u. VariableOf u) t NoOperand)
if-variable s p name None has = tt
if-variable s p name (Some u) has = has u refl

pub object-by : (s : Scope) (p : Position) (k : ObjectClass) (o : Object)
    → (k ≡ class.Constant → HasConstant s (constant.Cell o.identifier.name) (type_of o.parts.subtype))
    → (k ≡ class.Signal → changes p ≡ true → s.has_signal o.identifier.name ≡ true)
    → (k ≡ class.Variable → (u : VariableType) → variable_type o.parts.subtype ≡ Some u → changes p ≡ true → HasVariable s o.identifier.name u)
    → HasOperand s p o.identifier.name (object_kind k o)
object-by s p class.Constant o constants signals variables = constants refl
object-by s p class.Signal o constants signals variables = if-signal s p o.identifier.name (is_of_levels o) (signals refl)
object-by s p class.Variable o constants signals variables = if-variable s p o.identifier.name (variable_type o.parts.subtype) (variables refl)

-- An object that is no signal, and one that is no variable.
pub own-in : (cell : Cell) (v : Visible) (p : Position) (d : Declared) → OwnObject (λ o. o.«class» ≡ class.Signal → ⊥) d → HasValue cell v.constants d → (changes p ≡ true → HasKind v.variables d) → OwnObject (IsObjectIn (scope_of v) p) d
own-in cell v p (declared.Generic i) own value kind = own
own-in cell v p (declared.Port i) own value kind = own
own-in cell v p (declared.Object o) own value kind =
    object-by (scope_of v) p o.«class» o (λ is. constant-in cell v o is value) (λ is. absurd (own is)) (λ is. λ u typed changing. variable-in v o u is typed (kind changing))
own-in cell v p (declared.Alias a) own value kind = tt

pub body-in : (cell : Cell) (v : Visible) (p : Position) (d : Declared) → OwnObject (λ o. o.«class» ≡ class.Variable → ⊥) d → HasValue cell v.constants d → (changes p ≡ true → IsObject IsSignal d → is_internal v.signals (identifier_of d).name ≡ true) → OwnObject (IsObjectIn (scope_of v) p) d
body-in cell v p (declared.Generic i) own value signal = own
body-in cell v p (declared.Port i) own value signal = own
body-in cell v p (declared.Object o) own value signal =
    object-by (scope_of v) p o.«class» o (λ is. constant-in cell v o is value)
    (λ is changing. other-true (is_input_port v.ports o.identifier.name) (is_internal v.signals o.identifier.name) (signal changing is)) (λ is. absurd (own is))
body-in cell v p (declared.Alias a) own value signal = tt

-- ---- all that is declared

-- A generic is among those of a typed tree with its type.
abbrev pub IsKeptGeneric : Visible → Iface → Type 0
IsKeptGeneric v i = (e : DelayType) → is_delay_type e (type_of i.parts.subtype) ≡ true → (scope_of v).has_generic e i.identifier.name ≡ true

abbrev pub IsKeptPort : Visible → Position → Iface → Type 0
IsKeptPort v p i = changes p ≡ true → is_read_mode i.parts.mode ≡ true → is_input_port v.ports i.identifier.name ≡ true

-- What stands before a place is in a scope.
abbrev pub InBefore : Scope → Position → Place → Declared → Type 0
InBefore s p w d = is_before (identifier_of d).place w ≡ true → OwnObject (IsObjectIn s p) d

-- The constant of a package that an alias names is in a scope.
abbrev pub AliasIn : Scope → Cell → Option Process → Declared → Type 0
AliasIn s cell process (declared.Generic i) = ⊤
AliasIn s cell process (declared.Port i) = ⊤
AliasIn s cell process (declared.Object o) = ⊤
AliasIn s cell process (declared.Alias a) = IfPackaged (IsPackaged s) (meaning a.target.identifier.name cell (site_at process a.identifier.place))

abbrev pub IsKnownBefore : Scope → Position → Cell → Option Process → Place → Declared → Type 0
IsKnownBefore s p cell process w d = InBefore s p w d × AliasIn s cell process d

own-before : (s : Scope) (p : Position) (cell : Cell) (process : Option Process) (w : Place) (d : Declared) → IsKnownBefore s p cell process w d → Before (IsIn s p cell process w) w d
own-before s p cell process w (declared.Generic i) has = λ before. absurd (has.0 before)
own-before s p cell process w (declared.Port i) has = λ before. absurd (has.0 before)
own-before s p cell process w (declared.Object o) has = has.0
own-before s p cell process w (declared.Alias a) has = λ before. (before, has.1)

process-before : (s : Scope) (p : Position) (cell : Cell) (process : Option Process) (w : Place) (o : Option Process) → IfSome o (λ q. AllByRecursion (IsKnownBefore s p cell process w) (declared_in q.declarations))
    → IfSome o (λ q. AllByRecursion (Before (IsIn s p cell process w) w) (declared_in q.declarations))
process-before s p cell process w None has = tt
process-before s p cell process w (Some q) has = weaker (IsKnownBefore s p cell process w) (Before (IsIn s p cell process w) w) (own-before s p cell process w) (declared_in q.declarations) has

pub declares : (v : Visible) (p : Position) (cell : Cell) (process : Option Process) (w : Place) → AllByRecursion (IsKeptGeneric v) cell.entity.generics → AllByRecursion (IsKeptPort v p) cell.entity.ports
    → IfSome process (λ q. AllByRecursion (IsKnownBefore (scope_of v) p cell process w) (declared_in q.declarations)) → AllByRecursion (IsKnownBefore (scope_of v) p cell process w) (body_of cell.arch)
    → Declares (IsIn (scope_of v) p cell process w) cell process w
declares v p cell process w generics ports own body = record {
  in_process = process-before (scope_of v) p cell process w process own;
  in_arch = weaker (IsKnownBefore (scope_of v) p cell process w) (Before (IsIn (scope_of v) p cell process w) w) (own-before (scope_of v) p cell process w) (body_of cell.arch) body;
  in_entity =
      both-lists (IsIn (scope_of v) p cell process w) (map (λ i. declared.Generic i) cell.entity.generics) (map (λ i. declared.Port i) cell.entity.ports)
      (all-mapped (IsIn (scope_of v) p cell process w) (λ i. declared.Generic i) cell.entity.generics
      (weaker (IsKeptGeneric v) (λ i. IsIn (scope_of v) p cell process w (declared.Generic i)) (λ i has. λ allowed. has) cell.entity.generics generics))
      (all-mapped (IsIn (scope_of v) p cell process w) (λ i. declared.Port i) cell.entity.ports
      (weaker (IsKeptPort v p) (λ i. IsIn (scope_of v) p cell process w (declared.Port i))
      (λ i has. λ changing read level. one-true (is_input_port v.ports i.identifier.name) (is_internal v.signals i.identifier.name) (has changing read)) cell.entity.ports ports));
}
