-- What actuals name in the statements of a process is in a scope of its typed tree.
use Rattle.std.proofs.Common.{◌≡◌, ℕ, Bool, true, false, List, [], map, Option, Some, None, refl, subst}
use Rattle.std.specs.Prelude.{⊤, ◌&&◌, cond, IfSome}
use Rattle.std.specs.List.{AllByRecursion, filter_map}
use Rattle.std.specs.Option.{option_map_or}
use Rattle.std.specs.Str.{bytes_eq}
use Rattle.std.proofs.lemmas.Slice.Eq.{bytes_eq-Decides}
use Rattle.vital_actuals.specs.Kinds.{is_driven_mode, operand_in, operand_named}
use Rattle.vital_base.specs.declared.place.Place.{Place}
use Rattle.vital_declarations.specs.Operands.{Signal, Port, VariableOf, NoOperand, VariableType, Level, X01, VectorOf, GlitchData, TimingData, PeriodData, is_of_levels, object_kind, operand_kind, variable_type}
use Rattle.vital_declarations.specs.Types.{type_of}
use Rattle.vital_names.specs.declared.predeclared.Predeclared.{Predeclared}
use Rattle.vital_names.specs.declared.site.CellUnit.TheVariants.{Architecture}
use Rattle.vital_names.specs.Declarations.{Declared, body_of, declared_in, identifier_of}
use Rattle.vital_names.specs.Declarations as declared
use Rattle.vital_names.specs.Meanings.{constant_named, constants, declared as meant}
use Rattle.vital_names.specs.Sites.{Cell}
use Rattle.vital_names.specs.Words.{predeclared}
use Rattle.vital_nodes.specs.declared.decl.Iface.{Iface}
use Rattle.vital_nodes.specs.declared.decl.Object.{Object}
use Rattle.vital_nodes.specs.declared.decl.ObjectClass.{ObjectClass}
use Rattle.vital_nodes.specs.declared.decl.ObjectClass.TheVariants as class
use Rattle.vital_nodes.specs.declared.identifier.Identifier.{Identifier}
use Rattle.vital_nodes.specs.declared.stmt.Process.{Process}
use Rattle.vital_objects.specs.declared.port.Port.{Port as Port'}
use Rattle.vital_objects.specs.declared.variable.Variable.{Variable}
use Rattle.vital_objects.specs.Ports.{port, ports}
use Rattle.vital_objects.specs.Variables.{variables}
use Rattle.vital_operands.specs.Positions.{InStatement, Nothing, standing_of}
use Rattle.vital_uses.specs.Sited.{Sited}
use Rattle.vital_typed_cells.specs.ActualPositions.{HasData, HasNamed}
use Rattle.vital_typed_cells.specs.ActualScopes.{ActualScope}
use Rattle.vital_as_read.specs.AsRead.{AreTogether}
use Rattle.vital_typed_cells.specs.Named.{is_glitch_data, is_output_port, is_period_data, is_timing_data, is_x01, variable_is}
use Rattle.vital_typed_cells.proofs.Bridge.{OwnObject, kind-is}
use Rattle.vital_typed_cells.proofs.Found.{GivesOne, HasOne, all-mapped, both-lists, each, kept, weaker}
use Rattle.vital_typed_cells.proofs.Lists.{all-both, all-some}
use Rattle.vital_typed_cells.proofs.Seen.{Before, Declares, Named, declared-has, meaning_by, site_at}
use Rattle.vital_typed_cells.proofs.Signals.{IsObject, IsSignal, Pairs, itself}
use Rattle.vital_typed_cells.proofs.Tests.{both-true, same-name}
use Rattle.vital_typed_cells.proofs.Variables.{IsKeptVariable, variables-kept}

-- ---- ports that are driven

abbrev IsDriven : Iface → Type 0
IsDriven i = is_driven_mode i.parts.mode ≡ true

abbrev same-output : Iface → Port' → Bool
same-output i p = bytes_eq p.name i.identifier.name && is_driven_mode p.mode

one-output : (cell : Cell) (faults : List Place) (x : Sited Iface × Option (Sited Iface)) → GivesOne same-output IsDriven (Some (port cell faults x)) x.0.declaration
one-output cell faults x = λ is. both-true (bytes_eq x.0.declaration.identifier.name x.0.declaration.identifier.name) (is_driven_mode x.0.declaration.parts.mode) (same-name x.0.declaration.identifier.name) is

-- Each out, inout or buffer port is among the ports of a typed tree.
pub outputs-kept : (cell : Cell) (faults : List Place) → AllByRecursion (λ i. is_driven_mode i.parts.mode ≡ true → is_output_port (ports cell faults) i.identifier.name ≡ true) cell.entity.ports
outputs-kept cell faults =
    subst (λ is. AllByRecursion (HasOne same-output IsDriven (ports cell faults)) is) (itself cell)
    (subst (λ ps. AllByRecursion (HasOne same-output IsDriven ps) (filter_map (λ x. Some x.0.declaration) (Pairs cell))) (all-some (port cell faults) (Pairs cell))
    (kept (λ x. Some x.0.declaration) (λ x. Some (port cell faults x)) same-output IsDriven (Pairs cell)
    (each (λ x. GivesOne same-output IsDriven (Some (port cell faults x)) x.0.declaration) (one-output cell faults) (Pairs cell))))

-- ---- variables that keep data

pub record HasDataOf (vs : List Variable) (d : Declared) : Type 0 where
  pub violation : IsKeptVariable is_x01 vs d
  pub glitch : IsKeptVariable is_glitch_data vs d
  pub timing : IsKeptVariable is_timing_data vs d
  pub period : IsKeptVariable is_period_data vs d

pub data-kept : (cell : Cell) (p : Process) → AreTogether p.declarations → AllByRecursion (HasDataOf (variables cell [] p)) (declared_in p.declarations)
data-kept cell p together =
    weaker (λ d. IsKeptVariable is_x01 (variables cell [] p) d × (IsKeptVariable is_glitch_data (variables cell [] p) d × (IsKeptVariable is_timing_data (variables cell [] p) d × IsKeptVariable is_period_data (variables cell [] p) d)))
    (HasDataOf (variables cell [] p)) (λ d has. record { violation = has.0; glitch = has.1.0; timing = has.1.1.0; period = has.1.1.1 }) (declared_in p.declarations)
    (all-both (IsKeptVariable is_x01 (variables cell [] p)) _ (declared_in p.declarations) (variables-kept is_x01 cell [] p together)
    (all-both (IsKeptVariable is_glitch_data (variables cell [] p)) _ (declared_in p.declarations) (variables-kept is_glitch_data cell [] p together)
    (all-both (IsKeptVariable is_timing_data (variables cell [] p)) (IsKeptVariable is_period_data (variables cell [] p)) (declared_in p.declarations)
    (variables-kept is_timing_data cell [] p together) (variables-kept is_period_data cell [] p together))))

-- ---- what is declared

-- It is in a scope of actuals, as far as an actual asks for it.
abbrev pub DataIn : ActualScope → Declared → Type 0
DataIn s (declared.Generic i) = ⊤
DataIn s (declared.Port i) = HasNamed s i.identifier.name (Port i.parts.mode (type_of i.parts.subtype))
DataIn s (declared.Object o) = HasNamed s o.identifier.name (object_kind o.«class» o)
DataIn s (declared.Alias a) = ⊤

if-signal : (s : ActualScope) (name : List ℕ) (b : Bool) → s.has_internal name ≡ true → HasNamed s name (cond b Signal NoOperand)
if-signal s name true has = has
if-signal s name false has = tt

if-variable : (s : ActualScope) (name : List ℕ) (t : Option VariableType) → ((u : VariableType) → t ≡ Some u → HasData s name u) → HasNamed s name (option_map_or (λ u. VariableOf u) t NoOperand)
if-variable s name None has = tt
if-variable s name (Some u) has = has u refl

data-by : (s : ActualScope) (k : ObjectClass) (o : Object) → (k ≡ class.Signal → s.has_internal o.identifier.name ≡ true)
    → (k ≡ class.Variable → (u : VariableType) → variable_type o.parts.subtype ≡ Some u → HasData s o.identifier.name u) → HasNamed s o.identifier.name (object_kind k o)
data-by s class.Constant o signals variables = tt
data-by s class.Signal o signals variables = if-signal s o.identifier.name (is_of_levels o) (signals refl)
data-by s class.Variable o signals variables = if-variable s o.identifier.name (variable_type o.parts.subtype) (variables refl)

-- The tests of variables of a scope of actuals are those of some variables.
pub record IsOfVariables (s : ActualScope) (vs : List Variable) : Type 0 where
  pub violation : (d : Declared) → variable_is is_x01 vs (identifier_of d).name ≡ true → s.has_violation (identifier_of d).name ≡ true
  pub glitch : (d : Declared) → variable_is is_glitch_data vs (identifier_of d).name ≡ true → s.has_glitch_data (identifier_of d).name ≡ true
  pub timing : (d : Declared) → variable_is is_timing_data vs (identifier_of d).name ≡ true → s.has_timing_data (identifier_of d).name ≡ true
  pub period : (d : Declared) → variable_is is_period_data vs (identifier_of d).name ≡ true → s.has_period_data (identifier_of d).name ≡ true

variable-data : (s : ActualScope) (vs : List Variable) (o : Object) (u : VariableType) → IsOfVariables s vs → HasDataOf vs (declared.Object o) → o.«class» ≡ class.Variable → variable_type o.parts.subtype ≡ Some u → HasData s o.identifier.name u
variable-data s vs o Level of has is typed = tt
variable-data s vs o X01 of has is typed = of.violation (declared.Object o) (has.violation (kind-is is_x01 o X01 is typed (λ default. refl)))
variable-data s vs o (VectorOf r) of has is typed = tt
variable-data s vs o GlitchData of has is typed = of.glitch (declared.Object o) (has.glitch (kind-is is_glitch_data o GlitchData is typed (λ default. refl)))
variable-data s vs o TimingData of has is typed = of.timing (declared.Object o) (has.timing (kind-is is_timing_data o TimingData is typed (λ default. refl)))
variable-data s vs o PeriodData of has is typed = of.period (declared.Object o) (has.period (kind-is is_period_data o PeriodData is typed (λ default. refl)))

-- What a process declares is no signal, and what an architecture declares is no variable.
pub own-data : (s : ActualScope) (vs : List Variable) (d : Declared) → IsOfVariables s vs → OwnObject (λ o. o.«class» ≡ class.Signal → ⊥) d → HasDataOf vs d → DataIn s d
own-data s vs (declared.Generic i) of own has = tt
own-data s vs (declared.Port i) of own has = absurd own
own-data s vs (declared.Object o) of own has = data-by s o.«class» o (λ is. absurd (own is)) (λ is u typed. variable-data s vs o u of has is typed)
own-data s vs (declared.Alias a) of own has = tt

pub body-data : (s : ActualScope) (d : Declared) → OwnObject (λ o. o.«class» ≡ class.Variable → ⊥) d → (IsObject IsSignal d → s.has_internal (identifier_of d).name ≡ true) → DataIn s d
body-data s (declared.Generic i) own signal = tt
body-data s (declared.Port i) own signal = absurd own
body-data s (declared.Object o) own signal = data-by s o.«class» o signal (λ is. absurd (own is))
body-data s (declared.Alias a) own signal = tt

-- ---- what names are as operands

kind-data : (s : ActualScope) (cell : Cell) (process : Option Process) (v : Place) (d : Declared) → DataIn s d → HasNamed s (identifier_of d).name (operand_kind cell (site_at process v) d)
kind-data s cell process v (declared.Generic i) has = tt
kind-data s cell process v (declared.Port i) has = has
kind-data s cell process v (declared.Object o) has = has
kind-data s cell process v (declared.Alias a) has = tt

by-meaning : (s : ActualScope) (cell : Cell) (process : Option Process) (i : Identifier) (d : Option Declared) (c : Option (ℕ × Object)) (w : Option Predeclared) → IfSome d (Named (DataIn s) i.name)
    → HasNamed s i.name (operand_in (option_map_or (standing_of (InStatement cell Architecture process) i) (meaning_by d c w) Nothing))
by-meaning s cell process i (Some d) c w has =
    subst (λ n. HasNamed s n (operand_kind cell (site_at process i.place) d)) ((bytes_eq-Decides (identifier_of d).name i.name).0 has.1) (kind-data s cell process i.place d has.0)
by-meaning s cell process i None (Some c) w has = tt
by-meaning s cell process i None None (Some w) has = tt
by-meaning s cell process i None None None has = tt

-- What is declared for an identifier in a statement is in a scope of actuals.
pub identifier-data : (s : ActualScope) (cell : Cell) (process : Option Process) (i : Identifier) → Declares (DataIn s) cell process i.place → HasNamed s i.name (operand_named (InStatement cell Architecture process) i)
identifier-data s cell process i has =
    by-meaning s cell process i (meant i.name cell (site_at process i.place)) (constant_named i.name (constants cell.files)) (predeclared i.name) (declared-has (DataIn s) i.name cell process i.place has)

always : (s : ActualScope) (v : Place) (d : Declared) → DataIn s d → Before (DataIn s) v d
always s v d has = λ before. has

pub declares-data : (s : ActualScope) (cell : Cell) (q : Process) (v : Place) → AllByRecursion (DataIn s) (declared_in q.declarations) → AllByRecursion (DataIn s) (body_of cell.arch)
    → AllByRecursion (λ i. is_driven_mode i.parts.mode ≡ true → s.has_output i.identifier.name ≡ true) cell.entity.ports → Declares (DataIn s) cell (Some q) v
declares-data s cell q v own body ports = record {
  in_process = weaker (DataIn s) (Before (DataIn s) v) (always s v) (declared_in q.declarations) own;
  in_arch = weaker (DataIn s) (Before (DataIn s) v) (always s v) (body_of cell.arch) body;
  in_entity =
      both-lists (DataIn s) (map (λ i. declared.Generic i) cell.entity.generics) (map (λ i. declared.Port i) cell.entity.ports)
      (all-mapped (DataIn s) (λ i. declared.Generic i) cell.entity.generics (each (λ i. DataIn s (declared.Generic i)) (λ i. tt) cell.entity.generics))
      (all-mapped (DataIn s) (λ i. declared.Port i) cell.entity.ports
      (weaker (λ i. is_driven_mode i.parts.mode ≡ true → s.has_output i.identifier.name ≡ true) (λ i. DataIn s (declared.Port i)) (λ i has. λ driven level. has driven) cell.entity.ports ports));
}
