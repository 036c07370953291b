-- The signals and the ports of a cell are among those of its typed tree.
use Rattle.std.proofs.Common.{◌≡◌, ◌∙◌, Bool, true, false, List, Option, Some, None, subst}
use Rattle.std.specs.Prelude.{◌&&◌, IfSome}
use Rattle.std.proofs.lemmas.List.{map-id}
use Rattle.std.specs.List.{AllByRecursion, filter_map}
use Rattle.std.specs.Option.{option_map_or}
use Rattle.std.specs.Str.{bytes_eq}
use Rattle.vital_base.specs.declared.place.Place.{Place}
use Rattle.vital_names.specs.declared.site.CellUnit.TheVariants.{Entity}
use Rattle.vital_names.specs.Declarations.{Declared, declared_by, declared_in, identifier_of}
use Rattle.vital_names.specs.Declarations as declared
use Rattle.vital_names.specs.Sites.{Cell}
use Rattle.vital_nodes.specs.declared.decl.Decl.{Decl}
use Rattle.vital_nodes.specs.declared.decl.Decl.TheVariants as decl
use Rattle.vital_nodes.specs.declared.decl.Iface.{Iface}
use Rattle.vital_nodes.specs.declared.decl.Object.{Object}
use Rattle.vital_nodes.specs.declared.decl.ObjectClass.{ObjectClass}
use Rattle.vital_nodes.specs.declared.decl.ObjectClass.TheVariants as class
use Rattle.vital_objects.specs.declared.port.Port.{Port}
use Rattle.vital_objects.specs.declared.signal.Signal.{Signal}
use Rattle.vital_objects.specs.Ports.{port, ports}
use Rattle.vital_objects.specs.Signals.{signal, where_signal}
use Rattle.vital_objects.specs.Together.{beside_lasts, is_last_interface}
use Rattle.vital_operands.specs.Named.{is_read_mode}
use Rattle.vital_uses.specs.Nodes.{sited_interface}
use Rattle.vital_uses.specs.Sited.{Sited}
use Rattle.vital_typed_cells.specs.Named.{is_input_port, is_internal}
use Rattle.vital_typed_cells.proofs.Found.{GivesOne, HasOne, each, kept}
use Rattle.vital_typed_cells.proofs.Lists.{all-some, beside-kept, sited-kept}
use Rattle.vital_typed_cells.proofs.Tests.{both-true, same-name}

-- ---- objects by their class

-- A test holds of the object that is declared.
abbrev pub IsObject : (Object → Type 0) → Declared → Type 0
IsObject P (declared.Generic i) = ⊥
IsObject P (declared.Port i) = ⊥
IsObject P (declared.Object o) = P o
IsObject P (declared.Alias a) = ⊥

-- ---- signals

abbrev pub IsSignal : Object → Type 0
IsSignal o = o.«class» ≡ class.Signal

abbrev same-signal : Declared → Signal → Bool
same-signal d s = bytes_eq s.name (identifier_of d).name

signal-here : (k : ObjectClass) (o : Object) → k ≡ class.Signal → option_map_or (same-signal (declared.Object o)) (where_signal k o) false ≡ true
signal-here class.Constant o is = cc
signal-here class.Signal o is = same-name o.identifier.name
signal-here class.Variable o is = cc

one-signal : (d : Decl) → IfSome (declared_by d) (GivesOne same-signal (IsObject IsSignal) (signal d))
one-signal (decl.Attribute identifier type_mark) = tt
one-signal (decl.Specification s) = tt
one-signal (decl.Object o) = λ is. signal-here o.«class» o is
one-signal (decl.Alias a) = λ is. absurd is
one-signal (decl.Component c) = tt

abbrev pub IsKeptSignal : List Signal → Object → Type 0
IsKeptSignal signals o = is_internal signals o.identifier.name ≡ true

-- Each signal among declarations is among the signals of a typed tree.
pub signals-kept : (ds : List Decl) → AllByRecursion (HasOne same-signal (IsObject IsSignal) (filter_map signal ds)) (declared_in ds)
signals-kept ds = kept declared_by signal same-signal (IsObject IsSignal) ds (each (λ d. IfSome (declared_by d) (GivesOne same-signal (IsObject IsSignal) (signal d))) one-signal ds)

-- ---- ports

abbrev IsRead : Iface → Type 0
IsRead i = is_read_mode i.parts.mode ≡ true

abbrev same-port : Iface → Port → Bool
same-port i p = bytes_eq p.name i.identifier.name && is_read_mode p.mode

one-port : (cell : Cell) (faults : List Place) (x : Sited Iface × Option (Sited Iface)) → GivesOne same-port IsRead (Some (port cell faults x)) x.0.declaration
one-port cell faults x = λ is. both-true (bytes_eq x.0.declaration.identifier.name x.0.declaration.identifier.name) (is_read_mode x.0.declaration.parts.mode) (same-name x.0.declaration.identifier.name) is

abbrev pub Pairs : Cell → List (Sited Iface × Option (Sited Iface))
Pairs cell = beside_lasts is_last_interface (sited_interface cell.entity.ports)

pub itself : (cell : Cell) → filter_map (λ x. Some x.0.declaration) (Pairs cell) ≡ cell.entity.ports
itself cell =
    beside-kept is_last_interface (λ s. Some s.declaration) (sited_interface cell.entity.ports)
    ∙ sited-kept (λ i. i.identifier.place) (λ i. i.is_last) Entity None (λ i. Some i) cell.entity.ports
    ∙ all-some (λ i. i) cell.entity.ports
    ∙ map-id cell.entity.ports

-- Each in or inout port is among the ports of a typed tree.
pub ports-kept : (cell : Cell) (faults : List Place) → AllByRecursion (λ i. is_read_mode i.parts.mode ≡ true → is_input_port (ports cell faults) i.identifier.name ≡ true) cell.entity.ports
ports-kept cell faults =
    subst (λ is. AllByRecursion (HasOne same-port IsRead (ports cell faults)) is) (itself cell)
    (subst (λ ps. AllByRecursion (HasOne same-port IsRead ps) (filter_map (λ x. Some x.0.declaration) (Pairs cell))) (all-some (port cell faults) (Pairs cell))
    (kept (λ x. Some x.0.declaration) (λ x. Some (port cell faults x)) same-port IsRead (Pairs cell)
    (each (λ x. GivesOne same-port IsRead (Some (port cell faults x)) x.0.declaration) (one-port cell faults) (Pairs cell))))
