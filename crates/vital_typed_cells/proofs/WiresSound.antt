-- Wires join internal signals and in or inout ports.
use Rattle.std.proofs.Common.{◌≡◌, ℕ, Bool, true, false, List, [], map, Option, Some, None, refl, subst}
use Rattle.std.specs.Prelude.{◌&&◌, cond, IfSome}
use Rattle.std.specs.List.{AllByRecursion}
use Rattle.std.specs.Option.{option_and_then, option_map, option_map_or}
use Rattle.std.proofs.lemmas.Slice.Eq.{bytes_eq-Decides}
use Rattle.vital_base.specs.declared.place.Place.{Place}
use Rattle.vital_calls.specs.Calls.{Call}
use Rattle.vital_calls.specs.Matching.{has_wrong_formals}
use Rattle.vital_typed_cells.specs.declared.wire.WireDelay.{WireDelay}
use Rattle.vital_typed_cells.specs.Wires.{joined, wire, wires}
use Rattle.vital_drivers.specs.Named.{if_so}
use Rattle.vital_drivers.specs.Wires.{Wire, has_tipd, is_wire_delay, port_given, signal_given, wire_delay, wire_given, wire_of, wire_of_call, wire_of_items}
use Rattle.vital_names.specs.Declarations.{Declared, body_of, declared_in, identifier_of}
use Rattle.vital_names.specs.Declarations as declared
use Rattle.vital_names.specs.Meanings.{declared as meant}
use Rattle.vital_names.specs.Sites.{Cell}
use Rattle.vital_nodes.specs.declared.decl.Mode.{Mode}
use Rattle.vital_nodes.specs.declared.decl.Mode.TheVariants as mode
use Rattle.vital_nodes.specs.declared.decl.ObjectClass.{ObjectClass}
use Rattle.vital_nodes.specs.declared.decl.ObjectClass.TheVariants as class
use Rattle.vital_nodes.specs.declared.expr.Item.{Item}
use Rattle.vital_nodes.specs.declared.identifier.Identifier.{Identifier}
use Rattle.vital_objects.specs.Ports.{ports}
use Rattle.vital_objects.specs.Signals.{declarations, signals}
use Rattle.vital_operands.specs.Named.{is_read_mode}
use Rattle.vital_statements.specs.Called.{call_of_conc, procedure_of}
use Rattle.vital_statements.specs.Operands.{is_read_mode as is_read, is_read_port, is_signal, is_signal_class, means}
use Rattle.vital_uses.specs.Statements.{statements}
use Rattle.vital_typed_cells.specs.Named.{is_input_port, is_internal}
use Rattle.vital_typed_cells.proofs.Bridge.{OwnObject}
use Rattle.vital_typed_cells.proofs.Facts.{Meets, NoVariable, body-is, body-own}
use Rattle.vital_typed_cells.proofs.Found.{all-kept, all-mapped, both-lists, each, weaker}
use Rattle.vital_typed_cells.proofs.Seen.{Before, Declares, Named, declared-has, site_at}
use Rattle.vital_typed_cells.proofs.Signals.{IsObject, IsSignal, ports-kept, signals-kept}
use Rattle.vital_typed_cells.proofs.Tests.{both-true}

-- ---- what names mean

-- Where a declaration passes one test its name passes another.
abbrev Passes : (Declared → Bool) → (List ℕ → Bool) → Declared → Type 0
Passes test names d = test d ≡ true → names (identifier_of d).name ≡ true

meant-passes : (test : Declared → Bool) (names : List ℕ → Bool) (name : List ℕ) (o : Option Declared) → IfSome o (Named (Passes test names) name) → option_map_or test o false ≡ true → names name ≡ true
meant-passes test names name None has is = cc
meant-passes test names name (Some d) has is = subst (λ n. names n ≡ true) ((bytes_eq-Decides (identifier_of d).name name).0 has.1) (has.0 is)

means-passes : (test : Declared → Bool) (names : List ℕ → Bool) (cell : Cell) (i : Identifier) → Declares (Passes test names) cell None i.place → means test cell None i ≡ true → names i.name ≡ true
means-passes test names cell i has is = meant-passes test names i.name (meant i.name cell (site_at None i.place)) (declared-has (Passes test names) i.name cell None i.place has) is

-- ---- signals

signal-class : (k : ObjectClass) → is_signal_class k ≡ true → k ≡ class.Signal
signal-class class.Constant is = cc
signal-class class.Signal is = refl
signal-class class.Variable is = cc

signal-passes : (cell : Cell) (d : Declared) → (IsObject IsSignal d → is_internal (signals cell) (identifier_of d).name ≡ true) → Passes is_signal (is_internal (signals cell)) d
signal-passes cell (declared.Generic i) has = λ is. cc
signal-passes cell (declared.Port i) has = λ is. cc
signal-passes cell (declared.Object o) has = λ is. has (signal-class o.«class» is)
signal-passes cell (declared.Alias a) has = λ is. cc

always : (P : Declared → Type 0) (v : Place) (d : Declared) → P d → Before P v d
always P v d has = λ before. has

signals-declared : (cell : Cell) (v : Place) → Declares (Passes is_signal (is_internal (signals cell))) cell None v
signals-declared cell v = record {
  in_process = tt;
  in_arch =
      weaker (λ d. IsObject IsSignal d → is_internal (signals cell) (identifier_of d).name ≡ true) (Before (Passes is_signal (is_internal (signals cell))) v)
      (λ d has. always (Passes is_signal (is_internal (signals cell))) v d (signal-passes cell d has)) (body_of cell.arch)
      (subst (AllByRecursion (λ d. IsObject IsSignal d → is_internal (signals cell) (identifier_of d).name ≡ true)) (body-is cell.arch) (signals-kept (declarations cell.arch)));
  in_entity =
      both-lists (Passes is_signal (is_internal (signals cell))) (map (λ i. declared.Generic i) cell.entity.generics) (map (λ i. declared.Port i) cell.entity.ports)
      (all-mapped (Passes is_signal (is_internal (signals cell))) (λ i. declared.Generic i) cell.entity.generics (each (λ i. Passes is_signal (is_internal (signals cell)) (declared.Generic i)) (λ i is. cc) cell.entity.generics))
      (all-mapped (Passes is_signal (is_internal (signals cell))) (λ i. declared.Port i) cell.entity.ports (each (λ i. Passes is_signal (is_internal (signals cell)) (declared.Port i)) (λ i is. cc) cell.entity.ports));
}

-- ---- ports

same-mode : (m : Mode) → is_read m ≡ is_read_mode m
same-mode mode.In = refl
same-mode mode.Out = refl
same-mode mode.Inout = refl
same-mode mode.Buffer = refl
same-mode mode.Linkage = refl

body-passes : (cell : Cell) (d : Declared) → OwnObject NoVariable d → Passes is_read_port (is_input_port (ports cell [])) d
body-passes cell (declared.Generic i) own = λ is. cc
body-passes cell (declared.Port i) own = absurd own
body-passes cell (declared.Object o) own = λ is. cc
body-passes cell (declared.Alias a) own = λ is. cc

ports-declared : (cell : Cell) (v : Place) → Meets cell → Declares (Passes is_read_port (is_input_port (ports cell []))) cell None v
ports-declared cell v met = record {
  in_process = tt;
  in_arch =
      weaker (OwnObject NoVariable) (Before (Passes is_read_port (is_input_port (ports cell []))) v)
      (λ d own. always (Passes is_read_port (is_input_port (ports cell []))) v d (body-passes cell d own)) (body_of cell.arch) (subst (AllByRecursion (OwnObject NoVariable)) (body-is cell.arch) (body-own cell met));
  in_entity =
      both-lists (Passes is_read_port (is_input_port (ports cell []))) (map (λ i. declared.Generic i) cell.entity.generics) (map (λ i. declared.Port i) cell.entity.ports)
      (all-mapped (Passes is_read_port (is_input_port (ports cell []))) (λ i. declared.Generic i) cell.entity.generics (each (λ i. Passes is_read_port (is_input_port (ports cell [])) (declared.Generic i)) (λ i is. cc) cell.entity.generics))
      (all-mapped (Passes is_read_port (is_input_port (ports cell []))) (λ i. declared.Port i) cell.entity.ports
      (weaker (λ i. is_read_mode i.parts.mode ≡ true → is_input_port (ports cell []) i.identifier.name ≡ true) (λ i. Passes is_read_port (is_input_port (ports cell [])) (declared.Port i))
      (λ i has. λ is. has (subst (λ b. b ≡ true) (same-mode i.parts.mode) is)) cell.entity.ports (ports-kept cell [])));
}

-- ---- wires

if-passes : (test : Identifier → Bool) (i : Identifier) (b : Bool) → test i ≡ b → IfSome (cond b (Some i) None) (λ j. test j ≡ true)
if-passes test i true is = is
if-passes test i false is = tt

if-so : (test : Identifier → Bool) (o : Option Identifier) → IfSome (option_and_then (if_so test) o) (λ i. test i ≡ true)
if-so test None = tt
if-so test (Some i) = if-passes test i (test i) refl

-- A wire joins a signal and a port that are meant so.
abbrev IsMeant : Cell → Wire → Type 0
IsMeant cell w = (means is_signal cell None w.0 ≡ true) × (means is_read_port cell None w.1 ≡ true)

with-port : (cell : Cell) (is : List Item) (s p : Identifier) (b : Bool) → means is_signal cell None s ≡ true → means is_read_port cell None p ≡ true → IfSome {T = Wire} (cond b (Some (s, p)) None) (IsMeant cell)
with-port cell is s p true signal port = (signal, port)
with-port cell is s p false signal port = tt

with-signal : (cell : Cell) (is : List Item) (s : Identifier) (o : Option Identifier) → means is_signal cell None s ≡ true → IfSome o (λ p. means is_read_port cell None p ≡ true)
    → IfSome {T = Wire} (option_and_then (λ p. cond (has_tipd cell p is) (Some (s, p)) None) o) (IsMeant cell)
with-signal cell is s None signal port = tt
with-signal cell is s (Some p) signal port = with-port cell is s p (has_tipd cell p is) signal port

given-meant : (cell : Cell) (is : List Item) (o : Option Identifier) → IfSome o (λ s. means is_signal cell None s ≡ true)
    → IfSome {T = Wire} (option_and_then (λ s. option_and_then (λ p. cond (has_tipd cell p is) (Some (s, p)) None) (port_given cell is)) o) (IsMeant cell)
given-meant cell is None signal = tt
given-meant cell is (Some s) signal = with-signal cell is s (port_given cell is) signal (if-so (means is_read_port cell None) _)

either-wire : (cell : Cell) (b : Bool) (o : Option Wire) → IfSome o (IsMeant cell) → IfSome (cond b None o) (IsMeant cell)
either-wire cell true o meant = tt
either-wire cell false o meant = meant

only-wire : (cell : Cell) (b : Bool) (o : Option Wire) → IfSome o (IsMeant cell) → IfSome (cond b o None) (IsMeant cell)
only-wire cell true o meant = meant
only-wire cell false o meant = tt

call-meant : (cell : Cell) (c : Call) → IfSome (wire_of_call cell c) (IsMeant cell)
call-meant cell c =
    only-wire cell (option_map_or is_wire_delay (procedure_of cell None c) false) (wire_of_items cell c.items)
    (either-wire cell (has_wrong_formals wire_delay c.items) (wire_given cell c.items) (given-meant cell c.items (signal_given cell c.items) (if-so (means is_signal cell None) _)))

maybe-meant : (cell : Cell) (o : Option Call) → IfSome (option_and_then (wire_of_call cell) o) (IsMeant cell)
maybe-meant cell None = tt
maybe-meant cell (Some c) = call-meant cell c

-- The signal and the port of a wire are those of a typed tree.
abbrev pub IsJoined : Cell → WireDelay → Type 0
IsJoined cell w = (is_internal (signals cell) w.signal && is_input_port (ports cell []) w.port) ≡ true

joined-sound : (cell : Cell) (o : Option Wire) → Meets cell → IfSome o (IsMeant cell) → IfSome (option_map joined o) (IsJoined cell)
joined-sound cell None met meant = tt
joined-sound cell (Some w) met meant =
    both-true (is_internal (signals cell) w.0.name) (is_input_port (ports cell []) w.1.name)
    (means-passes is_signal (is_internal (signals cell)) cell w.0 (signals-declared cell w.0.place) meant.0)
    (means-passes is_read_port (is_input_port (ports cell [])) cell w.1 (ports-declared cell w.1.place met) meant.1)

pub wires-sound : (cell : Cell) → Meets cell → AllByRecursion (IsJoined cell) (wires cell)
wires-sound cell met =
    all-kept (IsJoined cell) (wire cell) (statements cell.arch)
    (each (λ c. IfSome (wire cell c) (IsJoined cell)) (λ c. joined-sound cell (wire_of cell c) met (maybe-meant cell (call_of_conc c))) (statements cell.arch))
