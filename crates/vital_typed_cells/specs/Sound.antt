-- When the typed tree of a cell is sound: what elaboration and simulation ask of it.
use Rattle.std.specs.Prelude.{◌≡◌, ℕ, true, Bool, not, ◌&&◌, ◌+◌, ◌<◌, ◌≤◌, [], ◌++◌, length, map, All, Some}
use Rattle.std.specs.List.{IsDistinct, list_any}
use Rattle.std.specs.Str.{bytes_eq}
use Rattle.vital_level0.specs.Clauses.{is_delay_type_of, is_linkage}
use Rattle.vital_nodes.specs.IdentifierNames.{IsIdentifierName}
use Rattle.vital_objects.specs.declared.generic.TimingGeneric.{TimingGeneric}
use Rattle.vital_objects.specs.declared.port.Port.{Port}
use Rattle.vital_typed_cells.specs.ExprScopes.{Scope}
use Rattle.vital_typed_cells.specs.Times.{are_short}
use Rattle.vital_typed_cells.specs.KeptStates.{kept}
use Rattle.vital_typed_cells.specs.SpelledNames.{is_port_name, spelled}
use Rattle.vital_typed_cells.specs.TreeNames.{names_of_cell, names_of_process}
use Rattle.vital_timing.specs.Delays.{type_of}
use Rattle.vital_typed_cells.specs.declared.process.CellProcess.{CellProcess}
use Rattle.vital_typed_cells.specs.declared.typed_cell.TypedCell.{TypedCell}
use Rattle.vital_typed_cells.specs.declared.wire.WireDelay.{WireDelay}
use Rattle.vital_typed_cells.specs.Named.{is_input_port, is_internal}
use Rattle.vital_typed_cells.specs.Scopes.{actuals_in, in_interface, in_process, scope_of, state_tables_in}
use Rattle.vital_typed_cells.specs.SoundDeclarations.{AreSoundConstants, AreSoundPackages, are_sound_controls, is_sound_kind, is_sound_port, names_in_values}
use Rattle.vital_typed_cells.specs.SoundSections.{are_sound_sections}

-- What defaults of ports may name, and what those of variables of a process may.
abbrev pub names_in_interface : TypedCell → Scope
names_in_interface c = scope_of (in_interface c)

abbrev pub names_in_process : TypedCell → CellProcess → Scope
names_in_process c p = names_in_values c (p.constants ++ c.constants)

-- How many bits the ports and the internal signals have.
abbrev pub bit_count : TypedCell → ℕ
bit_count c = length c.ports + length c.signals

-- The name of a port holds no underscore and is not extended, and its mode is not linkage.
abbrev pub is_formed_port : Port → Bool
is_formed_port p = is_port_name p.name && not (is_linkage p.mode)

-- The name of a timing generic is spelled as its parts are, its prefix may have its type, and its times are at most 2^50 fs.
pub record IsSoundGeneric (c : TypedCell) (g : TimingGeneric) : Type 0 where
  pub is_spelled : spelled c.ports g.name g.parts ≡ Some g.name
  pub typed : is_delay_type_of g.parts.kind (type_of g.default) ≡ true
  pub short : are_short g.default ≡ true

-- A wire joins an internal signal and an in or inout port, and its delay is a timing generic.
abbrev pub is_sound_wire : TypedCell → WireDelay → Bool
is_sound_wire c w = is_internal c.signals w.signal && (is_input_port c.ports w.port && list_any (λ g. bytes_eq g.name w.generic) c.generics)

-- A process of a sound cell.
pub record IsSoundProcess (c : TypedCell) (p : CellProcess) : Type 0 where
  -- Its names are identifiers, and differ from one another and from those of the cell.
  pub names_formed : All IsIdentifierName (names_of_process p)
  pub names_differ : IsDistinct bytes_eq (names_of_process p ++ names_of_cell c)
  -- The numbers in its list are those of bits.
  pub bits_there : All (λ n. n < bit_count c) p.sensitivity
  -- In its values, defaults and statements each name is there and means what is asked of it, tables fit the calls that name them, and times
  -- are at most 2^50 fs.
  pub constants_typed : AreSoundConstants c c.constants [] p.constants
  pub variables_typed : All (λ v. is_sound_kind (names_in_process c p) v.kind ≡ true) p.variables
  pub statements_typed : are_sound_sections (state_tables_in (in_process c p)) (actuals_in c p) p.sections ≡ true
  -- Each variable that keeps what a check or a path delay knows does so for one call.
  pub kept_once : IsDistinct bytes_eq (kept p.sections)

pub record IsSound (c : TypedCell) : Type 0 where
  -- Its names are identifiers, and differ.
  pub names_formed : All IsIdentifierName (names_of_cell c)
  pub names_differ : IsDistinct bytes_eq (names_of_cell c)
  pub ports_formed : All (λ p. is_formed_port p ≡ true) c.ports
  -- What constants of packages are worth is typed, and so are generics, defaults, controls and values, and what its processes declare and
  -- state; times are at most 2^50 fs.
  pub packages_sound : AreSoundPackages [] c.packages
  pub generics_sound : All (IsSoundGeneric c) c.generics
  pub plains_short : All (λ g. are_short g.default ≡ true) c.plain_generics
  pub ports_typed : All (λ p. is_sound_port (names_in_interface c) p ≡ true) c.ports
  pub controls_typed : are_sound_controls c c.controls ≡ true
  pub constants_typed : AreSoundConstants c [] [] c.constants
  pub processes_sound : All (IsSoundProcess c) c.processes
  -- No two wires drive one signal or have one port.
  pub wires_joined : All (λ w. is_sound_wire c w ≡ true) c.wires
  pub signals_driven_once : IsDistinct bytes_eq (map (λ w. w.signal) c.wires)
  pub ports_delayed_once : IsDistinct bytes_eq (map (λ w. w.port) c.wires)
  -- The block of wire delays stands behind no more processes than there are.
  pub order_there : c.processes_before_wires ≤ length c.processes
