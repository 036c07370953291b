-- The typed tree of a cell that meets the clauses is sound.
use Rattle.std.proofs.Common.{◌≡◌, ◌+◌, ◌<◌, ◌≤◌, true, false, [], length, map, Some, ap}
use Rattle.std.specs.Prelude.{All, AllPairs, ◌++◌, not}
use Rattle.std.specs.List.{AllByRecursion, IsDistinct, list_any}
use Rattle.std.specs.Str.{bytes_eq}
use Rattle.std.proofs.lemmas.List.Elements.{All-from_recursion, recursion_from_All}
use Rattle.vital_level0.specs.Clauses.{is_delay_type_of, is_linkage}
use Rattle.vital_names.specs.Declarations.{declared_in}
use Rattle.vital_names.specs.Sites.{Cell}
use Rattle.vital_nodes.specs.declared.stmt.Process.{Process}
use Rattle.vital_nodes.specs.IdentifierNames.{IsIdentifierName}
use Rattle.vital_objects.specs.Constants.{constants}
use Rattle.vital_objects.specs.Generics.{plain_generics}
use Rattle.vital_objects.specs.Ports.{ports}
use Rattle.vital_objects.specs.Signals.{signals}
use Rattle.vital_objects.specs.Variables.{variables}
use Rattle.vital_timing.specs.Delays.{type_of}
use Rattle.vital_typed_cells.specs.Packages.{sound_values}
use Rattle.vital_typed_cells.specs.declared.process.CellProcess.{CellProcess}
use Rattle.vital_typed_cells.specs.declared.wire.WireDelay.{WireDelay}
use Rattle.vital_typed_cells.specs.Processes.{process}
use Rattle.vital_typed_cells.specs.Typed.{typed, typed_with}
use Rattle.vital_typed_cells.specs.Wires.{wires}
use Rattle.vital_uses.specs.Nodes.{sited_interface}
use Rattle.vital_uses.specs.Statements.{processes}
use Rattle.vital_typed_cells.specs.Times.{are_short}
use Rattle.vital_typed_cells.specs.KeptStates.{kept}
use Rattle.vital_typed_cells.specs.SpelledNames.{is_port_name, spelled}
use Rattle.vital_typed_cells.specs.TreeNames.{names_of_cell, names_of_process}
use Rattle.vital_as_read.specs.AsRead.{IsAsRead, StandsBefore}
use Rattle.vital_typed_cells.specs.Named.{is_input_port, is_internal}
use Rattle.vital_typed_cells.specs.Sound.{IsSound, IsSoundGeneric, IsSoundProcess, is_formed_port, is_sound_wire, names_in_interface, names_in_process}
use Rattle.vital_typed_cells.specs.SoundDeclarations.{is_sound_kind, is_sound_port}
use Rattle.vital_typed_cells.proofs.AsRead.{processes-in-order}
use Rattle.vital_typed_cells.proofs.ConstantOrder.{body-constants-sound, process-constants-sound, variable-sites}
use Rattle.vital_typed_cells.proofs.DeclarationSound.{variables-sound}
use Rattle.vital_typed_cells.proofs.Defaults.{generics-read}
use Rattle.vital_typed_cells.proofs.Facts.{Meets}
use Rattle.vital_typed_cells.proofs.Found.{all-mapped, weaker}
use Rattle.vital_typed_cells.proofs.Generics.{DefaultTyped, defaults-typed, plains-short, timings-short}
use Rattle.vital_typed_cells.proofs.InterfaceSound.{controls-sound, ports-sound}
use Rattle.vital_typed_cells.proofs.Lists.{all-both, of-mapped}
use Rattle.vital_typed_cells.proofs.PackageSound.{packages-sound}
use Rattle.vital_typed_cells.proofs.ProcessSections.{SoundSections, processes-sound}
use Rattle.vital_typed_cells.proofs.Tests.{both-true, first-true, second-true}
use Rattle.vital_typed_cells.proofs.ValueTrees.{AllTold}
use Rattle.vital_typed_cells.proofs.ValueScopes.{own_constants}
use Rattle.vital_typed_cells.proofs.Views.{IsGood, goods}
use Rattle.vital_typed_cells.proofs.WiresSound.{IsJoined, wires-sound}

-- ---- names

-- The names of a process.
pub record ProcessNames (cell : Cell) (p : CellProcess) : Type 0 where
  pub formed : All IsIdentifierName (names_of_process p)
  pub differ : IsDistinct bytes_eq (names_of_process p ++ names_of_cell (typed cell))
  pub bits : All (λ n. n < length (typed cell).ports + length (typed cell).signals) p.sensitivity
  pub kept_once : IsDistinct bytes_eq (kept p.sections)

-- What other laws tell of the names, numbers and wires of a typed tree.
pub record NamesTold (cell : Cell) : Type 0 where
  pub formed : All IsIdentifierName (names_of_cell (typed cell))
  pub differ : IsDistinct bytes_eq (names_of_cell (typed cell))
  pub processes_formed : All (λ p. All IsIdentifierName (names_of_process p)) (typed cell).processes
  pub processes_differ : All (λ p. IsDistinct bytes_eq (names_of_process p ++ names_of_cell (typed cell))) (typed cell).processes
  pub ports_formed : All (λ p. (is_port_name p.name ≡ true) × (is_linkage p.mode ≡ false)) (typed cell).ports
  pub spelled_so : All (λ g. spelled (typed cell).ports g.name g.parts ≡ Some g.name) (typed cell).generics
  pub prefixed : All (λ g. is_delay_type_of g.parts.kind (type_of g.default) ≡ true) (typed cell).generics
  pub bits : All (λ p. All (λ n. n < length (typed cell).ports + length (typed cell).signals) p.sensitivity) (typed cell).processes
  pub kept_once : All (λ p. IsDistinct bytes_eq (kept p.sections)) (typed cell).processes
  pub delays : All (λ w. list_any (λ g. bytes_eq g.name w.generic) (typed cell).generics ≡ true) (typed cell).wires
  pub signals_once : IsDistinct bytes_eq (map (λ w. w.signal) (typed cell).wires)
  pub ports_once : IsDistinct bytes_eq (map (λ w. w.port) (typed cell).wires)
  pub order : (typed cell).processes_before_wires ≤ length (typed cell).processes

process-names : (cell : Cell) → NamesTold cell → AllByRecursion (ProcessNames cell) (typed cell).processes
process-names cell names =
    weaker (λ p. (All IsIdentifierName (names_of_process p) × IsDistinct bytes_eq (names_of_process p ++ names_of_cell (typed cell)))
    × (All (λ n. n < length (typed cell).ports + length (typed cell).signals) p.sensitivity × IsDistinct bytes_eq (kept p.sections))) (ProcessNames cell)
    (λ p all. record { formed = all.0.0; differ = all.0.1; bits = all.1.0; kept_once = all.1.1 }) (typed cell).processes
    (all-both (λ p. All IsIdentifierName (names_of_process p) × IsDistinct bytes_eq (names_of_process p ++ names_of_cell (typed cell))) _ (typed cell).processes
    (all-both (λ p. All IsIdentifierName (names_of_process p)) (λ p. IsDistinct bytes_eq (names_of_process p ++ names_of_cell (typed cell))) (typed cell).processes
    (recursion_from_All (λ p. All IsIdentifierName (names_of_process p)) (typed cell).processes names.processes_formed)
    (recursion_from_All (λ p. IsDistinct bytes_eq (names_of_process p ++ names_of_cell (typed cell))) (typed cell).processes names.processes_differ))
    (all-both (λ p. All (λ n. n < length (typed cell).ports + length (typed cell).signals) p.sensitivity) (λ p. IsDistinct bytes_eq (kept p.sections)) (typed cell).processes
    (recursion_from_All (λ p. All (λ n. n < length (typed cell).ports + length (typed cell).signals) p.sensitivity) (typed cell).processes names.bits)
    (recursion_from_All (λ p. IsDistinct bytes_eq (kept p.sections)) (typed cell).processes names.kept_once)))

-- ---- processes

-- What is so of a process of a cell that meets the clauses.
abbrev ProcessFacts : Cell → Process → Type 0
ProcessFacts cell q = IsGood cell q × (ProcessNames cell (process cell [] q) × (SoundSections cell q × AllPairs StandsBefore (declared_in q.declarations)))

process-sound : (told : AllTold) (cell : Cell) (q : Process) → IsAsRead cell → Meets cell → ProcessFacts cell q → IsSoundProcess (typed cell) (process cell [] q)
unfolding typed typed_with
process-sound told cell q read met facts = record {
  names_formed = facts.1.0.formed;
  names_differ = facts.1.0.differ;
  bits_there = facts.1.0.bits;
  constants_typed = process-constants-sound told cell q read met facts.0 facts.1.1.1;
  variables_typed =
      All-from_recursion (λ v. is_sound_kind (names_in_process (typed cell) (process cell [] q)) v.kind ≡ true) (variables cell [] q)
      (variables-sound cell q (constants cell [] (Some q) q.declarations ++ own_constants cell) read met facts.0 (variable-sites told cell q read met facts.0) facts.0.free.declarations);
  statements_typed = facts.1.1.0;
  kept_once = facts.1.0.kept_once;
}

processes-there : (told : AllTold) (cell : Cell) → IsAsRead cell → Meets cell → NamesTold cell → AllByRecursion (λ q. IsSoundProcess (typed cell) (process cell [] q)) (processes cell.arch)
unfolding typed typed_with
processes-there told cell read met names =
    weaker (ProcessFacts cell) (λ q. IsSoundProcess (typed cell) (process cell [] q)) (λ q facts. process-sound told cell q read met facts) (processes cell.arch)
    (all-both (IsGood cell) _ (processes cell.arch) (goods cell read met)
    (all-both (λ q. ProcessNames cell (process cell [] q)) _ (processes cell.arch) (of-mapped (ProcessNames cell) (process cell []) (processes cell.arch) (process-names cell names))
    (all-both (SoundSections cell) (λ q. AllPairs StandsBefore (declared_in q.declarations)) (processes cell.arch) (processes-sound told cell read met)
    (processes-in-order cell read))))

-- ---- the interface and the wires

pub generics-typed : (cell : Cell) → IsAsRead cell → Meets cell → AllByRecursion (DefaultTyped cell) (sited_interface cell.entity.generics)
generics-typed cell read met = defaults-typed cell read.packages (generics-read cell read.entity.generics_together met.named)

generics-there : (cell : Cell) → IsAsRead cell → Meets cell → NamesTold cell → AllByRecursion (IsSoundGeneric (typed cell)) (typed cell).generics
unfolding typed typed_with
generics-there cell read met names =
    weaker (λ g. (spelled (typed cell).ports g.name g.parts ≡ Some g.name) × ((is_delay_type_of g.parts.kind (type_of g.default) ≡ true) × (are_short g.default ≡ true))) (IsSoundGeneric (typed cell))
    (λ g all. record { is_spelled = all.0; typed = all.1.0; short = all.1.1 }) (typed cell).generics
    (all-both (λ g. spelled (typed cell).ports g.name g.parts ≡ Some g.name) _ (typed cell).generics (recursion_from_All (λ g. spelled (typed cell).ports g.name g.parts ≡ Some g.name) (typed cell).generics names.spelled_so)
    (all-both (λ g. is_delay_type_of g.parts.kind (type_of g.default) ≡ true) (λ g. are_short g.default ≡ true) (typed cell).generics
    (recursion_from_All (λ g. is_delay_type_of g.parts.kind (type_of g.default) ≡ true) (typed cell).generics names.prefixed) (timings-short cell (generics-typed cell read met))))

ports-there : (cell : Cell) → NamesTold cell → AllByRecursion (λ p. is_formed_port p ≡ true) (typed cell).ports
ports-there cell names =
    weaker (λ p. (is_port_name p.name ≡ true) × (is_linkage p.mode ≡ false)) (λ p. is_formed_port p ≡ true) (λ p both. both-true (is_port_name p.name) (not (is_linkage p.mode)) both.0 (ap not both.1)) (typed cell).ports
    (recursion_from_All (λ p. (is_port_name p.name ≡ true) × (is_linkage p.mode ≡ false)) (typed cell).ports names.ports_formed)

one-wire : (cell : Cell) (w : WireDelay) → IsJoined cell w → list_any (λ g. bytes_eq g.name w.generic) (typed cell).generics ≡ true → is_sound_wire (typed cell) w ≡ true
unfolding typed typed_with
one-wire cell w joined delay =
    both-true (is_internal (signals cell) w.signal) _ (first-true (is_internal (signals cell) w.signal) (is_input_port (ports cell []) w.port) joined)
    (both-true (is_input_port (ports cell []) w.port) (list_any (λ g. bytes_eq g.name w.generic) (typed cell).generics) (second-true (is_internal (signals cell) w.signal) (is_input_port (ports cell []) w.port) joined) delay)

wires-there : (cell : Cell) → Meets cell → NamesTold cell → AllByRecursion (λ w. is_sound_wire (typed cell) w ≡ true) (typed cell).wires
unfolding typed typed_with
wires-there cell met names =
    weaker (λ w. IsJoined cell w × (list_any (λ g. bytes_eq g.name w.generic) (typed cell).generics ≡ true)) (λ w. is_sound_wire (typed cell) w ≡ true) (λ w both. one-wire cell w both.0 both.1) (wires cell)
    (all-both (IsJoined cell) (λ w. list_any (λ g. bytes_eq g.name w.generic) (typed cell).generics ≡ true) (wires cell) (wires-sound cell met)
    (recursion_from_All (λ w. list_any (λ g. bytes_eq g.name w.generic) (typed cell).generics ≡ true) (wires cell) names.delays))

-- ---- cells

pub cell-sound : (told : AllTold) (cell : Cell) → IsAsRead cell → Meets cell → NamesTold cell → IsSound (typed cell)
unfolding typed typed_with
cell-sound told cell read met names = record {
  names_formed = names.formed;
  names_differ = names.differ;
  ports_formed = All-from_recursion (λ p. is_formed_port p ≡ true) (typed cell).ports (ports-there cell names);
  generics_sound = All-from_recursion (IsSoundGeneric (typed cell)) (typed cell).generics (generics-there cell read met names);
  packages_sound = packages-sound cell.files read.packages;
  plains_short = All-from_recursion (λ g. are_short g.default ≡ true) (plain_generics cell [] (sound_values cell.files)) (plains-short cell (generics-typed cell read met));
  ports_typed = All-from_recursion (λ p. is_sound_port (names_in_interface (typed cell)) p ≡ true) (ports cell []) (ports-sound cell read met);
  controls_typed = controls-sound cell read met;
  constants_typed = body-constants-sound told cell read met;
  processes_sound =
      All-from_recursion (IsSoundProcess (typed cell)) (map (process cell []) (processes cell.arch))
      (all-mapped (IsSoundProcess (typed cell)) (process cell []) (processes cell.arch) (processes-there told cell read met names));
  wires_joined = All-from_recursion (λ w. is_sound_wire (typed cell) w ≡ true) (typed cell).wires (wires-there cell met names);
  signals_driven_once = names.signals_once;
  ports_delayed_once = names.ports_once;
  order_there = names.order;
}
