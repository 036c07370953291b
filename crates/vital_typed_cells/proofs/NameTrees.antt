-- The names that a typed tree declares are among those that its cell declares.
use Rattle.std.proofs.Common.{ℕ, ◌≤◌, List, [], ◌++◌, Some, None, get_or, map, ap, arith}
use Rattle.std.proofs.lemmas.List.{map-append}
use Rattle.std.proofs.lemmas.List.Elements.{All-append, All-map}
use Rattle.std.specs.Prelude.{All}
use Rattle.std.specs.List.{IsDistinct}
use Rattle.std.specs.Str.{bytes_eq}
use Rattle.vital_as_read.specs.AsRead.{IsAsRead}
use Rattle.vital_typed_cells.specs.Packages.{sound_values}
use Rattle.vital_typed_cells.specs.Processes.{process}
use Rattle.vital_typed_cells.specs.Typed.{typed, typed_with}
use Rattle.vital_names.specs.Declarations.{Declared, body_of, declared_in, interface_of}
use Rattle.vital_names.specs.Sites.{Cell}
use Rattle.vital_nodes.specs.IdentifierNames.{IsIdentifierName}
use Rattle.vital_nodes.specs.declared.stmt.Process.{Process}
use Rattle.vital_objects.specs.Constants.{constants}
use Rattle.vital_objects.specs.Generics.{plain_generics, timing_generics}
use Rattle.vital_objects.specs.Ports.{ports}
use Rattle.vital_objects.specs.Signals.{declarations, signals}
use Rattle.vital_objects.specs.Variables.{variables}
use Rattle.vital_typed_cells.specs.Names.{name_of, names_of}
use Rattle.vital_uses.specs.Statements.{processes as processes_of}
use Rattle.vital_typed_cells.specs.TreeNames.{names_of_cell, names_of_process}
use Rattle.vital_typed_cells.proofs.Declarations.{body-part, process-part}
use Rattle.vital_typed_cells.proofs.Interface.{generics-part, interface-named, interface_names, ports-named}
use Rattle.vital_typed_cells.proofs.Parts.{IsPart, all-part, distinct-part, times, times-append}

-- ---- typed trees

-- All names that a cell declares.
abbrev pub cell_names : Cell → List (List ℕ)
cell_names cell = names_of (body_of cell.arch ++ interface_of cell.entity)

cell-part : (cell : Cell) (n : List ℕ) → times n (names_of_cell (typed cell)) ≤ times n (cell_names cell)
unfolding typed typed_with
cell-part cell n =
    let known = sound_values cell.files in
    let ps = map (λ p. p.name) (ports cell []) in
    let ts = map (λ g. g.name) (timing_generics cell [] known) in
    let gs = map (λ g. g.name) (plain_generics cell [] known) in
    let ss = map (λ s. s.name) (signals cell) in
    let cs = map (λ k. k.name) (constants cell [] None (declarations cell.arch)) in
    let body = body-part cell [] n in
    let generics = generics-part cell [] known n in
    omega (
      arith,
      body,
      generics,
      ap (times n) (ports-named cell []),
      times-append n (ps ++ ts ++ gs ++ ss) cs,
      times-append n (ps ++ ts ++ gs) ss,
      times-append n (ps ++ ts) gs,
      times-append n ps ts,
      ap (times n) (map-append name_of (body_of cell.arch) (interface_of cell.entity)),
      times-append n (names_of (body_of cell.arch)) (names_of (interface_of cell.entity)),
      ap (times n) (interface-named cell),
      times-append n (interface_names cell.entity.generics) (interface_names cell.entity.ports),
    )

pub names-in-cell : (cell : Cell) → IsPart (names_of_cell (typed cell)) (cell_names cell)
names-in-cell cell = record { at_most = cell-part cell }

pub names-in-process : (cell : Cell) (p : Process) → IsPart (names_of_process (process cell [] p) ++ names_of_cell (typed cell)) (names_of (declared_in p.declarations ++ (body_of cell.arch ++ interface_of cell.entity)))
names-in-process cell p = record {
  at_most = λ n.
      let cs = map (λ k. k.name) (constants cell [] (Some p) p.declarations) in
      let vs = map (λ v. v.name) (variables cell [] p) in
      let own = process-part cell [] p n in
      let outer = cell-part cell n in
      omega (
        arith,
        own,
        outer,
        times-append n (cs ++ vs) (names_of_cell (typed cell)),
        times-append n cs vs,
        ap (times n) (map-append name_of (declared_in p.declarations) (body_of cell.arch ++ interface_of cell.entity)),
        times-append n (names_of (declared_in p.declarations)) (cell_names cell),
      );
}

pub own-names-in-process : (cell : Cell) (p : Process) → IsPart (names_of_process (process cell [] p)) (names_of (declared_in p.declarations))
own-names-in-process cell p = record {
  at_most = λ n.
      let own = process-part cell [] p n in
      omega (arith, own, times-append n (map (λ k. k.name) (constants cell [] (Some p) p.declarations)) (map (λ v. v.name) (variables cell [] p)));
}

-- ---- laws

pub cell-differs : (cell : Cell) → IsDistinct bytes_eq (cell_names cell) → IsDistinct bytes_eq (names_of_cell (typed cell))
cell-differs cell differ = distinct-part (names_of_cell (typed cell)) (cell_names cell) (names-in-cell cell) differ

process-differs : (cell : Cell) (p : Process) → IsDistinct bytes_eq (names_of (declared_in p.declarations ++ (body_of cell.arch ++ interface_of cell.entity)))
    → IsDistinct bytes_eq (names_of_process (process cell [] p) ++ names_of_cell (typed cell))
process-differs cell p differ =
    distinct-part (names_of_process (process cell [] p) ++ names_of_cell (typed cell)) (names_of (declared_in p.declarations ++ (body_of cell.arch ++ interface_of cell.entity)))
    (names-in-process cell p) differ

pub processes-differ : (cell : Cell) → All (λ p. IsDistinct bytes_eq (names_of (declared_in p.declarations ++ (body_of cell.arch ++ interface_of cell.entity)))) (processes_of cell.arch)
    → All (λ q. IsDistinct bytes_eq (names_of_process q ++ names_of_cell (typed cell))) (map (process cell []) (processes_of cell.arch))
processes-differ cell differ = All-map (λ q. IsDistinct bytes_eq (names_of_process q ++ names_of_cell (typed cell))) (process cell []) (processes_of cell.arch)
    (λ k p inside. process-differs cell (get_or (processes_of cell.arch) k p) (differ k p inside))

all-named : (ds : List Declared) → All (λ d. IsIdentifierName (name_of d)) ds → All IsIdentifierName (names_of ds)
all-named ds named = All-map IsIdentifierName name_of ds named

pub cell-formed : (cell : Cell) → IsAsRead cell → All IsIdentifierName (names_of_cell (typed cell))
cell-formed cell read =
    all-part IsIdentifierName (names_of_cell (typed cell)) (cell_names cell) (names-in-cell cell)
    (all-named (body_of cell.arch ++ interface_of cell.entity)
    (All-append (λ d. IsIdentifierName (name_of d)) (body_of cell.arch) (interface_of cell.entity) read.arch.named read.entity.named))

process-formed : (cell : Cell) (p : Process) → All (λ d. IsIdentifierName (name_of d)) (declared_in p.declarations) → All IsIdentifierName (names_of_process (process cell [] p))
process-formed cell p named =
    all-part IsIdentifierName (names_of_process (process cell [] p)) (names_of (declared_in p.declarations)) (own-names-in-process cell p) (all-named (declared_in p.declarations) named)

pub processes-formed : (cell : Cell) → IsAsRead cell → All (λ q. All IsIdentifierName (names_of_process q)) (map (process cell []) (processes_of cell.arch))
processes-formed cell read = All-map (λ q. All IsIdentifierName (names_of_process q)) (process cell []) (processes_of cell.arch)
    (λ k p inside. process-formed cell (get_or (processes_of cell.arch) k p) (read.arch.processes k p inside).named)
