use Rattle.std.proofs.lemmas.List.Elements.{All-from_recursion}
use Rattle.vital_uses.specs.Nodes.{sited_interface}
use Rattle.vital_typed_cells.specs.TypedDefaults.{HasTypedDefault}
use Rattle.vital_typed_cells.proofs.Cells.{NamesTold, cell-sound, generics-typed}
use Rattle.vital_typed_cells.proofs.Generics.{types-fit}
use Rattle.vital_typed_cells.proofs.Told.{all-told}
use Rattle.vital_typed_cells.proofs.Verdict.{meets-by, names-met}
use Rattle.vital_typed_cells.proofs.laws.typed_is_sound.Goals as goal

pub returns : goal.returns
returns c cell read is =
    let met = meets-by cell is in
    let names = names-met cell is in
    let defaults = All-from_recursion (HasTypedDefault cell) (sited_interface cell.entity.generics) (types-fit cell (generics-typed cell read met)) in
    let told : NamesTold cell = record {
      formed = c.tree_names_are_formed.ensures.cell cell read;
      differ = c.tree_names_differ.ensures.cell cell read names.differ;
      processes_formed = c.tree_names_are_formed.ensures.processes cell read;
      processes_differ = c.tree_names_differ.ensures.processes cell read names.differ;
      ports_formed = c.ports_are_formed.ensures cell names.entity;
      spelled_so = c.timing_generics_are_formed.ensures.spelled cell;
      prefixed = c.timing_generics_are_formed.ensures.typed cell names.entity defaults;
      bits = c.bits_are_there.ensures cell;
      kept_once = c.tree_states_differ.ensures cell read names.kept;
      delays = c.wires_have_generics.ensures cell names.entity;
      signals_once = c.tree_wires_are_apart.ensures.signals cell names.joined names.driven;
      ports_once = c.tree_wires_are_apart.ensures.ports cell names.joined names.driven;
      order = c.processes_stand_before_wires.ensures cell;
    } in
    cell-sound all-told cell read met told
