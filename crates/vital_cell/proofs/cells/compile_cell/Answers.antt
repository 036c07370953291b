use Rattle.std.proofs.Common.{List, [], length, map, sym, ◌∙◌, ap, subst}
use Rattle.std.specs.Prelude.{slice_get}
use Rattle.vital_cell.specs.Compiled.{IsCompiled}
use Rattle.vital_cell.proofs.ScopeLemmas.{known_scope, names-behind, none-worth, scope-is, worths-known, worths-long}
use Rattle.vital_cell.proofs.CellValueLemmas.{cell-sound-in}
use Rattle.vital_cell.specs.Environments.{NamedWorth}
use Rattle.vital_objects.specs.declared.constant.Constant.{Constant}
use Rattle.vital_cell.specs.Scopes.{Scope, named_worths, package_worths, truth_of}
use Rattle.vital_cell.specs.Values.{AreSoundIn}
use Rattle.vital_cell.proofs.cells.compile_cell.Goals as goal

pub put_worths-requires-clause-names : goal.put_worths-requires-clause-names
put_worths-requires-clause-names c = λ i name at.
    let constants = c.args.cell.now.constants in
    names-behind [] c.in_ok-known.known.constants (map (λ (q : Constant). q.name) constants) (length c.new-worths.result.items) i name c.in_ok-known.ensures.constants (ap length c.new-worths.ensures.items)
    (ap (λ ks. slice_get (map (λ (q : Constant). q.name) ks) i) (sym c.as_slice-constants.ensures) ∙ at)

pub put_worths-requires-clause-sound : goal.put_worths-requires-clause-sound
put_worths-requires-clause-sound c =
    let known = c.in_ok-known.known in
    let packages = c.as_slice-packages.result.now in
    let s = known_scope known packages c.as_slice-delays.result.now (truth_of c.control_truths-controls.result) [] in
    let P : List NamedWorth → Type 0 = λ ns. AreSoundIn s ns c.as_slice-constants.result.now in
    let Q : List Constant → Type 0 = λ ks. AreSoundIn s [] ks in
    subst P (sym (ap (named_worths known.constants) c.new-worths.ensures.items ∙ none-worth known.constants))
    (subst Q (sym c.as_slice-constants.ensures) (cell-sound-in c.args.cell.now s c.requires.sound (ap package_worths c.as_slice-packages.ensures.value ∙ c.in_ok-known.ensures.packages)))

pub compile_in-requires-clause-known : goal.compile_in-requires-clause-known
compile_in-requires-clause-known c =
    let cell = c.args.cell.now in
    let values = c.args.values.now in
    let known = c.in_ok-known.known in
    let packages = c.as_slice-packages.result.now in
    let delays = c.as_slice-delays.result.now in
    let controls = truth_of c.control_truths-controls.result in
    let ws = c.put_worths.new.worths.items in
    let worths =
    worths-known cell values known packages delays controls c.new-worths.result.items ws c.as_slice-constants.result.now c.requires.fit c.in_ok-known.ensures
    c.as_slice-packages.ensures.value c.as_slice-delays.ensures.value c.control_truths-controls.ensures c.new-worths.ensures.items c.as_slice-constants.ensures c.in_ok-put_worths.ensures in
    record {
      values = values;
      fit = c.requires.fit;
      is_scope =
          scope-is cell values known packages delays controls ws c.as_slice.result.now c.requires.fit c.in_ok-known.ensures
          c.as_slice-packages.ensures.value c.as_slice-delays.ensures.value c.control_truths-controls.ensures c.as_slice.ensures.value worths;
      names = c.in_ok-known.ensures.constants;
      worths = worths-long cell values known.constants c.as_slice.result.now (ap (named_worths known.constants) c.as_slice.ensures.value ∙ worths);
    }

pub returns : goal.returns
returns c =
    let cell = c.args.cell.now in
    let values = c.args.values.now in
    let known = c.in_ok-known.known in
    let packages = c.as_slice-packages.result.now in
    let delays = c.as_slice-delays.result.now in
    let controls = truth_of c.control_truths-controls.result in
    let ws = c.put_worths.new.worths.items in
    let worths =
    worths-known cell values known packages delays controls c.new-worths.result.items ws c.as_slice-constants.result.now c.requires.fit c.in_ok-known.ensures
    c.as_slice-packages.ensures.value c.as_slice-delays.ensures.value c.control_truths-controls.ensures c.new-worths.ensures.items c.as_slice-constants.ensures c.in_ok-put_worths.ensures in
    let is =
    scope-is cell values known packages delays controls ws c.as_slice.result.now c.requires.fit c.in_ok-known.ensures
    c.as_slice-packages.ensures.value c.as_slice-delays.ensures.value c.control_truths-controls.ensures c.as_slice.ensures.value worths in
    let P : Scope → Type 0 = λ q. IsCompiled q cell c.in_ok-program.program in
    c.compiled_stands.ensures cell values c.in_ok-program.program c.requires.sound c.requires.fit (subst P is c.in_ok-program.ensures)
