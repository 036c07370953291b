use Rattle.std.proofs.Common.{List, length, map, take, refl, sym, ◌∙◌, ap, subst}
use Rattle.std.specs.Prelude.{slice_get}
use Rattle.vital_cell.specs.Compiled.{IsMadeProcess, IsSoundIn, values_in, with_variables}
use Rattle.vital_cell.proofs.CellProcessLemmas.{sound-in-values}
use Rattle.vital_cell.proofs.ScopeLemmas.{front-long, names-behind, own-worths, values-made}
use Rattle.vital_cell.proofs.CellValueLemmas.{process-sound-in}
use Rattle.vital_cell.specs.Environments.{NamedWorth, cell_constants}
use Rattle.vital_objects.specs.declared.constant.Constant.{Constant}
use Rattle.vital_cell.specs.Scopes.{Scope, lent, named_worths}
use Rattle.vital_cell.specs.Values.{AreSoundIn, with_constants}
use Rattle.vital_cell.proofs.processes.process_with_constants.Goals as goal

pub put_worths-requires-clause-names : goal.put_worths-requires-clause-names
put_worths-requires-clause-names c = λ i name at.
    let cell = c.args.cell.now in
    names-behind cell.constants c.in_ok-names.names (map (λ (q : Constant). q.name) c.args.process.now.constants) (length c.in_ok-worths.worths.items) i name
    (c.in_ok-names.ensures ∙ c.in_ok-names_of_constants.ensures)
    (front-long cell.constants c.args.scope.now.worths.now c.in_ok-worths.worths.items c.len.result c.len.ensures c.requires.known.worths c.in_ok-worths.ensures.items)
    (ap (λ ks. slice_get (map (λ (q : Constant). q.name) ks) i) (sym c.as_slice.ensures) ∙ at)

pub put_worths-requires-clause-sound : goal.put_worths-requires-clause-sound
put_worths-requires-clause-sound c =
    let cell = c.args.cell.now in
    let p = c.args.process.now in
    let k = lent c.args.scope.now in
    let known = c.requires.known in
    let ws = c.args.scope.now.worths.now in
    let s = with_constants k (named_worths c.in_ok-names.names ws) in
    let first =
    own-worths cell.constants c.args.scope.now.constants.now c.in_ok-names.names (map (λ (q : Constant). q.name) p.constants) ws c.in_ok-worths.worths.items known.names
    (c.in_ok-names.ensures ∙ c.in_ok-names_of_constants.ensures) known.worths (c.in_ok-worths.ensures.items ∙ ap (λ n. take n ws) c.len.ensures)
    ∙ ap (λ (q : Scope). q.constants) known.is_scope in
    let P : List NamedWorth → Type 0 = λ ns. AreSoundIn s ns c.as_slice.result.now in
    let Q : List Constant → Type 0 = λ ks. AreSoundIn s (cell_constants cell known.values) ks in
    subst P (sym first) (subst Q (sym c.as_slice.ensures) (process-sound-in cell known.values p s c.requires.sound_process (ap (λ (q : Scope). q.packages) known.is_scope)))

pub process_in-requires-clause-sound : goal.process_in-requires-clause-sound
process_in-requires-clause-sound c =
    let cell = c.args.cell.now in
    let p = c.args.process.now in
    let k = lent c.args.scope.now in
    let known = c.requires.known in
    let made =
    values-made k cell.constants p c.args.scope.now.constants.now c.in_ok-names.names c.args.scope.now.worths.now c.in_ok-worths.worths.items c.put_worths.new.worths.items c.as_slice-2.result.now c.len.result c.as_slice.result.now
    refl known.names (c.in_ok-names.ensures ∙ c.in_ok-names_of_constants.ensures) known.worths c.len.ensures c.in_ok-worths.ensures.items c.as_slice.ensures c.in_ok-put_worths.ensures c.as_slice-2.ensures.value in
    let P : Scope → Type 0 = λ q. IsSoundIn q p in
    subst P (sym (made ∙ ap (λ q. values_in q p) known.is_scope)) (sound-in-values cell known.values p c.requires.sound c.requires.sound_process known.fit)

pub returns-clause-made : goal.returns-clause-made
returns-clause-made c =
    let cell = c.args.cell.now in
    let p = c.args.process.now in
    let k = lent c.args.scope.now in
    let known = c.requires.known in
    let made =
    values-made k cell.constants p c.args.scope.now.constants.now c.in_ok-names.names c.args.scope.now.worths.now c.in_ok-worths.worths.items c.put_worths.new.worths.items c.as_slice-2.result.now c.len.result c.as_slice.result.now
    refl known.names (c.in_ok-names.ensures ∙ c.in_ok-names_of_constants.ensures) known.worths c.len.ensures c.in_ok-worths.ensures.items c.as_slice.ensures c.in_ok-put_worths.ensures c.as_slice-2.ensures.value in
    let P : Scope → Type 0 = λ q. IsMadeProcess q (with_variables q p.variables) c.args.driver p c.in_ok-made.made in
    subst P made c.in_ok-made.ensures.made
