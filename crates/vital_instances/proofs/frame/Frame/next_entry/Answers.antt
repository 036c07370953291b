use Rattle.std.proofs.Common.{length, refl, sym}
use Rattle.std.proofs.lemmas.Option.{slice_get_past, slice_get_read}
use Rattle.vital_instances.proofs.UnitLemmas.{next-none, next-some}
use Rattle.vital_instances.proofs.frame.Frame.next_entry.Goals as goal

pub returns-clause-entry : goal.returns-clause-entry
returns-clause-entry c =
    let xs = c.children.result.now in
    let x = c.in_ok-child.child.now in
    let there = slice_get_read xs (length xs) c.args.self.next x refl c.in_ok-child.ensures.lookup.3.0 c.in_ok-child.ensures.lookup.1 in
    sym (next-some c.args.units.now c.args.self xs x c.children.ensures there)

pub returns-in_err-child-clause-entry : goal.returns-in_err-child-clause-entry
returns-in_err-child-clause-entry c =
    let xs = c.children.result.now in
    let past = slice_get_past xs c.args.self.next c.in_err-child.ensures.lookup.3 in
    rw c.from_residual.ensures (sym (next-none c.args.units.now c.args.self xs c.children.ensures past))
