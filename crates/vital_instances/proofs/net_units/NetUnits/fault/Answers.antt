use Rattle.std.proofs.Common.{length, refl, sym, ap, ◌∙◌}
use Rattle.std.proofs.lemmas.Option.{slice_get_past, slice_get_read}
use Rattle.std.specs.List.{slice_get}
use Rattle.vital_instances.specs.Contents.{contents_at, fault_in}
use Rattle.vital_instances.proofs.UnitLemmas.{known-is, unknown-is}
use Rattle.vital_instances.proofs.net_units.NetUnits.fault.Goals as goal

pub returns-in-Some : goal.returns-in-Some
returns-in-Some c =
    let known = c.self.inside.contents.items in
    let x = c.in-Some.contents.now in
    let same = ap (λ xs. slice_get xs c.args.number) (sym c.deref.ensures.value) in
    let there = same ∙ slice_get_read c.deref.result.now (length c.deref.result.now) c.args.number x refl c.in-Some.ensures.lookup.3.0 c.in-Some.ensures.lookup.1 in
    c.fault_in.ensures
    ∙ ap fault_in (known-is c.self.inside.library.now known c.args.number x c.self.invariant there)
    ∙ ap (λ files. fault_in (contents_at files c.args.number)) c.self.view_is

pub returns-in-None : goal.returns-in-None
returns-in-None c =
    let known = c.self.inside.contents.items in
    let same = ap (λ xs. slice_get xs c.args.number) (sym c.deref.ensures.value) in
    let past = same ∙ slice_get_past c.deref.result.now c.args.number c.in-None.ensures.lookup.3 in
    sym (ap fault_in (unknown-is c.self.inside.library.now known c.args.number c.self.invariant past))
    ∙ ap (λ files. fault_in (contents_at files c.args.number)) c.self.view_is
