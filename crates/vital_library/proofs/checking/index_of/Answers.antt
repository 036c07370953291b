use Rattle.std.proofs.Common.{◌≤◌, length, subst, sym, ◌∙◌, ap, map}
use Rattle.std.specs.List.{position_from}
use Rattle.vital_library.specs.Entries.{entries_among}
use Rattle.vital_library.specs.Faults.{faults, least_of}
use Rattle.vital_library.specs.Numbers.{is_named}
use Rattle.vital_library.specs.Positions.{seen, units_in}
use Rattle.vital_library.specs.Units.{entities_among}
use Rattle.vital_library.proofs.NumberedLemmas.{seen-units}
use Rattle.vital_library.proofs.LibraryLemmas.{few-seen, gives-fault, gathered-sound, kept}
use Rattle.vital_library.proofs.checking.index_of.Goals as goal

pub returns-in-Some : goal.returns-in-Some
returns-in-Some c =
    let files = c.args.files.now in
    let units = c.in_ok-units.units.items in
    let same = ap (λ us. least_of (faults (units_in us))) c.deref.ensures.value ∙ ap (λ us. least_of (faults us)) (seen-units units files c.in_ok-units.ensures.units) in
    rw c.refusal.ensures (gives-fault files c.in-Some.fault c.in_ok-units.ensures.limit (sym c.in-Some.is ∙ c.in_ok-fault.ensures ∙ same))

pub returns : goal.returns
returns c =
    let files = c.args.files.now in
    let units = c.in_ok-units.units.items in
    let same = ap (λ us. least_of (faults (units_in us))) c.deref.ensures.value ∙ ap (λ us. least_of (faults us)) (seen-units units files c.in_ok-units.ensures.units) in
    kept files units c.in_ok-entries.entries.items c.in_ok-numbers.numbers
    (gathered-sound files c.in_ok-units.ensures.limit (sym c.in_default.is ∙ c.in_ok-fault.ensures ∙ same))
    c.in_ok-units.ensures.units
    (c.in_ok-entries.ensures ∙ ap (λ us. entries_among (map seen us)) c.deref-2.ensures.value)
    (λ name. c.in_ok-numbers.ensures name ∙ ap (λ us. position_from (is_named name) 0 (entities_among (units_in us))) c.deref-3.ensures.value)

pub numbers-requires : goal.numbers-requires
numbers-requires c = subst (λ us. length us ≤ 4096) (sym c.deref-3.ensures.value) (few-seen c.args.files.now c.in_ok-units.units.items c.in_ok-units.ensures.units c.in_ok-units.ensures.limit)
