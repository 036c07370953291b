use Rattle.std.proofs.Common.{◌≡◌, ◌<◌, length, None, Some, sym, ◌∙◌, ap, subst, arith}
use Rattle.std.specs.List.{slice_get}
use Rattle.vital_library.specs.Positions.{role_at}
use Rattle.vital_library.specs.Units.{entities, roles}
use Rattle.vital_library.proofs.LibraryLemmas.{role-count, role-found, get-none}
use Rattle.vital_library.proofs.library.Library.role.Goals as goal

pub unreachable-requires : goal.unreachable-requires
unreachable-requires c =
    let inside = c.self.inside in
    let there = subst (λ files. c.args.entity < length (entities files)) (sym c.self.view_is) c.requires in
    let count = role-count inside.entries.items inside.files c.self.invariant.0 in
    let none : role_at inside.files c.index-entry.result.now.position ≡ None = ap (λ files. role_at files c.index-entry.result.now.position) (sym c.as_slice.ensures) ∙ sym c.role_in.ensures ∙ c.in-None.is in
    get-none (roles inside.files) c.args.entity (sym (role-found inside.entries.items inside.files c.self.invariant.0 c.args.entity c.index-entry.result.now there c.index-entry.ensures) ∙ none) (omega (arith, count, there))

pub returns : goal.returns
returns c =
    let inside = c.self.inside in
    let there = subst (λ files. c.args.entity < length (entities files)) (sym c.self.view_is) c.requires in
    let found : role_at inside.files c.index-entry.result.now.position ≡ Some c.in-Some.role = ap (λ files. role_at files c.index-entry.result.now.position) (sym c.as_slice.ensures) ∙ sym c.role_in.ensures ∙ c.in-Some.is in
    ap (λ files. slice_get (roles files) c.args.entity) (sym c.self.view_is)
    ∙ sym (role-found inside.entries.items inside.files c.self.invariant.0 c.args.entity c.index-entry.result.now there c.index-entry.ensures)
    ∙ found
