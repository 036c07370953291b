use Rattle.std.proofs.Common.{◌≡◌, ◌<◌, length, None, Some, sym, ◌∙◌, ap, subst, arith}
use Rattle.std.specs.Option.{option_copied}
use Rattle.std.specs.List.{slice_get}
use Rattle.vital_library.specs.Positions.{arch_at}
use Rattle.vital_library.specs.Units.{entities, archs_of_entity}
use Rattle.vital_library.proofs.LibraryLemmas.{archs-count, arch-found, get-none}
use Rattle.vital_library.proofs.library.Library.arch.Goals as goal

pub index-requires : goal.index-requires
index-requires c =
    let inside = c.self.inside in
    let there = subst (λ files. c.args.entity < length (entities files)) (sym c.self.view_is) c.requires.entity_there in
    let lt = subst (λ files. c.args.arch < length (archs_of_entity c.args.entity files)) (sym c.self.view_is) c.requires.arch_there in
    let count = archs-count inside.entries.items inside.files c.self.invariant.0 c.args.entity c.index-entry.result.now there c.index-entry.ensures in
    omega (arith, count, lt)

pub unreachable-requires : goal.unreachable-requires
unreachable-requires c =
    let inside = c.self.inside in
    let there = subst (λ files. c.args.entity < length (entities files)) (sym c.self.view_is) c.requires.entity_there in
    let lt = subst (λ files. c.args.arch < length (archs_of_entity c.args.entity files)) (sym c.self.view_is) c.requires.arch_there in
    let none : arch_at inside.files c.index.result.now ≡ None = ap (λ files. arch_at files c.index.result.now) (sym c.as_slice.ensures) ∙ sym c.arch_in.ensures ∙ ap option_copied c.in-None.is in
    get-none (archs_of_entity c.args.entity inside.files) c.args.arch (sym (arch-found inside.entries.items inside.files c.self.invariant.0 c.args.entity c.index-entry.result.now there c.index-entry.ensures c.args.arch c.index.result.now lt c.index.ensures) ∙ none) lt

pub returns : goal.returns
returns c =
    let inside = c.self.inside in
    let there = subst (λ files. c.args.entity < length (entities files)) (sym c.self.view_is) c.requires.entity_there in
    let lt = subst (λ files. c.args.arch < length (archs_of_entity c.args.entity files)) (sym c.self.view_is) c.requires.arch_there in
    let found : arch_at inside.files c.index.result.now ≡ Some c.in-Some.arch.now = ap (λ files. arch_at files c.index.result.now) (sym c.as_slice.ensures) ∙ sym c.arch_in.ensures ∙ ap option_copied c.in-Some.is in
    ap (λ files. slice_get (archs_of_entity c.args.entity files) c.args.arch) (sym c.self.view_is)
    ∙ sym (arch-found inside.entries.items inside.files c.self.invariant.0 c.args.entity c.index-entry.result.now there c.index-entry.ensures c.args.arch c.index.result.now lt c.index.ensures)
    ∙ found
