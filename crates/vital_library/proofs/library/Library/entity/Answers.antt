use Rattle.std.proofs.Common.{◌≡◌, ◌<◌, length, None, Some, sym, ◌∙◌, ap, subst}
use Rattle.std.specs.Option.{option_copied}
use Rattle.std.specs.List.{slice_get}
use Rattle.vital_library.specs.Positions.{entity_at}
use Rattle.vital_library.specs.Units.{entities}
use Rattle.vital_library.proofs.LibraryLemmas.{entity-found, get-none}
use Rattle.vital_library.proofs.library.Library.entity.Goals as goal

pub unreachable-requires : goal.unreachable-requires
unreachable-requires c =
    let inside = c.self.inside in
    let there = subst (λ files. c.args.entity < length (entities files)) (sym c.self.view_is) c.requires in
    let none : entity_at inside.files c.index-entry.result.now.position ≡ None = ap (λ files. entity_at files c.index-entry.result.now.position) (sym c.as_slice.ensures) ∙ sym c.entity_in.ensures ∙ ap option_copied c.in-None.is in
    get-none (entities inside.files) c.args.entity (sym (entity-found inside.entries.items inside.files c.self.invariant.0 c.args.entity c.index-entry.result.now there c.index-entry.ensures) ∙ none) there

pub returns : goal.returns
returns c =
    let inside = c.self.inside in
    let there = subst (λ files. c.args.entity < length (entities files)) (sym c.self.view_is) c.requires in
    let found : entity_at inside.files c.index-entry.result.now.position ≡ Some c.in-Some.entity.now = ap (λ files. entity_at files c.index-entry.result.now.position) (sym c.as_slice.ensures) ∙ sym c.entity_in.ensures ∙ ap option_copied c.in-Some.is in
    ap (λ files. slice_get (entities files) c.args.entity) (sym c.self.view_is)
    ∙ sym (entity-found inside.entries.items inside.files c.self.invariant.0 c.args.entity c.index-entry.result.now there c.index-entry.ensures)
    ∙ found
