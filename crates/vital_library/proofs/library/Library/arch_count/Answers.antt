use Rattle.std.proofs.Common.{◌<◌, length, sym, ◌∙◌, ap, subst, arith}
use Rattle.vital_library.specs.Units.{entities, archs_of_entity}
use Rattle.vital_library.proofs.LibraryLemmas.{archs-count, few-archs}
use Rattle.vital_library.proofs.library.Library.arch_count.Goals as goal

pub overflow_cast-result : goal.overflow_cast-result
overflow_cast-result c =
    let inside = c.self.inside in
    let there = subst (λ files. c.args.entity < length (entities files)) (sym c.self.view_is) c.requires in
    let count = archs-count inside.entries.items inside.files c.self.invariant.0 c.args.entity c.index.result.now there c.index.ensures in
    omega (arith, count, few-archs inside.files c.args.entity c.self.invariant.0.sound)

pub returns : goal.returns
returns c =
    let inside = c.self.inside in
    let there = subst (λ files. c.args.entity < length (entities files)) (sym c.self.view_is) c.requires in
    let count =
    archs-count inside.entries.items inside.files c.self.invariant.0 c.args.entity c.index.result.now there c.index.ensures
    ∙ ap (λ files. length (archs_of_entity c.args.entity files)) c.self.view_is in
    omega (arith, count)
