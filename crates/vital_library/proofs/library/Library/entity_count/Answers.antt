use Rattle.std.proofs.Common.{arith}
use Rattle.vital_library.proofs.LibraryLemmas.{entry-count, few-entities}
use Rattle.vital_library.proofs.library.Library.entity_count.Goals as goal

pub overflow_cast-result : goal.overflow_cast-result
overflow_cast-result c =
    let inside = c.self.inside in
    let count = entry-count inside.entries.items inside.files c.self.invariant.0 in
    omega (arith, count, few-entities inside.files c.self.invariant.0.sound)
