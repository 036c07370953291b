use Rattle.std.proofs.Common.{◌≡◌, ◌++◌, map, take}
use Rattle.vital_structure.specs.Contents.{content_of_decl, lent}
use Rattle.vital_structure.proofs.contents.put_declarations.Given as goal

abbrev pub invariant-loop-declaration : goal.invariant-loop-declaration
invariant-loop-declaration l = map lent l.contents.items ≡ map lent l.initial.contents.items ++ map content_of_decl (take l.declaration-index l.declarations)
