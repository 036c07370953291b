use Rattle.std.proofs.Common.{◌≡◌, take}
use Rattle.vital_library.specs.Constants.{constants_of, lent}
use Rattle.vital_library.proofs.constants.constants_of.Given as goal

abbrev pub invariant-loop-file : goal.invariant-loop-file
invariant-loop-file l = lent l.constants.items ≡ constants_of (take l.file-index l.files)
