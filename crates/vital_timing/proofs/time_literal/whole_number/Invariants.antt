use Rattle.std.proofs.Common.{◌≡◌, min, take}
use Rattle.std.specs.Str.Parse.{digits_value}
use Rattle.vital_timing.specs.TimeLiterals.{digits_of}
use Rattle.vital_timing.proofs.time_literal.whole_number.Given as goal

abbrev pub invariant-loop-byte : goal.invariant-loop-byte
invariant-loop-byte l = l.number ≡ min (digits_value 10 (digits_of (take l.byte-index l.bytes))) 1_125_899_906_842_625
