use Rattle.std.proofs.Common.{◌≡◌, length, map}
use Rattle.vital_vhdl_lexemes.specs.Bytes.{lower_case}
use Rattle.vital_vhdl_lexemes.specs.Forms.{kind_in}
use Rattle.vital_vhdl_lexemes.proofs.words.kind_in.Given as goal

abbrev pub invariant-loop-table : goal.invariant-loop-table
invariant-loop-table l =
    kind_in (map (λ k. (k.0.now, k.1)) l.table) (map lower_case l.word) ≡ kind_in (map (λ k. (k.0.now, k.1)) l.initial.table) (map lower_case l.word)

abbrev pub decreases-loop-table : goal.decreases-loop-table
decreases-loop-table l = length l.table
