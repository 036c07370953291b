use Rattle.std.proofs.Common.{ℕ, ◌-◌, ◌≤◌, length}
use Rattle.vital_lex.specs.Lexicon.{Parted}
use Rattle.vital_sdf_lexemes.specs.Sdf.{sdf}
use Rattle.vital_sdf_lexemes.proofs.sdf.SdfLexicon.pass_separators.Given as goal

abbrev pub invariant-loop-count : goal.invariant-loop-count
invariant-loop-count l = record {
  within : l.end ≤ length l.text;
  parted : (last : ℕ) → Parted sdf l.text l.end last → Parted sdf l.text l.at last;
}

abbrev pub decreases-loop-count : goal.decreases-loop-count
decreases-loop-count l = length l.text - l.end
