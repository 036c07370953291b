use Rattle.std.proofs.Common.{◌≡◌, ℕ, ◌-◌, ◌<◌, ◌≤◌, false, length, get_or}
use Rattle.vital_lex.specs.Lexicon.{Parted}
use Rattle.vital_vhdl_lexemes.specs.Bytes.{is_blank}
use Rattle.vital_vhdl_lexemes.specs.Vhdl.{vhdl}
use Rattle.vital_vhdl_lexemes.proofs.ends.separators_end.Given as goal

abbrev pub invariant-loop-after : goal.invariant-loop-after
invariant-loop-after l = record {
  inside : l.end ≤ length l.text;
  no_blank : l.end < length l.text → is_blank (get_or l.text l.end 0) ≡ false;
  parted : (target : ℕ) → Parted vhdl l.text l.end target → Parted vhdl l.text l.fn.at target;
}

abbrev pub decreases-loop-after : goal.decreases-loop-after
decreases-loop-after l = length l.text - l.end
