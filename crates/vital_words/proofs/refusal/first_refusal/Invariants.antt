use Rattle.std.proofs.Common.{◌≡◌, ◌+◌, [], take, drop}
use Rattle.vital_words.specs.Refusals.{first_refusal}
use Rattle.vital_words.proofs.refusal.first_refusal.Given as goal

abbrev pub invariant-loop-i : goal.invariant-loop-i
invariant-loop-i l = first_refusal l.rules (take l.i l.words) (l.i + 2) (drop l.i l.words) ≡ first_refusal l.rules [] 2 l.words
