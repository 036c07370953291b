use Rattle.std.proofs.Common.{◌≡◌, drop}
use Rattle.std.specs.List.{filter_map}
use Rattle.vital_words.specs.Keys.{value_in}
use Rattle.vital_words.proofs.key.Key.value.Given as goal

abbrev pub invariant-loop-word : goal.invariant-loop-word
invariant-loop-word l = filter_map (value_in l.self) (drop l.word-index l.words) ≡ filter_map (value_in l.self) l.words
