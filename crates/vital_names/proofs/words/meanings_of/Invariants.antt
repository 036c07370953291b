use Rattle.std.proofs.Common.{◌≡◌, ℕ, List, map, take}
use Rattle.vital_names.specs.FirstNames.{first_in}
use Rattle.vital_names.specs.Words.{meaning_among}
use Rattle.vital_names.proofs.words.meanings_of.Given as goal

abbrev pub invariant-loop-word : goal.invariant-loop-word
invariant-loop-word l = (name : List ℕ) → first_in l.meanings name ≡ meaning_among name (map (λ word. (word.0.now, word.1)) (take l.word-index l.words))
