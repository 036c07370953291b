use Rattle.std.proofs.Common.{◌≡◌, ◌++◌, drop}
use Rattle.std.specs.List.{filter_map}
use Rattle.vital_words.specs.Jobs.{file_in}
use Rattle.vital_words.proofs.job.files_in.Given as goal

abbrev pub invariant-loop-word : goal.invariant-loop-word
invariant-loop-word l = l.files.items ++ filter_map (file_in l.rules) (drop l.word-index l.words) ≡ filter_map (file_in l.rules) l.words
