-- A shelf over memory.
use Rattle.std.specs.Prelude.{ℕ, List, [], Option, find, drop, slice_get, unwrap_or}
use Rattle.std.specs.Option.{option_map}
use Rattle.std.specs.Str.{bytes_eq}
use Rattle.vital_base.specs.declared.mem_shelf.MemFile.{MemFile}
use Rattle.vital_base.specs.declared.mem_shelf.OpenFile.{OpenFile}

-- What a name holds among these files: the bytes of the first file of that name.
abbrev pub file_named : List MemFile → List ℕ → Option (List ℕ)
file_named files name = option_map (λ file. file.bytes) (find (λ file. bytes_eq file.name name) files)

-- The bytes of the file with this number, counted from 0.
abbrev pub bytes_at : List MemFile → ℕ → List ℕ
bytes_at files index = unwrap_or (option_map (λ file. file.bytes) (slice_get files index)) []

-- What is left of an open file: all its bytes but those that were read.
abbrev pub left_of : List MemFile → OpenFile → List ℕ
left_of files open_file = drop open_file.read (bytes_at files open_file.index)

-- A shelf over memory: its files, the most that a read takes, the numbers of the calls of open and read that fail, counted
-- together from 1, how many such calls and faults there were, and what is left of the open file.
pub record MemShelfState : Type 0 where
  pub files : List MemFile
  pub piece : ℕ
  pub fails : List ℕ
  pub calls : ℕ
  pub faults : ℕ
  pub opened : Option (List ℕ)
