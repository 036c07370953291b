-- The stage of reading: files are read in order, each by its kind, with one room of tokens for all of them.
use Rattle.std.specs.Prelude.{ℕ, ◌≡◌, ◌+◌, ◌-◌, List, [], ◌∷◌, ◌++◌, Result, Ok, Err}
use Rattle.vital_answers.specs.Answer.{◌>>=◌}
use Rattle.vital_answers.specs.Refusals.{IsFileRefusal, IsSdfRefusal}
use Rattle.vital_answers.specs.declared.loading.Source.{Source}
use Rattle.vital_answers.specs.declared.reading.ReadFile.{ReadFile}
use Rattle.vital_answers.specs.declared.reading.ReadFile.TheVariants.{Vhdl, Sdf, Stimuli}
use Rattle.vital_answers.specs.declared.reading.ReadFiles.{ReadFiles}
use Rattle.vital_answers.specs.declared.refusal.Refusal.{Refusal}
use Rattle.vital_sdf.specs.Outcomes as sdf
use Rattle.vital_sdf.specs.declared.group.SdfFile.{SdfFile}
use Rattle.vital_sdf.specs.declared.read.SdfError.{SdfError}
use Rattle.vital_vhdl.specs.Outcomes as vhdl
use Rattle.vital_vhdl.specs.declared.read.UnitError.{UnitError}
use Rattle.vital_nodes.specs.declared.unit.Role.{Role}
use Rattle.vital_nodes.specs.declared.unit.Role.TheVariants as role
use Rattle.vital_nodes.specs.declared.unit.Units.{Units}
use Rattle.vital_words.specs.declared.key.FileKind.{FileKind}
use Rattle.vital_words.specs.declared.key.FileKind.TheVariants as kind

-- ---- one file

-- What a file was read as, where these are its units, or why it has none.
abbrev pub IsOfUnits : ℕ → List ℕ → Result Units UnitError → Result ReadFile Refusal → Type 0
IsOfUnits number text (Ok units) outcome = outcome ≡ Ok (Vhdl units)
IsOfUnits number text (Err error) outcome = (refused_so : Refusal) × IsFileRefusal number text error refused_so × (outcome ≡ Err refused_so)

-- The same of entries.
abbrev pub IsOfEntries : ℕ → List ℕ → Result SdfFile SdfError → Result ReadFile Refusal → Type 0
IsOfEntries number text (Ok file) outcome = outcome ≡ Ok (Sdf file)
IsOfEntries number text (Err error) outcome = (refused_so : Refusal) × IsSdfRefusal number text error refused_so × (outcome ≡ Err refused_so)

abbrev pub IsVhdlRead : Role → ℕ → List ℕ → ℕ → Result ReadFile Refusal → Type 0
IsVhdlRead r number text room outcome = (read : Result Units UnitError) × vhdl.IsReading number r text room read × IsOfUnits number text read outcome

abbrev pub IsSdfRead : ℕ → List ℕ → ℕ → Result ReadFile Refusal → Type 0
IsSdfRead number text room outcome = (read : Result SdfFile SdfError) × sdf.IsReading number text room read × IsOfEntries number text read outcome

-- What comes of a file of a kind with a number, a text and room for so many tokens. A stimulus file is read later.
abbrev pub IsRead : FileKind → ℕ → List ℕ → ℕ → Result ReadFile Refusal → Type 0
IsRead kind.Lib number text room outcome = IsVhdlRead role.Lib number text room outcome
IsRead kind.Net number text room outcome = IsVhdlRead role.Net number text room outcome
IsRead kind.Sdf number text room outcome = IsSdfRead number text room outcome
IsRead kind.Stim number text room outcome = outcome ≡ Ok Stimuli

-- ---- all files

abbrev pub tokens_of : ReadFile → ℕ
tokens_of (Vhdl units) = units.tokens
tokens_of (Sdf file) = file.tokens
tokens_of Stimuli = 0

-- A file before others.
abbrev pub with_file : ReadFile → ReadFiles → ReadFiles
with_file (Vhdl units) others = record { units = units ∷ others.units; delays = others.delays }
with_file (Sdf file) others = record { units = others.units; delays = file ∷ others.delays }
with_file Stimuli others = others

-- What comes of files, after what came of the first of them: the others are read with the room that its tokens leave, or it is
-- refused.
abbrev pub Continues : Result ReadFile Refusal → (ℕ → Result ReadFiles Refusal → Type 0) → Result ReadFiles Refusal → Type 0
Continues (Ok first) AreReadAfter outcome =
    (others : Result ReadFiles Refusal) × AreReadAfter (tokens_of first) others × (outcome ≡ (others >>= λ read. Ok (with_file first read)))
Continues (Err refused_so) AreReadAfter outcome = outcome ≡ Err refused_so

-- What comes of reading files that are numbered from this number on, with room for so many tokens in all.
abbrev pub AreRead : ℕ → ℕ → List Source → Result ReadFiles Refusal → Type 0
AreRead number room [] outcome = outcome ≡ Ok (record { units = []; delays = [] })
AreRead number room (source ∷ sources) outcome =
    (first : Result ReadFile Refusal) × IsRead source.kind number source.text room first
    × Continues first (λ used. AreRead (number + 1) (room - used) sources) outcome
