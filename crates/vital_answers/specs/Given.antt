-- How what the calls of the stages return is read.
use Rattle.std.specs.Prelude.{◌≡◌, ℕ, List, [], ◌∷◌, ◌++◌, Option, Some, None, Result, Ok, Err}
use Rattle.vital_as_read.specs.Libraries.{IsFromText}
use Rattle.vital_library.specs.declared.error.LibraryError.{LibraryError}
use Rattle.vital_library.specs.declared.error.LibraryError.TheVariants as library
use Rattle.vital_netlist.specs.Refusals.{Refusal as NetRefusal}
use Rattle.vital_answers.specs.Answer.{Answer}
use Rattle.vital_answers.specs.Loading.{too_long}
use Rattle.vital_answers.specs.Refusals.{IsLibraryRefusal}
use Rattle.vital_answers.specs.Designs.{refused_design}
use Rattle.vital_answers.specs.declared.loading.NotLoaded.{NotLoaded}
use Rattle.vital_answers.specs.declared.loading.NotLoaded.TheVariants as loading
use Rattle.vital_answers.specs.declared.loading.Source.{Source}
use Rattle.vital_answers.specs.declared.reading.ReadFile.{ReadFile}
use Rattle.vital_answers.specs.declared.reading.ReadFile.TheVariants as file
use Rattle.vital_answers.specs.declared.reading.ReadFiles.{ReadFiles}
use Rattle.vital_answers.specs.declared.reading.Unread.{Unread}
use Rattle.vital_answers.specs.declared.reading.Unread.TheVariants as reading
use Rattle.vital_answers.specs.declared.refusal.Refusal.{Refusal}
use Rattle.vital_words.specs.declared.job.NamedFile.{NamedFile}

-- Files were loaded as defined, unless the shelf failed or memory ran out.
abbrev pub GivesSources : Result (List Source) NotLoaded → Result (List Source) Answer → Type 0
GivesSources (Ok sources) outcome = outcome ≡ Ok sources
GivesSources (Err (loading.TooLong name)) outcome = outcome ≡ Err (too_long name.now)
GivesSources (Err loading.ReadFault) outcome = Unit {0}
GivesSources (Err loading.NoMemory) outcome = Unit {0}

-- What came of reading a file is this, unless memory ran out.
abbrev pub GivesFile : Result ReadFile Unread → Result ReadFile Refusal → Type 0
GivesFile (Ok file) outcome = outcome ≡ Ok file
GivesFile (Err (reading.Refused refusal)) outcome = outcome ≡ Err refusal
GivesFile (Err reading.NoMemory) outcome = Unit {0}

-- What came of reading files is this, unless memory ran out.
abbrev pub GivesFiles : Result ReadFiles Unread → Result ReadFiles Refusal → Type 0
GivesFiles (Ok files) outcome = outcome ≡ Ok files
GivesFiles (Err (reading.Refused refusal)) outcome = outcome ≡ Err refusal
GivesFiles (Err reading.NoMemory) outcome = Unit {0}

-- Units are those of a text.
abbrev pub IsReadFromText : ReadFile → Type 0
IsReadFromText (file.Vhdl units) = IsFromText units
IsReadFromText (file.Sdf entries) = Unit {0}
IsReadFromText file.Stimuli = Unit {0}

-- A file behind others.
abbrev pub behind_files : ReadFiles → ReadFile → ReadFiles
behind_files others (file.Vhdl units) = record { units = others.units ++ units ∷ []; delays = others.delays }
behind_files others (file.Sdf entries) = record { units = others.units; delays = others.delays ++ entries ∷ [] }
behind_files others file.Stimuli = others

-- What a library that is refused is refused with, unless memory ran out.
abbrev pub GivesRefusal : LibraryError → Option Refusal → Type 0
GivesRefusal error (Some refusal) = IsLibraryRefusal error refusal
GivesRefusal error None = error ≡ library.NoMemory

-- What a top is answered that is refused so, unless memory ran out.
abbrev pub GivesDesignRefusal : List NamedFile → List ℕ → Option NetRefusal → Answer → Type 0
GivesDesignRefusal files top (Some refusal) answer = answer ≡ refused_design files top refusal
GivesDesignRefusal files top None answer = Unit {0}
