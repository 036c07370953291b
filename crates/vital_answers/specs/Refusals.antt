-- How words and files are refused.
use Rattle.std.specs.Prelude.{ℕ, ◌≡◌, List, [], map, slice_index_or}
use Rattle.vital_base.specs.declared.place.Place.{Place}
use Rattle.vital_lex.specs.Places.{line_of, column_of}
use Rattle.vital_lex.specs.declared.faults.TextFault.{TextFault}
use Rattle.vital_lex.specs.declared.faults.TextFault.TheVariants.{Fault, TooManyTokens, TooDeep}
use Rattle.vital_lex.specs.declared.faults.Why.{Why}
use Rattle.vital_lex.specs.declared.faults.Why.TheVariants as lexical
use Rattle.vital_library.specs.declared.error.LibraryError.{LibraryError}
use Rattle.vital_library.specs.declared.error.LibraryError.TheVariants as library
use Rattle.vital_report.specs.Lines.{Spot, refused_usage, refused_lexical, refused_syntax, refused_limit, refused_library, refused_sdf}
use Rattle.vital_report.specs.declared.why.LexicalWhy.{LexicalWhy}
use Rattle.vital_report.specs.declared.why.LexicalWhy.TheVariants.{Character, Unclosed}
use Rattle.vital_report.specs.declared.why.LibraryWhy.TheVariants.{Duplicate, Entity as NoEntity}
use Rattle.vital_report.specs.declared.why.Limit.TheVariants.{Tokens, Nesting, Units as UnitsLimit}
use Rattle.vital_report.specs.declared.why.SdfWhy.{SdfWhy}
use Rattle.vital_report.specs.declared.why.SdfWhy.TheVariants as printed_sdf
use Rattle.vital_report.specs.declared.why.UsageWhy.{UsageWhy}
use Rattle.vital_report.specs.declared.why.UsageWhy.TheVariants.{Command, Key, Twice, Value, Missing}
use Rattle.vital_answers.specs.Answer.{Answer, refused}
use Rattle.vital_answers.specs.declared.refusal.Refusal.{Refusal}
use Rattle.vital_answers.specs.declared.refusal.Refusal.TheVariants as refusal
use Rattle.vital_answers.specs.declared.status.Status.TheVariants.{Usage, Syntax, Limit, Library, Sdf}
use Rattle.vital_sdf.specs.declared.read.SdfError.{SdfError}
use Rattle.vital_sdf.specs.declared.read.SdfError.TheVariants as sdf_error
use Rattle.vital_sdf.specs.declared.sdf_fault.SdfFault.{SdfFault}
use Rattle.vital_sdf.specs.declared.sdf_fault.SdfFault.TheVariants as sdf_fault
use Rattle.vital_vhdl.specs.declared.read.UnitError.{UnitError}
use Rattle.vital_vhdl.specs.declared.read.UnitError.TheVariants as unit_error
use Rattle.vital_words.specs.declared.job.NamedFile.{NamedFile}
use Rattle.vital_words.specs.declared.refusal.UsageFault.{UsageFault}
use Rattle.vital_words.specs.declared.refusal.UsageWhy.{UsageWhy as WordsWhy}
use Rattle.vital_words.specs.declared.refusal.UsageWhy.TheVariants as words

-- ---- words

-- Why words are refused, as it is printed.
abbrev pub printed_usage : WordsWhy → UsageWhy
printed_usage words.Command = Command
printed_usage words.Key = Key
printed_usage words.Twice = Twice
printed_usage words.Value = Value
printed_usage words.Missing = Missing

abbrev pub refused_words : UsageFault → Answer
refused_words fault = refused (refused_usage fault.word (printed_usage fault.why)) Usage

-- ---- the text of a file

-- Where a text is refused.
abbrev pub offset_of : TextFault → ℕ
offset_of (Fault offset why) = offset
offset_of (TooManyTokens offset) = offset
offset_of (TooDeep offset) = offset

-- The place of an offset in the text of the file with this number.
abbrev pub place_in : ℕ → List ℕ → ℕ → Place
place_in number text offset = record { file = number; line = line_of text offset; column = column_of text offset }

abbrev pub printed_lexical : Why → LexicalWhy
printed_lexical lexical.Character = Character
printed_lexical lexical.Unclosed = Unclosed

-- How a fault of a text, or a limit that it passes, is refused.
abbrev pub text_refusal : ℕ → List ℕ → TextFault → Refusal
text_refusal number text (Fault offset why) = refusal.Lexical (place_in number text offset) (printed_lexical why)
text_refusal number text (TooManyTokens offset) = refusal.Limit Tokens (place_in number text offset)
text_refusal number text (TooDeep offset) = refusal.Limit Nesting (place_in number text offset)

-- How the file with this number and text is refused that was not read.
abbrev pub IsFileRefusal : ℕ → List ℕ → UnitError → Refusal → Type 0
IsFileRefusal number text (unit_error.Lex fault) refused_so = refused_so ≡ text_refusal number text fault
IsFileRefusal number text (unit_error.Refused place) refused_so = refused_so ≡ refusal.Syntax place
IsFileRefusal number text unit_error.NoMemory refused_so = ⊥

-- Why an SDF file is refused, as it is printed.
abbrev pub printed_fault : SdfFault → SdfWhy
printed_fault sdf_fault.Timescale = printed_sdf.Timescale
printed_fault sdf_fault.Divider = printed_sdf.Divider
printed_fault sdf_fault.Values = printed_sdf.Values

-- How the SDF file with this number and text is refused that was not read.
abbrev pub IsSdfRefusal : ℕ → List ℕ → SdfError → Refusal → Type 0
IsSdfRefusal number text (sdf_error.Lex fault) refused_so = refused_so ≡ text_refusal number text fault
IsSdfRefusal number text (sdf_error.Refused place) refused_so = refused_so ≡ refusal.Syntax place
IsSdfRefusal number text (sdf_error.Fault why place) refused_so = refused_so ≡ refusal.Sdf (printed_fault why) place
IsSdfRefusal number text sdf_error.NoMemory refused_so = ⊥

-- ---- the library

-- How files that are no library are refused.
abbrev pub IsLibraryRefusal : LibraryError → Refusal → Type 0
IsLibraryRefusal (library.TooManyUnits place) refused_so = refused_so ≡ refusal.Limit UnitsLimit place
IsLibraryRefusal (library.Duplicate place) refused_so = refused_so ≡ refusal.Library Duplicate place
IsLibraryRefusal (library.NoEntity place) refused_so = refused_so ≡ refusal.Library NoEntity place
IsLibraryRefusal library.NoMemory refused_so = ⊥

-- ---- the line

-- A place as it is printed: its file is numbered among these.
abbrev pub spot_of : List NamedFile → Place → Spot
spot_of files place =
    record { file = slice_index_or (map (λ file. file.name) files) place.file []; line = place.line; column = place.column }

-- Where files are refused.
abbrev pub place_of : Refusal → Place
place_of (refusal.Lexical place why) = place
place_of (refusal.Syntax place) = place
place_of (refusal.Limit limit place) = place
place_of (refusal.Sdf why place) = place
place_of (refusal.Library why place) = place

-- What a refusal is answered.
abbrev pub refused_at : List NamedFile → Refusal → Answer
refused_at files (refusal.Lexical place why) = refused (refused_lexical why (spot_of files place)) Syntax
refused_at files (refusal.Syntax place) = refused (refused_syntax (spot_of files place)) Syntax
refused_at files (refusal.Limit limit place) = refused (refused_limit limit (spot_of files place)) Limit
refused_at files (refusal.Sdf why place) = refused (refused_sdf why (spot_of files place)) Sdf
refused_at files (refusal.Library why place) = refused (refused_library why (spot_of files place)) Library
