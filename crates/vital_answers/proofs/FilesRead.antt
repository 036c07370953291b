-- Files that are read one after the other.
use Rattle.std.proofs.Common.{◌≡◌, ℕ, ◌+◌, ◌-◌, ◌<◌, ◌≤◌, List, [], ◌∷◌, ◌++◌, length, drop, get_or, Result, Ok, Err, refl, sym, ap, subst, ◌∙◌, append_assoc, arith}
use Rattle.std.specs.List.{All}
use Rattle.std.proofs.lemmas.List.{append-nil, drop_more}
use Rattle.std.proofs.lemmas.List.Elements.{All-nil, All-push}
use Rattle.vital_as_read.specs.Libraries.{IsFromText}
use Rattle.vital_lex.specs.Lexicon.{Lexicon, IsLexicon}
use Rattle.vital_lex.specs.Outcome.{IsOutcome}
use Rattle.vital_lex.specs.declared.faults.TextFault.{TextFault}
use Rattle.vital_lex.specs.declared.faults.TextFault.TheVariants.{Fault, TooManyTokens, TooDeep}
use Rattle.vital_answers.specs.Answer.{◌>>=◌}
use Rattle.vital_answers.specs.Given.{GivesFile, GivesFiles, IsReadFromText, behind_files}
use Rattle.vital_answers.specs.Reading.{AreRead, Continues, IsRead, tokens_of, with_file}
use Rattle.vital_answers.specs.Refusals.{offset_of}
use Rattle.vital_answers.specs.declared.loading.Source.{Source}
use Rattle.vital_answers.specs.declared.reading.ReadFile.{ReadFile}
use Rattle.vital_answers.specs.declared.reading.ReadFile.TheVariants as file
use Rattle.vital_answers.specs.declared.reading.ReadFiles.{ReadFiles}
use Rattle.vital_answers.specs.declared.reading.Unread.{Unread}
use Rattle.vital_answers.specs.declared.reading.Unread.TheVariants as unread
use Rattle.vital_answers.specs.declared.refusal.Refusal.{Refusal}
use Rattle.vital_nodes.specs.declared.unit.Units.{Units}

-- a text is refused within it, whatever its lexicon
pub inside : {Kind : Type 0} (lexicon : Lexicon Kind) → IsLexicon lexicon → (text : List ℕ) (room : ℕ) (fault : TextFault) → IsOutcome lexicon text room (Err fault) → offset_of fault ≤ length text
inside lexicon laws text room (Fault at why) (lexemes, reaches, stuck, reason) = omega (arith, stuck.inside)
inside lexicon laws text room (TooManyTokens at) (lexemes, l, start, reaches, next, full) =
    let within = laws.lexeme_moves _ text l.start l.kind l.end next.lexeme in omega (arith, start, within.0, within.1)
inside lexicon laws text room (TooDeep at) (lexemes, l, start, reaches, next, room_left, deep) =
    let within = laws.lexeme_moves _ text l.start l.kind l.end next.lexeme in omega (arith, start, within.0, within.1)

-- ---- files in front of others

-- these files, and those that are still to come
abbrev both : ReadFiles → ReadFiles → ReadFiles
both front later = record { units = front.units ++ later.units; delays = front.delays ++ later.delays }

abbrev pub with_files : ReadFiles → Result ReadFiles Refusal → Result ReadFiles Refusal
with_files front others = others >>= λ later. Ok (both front later)

-- Whatever comes of all sources is what was read of the first of them with what comes of the others; and that was read from texts.
pub record AreReadFirst (sources : List Source) (most i room : ℕ) (front : ReadFiles) : Type 0 where
  pub read : All IsFromText front.units
  pub all : (outcome : Result ReadFiles Refusal) → AreRead 0 most sources outcome
      → (others : Result ReadFiles Refusal) × AreRead i room (drop i sources) others × (outcome ≡ with_files front others)

-- what comes of the sources after the one of this number, where it used so many tokens
abbrev After : List Source → ℕ → ℕ → ℕ → Result ReadFiles Refusal → Type 0
After sources i room used others = AreRead (i + 1) (room - used) (drop (i + 1) sources) others

-- what comes of the sources from a number on, where the first of them is this one
here_is : (sources : List Source) (i room : ℕ) (s : Source) (others : Result ReadFiles Refusal) → i < length sources → s ≡ get_or sources i s → AreRead i room (drop i sources) others
    → (first : Result ReadFile Refusal) × IsRead s.kind i s.text room first × Continues first (After sources i room) others
here_is sources i room s others within is read =
    subst (λ (xs : List Source). AreRead i room xs others) (drop_more sources i s within ∙ ap (λ (x : Source). x ∷ drop (i + 1) sources) (sym is)) read

joins_one : (front later : ReadFiles) (f : ReadFile) → both front (with_file f later) ≡ both (behind_files front f) later
joins_one front later (file.Vhdl units) = λ i. record { units = sym (append_assoc front.units (units ∷ []) later.units) i; delays = front.delays ++ later.delays }
joins_one front later (file.Sdf entries) = λ i. record { units = front.units ++ later.units; delays = sym (append_assoc front.delays (entries ∷ []) later.delays) i }
joins_one front later file.Stimuli = refl

joins : (front : ReadFiles) (f : ReadFile) (others : Result ReadFiles Refusal) → with_files front (others >>= λ later. Ok (with_file f later)) ≡ with_files (behind_files front f) others
joins front f (Ok later) = ap (λ (all : ReadFiles). Ok all) (joins_one front later f)
joins front f (Err refusal) = refl

from_text : (front : ReadFiles) (f : ReadFile) → All IsFromText front.units → IsReadFromText f → All IsFromText (behind_files front f).units
from_text front (file.Vhdl units) before this = All-push IsFromText front.units units before this
from_text front (file.Sdf entries) before this = before
from_text front file.Stimuli before this = before

-- a file is read, and goes before the others
pub goes_on : (sources : List Source) (most i room : ℕ) (front : ReadFiles) (s : Source) (f : ReadFile) → i < length sources → s ≡ get_or sources i s → IsReadFromText f
    → ((first : Result ReadFile Refusal) → IsRead s.kind i s.text room first → first ≡ Ok f) → AreReadFirst sources most i room front → AreReadFirst sources most (i + 1) (room - tokens_of f) (behind_files front f)
goes_on sources most i room front s f within is from only before =
    record {
      read = from_text front f before.read from;
      all = λ outcome h.
          let p = before.all outcome h in
          let read = here_is sources i room s p.0 within is p.1 in
          let left = subst (λ (first : Result ReadFile Refusal). Continues first (After sources i room) p.0) (only read.0 read.1) read.2 in
          (left.0, left.1, p.2 ∙ ap (with_files front) left.2 ∙ joins front f left.0);
    }

-- a file that is refused ends it
refused_here : (sources : List Source) (most i room : ℕ) (front : ReadFiles) (s : Source) (r : Refusal) → i < length sources → s ≡ get_or sources i s
    → ((first : Result ReadFile Refusal) → IsRead s.kind i s.text room first → first ≡ Err r) → AreReadFirst sources most i room front
    → (outcome : Result ReadFiles Refusal) → AreRead 0 most sources outcome → outcome ≡ Err r
refused_here sources most i room front s r within is only before outcome h =
    let p = before.all outcome h in
    let read = here_is sources i room s p.0 within is p.1 in
    let ended : p.0 ≡ Err r = subst (λ (first : Result ReadFile Refusal). Continues first (After sources i room) p.0) (only read.0 read.1) read.2 in
    p.2 ∙ ap (with_files front) ended

-- and so does want of memory
pub refuses : (sources : List Source) (most i room : ℕ) (front : ReadFiles) (s : Source) (e : Unread) → i < length sources → s ≡ get_or sources i s
    → ((first : Result ReadFile Refusal) → IsRead s.kind i s.text room first → GivesFile (Err e) first) → AreReadFirst sources most i room front
    → (outcome : Result ReadFiles Refusal) → AreRead 0 most sources outcome → GivesFiles (Err e) outcome
refuses sources most i room front s (unread.Refused r) within is only before outcome h = refused_here sources most i room front s r within is only before outcome h
refuses sources most i room front s unread.NoMemory within is only before outcome h = tt

-- at first there is none
pub none_read : (sources : List Source) (most : ℕ) → AreReadFirst sources most 0 most (record { units = []; delays = [] })
none_read sources most = record { read = All-nil IsFromText; all = λ outcome h. (outcome, h, same outcome) }
  where
    same : (outcome : Result ReadFiles Refusal) → outcome ≡ with_files (record { units = []; delays = [] }) outcome
    same (Ok read) = refl
    same (Err refusal) = refl

-- at the end all are read
pub all_read : (sources : List Source) (most i room : ℕ) (front : ReadFiles) → drop i sources ≡ [] → AreReadFirst sources most i room front
    → (outcome : Result ReadFiles Refusal) → AreRead 0 most sources outcome → outcome ≡ Ok front
all_read sources most i room front none before outcome h =
    let p = before.all outcome h in
    let others : p.0 ≡ Ok (record { units = []; delays = [] }) = subst (λ (xs : List Source). AreRead i room xs p.0) none p.1 in
    p.2 ∙ ap (with_files front) others ∙ ap (λ (all : ReadFiles). Ok all) (λ k. record { units = append-nil front.units k; delays = append-nil front.delays k })
