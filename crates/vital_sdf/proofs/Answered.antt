-- A file has one outcome: what a text's tokens and their derivation determine.
use Rattle.std.proofs.Common.{◌≡◌, ℕ, List, length, Result, Ok, Err, refl, sym, ap, subst, ◌∙◌, arith, inl, inr}
use Rattle.std.proofs.lemmas.Bool.{cases_lt}
use Rattle.vital_base.specs.declared.place.Place.{Place}
use Rattle.vital_lex.specs.Outcome.{IsOutcome, Gives}
use Rattle.vital_lex.specs.declared.faults.LexError.{LexError}
use Rattle.vital_lex.specs.declared.faults.LexError.TheVariants as lex
use Rattle.vital_lex.specs.declared.faults.TextFault.{TextFault}
use Rattle.vital_lex.specs.declared.token_list.Token.{Token}
use Rattle.vital_ll.specs.Grammar.{Grammar}
use Rattle.vital_ll.specs.Readings as list
use Rattle.vital_ll.specs.Sentence.{IsTreeOf, IsRefusedAt}
use Rattle.vital_ll.specs.declared.derivation.Step.{Step}
use Rattle.vital_sdf_grammar.specs.Grammar.{grammar}
use Rattle.vital_sdf_lexemes.specs.Sdf.{sdf}
use Rattle.vital_sdf.specs.Files.{groups_of}
use Rattle.vital_sdf.specs.Outcomes.{IsReading, IsReadText, kinds_of, offset_of}
use Rattle.vital_sdf.specs.Reading.{Failure, place_at}
use Rattle.vital_sdf.specs.declared.group.Group.{Group}
use Rattle.vital_sdf.specs.declared.group.SdfFile.{SdfFile}
use Rattle.vital_sdf.specs.declared.read.SdfError.{SdfError}
use Rattle.vital_sdf.specs.declared.read.SdfError.TheVariants as error

abbrev Lexed : Type 0
Lexed = Result (List Token) TextFault

abbrev pub Outcome : Type 0
Outcome = Result SdfFile SdfError

abbrev pub Read : Type 0
Read = Result (List Group) Failure

-- this is what comes of lexing the text
abbrev pub OnlyLexed : List ℕ → ℕ → Lexed → Type 0
OnlyLexed text room lexed = (o : Lexed) → IsOutcome sdf text room o → o ≡ lexed

-- what a lexer's error says
pub fault_only : (text : List ℕ) (room : ℕ) (e : LexError) (fault : TextFault) → e ≡ lex.Text fault → ((o : Lexed) → IsOutcome sdf text room o → Gives (Err e) o)
    → OnlyLexed text room (Err fault)
fault_only text room e fault is only = subst (λ (x : LexError). (o : Lexed) → IsOutcome sdf text room o → Gives (Err x) o) is only

one_refusal : (g : Grammar) (kinds : List ℕ) (j k : ℕ) → IsRefusedAt g kinds j → IsRefusedAt g kinds k → j ≡ k
one_refusal g kinds j k p q =
    elim (cases_lt j k) [
      | inl lt ↦ absurd (p.refused (q.least j lt))
      | inr le ↦ elim (cases_lt k j) [
        | inl lt ↦ absurd (q.refused (p.least k lt))
        | inr ge ↦ omega arith
      ]
    ]

-- the text has a fault
pub only_fault : (file : ℕ) (text : List ℕ) (room : ℕ) (fault : TextFault) → OnlyLexed text room (Err fault)
    → (outcome : Outcome) → IsReading file text room outcome → outcome ≡ Err (error.Lex fault)
only_fault file text room fault only (Ok said) h = let e = only (Ok h.0) h.1.lexed in absurd cc
only_fault file text room fault only (Err (error.Lex f)) h =
    let e : f ≡ fault = (let e = only (Err f) h in cc) in ap (λ (x : TextFault). Err (error.Lex x)) e
only_fault file text room fault only (Err (error.Refused place)) h = let e = only (Ok h.tokens) h.lexed in absurd cc
only_fault file text room fault only (Err (error.Fault why place)) h = let e = only (Ok h.0) h.1.lexed in absurd cc
only_fault file text room fault only (Err error.NoMemory) h = absurd h

abbrev NoTree : List Token → Type 0
NoTree tokens = (tree : List Step) → IsTreeOf grammar (kinds_of tokens) tree → ⊥

-- the grammar takes no text with these tokens
none_read : (file : ℕ) (text : List ℕ) (room : ℕ) (tokens : List Token) (found : List Token) (read : Read) → OnlyLexed text room (Ok tokens) → NoTree tokens
    → IsReadText file text room found read → ⊥
none_read file text room tokens found read only none h =
    let same : found ≡ tokens = (let e = only (Ok found) h.lexed in cc) in
    none h.tree (subst (λ (ts : List Token). IsTreeOf grammar (kinds_of ts) h.tree) same h.derived)

-- the grammar refuses token k
pub only_refusal : (file : ℕ) (text : List ℕ) (room : ℕ) (tokens : List Token) (k : ℕ) → OnlyLexed text room (Ok tokens) → NoTree tokens → IsRefusedAt grammar (kinds_of tokens) k
    → (outcome : Outcome) → IsReading file text room outcome → outcome ≡ Err (error.Refused (place_at file text (offset_of text tokens k)))
only_refusal file text room tokens k only none first (Ok said) h = absurd (none_read file text room tokens h.0 (Ok said.groups) only none h.1)
only_refusal file text room tokens k only none first (Err (error.Lex f)) h = let e = only (Err f) h in absurd cc
only_refusal file text room tokens k only none first (Err (error.Refused place)) h =
    let same : h.tokens ≡ tokens = (let e = only (Ok h.tokens) h.lexed in cc) in
    let number : h.token ≡ k = one_refusal grammar (kinds_of tokens) h.token k (subst (λ (ts : List Token). IsRefusedAt grammar (kinds_of ts) h.token) same h.refused.1) first in
    ap (λ (p : Place). Err (error.Refused p))
    (h.place_is ∙ ap (λ (ts : List Token). place_at file text (offset_of text ts h.token)) same ∙ ap (λ (n : ℕ). place_at file text (offset_of text tokens n)) number)
only_refusal file text room tokens k only none first (Err (error.Fault why place)) h = absurd (none_read file text room tokens h.0 (Err (why, place)) only none h.1)
only_refusal file text room tokens k only none first (Err error.NoMemory) h = absurd h

-- what a file with these tokens comes to, of which this is read
abbrev pub outcome_of : List Token → Read → Outcome
outcome_of tokens (Ok groups) = Ok (record { groups = groups; tokens = length tokens })
outcome_of tokens (Err failure) = Err (error.Fault failure.0 failure.1)

-- the tokens are these, and so is what is read of them
same_tokens : (file : ℕ) (text : List ℕ) (room : ℕ) (tokens found : List Token) (again : Read) → OnlyLexed text room (Ok tokens) → IsReadText file text room found again
    → found ≡ tokens
same_tokens file text room tokens found again only h = let e = only (Ok found) h.lexed in cc

same_read : (file : ℕ) (text : List ℕ) (room : ℕ) (tokens found : List Token) (read again : Read) → OnlyLexed text room (Ok tokens) → groups_of file text tokens ≡ read
    → IsReadText file text room found again → again ≡ read
same_read file text room tokens found read again only read_is h =
    sym h.read_is ∙ ap (λ (ts : List Token). groups_of file text ts) (same_tokens file text room tokens found again only h) ∙ read_is

-- the grammar takes the tokens, and this is read of them
pub only_read : (file : ℕ) (text : List ℕ) (room : ℕ) (tokens : List Token) (tree : List Step) (read : Read) → OnlyLexed text room (Ok tokens)
    → IsTreeOf grammar (kinds_of tokens) tree → groups_of file text tokens ≡ read → (outcome : Outcome) → IsReading file text room outcome → outcome ≡ outcome_of tokens read
only_read file text room tokens tree read only derived read_is (Ok said) h =
    let groups = same_read file text room tokens h.0 read (Ok said.groups) only read_is h.1 in
    let same = same_tokens file text room tokens h.0 (Ok said.groups) only h.1 in
    let count : said.tokens ≡ length tokens = h.2 ∙ ap (λ (ts : List Token). length ts) same in
    let whole : Ok said ≡ outcome_of tokens (Ok said.groups) = ap (λ (n : ℕ). Ok (record { groups = said.groups; tokens = n })) count in
    whole ∙ ap (outcome_of tokens) groups
only_read file text room tokens tree read only derived read_is (Err (error.Lex f)) h = let e = only (Err f) h in absurd cc
only_read file text room tokens tree read only derived read_is (Err (error.Refused place)) h =
    let same : h.tokens ≡ tokens = (let e = only (Ok h.tokens) h.lexed in cc) in
    absurd (h.refused.0 tree (subst (λ (ts : List Token). IsTreeOf grammar (kinds_of ts) tree) (sym same) derived))
only_read file text room tokens tree read only derived read_is (Err (error.Fault why place)) h =
    ap (outcome_of tokens) (same_read file text room tokens h.0 read (Err (why, place)) only read_is h.1)
only_read file text room tokens tree read only derived read_is (Err error.NoMemory) h = absurd h

-- ---- there is one

-- something is so, and nothing else
abbrev pub One : (A : Type 0) → (A → Type 0) → Type 0
One A Is = (a : A) × Is a × ((other : A) → Is other → other ≡ a)

is_read : (file : ℕ) (text : List ℕ) (room : ℕ) (tokens : List Token) (tree : List Step) (read : Read) → IsOutcome sdf text room (Ok tokens)
    → IsTreeOf grammar (kinds_of tokens) tree → groups_of file text tokens ≡ read → IsReading file text room (outcome_of tokens read)
is_read file text room tokens tree (Ok groups) lexed derived read_is = (tokens, record { lexed = lexed; tree = tree; derived = derived; read_is = read_is }, refl)
is_read file text room tokens tree (Err failure) lexed derived read_is = (tokens, record { lexed = lexed; tree = tree; derived = derived; read_is = read_is })

-- a text with these tokens has one outcome
one_of_tokens : (file : ℕ) (text : List ℕ) (room : ℕ) (tokens : List Token) → IsOutcome sdf text room (Ok tokens) → OnlyLexed text room (Ok tokens)
    → (read : Result (List Step) ℕ) → list.IsReading grammar (kinds_of tokens) read → One Outcome (IsReading file text room)
one_of_tokens file text room tokens lexed only (Ok tree) derived = (
  outcome_of tokens (groups_of file text tokens),
  is_read file text room tokens tree (groups_of file text tokens) lexed derived refl,
  only_read file text room tokens tree (groups_of file text tokens) only derived refl,
)
one_of_tokens file text room tokens lexed only (Err k) refused = (
  Err (error.Refused (place_at file text (offset_of text tokens k))),
  record { tokens = tokens; lexed = lexed; token = k; refused = refused; place_is = refl },
  only_refusal file text room tokens k only refused.0 refused.1,
)

-- and so has each text, as each list of kinds has one reading
pub one_of_text : (file : ℕ) (text : List ℕ) (room : ℕ) → One Lexed (IsOutcome sdf text room)
    → ((kinds : List ℕ) → One (Result (List Step) ℕ) (list.IsReading grammar kinds)) → One Outcome (IsReading file text room)
one_of_text file text room (Ok tokens, lexed, only) each = let read = each (kinds_of tokens) in one_of_tokens file text room tokens lexed only read.0 read.1
one_of_text file text room (Err fault, lexed, only) each = (Err (error.Lex fault), lexed, only_fault file text room fault only)
