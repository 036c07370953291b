-- A file has one outcome: what a text's tokens and their derivation determine.
use Rattle.std.proofs.Common.{◌≡◌, ℕ, List, length, Option, Some, Result, Ok, Err, refl, sym, ap, subst, ◌∙◌, arith, inl, inr}
use Rattle.std.proofs.lemmas.Bool.{cases_lt}
use Rattle.vital_ll.specs.declared.derivation.Step.{Step}
use Rattle.vital_ll.specs.Grammar.{Grammar}
use Rattle.vital_ll.specs.Readings as list
use Rattle.vital_ll.specs.Sentence.{IsTreeOf, IsRefusedAt}
use Rattle.vital_lex.specs.Outcome.{IsOutcome, Gives}
use Rattle.vital_vhdl_lexemes.specs.Vhdl.{vhdl}
use Rattle.vital_lex.specs.declared.faults.LexError.{LexError}
use Rattle.vital_lex.specs.declared.faults.LexError.TheVariants as lex
use Rattle.vital_lex.specs.declared.faults.TextFault.{TextFault}
use Rattle.vital_lex.specs.declared.token_list.Token.{Token}
use Rattle.vital_base.specs.declared.place.Place.{Place}
use Rattle.vital_nodes.specs.declared.unit.Role.{Role}
use Rattle.vital_nodes.specs.declared.unit.Unit.{Unit as Unit'}
use Rattle.vital_nodes.specs.declared.unit.Units.{Units}
use Rattle.vital_vhdl.specs.declared.read.UnitError.{UnitError}
use Rattle.vital_vhdl.specs.declared.read.UnitError.TheVariants as error
use Rattle.vital_grammar.specs.Grammar.{grammar}
use Rattle.vital_shapes.specs.Reading.{kinds_of, place_at}
use Rattle.vital_shapes.specs.Shapes.{shape}
use Rattle.vital_vhdl.specs.Outcomes.{offset_of, IsReading}
use Rattle.vital_vhdl.proofs.Turns.{inside}

abbrev Lexed : Type 0
Lexed = Result (List Token) TextFault

-- this is what comes of lexing the text
abbrev pub OnlyLexed : List ℕ → ℕ → Lexed → Type 0
OnlyLexed text room lexed = (o : Lexed) → IsOutcome vhdl text room o → o ≡ lexed

-- what a lexer's error says
pub fault_only : (text : List ℕ) (room : ℕ) (e : LexError) (fault : TextFault) → e ≡ lex.Text fault → ((o : Lexed) → IsOutcome vhdl text room o → Gives (Err e) o)
    → OnlyLexed text room (Err fault)
fault_only text room e fault is only = subst (λ (x : LexError). (o : Lexed) → IsOutcome vhdl text room o → Gives (Err x) o) is only

one_refusal : (g : Grammar) (kinds : List ℕ) (j k : ℕ) → IsRefusedAt g kinds j → IsRefusedAt g kinds k → j ≡ k
one_refusal g kinds j k p q =
    elim (cases_lt j k) [
      | inl lt ↦ absurd (p.refused (q.least j lt))
      | inr le ↦ elim (cases_lt k j) [
        | inl lt ↦ absurd (q.refused (p.least k lt))
        | inr ge ↦ omega arith
      ]
    ]

-- the text has a fault
pub only_fault : (file : ℕ) (role : Role) (text : List ℕ) (room : ℕ) (fault : TextFault) → OnlyLexed text room (Err fault)
    → (outcome : Result Units UnitError) → IsReading file role text room outcome → outcome ≡ Err (error.Lex fault)
only_fault file role text room fault only (Ok read) h = let e = only (Ok h.tokens) h.lexed in absurd cc
only_fault file role text room fault only (Err (error.Lex f)) h =
    let e : f ≡ fault = (let e = only (Err f) h in cc) in ap (λ (x : TextFault). Err (error.Lex x)) e
only_fault file role text room fault only (Err (error.Refused place)) h = let e = only (Ok h.tokens) h.lexed in absurd cc
only_fault file role text room fault only (Err error.NoMemory) h = absurd h

-- the grammar refuses token k
pub only_refusal : (file : ℕ) (role : Role) (text : List ℕ) (room : ℕ) (tokens : List Token) (k : ℕ) → OnlyLexed text room (Ok tokens)
    → ((tree : List Step) → IsTreeOf grammar (kinds_of tokens) tree → ⊥) → IsRefusedAt grammar (kinds_of tokens) k
    → (outcome : Result Units UnitError) → IsReading file role text room outcome → outcome ≡ Err (error.Refused (place_at file text (offset_of text tokens k)))
only_refusal file role text room tokens k only none first (Ok read) h =
    let same : h.tokens ≡ tokens = (let e = only (Ok h.tokens) h.lexed in cc) in
    absurd (none h.tree (subst (λ (ts : List Token). IsTreeOf grammar (kinds_of ts) h.tree) same h.derived))
only_refusal file role text room tokens k only none first (Err (error.Lex f)) h = let e = only (Err f) h in absurd cc
only_refusal file role text room tokens k only none first (Err (error.Refused place)) h =
    let same : h.tokens ≡ tokens = (let e = only (Ok h.tokens) h.lexed in cc) in
    let number : h.token ≡ k = one_refusal grammar (kinds_of tokens) h.token k (subst (λ (ts : List Token). IsRefusedAt grammar (kinds_of ts) h.token) same h.refused.1) first in
    ap (λ (p : Place). Err (error.Refused p))
    (h.place_is ∙ ap (λ (ts : List Token). place_at file text (offset_of text ts h.token)) same ∙ ap (λ (n : ℕ). place_at file text (offset_of text tokens n)) number)
only_refusal file role text room tokens k only none first (Err error.NoMemory) h = absurd h

-- there is a derivation, with these units
pub only_units : (file : ℕ) (role : Role) (text : List ℕ) (room : ℕ) (tokens : List Token) (tree : List Step) (units : List Unit') → OnlyLexed text room (Ok tokens)
    → IsTreeOf grammar (kinds_of tokens) tree → ((other : List Step) → IsTreeOf grammar (kinds_of tokens) other → other ≡ tree)
    → shape file text tokens tree ≡ Some units → (outcome : Result Units UnitError) → IsReading file role text room outcome
    → outcome ≡ Ok (record { role = role; units = units; tokens = length tokens })
only_units file role text room tokens tree units only derived one shaped (Ok read) h =
    let same : h.tokens ≡ tokens = (let e = only (Ok h.tokens) h.lexed in cc) in
    let same_tree : h.tree ≡ tree = one h.tree (subst (λ (ts : List Token). IsTreeOf grammar (kinds_of ts) h.tree) same h.derived) in
    let again : shape file text tokens tree ≡ Some h.units =
    subst (λ (ts : List Token). shape file text ts tree ≡ Some h.units) same
    (subst (λ (steps : List Step). shape file text h.tokens steps ≡ Some h.units) same_tree h.shaped) in
    let same_units : h.units ≡ units = inside (sym again ∙ shaped) in
    let made : List Token → List Unit' → Units = λ ts all. record { role = role; units = all; tokens = length ts } in
    ap (λ (x : Units). Ok x) (h.read_is ∙ ap (λ (ts : List Token). made ts h.units) same ∙ ap (λ (all : List Unit'). made tokens all) same_units)
only_units file role text room tokens tree units only derived one shaped (Err (error.Lex f)) h = let e = only (Err f) h in absurd cc
only_units file role text room tokens tree units only derived one shaped (Err (error.Refused place)) h =
    let same : h.tokens ≡ tokens = (let e = only (Ok h.tokens) h.lexed in cc) in
    absurd (h.refused.0 tree (subst (λ (ts : List Token). IsTreeOf grammar (kinds_of ts) tree) (sym same) derived))
only_units file role text room tokens tree units only derived one shaped (Err error.NoMemory) h = absurd h

-- ---- there is one

-- something is so, and nothing else
abbrev pub One : (A : Type 0) → (A → Type 0) → Type 0
One A Is = (a : A) × Is a × ((other : A) → Is other → other ≡ a)

-- each tree of these tokens has a shape
abbrev pub HasShape : ℕ → List ℕ → List Token → Type 0
HasShape file text tokens = (tree : List Step) → IsTreeOf grammar (kinds_of tokens) tree → (units : List Unit') × (shape file text tokens tree ≡ Some units)

-- a text with these tokens has one outcome
one_of_tokens : (file : ℕ) (role : Role) (text : List ℕ) (room : ℕ) (tokens : List Token) → IsOutcome vhdl text room (Ok tokens) → OnlyLexed text room (Ok tokens) → HasShape file text tokens
    → (read : Result (List Step) ℕ) → list.IsReading grammar (kinds_of tokens) read → ((other : Result (List Step) ℕ) → list.IsReading grammar (kinds_of tokens) other → other ≡ read)
    → One (Result Units UnitError) (IsReading file role text room)
one_of_tokens file role text room tokens lexed only_lexed shapes (Ok tree) derived only = let found = shapes tree derived in (
  Ok (record { role = role; units = found.0; tokens = length tokens }),
  record { tokens = tokens; lexed = lexed; tree = tree; derived = derived; units = found.0; shaped = found.1; read_is = refl },
  only_units file role text room tokens tree found.0 only_lexed derived (λ other h. let e = only (Ok other) h in cc) found.1,
)
one_of_tokens file role text room tokens lexed only_lexed shapes (Err k) refused only = (
  Err (error.Refused (place_at file text (offset_of text tokens k))),
  record { tokens = tokens; lexed = lexed; token = k; refused = refused; place_is = refl },
  only_refusal file role text room tokens k only_lexed refused.0 refused.1,
)

-- and so has each text, as each list of kinds has one reading
pub one_of_text : (file : ℕ) (role : Role) (text : List ℕ) (room : ℕ) → One Lexed (IsOutcome vhdl text room) → ((tokens : List Token) → HasShape file text tokens)
    → ((kinds : List ℕ) → One (Result (List Step) ℕ) (list.IsReading grammar kinds)) → One (Result Units UnitError) (IsReading file role text room)
one_of_text file role text room (Ok tokens, lexed, only) shapes each =
    let read = each (kinds_of tokens) in one_of_tokens file role text room tokens lexed only (shapes tokens) read.0 read.1 read.2
one_of_text file role text room (Err fault, lexed, only) shapes each = (Err (error.Lex fault), lexed, only_fault file role text room fault only)
