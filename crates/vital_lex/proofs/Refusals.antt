-- How a call hands on a lexer's refusal.
use Rattle.std.proofs.Common.{◌≡◌, ℕ, List, refl, ap, sym, subst, ◌∙◌}
use Rattle.std.specs.Prelude.{Result, Err}
use Rattle.vital_lex.specs.Lexicon.{Lexicon, IsLexicon}
use Rattle.vital_lex.specs.Outcome.{IsOutcome, IsRefused, Gives}
use Rattle.vital_lex.specs.Pieces.{LexFault}
use Rattle.vital_lex.specs.declared.faults.LexError.{LexError}
use Rattle.vital_lex.specs.declared.faults.LexError.TheVariants as error
use Rattle.vital_lex.specs.declared.faults.TextFault.{TextFault}
use Rattle.vital_lex.specs.declared.faults.TextFault.TheVariants as fault
use Rattle.vital_lex.specs.declared.faults.Why.{Why}
use Rattle.vital_lex.specs.declared.token_list.Token.{Token}
use Rattle.vital_lex.proofs.Outcomes.{Outcome, same_outcome}

-- The error refuses the text, where it is no want of memory.
abbrev pub Refuses : {Kind : Type 0} → Lexicon Kind → List ℕ → ℕ → LexError → Type 0
Refuses lexicon text room e = (f : TextFault) → e ≡ error.Text f → IsRefused lexicon text room f

-- of the lexer's text and room, which are those of the call
pub handed_on : {Kind : Type 0} (lexicon : Lexicon Kind) (lexer_text text : List ℕ) (lexer_room room : ℕ) (e : LexError) → ((f : TextFault) → ◌≡◌ {A = Result (Unit {0}) LexError} (Err e) (Err (error.Text f)) → IsRefused lexicon lexer_text lexer_room f) → lexer_text ≡ text → lexer_room ≡ room → Refuses lexicon text room e
handed_on lexicon lexer_text text lexer_room room e refused text_is room_is = λ f same.
    subst (λ (t : List ℕ). IsRefused lexicon t room f) text_is (subst (λ (r : ℕ). IsRefused lexicon lexer_text r f) room_is (refused f (ap Err same)))

-- a fault stands where the row of pieces ends
pub fault_place : {Kind : Type 0} (lexicon : Lexicon Kind) (text : List ℕ) (room offset : ℕ) (why : Why) → IsRefused lexicon text room (fault.Fault offset why) → LexFault lexicon text offset
fault_place lexicon text room offset why h = (h.0, h.1.row, h.2)

gives_error : {Kind : Type 0} (lexicon : Lexicon Kind) (laws : IsLexicon lexicon) (text : List ℕ) (room : ℕ) (e : LexError) → Refuses lexicon text room e → (o : Outcome) → IsOutcome lexicon text room o → Gives (Err e) o
gives_error lexicon laws text room (error.Text f) refused o outcome = same_outcome lexicon laws text room (Err f) o (refused f refl) outcome
gives_error lexicon laws text room error.NoMemory refused o outcome = tt

module _ {Kind : Type 0} (lexicon : Lexicon Kind) (laws : IsLexicon lexicon) (text : List ℕ) (room : ℕ) (result : Result (List Token) LexError) (e : LexError) (result_is : result ≡ Err e) (refused : Refuses lexicon text room e) where
  pub answer_refused : (f : TextFault) → result ≡ Err (error.Text f) → IsRefused lexicon text room f
  answer_refused f same =
      let both : ◌≡◌ {A = Result (List Token) LexError} (Err e) (Err (error.Text f)) = sym result_is ∙ same in
      let this_error : e ≡ error.Text f = cc in
      refused f this_error

  pub answer_gives : (o : Outcome) → IsOutcome lexicon text room o → Gives result o
  answer_gives o outcome = subst (λ (r : Result (List Token) LexError). Gives r o) (sym result_is) (gives_error lexicon laws text room e refused o outcome)
