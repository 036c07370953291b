-- A text has exactly one outcome.
use Rattle.std.proofs.Common.{◌≡◌, ℕ, zero, suc, ◌+◌, ◌<◌, ◌≤◌, List, [], ◌∷◌, ◌++◌, length, map, Some, refl, ap, sym, subst, ◌∙◌, ⊎_elim, arith}
use Rattle.std.specs.Prelude.{Result, Ok, Err}
use Rattle.std.proofs.lemmas.Bool.{cases_lt}
use Rattle.vital_lex.specs.Lexicon.{Lexicon, IsLexicon}
use Rattle.vital_lex.specs.Nesting.{nesting}
use Rattle.vital_lex.specs.Outcome.{IsOutcome, IsRefused, IsWithin, Reaches}
use Rattle.vital_lex.specs.Pieces.{Lexeme, last_kind, IsNext, IsStuck, Row, empty, separator, lexeme, token_of}
use Rattle.vital_lex.specs.declared.faults.TextFault.{TextFault}
use Rattle.vital_lex.specs.declared.faults.TextFault.TheVariants as fault
use Rattle.vital_lex.specs.declared.token_list.Token.{Token}
use Rattle.vital_lex.proofs.Limits.{nesting-push, within_none, within_nesting, within_push, within_front}
use Rattle.vital_lex.proofs.Steps.{Step, ended, stuck, separated, next, step_of, one_end, one_next, next_moves, ended_separated, ended_next, ended_stuck, stuck_separated, stuck_next, separated_next}

abbrev pub Outcome : Type 0
Outcome = Result (List Token) TextFault

-- What comes of the rest of a text, after these lexemes: the same piece by piece.
data Completes {Kind : Type 0} (lexicon : Lexicon Kind) (text : List ℕ) (room : ℕ) : ℕ → List (Lexeme Kind) → Outcome → Type 0 where
  ends : {at : ℕ} {ls : List (Lexeme Kind)} {o : Outcome} → at ≡ length text → o ≡ Ok (map (token_of lexicon) ls) → Completes lexicon text room at ls o
  sticks : {at : ℕ} {ls : List (Lexeme Kind)} {o : Outcome} → IsStuck lexicon text ls at → o ≡ Err (fault.Fault at (lexicon.why text at)) → Completes lexicon text room at ls o
  parts : {at : ℕ} {ls : List (Lexeme Kind)} {o : Outcome} (end : ℕ) → lexicon.separator text at ≡ Some end → Completes lexicon text room end ls o → Completes lexicon text room at ls o
  fills : {at : ℕ} {ls : List (Lexeme Kind)} {o : Outcome} (l : Lexeme Kind) → l.start ≡ at → IsNext lexicon text ls l → length ls ≡ room → o ≡ Err (fault.TooManyTokens at) → Completes lexicon text room at ls o
  sinks : {at : ℕ} {ls : List (Lexeme Kind)} {o : Outcome} (l : Lexeme Kind) → l.start ≡ at → IsNext lexicon text ls l → length ls < room → nesting lexicon (ls ++ l ∷ []) ≡ 65 → o ≡ Err (fault.TooDeep at) → Completes lexicon text room at ls o
  goes_on : {at : ℕ} {ls : List (Lexeme Kind)} {o : Outcome} (l : Lexeme Kind) → l.start ≡ at → IsNext lexicon text ls l → length ls < room → nesting lexicon (ls ++ l ∷ []) ≤ 64 → Completes lexicon text room l.end (ls ++ l ∷ []) o → Completes lexicon text room at ls o

module _ {Kind : Type 0} (lexicon : Lexicon Kind) (laws : IsLexicon lexicon) (text : List ℕ) (room : ℕ) where
  -- what a row of pieces leads to comes of the whole text
  back : {at : ℕ} {ls : List (Lexeme Kind)} {o : Outcome} → Row lexicon text at ls → IsWithin lexicon room ls → Completes lexicon text room at ls o → Completes lexicon text room 0 [] o
  back empty within rest = rest
  back (separator {end = end} row stands) within rest = back row within (parts end stands rest)
  back (lexeme {lexemes = ls} {l = l} row stands) within rest =
      let front = within_front lexicon room ls l within in
      back row front.0 (goes_on l refl stands front.1 front.2 rest)

  completes_refused : (f : TextFault) → IsRefused lexicon text room f → Completes lexicon text room 0 [] (Err f)
  completes_refused (fault.Fault at reason) h = back h.1.row h.1.within (sticks h.2 (ap (λ w. Err (fault.Fault at w)) h.3))
  completes_refused (fault.TooManyTokens at) h = back h.3.row h.3.within (fills h.1 h.2 h.4 h.5 refl)
  completes_refused (fault.TooDeep at) h = back h.3.row h.3.within (sinks h.1 h.2 h.4 h.5 h.6 refl)

  completes : (o : Outcome) → IsOutcome lexicon text room o → Completes lexicon text room 0 [] o
  completes (Ok tokens) h = back h.1.row h.1.within (ends refl (ap Ok h.2))
  completes (Err f) h = completes_refused f h

  -- and what comes of the rest comes of the text
  outcome : {at : ℕ} {ls : List (Lexeme Kind)} {o : Outcome} → Reaches lexicon text room at ls → Completes lexicon text room at ls o → IsOutcome lexicon text room o
  outcome {at} {ls} reached (ends at_end is) = subst (IsOutcome lexicon text room) (sym is) (ls, subst (λ (a : ℕ). Reaches lexicon text room a ls) at_end reached, refl)
  outcome {at} {ls} reached (sticks s is) = subst (IsOutcome lexicon text room) (sym is) (ls, reached, s, refl)
  outcome {at} {ls} reached (parts end s rest) = outcome (record { row = separator reached.row s; within = reached.within }) rest
  outcome {at} {ls} reached (fills l starts n full is) = subst (IsOutcome lexicon text room) (sym is) (ls, l, starts, reached, n, full)
  outcome {at} {ls} reached (sinks l starts n more deep is) = subst (IsOutcome lexicon text room) (sym is) (ls, l, starts, reached, n, more, deep)
  outcome {at} {ls} reached (goes_on l starts n more shallow rest) =
      outcome (record { row = lexeme (subst (λ (a : ℕ). Row lexicon text a ls) (sym starts) reached.row) n; within = within_push lexicon room ls l reached.within more shallow }) rest

  -- What stands at an offset decides what comes of the rest.
  module _ (at : ℕ) (ls : List (Lexeme Kind)) where
    after_end : at ≡ length text → {o : Outcome} → Completes lexicon text room at ls o → o ≡ Ok (map (token_of lexicon) ls)
    after_end e (ends at_end is) = is
    after_end e (sticks s is) = absurd (ended_stuck lexicon laws text ls at e s)
    after_end e (parts end s rest) = absurd (ended_separated lexicon laws text ls at e end s)
    after_end e (fills l starts n full is) = absurd (ended_next lexicon laws text ls at e l starts n)
    after_end e (sinks l starts n more deep is) = absurd (ended_next lexicon laws text ls at e l starts n)
    after_end e (goes_on l starts n more shallow rest) = absurd (ended_next lexicon laws text ls at e l starts n)

    after_stuck : IsStuck lexicon text ls at → {o : Outcome} → Completes lexicon text room at ls o → o ≡ Err (fault.Fault at (lexicon.why text at))
    after_stuck e (ends at_end is) = absurd (ended_stuck lexicon laws text ls at at_end e)
    after_stuck e (sticks s is) = is
    after_stuck e (parts end s rest) = absurd (stuck_separated lexicon laws text ls at e end s)
    after_stuck e (fills l starts n full is) = absurd (stuck_next lexicon laws text ls at e l starts n)
    after_stuck e (sinks l starts n more deep is) = absurd (stuck_next lexicon laws text ls at e l starts n)
    after_stuck e (goes_on l starts n more shallow rest) = absurd (stuck_next lexicon laws text ls at e l starts n)

    after_separator : (end : ℕ) → lexicon.separator text at ≡ Some end → {o : Outcome} → Completes lexicon text room at ls o → Completes lexicon text room end ls o
    after_separator end e (ends at_end is) = absurd (ended_separated lexicon laws text ls at at_end end e)
    after_separator end e (sticks s is) = absurd (stuck_separated lexicon laws text ls at s end e)
    after_separator end e {o} (parts other s rest) = subst (λ (a : ℕ). Completes lexicon text room a ls o) (one_end lexicon text at other end s e) rest
    after_separator end e (fills l starts n full is) = absurd (separated_next lexicon laws text ls at end e l starts n)
    after_separator end e (sinks l starts n more deep is) = absurd (separated_next lexicon laws text ls at end e l starts n)
    after_separator end e (goes_on l starts n more shallow rest) = absurd (separated_next lexicon laws text ls at end e l starts n)

    module _ (l : Lexeme Kind) (starts_here : l.start ≡ at) (stands : IsNext lexicon text ls l) where
      the_next : (k : Lexeme Kind) → k.start ≡ at → IsNext lexicon text ls k → k ≡ l
      the_next k starts n = one_next lexicon text ls k l (starts ∙ sym starts_here) n stands

      after_full : length ls ≡ room → {o : Outcome} → Completes lexicon text room at ls o → o ≡ Err (fault.TooManyTokens at)
      after_full e (ends at_end is) = absurd (ended_next lexicon laws text ls at at_end l starts_here stands)
      after_full e (sticks s is) = absurd (stuck_next lexicon laws text ls at s l starts_here stands)
      after_full e (parts end s rest) = absurd (separated_next lexicon laws text ls at end s l starts_here stands)
      after_full e (fills k starts n full is) = is
      after_full e (sinks k starts n more deep is) = absurd (omega arith)
      after_full e (goes_on k starts n more shallow rest) = absurd (omega arith)

      after_deep : length ls < room → nesting lexicon (ls ++ l ∷ []) ≡ 65 → {o : Outcome} → Completes lexicon text room at ls o → o ≡ Err (fault.TooDeep at)
      after_deep room_left e (ends at_end is) = absurd (ended_next lexicon laws text ls at at_end l starts_here stands)
      after_deep room_left e (sticks s is) = absurd (stuck_next lexicon laws text ls at s l starts_here stands)
      after_deep room_left e (parts end s rest) = absurd (separated_next lexicon laws text ls at end s l starts_here stands)
      after_deep room_left e (fills k starts n full is) = absurd (omega arith)
      after_deep room_left e (sinks k starts n more deep is) = is
      after_deep room_left e (goes_on k starts n more shallow rest) =
          let same : nesting lexicon (ls ++ k ∷ []) ≡ nesting lexicon (ls ++ l ∷ []) = ap (λ x. nesting lexicon (ls ++ x ∷ [])) (the_next k starts n) in absurd (omega arith)

      after_lexeme : length ls < room → nesting lexicon (ls ++ l ∷ []) ≤ 64 → {o : Outcome} → Completes lexicon text room at ls o → Completes lexicon text room l.end (ls ++ l ∷ []) o
      after_lexeme room_left e (ends at_end is) = absurd (ended_next lexicon laws text ls at at_end l starts_here stands)
      after_lexeme room_left e (sticks s is) = absurd (stuck_next lexicon laws text ls at s l starts_here stands)
      after_lexeme room_left e (parts end s rest) = absurd (separated_next lexicon laws text ls at end s l starts_here stands)
      after_lexeme room_left e (fills k starts n full is) = absurd (omega arith)
      after_lexeme room_left e (sinks k starts n more deep is) =
          let same : nesting lexicon (ls ++ k ∷ []) ≡ nesting lexicon (ls ++ l ∷ []) = ap (λ x. nesting lexicon (ls ++ x ∷ [])) (the_next k starts n) in absurd (omega arith)
      after_lexeme room_left e {o} (goes_on k starts n more shallow rest) = subst (λ (x : Lexeme Kind). Completes lexicon text room x.end (ls ++ x ∷ []) o) (the_next k starts n) rest

  abbrev OneCompletion : ℕ → List (Lexeme Kind) → Type 0
  OneCompletion at ls = (o : Outcome) × Completes lexicon text room at ls o × ((p : Outcome) → Completes lexicon text room at ls p → p ≡ o)

  -- one step, given what comes of every longer front
  at_step : (at : ℕ) (ls : List (Lexeme Kind)) → IsWithin lexicon room ls → ((further : ℕ) (more : List (Lexeme Kind)) → at < further → further ≤ length text → IsWithin lexicon room more → OneCompletion further more) → Step lexicon text ls at → OneCompletion at ls
  at_step at ls within later (ended e) = (Ok (map (token_of lexicon) ls), ends e refl, λ p h. after_end at ls e h)
  at_step at ls within later (stuck s) = (Err (fault.Fault at (lexicon.why text at)), sticks s refl, λ p h. after_stuck at ls s h)
  at_step at ls within later (separated end s) =
      let forward = laws.separator_moves text at end s in
      let rest = later end ls forward.0 forward.1 within in
      (rest.0, parts end s rest.1, λ p h. rest.2 p (after_separator at ls end s h))
  at_step at ls within later (next l starts n) =
      ⊎_elim
      (λ room_left.
      ⊎_elim
      (λ deep.
      let one_more = laws.nests_one (last_kind ls) (nesting lexicon ls) l.kind in
      let is_65 : nesting lexicon (ls ++ l ∷ []) ≡ 65 = omega (arith, nesting-push lexicon ls l, within_nesting lexicon room ls within) in
      (Err (fault.TooDeep at), sinks l starts n room_left is_65 refl, λ p h. after_deep at ls l starts n room_left is_65 h))
      (λ shallow.
      let forward = next_moves lexicon laws text ls l n in
      let rest = later l.end (ls ++ l ∷ []) (omega (arith, forward.0)) forward.1 (within_push lexicon room ls l within room_left shallow) in
      (rest.0, goes_on l starts n room_left shallow rest.1, λ p h. rest.2 p (after_lexeme at ls l starts n room_left shallow h)))
      (cases_lt 64 (nesting lexicon (ls ++ l ∷ []))))
      (λ full.
      let is_full : length ls ≡ room = omega (arith, within.few) in
      (Err (fault.TooManyTokens at), fills l starts n is_full refl, λ p h. after_full at ls l starts n is_full h))
      (cases_lt (length ls) room)

  -- exactly one thing comes of the rest, whatever has been read
  one_from : (fuel at : ℕ) (ls : List (Lexeme Kind)) → length text ≤ at + fuel → at ≤ length text → IsWithin lexicon room ls → OneCompletion at ls
  one_from zero at ls enough inside within =
      let e : at ≡ length text = omega arith in (Ok (map (token_of lexicon) ls), ends e refl, λ p h. after_end at ls e h)
  one_from (suc fuel) at ls enough inside within =
      at_step at ls within (λ further more forward up_to limits. one_from fuel further more (omega arith) up_to limits) (step_of lexicon text ls at inside)

  whole : OneCompletion 0 []
  whole = one_from (length text) 0 [] (omega arith) (omega arith) (within_none lexicon room)

  -- a text with a room has exactly one outcome
  pub exactly_one : (o : Outcome) × IsOutcome lexicon text room o × ((p : Outcome) → IsOutcome lexicon text room p → p ≡ o)
  exactly_one = (whole.0, outcome (record { row = empty; within = within_none lexicon room }) whole.1, λ p h. whole.2 p (completes p h))

  pub same_outcome : (o p : Outcome) → IsOutcome lexicon text room o → IsOutcome lexicon text room p → p ≡ o
  same_outcome o p h k = whole.2 p (completes p k) ∙ sym (whole.2 o (completes o h))
