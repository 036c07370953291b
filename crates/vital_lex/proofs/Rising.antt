-- The tokens of a text stand in the order in which they start.
use Rattle.std.proofs.Common.{◌≡◌, ℕ, zero, suc, ◌≤◌, ◌<◌, List, [], ◌∷◌, ◌++◌, length, map, All, AllPairs, refl, sym, subst, arith}
use Rattle.std.proofs.lemmas.List.{map-append}
use Rattle.std.proofs.lemmas.List.Elements.{All-nil, All-append}
use Rattle.std.proofs.lemmas.List.Kept.{AllPairs-cons}
use Rattle.vital_lex.specs.Lexicon.{Lexicon, IsLexicon}
use Rattle.vital_lex.specs.Pieces.{Lexeme, Lexes, Row, empty, separator, lexeme, token_of}
use Rattle.vital_lex.specs.declared.token_list.Token.{Token}

abbrev Rises : List Token → Type 0
Rises = AllPairs (λ s t. s.start < t.start)

-- each of the tokens starts before an offset
abbrev StartBefore : ℕ → List Token → Type 0
StartBefore at = All (λ t. t.start < at)

alone : {X : Type 0} (P : X → Type 0) (x : X) → P x → All P (x ∷ [])
alone P x p zero d lt = p
alone P x p (suc i) d lt = absurd (omega arith)

later : (at end : ℕ) (tokens : List Token) → at ≤ end → StartBefore at tokens → StartBefore end tokens
later at end tokens le by i d lt = let below = by i d lt in omega arith

rises_on : (tokens : List Token) (t : Token) → Rises tokens → StartBefore t.start tokens → Rises (tokens ++ t ∷ [])
rises_on [] t rises by = AllPairs-cons (λ s t. s.start < t.start) t [] (All-nil _) (λ i j d lt within. absurd (omega arith))
rises_on (s ∷ tokens) t rises by =
    AllPairs-cons (λ s t. s.start < t.start) s (tokens ++ t ∷ [])
    (All-append (λ u. s.start < u.start) tokens (t ∷ []) (λ j d lt. rises zero (suc j) d (omega arith) (omega arith)) (alone (λ u. s.start < u.start) t (by zero s (omega arith))))
    (rises_on tokens t (λ i j d lt within. rises (suc i) (suc j) d (omega arith) (omega arith)) (λ i d lt. by (suc i) d (omega arith)))

-- of a row of pieces up to an offset
module _ {Kind : Type 0} (lexicon : Lexicon Kind) (laws : IsLexicon lexicon) where
  rising_row : {text : List ℕ} {at : ℕ} {lexemes : List (Lexeme Kind)} → Row lexicon text at lexemes
      → StartBefore at (map (token_of lexicon) lexemes) × Rises (map (token_of lexicon) lexemes)
  rising_row empty = (All-nil _, λ i j d lt within. absurd (omega arith))
  rising_row {text} (separator {at = at} {end = end} {lexemes = lexemes} row found) =
      let before = rising_row row in
      let forward = laws.separator_moves text at end found in
      (later at end (map (token_of lexicon) lexemes) (omega (arith, forward.0)) before.0, before.1)
  rising_row {text} (lexeme {lexemes = lexemes} {l = l} row next) =
      let before = rising_row row in
      let forward = laws.lexeme_moves _ text l.start l.kind l.end next.lexeme in
      subst (λ ts. StartBefore l.end ts × Rises ts) (sym (map-append (token_of lexicon) lexemes (l ∷ []))) (
        All-append (λ t. t.start < l.end) (map (token_of lexicon) lexemes) (token_of lexicon l ∷ []) (later l.start l.end (map (token_of lexicon) lexemes) (omega (arith, forward.0)) before.0)
            (alone (λ t. t.start < l.end) (token_of lexicon l) forward.0),
        rises_on (map (token_of lexicon) lexemes) (token_of lexicon l) before.1 before.0,
      )

  pub rising : (text : List ℕ) (tokens : List Token) → Lexes lexicon text tokens → StartBefore (length text) tokens × Rises tokens
  rising text tokens (lexemes, row, same) = subst (λ ts. StartBefore (length text) ts × Rises ts) (sym same) (rising_row row)
