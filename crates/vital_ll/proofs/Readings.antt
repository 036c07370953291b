-- Each list of tokens has one reading: from state to state while tokens are left, and at one token down the lead ranks.
use Rattle.std.proofs.Common.{◌≡◌, ℕ, zero, suc, ◌+◌, ◌<◌, ◌≤◌, Bool, true, false, ◌&&◌, cond, ltb, List, [], ◌∷◌, ◌++◌, length, take, get_or, slice_get, Some, None, Result, Ok, Err, refl, sym, ap, ◌∙◌, subst, arith, inl, inr, ◌⊎◌}
use Rattle.std.proofs.lemmas.Bool.{cases_eq, cases_lt, and_parts, and_from, ltb-true}
use Rattle.std.proofs.lemmas.List.{take_all}
use Rattle.std.proofs.lemmas.Option.{slice_get_within, slice_get_past, slice_get-get_or}
use Rattle.vital_ll.specs.declared.grammar.Sym.{Sym}
use Rattle.vital_ll.specs.declared.grammar.Sym.TheVariants.{Token, Rule}
use Rattle.vital_ll.specs.declared.derivation.Step.{Step}
use Rattle.vital_ll.specs.Grammar.{Grammar}
use Rattle.vital_ll.specs.Sentence.{Next, IsTreeOf, IsRefusedAt}
use Rattle.vital_ll.specs.Choice.{IsWellFormed}
use Rattle.vital_ll.specs.Marks.{empties}
use Rattle.vital_ll.specs.Masks.{MaskTable, nullable_at, are_closed, decides}
use Rattle.vital_ll.specs.Ranks.{are_ranked}
use Rattle.vital_ll.specs.Leads.{leads_lower, has_no_left_recursion}
use Rattle.vital_ll.specs.Readings.{IsReading}
use Rattle.vital_ll.proofs.Deriving.{step}
use Rattle.vital_ll.proofs.Progress.{IsProgress, IsProgress-start, IsProgress-take_next, IsProgress-expand, none_derives, refused_at, stuck_token, stuck_rule, stuck_end, done}
use Rattle.vital_ll.proofs.ByTables.{empty_by_masks, well_formed_by_ranks}
use Rattle.vital_ll.proofs.Leads.{leads_at}
use Rattle.vital_ll.proofs.Deciding.{decide}

-- what the tables show of a grammar
pub record Tables (g : Grammar) (table : MaskTable) (leads : List ℕ) : Type 0 where
  pub well_formed : IsWellFormed g
  pub closed : are_closed g table ≡ true
  pub apart : decides g table ≡ true
  pub descends : has_no_left_recursion g table leads ≡ true

-- k tokens were taken by some steps, and the symbols are left
pub record State (g : Grammar) (tokens : List ℕ) (k : ℕ) (symbols : List Sym) : Type 0 where
  pub steps : List Step
  pub within : k ≤ length tokens
  pub progress : IsProgress g (take k tokens) (slice_get tokens k) symbols steps

-- some token is the first that no sentence goes on with
abbrev Refusal : Grammar → List ℕ → Type 0
Refusal g tokens = (k : ℕ) × IsRefusedAt g tokens k

-- a state after k tokens or more; where no token was taken, what was passed can be empty
record Passed (g : Grammar) (tokens : List ℕ) (k : ℕ) (empty : Bool) (rest : List Sym) : Type 0 where
  pub taken : ℕ
  pub more : k ≤ taken
  pub none_taken : taken ≡ k → empty ≡ true
  pub state : State g tokens taken rest

-- symbols are passed, or a token is refused
abbrev Passing : Grammar → List ℕ → ℕ → Bool → List Sym → Type 0
Passing g tokens k empty rest = Passed g tokens k empty rest ⊎ Refusal g tokens

-- a rule in front of any symbols is passed
abbrev PassesRule : Grammar → MaskTable → List ℕ → ℕ → ℕ → Type 0
PassesRule g table tokens k r = (rest : List Sym) → State g tokens k (Rule r ∷ rest) → Passing g tokens k (nullable_at table r) rest

-- what is next: a token, or the end
next_cases : (tokens : List ℕ) (k : ℕ) → ((t : ℕ) × (slice_get tokens k ≡ Some t)) ⊎ ((length tokens ≤ k) × (slice_get tokens k ≡ None))
next_cases tokens k =
    elim (cases_lt k (length tokens)) [
      | inl inside ↦ inl (get_or tokens k 0, slice_get-get_or tokens k 0 inside)
      | inr past ↦ inr (past, slice_get_past tokens k past)
    ]

-- a token that a rule names is taken, or refused
take_or_refuse : (g : Grammar) (table : MaskTable) (leads tokens : List ℕ) (k u : ℕ) (rest : List Sym) → Tables g table leads →
    State g tokens k (Token u ∷ rest) → State g tokens (k + 1) rest ⊎ Refusal g tokens
take_or_refuse g table leads tokens k u rest tables s =
    elim (next_cases tokens k) [
      | inl (t, is) ↦ elim (cases_eq t u) [
        | inl same ↦ inl (taken (is ∙ ap Some same))
        | inr other ↦ inr (refused (λ (e : slice_get tokens k ≡ Some u). other (let both : Some t ≡ Some u = sym is ∙ e in cc)))
      ]
      | inr (past, none) ↦ inr (refused (λ (e : slice_get tokens k ≡ Some u). cc))
    ]
  where
    taken : slice_get tokens k ≡ Some u → State g tokens (k + 1) rest
    taken is = record { steps = s.steps; within = let inside = slice_get_within tokens k u is in omega arith; progress = IsProgress-take_next g tokens k u rest s.steps is s.progress }

    refused : (slice_get tokens k ≡ Some u → ⊥) → Refusal g tokens
    refused other = (k, refused_at g tokens k (Token u ∷ rest) s.steps tables.well_formed s.within s.progress (stuck_token g u (slice_get tokens k) rest other))

-- a rule was replaced with the symbols of an alternative, which lead lower
record Expanded (g : Grammar) (table : MaskTable) (leads tokens : List ℕ) (k r : ℕ) (rest : List Sym) : Type 0 where
  pub chosen : List Sym
  pub lower : leads_lower table leads (get_or leads r 0) chosen ≡ true
  pub empty : empties (nullable_at table) chosen ≡ true → nullable_at table r ≡ true
  pub state : State g tokens k (chosen ++ rest)

-- a rule is replaced, or the next token is refused
expand_or_refuse : (g : Grammar) (table : MaskTable) (leads tokens : List ℕ) (k r : ℕ) (rest : List Sym) → Tables g table leads →
    State g tokens k (Rule r ∷ rest) → Expanded g table leads tokens k r rest ⊎ Refusal g tokens
expand_or_refuse g table leads tokens k r rest tables s =
    elim (decide g table r (slice_get tokens k) tables.closed tables.apart) [
      | inl d ↦ let l = leads_at g table leads r d.a d.chosen tables.descends d.is in
          inl (record {
            chosen = d.chosen;
            lower = l.lower;
            empty = empty_by_masks g table r d.a d.chosen tables.closed d.is;
            state = record {
              steps = s.steps ++ step r d.a ∷ [];
              within = s.within;
              progress = IsProgress-expand g (take k tokens) (slice_get tokens k) r d.a d.chosen rest s.steps tables.well_formed s.progress d.is d.only;
            };
          })
      | inr none ↦ inr (
        k,
        refused_at g tokens k (Rule r ∷ rest) s.steps tables.well_formed s.within s.progress
            (stuck_rule g (take k tokens) (slice_get tokens k) r rest s.steps s.progress none),
      )
    ]

-- once a token was taken, symbols are passed where each rule is
pass_later : (g : Grammar) (table : MaskTable) (leads tokens : List ℕ) (k : ℕ) (empty : Bool) (rest : List Sym) → Tables g table leads →
    ((j r : ℕ) → k < j → PassesRule g table tokens j r) →
    (symbols : List Sym) → (j : ℕ) → k < j → State g tokens j (symbols ++ rest) → Passing g tokens k empty rest
pass_later g table leads tokens k empty rest tables later [] j more s =
    inl (record { taken = j; more = omega arith; none_taken = λ (e : j ≡ k). absurd (omega arith); state = s })
pass_later g table leads tokens k empty rest tables later (Token u ∷ symbols) j more s =
    elim (take_or_refuse g table leads tokens j u (symbols ++ rest) tables s) [
      | inl t ↦ pass_later g table leads tokens k empty rest tables later symbols (j + 1) (omega arith) t
      | inr refusal ↦ inr refusal
    ]
pass_later g table leads tokens k empty rest tables later (Rule r ∷ symbols) j more s =
    elim (later j r more (symbols ++ rest) s) [
      | inl p ↦ pass_later g table leads tokens k empty rest tables later symbols p.taken (let h : j ≤ p.taken = p.more in omega arith) p.state
      | inr refusal ↦ inr refusal
    ]

-- an alternative's symbols past a rule that can be empty lead lower too
cond_true : (b x : Bool) → cond b x true ≡ true → b ≡ true → x ≡ true
cond_true true x e h = e
cond_true false x e h = absurd (cc)

-- symbols are passed where the rules that they lead with are, and after a token each rule
pass_symbols : (g : Grammar) (table : MaskTable) (leads tokens : List ℕ) (k rank : ℕ) (rest : List Sym) → Tables g table leads →
    ((j r : ℕ) → k < j → PassesRule g table tokens j r) → ((r : ℕ) → get_or leads r 0 < rank → PassesRule g table tokens k r) →
    (symbols : List Sym) → leads_lower table leads rank symbols ≡ true →
    State g tokens k (symbols ++ rest) → Passing g tokens k (empties (nullable_at table) symbols) rest
pass_symbols g table leads tokens k rank rest tables later below [] lower s =
    inl (record { taken = k; more = omega arith; none_taken = λ (e : k ≡ k). refl; state = s })
pass_symbols g table leads tokens k rank rest tables later below (Token u ∷ symbols) lower s =
    elim (take_or_refuse g table leads tokens k u (symbols ++ rest) tables s) [
      | inl t ↦ pass_later g table leads tokens k false rest tables later symbols (k + 1) (omega arith) t
      | inr refusal ↦ inr refusal
    ]
pass_symbols g table leads tokens k rank rest tables later below (Rule r ∷ symbols) lower s =
    let p = and_parts (ltb (get_or leads r 0) rank) (cond (nullable_at table r) (leads_lower table leads rank symbols) true) lower in
    elim (below r (ltb-true (get_or leads r 0) rank p.0) (symbols ++ rest) s) [
      | inl q ↦ elim (cases_lt k q.taken) [
        | inl more ↦ pass_later g table leads tokens k (nullable_at table r && empties (nullable_at table) symbols) rest tables later symbols q.taken more q.state
        | inr same ↦
            let here : q.taken ≡ k = (let h : k ≤ q.taken = q.more in omega arith) in
            let empty = q.none_taken here in
            past_empty r symbols empty (pass_symbols g table leads tokens k rank rest tables later below symbols (cond_true (nullable_at table r) (leads_lower table leads rank symbols) p.1 empty) (subst (λ (j : ℕ). State g tokens j (symbols ++ rest)) here q.state))
      ]
      | inr refusal ↦ inr refusal
    ]
  where
    past_empty : (r : ℕ) (symbols : List Sym) → nullable_at table r ≡ true → Passing g tokens k (empties (nullable_at table) symbols) rest →
        Passing g tokens k (nullable_at table r && empties (nullable_at table) symbols) rest
    past_empty r symbols empty (inl q) =
        inl (record { taken = q.taken; more = q.more; none_taken = λ e. and_from (nullable_at table r) (empties (nullable_at table) symbols) empty (q.none_taken e); state = q.state })
    past_empty r symbols empty (inr refusal) = inr refusal

-- at one token: rules of rank below n, where after a token each rule is passed
pass_ranked : (g : Grammar) (table : MaskTable) (leads tokens : List ℕ) (k : ℕ) → Tables g table leads → ((j r : ℕ) → k < j → PassesRule g table tokens j r) →
    (n r : ℕ) → get_or leads r 0 < n → PassesRule g table tokens k r
pass_ranked g table leads tokens k tables later zero r low rest s = absurd (omega arith)
pass_ranked g table leads tokens k tables later (suc n) r low rest s =
    elim (expand_or_refuse g table leads tokens k r rest tables s) [
      | inl x ↦ passed x (pass_symbols g table leads tokens k (get_or leads r 0) rest tables later
          (λ q lower. pass_ranked g table leads tokens k tables later n q (omega arith)) x.chosen x.lower x.state)
      | inr refusal ↦ inr refusal
    ]
  where
    passed : (x : Expanded g table leads tokens k r rest) → Passing g tokens k (empties (nullable_at table) x.chosen) rest → Passing g tokens k (nullable_at table r) rest
    passed x (inl q) = inl (record { taken = q.taken; more = q.more; none_taken = λ e. x.empty (q.none_taken e); state = q.state })
    passed x (inr refusal) = inr refusal

-- with fewer than n tokens left each rule is passed
pass_rule : (g : Grammar) (table : MaskTable) (leads tokens : List ℕ) → Tables g table leads → (n k r : ℕ) → length tokens < k + n → PassesRule g table tokens k r
pass_rule g table leads tokens tables zero k r left rest s = let h : k ≤ length tokens = s.within in absurd (omega arith)
pass_rule g table leads tokens tables (suc n) k r left rest s =
    pass_ranked g table leads tokens k tables (λ j q more. pass_rule g table leads tokens tables n j q (omega arith)) (get_or leads r 0 + 1) r (omega arith) rest s

-- one token is the first
one_refusal : (g : Grammar) (tokens : List ℕ) (j k : ℕ) → IsRefusedAt g tokens j → IsRefusedAt g tokens k → j ≡ k
one_refusal g tokens j k p q =
    elim (cases_lt j k) [
      | inl lt ↦ absurd (p.refused (q.least j lt))
      | inr le ↦ elim (cases_lt k j) [
        | inl lt ↦ absurd (q.refused (p.least k lt))
        | inr ge ↦ omega arith
      ]
    ]

-- an outcome of reading that is the only one
abbrev Only : Grammar → List ℕ → Type 0
Only g tokens = (outcome : Result (List Step) ℕ) × IsReading g tokens outcome × ((other : Result (List Step) ℕ) → IsReading g tokens other → other ≡ outcome)

-- what is refused at a token has no other reading
only_refused : (g : Grammar) (tokens : List ℕ) → Refusal g tokens → Only g tokens
only_refused g tokens (k, refused) = (Err k, (none_derives g tokens k refused, refused), one)
  where
    one : (other : Result (List Step) ℕ) → IsReading g tokens other → other ≡ Err k
    one (Ok tree) h = absurd (none_derives g tokens k refused tree h)
    one (Err j) h = ap Err (one_refusal g tokens j k h.1 refused)

-- nor has what one tree derives
only_tree : (g : Grammar) (tokens : List ℕ) (tree : List Step) → IsTreeOf g tokens tree → ((other : List Step) → IsTreeOf g tokens other → other ≡ tree) → Only g tokens
only_tree g tokens tree derives only = (Ok tree, derives, one)
  where
    one : (other : Result (List Step) ℕ) → IsReading g tokens other → other ≡ Ok tree
    one (Ok t) h = ap Ok (only t h)
    one (Err k) h = absurd (h.0 tree derives)

-- where no symbol is left, the end is next, or the next token is refused
at_end : (g : Grammar) (tokens : List ℕ) (k : ℕ) → IsWellFormed g → State g tokens k [] → Only g tokens
at_end g tokens k well s =
    elim (next_cases tokens k) [
      | inl (t, is) ↦ only_refused g tokens (k, refused_at g tokens k [] s.steps well s.within s.progress (stuck_end g (slice_get tokens k) (λ (e : slice_get tokens k ≡ None). cc)))
      | inr (past, none) ↦
          let d = done g tokens s.steps (subst (λ (x : Next). IsProgress g tokens x [] s.steps) none
          (subst (λ (l : List ℕ). IsProgress g l (slice_get tokens k) [] s.steps) (take_all k tokens past) s.progress)) in
          only_tree g tokens s.steps d.0 d.1
    ]

-- so each list has one reading
pub one_reading_by_tables : (g : Grammar) (table : MaskTable) (ranks leads : List ℕ) → are_closed g table ≡ true → decides g table ≡ true → are_ranked g ranks ≡ true →
    has_no_left_recursion g table leads ≡ true → (tokens : List ℕ) → Only g tokens
one_reading_by_tables g table ranks leads closed apart ranked descends tokens =
    let well = well_formed_by_ranks g ranks ranked in
    let tables : Tables g table leads = record { well_formed = well; closed = closed; apart = apart; descends = descends } in
    let start : State g tokens 0 (Rule 0 ∷ []) = record { steps = []; within = omega arith; progress = IsProgress-start g (slice_get tokens 0) well.some_rule } in
    elim (pass_rule g table leads tokens tables (length tokens + 1) 0 0 (omega arith) [] start) [
      | inl p ↦ at_end g tokens p.taken well p.state
      | inr refusal ↦ only_refused g tokens refusal
    ]
