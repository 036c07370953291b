-- Where a chain parts at one of its entries.
use Rattle.std.proofs.Common.{◌≡◌, ℕ, ◌+◌, List, [], ◌∷◌, ◌++◌, filter, Option, Some, None, inl, inr, refl, sym, ap, subst, ◌∙◌, arith}
use Rattle.std.specs.Option.{option_map_or}
use Rattle.std.specs.Prelude.{is_some}
use Rattle.std.proofs.lemmas.Bool.{cases_Bool, cases_eq, eq-eqb, ne_eqb, le-ltb}
use Rattle.std.proofs.lemmas.List.{append-nil}
use Rattle.std.proofs.lemmas.List.Elements.{filter-append}
use Rattle.vital_agenda.specs.declared.stay.Stay.{Stay}
use Rattle.vital_agenda.specs.Queues.{Keyed, latest, IsChain, IsTimeOf, Falls, entry_of, is_up_to, is_after, later_than, stays, transaction_of, first_staying, after_staying}
use Rattle.vital_agenda.proofs.Chains.{front_is_after, rest_falls, before_more, after_is_after, after_not_up_to, before_not_after, up_to_all, none_after, entry_append_none, chain_falls}

-- the entries from a time back that may be missing
abbrev pub back_from : Option ℕ → List Keyed → List Keyed
back_from last chain = option_map_or (λ time. filter (is_up_to time) chain) last []

pub rest_is_chain : (xs ys : List Keyed) → IsChain (xs ++ ys) → IsChain ys
rest_is_chain [] ys h = h
rest_is_chain (x ∷ xs) ys h = rest_is_chain xs ys h.2

-- the entry at the time of one of a chain is that one
pub entry_here : (passed : List Keyed) (e : Keyed) (earlier : List Keyed) → Falls (passed ++ e ∷ earlier) → entry_of e.0.0 (passed ++ e ∷ earlier) ≡ Some e.1
entry_here passed e earlier falls =
    entry_append_none e.0.0 passed (e ∷ earlier) (none_after e.0.0 passed (front_is_after passed e earlier falls)) ∙ rw (eq-eqb e.0.0 e.0.0 refl) refl

pub front_is_time : (kept left : List Keyed) → Falls (kept ++ left) → IsTimeOf (latest left) (kept ++ left)
front_is_time kept [] falls = tt
front_is_time kept (e ∷ earlier) falls = ap is_some (entry_here kept e earlier falls)

pub later_than_front : (kept left : List Keyed) → Falls (kept ++ left) → later_than (latest left) (kept ++ left) ≡ kept
later_than_front kept [] falls = append-nil kept
later_than_front kept (e ∷ earlier) falls =
    let not_here : filter (is_after e.0.0) (e ∷ earlier) ≡ [] = rw (le-ltb e.0.0 e.0.0 (omega arith)) (before_not_after e.0.0 earlier (rest_falls kept (e ∷ earlier) falls).0) in
    filter-append (is_after e.0.0) kept (e ∷ earlier)
    ∙ ap (λ (xs : List Keyed). xs ++ filter (is_after e.0.0) (e ∷ earlier)) (after_is_after e.0.0 kept (front_is_after kept e earlier falls))
    ∙ ap (λ (ys : List Keyed). kept ++ ys) not_here ∙ append-nil kept

pub back_from_front : (kept left : List Keyed) → Falls (kept ++ left) → back_from (latest left) (kept ++ left) ≡ left
back_from_front kept [] falls = refl
back_from_front kept (e ∷ earlier) falls =
    let here : filter (is_up_to e.0.0) (e ∷ earlier) ≡ e ∷ earlier =
    up_to_all e.0.0 (e ∷ earlier) (omega arith, before_more e.0.0 (e.0.0 + 1) earlier (omega arith) (rest_falls kept (e ∷ earlier) falls).0) in
    filter-append (is_up_to e.0.0) kept (e ∷ earlier)
    ∙ ap (λ (xs : List Keyed). xs ++ filter (is_up_to e.0.0) (e ∷ earlier)) (after_not_up_to e.0.0 kept (front_is_after kept e earlier falls)) ∙ here

-- from its last entry back a chain is whole
pub back_from_last : (last : Option ℕ) (chain : List Keyed) → IsChain chain → last ≡ latest chain → back_from last chain ≡ chain
back_from_last last chain h is = ap (λ (l : Option ℕ). back_from l chain) is ∙ back_from_front [] chain (chain_falls chain h)

pub last_is_time : (last : Option ℕ) (chain : List Keyed) → IsChain chain → last ≡ latest chain → IsTimeOf last chain
last_is_time last chain h is = subst (λ (l : Option ℕ). IsTimeOf l chain) (sym is) (front_is_time [] chain (chain_falls chain h))

-- ---- it parts at each time of an entry

pub record Parts (last : Option ℕ) (chain : List Keyed) : Type 0 where
  pub kept : List Keyed
  pub left : List Keyed
  pub whole : chain ≡ kept ++ left
  pub first : last ≡ latest left

parts_more : (last : Option ℕ) (e : Keyed) (chain : List Keyed) → Parts last chain → Parts last (e ∷ chain)
parts_more last e chain p = record { kept = e ∷ p.kept; left = p.left; whole = ap (λ (xs : List Keyed). e ∷ xs) p.whole; first = p.first }

pub parts_at : (last : Option ℕ) (chain : List Keyed) → IsTimeOf last chain → Parts last chain
parts_at None chain h = record { kept = chain; left = []; whole = sym (append-nil chain); first = refl }
parts_at (Some time) [] h = cc
parts_at (Some time) (e ∷ earlier) h = elim (cases_eq e.0.0 time) [
  | inl same ↦ record { kept = []; left = e ∷ earlier; whole = refl; first = ap (λ (t : ℕ). Some t) (sym same) }
  | inr other ↦ parts_more (Some time) e earlier (parts_at (Some time) earlier (rw (ne_eqb e.0.0 time other) at h))
]

pub left_is : (last : Option ℕ) (chain : List Keyed) → Falls chain → (p : Parts last chain) → back_from last chain ≡ p.left
left_is last chain falls p =
    ap (λ (l : Option ℕ). back_from l chain) p.first ∙ ap (back_from (latest p.left)) p.whole ∙ back_from_front p.kept p.left (subst Falls p.whole falls)

pub kept_is_later : (last : Option ℕ) (chain : List Keyed) → Falls chain → (p : Parts last chain) → later_than last chain ≡ p.kept
kept_is_later last chain falls p =
    ap (λ (l : Option ℕ). later_than l chain) p.first ∙ ap (later_than (latest p.left)) p.whole ∙ later_than_front p.kept p.left (subst Falls p.whole falls)

-- ---- it parts where its entries do not stay

-- the first entries that stay, and then the others
pub stayed_whole : (stay : Stay) (chain : List Keyed) → chain ≡ first_staying stay chain ++ after_staying stay chain
stayed_whole stay [] = refl
stayed_whole stay (e ∷ earlier) = elim (cases_Bool (stays stay (transaction_of e))) [
  | inl stays_here ↦ rw stays_here (ap (λ (xs : List Keyed). e ∷ xs) (stayed_whole stay earlier))
  | inr goes ↦ rw goes refl
]

pub rest_is_time : (stay : Stay) (chain : List Keyed) (rest : Option ℕ) → IsChain chain → rest ≡ latest (after_staying stay chain) → IsTimeOf rest chain
rest_is_time stay chain rest h is =
    let whole = stayed_whole stay chain in
    let falls : Falls (first_staying stay chain ++ after_staying stay chain) = subst Falls whole (chain_falls chain h) in
    subst (λ (r : Option ℕ). IsTimeOf r chain) (sym is) (subst (IsTimeOf (latest (after_staying stay chain))) (sym whole) (front_is_time (first_staying stay chain) (after_staying stay chain) falls))
