-- The state of reading: the tokens taken, the stack and the steps written.
use Rattle.std.proofs.Common.{◌≡◌, ℕ, ◌+◌, ◌<◌, ◌≤◌, List, [], ◌∷◌, ◌++◌, length, take, slice_get, Some, None, Err, sym, subst, append_assoc, arith}
use Rattle.std.proofs.lemmas.List.{append-nil, take_all}
use Rattle.std.proofs.lemmas.Option.{slice_get_within, slice_get_past}
use Rattle.std.proofs.lemmas.List.Elements.{All-head}
use Rattle.vital_ll.specs.declared.grammar.Sym.{Sym}
use Rattle.vital_ll.specs.declared.grammar.Sym.TheVariants.{Token, Rule}
use Rattle.vital_ll.specs.declared.derivation.Step.{Step}
use Rattle.vital_ll.specs.Grammar.{Grammar, alternative_of}
use Rattle.vital_ll.specs.Sentence.{Next, IsTreeOf, IsRefusedAt}
use Rattle.vital_ll.specs.Choice.{IsChoice, IsNamed, IsWellFormed}
use Rattle.vital_ll.specs.Readings.{IsReading}
use Rattle.vital_ll.specs.Masks.{bit_of}
use Rattle.vital_ll.specs.Expansion.{Expands, nothing, replaced}
use Rattle.vital_ll.specs.Listing.{step}
use Rattle.vital_ll.proofs.Expanding.{Expands-before}
use Rattle.vital_ll.proofs.Progress.{IsProgress, IsProgress-start, IsProgress-take_next, IsProgress-expand, none_derives, refused_at, stuck_token, stuck_rule, stuck_end, done}

-- the symbols that are left
pub record IsParsing (g : Grammar) (tokens : List ℕ) (taken : ℕ) (pending : List Sym) (steps : List Step) : Type 0 where
  pub well_formed : IsWellFormed g
  pub within : taken ≤ length tokens
  pub progress : IsProgress g (take taken tokens) (slice_get tokens taken) pending steps

pub parsing_start : (g : Grammar) (tokens : List ℕ) (stack : List Sym) (steps : List Step) → IsWellFormed g → stack ≡ Rule 0 ∷ [] → steps ≡ [] →
    IsParsing g tokens 0 stack steps
parsing_start g tokens stack steps well stack_is steps_is =
    subst (λ (s : List Sym). IsParsing g tokens 0 s steps) (sym stack_is)
    (subst (λ (t : List Step). IsParsing g tokens 0 (Rule 0 ∷ []) t) (sym steps_is)
    (record { well_formed = well; within = omega arith; progress = IsProgress-start g (slice_get tokens 0) well.some_rule }))

-- with the first symbol taken
popped : (g : Grammar) (tokens : List ℕ) (k : ℕ) (old new : List Sym) (steps : List Step) → IsParsing g tokens k old steps → old ≡ new → IsProgress g (take k tokens) (slice_get tokens k) new steps
popped g tokens k old new steps p e = subst (λ (l : List Sym). IsProgress g (take k tokens) (slice_get tokens k) l steps) e p.progress

-- the first rule is there
pub rule_there : (g : Grammar) (tokens : List ℕ) (k : ℕ) (old new : List Sym) (r : ℕ) (steps : List Step) → IsParsing g tokens k old steps → old ≡ Rule r ∷ new → r < length g
rule_there g tokens k old new r steps p e = All-head (IsNamed (length g)) (Rule r) new (popped g tokens k old (Rule r ∷ new) steps p e).named

refuses : (g : Grammar) (tokens : List ℕ) (k : ℕ) → IsRefusedAt g tokens k → IsReading g tokens (Err k)
refuses g tokens k r = (none_derives g tokens k r, r)

pub refused_token : (g : Grammar) (tokens : List ℕ) (k : ℕ) (old new : List Sym) (t : ℕ) (steps : List Step) → IsParsing g tokens k old steps → old ≡ Token t ∷ new →
    (slice_get tokens k ≡ Some t → ⊥) → IsReading g tokens (Err k)
refused_token g tokens k old new t steps p e other =
    refuses g tokens k (refused_at g tokens k (Token t ∷ new) steps p.well_formed p.within (popped g tokens k old (Token t ∷ new) steps p e) (stuck_token g t (slice_get tokens k) new other))

pub take_token : (g : Grammar) (tokens : List ℕ) (k : ℕ) (old new : List Sym) (t : ℕ) (steps : List Step) → IsParsing g tokens k old steps → old ≡ Token t ∷ new →
    slice_get tokens k ≡ Some t → IsParsing g tokens (k + 1) new steps
take_token g tokens k old new t steps p e is = record {
  well_formed = p.well_formed;
  within = let inside = slice_get_within tokens k t is in omega arith;
  progress = IsProgress-take_next g tokens k t new steps is (popped g tokens k old (Token t ∷ new) steps p e);
}

pub refused_rule : (g : Grammar) (tokens : List ℕ) (k : ℕ) (old new : List Sym) (r : ℕ) (steps : List Step) → IsParsing g tokens k old steps → old ≡ Rule r ∷ new →
    ((a : ℕ) → IsChoice g r a (slice_get tokens k) → ⊥) → IsReading g tokens (Err k)
refused_rule g tokens k old new r steps p e none =
    let q = popped g tokens k old (Rule r ∷ new) steps p e in
    refuses g tokens k (refused_at g tokens k (Rule r ∷ new) steps p.well_formed p.within q (stuck_rule g (take k tokens) (slice_get tokens k) r new steps q none))

expand_rule : (g : Grammar) (tokens : List ℕ) (k r a : ℕ) (chosen rest : List Sym) (steps : List Step) → IsParsing g tokens k (Rule r ∷ rest) steps → alternative_of g r a ≡ Some chosen →
    ((b : ℕ) → IsChoice g r b (slice_get tokens k) → a ≡ b) → IsParsing g tokens k (chosen ++ rest) (steps ++ step r a ∷ [])
expand_rule g tokens k r a chosen rest steps p is decided = record {
  well_formed = p.well_formed;
  within = p.within;
  progress = IsProgress-expand g (take k tokens) (slice_get tokens k) r a chosen rest steps p.well_formed p.progress is (λ b h. sym (decided b h));
}

expanded : (g : Grammar) (tokens : List ℕ) (k bit : ℕ) {symbols left : List Sym} {more : List Step} (steps : List Step) → ((r b : ℕ) → IsChoice g r b (slice_get tokens k) → bit_of (slice_get tokens k) ≡ bit) →
    Expands g bit symbols left more → IsParsing g tokens k symbols steps → IsParsing g tokens k left (steps ++ more)
expanded g tokens k bit {symbols = symbols} steps same nothing p = subst (IsParsing g tokens k symbols) (sym (append-nil steps)) p
expanded g tokens k bit {left = left} steps same (replaced {r = r} {a = a} {chosen = chosen} {rest = rest} {steps = more} is decided d) p =
    subst (IsParsing g tokens k left) (append_assoc steps (step r a ∷ []) more)
    (expanded g tokens k bit (steps ++ step r a ∷ []) same d (expand_rule g tokens k r a chosen rest steps p is (λ b h. decided b (slice_get tokens k) (same r b h) h)))

-- a rule comes to what its expansion leaves
pub expand_first : (g : Grammar) (tokens : List ℕ) (k r bit : ℕ) (old new left pushed : List Sym) (steps more all : List Step) → IsParsing g tokens k old steps → old ≡ Rule r ∷ new →
    ((s b : ℕ) → IsChoice g s b (slice_get tokens k) → bit_of (slice_get tokens k) ≡ bit) → Expands g bit (Rule r ∷ []) left more →
    pushed ≡ left ++ new → all ≡ steps ++ more → IsParsing g tokens k pushed all
expand_first g tokens k r bit old new left pushed steps more all p e same d pushed_is all_is =
    subst (IsParsing g tokens k pushed) (sym all_is) (subst (λ (l : List Sym). IsParsing g tokens k l (steps ++ more)) (sym pushed_is)
    (expanded g tokens k bit steps same (Expands-before new d) (subst (λ (l : List Sym). IsParsing g tokens k l steps) e p)))

pub refused_end : (g : Grammar) (tokens : List ℕ) (k : ℕ) (stack : List Sym) (steps : List Step) → IsParsing g tokens k stack steps → stack ≡ [] →
    (slice_get tokens k ≡ None → ⊥) → IsReading g tokens (Err k)
refused_end g tokens k stack steps p e other =
    refuses g tokens k (refused_at g tokens k [] steps p.well_formed p.within (popped g tokens k stack [] steps p e) (stuck_end g (slice_get tokens k) other))

pub all_read : (g : Grammar) (tokens : List ℕ) (k : ℕ) (stack : List Sym) (steps : List Step) → IsParsing g tokens k stack steps → stack ≡ [] → length tokens ≤ k →
    IsTreeOf g tokens steps × ((other : List Step) → IsTreeOf g tokens other → other ≡ steps)
all_read g tokens k stack steps p e past =
    done g tokens steps (subst (λ (x : Next). IsProgress g tokens x [] steps) (slice_get_past tokens k past)
    (subst (λ (l : List ℕ). IsProgress g l (slice_get tokens k) [] steps) (take_all k tokens past) (popped g tokens k stack [] steps p e)))
