-- What is kept of entities, one entity more.
use Rattle.std.proofs.Common.{◌≡◌, ℕ, zero, suc, ◌+◌, ◌<◌, List, [], ◌∷◌, ◌++◌, length, map, take, sym, ap, subst, ◌∙◌, arith, length-append}
use Rattle.std.specs.Prelude.{Some, Result}
use Rattle.std.specs.List.{slice_get}
use Rattle.std.specs.Option.{option_map}
use Rattle.std.proofs.lemmas.List.{map-append, take_more}
use Rattle.std.proofs.lemmas.Option.{get_or_from_slice_get, slice_get_within}
use Rattle.vital_library.specs.Units.{entities}
use Rattle.vital_nodes.specs.declared.unit.Units.{Units}
use Rattle.vital_instances.specs.declared.child.Child.{Child}
use Rattle.vital_instances.specs.declared.fault.Fault.{Fault}
use Rattle.vital_instances.specs.Contents.{HasContents, contents_at, lent}

-- what is kept is what is wanted of each entity so far, and of one more
pub map-more : {A B : Type 0} (want : A → B) (xs : List A) (i : ℕ) (x : A) (old new : List B) → slice_get xs i ≡ Some x → old ≡ map want (take i xs) → new ≡ old ++ want x ∷ [] → new ≡ map want (take (i + 1) xs)
map-more want xs i x old new there before put =
    put
    ∙ ap (λ ys. ys ++ want x ∷ []) before
    ∙ sym (map-append want (take i xs) (x ∷ []))
    ∙ ap (λ y. map want (take i xs ++ y ∷ [])) (sym (get_or_from_slice_get xs i x x there))
    ∙ ap (map want) (sym (take_more xs i x (slice_get_within xs i x there)))

-- each that is kept is what is wanted by its number, and so is one more
each-more : {A B : Type 0} (see : A → B) (want : ℕ → B) (xs : List A) (x : A) → ((k : ℕ) → k < length xs → option_map see (slice_get xs k) ≡ Some (want k)) → see x ≡ want (length xs) → (k : ℕ) → k < length xs + 1 → option_map see (slice_get (xs ++ x ∷ []) k) ≡ Some (want k)
each-more see want [] x each here zero within = ap (λ y. Some y) here
each-more see want [] x each here (suc k) within = absurd (omega arith)
each-more see want (y ∷ xs) x each here zero within = each 0 (omega arith)
each-more see want (y ∷ xs) x each here (suc k) within =
    each-more see (λ n. want (suc n)) xs x (λ n at. each (suc n) (omega arith)) (here ∙ ap want (omega arith)) k (omega arith)

-- ---- what so many entities hold

pub record IsKept (files : List Units) (n : ℕ) (known : List (Result (List Child) Fault)) : Type 0 where
  pub all : length known ≡ n
  pub each : (k : ℕ) → k < length known → option_map lent (slice_get known k) ≡ Some (contents_at files k)

-- one more
pub kept-more : (files : List Units) (n : ℕ) (old new : List (Result (List Child) Fault)) (x : Result (List Child) Fault) → IsKept files n old → lent x ≡ contents_at files n → new ≡ old ++ x ∷ [] → IsKept files (n + 1) new
kept-more files n old new x is here put =
    let all = is.all in
    let size = length-append old (x ∷ []) in
    let grown = ap length put in
    record {
      all = omega arith;
      each = λ k within.
          subst (λ known. option_map lent (slice_get known k) ≡ Some (contents_at files k)) (sym put)
          (each-more lent (contents_at files) old x is.each (here ∙ ap (contents_at files) (sym all)) k (omega arith));
    }

-- all of them
pub kept-all : (files : List Units) (n : ℕ) (known : List (Result (List Child) Fault)) → IsKept files n known → n ≡ length (entities files) → HasContents files known
kept-all files n known is whole = record { all = is.all ∙ whole; each = is.each }
