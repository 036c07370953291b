-- The faults of units with one unit more.
use Rattle.std.proofs.Common.{◌≡◌, ℕ, true, false, List, [], ◌∷◌, ◌++◌, map, refl, sym, ◌∙◌, ap, append_assoc, append-nil}
use Rattle.std.specs.Prelude.{Bool, cond, not, ◌||◌, fold, filter, Option}
use Rattle.std.specs.List.{list_any}
use Rattle.std.specs.Str.{bytes_eq}
use Rattle.std.proofs.lemmas.List.{map-append}
use Rattle.std.proofs.lemmas.List.Folds.{list_any-append}
use Rattle.std.proofs.lemmas.List.Sums.{fold-append}
use Rattle.std.proofs.lemmas.List.Elements.{filter-append, filter_map-append}
use Rattle.std.specs.Borrow.{Bor}
use Rattle.std.specs.HashSet.{HashSet}
use Rattle.std.specs.declared.hash.BuildHasherDefault.{BuildHasherDefault}
use Rattle.std.specs.declared.hash.FoldHasher.{FoldHasher}
use Rattle.vital_nodes.specs.declared.unit.Arch.{Arch}
use Rattle.vital_nodes.specs.declared.unit.Unit.{Unit as Unit'}
use Rattle.vital_nodes.specs.declared.unit.Unit.TheVariants as variant
use Rattle.vital_library.specs.declared.fault.Fault.{Fault}
use Rattle.vital_library.specs.Faults.{shares_name, duplicate, duplicates_after, duplicates, has_entity, no_entity, without_entity, sooner, least_of, faults}
use Rattle.vital_library.specs.Names.{has_name, without_name}
use Rattle.vital_library.specs.Units.{as_entity, as_arch, entities_among, archs_among}

abbrev shares-any : Unit' → List Unit' → Bool
shares-any w units = list_any (λ v. shares_name v w) units

-- ---- duplicates
or-swap : (a b : Bool) → (a || (b || false)) ≡ (b || a)
or-swap true true = refl
or-swap true false = refl
or-swap false true = refl
or-swap false false = refl

pub shares-push : (units : List Unit') (u w : Unit') → shares-any w (units ++ u ∷ []) ≡ (shares_name u w || shares-any w units)
shares-push units u w =
    list_any-append (λ v. shares_name v w) units (u ∷ [])
    ∙ or-swap (shares-any w units) (shares_name u w)

abbrev if-shared : Bool → Unit' → List Unit'
if-shared b w = cond b (w ∷ []) []

duplicates-push : (before units : List Unit') (w : Unit') → duplicates_after before (units ++ w ∷ []) ≡ duplicates_after before units ++ if-shared (shares-any w (before ++ units)) w
duplicates-push before [] w = ap (λ us. if-shared (shares-any w us) w) (sym (append-nil before))
duplicates-push before (u ∷ units) w = step (shares-any u before) _ _ _ (duplicates-push (before ++ u ∷ []) units w ∙ ap (λ us. duplicates_after (before ++ u ∷ []) units ++ if-shared (shares-any w us) w) (append_assoc before (u ∷ []) units))
  where
    step : (b : Bool) (xs ys zs : List Unit') → xs ≡ ys ++ zs → cond b (u ∷ xs) xs ≡ cond b (u ∷ ys) ys ++ zs
    step true xs ys zs e = ap (λ us. u ∷ us) e
    step false xs ys zs e = e

least-push : (units : List Unit') (w : Unit') (b : Bool) → shares-any w units ≡ b → least_of (map duplicate (duplicates (units ++ w ∷ []))) ≡ cond b (sooner (least_of (map duplicate (duplicates units))) (duplicate w)) (least_of (map duplicate (duplicates units)))
least-push units w b e =
    ap (λ us. least_of (map duplicate us)) (duplicates-push [] units w ∙ ap (λ a. duplicates units ++ if-shared a w) e)
    ∙ ap least_of (map-append duplicate (duplicates units) (if-shared b w))
    ∙ fold-append sooner _ (map duplicate (duplicates units)) (map duplicate (if-shared b w))
    ∙ last b
  where
    last : (a : Bool) → fold sooner (least_of (map duplicate (duplicates units))) (map duplicate (if-shared a w)) ≡ cond a (sooner (least_of (map duplicate (duplicates units))) (duplicate w)) (least_of (map duplicate (duplicates units)))
    last true = refl
    last false = refl

pub shared-where_old : (added declared shared : Bool) → added ≡ not declared → declared ≡ shared → added ≡ false → shared ≡ true
shared-where_old added true shared e f g = sym f
shared-where_old added false shared e f g = absurd (cc)

pub shared-where_new : (added declared shared : Bool) → added ≡ not declared → declared ≡ shared → added ≡ true → shared ≡ false
shared-where_new added true shared e f g = absurd (cc)
shared-where_new added false shared e f g = sym f

pub least-push_duplicate : (units : List Unit') (w : Unit') → shares-any w units ≡ true → least_of (map duplicate (duplicates (units ++ w ∷ []))) ≡ sooner (least_of (map duplicate (duplicates units))) (duplicate w)
least-push_duplicate units w e = least-push units w true e

pub least-push_new : (units : List Unit') (w : Unit') → shares-any w units ≡ false → least_of (map duplicate (duplicates (units ++ w ∷ []))) ≡ least_of (map duplicate (duplicates units))
least-push_new units w e = least-push units w false e

-- ---- entities
or-swap_any : (a b : Bool) → (a || b) ≡ (b || a)
or-swap_any true true = refl
or-swap_any true false = refl
or-swap_any false true = refl
or-swap_any false false = refl

pub has_entity-push : (units : List Unit') (u : Unit') (name : List ℕ) → has_entity (units ++ u ∷ []) name ≡ (has_entity (u ∷ []) name || has_entity units name)
has_entity-push units u name =
    ap (list_any (λ entity. bytes_eq entity.identifier.name name)) (filter_map-append as_entity units (u ∷ []))
    ∙ list_any-append (λ entity. bytes_eq entity.identifier.name name) (entities_among units) (entities_among (u ∷ []))
    ∙ or-swap_any (has_entity units name) (has_entity (u ∷ []) name)

abbrev Names : Type 0
Names = HashSet (Bor (List ℕ)) (BuildHasherDefault FoldHasher)

abbrev lacks : Names → Arch → Bool
lacks names = λ arch. not (has_name names arch.entity.name)

pub fold-push_without : (least : Option Fault) (names : Names) (units : List Unit') (u : Unit') → fold sooner least (map no_entity (without_name names (units ++ u ∷ []))) ≡ fold sooner (fold sooner least (map no_entity (without_name names units))) (map no_entity (without_name names (u ∷ [])))
fold-push_without least names units u =
    ap (λ archs. fold sooner least (map no_entity archs)) (ap (filter (lacks names)) (filter_map-append as_arch units (u ∷ [])) ∙ filter-append (lacks names) (archs_among units) (archs_among (u ∷ [])))
    ∙ ap (fold sooner least) (map-append no_entity (without_name names units) (without_name names (u ∷ [])))
    ∙ fold-append sooner least (map no_entity (without_name names units)) (map no_entity (without_name names (u ∷ [])))

one-without : (least : Option Fault) (arch : Arch) (b : Bool) → cond b least (sooner least (no_entity arch)) ≡ fold sooner least (map no_entity (cond (not b) (arch ∷ []) []))
one-without least arch true = refl
one-without least arch false = refl

pub fold-one_without : (least : Option Fault) (names : Names) (unit : Unit') (arch : Arch) → unit ≡ variant.Arch arch → cond (has_name names arch.entity.name) least (sooner least (no_entity arch)) ≡ fold sooner least (map no_entity (without_name names (unit ∷ [])))
fold-one_without least names unit arch is =
    one-without least arch (has_name names arch.entity.name)
    ∙ ap (λ u. fold sooner least (map no_entity (without_name names (u ∷ [])))) (sym is)

-- ---- all faults
filter-same : {A : Type 0} (p q : A → Bool) → ((x : A) → p x ≡ q x) → (xs : List A) → filter p xs ≡ filter q xs
filter-same p q same [] = refl
filter-same p q same (x ∷ xs) = rw (same x, filter-same p q same xs) refl

pub least-all : (names : Names) (units : List Unit') → ((name : List ℕ) → has_name names name ≡ has_entity units name) → fold sooner (least_of (map duplicate (duplicates units))) (map no_entity (without_name names units)) ≡ least_of (faults units)
least-all names units same =
    ap (λ archs. fold sooner (least_of (map duplicate (duplicates units))) (map no_entity archs)) (filter-same (λ (arch : Arch). not (has_name names arch.entity.name)) (λ (arch : Arch). not (has_entity units arch.entity.name)) (λ arch. ap not (same arch.entity.name)) (archs_among units))
    ∙ sym (fold-append sooner _ (map duplicate (duplicates units)) (map no_entity (without_entity units)))
