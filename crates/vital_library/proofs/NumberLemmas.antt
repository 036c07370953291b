-- Numbers by names.
use Rattle.std.proofs.Common.{◌≡◌, ℕ, suc, ◌+◌, ◌<◌, ◌≤◌, true, false, List, [], ◌∷◌, ◌++◌, length, refl, sym, ◌∙◌, ap, subst, arith}
use Rattle.std.specs.Prelude.{Bool, cond, Option, Some, None, is_some, IfSome}
use Rattle.std.specs.List.{position_from}
use Rattle.std.specs.Option.{option_or}
use Rattle.std.specs.Str.{bytes_eq}
use Rattle.std.specs.Cmp.Lexicographic.{bytes_decides}
use Rattle.std.specs.HashMap.{HashMap}
use Rattle.std.specs.HashMap as hash
use Rattle.std.specs.Map.{KeepsOthers, IsKeyTest, AreApart, lookup}
use Rattle.std.specs.declared.alloc.Global.{Global}
use Rattle.std.specs.declared.vec.Vec.{Vec}
use Rattle.std.specs.declared.hash.BuildHasherDefault.{BuildHasherDefault}
use Rattle.std.specs.declared.hash.FoldHasher.{FoldHasher}
use Rattle.std.proofs.lemmas.Cmp.{nat_list_eq_equiv}
use Rattle.std.proofs.lemmas.List.Elements.{filter_map-append}
use Rattle.std.proofs.lemmas.Iterator.Adapters.{position_from-zero}
use Rattle.vital_nodes.specs.declared.unit.Unit.{Unit as Unit'}
use Rattle.vital_nodes.specs.declared.unit.Unit.TheVariants as variant
use Rattle.vital_nodes.specs.declared.unit.Units.{Units}
use Rattle.vital_library.specs.Numbers.{is_named, number_named, number_of}
use Rattle.vital_library.specs.Units.{as_entity, entities_among, entities}

-- ---- one number more, after the others
or-first : (b : Bool) (n : ℕ) (all first last : Option ℕ) → all ≡ option_or first last → cond b (Some n) all ≡ option_or (cond b (Some n) first) last
or-first true n all first last e = refl
or-first false n all first last e = e

pub position_from-append : {A : Type 0} (test : A → Bool) (n : ℕ) (xs ys : List A) → position_from test n (xs ++ ys) ≡ option_or (position_from test n xs) (position_from test (n + length xs) ys)
position_from-append test n [] ys =
    let same : n ≡ n + 0 = omega arith in
    ap (λ m. position_from test m ys) same
position_from-append test n (x ∷ xs) ys =
    let same : (n + 1) + length xs ≡ n + suc (length xs) = omega arith in
    or-first (test x) n _ _ _ (position_from-append test (n + 1) xs ys ∙ ap (λ m. option_or (position_from test (n + 1) xs) (position_from test m ys)) same)

-- ---- one number more in a map
abbrev pub Numbers : Type 0
Numbers = HashMap (Vec ℕ Global) ℕ (BuildHasherDefault FoldHasher)

abbrev key-eq : Vec ℕ Global → Vec ℕ Global → Bool
key-eq x y = bytes_eq x.items y.items

other-entries : {K X : Type 0} (eq : K → K → Bool) (test : K → Bool) (old new : List (K × X)) → KeepsOthers eq test old new → (other : K → Bool) → IsKeyTest eq other → AreApart test other → lookup other new ≡ lookup other old
unfolding KeepsOthers
other-entries eq test old new h = h

apart : (bs cs ks : List ℕ) → bytes_eq bs cs ≡ false → bytes_eq bs ks ≡ true → bytes_eq cs ks ≡ false
apart bs cs ks n y = nat_list_eq_equiv.symm cs ks ∙ sym (nat_list_eq_equiv.congr bs ks cs y) ∙ n

pub updates-at : (bs : List ℕ) (old new : Numbers) (number : ℕ) → hash.UpdatesBy key-eq (λ k. bytes_eq bs k.items) old new (Some number) → (q : List ℕ) → number_of new q ≡ cond (bytes_eq bs q) (Some number) (number_of old q)
updates-at bs old new number h q = step (bytes_eq bs q) refl
  where
    step : (b : Bool) → bytes_eq bs q ≡ b → number_of new q ≡ cond b (Some number) (number_of old q)
    step true e = subst (λ l. number_of new l ≡ Some number) ((bytes_decides bs q).0 e) h.1
    step false e = other-entries key-eq _ old.entries new.entries h.3 (λ k. bytes_eq q k.items) (λ x y. nat_list_eq_equiv.congr q x.items y.items) (λ k. apart bs q k.items e)

fresh-none : (o : Option ℕ) → is_some o ≡ false → o ≡ None
fresh-none None h = refl
fresh-none (Some n) h = absurd (cc)

or-none : (o : Option ℕ) → o ≡ option_or o None
or-none None = refl
or-none (Some n) = refl

pub put-new : (bs : List ℕ) (old new : Numbers) (number : ℕ) (key : Vec ℕ Global) (found : Bool) → key.items ≡ bs → found ≡ false → found ≡ is_some (number_of old bs) → hash.UpdatesBy key-eq (λ k. bytes_eq key.items k.items) old new (Some number) → (q : List ℕ) → number_of new q ≡ option_or (number_of old q) (cond (bytes_eq bs q) (Some number) None)
put-new bs old new number key found same absent is h q =
    updates-at key.items old new number h q
    ∙ ap (λ name. cond (bytes_eq name q) (Some number) (number_of old q)) same
    ∙ step (bytes_eq bs q) refl
  where
    none : number_of old bs ≡ None
    none = fresh-none (number_of old bs) (sym is ∙ absent)

    step : (b : Bool) → bytes_eq bs q ≡ b → cond b (Some number) (number_of old q) ≡ option_or (number_of old q) (cond b (Some number) None)
    step true e = ap (λ o. option_or o (Some number)) (sym none ∙ ap (number_of old) ((bytes_decides bs q).0 e))
    step false e = or-none (number_of old q)

-- ---- one unit more
pub entities-more : (units : List Unit') (u : Unit') → entities_among (units ++ u ∷ []) ≡ entities_among units ++ entities_among (u ∷ [])
entities-more units u = filter_map-append as_entity units (u ∷ [])

pub one-entity : (u : Unit') → length (entities_among (u ∷ [])) ≤ 1
one-entity (variant.Entity e) = omega arith
one-entity (variant.Arch a) = omega arith
one-entity (variant.Pack p) = omega arith
one-entity (variant.Config c) = omega arith

pub number-more : (name : List ℕ) (units : List Unit') (u : Unit') (count : ℕ) (old new : Option ℕ) → count ≡ length (entities_among units) → old ≡ position_from (is_named name) 0 (entities_among units) → new ≡ option_or old (position_from (is_named name) count (entities_among (u ∷ []))) → new ≡ position_from (is_named name) 0 (entities_among (units ++ u ∷ []))
number-more name units u count old new counted before is =
    let counted' : count ≡ 0 + length (entities_among units) = omega (arith, counted) in
    is
    ∙ ap (λ o. option_or o (position_from (is_named name) count (entities_among (u ∷ [])))) before
    ∙ ap (λ n. option_or (position_from (is_named name) 0 (entities_among units)) (position_from (is_named name) n (entities_among (u ∷ [])))) counted'
    ∙ sym (position_from-append (is_named name) 0 (entities_among units) (entities_among (u ∷ [])))
    ∙ ap (position_from (is_named name) 0) (sym (entities-more units u))

-- ---- a number is one of an entity
bound-step : (b : Bool) (n k count : ℕ) (later : Option ℕ) → (Some k ≡ later → k < (n + 1) + count) → Some k ≡ cond b (Some n) later → k < n + suc count
bound-step true n k count later rest h =
    let same : k ≡ n = cc in
    omega (arith, same)
bound-step false n k count later rest h =
    let below : k < (n + 1) + count = rest h in
    omega (arith, below)

from-bound : {A : Type 0} (test : A → Bool) (n : ℕ) (xs : List A) (k : ℕ) → Some k ≡ position_from test n xs → k < n + length xs
from-bound test n [] k h = absurd (cc)
from-bound test n (x ∷ xs) k h = bound-step (test x) n k (length xs) (position_from test (n + 1) xs) (from-bound test (n + 1) xs k) h

pub named-there : (name : List ℕ) (files : List Units) (number : Option ℕ) → number ≡ number_named name files → IfSome number (λ k. k < length (entities files))
named-there name files None h = tt
named-there name files (Some k) h =
    let below : k < 0 + length (entities files) = from-bound (is_named name) 0 (entities files) k (h ∙ position_from-zero (is_named name) (entities files)) in
    omega (arith, below)
