-- Instances of cells that are alike.
use Rattle.std.proofs.Common.{◌≡◌, ℕ, zero, suc, ◌+◌, ◌<◌, List, [], ◌∷◌, ◌++◌, length, map, take, get_or, Global, Option, Some, None, Result, Ok, Err, Vec, inl, inr, refl, sym, ap, subst, ◌∙◌, arith}
use Rattle.std.specs.Prelude.{IfOk, IfSome, slice_get}
use Rattle.std.specs.declared.alloc.AllocError.{AllocError}
use Rattle.std.specs.List.{cons_option}
use Rattle.std.proofs.lemmas.Bool.{cases_lt}
use Rattle.std.proofs.lemmas.List.{append-nil, get_or_append_left, get_or_push, length-map, length_push, map-append}
use Rattle.std.proofs.lemmas.Option.{slice_get-get_or}
use Rattle.vital_kernel.specs.Alike.{AreAlike, AreTwins, IsTwin}
use Rattle.vital_kernel.specs.Placed.{HaveKinds}
use Rattle.vital_kernel.specs.declared.network.NetCell.{NetCell}
use Rattle.vital_kernel.specs.declared.placed.Placed.{Placed}
use Rattle.vital_timing.specs.declared.delay.Delay.{Delay}
use Rattle.vital_typed_cells.specs.declared.typed_cell.TypedCell.{TypedCell}
use Rattle.vital_nodes.proofs.Lists.{map-take, take-one}

-- ---- the numbers of their cells

pub kinds-put : (cells : List TypedCell) (found : Option Placed) (old new : List Placed) → HaveKinds cells old → IfSome found (λ place. slice_get cells place.kind ≡ Some place.cell.now) → new ≡ old ++ cons_option found [] → HaveKinds cells new
kinds-put cells None old new before is put = subst (HaveKinds cells) (sym (put ∙ append-nil old)) before
kinds-put cells (Some p) old new before is put =
    let kind_of = λ (q : Placed). slice_get cells q.kind in
    let tree_of : Placed → Option TypedCell = λ q. Some q.cell.now in
    subst (HaveKinds cells) (sym put)
    (map-append kind_of old (p ∷ [])
    ∙ ap (λ (os : List (Option TypedCell)). os ++ kind_of p ∷ []) before
    ∙ ap (λ (o : Option TypedCell). map tree_of old ++ o ∷ []) is
    ∙ sym (map-append tree_of old (p ∷ [])))

-- ---- one instance more

pub twins-none : (kinds : List ℕ) (values : List (List Delay)) → AreTwins kinds values 0 []
twins-none kinds values = record { all = refl; twins = λ own lt. absurd (omega (arith, lt)) }

pub twins-turn : (kinds : List ℕ) (values : List (List Delay)) (own found : ℕ) (now new : List ℕ) → AreTwins kinds values own now → IsTwin kinds values own found → new ≡ now ++ found ∷ [] → AreTwins kinds values (own + 1) new
twins-turn kinds values own found now new before twin put = record {
  all = ap (λ (ns : List ℕ). length ns) put ∙ length_push now found ∙ ap (λ (n : ℕ). n + 1) before.all;
  twins = λ k lt. subst (λ (ns : List ℕ). IsTwin kinds values k (get_or ns k 0)) (sym put) (one k lt);
}
  where
    one : (k : ℕ) → k < own + 1 → IsTwin kinds values k (get_or (now ++ found ∷ []) k 0)
    one k lt = elim (cases_lt k own) [
      | inl less ↦ subst (IsTwin kinds values k) (sym (get_or_append_left now (found ∷ []) 0 k (omega (arith, less, before.all)))) (before.twins k less)
      | inr le ↦
          let is : own ≡ k = omega (arith, lt, le) in
          let here : found ≡ get_or (now ++ found ∷ []) k 0 = sym (get_or_push now found 0 k (before.all ∙ is)) in
          subst (λ (n : ℕ). IsTwin kinds values n (get_or (now ++ found ∷ []) k 0)) is (subst (IsTwin kinds values own) here twin)
    ]

pub one-more : {A B C : Type 0} (see : A → B) (see' : C → B) (old new : List A) (a : A) (xs : List C) (k : ℕ) (x : C) → k < length xs → x ≡ get_or xs k x → new ≡ old ++ a ∷ [] → see a ≡ see' x → map see old ≡ map see' (take k xs) → map see new ≡ map see' (take (k + 1) xs)
one-more {A} {B} {C} see see' old new a xs k x within is put same before =
    ap (λ (all : List A). map see all) put
    ∙ map-append see old (a ∷ [])
    ∙ ap (λ (bs : List B). bs ++ see a ∷ []) before
    ∙ ap (λ (b : B). map see' (take k xs) ++ b ∷ []) same
    ∙ sym (map-take see' xs k x within is)

pub one-more-number : {A : Type 0} (see : A → ℕ) (old new : List A) (a : A) (ns : List ℕ) (k n : ℕ) → k < length ns → n ≡ get_or ns k n → new ≡ old ++ a ∷ [] → see a ≡ n → map see old ≡ take k ns → map see new ≡ take (k + 1) ns
one-more-number {A} see old new a ns k n within is put same before =
    ap (λ (all : List A). map see all) put
    ∙ map-append see old (a ∷ [])
    ∙ ap (λ (ms : List ℕ). ms ++ see a ∷ []) before
    ∙ ap (λ (m : ℕ). take k ns ++ m ∷ []) same
    ∙ sym (take-one ns k n within is)

-- ---- all instances

pub get-seen : {A B : Type 0} (see : A → B) (xs : List A) (i : ℕ) (d : A) (e : B) → i < length xs → get_or (map see xs) i e ≡ see (get_or xs i d)
get-seen see [] i d e within = absurd (omega arith)
get-seen see (x ∷ xs) zero d e within = refl
get-seen see (x ∷ xs) (suc i) d e within = get-seen see xs i d e (omega arith)

tree-of : (cells : List TypedCell) (placed : List Placed) (i : ℕ) (t : TypedCell) → HaveKinds cells placed → i < length placed → slice_get cells (get_or (map (λ p. p.kind) placed) i 0) ≡ Some (get_or (map (λ p. p.cell.now) placed) i t)
tree-of cells [] i t are within = absurd (omega arith)
tree-of cells (p ∷ placed) zero t are within = cc
tree-of cells (p ∷ placed) (suc i) t are within =
    let others : HaveKinds cells placed = cc in
    tree-of cells placed i t others (omega arith)

same-tree : (cells : List TypedCell) (placed : List Placed) (j k : ℕ) (t : TypedCell) → HaveKinds cells placed → j < length placed → k < length placed → get_or (map (λ p. p.kind) placed) j 0 ≡ get_or (map (λ p. p.kind) placed) k 0
    → get_or (map (λ p. p.cell.now) placed) j t ≡ get_or (map (λ p. p.cell.now) placed) k t
same-tree cells placed j k t are lt less same =
    let both : Some (get_or (map (λ p. p.cell.now) placed) j t) ≡ Some (get_or (map (λ p. p.cell.now) placed) k t) =
    sym (tree-of cells placed j t are lt) ∙ ap (slice_get cells) same ∙ tree-of cells placed k t are less in
    cc

pub twins-alike : (trees : List TypedCell) (placed : List Placed) (values : List (List Delay)) (cells : List NetCell) (alike : List ℕ)
    → HaveKinds trees placed → map (λ c. c.cell.now) cells ≡ map (λ p. p.cell.now) placed → map (λ c. c.values.now) cells ≡ values → map (λ c. c.alike) cells ≡ alike
    → AreTwins (map (λ p. p.kind) placed) values (length placed) alike → AreAlike cells
twins-alike trees placed values cells alike kinds same-trees same-values same-alike twins k d within =
    let c = get_or cells k d in
    let long : length cells ≡ length placed =
    sym (length-map cells (λ (n : NetCell). n.cell.now)) ∙ ap (λ (ts : List TypedCell). length ts) same-trees ∙ length-map placed (λ (p : Placed). p.cell.now) in
    let number : get_or alike k 0 ≡ c.alike = ap (λ (ns : List ℕ). get_or ns k 0) (sym same-alike) ∙ get-seen (λ (n : NetCell). n.alike) cells k d 0 within in
    let twin = subst (IsTwin (map (λ p. p.kind) placed) values k) number (twins.twins k (omega (arith, within, long))) in
    let j = c.alike in
    let there : j < length cells = omega (arith, twin.before, within) in
    let other = get_or cells j d in
    let tree : other.cell.now ≡ c.cell.now =
    sym (ap (λ (ts : List TypedCell). get_or ts j c.cell.now) (sym same-trees) ∙ get-seen (λ (n : NetCell). n.cell.now) cells j d c.cell.now there)
    ∙ same-tree trees placed j k c.cell.now kinds (omega (arith, there, long)) (omega (arith, within, long)) twin.kind
    ∙ ap (λ (ts : List TypedCell). get_or ts k c.cell.now) (sym same-trees) ∙ get-seen (λ (n : NetCell). n.cell.now) cells k d c.cell.now within in
    let delays : other.values.now ≡ c.values.now =
    sym (ap (λ (vs : List (List Delay)). get_or vs j []) (sym same-values) ∙ get-seen (λ (n : NetCell). n.values.now) cells j d [] there)
    ∙ twin.delays
    ∙ ap (λ (vs : List (List Delay)). get_or vs k []) (sym same-values) ∙ get-seen (λ (n : NetCell). n.values.now) cells k d [] within in
    record {
      there = there;
      same =
          subst (λ (o : Option NetCell). IfSome o (λ n. (n.cell.now ≡ c.cell.now) × (n.values.now ≡ c.values.now))) (sym (slice_get-get_or cells j d there)) (tree, delays);
    }

pub alike-made : (made : Result (Vec NetCell Global) AllocError) (trees : List TypedCell) (placed seen : List Placed) (values : List (List Delay)) (alike numbers : List ℕ)
    → HaveKinds trees placed → AreTwins (map (λ p. p.kind) placed) values (length placed) alike → seen ≡ placed → numbers ≡ alike
    → IfOk made (λ cells. map (λ c. c.cell.now) cells.items ≡ map (λ p. p.cell.now) seen) → IfOk made (λ cells. map (λ c. c.values.now) cells.items ≡ values)
    → IfOk made (λ cells. map (λ c. c.alike) cells.items ≡ numbers) → IfOk made (λ cells. AreAlike cells.items)
alike-made (Ok cells) trees placed seen values alike numbers kinds twins same-placed same-numbers are-trees are-values are-numbers =
    twins-alike trees placed values cells.items alike kinds (are-trees ∙ ap (λ (ps : List Placed). map (λ p. p.cell.now) ps) same-placed) are-values (are-numbers ∙ same-numbers) twins
alike-made (Err e) trees placed seen values alike numbers kinds twins same-placed same-numbers are-trees are-values are-numbers = tt
