-- The numbers that statements drive, one statement after another.
use Rattle.std.proofs.Common.{◌≡◌, ℕ, ◌+◌, ◌<◌, List, [], ◌∷◌, ◌++◌, length, map, take, get_or, refl, sym, ◌∙◌, ap, subst}
use Rattle.std.proofs.lemmas.List.Elements.{filter_map-append}
use Rattle.std.specs.Prelude.{Option, Result, Ok, Err, OnOk}
use Rattle.std.specs.List.{filter_map, flat_map}
use Rattle.vital_typed_cells.specs.declared.process.CellProcess.{CellProcess}
use Rattle.vital_nodes.proofs.Lists.{filter_map-seen, flat_map-one, turn-behind}
use Rattle.vital_netlist.specs.CellDrivers.{driven_by}

pub on-both : {T E P Q R : Type 0} (r : Result T E) → (P → Q → R) → OnOk r P → OnOk r Q → OnOk r R
on-both (Ok x) f p q = f p q
on-both (Err e) f p q = tt

-- a statement that drives one
pub one-turn : {A : Type 0} (see : A → List ℕ) (g : List ℕ → Option ℕ) (xs ys : List A) (i : ℕ) (x : A) (name : List ℕ) (first now new : List ℕ) → ys ≡ xs → i < length ys → x ≡ get_or ys i x → name ≡ see x → now ≡ first ++ filter_map g (map see (take i xs)) → new ≡ now ++ filter_map g (name ∷ []) → new ≡ first ++ filter_map g (map see (take (i + 1) xs))
one-turn see g xs ys i x name first now new same there is named before put =
    let inside : i < length xs = subst (λ zs. i < length zs) same there in
    turn-behind first (filter_map g (map see (take i xs))) (filter_map g (name ∷ [])) (filter_map g (see x ∷ [])) (filter_map g (map see (take (i + 1) xs))) now new put before
    (ap (λ n. filter_map g (n ∷ [])) named) (filter_map-seen see g xs i x inside (is ∙ ap (λ zs. get_or zs i x) same))

-- a process
pub process-turn : (g : List ℕ → Option ℕ) (ps : List CellProcess) (i : ℕ) (p : CellProcess) (first now new : List ℕ) → i < length ps → p ≡ get_or ps i p → now ≡ first ++ filter_map g (flat_map driven_by (take i ps)) → new ≡ now ++ filter_map g (driven_by p) → new ≡ first ++ filter_map g (flat_map driven_by (take (i + 1) ps))
process-turn g ps i p first now new there is before put =
    turn-behind first (filter_map g (flat_map driven_by (take i ps))) (filter_map g (driven_by p)) (filter_map g (driven_by p)) (filter_map g (flat_map driven_by (take (i + 1) ps))) now new put before refl
    (ap (filter_map g) (flat_map-one driven_by ps i p there is) ∙ filter_map-append g (flat_map driven_by (take i ps)) (driven_by p))

-- all statements
pub all-statements : (g : List ℕ → Option ℕ) (before wires behind : List (List ℕ)) (none first second all : List ℕ) → none ≡ [] → first ≡ none ++ filter_map g before → second ≡ first ++ filter_map g wires → all ≡ second ++ filter_map g behind → all ≡ filter_map g (before ++ wires ++ behind)
all-statements g before wires behind none first second all nothing a b c =
    c
    ∙ ap (λ ns. ns ++ filter_map g behind) (b ∙ ap (λ ns. ns ++ filter_map g wires) (a ∙ ap (λ ns. ns ++ filter_map g before) nothing))
    ∙ ap (λ ns. ns ++ filter_map g behind) (sym (filter_map-append g before wires))
    ∙ sym (filter_map-append g (before ++ wires) behind)
