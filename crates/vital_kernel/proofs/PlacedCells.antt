-- The instances of cells, one after another.
use Rattle.std.proofs.Common.{◌≡◌, ℕ, zero, suc, ◌+◌, ◌<◌, ◌≤◌, List, [], ◌∷◌, ◌++◌, length, drop, map, get_or, Option, Some, None, refl, sym, ap, subst, ◌∙◌, arith}
use Rattle.std.specs.List.{cons_option, filter_map}
use Rattle.std.specs.Option.{option_map}
use Rattle.std.proofs.lemmas.List.{append-nil, append_assoc, drop_all, get_or_default, map-append}
use Rattle.vital_netlist.specs.Designs.{Design}
use Rattle.vital_netlist.specs.Trees.{path_of}
use Rattle.vital_netlist.specs.declared.design_lists.DesignInstance.{DesignInstance}
use Rattle.vital_kernel.specs.DesignNetworks.{cells_from, driver_count}
use Rattle.vital_kernel.specs.Networks.{NetCell}
use Rattle.vital_kernel.specs.Placed.{CountedCell, lent_placed, with_count}
use Rattle.vital_kernel.specs.declared.placed.Placed.{Placed}
use Rattle.vital_timing.specs.declared.delay.Delay.{Delay}
use Rattle.vital_typed_cells.specs.declared.typed_cell.TypedCell.{TypedCell}

-- ---- which there are

pub map-made : {P Q R : Type 0} (f : Q → R) (g : P → Option Q) (xs : List P) → filter_map (λ x. option_map f (g x)) xs ≡ map f (filter_map g xs)
map-made f g [] = refl
map-made {P} {Q} {R} f g (x ∷ xs) = by_made (g x) (map-made f g xs)
  where
    by_made : (o : Option Q) → filter_map (λ y. option_map f (g y)) xs ≡ map f (filter_map g xs) → cons_option (option_map f o) (filter_map (λ y. option_map f (g y)) xs) ≡ map f (cons_option o (filter_map g xs))
    by_made None others = others
    by_made (Some q) others = ap (λ (rs : List R). f q ∷ rs) others

-- put at the end
pub put-is : (found : Option Placed) (old new : List Placed) → new ≡ old ++ cons_option found [] → map lent_placed new ≡ map lent_placed old ++ cons_option (option_map lent_placed found) []
put-is found old new put = ap (λ (all : List Placed). map lent_placed all) put ∙ map-append lent_placed old (cons_option found []) ∙ ap (λ (cs : List CountedCell). map lent_placed old ++ cs) (of-found found)
  where
    of-found : (o : Option Placed) → map lent_placed (cons_option o []) ≡ cons_option (option_map lent_placed o) []
    of-found None = refl
    of-found (Some p) = refl

-- what code reads where there is none
abbrev pub nothing : DesignInstance
nothing = record { site = None; unit = record { ref_ptr = (0, 0); now = [] }; cell = None }

pub as-read : (xs : List DesignInstance) (i : ℕ) → i < length xs → get_or xs i nothing ≡ get_or xs i (get_or xs i nothing)
as-read xs i within = get_or_default xs i nothing (get_or xs i nothing) within

-- ---- with their counts

abbrev pub seen : Placed → ℕ × TypedCell
seen p = (p.number, p.cell.now)

pub seen-are : (raw : List Placed) (cells : List (ℕ × TypedCell)) → map lent_placed raw ≡ map with_count cells → map seen raw ≡ cells
seen-are [] [] are = refl
seen-are [] (c ∷ cells) are = absurd (cc)
seen-are (p ∷ raw) [] are = absurd (cc)
seen-are (p ∷ raw) (c ∷ cells) are =
    let here : lent_placed p ≡ with_count c = cc in
    let others : map lent_placed raw ≡ map with_count cells = cc in
    ap (λ (x : CountedCell). x.0 ∷ map seen raw) here ∙ ap (λ (cs : List (ℕ × TypedCell)). c ∷ cs) (seen-are raw cells others)

pub count-at : (raw : List Placed) (cells : List (ℕ × TypedCell)) (k : ℕ) (x : Placed) → map lent_placed raw ≡ map with_count cells → k < length raw → x ≡ get_or raw k x → x.drivers ≡ driver_count x.cell.now
count-at [] cells k x are within is = absurd (omega arith)
count-at (p ∷ raw) [] k x are within is = absurd (cc)
count-at (p ∷ raw) (c ∷ cells) zero x are within is =
    let here : lent_placed p ≡ with_count c = cc in
    let counted : p.drivers ≡ driver_count p.cell.now = ap (λ (y : CountedCell). y.1) here ∙ ap (λ (y : CountedCell). driver_count y.0.1) (sym here) in
    subst (λ (q : Placed). q.drivers ≡ driver_count q.cell.now) (sym is) counted
count-at (p ∷ raw) (c ∷ cells) (suc k) x are within is =
    let others : map lent_placed raw ≡ map with_count cells = cc in
    count-at raw cells k x others (omega arith) is

-- ---- as instances of a network

pub cells-turn : (d : Design) (placed : List (ℕ × TypedCell)) (values : List (List Delay)) (wiring : List (List ℕ)) (k first next : ℕ) (p : ℕ × TypedCell) (v : List Delay) (w : List ℕ) (cell : NetCell) (now new all : List NetCell)
    → drop k placed ≡ p ∷ drop (k + 1) placed → drop k values ≡ v ∷ drop (k + 1) values → drop k wiring ≡ w ∷ drop (k + 1) wiring
    → cell ≡ record { path = path_of d p.0; tree = p.1; delays = v; wires = w; first_driver = first } → new ≡ now ++ cell ∷ [] → next ≡ first + driver_count p.1
    → now ++ cells_from d first (drop k placed) (drop k values) (drop k wiring) ≡ all
    → new ++ cells_from d next (drop (k + 1) placed) (drop (k + 1) values) (drop (k + 1) wiring) ≡ all
cells-turn d placed values wiring k first next p v w cell now new all one-p one-v one-w made put more before =
    let ps = drop (k + 1) placed in
    let vs = drop (k + 1) values in
    let ws = drop (k + 1) wiring in
    ap (λ (cs : List NetCell). cs ++ cells_from d next ps vs ws) put
    ∙ append_assoc now (cell ∷ []) (cells_from d next ps vs ws)
    ∙ ap (λ (c : NetCell). now ++ c ∷ cells_from d next ps vs ws) made
    ∙ ap (λ (n : ℕ). now ++ record { path = path_of d p.0; tree = p.1; delays = v; wires = w; first_driver = first } ∷ cells_from d n ps vs ws) more
    ∙ ap (λ (qs : List (ℕ × TypedCell)). now ++ cells_from d first qs (v ∷ vs) (w ∷ ws)) (sym one-p)
    ∙ ap (λ (us : List (List Delay)). now ++ cells_from d first (drop k placed) us (w ∷ ws)) (sym one-v)
    ∙ ap (λ (xs : List (List ℕ)). now ++ cells_from d first (drop k placed) (drop k values) xs) (sym one-w)
    ∙ before

pub cells-end : (d : Design) (placed : List (ℕ × TypedCell)) (values : List (List Delay)) (wiring : List (List ℕ)) (k first : ℕ) (now all : List NetCell) → length placed ≤ k
    → now ++ cells_from d first (drop k placed) (drop k values) (drop k wiring) ≡ all → now ≡ all
cells-end d placed values wiring k first now all le before =
    sym (append-nil now) ∙ ap (λ (qs : List (ℕ × TypedCell)). now ++ cells_from d first qs (drop k values) (drop k wiring)) (sym (drop_all k placed le)) ∙ before
