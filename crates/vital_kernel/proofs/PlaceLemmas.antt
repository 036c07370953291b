-- Where the processes of a network are.
use Rattle.std.proofs.Common.{◌≡◌, ℕ, suc, ◌+◌, ◌<◌, List, [], ◌∷◌, ◌++◌, length, map, take, drop, get_or, refl, sym, ◌∙◌, ap, arith, append-nil, length-append, length-drop}
use Rattle.std.specs.Prelude.{slice_get, IfSome, Option, None, Some}
use Rattle.std.specs.Option.{SomeIff}
use Rattle.std.specs.List.{All, enumerate_from, flat_map, range_with_len}
use Rattle.std.proofs.lemmas.Grind.{flat_map-append}
use Rattle.std.proofs.lemmas.List.{length-map, length-take, map-append, take_more}
use Rattle.std.proofs.lemmas.List.Elements.{All-append, All-map, All-nil, All-weaker}
use Rattle.vital_cell.specs.Execution.{Process', Wire, all_executed}
use Rattle.vital_kernel.specs.Networks.{NetCell, Network, lent_cell, processes, processes_of}
use Rattle.vital_kernel.specs.declared.network.NetCell.{NetCell as NetCell'}
use Rattle.vital_kernel.proofs.ListLemmas.{map-map, numbered, numbered-more, numbers-alone}
use Rattle.vital_kernel.specs.Places.{IsThere, place_in, place_of}
use Rattle.vital_typed_cells.specs.declared.typed_cell.TypedCell.{TypedCell}

-- ---- how many there are

parts-long : {A B C : Type 0} (f : A → C) (g : B → C) (n : ℕ) (xs : List A) (ys : List B) → length (map f (take n xs) ++ map g ys ++ map f (drop n xs)) ≡ length xs + length ys
parts-long f g n xs ys =
    omega (
      arith,
      length-append (map f (take n xs) ++ map g ys) (map f (drop n xs)),
      length-append (map f (take n xs)) (map g ys),
      length-map (take n xs) f,
      length-map ys g,
      length-map (drop n xs) f,
      length-take n xs,
      length-drop n xs,
    )

pub executed-long : (c : TypedCell) → length (all_executed c) ≡ length c.processes + length c.wires
executed-long c = parts-long (λ p. Process' p) (λ w. Wire w) c.processes_before_wires c.processes c.wires

pub count-said : (o : Option ℕ) (P : Type 0) (v w : ℕ) → SomeIff o P v → v ≡ w → IfSome o (λ count. count ≡ w)
count-said None P v w h is = tt
count-said (Some x) P v w h is = h.1 ∙ is

-- ---- their places

pub places-of : (instance : ℕ) (c : NetCell) → map place_of (processes_of (instance, c)) ≡ map (place_in instance) (range_with_len 0 (length (all_executed c.tree)))
places-of instance c =
    map-map place_of (λ x. record { instance = instance; cell = c; number = x.0; executed = x.1 }) (enumerate_from 0 (all_executed c.tree))
    ∙ numbers-alone (place_in instance) 0 (all_executed c.tree)

-- Those of one instance more come behind.
pub places-more : (cells : List NetCell') (i : ℕ) (cell : NetCell') → i < length cells → cell ≡ get_or cells i cell → map place_of (flat_map processes_of (enumerate_from 0 (map lent_cell (take (i + 1) cells)))) ≡ map place_of (flat_map processes_of (enumerate_from 0 (map lent_cell (take i cells)))) ++ map place_of (processes_of (i, lent_cell cell))
places-more cells i cell within is =
    let front = map lent_cell (take i cells) in
    let long : 0 + length front ≡ i = omega (arith, length-map (take i cells) lent_cell, length-take i cells) in
    let one : flat_map processes_of ((i, lent_cell cell) ∷ []) ≡ processes_of (i, lent_cell cell) = append-nil (processes_of (i, lent_cell cell)) in
    ap (λ cs. map place_of (flat_map processes_of (enumerate_from 0 (map lent_cell cs)))) (take_more cells i cell within ∙ ap (λ c. take i cells ++ c ∷ []) (sym is))
    ∙ ap (λ cs. map place_of (flat_map processes_of (enumerate_from 0 cs))) (map-append lent_cell (take i cells) (cell ∷ []))
    ∙ ap (λ cs. map place_of (flat_map processes_of cs)) (numbered-more 0 front (lent_cell cell))
    ∙ ap (λ n. map place_of (flat_map processes_of (enumerate_from 0 front ++ (n, lent_cell cell) ∷ []))) long
    ∙ ap (map place_of) (flat_map-append processes_of (enumerate_from 0 front) ((i, lent_cell cell) ∷ []))
    ∙ map-append place_of (flat_map processes_of (enumerate_from 0 front)) (flat_map processes_of ((i, lent_cell cell) ∷ []))
    ∙ ap (λ ps. map place_of (flat_map processes_of (enumerate_from 0 front)) ++ map place_of ps) one

-- ---- each is there

there-from : (all : List NetCell) (n : ℕ) (cells : List NetCell) → ((i : ℕ) (c : NetCell) → slice_get cells i ≡ Some c → slice_get all (n + i) ≡ Some c) → All (IsThere all) (flat_map processes_of (enumerate_from n cells))
there-from all n [] there = All-nil (IsThere all)
there-from all n (c ∷ cells) there =
    let same : n + 0 ≡ n = omega arith in
    let cell : slice_get all n ≡ Some c = ap (λ i. slice_get all i) (sym same) ∙ there 0 c refl in
    let shift : (i : ℕ) → (n + 1) + i ≡ n + suc i = λ i. omega arith in
    All-append (IsThere all) (processes_of (n, c)) (flat_map processes_of (enumerate_from (n + 1) cells))
    (All-map (IsThere all) (λ x. record { instance = n; cell = c; number = x.0; executed = x.1 }) (enumerate_from 0 (all_executed c.tree))
    (All-weaker (λ x. slice_get (all_executed c.tree) x.0 ≡ Some x.1) (λ x. IsThere all (record { instance = n; cell = c; number = x.0; executed = x.1 })) (λ x at. record { cell = cell; executed = at }) (enumerate_from 0 (all_executed c.tree)) (numbered (all_executed c.tree))))
    (there-from all (n + 1) cells (λ i d at. ap (λ j. slice_get all j) (shift i) ∙ there (suc i) d at))

pub all-there : (n : Network) → All (IsThere n.cells) (processes n)
all-there n = there-from n.cells 0 n.cells (λ i c at. let same : 0 + i ≡ i = omega arith in ap (λ j. slice_get n.cells j) same ∙ at)
