-- No two wire delays drive one signal or have one port.
use Rattle.std.proofs.Common.{◌≡◌, Bool, true, false, List, [], ◌∷◌, ◌++◌, map, Option, Some, None, refl, sym, ap, ◌∙◌, subst, append-nil}
use Rattle.std.proofs.lemmas.Grind.{flat_map-append}
use Rattle.std.proofs.lemmas.List.Elements.{filter_map-append}
use Rattle.std.proofs.lemmas.List.Folds.{list_any-append}
use Rattle.std.specs.Prelude.{◌||◌, ◌&&◌, not, is_some, codes}
use Rattle.std.specs.List.{AllByRecursion, IsDistinct, cons_option, filter_map, flat_map, list_any}
use Rattle.std.specs.Option.{option_and_then, option_map_or}
use Rattle.std.specs.Str.{bytes_eq}
use Rattle.vital_base.specs.declared.place.Place.{Place}
use Rattle.vital_drivers.specs.Clauses.{breaks_6, places_6, places_6_at, places_6_in}
use Rattle.vital_drivers.specs.Wires.{Wire, shares, wire_of, wire_of_call}
use Rattle.vital_names.specs.Sites.{Cell}
use Rattle.vital_nodes.specs.declared.stmt.Block.{Block}
use Rattle.vital_nodes.specs.declared.stmt.Conc.{Conc}
use Rattle.vital_nodes.specs.declared.stmt.Conc.TheOpen.{Conc-F}
use Rattle.vital_nodes.specs.declared.stmt.Conc.TheViews.{out-Conc}
use Rattle.vital_nodes.specs.declared.unit.Arch.{Arch}
use Rattle.vital_nodes.specs.Layers.{ConcLayer}
use Rattle.vital_nodes.specs.Nodes.{Concurrent, concurrents}
use Rattle.vital_nodes.specs.Places.{identifier_of_decl, place_of_conc}
use Rattle.vital_nodes.specs.Walk.{nodes_of, nodes_of_all}
use Rattle.vital_typed_cells.proofs.Apart.{AreApart, Each, IsApart, distinct, each-none, each-weaker, first-false, is-distinct, names-differ, never, none-before, none-behind, none-placed, second-false}
use Rattle.vital_statements.specs.Clauses.{breaks_5, places_5_at}
use Rattle.vital_statements.specs.Lists.{each}
use Rattle.vital_statements.specs.Statements.{block_in, is_block, process_in}
use Rattle.vital_uses.specs.Statements.{statements}
use Rattle.vital_calls.specs.Calls.{call_of}
use Rattle.vital_nodes.specs.Calls.{call_in}
use Rattle.vital_nodes.specs.Statements.{all_concurrent, concurrent, in_conc_layer, in_concurrent}
use Rattle.vital_nodes.proofs.Inner.{concurrent-put}
use Rattle.vital_nodes.proofs.Values.{WalkLaw}

-- ---- statements with those in them

pub first-with-others : WalkLaw → (c : Conc) (cs : List Conc) → all_concurrent (c ∷ cs) ≡ c ∷ in_concurrent c ++ all_concurrent cs
first-with-others law c cs =
    ap (filter_map concurrent) (flat_map-append nodes_of (Concurrent c ∷ []) (concurrents cs))
    ∙ filter_map-append concurrent (nodes_of_all (Concurrent c ∷ [])) (nodes_of_all (concurrents cs))
    ∙ ap (λ found. found ++ all_concurrent cs) (sym (concurrent-put law [] (c ∷ []) (c ∷ in_concurrent c) c refl refl))

abbrev AreFlat : List Conc → Type 0
AreFlat cs = AllByRecursion (λ c. in_concurrent c ≡ []) cs

flat : WalkLaw → (cs : List Conc) → AreFlat cs → all_concurrent cs ≡ cs
flat law [] all = refl
flat law (c ∷ cs) all =
    first-with-others law c cs
    ∙ ap (λ inner. c ∷ inner ++ all_concurrent cs) all.0
    ∙ ap (λ others. c ∷ others) (flat law cs all.1)

-- ---- one block

abbrev wire_in : Cell → ConcLayer → Option Wire
wire_in cell l = option_and_then (wire_of_call cell) (option_and_then call_of (call_in l))

abbrev breaks_by : Cell → List Conc → Option Wire → Bool
breaks_by cell before o = option_map_or (λ w. list_any (λ v. shares v w) (filter_map (wire_of cell) before)) o true

apart-at : (cell : Cell) (before : List Conc) (c : Conc) → places_6_at cell before c ≡ [] → IsApart (wire_of cell) shares before c
apart-at cell before c is w wire = sym (ap (breaks_by cell before) wire) ∙ none-placed (breaks_6 cell before c) (place_of_conc c) is

flat-layer : (cell : Cell) (before : List Conc) (l : ConcLayer) → breaks_by cell before (wire_in cell l) ≡ false → in_conc_layer l ≡ []
flat-layer cell before (Conc-F.Process place label p) good = refl
flat-layer cell before (Conc-F.ComponentInstance place i) good = refl
flat-layer cell before (Conc-F.Instance place i) good = refl
flat-layer cell before (Conc-F.Block place label b) good = cc
flat-layer cell before (Conc-F.Call place name) good = refl
flat-layer cell before (Conc-F.SignalAssignment place a) good = refl

all-flat : (cell : Cell) (before cs : List Conc) → Each (λ bs c. places_6_at cell bs c ≡ []) before cs → AreFlat cs
all-flat cell before [] judged = tt
all-flat cell before (c ∷ cs) judged =
    (flat-layer cell before (out-Conc c) (none-placed (breaks_6 cell before c) (place_of_conc c) judged.0), all-flat cell (before ++ c ∷ []) cs judged.1)

abbrev wires_in : Cell → List Conc → List Wire
wires_in cell cs = filter_map (wire_of cell) (all_concurrent cs)

block-apart : WalkLaw → (cell : Cell) (b : Block) → places_6 cell b ≡ [] → AreApart shares (wires_in cell b.statements)
block-apart law cell b is =
    let judged : Each (λ bs c. places_6_at cell bs c ≡ []) [] b.statements =
    each-none (places_6_at cell) [] b.statements (none-behind (map (λ d. (identifier_of_decl d).place) b.declarations) (each (places_6_at cell) b.statements) is) in
    subst (λ cs. AreApart shares (filter_map (wire_of cell) cs)) (sym (flat law b.statements (all-flat cell [] b.statements judged)))
    (is-distinct (wire_of cell) shares b.statements
    (each-weaker (λ bs c. places_6_at cell bs c ≡ []) (IsApart (wire_of cell) shares) (apart-at cell) [] b.statements judged))

-- ---- the statements of an architecture

abbrev breaks_layer : List Conc → ConcLayer → Bool
breaks_layer before l =
    not (is_some (process_in l) || (option_map_or (λ b. bytes_eq b.0.name (codes "wiredelay")) (block_in l) false && not (list_any is_block before)))

-- Behind a block stands no other one.
no-block : (is_label seen : Bool) → not (is_label && not seen) ≡ false → seen ≡ true → true ≡ false
no-block true true good is = good
no-block true false good is = sym is
no-block false seen good is = good

process-alone : (before : List Conc) (l : ConcLayer) → list_any is_block before ≡ true → breaks_layer before l ≡ false → (in_conc_layer l ≡ []) × (call_in l ≡ None)
process-alone before (Conc-F.Process place label p) seen good = (refl, refl)
process-alone before (Conc-F.ComponentInstance place i) seen good = cc
process-alone before (Conc-F.Instance place i) seen good = cc
process-alone before (Conc-F.Block place label b) seen good =
    never (no-block (bytes_eq label.name (codes "wiredelay")) (list_any is_block before) good seen)
process-alone before (Conc-F.Call place name) seen good = cc
process-alone before (Conc-F.SignalAssignment place a) seen good = cc

-- What a statement that is no call gives with those in it.
without-call : WalkLaw → (cell : Cell) (c : Conc) (cs inner : List Conc) → in_concurrent c ≡ inner → call_in (out-Conc c) ≡ None
    → wires_in cell (c ∷ cs) ≡ filter_map (wire_of cell) inner ++ wires_in cell cs
without-call law cell c cs inner is none =
    ap (filter_map (wire_of cell)) (first-with-others law c cs)
    ∙ ap (λ o. cons_option (option_and_then (wire_of_call cell) (option_and_then call_of o)) (filter_map (wire_of cell) (in_concurrent c ++ all_concurrent cs))) none
    ∙ filter_map-append (wire_of cell) (in_concurrent c) (all_concurrent cs)
    ∙ ap (λ found. filter_map (wire_of cell) found ++ wires_in cell cs) is

seen-still : (before : List Conc) (c : Conc) → list_any is_block before ≡ true → list_any is_block (before ++ c ∷ []) ≡ true
seen-still before c seen = list_any-append is_block before (c ∷ []) ∙ ap (λ b. b || list_any is_block (c ∷ [])) seen

no-wires : WalkLaw → (cell : Cell) (before cs : List Conc) → list_any is_block before ≡ true → Each (λ bs c. places_5_at bs c ≡ []) before cs → wires_in cell cs ≡ []
no-wires law cell before [] seen judged = refl
no-wires law cell before (c ∷ cs) seen judged =
    let alone = process-alone before (out-Conc c) seen (none-placed (breaks_5 before c) (place_of_conc c) judged.0) in
    without-call law cell c cs [] alone.0 alone.1 ∙ no-wires law cell (before ++ c ∷ []) cs (seen-still before c seen) judged.1

or-true : (b : Bool) → (b || true) ≡ true
or-true true = refl
or-true false = refl

abbrev places_in_layer : Cell → ConcLayer → List Place
places_in_layer cell l = option_map_or (λ b. places_6 cell b.1) (block_in l) []

wires-step : WalkLaw → (cell : Cell) (before : List Conc) (c : Conc) (cs : List Conc) (l : ConcLayer) → out-Conc c ≡ l → breaks_layer before l ≡ false
    → places_in_layer cell l ≡ [] → Each (λ bs d. places_5_at bs d ≡ []) (before ++ c ∷ []) cs → AreApart shares (wires_in cell cs)
    → AreApart shares (wires_in cell (c ∷ cs))
wires-step law cell before c cs (Conc-F.Process place label p) is good none later others =
    subst (AreApart shares) (sym (without-call law cell c cs [] (ap in_conc_layer is) (ap call_in is))) others
wires-step law cell before c cs (Conc-F.ComponentInstance place i) is good none later others = cc
wires-step law cell before c cs (Conc-F.Instance place i) is good none later others = cc
wires-step law cell before c cs (Conc-F.Block place label b) is good none later others =
    let seen : list_any is_block (before ++ c ∷ []) ≡ true =
    list_any-append is_block before (c ∷ []) ∙ ap (λ m. list_any is_block before || (is_some (block_in m) || false)) is ∙ or-true (list_any is_block before) in
    let found : wires_in cell (c ∷ cs) ≡ wires_in cell b.statements =
    without-call law cell c cs (all_concurrent b.statements) (ap in_conc_layer is) (ap call_in is)
    ∙ ap (λ ws. wires_in cell b.statements ++ ws) (no-wires law cell (before ++ c ∷ []) cs seen later)
    ∙ append-nil (wires_in cell b.statements) in
    subst (AreApart shares) (sym found) (block-apart law cell b none)
wires-step law cell before c cs (Conc-F.Call place name) is good none later others = cc
wires-step law cell before c cs (Conc-F.SignalAssignment place a) is good none later others = cc

all-wires : WalkLaw → (cell : Cell) (before cs : List Conc) → Each (λ bs c. places_5_at bs c ≡ []) before cs → flat_map (places_6_in cell) cs ≡ []
    → AreApart shares (wires_in cell cs)
all-wires law cell before [] judged none = tt
all-wires law cell before (c ∷ cs) judged none =
    wires-step law cell before c cs (out-Conc c) refl (none-placed (breaks_5 before c) (place_of_conc c) judged.0)
    (none-before (places_6_in cell c) (flat_map (places_6_in cell) cs) none) judged.1
    (all-wires law cell (before ++ c ∷ []) cs judged.1 (none-behind (places_6_in cell c) (flat_map (places_6_in cell) cs) none))

abbrev own : Option Arch → List Conc
own arch = option_map_or (λ a. a.statements) arch []

pub wires-apart : WalkLaw → (cell : Cell) (arch : Option Arch) → each places_5_at (own arch) ≡ [] → flat_map (places_6_in cell) (own arch) ≡ []
    → AreApart shares (filter_map (wire_of cell) (statements arch))
wires-apart law cell None fifth sixth = tt
wires-apart law cell (Some a) fifth sixth = all-wires law cell [] a.statements (each-none places_5_at [] a.statements fifth) sixth

-- ---- names

pub signals-differ : (ws : List Wire) → AreApart shares ws → IsDistinct bytes_eq (map (λ w. w.0.name) ws)
signals-differ ws apart =
    distinct (map (λ w. w.0.name) ws)
    (names-differ shares bytes_eq (λ w. w.0.name) (λ v w differ. first-false (bytes_eq v.0.name w.0.name) (bytes_eq v.1.name w.1.name) differ) ws apart)

pub ports-differ : (ws : List Wire) → AreApart shares ws → IsDistinct bytes_eq (map (λ w. w.1.name) ws)
ports-differ ws apart =
    distinct (map (λ w. w.1.name) ws)
    (names-differ shares bytes_eq (λ w. w.1.name) (λ v w differ. second-false (bytes_eq v.0.name w.0.name) (bytes_eq v.1.name w.1.name) differ) ws apart)
