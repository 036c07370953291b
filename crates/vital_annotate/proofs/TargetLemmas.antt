-- Instances of cells, one by one.
use Rattle.std.proofs.Common.{◌≡◌, ℕ, zero, suc, ◌<◌, ◌≤◌, List, [], ◌∷◌, ◌++◌, length, map, get_or, refl, sym, ◌∙◌, ap, append-nil, arith}
use Rattle.std.specs.Prelude.{Option, Some, None, slice_get}
use Rattle.std.specs.Option.{option_and_then, option_map, option_to_list}
use Rattle.std.proofs.lemmas.List.{map-append}
use Rattle.vital_annotate.specs.Indexes.{found}
use Rattle.vital_annotate.specs.Instances.{CellInstance, cell_instance}
use Rattle.vital_annotate.specs.declared.target.Target.{Target}
use Rattle.vital_netlist.specs.Designs.{Design, DesignInstance, labels}
use Rattle.vital_typed_cells.specs.declared.typed_cell.TypedCell.{TypedCell}

pub get-past : {A : Type 0} (xs : List A) (n : ℕ) → length xs ≤ n → slice_get xs n ≡ None
get-past [] n h = refl
get-past (x ∷ xs) zero h = absurd (omega arith)
get-past (x ∷ xs) (suc n) h = get-past xs n (omega arith)

pub get-there : {A : Type 0} (xs : List A) (n : ℕ) (x : A) → n < length xs → x ≡ get_or xs n x → slice_get xs n ≡ Some x
get-there [] n x h is = absurd (omega arith)
get-there (y ∷ xs) zero x h is = ap Some (sym is)
get-there (y ∷ xs) (suc n) x h is = get-there xs n x (omega arith) is

abbrev of-cell : Design → ℕ → DesignInstance → Option TypedCell → Option CellInstance
of-cell d number i o = option_map (λ (cell : TypedCell). record { labels = labels d number; entity = i.unit; cell = cell }) o

got : (d : Design) (number cell : ℕ) (i : DesignInstance) (cells : List TypedCell) (o : Option TypedCell) → cells ≡ d.cells → i.cell ≡ Some cell → slice_get cells cell ≡ o → cell_instance d (number, i) ≡ of-cell d number i o
got d number cell i cells o same is at =
    ap (λ c. of-cell d number i (option_and_then (slice_get d.cells) c)) is
    ∙ ap (λ cs. of-cell d number i (slice_get cs cell)) (sym same)
    ∙ ap (of-cell d number i) at

pub no-cell : (d : Design) (number cell : ℕ) (i : DesignInstance) (cells : List TypedCell) (ts : List CellInstance) → cells ≡ d.cells → i.cell ≡ Some cell → length cells ≤ cell → ts ≡ ts ++ option_to_list (cell_instance d (number, i))
no-cell d number cell i cells ts same is past =
    sym (ap (λ o. ts ++ option_to_list o) (got d number cell i cells None same is (get-past cells cell past)) ∙ append-nil ts)

pub one-cell : (d : Design) (number cell : ℕ) (i : DesignInstance) (cells : List TypedCell) (old new : List Target) (t : Target) → cells ≡ d.cells → i.cell ≡ Some cell → cell < length cells → t.cell.now ≡ get_or cells cell t.cell.now → t.instance ≡ number → t.entity.now ≡ i.unit → new ≡ old ++ t ∷ [] → map (found d) new ≡ map (found d) old ++ option_to_list (cell_instance d (number, i))
one-cell d number cell i cells old new t same is inside at instance entity more =
    ap (map (found d)) more
    ∙ map-append (found d) old (t ∷ [])
    ∙ ap (λ n. map (found d) old ++ record { labels = labels d n; entity = t.entity.now; cell = t.cell.now } ∷ []) instance
    ∙ ap (λ e. map (found d) old ++ record { labels = labels d number; entity = e; cell = t.cell.now } ∷ []) entity
    ∙ ap (λ o. map (found d) old ++ option_to_list o) (sym (got d number cell i cells (Some t.cell.now) same is (get-there cells cell t.cell.now inside at)))
