-- What calls of tables ask of the constants that they name, where no symbol is wrong.
use Rattle.std.proofs.Common.{◌≡◌, ℕ, Bool, true, false, List, [], ◌∷◌, ◌++◌, Option, Some, None, refl, sym, ap, ◌∙◌, arith}
use Rattle.std.specs.Prelude.{◌||◌, ◌==◌, cond, IfSome}
use Rattle.std.specs.List.{AllByRecursion, cons_option, filter_map, flat_map, list_any}
use Rattle.std.proofs.lemmas.Bool.Decides.{nat_tests}
use Rattle.vital_base.specs.declared.place.Place.{Place}
use Rattle.vital_level1.specs.Forms.{table_uses, uses_of_concurrent, uses_of_declaration, uses_of_iface, uses_of_interface, uses_of_process, uses_of_region}
use Rattle.vital_level1.specs.Uses.{is_among, is_wrong_at, wrong_by, wrong_number, wrong_numbers, wrong_use}
use Rattle.vital_declaration_clauses.specs.Regions.{Region, regions}
use Rattle.vital_names.specs.Sites.{Cell}
use Rattle.vital_package_constants.specs.Tables.{is_wrong_package}
use Rattle.vital_table_uses.specs.declared.table_use.TableUse.{TableUse}
use Rattle.vital_table_uses.specs.declared.table_use.UsedTable.{UsedTable}
use Rattle.vital_table_uses.specs.declared.table_use.UsedTable.TheVariants as used
use Rattle.vital_uses.specs.Nodes.{sited_declarations, sited_interface}
use Rattle.vital_uses.specs.Statements.{processes, statements}
use Rattle.vital_typed_cells.proofs.Found.{weaker}
use Rattle.vital_typed_cells.proofs.Lists.{all-both, none-kept, of-flat}
use Rattle.vital_typed_cells.proofs.Regions.{back-all, front-all}

-- ---- one use

-- A constant of the cell has no wrong symbol; and one of a package has none where its number is not among those of which one is wrong.
abbrev pub FitsBy : Cell → List TableUse → TableUse → UsedTable → Type 0
FitsBy cell us u (used.Cell place) = is_wrong_at cell u place ≡ false
FitsBy cell us u (used.Package n) = is_among (wrong_numbers cell.files us) n ≡ false → is_wrong_package cell.files u n ≡ false

abbrev pub UseFits : Cell → List TableUse → TableUse → Type 0
UseFits cell us u = FitsBy cell us u u.table

not-held : (b : Bool) (place : Place) → cond b (Some place) None ≡ None → b ≡ false
not-held true place is = absurd (cc)
not-held false place is = refl

not-wrong : (b : Bool) (n : ℕ) (ns : List ℕ) → IfSome (cond b (Some n) None) (λ m. is_among ns m ≡ true) → is_among ns n ≡ false → b ≡ false
not-wrong true n ns among is = let wrong : true ≡ false = sym among ∙ is in absurd (cc)
not-wrong false n ns among is = refl

fits-by : (cell : Cell) (us : List TableUse) (u : TableUse) (t : UsedTable) → wrong_by cell u t ≡ None → IfSome (wrong_number cell.files u t) (λ m. is_among (wrong_numbers cell.files us) m ≡ true) → FitsBy cell us u t
fits-by cell us u (used.Cell place) none among = not-held (is_wrong_at cell u place) place none
fits-by cell us u (used.Package n) none among = not-wrong (is_wrong_package cell.files u n) n (wrong_numbers cell.files us) among

-- ---- numbers that are kept

same-number : (n : ℕ) → (n == n) ≡ true
same-number n = grind (arith, nat_tests)

here-among : (o : Option ℕ) (ns : List ℕ) → IfSome o (λ n. is_among (cons_option o ns) n ≡ true)
here-among None ns = tt
here-among (Some n) ns = ap (λ b. b || list_any (λ m. m == n) ns) (same-number n)

or-right : (a b : Bool) → b ≡ true → (a || b) ≡ true
or-right true b is = refl
or-right false b is = is

still-among : (o q : Option ℕ) (ns : List ℕ) → IfSome q (λ n. is_among ns n ≡ true) → IfSome q (λ n. is_among (cons_option o ns) n ≡ true)
still-among o None ns among = tt
still-among None (Some n) ns among = among
still-among (Some m) (Some n) ns among = or-right (m == n) (list_any (λ k. k == n) ns) among

among-kept : {A : Type 0} (f : A → Option ℕ) (xs : List A) → AllByRecursion (λ x. IfSome (f x) (λ n. is_among (filter_map f xs) n ≡ true)) xs
among-kept f [] = tt
among-kept f (x ∷ xs) = (
  here-among (f x) (filter_map f xs),
  weaker (λ y. IfSome (f y) (λ n. is_among (filter_map f xs) n ≡ true)) (λ y. IfSome (f y) (λ n. is_among (filter_map f (x ∷ xs)) n ≡ true)) (λ y among. still-among (f x) (f y) (filter_map f xs) among) xs (among-kept f xs),
)

-- ---- all uses

pub uses-fit : (cell : Cell) (us : List TableUse) → filter_map (wrong_use cell) us ≡ [] → AllByRecursion (UseFits cell us) us
uses-fit cell us none =
    weaker (λ u. (wrong_use cell u ≡ None) × IfSome (wrong_number cell.files u u.table) (λ m. is_among (wrong_numbers cell.files us) m ≡ true)) (UseFits cell us)
    (λ u both. fits-by cell us u u.table both.0 both.1) us
    (all-both (λ u. wrong_use cell u ≡ None) (λ u. IfSome (wrong_number cell.files u u.table) (λ m. is_among (wrong_numbers cell.files us) m ≡ true)) us
    (none-kept (wrong_use cell) us none) (among-kept (λ u. wrong_number cell.files u u.table) us))

-- Those of a cell.
abbrev pub Fits : Cell → TableUse → Type 0
Fits cell u = UseFits cell (table_uses cell []) u

abbrev pub AllFit : Cell → List TableUse → Type 0
AllFit cell us = AllByRecursion (Fits cell) us

abbrev interface_part : Cell → List TableUse
interface_part cell = uses_of_interface cell []

abbrev region_part : Cell → List TableUse
region_part cell = flat_map (uses_of_region cell []) (regions cell.arch)

abbrev concurrent_part : Cell → List TableUse
concurrent_part cell = flat_map (uses_of_concurrent cell []) (statements cell.arch)

abbrev process_part : Cell → List TableUse
process_part cell = flat_map (uses_of_process cell []) (processes cell.arch)

pub processes-fit : (cell : Cell) → AllFit cell (table_uses cell []) → AllByRecursion (λ p. AllFit cell (uses_of_process cell [] p)) (processes cell.arch)
processes-fit cell fit = of-flat (Fits cell) (uses_of_process cell []) (processes cell.arch) (back-all (Fits cell) (interface_part cell ++ region_part cell ++ concurrent_part cell) (process_part cell) fit)

abbrev pub RegionFits : Cell → Region → Type 0
RegionFits cell r = AllByRecursion (λ d. AllFit cell (uses_of_declaration cell [] d)) (sited_declarations r.process r.declarations)

pub regions-fit : (cell : Cell) → AllFit cell (table_uses cell []) → AllByRecursion (RegionFits cell) (regions cell.arch)
regions-fit cell fit =
    weaker (λ r. AllFit cell (uses_of_region cell [] r)) (RegionFits cell) (λ r all. of-flat (Fits cell) (uses_of_declaration cell []) (sited_declarations r.process r.declarations) all) (regions cell.arch)
    (of-flat (Fits cell) (uses_of_region cell []) (regions cell.arch)
    (back-all (Fits cell) (interface_part cell) (region_part cell)
    (front-all (Fits cell) (interface_part cell ++ region_part cell) (concurrent_part cell)
    (front-all (Fits cell) (interface_part cell ++ region_part cell ++ concurrent_part cell) (process_part cell) fit))))

pub ports-fit : (cell : Cell) → AllFit cell (table_uses cell []) → AllByRecursion (λ i. AllFit cell (uses_of_iface cell [] i)) (sited_interface cell.entity.ports)
ports-fit cell fit =
    of-flat (Fits cell) (uses_of_iface cell []) (sited_interface cell.entity.ports)
    (back-all (Fits cell) (flat_map (uses_of_iface cell []) (sited_interface cell.entity.generics)) (flat_map (uses_of_iface cell []) (sited_interface cell.entity.ports))
    (front-all (Fits cell) (interface_part cell) (region_part cell)
    (front-all (Fits cell) (interface_part cell ++ region_part cell) (concurrent_part cell)
    (front-all (Fits cell) (interface_part cell ++ region_part cell ++ concurrent_part cell) (process_part cell) fit))))
