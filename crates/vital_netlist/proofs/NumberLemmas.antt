-- Which instances are of cells: those whose entities have the number of a cell.
use Rattle.std.proofs.Common.{◌≡◌, ℕ, true, false, List, [], ◌∷◌, map, refl, ◌∙◌, ap, arith}
use Rattle.std.proofs.lemmas.Bool.Decides.{nat_tests}
use Rattle.std.specs.Prelude.{Bool, cond, ◌||◌, filter, is_some, nat_eq, position, slice_get, Option, Some, None}
use Rattle.std.specs.Option.{option_and_then, option_map_or}
use Rattle.vital_nodes.specs.declared.unit.Role.{Role}
use Rattle.vital_nodes.specs.declared.unit.Role.TheVariants as role
use Rattle.vital_nodes.specs.declared.unit.Units.{Units}
use Rattle.vital_instances.specs.declared.instance.Instance.{Instance}
use Rattle.vital_instances.specs.Units.{Unit, unit_at}
use Rattle.vital_typed_cells.specs.declared.typed_cell.TypedCell.{TypedCell}
use Rattle.vital_netlist.specs.Cells.{cell_as, cell_entities, cell_number, cell_of_entity, cells, firsts, is_cell, is_lib, number_of_entity, tree_of}
use Rattle.vital_netlist.proofs.EntityLemmas.{differs, is_in}
use Rattle.vital_netlist.proofs.FoundLemmas.{found-cell}
use Rattle.vital_netlist.proofs.CellNumberLemmas.{position-some}

pub same-number : (m n : ℕ) → nat_eq m n ≡ true → m ≡ n
same-number m n is = grind (arith, nat_tests)

-- Instances of an entity are of a cell.
abbrev is_cell_at : List Units → ℕ → Bool
is_cell_at files n = option_map_or (λ (u : Unit). is_lib u.role) (unit_at files n) false

-- ---- an entity of a netlist unit has no number

abbrev entities_of_cells : List Units → List Instance → List ℕ
entities_of_cells files is = map (λ (i : Instance). i.entity) (filter (is_cell files) is)

not-among : (files : List Units) (is : List Instance) (n : ℕ) → is_cell_at files n ≡ false → is_in n (entities_of_cells files is) ≡ false
not-among files [] n net = refl
not-among files (i ∷ is) n net = by_tests (is_cell files i) (nat_eq n i.entity) refl refl (not-among files is n net)
  where
    by_tests : (b c : Bool) → is_cell files i ≡ b → nat_eq n i.entity ≡ c → is_in n (entities_of_cells files is) ≡ false → is_in n (map (λ (j : Instance). j.entity) (cond b (i ∷ filter (is_cell files) is) (filter (is_cell files) is))) ≡ false
    by_tests false c one same others = others
    by_tests true false one same others = ap (λ d. d || is_in n (entities_of_cells files is)) same ∙ others
    by_tests true true one same others =
        let at : is_cell_at files n ≡ is_cell_at files i.entity = ap (is_cell_at files) (same-number n i.entity same) in
        let also : is_cell_at files i.entity ≡ true = one in
        absurd (cc)

not-filtered : (n : ℕ) (test : ℕ → Bool) (ns : List ℕ) → is_in n ns ≡ false → is_in n (filter test ns) ≡ false
not-filtered n test [] none = refl
not-filtered n test (m ∷ ns) none = by_tests (test m) (nat_eq n m) refl none (λ behind. not-filtered n test ns behind)
  where
    by_tests : (b c : Bool) → nat_eq n m ≡ c → (c || is_in n ns) ≡ false → (is_in n ns ≡ false → is_in n (filter test ns) ≡ false) → is_in n (cond b (m ∷ filter test ns) (filter test ns)) ≡ false
    by_tests b true same behind others = absurd (cc)
    by_tests true false same behind others = ap (λ d. d || is_in n (filter test ns)) same ∙ others behind
    by_tests false false same behind others = others behind

not-first : (n : ℕ) (ns : List ℕ) → is_in n ns ≡ false → is_in n (firsts ns) ≡ false
not-first n [] none = refl
not-first n (m ∷ ns) none = by_test (nat_eq n m) none (λ behind. not-first n ns behind)
  where
    by_test : (c : Bool) → (c || is_in n ns) ≡ false → (is_in n ns ≡ false → is_in n (firsts ns) ≡ false) → (c || is_in n (filter (differs m) (firsts ns))) ≡ false
    by_test true behind others = absurd (cc)
    by_test false behind others = not-filtered n (differs m) (firsts ns) (others behind)

none-there : (o : Option ℕ) → is_some o ≡ false → o ≡ None
none-there None is = refl
none-there (Some n) is = absurd (cc)

net-unnumbered : (files : List Units) (is : List Instance) (n : ℕ) → is_cell_at files n ≡ false → number_of_entity files is n ≡ None
unfolding cell_entities
net-unnumbered files is n net =
    let ns = entities_of_cells files is in
    none-there (position (nat_eq n) (firsts ns)) (position-some (nat_eq n) (firsts ns) ∙ not-first n ns (not-among files is n net))

-- ---- and one of a cell has one, where there is an instance

unit-of-cell : (o : Option Unit) → option_map_or (λ (u : Unit). is_lib u.role) o false ≡ true → (u : Unit) × (o ≡ Some u) × (u.role ≡ role.Lib)
unit-of-cell None is = absurd (cc)
unit-of-cell (Some u) is = (u, refl, by_role u.role is)
  where
    by_role : (r : Role) → is_lib r ≡ true → r ≡ role.Lib
    by_role role.Lib lib = refl
    by_role role.Net lib = absurd (cc)

-- the unit of an instance of a cell
pub cell-unit : (files : List Units) (i : Instance) → is_cell files i ≡ true → (u : Unit) × (unit_at files i.entity ≡ Some u) × (u.role ≡ role.Lib)
cell-unit files i one = unit-of-cell (unit_at files i.entity) one

number-there : (xs : List TypedCell) (o : Option ℕ) (c : TypedCell) → option_and_then (slice_get xs) o ≡ Some c → is_some o ≡ true
number-there xs None c is = absurd (cc)
number-there xs (Some n) c is = refl

cell-numbered : (files : List Units) (is : List Instance) (k : ℕ) (i : Instance) → slice_get is k ≡ Some i → is_cell files i ≡ true → is_some (number_of_entity files is i.entity) ≡ true
cell-numbered files is k i at one =
    let unit = cell-unit files i one in
    let found : cell_of_entity files is i.entity ≡ Some (tree_of files unit.0) = found-cell files is k i.entity i unit.0 at refl unit.1 ∙ ap (cell_as files unit.0) unit.2 in
    number-there (cells files is) (number_of_entity files is i.entity) (tree_of files unit.0) found

-- ---- both

-- an instance is of a cell where its entity has a number
pub is_cell-numbered : (files : List Units) (is : List Instance) (k : ℕ) (i : Instance) → slice_get is k ≡ Some i → is_some (number_of_entity files is i.entity) ≡ is_cell files i
is_cell-numbered files is k i at = by_test (is_cell files i) refl
  where
    by_test : (b : Bool) → is_cell files i ≡ b → is_some (number_of_entity files is i.entity) ≡ b
    by_test true one = cell-numbered files is k i at one
    by_test false net = ap is_some (net-unnumbered files is i.entity net)

-- so its number is that of its cell
pub number-of-cell : (files : List Units) (is : List Instance) (i : Instance) → number_of_entity files is i.entity ≡ cell_number files is i
number-of-cell files is i = by_test (is_cell files i) refl
  where
    by_test : (b : Bool) → is_cell files i ≡ b → number_of_entity files is i.entity ≡ cond b (number_of_entity files is i.entity) None
    by_test true one = refl
    by_test false net = net-unnumbered files is i.entity net
