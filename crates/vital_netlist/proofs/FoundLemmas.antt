-- What the unit of an entity that has an instance is as a cell.
use Rattle.std.proofs.Common.{◌≡◌, ℕ, zero, suc, ◌<◌, true, false, List, [], ◌∷◌, length, get_or, map, refl, sym, ◌∙◌, ap, arith}
use Rattle.std.proofs.lemmas.Bool.Decides.{nat_tests}
use Rattle.std.proofs.lemmas.List.Quantifiers.{position-Some}
use Rattle.std.specs.Prelude.{Bool, cond, ◌||◌, filter, is_some, nat_eq, position, slice_get, Option, Some, None}
use Rattle.std.specs.List.{AllByRecursion, cons_option}
use Rattle.std.specs.Option.{option_and_then, option_map, option_map_or}
use Rattle.vital_nodes.specs.declared.unit.Role.{Role}
use Rattle.vital_nodes.specs.declared.unit.Role.TheVariants as role
use Rattle.vital_nodes.specs.declared.unit.Units.{Units}
use Rattle.vital_instances.specs.declared.instance.Instance.{Instance}
use Rattle.vital_instances.specs.Units.{Unit, unit_at}
use Rattle.vital_netlist.specs.Cells.{cell_as, cell_entities, cell_of_entity, cells, firsts, is_cell, is_lib, tree_of}
use Rattle.vital_netlist.proofs.CellLemmas.{cell-is, net-is, trees}
use Rattle.vital_netlist.proofs.EntityLemmas.{differs, in-filter, is_in}
use Rattle.vital_netlist.proofs.CellNumberLemmas.{position-some}

same-number : (m n : ℕ) → nat_eq m n ≡ true → m ≡ n
same-number m n is = grind (arith, nat_tests)

itself : (n : ℕ) → nat_eq n n ≡ true
itself n = grind (arith, nat_tests)

-- ---- the entities of cells

-- The entities of the instances that are of cells.
abbrev entities_of_cells : List Units → List Instance → List ℕ
entities_of_cells files is = map (λ i. i.entity) (filter (is_cell files) is)

abbrev HasUnit : List Units → ℕ → Type 0
HasUnit files n = is_some (unit_at files n) ≡ true

has-unit : (o : Option Unit) → option_map_or (λ (u : Unit). is_lib u.role) o false ≡ true → is_some o ≡ true
has-unit None is = absurd (cc)
has-unit (Some u) is = refl

all-units : (files : List Units) (is : List Instance) → AllByRecursion (HasUnit files) (entities_of_cells files is)
all-units files [] = tt
all-units files (i ∷ is) = by_test (is_cell files i) refl (all-units files is)
  where
    by_test : (b : Bool) → is_cell files i ≡ b → AllByRecursion (HasUnit files) (entities_of_cells files is) → AllByRecursion (HasUnit files) (map (λ (j : Instance). j.entity) (cond b (i ∷ filter (is_cell files) is) (filter (is_cell files) is)))
    by_test true one others = (has-unit (unit_at files i.entity) one, others)
    by_test false one others = others

all-filter : (P : ℕ → Type 0) (test : ℕ → Bool) (ns : List ℕ) → AllByRecursion P ns → AllByRecursion P (filter test ns)
all-filter P test [] all = tt
all-filter P test (n ∷ ns) all = by_test (test n) (all-filter P test ns all.1)
  where
    by_test : (b : Bool) → AllByRecursion P (filter test ns) → AllByRecursion P (cond b (n ∷ filter test ns) (filter test ns))
    by_test true others = (all.0, others)
    by_test false others = others

all-firsts : (P : ℕ → Type 0) (ns : List ℕ) → AllByRecursion P ns → AllByRecursion P (firsts ns)
all-firsts P [] all = tt
all-firsts P (n ∷ ns) all = (all.0, all-filter P (differs n) (firsts ns) (all-firsts P ns all.1))

in-firsts : (n : ℕ) (ns : List ℕ) → is_in n (firsts ns) ≡ is_in n ns
in-firsts n [] = refl
in-firsts n (m ∷ ns) = by_test (nat_eq n m) refl (in-firsts n ns)
  where
    by_test : (b : Bool) → nat_eq n m ≡ b → is_in n (firsts ns) ≡ is_in n ns → (b || is_in n (filter (differs m) (firsts ns))) ≡ (b || is_in n ns)
    by_test true is before = refl
    by_test false is before = in-filter n m (firsts ns) is ∙ before

-- ---- an entity that has an instance

in-cells : (files : List Units) (is : List Instance) (k : ℕ) (i : Instance) → slice_get is k ≡ Some i → is_cell files i ≡ true → is_in i.entity (entities_of_cells files is) ≡ true
in-cells files [] k i at one = absurd (cc)
in-cells files (j ∷ is) zero i at one =
    let same : j ≡ i = cc in
    ap (λ b. is_in i.entity (map (λ (m : Instance). m.entity) (cond b (j ∷ filter (is_cell files) is) (filter (is_cell files) is)))) (ap (is_cell files) same ∙ one)
    ∙ ap (λ (m : Instance). nat_eq i.entity m.entity || is_in i.entity (entities_of_cells files is)) same
    ∙ ap (λ b. b || is_in i.entity (entities_of_cells files is)) (itself i.entity)
in-cells files (j ∷ is) (suc k) i at one = by_test (is_cell files j) (in-cells files is k i at one)
  where
    or-true : (b : Bool) → (b || true) ≡ true
    or-true true = refl
    or-true false = refl

    by_test : (b : Bool) → is_in i.entity (entities_of_cells files is) ≡ true → is_in i.entity (map (λ (m : Instance). m.entity) (cond b (j ∷ filter (is_cell files) is) (filter (is_cell files) is))) ≡ true
    by_test true there = ap (λ b. nat_eq i.entity j.entity || b) there ∙ or-true (nat_eq i.entity j.entity)
    by_test false there = there

-- no instance of a cell is one of a netlist unit
not-in-cells : (files : List Units) (is : List Instance) (n : ℕ) (u : Unit) → unit_at files n ≡ Some u → u.role ≡ role.Net → is_in n (entities_of_cells files is) ≡ false
not-in-cells files [] n u at net = refl
not-in-cells files (i ∷ is) n u at net = by_tests (is_cell files i) (nat_eq n i.entity) refl refl (not-in-cells files is n u at net)
  where
    by_tests : (b c : Bool) → is_cell files i ≡ b → nat_eq n i.entity ≡ c → is_in n (entities_of_cells files is) ≡ false → is_in n (map (λ (j : Instance). j.entity) (cond b (i ∷ filter (is_cell files) is) (filter (is_cell files) is))) ≡ false
    by_tests false c one same others = others
    by_tests true false one same others = ap (λ d. d || is_in n (entities_of_cells files is)) same ∙ others
    by_tests true true one same others =
        let other : is_cell files i ≡ false = net-is files i u (ap (unit_at files) (sym (same-number n i.entity same)) ∙ at) net in
        absurd (cc)

-- ---- its cell

tree-at : (files : List Units) (n : ℕ) (u : Unit) (ns : List ℕ) (k d : ℕ) → unit_at files n ≡ Some u → AllByRecursion (HasUnit files) ns → k < length ns → nat_eq n (get_or ns k d) ≡ true → slice_get (trees files ns) k ≡ Some (tree_of files u)
tree-at files n u [] k d at all there same = absurd (omega arith)
tree-at files n u (m ∷ ns) zero d at all there same =
    ap (λ o. slice_get (cons_option (option_map (tree_of files) o) (trees files ns)) 0) (ap (unit_at files) (sym (same-number n m same)) ∙ at)
tree-at files n u (m ∷ ns) (suc k) d at all there same = by_unit (unit_at files m) all.0 (tree-at files n u ns k d at all.1 (omega arith) same)
  where
    by_unit : (o : Option Unit) → is_some o ≡ true → slice_get (trees files ns) k ≡ Some (tree_of files u) → slice_get (cons_option (option_map (tree_of files) o) (trees files ns)) (suc k) ≡ Some (tree_of files u)
    by_unit None has others = absurd (cc)
    by_unit (Some v) has others = others

tree-found : (files : List Units) (n : ℕ) (u : Unit) (ns : List ℕ) → unit_at files n ≡ Some u → AllByRecursion (HasUnit files) ns → is_in n ns ≡ true → option_and_then (slice_get (trees files ns)) (position (nat_eq n) ns) ≡ Some (tree_of files u)
tree-found files n u ns at all has = by_number (position (nat_eq n) ns) refl (position-some (nat_eq n) ns ∙ has)
  where
    by_number : (o : Option ℕ) → position (nat_eq n) ns ≡ o → is_some o ≡ true → option_and_then (slice_get (trees files ns)) o ≡ Some (tree_of files u)
    by_number None is some = absurd (cc)
    by_number (Some k) is some =
        let there = position-Some (nat_eq n) ns k 0 is in
        tree-at files n u ns k 0 at all there.0 there.1

nothing-found : (files : List Units) (n : ℕ) (ns : List ℕ) → is_in n ns ≡ false → option_and_then (slice_get (trees files ns)) (position (nat_eq n) ns) ≡ None
nothing-found files n ns none = by_number (position (nat_eq n) ns) (position-some (nat_eq n) ns ∙ none)
  where
    by_number : (o : Option ℕ) → is_some o ≡ false → option_and_then (slice_get (trees files ns)) o ≡ None
    by_number None is = refl
    by_number (Some k) is = absurd (cc)

found-as : (files : List Units) (is : List Instance) (k n : ℕ) (i : Instance) (u : Unit) (r : Role) → slice_get is k ≡ Some i → i.entity ≡ n → unit_at files n ≡ Some u → u.role ≡ r → option_and_then (slice_get (trees files (firsts (entities_of_cells files is)))) (position (nat_eq n) (firsts (entities_of_cells files is))) ≡ cell_as files u r
found-as files is k n i u role.Lib at same unit lib =
    let one : is_cell files i ≡ true = cell-is files i u (ap (unit_at files) same ∙ unit) lib in
    let has : is_in n (entities_of_cells files is) ≡ true = ap (λ m. is_in m (entities_of_cells files is)) (sym same) ∙ in-cells files is k i at one in
    tree-found files n u (firsts (entities_of_cells files is)) unit (all-firsts (HasUnit files) (entities_of_cells files is) (all-units files is)) (in-firsts n (entities_of_cells files is) ∙ has)
found-as files is k n i u role.Net at same unit net =
    nothing-found files n (firsts (entities_of_cells files is)) (in-firsts n (entities_of_cells files is) ∙ not-in-cells files is n u unit net)

-- an entity that has an instance is the cell that its unit is
pub found-cell : (files : List Units) (is : List Instance) (k n : ℕ) (i : Instance) (u : Unit) → slice_get is k ≡ Some i → i.entity ≡ n → unit_at files n ≡ Some u → cell_of_entity files is n ≡ cell_as files u u.role
unfolding cells cell_entities
found-cell files is k n i u at same unit = found-as files is k n i u u.role at same unit refl
