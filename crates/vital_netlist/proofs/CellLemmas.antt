-- What is kept of the cells of instances, with one instance more.
use Rattle.std.proofs.Common.{◌≡◌, ℕ, zero, suc, ◌<◌, true, false, List, [], ◌∷◌, ◌++◌, get_or, length, replicate, set, refl, sym, ◌∙◌, ap, arith, length-append, length-set}
use Rattle.std.proofs.lemmas.Bool.Decides.{nat_tests}
use Rattle.std.proofs.lemmas.List.{length-replicate}
use Rattle.std.proofs.lemmas.List.Elements.{filter_map-append}
use Rattle.std.specs.Prelude.{Bool, cond, is_some, nat_eq, position, slice_get, unwrap_or, Option, Some, None}
use Rattle.std.specs.List.{cons_option, filter_map}
use Rattle.std.specs.Option.{option_map, option_map_or, option_or}
use Rattle.vital_library.specs.Units.{entities}
use Rattle.vital_nodes.specs.declared.unit.Role.TheVariants as role
use Rattle.vital_nodes.specs.declared.unit.Units.{Units}
use Rattle.vital_typed_cells.specs.declared.typed_cell.TypedCell.{TypedCell}
use Rattle.vital_typed_cells.specs.Packages.{sound_values}
use Rattle.vital_typed_cells.specs.Typed.{typed, typed_with}
use Rattle.vital_instances.specs.declared.instance.Instance.{Instance}
use Rattle.vital_instances.specs.Units.{Unit, unit_at}
use Rattle.vital_netlist.specs.Cells.{HasCells, cell_entities, cells, is_cell, is_lib, tree_of}
use Rattle.vital_netlist.proofs.EntityLemmas.{entities-more, entities-same, is_in}
use Rattle.vital_netlist.proofs.CellNumberLemmas.{position-push, position-some}

abbrev pub trees : List Units → List ℕ → List TypedCell
trees files ns = filter_map (λ n. option_map (tree_of files) (unit_at files n)) ns

cells-are : (files : List Units) (is : List Instance) → cells files is ≡ trees files (cell_entities files is)
unfolding cells
cells-are files is = refl

same-entities : (files : List Units) (is js : List Instance) (kept : List TypedCell) (numbers : List (Option ℕ)) → cell_entities files js ≡ cell_entities files is → HasCells files is kept numbers → HasCells files js kept numbers
same-entities files is js kept numbers same has = record {
  all = has.all ∙ cells-are files is ∙ ap (trees files) (sym same) ∙ sym (cells-are files js);
  each = has.each ∙ ap length (sym same);
  room = has.room;
  numbered = λ n. has.numbered n ∙ ap (position (nat_eq n)) (sym same);
}

-- ---- nothing more

pub of-other : (files : List Units) (is : List Instance) (i : Instance) (kept : List TypedCell) (numbers : List (Option ℕ)) → is_cell files i ≡ false → HasCells files is kept numbers → HasCells files (is ++ i ∷ []) kept numbers
of-other files is i kept numbers other has = same-entities files is (is ++ i ∷ []) kept numbers (entities-same files is i other) has

is-numbered : (files : List Units) (is : List Instance) (n : ℕ) (kept : List TypedCell) (numbers : List (Option ℕ)) (b : Bool) → HasCells files is kept numbers → b ≡ is_some (unwrap_or (slice_get numbers n) None) → is_in n (cell_entities files is) ≡ b
is-numbered files is n kept numbers b has is' = sym (position-some (nat_eq n) (cell_entities files is)) ∙ sym (ap is_some (has.numbered n)) ∙ sym is'

pub net-is : (files : List Units) (i : Instance) (u : Unit) → unit_at files i.entity ≡ Some u → u.role ≡ role.Net → is_cell files i ≡ false
net-is files i u at net = ap (λ o. option_map_or (λ (v : Unit). is_lib v.role) o false) at ∙ ap is_lib net

pub nothing-is : (files : List Units) (i : Instance) → unit_at files i.entity ≡ None → is_cell files i ≡ false
nothing-is files i at = ap (λ o. option_map_or (λ (v : Unit). is_lib v.role) o false) at

pub cell-is : (files : List Units) (i : Instance) (u : Unit) → unit_at files i.entity ≡ Some u → u.role ≡ role.Lib → is_cell files i ≡ true
cell-is files i u at lib = ap (λ o. option_map_or (λ (v : Unit). is_lib v.role) o false) at ∙ ap is_lib lib

-- an instance of a cell that is there
pub of-known : (files : List Units) (is : List Instance) (i : Instance) (n : ℕ) (u : Unit) (kept : List TypedCell) (numbers : List (Option ℕ)) → i.entity ≡ n → unit_at files n ≡ Some u → u.role ≡ role.Lib → true ≡ is_some (unwrap_or (slice_get numbers n) None) → HasCells files is kept numbers → HasCells files (is ++ i ∷ []) kept numbers
of-known files is i n u kept numbers same at lib there has =
    let xs = cell_entities files is in
    let known : is_in i.entity xs ≡ true = ap (λ m. is_in m xs) same ∙ is-numbered files is n kept numbers true has there in
    same-entities files is (is ++ i ∷ []) kept numbers
    (entities-more files is i (cell-is files i u (ap (unit_at files) same ∙ at) lib) ∙ ap (λ c. cond c xs (xs ++ i.entity ∷ [])) known) has

-- ---- one cell more

same-number : (m n : ℕ) → nat_eq m n ≡ true → m ≡ n
same-number m n is = grind (arith, nat_tests)

other-number : (m n : ℕ) → nat_eq m n ≡ false → m ≡ n → ⊥
other-number m n is same = grind (arith, nat_tests)

set-here : (l : List (Option ℕ)) (i : ℕ) (v : Option ℕ) → i < length l → slice_get (set l i v) i ≡ Some v
set-here [] i v there = absurd (omega arith)
set-here (x ∷ l) zero v there = refl
set-here (x ∷ l) (suc i) v there = set-here l i v (omega arith)

set-other : (l : List (Option ℕ)) (i : ℕ) (v : Option ℕ) (k : ℕ) → (k ≡ i → ⊥) → slice_get (set l i v) k ≡ slice_get l k
set-other [] i v k differ = refl
set-other (x ∷ l) zero v zero differ = absurd (differ refl)
set-other (x ∷ l) zero v (suc k) differ = refl
set-other (x ∷ l) (suc i) v zero differ = refl
set-other (x ∷ l) (suc i) v (suc k) differ = set-other l i v k (λ e. differ (ap suc e))

set-by : (l : List (Option ℕ)) (i : ℕ) (v : Option ℕ) (k : ℕ) (b : Bool) → nat_eq k i ≡ b → i < length l → unwrap_or (slice_get (set l i v) k) None ≡ cond b v (unwrap_or (slice_get l k) None)
set-by l i v k true is there = ap (λ m. unwrap_or (slice_get (set l i v) m) None) (same-number k i is) ∙ ap (λ o. unwrap_or o None) (set-here l i v there)
set-by l i v k false is there = ap (λ o. unwrap_or o None) (set-other l i v k (other-number k i is))

set-at : (l : List (Option ℕ)) (i : ℕ) (v : Option ℕ) (k : ℕ) → i < length l → unwrap_or (slice_get (set l i v) k) None ≡ cond (nat_eq k i) v (unwrap_or (slice_get l k) None)
set-at l i v k there = set-by l i v k (nat_eq k i) refl there

or-none : (o : Option ℕ) → option_or o None ≡ o
or-none None = refl
or-none (Some n) = refl

none-is : (o : Option ℕ) → is_some o ≡ false → o ≡ None
none-is None is = refl
none-is (Some n) is = absurd (cc)

number-is : (xs : List ℕ) (n count k : ℕ) (b : Bool) (old : Option ℕ) → nat_eq k n ≡ b → is_in n xs ≡ false → count ≡ length xs → old ≡ position (nat_eq k) xs → cond b (Some count) old ≡ option_or (position (nat_eq k) xs) (cond b (Some (length xs)) None)
number-is xs n count k true old is none counted before =
    let absent : position (nat_eq k) xs ≡ None = none-is (position (nat_eq k) xs) (position-some (nat_eq k) xs ∙ ap (λ m. is_in m xs) (same-number k n is) ∙ none) in
    ap (λ m. Some m) counted ∙ sym (ap (λ o. option_or o (Some (length xs))) absent)
number-is xs n count k false old is none counted before = before ∙ sym (or-none (position (nat_eq k) xs))

length-same : {A B : Type 0} (xs : List A) (ys : List B) (x : A) (y : B) → length xs ≡ length ys → length (xs ++ x ∷ []) ≡ length (ys ++ y ∷ [])
length-same xs ys x y same = omega (arith, length-append xs (x ∷ []), length-append ys (y ∷ []))

-- an instance of a cell that was not there
pub of-new : (files : List Units) (is : List Instance) (i : Instance) (n : ℕ) (u : Unit) (kept : List TypedCell) (numbers : List (Option ℕ)) (tree : TypedCell) (kept' : List TypedCell) (numbers' : List (Option ℕ)) → i.entity ≡ n → unit_at files n ≡ Some u → u.role ≡ role.Lib → n < length numbers → false ≡ is_some (unwrap_or (slice_get numbers n) None) → tree ≡ tree_of files u → kept' ≡ kept ++ tree ∷ [] → numbers' ≡ set numbers n (Some (length kept)) → HasCells files is kept numbers → HasCells files (is ++ i ∷ []) kept' numbers'
of-new files is i n u kept numbers tree kept' numbers' same at lib room absent read put numbered has =
    let xs = cell_entities files is in
    let none : is_in n xs ≡ false = is-numbered files is n kept numbers false has absent in
    let none-here : is_in i.entity xs ≡ false = ap (λ m. is_in m xs) same ∙ none in
    let more : cell_entities files (is ++ i ∷ []) ≡ xs ++ n ∷ [] =
    entities-more files is i (cell-is files i u (ap (unit_at files) same ∙ at) lib)
    ∙ ap (λ c. cond c xs (xs ++ i.entity ∷ [])) none-here ∙ ap (λ m. xs ++ m ∷ []) same in
    let one : trees files (n ∷ []) ≡ tree ∷ [] = ap (λ o. cons_option (option_map (tree_of files) o) []) at ∙ ap (λ t. t ∷ []) (sym read) in
    record {
      all =
          put ∙ ap (λ ts. ts ++ tree ∷ []) (has.all ∙ cells-are files is) ∙ ap (λ ts. trees files xs ++ ts) (sym one)
          ∙ sym (filter_map-append (λ m. option_map (tree_of files) (unit_at files m)) xs (n ∷ []))
          ∙ ap (trees files) (sym more) ∙ sym (cells-are files (is ++ i ∷ []));
      each = ap length put ∙ length-same kept xs tree n has.each ∙ ap length (sym more);
      room = ap length numbered ∙ length-set numbers n (Some (length kept)) ∙ has.room;
      numbered = λ k.
          ap (λ ns. unwrap_or (slice_get ns k) None) numbered ∙ set-at numbers n (Some (length kept)) k room
          ∙ number-is xs n (length kept) k (nat_eq k n) (unwrap_or (slice_get numbers k) None) refl none has.each (has.numbered k)
          ∙ sym (position-push (nat_eq k) xs n) ∙ ap (position (nat_eq k)) (sym more);
    }

-- ---- no instance

abbrev no_number : Option ℕ
no_number = None

none-numbered : (count n : ℕ) → unwrap_or (slice_get (replicate count no_number) n) None ≡ None
none-numbered zero n = refl
none-numbered (suc count) zero = refl
none-numbered (suc count) (suc n) = none-numbered count n

pub of-none : (files : List Units) (kept : List TypedCell) (numbers : List (Option ℕ)) → kept ≡ [] → numbers ≡ replicate (length (entities files)) None → HasCells files [] kept numbers
unfolding cells cell_entities
of-none files kept numbers nothing are = record {
  all = nothing;
  each = ap length nothing;
  room = ap length are ∙ length-replicate (length (entities files)) no_number;
  numbered = λ n. ap (λ ns. unwrap_or (slice_get ns n) None) are ∙ none-numbered (length (entities files)) n;
}

-- ---- constants of packages

packages-are : (files : List Units) (u : Unit) → (tree_of files u).packages ≡ sound_values files
unfolding typed typed_with
packages-are files u = refl

trees-packages : (files : List Units) (ns : List ℕ) (k : ℕ) (d : TypedCell) → k < length (trees files ns) → (get_or (trees files ns) k d).packages ≡ sound_values files
trees-packages files [] k d there = absurd (omega arith)
trees-packages files (n ∷ ns) k d there = by_unit (unit_at files n) k there (trees-packages files ns)
  where
    by_unit : (o : Option Unit) (m : ℕ) → m < length (cons_option (option_map (tree_of files) o) (trees files ns)) → ((l : ℕ) (e : TypedCell) → l < length (trees files ns) → (get_or (trees files ns) l e).packages ≡ sound_values files) → (get_or (cons_option (option_map (tree_of files) o) (trees files ns)) m d).packages ≡ sound_values files
    by_unit None m inside others = others m d inside
    by_unit (Some u) zero inside others = packages-are files u
    by_unit (Some u) (suc m) inside others = others m d (omega arith)

-- all cells have the same ones
pub same-packages : (files : List Units) (is : List Instance) (k : ℕ) (d : TypedCell) → k < length (cells files is) → (get_or (cells files is) k d).packages ≡ sound_values files
unfolding cells
same-packages files is k d there = trees-packages files (cell_entities files is) k d there
