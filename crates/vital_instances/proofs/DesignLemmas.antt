-- What is so of all instances of a design.
use Rattle.std.proofs.Common.{◌≡◌, ℕ, zero, suc, ◌+◌, ◌≤◌, ◌<◌, List, [], ◌∷◌, ◌++◌, length, drop, get_or, refl, sym, ap, subst, ◌∙◌, arith, length-append}
use Rattle.std.specs.Prelude.{Bool, true, false, not, ◌==◌, nat_lt, Option, Some, None, IsSome, is_some, Result, Ok, Err, if◌then◌else◌}
use Rattle.std.specs.List.{slice_get}
use Rattle.std.specs.Option.{option_map_or}
use Rattle.std.proofs.lemmas.Bool.Decides.{nat_tests}
use Rattle.std.proofs.lemmas.List.{drop_all}
use Rattle.std.proofs.lemmas.Option.{none-some, same_Some, slice_get-get_or, slice_get_within}
use Rattle.vital_library.specs.Numbers.{number_named}
use Rattle.vital_library.specs.Units.{entities}
use Rattle.vital_nodes.specs.declared.unit.Entity.{Entity}
use Rattle.vital_nodes.specs.declared.unit.Role.{Role}
use Rattle.vital_nodes.specs.declared.unit.Role.TheVariants.{Lib, Net}
use Rattle.vital_nodes.specs.declared.unit.Units.{Units}
use Rattle.vital_instances.specs.declared.cell_fault.CellFault.{CellFault}
use Rattle.vital_instances.specs.declared.instance.Instance.{Instance}
use Rattle.vital_instances.specs.declared.instance.Position.{Position}
use Rattle.vital_instances.specs.Children.{Child}
use Rattle.vital_instances.specs.Contents.{children_at, contents, contents_as, contents_at, fault_in, or_none}
use Rattle.vital_instances.specs.Designs.{AreBehindParents, AreChildren, AreEntered, HaveGoodCells, HaveGoodContents, HaveUnits, IsChild, IsUnderTop}
use Rattle.vital_instances.specs.Faults.{Fault, Loop, TooDeep, TooManyInstances, followed}
use Rattle.vital_instances.specs.Instances.{Enter, Entry, enter, enter_from, enter_top, enter_unit, entry_of, instance_of, instances, instances_under, is_above, most_instances, most_labels, opened, opened_as, top_entry, unless_broken}
use Rattle.vital_instances.specs.Judges.{IsFaultOf, Judge}
use Rattle.vital_instances.specs.Units.{Unit, cell_of, unit_at}

-- ---- one instance

-- a position of the instance of a number: the first alone has none
abbrev IsFirstAlone : ℕ → Option Position → Type 0
IsFirstAlone n position = is_some position ≡ not (n == 0)

-- an instance of a number, in its parent and behind it, of a unit that has no fault
pub record IsGood (judge : Judge) (files : List Units) (found : List Instance) (n : ℕ) (i : Instance) : Type 0 where
  pub unit : Unit
  pub there : unit_at files i.entity ≡ Some unit
  pub good : unit.role ≡ Lib → judge (cell_of files unit) ≡ None
  pub contents : fault_in (contents_at files i.entity) ≡ None
  pub first : IsFirstAlone n i.position
  pub behind : (at : Position) → i.position ≡ Some at → at.parent < n
  pub child : (at : Position) → i.position ≡ Some at → IsChild files found at i.entity

-- not too many, and each a good one
record AreGood (judge : Judge) (files : List Units) (found : List Instance) : Type 0 where
  pub few : length found ≤ 16384
  pub each : (n : ℕ) (i : Instance) → slice_get found n ≡ Some i → IsGood judge files found n i

-- an entry that comes behind these: its parent was found, and the first alone has none
record IsPlaced (files : List Units) (e : Entry) (found : List Instance) : Type 0 where
  pub first : IsFirstAlone (length found) e.position
  pub parent : (at : Position) → e.position ≡ Some at → IsChild files found at e.entity

-- ---- more instances

pub get-left : {A : Type 0} (xs ys : List A) (k : ℕ) (x : A) → slice_get xs k ≡ Some x → slice_get (xs ++ ys) k ≡ Some x
get-left [] ys k x is = absurd (none-some x is)
get-left (z ∷ xs) ys zero x is = is
get-left (z ∷ xs) ys (suc k) x is = get-left xs ys k x is

pub get-last : {A : Type 0} (xs : List A) (x : A) → slice_get (xs ++ x ∷ []) (length xs) ≡ Some x
get-last [] x = refl
get-last (z ∷ xs) x = get-last xs x

child-more : (files : List Units) (found more : List Instance) (at : Position) (n : ℕ) → IsChild files found at n → IsChild files (found ++ more) at n
child-more files found more at n is =
    record { parent = is.parent; there = get-left found more at.parent is.parent is.there; child = is.child; here = is.here; same = is.same }

good-more : (judge : Judge) (files : List Units) (found more : List Instance) (n : ℕ) (i : Instance) → IsGood judge files found n i → IsGood judge files (found ++ more) n i
good-more judge files found more n i is =
    record {
      unit = is.unit;
      there = is.there;
      good = is.good;
      contents = is.contents;
      first = is.first;
      behind = is.behind;
      child = λ at there. child-more files found more at i.entity (is.child at there);
    }

-- one more
each-more : {A : Type 0} (P : ℕ → A → Type 0) (xs : List A) (x : A) → ((n : ℕ) (y : A) → slice_get xs n ≡ Some y → P n y) → P (length xs) x → (n : ℕ) (y : A) → slice_get (xs ++ x ∷ []) n ≡ Some y → P n y
each-more P [] x each here zero y is = subst (P 0) (same_Some x y is) here
each-more P [] x each here (suc n) y is = absurd (none-some y is)
each-more P (z ∷ xs) x each here zero y is = each 0 y is
each-more P (z ∷ xs) x each here (suc n) y is = each-more (λ k. P (suc k)) xs x (λ k w there. each (suc k) w there) here n y is

-- these are all good, and those before are among them
record Keeps (judge : Judge) (files : List Units) (found new : List Instance) : Type 0 where
  pub more : (k : ℕ) (x : Instance) → slice_get found k ≡ Some x → slice_get new k ≡ Some x
  pub all : AreGood judge files new

-- and one stands behind those before
record KeepsOne (judge : Judge) (files : List Units) (found new : List Instance) : Type 0 where
  pub keeps : Keeps judge files found new
  pub one : 1 ≤ length new

-- ---- results

pub followed-good : {A B : Type 0} (r : Result A Fault) (next : A → Result B Fault) (y : B) → followed r next ≡ Ok y → (x : A) × (r ≡ Ok x) × (next x ≡ Ok y)
followed-good (Ok x) next y is = (x, refl, is)
followed-good (Err f) next y is = absurd (cc)

pub ok-same : {A : Type 0} (x y : A) → ◌≡◌ {A = Result A Fault} (Ok x) (Ok y) → x ≡ y
ok-same x y is = cc

pub never-good : (b : Bool) (l d : Fault) (new : List Instance) → ◌≡◌ {A = Result (List Instance) Fault} (if b then Err l else Err d) (Ok new) → ⊥
never-good true l d new is = cc
never-good false l d new is = cc

-- an instance that may be entered where it is on no path above and there are few
pub placed-good : (loops few : Bool) (l m : Fault) (r : Result (List Instance) Fault) (new : List Instance) → (if loops then Err l else if few then r else Err m) ≡ Ok new → (few ≡ true) × (r ≡ Ok new)
placed-good true few l m r new is = absurd (cc)
placed-good false true l m r new is = (refl, is)
placed-good false false l m r new is = absurd (cc)

-- ---- entering

none-broken : (f : Option CellFault) (cs : List Child) → unless_broken f ≡ Ok cs → f ≡ None
none-broken None cs is = refl
none-broken (Some f) cs is = absurd (cc)

opened-good : (judge : Judge) (files : List Units) (u : Unit) (cs : List Child) → opened judge files u ≡ Ok cs → u.role ≡ Lib → judge (cell_of files u) ≡ None
opened-good judge files u cs is cell = none-broken (judge (cell_of files u)) cs (sym (ap (opened_as judge files u) cell) ∙ is)

broken-empty : (f : Option CellFault) (cs : List Child) → unless_broken f ≡ Ok cs → ◌≡◌ {A = Result (List Child) Fault} (Ok []) (Ok cs)
broken-empty None cs is = is
broken-empty (Some f) cs is = absurd (cc)

opened-as : (judge : Judge) (files : List Units) (u : Unit) (role : Role) (cs : List Child) → opened_as judge files u role ≡ Ok cs → contents_as files u role ≡ Ok cs
opened-as judge files u Lib cs is = broken-empty (judge (cell_of files u)) cs is
opened-as judge files u Net cs is = is

-- what is opened is what the entity of a number holds
contents-are : (judge : Judge) (files : List Units) (n : ℕ) (u : Unit) (cs : List Child) → unit_at files n ≡ Some u → opened judge files u ≡ Ok cs → contents_at files n ≡ Ok cs
contents-are judge files n u cs unit is =
    ap (λ (o : Option Unit). option_map_or (contents files) o (Ok [])) unit ∙ opened-as judge files u u.role cs is

pub opened-are : (judge : Judge) (files : List Units) (n : ℕ) (u : Unit) (cs : List Child) → unit_at files n ≡ Some u → opened judge files u ≡ Ok cs → children_at files n ≡ cs
opened-are judge files n u cs unit is = ap or_none (contents-are judge files n u cs unit is)

-- the next of what is left
dropped : (xs : List Child) (n : ℕ) (c : Child) (cs : List Child) → drop n xs ≡ c ∷ cs → (slice_get xs n ≡ Some c) × (drop (suc n) xs ≡ cs)
dropped [] n c cs is =
    let none : [] ≡ c ∷ cs = sym (drop_all n [] (omega arith)) ∙ is in
    absurd (cc)
dropped (x ∷ xs) zero c cs is = let head : x ≡ c = cc in let tail : xs ≡ cs = cc in (ap (λ y. Some y) head, tail)
dropped (x ∷ xs) (suc n) c cs is = dropped xs n c cs is

no-first : (n m : ℕ) → n < m → true ≡ not (m == 0)
no-first n m below = grind (arith, nat_tests)

from-keeps : (judge : Judge) (files : List Units) (one : Enter) → ((e : Entry) (found new : List Instance) → IsPlaced files e found → AreGood judge files found → one e found ≡ Ok new → KeepsOne judge files found new) → (parent n : ℕ) (p : Instance) (cs : List Child) (found new : List Instance) → slice_get found parent ≡ Some p → drop n (children_at files p.entity) ≡ cs → AreGood judge files found → enter_from one parent n cs found ≡ Ok new → Keeps judge files found new
from-keeps judge files one keeps parent n p [] found new stands left good is =
    subst (Keeps judge files found) (ok-same found new is) (record { more = λ k x there. there; all = good })
from-keeps judge files one keeps parent n p (c ∷ cs) found new stands left good is =
    let next = dropped (children_at files p.entity) n c cs left in
    let behind : n + 1 ≡ suc n = omega arith in
    let child : IsChild files found (record { parent = parent; child = n }) c.entity = record { parent = p; there = stands; child = c; here = next.0; same = refl } in
    let placed : IsPlaced files (entry_of parent n c) found =
    record {
      first = no-first parent (length found) (slice_get_within found parent p stands);
      parent = λ at there. subst (λ (a : Position). IsChild files found a c.entity) (same_Some _ at there) child;
    } in
    let parts = followed-good (one (entry_of parent n c) found) (enter_from one parent (n + 1) cs) new is in
    let first = (keeps (entry_of parent n c) found parts.0 placed good parts.1).keeps in
    let rest = from-keeps judge files one keeps parent (n + 1) p cs parts.0 new (first.more parent p stands) (ap (λ (k : ℕ). drop k (children_at files p.entity)) behind ∙ next.1) first.all parts.2 in
    record { more = λ k x there. rest.more k x (first.more k x there); all = rest.all }

unit-keeps : (judge : Judge) (files : List Units) (one : Enter) → ((e : Entry) (found new : List Instance) → IsPlaced files e found → AreGood judge files found → one e found ≡ Ok new → KeepsOne judge files found new) → (e : Entry) (found new : List Instance) (o : Option Unit) → unit_at files e.entity ≡ o → length found < 16384 → IsPlaced files e found → AreGood judge files found → enter_unit judge files one e found o ≡ Ok new → KeepsOne judge files found new
unit-keeps judge files one keeps e found new None there few placed good is = absurd (cc)
unit-keeps judge files one keeps e found new (Some u) there few placed good is =
    let i = instance_of e in
    let more = found ++ i ∷ [] in
    let parts = followed-good (opened judge files u) (λ cs. enter_from one (length found) 0 cs more) new is in
    let it : IsGood judge files more (length found) i =
    record {
      unit = u;
      there = there;
      good = opened-good judge files u parts.0 parts.1;
      contents = ap fault_in (contents-are judge files e.entity u parts.0 there parts.1);
      first = placed.first;
      behind = λ at position. slice_get_within found at.parent (placed.parent at position).parent (placed.parent at position).there;
      child = λ at position. child-more files found (i ∷ []) at e.entity (placed.parent at position);
    } in
    let all : AreGood judge files more =
    record {
      few = omega (arith, length-append found (i ∷ []), few);
      each = each-more (IsGood judge files more) found i (λ n j at. good-more judge files found (i ∷ []) n j (good.each n j at)) it;
    } in
    let rest = from-keeps judge files one keeps (length found) 0 i parts.0 more new (get-last found i) (opened-are judge files e.entity u parts.0 there parts.1) all parts.2 in
    let last = slice_get_within new (length found) i (rest.more (length found) i (get-last found i)) in
    record { keeps = record { more = λ k x at. rest.more k x (get-left found (i ∷ []) k x at); all = rest.all }; one = omega (arith, last) }

below : (a b : ℕ) → nat_lt a b ≡ true → a < b
below a b h = grind (arith, nat_tests)

enter-keeps : (judge : Judge) (files : List Units) (left : ℕ) (above : List ℕ) (e : Entry) (found new : List Instance) → IsPlaced files e found → AreGood judge files found → enter judge files left above e found ≡ Ok new → KeepsOne judge files found new
enter-keeps judge files zero above e found new placed good is =
    absurd (never-good (is_above above e.entity) (Loop e.name) (TooDeep e.name) new is)
enter-keeps judge files (suc left) above e found new placed good is =
    let inside = enter judge files left (above ++ e.entity ∷ []) in
    let may =
    placed-good (is_above above e.entity) (nat_lt (length found) most_instances) (Loop e.name) (TooManyInstances e.name) (enter_unit judge files inside e found (unit_at files e.entity)) new is in
    unit-keeps judge files inside (enter-keeps judge files left (above ++ e.entity ∷ [])) e found new (unit_at files e.entity) refl (below (length found) most_instances may.0) placed good may.1

-- ---- under a top

top-good : (judge : Judge) (files : List Units) (n : ℕ) (o : Option Entity) (new : List Instance) → enter_top judge files n o ≡ Ok new → KeepsOne judge files [] new
top-good judge files n None new is = absurd (cc)
top-good judge files n (Some entity) new is =
    enter-keeps judge files (suc most_labels) [] (top_entry n entity) [] new (record { first = refl; parent = λ at there. absurd (none-some at there) })
    (record { few = omega arith; each = λ m i there. absurd (none-some i there) }) is

under-good : (judge : Judge) (files : List Units) (o : Option ℕ) (new : List Instance) → instances_under judge files o ≡ Ok new → KeepsOne judge files [] new
under-good judge files None new is = absurd (cc)
under-good judge files (Some n) new is = top-good judge files n (slice_get (entities files) n) new is

are-good : (judge : Judge) (files : List Units) (top : List ℕ) (new : List Instance) → instances judge files top ≡ Ok new → KeepsOne judge files [] new
are-good judge files top new is = under-good judge files (number_named top files) new is

-- ---- what is so of all instances

entered-good : (files : List Units) (found : List Instance) (are : AreEntered files found) → AreGood are.0 files found
entered-good files found are = (are-good are.0 files are.1 found are.3).keeps.all

pub few-found : (files : List Units) (found : List Instance) → AreEntered files found → length found ≤ 16384
few-found files found are = (entered-good files found are).few

pub under-top : (files : List Units) (found : List Instance) → AreEntered files found → IsUnderTop found
under-top files found are =
    record { some = (are-good are.0 files are.1 found are.3).one; first = λ n i there. ((entered-good files found are).each n i there).first }

pub parents-before : (files : List Units) (found : List Instance) → AreEntered files found → AreBehindParents found
parents-before files found are n i at there position = ((entered-good files found are).each n i there).behind at position

pub children-there : (files : List Units) (found : List Instance) → AreEntered files found → AreChildren files found
children-there files found are n i at there position = ((entered-good files found are).each n i there).child at position

-- the instance at a place is a good one
good-at : (files : List Units) (found : List Instance) (are : AreEntered files found) (k : ℕ) (d : Instance) → k < length found → IsGood are.0 files found k (get_or found k d)
good-at files found are k d within = (entered-good files found are).each k (get_or found k d) (slice_get-get_or found k d within)

is-some : {A : Type 0} (o : Option A) (x : A) → o ≡ Some x → IsSome o
is-some o x is = subst IsSome (sym is) refl

pub units-there : (files : List Units) (found : List Instance) → AreEntered files found → HaveUnits files found
units-there files found are k d within =
    let one = good-at files found are k d within in
    is-some (unit_at files (get_or found k d).entity) one.unit one.there

pub cells-good : (files : List Units) (found : List Instance) → AreEntered files found → HaveGoodCells files found
cells-good files found are k d within u unit cell =
    let one = good-at files found are k d within in
    let same : one.unit ≡ u = same_Some one.unit u (sym one.there ∙ unit) in
    let none : are.0 (cell_of files u) ≡ None = subst (λ (v : Unit). are.0 (cell_of files v) ≡ None) same (one.good (ap (λ (v : Unit). v.role) same ∙ cell)) in
    subst (IsFaultOf (cell_of files u)) none (are.2 (cell_of files u))

pub contents-good : (files : List Units) (found : List Instance) → AreEntered files found → HaveGoodContents files found
contents-good files found are k d within = (good-at files found are k d within).contents
