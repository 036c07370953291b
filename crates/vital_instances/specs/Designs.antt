-- What is so of all instances of a design.
use Rattle.std.specs.Prelude.{◌≡◌, ℕ, ◌<◌, ◌≤◌, ◌==◌, List, length, All, Some, None, IsSome, is_some, not, Ok}
use Rattle.std.specs.List.{slice_get}
use Rattle.vital_nodes.specs.declared.unit.Role.TheVariants as role
use Rattle.vital_nodes.specs.declared.unit.Units.{Units}
use Rattle.vital_instances.specs.declared.instance.Instance.{Instance}
use Rattle.vital_instances.specs.declared.instance.Position.{Position}
use Rattle.vital_instances.specs.Children.{Child}
use Rattle.vital_instances.specs.Contents.{children_at, contents_at, fault_in}
use Rattle.vital_instances.specs.Instances.{instances}
use Rattle.vital_instances.specs.Judges.{IsFaultOf, IsJudge, Judge}
use Rattle.vital_instances.specs.Units.{Unit, cell_of, unit_at}

-- These are the instances of a library under some top, which have no fault.
abbrev pub AreEntered : List Units → List Instance → Type 0
AreEntered files found = (judge : Judge) × (top : List ℕ) × IsJudge judge × (instances judge files top ≡ Ok found)

-- There is one, and the first of them alone stands in no other one.
pub record IsUnderTop (found : List Instance) : Type 0 where
  pub some : 1 ≤ length found
  pub first : (n : ℕ) (i : Instance) → slice_get found n ≡ Some i → is_some i.position ≡ not (n == 0)

-- Each stands behind its parent.
abbrev pub AreBehindParents : List Instance → Type 0
AreBehindParents found = (n : ℕ) (i : Instance) (at : Position) → slice_get found n ≡ Some i → i.position ≡ Some at → at.parent < n

-- The instance at a position is one of the entity of a number: its parent was found, and it has its number among those in the parent.
pub record IsChild (files : List Units) (found : List Instance) (at : Position) (entity : ℕ) : Type 0 where
  pub parent : Instance
  pub there : slice_get found at.parent ≡ Some parent
  pub child : Child
  pub here : slice_get (children_at files parent.entity) at.child ≡ Some child
  pub same : child.entity ≡ entity

-- Each is one of those in its parent.
abbrev pub AreChildren : List Units → List Instance → Type 0
AreChildren files found = (n : ℕ) (i : Instance) (at : Position) → slice_get found n ≡ Some i → i.position ≡ Some at → IsChild files found at i.entity

-- There is an instance of the entity of a number.
abbrev pub HasInstance : List Instance → ℕ → Type 0
HasInstance found entity = (n : ℕ) × (i : Instance) × (slice_get found n ≡ Some i) × (i.entity ≡ entity)

-- All that are in each were found.
abbrev pub HaveChildren : List Units → List Instance → Type 0
HaveChildren files found = (n k : ℕ) (i : Instance) (c : Child) → slice_get found n ≡ Some i → slice_get (children_at files i.entity) k ≡ Some c → HasInstance found c.entity

-- The entity of each has an architecture.
abbrev pub HaveUnits : List Units → List Instance → Type 0
HaveUnits files found = All (λ i. IsSome (unit_at files i.entity)) found

-- The unit of an instance has no fault where it is a cell.
abbrev pub HasGoodCell : List Units → Instance → Type 0
HasGoodCell files i = (u : Unit) → unit_at files i.entity ≡ Some u → u.role ≡ role.Lib → IsFaultOf (cell_of files u) None

abbrev pub HaveGoodCells : List Units → List Instance → Type 0
HaveGoodCells files found = All (HasGoodCell files) found

-- What the unit of each holds has no fault.
abbrev pub HaveGoodContents : List Units → List Instance → Type 0
HaveGoodContents files found = All (λ i. fault_in (contents_at files i.entity) ≡ None) found
