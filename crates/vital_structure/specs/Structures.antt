-- What a netlist unit declares and states.
use Rattle.std.specs.Prelude.{◌≡◌, ⊤, ℕ, List, map, position, Option, None, Some, Result, Ok, Err}
use Rattle.std.specs.Borrow.{Bor}
use Rattle.std.specs.HashMap.{HashMap}
use Rattle.std.specs.declared.hash.BuildHasherDefault.{BuildHasherDefault}
use Rattle.std.specs.declared.hash.FoldHasher.{FoldHasher}
use Rattle.vital_names.specs.FirstNames.{first_in}
use Rattle.vital_nodes.specs.declared.unit.Arch.{Arch}
use Rattle.vital_nodes.specs.declared.unit.Entity.{Entity}
use Rattle.vital_structure.specs.declared.content.Content.{Content as Content'}
use Rattle.vital_structure.specs.declared.structure.StructureError.{StructureError}
use Rattle.vital_structure.specs.declared.structure.StructureError.TheVariants.{Fault, NoMemory}
use Rattle.vital_structure.specs.Contents.{contents, lent, signals_in}
use Rattle.vital_structure.specs.Faults.{first_fault, is_named}
use Rattle.vital_structure.specs.Faults as faults
use Rattle.vital_structure.specs.Signals.{UnitSignal}
use Rattle.vital_structure.specs.Statements.{Statement, statements}

-- A netlist unit: an entity of a netlist with an architecture.
pub record NetUnit : Type 0 where
  pub entity : Entity
  pub arch : Arch

-- These are its ports and declarations.
abbrev pub HasContents : NetUnit → List Content' → Type 0
HasContents u cs = map lent cs ≡ contents u.entity u.arch

-- Its ports and then the signals that it declares, in order.
abbrev pub signals_of : NetUnit → List UnitSignal
signals_of u = signals_in (contents u.entity u.arch)

-- Its statements, in order: those of the entity and of the architecture.
abbrev pub statements_of : NetUnit → List Statement
statements_of u = statements u.entity u.arch

-- The first fault of its ports and of the declarations of the entity and of the architecture; of one port or signal its type before its
-- name. All statements stand behind these, so that their faults come later.
abbrev pub fault_in : NetUnit → Option faults.UnitFault
fault_in u = first_fault (contents u.entity u.arch)

-- The number of the first port or signal of a name, from 0.
abbrev pub number_of : List UnitSignal → List ℕ → Option ℕ
number_of ss name = position (λ s. is_named s name) ss

-- A map has the number of the first of each name.
abbrev pub HasNumbers : HashMap (Bor (List ℕ)) ℕ (BuildHasherDefault FoldHasher) → List UnitSignal → Type 0
HasNumbers numbers ss = (name : List ℕ) → first_in numbers name ≡ number_of ss name

-- What is answered of a unit: its structure where its ports and declarations have no fault, else the first one. Where there is no memory
-- nothing is told of it.
abbrev pub IsStructure : NetUnit → Result NetUnit StructureError → Type 0
IsStructure u (Ok s) = (fault_in u ≡ None) × (s ≡ u)
IsStructure u (Err (Fault f)) = fault_in u ≡ Some (faults.lent f)
IsStructure u (Err NoMemory) = ⊤
