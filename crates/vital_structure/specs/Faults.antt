-- The faults of what a netlist unit declares.
use Rattle.std.specs.Prelude.{ℕ, Bool, false, List, [], ◌∷◌, ◌++◌, Option, Some, None, if◌then◌else◌}
use Rattle.std.specs.List.{list_any}
use Rattle.std.specs.Option.{option_or}
use Rattle.std.specs.Str.{bytes_eq}
use Rattle.vital_base.specs.declared.place.Place.{Place}
use Rattle.vital_nodes.specs.declared.identifier.Identifier.{Identifier}
use Rattle.vital_structure.specs.declared.faults.UnitFault.{UnitFault as UnitFault'}
use Rattle.vital_structure.specs.declared.faults.UnitFault.TheVariants as borrowed
use Rattle.vital_structure.specs.Contents.{Content}
use Rattle.vital_structure.specs.Contents as content
use Rattle.vital_structure.specs.Signals.{UnitSignal}

-- A port or a signal has a type or a default that it may not have; one has the name of an earlier one; or a declaration is none of a
-- netlist. The first two stand at an identifier, the last at a place.
pub data UnitFault : Type 0 where
  WrongType : Identifier → UnitFault
  TwiceDeclared : Identifier → UnitFault
  NotStructural : Place → UnitFault

abbrev pub lent : UnitFault' → UnitFault
lent (borrowed.WrongType i) = WrongType i.now
lent (borrowed.TwiceDeclared i) = TwiceDeclared i.now
lent (borrowed.NotStructural place) = NotStructural place

-- A port or a signal has this name.
abbrev pub is_named : UnitSignal → List ℕ → Bool
is_named s name = bytes_eq s.identifier.name name

abbrev pub declares : Content → List ℕ → Bool
declares (content.Signal s) name = is_named s name
declares _ name = false

-- One of the contents is a port or a signal of this name.
abbrev pub is_declared : List Content → List ℕ → Bool
is_declared cs name = list_any (λ c. declares c name) cs

abbrev pub fault_of_signal : Bool → UnitSignal → Option UnitFault
fault_of_signal is_twice s = if is_twice then Some (TwiceDeclared s.identifier) else None

-- The fault of what a port or a declaration gives, behind those that declare these names.
abbrev pub fault_of : (List ℕ → Bool) → Content → Option UnitFault
fault_of earlier (content.Signal s) = fault_of_signal (earlier s.identifier.name) s
fault_of earlier (content.WrongType i) = Some (WrongType i)
fault_of earlier (content.NotStructural place) = Some (NotStructural place)
fault_of earlier content.Nothing = None

-- The first fault of contents that stand behind earlier ones.
abbrev pub first_fault_behind : List Content → List Content → Option UnitFault
first_fault_behind earlier [] = None
first_fault_behind earlier (c ∷ others) = option_or (fault_of (is_declared earlier) c) (first_fault_behind (earlier ++ c ∷ []) others)

abbrev pub first_fault : List Content → Option UnitFault
first_fault cs = first_fault_behind [] cs
