-- What is associated with ports (IEEE 1076-1993, 1.1.1.2 and 4.3.2.2).
use Rattle.std.specs.Prelude.{ℕ, Bool, true, false, List, Option, Some, None, if◌then◌else◌}
use Rattle.std.specs.List.{slice_get}
use Rattle.std.specs.Option.{option_and_then, option_map, option_map_or}
use Rattle.vital_logic.specs.declared.level.Level.{Level}
use Rattle.vital_nodes.specs.declared.decl.Mode.{Mode}
use Rattle.vital_nodes.specs.declared.decl.Mode.TheVariants as mode
use Rattle.vital_nodes.specs.declared.expr.Expr.{Expr}
use Rattle.vital_nodes.specs.declared.expr.Item.{Item}
use Rattle.vital_nodes.specs.declared.expr.Reference.{Reference}
use Rattle.vital_nodes.specs.Items.{actual}
use Rattle.vital_structure.specs.Shapes.{Part, Scalar, Shape, lent_part, shape_of_part}
use Rattle.vital_structure.specs.Signals.{UnitSignal, level_literal}
use Rattle.vital_structure.specs.Structures.{number_of}
use Rattle.vital_associations.specs.declared.actual.Actual.{Actual as Actual'}
use Rattle.vital_associations.specs.declared.actual.Actual.TheVariants as borrowed
use Rattle.vital_associations.specs.Formals.{part_in}
use Rattle.vital_associations.specs.Items.{is_open, name_of}

-- What a port or a part of it is associated with: nothing, by `open`; a level; or the port or signal of a number of the unit of the
-- instance, or a part of it.
pub data Actual : Type 0 where
  Open : Actual
  Literal : Level → Actual
  Signal : ℕ → Part → Actual

abbrev pub lent : Actual' → Actual
lent borrowed.Open = Open
lent (borrowed.Literal level) = Literal level
lent (borrowed.Signal n p) = Signal n (lent_part p)

-- What the port or signal of a number is, and the mode of a port. A number past them counts as one bit.
abbrev pub shape_at : List UnitSignal → ℕ → Shape
shape_at ss n = option_map_or (λ s. s.shape) (slice_get ss n) Scalar

abbrev pub mode_at : List UnitSignal → ℕ → Option Mode
mode_at ss n = option_and_then (λ s. s.mode) (slice_get ss n)

-- The port or signal that a name names, the first of its identifier, alone or with one index or one slice in its range.
abbrev pub signal_named : List UnitSignal → Reference → Option Actual
signal_named ss name =
    option_and_then (λ n. option_map (λ p. Signal n p) (part_in (shape_at ss n) name.suffixes)) (number_of ss name.identifier.name)

-- What an expression gives, if it may be associated: a name, or the character literal of a level.
abbrev pub given_by : List UnitSignal → Expr → Option Actual
given_by ss e = option_map_or (signal_named ss) (name_of e) (option_map (λ l. Literal l) (level_literal e))

-- What an item gives, if it may be associated. A range may not.
abbrev pub given : List UnitSignal → Item → Option Actual
given ss i = if is_open i then Some Open else option_and_then (given_by ss) (actual i)

-- What an actual is; `open` is nothing.
abbrev pub shape_of : List UnitSignal → Actual → Option Shape
shape_of ss Open = None
shape_of ss (Literal level) = Some Scalar
shape_of ss (Signal n p) = Some (shape_of_part (shape_at ss n) p)

abbrev pub is_in : Option Mode → Bool
is_in (Some mode.In) = true
is_in _ = false

-- An actual may only be read: a literal, or an in port of the unit.
abbrev pub is_read_only : List UnitSignal → Actual → Bool
is_read_only ss Open = false
is_read_only ss (Literal level) = true
is_read_only ss (Signal n p) = is_in (mode_at ss n)
