-- The associations of an instance (IEEE 1076-1993, 1.1.1.2, 4.3.2.2 and 9.6).
use Rattle.std.specs.Prelude.{ℕ, Bool, ◌&&◌, ◌==◌, nat_lt, List, length, Option, Some, None, Result, Ok, Err, if◌then◌else◌}
use Rattle.std.specs.List.{list_any}
use Rattle.std.specs.Option.{option_and_then, option_or}
use Rattle.vital_level0.specs.Ports.{mode_at}
use Rattle.vital_nodes.specs.declared.decl.Iface.{Iface}
use Rattle.vital_nodes.specs.declared.expr.Item.{Item}
use Rattle.vital_structure.specs.Shapes.{Part, Whole, Shape, lent_part, shape_of_part}
use Rattle.vital_structure.specs.Signals.{UnitSignal}
use Rattle.vital_structure.specs.Structures.{signals_of}
use Rattle.vital_associations.specs.declared.association.Association.{Association as Association'}
use Rattle.vital_associations.specs.declared.association.PortMap.{PortMap as PortMap'}
use Rattle.vital_associations.specs.declared.misfit.Misfit.{Misfit}
use Rattle.vital_associations.specs.declared.misfit.Misfit.TheVariants as why
use Rattle.vital_associations.specs.Actuals.{Actual, given, is_read_only, shape_of}
use Rattle.vital_associations.specs.Actuals as actuals
use Rattle.vital_associations.specs.Formals.{formal_named, shape_at}
use Rattle.vital_associations.specs.Items.{formal_name}
use Rattle.vital_associations.specs.Misfits.{drives, misfit_of_shapes}
use Rattle.vital_associations.specs.Overlaps.{overlap}

-- A port or a part of it, with what it is associated with.
pub record Association : Type 0 where
  pub port : ℕ
  pub part : Part
  pub actual : Actual

abbrev pub lent : Association' → Association
lent a = record { port = a.port; part = lent_part a.part; actual = actuals.lent a.actual }

abbrev pub lent_result : Result Association' Misfit → Result Association Misfit
lent_result (Ok a) = Ok (lent a)
lent_result (Err w) = Err w

-- The port map of an instance: the ports of its entity, the ports and signals of the unit that it stands in, and how many items come by
-- their positions before any other.
pub record PortMap : Type 0 where
  pub formals : List Iface
  pub signals : List UnitSignal
  pub leading : ℕ

abbrev pub port_map : PortMap' → PortMap
port_map m = record { formals = m.formals.now; signals = signals_of m.structure.now; leading = m.leading }

-- ---- the formal

abbrev pub port_at : PortMap → ℕ → Option (ℕ × Part)
port_at m n = if nat_lt n (length m.formals) then Some (n, Whole) else None

-- The formal of the item at a position: of those that come by their positions before any other the port there, and of the others the
-- one that a name before `=>` names.
abbrev pub formal_of : PortMap → ℕ → Item → Option (ℕ × Part)
formal_of m n i = if nat_lt n m.leading then port_at m n else option_and_then (formal_named m.formals) (formal_name i)

-- An association takes a bit of a part of a port.
abbrev pub takes : Shape → ℕ → Part → Association → Bool
takes s n p a = (a.port == n) && overlap s a.part p

abbrev pub is_taken : Shape → ℕ → Part → List Association → Bool
is_taken s n p earlier = list_any (takes s n p) earlier

-- ---- the actual

abbrev pub misfit_by_shape : PortMap → ℕ → Part → Actual → Option Misfit
misfit_by_shape m n p a = option_and_then (misfit_of_shapes (shape_of_part (shape_at m.formals n) p)) (shape_of m.signals a)

-- A port that drives must not be associated with what may only be read.
abbrev pub misfit_by_mode : PortMap → ℕ → Actual → Option Misfit
misfit_by_mode m n a = if drives (mode_at m.formals n) && is_read_only m.signals a then Some why.Mode else None

abbrev pub misfit_of : PortMap → ℕ → Part → Actual → Option Misfit
misfit_of m n p a = option_or (misfit_by_shape m n p a) (misfit_by_mode m n a)

abbrev pub unless : Option Misfit → Association → Result Association Misfit
unless None a = Ok a
unless (Some w) a = Err w

abbrev pub with_actual : PortMap → ℕ → Part → Option Actual → Result Association Misfit
with_actual m n p None = Err why.UnknownSignal
with_actual m n p (Some a) = unless (misfit_of m n p a) (record { port = n; part = p; actual = a })

-- ---- one item

abbrev pub with_formal : PortMap → List Association → Item → Option (ℕ × Part) → Result Association Misfit
with_formal m earlier i None = Err why.UnknownPort
with_formal m earlier i (Some f) =
    if is_taken (shape_at m.formals f.0) f.0 f.1 earlier then Err why.Twice else with_actual m f.0 f.1 (given m.signals i)

-- The association of an item behind earlier ones, or the first test that it fails: its formal, whether a bit of it was associated before,
-- its actual, and whether the two fit.
abbrev pub association_of : PortMap → List Association → Item → Result Association Misfit
association_of m earlier i = with_formal m earlier i (formal_of m (length earlier) i)
