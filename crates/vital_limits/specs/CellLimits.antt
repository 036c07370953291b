-- The limits that a cell passes.
use Rattle.std.specs.Prelude.{List, [], ◌++◌, map, Option, Some, None}
use Rattle.std.specs.List.{flat_map, reduce}
use Rattle.std.specs.Option.{option_and_then, option_map_or}
use Rattle.vital_base.specs.declared.place.Place.{Place}
use Rattle.vital_limits.specs.declared.packages.ConstantLimits.{ConstantLimits}
use Rattle.vital_limits.specs.declared.passed.CellLimit.TheVariants.{Rows, Columns, Delay}
use Rattle.vital_limits.specs.declared.passed.PassedLimit.{PassedLimit}
use Rattle.vital_limits.specs.ConstantLimits.{constant_limits, constant_meant, limits_at}
use Rattle.vital_limits.specs.NodeLimits.{if_passed}
use Rattle.vital_limits.specs.TextLimits.{own_limits}
use Rattle.vital_limits.specs.Passed.{first_of}
use Rattle.vital_names.specs.Sites.{Cell}
use Rattle.vital_nodes.specs.declared.stmt.Process.{Process}
use Rattle.vital_uses.specs.Apart.{nodes_apart}
use Rattle.vital_uses.specs.Asked.{Asked, asked}
use Rattle.vital_uses.specs.Nodes.{nodes_of_process, nodes_outside_processes}
use Rattle.vital_uses.specs.Statements.{processes}

-- The limits of a constant, which stand at a name of it.
abbrev pub limits_at_name : Place → ConstantLimits → List PassedLimit
limits_at_name place l = if_passed l.rows Rows place ++ if_passed l.columns Columns place ++ if_passed l.delay Delay place

-- Those of the constant of a package that a name means, if it means one.
abbrev pub limits_of_asked : List ConstantLimits → Asked → List PassedLimit
limits_of_asked known a = option_map_or (λ n. limits_at_name a.identifier.place (limits_at known n)) (option_and_then constant_meant a.meaning) []

abbrev pub limits_of_all : List ConstantLimits → List Asked → List PassedLimit
limits_of_all known as' = flat_map (limits_of_asked known) as'

-- Those of a process of a cell, and of all its processes.
abbrev pub limits_of_process : List ConstantLimits → (Cell × Process) → List PassedLimit
limits_of_process known u = limits_of_all known (asked u.0 (nodes_of_process u.1))

abbrev pub limits_of_processes : List ConstantLimits → Cell → List PassedLimit
limits_of_processes known cell = flat_map (limits_of_process known) (map (λ p. (cell, p)) (processes cell.arch))

-- All limits that a cell passes: those of its text, and those of the constants of packages that it names, at each name, also in
-- attributes and components.
abbrev pub limits : Cell → List PassedLimit
limits cell =
    own_limits cell
    ++ limits_of_all (constant_limits cell.files) (asked cell (nodes_outside_processes cell))
    ++ limits_of_processes (constant_limits cell.files) cell
    ++ limits_of_all (constant_limits cell.files) (asked cell (nodes_apart cell))

-- The limit of a cell: the first that it passes by place, and then in the order of the limits.
abbrev pub cell_limit : Cell → Option PassedLimit
cell_limit cell = reduce first_of (limits cell)
