-- The typed tree of a cell.
use Rattle.std.specs.Prelude.{List, [], Option, None}
use Rattle.vital_base.specs.declared.place.Place.{Place}
use Rattle.vital_names.specs.Sites.{Cell}
use Rattle.vital_typed_cells.specs.declared.typed_cell.TypedCell.{TypedCell}
use Rattle.vital_objects.specs.Constants.{constants}
use Rattle.vital_objects.specs.Controls.{controls}
use Rattle.vital_objects.specs.Generics.{plain_generics, timing_generics}
use Rattle.vital_objects.specs.declared.package_value.PackageValue.{PackageValue}
use Rattle.vital_objects.specs.Ports.{ports}
use Rattle.vital_typed_cells.specs.Packages.{sound_values}
use Rattle.vital_typed_cells.specs.Processes.{processes, processes_before_wires}
use Rattle.vital_objects.specs.Signals.{declarations, signals}
use Rattle.vital_typed_cells.specs.Wires.{wires}

-- What a cell declares and states, each part as a tree of its form and type, where there are these faults and constants of packages are
-- worth these values.
unfoldable pub typed_with : Cell → List Place → List (Option PackageValue) → TypedCell
typed_with cell faults known = record {
  ports = ports cell faults;
  generics = timing_generics cell faults known;
  plain_generics = plain_generics cell faults known;
  controls = controls cell faults;
  signals = signals cell;
  constants = constants cell faults None (declarations cell.arch);
  packages = known;
  wires = wires cell;
  processes_before_wires = processes_before_wires cell;
  processes = processes cell faults;
}

-- The typed tree of a cell in which no name breaks a clause: there are no faults, and constants of packages that break a clause or pass a
-- limit are worth nothing.
unfoldable pub typed : Cell → TypedCell
typed cell = typed_with cell [] (sound_values cell.files)
