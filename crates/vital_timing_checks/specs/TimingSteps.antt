-- What checks of a test signal against a reference signal share: setup and recovery are tested at a reference edge, hold and removal
-- at a test event after it (IEEE 1076.4, package VITAL_Timing).
use Rattle.std.specs.Prelude.{ℕ, Bool, true, false, ◌&&◌, ◌≤◌, Option, Some, None, if◌then◌else◌}
use Rattle.std.specs.Option.{IfSome, option_and_then, option_map, option_or}
use Rattle.vital_edges.specs.declared.edge_set.EdgeSet.{EdgeSet}
use Rattle.vital_edges.specs.Edges.{holds}
use Rattle.vital_logic.specs.declared.level.Level.{Level}
use Rattle.vital_timing_checks.specs.declared.timing_data.EventTests.{EventTests}
use Rattle.vital_timing_checks.specs.declared.timing_data.ReferenceEdge.{ReferenceEdge}
use Rattle.vital_timing_checks.specs.declared.timing_data.SignalLevels.{SignalLevels}
use Rattle.vital_timing_checks.specs.declared.timing_data.TimingData.{TimingData}
use Rattle.vital_timing_checks.specs.declared.violated.LimitTest.{LimitTest}
use Rattle.vital_timing_checks.specs.declared.violated.Violated.{Violated}
use Rattle.vital_timing_checks.specs.Levels.{differ, x01, x01z}
use Rattle.vital_timing_checks.specs.Violations.{violated_since}

-- Before the first call nothing is stored, nothing is open and no time is known.
abbrev pub unused : TimingData
unused = record { levels = None; test_time = None; edge = None }

-- No kept time is above now.
abbrev pub NoneAbove : ℕ → TimingData → Type 0
NoneAbove now kept = IfSome kept.test_time (λ time. time ≤ now) × IfSome kept.edge (λ edge. edge.time ≤ now)

-- The levels that a call stores: To_X01Z of the test signal and To_X01 of the reference signal.
abbrev pub stored : Level → Level → SignalLevels
stored test reference = record { test = x01z test; reference = x01 reference }

-- A test event: what is stored of the test signal changes. The first call has none, as nothing is stored before it.
abbrev pub is_test_event : Option SignalLevels → Level → Bool
is_test_event None test = false
is_test_event (Some old) test = differ old.test (x01z test)

-- A reference edge: the change of what is stored of the reference signal is in the edge set. The first call has none.
abbrev pub is_reference_edge : Option SignalLevels → Level → EdgeSet → Bool
is_reference_edge None reference edges = false
is_reference_edge (Some old) reference edges = holds edges old.reference (x01 reference)

-- Step 1: the levels are stored, a test event sets TestTime to now, and a reference edge sets RefTime to now and opens hold.
abbrev pub noted : TimingData → ℕ → SignalLevels → Bool → Bool → TimingData
noted kept now levels event edge =
    record {
      levels = Some levels;
      test_time = if event then Some now else kept.test_time;
      edge = if edge then Some (record { time = now; is_open = true }) else kept.edge;
    }

-- Steps 2 and 3: where it is due, a test by the time since an earlier one.
abbrev pub found : Bool → Option LimitTest → Option ℕ → ℕ → Option Violated
found is_due test since now =
    if is_due then option_and_then (λ test. violated_since test since now) test else None

-- RefTime, where hold is open.
abbrev pub open_since : Option ReferenceEdge → Option ℕ
open_since edge = option_and_then (λ edge. if edge.is_open then Some edge.time else None) edge

-- Step 4: a test event closes hold.
abbrev pub closed_edge : ReferenceEdge → ReferenceEdge
closed_edge edge = record { time = edge.time; is_open = false }

abbrev pub closed : TimingData → Bool → TimingData
closed kept event = if event then record kept { edge = option_map closed_edge kept.edge } else kept

-- One call of a check: what is kept after it, and the violation that it finds. Where it is enabled, a reference edge has the one
-- test, by the time since TestTime; and a test event, if that found nothing and hold is open, has the other, by the time since RefTime.
abbrev pub timing_step : TimingData → ℕ → Level → Level → EdgeSet → EventTests → Bool → TimingData × Option Violated
timing_step kept now test reference edges tests enabled =
    let event = is_test_event kept.levels test in
    let edge = is_reference_edge kept.levels reference edges in
    let next = noted kept now (stored test reference) event edge in (
      closed next event,
      option_or
          (found (enabled && edge) tests.on_reference next.test_time now)
          (found (enabled && event) tests.on_test (open_since next.edge) now),
    )
