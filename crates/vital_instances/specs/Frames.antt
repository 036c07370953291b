-- Instances that are being entered, as a stack: each but the last is the parent of the next.
use Rattle.std.specs.Prelude.{ℕ, zero, suc, ◌+◌, ◌-◌, ◌*◌, Bool, ◌==◌, nat_lt, List, [], ◌∷◌, ◌++◌, length, drop, Option, Some, None, Result, Ok, if◌then◌else◌}
use Rattle.std.specs.List.{list_any, slice_get}
use Rattle.std.specs.Option.{option_map}
use Rattle.vital_nodes.specs.declared.unit.Units.{Units}
use Rattle.vital_instances.specs.declared.frame.Frame.{Frame}
use Rattle.vital_instances.specs.declared.instance.Instance.{Instance}
use Rattle.vital_instances.specs.Contents.{children_at}
use Rattle.vital_instances.specs.Faults.{Fault, Loop, TooDeep, TooManyInstances, followed}
use Rattle.vital_instances.specs.Instances.{Enter, Entry, enter, enter_from, entry_of, most_instances, most_labels}
use Rattle.vital_instances.specs.Judges.{Judge}

-- The next of the instances in it, and the same behind that.
abbrev pub next : List Units → Frame → Option Entry
next files f = option_map (entry_of f.instance f.next) (slice_get (children_at files f.entity) f.next)

abbrev pub behind : Frame → Frame
behind f = record f { next = f.next + 1 }

-- The rest of the instances in it are entered.
abbrev pub enter_rest : List Units → Enter → Frame → List Instance → Result (List Instance) Fault
enter_rest files enter f found = enter_from enter f.instance f.next (drop f.next (children_at files f.entity)) found

-- What comes of these instances, where so many more may stand on a path and these entities stand above: the rest of the instances in the
-- last one is entered, and so on back to the first.
abbrev pub resumed : Judge → List Units → ℕ → List ℕ → List Frame → List Instance → Result (List Instance) Fault
resumed judge files left above [] found = Ok found
resumed judge files zero above (f ∷ others) found = Ok found
resumed judge files (suc left) above (f ∷ others) found =
    followed (resumed judge files left (above ++ f.entity ∷ []) others found)
    (enter_rest files (enter judge files left (above ++ f.entity ∷ [])) f)

-- The same where an instance is entered before, in the last one.
abbrev pub entered : Judge → List Units → ℕ → List ℕ → List Frame → Enter
entered judge files left above [] e found = enter judge files left above e found
entered judge files zero above (f ∷ others) e found = Ok found
entered judge files (suc left) above (f ∷ others) e found =
    followed (entered judge files left (above ++ f.entity ∷ []) others e found)
    (enter_rest files (enter judge files left (above ++ f.entity ∷ [])) f)

-- The same from the top on.
abbrev pub resumed_all : Judge → List Units → List Frame → List Instance → Result (List Instance) Fault
resumed_all judge files fs found = resumed judge files (suc most_labels) [] fs found

abbrev pub entered_all : Judge → List Units → List Frame → Enter
entered_all judge files fs e found = entered judge files (suc most_labels) [] fs e found

-- ---- one instance

-- An entity is on the path.
abbrev pub is_on_path : List Frame → ℕ → Bool
is_on_path fs n = list_any (λ f. f.entity == n) fs

-- Why an instance may not be entered, by its path and by the instances that were found.
abbrev pub misplaced : List Frame → List Instance → Entry → Option Fault
misplaced fs found e =
    if is_on_path fs e.entity then Some (Loop e.name)
    else if nat_lt most_labels (length fs) then Some (TooDeep e.name)
    else if nat_lt (length found) most_instances then None
    else Some (TooManyInstances e.name)

-- None of the instances in an instance of this number is entered.
abbrev pub frame_of : ℕ → Entry → Frame
frame_of number e = record { entity = e.entity; instance = number; next = 0 }

-- At most so many instances are still found or left.
abbrev pub work : List Frame → List Instance → ℕ
work fs found = 2 * (most_instances - length found) + length fs
