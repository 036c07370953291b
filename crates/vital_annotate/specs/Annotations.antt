-- The delays of a design's instances of cells with the entries of SDF files, and what is said of entries.
use Rattle.std.specs.Prelude.{ℕ, if◌then◌else◌, List, [], ◌∷◌, ◌++◌, map, slice_get, slice_set, slice_index_or, Option, Some, None, Result, Ok, Err}
use Rattle.std.specs.Option.{option_map_or}
use Rattle.vital_annotate.specs.Delays.{Changed, changed}
use Rattle.vital_annotate.specs.Generics.{generic_of}
use Rattle.vital_annotate.specs.Instances.{CellInstance, cell_instances, meant}
use Rattle.vital_annotate.specs.Names.{Change, changes}
use Rattle.vital_annotate.specs.declared.how.How.{How}
use Rattle.vital_annotate.specs.declared.note.Note.{Note}
use Rattle.vital_annotate.specs.declared.note.NoteWhy.{NoteWhy}
use Rattle.vital_annotate.specs.declared.note.NoteWhy.TheVariants as why
use Rattle.vital_base.specs.declared.corner.Corner.{Corner}
use Rattle.vital_base.specs.declared.place.Place.{Place}
use Rattle.vital_netlist.specs.Designs.{Design}
use Rattle.vital_objects.specs.declared.generic.TimingGeneric.{TimingGeneric}
use Rattle.vital_sdf.specs.declared.entry.EntryKind.{EntryKind}
use Rattle.vital_sdf.specs.declared.entry.EntryKind.TheVariants as entry
use Rattle.vital_sdf.specs.declared.entry.Port.{Port}
use Rattle.vital_sdf.specs.declared.entry.TimingKind.{TimingKind}
use Rattle.vital_sdf.specs.declared.entry.TimingKind.TheVariants as timing
use Rattle.vital_sdf.specs.declared.entry.Triple.{Triple}
use Rattle.vital_sdf.specs.declared.group.Group.{Group}
use Rattle.vital_sdf.specs.declared.group.SdfFile.{SdfFile}
use Rattle.vital_timing.specs.declared.delay.Delay.{Delay}
use Rattle.vital_timing.specs.declared.delay.Delay.TheVariants as delay
use Rattle.vital_typed_cells.specs.Answers.{default_values}

-- What entries make: for each instance of a cell the delays of its timing generics, and the notes so far.
pub record Annotated : Type 0 where
  pub values : List (List Delay)
  pub notes : List Note

-- What entries make, or the place of an entry with a result above 2^50 fs.
abbrev pub Outcome : Type 0
Outcome = Result Annotated Place

abbrev pub onward : Outcome → (Annotated → Outcome) → Outcome
onward (Ok a) f = f a
onward (Err place) f = Err place

-- One after the other, up to the first that is refused.
abbrev pub each : {A : Type 0} → (A → Annotated → Outcome) → List A → Annotated → Outcome
each step [] a = Ok a
each step (x ∷ xs) a = onward (step x a) (each step xs)

abbrev pub noted : Place → NoteWhy → Annotated → Annotated
noted place w a = record a { notes = a.notes ++ record { place = place; why = w } ∷ [] }

-- ---- one generic of an instance

abbrev pub delay_at : List (List Delay) → ℕ → ℕ → Delay
delay_at values instance number = slice_index_or (slice_index_or values instance []) number (delay.One 0)

abbrev pub with_delay : ℕ → ℕ → Delay → List (List Delay) → List (List Delay)
with_delay instance number d values = slice_set values instance (slice_set (slice_index_or values instance []) number d)

abbrev pub put_delay : ℕ → ℕ → Delay → Annotated → Annotated
put_delay instance number d a = record a { values = with_delay instance number d a.values }

abbrev pub with_changed : How → ℕ → ℕ → Changed → Annotated → Outcome
with_changed how instance number c a =
    if c.is_large then Err how.place
    else (if c.is_negative then Ok (noted how.place why.Negative (put_delay instance number c.delay a)) else Ok (put_delay instance number c.delay a))

abbrev pub change_generic : How → List Triple → ℕ → Option ℕ → Annotated → Outcome
change_generic how values instance None a = Ok (noted how.place why.Generic a)
change_generic how values instance (Some number) a = with_changed how instance number (changed how.corner how.mode values (delay_at a.values instance number)) a

-- ---- an entry

abbrev pub generics_at : List CellInstance → ℕ → List TimingGeneric
generics_at is instance = option_map_or (λ i. i.cell.generics) (slice_get is instance) []

abbrev pub change_instance : List CellInstance → How → Change → ℕ → Annotated → Outcome
change_instance is how change instance a = change_generic how change.values instance (generic_of (generics_at is instance) change.names) a

-- Of each generic of an entry, each instance in order.
abbrev pub change_instances : List CellInstance → How → List ℕ → Change → Annotated → Outcome
change_instances is how numbers change = each (change_instance is how change) numbers

abbrev pub timed : List CellInstance → How → List Change → List ℕ → Annotated → Outcome
timed is how changes [] a = Ok (noted how.place why.Instance a)
timed is how changes (n ∷ ns) a = each (change_instances is how (n ∷ ns)) changes a

-- The labels before an interconnection's port go on from the instance of the group.
abbrev pub labels_of : TimingKind → Port → List (List ℕ)
labels_of timing.Port port = port.labels
labels_of other port = []

abbrev pub entered : List CellInstance → Corner → Group → Place → EntryKind → Annotated → Outcome
entered is c group place entry.Passed a = Ok (noted place why.Passed a)
entered is c group place entry.NoPort a = Ok (noted place why.Port a)
entered is c group place (entry.Timing t) a =
    timed is (record { corner = c; place = place; mode = t.mode }) (changes t) (meant is group.cell_type group.instance (labels_of t.kind t.first)) a

-- ---- files

abbrev pub group_entered : List CellInstance → Corner → Group → Annotated → Outcome
group_entered is c group = each (λ e. entered is c group e.place e.kind) group.entries

abbrev pub file_entered : List CellInstance → Corner → SdfFile → Annotated → Outcome
file_entered is c file = each (group_entered is c) file.groups

-- From the defaults on, the entries of each file in order.
abbrev pub annotated_instances : List CellInstance → Corner → List SdfFile → Outcome
annotated_instances is c files = each (file_entered is c) files (record { values = map (λ i. default_values i.cell) is; notes = [] })

unfoldable pub annotated : Design → Corner → List SdfFile → Outcome
annotated d c files = annotated_instances (cell_instances d) c files
