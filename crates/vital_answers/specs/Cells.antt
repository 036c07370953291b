-- The lines of `check`: one for each cell of a library.
use Rattle.std.specs.Prelude.{◌≡◌, Bool, true, false, List, [], ◌∷◌, ◌++◌, map, Option, Some, None, Ok, Err, if◌then◌else◌}
use Rattle.std.specs.List.{flat_map, list_any}
use Rattle.std.specs.Option.{option_map}
use Rattle.vital_base.specs.declared.breach.Breach.{Breach}
use Rattle.vital_level1.specs.Verdicts.{IsVerdict}
use Rattle.vital_level1.specs.declared.level.CellError.TheVariants as cell_error
use Rattle.vital_level1.specs.declared.level.CellLevel.{CellLevel}
use Rattle.vital_level1.specs.declared.level.CellLevel.TheVariants.{Level1, Level0, Neither}
use Rattle.vital_library.specs.Units.{entities, archs_of}
use Rattle.vital_limits.specs.declared.passed.CellLimit.{CellLimit}
use Rattle.vital_limits.specs.declared.passed.CellLimit.TheVariants as cell_limit
use Rattle.vital_limits.specs.declared.passed.PassedLimit.{PassedLimit}
use Rattle.vital_names.specs.Sites.{Cell}
use Rattle.vital_nodes.specs.declared.unit.Arch.{Arch}
use Rattle.vital_nodes.specs.declared.unit.Entity.{Entity}
use Rattle.vital_nodes.specs.declared.unit.Units.{Units}
use Rattle.vital_report.specs.Lines.{Said, cell_broken, cell_level1, refused_limit, text_of}
use Rattle.vital_report.specs.declared.why.Limit.{Limit as Limit'}
use Rattle.vital_report.specs.declared.why.Limit.TheVariants.{Ports, Rows, Columns, Paths, Delay}
use Rattle.vital_answers.specs.Answer.{Answer}
use Rattle.vital_answers.specs.Refusals.{spot_of}
use Rattle.vital_answers.specs.declared.status.Status.{Status}
use Rattle.vital_answers.specs.declared.status.Status.TheVariants.{Done, Found, Limit}
use Rattle.vital_words.specs.declared.job.NamedFile.{NamedFile}

-- ---- cells

-- The cell of an entity with an architecture.
abbrev pub cell_with : List Units → Entity → Arch → Cell
cell_with files entity arch = record { files = files; entity = entity; arch = Some arch }

-- The cells of an entity with these architectures: one for each, or one without, where there is none.
abbrev pub cells_with : List Units → Entity → List Arch → List Cell
cells_with files entity [] = record { files = files; entity = entity; arch = None } ∷ []
cells_with files entity (arch ∷ archs) = map (cell_with files entity) (arch ∷ archs)

abbrev pub cells_of : List Units → Entity → List Cell
cells_of files entity = cells_with files entity (archs_of entity.identifier.name files)

-- The cells of a library: its entities in order, and the architectures of each in order.
abbrev pub cells : List Units → List Cell
cells files = flat_map (cells_of files) (entities files)

-- ---- judging

-- What is found in cells, one after the other: the levels of those before the first that passes a limit, with that limit; or the
-- levels of all, where none does.
abbrev pub AreJudged : List Cell → List CellLevel → Option PassedLimit → Type 0
AreJudged [] [] None = Unit {0}
AreJudged [] [] (Some passed) = ⊥
AreJudged [] (found ∷ levels) limit = ⊥
AreJudged (cell ∷ cells) [] None = ⊥
AreJudged (cell ∷ cells) [] (Some passed) = IsVerdict cell (Err (cell_error.Limit passed))
AreJudged (cell ∷ cells) (found ∷ levels) limit = IsVerdict cell (Ok found) × AreJudged cells levels limit

-- ---- lines

abbrev pub broken_line : List NamedFile → Cell → Breach → Said
broken_line files cell breach =
    cell_broken cell.entity.identifier.name (option_map (λ arch. arch.identifier.name) cell.arch) breach.clause (spot_of files breach.place)

-- The line of a cell with this level: the level, or the first breach with the name of its file.
abbrev pub level_line : List NamedFile → Cell → CellLevel → Said
level_line files cell Level1 = cell_level1 cell.entity.identifier.name (option_map (λ arch. arch.identifier.name) cell.arch)
level_line files cell (Level0 breach) = broken_line files cell breach
level_line files cell (Neither breach) = broken_line files cell breach

-- The lines of the first of some cells, which have these levels.
abbrev pub level_lines : List NamedFile → List Cell → List CellLevel → List Said
level_lines files [] levels = []
level_lines files (cell ∷ cells) [] = []
level_lines files (cell ∷ cells) (found ∷ levels) = level_line files cell found ∷ level_lines files cells levels

-- A limit of a cell, as it is printed.
abbrev pub printed_limit : CellLimit → Limit'
printed_limit cell_limit.Ports = Ports
printed_limit cell_limit.Rows = Rows
printed_limit cell_limit.Columns = Columns
printed_limit cell_limit.Paths = Paths
printed_limit cell_limit.Delay = Delay

abbrev pub limit_line : List NamedFile → PassedLimit → Said
limit_line files passed = refused_limit (printed_limit passed.limit) (spot_of files passed.place)

-- A limit that a cell passes is refused, and nothing is said of the cells after it.
abbrev pub limit_lines : List NamedFile → Option PassedLimit → List Said
limit_lines files None = []
limit_lines files (Some passed) = limit_line files passed ∷ []

-- ---- the answer

abbrev pub is_below_level1 : CellLevel → Bool
is_below_level1 Level1 = false
is_below_level1 (Level0 breach) = true
is_below_level1 (Neither breach) = true

-- A limit was passed; or else a cell is not of Level 1, or all are.
abbrev pub status_of : List CellLevel → Option PassedLimit → Status
status_of levels (Some passed) = Limit
status_of levels None = if list_any is_below_level1 levels then Found else Done

abbrev pub cells_answer : List NamedFile → List Cell → List CellLevel → Option PassedLimit → Answer
cells_answer files cells levels limit =
    record { bytes = text_of (level_lines files cells levels) ++ text_of (limit_lines files limit); status = status_of levels limit }

-- What `check` answers to a library.
abbrev pub IsCellsAnswer : List NamedFile → List Units → Answer → Type 0
IsCellsAnswer files library answer =
    (levels : List CellLevel) × (limit : Option PassedLimit) × AreJudged (cells library) levels limit × (answer ≡ cells_answer files (cells library) levels limit)
