-- The instance at a place, and its program.
use Rattle.std.proofs.Common.{◌≡◌, ◌<◌, ℕ, List, length, map, get_or, refl, sym, ◌∙◌, ap, subst}
use Rattle.std.specs.Prelude.{slice_get, Some}
use Rattle.std.specs.Option.{option_map}
use Rattle.std.proofs.lemmas.List.{length-map}
use Rattle.std.proofs.lemmas.Option.{same_Some, slice_get-map, slice_get_read, slice_get_within}
use Rattle.vital_cell.specs.Programs.{StandsFor}
use Rattle.vital_cell.specs.Execution.{all_executed}
use Rattle.vital_kernel.specs.Networks.{NetCell, NetProcess, lent_cell}
use Rattle.vital_kernel.specs.declared.network.NetCell.{NetCell as NetCell'}
use Rattle.vital_kernel.proofs.ListLemmas.{some-and, some-within, zipped-at}
use Rattle.vital_kernel.proofs.ProcessRunLemmas.{processes-long, runs-at}
use Rattle.vital_kernel.specs.declared.instances.Instance.{Instance}
use Rattle.vital_kernel.specs.declared.instances.Instances.{Instances}
use Rattle.vital_kernel.specs.declared.places.Place.{Place}
use Rattle.vital_kernel.specs.Instances.{AreInstances, FitsFrom, Runs}
use Rattle.vital_kernel.specs.Places.{IsPlace, IsThere, place_of}
use Rattle.vital_kernel.specs.Programs.{ProgramState}

-- ---- its cell

cell-of : (cells : List NetCell') (place : Place) (p : NetProcess) → IsThere (map lent_cell cells) p → place ≡ place_of p → slice_get (map lent_cell cells) place.instance ≡ Some p.cell
cell-of cells place p there is = ap (λ q. slice_get (map lent_cell cells) q.instance) is ∙ there.cell

cell-within : (cells : List NetCell') (place : Place) → IsPlace (map lent_cell cells) place → place.instance < length cells
cell-within cells place h =
    let within : place.instance < length (map lent_cell cells) = slice_get_within (map lent_cell cells) place.instance h.0.cell (cell-of cells place h.0 h.1 h.2) in
    subst (λ n. place.instance < n) (length-map cells lent_cell) within

pub cell-at : (cells : List NetCell') (place : Place) (cell : NetCell') → IsPlace (map lent_cell cells) place → cell ≡ get_or cells place.instance cell → slice_get (map lent_cell cells) place.instance ≡ Some (lent_cell cell)
cell-at cells place cell h is =
    slice_get-map lent_cell cells place.instance
    ∙ ap (λ o. option_map lent_cell o) (slice_get_read cells (length cells) place.instance cell refl (cell-within cells place h) is)

-- ---- the instance

pub instance-within : (cells : List NetCell') (place : Place) (s : Instances) → AreInstances (map lent_cell cells) s → IsPlace (map lent_cell cells) place → place.instance < length s.instances.items
instance-within cells place s are h =
    let found = zipped-at (Runs s.latest s.programs.items) (map lent_cell cells) s.instances.items place.instance h.0.cell are (cell-of cells place h.0 h.1 h.2) in
    slice_get_within s.instances.items place.instance found.0 found.1

pub record Found (s : Instances) (cells : List NetCell) (place : Place) (cell : NetCell) (instance : Instance) : Type 0 where
  pub cell_there : slice_get cells place.instance ≡ Some cell
  pub there : slice_get s.instances.items place.instance ≡ Some instance
  pub runs : Runs s.latest s.programs.items cell instance
  pub numbered : place.number < length (all_executed cell.tree)

pub found : (s : Instances) (cells : List NetCell') (place : Place) (cell : NetCell') (instance : Instance) → AreInstances (map lent_cell cells) s → IsPlace (map lent_cell cells) place → cell ≡ get_or cells place.instance cell → instance ≡ get_or s.instances.items place.instance instance → Found s (map lent_cell cells) place (lent_cell cell) instance
found s cells place cell instance are h is-cell is =
    let all = map lent_cell cells in
    let at-cell = cell-at cells place cell h is-cell in
    let at = slice_get_read s.instances.items (length s.instances.items) place.instance instance refl (instance-within cells place s are h) is in
    let same : h.0.cell ≡ lent_cell cell = same_Some h.0.cell (lent_cell cell) (sym (cell-of cells place h.0 h.1 h.2) ∙ at-cell) in
    record {
      cell_there = at-cell;
      there = at;
      runs = runs-at s.latest s.programs.items all s.instances.items place.instance (lent_cell cell) instance are at-cell at;
      numbered =
          subst (λ c. place.number < length (all_executed c.tree)) same
          (subst (λ q. q.number < length (all_executed h.0.cell.tree)) (sym h.2) (slice_get_within (all_executed h.0.cell.tree) h.0.number h.0.executed h.1.executed));
    }

-- ---- its program

pub program-within : (s : Instances) (cells : List NetCell) (place : Place) (cell : NetCell) (instance : Instance) → Found s cells place cell instance → instance.program < length s.programs.items
program-within s cells place cell instance f =
    some-within (λ p. StandsFor p.program cell.tree cell.delays) s.programs.items instance.program f.runs.stands

pub record Stood (s : Instances) (cell : NetCell) (number : ℕ) (instance : Instance) (program : ProgramState) : Type 0 where
  pub there : slice_get s.programs.items instance.program ≡ Some program
  pub stands : StandsFor program.program cell.tree cell.delays
  pub fits : FitsFrom s.latest instance.store program.program
  pub numbered : number < length program.program.processes

pub stood : (s : Instances) (cells : List NetCell) (place : Place) (cell : NetCell) (instance : Instance) (program : ProgramState) → Found s cells place cell instance → program ≡ get_or s.programs.items instance.program program → Stood s cell place.number instance program
stood s cells place cell instance program f is =
    let at = slice_get_read s.programs.items (length s.programs.items) instance.program program refl (program-within s cells place cell instance f) is in
    let stands = some-and (λ p. StandsFor p.program cell.tree cell.delays) (slice_get s.programs.items instance.program) program at f.runs.stands in
    record {
      there = at;
      stands = stands;
      fits = some-and (λ p. FitsFrom s.latest instance.store p.program) (slice_get s.programs.items instance.program) program at f.runs.fits;
      numbered = subst (λ n. place.number < n) (sym (processes-long cell program.program stands)) f.numbered;
    }
