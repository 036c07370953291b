use Rattle.std.proofs.Common.{◌≡◌, ◌≤◌, length, All}
use Rattle.std.specs.Prelude.{IfSome}
use Rattle.vital_answers.specs.Loading.{Opens}
use Rattle.vital_answers.proofs.Loaded.{IsLoaded}
use Rattle.vital_answers.proofs.loading.load_files.Given as goal

abbrev pub invariant-loop-file : goal.invariant-loop-file
invariant-loop-file g l = record {
  loaded : IfSome (g.S.Shelf.files l.fn.shelf) (λ told. IsLoaded told l.files l.file-index l.sources.items);
  files_stay : g.S.Shelf.files l.shelf ≡ g.S.Shelf.files l.fn.shelf;
  steady_stays : g.S.Shelf.is_steady l.fn.shelf → g.S.Shelf.is_steady l.shelf;
  count_stays : g.S.Shelf.faults l.shelf ≡ g.S.Shelf.faults l.fn.shelf;
  within : All (λ source. length source.text ≤ 16_777_216) l.sources.items;
  count : length l.sources.items ≡ l.file-index;
  opens : Opens l.files l.file-index (g.S.Shelf.history l.fn.shelf) (g.S.Shelf.history l.shelf);
}
