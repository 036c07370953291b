use Rattle.std.proofs.Common.{inl, inr, subst, sym, ◌∙◌}
use Rattle.std.specs.Prelude.{Ok}
use Rattle.std.specs.Option.{option_copied}
use Rattle.vital_level1.specs.declared.level.CellLevel.TheVariants.{Level0, Level1, Neither}
use Rattle.vital_names.specs.Sites.{Cell}
use Rattle.vital_typed_cells.specs.Sound.{IsSound}
use Rattle.vital_typed_cells.proofs.VerdictLemmas.{same-verdict}
use Rattle.vital_typed_cells.proofs.check.check_cell.Goals as goal

-- what is read of a cell of Level 1 is sound
pub new-requires : goal.new-requires
new-requires c =
    let cell : Cell = record { files = c.args.packages.now; entity = c.args.entity.now; arch = option_copied c.args.arch } in
    subst IsSound (sym c.in-Ok.ensures)
    (c.typed_is_sound.ensures cell (c.cells_are_as_read.ensures cell c.requires.read c.requires.cell)
    (same-verdict c.packages.result.now c.args.packages.now c.args.entity.now (option_copied c.args.arch) c.verdict.result (Ok Level1) c.packages.ensures (cc) c.verdict.ensures))

pub returns-in-Ok : goal.returns-in-Ok
returns-in-Ok c = (
  same-verdict c.packages.result.now c.args.packages.now c.args.entity.now (option_copied c.args.arch) c.verdict.result (Ok Level1) c.packages.ensures (cc) c.verdict.ensures,
  c.new.ensures ∙ c.in-Ok.ensures,
)

pub returns-in-Ok-Level0 : goal.returns-in-Ok-Level0
returns-in-Ok-Level0 c =
    inl (same-verdict c.packages.result.now c.args.packages.now c.args.entity.now (option_copied c.args.arch) c.verdict.result (Ok (Level0 c.in-Ok-Level0.breach)) c.packages.ensures (cc) c.verdict.ensures)

pub returns-in-Ok-Neither : goal.returns-in-Ok-Neither
returns-in-Ok-Neither c =
    inr (same-verdict c.packages.result.now c.args.packages.now c.args.entity.now (option_copied c.args.arch) c.verdict.result (Ok (Neither c.in-Ok-Neither.breach)) c.packages.ensures (cc) c.verdict.ensures)
