use Rattle.std.proofs.Common.{subst, sym}
use Rattle.std.proofs.lemmas.List.Elements.{All-push}
use Rattle.std.specs.Prelude.{All}
use Rattle.vital_as_read.specs.Libraries.{IsFromText}
use Rattle.vital_design_rows.proofs.library.read_files.Goals as goal
use Rattle.vital_design_rows.proofs.library.read_files.Goals.{in-Some+in_ok-units+in_ok-push, in_default}

pub loop-word-preserved : goal.loop-word-preserved
loop-word-preserved c =
    elim c.match-file_of.branch [
      | in-Some+in_ok-units+in_ok-push w ↦
          rw (w.read-is, w.in_ok-push.ensures.items)
          (All-push IsFromText c.loop-word.read.items w.in_ok-units.units c.loop-word.invariant w.in_ok-units.ensures)
      | in_default w ↦ rw w.read-is c.loop-word.invariant
    ]

pub returns : goal.returns
returns c = subst (All IsFromText) (sym c.new.ensures) c.loop-word.invariant
