use Rattle.std.proofs.Common.{◌++◌, ap, ◌∙◌}
use Rattle.std.proofs.lemmas.Result.{on_ok_weaker}
use Rattle.vital_level1.specs.Forms as spec
use Rattle.vital_level1.proofs.Stated.{stated}
use Rattle.vital_typed_statements.specs.Statements.{context}
use Rattle.std.specs.Prelude.{Some}
use Rattle.vital_level1.proofs.forms.put_truth_uses_of_process.Goals as goal

pub returns : goal.returns
returns c =
    on_ok_weaker c.put_truth_uses_at.result
    (λ put. put ∙ ap (λ vs. c.args.tables.now.items ++ spec.truth_uses (context c.args.names.now (Some c.args.process.now) c.args.faults.now) vs) (stated c.args.process.now c.args.nodes.now c.requires))
    c.put_truth_uses_at.ensures
