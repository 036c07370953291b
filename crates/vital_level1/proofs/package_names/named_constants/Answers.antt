use Rattle.std.proofs.Common.{◌++◌, map, ap, ◌∙◌}
use Rattle.std.specs.List.{flat_map}
use Rattle.vital_names.specs.Sites.{Cell}
use Rattle.vital_nodes.specs.declared.stmt.Process.{Process}
use Rattle.vital_uses.specs.Asked.{asked, lent_asked}
use Rattle.vital_uses.specs.Nodes.{nodes_outside_processes}
use Rattle.vital_uses.specs.Statements.{processes}
use Rattle.vital_level1.specs.Packages.{named_in, named_in_process}
use Rattle.vital_level1.proofs.NamedLemmas.{named_in_processes}
use Rattle.vital_level1.proofs.package_names.named_constants.Goals as goal

pub returns : goal.returns
returns c =
    let cell = c.args.uses.now in
    c.in_ok-put_named_in_processes.ensures
    ∙ ap (λ ns. ns ++ flat_map (λ (u : Cell × Process). named_in_process u.0 u.1) c.processes.result.now) (
    c.in_ok-put_named.ensures
    ∙ ap (λ ns. ns ++ named_in (map lent_asked c.asked_outside.result.now)) c.new-named.ensures.items
    ∙ ap named_in c.asked_outside.ensures)
    ∙ ap (λ ns. named_in (asked cell (nodes_outside_processes cell)) ++ ns) (named_in_processes cell c.processes.result.now (processes cell.arch) c.processes.ensures)
