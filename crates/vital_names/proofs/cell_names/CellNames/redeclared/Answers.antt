use Rattle.std.proofs.Common.{[], ◌∷◌, ◌++◌, sym, ◌∙◌, ap, arith}
use Rattle.std.specs.Option.{option_copied}
use Rattle.vital_names.specs.Declarations.{lent}
use Rattle.vital_names.specs.Redeclared.{is_redeclared, place_of, redeclared}
use Rattle.vital_nodes.proofs.Lists.{map_filter-seen}
use Rattle.vital_names.proofs.cell_names.CellNames.redeclared.Goals as goal

pub loop-one-preserved : goal.loop-one-preserved
loop-one-preserved c =
    let process = option_copied c.args.process in
    c.in_ok-put_redeclared.ensures
    ∙ ap (λ ps. ps ++ redeclared c.args.self.now c.args.unit process (lent c.one-item.result ∷ [])) c.loop-one.invariant
    ∙ sym (map_filter-seen lent (is_redeclared c.args.self.now c.args.unit process) place_of c.args.declared.now c.loop-one.one-index c.one-item.result (omega arith) c.one-item.is)
