use Rattle.std.proofs.Common.{◌∙◌, rules, tests}
use Rattle.std.specs.Prelude.{not}
use Rattle.std.proofs.lemmas.Iterator.{YieldsList-from_slice}
use Rattle.std.proofs.lemmas.Iterator.Consumers.{YieldsList-at, YieldsList-from_filter, count_from_yields_List}
use Rattle.std.proofs.lemmas.Iterator.Search.{YieldsList-from_take_while}
use Rattle.std.proofs.lemmas.List.Sums.{length-filter}
use Rattle.vital_statements.specs.Statements.{is_block}
use Rattle.vital_typed_cells.specs.Processes.{before_block, is_process}
use Rattle.vital_typed_cells.proofs.process.count_before_block.Goals as goal

pub returns : goal.returns
returns c =
    count_from_yields_List c.filter.result _ c.count.ensures.ran
    (YieldsList-from_filter _ is_process
    (YieldsList-at c.filter.ensures.source
    (YieldsList-from_take_while _ (λ conc. not (is_block conc)) (YieldsList-from_slice c.args.statements.now (cc)) c.take_while.ensures.closure c.take_while.ensures.done (λ x b q k. search (rules, tests))))
    c.filter.ensures.closure (λ x b q k. search (rules, tests)))
    ∙ length-filter is_process (before_block c.args.statements.now)
