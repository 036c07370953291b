use Rattle.std.proofs.Common.{◌≡◌, take}
use Rattle.std.specs.List.{list_any}
use Rattle.vital_statements.specs.Clauses.{places_5_at}
use Rattle.vital_statements.specs.Lists.{each}
use Rattle.vital_statements.specs.Statements.{is_block}
use Rattle.vital_statements.proofs.statement_list.clause_5.Given as goal

abbrev pub invariant-loop-conc : goal.invariant-loop-conc
invariant-loop-conc l = record {
  places : l.places.items ≡ each places_5_at (take l.conc-index l.conc-items);
  block : l.has_block ≡ list_any is_block (take l.conc-index l.conc-items);
}
