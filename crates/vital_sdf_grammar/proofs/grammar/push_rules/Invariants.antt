use Rattle.std.proofs.Common.{◌≡◌, ◌++◌, take}
use Rattle.vital_sdf_grammar.specs.Rows.{rules_in}
use Rattle.vital_sdf_grammar.proofs.grammar.push_rules.Given as goal

abbrev pub invariant-loop-row : goal.invariant-loop-row
invariant-loop-row l = l.rules.items ≡ l.fn.rules.items ++ rules_in (take l.row-index l.rows)
