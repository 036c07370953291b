use Rattle.std.proofs.Common.{◌≡◌, take}
use Rattle.vital_sdf_grammar.specs.Rows.{alternatives_in}
use Rattle.vital_sdf_grammar.proofs.grammar.rule_of.Given as goal

abbrev pub invariant-loop-symbols : goal.invariant-loop-symbols
invariant-loop-symbols l = l.all.items ≡ alternatives_in (take l.symbols-index l.alternatives)
