-- The grammar of SDF files (after IEEE 1497), rule by rule as it is printed: `{ x }` and `[ x ]` are rules with an empty
-- alternative, and each alternative is decided by the next token.
use Rattle.std.specs.Prelude.{◌++◌}
use Rattle.vital_ll.specs.Grammar.{Grammar}
use Rattle.vital_sdf_grammar.specs.FileRules.{file_rules}
use Rattle.vital_sdf_grammar.specs.DelayRules.{delay_rules}
use Rattle.vital_sdf_grammar.specs.CheckRules.{check_rules}

abbrev pub grammar : Grammar
grammar = file_rules ++ delay_rules ++ check_rules
