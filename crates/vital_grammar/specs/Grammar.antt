-- The grammar of VHDL files (after IEEE 1076-1993), rule by rule as it is printed: `{ x }` and `[ x ]` are rules with an empty
-- alternative, and each alternative is decided by the next token.
use Rattle.std.specs.Prelude.{◌++◌}
use Rattle.vital_ll.specs.Grammar.{Grammar}
use Rattle.vital_grammar.specs.UnitRules.{unit_rules}
use Rattle.vital_grammar.specs.DeclarationRules.{declaration_rules}
use Rattle.vital_grammar.specs.StatementRules.{statement_rules}
use Rattle.vital_grammar.specs.ExpressionRules.{expression_rules}

abbrev pub grammar : Grammar
grammar = unit_rules ++ declaration_rules ++ statement_rules ++ expression_rules
