-- Literals that formals ask for.
use Rattle.std.specs.Prelude.{ℕ, nat_le, List, Option, Some, None, if◌then◌else◌}
use Rattle.std.specs.Option.{option_and_then}
use Rattle.vital_declarations.specs.Constants.{character}
use Rattle.vital_declarations.specs.Numbers.{number}
use Rattle.vital_names.specs.declared.predeclared.Predeclared.{Predeclared}
use Rattle.vital_names.specs.declared.predeclared.Predeclared.TheVariants as word
use Rattle.vital_names.specs.declared.predeclared.Severity.{Severity}
use Rattle.vital_nodes.specs.declared.expr.Expr.{Expr}
use Rattle.vital_nodes.specs.declared.identifier.Identifier.{Identifier}
use Rattle.vital_operands.specs.Positions.{Position, Standing, Operand, Constant, Word, Nothing, standing}
use Rattle.vital_timing.specs.declared.glitch_mode.GlitchMode.{GlitchMode}
use Rattle.vital_tables.specs.Symbols.{edge_symbols, is_among}
use Rattle.vital_nodes.specs.Bounds.{literal_integer}

-- A number of states: no table has more than 256, since no vector has more elements.
abbrev pub small_number : List ℕ → Option ℕ
small_number literal = if nat_le (number literal) 256 then Some (number literal) else None

abbrev pub state_count : Expr → Option ℕ
state_count e = option_and_then small_number (literal_integer e)

-- A character literal that stands for a set of changes between X, 0 and 1 (IEEE 1076.4, VitalEdgeSymbolType).
abbrev pub if_edge : ℕ → Option ℕ
if_edge byte = if is_among edge_symbols byte then Some byte else None

abbrev pub edge_symbol : Expr → Option ℕ
edge_symbol e = option_and_then if_edge (character e)

abbrev pub word_in : Standing → Option Predeclared
word_in (Operand k) = None
word_in (Constant n o) = None
word_in (Word w) = Some w
word_in Nothing = None

abbrev pub mode_of_word : Predeclared → Option GlitchMode
mode_of_word (word.GlitchMode m) = Some m
mode_of_word other = None

abbrev pub severity_of_word : Predeclared → Option Severity
severity_of_word (word.Severity s) = Some s
severity_of_word other = None

-- The mode and the severity that an identifier means.
abbrev pub mode_named : Position → Identifier → Option GlitchMode
mode_named p i = option_and_then mode_of_word (word_in (standing p i))

abbrev pub severity_named : Position → Identifier → Option Severity
severity_named p i = option_and_then severity_of_word (word_in (standing p i))
