-- How tokens nest: parentheses, `if` and `block`.
use Rattle.std.specs.Prelude.{ℕ, ◌+◌, ◌-◌, Option, Some}
use Rattle.vital_vhdl_lexemes.specs.declared.kinds.Kind.{Kind}
use Rattle.vital_vhdl_lexemes.specs.declared.kinds.Kind.TheVariants as kind

-- `if` and `block` open, and directly after `end` they close.
abbrev pub nesting_at_word : Option Kind → ℕ → ℕ
nesting_at_word (Some kind.End) depth = depth - 1
nesting_at_word _ depth = depth + 1

-- The nesting after a lexeme of this kind, where it was `depth` before and `before` is the kind of the lexeme before. It
-- does not fall below 0.
abbrev pub nesting_after : Option Kind → ℕ → Kind → ℕ
nesting_after before depth kind.LeftParenthesis = depth + 1
nesting_after before depth kind.RightParenthesis = depth - 1
nesting_after before depth kind.If = nesting_at_word before depth
nesting_after before depth kind.Block = nesting_at_word before depth
nesting_after before depth _ = depth
