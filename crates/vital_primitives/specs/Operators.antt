-- Logical operators and conversions of levels (IEEE 1164-1993, package body std_logic_1164), and operators of truth values.
use Rattle.std.specs.Prelude.{Bool, not, true, false, ◌&&◌, ◌||◌, ◌==◌, List, unwrap_or}
use Rattle.std.specs.List.{reduce, slice_index_or}
use Rattle.vital_logic.specs.declared.level.Level.{Level}
use Rattle.vital_logic.specs.declared.level.Level.TheVariants.{U}
use Rattle.vital_logic.specs.Levels.{byte_of}
use Rattle.vital_logic.specs.Tables.{and_table, entry, entry_at, not_table, or_table, ux01_table, x01_table, x01z_table, xor_table}
use Rattle.vital_names.specs.declared.predeclared.Conversion.{Conversion}
use Rattle.vital_names.specs.declared.predeclared.Conversion.TheVariants as conversion
use Rattle.vital_nodes.specs.declared.expr.Logical.{Logical}
use Rattle.vital_nodes.specs.declared.expr.Logical.TheVariants.{And, Or, Xor, Xnor, Nand, Nor}

-- The tables of AND, OR and XOR. NAND, NOR and XNOR are the NOT of these.
abbrev pub plain : Logical → Level → Level → Level
plain And = entry_at and_table
plain Or = entry_at or_table
plain Xor = entry_at xor_table
plain Nand = entry_at and_table
plain Nor = entry_at or_table
plain Xnor = entry_at xor_table

abbrev pub negated : Level → Level
negated a = entry not_table a

abbrev pub negated_for : Logical → Level → Level
negated_for And a = a
negated_for Or a = a
negated_for Xor a = a
negated_for Nand a = negated a
negated_for Nor a = negated a
negated_for Xnor a = negated a

-- A gate: the left fold of the table over all inputs, and the NOT of it where the operator is NAND, NOR or XNOR.
abbrev pub gate : Logical → List Level → Level
gate operator inputs = negated_for operator (unwrap_or (reduce (plain operator) inputs) U)

-- An operator between two levels.
abbrev pub operator2 : Logical → Level → Level → Level
operator2 operator a b = negated_for operator (plain operator a b)

-- One operator between several levels: from left to right (IEEE 1076-1993, 7.2).
abbrev pub operated : Logical → List Level → Level
operated operator levels = unwrap_or (reduce (operator2 operator) levels) U

-- To_X01, To_X01Z and To_UX01.
abbrev pub converted : Conversion → Level → Level
converted conversion.X01 a = entry x01_table a
converted conversion.X01Z a = entry x01z_table a
converted conversion.Ux01 a = entry ux01_table a

-- The first of levels, as those of a variable or of results.
abbrev pub first : List Level → Level
first levels = slice_index_or levels 0 U

-- ---- truth values

abbrev pub same_level : Level → Level → Bool
same_level a b = byte_of a == byte_of b

abbrev pub same_truth : Bool → Bool → Bool
same_truth true b = b
same_truth false b = not b

-- Logical operators of BOOLEAN (IEEE 1076-1993, 7.2.1).
abbrev pub truth2 : Logical → Bool → Bool → Bool
truth2 And a b = a && b
truth2 Or a b = a || b
truth2 Xor a b = not (same_truth a b)
truth2 Xnor a b = same_truth a b
truth2 Nand a b = not (a && b)
truth2 Nor a b = not (a || b)
