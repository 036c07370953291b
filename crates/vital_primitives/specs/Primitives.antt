-- The primitives of VITAL (IEEE 1076.4, package VITAL_Primitives). What a three-state buffer gives for an enable that is neither 0 nor 1
-- is this project's own choice.
use Rattle.std.specs.Prelude.{ℕ, ◌==◌, List, if◌then◌else◌}
use Rattle.std.specs.List.{slice_index_or}
use Rattle.vital_logic.specs.declared.level.Level.{Level}
use Rattle.vital_logic.specs.declared.level.Level.TheVariants.{U, X, Zero, One, Z, W, L, H, Dash}
use Rattle.vital_logic.specs.Levels.{byte_of}
use Rattle.vital_logic.specs.Tables.{entry, ux01_table, x01_table}
use Rattle.vital_names.specs.declared.predeclared.Primitive.{Primitive}
use Rattle.vital_names.specs.declared.predeclared.Primitive.TheVariants as primitives
use Rattle.vital_primitives.specs.Operators.{gate, negated}

-- To_UX01.
abbrev pub ux01 : Level → Level
ux01 a = entry ux01_table a

-- ---- VitalIDENT

abbrev pub ident : Level → Level
ident Z = Z
ident a = ux01 a

-- ---- VitalBUFIF1, VitalINVIF1 and, with 1 and 0 exchanged, VitalBUFIF0, VitalINVIF0

-- A value for To_UX01 of an enable.
abbrev pub for_one : Level → Level → Level
for_one One value = value
for_one Zero value = Z
for_one enable value = enable

abbrev pub for_zero : Level → Level → Level
for_zero Zero value = value
for_zero One value = Z
for_zero enable value = enable

abbrev pub enabled_by_one : Level → Level → Level
enabled_by_one enable value = for_one (ux01 enable) value

abbrev pub enabled_by_zero : Level → Level → Level
enabled_by_zero enable value = for_zero (ux01 enable) value

-- ---- VitalMUX2

-- The common value of two levels, else X.
abbrev pub common : Level → Level → Level
common a b = if byte_of a == byte_of b then a else X

-- By To_X01 of the select.
abbrev pub chosen : Level → Level → Level → Level
chosen One data1 data0 = data1
chosen Zero data1 data0 = data0
chosen select data1 data0 = common data1 data0

abbrev pub mux2 : Level → Level → Level → Level
mux2 data1 data0 select = chosen (entry x01_table select) (ux01 data1) (ux01 data0)

-- ---- all

-- The input of a number; U where there is none.
abbrev pub input : List Level → ℕ → Level
input inputs number = slice_index_or inputs number U

abbrev pub primitive : Primitive → List Level → Level
primitive (primitives.Gate operator count) inputs = gate operator inputs
primitive primitives.Buf inputs = ux01 (input inputs 0)
primitive primitives.Inv inputs = negated (input inputs 0)
primitive primitives.Ident inputs = ident (input inputs 0)
primitive primitives.Bufif0 inputs = enabled_by_zero (input inputs 1) (ux01 (input inputs 0))
primitive primitives.Bufif1 inputs = enabled_by_one (input inputs 1) (ux01 (input inputs 0))
primitive primitives.Invif0 inputs = enabled_by_zero (input inputs 1) (negated (input inputs 0))
primitive primitives.Invif1 inputs = enabled_by_one (input inputs 1) (negated (input inputs 0))
primitive primitives.Mux2 inputs = mux2 (input inputs 0) (input inputs 1) (input inputs 2)
