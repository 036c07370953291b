-- Worked rows of the definitions, by computation. Those that code computes are tried by running it.
use Rattle.std.proofs.Common.{◌≡◌, [], ◌∷◌, refl}
use Rattle.std.specs.Prelude.{true, false, Some, None, codes}
use Rattle.vital_logic.specs.declared.level.Level.TheVariants.{U, X, One, Z, H}
use Rattle.vital_nodes.specs.declared.expr.Logical.TheVariants.{And, Or, Xor, Xnor, Nand, Nor}
use Rattle.vital_operands.specs.declared.tree.BooleanExpr.TheOpen.{BooleanExpr-F}
use Rattle.vital_operands.specs.declared.tree.ConstantName.TheVariants as constant
use Rattle.vital_typed_cells.specs.Expressions.{Level', Rows, Time, level_of, rows_of, truth_results, truth_step}
use Rattle.vital_primitives.specs.Operators.{same_level, truth2}
use Rattle.vital_typed_cells.specs.PackageWorths.{in_packages, of_packages}

-- ---- truth values

row_same : same_level H One ≡ false
row_same = refl

row_and : truth2 And true false ≡ false
row_and = refl

row_or : truth2 Or false true ≡ true
row_or = refl

row_xor : truth2 Xor true true ≡ false
row_xor = refl

row_xnor : truth2 Xnor false false ≡ true
row_xnor = refl

row_nand : truth2 Nand true true ≡ false
row_nand = refl

row_nor : truth2 Nor false false ≡ true
row_nor = refl

-- from left to right
row_logical : truth_step (in_packages []) (BooleanExpr-F.Logical Xnor (true ∷ false ∷ false ∷ [])) ≡ true
row_logical = refl

row_not : truth_step (in_packages []) (BooleanExpr-F.Not true) ≡ false
row_not = refl

-- ---- constants

row_level : level_of (of_packages (None ∷ Some (Level' Z) ∷ []) (constant.Package 1)) ≡ Z
row_level = refl

row_past : level_of (of_packages (Some (Level' Z) ∷ []) (constant.Package 1)) ≡ U
row_past = refl

row_time : level_of (of_packages (Some (Time 5) ∷ []) (constant.Package 0)) ≡ U
row_time = refl

row_of_cell : level_of (of_packages (Some (Level' Z) ∷ []) (constant.Cell (codes "c"))) ≡ U
row_of_cell = refl

row_rows : rows_of (of_packages (Some (Rows (codes "01" ∷ [])) ∷ []) (constant.Package 0)) ≡ codes "01" ∷ []
row_rows = refl

-- ---- truth tables

row_first : truth_results (codes "1-1" ∷ codes "-00" ∷ []) (One ∷ One ∷ []) 1 ≡ One ∷ []
row_first = refl

row_none : truth_results (codes "1-1" ∷ codes "-00" ∷ []) (Z ∷ Z ∷ []) 1 ≡ X ∷ []
row_none = refl
