-- Whether an actual fits a formal (IEEE 1076-1993, 1.1.1.2 and 4.3.2.2).
use Rattle.std.specs.Prelude.{ℕ, Bool, true, false, ◌==◌, Option, Some, None, if◌then◌else◌}
use Rattle.vital_declarations.specs.Numbers.{length_of}
use Rattle.vital_nodes.specs.declared.decl.Mode.{Mode}
use Rattle.vital_nodes.specs.declared.decl.Mode.TheVariants as mode
use Rattle.vital_structure.specs.Shapes.{Shape, Scalar, Vector}
use Rattle.vital_associations.specs.declared.misfit.Misfit.{Misfit}
use Rattle.vital_associations.specs.declared.misfit.Misfit.TheVariants as why

abbrev pub by_length : ℕ → ℕ → Option Misfit
by_length formal actual = if formal == actual then None else Some why.Width

-- Why a shape may not be associated with another one: one is a bit and the other a vector, or two vectors differ in length.
abbrev pub misfit_of_shapes : Shape → Shape → Option Misfit
misfit_of_shapes Scalar Scalar = None
misfit_of_shapes Scalar (Vector b) = Some why.Type
misfit_of_shapes (Vector a) Scalar = Some why.Type
misfit_of_shapes (Vector a) (Vector b) = by_length (length_of a) (length_of b)

-- A port of a mode drives what it is associated with.
abbrev pub drives : Option Mode → Bool
drives (Some mode.Out) = true
drives (Some mode.Inout) = true
drives (Some mode.Buffer) = true
drives _ = false
