-- What assignments and results are put to.
use Rattle.std.specs.Prelude.{ℕ, List, [], ◌∷◌, Option, Some, None}
use Rattle.std.specs.Option.{option_and_then, option_map}
use Rattle.vital_actuals.specs.declared.target.Target.{Target}
use Rattle.vital_actuals.specs.declared.target.Target.TheVariants as target
use Rattle.vital_declarations.specs.Operands.{AliasTarget, OperandKind, VariableOf, AliasOf, VariableType, Level, X01, VectorOf, literal_index}
use Rattle.vital_declarations.specs.Operands as alias
use Rattle.vital_nodes.specs.declared.expr.Reference.{Reference}
use Rattle.vital_nodes.specs.declared.expr.Suffix.{Suffix}
use Rattle.vital_nodes.specs.declared.identifier.Identifier.{Identifier}
use Rattle.vital_operands.specs.Named.{length_of_standing, offset_in_standing}
use Rattle.vital_operands.specs.Positions.{Position, standing}
use Rattle.vital_actuals.specs.Kinds.{operand_named}

-- What an alias names, if that is a variable of levels or an element of a vector variable.
abbrev pub target_of_alias : AliasTarget → Option Target
target_of_alias (alias.Variable o) = Some (target.Level o.identifier.name)
target_of_alias (alias.Element o n) = Some (target.Element o.identifier.name n)
target_of_alias (alias.Constant o) = None
target_of_alias (alias.PackageConstant n o) = None
target_of_alias alias.NoTarget = None

-- A vector variable of a name, of which it is known how many elements it has.
abbrev pub whole_vector : Position → Identifier → Option Target
whole_vector p i = option_map (λ n. target.Vector i.name n) (length_of_standing (standing p i))

abbrev pub target_of_variable : Position → Identifier → VariableType → Option Target
target_of_variable p i Level = Some (target.Level i.name)
target_of_variable p i X01 = Some (target.Level i.name)
target_of_variable p i (VectorOf r) = whole_vector p i
target_of_variable p i other = None

abbrev pub target_of_kind : Position → Identifier → OperandKind → Option Target
target_of_kind p i (VariableOf t) = target_of_variable p i t
target_of_kind p i (AliasOf t) = target_of_alias t
target_of_kind p i other = None

-- A variable of levels, of X01 or a vector variable, or an alias of one of the former or of an element of the latter.
abbrev pub whole_target : Position → Identifier → Option Target
whole_target p i = target_of_kind p i (operand_named p i)

-- The element of a vector variable at a literal index that is in its range.
abbrev pub element_at : Position → Identifier → List ℕ → Option Target
element_at p i index = option_map (λ n. target.Element i.name n) (offset_in_standing (standing p i) index)

abbrev pub element_target : Position → Identifier → List Suffix → Option Target
element_target p i ss = option_and_then (element_at p i) (literal_index ss)

abbrev pub target_behind : Position → Identifier → List Suffix → Option Target
target_behind p i [] = whole_target p i
target_behind p i (s ∷ ss) = element_target p i (s ∷ ss)

-- What a name is as the target of an assignment.
abbrev pub target_named : Position → Reference → Option Target
target_named p r = target_behind p r.identifier r.suffixes
