-- Calls of predeclared functions and procedures whose items are wrong for their formals (IEEE 1076-1993, 4.3.2.2 and 7.3.3).
use Rattle.std.specs.Prelude.{Bool, true, false, List, Option, codes}
use Rattle.std.specs.Option.{option_and_then, option_map_or}
use Rattle.vital_calls.specs.Calls.{Call, call_of}
use Rattle.vital_calls.specs.Formals.{formals_of_function, formals_of_procedure}
use Rattle.vital_calls.specs.Matching.{actual_of, has_wrong_formals}
use Rattle.vital_declarations.specs.Operands.{OperandKind, VariableOf, VariableType, VectorOf, operand_kind}
use Rattle.vital_names.specs.declared.predeclared.Function.{Function}
use Rattle.vital_names.specs.declared.predeclared.Procedure.{Procedure}
use Rattle.vital_names.specs.declared.predeclared.Procedure.TheVariants as procedure
use Rattle.vital_names.specs.Kinds.{function_meant, procedure_meant}
use Rattle.vital_names.specs.Meanings.{declared, meaning}
use Rattle.vital_names.specs.Sites.{Cell, Site}
use Rattle.vital_nodes.specs.declared.expr.Item.{Item}
use Rattle.vital_nodes.specs.declared.expr.Reference.{Reference}
use Rattle.vital_nodes.specs.declared.identifier.Identifier.{Identifier}
use Rattle.vital_nodes.specs.Items.{actual}
use Rattle.vital_nodes.specs.Names.{identifier_of}

-- ---- functions

-- A name is a call of a function with items that are wrong for it.
abbrev pub is_wrong_for : Reference → Function → Bool
is_wrong_for name f = option_map_or (λ c. has_wrong_formals (formals_of_function f) c.items) (call_of name) false

-- The predeclared function that the identifier of a name means at a site.
abbrev pub function_at : Cell → Site → Reference → Option Function
function_at cell site name = option_and_then function_meant (meaning name.identifier.name cell site)

-- A name is a call of that function with items that are wrong for it.
abbrev pub is_wrong_function : Cell → Site → Reference → Bool
is_wrong_function cell site name = option_map_or (is_wrong_for name) (function_at cell site name) false

-- ---- procedures

abbrev pub is_vector_type : VariableType → Bool
is_vector_type (VectorOf r) = true
is_vector_type _ = false

abbrev pub is_vector_kind : OperandKind → Bool
is_vector_kind (VariableOf t) = is_vector_type t
is_vector_kind _ = false

-- An identifier means a vector variable.
abbrev pub is_vector : Cell → Site → Identifier → Bool
is_vector cell site i = option_map_or (λ d. is_vector_kind (operand_kind cell site d)) (declared i.name cell site) false

-- The identifier that is given alone to the formal Result of VitalStateTable, which it has with NumStates and without.
abbrev pub result_given : List Item → Option Identifier
result_given is =
    option_and_then identifier_of (option_and_then actual (actual_of is (formals_of_procedure procedure.StateTable false) (codes "result")))

abbrev pub has_vector_result : Cell → Site → List Item → Bool
has_vector_result cell site is = option_map_or (is_vector cell site) (result_given is) false

-- Items are wrong for the formals of a procedure. VitalStateTable has the formal NumStates exactly where its Result is a vector variable.
abbrev pub is_wrong_in : Cell → Site → List Item → Procedure → Bool
is_wrong_in cell site is p = has_wrong_formals (formals_of_procedure p (has_vector_result cell site is)) is

-- The predeclared procedure that a call at a site is of, and whether its items are wrong for it.
abbrev pub procedure_at : Cell → Site → Call → Option Procedure
procedure_at cell site c = option_and_then procedure_meant (meaning c.identifier.name cell site)

abbrev pub is_wrong_procedure : Cell → Site → Call → Bool
is_wrong_procedure cell site c = option_map_or (is_wrong_in cell site c.items) (procedure_at cell site c) false
