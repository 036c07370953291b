-- Calls of functions in expressions (IEEE 1076.4, package VITAL_Primitives; IEEE 1164).
use Rattle.std.specs.Prelude.{Bool, true, false, ◌&&◌, not, is_some, List, [], ◌∷◌, Option, Some, None, if◌then◌else◌}
use Rattle.std.specs.List.{list_all}
use Rattle.std.specs.Option.{option_and_then, option_map}
use Rattle.vital_calls.specs.declared.actual_form.ActualForm.{ActualForm}
use Rattle.vital_calls.specs.declared.actual_form.ActualForm.TheVariants as form
use Rattle.vital_calls.specs.Formals.{Formals, formals_of_function}
use Rattle.vital_calls.specs.Matching.{form_of, has_wrong_formals}
use Rattle.vital_names.specs.declared.predeclared.Function.{Function}
use Rattle.vital_names.specs.declared.predeclared.Function.TheVariants as function
use Rattle.vital_names.specs.Kinds.{as_function}
use Rattle.vital_nodes.specs.declared.expr.Expr.{Expr}
use Rattle.vital_nodes.specs.declared.expr.Item.{Item}
use Rattle.vital_nodes.specs.declared.expr.Reference.{Reference}
use Rattle.vital_nodes.specs.declared.expr.Suffix.{Suffix}
use Rattle.vital_nodes.specs.declared.identifier.Identifier.{Identifier}
use Rattle.vital_nodes.specs.Items.{actual}
use Rattle.vital_nodes.specs.Names.{items_of}
use Rattle.vital_operands.specs.declared.calls.TableActuals.{TableActuals as TableActuals'}
use Rattle.vital_operands.specs.Positions.{Position, Standing, Operand, Constant, Word, Nothing, standing}

-- The function that a name means, if it means one.
abbrev pub function_of_standing : Standing → Option Function
function_of_standing (Word w) = as_function w
function_of_standing other = None

abbrev pub function_named : Position → Identifier → Option Function
function_named p i = function_of_standing (standing p i)

-- The items in the one parenthesis that is all that stands behind an identifier.
abbrev pub only_items : List Suffix → Option (List Item)
only_items [] = None
only_items (s ∷ []) = items_of s
only_items (s ∷ t ∷ others) = None

-- ---- the actuals of VitalTruthTable

abbrev pub table_formals : Formals
table_formals = formals_of_function function.TruthTable

abbrev pub is_table : Option ActualForm → Bool
is_table (Some form.TruthTable) = true
is_table other = false

abbrev pub are_given : List Item → Bool
are_given is = list_all (λ i. is_some (actual i)) is

-- Whether the first of the items of a call is for the table, and not for the inputs. None where the items are wrong for the
-- formals, or one of them gives no value.
abbrev pub table_first : List Item → Option Bool
table_first [] = None
table_first (i ∷ others) = if not (has_wrong_formals table_formals (i ∷ others)) && are_given (i ∷ others) then Some (is_table (form_of table_formals 0 i)) else None

-- The actuals: the table, and the inputs.
pub record TableActuals : Type 0 where
  pub table : Expr
  pub inputs : Expr

abbrev pub both_actuals : Item → Item → Option TableActuals
both_actuals t i = option_and_then (λ table. option_map (λ inputs. record { table = table; inputs = inputs }) (actual i)) (actual t)

abbrev pub in_order : Item → Item → Bool → Option TableActuals
in_order i j true = both_actuals i j
in_order i j false = both_actuals j i

-- The actuals in two items, where each formal is given once.
abbrev pub table_actuals : List Item → Option TableActuals
table_actuals (i ∷ j ∷ []) = option_and_then (in_order i j) (table_first (i ∷ j ∷ []))
table_actuals other = None

-- What is borrowed of them.
abbrev pub lent_actuals : TableActuals' → TableActuals
lent_actuals a = record { table = a.table.now; inputs = a.inputs.now }

-- The items of a call of VitalTruthTable.
abbrev pub is_truth_table : Option Function → Bool
is_truth_table (Some function.TruthTable) = true
is_truth_table other = false

abbrev pub table_items : Position → Reference → Option (List Item)
table_items p r = if is_truth_table (function_named p r.identifier) then only_items r.suffixes else None
