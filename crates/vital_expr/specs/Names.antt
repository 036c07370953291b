-- Names as expressions: identifiers alone, and calls and elements, which have one parenthesis behind them.
use Rattle.std.specs.Prelude.{ℕ, Bool, true, false, ◌==◌, ◌-◌, is_some, List, [], ◌∷◌, Option, Some, None, ⊤, if◌then◌else◌}
use Rattle.std.specs.Option.{option_and_then}
use Rattle.vital_base.specs.declared.place.Place.{Place}
use Rattle.vital_calls.specs.Formals.{input_count}
use Rattle.vital_declarations.specs.Operands.{literal_index}
use Rattle.vital_names.specs.declared.predeclared.Function.{Function}
use Rattle.vital_names.specs.declared.predeclared.Function.TheVariants as function
use Rattle.vital_nodes.specs.declared.expr.Item.{Item}
use Rattle.vital_nodes.specs.declared.expr.Reference.{Reference}
use Rattle.vital_nodes.specs.declared.expr.Suffix.{Suffix}
use Rattle.vital_nodes.specs.declared.identifier.Identifier.{Identifier}
use Rattle.vital_operands.specs.declared.tree.ConstantName.{ConstantName}
use Rattle.vital_operands.specs.declared.tree.LevelExpr.{LevelExpr}
use Rattle.vital_operands.specs.declared.tree.LevelExpr.TheVariants as level
use Rattle.vital_operands.specs.declared.tree.TruthTableCall.{TruthTableCall, roll-TruthTableCall}
use Rattle.vital_operands.specs.declared.tree.VectorExpr.{VectorExpr}
use Rattle.vital_operands.specs.declared.tree.VectorExpr.TheVariants as vector
use Rattle.vital_operands.specs.Calls.{function_named, only_items, table_first}
use Rattle.vital_operands.specs.Items.{are_values}
use Rattle.vital_operands.specs.Named.{boolean_named, delay_named, element_named, is_text_named, level_named, table_named, time_named, vector_named}
use Rattle.vital_operands.specs.Positions.{Position}
use Rattle.vital_nodes.specs.Items.{actual}
use Rattle.vital_nodes.specs.Names.{identifier_of}
use Rattle.vital_expr.specs.Outcomes.{Outcome, and_then, both, broken, map_typed, or_broken, typed}
use Rattle.vital_expr.specs.Reading.{Reading, broken_reading, first_of, levels_of}
use Rattle.vital_expr.specs.Vectors.{if_fits, if_vector_fits, length_of}

-- ---- calls of VitalTruthTable

-- The table that an actual names, with the number of its columns.
abbrev pub table_actual : Position → Item → Reading → Outcome (ConstantName × ℕ)
table_actual p i r = or_broken r.own (option_and_then (table_named p) (option_and_then identifier_of (actual i)))

-- A call, and how many columns its table has behind those of the inputs; where they are as many as the inputs, or fewer, none.
abbrev pub called : (ConstantName × ℕ) → VectorExpr → Outcome (TruthTableCall × ℕ)
called t v = typed (roll-TruthTableCall (record { table = t.0; inputs = v }), t.1 - length_of v)

abbrev pub table_call : Position → Item → Reading → Reading → Outcome (TruthTableCall × ℕ)
table_call p i t d = both called (table_actual p i t) (d.vector None)

abbrev pub ordered_call : List Place → Position → Option Bool → Item → Reading → Item → Reading → Outcome (TruthTableCall × ℕ)
ordered_call own p (Some true) i r j s = table_call p i r s
ordered_call own p (Some false) i r j s = table_call p j s r
ordered_call own p None i r j s = broken own

abbrev pub truth_table_call : List Place → Position → List Item → List Reading → Outcome (TruthTableCall × ℕ)
truth_table_call own p (i ∷ j ∷ []) (r ∷ s ∷ []) = ordered_call own p (table_first (i ∷ j ∷ [])) i r j s
truth_table_call own p is rs = broken own

abbrev pub one_result : List Place → (TruthTableCall × ℕ) → Outcome LevelExpr
one_result own c = if c.1 == 1 then typed (level.TruthTable c.0) else broken own

abbrev pub some_results : List Place → Option ℕ → (TruthTableCall × ℕ) → Outcome VectorExpr
some_results own asked c = if c.1 == 0 then broken own else if_vector_fits own asked (vector.TruthTable c.0 c.1)

-- ---- names with one parenthesis behind them

-- The element of a vector variable at a literal index.
abbrev pub element_of : Position → Reference → Option LevelExpr
element_of p r = option_and_then (element_named p r.identifier) (literal_index r.suffixes)

abbrev pub level_of_function : List Place → Position → Reference → List Item → List Reading → Option Function → Outcome LevelExpr
level_of_function own p r is rs (Some (function.Primitive primitive)) =
    if are_values (input_count primitive) is then map_typed (λ ts. level.Primitive primitive ts) (levels_of rs) else broken own
level_of_function own p r is rs (Some (function.Conversion conversion)) =
    if are_values 1 is then map_typed (λ t. level.Conversion conversion t) (first_of rs).level else broken own
level_of_function own p r is rs (Some function.TruthTable) = and_then (one_result own) (truth_table_call own p is rs)
level_of_function own p r is rs None = or_broken own (element_of p r)

abbrev pub level_of_items : List Place → Position → Reference → Option (List Item) → List Reading → Outcome LevelExpr
level_of_items own p r None rs = broken own
level_of_items own p r (Some is) rs = level_of_function own p r is rs (function_named p r.identifier)

abbrev pub vector_of_function : List Place → Position → Option ℕ → List Item → List Reading → Option Function → Outcome VectorExpr
vector_of_function own p asked is rs (Some (function.Primitive primitive)) = broken own
vector_of_function own p asked is rs (Some (function.Conversion conversion)) = broken own
vector_of_function own p asked is rs (Some function.TruthTable) = and_then (some_results own asked) (truth_table_call own p is rs)
vector_of_function own p asked is rs None = broken own

abbrev pub vector_of_items : List Place → Position → Option ℕ → Reference → Option (List Item) → List Reading → Outcome VectorExpr
vector_of_items own p asked r None rs = broken own
vector_of_items own p asked r (Some is) rs = vector_of_function own p asked is rs (function_named p r.identifier)

-- ---- identifiers alone

abbrev pub whole_vector : Option ℕ → Option VectorExpr → Option VectorExpr
whole_vector asked None = None
whole_vector asked (Some v) = if_fits asked v

abbrev pub text_if : List Place → Bool → Outcome ⊤
text_if own true = typed tt
text_if own false = broken own

abbrev pub plain_reading : List Place → Position → Identifier → Reading
plain_reading own p i = record {
  level = or_broken own (level_named p i);
  vector = λ asked. or_broken own (whole_vector asked (vector_named p i));
  boolean = or_broken own (boolean_named p i);
  time = or_broken own (time_named p i);
  delay = λ d. or_broken own (delay_named p d i);
  text = text_if own (is_text_named p i);
  is_boolean = is_some (boolean_named p i);
  literal = broken own;
  own = own;
}

-- ---- names

-- What a name is worth, of the items in whose parentheses these come.
abbrev pub name_in : List Place → Position → Reference → List Reading → List Suffix → Reading
name_in own p r rs [] = plain_reading own p r.identifier
name_in own p r rs (s ∷ others) = record (broken_reading own) {
  level = level_of_items own p r (only_items (s ∷ others)) rs;
  vector = λ asked. vector_of_items own p asked r (only_items (s ∷ others)) rs;
}
