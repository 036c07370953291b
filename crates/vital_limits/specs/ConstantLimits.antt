-- The limits that constants of packages pass, themselves or through the constants of packages that they name.
use Rattle.std.specs.Prelude.{ℕ, Bool, true, false, ◌||◌, List, [], ◌∷◌, ◌++◌, length, slice_get, unwrap_or, Option, Some, None, if◌then◌else◌}
use Rattle.std.specs.List.{filter_map, fold, list_any}
use Rattle.std.specs.Option.{option_and_then, option_map_or}
use Rattle.vital_library.specs.Constants.{constants_of}
use Rattle.vital_limits.specs.declared.packages.ConstantLimits.{ConstantLimits}
use Rattle.vital_limits.specs.NodeLimits.{are_too_long, are_too_many, is_too_long_node, table_rows}
use Rattle.vital_names.specs.Meanings.{Meaning, meaning_in_value}
use Rattle.vital_names.specs.Meanings as meanings
use Rattle.vital_nodes.specs.declared.decl.Object.{Object}
use Rattle.vital_nodes.specs.declared.identifier.Identifier.{Identifier}
use Rattle.vital_nodes.specs.declared.unit.Units.{Units}
use Rattle.vital_nodes.specs.Nodes.{Node, expression_if_there, parts_of_subtype}
use Rattle.vital_nodes.specs.Walk.{nodes_of_all}
use Rattle.vital_uses.specs.Asked.{identifier_of_node}

-- The nodes of what a constant is declared with.
abbrev pub nodes_of_constant : Object → List Node
nodes_of_constant o = nodes_of_all (parts_of_subtype o.parts.subtype ++ expression_if_there o.parts.value)

-- No limit is passed.
abbrev pub no_limits : ConstantLimits
no_limits = record { rows = false; columns = false; delay = false }

-- Those that one or the other passes.
abbrev pub joined : ConstantLimits → ConstantLimits → ConstantLimits
joined a b = record { rows = a.rows || b.rows; columns = a.columns || b.columns; delay = a.delay || b.delay }

-- Those of the text of a constant.
abbrev pub own : Object → ConstantLimits
own o = record { rows = are_too_many (table_rows o); columns = are_too_long (table_rows o); delay = list_any is_too_long_node (nodes_of_constant o) }

-- The constant of a package that a name means, by its number.
abbrev pub constant_meant : Meaning → Option ℕ
constant_meant (meanings.Declared d) = None
constant_meant (meanings.Constant n o) = Some n
constant_meant (meanings.Predeclared p) = None

-- The constant that a name in the declaration of the constant of a number means, and that a node there names.
abbrev pub constant_named : List Units → ℕ → List ℕ → Option ℕ
constant_named files number name = option_and_then constant_meant (meaning_in_value name number files)

abbrev pub named_at : List Units → ℕ → Node → Option ℕ
named_at files number v = option_and_then (λ i. constant_named files number i.name) (identifier_of_node v)

-- The limits of the constant of a number among those that are known, which are the limits of the constants before.
abbrev pub limits_at : List ConstantLimits → ℕ → ConstantLimits
limits_at known n = option_map_or (λ l. l) (slice_get known n) no_limits

-- Those of the constant that stands behind these: its own, and those of each constant that it names.
abbrev pub next_limits : List Units → List ConstantLimits → Object → ConstantLimits
next_limits files known o = fold (λ l n. joined l (limits_at known n)) (own o) (filter_map (named_at files (length known)) (nodes_of_constant o))

-- Those that are known with one more, and that of the declaration that has begun: constants that are declared together share theirs.
abbrev pub with_limits : Object → List ConstantLimits → ConstantLimits → (List ConstantLimits × Option ConstantLimits)
with_limits o known l = (known ++ l ∷ [], if o.is_last then None else Some l)

abbrev pub with_next : List Units → (List ConstantLimits × Option ConstantLimits) → Object → (List ConstantLimits × Option ConstantLimits)
with_next files s o = with_limits o s.0 (unwrap_or s.1 (next_limits files s.0 o))

-- The limits that each constant of the packages of a library passes, in their order.
abbrev pub constant_limits : List Units → List ConstantLimits
constant_limits files = (fold (with_next files) ([], None) (constants_of files)).0
