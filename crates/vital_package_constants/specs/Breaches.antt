-- The clauses that constants of packages break, themselves or through the constants of packages that they name.
use Rattle.std.specs.Prelude.{ℕ, Bool, true, false, not, ◌||◌, is_none, List, [], ◌∷◌, ◌++◌, length, slice_get, unwrap_or, Option, Some, None, if◌then◌else◌}
use Rattle.std.specs.List.{filter_map, fold, list_any}
use Rattle.std.specs.Option.{option_map, option_map_or}
use Rattle.vital_base.specs.declared.place.Place.{Place}
use Rattle.vital_declaration_clauses.specs.GoodConstants.{is_good_constant}
use Rattle.vital_declaration_clauses.specs.Scopes as scopes
use Rattle.vital_expr.specs.Readings.{Context}
use Rattle.vital_library.specs.Constants.{constants_of}
use Rattle.vital_limits.specs.ConstantLimits.{named_at}
use Rattle.vital_names.specs.TypeNames.{type_named}
use Rattle.vital_nodes.specs.declared.decl.Object.{Object}
use Rattle.vital_nodes.specs.declared.unit.Units.{Units}
use Rattle.vital_nodes.specs.Nodes.{Node}
use Rattle.vital_operands.specs.Positions.{InPackage}
use Rattle.vital_typed_declarations.specs.Asked.{of_object}
use Rattle.vital_typed_declarations.specs.Values.{value_if_given}
use Rattle.vital_uses.specs.Asked.{identifier_of_node}
use Rattle.vital_package_constants.specs.declared.breaches.ConstantBreaches.{ConstantBreaches}
use Rattle.vital_package_constants.specs.Names.{is_undeclared, is_wrong_call, nodes_of_constant}
use Rattle.vital_package_constants.specs.Tables.{has_wrong_table}

-- None is broken.
abbrev pub no_breaches : ConstantBreaches
no_breaches = record { clause_3 = false; clause_14 = false; clause_15 = false; clause_16 = false }

-- Those that one or the other breaks.
abbrev pub joined : ConstantBreaches → ConstantBreaches → ConstantBreaches
joined a b = record {
  clause_3 = a.clause_3 || b.clause_3;
  clause_14 = a.clause_14 || b.clause_14;
  clause_15 = a.clause_15 || b.clause_15;
  clause_16 = a.clause_16 || b.clause_16;
}

abbrev pub breaks_any : ConstantBreaches → Bool
breaks_any b = b.clause_3 || (b.clause_14 || (b.clause_15 || b.clause_16))

-- Those of the constant of a number among those that are known, which are those of the constants before.
abbrev pub breaches_at : List ConstantBreaches → ℕ → ConstantBreaches
breaches_at known n = option_map_or (λ b. b) (slice_get known n) no_breaches

-- ---- faults in the value of a constant

abbrev pub names_broken : List Units → List ConstantBreaches → Node → Bool
names_broken files known v = option_map_or (λ n. breaks_any (breaches_at known n)) (named_at files (length known) v) false

-- The name at a node is undeclared, a wrong call or the name of a constant that breaks a clause.
abbrev pub is_faulty : List Units → List ConstantBreaches → Node → Bool
is_faulty files known v = is_undeclared files (length known) v || (is_wrong_call files (length known) v || names_broken files known v)

abbrev pub place_at : Node → Option Place
place_at v = option_map (λ i. i.place) (identifier_of_node v)

abbrev pub fault_at : List Units → List ConstantBreaches → Node → Option Place
fault_at files known v = if is_faulty files known v then place_at v else None

abbrev pub faults_in : List Units → List ConstantBreaches → List Node → List Place
faults_in files known vs = filter_map (fault_at files known) vs

-- ---- the breaches of a constant

abbrev pub context : List Units → ℕ → List Place → Context
context files number faults = record { position = InPackage files number; faults = faults }

abbrev pub is_filled : List Place → Bool
is_filled [] = false
is_filled (p ∷ ps) = true

-- The value of a constant is not of its type.
abbrev pub is_wrong_value : Context → Object → Bool
is_wrong_value c o = is_filled (value_if_given c (of_object o) o.parts.value).places

-- It is no constant that Level 1 allows, or a call in it makes a table wrong.
abbrev pub is_wrong_constant : List Units → ℕ → Context → Object → Bool
is_wrong_constant files number c o =
    not (is_good_constant (scopes.InPackage files number) o) || has_wrong_table files c (nodes_of_constant o)

-- Its type or a name in it is undeclared.
abbrev pub has_unknown_name : List Units → ℕ → Object → Bool
has_unknown_name files number o = is_none (type_named o.parts.subtype.name) || list_any (is_undeclared files number) (nodes_of_constant o)

-- The clauses that the constant of a number breaks itself, where its names break other clauses at these faults.
abbrev pub own_by : List Units → ℕ → Object → List Place → ConstantBreaches
own_by files number o faults = record {
  clause_3 = is_wrong_constant files number (context files number faults) o;
  clause_14 = list_any (is_wrong_call files number) (nodes_of_constant o);
  clause_15 = is_wrong_value (context files number faults) o;
  clause_16 = has_unknown_name files number o;
}

abbrev pub own : List Units → List ConstantBreaches → Object → ConstantBreaches
own files known o = own_by files (length known) o (faults_in files known (nodes_of_constant o))

-- Those of the constant that stands behind these: its own, and those of each constant that it names.
abbrev pub next_breaches : List Units → List ConstantBreaches → Object → ConstantBreaches
next_breaches files known o =
    fold (λ b n. joined b (breaches_at known n)) (own files known o) (filter_map (named_at files (length known)) (nodes_of_constant o))

-- Those that are known with one more, and that of the declaration that has begun: constants that are declared together share theirs.
abbrev pub with_breaches : Object → List ConstantBreaches → ConstantBreaches → (List ConstantBreaches × Option ConstantBreaches)
with_breaches o known b = (known ++ b ∷ [], if o.is_last then None else Some b)

abbrev pub with_next : List Units → (List ConstantBreaches × Option ConstantBreaches) → Object → (List ConstantBreaches × Option ConstantBreaches)
with_next files s o = with_breaches o s.0 (unwrap_or s.1 (next_breaches files s.0 o))

-- The clauses that each constant of the packages of a library breaks, in their order.
abbrev pub constant_breaches : List Units → List ConstantBreaches
constant_breaches files = (fold (with_next files) ([], None) (constants_of files)).0
