-- How the actuals of VitalStateTable go with one another (IEEE 1076.4, package VITAL_Primitives): the columns of the table are the inputs,
-- the states and the results, in this order.
use Rattle.std.specs.Prelude.{ℕ, Bool, false, not, ◌&&◌, ◌==◌, ◌+◌, nat_lt, List, Option, Some, None, codes}
use Rattle.std.specs.Option.{option_and_then, option_map_or}
use Rattle.vital_actuals.specs.declared.actual.Actual.{Actual}
use Rattle.vital_actuals.specs.declared.actual.Actual.TheVariants as actual
use Rattle.vital_actuals.specs.declared.target.Target.{Target}
use Rattle.vital_actuals.specs.declared.target.Target.TheVariants as target
use Rattle.vital_expr.specs.Vectors.{length_of}
use Rattle.vital_typed_statements.specs.declared.given.GivenActual.{GivenActual}
use Rattle.vital_typed_statements.specs.Given.{actual_for}

-- ---- what the actuals say

abbrev pub columns_in : Actual → Option ℕ
columns_in (actual.Table table columns) = Some columns
columns_in other = None

abbrev pub inputs_in : Actual → Option ℕ
inputs_in (actual.Inputs v) = Some (length_of v)
inputs_in other = None

abbrev pub count_in : Actual → Option ℕ
count_in (actual.StateCount n) = Some n
count_in other = None

abbrev pub target_in : Actual → Option Target
target_in (actual.Target t) = Some t
target_in other = None

-- How many columns the table has; how many inputs there are; the number of states, if it is given; what results are put to; and what
-- keeps the inputs.
abbrev pub columns : List GivenActual → Option ℕ
columns gs = option_and_then columns_in (actual_for (codes "statetable") gs)

abbrev pub inputs : List GivenActual → Option ℕ
inputs gs = option_and_then inputs_in (actual_for (codes "datain") gs)

abbrev pub count : List GivenActual → Option ℕ
count gs = option_and_then count_in (actual_for (codes "numstates") gs)

abbrev pub target_for : List ℕ → List GivenActual → Option Target
target_for name gs = option_and_then target_in (actual_for name gs)

abbrev pub result : List GivenActual → Option Target
result gs = target_for (codes "result") gs

abbrev pub kept : List GivenActual → Option Target
kept gs = target_for (codes "previousdatain") gs

-- ---- states and results

-- How many results there are.
abbrev pub results_of : Target → ℕ
results_of (target.Level name) = 1
results_of (target.Element name n) = 1
results_of (target.Vector name n) = n

-- The number of states is 1 for one level, and the one that is given for a vector.
abbrev pub states_of : Option ℕ → Target → Option ℕ
states_of count (target.Level name) = Some 1
states_of count (target.Element name n) = Some 1
states_of count (target.Vector name n) = count

-- A number of states is at most the number of results.
abbrev pub is_greater_than_results : Option ℕ → Option Target → Bool
is_greater_than_results (Some n) (Some t) = nat_lt (results_of t) n
is_greater_than_results count t = false

abbrev pub has_too_many_states : List GivenActual → Bool
has_too_many_states gs = is_greater_than_results (count gs) (result gs)

-- ---- columns

-- The columns are the inputs, the states and the results.
abbrev pub are_parted : ℕ → ℕ → ℕ → ℕ → Bool
are_parted columns inputs states results = columns == inputs + states + results

abbrev pub wrong_inputs_by : Option ℕ → Option ℕ → Option ℕ → ℕ → Bool
wrong_inputs_by (Some columns) (Some inputs) (Some states) results = not (are_parted columns inputs states results)
wrong_inputs_by columns inputs states results = false

abbrev pub has_wrong_inputs_for : List GivenActual → Target → Bool
has_wrong_inputs_for gs t = wrong_inputs_by (columns gs) (inputs gs) (states_of (count gs) t) (results_of t)

-- The inputs do not go with the columns, where table, inputs and what results are put to are of their forms, and the number of states
-- that a vector asks for.
abbrev pub has_wrong_inputs : List GivenActual → Bool
has_wrong_inputs gs = option_map_or (λ t. not (has_too_many_states gs) && has_wrong_inputs_for gs t) (result gs) false

-- ---- what keeps the inputs

abbrev pub differs : Option ℕ → Option Target → Bool
differs (Some n) (Some t) = not (n == results_of t)
differs n t = false

-- What keeps the inputs is not as long as they are.
abbrev pub has_wrong_kept : List GivenActual → Bool
has_wrong_kept gs = differs (inputs gs) (kept gs)

-- ---- whether all go with one another

abbrev pub fits : List GivenActual → Bool
fits gs = not (has_too_many_states gs) && (not (has_wrong_inputs gs) && not (has_wrong_kept gs))
