-- The formals of the functions and procedures of VITAL (IEEE 1076.4).
use Rattle.std.specs.Prelude.{ℕ, Bool, true, false, List, [], ◌∷◌, map, codes}
use Rattle.vital_names.specs.declared.predeclared.Check.{Check}
use Rattle.vital_names.specs.declared.predeclared.Check.TheVariants as check
use Rattle.vital_timing.specs.declared.delay.DelayType.{DelayType}
use Rattle.vital_names.specs.declared.predeclared.Function.{Function}
use Rattle.vital_names.specs.declared.predeclared.Function.TheVariants as function
use Rattle.vital_names.specs.declared.predeclared.Inputs.{Inputs}
use Rattle.vital_names.specs.declared.predeclared.Inputs.TheVariants as inputs
use Rattle.vital_names.specs.declared.predeclared.Primitive.{Primitive}
use Rattle.vital_names.specs.declared.predeclared.Primitive.TheVariants as primitive
use Rattle.vital_names.specs.declared.predeclared.Procedure.{Procedure}
use Rattle.vital_names.specs.declared.predeclared.Procedure.TheVariants as procedure
use Rattle.vital_calls.specs.declared.actual_form.ActualForm.{ActualForm}
use Rattle.vital_calls.specs.declared.actual_form.ActualForm.TheVariants as form
use Rattle.vital_calls.specs.declared.formal.Formal.{Formal as Formal'}
use Rattle.vital_calls.specs.declared.formal.Formals.{Formals as Formals'}
use Rattle.vital_calls.specs.declared.formal.Formals.TheVariants as borrowed

-- A formal: its name in lower case, what its actual must be, and whether each call must have an actual for it.
pub record Formal : Type 0 where
  pub name : List ℕ
  pub form : ActualForm
  pub is_required : Bool

-- The formals of a function or a procedure: so many levels by their positions; formals whose actuals come by their positions or
-- by their names; and formals whose actuals come by their names.
pub data Formals : Type 0 where
  Levels : ℕ → Formals
  PositionsOrNames : List Formal → Formals
  Names : List Formal → Formals

-- What is borrowed of them.
abbrev pub formal_lent : Formal' → Formal
formal_lent f = record { name = f.name.now; form = f.form; is_required = f.is_required }

abbrev pub all_lent : List Formal' → List Formal
all_lent fs = map formal_lent fs

abbrev pub lent : Formals' → Formals
lent (borrowed.Levels n) = Levels n
lent (borrowed.PositionsOrNames fs) = PositionsOrNames (all_lent fs.now)
lent (borrowed.Names fs) = Names (all_lent fs.now)

abbrev pub required : List ℕ → ActualForm → Formal
required name is = record { name = name; form = is; is_required = true }

abbrev pub optional : List ℕ → ActualForm → Formal
optional name is = record { name = name; form = is; is_required = false }

-- ---- functions

abbrev pub number_of : Inputs → ℕ
number_of inputs.Two = 2
number_of inputs.Three = 3
number_of inputs.Four = 4

-- How many inputs a primitive has.
abbrev pub input_count : Primitive → ℕ
input_count (primitive.Gate operator is) = number_of is
input_count primitive.Buf = 1
input_count primitive.Inv = 1
input_count primitive.Ident = 1
input_count primitive.Bufif0 = 2
input_count primitive.Bufif1 = 2
input_count primitive.Invif0 = 2
input_count primitive.Invif1 = 2
input_count primitive.Mux2 = 3

abbrev pub truth_table : List Formal
truth_table =
    required (codes "truthtable") form.TruthTable ∷
    required (codes "datain") form.Inputs ∷
    []

unfoldable pub formals_of_function : Function → Formals
formals_of_function (function.Primitive p) = Levels (input_count p)
formals_of_function (function.Conversion c) = Levels 1
formals_of_function function.TruthTable = PositionsOrNames truth_table

-- ---- procedures

abbrev pub wire_delay : List Formal
wire_delay =
    required (codes "outsig") form.InternalSignal ∷
    required (codes "insig") form.Signal ∷
    required (codes "twire") form.WireDelay ∷
    []

-- The state table has one result, or a vector of results. The number of states is a formal only of the second.
abbrev pub state_table : List Formal
state_table =
    required (codes "statetable") form.StateTable ∷
    required (codes "datain") form.Inputs ∷
    required (codes "result") form.Result ∷
    required (codes "previousdatain") form.PreviousData ∷
    []

abbrev pub vector_state_table : List Formal
vector_state_table =
    required (codes "statetable") form.StateTable ∷
    required (codes "datain") form.Inputs ∷
    required (codes "numstates") form.StateCount ∷
    required (codes "result") form.Result ∷
    required (codes "previousdatain") form.PreviousData ∷
    []

abbrev pub formals_of_state_table : Bool → Formals
formals_of_state_table false = Names state_table
formals_of_state_table true = Names vector_state_table

-- The path delay whose delays are of a type.
abbrev pub path_delay : DelayType → List Formal
path_delay delay =
    required (codes "outsignal") form.OutPort ∷
    required (codes "outtemp") form.Level ∷
    required (codes "paths") (form.Paths delay) ∷
    required (codes "glitchdata") form.GlitchData ∷
    optional (codes "outsignalname") form.Text ∷
    optional (codes "defaultdelay") (form.Delay delay) ∷
    optional (codes "mode") form.Mode ∷
    optional (codes "xon") form.Boolean ∷
    optional (codes "msgon") form.Boolean ∷
    optional (codes "msgseverity") form.Severity ∷
    optional (codes "ignoredefaultdelay") form.OnlyFalse ∷
    optional (codes "rejectfastpath") form.OnlyFalse ∷
    optional (codes "negpreempton") form.OnlyFalse ∷
    []

abbrev pub setup_hold_check : List Formal
setup_hold_check =
    required (codes "violation") form.Violation ∷
    required (codes "timingdata") form.TimingData ∷
    required (codes "testsignal") form.Signal ∷
    required (codes "refsignal") form.Signal ∷
    required (codes "reftransition") form.EdgeSymbol ∷
    optional (codes "testsignalname") form.Text ∷
    optional (codes "refsignalname") form.Text ∷
    optional (codes "headermsg") form.Text ∷
    optional (codes "setuphigh") form.Time ∷
    optional (codes "setuplow") form.Time ∷
    optional (codes "holdhigh") form.Time ∷
    optional (codes "holdlow") form.Time ∷
    optional (codes "checkenabled") form.Boolean ∷
    optional (codes "xon") form.Boolean ∷
    optional (codes "msgon") form.Boolean ∷
    optional (codes "msgseverity") form.Severity ∷
    optional (codes "testdelay") form.OnlyZero ∷
    optional (codes "refdelay") form.OnlyZero ∷
    optional (codes "enablesetupontest") form.OnlyTrue ∷
    optional (codes "enablesetuponref") form.OnlyTrue ∷
    optional (codes "enableholdonref") form.OnlyTrue ∷
    optional (codes "enableholdontest") form.OnlyTrue ∷
    []

abbrev pub recovery_removal_check : List Formal
recovery_removal_check =
    required (codes "violation") form.Violation ∷
    required (codes "timingdata") form.TimingData ∷
    required (codes "testsignal") form.Signal ∷
    required (codes "refsignal") form.Signal ∷
    required (codes "reftransition") form.EdgeSymbol ∷
    optional (codes "testsignalname") form.Text ∷
    optional (codes "refsignalname") form.Text ∷
    optional (codes "headermsg") form.Text ∷
    optional (codes "recovery") form.Time ∷
    optional (codes "removal") form.Time ∷
    optional (codes "activelow") form.Boolean ∷
    optional (codes "checkenabled") form.Boolean ∷
    optional (codes "xon") form.Boolean ∷
    optional (codes "msgon") form.Boolean ∷
    optional (codes "msgseverity") form.Severity ∷
    optional (codes "testdelay") form.OnlyZero ∷
    optional (codes "refdelay") form.OnlyZero ∷
    optional (codes "enablesetupontest") form.OnlyTrue ∷
    optional (codes "enablesetuponref") form.OnlyTrue ∷
    optional (codes "enableholdonref") form.OnlyTrue ∷
    optional (codes "enableholdontest") form.OnlyTrue ∷
    []

abbrev pub period_pulse_check : List Formal
period_pulse_check =
    required (codes "violation") form.Violation ∷
    required (codes "perioddata") form.PeriodData ∷
    required (codes "testsignal") form.Signal ∷
    optional (codes "testsignalname") form.Text ∷
    optional (codes "headermsg") form.Text ∷
    optional (codes "period") form.Time ∷
    optional (codes "pulsewidthhigh") form.Time ∷
    optional (codes "pulsewidthlow") form.Time ∷
    optional (codes "checkenabled") form.Boolean ∷
    optional (codes "xon") form.Boolean ∷
    optional (codes "msgon") form.Boolean ∷
    optional (codes "msgseverity") form.Severity ∷
    optional (codes "testdelay") form.OnlyZero ∷
    []

abbrev pub formals_of_check : Check → List Formal
formals_of_check check.SetupHold = setup_hold_check
formals_of_check check.RecoveryRemoval = recovery_removal_check
formals_of_check check.PeriodPulse = period_pulse_check

-- The formals of a procedure. Those of the state table depend on whether the actual of its result is a vector variable.
unfoldable pub formals_of_procedure : Procedure → Bool → Formals
formals_of_procedure procedure.WireDelay has_vector_result = PositionsOrNames wire_delay
formals_of_procedure procedure.StateTable has_vector_result = formals_of_state_table has_vector_result
formals_of_procedure (procedure.PathDelay delay) has_vector_result = Names (path_delay delay)
formals_of_procedure (procedure.Check c) has_vector_result = Names (formals_of_check c)
