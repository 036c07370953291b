-- What procedures do with what is given to their formals, told by what these ask for.
use Rattle.std.specs.Prelude.{Bool, true, false}
use Rattle.vital_calls.specs.declared.actual_form.ActualForm.{ActualForm}
use Rattle.vital_calls.specs.declared.actual_form.ActualForm.TheVariants as form
use Rattle.vital_variables.specs.declared.formal_use.FormalUse.{FormalUse}
use Rattle.vital_variables.specs.declared.formal_use.FormalUse.TheVariants.{State, Violation, Assigned}

-- A procedure keeps its state there from call to call.
abbrev pub keeps_state : ActualForm → Bool
keeps_state form.GlitchData = true
keeps_state form.TimingData = true
keeps_state form.PeriodData = true
keeps_state _ = false

-- A check tells there whether it found a violation.
abbrev pub tells_violation : ActualForm → Bool
tells_violation form.Violation = true
tells_violation _ = false

-- A check or a state table assigns it.
abbrev pub is_assigned : ActualForm → Bool
is_assigned form.Violation = true
is_assigned form.Result = true
is_assigned form.PreviousData = true
is_assigned _ = false

abbrev pub is_of : FormalUse → ActualForm → Bool
is_of State f = keeps_state f
is_of Violation f = tells_violation f
is_of Assigned f = is_assigned f
