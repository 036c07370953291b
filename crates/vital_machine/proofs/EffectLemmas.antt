-- How many effects calls have, and to what time their assignments put off values.
use Rattle.std.proofs.Common.{ℕ, ◌+◌, ◌<◌, ◌≤◌, List, [], ◌∷◌, ◌++◌, length, length-append, arith}
use Rattle.std.specs.Prelude.{◌^◌, ◌&&◌, All, Bool, true, false, Option, Some, None, IfSome, if◌then◌else◌}
use Rattle.std.specs.Option.{option_map, option_map_or, option_to_list}
use Rattle.std.specs.List.{fold}
use Rattle.std.proofs.lemmas.List.Elements.{All-append, All-cons, All-nil}
use Rattle.vital_machine.specs.declared.effect.Effect.{Effect}
use Rattle.vital_machine.specs.declared.effect.Effect.TheVariants as effect
use Rattle.vital_machine.specs.declared.input.Input.{Input}
use Rattle.vital_machine.specs.declared.steps.CheckStep.{CheckStep}
use Rattle.vital_machine.specs.declared.steps.PathDelayStep.{PathDelayStep}
use Rattle.vital_machine.specs.Fits.{EndsInTime}
use Rattle.vital_machine.specs.Machine.{State, check_step, checked, delay_step, said, sent, violation_said}
use Rattle.vital_path_delay.specs.declared.send.GlitchOut.{GlitchOut}
use Rattle.vital_path_delay.specs.declared.send.Send.{Send}
use Rattle.vital_timing_checks.specs.declared.violated.Violated.{Violated}

-- ---- timing checks

violation-few : (c : CheckStep) (msg_on : Bool) (found : Option Violated) → length (violation_said c msg_on found) ≤ 1
violation-few c msg_on None = omega arith
violation-few c true (Some v) = omega arith
violation-few c false (Some v) = omega arith

violation-ends : (now : ℕ) (c : CheckStep) (msg_on : Bool) (found : Option Violated) → All (EndsInTime now) (violation_said c msg_on found)
violation-ends now c msg_on None = All-nil (EndsInTime now)
violation-ends now c true (Some v) = All-cons (EndsInTime now) _ [] tt (All-nil (EndsInTime now))
violation-ends now c false (Some v) = All-nil (EndsInTime now)

one-more : (before : List Effect) (c : CheckStep) (msg_on : Bool) (found : Option Violated) → length (before ++ violation_said c msg_on found) ≤ length before + 1
one-more before c msg_on found = omega (arith, length-append before (violation_said c msg_on found), violation-few c msg_on found)

-- A check lists one effect at most.
check-few : (inputs : List Input) (now : ℕ) (st : State) (c : CheckStep) → length (check_step inputs now st c).effects ≤ length st.effects + 1
check-few inputs now st c = one-more st.effects c _ _

checks-few : (inputs : List Input) (now : ℕ) (st : State) (steps : List CheckStep) → length (fold (check_step inputs now) st steps).effects ≤ length st.effects + length steps
checks-few inputs now st [] = omega arith
checks-few inputs now st (step ∷ steps) = omega (arith, checks-few inputs now (check_step inputs now st step) steps, check-few inputs now st step)

pub checked-few : (inputs : List Input) (now : ℕ) (on : Bool) (st : State) (steps : List CheckStep) → length (checked inputs on now st steps).effects ≤ length st.effects + length steps
checked-few inputs now true st steps = checks-few inputs now st steps
checked-few inputs now false st steps = omega arith

-- No check puts off a value.
checks-end : (inputs : List Input) (now : ℕ) (began : State) (steps : List CheckStep) → All (EndsInTime now) began.effects → All (EndsInTime now) (fold (check_step inputs now) began steps).effects
checks-end inputs now began [] ends = ends
checks-end inputs now began (step ∷ steps) ends =
    checks-end inputs now (check_step inputs now began step) steps
    (All-append (EndsInTime now) began.effects _ ends (violation-ends now step _ _))

pub checked-ends : (inputs : List Input) (now : ℕ) (on : Bool) (began : State) (steps : List CheckStep) → All (EndsInTime now) began.effects → All (EndsInTime now) (checked inputs on now began steps).effects
checked-ends inputs now true began steps ends = checks-end inputs now began steps ends
checked-ends inputs now false began steps ends = ends

-- ---- path delays

message-few : (e : Effect) (b : Bool) → length (if b then e ∷ [] else []) ≤ 1
message-few e true = omega arith
message-few e false = omega arith

second-few : (driver : ℕ) (second : Option Send) → length (option_to_list (option_map (λ send. effect.Assign driver send) second)) ≤ 1
second-few driver None = omega arith
second-few driver (Some send) = omega arith

said-few : (d : PathDelayStep) (msg_on : Bool) (out : GlitchOut) → length (said d msg_on out) ≤ 3
said-few d msg_on out =
    let message = (if out.glitched && msg_on then effect.Glitch d.out_signal ∷ [] else []) in
    omega (arith, length-append message (sent d.driver out), message-few (effect.Glitch d.out_signal) (out.glitched && msg_on), second-few d.driver out.second)

-- A path delay lists three effects at most.
found-few : (d : PathDelayStep) (msg_on : Bool) (out : Option GlitchOut) → length (option_map_or (said d msg_on) out []) ≤ 3
found-few d msg_on None = omega arith
found-few d msg_on (Some out) = said-few d msg_on out

three-more : (before : List Effect) (d : PathDelayStep) (msg_on : Bool) (out : Option GlitchOut) → length (before ++ option_map_or (said d msg_on) out []) ≤ length before + 3
three-more before d msg_on out = omega (arith, length-append before (option_map_or (said d msg_on) out []), found-few d msg_on out)

pub delay-few : (inputs : List Input) (now : ℕ) (st : State) (d : PathDelayStep) → length (delay_step inputs now st d).effects ≤ length st.effects + 3
delay-few inputs now st d = three-more st.effects d _ _

message-ends : (now port : ℕ) (b : Bool) → All (EndsInTime now) (if b then effect.Glitch port ∷ [] else [])
message-ends now port true = All-cons (EndsInTime now) (effect.Glitch port) [] tt (All-nil (EndsInTime now))
message-ends now port false = All-nil (EndsInTime now)

second-ends : (now driver : ℕ) (second : Option Send) → IfSome second (λ send. now + send.delay < 2 ^ 61) → All (EndsInTime now) (option_to_list (option_map (λ send. effect.Assign driver send) second))
second-ends now driver None small = All-nil (EndsInTime now)
second-ends now driver (Some send) small = All-cons (EndsInTime now) (effect.Assign driver send) [] small (All-nil (EndsInTime now))

pub found-ends : (now : ℕ) (d : PathDelayStep) (msg_on : Bool) (out : Option GlitchOut) → IfSome out (λ o. now + o.first.delay < 2 ^ 61) → IfSome out (λ o. IfSome o.second (λ send. now + send.delay < 2 ^ 61)) → All (EndsInTime now) (option_map_or (said d msg_on) out [])
found-ends now d msg_on None first second = All-nil (EndsInTime now)
found-ends now d msg_on (Some out) first second =
    All-append (EndsInTime now) _ (sent d.driver out) (message-ends now d.out_signal (out.glitched && msg_on))
    (All-cons (EndsInTime now) (effect.Assign d.driver out.first) _ first (second-ends now d.driver out.second second))
