-- The drivers and the bits of the effects of an activation are ones of its cell.
use Rattle.std.proofs.Common.{ℕ, ◌<◌, List, [], ◌∷◌}
use Rattle.std.specs.Prelude.{◌&&◌, All, Bool, true, false, slice_get, Option, Some, None, if◌then◌else◌}
use Rattle.std.specs.List.{fold}
use Rattle.std.specs.Option.{option_map, option_map_or, option_to_list}
use Rattle.std.proofs.lemmas.List.Elements.{All-append, All-cons, All-head, All-nil, All-tail}
use Rattle.vital_machine.specs.declared.effect.Effect.TheVariants as effect
use Rattle.vital_machine.specs.declared.input.Input.{Input}
use Rattle.vital_machine.specs.declared.slot.Slot.{Slot}
use Rattle.vital_machine.specs.declared.steps.CheckStep.{CheckStep}
use Rattle.vital_machine.specs.declared.steps.Executed.{Executed}
use Rattle.vital_machine.specs.declared.steps.Executed.TheVariants as executed
use Rattle.vital_machine.specs.declared.steps.PathDelayStep.{PathDelayStep}
use Rattle.vital_machine.specs.declared.steps.WireStep.{WireStep}
use Rattle.vital_machine.specs.Fits.{CheckIsOfCell, DelayIsOfCell, EffectIsOfCell, StepsAreOfCell}
use Rattle.vital_machine.specs.Machine.{State, activation, after_functionality, check_step, checked, delay_step, said, sent, violation_said, wire_sent}
use Rattle.vital_path_delay.specs.declared.send.GlitchOut.{GlitchOut}
use Rattle.vital_path_delay.specs.declared.send.Send.{Send}
use Rattle.vital_timing_checks.specs.declared.violated.Violated.{Violated}

-- ---- timing checks

violation-numbers : (drivers bits : ℕ) (c : CheckStep) (msg_on : Bool) (found : Option Violated) → CheckIsOfCell bits c → All (EffectIsOfCell drivers bits) (violation_said c msg_on found)
violation-numbers drivers bits c msg_on None of = All-nil (EffectIsOfCell drivers bits)
violation-numbers drivers bits c true (Some v) of = All-cons (EffectIsOfCell drivers bits) _ [] of (All-nil (EffectIsOfCell drivers bits))
violation-numbers drivers bits c false (Some v) of = All-nil (EffectIsOfCell drivers bits)

checks-numbers : (drivers bits : ℕ) (inputs : List Input) (now : ℕ) (st : State) (steps : List CheckStep) → All (CheckIsOfCell bits) steps → All (EffectIsOfCell drivers bits) st.effects → All (EffectIsOfCell drivers bits) (fold (check_step inputs now) st steps).effects
checks-numbers drivers bits inputs now st [] are before = before
checks-numbers drivers bits inputs now st (step ∷ steps) are before =
    checks-numbers drivers bits inputs now (check_step inputs now st step) steps (All-tail (CheckIsOfCell bits) step steps are)
    (All-append (EffectIsOfCell drivers bits) st.effects _ before (violation-numbers drivers bits step _ _ (All-head (CheckIsOfCell bits) step steps are)))

checked-numbers : (drivers bits : ℕ) (inputs : List Input) (now : ℕ) (on : Bool) (st : State) (steps : List CheckStep) → All (CheckIsOfCell bits) steps → All (EffectIsOfCell drivers bits) st.effects → All (EffectIsOfCell drivers bits) (checked inputs on now st steps).effects
checked-numbers drivers bits inputs now true st steps are before = checks-numbers drivers bits inputs now st steps are before
checked-numbers drivers bits inputs now false st steps are before = before

-- ---- path delays

message-numbers : (drivers bits port : ℕ) (b : Bool) → port < bits → All (EffectIsOfCell drivers bits) (if b then effect.Glitch port ∷ [] else [])
message-numbers drivers bits port true of = All-cons (EffectIsOfCell drivers bits) (effect.Glitch port) [] of (All-nil (EffectIsOfCell drivers bits))
message-numbers drivers bits port false of = All-nil (EffectIsOfCell drivers bits)

second-numbers : (drivers bits driver : ℕ) (second : Option Send) → driver < drivers → All (EffectIsOfCell drivers bits) (option_to_list (option_map (λ send. effect.Assign driver send) second))
second-numbers drivers bits driver None of = All-nil (EffectIsOfCell drivers bits)
second-numbers drivers bits driver (Some send) of = All-cons (EffectIsOfCell drivers bits) (effect.Assign driver send) [] of (All-nil (EffectIsOfCell drivers bits))

found-numbers : (drivers bits : ℕ) (d : PathDelayStep) (msg_on : Bool) (out : Option GlitchOut) → DelayIsOfCell drivers bits d → All (EffectIsOfCell drivers bits) (option_map_or (said d msg_on) out [])
found-numbers drivers bits d msg_on None of = All-nil (EffectIsOfCell drivers bits)
found-numbers drivers bits d msg_on (Some out) of =
    All-append (EffectIsOfCell drivers bits) _ (sent d.driver out) (message-numbers drivers bits d.out_signal (out.glitched && msg_on) of.1)
    (All-cons (EffectIsOfCell drivers bits) (effect.Assign d.driver out.first) _ of.0 (second-numbers drivers bits d.driver out.second of.0))

delays-numbers : (drivers bits : ℕ) (inputs : List Input) (now : ℕ) (st : State) (steps : List PathDelayStep) → All (DelayIsOfCell drivers bits) steps → All (EffectIsOfCell drivers bits) st.effects → All (EffectIsOfCell drivers bits) (fold (delay_step inputs now) st steps).effects
delays-numbers drivers bits inputs now st [] are before = before
delays-numbers drivers bits inputs now st (step ∷ steps) are before =
    delays-numbers drivers bits inputs now (delay_step inputs now st step) steps (All-tail (DelayIsOfCell drivers bits) step steps are)
    (All-append (EffectIsOfCell drivers bits) st.effects _ before (found-numbers drivers bits step _ _ (All-head (DelayIsOfCell drivers bits) step steps are)))

-- ---- processes

wire-numbers : (drivers bits : ℕ) (w : WireStep) (o : Option Input) → w.driver < drivers → All (EffectIsOfCell drivers bits) (option_map_or (wire_sent w) o [])
wire-numbers drivers bits w None of = All-nil (EffectIsOfCell drivers bits)
wire-numbers drivers bits w (Some i) of = All-cons (EffectIsOfCell drivers bits) _ [] of (All-nil (EffectIsOfCell drivers bits))

pub activation-numbers : (drivers bits : ℕ) (inputs : List Input) (checks_on : Bool) (now : ℕ) (slots : List Slot) (steps : Executed) → StepsAreOfCell drivers bits steps → All (EffectIsOfCell drivers bits) (activation inputs checks_on now slots steps).effects
activation-numbers drivers bits inputs checks_on now slots (executed.Wire w) of = wire-numbers drivers bits w (slice_get inputs w.port) of
activation-numbers drivers bits inputs checks_on now slots (executed.Process p) are =
    let began : State = record { slots = slots; effects = [] } in
    let st = checked inputs checks_on now began p.checks in
    delays-numbers drivers bits inputs now (after_functionality inputs p.functionality st) p.path_delays are.1
    (checked-numbers drivers bits inputs now checks_on began p.checks are.0 (All-nil (EffectIsOfCell drivers bits)))
