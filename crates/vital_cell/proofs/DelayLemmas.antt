-- Numbered path delays stand for those of a process.
use Rattle.std.proofs.Common.{◌≡◌, ℕ, true, List, [], ◌∷◌, ◌++◌, map, refl, sym, ◌∙◌, ap}
use Rattle.std.specs.Prelude.{Bool, ◌&&◌, cond, slice_get, unwrap_or, Option, Some, None}
use Rattle.std.specs.List.{AllZip, fold, list_all}
use Rattle.std.specs.Option.{option_map_or}
use Rattle.std.proofs.lemmas.Bool.{false≢true}
use Rattle.vital_actuals.specs.declared.actual.Path.{Path}
use Rattle.vital_cell.specs.Statements as E
use Rattle.vital_cell.specs.Times.{delay_worth}
use Rattle.vital_cell.specs.Variables as variables
use Rattle.vital_logic.specs.declared.level.Level.{Level}
use Rattle.vital_machine.specs.declared.effect.Effect.TheVariants as effect
use Rattle.vital_machine.specs.declared.input.Input.{Input}
use Rattle.vital_machine.specs.declared.slot.Slot.{Slot}
use Rattle.vital_machine.specs.declared.slot.Slot.TheVariants as slot
use Rattle.vital_machine.specs.declared.steps.PathDelayStep.{PathDelayStep}
use Rattle.vital_machine.specs.declared.steps.PathStep.{PathStep}
use Rattle.vital_machine.specs.Fits.{kind_of, kinds_of}
use Rattle.vital_machine.specs.Machine as M
use Rattle.vital_machine.specs.Seen.{Seen, age}
use Rattle.vital_machine.specs.Trees as N
use Rattle.vital_objects.specs.declared.variable.VariableKind.{VariableKind}
use Rattle.vital_objects.specs.declared.variable.VariableKind.TheVariants as kind
use Rattle.vital_operands.specs.declared.tree.DelayExpr.{DelayExpr}
use Rattle.vital_operands.specs.declared.tree.DelayExpr.TheVariants as delays
use Rattle.vital_path_delay.specs.declared.glitch_data.GlitchData.{GlitchData}
use Rattle.vital_path_delay.specs.declared.path.Path.{Path as TimedPath}
use Rattle.vital_path_delay.specs.declared.send.GlitchOut.{GlitchOut}
use Rattle.vital_path_delay.specs.Calls.{path_delay}
use Rattle.vital_path_delay.specs.Kept as glitches
use Rattle.vital_sections.specs.declared.path_delay.PathDelay.{PathDelay}
use Rattle.vital_typed_cells.specs.Named.{is_glitch_data, variable_is}
use Rattle.vital_typed_cells.specs.SoundActuals.{is_sound_path}
use Rattle.vital_typed_cells.specs.SoundStatements.{is_sound_path_delay}
use Rattle.vital_typed_cells.specs.Trees.{is_sound_boolean, is_sound_delay, is_sound_level}
use Rattle.vital_cell.specs.Formed.{IsFormed}
use Rattle.vital_cell.specs.Kinds.{AreOfKinds, is_of_kind}
use Rattle.vital_cell.specs.Named.{by_name, named}
use Rattle.vital_cell.specs.Scopes.{Scope, bit_of, names_at, names_of, names_of_variables, present}
use Rattle.vital_cell.specs.Sound.{has_bit, statement_tests, tests}
use Rattle.vital_cell.specs.Steps.{IsDelayStep, IsPathStep, delay_of}
use Rattle.vital_cell.proofs.ChangeLemmas.{kinds-changed, named-changed, read-there}
use Rattle.vital_cell.proofs.CheckPartLemmas.{state-same}
use Rattle.vital_cell.proofs.FitsLemmas.{fits-kinds, kinds-suit}
use Rattle.vital_cell.proofs.KindLemmas.{found-variable}
use Rattle.vital_cell.proofs.NameLemmas.{age-there}
use Rattle.vital_cell.proofs.SoundLemmas.{first-holds, second-holds}
use Rattle.vital_timing.specs.declared.delay.Delay.{Delay}
use Rattle.vital_timing.specs.declared.delay.DelayType.{DelayType}
use Rattle.vital_timing.specs.declared.glitch_mode.GlitchMode.{GlitchMode}
use Rattle.vital_typed_cells.specs.Bits.{number_of}
use Rattle.vital_typed_cells.specs.Expressions as T

-- ---- paths

delay-same : (k : Scope) (inputs : List Input) (slots : List variables.Slot) (t : DelayExpr) → delay_of k t ≡ delay_worth (names_at k inputs slots) t
delay-same k inputs slots (delays.Literal d) = refl
delay-same k inputs slots (delays.Generic name) = refl
delay-same k inputs slots (delays.Constant name) = refl

path-same : (k : Scope) (s : Seen) (now : ℕ) (d : DelayType) (p : Path) (x : PathStep) → IsFormed k → AreOfKinds k.variables s.slots → is_sound_path (tests k) d p ≡ true → IsPathStep k p x → M.timed s x ≡ E.timed (names_of k s) (present k now s.inputs) p
path-same k s now d p x formed are sound is =
    let e = names_of k s in
    let there = first-holds (has_bit k p.signal) (is_sound_delay (tests k) d p.delay && is_sound_boolean (tests k) p.condition) sound in
    ap (λ n. record { age = age s n; delay = x.delay; on = N.truth s x.condition }) is.signal
    ∙ ap (λ n. record { age = n; delay = x.delay; on = N.truth s x.condition }) (age-there k s p.signal there)
    ∙ ap (λ n. record { age = (present k now s.inputs).age p.signal; delay = n; on = N.truth s x.condition }) (is.delay ∙ delay-same k s.inputs (named (names_of_variables k) s.slots) p.delay)
    ∙ ap (λ n. record { age = (present k now s.inputs).age p.signal; delay = delay_worth e p.delay; on = n }) (is.condition s (fits-kinds k s formed.distinct are))

paths-same : (k : Scope) (s : Seen) (now : ℕ) (d : DelayType) (ps : List Path) (xs : List PathStep) → IsFormed k → AreOfKinds k.variables s.slots → list_all (is_sound_path (tests k) d) ps ≡ true → AllZip (IsPathStep k) ps xs → map (M.timed s) xs ≡ map (E.timed (names_of k s) (present k now s.inputs)) ps
paths-same k s now d [] [] formed are sound is = refl
paths-same k s now d [] (x ∷ xs) formed are sound is = absurd is
paths-same k s now d (p ∷ ps) [] formed are sound is = absurd is
paths-same k s now d (p ∷ ps) (x ∷ xs) formed are sound is =
    let a = is_sound_path (tests k) d p in
    let b = list_all (is_sound_path (tests k) d) ps in
    ap (λ y. y ∷ map (M.timed s) xs) (path-same k s now d p x formed are (first-holds a b sound) is.0)
    ∙ ap (λ ys. E.timed (names_of k s) (present k now s.inputs) p ∷ ys) (paths-same k s now d ps xs formed are (second-holds a b sound) is.1)

-- ---- a path delay

run-kept : (x : PathDelayStep) (paths : List TimedPath) (on : Bool) (now : ℕ) (l : Level) (held : Slot) → kind_of (M.delay_of x paths on now l held).0 ≡ kind_of held
run-kept x paths on now l (slot.Glitch kept) = refl
run-kept x paths on now l (slot.Level a) = refl
run-kept x paths on now l (slot.X01 a) = refl
run-kept x paths on now l (slot.Vector a) = refl
run-kept x paths on now l (slot.SetupHold a) = refl
run-kept x paths on now l (slot.RecRem a) = refl
run-kept x paths on now l (slot.PeriodPulse a) = refl

said-same : (k : Scope) (e : T.Names) (d : PathDelay) (x : PathDelayStep) (now driver : ℕ) (inputs : List Input) (on : Bool) (o : Option GlitchOut)
    → x.driver ≡ driver → x.out_signal ≡ bit_of k d.out_signal → on ≡ T.truth e d.msg_on
    → option_map_or (M.said x on) o [] ≡ E.effects_of e (present k now inputs) d driver o
said-same k e d x now driver inputs on None driver-is signal-is on-is = refl
said-same k e d x now driver inputs on (Some out) driver-is signal-is on-is =
    ap (λ b. cond (out.glitched && b) (effect.Glitch x.out_signal ∷ []) [] ++ M.sent x.driver out) on-is
    ∙ ap (λ n. cond (out.glitched && T.truth e d.msg_on) (effect.Glitch n ∷ []) [] ++ M.sent x.driver out) signal-is
    ∙ ap (λ n. cond (out.glitched && T.truth e d.msg_on) (effect.Glitch (bit_of k d.out_signal) ∷ []) [] ++ M.sent n out) driver-is

abbrev delay_done : List TimedPath → Delay → GlitchMode → Bool → ℕ → GlitchData → Level → variables.Held × Option GlitchOut
delay_done paths default mode on now kept l = let done = path_delay paths default mode on now kept l in (variables.Glitch done.kept, done.out)

-- What the path delay by names leaves and sends.
abbrev done_by_name : Scope → Seen → ℕ → PathDelay → variables.Held × Option GlitchOut
done_by_name k s now d =
    let e = names_of k s in
    delay_done (map (E.timed e (present k now s.inputs)) d.paths) (delay_worth e d.default_delay) d.mode (T.truth e d.x_on) now (variables.glitch_of (named (names_of_variables k) s.slots) d.glitch_data) (T.level e d.out_temp)

abbrev done_by_number : Seen → ℕ → PathDelayStep → GlitchData → variables.Held × Option GlitchOut
done_by_number s now x kept = delay_done (map (M.timed s) x.paths) x.default_delay x.mode (N.truth s x.x_on) now kept (N.level s x.out_temp)

done-same : (k : Scope) (s : Seen) (now : ℕ) (d : ℕ × PathDelay) (x : PathDelayStep) (kept : GlitchData) (number : ℕ)
    → IsFormed k → AreOfKinds k.variables s.slots → list_all (is_sound_path (tests k) d.1.delay_type) d.1.paths ≡ true → IsDelayStep k d x
    → number_of (names_of_variables k) d.1.glitch_data ≡ Some number → slice_get s.slots number ≡ Some (slot.Glitch kept)
    → done_by_number s now x kept ≡ done_by_name k s now d.1
done-same k s now d x kept number formed are sound is numbered at =
    let e = names_of k s in
    let fits = fits-kinds k s formed.distinct are in
    let kept-is = read-there variables.glitch_in glitches.start (names_of_variables k) s.slots d.1.glitch_data number (slot.Glitch kept) numbered at in
    let paths = map (E.timed e (present k now s.inputs)) d.1.paths in
    let default = delay_worth e d.1.default_delay in
    let glitch = variables.glitch_of (named (names_of_variables k) s.slots) d.1.glitch_data in
    ap (λ y. delay_done y x.default_delay x.mode (N.truth s x.x_on) now kept (N.level s x.out_temp)) (paths-same k s now d.1.delay_type d.1.paths x.paths formed are sound is.paths)
    ∙ ap (λ y. delay_done paths y x.mode (N.truth s x.x_on) now kept (N.level s x.out_temp)) (is.default_delay ∙ delay-same k s.inputs (named (names_of_variables k) s.slots) d.1.default_delay)
    ∙ ap (λ y. delay_done paths default y (N.truth s x.x_on) now kept (N.level s x.out_temp)) is.mode
    ∙ ap (λ y. delay_done paths default d.1.mode y now kept (N.level s x.out_temp)) (is.x_on s fits)
    ∙ ap (λ y. delay_done paths default d.1.mode (T.truth e d.1.x_on) now y (N.level s x.out_temp)) (sym kept-is)
    ∙ ap (λ y. delay_done paths default d.1.mode (T.truth e d.1.x_on) now glitch y) (is.out_temp s fits)

abbrev Done : Type 0
Done = variables.Held × Option GlitchOut

delay-with : (k : Scope) (d : ℕ × PathDelay) (x : PathDelayStep) (st : M.State) (now : ℕ) (inputs : List Input) (number : ℕ) (q : VariableKind) (held : Slot)
    → IsFormed k → AreOfKinds k.variables st.slots → list_all (is_sound_path (tests k) d.1.delay_type) d.1.paths ≡ true → IsDelayStep k d x
    → number_of (names_of_variables k) d.1.glitch_data ≡ Some number → slice_get st.slots number ≡ Some held → is_glitch_data q ≡ true → is_of_kind q held ≡ true
    → by_name (names_of_variables k) (M.delay_step inputs now st x) ≡ E.delayed (present k now inputs) (by_name (names_of_variables k) st) d
delay-with k d x st now inputs number kind.GlitchData (slot.Glitch kept) formed are sound is numbered at passes suits =
    let s : Seen = record { inputs = inputs; slots = st.slots } in
    let e = names_of k s in
    let run = M.delay_of x (map (M.timed s) x.paths) (N.truth s x.x_on) now (N.level s x.out_temp) in
    let change : Slot → Slot = λ h. (run h).0 in
    let done = done-same k s now d x kept number formed are sound is numbered at in
    let by = done_by_name k s now d.1 in
    let number-is : x.glitch_data ≡ number = is.glitch_data ∙ ap (λ o. unwrap_or o 0) numbered in
    let slots-are : named (names_of_variables k) (M.changed x.glitch_data change st.slots) ≡ variables.with_held d.1.glitch_data (λ old. by.0) (named (names_of_variables k) st.slots) =
    ap (λ n. named (names_of_variables k) (M.changed n change st.slots)) number-is
    ∙ named-changed (names_of_variables k) st.slots d.1.glitch_data number (slot.Glitch kept) change (λ old. by.0) formed.distinct numbered at (ap (λ (y : Done). y.0) done) in
    let said-is : st.effects ++ option_map_or (M.said x (N.truth s x.msg_on)) (M.given_by x.glitch_data run st.slots) [] ≡ st.effects ++ E.effects_of e (present k now inputs) d.1 d.0 by.1 =
    ap (λ n. st.effects ++ option_map_or (M.said x (N.truth s x.msg_on)) (M.given_by n run st.slots) []) number-is
    ∙ ap (λ o. st.effects ++ option_map_or (M.said x (N.truth s x.msg_on)) (option_map_or (λ h. (run h).1) o None) []) at
    ∙ ap (λ (y : Done). st.effects ++ option_map_or (M.said x (N.truth s x.msg_on)) y.1 []) done
    ∙ ap (λ es. st.effects ++ es) (said-same k e d.1 x now d.0 inputs (N.truth s x.msg_on) by.1 is.driver is.out_signal (is.msg_on s (fits-kinds k s formed.distinct are))) in
    state-same _ _ _ _ slots-are said-is
delay-with k d x st now inputs number kind.GlitchData held formed are sound is numbered at passes suits = absurd (false≢true suits)
delay-with k d x st now inputs number (kind.Level a) held formed are sound is numbered at passes suits = absurd (false≢true passes)
delay-with k d x st now inputs number (kind.X01 a) held formed are sound is numbered at passes suits = absurd (false≢true passes)
delay-with k d x st now inputs number (kind.Vector n a) held formed are sound is numbered at passes suits = absurd (false≢true passes)
delay-with k d x st now inputs number kind.TimingData held formed are sound is numbered at passes suits = absurd (false≢true passes)
delay-with k d x st now inputs number kind.PeriodData held formed are sound is numbered at passes suits = absurd (false≢true passes)

pub delay-stands : (k : Scope) (d : ℕ × PathDelay) (x : PathDelayStep) (st : M.State) (now : ℕ) (inputs : List Input)
    → IsFormed k → AreOfKinds k.variables st.slots → is_sound_path_delay (statement_tests k) d.1 ≡ true → IsDelayStep k d x
    → by_name (names_of_variables k) (M.delay_step inputs now st x) ≡ E.delayed (present k now inputs) (by_name (names_of_variables k) st) d
delay-stands k d x st now inputs formed are sound is =
    let b = variable_is is_glitch_data k.variables d.1.glitch_data in
    let c = is_sound_level (tests k) d.1.out_temp in
    let paths = list_all (is_sound_path (tests k) d.1.delay_type) d.1.paths in
    let rest = is_sound_delay (tests k) d.1.delay_type d.1.default_delay && (is_sound_boolean (tests k) d.1.x_on && is_sound_boolean (tests k) d.1.msg_on) in
    let f = found-variable is_glitch_data k.variables st.slots d.1.glitch_data formed.distinct are (first-holds b (c && (paths && rest)) sound) in
    delay-with k d x st now inputs f.number f.kind f.held formed are (first-holds paths rest (second-holds c (paths && rest) (second-holds b (c && (paths && rest)) sound))) is f.numbered f.there f.passes f.suits

pub delay-kept : (inputs : List Input) (now : ℕ) (st : M.State) (x : PathDelayStep) → kinds_of (M.delay_step inputs now st x).slots ≡ kinds_of st.slots
delay-kept inputs now st x =
    let s : Seen = record { inputs = inputs; slots = st.slots } in
    let run = M.delay_of x (map (M.timed s) x.paths) (N.truth s x.x_on) now (N.level s x.out_temp) in
    kinds-changed (λ h. (run h).0) (run-kept x (map (M.timed s) x.paths) (N.truth s x.x_on) now (N.level s x.out_temp)) x.glitch_data st.slots

-- ---- all path delays

pub delays-stand : (k : Scope) (ds : List (ℕ × PathDelay)) (xs : List PathDelayStep) (st : M.State) (now : ℕ) (inputs : List Input)
    → IsFormed k → AreOfKinds k.variables st.slots → list_all (λ d. is_sound_path_delay (statement_tests k) d.1) ds ≡ true → AllZip (IsDelayStep k) ds xs
    → by_name (names_of_variables k) (fold (M.delay_step inputs now) st xs) ≡ fold (E.delayed (present k now inputs)) (by_name (names_of_variables k) st) ds
delays-stand k [] [] st now inputs formed are sound is = refl
delays-stand k [] (x ∷ xs) st now inputs formed are sound is = absurd is
delays-stand k (d ∷ ds) [] st now inputs formed are sound is = absurd is
delays-stand k (d ∷ ds) (x ∷ xs) st now inputs formed are sound is =
    let a = is_sound_path_delay (statement_tests k) d.1 in
    let b = list_all (λ (y : ℕ × PathDelay). is_sound_path_delay (statement_tests k) y.1) ds in
    let next = M.delay_step inputs now st x in
    delays-stand k ds xs next now inputs formed (kinds-suit k.variables next.slots st.slots (delay-kept inputs now st x) are) (second-holds a b sound) is.1
    ∙ ap (λ y. fold (E.delayed (present k now inputs)) y ds) (delay-stands k d x st now inputs formed are (first-holds a b sound) is.0)

pub delays-kept : (inputs : List Input) (now : ℕ) (st : M.State) (xs : List PathDelayStep) → kinds_of (fold (M.delay_step inputs now) st xs).slots ≡ kinds_of st.slots
delays-kept inputs now st [] = refl
delays-kept inputs now st (x ∷ xs) = delays-kept inputs now (M.delay_step inputs now st x) xs ∙ delay-kept inputs now st x
