-- What is asked of path delays and checks is asked of their parts.
use Rattle.std.proofs.Common.{◌≡◌, true, List, [], ◌∷◌, refl, ◌∙◌, ap}
use Rattle.std.specs.Prelude.{◌&&◌}
use Rattle.std.specs.List.{list_all}
use Rattle.vital_actuals.specs.declared.actual.Path.{Path}
use Rattle.vital_sections.specs.declared.path_delay.PathDelay.{PathDelay}
use Rattle.vital_sections.specs.declared.timing_check.RecoveryRemovalCheck.{RecoveryRemovalCheck}
use Rattle.vital_sections.specs.declared.timing_check.TimingCheck.TheVariants as check
use Rattle.vital_typed_cells.specs.Named.{is_glitch_data, variable_is}
use Rattle.vital_typed_cells.specs.SoundActuals.{is_sound_path}
use Rattle.vital_typed_cells.specs.SoundStatements.{are_sound_parts, is_sound_check, is_sound_path_delay, is_sound_reference}
use Rattle.vital_typed_cells.specs.Trees.{is_sound_boolean, is_sound_delay, is_sound_level, is_sound_time}
use Rattle.vital_cell.specs.Scopes.{Scope}
use Rattle.vital_cell.specs.Sound.{has_bit, statement_tests, tests}
use Rattle.vital_cell.proofs.SoundLemmas.{first-holds, second-holds}
use Rattle.vital_timing.specs.declared.delay.DelayType.{DelayType}

conditions : (k : Scope) (d : DelayType) (ps : List Path) → list_all (is_sound_path (tests k) d) ps ≡ true → list_all (λ p. is_sound_boolean (tests k) p.condition) ps ≡ true
conditions k d [] all = refl
conditions k d (p ∷ ps) all =
    let b = is_sound_delay (tests k) d p.delay in
    let c = is_sound_boolean (tests k) p.condition in
    let others = list_all (is_sound_path (tests k) d) ps in
    let here = first-holds (has_bit k p.signal && (b && c)) others all in
    ap (λ x. x && list_all (λ (q : Path). is_sound_boolean (tests k) q.condition) ps) (second-holds b c (second-holds (has_bit k p.signal) (b && c) here))
    ∙ conditions k d ps (second-holds (has_bit k p.signal && (b && c)) others all)

-- The paths of a path delay, and what is behind them.
paths-on : (k : Scope) (d : PathDelay) → is_sound_path_delay (statement_tests k) d ≡ true
    → (list_all (is_sound_path (tests k) d.delay_type) d.paths && (is_sound_delay (tests k) d.delay_type d.default_delay && (is_sound_boolean (tests k) d.x_on && is_sound_boolean (tests k) d.msg_on))) ≡ true
paths-on k d sound =
    let b = variable_is is_glitch_data k.variables d.glitch_data in
    let c = is_sound_level (tests k) d.out_temp in
    let rest = list_all (is_sound_path (tests k) d.delay_type) d.paths && (is_sound_delay (tests k) d.delay_type d.default_delay && (is_sound_boolean (tests k) d.x_on && is_sound_boolean (tests k) d.msg_on)) in
    second-holds c rest (second-holds b (c && rest) sound)

pub delay-conditions : (k : Scope) (d : PathDelay) (ps : List Path) → ps ≡ d.paths → is_sound_path_delay (statement_tests k) d ≡ true → list_all (λ p. is_sound_boolean (tests k) p.condition) ps ≡ true
delay-conditions k d ps same sound =
    let paths = list_all (is_sound_path (tests k) d.delay_type) d.paths in
    let rest = is_sound_delay (tests k) d.delay_type d.default_delay && (is_sound_boolean (tests k) d.x_on && is_sound_boolean (tests k) d.msg_on) in
    ap (list_all (λ (p : Path). is_sound_boolean (tests k) p.condition)) same ∙ conditions k d.delay_type d.paths (first-holds paths rest (paths-on k d sound))

controls-on : (k : Scope) (d : PathDelay) → is_sound_path_delay (statement_tests k) d ≡ true → (is_sound_boolean (tests k) d.x_on && is_sound_boolean (tests k) d.msg_on) ≡ true
controls-on k d sound =
    let paths = list_all (is_sound_path (tests k) d.delay_type) d.paths in
    let e = is_sound_delay (tests k) d.delay_type d.default_delay in
    let rest = is_sound_boolean (tests k) d.x_on && is_sound_boolean (tests k) d.msg_on in
    second-holds e rest (second-holds paths (e && rest) (paths-on k d sound))

pub delay-x_on : (k : Scope) (d : PathDelay) → is_sound_path_delay (statement_tests k) d ≡ true → is_sound_boolean (tests k) d.x_on ≡ true
delay-x_on k d sound = first-holds (is_sound_boolean (tests k) d.x_on) (is_sound_boolean (tests k) d.msg_on) (controls-on k d sound)

pub delay-msg_on : (k : Scope) (d : PathDelay) → is_sound_path_delay (statement_tests k) d ≡ true → is_sound_boolean (tests k) d.msg_on ≡ true
delay-msg_on k d sound = second-holds (is_sound_boolean (tests k) d.x_on) (is_sound_boolean (tests k) d.msg_on) (controls-on k d sound)

-- ---- a check of recovery and removal

pub check-active_low : (k : Scope) (c : RecoveryRemovalCheck) → is_sound_check (statement_tests k) (check.RecoveryRemoval c) ≡ true → is_sound_boolean (tests k) c.active_low ≡ true
check-active_low k c sound =
    let a = are_sound_parts (statement_tests k) c.parts in
    let b = is_sound_reference (statement_tests k) c.reference in
    let r = is_sound_time (tests k) c.recovery in
    let m = is_sound_time (tests k) c.removal in
    let x = is_sound_boolean (tests k) c.active_low in
    second-holds m x (second-holds r (m && x) (second-holds b (r && (m && x)) (second-holds a (b && (r && (m && x))) sound)))
