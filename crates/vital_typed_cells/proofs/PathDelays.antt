-- Path delays are sound.
use Rattle.std.proofs.Common.{◌≡◌, true}
use Rattle.std.specs.Prelude.{IfSome, codes}
use Rattle.std.specs.List.{list_all}
use Rattle.vital_calls.specs.declared.actual_form.ActualForm.TheVariants as form
use Rattle.vital_sections.specs.declared.path_delay.PathDelay.{PathDelay}
use Rattle.vital_sections.specs.Given.{GivenCall, delay_given, level_given, name_given, paths_given, truth_given}
use Rattle.vital_sections.specs.PathDelays.{path_delay, path_delay_with, with_data, with_level, with_paths}
use Rattle.vital_timing.specs.declared.delay.DelayType.{DelayType}
use Rattle.vital_typed_cells.specs.Trees.{is_sound_boolean, is_sound_delay, is_sound_level}
use Rattle.vital_typed_cells.proofs.Outcomes.{if-and-then, if-map}
use Rattle.vital_typed_cells.proofs.ExprTests.{both-true}
use Rattle.vital_typed_cells.specs.ActualScopes.{ActualScope}
use Rattle.vital_typed_cells.specs.SoundActuals.{is_sound_name, is_sound_path}
use Rattle.vital_typed_cells.specs.SoundStatements.{is_sound_path_delay}
use Rattle.vital_typed_cells.proofs.SectionGiven.{IsCallIn, delay-given, level-given, name-given, paths-given, truth-given}

abbrev pub SoundPathDelay : ActualScope → PathDelay → Type 0
SoundPathDelay s k = is_sound_path_delay s k ≡ true

pub path-delay-sound : (s : ActualScope) (k : GivenCall) (d : DelayType) → IsCallIn s k → IfSome (path_delay k d) (SoundPathDelay s)
path-delay-sound s k d in-call =
    if-and-then (λ n. is_sound_name s form.OutPort n ≡ true) (SoundPathDelay s) (with_data k d) (name_given k (codes "outsignal") form.OutPort) (name-given s k (codes "outsignal") form.OutPort in-call)
    (λ out driven. if-and-then (λ n. is_sound_name s form.GlitchData n ≡ true) (SoundPathDelay s) (with_level k d out) (name_given k (codes "glitchdata") form.GlitchData) (name-given s k (codes "glitchdata") form.GlitchData in-call)
    (λ glitch kept. if-and-then (λ t. is_sound_level s.names t ≡ true) (SoundPathDelay s) (with_paths k d out glitch) (level_given k (codes "outtemp")) (level-given s k (codes "outtemp") in-call)
    (λ temp leveled. if-map (λ ps. list_all (is_sound_path s.names d) ps ≡ true) (SoundPathDelay s) (path_delay_with k d out glitch temp) (paths_given k d) (paths-given s k d in-call)
    (λ ps hold.
    both-true (s.has_output out) _ driven
    (both-true (s.has_glitch_data glitch) _ kept
    (both-true (is_sound_level s.names temp) _ leveled
    (both-true (list_all (is_sound_path s.names d) ps) _ hold
    (both-true (is_sound_delay s.names d (delay_given k (codes "defaultdelay") d)) _ (delay-given s k (codes "defaultdelay") d in-call)
    (both-true (is_sound_boolean s.names (truth_given k (codes "xon"))) _ (truth-given s k (codes "xon") in-call) (truth-given s k (codes "msgon") in-call))))))))))
