use Rattle.std.proofs.Common.{◌^◌, [], ◌++◌, map, subst, sym, ap}
use Rattle.std.specs.Prelude.{All}
use Rattle.std.specs.Option.{option_map_or}
use Rattle.std.proofs.lemmas.List.Elements.{All-append, All-map, All-same}
use Rattle.vital_machine.specs.declared.steps.PathStep.{PathStep}
use Rattle.vital_machine.specs.EffectLists.{EffectList}
use Rattle.vital_machine.specs.Fits.{EndsInTime}
use Rattle.vital_machine.specs.Machine.{said, timed}
use Rattle.vital_machine.specs.Seen.{Seen}
use Rattle.vital_machine.proofs.EffectLemmas.{found-ends}
use Rattle.vital_path_delay.specs.declared.path.Path.{Path}
use Rattle.vital_path_delay.specs.Within.{IsWithin}
use Rattle.vital_machine.proofs.path_delays.delay.Goals as goal

pub find_out_at-out-requires-clause-paths : goal.find_out_at-out-requires-clause-paths
find_out_at-out-requires-clause-paths c =
    let s : Seen = record { inputs = c.args.inputs.now; slots = c.args.slots.now } in
    let IsShort : Path → Type 0 = λ p. IsWithin (2 ^ 50) p.delay in
    let IsShortStep : PathStep → Type 0 = λ p. IsWithin (2 ^ 50) p.delay in
    All-same IsShort c.put_paths.new.places (map (timed s) c.as_slice.result.now) c.put_paths.ensures
    (All-map IsShort (timed s) c.as_slice.result.now (subst (All IsShortStep) (sym c.as_slice.ensures) c.requires.short.0))

pub returns-clause-ends : goal.returns-clause-ends
returns-clause-ends c ends =
    let Ends = EndsInTime c.args.now in
    let more = option_map_or (said c.args.step.now c.truth-msg_on.result) c.find_out_at-out.result [] in
    All-same Ends c.put_found.new.effects.listed (c.args.effects.now.listed ++ more) (ap (λ (e : EffectList). e.listed) c.put_found.ensures)
    (All-append Ends c.args.effects.now.listed more ends
    (found-ends c.args.now c.args.step.now c.truth-msg_on.result c.find_out_at-out.result c.find_out_at-out.ensures.first_time c.find_out_at-out.ensures.second_time))
