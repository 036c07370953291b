use Rattle.std.proofs.Common.{◌<◌, length, refl, arith}
use Rattle.std.proofs.lemmas.Option.{slice_get_read}
use Rattle.vital_run.proofs.Elaborated.{answer_of_sim}
use Rattle.vital_answers.proofs.Printing.{stage_for}
use Rattle.vital_run.proofs.stages.run_sim.Goals as goal

pub returns : goal.returns
returns g c =
    let sim = c.args.sim.now in
    let files = c.args.files.now in
    let sources = c.args.sources.now in
    let file = c.index-files-sim.result in
    let source = c.index-sources-sim.result in
    let within : sim.stim < length sources = omega (arith, c.requires.stim, c.requires.count) in
    let named = slice_get_read files (length files) sim.stim file refl c.requires.stim c.index-files-sim.is in
    let read = slice_get_read sources (length sources) sim.stim source refl within c.index-sources-sim.is in
    stage_for _ _ _ _ _ c.elaborate_top.ensures
    (answer_of_sim sim files sources c.args.delays.now c.args.library.now file source c.as_slice.result.now c.as_slice-top.result.now named read c.as_slice.ensures c.as_slice-top.ensures)
