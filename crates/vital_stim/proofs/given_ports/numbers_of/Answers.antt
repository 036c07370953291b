use Rattle.std.proofs.Common.{◌∙◌, arith}
use Rattle.vital_stim.specs.GivenPorts.{number_in}
use Rattle.vital_stim.proofs.GivenLemmas.{number_of-more}
use Rattle.vital_stim.proofs.given_ports.numbers_of.Goals as goal

pub loop-number-preserved : goal.loop-number-preserved
loop-number-preserved c = λ name.
    c.in_ok-put_number.ensures name
    ∙ number_of-more c.args.ports.now c.loop-number.number c.index-ports-number.result c.as_slice.result.now name
    (number_in c.loop-number.numbers name) (omega arith) c.index-ports-number.is c.as_slice.ensures (c.loop-number.invariant name)
