use Rattle.std.proofs.Common.{arith}
use Rattle.std.proofs.lemmas.Option.{slice_get_read}
use Rattle.vital_cell.specs.Programs.{StandsFor}
use Rattle.vital_kernel.specs.Networks.{lent_cell}
use Rattle.vital_kernel.proofs.ListLemmas.{some-within}
use Rattle.vital_kernel.proofs.StartLemmas.{one-more}
use Rattle.vital_kernel.proofs.instances.put_instance.Goals as goal

pub returns-clause-put : goal.returns-clause-put
returns-clause-put c =
    let cell = lent_cell c.args.cell.now in
    let programs = c.program_number.new.programs in
    let number = c.in_ok-program.program in
    let stands = c.in_ok-program.ensures.stands in
    let within = some-within (λ p. StandsFor p.program cell.tree cell.delays) programs.items number stands in
    let at = slice_get_read programs.items programs.len number c.index.result.now programs.ok.0 (omega (arith, within, programs.ok.0)) c.index.ensures in
    one-more cell programs.items number c.index.result.now c.in_ok-store.store c.args.instances.now.items c.push.new.self.items at stands c.in_ok-store.ensures.first (λ now le. c.in_ok-store.ensures.fits now) c.in_ok-push.ensures.items
