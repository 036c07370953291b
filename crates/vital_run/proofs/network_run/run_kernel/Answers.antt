use Rattle.vital_run.proofs.NetworkRuns.{ended_goes_on, passed_goes_on, run_breaks, run_ends, run_passes, run_stops, version_stops}
use Rattle.vital_run.proofs.network_run.run_kernel.Goals as goal

pub end_with-requires-clause-goes_on : goal.end_with-requires-clause-goes_on
end_with-requires-clause-goes_on g c =
    let k = c.args.kernel.now in
    ended_goes_on c.in-Ok-run_until.field-0 k c.run_until.new.self c.args.until c.args.limit (c.one_run.ensures k.network k.lines c.args.until c.args.limit)
    c.print.new.self c.run_until.new.printer c.requires.unbegun c.in-Ok-run_until.ensures.goes

pub end_with-requires-in-Err-DeltaLimit-clause-goes_on : goal.end_with-requires-in-Err-DeltaLimit-clause-goes_on
end_with-requires-in-Err-DeltaLimit-clause-goes_on g c =
    let k = c.args.kernel.now in
    passed_goes_on c.in-Err-DeltaLimit.time k c.run_until.new.self c.args.until c.args.limit (c.one_run.ensures k.network k.lines c.args.until c.args.limit)
    c.print.new.self c.run_until.new.printer c.requires.unbegun (rw c.in-Err-DeltaLimit.field-0-is at c.in-Err-DeltaLimit.ensures.goes)

pub returns-in-Ok-run_until : goal.returns-in-Ok-run_until
returns-in-Ok-run_until g c =
    let k = c.args.kernel.now in
    run_ends c.in-Ok-run_until.field-0 k c.run_until.new.self c.args.until c.args.limit (c.one_run.ensures k.network k.lines c.args.until c.args.limit) c.end_with.result
    c.args.printer.now c.print.new.self c.run_until.new.printer c.end_with.new.printer c.requires.unbegun c.requires.goes_on c.in-Ok.ensures.prints c.in-Ok-run_until.ensures.goes c.end_with.ensures

pub returns-in-Err-DeltaLimit : goal.returns-in-Err-DeltaLimit
returns-in-Err-DeltaLimit g c =
    let k = c.args.kernel.now in
    run_passes c.in-Err-DeltaLimit.time k c.run_until.new.self c.args.until c.args.limit (c.one_run.ensures k.network k.lines c.args.until c.args.limit) c.end_with-in-Err-DeltaLimit.result
    c.args.printer.now c.print.new.self c.run_until.new.printer c.end_with-in-Err-DeltaLimit.new.printer c.requires.unbegun c.requires.goes_on c.in-Ok.ensures.prints
    (rw c.in-Err-DeltaLimit.field-0-is at c.in-Err-DeltaLimit.ensures.goes) c.end_with-in-Err-DeltaLimit.ensures

pub returns-in-Err-WriteFault : goal.returns-in-Err-WriteFault
returns-in-Err-WriteFault g c =
    let k = c.args.kernel.now in
    run_stops k c.run_until.new.self c.args.until c.args.limit (c.one_run.ensures k.network k.lines c.args.until c.args.limit)
    c.args.printer.now c.print.new.self c.run_until.new.printer c.requires.unbegun c.requires.goes_on c.in-Ok.ensures.prints
    (rw c.in-Err-WriteFault.field-0-is at c.in-Err-WriteFault.ensures.goes)

pub returns-in-Err-NoMemory : goal.returns-in-Err-NoMemory
returns-in-Err-NoMemory g c =
    let k = c.args.kernel.now in
    run_breaks k c.run_until.new.self c.args.until c.args.limit (c.one_run.ensures k.network k.lines c.args.until c.args.limit)
    c.args.printer.now c.print.new.self c.run_until.new.printer c.requires.unbegun c.requires.goes_on c.in-Ok.ensures.prints
    (rw c.in-Err-NoMemory.field-0-is at c.in-Err-NoMemory.ensures.goes)

pub returns-in-Err : goal.returns-in-Err
returns-in-Err g c =
    let k = c.args.kernel.now in
    version_stops k c.args.until c.args.limit (c.one_run.ensures k.network k.lines c.args.until c.args.limit)
    c.args.printer.now c.print.new.self c.requires.goes_on c.in-Err.ensures.prints
