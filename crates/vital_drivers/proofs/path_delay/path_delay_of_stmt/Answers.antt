use Rattle.std.proofs.Common.{Some, ◌∙◌, ap}
use Rattle.std.specs.Option.{option_and_then}
use Rattle.vital_nodes.specs.Places.{place_of_stmt}
use Rattle.vital_calls.specs.Calls as calls
use Rattle.vital_drivers.specs.PathDelays.{path_delay}
use Rattle.vital_drivers.proofs.path_delay.path_delay_of_stmt.Goals as goal

pub returns : goal.returns
returns c =
    let cell = c.args.names.now in
    let process = Some c.args.process.now in
    c.path_delay.ensures
    ∙ ap (λ place. path_delay cell process place (calls.lent c.in_ok-call_of_stmt.field-0)) c.place.ensures
    ∙ ap (option_and_then (path_delay cell process (place_of_stmt c.args.stmt.now))) c.in_ok-call_of_stmt.ensures
