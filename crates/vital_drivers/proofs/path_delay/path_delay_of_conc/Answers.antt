use Rattle.std.proofs.Common.{None, ◌∙◌, ap}
use Rattle.std.specs.Option.{option_and_then}
use Rattle.vital_nodes.specs.Places.{place_of_conc}
use Rattle.vital_calls.specs.Calls as calls
use Rattle.vital_drivers.specs.PathDelays.{path_delay}
use Rattle.vital_drivers.proofs.path_delay.path_delay_of_conc.Goals as goal

pub returns : goal.returns
returns c =
    let cell = c.args.names.now in
    c.path_delay.ensures
    ∙ ap (λ place. path_delay cell None place (calls.lent c.in_ok-call_of_conc.field-0)) c.place.ensures
    ∙ ap (option_and_then (path_delay cell None (place_of_conc c.args.conc.now))) c.in_ok-call_of_conc.ensures
