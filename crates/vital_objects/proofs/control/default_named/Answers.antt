use Rattle.std.proofs.Common.{sym, ◌∙◌, ap}
use Rattle.std.specs.Option.{option_and_then, option_map}
use Rattle.vital_objects.proofs.Turns.{find_seen}
use Rattle.vital_objects.specs.Controls.{default_control, is_named}
use Rattle.vital_typed_declarations.specs.Declarations.{lent_sited}
use Rattle.vital_objects.proofs.control.default_named.Goals as goal

pub returns-in_ok-control-in-Some : goal.returns-in_ok-control-in-Some
returns-in_ok-control-in-Some c =
    c.in_ok-control-in-Some.ensures
    ∙ ap (option_and_then (default_control c.args.reader.now.names.now c.args.reader.now.faults.now))
    (ap (option_map lent_sited) c.in-Some.ensures ∙ sym (find_seen lent_sited (is_named c.args.name.now) c.args.generics.now))

pub returns-in-None : goal.returns-in-None
returns-in-None c =
    ap (option_and_then (default_control c.args.reader.now.names.now c.args.reader.now.faults.now))
    (ap (option_map lent_sited) c.in-None.ensures ∙ sym (find_seen lent_sited (is_named c.args.name.now) c.args.generics.now))
