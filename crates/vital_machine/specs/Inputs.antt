-- What a bit is of which nothing is known.
use Rattle.vital_logic.specs.declared.level.Level.TheVariants.{U}
use Rattle.vital_machine.specs.declared.input.Input.{Input}

abbrev pub absent : Input
absent = record { value = U; last = U; age = 0 }
