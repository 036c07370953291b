-- The levels of a vector, each of which is known by its number without the others.
use Rattle.std.specs.Prelude.{◌<◌, List, [], length, replicate, ⊤}
use Rattle.std.specs.Option.{ForSome}
use Rattle.vital_machine.specs.declared.elements.Elements.{Elements}
use Rattle.vital_machine.specs.declared.elements.Elements.TheVariants as elements
use Rattle.vital_machine.specs.Slots.{levels_in}
use Rattle.vital_machine.specs.TruthTables.{results_by}
use Rattle.vital_logic.specs.declared.level.Level.{Level}

-- What is borrowed of them.
abbrev pub lent : Elements → List Level
lent (elements.Held slot) = levels_in slot.now
lent elements.Nothing = []
lent (elements.Listed levels) = levels.now
lent (elements.Same level n) = replicate n level
lent (elements.OfRow table row) = results_by table.now row

-- A row is one of its table.
abbrev pub HasRow : Elements → Type 0
HasRow (elements.OfRow table row) = ForSome row (λ r. r < length table.now.rows)
HasRow other = ⊤
