-- What constants are worth, as it is borrowed.
use Rattle.vital_cell.specs.declared.worth.Worth.{Worth as Worth'}
use Rattle.vital_cell.specs.declared.worth.Worth.TheVariants as worth
use Rattle.vital_typed_cells.specs.Expressions.{Delay', Level', Rows, Time, Truth, Worth}

abbrev pub lent : Worth' → Worth
lent (worth.Level l) = Level' l
lent (worth.Truth b) = Truth b
lent (worth.Time t) = Time t
lent (worth.Delay d) = Delay' d
lent (worth.Rows rows) = Rows rows.now
