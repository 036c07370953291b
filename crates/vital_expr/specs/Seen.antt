-- Borrowed readers as what they read by.
use Rattle.vital_operands.specs.Seen as operands
use Rattle.vital_expr.specs.declared.reader.Reader.{Reader}
use Rattle.vital_expr.specs.Readings.{Context}

abbrev pub lent : Reader → Context
lent r = record { position = operands.lent r.position; faults = r.faults.now }
