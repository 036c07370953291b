use Rattle.std.proofs.Common.{◌≡◌, rules}
use Rattle.vital_cell.proofs.NumberLemmas.{number-within}
use Rattle.vital_typed_cells.specs.Bits.{number_of}
use Rattle.vital_cell.proofs.name_numbers.NameNumbers.number.Goals as goal

pub returns : goal.returns
returns c =
    let is : c.copied.result ≡ number_of c.args.self.now c.args.name.now = search rules in
    record { number = is; there = number-within c.args.self.now c.args.name.now c.copied.result is }
