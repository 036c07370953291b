use Rattle.std.proofs.Common.{ap}
use Rattle.std.specs.Option.{option_map}
use Rattle.vital_shapes.proofs.Files.{file_read, shape_read}
use Rattle.vital_shapes.proofs.laws.file_is_read.Goals as goal

pub returns-clause-shaped : goal.returns-clause-shaped
returns-clause-shaped c file text tokens tree d =
    let f = file_read file text tokens tree d in
    (f.units, ap (λ answer. option_map (λ read. read.0) answer) f.answers)

pub returns-clause-taken_whole : goal.returns-clause-taken_whole
returns-clause-taken_whole c file text tokens tree units d e = (shape_read file text tokens tree units d e).0
