use Rattle.std.proofs.Common.{◌^◌, arith}
use Rattle.vital_path_delay.proofs.call.path_delay.Goals as goal

pub glitch-requires-clause-time : goal.glitch-requires-clause-time
glitch-requires-clause-time c = omega (arith, c.select-delay.ensures.within (2 ^ 50) c.requires.paths c.requires.default)
