-- The program of a cell with what a process of it sees and does.
use Rattle.std.specs.Prelude.{◌^◌, ◌<◌, ℕ, List, map, slice_get}
use Rattle.std.specs.Option.{option_map_or}
use Rattle.vital_machine.specs.declared.effect.Effect.{Effect}
use Rattle.vital_machine.specs.declared.input.Input.{Input}
use Rattle.vital_machine.specs.EffectLists.{EffectList}
use Rattle.vital_machine.specs.Fits.{FitsEffects, FitsInputs}
use Rattle.vital_machine.specs.Inputs.{absent}
use Rattle.vital_machine.specs.Programs.{ProgramParts}
use Rattle.vital_kernel.specs.Processes.{input}
use Rattle.vital_signals.specs.declared.signal.Signal.{Signal}

-- The program, and what the process of it did that ran last.
pub record ProgramState : Type 0 where
  pub program : ProgramParts
  pub effects : List Effect

-- What a process sees of bits whose signals have these numbers, at a time.
abbrev pub seen : ℕ → List Signal → List ℕ → List Input
seen now signals wires = map (λ number. option_map_or (input now) (slice_get signals number) absent) wires

-- There is room for what a process of a program sees and does, and its bits can be numbered by a u32.
pub record HasRoom (program : ProgramParts) (inputs : List Input) (effects : EffectList) : Type 0 where
  pub one_each : FitsInputs program inputs
  pub room : FitsEffects program effects
  pub few : program.bits < 2 ^ 32
