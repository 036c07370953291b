-- Lists of effects with room for so many.
use Rattle.std.specs.Prelude.{ℕ, List}
use Rattle.vital_machine.specs.declared.effect.Effect.{Effect}

pub record EffectList : Type 0 where
  pub listed : List Effect
  pub room : ℕ
