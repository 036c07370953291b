-- What no function is.
use Rattle.std.proofs.Common.{◌≡◌, ℕ, List, Option, Some, None, false, refl, arith}
use Rattle.std.specs.Prelude.{is_some}
use Rattle.std.specs.Option.{option_and_then, option_map, option_or}
use Rattle.vital_nodes.specs.declared.decl.Object.{Object as Object'}
use Rattle.vital_names.specs.declared.predeclared.Predeclared.{Predeclared as Predeclared'}
use Rattle.vital_names.specs.Declarations.{Declared as Declared'}
use Rattle.vital_names.specs.Kinds.{as_function, function_meant}
use Rattle.vital_names.specs.Meanings.{Declared, Constant, Predeclared, constant_named, constants, declared, meaning}
use Rattle.vital_names.specs.Sites.{Cell, Site}
use Rattle.vital_names.specs.Words.{predeclared}

is-none : {A : Type 0} (o : Option A) → is_some o ≡ false → o ≡ None
is-none None h = refl
is-none (Some x) h = absurd (grind (arith, h))

not-meant : (d : Option Declared') (k : Option (ℕ × Object')) (w : Option Predeclared') → option_and_then as_function w ≡ None → option_and_then function_meant (option_or (option_map (λ x. Declared x) d) (option_or (option_map (λ (c : ℕ × Object'). Constant c.0 c.1) k) (option_map (λ p. Predeclared p) w))) ≡ None
not-meant (Some d) k w h = refl
not-meant None (Some k) w h = refl
not-meant None None None h = refl
not-meant None None (Some w) h = h

-- a name that is predeclared as no function means none
pub no-function : (name : List ℕ) (cell : Cell) (site : Site) → is_some (option_and_then as_function (predeclared name)) ≡ false → option_and_then function_meant (meaning name cell site) ≡ None
no-function name cell site h =
    not-meant (declared name cell site) (constant_named name (constants cell.files)) (predeclared name) (is-none (option_and_then as_function (predeclared name)) h)
