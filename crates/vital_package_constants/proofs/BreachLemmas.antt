-- What is not there, and tests of nodes.
use Rattle.std.proofs.Common.{◌≡◌, List, map, refl, ◌∙◌, ap}
use Rattle.std.specs.Prelude.{Bool, true, false, not, is_none, is_some, Option, Some, None}
use Rattle.std.specs.List.{list_any}
use Rattle.std.specs.Option.{option_map}
use Rattle.vital_limits.proofs.ConstantLemmas.{any-map}
use Rattle.vital_nodes.specs.Nodes.{Node}

-- nothing is there where nothing is seen of it
pub none-seen : {A B : Type 0} (see : A → B) (o : Option A) (b : Bool) → is_some o ≡ not b → b ≡ is_none (option_map see o)
none-seen see None true e = refl
none-seen see None false e = e
none-seen see (Some x) true e = e
none-seen see (Some x) false e = refl

pub none-there : {A : Type 0} (o : Option A) (b : Bool) → is_some o ≡ not b → b ≡ is_none o
none-there None true e = refl
none-there None false e = e
none-there (Some x) true e = e
none-there (Some x) false e = refl

-- a test of one of the nodes of a constant
pub any-seen : {A : Type 0} (test : Node → Bool) (see : A → Node) (vs : List A) (nodes : List Node) (b : Bool) → map see vs ≡ nodes → b ≡ list_any (λ v. test (see v)) vs → b ≡ list_any test nodes
any-seen test see vs nodes b are is = is ∙ any-map test see vs ∙ ap (list_any test) are
