-- The order of the bits of a design.
use Rattle.std.specs.Prelude.{◌≡◌, ⊤, List, [], ◌∷◌}
use Rattle.std.specs.declared.cmp.Ordering.TheVariants.{Less}
use Rattle.std.specs.Ordering.{nat_cmp, on, then_cmp}
use Rattle.std.specs.declared.cmp.Ordering.{Ordering}
use Rattle.vital_netlist.specs.declared.bit.Bit.{Bit}

-- By their instances, then by their ports and signals, and then from left to right.
abbrev pub order : Bit → Bit → Ordering
order = then_cmp (on (λ b. b.instance) nat_cmp) (then_cmp (on (λ b. b.object) nat_cmp) (on (λ b. b.offset) nat_cmp))

abbrev pub AreBehind : Bit → List Bit → Type 0
AreBehind a [] = ⊤
AreBehind a (b ∷ others) = (order a b ≡ Less) × AreBehind a others

-- Each stands before all that come after it.
abbrev pub AreOrdered : List Bit → Type 0
AreOrdered [] = ⊤
AreOrdered (a ∷ others) = AreBehind a others × AreOrdered others
