use Rattle.std.proofs.Common.{◌≡◌, ◌∙◌, rules}
use Rattle.std.proofs.lemmas.Fn.{always_returns_same}
use Rattle.vital_netlist.specs.Orders.{order}
use Rattle.vital_netlist.specs.declared.bit.Bit.{Bit}
use Rattle.vital_netlist.proofs.FindLemmas.{found_is}
use Rattle.vital_netlist.proofs.bit_search.number_among.Goals as goal

pub returns : goal.returns
returns c =
    let bit = c.args.bit.now in
    let bits = c.args.bits.now in
    c.ok.ensures.value
    ∙ found_is bits bit c.binary_search_by.result c.requires c.binary_search_by.ensures.bound
    (c.binary_search_by.ensures.position (λ (y : Bit). order y bit)
    (always_returns_same _ (λ a r. r ≡ order a.0.now bit) _ (λ a r f k. search rules)))
