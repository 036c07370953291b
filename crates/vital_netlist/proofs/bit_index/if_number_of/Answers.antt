use Rattle.std.proofs.Common.{sym, ◌∙◌}
use Rattle.vital_netlist.proofs.FindLemmas.{equal-there}
use Rattle.vital_netlist.proofs.bit_index.if_number_of.Goals as goal

pub returns-in-Equal : goal.returns-in-Equal
returns-in-Equal c = equal-there c.args.bits.now c.args.bit.now c.in_ok-get.field-0.now c.args.number c.requires c.in_ok-get.ensures.lookup.3.0 c.in_ok-get.ensures.lookup.3.1 (sym c.compare.ensures ∙ c.in-Equal.is)
