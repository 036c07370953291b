use Rattle.vital_netlist.proofs.netlist.Netlist.span.Goals as goal

pub returns-in-None : goal.returns-in-None
returns-in-None c = c.in-None.ensures.spans c.args.bit.now.object c.args.bit.now.offset
