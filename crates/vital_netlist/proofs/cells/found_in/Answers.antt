use Rattle.vital_netlist.proofs.cells.found_in.Goals as goal

pub put_instance-requires-clause-level : goal.put_instance-requires-clause-level
put_instance-requires-clause-level c = c.instances_are_good.ensures.cells c.args.library.now c.args.instances.now c.requires.entered c.loop-instance.instance-index _ c.loop-instance-test.true
