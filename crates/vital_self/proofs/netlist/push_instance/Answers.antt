use Rattle.std.specs.Prelude.{codes, decimal}
use Rattle.vital_self.specs.Netlist.{source, driven}
use Rattle.vital_self.proofs.Growing.{grown_by_nine}
use Rattle.vital_self.proofs.netlist.push_instance.Goals as goal

pub returns : goal.returns
returns c =
    grown_by_nine (codes "  u") (decimal c.args.k) (codes " : AND2 port map (A => ") (source c.args.a) (codes ", B => ") (source c.args.b) (codes ", Y => ") (driven c.args.cells c.args.k) (codes ");\n")
    _ _ _ _ _ _ c.in_ok-push_numbered.ensures c.in_ok-push_source.ensures c.in_ok-push_source-2.ensures c.in_ok-push_driven.ensures c.in_ok-extend_from_slice.ensures.items
