use Rattle.std.proofs.Common.{List, ◌∙◌, ap, map, subst, sym}
use Rattle.vital_connections.specs.Objects.{lent}
use Rattle.vital_connections.specs.Spans.{Kept}
use Rattle.vital_netlist.specs.Netlists.{AreKept}
use Rattle.vital_netlist.proofs.TableLemmas.{kept_none}
use Rattle.vital_netlist.proofs.connection_table.connections_of_entity.Goals as goal

pub connections_in-requires-clause-found : goal.connections_in-requires-clause-found
connections_in-requires-clause-found c = c.requires.units.found c.args.entity c.in-Some.unit.now (sym c.in-Some.ensures)

pub connections_in-requires-clause-signals : goal.connections_in-requires-clause-signals
connections_in-requires-clause-signals c =
    ap (map lent) c.deref.ensures.value ∙ (c.requires.units.right c.args.entity c.in-Some.unit.now (sym c.in-Some.ensures)).objects

pub returns-in-None : goal.returns-in-None
returns-in-None c =
    let P : List Kept → Type 0 = AreKept c.args.parts.now.library.now c.args.parts.now.instances.now c.args.entity in
    subst P (sym c.new.ensures.items) (kept_none c.args.parts.now.library.now c.args.parts.now.instances.now c.args.units.now c.args.entity c.requires.units (sym c.in-None.ensures))
