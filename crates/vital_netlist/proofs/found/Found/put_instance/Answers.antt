use Rattle.std.proofs.Common.{List, sym, subst}
use Rattle.std.specs.Prelude.{All, Ok}
use Rattle.vital_as_read.specs.Libraries.{IsFromText}
use Rattle.vital_instances.specs.Units.{cell_of, lent}
use Rattle.vital_level1.specs.declared.level.CellLevel.TheVariants.{Level1}
use Rattle.vital_level1.specs.Verdicts.{IsVerdict}
use Rattle.vital_nodes.specs.declared.unit.Units.{Units}
use Rattle.vital_netlist.proofs.CellLemmas.{net-is, nothing-is, of-other}
use Rattle.vital_netlist.proofs.found.Found.put_instance.Goals as goal

pub put_cell-requires-clause-read : goal.put_cell-requires-clause-read
put_cell-requires-clause-read c = subst (λ (files : List Units). All IsFromText files) (sym c.requires.packages) c.requires.read

pub put_cell-requires-clause-level : goal.put_cell-requires-clause-level
put_cell-requires-clause-level c =
    let u = lent c.in-Some.unit in
    subst (λ (files : List Units). IsVerdict (cell_of files u) (Ok Level1)) (sym c.requires.packages) (c.requires.level u (sym c.in-Some.ensures.unit) c.in-Lib.is)

pub returns-in-Net : goal.returns-in-Net
returns-in-Net c = λ is has.
    of-other c.args.library.now is c.args.instance.now c.args.self.now.cells.items c.args.self.now.numbers.items
    (net-is c.args.library.now c.args.instance.now (lent c.in-Some.unit) (sym c.in-Some.ensures.unit) c.in-Net.is) has

pub returns-in-None : goal.returns-in-None
returns-in-None c = λ is has.
    of-other c.args.library.now is c.args.instance.now c.args.self.now.cells.items c.args.self.now.numbers.items
    (nothing-is c.args.library.now c.args.instance.now (sym c.in-None.ensures.unit)) has
