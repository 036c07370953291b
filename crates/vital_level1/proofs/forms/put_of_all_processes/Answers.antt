use Rattle.vital_level1.specs.Forms.{broken_in_process, uses_of_process}
use Rattle.vital_uses.specs.Statements.{processes}
use Rattle.vital_level1.proofs.Processes.{put-processes}
use Rattle.vital_level1.proofs.forms.put_of_all_processes.Goals as goal

pub returns : goal.returns
returns c = record {
  broken = put-processes (λ cell p. broken_in_process cell c.args.faults.now p) c.args.names.now c.args.processes.now (processes c.args.names.now.arch)
      c.put_of_processes.result c.args.broken.now.items c.put_of_processes.new.broken.items c.requires c.put_of_processes.ensures.broken;
  tables = put-processes (λ cell p. uses_of_process cell c.args.faults.now p) c.args.names.now c.args.processes.now (processes c.args.names.now.arch)
      c.put_of_processes.result c.args.tables.now.items c.put_of_processes.new.tables.items c.requires c.put_of_processes.ensures.tables;
}
