use Rattle.vital_answers.proofs.netlist_refusal.refuse_design.Goals as goal

pub returns-in-Net : goal.returns-in-Net
returns-in-Net g c = rw c.in-Net.is (rw c.net_line.ensures at c.end_with.ensures)

pub returns-in-Limit : goal.returns-in-Limit
returns-in-Limit g c = rw c.in-Limit.is (rw c.net_limit_line.ensures at c.end_with-in-Limit.ensures)
