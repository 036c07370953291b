use Rattle.vital_run.proofs.elaborating.answer_found.Goals as goal

pub returns-in-Tree : goal.returns-in-Tree
returns-in-Tree g c = rw c.in-Tree.is c.answer_tree.ensures
