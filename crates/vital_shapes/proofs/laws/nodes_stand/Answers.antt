use Rattle.vital_shapes.proofs.Files.{shape_read}
use Rattle.vital_shapes.proofs.Standing.{nodes_stand, units_stand}
use Rattle.vital_shapes.proofs.UnitsAlong.{parts_along}
use Rattle.vital_shapes.proofs.laws.nodes_stand.Goals as goal

pub returns-clause-at_tokens : goal.returns-clause-at_tokens
returns-clause-at_tokens c file text tokens tree units d e =
    (nodes_stand units c.walked_in_preorder.ensures (parts_along (shape_read file text tokens tree units d e).1)).0

pub returns-clause-in_order : goal.returns-clause-in_order
returns-clause-in_order c file text tokens tree units d e rises =
    (nodes_stand units c.walked_in_preorder.ensures (parts_along (shape_read file text tokens tree units d e).1)).1 rises

pub returns-clause-units_at_tokens : goal.returns-clause-units_at_tokens
returns-clause-units_at_tokens c file text tokens tree units d e =
    (units_stand units c.walked_in_preorder.ensures (shape_read file text tokens tree units d e).1).0

pub returns-clause-units_in_order : goal.returns-clause-units_in_order
returns-clause-units_in_order c file text tokens tree units d e rises =
    (units_stand units c.walked_in_preorder.ensures (shape_read file text tokens tree units d e).1).1 rises
