use Rattle.std.proofs.Common.{◌∙◌}
use Rattle.vital_nodes.specs.Nodes.{parts_of}
use Rattle.vital_nodes.specs.Seen.{seen}
use Rattle.vital_nodes.proofs.Turns.{put-reversed}
use Rattle.vital_nodes.proofs.walk.put_parts_reversed.Goals as goal

pub returns : goal.returns
returns c =
    put-reversed c.len-first.result c.args.waiting.now.items c.put_parts.new.nodes.items c.reverse_from.new.items.items (parts_of (seen c.args.node))
    (c.len-first.ensures ∙ c.args.waiting.now.ok.0) c.in_ok-put_parts.ensures c.reverse_from.ensures
