-- A borrowed node as the node that it is.
use Rattle.vital_nodes.specs.Nodes.{Node, Declaration, Interface, Concurrent, Sequential, Expression, Item, Name}
use Rattle.vital_nodes.specs.declared.node.Node.{Node as Node'}
use Rattle.vital_nodes.specs.declared.node.Node.TheVariants as node

abbrev pub seen : Node' → Node
seen (node.Declaration d) = Declaration d.now
seen (node.Interface i) = Interface i.now
seen (node.Concurrent c) = Concurrent c.now
seen (node.Sequential s) = Sequential s.now
seen (node.Expression e) = Expression e.now
seen (node.Item i) = Item i.now
seen (node.Name r) = Name r.now
