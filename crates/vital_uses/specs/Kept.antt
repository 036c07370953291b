-- What is kept of a cell.
use Rattle.std.specs.Prelude.{◌≡◌, List, map}
use Rattle.std.specs.Borrow.{Bor}
use Rattle.vital_nodes.specs.declared.expr.Reference.{Reference}
use Rattle.vital_nodes.specs.declared.stmt.Process.{Process}
use Rattle.vital_names.specs.Sites.{Cell}
use Rattle.vital_uses.specs.declared.asked.Asked.{Asked as Asked'}
use Rattle.vital_uses.specs.declared.sited.SitedNode.{SitedNode as SitedNode'}
use Rattle.vital_uses.specs.Asked.{asked, lent_asked}
use Rattle.vital_uses.specs.Nodes.{nodes_outside_processes, types}
use Rattle.vital_uses.specs.Sited.{lent_node}
use Rattle.vital_uses.specs.Statements.{processes}

-- The nodes outside of processes, what is asked there, the names of types, and each process with its cell.
pub record HasUses (cell : Cell) (nodes : List SitedNode') (outside : List Asked') (types' : List (Bor Reference)) (of_processes : List (Cell × Process)) : Type 0 where
  pub nodes_are : map lent_node nodes ≡ nodes_outside_processes cell
  pub outside_is : map lent_asked outside ≡ asked cell (nodes_outside_processes cell)
  pub types_are : map (λ r. r.now) types' ≡ types cell
  pub processes_are : of_processes ≡ map (λ p. (cell, p)) (processes cell.arch)
