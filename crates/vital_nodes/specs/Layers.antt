-- One layer of each node that is one of several forms: its parts, not taken apart.
use Rattle.vital_nodes.specs.declared.expr.Actual.{Actual}
use Rattle.vital_nodes.specs.declared.expr.Actual.TheOpen.{Actual-F, Choice-F, Expr-F, Item-F, Suffix-F}
use Rattle.vital_nodes.specs.declared.expr.Association.{Association}
use Rattle.vital_nodes.specs.declared.expr.Choice.{Choice}
use Rattle.vital_nodes.specs.declared.expr.Expr.{Expr}
use Rattle.vital_nodes.specs.declared.expr.Item.{Item}
use Rattle.vital_nodes.specs.declared.expr.Product.{Product}
use Rattle.vital_nodes.specs.declared.expr.Range.{Range}
use Rattle.vital_nodes.specs.declared.expr.Reference.{Reference}
use Rattle.vital_nodes.specs.declared.expr.Relation.{Relation}
use Rattle.vital_nodes.specs.declared.expr.Suffix.{Suffix}
use Rattle.vital_nodes.specs.declared.expr.Sum.{Sum}
use Rattle.vital_nodes.specs.declared.stmt.Block.{Block}
use Rattle.vital_nodes.specs.declared.stmt.Branch.{Branch}
use Rattle.vital_nodes.specs.declared.stmt.Conc.{Conc}
use Rattle.vital_nodes.specs.declared.stmt.Conc.TheOpen.{Conc-F}
use Rattle.vital_nodes.specs.declared.stmt.If.{If}
use Rattle.vital_nodes.specs.declared.stmt.Stmt.{Stmt}
use Rattle.vital_nodes.specs.declared.stmt.Stmt.TheOpen.{Stmt-F}

abbrev pub ActualLayer : Type 0
ActualLayer = Actual-F Actual Choice Expr Item Suffix Association Product Range Reference Relation Sum

abbrev pub ChoiceLayer : Type 0
ChoiceLayer = Choice-F Actual Choice Expr Item Suffix Association Product Range Reference Relation Sum

abbrev pub ExprLayer : Type 0
ExprLayer = Expr-F Actual Choice Expr Item Suffix Association Product Range Reference Relation Sum

abbrev pub ItemLayer : Type 0
ItemLayer = Item-F Actual Choice Expr Item Suffix Association Product Range Reference Relation Sum

abbrev pub SuffixLayer : Type 0
SuffixLayer = Suffix-F Actual Choice Expr Item Suffix Association Product Range Reference Relation Sum

abbrev pub StmtLayer : Type 0
StmtLayer = Stmt-F Stmt Branch If

abbrev pub ConcLayer : Type 0
ConcLayer = Conc-F Conc Block
