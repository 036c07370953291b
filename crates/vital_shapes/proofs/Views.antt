-- Nodes that are made of one layer stand where the layer says, and hold what it says.
use Rattle.std.proofs.Common.{List, sym, ap, subst}
use Rattle.vital_lex.specs.declared.token_list.Token.{Token}
use Rattle.vital_nodes.specs.Layers.{ActualLayer, ChoiceLayer, ExprLayer, ItemLayer, SuffixLayer, StmtLayer, ConcLayer}
use Rattle.vital_nodes.specs.Nodes.{Expression, Item, Sequential, Concurrent, parts_of, parts_in_expr, parts_in_item, parts_in_suffix, parts_of_suffix, parts_in_choice, parts_in_actual, parts_in_stmt, parts_in_conc}
use Rattle.vital_nodes.specs.Places.{place_of, place_in_expr, place_in_item, place_in_choice, place_of_choice, place_in_stmt, place_in_conc}
use Rattle.vital_nodes.specs.declared.expr.Actual.TheViews.{out-Actual, out-Choice, out-roll-Actual, out-roll-Choice, out-roll-Expr, out-roll-Item, out-roll-Suffix, roll-Actual, roll-Choice, roll-Expr, roll-Item, roll-Suffix}
use Rattle.vital_nodes.specs.declared.expr.Choice.{Choice}
use Rattle.vital_nodes.specs.declared.stmt.Conc.TheViews.{out-roll-Conc, roll-Conc}
use Rattle.vital_nodes.specs.declared.stmt.Stmt.TheViews.{out-roll-Stmt, roll-Stmt}
use Rattle.vital_shapes.proofs.Along.{Source, Stands, Along, along_as, Whole}

pub whole_expr : {o : Source} {ts us : List Token} (l : ExprLayer) → Stands o ts (place_in_expr l) → Along o ts (parts_in_expr l) us → Whole o ts (Expression (roll-Expr l)) us
unfolding parts_of place_of
whole_expr {o} {ts} l here a =
    record { stands = subst (λ m. Stands o ts (place_in_expr m)) (sym (out-roll-Expr l)) here; inside = along_as (ap parts_in_expr (sym (out-roll-Expr l))) a }

pub whole_item : {o : Source} {ts us : List Token} (l : ItemLayer) → Stands o ts (place_in_item l) → Along o ts (parts_in_item l) us → Whole o ts (Item (roll-Item l)) us
unfolding parts_of place_of
whole_item {o} {ts} l here a =
    record { stands = subst (λ m. Stands o ts (place_in_item m)) (sym (out-roll-Item l)) here; inside = along_as (ap parts_in_item (sym (out-roll-Item l))) a }

pub whole_stmt : {o : Source} {ts us : List Token} (l : StmtLayer) → Stands o ts (place_in_stmt l) → Along o ts (parts_in_stmt l) us → Whole o ts (Sequential (roll-Stmt l)) us
unfolding parts_of place_of
whole_stmt {o} {ts} l here a =
    record { stands = subst (λ m. Stands o ts (place_in_stmt m)) (sym (out-roll-Stmt l)) here; inside = along_as (ap parts_in_stmt (sym (out-roll-Stmt l))) a }

pub whole_conc : {o : Source} {ts us : List Token} (l : ConcLayer) → Stands o ts (place_in_conc l) → Along o ts (parts_in_conc l) us → Whole o ts (Concurrent (roll-Conc l)) us
unfolding parts_of place_of
whole_conc {o} {ts} l here a =
    record { stands = subst (λ m. Stands o ts (place_in_conc m)) (sym (out-roll-Conc l)) here; inside = along_as (ap parts_in_conc (sym (out-roll-Conc l))) a }

-- a choice is no node, but an item stands where its choice does
pub record WholeChoice (o : Source) (ts : List Token) (c : Choice) (us : List Token) : Type 0 where
  pub stands : Stands o ts (place_of_choice c)
  pub inside : Along o ts (parts_in_choice (out-Choice c)) us

pub whole_choice : {o : Source} {ts us : List Token} (l : ChoiceLayer) → Stands o ts (place_in_choice l) → Along o ts (parts_in_choice l) us → WholeChoice o ts (roll-Choice l) us
whole_choice {o} {ts} l here a =
    record { stands = subst (λ m. Stands o ts (place_in_choice m)) (sym (out-roll-Choice l)) here; inside = along_as (ap parts_in_choice (sym (out-roll-Choice l))) a }

pub actual_along : {o : Source} {ts us : List Token} (l : ActualLayer) → Along o ts (parts_in_actual l) us → Along o ts (parts_in_actual (out-Actual (roll-Actual l))) us
actual_along l a = along_as (ap parts_in_actual (sym (out-roll-Actual l))) a

pub suffix_along : {o : Source} {ts us : List Token} (l : SuffixLayer) → Along o ts (parts_in_suffix l) us → Along o ts (parts_of_suffix (roll-Suffix l)) us
suffix_along l a = along_as (ap parts_in_suffix (sym (out-roll-Suffix l))) a
