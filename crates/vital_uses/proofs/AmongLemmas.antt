-- What holds of each node of statements holds of each node that they read.
use Rattle.std.proofs.Common.{ℕ, zero, suc, ◌≤◌, List, [], ◌∷◌, length, ap, sym, subst, arith}
use Rattle.std.specs.List.{AllByRecursion, filter_map, flat_map}
use Rattle.std.proofs.lemmas.List.{length-append}
use Rattle.vital_nodes.specs.declared.stmt.Stmt.{Stmt}
use Rattle.vital_nodes.specs.declared.stmt.Stmt.TheOpen.{Stmt-F}
use Rattle.vital_nodes.specs.declared.stmt.Stmt.TheViews.{out-If, out-Stmt}
use Rattle.vital_nodes.specs.Layers.{StmtLayer}
use Rattle.vital_nodes.specs.Nodes.{Node, Declaration, Interface, Concurrent, Sequential, Expression, Item, Name, expression_if_there, parts_in_stmt, parts_of, parts_of_branch, sequentials, statements_if_there}
use Rattle.vital_nodes.specs.Walk.{nodes_of, nodes_of_all}
use Rattle.vital_nodes.specs.Statements.{all_sequential, sequential}
use Rattle.vital_nodes.proofs.Values.{WalkLaw}
use Rattle.vital_uses.specs.Reads.{is_read, read_in, read_in_layer}
use Rattle.vital_uses.proofs.EachLemmas.{each-append, each-back, each-filter, each-flat, each-front, each-map, each-unflat, each-weaker}

-- It holds of a node and of all that it holds.
abbrev pub Throughout : (Node → Type 0) → Node → Type 0
Throughout P v = AllByRecursion P (nodes_of v)

-- of all that the parts of the node hold
throughout-parts : WalkLaw → (P : Node → Type 0) (v : Node) → Throughout P v → AllByRecursion P (nodes_of_all (parts_of v))
throughout-parts law P v h = (subst (λ vs. AllByRecursion P vs) (law v) h).1

parts-throughout : WalkLaw → (P : Node → Type 0) (v : Node) → Throughout P v → AllByRecursion (Throughout P) (parts_of v)
parts-throughout law P v h = each-unflat P nodes_of (parts_of v) (throughout-parts law P v h)

-- and of all that each node among them holds
each-throughout : WalkLaw → (P : Node → Type 0) (n : ℕ) (vs : List Node) → length (nodes_of_all vs) ≤ n → AllByRecursion P (nodes_of_all vs) → AllByRecursion (Throughout P) (nodes_of_all vs)
each-throughout law P n [] within h = tt
each-throughout law P zero (v ∷ vs) within h =
    absurd (omega (arith, within, length-append (nodes_of v) (nodes_of_all vs), ap length (law v)))
each-throughout law P (suc n) (v ∷ vs) within h =
    each-append (Throughout P) (nodes_of v) (nodes_of_all vs)
    (subst (λ us. AllByRecursion (Throughout P) us) (sym (law v))
    (each-front P (nodes_of v) (nodes_of_all vs) h, each-throughout law P n (parts_of v) (omega (arith, within, length-append (nodes_of v) (nodes_of_all vs), ap length (law v))) (throughout-parts law P v (each-front P (nodes_of v) (nodes_of_all vs) h))))
    (each-throughout law P n vs (omega (arith, within, length-append (nodes_of v) (nodes_of_all vs), ap length (law v))) (each-back P (nodes_of v) (nodes_of_all vs) h))

-- the statements among nodes
of-statements : (P : Node → Type 0) (vs : List Node) → AllByRecursion P vs → AllByRecursion (λ s. P (Sequential s)) (filter_map sequential vs)
of-statements P [] h = tt
of-statements P (Declaration d ∷ vs) h = of-statements P vs h.1
of-statements P (Interface i ∷ vs) h = of-statements P vs h.1
of-statements P (Concurrent c ∷ vs) h = of-statements P vs h.1
of-statements P (Sequential s ∷ vs) h = (h.0, of-statements P vs h.1)
of-statements P (Expression e ∷ vs) h = of-statements P vs h.1
of-statements P (Item i ∷ vs) h = of-statements P vs h.1
of-statements P (Name r ∷ vs) h = of-statements P vs h.1

-- what a statement reads is among what it holds
read-in_layer : WalkLaw → (P : Node → Type 0) (l : StmtLayer) → AllByRecursion (Throughout P) (parts_in_stmt l) → AllByRecursion (Throughout P) (read_in_layer l)
read-in_layer law P (Stmt-F.VariableAssignment place a) h =
    each-append (Throughout P) (parts_of (Name a.target)) (Expression a.value ∷ []) (parts-throughout law P (Name a.target) h.0) h.1
read-in_layer law P (Stmt-F.SignalAssignment place a) h =
    each-append (Throughout P) (parts_of (Name a.target)) (Expression a.value ∷ expression_if_there a.after) (parts-throughout law P (Name a.target) h.0) h.1
read-in_layer law P (Stmt-F.Call place name) h = each-filter (Throughout P) is_read (parts_of (Name name)) (parts-throughout law P (Name name) h.0)
read-in_layer law P (Stmt-F.If place i) h =
    each-map (Throughout P) (λ b. Expression b.condition) (out-If i).branches
    (each-weaker (λ b. AllByRecursion (Throughout P) (parts_of_branch b)) (λ b. Throughout P (Expression b.condition)) (λ b k. k.0) (out-If i).branches
    (each-unflat (Throughout P) parts_of_branch (out-If i).branches
    (each-front (Throughout P) (flat_map parts_of_branch (out-If i).branches) (statements_if_there (out-If i).otherwise) h)))
read-in_layer law P (Stmt-F.Null place) h = tt

read-in_statement : WalkLaw → (P : Node → Type 0) (s : Stmt) → Throughout P (Sequential s) → AllByRecursion (Throughout P) (read_in s)
unfolding parts_of
read-in_statement law P s h = read-in_layer law P (out-Stmt s) (parts-throughout law P (Sequential s) h)

pub read-in_statements : WalkLaw → (P : Node → Type 0) (ss : List Stmt) → AllByRecursion P (nodes_of_all (sequentials ss)) → AllByRecursion P (nodes_of_all (flat_map read_in (all_sequential ss)))
read-in_statements law P ss h =
    each-flat P nodes_of (flat_map read_in (all_sequential ss))
    (each-flat (Throughout P) read_in (all_sequential ss)
    (each-weaker (λ s. Throughout P (Sequential s)) (λ s. AllByRecursion (Throughout P) (read_in s)) (read-in_statement law P) (all_sequential ss)
    (of-statements (Throughout P) (nodes_of_all (sequentials ss))
    (each-throughout law P (length (nodes_of_all (sequentials ss))) (sequentials ss) (omega arith) h))))
