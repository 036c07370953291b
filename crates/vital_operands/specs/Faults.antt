-- Where names and calls break other clauses, so that an expression with one of them in it breaks none that speaks of its form.
use Rattle.std.specs.Prelude.{Bool, true, false, ◌&&◌, ◌==◌, List, [], ◌∷◌, if◌then◌else◌}
use Rattle.std.specs.List.{list_any}
use Rattle.vital_base.specs.declared.place.Place.{Place}
use Rattle.vital_nodes.specs.declared.expr.Actual.TheOpen.{Expr-F}
use Rattle.vital_nodes.specs.declared.expr.Actual.TheViews.{out-Expr}
use Rattle.vital_nodes.specs.Layers.{ExprLayer}
use Rattle.vital_nodes.specs.Nodes.{Node, Declaration, Interface, Concurrent, Sequential, Expression, Item, Name}
use Rattle.vital_nodes.specs.Places.{place_of_name}
use Rattle.vital_nodes.specs.Walk.{nodes_of}

-- Two places are the same.
abbrev pub is_same_place : Place → Place → Bool
is_same_place a b = (a.file == b.file) && ((a.line == b.line) && (a.column == b.column))

-- Something stands at one of the places at which names and calls break other clauses.
abbrev pub is_at : List Place → Place → Bool
is_at faults place = list_any (λ f. is_same_place f place) faults

-- A name, or the unit behind a number, stands at one of them.
abbrev pub is_faulty_in : List Place → ExprLayer → Bool
is_faulty_in faults (Expr-F.Logical place operator operands) = false
is_faulty_in faults (Expr-F.Relation r) = false
is_faulty_in faults (Expr-F.Sum s) = false
is_faulty_in faults (Expr-F.Product p) = false
is_faulty_in faults (Expr-F.Not place operand) = false
is_faulty_in faults (Expr-F.Number place number) = false
is_faulty_in faults (Expr-F.Physical physical) = is_at faults physical.unit.place
is_faulty_in faults (Expr-F.Character place character) = false
is_faulty_in faults (Expr-F.StringLiteral place text) = false
is_faulty_in faults (Expr-F.Reference name) = false
is_faulty_in faults (Expr-F.Parenthesized place is) = false

abbrev pub is_faulty : List Place → Node → Bool
is_faulty faults (Declaration d) = false
is_faulty faults (Interface i) = false
is_faulty faults (Concurrent c) = false
is_faulty faults (Sequential s) = false
is_faulty faults (Expression e) = is_faulty_in faults (out-Expr e)
is_faulty faults (Item i) = false
is_faulty faults (Name r) = is_at faults (place_of_name r)

-- A node or one in it does.
abbrev pub has_fault : List Place → Node → Bool
has_fault faults v = list_any (is_faulty faults) (nodes_of v)

-- What is not of its form breaks a clause at its place, unless a name in it breaks another clause.
abbrev pub own_breach : List Place → Place → Node → List Place
own_breach faults place v = if has_fault faults v then [] else place ∷ []
