-- What the identifier stands for that an expression is in parentheses.
use Rattle.std.proofs.Common.{List, [], ◌∷◌, map, Option, Some, None, sym, subst}
use Rattle.std.specs.Prelude.{IfSome}
use Rattle.std.specs.List.{AllByRecursion}
use Rattle.vital_expr.specs.Readings.{Context}
use Rattle.vital_nodes.specs.declared.expr.Expr.{Expr}
use Rattle.vital_nodes.specs.declared.identifier.Identifier.{Identifier}
use Rattle.vital_nodes.specs.Nodes.{Node, Declaration, Interface, Concurrent, Sequential, Expression, Item, Name, parts_of}
use Rattle.vital_nodes.specs.Walk.{folded}
use Rattle.vital_nodes.proofs.Walking.{folded-law}
use Rattle.vital_statements.specs.Parentheses.{bare_identifier, bare_or, bare_step, first_of, inside}
use Rattle.vital_nodes.specs.Names.{identifier_of}
use Rattle.vital_typed_cells.specs.Positions.{HasIdentifier}
use Rattle.vital_typed_cells.specs.ExprScopes.{Scope}
use Rattle.vital_typed_cells.proofs.Nodes.{IsKnown, identifier-known, known-parts}
use Rattle.vital_typed_cells.proofs.Upwards.{upwards}

abbrev Has : Scope → Context → Option Identifier → Type 0
Has s c o = IfSome o (HasIdentifier s c.position)

abbrev BareKnown : Scope → Context → Node → Type 0
BareKnown s c v = IsKnown s c v → Has s c (folded bare_step v)

first-known : (s : Scope) (c : Context) (vs : List Node) → AllByRecursion (BareKnown s c) vs → AllByRecursion (IsKnown s c) vs → Has s c (first_of (map (folded bare_step) vs))
first-known s c [] bare known = tt
first-known s c (v ∷ vs) bare known = bare.0 known.0

or-known : (s : Scope) (c : Context) (o : Option Expr) (i : Option Identifier) (parts : List (Option Identifier)) → Has s c i → Has s c (first_of parts) → Has s c (bare_or o i parts)
or-known s c None i parts own inner = own
or-known s c (Some e) i parts own inner = inner

step-known : (s : Scope) (c : Context) (v : Node) (parts : List (Option Identifier)) → IsKnown s c v → Has s c (first_of parts) → Has s c (bare_step v parts)
step-known s c (Declaration d) parts known inner = tt
step-known s c (Interface i) parts known inner = tt
step-known s c (Concurrent k) parts known inner = tt
step-known s c (Sequential k) parts known inner = tt
step-known s c (Expression e) parts known inner = or-known s c (inside e) (identifier_of e) parts (identifier-known s c e known) inner
step-known s c (Item i) parts known inner = inner
step-known s c (Name r) parts known inner = tt

node-known : (s : Scope) (c : Context) (v : Node) → AllByRecursion (BareKnown s c) (parts_of v) → BareKnown s c v
node-known s c v bare known =
    subst (Has s c) (sym (folded-law bare_step v)) (step-known s c v (map (folded bare_step) (parts_of v)) known (first-known s c (parts_of v) bare (known-parts s c v known)))

pub bare-known : (s : Scope) (c : Context) (e : Expr) → IsKnown s c (Expression e) → Has s c (bare_identifier e)
bare-known s c e known = upwards (BareKnown s c) (node-known s c) (Expression e) known
