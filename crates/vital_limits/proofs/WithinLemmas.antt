-- The limits of a node and of all nodes in it: its own, and then those of its parts.
use Rattle.std.proofs.Common.{◌≡◌, ℕ, ◌+◌, ◌<◌, List, [], ◌∷◌, ◌++◌, length, take, map, get_or, refl, sym, ◌∙◌, ap, append-nil}
use Rattle.std.specs.List.{flat_map}
use Rattle.std.proofs.lemmas.Grind.{flat_map-append}
use Rattle.vital_limits.specs.declared.passed.PassedLimit.{PassedLimit}
use Rattle.vital_limits.specs.NodeLimits.{limits_of_concurrent, limits_of_declaration, limits_of_node, limits_of_sequential}
use Rattle.vital_limits.specs.TextLimits.{limits_of_unit}
use Rattle.vital_limits.specs.WithinLimits.{limits_within, limits_within_all}
use Rattle.vital_nodes.specs.declared.decl.Decl.{Decl}
use Rattle.vital_nodes.specs.declared.decl.Iface.{Iface}
use Rattle.vital_nodes.specs.declared.expr.Expr.{Expr}
use Rattle.vital_nodes.specs.declared.expr.Item.{Item as Item'}
use Rattle.vital_nodes.specs.declared.expr.Reference.{Reference}
use Rattle.vital_nodes.specs.declared.expr.Suffix.{Suffix}
use Rattle.vital_nodes.specs.declared.stmt.Conc.{Conc}
use Rattle.vital_nodes.specs.declared.stmt.Stmt.{Stmt}
use Rattle.vital_nodes.specs.declared.unit.Unit.{Unit as Unit'}
use Rattle.vital_nodes.specs.Nodes.{Node, Declaration, Interface, Concurrent, Sequential, Expression, Item, Name, parts_of, parts_of_conc, parts_of_decl, parts_of_expr, parts_of_iface, parts_of_item, parts_of_stmt, parts_of_suffix, parts_of_unit}
use Rattle.vital_nodes.specs.Walk.{nodes_of, nodes_of_all}
use Rattle.vital_nodes.proofs.Lists.{flat_map-one, flat_map-seen, put-two, turn-behind}
use Rattle.vital_nodes.proofs.Values.{WalkLaw}

flat-flat : {A B C : Type 0} (f : B → List C) (g : A → List B) (xs : List A) → flat_map f (flat_map g xs) ≡ flat_map (λ x. flat_map f (g x)) xs
flat-flat f g [] = refl
flat-flat f g (x ∷ xs) = flat_map-append f (g x) (flat_map g xs) ∙ ap (λ cs. flat_map f (g x) ++ cs) (flat-flat f g xs)

-- the limits of all nodes of nodes that stand one behind another
within-all : (vs : List Node) → flat_map limits_of_node (nodes_of_all vs) ≡ limits_within_all vs
unfolding limits_within
within-all vs = flat-flat limits_of_node nodes_of vs

within-node : WalkLaw → (v : Node) → limits_within v ≡ limits_of_node v ++ limits_within_all (parts_of v)
unfolding limits_within
within-node law v = ap (flat_map limits_of_node) (law v) ∙ ap (λ ls. limits_of_node v ++ ls) (flat-flat limits_of_node nodes_of (parts_of v))

-- a node's own limits are put, and then those of its parts
put-within : WalkLaw → (v : Node) (old mid new : List PassedLimit) → mid ≡ old ++ limits_of_node v → new ≡ mid ++ limits_within_all (parts_of v) → new ≡ old ++ limits_within v
put-within law v old mid new first second = put-two old _ _ mid new first second ∙ ap (λ ls. old ++ ls) (sym (within-node law v))

-- a node that passes none itself
put-parts : WalkLaw → (v : Node) (old new : List PassedLimit) → limits_of_node v ≡ [] → new ≡ old ++ limits_within_all (parts_of v) → new ≡ old ++ limits_within v
put-parts law v old new none put = put ∙ ap (λ ls. old ++ (ls ++ limits_within_all (parts_of v))) (sym none) ∙ ap (λ ls. old ++ ls) (sym (within-node law v))

-- ---- nodes of each kind

pub put-expr : WalkLaw → (e : Expr) (old mid new : List PassedLimit) → mid ≡ old ++ limits_of_node (Expression e) → new ≡ mid ++ limits_within_all (parts_of_expr e) → new ≡ old ++ limits_within (Expression e)
unfolding parts_of
put-expr law e old mid new first second = put-within law (Expression e) old mid new first second

pub put-item : WalkLaw → (i : Item') (old new : List PassedLimit) → new ≡ old ++ limits_within_all (parts_of_item i) → new ≡ old ++ limits_within (Item i)
unfolding parts_of limits_of_node
put-item law i old new put = put-parts law (Item i) old new refl put

pub put-name : WalkLaw → (r : Reference) (ss : List Suffix) (old new : List PassedLimit) → ss ≡ r.suffixes → new ≡ old ++ limits_within_all (flat_map parts_of_suffix ss) → new ≡ old ++ limits_within (Name r)
unfolding parts_of limits_of_node
put-name law r ss old new is put = put-parts law (Name r) old new refl (put ∙ ap (λ ts. old ++ limits_within_all (flat_map parts_of_suffix ts)) is)

pub put-iface : WalkLaw → (i : Iface) (old new : List PassedLimit) → new ≡ old ++ limits_within_all (parts_of_iface i) → new ≡ old ++ limits_within (Interface i)
unfolding parts_of limits_of_node
put-iface law i old new put = put-parts law (Interface i) old new refl put

pub put-decl : WalkLaw → (d : Decl) (old mid new : List PassedLimit) → mid ≡ old ++ limits_of_declaration d → new ≡ mid ++ limits_within_all (parts_of_decl d) → new ≡ old ++ limits_within (Declaration d)
unfolding parts_of limits_of_node
put-decl law d old mid new first second = put-within law (Declaration d) old mid new first second

pub put-stmt : WalkLaw → (s : Stmt) (old mid new : List PassedLimit) → mid ≡ old ++ limits_of_sequential s → new ≡ mid ++ limits_within_all (parts_of_stmt s) → new ≡ old ++ limits_within (Sequential s)
unfolding parts_of limits_of_node
put-stmt law s old mid new first second = put-within law (Sequential s) old mid new first second

pub put-conc : WalkLaw → (c : Conc) (old mid new : List PassedLimit) → mid ≡ old ++ limits_of_concurrent c → new ≡ mid ++ limits_within_all (parts_of_conc c) → new ≡ old ++ limits_within (Concurrent c)
unfolding parts_of limits_of_node
put-conc law c old mid new first second = put-within law (Concurrent c) old mid new first second

-- ---- units

pub put-unit : (u : Unit') (old new : List PassedLimit) → new ≡ old ++ limits_within_all (parts_of_unit u) → new ≡ old ++ limits_of_unit u
put-unit u old new put = put ∙ ap (λ ls. old ++ ls) (sym (within-all (parts_of_unit u)))

-- ---- one turn of a loop over a list

pub node-put : {A : Type 0} (see : A → Node) (first now new : List PassedLimit) (xs : List A) (i : ℕ) (x : A) → new ≡ now ++ limits_within (see x) → now ≡ first ++ limits_within_all (map see (take i xs)) → i < length xs → x ≡ get_or xs i x → new ≡ first ++ limits_within_all (map see (take (i + 1) xs))
node-put see first now new xs i x put before within is = turn-behind _ _ _ _ _ _ _ put before refl (flat_map-seen see limits_within xs i x within is)

pub parts-put : {A : Type 0} (parts : A → List Node) (first now new : List PassedLimit) (xs : List A) (i : ℕ) (x : A) → new ≡ now ++ limits_within_all (parts x) → now ≡ first ++ limits_within_all (flat_map parts (take i xs)) → i < length xs → x ≡ get_or xs i x → new ≡ first ++ limits_within_all (flat_map parts (take (i + 1) xs))
parts-put parts first now new xs i x put before within is =
    turn-behind _ _ _ _ _ _ _ put before refl
    (ap limits_within_all (flat_map-one parts xs i x within is) ∙ flat_map-append limits_within (flat_map parts (take i xs)) (parts x))
