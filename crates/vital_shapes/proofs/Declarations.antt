-- Readers of interfaces and declarations take what their rules derive, and what they give stands along it.
use Rattle.std.proofs.Common.{◌≡◌, ℕ, ◌==◌, nat_lt, ◌&&◌, if◌then◌else◌, List, [], ◌∷◌, ◌++◌, slice_get, Option, Some, None}
use Rattle.vital_grammar.specs.Grammar.{grammar}
use Rattle.vital_grammar.specs.RuleNumbers as s
use Rattle.vital_ll.specs.declared.grammar.Sym.TheVariants.{Token as Word, Rule}
use Rattle.vital_vhdl_lexemes.specs.declared.kinds.Kind.TheVariants as kind
use Rattle.vital_lex.specs.declared.token_list.Token.{Token}
use Rattle.vital_nodes.specs.Nodes as nodes
use Rattle.vital_nodes.specs.Places.{place_of}
use Rattle.vital_nodes.specs.declared.identifier.Identifier.{Identifier}
use Rattle.vital_nodes.specs.declared.expr.Range.{roll-Range}
use Rattle.vital_nodes.specs.declared.decl.Iface.{Iface}
use Rattle.vital_nodes.specs.declared.decl.IfaceClass.{IfaceClass}
use Rattle.vital_nodes.specs.declared.decl.IfaceParts.{IfaceParts}
use Rattle.vital_nodes.specs.declared.decl.Mode.TheVariants as modes
use Rattle.vital_nodes.specs.declared.decl.ObjectClass.{ObjectClass}
use Rattle.vital_nodes.specs.declared.decl.ObjectParts.{ObjectParts}
use Rattle.vital_nodes.specs.declared.decl.Designator.TheVariants as designators
use Rattle.vital_nodes.specs.declared.decl.Decl.TheVariants as d
use Rattle.vital_shapes.specs.Reading.{◌>>=◌, ◌>>◌, pure, skip, identifier, after, more_lists}
use Rattle.vital_shapes.specs.Expressions.{direction, expression, name}
use Rattle.vital_shapes.specs.Declarations.{bounds, sub, iface_class, iface_class_of, mode, mode_of, each_iface, iface_parts, iface, interfaces, designator, entity_class, entity_class_of, specification, attribute, object_class_of, each_object, objects, alias_subtype, alias, component, single, decl, declarations}
use Rattle.vital_shapes.proofs.Along.{Source, Along, stay, stand, joined, led, ended, passing, one, before, Each-along, each_joined}
use Rattle.vital_shapes.proofs.Expressions.{direction_takes}
use Rattle.vital_shapes.proofs.Identifiers.{Named, identifier_takes, Identifiers, none, next, identifiers_take, written_takes, closing_takes}
use Rattle.vital_shapes.proofs.Lists.{Claim, lists, several}
use Rattle.vital_shapes.proofs.Outermost.{expression_takes, name_takes, optional_value_takes}
use Rattle.vital_shapes.proofs.Rules as rules
use Rattle.vital_shapes.proofs.Steps.{◌&◌, choose, step, token_first}
use Rattle.vital_shapes.proofs.Takes.{Takes, followed, passed, gives, claiming}

pub bounds_take : {o : Source} {n : ℕ} {ts : List Token} → Takes o n (s.range ∷ []) ts bounds (λ x us. Along o ts (nodes.range_if_there x) us)
unfolding bounds
bounds_take = choose 16
    (λ c. if c == 0 then pure None else (skip >> (expression >>= λ l. direction >>= λ way. expression >>= λ r. pure (Some (roll-Range (record { left = l; direction = way; right = r }))))))
    rules.range_is
    (gives None stay
    & token_first (λ us a. followed expression_takes (λ l ws w. followed direction_takes (λ way vs b. followed expression_takes (λ r xs x. gives (Some (roll-Range (record { left = l; direction = way; right = r }))) (led a (before w (led b (one x))))))))
    & tt)

pub sub_takes : {o : Source} {n : ℕ} {ts : List Token} → Takes o n (s.sub ∷ []) ts sub (λ x us. Along o ts (nodes.parts_of_subtype x) us)
unfolding sub
sub_takes = step 15 rules.sub_is (followed name_takes (λ called us w. followed bounds_take (λ range ws a. gives (record { name = called; range = range }) (before w a))))

-- ---- interfaces

pub iface_class_takes : {o : Source} {n : ℕ} {ts : List Token} → Takes o n (s.iface_class ∷ []) ts iface_class (λ _ us. Along o ts [] us)
unfolding iface_class
iface_class_takes = choose 11 (λ c. if c == 0 then pure None else (skip >> pure (Some (iface_class_of c)))) rules.iface_class_is
    (gives None stay
    & token_first (λ us a. gives (Some (iface_class_of 1)) a)
    & token_first (λ us a. gives (Some (iface_class_of 2)) a)
    & tt)

pub mode_takes : {o : Source} {n : ℕ} {ts : List Token} → Takes o n (s.mode ∷ []) ts mode (λ _ us. Along o ts [] us)
unfolding mode
mode_takes = choose 12 (λ c. if c == 0 then pure modes.In else (skip >> pure (mode_of c))) rules.mode_is
    (gives modes.In stay
    & token_first (λ us a. gives (mode_of 1) a)
    & token_first (λ us a. gives (mode_of 2) a)
    & token_first (λ us a. gives (mode_of 3) a)
    & token_first (λ us a. gives (mode_of 4) a)
    & token_first (λ us a. gives (mode_of 5) a)
    & tt)

-- what interfaces that are declared together share
abbrev shared_in : IfaceParts → List nodes.Node
shared_in parts = nodes.parts_of_subtype parts.subtype ++ nodes.expression_if_there parts.default

iface_parts_take : {o : Source} {n : ℕ} {ts : List Token} (class : Option IfaceClass) →
    Takes o n (s.mode ∷ s.sub ∷ s.bus ∷ s.default ∷ []) ts (iface_parts class) (λ x us. Along o ts (shared_in x) us)
unfolding iface_parts
iface_parts_take class = followed mode_takes (λ way us a. followed sub_takes (λ type ws b. followed (written_takes 13 rules.bus_is) (λ bus vs c.
    followed (optional_value_takes 14 rules.default_is) (λ default xs f.
    gives (record { class = class; mode = way; subtype = type; bus = bus; default = default }) (led a (joined b (led c f)))))))

each_iface_along : {o : Source} {ts us ws : List Token} {ids : List Identifier} (parts : IfaceParts) → Identifiers o ts ids us → Along o us (shared_in parts) ws →
    Along o ts (nodes.interfaces (each_iface ids parts)) ws
unfolding each_iface nodes.parts_of place_of
each_iface_along parts (none a) b = led a (passing b)
each_iface_along parts (next a here (none c)) b = led a (stand here (led c b) stay)
each_iface_along parts (next a here (next c there r)) b = led a (stand here stay (each_iface_along parts (next c there r) b))

pub iface_takes : {o : Source} {n : ℕ} {ts : List Token} → Takes o n (s.iface ∷ []) ts iface (λ found us. Along o ts (nodes.interfaces found) us)
unfolding iface
iface_takes = step 10 rules.iface_is (followed iface_class_takes (λ class us a. followed identifiers_take (λ ids ws r. token_first (λ vs b. followed (iface_parts_take class) (λ parts xs c.
    gives (each_iface ids parts) (led a (each_iface_along parts r (led b c))))))))

more_ifaces_take : {o : Source} {n : ℕ} {ts us : List Token} (found : List Iface) → Along o ts (nodes.interfaces found) us →
    Takes o n (s.more_ifaces ∷ []) us (more_lists (λ _. after iface) found) (λ all ws. Along o ts (nodes.interfaces all) ws)
more_ifaces_take {o} found a = lists 9 _ _ (Each-along o (λ x. nodes.Interface x)) (each_joined (λ x. nodes.Interface x)) a rules.more_ifaces_is
    (several (λ ts. token_first (λ us b. claiming iface_takes (λ all ws c. led b c))) & tt)

pub any_more_ifaces_take : {o : Source} {n : ℕ} {ts : List Token} (found : List Iface) → Takes o n (s.more_ifaces ∷ []) ts (more_lists (λ _. after iface) found) (λ _ _. Unit {0})
any_more_ifaces_take {o} {ts = ts} found =
    let Any : Claim Iface = λ _ _ _. Unit {0} in
    lists 9 _ found Any {start = ts} (λ _ _ _ _ _ _ _. tt) tt rules.more_ifaces_is
    (several (λ bs. token_first (λ cs a. claiming iface_takes (λ _ _ _. tt))) & tt)

pub interfaces_take : {o : Source} {n k : ℕ} {ts : List Token} (r : ℕ) →
    slice_get grammar r ≡ Some ([] ∷ (Word k ∷ s.word kind.LeftParenthesis ∷ s.iface ∷ s.more_ifaces ∷ s.word kind.RightParenthesis ∷ s.word kind.Semicolon ∷ []) ∷ []) →
    Takes o n (Rule r ∷ []) ts interfaces (λ found us. Along o ts (nodes.interfaces found) us)
unfolding interfaces
interfaces_take r known = choose r
    (λ c. if c == 0 then pure [] else (skip >> (skip >> (iface >>= λ first. more_lists (λ _. after iface) first >>= λ all. skip >> (skip >> pure all)))))
    known
    (gives [] stay
    & token_first (λ us a. token_first (λ ws b. followed iface_takes (λ first vs c. followed (more_ifaces_take first (led a (led b c))) (λ all xs f. token_first (λ ys g. token_first (λ zs h. gives all (ended f (led g h))))))))
    & tt)

-- ---- declarations

pub designator_takes : {o : Source} {n : ℕ} {ts : List Token} → Takes o n (s.designator ∷ []) ts designator (λ _ us. Along o ts [] us)
unfolding designator
designator_takes = choose 27
    (λ c. if c == 0 then (identifier >>= λ x. pure (designators.Identifier x)) else (skip >> pure (if c == 1 then designators.All else designators.Others)))
    rules.designator_is
    (followed identifier_takes (λ x us a. gives (designators.Identifier x) a.inside)
    & token_first (λ us a. gives designators.All a)
    & token_first (λ us a. gives designators.Others a)
    & tt)

pub entity_class_takes : {o : Source} {n : ℕ} {ts : List Token} → Takes o n (s.class ∷ []) ts entity_class (λ _ us. Along o ts [] us)
unfolding entity_class
entity_class_takes = choose 28 (λ c. skip >> pure (entity_class_of c)) rules.class_is
    (token_first (λ us a. gives (entity_class_of 0) a)
    & token_first (λ us a. gives (entity_class_of 1) a)
    & token_first (λ us a. gives (entity_class_of 2) a)
    & token_first (λ us a. gives (entity_class_of 3) a)
    & token_first (λ us a. gives (entity_class_of 4) a)
    & tt)

specification_takes : {o : Source} {n : ℕ} {ts us : List Token} (id : Identifier) → Named o ts id us →
    Takes o n (s.word kind.Of ∷ s.designator ∷ s.word kind.Colon ∷ s.class ∷ s.word kind.Is ∷ s.expr ∷ s.word kind.Semicolon ∷ []) us (specification id)
    (λ x ws. Along o ts (nodes.Declaration x ∷ []) ws)
unfolding specification nodes.parts_of place_of
specification_takes id x = token_first (λ qs a. followed designator_takes (λ of_what bs b. token_first (λ cs c. followed entity_class_takes (λ class ds f.
    token_first (λ fs g. followed expression_takes (λ value gs w. token_first (λ hs h.
    gives (d.Specification (record { identifier = id; designator = of_what; class = class; value = value }))
    (stand x.stands (led x.inside (led a (led b (led c (led f (led g (one w))))))) h))))))))

pub attribute_takes : {o : Source} {n : ℕ} {ts : List Token} →
    Takes o n (s.word kind.Attribute ∷ s.id ∷ s.attribute_rest ∷ []) ts attribute (λ x us. Along o ts (nodes.Declaration x ∷ []) us)
unfolding attribute nodes.parts_of place_of
attribute_takes = token_first (λ us a. followed identifier_takes (λ id ws x. choose 26
    (λ c. if c == 0 then (skip >> (name >>= λ type. skip >> pure (d.Attribute id type))) else specification id)
    rules.attribute_rest_is
    (token_first (λ vs b. followed name_takes (λ type xs w. token_first (λ ys c. gives (d.Attribute id type) (led a (stand x.stands (led x.inside (led b (one w))) c)))))
    & claiming (specification_takes id x) (λ y vs b. led a b)
    & tt)))

each_object_along : {o : Source} {ts us ws : List Token} {ids : List Identifier} (class : ObjectClass) (parts : ObjectParts) → Identifiers o ts ids us →
    Along o us (nodes.parts_of_subtype parts.subtype ++ nodes.expression_if_there parts.value) ws → Along o ts (nodes.declarations (each_object class ids parts)) ws
unfolding each_object nodes.parts_of place_of
each_object_along class parts (none a) b = led a (passing b)
each_object_along class parts (next a here (none c)) b = led a (stand here (led c b) stay)
each_object_along class parts (next a here (next c there r)) b = led a (stand here stay (each_object_along class parts (next c there r) b))

objects_take : {o : Source} {n k : ℕ} {ts : List Token} (class : ObjectClass) →
    Takes o n (Word k ∷ s.id ∷ s.more_ids ∷ s.word kind.Colon ∷ s.sub ∷ s.default ∷ s.word kind.Semicolon ∷ []) ts (objects class) (λ found us. Along o ts (nodes.declarations found) us)
unfolding objects
objects_take class = token_first (λ us a. followed identifiers_take (λ ids ws r. token_first (λ vs b. followed sub_takes (λ type xs c.
    followed (optional_value_takes 14 rules.default_is) (λ value ys f. token_first (λ zs g.
    gives (each_object class ids (record { subtype = type; value = value }))
    (led a (ended (each_object_along class (record { subtype = type; value = value }) r (led b (joined c f))) g))))))))

pub alias_subtype_takes : {o : Source} {n : ℕ} {ts : List Token} → Takes o n (s.alias_sub ∷ []) ts alias_subtype (λ x us. Along o ts (nodes.subtype_if_there x) us)
unfolding alias_subtype
alias_subtype_takes = choose 29 (λ c. if c == 0 then pure None else (skip >> (sub >>= λ type. pure (Some type)))) rules.alias_sub_is
    (gives None stay
    & token_first (λ us a. followed sub_takes (λ type ws b. gives (Some type) (led a b)))
    & tt)

alias_takes : {o : Source} {n : ℕ} {ts : List Token} →
    Takes o n (s.word kind.Alias ∷ s.id ∷ s.alias_sub ∷ s.word kind.Is ∷ s.name ∷ s.word kind.Semicolon ∷ []) ts alias (λ x us. Along o ts (nodes.Declaration x ∷ []) us)
unfolding alias nodes.parts_of place_of
alias_takes = token_first (λ us a. followed identifier_takes (λ id ws x. followed alias_subtype_takes (λ type vs b. token_first (λ xs c. followed name_takes (λ target ys w. token_first (λ zs f.
    gives (d.Alias (record { identifier = id; subtype = type; target = target })) (led a (stand x.stands (led x.inside (joined b (led c (one w)))) f))))))))

component_takes : {o : Source} {n : ℕ} {ts : List Token} →
    Takes o n (s.word kind.Component ∷ s.id ∷ s.optional_is ∷ s.generics ∷ s.ports ∷ s.word kind.End ∷ s.word kind.Component ∷ s.optional_id ∷ s.word kind.Semicolon ∷ []) ts component
    (λ x us. Along o ts (nodes.Declaration x ∷ []) us)
unfolding component nodes.parts_of place_of
component_takes = token_first (λ qs a. followed identifier_takes (λ id bs x. passed (written_takes 30 rules.optional_is_is) (λ _ cs b.
    followed (interfaces_take 7 rules.generics_is) (λ generics ds c. followed (interfaces_take 8 rules.ports_is) (λ ports fs f.
    token_first (λ gs g. token_first (λ hs h. passed closing_takes (λ _ ks k. token_first (λ ls l.
    gives (d.Component (record { identifier = id; generics = generics; ports = ports }))
    (led a (stand x.stands (led x.inside (led b (joined c f))) (led g (led h (led k l))))))))))))))

pub decl_takes : {o : Source} {n : ℕ} {ts : List Token} → Takes o n (s.decl ∷ []) ts decl (λ found us. Along o ts (nodes.declarations found) us)
unfolding decl single
decl_takes = choose 25
    (λ c. if nat_lt 0 c && nat_lt c 4 then objects (object_class_of c) else (single c >>= λ x. pure (x ∷ [])))
    rules.decl_is
    (followed attribute_takes (λ x us a. gives (x ∷ []) a)
    & objects_take (object_class_of 1)
    & objects_take (object_class_of 2)
    & objects_take (object_class_of 3)
    & followed alias_takes (λ x us a. gives (x ∷ []) a)
    & followed component_takes (λ x us a. gives (x ∷ []) a)
    & tt)

pub declarations_take : {o : Source} {n : ℕ} {ts : List Token} → Takes o n (s.decls ∷ []) ts declarations (λ found us. Along o ts (nodes.declarations found) us)
declarations_take {o} = lists 24 _ _ (Each-along o (λ x. nodes.Declaration x)) (each_joined (λ x. nodes.Declaration x)) stay rules.decls_is (several (λ ts. decl_takes) & tt)
