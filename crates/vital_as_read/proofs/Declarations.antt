-- Readers of interfaces and declarations give what is declared along the tokens, and what is declared together is alike.
use Rattle.std.proofs.Common.{◌≡◌, ℕ, ◌==◌, nat_lt, ◌&&◌, if◌then◌else◌, List, [], ◌∷◌, ◌++◌, slice_get, Option, Some, refl, sym, subst}
use Rattle.std.proofs.lemmas.List.Elements.{filter_map-append}
use Rattle.vital_grammar.specs.Grammar.{grammar}
use Rattle.vital_grammar.specs.RuleNumbers as s
use Rattle.vital_ll.specs.declared.grammar.Sym.TheVariants.{Token as Word, Rule}
use Rattle.vital_vhdl_lexemes.specs.declared.kinds.Kind.TheVariants as kind
use Rattle.vital_lex.specs.declared.token_list.Token.{Token}
use Rattle.vital_names.specs.Declarations.{Declared, Alias, declared_by, declared_in, identifier_of}
use Rattle.vital_names.specs.Viewpoints.{is_last}
use Rattle.vital_nodes.specs.declared.decl.Decl.{Decl}
use Rattle.vital_nodes.specs.declared.decl.Decl.TheVariants as d
use Rattle.vital_nodes.specs.declared.decl.Iface.{Iface}
use Rattle.vital_nodes.specs.declared.decl.IfaceClass.{IfaceClass}
use Rattle.vital_nodes.specs.declared.decl.IfaceParts.{IfaceParts}
use Rattle.vital_nodes.specs.declared.decl.ObjectClass.{ObjectClass}
use Rattle.vital_nodes.specs.declared.decl.ObjectParts.{ObjectParts}
use Rattle.vital_nodes.specs.declared.identifier.Identifier.{Identifier}
use Rattle.vital_shapes.specs.Reading.{◌>>=◌, ◌>>◌, pure, skip, after, more_lists}
use Rattle.vital_shapes.specs.Expressions.{name}
use Rattle.vital_shapes.specs.Declarations.{each_iface, iface_parts, iface, interfaces, specification, attribute, object_class_of, each_object, objects, alias, component, single, decl, declarations}
use Rattle.vital_shapes.proofs.Along.{Source, Along, stay, led, passing}
use Rattle.vital_shapes.proofs.Declarations.{alias_subtype_takes, designator_takes, entity_class_takes, iface_class_takes, mode_takes, sub_takes, interfaces_take}
use Rattle.vital_shapes.proofs.Identifiers.{written_takes, closing_takes}
use Rattle.vital_shapes.proofs.Lists.{lists, several}
use Rattle.vital_shapes.proofs.Outermost.{expression_takes, name_takes, optional_value_takes}
use Rattle.vital_shapes.proofs.Rules as rules
use Rattle.vital_shapes.proofs.Steps.{◌&◌, choose, step, token_first}
use Rattle.vital_shapes.proofs.Takes.{Takes, followed, passed, gives, claiming}
use Rattle.vital_as_read.specs.AsRead.{AreInterfaceTogether, AreTogether, common_of}
use Rattle.vital_as_read.proofs.Alike.{alike_joined, ifaces_alike, objects_alike}
use Rattle.vital_as_read.proofs.Each.{Each, each_as, each_ended, each_joined, each_led, each_passed, ends, here, none_each, over}
use Rattle.vital_as_read.proofs.Identifiers.{identifier_is, identifiers_are, one_each}

-- ---- interfaces

-- interfaces that are declared along the tokens
pub record InterfacesAlong (o : Source) (ts : List Token) (found : List Iface) (us : List Token) : Type 0 where
  pub each : Each o (λ i. i.identifier) ts found us
  pub together : AreInterfaceTogether found

no_interface : {o : Source} {ts us : List Token} → Along o ts [] us → InterfacesAlong o ts [] us
no_interface a = record { each = none_each a; together = tt }

interfaces_led : {o : Source} {ts us ws : List Token} {found : List Iface} → Along o ts [] us → InterfacesAlong o us found ws → InterfacesAlong o ts found ws
interfaces_led a b = record { each = each_led a b.each; together = b.together }

interfaces_ended : {o : Source} {ts us ws : List Token} {found : List Iface} → InterfacesAlong o ts found us → Along o us [] ws → InterfacesAlong o ts found ws
interfaces_ended a b = record { each = each_ended a.each b; together = a.together }

interfaces_joined : {o : Source} (ts us ws : List Token) (xs ys : List Iface) → InterfacesAlong o ts xs us → InterfacesAlong o us ys ws → InterfacesAlong o ts (xs ++ ys) ws
interfaces_joined ts us ws xs ys a b =
    record { each = each_joined a.each b.each; together = alike_joined (λ i. i.is_last) (λ i. i.parts) xs ys a.together b.together }

iface_parts_pass : {o : Source} {n : ℕ} {ts : List Token} (class : Option IfaceClass) →
    Takes o n (s.mode ∷ s.sub ∷ s.bus ∷ s.default ∷ []) ts (iface_parts class) (λ _ us. Along o ts [] us)
unfolding iface_parts
iface_parts_pass class = followed mode_takes (λ way us a. followed sub_takes (λ type ws b. followed (written_takes 13 rules.bus_is) (λ bus vs c.
    followed (optional_value_takes 14 rules.default_is) (λ default xs f.
    gives (record { class = class; mode = way; subtype = type; bus = bus; default = default }) (led a (led (passing b) (led c (passing f))))))))

each_iface_along : {o : Source} {ts us : List Token} {ids : List Identifier} (parts : IfaceParts) → Each o (λ x. x) ts ids us → Each o (λ i. i.identifier) ts (each_iface ids parts) us
unfolding each_iface
each_iface_along parts ends = ends
each_iface_along parts (over a) = over (each_iface_along parts a)
each_iface_along parts (here x a) = here x (each_iface_along parts a)

iface_along : {o : Source} {n : ℕ} {ts : List Token} → Takes o n (s.iface ∷ []) ts iface (InterfacesAlong o ts)
unfolding iface
iface_along = step 10 rules.iface_is (followed iface_class_takes (λ class us a. followed identifiers_are (λ ids ws r. token_first (λ vs b. followed (iface_parts_pass class) (λ parts xs c.
    gives (each_iface ids parts) (record { each = each_led a (each_ended (each_iface_along parts r) (led b c)); together = ifaces_alike ids parts }))))))

more_ifaces_along : {o : Source} {n : ℕ} {ts us : List Token} (found : List Iface) → InterfacesAlong o ts found us →
    Takes o n (s.more_ifaces ∷ []) us (more_lists (λ _. after iface) found) (InterfacesAlong o ts)
more_ifaces_along {o} found a = lists 9 _ _ (InterfacesAlong o) interfaces_joined a rules.more_ifaces_is
    (several (λ ts. token_first (λ us b. claiming iface_along (λ all ws c. interfaces_led b c))) & tt)

pub interfaces_along : {o : Source} {n k : ℕ} {ts : List Token} (r : ℕ) →
    slice_get grammar r ≡ Some ([] ∷ (Word k ∷ s.word kind.LeftParenthesis ∷ s.iface ∷ s.more_ifaces ∷ s.word kind.RightParenthesis ∷ s.word kind.Semicolon ∷ []) ∷ []) →
    Takes o n (Rule r ∷ []) ts interfaces (InterfacesAlong o ts)
unfolding interfaces
interfaces_along r known = choose r
    (λ c. if c == 0 then pure [] else (skip >> (skip >> (iface >>= λ first. more_lists (λ _. after iface) first >>= λ all. skip >> (skip >> pure all)))))
    known
    (gives [] (no_interface stay)
    & token_first (λ us a. token_first (λ ws b. followed iface_along (λ first vs c. followed (more_ifaces_along first (interfaces_led a (interfaces_led b c))) (λ all xs f.
    token_first (λ ys g. token_first (λ zs h. gives all (interfaces_ended f (led g h))))))))
    & tt)

-- ---- declarations

-- declarations of which what they declare is declared along the tokens
pub record DeclarationsAlong (o : Source) (ts : List Token) (found : List Decl) (us : List Token) : Type 0 where
  pub each : Each o identifier_of ts (declared_in found) us
  pub together : AreTogether found

declarations_joined : {o : Source} (ts us ws : List Token) (xs ys : List Decl) → DeclarationsAlong o ts xs us → DeclarationsAlong o us ys ws → DeclarationsAlong o ts (xs ++ ys) ws
declarations_joined {o} ts us ws xs ys a b = record {
  each = subst (λ (l : List Declared). Each o identifier_of ts l ws) (sym (filter_map-append declared_by xs ys)) (each_joined a.each b.each);
  together = alike_joined is_last common_of xs ys a.together b.together;
}

specification_along : {o : Source} {n : ℕ} {ts us : List Token} (id : Identifier) → Along o ts [] us →
    Takes o n (s.word kind.Of ∷ s.designator ∷ s.word kind.Colon ∷ s.class ∷ s.word kind.Is ∷ s.expr ∷ s.word kind.Semicolon ∷ []) us (specification id)
    (λ x ws. DeclarationsAlong o ts (x ∷ []) ws)
unfolding specification
specification_along id x = token_first (λ qs a. followed designator_takes (λ of_what bs b. token_first (λ cs c. followed entity_class_takes (λ class ds f.
    token_first (λ fs g. followed expression_takes (λ value gs w. token_first (λ hs h.
    gives (d.Specification (record { identifier = id; designator = of_what; class = class; value = value }))
    (record { each = none_each (led x (led a (led b (led c (led f (led g (led (passing w.inside) h))))))); together = (refl, tt) }))))))))

attribute_along : {o : Source} {n : ℕ} {ts : List Token} →
    Takes o n (s.word kind.Attribute ∷ s.id ∷ s.attribute_rest ∷ []) ts attribute (λ x us. DeclarationsAlong o ts (x ∷ []) us)
unfolding attribute
attribute_along = token_first (λ us a. followed identifier_is (λ id ws x. choose 26
    (λ c. if c == 0 then (skip >> (name >>= λ type. skip >> pure (d.Attribute id type))) else specification id)
    rules.attribute_rest_is
    (token_first (λ vs b. followed name_takes (λ type xs w. token_first (λ ys c.
    gives (d.Attribute id type) (record { each = none_each (led a (led (each_passed (one_each x)) (led b (led (passing w.inside) c)))); together = (refl, tt) }))))
    & specification_along id (led a (each_passed (one_each x)))
    & tt)))

each_object_along : {o : Source} {ts us : List Token} {ids : List Identifier} (class : ObjectClass) (parts : ObjectParts) → Each o (λ x. x) ts ids us →
    Each o identifier_of ts (declared_in (each_object class ids parts)) us
unfolding each_object
each_object_along class parts ends = ends
each_object_along class parts (over a) = over (each_object_along class parts a)
each_object_along class parts (here x a) = here x (each_object_along class parts a)

objects_along : {o : Source} {n k : ℕ} {ts : List Token} (class : ObjectClass) →
    Takes o n (Word k ∷ s.id ∷ s.more_ids ∷ s.word kind.Colon ∷ s.sub ∷ s.default ∷ s.word kind.Semicolon ∷ []) ts (objects class) (DeclarationsAlong o ts)
unfolding objects
objects_along class = token_first (λ us a. followed identifiers_are (λ ids ws r. token_first (λ vs b. followed sub_takes (λ type xs c.
    followed (optional_value_takes 14 rules.default_is) (λ value ys f. token_first (λ zs g.
    gives (each_object class ids (record { subtype = type; value = value })) (record {
      each = each_led a (each_ended (each_object_along class (record { subtype = type; value = value }) r) (led b (led (passing c) (led (passing f) g))));
      together = objects_alike class ids (record { subtype = type; value = value });
    })))))))

alias_along : {o : Source} {n : ℕ} {ts : List Token} →
    Takes o n (s.word kind.Alias ∷ s.id ∷ s.alias_sub ∷ s.word kind.Is ∷ s.name ∷ s.word kind.Semicolon ∷ []) ts alias (λ x us. DeclarationsAlong o ts (x ∷ []) us)
unfolding alias
alias_along = token_first (λ us a. followed identifier_is (λ id ws x. followed alias_subtype_takes (λ type vs b. token_first (λ xs c. followed name_takes (λ target ys w. token_first (λ zs f.
    gives (d.Alias (record { identifier = id; subtype = type; target = target })) (record {
      each = each_led a (each_ended (each_as (λ y. Alias (record { identifier = y; subtype = type; target = target })) (λ y. refl) (one_each x)) (led (passing b) (led c (led (passing w.inside) f))));
      together = (refl, tt);
    })))))))

component_along : {o : Source} {n : ℕ} {ts : List Token} →
    Takes o n (s.word kind.Component ∷ s.id ∷ s.optional_is ∷ s.generics ∷ s.ports ∷ s.word kind.End ∷ s.word kind.Component ∷ s.optional_id ∷ s.word kind.Semicolon ∷ []) ts component
    (λ x us. DeclarationsAlong o ts (x ∷ []) us)
unfolding component
component_along = token_first (λ qs a. followed identifier_is (λ id bs x. passed (written_takes 30 rules.optional_is_is) (λ _ cs b.
    followed (interfaces_take 7 rules.generics_is) (λ generics ds c. followed (interfaces_take 8 rules.ports_is) (λ ports fs f.
    token_first (λ gs g. token_first (λ hs h. passed closing_takes (λ _ ks k. token_first (λ ls l.
    gives (d.Component (record { identifier = id; generics = generics; ports = ports })) (record {
      each = none_each (led a (led (each_passed (one_each x)) (led b (led (passing c) (led (passing f) (led g (led h (led k l))))))));
      together = (refl, tt);
    }))))))))))

decl_along : {o : Source} {n : ℕ} {ts : List Token} → Takes o n (s.decl ∷ []) ts decl (DeclarationsAlong o ts)
unfolding decl single
decl_along = choose 25
    (λ c. if nat_lt 0 c && nat_lt c 4 then objects (object_class_of c) else (single c >>= λ x. pure (x ∷ [])))
    rules.decl_is
    (followed attribute_along (λ x us a. gives (x ∷ []) a)
    & objects_along (object_class_of 1)
    & objects_along (object_class_of 2)
    & objects_along (object_class_of 3)
    & followed alias_along (λ x us a. gives (x ∷ []) a)
    & followed component_along (λ x us a. gives (x ∷ []) a)
    & tt)

pub declarations_along : {o : Source} {n : ℕ} {ts : List Token} → Takes o n (s.decls ∷ []) ts declarations (DeclarationsAlong o ts)
declarations_along {o} = lists 24 _ _ (DeclarationsAlong o) declarations_joined (record { each = ends; together = tt }) rules.decls_is (several (λ ts. decl_along) & tt)
