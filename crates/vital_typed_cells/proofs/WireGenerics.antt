-- The delay of each wire of a typed tree is one of its timing generics.
use Rattle.std.proofs.Common.{◌≡◌, ℕ, Bool, true, false, List, [], ◌∷◌, ◌++◌, Option, Some, None, map, refl, sym, subst, ap, ◌∙◌}
use Rattle.std.proofs.lemmas.List.Elements.{recursion_from_All}
use Rattle.std.proofs.lemmas.Slice.Eq.{bytes_eq-Decides}
use Rattle.std.specs.Prelude.{All, IfSome, ◌||◌, ◌&&◌, codes, cond, is_some}
use Rattle.std.specs.List.{AllByRecursion, cons_option, filter_map, list_any}
use Rattle.std.specs.Option.{option_and_then, option_map, option_map_or, option_or}
use Rattle.std.specs.Str.{bytes_eq}
use Rattle.vital_base.specs.declared.place.Place.{Place}
use Rattle.vital_base.specs.Places.{is_before}
use Rattle.vital_calls.specs.Calls.{Call}
use Rattle.vital_calls.specs.Matching.{has_wrong_formals}
use Rattle.vital_drivers.specs.Named.{is_generic}
use Rattle.vital_drivers.specs.Wires.{Wire, given, has_tipd, is_tipd, is_tipd_name, is_wire_delay, port_given, signal_given, wire_delay, wire_given, wire_of, wire_of_call, wire_of_items}
use Rattle.vital_level0.specs.declared.parts.Parts.{Parts}
use Rattle.vital_level0.specs.Breaches.{IsFirst}
use Rattle.vital_level0.specs.Clauses.{begins_as_timing}
use Rattle.vital_names.specs.Declarations.{Declared, body_of, declared_by, declared_in, first_named, identifier_of, interface_of}
use Rattle.vital_names.specs.Declarations as declared
use Rattle.vital_names.specs.Meanings.{first_before, if_before}
use Rattle.vital_names.specs.Sites.{Cell}
use Rattle.vital_nodes.specs.declared.decl.Decl.{Decl}
use Rattle.vital_nodes.specs.declared.decl.Decl.TheVariants as decl
use Rattle.vital_nodes.specs.declared.decl.Iface.{Iface}
use Rattle.vital_nodes.specs.declared.expr.Expr.{Expr}
use Rattle.vital_nodes.specs.declared.expr.Item.{Item}
use Rattle.vital_nodes.specs.declared.identifier.Identifier.{Identifier}
use Rattle.vital_nodes.specs.declared.unit.Arch.{Arch}
use Rattle.vital_objects.specs.declared.package_value.PackageValue.{PackageValue}
use Rattle.vital_objects.specs.Generics.{parts, timing_generics}
use Rattle.vital_statements.specs.Called.{call_of_conc, procedure_of}
use Rattle.vital_statements.specs.Operands.{means}
use Rattle.vital_statements.specs.Parentheses.{bare_identifier}
use Rattle.vital_typed_cells.specs.declared.wire.WireDelay.{WireDelay}
use Rattle.vital_typed_cells.specs.Wires.{joined, tipd, wire, wires}
use Rattle.vital_uses.specs.Statements.{statements}
use Rattle.vital_typed_cells.proofs.Formed.{IsFormedGeneric, formed-generics}
use Rattle.vital_typed_cells.proofs.NameGenerics.{timing_name, timings-named}
use Rattle.vital_typed_cells.proofs.Spelled.{all-taken}

-- ---- generics that are meant

-- What is found is no generic.
abbrev IsOther : Option Declared → Type 0
IsOther o = IfSome o (λ d. is_generic d ≡ false)

either-other : (b : Bool) (d : Declared) (o : Option Declared) → is_generic d ≡ false → IsOther o → IsOther (cond b (Some d) o)
either-other true d o here others = here
either-other false d o here others = others

no-port : (name : List ℕ) (is : List Iface) → IsOther (first_named name (map (λ i. declared.Port i) is))
no-port name [] = tt
no-port name (i ∷ is) = either-other (bytes_eq i.identifier.name name) (declared.Port i) (first_named name (map (λ j. declared.Port j) is)) refl (no-port name is)

in-body : (name : List ℕ) (ds : List Decl) → IsOther (first_named name (declared_in ds))
in-body name [] = tt
in-body name (decl.Attribute identifier type_mark ∷ ds) = in-body name ds
in-body name (decl.Specification s ∷ ds) = in-body name ds
in-body name (decl.Object o ∷ ds) = either-other (bytes_eq o.identifier.name name) (declared.Object o) (first_named name (declared_in ds)) refl (in-body name ds)
in-body name (decl.Alias a ∷ ds) = either-other (bytes_eq a.identifier.name name) (declared.Alias a) (first_named name (declared_in ds)) refl (in-body name ds)
in-body name (decl.Component c ∷ ds) = in-body name ds

in-arch : (name : List ℕ) (arch : Option Arch) → IsOther (first_named name (body_of arch))
in-arch name None = tt
in-arch name (Some a) = in-body name a.declarations

where-before : (v : Place) (o : Option Declared) → IsOther o → IsOther (option_and_then (if_before v) o)
where-before v None other = tt
where-before v (Some d) other = either-other (is_before (identifier_of d).place v) d None other tt

not-other : (o : Option Declared) → IsOther o → option_map_or is_generic o false ≡ false
not-other None other = refl
not-other (Some d) other = other

behind-other : (o q : Option Declared) → IsOther o → option_map_or is_generic (option_or o q) false ≡ true → option_map_or is_generic q false ≡ true
behind-other None q other is = is
behind-other (Some d) q other is = cc

abbrev IsNamedIn : List ℕ → List Iface → Type 0
IsNamedIn name is = list_any (λ i. bytes_eq i.identifier.name name) is ≡ true

either-generic : (b rest : Bool) (i : Iface) (o : Option Declared) → (option_map_or is_generic o false ≡ true → rest ≡ true) → option_map_or is_generic (cond b (Some (declared.Generic i)) o) false ≡ true
    → (b || rest) ≡ true
either-generic true rest i o others is = refl
either-generic false rest i o others is = others is

among-generics : (name : List ℕ) (gs ps : List Iface) → option_map_or is_generic (first_named name (map (λ i. declared.Generic i) gs ++ map (λ i. declared.Port i) ps)) false ≡ true → IsNamedIn name gs
among-generics name [] ps is = sym (not-other (first_named name (map (λ i. declared.Port i) ps)) (no-port name ps)) ∙ is
among-generics name (g ∷ gs) ps is =
    either-generic (bytes_eq g.identifier.name name) (list_any (λ i. bytes_eq i.identifier.name name) gs) g (first_named name (map (λ i. declared.Generic i) gs ++ map (λ i. declared.Port i) ps))
    (among-generics name gs ps) is

-- A generic that is meant is one of the entity.
meant-generic : (cell : Cell) (i : Identifier) → means is_generic cell None i ≡ true → IsNamedIn i.name cell.entity.generics
meant-generic cell i is =
    among-generics i.name cell.entity.generics cell.entity.ports
    (behind-other (first_before i.place i.name (body_of cell.arch)) (first_named i.name (interface_of cell.entity))
    (where-before i.place (first_named i.name (body_of cell.arch)) (in-arch i.name cell.arch)) is)

-- ---- timing generics of a name

-- A generic whose name begins as that of a timing generic is one.
abbrev IsTimed : Cell → Iface → Type 0
IsTimed cell i = begins_as_timing i.identifier.name ≡ true → timing_name cell i ≡ Some i.identifier.name

with-parts : (cell : Cell) (i : Iface) (o : Option Parts) → parts cell i ≡ o → is_some o ≡ true → IsFormedGeneric cell.entity i → timing_name cell i ≡ Some i.identifier.name
with-parts cell i None split there formed = cc
with-parts cell i (Some p) split there formed =
    let has = formed.typed p split in
    ap (λ t. option_and_then (λ d. option_map (λ q. i.identifier.name) (parts cell i)) t) has.is
    ∙ ap (option_map (λ q. i.identifier.name)) split

timed : (cell : Cell) (i : Iface) → IsFormedGeneric cell.entity i → IsTimed cell i
timed cell i formed = λ begins. with-parts cell i (parts cell i) refl (formed.splits begins) formed

abbrev IsAmong : List ℕ → List (List ℕ) → Type 0
IsAmong name ns = list_any (λ n. bytes_eq n name) ns ≡ true

still-among : (name : List ℕ) (o : Option (List ℕ)) (ns : List (List ℕ)) → IsAmong name ns → IsAmong name (cons_option o ns)
still-among name None ns there = there
still-among name (Some n) ns there = or-other (bytes_eq n name) there
  where
    or-other : (b : Bool) → list_any (λ m. bytes_eq m name) ns ≡ true → (b || list_any (λ m. bytes_eq m name) ns) ≡ true
    or-other true is = refl
    or-other false is = is

itself : (name : List ℕ) → bytes_eq name name ≡ true
itself name = (bytes_eq-Decides name name).1 refl

with-name : (cell : Cell) (name : List ℕ) (i : Iface) (ns : List (List ℕ)) (b rest : Bool) → bytes_eq i.identifier.name name ≡ b → begins_as_timing name ≡ true → IsTimed cell i
    → (rest ≡ true → IsAmong name ns) → (b || rest) ≡ true → IsAmong name (cons_option (timing_name cell i) ns)
with-name cell name i ns true rest same begins timed others there =
    let named : i.identifier.name ≡ name = (bytes_eq-Decides i.identifier.name name).0 same in
    let is : timing_name cell i ≡ Some name = timed (subst (λ n. begins_as_timing n ≡ true) (sym named) begins) ∙ ap (λ n. Some n) named in
    subst (λ o. IsAmong name (cons_option o ns)) (sym is) (ap (λ b. b || list_any (λ n. bytes_eq n name) ns) (itself name))
with-name cell name i ns false rest same begins timed others there = still-among name (timing_name cell i) ns (others there)

names-among : (cell : Cell) (name : List ℕ) (is : List Iface) → begins_as_timing name ≡ true → AllByRecursion (IsFormedGeneric cell.entity) is → IsNamedIn name is
    → IsAmong name (filter_map (timing_name cell) is)
names-among cell name [] begins formed there = there
names-among cell name (i ∷ is) begins formed there =
    with-name cell name i (filter_map (timing_name cell) is) (bytes_eq i.identifier.name name) (list_any (λ j. bytes_eq j.identifier.name name) is) refl begins
    (timed cell i formed.0) (names-among cell name is begins formed.1) there

any-mapped : {A B : Type 0} (test : B → Bool) (f : A → B) (xs : List A) → list_any (λ x. test (f x)) xs ≡ list_any test (map f xs)
any-mapped test f [] = refl
any-mapped test f (x ∷ xs) = ap (λ b. test (f x) || b) (any-mapped test f xs)

-- ---- wires

tipd-begins : (port : List ℕ) → begins_as_timing (tipd port) ≡ true
tipd-begins port = refl

first-true : (a b : Bool) → (a && b) ≡ true → a ≡ true
first-true true b is = refl
first-true false b is = is

second-true : (a b : Bool) → (a && b) ≡ true → b ≡ true
second-true true b is = is
second-true false b is = cc

module _ (cell : Cell) (known : List (Option PackageValue)) (none : IsFirst cell.entity None) where
  -- There is a timing generic of a name.
  abbrev HasTiming : List ℕ → Type 0
  HasTiming name = list_any (λ g. bytes_eq g.name name) (timing_generics cell [] known) ≡ true

  abbrev HasDelay : Wire → Type 0
  HasDelay w = HasTiming (tipd w.1.name)

  timing-there : (name : List ℕ) → begins_as_timing name ≡ true → IsNamedIn name cell.entity.generics → HasTiming name
  timing-there name begins there =
      any-mapped (λ n. bytes_eq n name) (λ g. g.name) (timing_generics cell [] known)
      ∙ ap (list_any (λ n. bytes_eq n name)) (timings-named cell [] known)
      ∙ names-among cell name cell.entity.generics begins (recursion_from_All (IsFormedGeneric cell.entity) cell.entity.generics (formed-generics cell.entity none)) there

  by-identifier : (port : Identifier) (o : Option Identifier) → option_map_or (λ i. is_tipd_name port.name i.name && means is_generic cell None i) o false ≡ true → HasTiming (tipd port.name)
  by-identifier port None is = cc
  by-identifier port (Some i) is =
      let named : tipd port.name ≡ i.name = (bytes_eq-Decides (tipd port.name) i.name).0 (first-true (is_tipd_name port.name i.name) (means is_generic cell None i) is) in
      timing-there (tipd port.name) (tipd-begins port.name)
      (subst (λ n. IsNamedIn n cell.entity.generics) (sym named) (meant-generic cell i (second-true (is_tipd_name port.name i.name) (means is_generic cell None i) is)))

  by-given : (port : Identifier) (o : Option Expr) → option_map_or (is_tipd cell port) o false ≡ true → HasTiming (tipd port.name)
  by-given port None is = cc
  by-given port (Some e) is = by-identifier port (bare_identifier e) is

  with-port : (is : List Item) (s p : Identifier) (b : Bool) → has_tipd cell p is ≡ b → IfSome {T = Wire} (cond b (Some (s, p)) None) HasDelay
  with-port is s p true has = by-given p (given (codes "twire") is) has
  with-port is s p false has = tt

  with-signal : (is : List Item) (s : Identifier) (o : Option Identifier) → IfSome {T = Wire} (option_and_then (λ p. cond (has_tipd cell p is) (Some (s, p)) None) o) HasDelay
  with-signal is s None = tt
  with-signal is s (Some p) = with-port is s p (has_tipd cell p is) refl

  with-items : (is : List Item) (o : Option Identifier) → IfSome {T = Wire} (option_and_then (λ s. option_and_then (λ p. cond (has_tipd cell p is) (Some (s, p)) None) (port_given cell is)) o) HasDelay
  with-items is None = tt
  with-items is (Some s) = with-signal is s (port_given cell is)

  unless : (b : Bool) (o : Option Wire) → IfSome o HasDelay → IfSome (cond b None o) HasDelay
  unless true o has = tt
  unless false o has = has

  only : (b : Bool) (o : Option Wire) → IfSome o HasDelay → IfSome (cond b o None) HasDelay
  only true o has = has
  only false o has = tt

  by-call : (c : Call) → IfSome (wire_of_call cell c) HasDelay
  by-call c =
      only (option_map_or is_wire_delay (procedure_of cell None c) false) (wire_of_items cell c.items)
      (unless (has_wrong_formals wire_delay c.items) (wire_given cell c.items) (with-items c.items (signal_given cell c.items)))

  if-call : (o : Option Call) → IfSome (option_and_then (wire_of_call cell) o) HasDelay
  if-call None = tt
  if-call (Some c) = by-call c

  -- The generic of a wire is a timing generic.
  abbrev pub IsTimedWire : WireDelay → Type 0
  IsTimedWire w = HasTiming w.generic

  if-joined : (o : Option Wire) → IfSome o HasDelay → IfSome (option_map joined o) IsTimedWire
  if-joined None has = tt
  if-joined (Some w) has = has

  pub wires-timed : All IsTimedWire (wires cell)
  wires-timed = all-taken IsTimedWire (wire cell) (λ c. if-joined (wire_of cell c) (if-call (call_of_conc c))) (statements cell.arch)
