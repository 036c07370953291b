-- What Level 0 says of the ports and generics of a cell.
use Rattle.std.proofs.Common.{◌≡◌, ℕ, Bool, true, false, List, get_or, Option, Some, None, refl, sym, ap, ◌∙◌}
use Rattle.std.proofs.lemmas.List.Elements.{Contains-get_or}
use Rattle.std.proofs.lemmas.Slice.Eq.{bytes_eq-Decides}
use Rattle.std.specs.Prelude.{All, ◌||◌, ◌&&◌, not, codes, is_none, is_some, unwrap_or, if◌then◌else◌}
use Rattle.std.specs.Option.{option_and_then, option_map, option_map_or, option_or}
use Rattle.std.specs.Str.{bytes_eq}
use Rattle.vital_base.specs.declared.breach.Breach.{Breach}
use Rattle.vital_declarations.specs.Types.{DeclaredType, Plain, Other, bounded_type, type_of}
use Rattle.vital_level0.specs.declared.parts.Parts.{Parts}
use Rattle.vital_level0.specs.declared.parts.Prefix.{Prefix}
use Rattle.vital_level0.specs.Breaches.{IsFirst, clause_4, clause_5, clause_7, clause_8, level_0}
use Rattle.vital_level0.specs.Clauses.{begins_as_timing, breaks_4, breaks_5, breaks_8, is_delay_type_of, is_extended, is_linkage}
use Rattle.vital_level0.specs.Split.{IsSplit, Splits, holds_underscore}
use Rattle.vital_level0.specs.Steps.{parts_of_name}
use Rattle.vital_level0.specs.TypeNames.{delay_type as delay_type_by_text, delay_type_named}
use Rattle.vital_level0.proofs.SplitLemmas.{complete, sound}
use Rattle.vital_names.specs.declared.predeclared.Predeclared.TheVariants as word
use Rattle.vital_names.specs.declared.predeclared.TypeName.{TypeName}
use Rattle.vital_names.specs.declared.predeclared.TypeName.TheVariants as type
use Rattle.vital_names.specs.Kinds.{as_type}
use Rattle.vital_names.specs.Words.{predeclared}
use Rattle.vital_nodes.specs.declared.decl.Iface.{Iface}
use Rattle.vital_nodes.specs.declared.decl.Mode.{Mode}
use Rattle.vital_nodes.specs.declared.decl.Subtype.{Subtype}
use Rattle.vital_nodes.specs.declared.identifier.Identifier.{Identifier}
use Rattle.vital_nodes.specs.declared.unit.Entity.{Entity}
use Rattle.vital_objects.specs.Generics.{delay_type, delay_type_of}
use Rattle.vital_timing.specs.declared.delay.DelayType.{DelayType}
use Rattle.vital_timing.specs.declared.delay.DelayType.TheVariants.{One, Two, Six}
use Rattle.vital_nodes.specs.Bounds.{items_at_end}
use Rattle.vital_nodes.specs.Names.{last_identifier}
use Rattle.vital_typed_cells.specs.SpelledNames.{is_port_name}

-- ---- what isn't broken

-- Where a test that holds breaks something, it does not hold.
fails : (b : Bool) → (b ≡ true → ⊥) → b ≡ false
fails true wrong = absurd (wrong refl)
fails false wrong = refl

either-fails : (a b : Bool) → (a || b) ≡ false → (not a ≡ true) × (not b ≡ true)
either-fails true b is = cc
either-fails false true is = cc
either-fails false false is = (refl, refl)

first-false : (a b : Bool) → (a || b) ≡ false → a ≡ false
first-false true b is = is
first-false false b is = refl

not-false : (b : Bool) → not b ≡ false → b ≡ true
not-false true is = refl
not-false false is = cc

abbrev at : ℕ → Iface → Breach
at number i = record { place = i.identifier.place; clause = level_0 number }

unbroken-4 : (e : Entity) → IsFirst e None → All (λ i. breaks_4 i ≡ false) e.ports
unbroken-4 e none = λ k d inside.
    let there = Contains-get_or e.ports k d inside in
    let i = get_or e.ports k d in
    fails (breaks_4 i) (λ broken. none (at 4 i) (clause_4 refl (there.0, i, there.1, there.2, (broken, refl))))

unbroken-5 : (e : Entity) → IsFirst e None → All (λ i. breaks_5 i ≡ false) e.ports
unbroken-5 e none = λ k d inside.
    let there = Contains-get_or e.ports k d inside in
    let i = get_or e.ports k d in
    fails (breaks_5 i) (λ broken. none (at 5 i) (clause_5 refl (there.0, i, there.1, there.2, (broken, refl))))

unbroken-7 : (e : Entity) → IsFirst e None → All (λ g. begins_as_timing g.identifier.name ≡ true → (Splits g.identifier.name e.ports → ⊥) → ⊥) e.generics
unbroken-7 e none = λ k d inside begins whole.
    let there = Contains-get_or e.generics k d inside in
    let g = get_or e.generics k d in
    none (at 7 g) (clause_7 refl (there.0, g, there.1, there.2, ((begins, whole), refl)))

unbroken-8 : (e : Entity) → IsFirst e None → All (λ g. (p : Parts) → IsSplit g.identifier.name e.ports p → breaks_8 p.kind g ≡ false) e.generics
unbroken-8 e none = λ k d inside p split.
    let there = Contains-get_or e.generics k d inside in
    let g = get_or e.generics k d in
    fails (breaks_8 p.kind g) (λ broken. none (at 8 g) (clause_8 refl (there.0, g, there.1, there.2, ((p.kind, (p, split, refl), broken), refl))))

-- ---- ports

-- The name of a port, and its mode.
abbrev pub IsFormed : List ℕ → Mode → Type 0
IsFormed name mode = (is_port_name name ≡ true) × (is_linkage mode ≡ false)

both-true : (a b : Bool) → a ≡ true → b ≡ true → (a && b) ≡ true
both-true true b first second = second
both-true false b first second = first

formed-port : (i : Iface) → breaks_4 i ≡ false → breaks_5 i ≡ false → IsFormed i.identifier.name i.parts.mode
formed-port i fourth fifth =
    let parts = either-fails (holds_underscore i.identifier.name) (is_extended i.identifier.name) fourth in (
      both-true (not (holds_underscore i.identifier.name)) (not (is_extended i.identifier.name)) parts.0 parts.1,
      first-false (is_linkage i.parts.mode) i.parts.bus fifth,
    )

pub formed-ports : (e : Entity) → IsFirst e None → All (λ i. IsFormed i.identifier.name i.parts.mode) e.ports
formed-ports e none = λ k d inside. formed-port (get_or e.ports k d) (unbroken-4 e none k d inside) (unbroken-5 e none k d inside)

-- ---- types of timing generics

named-same : (name : List ℕ) (word : List ℕ) → bytes_eq name word ≡ true → name ≡ word
named-same name word is = (bytes_eq-Decides name word).0 is

abbrev Means : List ℕ → DelayType → Type 0
Means name t = predeclared name ≡ Some (word.TypeName (type.Delay t))

word-means : (name written : List ℕ) (t : DelayType) → Means written t → bytes_eq name written ≡ true → Means name t
word-means name written t means is = ap predeclared (named-same name written is) ∙ means

third-means : (name : List ℕ) (t : DelayType) (c : Bool) → bytes_eq name (codes "vitaldelaytype01z") ≡ c → (if c then Some Six else None) ≡ Some t → Means name t
third-means name One true third is = cc
third-means name Two true third is = cc
third-means name Six true third is = word-means name (codes "vitaldelaytype01z") Six refl third
third-means name t false third is = cc

second-means : (name : List ℕ) (t : DelayType) (b : Bool) → bytes_eq name (codes "vitaldelaytype01") ≡ b
    → (if b then Some Two else if bytes_eq name (codes "vitaldelaytype01z") then Some Six else None) ≡ Some t → Means name t
second-means name One true second is = cc
second-means name Two true second is = word-means name (codes "vitaldelaytype01") Two refl second
second-means name Six true second is = cc
second-means name t false second is = third-means name t (bytes_eq name (codes "vitaldelaytype01z")) refl is

first-means : (name : List ℕ) (t : DelayType) (a : Bool) → bytes_eq name (codes "vitaldelaytype") ≡ a
    → (if a then Some One else if bytes_eq name (codes "vitaldelaytype01") then Some Two else if bytes_eq name (codes "vitaldelaytype01z") then Some Six else None) ≡ Some t → Means name t
first-means name One true first is = word-means name (codes "vitaldelaytype") One refl first
first-means name Two true first is = cc
first-means name Six true first is = cc
first-means name t false first is = second-means name t (bytes_eq name (codes "vitaldelaytype01")) refl is

named-means : (name : List ℕ) (t : DelayType) → delay_type_named name ≡ Some t → Means name t
named-means name t is = first-means name t (bytes_eq name (codes "vitaldelaytype")) refl is

abbrev type_by : Bool → Option Identifier → Option TypeName
type_by b last = if b then option_and_then (λ i. option_and_then as_type (predeclared i.name)) last else None

abbrev text_by : Bool → Option Identifier → Option (List ℕ)
text_by b last = if b then option_map (λ i. i.name) last else None

types-agree : (b : Bool) (last : Option Identifier) (bounded : Option DeclaredType) (t : DelayType) → option_map_or delay_type_named (text_by b last) None ≡ Some t
    → delay_type_of (unwrap_or (option_or (option_map (λ u. Plain u) (type_by b last)) bounded) Other) ≡ Some t
types-agree false last bounded t is = cc
types-agree true None bounded t is = cc
types-agree true (Some i) bounded t is =
    ap (λ o. delay_type_of (unwrap_or (option_or (option_map (λ u. Plain u) (option_and_then as_type o)) bounded) Other)) (named-means i.name t is)

same-type : (s : Subtype) (t : DelayType) → delay_type_by_text s ≡ Some t → delay_type_of (type_of s) ≡ Some t
same-type s t is = types-agree (is_none s.range && is_none (items_at_end s.name)) (last_identifier s.name) (bounded_type s) t is

-- A generic is a delay of a type that a prefix may have.
pub record IsDelayFor (kind : Prefix) (g : Iface) : Type 0 where
  pub delay : DelayType
  pub is : delay_type g ≡ Some delay
  pub fitting : is_delay_type_of kind delay ≡ true

delay-for : (kind : Prefix) (g : Iface) (o : Option DelayType) → delay_type_by_text g.parts.subtype ≡ o → not (option_map_or (is_delay_type_of kind) o false) ≡ false → IsDelayFor kind g
delay-for kind g None is holds = absurd cc
delay-for kind g (Some t) is holds = record { delay = t; is = same-type g.parts.subtype t is; fitting = not-false (is_delay_type_of kind t) holds }

-- ---- generics

no-parts : (p : Parts) → ◌≡◌ {A = Option Parts} None (Some p) → ⊥
no-parts p is = cc

are-parts : (ports : List Iface) (name : List ℕ) (o : Option Parts) → parts_of_name ports name ≡ o → ((Splits name ports → ⊥) → ⊥) → is_some o ≡ true
are-parts ports name None is not-whole = absurd (not-whole (λ s. no-parts s.0 (sym is ∙ complete ports name s.0 s.1)))
are-parts ports name (Some p) is not-whole = refl

-- A generic whose name begins as that of a timing generic has a name that splits, and one whose name splits is a delay of a type that its
-- prefix may have.
pub record IsFormedGeneric (e : Entity) (g : Iface) : Type 0 where
  pub splits : begins_as_timing g.identifier.name ≡ true → is_some (parts_of_name e.ports g.identifier.name) ≡ true
  pub typed : (p : Parts) → parts_of_name e.ports g.identifier.name ≡ Some p → IsDelayFor p.kind g

pub formed-generics : (e : Entity) → IsFirst e None → All (IsFormedGeneric e) e.generics
formed-generics e none = λ k d inside.
    let g = get_or e.generics k d in record {
      splits = λ begins. are-parts e.ports g.identifier.name (parts_of_name e.ports g.identifier.name) refl (unbroken-7 e none k d inside begins);
      typed = λ p is. delay-for p.kind g (delay_type_by_text g.parts.subtype) refl (unbroken-8 e none k d inside p (sound e.ports g.identifier.name p is));
    }
