-- What is kept of files tells their entities and architectures.
use Rattle.std.proofs.Common.{◌≡◌, ℕ, zero, suc, ◌<◌, ◌≤◌, true, false, List, [], ◌∷◌, map, length, get_or, refl, sym, ◌∙◌, ap, arith}
use Rattle.std.specs.Prelude.{Bool, cond, Option, Some, None, filter, Result, Ok, Err}
use Rattle.std.specs.List.{filter_map, cons_option, AllByRecursion, slice_get, position_from}
use Rattle.std.specs.Option.{option_map, option_map_or, option_and_then}
use Rattle.std.specs.Str.{bytes_eq}
use Rattle.std.proofs.lemmas.List.{length-map}
use Rattle.std.proofs.lemmas.Option.{slice_get_past, slice_get-map, slice_get-get_or}
use Rattle.std.proofs.lemmas.List.Sums.{length-filter, count_by-le-length}
use Rattle.std.proofs.lemmas.Simd.{map-map}
use Rattle.std.proofs.lemmas.Iterator.Adapters.{position_from-zero}
use Rattle.vital_base.specs.declared.place.Place.{Place}
use Rattle.vital_nodes.specs.declared.unit.Arch.{Arch}
use Rattle.vital_nodes.specs.declared.unit.Entity.{Entity}
use Rattle.vital_nodes.specs.declared.unit.Unit.{Unit as Unit'}
use Rattle.vital_nodes.specs.declared.unit.Unit.TheVariants as variant
use Rattle.vital_nodes.specs.declared.unit.Units.{Units}
use Rattle.vital_library.specs.declared.entry.Entry.{Entry}
use Rattle.vital_library.specs.declared.error.LibraryError.{LibraryError}
use Rattle.vital_library.specs.declared.fault.Fault.{Fault}
use Rattle.vital_library.specs.declared.fault.FaultKind.{FaultKind}
use Rattle.vital_library.specs.declared.fault.FaultKind.TheVariants.{Duplicate, NoEntity}
use Rattle.vital_library.specs.declared.position.Position.{Position}
use Rattle.vital_library.specs.declared.unit_at.UnitAt.{UnitAt}
use Rattle.vital_library.specs.Entries.{is_arch_of, positions_of_archs, entities_with_positions, entries_among, shown}
use Rattle.vital_library.specs.Faults.{faults, least_of}
use Rattle.vital_library.specs.Gathered.{refusal, judged, limited, gathered, GivesLibrary}
use Rattle.vital_library.specs.Kept.{IsLibrary}
use Rattle.vital_library.specs.Numbers.{is_named, number_named, number_of}
use Rattle.vital_library.specs.Positions.{unit_at, entity_at, arch_at, role_at, seen, numbered, units_in}
use Rattle.vital_library.specs.Units.{units_of, as_entity, as_arch, entities_among, archs_among, entities, archs_of, archs_of_entity, roles}
use Rattle.vital_library.proofs.NumberLemmas.{Numbers}
use Rattle.vital_library.proofs.RoleLemmas.{roles-stand}
use Rattle.vital_library.proofs.EntryLemmas.{map-same}
use Rattle.vital_library.proofs.NumberedLemmas.{Stands, stand, numbered-units, seen-units}

abbrev Placed : Type 0
Placed = List (Position × Unit')

abbrev units-in : Placed → List Unit'
units-in us = map (λ u. u.1) us

-- ---- outcomes

gathered-few : (files : List Units) → length (units_of files) ≤ 4096 → gathered files ≡ judged files (least_of (faults (units_of files)))
gathered-few files few = ap (limited files) (slice_get_past (units_of files) 4096 few)

gives-refusal : (kind : FaultKind) (place : Place) (outcome : Result (List Units) LibraryError) → outcome ≡ Err (refusal kind place) → GivesLibrary (Err (refusal kind place)) outcome
gives-refusal Duplicate place outcome h = h
gives-refusal NoEntity place outcome h = h

pub gives-fault : (files : List Units) (fault : Fault) → length (units_of files) ≤ 4096 → Some fault ≡ least_of (faults (units_of files)) → GivesLibrary (Err (refusal fault.kind fault.place)) (gathered files)
gives-fault files fault few is = gives-refusal fault.kind fault.place (gathered files) (gathered-few files few ∙ ap (judged files) (sym is))

pub gathered-sound : (files : List Units) → length (units_of files) ≤ 4096 → None ≡ least_of (faults (units_of files)) → gathered files ≡ Ok files
gathered-sound files few is = gathered-few files few ∙ ap (judged files) (sym is)

-- ---- what is kept
abbrev is-of : List ℕ → Arch → Bool
is-of name = λ arch. bytes_eq arch.entity.name name

abbrev archs-named : List ℕ → List Unit' → List (Option Arch)
archs-named name units = map (λ arch. Some arch) (filter (is-of name) (archs_among units))

abbrev with-position : Position → Unit' → Option (Position × Entity)
with-position position v = option_map (λ entity. (position, entity)) (as_entity v)

module _ (files : List Units) where
  entities-step : (position : Position) (v : Unit') (us : List (Position × Entity)) (es : List Entity) → unit_at files position ≡ Some v → map (λ u. entity_at files u.0) us ≡ map (λ entity. Some entity) es → map (λ u. entity_at files u.0) (cons_option (with-position position v) us) ≡ map (λ entity. Some entity) (cons_option (as_entity v) es)
  entities-step position (variant.Entity e) us es is rest =
      let here : entity_at files position ≡ Some e = ap (option_and_then as_entity) is in
      rw (here, rest) refl
  entities-step position (variant.Arch a) us es is rest = rest
  entities-step position (variant.Pack p) us es is rest = rest
  entities-step position (variant.Config c) us es is rest = rest

  entities-stand : (us : Placed) → AllByRecursion (Stands files) us → map (λ u. entity_at files u.0) (entities_with_positions us) ≡ map (λ entity. Some entity) (entities_among (units-in us))
  entities-stand [] h = refl
  entities-stand (u ∷ us) h = entities-step u.0 u.1 (entities_with_positions us) (entities_among (units-in us)) h.0 (entities-stand us h.1)

  module _ (name : List ℕ) where
    abbrev named : Placed → Placed
    named us = filter (λ u. is_arch_of name u.1) us

    arch-step : (u : Position × Unit') (a : Arch) (b : Bool) (us : Placed) (archs : List Arch) → unit_at files u.0 ≡ Some (variant.Arch a) → map (arch_at files) (map (λ w. w.0) us) ≡ map (λ arch. Some arch) archs → map (arch_at files) (map (λ w. w.0) (cond b (u ∷ us) us)) ≡ map (λ arch. Some arch) (cond b (a ∷ archs) archs)
    arch-step u a true us archs is rest =
        let here : arch_at files u.0 ≡ Some a = ap (option_and_then as_arch) is in
        rw (here, rest) refl
    arch-step u a false us archs is rest = rest

    archs-step : (u : Position × Unit') (v : Unit') (us : Placed) (archs : List Arch) → unit_at files u.0 ≡ Some v → map (arch_at files) (map (λ w. w.0) us) ≡ map (λ arch. Some arch) (filter (is-of name) archs) → map (arch_at files) (map (λ w. w.0) (cond (is_arch_of name v) (u ∷ us) us)) ≡ map (λ arch. Some arch) (filter (is-of name) (cons_option (as_arch v) archs))
    archs-step u (variant.Entity e) us archs is rest = rest
    archs-step u (variant.Arch a) us archs is rest = arch-step u a (bytes_eq a.entity.name name) us (filter (is-of name) archs) is rest
    archs-step u (variant.Pack p) us archs is rest = rest
    archs-step u (variant.Config c) us archs is rest = rest

    archs-stand : (us : Placed) → AllByRecursion (Stands files) us → map (arch_at files) (positions_of_archs name us) ≡ archs-named name (units-in us)
    archs-stand [] h = refl
    archs-stand (u ∷ us) h = archs-step u u.1 (named us) (archs_among (units-in us)) h.0 (archs-stand us h.1)

alone-step : (position : Position) (v : Unit') (us : List (Position × Entity)) (es : List Entity) → map (λ u. u.1) us ≡ es → map (λ u. u.1) (cons_option (with-position position v) us) ≡ cons_option (as_entity v) es
alone-step position (variant.Entity e) us es rest = ap (λ others. e ∷ others) rest
alone-step position (variant.Arch a) us es rest = rest
alone-step position (variant.Pack p) us es rest = rest
alone-step position (variant.Config c) us es rest = rest

entities-alone : (us : Placed) → map (λ u. u.1) (entities_with_positions us) ≡ entities_among (units-in us)
entities-alone [] = refl
entities-alone (u ∷ us) = alone-step u.0 u.1 (entities_with_positions us) (entities_among (units-in us)) (entities-alone us)

kept-entities : (files : List Units) (us : Placed) (entries : List Entry) → AllByRecursion (Stands files) us → map shown entries ≡ entries_among us → map (λ entry. entity_at files entry.position) entries ≡ map (λ entity. Some entity) (entities_among (units-in us))
kept-entities files us entries stood e =
    sym (map-map (λ p. entity_at files p.0) shown entries)
    ∙ ap (map (λ p. entity_at files p.0)) e
    ∙ map-map (λ p. entity_at files p.0) (λ u. (u.0, positions_of_archs u.1.identifier.name us)) (entities_with_positions us)
    ∙ entities-stand files us stood

kept-archs : (files : List Units) (us : Placed) (entries : List Entry) → AllByRecursion (Stands files) us → map shown entries ≡ entries_among us → map (λ entry. map (arch_at files) entry.archs.items) entries ≡ map (λ entity. archs-named entity.identifier.name (units-in us)) (entities_among (units-in us))
kept-archs files us entries stood e =
    sym (map-map (λ p. map (arch_at files) p.1) shown entries)
    ∙ ap (map (λ p. map (arch_at files) p.1)) e
    ∙ map-map (λ p. map (arch_at files) p.1) (λ u. (u.0, positions_of_archs u.1.identifier.name us)) (entities_with_positions us)
    ∙ map-same (λ u. map (arch_at files) (positions_of_archs u.1.identifier.name us)) (λ u. archs-named u.1.identifier.name (units-in us)) (λ u. archs-stand files u.1.identifier.name us stood) (entities_with_positions us)
    ∙ sym (map-map (λ entity. archs-named entity.identifier.name (units-in us)) (λ u. u.1) (entities_with_positions us))
    ∙ ap (map (λ entity. archs-named entity.identifier.name (units-in us))) (entities-alone us)

kept-roles : (files : List Units) (entries : List Entry) → map shown entries ≡ entries_among (numbered files) → map (λ entry. role_at files entry.position) entries ≡ map (λ role. Some role) (roles files)
kept-roles files entries e =
    sym (map-map (λ p. role_at files p.0) shown entries)
    ∙ ap (map (λ p. role_at files p.0)) e
    ∙ map-map (λ p. role_at files p.0) (λ u. (u.0, positions_of_archs u.1.identifier.name (numbered files))) (entities_with_positions (numbered files))
    ∙ roles-stand files

kept-numbers : (files : List Units) (units : List UnitAt) (numbers : Numbers) → map seen units ≡ numbered files → ((name : List ℕ) → number_of numbers name ≡ position_from (is_named name) 0 (entities_among (units_in units))) → (name : List ℕ) → number_of numbers name ≡ number_named name files
kept-numbers files units numbers at same name =
    same name
    ∙ ap (λ us. position_from (is_named name) 0 (entities_among us)) (seen-units units files at)
    ∙ sym (position_from-zero (is_named name) (entities files))

pub kept : (files : List Units) (units : List UnitAt) (entries : List Entry) (numbers : Numbers) → gathered files ≡ Ok files → map seen units ≡ numbered files → map shown entries ≡ entries_among (map seen units) → ((name : List ℕ) → number_of numbers name ≡ position_from (is_named name) 0 (entities_among (units_in units))) → IsLibrary entries numbers files
kept files units entries numbers sound at e same =
    let us = numbered files in
    let e' : map shown entries ≡ entries_among us = e ∙ ap entries_among at in
    record {
      sound = sound;
      entities_there = kept-entities files us entries (stand files) e' ∙ ap (λ vs. map (λ entity. Some entity) (entities_among vs)) (numbered-units files);
      roles_there = kept-roles files entries e';
      numbers_there = kept-numbers files units numbers at same;
      archs_there = kept-archs files us entries (stand files) e' ∙ ap (λ vs. map (λ entity. archs-named entity.identifier.name vs) (entities_among vs)) (numbered-units files);
    }

pub few-seen : (files : List Units) (units : List UnitAt) → map seen units ≡ numbered files → length (units_of files) ≤ 4096 → length units ≤ 4096
few-seen files units at few =
    let same : length (units_in units) ≡ length (units_of files) = ap length (seen-units units files at) in
    omega (arith, few, same, length-map units (λ unit. unit.unit.now))

-- ---- what an entry tells
pub get-none : {A : Type 0} (xs : List A) (k : ℕ) → slice_get xs k ≡ None → k < length xs → ⊥
get-none [] k h within = omega arith
get-none (x ∷ xs) zero h within = cc
get-none (x ∷ xs) (suc k) h within = get-none xs k h (omega arith)

abbrev joined : {A : Type 0} → Option (Option A) → Option A
joined o = option_and_then (λ p. p) o

joined-some : {A : Type 0} (o : Option A) → joined (option_map (λ x. Some x) o) ≡ o
joined-some None = refl
joined-some (Some x) = refl

at-map : {A B : Type 0} (f : A → Option B) (xs : List A) (ys : List B) (k : ℕ) (x : A) → map f xs ≡ map (λ y. Some y) ys → k < length xs → x ≡ get_or xs k x → f x ≡ slice_get ys k
at-map f xs ys k x e within is =
    let here : slice_get xs k ≡ Some x = slice_get-get_or xs k x within ∙ ap (λ z. Some z) (sym is) in
    ap (λ o. joined (option_map f o)) (sym here)
    ∙ ap joined (sym (slice_get-map f xs k) ∙ ap (λ zs. slice_get zs k) e ∙ slice_get-map (λ y. Some y) ys k)
    ∙ joined-some (slice_get ys k)

same-count : {A B C : Type 0} (f : A → C) (g : B → C) (xs : List A) (ys : List B) → map f xs ≡ map g ys → length xs ≡ length ys
same-count f g xs ys e = sym (length-map xs f) ∙ ap length e ∙ length-map ys g

module _ {numbers : Numbers} (entries : List Entry) (files : List Units) (lib : IsLibrary entries numbers files) where
  pub entry-count : length entries ≡ length (entities files)
  entry-count = same-count (λ entry. entity_at files entry.position) (λ entity. Some entity) entries (entities files) lib.entities_there

  pub role-count : length (roles files) ≡ length (entities files)
  role-count = sym (same-count (λ entry. role_at files entry.position) (λ role. Some role) entries (roles files) lib.roles_there) ∙ entry-count

  module _ (k : ℕ) (entry : Entry) (there : k < length (entities files)) (is : entry ≡ get_or entries k entry) where
    within : k < length entries
    within = omega (arith, entry-count, there)

    pub entity-found : entity_at files entry.position ≡ slice_get (entities files) k
    entity-found = at-map (λ e. entity_at files e.position) entries (entities files) k entry lib.entities_there within is

    pub role-found : role_at files entry.position ≡ slice_get (roles files) k
    role-found = at-map (λ e. role_at files e.position) entries (roles files) k entry lib.roles_there within is

    of-entity : (o : Option Entity) → Some (map (arch_at files) entry.archs.items) ≡ option_map (λ e. map (λ arch. Some arch) (archs_of e.identifier.name files)) o → map (arch_at files) entry.archs.items ≡ map (λ arch. Some arch) (option_map_or (λ e. archs_of e.identifier.name files) o [])
    of-entity None h = absurd (cc)
    of-entity (Some e) h = cc

    archs-found : map (arch_at files) entry.archs.items ≡ map (λ arch. Some arch) (archs_of_entity k files)
    archs-found =
        let here : slice_get entries k ≡ Some entry = slice_get-get_or entries k entry within ∙ ap (λ z. Some z) (sym is) in
        of-entity (slice_get (entities files) k)
        (ap (option_map (λ e. map (arch_at files) e.archs.items)) (sym here)
        ∙ sym (slice_get-map (λ e. map (arch_at files) e.archs.items) entries k)
        ∙ ap (λ zs. slice_get zs k) lib.archs_there
        ∙ slice_get-map (λ e. map (λ arch. Some arch) (archs_of e.identifier.name files)) (entities files) k)

    pub archs-count : length entry.archs.items ≡ length (archs_of_entity k files)
    archs-count = same-count (arch_at files) (λ arch. Some arch) entry.archs.items (archs_of_entity k files) archs-found

    pub arch-found : (j : ℕ) (position : Position) → j < length (archs_of_entity k files) → position ≡ get_or entry.archs.items j position → arch_at files position ≡ slice_get (archs_of_entity k files) j
    arch-found j position lt at = at-map (arch_at files) entry.archs.items (archs_of_entity k files) j position archs-found (omega (arith, archs-count, lt)) at

-- ---- no more than the limit
few-where_none : (units : List Unit') (n : ℕ) (files : List Units) (extra : Option Unit') → slice_get units n ≡ extra → limited files extra ≡ Ok files → length units ≤ n
few-where_none [] n files extra is h = omega arith
few-where_none (u ∷ units) zero files None is h = absurd (cc)
few-where_none (u ∷ units) zero files (Some extra) is h = absurd (cc)
few-where_none (u ∷ units) (suc n) files extra is h =
    let rest = few-where_none units n files extra is h in
    omega (arith, rest)

few-units : (files : List Units) → gathered files ≡ Ok files → length (units_of files) ≤ 4096
few-units files h = few-where_none (units_of files) 4096 files (slice_get (units_of files) 4096) refl h

few-chosen : {A B : Type 0} (f : A → Option B) (xs : List A) → length (filter_map f xs) ≤ length xs
few-chosen f [] = omega arith
few-chosen {B = B} f (x ∷ xs) = step (f x) (few-chosen f xs)
  where
    step : (o : Option B) → length (filter_map f xs) ≤ length xs → length (cons_option o (filter_map f xs)) ≤ suc (length xs)
    step None h = omega arith
    step (Some y) h = omega arith

few-kept : {A : Type 0} (p : A → Bool) (xs : List A) → length (filter p xs) ≤ length xs
few-kept p xs = omega (arith, length-filter p xs, count_by-le-length p xs)

pub few-entities : (files : List Units) → gathered files ≡ Ok files → length (entities files) ≤ 4096
few-entities files sound = omega (arith, few-units files sound, few-chosen as_entity (units_of files))

few-named : (name : List ℕ) (files : List Units) → gathered files ≡ Ok files → length (archs_of name files) ≤ 4096
few-named name files sound = omega (arith, few-units files sound, few-chosen as_arch (units_of files), few-kept (is-of name) (archs_among (units_of files)))

pub few-archs : (files : List Units) (k : ℕ) → gathered files ≡ Ok files → length (archs_of_entity k files) ≤ 4096
few-archs files k sound = step (slice_get (entities files) k)
  where
    step : (o : Option Entity) → length (option_map_or (λ entity. archs_of entity.identifier.name files) o []) ≤ 4096
    step None = omega arith
    step (Some e) = few-named e.identifier.name files sound
