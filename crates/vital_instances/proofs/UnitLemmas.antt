-- The unit of a number, and what it holds.
use Rattle.std.proofs.Common.{◌≡◌, ℕ, ◌-◌, ◌≤◌, List, [], length, map, refl, sym, ap, ◌∙◌, inl, inr, arith}
use Rattle.std.specs.Prelude.{Option, Some, None, Result, Ok}
use Rattle.std.specs.List.{slice_get}
use Rattle.std.specs.Option.{option_map, option_map_or}
use Rattle.std.proofs.lemmas.Option.{slice_get-map, slice_get_cases, slice_get_past, slice_get_within}
use Rattle.vital_library.specs.Units.{archs_of_entity, entities, roles}
use Rattle.vital_nodes.specs.declared.unit.Arch.{Arch}
use Rattle.vital_nodes.specs.declared.unit.Entity.{Entity}
use Rattle.vital_nodes.specs.declared.unit.Role.{Role}
use Rattle.vital_nodes.specs.declared.unit.Units.{Units}
use Rattle.vital_instances.specs.declared.child.Child.{Child as Child'}
use Rattle.vital_instances.specs.declared.fault.Fault.{Fault as Fault'}
use Rattle.vital_instances.specs.declared.frame.Frame.{Frame}
use Rattle.vital_instances.specs.Children as of_children
use Rattle.vital_instances.specs.Contents.{HasContents, children_at, contents, contents_at, lent}
use Rattle.vital_instances.specs.Frames.{next}
use Rattle.vital_instances.specs.Instances.{entry_of}
use Rattle.vital_instances.specs.Units.{Unit, last_arch, unit_at, unit_with}

pub some-same : {A : Type 0} (x y : A) → Some x ≡ Some y → x ≡ y
some-same x y h = cc

pub none-some : {A : Type 0} (x : A) → None ≡ Some x → ⊥
none-some x h = cc

-- ---- the unit of a number

-- past the entities there is none
pub no_entity : (files : List Units) (n : ℕ) → length (entities files) ≤ n → unit_at files n ≡ None
no_entity files n past =
    ap (λ (e : Option Entity). unit_with e (slice_get (roles files) n) (last_arch (archs_of_entity n files))) (slice_get_past (entities files) n past)

without-arch : (e : Option Entity) (r : Option Role) → unit_with e r None ≡ None
without-arch None r = refl
without-arch (Some e) None = refl
without-arch (Some e) (Some r) = refl

-- without an architecture there is none
pub no_arch : (files : List Units) (n : ℕ) → length (archs_of_entity n files) ≡ 0 → unit_at files n ≡ None
no_arch files n none =
    let archs = archs_of_entity n files in
    let past : length archs ≤ length archs - 1 = omega arith in
    ap (unit_with (slice_get (entities files) n) (slice_get (roles files) n)) (slice_get_past archs (length archs - 1) past)
    ∙ without-arch (slice_get (entities files) n) (slice_get (roles files) n)

-- an entity with its last architecture
pub unit_is : (files : List Units) (n : ℕ) (e : Entity) (r : Role) (a : Arch) → slice_get (entities files) n ≡ Some e → slice_get (roles files) n ≡ Some r → slice_get (archs_of_entity n files) (length (archs_of_entity n files) - 1) ≡ Some a → unit_at files n ≡ Some (record { entity = e; role = r; arch = a })
unit_is files n e r a entity role arch =
    let archs = archs_of_entity n files in
    ap (λ (o : Option Entity). unit_with o (slice_get (roles files) n) (last_arch archs)) entity
    ∙ ap (λ (o : Option Role). unit_with (Some e) o (last_arch archs)) role
    ∙ ap (unit_with (Some e) (Some r)) arch

-- ---- what is kept of entities

pub known-is : (files : List Units) (known : List (Result (List Child') Fault')) (n : ℕ) (x : Result (List Child') Fault') → HasContents files known → slice_get known n ≡ Some x → lent x ≡ contents_at files n
known-is files known n x has there =
    some-same (lent x) (contents_at files n) (sym (ap (option_map lent) there) ∙ has.each n (slice_get_within known n x there))

past-is : {A : Type 0} (xs : List A) (n : ℕ) → slice_get xs n ≡ None → length xs ≤ n
past-is xs n none =
    elim (slice_get_cases xs n).1 [
      | inl there ↦ let h : None ≡ Some there.0 = sym none ∙ there.2 in absurd (none-some there.0 h)
      | inr past ↦ past.0
    ]

-- past the entities there is nothing
pub unknown-is : (files : List Units) (known : List (Result (List Child') Fault')) (n : ℕ) → HasContents files known → slice_get known n ≡ None → contents_at files n ≡ Ok []
unknown-is files known n has none =
    let past = past-is known n none in
    let all = has.all in
    ap (λ (o : Option Unit). option_map_or (contents files) o (Ok [])) (no_entity files n (omega arith))

-- ---- the next of the instances in one

pub next-some : (files : List Units) (f : Frame) (xs : List Child') (x : Child') → map of_children.lent xs ≡ children_at files f.entity → slice_get xs f.next ≡ Some x → next files f ≡ Some (entry_of f.instance f.next (of_children.lent x))
next-some files f xs x are there =
    ap (λ (cs : List of_children.Child). option_map (entry_of f.instance f.next) (slice_get cs f.next)) (sym are)
    ∙ ap (option_map (entry_of f.instance f.next)) (slice_get-map of_children.lent xs f.next ∙ ap (option_map of_children.lent) there)

pub next-none : (files : List Units) (f : Frame) (xs : List Child') → map of_children.lent xs ≡ children_at files f.entity → slice_get xs f.next ≡ None → next files f ≡ None
next-none files f xs are none =
    ap (λ (cs : List of_children.Child). option_map (entry_of f.instance f.next) (slice_get cs f.next)) (sym are)
    ∙ ap (option_map (entry_of f.instance f.next)) (slice_get-map of_children.lent xs f.next ∙ ap (option_map of_children.lent) none)
