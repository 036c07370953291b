-- The timing generics of a typed tree: their names, and the types of their defaults.
use Rattle.std.proofs.Common.{◌≡◌, ℕ, true, List, [], ◌∷◌, Option, Some, None, map, refl, subst, ap, ◌∙◌}
use Rattle.std.proofs.lemmas.List.Elements.{All-nil, recursion_from_All}
use Rattle.std.specs.Prelude.{All, IfSome}
use Rattle.std.specs.List.{AllByRecursion, cons_option, filter_map}
use Rattle.std.specs.Option.{option_and_then, option_map}
use Rattle.vital_base.specs.declared.place.Place.{Place}
use Rattle.vital_declarations.specs.Types.{DeclaredType, Plain, Vector, Table, Other, type_of as declared_type}
use Rattle.vital_level0.specs.declared.parts.Parts.{Parts}
use Rattle.vital_level0.specs.declared.parts.Prefix.{Prefix}
use Rattle.vital_level0.specs.Breaches.{IsFirst}
use Rattle.vital_level0.specs.Clauses.{is_delay_type_of}
use Rattle.vital_names.specs.declared.predeclared.TypeName.{TypeName}
use Rattle.vital_names.specs.declared.predeclared.TypeName.TheVariants as type
use Rattle.vital_names.specs.Sites.{Cell}
use Rattle.vital_nodes.specs.declared.decl.Iface.{Iface}
use Rattle.vital_objects.specs.declared.generic.TimingGeneric.{TimingGeneric}
use Rattle.vital_objects.specs.declared.package_value.PackageValue.{PackageValue}
use Rattle.vital_objects.specs.Generics.{default_delay, delay_type, delay_type_of, parts, timing_generic, timing_generic_with, timing_generics, timing_of_type}
use Rattle.vital_operands.specs.Named.{same_type}
use Rattle.vital_timing.specs.declared.delay.Delay.{Delay}
use Rattle.vital_timing.specs.declared.delay.DelayType.{DelayType}
use Rattle.vital_timing.specs.declared.delay.DelayType.TheVariants.{One, Two, Six}
use Rattle.vital_timing.specs.Delays.{type_of}
use Rattle.vital_typed_cells.specs.Packages.{sound_values}
use Rattle.vital_typed_declarations.specs.declared.asked_type.AskedType.TheVariants as asked
use Rattle.vital_typed_declarations.specs.Asked.{of_generic_type}
use Rattle.vital_uses.specs.Nodes.{sited_interface}
use Rattle.vital_uses.specs.Sited.{Sited}
use Rattle.vital_typed_cells.specs.TypedDefaults.{HasTypedDefault}
use Rattle.vital_typed_cells.proofs.Formed.{IsDelayFor, IsFormedGeneric, formed-generics}
use Rattle.vital_typed_cells.proofs.Interface.{all-sited, at-sites}
use Rattle.vital_typed_cells.proofs.Parts.{map-found}
use Rattle.vital_typed_cells.proofs.Spelled.{put}

-- ---- names

-- The name of a generic, if it is a timing generic.
abbrev pub timing_name : Cell → Iface → Option (List ℕ)
timing_name cell i = option_and_then (λ d. option_map (λ p. i.identifier.name) (parts cell i)) (delay_type i)

name-of-parts : (i : Sited Iface) (default : Delay) (o : Option Parts)
    → option_map (λ g. g.name) (option_map (timing_generic_with i default) o) ≡ option_map (λ p. i.declaration.identifier.name) o
name-of-parts i default None = refl
name-of-parts i default (Some p) = refl

name-of-type : (cell : Cell) (faults : List Place) (known : List (Option PackageValue)) (i : Sited Iface) (o : Option DelayType)
    → option_map (λ g. g.name) (option_and_then (timing_of_type cell faults known i) o) ≡ option_and_then (λ d. option_map (λ p. i.declaration.identifier.name) (parts cell i.declaration)) o
name-of-type cell faults known i None = refl
name-of-type cell faults known i (Some d) = name-of-parts i (default_delay cell faults known d i) (parts cell i.declaration)

same-found : {A B : Type 0} (f g : A → Option B) → ((x : A) → f x ≡ g x) → (xs : List A) → filter_map f xs ≡ filter_map g xs
same-found f g same [] = refl
same-found f g same (x ∷ xs) = ap (λ o. cons_option o (filter_map f xs)) (same x) ∙ ap (cons_option (g x)) (same-found f g same xs)

pub timings-named : (cell : Cell) (faults : List Place) (known : List (Option PackageValue)) → map (λ g. g.name) (timing_generics cell faults known) ≡ filter_map (timing_name cell) cell.entity.generics
timings-named cell faults known =
    map-found (λ g. g.name) (timing_generic cell faults known) (sited_interface cell.entity.generics)
    ∙ same-found (λ i. option_map (λ g. g.name) (timing_generic cell faults known i)) (λ i. timing_name cell i.declaration)
    (λ i. name-of-type cell faults known i (delay_type i.declaration)) (sited_interface cell.entity.generics)
    ∙ at-sites (timing_name cell) _ _ _ None None cell.entity.generics

-- ---- the types of defaults

same-fitting : (kind : Prefix) (a b : DelayType) → same_type a b ≡ true → is_delay_type_of kind a ≡ true → is_delay_type_of kind b ≡ true
same-fitting kind One One same fits = fits
same-fitting kind One Two same fits = cc
same-fitting kind One Six same fits = cc
same-fitting kind Two One same fits = cc
same-fitting kind Two Two same fits = fits
same-fitting kind Two Six same fits = cc
same-fitting kind Six One same fits = cc
same-fitting kind Six Two same fits = cc
same-fitting kind Six Six same fits = fits

-- Of a generic that is a delay a delay of its type is asked.
plain-asked : (n : TypeName) (d : DelayType) → delay_type_of (Plain n) ≡ Some d → of_generic_type (Plain n) ≡ asked.Delay d
plain-asked type.StdUlogic d is = cc
plain-asked type.StdLogic d is = cc
plain-asked type.StdLogicVector d is = cc
plain-asked type.X01 d is = cc
plain-asked type.X01Z d is = cc
plain-asked type.Ux01 d is = cc
plain-asked type.Ux01Z d is = cc
plain-asked type.Boolean d is = cc
plain-asked type.Text d is = cc
plain-asked type.Time d is = cc
plain-asked (type.Delay t) d is = cc
plain-asked type.TableSymbol d is = cc
plain-asked type.TruthTable d is = cc
plain-asked type.StateTable d is = cc
plain-asked type.GlitchData d is = cc
plain-asked type.TimingData d is = cc
plain-asked type.PeriodData d is = cc

delay-asked : (t : DeclaredType) (d : DelayType) → delay_type_of t ≡ Some d → of_generic_type t ≡ asked.Delay d
delay-asked (Plain n) d is = plain-asked n d is
delay-asked (Vector r) d is = cc
delay-asked (Table t rows columns) d is = cc
delay-asked Other d is = cc

-- The default of a timing generic has a type that its prefix may have.
abbrev pub IsFitting : TimingGeneric → Type 0
IsFitting g = is_delay_type_of g.parts.kind (type_of g.default) ≡ true

fitting-default : (kind : Prefix) (i : Iface) (d : DelayType) (default : Delay) → IsDelayFor kind i → delay_type i ≡ Some d → same_type d (type_of default) ≡ true
    → is_delay_type_of kind (type_of default) ≡ true
fitting-default kind i d default has is same =
    let agree : has.delay ≡ d = cc in
    same-fitting kind d (type_of default) same (subst (λ t. is_delay_type_of kind t ≡ true) agree has.fitting)

of-parts : (cell : Cell) (i : Sited Iface) (d : DelayType) (default : Delay) (o : Option Parts) → parts cell i.declaration ≡ o → IsFormedGeneric cell.entity i.declaration
    → delay_type i.declaration ≡ Some d → same_type d (type_of default) ≡ true → IfSome (option_map (timing_generic_with i default) o) IsFitting
of-parts cell i d default None split formed is same = tt
of-parts cell i d default (Some p) split formed is same = fitting-default p.kind i.declaration d default (formed.typed p split) is same

of-type : (cell : Cell) (i : Sited Iface) (o : Option DelayType) → delay_type i.declaration ≡ o → IsFormedGeneric cell.entity i.declaration → HasTypedDefault cell i
    → IfSome (option_and_then (timing_of_type cell [] (sound_values cell.files) i) o) IsFitting
of-type cell i None is formed typed = tt
of-type cell i (Some d) is formed typed =
    of-parts cell i d (default_delay cell [] (sound_values cell.files) d i) (parts cell i.declaration) refl formed is
    (typed d (delay-asked (declared_type i.declaration.parts.subtype) d is))

all-fitting : (cell : Cell) (xs : List (Sited Iface)) → AllByRecursion (λ i. IsFormedGeneric cell.entity i.declaration) xs → AllByRecursion (HasTypedDefault cell) xs
    → All IsFitting (filter_map (timing_generic cell [] (sound_values cell.files)) xs)
all-fitting cell [] formed typed = All-nil IsFitting
all-fitting cell (i ∷ is) formed typed =
    put IsFitting (timing_generic cell [] (sound_values cell.files) i) (filter_map (timing_generic cell [] (sound_values cell.files)) is)
    (of-type cell i (delay_type i.declaration) refl formed.0 typed.0) (all-fitting cell is formed.1 typed.1)

pub generics-fitting : (cell : Cell) → IsFirst cell.entity None → All (HasTypedDefault cell) (sited_interface cell.entity.generics) → All IsFitting (timing_generics cell [] (sound_values cell.files))
generics-fitting cell none typed =
    let is = cell.entity.generics in
    all-fitting cell (sited_interface is)
    (all-sited (IsFormedGeneric cell.entity) _ _ _ None None is (recursion_from_All (IsFormedGeneric cell.entity) is (formed-generics cell.entity none)))
    (recursion_from_All (HasTypedDefault cell) (sited_interface is) typed)
