-- What a typed tree has of the ports and generics of its cell.
use Rattle.std.proofs.Common.{◌≡◌, ℕ, ◌+◌, ◌≤◌, List, [], ◌∷◌, ◌++◌, Option, Some, None, map, refl, sym, subst, ap, ◌∙◌, arith}
use Rattle.std.proofs.lemmas.List.{map-append}
use Rattle.std.proofs.lemmas.List.Elements.{All-cons, All-head, All-map, All-nil, All-tail}
use Rattle.std.specs.Prelude.{All, Bool, if◌then◌else◌, unwrap_or}
use Rattle.std.specs.List.{AllByRecursion, cons_option, filter_map}
use Rattle.std.specs.Option.{option_and_then, option_map}
use Rattle.vital_base.specs.declared.place.Place.{Place}
use Rattle.vital_level0.specs.declared.parts.Parts.{Parts}
use Rattle.vital_names.specs.Declarations.{Generic, Port, interface_of}
use Rattle.vital_names.specs.Sites.{Cell}
use Rattle.vital_names.specs.Viewpoints.{first_places_from}
use Rattle.vital_names.specs.declared.site.CellUnit.{CellUnit}
use Rattle.vital_nodes.specs.declared.decl.Iface.{Iface}
use Rattle.vital_nodes.specs.declared.decl.Mode.{Mode}
use Rattle.vital_nodes.specs.declared.stmt.Process.{Process}
use Rattle.vital_objects.specs.declared.package_value.PackageValue.{PackageValue}
use Rattle.vital_objects.specs.Generics.{default_delay, delay_type, parts, plain_generic, plain_generics, plain_if_whole, plain_of_type, timing_generic, timing_generic_with, timing_generics, timing_of_type}
use Rattle.vital_objects.specs.Ports.{default_behind, port, port_with, ports}
use Rattle.vital_operands.specs.declared.tree.LevelExpr.{LevelExpr}
use Rattle.vital_objects.specs.declared.port.Port.{Port as Port'}
use Rattle.vital_objects.specs.Together.{beside_lasts, is_last_interface}
use Rattle.vital_typed_cells.specs.Names.{name_of, names_of}
use Rattle.vital_timing.specs.declared.delay.Delay.{Delay}
use Rattle.vital_timing.specs.declared.delay.DelayType.{DelayType}
use Rattle.vital_uses.specs.Nodes.{sited_interface}
use Rattle.vital_uses.specs.Sited.{Sited, beside}
use Rattle.vital_typed_cells.proofs.Parts.{all-found, both-found, if_there, map-found, once, times}

-- ---- declarations at their sites, beside the last of those that are declared together

pub at-sites : {A B : Type 0} (h : A → Option B) (place : A → Place) (last : A → Bool) (unit : CellUnit) (process : Option Process) (begun : Option Place) (ds : List A)
    → filter_map (λ d. h d.declaration) (beside unit process (first_places_from place last begun ds) ds) ≡ filter_map h ds
at-sites h place last unit process begun [] = refl
at-sites h place last unit process begun (d ∷ ds) =
    ap (cons_option (h d)) (at-sites h place last unit process (if last d then None else Some (unwrap_or begun (place d))) ds)

-- What holds of declarations holds of them at their sites.
pub all-sited : {A : Type 0} (P : A → Type 0) (place : A → Place) (last : A → Bool) (unit : CellUnit) (process : Option Process) (begun : Option Place) (ds : List A)
    → AllByRecursion P ds → AllByRecursion (λ d. P d.declaration) (beside unit process (first_places_from place last begun ds) ds)
all-sited P place last unit process begun [] all = tt
all-sited P place last unit process begun (d ∷ ds) all = (all.0, all-sited P place last unit process (if last d then None else Some (unwrap_or begun (place d))) ds all.1)

pub beside-others : {A B : Type 0} (h : A → Option B) (last : A → Bool) (ds : List A) → filter_map (λ d. h d.0) (beside_lasts last ds) ≡ filter_map h ds
beside-others h last [] = refl
beside-others h last (d ∷ ds) = ap (cons_option (h d)) (beside-others h last ds)

-- ---- the interface

abbrev pub interface_names : List Iface → List (List ℕ)
interface_names is = map (λ i. i.identifier.name) is

names-found : (is : List Iface) → interface_names is ≡ filter_map (λ i. Some i.identifier.name) is
names-found is = all-found (λ i. i.identifier.name) is

map-twice : {A B C : Type 0} (f : A → B) (g : B → C) (xs : List A) → map g (map f xs) ≡ map (λ x. g (f x)) xs
map-twice f g [] = refl
map-twice f g (x ∷ xs) = ap (λ ys. g (f x) ∷ ys) (map-twice f g xs)

from-map : {A B : Type 0} (f : A → B) (P : B → Type 0) (xs : List A) → All P (map f xs) → All (λ x. P (f x)) xs
from-map f P [] all = All-nil (λ x. P (f x))
from-map f P (x ∷ xs) all = All-cons (λ y. P (f y)) x xs (All-head P (f x) (map f xs) all) (from-map f P xs (All-tail P (f x) (map f xs) all))

-- What ports of the tree have that their declarations have.
pub ports-as-declared : {B : Type 0} (g : Port' → B) (h : Iface → B) → ((default : Option LevelExpr) (i : Iface) → g (port_with default i) ≡ h i) → (cell : Cell) (faults : List Place)
    → map g (ports cell faults) ≡ map h cell.entity.ports
ports-as-declared {B} g h same cell faults =
    at-each (beside_lasts is_last_interface (sited_interface cell.entity.ports))
    ∙ all-found (λ i. h i.0.declaration) (beside_lasts is_last_interface (sited_interface cell.entity.ports))
    ∙ beside-others (λ i. Some (h i.declaration)) is_last_interface (sited_interface cell.entity.ports)
    ∙ at-sites (λ i. Some (h i)) _ _ _ None None cell.entity.ports
    ∙ sym (all-found h cell.entity.ports)
  where
    at-each : (xs : List (Sited Iface × Option (Sited Iface))) → map g (map (port cell faults) xs) ≡ map (λ x. h x.0.declaration) xs
    at-each [] = refl
    at-each (x ∷ xs) = ap (λ y. y ∷ map g (map (port cell faults) xs)) (same (option_and_then (default_behind cell faults) x.1) x.0.declaration) ∙ ap (λ ys. h x.0.declaration ∷ ys) (at-each xs)

-- What holds of the name and the mode of each declaration holds of each port.
pub ports-hold : (P : List ℕ → Mode → Type 0) (cell : Cell) (faults : List Place) → All (λ i. P i.identifier.name i.parts.mode) cell.entity.ports
    → All (λ p. P p.name p.mode) (ports cell faults)
ports-hold P cell faults all =
    let is = cell.entity.ports in
    let same = ports-as-declared {B = List ℕ × Mode} (λ p. (p.name, p.mode)) (λ i. (i.identifier.name, i.parts.mode)) (λ default i. refl) cell faults in
    from-map (λ p. (p.name, p.mode)) (λ s. P s.0 s.1) (ports cell faults)
    (subst (λ ss. All (λ s. P s.0 s.1) ss) (sym same) (All-map (λ s. P s.0 s.1) (λ i. (i.identifier.name, i.parts.mode)) is all))

pub ports-named : (cell : Cell) (faults : List Place) → map (λ p. p.name) (ports cell faults) ≡ interface_names cell.entity.ports
ports-named cell faults = ports-as-declared (λ p. p.name) (λ i. i.identifier.name) (λ default i. refl) cell faults

of-parts : (n : List ℕ) (i : Sited Iface) (default : Delay) (o : Option Parts)
    → if_there n (option_map (λ g. g.name) (option_map (timing_generic_with i default) o)) + if_there n (option_map (λ g. g.name) (plain_if_whole i default o))
    ≤ once n i.declaration.identifier.name
of-parts n i default None = omega arith
of-parts n i default (Some p) = omega arith

of-generic : (cell : Cell) (faults : List Place) (known : List (Option PackageValue)) (n : List ℕ) (i : Sited Iface) (t : Option DelayType)
    → if_there n (option_map (λ g. g.name) (option_and_then (timing_of_type cell faults known i) t))
    + if_there n (option_map (λ g. g.name) (option_and_then (plain_of_type cell faults known i) t))
    ≤ once n i.declaration.identifier.name
of-generic cell faults known n i None = omega arith
of-generic cell faults known n i (Some d) = of-parts n i (default_delay cell faults known d i) (parts cell i.declaration)

pub generics-part : (cell : Cell) (faults : List Place) (known : List (Option PackageValue)) (n : List ℕ)
    → times n (map (λ g. g.name) (timing_generics cell faults known)) + times n (map (λ g. g.name) (plain_generics cell faults known))
    ≤ times n (interface_names cell.entity.generics)
generics-part cell faults known n =
    let is = sited_interface cell.entity.generics in
    let both = both-found (λ i. option_map (λ g. g.name) (timing_generic cell faults known i)) (λ i. option_map (λ g. g.name) (plain_generic cell faults known i))
    (λ i. Some i.declaration.identifier.name) (λ m i. of-generic cell faults known m i (delay_type i.declaration)) n is in
    let whole : filter_map (λ i. Some i.declaration.identifier.name) is ≡ interface_names cell.entity.generics =
    at-sites (λ i. Some i.identifier.name) _ _ _ None None cell.entity.generics ∙ sym (names-found cell.entity.generics) in
    omega (
      arith,
      both,
      ap (times n) whole,
      ap (times n) (map-found (λ g. g.name) (timing_generic cell faults known) is),
      ap (times n) (map-found (λ g. g.name) (plain_generic cell faults known) is),
    )

pub interface-named : (cell : Cell) → names_of (interface_of cell.entity) ≡ interface_names cell.entity.generics ++ interface_names cell.entity.ports
interface-named cell =
    map-append name_of (map (λ i. Generic i) cell.entity.generics) (map (λ i. Port i) cell.entity.ports)
    ∙ ap (λ ns. ns ++ map name_of (map (λ i. Port i) cell.entity.ports)) (map-twice (λ i. Generic i) name_of cell.entity.generics)
    ∙ ap (λ ns. interface_names cell.entity.generics ++ ns) (map-twice (λ i. Port i) name_of cell.entity.ports)
