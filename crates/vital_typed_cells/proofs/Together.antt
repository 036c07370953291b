-- What stands behind the last of the declarations that are declared together with one.
use Rattle.std.proofs.Common.{◌≡◌, Bool, true, false, List, [], ◌∷◌, Option, Some, None, refl, ◌∙◌}
use Rattle.std.specs.Prelude.{cond, find, unwrap_or, IfSome}
use Rattle.std.proofs.lemmas.Option.{same_Some, some_pair_parts}
use Rattle.std.specs.List.{AllByRecursion, filter_map}
use Rattle.std.specs.Option.{option_map}
use Rattle.vital_base.specs.declared.place.Place.{Place}
use Rattle.vital_names.specs.declared.site.CellUnit.TheVariants.{Architecture}
use Rattle.vital_names.specs.Declarations.{declared_by, declared_in}
use Rattle.vital_names.specs.Viewpoints.{first_places_from, is_last}
use Rattle.vital_nodes.specs.declared.decl.Decl.{Decl}
use Rattle.vital_nodes.specs.declared.decl.Decl.TheVariants as decl
use Rattle.vital_nodes.specs.declared.decl.Object.{Object}
use Rattle.vital_nodes.specs.declared.stmt.Process.{Process}
use Rattle.vital_nodes.specs.Places.{identifier_of_decl}
use Rattle.vital_objects.specs.Together.{beside_lasts, is_last_declaration}
use Rattle.vital_uses.specs.Nodes.{sited_declarations}
use Rattle.vital_uses.specs.Sited.{Sited, beside}
use Rattle.vital_as_read.specs.AsRead.{AreTogether, common_of}
use Rattle.vital_typed_cells.proofs.AsRead.{IsTogether, alike-beside}
use Rattle.vital_typed_cells.proofs.Lists.{beside-kept, beside-sited, sited-kept}
use Rattle.vital_typed_cells.proofs.Seen.{site_at}

-- Each declaration at its site, beside the last of those that are declared together with it.
abbrev pub Pair : Type 0
Pair = Sited Decl × Option (Sited Decl)

abbrev pub pairs : Option Process → List Decl → List Pair
pairs process ds = beside_lasts is_last_declaration (sited_declarations process ds)

abbrev pub IsPaired : Pair → Type 0
IsPaired x = IsTogether x.0.declaration (option_map (λ s. s.declaration) x.1)

pub paired : (process : Option Process) (ds : List Decl) → AreTogether ds → AllByRecursion IsPaired (pairs process ds)
paired process ds together =
    beside-sited IsTogether (λ d. (identifier_of_decl d).place) is_last Architecture process ds (alike-beside is_last common_of ds together)

pub declared-pairs : (process : Option Process) (ds : List Decl) → filter_map (λ x. declared_by x.0.declaration) (pairs process ds) ≡ declared_in ds
declared-pairs process ds =
    beside-kept is_last_declaration (λ s. declared_by s.declaration) (sited_declarations process ds)
    ∙ sited-kept (λ d. (identifier_of_decl d).place) is_last Architecture process declared_by ds

-- ---- the object behind the last

-- It is of the class of an object, and has its parts.
pub record IsBehind (o : Object) (d : Decl) (behind : Object) : Type 0 where
  pub is : d ≡ decl.Object behind
  pub class_is : behind.«class» ≡ o.«class»
  pub parts_are : behind.parts ≡ o.parts

behind-decl : (o : Object) (X : Type 0) (d : Decl) → ((behind : Object) → IsBehind o d behind → X) → Some (common_of d) ≡ Some (Some (o.«class», o.parts)) → X
behind-decl o X (decl.Attribute identifier type_mark) step same = absurd (cc)
behind-decl o X (decl.Specification s) step same = absurd (cc)
behind-decl o X (decl.Object b) step same =
    let both = some_pair_parts b.«class» o.«class» b.parts o.parts (same_Some (Some (b.«class», b.parts)) (Some (o.«class», o.parts)) same) in
    step b (record { is = refl; class_is = both.0; parts_are = both.1 })
behind-decl o X (decl.Alias a) step same = absurd (cc)
behind-decl o X (decl.Component c) step same = absurd (cc)

pub behind : (o : Object) (G : Option (Sited Decl) → Type 0) → ((e : Sited Decl) (b : Object) → IsBehind o e.declaration b → G (Some e)) → (last : Option (Sited Decl))
    → IsTogether (decl.Object o) (option_map (λ s. s.declaration) last) → G last
behind o G step None same = absurd (cc)
behind o G step (Some e) same = behind-decl o (G (Some e)) e.declaration (step e) same

-- ---- sites of those that are declared together

abbrev pub place_of : Decl → Place
place_of d = (identifier_of_decl d).place

abbrev pub placed : Option Process → Option Place → List Decl → List (Sited Decl)
placed process begun ds = beside Architecture process (first_places_from place_of is_last begun ds) ds

abbrev pub sited_at : Option Process → Place → Decl → Sited Decl
sited_at process w d = record { site = site_at process w; declaration = d }

abbrev pub SeenFrom : Option Process → Place → Option (Sited Decl) → Type 0
SeenFrom process w o = IfSome o (λ e. e.site ≡ site_at process w)

pub seen-or : (process : Option Process) (w : Place) (b : Bool) (d : Decl) (ds : List Decl) → SeenFrom process w (find is_last_declaration (placed process (Some w) ds))
    → SeenFrom process w (cond b (Some (sited_at process w d)) (find is_last_declaration (placed process (cond b None (Some w)) ds)))
seen-or process w true d ds others = refl
seen-or process w false d ds others = others

pub last-begun : (process : Option Process) (w : Place) (ds : List Decl) → SeenFrom process w (find is_last_declaration (placed process (Some w) ds))
last-begun process w [] = tt
last-begun process w (d ∷ ds) = seen-or process w (is_last d) d ds (last-begun process w ds)

-- The last of those that are declared together with a declaration is seen from the site of that.
abbrev pub HasSite : Pair → Type 0
HasSite x = IfSome x.1 (λ e. e.site ≡ x.0.site)

sites-from : (process : Option Process) (begun : Option Place) (ds : List Decl) → AllByRecursion HasSite (beside_lasts is_last_declaration (placed process begun ds))
sites-from process begun [] = tt
sites-from process begun (d ∷ ds) = (
  seen-or process (unwrap_or begun (place_of d)) (is_last d) d ds (last-begun process (unwrap_or begun (place_of d)) ds),
  sites-from process (cond (is_last d) None (Some (unwrap_or begun (place_of d)))) ds,
)

pub paired-sites : (process : Option Process) (ds : List Decl) → AllByRecursion HasSite (pairs process ds)
paired-sites process ds = sites-from process None ds
