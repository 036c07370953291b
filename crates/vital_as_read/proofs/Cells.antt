-- Where the units of all files of a library are as read, its cells are.
use Rattle.std.proofs.Common.{suc, List, [], ◌∷◌, Option, Some, None, All, Contains, IfSome, arith}
use Rattle.std.specs.List.{flat_map}
use Rattle.std.specs.Str.{bytes_eq}
use Rattle.std.proofs.lemmas.List.Elements.{All-append, All-cons, All-contains, All-filter, All-nil}
use Rattle.vital_library.specs.Constants.{constants_in}
use Rattle.vital_library.specs.Units.{archs_among, archs_of, entities, entities_among, units_of}
use Rattle.vital_names.specs.Sites.{Cell}
use Rattle.vital_nodes.specs.declared.unit.Arch.{Arch}
use Rattle.vital_nodes.specs.declared.unit.Unit.{Unit as Unit'}
use Rattle.vital_nodes.specs.declared.unit.Unit.TheVariants as u
use Rattle.vital_nodes.specs.declared.unit.Units.{Units}
use Rattle.vital_as_read.proofs.Alike.{alike_joined, constants_alike}
use Rattle.vital_as_read.specs.AsRead.{AreConstantsAlike, IsArchAsRead, IsAsRead, IsEntityAsRead, IsUnitAsRead}
use Rattle.vital_as_read.specs.Libraries.{IsCellOfLibrary}

all_units : (files : List Units) → All (λ f. All IsUnitAsRead f.units) files → All IsUnitAsRead (units_of files)
all_units [] read = All-nil _
all_units (f ∷ files) read = All-append IsUnitAsRead f.units (units_of files) (read 0 f (omega arith)) (all_units files (λ k d inside. read (suc k) d (omega arith)))

rest : (x : Unit') (units : List Unit') → All IsUnitAsRead (x ∷ units) → All IsUnitAsRead units
rest x units read = λ k d inside. read (suc k) d (omega arith)

all_entities : (units : List Unit') → All IsUnitAsRead units → All IsEntityAsRead (entities_among units)
all_entities [] read = All-nil _
all_entities (u.Entity e ∷ units) read = All-cons IsEntityAsRead e (entities_among units) (read 0 (u.Entity e) (omega arith)) (all_entities units (rest (u.Entity e) units read))
all_entities (u.Arch a ∷ units) read = all_entities units (rest (u.Arch a) units read)
all_entities (u.Pack p ∷ units) read = all_entities units (rest (u.Pack p) units read)
all_entities (u.Config c ∷ units) read = all_entities units (rest (u.Config c) units read)

all_archs : (units : List Unit') → All IsUnitAsRead units → All (λ a. IsArchAsRead (Some a)) (archs_among units)
all_archs [] read = All-nil _
all_archs (u.Entity e ∷ units) read = all_archs units (rest (u.Entity e) units read)
all_archs (u.Arch a ∷ units) read = All-cons (λ b. IsArchAsRead (Some b)) a (archs_among units) (read 0 (u.Arch a) (omega arith)) (all_archs units (rest (u.Arch a) units read))
all_archs (u.Pack p ∷ units) read = all_archs units (rest (u.Pack p) units read)
all_archs (u.Config c ∷ units) read = all_archs units (rest (u.Config c) units read)

-- an architecture among such ones, or none
one_arch : (archs : List Arch) (arch : Option Arch) → All (λ a. IsArchAsRead (Some a)) archs → IfSome arch (Contains archs) → IsArchAsRead arch
one_arch archs None read there = record {
  named = All-nil _;
  in_order = λ i j d below inside. absurd (omega arith);
  all_in_order = λ i j d below inside. absurd (omega arith);
  together = tt;
  processes = All-nil _;
}
one_arch archs (Some a) read there = All-contains (λ b. IsArchAsRead (Some b)) archs a read there

all_constants : (units : List Unit') → All IsUnitAsRead units → AreConstantsAlike (flat_map constants_in units)
all_constants [] read = tt
all_constants (u.Entity e ∷ units) read = all_constants units (rest (u.Entity e) units read)
all_constants (u.Arch a ∷ units) read = all_constants units (rest (u.Arch a) units read)
all_constants (u.Pack p ∷ units) read =
    alike_joined (λ o. o.is_last) (λ o. o.parts) (constants_in (u.Pack p)) (flat_map constants_in units) (constants_alike p.declarations (read 0 (u.Pack p) (omega arith)))
    (all_constants units (rest (u.Pack p) units read))
all_constants (u.Config c ∷ units) read = all_constants units (rest (u.Config c) units read)

pub cell_as_read : (cell : Cell) → All (λ f. All IsUnitAsRead f.units) cell.files → IsCellOfLibrary cell → IsAsRead cell
cell_as_read cell read of =
    let units = all_units cell.files read in
    let name = cell.entity.identifier.name in
    record {
      entity = All-contains IsEntityAsRead (entities cell.files) cell.entity (all_entities (units_of cell.files) units) of.entity;
      arch = one_arch (archs_of name cell.files) cell.arch
          (All-filter (λ a. bytes_eq a.entity.name name) (λ a. IsArchAsRead (Some a)) (archs_among (units_of cell.files)) (all_archs (units_of cell.files) units)) of.arch;
      packages = all_constants (units_of cell.files) units;
    }
