-- What is true of every library.
use Rattle.std.specs.Prelude.{◌≡◌, ℕ, List, Some, Ok, map}
use Rattle.std.specs.HashMap.{HashMap}
use Rattle.std.specs.declared.alloc.Global.{Global}
use Rattle.std.specs.declared.vec.Vec.{Vec}
use Rattle.std.specs.declared.hash.BuildHasherDefault.{BuildHasherDefault}
use Rattle.std.specs.declared.hash.FoldHasher.{FoldHasher}
use Rattle.vital_nodes.specs.declared.unit.Units.{Units}
use Rattle.vital_library.specs.declared.entry.Entry.{Entry}
use Rattle.vital_library.specs.Constants.{constant_number}
use Rattle.vital_library.specs.Gathered.{gathered}
use Rattle.vital_library.specs.Numbers.{number_of, number_named}
use Rattle.vital_library.specs.Positions.{entity_at, arch_at, role_at}
use Rattle.vital_library.specs.Units.{entities, archs_of, roles}

-- The files have no fault, and the entries and numbers are those of their entities.
pub record IsLibrary (entries : List Entry) (numbers : HashMap (Vec ℕ Global) ℕ (BuildHasherDefault FoldHasher)) (files : List Units) : Type 0 where
  pub sound : gathered files ≡ Ok files
  pub entities_there : map (λ entry. entity_at files entry.position) entries ≡ map (λ entity. Some entity) (entities files)
  pub roles_there : map (λ entry. role_at files entry.position) entries ≡ map (λ role. Some role) (roles files)
  pub archs_there : map (λ entry. map (arch_at files) entry.archs.items) entries ≡ map (λ entity. map (λ arch. Some arch) (archs_of entity.identifier.name files)) (entities files)
  pub numbers_there : (name : List ℕ) → number_of numbers name ≡ number_named name files

-- The numbers of the constants, by their names.
abbrev pub HasConstants : HashMap (Vec ℕ Global) ℕ (BuildHasherDefault FoldHasher) → List Units → Type 0
HasConstants numbers files = (name : List ℕ) → number_of numbers name ≡ constant_number name files
