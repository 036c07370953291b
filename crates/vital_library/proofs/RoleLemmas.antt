-- The roles of entities, by their positions.
use Rattle.std.proofs.Common.{◌≡◌, ℕ, ◌+◌, List, [], ◌∷◌, ◌++◌, length, map, refl, sym, ◌∙◌, ap, append_assoc, subst}
use Rattle.std.specs.Prelude.{Option, Some}
use Rattle.std.specs.List.{cons_option, enumerate_from, flat_map, slice_get}
use Rattle.std.specs.Option.{option_map}
use Rattle.std.proofs.lemmas.List.{map-append}
use Rattle.std.proofs.lemmas.List.Elements.{filter_map-append}
use Rattle.vital_nodes.specs.declared.unit.Entity.{Entity}
use Rattle.vital_nodes.specs.declared.unit.Role.{Role}
use Rattle.vital_nodes.specs.declared.unit.Unit.{Unit as Unit'}
use Rattle.vital_nodes.specs.declared.unit.Unit.TheVariants as variant
use Rattle.vital_nodes.specs.declared.unit.Units.{Units}
use Rattle.vital_library.specs.declared.position.Position.{Position}
use Rattle.vital_library.specs.Entries.{entities_with_positions}
use Rattle.vital_library.specs.Positions.{numbered_from, numbered, role_at}
use Rattle.vital_library.specs.Units.{as_entity, entities_among, roles}
use Rattle.vital_library.proofs.NumberedLemmas.{get-here, longer}

abbrev with-position : Position × Unit' → Option (Position × Entity)
with-position u = option_map (λ entity. (u.0, entity)) (as_entity u.1)

abbrev of-file : ℕ × Units → List (Position × Unit')
of-file = λ f. numbered_from f.0 0 f.1.units

-- ---- one file
module _ (files : List Units) (number : ℕ) (f : Units) (there : slice_get files number ≡ Some f) where
  abbrev role-of : Position × Entity → Option Role
  role-of u = role_at files u.0

  role-step : (n : ℕ) (v : Unit') (us : List (Position × Entity)) (es : List Entity) → map role-of us ≡ map (λ role. Some role) (map (λ _. f.role) es) → map role-of (cons_option (with-position (record { file = number; unit = n }, v)) us) ≡ map (λ role. Some role) (map (λ _. f.role) (cons_option (as_entity v) es))
  role-step n (variant.Entity e) us es rest =
      let here : role_at files (record { file = number; unit = n }) ≡ Some f.role = ap (option_map (λ file. file.role)) there in
      rw (here, rest) refl
  role-step n (variant.Arch a) us es rest = rest
  role-step n (variant.Pack p) us es rest = rest
  role-step n (variant.Config c) us es rest = rest

  roles-file : (n : ℕ) (units : List Unit') → map role-of (entities_with_positions (numbered_from number n units)) ≡ map (λ role. Some role) (map (λ _. f.role) (entities_among units))
  roles-file n [] = refl
  roles-file n (u ∷ units) = role-step n u (entities_with_positions (numbered_from number (n + 1) units)) (entities_among units) (roles-file (n + 1) units)

-- ---- all files
RolesStand : List Units → ℕ → List Units → Type 0
RolesStand all n files = map (λ u. role_at all u.0) (entities_with_positions (flat_map of-file (enumerate_from n files))) ≡ map (λ role. Some role) (roles files)

roles-from : (before files : List Units) (n : ℕ) → n ≡ length before → RolesStand (before ++ files) n files
unfolding RolesStand
roles-from before [] n here = refl
roles-from before (f ∷ files) n here =
    let all = before ++ f ∷ files in
    let others = flat_map of-file (enumerate_from (n + 1) files) in
    let there : slice_get all n ≡ Some f = ap (slice_get all) here ∙ get-here before f files in
    let rest : RolesStand all (n + 1) files = subst (λ (fs : List Units). RolesStand fs (n + 1) files) (append_assoc before (f ∷ []) files) (roles-from (before ++ f ∷ []) files (n + 1) (longer before f n here)) in
    ap (map (λ u. role_at all u.0)) (filter_map-append with-position (of-file (n, f)) others)
    ∙ map-append (λ u. role_at all u.0) (entities_with_positions (of-file (n, f))) (entities_with_positions others)
    ∙ ap (λ rs. rs ++ map (λ u. role_at all u.0) (entities_with_positions others)) (roles-file all n f there 0 f.units)
    ∙ ap (λ rs. map (λ role. Some role) (map (λ _. f.role) (entities_among f.units)) ++ rs) rest
    ∙ sym (map-append (λ role. Some role) (map (λ _. f.role) (entities_among f.units)) (roles files))

pub roles-stand : (files : List Units) → map (λ u. role_at files u.0) (entities_with_positions (numbered files)) ≡ map (λ role. Some role) (roles files)
unfolding RolesStand
roles-stand files = roles-from [] files 0 refl
