-- What is kept of entities.
use Rattle.std.proofs.Common.{◌≡◌, ℕ, true, false, List, [], ◌∷◌, ◌++◌, map, refl, sym, ◌∙◌, ap, append-nil}
use Rattle.std.specs.Prelude.{Bool, cond, Option, Some, None}
use Rattle.std.specs.Option.{option_map, option_map_or}
use Rattle.std.specs.Str.{bytes_eq}
use Rattle.std.specs.Borrow.{Bor}
use Rattle.std.specs.Cmp.Lexicographic.{bytes_decides}
use Rattle.std.specs.HashMap.{HashMap, get_by}
use Rattle.std.specs.declared.alloc.Global.{Global}
use Rattle.std.specs.declared.vec.Vec.{Vec}
use Rattle.std.specs.declared.hash.BuildHasherDefault.{BuildHasherDefault}
use Rattle.std.specs.declared.hash.FoldHasher.{FoldHasher}
use Rattle.std.proofs.lemmas.List.{map-append}
use Rattle.std.proofs.lemmas.List.Elements.{filter_map-append}
use Rattle.vital_nodes.specs.declared.unit.Unit.{Unit as Unit'}
use Rattle.vital_library.specs.declared.position.Position.{Position}
use Rattle.vital_library.specs.Entries.{positions_of_archs, group_of, entities_with_positions, entries_among, with_group}
use Rattle.vital_library.specs.Units.{as_entity}

abbrev pub Groups : Type 0
Groups = HashMap (Bor (List ℕ)) (Vec Position Global) (BuildHasherDefault FoldHasher)

abbrev pub got : Groups → List ℕ → Option (Vec Position Global)
got groups name = get_by (λ key. bytes_eq name key.now) groups

abbrev pub items_of : Option (Vec Position Global) → List Position
items_of group = option_map_or (λ v. v.items) group []

-- ---- one position more under a name
put-at : (old_name old_q new_q removed_q : Option (Vec Position Global)) (pushed : Vec Position Global) (position : Position) (b : Bool) → (b ≡ true → old_name ≡ old_q) → new_q ≡ cond b (Some pushed) removed_q → removed_q ≡ cond b None old_q → pushed.items ≡ items_of old_name ++ position ∷ [] → items_of new_q ≡ items_of old_q ++ cond b (position ∷ []) []
put-at old_name old_q new_q removed_q pushed position true same new removed more = ap items_of new ∙ more ∙ ap (λ o. items_of o ++ position ∷ []) (same refl)
put-at old_name old_q new_q removed_q pushed position false same new removed more = ap items_of (new ∙ removed) ∙ sym (append-nil (items_of old_q))

pub group_of-put : (old removed new : Groups) (name q : List ℕ) (pushed : Vec Position Global) (position : Position) → got new q ≡ cond (bytes_eq name q) (Some pushed) (got removed q) → got removed q ≡ cond (bytes_eq name q) None (got old q) → pushed.items ≡ group_of old name ++ position ∷ [] → group_of new q ≡ group_of old q ++ cond (bytes_eq name q) (position ∷ []) []
group_of-put old removed new name q pushed position = put-at (got old name) (got old q) (got new q) (got removed q) pushed position (bytes_eq name q) (λ e. ap (got old) ((bytes_decides name q).0 e))

-- ---- one unit more
pub entities-push : (groups : Groups) (units : List (Position × Unit')) (u : Position × Unit') → map (with_group groups) (entities_with_positions (units ++ u ∷ [])) ≡ map (with_group groups) (entities_with_positions units) ++ map (with_group groups) (entities_with_positions (u ∷ []))
entities-push groups units u =
    ap (map (with_group groups)) (filter_map-append (λ v. option_map (λ entity. (v.0, entity)) (as_entity v.1)) units (u ∷ []))
    ∙ map-append (with_group groups) (entities_with_positions units) (entities_with_positions (u ∷ []))

pub map-same : {A B : Type 0} (f g : A → B) → ((x : A) → f x ≡ g x) → (xs : List A) → map f xs ≡ map g xs
map-same f g same [] = refl
map-same f g same (x ∷ xs) = rw (same x, map-same f g same xs) refl

pub entries-all : (groups : Groups) (units : List (Position × Unit')) → ((name : List ℕ) → group_of groups name ≡ positions_of_archs name units) → map (with_group groups) (entities_with_positions units) ≡ entries_among units
entries-all groups units same = map-same (with_group groups) (λ u. (u.0, positions_of_archs u.1.identifier.name units)) (λ u. ap (λ archs. (u.0, archs)) (same u.1.identifier.name)) (entities_with_positions units)
