-- What comes of two expressions, where what is broken in them is put before what follows of both.
use Rattle.std.proofs.Common.{◌≡◌, List, [], ◌++◌, Option, Some, None, refl, sym}
use Rattle.std.proofs.lemmas.List.{append-nil}
use Rattle.std.specs.Option.{option_zip}
use Rattle.vital_base.specs.declared.place.Place.{Place}
use Rattle.vital_expr.specs.Outcomes.{Outcome, both_by, then_by}

pub places_before : {A B C : Type 0} (f : A → B → Outcome C) (a : Option A) (b : Option B) (ps : List Place) → (both_by f a b ps).places ≡ ps ++ (both_by f a b []).places
places_before f None b ps = sym (append-nil ps)
places_before f (Some t) None ps = sym (append-nil ps)
places_before f (Some t) (Some u) ps = refl

pub tree_apart : {A B C : Type 0} (f : A → B → Outcome C) (a : Option A) (b : Option B) (ps : List Place) → (both_by f a b ps).tree ≡ (both_by f a b []).tree
tree_apart f None b ps = refl
tree_apart f (Some t) None ps = refl
tree_apart f (Some t) (Some u) ps = refl

-- Both of two options, as one of a pair.
pub both_zipped : {A B C : Type 0} (f : A → B → Outcome C) (a : Option A) (b : Option B) (ps : List Place) → both_by f a b ps ≡ then_by (λ p. f p.0 p.1) (option_zip a b) ps
both_zipped f None b ps = refl
both_zipped f (Some t) None ps = refl
both_zipped f (Some t) (Some u) ps = refl
