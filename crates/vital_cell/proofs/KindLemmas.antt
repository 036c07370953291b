-- Variables of a name: their numbers, and what they hold.
use Rattle.std.proofs.Common.{◌≡◌, ℕ, zero, suc, List, [], ◌∷◌, map, refl, sym, ◌∙◌, ap, subst, inl, inr}
use Rattle.std.specs.Prelude.{Bool, true, false, ◌||◌, ◌&&◌, ◌⊎◌, slice_get, Some}
use Rattle.std.specs.List.{All, IsDistinct}
use Rattle.std.specs.Str.{bytes_eq}
use Rattle.std.proofs.lemmas.Bool.{false≢true}
use Rattle.vital_machine.specs.declared.slot.Slot.{Slot}
use Rattle.vital_objects.specs.declared.variable.Variable.{Variable}
use Rattle.vital_objects.specs.declared.variable.VariableKind.{VariableKind}
use Rattle.vital_typed_cells.specs.Named.{variable_is}
use Rattle.vital_cell.specs.Kinds.{AreOfKinds, IsOfKind, is_of_kind}
use Rattle.vital_cell.proofs.SoundLemmas.{first-holds, second-holds}
use Rattle.vital_cell.proofs.ZipLemmas.{all-at, equal-names, first-at, map-at, none≢some, some-same}
use Rattle.vital_typed_cells.specs.Bits.{number_of}

-- ---- a variable of a name

pub record Member (test : VariableKind → Bool) (vs : List Variable) (name : List ℕ) : Type 0 where
  pub number : ℕ
  pub variable : Variable
  pub there : slice_get vs number ≡ Some variable
  pub is_named : variable.name ≡ name
  pub passes : test variable.kind ≡ true

pub either : (a b : Bool) → (a || b) ≡ true → (a ≡ true) ⊎ (b ≡ true)
either true b is = inl refl
either false b is = inr is

here : (test : VariableKind → Bool) (v : Variable) (vs : List Variable) (name : List ℕ) → (bytes_eq v.name name && test v.kind) ≡ true → Member test (v ∷ vs) name
here test v vs name is = record {
  number = 0;
  variable = v;
  there = refl;
  is_named = equal-names v.name name (first-holds (bytes_eq v.name name) (test v.kind) is);
  passes = second-holds (bytes_eq v.name name) (test v.kind) is;
}

behind : (test : VariableKind → Bool) (v : Variable) (vs : List Variable) (name : List ℕ) → Member test vs name → Member test (v ∷ vs) name
behind test v vs name m = record { number = suc m.number; variable = m.variable; there = m.there; is_named = m.is_named; passes = m.passes }

pub member : (test : VariableKind → Bool) (vs : List Variable) (name : List ℕ) → variable_is test vs name ≡ true → Member test vs name
member test [] name is = absurd (false≢true is)
member test (v ∷ vs) name is =
    elim (either (bytes_eq v.name name && test v.kind) (variable_is test vs name) is) [
      | inl first ↦ here test v vs name first
      | inr others ↦ behind test v vs name (member test vs name others)
    ]

-- ---- what it holds

pub record HeldAt (v : Variable) (slots : List Slot) (number : ℕ) : Type 0 where
  pub held : Slot
  pub there : slice_get slots number ≡ Some held
  pub suits : IsOfKind v held

pub held-at : (vs : List Variable) (slots : List Slot) (i : ℕ) (v : Variable) → AreOfKinds vs slots → slice_get vs i ≡ Some v → HeldAt v slots i
held-at [] slots i v are is = absurd (none≢some v is)
held-at (w ∷ ws) [] i v are is = absurd are
held-at (w ∷ ws) (s ∷ ss) zero v are is = record { held = s; there = refl; suits = ap (λ u. is_of_kind u.kind s) (sym (some-same w v is)) ∙ are.0 }
held-at (w ∷ ws) (s ∷ ss) (suc i) v are is =
    let h = held-at ws ss i v are.1 is in
    record { held = h.held; there = h.there; suits = h.suits }

-- A variable with its number, its kind and what it holds.
pub record Found (test : VariableKind → Bool) (vs : List Variable) (slots : List Slot) (name : List ℕ) : Type 0 where
  pub number : ℕ
  pub kind : VariableKind
  pub held : Slot
  pub numbered : number_of (map (λ v. v.name) vs) name ≡ Some number
  pub there : slice_get slots number ≡ Some held
  pub at : (v : Variable) × (slice_get vs number ≡ Some v) × (v.kind ≡ kind)
  pub passes : test kind ≡ true
  pub suits : is_of_kind kind held ≡ true

found-with : (test : VariableKind → Bool) (vs : List Variable) (slots : List Slot) (name : List ℕ) → IsDistinct bytes_eq (map (λ v. v.name) vs) → (m : Member test vs name) → HeldAt m.variable slots m.number → Found test vs slots name
found-with test vs slots name distinct m h = record {
  number = m.number;
  kind = m.variable.kind;
  held = h.held;
  numbered = first-at (map (λ v. v.name) vs) name m.number distinct (map-at (λ v. v.name) vs m.number m.variable m.there ∙ ap Some m.is_named);
  there = h.there;
  at = (m.variable, m.there, refl);
  passes = m.passes;
  suits = h.suits;
}

pub found-variable : (test : VariableKind → Bool) (vs : List Variable) (slots : List Slot) (name : List ℕ) → IsDistinct bytes_eq (map (λ v. v.name) vs) → AreOfKinds vs slots → variable_is test vs name ≡ true → Found test vs slots name
found-variable test vs slots name distinct are is =
    let m = member test vs name is in
    found-with test vs slots name distinct m (held-at vs slots m.number m.variable are m.there)

-- What holds of all kinds holds of its kind.
pub kind-of-all : (P : VariableKind → Type 0) (test : VariableKind → Bool) (vs : List Variable) (slots : List Slot) (name : List ℕ) → All (λ v. P v.kind) vs → (f : Found test vs slots name) → P f.kind
kind-of-all P test vs slots name all f = subst P f.at.2 (all-at (λ v. P v.kind) vs f.number f.at.0 all f.at.1)
