-- Identifiers along the tokens of a file, each at a token of its own, and what follows of their names and of their order.
use Rattle.std.proofs.Common.{◌≡◌, true, zero, suc, List, [], ◌∷◌, ◌++◌, map, slice_range, Some, All, AllPairs, sym, ap, ◌∙◌, subst, arith}
use Rattle.std.proofs.lemmas.List.Elements.{All-cons, All-nil}
use Rattle.std.proofs.lemmas.List.Kept.{AllPairs-cons}
use Rattle.vital_base.specs.Places.{is_before}
use Rattle.vital_lex.specs.declared.token_list.Token.{Token}
use Rattle.vital_nodes.specs.IdentifierNames.{IsIdentifierName, IsNamedWell, name_of}
use Rattle.vital_nodes.specs.declared.identifier.Identifier.{Identifier}
use Rattle.vital_shapes.specs.Reading.{place_at}
use Rattle.vital_shapes.proofs.Along.{Source, Along, stay, past}

-- the identifier that a token is
pub record IsToken (o : Source) (t : Token) (x : Identifier) : Type 0 where
  pub is_place : x.place ≡ place_at o.file o.text t.start
  pub is_name : name_of t.kind (slice_range o.text t.start t.end) ≡ Some x.name

-- From the first tokens on, and up to the last ones: a token is passed over, or it is the identifier of the next of a list.
pub data Each (o : Source) {A : Type 0} (of : A → Identifier) : List Token → List A → List Token → Type 0 where
  ends : {ts : List Token} → Each o of ts [] ts
  over : {t : Token} {ts us : List Token} {vs : List A} → Each o of ts vs us → Each o of (t ∷ ts) vs us
  here : {t : Token} {ts us : List Token} {v : A} {vs : List A} → IsToken o t (of v) → Each o of ts vs us → Each o of (t ∷ ts) (v ∷ vs) us

module _ {o : Source} {A : Type 0} {of : A → Identifier} where
  pub each_led : {ts us ws : List Token} {vs : List A} → Along o ts [] us → Each o of us vs ws → Each o of ts vs ws
  each_led stay b = b
  each_led (past a) b = over (each_led a b)

  pub none_each : {ts us : List Token} → Along o ts [] us → Each o of ts [] us
  none_each a = each_led a ends

  pub each_joined : {ts us ws : List Token} {vs xs : List A} → Each o of ts vs us → Each o of us xs ws → Each o of ts (vs ++ xs) ws
  each_joined ends b = b
  each_joined (over a) b = over (each_joined a b)
  each_joined (here x a) b = here x (each_joined a b)

  pub each_ended : {ts us ws : List Token} {vs : List A} → Each o of ts vs us → Along o us [] ws → Each o of ts vs ws
  each_ended ends b = none_each b
  each_ended (over a) b = over (each_ended a b)
  each_ended (here x a) b = here x (each_ended a b)

  -- without the identifiers
  pub each_passed : {ts us : List Token} {vs : List A} → Each o of ts vs us → Along o ts [] us
  each_passed ends = stay
  each_passed (over a) = past (each_passed a)
  each_passed (here x a) = past (each_passed a)

-- of something else that is declared for the same identifiers
pub each_as : {o : Source} {A B : Type 0} {of : A → Identifier} {named : B → Identifier} {ts us : List Token} {vs : List A} (f : A → B) →
    ((v : A) → named (f v) ≡ of v) → Each o of ts vs us → Each o named ts (map f vs) us
each_as f same ends = ends
each_as f same (over a) = over (each_as f same a)
each_as {o} f same (here {t = t} {v = v} x a) = here (subst (IsToken o t) (sym (same v)) x) (each_as f same a)

-- ---- tokens of which each stands before the later ones, and is named well if it is an identifier

abbrev pub Precedes : Source → Token → Token → Type 0
Precedes o t u = is_before (place_at o.file o.text t.start) (place_at o.file o.text u.start) ≡ true

abbrev pub AreSound : Source → List Token → Type 0
AreSound o [] = Unit {0}
AreSound o (t ∷ ts) = IsNamedWell t.kind (slice_range o.text t.start t.end) × All (Precedes o t) ts × AreSound o ts

pub sound_left : {o : Source} {ts us : List Token} → Along o ts [] us → AreSound o ts → AreSound o us
sound_left stay sound = sound
sound_left (past a) sound = sound_left a sound.2

all_left : {o : Source} {ts us : List Token} (P : Token → Type 0) → Along o ts [] us → All P ts → All P us
all_left P stay all = all
all_left P (past a) all = all_left P a (λ k d inside. all (suc k) d (omega arith))

each_holds : {o : Source} {A : Type 0} {of : A → Identifier} {ts us : List Token} {vs : List A} (P : Token → Type 0) (Q : A → Type 0) →
    ((t : Token) (v : A) → IsToken o t (of v) → P t → Q v) → Each o of ts vs us → All P ts → All Q vs
each_holds P Q from ends all = All-nil Q
each_holds P Q from (over a) all = each_holds P Q from a (λ k d inside. all (suc k) d (omega arith))
each_holds P Q from (here {t = t} {v = v} {vs = vs} x a) all =
    All-cons Q v vs (from t v x (all zero t (omega arith))) (each_holds P Q from a (λ k d inside. all (suc k) d (omega arith)))

-- an identifier before one that a later token is
behind : (o : Source) (t u : Token) (x y : Identifier) → IsToken o t x → IsToken o u y → Precedes o t u → is_before x.place y.place ≡ true
behind o t u x y first second before = ap (λ p. is_before p y.place) first.is_place ∙ ap (λ q. is_before (place_at o.file o.text t.start) q) second.is_place ∙ before

module _ {o : Source} {A : Type 0} {of : A → Identifier} where
  pub each_named : {ts us : List Token} {vs : List A} → Each o of ts vs us → AreSound o ts → All (λ v. IsIdentifierName (of v).name) vs
  each_named ends sound = All-nil _
  each_named (over a) sound = each_named a sound.2
  each_named (here {v = v} {vs = vs} x a) sound = All-cons (λ w. IsIdentifierName (of w).name) v vs (sound.0 (of v).name x.is_name) (each_named a sound.2)

  pub each_in_order : {ts us : List Token} {vs : List A} → Each o of ts vs us → AreSound o ts → AllPairs (λ v w. is_before (of v).place (of w).place ≡ true) vs
  each_in_order ends sound = λ i j d below inside. absurd (omega arith)
  each_in_order (over a) sound = each_in_order a sound.2
  each_in_order (here {t = t} {v = v} {vs = vs} x a) sound = AllPairs-cons (λ y z. is_before (of y).place (of z).place ≡ true) v vs
      (each_holds (Precedes o t) (λ w. is_before (of v).place (of w).place ≡ true) (λ u w y before. behind o t u (of v) (of w) x y before) a sound.1)
      (each_in_order a sound.2)

-- each stands before each of those that are read behind it
pub each_before : {o : Source} {A B : Type 0} {of : A → Identifier} {named : B → Identifier} {ts us ws : List Token} {vs : List A} {xs : List B} →
    Each o of ts vs us → Each o named us xs ws → AreSound o ts → All (λ v. All (λ w. is_before (of v).place (named w).place ≡ true) xs) vs
each_before ends b sound = All-nil _
each_before (over a) b sound = each_before a b sound.2
each_before {o} {of = of} {named = named} {xs = xs} (here {t = t} {v = v} {vs = vs} x a) b sound = All-cons (λ y. All (λ w. is_before (of y).place (named w).place ≡ true) xs) v vs
    (each_holds (Precedes o t) (λ w. is_before (of v).place (named w).place ≡ true) (λ u w y before. behind o t u (of v) (named w) x y before) b (all_left (Precedes o t) (each_passed a) sound.1))
    (each_before a b sound.2)
