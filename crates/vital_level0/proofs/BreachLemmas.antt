-- What is found is what the clauses say.
use Rattle.std.proofs.Common.{◌≡◌, ℕ, suc, zero, ◌<◌, true, false, List, [], ◌∷◌, ◌++◌, length, get_or, refl, sym, ◌∙◌, ap, subst, arith, inl, inr}
use Rattle.std.specs.Prelude.{Bool, ◌&&◌, ◌||◌, ◌⊎◌, not, is_none, Option, Some, None}
use Rattle.std.specs.List.{Any, Contains, flat_map, list_any}
use Rattle.std.specs.Option.{option_map_or}
use Rattle.std.proofs.lemmas.List.Elements.{Contains-append_left, Contains-append_right, Contains-append_cases}
use Rattle.vital_base.specs.declared.breach.Breach.{Breach}
use Rattle.vital_base.specs.declared.breach.Clause.{Clause}
use Rattle.vital_base.specs.declared.place.Place.{Place}
use Rattle.vital_nodes.specs.Places.{identifier_of_decl, place_of_conc}
use Rattle.vital_nodes.specs.declared.decl.Decl.{Decl}
use Rattle.vital_nodes.specs.declared.decl.Iface.{Iface}
use Rattle.vital_nodes.specs.declared.unit.Entity.{Entity}
use Rattle.vital_level0.specs.declared.parts.Parts.{Parts}
use Rattle.vital_level0.specs.declared.parts.Prefix.{Prefix}
use Rattle.vital_level0.specs.Breaches.{IsBreach, level_0, clause_1, clause_2, clause_3, clause_4, clause_5, clause_6, clause_7, clause_8, clause_9, clause_10}
use Rattle.vital_level0.specs.Clauses.{Breaks1, Breaks2, Breaks3, BreaksAtPort, BreaksAtGeneric, BreaksL7, BreaksL10, BreaksSplit, begins_as_timing, breaks_4, breaks_5, breaks_6, breaks_8, breaks_9, breaks_10_control, breaks_10_instance_path, breaks_10_split, is_level_0}
use Rattle.vital_level0.specs.Found.{breach_if, of_declarations, of_statement, of_port, of_parts, of_generic, of_entity}
use Rattle.vital_level0.specs.Split.{Splits, SplitsAs}
use Rattle.vital_level0.specs.Steps.{parts_of_name}
use Rattle.vital_level0.proofs.SplitLemmas.{sound, complete}

-- ---- lists

pub either : {A B C : Type 0} → (A → C) → (B → C) → A ⊎ B → C
either f g (inl a) = f a
either f g (inr b) = g b

pub none-in-nil : {X : Type 0} (x : X) → Contains [] x → ⊥
none-in-nil x h = absurd (omega (arith, h.1))

one-at : {X : Type 0} (x y : X) (k : ℕ) → k < 1 → get_or (x ∷ []) k y ≡ y → x ≡ y
one-at x y zero within is = is
one-at x y (suc k) within is = absurd (omega (arith, within))

pub in-one : {X : Type 0} (x y : X) → Contains (x ∷ []) y → x ≡ y
in-one x y h = one-at x y h.0 h.1 h.2

-- what a function gives for each element of a list
from-flat_map : {X A : Type 0} (f : X → List A) (xs : List X) (y : A) → Contains (flat_map f xs) y → Any (λ x. Contains (f x) y) xs
from-flat_map f [] y h = absurd (none-in-nil y h)
from-flat_map f (x ∷ xs) y h =
    either
    (λ here. (zero, x, omega arith, refl, here))
    (λ later. let a = from-flat_map f xs y later in (suc a.0, a.1, omega (arith, a.2), a.3, a.4))
    (Contains-append_cases (f x) (flat_map f xs) y h)

at-flat_map : {X A : Type 0} (f : X → List A) (xs : List X) (y : A) (k : ℕ) (x : X) → k < length xs → get_or xs k x ≡ x → Contains (f x) y → Contains (flat_map f xs) y
at-flat_map f [] y k x within is h = absurd (omega (arith, within))
at-flat_map {X} f (z ∷ zs) y zero x within is h =
    let P : X → Type 0 = λ w. Contains (f w) y in Contains-append_left (f z) (flat_map f zs) y (subst P (sym is) h)
at-flat_map f (z ∷ zs) y (suc k) x within is h = Contains-append_right (f z) (flat_map f zs) y (at-flat_map f zs y k x (omega (arith, within)) is h)

-- ---- one breach

abbrev breach_at : Place → Clause → Breach
breach_at place clause = record { place = place; clause = clause }

from-if : (c : Bool) (n : ℕ) (place : Place) (b : Breach) → Contains (breach_if c n place) b → (c ≡ true) × (b.clause ≡ level_0 n) × (b.place ≡ place)
from-if true n place b h = let is = in-one (breach_at place (level_0 n)) b h in (refl, sym (ap (λ x. x.clause) is), sym (ap (λ x. x.place) is))
from-if false n place b h = absurd (none-in-nil b h)

to-if : (c : Bool) (n : ℕ) (place : Place) (b : Breach) → c ≡ true → b.clause ≡ level_0 n → b.place ≡ place → Contains (breach_if c n place) b
to-if true n place b broken of_n at =
    let is : b ≡ breach_at place (level_0 n) = ap (λ p. breach_at p b.clause) at ∙ ap (λ c. breach_at place c) of_n in (zero, omega arith, sym is)
to-if false n place b broken of_n at = let bad : false ≡ true = broken in cc

-- ---- declarations

repeated : (s i : Bool) → (s || not i) ≡ true → i ≡ true → (s || false) ≡ true
repeated true i broken is = refl
repeated false true broken is = broken
repeated false false broken is = is

broken-by : (s i : Bool) → (i ≡ true → (s || false) ≡ true) → (s || not i) ≡ true
broken-by true i again = refl
broken-by false true again = again refl
broken-by false false again = refl

or-right : (s i x : Bool) → ((s || i) || x) ≡ true → (s || (i || x)) ≡ true
or-right true i x h = refl
or-right false i x h = h

or-left : (s i x : Bool) → (s || (i || x)) ≡ true → ((s || i) || x) ≡ true
or-left true i x h = refl
or-left false i x h = h

abbrev IsRefused : List ℕ → Bool → List Decl → Place → Type 0
IsRefused name s ds place =
    (before : List Decl) × (d : Decl) × (after : List Decl) × (ds ≡ before ++ d ∷ after)
    × (is_level_0 name d ≡ true → (s || list_any (is_level_0 name) before) ≡ true)
    × (place ≡ (identifier_of_decl d).place)

from-declarations : (name : List ℕ) (s : Bool) (ds : List Decl) (b : Breach) → Contains (of_declarations name s ds) b → (b.clause ≡ level_0 2) × IsRefused name s ds b.place
from-declarations name s [] b h = absurd (none-in-nil b h)
from-declarations name s (d ∷ ds) b h =
    let i = is_level_0 name d in
    let place = (identifier_of_decl d).place in
    either
    (λ here. let f = from-if (s || not i) 2 place b here in (f.1, ([], d, ds, refl, repeated s i f.0, f.2)))
    (λ later.
    let r = from-declarations name (s || i) ds b later in
    (r.0, (d ∷ r.1.0, r.1.1, r.1.2, ap (λ xs. d ∷ xs) r.1.3, (λ is. or-right s i (list_any (is_level_0 name) r.1.0) (r.1.4 is)), r.1.5)))
    (Contains-append_cases (breach_if (s || not i) 2 place) (of_declarations name (s || i) ds) b h)

to-declarations : (name : List ℕ) (s : Bool) (before : List Decl) (d : Decl) (after : List Decl) (b : Breach) → (is_level_0 name d ≡ true → (s || list_any (is_level_0 name) before) ≡ true) → b.clause ≡ level_0 2 → b.place ≡ (identifier_of_decl d).place → Contains (of_declarations name s (before ++ d ∷ after)) b
to-declarations name s [] d after b again of_2 at =
    let i = is_level_0 name d in
    let place = (identifier_of_decl d).place in
    Contains-append_left (breach_if (s || not i) 2 place) (of_declarations name (s || i) after) b (to-if (s || not i) 2 place b (broken-by s i again) of_2 at)
to-declarations name s (x ∷ before) d after b again of_2 at =
    let i = is_level_0 name x in
    Contains-append_right (breach_if (s || not i) 2 (identifier_of_decl x).place) (of_declarations name (s || i) (before ++ d ∷ after)) b
    (to-declarations name (s || i) before d after b (λ is. or-left s i (list_any (is_level_0 name) before) (again is)) of_2 at)

-- ---- ports

from-ports : (e : Entity) (b : Breach) → Contains (flat_map of_port e.ports) b → IsBreach e b
from-ports e b h =
    let a = from-flat_map of_port e.ports b h in
    let port = a.1 in
    let place = port.identifier.place in
    let four = breach_if (breaks_4 port) 4 place in
    let five = breach_if (breaks_5 port) 5 place in
    let six = breach_if (breaks_6 port) 6 place in
    either
    (λ left.
    either
    (λ in_4. let f = from-if (breaks_4 port) 4 place b in_4 in clause_4 f.1 (a.0, port, a.2, a.3, (f.0, f.2)))
    (λ in_5. let f = from-if (breaks_5 port) 5 place b in_5 in clause_5 f.1 (a.0, port, a.2, a.3, (f.0, f.2)))
    (Contains-append_cases four five b left))
    (λ in_6. let f = from-if (breaks_6 port) 6 place b in_6 in clause_6 f.1 (a.0, port, a.2, a.3, (f.0, f.2)))
    (Contains-append_cases (four ++ five) six b a.4)

to-port-4 : (port : Iface) (b : Breach) → Contains (breach_if (breaks_4 port) 4 port.identifier.place) b → Contains (of_port port) b
to-port-4 port b h =
    let place = port.identifier.place in
    let four = breach_if (breaks_4 port) 4 place in
    let five = breach_if (breaks_5 port) 5 place in
    Contains-append_left (four ++ five) (breach_if (breaks_6 port) 6 place) b (Contains-append_left four five b h)

to-port-5 : (port : Iface) (b : Breach) → Contains (breach_if (breaks_5 port) 5 port.identifier.place) b → Contains (of_port port) b
to-port-5 port b h =
    let place = port.identifier.place in
    let four = breach_if (breaks_4 port) 4 place in
    let five = breach_if (breaks_5 port) 5 place in
    Contains-append_left (four ++ five) (breach_if (breaks_6 port) 6 place) b (Contains-append_right four five b h)

to-port-6 : (port : Iface) (b : Breach) → Contains (breach_if (breaks_6 port) 6 port.identifier.place) b → Contains (of_port port) b
to-port-6 port b h =
    let place = port.identifier.place in
    Contains-append_right (breach_if (breaks_4 port) 4 place ++ breach_if (breaks_5 port) 5 place) (breach_if (breaks_6 port) 6 place) b h

to-ports : (breaks : Iface → Bool) (n : ℕ) → ((port : Iface) (b : Breach) → Contains (breach_if (breaks port) n port.identifier.place) b → Contains (of_port port) b) → (e : Entity) (b : Breach) → b.clause ≡ level_0 n → BreaksAtPort breaks e b.place → Contains (flat_map of_port e.ports) b
to-ports breaks n within e b of_n a =
    let port = a.1 in
    at-flat_map of_port e.ports b a.0 port a.2 a.3 (within port b (to-if (breaks port) n port.identifier.place b a.4.0 of_n a.4.1))

-- ---- generics

both-true : (a b : Bool) → (a && b) ≡ true → (a ≡ true) × (b ≡ true)
both-true true b h = (refl, h)
both-true false b h = let bad : false ≡ true = h in cc

either-true : (a b : Bool) → (a || b) ≡ true → (a ≡ true) ⊎ (b ≡ true)
either-true true b h = inl refl
either-true false b h = inr h

left-true : (a b : Bool) → a ≡ true → (a || b) ≡ true
left-true true b h = refl
left-true false b h = let bad : false ≡ true = h in cc

right-true : (a b : Bool) → b ≡ true → (a || b) ≡ true
right-true true b h = refl
right-true false b h = h

and-true : (a b : Bool) → a ≡ true → b ≡ true → (a && b) ≡ true
and-true true b is h = h
and-true false b is h = let bad : false ≡ true = is in cc

-- a name that does not split
unsplit : (ports : List Iface) (name : List ℕ) → is_none (parts_of_name ports name) ≡ true → ¬ Splits name ports
unsplit ports name none s =
    let bad : true ≡ false = sym none ∙ ap is_none (complete ports name s.0 s.1) in cc

none-by : (ports : List Iface) (name : List ℕ) (o : Option Parts) → parts_of_name ports name ≡ o → ¬ Splits name ports → is_none o ≡ true
none-by ports name None is never = refl
none-by ports name (Some p) is never = absurd (never (p, sound ports name p is))

-- one that splits
abbrev broken_split : (Prefix → Iface → Bool) → Iface → Option Parts → Bool
broken_split breaks g parts = option_map_or (λ p. breaks p.kind g) parts false

split-by : (breaks : Prefix → Iface → Bool) (ports : List Iface) (g : Iface) (o : Option Parts) → parts_of_name ports g.identifier.name ≡ o → broken_split breaks g o ≡ true → (kind : Prefix) × SplitsAs g.identifier.name ports kind × (breaks kind g ≡ true)
split-by breaks ports g None is broken = let bad : false ≡ true = broken in cc
split-by breaks ports g (Some p) is broken = (p.kind, (p, sound ports g.identifier.name p is, refl), broken)

broken-split : (breaks : Prefix → Iface → Bool) (e : Entity) (g : Iface) → BreaksSplit breaks e g → broken_split breaks g (parts_of_name e.ports g.identifier.name) ≡ true
broken-split breaks e g s =
    let p = s.1.0 in
    ap (broken_split breaks g) (complete e.ports g.identifier.name p s.1.1) ∙ ap (λ kind. breaks kind g) s.1.2 ∙ s.2

abbrev seven : Iface → Option Parts → List Breach
seven g parts = breach_if (begins_as_timing g.identifier.name && is_none parts) 7 g.identifier.place

abbrev eight : Iface → Option Parts → List Breach
eight g parts = breach_if (broken_split breaks_8 g parts) 8 g.identifier.place

abbrev nine : Iface → List Breach
nine g = breach_if (breaks_9 g) 9 g.identifier.place

abbrev broken_10 : Iface → Option Parts → Bool
broken_10 g parts = broken_split breaks_10_split g parts || (breaks_10_control g || breaks_10_instance_path g)

abbrev ten : Iface → Option Parts → List Breach
ten g parts = breach_if (broken_10 g parts) 10 g.identifier.place

from-generics : (e : Entity) (b : Breach) → Contains (flat_map (of_generic e.ports) e.generics) b → IsBreach e b
from-generics e b h =
    let a = from-flat_map (of_generic e.ports) e.generics b h in
    let g = a.1 in
    let place = g.identifier.place in
    let parts = parts_of_name e.ports g.identifier.name in
    either
    (λ first_3.
    either
    (λ first_2.
    either
    (λ in_7.
    let f = from-if (begins_as_timing g.identifier.name && is_none parts) 7 place b in_7 in
    let both = both-true (begins_as_timing g.identifier.name) (is_none parts) f.0 in
    clause_7 f.1 (a.0, g, a.2, a.3, ((both.0, unsplit e.ports g.identifier.name both.1), f.2)))
    (λ in_8.
    let f = from-if (broken_split breaks_8 g parts) 8 place b in_8 in
    clause_8 f.1 (a.0, g, a.2, a.3, (split-by breaks_8 e.ports g parts refl f.0, f.2)))
    (Contains-append_cases (seven g parts) (eight g parts) b first_2))
    (λ in_9. let f = from-if (breaks_9 g) 9 place b in_9 in clause_9 f.1 (a.0, g, a.2, a.3, (f.0, f.2)))
    (Contains-append_cases (seven g parts ++ eight g parts) (nine g) b first_3))
    (λ in_10.
    let f = from-if (broken_10 g parts) 10 place b in_10 in
    let breaks : BreaksL10 e g =
    either
    (λ split. inl (split-by breaks_10_split e.ports g parts refl split))
    (λ other. inr other)
    (either-true (broken_split breaks_10_split g parts) (breaks_10_control g || breaks_10_instance_path g) f.0) in
    clause_10 f.1 (a.0, g, a.2, a.3, (breaks, f.2)))
    (Contains-append_cases (seven g parts ++ eight g parts ++ nine g) (ten g parts) b a.4)

to-generic-7 : (g : Iface) (parts : Option Parts) (b : Breach) → Contains (seven g parts) b → Contains (of_parts g parts) b
to-generic-7 g parts b h =
    Contains-append_left (seven g parts ++ eight g parts ++ nine g) (ten g parts) b
    (Contains-append_left (seven g parts ++ eight g parts) (nine g) b (Contains-append_left (seven g parts) (eight g parts) b h))

to-generic-8 : (g : Iface) (parts : Option Parts) (b : Breach) → Contains (eight g parts) b → Contains (of_parts g parts) b
to-generic-8 g parts b h =
    Contains-append_left (seven g parts ++ eight g parts ++ nine g) (ten g parts) b
    (Contains-append_left (seven g parts ++ eight g parts) (nine g) b (Contains-append_right (seven g parts) (eight g parts) b h))

to-generic-9 : (g : Iface) (parts : Option Parts) (b : Breach) → Contains (nine g) b → Contains (of_parts g parts) b
to-generic-9 g parts b h =
    Contains-append_left (seven g parts ++ eight g parts ++ nine g) (ten g parts) b (Contains-append_right (seven g parts ++ eight g parts) (nine g) b h)

to-generic-10 : (g : Iface) (parts : Option Parts) (b : Breach) → Contains (ten g parts) b → Contains (of_parts g parts) b
to-generic-10 g parts b h = Contains-append_right (seven g parts ++ eight g parts ++ nine g) (ten g parts) b h

-- a generic that breaks a clause, where what is found of it says so
to-generics : (Breaks : Entity → Iface → Type 0) (e : Entity) (b : Breach) → ((g : Iface) → Breaks e g → b.place ≡ g.identifier.place → Contains (of_generic e.ports g) b) → BreaksAtGeneric Breaks e b.place → Contains (flat_map (of_generic e.ports) e.generics) b
to-generics Breaks e b found a = at-flat_map (of_generic e.ports) e.generics b a.0 a.1 a.2 a.3 (found a.1 a.4.0 a.4.1)

to-7 : (e : Entity) (b : Breach) → b.clause ≡ level_0 7 → BreaksAtGeneric BreaksL7 e b.place → Contains (flat_map (of_generic e.ports) e.generics) b
to-7 e b of_7 a =
    to-generics BreaksL7 e b
    (λ g breaks at.
    let name = g.identifier.name in
    let parts = parts_of_name e.ports name in
    to-generic-7 g parts b
    (to-if (begins_as_timing name && is_none parts) 7 g.identifier.place b (and-true (begins_as_timing name) (is_none parts) breaks.0 (none-by e.ports name parts refl breaks.1)) of_7 at))
    a

to-8 : (e : Entity) (b : Breach) → b.clause ≡ level_0 8 → BreaksAtGeneric (BreaksSplit breaks_8) e b.place → Contains (flat_map (of_generic e.ports) e.generics) b
to-8 e b of_8 a =
    to-generics (BreaksSplit breaks_8) e b
    (λ g breaks at.
    let parts = parts_of_name e.ports g.identifier.name in
    to-generic-8 g parts b (to-if (broken_split breaks_8 g parts) 8 g.identifier.place b (broken-split breaks_8 e g breaks) of_8 at))
    a

to-9 : (e : Entity) (b : Breach) → b.clause ≡ level_0 9 → BreaksAtGeneric (λ _ g. breaks_9 g ≡ true) e b.place → Contains (flat_map (of_generic e.ports) e.generics) b
to-9 e b of_9 a =
    to-generics (λ _ g. breaks_9 g ≡ true) e b
    (λ g breaks at.
    to-generic-9 g (parts_of_name e.ports g.identifier.name) b (to-if (breaks_9 g) 9 g.identifier.place b breaks of_9 at))
    a

broken-10 : (e : Entity) (g : Iface) → BreaksL10 e g → broken_10 g (parts_of_name e.ports g.identifier.name) ≡ true
broken-10 e g breaks =
    let parts = parts_of_name e.ports g.identifier.name in
    let split = broken_split breaks_10_split g parts in
    let other = breaks_10_control g || breaks_10_instance_path g in
    either
    (λ s. left-true split other (broken-split breaks_10_split e g s))
    (λ o. right-true split other o)
    breaks

to-10 : (e : Entity) (b : Breach) → b.clause ≡ level_0 10 → BreaksAtGeneric BreaksL10 e b.place → Contains (flat_map (of_generic e.ports) e.generics) b
to-10 e b of_10 a =
    to-generics BreaksL10 e b
    (λ g breaks at.
    let parts = parts_of_name e.ports g.identifier.name in
    to-generic-10 g parts b (to-if (broken_10 g parts) 10 g.identifier.place b (broken-10 e g breaks) of_10 at))
    a

-- ---- the whole

false-by : (c : Bool) → not c ≡ true → c ≡ false
false-by true h = let bad : false ≡ true = h in cc
false-by false h = refl

abbrev generics : Entity → List Breach
generics e = flat_map (of_generic e.ports) e.generics

abbrev ports : Entity → List Breach
ports e = flat_map of_port e.ports

abbrev declarations : Entity → List Breach
declarations e = of_declarations e.identifier.name false e.declarations

abbrev is_specified : Entity → Bool
is_specified e = list_any (is_level_0 e.identifier.name) e.declarations

abbrev itself : Entity → List Breach
itself e = breach_if (not (is_specified e)) 1 e.identifier.place

abbrev statements : Entity → List Breach
statements e = flat_map of_statement e.statements

from-itself : (e : Entity) (b : Breach) → Contains (itself e) b → IsBreach e b
from-itself e b h = let f = from-if (not (is_specified e)) 1 e.identifier.place b h in clause_1 f.1 (false-by (is_specified e) f.0, f.2)

from-statements : (e : Entity) (b : Breach) → Contains (statements e) b → IsBreach e b
from-statements e b h =
    let a = from-flat_map of_statement e.statements b h in
    let f = from-if true 3 (place_of_conc a.1) b a.4 in
    clause_3 f.1 (a.0, a.1, a.2, a.3, f.2)

from-declared : (e : Entity) (b : Breach) → Contains (declarations e) b → IsBreach e b
from-declared e b h = let f = from-declarations e.identifier.name false e.declarations b h in clause_2 f.0 f.1

pub found-is-breach : (e : Entity) (b : Breach) → Contains (of_entity e) b → IsBreach e b
found-is-breach e b h =
    either
    (λ first_4.
    either
    (λ first_3.
    either
    (λ first_2. either (from-generics e b) (from-ports e b) (Contains-append_cases (generics e) (ports e) b first_2))
    (from-declared e b)
    (Contains-append_cases (generics e ++ ports e) (declarations e) b first_3))
    (from-itself e b)
    (Contains-append_cases (generics e ++ ports e ++ declarations e) (itself e) b first_4))
    (from-statements e b)
    (Contains-append_cases (generics e ++ ports e ++ declarations e ++ itself e) (statements e) b h)

in-statements : (e : Entity) (b : Breach) → Contains (statements e) b → Contains (of_entity e) b
in-statements e b h = Contains-append_right (generics e ++ ports e ++ declarations e ++ itself e) (statements e) b h

in-itself : (e : Entity) (b : Breach) → Contains (itself e) b → Contains (of_entity e) b
in-itself e b h =
    Contains-append_left (generics e ++ ports e ++ declarations e ++ itself e) (statements e) b
    (Contains-append_right (generics e ++ ports e ++ declarations e) (itself e) b h)

in-declarations : (e : Entity) (b : Breach) → Contains (declarations e) b → Contains (of_entity e) b
in-declarations e b h =
    Contains-append_left (generics e ++ ports e ++ declarations e ++ itself e) (statements e) b
    (Contains-append_left (generics e ++ ports e ++ declarations e) (itself e) b (Contains-append_right (generics e ++ ports e) (declarations e) b h))

in-front : (e : Entity) (b : Breach) → Contains (generics e ++ ports e) b → Contains (of_entity e) b
in-front e b h =
    Contains-append_left (generics e ++ ports e ++ declarations e ++ itself e) (statements e) b
    (Contains-append_left (generics e ++ ports e ++ declarations e) (itself e) b (Contains-append_left (generics e ++ ports e) (declarations e) b h))

in-ports : (e : Entity) (b : Breach) → Contains (ports e) b → Contains (of_entity e) b
in-ports e b h = in-front e b (Contains-append_right (generics e) (ports e) b h)

in-generics : (e : Entity) (b : Breach) → Contains (generics e) b → Contains (of_entity e) b
in-generics e b h = in-front e b (Contains-append_left (generics e) (ports e) b h)

to-itself : (e : Entity) (b : Breach) → b.clause ≡ level_0 1 → Breaks1 e b.place → Contains (itself e) b
to-itself e b of_1 breaks = to-if (not (is_specified e)) 1 e.identifier.place b (ap not breaks.0) of_1 breaks.1

to-declared : (e : Entity) (b : Breach) → b.clause ≡ level_0 2 → Breaks2 e b.place → Contains (declarations e) b
to-declared e b of_2 r =
    let P : List Decl → Type 0 = λ ds. Contains (of_declarations e.identifier.name false ds) b in
    subst P (sym r.3) (to-declarations e.identifier.name false r.0 r.1 r.2 b r.4 of_2 r.5)

to-statements : (e : Entity) (b : Breach) → b.clause ≡ level_0 3 → Breaks3 e b.place → Contains (statements e) b
to-statements e b of_3 a = at-flat_map of_statement e.statements b a.0 a.1 a.2 a.3 (to-if true 3 (place_of_conc a.1) b refl of_3 a.4)

pub breach-is-found : (e : Entity) (b : Breach) → IsBreach e b → Contains (of_entity e) b
breach-is-found e b (clause_1 n h) = in-itself e b (to-itself e b n h)
breach-is-found e b (clause_2 n h) = in-declarations e b (to-declared e b n h)
breach-is-found e b (clause_3 n h) = in-statements e b (to-statements e b n h)
breach-is-found e b (clause_4 n h) = in-ports e b (to-ports breaks_4 4 to-port-4 e b n h)
breach-is-found e b (clause_5 n h) = in-ports e b (to-ports breaks_5 5 to-port-5 e b n h)
breach-is-found e b (clause_6 n h) = in-ports e b (to-ports breaks_6 6 to-port-6 e b n h)
breach-is-found e b (clause_7 n h) = in-generics e b (to-7 e b n h)
breach-is-found e b (clause_8 n h) = in-generics e b (to-8 e b n h)
breach-is-found e b (clause_9 n h) = in-generics e b (to-9 e b n h)
breach-is-found e b (clause_10 n h) = in-generics e b (to-10 e b n h)
