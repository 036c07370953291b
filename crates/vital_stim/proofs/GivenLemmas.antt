-- Given ports by their names.
use Rattle.std.proofs.Common.{◌≡◌, ℕ, ◌+◌, suc, add-zero, zero-add, arith, ◌<◌, ◌≤◌, get_or, take, true, false, List, [], ◌∷◌, ◌++◌, length, refl, sym, ◌∙◌, ap, Ok, Err}
use Rattle.std.specs.Prelude.{Bool, cond, ◌&&◌, find, Option, Some, None, is_some, is_none, position, if◌then◌else◌}
use Rattle.std.specs.List.{position_from, position_or_len, slice_get}
use Rattle.std.specs.Option.{ok_or}
use Rattle.std.specs.Str.{bytes_eq}
use Rattle.std.proofs.lemmas.Iterator.Adapters.{position_from-zero}
use Rattle.std.proofs.lemmas.List.{take_more, length-take-le}
use Rattle.std.proofs.lemmas.List.Folds.{find_at}
use Rattle.std.proofs.lemmas.Option.{slice_get_read, slice_get_past}
use Rattle.std.proofs.lemmas.Bool.{ltb-true}
use Rattle.std.proofs.lemmas.Slice.Eq.{bytes_eq-Decides}
use Rattle.vital_base.specs.declared.ports.PortBit.{PortBit}
use Rattle.vital_stim.specs.GivenPorts.{number_of}
use Rattle.vital_stim.specs.Stimuli.{◌>>=◌, Stimulus, is_named, among_given}
use Rattle.vital_stim.specs.declared.fault.StimWhy.TheVariants.{UnknownPort, NotInput}
use Rattle.vital_stim.proofs.Positions.{found, missing, any-lt}

-- ---- the map of numbers

-- one name more, which was not there
pub put-new : (old_name old_q new_q : Option ℕ) (number : ℕ) (b : Bool) → (b ≡ true → old_name ≡ old_q) → is_some old_name ≡ false → new_q ≡ cond b (Some number) old_q → new_q ≡ cond (is_none old_q && b) (Some number) old_q
put-new old_name None new_q number true same new updates = updates
put-new old_name None new_q number false same new updates = updates
put-new old_name (Some n) new_q number false same new updates = updates
put-new old_name (Some n) new_q number true same new updates = let there : is_some old_name ≡ true = ap is_some (same refl) in let bad : true ≡ false = sym there ∙ new in cc

-- the first place that passes, with one item more
from-step : (c : Bool) (i n : ℕ) (here : Option ℕ) (b : Bool) (there rest : Option ℕ) → there ≡ cond (is_none rest && b) (Some (i + 1 + n)) rest → here ≡ Some i → cond c here there ≡ cond (is_none (cond c here rest) && b) (Some (i + (1 + n))) (cond c here rest)
from-step true i n here b there rest ih is = rw is refl
from-step false i n here b there rest ih is = let e : i + 1 + n ≡ i + (1 + n) = omega arith in rw (sym e) ih

from-push : {X : Type 0} (p : X → Bool) (i : ℕ) (xs : List X) (y : X) → position_from p i (xs ++ y ∷ []) ≡ cond (is_none (position_from p i xs) && p y) (Some (i + length xs)) (position_from p i xs)
from-push p i [] y = rw (add-zero i) refl
from-push p i (x ∷ xs) y =
    let e : suc (length xs) ≡ 1 + length xs = omega arith in
    rw e (from-step (p x) i (length xs) (Some i) (p y) (position_from p (i + 1) (xs ++ y ∷ [])) (position_from p (i + 1) xs) (from-push p (i + 1) xs y) refl)

position-push : {X : Type 0} (p : X → Bool) (xs : List X) (y : X) → position p (xs ++ y ∷ []) ≡ cond (is_none (position p xs) && p y) (Some (length xs)) (position p xs)
position-push p xs y = rw (position_from-zero p xs, position_from-zero p (xs ++ y ∷ []), sym (zero-add (length xs))) (from-push p 0 xs y)

agree : (v w : Bool) → (v ≡ true → w ≡ true) → (w ≡ true → v ≡ true) → v ≡ w
agree true w h k = sym (h refl)
agree false true h k = k refl
agree false false h k = refl

bytes_eq-sym : (a b : List ℕ) → bytes_eq a b ≡ bytes_eq b a
bytes_eq-sym a b = agree (bytes_eq a b) (bytes_eq b a) (λ h. (bytes_eq-Decides b a).1 (sym ((bytes_eq-Decides a b).0 h))) (λ h. (bytes_eq-Decides a b).1 (sym ((bytes_eq-Decides b a).0 h)))

-- the numbers of ports, with one port more
pub number_of-more : (ports : List PortBit) (i : ℕ) (port : PortBit) (bytes name : List ℕ) (old : Option ℕ) → i < length ports → port ≡ get_or ports i port → bytes ≡ port.name → old ≡ number_of (take i ports) name → cond (is_none old && bytes_eq bytes name) (Some i) old ≡ number_of (take (i + 1) ports) name
number_of-more ports i port bytes name old within is named before =
    let short : i ≤ length ports = omega arith in
    let more : take (i + 1) ports ≡ take i ports ++ port ∷ [] = take_more ports i port within ∙ ap (λ y. take i ports ++ y ∷ []) (sym is) in
    let passes : bytes_eq bytes name ≡ is_named name port = bytes_eq-sym bytes name ∙ ap (bytes_eq name) named in
    ap (λ o. cond (is_none o && bytes_eq bytes name) (Some i) o) before
    ∙ ap (λ b. cond (is_none (number_of (take i ports) name) && b) (Some i) (number_of (take i ports) name)) passes
    ∙ ap (λ n. cond (is_none (number_of (take i ports) name) && is_named name port) (Some n) (number_of (take i ports) name)) (sym (length-take-le i ports short))
    ∙ sym (position-push (is_named name) (take i ports) port)
    ∙ ap (λ ps. number_of ps name) (sym more)

-- ---- what is told of a port

-- where the first port of a name stands
pub record IsFirst (ports : List PortBit) (name : List ℕ) (i : ℕ) : Type 0 where
  pub place : i ≡ position_or_len (is_named name) ports
  pub within : i < length ports

pub first_is : (ports : List PortBit) (name : List ℕ) (i : ℕ) → number_of ports name ≡ Some i → IsFirst ports name i
first_is ports name i h =
    let at = found (is_named name) ports i h in
    let before = ltb-true _ _ (sym (any-lt (is_named name) ports) ∙ at.1) in
    record { place = sym at.0; within = omega (arith, before, at.0) }

first_found : (ports : List PortBit) (name : List ℕ) (i : ℕ) (port : PortBit) → number_of ports name ≡ Some i → port ≡ get_or ports i port → find (is_named name) ports ≡ Some port
first_found ports name i port h is =
    let at = first_is ports name i h in
    find_at (is_named name) ports ∙ ap (slice_get ports) (sym at.place) ∙ slice_get_read ports (length ports) i port refl at.within is

told-input : (port : PortBit) (stimulus : Stimulus) (b : Bool) → port.input ≡ b → (ok_or (Some port) UnknownPort >>= λ (p : PortBit). if p.input then Ok stimulus else Err NotInput) ≡ cond b (Ok stimulus) (Err NotInput)
told-input port stimulus b e = rw e refl

pub told-first : (ports : List PortBit) (name : List ℕ) (i : ℕ) (port : PortBit) (b : Bool) (stimulus : Stimulus) → number_of ports name ≡ Some i → port ≡ get_or ports i port → port.input ≡ b → stimulus.name ≡ name → cond b (Ok stimulus) (Err NotInput) ≡ among_given (Some ports) stimulus
told-first ports name i port b stimulus h is input named =
    sym (ap (λ (o : Option PortBit). ok_or o UnknownPort >>= λ (p : PortBit). if p.input then Ok stimulus else Err NotInput) (ap (λ n. find (is_named n) ports) named ∙ first_found ports name i port h is) ∙ told-input port stimulus b input)

pub told-none : (ports : List PortBit) (name : List ℕ) (stimulus : Stimulus) → number_of ports name ≡ None → stimulus.name ≡ name → Err UnknownPort ≡ among_given (Some ports) stimulus
told-none ports name stimulus h named =
    let at = missing (is_named name) ports h in
    let none : find (is_named name) ports ≡ None = find_at (is_named name) ports ∙ slice_get_past ports _ (omega (arith, at.0)) in
    sym (ap (λ (o : Option PortBit). ok_or o UnknownPort >>= λ (p : PortBit). if p.input then Ok stimulus else Err NotInput) (ap (λ n. find (is_named n) ports) named ∙ none))
