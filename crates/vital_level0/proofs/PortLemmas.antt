-- Ports by their names.
use Rattle.std.proofs.Common.{◌≡◌, ℕ, ◌+◌, suc, add-zero, zero-add, arith, ◌<◌, ◌≤◌, get_or, take, true, false, List, [], ◌∷◌, ◌++◌, length, refl, sym, ◌∙◌, ap}
use Rattle.std.specs.Prelude.{Bool, cond, ◌&&◌, Option, Some, None, is_some, is_none, position}
use Rattle.std.specs.List.{position_from}
use Rattle.std.proofs.lemmas.List.{take_more, length-take-le}
use Rattle.std.specs.Str.{bytes_eq}
use Rattle.vital_nodes.specs.declared.decl.Iface.{Iface}
use Rattle.vital_level0.specs.Ports.{number_of}
use Rattle.std.proofs.lemmas.Iterator.Adapters.{position_from-zero}

-- one name more, which was not there
pub put-new : (old_name old_q new_q : Option ℕ) (number : ℕ) (b : Bool) → (b ≡ true → old_name ≡ old_q) → is_some old_name ≡ false → new_q ≡ cond b (Some number) old_q → new_q ≡ cond (is_none old_q && b) (Some number) old_q
put-new old_name None new_q number true same new updates = updates
put-new old_name None new_q number false same new updates = updates
put-new old_name (Some n) new_q number false same new updates = updates
put-new old_name (Some n) new_q number true same new updates = let there : is_some old_name ≡ true = ap is_some (same refl) in let bad : true ≡ false = sym there ∙ new in cc

-- one that was there
pub put-old : (old_name old_q : Option ℕ) (number : ℕ) (b : Bool) → (b ≡ true → old_name ≡ old_q) → is_some old_name ≡ true → old_q ≡ cond (is_none old_q && b) (Some number) old_q
put-old old_name None number false same there = refl
put-old old_name None number true same there = let gone : is_some old_name ≡ false = ap is_some (same refl) in let bad : true ≡ false = sym there ∙ gone in cc
put-old old_name (Some n) number b same there = refl

-- the first place that passes, with one item more
from-step : (c : Bool) (i n : ℕ) (here : Option ℕ) (b : Bool) (there rest : Option ℕ) → there ≡ cond (is_none rest && b) (Some (i + 1 + n)) rest → here ≡ Some i → cond c here there ≡ cond (is_none (cond c here rest) && b) (Some (i + (1 + n))) (cond c here rest)
from-step true i n here b there rest ih is = rw is refl
from-step false i n here b there rest ih is = let e : i + 1 + n ≡ i + (1 + n) = omega arith in rw (sym e) ih

from-push : {X : Type 0} (p : X → Bool) (i : ℕ) (xs : List X) (y : X) → position_from p i (xs ++ y ∷ []) ≡ cond (is_none (position_from p i xs) && p y) (Some (i + length xs)) (position_from p i xs)
from-push p i [] y = rw (add-zero i) refl
from-push p i (x ∷ xs) y =
    let e : suc (length xs) ≡ 1 + length xs = omega arith in
    rw e (from-step (p x) i (length xs) (Some i) (p y) (position_from p (i + 1) (xs ++ y ∷ [])) (position_from p (i + 1) xs) (from-push p (i + 1) xs y) refl)

pub position-push : {X : Type 0} (p : X → Bool) (xs : List X) (y : X) → position p (xs ++ y ∷ []) ≡ cond (is_none (position p xs) && p y) (Some (length xs)) (position p xs)
position-push p xs y = rw (position_from-zero p xs, position_from-zero p (xs ++ y ∷ []), sym (zero-add (length xs))) (from-push p 0 xs y)

-- the numbers of ports, with one port more
pub number_of-more : (ports : List Iface) (i : ℕ) (port : Iface) (bytes name : List ℕ) (old : Option ℕ) → i < length ports → port ≡ get_or ports i port → bytes ≡ port.identifier.name → old ≡ number_of (take i ports) name → cond (is_none old && bytes_eq bytes name) (Some i) old ≡ number_of (take (i + 1) ports) name
number_of-more ports i port bytes name old within is named before =
    let p : Iface → Bool = λ q. bytes_eq q.identifier.name name in
    let short : i ≤ length ports = omega arith in
    let more : take (i + 1) ports ≡ take i ports ++ port ∷ [] = take_more ports i port within ∙ ap (λ y. take i ports ++ y ∷ []) (sym is) in
    ap (λ o. cond (is_none o && bytes_eq bytes name) (Some i) o) before
    ∙ ap (λ b. cond (is_none (number_of (take i ports) name) && bytes_eq b name) (Some i) (number_of (take i ports) name)) named
    ∙ ap (λ n. cond (is_none (number_of (take i ports) name) && p port) (Some n) (number_of (take i ports) name)) (sym (length-take-le i ports short))
    ∙ sym (position-push p (take i ports) port)
    ∙ ap (λ ps. number_of ps name) (sym more)
