-- What all stimuli that are read keep.
use Rattle.std.proofs.Common.{◌≡◌, ℕ, zero, suc, ◌+◌, ◌^◌, ◌<◌, ◌≤◌, true, false, List, [], ◌∷◌, length, map, get_or, refl, sym, ◌∙◌, ap, subst, Result, Ok, Err, arith}
use Rattle.std.specs.Prelude.{Bool, not, cond, nat_lt, nat_le, find, Option, Some, None, IfOk, IfSome, All}
use Rattle.std.specs.Borrow.{Bor}
use Rattle.std.specs.List.{AllByRecursion, list_any}
use Rattle.std.specs.List.Sorted.{IsNonDecreasing}
use Rattle.std.specs.Option.{ok_or}
use Rattle.std.specs.Str.{bytes_eq}
use Rattle.std.proofs.lemmas.Bool.{ltb-true, ltb-false, leb-true, cond_both}
use Rattle.std.proofs.lemmas.List.{length-map}
use Rattle.std.proofs.lemmas.List.Folds.{find_at}
use Rattle.std.proofs.lemmas.List.Splits.{length-slice_split}
use Rattle.std.proofs.lemmas.List.Sums.{length-filter, count_by-le-length}
use Rattle.std.proofs.lemmas.Simd.{map-map}
use Rattle.std.proofs.lemmas.List.Elements.{All-map, All-from_recursion}
use Rattle.vital_base.specs.Times.{time_of, number_of, unit_named}
use Rattle.vital_base.specs.declared.ports.PortBit.{PortBit}
use Rattle.vital_base.specs.declared.time.TimeUnit.{TimeUnit}
use Rattle.vital_logic.specs.declared.level.Level.{Level}
use Rattle.vital_stim.specs.Parts.{is_line_end, lines_of, fields_of, is_passed_over}
use Rattle.vital_stim.specs.Stimuli.{◌>>=◌, Stimulus, port_named, value_named, stimulus_of, stimulus_after, stimulus_for, is_named, among_given, on_line, stimuli_from, input_port, ports_for, first_sights, line_among, names_in, with_ports, Fits, stim, lent, Answers}
use Rattle.vital_stim.specs.declared.fault.StimError.{StimError}
use Rattle.vital_stim.specs.declared.fault.StimFault.{StimFault}
use Rattle.vital_stim.specs.declared.fault.StimWhy.{StimWhy}
use Rattle.vital_stim.specs.declared.fault.StimWhy.TheVariants.{Line, Unit as UnknownUnit, Large, Value, Falls, NotInput}
use Rattle.vital_stim.specs.declared.stimuli.Stimuli.{Stimuli}
use Rattle.vital_stim.proofs.KnownLemmas.{AreNamed, are_named, is_there, first_of}
use Rattle.vital_stim.proofs.Positions.{any-lt}

-- ---- a fact on each answer that is Ok
module _ {B E : Type 0} (P : B → Type 0) where
  at-ok : (r : Result B E) (y : B) → r ≡ Ok y → IfOk r P → P y
  at-ok r y e h = let Q : Result B E → Type 0 = λ v. IfOk v P in subst Q e h

  bind-if : {A : Type 0} (r : Result A E) (f : A → Result B E) → ((x : A) → r ≡ Ok x → IfOk (f x) P) → IfOk (r >>= f) P
  bind-if (Ok x) f k = k x refl
  bind-if (Err e) f k = tt

on_line-if : (P : Stimulus → Type 0) (number : ℕ) (r : Result Stimulus StimWhy) → IfOk r P → IfOk (on_line number r) P
on_line-if P number (Ok s) h = h
on_line-if P number (Err why) h = tt

pub answers-if : (P : Stimuli → Type 0) (r : Result Stimuli StimError) (given : Result Stimuli StimFault) → Answers r given → IfOk given P → IfOk r P
answers-if P (Ok found) given h k = at-ok P given found h k
answers-if P (Err e) given h k = tt

-- ---- times
in_time-step : (product time : ℕ) (v : Bool) → nat_le product 1_152_921_504_606_846_976 ≡ v → cond v (Some product) None ≡ Some time → time ≤ 1_152_921_504_606_846_976
in_time-step product time true e h = let same : product ≡ time = (cc) in subst (λ n. n ≤ 1_152_921_504_606_846_976) same (leb-true product 1_152_921_504_606_846_976 e)
in_time-step product time false e h = absurd (cc)

in_time : (number time : ℕ) (unit : TimeUnit) → time_of number unit ≡ Some time → time ≤ 1_152_921_504_606_846_976
in_time number time unit h = in_time-step _ time (nat_le _ 1_152_921_504_606_846_976) refl h

abbrev IsEarly : Stimulus → Type 0
IsEarly = λ s. s.time ≤ 1_152_921_504_606_846_976

-- what the four fields say, by what each of them says
abbrev from_time : List ℕ → Option Level → Option ℕ → Result Stimulus StimWhy
from_time name level time = do
  t ← ok_or time Large
  value ← ok_or level Value
  Ok (record { time = t; name = name; value = value })

abbrev from_parts : Option ℕ → Option (List ℕ) → Option TimeUnit → Option Level → Result Stimulus StimWhy
from_parts number name unit level = do
  n ← ok_or number Line
  m ← ok_or name Line
  u ← ok_or unit UnknownUnit
  from_time m level (time_of n u)

early-time : (number : ℕ) (unit : TimeUnit) (name : List ℕ) (level : Option Level) (time : Option ℕ) → time_of number unit ≡ time → IfOk (from_time name level time) IsEarly
early-time number unit name level None e = tt
early-time number unit name None (Some time) e = tt
early-time number unit name (Some value) (Some time) e = in_time number time unit e

early : (number : Option ℕ) (name : Option (List ℕ)) (unit : Option TimeUnit) (level : Option Level) → IfOk (from_parts number name unit level) IsEarly
early None name unit level = tt
early (Some n) None unit level = tt
early (Some n) (Some m) None level = tt
early (Some n) (Some m) (Some u) level = early-time n u m level (time_of n u) refl

of-fields : (fields : List (List ℕ)) → IfOk (stimulus_of fields) IsEarly
of-fields (digits ∷ letters ∷ port ∷ level ∷ []) = early (number_of digits) (port_named port) (unit_named letters) (value_named level)
of-fields fields = tt

abbrev IsAfter : ℕ → Stimulus → Type 0
IsAfter latest = λ s. (latest ≤ s.time) × (s.time ≤ 1_152_921_504_606_846_976)

of-after : (latest : ℕ) (fields : List (List ℕ)) → IfOk (stimulus_after latest fields) (IsAfter latest)
of-after latest fields = bind-if (IsAfter latest) (stimulus_of fields) _ (λ s e. cond_both (nat_lt s.time latest) (Err Falls) (Ok s) (λ r. IfOk r (IsAfter latest)) (λ _. tt) (λ f. (ltb-false _ _ f, at-ok IsEarly (stimulus_of fields) s e (of-fields fields))))

-- ---- the port passes its tests
abbrev Stands : Option (List PortBit) → Stimulus → Type 0
Stands given = λ s. among_given given s ≡ Ok s

stands-input : (ports : List PortBit) (s : Stimulus) (port : PortBit) (b : Bool) → find (is_named s.name) ports ≡ Some port → port.input ≡ b → IfOk (cond b (Ok s) (Err NotInput)) (Stands (Some ports))
stands-input ports s port true e input = ap (λ o. first_of o s) e ∙ rw input refl
stands-input ports s port false e input = tt

stands-found : (ports : List PortBit) (s : Stimulus) (found : Option PortBit) → find (is_named s.name) ports ≡ found → IfOk (first_of found s) (Stands (Some ports))
stands-found ports s None e = tt
stands-found ports s (Some port) e = stands-input ports s port port.input e refl

stands : (given : Option (List PortBit)) (s : Stimulus) → IfOk (among_given given s) (Stands given)
stands None s = refl
stands (Some ports) s = stands-found ports s (find (is_named s.name) ports) refl

same-input : (s t : Stimulus) (b : Bool) → cond b (Ok s) (Err NotInput) ≡ Ok t → s ≡ t
same-input s t true e = cc
same-input s t false e = absurd (cc)

same-found : (s t : Stimulus) (found : Option PortBit) → first_of found s ≡ Ok t → s ≡ t
same-found s t None e = absurd (cc)
same-found s t (Some port) e = same-input s t port.input e

-- the tests change nothing of what a line says
same : (given : Option (List PortBit)) (s t : Stimulus) → among_given given s ≡ Ok t → s ≡ t
same None s t e = cc
same (Some ports) s t e = same-found s t (find (is_named s.name) ports) e

abbrev Follows : Option (List PortBit) → ℕ → Stimulus → Type 0
Follows given latest = λ s. IsAfter latest s × Stands given s

follows : (given : Option (List PortBit)) (latest : ℕ) (s : Stimulus) (r : Result Stimulus StimWhy) → among_given given s ≡ r → IsAfter latest s → IfOk r (Follows given latest)
follows given latest s (Ok t) e h = (subst (IsAfter latest) (same given s t e) h, at-ok (Stands given) (among_given given s) t e (stands given s))
follows given latest s (Err why) e h = tt

of-next : (given : Option (List PortBit)) (latest : ℕ) (fields : List (List ℕ)) → IfOk (stimulus_for given latest fields) (Follows given latest)
of-next given latest fields = bind-if (Follows given latest) (stimulus_after latest fields) _ (λ s e. follows given latest s (among_given given s) refl (at-ok (IsAfter latest) (stimulus_after latest fields) s e (of-after latest fields)))

-- the times do not fall, and none is too large
abbrev Rising : Option (List PortBit) → ℕ → List Stimulus → Type 0
Rising given latest [] = Unit {0}
Rising given latest (s ∷ ss) = Follows given latest s × Rising given s.time ss

rising : (given : Option (List PortBit)) (lines : List (List ℕ)) (number latest : ℕ) → IfOk (stimuli_from given number latest lines) (Rising given latest)
rising given [] number latest = tt
rising given (line ∷ lines) number latest = cond_both (is_passed_over line) _ _ (λ r. IfOk r (Rising given latest))
    (λ _. rising given lines (number + 1) latest)
    (λ _. bind-if (Rising given latest) (on_line number (stimulus_for given latest (fields_of line))) _ (λ first e. bind-if (Rising given latest) (stimuli_from given (number + 1) first.time lines) _ (λ others more. (at-ok (Follows given latest) _ first e (on_line-if (Follows given latest) number _ (of-next given latest (fields_of line))), at-ok (Rising given first.time) _ others more (rising given lines (number + 1) first.time)))))

-- what holds of all stimuli with rising times holds of those that are read
stim-if : (P : Stimuli → Type 0) (given : Option (List PortBit)) → ((ss : List Stimulus) → Rising given 0 ss → P (with_ports given ss)) → (text : List ℕ) → IfOk (stim text given) P
stim-if P given k text = bind-if P (stimuli_from given 1 0 (lines_of text)) _ (λ ss e. k ss (at-ok (Rising given 0) _ ss e (rising given (lines_of text) 1 0)))

-- ---- the port of each line is there and is an input
record FindsInput (ports : List PortBit) (s : Stimulus) : Type 0 where
  there : list_any (is_named s.name) ports ≡ true
  input : IfSome (find (is_named s.name) ports) (λ port. port.input ≡ true)

abbrev FindInputs : List PortBit → List Stimulus → Type 0
FindInputs ports [] = Unit {0}
FindInputs ports (s ∷ ss) = FindsInput ports s × FindInputs ports ss

all-inputs : (p : PortBit → Bool) (names : List (List ℕ)) → IfSome (find p (map input_port names)) (λ port. port.input ≡ true)
all-inputs p [] = tt
all-inputs p (name ∷ names) = cond_both (p (input_port name)) _ _ (λ o. IfSome o (λ port. port.input ≡ true)) (λ _. refl) (λ _. all-inputs p names)

inputs-named : (names : List (List ℕ)) (ss : List Stimulus) → AreNamed (map input_port names) ss → FindInputs (map input_port names) ss
inputs-named names [] h = tt
inputs-named names (s ∷ ss) h = (record { there = h.0; input = all-inputs (is_named s.name) names }, inputs-named names ss h.1)

is_input : (s : Stimulus) (b : Bool) → cond b (Ok s) (Err NotInput) ≡ Ok s → b ≡ true
is_input s true e = refl
is_input s false e = absurd (cc)

input-found : (s : Stimulus) (found : Option PortBit) → first_of found s ≡ Ok s → IfSome found (λ port. port.input ≡ true)
input-found s None e = tt
input-found s (Some port) e = is_input s port.input e

inputs-given : (ports : List PortBit) (ss : List Stimulus) (latest : ℕ) → Rising (Some ports) latest ss → FindInputs ports ss
inputs-given ports [] latest k = tt
inputs-given ports (s ∷ ss) latest k = (record { there = is_there ports s k.0.1; input = input-found s (find (is_named s.name) ports) k.0.1 }, inputs-given ports ss s.time k.1)

inputs : (given : Option (List PortBit)) (ss : List Stimulus) → Rising given 0 ss → FindInputs (ports_for given ss) ss
inputs None ss k = inputs-named (names_in ss) ss (are_named ss)
inputs (Some ports) ss k = inputs-given ports ss 0 k

fits-each : (found : Stimuli) (given : Option (List PortBit)) (ss : List Stimulus) (latest : ℕ) → FindInputs found.ports ss → Rising given latest ss → AllByRecursion (λ s. Fits found (line_among found.ports s)) ss
fits-each found given [] latest h k = tt
fits-each found given (s ∷ ss) latest h k =
    let there = ltb-true _ _ (sym (any-lt (is_named s.name) found.ports) ∙ h.0.there) in
    let input = subst (λ o. IfSome o (λ (port : PortBit). port.input ≡ true)) (find_at (is_named s.name) found.ports) h.0.input in
    (record { there = there; input = input; in_time = k.0.0.1 }, fits-each found given ss s.time h.1 k.1)

pub all-fit : (text : List ℕ) (given : Option (List PortBit)) → IfOk (stim text given) (λ found. All (Fits found) found.lines)
all-fit text given = stim-if (λ found. All (Fits found) found.lines) given (λ ss k. All-map (Fits (with_ports given ss)) (line_among (ports_for given ss)) ss (All-from_recursion _ ss (fits-each (with_ports given ss) given ss 0 (inputs given ss k) k))) text

-- ---- given ports are the ports
pub all-given : (text : List ℕ) (ports : Option (Bor (List PortBit))) → IfOk (stim text (lent ports)) (λ found. IfSome ports (λ given. found.ports ≡ given.now))
all-given text None = stim-if (λ found. Unit {0}) None (λ ss k. tt) text
all-given text (Some given) = stim-if (λ found. found.ports ≡ given.now) (Some given.now) (λ ss k. refl) text

-- ---- ports that lines name are inputs
abbrev AreInputs : Option (Bor (List PortBit)) → Stimuli → Type 0
AreInputs ports found = ports ≡ None → All (λ port. port.input ≡ true) found.ports

pub all-named : (text : List ℕ) (ports : Option (Bor (List PortBit))) → IfOk (stim text (lent ports)) (AreInputs ports)
all-named text None = stim-if (AreInputs None) None (λ ss k e. All-map (λ port. port.input ≡ true) input_port (names_in ss) (λ i d lt. refl)) text
all-named text (Some given) = stim-if (AreInputs (Some given)) (Some given.now) (λ ss k e. absurd (cc)) text

-- ---- the times in order
later : (given : Option (List PortBit)) (low : ℕ) (ss : List Stimulus) → Rising given low ss → (j : ℕ) (d : ℕ) → j < length (map (λ s. s.time) ss) → low ≤ get_or (map (λ s. s.time) ss) j d
later given low [] k j d lt = absurd (omega arith)
later given low (s ∷ ss) k zero d lt = k.0.0.0
later given low (s ∷ ss) k (suc j) d lt =
    let more = later given s.time ss k.1 j d (omega arith) in
    omega (arith, k.0.0.0, more)

ordered : (given : Option (List PortBit)) (low : ℕ) (ss : List Stimulus) → Rising given low ss → IsNonDecreasing (map (λ s. s.time) ss)
ordered given low [] k i j d le lt = absurd (omega arith)
ordered given low (s ∷ ss) k zero zero d le lt = omega arith
ordered given low (s ∷ ss) k zero (suc j) d le lt = later given s.time ss k.1 j d (omega arith)
ordered given low (s ∷ ss) k (suc i) zero d le lt = absurd (omega arith)
ordered given low (s ∷ ss) k (suc i) (suc j) d le lt = ordered given s.time ss k.1 i j d (omega arith) (omega arith)

pub all-in_order : (text : List ℕ) (given : Option (List PortBit)) → IfOk (stim text given) (λ found. IsNonDecreasing (map (λ line. line.time) found.lines))
all-in_order text given = stim-if (λ found. IsNonDecreasing (map (λ line. line.time) found.lines)) given (λ ss k. rw (map-map (λ line. line.time) (line_among (ports_for given ss)) ss) (ordered given 0 ss k)) text

-- ---- the ports are few: there are no more of them than lines
weaken-if : (r : Result (List Stimulus) StimFault) (n : ℕ) → IfOk r (λ ss. length ss ≤ n) → IfOk r (λ ss. length ss ≤ suc n)
weaken-if (Ok ss) n h = omega arith
weaken-if (Err fault) n h = tt

no-more : (given : Option (List PortBit)) (lines : List (List ℕ)) (number latest : ℕ) → IfOk (stimuli_from given number latest lines) (λ ss. length ss ≤ length lines)
no-more given [] number latest = omega arith
no-more given (line ∷ lines) number latest =
    let fits : List Stimulus → Type 0 = λ ss. length ss ≤ suc (length lines) in
    let kept : List Stimulus → Type 0 = λ ss. length ss ≤ length lines in
    cond_both (is_passed_over line) _ _ (λ r. IfOk r fits)
    (λ _. weaken-if (stimuli_from given (number + 1) latest lines) (length lines) (no-more given lines (number + 1) latest))
    (λ _. bind-if fits (on_line number (stimulus_for given latest (fields_of line))) _ (λ first e. bind-if fits (stimuli_from given (number + 1) first.time lines) _ (λ others more. let n = at-ok kept _ others more (no-more given lines (number + 1) first.time) in omega (arith, n))))

first_sights-le : (names : List (List ℕ)) → length (first_sights names) ≤ length names
first_sights-le [] = omega arith
first_sights-le (name ∷ names) =
    let left : List ℕ → Bool = λ other. not (bytes_eq name other) in
    omega (arith, first_sights-le names, length-filter left (first_sights names), count_by-le-length left (first_sights names))

few-named : (text : List ℕ) → length text ≤ 16_777_216 → IfOk (stim text None) (λ found. length found.ports < 2 ^ 32)
few-named text short = bind-if (λ found. length found.ports < 2 ^ 32) (stimuli_from None 1 0 (lines_of text)) _ (λ ss e.
    let read = at-ok (λ v. length v ≤ length (lines_of text)) _ ss e (no-more None (lines_of text) 1 0) in
    omega (arith, read, short, length-slice_split is_line_end text, count_by-le-length is_line_end text, first_sights-le (map (λ s. s.name) ss), length-map ss (λ s. s.name), length-map (names_in ss) input_port))

pub all-few : (text : List ℕ) (ports : Option (Bor (List PortBit))) → length text ≤ 16_777_216 → IfSome ports (λ given. length given.now < 2 ^ 32) → IfOk (stim text (lent ports)) (λ found. length found.ports < 2 ^ 32)
all-few text None short few = few-named text short
all-few text (Some given) short few = stim-if (λ found. length found.ports < 2 ^ 32) (Some given.now) (λ ss k. few) text
