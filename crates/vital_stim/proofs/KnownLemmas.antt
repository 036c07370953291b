-- Ports that are known, with one more.
use Rattle.std.proofs.Common.{◌≡◌, ℕ, true, false, List, [], ◌∷◌, ◌++◌, map, refl, sym, ◌∙◌, ap, Result, Ok, Err}
use Rattle.std.specs.Prelude.{Bool, cond, ◌||◌, find, Option, Some, None, OnOk, if◌then◌else◌}
use Rattle.std.specs.List.{position_or_len, list_any}
use Rattle.std.specs.Option.{ok_or}
use Rattle.std.specs.Str.{bytes_eq}
use Rattle.std.proofs.lemmas.List.{map-append}
use Rattle.vital_base.specs.declared.ports.PortBit.{PortBit}
use Rattle.vital_logic.specs.declared.level.Level.TheVariants.{U}
use Rattle.vital_stim.specs.KnownPorts.{with_port, as_told}
use Rattle.vital_stim.specs.Names.{with_name}
use Rattle.vital_stim.specs.Stimuli.{◌>>=◌, Stimulus, is_named, input_port, among_given, ports_for, names_in}
use Rattle.vital_stim.specs.declared.fault.StimWhy.{StimWhy}
use Rattle.vital_stim.specs.declared.fault.StimWhy.TheVariants.{UnknownPort, NotInput}
use Rattle.vital_stim.proofs.NameLemmas.{AreAmong, are_among}
use Rattle.vital_stim.proofs.Positions.{list_any-map, position_or_len-map}

-- ---- ports that are known by their names alone
pub any-named : (name : List ℕ) (names : List (List ℕ)) → list_any (is_named name) (map input_port names) ≡ list_any (bytes_eq name) names
any-named name names = list_any-map input_port (is_named name) names

pub place-named : (name : List ℕ) (names : List (List ℕ)) → position_or_len (is_named name) (map input_port names) ≡ position_or_len (bytes_eq name) names
place-named name names = position_or_len-map input_port (is_named name) names

with_name-step : (names : List (List ℕ)) (name : List ℕ) (b : Bool) → map input_port (cond b names (names ++ name ∷ [])) ≡ cond b (map input_port names) (map input_port names ++ input_port name ∷ [])
with_name-step names name true = refl
with_name-step names name false = map-append input_port names (name ∷ [])

pub with_port-named : (names : List (List ℕ)) (name : List ℕ) → map input_port (with_name names name) ≡ with_port (map input_port names) name
with_port-named names name = rw any-named (with_name-step names name (list_any (bytes_eq name) names))

-- what is told of the port that was found
abbrev pub first_of : Option PortBit → Stimulus → Result Stimulus StimWhy
first_of found stimulus = ok_or found UnknownPort >>= λ (port : PortBit). if port.input then Ok stimulus else Err NotInput

-- ---- a stimulus that stands has its port among the given ones
none-step : (p : PortBit → Bool) (port : PortBit) (ports : List PortBit) (b : Bool) → (list_any p ports ≡ false → find p ports ≡ None) → (b || list_any p ports) ≡ false → cond b (Some port) (find p ports) ≡ None
none-step p port ports true more h = absurd (cc)
none-step p port ports false more h = more h

none-found : (p : PortBit → Bool) (ports : List PortBit) → list_any p ports ≡ false → find p ports ≡ None
none-found p [] h = refl
none-found p (port ∷ ports) h = none-step p port ports (p port) (none-found p ports) h

there-step : (ports : List PortBit) (s : Stimulus) (b : Bool) → list_any (is_named s.name) ports ≡ b → among_given (Some ports) s ≡ Ok s → b ≡ true
there-step ports s true e h = refl
there-step ports s false e h =
    let none : first_of None s ≡ Ok s = sym (ap (λ o. first_of o s) (none-found (is_named s.name) ports e)) ∙ h in
    absurd (cc)

pub is_there : (ports : List PortBit) (s : Stimulus) → among_given (Some ports) s ≡ Ok s → list_any (is_named s.name) ports ≡ true
is_there ports s h = there-step ports s (list_any (is_named s.name) ports) refl h

pub with_port-there : (ports : List PortBit) (name : List ℕ) → list_any (is_named name) ports ≡ true → with_port ports name ≡ ports
with_port-there ports name h = rw h refl

-- ---- each stimulus has its port among these
abbrev pub AreNamed : List PortBit → List Stimulus → Type 0
AreNamed ports [] = Unit {0}
AreNamed ports (s ∷ ss) = (list_any (is_named s.name) ports ≡ true) × AreNamed ports ss

named-by_names : (names : List (List ℕ)) (ss : List Stimulus) → AreAmong (map (λ s. s.name) ss) names → AreNamed (map input_port names) ss
named-by_names names [] h = tt
named-by_names names (s ∷ ss) h = (any-named s.name names ∙ h.0, named-by_names names ss h.1)

pub are_named : (ss : List Stimulus) → AreNamed (ports_for None ss) ss
are_named ss = named-by_names (names_in ss) ss (are_among (map (λ s. s.name) ss))

-- ---- given ports stay
abbrev any_stimulus : List ℕ → Stimulus
any_stimulus name = record { time = 0; name = name; value = U }

pub given-stay : (told : Result ℕ StimWhy) (ports : List PortBit) (name : List ℕ) → ((s : Stimulus) → s.name ≡ name → as_told s told ≡ among_given (Some ports) s) → OnOk told (ports ≡ with_port ports name)
given-stay (Ok number) ports name h = sym (with_port-there ports name (is_there ports (any_stimulus name) (sym (h (any_stimulus name) refl))))
given-stay (Err why) ports name h = tt
