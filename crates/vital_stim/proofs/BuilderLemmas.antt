-- A builder that holds stimuli, with one more.
use Rattle.std.proofs.Common.{◌≡◌, ℕ, true, false, List, [], ◌∷◌, ◌++◌, map, refl, sym, ◌∙◌, ap, Ok}
use Rattle.std.specs.Prelude.{Bool, cond, Option, Some, None}
use Rattle.std.specs.List.{position_or_len, list_any}
use Rattle.std.proofs.lemmas.Bool.{or_left, or_right}
use Rattle.std.proofs.lemmas.List.{map-append}
use Rattle.vital_base.specs.declared.ports.PortBit.{PortBit}
use Rattle.vital_stim.specs.Builder.{Holds}
use Rattle.vital_stim.specs.KnownPorts.{given_in, ports_in, with_port}
use Rattle.vital_stim.specs.Names.{with_name}
use Rattle.vital_stim.specs.Spellings.{Remembers}
use Rattle.vital_stim.specs.declared.builder.StimuliBuilder.{StimuliBuilder}
use Rattle.vital_stim.specs.Stimuli.{Stimulus, first_sights, names_in, is_named, input_port, among_given, ports_for, line_among}
use Rattle.vital_stim.proofs.KnownLemmas.{AreNamed, are_named, is_there, with_port-named, with_port-there}
use Rattle.vital_stim.proofs.NameLemmas.{bytes_eq-same, first_sights-push}
use Rattle.vital_stim.proofs.Positions.{position-stays}

abbrev name_of : Stimulus → List ℕ
name_of = λ stimulus. stimulus.name

-- a line keeps its port
lines-stay : (stimuli : List Stimulus) (ports : List PortBit) (last : PortBit) → AreNamed ports stimuli → map (line_among (ports ++ last ∷ [])) stimuli ≡ map (line_among ports) stimuli
lines-stay [] ports last h = refl
lines-stay (s ∷ ss) ports last h =
    let same : line_among (ports ++ last ∷ []) s ≡ line_among ports s = ap (λ place. record { time = s.time; port = place; value = s.value }) (position-stays (is_named s.name) ports last (or_left _ _ h.0)) in
    rw same (ap (λ more. line_among ports s ∷ more) (lines-stay ss ports last h.1))

last-stays : (s : Stimulus) (ports : List PortBit) → line_among (ports ++ input_port s.name ∷ []) s ≡ line_among ports s
last-stays s ports = ap (λ place. record { time = s.time; port = place; value = s.value }) (position-stays (is_named s.name) ports (input_port s.name) (or_right _ _ (bytes_eq-same s.name)))

lines-push : (stimuli : List Stimulus) (s : Stimulus) (ports : List PortBit) (b : Bool) → AreNamed ports stimuli → map (line_among (cond b ports (ports ++ input_port s.name ∷ []))) (stimuli ++ s ∷ []) ≡ map (line_among ports) stimuli ++ line_among ports s ∷ []
lines-push stimuli s ports true h = map-append (line_among ports) stimuli (s ∷ [])
lines-push stimuli s ports false h =
    map-append (line_among (ports ++ input_port s.name ∷ [])) stimuli (s ∷ [])
    ∙ rw (last-stays, lines-stay stimuli ports (input_port s.name) h) refl

-- with one more
names-push : (stimuli : List Stimulus) (s : Stimulus) → names_in (stimuli ++ s ∷ []) ≡ with_name (names_in stimuli) s.name
names-push stimuli s = ap first_sights (map-append name_of stimuli (s ∷ [])) ∙ first_sights-push (map name_of stimuli) s.name

ports-push : (given : Option (List PortBit)) (stimuli : List Stimulus) (s : Stimulus) → among_given given s ≡ Ok s → ports_for given (stimuli ++ s ∷ []) ≡ with_port (ports_for given stimuli) s.name
ports-push None stimuli s h = ap (map input_port) (names-push stimuli s) ∙ with_port-named (names_in stimuli) s.name
ports-push (Some ports) stimuli s h = sym (with_port-there ports s.name (is_there ports s h))

lines_for-push : (given : Option (List PortBit)) (stimuli : List Stimulus) (s : Stimulus) → among_given given s ≡ Ok s → map (line_among (ports_for given (stimuli ++ s ∷ []))) (stimuli ++ s ∷ []) ≡ map (line_among (ports_for given stimuli)) stimuli ++ line_among (ports_for given stimuli) s ∷ []
lines_for-push None stimuli s h =
    ap (λ ports. map (line_among ports) (stimuli ++ s ∷ [])) (ports-push None stimuli s h)
    ∙ lines-push stimuli s (ports_for None stimuli) (list_any (is_named s.name) (ports_for None stimuli)) (are_named stimuli)
lines_for-push (Some ports) stimuli s h = map-append (line_among ports) stimuli (s ∷ [])

pub holds-push : (given : Option (List PortBit)) (old new : StimuliBuilder) (stimuli : List Stimulus) (s : Stimulus) (place : ℕ) → Holds given old stimuli → among_given given s ≡ Ok s → given_in new.ports ≡ given_in old.ports → ports_in new.ports ≡ with_port (ports_in old.ports) s.name → place ≡ position_or_len (is_named s.name) (ports_in old.ports) → new.lines.items ≡ old.lines.items ++ record { time = s.time; port = place; value = s.value } ∷ [] → Remembers given (ports_in new.ports) new.spellings → Holds given new (stimuli ++ s ∷ [])
holds-push given old new stimuli s place held stands same ports at lines spellings =
    let known : with_port (ports_in old.ports) s.name ≡ with_port (ports_for given stimuli) s.name = ap (λ ps. with_port ps s.name) held.ports in
    let here : place ≡ position_or_len (is_named s.name) (ports_for given stimuli) = at ∙ ap (position_or_len (is_named s.name)) held.ports in
    record {
      known = same ∙ held.known;
      ports = ports ∙ known ∙ sym (ports-push given stimuli s stands);
      lines = lines ∙ rw (held.lines, here) (sym (lines_for-push given stimuli s stands));
      spellings = spellings;
    }
