-- The names of timing generics are spelled as their parts are.
use Rattle.std.proofs.Common.{◌≡◌, ℕ, ◌+◌, ◌-◌, Bool, true, List, [], ◌∷◌, ◌++◌, Option, Some, None, take, drop, length, slice_get, refl, sym, ap, ◌∙◌, append-nil, append_assoc, arith}
use Rattle.std.proofs.Math.Seq.{drop-append-add, take-append_seam}
use Rattle.std.proofs.lemmas.List.Elements.{All-cons, All-nil}
use Rattle.std.proofs.lemmas.List.Quantifiers.{position-Some}
use Rattle.std.proofs.lemmas.Option.{get_or_from_slice_get, slice_get-map}
use Rattle.std.proofs.lemmas.Slice.Eq.{bytes_eq-Decides}
use Rattle.std.specs.Prelude.{All, IfSome, if◌then◌else◌}
use Rattle.std.specs.List.{cons_option, filter_map, flat_map}
use Rattle.std.specs.Option.{option_and_then, option_map}
use Rattle.std.specs.Str.{bytes_eq}
use Rattle.vital_base.specs.declared.place.Place.{Place}
use Rattle.vital_level0.specs.declared.parts.Parts.{Parts}
use Rattle.vital_level0.specs.Prefixes.{edge_text, is_in, may_have_condition, second_port, underscore, word_of}
use Rattle.vital_level0.specs.Split.{IsCondition, IsPortText, IsSecond, IsSplit}
use Rattle.vital_level0.proofs.SplitLemmas.{sound}
use Rattle.vital_names.specs.Sites.{Cell}
use Rattle.vital_nodes.specs.declared.decl.Iface.{Iface}
use Rattle.vital_nodes.specs.declared.decl.Mode.{Mode}
use Rattle.vital_objects.specs.declared.generic.TimingGeneric.{TimingGeneric}
use Rattle.vital_objects.specs.declared.package_value.PackageValue.{PackageValue}
use Rattle.vital_objects.specs.declared.port.Port.{Port}
use Rattle.vital_objects.specs.Generics.{default_delay, delay_type, parts, timing_generic, timing_generic_with, timing_generics, timing_of_type}
use Rattle.vital_objects.specs.Ports.{ports}
use Rattle.vital_timing.specs.declared.delay.Delay.{Delay}
use Rattle.vital_timing.specs.declared.delay.DelayType.{DelayType}
use Rattle.vital_uses.specs.Nodes.{sited_interface}
use Rattle.vital_uses.specs.Sited.{Sited}
use Rattle.vital_typed_cells.specs.SpelledNames.{condition_text, if_fitting, port_text, second_text, spelled, spelled_with}
use Rattle.vital_typed_cells.proofs.Interface.{ports-as-declared}

-- ---- ports

-- The mode of a port and its name.
abbrev seen : Port → Mode × List ℕ
seen p = (p.mode, p.name)

abbrev declared : Iface → Mode × List ℕ
declared i = (i.parts.mode, i.identifier.name)

record IsAt (fits : Mode → Bool) (is : List Iface) (n : ℕ) : Type 0 where
  port : Iface
  there : slice_get is n ≡ Some port
  fitting : fits port.parts.mode ≡ true

port-at : (fits : Mode → Bool) (is : List Iface) (n : ℕ) (o : Option Iface) → slice_get is n ≡ o → option_map fits (option_map (λ i. i.parts.mode) o) ≡ Some true → IsAt fits is n
port-at fits is n None there fitting = absurd cc
port-at fits is n (Some i) there fitting = record { port = i; there = there; fitting = cc }

fitted : (fits : Mode → Bool) (o : Option Port) (i : Iface) → option_map seen o ≡ Some (declared i) → fits i.parts.mode ≡ true
    → option_and_then (if_fitting fits) o ≡ Some (underscore ∷ i.identifier.name)
fitted fits None i is fitting = absurd cc
fitted fits (Some p) i is fitting =
    let same : seen p ≡ declared i = cc in
    ap (λ s. if fits s.0 then Some (underscore ∷ s.1) else None) same
    ∙ ap (λ b. if b then Some (underscore ∷ i.identifier.name) else None) fitting

port-spelled : (cell : Cell) (faults : List Place) (fits : Mode → Bool) (text : List ℕ) (n : ℕ) → IsPortText cell.entity.ports fits text n
    → port_text (ports cell faults) fits n ≡ Some text
port-spelled cell faults fits text n x =
    let is = cell.entity.ports in
    let at = port-at fits is n (slice_get is n) refl x.port.fitting in
    let found = position-Some (λ i. bytes_eq i.identifier.name x.part) is n at.port x.port.named in
    let here = get_or_from_slice_get is n at.port at.port at.there in
    let named : at.port.identifier.name ≡ x.part = (bytes_eq-Decides at.port.identifier.name x.part).0 (sym (ap (λ i. bytes_eq i.identifier.name x.part) here) ∙ found.1) in
    let kept : option_map seen (slice_get (ports cell faults) n) ≡ Some (declared at.port) =
    sym (slice_get-map seen (ports cell faults) n) ∙ ap (λ ps. slice_get ps n) (ports-as-declared seen declared (λ default i. refl) cell faults) ∙ slice_get-map declared is n ∙ ap (option_map declared) at.there in
    fitted fits (slice_get (ports cell faults) n) at.port kept at.fitting
    ∙ ap (λ name. Some (underscore ∷ name)) named
    ∙ ap (λ t. Some t) (sym x.spelled)

second-spelled : (cell : Cell) (faults : List Place) (r : Option (Mode → Bool)) (text : List ℕ) (o : Option ℕ) → IsSecond cell.entity.ports r text o
    → second_text (ports cell faults) r o ≡ Some text
second-spelled cell faults None text o x = ap (second_text (ports cell faults) None) x.1 ∙ ap (λ t. Some t) (sym x.0)
second-spelled cell faults (Some fits) text o x =
    ap (second_text (ports cell faults) (Some fits)) x.1 ∙ port-spelled cell faults fits text x.0 x.2

-- ---- the condition

between : (before name after : List ℕ) → take (length name) (drop (length before + 1) (before ++ (underscore ∷ (name ++ after)))) ≡ name
between before name after =
    ap (take (length name)) (drop-append-add before (underscore ∷ (name ++ after)) 1) ∙ take-append_seam name after

condition-spelled : (may : Bool) (before text after whole : List ℕ) (o : Option (ℕ × ℕ)) → whole ≡ before ++ (text ++ after) → IsCondition may (length before) text o
    → condition_text whole o ≡ text
condition-spelled may before text after whole None is x = sym x
condition-spelled may before text after whole (Some range) is x =
    let name = x.1 in
    let long : range.1 - range.0 ≡ length name = ap (λ r. r.1 - r.0) x.3 ∙ omega arith in
    let written : whole ≡ before ++ (underscore ∷ (name ++ after)) = is ∙ ap (λ t. before ++ (t ++ after)) x.2 in
    ap (λ n. underscore ∷ take n (drop range.0 whole)) long
    ∙ ap (λ n. underscore ∷ take (length name) (drop n whole)) (ap (λ r. r.0) x.3)
    ∙ ap (λ w. underscore ∷ take (length name) (drop (length before + 1) w)) written
    ∙ ap (λ n. underscore ∷ n) (between before name after)
    ∙ sym x.2

-- ---- names

pub name-spelled : (cell : Cell) (faults : List Place) (name : List ℕ) (p : Parts) → IsSplit name cell.entity.ports p → spelled (ports cell faults) name p ≡ Some name
name-spelled cell faults name p x =
    let ps = ports cell faults in
    let first = port-spelled cell faults is_in x.first p.first x.first_port in
    let second = second-spelled cell faults (second_port p.kind) x.second p.second x.second_port in
    let front = word_of p.kind ++ x.first ++ x.second in
    let test = edge_text x.test_edge in
    let reference = edge_text x.reference_edge in
    let edges : flat_map edge_text p.edges ≡ test ++ reference = ap (flat_map edge_text) x.edges ∙ ap (λ t. test ++ t) (append-nil reference) in
    let joined : name ≡ (front ++ x.condition) ++ (test ++ reference) = x.spelled ∙ append_assoc (front ++ x.condition) test reference in
    let condition = condition-spelled (may_have_condition p.kind) front x.condition (test ++ reference) name p.condition
    (joined ∙ append_assoc front x.condition (test ++ reference)) x.condition_name in
    ap (λ o. option_and_then (λ f. option_map (spelled_with name p f) (second_text ps (second_port p.kind) p.second)) o) first
    ∙ ap (option_map (spelled_with name p x.first)) second
    ∙ ap (λ t. Some ((front ++ t) ++ flat_map edge_text p.edges)) condition
    ∙ ap (λ t. Some ((front ++ x.condition) ++ t)) edges
    ∙ ap (λ t. Some t) (sym joined)

-- ---- generics

pub put : {B : Type 0} (P : B → Type 0) (o : Option B) (ys : List B) → IfSome o P → All P ys → All P (cons_option o ys)
put P None ys first others = others
put P (Some y) ys first others = All-cons P y ys first others

pub all-taken : {A B : Type 0} (P : B → Type 0) (f : A → Option B) → ((x : A) → IfSome (f x) P) → (xs : List A) → All P (filter_map f xs)
all-taken P f each [] = All-nil P
all-taken P f each (x ∷ xs) = put P (f x) (filter_map f xs) (each x) (all-taken P f each xs)

abbrev IsSpelled : Cell → List Place → TimingGeneric → Type 0
IsSpelled cell faults g = spelled (ports cell faults) g.name g.parts ≡ Some g.name

spelled-by : (cell : Cell) (faults : List Place) (i : Sited Iface) (default : Delay) (o : Option Parts) → parts cell i.declaration ≡ o
    → IfSome (option_map (timing_generic_with i default) o) (IsSpelled cell faults)
spelled-by cell faults i default None is = tt
spelled-by cell faults i default (Some p) is = name-spelled cell faults i.declaration.identifier.name p (sound cell.entity.ports i.declaration.identifier.name p is)

generic-spelled : (cell : Cell) (faults : List Place) (known : List (Option PackageValue)) (i : Sited Iface) (o : Option DelayType)
    → IfSome (option_and_then (timing_of_type cell faults known i) o) (IsSpelled cell faults)
generic-spelled cell faults known i None = tt
generic-spelled cell faults known i (Some d) = spelled-by cell faults i (default_delay cell faults known d i) (parts cell i.declaration) refl

pub generics-spelled : (cell : Cell) (faults : List Place) (known : List (Option PackageValue)) → All (IsSpelled cell faults) (timing_generics cell faults known)
generics-spelled cell faults known =
    all-taken (IsSpelled cell faults) (timing_generic cell faults known) (λ i. generic-spelled cell faults known i (delay_type i.declaration)) (sited_interface cell.entity.generics)
