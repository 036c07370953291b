-- The ports and signals of a netlist unit without a fault: first one for each port, of its shape, and then those that are declared.
use Rattle.std.proofs.Common.{◌≡◌, ℕ, zero, suc, List, [], ◌∷◌, ◌++◌, map, take, length, true, false, refl, sym, ap, subst, ◌∙◌}
use Rattle.std.specs.Prelude.{⊤, Bool, ◌||◌, Option, Some, None}
use Rattle.std.specs.List.{AllByRecursion, AllZip, cons_option, list_any}
use Rattle.std.specs.Option.{option_and_then, option_map, option_or}
use Rattle.std.specs.Str.{bytes_eq}
use Rattle.vital_associations.specs.Formals as formals
use Rattle.vital_connections.specs.Objects.{Object, object_of_signal, shape_at}
use Rattle.vital_declarations.specs.Types.{DeclaredType, type_of}
use Rattle.vital_declarations.specs.Types as types
use Rattle.vital_logic.specs.declared.level.Level.{Level}
use Rattle.vital_names.specs.declared.predeclared.TypeName.TheVariants as type
use Rattle.vital_nodes.specs.declared.decl.Iface.{Iface}
use Rattle.vital_nodes.specs.declared.decl.Mode.{Mode}
use Rattle.vital_nodes.specs.declared.decl.Subtype.{Subtype}
use Rattle.vital_nodes.specs.declared.expr.Expr.{Expr}
use Rattle.vital_nodes.specs.declared.identifier.Identifier.{Identifier}
use Rattle.vital_structure.specs.Contents.{Content, content_of_port, signal_content, signal_in, signals_in}
use Rattle.vital_structure.specs.Contents as content
use Rattle.vital_structure.specs.Faults.{UnitFault, declares, fault_of, fault_of_signal, first_fault_behind, is_declared}
use Rattle.vital_structure.specs.Shapes.{Shape, Scalar, shape_in, shape_of_port}
use Rattle.vital_structure.specs.Signals.{SignalType, UnitSignal, default_in, port_signal, signal_of, signal_type, signal_with}
use Rattle.vital_typed_cells.proofs.Apart.{AreApart}
use Rattle.vital_netlist.proofs.Lists.{each-map, each-weaker}

-- ---- one port or signal

shape-of : Option SignalType → Shape
shape-of None = Scalar
shape-of (Some t) = t.shape

signal-shaped : (t : DeclaredType) (s : SignalType) → signal_type t ≡ Some s → s.shape ≡ shape_in t
unfolding shape-of
signal-shaped (types.Plain type.StdUlogic) s is = sym (ap shape-of is)
signal-shaped (types.Plain type.StdLogic) s is = sym (ap shape-of is)
signal-shaped (types.Vector r) s is = sym (ap shape-of is)
signal-shaped t s is = absurd (cc)

-- what is kept of what is declared: its shape, its mode and its identifier
pub record IsKept (identifier : Identifier) (mode : Option Mode) (shape : Shape) (s : UnitSignal) : Type 0 where
  pub shaped : s.shape ≡ shape
  pub has_mode : s.mode ≡ mode
  pub named : s.identifier ≡ identifier

by-default : (identifier : Identifier) (mode : Option Mode) (t : SignalType) (s : UnitSignal) (o : Option (Option Level)) → option_map (λ level. record { identifier = identifier; mode = mode; shape = t.shape; is_resolved = t.is_resolved; default = level }) o ≡ Some s → IsKept identifier mode t.shape s
by-default identifier mode t s None e = absurd (cc)
by-default identifier mode t s (Some level) e =
    let made : UnitSignal = record { identifier = identifier; mode = mode; shape = t.shape; is_resolved = t.is_resolved; default = level } in
    let same : made ≡ s = cc in
    let kept : IsKept identifier mode t.shape made = record { shaped = refl; has_mode = refl; named = refl } in
    subst (IsKept identifier mode t.shape) same kept

by-type : (identifier : Identifier) (mode : Option Mode) (default : Option Expr) (d : DeclaredType) (s : UnitSignal) (o : Option SignalType) → signal_type d ≡ o → option_and_then (signal_with identifier mode default) o ≡ Some s → IsKept identifier mode (shape_in d) s
by-type identifier mode default d s None is e = absurd (cc)
by-type identifier mode default d s (Some t) is e =
    subst (λ (shape : Shape). IsKept identifier mode shape s) (signal-shaped d t is) (by-default identifier mode t s (default_in t.shape default) e)

pub signal-kept : (identifier : Identifier) (mode : Option Mode) (subtype : Subtype) (default : Option Expr) (s : UnitSignal) → signal_of identifier mode subtype default ≡ Some s → IsKept identifier mode (shape_in (type_of subtype)) s
signal-kept identifier mode subtype default s e = by-type identifier mode default (type_of subtype) s (signal_type (type_of subtype)) refl e

-- ---- contents without a fault

abbrev pub IsGood : Content → Type 0
IsGood (content.Signal s) = ⊤
IsGood (content.WrongType i) = ⊥
IsGood (content.NotStructural place) = ⊥
IsGood content.Nothing = ⊤

none-both : (a b : Option UnitFault) → option_or a b ≡ None → (a ≡ None) × (b ≡ None)
none-both None b is = (refl, is)
none-both (Some f) b is = absurd (cc)

good-content : (earlier : List ℕ → Bool) (c : Content) → fault_of earlier c ≡ None → IsGood c
good-content earlier (content.Signal s) e = tt
good-content earlier (content.WrongType i) e = absurd (cc)
good-content earlier (content.NotStructural place) e = absurd (cc)
good-content earlier content.Nothing e = tt

pub no-faults : (earlier cs : List Content) → first_fault_behind earlier cs ≡ None → AllByRecursion IsGood cs
no-faults earlier [] e = tt
no-faults earlier (c ∷ others) e =
    let both = none-both (fault_of (is_declared earlier) c) (first_fault_behind (earlier ++ c ∷ []) others) e in
    (good-content (is_declared earlier) c both.0, no-faults (earlier ++ c ∷ []) others both.1)

-- ---- one for each port

abbrev pub IsSignalOf : Iface → UnitSignal → Type 0
IsSignalOf p s = IsKept p.identifier (Some p.parts.mode) (shape_of_port p) s

pub record PortSignals (ports : List Iface) (rest : List Content) : Type 0 where
  pub signals : List UnitSignal
  pub each : AllZip IsSignalOf ports signals
  pub are : signals_in (map content_of_port ports ++ rest) ≡ signals ++ signals_in rest

with-port : (p : Iface) (ports : List Iface) (rest : List Content) (o : Option UnitSignal) → port_signal p ≡ o → IsGood (signal_content p.identifier o) → PortSignals ports rest → PortSignals (p ∷ ports) rest
with-port p ports rest None is good r = absurd good
with-port p ports rest (Some s) is good r = record {
  signals = s ∷ r.signals;
  each = (signal-kept p.identifier (Some p.parts.mode) p.parts.subtype p.parts.default s is, r.each);
  are = ap (λ (o : Option UnitSignal). cons_option (signal_in (signal_content p.identifier o)) (signals_in (map content_of_port ports ++ rest))) is
      ∙ ap (λ (l : List UnitSignal). s ∷ l) r.are;
}

pub port-signals : (ports : List Iface) (rest : List Content) → AllByRecursion IsGood (map content_of_port ports ++ rest) → PortSignals ports rest
port-signals [] rest good = record { signals = []; each = tt; are = refl }
port-signals (p ∷ ports) rest good = with-port p ports rest (port_signal p) refl good.0 (port-signals ports rest good.1)

-- ---- the shapes of ports

pub ports-shaped : (ports : List Iface) (ss : List UnitSignal) (rest : List Object) (n : ℕ) → AllZip IsSignalOf ports ss → shape_at (take (length ports) (map object_of_signal ss ++ rest)) n ≡ formals.shape_at ports n
ports-shaped [] [] rest n each = refl
ports-shaped [] (s ∷ ss) rest n each = absurd each
ports-shaped (p ∷ ports) [] rest n each = absurd each
ports-shaped (p ∷ ports) (s ∷ ss) rest zero each = each.0.shaped
ports-shaped (p ∷ ports) (s ∷ ss) rest (suc n) each = ports-shaped ports ss rest n each.1

-- ---- names that differ

or-none : (b : Bool) → (b || false) ≡ false → b ≡ false
or-none true h = absurd (cc)
or-none false h = refl

any-split : (test : Content → Bool) (cs : List Content) (c : Content) → list_any test (cs ++ c ∷ []) ≡ false → (list_any test cs ≡ false) × (test c ≡ false)
any-split test [] c e = (refl, or-none (test c) e)
any-split test (d ∷ cs) c e = by-first (test d) e (any-split test cs c)
  where
    by-first : (b : Bool) → (b || list_any test (cs ++ c ∷ [])) ≡ false → (list_any test (cs ++ c ∷ []) ≡ false → (list_any test cs ≡ false) × (test c ≡ false)) → ((b || list_any test cs) ≡ false) × (test c ≡ false)
    by-first true h rest = absurd (cc)
    by-first false h rest = rest h

abbrev IsNew : List Content → UnitSignal → Type 0
IsNew earlier s = is_declared earlier s.identifier.name ≡ false

abbrev pub names : List UnitSignal → List (List ℕ)
names ss = map (λ s. s.identifier.name) ss

not-twice : (b : Bool) (s : UnitSignal) → fault_of_signal b s ≡ None → b ≡ false
not-twice true s e = absurd (cc)
not-twice false s e = refl

earlier-new : (earlier : List Content) (c : Content) (ss : List UnitSignal) → AllByRecursion (IsNew (earlier ++ c ∷ [])) ss → AllByRecursion (IsNew earlier) ss
earlier-new earlier c ss new =
    each-weaker (IsNew (earlier ++ c ∷ [])) (IsNew earlier) (λ s is. (any-split (λ d. declares d s.identifier.name) earlier c is).0) ss new

with-content : (earlier : List Content) (c : Content) (ss : List UnitSignal) → fault_of (is_declared earlier) c ≡ None → AllByRecursion (IsNew (earlier ++ c ∷ [])) ss → AreApart bytes_eq (names ss) → AllByRecursion (IsNew earlier) (cons_option (signal_in c) ss) × AreApart bytes_eq (names (cons_option (signal_in c) ss))
with-content earlier (content.Signal s) ss e new apart = (
  (not-twice (is_declared earlier s.identifier.name) s e, earlier-new earlier (content.Signal s) ss new),
  (
    each-map (λ n. bytes_eq s.identifier.name n ≡ false) (λ t. t.identifier.name) ss
        (each-weaker (IsNew (earlier ++ content.Signal s ∷ [])) (λ t. bytes_eq s.identifier.name t.identifier.name ≡ false)
        (λ t is. (any-split (λ d. declares d t.identifier.name) earlier (content.Signal s) is).1) ss new),
    apart,
  ),
)
with-content earlier (content.WrongType i) ss e new apart = (earlier-new earlier (content.WrongType i) ss new, apart)
with-content earlier (content.NotStructural place) ss e new apart = (earlier-new earlier (content.NotStructural place) ss new, apart)
with-content earlier content.Nothing ss e new apart = (earlier-new earlier content.Nothing ss new, apart)

names-behind : (earlier cs : List Content) → first_fault_behind earlier cs ≡ None → AllByRecursion (IsNew earlier) (signals_in cs) × AreApart bytes_eq (names (signals_in cs))
names-behind earlier [] e = (tt, tt)
names-behind earlier (c ∷ others) e =
    let both = none-both (fault_of (is_declared earlier) c) (first_fault_behind (earlier ++ c ∷ []) others) e in
    let rest = names-behind (earlier ++ c ∷ []) others both.1 in
    with-content earlier c (signals_in others) both.0 rest.0 rest.1

pub names-apart : (cs : List Content) → first_fault_behind [] cs ≡ None → AreApart bytes_eq (names (signals_in cs))
names-apart cs e = (names-behind [] cs e).1
