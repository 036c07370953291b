-- Defaults of generics are sound where what the names in them stand for is in a scope: a word for a type is read by its text.
use Rattle.std.proofs.Common.{◌≡◌, ℕ, Bool, true, false, List, ◌∷◌, [], Option, Some, None, refl, sym, ap, ◌∙◌, subst}
use Rattle.std.specs.Prelude.{cond, codes, is_none, is_some, unwrap_or, ◌&&◌}
use Rattle.std.specs.Option.{option_and_then, option_map, option_map_or, option_or}
use Rattle.std.specs.Str.{bytes_eq}
use Rattle.std.proofs.lemmas.Option.{same_Some}
use Rattle.std.proofs.lemmas.Slice.Eq.{bytes_eq-Decides}
use Rattle.vital_declarations.specs.Types.{Plain, Other, bounded_type, type_of}
use Rattle.vital_expr.specs.Readings.{Context}
use Rattle.vital_level0.specs.declared.default_words.DefaultWord.{DefaultWord}
use Rattle.vital_level0.specs.declared.default_words.DefaultWord.TheVariants as word
use Rattle.vital_level0.specs.DefaultWords.{boolean_word, default_word, word_for, zero_delay, zero_delay_word}
use Rattle.vital_level0.specs.TypeNames.{delay_type, delay_type_named, is_plain}
use Rattle.vital_names.specs.declared.predeclared.TypeName.TheVariants as type
use Rattle.vital_names.specs.Kinds.{as_type}
use Rattle.vital_names.specs.Words.{predeclared}
use Rattle.vital_nodes.specs.declared.decl.Iface.{Iface}
use Rattle.vital_nodes.specs.declared.decl.Subtype.{Subtype}
use Rattle.vital_nodes.specs.declared.identifier.Identifier.{Identifier}
use Rattle.vital_operands.specs.declared.tree.DelayExpr.TheVariants as delay
use Rattle.vital_operands.specs.Named.{even_delay}
use Rattle.vital_timing.specs.declared.delay.DelayType.{DelayType}
use Rattle.vital_timing.specs.declared.delay.DelayType.TheVariants.{One, Two, Six}
use Rattle.vital_typed_declarations.specs.declared.asked_type.AskedType.{AskedType}
use Rattle.vital_typed_declarations.specs.declared.asked_type.AskedType.TheVariants as asked
use Rattle.vital_typed_declarations.specs.declared.value.TypedValue.TheVariants as value
use Rattle.vital_typed_declarations.specs.Asked.{of_generic, of_generic_type}
use Rattle.vital_typed_declarations.specs.Declarations.{generic_value, generic_value_by}
use Rattle.vital_nodes.specs.Bounds.{items_at_end}
use Rattle.vital_nodes.specs.Names.{identifier_of, last_identifier}
use Rattle.vital_typed_cells.proofs.ExprNames.{zero-delay}
use Rattle.vital_typed_cells.proofs.Outcomes.{IfTyped}
use Rattle.vital_typed_cells.proofs.ExprTrees.{sound-truth}
use Rattle.vital_typed_cells.specs.SoundValues.{HasNamesIn, HasTablesIn, ValueScope, is_sound_value, read_default}
use Rattle.vital_typed_cells.proofs.SoundValues.{SoundValue, value-sound}

-- ---- types of delays by their texts

-- A name is predeclared as the type of a delay.
abbrev IsNamed : List ℕ → DelayType → Type 0
IsNamed name d = option_and_then as_type (predeclared name) ≡ Some (type.Delay d)

same-text : (name text : List ℕ) (d e : DelayType) → bytes_eq name text ≡ true → Some d ≡ Some e → IsNamed text d → IsNamed name e
same-text name text d e is same named =
    subst (λ n. IsNamed n e) (sym ((bytes_eq-Decides name text).0 is)) (subst (IsNamed text) (same_Some d e same) named)

text-six : (c : Bool) (name : List ℕ) (d : DelayType) → bytes_eq name (codes "vitaldelaytype01z") ≡ c → cond c (Some Six) None ≡ Some d → IsNamed name d
text-six true name d third is = same-text name (codes "vitaldelaytype01z") Six d third is refl
text-six false name d third is = cc

text-two : (b : Bool) (name : List ℕ) (d : DelayType) → bytes_eq name (codes "vitaldelaytype01") ≡ b → cond b (Some Two) (cond (bytes_eq name (codes "vitaldelaytype01z")) (Some Six) None) ≡ Some d → IsNamed name d
text-two true name d second is = same-text name (codes "vitaldelaytype01") Two d second is refl
text-two false name d second is = text-six (bytes_eq name (codes "vitaldelaytype01z")) name d refl is

text-one : (a : Bool) (name : List ℕ) (d : DelayType) → bytes_eq name (codes "vitaldelaytype") ≡ a
    → cond a (Some One) (cond (bytes_eq name (codes "vitaldelaytype01")) (Some Two) (cond (bytes_eq name (codes "vitaldelaytype01z")) (Some Six) None)) ≡ Some d → IsNamed name d
text-one true name d first is = same-text name (codes "vitaldelaytype") One d first is refl
text-one false name d first is = text-two (bytes_eq name (codes "vitaldelaytype01")) name d refl is

named-delay : (name : List ℕ) (d : DelayType) → delay_type_named name ≡ Some d → IsNamed name d
named-delay name d is = text-one (bytes_eq name (codes "vitaldelaytype")) name d refl is

plain-delay : (b : Bool) (o : Option Identifier) (d : DelayType) → option_map_or delay_type_named (cond b (option_map (λ i. i.name) o) None) None ≡ Some d
    → cond b (option_and_then (λ i. option_and_then as_type (predeclared i.name)) o) None ≡ Some (type.Delay d)
plain-delay true None d is = cc
plain-delay true (Some i) d is = named-delay i.name d is
plain-delay false o d is = cc

-- A type that Level 0 reads as that of a delay is asked of a generic as such.
pub asked-delay : (s : Subtype) (d : DelayType) → delay_type s ≡ Some d → of_generic_type (type_of s) ≡ asked.Delay d
asked-delay s d is =
    ap (λ o. of_generic_type (unwrap_or (option_or (option_map (λ t. Plain t) o) (bounded_type s)) Other))
    (plain-delay (is_none s.range && is_none (items_at_end s.name)) (last_identifier s.name) d is)

-- ---- words

abbrev delay-in : Option DefaultWord → Option DelayType
delay-in None = None
delay-in (Some (word.Boolean b)) = None
delay-in (Some (word.ZeroDelay d)) = Some d

no-boolean : (a b : Bool) → delay-in (cond a (Some (word.Boolean true)) (cond b (Some (word.Boolean false)) None)) ≡ None
no-boolean true b = refl
no-boolean false true = refl
no-boolean false false = refl

zero-word : (b : Bool) (e d : DelayType) → delay-in (cond b (Some (word.ZeroDelay e)) None) ≡ Some d → Some e ≡ Some d
zero-word true e d is = is
zero-word false e d is = cc

zero-type : (o : Option DelayType) (name : List ℕ) (d : DelayType) → delay-in (option_and_then (λ e. zero_delay_word e name) o) ≡ Some d → o ≡ Some d
zero-type None name d is = cc
zero-type (Some e) name d is = zero-word (bytes_eq name (zero_delay e)) e d is

by-word : (b : Bool) (s : Subtype) (name : List ℕ) (d : DelayType) → delay-in (cond b (boolean_word name) (option_and_then (λ e. zero_delay_word e name) (delay_type s))) ≡ Some d → delay_type s ≡ Some d
by-word true s name d is =
    let none : ◌≡◌ {A = Option DelayType} None (Some d) = sym (no-boolean (bytes_eq name (codes "true")) (bytes_eq name (codes "false"))) ∙ is in
    cc
by-word false s name d is = zero-type (delay_type s) name d is

default-type : (s : Subtype) (o : Option Identifier) (d : DelayType) → delay-in (option_and_then (λ i. word_for s i.name) o) ≡ Some d → delay_type s ≡ Some d
default-type s None d is = cc
default-type s (Some i) d is = by-word (is_plain (codes "boolean" ∷ []) s) s i.name d is

-- The word for no delay is one of the type of its generic.
word-type : (i : Iface) (d : DelayType) → default_word i ≡ Some (word.ZeroDelay d) → of_generic i ≡ asked.Delay d
word-type i d is = asked-delay i.parts.subtype d (default-type i.parts.subtype (option_and_then identifier_of i.parts.default) d (ap delay-in is))

-- ---- defaults

by-default : (s : ValueScope) (c : Context) (i : Iface) (w : Option DefaultWord) → default_word i ≡ w → HasNamesIn s c.position (cond (is_some w) None i.parts.default) → HasTablesIn s.names c (cond (is_some w) None i.parts.default)
    → IfTyped (SoundValue s (of_generic i)) (generic_value_by c i w)
by-default s c i None is names tables = value-sound s c (of_generic i) i.parts.default names tables
by-default s c i (Some (word.Boolean b)) is names tables = sound-truth s.names b
by-default s c i (Some (word.ZeroDelay d)) is names tables =
    ap (λ (a : AskedType). is_sound_value s a (value.Delay (delay.Literal (even_delay d 0)))) (word-type i d is) ∙ zero-delay s.names d

pub generic-sound : (s : ValueScope) (c : Context) (i : Iface) → HasNamesIn s c.position (read_default i) → HasTablesIn s.names c (read_default i) → IfTyped (SoundValue s (of_generic i)) (generic_value c i)
generic-sound s c i names tables = by-default s c i (default_word i) refl names tables
