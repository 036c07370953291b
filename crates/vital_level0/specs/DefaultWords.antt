-- The defaults of generics that are words, each of a type, and are read by their texts: they name nothing.
use Rattle.std.specs.Prelude.{ℕ, true, false, List, [], ◌∷◌, Option, Some, None, codes, if◌then◌else◌}
use Rattle.std.specs.Option.{option_and_then}
use Rattle.std.specs.Str.{bytes_eq}
use Rattle.vital_nodes.specs.declared.decl.Iface.{Iface}
use Rattle.vital_nodes.specs.declared.decl.Subtype.{Subtype}
use Rattle.vital_timing.specs.declared.delay.DelayType.{DelayType}
use Rattle.vital_timing.specs.declared.delay.DelayType.TheVariants.{One, Two, Six}
use Rattle.vital_nodes.specs.Names.{identifier_of}
use Rattle.vital_level0.specs.declared.default_words.DefaultWord.{DefaultWord}
use Rattle.vital_level0.specs.declared.default_words.DefaultWord.TheVariants as word
use Rattle.vital_level0.specs.TypeNames.{delay_type, is_plain}

-- A word of type Boolean.
abbrev pub boolean_word : List ℕ → Option DefaultWord
boolean_word name =
    if bytes_eq name (codes "true") then Some (word.Boolean true)
    else if bytes_eq name (codes "false") then Some (word.Boolean false)
    else None

-- The word for no delay, of each type of delays.
abbrev pub zero_delay : DelayType → List ℕ
zero_delay One = codes "vitalzerodelay"
zero_delay Two = codes "vitalzerodelay01"
zero_delay Six = codes "vitalzerodelay01z"

abbrev pub zero_delay_word : DelayType → List ℕ → Option DefaultWord
zero_delay_word d name = if bytes_eq name (zero_delay d) then Some (word.ZeroDelay d) else None

-- The word that a name is for a type, if it is one.
abbrev pub word_for : Subtype → List ℕ → Option DefaultWord
word_for s name =
    if is_plain (codes "boolean" ∷ []) s then boolean_word name else option_and_then (λ d. zero_delay_word d name) (delay_type s)

-- The word that the default of a generic is, if it is one for its type.
abbrev pub default_word : Iface → Option DefaultWord
default_word g = option_and_then (λ i. word_for g.parts.subtype i.name) (option_and_then identifier_of g.parts.default)
