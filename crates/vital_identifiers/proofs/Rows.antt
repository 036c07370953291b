-- The definitions, tried on bytes that the grammar of a basic identifier decides: letter { [ underline ] letter_or_digit }.
use Rattle.std.proofs.Common.{◌≡◌, true, false, [], ◌∷◌, refl}
use Rattle.std.specs.Prelude.{codes}
use Rattle.vital_identifiers.specs.Identifiers.{is_basic_identifier, folded}

one_letter : is_basic_identifier (codes "a") ≡ true
one_letter = refl

capital : is_basic_identifier (codes "Z") ≡ true
capital = refl

letters_and_digits : is_basic_identifier (codes "a_1b") ≡ true
letters_and_digits = refl

underscores_apart : is_basic_identifier (codes "x1_2_Y3") ≡ true
underscores_apart = refl

reserved_word : is_basic_identifier (codes "in") ≡ true
reserved_word = refl

empty : is_basic_identifier [] ≡ false
empty = refl

first_underscore : is_basic_identifier (codes "_a") ≡ false
first_underscore = refl

last_underscore : is_basic_identifier (codes "a_") ≡ false
last_underscore = refl

two_underscores : is_basic_identifier (codes "a__b") ≡ false
two_underscores = refl

first_digit : is_basic_identifier (codes "1a") ≡ false
first_digit = refl

underscore_alone : is_basic_identifier (codes "_") ≡ false
underscore_alone = refl

space : is_basic_identifier (codes "a b") ≡ false
space = refl

hyphen : is_basic_identifier (codes "a-b") ≡ false
hyphen = refl

extended : is_basic_identifier (92 ∷ 97 ∷ 92 ∷ []) ≡ false
extended = refl

-- no letter of ASCII
first_beyond_ascii : is_basic_identifier (196 ∷ []) ≡ false
first_beyond_ascii = refl

last_beyond_ascii : is_basic_identifier (97 ∷ 196 ∷ []) ≡ false
last_beyond_ascii = refl

-- the bytes beside the letters
before_capitals : is_basic_identifier (codes "@") ≡ false
before_capitals = refl

after_capitals : is_basic_identifier (codes "[") ≡ false
after_capitals = refl

before_small_letters : is_basic_identifier (codes "`") ≡ false
before_small_letters = refl

after_small_letters : is_basic_identifier (codes "{") ≡ false
after_small_letters = refl

capitals_are_folded : folded (codes "Foo_A1z") ≡ codes "foo_a1z"
capitals_are_folded = refl
