-- How natural numbers are kept.
use Rattle.std.specs.Prelude.{ℕ, List}
use Rattle.vital_naturals.specs.declared.natural.Form.{Form}
use Rattle.vital_naturals.specs.declared.natural.Form.TheVariants.{Word, Digits}
use Rattle.vital_naturals.specs.declared.natural.Written.{Written}
use Rattle.vital_naturals.specs.declared.natural.Written.TheVariants.{OfWord, Kept}
use Rattle.vital_naturals.specs.Digits.{AreDigits, value}

-- The number that is kept.
abbrev pub number_of : Form → ℕ
number_of (Word word) = word
number_of (Digits digits) = value digits.items

-- Where it is not a word, it is digits.
abbrev pub IsForm : Form → Type 0
IsForm (Word word) = Unit {0}
IsForm (Digits digits) = AreDigits digits.items

-- The digits of a word, or those by which a number is kept.
abbrev pub digits_written : Written → List ℕ
digits_written (OfWord digits) = digits
digits_written (Kept digits) = digits.now
