use Rattle.std.proofs.Common.{◌≡◌, ◌≢◌, ◌+◌, ◌-◌, ◌≤◌, [], ◌∷◌, ◌++◌, ℕ, true, false, sym, ◌∙◌, subst, rules, arith}
use Rattle.std.proofs.Math.Bool.{or-false}
use Rattle.std.proofs.lemmas.Bool.Decides.{nat_tests}
use Rattle.std.specs.Char.{is_ascii_digit}
use Rattle.std.specs.List.{list_any}
use Rattle.vital_sdf_words.specs.Decimals.{is_point}
use Rattle.vital_sdf_words.specs.Readings.{Reads}
use Rattle.vital_sdf_words.proofs.DigitLemmas.{point-push}
use Rattle.vital_sdf_words.proofs.ReadingLemmas.{reads-other}
use Rattle.vital_sdf_words.proofs.reading.Reading.read.Goals as goal

pub returns-then-is_ascii_digit : goal.returns-then-is_ascii_digit
returns-then-is_ascii_digit c = λ power bytes before.
    let digit : is_ascii_digit c.args.byte ≡ true = sym c.is_ascii_digit.ensures.value ∙ c.if-is_ascii_digit.true in
    let least : 48 ≤ c.args.byte = grind (arith, nat_tests) in
    let byte : 48 + (c.args.byte - 48) ≡ c.args.byte = omega arith in
    subst (λ (b : ℕ). Reads power (bytes ++ b ∷ []) c.read_digit.new.self) byte (c.read_digit.ensures power bytes before)

pub returns-else-is_ascii_digit : goal.returns-else-is_ascii_digit
returns-else-is_ascii_digit c = λ power bytes before.
    let other : is_ascii_digit c.args.byte ≡ false = sym c.is_ascii_digit.ensures.value ∙ c.if-is_ascii_digit.false in
    let none : c.args.byte ≢ 46 = search rules in
    let no_point : is_point c.args.byte ≡ false = grind (arith, nat_tests) in
    reads-other power bytes c.args.byte c.args.self.now c.args.self.now.is_behind_point other before (before.behind ∙ sym (point-push bytes c.args.byte false no_point ∙ or-false (list_any is_point bytes)))
