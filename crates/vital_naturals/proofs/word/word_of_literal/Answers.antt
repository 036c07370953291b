use Rattle.std.proofs.Common.{◌≡◌, ◌≤◌, ◌<◌, ◌^◌, true, false, length, get_or, ◌∙◌, arith, rules}
use Rattle.std.specs.Char.{is_ascii_digit}
use Rattle.vital_naturals.proofs.WordLemmas.{byte_read, digit_read, too_great}
use Rattle.vital_naturals.proofs.word.word_of_literal.Goals as goal
use Rattle.vital_naturals.proofs.word.word_of_literal.Goals.{then-is_ascii_digit+in_ok-word, else-is_ascii_digit}
use Rattle.vital_naturals.specs.Numerals.{number}

pub returns-in_err-word : goal.returns-in_err-word
returns-in_err-word c =
    let bs = c.args.literal.now in
    let i = c.loop-byte.byte-index in
    let lt : i < length bs = omega arith in
    let digit : is_ascii_digit (get_or bs i 0) ≡ true = cc c.if-is_ascii_digit.ensures.value in
    let great : 2 ^ 64 ≤ number bs = too_great bs i c.loop-byte.word _ lt digit c.loop-byte.invariant c.in_err-word.ensures in
    search rules

pub loop-byte-preserved : goal.loop-byte-preserved
loop-byte-preserved c =
    let bs = c.args.literal.now in
    let i = c.loop-byte.byte-index in
    let lt : i < length bs = omega arith in
    elim c.if-is_ascii_digit.branch [
      | then-is_ascii_digit+in_ok-word w ↦
          let digit : is_ascii_digit (get_or bs i 0) ≡ true = cc w.if-is_ascii_digit.ensures.value in
          w.word-is ∙ w.in_ok-word.ensures ∙ digit_read bs i c.loop-byte.word lt digit c.loop-byte.invariant
      | else-is_ascii_digit w ↦
          let other : is_ascii_digit (get_or bs i 0) ≡ false = cc w.if-is_ascii_digit.ensures.value in
          w.word-is ∙ byte_read bs i c.loop-byte.word lt other c.loop-byte.invariant
    ]
