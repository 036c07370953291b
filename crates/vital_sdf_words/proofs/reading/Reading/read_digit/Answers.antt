use Rattle.std.proofs.Common.{◌≡◌, ◌+◌, ◌-◌, true, false, rules, refl, arith}
use Rattle.std.specs.Prelude.{◌||◌, nat_lt}
use Rattle.vital_sdf_words.proofs.ReadingLemmas.{counts-before, counts-behind, counts-not}
use Rattle.vital_sdf_words.proofs.reading.Reading.read_digit.Goals as goal
use Rattle.vital_sdf_words.proofs.reading.Reading.read_digit.Goals.{then-self, else-self}

pub returns-then-not-self : goal.returns-then-not-self
returns-then-not-self c = λ power bytes before.
    let at : c.args.self.now.is_behind_point ≡ false = search rules in
    counts-before power bytes c.args.digit c.args.self.now c.with_digit-self.result c.requires before at c.with_digit-self.ensures

pub returns-then-self-gt0 : goal.returns-then-self-gt0
returns-then-self-gt0 c = λ power bytes before.
    let at : c.args.self.now.is_behind_point ≡ true = search rules in
    let left : c.args.self.now.places ≡ (c.args.self.now.places - 1) + 1 = omega arith in
    counts-behind power bytes c.args.digit c.args.self.now c.with_digit-self-then-self-gt0.result (c.args.self.now.places - 1) c.requires before at left c.with_digit-self-then-self-gt0.ensures

pub returns-after-self : goal.returns-after-self
returns-after-self c = λ power bytes before.
    let at : c.args.self.now.is_behind_point ≡ true = search rules in
    let left : c.args.self.now.places ≡ 0 = omega arith in
    let more : c.if-self.self ≡ (c.args.self.now.has_more || nat_lt 0 c.args.digit) = elim c.if-self.branch [
      | then-self w ↦ rw (w.self-is, w.if-self.true) refl
      | else-self w ↦ rw (w.self-is, w.if-self.false) refl
    ] in
    counts-not power bytes c.args.digit c.args.self.now c.if-self.self c.requires before at left more
