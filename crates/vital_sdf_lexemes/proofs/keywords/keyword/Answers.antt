use Rattle.std.proofs.Common.{refl, sym, ◌∙◌, arith}
use Rattle.vital_sdf_lexemes.proofs.KeywordTables.{by_letter, by_no_letter, by_no_byte}
use Rattle.vital_sdf_lexemes.proofs.keywords.keyword.Goals as goal

pub returns-in_default : goal.returns-in_default
returns-in_default c = sym (by_no_byte c.args.word.now (omega (arith, c.in_default.len_below)))

pub returns-then-not-is_ascii_alphabetic : goal.returns-then-not-is_ascii_alphabetic
returns-then-not-is_ascii_alphabetic c = sym (by_no_letter c.args.word.now (sym c.is_ascii_alphabetic.ensures.value ∙ c.if-not-is_ascii_alphabetic.true))

pub returns : goal.returns
returns c =
    by_letter (λ entry. (entry.0.now, entry.1)) _ c.places-start.result.0 c.places-start.result.1 c.args.word.now c.to_ascii_lowercase-letter.result _ refl (omega (arith, c.in-len1-up.len_at_least)) (sym c.is_ascii_alphabetic.ensures.value ∙ c.if-not-is_ascii_alphabetic.false) c.to_ascii_lowercase-letter.ensures.value c.places-start.ensures.own c.kind_in.ensures
