-- Why a word is refused that gives a value to a key.
use Rattle.std.proofs.Common.{◌≡◌, ℕ, ◌+◌, ◌<◌, List, length, drop, get_or, Option, Some, sym, ap, ◌∙◌}
use Rattle.std.proofs.lemmas.List.{drop_more}
use Rattle.vital_words.specs.Keys.{value_in}
use Rattle.vital_words.specs.Refusals.{refusal_of, refusal}
use Rattle.vital_words.specs.declared.command.KeyRule.{KeyRule}
use Rattle.vital_words.specs.declared.refusal.UsageWhy.{UsageWhy}

-- the first of some rules to whose key a word gives a value
pub refused_for : (rules : List KeyRule) (i : ℕ) (d : KeyRule) (earlier : List (List ℕ)) (word value : List ℕ) (r : Option UsageWhy) → i < length rules
    → value_in (get_or rules i d).key word ≡ Some value → ((others : Option UsageWhy) → r ≡ refusal_of (get_or rules i d) earlier (Some value) others)
    → r ≡ refusal (drop i rules) earlier word
refused_for rules i d earlier word value r within found is =
    let rule = get_or rules i d in
    let others = refusal (drop (i + 1) rules) earlier word in
    is others ∙ ap (λ (o : Option (List ℕ)). refusal_of rule earlier o others) (sym found) ∙ ap (λ (rs : List KeyRule). refusal rs earlier word) (sym (drop_more rules i d within))
