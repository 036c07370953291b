-- How the words after a command are refused, for any rules on its keys.
use Rattle.std.specs.Prelude.{ℕ, ◌+◌, ◌||◌, Bool, not, nat_le, nat_lt, List, [], ◌∷◌, ◌++◌, length, count_by, Option, Some, None, if◌then◌else◌}
use Rattle.std.specs.List.{list_all}
use Rattle.vital_words.specs.Keys.{is_good, value_in, is_for}
use Rattle.vital_words.specs.declared.command.KeyRule.{KeyRule}
use Rattle.vital_words.specs.declared.refusal.UsageFault.{UsageFault}
use Rattle.vital_words.specs.declared.refusal.UsageWhy.{UsageWhy}
use Rattle.vital_words.specs.declared.refusal.UsageWhy.TheVariants as why

-- Why a word that gives this value to the key of a rule is refused after the earlier words, where it is: the key has come
-- as often as it may, or the value isn't good. A word that gives it none is for the other keys.
abbrev pub refusal_of : KeyRule → List (List ℕ) → Option (List ℕ) → Option UsageWhy → Option UsageWhy
refusal_of rule earlier None others = others
refusal_of rule earlier (Some value) others =
    if nat_le rule.most (count_by (is_for rule.key) earlier) then Some why.Twice
    else if is_good rule.key value then None
    else Some why.Value

-- Why a word is refused after the earlier ones, where it is; a word with no `=`, or with no key of the command, is for none.
abbrev pub refusal : List KeyRule → List (List ℕ) → List ℕ → Option UsageWhy
refusal [] earlier word = Some why.Key
refusal (rule ∷ rules) earlier word = refusal_of rule earlier (value_in rule.key word) (refusal rules earlier word)

-- A fault at this word, or else what comes later.
abbrev pub fault_or : ℕ → Option UsageWhy → Option UsageFault → Option UsageFault
fault_or number None later = later
fault_or number (Some reason) later = Some (record { word = number; why = reason })

-- The first word that is refused: its number, and why. The words are numbered from the given number on.
abbrev pub first_refusal : List KeyRule → List (List ℕ) → ℕ → List (List ℕ) → Option UsageFault
first_refusal rules earlier number [] = None
first_refusal rules earlier number (word ∷ words) =
    fault_or number (refusal rules earlier word) (first_refusal rules (earlier ++ word ∷ []) (number + 1) words)

-- Has the key of a rule come, if it must?
abbrev pub is_met : List (List ℕ) → KeyRule → Bool
is_met words rule = not rule.is_required || nat_lt 0 (count_by (is_for rule.key) words)

-- A key that must come and doesn't is missing at the word after the last. The command is word 1.
abbrev pub missing : List (List ℕ) → UsageFault
missing words = record { word = length words + 2; why = why.Missing }

-- A refusal, or else the fault that a key is missing, where not all rules are met.
abbrev pub fault_of : Option UsageFault → Bool → UsageFault → Option UsageFault
fault_of (Some refused) all_met missing = Some refused
fault_of None all_met missing = if all_met then None else Some missing

-- The first fault of the words after a command that takes its keys by these rules.
abbrev pub first_fault : List KeyRule → List (List ℕ) → Option UsageFault
first_fault rules words = fault_of (first_refusal rules [] 2 words) (list_all (is_met words) rules) (missing words)
