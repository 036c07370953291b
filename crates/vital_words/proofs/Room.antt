-- How many files the keys of a command have room for.
use Rattle.std.proofs.Common.{◌≡◌, ℕ, ◌+◌, ◌-◌, ◌<◌, ◌≤◌, Bool, cond, leb, List, [], ◌∷◌, ◌++◌, length, Option, Some, None, refl, ap, ◌∙◌, arith, inl, inr}
use Rattle.std.specs.Prelude.{count_by, is_some}
use Rattle.std.specs.List.{cons_option, filter_map, list_all}
use Rattle.std.proofs.lemmas.Bool.{cases_Bool, leb-false}
use Rattle.std.proofs.lemmas.List.Sums.{sum_by-append, sum_by-cons}
use Rattle.vital_words.specs.Commands.{rules_of}
use Rattle.vital_words.specs.Jobs.{file_of, file_in}
use Rattle.vital_words.specs.Keys.{value_in, is_for}
use Rattle.vital_words.specs.Refusals.{refusal_of, refusal, fault_or, first_refusal, fault_of, first_fault, is_met, missing}
use Rattle.vital_words.specs.declared.command.Command.{Command}
use Rattle.vital_words.specs.declared.command.Command.TheVariants.{Play, Check, Tree, Sim, SelfRun}
use Rattle.vital_words.specs.declared.command.KeyRule.{KeyRule}
use Rattle.vital_words.specs.declared.job.NamedFile.{NamedFile}
use Rattle.vital_words.specs.declared.key.Key.{Key}
use Rattle.vital_words.specs.declared.key.Key.TheVariants.{File, Until, Top, Corner, Delta, Watch, Seed, Cells}
use Rattle.vital_words.specs.declared.refusal.UsageFault.{UsageFault}
use Rattle.vital_words.specs.declared.refusal.UsageWhy.{UsageWhy}
use Rattle.vital_words.specs.declared.refusal.UsageWhy.TheVariants as why

-- how many files there are, one or none
abbrev count_of : Option NamedFile → ℕ
count_of None = 0
count_of (Some file) = 1

-- how many files a key may name that may come so often
abbrev files_by : Key → ℕ → ℕ
files_by (File kind) times = times
files_by Until times = 0
files_by Top times = 0
files_by Corner times = 0
files_by Delta times = 0
files_by Watch times = 0
files_by Seed times = 0
files_by Cells times = 0

-- how many more files the keys may name after the earlier words
abbrev room : List KeyRule → List (List ℕ) → ℕ
room [] earlier = 0
room (rule ∷ rules) earlier = files_by rule.key (rule.most - count_by (is_for rule.key) earlier) + room rules earlier

files_by-fewer : (key : Key) (m n : ℕ) → m ≤ n → files_by key m ≤ files_by key n
files_by-fewer (File kind) m n le = le
files_by-fewer Until m n le = omega arith
files_by-fewer Top m n le = omega arith
files_by-fewer Corner m n le = omega arith
files_by-fewer Delta m n le = omega arith
files_by-fewer Watch m n le = omega arith
files_by-fewer Seed m n le = omega arith
files_by-fewer Cells m n le = omega arith

-- a value takes room where it names a file
files_by-taken : (key : Key) (value : List ℕ) (m n : ℕ) → m < n → count_of (file_of key value) + files_by key m ≤ files_by key n
files_by-taken (File kind) value m n lt = omega (arith, lt)
files_by-taken Until value m n lt = omega arith
files_by-taken Top value m n lt = omega arith
files_by-taken Corner value m n lt = omega arith
files_by-taken Delta value m n lt = omega arith
files_by-taken Watch value m n lt = omega arith
files_by-taken Seed value m n lt = omega arith
files_by-taken Cells value m n lt = omega arith

-- one word more counts where it is for the key
counted : (key : Key) (earlier : List (List ℕ)) (word : List ℕ) → count_by (is_for key) (earlier ++ word ∷ []) ≡ count_by (is_for key) earlier + cond (is_for key word) 1 0
counted key earlier word =
    let one : List ℕ → ℕ = λ w. cond (is_for key w) 1 0 in
    let split : count_by (is_for key) (earlier ++ word ∷ []) ≡ count_by (is_for key) earlier + count_by (is_for key) (word ∷ []) = sum_by-append one earlier (word ∷ []) in
    let last : count_by (is_for key) (word ∷ []) ≡ cond (is_for key word) 1 0 + 0 = sum_by-cons one word [] in
    omega arith

-- and it leaves no more room for the key
own_room_falls : (rule : KeyRule) (earlier : List (List ℕ)) (word : List ℕ) → files_by rule.key (rule.most - count_by (is_for rule.key) (earlier ++ word ∷ [])) ≤ files_by rule.key (rule.most - count_by (is_for rule.key) earlier)
own_room_falls rule earlier word = files_by-fewer rule.key _ _ (omega (arith, counted rule.key earlier word))

room_falls : (rules : List KeyRule) (earlier : List (List ℕ)) (word : List ℕ) → room rules (earlier ++ word ∷ []) ≤ room rules earlier
room_falls [] earlier word = omega arith
room_falls (rule ∷ rules) earlier word = omega (arith, own_room_falls rule earlier word, room_falls rules earlier word)

-- a word for the key that isn't refused has room before it
taken_for : (rule : KeyRule) (earlier : List (List ℕ)) (value : List ℕ) (others : Option UsageWhy) → refusal_of rule earlier (Some value) others ≡ None → count_by (is_for rule.key) earlier < rule.most
taken_for rule earlier value others e =
    elim (cases_Bool (leb rule.most (count_by (is_for rule.key) earlier))) [
      | inl full ↦ let said : Some why.Twice ≡ None = rw full at e in absurd cc
      | inr free ↦ leb-false rule.most (count_by (is_for rule.key) earlier) free
    ]

-- so a word that isn't refused takes room for the file that it names
taken : (rules : List KeyRule) (earlier : List (List ℕ)) (word : List ℕ) → refusal rules earlier word ≡ None → count_of (file_in rules word) + room rules (earlier ++ word ∷ []) ≤ room rules earlier
taken [] earlier word e = absurd cc
taken (rule ∷ rules) earlier word e = by_value (value_in rule.key word) refl (taken rules earlier word)
  where
    by_value : (o : Option (List ℕ)) → value_in rule.key word ≡ o → (refusal rules earlier word ≡ None → count_of (file_in rules word) + room rules (earlier ++ word ∷ []) ≤ room rules earlier)
        → count_of (file_in (rule ∷ rules) word) + room (rule ∷ rules) (earlier ++ word ∷ []) ≤ room (rule ∷ rules) earlier
    by_value None is rest =
        let later = rest (rw is at e) in
        rw is (omega (arith, own_room_falls rule earlier word, later))
    by_value (Some value) is rest =
        let free : count_by (is_for rule.key) earlier < rule.most = taken_for rule earlier value (refusal rules earlier word) (rw is at e) in
        let more : count_by (is_for rule.key) (earlier ++ word ∷ []) ≡ count_by (is_for rule.key) earlier + 1 = counted rule.key earlier word ∙ ap (λ (o : Option (List ℕ)). count_by (is_for rule.key) earlier + cond (is_some o) 1 0) is in
        let own = files_by-taken rule.key value (rule.most - count_by (is_for rule.key) (earlier ++ word ∷ [])) (rule.most - count_by (is_for rule.key) earlier) (omega (arith, more, free)) in
        rw is (omega (arith, own, room_falls rules earlier word))

not_refused : (number : ℕ) (o : Option UsageWhy) (later : Option UsageFault) → fault_or number o later ≡ None → (o ≡ None) × (later ≡ None)
not_refused number None later e = (refl, e)
not_refused number (Some w) later e = absurd cc

length-cons : (o : Option NamedFile) (files : List NamedFile) → length (cons_option o files) ≡ count_of o + length files
length-cons None files = omega arith
length-cons (Some file) files = omega arith

within_room : (rules : List KeyRule) (earlier : List (List ℕ)) (number : ℕ) (words : List (List ℕ)) → first_refusal rules earlier number words ≡ None → length (filter_map (file_in rules) words) ≤ room rules earlier
within_room rules earlier number [] e = omega arith
within_room rules earlier number (word ∷ words) e =
    let p = not_refused number (refusal rules earlier word) (first_refusal rules (earlier ++ word ∷ []) (number + 1) words) e in
    omega (arith, length-cons (file_in rules word) (filter_map (file_in rules) words), taken rules earlier word p.0, within_room rules (earlier ++ word ∷ []) (number + 1) words p.1)

not_faulty : (o : Option UsageFault) (all_met : Bool) (missing : UsageFault) → fault_of o all_met missing ≡ None → o ≡ None
not_faulty None all_met missing e = refl
not_faulty (Some fault) all_met missing e = absurd cc

room_of : (command : Command) → room (rules_of command) [] ≤ 34
room_of Play = omega arith
room_of Check = omega arith
room_of Tree = omega arith
room_of Sim = omega arith
room_of SelfRun = omega arith

-- words of a command that have no fault name few files
pub few_files : (command : Command) (words : List (List ℕ)) → first_fault (rules_of command) words ≡ None → length (filter_map (file_in (rules_of command)) words) ≤ 34
few_files command words e =
    let none = not_faulty (first_refusal (rules_of command) [] 2 words) (list_all (is_met words) (rules_of command)) (missing words) e in
    omega (arith, within_room (rules_of command) [] 2 words none, room_of command)
