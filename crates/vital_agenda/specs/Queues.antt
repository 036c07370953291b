-- The entries of a queue by driver, and how they are linked.
use Rattle.std.specs.Prelude.{◌≡◌, ◌≢◌, ℕ, ◌<◌, ◌≤◌, Bool, true, not, ◌&&◌, nat_lt, nat_le, ◌==◌, List, [], ◌∷◌, ◌++◌, Option, Some, None, IsSome, ◌⊎◌, slice_get, filter, if◌then◌else◌}
use Rattle.std.specs.Map.{lookup}
use Rattle.vital_logic.specs.declared.level.Level.{Level}
use Rattle.vital_agenda.specs.declared.entry.Entry.{Entry}
use Rattle.vital_agenda.specs.declared.stay.Stay.{Stay}
use Rattle.vital_agenda.specs.declared.stay.Stay.TheVariants.{After, From, Same}
use Rattle.vital_agenda.specs.declared.transaction.Transaction.{Transaction}
use Rattle.vital_agenda.specs.Driver.{Driver, same_level}

-- An entry with its key: its time, and the number of its driver.
abbrev pub Keyed : Type 0
Keyed = (ℕ × ℕ) × Entry

-- An entry, where it is one of a driver.
abbrev pub only_of : ℕ → Keyed → List Keyed
only_of driver e = if e.0.1 == driver then e ∷ [] else []

-- The entries of a driver, the latest first.
abbrev pub chain_of : ℕ → List Keyed → List Keyed
chain_of driver [] = []
chain_of driver (e ∷ later) = chain_of driver later ++ only_of driver e

-- The time of the first of some entries, where there is one.
abbrev pub latest : List Keyed → Option ℕ
latest [] = None
latest (e ∷ earlier) = Some e.0.0

-- A time that may be missing comes strictly before another.
abbrev pub ComesBefore : Option ℕ → ℕ → Type 0
ComesBefore None time = Unit {0}
ComesBefore (Some before) time = before < time

-- Each of these entries has the time of the one that follows in the list, and comes strictly after it; the last one has none.
abbrev pub IsChain : List Keyed → Type 0
IsChain [] = Unit {0}
IsChain (e ∷ earlier) = (e.1.before ≡ latest earlier) × ComesBefore e.1.before e.0.0 × IsChain earlier

-- All of these entries come strictly before a time.
abbrev pub AllBefore : ℕ → List Keyed → Type 0
AllBefore time [] = Unit {0}
AllBefore time (e ∷ earlier) = (e.0.0 < time) × AllBefore time earlier

-- The times of these entries fall strictly.
abbrev pub Falls : List Keyed → Type 0
Falls [] = Unit {0}
Falls (e ∷ earlier) = AllBefore e.0.0 earlier × Falls earlier

-- A time that may be missing is that of one of these entries, or missing.
abbrev pub IsTimeOf : Option ℕ → List Keyed → Type 0
IsTimeOf None chain = Unit {0}
IsTimeOf (Some time) chain = IsSome (lookup (λ key. key.0 == time) chain)

-- The transaction that an entry stands for.
abbrev pub transaction_of : Keyed → Transaction
transaction_of e = record { time = e.0.0; value = e.1.value }

-- The transactions of a chain, the soonest first.
abbrev pub rising : List Keyed → List Transaction
rising [] = []
rising (e ∷ earlier) = rising earlier ++ transaction_of e ∷ []

-- What is pending of a driver: its chain from the last entry back, reversed.
abbrev pub pending_of : ℕ → List Keyed → List Transaction
pending_of driver entries = rising (chain_of driver entries)

-- Other drivers keep their entries.
abbrev pub KeepsOthers : ℕ → List Keyed → List Keyed → Type 0
KeepsOthers driver old new = (other : ℕ) → other ≢ driver → chain_of other new ≡ chain_of other old

-- ---- parts of a chain

abbrev pub is_before : ℕ → Keyed → Bool
is_before time e = nat_lt e.0.0 time

abbrev pub is_after : ℕ → Keyed → Bool
is_after time e = nat_lt time e.0.0

abbrev pub is_up_to : ℕ → Keyed → Bool
is_up_to time e = nat_le e.0.0 time

-- The entry at a time, where there is one.
abbrev pub entry_of : ℕ → List Keyed → Option Entry
entry_of time chain = lookup (λ key. key.0 == time) chain

-- The entries but the one at a time.
abbrev pub without : ℕ → List Keyed → List Keyed
without time chain = filter (λ e. not (e.0.0 == time)) chain

-- Those that are later than a time that may be missing.
abbrev pub later_than : Option ℕ → List Keyed → List Keyed
later_than None chain = chain
later_than (Some time) chain = filter (is_after time) chain

-- The entry, with none before it where it is the one at a time.
abbrev pub with_none_before : ℕ → Keyed → Keyed
with_none_before time e = if e.0.0 == time then (e.0, record { value = e.1.value; before = None }) else e

-- Does a transaction stay?
abbrev pub stays : Stay → Transaction → Bool
stays (After time) x = nat_lt time x.time
stays (From time) x = nat_le time x.time
stays (Same value) x = same_level x.value value

-- The entry at a time that may be missing, where there is one and it stays.
abbrev pub entry_if : Stay → ℕ → Option Entry → Option Entry
entry_if stay time None = None
entry_if stay time (Some entry) = if stays stay (record { time = time; value = entry.value }) then Some entry else None

abbrev pub entry_staying : Stay → List Keyed → Option ℕ → Option Entry
entry_staying stay chain None = None
entry_staying stay chain (Some time) = entry_if stay time (entry_of time chain)

-- The first entries of a chain, up to the first that does not stay.
abbrev pub first_staying : Stay → List Keyed → List Keyed
first_staying stay [] = []
first_staying stay (e ∷ earlier) = if stays stay (transaction_of e) then e ∷ first_staying stay earlier else []

-- The other entries.
abbrev pub after_staying : Stay → List Keyed → List Keyed
after_staying stay [] = []
after_staying stay (e ∷ earlier) = if stays stay (transaction_of e) then after_staying stay earlier else e ∷ earlier

-- The time of the last of some entries, where there is one.
abbrev pub earliest : List Keyed → Option ℕ
earliest [] = None
earliest (e ∷ []) = Some e.0.0
earliest (e ∷ f ∷ earlier) = earliest (f ∷ earlier)

-- A time that may be missing does not come after another.
abbrev pub IsNotAfter : ℕ → Option ℕ → Type 0
IsNotAfter time None = Unit {0}
IsNotAfter time (Some other) = other ≤ time

-- As far as these entries come after a time, each has the time of the one that follows, from a first time on, and the last of them
-- has one that is not after it, or none.
abbrev pub IsChainAfter : ℕ → Option ℕ → List Keyed → Type 0
IsChainAfter time from [] = IsNotAfter time from
IsChainAfter time from (e ∷ earlier) =
    (time < e.0.0 → (from ≡ Some e.0.0) × IsChainAfter time e.1.before earlier) × (e.0.0 ≤ time → IsNotAfter time from)

-- ---- the first entry of a queue

-- No key of these is less than this one, by time and then by driver.
abbrev pub NoneLess : ℕ × ℕ → List Keyed → Type 0
NoneLess key [] = Unit {0}
NoneLess key (e ∷ entries) = ((key.0 < e.0.0) ⊎ ((key.0 ≡ e.0.0) × (key.1 ≤ e.0.1))) × NoneLess key entries

-- This entry is the first one, where there is one.
abbrev pub IsFirst : Option Keyed → List Keyed → Type 0
IsFirst None entries = entries ≡ []
IsFirst (Some e) entries = (slice_get entries 0 ≡ Some e) × NoneLess e.0 entries

-- ---- parts of what is pending

-- Do all of these stay?
abbrev pub all_stay : Stay → List Transaction → Bool
all_stay stay [] = true
all_stay stay (x ∷ later) = stays stay x && all_stay stay later

-- The last transactions, back to the last one that does not stay.
abbrev pub last_staying : Stay → List Transaction → List Transaction
last_staying stay [] = []
last_staying stay (x ∷ later) = if all_stay stay (x ∷ later) then x ∷ later else last_staying stay later

-- A driver with another present value.
abbrev pub with_current : Level → Driver → Driver
with_current value driver = record { current = value; pending = driver.pending }

-- A driver with its pending transactions changed.
abbrev pub with_pending : (List Transaction → List Transaction) → Driver → Driver
with_pending change driver = record { current = driver.current; pending = change driver.pending }
