-- A text that is put behind what is held, and how a call counts its fault.
use Rattle.std.specs.Prelude.{ℕ, ◌*◌, ◌≡◌, ◌++◌, ◌≤◌, List, length, Result, Ok, Err}
use Rattle.vital_base.specs.Faults.{Rose}
use Rattle.vital_base.specs.Sinks.{Told, appended, AppendsPrefix}
use Rattle.vital_report.specs.Reporters.{WritesFull}

-- A call that puts a text: it is written or held, or a prefix of what was held and of it is written, with a fault.
abbrev pub Puts : {T E : Type 0} → Result T E → Told → List ℕ → List ℕ → Told → List ℕ → Type 0
Puts (Ok x) told held text told' held' = WritesFull told held text told' held'
Puts (Err e) told held text told' held' = AppendsPrefix told (held ++ text) told'

-- A call that counts its fault, where it is one.
abbrev pub Counts : {T E : Type 0} → Result T E → ℕ → ℕ → Type 0
Counts (Ok x) old new = new ≡ old
Counts (Err e) old new = Rose old new × (old ≤ new)

-- A text was put as far as its rest: the sink got whole multiples of 4,096 bytes, and then come what is held and the rest.
pub record Going (told : Told) (held text : List ℕ) (told' : Told) (held' rest : List ℕ) : Type 0 where
  pub got : List ℕ
  pub count : ℕ
  pub told_is : told' ≡ appended told got
  pub split : got ++ (held' ++ rest) ≡ held ++ text
  pub multiple : length got ≡ count * 4096
