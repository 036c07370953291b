-- What a refusal says.
use Rattle.std.specs.Prelude.{ℕ, List, Err}
use Rattle.vital_ll.specs.declared.reading.ParseError.{ParseError}
use Rattle.vital_ll.specs.declared.reading.ParseError.TheVariants.{Refused, NoMemory}
use Rattle.vital_ll.specs.Grammar.{Grammar}
use Rattle.vital_ll.specs.Readings.{IsReading}

-- reading the tokens comes to a refusal at the token; want of memory says nothing
abbrev pub IsRefusal : Grammar → List ℕ → ParseError → Type 0
IsRefusal g tokens (Refused k) = IsReading g tokens (Err k)
IsRefusal g tokens NoMemory = Unit {0}
