-- The latest section with one more.
use Rattle.std.proofs.Common.{◌≡◌, refl}
use Rattle.std.specs.Prelude.{Bool, true, false, ◌||◌, Option, Some, None}
use Rattle.std.specs.List.{list_any}
use Rattle.std.specs.Option.{option_to_list}
use Rattle.vital_statements.specs.declared.section.Section.{Section}
use Rattle.vital_statements.specs.declared.section.Section.TheVariants.{Checks, Functionality, PathDelays}
use Rattle.vital_statements.specs.Sections.{is_later, latest_of}

or-none : (b : Bool) → b ≡ (b || false)
or-none true = refl
or-none false = refl

or-twice : (b : Bool) → b ≡ (b || (b || false))
or-twice true = refl
or-twice false = refl

-- a section is before the later of two where it is before one of them
pub latest-more : (next : Option Section) (latest s : Section) → is_later (latest_of next latest) s ≡ (is_later latest s || list_any (λ earlier. is_later earlier s) (option_to_list next))
latest-more None latest s = or-none (is_later latest s)
latest-more (Some Checks) latest s = or-none (is_later latest s)
latest-more (Some Functionality) Checks s = or-none (is_later Functionality s)
latest-more (Some Functionality) Functionality s = or-twice (is_later Functionality s)
latest-more (Some Functionality) PathDelays Checks = refl
latest-more (Some Functionality) PathDelays Functionality = refl
latest-more (Some Functionality) PathDelays PathDelays = refl
latest-more (Some PathDelays) Checks s = or-none (is_later PathDelays s)
latest-more (Some PathDelays) Functionality Checks = refl
latest-more (Some PathDelays) Functionality Functionality = refl
latest-more (Some PathDelays) Functionality PathDelays = refl
latest-more (Some PathDelays) PathDelays s = or-twice (is_later PathDelays s)
