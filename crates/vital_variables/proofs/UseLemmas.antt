-- The use at an index of a list, as a loop over the list reads it.
use Rattle.std.proofs.Common.{◌≡◌, ℕ, ◌<◌, List, [], length, get_or}
use Rattle.std.proofs.lemmas.List.{get_or_default}
use Rattle.vital_uses.specs.declared.names_at.NameAt.{NameAt}

-- what stands past the end
abbrev pub no_use : NameAt
no_use = record { name = record { ref_ptr = (0, 0); now = [] }; place = record { file = 0; line = 0; column = 0 } }

abbrev pub use_at : List NameAt → ℕ → NameAt
use_at us i = get_or us i no_use

pub use_at-is : (us : List NameAt) (i : ℕ) → i < length us → use_at us i ≡ get_or us i (use_at us i)
use_at-is us i within = get_or_default us i no_use (use_at us i) within
