-- What an identifier means, where its name and its site are known by equations.
use Rattle.std.proofs.Common.{◌≡◌, ℕ, List, ◌∙◌, ap}
use Rattle.std.specs.Prelude.{Option}
use Rattle.vital_names.specs.Meanings.{Meaning, meaning}
use Rattle.vital_names.specs.Sites.{Cell, Site}

pub meant : (cell : Cell) (bytes name : List ℕ) (site own : Site) (found : Option Meaning) → found ≡ meaning bytes cell site → bytes ≡ name → site ≡ own → found ≡ meaning name cell own
meant cell bytes name site own found is same here = is ∙ ap (λ bs. meaning bs cell site) same ∙ ap (meaning name cell) here
