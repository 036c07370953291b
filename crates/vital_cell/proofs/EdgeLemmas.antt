-- Each edge symbol stands for a set of changes.
use Rattle.std.proofs.Common.{◌≡◌, ◌==◌, ℕ, true, List, [], ◌∷◌, refl, sym, ◌∙◌, ap, inl, inr}
use Rattle.std.specs.Prelude.{Bool, is_some}
use Rattle.std.specs.List.{list_all, list_any}
use Rattle.std.proofs.lemmas.Bool.{eqb-true, false≢true}
use Rattle.vital_edges.specs.Edges.{edges_of}
use Rattle.vital_cell.proofs.KindLemmas.{either}
use Rattle.vital_cell.proofs.SoundLemmas.{first-holds, second-holds}
use Rattle.vital_tables.specs.Symbols.{edge_symbols, is_among}

among : (test : ℕ → Bool) (symbols : List ℕ) (s : ℕ) → list_all test symbols ≡ true → list_any (λ q. q == s) symbols ≡ true → test s ≡ true
among test [] s all any = absurd (false≢true any)
among test (q ∷ qs) s all any =
    elim (either (q == s) (list_any (λ r. r == s) qs) any) [
      | inl here ↦ ap test (sym (eqb-true q s here)) ∙ first-holds (test q) (list_all test qs) all
      | inr others ↦ among test qs s (second-holds (test q) (list_all test qs) all) others
    ]

pub edge-there : (s : ℕ) → is_among edge_symbols s ≡ true → is_some (edges_of s) ≡ true
edge-there s is = among (λ q. is_some (edges_of q)) edge_symbols s refl is
