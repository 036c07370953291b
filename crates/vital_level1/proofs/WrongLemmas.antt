-- What one call more makes wrong, and what is made wrong at names.
use Rattle.std.proofs.Common.{◌≡◌, ℕ, ◌+◌, ◌<◌, true, false, List, [], ◌∷◌, length, take, map, get_or, refl, sym, ◌∙◌, ap}
use Rattle.std.specs.Prelude.{Bool, ◌||◌, ◌==◌, cond, Option}
use Rattle.std.specs.List.{filter, filter_map}
use Rattle.std.proofs.lemmas.List.Folds.{list_any-append}
use Rattle.vital_nodes.specs.declared.unit.Units.{Units}
use Rattle.vital_table_uses.specs.declared.table_use.TableUse.{TableUse}
use Rattle.vital_nodes.proofs.Lists.{filter_map-one}
use Rattle.vital_level1.specs.declared.package_names.NamedConstant.{NamedConstant}
use Rattle.vital_level1.specs.Packages.{places_where}
use Rattle.vital_level1.specs.Uses.{is_among, wrong_number, wrong_numbers}

or-again : (a b c : Bool) → ((a || b) || c) ≡ (a || (b || c))
or-again true b c = refl
or-again false b c = refl

pub numbers_more : (files : List Units) (us : List TableUse) (i : ℕ) (u : TableUse) (n : ℕ) (initial old new : Bool) → i < length us → u ≡ get_or us i u → old ≡ (initial || is_among (wrong_numbers files (take i us)) n) → new ≡ (old || is_among (wrong_numbers files (u ∷ [])) n) → new ≡ (initial || is_among (wrong_numbers files (take (i + 1) us)) n)
numbers_more files us i u n initial old new within is before put =
    let wrong : TableUse → Option ℕ = λ v. wrong_number files v v.table in
    put
    ∙ ap (λ b. b || is_among (wrong_numbers files (u ∷ [])) n) before
    ∙ or-again initial (is_among (wrong_numbers files (take i us)) n) (is_among (wrong_numbers files (u ∷ [])) n)
    ∙ ap (λ b. initial || b) (
    sym (list_any-append (λ m. m == n) (filter_map wrong (take i us)) (filter_map wrong (u ∷ [])))
    ∙ ap (λ ns. is_among ns n) (sym (filter_map-one wrong us i u within is)))

test-alike : (f g : ℕ → Bool) → ((n : ℕ) → f n ≡ g n) → (named : List NamedConstant) → filter (λ c. f c.number) named ≡ filter (λ c. g c.number) named
test-alike f g alike [] = refl
test-alike f g alike (c ∷ cs) =
    ap (λ b. cond b (c ∷ filter (λ (d : NamedConstant). f d.number) cs) (filter (λ (d : NamedConstant). f d.number) cs)) (alike c.number)
    ∙ ap (λ ds. cond (g c.number) (c ∷ ds) ds) (test-alike f g alike cs)

pub places_alike : (f g : ℕ → Bool) → ((n : ℕ) → f n ≡ g n) → (named : List NamedConstant) → places_where f named ≡ places_where g named
places_alike f g alike named = ap (map (λ c. c.place)) (test-alike f g alike named)
