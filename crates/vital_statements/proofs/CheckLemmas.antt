-- The statements in an `if` that are no calls of checks, with one branch more.
use Rattle.std.proofs.Common.{◌≡◌, ℕ, ◌+◌, ◌<◌, List, ◌++◌, length, take, get_or, ◌∙◌, ap}
use Rattle.std.specs.Prelude.{filter, map, not}
use Rattle.std.specs.List.{flat_map}
use Rattle.std.proofs.lemmas.List.{map-append}
use Rattle.std.proofs.lemmas.List.Elements.{filter-append}
use Rattle.vital_nodes.specs.declared.stmt.Branch.{Branch}
use Rattle.vital_nodes.specs.declared.stmt.Process.{Process}
use Rattle.vital_nodes.specs.declared.stmt.Stmt.{Stmt}
use Rattle.vital_nodes.specs.Places.{place_of_stmt}
use Rattle.vital_names.specs.Sites.{Cell}
use Rattle.vital_statements.specs.Clauses.{is_check_call, others_than_checks}
use Rattle.vital_nodes.proofs.Lists.{flat_map-one}

pub others-append : (cell : Cell) (p : Process) (xs ys : List Stmt) → others_than_checks cell p (xs ++ ys) ≡ others_than_checks cell p xs ++ others_than_checks cell p ys
others-append cell p xs ys =
    ap (map place_of_stmt) (filter-append (λ s. not (is_check_call cell p s)) xs ys)
    ∙ map-append place_of_stmt (filter (λ s. not (is_check_call cell p s)) xs) (filter (λ s. not (is_check_call cell p s)) ys)

pub others-take : (cell : Cell) (p : Process) (bs : List Branch) (i : ℕ) (b : Branch) → i < length bs → b ≡ get_or bs i b
    → others_than_checks cell p (flat_map (λ b. b.statements) (take (i + 1) bs)) ≡ others_than_checks cell p (flat_map (λ b. b.statements) (take i bs)) ++ others_than_checks cell p b.statements
others-take cell p bs i b within is =
    ap (others_than_checks cell p) (flat_map-one (λ b. b.statements) bs i b within is)
    ∙ others-append cell p (flat_map (λ b. b.statements) (take i bs)) b.statements
