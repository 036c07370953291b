-- No two path delays drive one port.
use Rattle.std.proofs.Common.{◌≡◌, ℕ, Bool, false, List, [], ◌∷◌, Option, Some, None, refl, sym, ap, ◌∙◌}
use Rattle.std.specs.Prelude.{◌||◌}
use Rattle.std.specs.List.{IsDistinct, cons_option, filter_map, list_any}
use Rattle.std.specs.Option.{option_map_or}
use Rattle.std.specs.Str.{bytes_eq}
use Rattle.vital_drivers.specs.Clauses.{clause_12, drives, drives_again, places_12, places_12_at, undriven, wrong_out_signal}
use Rattle.vital_drivers.specs.PathDelays.{PathDelay, path_delays}
use Rattle.vital_names.specs.Sites.{Cell}
use Rattle.vital_nodes.specs.declared.identifier.Identifier.{Identifier}
use Rattle.vital_typed_cells.specs.Drivers.{ports_driven}
use Rattle.vital_typed_cells.proofs.Apart.{IsApart, distinct, each-none, each-weaker, is-distinct, names-differ, none-before, none-behind, none-placed}
use Rattle.vital_statements.specs.Lists.{place_if}

abbrev same : Identifier → Identifier → Bool
same i j = bytes_eq i.name j.name

any-found : (name : List ℕ) (o : Option Identifier) (is : List Identifier)
    → list_any (λ i. bytes_eq i.name name) (cons_option o is) ≡ (option_map_or (λ i. bytes_eq i.name name) o false || list_any (λ i. bytes_eq i.name name) is)
any-found name None is = refl
any-found name (Some i) is = refl

any-driven : (name : List ℕ) (ds : List PathDelay) → list_any (λ i. bytes_eq i.name name) (filter_map (λ d. d.port) ds) ≡ list_any (drives name) ds
any-driven name [] = refl
any-driven name (d ∷ ds) =
    any-found name d.port (filter_map (λ e. e.port) ds)
    ∙ ap (λ b. option_map_or (λ i. bytes_eq i.name name) d.port false || b) (any-driven name ds)

apart-at : (before : List PathDelay) (d : PathDelay) → places_12_at before d ≡ [] → IsApart (λ e. e.port) same before d
apart-at before d is w port =
    let again : drives_again before d ≡ false =
    none-placed (drives_again before d) d.place (none-before (place_if (drives_again before d) d.place) (wrong_out_signal d) is) in
    any-driven w.name before ∙ (sym (ap (λ o. option_map_or (λ i. list_any (drives i.name) before) o false) port) ∙ again)

pub driven-once : (cell : Cell) → clause_12 cell ≡ [] → IsDistinct bytes_eq (ports_driven cell)
driven-once cell is =
    distinct (ports_driven cell)
    (names-differ same bytes_eq (λ i. i.name) (λ i j differ. differ) (filter_map (λ d. d.port) (path_delays cell))
    (is-distinct (λ d. d.port) same (path_delays cell)
    (each-weaker (λ bs d. places_12_at bs d ≡ []) (IsApart (λ d. d.port) same) apart-at [] (path_delays cell)
    (each-none places_12_at [] (path_delays cell) (none-behind (undriven (path_delays cell) cell.entity.ports) (places_12 (path_delays cell)) is)))))
