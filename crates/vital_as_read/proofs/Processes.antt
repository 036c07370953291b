-- The processes among concurrent statements, and what these declare: of one statement, and of one list after another.
use Rattle.std.proofs.Common.{◌≡◌, List, [], ◌∷◌, ◌++◌, refl, sym, ap, ◌∙◌}
use Rattle.std.specs.List.{cons_option, filter_map, flat_map}
use Rattle.std.proofs.lemmas.Grind.{flat_map-append}
use Rattle.std.proofs.lemmas.List.{map-append}
use Rattle.std.proofs.lemmas.List.Elements.{filter_map-append}
use Rattle.vital_names.specs.Declarations.{Declared, declared_in}
use Rattle.vital_nodes.specs.Layers.{ConcLayer}
use Rattle.vital_nodes.specs.Nodes.{Node, Concurrent, concurrents}
use Rattle.vital_nodes.specs.Walk.{nodes_of, nodes_of_all}
use Rattle.vital_nodes.specs.declared.stmt.Conc.{Conc}
use Rattle.vital_nodes.specs.declared.stmt.Conc.TheViews.{out-roll-Conc, roll-Conc}
use Rattle.vital_nodes.specs.declared.stmt.Process.{Process}
use Rattle.vital_uses.specs.Nodes.{declarations_in}
use Rattle.vital_uses.specs.Statements.{process, process_in}
use Rattle.vital_nodes.specs.Statements.{all_concurrent, concurrent, in_conc_layer, in_concurrent}
use Rattle.vital_nodes.proofs.Inner.{concurrent-put}
use Rattle.vital_nodes.proofs.Values.{WalkLaw}
use Rattle.vital_as_read.specs.AsRead.{declared_by_statement}

-- the processes among statements, with those in their blocks
abbrev pub processes_in : List Conc → List Process
processes_in found = filter_map process (all_concurrent found)

pub processes-append : (xs ys : List Conc) → processes_in (xs ++ ys) ≡ processes_in xs ++ processes_in ys
processes-append xs ys =
    ap (λ (vs : List Node). filter_map process (filter_map concurrent (nodes_of_all vs))) (map-append (λ c. Concurrent c) xs ys)
    ∙ ap (λ (vs : List Node). filter_map process (filter_map concurrent vs)) (flat_map-append nodes_of (concurrents xs) (concurrents ys))
    ∙ ap (filter_map process) (filter_map-append concurrent (nodes_of_all (concurrents xs)) (nodes_of_all (concurrents ys)))
    ∙ filter_map-append process (all_concurrent xs) (all_concurrent ys)

-- a statement that is a process, and those in a block
pub processes-one : WalkLaw → (l : ConcLayer) → processes_in (roll-Conc l ∷ []) ≡ cons_option (process_in l) (filter_map process (in_conc_layer l))
processes-one walked l =
    let c = roll-Conc l in
    ap (filter_map process) (sym (concurrent-put walked [] (c ∷ []) (c ∷ in_concurrent c) c refl refl))
    ∙ ap (λ (m : ConcLayer). cons_option (process_in m) (filter_map process (in_conc_layer m))) (out-roll-Conc l)

-- ---- what statements declare

abbrev pub declared_within : List Conc → List Declared
declared_within found = flat_map declared_by_statement (all_concurrent found)

pub declared-append : (xs ys : List Conc) → declared_within (xs ++ ys) ≡ declared_within xs ++ declared_within ys
declared-append xs ys =
    ap (λ (vs : List Node). flat_map declared_by_statement (filter_map concurrent (nodes_of_all vs))) (map-append (λ c. Concurrent c) xs ys)
    ∙ ap (λ (vs : List Node). flat_map declared_by_statement (filter_map concurrent vs)) (flat_map-append nodes_of (concurrents xs) (concurrents ys))
    ∙ ap (flat_map declared_by_statement) (filter_map-append concurrent (nodes_of_all (concurrents xs)) (nodes_of_all (concurrents ys)))
    ∙ flat_map-append declared_by_statement (all_concurrent xs) (all_concurrent ys)

-- what a statement declares itself, and what those in a block do
pub declared-one : WalkLaw → (l : ConcLayer) → declared_within (roll-Conc l ∷ []) ≡ declared_in (declarations_in l) ++ flat_map declared_by_statement (in_conc_layer l)
declared-one walked l =
    let c = roll-Conc l in
    ap (flat_map declared_by_statement) (sym (concurrent-put walked [] (c ∷ []) (c ∷ in_concurrent c) c refl refl))
    ∙ ap (λ (m : ConcLayer). declared_in (declarations_in m) ++ flat_map declared_by_statement (in_conc_layer m)) (out-roll-Conc l)
