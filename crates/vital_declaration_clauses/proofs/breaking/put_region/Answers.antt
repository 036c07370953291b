use Rattle.std.proofs.Common.{◌≡◌, length, ◌++◌, sym, ◌∙◌, ap, arith}
use Rattle.std.specs.Prelude.{None}
use Rattle.std.specs.Option.{option_copied}
use Rattle.std.proofs.lemmas.List.{append-nil}
use Rattle.vital_names.specs.Viewpoints.{is_last}
use Rattle.vital_declaration_clauses.specs.Clauses.{breaks, broken_among}
use Rattle.vital_declaration_clauses.specs.Regions.{place_of, site_in}
use Rattle.vital_declaration_clauses.proofs.SeenLemmas.{length-viewpoints, seen-more, zip-none}
use Rattle.vital_declaration_clauses.proofs.breaking.put_region.Goals as goal

pub loop-index-init : goal.loop-index-init
loop-index-init c =
    let places = c.args.places.now.items in
    sym (ap (λ seen. places ++ broken_among (breaks c.args.clause c.args.names.now) (option_copied c.process-process.result) seen) (zip-none c.as_slice-viewpoints.result.now)
    ∙ append-nil places)

pub bounds-viewpoints-index : goal.bounds-viewpoints-index
bounds-viewpoints-index c =
    let alike : length c.as_slice-viewpoints.result.now ≡ length c.declarations-declarations.result.now =
    ap length (c.as_slice-viewpoints.ensures.value ∙ c.in_ok-viewpoints.ensures) ∙ length-viewpoints place_of is_last None c.declarations-declarations.result.now in
    omega arith

pub loop-index-preserved : goal.loop-index-preserved
loop-index-preserved c =
    let process = option_copied c.process-process.result in
    let alike : length c.as_slice-viewpoints.result.now ≡ length c.declarations-declarations.result.now =
    ap length (c.as_slice-viewpoints.ensures.value ∙ c.in_ok-viewpoints.ensures) ∙ length-viewpoints place_of is_last None c.declarations-declarations.result.now in
    seen-more (λ d. breaks c.args.clause c.args.names.now (site_in process d.0) d.1) (λ d. place_of d.1)
    c.as_slice-viewpoints.result.now c.declarations-declarations.result.now c.loop-index.index _ c.index-declarations-index.result _ _ _
    (omega arith) (omega arith) c.index-declarations-index.is c.loop-index.invariant c.in_ok-put_declaration.ensures
