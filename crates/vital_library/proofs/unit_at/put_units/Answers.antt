use Rattle.std.proofs.Common.{map, ◌++◌, ◌∙◌, ap, sym, arith, append_assoc, take, rules}
use Rattle.std.specs.Prelude.{[], ◌∷◌}
use Rattle.std.proofs.lemmas.List.{map-append}
use Rattle.vital_library.specs.Positions.{seen, numbered_from}
use Rattle.vital_library.proofs.NumberedLemmas.{numbered_from-take}
use Rattle.vital_library.proofs.unit_at.put_units.Goals as goal

pub loop-number-preserved : goal.loop-number-preserved
loop-number-preserved c = record {
  units =
      ap (map seen) c.in_ok-push.ensures.items
      ∙ map-append seen c.loop-number.all.items (_ ∷ [])
      ∙ ap (λ us. us ++ (record { file = c.args.file; unit = c.loop-number.number }, c.index-units-number.result) ∷ []) c.loop-number.invariant.units
      ∙ append_assoc (map seen c.args.all.now.items) (numbered_from c.args.file 0 (take c.loop-number.number c.args.units.now)) _
      ∙ ap (λ us. map seen c.args.all.now.items ++ us) (sym (numbered_from-take c.args.file c.args.units.now c.loop-number.number c.index-units-number.result (omega arith) c.index-units-number.is));
  count = search rules;
  limit = search rules;
}
