use Rattle.std.proofs.Common.{◌++◌, ◌∙◌, ap, sym, arith, take, subst}
use Rattle.std.proofs.lemmas.List.{take_all}
use Rattle.std.proofs.lemmas.Result.{err_from_is_err_and}
use Rattle.vital_library.specs.Limits.{IsPastLimit}
use Rattle.vital_library.specs.Positions.{numbered, numbered_from, units_in}
use Rattle.vital_library.proofs.NumberedLemmas.{numbered-take}
use Rattle.vital_library.proofs.LimitLemmas.{past-file, few-kept, few-all}
use Rattle.vital_library.proofs.unit_at.units_at.Goals as goal

pub returns-in_err-put_units-clause-limit : goal.returns-in_err-put_units-clause-limit
returns-in_err-put_units-clause-limit c =
    let p = err_from_is_err_and c.from_residual.result c.from_residual.ensures.1 in
    rw (p.1, p.2) (past-file c.in_err-put_units.field-0.0 c.args.files.now c.loop-number.number c.index-files-number.result c.loop-number.units.items (omega arith) c.index-files-number.is c.loop-number.invariant.units (subst (λ us. IsPastLimit c.in_err-put_units.field-0.0 (units_in c.loop-number.units.items ++ us)) c.as_slice.ensures c.in_err-put_units.ensures.limit))

pub loop-number-preserved : goal.loop-number-preserved
loop-number-preserved c =
    let old = c.loop-number.units.items in
    let f = c.index-files-number.result in
    record {
      units =
          c.in_ok-put_units.ensures.units
          ∙ ap (λ us. us ++ numbered_from c.loop-number.number 0 c.as_slice.result.now) c.loop-number.invariant.units
          ∙ ap (λ us. numbered (take c.loop-number.number c.args.files.now) ++ numbered_from c.loop-number.number 0 us) c.as_slice.ensures
          ∙ sym (numbered-take c.args.files.now c.loop-number.number f (omega arith) c.index-files-number.is);
      limit = few-kept old _ c.loop-number.number c.as_slice.result.now c.in_ok-put_units.ensures.units c.in_ok-put_units.ensures.limit;
    }

pub returns-clause-limit : goal.returns-clause-limit
returns-clause-limit c =
    few-all c.loop-number.units.items c.args.files.now (c.loop-number.invariant.units ∙ ap numbered (take_all c.loop-number.number c.args.files.now (omega arith))) c.loop-number.invariant.limit
