use Rattle.std.proofs.Common.{◌+◌, ◌≤◌, arith, rules, vec_len}
use Rattle.std.proofs.lemmas.Grind.{common_steps}
use Rattle.vital_base.proofs.Loading.{asked_next, loads_one}
use Rattle.vital_base.proofs.load.read_file.Goals as goal

pub returns-then-taken-eq0-clause-loads_one : goal.returns-then-taken-eq0-clause-loads_one
returns-then-taken-eq0-clause-loads_one g c =
    loads_one _ _ _ _ _ _ c.loop-bytes.invariant.asked c.loop-bytes.invariant.short c.in_ok-taken.ensures.ok_is_noted

pub returns-then-taken-len-clause-loads_one : goal.returns-then-taken-len-clause-loads_one
returns-then-taken-len-clause-loads_one g c =
    loads_one _ _ _ _ _ _ c.loop-bytes.invariant.asked c.loop-bytes.invariant.short c.in_ok-taken.ensures.ok_is_noted

pub loop-bytes-preserved : goal.loop-bytes-preserved
loop-bytes-preserved g c =
    let longer : vec_len c.loop-bytes.bytes + c.in_ok-taken.taken ≤ vec_len c.extend_from_slice.new.self =
    grind (arith, common_steps) in
    let asked = asked_next c.args.name.now _ (vec_len c.extend_from_slice.new.self) _ _ _ _ c.loop-bytes.invariant.asked c.if-taken-eq0.false longer c.in_ok-taken.ensures.ok_is_noted in
    record {
      keeps_files = search rules;
      stays_steady = λ steady. c.in_ok-taken.ensures.stays_steady (c.loop-bytes.invariant.stays_steady steady);
      same_count = search rules;
      short = grind (arith, common_steps);
      asked = asked;
      leaves = grind (arith, common_steps);
    }

pub returns-in_err-extend_from_slice-clause-loads_one :
    goal.returns-in_err-extend_from_slice-clause-loads_one
returns-in_err-extend_from_slice-clause-loads_one g c =
    loads_one _ _ _ _ _ _ c.loop-bytes.invariant.asked c.loop-bytes.invariant.short c.in_ok-taken.ensures.ok_is_noted
