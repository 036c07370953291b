use Rattle.std.proofs.Common.{◌+◌, arith, rules}
use Rattle.std.proofs.lemmas.Grind.{common_steps}
use Rattle.vital_answers.proofs.Loaded.{opens_more}
use Rattle.vital_answers.proofs.loading.load_files.Goals as goal

pub returns-in_err-push-in-Ok-clause-opens : goal.returns-in_err-push-in-Ok-clause-opens
returns-in_err-push-in-Ok-clause-opens g c =
    (c.loop-file.file-index + 1, opens_more c.args.files.now c.loop-file.file-index c.file-item.result _ _ _ c.loop-file-test.true c.file-item.is c.loop-file.invariant.opens c.in-Ok.ensures.loads_one)

pub returns-in-Err-ReadFault-clause-opens : goal.returns-in-Err-ReadFault-clause-opens
returns-in-Err-ReadFault-clause-opens g c =
    (c.loop-file.file-index + 1, opens_more c.args.files.now c.loop-file.file-index c.file-item.result _ _ _ c.loop-file-test.true c.file-item.is c.loop-file.invariant.opens c.in-Err-ReadFault.ensures.loads_one)

pub returns-in-Err-TooLong-clause-opens : goal.returns-in-Err-TooLong-clause-opens
returns-in-Err-TooLong-clause-opens g c =
    (c.loop-file.file-index + 1, opens_more c.args.files.now c.loop-file.file-index c.file-item.result _ _ _ c.loop-file-test.true c.file-item.is c.loop-file.invariant.opens c.in-Err-TooLong.ensures.loads_one)

pub returns-in-Err-NoMemory-clause-opens : goal.returns-in-Err-NoMemory-clause-opens
returns-in-Err-NoMemory-clause-opens g c =
    (c.loop-file.file-index + 1, opens_more c.args.files.now c.loop-file.file-index c.file-item.result _ _ _ c.loop-file-test.true c.file-item.is c.loop-file.invariant.opens c.in-Err-NoMemory.ensures.loads_one)

pub loop-file-preserved : goal.loop-file-preserved
loop-file-preserved g c =
    let opens = opens_more c.args.files.now c.loop-file.file-index c.file-item.result _ _ _ c.loop-file-test.true c.file-item.is c.loop-file.invariant.opens c.in-Ok.ensures.loads_one in
    record {
      loaded = first_of (search rules, grind (arith, common_steps));
      files_stay = first_of (search rules, grind (arith, common_steps));
      steady_stays = first_of (search rules, grind (arith, common_steps));
      count_stays = first_of (search rules, grind (arith, common_steps));
      within = first_of (search rules, grind (arith, common_steps));
      count = first_of (search rules, grind (arith, common_steps));
      opens = opens;
    }
