use Rattle.std.proofs.Common.{◌+◌, ◌∷◌, ◌++◌, List, [], drop, length, sym, ◌∙◌, ap, subst, arith}
use Rattle.vital_cell.specs.Environments.{NamedWorth}
use Rattle.vital_cell.specs.Scopes.{lent, named_worths}
use Rattle.vital_cell.specs.Values.{AreSoundIn, named_worth, with_constants}
use Rattle.vital_cell.proofs.ValueLemmas.{next-name, sound-turn, worths-turn}
use Rattle.vital_cell.proofs.constants.put_worths.Goals as goal

pub put_worth-requires-clause-next : goal.put_worth-requires-clause-next
put_worth-requires-clause-next c =
    next-name c.args.scope.now.constants.now c.args.constants.now (length c.args.worths.now.items) (length c.loop-constant.worths.items) c.loop-constant.constant-index c.constant-item.result
    c.loop-constant-test.true c.constant-item.is c.loop-constant.invariant.longer c.requires.names

pub put_worth-requires-clause-sound : goal.put_worth-requires-clause-sound
put_worth-requires-clause-sound c =
    (sound-turn (lent c.args.scope.now) (named_worths c.args.scope.now.constants.now c.loop-constant.worths.items) c.args.constants.now c.loop-constant.constant-index c.constant-item.result
    c.loop-constant-test.true c.constant-item.is c.loop-constant.invariant.sound).here

pub loop-constant-preserved : goal.loop-constant-preserved
loop-constant-preserved c =
    let k = lent c.args.scope.now in
    let names = c.args.scope.now.constants.now in
    let cs = c.args.constants.now in
    let i = c.loop-constant.constant-index in
    let x = c.constant-item.result in
    let first = named_worths names c.args.worths.now.items in
    let turn = sound-turn k (named_worths names c.loop-constant.worths.items) cs i x c.loop-constant-test.true c.constant-item.is c.loop-constant.invariant.sound in
    let P : List NamedWorth → Type 0 = λ ns. AreSoundIn k ns (drop (i + 1) cs) in
    record {
      worths =
          c.in_ok-put_worth.ensures.worths
          ∙ ap (λ ns. ns ++ named_worth (with_constants k ns) x ∷ []) c.loop-constant.invariant.worths
          ∙ sym (worths-turn k first cs i x c.loop-constant-test.true c.constant-item.is);
      longer = omega (arith, c.in_ok-put_worth.ensures.longer, c.loop-constant.invariant.longer);
      sound = subst P (sym c.in_ok-put_worth.ensures.worths) turn.rest;
    }
