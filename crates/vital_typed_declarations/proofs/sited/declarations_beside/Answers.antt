use Rattle.std.proofs.Common.{refl, arith}
use Rattle.std.specs.Option.{option_copied}
use Rattle.vital_typed_declarations.proofs.BesideLemmas.{beside_end, beside_more}
use Rattle.vital_typed_declarations.proofs.sited.declarations_beside.Goals as goal

pub loop-declaration-preserved : goal.loop-declaration-preserved
loop-declaration-preserved g c =
    beside_more c.args.unit (option_copied c.args.process) c.loop-declaration.places.now c.in-Some.others.now c.in-Some.viewpoint.now c.args.declarations.now c.loop-declaration.declaration-index c.declaration-item.result _ c.loop-declaration.all.items c.push.new.self.items _ (omega arith) c.declaration-item.is c.in-Some.ensures.cases.0 c.in_ok-push.ensures.items refl c.loop-declaration.invariant

pub returns : goal.returns
returns g c =
    beside_end c.args.unit (option_copied c.args.process) c.loop-declaration.places.now c.args.declarations.now c.loop-declaration.declaration-index _ _ (omega arith) c.loop-declaration.invariant
