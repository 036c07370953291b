use Rattle.std.proofs.Common.{map, take, drop, ◌+◌, sym, ◌∙◌, ap, arith}
use Rattle.std.proofs.Math.Bool.{or_comm}
use Rattle.std.specs.Prelude.{◌||◌, is_some}
use Rattle.std.specs.Option.{option_map, option_or}
use Rattle.vital_names.specs.FirstNames.{first_in}
use Rattle.vital_structure.specs.Contents.{lent}
use Rattle.vital_structure.specs.Faults.{declares, first_fault_behind, is_declared}
use Rattle.vital_structure.specs.Faults as faults
use Rattle.vital_structure.proofs.FaultLemmas.{first-more, same-fault}
use Rattle.vital_nodes.proofs.Lists.{any-seen}
use Rattle.vital_structure.proofs.faults.first_fault.Goals as goal

pub loop-content-preserved : goal.loop-content-preserved
loop-content-preserved c =
    let cs = c.args.contents.now in
    let i = c.loop-content.content-index in
    let x = c.content-item.result in
    let earlier = map lent (take i cs) in
    let others = first_fault_behind (map lent (take (i + 1) cs)) (map lent (drop (i + 1) cs)) in
    let none =
    sym (same-fault (λ q. is_some (first_in c.loop-content.names q)) (is_declared earlier) (lent x) c.loop-content.invariant.0)
    ∙ sym c.in_ok-fault.ensures.fault
    ∙ ap (option_map faults.lent) c.in_default.is in (
      λ q. c.in_ok-fault.ensures.names q
          ∙ ap (λ b. b || declares (lent x) q) (c.loop-content.invariant.0 q)
          ∙ or_comm (is_declared earlier q) (declares (lent x) q)
          ∙ sym (any-seen lent (λ k. declares k q) cs i x (omega arith) c.content-item.is),
      c.loop-content.invariant.1 ∙ first-more cs i x (omega arith) c.content-item.is ∙ ap (λ o. option_or o others) none,
    )
