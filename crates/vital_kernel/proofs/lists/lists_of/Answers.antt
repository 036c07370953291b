use Rattle.std.proofs.Common.{ℕ, Global, List, Vec, length, map, sym, ap, ◌∙◌, arith}
use Rattle.std.proofs.lemmas.List.{length-map}
use Rattle.vital_kernel.specs.Lists.{listening}
use Rattle.vital_kernel.proofs.ListenerLemmas.{length-listening, listed-turn}
use Rattle.vital_kernel.proofs.lists.lists_of.Goals as goal

pub loop-process-preserved : goal.loop-process-preserved
loop-process-preserved c =
    let i = c.loop-process.process in
    let s = c.index-sensitivities-process.result in
    let now : List (List ℕ) = map (λ (list : Vec ℕ Global). list.items) c.loop-process.lists.items in
    let new : List (List ℕ) = map (λ (list : Vec ℕ Global). list.items) c.listen.new.lists.items in
    let put = c.in_ok-listen.ensures ∙ ap (λ (p : ℕ). listening p now c.as_slice.result.now) c.in_ok-fitting.ensures ∙ ap (λ (ns : List ℕ). listening i now ns) c.as_slice.ensures in
    record {
      all =
          sym (length-map c.listen.new.lists.items (λ (list : Vec ℕ Global). list.items)) ∙ ap (λ (ls : List (List ℕ)). length ls) put ∙ length-listening i now s
          ∙ length-map c.loop-process.lists.items (λ (list : Vec ℕ Global). list.items) ∙ c.loop-process.invariant.all;
      listed = listed-turn c.args.sensitivities.now i s now new (omega arith) c.index-sensitivities-process.is c.loop-process.invariant.listed put;
    }
