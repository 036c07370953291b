use Rattle.std.proofs.Common.{◌∙◌, sym}
use Rattle.vital_agenda.specs.Queues.{chain_of}
use Rattle.vital_agenda.proofs.Unlinks.{unlinks_after, after_ends}
use Rattle.vital_agenda.proofs.unlink.unlink_after.Goals as goal

pub loop-late-smaller : goal.loop-late-smaller
loop-late-smaller c =
    (unlinks_after c.args.time c.in-Some.late c.loop-late.last c.unlink-last.result (chain_of c.args.driver c.args.queue.now.entries) (chain_of c.args.driver c.loop-late.queue.entries)
    (chain_of c.args.driver c.unlink-last.new.queue.entries) (sym c.later.ensures ∙ c.in-Some.is) c.loop-late.invariant.chain c.unlink-last.ensures.before c.unlink-last.ensures.chain).less

pub loop-late-preserved : goal.loop-late-preserved
loop-late-preserved c = record {
  chain = (unlinks_after c.args.time c.in-Some.late c.loop-late.last c.unlink-last.result (chain_of c.args.driver c.args.queue.now.entries) (chain_of c.args.driver c.loop-late.queue.entries)
      (chain_of c.args.driver c.unlink-last.new.queue.entries) (sym c.later.ensures ∙ c.in-Some.is) c.loop-late.invariant.chain c.unlink-last.ensures.before c.unlink-last.ensures.chain).next;
  others = λ other apart. c.unlink-last.ensures.others other apart ∙ c.loop-late.invariant.others other apart;
}

pub returns-clause-chain : goal.returns-clause-chain
returns-clause-chain c =
    after_ends c.args.time c.loop-late.last (chain_of c.args.driver c.args.queue.now.entries) (chain_of c.args.driver c.loop-late.queue.entries)
    (sym c.later.ensures ∙ c.in_default.is) c.loop-late.invariant.chain
