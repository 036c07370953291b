use Rattle.std.proofs.Common.{◌∙◌, refl}
use Rattle.vital_agenda.specs.Queues.{chain_of, later_than}
use Rattle.vital_agenda.proofs.Unlinks.{unlinks_back, back_starts, back_ends}
use Rattle.vital_agenda.proofs.unlink.unlink_back.Goals as goal

pub loop-last-init : goal.loop-last-init
loop-last-init c = record {
  chain = back_starts c.args.last (chain_of c.args.driver c.args.queue.now.entries) c.requires.falls c.requires.chain c.requires.there;
  others = λ other apart. refl;
}

pub loop-last-smaller : goal.loop-last-smaller
loop-last-smaller c =
    (unlinks_back c.in-Some.time c.loop-last.last c.unlink-last.result (later_than c.args.last (chain_of c.args.driver c.args.queue.now.entries)) (chain_of c.args.driver c.loop-last.queue.entries)
    (chain_of c.args.driver c.unlink-last.new.queue.entries) c.in-Some.is c.loop-last.invariant.chain c.unlink-last.ensures.before c.unlink-last.ensures.chain).less

pub loop-last-preserved : goal.loop-last-preserved
loop-last-preserved c = record {
  chain = (unlinks_back c.in-Some.time c.loop-last.last c.unlink-last.result (later_than c.args.last (chain_of c.args.driver c.args.queue.now.entries)) (chain_of c.args.driver c.loop-last.queue.entries)
      (chain_of c.args.driver c.unlink-last.new.queue.entries) c.in-Some.is c.loop-last.invariant.chain c.unlink-last.ensures.before c.unlink-last.ensures.chain).next;
  others = λ other apart. c.unlink-last.ensures.others other apart ∙ c.loop-last.invariant.others other apart;
}

pub returns-clause-chain : goal.returns-clause-chain
returns-clause-chain c =
    back_ends c.loop-last.last (later_than c.args.last (chain_of c.args.driver c.args.queue.now.entries)) (chain_of c.args.driver c.loop-last.queue.entries) c.in_default.is c.loop-last.invariant.chain
