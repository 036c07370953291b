use Rattle.std.proofs.Common.{◌∙◌, ap, sym}
use Rattle.std.specs.Option.{option_and_then}
use Rattle.vital_agenda.specs.declared.entry.Entry.{Entry}
use Rattle.vital_agenda.specs.Queues.{chain_of}
use Rattle.vital_agenda.proofs.Chains.{chain_of_remove, entry_in_chain, others_of_remove}
use Rattle.vital_agenda.proofs.unlink.unlink.Goals as goal

pub returns-in-Some-clause-before : goal.returns-in-Some-clause-before
returns-in-Some-clause-before c =
    let there = sym c.in-Some.is ∙ c.remove.ensures.value ∙ entry_in_chain c.args.time c.args.driver c.args.queue.now.entries c.requires in
    ap (option_and_then (λ (entry : Entry). entry.before)) there

pub returns-in-Some-clause-chain : goal.returns-in-Some-clause-chain
returns-in-Some-clause-chain c =
    ap (chain_of c.args.driver) c.remove.ensures.entries ∙ chain_of_remove c.args.time c.args.driver c.args.queue.now.entries c.requires

pub returns-in-Some-clause-others : goal.returns-in-Some-clause-others
returns-in-Some-clause-others c =
    λ other apart. ap (chain_of other) c.remove.ensures.entries ∙ others_of_remove c.args.time c.args.driver other c.args.queue.now.entries apart

pub returns-in-None-clause-before : goal.returns-in-None-clause-before
returns-in-None-clause-before c =
    let none = sym c.in-None.is ∙ c.remove.ensures.value ∙ entry_in_chain c.args.time c.args.driver c.args.queue.now.entries c.requires in
    ap (option_and_then (λ (entry : Entry). entry.before)) none

pub returns-in-None-clause-chain : goal.returns-in-None-clause-chain
returns-in-None-clause-chain c =
    ap (chain_of c.args.driver) c.remove.ensures.entries ∙ chain_of_remove c.args.time c.args.driver c.args.queue.now.entries c.requires
