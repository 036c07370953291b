use Rattle.std.proofs.Common.{◌≡◌, ℕ, Option, Some, None, ◌∙◌, ap, sym}
use Rattle.std.specs.Option.{option_copied_mut}
use Rattle.std.specs.BTreeMap.{BTreeMap, is_at}
use Rattle.std.specs.Map.{lookup}
use Rattle.vital_agenda.specs.declared.entry.Entry.{Entry}
use Rattle.vital_agenda.specs.Queues.{chain_of}
use Rattle.vital_agenda.proofs.Keys.{Key, key_cmp}
use Rattle.vital_agenda.proofs.Chains.{chain_of_first, entry_in_chain, first_entry, others_of_first, unmarked_none}
use Rattle.vital_agenda.proofs.Unlinks.{ended_at}
use Rattle.vital_agenda.proofs.unlink.make_first.Goals as goal

pub returns-in-Some-get_mut-clause-chain : goal.returns-in-Some-get_mut-clause-chain
returns-in-Some-get_mut-clause-chain c =
    let entry = c.in-Some-get_mut.entry.now in
    let there : lookup (is_at (key_cmp (c.in-Some.time, c.args.driver))) c.args.queue.now.entries ≡ Some entry = sym c.get_mut.ensures.value ∙ ap option_copied_mut c.in-Some-get_mut.is in
    ap (chain_of c.args.driver) (c.get_mut.follows.holds (first_entry entry)).0
    ∙ chain_of_first c.in-Some.time c.args.driver entry c.args.queue.now.entries c.requires there
    ∙ ap (λ (t : Option ℕ). ended_at t (chain_of c.args.driver c.args.queue.now.entries)) (sym c.in-Some.is)

pub returns-in-Some-get_mut-clause-others : goal.returns-in-Some-get_mut-clause-others
returns-in-Some-get_mut-clause-others c =
    let entry = first_entry c.in-Some-get_mut.entry.now in
    λ other apart. ap (chain_of other) (c.get_mut.follows.holds entry).0 ∙ others_of_first c.in-Some.time c.args.driver other entry c.args.queue.now.entries apart

pub returns-in_default-get_mut-clause-chain : goal.returns-in_default-get_mut-clause-chain
returns-in_default-get_mut-clause-chain c =
    let none : lookup (is_at (key_cmp (c.in-Some.time, c.args.driver))) c.args.queue.now.entries ≡ None = sym c.get_mut.ensures.value ∙ ap option_copied_mut c.in_default-get_mut.is in
    let none_there = sym (entry_in_chain c.in-Some.time c.args.driver c.args.queue.now.entries c.requires) ∙ none in
    ap (λ (m : BTreeMap Key Entry). chain_of c.args.driver m.entries) c.get_mut.follows.holds-at-none
    ∙ sym (unmarked_none c.in-Some.time (chain_of c.args.driver c.args.queue.now.entries) none_there)
    ∙ ap (λ (t : Option ℕ). ended_at t (chain_of c.args.driver c.args.queue.now.entries)) (sym c.in-Some.is)
