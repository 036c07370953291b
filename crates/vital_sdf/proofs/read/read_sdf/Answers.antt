use Rattle.std.proofs.Common.{List, Ok, Err, sym, subst}
use Rattle.vital_ll.specs.Refusal.{IsRefusal}
use Rattle.vital_ll.specs.declared.reading.ParseError.TheVariants as parse
use Rattle.vital_lex.specs.declared.token_list.Token.{Token}
use Rattle.vital_sdf_grammar.specs.Grammar.{grammar}
use Rattle.vital_sdf.specs.Outcomes.{kinds_of}
use Rattle.vital_sdf.proofs.Answered.{OnlyLexed, fault_only, only_fault, only_refusal, only_read}
use Rattle.vital_sdf.proofs.read.read_sdf.Goals as goal

pub returns-in-Err-Text-clause-only : goal.returns-in-Err-Text-clause-only
returns-in-Err-Text-clause-only c =
    let only = fault_only c.args.text.now c.args.room c.in-Err-Text.field-0 c.in-Err-Text.fault c.in-Err-Text.field-0-is c.in-Err-Text.ensures.only in
    rw c.in-Err-Text.fault-is (only_fault c.args.file c.args.text.now c.args.room c.in-Err-Text.fault only)

pub returns-in-Err-Refused-clause-only : goal.returns-in-Err-Refused-clause-only
returns-in-Err-Refused-clause-only c =
    let list = c.as_slice-list.result.now in
    let refusal : IsRefusal grammar (kinds_of list) (parse.Refused c.in-Err-Refused.token) = rw c.in-Err-Refused.field-0-is at c.in-Err-Refused.ensures.refused in
    let only : OnlyLexed c.args.text.now c.args.room (Ok list) = subst (λ (ts : List Token). OnlyLexed c.args.text.now c.args.room (Ok ts)) (sym c.as_slice-list.ensures) c.in-Ok.ensures.only in
    rw (c.place_of-place.ensures, c.in-Err-Refused.token-is) (only_refusal c.args.file c.args.text.now c.args.room list c.in-Err-Refused.token only refusal.0 refusal.1)

pub returns-in-Ok-groups_of-clause-only : goal.returns-in-Ok-groups_of-clause-only
returns-in-Ok-groups_of-clause-only c =
    let list = c.as_slice-list.result.now in
    let only : OnlyLexed c.args.text.now c.args.room (Ok list) = subst (λ (ts : List Token). OnlyLexed c.args.text.now c.args.room (Ok ts)) (sym c.as_slice-list.ensures) c.in-Ok.ensures.only in
    only_read c.args.file c.args.text.now c.args.room list c.in-Ok-derived._tree (Ok c.in-Ok-groups_of.groups) only c.in-Ok-derived.ensures.tree c.in-Ok-groups_of.ensures

pub returns-in-Err-Fault-clause-only : goal.returns-in-Err-Fault-clause-only
returns-in-Err-Fault-clause-only c =
    let list = c.as_slice-list.result.now in
    let only : OnlyLexed c.args.text.now c.args.room (Ok list) = subst (λ (ts : List Token). OnlyLexed c.args.text.now c.args.room (Ok ts)) (sym c.as_slice-list.ensures) c.in-Ok.ensures.only in
    let read = rw c.in-Err-Fault.field-0-is at c.in-Err-Fault.ensures in
    rw (c.in-Err-Fault.why-is, c.in-Err-Fault.place-is) (only_read c.args.file c.args.text.now c.args.room list c.in-Ok-derived._tree (Err (c.in-Err-Fault.why, c.in-Err-Fault.place)) only c.in-Ok-derived.ensures.tree read)
