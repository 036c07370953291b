use Rattle.std.proofs.Common.{List, Ok, sym, subst}
use Rattle.vital_ll.specs.Refusal.{IsRefusal}
use Rattle.vital_ll.specs.declared.reading.ParseError.TheVariants as parse
use Rattle.vital_lex.specs.Pieces.{Lexes}
use Rattle.vital_vhdl_lexemes.specs.Vhdl.{vhdl}
use Rattle.vital_lex.specs.declared.token_list.Token.{Token}
use Rattle.vital_grammar.specs.Grammar.{grammar}
use Rattle.vital_shapes.specs.Reading.{kinds_of}
use Rattle.vital_vhdl.proofs.Answered.{OnlyLexed, fault_only, only_fault, only_refusal, only_units}
use Rattle.vital_vhdl.proofs.IdentifierNames.{names_of_text}
use Rattle.vital_vhdl.proofs.read.read_units.Goals as goal

pub shaped-requires-clause-names : goal.shaped-requires-clause-names
shaped-requires-clause-names c = names_of_text c.args.text.now c.as_slice-list.result.now (subst (Lexes vhdl c.args.text.now) (sym c.as_slice-list.ensures) c.in-Ok.ensures.lexes)

pub returns-in-Err-Text-clause-only : goal.returns-in-Err-Text-clause-only
returns-in-Err-Text-clause-only c =
    let only = fault_only c.args.text.now c.args.room c.in-Err-Text.field-0 c.in-Err-Text.fault c.in-Err-Text.field-0-is c.in-Err-Text.ensures.only in
    rw c.in-Err-Text.fault-is (only_fault c.args.file c.args.role c.args.text.now c.args.room c.in-Err-Text.fault only)

pub returns-in-Err-Refused-clause-only : goal.returns-in-Err-Refused-clause-only
returns-in-Err-Refused-clause-only c =
    let list = c.as_slice-list.result.now in
    let refusal : IsRefusal grammar (kinds_of list) (parse.Refused c.in-Err-Refused.token) = rw c.in-Err-Refused.field-0-is at c.in-Err-Refused.ensures.refused in
    let only : OnlyLexed c.args.text.now c.args.room (Ok list) = subst (λ (ts : List Token). OnlyLexed c.args.text.now c.args.room (Ok ts)) (sym c.as_slice-list.ensures) c.in-Ok.ensures.only in
    rw (c.place_of-place.ensures, c.in-Err-Refused.token-is) (only_refusal c.args.file c.args.role c.args.text.now c.args.room list c.in-Err-Refused.token only refusal.0 refusal.1)

pub returns-clause-only : goal.returns-clause-only
returns-clause-only c =
    let list = c.as_slice-list.result.now in
    let only : OnlyLexed c.args.text.now c.args.room (Ok list) = subst (λ (ts : List Token). OnlyLexed c.args.text.now c.args.room (Ok ts)) (sym c.as_slice-list.ensures) c.in-Ok.ensures.only in
    let shaped = rw c.steps.ensures at c.in_ok-units.ensures in
    (only_units c.args.file c.args.role c.args.text.now c.args.room list c.in-Ok-derived.tree c.in_ok-units.units only c.in-Ok-derived.ensures.tree c.in-Ok-derived.ensures.only shaped)
