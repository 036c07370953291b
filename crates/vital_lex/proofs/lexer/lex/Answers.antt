use Rattle.std.proofs.Common.{◌≡◌, ℕ, List, [], length, refl, sym, ap, subst, ◌∙◌, arith, Ok, Err}
use Rattle.std.proofs.lemmas.Result.{err_from_is_err_and}
use Rattle.vital_lex.specs.Outcome.{IsOutcome, Reaches}
use Rattle.vital_lex.specs.Pieces.{empty}
use Rattle.vital_lex.proofs.Limits.{nesting-none, within_none}
use Rattle.vital_lex.proofs.Outcomes.{same_outcome}
use Rattle.vital_lex.specs.declared.faults.TextFault.TheVariants as fault
use Rattle.vital_lex.proofs.Refusals.{fault_place, Refuses, handed_on, answer_refused, answer_gives}
use Rattle.vital_lex.proofs.lexer.lex.Goals as goal
use Rattle.vital_lex.proofs.lexer.lex.Goals.{After-drop-lexer, After-from_vec}

pub pass_separators-requires : goal.pass_separators-requires
pass_separators-requires g c = record {
  size = c.requires;
  inside = omega arith;
  lexemes = [];
  read = record {
    reaches = record { row = empty; within = within_none g.L.Lexicon.lexicon c.args.room };
    tokens_are = c.new.ensures.items;
    before_is = refl;
    nesting_is = sym (nesting-none g.L.Lexicon.lexicon);
  };
}

pub loop-lexer-init : goal.loop-lexer-init
loop-lexer-init g c = record {
  text_is = c.pass_separators.ensures.same.0;
  room_is = c.pass_separators.ensures.same.1;
  reading = c.pass_separators.ensures.reading;
  separated = c.pass_separators.ensures.stops;
}

pub advance-requires-clause-reading : goal.advance-requires-clause-reading
advance-requires-clause-reading g c = c.loop-lexer.invariant.reading

pub advance-requires-clause-inside : goal.advance-requires-clause-inside
advance-requires-clause-inside g c = omega (arith, ap length c.loop-lexer.invariant.text_is)

pub loop-lexer-preserved : goal.loop-lexer-preserved
loop-lexer-preserved g c =
    let after = c.pass_separators-in-loop-lexer.ensures in
    record {
      text_is = after.same.0 ∙ c.in_ok-advance.ensures.same.0 ∙ c.loop-lexer.invariant.text_is;
      room_is = after.same.1 ∙ c.in_ok-advance.ensures.same.1 ∙ c.loop-lexer.invariant.room_is;
      reading = after.reading;
      separated = after.stops;
    }

-- the lexer's refusal is handed on
refuses : (g : _) (c : After-drop-lexer g) → Refuses g.L.Lexicon.lexicon c.args.text.now c.args.room c.in_err-advance.field-0.0
refuses g c = handed_on g.L.Lexicon.lexicon _ _ _ _ c.in_err-advance.field-0.0 c.in_err-advance.ensures.refused c.loop-lexer.invariant.text_is c.loop-lexer.invariant.room_is

pub returns-in_err-advance-clause-refused : goal.returns-in_err-advance-clause-refused
returns-in_err-advance-clause-refused g c =
    let p = err_from_is_err_and c.from_residual.result c.from_residual.ensures.1 in
    answer_refused g.L.Lexicon.lexicon g.met.L.Lexicon.is_lexicon c.args.text.now c.args.room c.from_residual.result c.in_err-advance.field-0.0 (p.1 ∙ ap Err p.2) (refuses g (goal.at.returns-in_err-advance-clause-refused g c).After-drop-lexer)

pub returns-in_err-advance-clause-faults : goal.returns-in_err-advance-clause-faults
returns-in_err-advance-clause-faults g c = λ offset why same.
    let p = err_from_is_err_and c.from_residual.result c.from_residual.ensures.1 in
    fault_place g.L.Lexicon.lexicon c.args.text.now c.args.room offset why (answer_refused g.L.Lexicon.lexicon g.met.L.Lexicon.is_lexicon c.args.text.now c.args.room c.from_residual.result c.in_err-advance.field-0.0 (p.1 ∙ ap Err p.2) (refuses g (goal.at.returns-in_err-advance-clause-faults g c).After-drop-lexer) (fault.Fault offset why) same)

pub returns-in_err-advance-clause-only : goal.returns-in_err-advance-clause-only
returns-in_err-advance-clause-only g c =
    let p = err_from_is_err_and c.from_residual.result c.from_residual.ensures.1 in
    answer_gives g.L.Lexicon.lexicon g.met.L.Lexicon.is_lexicon c.args.text.now c.args.room c.from_residual.result c.in_err-advance.field-0.0 (p.1 ∙ ap Err p.2) (refuses g (goal.at.returns-in_err-advance-clause-only g c).After-drop-lexer)

-- the text is read to its end
whole : (g : _) (c : After-from_vec g) → IsOutcome g.L.Lexicon.lexicon c.args.text.now c.args.room (Ok c.from_vec.result)
whole g c =
    let lexer = c.loop-lexer.lexer in
    let reading = c.loop-lexer.invariant.reading in
    let text_is = c.loop-lexer.invariant.text_is in
    let at_end : lexer.at ≡ length c.args.text.now = omega (arith, ap length text_is, reading.inside) in (
      reading.lexemes,
      subst (λ (a : ℕ). Reaches g.L.Lexicon.lexicon c.args.text.now c.args.room a reading.lexemes) at_end
          (subst (λ (t : List ℕ). Reaches g.L.Lexicon.lexicon t c.args.room lexer.at reading.lexemes) text_is
          (subst (λ (r : ℕ). Reaches g.L.Lexicon.lexicon lexer.text.now r lexer.at reading.lexemes) c.loop-lexer.invariant.room_is reading.read.reaches)),
      c.from_vec.ensures ∙ reading.read.tokens_are,
    )

pub returns-clause-lexes : goal.returns-clause-lexes
returns-clause-lexes g c = let w = whole g (goal.at.returns-clause-lexes g c).After-from_vec in (w.0, w.1.row, w.2)

pub returns-clause-read : goal.returns-clause-read
returns-clause-read g c = whole g (goal.at.returns-clause-read g c).After-from_vec

pub returns-clause-only : goal.returns-clause-only
returns-clause-only g c = λ outcome is. same_outcome g.L.Lexicon.lexicon g.met.L.Lexicon.is_lexicon c.args.text.now c.args.room (Ok c.from_vec.result) outcome (whole g (goal.at.returns-clause-only g c).After-from_vec) is
