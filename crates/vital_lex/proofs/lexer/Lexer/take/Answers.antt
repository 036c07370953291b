use Rattle.std.proofs.Common.{◌≡◌, ◌∷◌, [], ◌++◌, sym, ap, subst, ◌∙◌}
use Rattle.vital_lex.specs.Outcome.{IsRefused}
use Rattle.vital_lex.specs.declared.faults.TextFault.{TextFault}
use Rattle.vital_lex.specs.declared.faults.TextFault.TheVariants as variant
use Rattle.vital_lex.proofs.Readings.{depth_limit, refused_full, refused_deep, taken}
use Rattle.vital_lex.proofs.lexer.Lexer.take.Goals as goal

pub nesting_after-nesting-requires : goal.nesting_after-nesting-requires
nesting_after-nesting-requires g c = depth_limit g.L.Lexicon.lexicon g.met.L.Lexicon.is_lexicon c.args.self.now c.requires.reading

pub returns-then-len-self-clause-refused : goal.returns-then-len-self-clause-refused
returns-then-len-self-clause-refused g c = λ fault same.
    let lexer = c.args.self.now in
    let refused = refused_full g.L.Lexicon.lexicon g.met.L.Lexicon.is_lexicon lexer c.requires.reading c.requires.separated c.args.found.kind c.args.found.end c.requires.lexeme (sym c.len.ensures ∙ c.if-len-self.true) in
    let this_fault : variant.TooManyTokens lexer.at ≡ fault = cc in
    subst (λ (f : TextFault). IsRefused g.L.Lexicon.lexicon lexer.text.now lexer.room f) this_fault refused

pub returns-then-nesting-gt-DEPTH-clause-refused : goal.returns-then-nesting-gt-DEPTH-clause-refused
returns-then-nesting-gt-DEPTH-clause-refused g c = λ fault same.
    let lexer = c.args.self.now in
    let refused =
    refused_deep g.L.Lexicon.lexicon g.met.L.Lexicon.is_lexicon lexer c.requires.reading c.requires.separated c.args.found.kind c.args.found.end c.requires.lexeme
    c.nesting_after-nesting.result c.nesting_after-nesting.ensures (λ e. c.if-len-self.false (c.len.ensures ∙ e)) c.if-nesting-gt-DEPTH.true in
    let this_fault : variant.TooDeep lexer.at ≡ fault = cc in
    subst (λ (f : TextFault). IsRefused g.L.Lexicon.lexicon lexer.text.now lexer.room f) this_fault refused

pub returns-clause-ok : goal.returns-clause-ok
returns-clause-ok g c =
    taken g.L.Lexicon.lexicon g.met.L.Lexicon.is_lexicon c.args.self.now c.requires.reading c.requires.separated c.args.found.kind c.args.found.end c.requires.lexeme
    c.nesting_after-nesting.result c.nesting_after-nesting.ensures (λ e. c.if-len-self.false (c.len.ensures ∙ e)) c.if-nesting-gt-DEPTH.false c.push.new.self
    (c.in_ok-push.ensures.items ∙ ap (λ k. c.args.self.now.tokens.items ++ (record { kind = k; start = c.args.self.now.at; end = c.args.found.end }) ∷ []) c.number.ensures)
