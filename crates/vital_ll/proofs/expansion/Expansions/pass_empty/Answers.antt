use Rattle.std.proofs.Common.{length, subst, refl}
use Rattle.std.specs.List.{All}
use Rattle.std.proofs.lemmas.List.Elements.{All-tail}
use Rattle.vital_ll.specs.declared.grammar.Sym.TheVariants.{Rule}
use Rattle.vital_ll.specs.Choice.{IsNamed}
use Rattle.vital_ll.proofs.Expanding.{pass_start, pass_empty, passed_longer, same_symbols}
use Rattle.vital_ll.proofs.expansion.Expansions.pass_empty.Goals as goal

pub loop-expansion-init : goal.loop-expansion-init
loop-expansion-init c = record { named = c.requires.named; symbols = refl; passed = pass_start c.args.self.now c.args.column.now c.args.symbols.now }

pub loop-expansion-preserved : goal.loop-expansion-preserved
loop-expansion-preserved c =
    let old = c.args.self.now in
    let mid = c.loop-expansion.self in
    let new = c.repeat.new.self in
    let before = c.loop-expansion.invariant in
    let expansion = c.in-Some.expansion in
    let first = c.in-Some.ensures in
    record {
      named = All-tail (IsNamed (length c.args.column.now)) (Rule first.r) c.in-Some.rest.now (subst (All (IsNamed (length c.args.column.now))) first.symbols_are before.named);
      symbols = same_symbols old mid new expansion before.symbols c.in_ok-repeat.ensures.symbols c.if-expansion.false;
      passed = pass_empty old mid new c.args.column.now c.args.symbols.now c.loop-expansion.left.now c.in-Some.rest.now expansion c.requires.inside
          (passed_longer old mid c.args.column.now c.args.symbols.now c.loop-expansion.left.now before.symbols before.passed) before.passed first c.in_ok-repeat.ensures.steps c.if-expansion.false;
    }
