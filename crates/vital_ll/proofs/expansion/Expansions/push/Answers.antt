use Rattle.std.proofs.Common.{◌≡◌, ◌++◌, List, length, ap, ◌∙◌, append_assoc, arith}
use Rattle.vital_ll.specs.declared.grammar.Sym.{Sym}
use Rattle.vital_ll.specs.declared.expansion.Expansions.{Expansions}
use Rattle.vital_ll.specs.Expansion.{symbols_in}
use Rattle.vital_ll.proofs.Expanding.{pass_more, passed_longer, passed_again, symbols_longer, expansion_pushed}
use Rattle.vital_ll.proofs.expansion.Expansions.push.Goals as goal
use Rattle.vital_ll.proofs.expansion.Expansions.push.Goals.{in-None+in_ok-extend_from_slice-in-None, in-Some+in_ok-repeat-in-Some+in_ok-extend_from_slice-in-Some}

pub returns-clause-expansion : goal.returns-clause-expansion
returns-clause-expansion c = λ bit are is_decided.
    let g = c.args.rules.now in
    let column = c.args.column.now in
    let old = c.args.self.now in
    let mid = c.pass_empty.new.self in
    let new = c.match-first_expansion.self in
    let chosen = c.symbols-symbols.result.now in
    let left = c.in_ok-left.left.now in
    let passed = c.in_ok-left.ensures.passed in
    let same = c.in_ok-left.ensures.symbols in
    let longer = passed_longer old mid column chosen left same passed in
    let more_start : c.len-more_start.result ≡ length old.steps.items = omega (arith, c.len-more_start.ensures, old.steps.ok.0) in
    let more_end : c.len.result ≡ length new.steps.items = omega (arith, c.len.ensures, new.steps.ok.0) in
    let symbols_start : c.len-symbols_start.result ≡ length old.symbols.items = omega (arith, c.len-symbols_start.ensures, old.symbols.ok.0) in
    let symbols_end : c.len-2.result ≡ length new.symbols.items = omega (arith, c.len-2.ensures, new.symbols.ok.0) in
    elim c.match-first_expansion.branch [
      | in-None+in_ok-extend_from_slice-in-None w ↦
          expansion_pushed g bit old new column chosen left _ c.symbols-symbols.ensures is_decided are
          (passed_again old mid new column chosen left (ap (λ (x : Expansions). x.steps.items) w.self-is) passed)
          (ap (λ (x : Expansions). x.symbols.items) w.self-is ∙ w.in_ok-extend_from_slice-in-None.ensures.items ∙ ap (λ (l : List Sym). l ++ left) same)
          more_start more_end symbols_start symbols_end
      | in-Some+in_ok-repeat-in-Some+in_ok-extend_from_slice-in-Some w ↦
          let first = w.in-Some.ensures in
          let expansion = w.in-Some.expansion in
          let rest = w.in-Some.rest.now in
          let inside = c.requires.inside first.r expansion first.has in
          expansion_pushed g bit old new column chosen (symbols_in old expansion ++ rest) _ c.symbols-symbols.ensures is_decided are
          (pass_more old mid new column chosen left rest expansion c.requires.inside longer passed first (ap (λ (x : Expansions). x.steps.items) w.self-is ∙ w.in_ok-repeat-in-Some.ensures.steps))
          (ap (λ (x : Expansions). x.symbols.items) w.self-is ∙ w.in_ok-extend_from_slice-in-Some.ensures.items
          ∙ ap (λ (l : List Sym). l ++ rest) (w.in_ok-repeat-in-Some.ensures.symbols ∙ ap (λ (l : List Sym). l ++ symbols_in mid expansion) same ∙ ap (λ (l : List Sym). old.symbols.items ++ l) (symbols_longer old mid expansion longer inside))
          ∙ append_assoc old.symbols.items (symbols_in old expansion) rest)
          more_start more_end symbols_start symbols_end
    ]
