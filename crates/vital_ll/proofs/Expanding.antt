-- What rules come to, and how expansions are made.
use Rattle.std.proofs.Common.{◌≡◌, ℕ, ◌-◌, ◌≤◌, List, [], ◌∷◌, ◌++◌, length, take, drop, Option, Some, slice_range, sym, ap, ◌∙◌, subst, append_assoc, length-append, length-drop, arith}
use Rattle.std.proofs.Math.Seq.{drop-append_seam}
use Rattle.std.proofs.lemmas.List.{append-nil, take_all, take-append-le, drop-append-le}
use Rattle.vital_ll.specs.declared.grammar.Sym.{Sym}
use Rattle.vital_ll.specs.declared.grammar.Sym.TheVariants.{Rule}
use Rattle.vital_ll.specs.declared.derivation.Step.{Step}
use Rattle.vital_ll.specs.declared.expansion.Expansion.{Expansion}
use Rattle.vital_ll.specs.declared.expansion.Expansions.{Expansions}
use Rattle.vital_ll.specs.Grammar.{Grammar, alternative_of}
use Rattle.vital_ll.specs.Listing.{step}
use Rattle.vital_ll.specs.Expansion.{IsDecided, Expands, nothing, replaced, IsInside, AreInside, more_in, steps_in, symbols_in, IsExpansion, AreExpansions, IsLonger, AreLonger, IsFirstExpansion, IsPassed}

-- symbols that come after the first ones stay
pub Expands-before : {g : Grammar} {bit : ℕ} {symbols left : List Sym} {steps : List Step} (after : List Sym) → Expands g bit symbols left steps → Expands g bit (symbols ++ after) (left ++ after) steps
Expands-before after nothing = nothing
Expands-before {g} {bit} {left = left} after (replaced {chosen = chosen} {rest = rest} {steps = steps} is decided d) =
    replaced is decided (subst (λ (l : List Sym). Expands g bit l (left ++ after) steps) (append_assoc chosen rest after) (Expands-before after d))

-- what symbols come to comes to more
Expands-append : {g : Grammar} {bit : ℕ} {symbols mid left : List Sym} {steps more : List Step} → Expands g bit symbols mid steps → Expands g bit mid left more → Expands g bit symbols left (steps ++ more)
Expands-append nothing e = e
Expands-append (replaced is decided d) e = replaced is decided (Expands-append d e)

-- a rule comes to what the alternative comes to that is decided for
pub Expands-rule : (g : Grammar) (bit r a : ℕ) (chosen left : List Sym) (steps : List Step) → alternative_of g r a ≡ Some chosen → IsDecided g bit r a → Expands g bit chosen left steps →
    Expands g bit (Rule r ∷ []) left (step r a ∷ steps)
Expands-rule g bit r a chosen left steps is decided d = replaced is decided (subst (λ (l : List Sym). Expands g bit l left steps) (sym (append-nil chosen)) d)

-- symbols go on to what their first rule comes to
pub Expands-first : (g : Grammar) (bit s : ℕ) (symbols mid rest left : List Sym) (steps more : List Step) → Expands g bit symbols mid steps → mid ≡ Rule s ∷ rest → Expands g bit (Rule s ∷ []) left more →
    Expands g bit symbols (left ++ rest) (steps ++ more)
Expands-first g bit s symbols mid rest left steps more d mid_is e =
    Expands-append d (subst (λ (l : List Sym). Expands g bit l (left ++ rest) more) (sym mid_is) (Expands-before rest e))

pub range_longer : {A : Type 0} (old more : List A) (start end : ℕ) → start ≤ end → end ≤ length old → slice_range (old ++ more) start end ≡ slice_range old start end
range_longer old more start end order inside =
    ap (λ l. take (end - start) l) (drop-append-le start old more (omega arith))
    ∙ take-append-le (end - start) (drop start old) more (let n : length (drop start old) ≡ length old - start = length-drop start old in omega arith)

-- what was appended is the last part
range_last : {A : Type 0} (old more new : List A) (start end : ℕ) → new ≡ old ++ more → start ≡ length old → end ≡ length new → slice_range new start end ≡ more
range_last old more new start end new_is start_is end_is =
    ap (λ l. slice_range l start end) new_is
    ∙ ap (λ k. take (end - k) (drop k (old ++ more))) start_is
    ∙ ap (λ l. take (end - length old) l) (drop-append_seam old more)
    ∙ take_all (end - length old) more (let s = ap length new_is ∙ length-append old more in omega arith)

longer_more : {A : Type 0} (old mid new : List A) → IsLonger old mid → IsLonger mid new → IsLonger old new
longer_more old mid new (first, e) (more, f) = (first ++ more, f ∙ ap (λ l. l ++ more) e ∙ append_assoc old first more)

pub longer_both : (old mid new : Expansions) → AreLonger old mid → AreLonger mid new → AreLonger old new
longer_both old mid new h i = record {
  steps = longer_more old.steps.items mid.steps.items new.steps.items h.steps i.steps;
  symbols = longer_more old.symbols.items mid.symbols.items new.symbols.items h.symbols i.symbols;
}

pub longer_self : (expansions : Expansions) → AreLonger expansions expansions
longer_self expansions = record { steps = ([], sym (append-nil expansions.steps.items)); symbols = ([], sym (append-nil expansions.symbols.items)) }

inside_longer : (old new : Expansions) (expansion : Expansion) → AreLonger old new → IsInside old expansion → IsInside new expansion
inside_longer old new expansion longer i = record {
  steps_order = i.steps_order;
  steps = let s = longer.steps in let n = ap length s.1 ∙ length-append old.steps.items s.0 in let h = i.steps in omega arith;
  symbols_order = i.symbols_order;
  symbols = let s = longer.symbols in let n = ap length s.1 ∙ length-append old.symbols.items s.0 in let h = i.symbols in omega arith;
}

more_longer : (old new : Expansions) (expansion : Expansion) → AreLonger old new → IsInside old expansion → more_in new expansion ≡ more_in old expansion
more_longer old new expansion longer i =
    let s = longer.steps in ap (λ (l : List Step). slice_range l expansion.more.start expansion.more.end) s.1 ∙ range_longer old.steps.items s.0 expansion.more.start expansion.more.end i.steps_order i.steps

pub steps_longer : (old new : Expansions) (expansion : Expansion) → AreLonger old new → IsInside old expansion → steps_in new expansion ≡ steps_in old expansion
steps_longer old new expansion longer i = ap (λ (l : List Step). expansion.step ∷ l) (more_longer old new expansion longer i)

pub symbols_longer : (old new : Expansions) (expansion : Expansion) → AreLonger old new → IsInside old expansion → symbols_in new expansion ≡ symbols_in old expansion
symbols_longer old new expansion longer i =
    let s = longer.symbols in ap (λ (l : List Sym). slice_range l expansion.symbols.start expansion.symbols.end) s.1 ∙ range_longer old.symbols.items s.0 expansion.symbols.start expansion.symbols.end i.symbols_order i.symbols

-- expansions stay where more are appended
pub expansion_longer : (g : Grammar) (bit r : ℕ) (old new : Expansions) (expansion : Expansion) → AreLonger old new → IsExpansion g bit old r expansion → IsExpansion g bit new r expansion
expansion_longer g bit r old new expansion longer h = record {
  inside = inside_longer old new expansion longer h.inside;
  expands = subst (λ (l : List Sym). Expands g bit (Rule r ∷ []) l (steps_in new expansion)) (sym (symbols_longer old new expansion longer h.inside))
      (subst (λ (l : List Step). Expands g bit (Rule r ∷ []) (symbols_in old expansion) l) (sym (steps_longer old new expansion longer h.inside)) h.expands);
}

-- before any step is appended
pub pass_start : (expansions : Expansions) (column : List (Option Expansion)) (symbols : List Sym) → IsPassed expansions expansions column symbols symbols
pass_start expansions column symbols = record { steps = []; steps_are = sym (append-nil expansions.steps.items); expands = λ g bit are. nothing }

-- the steps of one more expansion are appended
pub pass_more : (old mid new : Expansions) (column : List (Option Expansion)) (symbols left rest : List Sym) (expansion : Expansion) → AreInside old column → AreLonger old mid → IsPassed old mid column symbols left →
    IsFirstExpansion left column expansion rest → new.steps.items ≡ mid.steps.items ++ steps_in mid expansion → IsPassed old new column symbols (symbols_in old expansion ++ rest)
pass_more old mid new column symbols left rest expansion inside longer p f new_is = record {
  steps = p.steps ++ steps_in old expansion;
  steps_are = new_is ∙ ap (λ (l : List Step). mid.steps.items ++ l) (steps_longer old mid expansion longer (inside f.r expansion f.has))
      ∙ ap (λ (l : List Step). l ++ steps_in old expansion) p.steps_are ∙ append_assoc old.steps.items p.steps (steps_in old expansion);
  expands = λ g bit are. Expands-first g bit f.r symbols left rest (symbols_in old expansion) p.steps (steps_in old expansion) (p.expands g bit are) f.symbols_are (are f.r expansion f.has).expands;
}

empty_range : {A : Type 0} (l : List A) (start end : ℕ) → end ≤ start → slice_range l start end ≡ []
empty_range l start end h = ap (λ n. take n (drop start l)) (let e : end - start ≡ 0 = omega arith in e)

-- and where it leaves nothing, the symbols after its rule are left
pub pass_empty : (old mid new : Expansions) (column : List (Option Expansion)) (symbols left rest : List Sym) (expansion : Expansion) → AreInside old column → AreLonger old mid → IsPassed old mid column symbols left →
    IsFirstExpansion left column expansion rest → new.steps.items ≡ mid.steps.items ++ steps_in mid expansion → expansion.symbols.end ≤ expansion.symbols.start → IsPassed old new column symbols rest
pass_empty old mid new column symbols left rest expansion inside longer p f new_is none =
    subst (IsPassed old new column symbols) (ap (λ (l : List Sym). l ++ rest) (empty_range old.symbols.items expansion.symbols.start expansion.symbols.end none)) (pass_more old mid new column symbols left rest expansion inside longer p f new_is)

pub same_symbols : (old mid new : Expansions) (expansion : Expansion) → mid.symbols.items ≡ old.symbols.items → new.symbols.items ≡ mid.symbols.items ++ symbols_in mid expansion → expansion.symbols.end ≤ expansion.symbols.start → new.symbols.items ≡ old.symbols.items
same_symbols old mid new expansion mid_is new_is none =
    new_is ∙ ap (λ (l : List Sym). mid.symbols.items ++ l) (empty_range mid.symbols.items expansion.symbols.start expansion.symbols.end none) ∙ append-nil mid.symbols.items ∙ mid_is

pub passed_longer : (old new : Expansions) (column : List (Option Expansion)) (symbols left : List Sym) → new.symbols.items ≡ old.symbols.items → IsPassed old new column symbols left → AreLonger old new
passed_longer old new column symbols left same p = record { steps = (p.steps, p.steps_are); symbols = ([], same ∙ sym (append-nil old.symbols.items)) }

pub passed_again : (old mid new : Expansions) (column : List (Option Expansion)) (symbols left : List Sym) → new.steps.items ≡ mid.steps.items → IsPassed old mid column symbols left → IsPassed old new column symbols left
passed_again old mid new column symbols left same p = record { steps = p.steps; steps_are = same ∙ p.steps_are; expands = p.expands }

-- what is appended is an expansion
pub expansion_pushed : (g : Grammar) (bit : ℕ) (old new : Expansions) (column : List (Option Expansion)) (chosen left : List Sym) (expansion : Expansion) → alternative_of g expansion.step.rule expansion.step.alternative ≡ Some chosen → IsDecided g bit expansion.step.rule expansion.step.alternative →
    AreExpansions g bit old column → IsPassed old new column chosen left → new.symbols.items ≡ old.symbols.items ++ left →
    expansion.more.start ≡ length old.steps.items → expansion.more.end ≡ length new.steps.items → expansion.symbols.start ≡ length old.symbols.items → expansion.symbols.end ≡ length new.symbols.items → IsExpansion g bit new expansion.step.rule expansion
expansion_pushed g bit old new column chosen left expansion is decided are p symbols_are more_start more_end symbols_start symbols_end =
    let r = expansion.step.rule in
    let n = ap length p.steps_are ∙ length-append old.steps.items p.steps in
    let m = ap length symbols_are ∙ length-append old.symbols.items left in
    record {
      inside = record { steps_order = omega arith; steps = omega arith; symbols_order = omega arith; symbols = omega arith };
      expands = subst (λ (l : List Sym). Expands g bit (Rule r ∷ []) l (steps_in new expansion)) (sym (range_last old.symbols.items left new.symbols.items expansion.symbols.start expansion.symbols.end symbols_are symbols_start symbols_end))
          (subst (λ (l : List Step). Expands g bit (Rule r ∷ []) left (expansion.step ∷ l)) (sym (range_last old.steps.items p.steps new.steps.items expansion.more.start expansion.more.end p.steps_are more_start more_end))
          (Expands-rule g bit r expansion.step.alternative chosen left p.steps is decided (p.expands g bit are)));
    }
