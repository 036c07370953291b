-- The symbols that are left to read.
use Rattle.std.proofs.Common.{◌≡◌, ◌-◌, ◌<◌, List, [], ◌∷◌, ◌++◌, length, get_or, take, drop, Some, refl, sym, ap, ◌∙◌, append_assoc, arith}
use Rattle.std.proofs.lemmas.List.{append-nil, take_all}
use Rattle.std.proofs.lemmas.List.Elements.{All-pop}
use Rattle.std.specs.List.{All}
use denote.Ref.{Bor}
use Rattle.vital_ll.specs.declared.grammar.Sym.{Sym}
use Rattle.vital_ll.specs.Pending.{IsFilled, stacked}

-- what is put on the stack comes first
pub stacked_push : (stack : List (Bor (List Sym))) (symbols : Bor (List Sym)) → stacked (stack ++ symbols ∷ []) ≡ symbols.now ++ stacked stack
stacked_push [] symbols = sym (append-nil symbols.now)
stacked_push (first ∷ stack) symbols = ap (λ (l : List Sym). l ++ first.now) (stacked_push stack symbols) ∙ append_assoc symbols.now (stacked stack) first.now

empty_list : {A : Type 0} (xs : List A) → length xs ≡ 0 → xs ≡ []
empty_list [] e = refl
empty_list (x ∷ xs) e = absurd (omega arith)

-- where an alternative is read to its end, what stands on the stack goes on
pub taken_down : (left : List Sym) (old new : List (Bor (List Sym))) (symbols : Bor (List Sym)) → length left ≡ 0 → old ≡ new ++ symbols ∷ [] → symbols.now ++ stacked new ≡ left ++ stacked old
taken_down left old new symbols e f = sym (ap (λ (l : List Sym). l ++ stacked old) (empty_list left e) ∙ ap stacked f ∙ stacked_push new symbols)

head_and_rest : (d : Sym) (xs : List Sym) → 0 < length xs → get_or xs 0 d ∷ take (length xs - 1) (drop 1 xs) ≡ xs
head_and_rest d [] some = absurd (omega arith)
head_and_rest d (x ∷ xs) some =
    let n : length (x ∷ xs) - 1 ≡ length xs = omega arith in
    ap (λ k. x ∷ take k xs) n ∙ ap (λ (l : List Sym). x ∷ l) (take_all (length xs) xs (omega arith))

-- and its first symbol is the next
pub first_of : (d : Sym) (left : List Sym) (old new : List (Bor (List Sym))) (symbols : Bor (List Sym)) → length left ≡ 0 → All IsFilled old → old ≡ new ++ symbols ∷ [] →
    left ++ stacked old ≡ get_or symbols.now 0 d ∷ (take (length symbols.now - 1) (drop 1 symbols.now) ++ stacked new)
first_of d left old new symbols e filled f =
    let some : IsFilled symbols = (All-pop IsFilled old new (Some symbols) f filled).1 in
    sym (taken_down left old new symbols e f) ∙ sym (ap (λ (l : List Sym). l ++ stacked new) (head_and_rest d symbols.now some))

-- what is put before those that are left is read first
pub put_before : (left : Bor (List Sym)) (symbols : List Sym) (old new : List (Bor (List Sym))) → new ≡ old ++ left ∷ [] → symbols ++ stacked new ≡ symbols ++ (left.now ++ stacked old)
put_before left symbols old new e = ap (λ (l : List Sym). symbols ++ l) (ap stacked e ∙ stacked_push old left)
