-- Lemmas, for the laws of the lexicon: separators and lexemes have a byte, and no more bytes than the text that is left.
use Rattle.std.proofs.Common.{◌≡◌, ℕ, ◌+◌, ◌<◌, ◌≤◌, Bool, true, false, ◌&&◌, ◌==◌, cond, List, [], ◌∷◌, length, take, refl, arith, Option, Some, None}
use Rattle.std.specs.Prelude.{IfSome, option_map}
use Rattle.std.proofs.lemmas.Bool.Decides.{nat_tests}
use Rattle.vital_sdf_lexemes.specs.Bytes.{is_blank}
use Rattle.vital_sdf_lexemes.specs.Lexemes.{quoted_length, word_of, lexeme}
use Rattle.vital_sdf_lexemes.specs.Separators.{line_length, closed_length, separator_length}
use Rattle.vital_sdf_lexemes.specs.WordKinds.{word_kind}
use Rattle.vital_sdf_lexemes.specs.Words.{ends_word, word_length}
use Rattle.vital_sdf_lexemes.specs.declared.kinds.Kind.{Kind}
use Rattle.vital_sdf_lexemes.specs.declared.kinds.Kind.TheVariants as kind

-- what holds of both holds of either
either : {A : Type 0} (P : A → Type 0) (b : Bool) (x y : A) → P x → P y → P (cond b x y)
either P true x y p q = p
either P false x y p q = q

otherwise : {A : Type 0} (P : A → Type 0) (b : Bool) (x y : A) → P x → (b ≡ false → P y) → P (cond b x y)
otherwise P true x y p q = p
otherwise P false x y p q = q refl

if_some-map : {A B : Type 0} (f : A → B) (P : A → Type 0) (Q : B → Type 0) (o : Option A) → ((x : A) → P x → Q (f x)) → IfSome o P → IfSome (option_map f o) Q
if_some-map f P Q None more p = tt
if_some-map f P Q (Some x) more p = more x p

line_within : (bytes : List ℕ) → line_length bytes ≤ length bytes
line_within [] = omega arith
line_within (b ∷ bytes) =
    let rest = line_within bytes in
    either (λ n. n ≤ length (b ∷ bytes)) (b == 10) 0 (1 + line_length bytes) (omega arith) (omega (arith, rest))

-- the text that is left has so many bytes
abbrev pub Within : List ℕ → ℕ → Type 0
Within bytes n = n ≤ length bytes

-- and they are some
abbrev pub Fits : List ℕ → ℕ → Type 0
Fits bytes n = (0 < n) × (n ≤ length bytes)

closed_within : (bytes : List ℕ) → IfSome (closed_length bytes) (Within bytes)
closed_within [] = tt
closed_within (a ∷ []) = tt
closed_within (a ∷ b ∷ bytes) =
    let all = a ∷ b ∷ bytes in
    let rest = if_some-map (λ n. 1 + n) (Within (b ∷ bytes)) (Within all) (closed_length (b ∷ bytes)) (λ n e. omega (arith, e)) (closed_within (b ∷ bytes)) in
    either (λ o. IfSome o (Within all)) (a == 42 && b == 47) (Some 2) _ (omega arith) rest

pub separator_within : (bytes : List ℕ) → IfSome (separator_length bytes) (Fits bytes)
separator_within [] = tt
separator_within (a ∷ []) = either (λ o. IfSome o (Fits (a ∷ []))) (is_blank a) (Some 1) None (omega arith, omega arith) tt
separator_within (a ∷ b ∷ bytes) =
    let all = a ∷ b ∷ bytes in
    let P : Option ℕ → Type 0 = λ o. IfSome o (Fits all) in
    let line = line_within bytes in
    let closed = if_some-map (λ n. 2 + n) (Within bytes) (Fits all) (closed_length bytes) (λ n e. (omega arith, omega (arith, e))) (closed_within bytes) in
    either P (is_blank a) (Some 1) _ (omega arith, omega arith)
    (either P (a == 47 && b == 47) (Some (2 + line_length bytes)) _ (omega arith, omega (arith, line))
    (either P (a == 47 && b == 42) (option_map (λ n. 2 + n) (closed_length bytes)) None closed tt))

word_within : (bytes : List ℕ) → word_length bytes ≤ length bytes
word_within [] = omega arith
word_within (a ∷ []) = either (Within (a ∷ [])) (ends_word (a ∷ [])) 0 1 (omega arith) (omega arith)
word_within (a ∷ b ∷ bytes) =
    let all = a ∷ b ∷ bytes in
    let behind = word_within bytes in
    let next = word_within (b ∷ bytes) in
    either (Within all) (a == 92) (2 + word_length bytes) _ (omega (arith, behind))
    (either (Within all) (ends_word all) 0 (1 + word_length (b ∷ bytes)) (omega arith) (omega (arith, next)))

quoted_within : (bytes : List ℕ) → IfSome (quoted_length bytes) (Within bytes)
quoted_within [] = tt
quoted_within (b ∷ bytes) =
    let all = b ∷ bytes in
    let P : Option ℕ → Type 0 = λ o. IfSome o (Within all) in
    let rest = if_some-map (λ n. 1 + n) (Within bytes) (Within all) (quoted_length bytes) (λ n e. omega (arith, e)) (quoted_within bytes) in
    either P (b == 34) (Some 1) _ (omega arith) (either P (b == 10) None _ tt rest)

-- a lexeme has a byte, and no more than are left
abbrev pub LexemeFits : List ℕ → Kind × ℕ → Type 0
LexemeFits bytes found = Fits bytes found.1

some_bytes : (n : ℕ) → (n == 0) ≡ false → 0 < n
some_bytes n other = grind (arith, nat_tests)

word_of_within : (before : Option Kind) (bytes : List ℕ) (n : ℕ) → n ≤ length bytes → IfSome (word_of before bytes n) (LexemeFits bytes)
word_of_within before bytes n within =
    otherwise (λ o. IfSome o (LexemeFits bytes)) (n == 0) None (Some (word_kind before (take n bytes), n)) tt (λ other. (some_bytes n other, within))

pub lexeme_within : (before : Option Kind) (bytes : List ℕ) → IfSome (lexeme before bytes) (LexemeFits bytes)
lexeme_within before [] = tt
lexeme_within before (b ∷ bytes) =
    let all = b ∷ bytes in
    let P : Option (Kind × ℕ) → Type 0 = λ o. IfSome o (LexemeFits all) in
    let text : Kind = kind.Text in
    let quoted = if_some-map (λ n. (text, 1 + n)) (Within bytes) (LexemeFits all) (quoted_length bytes) (λ n e. (omega arith, omega (arith, e))) (quoted_within bytes) in
    either P (b == 40) (Some (kind.LeftParenthesis, 1)) _ (omega arith, omega arith)
    (either P (b == 41) (Some (kind.RightParenthesis, 1)) _ (omega arith, omega arith)
    (either P (b == 58) (Some (kind.Colon, 1)) _ (omega arith, omega arith)
    (either P (b == 34) (option_map (λ n. (text, 1 + n)) (quoted_length bytes)) _ quoted
    (word_of_within before all (word_length all) (word_within all)))))
