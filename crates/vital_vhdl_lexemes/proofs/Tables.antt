-- Bytes that no entry of a table has.
use Rattle.std.proofs.Common.{◌≡◌, ℕ, ◌≤◌, Bool, true, false, not, ◌&&◌, eqb, List, [], ◌∷◌, length, refl, ap, sym, ◌∙◌, arith, Some, None}
use Rattle.std.specs.Prelude.{nat_lt}
use Rattle.std.specs.List.{list_all}
use Rattle.std.specs.Str.{bytes_eq}
use Rattle.std.proofs.lemmas.Bool.{false_from_ne_true, false≢true, true≢false, and_parts, and_left, ne_eqb, not-true, cond-false, ltb-true}
use Rattle.std.proofs.lemmas.Slice.Eq.{bytes_eq-Decides}
use Rattle.vital_vhdl_lexemes.specs.Forms.{begins, kind_in}
use Rattle.vital_vhdl_lexemes.specs.declared.kinds.Kind.{Kind}

-- a byte of a class is not one outside it
pub other_byte : (class : ℕ → Bool) (b n : ℕ) → class b ≡ true → class n ≡ false → eqb b n ≡ false
other_byte class b n of_class outside = ne_eqb b n (λ e. true≢false (sym of_class ∙ ap class e ∙ outside))

-- where each entry begins outside a class, none is what begins in it
pub kind_in-other : (class : ℕ → Bool) (table : List (List ℕ × Kind)) (b : ℕ) (w : List ℕ) → list_all (λ entry. begins (λ x. not (class x)) entry.0) table ≡ true → class b ≡ true → kind_in table (b ∷ w) ≡ None
kind_in-other class [] b w outside of_class = refl
kind_in-other class (([], k) ∷ table) b w outside of_class = absurd (false≢true outside)
kind_in-other class ((x ∷ xs, k) ∷ table) b w outside of_class =
    let parts = and_parts (not (class x)) _ outside in
    let differ : eqb x b ≡ false = ne_eqb x b (λ e. true≢false (sym of_class ∙ ap class (sym e) ∙ not-true (class x) parts.0)) in
    cond-false (eqb x b && bytes_eq xs w) (Some k) (kind_in table (b ∷ w)) (and_left (eqb x b) (bytes_eq xs w) differ) ∙ kind_in-other class table b w parts.1 of_class

-- where each entry has fewer than n bytes, none is longer
pub kind_in-long : (n : ℕ) (table : List (List ℕ × Kind)) (bytes : List ℕ) → list_all (λ entry. nat_lt (length entry.0) n) table ≡ true → n ≤ length bytes → kind_in table bytes ≡ None
kind_in-long n [] bytes short long = refl
kind_in-long n (entry ∷ table) bytes short long =
    let parts = and_parts (nat_lt (length entry.0) n) _ short in
    let differ : bytes_eq entry.0 bytes ≡ false = false_from_ne_true _ (λ h. let e = ap length ((bytes_eq-Decides entry.0 bytes).0 h) in absurd (omega (arith, e, ltb-true (length entry.0) n parts.0))) in
    cond-false (bytes_eq entry.0 bytes) (Some entry.1) (kind_in table bytes) differ ∙ kind_in-long n table bytes parts.1 long
