-- How long the texts are at most.
use Rattle.std.proofs.Common.{ℕ, zero, suc, ◌+◌, ◌-◌, ◌*◌, ◌<◌, ◌≤◌, List, ◌++◌, length, length-append, arith, inl, inr}
use Rattle.std.specs.Prelude.{codes, decimal, nat_lt, ◌==◌}
use Rattle.std.proofs.lemmas.Bool.{cases_Bool}
use Rattle.std.proofs.lemmas.Fmt.{length-decimal-le}
use Rattle.vital_self.specs.Draws.{draw}
use Rattle.vital_self.specs.Library.{library}
use Rattle.vital_self.specs.Lines.{texts_below}
use Rattle.vital_self.specs.Netlist.{source, driven, instance, signal, netlist_start, netlist}
use Rattle.vital_self.specs.Stimuli.{stimulus, stimuli_start, stimuli}

-- texts of at most so many bytes each
length_texts : (text_of : ℕ → List ℕ) (limit count : ℕ) → ((k : ℕ) → k < count → length (text_of k) ≤ limit) → length (texts_below text_of count) ≤ count * limit
unfolding texts_below
length_texts text_of limit zero short = omega arith
length_texts text_of limit (suc count) short =
    let before = length_texts text_of limit count (λ k lt. short k (omega arith)) in
    let last = short count (omega arith) in
    omega (arith, before, last, length-append (texts_below text_of count) (text_of count))

length_decimal : (n : ℕ) → n < 100_000 → length (decimal n) ≤ 5
length_decimal n lt = length-decimal-le 5 n (omega arith) (omega arith) (omega arith)

length_source : (number : ℕ) → number < 100_000 → length (source number) ≤ 6
length_source number lt =
    elim (cases_Bool (nat_lt number 8)) [
      | inl port ↦ rw port (let d = length_decimal number lt in omega (arith, d))
      | inr signal ↦ rw signal (let d = length_decimal (number - 8) (omega arith) in omega (arith, d))
    ]

length_driven : (cells k : ℕ) → k < 100_000 → length (driven cells k) ≤ 6
length_driven cells k lt =
    elim (cases_Bool (k + 1 == cells)) [
      | inl last ↦ rw last (omega arith)
      | inr before ↦ rw before (let d = length_decimal k lt in omega (arith, d))
    ]

three_parts : (a b c : List ℕ) (limit : ℕ) → length a + length b + length c ≤ limit → length (a ++ b ++ c) ≤ limit
three_parts a b c limit short = simp length-append short

five_parts : (a b c d e : List ℕ) (limit : ℕ) → length a + length b + length c + length d + length e ≤ limit → length (a ++ b ++ c ++ d ++ e) ≤ limit
five_parts a b c d e limit short = simp length-append short

nine_parts : (a b c d e f g h i : List ℕ) (limit : ℕ) → length a + length b + length c + length d + length e + length f + length g + length h + length i ≤ limit
    → length (a ++ b ++ c ++ d ++ e ++ f ++ g ++ h ++ i) ≤ limit
nine_parts a b c d e f g h i limit short = simp length-append short

length_signal : (k : ℕ) → k < 10_000 → length (signal k) ≤ 128
length_signal k lt =
    let number = length_decimal k (omega arith) in
    three_parts (codes "  signal n") (decimal k) (codes " : STD_ULOGIC;\n") 128 (omega (arith, number))

length_instance : (seed cells k : ℕ) → k < 10_000 → length (instance seed cells k) ≤ 128
length_instance seed cells k lt =
    let number = length_decimal k (omega arith) in
    let a : draw seed (2 * k) (8 + k) < 8 + k = omega arith in
    let b : draw seed (2 * k + 1) (8 + k) < 8 + k = omega arith in
    let of_a = length_source (draw seed (2 * k) (8 + k)) (omega arith) in
    let of_b = length_source (draw seed (2 * k + 1) (8 + k)) (omega arith) in
    let of_y = length_driven cells k (omega arith) in
    nine_parts (codes "  u") (decimal k) (codes " : AND2 port map (A => ") (source (draw seed (2 * k) (8 + k))) (codes ", B => ") (source (draw seed (2 * k + 1) (8 + k))) (codes ", Y => ") (driven cells k) (codes ");\n") 128
    (omega (arith, number, of_a, of_b, of_y))

length_stimulus : (seed cells k : ℕ) → k < 20 → length (stimulus seed cells k) ≤ 128
length_stimulus seed cells k lt =
    let time = length_decimal (k + 1) (omega arith) in
    let port : draw seed (2 * cells + 2 * k) 8 < 8 = omega arith in
    let level : draw seed (2 * cells + 2 * k + 1) 2 < 2 = omega arith in
    let of_port = length_decimal (draw seed (2 * cells + 2 * k) 8) (omega arith) in
    let of_level = length_decimal (draw seed (2 * cells + 2 * k + 1) 2) (omega arith) in
    five_parts (decimal (k + 1) ++ codes " ns i") (decimal (draw seed (2 * cells + 2 * k) 8)) (codes " ") (decimal (draw seed (2 * cells + 2 * k + 1) 2)) (codes "\n") 128
    (omega (arith, time, of_port, of_level, length-append (decimal (k + 1)) (codes " ns i")))

pub short_netlist : (seed cells : ℕ) → cells ≤ 10_000 → length (netlist seed cells) ≤ 16_777_216
short_netlist seed cells few =
    let signals = length_texts signal 128 (cells - 1) (λ k lt. length_signal k (omega arith)) in
    let instances = length_texts (instance seed cells) 128 cells (λ k lt. length_instance seed cells k (omega arith)) in
    five_parts netlist_start (texts_below signal (cells - 1)) (codes "begin\n") (texts_below (instance seed cells) cells) (codes "end s;\n") 16_777_216 (omega (arith, signals, instances))

pub short_stimuli : (seed cells : ℕ) → length (stimuli seed cells) ≤ 16_777_216
short_stimuli seed cells =
    let later = length_texts (stimulus seed cells) 128 20 (λ k lt. length_stimulus seed cells k lt) in
    omega (arith, later, length-append stimuli_start (texts_below (stimulus seed cells) 20))

pub short_library : length library ≤ 16_777_216
unfolding library
short_library = omega arith
