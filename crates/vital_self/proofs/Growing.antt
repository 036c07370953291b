-- How texts grow.
use Rattle.std.proofs.Common.{◌≡◌, ℕ, ◌+◌, List, [], ◌++◌, append_assoc, refl, add-one}
use Rattle.std.proofs.lemmas.List.{append-nil}
use Rattle.vital_self.specs.Draws.{next_state, state_behind}
use Rattle.vital_self.specs.Lines.{texts_below}

pub no_draws : (seed : ℕ) → state_behind seed 0 ≡ seed
unfolding state_behind
no_draws seed = refl

pub one_draw_more : (seed draws : ℕ) → state_behind seed (draws + 1) ≡ next_state (state_behind seed draws)
unfolding state_behind
one_draw_more seed draws = rw add-one refl

pub no_texts : (text_of : ℕ → List ℕ) → texts_below text_of 0 ≡ []
unfolding texts_below
no_texts text_of = refl

pub one_text_more : (text_of : ℕ → List ℕ) (count : ℕ) → texts_below text_of (count + 1) ≡ texts_below text_of count ++ text_of count
unfolding texts_below
one_text_more text_of count = rw add-one refl

pub grown_by_text : (start : List ℕ) (text_of : ℕ → List ℕ) (count : ℕ) → start ++ texts_below text_of count ++ text_of count ≡ start ++ texts_below text_of (count + 1)
grown_by_text start text_of count = rw one_text_more (append_assoc start (texts_below text_of count) (text_of count))

pub ruleset texts = (no_texts, one_text_more, append-nil, append_assoc)

-- a text that grows by its parts grows by all of them
pub grown_by_three : (a b c : List ℕ) (start once twice : List ℕ) → once ≡ start ++ a ++ b → twice ≡ once ++ c → twice ≡ start ++ (a ++ b ++ c)
grown_by_three a b c start once twice e f = rw (f, e) (simp append_assoc)

pub grown_by_nine : (a b c d e f g h i : List ℕ) (start t u v w x : List ℕ) → t ≡ start ++ a ++ b → u ≡ t ++ c ++ d → v ≡ u ++ e ++ f → w ≡ v ++ g ++ h → x ≡ w ++ i
    → x ≡ start ++ (a ++ b ++ c ++ d ++ e ++ f ++ g ++ h ++ i)
grown_by_nine a b c d e f g h i start t u v w x et eu ev ew ex = rw (ex, ew, ev, eu, et) (simp append_assoc)
