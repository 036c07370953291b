-- Names in small letters with one underscore for each run of them, written byte by byte.
use Rattle.std.proofs.Common.{◌≡◌, ℕ, append-nil, true, false, List, [], ◌∷◌, ◌++◌, refl, sym, ◌∙◌, ap, arith}
use Rattle.std.specs.Prelude.{Bool, filter}
use Rattle.std.specs.Char.{to_ascii_lowercase}
use Rattle.std.specs.List.{join_with_byte, slice_split, onto_first}
use Rattle.std.specs.Str.{str_to_ascii_lowercase}
use Rattle.std.proofs.lemmas.List.Splits.{slice_split-cons_no, slice_split-cons_yes}
use Rattle.std.proofs.lemmas.Bool.Decides.{nat_tests}
use Rattle.vital_sdf_words.specs.Conditions.{is_underscore, is_word, tidied}
use Rattle.vital_sdf_words.specs.TidyNames.{added}

-- words, each behind an underscore
abbrev behind_underscores : List (List ℕ) → List ℕ
behind_underscores [] = []
behind_underscores (word ∷ words) = 95 ∷ word ++ behind_underscores words

join-first : (word : List ℕ) (words : List (List ℕ)) → join_with_byte 95 (word ∷ words) ≡ word ++ behind_underscores words
join-first word [] = rw append-nil refl
join-first word (next ∷ words) = ap (λ others. word ++ 95 ∷ others) (join-first next words)

small_underscore : (byte : ℕ) → is_underscore (to_ascii_lowercase byte) ≡ is_underscore byte
small_underscore byte = grind (arith, nat_tests)

record Words (bytes : List ℕ) : Type 0 where
  first : List ℕ
  others : List (List ℕ)
  is : slice_split is_underscore (str_to_ascii_lowercase bytes) ≡ first ∷ others
  fresh : (is_gap : Bool) → added false is_gap bytes ≡ join_with_byte 95 (filter is_word (first ∷ others))
  behind_gap : added true true bytes ≡ behind_underscores (filter is_word (first ∷ others))
  going : added true false bytes ≡ first ++ behind_underscores (filter is_word others)

at_byte : (byte : ℕ) (bytes : List ℕ) → Words bytes → (b : Bool) → is_underscore byte ≡ b → Words (byte ∷ bytes)
at_byte byte bytes w true e = record {
  first = [];
  others = slice_split is_underscore (str_to_ascii_lowercase bytes);
  is = slice_split-cons_yes is_underscore (to_ascii_lowercase byte) (str_to_ascii_lowercase bytes) (small_underscore byte ∙ e);
  fresh = λ is_gap. rw (e, w.is) (w.fresh true);
  behind_gap = rw (e, w.is) w.behind_gap;
  going = rw (e, w.is) w.behind_gap;
}
at_byte byte bytes w false e = record {
  first = to_ascii_lowercase byte ∷ w.first;
  others = w.others;
  is = slice_split-cons_no is_underscore (to_ascii_lowercase byte) (str_to_ascii_lowercase bytes) (small_underscore byte ∙ e) ∙ ap (onto_first (to_ascii_lowercase byte)) w.is;
  fresh = λ is_gap. rw e (ap (λ others. to_ascii_lowercase byte ∷ others) w.going ∙ sym (join-first (to_ascii_lowercase byte ∷ w.first) (filter is_word w.others)));
  behind_gap = rw e (ap (λ others. 95 ∷ to_ascii_lowercase byte ∷ others) w.going);
  going = rw e (ap (λ others. to_ascii_lowercase byte ∷ others) w.going);
}

words : (bytes : List ℕ) → Words bytes
words [] = record { first = []; others = []; is = refl; fresh = λ is_gap. refl; behind_gap = refl; going = refl }
words (byte ∷ bytes) = at_byte byte bytes (words bytes) (is_underscore byte) refl

pub added-all : (bytes : List ℕ) → added false false bytes ≡ tidied bytes
added-all bytes = let w = words bytes in w.fresh false ∙ ap (λ ws. join_with_byte 95 (filter is_word ws)) (sym w.is)
