-- What a reading holds with one digit more.
use Rattle.std.proofs.Common.{◌≡◌, ℕ, zero, suc, ◌+◌, ◌-◌, ◌*◌, ◌/◌, ◌%◌, ◌^◌, ◌<◌, true, false, List, [], ◌∷◌, ◌++◌, sym, ◌∙◌, ap, arith, lit<}
use Rattle.std.specs.Prelude.{Bool, ◌||◌, nat_lt}
use Rattle.std.specs.Char.{is_ascii_digit}
use Rattle.std.specs.List.{list_any}
use Rattle.std.proofs.Math.Nat.{div-div-eq-div-mul, div-one, mod-one, pow-succ', pow-suc}
use Rattle.std.proofs.Math.Arith.{mod-mul}
use Rattle.std.proofs.Math.Bool.{or-false}
use Rattle.std.proofs.lemmas.Bool.Decides.{nat_tests}
use Rattle.std.proofs.lemmas.Nat.{div-mul-add, mod-mul-add}
use Rattle.vital_sdf_words.specs.Decimals.{all_digits, count_behind_point, is_point}
use Rattle.vital_sdf_words.specs.Readings.{capped, Reads, uncounted}
use Rattle.vital_sdf_words.specs.declared.reading.Reading.{Reading as Reading'}
use Rattle.vital_sdf_words.proofs.DigitLemmas.{count-before, count-digit, count-none, count-other, digits-digit, digits-other, point-push}

-- ten to the power zero is one: nothing is cut off
uncut : (m k : ℕ) → k ≡ 0 → m / 10 ^ k ≡ m
uncut m k none = ap (λ j. m / 10 ^ j) none ∙ div-one m

all_kept : (m k : ℕ) → k ≡ 0 → m % 10 ^ k ≡ 0
all_kept m k none = ap (λ j. m % 10 ^ j) none ∙ mod-one m

pub ten_pow : (k : ℕ) → 0 < 10 ^ k
ten_pow zero = lit< tt
ten_pow (suc k) = rw pow-suc (omega (arith, ten_pow k))

-- one digit that is cut off with those behind it
cut_digit : (m k digit : ℕ) → digit < 10 → (m * 10 + digit) / 10 ^ (k + 1) ≡ m / 10 ^ k
cut_digit m k digit small =
    ap (λ p. (m * 10 + digit) / p) (ap (λ j. 10 ^ j) (omega arith) ∙ pow-succ' 10 k)
    ∙ sym (div-div-eq-div-mul (m * 10 + digit) 10 (10 ^ k))
    ∙ ap (λ n. n / 10 ^ k) (div-mul-add m 10 digit small)

cut_more : (m k digit : ℕ) → digit < 10 → (m * 10 + digit) % 10 ^ (k + 1) ≡ (m % 10 ^ k) * 10 + digit
cut_more m k digit small =
    ap (λ p. (m * 10 + digit) % p) (ap (λ j. 10 ^ j) (omega arith) ∙ pow-suc 10 k)
    ∙ mod-mul (m * 10 + digit) (ten_pow k) (omega arith)
    ∙ ap (λ n. (n % 10 ^ k) * 10 + (m * 10 + digit) % 10) (div-mul-add m 10 digit small)
    ∙ ap (λ d. (m % 10 ^ k) * 10 + d) (mod-mul-add m 10 digit small)

is_digit : (digit : ℕ) → digit < 10 → is_ascii_digit (48 + digit) ≡ true
is_digit digit small = grind (arith, nat_tests)

is_no_point : (digit : ℕ) → is_point (48 + digit) ≡ false
is_no_point digit = grind (arith, nat_tests)

-- a digit that counts
pub record Counts (power : ℕ) (bytes : List ℕ) (digit : ℕ) (reading : Reading') (number left : ℕ) : Type 0 where
  pub small : digit < 10
  pub before : Reads power bytes reading
  pub tenths : (n : ℕ) → reading.tenths ≡ capped n → number ≡ capped (n * 10 + digit)
  pub was : uncounted power bytes ≡ 0
  pub is : uncounted power (bytes ++ (48 + digit) ∷ []) ≡ 0
  pub places : left ≡ (power + 1) - count_behind_point (bytes ++ (48 + digit) ∷ [])

still_behind : (power : ℕ) (bytes : List ℕ) (digit : ℕ) (reading : Reading') → Reads power bytes reading → reading.is_behind_point ≡ list_any is_point (bytes ++ (48 + digit) ∷ [])
still_behind power bytes digit reading before = before.behind ∙ sym (point-push bytes (48 + digit) false (is_no_point digit) ∙ or-false (list_any is_point bytes))

counts : (power : ℕ) (bytes : List ℕ) (digit : ℕ) (reading : Reading') (tenths places : ℕ) → Counts power bytes digit reading tenths places → Reads power (bytes ++ (48 + digit) ∷ []) (record reading { tenths = tenths; places = places })
counts power bytes digit reading tenths places h =
    let m = all_digits bytes in
    let next = bytes ++ (48 + digit) ∷ [] in
    let number = digits-digit bytes digit h.small in
    record {
      tenths =
          h.tenths m (h.before.tenths ∙ ap capped (uncut m (uncounted power bytes) h.was))
          ∙ ap capped (sym (uncut (all_digits next) (uncounted power next) h.is ∙ number));
      places = h.places;
      behind = still_behind power bytes digit reading h.before;
      more = h.before.more ∙ ap (nat_lt 0) (all_kept m (uncounted power bytes) h.was ∙ sym (all_kept (all_digits next) (uncounted power next) h.is));
    }

-- one before the point
pub counts-before : (power : ℕ) (bytes : List ℕ) (digit : ℕ) (reading : Reading') (tenths : ℕ) → digit < 10 → Reads power bytes reading → reading.is_behind_point ≡ false → ((n : ℕ) → reading.tenths ≡ capped n → tenths ≡ capped (n * 10 + digit)) → Reads power (bytes ++ (48 + digit) ∷ []) (record reading { tenths = tenths })
counts-before power bytes digit reading tenths small before at more =
    let none : list_any is_point bytes ≡ false = sym before.behind ∙ at in
    let was : count_behind_point bytes ≡ 0 = count-none bytes none in
    let is : count_behind_point (bytes ++ (48 + digit) ∷ []) ≡ 0 = count-before bytes (48 + digit) none in
    counts power bytes digit reading tenths reading.places (record {
      small = small;
      before = before;
      tenths = more;
      was = omega arith;
      is = omega arith;
      places = before.places ∙ ap (λ f. (power + 1) - f) (was ∙ sym is);
    })

-- one behind the point that counts
pub counts-behind : (power : ℕ) (bytes : List ℕ) (digit : ℕ) (reading : Reading') (tenths places : ℕ) → digit < 10 → Reads power bytes reading → reading.is_behind_point ≡ true → reading.places ≡ places + 1 → ((n : ℕ) → reading.tenths ≡ capped n → tenths ≡ capped (n * 10 + digit)) → Reads power (bytes ++ (48 + digit) ∷ []) (record reading { tenths = tenths; places = places })
counts-behind power bytes digit reading tenths places small before at left more =
    let is : count_behind_point (bytes ++ (48 + digit) ∷ []) ≡ count_behind_point bytes + 1 = count-digit bytes (48 + digit) (is_digit digit small) (sym before.behind ∙ at) in
    let room : reading.places ≡ (power + 1) - count_behind_point bytes = before.places in
    counts power bytes digit reading tenths places (record {
      small = small;
      before = before;
      tenths = more;
      was = omega arith;
      is = omega arith;
      places = omega arith;
    })

-- one behind the point that doesn't count
pub counts-not : (power : ℕ) (bytes : List ℕ) (digit : ℕ) (reading : Reading') (has_more : Bool) → digit < 10 → Reads power bytes reading → reading.is_behind_point ≡ true → reading.places ≡ 0 → has_more ≡ (reading.has_more || nat_lt 0 digit) → Reads power (bytes ++ (48 + digit) ∷ []) (record reading { has_more = has_more })
counts-not power bytes digit reading has_more small before at left more =
    let m = all_digits bytes in
    let k = uncounted power bytes in
    let next = bytes ++ (48 + digit) ∷ [] in
    let f : count_behind_point next ≡ count_behind_point bytes + 1 = count-digit bytes (48 + digit) (is_digit digit small) (sym before.behind ∙ at) in
    let room : reading.places ≡ (power + 1) - count_behind_point bytes = before.places in
    let cut : uncounted power next ≡ k + 1 = omega arith in
    let number = digits-digit bytes digit small in
    let any : (nat_lt 0 (m % 10 ^ k) || nat_lt 0 digit) ≡ nat_lt 0 ((m % 10 ^ k) * 10 + digit) = grind (arith, nat_tests) in
    record {
      tenths = before.tenths ∙ ap capped (sym (ap (λ n. n / 10 ^ uncounted power next) number ∙ ap (λ j. (m * 10 + digit) / 10 ^ j) cut ∙ cut_digit m k digit small));
      places = omega arith;
      behind = still_behind power bytes digit reading before;
      more = more ∙ ap (λ b. b || nat_lt 0 digit) before.more ∙ any ∙ ap (nat_lt 0) (sym (ap (λ n. n % 10 ^ uncounted power next) number ∙ ap (λ j. (m * 10 + digit) % 10 ^ j) cut ∙ cut_more m k digit small));
    }

-- a byte that is no digit
pub reads-other : (power : ℕ) (bytes : List ℕ) (byte : ℕ) (reading : Reading') (is_behind_point : Bool) → is_ascii_digit byte ≡ false → Reads power bytes reading → is_behind_point ≡ list_any is_point (bytes ++ byte ∷ []) → Reads power (bytes ++ byte ∷ []) (record reading { is_behind_point = is_behind_point })
reads-other power bytes byte reading is_behind_point other before behind =
    let next = bytes ++ byte ∷ [] in
    let number = digits-other bytes byte other in
    let f = count-other bytes byte other in
    record {
      tenths = before.tenths ∙ ap (λ n. capped (n / 10 ^ uncounted power bytes)) (sym number) ∙ ap (λ c. capped (all_digits next / 10 ^ (c - (power + 1)))) (sym f);
      places = before.places ∙ ap (λ c. (power + 1) - c) (sym f);
      behind = behind;
      more = before.more ∙ ap (λ n. nat_lt 0 (n % 10 ^ uncounted power bytes)) (sym number) ∙ ap (λ c. nat_lt 0 (all_digits next % 10 ^ (c - (power + 1)))) (sym f);
    }
