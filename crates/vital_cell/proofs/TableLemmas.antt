-- Constants of a name among those of a cell, and the tables that they are.
use Rattle.std.proofs.Common.{◌≡◌, ℕ, ◌+◌, true, false, List, [], ◌∷◌, ◌++◌, map, replicate, cond, refl, sym, ◌∙◌, ap, inl, inr}
use Rattle.std.specs.Prelude.{Bool, ◌||◌, ◌&&◌, is_some, Option, Some}
use Rattle.std.specs.List.{AllByRecursion, IsDistinct, list_any, position_from}
use Rattle.std.specs.Str.{bytes_eq}
use Rattle.std.proofs.lemmas.Bool.{false≢true}
use Rattle.std.proofs.lemmas.Iterator.Adapters.{position_from-zero}
use Rattle.std.proofs.lemmas.List.{length-replicate}
use Rattle.std.proofs.lemmas.Map.Keys.{IsDistinct-cons, IsDistinct-head, IsDistinct-tail}
use Rattle.vital_declarations.specs.declared.declared_type.TableType.TheVariants as table
use Rattle.vital_logic.specs.declared.level.Level.TheVariants.{U}
use Rattle.vital_objects.specs.declared.port.Port.{Port}
use Rattle.vital_objects.specs.declared.signal.Signal.{Signal}
use Rattle.vital_operands.specs.Named.{is_read_mode}
use Rattle.vital_typed_cells.specs.Fitting.{are_parted}
use Rattle.vital_typed_cells.specs.Named.{is_input_port, is_internal}
use Rattle.vital_cell.proofs.KindLemmas.{either}
use Rattle.vital_table.specs.Tables.{is_table}
use Rattle.vital_typed_cells.specs.Bits.{names_of, number_of}
use Rattle.vital_typed_cells.proofs.TableLemmas.{parted-table}

-- ---- bits

any-behind : {A : Type 0} (test : A → Bool) (xs ys : List A) → list_any test ys ≡ true → list_any test (xs ++ ys) ≡ true
any-behind test [] ys is = is
any-behind test (x ∷ xs) ys is = true-or (test x) (list_any test (xs ++ ys)) (any-behind test xs ys is)
  where
    true-or : (a b : Bool) → b ≡ true → (a || b) ≡ true
    true-or true b is = refl
    true-or false b is = is

any-before : {A : Type 0} (test : A → Bool) (xs ys : List A) → list_any test xs ≡ true → list_any test (xs ++ ys) ≡ true
any-before test [] ys is = absurd (false≢true is)
any-before test (x ∷ xs) ys is = or-more (test x) (list_any test xs) (list_any test (xs ++ ys)) (any-before test xs ys) is
  where
    or-more : (a b c : Bool) → (b ≡ true → c ≡ true) → (a || b) ≡ true → (a || c) ≡ true
    or-more true b c more is = refl
    or-more false b c more is = more is

some-number : (names : List (List ℕ)) (name : List ℕ) (k : ℕ) → list_any (λ n. bytes_eq n name) names ≡ true → is_some (position_from (λ n. bytes_eq n name) k names) ≡ true
some-number [] name k is = absurd (false≢true is)
some-number (n ∷ ns) name k is = by-first (bytes_eq n name) (position_from (λ m. bytes_eq m name) (k + 1) ns) (list_any (λ m. bytes_eq m name) ns) (some-number ns name (k + 1)) is
  where
    by-first : (b : Bool) (o : Option ℕ) (c : Bool) → (c ≡ true → is_some o ≡ true) → (b || c) ≡ true → is_some (cond b (Some k) o) ≡ true
    by-first true o c more is = refl
    by-first false o c more is = more is

any-port : (ports : List Port) (name : List ℕ) → is_input_port ports name ≡ true → list_any (λ n. bytes_eq n name) (map (λ p. p.name) ports) ≡ true
any-port [] name is = is
any-port (p ∷ ps) name is = both-more (bytes_eq p.name name) (is_read_mode p.mode) (is_input_port ps name) (list_any (λ n. bytes_eq n name) (map (λ q. q.name) ps)) (any-port ps name) is
  where
    both-more : (a b c d : Bool) → (c ≡ true → d ≡ true) → ((a && b) || c) ≡ true → (a || d) ≡ true
    both-more true b c d more is = refl
    both-more false b c d more is = more is

any-signal : (signals : List Signal) (name : List ℕ) → is_internal signals name ≡ true → list_any (λ n. bytes_eq n name) (map (λ s. s.name) signals) ≡ true
any-signal [] name is = is
any-signal (s ∷ ss) name is = or-more (bytes_eq s.name name) (is_internal ss name) (list_any (λ n. bytes_eq n name) (map (λ q. q.name) ss)) (any-signal ss name) is
  where
    or-more : (a b c : Bool) → (b ≡ true → c ≡ true) → (a || b) ≡ true → (a || c) ≡ true
    or-more true b c more is = refl
    or-more false b c more is = more is

-- An input port or an internal signal is a bit.
pub bit-there : (ports : List Port) (signals : List Signal) (name : List ℕ) → (is_input_port ports name || is_internal signals name) ≡ true → is_some (number_of (names_of ports signals) name) ≡ true
bit-there ports signals name is =
    let test : List ℕ → Bool = λ n. bytes_eq n name in
    let as-port = map (λ (p : Port). p.name) ports in
    let as-signal = map (λ (s : Signal). s.name) signals in
    let any : list_any test (as-port ++ as-signal) ≡ true = elim (either (is_input_port ports name) (is_internal signals name) is) [
      | inl port ↦ any-before test as-port as-signal (any-port ports name port)
      | inr signal ↦ any-behind test as-port as-signal (any-signal signals name signal)
    ] in
    ap is_some (position_from-zero test (as-port ++ as-signal)) ∙ some-number (as-port ++ as-signal) name 0 any

-- ---- names that differ

all-before : {A : Type 0} (P : A → Type 0) (xs ys : List A) → AllByRecursion P (xs ++ ys) → AllByRecursion P xs
all-before P [] ys all = tt
all-before P (x ∷ xs) ys all = (all.0, all-before P xs ys all.1)

pub distinct-before : (xs ys : List (List ℕ)) → IsDistinct bytes_eq (xs ++ ys) → IsDistinct bytes_eq xs
unfolding IsDistinct
distinct-before [] ys all = tt
distinct-before (x ∷ xs) ys all = IsDistinct-cons bytes_eq x xs (all-before (λ y. bytes_eq x y ≡ false) xs ys (IsDistinct-head bytes_eq x (xs ++ ys) all)) (distinct-before xs ys (IsDistinct-tail bytes_eq x (xs ++ ys) all))

pub distinct-behind : (xs ys : List (List ℕ)) → IsDistinct bytes_eq (xs ++ ys) → IsDistinct bytes_eq ys
distinct-behind [] ys all = all
distinct-behind (x ∷ xs) ys all = distinct-behind xs ys (IsDistinct-tail bytes_eq x (xs ++ ys) all)

-- ---- tables

pub truth-table : (rows : List (List ℕ)) (inputs results : ℕ) → are_parted table.Truth inputs 0 results rows ≡ true → is_table (record { inputs = inputs; states = 0; results = results; rows = rows }) ≡ true
truth-table rows inputs results is =
    let long = length-replicate inputs U in
    sym (ap (λ n. is_table (record { inputs = n; states = 0; results = results; rows = rows })) long)
    ∙ parted-table rows (replicate inputs U) results (ap (λ n. are_parted table.Truth n 0 results rows) long ∙ is)

pub state-table : (rows : List (List ℕ)) (inputs states results : ℕ) → are_parted table.State inputs states results rows ≡ true → is_table (record { inputs = inputs; states = states; results = results; rows = rows }) ≡ true
state-table rows inputs states results is = is
