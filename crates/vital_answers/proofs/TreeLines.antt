-- The lines of a design that are written one after the other.
use Rattle.std.proofs.Common.{◌≡◌, ℕ, zero, suc, ◌+◌, ◌<◌, ◌≤◌, List, [], ◌∷◌, ◌++◌, length, drop, get_or, map, None, refl, sym, ap, ◌∙◌, append_assoc, arith}
use Rattle.std.specs.List.{enumerate_from, range_with_len}
use Rattle.std.proofs.lemmas.Grind.{flat_map-append}
use Rattle.std.proofs.lemmas.List.{drop_all, drop_more, length-map}
use Rattle.std.proofs.lemmas.Option.{slice_get-get_or}
use Rattle.std.proofs.lemmas.List.FromFn.{get_or-enumerate_from, get_or-map-range_with_len, length-enumerate_from, length-map-range_with_len}
use Rattle.vital_netlist.specs.declared.design_lists.DesignInstance.{DesignInstance as DesignInstance'}
use Rattle.vital_netlist.specs.Designs.{Design, DesignInstance, DesignSignal, drivers_of}
use Rattle.vital_netlist.specs.Trees.{tree_instance, tree_instances, tree_signal, tree_signals}
use Rattle.vital_report.specs.Lines.{bytes_of, end_of_design, text_of}
use Rattle.vital_answers.specs.Trees.{instance_line, signal_line, tree_lines}

-- ---- things that are numbered and seen as others

abbrev numbered : {X : Type 0} → ℕ → X → ℕ × X
numbered n x = (n, x)

-- the number and the thing that come first behind so many
first_left : {A X : Type 0} (see : A → X) (xs : List A) (i : ℕ) (x : A) → i < length xs → x ≡ get_or xs i x
    → drop i (enumerate_from 0 (map see xs)) ≡ numbered i (see x) ∷ drop (i + 1) (enumerate_from 0 (map see xs))
first_left {A} {X} see xs i x within is =
    let seen = map see xs in
    let long : i < length seen = omega (arith, within, length-map xs see) in
    let there : i < length (enumerate_from 0 seen) = omega (arith, long, length-enumerate_from 0 seen) in
    let zero_more : 0 + i ≡ i = omega arith in
    let d : ℕ × X = numbered i (see x) in
    let here : get_or seen i (see x) ≡ see x = seen_or see xs i x within ∙ ap see (sym is) in
    drop_more (enumerate_from 0 seen) i d there
    ∙ ap (λ (e : ℕ × X). e ∷ drop (i + 1) (enumerate_from 0 seen))
    (get_or-enumerate_from 0 seen i d long ∙ ap (λ (n : ℕ). numbered n (get_or seen i (see x))) zero_more ∙ ap (λ (y : X). numbered i y) here)
  where
    seen_or : {A X : Type 0} (see : A → X) (xs : List A) (i : ℕ) (x : A) → i < length xs → get_or (map see xs) i (see x) ≡ see (get_or xs i x)
    seen_or see [] i x within = absurd (omega (arith, within))
    seen_or see (y ∷ ys) zero x within = refl
    seen_or see (y ∷ ys) (suc i) x within = seen_or see ys i x (omega (arith, within))

none_numbered : {A X : Type 0} (see : A → X) (xs : List A) (i : ℕ) → length xs ≤ i → drop i (enumerate_from 0 (map see xs)) ≡ []
none_numbered see xs i le = drop_all i (enumerate_from 0 (map see xs)) (omega (arith, le, length-map xs see, length-enumerate_from 0 (map see xs)))

-- ---- instances

-- the text of the instances from a number on
abbrev pub instances_left : Design → ℕ → List ℕ
instances_left d i = text_of (map instance_line (map (tree_instance d) (drop i (enumerate_from 0 d.instances))))

pub one_instance : {A : Type 0} (see : A → DesignInstance) (d : Design) (xs : List A) (i : ℕ) (x : A) → map see xs ≡ d.instances → i < length xs → x ≡ get_or xs i x
    → instances_left d i ≡ bytes_of (instance_line (tree_instance d (i, see x))) ++ instances_left d (i + 1)
one_instance see d xs i x are within is =
    let lines = λ (left : List (ℕ × DesignInstance)). text_of (map instance_line (map (tree_instance d) left)) in
    ap (λ (all : List DesignInstance). lines (drop i (enumerate_from 0 all))) (sym are)
    ∙ ap lines (first_left see xs i x within is)
    ∙ ap (λ (all : List DesignInstance). bytes_of (instance_line (tree_instance d (i, see x))) ++ lines (drop (i + 1) (enumerate_from 0 all))) are

-- what code reads where there is none
abbrev pub nothing : DesignInstance'
nothing = record { site = None; unit = record { ref_ptr = (0, 0); now = [] }; cell = None }

pub as_read : (xs : List DesignInstance') (i : ℕ) → i < length xs → get_or xs i nothing ≡ get_or xs i (get_or xs i nothing)
as_read xs i within = cc (slice_get-get_or xs i nothing within, slice_get-get_or xs i (get_or xs i nothing) within)

pub no_instance : {A : Type 0} (see : A → DesignInstance) (d : Design) (xs : List A) (i : ℕ) → map see xs ≡ d.instances → length xs ≤ i → instances_left d i ≡ []
no_instance see d xs i are le =
    let lines = λ (left : List (ℕ × DesignInstance)). text_of (map instance_line (map (tree_instance d) left)) in
    ap (λ (all : List DesignInstance). lines (drop i (enumerate_from 0 all))) (sym are) ∙ ap lines (none_numbered see xs i le)

-- ---- signals

-- the text of the signals from a number on
abbrev pub signals_left : Design → ℕ → List ℕ
signals_left d i = text_of (map signal_line (map (tree_signal d) (drop i (enumerate_from 0 d.signals))))

pub one_signal : {A : Type 0} (see : A → DesignSignal) (d : Design) (xs : List A) (i : ℕ) (x : A) → map see xs ≡ d.signals → i < length xs → x ≡ get_or xs i x
    → signals_left d i ≡ bytes_of (signal_line (tree_signal d (i, see x))) ++ signals_left d (i + 1)
one_signal see d xs i x are within is =
    let lines = λ (left : List (ℕ × DesignSignal)). text_of (map signal_line (map (tree_signal d) left)) in
    ap (λ (all : List DesignSignal). lines (drop i (enumerate_from 0 all))) (sym are)
    ∙ ap lines (first_left see xs i x within is)
    ∙ ap (λ (all : List DesignSignal). bytes_of (signal_line (tree_signal d (i, see x))) ++ lines (drop (i + 1) (enumerate_from 0 all))) are

pub no_signal : {A : Type 0} (see : A → DesignSignal) (d : Design) (xs : List A) (i : ℕ) → map see xs ≡ d.signals → length xs ≤ i → signals_left d i ≡ []
no_signal see d xs i are le =
    let lines = λ (left : List (ℕ × DesignSignal)). text_of (map signal_line (map (tree_signal d) left)) in
    ap (λ (all : List DesignSignal). lines (drop i (enumerate_from 0 all))) (sym are) ∙ ap lines (none_numbered see xs i le)

-- one count of drivers for each signal
abbrev pub counts_of : Design → List ℕ
counts_of d = map (drivers_of d) (range_with_len 0 (length d.signals))

pub as_many : {A : Type 0} (see : A → DesignSignal) (d : Design) (xs : List A) → map see xs ≡ d.signals → length (counts_of d) ≡ length xs
as_many see d xs are = length-map-range_with_len (drivers_of d) 0 (length d.signals) ∙ ap length (sym are) ∙ length-map xs see

pub count_at : {A : Type 0} (see : A → DesignSignal) (d : Design) (xs : List A) (i n : ℕ) → map see xs ≡ d.signals → i < length xs → n ≡ get_or (counts_of d) i n → n ≡ drivers_of d i
count_at see d xs i n are within is =
    let many : length d.signals ≡ length xs = ap length (sym are) ∙ length-map xs see in
    is ∙ get_or-map-range_with_len (drivers_of d) 0 (length d.signals) i i n (omega (arith, many, within)) (omega arith)

-- ---- the whole

-- the parts of a design's text behind its instances
abbrev pub after_instances : Design → List ℕ
after_instances d = text_of (map signal_line (tree_signals d)) ++ (bytes_of end_of_design ++ [])

pub tree_text : (d : Design) → text_of (tree_lines d) ≡ text_of (map instance_line (tree_instances d)) ++ after_instances d
tree_text d =
    let is = map instance_line (tree_instances d) in
    let ss = map signal_line (tree_signals d) in
    ap text_of (append_assoc is ss (end_of_design ∷ []))
    ∙ flat_map-append bytes_of is (ss ++ end_of_design ∷ [])
    ∙ ap (λ (rest : List ℕ). text_of is ++ rest) (flat_map-append bytes_of ss (end_of_design ∷ []))
