-- What the variables of instances hold at first.
use Rattle.std.proofs.Common.{◌≡◌, ◌+◌, ◌<◌, ◌≤◌, ℕ, suc, zero, Bool, List, [], ◌∷◌, ◌++◌, length, map, take, get_or, refl, sym, ◌∙◌, ap, subst, arith}
use Rattle.std.specs.Prelude.{All, IfSome, Some, slice_get}
use Rattle.std.specs.List.{AllZip, enumerate_from, range_with_len, zip}
use Rattle.std.specs.Option.{option_map_or}
use Rattle.std.proofs.lemmas.List.{map-append, take_all, take_more}
use Rattle.std.proofs.lemmas.List.Elements.{All-append, All-head, All-tail}
use Rattle.vital_cell.specs.Programs.{IsProcess, StandsFor}
use Rattle.vital_cell.specs.Execution.{Executed, all_executed, start_of}
use Rattle.vital_machine.specs.declared.program.Process.{Process}
use Rattle.vital_machine.specs.Programs.{ProgramParts, SlotLists}
use Rattle.vital_kernel.specs.Networks.{NetCell, lent_cell}
use Rattle.vital_kernel.specs.declared.network.NetCell.{NetCell as NetCell'}
use Rattle.vital_kernel.proofs.ListLemmas.{and-behind, and-some, and-weaker, front-at, if-some, mapped-at, some-and, zipped-back, zipped-made, zipped-more, zipped-weaker}
use Rattle.vital_kernel.specs.declared.instances.Instance.{Instance}
use Rattle.vital_kernel.specs.Instances.{Begins, FitsFrom, HasMore, HasOneMore, Runs, Stands, effects_in, instance_variables, named_slots, variables_in}
use Rattle.vital_kernel.specs.Processes.{first_variables}
use Rattle.vital_kernel.specs.Programs.{ProgramState}
use Rattle.vital_timing.specs.declared.delay.Delay.{Delay}
use Rattle.vital_typed_cells.specs.declared.typed_cell.TypedCell.{TypedCell}

-- ---- the variables of an instance

-- Each process begins as what is executed under its number.
begun : (c : TypedCell) (values : List Delay) (checks_on : Bool) (n : ℕ) (xs : List Executed) (ps : List Process) → AllZip (IsProcess c values checks_on) (enumerate_from n xs) ps → map named_slots (zip xs (map (λ p. p.first) ps)) ≡ map (λ x. start_of c values x.1) (enumerate_from n xs)
begun c values checks_on n [] [] all = refl
begun c values checks_on n [] (p ∷ ps) all = absurd all
begun c values checks_on n (x ∷ xs) [] all = absurd all
begun c values checks_on n (x ∷ xs) (p ∷ ps) all =
    ap (λ v. v ∷ map named_slots (zip xs (map (λ p. p.first) ps))) all.0.first
    ∙ ap (λ vs. start_of c values x ∷ vs) (begun c values checks_on (n + 1) xs ps all.1)

-- What is made of each item is made of the item of its number.
numbered-made : {A B : Type 0} (f : A → B) (other : B) (all : List A) (n : ℕ) (xs : List A) → ((i : ℕ) (x : A) → slice_get xs i ≡ Some x → slice_get all (n + i) ≡ Some x) → map (λ p. f p.1) (enumerate_from n xs) ≡ map (λ k. option_map_or f (slice_get all k) other) (range_with_len n (length xs))
numbered-made f other all n [] there = refl
numbered-made f other all n (x ∷ xs) there =
    let same : n + 0 ≡ n = omega arith in
    let here : slice_get all n ≡ Some x = ap (λ k. slice_get all k) (sym same) ∙ there 0 x refl in
    let shift : (i : ℕ) → (n + 1) + i ≡ n + suc i = λ i. omega arith in
    ap (λ o. option_map_or f o other ∷ map (λ p. f p.1) (enumerate_from (n + 1) xs)) (sym here)
    ∙ ap (λ ys. option_map_or f (slice_get all n) other ∷ ys) (numbered-made f other all (n + 1) xs (λ i y at. ap (λ k. slice_get all k) (shift i) ∙ there (suc i) y at))

pub first-variables : (cell : NetCell) (program : ProgramParts) (number : ℕ) (store : SlotLists) → StandsFor program cell.tree cell.delays → store.listed ≡ map (λ p. p.first) program.processes → instance_variables (cell, record { program = number; store = store }) ≡ first_variables cell
first-variables cell program number store stands is =
    let xs = all_executed cell.tree in
    let same : (i : ℕ) → 0 + i ≡ i = λ i. omega arith in
    ap (λ listed. map named_slots (zip xs listed)) is
    ∙ begun cell.tree cell.delays program.timing_checks_on 0 xs program.processes stands.processes
    ∙ numbered-made (start_of cell.tree cell.delays) [] xs 0 xs (λ i x at. ap (λ k. slice_get xs k) (same i) ∙ at)

-- ---- instances that are alike

-- The program of one stands for the cells of those that are alike.
pub alike-stands : (cells : List NetCell') (i : ℕ) (cell : NetCell') (programs : List ProgramState) (instances : List Instance) → i < length cells → cell ≡ get_or cells i cell → All (λ (c : NetCell'). IfSome (slice_get cells c.alike) (λ other. (other.cell.now ≡ c.cell.now) × (other.values.now ≡ c.values.now))) cells → AllZip (Begins programs) (map lent_cell (take i cells)) instances → IfSome (slice_get instances cell.alike) (λ other. Stands programs other.program (lent_cell cell))
alike-stands cells i cell programs instances within is alike all =
    let AreAlike : NetCell' → Type 0 = λ c. IfSome (slice_get cells c.alike) (λ other. (other.cell.now ≡ c.cell.now) × (other.values.now ≡ c.values.now)) in
    let here : AreAlike cell = subst AreAlike (sym is) (alike i cell within) in
    if-some (λ other. Stands programs other.program (lent_cell cell)) (slice_get instances cell.alike) (λ other at.
    let begun = zipped-back (Begins programs) (map lent_cell (take i cells)) instances cell.alike other all at in
    let source = mapped-at lent_cell (take i cells) cell.alike begun.0 begun.1 in
    let one = source.0 in
    let same = subst (λ o. IfSome o (λ x. (x.cell.now ≡ cell.cell.now) × (x.values.now ≡ cell.values.now))) (front-at i cells cell.alike one source.1) here in
    let stands : Stands programs other.program (lent_cell one) = subst (λ c. Stands programs other.program c) (sym source.2) begun.2.runs.stands in
    and-weaker (λ p. StandsFor p.program one.cell.now one.values.now) (λ p. StandsFor p.program cell.cell.now cell.values.now) (slice_get programs other.program) (λ p s. subst (λ v. StandsFor p.program cell.cell.now v) same.1 (subst (λ t. StandsFor p.program t one.values.now) same.0 s)) stands)

-- ---- one instance more

pub one-more : (cell : NetCell) (programs : List ProgramState) (number : ℕ) (program : ProgramState) (store : SlotLists) (before after : List Instance) → slice_get programs number ≡ Some program → Stands programs number cell → store.listed ≡ map (λ p. p.first) program.program.processes → FitsFrom 0 store program.program → after ≡ before ++ record { program = number; store = store } ∷ [] → HasOneMore programs cell before after
one-more cell programs number program store before after at stands first fits put = record {
  instance = record { program = number; store = store };
  behind = put;
  begins = record {
    runs = record {
      stands = stands;
      fits = and-some (λ p. FitsFrom 0 store p.program) (slice_get programs number) program at fits;
    };
    first = first-variables cell program.program number store (some-and (λ p. StandsFor p.program cell.tree cell.delays) (slice_get programs number) program at stands) first;
  };
}

-- What begins with programs begins with more of them.
begins-more : (before after : List ProgramState) (cell : NetCell) (instance : Instance) → HasMore before after → Begins before cell instance → Begins after cell instance
begins-more before after cell instance more b =
    subst (λ ps. Begins ps cell instance) (sym more.behind)
    (record {
      runs = record {
        stands = and-behind (λ p. StandsFor p.program cell.tree cell.delays) before more.more instance.program b.runs.stands;
        fits = and-behind (λ p. FitsFrom 0 instance.store p.program) before more.more instance.program b.runs.fits;
      };
      first = b.first;
    })

pub begin-more : (cells : List NetCell') (i : ℕ) (cell : NetCell') (before after : List ProgramState) (xs ys : List Instance) → i < length cells → cell ≡ get_or cells i cell → AllZip (Begins before) (map lent_cell (take i cells)) xs → HasMore before after → HasOneMore after (lent_cell cell) xs ys → AllZip (Begins after) (map lent_cell (take (i + 1) cells)) ys
begin-more cells i cell before after xs ys within is all more one =
    let front = map lent_cell (take i cells) in
    let more-cells : map lent_cell (take (i + 1) cells) ≡ front ++ lent_cell cell ∷ [] =
    ap (map lent_cell) (take_more cells i cell within ∙ ap (λ c. take i cells ++ c ∷ []) (sym is)) ∙ map-append lent_cell (take i cells) (cell ∷ []) in
    subst (λ cs. AllZip (Begins after) cs ys) (sym more-cells)
    (subst (λ zs. AllZip (Begins after) (front ++ lent_cell cell ∷ []) zs) (sym one.behind)
    (zipped-more (Begins after) front xs (lent_cell cell) one.instance (zipped-weaker (Begins before) (Begins after) (λ c x b. begins-more before after c x more b) front xs all) one.begins))

pub none-more : (before after : List ProgramState) → All (λ (p : ProgramState). p.effects ≡ []) before → HasMore before after → All (λ (p : ProgramState). p.effects ≡ []) after
none-more before after none more =
    subst (λ ps. All (λ (p : ProgramState). p.effects ≡ []) ps) (sym more.behind) (All-append (λ p. p.effects ≡ []) before more.more none more.none)

-- ---- all instances

pub all-run : (cells : List NetCell') (n : ℕ) (programs : List ProgramState) (instances : List Instance) → length cells ≤ n → AllZip (Begins programs) (map lent_cell (take n cells)) instances → AllZip (Runs 0 programs) (map lent_cell cells) instances
all-run cells n programs instances all-of all =
    zipped-weaker (Begins programs) (Runs 0 programs) (λ c x b. b.runs) (map lent_cell cells) instances
    (subst (λ cs. AllZip (Begins programs) (map lent_cell cs) instances) (take_all n cells all-of) all)

pub all-first : (cells : List NetCell') (n : ℕ) (programs : List ProgramState) (instances : List Instance) → length cells ≤ n → AllZip (Begins programs) (map lent_cell (take n cells)) instances → variables_in (map lent_cell cells) instances ≡ map first_variables (map lent_cell cells)
all-first cells n programs instances all-of all =
    zipped-made (Begins programs) instance_variables first_variables (λ c x b. b.first) (map lent_cell cells) instances
    (subst (λ cs. AllZip (Begins programs) (map lent_cell cs) instances) (take_all n cells all-of) all)

pub none-in : (programs : List ProgramState) (k : ℕ) → All (λ (p : ProgramState). p.effects ≡ []) programs → effects_in programs k ≡ []
none-in [] k none = refl
none-in (p ∷ ps) zero none = All-head (λ p. p.effects ≡ []) p ps none
none-in (p ∷ ps) (suc k) none = none-in ps k (All-tail (λ p. p.effects ≡ []) p ps none)
