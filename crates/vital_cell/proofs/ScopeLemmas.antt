-- The scopes in which a cell and its processes are compiled.
use Rattle.std.proofs.Common.{◌≡◌, ◌≤◌, ◌+◌, ℕ, suc, List, [], ◌∷◌, ◌++◌, length, map, take, refl, sym, ◌∙◌, ap, arith}
use Rattle.std.specs.Prelude.{Bool, slice_get, Option, Some}
use Rattle.std.specs.List.{AllZip, zip}
use Rattle.std.proofs.lemmas.List.{length-map, length-take-le}
use Rattle.vital_cell.specs.Compiled.{AreKnown, values_in}
use Rattle.vital_cell.specs.declared.known.KnownNames.{KnownNames}
use Rattle.vital_cell.proofs.ConstantLemmas.{IsWorthOf}
use Rattle.vital_cell.proofs.CellValueLemmas.{cell-worths}
use Rattle.vital_typed_cells.specs.Fits.{FitsCell, IsDelayOf}
use Rattle.vital_cell.specs.Environments.{NamedDelay, NamedWorth, cell_constants, control_of}
use Rattle.vital_objects.specs.declared.constant.Constant.{Constant}
use Rattle.vital_objects.specs.declared.generic.PlainGeneric.{PlainGeneric}
use Rattle.vital_objects.specs.declared.generic.TimingGeneric.{TimingGeneric}
use Rattle.vital_objects.specs.declared.variable.Variable.{Variable}
use Rattle.vital_operands.specs.declared.tree.Control.{Control}
use Rattle.vital_cell.specs.declared.worth.Worth.{Worth as Worth'}
use Rattle.vital_cell.specs.Scopes.{Scope, named_delays, named_worths, package_worths}
use Rattle.vital_cell.specs.Values.{scope_of_cell, with_constants, worths_in}
use Rattle.vital_cell.specs.Worths as worths
use Rattle.vital_timing.specs.declared.delay.Delay.{Delay}
use Rattle.vital_typed_cells.specs.Bits.{names_of}
use Rattle.vital_typed_cells.specs.declared.process.CellProcess.{CellProcess}
use Rattle.vital_typed_cells.specs.declared.typed_cell.TypedCell.{TypedCell}
use Rattle.vital_typed_cells.specs.Expressions.{Worth}
use Rattle.vital_typed_cells.specs.PackageWorths.{packages_worth}

-- ---- generics

plain-known : (gs : List PlainGeneric) → named_delays (map (λ g. g.name) gs) (map (λ g. g.default) gs) ≡ map (λ g. record { name = g.name; delay = g.default }) gs
plain-known [] = refl
plain-known (g ∷ gs) = ap (λ (ds : List NamedDelay). record { name = g.name; delay = g.default } ∷ ds) (plain-known gs)

generics-known : (gs : List TimingGeneric) (values : List Delay) (ps : List PlainGeneric) → AllZip IsDelayOf gs values → named_delays (map (λ g. g.name) gs ++ map (λ g. g.name) ps) (values ++ map (λ g. g.default) ps)
    ≡ map (λ g. record { name = g.0.name; delay = g.1 }) (zip gs values) ++ map (λ g. record { name = g.name; delay = g.default }) ps
generics-known [] [] ps fit = plain-known ps
generics-known [] (v ∷ vs) ps fit = absurd fit
generics-known (g ∷ gs) [] ps fit = absurd fit
generics-known (g ∷ gs) (v ∷ vs) ps fit = ap (λ (ds : List NamedDelay). record { name = g.name; delay = v } ∷ ds) (generics-known gs vs ps fit.1)

-- ---- the scope of a cell

abbrev pub scope_with : List (List ℕ) → List Variable → List NamedWorth → List (Option Worth) → List NamedDelay → (Control → Bool) → Scope
scope_with bits vs ns ws ds controls = record { bits = bits; variables = vs; constants = ns; packages = ws; generics = ds; controls = controls }

-- A scope in which the names of a cell mean what they do, but for its constants.
pub scope-known : (c : TypedCell) (values : List Delay) (bits : List (List ℕ)) (vs : List Variable) (ns : List NamedWorth) (ws : List (Option Worth)) (generics : List (List ℕ)) (delays : List Delay) (controls : Control → Bool) → FitsCell c values
    → bits ≡ names_of c.ports c.signals → vs ≡ [] → ws ≡ packages_worth c.packages → generics ≡ map (λ g. g.name) c.generics ++ map (λ g. g.name) c.plain_generics
    → delays ≡ values ++ map (λ g. g.default) c.plain_generics → controls ≡ control_of ws c.controls
    → scope_with bits vs ns ws (named_delays generics delays) controls ≡ with_constants (scope_of_cell c values) ns
scope-known c values bits vs ns ws generics delays controls fit bits-are none packages-are generics-are delays-are controls-are =
    let k = scope_of_cell c values in
    ap (λ x. scope_with x vs ns ws (named_delays generics delays) controls) bits-are
    ∙ ap (λ x. scope_with k.bits x ns ws (named_delays generics delays) controls) none
    ∙ ap (λ x. scope_with k.bits [] ns ws (named_delays generics delays) x) controls-are
    ∙ ap (λ x. scope_with k.bits [] ns x (named_delays generics delays) (control_of x c.controls)) packages-are
    ∙ ap (λ x. scope_with k.bits [] ns k.packages (named_delays x delays) k.controls) generics-are
    ∙ ap (λ x. scope_with k.bits [] ns k.packages (named_delays (map (λ (g : TimingGeneric). g.name) c.generics ++ map (λ (g : PlainGeneric). g.name) c.plain_generics) x) k.controls) delays-are
    ∙ ap (λ x. scope_with k.bits [] ns k.packages x k.controls) (generics-known c.generics values c.plain_generics fit)

-- Constants that are worth what those of a cell are.
constants-known : (c : TypedCell) (values : List Delay) (k : Scope) (any known all : List NamedWorth) → k ≡ with_constants (scope_of_cell c values) any → known ≡ [] → all ≡ worths_in k known c.constants → all ≡ cell_constants c values
constants-known c values k any known all is none are =
    are ∙ ap (λ q. worths_in q known c.constants) is ∙ ap (λ ns. worths_in (with_constants (scope_of_cell c values) any) ns c.constants) none

zip-none : {A B : Type 0} (xs : List A) → zip {K = A} {X = B} xs [] ≡ []
zip-none [] = refl
zip-none (x ∷ xs) = refl

pub none-worth : (names : List (List ℕ)) → named_worths names [] ≡ []
none-worth names = ap (map (λ p. record { name = p.0; worth = worths.lent p.1 })) (zip-none names)

zip-long : (names : List (List ℕ)) (ws : List Worth') → length (named_worths names ws) ≤ length ws
zip-long [] ws = omega arith
zip-long (n ∷ ns) [] = omega arith
zip-long (n ∷ ns) (w ∷ ws) = omega (arith, zip-long ns ws)

pub as-long : {A B : Type 0} (R : A → B → Type 0) (xs : List A) (ys : List B) → AllZip R xs ys → length xs ≡ length ys
as-long R [] [] all = refl
as-long R [] (y ∷ ys) all = absurd all
as-long R (x ∷ xs) [] all = absurd all
as-long R (x ∷ xs) (y ∷ ys) all = ap suc (as-long R xs ys all.1)

-- There are enough.
pub worths-long : (c : TypedCell) (values : List Delay) (names : List (List ℕ)) (ws : List Worth') → named_worths names ws ≡ cell_constants c values → length c.constants ≤ length ws
worths-long c values names ws are =
    let long : length c.constants ≡ length (cell_constants c values) = as-long IsWorthOf c.constants (cell_constants c values) (cell-worths c values) in
    let same : length (named_worths names ws) ≡ length (cell_constants c values) = ap length are in
    omega (arith, zip-long names ws)

-- What is known, as a scope.
abbrev pub known_scope : KnownNames → List (Option Worth') → List Delay → (Control → Bool) → List Worth' → Scope
known_scope known packages delays controls ws =
    scope_with known.bits known.no_variables (named_worths known.constants ws) (package_worths packages) (named_delays known.generics delays) controls

known-is : (c : TypedCell) (values : List Delay) (known : KnownNames) (packages : List (Option Worth')) (delays : List Delay) (controls : Control → Bool) (ws : List Worth') → FitsCell c values → AreKnown c values known
    → packages ≡ known.packages.items → delays ≡ known.delays.items → controls ≡ control_of (package_worths packages) c.controls
    → known_scope known packages delays controls ws ≡ with_constants (scope_of_cell c values) (named_worths known.constants ws)
known-is c values known packages delays controls ws fit are packages-are delays-are controls-are =
    scope-known c values known.bits known.no_variables (named_worths known.constants ws) (package_worths packages) known.generics delays controls fit are.bits are.no_variables
    (ap package_worths packages-are ∙ are.packages) are.generics (delays-are ∙ are.delays) controls-are

-- The constants of the cell are known then.
pub worths-known : (c : TypedCell) (values : List Delay) (known : KnownNames) (packages : List (Option Worth')) (delays : List Delay) (controls : Control → Bool) (first ws : List Worth') (ks : List Constant) → FitsCell c values → AreKnown c values known
    → packages ≡ known.packages.items → delays ≡ known.delays.items → controls ≡ control_of (package_worths packages) c.controls → first ≡ [] → ks ≡ c.constants
    → named_worths known.constants ws ≡ worths_in (known_scope known packages delays controls []) (named_worths known.constants first) ks → named_worths known.constants ws ≡ cell_constants c values
worths-known c values known packages delays controls first ws ks fit are packages-are delays-are controls-are none constants worths-are =
    constants-known c values (known_scope known packages delays controls []) (named_worths known.constants []) (named_worths known.constants first) (named_worths known.constants ws)
    (known-is c values known packages delays controls [] fit are packages-are delays-are controls-are) (ap (named_worths known.constants) none ∙ none-worth known.constants)
    (worths-are ∙ ap (worths_in (known_scope known packages delays controls []) (named_worths known.constants first)) constants)

pub scope-is : (c : TypedCell) (values : List Delay) (known : KnownNames) (packages : List (Option Worth')) (delays : List Delay) (controls : Control → Bool) (ws lent : List Worth') → FitsCell c values → AreKnown c values known
    → packages ≡ known.packages.items → delays ≡ known.delays.items → controls ≡ control_of (package_worths packages) c.controls → lent ≡ ws → named_worths known.constants ws ≡ cell_constants c values
    → known_scope known packages delays controls lent ≡ scope_of_cell c values
scope-is c values known packages delays controls ws lent fit are packages-are delays-are controls-are lent-are worths-are =
    known-is c values known packages delays controls lent fit are packages-are delays-are controls-are
    ∙ ap (with_constants (scope_of_cell c values)) (ap (named_worths known.constants) lent-are ∙ worths-are)

-- ---- the scope of a process

front-worths : (names others : List (List ℕ)) (ws : List Worth') → length names ≤ length ws → named_worths (names ++ others) (take (length names) ws) ≡ named_worths names ws
front-worths [] others ws enough = none-worth others
front-worths (n ∷ ns) others [] enough = absurd (omega arith)
front-worths (n ∷ ns) others (w ∷ ws) enough = ap (λ (ms : List NamedWorth). record { name = n; worth = worths.lent w } ∷ ms) (front-worths ns others ws (omega arith))

-- The first names mean the same with others behind them.
pub own-worths : (ks : List Constant) (names all others : List (List ℕ)) (ws front : List Worth') → names ≡ map (λ k. k.name) ks → all ≡ map (λ k. k.name) ks ++ others → length ks ≤ length ws → front ≡ take (length ks) ws
    → named_worths all front ≡ named_worths names ws
own-worths ks names all others ws front names-are all-are enough front-is =
    let own = map (λ (k : Constant). k.name) ks in
    let long : length own ≡ length ks = length-map ks (λ k. k.name) in
    ap (λ ns. named_worths ns front) all-are
    ∙ ap (named_worths (own ++ others)) (front-is ∙ ap (λ n. take n ws) (sym long))
    ∙ front-worths own others ws (omega arith)
    ∙ ap (λ ns. named_worths ns ws) (sym names-are)

at-behind : (xs ys : List (List ℕ)) (i : ℕ) → slice_get (xs ++ ys) (length xs + i) ≡ slice_get ys i
at-behind [] ys i = let same : 0 + i ≡ i = omega arith in ap (slice_get ys) same
at-behind (x ∷ xs) ys i = let same : suc (length xs) + i ≡ suc (length xs + i) = omega arith in ap (slice_get (x ∷ (xs ++ ys))) same ∙ at-behind xs ys i

-- The names behind the first ones.
pub names-behind : (ks : List Constant) (all others : List (List ℕ)) (n i : ℕ) (name : List ℕ) → all ≡ map (λ k. k.name) ks ++ others → n ≡ length ks → slice_get others i ≡ Some name → slice_get all (n + i) ≡ Some name
names-behind ks all others n i name all-are long at =
    let own = map (λ (k : Constant). k.name) ks in
    ap (λ ns. slice_get ns (n + i)) all-are
    ∙ ap (λ m. slice_get (own ++ others) (m + i)) (long ∙ sym (length-map ks (λ k. k.name)))
    ∙ at-behind own others i ∙ at

pub front-long : (ks : List Constant) (ws front : List Worth') (n : ℕ) → n ≡ length ks → length ks ≤ length ws → front ≡ take n ws → length front ≡ length ks
front-long ks ws front n long enough front-is = ap length front-is ∙ length-take-le n ws (omega arith) ∙ long

-- Where the constants of a process are known, in the scope of its cell.
pub values-made : (k : Scope) (ks : List Constant) (p : CellProcess) (known all : List (List ℕ)) (ws front new shown : List Worth') (n : ℕ) (own : List Constant) → k.constants ≡ named_worths known ws → known ≡ map (λ q. q.name) ks
    → all ≡ map (λ q. q.name) ks ++ map (λ q. q.name) p.constants → length ks ≤ length ws → n ≡ length ks → front ≡ take n ws → own ≡ p.constants
    → named_worths all new ≡ worths_in (with_constants k (named_worths all ws)) (named_worths all front) own → shown ≡ new → with_constants k (named_worths all shown) ≡ values_in k p
values-made k ks p known all ws front new shown n own constants known-are all-are enough long front-is own-is new-are shown-are =
    let first = own-worths ks known all (map (λ q. q.name) p.constants) ws front known-are all-are enough (front-is ∙ ap (λ m. take m ws) long) ∙ sym constants in
    ap (λ us. with_constants k (named_worths all us)) shown-are
    ∙ ap (with_constants k) (new-are ∙ ap (λ cs. worths_in k (named_worths all front) cs) own-is ∙ ap (λ ns. worths_in k ns p.constants) first)

-- Where it has none.
worths-alone : (k : Scope) (ks : List Constant) → length ks ≡ 0 → worths_in k k.constants ks ≡ k.constants
worths-alone k [] none = refl
worths-alone k (q ∷ qs) none = absurd (omega arith)

pub none-own : (k : Scope) (p : CellProcess) → length p.constants ≡ 0 → values_in k p ≡ k
none-own k p none = ap (with_constants k) (worths-alone k p.constants none)
