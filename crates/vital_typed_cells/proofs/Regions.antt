-- What no declaration of a cell breaks, where there is no place at which a clause is broken.
use Rattle.std.proofs.Common.{◌≡◌, Bool, true, false, List, [], ◌∷◌, ◌++◌, map, Option, Some, None, refl}
use Rattle.std.specs.Prelude.{cond, filter}
use Rattle.std.specs.List.{AllByRecursion, cons_option, filter_map, flat_map}
use Rattle.vital_declaration_clauses.specs.Clauses.{broken, broken_in}
use Rattle.vital_declaration_clauses.specs.Regions.{Region, inner_regions, of_process, outside, own_region, place_of, region_in, region_of, regions, seen_from, site_in}
use Rattle.vital_names.specs.Sites.{Site}
use Rattle.vital_nodes.specs.declared.decl.Decl.{Decl}
use Rattle.vital_nodes.specs.declared.stmt.Conc.{Conc}
use Rattle.vital_nodes.specs.declared.stmt.Conc.TheOpen.{Conc-F}
use Rattle.vital_nodes.specs.declared.stmt.Conc.TheViews.{out-Conc}
use Rattle.vital_nodes.specs.declared.stmt.Process.{Process}
use Rattle.vital_nodes.specs.declared.unit.Arch.{Arch}
use Rattle.vital_nodes.specs.Layers.{ConcLayer}
use Rattle.vital_objects.specs.Signals.{declarations}
use Rattle.vital_uses.specs.Nodes.{sited_declarations}
use Rattle.vital_uses.specs.Statements.{process, process_in, processes}
use Rattle.vital_nodes.specs.Statements.{all_concurrent}
use Rattle.vital_typed_cells.proofs.Found.{all-mapped, weaker}

-- ---- lists with nothing in them

pub none-before : {A : Type 0} (xs ys : List A) → xs ++ ys ≡ [] → xs ≡ []
none-before [] ys is = refl
none-before (x ∷ xs) ys is = cc

pub none-behind : {A : Type 0} (xs ys : List A) → xs ++ ys ≡ [] → ys ≡ []
none-behind [] ys is = is
none-behind (x ∷ xs) ys is = cc

pub none-each : {A B : Type 0} (f : A → List B) (xs : List A) → flat_map f xs ≡ [] → AllByRecursion (λ x. f x ≡ []) xs
none-each f [] is = tt
none-each f (x ∷ xs) is = (none-before (f x) (flat_map f xs) is, none-each f xs (none-behind (f x) (flat_map f xs) is))

none-here : {A B : Type 0} (f : A → B) (b : Bool) (x : A) (ys : List A) → map f (cond b (x ∷ ys) ys) ≡ [] → (b ≡ false) × (map f ys ≡ [])
none-here f true x ys is = absurd (cc)
none-here f false x ys is = (refl, is)

pub none-filtered : {A B : Type 0} (f : A → B) (test : A → Bool) (xs : List A) → map f (filter test xs) ≡ [] → AllByRecursion (λ x. test x ≡ false) xs
none-filtered f test [] is = tt
none-filtered f test (x ∷ xs) is =
    let here = none-here f (test x) x (filter test xs) is in
    (here.0, none-filtered f test xs here.1)

pub front-all : {A : Type 0} (P : A → Type 0) (xs ys : List A) → AllByRecursion P (xs ++ ys) → AllByRecursion P xs
front-all P [] ys all = tt
front-all P (x ∷ xs) ys all = (all.0, front-all P xs ys all.1)

pub back-all : {A : Type 0} (P : A → Type 0) (xs ys : List A) → AllByRecursion P (xs ++ ys) → AllByRecursion P ys
back-all P [] ys all = all
back-all P (x ∷ xs) ys all = back-all P xs ys all.1

-- ---- the regions of a cell

-- What holds of all regions holds of what the architecture declares itself, and of what each process declares.
pub own-outside : (P : Region → Type 0) (a : Option Arch) → P (outside []) → AllByRecursion P (own_region a) → P (outside (declarations a))
own-outside P None empty all = empty
own-outside P (Some a) empty all = all.0

pub own-all : (P : Region → Type 0) (a : Option Arch) → P (outside []) → AllByRecursion P (regions a) → P (outside (declarations a))
own-all P a empty all = own-outside P a empty (front-all P (own_region a) (inner_regions a) all)

process-first : (P : Region → Type 0) (v : ConcLayer) (rs : List Region) (ps : List Process) → AllByRecursion P (cons_option (region_in v) rs) → (AllByRecursion P rs → AllByRecursion (λ p. P (of_process p)) ps)
    → AllByRecursion (λ p. P (of_process p)) (cons_option (process_in v) ps)
process-first P (Conc-F.Process place label p) rs ps all rest = (all.0, rest all.1)
process-first P (Conc-F.ComponentInstance place i) rs ps all rest = rest all
process-first P (Conc-F.Instance place i) rs ps all rest = rest all
process-first P (Conc-F.Block place label b) rs ps all rest = rest all.1
process-first P (Conc-F.Call place name) rs ps all rest = rest all
process-first P (Conc-F.SignalAssignment place a) rs ps all rest = rest all

process-each : (P : Region → Type 0) (cs : List Conc) → AllByRecursion P (filter_map region_of cs) → AllByRecursion (λ p. P (of_process p)) (filter_map process cs)
process-each P [] all = tt
process-each P (c ∷ cs) all = process-first P (out-Conc c) (filter_map region_of cs) (filter_map process cs) all (process-each P cs)

process-inner : (P : Region → Type 0) (a : Option Arch) → AllByRecursion P (inner_regions a) → AllByRecursion (λ p. P (of_process p)) (processes a)
process-inner P None all = tt
process-inner P (Some a) all = process-each P (all_concurrent a.statements) all

pub processes-all : (P : Region → Type 0) (a : Option Arch) → AllByRecursion P (regions a) → AllByRecursion (λ p. P (of_process p)) (processes a)
processes-all P a all = process-inner P a (back-all P (own_region a) (inner_regions a) all)

-- ---- clauses

-- Each declaration of a region, seen from its site, breaks no clause of which no place is told.
abbrev pub IsFree : (Site → Decl → Bool) → Region → Type 0
IsFree breaks r = AllByRecursion (λ e. breaks e.site e.declaration ≡ false) (sited_declarations r.process r.declarations)

free-region : (breaks : Site → Decl → Bool) (r : Region) → broken_in breaks r ≡ [] → IsFree breaks r
free-region breaks r is =
    all-mapped (λ e. breaks e.site e.declaration ≡ false) (λ d. record { site = site_in r.process d.0; declaration = d.1 }) (seen_from r.declarations)
    (none-filtered (λ d. place_of d.1) (λ d. breaks (site_in r.process d.0) d.1) (seen_from r.declarations) is)

pub free-regions : (breaks : Site → Decl → Bool) (rs : List Region) → broken breaks rs ≡ [] → AllByRecursion (IsFree breaks) rs
free-regions breaks rs is = weaker (λ r. broken_in breaks r ≡ []) (IsFree breaks) (free-region breaks) rs (none-each (broken_in breaks) rs is)
