-- What a process reads is among its nodes: where nothing that is asked at these passes a test, nothing that is asked at those does.
use Rattle.std.proofs.Common.{◌≡◌, List, [], ◌∷◌, ◌++◌, map, Bool, true, false, refl, ap, sym, ◌∙◌, append-nil, arith, if◌then◌else◌}
use Rattle.std.specs.Prelude.{◌||◌, filter, Option, Some, None}
use Rattle.std.specs.List.{AllByRecursion, cons_option, filter_map, flat_map, list_any}
use Rattle.vital_nodes.specs.declared.decl.Decl.{Decl}
use Rattle.vital_nodes.specs.declared.decl.Decl.TheVariants as decl
use Rattle.vital_nodes.specs.declared.stmt.Process.{Process}
use Rattle.vital_nodes.specs.Nodes.{Node, expression_if_there, names, sequentials}
use Rattle.vital_nodes.specs.Places.{place_of}
use Rattle.vital_nodes.specs.Walk.{nodes_of, nodes_of_all}
use Rattle.vital_names.specs.Sites.{Cell, Site}
use Rattle.vital_nodes.specs.Statements.{all_sequential}
use Rattle.vital_nodes.proofs.Values.{WalkLaw}
use Rattle.vital_uses.specs.declared.asked.Asked.{Asked as Asked'}
use Rattle.vital_uses.specs.Asked.{Asked, asked, asked_at, lent_asked}
use Rattle.vital_uses.specs.Nodes.{declaration_nodes, nodes_before_statements, nodes_in, nodes_of_process, nodes_of_statements, sited_declarations}
use Rattle.vital_uses.specs.Parts.{asked_of_decl, asked_of_subtype, value_of_decl}
use Rattle.vital_uses.specs.Reads.{read_in, read_nodes}
use Rattle.vital_uses.specs.Sited.{Sited, SitedNode, own_site, seen_from, seen_from_themselves}
use Rattle.vital_uses.proofs.AmongLemmas.{Throughout, read-in_statements}
use Rattle.vital_uses.proofs.EachLemmas.{each-append, each-back, each-flat, each-front, each-map, each-unflat, each-unmap, each-weaker}

-- ---- values are among what is asked about in declarations

last-among : (P : Node → Type 0) (is_last : Bool) (vs us : List Node) → AllByRecursion P (nodes_of_all (if is_last then vs ++ us else [])) → AllByRecursion P (nodes_of_all (if is_last then us else []))
last-among P true vs us h = each-flat P nodes_of us (each-back (Throughout P) vs us (each-unflat P nodes_of (vs ++ us) h))
last-among P false vs us h = h

value-among : (P : Node → Type 0) (d : Decl) → AllByRecursion P (nodes_of_all (asked_of_decl d)) → AllByRecursion P (nodes_of_all (value_of_decl d))
value-among P (decl.Attribute identifier type_mark) h = tt
value-among P (decl.Specification s) h = tt
value-among P (decl.Object o) h = last-among P o.is_last (asked_of_subtype o.parts.subtype) (expression_if_there o.parts.value) h
value-among P (decl.Alias a) h = tt
value-among P (decl.Component c) h = tt

-- A node as seen from a site, and from its own place.
abbrev from : Site → Node → SitedNode
from site v = record { site = site; node = v }

abbrev from_itself : Process → Node → SitedNode
from_itself p v = record { site = own_site (Some p) (place_of v); node = v }

values-at : (P : SitedNode → Type 0) (d : Sited Decl) → AllByRecursion P (seen_from d.site (asked_of_decl d.declaration)) → AllByRecursion P (seen_from d.site (value_of_decl d.declaration))
values-at P d h =
    each-map P (from d.site) (nodes_of_all (value_of_decl d.declaration))
    (value-among (λ v. P (from d.site v)) d.declaration (each-unmap P (from d.site) (nodes_of_all (asked_of_decl d.declaration)) h))

values-in : (P : SitedNode → Type 0) (ds : List (Sited Decl)) → AllByRecursion P (nodes_in asked_of_decl ds) → AllByRecursion P (nodes_in value_of_decl ds)
values-in P ds h =
    each-flat P (λ d. seen_from d.site (value_of_decl d.declaration)) ds
    (each-weaker (λ d. AllByRecursion P (seen_from d.site (asked_of_decl d.declaration))) (λ d. AllByRecursion P (seen_from d.site (value_of_decl d.declaration))) (values-at P) ds
    (each-unflat P (λ d. seen_from d.site (asked_of_decl d.declaration)) ds h))

-- ---- what a process reads is among its nodes

read-at : WalkLaw → (P : SitedNode → Type 0) (p : Process) → AllByRecursion P (nodes_of_statements p) → AllByRecursion P (seen_from_themselves (Some p) (flat_map read_in (all_sequential p.statements)))
read-at law P p h =
    each-map P (from_itself p) (nodes_of_all (flat_map read_in (all_sequential p.statements)))
    (read-in_statements law (λ v. P (from_itself p v)) p.statements (each-unmap P (from_itself p) (nodes_of_all (sequentials p.statements)) h))

read-among : WalkLaw → (P : SitedNode → Type 0) (p : Process) → AllByRecursion P (nodes_of_process p) → AllByRecursion P (read_nodes p)
read-among law P p h =
    each-append P (nodes_in value_of_decl (sited_declarations (Some p) p.declarations)) (seen_from_themselves (Some p) (flat_map read_in (all_sequential p.statements)))
    (values-in P (sited_declarations (Some p) p.declarations)
    (each-front P (declaration_nodes (Some p) p.declarations) (seen_from_themselves (Some p) (names p.sensitivity))
    (each-front P (nodes_before_statements p) (nodes_of_statements p) h)))
    (read-at law P p (each-back P (nodes_before_statements p) (nodes_of_statements p) h))

-- ---- what is asked there

-- What is asked fails a test, if anything is.
abbrev Fails : (Asked → Bool) → Option Asked → Type 0
Fails test None = Unit {0}
Fails test (Some a) = test a ≡ false

both-fail : (a b : Bool) → (a || b) ≡ false → (a ≡ false) × (b ≡ false)
both-fail true b h = absurd (grind (arith, h))
both-fail false b h = (refl, h)

one-fails : (test : Asked → Bool) (o : Option Asked) (as' : List Asked) → list_any test (cons_option o as') ≡ false → Fails test o × (list_any test as' ≡ false)
one-fails test None as' h = (tt, h)
one-fails test (Some a) as' h = both-fail (test a) (list_any test as') h

all-fail : (test : Asked → Bool) (find : SitedNode → Option Asked) (vs : List SitedNode) → list_any test (filter_map find vs) ≡ false → AllByRecursion (λ v. Fails test (find v)) vs
all-fail test find [] h = tt
all-fail test find (v ∷ vs) h =
    ((one-fails test (find v) (filter_map find vs) h).0, all-fail test find vs (one-fails test (find v) (filter_map find vs) h).1)

none-first : (test : Asked → Bool) (o : Option Asked) (as' : List Asked) → Fails test o → filter test as' ≡ [] → filter test (cons_option o as') ≡ []
none-first test None as' fails none = none
none-first test (Some a) as' fails none = ap (λ kept. if kept then a ∷ filter test as' else filter test as') fails ∙ none

none-passes : (test : Asked → Bool) (find : SitedNode → Option Asked) (vs : List SitedNode) → AllByRecursion (λ v. Fails test (find v)) vs → filter test (filter_map find vs) ≡ []
none-passes test find [] h = refl
none-passes test find (v ∷ vs) h = none-first test (find v) (filter_map find vs) h.0 (none-passes test find vs h.1)

any-seen : (test : Asked → Bool) (kept : List Asked') → list_any test (map lent_asked kept) ≡ list_any (λ a. test (lent_asked a)) kept
any-seen test [] = refl
any-seen test (a ∷ as') = ap (λ found. test (lent_asked a) || found) (any-seen test as')

-- where nothing that is kept passes a test, nothing that the process reads is put
pub none-put : {A : Type 0} → WalkLaw → (test : Asked → Bool) (value : Asked → A) (cell : Cell) (p : Process) (kept : List Asked') (before : List A) → map lent_asked kept ≡ asked cell (nodes_of_process p)
    → list_any (λ a. test (lent_asked a)) kept ≡ false → before ≡ before ++ map value (filter test (asked cell (read_nodes p)))
none-put law test value cell p kept before are none =
    let failing : list_any test (asked cell (nodes_of_process p)) ≡ false = ap (list_any test) (sym are) ∙ any-seen test kept ∙ none in
    let nothing : filter test (asked cell (read_nodes p)) ≡ [] =
    none-passes test (asked_at cell) (read_nodes p)
    (read-among law (λ v. Fails test (asked_at cell v)) p (all-fail test (asked_at cell) (nodes_of_process p) failing)) in
    sym (append-nil before) ∙ ap (λ as'. before ++ map value as') (sym nothing)
