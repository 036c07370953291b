-- The edges at the end of a text.
use Rattle.std.proofs.Common.{◌≡◌, ◌≢◌, ℕ, ◌-◌, true, false, List, [], ◌∷◌, ◌++◌, length, take, drop, get_or, reverse, refl, sym, ◌∙◌, ap, subst, arith, append-nil, length-append}
use Rattle.std.specs.Prelude.{Bool, cond, Option, Some, None, is_none}
use Rattle.std.specs.Option.{option_map}
use Rattle.std.specs.Str.{bytes_eq}
use Rattle.std.specs.Cmp.Lexicographic.{bytes_decides}
use Rattle.std.proofs.lemmas.List.{reverse-append, take-append-drop}
use Rattle.std.proofs.Math.Seq.{drop-append_seam, take-append_seam}
use Rattle.vital_level0.specs.declared.parts.Edge.{Edge}
use Rattle.vital_level0.specs.declared.parts.Edge.TheVariants.{Absent, Noedge, Posedge, Negedge}
use Rattle.vital_level0.specs.declared.parts.Prefix.{Prefix}
use Rattle.vital_level0.specs.declared.parts.Prefix.TheVariants.{Tpd, Tipd, Tsetup, Thold, Trecovery, Tremoval, Tperiod, Tpw, Tisd, Ticd}
use Rattle.vital_level0.specs.Prefixes.{edge_text, most_edges}
use Rattle.vital_level0.specs.Split.{EndsInEdge, AreEdges, no_edge, one_edge, two_edges}
use Rattle.vital_level0.specs.Steps.{before_end, before_edge, or_else, edge_at_end, two_taken, one_taken, edges_taken}

-- ---- an end of a text
bytes_eq-same : (s : List ℕ) → bytes_eq s s ≡ true
bytes_eq-same s = (bytes_decides s s).1 refl

pub before_end-append : (end front : List ℕ) → before_end end (front ++ end) ≡ Some front
before_end-append end front =
    let n : length (front ++ end) - length end ≡ length front = omega (arith, length-append front end) in
    rw (n, drop-append_seam front end, take-append_seam front end, bytes_eq-same end) refl

abbrev some_of : Option (List ℕ) → List ℕ
some_of None = []
some_of (Some x) = x

end-step : (end text front : List ℕ) (n : ℕ) (b : Bool) → bytes_eq (drop n text) end ≡ b → cond b (Some (take n text)) None ≡ Some front → text ≡ front ++ end
end-step end text front n true same is =
    let front_is : take n text ≡ front = ap some_of is in
    sym (take-append-drop n text) ∙ ap (λ d. take n text ++ d) ((bytes_decides (drop n text) end).0 same) ∙ ap (λ t. t ++ end) front_is
end-step end text front n false same is = let bad : None ≡ Some front = is in cc

pub before_end-sound : (end text front : List ℕ) → before_end end text ≡ Some front → text ≡ front ++ end
before_end-sound end text front is = end-step end text front (length text - length end) (bytes_eq (drop (length text - length end) text) end) refl is

-- ---- which edge it is

-- what tells the edges apart: the fifth byte from the end
abbrev mark_of : Edge → ℕ
mark_of Absent = 0
mark_of Noedge = 111
mark_of Posedge = 115
mark_of Negedge = 103

abbrev mark_at : List ℕ → ℕ
mark_at text = get_or (reverse text) 4 0

mark-of-edge : (front : List ℕ) (e : Edge) → e ≢ Absent → mark_at (front ++ edge_text e) ≡ mark_of e
mark-of-edge front Absent there = absurd (there refl)
mark-of-edge front Noedge there = rw (reverse-append front (edge_text Noedge)) refl
mark-of-edge front Posedge there = rw (reverse-append front (edge_text Posedge)) refl
mark-of-edge front Negedge there = rw (reverse-append front (edge_text Negedge)) refl

none-step : (end text : List ℕ) (o : Option (List ℕ)) → before_end end text ≡ o → ((front : List ℕ) → text ≡ front ++ end → ⊥) → o ≡ None
none-step end text None is never = refl
none-step end text (Some front) is never = absurd (never front (before_end-sound end text front is))

-- a text that ends in one edge does not end in another
other-none : (front : List ℕ) (e other : Edge) → e ≢ Absent → other ≢ Absent → mark_of e ≢ mark_of other → before_end (edge_text other) (front ++ edge_text e) ≡ None
other-none front e other e_there other_there differ =
    none-step (edge_text other) (front ++ edge_text e) (before_end (edge_text other) (front ++ edge_text e)) refl
    (λ before is. differ (sym (mark-of-edge front e e_there) ∙ ap mark_at is ∙ mark-of-edge before other other_there))

pub edge_at_end-append : (front : List ℕ) (e : Edge) → e ≢ Absent → edge_at_end (front ++ edge_text e) ≡ Some (front, e)
edge_at_end-append front Absent there = absurd (there refl)
edge_at_end-append front Posedge there = rw (before_end-append (edge_text Posedge) front) refl
edge_at_end-append front Negedge there =
    let p : before_end (edge_text Posedge) (front ++ edge_text Negedge) ≡ None = other-none front Negedge Posedge there (λ h. cc) (λ h. omega (arith, h)) in
    rw (p, before_end-append (edge_text Negedge) front) refl
edge_at_end-append front Noedge there =
    let p : before_end (edge_text Posedge) (front ++ edge_text Noedge) ≡ None = other-none front Noedge Posedge there (λ h. cc) (λ h. omega (arith, h)) in
    let n : before_end (edge_text Negedge) (front ++ edge_text Noedge) ≡ None = other-none front Noedge Negedge there (λ h. cc) (λ h. omega (arith, h)) in
    rw (p, n, before_end-append (edge_text Noedge) front) refl

-- what an edge that was found is
abbrev IsEnd : List ℕ → Option (List ℕ × Edge) → Type 0
IsEnd text None = Unit {0}
IsEnd text (Some (front, e)) = (e ≢ Absent) × (text ≡ front ++ edge_text e)

edge-step : (e : Edge) (text : List ℕ) (o : Option (List ℕ)) → e ≢ Absent → before_end (edge_text e) text ≡ o → IsEnd text (option_map (λ front. (front, e)) o)
edge-step e text None there is = tt
edge-step e text (Some front) there is = (there, before_end-sound (edge_text e) text front is)

or-step : (text : List ℕ) (a b : Option (List ℕ × Edge)) → IsEnd text a → IsEnd text b → IsEnd text (or_else a b)
or-step text None b of_a of_b = of_b
or-step text (Some x) b of_a of_b = of_a

pub edge_at_end-sound : (text : List ℕ) → IsEnd text (edge_at_end text)
edge_at_end-sound text =
    let p = edge-step Posedge text (before_end (edge_text Posedge) text) (λ h. cc) refl in
    let n = edge-step Negedge text (before_end (edge_text Negedge) text) (λ h. cc) refl in
    let o = edge-step Noedge text (before_end (edge_text Noedge) text) (λ h. cc) refl in
    or-step text (before_edge Posedge text) (or_else (before_edge Negedge text) (before_edge Noedge text)) p
    (or-step text (before_edge Negedge text) (before_edge Noedge text) n o)

-- ---- all edges

abbrev pub NotEdge : List ℕ → Type 0
NotEdge text = EndsInEdge text → ⊥

two-none : (text : List ℕ) (last : Edge) (o : Option (List ℕ × Edge)) → IsEnd text o → NotEdge text → two_taken text last o ≡ (text, last ∷ Absent ∷ [])
two-none text last None of_o never = refl
two-none text last (Some (front, e)) of_o never = absurd (never (front, e, of_o.0, of_o.1))

one-none : (most : ℕ) (text : List ℕ) (o : Option (List ℕ × Edge)) → IsEnd text o → NotEdge text → one_taken most text o ≡ (text, Absent ∷ Absent ∷ [])
one-none most text None of_o never = refl
one-none most text (Some (front, e)) of_o never = absurd (never (front, e, of_o.0, of_o.1))

pub edges_taken-one : (text : List ℕ) (test : Edge) → test ≢ Absent → edges_taken 1 (text ++ edge_text test) ≡ (text, test ∷ Absent ∷ [])
edges_taken-one text test there = rw (edge_at_end-append text test there) refl

pub edges_taken-one_of_two : (text : List ℕ) (test : Edge) → test ≢ Absent → NotEdge text → edges_taken 2 (text ++ edge_text test) ≡ (text, test ∷ Absent ∷ [])
edges_taken-one_of_two text test there never = rw (edge_at_end-append text test there) (two-none text test (edge_at_end text) (edge_at_end-sound text) never)

pub edges_taken-two : (text : List ℕ) (test reference : Edge) → test ≢ Absent → reference ≢ Absent → edges_taken 2 ((text ++ edge_text test) ++ edge_text reference) ≡ (text, test ∷ reference ∷ [])
edges_taken-two text test reference there too = rw (edge_at_end-append (text ++ edge_text test) reference too, edge_at_end-append text test there) refl

-- a text with edges, or without them
abbrev with_edges : List ℕ → Edge → Edge → List ℕ
with_edges text test reference = (text ++ edge_text test) ++ edge_text reference

without-both : (text : List ℕ) (test reference : Edge) → test ≡ Absent → reference ≡ Absent → with_edges text test reference ≡ text
without-both text test reference a b = rw (a, b, append-nil text, append-nil text) refl

without-last : (text : List ℕ) (test reference : Edge) → reference ≡ Absent → with_edges text test reference ≡ text ++ edge_text test
without-last text test reference b = rw (b) (append-nil (text ++ edge_text test))

abbrev beside : List ℕ → Edge → Edge → List ℕ × List Edge
beside text test reference = (text, test ∷ reference ∷ [])

edges_of : (test reference : Edge) (text : List ℕ) → reference ≡ Absent → beside text test Absent ≡ beside text test reference
edges_of test reference text b = ap (beside text test) (sym b)

no_edges_of : (test reference : Edge) (text : List ℕ) → test ≡ Absent → reference ≡ Absent → beside text Absent Absent ≡ beside text test reference
no_edges_of test reference text a b = ap (λ t. beside text t Absent) (sym a) ∙ ap (beside text test) (sym b)

-- edges that are those of a text are taken from it
pub taken-0 : (text : List ℕ) (test reference : Edge) → AreEdges 0 text test reference → edges_taken 0 (with_edges text test reference) ≡ (text, test ∷ reference ∷ [])
taken-0 text test reference (no_edge a b h) = ap (edges_taken 0) (without-both text test reference a b) ∙ no_edges_of test reference text a b
taken-0 text test reference (one_edge a b least h) = absurd (omega (arith, least))
taken-0 text test reference (two_edges a b least) = absurd (omega (arith, least))

pub taken-1 : (text : List ℕ) (test reference : Edge) → AreEdges 1 text test reference → edges_taken 1 (with_edges text test reference) ≡ (text, test ∷ reference ∷ [])
taken-1 text test reference (no_edge a b h) =
    ap (edges_taken 1) (without-both text test reference a b)
    ∙ one-none 1 text (edge_at_end text) (edge_at_end-sound text) (λ ends. let bad : 1 ≡ 0 = h ends in omega (arith, bad))
    ∙ no_edges_of test reference text a b
taken-1 text test reference (one_edge a b least h) =
    ap (edges_taken 1) (without-last text test reference b) ∙ edges_taken-one text test a ∙ edges_of test reference text b
taken-1 text test reference (two_edges a b least) = absurd (omega (arith, least))

pub taken-2 : (text : List ℕ) (test reference : Edge) → AreEdges 2 text test reference → edges_taken 2 (with_edges text test reference) ≡ (text, test ∷ reference ∷ [])
taken-2 text test reference (no_edge a b h) =
    ap (edges_taken 2) (without-both text test reference a b)
    ∙ one-none 2 text (edge_at_end text) (edge_at_end-sound text) (λ ends. let bad : 2 ≡ 0 = h ends in omega (arith, bad))
    ∙ no_edges_of test reference text a b
taken-2 text test reference (one_edge a b least h) =
    ap (edges_taken 2) (without-last text test reference b)
    ∙ edges_taken-one_of_two text test a (λ ends. let bad : 2 ≡ 1 = h ends in omega (arith, bad))
    ∙ edges_of test reference text b
taken-2 text test reference (two_edges a b least) = edges_taken-two text test reference a b

pub taken-all : (kind : Prefix) (text : List ℕ) (test reference : Edge) → AreEdges (most_edges kind) text test reference → edges_taken (most_edges kind) (with_edges text test reference) ≡ (text, test ∷ reference ∷ [])
taken-all Tpd = taken-1
taken-all Tipd = taken-0
taken-all Tsetup = taken-2
taken-all Thold = taken-2
taken-all Trecovery = taken-2
taken-all Tremoval = taken-2
taken-all Tperiod = taken-1
taken-all Tpw = taken-1
taken-all Tisd = taken-0
taken-all Ticd = taken-0

-- ---- edges that are taken from a text are those of it
abbrev pub IsTaken : ℕ → List ℕ → List ℕ × List Edge → Type 0
IsTaken most text (front, edges) = (test : Edge) × (reference : Edge) × (edges ≡ test ∷ reference ∷ []) × (text ≡ with_edges front test reference) × AreEdges most front test reference

abbrev edge_none : Option (List ℕ × Edge)
edge_none = None

abbrev edge_some : List ℕ → Edge → Option (List ℕ × Edge)
edge_some front e = Some (front, e)

none-never : (text : List ℕ) → edge_at_end text ≡ None → NotEdge text
none-never text is (front, e, there, spelled) =
    let bad : edge_none ≡ edge_some front e = sym is ∙ ap edge_at_end spelled ∙ edge_at_end-append front e there in
    let no : true ≡ false = ap is_none bad in
    elim (let P : Bool → Type 0 = λ b. elim b [ true ↦ Unit {0} | false ↦ ⊥ ] in subst P no tt) [ ]

is-nothing : (most : ℕ) (text : List ℕ) → (EndsInEdge text → most ≡ 0) → IsTaken most text (text, Absent ∷ Absent ∷ [])
is-nothing most text h = (Absent, Absent, refl, sym (without-both text Absent Absent refl refl), no_edge refl refl h)

one-step : (text : List ℕ) (o : Option (List ℕ × Edge)) → edge_at_end text ≡ o → IsEnd text o → IsTaken 1 text (one_taken 1 text o)
one-step text None is end = is-nothing 1 text (λ ends. absurd (none-never text is ends))
one-step text (Some (front, e)) is end = (e, Absent, refl, end.1 ∙ sym (append-nil (front ++ edge_text e)), one_edge end.0 refl (omega arith) (λ _. refl))

two-step : (text front : List ℕ) (last : Edge) (o : Option (List ℕ × Edge)) → edge_at_end front ≡ o → IsEnd front o → last ≢ Absent → text ≡ front ++ edge_text last → IsTaken 2 text (two_taken front last o)
two-step text front last None is end there spelled = (last, Absent, refl, spelled ∙ sym (append-nil (front ++ edge_text last)), one_edge there refl (omega arith) (λ ends. absurd (none-never front is ends)))
two-step text front last (Some (before, e)) is end there spelled = (e, last, refl, spelled ∙ ap (λ t. t ++ edge_text last) end.1, two_edges end.0 there (omega arith))

both-step : (text : List ℕ) (o : Option (List ℕ × Edge)) → edge_at_end text ≡ o → IsEnd text o → IsTaken 2 text (one_taken 2 text o)
both-step text None is end = is-nothing 2 text (λ ends. absurd (none-never text is ends))
both-step text (Some (front, e)) is end = two-step text front e (edge_at_end front) refl (edge_at_end-sound front) end.0 end.1

pub is-taken : (kind : Prefix) (text : List ℕ) → IsTaken (most_edges kind) text (edges_taken (most_edges kind) text)
is-taken Tpd text = one-step text (edge_at_end text) refl (edge_at_end-sound text)
is-taken Tipd text = is-nothing 0 text (λ _. refl)
is-taken Tsetup text = both-step text (edge_at_end text) refl (edge_at_end-sound text)
is-taken Thold text = both-step text (edge_at_end text) refl (edge_at_end-sound text)
is-taken Trecovery text = both-step text (edge_at_end text) refl (edge_at_end-sound text)
is-taken Tremoval text = both-step text (edge_at_end text) refl (edge_at_end-sound text)
is-taken Tperiod text = one-step text (edge_at_end text) refl (edge_at_end-sound text)
is-taken Tpw text = one-step text (edge_at_end text) refl (edge_at_end-sound text)
is-taken Tisd text = is-nothing 0 text (λ _. refl)
is-taken Ticd text = is-nothing 0 text (λ _. refl)
