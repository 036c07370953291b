-- One turn of a loop over spans or ports: what stands before the next one.
use Rattle.std.proofs.Common.{◌≡◌, ℕ, ◌+◌, ◌<◌, ◌≤◌, List, [], ◌∷◌, ◌++◌, length, take, drop, map, get_or, sym, ap, ◌∙◌, append_assoc}
use Rattle.std.proofs.lemmas.List.{at_drop_all, at_drop_more}
use Rattle.vital_connections.specs.Objects.{lent}
use Rattle.vital_connections.specs.Own.{all_gaps, behind_gap, gap, gaps, leading}
use Rattle.vital_connections.specs.Runs.{bits_between}
use Rattle.vital_connections.specs.declared.object.Object.{Object}
use Rattle.vital_connections.specs.declared.span.Span.{Span}
use Rattle.vital_structure.specs.Shapes.{bits_of}

-- ---- spans of one port

pub gaps_turn : (port end : ℕ) (spans : List Span) (k : ℕ) (s : Span) (from next : ℕ) (old new total : List (ℕ × ℕ)) → k < length spans → s ≡ get_or spans k s → new ≡ old ++ gap s.connected from s → next ≡ behind_gap s.connected from s → old ++ gaps port end (drop k spans) from ≡ total → new ++ gaps port end (drop (k + 1) spans) next ≡ total
gaps_turn port end spans k s from next old new total lt is put to h =
    (λ i. put i ++ gaps port end (drop (k + 1) spans) (to i))
    ∙ append_assoc old (gap s.connected from s) (gaps port end (drop (k + 1) spans) (behind_gap s.connected from s))
    ∙ ap (λ bs. old ++ bs) (ap (λ x. gaps port end (x ∷ drop (k + 1) spans) from) is ∙ sym (at_drop_more (λ ss. gaps port end ss from) spans k s lt))
    ∙ h

pub gaps_end : (port end : ℕ) (spans : List Span) (k from : ℕ) → length spans ≤ k → gaps port end (drop k spans) from ≡ bits_between port from end
gaps_end port end spans k from le = at_drop_all (λ ss. gaps port end ss from) spans k le

-- ---- all ports

pub all_gaps_turn : (ports : List Object) (k : ℕ) (p : Object) (rest here others : List Span) (old new total : List (ℕ × ℕ)) → k < length ports → p ≡ get_or ports k p → here ≡ take (leading k rest) rest → others ≡ drop (leading k rest) rest → new ≡ old ++ gaps k (bits_of (lent p).shape) here 0 → old ++ all_gaps k (map lent (drop k ports)) rest ≡ total → new ++ all_gaps (k + 1) (map lent (drop (k + 1) ports)) others ≡ total
all_gaps_turn ports k p rest here others old new total lt is front back put h =
    (λ i. (put ∙ ap (λ ss. old ++ gaps k (bits_of (lent p).shape) ss 0) front) i ++ all_gaps (k + 1) (map lent (drop (k + 1) ports)) (back i))
    ∙ append_assoc old (gaps k (bits_of (lent p).shape) (take (leading k rest) rest) 0) (all_gaps (k + 1) (map lent (drop (k + 1) ports)) (drop (leading k rest) rest))
    ∙ ap (λ bs. old ++ bs) (ap (λ x. all_gaps k (map lent (x ∷ drop (k + 1) ports)) rest) is ∙ sym (at_drop_more (λ os. all_gaps k (map lent os) rest) ports k p lt))
    ∙ h

pub all_gaps_end : (ports : List Object) (k : ℕ) (rest : List Span) → length ports ≤ k → all_gaps k (map lent (drop k ports)) rest ≡ []
all_gaps_end ports k rest le = at_drop_all (λ os. all_gaps k (map lent os) rest) ports k le
