-- The port bits that lines of stimuli name.
use Rattle.std.proofs.Common.{◌≡◌, ℕ, ◌+◌, ◌<◌, ◌≤◌, Bool, true, false, ◌||◌, ◌⊎◌, cond, eqb, List, [], ◌∷◌, length, take, map, get_or, set, replicate, inl, inr, refl, sym, ap, subst, ◌∙◌, arith}
use Rattle.std.specs.List.{enumerate_from, filter, range_with_len}
use Rattle.std.proofs.lemmas.Bool.{cases_eq, eq-eqb, ne_eqb}
use Rattle.std.proofs.lemmas.List.{get_or-replicate, get_or-set_other, get_or-set_same, length-replicate, length-set, take_all}
use Rattle.std.proofs.lemmas.List.FromFn.{fill_by_all, get_or-map-range_with_len}
use Rattle.vital_base.specs.declared.ports.PortBit.{PortBit}
use Rattle.vital_kernel.specs.DesignNetworks.{is_stimulated, stimulus_driver, stimulus_drivers}
use Rattle.vital_stim.specs.declared.stimuli.StimLine.{StimLine}
use Rattle.vital_nodes.proofs.Lists.{any-one}

-- For each of so many port bits it is marked whether a line names it.
pub record AreNamed (lines : List StimLine) (ports : ℕ) (named : List Bool) : Type 0 where
  pub all : length named ≡ ports
  pub marked : (n : ℕ) → n < ports → get_or named n false ≡ is_stimulated lines n

pub named-none : (ports : ℕ) → AreNamed [] ports (replicate ports false)
named-none ports = record { all = length-replicate ports false; marked = λ n lt. get_or-replicate ports n false false lt }

pub named-turn : (lines : List StimLine) (i : ℕ) (x : StimLine) (ports : ℕ) (now new : List Bool) → i < length lines → x ≡ get_or lines i x → AreNamed (take i lines) ports now → x.port < ports → new ≡ set now x.port true → AreNamed (take (i + 1) lines) ports new
named-turn lines i x ports now new within is before there put = record {
  all = ap length put ∙ length-set now x.port true ∙ before.all;
  marked = λ n lt.
      ap (λ (bs : List Bool). get_or bs n false) put ∙ one n lt (cases_eq n x.port)
      ∙ sym (any-one (λ (line : StimLine). eqb line.port n) lines i x within is);
}
  where
    one : (n : ℕ) → n < ports → (n ≡ x.port) ⊎ ¬ (n ≡ x.port) → get_or (set now x.port true) n false ≡ (eqb x.port n || is_stimulated (take i lines) n)
    one n lt (inl same) =
        ap (λ (m : ℕ). get_or (set now x.port true) m false) same
        ∙ get_or-set_same now x.port true false (omega (arith, before.all))
        ∙ sym (ap (λ (b : Bool). b || is_stimulated (take i lines) n) (eq-eqb x.port n (sym same)))
    one n lt (inr apart) =
        get_or-set_other now x.port n true false apart
        ∙ before.marked n lt
        ∙ sym (ap (λ (b : Bool). b || is_stimulated (take i lines) n) (ne_eqb x.port n (λ same. apart (sym same))))

pub named-all : (lines : List StimLine) (i ports : ℕ) (named : List Bool) → length lines ≤ i → AreNamed (take i lines) ports named → named ≡ map (is_stimulated lines) (range_with_len 0 ports)
named-all lines i ports named le before =
    fill_by_all (is_stimulated lines) named ports false before.all (λ n lt. before.marked n lt ∙ ap (λ (ls : List StimLine). is_stimulated ls n) (take_all i lines le))

-- ---- the drivers of those that are named

kept : (lines : List StimLine) (named : List Bool) (k : ℕ) (ps : List PortBit) → ((j : ℕ) → j < length ps → get_or named (k + j) false ≡ is_stimulated lines (k + j)) → filter (λ p. get_or named p.0 false) (enumerate_from k ps) ≡ filter (λ p. is_stimulated lines p.0) (enumerate_from k ps)
kept lines named k [] same = refl
kept lines named k (p ∷ ps) same =
    let first : k + 0 ≡ k = omega arith in
    let here : get_or named k false ≡ is_stimulated lines k = subst (λ (n : ℕ). get_or named n false ≡ is_stimulated lines n) first (same 0 (omega arith)) in
    let rest = filter (λ q. get_or named q.0 false) (enumerate_from (k + 1) ps) in
    let others = kept lines named (k + 1) ps (λ j lt. subst (λ (n : ℕ). get_or named n false ≡ is_stimulated lines n) (shift j) (same (j + 1) (omega (arith, lt)))) in
    ap (λ (b : Bool). cond b ((k, p) ∷ rest) rest) here ∙ ap (λ (qs : List (ℕ × PortBit)). cond (is_stimulated lines k) ((k, p) ∷ qs) qs) others
  where
    shift : (j : ℕ) → k + (j + 1) ≡ (k + 1) + j
    shift j = omega arith

pub drivers-of-named : (ports : List PortBit) (lines : List StimLine) (named : List Bool) → named ≡ map (is_stimulated lines) (range_with_len 0 (length ports)) → map stimulus_driver (filter (λ p. get_or named p.0 false) (enumerate_from 0 ports)) ≡ stimulus_drivers ports lines
drivers-of-named ports lines named are =
    ap (map stimulus_driver) (kept lines named 0 ports (λ j lt. ap (λ (bs : List Bool). get_or bs (0 + j) false) are ∙ at j lt))
  where
    at : (j : ℕ) → j < length ports → get_or (map (is_stimulated lines) (range_with_len 0 (length ports))) (0 + j) false ≡ is_stimulated lines (0 + j)
    at j lt =
        let zero-more : 0 + (0 + j) ≡ 0 + j = omega arith in
        get_or-map-range_with_len (is_stimulated lines) 0 (length ports) (0 + j) (0 + j) false (omega arith) zero-more
