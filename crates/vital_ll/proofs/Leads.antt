-- What a table of lead ranks says of each alternative.
use Rattle.std.proofs.Common.{◌≡◌, ℕ, zero, suc, ◌+◌, true, List, [], ◌∷◌, get_or, Some, slice_get, subst, arith}
use Rattle.std.proofs.lemmas.Bool.{and_parts}
use Rattle.vital_ll.specs.declared.grammar.Sym.{Sym}
use Rattle.vital_ll.specs.Grammar.{Grammar, alternative_of}
use Rattle.vital_ll.specs.Masks.{MaskTable}
use Rattle.vital_ll.specs.Leads.{leads_lower, alternatives_lead_lower, rules_lead_lower, has_no_left_recursion}

-- an alternative of a rule of this rank
pub record LeadsLower (table : MaskTable) (leads : List ℕ) (rank : ℕ) (c : List Sym) : Type 0 where
  pub lower : leads_lower table leads rank c ≡ true

-- the first of the alternatives, and the others
lead_head : (table : MaskTable) (leads : List ℕ) (rank : ℕ) (c : List Sym) (alternatives : List (List Sym)) → alternatives_lead_lower table leads rank (c ∷ alternatives) ≡ true →
    LeadsLower table leads rank c × (alternatives_lead_lower table leads rank alternatives ≡ true)
lead_head table leads rank c alternatives e =
    let p = and_parts (leads_lower table leads rank c) (alternatives_lead_lower table leads rank alternatives) e in
    (record { lower = p.0 }, p.1)

-- each of the alternatives
lead_each : (table : MaskTable) (leads : List ℕ) (rank : ℕ) (alternatives : List (List Sym)) (a : ℕ) (c : List Sym) → alternatives_lead_lower table leads rank alternatives ≡ true →
    slice_get alternatives a ≡ Some c → LeadsLower table leads rank c
lead_each table leads rank [] a c e is = absurd (cc)
lead_each table leads rank (d ∷ alternatives) zero c e is =
    let same : d ≡ c = cc in subst (λ (l : List Sym). LeadsLower table leads rank l) same (lead_head table leads rank d alternatives e).0
lead_each table leads rank (d ∷ alternatives) (suc a) c e is = lead_each table leads rank alternatives a c (lead_head table leads rank d alternatives e).1 is

-- each alternative of each rule, the first of which is rule n
leads_from : (table : MaskTable) (leads : List ℕ) (n : ℕ) (rules : Grammar) (r a : ℕ) (c : List Sym) → rules_lead_lower table leads n rules ≡ true →
    alternative_of rules r a ≡ Some c → LeadsLower table leads (get_or leads (n + r) 0) c
leads_from table leads n [] r a c e is = absurd (cc)
leads_from table leads n (alternatives ∷ rules) zero a c e is =
    let p = and_parts (alternatives_lead_lower table leads (get_or leads n 0) alternatives) (rules_lead_lower table leads (n + 1) rules) e in
    subst (λ (x : ℕ). LeadsLower table leads (get_or leads x 0) c) (let f : n ≡ n + 0 = omega arith in f) (lead_each table leads (get_or leads n 0) alternatives a c p.0 is)
leads_from table leads n (alternatives ∷ rules) (suc r) a c e is =
    let p = and_parts (alternatives_lead_lower table leads (get_or leads n 0) alternatives) (rules_lead_lower table leads (n + 1) rules) e in
    subst (λ (x : ℕ). LeadsLower table leads (get_or leads x 0) c) (let f : (n + 1) + r ≡ n + suc r = omega arith in f) (leads_from table leads (n + 1) rules r a c p.1 is)

-- each alternative of each rule leads lower
pub leads_at : (g : Grammar) (table : MaskTable) (leads : List ℕ) (r a : ℕ) (c : List Sym) → has_no_left_recursion g table leads ≡ true → alternative_of g r a ≡ Some c →
    LeadsLower table leads (get_or leads r 0) c
leads_at g table leads r a c e is =
    subst (λ (x : ℕ). LeadsLower table leads (get_or leads x 0) c) (let f : 0 + r ≡ r = omega arith in f) (leads_from table leads 0 g r a c e is)
