-- The steps that split a name find the parts that it splits into, and no others.
use Rattle.std.proofs.Common.{◌≡◌, ℕ, ◌-◌, true, false, List, [], ◌∷◌, ◌++◌, length, refl, sym, ◌∙◌, ap, subst, arith, append_assoc, length-append}
use Rattle.std.specs.Prelude.{Bool, cond, ◌==◌, ◌||◌, Option, Some, None, is_none, find, unwrap_or, IfSome, IfNone}
use Rattle.std.specs.Option.{option_map, option_map_or, option_and_then}
use Rattle.std.specs.Str.{bytes_eq}
use Rattle.std.specs.Cmp.Lexicographic.{bytes_decides}
use Rattle.std.proofs.lemmas.Bool.{eqb-true}
use Rattle.vital_nodes.specs.declared.decl.Iface.{Iface}
use Rattle.vital_nodes.specs.declared.decl.Mode.{Mode}
use Rattle.vital_level0.specs.declared.parts.Edge.{Edge}
use Rattle.vital_level0.specs.declared.parts.Edge.TheVariants.{Absent, Noedge, Posedge, Negedge}
use Rattle.vital_level0.specs.declared.parts.Parts.{Parts}
use Rattle.vital_level0.specs.declared.parts.Prefix.{Prefix}
use Rattle.vital_level0.specs.declared.parts.Prefix.TheVariants.{Tpd, Tipd, Tsetup, Thold, Trecovery, Tremoval, Tperiod, Tpw, Tisd, Ticd}
use Rattle.vital_level0.specs.Ports.{number_of, mode_at}
use Rattle.vital_level0.specs.Prefixes.{prefixes, underscore, word_of, edge_text, is_in, second_port, may_have_condition, most_edges}
use Rattle.vital_level0.specs.Split.{IsSplit, IsPort, IsPortText, IsSecond, IsCondition, Splits, holds_underscore}
use Rattle.vital_level0.specs.Steps.{front_part, rest_after, prefix_of, if_fitting, port_of, port_at_front, second_at_front, edges_taken, condition_range, is_empty, after_ports, after_first, after_word, parts_of_name}
use Rattle.vital_level0.proofs.TailLemmas.{IsTail, front_part-append, rest_after-append, front-joins-rest, front-whole, rest-tail, tail-append}
use Rattle.vital_level0.proofs.EdgeLemmas.{taken-all, is-taken}

-- ---- a split name is taken apart

prefix_of-word : (kind : Prefix) → prefix_of (word_of kind) ≡ Some kind
prefix_of-word Tpd = refl
prefix_of-word Tipd = refl
prefix_of-word Tsetup = refl
prefix_of-word Thold = refl
prefix_of-word Trecovery = refl
prefix_of-word Tremoval = refl
prefix_of-word Tperiod = refl
prefix_of-word Tpw = refl
prefix_of-word Tisd = refl
prefix_of-word Ticd = refl

word-whole : (kind : Prefix) → holds_underscore (word_of kind) ≡ false
word-whole Tpd = refl
word-whole Tipd = refl
word-whole Tsetup = refl
word-whole Thold = refl
word-whole Trecovery = refl
word-whole Tremoval = refl
word-whole Tperiod = refl
word-whole Tpw = refl
word-whole Tisd = refl
word-whole Ticd = refl

edge-tail : (e : Edge) → IsTail (edge_text e)
edge-tail Absent = tt
edge-tail Noedge = refl
edge-tail Posedge = refl
edge-tail Negedge = refl

tail-of : (text part : List ℕ) → text ≡ underscore ∷ part → IsTail text
tail-of text part is = rw is refl

fitting-step : (fits : Mode → Bool) (m : Option Mode) → option_map fits m ≡ Some true → option_map_or fits m false ≡ true
fitting-step fits None is = let bad : is_none (option_map fits None) ≡ false = ap is_none is in let no : true ≡ false = bad in cc
fitting-step fits (Some m) is = ap (λ o. option_map_or (λ b. b) o false) is

port_of-port : (ports : List Iface) (fits : Mode → Bool) (part : List ℕ) (n : ℕ) → IsPort ports fits part n → port_of ports fits part ≡ Some n
port_of-port ports fits part n port = rw (port.named, fitting-step fits (mode_at ports n) port.fitting) refl

port_at_front-append : (ports : List Iface) (fits : Mode → Bool) (text rest : List ℕ) (n : ℕ) → IsPortText ports fits text n → IsTail rest → port_at_front ports fits (text ++ rest) ≡ Some (n, rest)
port_at_front-append ports fits text rest n port tail =
    let whole = port.port.whole in
    rw (port.spelled, front_part-append port.part rest whole tail, rest_after-append port.part rest whole tail, port_of-port ports fits port.part n port.port) refl

second_at_front-append : (ports : List Iface) (kind : Option (Mode → Bool)) (text rest : List ℕ) (second : Option ℕ) → IsSecond ports kind text second → IsTail rest → second_at_front ports kind (text ++ rest) ≡ Some (second, rest)
second_at_front-append ports None text rest second is tail = rw (is.0, is.1) refl
second_at_front-append ports (Some fits) text rest second (n, is, port) tail = rw (is, port_at_front-append ports fits text rest n port tail) refl

second-tail : (ports : List Iface) (kind : Option (Mode → Bool)) (text : List ℕ) (second : Option ℕ) → IsSecond ports kind text second → IsTail text
second-tail ports None text second is = rw (is.0) tt
second-tail ports (Some fits) text second (n, is, port) = tail-of text port.part port.spelled

condition-tail : (may : Bool) (start : ℕ) (text : List ℕ) (range : Option (ℕ × ℕ)) → IsCondition may start text range → IsTail text
condition-tail may start text None is = rw is tt
condition-tail may start text (Some range) (m, name, spelled, r) = tail-of text name spelled

condition-there : (may : Bool) (start : ℕ) (text : List ℕ) (range : Option (ℕ × ℕ)) → IsCondition may start text range → (is_empty text || may) ≡ true
condition-there may start text None is = rw is refl
condition-there may start text (Some range) (m, name, spelled, r) = rw (spelled, m) refl

condition_range-is : (may : Bool) (start : ℕ) (text : List ℕ) (range : Option (ℕ × ℕ)) → IsCondition may start text range → condition_range start text ≡ range
condition_range-is may start text None is = rw is refl
condition_range-is may start text (Some range) (m, name, spelled, r) = rw (spelled, r) refl

-- what a name is spelled by, from the front on
regroup : (w f s c a b : List ℕ) → w ++ f ++ s ++ c ++ a ++ b ≡ w ++ (f ++ (s ++ ((c ++ a) ++ b)))
regroup w f s c a b = simp append_assoc refl

pub complete : (ports : List Iface) (name : List ℕ) (p : Parts) → IsSplit name ports p → parts_of_name ports name ≡ Some p
complete ports name p s =
    let kind = p.kind in
    let word = word_of kind in
    let rest : List ℕ = (s.condition ++ edge_text s.test_edge) ++ edge_text s.reference_edge in
    let rest_is_tail : IsTail rest = tail-append (s.condition ++ edge_text s.test_edge) (edge_text s.reference_edge) (tail-append s.condition (edge_text s.test_edge) (condition-tail _ _ _ _ s.condition_name) (edge-tail s.test_edge)) (edge-tail s.reference_edge) in
    let after_f : List ℕ = s.second ++ rest in
    let after_f_is_tail : IsTail after_f = tail-append s.second rest (second-tail ports (second_port kind) s.second p.second s.second_port) rest_is_tail in
    let after_w : List ℕ = s.first ++ after_f in
    let after_w_is_tail : IsTail after_w = tail-append s.first after_f (tail-of s.first s.first_port.part s.first_port.spelled) after_f_is_tail in
    let spelled : name ≡ word ++ after_w = s.spelled ∙ regroup word s.first s.second s.condition (edge_text s.test_edge) (edge_text s.reference_edge) in
    let start : length (word ++ after_w) - length rest ≡ length (word ++ s.first ++ s.second) = omega (arith, length-append word after_w, length-append s.first after_f, length-append s.second rest, length-append (word ++ s.first) s.second, length-append word s.first) in
    rw (spelled, front_part-append word after_w (word-whole kind) after_w_is_tail, rest_after-append word after_w (word-whole kind) after_w_is_tail, prefix_of-word kind, port_at_front-append ports is_in s.first after_f p.first s.first_port after_f_is_tail, second_at_front-append ports (second_port kind) s.second rest p.second s.second_port rest_is_tail, taken-all kind s.condition s.test_edge s.reference_edge s.all_edges, condition-there _ _ _ _ s.condition_name, start, condition_range-is _ _ _ _ s.condition_name, sym s.edges) refl

-- ---- what is taken apart splits so

none-not-some : {A : Type 0} (y : A) → ◌≡◌ {A = Option A} None (Some y) → ⊥
none-not-some y is = cc

and_then-some : {A B : Type 0} (f : A → Option B) (o : Option A) (y : B) → option_and_then f o ≡ Some y → (x : A) × (o ≡ Some x) × (f x ≡ Some y)
and_then-some f None y is = absurd (none-not-some y is)
and_then-some f (Some x) y is = (x, refl, is)

map-some : {A B : Type 0} (f : A → B) (o : Option A) (y : B) → option_map f o ≡ Some y → (x : A) × (o ≡ Some x) × (f x ≡ y)
map-some f None y is = absurd (none-not-some y is)
map-some f (Some x) y is = (x, refl, ap (λ o. unwrap_or o y) is)

cond-some : {A : Type 0} (b : Bool) (x y : A) → ◌≡◌ {A = Option A} (cond b (Some x) None) (Some y) → (x ≡ y) × (b ≡ true)
cond-some true x y is = (ap (λ o. unwrap_or o y) is, refl)
cond-some false x y is = absurd (none-not-some y is)

find-step : {A : Type 0} (p : A → Bool) (y : A) (rest : Option A) (x : A) (b : Bool) → p y ≡ b → cond b (Some y) rest ≡ Some x → (rest ≡ Some x → p x ≡ true) → p x ≡ true
find-step p y rest x true is found later = ap p (sym (ap (λ o. unwrap_or o x) found)) ∙ is
find-step p y rest x false is found later = later found

find-passes : {A : Type 0} (p : A → Bool) (xs : List A) (x : A) → find p xs ≡ Some x → p x ≡ true
find-passes p [] x is = absurd (none-not-some x is)
find-passes p (y ∷ ys) x is = find-step p y (find p ys) x (p y) refl is (find-passes p ys x)

word-of-prefix : (word : List ℕ) (kind : Prefix) → prefix_of word ≡ Some kind → word ≡ word_of kind
word-of-prefix word kind is = (bytes_decides word (word_of kind)).0 (find-passes (λ k. bytes_eq word (word_of k)) prefixes kind is)

mode-step : (fits : Mode → Bool) (m : Option Mode) → option_map_or fits m false ≡ true → option_map fits m ≡ Some true
mode-step fits None is = let no : false ≡ true = is in absurd cc
mode-step fits (Some m) is = ap (λ b. Some b) is

port-of-part : (ports : List Iface) (fits : Mode → Bool) (part : List ℕ) (n : ℕ) → holds_underscore part ≡ false → port_of ports fits part ≡ Some n → IsPort ports fits part n
port-of-part ports fits part n whole is =
    let a = and_then-some (if_fitting ports fits) (number_of ports part) n is in
    let b = cond-some (option_map_or fits (mode_at ports a.0) false) a.0 n a.2 in
    record {
      whole = whole;
      named = a.1 ∙ ap (λ k. Some k) b.0;
      fitting = sym (ap (λ k. option_map fits (mode_at ports k)) b.0) ∙ mode-step fits (mode_at ports a.0) b.1;
    }

abbrev at : ℕ → List ℕ → ℕ × List ℕ
at number rest = (number, rest)

abbrev with_rest : List ℕ → ℕ → ℕ × List ℕ
with_rest bs number = (number, rest_after bs)

abbrev second_of : ℕ × List ℕ → Option ℕ × List ℕ
second_of found = (Some found.0, found.1)

abbrev second_at : Option ℕ → List ℕ → Option ℕ × List ℕ
second_at second rest = (second, rest)

abbrev IsAtFront : List Iface → (Mode → Bool) → List ℕ → ℕ → List ℕ → Type 0
IsAtFront ports fits text n rest = (front : List ℕ) × (text ≡ front ++ rest) × IsPortText ports fits front n × IsTail rest

front-step : (ports : List Iface) (fits : Mode → Bool) (b : ℕ) (bs : List ℕ) (n : ℕ) (rest : List ℕ) (c : Bool) → (b == underscore) ≡ c → cond c (option_map (with_rest bs) (port_of ports fits (front_part bs))) None ≡ Some (at n rest) → IsAtFront ports fits (b ∷ bs) n rest
front-step ports fits b bs n rest false same is = absurd (none-not-some (at n rest) is)
front-step ports fits b bs n rest true same is =
    let a = map-some (with_rest bs) (port_of ports fits (front_part bs)) (at n rest) is in
    let n_is : a.0 ≡ n = ap (λ found. found.0) a.2 in
    let rest_is : rest_after bs ≡ rest = ap (λ found. found.1) a.2 in
    let P : List ℕ → Type 0 = IsTail in (
      underscore ∷ front_part bs,
      ap (λ x. x ∷ bs) (eqb-true b underscore same) ∙ ap (λ xs. underscore ∷ xs) (sym (front-joins-rest bs) ∙ ap (λ r. front_part bs ++ r) rest_is),
      record { part = front_part bs; spelled = refl; port = port-of-part ports fits (front_part bs) n (front-whole bs) (a.1 ∙ ap (λ k. Some k) n_is) },
      subst P rest_is (rest-tail bs),
    )

at-front : (ports : List Iface) (fits : Mode → Bool) (text : List ℕ) (n : ℕ) (rest : List ℕ) → port_at_front ports fits text ≡ Some (at n rest) → IsAtFront ports fits text n rest
at-front ports fits [] n rest is = absurd (none-not-some (at n rest) is)
at-front ports fits (b ∷ bs) n rest is = front-step ports fits b bs n rest (b == underscore) refl is

abbrev IsSecondAtFront : List Iface → Option (Mode → Bool) → List ℕ → Option ℕ → List ℕ → Type 0
IsSecondAtFront ports kind text second rest = (front : List ℕ) × (text ≡ front ++ rest) × IsSecond ports kind front second × IsTail rest

second-at-front : (ports : List Iface) (kind : Option (Mode → Bool)) (text : List ℕ) (second : Option ℕ) (rest : List ℕ) → IsTail text → second_at_front ports kind text ≡ Some (second_at second rest) → IsSecondAtFront ports kind text second rest
second-at-front ports None text second rest tail is =
    let pair = cond-some true (second_at None text) (second_at second rest) is in
    let P : List ℕ → Type 0 = IsTail in
    let text_is : text ≡ rest = ap (λ found. found.1) pair.0 in
    ([], text_is, (refl, sym (ap (λ found. found.0) pair.0)), subst P text_is tail)
second-at-front ports (Some fits) text second rest tail is =
    let a = map-some second_of (port_at_front ports fits text) (second_at second rest) is in
    let rest_is : a.0.1 ≡ rest = ap (λ found. found.1) a.2 in
    let b = at-front ports fits text a.0.0 rest (a.1 ∙ ap (λ r. Some (at a.0.0 r)) rest_is) in
    (b.0, b.1, (a.0.0, sym (ap (λ found. found.0) a.2), b.2), b.3)

condition-of-tail : (may : Bool) (start : ℕ) (text : List ℕ) → IsTail text → (is_empty text || may) ≡ true → IsCondition may start text (condition_range start text)
condition-of-tail may start [] tail there = refl
condition-of-tail may start (b ∷ bs) tail there = (there, bs, ap (λ x. x ∷ bs) tail, refl)

tail-front : (s t : List ℕ) → IsTail (s ++ t) → IsTail s
tail-front [] t tail = tt
tail-front (b ∷ bs) t tail = tail

pub sound : (ports : List Iface) (name : List ℕ) (p : Parts) → parts_of_name ports name ≡ Some p → IsSplit name ports p
sound ports name p is =
    let total = length name in
    let a = and_then-some (after_word ports total (rest_after name)) (prefix_of (front_part name)) p is in
    let kind = a.0 in
    let b = and_then-some (after_first ports kind total) (port_at_front ports is_in (rest_after name)) p a.2 in
    let c = and_then-some (after_ports kind total b.0.0) (second_at_front ports (second_port kind) b.0.1) p b.2 in
    let first = at-front ports is_in (rest_after name) b.0.0 b.0.1 b.1 in
    let second = second-at-front ports (second_port kind) b.0.1 c.0.0 c.0.1 first.3 c.1 in
    let rest = c.0.1 in
    let taken = is-taken kind rest in
    let text = (edges_taken (most_edges kind) rest).0 in
    let edges = (edges_taken (most_edges kind) rest).1 in
    let start = total - length rest in
    let found : Parts = record { kind = kind; first = b.0.0; second = c.0.0; condition = condition_range start text; edges = edges } in
    let d = cond-some (is_empty text || may_have_condition kind) found p c.2 in
    let word_is : front_part name ≡ word_of kind = word-of-prefix (front_part name) kind a.1 in
    let rest_is : rest ≡ (text ++ edge_text taken.0) ++ edge_text taken.1 = taken.3 in
    let name_is : name ≡ word_of kind ++ (first.0 ++ (second.0 ++ rest)) =
    sym (front-joins-rest name) ∙ ap (λ w. w ++ rest_after name) word_is ∙ ap (λ r. word_of kind ++ r) (first.1 ∙ ap (λ r. first.0 ++ r) second.1) in
    let P : List ℕ → Type 0 = IsTail in
    let text_tail : IsTail text = tail-front text (edge_text taken.0) (tail-front (text ++ edge_text taken.0) (edge_text taken.1) (subst P rest_is second.3)) in
    let start_is : start ≡ length (word_of kind ++ first.0 ++ second.0) =
    ap (λ n. length n - length rest) name_is
    ∙ omega (arith, length-append (word_of kind) (first.0 ++ (second.0 ++ rest)), length-append first.0 (second.0 ++ rest), length-append second.0 rest, length-append (word_of kind ++ first.0) second.0, length-append (word_of kind) first.0) in
    let C : ℕ → Type 0 = λ n. IsCondition (may_have_condition kind) n text (condition_range start text) in
    let S : Parts → Type 0 = λ q. IsSplit name ports q in
    subst S d.0 (record {
      first = first.0;
      second = second.0;
      condition = text;
      test_edge = taken.0;
      reference_edge = taken.1;
      spelled = name_is ∙ ap (λ r. word_of kind ++ (first.0 ++ (second.0 ++ r))) rest_is ∙ sym (regroup (word_of kind) first.0 second.0 text (edge_text taken.0) (edge_text taken.1));
      first_port = first.2;
      second_port = second.2;
      condition_name = subst C start_is (condition-of-tail (may_have_condition kind) start text text_tail d.1);
      edges = taken.2;
      all_edges = taken.4;
    })

-- ---- what a call answers
pub found-is : (ports : List Iface) (name : List ℕ) (r : Option Parts) → r ≡ parts_of_name ports name → IfSome r (λ p. IsSplit name ports p)
found-is ports name None is = tt
found-is ports name (Some p) is = sound ports name p (sym is)

pub none-is : (ports : List Iface) (name : List ℕ) (r : Option Parts) → r ≡ parts_of_name ports name → IfNone r (Splits name ports → ⊥)
none-is ports name None is = λ s. none-not-some s.0 (is ∙ complete ports name s.0 s.1)
none-is ports name (Some p) is = tt

pub one-split : (name : List ℕ) (ports : List Iface) (p q : Parts) → IsSplit name ports p → IsSplit name ports q → p ≡ q
one-split name ports p q of_p of_q = ap (λ o. unwrap_or o q) (sym (complete ports name p of_p) ∙ complete ports name q of_q)
