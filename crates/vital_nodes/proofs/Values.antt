-- The values of nodes, made from the last node on.
use Rattle.std.proofs.Common.{◌≡◌, ℕ, zero, suc, ◌≤◌, List, [], ◌∷◌, ◌++◌, length, map, take, drop, reverse, ◌-◌, refl, ap, sym, ◌∙◌, arith, append_assoc}
use Rattle.std.proofs.lemmas.List.{append-nil, length-append, length-map, length-reverse, reverse-append, reverse-reverse}
use Rattle.std.proofs.Math.Seq.{take-append_seam, drop-append_seam}
use Rattle.vital_nodes.specs.Nodes.{Node, parts_of}
use Rattle.vital_nodes.specs.Walk.{folded, nodes_of, nodes_of_all}

-- The laws of the walk and of the values.
abbrev pub WalkLaw : Type 0
WalkLaw = (v : Node) → nodes_of v ≡ v ∷ nodes_of_all (parts_of v)

abbrev pub ValueLaw : {R : Type 0} → (Node → List R → R) → Type 0
ValueLaw step = (v : Node) → folded step v ≡ step v (map (folded step) (parts_of v))

-- One node takes the values of its parts, of which the first stands last, and gives its own
abbrev pub turn : {R : Type 0} → (Node → List R → R) → Node → List R → List R
turn step v values = take (length values - length (parts_of v)) values ++ step v (reverse (drop (length values - length (parts_of v)) values)) ∷ []

-- all nodes of a list do, the last first
abbrev pub turns : {R : Type 0} → (Node → List R → R) → List Node → List R → List R
turns step [] values = values
turns step (v ∷ vs) values = turn step v (turns step vs values)

turns-append : {R : Type 0} (step : Node → List R → R) (us vs : List Node) (values : List R) → turns step (us ++ vs) values ≡ turns step us (turns step vs values)
turns-append step [] vs values = refl
turns-append step (u ∷ us) vs values = ap (turn step u) (turns-append step us vs values)

-- the step at a list in two parts
turn-at : {R : Type 0} (step : Node → List R → R) (v : Node) (xs ys : List R) (n : ℕ) → n ≡ length xs → take n (xs ++ ys) ++ step v (reverse (drop n (xs ++ ys))) ∷ [] ≡ xs ++ step v (reverse ys) ∷ []
turn-at step v xs ys n is =
    ap (λ m. take m (xs ++ ys) ++ step v (reverse (drop m (xs ++ ys))) ∷ []) is
    ∙ ap (λ zs. zs ++ step v (reverse (drop (length xs) (xs ++ ys))) ∷ []) (take-append_seam xs ys)
    ∙ ap (λ zs. xs ++ step v (reverse zs) ∷ []) (drop-append_seam xs ys)

value-count : {R : Type 0} (f : Node → R) (vs : List Node) (values : List R) → length (values ++ reverse (map f vs)) - length vs ≡ length values
value-count f vs values = omega (arith, length-append values (reverse (map f vs)), length-reverse (map f vs), length-map vs f)

turn-valued : {R : Type 0} (step : Node → List R → R) (v : Node) (values : List R) → ValueLaw step → turn step v (values ++ reverse (map (folded step) (parts_of v))) ≡ values ++ folded step v ∷ []
turn-valued step v values law =
    turn-at step v values (reverse (map (folded step) (parts_of v))) _ (value-count (folded step) (parts_of v) values)
    ∙ ap (λ rs. values ++ step v rs ∷ []) (reverse-reverse (map (folded step) (parts_of v)))
    ∙ ap (λ r. values ++ r ∷ []) (sym (law v))

-- one value more
value-put : {R : Type 0} (values rs : List R) (r : R) → (values ++ reverse rs) ++ r ∷ [] ≡ values ++ reverse (r ∷ rs)
value-put values rs r = append_assoc values (reverse rs) (r ∷ []) ∙ ap (λ zs. values ++ zs) (sym (reverse-append (r ∷ []) rs))

-- the nodes of nodes give the values of these
valued-to : {R : Type 0} (step : Node → List R → R) → WalkLaw → ValueLaw step → (n : ℕ) (us : List Node) (values : List R) → length (nodes_of_all us) ≤ n → turns step (nodes_of_all us) values ≡ values ++ reverse (map (folded step) us)
valued-to step walk law n [] values h = sym (append-nil values)
valued-to step walk law zero (v ∷ us) values h =
    absurd (omega (arith, h, length-append (nodes_of v) (nodes_of_all us), ap length (walk v)))
valued-to step walk law (suc n) (v ∷ us) values h =
    turns-append step (nodes_of v) (nodes_of_all us) values
    ∙ ap (turns step (nodes_of v)) (valued-to step walk law n us values (omega (arith, h, length-append (nodes_of v) (nodes_of_all us), ap length (walk v))))
    ∙ ap (λ vs. turns step vs (values ++ reverse (map (folded step) us))) (walk v)
    ∙ ap (turn step v) (valued-to step walk law n (parts_of v) (values ++ reverse (map (folded step) us)) (omega (arith, h, length-append (nodes_of v) (nodes_of_all us), ap length (walk v))))
    ∙ turn-valued step v (values ++ reverse (map (folded step) us)) law
    ∙ value-put values (map (folded step) us) (folded step v)

-- before the first turn: the nodes of a node give its value alone
pub all-turns : {R : Type 0} (step : Node → List R → R) → WalkLaw → ValueLaw step → (v : Node) (us : List Node) (values : List R) → us ≡ nodes_of v → values ≡ [] → turns step us values ≡ folded step v ∷ []
all-turns step walk law v us values are none =
    ap (λ vs. turns step vs values) are
    ∙ ap (turns step (nodes_of v)) none
    ∙ ap (λ vs. turns step vs []) (sym (append-nil (nodes_of v)))
    ∙ valued-to step walk law (length (nodes_of_all (v ∷ []))) (v ∷ []) [] (omega arith)

-- a turn of the last of the nodes
pub turned-last : {R : Type 0} (step : Node → List R → R) (us old : List Node) (v : Node) (values new result : List R) → old ≡ us ++ v ∷ [] → new ≡ turn step v values → turns step old values ≡ result → turns step us new ≡ result
turned-last step us old v values new result popped put before =
    ap (turns step us) put
    ∙ sym (turns-append step us (v ∷ []) values)
    ∙ ap (λ vs. turns step vs values) (sym popped)
    ∙ before
