-- Delays, place by place.
use Rattle.std.proofs.Common.{◌≡◌, ℕ, zero, suc, ◌<◌, List, [], ◌∷◌, length, map, get_or, ◌∙◌, ap, arith}
use Rattle.std.specs.Prelude.{slice_set}
use Rattle.std.specs.declared.alloc.Global.{Global}
use Rattle.std.specs.declared.vec.Vec.{Vec}
use Rattle.vital_annotate.specs.Annotations.{with_delay}
use Rattle.vital_timing.specs.declared.delay.Delay.{Delay}

abbrev pub row : Vec Delay Global → List Delay
row v = v.items

pub put-row : (vs : List (Vec Delay Global)) (i n : ℕ) (d : Delay) (old new : Vec Delay Global) → i < length vs → old ≡ get_or vs i old → new.items ≡ slice_set old.items n d → map row (slice_set vs i new) ≡ with_delay i n d (map row vs)
put-row [] i n d old new inside is more = absurd (omega arith)
put-row (v ∷ vs) zero n d old new inside is more = ap (λ l. l ∷ map row vs) (more ∙ ap (λ o. slice_set o.items n d) is)
put-row (v ∷ vs) (suc i) n d old new inside is more = ap (λ l. v.items ∷ l) (put-row vs i n d old new (omega arith) is more)
