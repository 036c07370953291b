-- What assignments leave pending.
use Rattle.std.proofs.Common.{ℕ, zero, suc, ◌+◌, ◌-◌, true, false, cond, List, [], ◌∷◌, arith}
use Rattle.vital_base.specs.declared.kind.Kind.{Kind}
use Rattle.vital_base.specs.declared.kind.Kind.TheVariants.{Transport, Inertial}
use Rattle.vital_logic.specs.declared.level.Level.{Level}
use Rattle.vital_agenda.specs.declared.transaction.Transaction.{Transaction}
use Rattle.vital_agenda.specs.Agendas.{changed}
use Rattle.vital_agenda.specs.Driver.{AllRise, Driver, RisesFrom, is_kept, kept, pending_after, send, with_new}
use Rattle.vital_kernel.proofs.Rising.{rises_lower, with_new_rises}

kept_rises : (limit low : ℕ) (xs : List Transaction) → RisesFrom low xs → RisesFrom low (kept limit xs)
kept_rises limit low [] h = tt
kept_rises limit low (x ∷ xs) h =
    elim (is_kept limit (x ∷ xs)) as (λ b. RisesFrom low (cond b (x ∷ kept limit xs) (kept limit xs))) [
      | true ↦ (h.0, kept_rises limit (x.time + 1) xs h.1)
      | false ↦ kept_rises limit low xs (rises_lower low (x.time + 1) xs (omega (arith, h.0)) h.1)
    ]

-- what an assignment leaves rises still
pending_rises : (kind : Kind) (now delay : ℕ) (value : Level) (xs : List Transaction) → RisesFrom now xs → RisesFrom now (pending_after kind now value delay xs)
pending_rises Transport now delay value xs h = with_new_rises now (now + delay) value xs h (omega arith)
pending_rises Inertial now delay value xs h = kept_rises (now + delay - delay) now (with_new xs (now + delay) value) (with_new_rises now (now + delay) value xs h (omega arith))

pub sent_rise : (number now delay : ℕ) (kind : Kind) (value : Level) (ds : List Driver) → AllRise now ds → AllRise now (changed number (send now kind value delay) ds)
sent_rise number now delay kind value [] h = tt
sent_rise zero now delay kind value (d ∷ ds) h = (pending_rises kind now delay value d.pending h.0, h.1)
sent_rise (suc number) now delay kind value (d ∷ ds) h = (h.0, sent_rise number now delay kind value ds h.1)
