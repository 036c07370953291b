-- What assignments keep.
use Rattle.std.proofs.Common.{◌≡◌, ◌∙◌, ℕ, zero, suc, List, [], ◌∷◌, length, refl, ap}
use Rattle.vital_agenda.specs.Agendas.{Content, assigned, changed}
use Rattle.vital_agenda.specs.Driver.{Driver, send}
use Rattle.vital_base.specs.declared.kind.Kind.{Kind}
use Rattle.vital_kernel.specs.Activations.{KeepsValues}
use Rattle.vital_logic.specs.declared.level.Level.{Level}
use Rattle.vital_signals.specs.SignalStates.{AssignmentsKeepValues}

pub keeps_none : (c : Content) → KeepsValues c c
keeps_none c = record { now = refl; as_many = refl; current = λ s h. h }

pub keeps_then : (a b c : Content) → KeepsValues a b → KeepsValues b c → KeepsValues a c
keeps_then a b c one two =
    record { now = two.now ∙ one.now; as_many = two.as_many ∙ one.as_many; current = λ s h. two.current s (one.current s h) }

length-changed : (number : ℕ) (change : Driver → Driver) (ds : List Driver) → length (changed number change ds) ≡ length ds
length-changed number change [] = refl
length-changed zero change (d ∷ ds) = refl
length-changed (suc number) change (d ∷ ds) = ap (λ (n : ℕ). suc n) (length-changed number change ds)

pub keeps_assigned : AssignmentsKeepValues → (driver : ℕ) (kind : Kind) (value : Level) (delay : ℕ) (c : Content) → KeepsValues c (assigned driver kind value delay c)
keeps_assigned law driver kind value delay c =
    record {
      now = refl;
      as_many = length-changed driver (send c.now kind value delay) c.drivers;
      current = λ s h. law s driver kind value delay c h;
    }
