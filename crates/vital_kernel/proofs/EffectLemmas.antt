-- The effects of a process, one by one.
use Rattle.std.proofs.Common.{◌≡◌, ◌∙◌, ℕ, ◌+◌, ◌<◌, List, ap, sym, subst, Option}
use Rattle.std.specs.Prelude.{IfSome}
use Rattle.vital_agenda.specs.Agendas.{Content, assigned}
use Rattle.vital_agenda.specs.Driver.{Driver}
use Rattle.vital_kernel.specs.Cycles.{sent}
use Rattle.vital_machine.specs.Fits.{EffectIsOfCell}
use Rattle.vital_machine.specs.declared.effect.Effect.{Effect}
use Rattle.vital_machine.specs.declared.effect.Effect.TheVariants as effect
use Rattle.vital_path_delay.specs.declared.send.Send.{Send}
use Rattle.vital_timing_checks.specs.declared.violated.Violated.{Violated}

pub fits_assign : (drivers bits : ℕ) (e : Effect) (driver : ℕ) (s : Send) → e ≡ effect.Assign driver s → EffectIsOfCell drivers bits e → driver < drivers
fits_assign drivers bits e driver s is h = subst (EffectIsOfCell drivers bits) is h

pub fits_glitch : (drivers bits : ℕ) (e : Effect) (port : ℕ) → e ≡ effect.Glitch port → EffectIsOfCell drivers bits e → port < bits
fits_glitch drivers bits e port is h = subst (EffectIsOfCell drivers bits) is h

pub fits_violation : (drivers bits : ℕ) (e : Effect) (test : ℕ) (reference : Option ℕ) (violated : Violated) → e ≡ effect.Violation test reference violated → EffectIsOfCell drivers bits e
    → (test < bits) × IfSome reference (λ bit. bit < bits)
fits_violation drivers bits e test reference violated is h = subst (EffectIsOfCell drivers bits) is h

-- the content after an effect
abbrev pub sent_content : Content → ℕ → Effect → Content
sent_content before first e = record { now = before.now; drivers = sent before.now first before.drivers e }

pub sent_assign : (before after : Content) (first : ℕ) (e : Effect) (driver : ℕ) (s : Send) → e ≡ effect.Assign driver s
    → after ≡ assigned (first + driver) s.kind s.value s.delay before → after ≡ sent_content before first e
sent_assign before after first e driver s is h = h ∙ ap (sent_content before first) (sym is)

pub sent_message : (before : Content) (first : ℕ) (e f : Effect) → e ≡ f → ((ds : List Driver) → sent before.now first ds f ≡ ds) → before ≡ sent_content before first e
sent_message before first e f is none =
    ap (λ (ds : List Driver). let it : Content = record { now = before.now; drivers = ds } in it) (sym (none before.drivers)) ∙ ap (sent_content before first) (sym is)

-- a content by its parts
pub content_is : (a : Content) (now : ℕ) (ds : List Driver) → a.now ≡ now → a.drivers ≡ ds → a ≡ (let it : Content = record { now = now; drivers = ds } in it)
content_is a now ds same are =
    ap (λ (t : ℕ). let it : Content = record { now = t; drivers = a.drivers } in it) same
    ∙ ap (λ (x : List Driver). let it : Content = record { now = now; drivers = x } in it) are
