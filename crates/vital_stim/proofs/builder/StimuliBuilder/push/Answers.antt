use Rattle.std.proofs.Common.{◌≡◌, List, [], ◌∷◌, ◌++◌, refl, sym, ◌∙◌, ap, subst, Ok}
use Rattle.std.specs.List.{position_or_len}
use Rattle.vital_stim.specs.Entry.{stimulus}
use Rattle.vital_identifiers.specs.Identifiers.{folded}
use Rattle.vital_stim.specs.KnownPorts.{ports_in, with_port, as_told}
use Rattle.vital_stim.specs.Spellings.{Remembers}
use Rattle.vital_stim.specs.declared.stimuli.StimLine.{StimLine}
use Rattle.vital_stim.specs.Stimuli.{Stimulus, is_named, among_given}
use Rattle.vital_stim.proofs.BuilderLemmas.{holds-push}
use Rattle.vital_stim.proofs.SpellingLemmas.{is_known, spells, remembers-grows}
use Rattle.vital_stim.proofs.builder.StimuliBuilder.push.Goals as goal

pub returns-in-Some-clause-told : goal.returns-in-Some-clause-told
returns-in-Some-clause-told c = λ given stimuli held.
    let spelled = c.in-Some.ensures given (ports_in c.args.self.now.ports) held.spellings in
    rw spelled.form (sym (spelled.stands (stimulus c.args.entry.now) refl))

pub returns-in-Some-clause-held : goal.returns-in-Some-clause-held
returns-in-Some-clause-held c = λ given stimuli held.
    let ports = ports_in c.args.self.now.ports in
    let spelled = c.in-Some.ensures given ports held.spellings in
    let lines = ◌∙◌ {A = List StimLine} c.in_ok-push.ensures.items (ap (λ line. c.args.self.now.lines.items ++ line ∷ []) c.line_of.ensures) in
    holds-push given c.args.self.now _ stimuli (stimulus c.args.entry.now) _ held (spelled.stands (stimulus c.args.entry.now) refl) refl (is_known given ports c.args.entry.now.port.now _ spelled) spelled.place lines held.spellings

pub returns-in_ok-push-in-Ok-clause-held : goal.returns-in_ok-push-in-Ok-clause-held
returns-in_ok-push-in-Ok-clause-held c = λ given stimuli held.
    let old = ports_in c.args.self.now.ports in
    let bytes = c.args.entry.now.port.now in
    let name = c.deref.ensures.value ∙ c.in_ok-fold_into.ensures in
    let form = sym c.is_port.ensures ∙ c.if-not-is_port.false in
    let stands : (s : Stimulus) → s.name ≡ folded bytes → among_given given s ≡ Ok s =
    λ s named. ap (λ g. among_given g s) (sym held.known) ∙ sym (c.in_ok-port.ensures.told s (named ∙ sym name)) ∙ ap (as_told s) c.in-Ok.is in
    let number = rw c.in-Ok.is at c.in_ok-port.ensures.number in
    let place = number ∙ ap (λ n. position_or_len (is_named n) old) name in
    let grown = rw c.in-Ok.is at c.in_ok-port.ensures.ports in
    let ports = grown ∙ ap (with_port old) name in
    let remembered = c.put.ensures given _ (remembers-grows given c.args.self.now.spellings old (folded bytes) held.spellings) (spells given old bytes _ form place stands) in
    let lines = c.in_ok-push-in-Ok.ensures.items ∙ ap (λ line. c.args.self.now.lines.items ++ line ∷ []) c.line_of-in-Ok.ensures in
    holds-push given c.args.self.now _ stimuli (stimulus c.args.entry.now) _ held (stands (stimulus c.args.entry.now) refl) c.in_ok-port.ensures.given ports place lines (subst (λ ps. Remembers given ps c.put.new.self) (sym ports) remembered)
