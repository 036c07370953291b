use Rattle.std.proofs.Common.{sym, ◌∙◌, ap}
use Rattle.vital_associations.specs.Spans.{Kept, end_of, is_upto, up_to}
use Rattle.vital_associations.proofs.MeetLemmas.{first-of, met-touched}
use Rattle.vital_associations.proofs.SpanLemmas.{last-touched, none-touched}
use Rattle.vital_associations.proofs.spans.is_met.Goals as goal

pub returns-in-None : goal.returns-in-None
returns-in-None c =
    let s = c.args.span in
    let kept = c.args.spans.now.entries in
    let last = end_of (first-of s, s.greatest) in
    sym (met-touched kept s ∙ none-touched kept (first-of s) last (ap (up_to kept) (sym c.last.ensures) ∙ c.in-None.ensures))

pub returns-in-Some : goal.returns-in-Some
returns-in-Some c =
    let s = c.args.span in
    let kept = c.args.spans.now.entries in
    let last = end_of (first-of s, s.greatest) in
    let x : Kept = (c.in-Some.bit, c.in-Some.index) in
    let before = c.in-Some.ensures.0 in
    c.is_upto.ensures
    ∙ ap (λ b. is_upto b (end_of x)) c.first.ensures
    ∙ sym (met-touched kept s ∙ last-touched kept before x (first-of s) last c.requires (ap (up_to kept) (sym c.last.ensures) ∙ c.in-Some.ensures.1))
