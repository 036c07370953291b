use Rattle.std.proofs.Common.{sym, ◌∙◌, ap, subst}
use Rattle.std.specs.BTreeMap.{insert_entry}
use Rattle.vital_associations.specs.Spans.{AreApart, is_met, meets, order, span_in}
use Rattle.vital_associations.proofs.MeetLemmas.{first-of, met-touched, whole-upto}
use Rattle.vital_associations.proofs.SpanLemmas.{any-more, apart-more}
use Rattle.vital_associations.proofs.spans.put_span.Goals as goal

pub returns-in-Ok-clause-apart : goal.returns-in-Ok-clause-apart
returns-in-Ok-clause-apart c =
    let s = c.args.span in
    let kept = c.args.spans.now.entries in
    let put = c.in-Ok.ensures.entries ∙ ap (λ b. insert_entry order kept b s.greatest) c.first.ensures in
    let free = sym (met-touched kept s) ∙ c.requires.free in
    subst AreApart (sym put) (apart-more (first-of s) s.greatest kept (whole-upto s c.requires.whole) c.requires.apart free)

pub returns-in-Ok-clause-met : goal.returns-in-Ok-clause-met
returns-in-Ok-clause-met c = λ z.
    let s = c.args.span in
    let kept = c.args.spans.now.entries in
    let put = c.in-Ok.ensures.entries ∙ ap (λ b. insert_entry order kept b s.greatest) c.first.ensures in
    let free = sym (met-touched kept s) ∙ c.requires.free in
    ap (λ ks. is_met ks z) put ∙ any-more (first-of s) s.greatest (λ k. meets (span_in k) z) kept (whole-upto s c.requires.whole) c.requires.apart free
