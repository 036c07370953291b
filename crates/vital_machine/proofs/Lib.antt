pub mod FitLemmas
mod ReadLemmas
pub mod TreeLemmas
mod WorthLemmas
mod ChangeLemmas
mod TimeLemmas
mod EffectLemmas
mod KindLemmas
mod StoreLemmas
mod StepLemmas
mod ResultLemmas
mod NumberLemmas
