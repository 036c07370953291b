pub mod CellListLemmas
pub mod BitLemmas
pub mod ConstantLemmas
pub mod CellValueLemmas
pub mod CellStatementLemmas
pub mod ShortLemmas
pub mod CellProcessLemmas
pub mod CellNumberLemmas
pub mod CompiledLemmas
pub mod ScopeLemmas
pub mod CellPutLemmas
pub mod StepLemmas
pub mod ListLemmas
pub mod NamedLemmas
pub mod NumberLemmas
pub mod TypedTruths
pub mod SoundLemmas
pub mod NameLemmas
pub mod StandLemmas
pub mod PartLemmas
pub mod ZipLemmas
pub mod KindLemmas
pub mod ChangeLemmas
pub mod FitsLemmas
pub mod PutLemmas
pub mod FunctionalLemmas
pub mod CheckPartLemmas
pub mod CheckLemmas
pub mod DelayLemmas
pub mod ProcessLemmas
pub mod ValueLemmas
pub mod FoldLemmas
pub mod EdgeLemmas
pub mod StatementLemmas
pub mod WiderLemmas
pub mod PackageLemmas
pub mod TableLemmas
pub mod VectorLemmas
pub mod FirstLemmas
pub mod KeepLemmas
mod Rows
mod TruthLemmas
mod CheckRows
mod DelayRows
mod CellRows
