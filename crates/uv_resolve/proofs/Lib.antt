pub mod EncodedPathLemmas
pub mod KeptPathLemmas
pub mod KeptTextLemmas
pub mod RecordLemmas
pub mod SpacedEndLemmas
pub mod RunLemmas
pub mod SchemeNameLemmas
pub mod PathTextLemmas
mod WalkLemmas
pub mod WholePathLemmas
pub mod WriterLemmas
