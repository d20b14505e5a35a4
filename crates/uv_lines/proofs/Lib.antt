pub mod LineLemmas
pub mod WaitingLemmas
mod ReportedLemmas
mod StandsLemmas
pub mod PassLemmas
pub mod FramedLemmas
pub mod TakingLemmas
