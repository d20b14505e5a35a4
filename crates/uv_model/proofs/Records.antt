-- Lemmas on records: when they are well formed, and that denoted ones are.
pub mod WellFormedLemmas
pub mod DenotedRecords
pub mod SerializerLemmas
