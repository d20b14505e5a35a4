mod CaseLemmas
mod PassLemmas
mod PlaceLemmas
mod ReportLemmas
