pub mod ReportedLemmas
