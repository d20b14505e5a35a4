-- Files of vectors: the case that a JSON value is, when it passes, the lines of the report, and the run over a file.
pub mod Case
pub mod CaseFault
pub mod Ends
pub mod JsonFault
pub mod Passes
pub mod Report
pub mod Views
pub mod Run
