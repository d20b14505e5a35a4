pub mod Fault
pub mod Limits
pub mod LineRows
pub mod Report
pub mod Reporting
pub mod Run
pub mod Said
