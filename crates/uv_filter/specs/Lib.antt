pub mod Lines
pub mod Fates
pub mod Counts
pub mod Filtered
pub mod Progress
pub mod Run
