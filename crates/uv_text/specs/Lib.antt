pub mod Class
pub mod Faults
pub mod Rows
pub mod Splits
pub mod Tails
