-- The laws that public functions carry, over every text: units and records, addresses, cuts; and rows of cuts.
pub mod Wholes
pub mod Addresses
pub mod Cuts
pub mod CutRows
