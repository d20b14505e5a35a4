-- The run of a silent text is done with what its parts denote, and so each text is decided.
pub mod Decided
pub mod DoneAuthority
pub mod DecidedTexts
pub mod DecidedAlone
pub mod DoneReferences
pub mod KeptDrives
pub mod DoneFileBases
pub mod DoneBases
pub mod DecidedBases
