-- URLs as records (URL Standard, section 4.1): the record, what is asked of it, what parts denote, and its text.
pub mod Url
pub mod WellFormed
pub mod Denote
pub mod Serialize
pub mod AddressText
pub mod Held
pub mod PathText
