-- Lemmas on the texts of addresses: the library's grammar, one value to a text, what is written is read back,
-- the digits of a piece, and sizes.
pub mod AddressLemmas
pub mod AddressUniqueness
pub mod AddressesReadBack
pub mod AddressTextLemmas
pub mod AddressSizes
