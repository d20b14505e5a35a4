-- Lemmas on code points and texts: ASCII, bits, digits, units, encoding, marks.
pub mod AsciiLemmas
pub mod BitLemmas
pub mod DigitLemmas
pub mod UnitsLemmas
pub mod UnitsAhead
pub mod EncodingLemmas
pub mod MarkLemmas
