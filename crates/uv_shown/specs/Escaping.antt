-- Texts as they may be shown or written: with escapes where code points may not appear as they are.
pub mod Escapes
pub mod Printable
