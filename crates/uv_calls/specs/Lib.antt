-- Sets of bytes that are made of ranges.
pub mod ByteClass
-- The answer about a line of a list.
pub mod ListLines
