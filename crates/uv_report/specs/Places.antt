-- The places of a text: their columns.
pub mod Column
pub mod ColumnCounter
