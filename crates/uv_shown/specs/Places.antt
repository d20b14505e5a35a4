-- The places of a text, and what is shown round one of them.
pub mod Window
pub mod SeenText
