pub mod Second
pub mod PlainLinks
