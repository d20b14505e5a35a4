pub mod Domains
pub mod FittingForms
pub mod NameKinds
pub mod OpaqueHosts
pub mod ParserHosts
pub mod PlainNames
