-- Lemmas on domains and on the one host of a text.
pub mod DomainLemmas
pub mod LastLabelLemmas
pub mod Ipv4Domains
pub mod NumberLemmas
pub mod StandardTexts
pub mod ParserForms
pub mod ParserTexts
pub mod HostUniqueness
pub mod FileHosts
