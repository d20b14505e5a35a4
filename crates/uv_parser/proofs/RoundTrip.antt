-- The serialized text of a URL is parsed as that URL: what it denotes, that the parser is silent on it,
-- stable hosts, and the URLs that the parser gives.
pub mod SerializedTexts
pub mod SerializedHosts
pub mod SerializedPaths
pub mod SerializedAuthorities
pub mod StableHosts
pub mod RoundTripLemmas
