-- Lemmas on the host parser and its address parsers: on valid hosts they give exactly the value.
pub mod Ipv6ReadersLemmas
pub mod Ipv6LoopLemmas
pub mod Ipv6MovesLemmas
pub mod Ipv6ParserLemmas
pub mod Ipv6ReadersTaken
pub mod Ipv6TurnsTaken
pub mod Ipv6Taken
pub mod Ipv4ParserLemmas
pub mod Ipv4Taken
pub mod HostParserLemmas
pub mod OtherHostsTaken
pub mod OtherHosts
pub mod SpecialHosts
