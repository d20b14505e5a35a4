-- The URL parser (URL Standard, sections 3.5 and 4.4), in the order in which to read it: its host parsers, the machine
-- and its runs, the laws, and rows that are computed.
pub mod Ipv4Parser
pub mod Ipv6Parser
pub mod HostParser
pub mod Machine
pub mod Run
pub mod Laws
pub mod Rows
