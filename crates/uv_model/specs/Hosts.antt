-- What stands for a host (URL Standard, section 3.4): addresses, domains, opaque hosts.
pub mod Address
pub mod OpaqueHost
pub mod Domain
pub mod Numbers
pub mod StoppedHost
