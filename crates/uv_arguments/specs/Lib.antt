pub mod Arguments
pub mod Colours
pub mod Commands
pub mod Requests
