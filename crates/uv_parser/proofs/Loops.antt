-- One law for each state that loops, over any rest of the text and any record: where it ends, and where it stops.
pub mod Looping
pub mod StoppingLoops
pub mod SchemeStretch
pub mod AuthorityLoops
pub mod AuthorityStarts
pub mod AuthorityEnds
pub mod FileHosts
pub mod PathLoops
pub mod PathStarts
pub mod Tails
