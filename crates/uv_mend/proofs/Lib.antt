pub mod TextLemmas
pub mod SameLemmas
pub mod EscapeLemmas
pub mod KindLemmas
pub mod StrippedLemmas
pub mod RepairLemmas
mod StepLemmas
mod EncodedLemmas
mod PassedOver
mod StaysStripped
mod ReadStripped
mod TurnedLemmas
mod SchemeReadLemmas
mod CutReadLemmas
mod RenewedLemmas
mod SlashedLemmas
mod ReadSlashed
pub mod RestLemmas
pub mod RestCutLemmas
pub mod EscapedRest
pub mod SlashedRest
pub mod EditedRest
pub mod RestHosts
pub mod KeptRest
