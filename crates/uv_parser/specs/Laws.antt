-- The laws of the parser's silence.
pub mod DecidedTexts
pub mod Silence
pub mod ValidTexts
pub mod OtherHosts
pub mod Differences
pub mod StepCounts
pub mod RoundTrip
