mod NameLemmas
mod PlainLinkLemmas
mod PlainBytesLemmas
mod ReadingLemmas
