mod FilteredLemmas
mod LineLemmas
mod StandsLemmas
mod FaultLemmas
