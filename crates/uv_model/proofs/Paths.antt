-- Lemmas on paths: segments, dot segments, the pieces between slashes, the walk.
pub mod PathLemmas
pub mod SlashedPaths
pub mod PathPieces
pub mod JoinedSegments
pub mod PathTexts
pub mod OpaquePaths
pub mod DotSegmentLemmas
pub mod WalkLemmas
pub mod SpacedPaths
