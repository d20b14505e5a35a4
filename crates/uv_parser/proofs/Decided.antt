-- Each text is valid under the parser's profile, or its run stops: part by part, with a scheme and without one.
pub mod CutTexts
pub mod TailsDecided
pub mod DecidedOpaque
pub mod DecidedPath
pub mod DecidedAuthority
pub mod DecidedFile
pub mod AuthorityTexts
pub mod DecidedSchemes
pub mod SchemeAbsent
pub mod ReferenceTexts
pub mod DecidedReferences
pub mod SilentOrStopped
