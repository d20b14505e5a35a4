-- Lemmas on the one cut of a text: by scheme, authority and host, of a valid text; a scheme makes the base irrelevant,
-- and the parts of a valid text are unique.
pub mod CutLemmas
pub mod SchemeCutLemmas
pub mod BracketLemmas
pub mod AuthorityCutLemmas
pub mod HostCutLemmas
pub mod AuthorityLemmas
pub mod ValidCutLemmas
pub mod SchemesIgnoreBases
pub mod UniqueParts
pub mod CutRowsLemmas
