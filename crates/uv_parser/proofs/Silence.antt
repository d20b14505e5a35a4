-- The claims on valid texts with a scheme, composed from the laws of the loops.
pub mod KeptParts
pub mod SilentOpaque
pub mod SilentPath
pub mod SilentAuthority
pub mod SilentFile
pub mod SilentSchemes
pub mod ValidSilent
