-- The profiles of the standard's written grammar, which say how hosts are written out.
use Rattle.uv_model.specs.declared.profile.Profile.{Profile}
use Rattle.uv_model.specs.declared.profile.Profile.TheVariants.{Standard, Wide, Parser}

-- the profile is one of them
abbrev pub IsWritten : Profile → Type 0
IsWritten Standard = Unit {0}
IsWritten Wide = Unit {0}
IsWritten Parser = ⊥
