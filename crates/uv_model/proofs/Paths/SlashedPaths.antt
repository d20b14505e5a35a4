-- A path after an authority, of any profile, is `/` and segments.
use Rattle.std.proofs.Common.{ℕ, List, inl, inr}
use Rattle.uv_model.specs.declared.profile.Profile.{Profile}
use Rattle.uv_model.specs.declared.profile.Profile.TheVariants.{Standard, Wide, Parser}
use Rattle.uv_model.specs.Path.{IsPathAbsolute, IsPathSlashed, MayBePathSlashed}
use Rattle.uv_model.specs.Valid.{IsPathAlone, IsPathAfter, MayBePathAfter}

-- a path-absolute string is `/` and segments
pub slashed_absolute : (segments : List (List ℕ)) (text : List ℕ) → IsPathAbsolute segments text
    → IsPathSlashed segments text
slashed_absolute segments text path =
    record { after = path.after; slashed = path.slashed; joins = path.relative.joins }

-- so is each path after an authority
pub slashed_after : (profile : Profile) (segments : List (List ℕ)) (text : List ℕ)
    → IsPathAfter profile segments text → IsPathSlashed segments text
slashed_after Standard segments text path = slashed_absolute segments text path
slashed_after Wide segments text path = path
slashed_after Parser segments text path = path

-- where there is one
pub slashed_or_none : (profile : Profile) (segments : List (List ℕ)) (text : List ℕ)
    → MayBePathAfter profile segments text → MayBePathSlashed segments text
slashed_or_none profile segments text (inl none) = inl none
slashed_or_none profile segments text (inr path) = inr (slashed_after profile segments text path)

-- and so is a path without a host before it
pub alone_or_none : (profile : Profile) (segments : List (List ℕ)) (text : List ℕ)
    → IsPathAlone profile segments text → MayBePathSlashed segments text
alone_or_none Standard segments text path = inr (slashed_absolute segments text path)
alone_or_none Wide segments text path = inr path
alone_or_none Parser segments text path = slashed_or_none Parser segments text path
