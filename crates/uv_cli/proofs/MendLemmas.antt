-- The answer about a text that is to be mended against the URL of the base.
use Rattle.std.proofs.Common.{◌≡◌, ℕ, List, Option}
use Rattle.std.specs.Borrow.{Bor}
use Rattle.uv_model.specs.declared.profile.Profile.{Profile}
use Rattle.uv_model.specs.declared.rule.Refusal.{Refusal}
use Rattle.uv_model.specs.Records.Url.{Url}
use Rattle.uv_mend.specs.declared.answer.Mending.{Mending}
use Rattle.uv_mend.specs.declared.answer.Mending.TheVariants as mending
use Rattle.uv_resolve.specs.Base.{IsBase}
use Rattle.uv_cli.specs.declared.check.CheckEnd.{CheckEnd}
use Rattle.uv_cli.specs.declared.check.CheckEnd.TheVariants.{Valid, Refused, BaseRefused}
use Rattle.uv_cli.specs.Mend.{HasWrittenMending, WritesMending, end_of_mending}

-- no answer ends as a refused base does
ends_otherwise : (answer : Mending) (refusal : Refusal) → BaseRefused refusal ≡ end_of_mending answer → ⊥
ends_otherwise mending.Valid refusal is = cc
ends_otherwise (mending.Mended text kind) refusal is = cc
ends_otherwise (mending.Refused other) refusal is = cc

-- the whole that was written against the URL of the base
pub mending_against : (profile : Profile) (base : Option (Bor (List ℕ))) (url : Option Url)
    (text : List ℕ) (old new : Option (List ℕ)) (end : CheckEnd)
    → IsBase profile base url → WritesMending profile url text end old new
    → HasWrittenMending profile base text end old new
mending_against profile base url text old new Valid is written = (url, is, written)
mending_against profile base url text old new Refused is written = (url, is, written)
mending_against profile base url text old new (BaseRefused refusal) is written =
    absurd (ends_otherwise written.says.answer refusal written.says.ends)
