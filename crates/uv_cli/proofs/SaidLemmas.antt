-- What is kept of a refused text.
use Rattle.std.proofs.Common.{ℕ, List, Option, Some, String, Global, chars, string_bytes}
use Rattle.uv_model.specs.declared.extent.Extent.{Extent}
use Rattle.uv_model.specs.declared.extent.Extent.TheVariants.{First, All}
use Rattle.uv_model.specs.declared.profile.Profile.{Profile}
use Rattle.uv_model.specs.Records.Url.{Url}
use Rattle.uv_grammar.specs.Verdict.{IsRefused}
use Rattle.uv_arguments.specs.declared.jobs.Job.{Job}
use Rattle.uv_arguments.specs.declared.jobs.Job.TheVariants as job
use Rattle.uv_cli.specs.declared.check.Found.{Found}
use Rattle.uv_cli.specs.declared.check.RefusedText.{RefusedText}
use Rattle.uv_cli.specs.Check.{IsFound}
use Rattle.uv_cli.specs.Jobs.{IsKeptOf}

-- the first violation is found, whether all were asked for or not
first_found : (extent : Extent) (profile : Profile) (base : Option Url) (text : List ℕ) (found : Found)
    → IsFound extent profile base text found → IsRefused profile base text found.refusal
first_found First profile base text found is = is
first_found All profile base text found is = is.0

-- the text of a check is refused as what is kept of it says
pub kept_refused : (text : String Global) (base : Option (String Global)) (extent : Extent) (profile : Profile)
    (kept : RefusedText) → IsKeptOf (job.Check text base extent profile) (Some kept)
    → IsRefused profile kept.base (chars (string_bytes text)) kept.found.refusal
kept_refused text base extent profile kept (lent, same, is) =
    first_found extent profile kept.base (chars (string_bytes text)) kept.found is.1
