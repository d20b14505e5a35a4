-- What a check says against the URL of the base, and the runs of the parser on the base's text and the text.
use Rattle.std.proofs.Common.{ℕ, List, Option, Some, None, chars, subst, sym, take}
use Rattle.std.specs.Borrow.{Bor}
use Rattle.std.specs.Io.KnownBytes.{Appends}
use Rattle.uv_model.specs.declared.extent.Extent.{Extent}
use Rattle.uv_model.specs.declared.extent.Extent.TheVariants.{First, All}
use Rattle.uv_model.specs.declared.profile.Profile.{Profile}
use Rattle.uv_model.specs.Records.Denote.{denote}
use Rattle.uv_model.specs.Records.Url.{Url}
use Rattle.uv_resolve.specs.Base.{IsBase}
use Rattle.uv_resolve.proofs.RunLemmas.{runs_to_its_record}
use Rattle.uv_cli.specs.declared.check.CheckEnd.{CheckEnd}
use Rattle.uv_cli.specs.declared.check.CheckEnd.TheVariants.{Valid, Refused, BaseRefused}
use Rattle.uv_cli.specs.declared.check.Found.{Found}
use Rattle.uv_cli.specs.declared.check.RefusedText.{RefusedText}
use Rattle.uv_cli.specs.Check.{HasWritten, IsFound, IsKeptAgainst, IsKeptAt, RunsAgainst, Says, SaysFound}
use Rattle.uv_cli.specs.Check.{WritesPrefix, WritesWhole}

-- the whole that was written against the URL of the base
pub written_against : (extent : Extent) (profile : Profile) (base : Option (Bor (List ℕ))) (url : Option Url)
    (text : List ℕ) (old new : Option (List ℕ)) (end : CheckEnd)
    → IsBase profile base url → WritesWhole extent profile url text end old new
    → HasWritten extent profile base text end old new
written_against extent profile base url text old new Valid is written = (url, is, written)
written_against extent profile base url text old new Refused is written = (url, is, written)
written_against extent profile base url text old new (BaseRefused refusal) is written = absurd written.says

-- the parser runs to the records of the base's text and of the text
pub runs_against : (profile : Profile) (base : Option (Bor (List ℕ))) (text : List ℕ) → RunsAgainst profile base text
runs_against profile None text = runs_to_its_record profile None text tt
runs_against profile (Some base) text = (
  runs_to_its_record profile None (chars base.now) tt,
  λ parts valid.
      runs_to_its_record profile (Some (denote None parts)) text
      (runs_to_its_record profile None (chars base.now) tt parts valid).well_formed,
)

-- what is kept of a text that is refused against the URL of the base
pub kept_against : (extent : Extent) (profile : Profile) (base : Option (Bor (List ℕ))) (url : Option Url)
    (text : List ℕ) (kept : Option RefusedText)
    → IsBase profile base url → IsKeptAgainst extent profile url text kept → IsKeptAt extent profile base text kept
kept_against extent profile base url text None is kept = tt
kept_against extent profile base url text (Some refused) is (same, found) = (
  subst (λ (u : Option Url). IsBase profile base u) (sym same) is,
  subst (λ (u : Option Url). IsFound extent profile u text refused.found) (sym same) found,
)

-- the lines on a text, valid or refused
says_found : (extent : Extent) (profile : Profile) (base : Option Url) (text : List ℕ) (found : Option Found)
    (whole : List ℕ)
    → SaysFound extent profile base text found whole → (end : CheckEnd) × Says extent profile base text end whole
says_found extent profile base text None whole says = (Valid, says)
says_found First profile base text (Some found) whole (is, same) = (Refused, (found.refusal, is, same))
says_found All profile base text (Some found) whole (is, same) =
    (Refused, ((found.refusal, is.0), (found.faults.items, is.1, same)))

-- a prefix of them was written
pub prefix_found : (extent : Extent) (profile : Profile) (base : Option Url) (text : List ℕ) (found : Option Found)
    (whole : List ℕ) (old new : Option (List ℕ))
    → SaysFound extent profile base text found whole → (count : ℕ) → Appends old new (take count whole)
    → WritesPrefix extent profile base text old new
prefix_found extent profile base text found whole old new says count wrote =
    let (end, said) = says_found extent profile base text found whole says in
    record { end = end; whole = whole; says = said; count = count; wrote = wrote }
