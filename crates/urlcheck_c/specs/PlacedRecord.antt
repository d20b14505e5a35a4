-- The record that a valid text denotes: its text in the caller's buffer, and where its parts are there.
use Rattle.std.specs.Prelude.{◌≡◌, ℕ, ◌⊎◌, List, Option, option_map}
use Rattle.std.specs.Str.{chars}
use Rattle.uv_model.specs.declared.profile.Profile.{Profile}
use Rattle.uv_model.specs.Records.Serialize.{serial}
use Rattle.uv_model.specs.Records.Url.{Url, is_opaque}
use Rattle.uv_resolve.specs.Layout.{kind_of}
use Rattle.uv_resolve.specs.Resolve.{Denotes}
use Rattle.urlcheck_c.specs.declared.finding.Finding.{Finding}
use Rattle.urlcheck_c.specs.declared.finding.CallOutcome.TheVariants.{Refused, Valid}
use Rattle.urlcheck_c.specs.declared.records.PlacedRecord.{PlacedRecord}
use Rattle.urlcheck_c.specs.Base.{flag_number}
use Rattle.urlcheck_c.specs.Buffer.{IsWritten}
use Rattle.urlcheck_c.specs.Finding.{plain_finding}
use Rattle.urlcheck_c.specs.RecordPlaces.{AreRecordSpans, host_number}
use Rattle.urlcheck_c.specs.Request.{IsNoRequest, IsRefusedText, IsRequest, LacksMemory}
use Rattle.urlcheck_c.specs.Span.{no_spans}

-- no record, since this was found
abbrev pub no_record : Finding → PlacedRecord
no_record found = record { found = found; length = 0; parts = no_spans; host = 0; opaque_path = 0 }

-- The record's text is at the start of the buffer where it fits, and its length is given, and where its parts are,
-- of which kind its host is and whether its path is opaque.
pub record IsPlaced (url : Url) (old new : List ℕ) (answer : PlacedRecord) : Type 0 where
  pub found : answer.found ≡ plain_finding Valid
  pub written : IsWritten (serial url) old new answer.length
  pub parts : AreRecordSpans url answer.parts
  pub host : answer.host ≡ host_number (option_map kind_of url.host)
  pub opaque_path : answer.opaque_path ≡ flag_number (is_opaque url.path)

-- nothing was written, since this was found
abbrev pub IsUnplaced : List ℕ → List ℕ → PlacedRecord → Type 0
IsUnplaced old new answer = (answer ≡ no_record answer.found) × (new ≡ old)

-- the text denotes a URL whose record is given; or nothing was written, and it is refused, or memory ran out
abbrev pub IsPlacedChecked : Profile → Option Url → List ℕ → List ℕ → List ℕ → PlacedRecord → Type 0
IsPlacedChecked profile base bytes old new answer =
    ((url : Url) × Denotes profile base (chars bytes) url × IsPlaced url old new answer)
    ⊎ (IsUnplaced old new answer
    × (IsRefusedText Refused profile base bytes answer.found ⊎ LacksMemory profile base bytes answer.found))

-- the text isn't checked, and nothing was written; or it is checked against the base, if one is given
abbrev pub IsPlacedAnswer : ℕ → Option (List ℕ) → List ℕ → List ℕ → List ℕ → PlacedRecord → Type 0
IsPlacedAnswer number base bytes old new answer =
    (IsUnplaced old new answer × IsNoRequest number base bytes answer.found)
    ⊎ ((profile : Profile) × (url : Option Url) × IsRequest number base bytes profile url
    × IsPlacedChecked profile url bytes old new answer)
