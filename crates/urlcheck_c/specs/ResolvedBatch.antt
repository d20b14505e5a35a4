-- Many texts in one call: of each what urlcheck_resolve answers for it and the base, in columns, and the texts of their
-- records in a buffer.
use Rattle.std.specs.Prelude.{◌≡◌, ℕ, ◌⊎◌, ◌+◌, ◌≤◌, List, [], ◌∷◌, ◌++◌, length, map, Option, Some, None, zero, suc}
use Rattle.std.specs.Prelude.{Result, Ok, Err, String, string_bytes}
use Rattle.std.specs.declared.alloc.Global.{Global}
use Rattle.std.specs.List.{concat}
use Rattle.uv_model.specs.declared.profile.Profile.{Profile}
use Rattle.uv_model.specs.Records.Url.{Url}
use Rattle.uv_resolve.specs.Resolve.{DenotesText}
use Rattle.urlcheck_c.specs.declared.batches.Batch.{Batch}
use Rattle.urlcheck_c.specs.declared.finding.Finding.{Finding}
use Rattle.urlcheck_c.specs.declared.finding.CallOutcome.TheVariants.{Done, Memory, NoOffsets, NoProfile, Refused}
use Rattle.urlcheck_c.specs.declared.finding.CallOutcome.TheVariants.{Valid}
use Rattle.urlcheck_c.specs.declared.records.PlacedRecord.{PlacedRecord}
use Rattle.urlcheck_c.specs.declared.records.resolved_batches.ReadBase.{ReadBase}
use Rattle.urlcheck_c.specs.Batch.{Columns, IsColumn, one_if_valid, unchecked_batch}
use Rattle.urlcheck_c.specs.Buffer.{IsWritten}
use Rattle.urlcheck_c.specs.Finding.{outcome_number, plain_finding, profile_of}
use Rattle.urlcheck_c.specs.Offsets.{AreRows, IsFirstWrong, row_count, row_text}
use Rattle.urlcheck_c.specs.PlacedRecord.{IsPlacedAnswer}
use Rattle.urlcheck_c.specs.Request.{IsBaseGivenRead, IsNoRequest, IsRefusedText, IsRequest, LacksMemory}

-- ---- what is resolved of a text

-- the profile has the number, and that was read of the base that is given
abbrev pub IsReadFor : ℕ → Option (List ℕ) → ReadBase → Type 0
IsReadFor number base read = (profile_of number ≡ Some read.profile) × IsBaseGivenRead read.profile base read.base

-- it was read of some base
abbrev pub IsRead : ReadBase → Type 0
IsRead read = (number : ℕ) × (base : Option (List ℕ)) × IsReadFor number base read

-- the text of the URL that the bytes denote against the base; or they are refused, or memory ran out
abbrev pub IsRequestResolved : Profile → Option Url → List ℕ → Result (String Global) Finding → Type 0
IsRequestResolved profile base bytes (Ok text) = DenotesText profile base bytes (string_bytes text)
IsRequestResolved profile base bytes (Err finding) =
    IsRefusedText Refused profile base bytes finding ⊎ LacksMemory profile base bytes finding

-- the bytes aren't checked; or they are, and that is said of them
abbrev pub IsTextResolved : ℕ → Option (List ℕ) → List ℕ → Result (String Global) Finding → Type 0
IsTextResolved number base bytes result =
    ((finding : Finding) × (result ≡ Err finding) × IsNoRequest number base bytes finding)
    ⊎ ((profile : Profile) × (url : Option Url) × IsRequest number base bytes profile url
    × IsRequestResolved profile url bytes result)

-- the text is appended; or memory ran out, and nothing was appended
abbrev pub IsAppended : List ℕ → List ℕ → List ℕ → Finding → Type 0
IsAppended text old new finding =
    ((finding ≡ plain_finding Valid) × (new ≡ old ++ text)) ⊎ ((finding ≡ plain_finding Memory) × (new ≡ old))

-- ---- what is resolved of texts

-- This is what urlcheck_resolve answers on the bytes and the base where its buffer is just as long as the text that it
-- writes, and this is that text.
pub record IsResolvedRow (number : ℕ) (base : Option (List ℕ)) (bytes : List ℕ) (found : Finding) (text : List ℕ)
    : Type 0 where
  pub room : List ℕ
  pub record_is : PlacedRecord
  pub answer : IsPlacedAnswer number base bytes room text record_is
  pub found_is : record_is.found ≡ found
  pub length_is : record_is.length ≡ length text

-- these are the answers on the first so many texts, one by one; so many are valid
abbrev pub AreResolved
    : ℕ → Option (List ℕ) → List ℕ → List ℕ → ℕ → List Finding → List (List ℕ) → ℕ → Type 0
AreResolved number base texts offsets zero found written valid = (found ≡ []) × (written ≡ []) × (valid ≡ 0)
AreResolved number base texts offsets (suc row) found written valid =
    (before : List Finding) × (earlier : List (List ℕ)) × (count : ℕ) × (last : Finding) × (text : List ℕ)
    × AreResolved number base texts offsets row before earlier count
    × IsResolvedRow number base (row_text texts offsets row) last text × (found ≡ before ++ (last ∷ []))
    × (written ≡ earlier ++ (text ∷ [])) × (valid ≡ count + one_if_valid last)

-- where texts that are one after the other from here on begin, and where the last ends
abbrev pub text_offsets : ℕ → List (List ℕ) → List ℕ
text_offsets from [] = from ∷ []
text_offsets from (text ∷ rest) = from ∷ text_offsets (from + length text) rest

-- ---- columns

-- the caller's columns, and the column of the places at which the texts of the records begin
pub record ResolvedColumns : Type 0 where
  pub found : Columns
  pub ends : List ℕ

-- the columns of these elements
abbrev pub resolved_columns : List ℕ → List ℕ → List ℕ → List ℕ → ResolvedColumns
resolved_columns verdicts rules places ends = record {
  found = record { verdicts = verdicts; rules = rules; places = places };
  ends = ends;
}

-- The columns have the answers to the first so many texts, and the places at which the texts of their records begin.
-- These texts are the bytes one after the other, and so many texts are valid.
pub record AreRowsResolved (number : ℕ) (base : Option (List ℕ)) (texts offsets : List ℕ) (rows : ℕ)
    (old new : ResolvedColumns) (bytes : List ℕ) (valid : ℕ) : Type 0 where
  pub found : List Finding
  pub written : List (List ℕ)
  pub resolved : AreResolved number base texts offsets rows found written valid
  pub count : length found ≡ rows
  pub count_written : length written ≡ rows
  pub few : valid ≤ rows
  pub bytes_are : bytes ≡ concat written
  pub verdicts : IsColumn (row_count offsets) (map (λ f. f.verdict) found) old.found.verdicts new.found.verdicts
  pub rules : IsColumn (row_count offsets) (map (λ f. f.rule) found) old.found.rules new.found.rules
  pub places : IsColumn (row_count offsets) (map (λ f. f.place) found) old.found.places new.found.places
  pub ends : IsColumn (row_count offsets + 1) (text_offsets 0 written) old.ends new.ends

-- ---- the answer

-- the answer where all was resolved
abbrev pub resolved_batch : ℕ → ℕ → Batch
resolved_batch valid length = record { outcome = outcome_number Done; row = 0; valid = valid; length = length }

-- Each text is resolved, and the columns have the answers. The texts of the records are at the start of the buffer
-- where they fit, and their length is given.
pub record IsBatchResolved (number : ℕ) (base : Option (List ℕ)) (texts offsets : List ℕ) (old new : ResolvedColumns)
    (out_old out_new : List ℕ) (answer : Batch) : Type 0 where
  pub bytes : List ℕ
  pub rows : AreRows (length texts) offsets (row_count offsets)
  pub resolved : AreRowsResolved number base texts offsets (row_count offsets) old new bytes answer.valid
  pub written : IsWritten bytes out_old out_new answer.length
  pub answer_is : answer ≡ resolved_batch answer.valid answer.length

-- nothing was resolved, and nothing was written
abbrev pub IsUnresolved : Batch → ResolvedColumns → ResolvedColumns → List ℕ → List ℕ → Batch → Type 0
IsUnresolved why old new out_old out_new answer = (answer ≡ why) × (new ≡ old) × (out_new ≡ out_old)

-- No profile has the number; or the offsets of a text are wrong, of which this is the first; otherwise all are
-- resolved.
abbrev pub IsResolvedBatch
    : ℕ → Option (List ℕ) → List ℕ → List ℕ → ResolvedColumns → ResolvedColumns → List ℕ → List ℕ → Batch → Type 0
IsResolvedBatch number base texts offsets old new out_old out_new answer =
    ((profile_of number ≡ None) × IsUnresolved (unchecked_batch NoProfile 0) old new out_old out_new answer)
    ⊎ ((profile : Profile) × (profile_of number ≡ Some profile)
    × (((row : ℕ) × IsFirstWrong (length texts) offsets (Some row)
    × IsUnresolved (unchecked_batch NoOffsets row) old new out_old out_new answer)
    ⊎ IsBatchResolved number base texts offsets old new out_old out_new answer))
