-- How a run over the bytes of a vector file ends, and what it writes.
use Rattle.std.specs.Prelude.{◌≡◌, ◌≤◌, ◌<◌, ℕ, ◌+◌, Bool, true, false, IsUtf8, List, Option, Some, None, length}
use Rattle.std.specs.Prelude.{option_map, position, slice_get, string_bytes, take}
use Rattle.std.specs.Io.KnownBytes.{Appends}
use Rattle.serde_json.specs.Data.{Data, Items}
use Rattle.serde_json.specs.Find.{as_array}
use Rattle.serde_json.specs.Read.{read}
use Rattle.uv_vectors.specs.declared.ends.CasesEnd.{CasesEnd}
use Rattle.uv_vectors.specs.declared.ends.CasesEnd.TheVariants as ends
use Rattle.uv_vectors.specs.declared.run.Ending.{Ending}
use Rattle.uv_vectors.specs.declared.run.Ending.TheVariants as ending
use Rattle.uv_vectors.specs.Case.{is_malformed, list_of}
use Rattle.uv_vectors.specs.CaseFault.{case_fault}
use Rattle.uv_vectors.specs.JsonFault.{IsFaultOf}
use Rattle.uv_vectors.specs.declared.case_fault.CaseFault.{CaseFault}
use Rattle.uv_vectors.specs.Report.{IsReportOn}
use Rattle.uv_vectors.specs.Views.{fault_view}

-- ---- what the bytes are

-- how many bytes a vector file may have
abbrev pub most_bytes : ℕ
most_bytes = 16777216

-- the bytes are this JSON value
pub record IsJson (bytes : List ℕ) (value : Data) : Type 0 where
  pub utf8 : IsUtf8 bytes
  pub reads : read bytes ≡ Some value

-- the bytes, no more than are allowed, are a JSON value of which this holds
abbrev pub HasValue : List ℕ → (Data → Type 0) → Type 0
HasValue bytes P = (length bytes ≤ most_bytes) × ((value : Data) × IsJson bytes value × P value)

-- the value is an array, of whose values this holds
abbrev pub HasArray : Data → (List Data → Type 0) → Type 0
HasArray value P = (items : Items) × (as_array value ≡ Some items) × P (list_of items)

-- ---- how a run ends

-- the first value that isn't a case has this number, from 1, and isn't one for this reason
abbrev pub IsFirstMalformed : ℕ → CaseFault → List Data → Type 0
IsFirstMalformed number fault values =
    (at : ℕ) × (position is_malformed values ≡ Some at) × (number ≡ at + 1)
    × (option_map case_fault (slice_get values at) ≡ Some (fault_view fault))

-- all values are cases, this is the report on them, and a run that writes it ends so
pub record IsReport (values : List Data) (end : CasesEnd) (text : List ℕ) : Type 0 where
  pub cases : position is_malformed values ≡ None
  pub report : IsReportOn values end text

-- a run that checks no case of the value ends so
abbrev pub EndsValueUnchecked : Data → CasesEnd → Type 0
EndsValueUnchecked value ends.NotArray = as_array value ≡ None
EndsValueUnchecked value (ends.Malformed number fault) = HasArray value (IsFirstMalformed number fault)
EndsValueUnchecked value _ = ⊥

-- A run that checks no case of the bytes ends so: there are too many; otherwise they aren't JSON, for this reason;
-- otherwise no array; otherwise a value of it isn't a case.
abbrev pub EndsUnchecked : List ℕ → CasesEnd → Type 0
EndsUnchecked bytes ends.TooLarge = most_bytes < length bytes
EndsUnchecked bytes (ends.NotJson fault) =
    (length bytes ≤ most_bytes) × ((value : Data) → IsJson bytes value → ⊥) × IsFaultOf bytes fault
EndsUnchecked bytes end = HasValue bytes (λ value. EndsValueUnchecked value end)

-- a run over the value ends so
abbrev pub EndsValue : Data → Ending → Type 0
EndsValue value (ending.Unchecked end) = EndsValueUnchecked value end
EndsValue value (ending.Report end text) = HasArray value (λ values. IsReport values end (string_bytes text))

-- this is the report on the bytes, and it ends so
abbrev pub IsFileReport : List ℕ → CasesEnd → List ℕ → Type 0
IsFileReport bytes end text = HasValue bytes (λ value. HasArray value (λ values. IsReport values end text))

-- a run over the bytes ends so
abbrev pub EndsBytes : List ℕ → Ending → Type 0
EndsBytes bytes (ending.Unchecked end) = EndsUnchecked bytes end
EndsBytes bytes (ending.Report end text) = IsFileReport bytes end (string_bytes text)

-- ---- what is written

-- cases were checked
abbrev pub is_checked : CasesEnd → Bool
is_checked ends.AllPass = true
is_checked ends.SomeFail = true
is_checked _ = false

-- the report on the bytes was written, and ends so
abbrev pub WritesReport : List ℕ → CasesEnd → Option (List ℕ) → Option (List ℕ) → Type 0
WritesReport bytes end old new = (text : List ℕ) × IsFileReport bytes end text × Appends old new text

-- the run ends so before a case is checked; or the report was written, and ends so
abbrev pub WritesVectors : List ℕ → CasesEnd → Option (List ℕ) → Option (List ℕ) → Type 0
WritesVectors bytes ends.AllPass old new = WritesReport bytes ends.AllPass old new
WritesVectors bytes ends.SomeFail old new = WritesReport bytes ends.SomeFail old new
WritesVectors bytes end old new = EndsUnchecked bytes end

-- a prefix of the report was written
abbrev pub WritesVectorsPrefix : List ℕ → Option (List ℕ) → Option (List ℕ) → Type 0
WritesVectorsPrefix bytes old new =
    (end : CasesEnd) × (text : List ℕ) × IsFileReport bytes end text
    × ((count : ℕ) × Appends old new (take count text))
