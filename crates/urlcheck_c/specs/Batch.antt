-- Many texts in one call: what was found of each, in columns.
use Rattle.std.specs.Prelude.{◌≡◌, ℕ, ◌⊎◌, ◌+◌, ◌≤◌, ◌<◌, ◌==◌, if◌then◌else◌, List, [], ◌∷◌, ◌++◌, length, drop, map}
use Rattle.std.specs.Prelude.{set}
use Rattle.std.specs.Prelude.{Option, Some, None, zero, suc}
use Rattle.uv_model.specs.declared.profile.Profile.{Profile}
use Rattle.urlcheck_c.specs.declared.bases.Base.{Base}
use Rattle.urlcheck_c.specs.declared.batches.Batch.{Batch}
use Rattle.urlcheck_c.specs.declared.finding.Finding.{Finding}
use Rattle.urlcheck_c.specs.declared.finding.CallOutcome.{CallOutcome}
use Rattle.urlcheck_c.specs.declared.finding.CallOutcome.TheVariants.{Done, NoProfile, NoOffsets}
use Rattle.urlcheck_c.specs.Answer.{IsFound}
use Rattle.urlcheck_c.specs.Finding.{outcome_number, profile_of}
use Rattle.urlcheck_c.specs.Offsets.{AreRows, IsFirstWrong, row_count, row_text}

-- ---- columns

-- the caller's three columns
pub record Columns : Type 0 where
  pub verdicts : List ℕ
  pub rules : List ℕ
  pub places : List ℕ

-- the columns of these elements
abbrev pub columns : List ℕ → List ℕ → List ℕ → Columns
columns verdicts rules places = record { verdicts = verdicts; rules = rules; places = places }

-- a value is put into a column at its row, where the column has room for so many rows
abbrev pub IsPut : {X : Type 0} → ℕ → ℕ → X → List X → List X → Type 0
IsPut rows row value old new = (rows ≤ length old → new ≡ set old row value) × (length old < rows → new ≡ old)

-- the values are at the start of a column that has room for so many rows; one that has not is as it was
abbrev pub IsColumn : {X : Type 0} → ℕ → List X → List X → List X → Type 0
IsColumn rows values old new =
    (rows ≤ length old → new ≡ values ++ drop (length values) old) × (length old < rows → new ≡ old)

-- ---- what is found of texts

-- 1 for a valid text, otherwise 0
abbrev pub one_if_valid : Finding → ℕ
one_if_valid finding = if finding.verdict == 0 then 1 else 0

-- these were found of the first so many texts, one by one: of each what the check of it finds; so many are valid
abbrev pub AreFound : ℕ → Option Base → List ℕ → List ℕ → ℕ → List Finding → ℕ → Type 0
AreFound number base texts offsets zero found valid = (found ≡ []) × (valid ≡ 0)
AreFound number base texts offsets (suc row) found valid =
    (before : List Finding) × (count : ℕ) × (last : Finding) × AreFound number base texts offsets row before count
    × IsFound number base (row_text texts offsets row) last × (found ≡ before ++ (last ∷ []))
    × (valid ≡ count + one_if_valid last)

-- of the first so many texts the columns have what was found, and so many are valid
pub record AreChecked (number : ℕ) (base : Option Base) (texts offsets : List ℕ) (rows : ℕ) (old new : Columns)
    (valid : ℕ) : Type 0 where
  pub found : List Finding
  pub checked : AreFound number base texts offsets rows found valid
  pub count : length found ≡ rows
  pub few : valid ≤ rows
  pub verdicts : IsColumn (row_count offsets) (map (λ f. f.verdict) found) old.verdicts new.verdicts
  pub rules : IsColumn (row_count offsets) (map (λ f. f.rule) found) old.rules new.rules
  pub places : IsColumn (row_count offsets) (map (λ f. f.place) found) old.places new.places

-- nothing was checked
abbrev pub unchecked_batch : CallOutcome → ℕ → Batch
unchecked_batch outcome row = record { outcome = outcome_number outcome; row = row; valid = 0; length = 0 }

-- the answer where all was checked
abbrev pub checked_batch : ℕ → Batch
checked_batch valid = record { outcome = outcome_number Done; row = 0; valid = valid; length = 0 }

-- The offsets of a text are wrong, and nothing was written; or each text was checked, and the columns have what was
-- found.
abbrev pub IsBatch : ℕ → Option Base → List ℕ → List ℕ → Columns → Columns → Batch → Type 0
IsBatch number base texts offsets old new answer =
    ((row : ℕ) × IsFirstWrong (length texts) offsets (Some row) × (answer ≡ unchecked_batch NoOffsets row)
    × (new ≡ old))
    ⊎ (AreRows (length texts) offsets (row_count offsets) × (answer ≡ checked_batch answer.valid)
    × AreChecked number base texts offsets (row_count offsets) old new answer.valid)

-- no profile has the number, and nothing was written; otherwise the texts are checked by it
abbrev pub IsBatchAnswer : ℕ → Option Base → List ℕ → List ℕ → Columns → Columns → Batch → Type 0
IsBatchAnswer number base texts offsets old new answer =
    ((profile_of number ≡ None) × (answer ≡ unchecked_batch NoProfile 0) × (new ≡ old))
    ⊎ ((profile : Profile) × (profile_of number ≡ Some profile) × IsBatch number base texts offsets old new answer)
