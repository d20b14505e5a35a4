-- The report on a line, and how it comes to the writer.
use Rattle.std.specs.Prelude.{◌≡◌, ℕ, ◌+◌, ◌⊎◌, List, [], ◌++◌, Option, take}
use Rattle.std.specs.Io.KnownBytes.{Appends}
use Rattle.uv_lines.specs.declared.fault.ReportFault.{ReportFault}
use Rattle.uv_lines.specs.declared.fault.ReportFault.TheVariants.{Reporter, Write}

-- a beginning of the text was written, and the rest waits to be
pub record Passes (text : List ℕ) (old new : Option (List ℕ)) (waits : List ℕ) : Type 0 where
  pub written : List ℕ
  pub wrote : Appends old new written
  pub rest : text ≡ written ++ waits

-- a prefix of the text was written
abbrev pub CutsOff : List ℕ → Option (List ℕ) → Option (List ℕ) → Type 0
CutsOff text old new = (n : ℕ) × Appends old new (take n text)

-- a line was reported on, and what was said of it came to what waited before
pub record Adds {S : Type 0} (reports : S → Option (List ℕ) → List ℕ → S → Type 0) (lines : S → ℕ)
    (before : S) (waited : List ℕ) (old : Option (List ℕ)) (line : Option (List ℕ)) (after : S) (waits : List ℕ)
    (new : Option (List ℕ)) : Type 0 where
  pub said : List ℕ
  pub reported : reports before line said after
  pub count : lines after ≡ lines before + 1
  pub passes : Passes (waited ++ said) old new waits

-- a reporter says nothing of a line, or the parts with which it begins what it says of it
abbrev pub AreFirstParts : {S : Type 0} → (S → Option (List ℕ) → List ℕ → Type 0) → S → Option (List ℕ) → List ℕ
    → Type 0
AreFirstParts begins before line parts = (parts ≡ []) ⊎ begins before line parts

-- what a fault leaves of what waited before and of such parts of a report: all of it is written or waits, or after a
-- failed write a prefix of it is written
abbrev pub LeavesParts : {F : Type 0} → (List ℕ → Type 0) → ReportFault F → List ℕ → Option (List ℕ) → List ℕ
    → Option (List ℕ) → Type 0
LeavesParts AreParts (Reporter fault) waited old waits new =
    (parts : List ℕ) × AreParts parts × Passes (waited ++ parts) old new waits
LeavesParts AreParts Write waited old waits new =
    (parts : List ℕ) × AreParts parts × CutsOff (waited ++ parts) old new

-- what a fault leaves of what waited before and of the first parts of the report on a line
abbrev pub LeavesLine : {S F : Type 0} → (S → Option (List ℕ) → List ℕ → Type 0) → ReportFault F → S → List ℕ
    → Option (List ℕ) → Option (List ℕ) → List ℕ → Option (List ℕ) → Type 0
LeavesLine begins fault before waited old line waits new =
    LeavesParts (AreFirstParts begins before line) fault waited old waits new
