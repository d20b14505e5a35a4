-- A run whose report is in a frame: what the frame begins with, the reports on the lines, what the reporter says after
-- the last of them if no fault came, and what the frame ends with, after each fault but one of a write.
use Rattle.std.specs.Prelude.{◌≡◌, ◌≢◌, ℕ, ◌+◌, ◌⊎◌, Bool, true, false, List, [], ◌++◌, Option, Result, Ok, Err, take}
use Rattle.std.specs.Io.KnownBytes.{Appends}
use Rattle.uv_lines.specs.declared.fault.LineFault.{LineFault}
use Rattle.uv_lines.specs.declared.fault.LineFault.TheVariants.{Own, Stop}
use Rattle.uv_lines.specs.declared.fault.StopFault.TheVariants.{Read, Write}
use Rattle.uv_lines.specs.declared.limits.LineLimits.{LineLimits}
use Rattle.uv_lines.specs.Fault.{is_write}
use Rattle.uv_lines.specs.Lines.{lines_of}
use Rattle.uv_lines.specs.Reported.{Cut}
use Rattle.uv_lines.specs.Run.{Leaves}

-- the text is a beginning, the report on the lines, and what is after it
pub record Framed {S : Type 0} (IsReport : List (List ℕ) → List ℕ → S → Type 0) (begin : List ℕ)
    (after : S → List ℕ) (lines : List (List ℕ)) (text : List ℕ) (now : S) : Type 0 where
  pub said : List ℕ
  pub reported : IsReport lines said now
  pub whole : text ≡ begin ++ (said ++ after now)

-- what a fault leaves: the report on some lines or a part of it, or a prefix of the whole one on all lines, where a
-- write failed after them
abbrev pub LeavesPart : {S F : Type 0} → (List (List ℕ) → List ℕ → S → Type 0)
    → (List (List ℕ) → List ℕ → S → Type 0) → (List (List ℕ) → List ℕ → S → Type 0) → LineLimits → LineFault F
    → Option (List ℕ) → List ℕ → Type 0 → S → Option (List ℕ) → Type 0
LeavesPart IsReport IsPart IsWhole limits fault old read at_end now new =
    Leaves IsReport IsPart limits fault old read at_end now new
    ⊎ ((fault ≡ Stop Write) × Cut IsWhole (lines_of read) old new now)

-- How many reads have failed after a fault, of so many before: one more for a read. A failed write comes after a failed
-- read only when the frame has an end.
abbrev pub FailsReads : {F : Type 0} → List ℕ → LineFault F → ℕ → ℕ → Type 0
FailsReads end (Stop Read) old new = new ≡ old + 1
FailsReads end (Stop Write) old new = (new ≡ old) ⊎ ((end ≢ []) × (new ≡ old + 1))
FailsReads end _ old new = new ≡ old

-- ---- what comes after the lines

-- a piece was written, and this answer is reported
pub record Writes {F : Type 0} (piece : List ℕ) (answer result : Result (Unit {0}) (LineFault F))
    (old new : Option (List ℕ)) (before after : ℕ) : Type 0 where
  pub reported : result ≡ answer
  pub wrote : Appends old new piece
  pub quiet : after ≡ before

-- a prefix of it was, and the failed write is reported
pub record Cuts {F : Type 0} (piece : List ℕ) (result : Result (Unit {0}) (LineFault F))
    (old new : Option (List ℕ)) (before after : ℕ) : Type 0 where
  pub reported : result ≡ Err (Stop Write)
  pub some : piece ≢ []
  pub prefix : ℕ
  pub wrote : Appends old new (take prefix piece)
  pub failed : after ≡ before + 1

-- a piece follows an answer, where so many writes have failed before and after
abbrev pub Follows : {F : Type 0} → List ℕ → Result (Unit {0}) (LineFault F) → Result (Unit {0}) (LineFault F)
    → Option (List ℕ) → Option (List ℕ) → ℕ → ℕ → Type 0
Follows piece reported result old new before after =
    Writes piece reported result old new before after ⊎ Cuts piece result old new before after

-- the end follows a fault but one of a write
abbrev pub FollowsFault : {F : Type 0} → Bool → List ℕ → LineFault F → Result (Unit {0}) (LineFault F)
    → Option (List ℕ) → Option (List ℕ) → ℕ → ℕ → Type 0
FollowsFault true end fault result old new before after = (result ≡ Err fault) × (new ≡ old) × (after ≡ before)
FollowsFault false end fault result old new before after = Follows end (Err fault) result old new before after

-- What comes after the lines: if no fault came what the reporter says after the last of them, unless it can't say that,
-- and then the end.
abbrev pub Ends : {F : Type 0} → List ℕ → List ℕ → Result (Unit {0}) (LineFault F) → Result (Unit {0}) (LineFault F)
    → Option (List ℕ) → Option (List ℕ) → ℕ → ℕ → Type 0
Ends {F} last end (Ok u) result old new before after =
    Follows (last ++ end) (Ok u) result old new before after
    ⊎ ((fault : F) × Follows end (Err (Own fault)) result old new before after)
Ends last end (Err fault) result old new before after =
    FollowsFault (is_write fault) end fault result old new before after
