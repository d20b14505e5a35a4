-- A text that is asked for, in the caller's buffer.
use Rattle.std.specs.Prelude.{◌≡◌, ℕ, ◌⊎◌, List}
use Rattle.urlcheck_c.specs.declared.finding.Finding.{Finding}
use Rattle.urlcheck_c.specs.declared.finding.CallOutcome.{CallOutcome}
use Rattle.urlcheck_c.specs.declared.finding.CallOutcome.TheVariants.{Done, Memory}
use Rattle.urlcheck_c.specs.declared.written.Written.{Written}
use Rattle.urlcheck_c.specs.Buffer.{IsWritten}
use Rattle.urlcheck_c.specs.Finding.{plain_finding}

-- there is no text, since this was found
abbrev pub unwritten : Finding → Written
unwritten found = record { found = found; length = 0 }

-- nothing was written, since this was found
abbrev pub IsUnwritten : Finding → List ℕ → List ℕ → Written → Type 0
IsUnwritten found old new answer = (answer ≡ unwritten found) × (new ≡ old)

-- nothing was written, for this reason
abbrev pub IsRefusedFor : CallOutcome → List ℕ → List ℕ → Written → Type 0
IsRefusedFor outcome old new answer = IsUnwritten (plain_finding outcome) old new answer

-- the text is at the start of the buffer where it fits, and its length is given
abbrev pub IsTextGiven : List ℕ → List ℕ → List ℕ → Written → Type 0
IsTextGiven text old new answer = (answer.found ≡ plain_finding Done) × IsWritten text old new answer.length

-- so it is, or memory ran out and nothing was written
abbrev pub IsGiven : List ℕ → List ℕ → List ℕ → Written → Type 0
IsGiven text old new answer = IsTextGiven text old new answer ⊎ IsRefusedFor Memory old new answer
