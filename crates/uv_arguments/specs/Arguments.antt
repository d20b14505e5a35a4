-- What the words of the command line are, by the arguments that the system gives.
use Rattle.std.specs.Prelude.{◌≡◌, ◌==◌, ◌<◌, ℕ, Bool, true, false, List, [], ◌∷◌, ◌++◌, Option, Some, None, Result}
use Rattle.std.specs.Prelude.{Ok, Err, codes, decimal, filter, is_some, length, map, option_map, slice_index_or}
use Rattle.std.specs.Prelude.{string_bytes, take, if◌then◌else◌, IsUtf8}
use Rattle.std.specs.List.{before_first, position}
use Rattle.std.specs.declared.env.FillError.{FillError}
use Rattle.std.specs.declared.env.FillError.TheVariants.{NotPresent, TooLong}
use Rattle.uv_arguments.specs.declared.jobs.Job.{Job}
use Rattle.uv_arguments.specs.declared.jobs.Job.TheVariants as job

-- ---- an argument

-- an argument is at the start of the room, or there is none, where it may be so; or it is longer than the room
abbrev pub Fills : (Option (List ℕ) → Type 0) → Result ℕ FillError → List ℕ → Type 0
Fills gives (Ok count) room = gives (Some (take count room))
Fills gives (Err NotPresent) room = gives None
Fills gives (Err TooLong) room = Unit {0}

-- ---- the words

-- a text begins with a hyphen
abbrev pub has_hyphen : List ℕ → Bool
has_hyphen [] = false
has_hyphen (first ∷ rest) = first == 0x2D

-- what stands for the argument with a number, if it isn't UTF-8: that it isn't, and a NUL, which no argument has; after
-- a hyphen where the argument begins with one, since it may be an option then
unfoldable pub mark_text : ℕ → Bool → List ℕ
mark_text number true = codes "-argument " ++ (decimal number ++ (codes " isn't UTF-8" ++ (0 ∷ [])))
mark_text number false = codes "argument " ++ (decimal number ++ (codes " isn't UTF-8" ++ (0 ∷ [])))

-- the word of the argument with a number: the argument itself, or what stands for it
pub record IsWord (number : ℕ) (argument word : List ℕ) : Type 0 where
  pub same : IsUtf8 argument → word ≡ argument
  pub marked : ¬ (IsUtf8 argument) → word ≡ mark_text number (has_hyphen argument)

-- the word at a number, or none, where the argument there may be so
abbrev pub IsWordAt : (Option (List ℕ) → Type 0) → ℕ → Option (List ℕ) → Type 0
IsWordAt gives number None = gives None
IsWordAt gives number (Some word) = (argument : List ℕ) × gives (Some argument) × IsWord number argument word

-- the words are all the arguments' words, in order: each is the word of the argument with its number, and after the
-- last there is none
pub record AreWords (gives : ℕ → Option (List ℕ) → Type 0) (words : List (List ℕ)) : Type 0 where
  pub each : (number : ℕ) → number < length words
      → IsWordAt (gives number) number (Some (slice_index_or words number []))
  pub all : gives (length words) None

-- ---- arguments that aren't UTF-8

-- a text without the hyphen that it begins with
abbrev pub without_hyphen : List ℕ → List ℕ
without_hyphen [] = []
without_hyphen (first ∷ rest) = if first == 0x2D then rest else first ∷ rest

-- the message about an argument, by its word: what is before the NUL, where it has one, without a hyphen at its start
abbrev pub said_of : List ℕ → Option (List ℕ)
said_of word =
    option_map (λ at. without_hyphen (before_first (λ b. b == 0) word)) (position (λ b. b == 0) word)

-- how many of the words stand for an argument that isn't UTF-8
abbrev pub count_marked : List (List ℕ) → ℕ
count_marked words = length (filter (λ word. is_some (said_of word)) words)

-- the message about the first of them
abbrev pub first_said : List (List ℕ) → Option (List ℕ)
first_said [] = None
first_said (word ∷ rest) = if is_some (said_of word) then said_of word else first_said rest

-- the files of a lint, or those that are mended in their place
abbrev pub files_of : Job → List (List ℕ)
files_of (job.Lint asked) = map string_bytes asked.files.items
files_of (job.InPlace files asked) = map string_bytes files.items
files_of other = []

-- the message about these words, where not each argument that isn't UTF-8 is one of those files
abbrev pub refused : List (List ℕ) → List (List ℕ) → Option (List ℕ)
refused words files = if count_marked files == count_marked words then None else first_said words
