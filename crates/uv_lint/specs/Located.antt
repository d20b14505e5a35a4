-- A line that says where its link is: `FILE:LINE:COLUMN:LINK`, as `rg --vimgrep -o` writes it.
use Rattle.std.specs.Prelude.{ℕ, ◌+◌, ◌==◌, ◌^◌, ◌&&◌, List, [], ◌∷◌, Option, Some, None, drop, if◌then◌else◌}
use Rattle.std.specs.Prelude.{is_some, nat_lt, option_map, take}
use Rattle.std.specs.Char.{is_ascii_digit}
use Rattle.std.specs.List.{prefix_len}
use Rattle.std.specs.Option.{option_and_then}
use Rattle.std.specs.Str.{is_utf8}
use Rattle.std.specs.Str.Parse.{digits_value}

-- ---- a run of two numbers, `:LINE:COLUMN:`

-- a number from 1 to 2^32 - 1; zeros may be before its digits
abbrev pub in_range : ℕ → Option ℕ
in_range number = if nat_lt number (2 ^ 32) && nat_lt 0 number then Some number else None

-- one or more digits: the number, where it is in range, and what follows them
pub record Number : Type 0 where
  pub value : Option ℕ
  pub rest : List ℕ

-- the two numbers, where they are in range, and the link after them
pub record Run : Type 0 where
  pub line : Option ℕ
  pub column : Option ℕ
  pub link : List ℕ

-- what follows the colon that a text begins with
abbrev pub after_colon : List ℕ → Option (List ℕ)
after_colon [] = None
after_colon (b ∷ rest) = if b == 0x3A then Some rest else None

-- how many digits a text begins with
abbrev pub digit_count : List ℕ → ℕ
digit_count text = prefix_len is_ascii_digit text

-- the digits that a text begins with, one or more
abbrev pub digits_of : List ℕ → Option Number
digits_of text =
    if digit_count text == 0 then None
    else Some (record {
      value = in_range (digits_value 10 (take (digit_count text) text));
      rest = drop (digit_count text) text;
    })

-- the digits after the colon that a text begins with
abbrev pub number_of : List ℕ → Option Number
number_of text = option_and_then digits_of (after_colon text)

-- the run with this LINE, where what follows that goes on as `:COLUMN:`
abbrev pub run_after : Number → Option Run
run_after line = option_and_then (λ column. option_map
    (λ link. record { line = line.value; column = column.value; link = link }) (after_colon column.rest))
    (number_of line.rest)

-- the run that a text begins with
unfoldable pub run_of : List ℕ → Option Run
run_of text = option_and_then run_after (number_of text)

-- ---- the line

-- how many bytes are before the first run of a text; all of them, where it has none
abbrev pub file_length : List ℕ → ℕ
file_length [] = 0
file_length (b ∷ rest) = if is_some (run_of (b ∷ rest)) then 0 else file_length rest + 1

-- a link with the file, the line and the column where it is
pub record LocatedLink : Type 0 where
  pub file : List ℕ
  pub line : ℕ
  pub column : ℕ
  pub link : List ℕ

-- the name of a file, which isn't empty and is UTF-8
abbrev pub name_of : List ℕ → Option (List ℕ)
name_of [] = None
name_of (b ∷ rest) = if is_utf8 (b ∷ rest) then Some (b ∷ rest) else None

-- the link of a run after the name of a file
abbrev pub link_in : List ℕ → Run → Option LocatedLink
link_in file run = option_and_then (λ name. option_and_then (λ line. option_map
    (λ column. record { file = name; line = line; column = column; link = run.link }) run.column) run.line)
    (name_of file)

-- The link of a line, and where it is. FILE is all before the first run. If that isn't a name, or one of the run's
-- numbers is out of range, the line isn't of the form, whatever is after.
abbrev pub located : List ℕ → Option LocatedLink
located line = option_and_then (link_in (take (file_length line) line)) (run_of (drop (file_length line) line))
