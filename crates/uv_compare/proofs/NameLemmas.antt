-- A plain name is a domain, which the second parser writes as it is.
use Rattle.std.proofs.Common.{◌≡◌, ◌∙◌, ℕ, suc, ◌+◌, ◌<◌, Bool, true, false, not, ◌&&◌, ◌||◌, ◌==◌, List}
use Rattle.std.proofs.Common.{[], ◌∷◌, length}
use Rattle.std.proofs.Common.{get_or, Option, Some, None, All, ap, arith, inl, inr, refl, sym, take}
use Rattle.std.specs.Char.{is_ascii_digit, is_digit, is_ascii_lowercase, to_ascii_lowercase}
use Rattle.std.specs.List.{list_all, prefix_len}
use Rattle.std.proofs.lemmas.Bool.{agree_below_at, cases_Bool, true≢false}
use Rattle.std.proofs.lemmas.Bool.Decides.{nat_tests}
use Rattle.std.proofs.lemmas.List.Elements.{All-cons, All-nil, All-weaker}
use Rattle.percent_encoding.specs.Percent.{IsKept}
use Rattle.url.specs.declared.sets.TheConstants.{FORBIDDEN_DOMAIN}
use Rattle.url.specs.Ascii.{digit_zero, dot}
use Rattle.url.specs.Input.{is_empty, rsplit_once}
use Rattle.url.specs.Ipv4.{ends_in_a_number, is_number, last_label_of, parse_number}
use Rattle.url.proofs.InputLemmas.{Passes, is_empty_nonempty, lowercase_other, map_fixed}
use Rattle.url.proofs.SetLemmas.{kept_from_passes}
use Rattle.uv_text.specs.Rows.{is_in_rows}
use Rattle.uv_text.proofs.RowsLemmas.{of_rows}
use Rattle.uv_compare.specs.declared.plain_links.TheConstants.{NAME_ROWS}
use Rattle.uv_compare.specs.PlainLinks.{IsName, is_name_byte}

-- the last label is not an empty one before a last dot
letter_label : (label : List ℕ) → is_ascii_lowercase (get_or label 0 0) ≡ true → (front : Option (List ℕ))
    → last_label_of front label ≡ label
letter_label [] letter front = absurd (true≢false (sym letter))
letter_label (c ∷ more) letter (Some front) = rw (is_empty_nonempty (c ∷ more) (omega arith)) refl
letter_label (c ∷ more) letter None = refl

-- a last label is read as a number
abbrev is_number_label : List ℕ → Bool
is_number_label label = (not (is_empty label) && list_all is_ascii_digit label) || is_number (parse_number label)

-- one that begins with a letter isn't
letter_no_number : (label : List ℕ) → is_ascii_lowercase (get_or label 0 0) ≡ true → is_number_label label ≡ false
unfolding parse_number
letter_no_number [] letter = absurd (true≢false (sym letter))
letter_no_number (c ∷ more) letter =
    let some = is_empty_nonempty (c ∷ more) (omega arith) in
    let no_zero : (c == digit_zero) ≡ false = grind (arith, nat_tests) in
    let no_decimal : is_digit c 10 ≡ false = grind (arith, nat_tests) in
    let no_digit : is_ascii_digit c ≡ false = grind (arith, nat_tests) in
    rw (some, no_digit, no_zero, no_decimal) refl

-- a name whose last label begins with a letter doesn't end in a number
named : (name : List ℕ) → is_ascii_lowercase (get_or (rsplit_once dot name).1 0 0) ≡ true
    → ends_in_a_number name ≡ false
unfolding ends_in_a_number
named name letter =
    let split = rsplit_once dot name in
    ap is_number_label (letter_label split.1 letter split.0) ∙ letter_no_number split.1 letter

-- and isn't empty
nonempty : (name : List ℕ) → is_ascii_lowercase (get_or (rsplit_once dot name).1 0 0) ≡ true → 0 < length name
unfolding rsplit_once
nonempty [] letter = absurd (true≢false (sym letter))
nonempty (b ∷ name) letter = omega arith

-- a byte of a name is allowed in a domain, and isn't made lower case
name_byte_kept : (b : ℕ) → Passes is_name_byte b → IsKept FORBIDDEN_DOMAIN b
name_byte_kept b passes = kept_from_passes is_name_byte FORBIDDEN_DOMAIN refl b (grind (arith, nat_tests)) passes

name_byte_lower : (b : ℕ) → Passes is_name_byte b → to_ascii_lowercase b ≡ b
name_byte_lower b passes = lowercase_other b (grind (arith, nat_tests))

-- such bytes are a name
pub is_name : (name : List ℕ) → All (Passes is_name_byte) name
    → is_ascii_lowercase (get_or (rsplit_once dot name).1 0 0) ≡ true → IsName name
is_name name each letter = (
  record {
    allowed = All-weaker (Passes is_name_byte) (IsKept FORBIDDEN_DOMAIN) name_byte_kept name each;
    lower = map_fixed to_ascii_lowercase name
        (All-weaker (Passes is_name_byte) (λ b. to_ascii_lowercase b ≡ b) name_byte_lower name each);
    named = named name letter;
  },
  nonempty name letter,
)

-- ---- the bytes of a name, by rows

-- the first bytes that pass a test pass another one that each of them passes
prefix_all : (p q : ℕ → Bool) → ((b : ℕ) → p b ≡ true → q b ≡ true) → (xs : List ℕ)
    → All (Passes q) (take (prefix_len p xs) xs)
prefix_all p q each [] = All-nil (Passes q)
prefix_all p q each (x ∷ xs) = elim (cases_Bool (p x)) [
  | inl passes ↦
      let more : 1 + prefix_len p xs ≡ suc (prefix_len p xs) = omega arith in
      rw (passes, more) (All-cons (Passes q) x _ (each x passes) (prefix_all p q each xs))
  | inr fails ↦ rw fails (All-nil (Passes q))
]

-- a byte in the rows is one of a name
in_name_rows : (b : ℕ) → is_in_rows NAME_ROWS b ≡ true → is_name_byte b ≡ true
in_name_rows =
    of_rows is_name_byte NAME_ROWS
    (λ b small. agree_below_at (is_in_rows NAME_ROWS) is_name_byte 256 b refl small)

-- so the longest run of bytes in the rows has only bytes of a name
pub run_named : (bytes : List ℕ) → All (Passes is_name_byte) (take (prefix_len (is_in_rows NAME_ROWS) bytes) bytes)
run_named bytes = prefix_all (is_in_rows NAME_ROWS) is_name_byte in_name_rows bytes
