-- Names of letters and digits, after the URL Standard, section 3.3, and UTS #46, section 4.
use Rattle.std.specs.Prelude.{◌≡◌, ℕ, zero, suc, ◌-◌, ◌<◌, ◌≤◌, nat_lt, Bool, true, false, ◌&&◌, ◌||◌}
use Rattle.std.specs.Prelude.{◌==◌, List, [], ◌∷◌, length, slice_index, take}
use Rattle.std.specs.Char.{is_ascii_digit, is_ascii_lowercase}
use Rattle.uv_model.specs.Ascii.{full_stop, hyphen}
use Rattle.uv_model.specs.Hosts.Domain.{without_root}

-- a lower-case letter or a digit
abbrev pub is_sign : ℕ → Bool
is_sign c = is_ascii_lowercase c || is_ascii_digit c

-- a hyphen or a full stop
abbrev pub is_joint : ℕ → Bool
is_joint c = (c == hyphen) || (c == full_stop)

-- a letter or a digit, or a hyphen or a full stop where one is before it
abbrev pub goes_on : Bool → ℕ → Bool
goes_on signed c = is_sign c || (signed && is_joint c)

-- a letter or a digit is before the code point of so many, as `signed` says before the first
abbrev pub signed_before : Bool → List ℕ → ℕ → Bool
signed_before signed text zero = signed
signed_before signed text (suc k) = is_sign (slice_index text k)

-- so many code points go on, each from the one before it
pub record IsJoined (signed : Bool) (text : List ℕ) (n : ℕ) : Type 0 where
  pub inside : n ≤ length text
  pub each : (k : ℕ) → k < n → goes_on (signed_before signed text k) (slice_index text k) ≡ true

-- letters and digits, with single hyphens and full stops between them, where `signed` says whether one is before
abbrev pub is_chain : Bool → List ℕ → Bool
is_chain signed [] = signed
is_chain signed (c ∷ rest) = goes_on signed c && is_chain (is_sign c) rest

-- such a name, with the root's full stop at its end or without one
abbrev pub is_rooted_chain : List ℕ → Bool
is_rooted_chain name = is_chain false (without_root name)

-- the prefix of so many bytes is such a name
abbrev pub IsChainPrefix : List ℕ → ℕ → Type 0
IsChainPrefix bytes n = (n ≤ length bytes) × (is_rooted_chain (take n bytes) ≡ true)

-- a lower-case letter between the hex digits and the `x` of a number
abbrev pub is_word_letter : ℕ → Bool
is_word_letter c = nat_lt 102 c && nat_lt c 120

-- the last code point is such a letter
abbrev pub HasWordEnd : List ℕ → Type 0
HasWordEnd name = (1 ≤ length name) × (is_word_letter (slice_index name (length name - 1)) ≡ true)
