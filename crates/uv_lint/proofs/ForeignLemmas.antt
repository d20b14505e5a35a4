-- What is shown of bytes that aren't UTF-8, before the first byte that isn't.
use Rattle.std.proofs.Common.{◌≡◌, ◌∙◌, ℕ, zero, suc, List, [], ◌++◌, ap, chars, length, subst, take}
use Rattle.std.proofs.Common.{arith, inl, inr}
use Rattle.std.specs.Str.{IsUtf8, is_utf8}
use Rattle.std.specs.Str.Lossy.{after_first_chunk, replacement_bytes, utf8_lossy, utf8_valid_len, valid_len_up_to}
use Rattle.std.proofs.Math.Seq.{take-append_seam, take-length}
use Rattle.std.proofs.lemmas.Bool.{cases_Bool}
use Rattle.std.proofs.lemmas.Str.{IsUtf8-from_ascii, IsUtf8-from_is_utf8, chars-append, utf8_lossy_step}
use Rattle.uv_lint.specs.LineViolations.{foreign_place}

-- ---- the longest beginning that is UTF-8

up_to-utf8 : (bytes : List ℕ) (n : ℕ) → IsUtf8 (take (valid_len_up_to bytes n) bytes)
up_to-utf8 bytes zero = IsUtf8-from_ascii [] (λ place. omega arith)
up_to-utf8 bytes (suc n) = elim (cases_Bool (is_utf8 (take (suc n) bytes))) [
  | inl utf8 ↦ rw utf8 (IsUtf8-from_is_utf8 (take (suc n) bytes) utf8)
  | inr foreign ↦ rw foreign (up_to-utf8 bytes n)
]

valid-utf8 : (bytes : List ℕ) → IsUtf8 (take (utf8_valid_len bytes) bytes)
unfolding utf8_valid_len
valid-utf8 bytes = up_to-utf8 bytes (length bytes)

-- it isn't all of them, if they aren't UTF-8
valid-short : (bytes : List ℕ) → ¬ (IsUtf8 bytes) → ¬ (utf8_valid_len bytes ≡ length bytes)
valid-short bytes foreign all =
    foreign (subst IsUtf8 (ap (λ n. take n bytes) all ∙ take-length bytes) (valid-utf8 bytes))

-- ---- what is shown

-- before the place of the first byte that isn't UTF-8 that beginning is shown
pub shown_before : (bytes : List ℕ) → ¬ (IsUtf8 bytes)
    → take (foreign_place bytes) (chars (utf8_lossy bytes)) ≡ chars (take (utf8_valid_len bytes) bytes)
shown_before bytes foreign =
    let valid = take (utf8_valid_len bytes) bytes in
    let rest = replacement_bytes ++ utf8_lossy (after_first_chunk bytes) in
    ap (λ text. take (length (chars valid)) (chars text)) (utf8_lossy_step bytes (valid-short bytes foreign))
    ∙ ap (take (length (chars valid))) (chars-append valid rest (valid-utf8 bytes))
    ∙ take-append_seam (chars valid) (chars rest)
