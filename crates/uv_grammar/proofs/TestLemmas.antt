-- Tests of a text that look only at ASCII give the same on its bytes and on its code points.
use Rattle.std.proofs.Common.{◌≡◌, ℕ, List, [], ◌∷◌, ◌++◌, Bool, true, false, refl, sym, ap, ◌∙◌, subst, arith}
use Rattle.std.specs.Prelude.{◌&&◌}
use Rattle.std.specs.Str.{chars, IsUtf8, IsAscii}
use Rattle.std.proofs.lemmas.Str.{chars-append, chars-IsAscii, encodes-append, encodes-IsAscii, encodes-chars}
use Rattle.std.proofs.lemmas.Str.{IsUtf8-from_ascii}
use Rattle.std.proofs.lemmas.Bool.{and_parts, false≢true}
use Rattle.std.proofs.lemmas.Bool.Decides.{nat_tests}
use Rattle.std.specs.List.{list_all}
use Rattle.std.specs.Char.{is_ascii, is_ascii_alphabetic, is_ascii_digit}
use Rattle.std.proofs.Math.Utf8.{encodes}
use Rattle.uv_model.proofs.Texts.AsciiLemmas.{chars-from_IsAscii, IsAscii-from_test}
use Rattle.uv_model.specs.Violations.Violation.{starts_with_number_sign}
use Rattle.uv_model.specs.Cut.{starts_with_two_slashes}
use Rattle.uv_model.specs.Hosts.OpaqueHost.{starts_with_bracket}
use Rattle.uv_model.specs.Path.{starts_with_slash, starts_with_drive_segment}
use Rattle.uv_model.specs.Scheme.{is_scheme, is_scheme_code_point}
use Rattle.uv_model.proofs.SchemeLemmas.{scheme_code_point-ascii, scheme_first-ascii}
use Rattle.uv_model.proofs.Cuts.HostCutLemmas.{passes-weaker}

-- two tests with one answer where either is true
pub same_tests : (a b : Bool) → (a ≡ true → b ≡ true) → (b ≡ true → a ≡ true) → a ≡ b
same_tests true b forth back = sym (forth refl)
same_tests false true forth back = back refl
same_tests false false forth back = refl

-- a test that only ASCII texts pass
pub ascii_test : (test : List ℕ → Bool) → ((text : List ℕ) → test text ≡ true → IsAscii text)
    → (bytes : List ℕ) → IsUtf8 bytes → test (chars bytes) ≡ test bytes
ascii_test test ascii bytes utf8 =
    same_tests (test (chars bytes)) (test bytes)
    (λ passed. subst (λ (s : List ℕ). test s ≡ true)
    (chars-from_IsAscii bytes utf8 (ascii (chars bytes) passed)) passed)
    (λ passed. subst (λ (s : List ℕ). test s ≡ true) (sym (chars-IsAscii bytes (ascii bytes passed))) passed)

-- the text passes the test by an ASCII prefix
pub record PassesByPrefix (test : List ℕ → Bool) (text : List ℕ) : Type 0 where
  pub prefix : List ℕ
  pub rest : List ℕ
  pub whole : text ≡ prefix ++ rest
  pub ascii : IsAscii prefix
  pub any : (other : List ℕ) → test (prefix ++ other) ≡ true

-- a test that is passed by only an ASCII prefix
pub prefix_test : (test : List ℕ → Bool) → ((text : List ℕ) → test text ≡ true → PassesByPrefix test text)
    → (bytes : List ℕ) → IsUtf8 bytes → test (chars bytes) ≡ test bytes
prefix_test test passes bytes utf8 =
    same_tests (test (chars bytes)) (test bytes)
    (λ passed. let p = passes (chars bytes) passed in
    let same : bytes ≡ p.prefix ++ encodes p.rest
    = sym (encodes-chars bytes utf8) ∙ (ap encodes p.whole ∙ (encodes-append p.prefix p.rest
    ∙ ap (λ s. s ++ encodes p.rest) (encodes-IsAscii p.prefix p.ascii))) in
    subst (λ (s : List ℕ). test s ≡ true) (sym same) (p.any (encodes p.rest)))
    (λ passed. let p = passes bytes passed in
    let same : chars bytes ≡ p.prefix ++ chars p.rest
    = ap chars p.whole ∙ (chars-append p.prefix p.rest (IsUtf8-from_ascii p.prefix p.ascii)
    ∙ ap (λ s. s ++ chars p.rest) (chars-IsAscii p.prefix p.ascii)) in
    subst (λ (s : List ℕ). test s ≡ true) (sym same) (p.any (chars p.rest)))

-- ---- the tests in use

-- both of two tests are passed
pub and_true : {a b : Bool} → a ≡ true → b ≡ true → (a && b) ≡ true
and_true first second = rw (first, second) refl

-- a test of the first code point that only ASCII passes
first_test : (test : List ℕ → Bool) → test [] ≡ false
    → ((c : ℕ) (rest other : List ℕ) → test (c ∷ rest) ≡ true → (is_ascii c ≡ true) × (test (c ∷ other) ≡ true))
    → (bytes : List ℕ) → IsUtf8 bytes → test (chars bytes) ≡ test bytes
first_test test none one bytes utf8 = prefix_test test passes bytes utf8
  where
    passes : (text : List ℕ) → test text ≡ true → PassesByPrefix test text
    passes [] passed = absurd (false≢true (sym none ∙ passed))
    passes (c ∷ rest) passed = record {
      prefix = c ∷ [];
      rest = rest;
      whole = refl;
      ascii = IsAscii-from_test (c ∷ []) (and_true (one c rest rest passed).0 refl);
      any = λ other. (one c rest other passed).1;
    }

-- `/` is the first code point where it is the first byte
pub starts_with_slash-chars : (bytes : List ℕ) → IsUtf8 bytes → starts_with_slash (chars bytes)
    ≡ starts_with_slash bytes
starts_with_slash-chars = first_test starts_with_slash refl (λ c rest other passed. (grind (arith, nat_tests), passed))

-- `#` is the first code point where it is the first byte
pub starts_with_number_sign-chars : (bytes : List ℕ) → IsUtf8 bytes → starts_with_number_sign (chars bytes)
    ≡ starts_with_number_sign bytes
starts_with_number_sign-chars =
    first_test starts_with_number_sign refl (λ c rest other passed. (grind (arith, nat_tests), passed))

-- `[` is the first code point where it is the first byte
pub starts_with_bracket-chars : (bytes : List ℕ) → IsUtf8 bytes → starts_with_bracket (chars bytes)
    ≡ starts_with_bracket bytes
starts_with_bracket-chars = first_test starts_with_bracket refl
    (λ c rest other passed. (grind (arith, nat_tests), passed))

-- `//` begins the code points where it begins the bytes
pub starts_with_two_slashes-chars : (bytes : List ℕ) → IsUtf8 bytes
    → starts_with_two_slashes (chars bytes) ≡ starts_with_two_slashes bytes
starts_with_two_slashes-chars bytes utf8 = prefix_test starts_with_two_slashes passes bytes utf8
  where
    passes : (text : List ℕ) → starts_with_two_slashes text ≡ true → PassesByPrefix starts_with_two_slashes text
    passes [] passed = absurd cc
    passes (c ∷ []) passed = absurd cc
    passes (c ∷ d ∷ rest) passed = record {
      prefix = c ∷ d ∷ [];
      rest = rest;
      whole = refl;
      ascii = IsAscii-from_test (c ∷ d ∷ []) (grind (arith, nat_tests));
      any = λ other. passed;
    }

-- a drive letter between slashes begins the code points where it begins the bytes
pub starts_with_drive_segment-chars : (bytes : List ℕ) → IsUtf8 bytes
    → starts_with_drive_segment (chars bytes) ≡ starts_with_drive_segment bytes
starts_with_drive_segment-chars bytes utf8 = prefix_test starts_with_drive_segment passes bytes utf8
  where
    passes : (text : List ℕ) → starts_with_drive_segment text ≡ true → PassesByPrefix starts_with_drive_segment text
    passes [] passed = absurd cc
    passes (a ∷ []) passed = absurd cc
    passes (a ∷ b ∷ []) passed = absurd cc
    passes (a ∷ b ∷ c ∷ []) passed = absurd cc
    passes (a ∷ b ∷ c ∷ d ∷ rest) passed = record {
      prefix = a ∷ b ∷ c ∷ d ∷ [];
      rest = rest;
      whole = refl;
      ascii = IsAscii-from_test (a ∷ b ∷ c ∷ d ∷ []) (grind (arith, nat_tests));
      any = λ other. passed;
    }

-- a URL-scheme string is ASCII
pub scheme_ascii : (text : List ℕ) → is_scheme text ≡ true → IsAscii text
scheme_ascii [] passed = absurd cc
scheme_ascii (c ∷ rest) passed =
    let parts = and_parts (is_ascii_alphabetic c) (list_all is_scheme_code_point rest) passed in
    IsAscii-from_test (c ∷ rest)
    (and_true (scheme_first-ascii c parts.0)
    (passes-weaker is_scheme_code_point is_ascii scheme_code_point-ascii rest parts.1))

-- the code points are a URL-scheme string where the bytes are
pub is_scheme-chars : (bytes : List ℕ) → IsUtf8 bytes → is_scheme (chars bytes) ≡ is_scheme bytes
is_scheme-chars bytes utf8 = ascii_test is_scheme scheme_ascii bytes utf8

-- the code points are digits where the bytes are
pub digits-chars : (bytes : List ℕ) → IsUtf8 bytes
    → list_all is_ascii_digit (chars bytes) ≡ list_all is_ascii_digit bytes
digits-chars bytes utf8 = ascii_test (λ text. list_all is_ascii_digit text) ascii bytes utf8
  where
    one : (c : ℕ) → is_ascii_digit c ≡ true → is_ascii c ≡ true
    one c passed = grind (arith, nat_tests)

    ascii : (text : List ℕ) → list_all is_ascii_digit text ≡ true → IsAscii text
    ascii text passed = IsAscii-from_test text (passes-weaker is_ascii_digit is_ascii one text passed)
