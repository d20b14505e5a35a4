-- Texts as they are cut before a rest, and written code point by code point.
use Rattle.std.proofs.Common.{◌≡◌, ℕ, ◌+◌, ◌-◌, ◌≤◌, List, [], ◌∷◌, ◌++◌, length, take, drop, sym, ap, ◌∙◌}
use Rattle.std.proofs.Common.{append_assoc, append-nil, arith, chars, encode_utf8, encode_utf8_all, String}
use Rattle.std.proofs.Common.{string_bytes, subst}
use Rattle.std.specs.Str.{IsCharBoundary, IsUtf8}
use Rattle.std.specs.declared.alloc.Global.{Global}
use Rattle.std.proofs.Math.Seq.{drop-append_seam, take-append_seam}
use Rattle.std.proofs.lemmas.List.{length-append}
use Rattle.std.proofs.lemmas.Str.{chars-append, chars-nil, chars_from_encodes, chars_past_char, encodes-append}
use Rattle.std.proofs.lemmas.Str.{IsCharBoundary-from_take, IsUtf8-drop, IsUtf8-string_bytes}
use Rattle.uv_text.proofs.SplitsLemmas.{split_bytes}

-- what is before the rest, as a slice
pub record IsCut (bytes rest before : List ℕ) : Type 0 where
  pub inside : length rest ≤ length bytes
  pub boundary : IsCharBoundary bytes (length bytes - length rest)
  pub prefix : chars (take (length bytes - length rest) bytes) ≡ before

pub cut_before : (bytes rest before : List ℕ) → IsUtf8 bytes → IsUtf8 rest → chars bytes ≡ before ++ chars rest
    → IsCut bytes rest before
cut_before bytes rest before u v is =
    let n = length before in
    let left : chars rest ≡ drop n (chars bytes) = sym (ap (drop n) is ∙ drop-append_seam before (chars rest)) in
    let split = split_bytes bytes rest n u v left in
    record {
      inside = split.inside;
      boundary = split.boundary;
      prefix = split.prefix ∙ ap (take n) is ∙ take-append_seam before (chars rest);
    }

-- a text that ends with a code point
pub last_point : (bytes before : List ℕ) (c : ℕ) → IsUtf8 bytes → IsUtf8 before → bytes ≡ before ++ encode_utf8 c
    → chars bytes ≡ chars before ++ c ∷ []
last_point bytes before c u v is =
    let n = length before in
    let long : length bytes ≡ n + length (encode_utf8 c) = ap length is ∙ length-append before (encode_utf8 c) in
    let first : take n bytes ≡ before = ap (take n) is ∙ take-append_seam before (encode_utf8 c) in
    let left : drop n bytes ≡ encode_utf8 c = ap (drop n) is ∙ drop-append_seam before (encode_utf8 c) in
    let seam : IsCharBoundary bytes n =
    IsCharBoundary-from_take bytes n u (omega (arith, long)) (subst IsUtf8 (sym first) v) in
    let last : IsUtf8 (encode_utf8 c) = subst IsUtf8 left (IsUtf8-drop bytes n u seam) in
    let one : chars (encode_utf8 c) ≡ c ∷ [] =
    chars_past_char (encode_utf8 c) [] c last (sym (append-nil (encode_utf8 c))) ∙ ap (λ t. c ∷ t) chars-nil in
    ap chars is ∙ chars-append before (encode_utf8 c) v ∙ ap (λ t. chars before ++ t) one

-- code points that are written after others
pub written_on : (bytes first second : List ℕ)
    → (bytes ++ encode_utf8_all first) ++ encode_utf8_all second ≡ bytes ++ encode_utf8_all (first ++ second)
written_on bytes first second =
    append_assoc bytes (encode_utf8_all first) (encode_utf8_all second)
    ∙ ap (λ t. bytes ++ t) (sym (encodes-append first second))

-- a part of what is to be written was
pub goes_on : (old new first second whole all : List ℕ) → new ≡ old ++ encode_utf8_all first → whole ≡ first ++ second
    → old ++ encode_utf8_all whole ≡ all → new ++ encode_utf8_all second ≡ all
goes_on old new first second whole all is parts before =
    ap (λ t. t ++ encode_utf8_all second) is ∙ written_on old first second
    ∙ ap (λ t. old ++ encode_utf8_all t) (sym parts) ∙ before

-- texts that are written one after another
pub begun : (old new list : List ℕ) → old ≡ [] → new ≡ old ++ encode_utf8_all list → new ≡ encode_utf8_all list
begun old new list none is = is ∙ ap (λ t. t ++ encode_utf8_all list) none

pub followed : (old new first second : List ℕ) → old ≡ encode_utf8_all first → new ≡ old ++ encode_utf8_all second
    → new ≡ encode_utf8_all (first ++ second)
followed old new first second before is =
    is ∙ ap (λ t. t ++ encode_utf8_all second) before ∙ sym (encodes-append first second)

-- all of it was
pub ends_written : (new rest all : List ℕ) → rest ≡ [] → new ++ encode_utf8_all rest ≡ all → new ≡ all
ends_written new rest all none is =
    sym (append-nil new) ∙ ap (λ t. new ++ encode_utf8_all t) (sym none) ∙ is

-- the code points of a string that was written
pub written : (text : String Global) (list : List ℕ) → string_bytes text ≡ encode_utf8_all list
    → chars (string_bytes text) ≡ list
written text list is = sym (chars_from_encodes list (string_bytes text) (IsUtf8-string_bytes text) (sym is))
