-- Lemmas on the `:` after the scheme of a text, in its bytes and in its code points.
use Rattle.std.proofs.Common.{◌≡◌, ℕ, suc, ◌+◌, ◌<◌, Bool, true, false, ◌&&◌, ◌==◌, List, [], ◌∷◌, ◌++◌, length, take}
use Rattle.std.proofs.Common.{drop, refl, sym, ap, ◌∙◌, subst, arith, inl, inr, Some, None, lit<, append_assoc, cond}
use Rattle.std.specs.Prelude.{◌||◌, slice_index, slice_range}
use Rattle.std.specs.Char.{is_ascii_alphabetic}
use Rattle.std.specs.List.{list_all, prefix_len}
use Rattle.std.specs.Str.{chars, IsCharBoundary, IsUtf8}
use Rattle.std.proofs.lemmas.Bool.{and_from, and_parts, cases_Bool, false≢true}
use Rattle.std.proofs.lemmas.Bool.Decides.{nat_tests}
use Rattle.std.proofs.lemmas.List.{length-append, length-take, take-append-drop}
use Rattle.std.proofs.lemmas.Str.{IsAscii-append, IsCharBoundary-after_ascii}
use Rattle.std.proofs.Math.Seq.{take-append_seam}
use Rattle.uv_model.specs.Ascii.{colon, slash}
use Rattle.uv_model.specs.Scheme.{goes_on_to_colon, is_scheme, is_scheme_code_point, starts_with_scheme}
use Rattle.uv_model.proofs.Cuts.SchemeCutLemmas.{scheme_not_colon, scheme_without_colon, splits_at_scheme}
use Rattle.uv_model.proofs.Cuts.SchemeCutLemmas.{starts_with_written_scheme}
use Rattle.uv_model.proofs.Texts.AsciiLemmas.{IsAscii-from_test}
use Rattle.uv_text.specs.Splits.{starts_in}
use Rattle.uv_grammar.specs.PlainLinks.{IsSpecialPrefix}
use Rattle.uv_grammar.specs.TextSplits.{IsFirstMark, IsSchemeEnd, SplitsScheme}
use Rattle.uv_grammar.proofs.SliceLemmas.{byte_after, splits_at_mark}
use Rattle.uv_grammar.proofs.TestLemmas.{PassesByPrefix, is_scheme-chars, prefix_test, scheme_ascii}
use Rattle.uv_text.proofs.SplitsLemmas.{prefix_slice}

-- a letter may be in a scheme
letter_in_scheme : (c : ℕ) → is_ascii_alphabetic c ≡ true → is_scheme_code_point c ≡ true
letter_in_scheme c is = grind (arith, nat_tests)

-- the run of a scheme's code points is one longer than after the first
run_after : (c : ℕ) (rest : List ℕ) → is_scheme_code_point c ≡ true
    → prefix_len is_scheme_code_point (c ∷ rest) ≡ suc (prefix_len is_scheme_code_point rest)
run_after c rest held =
    ap (λ (b : Bool). cond b (1 + prefix_len is_scheme_code_point rest) 0) held
    ∙ omega arith

-- `:` is after the run
abbrev ends_run : List ℕ → Bool
ends_run text = starts_in (λ c. c == colon) (drop (prefix_len is_scheme_code_point text) text)

-- what goes on to `:` goes on to it after the run
goes_on_by_run : (text : List ℕ) → goes_on_to_colon text ≡ ends_run text
goes_on_by_run [] = refl
goes_on_by_run (c ∷ rest) = elim (cases_Bool (is_scheme_code_point c)) [
  | inl held ↦
      let after : ends_run rest ≡ ends_run (c ∷ rest)
      = ap (λ (n : ℕ). starts_in (λ d. d == colon) (drop n (c ∷ rest))) (sym (run_after c rest held)) in
      goes c rest (is_scheme_code_point c) held (scheme_not_colon c held) ∙ (goes_on_by_run rest ∙ after)
  | inr other ↦
      stays c rest (is_scheme_code_point c) other
      ∙ ap (λ (n : ℕ). starts_in (λ d. d == colon) (drop n (c ∷ rest)))
      (sym (ap (λ (b : Bool). cond b (1 + prefix_len is_scheme_code_point rest) 0) other))
]
  where
    goes : (c : ℕ) (rest : List ℕ) (b : Bool) → b ≡ true → (c == colon) ≡ false
        → ((c == colon) || (b && goes_on_to_colon rest)) ≡ goes_on_to_colon rest
    goes c rest true held mark = rw mark refl
    goes c rest false held mark = absurd (false≢true held)

    stays : (c : ℕ) (rest : List ℕ) (b : Bool) → b ≡ false
        → ((c == colon) || (b && goes_on_to_colon rest)) ≡ (c == colon)
    stays c rest true other = absurd (false≢true (sym other))
    stays c rest false other = elim (cases_Bool (c == colon)) [ inl same ↦ rw same refl | inr mark ↦ rw mark refl ]

-- a text begins with a scheme where a letter begins it and `:` is after the run
starts_by_run : (text : List ℕ) → starts_with_scheme text ≡ (starts_in is_ascii_alphabetic text && ends_run text)
starts_by_run [] = refl
starts_by_run (c ∷ rest) = elim (cases_Bool (is_ascii_alphabetic c)) [
  | inl letter ↦
      let after : ends_run rest ≡ ends_run (c ∷ rest)
      = ap (λ (n : ℕ). starts_in (λ d. d == colon) (drop n (c ∷ rest)))
      (sym (run_after c rest (letter_in_scheme c letter))) in
      ap (λ (b : Bool). is_ascii_alphabetic c && b) (goes_on_by_run rest ∙ after)
  | inr other ↦ both (is_ascii_alphabetic c) (goes_on_to_colon rest) (ends_run (c ∷ rest)) other
]
  where
    both : (b x y : Bool) → b ≡ false → (b && x) ≡ (b && y)
    both true x y other = absurd (false≢true (sym other))
    both false x y other = refl

-- a scheme's code points before `:` are the run
run_of_scheme : (scheme rest : List ℕ) → list_all is_scheme_code_point scheme ≡ true
    → prefix_len is_scheme_code_point (scheme ++ colon ∷ rest) ≡ length scheme
run_of_scheme [] rest each = refl
run_of_scheme (c ∷ scheme) rest each =
    let parts = and_parts (is_scheme_code_point c) (list_all is_scheme_code_point scheme) each in
    run_after c (scheme ++ colon ∷ rest) parts.0 ∙ ap suc (run_of_scheme scheme rest parts.1)

-- a scheme consists of such code points
scheme_each : (scheme : List ℕ) → is_scheme scheme ≡ true → list_all is_scheme_code_point scheme ≡ true
scheme_each [] is = refl
scheme_each (c ∷ rest) is =
    let parts = and_parts (is_ascii_alphabetic c) (list_all is_scheme_code_point rest) is in
    and_from _ _ (letter_in_scheme c parts.0) parts.1

-- a letter at the start and `:` after the run
pub scheme_found : (text : List ℕ) (end : ℕ) → end ≡ prefix_len is_scheme_code_point text
    → (starts_in is_ascii_alphabetic text && starts_in (λ c. c == colon) (drop end text)) ≡ true
    → IsSchemeEnd text (Some end)
scheme_found text end run found =
    let ends : (starts_in is_ascii_alphabetic text && ends_run text) ≡ true
    = subst (λ (n : ℕ). (starts_in is_ascii_alphabetic text && starts_in (λ c. c == colon) (drop n text)) ≡ true)
    run found in
    let split = splits_at_scheme text (starts_by_run text ∙ ends) in
    let same : end ≡ length split.scheme
    = run ∙ (ap (prefix_len is_scheme_code_point) split.joined
    ∙ run_of_scheme split.scheme split.rest (scheme_each split.scheme split.is)) in
    let inside : length split.scheme < length (split.scheme ++ colon ∷ split.rest)
    = simp (length-append) (omega arith) in
    let whole : IsSchemeEnd (split.scheme ++ colon ∷ split.rest) (Some (length split.scheme))
    = (
      inside,
      byte_after split.scheme split.rest colon,
      ap is_scheme (take-append_seam split.scheme (colon ∷ split.rest)) ∙ split.is,
    ) in
    subst (λ (s : List ℕ). IsSchemeEnd s (Some end)) (sym split.joined)
    (subst (λ (n : ℕ). IsSchemeEnd (split.scheme ++ colon ∷ split.rest) (Some n)) (sym same) whole)

-- without these there is no scheme
pub no_scheme_found : (text : List ℕ) (end : ℕ) → end ≡ prefix_len is_scheme_code_point text
    → (starts_in is_ascii_alphabetic text && starts_in (λ c. c == colon) (drop end text)) ≡ false
    → IsSchemeEnd text None
no_scheme_found text end run none =
    starts_by_run text
    ∙ subst (λ (n : ℕ). (starts_in is_ascii_alphabetic text && starts_in (λ c. c == colon) (drop n text)) ≡ false)
    run none

-- a special scheme with `://` after it is found at once
pub special_found : (bytes : List ℕ) (end : ℕ) → IsSpecialPrefix bytes end → IsSchemeEnd bytes (Some end)
special_found bytes end is =
    let prefix = sym (take-append-drop end bytes) ∙ ap (λ s. take end bytes ++ s) is.mark in
    let long : length (take end bytes) ≡ end = omega (arith, length-take end bytes, is.inside) in
    let inside : end < length bytes
    = omega (arith, ap length prefix, length-append (take end bytes) (colon ∷ slash ∷ slash ∷ is.after)) in
    let here : slice_index bytes end ≡ colon
    = subst (λ (n : ℕ). slice_index bytes n ≡ colon) long
    (subst (λ (s : List ℕ). slice_index s (length (take end bytes)) ≡ colon) (sym prefix)
    (byte_after (take end bytes) (slash ∷ slash ∷ is.after) colon)) in
    (inside, here, is.scheme)

-- ---- the code points

-- a scheme and `:` begin the code points where they begin the bytes
starts_with_scheme-chars : (bytes : List ℕ) → IsUtf8 bytes
    → starts_with_scheme (chars bytes) ≡ starts_with_scheme bytes
starts_with_scheme-chars bytes utf8 = prefix_test starts_with_scheme passes bytes utf8
  where
    passes : (text : List ℕ) → starts_with_scheme text ≡ true → PassesByPrefix starts_with_scheme text
    passes text passed =
        let split = splits_at_scheme text passed in
        record {
          prefix = split.scheme ++ colon ∷ [];
          rest = split.rest;
          whole = split.joined ∙ sym (append_assoc split.scheme (colon ∷ []) split.rest);
          ascii =
              IsAscii-append split.scheme (colon ∷ []) (scheme_ascii split.scheme split.is)
              (IsAscii-from_test (colon ∷ []) refl);
          any = λ other.
              ap starts_with_scheme (append_assoc split.scheme (colon ∷ []) other)
              ∙ starts_with_written_scheme split.scheme other split.is;
        }

-- after the `:` the text may be cut
pub scheme_boundary : (bytes : List ℕ) (end : ℕ) → IsUtf8 bytes → IsSchemeEnd bytes (Some end)
    → IsCharBoundary bytes (end + 1)
scheme_boundary bytes end utf8 found =
    IsCharBoundary-after_ascii bytes end utf8 found.0 (rw found.1 (lit< tt))

-- the two sides of the `:`
pub splits_at_scheme_end : (bytes prefix rest : List ℕ) (end : ℕ) → IsUtf8 bytes → IsUtf8 prefix
    → IsSchemeEnd bytes (Some end) → prefix ≡ slice_range bytes 0 end → rest ≡ drop (end + 1) bytes
    → SplitsScheme (chars bytes) (Some (chars prefix)) (chars rest)
splits_at_scheme_end bytes prefix rest end utf8 prefix_utf8 found is_prefix is_rest =
    let first : IsFirstMark colon bytes (Some end)
    = (found.0, found.1, scheme_without_colon (take end bytes) found.2) in
    let sides = splits_at_mark colon bytes prefix rest end (lit< tt) utf8 first is_prefix is_rest in
    record {
      joined = sides.0 ∙ sym (append_assoc (chars prefix) (colon ∷ []) (chars rest));
      scheme =
          is_scheme-chars prefix prefix_utf8
          ∙ (ap is_scheme (is_prefix ∙ prefix_slice bytes end) ∙ found.2);
    }

-- a text without a scheme
pub splits_without_scheme : (bytes : List ℕ) → IsUtf8 bytes → IsSchemeEnd bytes None
    → SplitsScheme (chars bytes) None (chars bytes)
splits_without_scheme bytes utf8 none =
    record { joined = refl; scheme = starts_with_scheme-chars bytes utf8 ∙ none }
