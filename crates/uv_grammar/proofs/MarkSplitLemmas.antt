-- Lemmas on a text that is split at its first `?` or `#`.
use Rattle.std.proofs.Common.{◌≡◌, ℕ, ◌+◌, ◌<◌, ◌∙◌, List, [], ◌∷◌, ◌++◌, true, false, ◌==◌, take, drop}
use Rattle.std.proofs.Common.{refl, sym, ap, subst, arith, inl, inr, Option, None, Some, lit<, append_assoc, append-nil}
use Rattle.std.specs.Prelude.{slice_index, slice_range}
use Rattle.std.specs.Str.{chars, IsCharBoundary, IsUtf8}
use Rattle.std.proofs.lemmas.Bool.{eqb-true, false≢true, or_cases}
use Rattle.std.proofs.lemmas.List.{get_or-take, length-take}
use Rattle.std.proofs.lemmas.Str.{IsCharBoundary-after_ascii}
use Rattle.memchr.specs.Find.{IsFirstByte, is_byte2}
use Rattle.uv_model.specs.Ascii.{number_sign, question_mark}
use Rattle.uv_model.specs.Parts.{written_after}
use Rattle.uv_model.specs.Path.{is_without}
use Rattle.uv_model.proofs.Texts.MarkLemmas.{is_without-append, is_without-more}
use Rattle.uv_text.proofs.SplitsLemmas.{prefix_slice}
use Rattle.uv_grammar.specs.TextSplits.{IsFirstMark, SplitsMarks}
use Rattle.uv_grammar.proofs.SearchLemmas.{not_found, nowhere}
use Rattle.uv_grammar.proofs.SliceLemmas.{is_without-chars, splits_at_mark}

module _ (bytes : List ℕ) (end : ℕ)
    (found : IsFirstByte (is_byte2 question_mark number_sign) bytes (Some end)) where
  -- neither is before the first of both
  before : (mark : ℕ) → is_byte2 question_mark number_sign mark ≡ true → is_without mark (take end bytes) ≡ true
  before mark either =
      nowhere mark (take end bytes) (λ k below e.
      let inside : k < end = let size = length-take end bytes in omega (arith, below, size) in
      found.0.before k (omega arith) inside
      (ap (is_byte2 question_mark number_sign) (sym (get_or-take end bytes k 0 inside) ∙ e) ∙ either))

  -- it is the first `?`
  question_first : (slice_index bytes end == question_mark) ≡ true → IsFirstMark question_mark bytes (Some end)
  question_first is = (found.0.high, eqb-true (slice_index bytes end) question_mark is, before question_mark refl)

  -- or the first `#`
  number_first : (slice_index bytes end == question_mark) ≡ false → IsFirstMark number_sign bytes (Some end)
  number_first other =
      elim (or_cases (slice_index bytes end == question_mark) (slice_index bytes end == number_sign) found.1) [
        | inl same ↦ absurd (false≢true (sym other ∙ same))
        | inr is ↦ (found.0.high, eqb-true (slice_index bytes end) number_sign is, before number_sign refl)
      ]

  -- it is ASCII
  mark_small : slice_index bytes end < 128
  mark_small =
      elim (or_cases (slice_index bytes end == question_mark) (slice_index bytes end == number_sign) found.1) [
        | inl same ↦ rw (eqb-true (slice_index bytes end) question_mark same) (lit< tt)
        | inr same ↦ rw (eqb-true (slice_index bytes end) number_sign same) (lit< tt)
      ]

  -- so the text may be cut after it
  pub boundary_after : IsUtf8 bytes → IsCharBoundary bytes (end + 1)
  boundary_after utf8 = IsCharBoundary-after_ascii bytes end utf8 found.0.high mark_small

  -- a query, and after it what is split at `#`
  pub splits_at_question : (start rest : List ℕ) (query : List ℕ) (fragment : Option (List ℕ)) → IsUtf8 bytes
      → IsUtf8 start → (slice_index bytes end == question_mark) ≡ true → start ≡ slice_range bytes 0 end
      → rest ≡ drop (end + 1) bytes → chars rest ≡ query ++ written_after number_sign fragment
      → is_without number_sign query ≡ true
      → SplitsMarks (chars bytes) (chars start) (Some query) fragment
  splits_at_question start rest query fragment utf8 start_utf8 is is_start is_rest split first =
      let sides
      =
      splits_at_mark question_mark bytes start rest end (lit< tt) utf8 (question_first is) is_start is_rest in
      let none : is_without number_sign (chars start) ≡ true
      = is_without-chars number_sign start (lit< tt) start_utf8
      (ap (is_without number_sign) (is_start ∙ prefix_slice bytes end) ∙ before number_sign refl) in
      record {
        joined =
            sides.0 ∙ (ap (λ s. chars start ++ question_mark ∷ s) split
            ∙ sym (append_assoc (chars start) (question_mark ∷ query) (written_after number_sign fragment)));
        prefix =
            is_without-append number_sign (chars start) (question_mark ∷ query) none
            (is_without-more number_sign question_mark query refl first);
        no_question_mark = sides.1;
      }

  -- a fragment without a query
  pub splits_at_number : (start rest : List ℕ) → IsUtf8 bytes → IsUtf8 start
      → (slice_index bytes end == question_mark) ≡ false → start ≡ slice_range bytes 0 end
      → rest ≡ drop (end + 1) bytes → SplitsMarks (chars bytes) (chars start) None (Some (chars rest))
  splits_at_number start rest utf8 start_utf8 other is_start is_rest =
      let sides
      =
      splits_at_mark number_sign bytes start rest end (lit< tt) utf8 (number_first other) is_start is_rest in
      record {
        joined = sides.0 ∙ ap (λ s. s ++ number_sign ∷ chars rest) (sym (append-nil (chars start)));
        prefix = ap (is_without number_sign) (append-nil (chars start)) ∙ sides.1;
        no_question_mark =
            is_without-chars question_mark start (lit< tt) start_utf8
            (ap (is_without question_mark) (is_start ∙ prefix_slice bytes end) ∙ before question_mark refl);
      }

-- neither a query nor a fragment
pub splits_at_none : (bytes : List ℕ) → IsUtf8 bytes → IsFirstByte (is_byte2 question_mark number_sign) bytes None
    → SplitsMarks (chars bytes) (chars bytes) None None
splits_at_none bytes utf8 none =
    record {
      joined = sym (append-nil (chars bytes ++ []) ∙ append-nil (chars bytes));
      prefix =
          ap (is_without number_sign) (append-nil (chars bytes))
          ∙ is_without-chars number_sign bytes (lit< tt) utf8
          (not_found (is_byte2 question_mark number_sign) number_sign bytes refl none);
      no_question_mark =
          is_without-chars question_mark bytes (lit< tt) utf8
          (not_found (is_byte2 question_mark number_sign) question_mark bytes refl none);
    }

-- split at `#`, and what is before it at `?`
pub splits_in_turn : (text prefix start : List ℕ) (query fragment : Option (List ℕ))
    → text ≡ prefix ++ written_after number_sign fragment → is_without number_sign prefix ≡ true
    → prefix ≡ start ++ written_after question_mark query → is_without question_mark start ≡ true
    → SplitsMarks text start query fragment
splits_in_turn text prefix start query fragment joined first split second =
    record {
      joined = joined ∙ ap (λ s. s ++ written_after number_sign fragment) split;
      prefix = subst (λ (s : List ℕ). is_without number_sign s ≡ true) split first;
      no_question_mark = second;
    }
