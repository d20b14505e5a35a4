-- Segments that a walk appends to a path's text.
use Rattle.std.proofs.Common.{◌≡◌, ◌≢◌, ℕ, Bool, true, false, ◌==◌, List, [], ◌∷◌, refl, sym, ap, ◌∙◌, subst}
use Rattle.std.proofs.Common.{inl, inr, arith, drop, length, take, take_all, true≢false, ◌-◌}
use Rattle.std.specs.List.{join_with_byte, list_all}
use Rattle.std.proofs.lemmas.Bool.{and_from, and_parts, cases_Bool, false_from_ne_true}
use Rattle.std.proofs.lemmas.Bool.Decides.{nat_tests}
use Rattle.std.proofs.lemmas.List.Splits.{join_with_byte-slice_split}
use Rattle.std.specs.Prelude.{if◌then◌else◌}
use Rattle.uv_model.specs.Ascii.{slash}
use Rattle.uv_model.specs.Parts.{Form, SchemeAuthority, SchemePath, SchemeOpaque, Authority, PathAbsolute}
use Rattle.uv_model.specs.Parts.{PathRelative, NoPath}
use Rattle.uv_model.specs.Path.{is_lone_drive, is_normalized_drive_letter, is_without, pieces, segments_after}
use Rattle.uv_model.specs.Path.{segments_of}
use Rattle.uv_model.specs.Records.PathText.{IsPathText}
use Rattle.uv_model.proofs.Texts.MarkLemmas.{is_without-more}
use Rattle.uv_model.proofs.Paths.PathPieces.{splits_first}
use Rattle.uv_model.proofs.Paths.PathTexts.{pieces-one}
use Rattle.uv_grammar.specs.Built.{segments_in}

-- ---- paths that a walk keeps

-- the second of two lists, by a test that fails
pub second : (test : Bool) (xs ys : List (List ℕ)) → test ≡ false → ys ≡ (if test then xs else ys)
second true xs ys fails = absurd (true≢false fails)
second false xs ys fails = refl

-- ---- segments without a `/`

-- the first of some takes one more code point
unslashed_first : (c : ℕ) (first : List ℕ) (others : List (List ℕ)) → (c == slash) ≡ false
    → list_all (is_without slash) (first ∷ others) ≡ true
    → list_all (is_without slash) ((c ∷ first) ∷ others) ≡ true
unslashed_first c first others other each =
    let parts = and_parts (is_without slash first) (list_all (is_without slash) others) each in
    and_from _ _ (is_without-more slash c first other parts.0) parts.1

-- the texts between slashes are without them
pub unslashed_pieces : (text : List ℕ) → list_all (is_without slash) (pieces text) ≡ true
unslashed_pieces [] = refl
unslashed_pieces (c ∷ rest) = elim (cases_Bool (c == slash)) [
  | inl same ↦ rw same (unslashed_pieces rest)
  | inr other ↦
      let s = splits_first rest in
      let each : list_all (is_without slash) (s.first ∷ s.others) ≡ true = rw s.is at (unslashed_pieces rest) in
      rw (other, s.is) (unslashed_first c s.first s.others other each)
]

unslashed_segments : (text : List ℕ) → list_all (is_without slash) (segments_of text) ≡ true
unslashed_segments [] = refl
unslashed_segments (c ∷ rest) = elim (cases_Bool (c == slash)) [
  | inl same ↦ rw same (unslashed_pieces rest)
  | inr other ↦
      subst (λ (s : List (List ℕ)). list_all (is_without slash) s ≡ true)
      (second (c == slash) (pieces rest) (pieces (c ∷ rest)) other) (unslashed_pieces (c ∷ rest))
]

-- so are the segments by the form
pub unslashed_by_form : (form : Form) (text : List ℕ) → list_all (is_without slash) (segments_in form text) ≡ true
unslashed_by_form SchemeOpaque text = refl
unslashed_by_form SchemeAuthority text = unslashed_segments text
unslashed_by_form SchemePath text = unslashed_segments text
unslashed_by_form Authority text = unslashed_segments text
unslashed_by_form PathAbsolute text = unslashed_segments text
unslashed_by_form PathRelative text = unslashed_segments text
unslashed_by_form NoPath text = unslashed_segments text

-- ---- drive letters

-- a drive letter is without `/`
pub unslashed_drive : (text : List ℕ) → is_normalized_drive_letter text ≡ true → is_without slash text ≡ true
unslashed_drive [] drive = refl
unslashed_drive (c ∷ []) drive = absurd cc
unslashed_drive (c ∷ mark ∷ []) drive = grind (drive, arith, nat_tests)
unslashed_drive (c ∷ mark ∷ d ∷ rest) drive = absurd cc

-- the only segment is one where the text after its `/` is
pub lone_drive : (c : ℕ) (rest : List ℕ)
    → is_normalized_drive_letter rest ≡ is_lone_drive (segments_after (c ∷ rest))
lone_drive c rest = go (pieces rest) refl
  where
    go : (segments : List (List ℕ)) → pieces rest ≡ segments
        → is_normalized_drive_letter rest ≡ is_lone_drive segments
    go [] is = false_from_ne_true _ (λ drive. absurd (some (sym (pieces-one rest (unslashed_drive rest drive)) ∙ is)))
      where
        some : rest ∷ [] ≢ []
        some same = cc
    go (first ∷ []) is =
        ap is_normalized_drive_letter (sym (join_with_byte-slice_split slash rest) ∙ ap (join_with_byte slash) is)
    go (first ∷ next ∷ others) is =
        false_from_ne_true _ (λ drive. more (sym (pieces-one rest (unslashed_drive rest drive)) ∙ is))
      where
        more : rest ∷ [] ≡ first ∷ next ∷ others → ⊥
        more same = cc

-- so of a text that isn't empty
pub lone_drive_after : (text : List ℕ) → (length text == 0) ≡ false
    → is_normalized_drive_letter (take (length text - 1) (drop 1 text)) ≡ is_lone_drive (segments_after text)
lone_drive_after [] some = absurd cc
lone_drive_after (c ∷ rest) some =
    let whole : take (length (c ∷ rest) - 1) rest ≡ rest = take_all (length (c ∷ rest) - 1) rest (omega arith) in
    ap is_normalized_drive_letter whole ∙ lone_drive c rest

-- ---- texts of bases

-- a path's text has the segments after its `/`
pub path_text_segments : (text : List ℕ) → IsPathText text → segments_of text ≡ segments_after text
path_text_segments [] is = refl
path_text_segments (c ∷ rest) is =
    let first : (c == slash) ≡ true = is.start (λ none. absurd cc) in
    rw first refl
