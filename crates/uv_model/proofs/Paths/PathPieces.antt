-- The segments of a path are URL-path-segment strings, and joined by `/` they are the path.
use Rattle.std.proofs.Common.{◌≡◌, ℕ, List, [], ◌∷◌, ◌++◌, ◌==◌, true, false, refl, sym, ap, ◌∙◌, ◌⊎◌, inl, inr}
use Rattle.std.proofs.Common.{eqb-true}
use Rattle.std.specs.List.{onto_first}
use Rattle.std.proofs.lemmas.Bool.{and_parts, and_from, cases_Bool}
use Rattle.std.proofs.lemmas.List.Splits.{join_with_byte-slice_split}
use Rattle.uv_model.specs.Ascii.{question_mark, slash}
use Rattle.uv_model.specs.Path.{AreSegments, IsPathRelative, IsSegment, JoinsTo, is_without, pieces, starts_with_slash}
use Rattle.uv_model.specs.Units.{is_faultless, is_unit_at}
use Rattle.uv_model.proofs.Texts.MarkLemmas.{is_without-cons, is_without-more}
use Rattle.uv_model.proofs.Texts.UnitsLemmas.{IsUnits-faultless, IsUnits-nil, is_faultless-units, is_unit_at-mark}

-- the first text between slashes: the whole text, or what is before the first slash
pub record SplitsFirst (text : List ℕ) : Type 0 where
  pub first : List ℕ
  pub others : List (List ℕ)
  pub is : pieces text ≡ first ∷ others
  pub whole : (text ≡ first) ⊎ ((tail : List ℕ) × (text ≡ first ++ slash ∷ tail))

pub splits_first : (text : List ℕ) → SplitsFirst text
splits_first [] = record { first = []; others = []; is = refl; whole = inl refl }
splits_first (c ∷ rest) = elim (cases_Bool (c == slash)) [
  | inl same ↦ record {
    first = [];
    others = pieces rest;
    is = rw same refl;
    whole = inr (rest, ap (λ x. x ∷ rest) (eqb-true c slash same));
  }
  | inr other ↦
      let s = splits_first rest in
      record { first = c ∷ s.first; others = s.others; is = rw (other, s.is) refl; whole = more c rest s.first s.whole }
]
  where
    more : (c : ℕ) (rest first : List ℕ) → (rest ≡ first) ⊎ ((tail : List ℕ) × (rest ≡ first ++ slash ∷ tail))
        → (c ∷ rest ≡ c ∷ first) ⊎ ((tail : List ℕ) × (c ∷ rest ≡ (c ∷ first) ++ slash ∷ tail))
    more c rest first (inl same) = inl (ap (λ s. c ∷ s) same)
    more c rest first (inr (tail, same)) = inr (tail, ap (λ s. c ∷ s) same)

-- a code point that isn't a fault before the whole text isn't one before its first part
unit_before : (c : ℕ) (rest first : List ℕ) → (rest ≡ first) ⊎ ((tail : List ℕ) × (rest ≡ first ++ slash ∷ tail))
    → is_unit_at c rest ≡ true → is_unit_at c first ≡ true
unit_before c rest first (inl same) unit = rw (← same) unit
unit_before c rest first (inr (tail, same)) unit =
    sym (is_unit_at-mark slash c first tail refl) ∙ (ap (is_unit_at c) (sym same) ∙ unit)

-- the segment that a code point other than `/` begins
segment_more : (c : ℕ) (rest : List ℕ) (s : SplitsFirst rest) → (c == slash) ≡ false → (c == question_mark) ≡ false
    → is_unit_at c rest ≡ true → AreSegments (pieces rest) → AreSegments (onto_first c (pieces rest))
segment_more c rest s other no_question unit each =
    let parts = rw s.is at each in
    let here : is_unit_at c s.first ≡ true = unit_before c rest s.first s.whole unit in
    rw s.is (
      record {
        units = IsUnits-faultless (c ∷ s.first) (and_from _ _ here (is_faultless-units s.first parts.0.units));
        no_slash = is_without-more slash c s.first other parts.0.no_slash;
        no_question_mark = is_without-more question_mark c s.first no_question parts.0.no_question_mark;
      },
      parts.1,
    )

empty_segment : IsSegment []
empty_segment = record { units = IsUnits-nil; no_slash = refl; no_question_mark = refl }

-- the texts between the slashes of units without `?` are segments
pieces_segments : (text : List ℕ) → is_faultless text ≡ true → is_without question_mark text ≡ true
    → AreSegments (pieces text)
pieces_segments [] units none = (empty_segment, tt)
pieces_segments (c ∷ rest) units none =
    let parts = and_parts (is_unit_at c rest) (is_faultless rest) units in
    let without = is_without-cons question_mark c rest none in
    let later = pieces_segments rest parts.1 without.1 in
    elim (cases_Bool (c == slash)) [
      | inl same ↦ rw same (empty_segment, later)
      | inr other ↦ rw other (segment_more c rest (splits_first rest) other without.0 parts.0 later)
    ]

-- a text of units without `?` is its pieces joined
pub joins_pieces : (text : List ℕ) → is_faultless text ≡ true → is_without question_mark text ≡ true
    → JoinsTo (pieces text) text
joins_pieces text units none =
    let s = splits_first text in
    record {
      first = s.first;
      others = s.others;
      some = s.is;
      each = pieces_segments text units none;
      joined = sym (join_with_byte-slice_split slash text);
    }

-- a path that doesn't begin with `/`
pub path_relative : (text : List ℕ) → is_faultless text ≡ true → is_without question_mark text ≡ true
    → starts_with_slash text ≡ false
    → IsPathRelative (pieces text) text
path_relative text units none start = record { joins = joins_pieces text units none; start = start }
