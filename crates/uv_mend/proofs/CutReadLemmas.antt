-- The second parser cuts a text at its first `#`, and what is before that at its first `?`.
use Rattle.std.proofs.Common.{◌≡◌, ◌∙◌, ℕ, Bool, true, false, not, ◌&&◌, ◌||◌, ◌==◌, List, [], ◌∷◌, ◌++◌, refl, sym, ap}
use Rattle.std.proofs.Common.{inl, inr, arith, map, Option, All}
use Rattle.std.specs.Prelude.{if◌then◌else◌}
use Rattle.std.proofs.lemmas.Bool.{cases_Bool, cond-false, cond-true, false≢true}
use Rattle.std.proofs.lemmas.Bool.Decides.{nat_tests}
use Rattle.std.proofs.lemmas.List.Elements.{All-head, All-tail}
use Rattle.url.specs.declared.scheme.SchemeType.{SchemeType}
use Rattle.url.specs.declared.scheme.SchemeType.TheVariants.{File, SpecialNotFile, NotSpecial}
use Rattle.url.specs.Input.{split_once}
use Rattle.url.specs.Scheme.{is_scheme_byte, is_special}
use Rattle.url.proofs.InputLemmas.{Passes}
use Rattle.uv_model.specs.declared.scheme.Class.{Class}
use Rattle.uv_model.specs.declared.scheme.Class.TheVariants as class
use Rattle.uv_model.specs.Ascii.{backslash, colon}
use Rattle.uv_mend.specs.declared.prefixes.Stop.TheVariants.{Start}
use Rattle.uv_mend.specs.Prefixes.{stops}
use Rattle.uv_mend.specs.Readings.{class_of_kind}
use Rattle.uv_mend.specs.Slashes.{after_marks, as_slash, is_slash_mark, new_slashes, renews_slashes, slashed_after}
use Rattle.uv_mend.specs.Slashes.{starts_with_two_marks, with_slashes}
use Rattle.uv_mend.proofs.TurnedLemmas.{isnt_turned, is_turned, turned}

-- what is before the `?` and the `#`, and the query
abbrev pub question_cut : List ℕ → List ℕ × Option (List ℕ)
question_cut text = split_once 63 (split_once 35 text).0

-- the fragment
abbrev pub hash_cut : List ℕ → Option (List ℕ)
hash_cut text = (split_once 35 text).1

neither : (x y : Bool) → (x || y) ≡ false → (x ≡ false) × (y ≡ false)
neither false y none = (refl, none)
neither true y none = absurd (false≢true (sym none))

-- nothing is before such a mark at the start
pub cut_stop : (c : ℕ) (rest : List ℕ) → stops Start c ≡ true → (question_cut (c ∷ rest)).0 ≡ []
unfolding split_once
cut_stop c rest stop = elim (cases_Bool (c == 35)) [
  | inl hash ↦ ap (λ (r : List ℕ × Option (List ℕ)). (split_once 63 r.0).0) (cond-true _ _ _ hash)
  | inr other ↦
      ap (λ (r : List ℕ × Option (List ℕ)). (split_once 63 r.0).0) (cond-false _ _ _ other)
      ∙ ap (λ (r : List ℕ × Option (List ℕ)). r.0) (cond-true _ _ _ (question (c == 63) (c == 35) stop other))
]
  where
    question : (x y : Bool) → (x || y) ≡ true → y ≡ false → x ≡ true
    question true y either none = refl
    question false y either none = absurd (false≢true (sym none ∙ either))

-- another code point is before them
pub cut_step : (c : ℕ) (rest : List ℕ) → stops Start c ≡ false
    → (question_cut (c ∷ rest) ≡ (c ∷ (question_cut rest).0, (question_cut rest).1))
    × (hash_cut (c ∷ rest) ≡ hash_cut rest)
unfolding split_once
cut_step c rest goes =
    let parts = neither (c == 63) (c == 35) goes in
    let hash : split_once 35 (c ∷ rest) ≡ (c ∷ (split_once 35 rest).0, (split_once 35 rest).1)
    = cond-false _ _ _ parts.1 in (
      ap (λ (r : List ℕ × Option (List ℕ)). split_once 63 r.0) hash ∙ cond-false _ _ _ parts.0,
      ap (λ (r : List ℕ × Option (List ℕ)). r.1) hash,
    )

-- and so do the bytes of a scheme
scheme_goes : (c : ℕ) → is_scheme_byte c ≡ true → stops Start c ≡ false
scheme_goes c is = grind (arith, nat_tests)

pub cut_scheme : (scheme rest : List ℕ) → All (Passes is_scheme_byte) scheme
    → (question_cut (scheme ++ colon ∷ rest) ≡ (scheme ++ colon ∷ (question_cut rest).0, (question_cut rest).1))
    × (hash_cut (scheme ++ colon ∷ rest) ≡ hash_cut rest)
cut_scheme [] rest each = cut_step colon rest refl
cut_scheme (c ∷ scheme) rest each =
    let step = cut_step c (scheme ++ colon ∷ rest) (scheme_goes c (All-head (Passes is_scheme_byte) c scheme each)) in
    let more = cut_scheme scheme rest (All-tail (Passes is_scheme_byte) c scheme each) in (
      step.0 ∙ ap (λ (r : List ℕ × Option (List ℕ)). (c ∷ r.0, r.1)) more.0,
      step.1 ∙ more.1,
    )

-- the other text has this front, and the query and the fragment of the text
pub record HasCut (text other front : List ℕ) : Type 0 where
  pub front_is : (question_cut other).0 ≡ front
  pub query_is : (question_cut other).1 ≡ (question_cut text).1
  pub fragment_is : hash_cut other ≡ hash_cut text

-- ---- each slash

as_turned : (kind : SchemeType) → is_special kind ≡ true → (c : ℕ) → as_slash (class_of_kind kind) c ≡ turned c
unfolding as_slash
as_turned File special c = refl
as_turned SpecialNotFile special c = refl
as_turned NotSpecial special c = absurd (false≢true special)

turned_goes : (c : ℕ) → stops Start c ≡ false → stops Start (turned c) ≡ false
turned_goes c goes = elim (cases_Bool (c == backslash)) [
  | inl is ↦ ap (stops Start) (is_turned c is)
  | inr isnt ↦ ap (stops Start) (isnt_turned c isnt) ∙ goes
]

pub slashes_cut : (kind : SchemeType) → is_special kind ≡ true → (text : List ℕ)
    → HasCut text (with_slashes (class_of_kind kind) text) (map turned (question_cut text).0)
unfolding split_once
slashes_cut kind special [] = record { front_is = refl; query_is = refl; fragment_is = refl }
slashes_cut kind special (c ∷ rest) =
    let with = with_slashes (class_of_kind kind) in
    elim (cases_Bool (stops Start c)) [
      | inl stop ↦
          let same : with (c ∷ rest) ≡ c ∷ rest = cond-true _ _ _ stop in
          let none = cut_stop c rest stop in
          record {
            front_is = ap (λ t. (question_cut t).0) same ∙ none ∙ sym (ap (map turned) none);
            query_is = ap (λ t. (question_cut t).1) same;
            fragment_is = ap hash_cut same;
          }
      | inr goes ↦
          let step : with (c ∷ rest) ≡ turned c ∷ with rest
          = cond-false _ _ _ goes ∙ ap (λ d. d ∷ with rest) (as_turned kind special c) in
          let known = slashes_cut kind special rest in
          let one = cut_step c rest goes in
          let other = cut_step (turned c) (with rest) (turned_goes c goes) in
          record {
            front_is =
                ap (λ t. (question_cut t).0) step ∙ ap (λ (r : List ℕ × Option (List ℕ)). r.0) other.0
                ∙ ap (λ t. turned c ∷ t) known.front_is
                ∙ sym (ap (λ (r : List ℕ × Option (List ℕ)). map turned r.0) one.0);
            query_is =
                ap (λ t. (question_cut t).1) step ∙ ap (λ (r : List ℕ × Option (List ℕ)). r.1) other.0
                ∙ known.query_is ∙ sym (ap (λ (r : List ℕ × Option (List ℕ)). r.1) one.0);
            fragment_is = ap hash_cut step ∙ other.1 ∙ known.fragment_is ∙ sym one.1;
          }
    ]

-- a text of another kind stays
pub slashes_stay : (text : List ℕ) → with_slashes class.Other text ≡ text
unfolding as_slash
slashes_stay [] = refl
slashes_stay (c ∷ rest) = elim (cases_Bool (stops Start c)) [
  | inl stop ↦ cond-true _ _ _ stop
  | inr goes ↦ cond-false _ _ _ goes ∙ ap (λ t. c ∷ t) (slashes_stay rest)
]

-- ---- the slash marks at the start

mark_goes : (c : ℕ) → is_slash_mark c ≡ true → stops Start c ≡ false
mark_goes c mark = grind (arith, nat_tests)

stop_no_mark : (c : ℕ) → stops Start c ≡ true → is_slash_mark c ≡ false
stop_no_mark c stop = grind (arith, nat_tests)

marks_cut : (text : List ℕ) → HasCut text (after_marks text) (after_marks (question_cut text).0)
unfolding split_once
marks_cut [] = record { front_is = refl; query_is = refl; fragment_is = refl }
marks_cut (c ∷ rest) = elim (cases_Bool (is_slash_mark c)) [
  | inl mark ↦
      let less : after_marks (c ∷ rest) ≡ after_marks rest = cond-true _ _ _ mark in
      let known = marks_cut rest in
      let one = cut_step c rest (mark_goes c mark) in
      record {
        front_is =
            ap (λ t. (question_cut t).0) less ∙ known.front_is ∙ sym (cond-true _ _ _ mark)
            ∙ sym (ap (λ (r : List ℕ × Option (List ℕ)). after_marks r.0) one.0);
        query_is =
            ap (λ t. (question_cut t).1) less ∙ known.query_is
            ∙ sym (ap (λ (r : List ℕ × Option (List ℕ)). r.1) one.0);
        fragment_is = ap hash_cut less ∙ known.fragment_is ∙ sym one.1;
      }
  | inr other ↦
      let same : after_marks (c ∷ rest) ≡ c ∷ rest = cond-false _ _ _ other in
      record {
        front_is = ap (λ t. (question_cut t).0) same ∙ sym (front c rest other);
        query_is = ap (λ t. (question_cut t).1) same;
        fragment_is = ap hash_cut same;
      }
]
  where
    front : (c : ℕ) (rest : List ℕ) → is_slash_mark c ≡ false
        → after_marks (question_cut (c ∷ rest)).0 ≡ (question_cut (c ∷ rest)).0
    front c rest other = elim (cases_Bool (stops Start c)) [
      | inl stop ↦ let none = cut_stop c rest stop in ap after_marks none ∙ sym none
      | inr goes ↦
          let first = ap (λ (r : List ℕ × Option (List ℕ)). r.0) (cut_step c rest goes).0 in
          ap after_marks first ∙ cond-false _ _ _ other ∙ sym first
    ]

pub two_marks : (text : List ℕ) → starts_with_two_marks text ≡ starts_with_two_marks (question_cut text).0
unfolding split_once
two_marks [] = refl
two_marks (c ∷ []) = elim (cases_Bool (stops Start c)) [
  | inl stop ↦ sym (ap starts_with_two_marks (cut_stop c [] stop))
  | inr goes ↦ sym (ap (λ (r : List ℕ × Option (List ℕ)). starts_with_two_marks r.0) (cut_step c [] goes).0)
]
two_marks (c ∷ d ∷ rest) = elim (cases_Bool (stops Start c)) [
  | inl stop ↦
      ap (λ (b : Bool). b && is_slash_mark d) (stop_no_mark c stop)
      ∙ sym (ap starts_with_two_marks (cut_stop c (d ∷ rest) stop))
  | inr goes ↦
      let first = ap (λ (r : List ℕ × Option (List ℕ)). r.0) (cut_step c (d ∷ rest) goes).0 in
      elim (cases_Bool (stops Start d)) [
        | inl stop ↦
            and_none (is_slash_mark c) (is_slash_mark d) (stop_no_mark d stop)
            ∙ sym (ap starts_with_two_marks (first ∙ ap (λ t. c ∷ t) (cut_stop d rest stop)))
        | inr more ↦
            sym (ap starts_with_two_marks
            (first ∙ ap (λ (r : List ℕ × Option (List ℕ)). c ∷ r.0) (cut_step d rest more).0))
      ]
]
  where
    and_none : (x y : Bool) → y ≡ false → (x && y) ≡ false
    and_none true y none = none
    and_none false y none = refl

-- ---- the slashes that are written again

-- the text with new ones, each code point as it is
abbrev pub renewed : Class → Bool → List ℕ → List ℕ
renewed kind has_scheme text =
    if renews_slashes kind has_scheme text then new_slashes kind ++ after_marks text else text

new_slashed : (kind : Class) (text : List ℕ)
    → new_slashes kind ++ with_slashes kind text ≡ with_slashes kind (new_slashes kind ++ text)
unfolding as_slash
new_slashed class.SpecialNotFile text = refl
new_slashed class.File text = refl
new_slashed class.Other text = refl

pub slashed_renewed : (kind : Class) (has_scheme : Bool) (text : List ℕ)
    → slashed_after kind has_scheme text ≡ with_slashes kind (renewed kind has_scheme text)
unfolding slashed_after
slashed_renewed kind has_scheme text = elim (cases_Bool (renews_slashes kind has_scheme text)) [
  | inl renews ↦
      cond-true _ _ _ renews ∙ new_slashed kind (after_marks text)
      ∙ sym (ap (with_slashes kind) (cond-true _ _ _ renews))
  | inr stays ↦ cond-false _ _ _ stays ∙ sym (ap (with_slashes kind) (cond-false _ _ _ stays))
]

renews_cut : (kind : Class) (has_scheme : Bool) (text : List ℕ)
    → renews_slashes kind has_scheme text ≡ renews_slashes kind has_scheme (question_cut text).0
unfolding renews_slashes
renews_cut class.SpecialNotFile has_scheme text = ap (λ (b : Bool). has_scheme || b) (two_marks text)
renews_cut class.File has_scheme text = ap (λ (b : Bool). has_scheme && not b) (two_marks text)
renews_cut class.Other has_scheme text = refl

new_cut : (kind : Class) (text : List ℕ)
    → (question_cut (new_slashes kind ++ text) ≡ (new_slashes kind ++ (question_cut text).0, (question_cut text).1))
    × (hash_cut (new_slashes kind ++ text) ≡ hash_cut text)
unfolding split_once
new_cut class.SpecialNotFile text = (refl, refl)
new_cut class.File text = (refl, refl)
new_cut class.Other text = (refl, refl)

pub renewed_cut : (kind : Class) (has_scheme : Bool) (text : List ℕ)
    → HasCut text (renewed kind has_scheme text) (renewed kind has_scheme (question_cut text).0)
renewed_cut kind has_scheme text = elim (cases_Bool (renews_slashes kind has_scheme text)) [
  | inl renews ↦
      let new : renewed kind has_scheme text ≡ new_slashes kind ++ after_marks text = cond-true _ _ _ renews in
      let cut = new_cut kind (after_marks text) in
      let known = marks_cut text in
      record {
        front_is =
            ap (λ t. (question_cut t).0) new ∙ ap (λ (r : List ℕ × Option (List ℕ)). r.0) cut.0
            ∙ ap (λ t. new_slashes kind ++ t) known.front_is
            ∙ sym (cond-true _ _ _ (sym (renews_cut kind has_scheme text) ∙ renews));
        query_is =
            ap (λ t. (question_cut t).1) new ∙ ap (λ (r : List ℕ × Option (List ℕ)). r.1) cut.0 ∙ known.query_is;
        fragment_is = ap hash_cut new ∙ cut.1 ∙ known.fragment_is;
      }
  | inr stays ↦
      let same : renewed kind has_scheme text ≡ text = cond-false _ _ _ stays in
      record {
        front_is =
            ap (λ t. (question_cut t).0) same ∙ sym (cond-false _ _ _ (sym (renews_cut kind has_scheme text) ∙ stays));
        query_is = ap (λ t. (question_cut t).1) same;
        fragment_is = ap hash_cut same;
      }
]
