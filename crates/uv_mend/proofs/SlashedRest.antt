-- A text with its slashes as they are read has the query and the fragment of the text.
use Rattle.std.proofs.Common.{◌≡◌, ◌∙◌, inl, inr, ℕ, Bool, true, false, ◌||◌, List, [], ◌∷◌, ◌++◌}
use Rattle.std.proofs.Common.{refl, sym, ap, append_assoc, arith, Option}
use Rattle.std.specs.Prelude.{◌==◌}
use Rattle.std.proofs.lemmas.Bool.{cases_Bool, cond-false, cond-true}
use Rattle.std.proofs.lemmas.Bool.Decides.{nat_tests}
use Rattle.uv_model.specs.declared.scheme.Class.{Class}
use Rattle.uv_model.specs.declared.scheme.Class.TheVariants.{File, Other, SpecialNotFile}
use Rattle.uv_model.specs.Ascii.{backslash, number_sign, question_mark, slash}
use Rattle.uv_model.specs.Cut.{Cut, IsCut, cut_of, written_middle, written_start}
use Rattle.uv_model.specs.Parts.{written_after, written_scheme}
use Rattle.uv_model.specs.Path.{is_without}
use Rattle.uv_model.specs.Records.Url.{Url}
use Rattle.uv_model.specs.Scheme.{starts_with_scheme}
use Rattle.uv_model.proofs.Cuts.CutLemmas.{computed_is_cut}
use Rattle.uv_model.proofs.Texts.MarkLemmas.{is_without-append, is_without-cons, is_without-more, is_without-parts}
use Rattle.uv_mend.specs.declared.prefixes.Stop.TheVariants.{Start}
use Rattle.uv_mend.specs.Prefixes.{after_scheme, class_against, stops}
use Rattle.uv_mend.specs.Slashes.{after_marks, as_slash, is_slash_mark, new_slashes, renews_slashes, slashed}
use Rattle.uv_mend.specs.Slashes.{slashed_after}
use Rattle.uv_mend.specs.Slashes.{with_slashes}
use Rattle.uv_mend.proofs.RestCutLemmas.{IsTail, are_tails, cut_rest, parts_written, tails}

-- a text without a `?` and a `#`
record IsPlain (text : List ℕ) : Type 0 where
  no_question : is_without question_mark text ≡ true
  no_sign : is_without number_sign text ≡ true

plain_rest : (c : ℕ) (rest : List ℕ) → IsPlain (c ∷ rest) → IsPlain rest
plain_rest c rest plain = record {
  no_question = (is_without-cons question_mark c rest plain.no_question).1;
  no_sign = (is_without-cons number_sign c rest plain.no_sign).1;
}

plain_both : (front back : List ℕ) → IsPlain front → IsPlain back → IsPlain (front ++ back)
plain_both front back first second = record {
  no_question = is_without-append question_mark front back first.no_question second.no_question;
  no_sign = is_without-append number_sign front back first.no_sign second.no_sign;
}

-- the text is one without them, and this tail
record HasTail (tail text : List ℕ) : Type 0 where
  front : List ℕ
  joined : text ≡ front ++ tail
  plain : IsPlain front

goes : (c : ℕ) (rest : List ℕ) → IsPlain (c ∷ rest) → stops Start c ≡ false
goes c rest plain =
    let question = (is_without-cons question_mark c rest plain.no_question).0 in
    let sign = (is_without-cons number_sign c rest plain.no_sign).0 in
    rw (question, sign) refl

slash_plain : (class : Class) (c : ℕ) (rest front : List ℕ) → IsPlain (c ∷ rest) → IsPlain front
    → IsPlain (as_slash class c ∷ front)
unfolding as_slash
slash_plain class c rest front plain more =
    let question = (is_without-cons question_mark c rest plain.no_question).0 in
    let sign = (is_without-cons number_sign c rest plain.no_sign).0 in
    record {
      no_question = is_without-more question_mark (as_slash class c) front
          (other class question_mark refl question) more.no_question;
      no_sign = is_without-more number_sign (as_slash class c) front (other class number_sign refl sign) more.no_sign;
    }
  where
    other : (class : Class) (mark : ℕ) → (slash == mark) ≡ false → (c == mark) ≡ false
        → (as_slash class c == mark) ≡ false
    other Other mark none own = own
    other File mark none own = elim (cases_Bool (c == backslash)) [
      | inl is ↦ rw is none
      | inr isnt ↦ rw isnt own
    ]
    other SpecialNotFile mark none own = elim (cases_Bool (c == backslash)) [
      | inl is ↦ rw is none
      | inr isnt ↦ rw isnt own
    ]

slashes_tail : (class : Class) (text tail : List ℕ) → IsPlain text → IsTail tail
    → HasTail tail (with_slashes class (text ++ tail))
slashes_tail class [] [] plain is = record { front = []; joined = refl; plain = plain }
slashes_tail class [] (c ∷ rest) plain is = record { front = []; joined = cond-true _ _ _ is; plain = plain }
slashes_tail class (c ∷ text) tail plain is =
    let more = slashes_tail class text tail (plain_rest c text plain) is in
    record {
      front = as_slash class c ∷ more.front;
      joined = cond-false _ _ _ (goes c text plain) ∙ ap (λ t. as_slash class c ∷ t) more.joined;
      plain = slash_plain class c text more.front plain more.plain;
    }

no_mark : (c : ℕ) → stops Start c ≡ true → is_slash_mark c ≡ false
no_mark c is = grind (arith, nat_tests)

marks_tail : (text tail : List ℕ) → IsPlain text → IsTail tail → HasTail tail (after_marks (text ++ tail))
marks_tail [] [] plain is = record { front = []; joined = refl; plain = plain }
marks_tail [] (c ∷ rest) plain is = record { front = []; joined = cond-false _ _ _ (no_mark c is); plain = plain }
marks_tail (c ∷ text) tail plain is = elim (cases_Bool (is_slash_mark c)) [
  | inl mark ↦
      let more = marks_tail text tail (plain_rest c text plain) is in
      record { front = more.front; joined = cond-true _ _ _ mark ∙ more.joined; plain = more.plain }
  | inr other ↦ record { front = c ∷ text; joined = cond-false _ _ _ other; plain = plain }
]

new_plain : (class : Class) → IsPlain (new_slashes class)
new_plain SpecialNotFile = record { no_question = refl; no_sign = refl }
new_plain File = record { no_question = refl; no_sign = refl }
new_plain Other = record { no_question = refl; no_sign = refl }

after_tail : (class : Class) (has_scheme : Bool) (text tail : List ℕ) → IsPlain text → IsTail tail
    → HasTail tail (slashed_after class has_scheme (text ++ tail))
unfolding slashed_after
after_tail class has_scheme text tail plain is = elim (cases_Bool (renews_slashes class has_scheme (text ++ tail))) [
  | inl renews ↦
      let marks = marks_tail text tail plain is in
      let more = slashes_tail class marks.front tail marks.plain is in
      record {
        front = new_slashes class ++ more.front;
        joined =
            cond-true _ _ _ renews ∙ ap (λ t. new_slashes class ++ with_slashes class t) marks.joined
            ∙ ap (λ t. new_slashes class ++ t) more.joined ∙ sym (append_assoc (new_slashes class) more.front tail);
        plain = plain_both (new_slashes class) more.front (new_plain class) more.plain;
      }
  | inr keeps ↦
      let more = slashes_tail class text tail plain is in
      record { front = more.front; joined = cond-false _ _ _ keeps ∙ more.joined; plain = more.plain }
]

-- ---- the whole text

-- the start of a cut has neither, in its scheme and after it
record IsPlainStart (cut : Cut) : Type 0 where
  scheme : IsPlain (written_scheme cut.scheme)
  middle : IsPlain (written_middle cut)
  query : is_without number_sign (written_after question_mark cut.query) ≡ true

plain_start : (base : Option Url) (text : List ℕ) → IsPlainStart (cut_of base text)
plain_start base text = at (cut_of base text) (computed_is_cut base text)
  where
    at : (cut : Cut) → IsCut base text cut → IsPlainStart cut
    at cut is =
        let questions = is_without-parts question_mark (written_scheme cut.scheme) (written_middle cut) is.start in
        let prefix = is_without-parts number_sign (written_start cut)
        (written_after question_mark cut.query) is.prefix in
        let signs = is_without-parts number_sign (written_scheme cut.scheme) (written_middle cut) prefix.0 in
        record {
          scheme = record { no_question = questions.0; no_sign = signs.0 };
          middle = record { no_question = questions.1; no_sign = signs.1 };
          query = prefix.1;
        }

-- the query and the fragment stay
pub slashed_keeps : (base : Option Url) (text : List ℕ)
    → ((cut_of base (slashed base text)).query ≡ (cut_of base text).query)
    × ((cut_of base (slashed base text)).fragment ≡ (cut_of base text).fragment)
unfolding cut_of
slashed_keeps base text =
    let cut = cut_of base text in
    let has = cut_rest base text in
    let plain = plain_start base text in
    let tail = tails cut.query cut.fragment in
    let class = class_against base text in
    let more = after_tail class (starts_with_scheme text) (written_middle cut) tail plain.middle
    (are_tails cut.query cut.fragment) in
    let front = written_scheme cut.scheme ++ more.front in
    let whole : slashed base text ≡ front ++ tail =
    ap (λ t. t ++ slashed_after class (starts_with_scheme text) (after_scheme text)) has.prefix
    ∙ ap (λ t. written_scheme cut.scheme ++ slashed_after class (starts_with_scheme text) t) has.after
    ∙ ap (λ t. written_scheme cut.scheme ++ t) more.joined
    ∙ sym (append_assoc (written_scheme cut.scheme) more.front tail) in
    let both = plain_both (written_scheme cut.scheme) more.front plain.scheme more.plain in
    let parts = parts_written front cut.query cut.fragment (record {
      no_question = both.no_question;
      no_sign = is_without-append number_sign front (written_after question_mark cut.query) both.no_sign plain.query;
    }) in (
      ap (λ t. (cut_of base t).query) whole ∙ parts.query_is,
      ap (λ t. (cut_of base t).fragment) whole ∙ parts.fragment_is,
    )
