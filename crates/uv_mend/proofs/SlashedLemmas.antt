-- A text with its slashes as they are read: with a scheme and without one, of its bytes, and from which nothing is
-- taken.
use Rattle.std.proofs.Common.{◌≡◌, ◌∙◌, ℕ, ◌≤◌, Bool, true, false, not, ◌&&◌, ◌||◌, ◌==◌, List, [], ◌∷◌, ◌++◌, refl}
use Rattle.std.proofs.Common.{sym, ap}
use Rattle.std.proofs.Common.{inl, inr, arith, All, Some, None, append_assoc, encode_utf8_all, subst}
use Rattle.std.specs.Prelude.{◌<◌, Option}
use Rattle.std.specs.Char.{encode_utf8, is_ascii_alphabetic}
use Rattle.std.specs.List.{list_all}
use Rattle.std.proofs.lemmas.Bool.{and_from, and_parts, cases_Bool, cases_lt, cond-false, cond-true, false≢true}
use Rattle.std.proofs.lemmas.Bool.Decides.{nat_tests}
use Rattle.std.proofs.lemmas.List.Elements.{All-head, All-tail}
use Rattle.std.proofs.lemmas.Str.{encode_ascii, encodes-IsAscii, encodes-append}
use Rattle.url.specs.Scheme.{is_scheme_byte, scheme_type}
use Rattle.url.proofs.InputLemmas.{Passes}
use Rattle.uv_model.specs.declared.scheme.Class.{Class}
use Rattle.uv_model.specs.declared.scheme.Class.TheVariants as class
use Rattle.uv_model.specs.Ascii.{backslash, colon, slash}
use Rattle.uv_model.specs.Cut.{class_in}
use Rattle.uv_model.specs.Records.Url.{Url}
use Rattle.uv_model.specs.Scheme.{goes_on_to_colon, is_scheme, is_scheme_code_point, lowercase}
use Rattle.uv_model.specs.Scheme.{starts_with_scheme}
use Rattle.uv_model.proofs.Cuts.SchemeCutLemmas.{splits_at_scheme, starts_with_written_scheme}
use Rattle.uv_model.proofs.Texts.AsciiLemmas.{AreBeyond, AreBeyond-encode}
use Rattle.uv_mend.specs.declared.prefixes.Stop.TheVariants.{Scheme, Start}
use Rattle.uv_mend.specs.CodePoints.{after_one, first_alone}
use Rattle.uv_mend.specs.Prefixes.{after_scheme, before, class_of_base, onward, scheme_of, scheme_prefix, stops}
use Rattle.uv_mend.specs.Readings.{class_of_kind}
use Rattle.uv_mend.specs.Slashes.{after_marks, as_slash, is_slash_mark, new_slashes, renews_slashes, slashed}
use Rattle.uv_mend.specs.Slashes.{slashed_after, starts_with_two_marks, with_slashes}
use Rattle.uv_mend.proofs.EncodedLemmas.{IsBeyond, is_beyond}
use Rattle.uv_mend.proofs.SchemeReadLemmas.{class_is, scheme_ascii, scheme_bytes}
use Rattle.uv_mend.proofs.StaysStripped.{StaysStripped, ends_append, ends_more, ends_shown, is_in_line, is_shown}
use Rattle.uv_mend.proofs.StaysStripped.{starts_shown}
use Rattle.uv_mend.proofs.TurnedLemmas.{isnt_turned, turned, turned_test}

-- ---- the scheme

colon_none : (c : ℕ) → is_scheme_byte c ≡ true → stops Scheme c ≡ false
colon_none c is = grind (arith, nat_tests)

before_is : (scheme rest : List ℕ) → All (Passes is_scheme_byte) scheme
    → (before Scheme (scheme ++ colon ∷ rest) ≡ scheme) × (onward Scheme (scheme ++ colon ∷ rest) ≡ colon ∷ rest)
before_is [] rest each = (refl, refl)
before_is (c ∷ scheme) rest each =
    let none = colon_none c (All-head (Passes is_scheme_byte) c scheme each) in
    let more = before_is scheme rest (All-tail (Passes is_scheme_byte) c scheme each) in (
      cond-false _ _ _ none ∙ ap (λ t. c ∷ t) more.0,
      cond-false _ _ _ none ∙ more.1,
    )

-- what is before the `:` and after it
pub record HasScheme (text scheme rest : List ℕ) : Type 0 where
  pub starts : starts_with_scheme text ≡ true
  pub before_colon : before Scheme text ≡ scheme
  pub after_colon : after_scheme text ≡ rest
  pub prefix : scheme_prefix text ≡ scheme ++ colon ∷ []

pub has_scheme : (scheme rest : List ℕ) → is_scheme scheme ≡ true → HasScheme (scheme ++ colon ∷ rest) scheme rest
unfolding scheme_prefix after_scheme
has_scheme scheme rest is =
    let text = scheme ++ colon ∷ rest in
    let starts = starts_with_written_scheme scheme rest is in
    let parts = before_is scheme rest (scheme_bytes scheme is) in
    record {
      starts = starts;
      before_colon = parts.0;
      after_colon = cond-true _ _ _ starts ∙ ap after_one parts.1;
      prefix =
          cond-true _ _ _ starts ∙ ap (λ t. t ++ first_alone (onward Scheme text)) parts.0
          ∙ ap (λ t. scheme ++ first_alone t) parts.1;
    }

pub slashed_written : (url : Option Url) (scheme rest : List ℕ) → is_scheme scheme ≡ true
    → slashed url (scheme ++ colon ∷ rest)
    ≡ scheme ++ colon ∷ slashed_after (class_of_kind (scheme_type (lowercase scheme))) true rest
slashed_written url scheme rest is =
    let text = scheme ++ colon ∷ rest in
    let has = has_scheme scheme rest is in
    let own : scheme_of text ≡ Some scheme = cond-true _ _ _ has.starts ∙ ap Some has.before_colon in
    let kind = ap (class_in url) own ∙ class_is scheme in
    ap (λ t. t ++ slashed_after (class_in url (scheme_of text)) (starts_with_scheme text) (after_scheme text))
    has.prefix
    ∙ ap (λ k. (scheme ++ colon ∷ []) ++ slashed_after k (starts_with_scheme text) (after_scheme text)) kind
    ∙ ap (λ (b : Bool). (scheme ++ colon ∷ [])
    ++ slashed_after (class_of_kind (scheme_type (lowercase scheme))) b (after_scheme text)) has.starts
    ∙ ap (λ t. (scheme ++ colon ∷ []) ++ slashed_after (class_of_kind (scheme_type (lowercase scheme))) true t)
    has.after_colon
    ∙ append_assoc scheme (colon ∷ []) (slashed_after (class_of_kind (scheme_type (lowercase scheme))) true rest)

pub slashed_bare : (url : Option Url) (text : List ℕ) → starts_with_scheme text ≡ false
    → slashed url text ≡ slashed_after (class_of_base url) false text
unfolding scheme_prefix after_scheme
slashed_bare url text none =
    let own : scheme_of text ≡ None = cond-false _ _ _ none in
    ap (λ t. t ++ slashed_after (class_in url (scheme_of text)) (starts_with_scheme text) (after_scheme text))
    (cond-false _ _ _ none)
    ∙ ap (λ s. slashed_after (class_in url s) (starts_with_scheme text) (after_scheme text)) own
    ∙ ap (λ (b : Bool). slashed_after (class_of_base url) b (after_scheme text)) none
    ∙ ap (slashed_after (class_of_base url) false) (cond-false _ _ _ none)

-- ---- the bytes

beyond_none : (c : ℕ) → 128 ≤ c
    → ((c == colon) ≡ false) × ((is_scheme_code_point c ≡ false) × (is_ascii_alphabetic c ≡ false))
beyond_none c high = (grind (arith, nat_tests), (grind (arith, nat_tests), grind (arith, nat_tests)))

no_colon : (c : ℕ) (rest : List ℕ) → 128 ≤ c → goes_on_to_colon (c ∷ rest) ≡ false
no_colon c rest high = let none = beyond_none c high in rw (none.0, none.1.0) refl

goes_on_encoded : (text : List ℕ) → goes_on_to_colon (encode_utf8_all text) ≡ goes_on_to_colon text
goes_on_encoded [] = refl
goes_on_encoded (c ∷ rest) = elim (cases_lt c 128) [
  | inl low ↦
      ap (λ t. goes_on_to_colon (t ++ encode_utf8_all rest)) (encode_ascii c low)
      ∙ ap (λ (b : Bool). (c == colon) || (is_scheme_code_point c && b)) (goes_on_encoded rest)
  | inr high ↦
      let beyond = is_beyond c high in
      ap (λ t. goes_on_to_colon (t ++ encode_utf8_all rest)) beyond.some
      ∙ no_colon beyond.first (beyond.rest ++ encode_utf8_all rest) beyond.beyond.0 ∙ sym (no_colon c rest high)
]

no_letter : (c : ℕ) (rest : List ℕ) → 128 ≤ c → starts_with_scheme (c ∷ rest) ≡ false
no_letter c rest high = ap (λ (b : Bool). b && goes_on_to_colon rest) (beyond_none c high).1.1

pub starts_encoded : (text : List ℕ) → starts_with_scheme (encode_utf8_all text) ≡ starts_with_scheme text
starts_encoded [] = refl
starts_encoded (c ∷ rest) = elim (cases_lt c 128) [
  | inl low ↦
      ap (λ t. starts_with_scheme (t ++ encode_utf8_all rest)) (encode_ascii c low)
      ∙ ap (λ (b : Bool). is_ascii_alphabetic c && b) (goes_on_encoded rest)
  | inr high ↦
      let beyond = is_beyond c high in
      ap (λ t. starts_with_scheme (t ++ encode_utf8_all rest)) beyond.some
      ∙ no_letter beyond.first (beyond.rest ++ encode_utf8_all rest) beyond.beyond.0 ∙ sym (no_letter c rest high)
]

-- a test that both marks pass, or neither, tells nothing of a turned one
as_test : (kind : Class) (test : ℕ → Bool) → test slash ≡ test backslash → (c : ℕ) → test (as_slash kind c) ≡ test c
unfolding as_slash
as_test class.Other test same c = refl
as_test class.SpecialNotFile test same c = turned_test test same c
as_test class.File test same c = turned_test test same c

no_backslash : (c : ℕ) → 128 ≤ c → (c == backslash) ≡ false
no_backslash c high = grind (arith, nat_tests)

high_stays : (kind : Class) (c : ℕ) → 128 ≤ c → as_slash kind c ≡ c
unfolding as_slash
high_stays class.Other c high = refl
high_stays class.SpecialNotFile c high = isnt_turned c (no_backslash c high)
high_stays class.File c high = isnt_turned c (no_backslash c high)

high_goes : (c : ℕ) → 128 ≤ c → stops Start c ≡ false
high_goes c high = grind (arith, nat_tests)

slashes_high : (kind : Class) (c : ℕ) (rest : List ℕ) → 128 ≤ c
    → with_slashes kind (c ∷ rest) ≡ c ∷ with_slashes kind rest
slashes_high kind c rest high =
    cond-false _ _ _ (high_goes c high) ∙ ap (λ d. d ∷ with_slashes kind rest) (high_stays kind c high)

slashes_beyond : (kind : Class) (high rest : List ℕ) → AreBeyond high
    → with_slashes kind (high ++ rest) ≡ high ++ with_slashes kind rest
slashes_beyond kind [] rest are = refl
slashes_beyond kind (c ∷ high) rest are =
    slashes_high kind c (high ++ rest) are.0 ∙ ap (λ t. c ∷ t) (slashes_beyond kind high rest are.1)

low_turned : (c : ℕ) → c < 128 → turned c < 128
low_turned c low = elim (cases_Bool (c == backslash)) [
  | inl is ↦ rw is (omega arith)
  | inr other ↦ rw other low
]

low_slash : (kind : Class) (c : ℕ) → c < 128 → as_slash kind c < 128
unfolding as_slash
low_slash class.Other c low = low
low_slash class.SpecialNotFile c low = low_turned c low
low_slash class.File c low = low_turned c low

slashes_encoded : (kind : Class) (text : List ℕ)
    → with_slashes kind (encode_utf8_all text) ≡ encode_utf8_all (with_slashes kind text)
slashes_encoded kind [] = refl
slashes_encoded kind (c ∷ rest) = elim (cases_lt c 128) [
  | inl low ↦
      let bytes : encode_utf8_all (c ∷ rest) ≡ c ∷ encode_utf8_all rest
      = ap (λ t. t ++ encode_utf8_all rest) (encode_ascii c low) in
      elim (cases_Bool (stops Start c)) [
        | inl stop ↦
            ap (with_slashes kind) bytes ∙ cond-true _ _ _ stop ∙ sym bytes
            ∙ ap encode_utf8_all (sym (cond-true _ _ _ stop))
        | inr goes ↦
            ap (with_slashes kind) bytes ∙ cond-false _ _ _ goes
            ∙ ap (λ t. as_slash kind c ∷ t) (slashes_encoded kind rest)
            ∙ ap (λ t. t ++ encode_utf8_all (with_slashes kind rest))
            (sym (encode_ascii (as_slash kind c) (low_slash kind c low)))
            ∙ ap encode_utf8_all (sym (cond-false _ _ _ goes))
      ]
  | inr high ↦
      slashes_beyond kind (encode_utf8 c) (encode_utf8_all rest) (AreBeyond-encode c high)
      ∙ ap (λ t. encode_utf8 c ++ t) (slashes_encoded kind rest)
      ∙ ap encode_utf8_all (sym (slashes_high kind c rest high))
]

high_no_mark : (c : ℕ) → 128 ≤ c → is_slash_mark c ≡ false
high_no_mark c high = grind (arith, nat_tests)

marks_encoded : (text : List ℕ) → after_marks (encode_utf8_all text) ≡ encode_utf8_all (after_marks text)
marks_encoded [] = refl
marks_encoded (c ∷ rest) = elim (cases_lt c 128) [
  | inl low ↦ rw (encode_ascii c low) (elim (cases_Bool (is_slash_mark c)) [
    | inl mark ↦ rw mark (marks_encoded rest)
    | inr other ↦ rw other (rw (encode_ascii c low) refl)
  ])
  | inr high ↦
      let beyond = is_beyond c high in
      rw (high_no_mark c high) (starts_beyond (encode_utf8 c) (encode_utf8_all rest) beyond)
]
  where
    starts_beyond : (bytes rest : List ℕ) → IsBeyond bytes → after_marks (bytes ++ rest) ≡ bytes ++ rest
    starts_beyond bytes rest is = rw is.some (rw (high_no_mark is.first is.beyond.0) refl)

no_two : (c : ℕ) (rest : List ℕ) → is_slash_mark c ≡ false → starts_with_two_marks (c ∷ rest) ≡ false
no_two c [] none = refl
no_two c (d ∷ rest) none = ap (λ (b : Bool). b && is_slash_mark d) none

pub two_encoded : (text : List ℕ) → starts_with_two_marks (encode_utf8_all text) ≡ starts_with_two_marks text
two_encoded [] = refl
two_encoded (c ∷ rest) = elim (cases_lt c 128) [
  | inl low ↦
      ap (λ t. starts_with_two_marks (t ++ encode_utf8_all rest)) (encode_ascii c low) ∙ second c rest
  | inr high ↦
      let beyond = is_beyond c high in
      ap (λ t. starts_with_two_marks (t ++ encode_utf8_all rest)) beyond.some
      ∙ no_two beyond.first (beyond.rest ++ encode_utf8_all rest) (high_no_mark beyond.first beyond.beyond.0)
      ∙ sym (no_two c rest (high_no_mark c high))
]
  where
    second : (c : ℕ) (rest : List ℕ)
        → starts_with_two_marks (c ∷ encode_utf8_all rest) ≡ starts_with_two_marks (c ∷ rest)
    second c [] = refl
    second c (d ∷ rest) = elim (cases_lt d 128) [
      | inl low ↦ ap (λ t. starts_with_two_marks (c ∷ (t ++ encode_utf8_all rest))) (encode_ascii d low)
      | inr high ↦
          let beyond = is_beyond d high in
          ap (λ t. starts_with_two_marks (c ∷ (t ++ encode_utf8_all rest))) beyond.some
          ∙ ap (λ (b : Bool). is_slash_mark c && b)
          (high_no_mark beyond.first beyond.beyond.0 ∙ sym (high_no_mark d high))
    ]

renews_encoded : (kind : Class) (scheme : Bool) (text : List ℕ)
    → renews_slashes kind scheme (encode_utf8_all text) ≡ renews_slashes kind scheme text
unfolding renews_slashes
renews_encoded class.SpecialNotFile scheme text = ap (λ (b : Bool). scheme || b) (two_encoded text)
renews_encoded class.File scheme text = ap (λ (b : Bool). scheme && not b) (two_encoded text)
renews_encoded class.Other scheme text = refl

new_encoded : (kind : Class) (text : List ℕ)
    → new_slashes kind ++ encode_utf8_all text ≡ encode_utf8_all (new_slashes kind ++ text)
unfolding encode_utf8
new_encoded class.SpecialNotFile text = refl
new_encoded class.File text = refl
new_encoded class.Other text = refl

after_encoded : (kind : Class) (scheme : Bool) (text : List ℕ)
    → slashed_after kind scheme (encode_utf8_all text) ≡ encode_utf8_all (slashed_after kind scheme text)
unfolding slashed_after
after_encoded kind scheme text = elim (cases_Bool (renews_slashes kind scheme text)) [
  | inl renews ↦
      cond-true _ _ _ (renews_encoded kind scheme text ∙ renews)
      ∙ ap (λ t. new_slashes kind ++ with_slashes kind t) (marks_encoded text)
      ∙ ap (λ t. new_slashes kind ++ t) (slashes_encoded kind (after_marks text))
      ∙ new_encoded kind (with_slashes kind (after_marks text))
      ∙ ap encode_utf8_all (sym (cond-true _ _ _ renews))
  | inr stays ↦
      cond-false _ _ _ (renews_encoded kind scheme text ∙ stays) ∙ slashes_encoded kind text
      ∙ ap encode_utf8_all (sym (cond-false _ _ _ stays))
]

pub written_encoded : (scheme rest : List ℕ) → is_scheme scheme ≡ true
    → encode_utf8_all (scheme ++ colon ∷ rest) ≡ scheme ++ colon ∷ encode_utf8_all rest
unfolding encode_utf8
written_encoded scheme rest is =
    encodes-append scheme (colon ∷ rest)
    ∙ ap (λ t. t ++ encode_utf8_all (colon ∷ rest)) (encodes-IsAscii scheme (scheme_ascii scheme is))

-- the bytes are edited as the text is
pub slashed_encoded : (url : Option Url) (text : List ℕ)
    → slashed url (encode_utf8_all text) ≡ encode_utf8_all (slashed url text)
slashed_encoded url text = elim (cases_Bool (starts_with_scheme text)) [
  | inl starts ↦
      let split = splits_at_scheme text starts in
      let kind = class_of_kind (scheme_type (lowercase split.scheme)) in
      ap (λ t. slashed url (encode_utf8_all t)) split.joined
      ∙ ap (slashed url) (written_encoded split.scheme split.rest split.is)
      ∙ slashed_written url split.scheme (encode_utf8_all split.rest) split.is
      ∙ ap (λ t. split.scheme ++ colon ∷ t) (after_encoded kind true split.rest)
      ∙ sym (written_encoded split.scheme (slashed_after kind true split.rest) split.is)
      ∙ ap encode_utf8_all (sym (slashed_written url split.scheme split.rest split.is))
      ∙ ap (λ t. encode_utf8_all (slashed url t)) (sym split.joined)
  | inr none ↦
      slashed_bare url (encode_utf8_all text) (starts_encoded text ∙ none)
      ∙ after_encoded (class_of_base url) false text ∙ ap encode_utf8_all (sym (slashed_bare url text none))
]

-- ---- nothing is taken off

start_slashes : (kind : Class) (text : List ℕ) → starts_shown (with_slashes kind text) ≡ starts_shown text
start_slashes kind [] = refl
start_slashes kind (c ∷ rest) = elim (cases_Bool (stops Start c)) [
  | inl stop ↦ ap starts_shown (cond-true _ _ _ stop)
  | inr goes ↦ ap starts_shown (cond-false _ _ _ goes) ∙ as_test kind is_shown refl c
]

end_slashes : (known : Bool) (kind : Class) (text : List ℕ)
    → ends_shown known (with_slashes kind text) ≡ ends_shown known text
end_slashes known kind [] = refl
end_slashes known kind (c ∷ rest) = elim (cases_Bool (stops Start c)) [
  | inl stop ↦ ap (ends_shown known) (cond-true _ _ _ stop)
  | inr goes ↦
      ap (ends_shown known) (cond-false _ _ _ goes)
      ∙ ap (λ (b : Bool). ends_shown b (with_slashes kind rest)) (as_test kind is_shown refl c)
      ∙ end_slashes (is_shown c) kind rest
]

line_slashes : (kind : Class) (text : List ℕ)
    → list_all is_in_line (with_slashes kind text) ≡ list_all is_in_line text
line_slashes kind [] = refl
line_slashes kind (c ∷ rest) = elim (cases_Bool (stops Start c)) [
  | inl stop ↦ ap (list_all is_in_line) (cond-true _ _ _ stop)
  | inr goes ↦
      ap (list_all is_in_line) (cond-false _ _ _ goes)
      ∙ ap (λ (b : Bool). b && list_all is_in_line (with_slashes kind rest)) (as_test kind is_in_line refl c)
      ∙ ap (λ (b : Bool). is_in_line c && b) (line_slashes kind rest)
]

mark_shown : (c : ℕ) → is_slash_mark c ≡ true → is_shown c ≡ true
mark_shown c mark = grind (arith, nat_tests)

end_marks : (text : List ℕ) → ends_shown true (after_marks text) ≡ ends_shown true text
end_marks [] = refl
end_marks (c ∷ rest) = elim (cases_Bool (is_slash_mark c)) [
  | inl mark ↦
      ap (ends_shown true) (cond-true _ _ _ mark) ∙ end_marks rest
      ∙ ap (λ (b : Bool). ends_shown b rest) (sym (mark_shown c mark))
  | inr other ↦ ap (ends_shown true) (cond-false _ _ _ other)
]

line_marks : (text : List ℕ) → list_all is_in_line text ≡ true → list_all is_in_line (after_marks text) ≡ true
line_marks [] all = refl
line_marks (c ∷ rest) all = elim (cases_Bool (is_slash_mark c)) [
  | inl mark ↦
      ap (list_all is_in_line) (cond-true _ _ _ mark)
      ∙ line_marks rest (and_parts (is_in_line c) (list_all is_in_line rest) all).1
  | inr other ↦ ap (list_all is_in_line) (cond-false _ _ _ other) ∙ all
]

-- what follows the scheme, where the scheme ends so
record AfterStays (known : Bool) (text : List ℕ) : Type 0 where
  start : starts_shown text ≡ true
  end : ends_shown known text ≡ true
  line : list_all is_in_line text ≡ true

new_stays : (kind : Class) (scheme known : Bool) (text : List ℕ) → renews_slashes kind scheme text ≡ true
    → ends_shown true text ≡ true → list_all is_in_line text ≡ true
    → AfterStays known (new_slashes kind ++ with_slashes kind (after_marks text))
unfolding renews_slashes
new_stays class.SpecialNotFile scheme known text renews end line = record {
  start = refl;
  end = end_slashes true class.SpecialNotFile (after_marks text) ∙ end_marks text ∙ end;
  line = line_slashes class.SpecialNotFile (after_marks text) ∙ line_marks text line;
}
new_stays class.File scheme known text renews end line = record {
  start = refl;
  end = end_slashes true class.File (after_marks text) ∙ end_marks text ∙ end;
  line = line_slashes class.File (after_marks text) ∙ line_marks text line;
}
new_stays class.Other scheme known text renews end line = absurd (false≢true renews)

after_ends : (kind : Class) (scheme known : Bool) (text : List ℕ) → ends_shown known text ≡ true
    → list_all is_in_line text ≡ true
    → (ends_shown known (slashed_after kind scheme text) ≡ true)
    × (list_all is_in_line (slashed_after kind scheme text) ≡ true)
unfolding slashed_after
after_ends kind scheme known text end line = elim (cases_Bool (renews_slashes kind scheme text)) [
  | inl renews ↦
      let new = new_stays kind scheme known text renews (ends_more known text end) line in
      let is = cond-true _ _ _ renews in
      (ap (ends_shown known) is ∙ new.end, ap (list_all is_in_line) is ∙ new.line)
  | inr stays ↦
      let is = cond-false _ _ _ stays in (
        ap (ends_shown known) is ∙ end_slashes known kind text ∙ end,
        ap (list_all is_in_line) is ∙ line_slashes kind text ∙ line,
      )
]

after_starts : (kind : Class) (scheme : Bool) (text : List ℕ) → StaysStripped text
    → starts_shown (slashed_after kind scheme text) ≡ true
unfolding slashed_after
after_starts kind scheme text stays = elim (cases_Bool (renews_slashes kind scheme text)) [
  | inl renews ↦
      ap starts_shown (cond-true _ _ _ renews)
      ∙ (new_stays kind scheme true text renews stays.end stays.line).start
  | inr none ↦ ap starts_shown (cond-false _ _ _ none) ∙ start_slashes kind text ∙ stays.start
]

all_append : (xs ys : List ℕ) → list_all is_in_line (xs ++ ys) ≡ (list_all is_in_line xs && list_all is_in_line ys)
all_append [] ys = refl
all_append (x ∷ xs) ys = ap (λ (b : Bool). is_in_line x && b) (all_append xs ys) ∙ sym (and_assoc (is_in_line x) _ _)
  where
    and_assoc : (x y z : Bool) → ((x && y) && z) ≡ (x && (y && z))
    and_assoc true y z = refl
    and_assoc false y z = refl

written_stays : (scheme rest other : List ℕ) → is_scheme scheme ≡ true → StaysStripped (scheme ++ colon ∷ rest)
    → ((known : Bool) → ends_shown known rest ≡ true → list_all is_in_line rest ≡ true
    → (ends_shown known other ≡ true) × (list_all is_in_line other ≡ true))
    → StaysStripped (scheme ++ colon ∷ other)
written_stays [] rest other is stays same = absurd (false≢true is)
written_stays (c ∷ scheme) rest other is stays same =
    let front = c ∷ scheme in
    let end = sym (ends_append true front (colon ∷ rest)) ∙ stays.end in
    let lines = and_parts (list_all is_in_line front) (list_all is_in_line (colon ∷ rest))
    (sym (all_append front (colon ∷ rest)) ∙ stays.line) in
    let new = same true end lines.1 in
    record {
      start = stays.start;
      end = ends_append true front (colon ∷ other) ∙ new.0;
      line = all_append front (colon ∷ other) ∙ and_from _ _ lines.0 new.1;
    }

pub slashed_stays : (url : Option Url) (text : List ℕ) → StaysStripped text → StaysStripped (slashed url text)
slashed_stays url text stays = elim (cases_Bool (starts_with_scheme text)) [
  | inl starts ↦
      let split = splits_at_scheme text starts in
      let kind = class_of_kind (scheme_type (lowercase split.scheme)) in
      subst StaysStripped (sym (ap (slashed url) split.joined ∙ slashed_written url split.scheme split.rest split.is))
      (written_stays split.scheme split.rest (slashed_after kind true split.rest) split.is
      (subst StaysStripped split.joined stays) (λ known end line. after_ends kind true known split.rest end line))
  | inr none ↦
      let ends = after_ends (class_of_base url) false true text stays.end stays.line in
      subst StaysStripped (sym (slashed_bare url text none)) (record {
        start = after_starts (class_of_base url) false text stays;
        end = ends.0;
        line = ends.1;
      })
]
