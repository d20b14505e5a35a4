-- The rest of a text with escapes: each of its parts is an escaping of the text's.
use Rattle.std.proofs.Common.{◌≡◌, ◌∙◌, ◌⊎◌, inl, inr, ℕ, Bool, true, false, ◌&&◌, ◌||◌, List, [], ◌∷◌, ◌++◌}
use Rattle.std.proofs.Common.{refl, sym, ap, append_assoc, arith, Option, Some, None, All, flat_map}
use Rattle.std.specs.Prelude.{◌==◌}
use Rattle.std.specs.Char.{encode_utf8, is_ascii_alphabetic}
use Rattle.std.proofs.lemmas.Bool.{and_right, cases_Bool, cases_lt, eqb-true, false≢true}
use Rattle.std.proofs.lemmas.Bool.Decides.{nat_tests}
use Rattle.std.proofs.lemmas.List.Elements.{All-head, All-tail}
use Rattle.std.proofs.lemmas.Str.{encode_ascii}
use Rattle.percent_encoding.specs.Percent.{percent_encode_byte}
use Rattle.percent_encoding.proofs.PercentLemmas.{All-percent_encode_byte, IsEscapeByte}
use Rattle.uv_model.specs.Ascii.{colon, number_sign, question_mark, slash}
use Rattle.uv_model.specs.Cut.{starts_with_two_slashes}
use Rattle.uv_model.specs.Parts.{written_after}
use Rattle.uv_model.specs.Path.{is_without}
use Rattle.uv_model.specs.Scheme.{goes_on_to_colon, is_scheme_code_point, starts_with_scheme}
use Rattle.uv_model.specs.Units.{is_unit_at, is_url_code_point}
use Rattle.uv_model.proofs.Texts.MarkLemmas.{is_without-append, is_without-cons, is_without-more, is_without-parts}
use Rattle.uv_mend.specs.declared.prefixes.Stop.TheVariants.{Authority}
use Rattle.uv_mend.specs.CodePoints.{after_one}
use Rattle.uv_mend.specs.Escapes.{IsEscapingOf, as_unit, as_units, escape, escaped, escaped_after}
use Rattle.uv_mend.specs.Prefixes.{after_authority, after_scheme, before}
use Rattle.uv_mend.specs.Prefixes.{stops}
use Rattle.uv_mend.specs.Rest.{MayBeEscapingOf, rest_of}
use Rattle.uv_mend.proofs.EncodedLemmas.{is_beyond}
use Rattle.uv_mend.proofs.EscapeLemmas.{unit_cases, units_escaping}
use Rattle.uv_mend.proofs.RestCutLemmas.{AreParts, tails}
use Rattle.uv_mend.proofs.RestLemmas.{IsAtStop, after_host_text, after_same_scheme, after_some_scheme, at_onward}
use Rattle.uv_mend.proofs.RestLemmas.{free_before}
use Rattle.uv_mend.proofs.RestLemmas.{onward_at, with_authority, without_authority, without_scheme}

-- ---- an escape

escape_first : (c : ℕ) → (rest : List ℕ) × (escape c ≡ 37 ∷ rest)
unfolding escape percent_encode_byte
escape_first c = elim (cases_lt c 128) [
  | inl low ↦ (_, ap (flat_map percent_encode_byte) (encode_ascii c low))
  | inr high ↦ let beyond = is_beyond c high in (_, ap (flat_map percent_encode_byte) beyond.some)
]

-- the mark isn't one of an escape's code points
abbrev IsOutside : ℕ → Type 0
IsOutside mark = (b : ℕ) → IsEscapeByte b → (b == mark) ≡ false

question_outside : IsOutside question_mark
question_outside b is = grind (arith, nat_tests)

sign_outside : IsOutside number_sign
sign_outside b is = grind (arith, nat_tests)

each_without : (mark : ℕ) → IsOutside mark → (text : List ℕ) → All IsEscapeByte text → is_without mark text ≡ true
each_without mark outside [] each = refl
each_without mark outside (c ∷ rest) each =
    is_without-more mark c rest (outside c (All-head IsEscapeByte c rest each))
    (each_without mark outside rest (All-tail IsEscapeByte c rest each))

bytes_without : (mark : ℕ) → IsOutside mark → (bytes : List ℕ) → is_without mark
    (flat_map percent_encode_byte bytes) ≡ true
bytes_without mark outside [] = refl
bytes_without mark outside (b ∷ bytes) =
    is_without-append mark (percent_encode_byte b) (flat_map percent_encode_byte bytes)
    (each_without mark outside (percent_encode_byte b) (All-percent_encode_byte b)) (bytes_without mark outside bytes)

escape_without : (mark : ℕ) → IsOutside mark → (c : ℕ) → is_without mark (escape c) ≡ true
unfolding escape
escape_without mark outside c = bytes_without mark outside (encode_utf8 c)

-- ---- what is before the `#`, with escapes

record IsEscapedBefore (front tail : List ℕ) : Type 0 where
  after : List ℕ
  joined : as_units false (front ++ tail) ≡ after ++ as_units false tail
  is : IsEscapingOf front after
  without : (mark : ℕ) → IsOutside mark → is_without mark front ≡ true → is_without mark after ≡ true

escaped_before : (front tail : List ℕ) → is_without number_sign front ≡ true → IsEscapedBefore front tail
escaped_before [] tail none = record { after = []; joined = refl; is = refl; without = λ mark outside front. front }
escaped_before (c ∷ front) tail none =
    let parts = is_without-cons number_sign c front none in
    let more = escaped_before front tail parts.1 in
    let step : as_units false (c ∷ (front ++ tail)) ≡ as_unit false c (front ++ tail) ++
    (more.after ++ as_units false tail)
    = ap (λ (b : Bool). as_unit false c (front ++ tail) ++ as_units b (front ++ tail)) parts.0
    ∙ ap (λ t. as_unit false c (front ++ tail) ++ t) more.joined in
    elim (unit_cases false c (front ++ tail)) [
      | inl same ↦ record {
        after = c ∷ more.after;
        joined = step ∙ ap (λ t. t ++ (more.after ++ as_units false tail)) same;
        is = (more.after, inl refl, more.is);
        without = λ mark outside front_is.
            (let own = is_without-cons mark c front front_is in
            is_without-more mark c more.after own.0 (more.without mark outside own.1));
      }
      | inr other ↦ record {
        after = escape c ++ more.after;
        joined =
            step ∙ ap (λ t. t ++ (more.after ++ as_units false tail)) other
            ∙ sym (append_assoc (escape c) more.after (as_units false tail));
        is = (more.after, inr refl, more.is);
        without = λ mark outside front_is.
            (let own = is_without-cons mark c front front_is in
            is_without-append mark (escape c) more.after (escape_without mark outside c)
            (more.without mark outside own.1));
      }
    ]

-- ---- the parts

-- a fragment with its `#`
fragment_escaped : (fragment : Option (List ℕ))
    → (other : Option (List ℕ))
    × (as_units false (written_after number_sign fragment) ≡ written_after number_sign other)
    × MayBeEscapingOf fragment other
unfolding as_unit
fragment_escaped None = (None, refl, refl)
fragment_escaped (Some text) = (Some (as_units true text), refl, (as_units true text, refl, units_escaping true text))

question_stays : (rest : List ℕ) → as_units false (question_mark ∷ rest) ≡ question_mark ∷ as_units false rest
unfolding as_unit is_unit_at is_url_code_point
question_stays rest = refl

-- a query and a fragment with their marks
record AreEscapedTails (query fragment : Option (List ℕ)) : Type 0 where
  other_query : Option (List ℕ)
  other_fragment : Option (List ℕ)
  joined : as_units false (tails query fragment) ≡ tails other_query other_fragment
  query_is : MayBeEscapingOf query other_query
  fragment_is : MayBeEscapingOf fragment other_fragment
  no_sign : is_without number_sign (written_after question_mark other_query) ≡ true

tails_escaped : (query fragment : Option (List ℕ)) → is_without number_sign (written_after question_mark query) ≡ true
    → AreEscapedTails query fragment
tails_escaped None fragment none =
    let last = fragment_escaped fragment in
    record {
      other_query = None;
      other_fragment = last.0;
      joined = last.1;
      query_is = refl;
      fragment_is = last.2;
      no_sign = refl;
    }
tails_escaped (Some query) fragment none =
    let last = fragment_escaped fragment in
    let own = is_without-cons number_sign question_mark query none in
    let front = escaped_before query (written_after number_sign fragment) own.1 in
    record {
      other_query = Some front.after;
      other_fragment = last.0;
      joined =
          question_stays (query ++ written_after number_sign fragment)
          ∙ ap (λ t. question_mark ∷ t) (front.joined ∙ ap (λ t. front.after ++ t) last.1);
      query_is = (front.after, refl, front.is);
      fragment_is = last.2;
      no_sign = is_without-more number_sign question_mark front.after refl
          (front.without number_sign sign_outside own.1);
    }

-- the three parts with escapes
pub record ArePartsEscaped (path : List ℕ) (query fragment : Option (List ℕ)) : Type 0 where
  pub other_path : List ℕ
  pub other_query : Option (List ℕ)
  pub other_fragment : Option (List ℕ)
  pub joined : as_units false (path ++ tails query fragment) ≡ other_path ++ tails other_query other_fragment
  pub are : AreParts other_path other_query
  pub path_is : IsEscapingOf path other_path
  pub query_is : MayBeEscapingOf query other_query
  pub fragment_is : MayBeEscapingOf fragment other_fragment

pub parts_escaped : (path : List ℕ) (query fragment : Option (List ℕ)) → AreParts path query
    → ArePartsEscaped path query fragment
parts_escaped path query fragment are =
    let signs = is_without-parts number_sign path (written_after question_mark query) are.no_sign in
    let last = tails_escaped query fragment signs.1 in
    let front = escaped_before path (tails query fragment) signs.0 in
    record {
      other_path = front.after;
      other_query = last.other_query;
      other_fragment = last.other_fragment;
      joined = front.joined ∙ ap (λ t. front.after ++ t) last.joined;
      are = record {
        no_question = front.without question_mark question_outside are.no_question;
        no_sign = is_without-append number_sign front.after (written_after question_mark last.other_query)
            (front.without number_sign sign_outside signs.0) last.no_sign;
      };
      path_is = front.is;
      query_is = last.query_is;
      fragment_is = last.fragment_is;
    }

-- ---- no escape makes a scheme or an authority

neither : (x y : Bool) → (x || y) ≡ false → (x ≡ false) × (y ≡ false)
neither false y none = (refl, none)
neither true y none = absurd (false≢true (sym none))

-- a code point with its escapes, first
unit_first : (in_fragment : Bool) (c : ℕ) (rest : List ℕ)
    → (as_units in_fragment (c ∷ rest) ≡ c ∷ as_units (in_fragment || (c == number_sign)) rest)
    ⊎ ((other : List ℕ) × (as_units in_fragment (c ∷ rest) ≡ 37 ∷ other))
unit_first in_fragment c rest =
    let more = as_units (in_fragment || (c == number_sign)) rest in
    elim (unit_cases in_fragment c rest) [
      | inl same ↦ inl (ap (λ t. t ++ more) same)
      | inr other ↦ let first = escape_first c in inr (first.0 ++ more, ap (λ t. t ++ more) (other ∙ first.1))
    ]

units_go : (in_fragment : Bool) (text : List ℕ) → goes_on_to_colon text ≡ false
    → goes_on_to_colon (as_units in_fragment text) ≡ false
units_go in_fragment [] none = refl
units_go in_fragment (c ∷ rest) none = elim (unit_first in_fragment c rest) [
  | inr other ↦ ap goes_on_to_colon other.1
  | inl same ↦
      let parts = neither (c == colon) (is_scheme_code_point c && goes_on_to_colon rest) none in
      elim (cases_Bool (is_scheme_code_point c)) [
        | inl in_scheme ↦
            let later : goes_on_to_colon rest ≡ false = rw in_scheme at parts.1 in
            rw same (rw (parts.0, in_scheme) (units_go (in_fragment || (c == number_sign)) rest later))
        | inr out ↦ rw same (rw (parts.0, out) refl)
      ]
]

units_start : (text : List ℕ) → starts_with_scheme text ≡ false → starts_with_scheme (as_units false text) ≡ false
units_start [] none = refl
units_start (c ∷ rest) none = elim (unit_first false c rest) [
  | inr other ↦ ap starts_with_scheme other.1
  | inl same ↦ elim (cases_Bool (is_ascii_alphabetic c)) [
    | inl letter ↦
        let later : goes_on_to_colon rest ≡ false = rw letter at none in
        rw same (rw letter (units_go (c == number_sign) rest later))
    | inr out ↦ rw same (rw out refl)
  ]
]

two_first : (c : ℕ) (rest : List ℕ) → (c == slash) ≡ false → starts_with_two_slashes (c ∷ rest) ≡ false
two_first c [] other = refl
two_first c (d ∷ rest) other = ap (λ (b : Bool). b && (d == slash)) other

units_two : (text : List ℕ) → starts_with_two_slashes text ≡ false
    → starts_with_two_slashes (as_units false text) ≡ false
units_two [] none = refl
units_two (c ∷ []) none = elim (unit_first false c []) [
  | inl same ↦ ap starts_with_two_slashes same
  | inr other ↦ ap starts_with_two_slashes other.1 ∙ two_first 37 other.0 refl
]
units_two (c ∷ d ∷ rest) none = elim (unit_first false c (d ∷ rest)) [
  | inr other ↦ ap starts_with_two_slashes other.1 ∙ two_first 37 other.0 refl
  | inl same ↦ elim (unit_first (c == number_sign) d rest) [
    | inl second ↦ ap starts_with_two_slashes (same ∙ ap (λ t. c ∷ t) second) ∙ none
    | inr second ↦ ap starts_with_two_slashes (same ∙ ap (λ t. c ∷ t) second.1) ∙ and_right (c == slash) false refl
  ]
]

-- a code point that ends an authority stays
stop_stays : (c : ℕ) (rest : List ℕ) → stops Authority c ≡ true → as_unit false c rest ≡ c ∷ []
unfolding as_unit is_unit_at is_url_code_point
stop_stays c rest stop = elim (cases_Bool (c == slash)) [
  | inl is ↦ let same = eqb-true c slash is in rw same refl
  | inr other ↦ elim (cases_Bool (c == question_mark)) [
    | inl is ↦ let same = eqb-true c question_mark is in rw same refl
    | inr neither ↦ let same = eqb-true c number_sign (rw (other, neither) at stop) in rw same refl
  ]
]

units_stop : (text : List ℕ) → IsAtStop text → IsAtStop (as_units false text)
units_stop [] is = tt
units_stop (c ∷ rest) is = rw (stop_stays c rest is) is

-- ---- the rest of the escaped text

authority_escaped : (text : List ℕ) → after_authority (escaped_after text) ≡ as_units false (after_authority text)
authority_escaped text = elim (cases_Bool (starts_with_two_slashes text)) [
  | inl some ↦
      let host = before Authority (after_one (after_one text)) in
      let with = with_authority text some in
      let after = as_units false (after_authority text) in
      let at : IsAtStop (after_authority text) = rw with.0 (at_onward (after_one (after_one text))) in
      let stop : IsAtStop after = units_stop (after_authority text) at in
      ap (λ t. after_authority (t ++ after)) with.1
      ∙ after_host_text host after (free_before (after_one (after_one text))) ∙ onward_at after stop
  | inr none ↦
      let without = without_authority text none in
      ap (λ t. after_authority (t ++ as_units false (after_authority text))) without.1
      ∙ ap (λ t. after_authority (as_units false t)) without.0
      ∙ (without_authority (as_units false text) (units_two text none)).0
      ∙ ap (as_units false) (sym without.0)
]

escaped_no_scheme : (text : List ℕ) → starts_with_scheme text ≡ false → starts_with_scheme (escaped_after text) ≡ false
escaped_no_scheme text bare = elim (cases_Bool (starts_with_two_slashes text)) [
  | inl some ↦ ap (λ t. starts_with_scheme (t ++ as_units false (after_authority text))) (with_authority text some).1
  | inr none ↦
      let without = without_authority text none in
      ap (λ t. starts_with_scheme (t ++ as_units false (after_authority text))) without.1
      ∙ ap (λ t. starts_with_scheme (as_units false t)) without.0 ∙ units_start text bare
]

pub escaped_rest : (text : List ℕ) → rest_of (escaped text) ≡ as_units false (rest_of text)
unfolding escaped
escaped_rest text = elim (cases_Bool (starts_with_scheme text)) [
  | inl starts ↦
      ap after_authority (after_some_scheme text (escaped_after (after_scheme text)) starts).rest_is
      ∙ authority_escaped (after_scheme text)
  | inr bare ↦
      let own = (without_scheme text bare).0 in
      let none = ap (λ t. starts_with_scheme (escaped_after t)) own ∙ escaped_no_scheme text bare in
      ap after_authority (after_same_scheme text (escaped_after (after_scheme text)) none).rest_is
      ∙ authority_escaped (after_scheme text)
]
