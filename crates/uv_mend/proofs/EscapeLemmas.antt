-- Escapes are ASCII, and a text with escapes is an escaping of the text.
use Rattle.std.proofs.Common.{◌≡◌, ◌⊎◌, inl, inr, ℕ, ◌<◌, Bool, true, false, not, ◌&&◌, ◌||◌, List, [], ◌∷◌, ◌++◌}
use Rattle.std.proofs.Common.{refl, ap, sym, ◌∙◌, append_assoc, subst, arith, ⊎_elim, lit<, encode_utf8}
use Rattle.std.proofs.Common.{encode_utf8_all}
use Rattle.std.specs.List.{flat_map}
use Rattle.std.specs.Prelude.{◌==◌}
use Rattle.std.specs.Str.{IsAscii}
use Rattle.std.proofs.lemmas.Bool.{cases_Bool}
use Rattle.std.proofs.lemmas.Bool.Decides.{nat_tests}
use Rattle.std.proofs.lemmas.List.Elements.{All-weaker}
use Rattle.std.proofs.lemmas.Str.{encodes-IsAscii, IsAscii-append}
use Rattle.std.proofs.lemmas.Str.Ascii.{IsAscii-from_all}
use Rattle.percent_encoding.specs.Percent.{percent_encode_byte}
use Rattle.percent_encoding.proofs.PercentLemmas.{All-percent_encode_byte, IsEscapeByte}
use Rattle.uv_model.specs.Ascii.{number_sign, slash}
use Rattle.uv_model.specs.Units.{is_unit_at}
use Rattle.uv_model.specs.Scheme.{starts_with_scheme}
use Rattle.uv_mend.specs.declared.prefixes.Stop.{Stop}
use Rattle.uv_mend.specs.declared.prefixes.Stop.TheVariants.{Scheme, Authority}
use Rattle.uv_mend.specs.CodePoints.{after_one, first_alone}
use Rattle.uv_mend.specs.Escapes.{IsEscapingOf, as_unit, as_units, escape, escaped, escaped_after}
use Rattle.uv_mend.specs.Prefixes.{after_authority, after_scheme, authority_prefix, before, onward, scheme_prefix}
use Rattle.uv_mend.specs.Prefixes.{stops}

-- an escape's code points are below 128
escape_ascii : (b : ℕ) → IsEscapeByte b → b < 128
escape_ascii b is = grind arith

-- the escape of a byte is ASCII
escape_is_ascii : (b : ℕ) → IsAscii (percent_encode_byte b)
escape_is_ascii b =
    IsAscii-from_all (percent_encode_byte b)
    (All-weaker IsEscapeByte (λ c. c < 128) escape_ascii (percent_encode_byte b) (All-percent_encode_byte b))

-- so are the escapes of bytes, and each is its own UTF-8
escapes_ascii : (bytes : List ℕ) → IsAscii (flat_map percent_encode_byte bytes)
escapes_ascii [] = λ i. lit< tt
escapes_ascii (b ∷ rest) =
    IsAscii-append (percent_encode_byte b) (flat_map percent_encode_byte rest) (escape_is_ascii b) (escapes_ascii rest)

pub encoded_escape : (c : ℕ) → flat_map percent_encode_byte (encode_utf8 c) ≡ encode_utf8_all (escape c)
unfolding escape
encoded_escape c =
    sym (encodes-IsAscii (flat_map percent_encode_byte (encode_utf8 c)) (escapes_ascii (encode_utf8 c)))

-- ---- the prefixes and what is after them are the text

pub prefix_parts : (stop : Stop) (text : List ℕ) → before stop text ++ onward stop text ≡ text
prefix_parts stop [] = refl
prefix_parts stop (c ∷ rest) =
    ⊎_elim (λ e. rw e refl) (λ e. rw e (ap (λ t. c ∷ t) (prefix_parts stop rest))) (cases_Bool (stops stop c))

first_parts : (text : List ℕ) → first_alone text ++ after_one text ≡ text
first_parts [] = refl
first_parts (c ∷ rest) = refl

-- the scheme with its `:`
pub scheme_parts : (text : List ℕ) → scheme_prefix text ++ after_scheme text ≡ text
unfolding scheme_prefix after_scheme
scheme_parts text =
    ⊎_elim
    (λ e. rw e (append_assoc (before Scheme text) (first_alone (onward Scheme text)) (after_one (onward Scheme text))
    ∙ ap (λ t. before Scheme text ++ t) (first_parts (onward Scheme text)) ∙ prefix_parts Scheme text))
    (λ e. rw e refl) (cases_Bool (starts_with_scheme text))

-- `//` and the authority
pub authority_parts : (text : List ℕ) → authority_prefix text ++ after_authority text ≡ text
unfolding authority_prefix after_authority
authority_parts [] = refl
authority_parts (c ∷ []) = refl
authority_parts (c ∷ d ∷ rest) =
    ⊎_elim
    (λ e. rw e (ap (λ t. slash ∷ slash ∷ t) (prefix_parts Authority rest) ∙ slashes c d rest e))
    (λ e. rw e refl) (cases_Bool ((c == slash) && (d == slash)))
  where
    slashes : (c d : ℕ) (rest : List ℕ) → ((c == slash) && (d == slash)) ≡ true
        → slash ∷ slash ∷ rest ≡ c ∷ d ∷ rest
    slashes c d rest e = grind (arith, nat_tests)

-- the prefixes and what is written of the rest
pub escaped_joined : (text scheme after authority rest : List ℕ) → scheme ≡ scheme_prefix text
    → after ≡ after_scheme text → authority ≡ authority_prefix after → rest ≡ after_authority after
    → (scheme ++ authority) ++ as_units false rest ≡ escaped text
unfolding escaped
escaped_joined text scheme after authority rest is_scheme is_after is_authority is_rest =
    rw (is_rest, is_authority, is_after, is_scheme)
    (append_assoc (scheme_prefix text) (authority_prefix (after_scheme text))
    (as_units false (after_authority (after_scheme text))))

-- ---- escapings

-- a prefix may be kept
escaping_after : (prefix rest other : List ℕ) → IsEscapingOf rest other
    → IsEscapingOf (prefix ++ rest) (prefix ++ other)
escaping_after [] rest other is = is
escaping_after (c ∷ prefix) rest other is = (prefix ++ other, inl refl, escaping_after prefix rest other is)

-- a code point stays or is written as its escapes
pub unit_cases : (in_fragment : Bool) (c : ℕ) (rest : List ℕ)
    → (as_unit in_fragment c rest ≡ c ∷ []) ⊎ (as_unit in_fragment c rest ≡ escape c)
unfolding as_unit
unit_cases in_fragment c rest =
    elim (cases_Bool (not in_fragment && (c == number_sign))) [
      | inl kept ↦ inl (rw kept refl)
      | inr other ↦ elim (cases_Bool (is_unit_at c rest)) [
        | inl unit ↦ inl (rw (other, unit) refl)
        | inr foreign ↦ inr (rw (other, foreign) refl)
      ]
    ]

-- and so do all of them
pub units_escaping : (in_fragment : Bool) (text : List ℕ) → IsEscapingOf text (as_units in_fragment text)
units_escaping in_fragment [] = refl
units_escaping in_fragment (c ∷ rest) = (
  as_units (in_fragment || (c == number_sign)) rest,
  ⊎_elim
      (λ e. inl (ap (λ t. t ++ as_units (in_fragment || (c == number_sign)) rest) e))
      (λ e. inr (ap (λ t. t ++ as_units (in_fragment || (c == number_sign)) rest) e))
      (unit_cases in_fragment c rest),
  units_escaping (in_fragment || (c == number_sign)) rest,
)

-- a text with its escapes is one
pub escaped_escaping : (text : List ℕ) → IsEscapingOf text (escaped text)
unfolding escaped
escaped_escaping text =
    let after = after_scheme text in
    let inner : IsEscapingOf after (escaped_after after) =
    subst (λ t. IsEscapingOf t (escaped_after after)) (authority_parts after)
    (escaping_after (authority_prefix after) (after_authority after) (as_units false (after_authority after))
    (units_escaping false (after_authority after))) in
    subst (λ t. IsEscapingOf t (scheme_prefix text ++ escaped_after after)) (scheme_parts text)
    (escaping_after (scheme_prefix text) after (escaped_after after) inner)
