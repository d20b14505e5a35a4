-- What is after the scheme and the authority of a text that is put together.
use Rattle.std.proofs.Common.{◌≡◌, ◌∙◌, ◌⊎◌, inl, inr, ℕ, Bool, true, false, ◌&&◌, ◌||◌, List, [], ◌∷◌, ◌++◌}
use Rattle.std.proofs.Common.{refl, sym, ap, append_assoc, append-nil, arith}
use Rattle.std.specs.Prelude.{◌==◌}
use Rattle.std.proofs.lemmas.Bool.{cases_Bool, cond-false, cond-true}
use Rattle.std.proofs.lemmas.Bool.Decides.{nat_tests}
use Rattle.uv_model.specs.Ascii.{colon, number_sign, question_mark, slash, full_stop}
use Rattle.uv_model.specs.Cut.{starts_with_two_slashes}
use Rattle.uv_model.specs.Path.{is_without}
use Rattle.uv_model.specs.Scheme.{starts_with_scheme}
use Rattle.uv_model.proofs.Cuts.SchemeCutLemmas.{splits_at_scheme}
use Rattle.uv_model.proofs.Texts.MarkLemmas.{is_without-cons}
use Rattle.uv_mend.specs.declared.prefixes.Stop.TheVariants.{Authority}
use Rattle.uv_mend.specs.CodePoints.{after_one}
use Rattle.uv_mend.specs.Prefixes.{after_authority, after_scheme, authority_prefix, before, onward, scheme_prefix}
use Rattle.uv_mend.specs.Prefixes.{stops}
use Rattle.uv_mend.specs.Rest.{rest_of}
use Rattle.uv_mend.proofs.EscapeLemmas.{authority_parts, scheme_parts}
use Rattle.uv_mend.proofs.SlashedLemmas.{has_scheme}

-- ---- code points that end no authority

-- none of them ends one
abbrev pub IsFree : List ℕ → Type 0
IsFree [] = Unit {0}
IsFree (c ∷ rest) = (stops Authority c ≡ false) × IsFree rest

-- the text is empty, or its first code point ends one
abbrev pub IsAtStop : List ℕ → Type 0
IsAtStop [] = Unit {0}
IsAtStop (c ∷ rest) = stops Authority c ≡ true

pub onward_free : (free rest : List ℕ) → IsFree free → onward Authority (free ++ rest) ≡ onward Authority rest
onward_free [] rest is = refl
onward_free (c ∷ free) rest is = cond-false _ _ _ is.0 ∙ onward_free free rest is.1

pub before_free : (free rest : List ℕ) → IsFree free → before Authority (free ++ rest) ≡ free ++ before Authority rest
before_free [] rest is = refl
before_free (c ∷ free) rest is = cond-false _ _ _ is.0 ∙ ap (λ t. c ∷ t) (before_free free rest is.1)

pub onward_at : (text : List ℕ) → IsAtStop text → onward Authority text ≡ text
onward_at [] is = refl
onward_at (c ∷ rest) is = cond-true _ _ _ is

pub before_at : (text : List ℕ) → IsAtStop text → before Authority text ≡ []
before_at [] is = refl
before_at (c ∷ rest) is = cond-true _ _ _ is

pub at_onward : (text : List ℕ) → IsAtStop (onward Authority text)
at_onward [] = tt
at_onward (c ∷ rest) = elim (cases_Bool (stops Authority c)) [
  | inl stop ↦ rw stop stop
  | inr goes ↦ rw goes (at_onward rest)
]

pub free_before : (text : List ℕ) → IsFree (before Authority text)
free_before [] = tt
free_before (c ∷ rest) = elim (cases_Bool (stops Authority c)) [
  | inl stop ↦ rw stop tt
  | inr goes ↦ rw goes (goes, free_before rest)
]

-- a text without the three marks
pub free_without : (text : List ℕ) → is_without slash text ≡ true → is_without question_mark text ≡ true
    → is_without number_sign text ≡ true → IsFree text
free_without [] slashes questions signs = tt
free_without (c ∷ rest) slashes questions signs =
    let first = is_without-cons slash c rest slashes in
    let second = is_without-cons question_mark c rest questions in
    let third = is_without-cons number_sign c rest signs in
    (rw (first.0, second.0, third.0) refl, free_without rest first.1 second.1 third.1)

-- ---- after an authority

pub after_host_text : (host rest : List ℕ) → IsFree host
    → after_authority (slash ∷ slash ∷ (host ++ rest)) ≡ onward Authority rest
unfolding after_authority
after_host_text host rest free = onward_free host rest free

pub prefix_host_text : (host rest : List ℕ) → IsFree host → IsAtStop rest
    → authority_prefix (slash ∷ slash ∷ (host ++ rest)) ≡ slash ∷ slash ∷ host
unfolding authority_prefix
prefix_host_text host rest free stop =
    ap (λ t. slash ∷ slash ∷ t) (before_free host rest free ∙ ap (λ t. host ++ t) (before_at rest stop)
    ∙ simp append-nil)

pub without_authority : (text : List ℕ) → starts_with_two_slashes text ≡ false
    → (after_authority text ≡ text) × (authority_prefix text ≡ [])
unfolding after_authority authority_prefix
without_authority text none = (cond-false _ _ _ none, cond-false _ _ _ none)

pub with_authority : (text : List ℕ) → starts_with_two_slashes text ≡ true
    → (after_authority text ≡ onward Authority (after_one (after_one text)))
    × (authority_prefix text ≡ slash ∷ slash ∷ before Authority (after_one (after_one text)))
unfolding after_authority authority_prefix
with_authority text some = (cond-true _ _ _ some, cond-true _ _ _ some)

-- ---- after a scheme

-- a text without a scheme is its own
pub without_scheme : (text : List ℕ) → starts_with_scheme text ≡ false
    → (after_scheme text ≡ text) × (scheme_prefix text ≡ [])
unfolding after_scheme scheme_prefix
without_scheme text none = (cond-false _ _ _ none, cond-false _ _ _ none)

-- the text has the other's scheme, and this after it
pub record HasSchemeAndRest (text other rest : List ℕ) : Type 0 where
  pub rest_is : after_scheme other ≡ rest
  pub prefix_is : scheme_prefix other ≡ scheme_prefix text

-- the scheme before another rest
pub after_some_scheme : (text rest : List ℕ) → starts_with_scheme text ≡ true
    → HasSchemeAndRest text (scheme_prefix text ++ rest) rest
after_some_scheme text rest starts =
    let split = splits_at_scheme text starts in
    let own = ap scheme_prefix split.joined ∙ (has_scheme split.scheme split.rest split.is).prefix in
    let other = has_scheme split.scheme rest split.is in
    let whole : scheme_prefix text ++ rest ≡ split.scheme ++ colon ∷ rest
    = ap (λ t. t ++ rest) own ∙ append_assoc split.scheme (colon ∷ []) rest in
    record {
      rest_is = ap after_scheme whole ∙ other.after_colon;
      prefix_is = ap scheme_prefix whole ∙ other.prefix ∙ sym own;
    }

pub after_same_scheme : (text rest : List ℕ) → starts_with_scheme rest ≡ false
    → HasSchemeAndRest text (scheme_prefix text ++ rest) rest
after_same_scheme text rest none = elim (cases_Bool (starts_with_scheme text)) [
  | inl starts ↦ after_some_scheme text rest starts
  | inr bare ↦
      let own = (without_scheme text bare).1 in
      let whole : scheme_prefix text ++ rest ≡ rest = ap (λ t. t ++ rest) own in
      let other = without_scheme rest none in
      record {
        rest_is = ap after_scheme whole ∙ other.0;
        prefix_is = ap scheme_prefix whole ∙ other.1 ∙ sym own;
      }
]

-- ---- `/.`

-- the authority stays before it
dot_authority : (text rest : List ℕ)
    → after_authority (authority_prefix text ++ slash ∷ full_stop ∷ rest) ≡ slash ∷ full_stop ∷ rest
dot_authority text rest = elim (cases_Bool (starts_with_two_slashes text)) [
  | inl some ↦
      let host = before Authority (after_one (after_one text)) in
      ap (λ t. after_authority (t ++ slash ∷ full_stop ∷ rest)) (with_authority text some).1
      ∙ after_host_text host (slash ∷ full_stop ∷ rest) (free_before (after_one (after_one text)))
  | inr none ↦
      ap (λ t. after_authority (t ++ slash ∷ full_stop ∷ rest)) (without_authority text none).1
      ∙ (without_authority (slash ∷ full_stop ∷ rest) refl).0
]

dot_no_scheme : (text rest : List ℕ) → starts_with_scheme (authority_prefix text ++ slash ∷ rest) ≡ false
dot_no_scheme text rest = elim (cases_Bool (starts_with_two_slashes text)) [
  | inl some ↦ ap (λ t. starts_with_scheme (t ++ slash ∷ rest)) (with_authority text some).1
  | inr none ↦ ap (λ t. starts_with_scheme (t ++ slash ∷ rest)) (without_authority text none).1
]

pub dotted_rest : (text : List ℕ)
    → rest_of (scheme_prefix text ++ (authority_prefix (after_scheme text) ++ slash ∷ full_stop ∷ rest_of text))
    ≡ slash ∷ full_stop ∷ rest_of text
dotted_rest text =
    let after = after_scheme text in
    ap after_authority (after_same_scheme text (authority_prefix after ++ slash ∷ full_stop ∷ rest_of text)
    (dot_no_scheme after (full_stop ∷ rest_of text))).rest_is
    ∙ dot_authority after (rest_of text)

-- the prefixes and the rest are the text
pub rest_parts : (text : List ℕ) → text ≡ scheme_prefix text ++ (authority_prefix (after_scheme text) ++ rest_of text)
rest_parts text =
    sym (ap (λ t. scheme_prefix text ++ t) (authority_parts (after_scheme text)) ∙ scheme_parts text)

-- ---- another host

pub host_rest : (text tail host : List ℕ) → starts_with_two_slashes (after_scheme text) ≡ true → IsFree host
    → onward Authority tail ≡ onward Authority (after_one (after_one (after_scheme text)))
    → rest_of (scheme_prefix text ++ (slash ∷ slash ∷ (host ++ tail))) ≡ rest_of text
host_rest text tail host some free same =
    ap after_authority (after_same_scheme text (slash ∷ slash ∷ (host ++ tail)) refl).rest_is
    ∙ after_host_text host tail free ∙ same ∙ sym (with_authority (after_scheme text) some).0
