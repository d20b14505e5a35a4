-- The rest of a text with another host, which ends no authority.
use Rattle.std.proofs.Common.{◌≡◌, ◌∙◌, ℕ, Bool, true, false, ◌||◌, List, [], ◌∷◌, ◌++◌, refl, sym, ap, arith, All}
use Rattle.std.proofs.Common.{append_assoc, inl, inr, Option, Some, None, option_map, subst}
use Rattle.std.specs.Prelude.{MatchOption, codes}
use Rattle.std.specs.Str.{IsUtf8, chars}
use Rattle.std.proofs.lemmas.Bool.{cases_Bool, cond-false, cond-true, false≢true}
use Rattle.std.proofs.lemmas.Bool.Decides.{nat_tests}
use Rattle.std.proofs.lemmas.List.Elements.{All-head, All-tail}
use Rattle.std.proofs.lemmas.Str.{chars-IsAscii, encodes-chars}
use Rattle.url.specs.declared.host.Host.{Host}
use Rattle.url.specs.Host.{IsHostOf, host_text}
use Rattle.url.specs.Parts.{IsValid, Parts, has_credentials, has_host, kind_of}
use Rattle.url.proofs.HostLemmas.{IsAscii-host_text}
use Rattle.url.proofs.HostRoundTrip.{IsHostByte, host_text_plain}
use Rattle.uv_model.specs.declared.scheme.Class.{Class}
use Rattle.uv_model.specs.declared.scheme.Class.TheVariants.{File, Other, SpecialNotFile}
use Rattle.uv_model.specs.Ascii.{slash}
use Rattle.uv_model.specs.Cut.{is_port_mark, is_within}
use Rattle.uv_mend.specs.declared.prefixes.Stop.TheVariants.{Authority}
use Rattle.uv_mend.specs.CodePoints.{after_one}
use Rattle.uv_model.specs.Records.Url.{Url}
use Rattle.uv_compare.specs.Second.{reading}
use Rattle.uv_mend.specs.Hosts.{after_host, ends_host, host_of_reading, plain_host, rehosted, with_host}
use Rattle.uv_mend.specs.Prefixes.{after_scheme, class_against, onward, scheme_prefix, stops}
use Rattle.uv_mend.specs.Rest.{KeepsRestAfterHost}
use Rattle.uv_mend.proofs.RestLemmas.{IsFree, host_rest}

-- ---- the host of a URL

byte_free : (b : ℕ) → IsHostByte b → stops Authority b ≡ false
byte_free b is = grind (arith, nat_tests, is.no_hash, is.no_slash, is.no_question)

bytes_free : (text : List ℕ) → All IsHostByte text → IsFree text
bytes_free [] each = tt
bytes_free (b ∷ rest) each =
    (byte_free b (All-head IsHostByte b rest each), bytes_free rest (All-tail IsHostByte b rest each))

host_free : (url : Parts) (host : Host (List ℕ)) → IsHostOf (kind_of url) host → IsFree (chars (host_text host))
host_free url host is =
    subst IsFree (sym (chars-IsAscii (host_text host) (IsAscii-host_text (kind_of url) host is)))
    (bytes_free (host_text host) (host_text_plain (kind_of url) host is))

-- where there is one, none of its code points ends an authority
abbrev MayBeFree : Option (List ℕ) → Type 0
MayBeFree None = Unit {0}
MayBeFree (Some host) = IsFree host

some_free : (url : Parts) (host : Option (Host (List ℕ))) → MatchOption host (Unit {0}) (IsHostOf (kind_of url))
    → MayBeFree (option_map (λ host. chars (host_text host)) host)
some_free url None is = tt
some_free url (Some host) is = host_free url host is

plain_free : (url : Parts) → IsValid url → MayBeFree (plain_host url)
unfolding plain_host
plain_free url valid = elim (cases_Bool (has_credentials url)) [
  | inl has ↦ rw has tt
  | inr bare ↦ elim (cases_Bool (has_host url)) [
    | inl some ↦ rw (bare, some) (some_free url url.host (known _ url.host valid.head.host))
    | inr none ↦ rw (bare, none) tt
  ]
]
  where
    known : (A : Type 0) (host : Option (Host (List ℕ)))
        → MatchOption host A (IsHostOf (kind_of url)) → MatchOption host (Unit {0}) (IsHostOf (kind_of url))
    known A None is = tt
    known A (Some host) is = is

-- ---- another host

neither : (x y : Bool) → (x || y) ≡ false → x ≡ false
neither false y none = refl
neither true y none = absurd (false≢true (sym none))

host_goes : (class : Class) (within : Bool) (c : ℕ) → ends_host class within c ≡ false → stops Authority c ≡ false
unfolding ends_host
host_goes File within c none = none
host_goes SpecialNotFile within c none = neither (stops Authority c) (is_port_mark within c) none
host_goes Other within c none = neither (stops Authority c) (is_port_mark within c) none

onward_host : (class : Class) (within : Bool) (text : List ℕ)
    → onward Authority (after_host class within text) ≡ onward Authority text
onward_host class within [] = refl
onward_host class within (c ∷ rest) = elim (cases_Bool (ends_host class within c)) [
  | inl ends ↦ ap (onward Authority) (cond-true _ _ _ ends)
  | inr goes ↦
      ap (onward Authority) (cond-false _ _ _ goes) ∙ onward_host class (is_within within c) rest
      ∙ sym (cond-false _ _ _ (host_goes class within c goes))
]

-- a valid URL's host in place of the text's own
pub with_host_rest : (url : Parts) (class : Class) (text host : List ℕ) → IsValid url → plain_host url ≡ Some host
    → KeepsRestAfterHost text (with_host class text host)
unfolding with_host
with_host_rest url class text host valid is = λ some.
    (let after = after_one (after_one (after_scheme text)) in
    host_rest text (after_host class false after) host some (subst MayBeFree is (plain_free url valid))
    (onward_host class false after))

-- ---- the text with another host, from its parts

-- two slashes
pub two_slashes : chars (codes "//") ≡ slash ∷ slash ∷ []
unfolding chars
two_slashes = refl

pub host_joined : (class : Class) (text host scheme after rest end : List ℕ) → scheme ≡ scheme_prefix text
    → after ≡ after_scheme text → rest ≡ after_one (after_one after) → end ≡ after_host class false rest
    → ((scheme ++ chars (codes "//")) ++ host) ++ end ≡ with_host class text host
unfolding with_host
host_joined class text host scheme after rest end is_scheme is_after is_rest is_end =
    rw (is_end, is_rest, is_after, is_scheme, two_slashes)
    (append_assoc (scheme_prefix text ++ slash ∷ slash ∷ []) host
    (after_host class false (after_one (after_one (after_scheme text))))
    ∙ append_assoc (scheme_prefix text) (slash ∷ slash ∷ [])
    (host ++ after_host class false (after_one (after_one (after_scheme text)))))

-- the host of what the second parser reads in a text, by its bytes
pub rehosted_by : (base : Option Url) (bytes : List ℕ) (url : Option Parts) → IsUtf8 bytes → url ≡ reading base bytes
    → rehosted base (chars bytes)
    ≡ option_map (with_host (class_against base (chars bytes)) (chars bytes)) (host_of_reading url)
rehosted_by base bytes url utf8 is =
    let again = with_host (class_against base (chars bytes)) (chars bytes) in
    ap (λ t. option_map again (host_of_reading (reading base t))) (encodes-chars bytes utf8)
    ∙ ap (λ u. option_map again (host_of_reading u)) (sym is)
