-- The kinds of the bytes of a name, and what a name is by those that are seen.
use Rattle.std.proofs.Common.{◌≡◌, ◌≢◌, ℕ, ◌<◌, Bool, true, false, not, ◌&&◌, ◌==◌, All, List, [], ◌∷◌, length}
use Rattle.std.proofs.Common.{bit_and, bit_or, min, get_or, Fits, w8, refl, sym, ap, ◌∙◌, inl, inr, subst, arith}
use Rattle.std.proofs.Common.{chars, ne_eqb}
use Rattle.std.specs.Prelude.{slice_index}
use Rattle.std.specs.Char.{is_ascii}
use Rattle.std.specs.Int.{bit_at}
use Rattle.std.specs.List.{list_all}
use Rattle.std.proofs.lemmas.Bool.{agree_below, agree_below_at, and_parts, cases_Bool}
use Rattle.std.proofs.lemmas.Bool.{cases_eq, cases_lt, false≢true, not_from_false}
use Rattle.std.proofs.lemmas.Bool.Decides.{nat_tests}
use Rattle.std.proofs.lemmas.Grind.{get_or_default_zero}
use Rattle.std.proofs.lemmas.List.{get_or_past}
use Rattle.std.proofs.lemmas.List.Elements.{All-head, All-tail, All-weaker}
use Rattle.std.proofs.lemmas.List.Sums.{AllPass-from_list_all, list_all-from_AllPass}
use Rattle.std.proofs.lemmas.Nat.Bits.{bit_at-zero, bit_at_and, bit_at_or, same_from_bits}
use Rattle.std.proofs.lemmas.Str.{chars-IsAscii}
use Rattle.idna.specs.declared.options.Hyphens.{Hyphens}
use Rattle.idna.specs.declared.options.Hyphens.TheVariants.{Allow}
use Rattle.idna.specs.Labels.{labels_of}
use Rattle.idna.specs.Validity.{has_ace_prefix, has_hyphens_third_and_fourth, hyphen, passes_hyphens}
use Rattle.idna.proofs.LabelsLemmas.{All-labels_of}
use Rattle.idna.proofs.Uts46Lemmas.{list_all-passes_hyphens}
use Rattle.idna.proofs.ValidityLemmas.{has_ace_prefix_by_index}
use Rattle.uv_model.specs.declared.profile.Profile.{Profile}
use Rattle.uv_model.specs.declared.profile.Profile.TheVariants.{Parser, Standard, Wide}
use Rattle.uv_model.specs.Hosts.Domain.{has_permitted, is_form_code_point, is_permitted}
use Rattle.uv_host.specs.Domains.{is_simple}
use Rattle.uv_host.specs.declared.names.TheConstants.{KINDS}
use Rattle.uv_host.specs.NameKinds.{AreSeen, is_of_none, kind_of}
use Rattle.uv_model.proofs.Texts.AsciiLemmas.{IsAscii-from_test}

-- ---- bits

-- numbers with no bit in common
apart : (n m : ℕ) → bit_and n m ≡ 0 → (i : ℕ) → min (bit_at n i) (bit_at m i) ≡ 0
apart n m is i = sym (bit_at_and n m i) ∙ ap (λ x. bit_at x i) is ∙ bit_at-zero i

from_apart : (n m : ℕ) → ((i : ℕ) → min (bit_at n i) (bit_at m i) ≡ 0) → bit_and n m ≡ 0
from_apart n m h = same_from_bits (bit_and n m) 0 (λ i. bit_at_and n m i ∙ (h i ∙ sym (bit_at-zero i)))

both_apart : (a k m : ℕ) → bit_and a m ≡ 0 → bit_and k m ≡ 0 → bit_and (bit_or a k) m ≡ 0
both_apart a k m first second =
    from_apart (bit_or a k) m
    (λ i. omega (arith, bit_at_or a k i, apart a m first i, apart k m second i))

first_apart : (a k m : ℕ) → bit_and (bit_or a k) m ≡ 0 → bit_and a m ≡ 0
first_apart a k m is =
    from_apart a m (λ i. omega (arith, bit_at_or a k i, apart (bit_or a k) m is i))

second_apart : (a k m : ℕ) → bit_and (bit_or a k) m ≡ 0 → bit_and k m ≡ 0
second_apart a k m is =
    from_apart k m (λ i. omega (arith, bit_at_or a k i, apart (bit_or a k) m is i))

-- of two numbers none has such a bit where both have none
pub none_of_both : (a k m : ℕ) → (bit_and (bit_or a k) m == 0) ≡ ((bit_and a m == 0) && (bit_and k m == 0))
none_of_both a k m = elim (cases_eq (bit_and a m) 0) [
  | inl first ↦ elim (cases_eq (bit_and k m) 0) [
    | inl second ↦ rw (both_apart a k m first second, first, second) refl
    | inr other ↦
        rw (
          first,
          ne_eqb (bit_and k m) 0 other,
          ne_eqb (bit_and (bit_or a k) m) 0 (λ e. other (second_apart a k m e)),
        ) refl
  ]
  | inr other ↦
      rw (ne_eqb (bit_and a m) 0 other, ne_eqb (bit_and (bit_or a k) m) 0 (λ e. other (first_apart a k m e))) refl
]

-- ---- the table of kinds

-- equal by its test
same_by_test : (n m : ℕ) → (n == m) ≡ true → n ≡ m
same_by_test n m h = elim (cases_eq n m) [
  | inl same ↦ same
  | inr other ↦ absurd (false≢true (sym (ne_eqb n m other) ∙ h))
]

-- it has the kind of each byte
pub kind_in_table : (b : ℕ) → b < 256 → slice_index KINDS b ≡ kind_of b
kind_in_table b small =
    same_by_test (slice_index KINDS b) (kind_of b)
    (agree_below_at (λ n. slice_index KINDS n == kind_of n) (λ n. true) 256 b refl small)

-- ---- what a name is

-- tests that agree on each element
same_all : (p q : ℕ → Bool) (xs : List ℕ) → All (λ b. p b ≡ q b) xs → list_all p xs ≡ list_all q xs
same_all p q [] h = refl
same_all p q (x ∷ xs) h =
    rw (All-head (λ b. p b ≡ q b) x xs h, same_all p q xs (All-tail (λ b. p b ≡ q b) x xs h)) refl

-- bytes fit
pub small_bytes : (bytes : List ℕ) → ((k : ℕ) → Fits w8 (get_or bytes k 0)) → All (λ b. b < 256) bytes
small_bytes bytes fits = λ k d inside. subst (λ b. b < 256) (sym (get_or_default_zero bytes k d inside)) (fits k).fits

-- a test that tells the bytes of none of these kinds
seen_all : (kinds : ℕ) (q : ℕ → Bool) (name : List ℕ) (seen : ℕ) → agree_below (is_of_none kinds) q 256 ≡ true
    → AreSeen name seen → (bit_and seen kinds == 0) ≡ list_all q name
seen_all kinds q name seen agree are =
    are.none kinds
    ∙ same_all (is_of_none kinds) q name
    (All-weaker (λ b. b < 256) (λ b. is_of_none kinds b ≡ q b)
    (λ b small. agree_below_at (is_of_none kinds) q 256 b agree small) name are.bytes)

pub seen_simple : (name : List ℕ) (seen : ℕ) → AreSeen name seen → (bit_and seen 63 == 0) ≡ list_all is_simple name
seen_simple name seen are = seen_all 63 is_simple name seen refl are

pub seen_standard_form : (name : List ℕ) (seen : ℕ) → AreSeen name seen
    → (bit_and seen 62 == 0) ≡ list_all (is_form_code_point Standard) name
seen_standard_form name seen are = seen_all 62 (is_form_code_point Standard) name seen refl are

pub seen_wide_form : (name : List ℕ) (seen : ℕ) → AreSeen name seen
    → (bit_and seen 58 == 0) ≡ list_all (is_form_code_point Wide) name
seen_wide_form name seen are = seen_all 58 (is_form_code_point Wide) name seen refl are

pub seen_parser_form : (name : List ℕ) (seen : ℕ) → AreSeen name seen
    → (bit_and seen 50 == 0) ≡ list_all (is_form_code_point Parser) name
seen_parser_form name seen are = seen_all 50 (is_form_code_point Parser) name seen refl are

pub seen_standard : (name : List ℕ) (seen : ℕ) → AreSeen name seen
    → (bit_and seen 28 == 0) ≡ list_all (is_permitted Standard) name
seen_standard name seen are = seen_all 28 (is_permitted Standard) name seen refl are

pub seen_wide : (name : List ℕ) (seen : ℕ) → AreSeen name seen
    → (bit_and seen 24 == 0) ≡ list_all (is_permitted Wide) name
seen_wide name seen are = seen_all 24 (is_permitted Wide) name seen refl are

pub seen_parser : (name : List ℕ) (seen : ℕ) → AreSeen name seen
    → (bit_and seen 16 == 0) ≡ list_all (is_permitted Parser) name
seen_parser name seen are = seen_all 16 (is_permitted Parser) name seen refl are

pub seen_ascii : (name : List ℕ) (seen : ℕ) → AreSeen name seen → (bit_and seen 32 == 0) ≡ list_all is_ascii name
seen_ascii name seen are = seen_all 32 is_ascii name seen refl are

-- whose code points are its bytes
pub permitted_ascii : (profile : Profile) (text : List ℕ) → list_all is_ascii text ≡ true
    → list_all (is_permitted profile) text ≡ has_permitted profile (chars text)
unfolding has_permitted
permitted_ascii profile text all =
    ap (list_all (is_permitted profile)) (sym (chars-IsAscii text (IsAscii-from_test text all)))

-- ---- hyphens

-- no byte is a hyphen if none is of its kind
no_hyphen : (c : ℕ) → not (c == hyphen) ≡ true → c ≢ hyphen
no_hyphen c h = grind (arith, nat_tests)

-- so each label passes
pub seen_no_hyphen : (hyphens : Hyphens) (name : List ℕ) (seen : ℕ) → AreSeen name seen → (bit_and seen 1 == 0) ≡ true
    → list_all (passes_hyphens hyphens) (labels_of name) ≡ true
seen_no_hyphen hyphens name seen are none =
    list_all-passes_hyphens hyphens name
    (All-weaker (λ c. not (c == hyphen) ≡ true) (λ c. c ≢ hyphen) no_hyphen name
    (AllPass-from_list_all (λ c. not (c == hyphen)) name
    (sym (seen_all 1 (λ c. not (c == hyphen)) name seen refl are) ∙ none)))

-- a label without `x` doesn't begin with `xn--`
without_x : (label : List ℕ) → All (λ c. c ≢ 120) label → passes_hyphens Allow label ≡ true
unfolding passes_hyphens
without_x label h =
    elim (cases_Bool (has_ace_prefix label)) [
      | inl ace ↦
          let parts = sym (has_ace_prefix_by_index label) ∙ ace in
          let first = (and_parts (has_hyphens_third_and_fourth label) (slice_index label 0 == 120)
          (and_parts (has_hyphens_third_and_fourth label && (slice_index label 0 == 120)) (slice_index label 1 == 110)
          parts).0).1 in
          absurd (false≢true (sym no_x ∙ first))
      | inr other ↦ not_from_false (has_ace_prefix label) other
    ]
  where
    no_x : (slice_index label 0 == 120) ≡ false
    no_x =
        elim (cases_lt 0 (length label)) [
          | inl inside ↦ ne_eqb (slice_index label 0) 120 (h 0 0 inside)
          | inr past ↦ ap (λ x. x == 120) (get_or_past label 0 0 past)
        ]

-- so no label does if no byte is an `x`
pub seen_no_x : (name : List ℕ) (seen : ℕ) → AreSeen name seen → (bit_and seen 64 == 0) ≡ true
    → list_all (passes_hyphens Allow) (labels_of name) ≡ true
seen_no_x name seen are none =
    let letters = All-weaker (λ c. not (c == 120) ≡ true) (λ c. c ≢ 120) (λ c h. no_letter c h) name
    (AllPass-from_list_all (λ c. not (c == 120)) name
    (sym (seen_all 64 (λ c. not (c == 120)) name seen refl are) ∙ none)) in
    list_all-from_AllPass (passes_hyphens Allow) (labels_of name)
    (All-weaker (All (λ c. c ≢ 120)) (λ label. passes_hyphens Allow label ≡ true) without_x (labels_of name)
    (All-labels_of (λ c. c ≢ 120) name (λ k d inside other. letters k d inside)))
  where
    no_letter : (c : ℕ) → not (c == 120) ≡ true → c ≢ 120
    no_letter c h = grind (arith, nat_tests)
