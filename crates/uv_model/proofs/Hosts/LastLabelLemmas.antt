-- The last label of a text: what it is of a text in parts, and that UTF-8 keeps the number rule.
use Rattle.std.proofs.Common.{◌≡◌, ℕ, ◌+◌, ◌-◌, ◌/◌, ◌%◌, ◌<◌, ◌≤◌, Bool, true, false, not, ◌&&◌, ◌||◌, ◌==◌, nat_lt}
use Rattle.std.proofs.Common.{List, [], ◌∷◌, ◌++◌, length, get_or, drop, All, encode_utf8_all, refl, sym, ap, ◌∙◌}
use Rattle.std.proofs.Common.{inl, inr, ◌⊎◌, arith, append_assoc, append-nil, length-append, drop_at, take_at, lt-ltb}
use Rattle.std.proofs.Common.{le-ltb, ne_eqb, eqb-true}
use Rattle.std.specs.Char.{encode_utf8, is_ascii_digit, is_ascii_hexdigit}
use Rattle.std.specs.List.{slice_index, list_all, suffix_len, after_last}
use Rattle.std.proofs.Math.Seq.{get_or-append_seam}
use Rattle.std.proofs.lemmas.Bool.{cases_Bool, cases_lt}
use Rattle.std.proofs.lemmas.Bool.Decides.{nat_tests}
use Rattle.std.proofs.lemmas.List.{get_or-append_right}
use Rattle.std.proofs.lemmas.List.Elements.{All-nil, All-cons, All-head, All-tail, All-append, All-weaker}
use Rattle.std.proofs.lemmas.List.Sums.{suffix_len_is}
use Rattle.std.proofs.lemmas.Str.{encodes-append, encode_ascii, length-le-encodes}
use Rattle.idna.specs.Labels.{is_full_stop}
use Rattle.uv_model.specs.Ascii.{full_stop}
use Rattle.uv_model.specs.Hosts.Domain.{without_root, last_label, is_digits, is_hexadecimal, ends_in_number}
use Rattle.uv_model.proofs.Texts.UnitsLemmas.{beyond_no_hex}

-- no code point of the text is a full stop
abbrev pub HasNoStop : List ℕ → Type 0
HasNoStop text = All (λ c. is_full_stop c ≡ false) text

-- ---- a text in parts

-- without a full stop the whole text is after the last one
pub after_last_none : (label : List ℕ) → HasNoStop label → after_last is_full_stop label ≡ label
after_last_none label none =
    let each : (k : ℕ) → 0 ≤ k → k < length label → not (is_full_stop (get_or label k 0)) ≡ true =
    λ k _ within. rw (none k 0 within) refl in
    let count = suffix_len_is (λ b. not (is_full_stop b)) label 0 0 (omega arith) each (λ h. absurd (omega arith)) in
    let here : length label - suffix_len (λ b. not (is_full_stop b)) label ≡ 0 = omega (arith, count) in
    ap (λ n. drop n label) here

-- after the last full stop is what follows it
pub after_last_stop : (prefix label : List ℕ) → HasNoStop label →
    after_last is_full_stop (prefix ++ full_stop ∷ label) ≡ label
after_last_stop prefix label none =
    let before = prefix ++ full_stop ∷ [] in
    let text = before ++ label in
    let shown : prefix ++ full_stop ∷ label ≡ text = sym (append_assoc prefix (full_stop ∷ []) label) in
    let whole : length text ≡ length before + length label = length-append before label in
    let later : (k : ℕ) → length before ≤ k → k < length text → not (is_full_stop (get_or text k 0)) ≡ true =
    λ k after within.
    rw (get_or-append_right before label (length before) k 0 refl after, none (k - length before) 0 (omega arith))
    refl in
    let stops : 0 < length before → not (is_full_stop (get_or text (length before - 1) 0)) ≡ false =
    λ _. rw (mark_at prefix label) refl in
    let count = suffix_len_is (λ b. not (is_full_stop b)) text (length before) 0 (omega arith) later stops in
    let here : length text - (length text - length before) ≡ length before = omega arith in
    rw (shown, count, here) (drop_at before label (length before) refl)
  where
    mark_at : (prefix label : List ℕ) →
        get_or ((prefix ++ full_stop ∷ []) ++ label) (length (prefix ++ full_stop ∷ []) - 1) 0 ≡ full_stop
    mark_at prefix label =
        let at : length (prefix ++ full_stop ∷ []) - 1 ≡ length prefix =
        omega (arith, length-append prefix (full_stop ∷ [])) in
        rw (at, append_assoc) (get_or-append_seam prefix full_stop label 0)

-- the code point at the end of a text
pub last_of : (prefix : List ℕ) (c : ℕ) → slice_index (prefix ++ c ∷ []) (length (prefix ++ c ∷ []) - 1) ≡ c
last_of prefix c =
    let at : length (prefix ++ c ∷ []) - 1 ≡ length prefix = omega (arith, length-append prefix (c ∷ [])) in
    rw at (get_or-append_seam prefix c [] 0)

-- a full stop at the end is dropped
pub without_root-stop : (prefix : List ℕ) → without_root (prefix ++ full_stop ∷ []) ≡ prefix
without_root-stop prefix =
    let at : length (prefix ++ full_stop ∷ []) - 1 ≡ length prefix =
    omega (arith, length-append prefix (full_stop ∷ [])) in
    rw (last_of prefix full_stop, at) (take_at prefix (full_stop ∷ []) (length prefix) refl)

-- another code point at the end stays
pub without_root-other : (prefix : List ℕ) (c : ℕ) → is_full_stop c ≡ false →
    without_root (prefix ++ c ∷ []) ≡ prefix ++ c ∷ []
without_root-other prefix c other = rw (last_of prefix c, other) refl

-- a text is empty, or has a last code point
pub from_end : (text : List ℕ) → (text ≡ []) ⊎ ((prefix : List ℕ) × (c : ℕ) × (text ≡ prefix ++ c ∷ []))
from_end [] = inl refl
from_end (c ∷ text) =
    elim (from_end text) [
      | inl none ↦ inr ([], c, ap (λ rest. c ∷ rest) none)
      | inr (prefix, last, shown) ↦ inr (c ∷ prefix, last, ap (λ rest. c ∷ rest) shown)
    ]

-- the label after the last full stop, if it isn't empty
pub last_label-after : (prefix label : List ℕ) → HasNoStop label → 0 < length label →
    last_label (prefix ++ full_stop ∷ label) ≡ label
last_label-after prefix label none some =
    elim (from_end label) [
      | inl empty ↦ absurd (omega (arith, ap length empty))
      | inr (others, c, shown) ↦
          let at : get_or label (length others) 0 ≡ c = rw shown (get_or-append_seam others c [] 0) in
          let within : length others < length label =
          omega (arith, ap length shown, length-append others (c ∷ [])) in
          let other : is_full_stop c ≡ false = rw at at (none (length others) 0 within) in
          let split : prefix ++ full_stop ∷ label ≡ (prefix ++ full_stop ∷ others) ++ c ∷ [] =
          ap (λ l. prefix ++ full_stop ∷ l) shown ∙ sym (append_assoc prefix (full_stop ∷ others) (c ∷ [])) in
          let kept : without_root (prefix ++ full_stop ∷ label) ≡ prefix ++ full_stop ∷ label =
          ap without_root split ∙ without_root-other (prefix ++ full_stop ∷ others) c other ∙ sym split in
          ap (after_last is_full_stop) kept ∙ after_last_stop prefix label none
    ]

-- a text has no full stop, or a last one
at_last_stop : (text : List ℕ) →
    HasNoStop text ⊎ ((prefix label : List ℕ) × (text ≡ prefix ++ full_stop ∷ label) × HasNoStop label)
at_last_stop [] = inl (All-nil (λ c. is_full_stop c ≡ false))
at_last_stop (c ∷ text) =
    elim (at_last_stop text) [
      | inr (prefix, label, shown, none) ↦ inr (c ∷ prefix, label, ap (λ rest. c ∷ rest) shown, none)
      | inl none ↦ first c text none
    ]
  where
    first : (c : ℕ) (text : List ℕ) → HasNoStop text →
        HasNoStop (c ∷ text) ⊎ ((prefix label : List ℕ) × (c ∷ text ≡ prefix ++ full_stop ∷ label) × HasNoStop label)
    first c text none =
        elim (cases_Bool (is_full_stop c)) [
          | inl stop ↦ inr ([], text, ap (λ x. x ∷ text) (eqb-true c full_stop stop), none)
          | inr other ↦ inl (All-cons (λ c. is_full_stop c ≡ false) c text other none)
        ]

-- ---- UTF-8

-- bytes of a code point beyond ASCII: at least one, and none of them ASCII
record IsHigh (bytes : List ℕ) : Type 0 where
  first : ℕ
  rest : List ℕ
  begins : bytes ≡ first ∷ rest
  first_high : 128 ≤ first
  prefix : List ℕ
  last : ℕ
  ends : bytes ≡ prefix ++ last ∷ []
  last_high : 128 ≤ last
  high : All (λ b. 128 ≤ b) bytes

-- a byte beyond ASCII isn't a full stop
not_stop : (b : ℕ) → 128 ≤ b → is_full_stop b ≡ false
not_stop b high = ne_eqb b full_stop (λ e. absurd (omega arith))

-- two bytes beyond ASCII
IsHigh-two : (a b : ℕ) → 128 ≤ a → 128 ≤ b → IsHigh (a ∷ b ∷ [])
IsHigh-two a b ha hb = record {
  first = a;
  rest = b ∷ [];
  begins = refl;
  first_high = ha;
  prefix = a ∷ [];
  last = b;
  ends = refl;
  last_high = hb;
  high = All-cons (λ x. 128 ≤ x) a (b ∷ []) ha (All-cons (λ x. 128 ≤ x) b [] hb (All-nil (λ x. 128 ≤ x)));
}

-- one more byte before
IsHigh-more : (a : ℕ) (bytes : List ℕ) → 128 ≤ a → IsHigh bytes → IsHigh (a ∷ bytes)
IsHigh-more a bytes ha h = record {
  first = a;
  rest = bytes;
  begins = refl;
  first_high = ha;
  prefix = a ∷ h.prefix;
  last = h.last;
  ends = ap (λ bs. a ∷ bs) h.ends;
  last_high = h.last_high;
  high = All-cons (λ x. 128 ≤ x) a bytes ha h.high;
}

-- the bytes of a code point beyond ASCII
IsHigh-encode : (c : ℕ) → 128 ≤ c → IsHigh (encode_utf8 c)
unfolding encode_utf8
IsHigh-encode c high =
    let final : 128 ≤ 128 + c % 64 = omega arith in
    let middle : 128 ≤ 128 + c / 64 % 64 = omega arith in
    elim (cases_lt c 2048) [
      | inl two ↦ rw (le-ltb c 128 high, lt-ltb c 2048 two) (IsHigh-two _ _ (omega arith) final)
      | inr more ↦ elim (cases_lt c 65536) [
        | inl three ↦
            rw (le-ltb c 128 high, le-ltb c 2048 more, lt-ltb c 65536 three)
            (IsHigh-more _ _ (omega arith) (IsHigh-two _ _ middle final))
        | inr four ↦
            rw (le-ltb c 128 high, le-ltb c 2048 more, le-ltb c 65536 four)
            (IsHigh-more _ _ (omega arith) (IsHigh-more _ _ (omega arith) (IsHigh-two _ _ middle final)))
      ]
    ]

-- the bytes of one code point: itself, or bytes beyond ASCII
encoded_cases : (c : ℕ) → ((c < 128) × (encode_utf8 c ≡ c ∷ [])) ⊎ ((128 ≤ c) × IsHigh (encode_utf8 c))
encoded_cases c =
    elim (cases_lt c 128) [
      | inl small ↦ inl (small, encode_ascii c small)
      | inr high ↦ inr (high, IsHigh-encode c high)
    ]

-- a test that no code point beyond ASCII passes gives the same on the bytes
list_all-encoded : (test : ℕ → Bool) → ((c : ℕ) → 128 ≤ c → test c ≡ false) → (text : List ℕ) →
    list_all test (encode_utf8_all text) ≡ list_all test text
list_all-encoded test fails [] = refl
list_all-encoded test fails (c ∷ text) =
    elim (encoded_cases c) [
      | inl (small, same) ↦ rw same (ap (λ b. test c && b) (list_all-encoded test fails text))
      | inr (high, is) ↦ rw (is.begins, fails is.first is.first_high, fails c high) refl
    ]

-- what holds of each code point, and of all that isn't ASCII, holds of each byte
pub All-encoded : (P : ℕ → Type 0) → ((b : ℕ) → 128 ≤ b → P b) → (text : List ℕ) → All P text →
    All P (encode_utf8_all text)
All-encoded P beyond [] all = all
All-encoded P beyond (c ∷ text) all =
    let further = All-encoded P beyond text (All-tail P c text all) in
    elim (encoded_cases c) [
      | inl (small, same) ↦ rw same (All-cons P c _ (All-head P c text all) further)
      | inr (high, is) ↦
          All-append P (encode_utf8 c) (encode_utf8_all text)
          (All-weaker (λ b. 128 ≤ b) P beyond (encode_utf8 c) is.high) further
    ]

-- UTF-8 brings in no full stop
no_stop-encoded : (text : List ℕ) → HasNoStop text → HasNoStop (encode_utf8_all text)
no_stop-encoded text none = All-encoded (λ c. is_full_stop c ≡ false) not_stop text none

-- another code point than a full stop at the end stays
whole : (prefix : List ℕ) (c : ℕ) → is_full_stop c ≡ false →
    encode_utf8_all (without_root (prefix ++ c ∷ [])) ≡ encode_utf8_all prefix ++ encode_utf8 c
whole prefix c other =
    ap encode_utf8_all (without_root-other prefix c other) ∙ encodes-append prefix (c ∷ [])
    ∙ ap (λ bs. encode_utf8_all prefix ++ bs) (append-nil (encode_utf8 c))

-- a full stop at the end is dropped before and after UTF-8
at_stop : (prefix : List ℕ) (c : ℕ) → c ≡ full_stop →
    without_root (encode_utf8_all prefix ++ c ∷ []) ≡ encode_utf8_all (without_root (prefix ++ c ∷ []))
at_stop prefix c e =
    ap (λ x. without_root (encode_utf8_all prefix ++ x ∷ [])) e ∙ without_root-stop (encode_utf8_all prefix)
    ∙ ap encode_utf8_all (sym (without_root-stop prefix) ∙ ap (λ x. without_root (prefix ++ x ∷ [])) (sym e))

-- UTF-8 and one full stop less at the end, of a text with a last code point
at_end : (prefix : List ℕ) (c : ℕ) →
    without_root (encode_utf8_all prefix ++ encode_utf8 c) ≡ encode_utf8_all (without_root (prefix ++ c ∷ []))
at_end prefix c =
    elim (encoded_cases c) [
      | inl (small, same) ↦ rw same (elim (cases_Bool (is_full_stop c)) [
        | inl stop ↦ at_stop prefix c (eqb-true c full_stop stop)
        | inr other ↦
            without_root-other (encode_utf8_all prefix) c other
            ∙ ap (λ bs. encode_utf8_all prefix ++ bs) (sym same) ∙ sym (whole prefix c other)
      ])
      | inr (high, is) ↦
          ap (λ bs. without_root (encode_utf8_all prefix ++ bs)) is.ends
          ∙ ap without_root (sym (append_assoc (encode_utf8_all prefix) is.prefix (is.last ∷ [])))
          ∙ without_root-other (encode_utf8_all prefix ++ is.prefix) is.last (not_stop is.last is.last_high)
          ∙ append_assoc (encode_utf8_all prefix) is.prefix (is.last ∷ [])
          ∙ ap (λ bs. encode_utf8_all prefix ++ bs) (sym is.ends)
          ∙ sym (whole prefix c (not_stop c high))
    ]

-- UTF-8 and one full stop less at the end
without_root-encoded : (text : List ℕ) → without_root (encode_utf8_all text) ≡ encode_utf8_all (without_root text)
without_root-encoded text =
    elim (from_end text) [
      | inl none ↦ rw none refl
      | inr (prefix, c, shown) ↦ rw (shown, encodes-append prefix (c ∷ []), append-nil (encode_utf8 c))
          (at_end prefix c)
    ]

-- UTF-8 and what is after the last full stop
after_last-encoded : (text : List ℕ) →
    after_last is_full_stop (encode_utf8_all text) ≡ encode_utf8_all (after_last is_full_stop text)
unfolding encode_utf8
after_last-encoded text =
    elim (at_last_stop text) [
      | inl none ↦
          after_last_none (encode_utf8_all text) (no_stop-encoded text none)
          ∙ ap encode_utf8_all (sym (after_last_none text none))
      | inr (prefix, label, shown, none) ↦
          ap (after_last is_full_stop) (ap encode_utf8_all shown ∙ encodes-append prefix (full_stop ∷ label))
          ∙ after_last_stop (encode_utf8_all prefix) (encode_utf8_all label) (no_stop-encoded label none)
          ∙ ap encode_utf8_all (sym (after_last_stop prefix label none) ∙ ap (after_last is_full_stop) (sym shown))
    ]

-- a code point beyond ASCII isn't a digit
not_digit : (c : ℕ) → 128 ≤ c → is_ascii_digit c ≡ false
not_digit c high = grind (arith, nat_tests)

-- a label of digits is one of its bytes
is_digits-encoded : (label : List ℕ) → is_digits (encode_utf8_all label) ≡ is_digits label
is_digits-encoded [] = refl
is_digits-encoded (c ∷ label) =
    ap (λ b. b && list_all is_ascii_digit (encode_utf8_all (c ∷ label))) (some c label)
    ∙ ap (λ b. nat_lt 0 (length (c ∷ label)) && b) (list_all-encoded is_ascii_digit not_digit (c ∷ label))
  where
    some : (c : ℕ) (label : List ℕ) → nat_lt 0 (length (encode_utf8_all (c ∷ label))) ≡ nat_lt 0 (length (c ∷ label))
    some c label =
        let more : 0 < length (encode_utf8_all (c ∷ label)) = omega (arith, length-le-encodes (c ∷ label)) in
        lt-ltb 0 _ more ∙ sym (lt-ltb 0 (length (c ∷ label)) (omega arith))

-- a label that begins with `0x` is one of its bytes
is_hexadecimal-encoded : (label : List ℕ) → is_hexadecimal (encode_utf8_all label) ≡ is_hexadecimal label
is_hexadecimal-encoded [] = refl
is_hexadecimal-encoded (c ∷ label) =
    elim (encoded_cases c) [
      | inl (small, same) ↦ rw same (second c label)
      | inr (high, is) ↦
          let one : (0x30 == is.first) ≡ false = ne_eqb 0x30 is.first (λ e. absurd (omega (arith, is.first_high))) in
          let other : (0x30 == c) ≡ false = ne_eqb 0x30 c (λ e. absurd (omega arith)) in
          rw (is.begins, one, other) refl
    ]
  where
    none : (b x y : Bool) → ((b && false) && x) ≡ ((b && false) && y)
    none true x y = refl
    none false x y = refl

    second : (c : ℕ) (label : List ℕ) → is_hexadecimal (c ∷ encode_utf8_all label) ≡ is_hexadecimal (c ∷ label)
    second c [] = refl
    second c (d ∷ label) =
        elim (encoded_cases d) [
          | inl (small, same) ↦ rw (same, list_all-encoded is_ascii_hexdigit beyond_no_hex label) refl
          | inr (high, is) ↦
              let one : (0x78 == is.first) ≡ false =
              ne_eqb 0x78 is.first (λ e. absurd (omega (arith, is.first_high))) in
              let other : (0x78 == d) ≡ false = ne_eqb 0x78 d (λ e. absurd (omega arith)) in
              rw (is.begins, one, other) (none (0x30 == c) _ _)
        ]

-- the last label of a text's bytes
last_label-encoded : (text : List ℕ) → last_label (encode_utf8_all text) ≡ encode_utf8_all (last_label text)
last_label-encoded text =
    ap (after_last is_full_stop) (without_root-encoded text) ∙ after_last-encoded (without_root text)

-- the two kinds of number, of two labels of which one is the bytes of the other
number-same : (a b : List ℕ) → a ≡ encode_utf8_all b →
    (is_digits a || is_hexadecimal a) ≡ (is_digits b || is_hexadecimal b)
number-same a b e = rw (e, is_digits-encoded b, is_hexadecimal-encoded b) refl

-- the number rule may be asked of the bytes
pub ends_in_number-encoded : (text : List ℕ) → ends_in_number (encode_utf8_all text) ≡ ends_in_number text
unfolding ends_in_number
ends_in_number-encoded text =
    number-same (last_label (encode_utf8_all text)) (last_label text) (last_label-encoded text)
