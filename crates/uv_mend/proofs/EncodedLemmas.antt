-- The edits of a text and of its bytes: bytes beyond ASCII stay as they are.
use Rattle.std.proofs.Common.{◌≡◌, ◌∙◌, ℕ, ◌≤◌, false, List, [], ◌∷◌, ◌++◌, refl, sym, ap, subst, inl, inr}
use Rattle.std.proofs.Common.{append_assoc, arith, encode_utf8_all, le-ltb, lt-ltb}
use Rattle.std.specs.Char.{encode_utf8}
use Rattle.std.proofs.lemmas.Bool.{cases_Bool, cases_lt}
use Rattle.std.proofs.lemmas.Bool.Decides.{nat_tests}
use Rattle.std.proofs.lemmas.Str.{encode_ascii, encodes-append}
use Rattle.uv_model.proofs.Texts.AsciiLemmas.{AreBeyond, AreBeyond-encode}
use Rattle.uv_mend.specs.Stripped.{after_controls, before_controls, is_control_or_space, is_tab_or_newline}
use Rattle.uv_mend.specs.Stripped.{on_one_line}
use Rattle.uv_mend.proofs.StrippedLemmas.{before_controls-none, before_controls-one, before_controls-other, from_ends}

-- the bytes of a code point beyond ASCII: a first one, and others
pub record IsBeyond (bytes : List ℕ) : Type 0 where
  pub first : ℕ
  pub rest : List ℕ
  pub some : bytes ≡ first ∷ rest
  pub beyond : AreBeyond (first ∷ rest)

first_beyond : (c : ℕ) → 128 ≤ c → (first : ℕ) × (rest : List ℕ) × (encode_utf8 c ≡ first ∷ rest)
unfolding encode_utf8
first_beyond c high =
    elim (cases_lt c 2048) [
      | inl two ↦ rw (le-ltb c 128 high, lt-ltb c 2048 two) (_, _, refl)
      | inr more ↦ elim (cases_lt c 65536) [
        | inl three ↦ rw (le-ltb c 128 high, le-ltb c 2048 more, lt-ltb c 65536 three) (_, _, refl)
        | inr four ↦ rw (le-ltb c 128 high, le-ltb c 2048 more, le-ltb c 65536 four) (_, _, refl)
      ]
    ]

pub is_beyond : (c : ℕ) → 128 ≤ c → IsBeyond (encode_utf8 c)
is_beyond c high =
    let cut = first_beyond c high in
    record { first = cut.0; rest = cut.1; some = cut.2; beyond = subst AreBeyond cut.2 (AreBeyond-encode c high) }

-- ---- tabs, LF and CR

lines_beyond : (high rest : List ℕ) → AreBeyond high → on_one_line (high ++ rest) ≡ high ++ on_one_line rest
lines_beyond [] rest are = refl
lines_beyond (b ∷ high) rest are =
    let other : is_tab_or_newline b ≡ false = grind (arith, nat_tests, are.0) in
    rw other (ap (λ t. b ∷ t) (lines_beyond high rest are.1))

pub lines_encoded : (text : List ℕ) → on_one_line (encode_utf8_all text) ≡ encode_utf8_all (on_one_line text)
lines_encoded [] = refl
lines_encoded (c ∷ rest) = elim (cases_lt c 128) [
  | inl low ↦ rw (encode_ascii c low) (elim (cases_Bool (is_tab_or_newline c)) [
    | inl tab ↦ rw tab (lines_encoded rest)
    | inr other ↦ rw other (rw (encode_ascii c low) (ap (λ t. c ∷ t) (lines_encoded rest)))
  ])
  | inr high ↦
      let other : is_tab_or_newline c ≡ false = grind (arith, nat_tests, high) in
      rw other (lines_beyond (encode_utf8 c) (encode_utf8_all rest) (AreBeyond-encode c high)
      ∙ ap (λ t. encode_utf8 c ++ t) (lines_encoded rest))
]

-- ---- the start

controls_beyond : (bytes rest : List ℕ) → IsBeyond bytes → after_controls (bytes ++ rest) ≡ bytes ++ rest
controls_beyond bytes rest is =
    let shown : is_control_or_space is.first ≡ false = grind (arith, nat_tests, is.beyond.0) in
    rw is.some (rw shown refl)

pub start_encoded : (text : List ℕ) → after_controls (encode_utf8_all text) ≡ encode_utf8_all (after_controls text)
start_encoded [] = refl
start_encoded (c ∷ rest) = elim (cases_lt c 128) [
  | inl low ↦ rw (encode_ascii c low) (elim (cases_Bool (is_control_or_space c)) [
    | inl control ↦ rw control (start_encoded rest)
    | inr other ↦ rw other (rw (encode_ascii c low) refl)
  ])
  | inr high ↦
      let other : is_control_or_space c ≡ false = grind (arith, nat_tests, high) in
      rw other (controls_beyond (encode_utf8 c) (encode_utf8_all rest) (is_beyond c high))
]

-- ---- the end

end_beyond : (front high : List ℕ) (b : ℕ) → AreBeyond (b ∷ high)
    → before_controls (front ++ (b ∷ high)) ≡ front ++ (b ∷ high)
end_beyond front [] b are =
    let shown : is_control_or_space b ≡ false = grind (arith, nat_tests, are.0) in
    before_controls-other front b shown
end_beyond front (d ∷ high) b are =
    let joined = append_assoc front (b ∷ []) (d ∷ high) in
    ap before_controls (sym joined) ∙ end_beyond (front ++ b ∷ []) high d are.1 ∙ joined

end_one : (front : List ℕ) (c : ℕ) → before_controls (encode_utf8_all front) ≡ encode_utf8_all (before_controls front)
    → before_controls (encode_utf8_all (front ++ c ∷ [])) ≡ encode_utf8_all (before_controls (front ++ c ∷ []))
end_one front c known = elim (cases_lt c 128) [
  | inl low ↦
      let bytes : encode_utf8_all (front ++ c ∷ []) ≡ encode_utf8_all front ++ c ∷ [] =
      encodes-append front (c ∷ []) ∙ ap (λ t. encode_utf8_all front ++ (t ++ [])) (encode_ascii c low) in
      elim (cases_Bool (is_control_or_space c)) [
        | inl control ↦
            ap before_controls bytes ∙ before_controls-one (encode_utf8_all front) c control ∙ known
            ∙ ap encode_utf8_all (sym (before_controls-one front c control))
        | inr shown ↦
            ap before_controls bytes ∙ before_controls-other (encode_utf8_all front) c shown ∙ sym bytes
            ∙ ap encode_utf8_all (sym (before_controls-other front c shown))
      ]
  | inr high ↦
      let shown : is_control_or_space c ≡ false = grind (arith, nat_tests, high) in
      let beyond = is_beyond c high in
      let bytes : encode_utf8_all (front ++ c ∷ []) ≡ encode_utf8_all front ++ (beyond.first ∷ beyond.rest) =
      encodes-append front (c ∷ []) ∙ ap (λ t. encode_utf8_all front ++ t) (append_nil (encode_utf8 c) ∙ beyond.some) in
      ap before_controls bytes ∙ end_beyond (encode_utf8_all front) beyond.rest beyond.first beyond.beyond ∙ sym bytes
      ∙ ap encode_utf8_all (sym (before_controls-other front c shown))
]
  where
    append_nil : (l : List ℕ) → l ++ [] ≡ l
    append_nil [] = refl
    append_nil (x ∷ l) = ap (λ t. x ∷ t) (append_nil l)

pub end_encoded : (text : List ℕ) → before_controls (encode_utf8_all text) ≡ encode_utf8_all (before_controls text)
end_encoded text =
    from_ends (λ t. before_controls (encode_utf8_all t) ≡ encode_utf8_all (before_controls t))
    (before_controls-none ∙ ap encode_utf8_all (sym before_controls-none)) end_one text
