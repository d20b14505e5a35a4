-- A name whose last label ends with a letter that is in no number doesn't end in a number.
use Rattle.std.proofs.Common.{◌≡◌, ℕ, suc, ◌+◌, ◌-◌, ◌≤◌, Bool, true, false, not, ◌&&◌, ◌||◌, nat_eq, nat_lt, List, []}
use Rattle.std.proofs.Common.{◌∷◌, ◌++◌, length, take, drop, get_or, get_or-take, refl, sym, ap, ◌∙◌, inl, inr, arith}
use Rattle.std.proofs.Common.{take_all, length-append}
use Rattle.std.specs.Prelude.{slice_index}
use Rattle.std.specs.Char.{is_ascii_digit, is_ascii_hexdigit}
use Rattle.std.specs.List.{after_last, list_all, suffix_len}
use Rattle.std.proofs.Math.Seq.{take-suc}
use Rattle.std.proofs.lemmas.Bool.{cases_Bool}
use Rattle.std.proofs.lemmas.Bool.Decides.{nat_tests}
use Rattle.std.proofs.Math.Seq.{get_or-append_seam}
use Rattle.std.proofs.lemmas.List.{drop-append-le, length-take-le}
use Rattle.std.proofs.lemmas.List.Sums.{suffix_len-take_yes}
use Rattle.idna.specs.Labels.{is_full_stop}
use Rattle.uv_model.specs.Ascii.{full_stop}
use Rattle.uv_model.specs.Hosts.Domain.{ends_in_number, is_digits, is_hexadecimal, last_label, without_root}
use Rattle.uv_host.specs.PlainNames.{HasWordEnd, is_word_letter}

-- a test that the last code point doesn't pass
all_but_last : (p : ℕ → Bool) (prefix : List ℕ) (c : ℕ) → p c ≡ false → list_all p (prefix ++ c ∷ []) ≡ false
all_but_last p [] c fails = rw fails refl
all_but_last p (b ∷ prefix) c fails = rw (all_but_last p prefix c fails) (elim (cases_Bool (p b)) [
  | inl here ↦ rw here refl
  | inr other ↦ rw other refl
])

-- a label that ends with such a letter isn't a number
no_number : (prefix : List ℕ) (c : ℕ) → is_word_letter c ≡ true
    → (is_digits (prefix ++ c ∷ []) || is_hexadecimal (prefix ++ c ∷ [])) ≡ false
no_number prefix c word =
    let no_digit : is_ascii_digit c ≡ false = grind (arith, nat_tests, word) in
    rw (all_but_last is_ascii_digit prefix c no_digit) (digits (nat_lt 0 (length (prefix ++ c ∷ []))) (hex prefix))
  where
    digits : (some : Bool) → is_hexadecimal (prefix ++ c ∷ []) ≡ false
        → ((some && false) || is_hexadecimal (prefix ++ c ∷ [])) ≡ false
    digits true none = none
    digits false none = none

    and_false : (b : Bool) → (b && false) ≡ false
    and_false true = refl
    and_false false = refl

    hex : (prefix : List ℕ) → is_hexadecimal (prefix ++ c ∷ []) ≡ false
    hex [] = elim (cases_Bool (nat_eq 48 c)) [ inl is ↦ rw is refl | inr not ↦ rw not refl ]
    hex (a ∷ []) =
        let other : nat_eq 120 c ≡ false = grind (arith, nat_tests, word) in
        elim (cases_Bool (nat_eq 48 a)) [ inl is ↦ rw (is, other) refl | inr not ↦ rw not refl ]
    hex (a ∷ b ∷ prefix) =
        let no_hex : is_ascii_hexdigit c ≡ false = grind (arith, nat_tests, word) in
        rw (all_but_last is_ascii_hexdigit prefix c no_hex)
        (and_false _)

-- what is after the last full stop ends as the text does
last_ends : (prefix : List ℕ) (c : ℕ) → is_full_stop c ≡ false
    → (label : List ℕ) × (after_last is_full_stop (prefix ++ c ∷ []) ≡ label ++ c ∷ [])
last_ends prefix c other =
    let text = prefix ++ c ∷ [] in
    let long : length text ≡ length prefix + 1 = length-append prefix (c ∷ []) in
    let at : length text - 1 ≡ length prefix = omega arith in
    let last : not (is_full_stop (get_or text (length text - 1) 0)) ≡ true
    = rw at (rw (get_or-append_seam prefix c [] 0, other) refl) in
    let some = suffix_len-take_yes (λ b. not (is_full_stop b)) text (length text) 0 (omega arith) (omega arith) last in
    let whole : take (length text) text ≡ text = take_all (length text) text (omega arith) in
    let count : 1 ≤ suffix_len (λ b. not (is_full_stop b)) text
    = omega (arith, some, ap (suffix_len (λ b. not (is_full_stop b))) whole) in
    let k = length text - suffix_len (λ b. not (is_full_stop b)) text in
    (drop k prefix, drop-append-le k prefix (c ∷ []) (omega arith))

-- a name that ends so doesn't end in a number
word_name : (prefix : List ℕ) (c : ℕ) → is_word_letter c ≡ true → (name : List ℕ)
    → without_root name ≡ prefix ++ c ∷ [] → ends_in_number name ≡ false
unfolding ends_in_number
word_name prefix c word name root =
    let other : is_full_stop c ≡ false = grind (arith, nat_tests, word) in
    let label = last_ends prefix c other in
    let same : last_label name ≡ label.0 ++ c ∷ [] = ap (after_last is_full_stop) root ∙ label.1 in
    rw same (no_number label.0 c word)

-- its code points but the last, and the last
pub end_parts : (name : List ℕ) → 1 ≤ length name
    → name ≡ take (length name - 1) name ++ slice_index name (length name - 1) ∷ []
end_parts name some =
    let next : suc (length name - 1) ≡ length name = omega arith in
    sym (take_all (length name) name (omega arith)) ∙ ap (λ n. take n name) (sym next)
    ∙ take-suc name (length name - 1) 0 (omega arith)

-- neither with the root's full stop nor without it
no_number_name : (name : List ℕ) → HasWordEnd (without_root name) → ends_in_number name ≡ false
no_number_name name ends =
    let prefix = without_root name in
    word_name (take (length prefix - 1) prefix) (slice_index prefix (length prefix - 1)) ends.1 name
    (end_parts prefix ends.0)

-- such a letter at the end of a name
pub bare_word : (name : List ℕ) → 1 ≤ length name → is_word_letter (get_or name (length name - 1) 0) ≡ true
    → ends_in_number name ≡ false
bare_word name some word =
    let other : is_full_stop (get_or name (length name - 1) 0) ≡ false = grind (arith, nat_tests, word) in
    no_number_name name (rw other (some, word))

-- and before the root's full stop
pub root_word : (name : List ℕ) → 2 ≤ length name → get_or name (length name - 1) 0 ≡ full_stop
    → is_word_letter (get_or name (length name - 2) 0) ≡ true → ends_in_number name ≡ false
root_word name some stop word =
    let is : is_full_stop (get_or name (length name - 1) 0) ≡ true = rw stop refl in
    let long = length-take-le (length name - 1) name (omega arith) in
    let at : (length name - 1) - 1 ≡ length name - 2 = omega arith in
    let last : get_or (take (length name - 1) name) (length name - 2) 0 ≡ get_or name (length name - 2) 0
    = get_or-take (length name - 1) name (length name - 2) 0 (omega arith) in
    no_number_name name (rw is (omega (arith, long), rw (long, at, last) word))
