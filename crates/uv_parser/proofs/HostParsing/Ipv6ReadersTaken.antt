-- What the IPv6 parser's readers take: hex digits, shortest decimal numbers, and four of these between full stops.
use Rattle.std.proofs.Common.{◌≡◌, ℕ, zero, suc, ◌+◌, ◌*◌, ◌/◌, ◌%◌, ◌<◌, ◌≤◌, Bool, true, false, ◌||◌, ◌==◌, List, []}
use Rattle.std.proofs.Common.{◌∷◌, ◌++◌, length, Option, Some, None, codes, decimal, if◌then◌else◌, refl, sym, ap}
use Rattle.std.proofs.Common.{subst, ◌∙◌, inl, inr, append_assoc, append-nil, eqb-true, arith}
use Rattle.std.specs.Prelude.{nat_le}
use Rattle.std.specs.List.{list_all}
use Rattle.std.specs.Char.{digit_value, is_ascii_hexdigit, is_digit}
use Rattle.std.proofs.lemmas.Bool.{and_from, cases_Bool}
use Rattle.std.proofs.lemmas.Bool.Decides.{nat_tests}
use Rattle.std.proofs.lemmas.Fmt.{decimal_digit, decimal_step}
use Rattle.std.proofs.lemmas.Nat.{div-mul-add, div-add-mod'}
use Rattle.std.proofs.lemmas.Option.{none-some, same_Some, option_and_then_some}
use Rattle.uv_model.specs.Hosts.Address.{IsFourNumbers}
use Rattle.uv_model.specs.Ascii.{full_stop}
use Rattle.uv_parser.specs.Ipv6Parser.{add_number, after_dot, finished, read_digits, read_dotted, read_hex}

-- ---- tests that fail on one side

-- a test that fails when it holds
pub fails_where_true : {A : Type 0} {x : Option A} {r : A} (test : Bool) → (if test then None else x) ≡ Some r
    → (test ≡ false) × (x ≡ Some r)
fails_where_true {r} true e = absurd (none-some r e)
fails_where_true false e = (refl, e)

-- a test that fails when it doesn't hold
pub fails_where_false : {A : Type 0} {x : Option A} {r : A} (test : Bool) → (if test then x else None) ≡ Some r
    → (test ≡ true) × (x ≡ Some r)
fails_where_false true e = (refl, e)
fails_where_false {r} false e = absurd (none-some r e)

-- ---- hex digits

-- a digit of radix 16 is a hex digit
hex_digit : (c : ℕ) → is_digit c 16 ≡ true → is_ascii_hexdigit c ≡ true
hex_digit c is = grind (arith, nat_tests)

-- hex digits, at most so many, before the rest
pub record TakesHex (most : ℕ) (text rest : List ℕ) : Type 0 where
  pub digits : List ℕ
  pub split : text ≡ digits ++ rest
  pub hex : list_all is_ascii_hexdigit digits ≡ true
  pub few : length digits ≤ most

-- the reader of hex digits
pub hex_taken : (most value count : ℕ) (text : List ℕ) → TakesHex most text (read_hex most value count text).2
unfolding read_hex
hex_taken zero value count text = record { digits = []; split = refl; hex = refl; few = omega arith }
hex_taken (suc most) value count [] = record { digits = []; split = refl; hex = refl; few = omega arith }
hex_taken (suc most) value count (c ∷ text) = elim (cases_Bool (is_digit c 16)) [
  | inl is ↦
      let more = hex_taken most (value * 16 + digit_value c) (count + 1) text in
      rw is (record {
        digits = c ∷ more.digits;
        split = ap (λ cs. c ∷ cs) more.split;
        hex = and_from _ _ (hex_digit c is) more.hex;
        few = omega (arith, more.few);
      })
  | inr other ↦ rw other (record { digits = []; split = refl; hex = refl; few = omega arith })
]

-- ---- a decimal number

-- one digit more after a number other than 0
decimal_more : (m d : ℕ) → 0 < m → d < 10 → m * 10 + d < 256 → decimal (m * 10 + d) ≡ decimal m ++ (48 + d) ∷ []
decimal_more m d some digit small =
    let whole : (m * 10 + d) / 10 ≡ m = div-mul-add m 10 d digit in
    let left : (m * 10 + d) % 10 ≡ d = omega (arith, div-add-mod' (m * 10 + d) 10, ap (λ n. n * 10) whole) in
    rw (whole, left) at (decimal_step (m * 10 + d) (omega arith) (omega (arith, small)))

-- a decimal digit is 48 more than its value
digit_is : (c : ℕ) → is_digit c 10 ≡ true → (digit_value c < 10) × (48 + digit_value c ≡ c)
digit_is c is = (grind (arith, nat_tests), grind (arith, nat_tests))

-- The digits after a number that are taken into one of 255 at most, before the rest.
record TakesDigits (m : ℕ) (text : List ℕ) (n : ℕ) (rest : List ℕ) : Type 0 where
  digits : List ℕ
  split : text ≡ digits ++ rest
  shortest : decimal n ≡ decimal m ++ digits
  small : n < 256

-- no digit more
no_digit_taken : (m : ℕ) (text : List ℕ) (n : ℕ) (rest : List ℕ) → m < 256
    → finished (Some m) text ≡ Some (n, rest) → TakesDigits m text n rest
no_digit_taken m text n rest small e =
    let pair : (m, text) ≡ (n, rest) = same_Some _ _ e in
    let number : m ≡ n = ap (λ (r : ℕ × List ℕ). r.0) pair in
    let after : text ≡ rest = ap (λ (r : ℕ × List ℕ). r.1) pair in
    record {
      digits = [];
      split = after;
      shortest = ap (λ k. decimal k) (sym number) ∙ sym (append-nil (decimal m));
      small = subst (λ (k : ℕ). k < 256) number small;
    }

-- digits after a number
digits_taken : (m : ℕ) (text : List ℕ) (n : ℕ) (rest : List ℕ) → m < 256 → read_digits (Some m) text ≡ Some (n, rest)
    → TakesDigits m text n rest
unfolding read_digits
digits_taken m [] n rest small e = no_digit_taken m [] n rest small e
digits_taken m (c ∷ text) n rest small e = elim (cases_Bool (is_digit c 10)) [
  | inr other ↦ no_digit_taken m (c ∷ text) n rest small (rw other at e)
  | inl is ↦
      let read = rw is at e in
      elim (cases_Bool (m == 0)) [
        | inl none ↦ absurd (none-some (n, rest) (rw none at read))
        | inr some ↦ elim (cases_Bool (nat_le (m * 10 + digit_value c) 255)) [
          | inl fits ↦
              let small = below (m * 10 + digit_value c) fits in
              one_more is (positive m some) small
              (digits_taken (m * 10 + digit_value c) text n rest small (rw (some, fits) at read))
          | inr large ↦ absurd (none-some (n, rest) (rw (some, large) at read))
        ]
      ]
]
  where
    positive : (m : ℕ) → (m == 0) ≡ false → 0 < m
    positive m some = grind (arith, nat_tests)

    below : (k : ℕ) → nat_le k 255 ≡ true → k < 256
    below k fits = grind (arith, nat_tests)

    one_more : is_digit c 10 ≡ true → 0 < m → m * 10 + digit_value c < 256
        → TakesDigits (m * 10 + digit_value c) text n rest → TakesDigits m (c ∷ text) n rest
    one_more is some fits more =
        let digit = digit_is c is in
        let last : decimal (m * 10 + digit_value c) ≡ decimal m ++ c ∷ [] =
        decimal_more m (digit_value c) some digit.0 fits ∙ ap (λ d. decimal m ++ d ∷ []) digit.1 in
        record {
          digits = c ∷ more.digits;
          split = ap (λ cs. c ∷ cs) more.split;
          shortest = more.shortest
              ∙ (ap (λ ds. ds ++ more.digits) last ∙ append_assoc (decimal m) (c ∷ []) more.digits);
          small = more.small;
        }

-- a number below 256 in decimal, before the rest
pub number_taken : (text : List ℕ) (n : ℕ) (rest : List ℕ) → read_digits None text ≡ Some (n, rest)
    → (text ≡ decimal n ++ rest) × (n < 256)
unfolding read_digits
number_taken [] n rest e = absurd (none-some (n, rest) e)
number_taken (c ∷ text) n rest e = elim (cases_Bool (is_digit c 10)) [
  | inr other ↦ absurd (none-some (n, rest) (rw other at e))
  | inl is ↦
      let digit = digit_is c is in
      let more = digits_taken (digit_value c) text n rest (omega (arith, digit.0)) (rw is at e) in
      let first : decimal (digit_value c) ≡ c ∷ [] =
      decimal_digit (digit_value c) digit.0 ∙ ap (λ d. d ∷ []) digit.1 in
      let shown : decimal n ≡ c ∷ more.digits = more.shortest ∙ ap (λ ds. ds ++ more.digits) first in
      (ap (λ cs. c ∷ cs) more.split ∙ ap (λ ds. ds ++ rest) (sym shown), more.small)
]

-- ---- an IPv4 address

-- what is before a number
abbrev lead : ℕ → List ℕ
lead seen = if seen == 0 then [] else codes "."

-- one number of an address, and how the reader goes on after it
record TakesNumber (turns seen i : ℕ) (text : List ℕ) (r : List ℕ × ℕ) : Type 0 where
  number : ℕ
  rest : List ℕ
  split : text ≡ lead seen ++ (decimal number ++ rest)
  small : number < 256
  pieces : List ℕ
  further : read_dotted turns (seen + 1) pieces (if seen == 1 || seen == 3 then i + 1 else i) rest ≡ Some r

-- what is before a number is read
dot_taken : (seen c : ℕ) (text prefix : List ℕ) → after_dot seen c text ≡ Some prefix → c ∷ text ≡ lead seen ++ prefix
dot_taken seen c text prefix e = elim (cases_Bool (seen == 0)) [
  | inl first ↦ rw first (same_Some _ _ (rw first at e))
  | inr later ↦
      let dot = fails_where_false (c == full_stop) (rw later at e) in
      rw later (ap (λ cs. c ∷ cs) (same_Some _ _ dot.1) ∙ ap (λ d. d ∷ prefix) (eqb-true c full_stop dot.0))
]

-- a number is read where four aren't yet
turn_taken : (turns seen : ℕ) (pieces : List ℕ) (i : ℕ) (text : List ℕ) (r : List ℕ × ℕ) → (seen == 4) ≡ false
    → read_dotted (suc turns) seen pieces i text ≡ Some r → TakesNumber turns seen i text r
unfolding read_dotted
turn_taken turns seen pieces i [] r few e = absurd (none-some r (rw few at e))
turn_taken turns seen pieces i (c ∷ text) r few e =
    option_and_then_some _ (after_dot seen c text) r e
    (λ prefix begins read. option_and_then_some _ (read_digits None prefix) r read
    (λ (n, rest) number further.
    let is = number_taken prefix n rest number in
    record {
      number = n;
      rest = rest;
      split = dot_taken seen c text prefix begins ∙ ap (λ cs. lead seen ++ cs) is.0;
      small = is.1;
      pieces = add_number pieces i n;
      further = further;
    }))

-- after four numbers the text is at its end
four_taken : (pieces : List ℕ) (i : ℕ) (text : List ℕ) (r : List ℕ × ℕ) → read_dotted 0 4 pieces i text ≡ Some r
    → (text ≡ []) × (r.1 ≡ i)
unfolding read_dotted
four_taken pieces i [] r e = (refl, sym (ap (λ (s : List ℕ × ℕ). s.1) (same_Some _ _ e)))
four_taken pieces i (c ∷ text) r e = absurd (none-some r e)

-- four numbers, and two pieces more
pub record TakesFour (i : ℕ) (text : List ℕ) (r : List ℕ × ℕ) : Type 0 where
  pub a : ℕ
  pub b : ℕ
  pub c : ℕ
  pub d : ℕ
  pub numbers : IsFourNumbers a b c d text
  pub two_more : r.1 ≡ i + 2

-- four numbers, each but the first after a full stop, up to the end
pub four_spelled : (a b c d : ℕ) (text first second third fourth : List ℕ) → text ≡ decimal a ++ first
    → first ≡ codes "." ++ (decimal b ++ second) → second ≡ codes "." ++ (decimal c ++ third)
    → third ≡ codes "." ++ (decimal d ++ fourth) → fourth ≡ []
    → text ≡ decimal a ++ codes "." ++ decimal b ++ codes "." ++ decimal c ++ codes "." ++ decimal d
four_spelled a b c d text first second third fourth one two three four none =
    rw (one, two, three, four, none, append-nil (decimal d)) (sym (simp append_assoc))

-- the whole reader
pub dotted_taken : (pieces : List ℕ) (i : ℕ) (text : List ℕ) (r : List ℕ × ℕ)
    → read_dotted 4 0 pieces i text ≡ Some r → TakesFour i text r
dotted_taken pieces i text r e =
    let one = turn_taken 3 0 pieces i text r refl e in
    let two = turn_taken 2 1 one.pieces i one.rest r refl one.further in
    let three = turn_taken 1 2 two.pieces (i + 1) two.rest r refl two.further in
    let four = turn_taken 0 3 three.pieces (i + 1) three.rest r refl three.further in
    let last = four_taken four.pieces (i + 1 + 1) four.rest r four.further in
    record {
      a = one.number;
      b = two.number;
      c = three.number;
      d = four.number;
      numbers = record {
        fit = (one.small, two.small, three.small, four.small);
        spelled = four_spelled one.number two.number three.number four.number text one.rest two.rest three.rest
            four.rest one.split two.split three.split four.split last.0;
      };
      two_more = omega (arith, last.1);
    }
