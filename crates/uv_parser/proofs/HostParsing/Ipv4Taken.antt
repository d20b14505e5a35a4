-- What the IPv4 parser takes is a text of one to four numbers of the value that it gives.
use Rattle.std.proofs.Common.{◌≡◌, ℕ, zero, suc, ◌≤◌, ◌==◌, List, [], ◌∷◌, ◌++◌, length, Option, Some, None, decimal}
use Rattle.std.proofs.Common.{refl, sym, ap, subst, ◌∙◌, eqb-true, arith}
use Rattle.std.specs.Prelude.{option_map}
use Rattle.std.proofs.lemmas.Option.{none-some, same_Some, option_and_then_some}
use Rattle.uv_model.specs.Ascii.{full_stop}
use Rattle.uv_model.specs.Hosts.Numbers.{AreBytes, AreNumbers, IsNumbersText, numbers_value}
use Rattle.uv_parser.specs.Ipv4Parser.{Ipv4ParserTakesNumbers, parse_ipv4, read_after, read_numbers}
use Rattle.uv_parser.specs.Ipv6Parser.{read_digits}
use Rattle.uv_parser.proofs.HostParsing.Ipv4ParserLemmas.{numbers_parsed}
use Rattle.uv_model.proofs.Hosts.NumberLemmas.{after_text, numbers_joined}
use Rattle.uv_parser.proofs.HostParsing.Ipv6ReadersTaken.{fails_where_false, number_taken}

-- a function of a value that may be absent
pub mapped : {A B : Type 0} → (f : A → B) (o : Option A) (y : B) → option_map f o ≡ Some y
    → (x : A) × (o ≡ Some x) × (f x ≡ y)
mapped f None y e = absurd (none-some y e)
mapped f (Some x) y e = (x, refl, same_Some (f x) y e)

-- numbers after the first, at most so many
record TakesAfter (left : ℕ) (text numbers : List ℕ) : Type 0 where
  few : length numbers ≤ left
  fit : AreBytes numbers
  spelled : text ≡ after_text numbers

-- after the last number the text is at its end
none_after : (left : ℕ) (numbers : List ℕ) → [] ≡ numbers → TakesAfter left [] numbers
none_after left numbers same =
    subst (λ (ns : List ℕ). TakesAfter left [] ns) same (record { few = omega arith; fit = tt; spelled = refl })

-- what is read after the first number
after_taken : (left : ℕ) (text numbers : List ℕ) → read_after left text ≡ Some numbers
    → TakesAfter left text numbers
unfolding read_after
after_taken zero [] numbers e = none_after zero numbers (same_Some [] numbers e)
after_taken (suc left) [] numbers e = none_after (suc left) numbers (same_Some [] numbers e)
after_taken zero (c ∷ text) numbers e = absurd (none-some numbers e)
after_taken (suc left) (c ∷ text) numbers e =
    let dot = fails_where_false (c == full_stop) e in
    option_and_then_some _ (read_digits None text) numbers dot.1
    (λ (n, rest) number further.
    let is = number_taken text n rest number in
    let (others, read, same) = mapped (λ (ns : List ℕ). n ∷ ns) (read_after left rest) numbers further in
    let later = after_taken left rest others read in
    let few : length (n ∷ others) ≤ suc left = let fewer = later.few in omega (arith, fewer) in
    subst (λ (ns : List ℕ). TakesAfter (suc left) (c ∷ text) ns) same
    (record {
      few = few;
      fit = (is.1, later.fit);
      spelled = ap (λ mark. mark ∷ text) (eqb-true c full_stop dot.0)
          ∙ ap (λ cs. full_stop ∷ cs) (is.0 ∙ ap (λ cs. decimal n ++ cs) later.spelled);
    }))

-- the numbers that are read are the text's
pub numbers_taken : (text numbers : List ℕ) → read_numbers text ≡ Some numbers → AreNumbers numbers text
unfolding read_numbers
numbers_taken text numbers e =
    option_and_then_some _ (read_digits None text) numbers e
    (λ (n, rest) number further.
    let is = number_taken text n rest number in
    let (others, read, same) = mapped (λ (ns : List ℕ). n ∷ ns) (read_after 3 rest) numbers further in
    let later = after_taken 3 rest others read in
    let few : length (n ∷ others) ≤ 4 = let fewer = later.few in omega (arith, fewer) in
    let some : 1 ≤ length (n ∷ others) = omega arith in
    subst (λ (ns : List ℕ). AreNumbers ns text) same
    (record {
      some = some;
      few = few;
      fit = (is.1, later.fit);
      spelled = is.0 ∙ (ap (λ cs. decimal n ++ cs) later.spelled ∙ sym (numbers_joined n others));
    }))

-- where the parser gives a value the text is one to four numbers of it
value_taken : (text : List ℕ) (value : ℕ) → parse_ipv4 text ≡ Some value → IsNumbersText text value
unfolding parse_ipv4
value_taken text value e =
    let (numbers, read, same) = mapped numbers_value (read_numbers text) value e in
    (numbers, numbers_taken text numbers read, sym same)

-- the parser gives a value only on one to four numbers, and exactly theirs
pub ipv4_takes_numbers : Ipv4ParserTakesNumbers
ipv4_takes_numbers text value = (value_taken text value, numbers_parsed text value)
