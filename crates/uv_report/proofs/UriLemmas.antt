-- The set that the code hands to the library has the bytes that a path can't hold as they are.
use Rattle.std.proofs.Common.{◌≡◌, ℕ, ◌<◌, ◌≤◌, Bool, true, false, not, List, [], ◌∷◌, ◌++◌}
use Rattle.std.proofs.Common.{All, refl, ap, inl, inr, arith, lt-ltb, le-ltb, ne_eqb}
use Rattle.std.specs.Prelude.{if◌then◌else◌, ◌≢◌, Option, Some, None, MatchOption, option_map}
use Rattle.std.specs.Borrow.{Bor}
use Rattle.std.proofs.lemmas.Bool.{agree_below_at, cases_lt, cases_eq}
use Rattle.std.proofs.lemmas.Bool.Decides.{nat_tests}
use Rattle.std.proofs.lemmas.List.Elements.{All-head, All-tail}
use Rattle.percent_encoding.specs.AsciiSet.{contains, should_percent_encode}
use Rattle.percent_encoding.specs.Percent.{percent_encode_byte, encode_byte, percent_encode}
use Rattle.uv_report.specs.declared.formats.uri.TheConstants.{ESCAPED}
use Rattle.uv_report.specs.Formats.Uri.{after_slash, stays, uri_byte, uri_part}

-- below 128 the set holds just the bytes that don't stay
escaped-ascii : (b : ℕ) → b < 128 → contains ESCAPED b ≡ not (stays b)
escaped-ascii b small = agree_below_at (contains ESCAPED) (λ c. not (stays c)) 128 b refl small

-- no byte beyond ASCII stays
beyond_stays : (b : ℕ) → 128 ≤ b → stays b ≡ false
beyond_stays b high = grind (arith, nat_tests)

-- a choice between two texts by the opposite of a test
opposite : (test : Bool) (one other : List ℕ) → (if not test then one else other) ≡ (if test then other else one)
opposite true one other = refl
opposite false one other = refl

-- the library writes what stands for a byte
encode_byte-uri : (b : ℕ) → encode_byte ESCAPED b ≡ uri_byte b
unfolding should_percent_encode
encode_byte-uri b =
    elim (cases_lt b 128) [
      | inl small ↦
          rw (lt-ltb b 128 small, escaped-ascii b small) (opposite (stays b) (percent_encode_byte b) (b ∷ []))
      | inr high ↦ rw (le-ltb b 128 high, beyond_stays b high) refl
    ]

-- and what stands for a name
pub percent_encode-uri : (name : List ℕ) → percent_encode ESCAPED name ≡ uri_part name
unfolding percent_encode uri_part
percent_encode-uri [] = refl
percent_encode-uri (b ∷ name) =
    rw (encode_byte-uri b) (ap (λ rest. uri_byte b ++ rest) (percent_encode-uri name))

-- a name of which each byte stays
pub part_stays : (name : List ℕ) → All (λ b. stays b ≡ true) name → uri_part name ≡ name
unfolding uri_part
part_stays [] all = refl
part_stays (b ∷ name) all =
    let here : stays b ≡ true = All-head (λ c. stays c ≡ true) b name all in
    let rest = part_stays name (All-tail (λ c. stays c ≡ true) b name all) in
    rw here (ap (λ t. b ∷ t) rest)

-- what follows a `/`, by what the library's search says
pub after_slash-is : (name : List ℕ) (result : Option (Bor (List ℕ)))
    → MatchOption result ((rest : List ℕ) → name ≢ 0x2F ∷ rest) (λ r. name ≡ 0x2F ∷ r.now)
    → option_map (λ r. r.now) result ≡ after_slash name
after_slash-is name (Some r) is = rw is refl
after_slash-is [] None is = refl
after_slash-is (b ∷ name) None is =
    elim (cases_eq b 0x2F) [
      | inl same ↦ absurd (is name (ap (λ c. c ∷ name) same))
      | inr other ↦ rw (ne_eqb b 0x2F other) refl
    ]
