-- Prefixes of URL units: parts of them by runs of bytes and by code points beyond ASCII, and the cut after the whole.
use Rattle.std.proofs.Common.{◌≡◌, ◌≢◌, ℕ, Bool, get_or, zero, suc, ◌+◌, ◌-◌, ◌<◌, ◌≤◌, ◌==◌, ◌&&◌, ◌||◌, true, false}
use Rattle.std.proofs.Common.{List, []}
use Rattle.std.proofs.Common.{◌∷◌, ◌++◌, length, take, drop, refl, sym, ap, ◌∙◌, subst, inl, inr, arith, lit<, ne_eqb}
use Rattle.std.specs.Prelude.{nat_le, slice_range}
use Rattle.std.specs.Char.{is_ascii}
use Rattle.std.specs.List.{prefix_len}
use Rattle.std.specs.Str.{chars, IsUtf8, IsCharBoundary}
use Rattle.std.proofs.Math.Seq.{drop-append_seam, take-append_seam}
use Rattle.std.proofs.Math.Utf8.{encodes}
use Rattle.std.proofs.lemmas.Bool.{and_parts, cases_Bool, false≢true, or_parts}
use Rattle.std.proofs.lemmas.Bool.Decides.{nat_tests}
use Rattle.std.proofs.lemmas.List.{drop-drop, length-append, length-drop, take-append-drop}
use Rattle.std.proofs.lemmas.Str.{chars-append, chars-IsAscii, chars-nil, chars_from_encodes, encode_ascii}
use Rattle.std.proofs.lemmas.Str.{encodes-append, encodes-chars, IsCharBoundary-after_ascii, IsCharBoundary-at_seam}
use Rattle.std.proofs.lemmas.Str.{IsUtf8-drop, IsUtf8-from_ascii, IsUtf8-take}
use Rattle.std.proofs.lemmas.Str.Ascii.{IsAscii-cons}
use Rattle.uv_model.specs.Ascii.{percent_sign}
use Rattle.uv_model.specs.Units.{starts_with_two_hex}
use Rattle.uv_model.proofs.Texts.UnitsLemmas.{starts_with_two_hex-chars}
use Rattle.uv_text.specs.declared.units.UnitClass.{UnitClass}
use Rattle.uv_text.specs.declared.units.UnitClass.TheVariants.{Url, Path, OpaqueHost}
use Rattle.uv_text.specs.Tails.{EndsWith}
use Rattle.uv_text.specs.Splits.{PassesUnits, ascii_unit_length, begins_ascii_unit, begins_mark, begins_unit}
use Rattle.uv_text.specs.Splits.{class_has, starts_beyond_ascii, starts_in, starts_with_mark, unit_length}

-- ---- parts of a prefix

module _ (held : ℕ → Bool) where
  -- nothing is a part
  pub passes_nothing : (text : List ℕ) → PassesUnits held text text
  passes_nothing text = record { passed = 0; inside = omega arith; is_rest = refl; further = omega arith }

  -- a part and then another
  pub passes_on : (text after rest : List ℕ) → PassesUnits held text after → PassesUnits held after rest
      → PassesUnits held text rest
  passes_on text after rest a b =
      let left = ap length a.is_rest ∙ length-drop a.passed text in
      record {
        passed = a.passed + b.passed;
        inside = omega (arith, a.inside, b.inside, left);
        is_rest = b.is_rest ∙ ap (drop b.passed) a.is_rest ∙ drop-drop b.passed a.passed text;
        further = omega (arith, a.further, b.further);
      }

  -- a code point more
  passes_one : (c : ℕ) (text rest : List ℕ) → begins_unit held c text ≡ true → PassesUnits held text rest
      → PassesUnits held (c ∷ text) rest
  passes_one c text rest begins more = record {
    passed = suc more.passed;
    inside = omega (arith, more.inside);
    is_rest = more.is_rest;
    further = rw begins (omega (arith, more.further));
  }

  -- if no more of it comes, it ends
  pub unit_length-stop : (rest : List ℕ) → starts_in held rest ≡ false → starts_with_mark rest ≡ false
      → unit_length held rest ≡ 0
  unit_length-stop [] class mark = refl
  unit_length-stop (c ∷ rest) class mark = rw (class, mark) refl

  -- a part after which no more comes is the whole prefix
  pub passes_all : (text rest : List ℕ) → PassesUnits held text rest → starts_in held rest ≡ false
      → starts_with_mark rest ≡ false → rest ≡ drop (unit_length held text) text
  passes_all text rest part class mark =
      let none = unit_length-stop rest class mark in
      let whole : part.passed ≡ unit_length held text = omega (arith, part.further, none) in
      part.is_rest ∙ ap (λ n. drop n text) whole

  -- after a part is what follows the prefix of what is after it
  pub passes_prefix : (text after rest : List ℕ) → PassesUnits held text after
      → rest ≡ drop (unit_length held after) after → rest ≡ drop (unit_length held text) text
  passes_prefix text after rest part is =
      is
      ∙ ap (drop (unit_length held after)) part.is_rest
      ∙ drop-drop (unit_length held after) part.passed text
      ∙ ap (λ n. drop n text) (sym part.further)

  -- the prefix is a part of the text
  pub unit_length-le : (text : List ℕ) → unit_length held text ≤ length text
  unit_length-le [] = omega arith
  unit_length-le (c ∷ rest) =
      elim (cases_Bool (begins_unit held c rest)) [
        | inl begins ↦ rw begins (omega (arith, unit_length-le rest))
        | inr stops ↦ rw stops (omega arith)
      ]

  -- what begins a unit by itself does so with any class
  mark_begins : (c : ℕ) (rest : List ℕ) → begins_mark c rest ≡ true → begins_unit held c rest ≡ true
  mark_begins c rest mark =
      elim (cases_Bool (held c)) [
        | inl here ↦ rw here refl
        | inr other ↦ rw (other, mark) refl
      ]

  -- a code point of the class is in the prefix
  class_begins : (c : ℕ) (rest : List ℕ) → held c ≡ true → begins_unit held c rest ≡ true
  class_begins c rest here = rw here refl

-- ---- a run of bytes of the class and of percent-encoded bytes

-- the code points of a text that begins with an ASCII byte
pub chars-ascii_first : (c : ℕ) (ys : List ℕ) → c < 128 → chars (c ∷ ys) ≡ c ∷ chars ys
chars-ascii_first c ys small =
    let one = IsAscii-cons c [] small (λ i. lit< tt) in
    chars-append (c ∷ []) ys (IsUtf8-from_ascii (c ∷ []) one) ∙ ap (λ s. s ++ chars ys) (chars-IsAscii (c ∷ []) one)

-- a text whose first byte is ASCII and no `%` begins with no mark
pub no_mark : (bytes : List ℕ) → 1 ≤ length bytes → get_or bytes 0 0 < 128 → get_or bytes 0 0 ≢ percent_sign
    → starts_with_mark (chars bytes) ≡ false
no_mark [] some small other = absurd (omega (arith, some))
no_mark (b ∷ bytes) some small other =
    let no_percent : (b == percent_sign) ≡ false = ne_eqb b percent_sign other in
    let below : nat_le 128 b ≡ false = grind (arith, nat_tests, small) in
    rw (chars-ascii_first b bytes small, no_percent, below) refl

-- so many bytes pass, each a code point
pub record PassesBytes (held : ℕ → Bool) (bytes : List ℕ) (n : ℕ) : Type 0 where
  pub inside : n ≤ length bytes
  pub utf8 : IsUtf8 (drop n bytes)
  pub passes : PassesUnits held (chars bytes) (chars (drop n bytes))
  pub counted : length (chars bytes) ≡ n + length (chars (drop n bytes))

-- and the text goes on with no code point of the class
pub record PassesRun (held : ℕ → Bool) (bytes : List ℕ) (run : ℕ) : Type 0 where
  pub part : PassesBytes held bytes run
  pub stops : starts_in held (chars (drop run bytes)) ≡ false

module _ (held : ℕ → Bool) (ascii : (byte : ℕ) → held byte ≡ true → byte < 128) where
  -- a text whose first byte isn't in the class begins with no code point of it
  pub starts_in-chars : (bytes : List ℕ) → IsUtf8 bytes → starts_in held bytes ≡ false
      → starts_in held (chars bytes) ≡ false
  starts_in-chars [] u none = rw chars-nil refl
  starts_in-chars (b ∷ bytes) u none =
      elim (cases_Bool (starts_in held (chars (b ∷ bytes)))) [
        | inl here ↦ absurd (no_first (chars (b ∷ bytes)) (encodes-chars (b ∷ bytes) u) here)
        | inr other ↦ other
      ]
    where
      no_first : (text : List ℕ) → encodes text ≡ b ∷ bytes → starts_in held text ≡ true → ⊥
      no_first [] spelled here = false≢true here
      no_first (c ∷ rest) spelled here =
          let small = ascii c here in
          let first : encodes (c ∷ rest) ≡ c ∷ encodes rest = ap (λ s. s ++ encodes rest) (encode_ascii c small) in
          let same : c ≡ b = cc (first, spelled) in
          false≢true (sym none ∙ ap held (sym same) ∙ here)

  -- a byte that begins a unit is ASCII, and begins one among the code points
  begins_ascii : (b : ℕ) (bytes : List ℕ) → begins_ascii_unit held b bytes ≡ true
      → (b < 128) × (IsUtf8 bytes → begins_unit held b (chars bytes) ≡ true)
  begins_ascii b bytes begins =
      elim (cases_Bool (held b)) [
        | inl here ↦ (ascii b here, λ u. class_begins held b (chars bytes) here)
        | inr other ↦
            let both : ((b == percent_sign) && starts_with_two_hex bytes) ≡ true = rw other at begins in
            let parts = and_parts (b == percent_sign) (starts_with_two_hex bytes) both in
            let small : b < 128 = grind (arith, nat_tests, parts.0) in (
              small,
              λ u. mark_begins held b (chars bytes)
                  (rw parts.0 (sym (starts_with_two_hex-chars bytes u) ∙ parts.1)),
            )
      ]

  -- a part of the longest prefix of bytes that begin units
  pub bytes_pass : (bytes : List ℕ) (n : ℕ) → IsUtf8 bytes → n ≤ ascii_unit_length held bytes
      → PassesBytes held bytes n
  bytes_pass bytes zero u part = record {
    inside = omega arith;
    utf8 = u;
    passes = passes_nothing held (chars bytes);
    counted = omega arith;
  }
  bytes_pass [] (suc n) u part = absurd (omega (arith, part))
  bytes_pass (b ∷ bytes) (suc n) u part =
      elim (cases_Bool (begins_ascii_unit held b bytes)) [
        | inl begins ↦
            let first = begins_ascii b bytes begins in
            let tail : IsUtf8 bytes = IsUtf8-drop (b ∷ bytes) 1 u
            (IsCharBoundary-after_ascii (b ∷ bytes) 0 u (omega arith) first.0) in
            let less : suc n ≤ suc (ascii_unit_length held bytes) = rw begins at part in
            let more = bytes_pass bytes n tail (omega (arith, less)) in
            record {
              inside = omega (arith, more.inside);
              utf8 = more.utf8;
              passes = rw (chars-ascii_first b bytes first.0)
                  (passes_one held b (chars bytes) (chars (drop n bytes)) (first.1 tail) more.passes);
              counted = rw (chars-ascii_first b bytes first.0) (omega (arith, more.counted));
            }
        | inr stops ↦
            let none : suc n ≤ 0 = rw stops at part in
            absurd (omega (arith, none))
      ]

  -- bytes of the class are such a part
  prefix_len-part : (bytes : List ℕ) → prefix_len held bytes ≤ ascii_unit_length held bytes
  prefix_len-part [] = omega arith
  prefix_len-part (b ∷ bytes) =
      elim (cases_Bool (held b)) [
        | inl here ↦ rw here (omega (arith, prefix_len-part bytes))
        | inr other ↦ rw other (omega arith)
      ]

  -- after the longest run of them comes none
  prefix_len-stops : (bytes : List ℕ) → starts_in held (drop (prefix_len held bytes) bytes) ≡ false
  prefix_len-stops [] = refl
  prefix_len-stops (b ∷ bytes) =
      elim (cases_Bool (held b)) [
        | inl here ↦
            let step : 1 + prefix_len held bytes ≡ suc (prefix_len held bytes) = omega arith in
            rw (here, step) (prefix_len-stops bytes)
        | inr other ↦ rw other other
      ]

  -- and so it is after the longest run of bytes that begin units
  ascii_unit_length-stops : (bytes : List ℕ) → starts_in held (drop (ascii_unit_length held bytes) bytes) ≡ false
  ascii_unit_length-stops [] = refl
  ascii_unit_length-stops (b ∷ bytes) =
      elim (cases_Bool (begins_ascii_unit held b bytes)) [
        | inl begins ↦ rw begins (ascii_unit_length-stops bytes)
        | inr stops ↦ rw stops (or_parts (held b) _ stops).0
      ]

  -- the longest prefix of the class passes as units
  pub run_passes : (bytes : List ℕ) (run : ℕ) → IsUtf8 bytes → run ≡ prefix_len held bytes
      → PassesRun held bytes run
  run_passes bytes run u is =
      let part = bytes_pass bytes run u (omega (arith, is, prefix_len-part bytes)) in
      let none = prefix_len-stops bytes in
      let stops = rw (← is) at none in
      record { part = part; stops = starts_in-chars (drop run bytes) part.utf8 stops }

  -- and so does the longest prefix of the class and of percent-encoded bytes
  pub units_pass : (bytes : List ℕ) (run : ℕ) → IsUtf8 bytes → run ≡ ascii_unit_length held bytes
      → PassesRun held bytes run
  units_pass bytes run u is =
      let part = bytes_pass bytes run u (omega (arith, is)) in
      let none = ascii_unit_length-stops bytes in
      let stops = rw (← is) at none in
      record { part = part; stops = starts_in-chars (drop run bytes) part.utf8 stops }

-- ---- a text that goes on with no unit

-- `%` at the start of a text that begins with no unit begins no percent-encoded byte
pub no_escape : (held : ℕ → Bool) (bytes : List ℕ) → IsUtf8 bytes → starts_in (λ b. b == percent_sign) bytes ≡ true
    → ascii_unit_length held bytes ≡ 0 → starts_with_mark (chars bytes) ≡ false
no_escape held [] u percent none = absurd (false≢true percent)
no_escape held (b ∷ bytes) u percent none =
    let small : b < 128 = grind (arith, nat_tests, percent) in
    let tail : IsUtf8 bytes = IsUtf8-drop (b ∷ bytes) 1 u
    (IsCharBoundary-after_ascii (b ∷ bytes) 0 u (omega arith) small) in
    elim (cases_Bool (begins_ascii_unit held b bytes)) [
      | inl begins ↦
          let one : suc (ascii_unit_length held bytes) ≡ 0 = rw begins at none in
          absurd (omega (arith, one))
      | inr stops ↦
          let neither : (held b || starts_with_two_hex bytes) ≡ false = rw percent at stops in
          let no_digits = (or_parts (held b) (starts_with_two_hex bytes) neither).1 in
          rw (chars-ascii_first b bytes small, percent) (sym (starts_with_two_hex-chars bytes tail) ∙ no_digits)
    ]

-- a text begins with no mark where it begins neither with `%` nor with a URL code point beyond ASCII
pub no_other_mark : (bytes : List ℕ) → IsUtf8 bytes → starts_in (λ b. b == percent_sign) bytes ≡ false
    → starts_beyond_ascii (chars bytes) ≡ false → starts_with_mark (chars bytes) ≡ false
no_other_mark bytes u percent beyond =
    neither (chars bytes) (starts_in-chars (λ b. b == percent_sign) small bytes u percent) beyond
  where
    small : (b : ℕ) → (b == percent_sign) ≡ true → b < 128
    small b is = grind (arith, nat_tests, is)

    neither : (text : List ℕ) → starts_in (λ c. c == percent_sign) text ≡ false → starts_beyond_ascii text ≡ false
        → starts_with_mark text ≡ false
    neither [] percent beyond = refl
    neither (c ∷ rest) percent beyond = rw percent beyond

-- ---- the cut

-- a slice from the start
pub prefix_slice : (bytes : List ℕ) (n : ℕ) → slice_range bytes 0 n ≡ take n bytes
prefix_slice bytes n = ap (λ k. take k bytes) (omega arith)

-- the slices after and before the cut
pub record IsByteSplit (bytes rest : List ℕ) (n : ℕ) : Type 0 where
  pub inside : length rest ≤ length bytes
  pub boundary : IsCharBoundary bytes (length bytes - length rest)
  pub prefix : chars (take (length bytes - length rest) bytes) ≡ take n (chars bytes)
  pub ends : EndsWith bytes rest

-- code points left over are bytes left over
pub split_bytes : (bytes rest : List ℕ) (n : ℕ) → IsUtf8 bytes → IsUtf8 rest → chars rest ≡ drop n (chars bytes)
    → IsByteSplit bytes rest n
split_bytes bytes rest n u v is =
    let prefix = encodes (take n (chars bytes)) in
    let spelled : bytes ≡ prefix ++ rest =
    sym (encodes-chars bytes u)
    ∙ ap encodes (sym (take-append-drop n (chars bytes)))
    ∙ encodes-append (take n (chars bytes)) (drop n (chars bytes))
    ∙ ap (λ s. prefix ++ encodes s) (sym is)
    ∙ ap (λ s. prefix ++ s) (encodes-chars rest v) in
    let long : length bytes ≡ length prefix + length rest = ap length spelled ∙ length-append prefix rest in
    let end : length bytes - length rest ≡ length prefix = omega (arith, long) in
    let seam : IsCharBoundary bytes (length prefix) = IsCharBoundary-at_seam bytes prefix rest spelled v in
    let cut : take (length prefix) bytes ≡ prefix = ap (take (length prefix)) spelled ∙ take-append_seam prefix rest in
    let text : IsUtf8 prefix = subst IsUtf8 cut (IsUtf8-take bytes (length prefix) u seam) in
    record {
      inside = omega (arith, long);
      boundary = subst (IsCharBoundary bytes) (sym end) seam;
      prefix =
          ap (λ k. chars (take k bytes)) end ∙ ap chars cut
          ∙ sym (chars_from_encodes (take n (chars bytes)) prefix text refl);
      ends = record {
        shorter = omega (arith, long);
        is_rest = ap (λ k. drop k bytes) end ∙ ap (drop (length prefix)) spelled ∙ drop-append_seam prefix rest;
      };
    }

-- what is before them is the prefix
pub prefix_before : (bytes prefix rest : List ℕ) (n : ℕ) → IsUtf8 bytes → IsUtf8 rest → prefix ++ rest ≡ bytes
    → chars rest ≡ drop n (chars bytes) → chars prefix ≡ take n (chars bytes)
prefix_before bytes prefix rest n u v joined is =
    let long : length prefix ≡ length bytes - length rest =
    omega (arith, ap length joined, length-append prefix rest) in
    let same : prefix ≡ take (length bytes - length rest) bytes =
    sym (take-append_seam prefix rest) ∙ ap (take (length prefix)) joined ∙ ap (λ k. take k bytes) long in
    ap chars same ∙ (split_bytes bytes rest n u v is).prefix

-- ---- classes of units

-- a class of units has only ASCII code points
pub class_ascii : (class : UnitClass) (c : ℕ) → class_has class c ≡ true → c < 128
class_ascii Url c here = grind (arith, nat_tests, (and_parts (is_ascii c) _ here).0)
class_ascii Path c here = grind (arith, nat_tests, (and_parts (is_ascii c) _ here).0)
class_ascii OpaqueHost c here = grind (arith, nat_tests, (and_parts (is_ascii c) _ here).0)
