-- Paths of segments that a walk keeps: what is denoted is each of them percent-encoded.
use Rattle.std.proofs.Common.{◌≡◌, ◌≢◌, ℕ, Bool, true, false, not, List, [], ◌∷◌, ◌++◌, refl}
use Rattle.std.proofs.Common.{sym, ap, ◌∙◌, subst, inl, inr, append_assoc, append-nil, map}
use Rattle.std.proofs.Common.{◌==◌, ◌&&◌, ◌≤◌, codes, arith, eqb-true, lit<}
use Rattle.std.specs.Char.{to_ascii_lowercase}
use Rattle.std.specs.Str.{IsUtf8, bytes_eq, chars}
use Rattle.std.proofs.Math.Utf8.{encode, encodes}
use Rattle.std.specs.List.{list_all}
use Rattle.std.proofs.lemmas.Slice.Eq.{bytes_eq-Decides}
use Rattle.std.proofs.lemmas.Str.{IsUtf8-past_char, encode_ascii, encodes-chars}
use Rattle.std.proofs.lemmas.Bool.Decides.{nat_tests}
use Rattle.std.proofs.lemmas.Bool.{and_parts, and_from, cases_lt, false_from_ne_true, false≢true, not-true, or_parts}
use Rattle.uv_model.specs.declared.scheme.Class.{Class}
use Rattle.uv_model.specs.declared.scheme.Class.TheVariants.{File, Other, SpecialNotFile}
use Rattle.uv_model.specs.Ascii.{slash}
use Rattle.uv_model.specs.Encoding.{encoded}
use Rattle.uv_model.specs.Path.{is_double_dot, is_single_dot, starts_with_slash, walk, walk_one}
use Rattle.uv_model.specs.Records.Denote.{authority_path}
use Rattle.uv_model.specs.Records.Serialize.{serial_segments}
use Rattle.uv_model.specs.Scheme.{lowercase}
use Rattle.uv_model.proofs.Texts.EncodingLemmas.{encoded-append}
use Rattle.uv_grammar.proofs.TestLemmas.{starts_with_slash-chars}
use Rattle.uv_text.proofs.SplitsLemmas.{chars-ascii_first}
use Rattle.uv_resolve.specs.Kept.{begins_with_one_slash, has_no_dots, is_dot_mark, is_kept_segment}
use Rattle.uv_resolve.specs.Written.{IsSlashed}

-- each segment percent-encoded
abbrev pub encoded_each : List (List ℕ) → List (List ℕ)
encoded_each segments = map (encoded false) segments

-- ---- walks

-- a walk keeps a segment that isn't a dot segment
walk_one-encoded : (class : Class) (last : Bool) (path : List (List ℕ)) (segment : List ℕ)
    → is_kept_segment segment ≡ true → walk_one class last path segment ≡ path ++ (encoded false segment ∷ [])
walk_one-encoded class last path segment no_dots =
    let parts = or_parts (is_double_dot segment) (is_single_dot segment) (not-true _ no_dots) in
    let double : is_double_dot segment ≡ false = parts.0 in
    let single : is_single_dot segment ≡ false = parts.1 in
    rw (double, single) refl

-- and all of them
pub walk-encoded : (class : Class) (path segments : List (List ℕ)) → list_all is_kept_segment segments ≡ true
    → walk class path segments ≡ path ++ encoded_each segments
unfolding walk
walk-encoded class path [] no_dots = sym (append-nil path)
walk-encoded class path (segment ∷ []) no_dots =
    walk_one-encoded class true path segment (and_parts (is_kept_segment segment) true no_dots).0
walk-encoded class path (segment ∷ next ∷ rest) no_dots =
    let each = and_parts (is_kept_segment segment) (list_all is_kept_segment (next ∷ rest)) no_dots in
    ap (λ p. walk class p (next ∷ rest)) (walk_one-encoded class false path segment each.0)
    ∙ walk-encoded class (path ++ (encoded false segment ∷ [])) (next ∷ rest) each.1
    ∙ append_assoc path (encoded false segment ∷ []) (encoded_each (next ∷ rest))

-- the path after an authority
pub authority_path-encoded : (class : Class) (segments : List (List ℕ)) → segments ≢ []
    → list_all is_kept_segment segments ≡ true → authority_path class segments ≡ encoded_each segments
authority_path-encoded class [] some no_dots = absurd (some refl)
authority_path-encoded SpecialNotFile (segment ∷ rest) some no_dots =
    walk-encoded SpecialNotFile [] (segment ∷ rest) no_dots
authority_path-encoded File (segment ∷ rest) some no_dots = walk-encoded File [] (segment ∷ rest) no_dots
authority_path-encoded Other (segment ∷ rest) some no_dots = walk-encoded Other [] (segment ∷ rest) no_dots

-- ---- texts of paths

-- encoded segments are written as the encoding of what the segments are written as
pub serial_segments-encoded : (segments : List (List ℕ))
    → serial_segments (encoded_each segments) ≡ encoded false (serial_segments segments)
unfolding encoded
serial_segments-encoded [] = refl
serial_segments-encoded (segment ∷ rest) =
    ap (λ t. slash ∷ (encoded false segment ++ t)) (serial_segments-encoded rest)
    ∙ ap (λ t. slash ∷ t) (sym (encoded-append false segment (serial_segments rest)))

-- ---- paths in which no segment begins as a dot segment does

-- a code point that is neither `.` nor `%` is neither in lower case
lower_mark : (c : ℕ) → is_dot_mark c ≡ false → is_dot_mark (to_ascii_lowercase c) ≡ false
lower_mark c h = grind (h, arith, nat_tests)

-- a text that begins with another code point isn't a dot segment's word
other_word : (c m : ℕ) (rest word : List ℕ) → is_dot_mark c ≡ false → is_dot_mark m ≡ true
    → bytes_eq (c ∷ rest) (m ∷ word) ≡ false
other_word c m rest word other mark =
    false_from_ne_true (bytes_eq (c ∷ rest) (m ∷ word))
    (λ same. let lists : c ∷ rest ≡ m ∷ word = (bytes_eq-Decides (c ∷ rest) (m ∷ word)).0 same in
    let head : c ≡ m = cc in
    false≢true (sym other ∙ ap is_dot_mark head ∙ mark))

-- a segment that begins with another code point is kept
kept_segment : (c : ℕ) (rest : List ℕ) → is_dot_mark c ≡ false → is_kept_segment (c ∷ rest) ≡ true
unfolding is_double_dot is_single_dot
kept_segment c rest other =
    let lower = lower_mark c other in
    let low = lowercase rest in
    let x = to_ascii_lowercase c in
    rw (
      other_word x 46 low (codes ".") lower refl,
      other_word x 46 low (codes "%2e") lower refl,
      other_word x 37 low (codes "2e.") lower refl,
      other_word x 37 low (codes "2e%2e") lower refl,
      other_word x 46 low [] lower refl,
      other_word x 37 low (codes "2e") lower refl,
    ) refl

-- a text without dots at its start either is one without dots
no_dots-weaker : (text : List ℕ) → has_no_dots true text ≡ true → has_no_dots false text ≡ true
no_dots-weaker [] h = refl
no_dots-weaker (c ∷ rest) h = (and_parts (not (is_dot_mark c)) (has_no_dots (c == slash) rest) h).1

-- and so is what is after a prefix
no_dots-after : (begins : Bool) (prefix rest : List ℕ) → has_no_dots begins (prefix ++ rest) ≡ true
    → has_no_dots false rest ≡ true
no_dots-after false [] rest h = h
no_dots-after true [] rest h = no_dots-weaker rest h
no_dots-after begins (c ∷ prefix) rest h =
    no_dots-after (c == slash) prefix rest
    (and_parts (not (begins && is_dot_mark c)) (has_no_dots (c == slash) (prefix ++ rest)) h).1

-- a segment in such a text is kept
kept-first : (segment rest : List ℕ) → has_no_dots true (segment ++ rest) ≡ true → is_kept_segment segment ≡ true
unfolding is_double_dot is_single_dot
kept-first [] rest h = refl
kept-first (c ∷ segment) rest h =
    kept_segment c segment
    (not-true _ (and_parts (not (is_dot_mark c)) (has_no_dots (c == slash) (segment ++ rest)) h).0)

-- and so are all
pub kept-segments : (segments : List (List ℕ)) → has_no_dots false (serial_segments segments) ≡ true
    → list_all is_kept_segment segments ≡ true
kept-segments [] h = refl
kept-segments (segment ∷ rest) h =
    and_from _ _ (kept-first segment (serial_segments rest) h)
    (kept-segments rest (no_dots-after true segment (serial_segments rest) h))

-- ---- the bytes of a text

-- a code point beyond ASCII begins no dot segment, and isn't a `/`
beyond_mark : (c : ℕ) → 128 ≤ c → is_dot_mark c ≡ false
beyond_mark c h = grind (arith, nat_tests)

beyond_slash : (c : ℕ) → 128 ≤ c → (c == slash) ≡ false
beyond_slash c h = grind (arith, nat_tests)

-- so it is wherever a segment begins
no_mark : (begins mark : Bool) → mark ≡ false → not (begins && mark) ≡ true
no_mark false mark other = refl
no_mark true mark other = ap not other

-- if no segment begins so in the bytes of a text, none does in its code points
no_dots-encoded : (begins : Bool) (text : List ℕ) → has_no_dots begins (encodes text) ≡ true
    → has_no_dots begins text ≡ true
no_dots-encoded begins [] h = refl
no_dots-encoded begins (c ∷ rest) h =
    let later = λ (b : Bool). no_dots-encoded b rest in
    elim (cases_lt c 128) [
      | inl small ↦
          let one = subst (λ t. has_no_dots begins (t ++ encodes rest) ≡ true) (encode_ascii c small) h in
          let parts = and_parts (not (begins && is_dot_mark c)) (has_no_dots (c == slash) (encodes rest)) one in
          and_from _ _ parts.0 (later (c == slash) parts.1)
      | inr beyond ↦
          and_from _ _ (no_mark begins (is_dot_mark c) (beyond_mark c beyond))
          (subst (λ b. has_no_dots b rest ≡ true) (sym (beyond_slash c beyond))
          (later false (no_dots-after begins (encode c) (encodes rest) h)))
    ]

pub no_dots-chars : (begins : Bool) (bytes : List ℕ) → IsUtf8 bytes → has_no_dots begins bytes ≡ true
    → has_no_dots begins (chars bytes) ≡ true
no_dots-chars begins bytes utf8 no_dots =
    no_dots-encoded begins (chars bytes)
    (subst (λ t. has_no_dots begins t ≡ true) (sym (encodes-chars bytes utf8)) no_dots)

-- ---- paths that begin with one `/`

-- the bytes of a path tell whether it begins with one `/`, and whether no segment begins as a dot segment does
pub slashed_bytes : (bytes : List ℕ) → IsUtf8 bytes → begins_with_one_slash bytes ≡ true
    → has_no_dots false bytes ≡ true → IsSlashed (chars bytes)
slashed_bytes [] utf8 once no_dots = absurd cc
slashed_bytes (c ∷ rest) utf8 once no_dots =
    let parts = and_parts (c == slash) (not (starts_with_slash rest)) once in
    let first : c ≡ slash = eqb-true c slash parts.0 in
    let tail : IsUtf8 rest =
    IsUtf8-past_char (c ∷ rest) rest slash utf8
    (ap (λ x. x ∷ rest) first ∙ ap (λ (s : List ℕ). s ++ rest) (sym (encode_ascii slash (lit< tt)))) in
    record {
      rest = chars rest;
      begins = ap (λ x. chars (x ∷ rest)) first ∙ chars-ascii_first slash rest (lit< tt);
      once = starts_with_slash-chars rest tail ∙ not-true _ parts.1;
      no_dots = no_dots-chars false (c ∷ rest) utf8 no_dots;
    }
