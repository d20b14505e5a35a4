-- The second parser reads the slashes that are written again as it reads the slash marks that was there.
use Rattle.std.proofs.Common.{◌≡◌, ◌∙◌, ℕ, ◌+◌, Bool, true, false, not, ◌&&◌, ◌||◌, ◌==◌, List, [], ◌∷◌, ◌++◌, refl}
use Rattle.std.proofs.Common.{sym, ap}
use Rattle.std.proofs.Common.{arith, inl, inr, drop, Option, Some, None, Ok, one-add}
use Rattle.std.specs.Prelude.{IfSome, if◌then◌else◌, is_some}
use Rattle.std.proofs.lemmas.Bool.{and_parts, cases_Bool, cond-false, cond-true, false≢true, not-true}
use Rattle.url.specs.declared.host.Host.TheVariants.{Domain}
use Rattle.url.specs.declared.scheme.SchemeType.{SchemeType}
use Rattle.url.specs.declared.scheme.SchemeType.TheVariants.{File, SpecialNotFile, NotSpecial}
use Rattle.url.specs.Ascii.{backslash, slash}
use Rattle.url.specs.Host.{parse_file_host}
use Rattle.url.specs.Parser.{Parsed, after_double_slash, after_file_double_slash, after_slashes, and_then, before_tail}
use Rattle.url.specs.Parser.{file_with_host, inherit, leading_slashes, parse_body, parse_file, parse_parts}
use Rattle.url.specs.Parser.{parse_relative, skip_slashes, with_path, with_tail}
use Rattle.url.specs.Parts.{Parts, kind_of}
use Rattle.url.specs.Path.{is_windows_drive_letter, parse_path}
use Rattle.url.specs.Scheme.{is_file, is_slash, is_special, scheme_type}
use Rattle.url.proofs.InputLemmas.{is_empty_nonempty}
use Rattle.uv_mend.specs.Readings.{class_of_kind}
use Rattle.uv_mend.specs.Slashes.{after_marks, is_slash_mark, new_slashes, renews_slashes, starts_with_two_marks}
use Rattle.uv_mend.proofs.CutReadLemmas.{renewed}
use Rattle.uv_mend.proofs.TurnedLemmas.{start_is}

-- ---- slash marks

skip_is : (bytes : List ℕ) → skip_slashes bytes ≡ after_marks bytes
skip_is [] = refl
skip_is (b ∷ rest) = elim (cases_Bool (is_slash_mark b)) [
  | inl mark ↦ rw (mark, one-add) (skip_is rest)
  | inr shown ↦ rw shown refl
]

marks_twice : (bytes : List ℕ) → after_marks (after_marks bytes) ≡ after_marks bytes
marks_twice [] = refl
marks_twice (b ∷ rest) = elim (cases_Bool (is_slash_mark b)) [
  | inl mark ↦ rw mark (marks_twice rest)
  | inr shown ↦ ap after_marks (cond-false _ _ _ shown)
]

new_skipped : (bytes : List ℕ) → skip_slashes (slash ∷ slash ∷ after_marks bytes) ≡ skip_slashes bytes
new_skipped bytes =
    skip_is (slash ∷ slash ∷ after_marks bytes) ∙ marks_twice bytes ∙ sym (skip_is bytes)

with_true : (x y : Bool) → (x || (y && true)) ≡ (x || y)
with_true true y = refl
with_true false true = refl
with_true false false = refl

mark_is : (kind : SchemeType) → is_special kind ≡ true → (b : ℕ) → is_slash kind b ≡ is_slash_mark b
mark_is kind special b =
    ap (λ (s : Bool). (b == slash) || ((b == backslash) && s)) special ∙ with_true (b == slash) (b == backslash)

-- ---- against a base

two_leading : (kind : SchemeType) → is_special kind ≡ true → (bytes : List ℕ) → starts_with_two_marks bytes ≡ true
    → leading_slashes kind bytes ≡ 2
unfolding leading_slashes
two_leading kind special [] two = absurd (false≢true two)
two_leading kind special (b ∷ []) two = absurd (false≢true two)
two_leading kind special (b ∷ d ∷ rest) two =
    let parts = and_parts (is_slash_mark b) (is_slash_mark d) two in
    cond-true _ _ _ (mark_is kind special b ∙ parts.0)
    ∙ ap (λ (n : ℕ). 1 + n) (cond-true _ _ _ (mark_is kind special d ∙ parts.1))

relative_two : (base : Parts) → is_special (kind_of base) ≡ true → (body : List ℕ)
    → starts_with_two_marks body ≡ true
    → parse_relative base body ≡ after_double_slash base.scheme (skip_slashes body)
unfolding parse_relative
relative_two base special body two =
    let kind = kind_of base in
    ap (λ (n : ℕ). if n == 2 then after_double_slash base.scheme (after_slashes kind body)
    else Ok (with_path (inherit base (n == 0)) (parse_path kind (inherit base (n == 0)).path (drop n body))))
    (two_leading kind special body two)
    ∙ ap (after_double_slash base.scheme) (cond-true _ _ _ special)

-- what follows two slashes, with the query and the fragment
abbrev after_two : List ℕ → List ℕ → Option (List ℕ) → Option (List ℕ) → Parsed Parts
after_two scheme body query fragment =
    and_then (after_double_slash scheme (skip_slashes body))
    (λ url. Ok (with_tail (before_tail url query fragment) query fragment))

parts_two : (scheme : List ℕ) → scheme_type scheme ≡ SpecialNotFile → (base : Parts) → base.scheme ≡ scheme
    → (body : List ℕ) (query fragment : Option (List ℕ)) → starts_with_two_marks body ≡ true
    → parse_parts scheme (Some base) body query fragment ≡ after_two base.scheme body query fragment
unfolding parse_parts parse_body
parts_two scheme kind base same [] query fragment two = absurd (false≢true two)
parts_two scheme kind base same (b ∷ []) query fragment two = absurd (false≢true two)
parts_two scheme kind base same (b ∷ d ∷ rest) query fragment two =
    cond-false _ _ _ (is_empty_nonempty (b ∷ d ∷ rest) (omega arith))
    ∙ ap (λ parsed. and_then parsed (λ url. Ok (with_tail (before_tail url query fragment) query fragment)))
    (cond-false _ _ _ (ap is_file kind)
    ∙ relative_two base (ap (λ s. is_special (scheme_type s)) same ∙ ap is_special kind) (b ∷ d ∷ rest) two)

parts_alone : (scheme : List ℕ) → scheme_type scheme ≡ SpecialNotFile
    → (body : List ℕ) (query fragment : Option (List ℕ))
    → parse_parts scheme None body query fragment ≡ after_two scheme body query fragment
unfolding parse_parts parse_body
parts_alone scheme kind body query fragment =
    ap (λ parsed. and_then parsed (λ url. Ok (with_tail (before_tail url query fragment) query fragment)))
    (cond-false _ _ _ (ap is_file kind) ∙ cond-true _ _ _ (ap is_special kind))

new_after_two : (scheme body : List ℕ) (query fragment : Option (List ℕ))
    → after_two scheme (slash ∷ slash ∷ after_marks body) query fragment ≡ after_two scheme body query fragment
new_after_two scheme body query fragment =
    ap (λ bytes. and_then (after_double_slash scheme bytes)
    (λ url. Ok (with_tail (before_tail url query fragment) query fragment))) (new_skipped body)

-- ---- files

abbrev file_path : List ℕ → Parsed Parts
file_path bytes = Ok (with_path (file_with_host (Domain [])) (parse_path File [] bytes))

file_new : (bytes : List ℕ) → parse_file None (slash ∷ slash ∷ slash ∷ bytes) ≡ file_path bytes
unfolding parse_file leading_slashes after_file_double_slash is_windows_drive_letter parse_file_host
file_new bytes =
    ap (λ path. Ok (with_path (file_with_host (Domain [])) path)) (start_is File refl [] (slash ∷ bytes))

file_old : (body : List ℕ) → starts_with_two_marks body ≡ false → parse_file None body ≡ file_path (after_marks body)
unfolding parse_file leading_slashes
file_old [] few = refl
file_old (b ∷ []) few = elim (cases_Bool (is_slash_mark b)) [
  | inl mark ↦ rw (mark_is File refl b, mark) refl
  | inr other ↦ rw (mark_is File refl b, other) refl
]
file_old (b ∷ d ∷ rest) few = elim (cases_Bool (is_slash_mark b)) [
  | inl mark ↦
      let other : is_slash_mark d ≡ false = ap (λ (x : Bool). x && is_slash_mark d) (sym mark) ∙ few in
      rw (mark_is File refl b, mark_is File refl d, mark, other) refl
  | inr other ↦ rw (mark_is File refl b, other) refl
]

file_alone : (scheme : List ℕ) → scheme_type scheme ≡ File → (body : List ℕ) (query fragment : Option (List ℕ))
    → parse_parts scheme None body query fragment
    ≡ and_then (parse_file None body) (λ url. Ok (with_tail (before_tail url query fragment) query fragment))
unfolding parse_parts parse_body
file_alone scheme kind body query fragment =
    ap (λ parsed. and_then parsed (λ url. Ok (with_tail (before_tail url query fragment) query fragment)))
    (cond-true _ _ _ (ap is_file kind))

-- ---- both

-- a text with the scheme of its base has two marks
abbrev pub IsKept : Bool → Option Parts → List ℕ → Type 0
IsKept has_scheme base body =
    (has_scheme ≡ true → is_some base ≡ true → starts_with_two_marks body ≡ true)
    × (has_scheme ≡ false → is_some base ≡ true)

-- a body with its slashes written again is read alike
pub renewed_read : (kind : SchemeType) → is_special kind ≡ true → (scheme : List ℕ) → scheme_type scheme ≡ kind
    → (has_scheme : Bool) (base : Option Parts) → IfSome base (λ b. b.scheme ≡ scheme)
    → (body : List ℕ) → IsKept has_scheme base body → (query fragment : Option (List ℕ))
    → parse_parts scheme base (renewed (class_of_kind kind) has_scheme body) query fragment
    ≡ parse_parts scheme base body query fragment
unfolding renews_slashes
renewed_read kind special scheme is has_scheme base same body kept query fragment =
    elim (cases_Bool (renews_slashes (class_of_kind kind) has_scheme body)) [
      | inl renews ↦
          ap (λ t. parse_parts scheme base t query fragment) (cond-true _ _ _ renews)
          ∙ new kind special is has_scheme base same kept renews
      | inr stays ↦ ap (λ t. parse_parts scheme base t query fragment) (cond-false _ _ _ stays)
    ]
  where
    two : (has_scheme : Bool) (base : Parts) → IsKept has_scheme (Some base) body
        → (has_scheme || starts_with_two_marks body) ≡ true → starts_with_two_marks body ≡ true
    two true base kept renews = kept.0 refl refl
    two false base kept renews = renews

    few : (has_scheme : Bool) → (has_scheme && not (starts_with_two_marks body)) ≡ true
        → (has_scheme ≡ true) × (starts_with_two_marks body ≡ false)
    few true renews = (refl, not-true _ renews)
    few false renews = absurd (false≢true renews)

    new : (kind : SchemeType) → is_special kind ≡ true → scheme_type scheme ≡ kind
        → (has_scheme : Bool) (base : Option Parts) → IfSome base (λ b. b.scheme ≡ scheme)
        → IsKept has_scheme base body → renews_slashes (class_of_kind kind) has_scheme body ≡ true
        → parse_parts scheme base (new_slashes (class_of_kind kind) ++ after_marks body) query fragment
        ≡ parse_parts scheme base body query fragment
    new SpecialNotFile special is has_scheme None same kept renews =
        parts_alone scheme is (slash ∷ slash ∷ after_marks body) query fragment
        ∙ new_after_two scheme body query fragment ∙ sym (parts_alone scheme is body query fragment)
    new SpecialNotFile special is has_scheme (Some base) same kept renews =
        parts_two scheme is base same (slash ∷ slash ∷ after_marks body) query fragment refl
        ∙ new_after_two base.scheme body query fragment
        ∙ sym (parts_two scheme is base same body query fragment (two has_scheme base kept renews))
    new File special is has_scheme None same kept renews =
        let few_marks = few has_scheme renews in
        file_alone scheme is (slash ∷ slash ∷ slash ∷ after_marks body) query fragment
        ∙ ap (λ parsed. and_then parsed (λ url. Ok (with_tail (before_tail url query fragment) query fragment)))
        (file_new (after_marks body) ∙ sym (file_old body few_marks.1))
        ∙ sym (file_alone scheme is body query fragment)
    new File special is has_scheme (Some base) same kept renews =
        let few_marks = few has_scheme renews in
        absurd (false≢true (sym few_marks.1 ∙ kept.0 few_marks.0 refl))
    new NotSpecial special is has_scheme base same kept renews = absurd (false≢true special)
