-- The second parser reads a `\` of a special URL as a `/`.
use Rattle.std.proofs.Common.{◌≡◌, ◌∙◌, ℕ, ◌+◌, Bool, true, false, not, ◌&&◌, ◌||◌, ◌==◌, List, [], ◌∷◌, ◌++◌, refl}
use Rattle.std.proofs.Common.{sym, ap}
use Rattle.std.proofs.Common.{inl, inr, map, take, drop, Option, Some, None, Ok}
use Rattle.std.specs.Prelude.{IfSome, if◌then◌else◌, slice_index}
use Rattle.std.specs.List.{prefix_len}
use Rattle.std.specs.Option.{option_or}
use Rattle.std.proofs.lemmas.Bool.{cases_Bool, cond-false, cond-true, eqb-true, true≢false}
use Rattle.std.proofs.lemmas.List.{drop-map, length-map, take-map}
use Rattle.std.proofs.lemmas.List.Elements.{All-weaker}
use Rattle.url.specs.declared.host.Host.TheVariants.{Domain}
use Rattle.url.specs.declared.scheme.SchemeType.{SchemeType}
use Rattle.url.specs.declared.scheme.SchemeType.TheVariants.{File}
use Rattle.url.specs.Ascii.{backslash, slash}
use Rattle.url.specs.Head.{head_only}
use Rattle.url.specs.Host.{parse_file_host}
use Rattle.url.specs.Input.{is_empty}
use Rattle.url.specs.Parser.{after_double_slash, after_file_double_slash, after_slashes, and_then, before_tail}
use Rattle.url.specs.Parser.{file_start, file_with_host, inherit, inherit_file, leading_slashes, parse_all}
use Rattle.url.specs.Parser.{parse_authority, parse_body, parse_file, parse_not_file, parse_parts, parse_relative}
use Rattle.url.specs.Parser.{skip_slashes, with_path, with_tail}
use Rattle.url.specs.Parts.{Parts, kind_of}
use Rattle.url.specs.Path.{drive_letter_prefix, is_windows_drive_letter, parse_path, parse_path_start, parse_segments}
use Rattle.url.specs.Path.{push_segment, segment_len, shorten_path}
use Rattle.url.specs.Scheme.{is_file, is_slash, is_special, scheme_type}
use Rattle.url.proofs.InputLemmas.{map_fixed}
use Rattle.url.proofs.PathLemmas.{IsNoSlash, first_segment_whole}

-- `\` as `/`
abbrev pub turned : ℕ → ℕ
turned b = if b == backslash then slash else b

pub is_turned : (b : ℕ) → (b == backslash) ≡ true → turned b ≡ slash
is_turned b is = cond-true _ _ _ is

pub isnt_turned : (b : ℕ) → (b == backslash) ≡ false → turned b ≡ b
isnt_turned b isnt = cond-false _ _ _ isnt

-- a test that both marks pass, or neither, tells nothing of them
pub turned_test : (test : ℕ → Bool) → test slash ≡ test backslash → (b : ℕ) → test (turned b) ≡ test b
turned_test test same b = elim (cases_Bool (b == backslash)) [
  | inl is ↦ ap test (is_turned b is) ∙ same ∙ ap test (sym (eqb-true b backslash is))
  | inr other ↦ ap test (isnt_turned b other)
]

-- both are slashes of a special URL, or none is
turned_slash : (kind : SchemeType) → is_special kind ≡ true → (b : ℕ) → is_slash kind (turned b) ≡ is_slash kind b
turned_slash kind special b = elim (cases_Bool (b == backslash)) [
  | inl is ↦ ap (is_slash kind) (is_turned b is) ∙ sym (both b is)
  | inr isnt ↦ ap (is_slash kind) (isnt_turned b isnt)
]
  where
    both : (b : ℕ) → (b == backslash) ≡ true → is_slash kind b ≡ true
    both b is = rw (is, special) (last (b == slash))
      where
        last : (x : Bool) → (x || true) ≡ true
        last true = refl
        last false = refl

turned_other : (kind : SchemeType) → is_special kind ≡ true → (b : ℕ) → is_slash kind b ≡ false → turned b ≡ b
turned_other kind special b none = isnt_turned b (other (b == slash) (b == backslash) (rw special at none))
  where
    other : (x y : Bool) → (x || (y && true)) ≡ false → y ≡ false
    other false false is = refl
    other false true is = absurd (true≢false is)
    other true y is = absurd (true≢false is)

-- ---- paths

segments_turned : (kind : SchemeType) → is_special kind ≡ true → (path segment bytes : List ℕ)
    → parse_segments kind path segment (map turned bytes) ≡ parse_segments kind path segment bytes
unfolding parse_segments
segments_turned kind special path segment [] = refl
segments_turned kind special path segment (b ∷ rest) = elim (cases_Bool (is_slash kind b)) [
  | inl is ↦
      cond-true _ _ _ (turned_slash kind special b ∙ is)
      ∙ segments_turned kind special (push_segment kind path segment false) [] rest ∙ sym (cond-true _ _ _ is)
  | inr isnt ↦
      cond-false _ _ _ (turned_slash kind special b ∙ isnt)
      ∙ ap (λ c. parse_segments kind path (segment ++ c ∷ []) (map turned rest)) (turned_other kind special b isnt)
      ∙ segments_turned kind special path (segment ++ b ∷ []) rest ∙ sym (cond-false _ _ _ isnt)
]

path_turned : (kind : SchemeType) → is_special kind ≡ true → (path bytes : List ℕ)
    → parse_path kind path (map turned bytes) ≡ parse_path kind path bytes
path_turned kind special path bytes = segments_turned kind special path [] bytes

-- a slash at the start is left out
abbrev after_start : SchemeType → List ℕ → List ℕ → List ℕ
after_start kind path bytes =
    if is_slash kind (slice_index bytes 0) then parse_path kind path (drop 1 bytes) else parse_path kind path bytes

pub start_is : (kind : SchemeType) → is_special kind ≡ true → (path bytes : List ℕ)
    → parse_path_start kind path bytes ≡ after_start kind path bytes
unfolding parse_path_start
start_is kind special path bytes = cond-false _ _ _ (never (is_empty bytes) (is_special kind) special)
  where
    never : (x s : Bool) → s ≡ true → (x && not s) ≡ false
    never true true is = refl
    never true false is = absurd (true≢false (sym is))
    never false s is = refl

after_start_turned : (kind : SchemeType) → is_special kind ≡ true → (path bytes : List ℕ)
    → after_start kind path (map turned bytes) ≡ after_start kind path bytes
after_start_turned kind special path [] = refl
after_start_turned kind special path (b ∷ rest) = elim (cases_Bool (is_slash kind b)) [
  | inl is ↦
      cond-true _ _ _ (turned_slash kind special b ∙ is) ∙ path_turned kind special path rest
      ∙ sym (cond-true _ _ _ is)
  | inr isnt ↦
      cond-false _ _ _ (turned_slash kind special b ∙ isnt) ∙ path_turned kind special path (b ∷ rest)
      ∙ sym (cond-false _ _ _ isnt)
]

path_start_turned : (kind : SchemeType) → is_special kind ≡ true → (path bytes : List ℕ)
    → parse_path_start kind path (map turned bytes) ≡ parse_path_start kind path bytes
path_start_turned kind special path bytes =
    start_is kind special path (map turned bytes) ∙ after_start_turned kind special path bytes
    ∙ sym (start_is kind special path bytes)

-- ---- prefixes

prefix_turned : (test : ℕ → Bool) → ((b : ℕ) → test (turned b) ≡ test b) → (bytes : List ℕ)
    → prefix_len test (map turned bytes) ≡ prefix_len test bytes
prefix_turned test same [] = refl
prefix_turned test same (b ∷ rest) =
    ap (λ t. if t then 1 + prefix_len test (map turned rest) else 0) (same b)
    ∙ ap (λ n. if test b then 1 + n else 0) (prefix_turned test same rest)

slashes_turned : (kind : SchemeType) → is_special kind ≡ true → (bytes : List ℕ)
    → leading_slashes kind (map turned bytes) ≡ leading_slashes kind bytes
unfolding leading_slashes
slashes_turned kind special bytes =
    ap (prefix_len (is_slash kind)) (take-map turned 2 bytes)
    ∙ prefix_turned (is_slash kind) (turned_slash kind special) (take 2 bytes)

segment_turned : (kind : SchemeType) → is_special kind ≡ true → (bytes : List ℕ)
    → segment_len kind (map turned bytes) ≡ segment_len kind bytes
segment_turned kind special bytes =
    prefix_turned (λ b. not (is_slash kind b)) (λ b. ap not (turned_slash kind special b)) bytes

-- the first segment has none
first_turned : (kind : SchemeType) → is_special kind ≡ true → (bytes : List ℕ)
    → take (segment_len kind (map turned bytes)) (map turned bytes) ≡ take (segment_len kind bytes) bytes
first_turned kind special bytes =
    ap (λ n. take n (map turned bytes)) (segment_turned kind special bytes)
    ∙ take-map turned (segment_len kind bytes) bytes
    ∙ map_fixed turned (take (segment_len kind bytes) bytes)
    (All-weaker (IsNoSlash kind) (λ b. turned b ≡ b) (turned_other kind special) (take (segment_len kind bytes) bytes)
    (first_segment_whole kind bytes))

kind_turned : (kind : SchemeType) → is_special kind ≡ true → (bytes : List ℕ)
    → drop (segment_len kind (map turned bytes)) (map turned bytes) ≡ map turned (drop (segment_len kind bytes) bytes)
kind_turned kind special bytes =
    ap (λ n. drop n (map turned bytes)) (segment_turned kind special bytes)
    ∙ drop-map turned (segment_len kind bytes) bytes

marks_turned : (bytes : List ℕ) → skip_slashes (map turned bytes) ≡ map turned (skip_slashes bytes)
marks_turned bytes =
    let test = λ (b : ℕ). b == slash || b == backslash in
    ap (λ n. drop n (map turned bytes)) (prefix_turned test (turned_test test refl) bytes)
    ∙ drop-map turned (prefix_len test bytes) bytes

-- ---- bodies

after_turned : (scheme : List ℕ) → is_special (scheme_type scheme) ≡ true → (bytes : List ℕ)
    → after_double_slash scheme (map turned bytes) ≡ after_double_slash scheme bytes
unfolding after_double_slash
after_turned scheme special bytes =
    let kind = scheme_type scheme in
    ap (λ authority. and_then (parse_authority scheme authority)
    (λ head. Ok (with_path head
    (parse_path_start kind [] (drop (segment_len kind (map turned bytes)) (map turned bytes))))))
    (first_turned kind special bytes)
    ∙ ap (λ path. and_then (parse_authority scheme (take (segment_len kind bytes) bytes))
    (λ head. Ok (with_path head path)))
    (ap (parse_path_start kind []) (kind_turned kind special bytes)
    ∙ path_start_turned kind special [] (drop (segment_len kind bytes) bytes))

relative_turned : (base : Parts) → is_special (kind_of base) ≡ true → (body : List ℕ)
    → parse_relative base (map turned body) ≡ parse_relative base body
unfolding parse_relative
relative_turned base special body =
    let kind = kind_of base in
    let slashes = leading_slashes kind body in
    let start = inherit base (slashes == 0) in
    ap (λ n. if n == 2 then after_double_slash base.scheme (after_slashes kind (map turned body))
    else Ok (with_path (inherit base (n == 0))
    (parse_path kind (inherit base (n == 0)).path (drop n (map turned body)))))
    (slashes_turned kind special body)
    ∙ ap (λ parsed. if slashes == 2 then parsed
    else Ok (with_path start (parse_path kind start.path (drop slashes (map turned body)))))
    (after kind special ∙ sym (cond_special kind special body))
    ∙ ap (λ path. if slashes == 2 then after_double_slash base.scheme (after_slashes kind body)
    else Ok (with_path start path))
    (ap (parse_path kind start.path) (drop-map turned slashes body)
    ∙ path_turned kind special start.path (drop slashes body))
  where
    after : (kind : SchemeType) → is_special kind ≡ true
        → after_double_slash base.scheme (after_slashes kind (map turned body))
        ≡ after_double_slash base.scheme (skip_slashes body)
    after kind is =
        ap (after_double_slash base.scheme) (cond-true _ _ _ is ∙ marks_turned body)
        ∙ after_turned base.scheme special (skip_slashes body)

    cond_special : (kind : SchemeType) → is_special kind ≡ true → (body : List ℕ)
        → after_double_slash base.scheme (after_slashes kind body)
        ≡ after_double_slash base.scheme (skip_slashes body)
    cond_special kind is body = ap (after_double_slash base.scheme) (cond-true _ _ _ is)

file_host_turned : (bytes : List ℕ) → after_file_double_slash (map turned bytes) ≡ after_file_double_slash bytes
unfolding after_file_double_slash
file_host_turned bytes =
    let len = segment_len File bytes in
    ap (λ first. if is_windows_drive_letter first
    then Ok (with_path (file_with_host (Domain [])) (parse_path File [] (map turned bytes)))
    else and_then (parse_file_host first) (λ host. Ok (with_path (file_with_host host)
    (parse_path_start File [] (drop (segment_len File (map turned bytes)) (map turned bytes))))))
    (first_turned File refl bytes)
    ∙ ap (λ path. if is_windows_drive_letter (take len bytes)
    then Ok (with_path (file_with_host (Domain [])) path)
    else and_then (parse_file_host (take len bytes)) (λ host. Ok (with_path (file_with_host host)
    (parse_path_start File [] (drop (segment_len File (map turned bytes)) (map turned bytes))))))
    (path_turned File refl [] bytes)
    ∙ ap (λ path. if is_windows_drive_letter (take len bytes)
    then Ok (with_path (file_with_host (Domain [])) (parse_path File [] bytes))
    else and_then (parse_file_host (take len bytes)) (λ host. Ok (with_path (file_with_host host) path)))
    (ap (parse_path_start File []) (kind_turned File refl bytes)
    ∙ path_start_turned File refl [] (drop len bytes))

start_turned : (base : Option Parts) (relative : Bool) (path : List ℕ)
    → file_start base relative (map turned path) ≡ file_start base relative path
unfolding inherit_file
start_turned None relative path = refl
start_turned (Some base) relative path =
    ap (λ first. with_path (head_only base) (if is_windows_drive_letter first then []
    else (if relative then shorten_path File base.path else drive_letter_prefix base.path)))
    (first_turned File refl path)

file_turned : (base : Option Parts) (body : List ℕ) → parse_file base (map turned body) ≡ parse_file base body
unfolding parse_file
file_turned base body =
    let slashes = leading_slashes File body in
    let rest = drop slashes body in
    let start = file_start base (slashes == 0) rest in
    ap (λ n. if n == 2 then after_file_double_slash (drop n (map turned body))
    else Ok (with_path (file_start base (n == 0) (drop n (map turned body)))
    (parse_path File (file_start base (n == 0) (drop n (map turned body))).path (drop n (map turned body)))))
    (slashes_turned File refl body)
    ∙ ap (λ bytes. if slashes == 2 then after_file_double_slash bytes
    else Ok (with_path (file_start base (slashes == 0) bytes)
    (parse_path File (file_start base (slashes == 0) bytes).path bytes)))
    (drop-map turned slashes body)
    ∙ ap (λ parsed. if slashes == 2 then parsed
    else Ok (with_path (file_start base (slashes == 0) (map turned rest))
    (parse_path File (file_start base (slashes == 0) (map turned rest)).path (map turned rest))))
    (file_host_turned rest)
    ∙ ap (λ s. if slashes == 2 then after_file_double_slash rest
    else Ok (with_path s (parse_path File s.path (map turned rest))))
    (start_turned base (slashes == 0) rest)
    ∙ ap (λ path. if slashes == 2 then after_file_double_slash rest else Ok (with_path start path))
    (path_turned File refl start.path rest)

-- against a base of the same scheme, or none
pub body_turned : (scheme : List ℕ) → is_special (scheme_type scheme) ≡ true → (base : Option Parts)
    → IfSome base (λ b. b.scheme ≡ scheme) → (body : List ℕ)
    → parse_body scheme base (map turned body) ≡ parse_body scheme base body
unfolding parse_body
body_turned scheme special base same body =
    ap (λ parsed. if is_file (scheme_type scheme) then parsed else parse_not_file scheme base (map turned body))
    (file_turned base body)
    ∙ ap (λ parsed. if is_file (scheme_type scheme) then parse_file base body else parsed) (other base same)
  where
    other : (base : Option Parts) → IfSome base (λ b. b.scheme ≡ scheme)
        → parse_not_file scheme base (map turned body) ≡ parse_not_file scheme base body
    other None _ =
        cond-true _ _ _ special ∙ ap (after_double_slash scheme) (marks_turned body)
        ∙ after_turned scheme special (skip_slashes body) ∙ sym (cond-true _ _ _ special)
    other (Some b) same = relative_turned b (ap (λ s. is_special (scheme_type s)) same ∙ special) body

pub empty_turned : (body : List ℕ) → is_empty (map turned body) ≡ is_empty body
empty_turned body = ap (λ (n : ℕ). n == 0) (length-map body turned)

-- with the query and the fragment
pub parts_turned : (scheme : List ℕ) → is_special (scheme_type scheme) ≡ true → (base : Option Parts)
    → IfSome base (λ b. b.scheme ≡ scheme) → (body : List ℕ) (query fragment : Option (List ℕ))
    → parse_parts scheme base (map turned body) query fragment ≡ parse_parts scheme base body query fragment
unfolding parse_parts
parts_turned scheme special None same body query fragment =
    ap (λ parsed. and_then parsed (λ url. Ok (with_tail (before_tail url query fragment) query fragment)))
    (body_turned scheme special None same body)
parts_turned scheme special (Some base) same body query fragment =
    ap (λ empty. if empty then Ok (with_tail base (option_or query base.query) fragment)
    else parse_all scheme (Some base) (map turned body) query fragment) (empty_turned body)
    ∙ ap (λ parsed. if is_empty body then Ok (with_tail base (option_or query base.query) fragment)
    else and_then parsed (λ url. Ok (with_tail (before_tail url query fragment) query fragment)))
    (body_turned scheme special (Some base) same body)
