-- Texts that a URL keeps as they are.
use Rattle.std.proofs.Common.{◌≡◌, ℕ, Bool, true, false, not, ◌==◌, List, [], ◌∷◌, ◌++◌, Option, refl, sym, ap, ◌∙◌}
use Rattle.std.proofs.Common.{subst, arith, drop, suc, take, zero, ◌&&◌, ◌<◌}
use Rattle.std.specs.List.{list_all}
use Rattle.std.specs.Char.{is_ascii}
use Rattle.std.specs.Str.{IsAscii, IsUtf8, chars}
use Rattle.std.proofs.lemmas.Str.{chars-IsAscii, encodes-chars, encodes-IsAscii}
use Rattle.std.proofs.lemmas.Bool.{and_from, and_parts}
use Rattle.std.proofs.lemmas.List.Folds.{list_all-append}
use Rattle.uv_model.specs.declared.profile.Profile.{Profile}
use Rattle.uv_model.specs.Ascii.{apostrophe, slash}
use Rattle.uv_model.specs.Encoding.{encoded}
use Rattle.uv_model.specs.Parts.{Parts}
use Rattle.uv_model.specs.Records.Url.{Url}
use Rattle.uv_model.specs.Valid.{Valid}
use Rattle.uv_model.proofs.Texts.AsciiLemmas.{IsAscii-from_test}
use Rattle.uv_model.proofs.Texts.EncodingLemmas.{is_kept, encoded_code_point-kept}
use Rattle.uv_resolve.specs.Kept.{has_no_dots, is_dot_mark, is_never_encoded}

-- ---- texts that no part encodes

-- a code point that no part encodes is in each encoded text
kept : (quote : Bool) (c : ℕ) → is_never_encoded c ≡ true → is_kept quote c ≡ true
kept false c h = and_from _ _ (and_parts (is_ascii c) (not (c == apostrophe)) h).0 refl
kept true c h = h

-- a text that no part encodes is ASCII
pub never_encoded-ascii : (text : List ℕ) → list_all is_never_encoded text ≡ true → list_all is_ascii text ≡ true
never_encoded-ascii [] h = refl
never_encoded-ascii (c ∷ rest) h =
    let parts = and_parts (is_never_encoded c) (list_all is_never_encoded rest) h in
    and_from _ _ (and_parts (is_ascii c) (not (c == apostrophe)) parts.0).0 (never_encoded-ascii rest parts.1)

-- a text of such code points is its own encoded text
pub encoded-kept : (quote : Bool) (text : List ℕ) → list_all is_never_encoded text ≡ true → encoded quote text ≡ text
unfolding encoded
encoded-kept quote [] h = refl
encoded-kept quote (c ∷ rest) h =
    let parts = and_parts (is_never_encoded c) (list_all is_never_encoded rest) h in
    ap (λ t. t ++ encoded quote rest) (encoded_code_point-kept quote c (kept quote c parts.0))
    ∙ ap (λ t. c ∷ t) (encoded-kept quote rest parts.1)

-- two texts of such code points
pub both : (xs ys : List ℕ) → list_all is_never_encoded (xs ++ ys) ≡ true
    → (list_all is_never_encoded xs ≡ true) × (list_all is_never_encoded ys ≡ true)
both xs ys h =
    and_parts (list_all is_never_encoded xs) (list_all is_never_encoded ys)
    (sym (list_all-append is_never_encoded xs ys) ∙ h)

-- what is after the first of them
pub after : (c : ℕ) (rest : List ℕ) → list_all is_never_encoded (c ∷ rest) ≡ true
    → list_all is_never_encoded rest ≡ true
after c rest h = (and_parts (is_never_encoded c) (list_all is_never_encoded rest) h).1

-- ---- what the code sees

-- a text that no part encodes has the code points of its bytes
pub never_encoded-IsAscii : (text : List ℕ) → list_all is_never_encoded text ≡ true → IsAscii text
never_encoded-IsAscii text bytes = IsAscii-from_test text (never_encoded-ascii text bytes)

-- a text's bytes as its code points, where these are ASCII
pub valid_bytes : (profile : Profile) (base : Option Url) (text : List ℕ) (parts : Parts)
    → list_all is_never_encoded text ≡ true → Valid profile base (chars text) parts → Valid profile base text parts
valid_bytes profile base text parts bytes valid =
    subst (λ t. Valid profile base t parts)
    (chars-IsAscii text (never_encoded-IsAscii text bytes)) valid

-- where the code points of a text are ASCII, they are its bytes
pub ascii_bytes : (bytes : List ℕ) → IsUtf8 bytes → list_all is_ascii (chars bytes) ≡ true → bytes ≡ chars bytes
ascii_bytes bytes utf8 ascii =
    sym (encodes-chars bytes utf8) ∙ encodes-IsAscii (chars bytes) (IsAscii-from_test (chars bytes) ascii)

-- a text that no part encodes is the encoding of its code points
pub never_encoded-encoded : (quote : Bool) (text : List ℕ) → list_all is_never_encoded text ≡ true
    → text ≡ encoded quote (chars text)
never_encoded-encoded quote text bytes =
    sym (ap (encoded quote) (chars-IsAscii text (never_encoded-IsAscii text bytes)) ∙ encoded-kept quote text bytes)

-- ---- paths without dots, seen by windows

-- none begins in the first so many bytes if none does in all
none-taken : (begins : Bool) (n : ℕ) (path : List ℕ) → has_no_dots begins path ≡ true
    → has_no_dots begins (take n path) ≡ true
none-taken begins zero path none = refl
none-taken begins (suc n) [] none = refl
none-taken begins (suc n) (c ∷ rest) none =
    let parts = and_parts (not (begins && is_dot_mark c)) (has_no_dots (c == slash) rest) none in
    and_from _ _ parts.0 (none-taken (c == slash) n rest parts.1)

absorbed : (here taken rest : Bool) → (rest ≡ true → taken ≡ true) → ((here && taken) && rest) ≡ (here && rest)
absorbed false taken rest implied = refl
absorbed true true rest implied = refl
absorbed true false false implied = refl
absorbed true false true implied = implied refl

grouped : (here taken left rest : Bool) → (taken && left) ≡ rest → ((here && taken) && left) ≡ (here && rest)
grouped false taken left rest is = refl
grouped true taken left rest is = is

-- none begins in a path if none does in its first so many bytes nor after so many, by which these overlap
pub windows-joined : (begins : Bool) (n k : ℕ) (path : List ℕ) → k < n
    → (has_no_dots begins (take n path) && has_no_dots false (drop k path)) ≡ has_no_dots begins path
windows-joined begins zero k path over = absurd (omega (arith, over))
windows-joined begins (suc n) zero [] over = refl
windows-joined begins (suc n) zero (c ∷ rest) over =
    absorbed (not (begins && is_dot_mark c)) (has_no_dots (c == slash) (take n rest)) (has_no_dots (c == slash) rest)
    (none-taken (c == slash) n rest)
windows-joined begins (suc n) (suc k) [] over = refl
windows-joined begins (suc n) (suc k) (c ∷ rest) over =
    grouped (not (begins && is_dot_mark c)) (has_no_dots (c == slash) (take n rest)) (has_no_dots false (drop k rest))
    (has_no_dots (c == slash) rest) (windows-joined (c == slash) n k rest (omega (arith, over)))

-- ---- texts of code points that pass a test, seen by windows

-- all pass in the first so many if all do
all-taken : (p : ℕ → Bool) (n : ℕ) (text : List ℕ) → list_all p text ≡ true → list_all p (take n text) ≡ true
all-taken p zero text all = refl
all-taken p (suc n) [] all = refl
all-taken p (suc n) (c ∷ rest) all =
    let parts = and_parts (p c) (list_all p rest) all in
    and_from _ _ parts.0 (all-taken p n rest parts.1)

absorbed_twice : (here taken rest : Bool) → (rest ≡ true → taken ≡ true)
    → ((here && taken) && (here && rest)) ≡ (here && rest)
absorbed_twice false taken rest implied = refl
absorbed_twice true taken rest implied = absorbed true taken rest implied

-- all pass in a text if all do in its first so many and after so many, by which these overlap
pub all-joined : (p : ℕ → Bool) (n k : ℕ) (text : List ℕ) → k < n
    → (list_all p (take n text) && list_all p (drop k text)) ≡ list_all p text
all-joined p zero k text over = absurd (omega (arith, over))
all-joined p (suc n) zero [] over = refl
all-joined p (suc n) zero (c ∷ rest) over =
    absorbed_twice (p c) (list_all p (take n rest)) (list_all p rest) (all-taken p n rest)
all-joined p (suc n) (suc k) [] over = refl
all-joined p (suc n) (suc k) (c ∷ rest) over =
    grouped (p c) (list_all p (take n rest)) (list_all p (drop k rest)) (list_all p rest)
    (all-joined p n k rest (omega (arith, over)))
