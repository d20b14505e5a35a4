-- Printable ASCII is shown as it is, and copied as it is.
use Rattle.std.proofs.Common.{◌≡◌, ◌∙◌, ℕ, ◌<◌, true, false, List, [], ◌∷◌, ◌++◌, ap, arith, encode_utf8, flat_map}
use Rattle.std.proofs.Common.{if◌then◌else◌, refl}
use Rattle.std.specs.List.{list_all}
use Rattle.std.specs.Str.{IsAscii}
use Rattle.std.proofs.lemmas.Bool.{and_parts}
use Rattle.std.proofs.lemmas.Bool.Decides.{nat_tests}
use Rattle.std.proofs.lemmas.Str.{chars-IsAscii, encode_ascii}
use Rattle.std.proofs.lemmas.Str.Ascii.{IsAscii-cons, IsAscii-nil}
use Rattle.uv_shown.specs.declared.escaping.escapes.Escapes.{Escapes}
use Rattle.uv_shown.specs.declared.escaping.escapes.Escapes.TheVariants.{Shown, Copied}
use Rattle.uv_shown.specs.Escaping.Escapes.{copied, escape, escaped, is_hidden, replacement, shown, shown_text}
use Rattle.uv_shown.specs.Escaping.Printable.{is_printable}

-- ---- a byte

small : (c : ℕ) → is_printable c ≡ true → c < 128
small c is = grind (arith, nat_tests)

pub seen : (c : ℕ) → is_printable c ≡ true → is_hidden c ≡ false
seen c is = grind (arith, nat_tests)

-- it is shown as it is
stays : (c : ℕ) → is_printable c ≡ true → escape Shown c ≡ c ∷ []
stays c is =
    ap (λ hidden. if hidden then replacement else encode_utf8 c) (seen c is) ∙ encode_ascii c (small c is)

-- it is copied as it is shown
copied_so : (c : ℕ) → is_printable c ≡ true → copied c ≡ shown c
copied_so c is = grind (arith, nat_tests)

copies : (c : ℕ) → is_printable c ≡ true → escape Copied c ≡ c ∷ []
copies c is = copied_so c is ∙ stays c is

-- ---- a text

pub ascii : (text : List ℕ) → list_all is_printable text ≡ true → IsAscii text
ascii [] are = IsAscii-nil
ascii (b ∷ rest) are =
    let parts = and_parts (is_printable b) (list_all is_printable rest) are in
    IsAscii-cons b rest (small b parts.0) (ascii rest parts.1)

each_stays : (escapes : Escapes) → ((c : ℕ) → is_printable c ≡ true → escape escapes c ≡ c ∷ []) → (text : List ℕ)
    → list_all is_printable text ≡ true → flat_map (escape escapes) text ≡ text
each_stays escapes one [] are = refl
each_stays escapes one (b ∷ rest) are =
    let parts = and_parts (is_printable b) (list_all is_printable rest) are in
    λ i. one b parts.0 i ++ each_stays escapes one rest parts.1 i

-- it is shown as it is
pub shown_whole : (text : List ℕ) → list_all is_printable text ≡ true → shown_text text ≡ text
unfolding escaped
shown_whole text are =
    ap (flat_map (escape Shown)) (chars-IsAscii text (ascii text are)) ∙ each_stays Shown stays text are

-- it is copied as it is
pub copied_whole : (text : List ℕ) → list_all is_printable text ≡ true → escaped Copied text ≡ text
unfolding escaped
copied_whole text are =
    ap (flat_map (escape Copied)) (chars-IsAscii text (ascii text are)) ∙ each_stays Copied copies text are
