-- Schemes: what lower case keeps, and that names compare by bytes as by code points.
use Rattle.std.proofs.Common.{◌≡◌, ℕ, ◌<◌, Bool, true, false, List, [], ◌∷◌, ◌∙◌, not, ◌&&◌, ◌↔◌, refl, sym, ap, arith}
use Rattle.std.specs.List.{list_all}
use Rattle.std.specs.Char.{is_ascii, is_ascii_alphabetic, is_ascii_uppercase, to_ascii_lowercase}
use Rattle.std.specs.Str.{IsAscii, IsUtf8, bytes_eq, chars}
use Rattle.std.proofs.lemmas.Bool.{and_parts, and_from, not-true}
use Rattle.std.proofs.lemmas.Bool.Decides.{nat_tests, same_from_decides}
use Rattle.std.proofs.lemmas.Slice.Eq.{bytes_eq-Decides}
use Rattle.std.proofs.lemmas.Str.{chars-IsAscii}
use Rattle.std.proofs.lemmas.Str.Ascii.{IsAscii-nil, IsAscii-cons, lowercase-lowercase}
use Rattle.uv_model.specs.Scheme.{default_port, is_lowercase_ascii, is_scheme, is_scheme_code_point, lowercase}
use Rattle.uv_model.specs.Scheme.{scheme_class}
use Rattle.uv_model.proofs.Texts.AsciiLemmas.{IsAscii-from_test, chars-from_IsAscii}

-- a code point that is ASCII in lower case is ASCII
ascii_code_point : (c d : ℕ) → to_ascii_lowercase c ≡ d → is_ascii d ≡ true → c < 128
ascii_code_point c d e passes = grind (arith, nat_tests)

-- a code point in lower case stays
pub lowercase_code_point : (c : ℕ) → is_ascii_uppercase c ≡ false → to_ascii_lowercase c ≡ c
lowercase_code_point c passes = grind (arith, nat_tests)

-- a name in lower case stays
pub lowercase-name : (name : List ℕ) → is_lowercase_ascii name ≡ true → lowercase name ≡ name
lowercase-name [] small = refl
lowercase-name (c ∷ rest) small =
    let parts = and_parts (is_ascii c && not (is_ascii_uppercase c)) (is_lowercase_ascii rest) small in
    let first = and_parts (is_ascii c) (not (is_ascii_uppercase c)) parts.0 in
    let same : to_ascii_lowercase c ≡ c = lowercase_code_point c (not-true _ first.1) in
    let others : lowercase rest ≡ rest = lowercase-name rest parts.1 in
    cc

-- a text that is a name in lower case is ASCII
pub IsAscii-from_name : (text name : List ℕ) → is_lowercase_ascii name ≡ true → lowercase text ≡ name → IsAscii text
IsAscii-from_name [] name small e = IsAscii-nil
IsAscii-from_name (c ∷ rest) [] small e = absurd cc
IsAscii-from_name (c ∷ rest) (d ∷ others) small e =
    let parts = and_parts (is_ascii d && not (is_ascii_uppercase d)) (is_lowercase_ascii others) small in
    let first = and_parts (is_ascii d) (not (is_ascii_uppercase d)) parts.0 in
    let same : to_ascii_lowercase c ≡ d = cc in
    let later : lowercase rest ≡ others = cc in
    IsAscii-cons c rest (ascii_code_point c d same first.0) (IsAscii-from_name rest others parts.1 later)

-- the test gives the same on the bytes and on the code points
pub same_by_bytes : (text name : List ℕ) (r : Bool) → IsUtf8 text → is_lowercase_ascii name ≡ true
    → ((r ≡ true) ↔ (lowercase text ≡ lowercase name)) → r ≡ bytes_eq (lowercase (chars text)) name
same_by_bytes text name r utf8 small says =
    same_from_decides r (bytes_eq (lowercase (chars text)) name) (forth, back)
    (bytes_eq-Decides (lowercase (chars text)) name)
  where
    forth : r ≡ true → lowercase (chars text) ≡ name
    forth e =
        let by_bytes : lowercase text ≡ name = says.0 e ∙ lowercase-name name small in
        rw (chars-IsAscii text (IsAscii-from_name text name small by_bytes)) by_bytes

    back : lowercase (chars text) ≡ name → r ≡ true
    back e =
        let same : chars text ≡ text = chars-from_IsAscii text utf8 (IsAscii-from_name (chars text) name small e) in
        says.1 (ap lowercase (sym same) ∙ (e ∙ sym (lowercase-name name small)))

-- ---- schemes in lower case

-- lower case twice is lower case
pub lowercase_twice : (text : List ℕ) → lowercase (lowercase text) ≡ lowercase text
lowercase_twice [] = refl
lowercase_twice (c ∷ rest) =
    let first : to_ascii_lowercase (to_ascii_lowercase c) ≡ to_ascii_lowercase c = lowercase-lowercase c in
    let others : lowercase (lowercase rest) ≡ lowercase rest = lowercase_twice rest in
    cc

-- no code point in lower case is in upper case
pub no_uppercase-lowercase : (text : List ℕ) → list_all (λ c. not (is_ascii_uppercase c)) (lowercase text) ≡ true
no_uppercase-lowercase [] = refl
no_uppercase-lowercase (c ∷ rest) = and_from _ _ (one c) (no_uppercase-lowercase rest)
  where
    one : (c : ℕ) → not (is_ascii_uppercase (to_ascii_lowercase c)) ≡ true
    one c = grind (arith, nat_tests)

-- a letter in lower case is a letter
alphabetic-lowercase : (c : ℕ) → is_ascii_alphabetic c ≡ true → is_ascii_alphabetic (to_ascii_lowercase c) ≡ true
alphabetic-lowercase c letter = grind (arith, nat_tests)

-- a code point of a scheme in lower case is one
scheme_code_point-lowercase : (c : ℕ) → is_scheme_code_point c ≡ true
    → is_scheme_code_point (to_ascii_lowercase c) ≡ true
scheme_code_point-lowercase c passes = grind (arith, nat_tests)

scheme_rest-lowercase : (rest : List ℕ) → list_all is_scheme_code_point rest ≡ true
    → list_all is_scheme_code_point (lowercase rest) ≡ true
scheme_rest-lowercase [] passes = refl
scheme_rest-lowercase (c ∷ rest) passes =
    let parts = and_parts (is_scheme_code_point c) (list_all is_scheme_code_point rest) passes in
    and_from _ _ (scheme_code_point-lowercase c parts.0) (scheme_rest-lowercase rest parts.1)

-- a scheme in lower case is a scheme
pub is_scheme-lowercase : (scheme : List ℕ) → is_scheme scheme ≡ true → is_scheme (lowercase scheme) ≡ true
is_scheme-lowercase [] is = is
is_scheme-lowercase (c ∷ rest) is =
    let parts = and_parts (is_ascii_alphabetic c) (list_all is_scheme_code_point rest) is in
    and_from _ _ (alphabetic-lowercase c parts.0) (scheme_rest-lowercase rest parts.1)

-- a scheme in lower case has the same default port
pub default_port-lowercase : (scheme : List ℕ) → default_port (lowercase scheme) ≡ default_port scheme
unfolding default_port
default_port-lowercase scheme = rw (lowercase_twice scheme) refl

-- a scheme in lower case has the same class
pub scheme_class-lowercase : (scheme : List ℕ) → scheme_class (lowercase scheme) ≡ scheme_class scheme
unfolding scheme_class
scheme_class-lowercase scheme = rw (lowercase_twice scheme, default_port-lowercase scheme) refl

-- ---- schemes by bytes

-- a code point of a scheme is ASCII
pub scheme_first-ascii : (c : ℕ) → is_ascii_alphabetic c ≡ true → is_ascii c ≡ true
scheme_first-ascii c letter = grind (arith, nat_tests)

pub scheme_code_point-ascii : (c : ℕ) → is_scheme_code_point c ≡ true → is_ascii c ≡ true
scheme_code_point-ascii c passes = grind (arith, nat_tests)

scheme_rest-ascii : (rest : List ℕ) → list_all is_scheme_code_point rest ≡ true → list_all is_ascii rest ≡ true
scheme_rest-ascii [] passes = refl
scheme_rest-ascii (c ∷ rest) passes =
    let parts = and_parts (is_scheme_code_point c) (list_all is_scheme_code_point rest) passes in
    and_from _ _ (scheme_code_point-ascii c parts.0) (scheme_rest-ascii rest parts.1)

-- a scheme is ASCII
pub is_ascii-scheme : (scheme : List ℕ) → is_scheme scheme ≡ true → list_all is_ascii scheme ≡ true
is_ascii-scheme [] is = refl
is_ascii-scheme (c ∷ rest) is =
    let parts = and_parts (is_ascii_alphabetic c) (list_all is_scheme_code_point rest) is in
    and_from _ _ (scheme_first-ascii c parts.0) (scheme_rest-ascii rest parts.1)

-- the code points of a scheme are its bytes
pub chars-scheme : (scheme : List ℕ) → is_scheme scheme ≡ true → chars scheme ≡ scheme
chars-scheme scheme is = chars-IsAscii scheme (IsAscii-from_test scheme (is_ascii-scheme scheme is))
