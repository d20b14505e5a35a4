-- The second parser finds the scheme and the class with which a text begins.
use Rattle.std.proofs.Common.{◌≡◌, ◌∙◌, ℕ, suc, ◌+◌, Bool, true, false, ◌&&◌, ◌||◌, ◌==◌, List, [], ◌∷◌, ◌++◌, refl}
use Rattle.std.proofs.Common.{sym, ap}
use Rattle.std.proofs.Common.{inl, inr, arith, get_or, take, drop, length, lt-ltb, ltb, Some, None, one-add, All}
use Rattle.std.proofs.Common.{append_assoc}
use Rattle.std.proofs.Common.{drop_at, length-append, take_at}
use Rattle.std.specs.Str.{IsAscii}
use Rattle.std.specs.Prelude.{◌<◌, bytes_eq, codes, if◌then◌else◌, is_some}
use Rattle.std.specs.Char.{is_ascii_alphabetic}
use Rattle.std.specs.List.{list_all, prefix_len}
use Rattle.std.proofs.lemmas.Bool.{and_parts, cases_Bool, cond-false, cond-true, false≢true}
use Rattle.std.proofs.lemmas.Bool.Decides.{nat_tests}
use Rattle.std.proofs.lemmas.List.{get_or_at}
use Rattle.std.proofs.lemmas.List.Elements.{All-cons, All-nil, All-weaker}
use Rattle.std.proofs.lemmas.Str.Ascii.{IsAscii-from_all}
use Rattle.url.specs.declared.scheme.SchemeType.TheVariants as kind
use Rattle.url.specs.Parser.{split_scheme}
use Rattle.url.specs.Scheme as url
use Rattle.url.specs.Scheme.{is_scheme_byte, scheme_len, scheme_type}
use Rattle.url.proofs.InputLemmas.{Passes, prefix_len_at}
use Rattle.uv_model.specs.declared.scheme.Class.TheVariants as class
use Rattle.uv_model.specs.Ascii.{colon}
use Rattle.uv_model.specs.Scheme as model
use Rattle.uv_model.specs.Scheme.{goes_on_to_colon, is_scheme, is_scheme_code_point, lowercase, scheme_class}
use Rattle.uv_model.specs.Scheme.{starts_with_scheme}
use Rattle.uv_model.proofs.Cuts.SchemeCutLemmas.{scheme_not_colon}
use Rattle.uv_mend.specs.Readings.{class_of_kind}

-- ---- code points of a scheme

same_scheme_byte : (b : ℕ) → is_scheme_byte b ≡ is_scheme_code_point b
same_scheme_byte b = grouped _ (b == 43) (b == 45) (b == 46)
  where
    grouped : (w x y z : Bool) → (((w || x) || y) || z) ≡ (w || (x || (y || z)))
    grouped true x y z = refl
    grouped false true y z = refl
    grouped false false y z = refl

letter_byte : (c : ℕ) → is_ascii_alphabetic c ≡ true → is_scheme_byte c ≡ true
letter_byte c letter = grind (arith, nat_tests)

each_byte : (scheme : List ℕ) → list_all is_scheme_code_point scheme ≡ true → All (Passes is_scheme_byte) scheme
each_byte [] each = All-nil (Passes is_scheme_byte)
each_byte (c ∷ rest) each =
    let parts = and_parts (is_scheme_code_point c) (list_all is_scheme_code_point rest) each in
    All-cons (Passes is_scheme_byte) c rest (same_scheme_byte c ∙ parts.0) (each_byte rest parts.1)

-- all bytes of a scheme are bytes of one
pub scheme_bytes : (scheme : List ℕ) → is_scheme scheme ≡ true → All (Passes is_scheme_byte) scheme
scheme_bytes [] is = absurd (false≢true is)
scheme_bytes (c ∷ scheme) is =
    let parts = and_parts (is_ascii_alphabetic c) (list_all is_scheme_code_point scheme) is in
    All-cons (Passes is_scheme_byte) c scheme (letter_byte c parts.0) (each_byte scheme parts.1)

pub scheme_ascii : (scheme : List ℕ) → is_scheme scheme ≡ true → IsAscii scheme
scheme_ascii scheme is =
    IsAscii-from_all scheme
    (All-weaker (Passes is_scheme_byte) (λ b. b < 128) low scheme (scheme_bytes scheme is))
  where
    low : (b : ℕ) → Passes is_scheme_byte b → b < 128
    low b passes = grind (arith, nat_tests)

-- ---- a scheme and `:`

scheme_len-is : (scheme rest : List ℕ) → is_scheme scheme ≡ true
    → scheme_len (scheme ++ colon ∷ rest) ≡ length scheme
unfolding scheme_len
scheme_len-is [] rest is = absurd (false≢true is)
scheme_len-is (c ∷ scheme) rest is =
    let parts = and_parts (is_ascii_alphabetic c) (list_all is_scheme_code_point scheme) is in
    cond-true _ _ _ parts.0
    ∙ prefix_len_at is_scheme_byte (c ∷ scheme) (colon ∷ rest) (scheme_bytes (c ∷ scheme) is) refl

nonempty : (scheme : List ℕ) → is_scheme scheme ≡ true → ltb 0 (length scheme) ≡ true
nonempty [] is = absurd (false≢true is)
nonempty (c ∷ scheme) is = lt-ltb 0 (length (c ∷ scheme)) (omega arith)

-- the parser cuts there
pub split_written : (scheme rest : List ℕ) → is_scheme scheme ≡ true
    → split_scheme (scheme ++ colon ∷ rest) ≡ Some (scheme, rest)
unfolding split_scheme
split_written scheme rest is =
    let len = scheme_len-is scheme rest is in
    let some = nonempty scheme is in
    let mark = get_or_at scheme colon rest 0 _ refl in
    let found : (ltb 0 (length scheme) && get_or (scheme ++ colon ∷ rest) (length scheme) 0 == 58) ≡ true
    = rw (some, mark) refl in
    let after = ap (drop (length scheme + 1)) (sym (append_assoc scheme (colon ∷ []) rest))
    ∙ drop_at (scheme ++ colon ∷ []) rest _ (length-append scheme (colon ∷ [])) in
    rw (len, found) (λ i. Some (take_at scheme (colon ∷ rest) _ refl i, after i))

-- ---- no scheme

goes_on-is : (text : List ℕ) → goes_on_to_colon text ≡ (get_or text (prefix_len is_scheme_byte text) 0 == 58)
goes_on-is [] = refl
goes_on-is (c ∷ rest) = elim (cases_Bool (is_scheme_byte c)) [
  | inl held ↦
      let point : is_scheme_code_point c ≡ true = sym (same_scheme_byte c) ∙ held in
      let run : prefix_len is_scheme_byte (c ∷ rest) ≡ suc (prefix_len is_scheme_byte rest)
      = cond-true _ _ _ held ∙ one-add _ in
      goes (is_scheme_code_point c) (c == colon) (goes_on_to_colon rest) point (scheme_not_colon c point)
      ∙ goes_on-is rest ∙ ap (λ (n : ℕ). get_or (c ∷ rest) n 0 == 58) (sym run)
  | inr other ↦
      let run : prefix_len is_scheme_byte (c ∷ rest) ≡ 0 = cond-false _ _ _ other in
      stays (is_scheme_code_point c) (c == colon) (goes_on_to_colon rest) (sym (same_scheme_byte c) ∙ other)
      ∙ ap (λ (n : ℕ). get_or (c ∷ rest) n 0 == 58) (sym run)
]
  where
    goes : (b mark more : Bool) → b ≡ true → mark ≡ false → (mark || (b && more)) ≡ more
    goes true false more held none = refl
    goes true true more held none = absurd (false≢true (sym none))
    goes false mark more held none = absurd (false≢true held)

    stays : (b mark more : Bool) → b ≡ false → (mark || (b && more)) ≡ mark
    stays false true more other = refl
    stays false false more other = refl
    stays true mark more other = absurd (false≢true (sym other))

and_false : (b c : Bool) → c ≡ false → (b && c) ≡ false
and_false true c none = none
and_false false c none = refl

-- the parser finds none if the text begins with none
pub split_none : (text : List ℕ) → starts_with_scheme text ≡ false → split_scheme text ≡ None
unfolding split_scheme scheme_len
split_none [] none = refl
split_none (c ∷ rest) none = elim (cases_Bool (is_ascii_alphabetic c)) [
  | inl letter ↦
      let run : scheme_len (c ∷ rest) ≡ suc (prefix_len is_scheme_byte rest)
      = cond-true _ _ _ letter ∙ cond-true _ _ _ (letter_byte c letter) ∙ one-add _ in
      let stops : goes_on_to_colon rest ≡ false = ap (λ (b : Bool). b && goes_on_to_colon rest) (sym letter) ∙ none in
      not_found (suc (prefix_len is_scheme_byte rest)) run
      (and_false _ _ (sym (goes_on-is rest) ∙ stops))
  | inr other ↦ not_found 0 (cond-false _ _ _ other) refl
]
  where
    not_found : (n : ℕ) → scheme_len (c ∷ rest) ≡ n → (ltb 0 n && (get_or (c ∷ rest) n 0 == 58)) ≡ false
        → split_scheme (c ∷ rest) ≡ None
    not_found n len fails =
        ap (λ (k : ℕ). if ltb 0 k && (get_or (c ∷ rest) k 0 == 58)
        then Some (take k (c ∷ rest), drop (k + 1) (c ∷ rest)) else None) len
        ∙ cond-false _ _ _ fails

-- ---- the class

ports : (ftp http https ws wss : Bool)
    → is_some {T = ℕ} (if ftp then Some 21 else if http then Some 80 else if https then Some 443
    else if ws then Some 80 else if wss then Some 443 else None)
    ≡ is_some {T = ℕ} (if http || ws then Some 80 else if https || wss then Some 443 else if ftp then Some 21 else None)
ports true true https ws wss = refl
ports true false https true wss = refl
ports true false true false wss = refl
ports true false false false true = refl
ports true false false false false = refl
ports false true https ws wss = refl
ports false false true true wss = refl
ports false false true false wss = refl
ports false false false true wss = refl
ports false false false false true = refl
ports false false false false false = refl

-- the class of a scheme is the class of the parser's kind
pub class_is : (scheme : List ℕ) → scheme_class scheme ≡ class_of_kind (scheme_type (lowercase scheme))
unfolding scheme_class scheme_type model.default_port url.default_port
class_is scheme =
    let name = lowercase scheme in
    classes (bytes_eq name (codes "file")) _ _
    (ports (bytes_eq name (codes "ftp")) (bytes_eq name (codes "http")) (bytes_eq name (codes "https"))
    (bytes_eq name (codes "ws")) (bytes_eq name (codes "wss")))
  where
    classes : (file some other : Bool) → some ≡ other
        → (if file then class.File else (if some then class.SpecialNotFile else class.Other))
        ≡ class_of_kind (if file then kind.File else (if other then kind.SpecialNotFile else kind.NotSpecial))
    classes true some other same = refl
    classes false true true same = refl
    classes false false false same = refl
    classes false true false same = absurd (false≢true (sym same))
    classes false false true same = absurd (false≢true same)
