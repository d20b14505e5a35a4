-- The prefixes of a plain link: its scheme, its name, its port and what follows a mark.
use Rattle.std.proofs.Common.{get_or, ◌≤◌, ◌≡◌, ℕ, ◌<◌, Bool, true, List, [], ◌∷◌, ◌++◌, length, take, drop}
use Rattle.std.proofs.Common.{Option, Some, None, refl, sym, ap, ◌∙◌, inl, inr, arith, append_assoc, lt-ltb}
use Rattle.std.proofs.Common.{Fits, w8, nat_lt}
use Rattle.std.specs.Prelude.{◌+◌, suc, codes}
use Rattle.std.specs.Int.{from_le_bytes, w32}
use Rattle.std.specs.Char.{is_ascii, is_ascii_digit}
use Rattle.std.specs.List.{prefix_len}
use Rattle.std.specs.Str.{chars, IsUtf8, IsCharBoundary}
use Rattle.std.proofs.lemmas.Bool.{and_from, cases_Bool, ltb-true}
use Rattle.std.proofs.lemmas.Bool.Decides.{nat_tests}
use Rattle.std.proofs.lemmas.List.{drop-drop, get_or-drop, get_or-take, get_or_past, length-append, length-drop}
use Rattle.std.proofs.lemmas.List.{length-take, length-take-le, take-append-drop, take-take, take_all}
use Rattle.std.proofs.lemmas.Nat.{le_bytes_4}
use Rattle.std.proofs.lemmas.Str.{chars-append, chars-IsAscii, IsUtf8-from_ascii, IsCharBoundary-from_take}
use Rattle.std.proofs.Math.Nat.{min-le_left}
use Rattle.std.proofs.Math.Seq.{take-append_seam, drop-append_seam}
use Rattle.uv_model.specs.declared.profile.Profile.TheVariants.{Standard}
use Rattle.uv_model.specs.declared.scheme.Class.TheVariants.{SpecialNotFile}
use Rattle.uv_model.specs.Ascii.{slash, colon}
use Rattle.uv_model.specs.Hosts.Domain.{is_form_code_point}
use Rattle.uv_model.specs.Scheme.{default_port, is_scheme, scheme_class}
use Rattle.uv_model.proofs.Texts.AsciiLemmas.{IsAscii-from_test}
use Rattle.uv_model.proofs.SchemeLemmas.{is_ascii-scheme}
use Rattle.uv_text.specs.Class.{HoldsUrlBytes, HasHexDigits}
use Rattle.uv_text.specs.Splits.{IsUnitSplit}
use Rattle.uv_grammar.specs.PartValues.{FitsPort, without_default}
use Rattle.uv_grammar.specs.PlainLinks.{HasAsciiPrefix, IsPartCut, IsPortCut, IsPrefixCut, IsSpecialCut, IsSpecialPrefix}
use Rattle.uv_grammar.proofs.PlainUnitLemmas.{split_joined, url_units}
use Rattle.uv_grammar.proofs.PartLemmas.{given_number}
use Rattle.uv_host.specs.PlainNames.{IsChainPrefix}
use Rattle.uv_host.proofs.ChainLemmas.{rooted_form}
use Rattle.uv_model.proofs.Cuts.HostCutLemmas.{passes-weaker}

-- the end of an ASCII prefix is a boundary
pub prefix_boundary : (bytes : List ℕ) (end : ℕ) → IsUtf8 bytes → HasAsciiPrefix bytes end → IsCharBoundary bytes end
prefix_boundary bytes end utf8 prefix =
    IsCharBoundary-from_take bytes end utf8 prefix.0
    (IsUtf8-from_ascii (take end bytes) (IsAscii-from_test (take end bytes) prefix.1))

-- the two sides of the cut after an ASCII prefix
pub prefix_cut : (bytes prefix rest : List ℕ) (end : ℕ) → HasAsciiPrefix bytes end → prefix ≡ take end bytes → rest
    ≡ drop end bytes
    → IsPrefixCut bytes end prefix rest
prefix_cut bytes prefix rest end has is_prefix is_rest =
    let ascii = IsAscii-from_test (take end bytes) has.1 in
    let same = chars-IsAscii (take end bytes) ascii in
    record {
      is_prefix = is_prefix;
      is_rest = is_rest;
      code_points = ap chars is_prefix ∙ same;
      joined =
          ap chars (sym (take-append-drop end bytes))
          ∙ chars-append (take end bytes) (drop end bytes) (IsUtf8-from_ascii (take end bytes) ascii)
          ∙ (ap (λ s. s ++ chars (drop end bytes)) same ∙ ap (λ s. take end bytes ++ chars s) (sym is_rest));
    }

-- the special schemes but `file`, each by its name
pub https_special : scheme_class (codes "https") ≡ SpecialNotFile
unfolding scheme_class default_port
https_special = refl

pub http_special : scheme_class (codes "http") ≡ SpecialNotFile
unfolding scheme_class default_port
http_special = refl

pub ftp_special : scheme_class (codes "ftp") ≡ SpecialNotFile
unfolding scheme_class default_port
ftp_special = refl

pub wss_special : scheme_class (codes "wss") ≡ SpecialNotFile
unfolding scheme_class default_port
wss_special = refl

pub ws_special : scheme_class (codes "ws") ≡ SpecialNotFile
unfolding scheme_class default_port
ws_special = refl

-- a special scheme in the bytes
pub special_prefix : (bytes name after : List ℕ) → bytes ≡ name ++ colon ∷ slash ∷ slash ∷ after → is_scheme name
    ≡ true
    → scheme_class name ≡ SpecialNotFile → IsSpecialPrefix bytes (length name)
special_prefix bytes name after same is special =
    let prefix : take (length name) bytes ≡ name = ap (take (length name)) same ∙ take-append_seam name
    (colon ∷ slash ∷ slash ∷ after) in
    record {
      inside = omega (arith, ap length same, length-append name (colon ∷ slash ∷ slash ∷ after));
      scheme = ap is_scheme prefix ∙ is;
      special = ap scheme_class prefix ∙ special;
      after = after;
      mark = ap (drop (length name)) same ∙ drop-append_seam name (colon ∷ slash ∷ slash ∷ after);
    }

-- after it is `://`
pub mark_ascii : (bytes after : List ℕ) (end : ℕ) → IsSpecialPrefix bytes end → after ≡ drop end bytes
    → HasAsciiPrefix after 3
mark_ascii bytes after end is same = rw (same, is.mark) (omega arith, refl)

-- the cut after a special scheme
pub special_cut : (bytes scheme after none rest : List ℕ) (end : ℕ) → IsSpecialPrefix bytes end
    → IsPrefixCut bytes end scheme after
    → IsPrefixCut after 3 none rest → IsSpecialCut (chars bytes) (chars scheme) (chars rest)
special_cut bytes scheme after none rest end is a b =
    let three : take 3 after ≡ colon ∷ slash ∷ slash ∷ [] = ap (take 3) (a.is_rest ∙ is.mark) in
    record {
      joined =
          a.joined
          ∙ ap (λ s. take end bytes ++ s) (b.joined ∙ ap (λ s. s ++ chars rest) three)
          ∙ ap (λ s. s ++ colon ∷ slash ∷ slash ∷ chars rest) (sym a.code_points);
      named = ap is_scheme a.code_points ∙ is.scheme;
      special = ap scheme_class a.code_points ∙ is.special;
    }

-- the cut after a prefix
pub cut_joined : (bytes prefix rest : List ℕ) (end : ℕ) → IsPrefixCut bytes end prefix rest → chars bytes
    ≡ chars prefix ++ chars rest
cut_joined bytes prefix rest end cut = cut.joined ∙ ap (λ s. s ++ chars rest) (sym cut.code_points)

-- a list that begins with a number is it and a rest
pub first_byte : (mark : ℕ) (bytes : List ℕ) → 1 ≤ length bytes → get_or bytes 0 0 ≡ mark → bytes ≡ mark ∷ drop 1 bytes
first_byte mark [] some first = absurd (omega arith)
first_byte mark (b ∷ bytes) some first = ap (λ n. n ∷ bytes) first

-- a text that doesn't begin with a mark, and one that does
pub no_part : (mark : ℕ) (text : List ℕ) → IsPartCut mark text None text
no_part mark text = record { joined = refl; units = tt }

-- one ASCII byte is an ASCII prefix
pub byte_ascii : (mark : ℕ) (bytes : List ℕ) → mark < 128 → bytes ≡ mark ∷ drop 1 bytes → HasAsciiPrefix bytes 1
byte_ascii mark bytes small same = rw same (omega arith, rw (lt-ltb mark 128 small) refl)

-- a text that begins with the mark has a part of units after it
pub some_part : (mark : ℕ) (bytes none after prefix rest : List ℕ) (held : ℕ → Bool) → bytes ≡ mark ∷ drop 1 bytes
    → IsPrefixCut bytes 1 none after → HoldsUrlBytes held → HasHexDigits held
    → IsUnitSplit held (chars after) (chars prefix) (chars rest)
    → IsPartCut mark (chars bytes) (Some (chars prefix)) (chars rest)
some_part mark bytes none after prefix rest held same a holds digits cut = record {
  joined =
      a.joined
      ∙ ap (λ s. s ++ chars after) (ap (take 1) same)
      ∙ ap (λ s. mark ∷ s) (split_joined held (chars after) (chars prefix) (chars rest) cut);
  units = url_units held (chars after) (chars prefix) (chars rest) holds digits cut;
}

-- the bytes of a scheme are ASCII
pub scheme_ascii : (bytes : List ℕ) (end : ℕ) → IsSpecialPrefix bytes end → HasAsciiPrefix bytes end
scheme_ascii bytes end is = (is.inside, is_ascii-scheme (take end bytes) is.scheme)

-- the bytes of a plain name are ASCII
pub name_ascii : (bytes : List ℕ) (end : ℕ) → IsChainPrefix bytes end → HasAsciiPrefix bytes end
name_ascii bytes end is = (
  is.0,
  passes-weaker (is_form_code_point Standard) is_ascii small (take end bytes) (rooted_form (take end bytes) is.1),
)
  where
    small : (c : ℕ) → is_form_code_point Standard c ≡ true → is_ascii c ≡ true
    small c h = grind (arith, nat_tests)

-- ---- ports

-- a text without a port
pub no_port : (default : Option ℕ) (text : List ℕ) → IsPortCut default text None None text
no_port default text = record { joined = refl; valid = tt; given = refl }

-- and one with a port
pub some_port : (default : Option ℕ) (bytes none after port rest : List ℕ) (end : ℕ) (number value : Option ℕ)
    → bytes ≡ colon ∷ drop 1 bytes → IsPrefixCut bytes 1 none after → IsPrefixCut after end port rest
    → FitsPort (chars port) number → value ≡ without_default default number
    → IsPortCut default (chars bytes) (Some (chars port)) value (chars rest)
some_port default bytes none after port rest end number value same a b fits given = record {
  joined =
      a.joined ∙ ap (λ s. s ++ chars after) (ap (take 1) same)
      ∙ ap (λ s. colon ∷ s) (cut_joined after port rest end b);
  valid = fits.0;
  given = given ∙ (ap (without_default default) fits.1 ∙ given_number default (chars port));
}

-- the digits at the start are ASCII
pub digits_ascii : (bytes : List ℕ) → HasAsciiPrefix bytes (prefix_len is_ascii_digit bytes)
digits_ascii [] = (omega arith, refl)
digits_ascii (b ∷ bytes) = elim (cases_Bool (is_ascii_digit b)) [
  | inl digit ↦
      let more = digits_ascii bytes in
      let inside = more.0 in
      let small : is_ascii b ≡ true = grind (arith, nat_tests) in
      let next : 1 + prefix_len is_ascii_digit bytes ≡ suc (prefix_len is_ascii_digit bytes) = omega arith in
      rw digit (rw next (omega arith, and_from _ _ small more.1))
  | inr other ↦ rw other (omega arith, refl)
]

-- ---- prefixes by their ends

-- bytes that have the ends of a prefix, of which there are four to eight, begin with it
pub prefix_ends : (bytes prefix : List ℕ) (k : ℕ) → k ≤ 4 → length prefix ≡ k + 4
    → take 4 bytes ≡ take 4 prefix → take 4 (drop k bytes) ≡ take 4 (drop k prefix)
    → bytes ≡ prefix ++ drop (k + 4) bytes
prefix_ends bytes prefix k few long front back =
    let first : take k bytes ≡ take k prefix =
    sym (take-take k 4 bytes few) ∙ (ap (take k) front ∙ take-take k 4 prefix few) in
    let last : take 4 (drop k prefix) ≡ drop k prefix =
    take_all 4 (drop k prefix) (omega (arith, length-drop k prefix)) in
    let after : drop k bytes ≡ drop k prefix ++ drop (k + 4) bytes =
    sym (take-append-drop 4 (drop k bytes))
    ∙ ap (λ s. s ++ drop 4 (drop k bytes)) (back ∙ last)
    ∙ ap (λ s. drop k prefix ++ s) (drop-drop 4 k bytes) in
    sym (take-append-drop k bytes)
    ∙ ap (λ s. s ++ drop k bytes) first
    ∙ ap (λ s. take k prefix ++ s) after
    ∙ sym (append_assoc (take k prefix) (drop k prefix) (drop (k + 4) bytes))
    ∙ ap (λ s. s ++ drop (k + 4) bytes) (take-append-drop k prefix)

-- four bytes of a list, and none after its end, are bytes
four_small : (bytes : List ℕ) (place i : ℕ) → ((k : ℕ) → Fits w8 (get_or bytes k 0))
    → get_or (take 4 (drop place bytes)) i 0 < 256
four_small bytes place i fit = elim (cases_Bool (nat_lt i 4)) [
  | inl near ↦
      let inside : i < 4 = ltb-true i 4 near in
      let fits : get_or bytes (place + i) 0 < 256 = (fit (place + i)).fits in
      rw (get_or-take 4 (drop place bytes) i 0 inside, get_or-drop place bytes i 0) fits
  | inr far ↦
      let after : 4 ≤ i = grind (arith, nat_tests) in
      rw (get_or_past (take 4 (drop place bytes)) i 0
      (omega (arith, length-take 4 (drop place bytes), min-le_left 4 (length (drop place bytes))))) (omega arith)
]

-- four bytes that are one number are the same bytes
pub four_alike : (a b : List ℕ) (place : ℕ) → place + 4 ≤ length a → place + 4 ≤ length b
    → ((k : ℕ) → Fits w8 (get_or a k 0)) → ((k : ℕ) → Fits w8 (get_or b k 0))
    → from_le_bytes w32 (take 4 (drop place a)) ≡ from_le_bytes w32 (take 4 (drop place b))
    → take 4 (drop place a) ≡ take 4 (drop place b)
four_alike a b place long_a long_b fit_a fit_b same =
    let left = take 4 (drop place a) in
    let right = take 4 (drop place b) in
    sym (le_bytes_4 left (from_le_bytes w32 left) (length-take-le 4 (drop place a) (omega (arith, length-drop place a)))
    (λ i. four_small a place i fit_a) refl)
    ∙ le_bytes_4 right (from_le_bytes w32 left) (length-take-le 4 (drop place b) (omega (arith, length-drop place b)))
    (λ i. four_small b place i fit_b) same
