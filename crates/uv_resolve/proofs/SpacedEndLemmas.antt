-- A space at the end of an opaque path, which is escaped where a query or a fragment follows it.
use Rattle.std.proofs.Common.{◌≡◌, ◌≢◌, ℕ, true, false, List, [], ◌∷◌, ◌++◌, length, take_at, codes, encode_utf8_all}
use Rattle.std.proofs.Common.{refl, sym, ap, ◌∙◌, inl, inr, eqb-true, lit<}
use Rattle.std.specs.Char.{encode_utf8}
use Rattle.std.specs.Str.{IsAscii, IsUtf8, chars}
use Rattle.std.proofs.lemmas.Bool.{cases_Bool, false≢true}
use Rattle.std.proofs.lemmas.Str.{IsCharBoundary-at_seam, IsUtf8-from_ascii, IsUtf8-take, chars-IsAscii, chars-append}
use Rattle.std.proofs.lemmas.Str.{encodes-append, encodes-chars}
use Rattle.std.proofs.lemmas.Str.Ascii.{IsAscii-nil, IsAscii-cons}
use Rattle.uv_model.specs.Ascii.{space}
use Rattle.uv_model.specs.Encoding.{encoded}
use Rattle.uv_model.specs.Path.{ends_with_space}
use Rattle.uv_model.specs.Records.Denote.{end_escaped}
use Rattle.uv_model.proofs.Paths.SpacedPaths.{escaped_kept}
use Rattle.uv_model.proofs.Texts.EncodingLemmas.{encoded-append, is_ascii-encoded}
use Rattle.uv_model.proofs.Texts.AsciiLemmas.{IsAscii-from_test}

-- the space at the end is escaped
space_escaped : (xs : List ℕ) → end_escaped true (xs ++ (space ∷ [])) ≡ xs ++ codes "%20"
space_escaped [] = refl
space_escaped (c ∷ []) = refl
space_escaped (c ∷ next ∷ rest) = ap (λ ys. c ∷ ys) (space_escaped (next ∷ rest))

-- and what is before it is encoded
space_encoded : (xs : List ℕ) → encoded false (end_escaped true (xs ++ (space ∷ []))) ≡ encoded false xs ++ codes "%20"
unfolding encoded
space_encoded xs = ap (encoded false) (space_escaped xs) ∙ encoded-append false xs (codes "%20")

-- the bytes before a space are UTF-8 if the whole is
before_space : (bytes : List ℕ) → IsUtf8 (bytes ++ (space ∷ [])) → IsUtf8 bytes
before_space bytes utf8 =
    let end = IsUtf8-from_ascii (space ∷ []) (IsAscii-cons space [] (lit< tt) IsAscii-nil) in
    let cut =
    IsUtf8-take (bytes ++ (space ∷ [])) (length bytes) utf8
    (IsCharBoundary-at_seam (bytes ++ (space ∷ [])) bytes (space ∷ []) refl end) in
    rw (take_at bytes (space ∷ []) (length bytes) refl) at cut

-- of a text, by its bytes, that ends with a space
pub ended_encoded : (text kept : List ℕ) → IsUtf8 text → text ≡ kept ++ (space ∷ [])
    → encoded false (end_escaped true (chars text)) ≡ encoded false (chars kept) ++ codes "%20"
ended_encoded text kept utf8 spelled =
    let front = before_space kept (rw spelled at utf8) in
    let last : chars (space ∷ []) ≡ space ∷ []
    = chars-IsAscii (space ∷ []) (IsAscii-cons space [] (lit< tt) IsAscii-nil) in
    let shown : chars text ≡ chars kept ++ (space ∷ [])
    = ap chars spelled ∙ chars-append kept (space ∷ []) front ∙ ap (λ ys. chars kept ++ ys) last in
    ap (λ xs. encoded false (end_escaped true xs)) shown ∙ space_encoded (chars kept)

-- a text that ends with a space is written so
ends_split : (text : List ℕ) → ends_with_space text ≡ true → (front : List ℕ) × (text ≡ front ++ (space ∷ []))
ends_split [] ends = absurd (false≢true ends)
ends_split (c ∷ []) ends = ([], ap (λ d. d ∷ []) (eqb-true c space ends))
ends_split (c ∷ next ∷ rest) ends =
    let (front, spelled) = ends_split (next ∷ rest) ends in (c ∷ front, ap (λ ys. c ∷ ys) spelled)

-- of a text, by its bytes, that doesn't end with a space
pub other_encoded : (text : List ℕ) → IsUtf8 text → ((front : List ℕ) → text ≢ front ++ (space ∷ []))
    → encoded false (end_escaped true (chars text)) ≡ encoded false (chars text)
unfolding encode_utf8
other_encoded text utf8 none = elim (cases_Bool (ends_with_space (chars text))) [
  | inl ends ↦
      let (front, spelled) = ends_split (chars text) ends in
      let bytes : text ≡ encode_utf8_all front ++ (space ∷ [])
      = sym (encodes-chars text utf8) ∙ ap encode_utf8_all spelled ∙ encodes-append front (space ∷ []) in
      absurd (none (encode_utf8_all front) bytes)
  | inr other ↦ ap (encoded false) (escaped_kept true (chars text) other)
]

-- an encoded text is ASCII
pub encoded_ascii : (bytes text : List ℕ) → bytes ≡ encoded false text → IsAscii bytes
encoded_ascii bytes text same = rw same (IsAscii-from_test (encoded false text) (is_ascii-encoded false text))
