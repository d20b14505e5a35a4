-- Lemmas on the code points of the two sides of an ASCII mark.
use Rattle.std.proofs.Common.{◌≡◌, ℕ, ◌+◌, ◌<◌, List, [], ◌∷◌, ◌++◌, true, false, length, take, drop, refl, sym, ap}
use Rattle.std.proofs.Common.{◌∙◌, subst, arith, get_or, inl, inr, Some, lit<, ◌≢◌, ne_eqb, append-nil, add-one, suc}
use Rattle.std.specs.Prelude.{◌==◌, Option, None, MatchOption, slice_range}
use Rattle.std.specs.Str.{chars, IsCharBoundary, IsUtf8}
use Rattle.std.proofs.lemmas.Bool.{cases_lt}
use Rattle.std.proofs.lemmas.Str.{chars-nil, chars-append, encode_ascii, encodes-chars, IsUtf8-take, IsUtf8-drop}
use Rattle.std.proofs.lemmas.Str.{IsCharBoundary-before_ascii, IsCharBoundary-after_ascii}
use Rattle.std.specs.Borrow.{Bor}
use Rattle.std.proofs.lemmas.List.{length-append, take-append-drop}
use Rattle.std.proofs.Math.Utf8.{encode, encodes}
use Rattle.std.proofs.Math.Seq.{drop-cons, take-append_seam, drop-append-add, drop-length}
use Rattle.uv_model.specs.Ascii.{slash}
use Rattle.uv_model.specs.Path.{is_without, starts_with_slash}
use Rattle.uv_model.proofs.Texts.MarkLemmas.{is_without-cons, is_without-more, is_without-parts}
use Rattle.uv_grammar.specs.TextSplits.{IsFirstMark, SplitsAtSlash}
use Rattle.uv_grammar.proofs.TestLemmas.{starts_with_slash-chars}
use Rattle.uv_text.proofs.SplitsLemmas.{chars-ascii_first, prefix_slice}

-- the byte after a prefix
pub byte_after : (xs ys : List ℕ) (c : ℕ) → get_or (xs ++ (c ∷ ys)) (length xs) 0 ≡ c
byte_after [] ys c = refl
byte_after (x ∷ xs) ys c = byte_after xs ys c

-- both sides of an ASCII byte are text
pub sides_utf8 : (xs ys : List ℕ) (c : ℕ) → IsUtf8 (xs ++ (c ∷ ys)) → c < 128 → IsUtf8 xs × IsUtf8 ys
sides_utf8 xs ys c u small =
    let here = byte_after xs ys c in
    let low : get_or (xs ++ (c ∷ ys)) (length xs) 0 < 128 = omega (arith, here) in
    let inside : length xs < length (xs ++ (c ∷ ys)) = simp (length-append) (omega arith) in
    let before = IsCharBoundary-before_ascii (xs ++ (c ∷ ys)) (length xs) inside low in
    let remaining = IsCharBoundary-after_ascii (xs ++ (c ∷ ys)) (length xs) u inside low in (
      rw take-append_seam at (IsUtf8-take (xs ++ (c ∷ ys)) (length xs) u before),
      rw drop-append-add at (IsUtf8-drop (xs ++ (c ∷ ys)) (length xs + 1) u remaining),
    )

-- the code points of a text with an ASCII mark in it
pub chars_at_mark : (xs ys : List ℕ) (c : ℕ) → IsUtf8 (xs ++ (c ∷ ys)) → c < 128
    → chars (xs ++ (c ∷ ys)) ≡ chars xs ++ (c ∷ chars ys)
chars_at_mark xs ys c u small =
    let both = sides_utf8 xs ys c u small in
    chars-append xs (c ∷ ys) both.0 ∙ ap (λ s. chars xs ++ s) (chars-ascii_first c ys small)

-- ---- the first mark

-- a text whose bytes are without an ASCII mark is without it
pub is_without-chars : (mark : ℕ) (bytes : List ℕ) → mark < 128 → IsUtf8 bytes → is_without mark bytes ≡ true
    → is_without mark (chars bytes) ≡ true
is_without-chars mark bytes small utf8 none =
    encoded (chars bytes) (subst (λ (s : List ℕ). is_without mark s ≡ true) (sym (encodes-chars bytes utf8)) none)
  where
    encoded : (cs : List ℕ) → is_without mark (encodes cs) ≡ true → is_without mark cs ≡ true
    encoded [] none = refl
    encoded (c ∷ cs) none =
        let parts = is_without-parts mark (encode c) (encodes cs) none in
        let other : (c == mark) ≡ false =
        elim (cases_lt c 128) [
          | inl low ↦ (is_without-cons mark c [] (rw (encode_ascii c low) at parts.0)).0
          | inr high ↦ ne_eqb c mark (omega arith)
        ] in
        is_without-more mark c cs other (encoded cs parts.1)

-- what begins with the byte at an index
pub drop_at : (bytes : List ℕ) (at mark : ℕ) → at < length bytes → get_or bytes at 0 ≡ mark
    → drop at bytes ≡ mark ∷ drop (at + 1) bytes
drop_at bytes at mark inside here = rw add-one (drop-cons bytes at 0 inside ∙ ap (λ b. b ∷ drop (suc at) bytes) here)

-- a text around the byte at an index
pub around : (bytes : List ℕ) (at mark : ℕ) → at < length bytes → get_or bytes at 0 ≡ mark
    → bytes ≡ take at bytes ++ mark ∷ drop (at + 1) bytes
around bytes at mark inside here =
    sym (take-append-drop at bytes) ∙ ap (λ s. take at bytes ++ s) (drop_at bytes at mark inside here)

-- after an ASCII mark the text may be cut
pub first_mark_boundary : (mark : ℕ) (bytes : List ℕ) (end : ℕ) → mark < 128 → IsUtf8 bytes
    → IsFirstMark mark bytes (Some end) → IsCharBoundary bytes (end + 1)
first_mark_boundary mark bytes end small utf8 first =
    IsCharBoundary-after_ascii bytes end utf8 first.0 (rw first.1 small)

-- the two sides of the first mark
pub splits_at_mark : (mark : ℕ) (bytes prefix rest : List ℕ) (end : ℕ) → mark < 128 → IsUtf8 bytes
    → IsFirstMark mark bytes (Some end) → prefix ≡ slice_range bytes 0 end → rest ≡ drop (end + 1) bytes
    → (chars bytes ≡ chars prefix ++ mark ∷ chars rest) × (is_without mark (chars prefix) ≡ true)
splits_at_mark mark bytes prefix rest end small utf8 first is_prefix is_rest =
    let whole = around bytes end mark first.0 first.1 in
    let both : IsUtf8 (take end bytes ++ mark ∷ drop (end + 1) bytes) = subst IsUtf8 whole utf8 in
    rw (is_prefix, is_rest, prefix_slice) (
      ap chars whole ∙ chars_at_mark (take end bytes) (drop (end + 1) bytes) mark both small,
      is_without-chars mark (take end bytes) small
          (sides_utf8 (take end bytes) (drop (end + 1) bytes) mark both small).0 first.2,
    )

-- ---- the first `/`

-- without `/` at the start of the bytes, none is at the start of the text
pub no_slash_first : (bytes : List ℕ) → IsUtf8 bytes → ((rest : List ℕ) → bytes ≢ slash ∷ rest)
    → starts_with_slash (chars bytes) ≡ false
no_slash_first bytes utf8 none = starts_with_slash-chars bytes utf8 ∙ first bytes none
  where
    first : (text : List ℕ) → ((rest : List ℕ) → text ≢ slash ∷ rest) → starts_with_slash text ≡ false
    first [] none = refl
    first (c ∷ rest) none = ne_eqb c slash (λ e. none rest (ap (λ k. k ∷ rest) e))

-- the two sides of the first `/`
pub splits_at_slash : (bytes prefix after : List ℕ) (end : ℕ) → IsUtf8 bytes → IsFirstMark slash bytes (Some end)
    → prefix ≡ slice_range bytes 0 end → after ≡ drop end bytes
    → SplitsAtSlash (chars bytes) (chars prefix) (chars after)
splits_at_slash bytes prefix after end utf8 found is_prefix is_after =
    let before : IsUtf8 (take end bytes)
    = IsUtf8-take bytes end utf8 (IsCharBoundary-before_ascii bytes end found.0 (rw found.1 (lit< tt))) in
    let first : chars (drop end bytes) ≡ slash ∷ chars (drop (end + 1) bytes)
    = ap chars (drop_at bytes end slash found.0 found.1)
    ∙ chars-ascii_first slash (drop (end + 1) bytes) (lit< tt) in
    rw (is_prefix, is_after, prefix_slice) (record {
      joined = ap chars (sym (take-append-drop end bytes)) ∙ chars-append (take end bytes) (drop end bytes) before;
      no_slash = is_without-chars slash (take end bytes) (lit< tt) before found.2;
      path = λ some. subst (λ (s : List ℕ). starts_with_slash s ≡ true) (sym first) refl;
    })

-- a text without `/` is only a prefix
pub splits_at_end : (bytes rest : List ℕ) → IsUtf8 bytes → IsFirstMark slash bytes None
    → rest ≡ drop (length bytes) bytes → SplitsAtSlash (chars bytes) (chars bytes) (chars rest)
splits_at_end bytes rest utf8 none empty =
    let nothing : chars rest ≡ [] = ap chars (empty ∙ drop-length bytes) ∙ chars-nil in
    record {
      joined = sym (ap (λ s. chars bytes ++ s) nothing ∙ append-nil (chars bytes));
      no_slash = is_without-chars slash bytes (lit< tt) utf8 none;
      path = λ some. absurd (some nothing);
    }

-- what follows a `/` at the text's start
pub after_first_slash : (bytes : List ℕ) (rest : Option (Bor (List ℕ))) → IsUtf8 bytes
    → MatchOption rest ((other : List ℕ) → bytes ≢ slash ∷ other) (λ r. bytes ≡ slash ∷ r.now)
    → MatchOption rest (starts_with_slash (chars bytes) ≡ false) (λ r. chars bytes ≡ slash ∷ chars r.now)
after_first_slash bytes None utf8 none = no_slash_first bytes utf8 none
after_first_slash bytes (Some rest) utf8 is = ap chars is ∙ chars-ascii_first slash rest.now (lit< tt)
