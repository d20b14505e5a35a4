-- Bytes that are in the rows of plain ones, with no dot after a slash, are plain.
use Rattle.std.proofs.Common.{◌≡◌, ℕ, suc, ◌+◌, ◌<◌, true, false, not, ◌==◌, All, List, [], ◌∷◌}
use Rattle.std.proofs.Common.{arith, get_or, inl, inr, length, refl, subst, take_all}
use Rattle.std.specs.List.{prefix_len}
use Rattle.std.proofs.lemmas.Bool.{agree_below_at, and_from, cases_eq, ne_eqb, or_parts, or_right}
use Rattle.url.specs.Ascii.{dot, percent_sign, slash}
use Rattle.url.specs.Path.{dot_len}
use Rattle.url.proofs.InputLemmas.{All-take-prefix_len, Passes}
use Rattle.uv_text.specs.Rows.{is_in_rows}
use Rattle.uv_text.proofs.RowsLemmas.{of_rows}
use Rattle.uv_compare.specs.declared.plain_links.TheConstants.{PLAIN_ROWS}
use Rattle.uv_compare.specs.PlainLinks.{HasNoDots, is_plain, is_plain_at, is_plain_byte, may_be_dot}

-- a byte in the rows is plain
in_plain_rows : (b : ℕ) → is_in_rows PLAIN_ROWS b ≡ true → is_plain_byte b ≡ true
in_plain_rows =
    of_rows is_plain_byte PLAIN_ROWS
    (λ b small. agree_below_at (is_in_rows PLAIN_ROWS) is_plain_byte 256 b refl small)

-- no dot begins the bytes, nor its escape, where their first byte doesn't begin one
undotted : (bytes : List ℕ) → may_be_dot (get_or bytes 0 0) ≡ false → dot_len bytes ≡ 0
undotted bytes none =
    let parts = or_parts (get_or bytes 0 0 == dot) (get_or bytes 0 0 == percent_sign) none in
    rw (parts.0, parts.1) refl

-- the first byte after a slash
first_after : (rest : List ℕ) → HasNoDots (slash ∷ rest) (suc (length rest)) → may_be_dot (get_or rest 0 0) ≡ false
first_after [] none = refl
first_after (b ∷ rest) none = none 0 (omega arith) refl

-- bytes of which each is plain, with no dot after a slash, are plain
plain_list : (bytes : List ℕ) → ((k : ℕ) → k < length bytes → is_plain_byte (get_or bytes k 0) ≡ true)
    → HasNoDots bytes (length bytes) → is_plain bytes ≡ true
unfolding is_plain_at
plain_list [] each none = refl
plain_list (b ∷ rest) each none =
    let next : (k : ℕ) → suc k + 1 ≡ suc (k + 1) = λ k. omega arith in
    let more = plain_list rest (λ k inside. each (suc k) (omega arith))
    (λ k inside same. subst (λ n. may_be_dot (get_or (b ∷ rest) n 0) ≡ false) (next k)
    (none (suc k) (omega arith) same)) in
    and_from _ _ (and_from _ _ (each 0 (omega arith)) (elim (cases_eq b slash) [
      | inr other ↦ rw (ne_eqb b slash other) refl
      | inl same ↦
          rw (undotted rest (first_after rest (subst (λ x. HasNoDots (x ∷ rest) (suc (length rest))) same none)))
          (or_right (not (b == slash)) true refl)
    ])) more

-- so it is where the rows have all of them
pub plain_rows : (bytes : List ℕ) → prefix_len (is_in_rows PLAIN_ROWS) bytes ≡ length bytes
    → HasNoDots bytes (length bytes) → is_plain bytes ≡ true
plain_rows bytes whole none =
    let test = is_in_rows PLAIN_ROWS in
    let each : All (Passes test) bytes =
    subst (All (Passes test)) (take_all (prefix_len test bytes) bytes (omega (arith, whole)))
    (All-take-prefix_len test bytes) in
    plain_list bytes (λ k inside. in_plain_rows (get_or bytes k 0) (each k 0 inside)) none
