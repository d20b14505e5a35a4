-- Lemmas on the search for the first mark, and on its loads.
use Rattle.std.proofs.Common.{◌≡◌, ◌≢◌, ℕ, suc, ◌+◌, ◌*◌, ◌<◌, ◌≤◌, Bool, true, false, not, eqb, ne_eqb, cond, List, []}
use Rattle.std.proofs.Common.{◌∷◌, length, map, take, refl, ap, sym, ◌∙◌, arith}
use Rattle.std.specs.Prelude.{Option, None, Some, slice_index}
use Rattle.std.specs.List.{prefix_len}
use Rattle.std.proofs.lemmas.Bool.{eq-eqb, eqb-true, false≢true}
use Rattle.std.proofs.lemmas.List.{get_or-take, length-take}
use Rattle.std.proofs.lemmas.Simd.{length-chunk, none_from_empty_mask, run_in_chunk_fails, run_in_chunk_stops}
use Rattle.std.proofs.lemmas.Simd.{trailing_mask_l}
use lib.Count.{count_trailing_zeros}
use lib.Lanes.{chunk, mask_l}
use Rattle.memchr.specs.Find.{IsFirst, IsFirstByte, Nowhere, Passes, is_byte}
use Rattle.uv_model.specs.Path.{is_without}
use Rattle.uv_model.proofs.Texts.MarkLemmas.{is_without-more}
use Rattle.uv_grammar.specs.TextSplits.{IsFirstMark}

-- a text at none of whose places the mark is
pub nowhere : (mark : ℕ) (bytes : List ℕ) → ((k : ℕ) → k < length bytes → slice_index bytes k ≢ mark)
    → is_without mark bytes ≡ true
nowhere mark [] none = refl
nowhere mark (c ∷ rest) none =
    is_without-more mark c rest (ne_eqb c mark (none 0 (omega arith)))
    (nowhere mark rest (λ k below. none (suc k) (omega (arith, below))))

-- a mark that a search looks for and that it finds nowhere
pub not_found : (test : ℕ → Bool) (mark : ℕ) (bytes : List ℕ) → test mark ≡ true → IsFirstByte test bytes None
    → is_without mark bytes ≡ true
not_found test mark bytes wanted none =
    nowhere mark bytes (λ k below e. none k (omega arith) below (ap test e ∙ wanted))

-- what a search finds is the first mark
pub first_mark_found : (mark : ℕ) (bytes : List ℕ) (found : Option ℕ) → IsFirstByte (is_byte mark) bytes found
    → IsFirstMark mark bytes found
first_mark_found mark bytes None none = not_found (is_byte mark) mark bytes (eq-eqb mark mark refl) none
first_mark_found mark bytes (Some place) first =
    let before : is_without mark (take place bytes) ≡ true =
    nowhere mark (take place bytes) (λ k below e.
    let inside : k < place = let size = length-take place bytes in omega (arith, below, size) in
    first.0.before k (omega arith) inside
    (rw (sym (get_or-take place bytes k 0 inside) ∙ e) (eq-eqb mark mark refl))) in
    (first.0.high, eqb-true (slice_index bytes place) mark first.1, before)

-- ---- the lanes of a load

-- where a bit is set, a lane passes
some_lane : (p : ℕ → Bool) (xs : List ℕ) → 0 < mask_l (map p xs) → prefix_len (λ x. not (p x)) xs < length xs
some_lane p [] some = absurd (omega arith)
some_lane p (x ∷ xs) some =
    step (p x) (mask_l (map p xs)) (prefix_len (λ y. not (p y)) xs) (length xs) some (some_lane p xs)
  where
    step : (b : Bool) (n m l : ℕ) → 0 < cond b 1 0 + 2 * n → (0 < n → m < l) → cond (not b) (1 + m) 0 < suc l
    step true n m l some more = omega arith
    step false n m l some more = omega (arith, more (omega arith))

module _ (mark : ℕ) (bytes : List ℕ) (from lanes found : ℕ) (within : from + lanes ≤ length bytes)
    (mask : found ≡ mask_l (map (λ x. eqb x mark) (chunk from lanes bytes))) where
  -- if no bit is set, the byte is nowhere in the load
  pub none_of_load : found ≡ 0 → Nowhere (Passes (is_byte mark) bytes) from (from + lanes)
  none_of_load none = λ k low high here.
      false≢true (sym (none_from_empty_mask (λ x. eqb x mark) bytes from lanes 0 within (sym mask ∙ none) k low high)
      ∙ here)

  -- the lowest bit that is set is at the first such byte of the load
  pub first_of_load : lanes ≤ 64 → 0 < found
      → IsFirst (Passes (is_byte mark) bytes) from (from + lanes) (Some (from + count_trailing_zeros 64 found))
  first_of_load few some =
      let v = chunk from lanes bytes in
      let p : ℕ → Bool = λ x. eqb x mark in
      let r = count_trailing_zeros 64 found in
      let size = length-chunk from lanes bytes within in
      let counted : r ≡ prefix_len (λ x. not (p x)) v =
      ap (count_trailing_zeros 64) mask ∙ trailing_mask_l p 64 v (omega (arith, size)) (omega (arith, mask)) in
      let short : r < lanes = omega (arith, counted, size, some_lane p v (omega (arith, mask))) in (
        record {
          low = omega arith;
          high = omega (arith, short);
          before = λ k low high here.
              false≢true (sym (run_in_chunk_fails p bytes from lanes r 0 within counted k low high) ∙ here);
        },
        run_in_chunk_stops p bytes from lanes r 0 within counted short,
      )
