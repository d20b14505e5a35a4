-- What a filter writes of one line more.
use Rattle.std.proofs.Common.{◌≡◌, ℕ, ◌<◌, Bool, true, false, List, [], ◌∷◌, ◌++◌, length, refl, sym, ap, ◌∙◌, subst}
use Rattle.std.proofs.Common.{append_assoc, append-nil}
use Rattle.uv_filter.specs.declared.fate.Fate.TheVariants.{TooLong}
use Rattle.uv_filter.specs.Filtered.{Filtered, Filtering, Filters, with_fate}
use Rattle.uv_filter.specs.Lines.{Line, open_line, over_line, whole}
use Rattle.uv_filter.specs.Progress.{passed, with_over}
use Rattle.uv_filter.proofs.LineLemmas.{text_long}

-- one line more
pub Filtered-snoc : (p : Filtering) (lines : List Line) (line : Line) (text said : List ℕ) (q r : Filtering)
    → Filtered p lines text q → Filters q line said r → Filtered p (lines ++ line ∷ []) (text ++ said) r
Filtered-snoc p [] line text said q r all one = (
  said,
  [],
  r,
  subst (λ s. Filters s line said r) all.1 one,
  (refl, refl),
  ap (λ t. t ++ said) all.0 ∙ sym (append-nil said),
)
Filtered-snoc p (l ∷ ls) line text said q r all one =
    let rest = all.1 in
    let next = all.2 in (
      all.0,
      rest ++ said,
      next,
      all.3,
      Filtered-snoc next ls line rest said q r all.4 one,
      ap (λ t. t ++ said) all.5 ∙ append_assoc all.0 rest said,
    )

-- a line that is too long stays as it was
pub over_fate : (q : Filtering) (closed : Bool) (l : List ℕ) → 65540 < length l
    → Filters q (record { bytes = l; closed = closed }) (whole (record { bytes = l; closed = closed }))
    (with_fate q TooLong)
over_fate q closed l long =
    record { fate = TooLong; is_fate = text_long q.is_first closed l long; written = refl; left = refl }

-- after the lines that have ended one that is too long already
pub with_ready : (b : Bool) (l : List ℕ) (start : Filtering) (lines : List Line) (closed out : List ℕ)
    (before now : Filtering) → (b ≡ true → 65540 < length l) → Filtered start lines closed before
    → out ≡ closed ++ passed b l → now ≡ with_over b before → Filtered start (lines ++ over_line b l) out now
with_ready true l start lines closed out before now long all is counted =
    let more = Filtered-snoc start lines (open_line l) closed (l ++ []) before (with_fate before TooLong) all
    (over_fate before false l (long refl)) in
    subst (λ q. Filtered start (lines ++ open_line l ∷ []) out q) (sym counted)
    (subst (λ t. Filtered start (lines ++ open_line l ∷ []) t (with_fate before TooLong))
    (ap (λ t. closed ++ t) (append-nil l) ∙ sym is) more)
with_ready false l start lines closed out before now long all is counted =
    subst (λ q. Filtered start (lines ++ []) out q) (sym counted)
    (subst (λ ls. Filtered start ls out before) (sym (append-nil lines))
    (subst (λ t. Filtered start lines t before) (sym (is ∙ append-nil closed)) all))
