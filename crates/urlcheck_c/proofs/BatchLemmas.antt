-- Texts that are checked one by one, and columns that are filled row by row.
use Rattle.std.proofs.Common.{◌≡◌, ◌≢◌, ◌∙◌, ℕ, suc, ◌+◌, ◌≤◌, ◌<◌, ◌==◌, lit<, List, [], ◌∷◌, ◌++◌, length, take}
use Rattle.std.proofs.Common.{drop, map}
use Rattle.std.proofs.Common.{set, refl, sym, ap, subst, arith, if◌then◌else◌, Bool, true, false}
use Rattle.std.specs.Prelude.{Option}
use Rattle.std.proofs.Math.Seq.{drop-append_seam, take-append_seam}
use Rattle.std.proofs.lemmas.List.{length-append, length-drop, length-map, map-append, take-append-drop}
use Rattle.std.proofs.lemmas.Bool.{ne_eqb}
use Rattle.std.proofs.lemmas.Grind.{take-set_at}
use Rattle.urlcheck_c.specs.declared.bases.Base.{Base}
use Rattle.urlcheck_c.specs.declared.finding.Finding.{Finding}
use Rattle.urlcheck_c.specs.Answer.{IsFound}
use Rattle.urlcheck_c.specs.Batch.{AreChecked, Columns, IsColumn, IsPut, one_if_valid}
use Rattle.urlcheck_c.specs.Offsets.{row_count, row_text}
use Rattle.urlcheck_c.proofs.StoreLemmas.{kept_more}

-- ---- columns

-- a value more is in a column
pub column_more : {X : Type 0} (rows row : ℕ) (values old now new : List X) (value : X) → length values ≡ row
    → row < rows → IsColumn rows values old now → IsPut rows row value now new
    → IsColumn rows (values ++ (value ∷ [])) old new
column_more rows row values old now new value count below column put = (
  λ room.
      let is : now ≡ values ++ drop (length values) old = column.0 room in
      let long : length now ≡ length old
      = ap length is ∙ length-append values (drop (length values) old)
      ∙ rw (length-drop (length values) old) (omega (arith, count, below, room)) in
      let written : new ≡ set now row value = put.0 (omega (arith, long, room)) in
      let here : row < length now = omega (arith, long, room, below) in
      let front : take row now ≡ values
      = ap (λ n. take n now) (sym count) ∙ ap (take (length values)) is
      ∙ take-append_seam values (drop (length values) old) in
      let back : drop row now ≡ drop row old
      = ap (λ n. drop n now) (sym count) ∙ ap (drop (length values)) is
      ∙ drop-append_seam values (drop (length values) old) ∙ ap (λ n. drop n old) count in
      let more : length (values ++ (value ∷ [])) ≡ row + 1
      = length-append values (value ∷ []) ∙ ap (λ n. n + 1) count in
      written ∙ sym (take-append-drop (row + 1) (set now row value))
      ∙ ap (λ t. t ++ drop (row + 1) (set now row value))
      (take-set_at now row (row + 1) value refl here ∙ ap (λ t. t ++ (value ∷ [])) front)
      ∙ ap (λ t. (values ++ (value ∷ [])) ++ t) (kept_more old now row value here back)
      ∙ ap (λ n. (values ++ (value ∷ [])) ++ drop n old) (sym more),
  λ short.
      let same : now ≡ old = column.1 short in
      put.1 (rw same short) ∙ same,
)

-- a value more is in a column of what a function gives of elements
pub mapped_more : {X : Type 0} (f : Finding → X) (rows row : ℕ) (found : List Finding) (last : Finding)
    (old now new : List X) → length found ≡ row → row < rows → IsColumn rows (map f found) old now
    → IsPut rows row (f last) now new → IsColumn rows (map f (found ++ (last ∷ []))) old new
mapped_more f rows row found last old now new count below column put =
    subst (λ values. IsColumn rows values old new) (sym (map-append f found (last ∷ [])))
    (column_more rows row (map f found) old now new (f last) (length-map found f ∙ count) below column put)

-- ---- the texts

bit_at_most : (b : Bool) → (if b then 1 else 0) ≤ 1
bit_at_most true = omega arith
bit_at_most false = omega arith

-- a text is one valid text at most
pub one_at_most : (finding : Finding) → one_if_valid finding ≤ 1
one_at_most finding = bit_at_most (finding.verdict == 0)

-- a text more is checked
pub checked_more : (number : ℕ) (base : Option Base) (texts offsets : List ℕ) (row : ℕ) (old now new : Columns) (valid more : ℕ)
    (last : Finding) → row < row_count offsets → AreChecked number base texts offsets row old now valid
    → IsFound number base (row_text texts offsets row) last → more ≡ valid + one_if_valid last
    → IsPut (row_count offsets) row last.verdict now.verdicts new.verdicts
    → IsPut (row_count offsets) row last.rule now.rules new.rules
    → IsPut (row_count offsets) row last.place now.places new.places
    → AreChecked number base texts offsets (row + 1) old new more
checked_more number base texts offsets row old now new valid more last below checked found is verdict rule place =
    let next : suc row ≡ row + 1 = omega arith in
    let rows = row_count offsets in
    subst (λ n. AreChecked number base texts offsets n old new more) next
    (record {
      found = checked.found ++ (last ∷ []);
      checked = (checked.found, valid, last, checked.checked, found, refl, is);
      count = length-append checked.found (last ∷ []) ∙ omega (arith, checked.count);
      few = omega (arith, checked.few, is, one_at_most last);
      verdicts = mapped_more (λ f. f.verdict) rows row checked.found last old.verdicts now.verdicts new.verdicts
          checked.count below checked.verdicts verdict;
      rules = mapped_more (λ f. f.rule) rows row checked.found last old.rules now.rules new.rules
          checked.count below checked.rules rule;
      places = mapped_more (λ f. f.place) rows row checked.found last old.places now.places new.places
          checked.count below checked.places place;
    })

-- ---- how many are valid

-- one more is valid
pub one_more : (finding : Finding) (valid : ℕ) → finding.verdict ≡ 0 → valid + 1 ≡ valid + one_if_valid finding
one_more finding valid is = rw is refl

-- no more is
pub none_more : (finding : Finding) (valid : ℕ) → finding.verdict ≢ 0 → valid ≡ valid + one_if_valid finding
none_more finding valid other =
    let none : one_if_valid finding ≡ 0 = rw (ne_eqb finding.verdict 0 other) refl in omega (arith, none)
