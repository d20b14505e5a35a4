-- The lines of the cases that fail, one value after the other.
use Rattle.std.proofs.Common.{◌≡◌, ◌∙◌, ℕ, ◌+◌, ◌-◌, ◌<◌, ◌≤◌, Bool, true, false, List, [], ◌∷◌, ◌++◌, ap, ap₂, refl}
use Rattle.std.proofs.Common.{sym, subst, map, length, take, get_or, append_assoc, append-nil, arith, cond}
use Rattle.std.specs.List.{AllZip}
use Rattle.std.proofs.lemmas.List.{length-map, length-take-le, map-append, take_all, take_more}
use Rattle.std.proofs.lemmas.List.Sums.{sum_by-cons, sum_by_push}
use Rattle.std.proofs.lemmas.Slice.Zip.{AllZip-long}
use Rattle.serde_json.specs.Data.{Data}
use Rattle.serde_json.specs.View.{items_view, view}
use Rattle.serde_json.specs.declared.value.Value.{Value}
use Rattle.uv_vectors.specs.declared.ends.CasesEnd.{CasesEnd}
use Rattle.uv_vectors.specs.Case.{list_of}
use Rattle.uv_vectors.specs.Passes.{Checks}
use Rattle.uv_vectors.proofs.CaseLemmas.{list_of-items_of}
use Rattle.uv_vectors.specs.Report.{HasFailures, IsReportOn, case_line, case_lines, end_by, failed, fails, passed}
use Rattle.uv_vectors.specs.Report.{vector_counts}

-- what holds of two lists place by place, and of one more of each
all_zip_push : {A B : Type 0} (R : A → B → Type 0) (xs : List A) (ys : List B) (x : A) (y : B) → AllZip R xs ys → R x y
    → AllZip R (xs ++ x ∷ []) (ys ++ y ∷ [])
all_zip_push R [] [] x y all one = (one, tt)
all_zip_push R [] (b ∷ ys) x y all one = absurd all
all_zip_push R (a ∷ xs) [] x y all one = absurd all
all_zip_push R (a ∷ xs) (b ∷ ys) x y all one = (all.0, all_zip_push R xs ys x y all.1 one)

-- the line of one answer more
case_lines-push : (number : ℕ) (answers : List Bool) (answer : Bool)
    → case_lines number (answers ++ answer ∷ [])
    ≡ case_lines number answers ++ case_line (number + length answers) answer
case_lines-push number [] answer =
    append-nil (case_line number answer) ∙ ap (λ n. case_line n answer) (omega arith)
case_lines-push number (first ∷ rest) answer =
    let next : number + 1 + length rest ≡ number + length (first ∷ rest) = omega arith in
    ap (λ lines. case_line number first ++ lines)
    (case_lines-push (number + 1) rest answer ∙ ap (λ n. case_lines (number + 1) rest ++ case_line n answer) next)
    ∙ sym (append_assoc (case_line number first) (case_lines (number + 1) rest)
    (case_line (number + length (first ∷ rest)) answer))

-- the failures, together with another value's
pub failures_push : (values : List Data) (value : Data) (answer : Bool) (count : ℕ) (lines : List ℕ)
    → HasFailures values count lines → Checks value answer
    → HasFailures (values ++ value ∷ []) (count + fails answer) (lines ++ case_line (1 + length values) answer)
failures_push values value answer count lines before checked = record {
  answers = before.answers ++ answer ∷ [];
  checked = all_zip_push Checks values before.answers value answer before.checked checked;
  counted = ap (λ n. n + fails answer) before.counted ∙ sym (sum_by_push fails before.answers answer);
  listed =
      ap₂ (λ l n. l ++ case_line (1 + n) answer) before.listed
      (sym (AllZip-long Checks values before.answers before.checked))
      ∙ sym (case_lines-push 1 before.answers answer);
}

-- the failures of the values up to the next place
pub failures_more : (values : List Value) (at : ℕ) (value : Value) (answer : Bool) (count : ℕ) (lines new : List ℕ)
    → at < length values → value ≡ get_or values at value → HasFailures (map view (take at values)) count lines
    → Checks (view value) answer → new ≡ lines ++ case_line (at + 1) answer
    → HasFailures (map view (take (at + 1) values)) (count + fails answer) new
failures_more values at value answer count lines new within here before checked is =
    let more : take (at + 1) values ≡ take at values ++ value ∷ [] =
    take_more values at value within ∙ ap (λ v. take at values ++ v ∷ []) (sym here) in
    let seen : map view (take (at + 1) values) ≡ map view (take at values) ++ view value ∷ [] =
    ap (map view) more ∙ map-append view (take at values) (value ∷ []) in
    let size : 1 + length (map view (take at values)) ≡ at + 1 =
    (let mapped = length-map (take at values) view in
    let taken = length-take-le at values (omega (arith, within)) in
    omega (arith, mapped, taken, within)) in
    let text : new ≡ lines ++ case_line (1 + length (map view (take at values))) answer =
    is ∙ ap (λ n. lines ++ case_line n answer) (sym size) in
    rw (seen, text) (failures_push (map view (take at values)) (view value) answer count lines before checked)

-- the failures of all values
pub failures_all : (values : List Value) (at count : ℕ) (lines : List ℕ) → length values ≤ at
    → HasFailures (map view (take at values)) count lines → HasFailures (list_of (items_view values)) count lines
failures_all values at count lines end before =
    subst (λ all. HasFailures all count lines)
    (ap (map view) (take_all at values end) ∙ sym (list_of-items_of (map view values))) before

-- how many values there are
pub length-items_view : (values : List Value) → length values ≡ length (list_of (items_view values))
length-items_view values =
    sym (length-map values view) ∙ ap (λ all. length all) (sym (list_of-items_of (map view values)))

-- each case passes or fails
pub passed_and_failed : (answers : List Bool) → passed answers + failed answers ≡ length answers
passed_and_failed [] = refl
passed_and_failed (true ∷ rest) =
    let h = passed_and_failed rest in
    let pass : passed (true ∷ rest) ≡ 1 + passed rest = sum_by-cons (λ answer. cond answer 1 0) true rest in
    let fail : failed (true ∷ rest) ≡ 0 + failed rest = sum_by-cons fails true rest in
    omega (arith, h, pass, fail)
passed_and_failed (false ∷ rest) =
    let h = passed_and_failed rest in
    let pass : passed (false ∷ rest) ≡ 0 + passed rest = sum_by-cons (λ answer. cond answer 1 0) false rest in
    let fail : failed (false ∷ rest) ≡ 1 + failed rest = sum_by-cons fails false rest in
    omega (arith, h, pass, fail)

-- the report of the failures and the counts
pub report_of : (values : List Data) (end : CasesEnd) (size count : ℕ) (lines text : List ℕ)
    → HasFailures values count lines → size ≡ length values
    → text ≡ lines ++ vector_counts size (size - count) count → end ≡ end_by count
    → IsReportOn values end text
report_of values end size count lines text failures sized whole ends =
    let all : size ≡ length failures.answers =
    sized ∙ sym (AllZip-long Checks values failures.answers failures.checked) in
    let both = passed_and_failed failures.answers in
    let same = failures.counted in
    let pass : size - count ≡ passed failures.answers = omega (arith, all, both, same) in
    record {
      answers = failures.answers;
      checked = failures.checked;
      ends = ends ∙ ap end_by failures.counted;
      whole = rw (← failures.listed, ← pass, ← all, ← failures.counted) whole;
    }
