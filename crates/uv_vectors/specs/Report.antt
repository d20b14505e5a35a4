-- The report on the cases of a file: a line for each case that fails, in order, and the line of counts.
use Rattle.std.specs.Prelude.{◌≡◌, ℕ, ◌+◌, zero, suc, Bool, true, false, List, [], ◌∷◌, ◌++◌, codes, count_by}
use Rattle.std.specs.Prelude.{decimal, length, sum_by}
use Rattle.std.specs.List.{AllZip}
use Rattle.serde_json.specs.Data.{Data}
use Rattle.uv_vectors.specs.declared.ends.CasesEnd.{CasesEnd}
use Rattle.uv_vectors.specs.declared.ends.CasesEnd.TheVariants.{AllPass, SomeFail}
use Rattle.uv_vectors.specs.Passes.{Checks}

-- how many of the cases pass
abbrev pub passed : List Bool → ℕ
passed answers = count_by (λ answer. answer) answers

-- what a case adds to the count of those that fail
abbrev pub fails : Bool → ℕ
fails true = 0
fails false = 1

-- how many of the cases fail
abbrev pub failed : List Bool → ℕ
failed answers = sum_by fails answers

-- the line of a case that fails, by its number
unfoldable pub fail_line : ℕ → List ℕ
fail_line number = codes "fail " ++ (decimal number ++ codes "\n")

-- the line of one case: none if it passes
abbrev pub case_line : ℕ → Bool → List ℕ
case_line number true = []
case_line number false = fail_line number

-- the lines of the cases from a number on
abbrev pub case_lines : ℕ → List Bool → List ℕ
case_lines number [] = []
case_lines number (answer ∷ rest) = case_line number answer ++ case_lines (number + 1) rest

-- the line of counts
unfoldable pub vector_counts : ℕ → ℕ → ℕ → List ℕ
vector_counts cases pass fail =
    codes "vectors " ++ (decimal cases ++ (codes " pass " ++ (decimal pass ++ (codes " fail "
    ++ (decimal fail ++ codes "\n")))))

-- the whole report
abbrev pub vector_text : List Bool → List ℕ
vector_text answers = case_lines 1 answers ++ vector_counts (length answers) (passed answers) (failed answers)

-- how a run ends by the number of cases that fail
abbrev pub end_by : ℕ → CasesEnd
end_by zero = AllPass
end_by (suc count) = SomeFail

-- how a run ends whose cases were checked so
abbrev pub checked_end : List Bool → CasesEnd
checked_end answers = end_by (failed answers)

-- these are the lines of the values that fail, and how many
pub record HasFailures (values : List Data) (count : ℕ) (lines : List ℕ) : Type 0 where
  pub answers : List Bool
  pub checked : AllZip Checks values answers
  pub counted : count ≡ failed answers
  pub listed : lines ≡ case_lines 1 answers

-- all values are checked, this is the report on them, and a run that writes it ends so
pub record IsReportOn (values : List Data) (end : CasesEnd) (text : List ℕ) : Type 0 where
  pub answers : List Bool
  pub checked : AllZip Checks values answers
  pub ends : end ≡ checked_end answers
  pub whole : text ≡ vector_text answers
