-- The rows of specs/Rows/ParserProfile hold: the runs by computation, and the rest by the law that texts are decided.
use Rattle.std.proofs.Common.{◌≡◌, ℕ, Bool, true, not, ◌==◌, List, [], ◌∷◌, Option, Some, None, refl, sym}
use Rattle.std.proofs.Common.{ap, ◌∙◌, inl, inr, eqb-true}
use Rattle.std.specs.Prelude.{is_some}
use Rattle.std.specs.List.{list_all}
use Rattle.std.proofs.lemmas.Bool.{and_parts, false≢true}
use Rattle.uv_model.specs.declared.profile.Profile.TheVariants.{Parser}
use Rattle.uv_model.specs.Records.Denote.{denote}
use Rattle.uv_model.specs.Records.Url.{Url}
use Rattle.uv_model.specs.Records.Serialize.{serial}
use Rattle.uv_model.specs.Records.WellFormed.{MayBeWellFormed, WellFormed}
use Rattle.uv_model.proofs.Records.DenotedRecords.{denoted_records_are_well_formed}
use Rattle.uv_parser.specs.Rows.{Row, AllHold, Answer, answer_of, done, goes_on, has_stopped, is_done}
use Rattle.uv_parser.specs.Rows.ParserProfile.{AreChecked, Checks, IsCheckedTable, ParserProfileRows, domain_rows}
use Rattle.uv_parser.specs.Rows.ParserProfile.{drive_rows, fewer_rows, file_references, file_rows, host_rows}
use Rattle.uv_parser.specs.Rows.ParserProfile.{number_rows}
use Rattle.uv_parser.specs.Rows.ParserProfile.{opaque_references, other_references, plain_rows, refused_domains}
use Rattle.uv_parser.specs.Rows.ParserProfile.{refused_marks, refused_numbers, refused_spaces, segment_rows, space_rows}
use Rattle.uv_parser.specs.Rows.ParserProfile.{spaced_base, special_references}
use Rattle.uv_parser.specs.Rows.References.{drive_base, file_host_base, other_base, root_base, urn_base}
use Rattle.uv_parser.specs.Run.{Outcome, Done, Stopped, Going, run, step_bound}
use Rattle.uv_parser.specs.Laws.DecidedTexts.{IsDecided}
use Rattle.uv_parser.proofs.Done.DecidedBases.{texts_are_decided}
use Rattle.uv_parser.proofs.Rows.Computing.{parser}
use Rattle.uv_parser.proofs.Rows.RowsLemmas.{all_hold}

-- ---- from a run to what the profile says

-- a run with the answer of a URL is done with it
done_is : (outcome : Outcome) (url : Url) (text : List ℕ) → answer_of outcome ≡ is_done url text → outcome ≡ Done url
done_is (Done other) url text e = (let same : other ≡ url = cc in ap Done same)
done_is (Stopped place) url text e = absurd cc
done_is (Going machine) url text e = absurd cc

-- a run that is done has no other answer than a URL
not_stopped : (outcome : Outcome) (url : Url) (place : ℕ) → outcome ≡ Done url
    → answer_of outcome ≡ has_stopped place → ⊥
not_stopped outcome url place done e = (let answer = sym (ap answer_of done) ∙ e in cc)

-- and it has ended
not_going : (outcome : Outcome) (url : Url) → outcome ≡ Done url → answer_of outcome ≡ goes_on → ⊥
not_going outcome url done e = (let answer = sym (ap answer_of done) ∙ e in cc)

-- nor has one that has stopped
stopped_not_going : (outcome : Outcome) (place : ℕ) → outcome ≡ Stopped place → answer_of outcome ≡ goes_on → ⊥
stopped_not_going outcome place stops e = (let answer = sym (ap answer_of stops) ∙ e in cc)

-- one row
checked_by : (row : Row) (answer : Answer) → IsDecided row.base row.text
    → answer_of (run row.base row.text (step_bound row.text)) ≡ answer → Checks row answer
checked_by row (is_done url text) decided e =
    decided.only url (done_is (run row.base row.text (step_bound row.text)) url text e)
checked_by row (has_stopped place) decided e =
    λ parts valid. not_stopped (run row.base row.text (step_bound row.text)) (denote row.base parts) place
    (decided.silent parts valid) e
checked_by row goes_on decided e =
    elim decided.ended [
      | inl (parts, valid) ↦
          not_going (run row.base row.text (step_bound row.text)) (denote row.base parts) (decided.silent parts valid) e
      | inr (place, stops) ↦ stopped_not_going (run row.base row.text (step_bound row.text)) place stops e
    ]

-- each base of a table is well formed
abbrev AreWellBased : List Row → Type 0
AreWellBased [] = Unit {0}
AreWellBased (row ∷ rows) = MayBeWellFormed Parser row.base × AreWellBased rows

-- the row's run goes up to the bound
abbrev goes_up : Row → Bool
goes_up row = row.steps == step_bound row.text

-- each row
all_checked : (rows : List Row) → AllHold rows → AreWellBased rows → list_all goes_up rows ≡ true → AreChecked rows
all_checked [] hold well up = tt
all_checked (row ∷ rows) hold well up =
    let each = and_parts (goes_up row) (list_all goes_up rows) up in
    let steps : row.steps ≡ step_bound row.text = eqb-true row.steps (step_bound row.text) each.0 in
    let holds : answer_of (run row.base row.text (step_bound row.text)) ≡ row.answer
    = sym (ap (λ n. answer_of (run row.base row.text n)) steps) ∙ hold.0 in (
      checked_by row row.answer (texts_are_decided row.base row.text well.0) holds,
      all_checked rows hold.1 well.1 each.1,
    )

-- a table
checked : (rows : List Row) → AllHold rows → AreWellBased rows → list_all goes_up rows ≡ true → IsCheckedTable rows
checked rows hold well up = (hold, all_checked rows hold well up)

-- a table without bases
well_alone : (rows : List Row) → list_all (λ row. not (is_some row.base)) rows ≡ true → AreWellBased rows
well_alone [] none = tt
well_alone (row ∷ rows) none =
    let each = and_parts (not (is_some row.base)) (list_all (λ other. not (is_some other.base)) rows) none in
    (one row.base each.0, well_alone rows each.1)
  where
    one : (base : Option Url) → not (is_some base) ≡ true → MayBeWellFormed Parser base
    one None none = tt
    one (Some url) none = absurd (false≢true none)

-- so such a table is checked
alone : (rows : List Row) → AllHold rows → list_all (λ row. not (is_some row.base)) rows ≡ true
    → list_all goes_up rows ≡ true → IsCheckedTable rows
alone rows hold none up = checked rows hold (well_alone rows none) up

-- ---- the bases

-- a URL with which the run on its own text is done is well formed, as what the parts of a valid text denote is
own_run : (url : Url) (text : List ℕ) → answer_of (run None text (step_bound text)) ≡ is_done url (serial url)
    → WellFormed Parser url
own_run url text e =
    let (parts, valid, same) = (texts_are_decided None text tt).only url (done_is _ url (serial url) e) in
    rw same (denoted_records_are_well_formed.same Parser None text parts tt valid)

-- `http://h/`
root_well : WellFormed Parser root_base
unfolding parser
root_well = own_run root_base (serial root_base) refl

-- `file:///C:/d/f`
drive_well : WellFormed Parser drive_base
unfolding parser
drive_well = own_run drive_base (serial drive_base) refl

-- `file://h/a`
file_host_well : WellFormed Parser file_host_base
unfolding parser
file_host_well = own_run file_host_base (serial file_host_base) refl

-- `foo:/a`
other_well : WellFormed Parser other_base
unfolding parser
other_well = own_run other_base (serial other_base) refl

-- `urn:a`
urn_well : WellFormed Parser urn_base
unfolding parser
urn_well = own_run urn_base (serial urn_base) refl

-- `urn:a b`
spaced_well : WellFormed Parser spaced_base
unfolding parser
spaced_well = own_run spaced_base (serial spaced_base) refl

-- each table
pub parser_profile_rows_hold : ParserProfileRows
unfolding parser
parser_profile_rows_hold = record {
  files = checked file_rows (all_hold file_rows refl)
      (tt, (tt, (drive_well, tt))) refl;
  hosts = alone host_rows (all_hold host_rows refl) refl refl;
  domains = alone domain_rows (all_hold domain_rows refl) refl refl;
  mapped_numbers = alone number_rows (all_hold number_rows refl) refl refl;
  fewer_numbers = alone fewer_rows (all_hold fewer_rows refl) refl refl;
  segments = checked segment_rows (all_hold segment_rows refl)
      (tt, (tt, (tt, (tt, (tt, (tt, (root_well, tt))))))) refl;
  drives = checked drive_rows (all_hold drive_rows refl)
      (tt, (tt, (file_host_well, tt))) refl;
  spaces = alone space_rows (all_hold space_rows refl) refl refl;
  plain_hosts = alone plain_rows (all_hold plain_rows refl) refl refl;
  no_numbers = alone refused_numbers (all_hold refused_numbers refl) refl refl;
  no_domains = alone refused_domains (all_hold refused_domains refl) refl refl;
  marks = alone refused_marks (all_hold refused_marks refl) refl refl;
  no_spaces = alone refused_spaces (all_hold refused_spaces refl) refl refl;
  special_base = checked special_references (all_hold special_references refl)
      (root_well, (root_well, tt)) refl;
  file_base = checked file_references (all_hold file_references refl)
      (drive_well, (drive_well, (file_host_well, (file_host_well, tt)))) refl;
  other_base = checked other_references (all_hold other_references refl)
      (other_well, (other_well, tt)) refl;
  opaque_base = checked opaque_references (all_hold opaque_references refl)
      (urn_well, (urn_well, (spaced_well, (spaced_well, tt)))) refl;
}
