-- The rows of specs/Rows/SilentDifferences hold: the runs are done, and a decision on the cut finds the difference.
use Rattle.std.proofs.Common.{◌≡◌, ◌≢◌, ℕ, Bool, true, false, ◌==◌, List, [], ◌∷◌, Option, Some, None, length}
use Rattle.std.proofs.Common.{refl, sym, ap, ◌∙◌, inl, inr, ◌⊎◌, eqb-true, subst}
use Rattle.std.specs.Prelude.{IsSome, is_some, option_map}
use Rattle.std.proofs.lemmas.Bool.{false≢true}
use Rattle.std.proofs.lemmas.Option.{none-some, same_Some}
use Rattle.uv_model.specs.declared.profile.Profile.TheVariants.{Standard, Parser}
use Rattle.uv_model.specs.declared.host.Host.{Host}
use Rattle.uv_model.specs.declared.host.Host.TheVariants as host
use Rattle.uv_model.specs.declared.scheme.Class.TheVariants.{File, Other}
use Rattle.uv_model.specs.Ascii.{space}
use Rattle.uv_model.specs.Cut.{Cut, class_in, cut_of, starts_with_two_slashes, texts_of}
use Rattle.uv_model.specs.Hosts.Domain.{has_lengths, has_permitted, strict_form}
use Rattle.uv_model.specs.Parts.{Parts}
use Rattle.uv_model.specs.Path.{is_without, starts_with_drive_segment}
use Rattle.uv_model.specs.Records.Url.{Url}
use Rattle.uv_model.specs.Valid.{IsHostText, Valid}
use Rattle.uv_model.specs.Violations.Violation.{HasHost}
use Rattle.uv_model.proofs.Cuts.CutLemmas.{cut_is_computed}
use Rattle.uv_model.proofs.Deciding.Decisions.{all_three, below, both, either, is_false, is_file_class}
use Rattle.uv_model.proofs.Deciding.Decisions.{is_true, isnt_other_class, other_text, present, proof_of, same_option}
use Rattle.uv_model.proofs.Deciding.Decisions.{same_text}
use Rattle.uv_model.proofs.Deciding.DecidedViolations.{has_host}
use Rattle.uv_parser.specs.HostParser.{parse_host}
use Rattle.uv_parser.specs.Ipv4Parser.{read_numbers}
use Rattle.uv_parser.specs.Laws.Differences.{Differs, HasDriveAfterHost, HasEmptyAuthority, HasEmptyFirstSegment}
use Rattle.uv_parser.specs.Laws.Differences.{HasForeignHost, HasSpaceInPath, HostDiffers}
use Rattle.uv_parser.specs.Rows.{Answer, Row, AllHold, answer_of, computed, goes_on, has_stopped, is_done}
use Rattle.uv_parser.specs.Rows.ParserProfile.{file_rows, host_rows, domain_rows, number_rows, segment_rows}
use Rattle.uv_parser.specs.Rows.ParserProfile.{drive_rows, fewer_rows, space_rows}
use Rattle.uv_parser.specs.Rows.SilentDifferences.{AllDiffer, DiffersSilently, SilentDifferenceRows}
use Rattle.uv_parser.specs.Run.{Stopped, run, step_bound}
use Rattle.uv_parser.proofs.Decided.SilentOrStopped.{silent_or_stops}
use Rattle.uv_parser.proofs.Differences.SilentDifferences.{silent_valid_or_differs}
use Rattle.uv_parser.proofs.HostParsing.Ipv4ParserLemmas.{numbers_read}
use Rattle.uv_parser.proofs.HostParsing.Ipv4Taken.{numbers_taken}
use Rattle.uv_parser.proofs.HostParsing.SpecialHosts.{host_from_parser}
use Rattle.uv_parser.proofs.Rows.Computing.{parser}
use Rattle.uv_parser.proofs.Rows.ParserProfile.{parser_profile_rows_hold}
use Rattle.uv_parser.proofs.Running.RunsStopped.{RunStops}

-- ---- from a run that is done to the parts

-- the answer is a URL
abbrev is_answered : Answer → Bool
is_answered (is_done url text) = true
is_answered (has_stopped place) = false
is_answered goes_on = false

-- a run that has stopped has another answer
not_answered : (answer : Answer) (place : ℕ) → answer_of (Stopped place) ≡ answer → is_answered answer ≡ true → ⊥
not_answered answer place e done = false≢true (ap is_answered e ∙ done)

-- the parser is silent on the text of a row whose run is done
silent_row : (row : Row) → (row.steps == step_bound row.text) ≡ true → is_answered row.answer ≡ true
    → computed row ≡ row.answer → (parts : Parts) × Valid Parser row.base row.text parts
silent_row row full done holds = by_run (silent_or_stops row.base row.text)
  where
    by_run : ((parts : Parts) × Valid Parser row.base row.text parts) ⊎ RunStops row.base row.text
        → (parts : Parts) × Valid Parser row.base row.text parts
    by_run (inl found) = found
    by_run (inr stops) =
        let steps : row.steps ≡ step_bound row.text = eqb-true row.steps (step_bound row.text) full in
        let stopped : run row.base row.text row.steps ≡ Stopped stops.0
        = ap (run row.base row.text) steps ∙ stops.1 in
        absurd (not_answered row.answer stops.0 (sym (ap answer_of stopped) ∙ holds) done)

-- ---- a table by a decision on the cut

-- a decision for each row: the run goes up to the bound, and it is done, and the cut has what is looked for
abbrev AllFound : (Option Url → Cut → Type 0) → List Row → Type 0
AllFound OnCut [] = Unit {0}
AllFound OnCut (row ∷ rows) =
    (((row.steps == step_bound row.text) ≡ true) × (is_answered row.answer ≡ true)
    × OnCut row.base (cut_of row.base row.text)) × AllFound OnCut rows

-- the decision on a table
abbrev all_found : (OnCut : Option Url → Cut → Type 0) → ((base : Option Url) (cut : Cut) → Option (OnCut base cut))
    → (rows : List Row) → Option (AllFound OnCut rows)
all_found OnCut decide [] = Some tt
all_found OnCut decide (row ∷ rows) =
    both
    (all_three (is_true (row.steps == step_bound row.text)) (is_true (is_answered row.answer))
    (decide row.base (cut_of row.base row.text)))
    (all_found OnCut decide rows)

-- so each row has the difference, which is one of those that are named
all_differ : (difference : Option Url → Parts → Type 0) (OnCut : Option Url → Cut → Type 0)
    → ((base : Option Url) (parts : Parts) → OnCut base (texts_of parts)
    → difference base parts × Differs base parts)
    → (rows : List Row) → AllHold rows → AllFound OnCut rows → AllDiffer difference rows
all_differ difference OnCut named [] hold found = tt
all_differ difference OnCut named (row ∷ rows) hold ((full, done, here), rest) =
    let (parts, silent) = silent_row row full done hold.0 in
    let texts : texts_of parts ≡ cut_of row.base row.text
    = cut_is_computed row.base row.text (texts_of parts) silent.cut in
    let both = named row.base parts (subst (λ (cut : Cut). OnCut row.base cut) (sym texts) here) in
    let law = silent_valid_or_differs row.base row.text parts silent in
    let first : DiffersSilently difference row
    = record { parts = parts; silent = silent; differs = both.0; refused = law.never_both both.1 } in
    (first, all_differ difference OnCut named rows hold.1 rest)

-- ---- the differences

-- an empty authority of class File with no path
abbrev EmptyAuthority : Option Url → Cut → Type 0
EmptyAuthority base cut = (class_in base cut.scheme ≡ File) × (cut.host_text ≡ Some []) × (cut.path_text ≡ [])

abbrev empty_authority : (base : Option Url) (cut : Cut) → Option (EmptyAuthority base cut)
empty_authority base cut =
    all_three (is_file_class (class_in base cut.scheme)) (same_option same_text cut.host_text (Some []))
    (same_text cut.path_text [])

-- an empty first segment
abbrev EmptyFirst : Option Url → Cut → Type 0
EmptyFirst base cut = IsSome cut.host_text × (starts_with_two_slashes cut.path_text ≡ true)

abbrev empty_first : (base : Option Url) (cut : Cut) → Option (EmptyFirst base cut)
empty_first base cut = both (is_true (is_some cut.host_text)) (is_true (starts_with_two_slashes cut.path_text))

-- a drive letter after a host
abbrev DriveAfterHost : Option Url → Cut → Type 0
DriveAfterHost base cut =
    (class_in base cut.scheme ≡ File) × HasHost base cut.scheme cut.host_text
    × (starts_with_drive_segment cut.path_text ≡ true)

abbrev drive_after_host : (base : Option Url) (cut : Cut) → Option (DriveAfterHost base cut)
drive_after_host base cut =
    all_three (is_file_class (class_in base cut.scheme)) (has_host base cut.scheme cut.host_text)
    (is_true (starts_with_drive_segment cut.path_text))

-- a space in the path
abbrev SpaceInPath : Option Url → Cut → Type 0
SpaceInPath base cut = is_without space cut.path_text ≡ false

abbrev space_in_path : (base : Option Url) (cut : Cut) → Option (SpaceInPath base cut)
space_in_path base cut = is_false (is_without space cut.path_text)

-- a host that the parser makes of a text, and that differs
abbrev ForeignHost : Option Url → Cut → Type 0
ForeignHost base cut =
    (class_in base cut.scheme ≢ Other)
    × ((text : List ℕ) × (cut.host_text ≡ Some text)
    × ((value : Host) × IsHostText Parser text value × HostDiffers text value))

-- a text that isn't numbers, or fewer than four, isn't an IPv4 text
abbrev numbers_differ : (text : List ℕ) (value : ℕ) → Option (HostDiffers text (host.V4 value))
numbers_differ text value = by_numbers (read_numbers text) refl
  where
    by_numbers : (o : Option (List ℕ)) → read_numbers text ≡ o → Option (HostDiffers text (host.V4 value))
    by_numbers None none = Some (inl (λ other is. none-some is.0 (sym none ∙ numbers_read is.0 text is.1)))
    by_numbers (Some numbers) read =
        option_map (λ few. inr (numbers, numbers_taken text numbers read, few)) (below (length numbers) 4)

-- the strict form isn't this one
abbrev other_form : (o : Option (List ℕ)) (form : List ℕ) → Option (o ≢ Some form)
other_form None form = Some (λ same. none-some form same)
other_form (Some other) form =
    option_map (λ differ. λ same. differ (same_Some other form same)) (other_text other form)

-- what a text with this host can have that a valid host text hasn't
abbrev host_differs : (text : List ℕ) (value : Host) → Option (HostDiffers text value)
host_differs text (host.Domain form) =
    either (is_false (has_permitted Standard text))
    (either (other_form (strict_form text) form) (is_false (has_lengths form)))
host_differs text (host.V4 value) = numbers_differ text value
host_differs text _ = None

abbrev foreign_host : (base : Option Url) (cut : Cut) → Option (ForeignHost base cut)
foreign_host base cut =
    both (isnt_other_class (class_in base cut.scheme))
    (present cut.host_text
    (λ text given. present (parse_host true text)
    (λ value made. option_map
    (λ differs. (text, given, (value, host_from_parser text value made, differs))) (host_differs text value))))

-- a foreign host is the host of the parts
foreign_named : (base : Option Url) (parts : Parts) → ForeignHost base (texts_of parts)
    → HasForeignHost base parts × Differs base parts
foreign_named base parts (class, (text, given, (value, taken, differs))) =
    let is : HasForeignHost base parts
    = record { class = class; text = text; given = given; host = value; taken = taken; differs = differs } in
    (is, inl is)

-- ---- the tables

-- a table of texts with a foreign host
hosts_differ : (rows : List Row) → AllHold rows → IsSome (all_found ForeignHost foreign_host rows)
    → AllDiffer HasForeignHost rows
hosts_differ rows hold found =
    all_differ HasForeignHost ForeignHost foreign_named rows hold
    (proof_of (all_found ForeignHost foreign_host rows) found)

-- each table
pub silent_difference_rows_hold : SilentDifferenceRows
unfolding parser
silent_difference_rows_hold =
    let runs = parser_profile_rows_hold in
    record {
      empty_authority = all_differ HasEmptyAuthority EmptyAuthority (λ base parts is. (is, inr (inr (inr (inl is)))))
          file_rows runs.files.0 (proof_of (all_found EmptyAuthority empty_authority file_rows) refl);
      foreign_code_point = hosts_differ host_rows runs.hosts.0 refl;
      strict_or_lengths = hosts_differ domain_rows runs.domains.0 refl;
      mapped_address = hosts_differ number_rows runs.mapped_numbers.0 refl;
      empty_first_segment = all_differ (λ base. HasEmptyFirstSegment) EmptyFirst (λ base parts is. (is, inr (inl is)))
          segment_rows runs.segments.0 (proof_of (all_found EmptyFirst empty_first segment_rows) refl);
      drive_after_host = all_differ HasDriveAfterHost DriveAfterHost (λ base parts is. (is, inr (inr (inl is))))
          drive_rows runs.drives.0 (proof_of (all_found DriveAfterHost drive_after_host drive_rows) refl);
      fewer_numbers = hosts_differ fewer_rows runs.fewer_numbers.0 refl;
      space_in_path = all_differ (λ base. HasSpaceInPath) SpaceInPath (λ base parts is. (is, inr (inr (inr (inr is)))))
          space_rows runs.spaces.0 (proof_of (all_found SpaceInPath space_in_path space_rows) refl);
    }
