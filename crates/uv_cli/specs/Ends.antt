-- How the program ends: the end of what was given, its exit status, and its line on standard error.
use Rattle.std.specs.Prelude.{ℕ, Bool, true, false, List, [], ◌++◌, Result, Ok, Err, codes, decimal, if◌then◌else◌}
use Rattle.std.specs.Prelude.{◌==◌, Option, None, Some, unwrap_or}
use Rattle.uv_model.specs.declared.rule.Refusal.{Refusal}
use Rattle.uv_model.specs.Violations.Rule.{rule_name}
use Rattle.uv_links.specs.declared.counts.Counts.{Counts}
use Rattle.uv_links.specs.declared.fault.LinkFault.{LinkFault}
use Rattle.uv_links.specs.declared.fault.LinkFault.TheVariants as link
use Rattle.uv_lines.specs.declared.fault.StopFault.TheVariants.{Write}
use Rattle.uv_arguments.specs.declared.words_fault.Reason.{Reason}
use Rattle.uv_arguments.specs.declared.words_fault.Reason.TheVariants as reason
use Rattle.uv_cli.specs.declared.check.CheckEnd.{CheckEnd}
use Rattle.uv_cli.specs.declared.check.CheckEnd.TheVariants as check
use Rattle.uv_cli.specs.declared.explain.ExplainEnd.{ExplainEnd}
use Rattle.uv_cli.specs.declared.explain.ExplainEnd.TheVariants as explain
use Rattle.uv_cli.specs.declared.fault.CliFault.{CliFault}
use Rattle.uv_cli.specs.declared.fault.CliFault.TheVariants as cli
use Rattle.uv_vectors.specs.declared.fault.VectorFault.{VectorFault}
use Rattle.uv_vectors.specs.declared.fault.VectorFault.TheVariants as vector
use Rattle.uv_cli.specs.declared.ends.End.{End}
use Rattle.uv_cli.specs.declared.ends.End.TheVariants.{Valid, Refused, Shown, Words, UnknownRule, UnknownFormat}
use Rattle.uv_cli.specs.declared.ends.End.TheVariants.{UnknownColumns, ColumnsRefused, UnknownProfile, UnknownKind}
use Rattle.uv_cli.specs.declared.ends.End.TheVariants.{BaseRefused, Fault, Filtered, Linted, Stopped, Vectors, Unread}
use Rattle.uv_vectors.specs.Ends.{vector_end}
use Rattle.uv_vectors.specs.declared.ends.CasesEnd.{CasesEnd}
use Rattle.uv_vectors.specs.declared.ends.VectorEnd.{VectorEnd}
use Rattle.uv_vectors.specs.declared.ends.VectorEnd.TheVariants as vectors
use Rattle.uv_cli.specs.declared.vector_file.FileFault.{FileFault}
use Rattle.uv_cli.specs.declared.vector_file.FileFault.TheVariants as file
use Rattle.uv_cli.specs.Filtered as spec
use Rattle.uv_cli.specs.Filtered.{filter_status, filtered_text}
use Rattle.uv_cli.specs.Linted.{lint_status, linted_text, with_fault}
use Rattle.uv_cli.specs.Stopped.{stop_text}

-- ---- the end of what was given

-- the end of what a check gave
abbrev pub end_of_check : Result CheckEnd CliFault → End
end_of_check (Ok check.Valid) = Valid
end_of_check (Ok check.Refused) = Refused
end_of_check (Ok (check.BaseRefused refusal)) = BaseRefused refusal
end_of_check (Err fault) = Fault fault

-- the end of what a list gave
abbrev pub end_of_list : Result Counts LinkFault → End
end_of_list (Ok counts) = if counts.ok == counts.lines then Valid else Refused
end_of_list (Err fault) = Stopped fault

-- the fault of a command for the fault of a run over a vector file
abbrev pub fault_of_vectors : VectorFault → CliFault
fault_of_vectors vector.Memory = cli.Memory
fault_of_vectors vector.Write = cli.Write

-- the end of what a run over a vector file gave
abbrev pub end_of_vectors : Result CasesEnd VectorFault → End
end_of_vectors (Ok told) = Vectors (vector_end told)
end_of_vectors (Err fault) = Fault (fault_of_vectors fault)

-- the end of what an explanation gave
abbrev pub end_of_explanation : Result ExplainEnd CliFault → End
end_of_explanation (Ok explain.Explained) = Shown
end_of_explanation (Ok explain.Unknown) = UnknownRule
end_of_explanation (Err fault) = Fault fault

-- the end where a vector file isn't read
abbrev pub end_without_file : FileFault → End
end_without_file file.Memory = Fault cli.Memory
end_without_file (file.Unread reason) = Unread

-- the end where the arguments give no job for this reason
abbrev pub end_without_job : Reason → End
end_without_job reason.Memory = Fault cli.Memory
end_without_job reason.Shown = Shown
end_without_job _ = Words

-- the end once the output is out, or isn't: then what was printed is not whole
abbrev pub end_after_output : End → Bool → End
end_after_output end true = end
end_after_output Valid false = Fault cli.Write
end_after_output Refused false = Fault cli.Write
end_after_output Shown false = Fault cli.Write
end_after_output (Linted linted) false = Linted (with_fault linted Write)
end_after_output (Filtered filtered) false = Filtered (spec.with_fault filtered Write)
end_after_output (Vectors vectors.AllPass) false = Fault cli.Write
end_after_output (Vectors vectors.SomeFail) false = Fault cli.Write
end_after_output end false = end

-- ---- what an end gives

-- the exit status of an end
abbrev pub status_of : End → ℕ
status_of Valid = 0
status_of Refused = 1
status_of Shown = 0
status_of Words = 2
status_of UnknownRule = 2
status_of UnknownFormat = 2
status_of UnknownColumns = 2
status_of ColumnsRefused = 2
status_of UnknownProfile = 2
status_of UnknownKind = 2
status_of (BaseRefused refusal) = 2
status_of (Fault fault) = 3
status_of (Linted linted) = lint_status linted
status_of (Filtered filtered) = filter_status filtered
status_of (Stopped link.BaseDiffers) = 2
status_of (Stopped fault) = 3
status_of (Vectors vectors.AllPass) = 0
status_of (Vectors vectors.SomeFail) = 1
status_of (Vectors end) = 2
status_of Unread = 3

-- the line of a base that is refused
unfoldable pub base_refused_text : Refusal → List ℕ
base_refused_text refusal =
    codes "base refused " ++ (decimal refusal.place ++ (codes " " ++ (rule_name refusal.rule ++ codes "\n")))

-- the line of a fault of a list
abbrev pub listed_text : LinkFault → List ℕ
listed_text (link.Stop fault) = stop_text fault
listed_text link.Overflow = codes "overflow\n"
listed_text link.BaseDiffers = codes "base differs\n"

-- the line of a case that is malformed
unfoldable pub malformed_text : ℕ → List ℕ
malformed_text number = codes "vector " ++ (decimal number ++ codes " malformed\n")

-- the line of a vector file that isn't run, where it has only words
abbrev pub fixed_vectors_text : VectorEnd → Option (List ℕ)
fixed_vectors_text vectors.AllPass = Some []
fixed_vectors_text vectors.SomeFail = Some []
fixed_vectors_text vectors.NotJson = Some (codes "vectors not json\n")
fixed_vectors_text vectors.NotArray = Some (codes "vectors not an array\n")
fixed_vectors_text vectors.TooLarge = Some (codes "vectors too large\n")
fixed_vectors_text (vectors.Malformed number) = None

-- the last line on standard error where it has only words, or nothing: no memory is needed for it
abbrev pub fixed_text : End → Option (List ℕ)
fixed_text Valid = Some []
fixed_text Refused = Some []
fixed_text Shown = Some []
fixed_text Words = Some (codes "words\n")
fixed_text UnknownRule = Some (codes "words\n")
fixed_text UnknownFormat = Some (codes "words\n")
fixed_text UnknownColumns = Some (codes "words\n")
fixed_text ColumnsRefused = Some (codes "words\n")
fixed_text UnknownProfile = Some (codes "words\n")
fixed_text UnknownKind = Some (codes "words\n")
fixed_text (BaseRefused refusal) = None
fixed_text (Fault cli.Memory) = Some (codes "memory\n")
fixed_text (Fault cli.Write) = Some (codes "write\n")
fixed_text (Linted linted) = None
fixed_text (Filtered filtered) = None
fixed_text (Stopped fault) = Some (listed_text fault)
fixed_text (Vectors end) = fixed_vectors_text end
fixed_text Unread = Some (codes "read\n")

-- the last line where it has numbers, with the counts of a lint or a filter before it
abbrev pub numbered_text : End → List ℕ
numbered_text (BaseRefused refusal) = base_refused_text refusal
numbered_text (Linted linted) = linted_text linted
numbered_text (Filtered filtered) = filtered_text filtered
numbered_text (Vectors (vectors.Malformed number)) = malformed_text number
numbered_text other = []

-- the last line on standard error, with the counts of a lint or a filter before it, or nothing
abbrev pub error_text : End → List ℕ
error_text end = unwrap_or (fixed_text end) (numbered_text end)
