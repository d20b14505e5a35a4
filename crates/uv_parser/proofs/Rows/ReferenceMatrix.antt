-- The rows and the violations of specs/Rows/ReferenceMatrix hold, by computation.
use Rattle.std.proofs.Common.{◌≡◌, List, [], ◌∷◌, Some, true, refl, codes}
use Prim.Native.String.{String as Literal}
use Rattle.std.specs.Prelude.{is_some}
use Rattle.std.specs.List.{list_all}
use Rattle.std.proofs.lemmas.Bool.{and_parts}
use Rattle.uv_model.specs.declared.profile.Profile.TheVariants.{Standard}
use Rattle.uv_model.specs.declared.rule.Rule.{Rule}
use Rattle.uv_model.specs.declared.rule.Rule.TheVariants.{OpaqueBase}
use Rattle.uv_model.specs.Records.Url.{Url}
use Rattle.uv_model.proofs.Deciding.DecidedViolations.{violation_decision}
use Rattle.uv_parser.specs.Rows.References.{urn_base, opaque_base}
use Rattle.uv_parser.specs.Rows.ReferenceMatrix.{ReferenceMatrixRows, RefusedPairs, AllViolate}
use Rattle.uv_parser.specs.Rows.ReferenceMatrix.{other_texts, base_rows, http_rows, root_rows, drive_rows}
use Rattle.uv_parser.specs.Rows.ReferenceMatrix.{file_host_rows, host_drive_rows, hostless_rows, other_host_rows}
use Rattle.uv_parser.specs.Rows.ReferenceMatrix.{opaque_rows, opaque_query_rows}
use Rattle.uv_parser.proofs.Rows.Computing.{parser}
use Rattle.uv_parser.proofs.Rows.DecidedHosts.{hosts, violation_row}
use Rattle.uv_parser.proofs.Rows.RowsLemmas.{all_hold}

-- each of the texts that is found to violate the rule does
violate_all : (base : Url) (rule : Rule) (texts : List Literal)
    → list_all (λ text. is_some (violation_decision hosts Standard (Some base) (codes text) 0 rule)) texts ≡ true
    → AllViolate base rule texts
violate_all base rule [] found = tt
violate_all base rule (text ∷ texts) found =
    let each = and_parts (is_some (violation_decision hosts Standard (Some base) (codes text) 0 rule)) _ found in
    (violation_row Standard (Some base) (codes text) 0 rule each.0, violate_all base rule texts each.1)

-- the violations of all refused pairs
refused_pairs : RefusedPairs
unfolding parser
refused_pairs = record {
  drive_after_host = violation_row _ _ _ _ _ refl;
  drive_after_host_and_drive = violation_row _ _ _ _ _ refl;
  opaque_path = violate_all urn_base OpaqueBase other_texts refl;
  opaque_path_and_query = violate_all opaque_base OpaqueBase other_texts refl;
}

-- each table, and the violations
pub reference_matrix_rows_hold : ReferenceMatrixRows
unfolding parser
reference_matrix_rows_hold = record {
  bases = all_hold base_rows refl;
  http = all_hold http_rows refl;
  root = all_hold root_rows refl;
  drive = all_hold drive_rows refl;
  file_host = all_hold file_host_rows refl;
  host_drive = all_hold host_drive_rows refl;
  hostless = all_hold hostless_rows refl;
  other_host = all_hold other_host_rows refl;
  opaque = all_hold opaque_rows refl;
  opaque_query = all_hold opaque_query_rows refl;
  refused = refused_pairs;
}
