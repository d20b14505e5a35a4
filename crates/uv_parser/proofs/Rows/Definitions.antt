-- The rows of specs/Rows/Definitions hold: what computes by computation, and addresses by the laws of their parsers.
use Rattle.std.proofs.Common.{ℕ, List, [], ◌∷◌, Option, Some, None, codes, refl, sym, subst, arith}
use Rattle.std.specs.Prelude.{IsSome}
use Rattle.std.proofs.lemmas.Bool.{false≢true, true≢false}
use Rattle.std.proofs.lemmas.Option.{same_Some}
use Rattle.uv_model.specs.declared.host.Host.{Host}
use Rattle.uv_model.specs.declared.host.Host.TheVariants as host
use Rattle.uv_model.specs.declared.profile.Profile.TheVariants.{Standard, Wide}
use Rattle.uv_model.specs.declared.rule.Rule.TheVariants.{HostMissing}
use Rattle.uv_model.specs.Parts.{Parts, SchemeOpaque}
use Rattle.uv_model.specs.Records.Denote.{denote}
use Rattle.uv_model.specs.Records.WellFormed.{IsSpecialHost, IsUrlPort, WellFormed}
use Rattle.uv_model.specs.Valid.{IsHostText, Valid}
use Rattle.uv_parser.specs.Rows.{domain, empty_host, ipv4, ipv6, listed}
use Rattle.uv_parser.specs.Rows.Definitions.{DefinitionRows, ValidRows, WellFormedRows, default_parts, http_url}
use Rattle.uv_parser.specs.Rows.Definitions.{port_parts, root_parts}
use Rattle.uv_parser.specs.Rows.Profiles.{parts_of}
use Rattle.uv_model.proofs.Cuts.CutRowsLemmas.{cut_and_violation_rows}
use Rattle.uv_model.proofs.Deciding.DecidedTexts.{valid_decision}
use Rattle.uv_model.proofs.Records.DenotedRecords.{denoted_records_are_well_formed}
use Rattle.uv_model.proofs.Violations.ViolationsExcludeParts.{faultless}
use Rattle.uv_parser.proofs.Rows.Computing.{parser}
use Rattle.uv_parser.proofs.Rows.DecidedHosts.{hosts, valid_row, violation_row}

-- ---- valid parts

not_its_text_row : ¬ (Valid Standard None (codes "http://h/") port_parts)
unfolding parser
not_its_text_row valid = let whole = valid.whole in cc

not_its_port_row : ¬ (Valid Standard None (codes "http://h:80/") (record default_parts { port = Some 80 }))
unfolding parser
not_its_port_row valid = let port = valid.form.port in cc

not_its_host_row : ¬ (Valid Standard None (codes "http://h/") (record root_parts { host = Some host.Empty }))
unfolding parser
not_its_host_row valid =
    let same = same_Some host.Empty valid.form.value valid.form.valued in
    subst (λ value. IsHostText Standard (codes "h") value) (sym same) valid.form.host

-- valid parts, and parts that aren't
valid_rows : ValidRows
unfolding parser
valid_rows = record {
  root = valid_row _ _ _ _ refl;
  port = valid_row _ _ _ _ refl;
  default_port = valid_row _ _ _ _ refl;
  not_its_text = not_its_text_row;
  not_its_port = not_its_port_row;
  not_its_host = not_its_host_row;
  no_parts = faultless Standard None
      (codes "http://") 7 HostMissing cut_and_violation_rows.violations.special_host_missing;
}

-- ---- well-formed URLs

-- what the parts of a valid text denote is well formed
denoted_well : (text : List ℕ) (parts : Parts) → IsSome (valid_decision hosts Wide None text parts)
    → WellFormed Wide (denote None parts)
denoted_well text parts found =
    denoted_records_are_well_formed.same Wide None text parts tt (valid_row Wide None text parts found)

-- the parts of `http://`, a host and `/`
abbrev host_parts : List ℕ → Host → Parts
host_parts text value = parts_of (codes "http") text value (codes "/") ([] ∷ [])

-- the parts of `urn:a`
abbrev opaque_parts : Parts
opaque_parts = record {
  form = SchemeOpaque;
  scheme = Some (codes "urn");
  host_text = None;
  host = None;
  port_text = None;
  port = None;
  path_text = codes "a";
  segments = [];
  query = None;
  fragment = None;
}

-- the host and the port of one that is well formed
http_parts_of : (value : Option Host) (port : Option ℕ) → WellFormed Wide (http_url value port)
    → IsSpecialHost Wide value × IsUrlPort (codes "http") value port
unfolding parser
http_parts_of value port is = (is.host, is.port)

port_without_host_row : ¬ (WellFormed Wide (listed "foo" empty_host (Some 8) []))
unfolding parser
port_without_host_row is = false≢true is.port.0

large_port_row : ¬ (WellFormed Wide (http_url (domain "h") (Some 65536)))
large_port_row is = let port = http_parts_of _ _ is in omega (arith, port.1.2)

default_row : ¬ (WellFormed Wide (http_url (domain "h") (Some 80)))
unfolding parser
default_row is = true≢false is.port.1

number_name_row : ¬ (WellFormed Wide (http_url (domain "1") None))
unfolding parser
number_name_row is = true≢false is.host.name

upper_case_row : ¬ (WellFormed Wide (http_url (domain "H") None))
unfolding parser
upper_case_row is = false≢true is.host.letters

code_point_row : ¬ (WellFormed Wide (http_url (domain "é") None))
unfolding parser
code_point_row is = false≢true is.host.letters

large_address_row : ¬ (WellFormed Wide (http_url (ipv4 4294967296) None))
large_address_row is = let parts = http_parts_of _ _ is in omega (arith, parts.0)

no_piece_row : ¬ (WellFormed Wide (http_url (ipv6 []) None))
no_piece_row is = let parts = http_parts_of _ _ is in omega (arith, parts.0.0)

large_piece_row : ¬ (WellFormed Wide (http_url (ipv6 (0 ∷ 0 ∷ 0 ∷ 0 ∷ 0 ∷ 0 ∷ 0 ∷ 65536 ∷ [])) None))
large_piece_row is = let parts = http_parts_of _ _ is in omega (arith, parts.0.1 7)

-- URLs that are well formed, and some that aren't
well_formed_rows : WellFormedRows
unfolding parser
well_formed_rows = record {
  name = denoted_well (codes "http://h:65535/")
      (record root_parts { port_text = Some (codes "65535"); port = Some 65535 }) refl;
  least_address = denoted_well (codes "http://0.0.0.0/") (host_parts (codes "0.0.0.0") (host.V4 0)) refl;
  last_address = denoted_well (codes "http://255.255.255.255/")
      (host_parts (codes "255.255.255.255") (host.V4 4294967295)) refl;
  pieces = denoted_well (codes "http://[::ffff]/")
      (host_parts (codes "[::ffff]") (host.V6 (0 ∷ 0 ∷ 0 ∷ 0 ∷ 0 ∷ 0 ∷ 0 ∷ 65535 ∷ []))) refl;
  opaque_path = denoted_well (codes "urn:a") opaque_parts refl;
  large_port = large_port_row;
  default_port = default_row;
  port_without_host = port_without_host_row;
  large_address = large_address_row;
  no_piece = no_piece_row;
  large_piece = large_piece_row;
  number_name = number_name_row;
  upper_case = upper_case_row;
  code_point = code_point_row;
}

-- ---- each row

-- the rows of the definitions hold, each by computation
pub definition_rows_hold : DefinitionRows
unfolding parser
definition_rows_hold = record {
  valid = valid_rows;
  well_formed = well_formed_rows;
  hosts = record {
    domain = violation_row _ _ _ _ _ refl;
    number = violation_row _ _ _ _ _ refl;
    ipv6 = violation_row _ _ _ _ _ refl;
    opaque_ipv6 = violation_row _ _ _ _ _ refl;
  };
}
