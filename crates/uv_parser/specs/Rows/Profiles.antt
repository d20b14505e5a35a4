-- Texts by which the profiles differ, and some on which they agree: valid parts, the URL that they denote, and
-- violations.
use Rattle.std.specs.Prelude.{◌≡◌, ℕ, List, [], ◌∷◌, codes, Some, None}
use Rattle.uv_model.specs.declared.host.Host.{Host}
use Rattle.uv_model.specs.declared.host.Host.TheVariants as host
use Rattle.uv_model.specs.declared.profile.Profile.TheVariants.{Standard, Wide}
use Rattle.uv_model.specs.declared.rule.Rule.TheVariants.{HostDomain, HostNumber, FirstSegmentEmpty, DriveAfterHost}
use Rattle.uv_model.specs.Violations.Violation.{Violation}
use Rattle.uv_model.specs.Records.Denote.{denote}
use Rattle.uv_model.specs.Parts.{SchemeAuthority, Authority, Parts}
use Rattle.uv_parser.specs.Rows.{listed}
use Rattle.uv_parser.specs.Rows.References.{root_base}
use Rattle.uv_model.specs.Records.Serialize.{serial}
use Rattle.uv_model.specs.Valid.{Valid}
use Rattle.uv_model.specs.Records.WellFormed.{WellFormed}

-- the parts of a text with a scheme, an authority without a port, and a path
abbrev pub parts_of : List ℕ → List ℕ → Host → List ℕ → List (List ℕ) → Parts
parts_of scheme host_text value path_text segments = record {
  form = SchemeAuthority;
  scheme = Some scheme;
  host_text = Some host_text;
  host = Some value;
  port_text = None;
  port = None;
  path_text = path_text;
  segments = segments;
  query = None;
  fragment = None;
}

-- the text is valid under the wide profile with these parts, and they denote the URL of this text
pub record IsWide (text : List ℕ) (parts : Parts) (serialized : List ℕ) : Type 0 where
  pub valid : Valid Wide None text parts
  pub denoted : serial (denote None parts) ≡ serialized

-- the parts of `http://`, this domain, and a path
abbrev pub http_parts : List ℕ → List ℕ → List (List ℕ) → Parts
http_parts domain path_text segments = parts_of (codes "http") domain (host.Domain domain) path_text segments

-- the parts of `file://` with an empty host and a path
abbrev pub file_parts : List ℕ → List (List ℕ) → Parts
file_parts path_text segments = parts_of (codes "file") [] host.Empty path_text segments

-- paths with an empty first segment after an authority
pub record WidePathRows : Type 0 where
  pub empty_first :
      IsWide (codes "http://h//a") (http_parts (codes "h") (codes "//a") ([] ∷ codes "a" ∷ [])) (codes "http://h//a")
  pub empty_first_removed :
      IsWide (codes "http://h//..") (http_parts (codes "h") (codes "//..") ([] ∷ codes ".." ∷ [])) (codes "http://h/")
  pub file : IsWide (codes "file:////a") (file_parts (codes "//a") ([] ∷ codes "a" ∷ [])) (codes "file:////a")
  pub file_drive_removed :
      IsWide (codes "file:////C:/..") (file_parts (codes "//C:/..") ([] ∷ codes "C:" ∷ codes ".." ∷ []))
      (codes "file:////")
  pub refused : Violation Standard None (codes "http://h//a") 9 FirstSegmentEmpty
  pub removed_refused : Violation Standard None (codes "http://h//..") 9 FirstSegmentEmpty
  pub file_refused : Violation Standard None (codes "file:////a") 8 FirstSegmentEmpty
  pub file_drive_refused : Violation Standard None (codes "file:////C:/..") 8 FirstSegmentEmpty

-- domains that the parser's settings take
pub record WideDomainRows : Type 0 where
  pub underscore : IsWide (codes "http://a_b/") (http_parts (codes "a_b") (codes "/") ([] ∷ [])) (codes "http://a_b/")
  pub first_hyphen : IsWide (codes "http://-a/") (http_parts (codes "-a") (codes "/") ([] ∷ [])) (codes "http://-a/")
  pub hyphens :
      IsWide (codes "http://ab--c/") (http_parts (codes "ab--c") (codes "/") ([] ∷ [])) (codes "http://ab--c/")
  pub underscore_refused : Violation Standard None (codes "http://a_b/") 7 HostDomain
  pub first_hyphen_refused : Violation Standard None (codes "http://-a/") 7 HostDomain
  pub hyphens_refused : Violation Standard None (codes "http://ab--c/") 7 HostDomain

-- what both profiles refuse
pub record WideRefusalRows : Type 0 where
  pub number : Violation Wide None (codes "http://1.2.3/") 7 HostNumber
  pub nothing_left : Violation Wide None (codes "http://\u{ad}/") 7 HostDomain
  pub escape : Violation Wide None (codes "http://a%62/") 7 HostDomain
  pub drive : Violation Wide None (codes "file://h/C:/x") 8 DriveAfterHost

-- the parts of the reference `//h`: `//` begins an authority in each profile, not a path
abbrev pub reference_parts : Parts
reference_parts = record {
  form = Authority;
  scheme = None;
  host_text = Some (codes "h");
  host = Some (host.Domain (codes "h"));
  port_text = None;
  port = None;
  path_text = [];
  segments = [];
  query = None;
  fragment = None;
}

-- against `http://h/`
pub record WideReferenceRows : Type 0 where
  pub valid : Valid Wide (Some root_base) (codes "//h") reference_parts
  pub denoted : serial (denote (Some root_base) reference_parts) ≡ codes "http://h/"

-- records: `_` in a domain is well formed only under the wide profile
pub record WideRecordRows : Type 0 where
  pub wide : WellFormed Wide (listed "http" (Some (host.Domain (codes "a_b"))) None ("" ∷ []))
  pub standard : ¬ (WellFormed Standard (listed "http" (Some (host.Domain (codes "a_b"))) None ("" ∷ [])))

-- all of these
pub record ProfileRows : Type 0 where
  pub paths : WidePathRows
  pub domains : WideDomainRows
  pub refusals : WideRefusalRows
  pub references : WideReferenceRows
  pub records : WideRecordRows
