-- Cuts of texts that are written out, and violations of texts that are refused, each at its place.
use Rattle.std.specs.Prelude.{◌≡◌, ℕ, List, [], ◌∷◌, codes, Option, Some, None}
use Rattle.uv_model.specs.declared.host.Host.TheVariants.{Empty}
use Rattle.uv_model.specs.declared.host.Host.TheVariants as host
use Rattle.uv_model.specs.declared.path.UrlPath.TheVariants.{Opaque, Segments}
use Rattle.uv_model.specs.declared.profile.Profile.TheVariants.{Standard}
use Rattle.uv_model.specs.declared.rule.Rule.TheVariants.{NoScheme, OpaqueBase, TwoSlashes, HostMissing}
use Rattle.uv_model.specs.declared.rule.Rule.TheVariants.{HostCodePoint, PortDigit, PortRange, FirstSegmentEmpty}
use Rattle.uv_model.specs.declared.rule.Rule.TheVariants.{DriveAfterHost, CodePoint, Percent}
use Rattle.uv_model.specs.Violations.Violation.{Violation}
use Rattle.uv_model.specs.Cut.{Cut, cut_of}
use Rattle.uv_model.specs.Records.Url.{Url}

-- the base `file:///C:/d`
abbrev pub drive_path_base : Option Url
drive_path_base = Some (record {
  scheme = codes "file";
  host = Some Empty;
  port = None;
  path = Segments (codes "C:" ∷ codes "d" ∷ []);
  query = None;
  fragment = None;
})

-- the base `file://h/a`
abbrev pub file_host_base : Option Url
file_host_base = Some (record {
  scheme = codes "file";
  host = Some (host.Domain (codes "h"));
  port = None;
  path = Segments (codes "a" ∷ []);
  query = None;
  fragment = None;
})

-- the base `urn:a`
abbrev pub urn_base : Option Url
urn_base = Some (record {
  scheme = codes "urn";
  host = None;
  port = None;
  path = Opaque (codes "a");
  query = None;
  fragment = None;
})

-- the cut into these texts
abbrev pub cut_into : Option (List ℕ) → Option (List ℕ) → Option (List ℕ) → List ℕ → Option (List ℕ)
    → Option (List ℕ) → Cut
cut_into scheme host_text port_text path_text query fragment = record {
  scheme = scheme;
  host_text = host_text;
  port_text = port_text;
  path_text = path_text;
  query = query;
  fragment = fragment;
}

-- the cut of each part, with the delimiters in each place where they mean nothing
pub record CutRows : Type 0 where
  pub all_parts :
      cut_of None (codes "http://h:8a/b?c#d#e")
      ≡ cut_into (Some (codes "http")) (Some (codes "h")) (Some (codes "8a")) (codes "/b") (Some (codes "c"))
      (Some (codes "d#e"))
  pub opaque_path :
      cut_of None (codes "urn:isbn:0451450523")
      ≡ cut_into (Some (codes "urn")) None None (codes "isbn:0451450523") None None
  pub first_colon :
      cut_of None (codes "http://user:pw:x@h/")
      ≡ cut_into (Some (codes "http")) (Some (codes "user")) (Some (codes "pw:x@h")) (codes "/") None None
  pub open_bracket :
      cut_of None (codes "foo://a[:b/")
      ≡ cut_into (Some (codes "foo")) (Some (codes "a[:b")) None (codes "/") None None
  pub address :
      cut_of None (codes "http://[::1]:80")
      ≡ cut_into (Some (codes "http")) (Some (codes "[::1]")) (Some (codes "80")) [] None None
  pub file_authority :
      cut_of drive_path_base (codes "//h:1/C:/x?")
      ≡ cut_into None (Some (codes "h:1")) None (codes "/C:/x") (Some []) None
  pub no_base :
      cut_of None (codes "//h:1/C:/x#?")
      ≡ cut_into None (Some (codes "h")) (Some (codes "1")) (codes "/C:/x") None (Some (codes "?"))
  pub one_slash :
      cut_of None (codes "http:/")
      ≡ cut_into (Some (codes "http")) None None (codes "/") None None
  pub nothing :
      cut_of None []
      ≡ cut_into None None None [] None None

-- a violation of each rule whose violation computes, at its place
pub record ViolationRows : Type 0 where
  pub no_scheme : Violation Standard None (codes " http://h/") 0 NoScheme
  pub no_scheme_nothing : Violation Standard None [] 0 NoScheme
  pub no_scheme_path : Violation Standard None (codes "//h^/a b") 6 CodePoint
  pub more_than_fragment : Violation Standard urn_base (codes "x") 0 OpaqueBase
  pub no_fragment : Violation Standard urn_base [] 0 OpaqueBase
  pub no_slashes : Violation Standard None (codes "http:") 5 TwoSlashes
  pub one_slash : Violation Standard None (codes "http:/") 6 TwoSlashes
  pub file_one_slash : Violation Standard file_host_base (codes "file:/C:/x") 6 TwoSlashes
  pub special_host_missing : Violation Standard None (codes "http://") 7 HostMissing
  pub file_host_missing : Violation Standard None (codes "file://") 7 HostMissing
  pub other_host_missing : Violation Standard None (codes "foo://:80") 6 HostMissing
  pub host_code_point : Violation Standard None (codes "foo://u@h/") 7 HostCodePoint
  pub host_bracket : Violation Standard None (codes "foo://a[:b/") 7 HostCodePoint
  pub host_colon : Violation Standard None (codes "foo://a[:b/") 8 HostCodePoint
  pub port_digit : Violation Standard None (codes "http://h:8a/") 10 PortDigit
  pub port_password : Violation Standard None (codes "http://user:pw@h/") 12 PortDigit
  pub port_range : Violation Standard None (codes "http://h:65536/") 9 PortRange
  pub first_segment : Violation Standard None (codes "https://example.com//a") 20 FirstSegmentEmpty
  pub file_first_segment : Violation Standard None (codes "file:////a") 8 FirstSegmentEmpty
  pub drive : Violation Standard None (codes "file://h/C:/x") 8 DriveAfterHost
  pub localhost_drive : Violation Standard None (codes "file://localhost/C:/x") 16 DriveAfterHost
  pub base_drive : Violation Standard file_host_base (codes "/C:/x") 0 DriveAfterHost
  pub path_percent : Violation Standard None (codes "http://h/%4?a") 9 Percent
  pub path_space : Violation Standard None (codes "http://h/a b") 10 CodePoint
  pub fragment_sign : Violation Standard None (codes "http://h/#a#b") 11 CodePoint

-- the rows of both
pub record CutAndViolationRows : Type 0 where
  pub cuts : CutRows
  pub violations : ViolationRows
