-- Valid parts, well-formed URLs and violations of hosts, written out, with some parts that aren't valid and some URLs
-- that aren't well formed (URL Standard, sections 3.4, 4.1 and 4.3).
use Rattle.std.specs.Prelude.{ℕ, [], ◌∷◌, codes, Option, Some, None}
use Rattle.uv_model.specs.declared.host.Host.{Host}
use Rattle.uv_model.specs.declared.host.Host.TheVariants as host
use Rattle.uv_model.specs.declared.profile.Profile.TheVariants.{Standard, Wide}
use Rattle.uv_model.specs.declared.rule.Rule.TheVariants.{HostDomain, HostIpv6, HostNumber}
use Rattle.uv_model.specs.Violations.Violation.{Violation}
use Rattle.uv_model.specs.Parts.{Parts}
use Rattle.uv_model.specs.Records.Url.{Url}
use Rattle.uv_model.specs.Records.WellFormed.{WellFormed}
use Rattle.uv_model.specs.Valid.{Valid}
use Rattle.uv_parser.specs.Rows.{domain, empty_host, ipv4, ipv6, listed, opaque}
use Rattle.uv_parser.specs.Rows.Profiles.{http_parts}

-- the parts of `http://h/`
abbrev pub root_parts : Parts
root_parts = http_parts (codes "h") (codes "/") ([] ∷ [])

-- the parts of `http://h:81/`
abbrev pub port_parts : Parts
port_parts = record root_parts { port_text = Some (codes "81"); port = Some 81 }

-- the parts of `http://h:80/`: a scheme's default port isn't a port
abbrev pub default_parts : Parts
default_parts = record root_parts { port_text = Some (codes "80") }

-- parts of texts, under the standard profile and without a base
pub record ValidRows : Type 0 where
  pub root : Valid Standard None (codes "http://h/") root_parts
  pub port : Valid Standard None (codes "http://h:81/") port_parts
  pub default_port : Valid Standard None (codes "http://h:80/") default_parts
  pub not_its_text : ¬ (Valid Standard None (codes "http://h/") port_parts)
  pub not_its_port : ¬ (Valid Standard None (codes "http://h:80/") (record default_parts { port = Some 80 }))
  pub not_its_host : ¬ (Valid Standard None (codes "http://h/") (record root_parts { host = Some host.Empty }))
  pub no_parts : (parts : Parts) → ¬ (Valid Standard None (codes "http://") parts)

-- a URL of scheme http with this host and this port and the path `/`
abbrev pub http_url : Option Host → Option ℕ → Url
http_url host port = listed "http" host port ("" ∷ [])

-- URLs under the wide profile, which takes more than the standard one
pub record WellFormedRows : Type 0 where
  pub name : WellFormed Wide (http_url (domain "h") (Some 65535))
  pub least_address : WellFormed Wide (http_url (ipv4 0) None)
  pub last_address : WellFormed Wide (http_url (ipv4 4294967295) None)
  pub pieces : WellFormed Wide (http_url (ipv6 (0 ∷ 0 ∷ 0 ∷ 0 ∷ 0 ∷ 0 ∷ 0 ∷ 65535 ∷ [])) None)
  pub opaque_path : WellFormed Wide (opaque "urn" "a")
  pub large_port : ¬ (WellFormed Wide (http_url (domain "h") (Some 65536)))
  pub default_port : ¬ (WellFormed Wide (http_url (domain "h") (Some 80)))
  pub port_without_host : ¬ (WellFormed Wide (listed "foo" empty_host (Some 8) []))
  pub large_address : ¬ (WellFormed Wide (http_url (ipv4 4294967296) None))
  pub no_piece : ¬ (WellFormed Wide (http_url (ipv6 []) None))
  pub large_piece : ¬ (WellFormed Wide (http_url (ipv6 (0 ∷ 0 ∷ 0 ∷ 0 ∷ 0 ∷ 0 ∷ 0 ∷ 65536 ∷ [])) None))
  pub number_name : ¬ (WellFormed Wide (http_url (domain "1") None))
  pub upper_case : ¬ (WellFormed Wide (http_url (domain "H") None))
  pub code_point : ¬ (WellFormed Wide (http_url (domain "é") None))

-- hosts that aren't domains, hosts that are a number, and hosts that aren't an IPv6 text
pub record HostViolationRows : Type 0 where
  pub domain : Violation Standard None (codes "http://a=b/") 7 HostDomain
  pub number : Violation Standard None (codes "http://1.2.3/") 7 HostNumber
  pub ipv6 : Violation Standard None (codes "http://[1::2::3]/") 7 HostIpv6
  pub opaque_ipv6 : Violation Standard None (codes "foo://[1::2::3]/") 6 HostIpv6

-- each row
pub record DefinitionRows : Type 0 where
  pub valid : ValidRows
  pub well_formed : WellFormedRows
  pub hosts : HostViolationRows
