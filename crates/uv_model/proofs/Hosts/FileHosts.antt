-- The host of a file URL, where the domain `localhost` is the empty host.
use Rattle.std.proofs.Common.{ℕ, List, subst, inl, inr}
use Rattle.std.specs.Prelude.{codes}
use Rattle.std.specs.Str.{bytes_eq}
use Rattle.std.proofs.lemmas.Bool.{cases_Bool}
use Rattle.std.proofs.lemmas.Bool.Decides.{not_from_Decides}
use Rattle.std.proofs.lemmas.Slice.Eq.{bytes_eq-Decides}
use Rattle.uv_model.specs.declared.host.Host.{Host}
use Rattle.uv_model.specs.declared.host.Host.TheVariants.{Domain, V4, V6, Opaque, Empty}
use Rattle.uv_model.specs.declared.profile.Profile.{Profile}
use Rattle.uv_model.specs.Hosts.Domain.{IsDomain}
use Rattle.uv_model.specs.Valid.{IsFileHostText, IsHostText, without_localhost}

-- a valid host string is one of a file URL, with the host that a file URL has
pub file_host_fits : (profile : Profile) (text : List ℕ) (host : Host) → IsHostText profile text host
    → IsFileHostText profile text (without_localhost host)
file_host_fits profile text (Domain form) is = elim (cases_Bool (bytes_eq form (codes "localhost"))) [
  | inl same ↦ rw same (subst (λ (f : List ℕ). IsDomain profile text f)
      ((bytes_eq-Decides form (codes "localhost")).0 same) is)
  | inr other ↦
      rw other (
        is,
        not_from_Decides (bytes_eq form (codes "localhost"))
            (bytes_eq-Decides form (codes "localhost")) other,
      )
]
file_host_fits profile text (V4 value) is = is
file_host_fits profile text (V6 pieces) is = is
file_host_fits profile text (Opaque host) is = absurd is
file_host_fits profile text Empty is = absurd is
