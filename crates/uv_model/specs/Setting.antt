-- What a text is read against: a profile, a base, and what follows from the scheme, which is the text's or else the
-- base's (URL Standard, sections 4.2 and 4.3).
use Rattle.std.specs.Prelude.{ℕ, List, [], Option, Some, None}
use Rattle.uv_model.specs.declared.profile.Profile.{Profile}
use Rattle.uv_model.specs.declared.scheme.Class.{Class}
use Rattle.uv_model.specs.Scheme.{scheme_class, default_port}
use Rattle.uv_model.specs.Records.Url.{Url}

-- a scheme, otherwise the base's
abbrev pub scheme_or : Option Url → Option (List ℕ) → List ℕ
scheme_or base (Some scheme) = scheme
scheme_or (Some url) None = url.scheme
scheme_or None None = []

-- the class is Other and there is no default port where neither the text nor a base has a scheme
pub record Setting : Type 0 where
  pub profile : Profile
  pub base : Option Url
  pub class : Class
  pub default_port : Option ℕ

-- what a text with this scheme, or without one, is read against
abbrev pub setting_of : Profile → Option Url → Option (List ℕ) → Setting
setting_of profile base scheme = record {
  profile = profile;
  base = base;
  class = scheme_class (scheme_or base scheme);
  default_port = default_port (scheme_or base scheme);
}
