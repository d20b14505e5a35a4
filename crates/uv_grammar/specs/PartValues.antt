-- The values of the host and the port of a cut text, after the URL Standard, section 4.3.
use Rattle.std.specs.Prelude.{◌≡◌, ℕ, List, [], ◌∷◌, Option, Some, None, if◌then◌else◌}
use Rattle.std.specs.Str.Parse.{digits_value}
use Rattle.uv_grammar.specs.HostValues.{FitsHost}
use Rattle.uv_model.specs.declared.host.Host.{Host}
use Rattle.uv_model.specs.Cut.{Cut, ends_at_host}
use Rattle.uv_model.specs.Setting.{Setting}
use Rattle.uv_model.specs.Valid.{IsPortText, is_default, port_given}

-- the host of a cut text: valid where there is an authority
abbrev pub FitsHostPart : Setting → Cut → Option Host → Type 0
FitsHostPart setting cut value = fits cut.host_text
  where
    fits : Option (List ℕ) → Type 0
    fits None = value ≡ None
    fits (Some host_text) =
        FitsHost setting.profile setting.class (ends_at_host cut) host_text cut.port_text cut.path_text value

-- the number of a port text, and none of an empty one
abbrev pub port_number : List ℕ → Option ℕ
port_number [] = None
port_number (digit ∷ rest) = Some (digits_value 10 (digit ∷ rest))

-- a valid port text, with its number
abbrev pub FitsPort : List ℕ → Option ℕ → Type 0
FitsPort text number = IsPortText text × (number ≡ port_number text)

-- the port of a cut text: valid where there is one after a host
abbrev pub FitsPortPart : Setting → Cut → Option ℕ → Type 0
FitsPortPart setting cut value = fits cut.host_text cut.port_text
  where
    fits : Option (List ℕ) → Option (List ℕ) → Type 0
    fits (Some host_text) (Some port_text) =
        IsPortText port_text × (value ≡ port_given setting.default_port (Some port_text))
    fits _ _ = value ≡ None

-- a port's number that isn't the default
abbrev pub without_default : Option ℕ → Option ℕ → Option ℕ
without_default default None = None
without_default default (Some number) = if is_default default number then None else Some number
