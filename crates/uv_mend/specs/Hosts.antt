-- The host of a text, written as the crate `url` writes it.
use Rattle.std.specs.Prelude.{ℕ, Bool, false, ◌||◌, List, [], ◌∷◌, ◌++◌, chars, encode_utf8_all}
use Rattle.std.specs.Prelude.{Option, Some, None, option_map, if◌then◌else◌}
use Rattle.url.specs.Host.{host_text}
use Rattle.url.specs.Parts.{Parts, has_credentials, nonempty_host}
use Rattle.uv_model.specs.declared.scheme.Class.{Class}
use Rattle.uv_model.specs.declared.scheme.Class.TheVariants.{File}
use Rattle.uv_model.specs.Ascii.{slash}
use Rattle.uv_model.specs.Cut.{is_port_mark, is_within}
use Rattle.uv_model.specs.Records.Url.{Url}
use Rattle.uv_mend.specs.declared.prefixes.Stop.TheVariants.{Authority}
use Rattle.uv_mend.specs.CodePoints.{after_one}
use Rattle.uv_mend.specs.Prefixes.{after_scheme, class_against, scheme_prefix, stops}
use Rattle.uv_compare.specs.Second.{reading}

-- the host of a URL that has one, and no user name and no password
unfoldable pub plain_host : Parts → Option (List ℕ)
plain_host url = if has_credentials url then None else option_map (λ host. chars (host_text host)) (nonempty_host url)

-- the host of what the second parser reads, where that has such a host
abbrev pub host_of_reading : Option Parts → Option (List ℕ)
host_of_reading None = None
host_of_reading (Some url) = plain_host url

-- the code point ends a host: the authority ends there, or a port's `:` is there, which class File doesn't have
unfoldable pub ends_host : Class → Bool → ℕ → Bool
ends_host File within c = stops Authority c
ends_host _ within c = stops Authority c || is_port_mark within c

-- the text from the end of the host on, with which it begins
abbrev pub after_host : Class → Bool → List ℕ → List ℕ
after_host class within [] = []
after_host class within (c ∷ rest) =
    if ends_host class within c then c ∷ rest else after_host class (is_within within c) rest

-- the text of this class, which has an authority, with this host in place of its own
unfoldable pub with_host : Class → List ℕ → List ℕ → List ℕ
with_host class text host =
    scheme_prefix text ++ (slash ∷ slash ∷ (host
    ++ after_host class false (after_one (after_one (after_scheme text)))))

-- the text with the host of what the second parser reads
abbrev pub rehosted : Option Url → List ℕ → Option (List ℕ)
rehosted base text =
    option_map (with_host (class_against base text) text) (host_of_reading (reading base (encode_utf8_all text)))
