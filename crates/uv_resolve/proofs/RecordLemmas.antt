-- The record of the fields that are denoted is the denoted URL.
use Rattle.std.proofs.Common.{◌≡◌, ℕ, Bool, true, false, List, Option, Some, refl}
use Rattle.std.specs.Prelude.{option_map}
use Rattle.std.specs.Str.{IsAscii}
use Rattle.uv_model.specs.declared.profile.Profile.{Profile}
use Rattle.uv_model.specs.declared.scheme.Class.{Class}
use Rattle.uv_model.specs.declared.host.Host.{Host}
use Rattle.uv_model.specs.declared.path.UrlPath.{UrlPath}
use Rattle.uv_model.specs.declared.path.UrlPath.TheVariants.{Opaque}
use Rattle.uv_model.specs.Records.Denote.{denote, denoted_scheme, denoted_host, denoted_port, denoted_path}
use Rattle.uv_model.specs.Records.Denote.{denoted_query, end_escaped, has_tail}
use Rattle.uv_model.specs.Encoding.{encoded}
use Rattle.uv_model.specs.Parts.{Parts, SchemeOpaque, has_scheme}
use Rattle.uv_model.specs.Scheme.{is_scheme, scheme_class}
use Rattle.uv_model.specs.Records.Url.{Url}
use Rattle.uv_model.specs.Valid.{FitsScheme, Valid, scheme_in}
use Rattle.uv_model.proofs.Texts.AsciiLemmas.{IsAscii-from_test}
use Rattle.uv_model.proofs.SchemeLemmas.{is_ascii-scheme}

-- a scheme that a form takes is a URL-scheme string
fits_some : (has : Bool) (scheme : List ℕ) → FitsScheme has (Some scheme) → is_scheme scheme ≡ true
fits_some true scheme fits = fits
fits_some false scheme fits = absurd cc

-- the scheme of a valid text is ASCII
pub scheme_is_ascii : (profile : Profile) (base : Option Url) (text : List ℕ) (parts : Parts) (scheme : List ℕ)
    → Valid profile base text parts → parts.scheme ≡ Some scheme → IsAscii scheme
scheme_is_ascii profile base text parts scheme valid here =
    let fits : FitsScheme (has_scheme parts.form) (Some scheme) = rw (← here) valid.scheme in
    IsAscii-from_test scheme (is_ascii-scheme scheme (fits_some (has_scheme parts.form) scheme fits))

-- the opaque path of a text is denoted by its encoding, in which a space at its end is escaped where something follows
pub opaque_path_denoted : (base : Option Url) (class : Class) (parts : Parts) → parts.form ≡ SchemeOpaque
    → Opaque (encoded false (end_escaped (has_tail parts) parts.path_text)) ≡ denoted_path base class parts.form parts
opaque_path_denoted base class parts form = rw form refl

-- a URL by its fields
abbrev pub fields : List ℕ → Option Host → Option ℕ → UrlPath → Option (List ℕ) → Option (List ℕ) → Url
fields scheme host port path query fragment =
    record { scheme = scheme; host = host; port = port; path = path; query = query; fragment = fragment }

-- six fields that belong to the denoted URL
pub denote-fields : (base : Option Url) (parts : Parts) (class : Class) (scheme : List ℕ) (host : Option Host)
    (port : Option ℕ) (path : UrlPath) (query fragment : Option (List ℕ))
    → class ≡ scheme_class (scheme_in base parts)
    → scheme ≡ denoted_scheme base parts.scheme
    → host ≡ denoted_host base parts.form parts
    → port ≡ denoted_port base parts.form parts
    → path ≡ denoted_path base class parts.form parts
    → query ≡ denoted_query base class parts.form parts.query
    → fragment ≡ option_map (encoded false) parts.fragment
    → fields scheme host port path query fragment ≡ denote base parts
unfolding denote
denote-fields base parts class scheme host port path query fragment e e1 e2 e3 e4 e5 e6 =
    rw (e1, e2, e3, e4, e5, e6, e) refl
