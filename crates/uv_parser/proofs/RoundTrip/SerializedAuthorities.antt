-- The serialized text of a well-formed URL with a host: the parser is silent on it, and its parts denote the URL.
use Rattle.std.proofs.Common.{◌≡◌, ℕ, true, List, [], ◌∷◌, ◌++◌, ◌⊎◌, decimal, Option, Some, None, refl, sym, ap, ◌∙◌}
use Rattle.std.proofs.Common.{inl, inr, append_assoc}
use Rattle.std.specs.Prelude.{option_map}
use Rattle.std.specs.List.{join_with_byte}
use Rattle.std.proofs.lemmas.Bool.{false≢true}
use Rattle.uv_model.specs.Path.{MayBePathSlashed}
use Rattle.uv_model.specs.declared.scheme.Class.{Class}
use Rattle.uv_model.specs.declared.scheme.Class.TheVariants.{SpecialNotFile, File, Other}
use Rattle.uv_model.specs.declared.host.Host.{Host}
use Rattle.uv_model.specs.declared.host.Host.TheVariants as host
use Rattle.uv_model.specs.declared.path.UrlPath.TheVariants.{Segments}
use Rattle.uv_model.specs.Ascii.{slash, colon}
use Rattle.uv_model.specs.Cut.{IsHostCut}
use Rattle.uv_model.specs.Records.Denote.{authority_host, authority_path, denote}
use Rattle.uv_model.specs.Parts.{Parts, SchemeAuthority, written, written_after}
use Rattle.uv_parser.specs.Laws.OtherHosts.{own_value}
use Rattle.uv_model.specs.Scheme.{default_port, scheme_class}
use Rattle.uv_model.specs.Records.Serialize.{serial, serial_host, serial_port, serial_segments}
use Rattle.uv_model.specs.Records.Url.{Url}
use Rattle.uv_model.specs.Setting.{setting_of}
use Rattle.uv_model.specs.Valid.{FitsAuthority, IsOpaqueHostText, MayBePortText, Valid, port_given}
use Rattle.uv_model.specs.declared.profile.Profile.TheVariants.{Parser}
use Rattle.uv_model.specs.Records.WellFormed.{IsUrlHost}
use Rattle.uv_model.proofs.Cuts.HostCutLemmas.{IsHostWord}
use Rattle.uv_parser.specs.Laws.RoundTrip.{IsStableHost}
use Rattle.uv_parser.proofs.RoundTrip.SerializedHosts.{file_goes_on, file_text, host_word, ipv6_text, special_goes_on}
use Rattle.uv_parser.proofs.RoundTrip.SerializedHosts.{special_text}
use Rattle.uv_model.specs.Records.WellFormed.{AreUrlSegments, IsUrlFragment, IsUrlPath, IsUrlPort, IsUrlQuery}
use Rattle.uv_model.specs.Records.WellFormed.{IsUrlScheme, takes_port}
use Rattle.uv_parser.proofs.RoundTrip.SerializedPaths.{IsSilentOn, denoted_query-own, lowercase-scheme, url_of}
use Rattle.uv_parser.proofs.RoundTrip.SerializedTexts.{AreSegments-url, encoded-ascii, encoded-fragment, fragment_units}
use Rattle.uv_parser.proofs.RoundTrip.SerializedTexts.{port_given-decimal, port_text-decimal, query_units}
use Rattle.uv_parser.proofs.RoundTrip.SerializedTexts.{serial_segments-joined, walk-kept}
use Rattle.uv_parser.proofs.Silence.SilentAuthority.{written_with_authority}
use Rattle.uv_parser.proofs.Loops.Tails.{tail}
use Rattle.uv_model.proofs.Cuts.ValidCutLemmas.{authority_fits, cut_of_parts, path_after}

-- ---- the path

-- the path after an authority, with its segments
path_slashed : (segments : List (List ℕ)) → AreUrlSegments segments
    → MayBePathSlashed segments (serial_segments segments)
path_slashed [] are = inl (refl, refl)
path_slashed (segment ∷ rest) are = inr (record {
  after = join_with_byte slash (segment ∷ rest);
  slashed = serial_segments-joined segment rest;
  joins = record {
    first = segment;
    others = rest;
    some = refl;
    each = AreSegments-url (segment ∷ rest) are;
    joined = refl;
  };
})

-- the path of a URL with a host has segments of a URL
path_segments : (class : Class) (value : Host) (segments : List (List ℕ))
    → IsUrlPath Parser class (Some value) (Segments segments) → AreUrlSegments segments
path_segments class value [] is = tt
path_segments class value (segment ∷ rest) is = is

-- and denotes itself
path_denoted : (class : Class) (value : Host) (segments : List (List ℕ))
    → IsUrlPath Parser class (Some value) (Segments segments) → authority_path class segments ≡ segments
path_denoted SpecialNotFile value [] is = absurd (false≢true is)
path_denoted File value [] is = absurd (false≢true is)
path_denoted Other value [] is = refl
path_denoted SpecialNotFile value (segment ∷ rest) is = walk-kept SpecialNotFile [] (segment ∷ rest) is
path_denoted File value (segment ∷ rest) is = walk-kept File [] (segment ∷ rest) is
path_denoted Other value (segment ∷ rest) is = walk-kept Other [] (segment ∷ rest) is

-- ---- the port

-- the port, with its text
record PortFits (class : Class) (scheme : List ℕ) (value : Host) (port : Option ℕ) : Type 0 where
  text : MayBePortText (option_map decimal port)
  given : port ≡ port_given (default_port scheme) (option_map decimal port)
  taken : (port ≡ None) ⊎ (takes_port class (Some value) ≡ true)

-- the port of a URL with its text
port_fits : (scheme : List ℕ) (value : Host) (port : Option ℕ) → IsUrlPort scheme (Some value) port
    → PortFits (scheme_class scheme) scheme value port
port_fits scheme value None is = record { text = tt; given = refl; taken = inl refl }
port_fits scheme value (Some port) is = record {
  text = port_text-decimal port is.2;
  given = sym (port_given-decimal scheme port is.2 is.1);
  taken = inr is.0;
}

-- what is written for it
port_written : (port : Option ℕ) → written_after colon (option_map decimal port) ≡ serial_port port
port_written None = refl
port_written (Some port) = refl

-- ---- the parts

-- the parts of the text of a URL with a host
abbrev authority_parts : List ℕ → Host → Option ℕ → List (List ℕ) → Option (List ℕ) → Option (List ℕ) → Parts
authority_parts scheme value port segments query fragment = record {
  form = SchemeAuthority;
  scheme = Some scheme;
  host_text = Some (serial_host value);
  host = own_value value;
  port_text = option_map decimal port;
  port = port;
  path_text = serial_segments segments;
  segments = segments;
  query = query;
  fragment = fragment;
}

-- a host whose text is empty is the empty host
empty_text : (value : Host) → IsUrlHost Parser Other (Some value) → serial_host value ≡ [] → value ≡ host.Empty
unfolding serial_host
empty_text (host.Domain form) is nothing = absurd is
empty_text (host.V4 value) is nothing = absurd is
empty_text (host.V6 pieces) is nothing = absurd cc
empty_text (host.Opaque text) is nothing = absurd (let some = is.host.some in cc)
empty_text host.Empty is nothing = refl

-- no port is after it
alone : (value : Host) (port : Option ℕ) → IsUrlHost Parser Other (Some value)
    → (port ≡ None) ⊎ (takes_port Other (Some value) ≡ true) → serial_host value ≡ []
    → option_map decimal port ≡ None
alone value port is (inl none) nothing = rw none refl
alone value port is (inr takes) nothing =
    absurd (false≢true (sym (ap (λ v. takes_port Other (Some v)) (empty_text value is nothing)) ∙ takes))

-- of a file URL no port is there
no_file_port : (value : Host) (port : Option ℕ) → (port ≡ None) ⊎ (takes_port File (Some value) ≡ true)
    → port ≡ None
no_file_port value port (inl none) = none
no_file_port value port (inr takes) = absurd (false≢true takes)

-- each host but an opaque one is its own value
own_file : (value : Host) → IsUrlHost Parser File (Some value) → own_value value ≡ Some value
own_file (host.Domain form) is = refl
own_file (host.V4 value) is = refl
own_file (host.V6 pieces) is = refl
own_file (host.Opaque text) is = absurd is
own_file host.Empty is = refl

-- so is each host of a special URL
own_special : (value : Host) → IsUrlHost Parser SpecialNotFile (Some value) → own_value value ≡ Some value
own_special (host.Domain form) is = refl
own_special (host.V4 value) is = refl
own_special (host.V6 pieces) is = refl
own_special (host.Opaque text) is = absurd is
own_special host.Empty is = absurd is

-- a host of class Other is an opaque-host string or an IPv6 text in brackets, or nothing after which no port is
other_text : (value : Host) (port : Option (List ℕ)) → IsUrlHost Parser Other (Some value)
    → (serial_host value ≡ [] → port ≡ None) → MayBePortText port
    → (IsOpaqueHostText (serial_host value) (own_value value) × MayBePortText port)
    ⊎ ((serial_host value ≡ []) × (own_value value ≡ Some host.Empty) × (port ≡ None))
unfolding serial_host
other_text (host.Domain form) port is alone fits = absurd is
other_text (host.V4 value) port is alone fits = absurd is
other_text (host.V6 pieces) port is alone fits = inl (ipv6_text pieces is, fits)
other_text (host.Opaque text) port is alone fits = inl (is.host, fits)
other_text host.Empty port is alone fits = inr (refl, refl, alone refl)

-- the host, the port and the path fit
all_fits : (class : Class) (scheme : List ℕ) (value : Host) (port : Option ℕ) (segments : List (List ℕ))
    (query fragment : Option (List ℕ)) → IsUrlHost Parser class (Some value) → IsStableHost (Some value)
    → PortFits class scheme value port → MayBePathSlashed segments (serial_segments segments)
    → FitsAuthority class (setting_of Parser None (Some scheme)) (serial_host value)
    (authority_parts scheme value port segments query fragment)
all_fits SpecialNotFile scheme value port segments query fragment is stable fits path = record {
  unstopped = special_goes_on _ value is;
  value = value;
  host = special_text value is stable;
  valued = own_special value is;
  port_text = fits.text;
  port = fits.given;
  path = path;
}
all_fits File scheme value port segments query fragment is stable fits path =
    let none = no_file_port value port fits.taken in (
      rw none refl,
      none,
      elim (file_text value is stable) [
        | inl named ↦ inl (record {
          unstopped = file_goes_on _ value is named;
          value = value;
          host = named;
          valued = own_file value is;
          path = path;
          no_drive = tt;
        })
        | inr (nothing, empty) ↦ inr (nothing, own_file value is ∙ ap Some empty, path)
      ],
    )
all_fits Other scheme value port segments query fragment is stable fits path =
    (other_text value (option_map decimal port) is (alone value port is fits.taken) fits.text, fits.given, path)

-- the host is cut where its text ends
host_cut : (class : Class) (value : Host) (port : Option ℕ) → IsHostWord (serial_host value)
    → (port ≡ None) ⊎ (takes_port class (Some value) ≡ true)
    → IsHostCut class (serial_host value) (option_map decimal port)
host_cut SpecialNotFile value port word taken = word.ends (option_map decimal port)
host_cut File value port word taken = rw (no_file_port value port taken) refl
host_cut Other value port word taken = word.ends (option_map decimal port)

-- the host of the parts is the URL's
host_denoted : (class : Class) (value : Host) → IsUrlHost Parser class (Some value)
    → (parts : Parts) → parts.host ≡ own_value value → parts.host_text ≡ Some (serial_host value)
    → authority_host parts ≡ Some value
unfolding serial_host
host_denoted class (host.Domain form) is parts own text = rw own refl
host_denoted class (host.V4 value) is parts own text = rw own refl
host_denoted class (host.V6 pieces) is parts own text = rw own refl
host_denoted class host.Empty is parts own text = rw own refl
host_denoted SpecialNotFile (host.Opaque name) is parts own text = absurd is
host_denoted File (host.Opaque name) is parts own text = absurd is
host_denoted Other (host.Opaque name) is parts own text =
    rw (own, text) (ap (λ s. Some (host.Opaque s)) (encoded-ascii name is.ascii))

-- ---- the whole

module _ (scheme : List ℕ) (value : Host) (port : Option ℕ) (segments : List (List ℕ))
    (query fragment : Option (List ℕ))
    (is : IsUrlScheme scheme) (host_is : IsUrlHost Parser (scheme_class scheme) (Some value))
    (stable : IsStableHost (Some value))
    (port_is : IsUrlPort scheme (Some value) port)
    (path_is : IsUrlPath Parser (scheme_class scheme) (Some value) (Segments segments))
    (query_is : IsUrlQuery (scheme_class scheme) query) (fragment_is : IsUrlFragment fragment) where
  -- the parts of its text
  abbrev parts : Parts
  parts = authority_parts scheme value port segments query fragment

  -- the URL
  abbrev url : Url
  url = url_of scheme (Some value) port (Segments segments) query fragment

  -- its host
  word : IsHostWord (serial_host value)
  word = host_word (scheme_class scheme) value host_is

  -- its port
  fits : PortFits (scheme_class scheme) scheme value port
  fits = port_fits scheme value port port_is

  -- its path
  slashed : MayBePathSlashed segments (serial_segments segments)
  slashed = path_slashed segments (path_segments (scheme_class scheme) value segments path_is)

  -- they are valid under the parser's profile
  valid : Valid Parser None (written parts) parts
  valid = record {
    whole = refl;
    cut =
        cut_of_parts None (written parts) parts true refl is.spelled (λ none. absurd (false≢true (sym none)))
        (authority_fits (scheme_class scheme) (serial_host value) (option_map decimal port) (serial_segments segments)
        word fits.text (host_cut (scheme_class scheme) value port word fits.taken)
        (path_after segments (serial_segments segments) slashed))
        (query_units (scheme_class scheme) query query_is);
    scheme = is.spelled;
    against = refl;
    form = all_fits (scheme_class scheme) scheme value port segments query fragment host_is stable fits slashed;
    query = query_units (scheme_class scheme) query query_is;
    fragment = fragment_units fragment fragment_is;
  }

  -- they are written as the URL is serialized
  written_text : written parts ≡ serial url
  unfolding serial
  written_text =
      written_with_authority parts scheme (serial_host value) refl refl
      ∙ ap
      (λ xs. scheme ++ colon ∷ slash ∷ slash ∷ (((serial_host value ++ xs) ++ serial_segments segments)
      ++ tail query fragment))
      (port_written port)
      ∙ ap (λ xs. scheme ++ colon ∷ slash ∷ slash ∷ xs)
      (append_assoc (serial_host value ++ serial_port port) (serial_segments segments) (tail query fragment))

  -- and denote it
  denoted : denote None parts ≡ url
  unfolding denote
  denoted = λ i. record {
    scheme = lowercase-scheme scheme is i;
    host = host_denoted (scheme_class scheme) value host_is parts refl refl i;
    port = port;
    path = Segments (path_denoted (scheme_class scheme) value segments path_is i);
    query = denoted_query-own (scheme_class scheme) SchemeAuthority query refl query_is i;
    fragment = encoded-fragment fragment fragment_is i;
  }

  -- the parser is silent on the text of a URL with a host
  pub authority_read : IsSilentOn url
  authority_read = record { parts = parts; valid = valid; written = written_text; denoted = denoted }
