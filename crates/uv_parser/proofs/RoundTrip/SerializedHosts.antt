-- The texts of the host of a URL that is well formed under the parser's profile: where they end, that they are hosts of
-- that profile, and that the parser doesn't stop at them.
use Rattle.std.proofs.Common.{◌≡◌, ℕ, ◌⊎◌, ◌||◌, ◌==◌, Bool, true, false, List, [], ◌∷◌, Some, refl, inl, inr, arith}
use Rattle.std.specs.List.{list_all}
use Rattle.std.specs.Char.{is_ascii_alphabetic}
use Rattle.std.proofs.lemmas.Bool.{and_parts, and_right}
use Rattle.std.proofs.lemmas.Bool.Decides.{nat_tests}
use Rattle.uv_model.specs.declared.profile.Profile.TheVariants.{Parser}
use Rattle.uv_model.specs.declared.host.Host.{Host}
use Rattle.uv_model.specs.declared.host.Host.TheVariants as host
use Rattle.uv_model.specs.declared.scheme.Class.{Class}
use Rattle.uv_model.specs.declared.scheme.Class.TheVariants.{SpecialNotFile, File, Other}
use Rattle.uv_model.specs.Ascii.{colon, vertical_bar}
use Rattle.uv_model.specs.Hosts.Address.{IsAddress, IsBracketedIpv6, IsIpv4}
use Rattle.uv_model.specs.Hosts.Domain.{is_form_code_point}
use Rattle.uv_model.specs.Hosts.StoppedHost.{is_stopped}
use Rattle.uv_model.specs.Path.{is_drive_letter}
use Rattle.uv_model.specs.Records.Serialize.{serial_host, serial_ipv4, serial_ipv6}
use Rattle.uv_model.specs.Records.WellFormed.{IsFileHost, IsSpecialHost, IsUrlDomain, IsUrlHost}
use Rattle.uv_model.specs.Valid.{IsFileHostText, IsHostText}
use Rattle.uv_model.proofs.Addresses.AddressesReadBack.{read_back}
use Rattle.uv_model.proofs.Cuts.HostCutLemmas.{IsHostWord, passes-weaker, word_of_ipv4, word_of_ipv6, word_of_nothing}
use Rattle.uv_model.proofs.Cuts.HostCutLemmas.{word_of_opaque, word_passes}
use Rattle.uv_model.proofs.Hosts.ParserForms.{bracketed_not_stopped, going_not_stopped, ipv4_by_profile, is_going}
use Rattle.uv_model.proofs.Hosts.ParserForms.{wide_host_not_stopped}
use Rattle.uv_parser.specs.Laws.RoundTrip.{IsStableHost}
use Rattle.uv_parser.proofs.HostParsing.SpecialHosts.{host_from_parser}
use Rattle.uv_model.proofs.Violations.FaultlessHosts.{host_not_empty}
use Rattle.std.proofs.Common.{codes}

-- ---- addresses

-- what is written for a value is an IPv4 text
pub ipv4_text : (value : ℕ) → IsAddress (host.V4 value) → IsIpv4 (serial_ipv4 value) value
unfolding serial_host
ipv4_text value small = read_back (host.V4 value) small

-- what is written for pieces is an IPv6 text in brackets
pub ipv6_text : (pieces : List ℕ) → IsAddress (host.V6 pieces) → IsBracketedIpv6 (serial_ipv6 pieces) pieces
unfolding serial_host
ipv6_text pieces small = read_back (host.V6 pieces) small

-- ---- where the text of a host ends

-- a domain holds no mark that ends a host
domain_word : (form : List ℕ) → IsUrlDomain Parser form → IsHostWord form
domain_word form is = word_passes (is_form_code_point Parser) refl refl refl refl refl form is.letters

-- the text of a well-formed URL's host
pub host_word : (class : Class) (value : Host) → IsUrlHost Parser class (Some value) → IsHostWord (serial_host value)
unfolding serial_host
host_word SpecialNotFile (host.Domain form) is = domain_word form is
host_word SpecialNotFile (host.V4 value) is = word_of_ipv4 _ value (ipv4_text value is)
host_word SpecialNotFile (host.V6 pieces) is = word_of_ipv6 _ pieces (ipv6_text pieces is)
host_word SpecialNotFile (host.Opaque text) is = absurd is
host_word SpecialNotFile host.Empty is = absurd is
host_word File (host.Domain form) is = domain_word form is.0
host_word File (host.V4 value) is = word_of_ipv4 _ value (ipv4_text value is)
host_word File (host.V6 pieces) is = word_of_ipv6 _ pieces (ipv6_text pieces is)
host_word File (host.Opaque text) is = absurd is
host_word File host.Empty is = word_of_nothing
host_word Other (host.Domain form) is = absurd is
host_word Other (host.V4 value) is = absurd is
host_word Other (host.V6 pieces) is = word_of_ipv6 _ pieces (ipv6_text pieces is)
host_word Other (host.Opaque text) is = word_of_opaque text is.host
host_word Other host.Empty is = word_of_nothing

-- ---- what the text of a host is

-- parsing the text of a special URL's host gives that host
pub special_text : (value : Host) → IsSpecialHost Parser (Some value) → IsStableHost (Some value)
    → IsHostText Parser (serial_host value) value
unfolding serial_host
special_text (host.Domain form) is stable = host_from_parser form (host.Domain form) stable
special_text (host.V4 value) is stable = ipv4_by_profile Parser (serial_ipv4 value) value (ipv4_text value is)
special_text (host.V6 pieces) is stable = ipv6_text pieces is
special_text (host.Opaque text) is stable = absurd is
special_text host.Empty is stable = absurd is

-- parsing the text of a file URL's host gives that host, or nothing for the empty host
pub file_text : (value : Host) → IsFileHost Parser (Some value) → IsStableHost (Some value)
    → IsFileHostText Parser (serial_host value) value ⊎ ((serial_host value ≡ []) × (value ≡ host.Empty))
unfolding serial_host
file_text (host.Domain form) is stable = inl (host_from_parser form (host.Domain form) stable, is.1)
file_text (host.V4 value) is stable = inl (ipv4_by_profile Parser (serial_ipv4 value) value (ipv4_text value is))
file_text (host.V6 pieces) is stable = inl (ipv6_text pieces is)
file_text (host.Opaque text) is stable = absurd is
file_text host.Empty is stable = inr (refl, refl)

-- ---- the parser goes on

-- at no code point of a domain the parser stops
form_going : (c : ℕ) → is_form_code_point Parser c ≡ true → is_going c ≡ true
form_going c is = grind (arith, nat_tests)

-- nor does one end a drive letter
no_drive_mark : (c : ℕ) → is_form_code_point Parser c ≡ true → ((c == colon) || (c == vertical_bar)) ≡ false
no_drive_mark c is = grind (arith, nat_tests)

-- so a domain isn't a drive letter
no_drive : (form : List ℕ) → list_all (is_form_code_point Parser) form ≡ true → is_drive_letter form ≡ false
no_drive [] is = refl
no_drive (c ∷ []) is = refl
no_drive (c ∷ mark ∷ []) is =
    let after = (and_parts (is_form_code_point Parser c) (list_all (is_form_code_point Parser) (mark ∷ [])) is).1 in
    and_right (is_ascii_alphabetic c) _ (no_drive_mark mark (and_parts (is_form_code_point Parser mark) true after).0)
no_drive (c ∷ mark ∷ next ∷ rest) is = refl

-- the parser doesn't stop at a domain
domain_unstopped : (class : Class) (last : Bool) (form : List ℕ) → IsUrlDomain Parser form
    → is_stopped Parser class last form ≡ false
domain_unstopped class last form is =
    going_not_stopped Parser class last form
    (passes-weaker (is_form_code_point Parser) is_going form_going form is.letters) (no_drive form is.letters)

-- nor at an IPv4 address
ipv4_unstopped : (class : Class) (last : Bool) (value : ℕ) → IsAddress (host.V4 value)
    → is_stopped Parser class last (serial_ipv4 value) ≡ false
ipv4_unstopped class last value small =
    wide_host_not_stopped class last (serial_ipv4 value) (host.V4 value) (ipv4_text value small)

-- nor at an IPv6 address
ipv6_unstopped : (class : Class) (last : Bool) (pieces : List ℕ) → IsAddress (host.V6 pieces)
    → is_stopped Parser class last (serial_ipv6 pieces) ≡ false
ipv6_unstopped class last pieces small =
    bracketed_not_stopped Parser class last (serial_ipv6 pieces) pieces (ipv6_text pieces small)

-- so it doesn't at a special URL's host
pub special_goes_on : (last : Bool) (value : Host) → IsSpecialHost Parser (Some value)
    → is_stopped Parser SpecialNotFile last (serial_host value) ≡ false
unfolding serial_host
special_goes_on last (host.Domain form) is = domain_unstopped SpecialNotFile last form is
special_goes_on last (host.V4 value) is = ipv4_unstopped SpecialNotFile last value is
special_goes_on last (host.V6 pieces) is = ipv6_unstopped SpecialNotFile last pieces is
special_goes_on last (host.Opaque text) is = absurd is
special_goes_on last host.Empty is = absurd is

-- nor at the text of a file URL's host
pub file_goes_on : (last : Bool) (value : Host) → IsFileHost Parser (Some value)
    → IsFileHostText Parser (serial_host value) value → is_stopped Parser File last (serial_host value) ≡ false
unfolding serial_host
file_goes_on last (host.Domain form) is named = domain_unstopped File last form is.0
file_goes_on last (host.V4 value) is named = ipv4_unstopped File last value is
file_goes_on last (host.V6 pieces) is named = ipv6_unstopped File last pieces is
file_goes_on last (host.Opaque text) is named = absurd is
file_goes_on last host.Empty is named = absurd (host_not_empty Parser [] (host.Domain (codes "localhost")) named refl)
