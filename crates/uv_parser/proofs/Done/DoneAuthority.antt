-- The run of a text with a scheme and an authority on which the parser is silent is done, with the URL that the parts
-- denote.
use Rattle.std.proofs.Common.{◌≡◌, ℕ, Bool, true, false, ◌==◌, ◌&&◌, ◌⊎◌, List, [], ◌∷◌, ◌++◌, length, Option, Some}
use Rattle.std.proofs.Common.{None, refl, sym, ap, subst, ◌∙◌, inl, inr}
use Rattle.std.specs.List.{list_all}
use Rattle.std.proofs.lemmas.Bool.{and_from, and_left, and_parts, and_right, true≢false}
use Rattle.uv_model.specs.declared.host.Host.{Host}
use Rattle.uv_model.specs.declared.host.Host.TheVariants as host
use Rattle.uv_model.specs.declared.scheme.Class.{Class}
use Rattle.uv_model.specs.declared.scheme.Class.TheVariants.{SpecialNotFile, File, Other}
use Rattle.uv_model.specs.Ascii.{slash, colon, question_mark, number_sign, at_sign, backslash}
use Rattle.uv_model.specs.Cut.{EndsAtPort, IsAuthorityCut, IsHostCut, class_in, ends_at_host, is_within}
use Rattle.uv_model.specs.Cut.{is_within_at_end, texts_of}
use Rattle.uv_model.specs.Records.Denote.{authority_host}
use Rattle.uv_model.specs.Encoding.{encoded}
use Rattle.uv_parser.specs.HostParser.{parse_host}
use Rattle.uv_parser.specs.Machine.{is_special}
use Rattle.uv_model.specs.Parts.{Form, Parts, SchemeAuthority, has_scheme, written_after, written_authority}
use Rattle.uv_parser.specs.Laws.OtherHosts.{own_value}
use Rattle.uv_model.specs.Path.{is_without}
use Rattle.uv_model.specs.Scheme.{is_scheme, lowercase, scheme_class}
use Rattle.uv_parser.specs.Laws.Silence.{RunsSilently}
use Rattle.uv_model.specs.Records.Url.{Url}
use Rattle.uv_model.specs.Setting.{scheme_or, setting_of}
use Rattle.uv_model.specs.Valid.{FitsAuthority, FitsHostText, FitsScheme, HasAuthority, IsFileAuthority}
use Rattle.uv_model.specs.Valid.{IsOtherAuthority, IsSpecialAuthority, MayBePortText, Valid, scheme_in}
use Rattle.uv_model.specs.Valid.{HasFileHost}
use Rattle.uv_model.specs.declared.profile.Profile.TheVariants.{Parser}
use Rattle.uv_model.proofs.Hosts.HostUniqueness.{opaque_not_empty}
use Rattle.uv_parser.proofs.Running.StoppedHosts.{file_goes_on, special_goes_on}
use Rattle.uv_parser.proofs.Silence.KeptParts.{parser_valid_is_kept}
use Rattle.uv_parser.specs.Laws.OtherHosts.{IsValidOtherHost}
use Rattle.uv_model.proofs.Cuts.AuthorityCutLemmas.{EndsFrom, ends_from_start, first_is_no_mark, rest_ends}
use Rattle.uv_parser.proofs.Loops.AuthorityEnds.{IsParsed}
use Rattle.uv_parser.proofs.Loops.AuthorityLoops.{is_authority_letter, is_read_as_host}
use Rattle.uv_parser.proofs.Decided.CutTexts.{marks}
use Rattle.uv_parser.proofs.Done.Decided.{fits_form}
use Rattle.uv_parser.proofs.Loops.FileHosts.{IsFileRead}
use Rattle.uv_parser.proofs.HostParsing.HostParserLemmas.{has_some, parsed_some}
use Rattle.uv_parser.proofs.HostParsing.OtherHosts.{silent_other_hosts_are_valid}
use Rattle.uv_parser.proofs.HostParsing.OtherHostsTaken.{other_hosts_are_taken}
use Rattle.uv_model.proofs.Texts.MarkLemmas.{is_without-parts, is_without-cons}
use Rattle.uv_parser.proofs.Loops.SchemeStretch.{scheme_there}
use Rattle.uv_parser.proofs.Silence.SilentAuthority.{HasParsed, authority_runs, is_special_scheme, not_special}
use Rattle.uv_parser.proofs.Silence.SilentAuthority.{other_starts, special_some, special_starts, valued_some}
use Rattle.uv_parser.proofs.Silence.SilentFile.{FileHostEnds, empty_host_ends, file_host_ends, file_runs}
use Rattle.uv_parser.proofs.HostParsing.SpecialHosts.{host_of_file, parsed_host}

-- ---- what the cut says of a host text

-- a host text without `/`, `?`, `#`, `@` and, of a special URL, `\` has only letters of an authority
pub letters_from : (special : Bool) (cs : List ℕ) → is_without slash cs ≡ true → is_without question_mark cs ≡ true
    → is_without number_sign cs ≡ true → is_without at_sign cs ≡ true
    → (special ≡ true → is_without backslash cs ≡ true) → list_all (is_authority_letter special) cs ≡ true
letters_from special [] a b d e f = refl
letters_from special (c ∷ cs) a b d e f =
    let a = is_without-cons slash c cs a in
    let b = is_without-cons question_mark c cs b in
    let d = is_without-cons number_sign c cs d in
    let e = is_without-cons at_sign c cs e in
    let mark = no_backslash special c cs f in
    let first : is_authority_letter special c ≡ true = simp (a.0, b.0, d.0, e.0, mark) refl in
    and_from _ _ first (letters_from special cs a.1 b.1 d.1 e.1 (λ is. (is_without-cons backslash c cs (f is)).1))
  where
    no_backslash : (special : Bool) (c : ℕ) (cs : List ℕ) → (special ≡ true → is_without backslash (c ∷ cs) ≡ true)
        → ((c == backslash) && special) ≡ false
    no_backslash true c cs f = and_left _ _ (is_without-cons backslash c cs (f refl)).0
    no_backslash false c cs f = and_right (c == backslash) false refl

-- the host state reads the whole host text of a cut
pub reads_from : (special within : Bool) (cs : List ℕ) (port : Option (List ℕ)) → EndsFrom within cs port
    → list_all (is_authority_letter special) cs ≡ true → is_read_as_host special within cs ≡ true
reads_from special within [] port ends letters = refl
reads_from special within (c ∷ cs) port ends letters =
    let parts = and_parts (is_authority_letter special c) (list_all (is_authority_letter special) cs) letters in
    let mark = first_is_no_mark within c cs port ends in
    rw (parts.0, mark) (reads_from special (is_within within c) cs port (rest_ends within c cs port ends) parts.1)

-- What a form with an authority says, with the scheme and the host text named.
pub record IsNamed (base : Option Url) (parts : Parts) (class : Class) (scheme host_text : List ℕ) : Type 0 where
  pub given : parts.host_text ≡ Some host_text
  pub of_class : scheme_class scheme ≡ class
  pub fits : FitsAuthority class (setting_of Parser base (Some scheme)) host_text parts
  pub host_cut : IsHostCut class host_text parts.port_text
  pub no_slash : is_without slash host_text ≡ true
  pub no_question_mark : is_without question_mark host_text ≡ true
  pub no_number_sign : is_without number_sign host_text ≡ true

-- a host text is there
host_there : (base : Option Url) (parts : Parts) (host_text : Option (List ℕ)) → parts.host_text ≡ host_text
    → FitsHostText (setting_of Parser base parts.scheme) parts host_text
    → (text : List ℕ) × (parts.host_text ≡ Some text)
    × FitsAuthority (scheme_class (scheme_in base parts)) (setting_of Parser base parts.scheme) text parts
host_there base parts (Some text) given fits = (text, given, fits)
host_there base parts None given fits = absurd fits

-- a valid text with an authority has a host text, with all of that
pub is_named_by : (base : Option Url) (text : List ℕ) (parts : Parts) (class : Class) (scheme : List ℕ)
    → Valid Parser base text parts → HasAuthority (setting_of Parser base parts.scheme) parts
    → scheme_class (scheme_in base parts) ≡ class
    → scheme_in base parts ≡ scheme → (host_text : List ℕ) × IsNamed base parts class scheme host_text
is_named_by base text parts class scheme is has of_class same =
    let (host_text, given, fits) = host_there base parts parts.host_text refl has in
    let is_class : scheme_class scheme ≡ class = sym (ap scheme_class same) ∙ of_class in
    let fits : FitsAuthority (scheme_class scheme) (setting_of Parser base (Some scheme)) host_text parts
    = subst (λ (s : List ℕ). FitsAuthority (scheme_class s) (setting_of Parser base (Some s)) host_text parts) same
    fits in
    let have = marks base text parts.scheme parts.host_text parts.port_text parts.path_text parts.query parts.fragment
    is.cut in
    let question : is_without question_mark (host_text ++ written_after colon parts.port_text) ≡ true
    = subst (λ (o : Option (List ℕ)). is_without question_mark (written_authority o parts.port_text) ≡ true) given
    have.authority_question_mark in
    let number : is_without number_sign (host_text ++ written_after colon parts.port_text) ≡ true
    = subst (λ (o : Option (List ℕ)). is_without number_sign (written_authority o parts.port_text) ≡ true) given
    have.authority_number_sign in
    let cut : IsAuthorityCut (class_in base parts.scheme) (Some host_text) parts.port_text parts.path_text
    = subst (λ (o : Option (List ℕ)). IsAuthorityCut (class_in base parts.scheme) o parts.port_text parts.path_text)
    given is.cut.authority in (
      host_text,
      record {
        given = given;
        of_class = is_class;
        fits =
            subst (λ (k : Class). FitsAuthority k (setting_of Parser base (Some scheme)) host_text parts) is_class fits;
        host_cut = subst (λ (k : Class). IsHostCut k host_text parts.port_text) of_class cut.2;
        no_slash = (is_without-parts slash host_text (written_after colon parts.port_text) cut.0).0;
        no_question_mark = (is_without-parts question_mark host_text (written_after colon parts.port_text) question).0;
        no_number_sign = (is_without-parts number_sign host_text (written_after colon parts.port_text) number).0;
      },
    )

-- a valid text with a scheme and an authority has both by name
is_named : (base : Option Url) (text : List ℕ) (parts : Parts) (class : Class) → Valid Parser base text parts
    → parts.form ≡ SchemeAuthority → scheme_class (scheme_in base parts) ≡ class
    → (scheme : List ℕ) × (host_text : List ℕ) × (is_scheme scheme ≡ true) × (parts.scheme ≡ Some scheme)
    × IsNamed base parts class scheme host_text
is_named base text parts class is form of_class =
    let (scheme, named, spelled) = scheme_there parts.scheme
    (subst (λ (f : Form). FitsScheme (has_scheme f) parts.scheme) form is.scheme) in
    let (host_text, all) = is_named_by base text parts class scheme is
    (fits_form base text parts SchemeAuthority is form) of_class (ap (scheme_or base) named) in
    (scheme, host_text, spelled, named, all)

-- ---- class SpecialNotFile

-- a port's `:` is outside brackets
closed_before : (text : List ℕ) (port : Option (List ℕ)) → EndsAtPort text port → (length text == 0) ≡ false
    → (port ≡ None) ⊎ (((length text == 0) ≡ false) × (is_within_at_end false text ≡ false))
closed_before text None ends some = inl refl
closed_before text (Some port) ends some = inr (some, ends.ends refl)

-- its host has only letters of an authority
pub special_letters : (base : Option Url) (parts : Parts) (scheme host_text : List ℕ)
    → IsNamed base parts SpecialNotFile scheme host_text → list_all (is_authority_letter true) host_text ≡ true
special_letters base parts scheme host_text is =
    let on = special_goes_on (ends_at_host (texts_of parts)) host_text is.fits.unstopped in
    letters_from true host_text is.no_slash is.no_question_mark is.no_number_sign (on.no_at_sign refl)
    (λ same. on.no_backslash)

-- host, port and path of an authority of class SpecialNotFile are parsed as they are denoted
pub special_has : (base : Option Url) (parts : Parts) (scheme host_text : List ℕ)
    → (is : IsNamed base parts SpecialNotFile scheme host_text) → HasParsed parts scheme host_text is.fits.value
special_has base parts scheme host_text is =
    let fits : IsSpecialAuthority (setting_of Parser base (Some scheme)) host_text parts = is.fits in
    let special = is_special_scheme scheme is.of_class in
    let ends : EndsAtPort host_text parts.port_text = is.host_cut in
    let letters : list_all (is_authority_letter (is_special (lowercase scheme))) host_text ≡ true
    = rw special (special_letters base parts scheme host_text is) in
    let host_parsed = parsed_host host_text fits.value fits.host in
    let some = parsed_some host_text fits.value host_parsed in
    let parsed : IsParsed scheme host_text parts.port_text fits.value
    = record {
      read = record {
        letters = letters;
        read = reads_from (is_special (lowercase scheme)) false host_text parts.port_text
            (ends_from_start host_text parts.port_text ends) letters;
      };
      parsed = rw special host_parsed;
      stands = and_left _ _ some;
      some = closed_before host_text parts.port_text ends some;
      port = fits.port_text;
    } in
    record {
      parsed = parsed;
      valued = valued_some parts fits.value fits.valued;
      port = fits.port;
      path = fits.path;
    }

-- an authority of class SpecialNotFile
pub special_done : (base : Option Url) (text : List ℕ) (parts : Parts) → Valid Parser base text parts
    → parts.form ≡ SchemeAuthority → scheme_class (scheme_in base parts) ≡ SpecialNotFile → RunsSilently base text parts
special_done base text parts silent form special =
    let (scheme, host_text, spelled, named, is) = is_named base text parts SpecialNotFile silent form special in
    let all = special_has base parts scheme host_text is in
    authority_runs base parts scheme host_text is.fits.value text silent.whole
    silent.query silent.fragment (parser_valid_is_kept base text parts silent) form spelled named is.given all
    (special_starts base parts scheme host_text is.fits.value is.of_class
    (special_letters base parts scheme host_text is)
    (special_some scheme host_text is.fits.value (is_special_scheme scheme is.of_class) all.parsed.parsed))

-- ---- class Other

-- the opaque host that the parser gives is the encoded text
opaque_encoded : (text other : List ℕ) → parse_host false text ≡ Some (host.Opaque other) → other ≡ encoded false text
opaque_encoded text other parsed =
    elim ((other_hosts_are_taken text (host.Opaque other)).0 parsed) [
      | inl (nothing, empty) ↦ absurd (empty_no_opaque empty)
      | inr (inl (pieces, is, valued)) ↦ absurd (pieces_no_opaque pieces valued)
      | inr (inr (is, valued)) ↦ same_text (encoded false text) valued
    ]
  where
    empty_no_opaque : host.Opaque other ≡ host.Empty → ⊥
    empty_no_opaque e = cc

    pieces_no_opaque : (pieces : List ℕ) → host.Opaque other ≡ host.V6 pieces → ⊥
    pieces_no_opaque pieces e = cc

    same_text : (one : List ℕ) → host.Opaque other ≡ host.Opaque one → other ≡ one
    same_text one e = cc

-- the parser's host is the denoted one
pub other_valued : (parts : Parts) (host_text : List ℕ) (value : Host) → parts.host_text ≡ Some host_text
    → parse_host false host_text ≡ Some value → parts.host ≡ own_value value → Some value ≡ authority_host parts
other_valued parts host_text (host.Domain form) given parsed e = rw e refl
other_valued parts host_text (host.V4 value) given parsed e = rw e refl
other_valued parts host_text (host.V6 pieces) given parsed e = rw e refl
other_valued parts host_text host.Empty given parsed e = rw e refl
other_valued parts host_text (host.Opaque other) given parsed e =
    rw (e, given) (ap (λ t. Some (host.Opaque t)) (opaque_encoded host_text other parsed))

-- an empty host has no port after it, and a port's `:` is outside brackets
other_some : (text : List ℕ) (port : Option (List ℕ)) → EndsAtPort text port → (text ≡ [] → port ≡ None)
    → (port ≡ None) ⊎ (((length text == 0) ≡ false) × (is_within_at_end false text ≡ false))
other_some text None ends alone = inl refl
other_some [] (Some port) ends alone = inl (alone refl)
other_some (c ∷ rest) (Some port) ends alone = inr (has_some (c ∷ rest) c rest refl, ends.ends refl)

-- The host and the port of an authority of class Other.
record OtherFits (scheme host_text : List ℕ) (parts : Parts) : Type 0 where
  host : IsValidOtherHost host_text parts.host
  alone : host_text ≡ [] → parts.port_text ≡ None
  port_text : MayBePortText parts.port_text

-- what the conditions of class Other say of them
other_fits : (base : Option Url) (scheme host_text : List ℕ) (parts : Parts)
    → IsOtherAuthority (setting_of Parser base (Some scheme)) host_text parts → OtherFits scheme host_text parts
other_fits base scheme host_text parts (inl (is, port_text), port, path) = record {
  host = inl is;
  alone = λ nothing. absurd (opaque_not_empty host_text parts.host is nothing);
  port_text = port_text;
}
other_fits base scheme host_text parts (inr (nothing, valued, none), port, path) = record {
  host = inr (nothing, valued);
  alone = λ same. none;
  port_text = rw none tt;
}

-- host, port and path of an authority of class Other are parsed as they are denoted
pub other_has : (base : Option Url) (parts : Parts) (scheme host_text : List ℕ)
    → IsNamed base parts Other scheme host_text → (value : Host) × HasParsed parts scheme host_text value
other_has base parts scheme host_text is =
    let all : IsOtherAuthority (setting_of Parser base (Some scheme)) host_text parts = is.fits in
    let fits = other_fits base scheme host_text parts all in
    let (value, no_at_sign, host_parsed, valued) = (silent_other_hosts_are_valid host_text parts.host).1 fits.host in
    let plain = not_special scheme is.of_class in
    let letters = letters_from (is_special (lowercase scheme)) host_text is.no_slash is.no_question_mark
    is.no_number_sign no_at_sign (λ same. absurd (true≢false (sym same ∙ plain))) in
    let ends : EndsAtPort host_text parts.port_text = is.host_cut in
    let parsed : IsParsed scheme host_text parts.port_text value
    = record {
      read = record {
        letters = letters;
        read = reads_from (is_special (lowercase scheme)) false host_text parts.port_text
            (ends_from_start host_text parts.port_text ends) letters;
      };
      parsed = rw plain host_parsed;
      stands = and_right (length host_text == 0) _ plain;
      some = other_some host_text parts.port_text ends fits.alone;
      port = fits.port_text;
    } in (
      value,
      record {
        parsed = parsed;
        valued = other_valued parts host_text value is.given host_parsed valued;
        port = all.1;
        path = all.2;
      },
    )

-- an authority of class Other
pub other_done : (base : Option Url) (text : List ℕ) (parts : Parts) → Valid Parser base text parts
    → parts.form ≡ SchemeAuthority → scheme_class (scheme_in base parts) ≡ Other → RunsSilently base text parts
other_done base text parts silent form other =
    let (scheme, host_text, spelled, named, is) = is_named base text parts Other silent form other in
    let (value, has) = other_has base parts scheme host_text is in
    authority_runs base parts scheme host_text value text silent.whole
    silent.query silent.fragment (parser_valid_is_kept base text parts silent) form spelled named is.given has
    (other_starts base parts scheme host_text value is.of_class)

-- ---- class File

-- a host text of a file URL is one that the file host state reads
file_host_read : (base : Option Url) (parts : Parts) (scheme host_text : List ℕ)
    → IsNamed base parts File scheme host_text → (has : HasFileHost Parser host_text parts)
    → IsFileRead host_text has.value
file_host_read base parts scheme host_text is has =
    let (drive, on) = file_goes_on (ends_at_host (texts_of parts)) host_text has.unstopped in
    let (value, is_host, made) = host_of_file host_text has.value has.host in
    record {
      parsed_value = value;
      letters = record {
        no_slash = is.no_slash;
        no_question_mark = is.no_question_mark;
        no_number_sign = is.no_number_sign;
        no_backslash = on.no_backslash;
      };
      parsed = parsed_host host_text value is_host;
      made = made;
      drive = drive;
    }

-- a valid text of class File with an authority has a host of a file URL
pub file_has : (base : Option Url) (text : List ℕ) (parts : Parts) (scheme host_text : List ℕ)
    → Valid Parser base text parts
    → IsNamed base parts File scheme host_text → IsFileAuthority (setting_of Parser base (Some scheme)) host_text parts
    → (value : Host) × FileHostEnds base parts host_text value
file_has base text parts scheme host_text silent is (no_text, none, inl has) = (
  has.value,
  record {
    no_port_text = no_text;
    no_port = none;
    valued = has.valued;
    path = has.path;
    ends = file_host_ends base parts.segments parts.path_text parts.query parts.fragment has.path silent.query
        silent.fragment host_text has.value (file_host_read base parts scheme host_text is has);
  },
)
file_has base text parts scheme host_text silent is (no_text, none, inr (empty, valued, path)) = (
  host.Empty,
  record {
    no_port_text = no_text;
    no_port = none;
    valued = valued;
    path = path;
    ends = rw empty (empty_host_ends base parts.segments parts.path_text parts.query parts.fragment path
        silent.query silent.fragment);
  },
)

-- an authority of class File
pub file_done : (base : Option Url) (text : List ℕ) (parts : Parts) → Valid Parser base text parts
    → parts.form ≡ SchemeAuthority → scheme_class (scheme_in base parts) ≡ File → RunsSilently base text parts
file_done base text parts silent form file =
    let (scheme, host_text, spelled, named, is) = is_named base text parts File silent form file in
    let (value, there) = file_has base text parts scheme host_text silent is is.fits in
    file_runs base text parts scheme host_text value silent.whole silent.query
    silent.fragment (parser_valid_is_kept base text parts silent) form spelled named is.given is.of_class there
