-- The cut of a valid text has its parts.
use Rattle.std.proofs.Common.{◌≡◌, ◌≢◌, ℕ, Bool, true, false, ◌==◌, List, [], ◌∷◌, ◌++◌, Option, Some, None, codes}
use Rattle.std.proofs.Common.{refl, sym, ap, ◌∙◌, inl, inr, append_assoc}
use Rattle.std.specs.List.{list_all}
use Rattle.std.specs.Char.{is_ascii_digit, is_ascii_alphabetic}
use Rattle.std.proofs.lemmas.Bool.{false≢true, true≢false, and_from, and_parts}
use Rattle.uv_model.specs.declared.profile.Profile.{Profile}
use Rattle.uv_model.specs.declared.profile.Profile.TheVariants.{Standard, Wide, Parser}
use Rattle.uv_model.specs.declared.scheme.Class.{Class}
use Rattle.uv_model.specs.declared.scheme.Class.TheVariants.{SpecialNotFile, File, Other}
use Rattle.uv_model.specs.declared.host.Host.{Host}
use Rattle.uv_model.specs.declared.host.Host.TheVariants.{Domain, V4, V6, Opaque, Empty}
use Rattle.uv_model.specs.Ascii.{slash, colon, question_mark, number_sign}
use Rattle.uv_model.specs.Path.{MayBePathSlashed, IsPathAbsolute, IsPathRelative, IsPathSlashed, JoinsTo, is_without}
use Rattle.uv_model.specs.Path.{starts_with_slash}
use Rattle.uv_model.specs.Scheme.{is_scheme, is_scheme_code_point}
use Rattle.uv_model.specs.Records.Url.{Url}
use Rattle.uv_model.specs.Parts.{Form, SchemeAuthority, SchemePath, SchemeOpaque, Authority, PathAbsolute}
use Rattle.uv_model.specs.Parts.{PathRelative, NoPath, Parts, has_scheme, written, written_scheme, written_authority}
use Rattle.uv_model.specs.Parts.{written_after}
use Rattle.uv_model.specs.Setting.{Setting, setting_of}
use Rattle.uv_model.specs.Valid.{Valid, IsHostText, IsFileHostText, IsOpaqueHostText, MayBePortText, MayBeUnits}
use Rattle.uv_model.specs.Valid.{FitsAuthority, FitsHostText, HasNoAuthority, FitsForm, FitsScheme, IsOpaquePath}
use Rattle.uv_model.specs.Valid.{IsPathAlone}
use Rattle.uv_model.specs.Hosts.Address.{IsIpv4}
use Rattle.uv_model.specs.Hosts.Numbers.{IsIpv4Text}
use Rattle.uv_model.specs.WrittenProfiles.{IsWritten}
use Rattle.uv_model.specs.Scheme.{starts_with_scheme}
use Rattle.uv_model.specs.Cut.{IsSchemeCut, IsAuthorityCut, IsHostCut, texts_of, cut_of, starts_with_two_slashes}
use Rattle.uv_model.specs.Cut.{written_middle, written_start, written_cut, IsCut, class_in, is_followed}
use Rattle.uv_model.specs.Laws.Cuts.{ValidTextsAreCutIntoTheirParts}
use Rattle.uv_model.proofs.Texts.MarkLemmas.{is_without-append, is_without-more}
use Rattle.uv_model.proofs.Paths.PathLemmas.{IsUnits-join, no_question_mark-join}
use Rattle.uv_model.proofs.Cuts.HostCutLemmas.{is_without-passes, units_without_number_sign, IsHostWord, word_of_form}
use Rattle.uv_model.proofs.Cuts.HostCutLemmas.{word_of_opaque, word_of_nothing, word_of_ipv4, word_of_ipv6}
use Rattle.uv_model.proofs.Cuts.HostCutLemmas.{digits_without}
use Rattle.uv_model.proofs.Cuts.CutLemmas.{cut_is_computed}
use Rattle.uv_model.proofs.Paths.SlashedPaths.{slashed_after, slashed_or_none}

-- ---- hosts

-- an IPv4 text of a written profile is four numbers
pub written_numbers : (profile : Profile) (text : List ℕ) (value : ℕ) → IsWritten profile
    → IsIpv4Text profile text value → IsIpv4 text value
written_numbers Standard text value written is = is
written_numbers Wide text value written is = is
written_numbers Parser text value written is = absurd written

-- a valid host ends where the cut ends it
pub word_of_host : (profile : Profile) (text : List ℕ) (host : Host) → IsWritten profile
    → IsHostText profile text host → IsHostWord text
word_of_host profile text (Domain form) written is = word_of_form profile text form written is.0
word_of_host profile text (V4 value) written is =
    word_of_ipv4 text value (written_numbers profile text value written is)
word_of_host profile text (V6 pieces) written is = word_of_ipv6 text pieces is
word_of_host profile text (Opaque host) written is = absurd is
word_of_host profile text Empty written is = absurd is

-- so does one of a file URL
pub word_of_file_host : (profile : Profile) (text : List ℕ) (host : Host) → IsWritten profile
    → IsFileHostText profile text host → IsHostWord text
word_of_file_host profile text (Domain form) written is = word_of_form profile text form written is.0.0
word_of_file_host profile text (V4 value) written is =
    word_of_ipv4 text value (written_numbers profile text value written is)
word_of_file_host profile text (V6 pieces) written is = word_of_ipv6 text pieces is
word_of_file_host profile text (Opaque host) written is = absurd is
word_of_file_host profile text Empty written is = word_of_form profile text (codes "localhost") written is.0

-- and an opaque one
pub word_of_opaque_host : (text : List ℕ) (host : Option Host) → IsOpaqueHostText text host → IsHostWord text
word_of_opaque_host text None is = word_of_opaque text is
word_of_opaque_host text (Some (Domain form)) is = absurd is
word_of_opaque_host text (Some (V4 value)) is = absurd is
word_of_opaque_host text (Some (V6 pieces)) is = word_of_ipv6 text pieces is
word_of_opaque_host text (Some (Opaque host)) is = absurd is
word_of_opaque_host text (Some Empty) is = absurd is

-- a valid port, written after `:`, holds no such mark
port_without : (mark : ℕ) (port_text : Option (List ℕ)) → is_ascii_digit mark ≡ false → (colon == mark) ≡ false
    → MayBePortText port_text → is_without mark (written_after colon port_text) ≡ true
port_without mark None other differs is = refl
port_without mark (Some text) other differs is =
    is_without-more mark colon text differs (digits_without mark text other is.digits)

-- ---- paths

-- the text of a path holds no mark that ends it
pub record IsPathWord (text : List ℕ) : Type 0 where
  pub no_question_mark : is_without question_mark text ≡ true
  pub no_number_sign : is_without number_sign text ≡ true

-- joined segments are such a text
pub word_of_segments : (segments : List (List ℕ)) (text : List ℕ) → JoinsTo segments text → IsPathWord text
word_of_segments segments text is = record {
  no_question_mark = rw is.joined (no_question_mark-join segments is.each);
  no_number_sign = rw is.joined (units_without_number_sign _ (IsUnits-join segments is.each));
}

-- one more `/` before
pub word_of_slashed : (text : List ℕ) → IsPathWord text → IsPathWord (slash ∷ text)
word_of_slashed text is = record { no_question_mark = is.no_question_mark; no_number_sign = is.no_number_sign }

-- a path-relative string
word_of_relative : (segments : List (List ℕ)) (text : List ℕ) → IsPathRelative segments text → IsPathWord text
word_of_relative segments text is = word_of_segments segments text is.joins

-- a path-absolute string
word_of_absolute : (segments : List (List ℕ)) (text : List ℕ) → IsPathAbsolute segments text → IsPathWord text
word_of_absolute segments text is =
    rw is.slashed (word_of_slashed is.after (word_of_relative segments is.after is.relative))

-- `/` and any segments
word_of_path_slashed : (segments : List (List ℕ)) (text : List ℕ) → IsPathSlashed segments text → IsPathWord text
word_of_path_slashed segments text is =
    rw is.slashed (word_of_slashed is.after (word_of_segments segments is.after is.joins))

-- a path-absolute string doesn't begin with `//`
pub absolute_without_two_slashes : (segments : List (List ℕ)) (text : List ℕ) → IsPathAbsolute segments text
    → starts_with_two_slashes text ≡ false
absolute_without_two_slashes segments text is =
    rw is.slashed (one_slash is.after is.relative.start)
  where
    one_slash : (after : List ℕ) → starts_with_slash after ≡ false → starts_with_two_slashes (slash ∷ after) ≡ false
    one_slash [] none = refl
    one_slash (c ∷ rest) none = none

-- a text that doesn't begin with `/` doesn't begin with `//`
pub without_slash_without_two : (text : List ℕ) → starts_with_slash text ≡ false → starts_with_two_slashes text ≡ false
without_slash_without_two [] none = refl
without_slash_without_two (c ∷ []) none = refl
without_slash_without_two (c ∷ d ∷ rest) none = rw none refl

-- ---- what is between the scheme and the query

-- what holds of these texts of a valid text, whichever its form
pub record MiddleFits (class : Class) (host_text port_text : Option (List ℕ)) (path_text : List ℕ) : Type 0 where
  pub no_question_mark : is_without question_mark (written_authority host_text port_text ++ path_text) ≡ true
  pub no_number_sign : is_without number_sign (written_authority host_text port_text ++ path_text) ≡ true
  pub authority : IsAuthorityCut class host_text port_text path_text

-- the text of a path after an authority
pub record IsPathEnd (text : List ℕ) : Type 0 where
  pub word : IsPathWord text
  pub start : text ≢ [] → starts_with_slash text ≡ true

pub path_after : (segments : List (List ℕ)) (text : List ℕ) → MayBePathSlashed segments text → IsPathEnd text
path_after segments text (inl (nothing, none)) = record {
  word = rw nothing (record { no_question_mark = refl; no_number_sign = refl });
  start = λ some. absurd (some nothing);
}
path_after segments text (inr is) = record {
  word = word_of_path_slashed segments text is;
  start = λ some. rw is.slashed refl;
}

-- an authority and a path hold no mark that ends them
authority_without : (mark : ℕ) (host_text : List ℕ) (port_text : Option (List ℕ)) (path_text : List ℕ)
    → (slash == mark) ≡ false
    → is_without mark host_text ≡ true → is_without mark (written_after colon port_text) ≡ true
    → is_without mark path_text ≡ true
    → is_without mark (written_authority (Some host_text) port_text ++ path_text) ≡ true
authority_without mark host_text port_text path_text differs host port path =
    let text = (host_text ++ written_after colon port_text) ++ path_text in
    let all = is_without-append mark (host_text ++ written_after colon port_text) path_text
    (is_without-append mark host_text (written_after colon port_text) host port) path in
    is_without-more mark slash (slash ∷ text) differs (is_without-more mark slash text differs all)

-- with an authority
pub authority_fits : (class : Class) (host_text : List ℕ) (port_text : Option (List ℕ)) (path_text : List ℕ)
    → IsHostWord host_text
    → MayBePortText port_text → IsHostCut class host_text port_text → IsPathEnd path_text
    → MiddleFits class (Some host_text) port_text path_text
authority_fits class host_text port_text path_text host port ends path =
    record {
      no_question_mark =
          authority_without question_mark host_text port_text path_text refl host.no_question_mark
          (port_without question_mark port_text refl refl port) path.word.no_question_mark;
      no_number_sign =
          authority_without number_sign host_text port_text path_text refl host.no_number_sign
          (port_without number_sign port_text refl refl port) path.word.no_number_sign;
      authority = (
        is_without-append slash host_text _ host.no_slash (port_without slash port_text refl refl port),
        path.start,
        ends,
      );
    }

-- no port text is a valid one
no_port : (port_text : Option (List ℕ)) → port_text ≡ None → MayBePortText port_text
no_port port_text none = rw none tt

-- a path without a host before it
path_alone_end : (profile : Profile) (segments : List (List ℕ)) (text : List ℕ) → IsWritten profile
    → IsPathAlone profile segments text → IsPathEnd text
path_alone_end Standard segments text written path =
    path_after segments text (inr (slashed_after Standard segments text path))
path_alone_end Wide segments text written path =
    path_after segments text (inr (slashed_after Wide segments text path))
path_alone_end Parser segments text written path = absurd written

-- what follows `//` by the class
fits_by_class : (class : Class) (setting : Setting) (host_text : List ℕ) (parts : Parts) → IsWritten setting.profile
    → FitsAuthority class setting host_text parts
    → MiddleFits class (Some host_text) parts.port_text parts.path_text
fits_by_class SpecialNotFile setting host_text parts written is =
    let word = word_of_host setting.profile host_text is.value written is.host in
    authority_fits SpecialNotFile host_text parts.port_text parts.path_text word is.port_text
    (word.ends parts.port_text)
    (path_after parts.segments parts.path_text
    (slashed_or_none setting.profile parts.segments parts.path_text is.path))
fits_by_class File setting host_text parts written (none, absent, inl named) =
    authority_fits File host_text parts.port_text parts.path_text
    (word_of_file_host setting.profile host_text named.value written named.host)
    (no_port parts.port_text none) none (path_after parts.segments parts.path_text
    (slashed_or_none setting.profile parts.segments parts.path_text named.path))
fits_by_class File setting host_text parts written (none, absent, inr (nothing, valued, path)) =
    let word : IsHostWord host_text = rw nothing word_of_nothing in
    authority_fits File host_text parts.port_text parts.path_text word (no_port parts.port_text none) none
    (path_alone_end setting.profile parts.segments parts.path_text written path)
fits_by_class Other setting host_text parts written (inl (host, port), given, path) =
    let word = word_of_opaque_host host_text parts.host host in
    authority_fits Other host_text parts.port_text parts.path_text word port (word.ends parts.port_text)
    (path_after parts.segments parts.path_text
    (slashed_or_none setting.profile parts.segments parts.path_text path))
fits_by_class Other setting host_text parts written (inr (nothing, valued, none), given, path) =
    let word : IsHostWord host_text = rw nothing word_of_nothing in
    authority_fits Other host_text parts.port_text parts.path_text word (no_port parts.port_text none)
    (word.ends parts.port_text)
    (path_after parts.segments parts.path_text
    (slashed_or_none setting.profile parts.segments parts.path_text path))

-- with an authority, whose host text is there
fits_with_host : (setting : Setting) (parts : Parts) (host_text : Option (List ℕ)) → IsWritten setting.profile
    → FitsHostText setting parts host_text
    → MiddleFits setting.class host_text parts.port_text parts.path_text
fits_with_host setting parts None written is = absurd is
fits_with_host setting parts (Some host_text) written is =
    fits_by_class setting.class setting host_text parts written is

-- without an authority
fits_without : (class : Class) (host_text port_text : Option (List ℕ)) (path_text : List ℕ) → host_text ≡ None
    → port_text ≡ None
    → IsPathWord path_text → starts_with_two_slashes path_text ≡ false → MiddleFits class host_text port_text path_text
fits_without class host_text port_text path_text no_host no_port path start =
    rw (no_host, no_port) (record {
      no_question_mark = path.no_question_mark;
      no_number_sign = path.no_number_sign;
      authority = (refl, start);
    })

-- without an authority, by the facts of the form
fits_alone : (class : Class) (parts : Parts) → HasNoAuthority parts → IsPathWord parts.path_text
    → starts_with_two_slashes parts.path_text ≡ false → MiddleFits class parts.host_text parts.port_text parts.path_text
fits_alone class parts none path start =
    fits_without class parts.host_text parts.port_text parts.path_text none.host_text none.port_text path start

-- the empty path
empty_path_word : (text : List ℕ) → text ≡ [] → IsPathWord text
empty_path_word text nothing = rw nothing (record { no_question_mark = refl; no_number_sign = refl })

-- an opaque path
opaque_path_word : (profile : Profile) (followed : Bool) (text : List ℕ) → IsWritten profile
    → IsOpaquePath profile followed text → IsPathWord text × (starts_with_slash text ≡ false)
opaque_path_word Standard followed text written (segments, path) = (word_of_relative segments text path, path.start)
opaque_path_word Wide followed text written (segments, path) = (word_of_relative segments text path, path.start)
opaque_path_word Parser followed text written is = absurd written

-- in each form
fits_by_form : (setting : Setting) (form : Form) (parts : Parts) → IsWritten setting.profile
    → FitsForm setting form parts → MiddleFits setting.class parts.host_text parts.port_text parts.path_text
fits_by_form setting SchemeAuthority parts written is = fits_with_host setting parts parts.host_text written is
fits_by_form setting Authority parts written is = fits_with_host setting parts parts.host_text written is
fits_by_form setting SchemePath parts written (none, other, path) =
    fits_alone setting.class parts none (word_of_absolute parts.segments parts.path_text path)
    (absolute_without_two_slashes parts.segments parts.path_text path)
fits_by_form setting SchemeOpaque parts written (none, other, path, empty) =
    let (word, start) = opaque_path_word setting.profile (is_followed (texts_of parts)) parts.path_text written path in
    fits_alone setting.class parts none word (without_slash_without_two parts.path_text start)
fits_by_form setting PathAbsolute parts written (none, path, drive) =
    fits_alone setting.class parts none (word_of_absolute parts.segments parts.path_text path)
    (absolute_without_two_slashes parts.segments parts.path_text path)
fits_by_form setting PathRelative parts written (none, path, some, free) =
    fits_alone setting.class parts none (word_of_relative parts.segments parts.path_text path)
    (without_slash_without_two parts.path_text path.start)
fits_by_form setting NoPath parts written (none, nothing, empty) =
    fits_alone setting.class parts none (empty_path_word parts.path_text nothing)
    (ap starts_with_two_slashes nothing)

-- ---- the scheme

-- what is between the scheme and the query, with an authority
starts_like_authority : (setting : Setting) (parts : Parts) (host_text : Option (List ℕ))
    → FitsHostText setting parts host_text
    → starts_with_scheme (written_authority host_text parts.port_text ++ parts.path_text) ≡ false
starts_like_authority setting parts None is = absurd is
starts_like_authority setting parts (Some host_text) is = refl

-- a form without a scheme begins with none
free_by_form : (setting : Setting) (form : Form) (parts : Parts) → FitsForm setting form parts → has_scheme form ≡ false
    → starts_with_scheme (written_authority parts.host_text parts.port_text ++ parts.path_text) ≡ false
free_by_form setting SchemeAuthority parts is none = absurd (true≢false none)
free_by_form setting SchemePath parts is none = absurd (true≢false none)
free_by_form setting SchemeOpaque parts is none = absurd (true≢false none)
free_by_form setting Authority parts is none = starts_like_authority setting parts parts.host_text is
free_by_form setting PathAbsolute parts (absent, path, drive) none = rw (absent.host_text, path.slashed) refl
free_by_form setting PathRelative parts (absent, path, some, free) none = rw absent.host_text free
free_by_form setting NoPath parts (absent, nothing, empty) none = rw (absent.host_text, nothing) refl

-- the scheme is cut where it ends
scheme_fits : (has : Bool) (scheme : Option (List ℕ)) (middle : List ℕ) → FitsScheme has scheme
    → (has ≡ false → starts_with_scheme middle ≡ false) → IsSchemeCut scheme middle
scheme_fits true (Some scheme) middle is free = is
scheme_fits true None middle is free = absurd is
scheme_fits false scheme middle is free = rw is (free refl)

-- a scheme and `:` hold no mark that isn't one of their code points
pub scheme_without : (mark : ℕ) (scheme : List ℕ) → is_scheme_code_point mark ≡ false → is_ascii_alphabetic mark ≡ false
    → (colon == mark) ≡ false → is_scheme scheme ≡ true → is_without mark (scheme ++ colon ∷ []) ≡ true
scheme_without mark [] other letter differs is = absurd (false≢true is)
scheme_without mark (c ∷ rest) other letter differs is =
    let parts = and_parts (is_ascii_alphabetic c) (list_all is_scheme_code_point rest) is in
    let first : is_without mark (c ∷ []) ≡ true
    = is_without-passes is_ascii_alphabetic mark (c ∷ []) letter (and_from _ _ parts.0 refl) in
    let others = is_without-passes is_scheme_code_point mark rest other parts.1 in
    is_without-append mark (c ∷ rest) (colon ∷ []) (is_without-append mark (c ∷ []) rest first others)
    (is_without-more mark colon [] differs refl)

-- nor does the written scheme of a text that may have one
written_scheme_without : (mark : ℕ) (has : Bool) (scheme : Option (List ℕ)) → is_scheme_code_point mark ≡ false
    → is_ascii_alphabetic mark ≡ false → (colon == mark) ≡ false → FitsScheme has scheme
    → is_without mark (written_scheme scheme) ≡ true
written_scheme_without mark true None other letter differs is = absurd is
written_scheme_without mark true (Some scheme) other letter differs is =
    scheme_without mark scheme other letter differs is
written_scheme_without mark false scheme other letter differs is = rw is refl

-- ---- the whole

-- units after `?` hold no `#`
query_without : (query : Option (List ℕ)) → MayBeUnits query
    → is_without number_sign (written_after question_mark query) ≡ true
query_without None is = refl
query_without (Some query) is = units_without_number_sign query is

-- the parts are written as their texts are
pub written_as_cut : (parts : Parts) → written parts ≡ written_cut (texts_of parts)
unfolding written
written_as_cut parts = sym (simp append_assoc)

-- parts whose scheme, authority, path and query fit are the cut of the text that they are written as
pub cut_of_parts : (base : Option Url) (text : List ℕ) (parts : Parts) (has : Bool) → text ≡ written parts
    → FitsScheme has parts.scheme
    → (has ≡ false → starts_with_scheme (written_middle (texts_of parts)) ≡ false)
    → MiddleFits (class_in base parts.scheme) parts.host_text parts.port_text parts.path_text
    → MayBeUnits parts.query → IsCut base text (texts_of parts)
cut_of_parts base text parts has whole scheme free middle query =
    let no_question = written_scheme_without question_mark has parts.scheme refl refl refl scheme in
    let no_number = written_scheme_without number_sign has parts.scheme refl refl refl scheme in
    let cut = texts_of parts in
    record {
      whole = whole ∙ written_as_cut parts;
      prefix =
          is_without-append number_sign (written_start cut) (written_after question_mark parts.query)
          (is_without-append number_sign (written_scheme parts.scheme) (written_middle cut) no_number
          middle.no_number_sign)
          (query_without parts.query query);
      start =
          is_without-append question_mark (written_scheme parts.scheme) (written_middle cut) no_question
          middle.no_question_mark;
      scheme = scheme_fits has parts.scheme (written_middle cut) scheme free;
      authority = middle.authority;
    }

-- the cut of a valid text of a written profile has its parts
written_is_cut : (profile : Profile) (base : Option Url) (text : List ℕ) (parts : Parts) → IsWritten profile
    → Valid profile base text parts → IsCut base text (texts_of parts)
written_is_cut profile base text parts written valid =
    let setting = setting_of profile base parts.scheme in
    cut_of_parts base text parts (has_scheme parts.form) valid.whole valid.scheme
    (λ none. free_by_form setting parts.form parts valid.form none)
    (fits_by_form setting parts.form parts written valid.form)
    valid.query

-- the cut of a valid text has its parts
pub valid_is_cut : ValidTextsAreCutIntoTheirParts
valid_is_cut Standard base text parts valid = written_is_cut Standard base text parts tt valid
valid_is_cut Wide base text parts valid = written_is_cut Wide base text parts tt valid
valid_is_cut Parser base text parts valid = valid.cut

-- so its parts have the texts of the computed cut
pub valid_texts : (profile : Profile) (base : Option Url) (text : List ℕ) (parts : Parts)
    → Valid profile base text parts → texts_of parts ≡ cut_of base text
valid_texts profile base text parts valid =
    cut_is_computed base text (texts_of parts) (valid_is_cut profile base text parts valid)
