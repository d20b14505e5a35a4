-- The parts of a valid text are unique: each follows from the texts into which the text is cut.
use Rattle.std.proofs.Common.{◌≡◌, ◌≢◌, ℕ, Bool, true, false, ◌==◌, List, [], ◌∷◌, Option, Some, None, refl, sym}
use Rattle.std.proofs.Common.{ap, ◌∙◌, inl, inr}
use Rattle.std.specs.Prelude.{IsSome, if◌then◌else◌}
use Rattle.std.proofs.lemmas.Bool.{false≢true}
use Rattle.std.specs.List.{join_with_byte}
use Rattle.std.proofs.lemmas.List.Splits.{slice_split_none, slice_split_at}
use Rattle.uv_model.specs.declared.profile.Profile.{Profile}
use Rattle.uv_model.specs.declared.profile.Profile.TheVariants.{Standard, Wide, Parser}
use Rattle.uv_model.specs.declared.scheme.Class.{Class}
use Rattle.uv_model.specs.declared.scheme.Class.TheVariants.{SpecialNotFile, File, Other}
use Rattle.uv_model.specs.declared.host.Host.{Host}
use Rattle.uv_model.specs.Ascii.{slash}
use Rattle.uv_model.specs.Path.{MayBePathSlashed, IsPathAbsolute, IsPathRelative, IsPathSlashed, JoinsTo, AreSegments}
use Rattle.uv_model.specs.Path.{segments_after, starts_with_slash}
use Rattle.uv_model.specs.Parts.{Form, SchemeAuthority, SchemePath, SchemeOpaque, Authority, PathAbsolute}
use Rattle.uv_model.specs.Parts.{PathRelative, NoPath, Parts, has_scheme}
use Rattle.uv_model.specs.Setting.{Setting, setting_of}
use Rattle.uv_model.specs.Valid.{FitsAuthority, FitsHostText, HasNoAuthority, FitsForm, FitsScheme, IsOpaquePath}
use Rattle.uv_model.specs.Valid.{port_given}
use Rattle.uv_model.specs.Cut.{Cut, is_followed, texts_of}
use Rattle.uv_model.specs.Laws.Cuts.{PartsAreUnique}
use Rattle.uv_model.proofs.Hosts.HostUniqueness.{HasHost, one_host}
use Rattle.uv_model.specs.Path.{pieces}
use Rattle.uv_model.proofs.Paths.PathTexts.{without_slash}
use Rattle.uv_model.proofs.Paths.SlashedPaths.{alone_or_none, slashed_or_none}
use Rattle.uv_model.proofs.Cuts.ValidCutLemmas.{valid_texts}

-- ---- segments

-- segments with `/` between each two are split where they are joined
split_joined : (first : List ℕ) (others : List (List ℕ)) → AreSegments (first ∷ others)
    → pieces (join_with_byte slash (first ∷ others)) ≡ first ∷ others
split_joined first [] each = slice_split_none (λ c. c == slash) first (without_slash first each.0.no_slash)
split_joined first (next ∷ rest) each =
    slice_split_at (λ c. c == slash) first slash (join_with_byte slash (next ∷ rest))
    (without_slash first each.0.no_slash) refl
    ∙ ap (λ xs. first ∷ xs) (split_joined next rest each.1)

-- so they are their text's
pub joined_segments : (segments : List (List ℕ)) (text : List ℕ) → JoinsTo segments text → segments ≡ pieces text
joined_segments segments text joins =
    let each : AreSegments (joins.first ∷ joins.others) = rw joins.some at joins.each in
    rw (joins.joined, joins.some) (sym (split_joined joins.first joins.others each))

-- the segments of a path-relative string
pub relative_segments : (segments : List (List ℕ)) (text : List ℕ) → IsPathRelative segments text
    → segments ≡ pieces text
relative_segments segments text is = joined_segments segments text is.joins

-- the segments of a path-absolute string
pub absolute_segments : (segments : List (List ℕ)) (text : List ℕ) → IsPathAbsolute segments text
    → segments ≡ segments_after text
absolute_segments segments text is = rw is.slashed (relative_segments segments is.after is.relative)

-- the segments of `/` and any segments
pub slashed_segments : (segments : List (List ℕ)) (text : List ℕ) → IsPathSlashed segments text
    → segments ≡ segments_after text
slashed_segments segments text is = rw is.slashed (joined_segments segments is.after is.joins)

-- the segments of a path after an authority
pub may_be_segments : (segments : List (List ℕ)) (text : List ℕ) → MayBePathSlashed segments text
    → segments ≡ segments_after text
may_be_segments segments text (inl (nothing, none)) = rw (nothing, none) refl
may_be_segments segments text (inr is) = slashed_segments segments text is

-- the segments of a path by the form
abbrev pub segments_of : Form → List ℕ → List (List ℕ)
segments_of SchemeOpaque text = []
segments_of PathRelative text = pieces text
segments_of NoPath text = []
segments_of _ text = segments_after text

-- ---- the form

-- the form of a text by what of it is there
abbrev pub form_of : Option (List ℕ) → Option (List ℕ) → List ℕ → Form
form_of (Some scheme) (Some host_text) path_text = SchemeAuthority
form_of None (Some host_text) path_text = Authority
form_of (Some scheme) None path_text = if starts_with_slash path_text then SchemePath else SchemeOpaque
form_of None None [] = NoPath
form_of None None (c ∷ rest) = if c == slash then PathAbsolute else PathRelative

-- a form with an authority
pub authority_form : (has : Bool) (scheme host_text : Option (List ℕ)) → FitsScheme has scheme → IsSome host_text
    → (path_text : List ℕ) → (if has then SchemeAuthority else Authority) ≡ form_of scheme host_text path_text
authority_form has scheme None named some path_text = absurd (false≢true some)
authority_form true (Some scheme) (Some host_text) named some path_text = refl
authority_form true None (Some host_text) named some path_text = absurd named
authority_form false scheme (Some host_text) named some path_text = rw named refl

-- which has a host text
host_is_some : (setting : Setting) (parts : Parts) (host_text : Option (List ℕ)) → FitsHostText setting parts host_text
    → IsSome host_text
host_is_some setting parts None is = absurd is
host_is_some setting parts (Some host_text) is = refl

-- a form with a scheme and without an authority
pub alone_form : (scheme host_text : Option (List ℕ)) (path_text : List ℕ) → FitsScheme true scheme → host_text ≡ None
    → form_of scheme host_text path_text ≡ (if starts_with_slash path_text then SchemePath else SchemeOpaque)
alone_form None host_text path_text named none = absurd named
alone_form (Some scheme) host_text path_text named none = rw none refl

-- a relative path that isn't empty, without a scheme and an authority
pub relative_form : (path_text : List ℕ) → path_text ≢ [] → starts_with_slash path_text ≡ false
    → PathRelative ≡ form_of None None path_text
relative_form [] some start = absurd (some refl)
relative_form (c ∷ rest) some start = rw start refl

-- an opaque path doesn't begin with `/`
opaque_start : (profile : Profile) (followed : Bool) (text : List ℕ) → IsOpaquePath profile followed text
    → starts_with_slash text ≡ false
opaque_start Standard followed text (segments, path) = path.start
opaque_start Wide followed text (segments, path) = path.start
opaque_start Parser followed text path = path.spaced.start

-- the form of the parts follows from their texts
form_found : (setting : Setting) (form : Form) (parts : Parts) → FitsScheme (has_scheme form) parts.scheme
    → FitsForm setting form parts → form ≡ form_of parts.scheme parts.host_text parts.path_text
form_found setting SchemeAuthority parts named is =
    authority_form true parts.scheme parts.host_text named
    (host_is_some setting parts parts.host_text is) parts.path_text
form_found setting Authority parts named is =
    authority_form false parts.scheme parts.host_text named
    (host_is_some setting parts parts.host_text is) parts.path_text
form_found setting SchemePath parts named (none, other, path) =
    let shown = alone_form parts.scheme parts.host_text parts.path_text named none.host_text in
    let start : starts_with_slash parts.path_text ≡ true = rw path.slashed refl in
    sym (shown ∙ rw start refl)
form_found setting SchemeOpaque parts named (none, other, path, empty) =
    let shown = alone_form parts.scheme parts.host_text parts.path_text named none.host_text in
    let start = opaque_start setting.profile (is_followed (texts_of parts)) parts.path_text path in
    sym (shown ∙ rw start refl)
form_found setting PathAbsolute parts named (none, path, drive) = rw (named, none.host_text, path.slashed) refl
form_found setting PathRelative parts named (none, path, some, free) =
    rw (named, none.host_text) (relative_form parts.path_text some path.start)
form_found setting NoPath parts named (none, nothing, empty) = rw (named, none.host_text, nothing) refl

-- ---- what a form makes of the texts

-- the host, the port and the segments belong to the texts
record AreDenoted (setting : Setting) (class : Class) (form : Form) (host_text : Option (List ℕ)) (parts : Parts)
    : Type 0
  where
    host : HasHost setting.profile class host_text parts.host
    port : parts.port ≡ port_given setting.default_port parts.port_text
    segments : parts.segments ≡ segments_of form parts.path_text

-- no port if there is no port text
pub no_port : (default : Option ℕ) (port_text : Option (List ℕ)) (port : Option ℕ) → port_text ≡ None → port ≡ None
    → port ≡ port_given default port_text
no_port default port_text port absent none = rw (absent, none) refl

-- no host if there is no host text
no_host : (profile : Profile) (class : Class) (host_text : Option (List ℕ)) (host : Option Host) → host_text ≡ None
    → host ≡ None
    → HasHost profile class host_text host
no_host profile class host_text host absent none = rw absent none

-- what follows `//` by the class
denoted_by_class : (class : Class) (setting : Setting) (host_text : List ℕ) (parts : Parts)
    → FitsAuthority class setting host_text parts → AreDenoted setting class Authority (Some host_text) parts
denoted_by_class SpecialNotFile setting host_text parts is = record {
  host = (is.value, is.host, is.valued);
  port = is.port;
  segments = may_be_segments parts.segments parts.path_text
      (slashed_or_none setting.profile parts.segments parts.path_text is.path);
}
denoted_by_class File setting host_text parts (none, absent, inl named) = record {
  host = inl (named.value, named.host, named.valued);
  port = no_port setting.default_port parts.port_text parts.port none absent;
  segments = may_be_segments parts.segments parts.path_text
      (slashed_or_none setting.profile parts.segments parts.path_text named.path);
}
denoted_by_class File setting host_text parts (none, absent, inr (nothing, valued, path)) = record {
  host = inr (nothing, valued);
  port = no_port setting.default_port parts.port_text parts.port none absent;
  segments =
      may_be_segments parts.segments parts.path_text
      (alone_or_none setting.profile parts.segments parts.path_text path);
}
denoted_by_class Other setting host_text parts (inl (host, port), given, path) = record {
  host = inl host;
  port = given;
  segments = may_be_segments parts.segments parts.path_text
      (slashed_or_none setting.profile parts.segments parts.path_text path);
}
denoted_by_class Other setting host_text parts (inr (nothing, valued, none), given, path) = record {
  host = inr (nothing, valued);
  port = given;
  segments = may_be_segments parts.segments parts.path_text
      (slashed_or_none setting.profile parts.segments parts.path_text path);
}

-- with a host text
denoted_with_host : (setting : Setting) (parts : Parts) (host_text : Option (List ℕ))
    → FitsHostText setting parts host_text
    → AreDenoted setting setting.class Authority host_text parts
denoted_with_host setting parts None is = absurd is
denoted_with_host setting parts (Some host_text) is =
    denoted_by_class setting.class setting host_text parts is

-- without an authority
denoted_alone : (setting : Setting) (class : Class) (form : Form) (parts : Parts) → HasNoAuthority parts
    → parts.segments ≡ segments_of form parts.path_text → AreDenoted setting class form parts.host_text parts
denoted_alone setting class form parts none segments = record {
  host = no_host setting.profile class parts.host_text parts.host none.host_text none.host;
  port = no_port setting.default_port parts.port_text parts.port none.port_text none.port;
  segments = segments;
}

-- in each form
denoted_by_form : (setting : Setting) (form : Form) (parts : Parts) → FitsForm setting form parts
    → AreDenoted setting setting.class form parts.host_text parts
denoted_by_form setting SchemeAuthority parts is =
    let all = denoted_with_host setting parts parts.host_text is in
    record { host = all.host; port = all.port; segments = all.segments }
denoted_by_form setting Authority parts is = denoted_with_host setting parts parts.host_text is
denoted_by_form setting SchemePath parts (none, other, path) =
    denoted_alone setting setting.class SchemePath parts none
    (absolute_segments parts.segments parts.path_text path)
denoted_by_form setting SchemeOpaque parts (none, other, path, empty) =
    denoted_alone setting setting.class SchemeOpaque parts none empty
denoted_by_form setting PathAbsolute parts (none, path, drive) =
    denoted_alone setting setting.class PathAbsolute parts none
    (absolute_segments parts.segments parts.path_text path)
denoted_by_form setting PathRelative parts (none, path, some, free) =
    denoted_alone setting setting.class PathRelative parts none
    (relative_segments parts.segments parts.path_text path)
denoted_by_form setting NoPath parts (none, nothing, empty) =
    denoted_alone setting setting.class NoPath parts none empty

-- ---- uniqueness

-- parts with the same texts and values are the same
pub same_parts : (p q : Parts) → texts_of p ≡ texts_of q → p.form ≡ q.form → p.host ≡ q.host → p.port ≡ q.port
    → p.segments ≡ q.segments → p ≡ q
same_parts p q texts form host port segments = λ i. record {
  form = form i;
  scheme = (texts i).scheme;
  host_text = (texts i).host_text;
  host = host i;
  port_text = (texts i).port_text;
  port = port i;
  path_text = (texts i).path_text;
  segments = segments i;
  query = (texts i).query;
  fragment = (texts i).fragment;
}

-- the parts of a valid text are unique
pub parts_are_unique : PartsAreUnique
parts_are_unique profile base text p q is is' =
    let setting = setting_of profile base q.scheme in
    let texts : texts_of p ≡ texts_of q =
    valid_texts profile base text p is ∙ sym (valid_texts profile base text q is') in
    let scheme : p.scheme ≡ q.scheme = ap (λ (c : Cut). c.scheme) texts in
    let host_text : p.host_text ≡ q.host_text = ap (λ (c : Cut). c.host_text) texts in
    let port_text : p.port_text ≡ q.port_text = ap (λ (c : Cut). c.port_text) texts in
    let path_text : p.path_text ≡ q.path_text = ap (λ (c : Cut). c.path_text) texts in
    let found = form_found (setting_of profile base p.scheme) p.form p is.scheme is.form in
    let found' = form_found setting q.form q is'.scheme is'.form in
    let form : p.form ≡ q.form = found ∙ rw (scheme, host_text, path_text) (sym found') in
    let all = denoted_by_form (setting_of profile base p.scheme) p.form p is.form in
    let all' = denoted_by_form setting q.form q is'.form in
    let has : HasHost profile setting.class q.host_text p.host = rw (scheme, host_text) at all.host in
    let host = one_host profile setting.class q.host_text p.host q.host has all'.host in
    let port : p.port ≡ q.port = all.port ∙ rw (scheme, port_text) (sym all'.port) in
    let segments : p.segments ≡ q.segments = all.segments ∙ rw (form, path_text) (sym all'.segments) in
    same_parts p q texts form host port segments
