-- No code point of a valid text of the parser's profile is removed before the machine's first step.
use Rattle.uv_model.specs.declared.host.Host.{Host}
use Rattle.uv_model.specs.declared.host.Host.TheVariants.{Domain, V4, V6, Opaque, Empty}
use Rattle.uv_model.specs.Valid.{IsOpaqueHostText}
use Rattle.uv_model.proofs.Hosts.ParserForms.{bracketed_not_stopped}
use Rattle.uv_model.proofs.Texts.UnitsLemmas.{is_faultless-units}
use Rattle.std.proofs.Common.{◌≡◌, ℕ, Bool, true, false, ◌||◌, List, [], ◌∷◌, ◌++◌, Option, Some, None, refl}
use Rattle.std.proofs.Common.{append_assoc, inl, inr, arith}
use Rattle.std.specs.Prelude.{is_some}
use Rattle.std.specs.List.{list_all}
use Rattle.std.specs.Char.{is_ascii_digit}
use Rattle.std.proofs.lemmas.Bool.{and_from, and_parts, false≢true}
use Rattle.std.proofs.lemmas.Bool.Decides.{nat_tests}
use Rattle.uv_model.specs.declared.profile.Profile.TheVariants.{Parser}
use Rattle.uv_model.specs.declared.scheme.Class.{Class}
use Rattle.uv_model.specs.declared.scheme.Class.TheVariants.{SpecialNotFile, File, Other}
use Rattle.uv_model.specs.Ascii.{colon, slash}
use Rattle.uv_model.specs.Cut.{ends_at_host, texts_of}
use Rattle.uv_model.specs.Hosts.StoppedHost.{ends_with_control}
use Rattle.uv_model.specs.Parts.{Form, SchemeAuthority, SchemePath, SchemeOpaque, Authority, PathAbsolute, PathRelative}
use Rattle.uv_model.specs.Parts.{NoPath, Parts, has_scheme, written, written_after, written_authority, written_scheme}
use Rattle.uv_model.specs.Path.{IsPathAbsolute, IsPathRelative, MayBePathSlashed}
use Rattle.uv_model.specs.Records.Url.{Url}
use Rattle.uv_model.specs.Removed.{first_removed}
use Rattle.uv_model.specs.Setting.{setting_of}
use Rattle.uv_model.specs.Valid.{FitsAuthority, FitsForm, FitsHostText, FitsScheme, HasNoAuthority, MayBePortText}
use Rattle.uv_model.specs.Valid.{Valid}
use Rattle.uv_model.proofs.Paths.JoinedSegments.{faultless_joined, faultless_path}
use Rattle.uv_parser.proofs.Loops.Tails.{tail}
use Rattle.uv_parser.proofs.Running.KeptTexts.{IsKept, above_is_kept, above_starts, kept_append, kept_passes}
use Rattle.uv_parser.proofs.Running.KeptTexts.{spaced_ends, spaced_untabbed, starts_with_control}
use Rattle.uv_parser.proofs.Running.StoppedHosts.{IsHostKept, ends_where_nothing_follows, file_goes_on, special_goes_on}
use Rattle.uv_parser.proofs.Running.Unremoved.{is_unremoved, unremoved_append, unremoved_faultless, unremoved_scheme}
use Rattle.uv_parser.proofs.Running.Unremoved.{unremoved_tail}

-- ---- the code points of ports and paths

-- digits are never removed
unremoved_digits : (text : List ℕ) → list_all is_ascii_digit text ≡ true → list_all is_unremoved text ≡ true
unremoved_digits [] is = refl
unremoved_digits (c ∷ rest) is =
    let parts = and_parts (is_ascii_digit c) (list_all is_ascii_digit rest) is in
    and_from _ _ (unremoved_digit c parts.0) (unremoved_digits rest parts.1)
  where
    unremoved_digit : (c : ℕ) → is_ascii_digit c ≡ true → is_unremoved c ≡ true
    unremoved_digit c is = grind (arith, nat_tests)

-- nor is a port after its `:`
unremoved_port : (port : Option (List ℕ)) → MayBePortText port
    → list_all is_unremoved (written_after colon port) ≡ true
unremoved_port None fits = refl
unremoved_port (Some port) fits = unremoved_digits port fits.digits

-- nor are the code points of a path
unremoved_relative : (segments : List (List ℕ)) (text : List ℕ) → IsPathRelative segments text
    → list_all is_unremoved text ≡ true
unremoved_relative segments text path = unremoved_faultless text (faultless_path segments text path)

-- of one that begins with `/`
unremoved_absolute : (segments : List (List ℕ)) (text : List ℕ) → IsPathAbsolute segments text
    → list_all is_unremoved text ≡ true
unremoved_absolute segments text path = rw path.slashed (unremoved_relative segments path.after path.relative)

-- and of one after an authority
unremoved_path : (segments : List (List ℕ)) (text : List ℕ) → MayBePathSlashed segments text
    → list_all is_unremoved text ≡ true
unremoved_path segments text (inl none) = rw none.0 refl
unremoved_path segments text (inr path) =
    rw path.slashed (unremoved_faultless path.after (faultless_joined segments path.after path.joins))

-- ---- hosts

-- What the conditions on an authority say: its host is kept, and the code points after the host stay anywhere.
record AuthorityIsKept (host_text : List ℕ) (parts : Parts) : Type 0 where
  host : IsHostKept (ends_at_host (texts_of parts)) host_text
  port : list_all is_unremoved (written_after colon parts.port_text) ≡ true
  path : list_all is_unremoved parts.path_text ≡ true

-- a host of which each code point stays anywhere
host_above : (last : Bool) (text : List ℕ) → list_all is_unremoved text ≡ true → IsHostKept last text
host_above last text above =
    let is = above_is_kept text above in
    record { untabbed = is.untabbed; end = λ alone. is.end }

-- an opaque-host string or an IPv6 text in brackets
opaque_kept : (last : Bool) (text : List ℕ) (host : Option Host) → IsOpaqueHostText text host → IsHostKept last text
opaque_kept last text None is = host_above last text (unremoved_faultless text (is_faultless-units text is.units))
opaque_kept last text (Some (V6 pieces)) is =
    let on = special_goes_on last text (bracketed_not_stopped Parser SpecialNotFile last text pieces is) in
    record { untabbed = on.untabbed; end = on.end }
opaque_kept last text (Some (Domain form)) is = absurd is
opaque_kept last text (Some (V4 value)) is = absurd is
opaque_kept last text (Some (Opaque name)) is = absurd is
opaque_kept last text (Some Empty) is = absurd is

-- by the class
authority_is_kept : (class : Class) (base : Option Url) (scheme : Option (List ℕ)) (host_text : List ℕ) (parts : Parts)
    → FitsAuthority class (setting_of Parser base scheme) host_text parts → AuthorityIsKept host_text parts
authority_is_kept SpecialNotFile base scheme host_text parts is =
    let on = special_goes_on (ends_at_host (texts_of parts)) host_text is.unstopped in
    record {
      host = record { untabbed = on.untabbed; end = on.end };
      port = unremoved_port parts.port_text is.port_text;
      path = unremoved_path parts.segments parts.path_text is.path;
    }
authority_is_kept File base scheme host_text parts (no_text, none, inl is) =
    let on = (file_goes_on (ends_at_host (texts_of parts)) host_text is.unstopped).1 in
    record {
      host = record { untabbed = on.untabbed; end = on.end };
      port = rw no_text refl;
      path = unremoved_path parts.segments parts.path_text is.path;
    }
authority_is_kept File base scheme host_text parts (no_text, none, inr (empty, valued, path)) = record {
  host = host_above _ host_text (rw empty refl);
  port = rw no_text refl;
  path = unremoved_path parts.segments parts.path_text path;
}
authority_is_kept Other base scheme host_text parts (inl (is, port_text), port, path) = record {
  host = opaque_kept _ host_text parts.host is;
  port = unremoved_port parts.port_text port_text;
  path = unremoved_path parts.segments parts.path_text path;
}
authority_is_kept Other base scheme host_text parts (inr (empty, valued, no_text), port, path) = record {
  host = host_above _ host_text (rw empty refl);
  port = rw no_text refl;
  path = unremoved_path parts.segments parts.path_text path;
}

-- ---- what is after the scheme

-- what is after the scheme
abbrev middle : Parts → List ℕ
middle parts =
    written_authority parts.host_text parts.port_text ++ (parts.path_text ++ tail parts.query parts.fragment)

-- It is kept, and if there is no scheme it begins with no C0 control and no space.
record MiddleIsKept (parts : Parts) (text : List ℕ) : Type 0 where
  kept : IsKept text
  start : parts.scheme ≡ None → starts_with_control text ≡ false

-- where each code point of it stays anywhere
middle_above : (parts : Parts) (text : List ℕ) → list_all is_unremoved text ≡ true → MiddleIsKept parts text
middle_above parts text above = record { kept = above_is_kept text above; start = λ none. above_starts text above }

-- with an authority
with_host : (base : Option Url) (parts : Parts) (host_text : Option (List ℕ))
    → FitsHostText (setting_of Parser base parts.scheme) parts host_text
    → list_all is_unremoved (tail parts.query parts.fragment) ≡ true
    → MiddleIsKept parts
    (written_authority host_text parts.port_text ++ (parts.path_text ++ tail parts.query parts.fragment))
with_host base parts None is above = absurd is
with_host base parts (Some host) is above =
    let fits = authority_is_kept _ base parts.scheme host parts is in
    let port = written_after colon parts.port_text in
    let path = parts.path_text ++ tail parts.query parts.fragment in
    let after = above_is_kept (port ++ path) (unremoved_append port path fits.port
    (unremoved_append parts.path_text (tail parts.query parts.fragment) fits.path above)) in
    let kept : IsKept (slash ∷ slash ∷ (host ++ (port ++ path)))
    = kept_append (slash ∷ slash ∷ host) (port ++ path) fits.host.untabbed after
    (λ nothing. slashed host (fits.host.end (ends_where_nothing_follows (texts_of parts) nothing))) in
    record { kept = rw (append_assoc host port path) kept; start = λ none. refl }
  where
    slashed : (host : List ℕ) → ends_with_control host ≡ false → ends_with_control (slash ∷ slash ∷ host) ≡ false
    slashed [] end = refl
    slashed (c ∷ host) end = end

-- without one
without_host : (parts : Parts) → HasNoAuthority parts → list_all is_unremoved parts.path_text ≡ true
    → list_all is_unremoved (tail parts.query parts.fragment) ≡ true → MiddleIsKept parts (middle parts)
without_host parts none path above =
    middle_above parts (middle parts)
    (rw none.host_text (unremoved_append parts.path_text (tail parts.query parts.fragment) path above))

-- if nothing follows a path, neither a query nor a fragment does
nothing_follows : (query fragment : Option (List ℕ)) → tail query fragment ≡ []
    → (is_some query || is_some fragment) ≡ false
nothing_follows (Some query) fragment nothing = absurd cc
nothing_follows None (Some fragment) nothing = absurd cc
nothing_follows None None nothing = refl

-- in each form
by_form : (base : Option Url) (form : Form) (parts : Parts) → FitsScheme (has_scheme form) parts.scheme
    → FitsForm (setting_of Parser base parts.scheme) form parts
    → list_all is_unremoved (tail parts.query parts.fragment) ≡ true → MiddleIsKept parts (middle parts)
by_form base SchemeAuthority parts named is above = with_host base parts parts.host_text is above
by_form base Authority parts named is above = with_host base parts parts.host_text is above
by_form base SchemePath parts named (none, other, path) above =
    without_host parts none (unremoved_absolute parts.segments parts.path_text path) above
by_form base SchemeOpaque parts named (none, other, path, empty) above =
    let spaced = path.spaced.units in
    let kept : IsKept (parts.path_text ++ tail parts.query parts.fragment)
    = kept_append parts.path_text (tail parts.query parts.fragment) (spaced_untabbed parts.path_text spaced)
    (above_is_kept (tail parts.query parts.fragment) above)
    (λ nothing. spaced_ends parts.path_text spaced
    (path.end (nothing_follows parts.query parts.fragment nothing))) in
    record { kept = rw none.host_text kept; start = λ absent. absurd (has_one parts.scheme absent named) }
  where
    has_one : (scheme : Option (List ℕ)) → scheme ≡ None → FitsScheme true scheme → ⊥
    has_one None absent named = named
    has_one (Some scheme) absent named = cc
by_form base PathAbsolute parts named (none, path, drive) above =
    without_host parts none (unremoved_absolute parts.segments parts.path_text path) above
by_form base PathRelative parts named (none, path, some, free) above =
    without_host parts none (unremoved_relative parts.segments parts.path_text path) above
by_form base NoPath parts named (none, nothing, empty) above = without_host parts none (rw nothing refl) above

-- ---- the whole text

-- after a scheme
after_scheme : (scheme : Option (List ℕ)) (has : Bool) (text : List ℕ) → FitsScheme has scheme → IsKept text
    → (scheme ≡ None → starts_with_control text ≡ false) → first_removed (written_scheme scheme ++ text) ≡ None
after_scheme None has text named kept start = kept_passes text (start refl) kept
after_scheme (Some scheme) false text named kept start = absurd cc
after_scheme (Some []) true text named kept start = absurd (false≢true named)
after_scheme (Some (c ∷ scheme)) true text named kept start =
    let name = c ∷ scheme in
    let above = unremoved_append name (colon ∷ []) (unremoved_scheme name named) refl in
    let before = above_is_kept (name ++ colon ∷ []) above in
    kept_passes ((name ++ colon ∷ []) ++ text) (above_starts (name ++ colon ∷ []) above)
    (kept_append (name ++ colon ∷ []) text before.untabbed kept (λ nothing. before.end))

-- no code point of a valid text is removed
pub parser_valid_is_kept : (base : Option Url) (text : List ℕ) (parts : Parts) → Valid Parser base text parts
    → first_removed text ≡ None
unfolding written
parser_valid_is_kept base text parts valid =
    let above = unremoved_tail parts.query parts.fragment valid.query valid.fragment in
    let is = by_form base parts.form parts valid.scheme valid.form above in
    rw valid.whole (after_scheme parts.scheme (has_scheme parts.form) (middle parts) valid.scheme is.kept is.start)
