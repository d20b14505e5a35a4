-- A text with a scheme is checked without looking at the base.
use Rattle.std.proofs.Common.{◌≡◌, ℕ, true, false, ◌==◌, List, [], ◌∷◌, ◌++◌, Option, Some, None, refl, sym, ap, ◌∙◌}
use Rattle.std.proofs.Common.{inl, inr, subst, append_assoc}
use Rattle.std.specs.Prelude.{IsSome}
use Rattle.std.specs.Char.{is_ascii_alphabetic}
use Rattle.std.proofs.lemmas.Bool.{false≢true}
use Rattle.uv_model.specs.declared.profile.Profile.{Profile}
use Rattle.uv_model.specs.declared.profile.Profile.TheVariants.{Standard, Wide, Parser}
use Rattle.uv_model.specs.declared.scheme.Class.{Class}
use Rattle.uv_model.specs.declared.scheme.Class.TheVariants.{SpecialNotFile, File, Other}
use Rattle.uv_model.specs.declared.rule.Rule.{Rule}
use Rattle.uv_model.specs.declared.rule.Rule.TheVariants.{NoScheme, OpaqueBase, TwoSlashes, FirstSegmentEmpty}
use Rattle.uv_model.specs.declared.rule.Rule.TheVariants.{DriveAfterHost}
use Rattle.uv_model.specs.Ascii.{colon, question_mark, number_sign}
use Rattle.uv_model.specs.Scheme.{is_scheme_code_point, scheme_class}
use Rattle.uv_model.specs.Path.{is_without}
use Rattle.uv_model.specs.Records.Url.{Url}
use Rattle.uv_model.specs.Parts.{Form, SchemeAuthority, SchemePath, SchemeOpaque, Authority, PathAbsolute}
use Rattle.uv_model.specs.Parts.{PathRelative, NoPath, Parts, has_scheme}
use Rattle.uv_model.specs.Setting.{Setting, scheme_or, setting_of}
use Rattle.uv_model.specs.Valid.{Valid, FitsAuthority, FitsCut, FitsHostText, FitsForm, FitsScheme, FitsBase}
use Rattle.uv_model.specs.Valid.{scheme_in}
use Rattle.uv_model.specs.Scheme.{starts_with_scheme}
use Rattle.uv_model.specs.Cut.{Cut, cut_of, class_in, scheme_cut, after_scheme, text_before, text_after}
use Rattle.uv_model.specs.Cut.{IsAuthorityCut, host_text_cut, is_followed, port_text_cut, path_text_cut}
use Rattle.uv_model.specs.Laws.Cuts.{TextsWithASchemeIgnoreTheBase}
use Rattle.uv_model.specs.Violations.Violation.{StartViolation, PathStartViolation, HostPartViolation}
use Rattle.uv_model.specs.Violations.UnitViolation.{PathUnitViolation}
use Rattle.uv_model.specs.Violations.Violation.{CheckedViolation, HasHost, ViolationOf, Violation, has_opaque_path}
use Rattle.uv_model.proofs.Texts.MarkLemmas.{is_without-cons, text_before-other}
use Rattle.uv_model.proofs.Cuts.SchemeCutLemmas.{splits_at_scheme, starts_with_written_scheme}
use Rattle.uv_model.proofs.Cuts.ValidCutLemmas.{scheme_without, valid_texts}
use Rattle.uv_model.proofs.Violations.ViolationLemmas.{cut_with}
use Rattle.uv_model.proofs.Violations.ViolationsExcludeParts.{class_with_scheme}

-- ---- a text with a scheme has it before its first `?` and `#`

-- what is before the first mark, of a text that begins with one without it
text_before-after : (mark : ℕ) (xs ys : List ℕ) → is_without mark xs ≡ true
    → text_before mark (xs ++ ys) ≡ xs ++ text_before mark ys
text_before-after mark [] ys none = refl
text_before-after mark (c ∷ xs) ys none =
    let parts = is_without-cons mark c xs none in
    text_before-other mark c (xs ++ ys) parts.0 ∙ ap (λ zs. c ∷ zs) (text_before-after mark xs ys parts.1)

-- so what is before the first such mark begins with the scheme too
starts_before : (mark : ℕ) (text : List ℕ) → is_scheme_code_point mark ≡ false → is_ascii_alphabetic mark ≡ false
    → (colon == mark) ≡ false → starts_with_scheme text ≡ true → starts_with_scheme (text_before mark text) ≡ true
starts_before mark text other letter differs starts =
    let split = splits_at_scheme text starts in
    let none = scheme_without mark split.scheme other letter differs split.is in
    let whole : text ≡ (split.scheme ++ colon ∷ []) ++ split.rest
    = split.joined ∙ sym (append_assoc split.scheme (colon ∷ []) split.rest) in
    let prefix : text_before mark text ≡ split.scheme ++ colon ∷ text_before mark split.rest
    = ap (text_before mark) whole ∙ (text_before-after mark (split.scheme ++ colon ∷ []) split.rest none
    ∙ append_assoc split.scheme (colon ∷ []) (text_before mark split.rest)) in
    ap starts_with_scheme prefix ∙ starts_with_written_scheme split.scheme (text_before mark split.rest) split.is

-- what is before the query begins with the scheme
start_with_scheme : (text : List ℕ) → starts_with_scheme text ≡ true
    → starts_with_scheme (text_before question_mark (text_before number_sign text)) ≡ true
start_with_scheme text starts =
    starts_before question_mark (text_before number_sign text) refl refl refl
    (starts_before number_sign text refl refl refl starts)

-- the cut of such a text has a scheme
pub cut_with_scheme : (base : Option Url) (text : List ℕ) → starts_with_scheme text ≡ true
    → IsSome (cut_of base text).scheme
unfolding cut_of
cut_with_scheme base text starts = rw (start_with_scheme text starts) refl

-- ---- the cut

same_class : (base other : Option Url) (scheme : Option (List ℕ)) → IsSome scheme
    → class_in base scheme ≡ class_in other scheme
same_class base other scheme some = class_with_scheme base scheme some ∙ sym (class_with_scheme other scheme some)

same_cut : (base other : Option Url) (text : List ℕ) → starts_with_scheme text ≡ true
    → cut_of base text ≡ cut_of other text
unfolding cut_of
same_cut base other text starts =
    let prefix = text_before number_sign text in
    let start = text_before question_mark prefix in
    let some = cut_with_scheme base text starts in
    ap (λ (class : Class). with_class class start) (same_class base other (scheme_cut start) some)
  where
    with_class : Class → List ℕ → Cut
    with_class class start = record {
      scheme = scheme_cut start;
      host_text = host_text_cut class (after_scheme start);
      port_text = port_text_cut class (after_scheme start);
      path_text = path_text_cut (after_scheme start);
      query = text_after question_mark (text_before number_sign text);
      fragment = text_after number_sign text;
    }

-- ---- valid parts

-- the scheme by which the parts are checked
same_scheme : (base other : Option Url) (scheme : Option (List ℕ)) → IsSome scheme
    → scheme_or base scheme ≡ scheme_or other scheme
same_scheme base other None some = absurd (false≢true some)
same_scheme base other (Some scheme) some = refl

fits_any_base : (base : Option Url) (parts : Parts) → IsSome parts.scheme → FitsBase base parts
fits_any_base None parts some = some
fits_any_base (Some url) parts some = inl some

-- what follows `//` doesn't depend on it
same_authority : (class : Class) (setting : Setting) (other : Option Url) (text : List ℕ) (parts : Parts)
    → FitsAuthority class setting text parts → FitsAuthority class (record setting { base = other }) text parts
same_authority SpecialNotFile setting other text parts is = record {
  unstopped = is.unstopped;
  value = is.value;
  host = is.host;
  valued = is.valued;
  port_text = is.port_text;
  port = is.port;
  path = is.path;
}
same_authority File setting other text parts is = is
same_authority Other setting other text parts is = is

same_host_text : (profile : Profile) (base other : Option Url) (parts : Parts) (scheme host_text : Option (List ℕ))
    → IsSome scheme → FitsHostText (setting_of profile base scheme) parts host_text
    → FitsHostText (setting_of profile other scheme) parts host_text
same_host_text profile base other parts scheme None some is = is
same_host_text profile base other parts None (Some text) some is = absurd (false≢true some)
same_host_text profile base other parts (Some scheme) (Some text) some is =
    same_authority (scheme_class scheme) (setting_of profile base (Some scheme)) other text parts is

same_other : (base other : Option Url) (parts : Parts) → IsSome parts.scheme
    → scheme_class (scheme_in base parts) ≡ Other
    → scheme_class (scheme_in other parts) ≡ Other
same_other base other parts some is = ap scheme_class (sym (same_scheme base other parts.scheme some)) ∙ is

-- a form without a scheme doesn't fit a text with one
no_scheme : (scheme : Option (List ℕ)) → IsSome scheme → scheme ≡ None → ⊥
no_scheme scheme some none = false≢true (subst (λ (o : Option (List ℕ)). IsSome o) none some)

same_form : (profile : Profile) (base other : Option Url) (form : Form) (parts : Parts) → IsSome parts.scheme
    → FitsScheme (has_scheme form) parts.scheme → FitsForm (setting_of profile base parts.scheme) form parts
    → FitsForm (setting_of profile other parts.scheme) form parts
same_form profile base other SchemeAuthority parts some scheme is =
    same_host_text profile base other parts parts.scheme parts.host_text some is
same_form profile base other SchemePath parts some scheme (none, class, path) =
    (none, same_other base other parts some class, path)
same_form profile base other SchemeOpaque parts some scheme (none, class, path, empty) =
    (none, same_other base other parts some class, path, empty)
same_form profile base other Authority parts some scheme is = absurd (no_scheme parts.scheme some scheme)
same_form profile base other PathAbsolute parts some scheme is = absurd (no_scheme parts.scheme some scheme)
same_form profile base other PathRelative parts some scheme is = absurd (no_scheme parts.scheme some scheme)
same_form profile base other NoPath parts some scheme is = absurd (no_scheme parts.scheme some scheme)

-- nor does the cut of the parts
same_fits_cut : (profile : Profile) (base other : Option Url) (text : List ℕ) (parts : Parts) → IsSome parts.scheme
    → FitsCut profile base text parts → FitsCut profile other text parts
same_fits_cut Standard base other text parts some is = tt
same_fits_cut Wide base other text parts some is = tt
same_fits_cut Parser base other text parts some is = record {
  whole = is.whole;
  prefix = is.prefix;
  start = is.start;
  scheme = is.scheme;
  authority =
      subst (λ (class : Class). IsAuthorityCut class parts.host_text parts.port_text parts.path_text)
      (same_class base other parts.scheme some) is.authority;
}

same_valid : (profile : Profile) (base other : Option Url) (text : List ℕ) (parts : Parts)
    → starts_with_scheme text ≡ true → Valid profile base text parts → Valid profile other text parts
same_valid profile base other text parts starts valid =
    let same : (cut_of base text).scheme ≡ parts.scheme
    = ap (λ (cut : Cut). cut.scheme) (sym (valid_texts profile base text parts valid)) in
    let some : IsSome parts.scheme
    = subst (λ (o : Option (List ℕ)). IsSome o) same (cut_with_scheme base text starts) in
    record {
      whole = valid.whole;
      cut = same_fits_cut profile base other text parts some valid.cut;
      scheme = valid.scheme;
      against = fits_any_base other parts some;
      form = same_form profile base other parts.form parts some valid.scheme valid.form;
      query = valid.query;
      fragment = valid.fragment;
    }

-- ---- violations

same_start : (profile : Profile) (base other : Option Url) (text : List ℕ) (cut : Cut) → IsSome cut.scheme
    → (place : ℕ) (rule : Rule)
    → StartViolation (setting_of profile base cut.scheme) text cut place rule
    → StartViolation (setting_of profile other cut.scheme) text cut place rule
same_start profile base other text cut some place NoScheme h = absurd (no_scheme cut.scheme some h.0)
same_start profile base other text cut some place OpaqueBase h = absurd (no_scheme cut.scheme some h.0)
same_start profile base other text cut some place TwoSlashes ((has, class, none), at) =
    ((has, (λ is. class (same_class base other cut.scheme some ∙ is)), none), at)
same_start profile base other text cut some place _ h = absurd h

same_host : (profile : Profile) (base other : Option Url) (cut : Cut) → IsSome cut.scheme → (place : ℕ) (rule : Rule)
    → HostPartViolation (setting_of profile base cut.scheme) cut place rule
    → HostPartViolation (setting_of profile other cut.scheme) cut place rule
same_host profile base other cut = go cut.scheme cut.host_text cut.port_text cut.path_text cut.query cut.fragment
  where
    go : (scheme host_text port_text : Option (List ℕ)) (path_text : List ℕ) (query fragment : Option (List ℕ))
        → IsSome scheme → (place : ℕ) (rule : Rule)
        → HostPartViolation (setting_of profile base scheme)
        (cut_with scheme host_text port_text path_text query fragment) place rule
        → HostPartViolation (setting_of profile other scheme)
        (cut_with scheme host_text port_text path_text query fragment) place rule
    go None host_text port_text path_text query fragment some place rule h = absurd (false≢true some)
    go (Some scheme) None port_text path_text query fragment some place rule h = h
    go (Some scheme) (Some host_text) port_text path_text query fragment some place rule h = h

same_has_host : (base other : Option Url) (scheme host_text : Option (List ℕ)) → IsSome scheme
    → HasHost base scheme host_text
    → HasHost other scheme host_text
same_has_host base other scheme (Some host_text) some h = h
same_has_host None other None None some h = absurd h
same_has_host (Some url) other None None some h = absurd (false≢true some)
same_has_host None other (Some scheme) None some h = absurd h
same_has_host (Some url) other (Some scheme) None some h = absurd h

same_path_start : (profile : Profile) (base other : Option Url) (cut : Cut) → IsSome cut.scheme
    → (place : ℕ) (rule : Rule)
    → PathStartViolation (setting_of profile base cut.scheme) cut place rule
    → PathStartViolation (setting_of profile other cut.scheme) cut place rule
same_path_start profile base other cut some place FirstSegmentEmpty h = h
same_path_start profile base other cut some place DriveAfterHost (class, host, drive, at) =
    let same = same_class other base cut.scheme some in
    (same ∙ class, same_has_host base other cut.scheme cut.host_text some host, drive, at)
same_path_start profile base other cut some place _ h = absurd h

same_checked : (profile : Profile) (base other : Option Url) (cut : Cut) → IsSome cut.scheme → (place : ℕ) (rule : Rule)
    → CheckedViolation (setting_of profile base cut.scheme) cut place rule
    → CheckedViolation (setting_of profile other cut.scheme) cut place rule
same_checked profile base other cut some place rule (inl h) = inl (same_host profile base other cut some place rule h)
same_checked profile base other cut some place rule (inr (inl h)) = inr (inl h)
same_checked profile base other cut some place rule (inr (inr h)) =
    inr (inr (record {
      inner = h.inner;
      moved = h.moved;
      holds = same_path_start profile base other cut some h.inner rule h.holds;
    }))

same_violation_of : (profile : Profile) (base other : Option Url) (text : List ℕ) (cut : Cut) → IsSome cut.scheme
    → (place : ℕ) (rule : Rule)
    → ViolationOf (setting_of profile base cut.scheme) text cut place rule
    → ViolationOf (setting_of profile other cut.scheme) text cut place rule
same_violation_of profile base other text cut some place rule (inl h) =
    inl (same_start profile base other text cut some place rule h)
same_violation_of profile base other text cut some place rule (inr (inl (started, h))) =
    inr (inl (
      (λ p r s. started p r
          (same_start profile other base text cut some p r s)),
      same_checked profile base other cut some place rule h,
    ))
same_violation_of profile base other text cut some place rule (inr (inr (inl h))) =
    inr (inr (inl (record {
      inner = h.inner;
      moved = h.moved;
      holds = subst (λ (class : Class). PathUnitViolation profile (has_opaque_path class cut) (is_followed cut)
          cut.path_text h.inner rule) (same_class base other cut.scheme some) h.holds;
    })))
same_violation_of profile base other text cut some place rule (inr (inr (inr h))) = inr (inr (inr h))

same_violation : (profile : Profile) (base other : Option Url) (text : List ℕ) → starts_with_scheme text ≡ true
    → (place : ℕ) (rule : Rule)
    → Violation profile base text place rule → Violation profile other text place rule
unfolding Violation
same_violation profile base other text starts place rule h =
    subst (λ (cut : Cut). ViolationOf (setting_of profile other cut.scheme) text cut place rule)
    (same_cut base other text starts)
    (same_violation_of profile base other text (cut_of base text) (cut_with_scheme base text starts) place rule h)

-- a text with a scheme ignores the base
pub ignores_the_base : TextsWithASchemeIgnoreTheBase
ignores_the_base text starts = record {
  cut = λ base other. same_cut base other text starts;
  valid = λ profile base other parts. same_valid profile base other text parts starts;
  violation = λ profile base other. same_violation profile base other text starts;
}
