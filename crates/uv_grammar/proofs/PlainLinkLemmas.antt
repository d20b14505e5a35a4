-- A link of plain parts is valid with them.
use Rattle.std.proofs.Common.{◌≡◌, ◌≢◌, ℕ, Bool, true, false, ◌==◌, List, [], ◌∷◌, ◌++◌, Option, Some, None, refl, sym}
use Rattle.std.proofs.Common.{ap, ◌∙◌, subst, inl, inr, append_assoc, append-nil}
use Rattle.std.specs.Char.{is_ascii_digit}
use Rattle.std.specs.List.{list_all}
use Rattle.std.specs.Str.{chars}
use Rattle.std.proofs.lemmas.Bool.{false≢true}
use Rattle.std.proofs.lemmas.List.Sums.{list_all-from_AllPass}
use Rattle.std.proofs.lemmas.Option.{none-some}
use Rattle.std.proofs.lemmas.Str.{chars-IsAscii}
use Rattle.uv_model.specs.declared.host.Host.TheVariants.{Domain}
use Rattle.uv_model.specs.declared.profile.Profile.{Profile}
use Rattle.uv_model.specs.declared.profile.Profile.TheVariants.{Standard, Wide, Parser}
use Rattle.uv_model.specs.declared.rule.Rule.{Rule}
use Rattle.uv_model.specs.declared.rule.Rule.TheVariants.{NoScheme, OpaqueBase, TwoSlashes, FirstSegmentEmpty}
use Rattle.uv_model.specs.declared.rule.Rule.TheVariants.{DriveAfterHost}
use Rattle.uv_model.specs.declared.scheme.Class.TheVariants.{SpecialNotFile}
use Rattle.uv_model.specs.Ascii.{slash, colon, question_mark, number_sign}
use Rattle.uv_model.specs.Cut.{Cut, IsCut, IsHostCut, ends_at_host, is_followed, starts_with_two_slashes, written_start}
use Rattle.uv_model.specs.Hosts.Domain.{IsDomain, is_form_code_point}
use Rattle.uv_model.specs.Hosts.StoppedHost.{is_stopped}
use Rattle.uv_model.specs.Parts.{written_after, written_scheme}
use Rattle.uv_model.specs.Path.{is_without}
use Rattle.uv_model.specs.Records.Url.{Url}
use Rattle.uv_model.specs.Setting.{Setting, setting_of}
use Rattle.uv_model.specs.Valid.{MayBePortText}
use Rattle.uv_model.specs.Violations.Violation.{ContentViolation, IsStarted, MayBeUnitViolation, PathStartViolation}
use Rattle.uv_model.specs.Violations.Violation.{has_opaque_path}
use Rattle.uv_model.proofs.Cuts.HostCutLemmas.{IsHostWord, is_without-passes, word_passes}
use Rattle.uv_model.proofs.Cuts.ValidCutLemmas.{scheme_without}
use Rattle.uv_model.proofs.Hosts.DomainLemmas.{IsAscii-form}
use Rattle.uv_model.proofs.Hosts.ParserForms.{wide_host_not_stopped}
use Rattle.uv_model.proofs.Texts.MarkLemmas.{is_without-append, is_without-more}
use Rattle.uv_model.proofs.Violations.SpacedPathLemmas.{path_violation-unit}
use Rattle.uv_model.proofs.Violations.UnitViolationLemmas.{no_violation-faultless}
use Rattle.uv_model.proofs.Violations.ViolationsExcludeParts.{one_slash_start}
use Rattle.uv_grammar.specs.Built.{built}
use Rattle.uv_grammar.specs.PartValues.{FitsHostPart, FitsPortPart}
use Rattle.uv_grammar.specs.PartViolations.{AfterAuthority}
use Rattle.uv_grammar.specs.PlainLinks.{AreUnitsAfter, IsPortCut, IsStartCut, MayBeUnits}
use Rattle.uv_grammar.specs.Verdict.{IsAccepted}
use Rattle.uv_grammar.proofs.VerdictLemmas.{accepted}

-- the cut of a plain link
abbrev pub link_cut : List ℕ → List ℕ → Option (List ℕ) → List ℕ → Option (List ℕ) → Option (List ℕ) → Cut
link_cut scheme name port_text path query fragment = record {
  scheme = Some scheme;
  host_text = Some name;
  port_text = port_text;
  path_text = path;
  query = query;
  fragment = fragment;
}

-- ---- the cut

-- what is before the query lacks a mark that each part lacks
start_without : (mark : ℕ) (before name port path : List ℕ) → (slash == mark) ≡ false
    → is_without mark before ≡ true → is_without mark name ≡ true → is_without mark port ≡ true
    → is_without mark path ≡ true
    → is_without mark (before ++ ((slash ∷ slash ∷ (name ++ port)) ++ path)) ≡ true
start_without mark before name port path slash_other a b p c =
    is_without-append mark before ((slash ∷ slash ∷ (name ++ port)) ++ path) a
    (is_without-append mark (slash ∷ slash ∷ (name ++ port)) path
    (is_without-more mark slash (slash ∷ (name ++ port)) slash_other
    (is_without-more mark slash (name ++ port) slash_other (is_without-append mark name port b p)))
    c)

-- a query lacks `#`
part_without : (part : Option (List ℕ)) → MayBeUnits part
    → is_without number_sign (written_after question_mark part) ≡ true
part_without None units = refl
part_without (Some text) units = is_without-more number_sign question_mark text refl units.no_number_sign

-- a port lacks a mark that is neither `:` nor a digit
port_without : (mark : ℕ) (port_text : Option (List ℕ)) → (colon == mark) ≡ false → is_ascii_digit mark ≡ false
    → MayBePortText port_text → is_without mark (written_after colon port_text) ≡ true
port_without mark None other fails valid = refl
port_without mark (Some text) other fails valid =
    is_without-more mark colon text other (is_without-passes is_ascii_digit mark text fails valid.digits)

start_joined : (before middle query fragment : List ℕ)
    → ((before ++ (slash ∷ slash ∷ middle)) ++ query) ++ fragment
    ≡ before ++ slash ∷ slash ∷ ((middle ++ query) ++ fragment)
start_joined [] middle query fragment = refl
start_joined (c ∷ before) middle query fragment = ap (λ (s : List ℕ). c ∷ s) (start_joined before middle query fragment)

middle_joined : (name port path query fragment : List ℕ)
    → (((name ++ port) ++ path) ++ query) ++ fragment ≡ name ++ (port ++ (path ++ (query ++ fragment)))
middle_joined name port path query fragment = simp append_assoc

arranged : (before name port path query fragment : List ℕ)
    → before ++ slash ∷ slash ∷ (name ++ (port ++ (path ++ (query ++ fragment))))
    ≡ ((before ++ ((slash ∷ slash ∷ (name ++ port)) ++ path)) ++ query) ++ fragment
arranged before name port path query fragment =
    ap (λ (s : List ℕ). before ++ slash ∷ slash ∷ s) (sym (middle_joined name port path query fragment))
    ∙ sym (start_joined before ((name ++ port) ++ path) query fragment)

-- the text of a domain
form_each : (name form : List ℕ) → IsDomain Wide name form → list_all (is_form_code_point Wide) form ≡ true
form_each name form is = list_all-from_AllPass (is_form_code_point Wide) form is.0.letters

name_word : (name form : List ℕ) → name ≡ form → IsDomain Wide name form → IsHostWord name
name_word name form own is =
    word_passes (is_form_code_point Wide) refl refl refl refl refl name
    (ap (list_all (is_form_code_point Wide)) own ∙ form_each name form is)

own_form : (name form : List ℕ) → IsDomain Wide name form → chars form ≡ name → name ≡ form
own_form name form is same = sym same ∙ chars-IsAscii form (IsAscii-form Wide name form is.0)

-- a plain link is cut into its texts
pub link_is_cut : (base : Option Url) (text scheme name form : List ℕ) (port_text : Option (List ℕ)) (port : Option ℕ)
    (remaining path : List ℕ) (query fragment : Option (List ℕ)) → chars form ≡ name
    → IsStartCut text scheme name form port_text port remaining → AreUnitsAfter remaining path query fragment
    → IsCut base text (link_cut scheme name port_text path query fragment)
link_is_cut base text scheme name form port_text port remaining path query fragment same start units =
    let wide = start.named.domain Wide in
    let word = name_word name form (own_form name form wide same) wide in
    let valid = start.port_cut.valid in
    let before = written_scheme (Some scheme) in
    let port_part = written_after colon port_text in
    let asked = written_after question_mark query in
    record {
      whole =
          start.special.joined ∙ sym (append_assoc scheme (colon ∷ []) (slash ∷ slash ∷ start.after))
          ∙ ap (λ (s : List ℕ). written_scheme (Some scheme) ++ slash ∷ slash ∷ s)
          (start.named.joined ∙ ap (λ (s : List ℕ). name ++ s) (start.port_cut.joined
          ∙ ap (λ (s : List ℕ). port_part ++ s) (units.path_cut.joined ∙ ap (λ (s : List ℕ). path ++ s)
          (units.query_cut.joined
          ∙ ap (λ (s : List ℕ). asked ++ s) (units.fragment_cut.joined ∙ append-nil _)))))
          ∙ arranged before name port_part path asked (written_after number_sign fragment);
      prefix =
          is_without-append number_sign (written_start (link_cut scheme name port_text path query fragment)) asked
          (start_without number_sign before name port_part path refl
          (scheme_without number_sign scheme refl refl refl start.special.named)
          word.no_number_sign (port_without number_sign port_text refl refl valid) units.path_cut.units.no_number_sign)
          (part_without query units.query_cut.units);
      start =
          start_without question_mark before name port_part path refl
          (scheme_without question_mark scheme refl refl refl start.special.named)
          word.no_question_mark (port_without question_mark port_text refl refl valid)
          (units.path_cut.units.no_question_mark refl);
      scheme = start.special.named;
      authority = (
        is_without-append slash name port_part word.no_slash (port_without slash port_text refl refl valid),
        units.path_cut.slashed,
        subst (λ k. IsHostCut k name port_text) (sym start.special.special) (word.ends port_text),
      );
    }

-- ---- the rules

-- a scheme and an authority violate no rule of the start
scheme_started : (setting : Setting) (text scheme name : List ℕ) (port_text : Option (List ℕ)) (path : List ℕ)
    (query fragment : Option (List ℕ))
    → IsStarted setting text (link_cut scheme name port_text path query fragment)
scheme_started setting text scheme name port_text path query fragment place NoScheme h = none-some scheme (sym h.0)
scheme_started setting text scheme name port_text path query fragment place OpaqueBase h = none-some scheme (sym h.0)
scheme_started setting text scheme name port_text path query fragment place TwoSlashes h = none-some name (sym h.0.2)
scheme_started setting text scheme name port_text path query fragment place _ h = absurd h

path_start_silent : (setting : Setting) (scheme name : List ℕ) (port_text : Option (List ℕ)) (path : List ℕ)
    (query fragment : Option (List ℕ)) (place : ℕ) (rule : Rule)
    → setting.class ≡ SpecialNotFile → starts_with_two_slashes path ≡ false
    → PathStartViolation setting (link_cut scheme name port_text path query fragment) place rule → ⊥
path_start_silent setting scheme name port_text path query fragment place FirstSegmentEmpty special single h =
    one_slash_start setting.profile path single h.0
path_start_silent setting scheme name port_text path query fragment place DriveAfterHost special single h = cc
    (special, h.0)
path_start_silent setting scheme name port_text path query fragment place _ special single h = absurd h

part_silent : (start : ℕ) (part : Option (List ℕ)) (place : ℕ) (rule : Rule) → MayBeUnits part
    → MayBeUnitViolation start part place rule → ⊥
part_silent start None place rule units h = h
part_silent start (Some text) place rule units h = no_violation-faultless text units.units h.inner rule h.holds

-- nor do a path, a query and a fragment of units hold what violates one
units_silent : (setting : Setting) (scheme name : List ℕ) (port_text : Option (List ℕ)) (remaining path : List ℕ)
    (query fragment : Option (List ℕ)) → AreUnitsAfter remaining path query fragment
    → (place : ℕ) (rule : Rule)
    → ContentViolation setting (link_cut scheme name port_text path query fragment) place rule → ⊥
units_silent setting scheme name port_text remaining path query fragment units place rule (inl h) =
    no_violation-faultless path units.path_cut.units.units h.inner rule
    (path_violation-unit setting.profile
    (has_opaque_path setting.class (link_cut scheme name port_text path query fragment))
    (is_followed (link_cut scheme name port_text path query fragment)) path h.inner rule h.holds)
units_silent setting scheme name port_text remaining path query fragment units place rule (inr (inl h)) =
    part_silent _ query place rule units.query_cut.units h
units_silent setting scheme name port_text remaining path query fragment units place rule (inr (inr h)) =
    part_silent _ fragment place rule units.fragment_cut.units h

link_silent : (setting : Setting) (scheme name : List ℕ) (port_text : Option (List ℕ)) (remaining path : List ℕ)
    (query fragment : Option (List ℕ)) → setting.class ≡ SpecialNotFile → AreUnitsAfter remaining path query fragment
    → (place : ℕ) (rule : Rule)
    → AfterAuthority setting (link_cut scheme name port_text path query fragment) place rule → ⊥
link_silent setting scheme name port_text remaining path query fragment special units place rule (inl h) =
    path_start_silent setting scheme name port_text path query fragment h.inner rule special units.path_cut.single
    h.holds
link_silent setting scheme name port_text remaining path query fragment special units place rule (inr h) =
    units_silent setting scheme name port_text remaining path query fragment units place rule h

link_port : (setting : Setting) (scheme name : List ℕ) (port_text : Option (List ℕ)) (port : Option ℕ) (path : List ℕ)
    (query fragment : Option (List ℕ)) (rest remaining : List ℕ)
    → IsPortCut setting.default_port rest port_text port remaining
    → FitsPortPart setting (link_cut scheme name port_text path query fragment) port
link_port setting scheme name None port path query fragment rest remaining cut = cut.given
link_port setting scheme name (Some text) port path query fragment rest remaining cut = (cut.valid, cut.given)

-- a domain has a code point
some_name : (name form : List ℕ) → name ≡ form → IsDomain Wide name form → name ≢ []
some_name name form own is none =
    let lengths = is.0.lengths in
    false≢true (rw (sym own ∙ none) at lengths)

-- the parser doesn't stop at it
plain_not_stopped : (profile : Profile) (last : Bool) (name form : List ℕ) → IsDomain Wide name form
    → is_stopped profile SpecialNotFile last name ≡ false
plain_not_stopped Standard last name form is = refl
plain_not_stopped Wide last name form is = refl
plain_not_stopped Parser last name form is = wide_host_not_stopped SpecialNotFile last name (Domain form) is

link_host : (setting : Setting) (scheme name form : List ℕ) (port_text : Option (List ℕ)) (path : List ℕ)
    (query fragment : Option (List ℕ)) → name ≡ form
    → setting.class ≡ SpecialNotFile → IsDomain Wide name form → IsDomain setting.profile name form
    → FitsHostPart setting (link_cut scheme name port_text path query fragment) (Some (Domain form))
link_host setting scheme name form port_text path query fragment own special wide is =
    let last = ends_at_host (link_cut scheme name port_text path query fragment) in
    rw special
    (inl (
      some_name name form own wide,
      (
        plain_not_stopped setting.profile last name form wide,
        is,
      ),
    ))

-- a plain link is valid with its parts
pub link_accepted : (profile : Profile) (base : Option Url) (text scheme name form : List ℕ)
    (port_text : Option (List ℕ)) (port : Option ℕ) (remaining path : List ℕ) (query fragment : Option (List ℕ))
    → chars form ≡ name → IsStartCut text scheme name form port_text port remaining
    → AreUnitsAfter remaining path query fragment
    → IsAccepted profile base text (built (link_cut scheme name port_text path query fragment) (Some (Domain form)) port)
link_accepted profile base text scheme name form port_text port remaining path query fragment same start units =
    let wide = start.named.domain Wide in
    let own = own_form name form wide same in
    let special = start.special.special in
    let cut = link_cut scheme name port_text path query fragment in
    let setting = setting_of profile base (Some scheme) in
    accepted profile base text cut setting
    (link_is_cut base text scheme name form port_text port remaining path query fragment same start units) refl
    (scheme_started setting text scheme name port_text path query fragment)
    (built cut (Some (Domain form)) port)
    (record {
      host = Some (Domain form);
      port = port;
      built = refl;
      fits_host =
          link_host setting scheme name form port_text path query fragment own special wide
          (start.named.domain profile);
      fits_port = link_port setting scheme name port_text port path query fragment start.rest remaining start.port_cut;
      silent = link_silent setting scheme name port_text remaining path query fragment special units;
    })
