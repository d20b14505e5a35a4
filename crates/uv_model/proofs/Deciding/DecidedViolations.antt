-- Violations are decided: that a text violates a rule at a place is proved by computing.
use Rattle.std.proofs.Common.{◌≡◌, ◌≢◌, ℕ, ◌+◌, ◌-◌, Bool, true, false, List, [], ◌∷◌, Option, Some, None, sym, ap}
use Rattle.std.proofs.Common.{◌∙◌, inl, inr, ◌⊎◌, drop}
use Rattle.std.specs.Prelude.{IsSome, is_some, option_map}
use Rattle.std.specs.Option.{option_or}
use Rattle.std.specs.List.{list_all}
use Rattle.std.specs.Char.{is_ascii_digit}
use Rattle.std.specs.Str.Parse.{digits_value}
use Rattle.std.proofs.lemmas.Bool.{false≢true, true≢false}
use Rattle.std.proofs.lemmas.Option.{none-some}
use Rattle.uv_model.specs.declared.profile.Profile.{Profile}
use Rattle.uv_model.specs.declared.profile.Profile.TheVariants.{Standard, Parser}
use Rattle.uv_model.specs.declared.scheme.Class.{Class}
use Rattle.uv_model.specs.declared.scheme.Class.TheVariants.{SpecialNotFile, File, Other}
use Rattle.uv_model.specs.declared.host.Host.{Host}
use Rattle.uv_model.specs.declared.host.Host.TheVariants.{Empty}
use Rattle.uv_model.specs.declared.rule.Rule.{Rule}
use Rattle.uv_model.specs.declared.rule.Rule.TheVariants.{NoScheme, OpaqueBase, TwoSlashes, HostMissing}
use Rattle.uv_model.specs.declared.rule.Rule.TheVariants.{HostIpv6, HostCodePoint, PortDigit, PortRange}
use Rattle.uv_model.specs.declared.rule.Rule.TheVariants.{FirstSegmentEmpty, DriveAfterHost, CodePoint, Percent}
use Rattle.uv_model.specs.Ascii.{percent_sign, space}
use Rattle.uv_model.specs.Cut.{Cut, cut_of, ends_at_host, fragment_place, host_place, is_followed, path_place}
use Rattle.uv_model.specs.Cut.{port_place, query_place, starts_with_two_slashes}
use Rattle.uv_model.specs.Hosts.OpaqueHost.{is_forbidden_host, starts_with_bracket}
use Rattle.uv_model.specs.Path.{starts_with_drive_segment, starts_with_slash}
use Rattle.uv_model.specs.Records.Url.{Url, is_opaque}
use Rattle.uv_model.specs.Setting.{Setting, setting_of}
use Rattle.uv_model.specs.Units.{is_url_code_point, starts_with_two_hex}
use Rattle.uv_model.specs.Valid.{IsHostText}
use Rattle.uv_model.specs.Violations.OpaqueHostViolation.{HasForeignHostCodePoint, OpaqueHostViolation}
use Rattle.uv_model.specs.Violations.UnitViolation.{HasBarePercent, HasForeignCodePoint, IsTakenSpace}
use Rattle.uv_model.specs.Violations.UnitViolation.{PathUnitViolation, UnitViolation}
use Rattle.uv_model.specs.Violations.Violation.{After, ContentViolation, HasDrive, HasEmptyFirst}
use Rattle.uv_model.specs.Violations.Violation.{HasHost, HasOpaquePath, HostContentViolation, HostPartViolation}
use Rattle.uv_model.specs.Violations.Violation.{CheckedViolation, HostTextViolation, HostViolation, IsStarted}
use Rattle.uv_model.specs.Violations.Violation.{LacksFileHost, LacksHost, MayBeUnitViolation}
use Rattle.uv_model.specs.Violations.Violation.{PathContentViolation, PathStartViolation, PortPartViolation}
use Rattle.uv_model.specs.Violations.Violation.{PortViolation, StartViolation}
use Rattle.uv_model.specs.Violations.Violation.{Violation, ViolationOf, has_opaque_path, slashes_place}
use Rattle.uv_model.specs.Violations.Violation.{starts_with_number_sign}
use Rattle.uv_model.proofs.Deciding.Decisions.{and_then, all_four, all_three, at_place, below, both, either, is_absent}
use Rattle.uv_model.proofs.Deciding.Decisions.{is_false, is_file_class, is_other_class, is_true, isnt_other_class}
use Rattle.uv_model.proofs.Deciding.Decisions.{other_number, other_text, present, proof_of, same_number, same_text}

-- The decisions on host texts, in which the parsers of addresses take part: that a text is this host, and that a host
-- of class SpecialNotFile or File violates a rule.
pub record HostDecisions : Type 0 where
  pub host : (profile : Profile) (text : List ℕ) (value : Host) → Option (IsHostText profile text value)
  pub violation :
      (profile : Profile) (class : Class) (last : Bool) (text : List ℕ) (rule : Rule)
      → Option (HostTextViolation profile class last text rule)

-- no decision on host texts
abbrev pub no_hosts : HostDecisions
no_hosts = record { host = λ profile text value. None; violation = λ profile class last text rule. None }

-- ---- units

-- a code point that isn't a URL code point and no `%`
abbrev foreign_at : (text : List ℕ) (place : ℕ) → Option (HasForeignCodePoint text place)
foreign_at text place =
    at_place text place
    (λ c rest here. and_then (is_false (is_url_code_point c))
    (λ foreign. option_map
    (λ other. record { code_point = c; rest = rest; here = here; foreign = foreign; no_escape = other })
    (other_number c percent_sign)))

-- such a code point is a `%` without two hex digits
pub bare_percent : (text : List ℕ) (place c : ℕ) (rest : List ℕ) → drop place text ≡ c ∷ rest → c ≡ percent_sign
    → starts_with_two_hex rest ≡ false → HasBarePercent text place
bare_percent text place c rest here same bare =
    record { rest = rest; here = here ∙ ap (λ (d : ℕ). d ∷ rest) same; bare = bare }

-- a `%` without two hex digits
abbrev bare_percent_at : (text : List ℕ) (place : ℕ) → Option (HasBarePercent text place)
bare_percent_at text place =
    at_place text place
    (λ c rest here. and_then (same_number c percent_sign)
    (λ same. option_map (λ bare. bare_percent text place c rest here same bare) (is_false (starts_with_two_hex rest))))

-- a fault of units
abbrev unit_violation : (text : List ℕ) (place : ℕ) (rule : Rule) → Option (UnitViolation text place rule)
unit_violation text place CodePoint = foreign_at text place
unit_violation text place Percent = bare_percent_at text place
unit_violation text place _ = None

-- a code point other than a space isn't a space that is taken
pub not_taken : (followed : Bool) (text : List ℕ) (place c : ℕ) (rest : List ℕ) → drop place text ≡ c ∷ rest
    → (c ≡ space → ⊥) → ¬ (IsTakenSpace followed text place)
not_taken followed text place c rest here other taken = (let at = taken.here in other (cc))

-- a fault of a path
abbrev path_violation : (profile : Profile) (spaced followed : Bool) (text : List ℕ) (place : ℕ) (rule : Rule)
    → Option (PathUnitViolation profile spaced followed text place rule)
path_violation Parser true followed text place rule =
    both (unit_violation text place rule)
    (at_place text place
    (λ c rest here. option_map (λ other. not_taken followed text place c rest here other) (other_number c space)))
path_violation _ _ followed text place rule = unit_violation text place rule

-- ---- the start

-- the base has an opaque path
abbrev opaque_path : (base : Option Url) → Option (HasOpaquePath base)
opaque_path None = None
opaque_path (Some base) = is_true (is_opaque base.path)

-- a rule of the start
abbrev start_violation : (setting : Setting) (text : List ℕ) (cut : Cut) (place : ℕ) (rule : Rule)
    → Option (StartViolation setting text cut place rule)
start_violation setting text cut place NoScheme =
    all_three (is_absent cut.scheme) (is_absent setting.base) (same_number place 0)
start_violation setting text cut place OpaqueBase =
    all_four (is_absent cut.scheme) (opaque_path setting.base) (is_false (starts_with_number_sign text))
    (same_number place 0)
start_violation setting text cut place TwoSlashes =
    both (all_three (is_true (is_some cut.scheme)) (isnt_other_class setting.class) (is_absent cut.host_text))
    (same_number place (slashes_place cut))
start_violation setting text cut place _ = None

-- after a scheme no rule of the start is violated in class Other, or where there is an authority
pub scheme_started : (setting : Setting) (text : List ℕ) (cut : Cut) → IsSome cut.scheme
    → ((setting.class ≡ Other) ⊎ IsSome cut.host_text) → IsStarted setting text cut
scheme_started setting text cut scheme slashed place NoScheme h = false≢true (rw h.0 at scheme)
scheme_started setting text cut scheme slashed place OpaqueBase h = false≢true (rw h.0 at scheme)
scheme_started setting text cut scheme (inl other) place TwoSlashes h = h.0.1 other
scheme_started setting text cut scheme (inr host) place TwoSlashes h = false≢true (rw h.0.2 at host)
scheme_started setting text cut scheme slashed place _ h = h

-- without a scheme none is where the base has a path of segments, or the text begins with `#`
pub base_started : (setting : Setting) (text : List ℕ) (cut : Cut) (base : Url) → cut.scheme ≡ None
    → setting.base ≡ Some base
    → ((is_opaque base.path ≡ false) ⊎ (starts_with_number_sign text ≡ true)) → IsStarted setting text cut
base_started setting text cut base none is fits place NoScheme h = none-some base (sym h.1 ∙ is)
base_started setting text cut base none is (inl listed) place OpaqueBase h =
    (let opaque : is_opaque base.path ≡ true = rw is at h.1 in true≢false (sym opaque ∙ listed))
base_started setting text cut base none is (inr mark) place OpaqueBase h = true≢false (sym mark ∙ h.2)
base_started setting text cut base none is fits place TwoSlashes h = false≢true (rw none at h.0.0)
base_started setting text cut base none is fits place _ h = h

-- no rule of the start is violated
abbrev started : (setting : Setting) (text : List ℕ) (cut : Cut) → Option (IsStarted setting text cut)
started setting text cut =
    option_or
    (and_then (is_true (is_some cut.scheme))
    (λ scheme. option_map (λ slashed. scheme_started setting text cut scheme slashed)
    (either (is_other_class setting.class) (is_true (is_some cut.host_text)))))
    (and_then (is_absent cut.scheme)
    (λ none. present setting.base
    (λ base is. option_map (λ fits. base_started setting text cut base none is fits)
    (either (is_false (is_opaque base.path)) (is_true (starts_with_number_sign text))))))

-- ---- the host

-- a code point that is not allowed in an opaque host
abbrev foreign_host_at : (text : List ℕ) (place : ℕ) → Option (HasForeignHostCodePoint text place)
foreign_host_at text place =
    at_place text place
    (λ c rest here. option_map (λ foreign. record { code_point = c; rest = rest; here = here; foreign = foreign })
    (either (is_true (is_forbidden_host c)) (both (is_false (is_url_code_point c)) (other_number c percent_sign))))

-- a rule of an opaque host
abbrev opaque_host_violation : (hosts : HostDecisions) (text : List ℕ) (place : ℕ) (rule : Rule)
    → Option (OpaqueHostViolation text place rule)
opaque_host_violation hosts text place HostIpv6 =
    both (hosts.violation Standard SpecialNotFile false text HostIpv6) (same_number place 0)
opaque_host_violation hosts text place HostCodePoint =
    both (is_false (starts_with_bracket text)) (foreign_host_at text place)
opaque_host_violation hosts text place Percent =
    both (is_false (starts_with_bracket text)) (bare_percent_at text place)
opaque_host_violation hosts text place _ = None

-- the host of a file URL is missing
abbrev lacks_file_host : (profile : Profile) (host_text path_text : List ℕ)
    → Option (LacksFileHost profile host_text path_text)
lacks_file_host Parser host_text path_text = None
lacks_file_host _ host_text path_text = both (same_text host_text []) (is_false (starts_with_slash path_text))

-- the host is missing
abbrev lacks_host : (profile : Profile) (class : Class) (host_text : List ℕ) (port_text : Option (List ℕ))
    (path_text : List ℕ) → Option (LacksHost profile class host_text port_text path_text)
lacks_host profile SpecialNotFile host_text port_text path_text = same_text host_text []
lacks_host profile File host_text port_text path_text = lacks_file_host profile host_text path_text
lacks_host profile Other host_text port_text path_text =
    both (same_text host_text []) (is_true (is_some port_text))

-- a rule of a host by what it holds
abbrev host_content : (hosts : HostDecisions) (profile : Profile) (class : Class) (last : Bool) (text : List ℕ)
    (place : ℕ) (rule : Rule) → Option (HostContentViolation profile class last text place rule)
host_content hosts profile Other last text place rule = opaque_host_violation hosts text place rule
host_content hosts profile class last text place rule =
    both (hosts.violation profile class last text rule) (same_number place 0)

-- a rule of a host
abbrev host_violation : (hosts : HostDecisions) (profile : Profile) (class : Class) (last : Bool)
    (host_text : List ℕ) (port_text : Option (List ℕ)) (path_text : List ℕ) (place : ℕ) (rule : Rule)
    → Option (HostViolation profile class last host_text port_text path_text place rule)
host_violation hosts profile class last host_text port_text path_text place HostMissing =
    both (lacks_host profile class host_text port_text path_text) (same_number place 0)
host_violation hosts profile class last host_text port_text path_text place rule =
    host_content hosts profile class last host_text place rule

-- ---- the port and the start of the path

-- a rule of a port
abbrev port_violation : (text : List ℕ) (place : ℕ) (rule : Rule) → Option (PortViolation text place rule)
port_violation text place PortDigit =
    at_place text place
    (λ c rest here. option_map (λ foreign. record { code_point = c; rest = rest; here = here; foreign = foreign })
    (is_false (is_ascii_digit c)))
port_violation text place PortRange =
    both
    (and_then (is_true (list_all is_ascii_digit text))
    (λ digits. option_map (λ large. record { digits = digits; large = large }) (below 65535 (digits_value 10 text))))
    (same_number place 0)
port_violation text place _ = None

-- an empty first segment
abbrev empty_first : (profile : Profile) (text : List ℕ) → Option (HasEmptyFirst profile text)
empty_first Standard text = is_true (starts_with_two_slashes text)
empty_first _ text = None

-- a drive letter at the start
abbrev has_drive : (profile : Profile) (text : List ℕ) → Option (HasDrive profile text)
has_drive Parser text = None
has_drive _ text = is_true (starts_with_drive_segment text)

-- the empty host
abbrev pub is_empty_host : Option Host → Bool
is_empty_host (Some Empty) = true
is_empty_host _ = false

-- not the empty host
pub not_empty_host : (host : Option Host) → is_empty_host host ≡ false → host ≢ Some Empty
not_empty_host host none same = false≢true (sym none ∙ ap is_empty_host same)

-- a host that keeps a drive letter out of the path
abbrev pub has_host : (base : Option Url) (scheme host_text : Option (List ℕ)) → Option (HasHost base scheme host_text)
has_host base scheme (Some host_text) = other_text host_text []
has_host (Some url) None None =
    option_map (λ none. not_empty_host url.host none) (is_false (is_empty_host url.host))
has_host _ _ None = None

-- a rule of the start of a path
abbrev path_start : (setting : Setting) (cut : Cut) (place : ℕ) (rule : Rule)
    → Option (PathStartViolation setting cut place rule)
path_start setting cut place FirstSegmentEmpty =
    both (empty_first setting.profile cut.path_text) (same_number place 1)
path_start setting cut place DriveAfterHost =
    all_four (is_file_class setting.class) (has_host setting.base cut.scheme cut.host_text)
    (has_drive setting.profile cut.path_text) (same_number place 0)
path_start setting cut place _ = None

-- ---- the whole text

-- a violation of a part that begins after so many code points
abbrev after : (violation : ℕ → Rule → Type 0) (start place : ℕ) (rule : Rule)
    → ((inner : ℕ) → Option (violation inner rule)) → Option (After start violation place rule)
after violation start place rule decide =
    and_then (same_number place (start + (place - start)))
    (λ moved. option_map (λ holds. record { inner = place - start; moved = moved; holds = holds })
    (decide (place - start)))

-- of the host, where there is an authority
abbrev host_part : (hosts : HostDecisions) (setting : Setting) (cut : Cut) (place : ℕ) (rule : Rule)
    → Option (HostPartViolation setting cut place rule)
host_part hosts setting cut place rule =
    elim cut.host_text as (λ o. Option (HostPartViolation setting (record cut { host_text = o }) place rule)) [
      | None ↦ None
      | Some host_text ↦
          after
          (HostViolation setting.profile setting.class (ends_at_host cut) host_text cut.port_text cut.path_text)
          (host_place cut) place rule
          (λ inner. host_violation hosts setting.profile setting.class (ends_at_host cut) host_text cut.port_text
          cut.path_text inner rule)
    ]

-- of the port, where there is one
abbrev port_part : (cut : Cut) (place : ℕ) (rule : Rule) → Option (PortPartViolation cut place rule)
port_part cut place rule =
    elim cut.host_text as (λ o. Option (PortPartViolation (record cut { host_text = o }) place rule)) [
      | None ↦ None
      | Some host_text ↦
          elim cut.port_text as
          (λ o. Option (PortPartViolation (record cut { host_text = Some host_text; port_text = o })
          place rule)) [
            | None ↦ None
            | Some port_text ↦
                after (PortViolation port_text) (port_place host_text cut) place rule
                (λ inner. port_violation port_text inner rule)
          ]
    ]

-- of the parts that are checked if no rule of the start is violated
abbrev checked_violation : (hosts : HostDecisions) (setting : Setting) (cut : Cut) (place : ℕ) (rule : Rule)
    → Option (CheckedViolation setting cut place rule)
checked_violation hosts setting cut place rule =
    either (host_part hosts setting cut place rule)
    (either (port_part cut place rule)
    (after (PathStartViolation setting cut) (path_place cut) place rule (λ inner. path_start setting cut inner rule)))

-- of a query or a fragment
abbrev part_violation : (start : ℕ) (text : Option (List ℕ)) (place : ℕ) (rule : Rule)
    → Option (MayBeUnitViolation start text place rule)
part_violation start None place rule = None
part_violation start (Some text) place rule =
    after (UnitViolation text) start place rule (λ inner. unit_violation text inner rule)

-- of what the path, the query and the fragment hold
abbrev content_violation : (setting : Setting) (cut : Cut) (place : ℕ) (rule : Rule)
    → Option (ContentViolation setting cut place rule)
content_violation setting cut place rule =
    either
    (after (PathContentViolation setting cut) (path_place cut) place rule
    (λ inner. path_violation setting.profile (has_opaque_path setting.class cut) (is_followed cut) cut.path_text inner
    rule))
    (either (part_violation (query_place cut) cut.query place rule)
    (part_violation (fragment_place cut) cut.fragment place rule))

-- of the text with this cut
abbrev violation_of : (hosts : HostDecisions) (setting : Setting) (text : List ℕ) (cut : Cut) (place : ℕ) (rule : Rule)
    → Option (ViolationOf setting text cut place rule)
violation_of hosts setting text cut place rule =
    either (start_violation setting text cut place rule)
    (either (both (started setting text cut) (checked_violation hosts setting cut place rule))
    (content_violation setting cut place rule))

-- the decision whether the text, against the base, violates the rule of the profile at the place
abbrev pub violation_decision : (hosts : HostDecisions) (profile : Profile) (base : Option Url) (text : List ℕ)
    (place : ℕ) (rule : Rule)
    → Option (ViolationOf (setting_of profile base (cut_of base text).scheme) text (cut_of base text) place rule)
violation_decision hosts profile base text place rule =
    violation_of hosts (setting_of profile base (cut_of base text).scheme) text (cut_of base text) place rule

-- a text of which it finds a violation has it
pub violates : (hosts : HostDecisions) (profile : Profile) (base : Option Url) (text : List ℕ) (place : ℕ) (rule : Rule)
    → IsSome (violation_decision hosts profile base text place rule) → Violation profile base text place rule
unfolding Violation
violates hosts profile base text place rule found =
    proof_of (violation_decision hosts profile base text place rule) found
