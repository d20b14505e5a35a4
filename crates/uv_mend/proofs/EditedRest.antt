-- The rest of a text after an edit by the rule that it violates.
use Rattle.std.proofs.Common.{◌≡◌, ◌∙◌, ◌⊎◌, inl, inr, ℕ, ◌-◌, ◌≤◌, Bool, true, false, ◌&&◌, List, [], ◌∷◌, ◌++◌}
use Rattle.std.proofs.Common.{refl, sym, ap, append_assoc, arith, drop, length, take, drop_at, take_at, Option}
use Rattle.std.proofs.Common.{Some, None}
use Rattle.std.specs.Prelude.{◌==◌, codes, is_some}
use Rattle.std.specs.Str.{chars}
use Rattle.std.proofs.lemmas.Bool.{and_parts, eqb-true, false≢true}
use Rattle.std.proofs.lemmas.Bool.Decides.{nat_tests}
use Rattle.uv_model.specs.declared.profile.Profile.{Profile}
use Rattle.uv_model.specs.declared.profile.Profile.TheVariants.{Parser, Standard, Wide}
use Rattle.uv_model.specs.declared.rule.Rule.{Rule}
use Rattle.uv_model.specs.declared.rule.Rule.TheVariants.{DriveAfterHost, FirstSegmentEmpty, HostCodePoint, HostDomain}
use Rattle.uv_model.specs.declared.rule.Rule.TheVariants.{HostIpv6, HostMissing, HostNumber, NoScheme, OpaqueBase}
use Rattle.uv_model.specs.declared.rule.Rule.TheVariants.{Percent, PortDigit, PortRange, TwoSlashes}
use Rattle.uv_model.specs.declared.scheme.Class.{Class}
use Rattle.uv_model.specs.declared.scheme.Class.TheVariants.{File, Other, SpecialNotFile}
use Rattle.uv_model.specs.Ascii.{full_stop, slash}
use Rattle.uv_model.specs.Cut.{Cut, cut_of, ends_at_host, fragment_place, path_place, query_place}
use Rattle.uv_model.specs.Cut.{starts_with_two_slashes}
use Rattle.uv_model.specs.Path.{is_drive_letter, starts_with_drive_segment}
use Rattle.uv_model.specs.Records.Url.{Url}
use Rattle.uv_model.specs.Setting.{Setting, setting_of}
use Rattle.uv_model.specs.Violations.OpaqueHostViolation.{OpaqueHostViolation}
use Rattle.uv_model.specs.Violations.Rule.{rule_number}
use Rattle.uv_model.specs.Violations.Violation.{After, HasDrive, HasEmptyFirst, HostContentViolation, HostPartViolation}
use Rattle.uv_model.specs.Violations.Violation.{HostTextViolation, HostViolation, PathStartViolation, PortPartViolation}
use Rattle.uv_model.specs.Violations.Violation.{PortViolation, StartViolation, Violation, ViolationOf}
use Rattle.uv_model.proofs.Violations.ViolationLemmas.{cut_with, may_be_begins, path_held_begins, path_start_begins}
use Rattle.uv_mend.specs.Edits.{dotted}
use Rattle.uv_mend.specs.Prefixes.{after_scheme, authority_prefix, scheme_prefix}
use Rattle.uv_mend.specs.Rest.{HasRestOf, rest_of, starts_with_dot}
use Rattle.uv_mend.proofs.RestCutLemmas.{cut_rest, path_begins, tails}
use Rattle.uv_mend.proofs.RestLemmas.{dotted_rest, rest_parts}

-- ---- which part violates a rule

start_number : (setting : Setting) (text : List ℕ) (cut : Cut) (place : ℕ) (rule : Rule)
    → StartViolation setting text cut place rule → rule_number rule ≤ 3
start_number setting text cut place NoScheme h = omega arith
start_number setting text cut place OpaqueBase h = omega arith
start_number setting text cut place TwoSlashes h = omega arith
start_number setting text cut place _ h = absurd h

text_number : (profile : Profile) (class : Class) (last : Bool) (text : List ℕ) (rule : Rule)
    → HostTextViolation profile class last text rule → rule_number rule ≤ 8
text_number profile class last text HostDomain h = omega arith
text_number profile class last text HostNumber h = omega arith
text_number profile class last text HostIpv6 h = omega arith
text_number profile class last text _ h = absurd h

opaque_number : (text : List ℕ) (place : ℕ) (rule : Rule) → OpaqueHostViolation text place rule
    → (rule_number rule ≤ 8) ⊎ (14 ≤ rule_number rule)
opaque_number text place HostIpv6 h = inl (omega arith)
opaque_number text place HostCodePoint h = inl (omega arith)
opaque_number text place Percent h = inr (omega arith)
opaque_number text place _ h = absurd h

content_number : (profile : Profile) (class : Class) (last : Bool) (text : List ℕ) (place : ℕ) (rule : Rule)
    → HostContentViolation profile class last text place rule → (rule_number rule ≤ 8) ⊎ (14 ≤ rule_number rule)
content_number profile SpecialNotFile last text place rule h =
    inl (text_number profile SpecialNotFile last text rule h.0)
content_number profile File last text place rule h = inl (text_number profile File last text rule h.0)
content_number profile Other last text place rule h = opaque_number text place rule h

host_number : (profile : Profile) (class : Class) (last : Bool) (text : List ℕ) (port_text : Option (List ℕ))
    (path_text : List ℕ) (place : ℕ) (rule : Rule)
    → HostViolation profile class last text port_text path_text place rule
    → (rule_number rule ≤ 8) ⊎ (14 ≤ rule_number rule)
host_number profile class last text port_text path_text place HostMissing h = inl (omega arith)
host_number profile class last text port_text path_text place rule h =
    content_number profile class last text place rule h

-- a host's rule, where there is a host
host_part : (setting : Setting) (cut : Cut) (place : ℕ) (rule : Rule) → HostPartViolation setting cut place rule
    → (is_some cut.host_text ≡ true) × ((rule_number rule ≤ 8) ⊎ (14 ≤ rule_number rule))
host_part setting cut = go cut.scheme cut.host_text cut.port_text cut.path_text cut.query cut.fragment
  where
    go : (scheme host_text port_text : Option (List ℕ)) (path_text : List ℕ) (query fragment : Option (List ℕ))
        (place : ℕ) (rule : Rule)
        → HostPartViolation setting (cut_with scheme host_text port_text path_text query fragment) place rule
        → (is_some host_text ≡ true) × ((rule_number rule ≤ 8) ⊎ (14 ≤ rule_number rule))
    go scheme None port_text path_text query fragment place rule h = absurd h
    go scheme (Some host_text) port_text path_text query fragment place rule h =
        let cut = cut_with scheme (Some host_text) port_text path_text query fragment in (
          refl,
          host_number setting.profile setting.class
              (ends_at_host cut) host_text port_text path_text h.inner rule h.holds,
        )

port_number : (text : List ℕ) (place : ℕ) (rule : Rule) → PortViolation text place rule
    → (9 ≤ rule_number rule) × (rule_number rule ≤ 10)
port_number text place PortDigit h = (omega arith, omega arith)
port_number text place PortRange h = (omega arith, omega arith)
port_number text place _ h = absurd h

port_part : (cut : Cut) (place : ℕ) (rule : Rule) → PortPartViolation cut place rule
    → (9 ≤ rule_number rule) × (rule_number rule ≤ 10)
port_part cut = go cut.scheme cut.host_text cut.port_text cut.path_text cut.query cut.fragment
  where
    go : (scheme host_text port_text : Option (List ℕ)) (path_text : List ℕ) (query fragment : Option (List ℕ))
        (place : ℕ) (rule : Rule)
        → PortPartViolation (cut_with scheme host_text port_text path_text query fragment) place rule
        → (9 ≤ rule_number rule) × (rule_number rule ≤ 10)
    go scheme None port_text path_text query fragment place rule h = absurd h
    go scheme (Some host_text) None path_text query fragment place rule h = absurd h
    go scheme (Some host_text) (Some port_text) path_text query fragment place rule h =
        port_number port_text h.inner rule h.holds

-- the rules of a host by their numbers
pub host_rule : (rule : Rule)
    → (rule ≡ HostDomain) ⊎ ((rule ≡ HostNumber) ⊎ ((rule ≡ HostIpv6) ⊎ (rule ≡ HostCodePoint)))
    → (5 ≤ rule_number rule) × (rule_number rule ≤ 8)
host_rule rule (inl is) = rw is (omega arith, omega arith)
host_rule rule (inr (inl is)) = rw is (omega arith, omega arith)
host_rule rule (inr (inr (inl is))) = rw is (omega arith, omega arith)
host_rule rule (inr (inr (inr is))) = rw is (omega arith, omega arith)

-- a rule of a host is violated where there is one
host_of_rule : (setting : Setting) (text : List ℕ) (cut : Cut) (place : ℕ) (rule : Rule) → 5 ≤ rule_number rule
    → rule_number rule ≤ 8 → ViolationOf setting text cut place rule → is_some cut.host_text ≡ true
host_of_rule setting text cut place rule low high (inl begins) =
    (let least = start_number setting text cut place rule begins in absurd (omega arith))
host_of_rule setting text cut place rule low high (inr (inl (started, inl host))) =
    (host_part setting cut place rule host).0
host_of_rule setting text cut place rule low high (inr (inl (started, inr (inl port)))) =
    (let bounds = port_part cut place rule port in absurd (omega (arith, bounds.0)))
host_of_rule setting text cut place rule low high (inr (inl (started, inr (inr first)))) =
    (let bounds = (path_start_begins setting cut).from place rule first in absurd (omega (arith, bounds.1)))
host_of_rule setting text cut place rule low high (inr (inr (inl path))) =
    (let bounds = (path_held_begins setting cut).from place rule path in absurd (omega (arith, bounds.1)))
host_of_rule setting text cut place rule low high (inr (inr (inr (inl query)))) =
    (let bounds = (may_be_begins (query_place cut) cut.query).from place rule query in absurd (omega (arith, bounds.1)))
host_of_rule setting text cut place rule low high (inr (inr (inr (inr fragment)))) =
    (let bounds = (may_be_begins (fragment_place cut) cut.fragment).from place rule fragment in
    absurd (omega (arith, bounds.1)))

-- a rule of the start of a path is violated there
path_of_rule : (setting : Setting) (text : List ℕ) (cut : Cut) (place : ℕ) (rule : Rule) → 11 ≤ rule_number rule
    → rule_number rule ≤ 12 → ViolationOf setting text cut place rule
    → After (path_place cut) (PathStartViolation setting cut) place rule
path_of_rule setting text cut place rule low high (inl begins) =
    (let least = start_number setting text cut place rule begins in absurd (omega arith))
path_of_rule setting text cut place rule low high (inr (inl (started, inl host))) =
    elim (host_part setting cut place rule host).1 [
      | inl small ↦ absurd (omega arith)
      | inr large ↦ absurd (omega arith)
    ]
path_of_rule setting text cut place rule low high (inr (inl (started, inr (inl port)))) =
    (let bounds = port_part cut place rule port in absurd (omega (arith, bounds.1)))
path_of_rule setting text cut place rule low high (inr (inl (started, inr (inr first)))) = first
path_of_rule setting text cut place rule low high (inr (inr (inl path))) =
    (let bounds = (path_held_begins setting cut).from place rule path in absurd (omega (arith, bounds.1)))
path_of_rule setting text cut place rule low high (inr (inr (inr (inl query)))) =
    (let bounds = (may_be_begins (query_place cut) cut.query).from place rule query in absurd (omega (arith, bounds.1)))
path_of_rule setting text cut place rule low high (inr (inr (inr (inr fragment)))) =
    (let bounds = (may_be_begins (fragment_place cut) cut.fragment).from place rule fragment in
    absurd (omega (arith, bounds.1)))

-- ---- a host's rule

pub has_authority : (profile : Profile) (base : Option Url) (text : List ℕ) (place : ℕ) (rule : Rule)
    → 5 ≤ rule_number rule → rule_number rule ≤ 8 → Violation profile base text place rule
    → starts_with_two_slashes (after_scheme text) ≡ true
unfolding Violation
has_authority profile base text place rule low high h =
    let cut = cut_of base text in
    (cut_rest base text).two ∙ host_of_rule (setting_of profile base cut.scheme) text cut place rule low high h

-- ---- `/.`

dotted_at : (text : List ℕ) (place : ℕ) → length (scheme_prefix text ++ authority_prefix (after_scheme text)) ≡ place
    → rest_of (dotted place text) ≡ slash ∷ full_stop ∷ rest_of text
unfolding dotted
dotted_at text place is =
    let scheme = scheme_prefix text in
    let authority = authority_prefix (after_scheme text) in
    let front = scheme ++ authority in
    let rest = rest_of text in
    let whole : text ≡ front ++ rest = rest_parts text ∙ sym (append_assoc scheme authority rest) in
    let before : take place text ≡ front = ap (take place) whole ∙ take_at front rest place is in
    let after : drop place text ≡ rest = ap (drop place) whole ∙ drop_at front rest place is in
    ap (λ t. rest_of (t ++ (slash ∷ full_stop ∷ drop place text))) before
    ∙ ap (λ t. rest_of (front ++ (slash ∷ full_stop ∷ t))) after
    ∙ ap rest_of (append_assoc scheme authority (slash ∷ full_stop ∷ rest)) ∙ dotted_rest text

two_no_dot : (path tail : List ℕ) → starts_with_two_slashes path ≡ true → starts_with_dot (path ++ tail) ≡ false
two_no_dot [] tail two = absurd (false≢true two)
two_no_dot (c ∷ []) tail two = absurd (false≢true two)
two_no_dot (c ∷ d ∷ path) tail two =
    let first = eqb-true c slash (and_parts (c == slash) (d == slash) two).0 in
    let second = eqb-true d slash (and_parts (c == slash) (d == slash) two).1 in
    rw (first, second) refl

drive_no_dot : (path tail : List ℕ) → starts_with_drive_segment path ≡ true → starts_with_dot (path ++ tail) ≡ false
drive_no_dot [] tail drive = absurd (false≢true drive)
drive_no_dot (c ∷ []) tail drive = absurd (false≢true drive)
drive_no_dot (c ∷ d ∷ []) tail drive = absurd (false≢true drive)
drive_no_dot (c ∷ d ∷ e ∷ []) tail drive = absurd (false≢true drive)
drive_no_dot (c ∷ d ∷ e ∷ f ∷ path) tail drive =
    let both = and_parts (c == slash) (is_drive_letter (d ∷ e ∷ []) && (f == slash)) drive in
    let letter = (and_parts (is_drive_letter (d ∷ e ∷ [])) (f == slash) both.1).0 in
    grind (arith, nat_tests)

empty_two : (profile : Profile) (path : List ℕ) → HasEmptyFirst profile path → starts_with_two_slashes path ≡ true
empty_two Standard path empty = empty
empty_two Wide path empty = absurd empty
empty_two Parser path empty = absurd empty

drive_starts : (profile : Profile) (path : List ℕ) → HasDrive profile path → starts_with_drive_segment path ≡ true
drive_starts Standard path drive = drive
drive_starts Wide path drive = drive
drive_starts Parser path drive = absurd drive

pub empty_segment_rest : (profile : Profile) (base : Option Url) (text : List ℕ) (place : ℕ)
    → Violation profile base text place FirstSegmentEmpty → HasRestOf text (dotted (place - 1) text)
unfolding Violation
empty_segment_rest profile base text place h =
    let cut = cut_of base text in
    let setting = setting_of profile base cut.scheme in
    let first = path_of_rule setting text cut place FirstSegmentEmpty (omega arith) (omega arith) h in
    let at = path_begins base text in
    let inner : first.inner ≡ 1 = first.holds.1 in
    let is : length (scheme_prefix text ++ authority_prefix (after_scheme text)) ≡ place - 1
    = omega (arith, first.moved) in
    inr (
      ap starts_with_dot (cut_rest base text).rest
          ∙ two_no_dot cut.path_text (tails cut.query cut.fragment) (empty_two profile cut.path_text first.holds.0),
      dotted_at text (place - 1) is,
    )

pub drive_rest : (profile : Profile) (base : Option Url) (text : List ℕ) (place : ℕ)
    → Violation profile base text place DriveAfterHost → HasRestOf text (dotted place text)
unfolding Violation
drive_rest profile base text place h =
    let cut = cut_of base text in
    let setting = setting_of profile base cut.scheme in
    let first = path_of_rule setting text cut place DriveAfterHost (omega arith) (omega arith) h in
    let at = path_begins base text in
    let inner : first.inner ≡ 0 = first.holds.3 in
    let is : length (scheme_prefix text ++ authority_prefix (after_scheme text)) ≡ place = omega (arith, first.moved) in
    inr (
      ap starts_with_dot (cut_rest base text).rest
          ∙ drive_no_dot cut.path_text (tails cut.query cut.fragment)
          (drive_starts profile cut.path_text first.holds.2),
      dotted_at text place is,
    )

-- ---- edits one after the other

pub rest_after : (text middle other : List ℕ) → HasRestOf text middle → HasRestOf middle other → HasRestOf text other
rest_after text middle other (inl same) (inl more) = inl (more ∙ same)
rest_after text middle other (inl same) (inr (none, more)) =
    inr (sym (ap starts_with_dot same) ∙ none, more ∙ ap (λ t. slash ∷ full_stop ∷ t) same)
rest_after text middle other (inr (none, dot)) (inl more) = inr (none, more ∙ dot)
rest_after text middle other (inr (none, dot)) (inr (no_dot, more)) =
    absurd (false≢true (sym no_dot ∙ ap starts_with_dot dot))

-- ---- a text with `/.`, from its parts

dot_segment : chars (codes "/.") ≡ slash ∷ full_stop ∷ []
unfolding chars
dot_segment = refl

pub dotted_joined : (place : ℕ) (text before after : List ℕ) → before ≡ take place text → after ≡ drop place text
    → (before ++ chars (codes "/.")) ++ after ≡ dotted place text
unfolding dotted
dotted_joined place text before after is_before is_after =
    rw (is_before, is_after, dot_segment) (append_assoc (take place text) (slash ∷ full_stop ∷ []) (drop place text))
