-- The violations of a text in the order in which its parts are checked: the first fault of a part is the least of all.
use Rattle.std.proofs.Common.{◌≡◌, ◌≢◌, ℕ, zero, suc, ◌+◌, ◌<◌, ◌≤◌, ◌⊎◌, Bool, true, false, ◌==◌, List, [], ◌∷◌}
use Rattle.std.proofs.Common.{Option, Some, None, length, drop, refl, ap, sym, ◌∙◌, inl, inr, arith, subst}
use Rattle.std.specs.Prelude.{if◌then◌else◌}
use Rattle.std.proofs.lemmas.Bool.{false≢true, true≢false, and_parts, eqb-true}
use Rattle.std.proofs.lemmas.List.{length-append, length-drop}
use Rattle.uv_model.specs.declared.profile.Profile.{Profile}
use Rattle.uv_model.specs.declared.profile.Profile.TheVariants.{Standard, Wide, Parser}
use Rattle.uv_model.specs.declared.scheme.Class.{Class}
use Rattle.uv_model.specs.declared.scheme.Class.TheVariants.{SpecialNotFile, File, Other}
use Rattle.uv_model.specs.declared.rule.Rule.{Rule}
use Rattle.uv_model.specs.declared.rule.Rule.TheVariants.{NoScheme, OpaqueBase, TwoSlashes, HostMissing, HostDomain}
use Rattle.uv_model.specs.declared.rule.Rule.TheVariants.{HostNumber, HostIpv6, HostCodePoint, PortDigit, PortRange}
use Rattle.uv_model.specs.declared.rule.Rule.TheVariants.{FirstSegmentEmpty, DriveAfterHost, CodePoint, Percent}
use Rattle.uv_model.specs.declared.rule.Refusal.{Refusal}
use Rattle.uv_model.specs.Violations.Refusal.{IsLeast, StandsWithin}
use Rattle.uv_model.specs.Violations.Rule.{rule_number}
use Rattle.uv_model.specs.Ascii.{percent_sign, slash, colon, question_mark}
use Rattle.uv_model.specs.Parts.{written_scheme, written_authority, written_after}
use Rattle.uv_model.specs.Path.{starts_with_slash}
use Rattle.uv_model.specs.Violations.UnitViolation.{UnitViolation}
use Rattle.uv_model.specs.Violations.OpaqueHostViolation.{OpaqueHostViolation}
use Rattle.uv_model.specs.Units.{is_url_code_point}
use Rattle.uv_model.specs.Setting.{Setting}
use Rattle.uv_model.specs.Cut.{Cut, scheme_end, path_place, query_place, fragment_place, starts_with_two_slashes}
use Rattle.uv_model.specs.Cut.{ends_at_host, is_followed, written_start, written_middle}
use Rattle.uv_model.specs.Violations.Violation.{After, StartViolation, HostTextViolation, HostContentViolation}
use Rattle.uv_model.specs.Violations.Violation.{HostViolation, PortViolation, PathStartViolation, HasEmptyFirst}
use Rattle.uv_model.specs.Violations.Violation.{HostPartViolation, PortPartViolation, MayBeUnitViolation}
use Rattle.uv_model.specs.Violations.Violation.{PathContentViolation, has_opaque_path, slashes_place}
use Rattle.uv_model.proofs.Violations.LeastLemmas.{Ends, Begins}
use Rattle.uv_model.proofs.Violations.SpacedPathLemmas.{path_violation-unit}

-- ---- places within a text

-- a place with a code point is within the text
pub within_text : (text : List ℕ) (place c : ℕ) (rest : List ℕ) → drop place text ≡ c ∷ rest → place < length text
within_text text place c rest here =
    let left = ap length here in
    omega (arith, length-drop {A = ℕ}, left)

-- a fault of units is within the text, by rule 13 or 14
pub unit_violation_bounds : (text : List ℕ) (place : ℕ) (rule : Rule) → UnitViolation text place rule
    → (place < length text) × (13 ≤ rule_number rule)
unit_violation_bounds text place CodePoint h = (within_text text place h.code_point h.rest h.here, omega arith)
unit_violation_bounds text place Percent h = (within_text text place percent_sign h.rest h.here, omega arith)
unit_violation_bounds text place _ h = absurd h

-- a fault of an opaque host is within its text
pub opaque_violation_within : (text : List ℕ) (place : ℕ) (rule : Rule) → OpaqueHostViolation text place rule
    → place < length text
opaque_violation_within [] place HostIpv6 h = absurd (false≢true h.0.bracket)
opaque_violation_within (c ∷ rest) place HostIpv6 h = (let at : place ≡ 0 = h.1 in omega arith)
opaque_violation_within text place HostCodePoint h = within_text text place h.1.code_point h.1.rest h.1.here
opaque_violation_within text place Percent h = within_text text place percent_sign h.1.rest h.1.here
opaque_violation_within text place _ h = absurd h

-- so the least fault of units is within the text
pub least_unit_fault_within : (text : List ℕ) (answer : Option Refusal) → IsLeast (UnitViolation text) answer
    → StandsWithin text answer
least_unit_fault_within text None least = tt
least_unit_fault_within text (Some refusal) least =
    (unit_violation_bounds text refusal.place refusal.rule least.stands).0

-- and the least fault of an opaque host
pub least_opaque_fault_within : (text : List ℕ) (answer : Option Refusal) → IsLeast (OpaqueHostViolation text) answer
    → StandsWithin text answer
least_opaque_fault_within text None least = tt
least_opaque_fault_within text (Some refusal) least =
    opaque_violation_within text refusal.place refusal.rule least.stands

-- a text that isn't empty
some_length : (text : List ℕ) → text ≢ [] → 0 < length text
some_length [] some = absurd (some refl)
some_length (c ∷ rest) some = omega arith

-- a host with a fault of what it holds isn't empty
host_text_some : (profile : Profile) (class : Class) (last : Bool) (text : List ℕ) (rule : Rule)
    → HostTextViolation profile class last text rule → 0 < length text
host_text_some profile class last text HostDomain (inl stopped) = some_length text stopped.some
host_text_some profile class last text HostDomain (inr (should, none)) = some_length text should.some
host_text_some profile class last text HostNumber (unstopped, should, number) = some_length text should.some
host_text_some profile class last [] HostIpv6 h = absurd (false≢true h.bracket)
host_text_some profile class last (c ∷ rest) HostIpv6 h = omega arith
host_text_some profile class last text _ h = absurd h

-- a fault of what a host holds is within its text
held_host_within : (profile : Profile) (class : Class) (last : Bool) (text : List ℕ) (place : ℕ) (rule : Rule)
    → HostContentViolation profile class last text place rule
    → place < length text
held_host_within profile SpecialNotFile last text place rule (h, at) =
    (let some = host_text_some profile SpecialNotFile last text rule h in omega arith)
held_host_within profile File last text place rule (h, at) =
    (let some = host_text_some profile File last text rule h in omega arith)
held_host_within profile Other last text place rule h = opaque_violation_within text place rule h

-- a fault of a host is within its text, or is the fault of a missing host
host_violation_ends : (profile : Profile) (class : Class) (last : Bool) (text : List ℕ)
    (port_text : Option (List ℕ)) (path_text : List ℕ) (place : ℕ) (rule : Rule)
    → HostViolation profile class last text port_text path_text place rule
    → (place < length text) ⊎ ((place ≡ 0) × (rule_number rule ≤ 4))
host_violation_ends profile class last text port_text path_text place HostMissing h = inr (h.1, omega arith)
host_violation_ends profile class last text port_text path_text place rule h =
    inl (held_host_within profile class last text place rule h)

-- a fault of a port is within its text, by rule 9 or 10
port_violation_bounds : (text : List ℕ) (place : ℕ) (rule : Rule) → PortViolation text place rule
    → (place < length text) × (9 ≤ rule_number rule)
port_violation_bounds text place PortDigit h = (within_text text place h.code_point h.rest h.here, omega arith)
port_violation_bounds [] place PortRange h = absurd (too_large h.0.large)
  where
    too_large : 65535 < 0 → ⊥
    too_large less = omega arith
port_violation_bounds (c ∷ rest) place PortRange h = (let at : place ≡ 0 = h.1 in (omega arith, omega arith))
port_violation_bounds text place _ h = absurd h

-- a place more after an empty first segment
abbrev pub second_slash : List ℕ → ℕ
second_slash path_text = if starts_with_two_slashes path_text then 1 else 0

-- a forbidden empty first segment is where the path begins with `//`
empty_first_starts : (profile : Profile) (path_text : List ℕ) → HasEmptyFirst profile path_text
    → starts_with_two_slashes path_text ≡ true
empty_first_starts Standard path_text empty = empty
empty_first_starts Wide path_text empty = absurd empty
empty_first_starts Parser path_text empty = absurd empty

-- a fault of a path's start is at most at that place, by rule 11 or 12
path_start_bounds : (setting : Setting) (cut : Cut) (place : ℕ) (rule : Rule)
    → PathStartViolation setting cut place rule
    → (place ≤ second_slash cut.path_text) × (11 ≤ rule_number rule) × (rule_number rule ≤ 12)
path_start_bounds setting cut place FirstSegmentEmpty (empty, at) =
    let starts = empty_first_starts setting.profile cut.path_text empty in
    (subst (λ (b : Bool). place ≤ (if b then 1 else 0)) (sym starts) (omega arith), omega arith, omega arith)
path_start_bounds setting cut place DriveAfterHost (class, host, drive, at) = (omega arith, omega arith, omega arith)
path_start_bounds setting cut place _ h = absurd h

-- a text that begins with `/` has no fault of units there
slash_is_unit : (text : List ℕ) (rule : Rule) → starts_with_slash text ≡ true → UnitViolation text 0 rule → ⊥
unfolding is_url_code_point
slash_is_unit [] rule starts h = absurd (false≢true starts)
slash_is_unit (c ∷ rest) CodePoint starts h =
    let same : c ≡ h.code_point = cc in
    let is : c ≡ slash = eqb-true c slash starts in
    let point : h.code_point ≡ slash = cc in
    true≢false (ap is_url_code_point (sym point) ∙ h.foreign)
slash_is_unit (c ∷ rest) Percent starts h =
    let same : c ≡ percent_sign = cc in
    let is : c ≡ slash = eqb-true c slash starts in
    omega arith
slash_is_unit (c ∷ rest) _ starts h = absurd h

-- the faults of units of a path that begins with `/` are after it
units_after_slash : (text : List ℕ) (place : ℕ) (rule : Rule) → starts_with_slash text ≡ true
    → UnitViolation text place rule
    → 1 ≤ place
units_after_slash text zero rule starts h = absurd (slash_is_unit text rule starts h)
units_after_slash text (suc place) rule starts h = omega arith

-- a text that begins with `//` begins with `/`
two_begin_with_one : (text : List ℕ) → starts_with_two_slashes text ≡ true → starts_with_slash text ≡ true
two_begin_with_one [] starts = starts
two_begin_with_one (c ∷ []) starts = absurd (false≢true starts)
two_begin_with_one (c ∷ d ∷ rest) starts = (and_parts (c == slash) (d == slash) starts).0

-- one place for a text that passes, if nothing is at the first place
one_place : (test : Bool) (place : ℕ) → (test ≡ true → 1 ≤ place) → (if test then 1 else 0) ≤ place
one_place true place some = some refl
one_place false place some = omega arith

-- ---- where the violations of each part end and begin; a cut is given by its fields

-- a cut of these texts
abbrev pub cut_with : (scheme host_text port_text : Option (List ℕ)) (path_text : List ℕ)
    (query fragment : Option (List ℕ)) → Cut
cut_with scheme host_text port_text path_text query fragment = record {
  scheme = scheme;
  host_text = host_text;
  port_text = port_text;
  path_text = path_text;
  query = query;
  fragment = fragment;
}

-- the length of `//` and the host text
abbrev pub host_length : Option (List ℕ) → ℕ
host_length None = 0
host_length (Some host_text) = 2 + length host_text

-- the place after the host text
abbrev pub host_end : Cut → ℕ
host_end cut = scheme_end cut + host_length cut.host_text

-- the authority ends no earlier than its host
authority_length : (host_text port_text : Option (List ℕ))
    → host_length host_text ≤ length (written_authority host_text port_text)
authority_length None port_text = omega arith
authority_length (Some host_text) port_text = omega (arith, length-append {A = ℕ})

-- the path begins no earlier than the host ends
pub host_before_path : (cut : Cut) → host_end cut ≤ path_place cut
host_before_path cut = omega (arith, authority_length cut.host_text cut.port_text)

-- the query's place by the path's
pub query_after_path : (cut : Cut) → query_place cut ≡ path_place cut + length cut.path_text + 1
query_after_path cut =
    let first = length-append (written_scheme cut.scheme) (written_middle cut) in
    let second = length-append (written_authority cut.host_text cut.port_text) cut.path_text in
    omega arith

-- the fragment's place by the length of the query
pub fragment_after_query : (cut : Cut)
    → fragment_place cut ≡ path_place cut + length cut.path_text + length (written_after question_mark cut.query) + 1
fragment_after_query cut =
    let start = query_after_path cut in
    let all = length-append (written_start cut) (written_after question_mark cut.query) in
    omega arith

-- the host's violations
pub host_part_ends : (setting : Setting) (cut : Cut) → Ends (HostPartViolation setting cut) (host_end cut) 4
host_part_ends setting cut =
    go cut.scheme cut.host_text cut.port_text cut.path_text cut.query cut.fragment
  where
    go : (scheme host_text port_text : Option (List ℕ)) (path_text : List ℕ) (query fragment : Option (List ℕ))
        → Ends (HostPartViolation setting (cut_with scheme host_text port_text path_text query fragment))
        (host_end (cut_with scheme host_text port_text path_text query fragment)) 4
    go scheme None port_text path_text query fragment = record { by = λ place rule h. absurd h }
    go scheme (Some host_text) port_text path_text query fragment = record {
      by = λ place rule h.
          let cut = cut_with scheme (Some host_text) port_text path_text query fragment in
          elim (host_violation_ends setting.profile setting.class (ends_at_host cut) host_text port_text path_text
          h.inner rule h.holds) [
            | inl within ↦ inl (omega (arith, h.moved))
            | inr (first, number) ↦ inr (omega (arith, h.moved), number)
          ];
    }

-- the port's violations
pub port_part_ends : (cut : Cut) → Ends (PortPartViolation cut) (path_place cut) 10
port_part_ends cut = go cut.scheme cut.host_text cut.port_text cut.path_text cut.query cut.fragment
  where
    go : (scheme host_text port_text : Option (List ℕ)) (path_text : List ℕ) (query fragment : Option (List ℕ))
        → Ends (PortPartViolation (cut_with scheme host_text port_text path_text query fragment))
        (path_place (cut_with scheme host_text port_text path_text query fragment)) 10
    go scheme None port_text path_text query fragment = record { by = λ place rule h. absurd h }
    go scheme (Some host_text) None path_text query fragment = record { by = λ place rule h. absurd h }
    go scheme (Some host_text) (Some port_text) path_text query fragment = record {
      by = λ place rule h.
          (let within = port_violation_bounds port_text h.inner rule h.holds in
          let lengths = length-append host_text (colon ∷ port_text) in
          inl (omega (arith, h.moved)));
    }

-- and they begin after the host, by rule 9 or 10
pub port_part_begins : (cut : Cut) → Begins (PortPartViolation cut) (host_end cut) 9
port_part_begins cut = go cut.scheme cut.host_text cut.port_text cut.path_text cut.query cut.fragment
  where
    go : (scheme host_text port_text : Option (List ℕ)) (path_text : List ℕ) (query fragment : Option (List ℕ))
        → Begins (PortPartViolation (cut_with scheme host_text port_text path_text query fragment))
        (host_end (cut_with scheme host_text port_text path_text query fragment)) 9
    go scheme None port_text path_text query fragment = record { from = λ place rule h. absurd h }
    go scheme (Some host_text) None path_text query fragment = record { from = λ place rule h. absurd h }
    go scheme (Some host_text) (Some port_text) path_text query fragment = record {
      from = λ place rule h.
          (let within = port_violation_bounds port_text h.inner rule h.holds in
          (omega (arith, h.moved), within.1));
    }

-- the violations of the path's start
pub path_start_ends : (setting : Setting) (cut : Cut)
    → Ends (After (path_place cut) (PathStartViolation setting cut)) (path_place cut + second_slash cut.path_text) 12
path_start_ends setting cut = record {
  by = λ place rule h.
      (let bounds = path_start_bounds setting cut h.inner rule h.holds in inr (omega (arith, h.moved), bounds.2));
}

-- and they begin with the path, by rule 11 or 12
pub path_start_begins : (setting : Setting) (cut : Cut)
    → Begins (After (path_place cut) (PathStartViolation setting cut)) (path_place cut) 11
path_start_begins setting cut = record {
  from = λ place rule h.
      (let bounds = path_start_bounds setting cut h.inner rule h.holds in (omega (arith, h.moved), bounds.1));
}

-- the violations of units of a text that begins at a place begin there, by rule 13 or 14
pub held_begins : (start : ℕ) (text : List ℕ) → Begins (After start (UnitViolation text)) start 13
held_begins start text = record {
  from = λ place rule h.
      (let bounds = unit_violation_bounds text h.inner rule h.holds in (omega (arith, h.moved), bounds.1));
}

-- the violations of a path by what it holds
abbrev pub OfPath : Setting → Cut → ℕ → Rule → Type 0
OfPath setting cut = After (path_place cut) (PathContentViolation setting cut)

-- each is one of units
held_unit : (setting : Setting) (cut : Cut) (place : ℕ) (rule : Rule) → PathContentViolation setting cut place rule
    → UnitViolation cut.path_text place rule
held_unit setting cut place rule h =
    path_violation-unit setting.profile (has_opaque_path setting.class cut) (is_followed cut) cut.path_text place rule h

-- they end with the path
pub path_held_ends : (setting : Setting) (cut : Cut)
    → Ends (OfPath setting cut) (path_place cut + length cut.path_text) 0
path_held_ends setting cut = record {
  by = λ place rule h.
      (let bounds = unit_violation_bounds cut.path_text h.inner rule (held_unit setting cut h.inner rule h.holds) in
      inl (omega (arith, h.moved)));
}

-- they are after its first `//`
pub path_held_begins : (setting : Setting) (cut : Cut)
    → Begins (OfPath setting cut) (path_place cut + second_slash cut.path_text) 13
path_held_begins setting cut = record {
  from = λ place rule h.
      (let text = cut.path_text in
      let unit = held_unit setting cut h.inner rule h.holds in
      let bounds = unit_violation_bounds text h.inner rule unit in
      let later = one_place (starts_with_two_slashes text) h.inner
      (λ starts. units_after_slash text h.inner rule (two_begin_with_one text starts) unit) in
      (omega (arith, h.moved), bounds.1));
}

-- and after its first `/`
pub path_held_after_slash : (setting : Setting) (cut : Cut)
    → Begins (OfPath setting cut) (path_place cut + (if starts_with_slash cut.path_text then 1 else 0)) 13
path_held_after_slash setting cut = record {
  from = λ place rule h.
      (let text = cut.path_text in
      let unit = held_unit setting cut h.inner rule h.holds in
      let bounds = unit_violation_bounds text h.inner rule unit in
      let later
      = one_place (starts_with_slash text) h.inner (λ starts. units_after_slash text h.inner rule starts unit) in
      (omega (arith, h.moved), bounds.1));
}

-- the violations of a query or a fragment, which may be absent
pub may_be_begins : (start : ℕ) (text : Option (List ℕ)) → Begins (MayBeUnitViolation start text) start 13
may_be_begins start None = record { from = λ place rule h. absurd h }
may_be_begins start (Some text) = held_begins start text

-- the violations of a query end before the fragment
pub query_ends : (cut : Cut) → Ends (MayBeUnitViolation (query_place cut) cut.query) (fragment_place cut) 0
query_ends cut = go cut.scheme cut.host_text cut.port_text cut.path_text cut.query cut.fragment
  where
    go : (scheme host_text port_text : Option (List ℕ)) (path_text : List ℕ) (query fragment : Option (List ℕ))
        → Ends (MayBeUnitViolation (query_place (cut_with scheme host_text port_text path_text query fragment)) query)
        (fragment_place (cut_with scheme host_text port_text path_text query fragment)) 0
    go scheme host_text port_text path_text None fragment = record { by = λ place rule h. absurd h }
    go scheme host_text port_text path_text (Some query) fragment = record {
      by = λ place rule h.
          (let cut = cut_with scheme host_text port_text path_text (Some query) fragment in
          let bounds = unit_violation_bounds query h.inner rule h.holds in
          let all = length-append (written_start cut) (question_mark ∷ query) in
          inl (omega (arith, h.moved)));
    }

-- the violations before any part
pub start_ends : (setting : Setting) (text : List ℕ) (cut : Cut)
    → Ends (StartViolation setting text cut) (slashes_place cut) 3
start_ends setting text cut = record { by = by }
  where
    by : (place : ℕ) (rule : Rule) → StartViolation setting text cut place rule
        → (place < slashes_place cut) ⊎ ((place ≤ slashes_place cut) × (rule_number rule ≤ 3))
    by place NoScheme (none, no_base, at) = inr (omega arith, omega arith)
    by place OpaqueBase (none, opaque, more, at) = inr (omega arith, omega arith)
    by place TwoSlashes (lacks, at) = inr (omega arith, omega arith)
    by place _ h = absurd h
