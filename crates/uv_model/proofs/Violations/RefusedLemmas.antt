-- The least violation of a text: the first fault in the order in which the parts are checked.
use Rattle.std.proofs.Common.{◌≡◌, ℕ, ◌+◌, ◌<◌, ◌≤◌, ◌⊎◌, Bool, true, false, List, [], ◌∷◌, Option, Some, None}
use Rattle.std.proofs.Common.{length, inl, inr, arith, subst}
use Rattle.std.specs.Prelude.{if◌then◌else◌}
use Rattle.uv_model.specs.declared.profile.Profile.{Profile}
use Rattle.uv_model.specs.declared.rule.Rule.{Rule}
use Rattle.uv_model.specs.declared.rule.Refusal.{Refusal}
use Rattle.uv_model.specs.Violations.Refusal.{IsLeast}
use Rattle.uv_model.specs.Violations.Rule.{rule_number}
use Rattle.uv_model.specs.Path.{starts_with_slash}
use Rattle.uv_model.specs.Setting.{Setting, setting_of}
use Rattle.uv_model.specs.Records.Url.{Url}
use Rattle.uv_model.specs.Cut.{Cut, IsCut, port_place, path_place, query_place, fragment_place}
use Rattle.uv_model.specs.Cut.{starts_with_two_slashes}
use Rattle.uv_model.specs.Violations.Violation.{After, StartViolation, PortViolation}
use Rattle.uv_model.specs.Violations.Violation.{PathStartViolation, HostPartViolation, PortPartViolation}
use Rattle.uv_model.specs.Violations.Violation.{MayBeUnitViolation, CheckedViolation, ContentViolation, IsStarted}
use Rattle.uv_model.specs.Violations.Violation.{ViolationOf, Violation, fault_after, slashes_place}
use Rattle.uv_model.proofs.Cuts.CutLemmas.{cut_is_computed}
use Rattle.uv_model.proofs.Violations.LeastLemmas.{Either, Begins, Precedes, precedes, least_first, least_second}
use Rattle.uv_model.proofs.Violations.LeastLemmas.{begins_either, begins_earlier, least_after}
use Rattle.uv_model.proofs.Violations.RefusalLemmas.{IsLeast-like}
use Rattle.uv_model.proofs.Violations.ViolationLemmas.{cut_with, second_slash, host_end, host_before_path}
use Rattle.uv_model.proofs.Violations.ViolationLemmas.{fragment_after_query, host_part_ends, query_after_path}
use Rattle.uv_model.proofs.Violations.ViolationLemmas.{port_part_ends, port_part_begins, path_start_ends}
use Rattle.uv_model.proofs.Violations.ViolationLemmas.{OfPath, path_start_begins, path_held_begins, path_held_ends}
use Rattle.uv_model.proofs.Violations.ViolationLemmas.{may_be_begins, path_held_after_slash, query_ends, start_ends}

-- ---- the parts, each with all that follow it

-- the violations of the fragment
abbrev pub FromFragment : Cut → ℕ → Rule → Type 0
FromFragment cut = MayBeUnitViolation (fragment_place cut) cut.fragment

-- the violations of the query
abbrev pub OfQuery : Cut → ℕ → Rule → Type 0
OfQuery cut = MayBeUnitViolation (query_place cut) cut.query

-- the violations of the query and the fragment
abbrev pub FromQuery : Cut → ℕ → Rule → Type 0
FromQuery cut = Either (OfQuery cut) (FromFragment cut)

-- the violations of what the path, the query and the fragment hold
abbrev pub FromPath : Setting → Cut → ℕ → Rule → Type 0
FromPath setting cut = Either (OfPath setting cut) (FromQuery cut)

-- the violations of the path's start
abbrev pub OfPathStart : Setting → Cut → ℕ → Rule → Type 0
OfPathStart setting cut = After (path_place cut) (PathStartViolation setting cut)

-- the violations of the path's start and of what follows
abbrev pub FromPathStart : Setting → Cut → ℕ → Rule → Type 0
FromPathStart setting cut = Either (OfPathStart setting cut) (FromPath setting cut)

-- the violations of the port and of what follows it
abbrev pub FromPort : Setting → Cut → ℕ → Rule → Type 0
FromPort setting cut = Either (PortPartViolation cut) (FromPathStart setting cut)

-- the violations of the host and of what follows it
abbrev pub FromHost : Setting → Cut → ℕ → Rule → Type 0
FromHost setting cut = Either (HostPartViolation setting cut) (FromPort setting cut)

-- ---- where they begin

fragment_begins : (cut : Cut) (start : ℕ) → start ≤ fragment_place cut → Begins (FromFragment cut) start 13
fragment_begins cut start le =
    begins_earlier (FromFragment cut) (fragment_place cut) 13 start 13
    (may_be_begins (fragment_place cut) cut.fragment) le
    (omega arith)

query_begins : (cut : Cut) (start : ℕ) → start ≤ query_place cut → Begins (FromQuery cut) start 13
query_begins cut start le =
    let path = query_after_path cut in
    let later = fragment_after_query cut in
    begins_either (OfQuery cut) (FromFragment cut) start 13
    (begins_earlier (OfQuery cut) (query_place cut) 13 start 13 (may_be_begins (query_place cut) cut.query) le
    (omega arith))
    (fragment_begins cut start (omega arith))

-- a test counts one at most
pub one_at_most : (test : Bool) → (if test then 1 else 0) ≤ 1
one_at_most true = omega arith
one_at_most false = omega arith

-- the second slash of a path is in its text
pub second_slash_within : (text : List ℕ) → second_slash text ≤ length text
second_slash_within [] = omega arith
second_slash_within (c ∷ []) = omega arith
second_slash_within (c ∷ d ∷ rest) =
    let most : second_slash (c ∷ d ∷ rest) ≤ 1 = one_at_most (starts_with_two_slashes (c ∷ d ∷ rest)) in
    omega arith

path_begins : (setting : Setting) (cut : Cut)
    → Begins (FromPath setting cut) (path_place cut + second_slash cut.path_text) 13
path_begins setting cut =
    let within = second_slash_within cut.path_text in
    let query = query_after_path cut in
    begins_either (OfPath setting cut) (FromQuery cut) (path_place cut + second_slash cut.path_text) 13
    (path_held_begins setting cut) (query_begins cut _ (omega arith))

path_start_all_begin : (setting : Setting) (cut : Cut) → Begins (FromPathStart setting cut) (path_place cut) 11
path_start_all_begin setting cut =
    begins_either (OfPathStart setting cut) (FromPath setting cut) (path_place cut) 11 (path_start_begins setting cut)
    (begins_earlier (FromPath setting cut) _ 13 (path_place cut) 11 (path_begins setting cut) (omega arith)
    (omega arith))

port_all_begin : (setting : Setting) (cut : Cut) → Begins (FromPort setting cut) (host_end cut) 9
port_all_begin setting cut =
    let path = host_before_path cut in
    begins_either (PortPartViolation cut) (FromPathStart setting cut) (host_end cut) 9 (port_part_begins cut)
    (begins_earlier (FromPathStart setting cut) (path_place cut) 11 (host_end cut) 9
    (path_start_all_begin setting cut) path (omega arith))

-- ---- each part before all that follow it

-- the query before the fragment
pub query_first : (cut : Cut) → Precedes (OfQuery cut) (FromFragment cut)
query_first cut =
    precedes (OfQuery cut) (FromFragment cut) (fragment_place cut) 0 13 (omega arith) (query_ends cut)
    (fragment_begins cut (fragment_place cut) (omega arith))

-- the path before the query
pub path_first : (setting : Setting) (cut : Cut) → Precedes (OfPath setting cut) (FromQuery cut)
path_first setting cut =
    let query = query_after_path cut in
    precedes (OfPath setting cut) (FromQuery cut) (path_place cut + length cut.path_text) 0 13 (omega arith)
    (path_held_ends setting cut) (query_begins cut _ (omega arith))

-- the path's start before what the path holds
pub path_start_first : (setting : Setting) (cut : Cut) → Precedes (OfPathStart setting cut) (FromPath setting cut)
path_start_first setting cut =
    precedes (OfPathStart setting cut) (FromPath setting cut) (path_place cut + second_slash cut.path_text) 12 13
    (omega arith)
    (path_start_ends setting cut) (path_begins setting cut)

-- the port before the path's start
pub port_first : (setting : Setting) (cut : Cut) → Precedes (PortPartViolation cut) (FromPathStart setting cut)
port_first setting cut =
    precedes (PortPartViolation cut) (FromPathStart setting cut) (path_place cut) 10 11 (omega arith)
    (port_part_ends cut)
    (path_start_all_begin setting cut)

-- the host before the port
pub host_first : (setting : Setting) (cut : Cut) → Precedes (HostPartViolation setting cut) (FromPort setting cut)
host_first setting cut =
    precedes (HostPartViolation setting cut) (FromPort setting cut) (host_end cut) 4 9 (omega arith)
    (host_part_ends setting cut)
    (port_all_begin setting cut)

-- ---- the violations of the whole text

-- no text violates a rule of the start and one of a checked part
abbrev pub Rest : Setting → List ℕ → Cut → ℕ → Rule → Type 0
Rest setting text cut place rule =
    (IsStarted setting text cut × CheckedViolation setting cut place rule) ⊎ ContentViolation setting cut place rule

-- what the path, the query and the fragment hold begins no earlier than such a violation is
held_begin : (setting : Setting) (cut : Cut) → Begins (FromPath setting cut) (slashes_place cut) 13
held_begin setting cut =
    let few = one_at_most (starts_with_slash cut.path_text) in
    let query = query_after_path cut in
    begins_either (OfPath setting cut) (FromQuery cut) (slashes_place cut) 13
    (begins_earlier (OfPath setting cut) _ 13 (slashes_place cut) 13 (path_held_after_slash setting cut)
    (omega arith) (omega arith))
    (query_begins cut (slashes_place cut) (omega arith))

-- the start of the text before what the path, the query and the fragment hold
pub start_before_held : (setting : Setting) (text : List ℕ) (cut : Cut)
    → Precedes (StartViolation setting text cut) (FromPath setting cut)
start_before_held setting text cut =
    precedes (StartViolation setting text cut) (FromPath setting cut) (slashes_place cut) 3 13 (omega arith)
    (start_ends setting text cut)
    (held_begin setting cut)

-- where a rule of the start is violated, its violation comes first
start_first : (setting : Setting) (text : List ℕ) (cut : Cut)
    → Precedes (StartViolation setting text cut) (Rest setting text cut)
start_first setting text cut = record { order = order }
  where
    order : (place later : ℕ) (rule other : Rule) → StartViolation setting text cut place rule
        → Rest setting text cut later other
        → (place < later) ⊎ ((place ≡ later) × (rule_number rule < rule_number other))
    order place later rule other start (inl (started, checked)) = absurd (started place rule start)
    order place later rule other start (inr h) =
        (start_before_held setting text cut).order place later rule other start h

-- without such a violation the parts have all the violations
pub from_parts : (setting : Setting) (text : List ℕ) (cut : Cut) → IsStarted setting text cut
    → (place : ℕ) (rule : Rule)
    → FromHost setting cut place rule → ViolationOf setting text cut place rule
from_parts setting text cut started place rule (inl host) = inr (inl (started, inl host))
from_parts setting text cut started place rule (inr (inl port)) = inr (inl (started, inr (inl port)))
from_parts setting text cut started place rule (inr (inr (inl start))) = inr (inl (started, inr (inr start)))
from_parts setting text cut started place rule (inr (inr (inr held))) = inr (inr held)

-- and the violations of the parts are all there are
pub to_parts : (setting : Setting) (text : List ℕ) (cut : Cut) → IsStarted setting text cut → (place : ℕ) (rule : Rule)
    → ViolationOf setting text cut place rule → FromHost setting cut place rule
to_parts setting text cut started place rule (inl start) = absurd (started place rule start)
to_parts setting text cut started place rule (inr (inl (again, inl host))) = inl host
to_parts setting text cut started place rule (inr (inl (again, inr (inl port)))) = inr (inl port)
to_parts setting text cut started place rule (inr (inl (again, inr (inr start)))) = inr (inr (inl start))
to_parts setting text cut started place rule (inr (inr held)) = inr (inr (inr held))

-- the least violation of a cut of the text is the text's
pub least_of_cut : (profile : Profile) (base : Option Url) (text : List ℕ) (cut : Cut) (least : Option Refusal)
    → IsCut base text cut → IsLeast (ViolationOf (setting_of profile base cut.scheme) text cut) least
    → IsLeast (Violation profile base text) least
unfolding Violation
least_of_cut profile base text cut least is found =
    subst (λ (c : Cut). IsLeast (ViolationOf (setting_of profile base c.scheme) text c) least)
    (cut_is_computed base text cut is) found

-- if no rule of the start is violated, the least violation of the parts is the text's
pub least_of_parts : (profile : Profile) (base : Option Url) (text : List ℕ) (cut : Cut) (least : Option Refusal)
    → IsCut base text cut → IsStarted (setting_of profile base cut.scheme) text cut
    → IsLeast (FromHost (setting_of profile base cut.scheme) cut) least → IsLeast (Violation profile base text) least
least_of_parts profile base text cut least is started found =
    let setting = setting_of profile base cut.scheme in
    least_of_cut profile base text cut least is
    (IsLeast-like (FromHost setting cut) (ViolationOf setting text cut) (from_parts setting text cut started)
    (to_parts setting text cut started) least found)

-- the least violation of a start that violates a rule is the text's
pub refused_at_start : (profile : Profile) (base : Option Url) (text : List ℕ) (cut : Cut) (refusal : Refusal)
    → IsCut base text cut → IsLeast (StartViolation (setting_of profile base cut.scheme) text cut) (Some refusal)
    → IsLeast (Violation profile base text) (Some refusal)
refused_at_start profile base text cut refusal is found =
    let setting = setting_of profile base cut.scheme in
    least_of_cut profile base text cut (Some refusal) is
    (least_first (StartViolation setting text cut) (Rest setting text cut) refusal (start_first setting text cut) found)

-- ---- each part refuses, or passes the text on to what follows it

-- a fault of the query comes before the fragment's
pub query_refuses : (cut : Cut) (refusal : Refusal) → IsLeast (OfQuery cut) (Some refusal)
    → IsLeast (FromQuery cut) (Some refusal)
query_refuses cut refusal = least_first (OfQuery cut) (FromFragment cut) refusal (query_first cut)

-- where the query has none, the fragment decides
pub query_passes : (cut : Cut) (least : Option Refusal) → IsLeast (OfQuery cut) None → IsLeast (FromFragment cut) least
    → IsLeast (FromQuery cut) least
query_passes cut least = least_second (OfQuery cut) (FromFragment cut) least

-- a fault of the path comes before the faults of the query and the fragment
pub path_refuses : (setting : Setting) (cut : Cut) (refusal : Refusal) → IsLeast (OfPath setting cut) (Some refusal)
    → IsLeast (FromPath setting cut) (Some refusal)
path_refuses setting cut refusal = least_first (OfPath setting cut) (FromQuery cut) refusal (path_first setting cut)

-- where the path has none, they decide
pub path_passes : (setting : Setting) (cut : Cut) (least : Option Refusal) → IsLeast (OfPath setting cut) None
    → IsLeast (FromQuery cut) least
    → IsLeast (FromPath setting cut) least
path_passes setting cut least = least_second (OfPath setting cut) (FromQuery cut) least

-- a fault of the path's start comes before the faults of units
pub path_start_refuses : (setting : Setting) (cut : Cut) (refusal : Refusal)
    → IsLeast (OfPathStart setting cut) (Some refusal)
    → IsLeast (FromPathStart setting cut) (Some refusal)
path_start_refuses setting cut refusal =
    least_first (OfPathStart setting cut) (FromPath setting cut) refusal (path_start_first setting cut)

-- where the path's start has none, those decide
pub path_start_passes : (setting : Setting) (cut : Cut) (least : Option Refusal)
    → IsLeast (OfPathStart setting cut) None
    → IsLeast (FromPath setting cut) least → IsLeast (FromPathStart setting cut) least
path_start_passes setting cut least = least_second (OfPathStart setting cut) (FromPath setting cut) least

-- a fault of the port comes before the faults of the path and of what follows it
pub port_refuses : (setting : Setting) (cut : Cut) (refusal : Refusal) → IsLeast (PortPartViolation cut) (Some refusal)
    → IsLeast (FromPort setting cut) (Some refusal)
port_refuses setting cut refusal =
    least_first (PortPartViolation cut) (FromPathStart setting cut) refusal (port_first setting cut)

-- where the port has none, those decide
pub port_passes : (setting : Setting) (cut : Cut) (least : Option Refusal) → IsLeast (PortPartViolation cut) None
    → IsLeast (FromPathStart setting cut) least → IsLeast (FromPort setting cut) least
port_passes setting cut least = least_second (PortPartViolation cut) (FromPathStart setting cut) least

-- a fault of the host comes before the faults of what follows it
pub host_refuses : (setting : Setting) (cut : Cut) (refusal : Refusal)
    → IsLeast (HostPartViolation setting cut) (Some refusal)
    → IsLeast (FromHost setting cut) (Some refusal)
host_refuses setting cut refusal =
    least_first (HostPartViolation setting cut) (FromPort setting cut) refusal (host_first setting cut)

-- where the host has none, those decide
pub host_passes : (setting : Setting) (cut : Cut) (least : Option Refusal)
    → IsLeast (HostPartViolation setting cut) None
    → IsLeast (FromPort setting cut) least → IsLeast (FromHost setting cut) least
host_passes setting cut least = least_second (HostPartViolation setting cut) (FromPort setting cut) least

-- ---- from a part checked alone to the part of the text

-- without an authority the host has none
pub none_of_host : (setting : Setting) (cut : Cut) → cut.host_text ≡ None → IsLeast (HostPartViolation setting cut) None
none_of_host setting cut is = rw is (λ place rule h. h)

-- the least violation of the port is its least one after the host and `:`
pub least_of_port : (cut : Cut) (host_text port_text : List ℕ) (least : Option Refusal) → cut.host_text ≡ Some host_text
    → cut.port_text ≡ Some port_text → IsLeast (PortViolation port_text) least
    → IsLeast (PortPartViolation cut) (fault_after (port_place host_text cut) least)
least_of_port cut host_text port_text least host port found =
    rw (host, port) (least_after (port_place host_text cut) (PortViolation port_text) least found)

-- without a port there is none
pub none_of_port : (cut : Cut) → cut.port_text ≡ None → IsLeast (PortPartViolation cut) None
none_of_port cut is = go cut.scheme cut.host_text cut.port_text cut.path_text cut.query cut.fragment is
  where
    go : (scheme host_text port_text : Option (List ℕ)) (path_text : List ℕ) (query fragment : Option (List ℕ))
        → port_text ≡ None
        → IsLeast (PortPartViolation (cut_with scheme host_text port_text path_text query fragment)) None
    go scheme None port_text path_text query fragment is = λ place rule h. h
    go scheme (Some host_text) None path_text query fragment is = λ place rule h. h
    go scheme (Some host_text) (Some port_text) path_text query fragment is = absurd cc
