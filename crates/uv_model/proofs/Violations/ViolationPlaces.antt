-- A violation is within the text, or at its end.
use Rattle.std.proofs.Common.{◌≡◌, ℕ, ◌+◌, ◌≤◌, List, [], ◌∷◌, Option, Some, None, length, ap, inl, inr, arith}
use Rattle.std.specs.Prelude.{if◌then◌else◌, ◌==◌}
use Rattle.std.proofs.lemmas.List.{length-append}
use Rattle.uv_model.specs.declared.profile.Profile.{Profile}
use Rattle.uv_model.specs.declared.rule.Rule.{Rule}
use Rattle.uv_model.specs.Ascii.{number_sign, question_mark, slash}
use Rattle.uv_model.specs.Violations.Violation.{Violation, ViolationOf, MayBeUnitViolation, slashes_place}
use Rattle.uv_model.specs.Cut.{Cut, cut_of, fragment_place, path_place, query_place, written_cut, written_prefix}
use Rattle.uv_model.specs.Cut.{written_start}
use Rattle.uv_model.specs.Parts.{written_after}
use Rattle.uv_model.specs.Path.{starts_with_slash}
use Rattle.uv_model.specs.Setting.{Setting, setting_of}
use Rattle.uv_model.specs.Records.Url.{Url}
use Rattle.uv_model.proofs.Violations.ViolationLemmas.{path_held_ends, host_before_path, host_end, host_part_ends}
use Rattle.uv_model.proofs.Violations.ViolationLemmas.{path_start_ends, port_part_ends, query_after_path}
use Rattle.uv_model.proofs.Violations.ViolationLemmas.{second_slash, start_ends, unit_violation_bounds}
use Rattle.uv_model.proofs.Cuts.CutLemmas.{computed_is_cut}
use Rattle.uv_model.proofs.Violations.LeastLemmas.{Ends}
use Rattle.uv_model.proofs.Violations.RefusedLemmas.{one_at_most, second_slash_within}

-- where violations end, none is after
ends_at : (F : ℕ → Rule → Type 0) (end number place : ℕ) (rule : Rule) → Ends F end number → F place rule → place ≤ end
ends_at F end number place rule ends h = elim (ends.by place rule h) [
  | inl less ↦ omega arith
  | inr (less, small) ↦ less
]

first_slash_within : (text : List ℕ) → (if starts_with_slash text then 1 else 0) ≤ length text
first_slash_within [] = omega arith
first_slash_within (c ∷ rest) = let most = one_at_most (c == slash) in omega arith

-- a fault of a query or a fragment is before its end
may_be_within : (start mark : ℕ) (text : Option (List ℕ)) (place : ℕ) (rule : Rule)
    → MayBeUnitViolation start text place rule → place + 1 ≤ start + length (written_after mark text)
may_be_within start mark None place rule h = absurd h
may_be_within start mark (Some text) place rule h =
    let bounds = unit_violation_bounds text h.inner rule h.holds in
    omega (arith, h.moved)

-- a violation of a cut text
cut_violation_within : (setting : Setting) (text : List ℕ) (cut : Cut) (place : ℕ) (rule : Rule)
    → ViolationOf setting text cut place rule → place ≤ length (written_cut cut)
cut_violation_within setting text cut place rule h = at h
  where
    start : length (written_start cut) ≡ path_place cut + length cut.path_text
    start = let is = query_after_path cut in omega arith

    prefix : length (written_prefix cut) ≡ length (written_start cut) + length (written_after question_mark cut.query)
    prefix = length-append (written_start cut) (written_after question_mark cut.query)

    whole : length (written_cut cut) ≡ length (written_prefix cut) + length (written_after number_sign cut.fragment)
    whole = length-append (written_prefix cut) (written_after number_sign cut.fragment)

    at : ViolationOf setting text cut place rule → place ≤ length (written_cut cut)
    at (inl begins) =
        let end = ends_at _ (slashes_place cut) 3 place rule (start_ends setting text cut) begins in
        let slash = first_slash_within cut.path_text in
        omega (arith, start, prefix, whole)
    at (inr (inl (started, inl host))) =
        let end = ends_at _ (host_end cut) 4 place rule (host_part_ends setting cut) host in
        let path = host_before_path cut in
        omega (arith, start, prefix, whole)
    at (inr (inl (started, inr (inl port)))) =
        let end = ends_at _ (path_place cut) 10 place rule (port_part_ends cut) port in
        omega (arith, start, prefix, whole)
    at (inr (inl (started, inr (inr first)))) =
        let end = ends_at _ (path_place cut + second_slash cut.path_text) 12 place rule
        (path_start_ends setting cut) first in
        let second = second_slash_within cut.path_text in
        omega (arith, start, prefix, whole)
    at (inr (inr (inl path))) =
        let end = ends_at _ (path_place cut + length cut.path_text) 0 place rule
        (path_held_ends setting cut) path in
        omega (arith, start, prefix, whole)
    at (inr (inr (inr (inl query)))) =
        let end = may_be_within (query_place cut) question_mark cut.query place rule query in
        omega (arith, prefix, whole)
    at (inr (inr (inr (inr fragment)))) =
        let end = may_be_within (fragment_place cut) number_sign cut.fragment place rule fragment in
        omega (arith, whole)

-- a violation is at a place up to the text's end
pub violation_within : (profile : Profile) (base : Option Url) (text : List ℕ) (place : ℕ) (rule : Rule)
    → Violation profile base text place rule → place ≤ length text
unfolding Violation
violation_within profile base text place rule h =
    let within = cut_violation_within (setting_of profile base (cut_of base text).scheme) text
    (cut_of base text) place rule h in
    let same = ap length (computed_is_cut base text).whole in
    omega arith
