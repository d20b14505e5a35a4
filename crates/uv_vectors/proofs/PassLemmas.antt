-- A text denotes one URL or has one refusal, so that an answer says whether a case passes.
use Rattle.std.proofs.Common.{◌≡◌, ◌∙◌, ℕ, ◌≤◌, ◌-◌, Bool, false, List, Option, Some, None, ap, chars, get_or}
use Rattle.std.proofs.Common.{option_copied, refl, sym, subst, le_antisymm}
use Rattle.std.specs.Borrow.{Bor}
use Rattle.std.specs.Prelude.{Decides}
use Rattle.std.proofs.lemmas.Bool.{false≢true}
use Rattle.uv_model.specs.declared.profile.Profile.{Profile}
use Rattle.uv_model.specs.declared.rule.Refusal.{Refusal}
use Rattle.uv_model.specs.declared.rule.Rule.{Rule}
use Rattle.uv_model.specs.declared.rule.Rule.TheVariants.{NoScheme, OpaqueBase, TwoSlashes, HostMissing, HostDomain}
use Rattle.uv_model.specs.declared.rule.Rule.TheVariants.{HostNumber, HostIpv6, HostCodePoint, PortDigit, PortRange}
use Rattle.uv_model.specs.declared.rule.Rule.TheVariants.{FirstSegmentEmpty, DriveAfterHost, CodePoint, Percent}
use Rattle.uv_model.specs.Violations.Refusal.{IsLeastRefusal}
use Rattle.uv_model.specs.Violations.Rule.{rule_number, rules_in_order}
use Rattle.uv_model.specs.Records.Denote.{denote}
use Rattle.uv_model.specs.Records.Url.{Url}
use Rattle.uv_model.proofs.Cuts.UniqueParts.{parts_are_unique}
use Rattle.uv_grammar.specs.Verdict.{IsRefused}
use Rattle.uv_resolve.specs.Base.{IsBase, IsBaseRefused}
use Rattle.uv_resolve.specs.Resolve.{Denotes}
use Rattle.uv_vectors.specs.Case.{Expectation}
use Rattle.uv_vectors.specs.Passes.{IsAsExpected, PassesAgainst}

-- ---- one URL, one refusal

-- a text denotes one URL
denoted_is_one : (profile : Profile) (base : Option Url) (text : List ℕ) (url other : Url)
    → Denotes profile base text url → Denotes profile base text other → url ≡ other
denoted_is_one profile base text url other one two =
    let (parts, valid, is) = one in
    let (again, valid_again, is_again) = two in
    is ∙ ap (denote base) (parts_are_unique profile base text parts again valid valid_again) ∙ sym is_again

-- a rule is found by its number
numbered_rule : (rule : Rule) → get_or rules_in_order (rule_number rule - 1) NoScheme ≡ rule
numbered_rule NoScheme = refl
numbered_rule OpaqueBase = refl
numbered_rule TwoSlashes = refl
numbered_rule HostMissing = refl
numbered_rule HostDomain = refl
numbered_rule HostNumber = refl
numbered_rule HostIpv6 = refl
numbered_rule HostCodePoint = refl
numbered_rule PortDigit = refl
numbered_rule PortRange = refl
numbered_rule FirstSegmentEmpty = refl
numbered_rule DriveAfterHost = refl
numbered_rule CodePoint = refl
numbered_rule Percent = refl

-- the refusal at the place by the rule
abbrev refusal_at : ℕ → Rule → Refusal
refusal_at place rule = record { place = place; rule = rule }

-- of two least violations neither is before the other
least_is_one : (violation : ℕ → Rule → Type 0) (refusal other : Refusal) → IsLeastRefusal violation refusal
    → IsLeastRefusal violation other → refusal ≡ other
least_is_one violation refusal other one two =
    let place : refusal.place ≡ other.place = le_antisymm (one.first other.place other.rule two.stands)
    (two.first refusal.place refusal.rule one.stands) in
    let up : rule_number refusal.rule ≤ rule_number other.rule =
    one.lowest other.rule (subst (λ p. violation p other.rule) (sym place) two.stands) in
    let down : rule_number other.rule ≤ rule_number refusal.rule =
    two.lowest refusal.rule (subst (λ p. violation p refusal.rule) place one.stands) in
    let rule : refusal.rule ≡ other.rule = sym (numbered_rule refusal.rule)
    ∙ ap (λ n. get_or rules_in_order (n - 1) NoScheme) (le_antisymm up down) ∙ numbered_rule other.rule in
    same refusal.place other.place refusal.rule other.rule place rule
  where
    same : (place second : ℕ) (rule next : Rule) → place ≡ second → rule ≡ next
        → refusal_at place rule ≡ refusal_at second next
    same place second rule next places rules = rw (places, rules) refl

-- ---- the answers

-- a valid text has no refusal
pub denoted_is_not_refused : (profile : Profile) (base : Option Url) (text : List ℕ) (url : Url) (refusal : Refusal)
    → Denotes profile base text url → IsRefused profile base text refusal → ⊥
denoted_is_not_refused profile base text url refusal denotes refused =
    let (parts, valid, is) = denotes in
    refused.none parts valid

-- a text has one refusal
pub refusal_is_one : (profile : Profile) (base : Option Url) (text : List ℕ) (refusal other : Refusal)
    → IsRefused profile base text refusal → IsRefused profile base text other → refusal ≡ other
refusal_is_one profile base text refusal other one two = least_is_one _ refusal other one.least two.least

-- whether the refusal that a text has is this one
pub decides_refusal : (profile : Profile) (base : Option Url) (text : List ℕ) (found refusal : Refusal) (answer : Bool)
    → IsRefused profile base text found → Decides answer (found ≡ refusal)
    → Decides answer (IsRefused profile base text refusal)
decides_refusal profile base text found refusal answer is decides = (
  λ yes. subst (λ r. IsRefused profile base text r) (decides.0 yes) is,
  λ refused. decides.1 (refusal_is_one profile base text found refusal is refused),
)

-- a text that has a URL doesn't have the refusal
pub decides_no_refusal : (profile : Profile) (base : Option Url) (text : List ℕ) (url : Url) (refusal : Refusal)
    → Denotes profile base text url → Decides false (IsRefused profile base text refusal)
decides_no_refusal profile base text url refusal denotes = (
  λ yes. absurd (false≢true yes),
  λ refused. absurd (denoted_is_not_refused profile base text url refusal denotes refused),
)

-- ---- the case against its base

-- what is as expected against the URL of the base is what passes against the base's text
pub decides_against : (profile : Profile) (base : Option (Bor (List ℕ))) (url : Option Url) (input : List ℕ)
    (expected : Expectation) (answer : Bool) → IsBase profile base url
    → Decides answer (IsAsExpected profile url input expected)
    → Decides answer (PassesAgainst profile (option_copied base) input expected)
decides_against profile None url input expected answer is decides =
    subst (λ u. Decides answer (IsAsExpected profile u input expected)) is decides
decides_against profile (Some base) url input expected answer (parts, valid, is) decides =
    let denotes : Denotes profile None (chars base.now) (denote None parts) = (parts, valid, refl) in
    let here = subst (λ u. Decides answer (IsAsExpected profile u input expected)) is decides in (
      λ yes. (denote None parts, denotes, here.0 yes),
      λ passes. let (other, again, as_expected) = passes in
          here.1 (subst (λ u. IsAsExpected profile (Some u) input expected)
          (denoted_is_one profile None (chars base.now) other (denote None parts) again denotes) as_expected),
    )

-- against a base that is refused no case passes
pub decides_no_base : (profile : Profile) (base : Option (Bor (List ℕ))) (refusal : Refusal) (input : List ℕ)
    (expected : Expectation) → IsBaseRefused profile base refusal
    → Decides false (PassesAgainst profile (option_copied base) input expected)
decides_no_base profile None refusal input expected refused = absurd refused
decides_no_base profile (Some base) refusal input expected refused = (
  λ yes. absurd (false≢true yes),
  λ passes. absurd (denoted_is_not_refused profile None (chars base.now) passes.0 refusal passes.1 refused),
)
