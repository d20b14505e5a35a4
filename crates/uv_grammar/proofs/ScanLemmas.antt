-- Texts that are checked code point by code point, and lists to which violations are added.
use Rattle.std.proofs.Common.{◌≡◌, ◌≢◌, ℕ, ◌+◌, ◌<◌, ◌≤◌, ◌⊎◌, Bool, List, [], ◌∷◌, ◌++◌, true, false, Option, Some}
use Rattle.std.proofs.Common.{None}
use Rattle.std.proofs.Common.{length, drop, inl, inr, arith, refl, sym, ap, ◌∙◌, subst, append_assoc, append-nil}
use Rattle.std.specs.Str.{chars, IsUtf8}
use Rattle.std.proofs.lemmas.Bool.{false≢true}
use Rattle.std.proofs.lemmas.List.{drop-drop, length-drop}
use Rattle.uv_model.specs.declared.profile.Profile.TheVariants.{Parser}
use Rattle.uv_model.specs.declared.rule.Rule.{Rule}
use Rattle.uv_model.specs.declared.rule.Refusal.{Refusal}
use Rattle.uv_model.specs.declared.rule.Rule.TheVariants.{CodePoint, HostCodePoint, Percent, PortDigit}
use Rattle.uv_model.specs.Violations.AllViolations.{ListsViolations}
use Rattle.uv_model.specs.Ascii.{percent_sign}
use Rattle.uv_model.specs.Violations.Violation.{After, refusal_after}
use Rattle.uv_model.specs.Hosts.OpaqueHost.{is_forbidden_host}
use Rattle.uv_model.specs.Violations.Refusal.{IsLeast}
use Rattle.uv_model.specs.Violations.UnitViolation.{HasBarePercent, IsTakenSpace, PathUnitViolation, UnitViolation}
use Rattle.uv_model.specs.Units.{is_url_code_point}
use Rattle.uv_model.proofs.Violations.AllViolationsLemmas.{IsScan, lists_both, lists_like, lists_none, lists_one}
use Rattle.uv_model.proofs.Violations.AllViolationsLemmas.{lists_scan}
use Rattle.uv_model.proofs.Violations.ViolationLemmas.{unit_violation_bounds, within_text}
use Rattle.uv_model.proofs.Violations.LeastLemmas.{Either, Precedes}
use Rattle.uv_grammar.specs.declared.scan.Scan.{Scan}
use Rattle.uv_grammar.specs.declared.scan.Scan.TheVariants.{Units, SpacedUnits, OpaqueHost, Digits}
use Rattle.uv_grammar.specs.Faults.{AddsViolations, fault_list}
use Rattle.uv_host.specs.OpaqueHosts.{HostUnitViolation}
use Rattle.uv_grammar.specs.Scan.{DigitViolation, ScanViolation}

-- ---- violations of a code point and of what follows it

-- what is at a place is one code point
one_code_point : (text : List ℕ) (place c d : ℕ) (rest more : List ℕ) → drop place text ≡ c ∷ rest
    → drop place text ≡ d ∷ more → c ≡ d
one_code_point text place c d rest more here again = cc

-- a bare `%` after a prefix
percent_after : (prefix : ℕ) (text : List ℕ) (place : ℕ) → HasBarePercent text (prefix + place)
    → HasBarePercent (drop prefix text) place
percent_after prefix text place h =
    record { rest = h.rest; here = drop-drop place prefix text ∙ h.here; bare = h.bare }

percent_whole : (prefix : ℕ) (text : List ℕ) (place : ℕ) → HasBarePercent (drop prefix text) place
    → HasBarePercent text (prefix + place)
percent_whole prefix text place h =
    record { rest = h.rest; here = sym (drop-drop place prefix text) ∙ h.here; bare = h.bare }

pub units_scan : IsScan UnitViolation
units_scan = record { one = one; after = after; whole = whole }
  where
    one : (text : List ℕ) (place : ℕ) (rule other : Rule) → UnitViolation text place rule
        → UnitViolation text place other → rule ≡ other
    one text place CodePoint CodePoint h k = refl
    one text place Percent Percent h k = refl
    one text place CodePoint Percent h k =
        absurd (h.no_escape (one_code_point text place h.code_point percent_sign h.rest k.rest h.here k.here))
    one text place Percent CodePoint h k =
        absurd (k.no_escape (one_code_point text place k.code_point percent_sign k.rest h.rest k.here h.here))
    one text place CodePoint _ h k = absurd k
    one text place Percent _ h k = absurd k
    one text place _ other h k = absurd h

    after : (prefix : ℕ) (text : List ℕ) (place : ℕ) (rule : Rule) → UnitViolation text (prefix + place) rule
        → UnitViolation (drop prefix text) place rule
    after prefix text place CodePoint h = record {
      code_point = h.code_point;
      rest = h.rest;
      here = drop-drop place prefix text ∙ h.here;
      foreign = h.foreign;
      no_escape = h.no_escape;
    }
    after prefix text place Percent h = percent_after prefix text place h
    after prefix text place _ h = absurd h

    whole : (prefix : ℕ) (text : List ℕ) (place : ℕ) (rule : Rule) → UnitViolation (drop prefix text) place rule
        → UnitViolation text (prefix + place) rule
    whole prefix text place CodePoint h = record {
      code_point = h.code_point;
      rest = h.rest;
      here = sym (drop-drop place prefix text) ∙ h.here;
      foreign = h.foreign;
      no_escape = h.no_escape;
    }
    whole prefix text place Percent h = percent_whole prefix text place h
    whole prefix text place _ h = absurd h

percent_allowed : is_forbidden_host percent_sign ≡ false
percent_allowed = refl

-- what no host holds isn't a `%`
foreign_no_percent : (c : ℕ) → (is_forbidden_host c ≡ true) ⊎ ((is_url_code_point c ≡ false) × (c ≢ percent_sign))
    → c ≢ percent_sign
foreign_no_percent c (inl forbidden) same =
    false≢true (sym percent_allowed ∙ (ap is_forbidden_host (sym same) ∙ forbidden))
foreign_no_percent c (inr foreign) same = foreign.1 same

host_scan : IsScan HostUnitViolation
host_scan = record { one = one; after = after; whole = whole }
  where
    one : (text : List ℕ) (place : ℕ) (rule other : Rule) → HostUnitViolation text place rule
        → HostUnitViolation text place other → rule ≡ other
    one text place HostCodePoint HostCodePoint h k = refl
    one text place Percent Percent h k = refl
    one text place HostCodePoint Percent h k =
        absurd (foreign_no_percent h.code_point h.foreign
        (one_code_point text place h.code_point percent_sign h.rest k.rest h.here k.here))
    one text place Percent HostCodePoint h k =
        absurd (foreign_no_percent k.code_point k.foreign
        (one_code_point text place k.code_point percent_sign k.rest h.rest k.here h.here))
    one text place HostCodePoint _ h k = absurd k
    one text place Percent _ h k = absurd k
    one text place _ other h k = absurd h

    after : (prefix : ℕ) (text : List ℕ) (place : ℕ) (rule : Rule) → HostUnitViolation text (prefix + place) rule
        → HostUnitViolation (drop prefix text) place rule
    after prefix text place HostCodePoint h = record {
      code_point = h.code_point;
      rest = h.rest;
      here = drop-drop place prefix text ∙ h.here;
      foreign = h.foreign;
    }
    after prefix text place Percent h = percent_after prefix text place h
    after prefix text place _ h = absurd h

    whole : (prefix : ℕ) (text : List ℕ) (place : ℕ) (rule : Rule) → HostUnitViolation (drop prefix text) place rule
        → HostUnitViolation text (prefix + place) rule
    whole prefix text place HostCodePoint h = record {
      code_point = h.code_point;
      rest = h.rest;
      here = sym (drop-drop place prefix text) ∙ h.here;
      foreign = h.foreign;
    }
    whole prefix text place Percent h = percent_whole prefix text place h
    whole prefix text place _ h = absurd h

digit_scan : IsScan DigitViolation
digit_scan = record { one = one; after = after; whole = whole }
  where
    one : (text : List ℕ) (place : ℕ) (rule other : Rule) → DigitViolation text place rule
        → DigitViolation text place other → rule ≡ other
    one text place PortDigit PortDigit h k = refl
    one text place PortDigit _ h k = absurd k
    one text place _ other h k = absurd h

    after : (prefix : ℕ) (text : List ℕ) (place : ℕ) (rule : Rule) → DigitViolation text (prefix + place) rule
        → DigitViolation (drop prefix text) place rule
    after prefix text place PortDigit h = record {
      code_point = h.code_point;
      rest = h.rest;
      here = drop-drop place prefix text ∙ h.here;
      foreign = h.foreign;
    }
    after prefix text place _ h = absurd h

    whole : (prefix : ℕ) (text : List ℕ) (place : ℕ) (rule : Rule) → DigitViolation (drop prefix text) place rule
        → DigitViolation text (prefix + place) rule
    whole prefix text place PortDigit h = record {
      code_point = h.code_point;
      rest = h.rest;
      here = sym (drop-drop place prefix text) ∙ h.here;
      foreign = h.foreign;
    }
    whole prefix text place _ h = absurd h

-- a space that is taken after a prefix
space_after : (followed : Bool) (prefix : ℕ) (text : List ℕ) (place : ℕ) → IsTakenSpace followed text (prefix + place)
    → IsTakenSpace followed (drop prefix text) place
space_after followed prefix text place h =
    record { rest = h.rest; here = drop-drop place prefix text ∙ h.here; after = h.after }

pub space_whole : (followed : Bool) (prefix : ℕ) (text : List ℕ) (place : ℕ)
    → IsTakenSpace followed (drop prefix text) place → IsTakenSpace followed text (prefix + place)
space_whole followed prefix text place h =
    record { rest = h.rest; here = sym (drop-drop place prefix text) ∙ h.here; after = h.after }

spaced_scan : (followed : Bool) → IsScan (PathUnitViolation Parser true followed)
spaced_scan followed = record {
  one = λ text place rule other h k. units_scan.one text place rule other h.0 k.0;
  after = λ prefix text place rule h. (
    units_scan.after prefix text place rule h.0,
    λ taken. h.1 (space_whole followed prefix text place taken),
  );
  whole = λ prefix text place rule h. (
    units_scan.whole prefix text place rule h.0,
    λ taken. h.1 (space_after followed prefix text place taken),
  );
}

-- each text that is scanned is checked so
pub scan_of : (scan : Scan) → IsScan (ScanViolation scan)
scan_of Units = units_scan
scan_of (SpacedUnits followed) = spaced_scan followed
scan_of OpaqueHost = host_scan
scan_of Digits = digit_scan

-- a fault is within the text
pub scan_within : (scan : Scan) (text : List ℕ) (place : ℕ) (rule : Rule) → ScanViolation scan text place rule
    → place < length text
scan_within Units text place rule h = (unit_violation_bounds text place rule h).0
scan_within (SpacedUnits followed) text place rule h = (unit_violation_bounds text place rule h.0).0
scan_within OpaqueHost text place HostCodePoint h = within_text text place h.code_point h.rest h.here
scan_within OpaqueHost text place Percent h = within_text text place percent_sign h.rest h.here
scan_within Digits text place PortDigit h = within_text text place h.code_point h.rest h.here
scan_within OpaqueHost text place _ h = absurd h
scan_within Digits text place _ h = absurd h

-- ---- what is added to a list

-- no two violations of a part differ
abbrev pub HasOneAtMost : (ℕ → Rule → Type 0) → Type 0
HasOneAtMost F = (place other : ℕ) (rule second : Rule) → F place rule → F other second
    → (place ≡ other) × (rule ≡ second)

-- the one violation, where there is one at most
pub adds_fault : (F : ℕ → Rule → Type 0) (before after : List Refusal) (fault : Option Refusal) → HasOneAtMost F
    → IsLeast F fault → after ≡ before ++ fault_list fault → AddsViolations F before after
adds_fault F before after None only none joined =
    record { added = []; joined = joined; lists = lists_none F none }
adds_fault F before after (Some refusal) only least joined = record {
  added = refusal ∷ [];
  joined = joined;
  lists = lists_one F refusal least.stands
      (λ place rule h. only refusal.place place refusal.rule rule least.stands h);
}

-- the violations of both kinds, one after the other
pub adds_both : (F G : ℕ → Rule → Type 0) (before middle after : List Refusal) → Precedes F G
    → AddsViolations F before middle → AddsViolations G middle after → AddsViolations (Either F G) before after
adds_both F G before middle after first one two = record {
  added = one.added ++ two.added;
  joined =
      two.joined ∙ (ap (λ (l : List Refusal). l ++ two.added) one.joined ∙ append_assoc before one.added two.added);
  lists = lists_both F G one.added two.added first one.lists two.lists;
}

-- violations that are the same
pub adds_like : (F G : ℕ → Rule → Type 0) → ((place : ℕ) (rule : Rule) → F place rule → G place rule)
    → ((place : ℕ) (rule : Rule) → G place rule → F place rule) → (before after : List Refusal)
    → AddsViolations F before after → AddsViolations G before after
adds_like F G to from before after adds =
    record { added = adds.added; joined = adds.joined; lists = lists_like F G to from adds.added adds.lists }

-- ---- a scan

-- where what is left of a text is scanned, the list has all violations of the text
pub record ScansOn (scan : Scan) (start : ℕ) (text : List ℕ) (before found : List Refusal) (here : ℕ) (left : List ℕ)
    : Type 0 where
  pub utf8 : IsUtf8 left
  pub inside : here + length (chars left) ≤ start + length (chars text)
  pub rest : (list : List Refusal) → ListsViolations (After here (ScanViolation scan (chars left))) list
      → AddsViolations (After start (ScanViolation scan (chars text))) before (found ++ list)

-- after a fault
pub scan_goes_on : (scan : Scan) (start : ℕ) (text : List ℕ) (before found after : List Refusal) (here : ℕ)
    (left next : List ℕ) (refusal : Refusal) → ScansOn scan start text before found here left → IsUtf8 next
    → IsLeast (ScanViolation scan (chars left)) (Some refusal) → after ≡ found ++ refusal_after here refusal ∷ []
    → chars next ≡ drop (refusal.place + 1) (chars left)
    → ScansOn scan start text before after (here + (refusal.place + 1)) next
scan_goes_on scan start text before found after here left next refusal held utf8 least pushed is_next = record {
  utf8 = utf8;
  inside = inside;
  rest = rest;
}
  where
    inside : here + (refusal.place + 1) + length (chars next) ≤ start + length (chars text)
    inside =
        let within = scan_within scan (chars left) refusal.place refusal.rule least.stands in
        let shorter = ap length is_next ∙ length-drop (refusal.place + 1) (chars left) in
        let all = held.inside in
        omega arith

    rest : (list : List Refusal)
        → ListsViolations (After (here + (refusal.place + 1)) (ScanViolation scan (chars next))) list
        → AddsViolations (After start (ScanViolation scan (chars text))) before (after ++ list)
    rest list is =
        let F = ScanViolation scan in
        let later = subst (λ (s : List ℕ). ListsViolations (After (here + (refusal.place + 1)) (F s)) list) is_next
        is in
        let all = held.rest (refusal_after here refusal ∷ list)
        (lists_scan F (scan_of scan) here (chars left) refusal list least later) in
        subst (λ (l : List Refusal). AddsViolations (After start (F (chars text))) before l)
        (sym (ap (λ (l : List Refusal). l ++ list) pushed ∙ append_assoc found (refusal_after here refusal ∷ []) list))
        all

-- and if no fault is left
pub scan_ends : (scan : Scan) (start : ℕ) (text : List ℕ) (before found : List Refusal) (here : ℕ) (left : List ℕ)
    → ScansOn scan start text before found here left → IsLeast (ScanViolation scan (chars left)) None
    → AddsViolations (After start (ScanViolation scan (chars text))) before found
scan_ends scan start text before found here left held none =
    subst (λ (l : List Refusal). AddsViolations (After start (ScanViolation scan (chars text))) before l)
    (append-nil found)
    (held.rest [] (lists_none (After here (ScanViolation scan (chars left)))
    (λ place rule h. none h.inner rule h.holds)))
