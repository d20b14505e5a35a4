-- The violations of the start, the host, the port and the path's start: one at most, or one of each code point.
use Rattle.std.proofs.Common.{◌≡◌, ◌≢◌, ℕ, ◌⊎◌, Bool, List, [], ◌∷◌, ◌++◌, true, false, not, Option, Some, inl, inr}
use Rattle.std.proofs.Common.{refl}
use Rattle.std.proofs.Common.{sym, ap, ◌∙◌, subst, ◌==◌, eqb-true}
use Rattle.std.specs.Prelude.{◌<◌, ◌+◌, is_some}
use Rattle.std.specs.Char.{is_ascii_digit, is_ascii_alphabetic}
use Rattle.std.specs.List.{list_all}
use Rattle.std.proofs.lemmas.Bool.{and_parts, cases_Bool, false≢true}
use Rattle.uv_model.specs.declared.profile.Profile.{Profile}
use Rattle.uv_model.specs.declared.profile.Profile.TheVariants.{Standard, Wide, Parser}
use Rattle.uv_model.specs.declared.rule.Rule.{Rule}
use Rattle.uv_model.specs.declared.rule.Rule.TheVariants.{NoScheme, OpaqueBase, TwoSlashes, HostMissing, HostIpv6}
use Rattle.uv_model.specs.declared.rule.Rule.TheVariants.{HostCodePoint, Percent, PortDigit, PortRange}
use Rattle.uv_model.specs.declared.rule.Rule.TheVariants.{FirstSegmentEmpty, DriveAfterHost}
use Rattle.uv_model.specs.declared.rule.Refusal.{Refusal}
use Rattle.uv_model.specs.declared.scheme.Class.{Class}
use Rattle.uv_model.specs.declared.scheme.Class.TheVariants.{SpecialNotFile, File, Other}
use Rattle.uv_model.specs.Ascii.{slash}
use Rattle.uv_model.specs.Violations.AllViolations.{AreFaults, ListsViolations}
use Rattle.uv_model.specs.Violations.Violation.{After, Violation, ViolationOf, HasDrive, HasEmptyFirst}
use Rattle.uv_model.specs.Violations.Violation.{HasOpaquePath}
use Rattle.uv_model.specs.Violations.Violation.{ContentViolation, HostContentViolation, HostViolation}
use Rattle.uv_model.specs.Violations.Violation.{CheckedViolation, HostPartViolation, IsStarted, PathStartViolation}
use Rattle.uv_model.specs.Violations.Violation.{PortViolation, PortPartViolation, StartViolation}
use Rattle.uv_model.specs.Cut.{Cut, IsCut, ends_at_host, host_place, path_place, port_place}
use Rattle.uv_model.specs.Hosts.OpaqueHost.{starts_with_bracket}
use Rattle.uv_model.specs.Parts.{Parts}
use Rattle.uv_model.specs.Path.{is_drive_letter}
use Rattle.uv_model.specs.Violations.Refusal.{IsLeast}
use Rattle.uv_model.specs.Violations.Rule.{rule_number}
use Rattle.uv_model.specs.Records.Url.{Url}
use Rattle.uv_model.specs.Setting.{Setting, setting_of}
use Rattle.uv_model.specs.Valid as valid
use Rattle.uv_model.proofs.Violations.AllViolationsLemmas.{contains_here, lists_least, lists_like}
use Rattle.uv_model.proofs.Cuts.CutLemmas.{cut_is_computed}
use Rattle.uv_model.proofs.Violations.ViolationsExcludeParts.{faultless}
use Rattle.uv_model.proofs.Violations.LeastLemmas.{Either, Precedes}
use Rattle.uv_model.proofs.Violations.RefusedLemmas.{FromPort, host_first, path_first, path_start_first, port_first}
use Rattle.uv_model.proofs.Violations.RefusedLemmas.{query_first, start_before_held}
use Rattle.uv_grammar.specs.Faults.{AddsViolations, FirstViolation, fault_list}
use Rattle.uv_grammar.specs.HostValues.{is_scanned}
use Rattle.uv_grammar.specs.declared.checked.Checked.{Checked}
use Rattle.uv_grammar.specs.declared.checked.Checked.TheVariants.{Valid, Refused}
use Rattle.uv_grammar.specs.Checked.{IsChecked, refusal_of}
use Rattle.uv_grammar.specs.PartViolations.{OfFragment, OfPath, OfPathStart, OfQuery}
use Rattle.uv_host.specs.OpaqueHosts.{HostUnitViolation}
use Rattle.uv_grammar.specs.Scan.{DigitViolation}
use Rattle.uv_grammar.proofs.HostLemmas.{empty_rule, content_from_host, one_rule}
use Rattle.uv_grammar.proofs.PortLemmas.{digits_only}
use Rattle.uv_grammar.proofs.ScanLemmas.{HasOneAtMost, adds_both, adds_fault, adds_like}

-- ---- one violation at most

-- after a place as at the start
after_one_at_most : (start : ℕ) (F : ℕ → Rule → Type 0) → HasOneAtMost F → HasOneAtMost (After start F)
after_one_at_most start F only place other rule second h k =
    let same = only h.inner k.inner rule second h.holds k.holds in
    (h.moved ∙ (ap (λ n. start + n) same.0 ∙ sym k.moved), same.1)

-- the rules of the start exclude each other
start_one_at_most : (setting : Setting) (text : List ℕ) (cut : Cut) → HasOneAtMost (StartViolation setting text cut)
start_one_at_most setting text cut place other NoScheme NoScheme h k = (h.2 ∙ sym k.2, refl)
start_one_at_most setting text cut place other OpaqueBase OpaqueBase h k = (h.3 ∙ sym k.3, refl)
start_one_at_most setting text cut place other TwoSlashes TwoSlashes h k = (h.1 ∙ sym k.1, refl)
start_one_at_most setting text cut place other NoScheme OpaqueBase h k =
    absurd (subst (λ (b : Option Url). HasOpaquePath b) h.1 k.1)
start_one_at_most setting text cut place other OpaqueBase NoScheme h k =
    absurd (subst (λ (b : Option Url). HasOpaquePath b) k.1 h.1)
start_one_at_most setting text cut place other NoScheme TwoSlashes h k =
    absurd (false≢true (sym (ap is_some h.0) ∙ k.0.0))
start_one_at_most setting text cut place other TwoSlashes NoScheme h k =
    absurd (false≢true (sym (ap is_some k.0) ∙ h.0.0))
start_one_at_most setting text cut place other OpaqueBase TwoSlashes h k =
    absurd (false≢true (sym (ap is_some h.0) ∙ k.0.0))
start_one_at_most setting text cut place other TwoSlashes OpaqueBase h k =
    absurd (false≢true (sym (ap is_some k.0) ∙ h.0.0))
start_one_at_most setting text cut place other NoScheme _ h k = absurd k
start_one_at_most setting text cut place other OpaqueBase _ h k = absurd k
start_one_at_most setting text cut place other TwoSlashes _ h k = absurd k
start_one_at_most setting text cut place other _ second h k = absurd h

-- a path whose first segment is empty begins with no drive letter
no_drive : (profile : Profile) (path : List ℕ) → HasEmptyFirst profile path → HasDrive profile path → ⊥
no_drive Wide path two drive = two
no_drive Parser path two drive = two
no_drive Standard [] two drive = false≢true two
no_drive Standard (a ∷ []) two drive = false≢true two
no_drive Standard (a ∷ b ∷ []) two drive = false≢true drive
no_drive Standard (a ∷ b ∷ c ∷ []) two drive = false≢true drive
no_drive Standard (a ∷ b ∷ c ∷ d ∷ rest) two drive =
    let is : b ≡ slash = eqb-true b slash (and_parts (a == slash) (b == slash) two).1 in
    let letter = (and_parts (is_drive_letter (b ∷ c ∷ [])) (d == slash) (and_parts (a == slash) _ drive).1).0 in
    let alphabetic = (and_parts (is_ascii_alphabetic b) _ letter).0 in
    false≢true (sym not_alphabetic ∙ (ap is_ascii_alphabetic (sym is) ∙ alphabetic))
  where
    not_alphabetic : is_ascii_alphabetic slash ≡ false
    not_alphabetic = refl

-- the rules of the path's start exclude each other
pub path_start_one_at_most : (setting : Setting) (cut : Cut) → HasOneAtMost (OfPathStart setting cut)
path_start_one_at_most setting cut = after_one_at_most (path_place cut) (PathStartViolation setting cut) only
  where
    only : HasOneAtMost (PathStartViolation setting cut)
    only place other FirstSegmentEmpty FirstSegmentEmpty h k = (h.1 ∙ sym k.1, refl)
    only place other DriveAfterHost DriveAfterHost h k = (h.3 ∙ sym k.3, refl)
    only place other FirstSegmentEmpty DriveAfterHost h k = absurd (no_drive setting.profile cut.path_text h.0 k.2)
    only place other DriveAfterHost FirstSegmentEmpty h k = absurd (no_drive setting.profile cut.path_text k.0 h.2)
    only place other FirstSegmentEmpty _ h k = absurd k
    only place other DriveAfterHost _ h k = absurd k
    only place other _ second h k = absurd h

-- ---- the host

-- a host that isn't checked code point by code point violates one rule
host_one_at_most : (profile : Profile) (class : Class) (last : Bool) (text : List ℕ) (port_text : Option (List ℕ))
    (path_text : List ℕ)
    → is_scanned class text ≡ false → HasOneAtMost (HostViolation profile class last text port_text path_text)
host_one_at_most profile class last [] port_text path_text whole place other rule second h k =
    let one = empty_rule profile class last port_text path_text place rule h in
    let two = empty_rule profile class last port_text path_text other second k in
    (one.2 ∙ sym two.2, one.0 ∙ sym two.0)
host_one_at_most profile class last (c ∷ rest) port_text path_text whole place other rule second h k =
    of_content class whole place other rule second
    (content_from_host profile class last (c ∷ rest) port_text path_text some place rule h)
    (content_from_host profile class last (c ∷ rest) port_text path_text some other second k)
  where
    some : (c ∷ rest) ≢ []
    some same = cc

    bracketed : is_scanned Other (c ∷ rest) ≡ false → starts_with_bracket (c ∷ rest) ≡ true
    bracketed none = elim (cases_Bool (starts_with_bracket (c ∷ rest))) [
      | inl tested ↦ tested
      | inr other ↦ absurd (false≢true (sym none ∙ ap not other))
    ]

    of_content : (class : Class) → is_scanned class (c ∷ rest) ≡ false
        → HasOneAtMost (HostContentViolation profile class last (c ∷ rest))
    of_content SpecialNotFile none place other rule second h k =
        (h.1 ∙ sym k.1, one_rule profile SpecialNotFile last (c ∷ rest) rule second h.0 k.0)
    of_content File none place other rule second h k =
        (h.1 ∙ sym k.1, one_rule profile File last (c ∷ rest) rule second h.0 k.0)
    of_content Other none place other HostIpv6 HostIpv6 h k = (h.1 ∙ sym k.1, refl)
    of_content Other none place other HostCodePoint second h k = absurd (false≢true (sym h.0 ∙ bracketed none))
    of_content Other none place other Percent second h k = absurd (false≢true (sym h.0 ∙ bracketed none))
    of_content Other none place other HostIpv6 HostCodePoint h k = absurd (false≢true (sym k.0 ∙ bracketed none))
    of_content Other none place other HostIpv6 Percent h k = absurd (false≢true (sym k.0 ∙ bracketed none))
    of_content Other none place other HostIpv6 _ h k = absurd k
    of_content Other none place other _ second h k = absurd h

-- the fault of such a host is all that is added
pub host_fault_adds : (setting : Setting) (cut : Cut) (class : Class) (host_text : List ℕ) (before after : List Refusal)
    (fault : Option Refusal) → cut.host_text ≡ Some host_text → class ≡ setting.class
    → is_scanned class host_text ≡ false → IsLeast (HostPartViolation setting cut) fault
    → after ≡ before ++ fault_list fault → AddsViolations (HostPartViolation setting cut) before after
host_fault_adds setting cut class host_text before after fault is same whole least joined =
    adds_fault (HostPartViolation setting cut) before after fault only least joined
  where
    only : HasOneAtMost (HostPartViolation setting cut)
    only = rw is (after_one_at_most (host_place cut) _
        (host_one_at_most setting.profile setting.class (ends_at_host cut) host_text cut.port_text cut.path_text
        (ap (λ k. is_scanned k host_text) (sym same) ∙ whole)))

-- the faults of a host that is checked code point by code point are all that is added
pub host_scan_adds : (setting : Setting) (cut : Cut) (class : Class) (host_text : List ℕ) (before after : List Refusal)
    → cut.host_text ≡ Some host_text → class ≡ setting.class → is_scanned class host_text ≡ true
    → AddsViolations (After (host_place cut) (HostUnitViolation host_text)) before after
    → AddsViolations (HostPartViolation setting cut) before after
host_scan_adds setting cut class host_text before after is same scanned adds =
    rw is (adds_like (After (host_place cut) (HostUnitViolation host_text))
    (After (host_place cut)
    (HostViolation setting.profile setting.class (ends_at_host cut) host_text cut.port_text cut.path_text))
    (λ place rule h. record {
      inner = h.inner;
      moved = h.moved;
      holds =
          to setting.class host_text here h.inner rule h.holds;
    })
    (λ place rule h. record {
      inner = h.inner;
      moved = h.moved;
      holds =
          from setting.class host_text here h.inner rule h.holds;
    })
    before after adds)
  where
    here : is_scanned setting.class host_text ≡ true
    here = ap (λ k. is_scanned k host_text) (sym same) ∙ scanned

    no_bracket : (c : ℕ) (rest : List ℕ) → not (starts_with_bracket (c ∷ rest)) ≡ true
        → starts_with_bracket (c ∷ rest) ≡ false
    no_bracket c rest tested = elim (cases_Bool (starts_with_bracket (c ∷ rest))) [
      | inl bracket ↦ absurd (false≢true (sym (ap not bracket) ∙ tested))
      | inr other ↦ other
    ]

    to : (class : Class) (text : List ℕ) → is_scanned class text ≡ true → (place : ℕ) (rule : Rule)
        → HostUnitViolation text place rule
        → HostViolation setting.profile class (ends_at_host cut) text cut.port_text cut.path_text place rule
    to SpecialNotFile text tested place rule h = absurd (false≢true tested)
    to File text tested place rule h = absurd (false≢true tested)
    to Other [] tested place rule h = absurd (false≢true tested)
    to Other (c ∷ rest) tested place HostCodePoint h = (no_bracket c rest tested, h)
    to Other (c ∷ rest) tested place Percent h = (no_bracket c rest tested, h)
    to Other (c ∷ rest) tested place _ h = absurd h

    from : (class : Class) (text : List ℕ) → is_scanned class text ≡ true → (place : ℕ) (rule : Rule)
        → HostViolation setting.profile class (ends_at_host cut) text cut.port_text cut.path_text place rule
        → HostUnitViolation text place rule
    from SpecialNotFile text tested place rule h = absurd (false≢true tested)
    from File text tested place rule h = absurd (false≢true tested)
    from Other [] tested place rule h = absurd (false≢true tested)
    from Other (c ∷ rest) tested place HostCodePoint h = h.1
    from Other (c ∷ rest) tested place Percent h = h.1
    from Other (c ∷ rest) tested place HostIpv6 h = absurd (false≢true (sym (no_bracket c rest tested) ∙ h.0.bracket))
    from Other (c ∷ rest) tested place HostMissing h = absurd (let none : (c ∷ rest) ≡ [] = h.0.0 in cc)
    from Other (c ∷ rest) tested place _ h = absurd h

-- ---- the port

-- a port of only digits violates at most one rule
port_one_at_most : (text : List ℕ) → list_all is_ascii_digit text ≡ true → HasOneAtMost (PortViolation text)
port_one_at_most text digits place other PortRange PortRange h k = (h.1 ∙ sym k.1, refl)
port_one_at_most text digits place other PortDigit second h k = absurd (digits_only text place digits h)
port_one_at_most text digits place other PortRange PortDigit h k = absurd (digits_only text other digits k)
port_one_at_most text digits place other PortRange _ h k = absurd k
port_one_at_most text digits place other _ second h k = absurd h

-- the fault of digits is all that is added
pub port_fault_adds : (cut : Cut) (host_text port_text : List ℕ) (before after : List Refusal) (fault : Option Refusal)
    → cut.host_text ≡ Some host_text → cut.port_text ≡ Some port_text → list_all is_ascii_digit port_text ≡ true
    → IsLeast (PortPartViolation cut) fault → after ≡ before ++ fault_list fault
    → AddsViolations (PortPartViolation cut) before after
port_fault_adds cut host_text port_text before after fault host port digits least joined =
    adds_fault (PortPartViolation cut) before after fault only least joined
  where
    only : HasOneAtMost (PortPartViolation cut)
    only = rw (host, port) (after_one_at_most (port_place host_text cut) (PortViolation port_text)
        (port_one_at_most port_text digits))

-- the faults of a port that has more than digits are all that is added
pub port_scan_adds : (cut : Cut) (host_text port_text : List ℕ) (before after : List Refusal)
    → cut.host_text ≡ Some host_text → cut.port_text ≡ Some port_text → list_all is_ascii_digit port_text ≡ false
    → AddsViolations (After (port_place host_text cut) (DigitViolation port_text)) before after
    → AddsViolations (PortPartViolation cut) before after
port_scan_adds cut host_text port_text before after host port other adds =
    rw (host, port) (adds_like (After (port_place host_text cut) (DigitViolation port_text))
    (After (port_place host_text cut) (PortViolation port_text))
    (λ place rule h. record { inner = h.inner; moved = h.moved; holds = to h.inner rule h.holds })
    (λ place rule h. record { inner = h.inner; moved = h.moved; holds = from h.inner rule h.holds })
    before after adds)
  where
    to : (place : ℕ) (rule : Rule) → DigitViolation port_text place rule → PortViolation port_text place rule
    to place PortDigit h = h
    to place _ h = absurd h

    from : (place : ℕ) (rule : Rule) → PortViolation port_text place rule → DigitViolation port_text place rule
    from place PortDigit h = h
    from place PortRange h = absurd (false≢true (sym other ∙ h.0.digits))
    from place _ h = absurd h

-- ---- the parts one after another

-- the refusal of a checked part is its least violation
pub checked_least : {A : Type 0} (fits : A → Type 0) (violation : ℕ → Rule → Type 0) (checked : Checked A)
    → IsChecked fits violation checked → IsLeast violation (refusal_of checked)
checked_least fits violation (Valid value) is = is.1
checked_least fits violation (Refused refusal) is = is

-- the host, the port and the path's start
pub checked_adds : (setting : Setting) (cut : Cut) (a b c d : List Refusal)
    → AddsViolations (HostPartViolation setting cut) a b → AddsViolations (PortPartViolation cut) b c
    → AddsViolations (OfPathStart setting cut) c d → AddsViolations (CheckedViolation setting cut) a d
checked_adds setting cut a b c d host port start =
    adds_both (HostPartViolation setting cut) (Either (PortPartViolation cut) (OfPathStart setting cut)) a b d
    (record {
      order = λ place later rule other h k. (host_first setting cut).order place later rule other h
          (onward later other k);
    })
    host
    (adds_both (PortPartViolation cut) (OfPathStart setting cut) b c d
    (record { order = λ place later rule other h k. (port_first setting cut).order place later rule other h (inl k) })
    port start)
  where
    onward : (place : ℕ) (rule : Rule) → Either (PortPartViolation cut) (OfPathStart setting cut) place rule
        → FromPort setting cut place rule
    onward place rule (inl h) = inl h
    onward place rule (inr h) = inr (inl h)

-- what the path, the query and the fragment hold
pub held_adds : (setting : Setting) (cut : Cut) (a b c d : List Refusal) → AddsViolations (OfPath setting cut) a b
    → AddsViolations (OfQuery cut) b c → AddsViolations (OfFragment cut) c d
    → AddsViolations (ContentViolation setting cut) a d
held_adds setting cut a b c d path query fragment =
    adds_both (OfPath setting cut) (Either (OfQuery cut) (OfFragment cut)) a b d (path_first setting cut) path
    (adds_both (OfQuery cut) (OfFragment cut) b c d (query_first cut) query fragment)

-- a text whose start violates a rule
pub start_adds : (setting : Setting) (text : List ℕ) (cut : Cut) (refusal : Refusal) (before after : List Refusal)
    → IsLeast (StartViolation setting text cut) (Some refusal) → after ≡ before ++ fault_list (Some refusal)
    → AddsViolations (FirstViolation setting text cut) before after
start_adds setting text cut refusal before after least joined =
    adds_like (StartViolation setting text cut) (FirstViolation setting text cut)
    (λ place rule h. inl h) from before after
    (adds_fault (StartViolation setting text cut) before after (Some refusal)
    (start_one_at_most setting text cut) least joined)
  where
    from : (place : ℕ) (rule : Rule) → FirstViolation setting text cut place rule
        → StartViolation setting text cut place rule
    from place rule (inl h) = h
    from place rule (inr (started, h)) = absurd (started refusal.place refusal.rule least.stands)

-- and one whose start violates none
pub started_adds : (setting : Setting) (text : List ℕ) (cut : Cut) (before after : List Refusal)
    → IsStarted setting text cut → AddsViolations (CheckedViolation setting cut) before after
    → AddsViolations (FirstViolation setting text cut) before after
started_adds setting text cut before after started adds =
    adds_like (CheckedViolation setting cut) (FirstViolation setting text cut) (λ place rule h. inr (started, h)) from
    before after adds
  where
    from : (place : ℕ) (rule : Rule) → FirstViolation setting text cut place rule
        → CheckedViolation setting cut place rule
    from place rule (inl h) = absurd (started place rule h)
    from place rule (inr (again, h)) = h

-- the first violations are before the violations of what the path, the query and the fragment hold
first_before_held : (setting : Setting) (text : List ℕ) (cut : Cut)
    → Precedes (FirstViolation setting text cut) (ContentViolation setting cut)
first_before_held setting text cut = record { order = order }
  where
    order : (place later : ℕ) (rule other : Rule) → FirstViolation setting text cut place rule
        → ContentViolation setting cut later other
        → (place < later) ⊎ ((place ≡ later) × (rule_number rule < rule_number other))
    order place later rule other (inl start) held =
        (start_before_held setting text cut).order place later rule other start held
    order place later rule other (inr (started, inl host)) held =
        (host_first setting cut).order place later rule other host (inr (inr held))
    order place later rule other (inr (started, inr (inl port))) held =
        (port_first setting cut).order place later rule other port (inr held)
    order place later rule other (inr (started, inr (inr start))) held =
        (path_start_first setting cut).order place later rule other start held

-- a list with no refusal, if there is no violation
no_faults : (profile : Profile) (base : Option Url) (text : List ℕ) (found : List Refusal)
    → ListsViolations (Violation profile base text) found → (parts : Parts) → valid.Valid profile base text parts
    → found ≡ []
no_faults profile base text [] lists parts fits = refl
no_faults profile base text (refusal ∷ rest) lists parts fits =
    absurd (faultless profile base text refusal.place refusal.rule
    ((lists.each refusal).0 (contains_here refusal rest)) parts fits)

-- all the violations of a text
pub all_faults : (profile : Profile) (base : Option Url) (text : List ℕ) (cut : Cut) (setting : Setting)
    (first found : List Refusal)
    → IsCut base text cut → setting ≡ setting_of profile base cut.scheme
    → AddsViolations (FirstViolation setting text cut) [] first
    → AddsViolations (ContentViolation setting cut) first found
    → AreFaults profile base text found
unfolding Violation
all_faults profile base text cut setting first found is made one two =
    let F = Either (FirstViolation setting text cut) (ContentViolation setting cut) in
    let both = adds_both (FirstViolation setting text cut) (ContentViolation setting cut) [] first found
    (first_before_held setting text cut) one two in
    let of_cut : ListsViolations (ViolationOf setting text cut) found
    = subst (λ (l : List Refusal). ListsViolations (ViolationOf setting text cut) l) (sym both.joined)
    (lists_like F (ViolationOf setting text cut) to from both.added both.lists) in
    let lists : ListsViolations (Violation profile base text) found
    = subst (λ (c : Cut). ListsViolations (ViolationOf (setting_of profile base c.scheme) text c) found)
    (cut_is_computed base text cut is)
    (subst (λ (s : Setting). ListsViolations (ViolationOf s text cut) found) made of_cut) in
    record {
      lists = lists;
      least = lists_least (Violation profile base text) found lists;
      none = no_faults profile base text found lists;
    }
  where
    to : (place : ℕ) (rule : Rule) → Either (FirstViolation setting text cut) (ContentViolation setting cut) place rule
        → ViolationOf setting text cut place rule
    to place rule (inl (inl start)) = inl start
    to place rule (inl (inr checked)) = inr (inl checked)
    to place rule (inr held) = inr (inr held)

    from : (place : ℕ) (rule : Rule) → ViolationOf setting text cut place rule
        → Either (FirstViolation setting text cut) (ContentViolation setting cut) place rule
    from place rule (inl start) = inl (inl start)
    from place rule (inr (inl checked)) = inl (inr checked)
    from place rule (inr (inr held)) = inr held
