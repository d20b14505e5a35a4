-- Opaque paths of the parser's profile, checked from one violation of units to the next.
use Rattle.std.proofs.Common.{◌≡◌, ◌≢◌, ℕ, ◌+◌, ◌-◌, ◌<◌, ◌≤◌, Bool, true, false, List, [], ◌∷◌, drop, length, Option}
use Rattle.std.proofs.Common.{Some, None, sym, ap, subst, ◌∙◌, arith, inl, inr, refl, zero, suc, eqb-true, ◌==◌}
use Rattle.std.specs.Str.{IsUtf8, chars}
use Rattle.std.specs.List.{prefix_len}
use Rattle.std.proofs.lemmas.Bool.{cases_Bool, cases_order, false≢true}
use Rattle.std.proofs.lemmas.Str.{encodes-chars}
use Rattle.std.proofs.lemmas.Str.{encodes-chars, length-le-encodes}
use Rattle.std.proofs.lemmas.List.{drop-drop, length-drop}
use Rattle.std.proofs.lemmas.List.Sums.{prefix_len-le-length}
use Rattle.uv_model.specs.declared.profile.Profile.{Profile}
use Rattle.uv_model.specs.declared.profile.Profile.TheVariants.{Standard, Wide, Parser}
use Rattle.uv_model.specs.declared.rule.Rule.{Rule}
use Rattle.uv_model.specs.declared.rule.Refusal.{Refusal}
use Rattle.uv_model.specs.Ascii.{space}
use Rattle.uv_model.specs.Cut.{Cut, is_followed, path_place}
use Rattle.uv_model.specs.Setting.{Setting}
use Rattle.uv_model.specs.Violations.Refusal.{IsLeast}
use Rattle.uv_model.specs.Violations.UnitViolation.{IsTakenSpace, PathUnitViolation, UnitViolation, only_spaces}
use Rattle.uv_model.specs.Violations.Violation.{After, PathContentViolation, fault_after, has_opaque_path}
use Rattle.uv_model.proofs.Violations.LeastLemmas.{least_after}
use Rattle.uv_model.proofs.Violations.RefusalLemmas.{IsLeast-like}
use Rattle.uv_grammar.specs.Faults.{AddsViolations}
use Rattle.uv_grammar.specs.PartViolations.{OfPath}
use Rattle.uv_grammar.specs.Scan.{ScanViolation}
use Rattle.uv_grammar.specs.declared.scan.Scan.{Scan}
use Rattle.uv_grammar.specs.SpacedPaths.{IsTakenRun, is_space, may_be_spaced, path_scan, units_or_spaced}
use Rattle.uv_grammar.proofs.ScanLemmas.{adds_like, units_scan}

-- ---- which violations are asked for

-- what a path is scanned for are the violations of what it holds
scan_to_path : (profile : Profile) (opaque followed : Bool) (text : List ℕ) (place : ℕ) (rule : Rule)
    → ScanViolation (units_or_spaced (may_be_spaced profile opaque) followed) text place rule
    → PathUnitViolation profile opaque followed text place rule
scan_to_path Standard opaque followed text place rule h = h
scan_to_path Wide opaque followed text place rule h = h
scan_to_path Parser false followed text place rule h = h
scan_to_path Parser true followed text place rule h = h

path_to_scan : (profile : Profile) (opaque followed : Bool) (text : List ℕ) (place : ℕ) (rule : Rule)
    → PathUnitViolation profile opaque followed text place rule
    → ScanViolation (units_or_spaced (may_be_spaced profile opaque) followed) text place rule
path_to_scan Standard opaque followed text place rule h = h
path_to_scan Wide opaque followed text place rule h = h
path_to_scan Parser false followed text place rule h = h
path_to_scan Parser true followed text place rule h = h

-- the least of them, counted from the text's start
pub path_least : (setting : Setting) (cut : Cut) (scan : Scan) (text : List ℕ) (least : Option Refusal)
    → scan ≡ path_scan setting cut → text ≡ cut.path_text → IsLeast (ScanViolation scan text) least
    → IsLeast (OfPath setting cut) (fault_after (path_place cut) least)
path_least setting cut scan text least is same found =
    least_after (path_place cut) (PathContentViolation setting cut) least
    (IsLeast-like (ScanViolation (path_scan setting cut) cut.path_text) (PathContentViolation setting cut)
    (scan_to_path setting.profile (has_opaque_path setting.class cut) (is_followed cut) cut.path_text)
    (path_to_scan setting.profile (has_opaque_path setting.class cut) (is_followed cut) cut.path_text) least
    (rw (is, same) at found))

-- and all of them
pub path_adds : (setting : Setting) (cut : Cut) (scan : Scan) (start : ℕ) (text : List ℕ)
    (before after : List Refusal)
    → scan ≡ path_scan setting cut → start ≡ path_place cut → text ≡ cut.path_text
    → AddsViolations (After start (ScanViolation scan text)) before after
    → AddsViolations (OfPath setting cut) before after
path_adds setting cut scan start text before after is place same adds =
    adds_like (After (path_place cut) (ScanViolation (path_scan setting cut) cut.path_text)) (OfPath setting cut)
    (λ place rule h. record {
      inner = h.inner;
      moved = h.moved;
      holds = scan_to_path setting.profile (has_opaque_path setting.class cut) (is_followed cut) cut.path_text h.inner
          rule h.holds;
    })
    (λ place rule h. record {
      inner = h.inner;
      moved = h.moved;
      holds = path_to_scan setting.profile (has_opaque_path setting.class cut) (is_followed cut) cut.path_text h.inner
          rule h.holds;
    })
    before after (rw (is, place, same) at adds)

-- ---- spaces at the start

-- what follows the spaces of a text that begins with a space follows those after it
after_one : (c : ℕ) (rest : List ℕ) (n : ℕ) → drop (1 + n) (c ∷ rest) ≡ drop n rest
after_one c rest n = sym (drop-drop n 1 (c ∷ rest))

-- spaces that something else follows aren't all of the text
others_follow : (text : List ℕ) → drop (prefix_len is_space text) text ≢ [] → only_spaces text ≡ false
others_follow [] some = absurd (some refl)
others_follow (c ∷ rest) some = elim (cases_Bool (c == space)) [
  | inl same ↦
      let further = rw same at some in
      rw same (others_follow rest (λ none. further (after_one c rest (prefix_len is_space rest) ∙ none)))
  | inr other ↦ rw other refl
]

-- the first of the spaces is taken, and those after it are if they are of what follows
taken_from : (followed : Bool) (c : ℕ) (rest : List ℕ) (i : ℕ) → c ≡ space → i < 1 + prefix_len is_space rest
    → (followed ≡ false → drop (prefix_len is_space rest) rest ≢ [])
    → ((k : ℕ) → k < prefix_len is_space rest → IsTakenSpace followed rest k) → IsTakenSpace followed (c ∷ rest) i
taken_from followed c rest zero is within some later =
    record { rest = rest; here = ap (λ d. d ∷ rest) is; after = λ alone. others_follow rest (some alone) }
taken_from followed c rest (suc i) is within some later =
    let next = later i (omega arith) in
    record { rest = next.rest; here = next.here; after = next.after }

-- each of the spaces at the start is taken, if a query or a fragment follows, or another code point after them
taken_run : (followed : Bool) (text : List ℕ) → (followed ≡ false → drop (prefix_len is_space text) text ≢ [])
    → (i : ℕ) → i < prefix_len is_space text → IsTakenSpace followed text i
taken_run followed [] some i within = absurd (omega arith)
taken_run followed (c ∷ rest) some i within = elim (cases_Bool (c == space)) [
  | inl same ↦
      let further = rw same at some in
      let after : followed ≡ false → drop (prefix_len is_space rest) rest ≢ []
      = λ alone none. further alone (after_one c rest (prefix_len is_space rest) ∙ none) in
      taken_from followed c rest i (eqb-true c space same) (rw same at within) after (taken_run followed rest after)
  | inr other ↦ (let none = rw other at within in absurd (omega arith))
]

-- a text that doesn't begin with a space has none that is taken at its start
none_taken : (followed : Bool) (text : List ℕ) → prefix_len is_space text ≡ 0 → ¬ (IsTakenSpace followed text 0)
none_taken followed text none taken =
    let counted : prefix_len is_space (space ∷ taken.rest) ≡ 0 = ap (prefix_len is_space) (sym taken.here) ∙ none in
    absurd (omega arith)

-- a text that ends with its first spaces has only spaces
ends_with_them : (text : List ℕ) → drop (prefix_len is_space text) text ≡ [] → only_spaces text ≡ true
ends_with_them [] none = refl
ends_with_them (c ∷ rest) none = elim (cases_Bool (c == space)) [
  | inl same ↦
      let further = rw same at none in
      rw same (ends_with_them rest (sym (after_one c rest (prefix_len is_space rest)) ∙ further))
  | inr other ↦ (let whole : c ∷ rest ≡ [] = rw other at none in absurd cc)
]

-- and of spaces that nothing follows none is taken
none_taken_at_end : (followed : Bool) (text : List ℕ) → followed ≡ false → drop (prefix_len is_space text) text ≡ []
    → ¬ (IsTakenSpace followed text 0)
none_taken_at_end followed text alone ends taken =
    let all : drop (prefix_len is_space (space ∷ taken.rest)) (space ∷ taken.rest) ≡ []
    = ap (λ xs. drop (prefix_len is_space xs) xs) (sym taken.here) ∙ ends in
    let rest = ends_with_them taken.rest (sym (after_one space taken.rest (prefix_len is_space taken.rest)) ∙ all) in
    false≢true (sym (taken.after alone) ∙ rest)

-- all spaces at the start, where they are taken
pub run_taken : (followed : Bool) (text : List ℕ) (count : ℕ) → count ≡ prefix_len is_space text
    → (followed ≡ false → drop count text ≢ []) → IsTakenRun followed text count
run_taken followed text count is some = record {
  fits = (let within = prefix_len-le-length is_space text in omega arith);
  taken = λ i within. taken_run followed text (rw is at some) i (rw is at within);
  none = λ nothing. none_taken followed text (sym is ∙ nothing);
}

-- and none of them, where they end the text
pub run_ends : (followed : Bool) (text : List ℕ) (count : ℕ) → count ≡ prefix_len is_space text → followed ≡ false
    → ((drop count text ≢ []) → ⊥) → IsTakenRun followed text 0
run_ends followed text count is alone none = record {
  fits = omega arith;
  taken = λ i within. absurd (omega arith);
  none = λ _. none_taken_at_end followed text alone (let ends = empty (drop count text) none in rw is at ends);
}
  where
    empty : (xs : List ℕ) → ((xs ≢ []) → ⊥) → xs ≡ []
    empty [] not = refl
    empty (c ∷ rest) not = absurd (not (λ e. cc))

-- ---- from one violation of units to the next

-- a text that a slice holds has no more code points than bytes
pub chars_fewer : (bytes : List ℕ) → IsUtf8 bytes → length (chars bytes) ≤ length bytes
chars_fewer bytes utf8 =
    let shorter = length-le-encodes (chars bytes) in
    let spelled = ap length (encodes-chars bytes utf8) in
    omega arith

-- what is left of the text is after so many code points, and no violation is before it
pub record SpacedOn (followed : Bool) (text : List ℕ) (here : ℕ) (left : List ℕ) : Type 0 where
  pub after : left ≡ drop here text
  pub inside : here + length left ≤ length text
  pub quiet : (place : ℕ) (rule : Rule) → PathUnitViolation Parser true followed text place rule → here ≤ place

-- a violation after so many code points is one of what is left
in_left : (followed : Bool) (text : List ℕ) (here : ℕ) (left : List ℕ) → SpacedOn followed text here left
    → (place : ℕ) (rule : Rule) → PathUnitViolation Parser true followed text place rule
    → UnitViolation left (place - here) rule
in_left followed text here left on place rule h =
    let first = on.quiet place rule h in
    let same : place ≡ here + (place - here) = omega arith in
    rw on.after (units_scan.after here text (place - here) rule
    (subst (λ (n : ℕ). UnitViolation text n rule) same h.0))

-- a violation of units that isn't a space which is taken is the least violation
pub spaced_found : (followed : Bool) (text : List ℕ) (here : ℕ) (left : List ℕ) (refusal : Refusal)
    → SpacedOn followed text here left → IsLeast (UnitViolation left) (Some refusal)
    → ¬ (IsTakenSpace followed (drop refusal.place left) 0)
    → IsLeast (PathUnitViolation Parser true followed text)
    (Some (record { place = here + refusal.place; rule = refusal.rule }))
spaced_found followed text here left refusal on least foreign = record {
  stands = (whole, λ taken. foreign (moved taken));
  first = λ place rule h.
      (let first = least.first (place - here) rule (in_left followed text here left on place rule h) in
      let later = on.quiet place rule h in
      omega arith);
  lowest = λ rule h.
      (let inner = in_left followed text here left on (here + refusal.place) rule h in
      let same : here + refusal.place - here ≡ refusal.place = omega arith in
      least.lowest rule (subst (λ (n : ℕ). UnitViolation left n rule) same inner));
}
  where
    whole : UnitViolation text (here + refusal.place) refusal.rule
    whole = units_scan.whole here text refusal.place refusal.rule (rw (← on.after) least.stands)

    moved : IsTakenSpace followed text (here + refusal.place) → IsTakenSpace followed (drop refusal.place left) 0
    moved taken = record {
      rest = taken.rest;
      here = rw on.after (drop-drop refusal.place here text ∙ taken.here);
      after = taken.after;
    }

-- after spaces that are taken
pub spaced_goes_on : (followed : Bool) (text : List ℕ) (here : ℕ) (left found next : List ℕ) (refusal : Refusal)
    (spaces : ℕ) → SpacedOn followed text here left → IsLeast (UnitViolation left) (Some refusal)
    → found ≡ drop refusal.place left → next ≡ drop spaces found → refusal.place < length left
    → IsTakenRun followed found spaces
    → SpacedOn followed text (here + (refusal.place + spaces)) next
spaced_goes_on followed text here left found next refusal spaces on least is_found is_next within run = record {
  after = is_next ∙ ap (drop spaces) is_found ∙ drop-drop spaces refusal.place left
      ∙ ap (drop (refusal.place + spaces)) on.after ∙ drop-drop (refusal.place + spaces) here text;
  inside =
      let shorter = ap length is_next ∙ length-drop spaces found in
      let seen = ap length is_found ∙ length-drop refusal.place left in
      let all = on.inside in
      let fits = run.fits in
      omega arith;
  quiet = λ place rule h. elim (cases_order (place - here) refusal.place) [
    | inl same ↦ at_or_after place rule h (omega arith)
    | inr (inl less) ↦
        let first = least.first (place - here) rule (in_left followed text here left on place rule h) in
        absurd (omega arith)
    | inr (inr more) ↦ at_or_after place rule h (omega arith)
  ];
}
  where
    at_space : (place i : ℕ) → place ≡ here + (refusal.place + i) → i < spaces → IsTakenSpace followed text place
    at_space place i stands less =
        let here_taken = run.taken i less in
        rw stands (record {
          rest = here_taken.rest;
          here = sym (drop-drop (refusal.place + i) here text) ∙ ap (drop (refusal.place + i)) (sym on.after)
              ∙ sym (drop-drop i refusal.place left) ∙ ap (drop i) (sym is_found) ∙ here_taken.here;
          after = here_taken.after;
        })

    not_within : (place : ℕ) (rule : Rule) → PathUnitViolation Parser true followed text place rule
        → refusal.place ≤ place - here → place - here - refusal.place < spaces → ⊥
    not_within place rule h far less =
        let later = on.quiet place rule h in
        h.1 (at_space place (place - here - refusal.place) (omega arith) less)

    at_or_after : (place : ℕ) (rule : Rule) → PathUnitViolation Parser true followed text place rule
        → refusal.place ≤ place - here → here + (refusal.place + spaces) ≤ place
    at_or_after place rule h far =
        let later = on.quiet place rule h in
        elim (cases_order (place - here - refusal.place) spaces) [
          | inl same ↦ omega arith
          | inr (inl less) ↦ absurd (not_within place rule h far less)
          | inr (inr more) ↦ omega arith
        ]

-- and if no violation of units is left
pub spaced_ends : (followed : Bool) (text : List ℕ) (here : ℕ) (left : List ℕ) → SpacedOn followed text here left
    → IsLeast (UnitViolation left) None → IsLeast (PathUnitViolation Parser true followed text) None
spaced_ends followed text here left on none place rule h =
    none (place - here) rule (in_left followed text here left on place rule h)
