-- What the test before the parser machine's first step says of a text, and which texts pass it: no code point of theirs
-- is a tab or a newline, and neither the first nor the last is a C0 control or a space.
use Rattle.std.proofs.Common.{◌≡◌, ℕ, ◌+◌, Bool, true, false, ◌&&◌, ◌||◌, ◌==◌, List, [], ◌∷◌, ◌++◌, None, refl}
use Rattle.std.proofs.Common.{sym, ◌∙◌, append-nil, eqb-true, inl, inr, arith}
use Rattle.std.specs.Prelude.{nat_le}
use Rattle.std.specs.List.{list_all, list_any}
use Rattle.std.proofs.lemmas.Bool.{and_parts, cases_Bool, or_from, or_parts}
use Rattle.std.proofs.lemmas.Bool.Decides.{nat_tests}
use Rattle.std.proofs.Math.Bool.{and-false, and-true}
use Rattle.std.proofs.lemmas.Option.{none-some}
use Rattle.uv_model.specs.Ascii.{space}
use Rattle.uv_model.specs.Hosts.StoppedHost.{ends_with_control}
use Rattle.uv_model.specs.Path.{ends_with_space, is_spaced}
use Rattle.uv_model.specs.Removed.{are_controls, first_removed, is_tab_or_newline, removed_after}
use Rattle.uv_model.specs.Units.{is_unit_at}
use Rattle.uv_parser.proofs.Running.Unremoved.{is_unremoved, unremoved_unit_at}

-- no code point of the text is a tab or a newline
abbrev pub IsUntabbed : List ℕ → Type 0
IsUntabbed text = list_any is_tab_or_newline text ≡ false

-- Nor is the last a C0 control or a space.
pub record IsKept (text : List ℕ) : Type 0 where
  pub untabbed : IsUntabbed text
  pub end : ends_with_control text ≡ false

-- the text begins with a C0 control or a space
abbrev pub starts_with_control : List ℕ → Bool
starts_with_control [] = false
starts_with_control (c ∷ rest) = nat_le c 0x20

-- ---- what the test says

-- after the first place
after_is_kept : (p : ℕ) (text : List ℕ) → removed_after p text ≡ None → IsKept text
after_is_kept p [] kept = record { untabbed = refl; end = refl }
after_is_kept p (c ∷ rest) kept =
    elim (cases_Bool (is_tab_or_newline c || (nat_le c 0x20 && are_controls rest))) [
      | inl removed ↦ absurd (none-some p (sym (rw removed at kept)))
      | inr stays ↦
          let (tab, control) = or_parts (is_tab_or_newline c) (nat_le c 0x20 && are_controls rest) stays in
          let later = after_is_kept (p + 1) rest (rw stays at kept) in
          record { untabbed = or_from _ _ tab later.untabbed; end = ends rest control later.end }
    ]
  where
    ends : (rest : List ℕ) → (nat_le c 0x20 && are_controls rest) ≡ false → ends_with_control rest ≡ false
        → ends_with_control (c ∷ rest) ≡ false
    ends [] control end = sym (and-true (nat_le c 0x20)) ∙ control
    ends (next ∷ rest) control end = end

-- of the whole text
pub text_is_kept : (text : List ℕ) → first_removed text ≡ None → IsKept text
unfolding first_removed
text_is_kept [] kept = record { untabbed = refl; end = refl }
text_is_kept (c ∷ rest) kept =
    elim (cases_Bool (is_tab_or_newline c || nat_le c 0x20)) [
      | inl removed ↦ absurd (none-some 0 (sym (rw removed at kept)))
      | inr stays ↦
          let (tab, control) = or_parts (is_tab_or_newline c) (nat_le c 0x20) stays in
          let later = after_is_kept 1 rest (rw stays at kept) in
          record { untabbed = or_from _ _ tab later.untabbed; end = ends rest control later.end }
    ]
  where
    ends : (rest : List ℕ) → nat_le c 0x20 ≡ false → ends_with_control rest ≡ false
        → ends_with_control (c ∷ rest) ≡ false
    ends [] control end = control
    ends (next ∷ rest) control end = end

-- ---- what passes the test

-- what doesn't end with a C0 control or a space has something else
not_controls : (c : ℕ) (rest : List ℕ) → ends_with_control (c ∷ rest) ≡ false
    → (nat_le c 0x20 && are_controls rest) ≡ false
not_controls c [] end = and-true (nat_le c 0x20) ∙ end
not_controls c (next ∷ rest) end = rw (not_controls next rest end) (and-false (nat_le c 0x20))

-- nor does what follows its first code point
later_end : (c : ℕ) (rest : List ℕ) → ends_with_control (c ∷ rest) ≡ false → ends_with_control rest ≡ false
later_end c [] end = refl
later_end c (next ∷ rest) end = end

-- after the first place
after_passes : (p : ℕ) (text : List ℕ) → IsKept text → removed_after p text ≡ None
after_passes p [] is = refl
after_passes p (c ∷ rest) is =
    let parts = or_parts (is_tab_or_newline c) (list_any is_tab_or_newline rest) is.untabbed in
    let stays : (is_tab_or_newline c || (nat_le c 0x20 && are_controls rest)) ≡ false
    = or_from _ _ parts.0 (not_controls c rest is.end) in
    rw stays (after_passes (p + 1) rest (record { untabbed = parts.1; end = later_end c rest is.end }))

-- the whole text
pub kept_passes : (text : List ℕ) → starts_with_control text ≡ false → IsKept text → first_removed text ≡ None
unfolding first_removed
kept_passes [] start is = refl
kept_passes (c ∷ rest) start is =
    let parts = or_parts (is_tab_or_newline c) (list_any is_tab_or_newline rest) is.untabbed in
    let stays : (is_tab_or_newline c || nat_le c 0x20) ≡ false = or_from _ _ parts.0 start in
    rw stays (after_passes 1 rest (record { untabbed = parts.1; end = later_end c rest is.end }))

-- ---- one text after another

-- without a tab or a newline are both or neither
pub untabbed_append : (xs ys : List ℕ) → IsUntabbed xs → IsUntabbed ys → IsUntabbed (xs ++ ys)
untabbed_append [] ys first second = second
untabbed_append (c ∷ xs) ys first second =
    let parts = or_parts (is_tab_or_newline c) (list_any is_tab_or_newline xs) first in
    or_from _ _ parts.0 (untabbed_append xs ys parts.1 second)

-- so the parts of a text are such where the text is
pub untabbed_parts : (xs ys : List ℕ) → IsUntabbed (xs ++ ys) → IsUntabbed xs × IsUntabbed ys
untabbed_parts [] ys is = (refl, is)
untabbed_parts (c ∷ xs) ys is =
    let parts = or_parts (is_tab_or_newline c) (list_any is_tab_or_newline (xs ++ ys)) is in
    let later = untabbed_parts xs ys parts.1 in
    (or_from _ _ parts.0 later.0, later.1)

-- a text ends as its second part does, if that isn't empty
control_after : (xs : List ℕ) (c : ℕ) (ys : List ℕ)
    → ends_with_control (xs ++ (c ∷ ys)) ≡ ends_with_control (c ∷ ys)
control_after [] c ys = refl
control_after (x ∷ []) c ys = refl
control_after (x ∷ next ∷ xs) c ys = control_after (next ∷ xs) c ys

-- a text is kept where its parts are; the first may end with a control or a space where something follows
pub kept_append : (xs ys : List ℕ) → IsUntabbed xs → IsKept ys → (ys ≡ [] → ends_with_control xs ≡ false)
    → IsKept (xs ++ ys)
kept_append xs ys first second alone =
    record { untabbed = untabbed_append xs ys first second.untabbed; end = ends ys second.end alone }
  where
    ends : (ys : List ℕ) → ends_with_control ys ≡ false → (ys ≡ [] → ends_with_control xs ≡ false)
        → ends_with_control (xs ++ ys) ≡ false
    ends [] end alone = rw (append-nil xs) (alone refl)
    ends (c ∷ ys) end alone = control_after xs c ys ∙ end

-- what is after another part is kept where the whole is
pub kept_after : (xs ys : List ℕ) → IsKept (xs ++ ys) → IsKept ys
kept_after xs ys is =
    record { untabbed = (untabbed_parts xs ys is.untabbed).1; end = ends ys is.end }
  where
    ends : (ys : List ℕ) → ends_with_control (xs ++ ys) ≡ false → ends_with_control ys ≡ false
    ends [] end = refl
    ends (c ∷ ys) end = sym (control_after xs c ys) ∙ end

-- and so is what nothing follows
pub kept_before : (xs ys : List ℕ) → IsKept (xs ++ ys) → ys ≡ [] → IsKept xs
kept_before xs ys is nothing = rw (nothing, append-nil xs) at is

-- ---- texts that are kept

-- a code point above U+0020 isn't a tab and no newline
above_no_tab : (c : ℕ) → is_unremoved c ≡ true → is_tab_or_newline c ≡ false
above_no_tab c above = grind (arith, nat_tests)

-- nor a C0 control or a space
above_no_control : (c : ℕ) → is_unremoved c ≡ true → nat_le c 0x20 ≡ false
above_no_control c above = grind (arith, nat_tests)

-- a text of such code points is kept
pub above_is_kept : (text : List ℕ) → list_all is_unremoved text ≡ true → IsKept text
above_is_kept [] above = record { untabbed = refl; end = refl }
above_is_kept (c ∷ []) above =
    let here = (and_parts (is_unremoved c) true above).0 in
    record { untabbed = or_from _ _ (above_no_tab c here) refl; end = above_no_control c here }
above_is_kept (c ∷ next ∷ rest) above =
    let parts = and_parts (is_unremoved c) (list_all is_unremoved (next ∷ rest)) above in
    let later = above_is_kept (next ∷ rest) parts.1 in
    record { untabbed = or_from _ _ (above_no_tab c parts.0) later.untabbed; end = later.end }

-- and begins with no control and no space
pub above_starts : (text : List ℕ) → list_all is_unremoved text ≡ true → starts_with_control text ≡ false
above_starts [] above = refl
above_starts (c ∷ rest) above = above_no_control c (and_parts (is_unremoved c) (list_all is_unremoved rest) above).0

-- ---- units and spaces

-- a space isn't a tab and no newline
spaced_no_tab : (c : ℕ) (rest : List ℕ) → ((c == space) || is_unit_at c rest) ≡ true → is_tab_or_newline c ≡ false
spaced_no_tab c rest is =
    elim (cases_Bool (c == space)) [
      | inl same ↦ rw (eqb-true c space same) refl
      | inr other ↦ above_no_tab c (unremoved_unit_at c rest (rw other at is))
    ]

-- units and spaces have no tab and no newline
pub spaced_untabbed : (text : List ℕ) → is_spaced text ≡ true → IsUntabbed text
spaced_untabbed [] is = refl
spaced_untabbed (c ∷ rest) is =
    let parts = and_parts ((c == space) || is_unit_at c rest) (is_spaced rest) is in
    or_from _ _ (spaced_no_tab c rest parts.0) (spaced_untabbed rest parts.1)

-- and the only C0 control or space at their end is a space
pub spaced_ends : (text : List ℕ) → is_spaced text ≡ true → ends_with_space text ≡ false
    → ends_with_control text ≡ false
spaced_ends [] is end = refl
spaced_ends (c ∷ []) is end =
    let here : is_unit_at c [] ≡ true = rw end at (and_parts ((c == space) || is_unit_at c []) true is).0 in
    above_no_control c (unremoved_unit_at c [] here)
spaced_ends (c ∷ next ∷ rest) is end =
    let after = (and_parts ((c == space) || is_unit_at c (next ∷ rest)) (is_spaced (next ∷ rest)) is).1 in
    spaced_ends (next ∷ rest) after end

-- a space is such a code point
control_no_space : (c : ℕ) → nat_le c 0x20 ≡ false → (c == space) ≡ false
control_no_space c above = grind (arith, nat_tests)

-- a text that ends with no C0 control and no space ends with no space
pub ends_without_space : (text : List ℕ) → ends_with_control text ≡ false → ends_with_space text ≡ false
ends_without_space [] end = refl
ends_without_space (c ∷ []) end = control_no_space c end
ends_without_space (c ∷ next ∷ rest) end = ends_without_space (next ∷ rest) end
