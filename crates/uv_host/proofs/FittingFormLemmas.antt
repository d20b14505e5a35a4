-- The form that ToASCII gives of a text, if it has the lengths of a domain, and what shows that none has them.
use Rattle.std.proofs.Common.{◌≡◌, ℕ, ◌+◌, ◌-◌, ◌<◌, ◌≤◌, Bool, true, false, ◌||◌, nat_lt}
use Rattle.std.proofs.Common.{List, [], ◌∷◌, ◌++◌, length, take}
use Rattle.std.proofs.Common.{Option, Some, None, Result, Ok, Err, IfOk, MatchOption, option_map, option_and_then}
use Rattle.std.proofs.Common.{chars, encode_utf8_all, map, refl, sym, ap, ap₂, ◌∙◌, inl, inr, arith, length-take}
use Rattle.std.proofs.Common.{ltb-true}
use Rattle.std.specs.Int.{is_in_range}
use Rattle.std.specs.List.{list_all, list_any, slice_index}
use Rattle.std.proofs.lemmas.Bool.{and_left, and_right, cases_Bool, cond-false, cond-true, false≢true, or_right}
use Rattle.std.proofs.lemmas.Bool.Decides.{nat_tests}
use Rattle.std.proofs.lemmas.List.Folds.{list_any-append}
use Rattle.std.proofs.lemmas.Option.{none-some}
use Rattle.idna.specs.declared.deny_list.AsciiDenyList.{AsciiDenyList}
use Rattle.idna.specs.declared.deny_list.TheConstants.AsciiDenyList.{STD3, EMPTY}
use Rattle.idna.specs.declared.options.DnsLength.TheVariants.{Ignore}
use Rattle.idna.specs.declared.options.Hyphens.{Hyphens}
use Rattle.idna.specs.declared.options.Hyphens.TheVariants.{Allow, Check}
use Rattle.idna.specs.BidiRule.{is_bidi_domain}
use Rattle.idna.specs.Display.{shown_label, shown_name, stays_as_it_is, tld_of, to_user_interface}
use Rattle.idna.specs.Labels.{is_full_stop, join_labels, labels_of}
use Rattle.idna.specs.Uts46.{if_passes, process_utf8, to_ascii, to_unicode}
use Rattle.idna.proofs.LabelsLemmas.{join_labels-labels_of}
use Rattle.idna.proofs.Uts46Lemmas.{to_ascii-invalid}
use Rattle.uv_model.specs.declared.profile.Profile.TheVariants.{Standard, Wide}
use Rattle.uv_model.specs.Hosts.Domain.{HasNoForm, IsForm, has_lengths, has_permitted, without_root}
use Rattle.uv_model.proofs.Hosts.DomainLemmas.{IsForm-from, parser_form-is}
use Rattle.uv_host.specs.FittingForms.{fitting_form, has_long_label, is_long_label, is_long_name}
use Rattle.uv_host.proofs.ChainLemmas.{labels_root, root_parts}
use Rattle.uv_host.proofs.LongLabelLemmas.{shown_shorter}
use Rattle.uv_host.proofs.StrictLemmas.{allowed_form, cases_Option, filtered}

-- ---- what a form that is too long is refused for

-- a label that is too long hasn't the length of one
long_misfits : (labels : List (List ℕ)) → list_any is_long_label labels ≡ true
    → list_all (λ label. is_in_range 1 63 (length label)) labels ≡ false
long_misfits [] long = absurd (false≢true long)
long_misfits (label ∷ labels) long =
    elim (cases_Bool (is_long_label label)) [
      | inl here ↦ and_left _ _ (too_many (length label) here)
      | inr other ↦ and_right _ _ (long_misfits labels (rw other at long))
    ]
  where
    too_many : (n : ℕ) → nat_lt 63 n ≡ true → is_in_range 1 63 n ≡ false
    too_many n many = grind (arith, nat_tests)

-- without a full stop at its end the form still has the label
root_long : (form : List ℕ) → has_long_label form ≡ true → has_long_label (without_root form) ≡ true
root_long form long =
    elim (cases_Bool (is_full_stop (slice_index form (length form - 1)))) [
      | inl stop ↦
          let root = take (length form - 1) form in
          let labels = ap labels_of (root_parts form stop) ∙ labels_root root in
          rw stop
          (or_of (list_any is_long_label (labels_of root))
          (sym (list_any-append is_long_label (labels_of root) ([] ∷ []))
          ∙ sym (ap (list_any is_long_label) labels) ∙ long))
      | inr other ↦ rw other long
    ]
  where
    or_of : (b : Bool) → (b || false) ≡ true → b ≡ true
    or_of true is = refl
    or_of false is = is

-- and at most one code point less
root_fewer : (form : List ℕ) → length form ≤ length (without_root form) + 1
root_fewer form =
    elim (cases_Bool (is_full_stop (slice_index form (length form - 1)))) [
      | inl stop ↦ rw stop (omega (arith, length-take (length form - 1) form))
      | inr other ↦ rw other (omega arith)
    ]

-- a form that is too long, or has a label that is, hasn't the lengths of a domain
long_refused : (form : List ℕ) → has_long_label form ≡ true → has_lengths form ≡ false
long_refused form long = and_right _ _ (long_misfits (labels_of (without_root form)) (root_long form long))

many_refused : (form : List ℕ) → 254 < length form → has_lengths form ≡ false
many_refused form many =
    and_left _ _ (too_many (length (without_root form)) (omega (arith, root_fewer form)))
  where
    too_many : (n : ℕ) → 253 < n → is_in_range 1 253 n ≡ false
    too_many n more = grind (arith, nat_tests)

-- so where ToUnicode gives a name that is too long, no form has them
pub long_misfit : (deny : AsciiDenyList) (hyphens : Hyphens) (text name : List ℕ)
    → to_unicode deny hyphens (encode_utf8_all text) ≡ Some name → is_long_name (chars name) ≡ true
    → fitting_form deny hyphens text ≡ None
long_misfit deny hyphens text name shown long =
    elim (cases_Option (to_ascii deny hyphens Ignore (encode_utf8_all text))) [
      | inl none ↦ rw none refl
      | inr form ↦
          let shorter = shown_shorter deny hyphens (encode_utf8_all text) name form.0 shown form.1 in
          let refused : has_lengths form.0 ≡ false =
          elim (cases_Bool (nat_lt 254 (length (chars name)))) [
            | inl many ↦
                many_refused form.0 (omega (arith, shorter.few, ltb-true 254 (length (chars name)) many))
            | inr few ↦ long_refused form.0 (shorter.long (rw few at long))
          ] in
          rw form.1 (cond-false (has_lengths form.0) _ _ refused)
    ]

-- and where it refuses the text, ToASCII gives none
pub refused_misfit : (deny : AsciiDenyList) (hyphens : Hyphens) (text : List ℕ)
    → to_unicode deny hyphens (encode_utf8_all text) ≡ None → fitting_form deny hyphens text ≡ None
unfolding to_unicode
refused_misfit deny hyphens text refused =
    rw (to_ascii-invalid deny hyphens Ignore (encode_utf8_all text) (none (process_utf8 deny hyphens _) refused)) refl
  where
    none : (o : Option (List (List ℕ))) → option_map (λ them. encode_utf8_all (join_labels them)) o ≡ None → o ≡ None
    none None is = refl
    none (Some labels) is = absurd (none-some _ (sym is))

-- ---- ToUnicode by `Uts46::process`

-- the policy that leaves each label in Unicode
abbrev pub each_shown : List ℕ → List ℕ → Bool → Bool
each_shown label tld bidi = true

-- it leaves them all as they are
labels_shown : (tld : List ℕ) (bidi : Bool) (labels : List (List ℕ))
    → map (shown_label each_shown tld bidi) labels ≡ labels
labels_shown tld bidi [] = refl
labels_shown tld bidi (label ∷ labels) =
    ap₂ (◌∷◌) (cond-true _ _ _ (or_right (stays_as_it_is label) true refl)) (labels_shown tld bidi labels)

-- and so the name
name_shown : (bidi : Bool) (name : List ℕ) → shown_name each_shown bidi name ≡ name
unfolding shown_name
name_shown bidi name =
    ap join_labels (labels_shown (tld_of name) bidi (labels_of name)) ∙ join_labels-labels_of name

-- what a user is then shown is what ToUnicode gives
pub in_unicode : (deny : AsciiDenyList) (hyphens : Hyphens) (bytes : List ℕ)
    → to_user_interface each_shown deny hyphens bytes ≡ to_unicode deny hyphens bytes
unfolding to_user_interface to_unicode
in_unicode deny hyphens bytes = each_of (process_utf8 deny hyphens bytes)
  where
    each_of : (o : Option (List (List ℕ)))
        → option_map (λ labels. encode_utf8_all (shown_name each_shown (is_bidi_domain labels) (join_labels labels))) o
        ≡ option_map (λ labels. encode_utf8_all (join_labels labels)) o
    each_of None = refl
    each_of (Some labels) =
        ap (λ name. Some (encode_utf8_all name)) (name_shown (is_bidi_domain labels) (join_labels labels))

-- and a sink that was empty then has it
pub sunk : (deny : AsciiDenyList) (hyphens : Hyphens) (bytes shown old new : List ℕ)
    → to_user_interface each_shown deny hyphens bytes ≡ Some shown → old ≡ [] → new ≡ old ++ shown
    → to_unicode deny hyphens bytes ≡ Some new
sunk deny hyphens bytes shown old new is empty written =
    sym (in_unicode deny hyphens bytes) ∙ is ∙ ap Some (sym (written ∙ ap (λ before. before ++ shown) empty))

-- ---- forms of the written profiles

-- what ToASCII gives with these lengths fits
fitting_from : (deny : AsciiDenyList) (hyphens : Hyphens) (text form : List ℕ)
    → to_ascii deny hyphens Ignore (encode_utf8_all text) ≡ Some form → has_lengths form ≡ true
    → fitting_form deny hyphens text ≡ Some form
fitting_from deny hyphens text form is lengths =
    ap (option_and_then (if_passes has_lengths)) is ∙ cond-true (has_lengths form) _ None lengths

-- what fits ToASCII gives, with these lengths
pub fitting_parts : (deny : AsciiDenyList) (hyphens : Hyphens) (text form : List ℕ)
    → fitting_form deny hyphens text ≡ Some form
    → (to_ascii deny hyphens Ignore (encode_utf8_all text) ≡ Some form) × (has_lengths form ≡ true)
fitting_parts deny hyphens text form fits =
    filtered has_lengths (to_ascii deny hyphens Ignore (encode_utf8_all text)) form fits

-- the form of a text under the standard profile is the one that fits at the strict settings
pub standard_form : {A E : Type 0} (bytes : A → List ℕ) (text : List ℕ) (result : Result (Option A) E)
    → has_permitted Standard text ≡ true
    → IfOk result (λ form. option_map bytes form ≡ fitting_form STD3 Check text)
    → IfOk result (λ form. MatchOption form (HasNoForm Standard text) (λ some. IsForm Standard text (bytes some)))
standard_form bytes text (Err error) permitted fits = fits
standard_form bytes text (Ok None) permitted fits =
    λ form h. none-some form (fits ∙ fitting_from STD3 Check text form h.fits.ascii h.lengths)
standard_form bytes text (Ok (Some some)) permitted fits =
    let parts = fitting_parts STD3 Check text (bytes some) (sym fits) in
    IsForm-from text (bytes some) permitted parts.0 parts.1
    (allowed_form (encode_utf8_all text) (bytes some) parts.0)

-- under the wide profile there is none if none fits at the settings of the URL parser
pub no_wide_form : (text : List ℕ) → fitting_form EMPTY Allow text ≡ None → HasNoForm Wide text
no_wide_form text none form h =
    none-some form (sym none ∙ fitting_from EMPTY Allow text form (sym (parser_form-is text) ∙ h.parsed) h.lengths)
