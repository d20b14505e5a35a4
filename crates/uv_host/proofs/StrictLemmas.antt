-- ToASCII at its strict settings compared with the URL parser's, after UTS #46, section 4.
use Rattle.std.proofs.Common.{◌≡◌, ℕ, Bool, true, false, not, ◌&&◌, List, [], ◌∷◌, Option, Some, None, refl, sym, ap}
use Rattle.std.proofs.Common.{◌∙◌, ◌⊎◌, inl, inr, chars, option_map, option_and_then, if◌then◌else◌}
use Rattle.std.specs.List.{list_all, list_any}
use Rattle.std.specs.Str.{is_utf8}
use Rattle.std.proofs.lemmas.Bool.{and_parts, cases_Bool, false≢true, cond-true, cond-false}
use Rattle.std.proofs.lemmas.List.Elements.{All-weaker}
use Rattle.std.proofs.lemmas.List.Sums.{AllPass-from_list_all, list_all-from_AllPass}
use Rattle.std.proofs.lemmas.Option.{cond_some, none-some}
use Rattle.idna.specs.declared.deny_list.TheConstants.AsciiDenyList.{STD3, EMPTY}
use Rattle.idna.specs.declared.options.Hyphens.TheVariants.{Allow, Check}
use Rattle.idna.specs.declared.options.DnsLength.TheVariants.{Ignore}
use Rattle.idna.specs.AsciiDenyList.{denies}
use Rattle.idna.specs.ContextJ.{passes_context_j}
use Rattle.idna.specs.Display.{IsLowercaseAscii}
use Rattle.idna.specs.Labels.{is_full_stop, labels_of}
use Rattle.idna.specs.Uts46.{if_passes, convert, validate, each, process, process_utf8, to_ascii}
use Rattle.idna.specs.Validity.{has_ace_prefix, passes_hyphens, begins_with_mark, is_valid_char, is_short}
use Rattle.idna.specs.Validity.{passes_in_nfc, is_valid_label, passes_bidi}
use Rattle.idna.proofs.Uts46Lemmas.{convert-plain, has_ace_prefix-passes, process_utf8-lowercase, to_ascii-invalid}
use Rattle.idna.proofs.Uts46Lemmas.{to_ascii-processed}
use Rattle.idna.proofs.ValidityLemmas.{denies-EMPTY}

-- ---- a function that may fail, over a list

-- there is a value or none
pub cases_Option : {A : Type 0} (o : Option A) → (o ≡ None) ⊎ ((x : A) × (o ≡ Some x))
cases_Option None = inl refl
cases_Option (Some x) = inr (x, refl)

-- what comes through a filter came before it, and passes
pub filtered : {A : Type 0} (test : A → Bool) (o : Option A) (y : A) → option_and_then (if_passes test) o ≡ Some y
    → (o ≡ Some y) × (test y ≡ true)
filtered test None y is = absurd (none-some y is)
filtered test (Some x) y is = let parts = cond_some (test x) x y is in (ap Some parts.1, rw parts.1 at parts.0)

-- where the function fails at the first value, it fails over the list
pub each-None : {A B : Type 0} (f : A → Option B) (x : A) (xs : List A) → f x ≡ None → each f (x ∷ xs) ≡ None
unfolding each
each-None f x xs none = ap (option_and_then (λ z. option_map (λ ys. z ∷ ys) (each f xs))) none

-- and else the rest decides
pub each-Some : {A B : Type 0} (f : A → Option B) (x : A) (xs : List A) (y : B) → f x ≡ Some y
    → each f (x ∷ xs) ≡ option_map (λ ys. y ∷ ys) (each f xs)
unfolding each
each-Some f x xs y is = ap (option_and_then (λ z. option_map (λ ys. z ∷ ys) (each f xs))) is

map_weaker : {B : Type 0} (y : B) (o p : Option (List B)) (zs : List B)
    → ((ys : List B) → o ≡ Some ys → p ≡ Some ys) → option_map (λ ys. y ∷ ys) o ≡ Some zs
    → option_map (λ ys. y ∷ ys) p ≡ Some zs
map_weaker y None p zs h is = absurd (none-some zs is)
map_weaker y (Some ys) p zs h is = ap (option_map (λ ys. y ∷ ys)) (h ys refl) ∙ is

-- what a function gives over a list is given by another function that agrees with it on each value
each_weaker : {A B : Type 0} (f g : A → Option B) → ((x : A) (y : B) → f x ≡ Some y → g x ≡ Some y)
    → (xs : List A) (ys : List B) → each f xs ≡ Some ys → each g xs ≡ Some ys
unfolding each
each_weaker f g h [] ys is = is
each_weaker f g h (x ∷ xs) zs is =
    elim (cases_Option (f x)) [
      | inl none ↦ absurd (none-some zs (sym (each-None f x xs none) ∙ is))
      | inr y ↦
          each-Some g x xs y.0 (h x y.0 y.1)
          ∙ map_weaker y.0 (each f xs) (each g xs) zs (each_weaker f g h xs) (sym (each-Some f x xs y.0 y.1) ∙ is)
    ]

-- ---- what the strict settings take

-- a code point that the strict settings take is taken without a list
allowed_char : (c : ℕ) → is_valid_char STD3 c ≡ true → is_valid_char EMPTY c ≡ true
unfolding is_valid_char
allowed_char c valid =
    let parts = and_parts _ (not (denies STD3 c)) valid in
    rw (parts.0, denies-EMPTY c) refl

allowed_chars : (label : List ℕ) → list_all (is_valid_char STD3) label ≡ true
    → list_all (is_valid_char EMPTY) label ≡ true
allowed_chars label valid =
    list_all-from_AllPass (is_valid_char EMPTY) label
    (All-weaker (λ c. is_valid_char STD3 c ≡ true) (λ c. is_valid_char EMPTY c ≡ true) allowed_char label
    (AllPass-from_list_all (is_valid_char STD3) label valid))

-- hyphens that the strict settings take begin no `xn--`
pub allowed_hyphens : (label : List ℕ) → passes_hyphens Check label ≡ true → passes_hyphens Allow label ≡ true
unfolding passes_hyphens
allowed_hyphens label placed = rw (has_ace_prefix-passes Check label placed) refl

-- a label that the strict settings take is taken at the URL parser's settings
allowed_in_nfc : (label : List ℕ) → passes_in_nfc STD3 Check label ≡ true → passes_in_nfc EMPTY Allow label ≡ true
unfolding passes_in_nfc
allowed_in_nfc label valid =
    let five = and_parts _ (is_short label) valid in
    let four = and_parts _ (passes_context_j label) five.0 in
    let three = and_parts _ (list_all (is_valid_char STD3) label) four.0 in
    let two = and_parts _ (not (begins_with_mark label)) three.0 in
    let one = and_parts (passes_hyphens Check label) (not (list_any is_full_stop label)) two.0 in
    rw (allowed_hyphens label one.0, one.1, two.1, allowed_chars label three.1, four.1, five.1) refl

second_kept : (a b c : Bool) → (b ≡ true → c ≡ true) → (a && b) ≡ true → (a && c) ≡ true
second_kept true b c h is = h is
second_kept false b c h is = is

allowed_label : (label : List ℕ) → is_valid_label STD3 Check label ≡ true → is_valid_label EMPTY Allow label ≡ true
allowed_label label valid =
    second_kept _ (passes_in_nfc STD3 Check label) (passes_in_nfc EMPTY Allow label) (allowed_in_nfc label) valid

allowed_conversion : (label form : List ℕ) → validate STD3 Check label ≡ Some form
    → validate EMPTY Allow label ≡ Some form
allowed_conversion label form valid =
    let parts = filtered (is_valid_label STD3 Check) (convert label) form valid in
    rw (parts.0, allowed_label form parts.1) refl

allowed_labels : (name : List ℕ) (labels : List (List ℕ)) → process STD3 Check name ≡ Some labels
    → process EMPTY Allow name ≡ Some labels
unfolding process
allowed_labels name labels is =
    let parts = filtered passes_bidi _ labels is in
    rw (each_weaker (validate STD3 Check) (validate EMPTY Allow) allowed_conversion _ labels parts.0, parts.1) refl

allowed_utf8 : (bytes : List ℕ) (labels : List (List ℕ)) → process_utf8 STD3 Check bytes ≡ Some labels
    → process_utf8 EMPTY Allow bytes ≡ Some labels
allowed_utf8 bytes labels is =
    elim (cases_Bool (is_utf8 bytes)) [
      | inl text ↦
          cond-true _ _ None text ∙ allowed_labels (chars bytes) labels (sym (cond-true _ _ None text) ∙ is)
      | inr other ↦ absurd (none-some _ (sym (cond-false _ _ None other) ∙ is))
    ]

-- what ToASCII gives at its strict settings it gives at the URL parser's settings
pub allowed_form : (bytes form : List ℕ) → to_ascii STD3 Check Ignore bytes ≡ Some form
    → to_ascii EMPTY Allow Ignore bytes ≡ Some form
allowed_form bytes form strict =
    elim (cases_Option (process_utf8 STD3 Check bytes)) [
      | inl none ↦ absurd (none-some _ (sym (to_ascii-invalid STD3 Check Ignore bytes none) ∙ strict))
      | inr labels ↦
          to_ascii-processed EMPTY Allow bytes labels.0 (allowed_utf8 bytes labels.0 labels.1)
          ∙ (sym (to_ascii-processed STD3 Check bytes labels.0 labels.1) ∙ strict)
    ]

-- ---- what they refuse

-- a label without `xn--` whose hyphens the strict settings refuse
refused_label : (label : List ℕ) → has_ace_prefix label ≡ false → passes_hyphens Check label ≡ false
    → validate STD3 Check label ≡ None
unfolding passes_in_nfc
refused_label label plain placed = rw (convert-plain label plain, placed) (none _)
  where
    none : (b : Bool) → (if (b && false) then Some label else None) ≡ None
    none true = refl
    none false = refl

-- so labels without `xn--` aren't valid where the hyphens of one are refused
refused_labels : (labels : List (List ℕ)) → list_all (passes_hyphens Allow) labels ≡ true
    → list_all (passes_hyphens Check) labels ≡ false → each (validate STD3 Check) labels ≡ None
refused_labels [] plain placed = absurd (false≢true (sym placed))
refused_labels (label ∷ rest) plain placed =
    let plains = and_parts (passes_hyphens Allow label) (list_all (passes_hyphens Allow) rest) plain in
    elim (cases_Bool (passes_hyphens Check label)) [
      | inl passes ↦
          let later = refused_labels rest plains.1 (rw passes at placed) in
          elim (cases_Option (validate STD3 Check label)) [
            | inl none ↦ each-None (validate STD3 Check) label rest none
            | inr form ↦
                each-Some (validate STD3 Check) label rest form.0 form.1
                ∙ ap (option_map (λ forms. form.0 ∷ forms)) later
          ]
      | inr fails ↦
          each-None (validate STD3 Check) label rest
          (refused_label label (has_ace_prefix-passes Allow label plains.0) fails)
    ]

-- so ToASCII at its strict settings refuses a name in lower case of such labels
pub refused_name : (name : List ℕ) → IsLowercaseAscii name → list_all (passes_hyphens Allow) (labels_of name) ≡ true
    → list_all (passes_hyphens Check) (labels_of name) ≡ false → to_ascii STD3 Check Ignore name ≡ None
refused_name name lower plain placed =
    to_ascii-invalid STD3 Check Ignore name
    (process_utf8-lowercase STD3 Check name lower
    ∙ ap (option_and_then (if_passes passes_bidi)) (refused_labels (labels_of name) plain placed))
