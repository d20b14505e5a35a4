-- A label that is too long in Unicode is too long in ASCII, since Punycode has no fewer code points than what it
-- stands for (RFC 3492, section 6.2; UTS #46, sections 4.2 and 4.3).
use Rattle.std.proofs.Common.{◌≡◌, ℕ, zero, suc, ◌+◌, ◌-◌, ◌*◌, ◌/◌, ◌%◌, ◌<◌, ◌≤◌, Bool, true, false, not, ◌||◌}
use Rattle.std.proofs.Common.{◌&&◌, ◌==◌, eqb-true, nat_lt, nat_le, List, [], ◌∷◌, length, take, drop, All, IfSome}
use Rattle.std.proofs.Common.{Option, Some, None, option_map, chars, encode_utf8_all, refl, sym, ap, subst, ◌∙◌}
use Rattle.std.proofs.Common.{inl, inr, arith, length-append, length-take, length-drop, ltb-true, lt-ltb}
use Rattle.std.specs.Char.{is_ascii}
use Rattle.std.specs.List.{list_all, list_any, insert, suffix_len}
use Rattle.std.specs.Str.{all_scalars}
use Rattle.std.proofs.lemmas.Bool.{and_from, cases_Bool, cond-true, cond-false}
use Rattle.std.proofs.lemmas.Bool.Decides.{nat_tests}
use Rattle.std.proofs.lemmas.List.Edits.{length-insert}
use Rattle.std.proofs.lemmas.List.Elements.{All-nil, All-cons, All-head, All-tail, All-take, All-drop, All-append}
use Rattle.std.proofs.lemmas.List.Elements.{All-weaker}
use Rattle.std.proofs.lemmas.List.Sums.{AllPass-from_list_all}
use Rattle.std.proofs.lemmas.Option.{none-some, same_Some}
use Rattle.std.proofs.lemmas.Str.{chars-encodes}
use Rattle.idna.specs.declared.deny_list.AsciiDenyList.{AsciiDenyList}
use Rattle.idna.specs.declared.options.Hyphens.{Hyphens}
use Rattle.idna.specs.declared.options.DnsLength.TheVariants.{Ignore}
use Rattle.idna.specs.Display.{IsLowercaseAscii}
use Rattle.idna.specs.Labels.{full_stop, join_labels, labels_of}
use Rattle.idna.specs.Punycode.{adapt, basic_part, decode, digit_value, extended_part, insert_all, is_scalar}
use Rattle.idna.specs.Punycode.{read_integer, threshold}
use Rattle.idna.specs.Uts46.{convert, each, process_utf8, to_ascii, to_unicode, validate}
use Rattle.idna.specs.Validity.{has_ace_prefix, is_all_ascii, is_valid_label, passes_bidi}
use Rattle.idna.proofs.LabelsLemmas.{All-join_labels, All-labels_of, HasNoFullStop, join_labels-labels_of}
use Rattle.idna.proofs.LabelsLemmas.{labels_of-join_labels, labels_of_cons}
use Rattle.idna.proofs.Uts46Lemmas.{All-to_ascii, IsProcessed-process_utf8, IsValid-is_valid_label, convert-ace}
use Rattle.idna.proofs.Uts46Lemmas.{convert-plain, process_utf8-lowercase, to_unicode-to_ascii}
use Rattle.uv_host.specs.FittingForms.{has_long_label, is_long_label}
use Rattle.uv_host.proofs.StrictLemmas.{cases_Option, each-None, each-Some, filtered}

-- ---- what Punycode stands for

-- an integer takes a code point or more
read_fewer : (bias k weight i : ℕ) (input : List ℕ)
    → IfSome (read_integer bias k weight i input) (λ read. length read.1 < length input)
unfolding read_integer
read_fewer bias k weight i [] = tt
read_fewer bias k weight i (c ∷ input) =
    elim (cases_Option (digit_value c)) [
      | inl none ↦ rw none tt
      | inr digit ↦
          let t = threshold bias k in
          let more = read_fewer bias (k + 36) (weight * (36 - t)) (i + digit.0 * weight) input in
          elim (cases_Bool (nat_lt digit.0 t)) [
            | inl last ↦ rw (digit.1, last) (omega arith)
            | inr other ↦ rw (digit.1, other) (later _ more)
          ]
    ]
  where
    later : (o : Option (ℕ × List ℕ)) → IfSome o (λ read. length read.1 < length input)
        → IfSome o (λ read. length read.1 < length (c ∷ input))
    later None h = tt
    later (Some read) h = omega arith

-- scalar values, and at most so many
record Stands (most : ℕ) (label : List ℕ) : Type 0 where
  scalars : All (λ c. is_scalar c ≡ true) label
  few : length label ≤ most

All-insert : (label : List ℕ) (place c : ℕ) → is_scalar c ≡ true → All (λ x. is_scalar x ≡ true) label
    → All (λ x. is_scalar x ≡ true) (insert label place c)
All-insert label place c scalar h =
    let P = λ (x : ℕ). is_scalar x ≡ true in
    All-append P (take place label) (c ∷ drop place label) (All-take P place label h)
    (All-cons P c (drop place label) scalar (All-drop P place label h))

-- each integer adds one scalar value
inserted_stands : (turns n i bias : ℕ) (output input decoded : List ℕ) → All (λ c. is_scalar c ≡ true) output
    → insert_all turns n i bias output input ≡ Some decoded → Stands (length output + length input) decoded
unfolding insert_all
inserted_stands zero n i bias output [] decoded h is =
    subst (Stands (length output + 0)) (same_Some _ _ is) (record { scalars = h; few = omega arith })
inserted_stands (suc turns) n i bias output [] decoded h is =
    subst (Stands (length output + 0)) (same_Some _ _ is) (record { scalars = h; few = omega arith })
inserted_stands zero n i bias output (c ∷ input) decoded h is = absurd (none-some _ is)
inserted_stands (suc turns) n i bias output (c ∷ input) decoded h is =
    elim (cases_Option (read_integer bias 36 1 i (c ∷ input))) [
      | inl none ↦ absurd (none-some decoded (rw none at is))
      | inr read ↦
          let j = read.0.0 in
          let rest = read.0.1 in
          let fewer : length rest < length (c ∷ input) = rw read.1 at (read_fewer bias 36 1 i (c ∷ input)) in
          let count = length output + 1 in
          let point = n + j / count in
          let place = j % count in
          let step = rw read.1 at is in
          elim (cases_Bool (is_scalar point)) [
            | inl scalar ↦
                let more =
                inserted_stands turns point (place + 1) (adapt (j - i) count (i == 0)) (insert output place point) rest
                decoded (All-insert output place point scalar h) (sym (cond-true _ _ None scalar) ∙ step) in
                let longer = length-insert output place point (omega arith) in
                record { scalars = more.scalars; few = omega (arith, more.few) }
            | inr other ↦ absurd (none-some decoded (sym (cond-false _ _ None other) ∙ step))
          ]
    ]

-- the parts have no more code points than the whole
parts_fewer : (input : List ℕ) → length (basic_part input) + length (extended_part input) ≤ length input
parts_fewer input =
    let remaining = suffix_len (λ c. not (c == 0x2D)) input in
    let before = length-take (length input - remaining - 1) input in
    let after = length-drop (length input - remaining) input in
    elim (cases_Bool (length (basic_part input) == 0)) [
      | inl none ↦ rw none (omega (arith, eqb-true _ 0 none))
      | inr some ↦ rw some (omega arith)
    ]

ascii_scalar : (c : ℕ) → is_ascii c ≡ true → is_scalar c ≡ true
ascii_scalar c ascii = grind (arith, nat_tests)

-- what is decoded has scalar values, and no more than its Punycode has code points
decoded_stands : (input decoded : List ℕ) → decode input ≡ Some decoded → Stands (length input) decoded
unfolding decode
decoded_stands input decoded is =
    elim (cases_Bool (list_all is_ascii (basic_part input))) [
      | inl ascii ↦
          let basic =
          All-weaker (λ c. is_ascii c ≡ true) (λ c. is_scalar c ≡ true) ascii_scalar (basic_part input)
          (AllPass-from_list_all is_ascii (basic_part input) ascii) in
          let stands =
          inserted_stands (length input) 128 0 72 (basic_part input) (extended_part input) decoded basic
          (sym (cond-true _ _ None ascii) ∙ is) in
          record { scalars = stands.scalars; few = omega (arith, stands.few, parts_fewer input) }
      | inr other ↦ absurd (none-some decoded (sym (cond-false _ _ None other) ∙ is))
    ]

-- ---- the labels of a form

-- what a part of a form is converted to has no more code points
converted_stands : (part label : List ℕ) → All (λ c. c < 128) part → convert part ≡ Some label
    → Stands (length part) label
converted_stands part label ascii is =
    elim (cases_Bool (has_ace_prefix part)) [
      | inl ace ↦
          let step = sym (convert-ace part ace) ∙ is in
          let test = is_all_ascii part && nat_le (length part - 4) 2000 in
          elim (cases_Bool test) [
            | inl fits ↦
                let decoded =
                filtered (λ it. not (is_all_ascii it)) (decode (drop 4 part)) label
                (sym (cond-true test _ None fits) ∙ step) in
                let stands = decoded_stands (drop 4 part) label decoded.0 in
                record { scalars = stands.scalars; few = omega (arith, stands.few, length-drop 4 part) }
            | inr misfits ↦ absurd (none-some label (sym (cond-false test _ None misfits) ∙ step))
          ]
      | inr plain ↦
          subst (Stands (length part)) (same_Some _ _ (sym (convert-plain part plain) ∙ is))
          (record { scalars = All-weaker (λ c. c < 128) _ small_scalar part ascii; few = omega arith })
    ]
  where
    small_scalar : (c : ℕ) → c < 128 → is_scalar c ≡ true
    small_scalar c small = grind (arith, nat_tests)

-- what a function gives of a list, of its first value and of the others
each-cons : {A B : Type 0} (f : A → Option B) (x : A) (xs : List A) (zs : List B) → each f (x ∷ xs) ≡ Some zs
    → (y : B) × (ys : List B) × (f x ≡ Some y) × (each f xs ≡ Some ys) × (zs ≡ y ∷ ys)
each-cons f x xs zs is =
    elim (cases_Option (f x)) [
      | inl none ↦ absurd (none-some zs (sym (each-None f x xs none) ∙ is))
      | inr first ↦
          elim (cases_Option (each f xs)) [
            | inl none ↦
                absurd (none-some zs (sym (each-Some f x xs first.0 first.1 ∙ ap (option_map (λ ys. first.0 ∷ ys)) none)
                ∙ is))
            | inr rest ↦
                let whole = each-Some f x xs first.0 first.1 ∙ ap (option_map (λ ys. first.0 ∷ ys)) rest.1 in
                (first.0, rest.0, first.1, rest.1, sym (same_Some _ _ (sym whole ∙ is)))
          ]
    ]

-- how many code points labels have with a full stop after each
abbrev points : List (List ℕ) → ℕ
points [] = 0
points (label ∷ labels) = length label + 1 + points labels

-- joined they have one full stop less
joined_points : (first : List ℕ) (others : List (List ℕ))
    → length (join_labels (first ∷ others)) + 1 ≡ points (first ∷ others)
joined_points first [] = omega arith
joined_points first (next ∷ others) =
    omega (arith, joined_points next others, length-append first (full_stop ∷ join_labels (next ∷ others)))

-- labels of scalar values, one of which is too long only if a part is, and with no more code points than the parts
record Stand (parts labels : List (List ℕ)) : Type 0 where
  scalars : All (All (λ c. is_scalar c ≡ true)) labels
  long : list_any is_long_label labels ≡ true → list_any is_long_label parts ≡ true
  few : points labels ≤ points parts

or_kept : (a b c d : Bool) → (a ≡ true → c ≡ true) → (b ≡ true → d ≡ true) → (a || b) ≡ true → (c || d) ≡ true
or_kept true b c d first second is = rw (first refl) refl
or_kept false b true d first second is = refl
or_kept false b false d first second is = second is

long_kept : (part label : List ℕ) → Stands (length part) label → is_long_label label ≡ true
    → is_long_label part ≡ true
long_kept part label stands long = lt-ltb 63 (length part) (omega (arith, stands.few, ltb-true 63 (length label) long))

labels_stand : (deny : AsciiDenyList) (hyphens : Hyphens) (parts labels : List (List ℕ))
    → All (All (λ c. c < 128)) parts → each (validate deny hyphens) parts ≡ Some labels → Stand parts labels
unfolding each
labels_stand deny hyphens [] labels ascii is =
    subst (Stand []) (same_Some _ _ is)
    (record { scalars = All-nil (All (λ c. is_scalar c ≡ true)); long = λ long. long; few = omega arith })
labels_stand deny hyphens (part ∷ parts) labels ascii is =
    let both = each-cons (validate deny hyphens) part parts labels is in
    let label = both.0 in
    let others = both.1 in
    let converted = filtered (is_valid_label deny hyphens) (convert part) label both.2 in
    let stands = converted_stands part label (All-head (All (λ c. c < 128)) part parts ascii) converted.0 in
    let more = labels_stand deny hyphens parts others (All-tail (All (λ c. c < 128)) part parts ascii) both.3 in
    subst (Stand (part ∷ parts)) (sym both.4)
    (record {
      scalars = All-cons (All (λ c. is_scalar c ≡ true)) label others stands.scalars more.scalars;
      long = or_kept _ _ _ _ (long_kept part label stands) more.long;
      few = omega (arith, stands.few, more.few);
    })

all_scalars_from : (label : List ℕ) → All (λ c. is_scalar c ≡ true) label → all_scalars label ≡ true
all_scalars_from [] h = refl
all_scalars_from (c ∷ label) h =
    let first = All-head (λ x. is_scalar x ≡ true) c label h in
    and_from _ _ (grind (arith, nat_tests))
    (all_scalars_from label (All-tail (λ x. is_scalar x ≡ true) c label h))

-- there was a value, and it gave this one
mapped_Some : {A B : Type 0} (f : A → B) (o : Option A) (y : B) → option_map f o ≡ Some y
    → (x : A) × (o ≡ Some x) × (f x ≡ y)
mapped_Some f None y is = absurd (none-some y is)
mapped_Some f (Some x) y is = (x, refl, same_Some _ _ is)

-- a name in Unicode is no longer than its form, and has no longer labels
pub record IsShorter (name form : List ℕ) : Type 0 where
  pub long : has_long_label name ≡ true → has_long_label form ≡ true
  pub few : length name ≤ length form

-- what ToUnicode gives of a text is no longer than what ToASCII gives
pub shown_shorter : (deny : AsciiDenyList) (hyphens : Hyphens) (bytes name form : List ℕ)
    → to_unicode deny hyphens bytes ≡ Some name → to_ascii deny hyphens Ignore bytes ≡ Some form
    → IsShorter (chars name) form
unfolding to_unicode
shown_shorter deny hyphens bytes name form shown is =
    let again = to_unicode-to_ascii deny hyphens Ignore bytes form is ∙ shown in
    let labels = mapped_Some (λ them. encode_utf8_all (join_labels them)) (process_utf8 deny hyphens form) name again in
    let output = All-to_ascii deny hyphens Ignore bytes form is in
    let lower : IsLowercaseAscii form = λ k d lt. ((output k d lt).ascii, (output k d lt).lower) in
    let parts = labels_of_cons form in
    let validated =
    filtered passes_bidi (each (validate deny hyphens) (labels_of form)) labels.0
    (sym (process_utf8-lowercase deny hyphens form lower) ∙ labels.1) in
    let stand =
    labels_stand deny hyphens (labels_of form) labels.0
    (All-labels_of (λ c. c < 128) form (λ k d lt other. (output k d lt).ascii)) validated.0 in
    let processed = IsProcessed-process_utf8 deny hyphens form labels.0 labels.1 in
    let none : All HasNoFullStop labels.0 =
    All-weaker (λ label. is_valid_label deny hyphens label ≡ true) HasNoFullStop
    (λ label valid. (IsValid-is_valid_label deny hyphens label valid).no_full_stop) labels.0 processed.valid in
    let split : labels_of (join_labels labels.0) ≡ labels.0 =
    ap (λ them. labels_of (join_labels them)) processed.some
    ∙ labels_of-join_labels processed.first processed.rest (subst (All HasNoFullStop) processed.some none)
    ∙ sym processed.some in
    let scalars = All-join_labels (λ c. is_scalar c ≡ true) labels.0 refl stand.scalars in
    let spelled : chars name ≡ join_labels labels.0 =
    ap chars (sym labels.2) ∙ chars-encodes (join_labels labels.0) (all_scalars_from _ scalars) in
    record {
      long = λ long. stand.long (sym (ap (list_any is_long_label) (ap labels_of spelled ∙ split)) ∙ long);
      few =
          let whole = ap length (sym (join_labels-labels_of form) ∙ ap join_labels parts.2) in
          let shape = ap length (spelled ∙ ap join_labels processed.some) in
          let ours = joined_points processed.first processed.rest in
          let theirs = joined_points parts.0 parts.1 in
          let fewer = subst (λ them. points them ≤ points (labels_of form)) processed.some stand.few in
          let least =
          subst (λ them. points (processed.first ∷ processed.rest) ≤ points them) parts.2 fewer in
          omega (arith, whole, shape, ours, theirs, least);
    }
