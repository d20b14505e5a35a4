-- Whether a label of a name is too long, found by going over its code points once.
use Rattle.std.proofs.Common.{◌≡◌, ℕ, ◌+◌, ◌<◌, ◌≤◌, Bool, true, false, ◌||◌, nat_lt, List, [], ◌∷◌}
use Rattle.std.proofs.Common.{◌++◌, length, get_or, take, drop, refl, sym, ap, ◌∙◌, inl, inr, arith, if◌then◌else◌}
use Rattle.std.proofs.Common.{append-nil, append_assoc, le-ltb, lt-ltb, take-append-drop}
use Rattle.std.specs.List.{list_any, onto_first}
use Rattle.std.proofs.lemmas.Bool.{cases_Bool, cond-false, cond-true}
use Rattle.std.proofs.lemmas.List.{drop_more}
use Rattle.idna.specs.Labels.{is_full_stop, labels_of}
use Rattle.idna.proofs.LabelsLemmas.{labels_of_cons, slice_split-no, slice_split-yes}
use Rattle.uv_host.specs.FittingForms.{has_long_label, is_long_label}

-- after so many code points of a label it goes on to be too long, or a label after it is
abbrev pub is_long_after : ℕ → List ℕ → Bool
is_long_after count [] = nat_lt 63 count
is_long_after count (c ∷ rest) =
    if is_full_stop c then nat_lt 63 count || is_long_after 0 rest else is_long_after (count + 1) rest

-- one of these labels is too long, where so many code points of the first are before what is given of it
abbrev goes_long : ℕ → List (List ℕ) → Bool
goes_long count [] = false
goes_long count (first ∷ others) = nat_lt 63 (count + length first) || list_any is_long_label others

-- the first label begins after nothing
goes_from_start : (labels : List (List ℕ)) → goes_long 0 labels ≡ list_any is_long_label labels
goes_from_start [] = refl
goes_from_start (first ∷ others) =
    let same : 0 + length first ≡ length first = omega arith in
    ap (λ n. nat_lt 63 n || list_any is_long_label others) same

or-false : (b : Bool) → b ≡ (b || false)
or-false true = refl
or-false false = refl

-- a code point adds to the first label
goes_onto : (count c : ℕ) (first : List ℕ) (others : List (List ℕ))
    → goes_long (count + 1) (first ∷ others) ≡ goes_long count (onto_first c (first ∷ others))
goes_onto count c first others =
    let same : count + 1 + length first ≡ count + length (c ∷ first) = omega arith in
    ap (λ n. nat_lt 63 n || list_any is_long_label others) same

-- going over the code points tells what the labels do
after_labels : (count : ℕ) (name : List ℕ) → is_long_after count name ≡ goes_long count (labels_of name)
after_labels count [] =
    let same : count ≡ count + 0 = omega arith in
    ap (nat_lt 63) same ∙ or-false (nat_lt 63 (count + 0))
after_labels count (c ∷ rest) =
    let parts = labels_of_cons rest in
    elim (cases_Bool (is_full_stop c)) [
      | inl stop ↦
          let same : count ≡ count + 0 = omega arith in
          cond-true (is_full_stop c) _ _ stop
          ∙ ap (λ b. nat_lt 63 count || b) (after_labels 0 rest ∙ goes_from_start (labels_of rest))
          ∙ ap (λ n. nat_lt 63 n || list_any is_long_label (labels_of rest)) same
          ∙ ap (goes_long count) (sym (slice_split-yes is_full_stop c rest stop))
      | inr other ↦
          cond-false (is_full_stop c) _ _ other
          ∙ after_labels (count + 1) rest
          ∙ ap (goes_long (count + 1)) parts.2
          ∙ goes_onto count c parts.0 parts.1
          ∙ ap (goes_long count) (ap (onto_first c) (sym parts.2) ∙ sym (slice_split-no is_full_stop c rest other))
    ]

-- from the start of a name that is whether one of its labels is too long
pub long_from_start : (name : List ℕ) → is_long_after 0 name ≡ has_long_label name
long_from_start name = after_labels 0 name ∙ goes_from_start (labels_of name)

-- a label that is too long stays so
long_already : (count : ℕ) (rest : List ℕ) → 63 < count → is_long_after count rest ≡ true
long_already count [] long = lt-ltb 63 count long
long_already count (c ∷ rest) long =
    elim (cases_Bool (is_full_stop c)) [
      | inl stop ↦ cond-true (is_full_stop c) _ _ stop ∙ ap (λ b. b || is_long_after 0 rest) (lt-ltb 63 count long)
      | inr other ↦ cond-false (is_full_stop c) _ _ other ∙ long_already (count + 1) rest (omega arith)
    ]

-- the code points before leave this count for the label that goes on
abbrev pub LeavesCount : List ℕ → ℕ → Type 0
LeavesCount before count = (rest : List ℕ) → is_long_after 0 (before ++ rest) ≡ is_long_after count rest

-- another code point adds to the label
pub more_of_label : (before : List ℕ) (c count : ℕ) → is_full_stop c ≡ false → LeavesCount before count
    → LeavesCount (before ++ c ∷ []) (count + 1)
more_of_label before c count other left rest =
    ap (is_long_after 0) (append_assoc before (c ∷ []) rest) ∙ left (c ∷ rest)
    ∙ cond-false (is_full_stop c) _ _ other

-- a full stop ends a label that isn't too long
pub end_of_label : (before : List ℕ) (c count : ℕ) → is_full_stop c ≡ true → count ≤ 63 → LeavesCount before count
    → LeavesCount (before ++ c ∷ []) 0
end_of_label before c count stop few left rest =
    ap (is_long_after 0) (append_assoc before (c ∷ []) rest) ∙ left (c ∷ rest)
    ∙ cond-true (is_full_stop c) _ _ stop ∙ ap (λ b. b || is_long_after 0 rest) (le-ltb 63 count few)

-- after 63 code points of a label another one is too many
pub long_here : (name before : List ℕ) (c count : ℕ) → before ≡ take (length before) name
    → length before < length name → c ≡ get_or name (length before) c → count ≡ 63 → is_full_stop c ≡ false
    → LeavesCount before count → has_long_label name ≡ true
long_here name before c count so_far within read full other left =
    let n = length before in
    let rest = drop (n + 1) name in
    let parts : name ≡ before ++ c ∷ rest =
    sym (take-append-drop n name)
    ∙ ap (λ xs. xs ++ drop n name) (sym so_far)
    ∙ ap (λ xs. before ++ xs) (drop_more name n c within ∙ ap (λ x. x ∷ rest) (sym read)) in
    sym (long_from_start name) ∙ ap (is_long_after 0) parts ∙ left (c ∷ rest)
    ∙ cond-false (is_full_stop c) _ _ other ∙ long_already (count + 1) rest (omega arith)

-- and if no label had so many, none is too long
pub none_long : (name before : List ℕ) (count : ℕ) → before ≡ name → count ≤ 63 → LeavesCount before count
    → has_long_label name ≡ false
none_long name before count whole few left =
    sym (long_from_start name) ∙ ap (is_long_after 0) (sym whole ∙ sym (append-nil before)) ∙ left []
    ∙ le-ltb 63 count few
