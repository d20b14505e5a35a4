-- Letters and digits with single marks between them are a plain name.
use Rattle.std.proofs.Math.Nat.{le_refl}
use Rattle.std.proofs.Common.{take_all, length-append, ◌≡◌, ℕ, suc, ◌-◌, ◌≤◌, Bool, true, false, ◌&&◌, ◌==◌, List, []}
use Rattle.std.proofs.Common.{◌∷◌, ◌++◌, length, take, get_or, IsUtf8, chars, refl, sym, ap, ◌∙◌, subst, inl, inr}
use Rattle.std.proofs.Common.{arith, eqb-true}
use Rattle.std.specs.Prelude.{slice_index}
use Rattle.std.specs.Str.{IsAscii}
use Rattle.std.specs.Int.{is_in_range}
use Rattle.std.specs.List.{list_all, onto_first}
use Rattle.std.proofs.lemmas.Bool.{and_parts, and_from, cases_Bool, false≢true}
use Rattle.std.proofs.lemmas.Bool.Decides.{nat_tests}
use Rattle.std.proofs.Math.Seq.{take-suc}
use Rattle.idna.specs.declared.deny_list.TheConstants.AsciiDenyList.{STD3}
use Rattle.idna.specs.declared.options.Hyphens.TheVariants.{Check}
use Rattle.idna.specs.Display.{IsPlain}
use Rattle.idna.specs.Labels.{is_full_stop, labels_of}
use Rattle.idna.specs.Validity.{passes_hyphens}
use Rattle.idna.proofs.LabelsLemmas.{labels_of_cons}
use Rattle.uv_model.specs.Ascii.{full_stop, hyphen}
use Rattle.uv_model.specs.declared.profile.Profile.{Profile}
use Rattle.uv_model.specs.declared.profile.Profile.TheVariants.{Standard}
use Rattle.uv_model.specs.Hosts.Domain.{IsForm, has_lengths, is_form_code_point, without_root}
use Rattle.uv_host.specs.PlainNames.{goes_on, is_chain, is_rooted_chain, is_sign}
use Rattle.uv_host.proofs.ParserFormLemmas.{fits_from_lengths}
use Rattle.uv_host.proofs.PlainLemmas.{plain_ascii, plain_from_form, plain_is_form}

chain_parts : (signed : Bool) (c : ℕ) (rest : List ℕ) → is_chain signed (c ∷ rest) ≡ true
    → (goes_on signed c ≡ true) × (is_chain (is_sign c) rest ≡ true)
chain_parts signed c rest h = and_parts (goes_on signed c) (is_chain (is_sign c) rest) h

form_byte : (signed : Bool) (c : ℕ) → goes_on signed c ≡ true → is_form_code_point Standard c ≡ true
form_byte true c h = grind (arith, nat_tests)
form_byte false c h = grind (arith, nat_tests)

-- a chain holds only a form's code points
pub chain_form : (signed : Bool) (text : List ℕ) → is_chain signed text ≡ true
    → list_all (is_form_code_point Standard) text ≡ true
chain_form signed [] h = refl
chain_form signed (c ∷ rest) h =
    let parts = chain_parts signed c rest h in
    and_from _ _ (form_byte signed c parts.0) (chain_form (is_sign c) rest parts.1)

-- no mark is a letter or a digit
no_hyphen_sign : is_sign hyphen ≡ false
no_hyphen_sign = refl

pub no_stop_sign : is_sign full_stop ≡ false
no_stop_sign = refl

-- ---- labels

-- each is such a name of no more code points
abbrev AreChains : ℕ → List (List ℕ) → Type 0
AreChains n [] = Unit {0}
AreChains n (label ∷ rest) = (is_chain false label ≡ true) × (length label ≤ n) × AreChains n rest

-- and the first goes on from what is before
abbrev GoOn : Bool → ℕ → List (List ℕ) → Type 0
GoOn signed n [] = ⊥
GoOn signed n (label ∷ rest) = (is_chain signed label ≡ true) × (length label ≤ n) × AreChains n rest

AreChains-more : (n : ℕ) (labels : List (List ℕ)) → AreChains n labels → AreChains (suc n) labels
AreChains-more n [] h = tt
AreChains-more n (label ∷ rest) h = let small = h.1 in (h.0, omega arith, AreChains-more n rest h.2)

GoOn-first : (signed : Bool) (c n : ℕ) (labels : List (List ℕ)) → goes_on signed c ≡ true
    → GoOn (is_sign c) n labels
    → GoOn signed (suc n) (onto_first c labels)
GoOn-first signed c n [] goes h = absurd h
GoOn-first signed c n (label ∷ rest) goes h =
    let small = h.1 in (and_from _ _ goes h.0, omega arith, AreChains-more n rest h.2)

GoOn-stop : (signed : Bool) (n : ℕ) (labels : List (List ℕ)) → goes_on signed full_stop ≡ true
    → GoOn false n labels
    → GoOn signed (suc n) ([] ∷ labels)
GoOn-stop true n [] goes h = absurd h
GoOn-stop false n labels goes h = absurd (false≢true (rw no_stop_sign at goes))
GoOn-stop true n (label ∷ rest) goes h =
    let small = h.1 in (refl, omega arith, (h.0, omega arith, AreChains-more n rest h.2))

chain_labels : (signed : Bool) (text : List ℕ) → is_chain signed text ≡ true
    → GoOn signed (length text) (labels_of text)
chain_labels signed [] h = (h, omega arith, tt)
chain_labels signed (c ∷ rest) h =
    let parts = chain_parts signed c rest h in
    let more = chain_labels (is_sign c) rest parts.1 in
    elim (cases_Bool (is_full_stop c)) [
      | inl stop ↦
          let same : c ≡ full_stop = eqb-true c full_stop stop in
          let none : is_sign c ≡ false = ap is_sign same ∙ no_stop_sign in
          rw stop
          (GoOn-stop signed (length rest) (labels_of rest) (subst (λ k. goes_on signed k ≡ true) same parts.0)
          (subst (λ (b : Bool). GoOn b (length rest) (labels_of rest)) none more))
      | inr other ↦ rw other (GoOn-first signed c (length rest) (labels_of rest) parts.0 more)
    ]

-- ---- a label

apart : (c d : ℕ) → goes_on (is_sign c) d ≡ true → ((c == hyphen) && (d == hyphen)) ≡ false
apart c d h = elim (cases_Bool (c == hyphen)) [
  | inl same ↦
      let is : c ≡ hyphen = eqb-true c hyphen same in
      let none : is_sign c ≡ false = ap is_sign is ∙ no_hyphen_sign in
      let sign : goes_on false d ≡ true = subst (λ (b : Bool). goes_on b d ≡ true) none h in
      rw (same, first_sign d sign) refl
  | inr no_hyphen ↦ rw no_hyphen refl
]
  where
    first_sign : (c : ℕ) → goes_on false c ≡ true → (c == hyphen) ≡ false
    first_sign c h = grind (arith, nat_tests)

third : (signed : Bool) (label : List ℕ) → is_chain signed label ≡ true
    → ((slice_index label 2 == hyphen) && (slice_index label 3 == hyphen)) ≡ false
third signed [] h = refl
third signed (a ∷ []) h = refl
third signed (a ∷ b ∷ []) h = refl
third signed (a ∷ b ∷ c ∷ []) h =
    elim (cases_Bool (c == hyphen)) [ inl same ↦ rw same refl | inr other ↦ rw other refl ]
third signed (a ∷ b ∷ c ∷ d ∷ rest) h =
    let one = chain_parts signed a (b ∷ c ∷ d ∷ rest) h in
    let two = chain_parts (is_sign a) b (c ∷ d ∷ rest) one.1 in
    let three = chain_parts (is_sign b) c (d ∷ rest) two.1 in
    let four = chain_parts (is_sign c) d rest three.1 in
    apart c d four.0

sign_other : (mark c : ℕ) → is_sign mark ≡ false → is_sign c ≡ true → (c == mark) ≡ false
sign_other mark c none sign = elim (cases_Bool (c == mark)) [
  | inl same ↦ absurd (false≢true (sym none ∙ (ap is_sign (sym (eqb-true c mark same)) ∙ sign)))
  | inr other ↦ other
]

-- a code point that goes on from none is a letter or a digit
from_none : (c : ℕ) → goes_on false c ≡ true → is_sign c ≡ true
from_none c h = elim (cases_Bool (is_sign c)) [
  | inl sign ↦ sign
  | inr none ↦ absurd (false≢true (rw none at h))
]

-- the last code point isn't a mark
last_other : (signed : Bool) (c : ℕ) (rest : List ℕ) (mark : ℕ) → is_sign mark ≡ false
    → is_chain signed (c ∷ rest) ≡ true
    → (slice_index (c ∷ rest) (length rest) == mark) ≡ false
last_other signed c [] mark none h = sign_other mark c none (chain_parts signed c [] h).1
last_other signed c (d ∷ rest) mark none h =
    last_other (is_sign c) d rest mark none (chain_parts signed c (d ∷ rest) h).1

pub end_other : (signed : Bool) (text : List ℕ) (mark : ℕ) → is_sign mark ≡ false → (mark == 0) ≡ false
    → is_chain signed text ≡ true
    → (slice_index text (length text - 1) == mark) ≡ false
end_other signed [] mark none some h = grind (arith, nat_tests)
end_other signed (c ∷ rest) mark none some h =
    let at : length (c ∷ rest) - 1 ≡ length rest = omega arith in
    rw at (last_other signed c rest mark none h)

chain_passes : (label : List ℕ) → is_chain false label ≡ true → passes_hyphens Check label ≡ true
unfolding passes_hyphens
chain_passes [] h = absurd (false≢true h)
chain_passes (c ∷ rest) h =
    rw (
      third false (c ∷ rest) h,
      sign_other hyphen c no_hyphen_sign (from_none c (chain_parts false c rest h).0),
      end_other false (c ∷ rest) hyphen no_hyphen_sign refl h,
    ) refl

-- a name has code points
chain_some : (label : List ℕ) → is_chain false label ≡ true → 1 ≤ length label
chain_some [] h = absurd (false≢true h)
chain_some (c ∷ rest) h = omega arith

all_pass : (n : ℕ) (labels : List (List ℕ)) → AreChains n labels
    → list_all (passes_hyphens Check) labels ≡ true
all_pass n [] h = refl
all_pass n (label ∷ rest) h = and_from _ _ (chain_passes label h.0) (all_pass n rest h.2)

all_fit : (n : ℕ) (labels : List (List ℕ)) → n ≤ 63 → AreChains n labels
    → list_all (λ label. is_in_range 1 63 (length label)) labels ≡ true
all_fit n [] few h = refl
all_fit n (label ∷ rest) few h =
    let small = h.1 in
    let some = chain_some label h.0 in
    let fits : is_in_range 1 63 (length label) ≡ true = grind (arith, nat_tests) in
    and_from _ _ fits (all_fit n rest few h.2)

from_first : (n : ℕ) (labels : List (List ℕ)) → GoOn false n labels → AreChains n labels
from_first n [] h = absurd h
from_first n (label ∷ rest) h = h

-- each label of a chain has its hyphens where the strict settings take them
chain_placed : (name : List ℕ) → is_chain false name ≡ true
    → list_all (passes_hyphens Check) (labels_of name) ≡ true
chain_placed name h =
    all_pass (length name) (labels_of name)
    (from_first (length name) (labels_of name) (chain_labels false name h))

-- ---- the root's full stop

all_and_one : {X : Type 0} (p : X → Bool) (xs : List X) (x : X) → list_all p xs ≡ true → p x ≡ true
    → list_all p (xs ++ x ∷ []) ≡ true
all_and_one p [] x all one = and_from _ _ one refl
all_and_one p (y ∷ xs) x all one =
    let parts = and_parts (p y) (list_all p xs) all in
    and_from _ _ parts.0 (all_and_one p xs x parts.1 one)

-- it adds an empty label
pub labels_root : (name : List ℕ) → labels_of (name ++ full_stop ∷ []) ≡ labels_of name ++ [] ∷ []
labels_root [] = refl
labels_root (c ∷ rest) =
    elim (cases_Bool (is_full_stop c)) [
      | inl stop ↦ rw stop (ap (λ (l : List (List ℕ)). [] ∷ l) (labels_root rest))
      | inr other ↦ rw other (ap (onto_first c) (labels_root rest) ∙ more (labels_of rest) (labels_of_cons rest))
    ]
  where
    more : (labels : List (List ℕ)) → (first : List ℕ) × (others : List (List ℕ)) × (labels ≡ first ∷ others)
        → onto_first c (labels ++ [] ∷ []) ≡ onto_first c labels ++ [] ∷ []
    more labels (first, others, same) = rw same refl

empty_passes : passes_hyphens Check [] ≡ true
unfolding passes_hyphens
empty_passes = refl

-- what is left of a name without it is no longer
pub root_parts : (name : List ℕ) → is_full_stop (slice_index name (length name - 1)) ≡ true
    → name ≡ take (length name - 1) name ++ full_stop ∷ []
root_parts [] stop = absurd (false≢true stop)
root_parts (c ∷ rest) stop =
    let end : length (c ∷ rest) - 1 ≡ length rest = omega arith in
    let last : is_full_stop (slice_index (c ∷ rest) (length rest)) ≡ true = rw end at stop in
    let same : get_or (c ∷ rest) (length rest) 0 ≡ full_stop = eqb-true _ full_stop last in
    rw end
    (sym (take_all (suc (length rest)) (c ∷ rest) (omega arith)) ∙ take-suc (c ∷ rest) (length rest) 0 (omega arith)
    ∙ ap (λ (d : ℕ). take (length rest) (c ∷ rest) ++ d ∷ []) same)

full_stop_form : is_form_code_point Standard full_stop ≡ true
full_stop_form = refl

-- a name with a full stop after it or without one holds only a form's code points
pub rooted_form : (name : List ℕ) → is_rooted_chain name ≡ true
    → list_all (is_form_code_point Standard) name ≡ true
rooted_form name h = elim (cases_Bool (is_full_stop (slice_index name (length name - 1)))) [
  | inl stop ↦
      let root : is_chain false (take (length name - 1) name) ≡ true = rw stop at h in
      subst (λ (s : List ℕ). list_all (is_form_code_point Standard) s ≡ true) (sym (root_parts name stop))
      (all_and_one (is_form_code_point Standard) (take (length name - 1) name) full_stop
      (chain_form false (take (length name - 1) name) root) full_stop_form)
  | inr other ↦ chain_form false name (rw other at h)
]

-- and its hyphens are where the strict settings take them
rooted_placed : (name : List ℕ) → is_rooted_chain name ≡ true
    → list_all (passes_hyphens Check) (labels_of name) ≡ true
rooted_placed name h = elim (cases_Bool (is_full_stop (slice_index name (length name - 1)))) [
  | inl stop ↦
      let before = take (length name - 1) name in
      let root : is_chain false (take (length name - 1) name) ≡ true = rw stop at h in
      subst (λ (s : List ℕ). list_all (passes_hyphens Check) (labels_of s) ≡ true) (sym (root_parts name stop))
      (rw (labels_root (take (length name - 1) name)) (all_and_one (passes_hyphens Check)
      (labels_of (take (length name - 1) name)) [] (chain_placed (take (length name - 1) name) root) empty_passes))
  | inr other ↦ chain_placed name (rw other at h)
]

-- so it is a plain name
pub rooted_plain : (name : List ℕ) → is_rooted_chain name ≡ true → IsPlain STD3 Check name
rooted_plain name h = plain_from_form name (rooted_form name h) (rooted_placed name h)

root_shorter : (name : List ℕ) → length (without_root name) ≤ length name
root_shorter name = elim (cases_Bool (is_full_stop (slice_index name (length name - 1)))) [
  | inl stop ↦
      let parts = ap length (root_parts name stop) ∙ length-append (take (length name - 1) name) (full_stop ∷ []) in
      rw stop (omega arith)
  | inr other ↦ rw other (le_refl (length name))
]

-- a name of at most 63 code points has the lengths of a domain
pub rooted_lengths : (name : List ℕ) → is_rooted_chain name ≡ true → length name ≤ 63
    → has_lengths name ≡ true
rooted_lengths name h few =
    let root = without_root name in
    let shorter = root_shorter name in
    let some = chain_some (without_root name) h in
    let fewer : length (without_root name) ≤ 63 = omega arith in
    let fits : is_in_range 1 253 (length (without_root name)) ≡ true = grind (arith, nat_tests) in
    and_from _ _ fits
    (all_fit (length (without_root name)) (labels_of (without_root name)) fewer
    (from_first (length (without_root name)) (labels_of (without_root name)) (chain_labels false
    (without_root name) h)))

-- a name of such lengths is its own form
pub rooted_is_form : (profile : Profile) (name : List ℕ) → IsUtf8 name → is_rooted_chain name ≡ true
    → has_lengths name ≡ true
    → IsForm profile (chars name) name
rooted_is_form profile name utf8 h lengths =
    plain_is_form profile name utf8 (rooted_plain name h) (fits_from_lengths profile name lengths)

-- and it is ASCII
pub rooted_ascii : (name : List ℕ) → is_rooted_chain name ≡ true → IsAscii name
rooted_ascii name h = plain_ascii name (rooted_plain name h)
