-- Texts that an edit leaves as they are.
use Rattle.std.proofs.Common.{◌≡◌, ℕ, Bool, true, false, not, ◌&&◌, ◌||◌, ◌==◌, List, [], ◌∷◌, ◌++◌, take, drop, refl}
use Rattle.std.proofs.Common.{sym, ap, ◌∙◌, ⊎_elim, chars, arith, length, ◌≤◌, inl, inr}
use Rattle.std.specs.Prelude.{Option, None, Some, ◌<◌, if◌then◌else◌, is_some}
use Rattle.std.specs.Str.{IsUtf8}
use Rattle.std.proofs.lemmas.List.{length-drop}
use Rattle.std.proofs.lemmas.Bool.{and_parts, cases_Bool, cond-false, cond-true, eqb-true, false≢true}
use Rattle.memchr.specs.Find.{IsFirstByte}
use Rattle.uv_model.specs.declared.scheme.Class.{Class}
use Rattle.uv_model.specs.declared.scheme.Class.TheVariants.{SpecialNotFile, File, Other}
use Rattle.uv_model.specs.Ascii.{backslash, number_sign}
use Rattle.uv_model.specs.Path.{is_without}
use Rattle.uv_model.specs.Units.{is_unit_at, is_url_code_point}
use Rattle.uv_model.specs.Records.Url.{Url as Record}
use Rattle.uv_model.specs.Scheme.{starts_with_scheme}
use Rattle.uv_model.proofs.Texts.MarkLemmas.{is_without-cons}
use Rattle.uv_grammar.proofs.SearchLemmas.{not_found}
use Rattle.uv_grammar.proofs.SliceLemmas.{is_without-chars}
use Rattle.uv_text.specs.Splits.{IsUnitSplit, begins_unit, class_has, unit_length}
use Rattle.uv_text.specs.declared.units.UnitClass.TheVariants.{Url}
use Rattle.uv_text.proofs.FaultsLemmas.{begins_url}
use Rattle.uv_mend.specs.declared.prefixes.Stop.TheVariants.{Start}
use Rattle.uv_mend.specs.Escapes.{as_unit, as_units}
use Rattle.uv_mend.specs.Prefixes.{after_scheme, class_against, scheme_prefix, stops}
use Rattle.uv_model.specs.Ascii.{slash}
use Rattle.uv_model.specs.Cut.{starts_with_two_slashes}
use Rattle.uv_mend.specs.CodePoints.{after_one}
use Rattle.uv_mend.specs.Slashes.{IsSlashed, after_marks, as_slash, begins_slashed, is_slash_mark, new_slashes}
use Rattle.uv_mend.specs.Slashes.{renews_slashes}
use Rattle.uv_mend.specs.Slashes.{slashed, slashed_after, starts_with_mark, starts_with_two_marks, with_slashes}
use Rattle.uv_mend.specs.Stripped.{on_one_line}
use Rattle.uv_mend.proofs.EscapeLemmas.{scheme_parts}

-- what a search for a byte doesn't find isn't there
pub searched : (test : ℕ → Bool) (bytes : List ℕ) (found : Option ℕ) → IsFirstByte test bytes found
    → is_some found ≡ false → IsFirstByte test bytes None
searched test bytes None found none = found
searched test bytes (Some place) found none = absurd (false≢true (sym none))

-- a mark that is looked for and isn't found among the bytes isn't among the code points
pub without : (test : ℕ → Bool) (mark : ℕ) (bytes : List ℕ) (found : Option ℕ) → mark < 128 → test mark ≡ true
    → IsUtf8 bytes → IsFirstByte test bytes found → is_some found ≡ false → is_without mark (chars bytes) ≡ true
without test mark bytes found small wanted utf8 first none =
    is_without-chars mark bytes small utf8 (not_found test mark bytes wanted (searched test bytes found first none))

-- ---- lines

pub on_one_line-same : (text : List ℕ) → is_without 0x9 text ≡ true → is_without 0xA text ≡ true
    → is_without 0xD text ≡ true → on_one_line text ≡ text
on_one_line-same [] tab feed return = refl
on_one_line-same (c ∷ rest) tab feed return =
    let no_tab = is_without-cons 0x9 c rest tab in
    let no_feed = is_without-cons 0xA c rest feed in
    let no_return = is_without-cons 0xD c rest return in
    rw (no_tab.0, no_feed.0, no_return.0) (ap (λ t. c ∷ t) (on_one_line-same rest no_tab.1 no_feed.1 no_return.1))

-- ---- slashes

-- a code point that isn't `\` stays
as_slash-same : (class : Class) (c : ℕ) → (c == backslash) ≡ false → as_slash class c ≡ c
unfolding as_slash
as_slash-same SpecialNotFile c other = rw other refl
as_slash-same File c other = rw other refl
as_slash-same Other c other = refl

pub with_slashes-same : (class : Class) (text : List ℕ) → is_without backslash text ≡ true
    → with_slashes class text ≡ text
with_slashes-same class [] none = refl
with_slashes-same class (c ∷ rest) none =
    let parts = is_without-cons backslash c rest none in
    elim (cases_Bool (stops Start c)) [
      | inl stop ↦ cond-true _ _ _ stop
      | inr other ↦
          let step : with_slashes class (c ∷ rest) ≡ as_slash class c ∷ with_slashes class rest =
          cond-false _ _ _ other in
          step
          ∙ ap (λ d. d ∷ with_slashes class rest) (as_slash-same class c parts.0)
          ∙ ap (λ t. c ∷ t) (with_slashes-same class rest parts.1)
    ]

-- a text that begins with no slash mark begins after those
marks_none : (text : List ℕ) → starts_with_mark text ≡ false → after_marks text ≡ text
marks_none [] none = refl
marks_none (c ∷ rest) none = rw none refl

-- `//` and no more
two_slashes : (text : List ℕ) → starts_with_two_slashes text ≡ true
    → starts_with_mark (after_one (after_one text)) ≡ false → new_slashes SpecialNotFile ++ after_marks text ≡ text
two_slashes [] two more = absurd (false≢true two)
two_slashes (c ∷ []) two more = absurd (false≢true two)
two_slashes (c ∷ d ∷ rest) two more =
    let parts = and_parts (c == slash) (d == slash) two in
    rw (eqb-true c slash parts.0, eqb-true d slash parts.1, marks_none rest more) refl

marks_without : (text : List ℕ) → is_without backslash text ≡ true → is_without backslash (after_marks text) ≡ true
marks_without [] none = refl
marks_without (c ∷ rest) none =
    ⊎_elim (λ e. rw e (marks_without rest (is_without-cons backslash c rest none).1)) (λ e. rw e none)
    (cases_Bool (is_slash_mark c))

-- they are written again as they are
two_again : (text : List ℕ) → starts_with_two_slashes text ≡ true
    → starts_with_mark (after_one (after_one text)) ≡ false → is_without backslash text ≡ true
    → new_slashes SpecialNotFile ++ with_slashes SpecialNotFile (after_marks text) ≡ text
two_again text two more none =
    ap (λ t. new_slashes SpecialNotFile ++ t)
    (with_slashes-same SpecialNotFile (after_marks text) (marks_without text none)) ∙ two_slashes text two more

slashed-two : (class : Class) (has_scheme : Bool) (text : List ℕ) → starts_with_two_marks text ≡ true
    → starts_with_two_slashes text ≡ true → starts_with_mark (after_one (after_one text)) ≡ false
    → is_without backslash text ≡ true → slashed_after class has_scheme text ≡ text
unfolding slashed_after renews_slashes
slashed-two Other has_scheme text marks two more none = with_slashes-same Other text none
slashed-two File true text marks two more none = rw marks (with_slashes-same File text none)
slashed-two File false text marks two more none = with_slashes-same File text none
slashed-two SpecialNotFile true text marks two more none = two_again text two more none
slashed-two SpecialNotFile false text marks two more none = rw marks (two_again text two more none)

-- and without a scheme fewer slash marks are not written again
slashed-less : (class : Class) (text : List ℕ) → starts_with_two_marks text ≡ false → is_without backslash text ≡ true
    → slashed_after class false text ≡ text
unfolding slashed_after renews_slashes
slashed-less Other text marks none = with_slashes-same Other text none
slashed-less File text marks none = with_slashes-same File text none
slashed-less SpecialNotFile text marks none = rw marks (with_slashes-same SpecialNotFile text none)

-- a text that begins so, and without `\`, has its slashes as they are read
pub slashed-same : (has_scheme : Bool) (text : List ℕ) → begins_slashed has_scheme text ≡ true
    → is_without backslash text ≡ true → IsSlashed has_scheme text
slashed-same has_scheme text begins none class =
    elim (cases_Bool (starts_with_two_marks text)) [
      | inl marks ↦
          let parts = and_parts (starts_with_two_slashes text) (not (starts_with_mark (after_one (after_one text))))
          (rw marks at begins) in
          slashed-two class has_scheme text marks parts.0 (not_true _ parts.1) none
      | inr less ↦
          let alone = not_true has_scheme (rw less at begins) in
          rw alone (slashed-less class text less none)
    ]
  where
    not_true : (b : Bool) → not b ≡ true → b ≡ false
    not_true true is = sym is
    not_true false is = refl

-- then the whole text has
pub slashed_whole : (base : Option Record) (text after : List ℕ) (has_scheme : Bool)
    → has_scheme ≡ starts_with_scheme text → after ≡ after_scheme text → IsSlashed has_scheme after
    → text ≡ slashed base text
slashed_whole base text after has_scheme is_scheme is_after same =
    let stays : slashed_after (class_against base text) (starts_with_scheme text) (after_scheme text)
    ≡ after_scheme text =
    rw (is_scheme, is_after) at same (class_against base text) in
    sym (ap (λ t. scheme_prefix text ++ t) stays ∙ scheme_parts text)

-- the slashes after a scheme
pub slashed_joined : (base : Option Record) (text scheme after : List ℕ) (has_scheme : Bool) (class : Class)
    → scheme ≡ scheme_prefix text → after ≡ after_scheme text → has_scheme ≡ starts_with_scheme text
    → class ≡ class_against base text → scheme ++ slashed_after class has_scheme after ≡ slashed base text
slashed_joined base text scheme after has_scheme class is_scheme is_after is_has is_class =
    rw (is_scheme, is_after, is_has, is_class) refl

-- ---- units

-- a unit isn't the `#` before a fragment
no_mark : (c : ℕ) (rest : List ℕ) → is_unit_at c rest ≡ true → (c == number_sign) ≡ false
unfolding is_unit_at is_url_code_point
no_mark c rest unit =
    elim (cases_Bool (c == number_sign)) [
      | inl same ↦ absurd (false≢true (rw (eqb-true c number_sign same) at unit))
      | inr other ↦ other
    ]

-- the units with which a text begins stay
pub as_units-run : (in_fragment : Bool) (text : List ℕ)
    → as_units in_fragment text
    ≡ take (unit_length (class_has Url) text) text
    ++ as_units in_fragment (drop (unit_length (class_has Url) text) text)
unfolding as_unit
as_units-run in_fragment [] = refl
as_units-run in_fragment (c ∷ rest) =
    elim (cases_Bool (begins_unit (class_has Url) c rest)) [
      | inl begins ↦
          let unit : is_unit_at c rest ≡ true = sym (begins_url (class_has Url) (λ byte. refl) c rest) ∙ begins in
          let other = no_mark c rest unit in
          rw (begins, unit, other) (one in_fragment c rest (as_units-run in_fragment rest))
      | inr stops ↦ rw stops refl
    ]
  where
    one : (in_fragment : Bool) (c : ℕ) (rest : List ℕ)
        → as_units in_fragment rest
        ≡ take (unit_length (class_has Url) rest) rest
        ++ as_units in_fragment (drop (unit_length (class_has Url) rest) rest)
        → (if not in_fragment && false then c ∷ [] else c ∷ []) ++ as_units (in_fragment || false) rest
        ≡ c ∷ (take (unit_length (class_has Url) rest) rest
        ++ as_units in_fragment (drop (unit_length (class_has Url) rest) rest))
    one true c rest more = ap (λ t. c ∷ t) more
    one false c rest more = ap (λ t. c ∷ t) more

-- so a text that is cut after those
pub run_parts : (text run rest : List ℕ) → IsUnitSplit (class_has Url) text run rest
    → ((in_fragment : Bool) → as_units in_fragment text ≡ run ++ as_units in_fragment rest)
    × (length rest ≤ length text)
run_parts text run rest cut = (
  λ in_fragment. rw (cut.is_prefix, cut.is_rest) (as_units-run in_fragment text),
  omega (arith, ap length cut.is_rest, length-drop (unit_length (class_has Url) text) text),
)
