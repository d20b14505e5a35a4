-- The prefix of a text that the scan of units passes is URL units, without the marks that its class lacks.
use Rattle.std.proofs.Common.{◌≡◌, ◌≢◌, ℕ, zero, suc, ◌<◌, ◌==◌, Bool, true, false, not, ◌&&◌, List, [], ◌∷◌, ◌++◌}
use Rattle.std.proofs.Common.{take, refl, sym}
use Rattle.std.proofs.Common.{◌∙◌, subst, inl, inr, arith, eqb-true, ne_eqb}
use Rattle.std.specs.Prelude.{nat_le}
use Rattle.std.specs.Char.{is_ascii, is_ascii_hexdigit}
use Rattle.std.proofs.lemmas.Bool.{and_parts, cases_Bool, cases_eq, false≢true, or_cases}
use Rattle.std.proofs.lemmas.Bool.Decides.{nat_tests}
use Rattle.std.proofs.lemmas.List.{take-append-drop}
use Rattle.uv_model.specs.Ascii.{number_sign, percent_sign, question_mark}
use Rattle.uv_model.specs.Cut.{starts_with_two_slashes}
use Rattle.uv_model.specs.Path.{is_without, starts_with_slash}
use Rattle.uv_model.specs.Units.{is_faultless, is_unit_at, is_url_code_point, starts_with_two_hex}
use Rattle.uv_model.proofs.Texts.MarkLemmas.{is_without-more}
use Rattle.uv_text.specs.Class.{HasHexDigits, HoldsPathBytes, HoldsUrlBytes}
use Rattle.uv_text.specs.Splits.{IsUnitSplit, begins_mark, begins_unit, class_has, unit_length}
use Rattle.uv_text.specs.declared.units.UnitClass.TheVariants.{Path}
use Rattle.uv_text.proofs.ClassLemmas.{class_digits}
use Rattle.uv_grammar.specs.PlainLinks.{AreUnits, IsPathCut}

-- `%` and `#` aren't URL code points
percent_sign-unit : is_url_code_point percent_sign ≡ false
unfolding is_url_code_point
percent_sign-unit = refl

number_sign-unit : is_url_code_point number_sign ≡ false
unfolding is_url_code_point
number_sign-unit = refl

module _ (held : ℕ → Bool) where
  -- the prefix of units
  abbrev prefix : List ℕ → List ℕ
  prefix text = take (unit_length held text) text

  -- both sides of the cut are the text
  pub split_joined : (text prefix rest : List ℕ) → IsUnitSplit held text prefix rest → text ≡ prefix ++ rest
  split_joined text prefix rest cut =
      rw (cut.is_prefix, cut.is_rest) (sym (take-append-drop (unit_length held text) text))

  -- the hex digits after a `%` are in the prefix
  hex_prefix : HasHexDigits held → (rest : List ℕ) → starts_with_two_hex rest ≡ true
      → starts_with_two_hex (prefix rest) ≡ true
  hex_prefix digits [] hex = absurd (false≢true hex)
  hex_prefix digits (high ∷ []) hex = absurd (false≢true hex)
  hex_prefix digits (high ∷ low ∷ rest) hex =
      let both = and_parts (is_ascii_hexdigit high) (is_ascii_hexdigit low) hex in
      rw (digits high both.0, digits low both.1) hex

  -- a code point that begins a unit of the text begins one of the prefix
  unit_prefix : ((c : ℕ) → held c ≡ true → is_url_code_point c ≡ true) → HasHexDigits held → (c : ℕ)
      (rest : List ℕ) → begins_unit held c rest ≡ true → is_unit_at c (prefix rest) ≡ true
  unfolding is_unit_at
  unit_prefix url digits c rest begins =
      elim (cases_eq c percent_sign) [
        | inl same ↦
            let here : begins_unit held percent_sign rest ≡ true = rw same at begins in
            rw same (elim (or_cases (held percent_sign) (begins_mark percent_sign rest) here) [
              | inl class ↦ absurd (false≢true (sym percent_sign-unit ∙ url percent_sign class))
              | inr mark ↦ hex_prefix digits rest mark
            ])
        | inr other ↦
            let no_percent : (c == percent_sign) ≡ false = ne_eqb c percent_sign other in
            elim (or_cases (held c) (begins_mark c rest) begins) [
              | inl class ↦ rw no_percent (url c class)
              | inr mark ↦
                  let beyond : (nat_le 128 c && is_url_code_point c) ≡ true = rw no_percent at mark in
                  rw no_percent (and_parts (nat_le 128 c) (is_url_code_point c) beyond).1
            ]
      ]

  -- the prefix is units
  faultless_prefix : ((c : ℕ) → held c ≡ true → is_url_code_point c ≡ true) → HasHexDigits held
      → (text : List ℕ) → is_faultless (prefix text) ≡ true
  faultless_prefix url digits [] = refl
  faultless_prefix url digits (c ∷ rest) =
      elim (cases_Bool (begins_unit held c rest)) [
        | inl begins ↦ rw begins (rw (unit_prefix url digits c rest begins, faultless_prefix url digits rest) refl)
        | inr stops ↦ rw stops refl
      ]

  -- a mark that begins no unit isn't in the prefix
  without_prefix : (mark : ℕ) → mark < 128 → (mark == percent_sign) ≡ false → held mark ≡ false
      → (text : List ℕ) → is_without mark (prefix text) ≡ true
  without_prefix mark small no_percent lacks [] = refl
  without_prefix mark small no_percent lacks (c ∷ rest) =
      elim (cases_Bool (begins_unit held c rest)) [
        | inl begins ↦ rw begins (is_without-more mark c (prefix rest) (other begins)
            (without_prefix mark small no_percent lacks rest))
        | inr stops ↦ rw stops refl
      ]
    where
      other : begins_unit held c rest ≡ true → (c == mark) ≡ false
      other begins =
          elim (cases_Bool (c == mark)) [
            | inl same ↦
                let here : begins_unit held mark rest ≡ true =
                subst (λ d. begins_unit held d rest ≡ true) (eqb-true c mark same) begins in
                let below : nat_le 128 mark ≡ false = grind (arith, nat_tests, small) in
                absurd (false≢true (rw (lacks, no_percent, below) at here))
            | inr different ↦ different
          ]

-- a byte of a class of URL code points is one
url_byte : (held : ℕ → Bool) → HoldsUrlBytes held → (c : ℕ) → held c ≡ true
    → is_url_code_point c ≡ true
url_byte held holds c here = (and_parts (is_ascii c) (is_url_code_point c) (sym (holds c) ∙ here)).1

path_byte : (held : ℕ → Bool) → HoldsPathBytes held → (c : ℕ) → held c ≡ true
    → is_url_code_point c ≡ true
path_byte held holds c here =
    let both = and_parts (is_ascii c) (is_url_code_point c && not (c == question_mark)) (sym (holds c) ∙ here) in
    (and_parts (is_url_code_point c) (not (c == question_mark)) both.1).0

-- the units of a query or a fragment
pub url_units : (held : ℕ → Bool) (text prefix rest : List ℕ) → HoldsUrlBytes held → HasHexDigits held
    → IsUnitSplit held text prefix rest → AreUnits true prefix
url_units held text prefix rest holds digits cut =
    rw cut.is_prefix (record {
      units = faultless_prefix held (url_byte held holds) digits text;
      no_number_sign =
          without_prefix held number_sign (omega arith) refl (holds number_sign ∙ rw number_sign-unit refl) text;
      no_question_mark = λ none. absurd cc;
    })

-- the units of a path
pub path_units : (held : ℕ → Bool) (text prefix rest : List ℕ) → HoldsPathBytes held → HasHexDigits held
    → IsUnitSplit held text prefix rest → AreUnits false prefix
path_units held text prefix rest holds digits cut =
    rw cut.is_prefix (record {
      units = faultless_prefix held (path_byte held holds) digits text;
      no_number_sign =
          without_prefix held number_sign (omega arith) refl (holds number_sign ∙ rw number_sign-unit refl) text;
      no_question_mark = λ none.
          without_prefix held question_mark (omega arith) refl (holds question_mark ∙ no_question) text;
    })
  where
    no_question : (is_ascii question_mark && (is_url_code_point question_mark && not (question_mark == question_mark)))
        ≡ false
    no_question = elim (cases_Bool (is_url_code_point question_mark)) [
      | inl is ↦ rw is refl
      | inr not ↦ rw not refl
    ]

-- ---- the path of a plain link

-- if no `/` begins the text, its path is empty
pub no_path : (text path rest : List ℕ) → path ≡ [] → rest ≡ text → IsPathCut text path rest
no_path text path rest none all =
    rw (none, all) (record {
      joined = refl;
      units = record { units = refl; no_number_sign = refl; no_question_mark = λ _. refl };
      slashed = λ some. absurd (some refl);
      single = refl;
    })

-- a prefix of a text that begins with `/`
slash_kept : (n : ℕ) (text : List ℕ) → starts_with_slash text ≡ true → take n text ≢ []
    → starts_with_slash (take n text) ≡ true
slash_kept n [] slashed some = absurd (false≢true slashed)
slash_kept zero (c ∷ rest) slashed some = absurd (some refl)
slash_kept (suc n) (c ∷ rest) slashed some = slashed

-- a prefix of a text that doesn't begin with two
single_kept : (n : ℕ) (text : List ℕ) → starts_with_two_slashes text ≡ false
    → starts_with_two_slashes (take n text) ≡ false
single_kept zero text single = refl
single_kept (suc n) [] single = single
single_kept (suc zero) (c ∷ rest) single = refl
single_kept (suc (suc n)) (c ∷ []) single = single
single_kept (suc (suc n)) (c ∷ d ∷ rest) single = single

-- units after one `/` are a path
pub path_after_slash : (text path rest : List ℕ) → starts_with_slash text ≡ true → starts_with_two_slashes text ≡ false
    → IsUnitSplit (class_has Path) text path rest → IsPathCut text path rest
path_after_slash text path rest slashed single cut = record {
  joined = split_joined (class_has Path) text path rest cut;
  units = path_units (class_has Path) text path rest (λ byte. refl) (class_digits Path) cut;
  slashed = rw cut.is_prefix (slash_kept (unit_length (class_has Path) text) text slashed);
  single = rw cut.is_prefix (single_kept (unit_length (class_has Path) text) text single);
}
