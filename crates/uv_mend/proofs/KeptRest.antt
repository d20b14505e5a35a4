-- What the edits of a refused text keep of what is after its host.
use Rattle.std.proofs.Common.{◌≡◌, ◌∙◌, inl, inr, ℕ, false, List, [], ◌∷◌, ◌++◌, Option, refl, sym, ap, subst}
use Rattle.uv_model.specs.Ascii.{full_stop, number_sign, question_mark, slash}
use Rattle.uv_model.specs.Cut.{cut_of}
use Rattle.uv_model.specs.Parts.{written_after}
use Rattle.uv_model.specs.Records.Url.{Url}
use Rattle.uv_model.proofs.Texts.MarkLemmas.{is_without-more}
use Rattle.uv_mend.specs.Edits.{cleaned}
use Rattle.uv_mend.specs.Escapes.{as_units}
use Rattle.uv_mend.specs.Rest.{HasRestOf, IsPathOf, KeepsTheRest, MayBeEscapingOf, rest_of}
use Rattle.uv_mend.specs.Slashes.{slashed}
use Rattle.uv_mend.specs.Stripped.{stripped}
use Rattle.uv_mend.proofs.EscapedRest.{ArePartsEscaped, escaped_rest, parts_escaped}
use Rattle.uv_mend.proofs.RestCutLemmas.{AreParts, cut_parts, cut_rest, rest_gives, tails}
use Rattle.uv_mend.proofs.SlashedRest.{slashed_keeps}

-- `/.` before a path
dot_parts : (path : List ℕ) (query : Option (List ℕ)) → AreParts path query
    → AreParts (slash ∷ full_stop ∷ path) query
dot_parts path query are = record {
  no_question = is_without-more question_mark slash (full_stop ∷ path) refl
      (is_without-more question_mark full_stop path refl are.no_question);
  no_sign = is_without-more number_sign slash (full_stop ∷ (path ++ written_after question_mark query)) refl
      (is_without-more number_sign full_stop (path ++ written_after question_mark query) refl are.no_sign);
}

-- the refused text without what the parser takes off, with its slashes as they are read
abbrev as_read : Option Url → List ℕ → List ℕ
as_read base text = slashed base (stripped text)

-- its parts with escapes
abbrev Escaped : Option Url → List ℕ → Type 0
Escaped base read =
    ArePartsEscaped (cut_of base read).path_text (cut_of base read).query (cut_of base read).fragment

-- the rest of the cleaned text
cleaned_rest : (base : Option Url) (text : List ℕ) (are : Escaped base (as_read base text))
    → rest_of (cleaned base text) ≡ are.other_path ++ tails are.other_query are.other_fragment
unfolding cleaned
cleaned_rest base text are =
    escaped_rest (as_read base text) ∙ ap (as_units false) (cut_rest base (as_read base text)).rest ∙ are.joined

-- a text with those parts
kept : (base : Option Url) (text mended path : List ℕ) (are : Escaped base (as_read base text))
    → AreParts path are.other_query → rest_of mended ≡ path ++ tails are.other_query are.other_fragment
    → IsPathOf (cut_of base (as_read base text)).path_text path → KeepsTheRest base text mended
kept base text mended path are parts is path_is =
    let read = as_read base text in
    let keeps = slashed_keeps base (stripped text) in
    let gives = rest_gives base mended path are.other_query are.other_fragment parts is in
    record {
      path = subst (IsPathOf (cut_of base read).path_text) (sym gives.0) path_is;
      query =
          subst (λ q. MayBeEscapingOf q (cut_of base mended).query) keeps.0
          (subst (MayBeEscapingOf (cut_of base read).query) (sym gives.1) are.query_is);
      fragment =
          subst (λ f. MayBeEscapingOf f (cut_of base mended).fragment) keeps.1
          (subst (MayBeEscapingOf (cut_of base read).fragment) (sym gives.2) are.fragment_is);
    }

-- the law
pub keeps_the_rest : (base : Option Url) (text mended : List ℕ) → HasRestOf (cleaned base text) mended
    → KeepsTheRest base text mended
keeps_the_rest base text mended has =
    let read = as_read base text in
    let cut = cut_of base read in
    let are = parts_escaped cut.path_text cut.query cut.fragment (cut_parts base read) in
    let rest = cleaned_rest base text are in
    elim has [
      | inl same ↦ kept base text mended are.other_path are are.are (same ∙ rest) (inl are.path_is)
      | inr (none, dot) ↦
          kept base text mended (slash ∷ full_stop ∷ are.other_path) are
          (dot_parts are.other_path are.other_query are.are) (dot ∙ ap (λ t. slash ∷ full_stop ∷ t) rest)
          (inr (are.other_path, refl, are.path_is))
    ]
