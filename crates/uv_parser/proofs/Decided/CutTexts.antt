-- A text with a scheme as its cut writes it: the scheme, `:`, the authority and the path, and after them the tail; and
-- the marks that its parts don't hold.
use Rattle.std.proofs.Common.{◌≡◌, ℕ, true, List, [], ◌∷◌, ◌++◌, Option, Some, None, ◌∙◌, append_assoc}
use Rattle.uv_model.specs.Ascii.{colon, question_mark, number_sign}
use Rattle.uv_model.specs.Cut.{Cut, IsCut, written_start, written_middle}
use Rattle.uv_model.specs.Parts.{written_after, written_authority, written_scheme}
use Rattle.uv_model.specs.Path.{is_without}
use Rattle.uv_model.specs.Records.Url.{Url}
use Rattle.uv_model.proofs.Violations.ViolationLemmas.{cut_with}
use Rattle.uv_model.proofs.Texts.MarkLemmas.{is_without-parts}
use Rattle.uv_parser.proofs.Loops.Tails.{tail}
use Rattle.uv_parser.proofs.Decided.TailsDecided.{MayBeWithoutNumberSign}

-- The authority and the path of a cut hold neither `?` nor `#`, and its query holds no `#`.
pub record HasMarks (authority path : List ℕ) (query_text : Option (List ℕ)) : Type 0 where
  pub authority_question_mark : is_without question_mark authority ≡ true
  pub authority_number_sign : is_without number_sign authority ≡ true
  pub path_question_mark : is_without question_mark path ≡ true
  pub path_number_sign : is_without number_sign path ≡ true
  pub query : MayBeWithoutNumberSign query_text

query_marks : (query : Option (List ℕ)) → is_without number_sign (written_after question_mark query) ≡ true
    → MayBeWithoutNumberSign query
query_marks None without = tt
query_marks (Some query) without = (is_without-parts number_sign (question_mark ∷ []) query without).1

module _ (base : Option Url) (text : List ℕ) (scheme host_text port_text : Option (List ℕ)) (path : List ℕ)
    (query fragment : Option (List ℕ)) (is : IsCut base text (cut_with scheme host_text port_text path query fragment))
  where
    cut : Cut
    cut = cut_with scheme host_text port_text path query fragment

    -- the marks
    pub marks : HasMarks (written_authority host_text port_text) path query
    unfolding cut
    marks =
        let prefix = is_without-parts number_sign (written_start cut) (written_after question_mark query) is.prefix in
        let number = is_without-parts number_sign (written_scheme scheme) (written_middle cut) prefix.0 in
        let question = is_without-parts question_mark (written_scheme scheme) (written_middle cut) is.start in
        let numbers = is_without-parts number_sign (written_authority host_text port_text) path number.1 in
        let questions = is_without-parts question_mark (written_authority host_text port_text) path question.1 in
        record {
          authority_question_mark = questions.0;
          authority_number_sign = numbers.0;
          path_question_mark = questions.1;
          path_number_sign = numbers.1;
          query = query_marks query prefix.1;
        }

    -- the text, with a scheme or without one
    pub cut_text : text ≡ written_scheme scheme
        ++ ((written_authority host_text port_text ++ path) ++ tail query fragment)
    unfolding cut
    cut_text = is.whole ∙ simp append_assoc

-- the text with its scheme named
pub scheme_text : (base : Option Url) (text scheme : List ℕ) (host_text port_text : Option (List ℕ)) (path : List ℕ)
    (query fragment : Option (List ℕ))
    → IsCut base text (cut_with (Some scheme) host_text port_text path query fragment)
    → text ≡ scheme ++ colon ∷ ((written_authority host_text port_text ++ path) ++ tail query fragment)
scheme_text base text scheme host_text port_text path query fragment is =
    cut_text base text (Some scheme) host_text port_text path query fragment is
    ∙ append_assoc scheme (colon ∷ [])
    ((written_authority host_text port_text ++ path) ++ tail query fragment)
