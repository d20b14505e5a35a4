-- A path of segments, with the query and the fragment after it: all of it is units, or the parser machine stops.
use Rattle.std.proofs.Common.{◌≡◌, ◌≢◌, ℕ, true, false, ◌==◌, ◌⊎◌, List, [], ◌∷◌, ◌++◌, Option, refl, inl, inr}
use Rattle.std.proofs.Common.{eqb-true}
use Rattle.std.proofs.lemmas.Bool.{and_parts, cases_Bool}
use Rattle.uv_model.specs.Ascii.{slash, question_mark, number_sign}
use Rattle.uv_model.specs.Encoding.{encoded_code_point}
use Rattle.uv_parser.specs.Machine.{Variables, turn, onward, PathStartState, PathState, is_special, segment_ended}
use Rattle.uv_parser.specs.Machine.{with_more}
use Rattle.uv_model.specs.Path.{is_without, starts_with_slash}
use Rattle.uv_model.specs.Units.{is_faultless, is_unit_at, is_url_code_point}
use Rattle.uv_model.specs.Records.Url.{Url}
use Rattle.uv_model.specs.Valid.{MayBeUnits}
use Rattle.uv_parser.proofs.Loops.PathLoops.{path_row_on}
use Rattle.uv_parser.proofs.Loops.PathStarts.{special_row}
use Rattle.uv_parser.proofs.Running.Steps.{Reaches, reaches_none, onward_then, Stops, ends_again, ends_after, ends_step}
use Rattle.uv_parser.proofs.Loops.StoppingLoops.{path_stops}
use Rattle.uv_parser.proofs.Loops.Tails.{tail}
use Rattle.uv_parser.proofs.Decided.TailsDecided.{MayBeWithoutNumberSign, PassesToTail, no_hex_tail, tail_decided}
use Rattle.uv_model.proofs.Texts.UnitsAhead.{is_unit_at-ahead}
use Rattle.uv_model.proofs.Texts.MarkLemmas.{is_without-cons}

-- the path, the query and the fragment are units
abbrev pub AreFine : List ℕ → Option (List ℕ) → Option (List ℕ) → Type 0
AreFine path query fragment = (is_faultless path ≡ true) × MayBeUnits query × MayBeUnits fragment

-- what a cut says of the marks in them
pub record FreeOfMarks (path : List ℕ) (query_text : Option (List ℕ)) : Type 0 where
  pub question_mark : is_without question_mark path ≡ true
  pub number_sign : is_without number_sign path ≡ true
  pub query : MayBeWithoutNumberSign query_text

-- `/` is a unit
faultless_slash : (path : List ℕ) → is_faultless path ≡ true → is_faultless (slash ∷ path) ≡ true
unfolding is_unit_at is_url_code_point
faultless_slash path fine = fine

module _ (base : Option Url) where
  path_row_slash : (c : ℕ) (rest : List ℕ) (v : Variables) (p : ℕ) → (c == slash) ≡ true
      → turn base PathState p v (c ∷ rest) ≡ onward PathState (segment_ended true v)
  path_row_slash c rest v p is = rw is refl

  -- units without `?` are read, whatever the variables are
  path_reads : (cs rest : List ℕ) (v : Variables) → is_faultless cs ≡ true → is_without question_mark cs ≡ true
      → (g : Variables) × Reaches base PathState v (cs ++ rest) PathState g rest
  path_reads [] rest v units none = (v, reaches_none base PathState v rest)
  path_reads (c ∷ cs) rest v units none =
      let unit = and_parts (is_unit_at c cs) (is_faultless cs) units in
      let other = is_without-cons question_mark c cs none in
      elim (cases_Bool (c == slash)) [
        | inl is ↦
            let later = path_reads cs rest (segment_ended true v) unit.1 other.1 in
            (later.0, onward_then base (λ p. path_row_slash c (cs ++ rest) v p is) later.1)
        | inr not_slash ↦
            let later = path_reads cs rest (with_more (encoded_code_point false c) v) unit.1 other.1 in (
              later.0,
              onward_then base
                  (λ p. path_row_on base c (cs ++ rest) v p not_slash other.0 (is_unit_at-ahead c cs rest unit.0))
                  later.1,
            )
      ]

  path_passes : (v : Variables) → PassesToTail base PathState v
  path_passes v =
      record {
        query_variables = segment_ended false v;
        fragment_variables = segment_ended false v;
        at_query = λ p rest. refl;
        at_fragment = λ p rest. refl;
      }

  -- from the path state on
  pub path_decided : (path : List ℕ) (query fragment : Option (List ℕ)) (v : Variables) → FreeOfMarks path query
      → AreFine path query fragment
      ⊎ Stops base PathState v (path ++ tail query fragment)
  path_decided path query fragment v free =
      elim (cases_Bool (is_faultless path)) [
        | inl units ↦
            let through = path_reads path (tail query fragment) v units free.question_mark in
            elim (tail_decided base PathState through.0 query fragment (path_passes through.0) free.query) [
              | inl both ↦ inl (units, both.0, both.1)
              | inr stops ↦ inr (ends_after base through.1 stops)
            ]
        | inr fault ↦ inr
            (path_stops base path (tail query fragment) v fault free.question_mark free.number_sign
            (no_hex_tail query fragment))
      ]

  -- from the path start state on
  pub path_start_decided : (path : List ℕ) (query fragment : Option (List ℕ)) (v : Variables) → FreeOfMarks path query
      → (path ≢ [] → starts_with_slash path ≡ true)
      → AreFine path query fragment
      ⊎ Stops base PathStartState v (path ++ tail query fragment)
  path_start_decided [] query fragment v free start =
      elim (cases_Bool (is_special v.url.scheme)) [
        | inl special ↦ elim (path_decided [] query fragment v free) [
          | inl fine ↦ inl fine
          | inr stops ↦ inr (ends_again base (λ p. rw special (special_row query fragment v)) stops)
        ]
        | inr plain ↦
            let passes : PassesToTail base PathStartState v
            = record {
              query_variables = v;
              fragment_variables = v;
              at_query = λ p rest. rw plain refl;
              at_fragment = λ p rest. rw plain refl;
            } in
            elim (tail_decided base PathStartState v query fragment passes free.query) [
              | inl both ↦ inl (refl, both.0, both.1)
              | inr stops ↦ inr stops
            ]
      ]
  path_start_decided (c ∷ path) query fragment v free start =
      let is : c ≡ slash = eqb-true c slash (start (λ same. cc)) in
      let question = is_without-cons question_mark c path free.question_mark in
      let number = is_without-cons number_sign c path free.number_sign in
      let after : FreeOfMarks path query
      = record { question_mark = question.1; number_sign = number.1; query = free.query } in
      elim (path_decided path query fragment v after) [
        | inl fine ↦ inl (rw is (faultless_slash path fine.0), fine.1, fine.2)
        | inr stops ↦ inr (rw is (ends_step base (λ p. refl) stops))
      ]
