-- After a path a run of the parser machine ends or stops: it stops exactly when the query or the fragment has a fault.
use Rattle.std.proofs.Common.{◌≡◌, ℕ, true, ◌⊎◌, List, [], ◌∷◌, ◌++◌, Option, Some, None, refl, inl, inr, append-nil}
use Rattle.std.proofs.lemmas.Bool.{cases_Bool}
use Rattle.uv_model.specs.Ascii.{question_mark, number_sign}
use Rattle.uv_model.specs.Parts.{written_after}
use Rattle.uv_model.specs.Path.{is_without}
use Rattle.uv_model.specs.Units.{is_faultless}
use Rattle.uv_model.specs.Records.Url.{Url}
use Rattle.uv_model.specs.Valid.{MayBeUnits}
use Rattle.uv_parser.specs.Machine.{State, Variables, turn, to_query, to_fragment, QueryState, FragmentState}
use Rattle.uv_parser.specs.Machine.{with_query, with_fragment, with_more, query_ended}
use Rattle.uv_parser.proofs.Loops.Looping.{query_law}
use Rattle.uv_parser.proofs.Running.Steps.{Stops, ends_after, ends_step}
use Rattle.uv_parser.proofs.Loops.StoppingLoops.{no_hex_first, query_stops, fragment_stops}
use Rattle.uv_parser.proofs.Loops.Tails.{tail}
use Rattle.uv_model.proofs.Texts.UnitsLemmas.{IsUnits-faultless}

-- The rows of a state in which `?` and `#` begin the query and the fragment, whatever the variables are then.
pub record PassesToTail (base : Option Url) (s : State) (v : Variables) : Type 0 where
  pub query_variables : Variables
  pub fragment_variables : Variables
  pub at_query : (p : ℕ) (rest : List ℕ) → turn base s p v (question_mark ∷ rest) ≡ to_query query_variables
  pub at_fragment : (p : ℕ) (rest : List ℕ) → turn base s p v (number_sign ∷ rest) ≡ to_fragment fragment_variables

-- a query before a fragment has no `#`
abbrev pub MayBeWithoutNumberSign : Option (List ℕ) → Type 0
MayBeWithoutNumberSign None = Unit {0}
MayBeWithoutNumberSign (Some text) = is_without number_sign text ≡ true

-- a tail doesn't begin with a hex digit
pub no_hex_tail : (query fragment : Option (List ℕ)) → no_hex_first (tail query fragment) ≡ true
no_hex_tail (Some query) fragment = refl
no_hex_tail None (Some fragment) = refl
no_hex_tail None None = refl

module _ (base : Option Url) where
  -- a fragment is units, or stops
  pub fragment_decided : (text : List ℕ) (v : Variables)
      → MayBeUnits (Some text) ⊎ Stops base FragmentState v text
  fragment_decided text v =
      elim (cases_Bool (is_faultless text)) [
        | inl units ↦ inl (IsUnits-faultless text units)
        | inr fault ↦ inr (rw append-nil at (fragment_stops base text [] v fault refl))
      ]

  -- query and fragment are units, or the run stops
  pub tail_decided : (s : State) (v : Variables) (query fragment : Option (List ℕ)) → PassesToTail base s v
      → MayBeWithoutNumberSign query
      → (MayBeUnits query × MayBeUnits fragment) ⊎ Stops base s v (tail query fragment)
  tail_decided s v None None passes without = inl (tt, tt)
  tail_decided s v None (Some fragment) passes without =
      elim (fragment_decided fragment (with_fragment (Some []) passes.fragment_variables)) [
        | inl units ↦ inl (tt, units)
        | inr stops ↦ inr (ends_step base (λ p. passes.at_fragment p fragment) stops)
      ]
  tail_decided s v (Some query) fragment passes without =
      elim (query_decided query fragment (with_query (Some []) passes.query_variables) without) [
        | inl both ↦ inl both
        | inr stops ↦ inr (ends_step base (λ p. passes.at_query p (query ++ written_after number_sign fragment)) stops)
      ]
    where
      first_mark : (fragment : Option (List ℕ)) → no_hex_first (written_after number_sign fragment) ≡ true
      first_mark None = refl
      first_mark (Some text) = refl

      after_query : (query : List ℕ) (fragment : Option (List ℕ)) (v : Variables) → is_faultless query ≡ true
          → (MayBeUnits (Some query) × MayBeUnits fragment)
          ⊎ Stops base QueryState v (query ++ written_after number_sign fragment)
      after_query query None v units = inl (IsUnits-faultless query units, tt)
      after_query query (Some fragment) v units =
          elim (fragment_decided fragment (with_fragment (Some []) (query_ended (with_more query v)))) [
            | inl is ↦ inl (IsUnits-faultless query units, is)
            | inr stops ↦ inr
                (ends_after base (query_law base query (number_sign ∷ fragment) v units)
                (ends_step base (λ p. refl) stops))
          ]

      query_decided : (query : List ℕ) (fragment : Option (List ℕ)) (v : Variables)
          → is_without number_sign query ≡ true
          → (MayBeUnits (Some query) × MayBeUnits fragment)
          ⊎ Stops base QueryState v (query ++ written_after number_sign fragment)
      query_decided query fragment v without =
          elim (cases_Bool (is_faultless query)) [
            | inl units ↦ after_query query fragment v units
            | inr fault ↦ inr
                (query_stops base query (written_after number_sign fragment) v fault without (first_mark fragment))
          ]
