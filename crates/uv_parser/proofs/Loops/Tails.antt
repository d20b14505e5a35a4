-- How a run of the parser machine ends after a path: at the end of the text, or through a query, a fragment, or both.
use Rattle.std.proofs.Common.{◌≡◌, ℕ, false, List, [], ◌∷◌, ◌++◌, Option, Some, None, refl, append-nil}
use Rattle.std.specs.Prelude.{◌||◌, is_some, option_map}
use Rattle.uv_model.specs.Ascii.{slash, question_mark, number_sign}
use Rattle.uv_model.specs.Encoding.{encoded}
use Rattle.uv_model.specs.Parts.{written_after}
use Rattle.uv_model.specs.Path.{starts_with_slash}
use Rattle.uv_model.specs.Units.{IsUnits}
use Rattle.uv_model.specs.Records.Url.{Url}
use Rattle.uv_model.specs.Valid.{MayBeUnits}
use Rattle.uv_parser.specs.Machine.{State, Variables, turn, onward, to_query, to_fragment, QueryState, FragmentState}
use Rattle.uv_parser.specs.Machine.{emptied, with_query, with_fragment, with_more, query_ended, is_special, begins}
use Rattle.uv_parser.specs.Machine.{begins_tail}
use Rattle.uv_parser.proofs.Running.Steps.{Ends, ends_after, ends_onward, ends_step}
use Rattle.uv_model.proofs.Texts.UnitsLemmas.{is_faultless-units}
use Rattle.uv_parser.proofs.Loops.Looping.{query_law, fragment_law}

-- the query and the fragment of a text, each after its mark
abbrev pub tail : Option (List ℕ) → Option (List ℕ) → List ℕ
tail query fragment = written_after question_mark query ++ written_after number_sign fragment

-- the variables with no buffer and no fragment
abbrev pub bare : Variables → Variables
bare v = emptied (with_fragment None v)

-- the text's query, encoded for the scheme, otherwise the query that the URL has
abbrev pub query_given : Option (List ℕ) → Variables → Option (List ℕ)
query_given None v = v.url.query
query_given (Some query) v = Some (encoded (is_special v.url.scheme) query)

-- the URL with this query and this fragment
abbrev pub with_tail : Option (List ℕ) → Option (List ℕ) → Variables → Url
with_tail query fragment v =
    record (v.url) { query = query_given query v; fragment = option_map (encoded false) fragment }

-- The rows of a state that ends a path: at the end it is done, and `?` and `#` begin the query and the fragment.
pub record TurnsToTail (base : Option Url) (s : State) (v v₁ : Variables) : Type 0 where
  pub at_end : (p : ℕ) → turn base s p v [] ≡ onward s (bare v₁)
  pub at_query : (p : ℕ) (rest : List ℕ) → turn base s p v (question_mark ∷ rest) ≡ to_query (bare v₁)
  pub at_fragment : (p : ℕ) (rest : List ℕ) → turn base s p v (number_sign ∷ rest) ≡ to_fragment (bare v₁)

module _ (base : Option Url) where
  -- a fragment that has begun ends the run at its end
  pub fragment_ends : (cs : List ℕ) (v : Variables) → IsUnits cs
      → Ends base FragmentState (with_fragment (Some []) v) cs
      (with_fragment (Some (encoded false cs)) v).url
  fragment_ends cs v units =
      rw append-nil at
      (ends_after base (fragment_law base cs [] [] v (is_faultless-units cs units)) (ends_onward base (λ p. refl)))

  -- a query that has begun ends the run at its end, or at the end of a fragment after it
  pub query_ends : (cs : List ℕ) (fragment : Option (List ℕ)) (v : Variables) → IsUnits cs → MayBeUnits fragment
      → Ends base QueryState (with_query (Some []) (bare v)) (cs ++ written_after number_sign fragment)
      (with_tail (Some cs) fragment v)
  query_ends cs None v units fragment_units =
      ends_after base (query_law base cs [] (with_query (Some []) (bare v)) (is_faultless-units cs units))
      (ends_onward base (λ p. refl))
  query_ends cs (Some fragment) v units fragment_units =
      ends_after base
      (query_law base cs (number_sign ∷ fragment) (with_query (Some []) (bare v)) (is_faultless-units cs units))
      (ends_step base (λ p. refl)
      (fragment_ends fragment (query_ended (with_more cs (with_query (Some []) (bare v)))) fragment_units))

  -- after a path the query and the fragment, where there are any, end the run
  pub tail_ends : (s : State) (v v₁ : Variables) (query fragment : Option (List ℕ))
      → TurnsToTail base s v v₁ → MayBeUnits query → MayBeUnits fragment
      → Ends base s v (tail query fragment) (with_tail query fragment v₁)
  tail_ends s v v₁ None None turns query_units fragment_units = ends_onward base turns.at_end
  tail_ends s v v₁ None (Some fragment) turns query_units fragment_units =
      ends_step base (λ p. turns.at_fragment p fragment) (fragment_ends fragment (bare v₁) fragment_units)
  tail_ends s v v₁ (Some query) fragment turns query_units fragment_units =
      ends_step base (λ p. turns.at_query p (query ++ written_after number_sign fragment))
      (query_ends query fragment v₁ query_units fragment_units)

-- `?` or `#` begins a tail where there is a query or a fragment
pub tail_begins : (query fragment : Option (List ℕ))
    → begins_tail (tail query fragment) ≡ (is_some query || is_some fragment)
tail_begins (Some query) fragment = refl
tail_begins None (Some fragment) = refl
tail_begins None None = refl

-- a tail doesn't begin with `/`, and so neither does a path that doesn't, with a tail after it
pub no_slash_before_tail : (path : List ℕ) (query fragment : Option (List ℕ)) → starts_with_slash path ≡ false
    → begins slash (path ++ tail query fragment) ≡ false
no_slash_before_tail (c ∷ rest) query fragment start = start
no_slash_before_tail [] (Some text) fragment start = refl
no_slash_before_tail [] None (Some text) start = refl
no_slash_before_tail [] None None start = refl
