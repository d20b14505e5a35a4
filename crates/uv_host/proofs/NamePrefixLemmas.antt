-- The prefix of a text that goes on as a name does.
use Rattle.std.proofs.Common.{◌≡◌, ◌≢◌, ℕ, zero, suc, ◌+◌, ◌-◌, ◌≤◌, Bool, true, false, ◌==◌, List, [], ◌∷◌, ◌++◌, take}
use Rattle.std.proofs.Common.{drop, add-zero, refl, sym, ap, ◌∙◌, subst, inl, inr, arith, eqb-true, ne_eqb}
use Rattle.std.specs.Prelude.{slice_index}
use Rattle.std.proofs.lemmas.List.{get_or-drop, length-drop}
use Rattle.std.proofs.lemmas.Bool.{cases_Bool, cases_lt, false≢true}
use Rattle.std.proofs.Math.Seq.{take-suc}
use Rattle.uv_model.specs.Ascii.{full_stop, hyphen}
use Rattle.uv_model.proofs.Hosts.LastLabelLemmas.{without_root-stop}
use Rattle.uv_host.specs.PlainNames.{IsJoined, goes_on, is_chain, is_rooted_chain, is_sign, signed_before}
use Rattle.uv_host.proofs.ChainLemmas.{end_other, no_stop_sign}

-- code points that go on are a chain where the last is a letter or a digit
pub chain_prefix : (signed : Bool) (text : List ℕ) (n : ℕ) → IsJoined signed text n
    → is_chain signed (take n text) ≡ signed_before signed text n
chain_prefix signed text zero goes = refl
chain_prefix signed [] (suc n) goes = absurd (omega (arith, goes.inside))
chain_prefix signed (c ∷ rest) (suc n) goes =
    let first : goes_on signed c ≡ true = goes.each 0 (omega arith) in
    let more : IsJoined (is_sign c) rest n = record {
      inside = omega (arith, goes.inside);
      each = λ k below. before k (goes.each (suc k) (omega (arith, below)));
    } in
    rw first (chain_prefix (is_sign c) rest n more ∙ last n)
  where
    before : (k : ℕ) → goes_on (signed_before signed (c ∷ rest) (suc k)) (slice_index (c ∷ rest) (suc k)) ≡ true
        → goes_on (signed_before (is_sign c) rest k) (slice_index rest k) ≡ true
    before zero goes = goes
    before (suc k) goes = goes

    last : (n : ℕ) → signed_before (is_sign c) rest n ≡ signed_before signed (c ∷ rest) (suc n)
    last zero = refl
    last (suc n) = refl

-- more that go on after them
pub goes_further : (text : List ℕ) (end ahead : ℕ) → IsJoined false text end
    → IsJoined (signed_before false text end) (drop end text) ahead → IsJoined false text (end + ahead)
goes_further text end ahead prefix after =
    let long = length-drop end text in
    let whole = prefix.inside in
    let more = after.inside in
    record {
      inside = omega arith;
      each = λ k below. elim (cases_lt k end) [
        | inl here ↦ prefix.each k here
        | inr later ↦ (
            let at : end + (k - end) ≡ k = omega arith in
            let goes = after.each (k - end) (omega arith) in
            subst (λ j. goes_on (signed_before false text j) (slice_index text j) ≡ true) at
            (moved (k - end) goes)
            )
      ];
    }
  where
    moved : (j : ℕ)
        → goes_on (signed_before (signed_before false text end) (drop end text) j)
        (slice_index (drop end text) j)
        ≡ true
        → goes_on (signed_before false text (end + j)) (slice_index text (end + j)) ≡ true
    moved zero goes = rw (add-zero end) (rw (get_or-drop end text 0 0, add-zero end) at goes)
    moved (suc j) goes =
        let next : end + suc j ≡ suc (end + j) = omega arith in
        rw next (rw (get_or-drop end text (suc j) 0, get_or-drop end text j 0, next) at goes)

-- whether a letter or a digit is the last of so many
pub signed_at : (text : List ℕ) (end n : ℕ)
    → signed_before false text (end + suc n) ≡ is_sign (slice_index (drop end text) n)
signed_at text end n =
    let next : end + suc n ≡ suc (end + n) = omega arith in
    rw next (ap is_sign (sym (get_or-drop end text n 0)))

-- a prefix that goes on and doesn't end with a hyphen is a name, with the root's full stop or without it
pub name_goes_on : (text : List ℕ) (end : ℕ) → IsJoined false text end → 1 ≤ end
    → slice_index text (end - 1) ≢ hyphen
    → is_rooted_chain (take end text) ≡ true
name_goes_on text zero goes some other = absurd (omega (arith, some))
name_goes_on text (suc n) goes some other =
    let at : suc n - 1 ≡ n = omega arith in
    let last = slice_index text n in
    let on : goes_on (signed_before false text n) last ≡ true = goes.each n (omega arith) in
    let no_hyphen : last ≢ hyphen = rw at at other in
    elim (cases_Bool (is_sign last)) [
      | inl sign ↦
          let name : is_chain false (take (suc n) text) ≡ true = chain_prefix false text (suc n) goes ∙ sign in
          rw (end_other false (take (suc n) text) full_stop no_stop_sign refl name) name
      | inr mark ↦
          let both = stop_after (signed_before false text n) last mark on no_hyphen in
          let inside = goes.inside in
          let prefix : IsJoined false text n = record {
            inside = omega arith;
            each = λ k below. goes.each k (omega arith);
          } in
          let parts : take (suc n) text ≡ take n text ++ full_stop ∷ []
          = take-suc text n 0 (omega arith) ∙ ap (λ (d : ℕ). take n text ++ d ∷ []) both.0 in
          ap is_rooted_chain parts
          ∙ ap (is_chain false) (without_root-stop (take n text))
          ∙ (chain_prefix false text n prefix ∙ both.1)
    ]
  where
    stop_after : (signed : Bool) (c : ℕ) → is_sign c ≡ false → goes_on signed c ≡ true → c ≢ hyphen
        → (c ≡ full_stop) × (signed ≡ true)
    stop_after true c none on other =
        let no : (c == hyphen) ≡ false = ne_eqb c hyphen other in
        let stop : (c == full_stop) ≡ true = rw (none, no) at on in
        (eqb-true c full_stop stop, refl)
    stop_after false c none on other = absurd (false≢true (rw none at on))
