-- Tools for laws of the parser machine: one step, and many steps one after the other, counted and not counted. Each
-- holds of every state, over any base and any text.
use Rattle.std.proofs.Common.{◌≡◌, ℕ, zero, suc, ◌+◌, List, [], ◌∷◌, Option, drop, refl, sym, ap, subst, ◌∙◌, drop-drop}
use Rattle.std.proofs.Common.{zero-add, arith}
use Rattle.uv_model.specs.Records.Url.{Url}
use Rattle.uv_parser.specs.Machine.{State, Variables, onward, again, from_place, stop, turn}
use Rattle.uv_parser.specs.Run.{Machine, Outcome, Done, Stopped, Going, settle, step, run_from}

-- the machine goes on in this state, at this place, with these variables
abbrev pub at : State → ℕ → Variables → Outcome
at s p v = Going (record { state = s; pointer = p; variables = v })

-- the rest from the next place on
pub drop_one : (text : List ℕ) (p c : ℕ) (rest : List ℕ) → drop p text ≡ c ∷ rest → drop (p + 1) text ≡ rest
drop_one text p c rest e = sym (drop-drop 1 p text) ∙ ap (λ r. drop 1 r) e

-- the rest from the place after the next on
pub drop_two : (text : List ℕ) (p c d : ℕ) (rest : List ℕ) → drop p text ≡ c ∷ d ∷ rest → drop (p + 2) text ≡ rest
drop_two text p c d rest e = sym (drop-drop 2 p text) ∙ ap (λ r. drop 2 r) e

-- how a run ends: with this URL, or stopped somewhere
pub data Ending : Type 0 where
  done_with : Url → Ending
  stopped : Ending

-- the outcome is such an end
abbrev pub HasEnded : Ending → Outcome → Type 0
HasEnded (done_with url) o = o ≡ Done url
HasEnded stopped o = (place : ℕ) × (o ≡ Stopped place)

-- ---- exact counts of steps

module _ (base : Option Url) (text : List ℕ) where
  -- one step is the row of the state, settled at the pointer's place
  pub step_at : (s : State) (p : ℕ) (v : Variables) (rest : List ℕ) → drop p text ≡ rest
      → step base text (record { state = s; pointer = p; variables = v }) ≡ settle p rest (turn base s p v rest)
  unfolding step
  step_at s p v rest e = ap (λ r. settle p r (turn base s p v r)) e

  -- so many steps lead from one outcome to another
  abbrev pub Leads : Outcome → ℕ → Outcome → Type 0
  Leads from n to = run_from base text from n ≡ to

  -- no step leads nowhere
  pub leads_none : (from : Outcome) → Leads from 0 from
  unfolding run_from
  leads_none from = refl

  -- a step, and then more of them
  pub leads_step : (m : Machine) (k : ℕ) (next to : Outcome)
      → step base text m ≡ next → Leads next k to → Leads (Going m) (suc k) to
  unfolding run_from
  leads_step m k next to e later = ap (λ o. run_from base text o k) e ∙ later

  -- a run that has ended with a URL stays there
  pub leads_done : (url : Url) (k : ℕ) → Leads (Done url) k (Done url)
  unfolding run_from
  leads_done url zero = refl
  leads_done url (suc k) = refl

  -- a run that has stopped stays there
  pub leads_stopped : (p k : ℕ) → Leads (Stopped p) k (Stopped p)
  unfolding run_from
  leads_stopped p zero = refl
  leads_stopped p (suc k) = refl

  -- many steps, taken in two parts
  pub run_in_parts : (from : Outcome) (j k : ℕ)
      → run_from base text from (j + k) ≡ run_from base text (run_from base text from j) k
  unfolding run_from
  run_in_parts from zero k = ap (run_from base text from) (zero-add k)
  run_in_parts (Done url) (suc j) k = leads_done url (suc j + k) ∙ sym (leads_done url k)
  run_in_parts (Stopped p) (suc j) k = leads_stopped p (suc j + k) ∙ sym (leads_stopped p k)
  run_in_parts (Going m) (suc j) k =
      let count : suc j + k ≡ suc (j + k) = omega arith in
      ap (run_from base text (Going m)) count ∙ run_in_parts (step base text m) j k

  -- some steps, and then more of them
  pub leads_then : (from next to : Outcome) (j k : ℕ) → Leads from j next → Leads next k to → Leads from (j + k) to
  leads_then from next to j k first later = run_in_parts from j k ∙ (ap (λ o. run_from base text o k) first ∙ later)

  -- a run that has ended stays there
  pub leads_ended : (ending : Ending) (o : Outcome) (k : ℕ) → HasEnded ending o
      → HasEnded ending (run_from base text o k)
  leads_ended (done_with url) o k e = ap (λ (x : Outcome). run_from base text x k) e ∙ leads_done url k
  leads_ended stopped o k (q, e) = (q, ap (λ (x : Outcome). run_from base text x k) e ∙ leads_stopped q k)

-- ---- laws over the rest of a text

-- From a state with the one rest some steps lead to a state with the other rest, in each text and at each place.
pub record Reaches (base : Option Url) (s : State) (v : Variables) (before : List ℕ) (s' : State) (h' : Variables)
    (after : List ℕ) : Type 0 where
  pub goes : (text : List ℕ) (p : ℕ) → drop p text ≡ before
      → (q : ℕ) × (drop q text ≡ after) × (n : ℕ) × Leads base text (at s p v) n (at s' q h')

-- From a state with this rest a run has ended so after some steps, in each text and at each place.
pub record EndsAs (base : Option Url) (s : State) (v : Variables) (rest : List ℕ) (ending : Ending) : Type 0 where
  pub goes : (text : List ℕ) (p : ℕ) → drop p text ≡ rest
      → (n : ℕ) × HasEnded ending (run_from base text (at s p v) n)

-- it is done with this URL
abbrev pub Ends : Option Url → State → Variables → List ℕ → Url → Type 0
Ends base s v rest url = EndsAs base s v rest (done_with url)

-- it has stopped
abbrev pub Stops : Option Url → State → Variables → List ℕ → Type 0
Stops base s v rest = EndsAs base s v rest stopped

module _ (base : Option Url) where
  -- no step stays where it is
  pub reaches_none : (s : State) (v : Variables) (rest : List ℕ) → Reaches base s v rest s v rest
  reaches_none s v rest = record { goes = λ text p e. (p, e, 0, leads_none base text (at s p v)) }

  -- a step past one code point, and then more of them
  pub onward_then : {s : State} {v : Variables} {c : ℕ} {rest : List ℕ} {s₁ : State} {v₁ : Variables}
      {s₂ : State} {v₂ : Variables} {after : List ℕ}
      → ((p : ℕ) → turn base s p v (c ∷ rest) ≡ onward s₁ v₁)
      → Reaches base s₁ v₁ rest s₂ v₂ after → Reaches base s v (c ∷ rest) s₂ v₂ after
  onward_then {s} {v} {c} {rest} {s₁} {v₁} {s₂} {v₂} {after} row later = record {
    goes = λ text p e.
        let (q, there, n, leads) = later.goes text (p + 1) (drop_one text p c rest e) in
        let one : step base text (record { state = s; pointer = p; variables = v }) ≡ at s₁ (p + 1) v₁
        = step_at base text s p v (c ∷ rest) e ∙ ap (settle p (c ∷ rest)) (row p) in
        (q, there, suc n, leads_step base text _ n _ _ one leads);
  }

  -- at the end of the text a step onward ends the run
  pub ends_onward : {s : State} {v : Variables} {s₁ : State} {v₁ : Variables}
      → ((p : ℕ) → turn base s p v [] ≡ onward s₁ v₁) → Ends base s v [] v₁.url
  ends_onward {s} {v} {s₁} {v₁} row = record {
    goes = λ text p e.
        let one : step base text (record { state = s; pointer = p; variables = v }) ≡ Done v₁.url
        = step_at base text s p v [] e ∙ ap (settle p []) (row p) in
        (1, leads_step base text _ 0 _ _ one (leads_none base text (Done v₁.url)));
  }

  -- a row that stops
  pub stops_here : {s : State} {v : Variables} {rest : List ℕ} → ((p : ℕ) → turn base s p v rest ≡ stop)
      → Stops base s v rest
  stops_here {s} {v} {rest} row = record {
    goes = λ text p e.
        let one : step base text (record { state = s; pointer = p; variables = v }) ≡ Stopped p
        = step_at base text s p v rest e ∙ ap (settle p rest) (row p) in
        (1, (p, leads_step base text _ 0 _ _ one (leads_none base text (Stopped p))));
  }

  -- a step that settles at a place, from which on the run ends
  ends_next : {s : State} {v : Variables} {rest : List ℕ} {ending : Ending}
      → ((text : List ℕ) (p : ℕ) → drop p text ≡ rest
      → (n : ℕ) × HasEnded ending (run_from base text (settle p rest (turn base s p v rest)) n))
      → EndsAs base s v rest ending
  ends_next {s} {v} {rest} {ending} last = record {
    goes = λ text p e.
        let (n, ended) = last text p e in (
          suc n,
          subst (HasEnded ending) (sym (leads_step base text _ n _ _ (step_at base text s p v rest e) refl)) ended,
        );
  }

  -- a step past one code point, and after it the end
  pub ends_step : {s : State} {v : Variables} {c : ℕ} {rest : List ℕ} {s₁ : State} {v₁ : Variables} {ending : Ending}
      → ((p : ℕ) → turn base s p v (c ∷ rest) ≡ onward s₁ v₁)
      → EndsAs base s₁ v₁ rest ending → EndsAs base s v (c ∷ rest) ending
  ends_step {s} {v} {c} {rest} {s₁} {v₁} {ending} row last =
      ends_next (λ text p e. rw (row p) (last.goes text (p + 1) (drop_one text p c rest e)))

  -- a step that stays at its place, and after it the end
  pub ends_again : {s : State} {v : Variables} {rest : List ℕ} {s₁ : State} {v₁ : Variables} {ending : Ending}
      → ((p : ℕ) → turn base s p v rest ≡ again s₁ v₁)
      → EndsAs base s₁ v₁ rest ending → EndsAs base s v rest ending
  ends_again {s} {v} {rest} {s₁} {v₁} {ending} row last =
      ends_next (λ text p e. rw (row p) (last.goes text p e))

  -- a step past two code points, and after it the end
  pub ends_past_two : {s : State} {v : Variables} {c d : ℕ} {rest : List ℕ} {s₁ : State} {v₁ : Variables}
      {ending : Ending}
      → ((p : ℕ) → turn base s p v (c ∷ d ∷ rest) ≡ from_place (p + 2) s₁ v₁)
      → EndsAs base s₁ v₁ rest ending → EndsAs base s v (c ∷ d ∷ rest) ending
  ends_past_two {s} {v} {c} {d} {rest} {s₁} {v₁} {ending} row last =
      ends_next (λ text p e. rw (row p) (last.goes text (p + 2) (drop_two text p c d rest e)))

  -- a law, and after it the end
  pub ends_after : {s : State} {v : Variables} {before : List ℕ} {s₁ : State} {v₁ : Variables} {after : List ℕ}
      {ending : Ending}
      → Reaches base s v before s₁ v₁ after → EndsAs base s₁ v₁ after ending → EndsAs base s v before ending
  ends_after {s} {v} {before} {s₁} {v₁} {after} {ending} first last = record {
    goes = λ text p e.
        let (q, there, j, leads) = first.goes text p e in
        let (k, ended) = last.goes text q there in
        (j + k, subst (HasEnded ending) (sym (leads_then base text _ _ _ j k leads refl)) ended);
  }
