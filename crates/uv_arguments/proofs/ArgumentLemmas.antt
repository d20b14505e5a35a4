-- A further word.
use Rattle.std.proofs.Common.{◌≡◌, ◌<◌, ◌+◌, ℕ, List, [], ◌∷◌, ◌++◌, Option, Some, get_or, length, below_more, subst}
use Rattle.std.proofs.Common.{arith, sym, ◌==◌, ◌≢◌, ◌⊎◌, true, false, None, ap, inl, inr, nat_lt, refl}
use Rattle.std.proofs.Math.Dec.{eqb}
use Rattle.std.proofs.lemmas.Bool.{lt-ltb}
use Rattle.std.proofs.lemmas.Bool.Decides.{eqb_tells}
use Rattle.std.specs.List.{before_first, position, position_or_len}
use Rattle.std.proofs.lemmas.Grind.{common_steps}
use Rattle.std.proofs.Math.ListN.{get_or-append}
use Rattle.std.proofs.Math.Seq.{get_or-append_seam}
use Rattle.uv_arguments.specs.Arguments.{IsWordAt, said_of, without_hyphen}

-- the words so far are the arguments' words, by their numbers
abbrev pub AreFirstWords : (ℕ → Option (List ℕ) → Type 0) → List (List ℕ) → Type 0
AreFirstWords gives words =
    (number : ℕ) → number < length words → IsWordAt (gives number) number (Some (get_or words number []))

-- with the word of the next argument they are still the first words
pub first_words-pushed : (gives : ℕ → Option (List ℕ) → Type 0) (words more : List (List ℕ)) (word : List ℕ) (n : ℕ)
    → length words ≡ n → AreFirstWords gives words → IsWordAt (gives n) n (Some word) → more ≡ words ++ word ∷ []
    → (length more ≡ n + 1) × AreFirstWords gives more
first_words-pushed gives words more word n long each next is =
    let longer : length more ≡ n + 1 = rw is (grind (arith, common_steps)) in
    let Holds : ℕ → List ℕ → Type 0 = λ k text. IsWordAt (gives k) k (Some text) in
    let last : Holds (length words) word = subst (λ (k : ℕ). Holds k word) (sym long) next in
    let seam : Holds (length words) (get_or (words ++ word ∷ []) (length words) []) =
    subst (Holds (length words)) (sym (get_or-append_seam words word [] [])) last in (
      longer,
      subst (AreFirstWords gives) (sym is) (λ k within.
          below_more (λ j. Holds j (get_or (words ++ word ∷ []) j [])) (length words)
          (λ j u. subst (Holds j) (sym (get_or-append words (word ∷ []) [] j u)) (each j u)) seam k
          (let bound : k < length words + 1 = grind (arith, common_steps) in bound)),
    )

-- ---- arguments that aren't UTF-8

-- what is after a hyphen
pub without_some : (text rest : List ℕ) → text ≡ 0x2D ∷ rest → rest ≡ without_hyphen text
without_some text rest is = rw is refl

-- there is no hyphen before the rest
not_hyphen : (b : ℕ) (rest : List ℕ) → ((other : List ℕ) → b ∷ rest ≢ 0x2D ∷ other)
    → ((eqb b 0x2D ≡ true) × (b ≡ 0x2D)) ⊎ ((eqb b 0x2D ≡ false) × (b ≢ 0x2D))
    → b ∷ rest ≡ without_hyphen (b ∷ rest)
not_hyphen b rest none (inl (test, same)) = absurd (none rest (ap (λ (n : ℕ). n ∷ rest) same))
not_hyphen b rest none (inr (test, other)) = rw test refl

-- there is no hyphen
pub without_none : (text : List ℕ) → ((rest : List ℕ) → text ≢ 0x2D ∷ rest) → text ≡ without_hyphen text
without_none [] none = refl
without_none (b ∷ rest) none = not_hyphen b rest none (eqb_tells b 0x2D)

-- the text has no NUL
pub said_none : (text : List ℕ) → position_or_len (λ b. b == 0) text ≡ length text → None ≡ said_of text
said_none text none =
    let nowhere : position (λ b. b == 0) text ≡ None = grind (arith, common_steps) in
    rw nowhere refl

-- what is before the first NUL
pub said_before : (text before said : List ℕ) → position_or_len (λ b. b == 0) text < length text
    → before ≡ before_first (λ b. b == 0) text → said ≡ without_hyphen before → Some said ≡ said_of text
said_before text before said within is says =
    let at = position_or_len (λ b. b == 0) text in
    let there : nat_lt at (length text) ≡ true = lt-ltb at (length text) within in
    rw (there, says, is) refl
