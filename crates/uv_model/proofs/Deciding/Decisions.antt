-- Decisions: a proof where computing finds one, otherwise nothing. So what holds of a text that is written out is
-- proved by `proof_of` a decision and `refl`. If a decision finds nothing, it leaves the question open.
use Rattle.std.proofs.Common.{◌≡◌, ◌≢◌, ℕ, ◌<◌, ◌≤◌, ◌⊎◌, Bool, true, false, ◌==◌, List, [], ◌∷◌, Option, Some, None}
use Rattle.std.proofs.Common.{refl, sym, ap, ◌∙◌, inl, inr, eq-eqb, eqb-true, leb-true, ltb-true}
use Rattle.std.specs.Prelude.{IsSome, drop, leb, ltb, option_map}
use Rattle.std.specs.Str.{bytes_eq}
use Rattle.std.proofs.lemmas.Bool.{false≢true}
use Rattle.std.proofs.lemmas.Slice.Eq.{bytes_eq-Decides}
use Rattle.uv_model.specs.declared.scheme.Class.{Class}
use Rattle.uv_model.specs.declared.scheme.Class.TheVariants.{SpecialNotFile, File, Other}

-- what a decision finds is proved
pub proof_of : {A : Type 0} → (decision : Option A) → IsSome decision → A
proof_of (Some proof) found = proof
proof_of None found = absurd (false≢true found)

-- ---- decisions of several parts

-- a decision with the proof that another one found
abbrev pub and_then : {A B : Type 0} → Option A → (A → Option B) → Option B
and_then None next = None
and_then (Some proof) next = next proof

-- two parts
abbrev pub both : {A B : Type 0} → Option A → Option B → Option (A × B)
both first second = and_then first (λ a. option_map (λ b. (a, b)) second)

-- three parts
abbrev pub all_three : {A B C : Type 0} → Option A → Option B → Option C → Option (A × B × C)
all_three first second third = and_then first (λ a. and_then second (λ b. option_map (λ c. (a, b, c)) third))

-- four parts
abbrev pub all_four : {A B C D : Type 0} → Option A → Option B → Option C → Option D → Option (A × B × C × D)
all_four first second third fourth =
    and_then first (λ a. and_then second (λ b. and_then third (λ c. option_map (λ d. (a, b, c, d)) fourth)))

-- one of two parts, the first where both are found
abbrev pub either : {A B : Type 0} → Option A → Option B → Option (A ⊎ B)
either (Some a) second = Some (inl a)
either None second = option_map (λ b. inr b) second

-- ---- tests

-- a test that holds
abbrev pub is_true : (test : Bool) → Option (test ≡ true)
is_true true = Some refl
is_true false = None

-- a test that doesn't hold
abbrev pub is_false : (test : Bool) → Option (test ≡ false)
is_false true = None
is_false false = Some refl

-- ---- numbers

-- two numbers that are the same
abbrev pub same_number : (a b : ℕ) → Option (a ≡ b)
same_number a b = option_map (λ same. eqb-true a b same) (is_true (a == b))

-- another number
abbrev pub other_number : (a b : ℕ) → Option (a ≢ b)
other_number a b = option_map (λ differ. λ same. false≢true (sym differ ∙ eq-eqb a b same)) (is_false (a == b))

-- a number that isn't a larger
abbrev pub at_most : (a b : ℕ) → Option (a ≤ b)
at_most a b = option_map (λ least. leb-true a b least) (is_true (leb a b))

-- a smaller number
abbrev pub below : (a b : ℕ) → Option (a < b)
below a b = option_map (λ less. ltb-true a b less) (is_true (ltb a b))

-- ---- texts

-- two texts that are the same
abbrev pub same_text : (a b : List ℕ) → Option (a ≡ b)
same_text a b = option_map (λ same. (bytes_eq-Decides a b).0 same) (is_true (bytes_eq a b))

-- another text
abbrev pub other_text : (a b : List ℕ) → Option (a ≢ b)
other_text a b =
    option_map (λ differ. λ same. false≢true (sym differ ∙ (bytes_eq-Decides a b).1 same)) (is_false (bytes_eq a b))

-- lists with the same head and the same rest
pub same_parts : {A : Type 0} → (a b : A) (xs ys : List A) → a ≡ b → xs ≡ ys → a ∷ xs ≡ b ∷ ys
same_parts a b xs ys head rest = cc

-- two lists that have the same texts in the same order
abbrev pub same_texts : (xs ys : List (List ℕ)) → Option (xs ≡ ys)
same_texts [] [] = Some refl
same_texts [] (b ∷ ys) = None
same_texts (a ∷ xs) [] = None
same_texts (a ∷ xs) (b ∷ ys) =
    and_then (same_text a b) (λ head. option_map (λ rest. same_parts a b xs ys head rest) (same_texts xs ys))

-- the code point at a place of the text, for a decision on it and on what follows it
abbrev pub at_place : {V : Type 0} → (text : List ℕ) (place : ℕ)
    → ((c : ℕ) (rest : List ℕ) → drop place text ≡ c ∷ rest → Option V) → Option V
at_place {V} text place next = from (drop place text) refl
  where
    from : (here : List ℕ) → drop place text ≡ here → Option V
    from [] is = None
    from (c ∷ rest) is = next c rest is

-- ---- what may be absent

-- it is absent
abbrev pub is_absent : {A : Type 0} → (o : Option A) → Option (o ≡ None)
is_absent None = Some refl
is_absent (Some a) = None

-- it is there, for a decision on it
abbrev pub present : {A V : Type 0} → (o : Option A) → ((a : A) → o ≡ Some a → Option V) → Option V
present None next = None
present (Some a) next = next a refl

-- both are absent, or the same
abbrev pub same_option : {A : Type 0} → ((a b : A) → Option (a ≡ b)) → (o p : Option A) → Option (o ≡ p)
same_option same None None = Some refl
same_option same None (Some b) = None
same_option same (Some a) None = None
same_option same (Some a) (Some b) = option_map (λ is. ap Some is) (same a b)

-- ---- classes

-- the class is File
abbrev pub is_file_class : (class : Class) → Option (class ≡ File)
is_file_class File = Some refl
is_file_class SpecialNotFile = None
is_file_class Other = None

-- the class is Other
abbrev pub is_other_class : (class : Class) → Option (class ≡ Other)
is_other_class Other = Some refl
is_other_class SpecialNotFile = None
is_other_class File = None

-- SpecialNotFile is another class than Other
pub special_not_other : SpecialNotFile ≢ Other
special_not_other same = cc

-- and so is File
pub file_not_other : File ≢ Other
file_not_other same = cc

-- the class isn't Other
abbrev pub isnt_other_class : (class : Class) → Option (class ≢ Other)
isnt_other_class Other = None
isnt_other_class SpecialNotFile = Some special_not_other
isnt_other_class File = Some file_not_other
