-- A list that is taken line by line: one way after another.
use Rattle.std.proofs.Common.{◌≡◌, ℕ, ◌<◌, List, [], ◌++◌, Option, length, take, subst, append_assoc, append-nil}
use Rattle.std.proofs.KnownBytes.{Consumes-trans}
use Rattle.std.specs.Io.KnownBytes.{Consumes, IsAtEnd}
use Rattle.uv_lines.specs.Taking.{Keeps, Leads, Way}

-- these bytes, and then those
pub leads_on : {S : Type 0} (way other : Way S) (p q r : S) (old mid new : Option (List ℕ)) (xs ys all : List ℕ)
    → xs ++ ys ≡ all → Keeps way p old xs q mid → Leads way other q mid ys r new → Leads way other p old all r new
leads_on way other p q r old mid new xs ys all is before after = λ start first read h.
    subst (λ bytes. other start first (read ++ bytes) r new) is
    (subst (λ bytes. other start first bytes r new) (append_assoc read xs ys)
    (after start first (read ++ xs) (before start first read h)))

-- a read that gives nothing has come to the end
pub read_end : (a b c : Option (List ℕ)) (read into : List ℕ) (n : ℕ) → n ≡ 0 → 0 < length into → Consumes a b read
    → Consumes b c (take n into) → (n ≡ 0 → 0 < length into → IsAtEnd c) → Consumes a c read × IsAtEnd c
read_end a b c read into n none room before given ends = (
  subst (λ l. Consumes a c l) (append-nil read)
      (Consumes-trans a b c read [] before (subst (λ k. Consumes b c (take k into)) none given)),
  ends none room,
)
