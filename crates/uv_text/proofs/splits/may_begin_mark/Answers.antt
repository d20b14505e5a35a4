-- A text begins with the code point of its first byte, where that is ASCII.
use Rattle.std.proofs.Common.{◌≡◌, ℕ, ◌<◌, List, [], ◌∷◌, false, get_or, length, refl, arith}
use Rattle.std.specs.Str.{chars}
use Rattle.std.proofs.lemmas.Bool.Decides.{nat_tests}
use Rattle.std.proofs.lemmas.Str.{chars-nil}
use Rattle.uv_text.specs.Splits.{starts_with_mark}
use Rattle.uv_text.proofs.SplitsLemmas.{no_mark}
use Rattle.uv_text.proofs.splits.may_begin_mark.Goals as goal

-- no text begins with nothing
empty : (bytes : List ℕ) → length bytes < 1 → starts_with_mark (chars bytes) ≡ false
empty [] none = rw chars-nil refl
empty (b ∷ bytes) none = absurd (omega (arith, none))

pub returns-in-empty : goal.returns-in-empty
returns-in-empty c = λ no. empty c.args.bytes.now c.in-empty.len_below

pub returns-else-first-eq37 : goal.returns-else-first-eq37
returns-else-first-eq37 c = λ no.
    let small : get_or c.args.bytes.now 0 0 < 128 = grind (arith, nat_tests, no, c.is_ascii.ensures) in
    no_mark c.args.bytes.now c.in-len1-up.len_at_least small c.if-first-eq37.false
