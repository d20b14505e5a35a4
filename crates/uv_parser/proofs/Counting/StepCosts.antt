-- How many steps of the parser machine are still to come: a bound by the state, the length of the buffer and the rest
-- of the text, and tools for turns that leave fewer.
use Rattle.std.proofs.Common.{◌≡◌, ℕ, suc, ◌+◌, ◌*◌, ◌-◌, ◌<◌, ◌≤◌, Bool, true, false, ◌==◌, List, [], ◌∷◌, length}
use Rattle.std.proofs.Common.{drop, Option, Some, None, if◌then◌else◌, refl, sym, ap, ◌∙◌, length-append, arith}
use Rattle.std.specs.Char.{is_ascii_alphabetic}
use Rattle.std.proofs.lemmas.Bool.{false≢true, and_parts}
use Rattle.std.proofs.lemmas.List.{length-drop}
use Rattle.uv_model.specs.declared.host.Host.{Host}
use Rattle.uv_model.specs.Ascii.{slash}
use Rattle.uv_parser.specs.Machine.{State, SchemeStartState, SchemeState, NoSchemeState}
use Rattle.uv_parser.specs.Machine.{SpecialRelativeOrAuthorityState, PathOrAuthorityState, RelativeState}
use Rattle.uv_parser.specs.Machine.{RelativeSlashState, SpecialAuthoritySlashesState}
use Rattle.uv_parser.specs.Machine.{SpecialAuthorityIgnoreSlashesState, AuthorityState, HostState, PortState, FileState}
use Rattle.uv_parser.specs.Machine.{FileSlashState, FileHostState, PathStartState, PathState, OpaquePathState}
use Rattle.uv_parser.specs.Machine.{QueryState, FragmentState, Variables, Turn, onward, again, from_place, stop, begins}
use Rattle.uv_parser.specs.Machine.{begins_two_slashes, put, with_parsed}

-- ---- how many steps are still to come

-- the first number where the rest begins with `/`, and otherwise the second
abbrev pub by_slash : List ℕ → ℕ → ℕ → ℕ
by_slash rest slashed other = if begins slash rest then slashed else other

-- after a step from the no scheme state, with a buffer of this length
abbrev pub later_without_scheme : ℕ → List ℕ → ℕ
later_without_scheme buffered rest = by_slash rest (2 * length rest + buffered + 3) (length rest + 3)

-- after a step from the scheme start state
abbrev pub later_at_start : List ℕ → ℕ → List ℕ → ℕ
later_at_start text buffered [] = later_without_scheme buffered [] + 1
later_at_start text buffered (c ∷ rest) =
    if is_ascii_alphabetic c then length (c ∷ rest) + later_without_scheme 0 text + 1
    else later_without_scheme buffered (c ∷ rest) + 1

-- so many steps at most come after the next one, in a run on the text, from a state with a buffer of this length, with
-- this rest
abbrev pub later : List ℕ → State → ℕ → List ℕ → ℕ
later text SchemeStartState buffered rest = later_at_start text buffered rest
later text SchemeState buffered rest = length rest + later_without_scheme 0 text + 1
later text NoSchemeState buffered rest = later_without_scheme buffered rest
later text SpecialRelativeOrAuthorityState buffered rest = 2 * length rest + buffered + 1
later text PathOrAuthorityState buffered rest = 2 * length rest + buffered + 2
later text RelativeState buffered rest = by_slash rest (2 * length rest + buffered + 2) (length rest + 1)
later text RelativeSlashState buffered rest = 2 * length rest + buffered + 3
later text SpecialAuthoritySlashesState buffered rest = 2 * length rest + buffered + 1
later text SpecialAuthorityIgnoreSlashesState buffered rest = 2 * length rest + buffered + 4
later text AuthorityState buffered rest = 2 * length rest + buffered + 3
later text HostState buffered rest = length rest + 2
later text PortState buffered rest = length rest + 2
later text FileState buffered rest = length rest + 2
later text FileSlashState buffered rest = length rest + 2
later text FileHostState buffered rest = length rest + 2
later text PathStartState buffered rest = length rest + 1
later text PathState buffered rest = length rest
later text OpaquePathState buffered rest = length rest
later text QueryState buffered rest = length rest
later text FragmentState buffered rest = length rest

-- ---- turns that leave fewer steps

-- what a turn leads to leaves fewer steps than so many, or is an end
abbrev pub LeavesFewer : List ℕ → List ℕ → ℕ → Turn → Type 0
LeavesFewer text rest most stop = Unit {0}
LeavesFewer text rest most (again s v) = later text s (length v.buffer) rest < most
LeavesFewer text rest most (from_place q s v) = later text s (length v.buffer) (drop q text) < most
LeavesFewer text [] most (onward s v) = Unit {0}
LeavesFewer text (c ∷ rest) most (onward s v) = later text s (length v.buffer) rest < most

-- what a turn leads to leaves fewer steps than so many, or is an end: a record, by which the turn is known
pub record Fewer (text rest : List ℕ) (most : ℕ) (t : Turn) : Type 0 where
  pub fewer : LeavesFewer text rest most t

module _ (text : List ℕ) {rest : List ℕ} {most : ℕ} where
  -- a stop
  pub stops : Fewer text rest most stop
  stops = record { fewer = tt }

  -- this place once more, with fewer steps to come
  pub stays : (s : State) (v : Variables) → later text s (length v.buffer) rest < most
      → Fewer text rest most (again s v)
  stays s v less = record { fewer = less }

  -- another place, with fewer steps to come
  pub goes : (q : ℕ) (s : State) (v : Variables) → later text s (length v.buffer) (drop q text) < most
      → Fewer text rest most (from_place q s v)
  goes q s v less = record { fewer = less }

  -- one of two turns
  pub either : (test : Bool) {t u : Turn} → Fewer text rest most t → Fewer text rest most u
      → Fewer text rest most (if test then t else u)
  either true first second = first
  either false first second = second

-- a step onward, where a rest that is shorter by one leaves fewer steps
pub moves : (text rest : List ℕ) {most : ℕ} (s : State) (v : Variables)
    → ((others : List ℕ) → length rest ≡ suc (length others) → later text s (length v.buffer) others < most)
    → Fewer text rest most (onward s v)
moves text [] s v less = record { fewer = tt }
moves text (c ∷ rest) s v less = record { fewer = less rest refl }

-- what the host parser gives, or a stop
pub parsed : (text : List ℕ) {rest : List ℕ} {most : ℕ} (value : Option Host) (next : Host → Turn)
    → ((host : Host) → Fewer text rest most (next host)) → Fewer text rest most (with_parsed value next)
parsed text None next fewer = stops text
parsed text (Some host) next fewer = fewer host

-- ---- what the tests of a rest say

-- a rest that begins with `/` isn't empty
pub slash_is_some : (rest : List ℕ) → begins slash rest ≡ true → 1 ≤ length rest
slash_is_some [] is = absurd (false≢true is)
slash_is_some (c ∷ rest) is = omega arith

-- a rest that begins with `//` has two code points or more
pub two_slashes_are_two : (rest : List ℕ) → begins_two_slashes rest ≡ true → 2 ≤ length rest
two_slashes_are_two [] is = absurd (false≢true is)
two_slashes_are_two (c ∷ rest) is = omega (arith, slash_is_some rest (and_parts (c == slash) (begins slash rest) is).1)

-- zero is the successor of no number
pub zero_not_suc : (n : ℕ) → 0 ≡ suc n → ⊥
zero_not_suc n e = omega (arith, e)

-- the rest from a place on is as long as the text after it
pub rest_length : (text : List ℕ) (p : ℕ) (rest : List ℕ) → drop p text ≡ rest → length rest ≡ length text - p
rest_length text p rest e = sym (ap length e) ∙ length-drop p text

-- a buffer with a code point more
pub put_length : (c : ℕ) (v : Variables) → length (put c v).buffer ≡ length v.buffer + 1
put_length c v = length-append v.buffer (c ∷ [])
