-- The first line of bytes, and the lines after it.
use Rattle.std.proofs.Common.{◌≡◌, ◌∙◌, ℕ, suc, ◌+◌, ◌-◌, ◌≤◌, ◌<◌, ◌==◌, Bool, true, false, List, [], ◌∷◌, ◌++◌}
use Rattle.std.proofs.Common.{length, take, drop, map, refl, sym, ap, subst, arith, if◌then◌else◌, append_assoc, inl}
use Rattle.std.proofs.Common.{inr}
use Rattle.std.specs.Prelude.{None, slice_index, slice_range, zero}
use Rattle.std.specs.Str.Lines.{strip_carriage_return}
use Rattle.std.proofs.Math.ListN.{get_or}
use Rattle.std.proofs.lemmas.Bool.{eqb-true}
use Rattle.std.proofs.lemmas.List.{drop-drop, get_or-drop, get_or-take, length-drop, length-take-le, take-append-drop}
use Rattle.std.proofs.lemmas.List.{take-take, take_all}
use Rattle.uv_lines.specs.Lines.{line_feed, lines_of, open_lines, split}
use Rattle.uv_lines.proofs.LineLemmas.{join, split-append, split-closing}
use Rattle.urlcheck_c.specs.declared.finding.Finding.{Finding}
use Rattle.urlcheck_c.specs.declared.lines.FirstLine.{FirstLine}
use Rattle.urlcheck_c.specs.Answer as answer
use Rattle.urlcheck_c.specs.NextLine.{IsFirstLine, IsLineEnd, IsLineStart, Passes}

-- ---- the first line

-- a line without the CR at its end is a prefix of it
stripped_by : (b : Bool) (line : List ℕ)
    → (if b then take (length line - 1) line else line)
    ≡ take (length (if b then take (length line - 1) line else line)) line
stripped_by true line = sym (ap (λ n. take n line) (length-take-le (length line - 1) line (omega arith)))
stripped_by false line = sym (take_all (length line) line (omega arith))

strip_prefix : (line : List ℕ) → strip_carriage_return line ≡ take (length (strip_carriage_return line)) line
strip_prefix line = stripped_by (slice_index line (length line - 1) == 13) line

shorter_by : (b : Bool) (line : List ℕ) → length (if b then take (length line - 1) line else line) ≤ length line
shorter_by true line = rw (length-take-le (length line - 1) line (omega arith)) (omega arith)
shorter_by false line = omega arith

strip_shorter : (line : List ℕ) → length (strip_carriage_return line) ≤ length line
strip_shorter line = shorter_by (slice_index line (length line - 1) == 13) line

-- the text of a closed line is at the start of what the line is at the start of
pub closed_text : (rest : List ℕ) (at : ℕ) → at ≤ length rest
    → strip_carriage_return (take at rest) ≡ take (length (strip_carriage_return (take at rest))) rest
closed_text rest at within =
    let line = take at rest in
    let long : length (strip_carriage_return line) ≤ at
    = let shorter = strip_shorter line in
    let is = length-take-le at rest within in omega (arith, shorter, is) in
    strip_prefix line ∙ take-take (length (strip_carriage_return line)) at rest long

-- a place at which a byte isn't 0 isn't before the first
some_byte : (rest : List ℕ) (at : ℕ) → slice_index (take at rest) (at - 1) ≡ 13 → 0 < at
some_byte rest zero code = absurd (let e : 0 ≡ 13 = code in omega (arith, e))
some_byte rest (suc at) code = omega arith

-- what ends it, by whether its last byte is a CR
closed_by : (b : Bool) (rest : List ℕ) (at : ℕ) → at < length rest → slice_index rest at ≡ line_feed
    → (slice_index (take at rest) (length (take at rest) - 1) == 13) ≡ b
    → IsLineEnd rest (length (if b then take (length (take at rest) - 1) (take at rest) else take at rest)) (at + 1)
closed_by false rest at below lf last =
    let long = length-take-le at rest (omega (arith, below)) in
    inl (omega (arith, long), ap (slice_index rest) long ∙ lf)
closed_by true rest at below lf last =
    let long = length-take-le at rest (omega (arith, below)) in
    let code : slice_index (take at rest) (at - 1) ≡ 13
    = ap (λ n. slice_index (take at rest) (n - 1)) (sym long)
    ∙ eqb-true (slice_index (take at rest) (length (take at rest) - 1)) 13 last in
    let some : 0 < at = some_byte rest at code in
    let short : length (take (length (take at rest) - 1) (take at rest)) ≡ at - 1
    = length-take-le (length (take at rest) - 1) (take at rest) (omega arith) ∙ ap (λ n. n - 1) long in
    inr (
    inl (
      omega (arith, short, some),
      ap (slice_index rest) short ∙ sym (get_or-take at rest (at - 1) 0 (omega (arith, some))) ∙ code,
      ap (slice_index rest) (let e : at - 1 + 1 ≡ at = omega (arith, some) in ap (λ n. n + 1) short ∙ e) ∙ lf,
    )
    )

-- what ends a closed line
pub closed_end : (rest : List ℕ) (at : ℕ) → at < length rest → drop at rest ≡ line_feed ∷ drop (at + 1) rest
    → IsLineEnd rest (length (strip_carriage_return (take at rest))) (at + 1)
closed_end rest at below after =
    let here : at ≡ at + 0 = omega arith in
    let lf : slice_index rest at ≡ line_feed
    = ap (slice_index rest) here ∙ sym (get_or-drop at rest 0 0) ∙ ap (λ (l : List ℕ). get_or l 0 0) after in
    closed_by (slice_index (take at rest) (length (take at rest) - 1) == 13) rest at below lf refl

-- an LF that ends a line, and what is before and after it
joined_one : (line : List ℕ) (lines : List (List ℕ)) (last : List ℕ)
    → join (line ∷ []) [] lines last ≡ (line ∷ lines, last)
joined_one line [] last = refl
joined_one line (l ∷ lines) last = refl

-- the first line, where an LF ends it
pub closed_first : (rest : List ℕ) (at : ℕ) → split (take at rest) ≡ ([], take at rest)
    → drop at rest ≡ line_feed ∷ drop (at + 1) rest
    → lines_of rest ≡ strip_carriage_return (take at rest) ∷ lines_of (drop (at + 1) rest)
closed_first rest at none after =
    let line = take at rest in
    let remaining = drop (at + 1) rest in
    let whole : rest ≡ (line ++ (line_feed ∷ [])) ++ remaining
    = sym (take-append-drop at rest) ∙ ap (λ t. line ++ t) after ∙ sym (append_assoc line (line_feed ∷ []) remaining) in
    let parts : split rest ≡ (line ∷ (split remaining).0, (split remaining).1)
    = ap split whole ∙ split-append (line ++ (line_feed ∷ [])) remaining
    ∙ ap (λ (p : List (List ℕ) × List ℕ). join p.0 p.1 (split remaining).0 (split remaining).1)
    (split-closing [] line none)
    ∙ joined_one line (split remaining).0 (split remaining).1 in
    ap (λ (p : List (List ℕ) × List ℕ). map strip_carriage_return p.0 ++ open_lines p.1) parts

-- the first line of what follows a byte of a buffer
pub first_line_here : (bytes : List ℕ) (start : ℕ) (line : FirstLine)
    → IsFirstLine (take (length bytes - start) (drop start bytes)) line → IsFirstLine (drop start bytes) line
first_line_here bytes start line is =
    let rest = length-drop start bytes in
    let whole : take (length bytes - start) (drop start bytes) ≡ drop start bytes
    = take_all (length bytes - start) (drop start bytes) (omega (arith, rest)) in
    subst (λ (l : List ℕ). IsFirstLine l line) whole is

-- ---- where lines begin and end

-- what ends a line, in the bytes before it too
pub end_after : (bytes : List ℕ) (start end next : ℕ) → start + length (drop start bytes) ≡ length bytes
    → IsLineEnd (drop start bytes) end next → IsLineEnd bytes (start + end) (start + next)
end_after bytes start end next long (inl (is, lf)) = inl (omega (arith, is), sym (get_or-drop start bytes end 0) ∙ lf)
end_after bytes start end next long (inr (inl (is, code, lf))) =
    let more : start + end + 1 ≡ start + (end + 1) = omega arith in
    inr (
    inl (
      omega (arith, is),
      sym (get_or-drop start bytes end 0) ∙ code,
      ap (slice_index bytes) more ∙ sym (get_or-drop start bytes (end + 1) 0) ∙ lf,
    )
    )
end_after bytes start end next long (inr (inr (is, all))) =
    inr (inr (omega (arith, is), omega (arith, long, all)))

-- the next line begins after the end of one, if that isn't the end of the buffer
pub start_after : (bytes : List ℕ) (from end next : ℕ) → from ≤ end → IsLineEnd bytes end next → next < length bytes
    → IsLineStart bytes from next
start_after bytes from end next after (inl (is, lf)) below =
    let last : next - 1 ≡ end = omega (arith, is) in
    inr (omega (arith, is, after), ap (slice_index bytes) last ∙ lf)
start_after bytes from end next after (inr (inl (is, code, lf))) below =
    let last : next - 1 ≡ end + 1 = omega (arith, is) in
    inr (omega (arith, is, after), ap (slice_index bytes) last ∙ lf)
start_after bytes from end next after (inr (inr (is, all))) below = absurd (omega (arith, all, below))

-- ---- the lines that are passed

-- the lines after the first one
pub lines_after : (bytes text : List ℕ) (start extent : ℕ)
    → lines_of (drop start bytes) ≡ text ∷ lines_of (drop extent (drop start bytes))
    → lines_of (drop start bytes) ≡ text ∷ lines_of (drop (start + extent) bytes)
lines_after bytes text start extent first = first ∙ ap (λ t. text ∷ lines_of t) (drop-drop extent start bytes)

-- a valid line more is passed
pub passes_more : (number passed : ℕ) (lines rest more : List (List ℕ)) (text : List ℕ) (found : Finding)
    → Passes number passed lines rest → rest ≡ text ∷ more → answer.IsFound number None text found → found.verdict ≡ 0
    → Passes number (passed + 1) lines more
passes_more number passed lines rest more text found before is said valid =
    let next : suc passed ≡ passed + 1 = omega arith in
    subst (λ (n : ℕ). Passes number n lines more) next
    (text, subst (λ (l : List (List ℕ)). Passes number passed lines l) is before, (found, said, valid))

-- the text of the first line is in the buffer
pub text_stands : (bytes text : List ℕ) (start : ℕ) → text ≡ take (length text) (drop start bytes)
    → slice_range bytes start (start + length text) ≡ text
text_stands bytes text start is =
    let count : start + length text - start ≡ length text = omega arith in
    ap (λ n. take n (drop start bytes)) count ∙ sym is
