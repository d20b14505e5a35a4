-- The lines of a list, with their ends, as more of it is read.
use Rattle.std.proofs.Common.{◌≡◌, ℕ, ◌+◌, ◌<◌, ◌≤◌, Bool, true, false, List, [], ◌∷◌, ◌++◌, cond, drop, length, take, map}
use Rattle.std.proofs.Common.{refl}
use Rattle.std.proofs.Common.{sym, ap, ◌∙◌, subst, arith, append_assoc, append-nil, inl, inr}
use Rattle.std.proofs.lemmas.Grind.{common_steps}
use Rattle.std.proofs.lemmas.Bool.{cases_lt}
use Rattle.std.proofs.lemmas.List.{length-append, length-drop, map-append}
use Rattle.std.specs.Str.{bytes_eq}
use Rattle.std.proofs.Math.Seq.{take-append_seam, take-length}
use Rattle.uv_lines.specs.Lines.{byte_order_mark, line_feed, split, without_mark}
use Rattle.uv_lines.specs.Progress.{ended}
use Rattle.uv_lines.proofs.LineLemmas.{join, split-append, split-closing, split-growing, strip_at_most}
use Rattle.uv_filter.specs.Lines.{Line, all_lines, checked_of, ended_line, ended_lines, is_over, last_line, over_line}
use Rattle.uv_filter.specs.Lines.{ready_lines}

-- a first LF ends the line that has begun
pub ended-closing : (xs prefix : List ℕ) → split prefix ≡ ([], prefix)
    → ended_lines (xs ++ (prefix ++ line_feed ∷ [])) ≡ ended_lines xs ++ ended_line ((split xs).1 ++ prefix) ∷ []
ended-closing xs prefix none =
    ap (λ p. map ended_line p.0) (split-closing xs prefix none)
    ∙ map-append ended_line (split xs).0 (((split xs).1 ++ prefix) ∷ [])

-- after it none has begun
pub last-closing : (xs prefix : List ℕ) → split prefix ≡ ([], prefix)
    → (split (xs ++ (prefix ++ line_feed ∷ []))).1 ≡ []
last-closing xs prefix none = ap (λ p. p.1) (split-closing xs prefix none)

-- what holds no LF ends no line
pub ended-growing : (xs rest : List ℕ) → split rest ≡ ([], rest) → ended_lines (xs ++ rest) ≡ ended_lines xs
ended-growing xs rest none = ap (λ p. map ended_line p.0) (split-growing xs rest none)

-- and the line that has begun grows by it
pub last-growing : (xs rest : List ℕ) → split rest ≡ ([], rest) → (split (xs ++ rest)).1 ≡ (split xs).1 ++ rest
last-growing xs rest none = ap (λ p. p.1) (split-growing xs rest none)

-- the lines that have ended are the first lines of a longer list
ended_joined : (ws : List (List ℕ)) (l : List ℕ) (vs : List (List ℕ)) (m : List ℕ)
    → (more : List Line) × (map ended_line (join ws l vs m).0 ≡ map ended_line ws ++ more)
ended_joined ws l [] m = ([], sym (append-nil (map ended_line ws)))
ended_joined ws l (v ∷ vs) m = (map ended_line ((l ++ v) ∷ vs), map-append ended_line ws ((l ++ v) ∷ vs))

pub ended_prefix : (xs ys : List ℕ) → (more : List Line) × (ended_lines (xs ++ ys) ≡ ended_lines xs ++ more)
ended_prefix xs ys =
    let p = ended_joined (split xs).0 (split xs).1 (split ys).0 (split ys).1 in
    (p.0, ap (λ q. map ended_line q.0) (split-append xs ys) ∙ p.1)

pub first_lines : (xs ys : List ℕ) → take (length (ended_lines xs)) (all_lines (xs ++ ys)) ≡ ended_lines xs
first_lines xs ys =
    let m = ended_prefix xs ys in
    rw m.1 (ap (λ l. take (length (ended_lines xs)) l)
    (append_assoc (ended_lines xs) m.0 (last_line (split (xs ++ ys)).1))
    ∙ take-append_seam (ended_lines xs) (m.0 ++ last_line (split (xs ++ ys)).1))

-- as many lines have ended as in a prefix of the list, or more
pub prefix_count : (xs ys : List ℕ) → length (ended_lines xs) ≤ length (ended_lines (xs ++ ys))
prefix_count xs ys = let m = ended_prefix xs ys in rw (m.1, length-append (ended_lines xs) m.0) (omega arith)

-- no more have ended than there are
pub ended_few : (xs : List ℕ) → length (ended_lines xs) ≤ length (all_lines xs)
ended_few xs = rw (length-append (ended_lines xs) (last_line (split xs).1)) (omega arith)

-- so many of the first lines of a longer list
pub first_few : (xs ys : List ℕ) → length (ended_lines xs) ≤ length (all_lines (xs ++ ys))
first_few xs ys =
    let more = prefix_count xs ys in
    let few = ended_few (xs ++ ys) in
    omega (arith, more, few)

-- ---- lines that are too long

pub over_true : (l : List ℕ) → 65540 < length l → is_over l ≡ true
over_true l long = grind (arith, common_steps, long)

pub over_false : (l : List ℕ) → length l ≤ 65540 → is_over l ≡ false
over_false l short = grind (arith, common_steps, short)

pub over_long : (l : List ℕ) → is_over l ≡ true → 65540 < length l
over_long l is =
    elim (cases_lt 65540 (length l)) [
      | inl long ↦ long
      | inr short ↦ (let no : false ≡ true = sym (over_false l short) ∙ is in cc)
    ]

-- a byte order mark has three bytes
mark_at_most : (l : List ℕ) → length l ≤ length (without_mark l) + 3
mark_at_most l =
    elim (bytes_eq (take 3 l) byte_order_mark) as (λ b. length l ≤ length (cond b (drop 3 l) l) + 3) [
      | true ↦ rw (length-drop 3 l) (omega arith)
      | false ↦ omega arith
    ]

checked_at_most : (is_first : Bool) (l : List ℕ) → length l ≤ length (checked_of is_first l) + 3
checked_at_most true l = mark_at_most l
checked_at_most false l = omega arith

-- without a CR at most one
ended_at_most : (closed : Bool) (l : List ℕ) → length l ≤ length (ended closed l) + 1
ended_at_most true l = strip_at_most l
ended_at_most false l = omega arith

-- what is checked of such a line is too long too
pub text_long : (is_first closed : Bool) (l : List ℕ) → 65540 < length l
    → 65536 < length (checked_of is_first (ended closed l))
text_long is_first closed l long =
    let strip = ended_at_most closed l in
    let mark = checked_at_most is_first (ended closed l) in
    omega (arith, strip, mark, long)

-- it is the last line
last_over : (l : List ℕ) → 65540 < length l → last_line l ≡ over_line true l
last_over [] long = let no : ⊥ = omega (arith, long) in absurd no
last_over (x ∷ xs) long = refl

all_over : (b : Bool) (read : List ℕ) → is_over (split read).1 ≡ b
    → (count : ℕ) × (count ≤ length (all_lines read)) × (take count (all_lines read) ≡ ready_lines read)
all_over true read is =
    let l = (split read).1 in
    let same : all_lines read ≡ ready_lines read =
    ap (λ o. ended_lines read ++ o) (last_over l (over_long l is) ∙ ap (λ c. over_line c l) (sym is)) in
    (length (all_lines read), omega arith, take-length (all_lines read) ∙ same)
all_over false read is =
    let l = (split read).1 in
    let same : ready_lines read ≡ ended_lines read =
    ap (λ c. ended_lines read ++ over_line c l) is ∙ append-nil (ended_lines read) in
    let first : take (length (ended_lines read)) (all_lines read) ≡ ended_lines read =
    subst (λ xs. take (length (ended_lines read)) (all_lines xs) ≡ ended_lines read) (append-nil read)
    (first_lines read []) in
    (length (ended_lines read), ended_few read, first ∙ sym same)

-- the lines of which it is known what is written are some of the first lines
pub ready_first : (read : List ℕ)
    → (count : ℕ) × (count ≤ length (all_lines read)) × (take count (all_lines read) ≡ ready_lines read)
ready_first read = all_over (is_over (split read).1) read refl

ready_whole : (b : Bool) (read begun : List ℕ) → is_over (split read).1 ≡ b → (b ≡ false → (split read).1 ≡ [])
    → all_lines read ≡ ready_lines read
ready_whole true read begun is none =
    let l = (split read).1 in
    ap (λ o. ended_lines read ++ o) (last_over l (over_long l is) ∙ ap (λ c. over_line c l) (sym is))
ready_whole false read begun is none =
    let l = (split read).1 in
    ap (λ o. ended_lines read ++ o) (ap last_line (none refl) ∙ ap (λ c. over_line c l) (sym is))

-- they are all lines if none has begun that isn't too long
pub all_ready : (read : List ℕ) → (is_over (split read).1 ≡ false → (split read).1 ≡ [])
    → all_lines read ≡ ready_lines read
all_ready read none = ready_whole (is_over (split read).1) read [] refl none

-- ---- the parts of a piece
