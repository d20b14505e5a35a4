-- Lists of lines, one after the other.
use Rattle.std.proofs.Common.{◌≡◌, ◌≢◌, ℕ, ◌+◌, ◌-◌, ◌<◌, ◌≤◌, List, [], ◌∷◌, ◌++◌, true, false, cond, length, take}
use Rattle.std.proofs.Common.{drop, map, refl, sym, ap, ◌∙◌, subst, arith, append_assoc, append-nil, ◌==◌, zero, suc}
use Rattle.std.proofs.Common.{length-append, slice_index, take_all, Some, None}
use Rattle.std.proofs.lemmas.Grind.{common_steps}
use Rattle.std.proofs.lemmas.List.{map-append, length-map, length-take, get_or-take, length-drop, drop_more}
use Rattle.std.proofs.lemmas.List.{drop-drop, take-append-drop}
use Rattle.std.proofs.Math.Seq.{take-add}
use Rattle.memchr.specs.Find.{IsFirstByte, is_byte}
use Rattle.std.proofs.lemmas.Bool.{eqb-true}
use Rattle.std.specs.Str.Lines.{strip_carriage_return}
use Rattle.uv_lines.specs.Lines.{line_feed, put_prefix, split, closed_lines, open_lines, lines_of}

-- ---- two texts, one after the other

-- what is before each LF of two texts joined, and what follows the last one
abbrev pub join : List (List ℕ) → List ℕ → List (List ℕ) → List ℕ → (List (List ℕ)) × List ℕ
join ws l [] m = (ws, l ++ m)
join ws l (v ∷ vs) m = (ws ++ (l ++ v) ∷ vs, m)

join-nil : (vs : List (List ℕ)) (m : List ℕ) → join [] [] vs m ≡ (vs, m)
join-nil [] m = refl
join-nil (v ∷ vs) m = refl

join-cons : (w : List ℕ) (ws : List (List ℕ)) (l : List ℕ) (vs : List (List ℕ)) (m : List ℕ)
    → join (w ∷ ws) l vs m ≡ (w ∷ (join ws l vs m).0, (join ws l vs m).1)
join-cons w ws l [] m = refl
join-cons w ws l (v ∷ vs) m = refl

join-put : (x : ℕ) (ws : List (List ℕ)) (l : List ℕ) (vs : List (List ℕ)) (m : List ℕ)
    → put_prefix x (join ws l vs m).0 (join ws l vs m).1 ≡ join (put_prefix x ws l).0 (put_prefix x ws l).1 vs m
join-put x [] l [] m = refl
join-put x [] l (v ∷ vs) m = refl
join-put x (w ∷ ws) l [] m = refl
join-put x (w ∷ ws) l (v ∷ vs) m = refl

-- the parts of two texts joined
pub split-append : (xs ys : List ℕ)
    → split (xs ++ ys) ≡ join (split xs).0 (split xs).1 (split ys).0 (split ys).1
split-append [] ys = sym (join-nil (split ys).0 (split ys).1)
split-append (x ∷ xs) ys =
    let ih = split-append xs ys in
    let s = split xs in
    let t = split ys in
    let both = split (xs ++ ys) in
    elim (x == line_feed) as (λ b. (cond b ([] ∷ both.0, both.1) (put_prefix x both.0 both.1))
    ≡ join (cond b ([] ∷ s.0, s.1) (put_prefix x s.0 s.1)).0
    (cond b ([] ∷ s.0, s.1) (put_prefix x s.0 s.1)).1 t.0 t.1) [
      | true ↦ ap (λ p. ([] ∷ p.0, p.1)) ih ∙ sym (join-cons [] s.0 s.1 t.0 t.1)
      | false ↦ ap (λ p. put_prefix x p.0 p.1) ih ∙ join-put x s.0 s.1 t.0 t.1
    ]

-- a text that holds no LF stays one part
pub split-without : (xs : List ℕ) → ((k : ℕ) → k < length xs → slice_index xs k ≢ line_feed) → split xs ≡ ([], xs)
split-without [] none = refl
split-without (x ∷ xs) none =
    let other : (x == line_feed) ≡ false = let h : x ≢ line_feed =
    none 0 (omega arith) in grind (arith, common_steps) in
    let rest : split xs ≡ ([], xs) = split-without xs (λ k below. none (suc k) (omega (arith, below))) in
    rw (other, rest) refl

-- after a text that holds no LF and an LF a line is closed
pub split-closing : (xs prefix : List ℕ) → split prefix ≡ ([], prefix)
    → split (xs ++ (prefix ++ line_feed ∷ [])) ≡ ((split xs).0 ++ ((split xs).1 ++ prefix) ∷ [], [])
split-closing xs prefix none =
    let tail : split (prefix ++ line_feed ∷ []) ≡ (prefix ∷ [], []) =
    split-append prefix (line_feed ∷ []) ∙ ap (λ p. join p.0 p.1 ([] ∷ []) []) none
    ∙ ap (λ l. (l ∷ [], [])) (append-nil prefix) in
    split-append xs (prefix ++ line_feed ∷ []) ∙ ap (λ p. join (split xs).0 (split xs).1 p.0 p.1) tail

-- after a text that holds no LF the last part has grown by it
pub split-growing : (xs rest : List ℕ) → split rest ≡ ([], rest)
    → split (xs ++ rest) ≡ ((split xs).0, (split xs).1 ++ rest)
split-growing xs rest none =
    split-append xs rest ∙ ap (λ p. join (split xs).0 (split xs).1 p.0 p.1) none

-- ---- the lines of a text and of its prefixes

-- a first LF closes the line that has begun
pub closed-closing : (xs prefix : List ℕ) → split prefix ≡ ([], prefix)
    → closed_lines (xs ++ (prefix ++ line_feed ∷ []))
    ≡ closed_lines xs ++ strip_carriage_return ((split xs).1 ++ prefix)
    ∷ []
closed-closing xs prefix none =
    ap (λ p. map strip_carriage_return p.0) (split-closing xs prefix none)
    ∙ map-append strip_carriage_return (split xs).0 (((split xs).1 ++ prefix) ∷ [])

-- what holds no LF closes no line
pub closed-growing : (xs rest : List ℕ) → split rest ≡ ([], rest) → closed_lines (xs ++ rest) ≡ closed_lines xs
closed-growing xs rest none = ap (λ p. map strip_carriage_return p.0) (split-growing xs rest none)

-- the lines that a text closes are the first of those that a longer one closes
closed_joined : (ws : List (List ℕ)) (l : List ℕ) (vs : List (List ℕ)) (m : List ℕ)
    → (more : List (List ℕ)) × (map strip_carriage_return (join ws l vs m).0 ≡ map strip_carriage_return ws ++ more)
closed_joined ws l [] m = ([], sym (append-nil (map strip_carriage_return ws)))
closed_joined ws l (v ∷ vs) m =
    (map strip_carriage_return ((l ++ v) ∷ vs), map-append strip_carriage_return ws ((l ++ v) ∷ vs))

-- the lines that a text closes are the first of those that a longer one closes
pub closed_prefix : (xs ys : List ℕ) → (more : List (List ℕ)) × (closed_lines (xs ++ ys) ≡ closed_lines xs ++ more)
closed_prefix xs ys =
    let p = closed_joined (split xs).0 (split xs).1 (split ys).0 (split ys).1 in
    (p.0, ap (λ q. map strip_carriage_return q.0) (split-append xs ys) ∙ p.1)

-- a further byte begins a further line
open_some : (l : List ℕ) → 0 < length l → length (open_lines l) ≡ 1
open_some [] h = omega arith
open_some (x ∷ xs) h = refl

lines_joined : (ws : List (List ℕ)) (l : List ℕ) (vs : List (List ℕ)) (m : List ℕ) → (vs ≡ [] → 0 < length m)
    → length ws < length (map strip_carriage_return (join ws l vs m).0 ++ open_lines (join ws l vs m).1)
lines_joined ws l [] m h =
    let some : 0 < length (l ++ m) = rw (length-append l m) (let q = h refl in omega (arith, q)) in
    rw (
      length-append (map strip_carriage_return ws) (open_lines (l ++ m)),
      length-map ws strip_carriage_return,
      open_some (l ++ m) some,
    ) (omega arith)
lines_joined ws l (v ∷ vs) m h =
    rw (
      length-append (map strip_carriage_return (ws ++ (l ++ v) ∷ vs)) (open_lines m),
      length-map (ws ++ (l ++ v) ∷ vs) strip_carriage_return,
      length-append ws ((l ++ v) ∷ vs),
    ) (omega arith)

put_last : (x : ℕ) (ws : List (List ℕ)) (l : List ℕ) → (put_prefix x ws l).0 ≡ [] → 0 < length (put_prefix x ws l).1
put_last x [] l h = omega arith
put_last x (w ∷ ws) l h = cc

last_some : (xs : List ℕ) → 0 < length xs → (split xs).0 ≡ [] → 0 < length (split xs).1
last_some [] h = λ e. omega arith
last_some (x ∷ xs) h =
    let s = split xs in
    elim (x == line_feed) as (λ b. (cond b ([] ∷ s.0, s.1) (put_prefix x s.0 s.1)).0 ≡ []
    → 0 < length (cond b ([] ∷ s.0, s.1) (put_prefix x s.0 s.1)).1) [
      | true ↦ λ e. cc
      | false ↦ λ e. put_last x s.0 s.1 e
    ]

-- a text with more after it has more lines than the text closes
pub lines_more : (xs ys : List ℕ) → 0 < length ys → length (closed_lines xs) < length (lines_of (xs ++ ys))
lines_more xs ys h =
    rw (length-map (split xs).0 strip_carriage_return)
    (subst (λ p. length (split xs).0 < length (map strip_carriage_return p.0 ++ open_lines p.1))
    (sym (split-append xs ys))
    (lines_joined (split xs).0 (split xs).1 (split ys).0 (split ys).1 (last_some ys h)))

-- ---- a line of which a prefix is kept

-- at most one CR is taken off
pub strip_at_most : (l : List ℕ) → length l ≤ length (strip_carriage_return l) + 1
strip_at_most l =
    elim (slice_index l (length l - 1) == 13) as (λ b. length l ≤ length (cond b (take (length l - 1) l) l) + 1) [
      | true ↦ rw (length-take (length l - 1) l) (omega arith)
      | false ↦ omega arith
    ]

-- what is kept of a line grows as the line does
pub take_more : (n : ℕ) (l more : List ℕ) → take n (take n l ++ more) ≡ take n (l ++ more)
take_more zero l more = refl
take_more (suc n) [] more = refl
take_more (suc n) (x ∷ xs) more = ap (λ l. x ∷ l) (take_more n xs more)

-- what a search for LF says of a text that holds none
pub no_line_feed : (xs : List ℕ) → IsFirstByte (is_byte line_feed) xs None → split xs ≡ ([], xs)
no_line_feed xs none =
    split-without xs (λ k below e. none k (omega arith) below (rw e refl))

-- and of one that holds one
pub prefix_line_feed : (xs : List ℕ) (at : ℕ) → IsFirstByte (is_byte line_feed) xs (Some at)
    → split (take at xs) ≡ ([], take at xs)
prefix_line_feed xs at first =
    split-without (take at xs) (λ k below e.
    let inside : k < at = let size = length-take at xs in omega (arith, below, size) in
    first.0.before k (omega arith) inside (rw (sym (get_or-take at xs k 0 inside) ∙ e) refl))

-- at the first LF the rest begins with it
pub from_line_feed : (xs : List ℕ) (at : ℕ) → IsFirstByte (is_byte line_feed) xs (Some at)
    → drop at xs ≡ line_feed ∷ drop (at + 1) xs
from_line_feed xs at first =
    drop_more xs at 0 first.0.high ∙ ap (λ x. x ∷ drop (at + 1) xs) (eqb-true (slice_index xs at) line_feed first.1)

-- ---- the lines of a piece

-- the rest of a piece has all its bytes
pub rest_is : (piece : List ℕ) (start : ℕ) → take (length piece - start) (drop start piece) ≡ drop start piece
rest_is piece start =
    take_all (length piece - start) (drop start piece) (let size = length-drop start piece in omega (arith, size))

-- a line with its LF
pub part_is : (piece : List ℕ) (start size : ℕ)
    → drop size (drop start piece) ≡ line_feed ∷ drop (size + 1) (drop start piece)
    → take (start + size + 1 - start) (drop start piece) ≡ take size (drop start piece) ++ line_feed ∷ []
part_is piece start size at =
    let rest = drop start piece in
    let more : start + size + 1 - start ≡ size + 1 = omega arith in
    ap (λ n. take n rest) more ∙ take-add size 1 rest ∙ ap (λ l. take size rest ++ take 1 l) at

-- a text with which bytes begin goes on as they do
pub known_after : (size : ℕ) (text bytes : List ℕ) → text ≡ take (length text) bytes
    → drop size text ≡ take (length (drop size text)) (drop size bytes)
known_after zero text bytes is = is
known_after (suc size) [] bytes is = refl
known_after (suc size) (x ∷ text) [] is = let none : ⊥ = omega (arith, ap length is) in absurd none
known_after (suc size) (x ∷ text) (y ∷ bytes) is = known_after size text bytes (ap (λ l. drop 1 l) is)

-- and so after a line of a piece
pub known_on : (piece text after : List ℕ) (start size : ℕ)
    → text ≡ take (length text) (take (length piece - start) (drop start piece)) → after ≡ drop (size + 1) text
    → after ≡ take (length after) (drop (start + (size + 1)) piece)
known_on piece text after start size is left =
    rw left (known_after (size + 1) text (drop start piece)
    (is ∙ ap (λ l. take (length text) l) (rest_is piece start))
    ∙ ap (λ l. take (length (drop (size + 1) text)) l) (drop-drop (size + 1) start piece))

-- a piece is what was taken of it, a line with its LF, and the rest
pub piece_joined : (read piece : List ℕ) (start size : ℕ)
    → drop size (drop start piece) ≡ line_feed ∷ drop (size + 1) (drop start piece)
    → (read ++ take start piece) ++ (take size (drop start piece) ++ line_feed ∷ drop (size + 1) (drop start piece))
    ≡ read ++ piece
piece_joined read piece start size at =
    append_assoc read (take start piece)
    (take size (drop start piece) ++ line_feed ∷ drop (size + 1) (drop start piece))
    ∙ ap (λ l. read ++ l) (ap (λ l. take start piece ++ (take size (drop start piece) ++ l)) (sym at)
    ∙ ap (λ l. take start piece ++ l) (take-append-drop size (drop start piece)) ∙ take-append-drop start piece)

-- what is taken of a piece with a further line
pub piece_taken : (read piece : List ℕ) (start size : ℕ)
    → drop size (drop start piece) ≡ line_feed ∷ drop (size + 1) (drop start piece)
    → (read ++ take start piece) ++ (take size (drop start piece) ++ line_feed ∷ [])
    ≡ read ++ take (start + (size + 1)) piece
piece_taken read piece start size at =
    append_assoc read (take start piece) (take size (drop start piece) ++ line_feed ∷ [])
    ∙ ap (λ l. read ++ l) (sym (take-add start (size + 1) piece
    ∙ ap (λ l. take start piece ++ l) (take-add size 1 (drop start piece)
    ∙ ap (λ l. take size (drop start piece) ++ take 1 l) at)))

-- what is read after a line's LF is more of the list
pub line_joined : (read prefix rest : List ℕ)
    → (read ++ (prefix ++ line_feed ∷ [])) ++ rest ≡ read ++ (prefix ++ line_feed ∷ rest)
line_joined read prefix rest =
    append_assoc read (prefix ++ line_feed ∷ []) rest
    ∙ ap (λ t. read ++ t) (append_assoc prefix (line_feed ∷ []) rest)
