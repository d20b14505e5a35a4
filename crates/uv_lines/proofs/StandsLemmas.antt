-- The state of a run when a line has ended or gone on, and what its faults leave.
use Rattle.std.proofs.Common.{◌≡◌, ℕ, ◌+◌, ◌<◌, ◌≤◌, List, [], ◌∷◌, ◌++◌, Option, length, take, refl, sym, ap, ◌∙◌}
use Rattle.std.proofs.Common.{subst, arith, append_assoc, append-nil, inl, inr}
use Rattle.std.proofs.lemmas.List.{length-append, length-take}
use Rattle.std.proofs.Math.Seq.{take-nil, take-append_seam}
use Rattle.std.specs.Str.Lines.{strip_carriage_return}
use Rattle.uv_lines.specs.Lines.{line_feed, short_line, split, closed_lines, open_lines, lines_of}
use Rattle.uv_lines.specs.Progress.{Stands, IsPartOfFirst, IsReportOfFirst}
use Rattle.uv_lines.specs.Reported.{Reported, ReportedPart}
use Rattle.uv_lines.specs.Waiting.{AreFirstParts}
use Rattle.uv_lines.proofs.LineLemmas.{split-closing, split-growing, closed-closing, closed-growing, closed_prefix}
use Rattle.uv_lines.proofs.LineLemmas.{lines_more, take_more}
use Rattle.uv_lines.proofs.ReportedLemmas.{Reported-snoc, kept_short_line, kept_short_line_open}

-- of a line whose prefix isn't kept nothing has come
none_begun : (n : ℕ) (l : List ℕ) → take (n + 2) l ≡ [] → l ≡ []
none_begun n [] e = refl
none_begun n (x ∷ xs) e =
    let none : length (take (n + 2) (x ∷ xs)) ≡ 0 = ap length e in
    let size = length-take (n + 2) (x ∷ xs) in
    let z : ⊥ = omega (arith, none, size) in
    absurd z

-- nothing has come
pub Stands-start : {S : Type 0} (reports : S → Option (List ℕ) → List ℕ → S → Type 0) (lines : S → ℕ) (n : ℕ) (p : S)
    (begun : List ℕ) → lines p ≡ 0 → begun ≡ [] → Stands reports lines n p [] [] p begun
Stands-start reports lines n p begun count none = record {
  reported = (refl, refl);
  kept = none ∙ sym (take-nil (n + 2));
  count = count;
}

-- ---- the line that ends

-- the line that ends after this prefix of a piece
abbrev pub closing : List ℕ → List ℕ → List ℕ
closing read prefix = strip_carriage_return ((split read).1 ++ prefix)

-- if nothing of it had come
pub whole_line : {S : Type 0} (reports : S → Option (List ℕ) → List ℕ → S → Type 0) (lines : S → ℕ) (n : ℕ)
    (start : S) (said read prefix : List ℕ) (p : S) (begun : List ℕ)
    → Stands reports lines n start said read p begun → begun ≡ []
    → short_line n (strip_carriage_return prefix) ≡ short_line n (closing read prefix)
whole_line reports lines n start said read prefix p begun h whole =
    let nothing : (split read).1 ≡ [] = none_begun n (split read).1 (sym h.kept ∙ whole) in
    ap (λ l. short_line n (strip_carriage_return (l ++ prefix))) (sym nothing)

-- where a prefix of it was kept, and this one with it
pub kept_line : {S : Type 0} (reports : S → Option (List ℕ) → List ℕ → S → Type 0) (lines : S → ℕ) (n : ℕ)
    (start : S) (said read prefix : List ℕ) (p : S) (begun kept : List ℕ)
    → Stands reports lines n start said read p begun → kept ≡ take (n + 2) (begun ++ prefix)
    → short_line n (strip_carriage_return kept) ≡ short_line n (closing read prefix)
kept_line reports lines n start said read prefix p begun kept h is =
    let line = (split read).1 ++ prefix in
    let same : kept ≡ take (n + 2) line =
    is ∙ ap (λ l. take (n + 2) (l ++ prefix)) h.kept ∙ take_more (n + 2) (split read).1 prefix in
    ap (λ l. short_line n (strip_carriage_return l)) same ∙ kept_short_line n line

-- it was reported on
pub Stands-closed : {S : Type 0} (reports : S → Option (List ℕ) → List ℕ → S → Type 0) (lines : S → ℕ) (n : ℕ)
    (start : S) (said more read prefix : List ℕ) (p q : S) (begun left : List ℕ) → split prefix ≡ ([], prefix)
    → Stands reports lines n start said read p begun → reports p (short_line n (closing read prefix)) more q
    → lines q ≡ lines p + 1 → left ≡ []
    → Stands reports lines n start (said ++ more) (read ++ (prefix ++ line_feed ∷ [])) q left
Stands-closed reports lines n start said more read prefix p q begun left none h reported count empty =
    let line = closing read prefix in
    let closed = closed-closing read prefix none in
    let rest : (split (read ++ (prefix ++ line_feed ∷ []))).1 ≡ [] = ap (λ s. s.1) (split-closing read prefix none) in
    record {
      reported = rw closed (Reported-snoc reports n start (closed_lines read) line said more p q h.reported reported);
      kept = rw rest (empty ∙ sym (take-nil (n + 2)));
      count = rw (closed, length-append (closed_lines read) (line ∷ [])) (count ∙ ap (λ k. k + 1) h.count);
    }

-- a line has gone on
pub Stands-growing : {S : Type 0} (reports : S → Option (List ℕ) → List ℕ → S → Type 0) (lines : S → ℕ) (n : ℕ)
    (start : S) (said read rest : List ℕ) (p : S) (begun kept : List ℕ) → split rest ≡ ([], rest)
    → Stands reports lines n start said read p begun → kept ≡ take (n + 2) (begun ++ rest)
    → Stands reports lines n start said (read ++ rest) p kept
Stands-growing reports lines n start said read rest p begun kept none h is =
    let last : (split (read ++ rest)).1 ≡ (split read).1 ++ rest = ap (λ s. s.1) (split-growing read rest none) in
    record {
      reported = rw (closed-growing read rest none) h.reported;
      kept = rw last (is ∙ ap (λ l. take (n + 2) (l ++ rest)) h.kept ∙ take_more (n + 2) (split read).1 rest);
      count = rw (closed-growing read rest none) h.count;
    }

-- ---- faults

-- the lines that a prefix of the list closes are the first of the list's lines
first_lines : (xs ys : List ℕ) → take (length (closed_lines xs)) (lines_of (xs ++ ys)) ≡ closed_lines xs
first_lines xs ys =
    let m = closed_prefix xs ys in
    rw m.1 (ap (λ l. take (length (closed_lines xs)) l)
    (append_assoc (closed_lines xs) m.0 (open_lines (split (xs ++ ys)).1))
    ∙ take-append_seam (closed_lines xs) (m.0 ++ open_lines (split (xs ++ ys)).1))

-- the report on them
pub prefix_report : {S : Type 0} (reports : S → Option (List ℕ) → List ℕ → S → Type 0) (lines : S → ℕ) (n : ℕ)
    (start : S) (said read rest : List ℕ) (p : S) (begun : List ℕ)
    → Stands reports lines n start said read p begun
    → IsReportOfFirst reports n start (read ++ rest) (length (closed_lines read)) p said
prefix_report reports lines n start said read rest p begun h = rw (first_lines read rest) h.reported

-- as many lines are closed as a prefix of the list closes, or more
pub prefix_count : (xs ys : List ℕ) → length (closed_lines xs) ≤ length (closed_lines (xs ++ ys))
prefix_count xs ys = let m = closed_prefix xs ys in rw (m.1, length-append (closed_lines xs) m.0) (omega arith)

-- no line more was reported on
pub room-left : {S : Type 0} (reports : S → Option (List ℕ) → List ℕ → S → Type 0) (lines : S → ℕ) (n : ℕ)
    (start : S) (said read rest : List ℕ) (p q : S) (begun : List ℕ)
    → Stands reports lines n start said read p begun → q ≡ p
    → (count : ℕ) × (count ≤ length (closed_lines (read ++ rest)))
    × IsReportOfFirst reports n start (read ++ rest) count q said
room-left reports lines n start said read rest p q begun h same = (
  length (closed_lines read),
  prefix_count read rest,
  rw same (prefix_report reports lines n start said read rest p begun h),
)

-- a further line has begun after as many as may come
pub many-left : {S : Type 0} (reports : S → Option (List ℕ) → List ℕ → S → Type 0) (lines : S → ℕ) (n most : ℕ)
    (start : S) (said read rest : List ℕ) (p : S) (begun : List ℕ)
    → Stands reports lines n start said read p begun → lines p ≡ most → 0 < length rest
    → IsReportOfFirst reports n start (read ++ rest) most p said × (most < length (lines_of (read ++ rest)))
many-left reports lines n most start said read rest p begun h full more =
    let count : most ≡ length (closed_lines read) = sym full ∙ h.count in (
      rw count (prefix_report reports lines n start said read rest p begun h),
      rw count (lines_more read rest more),
    )

-- a further line has no report yet, or the first parts of one
begun_report : {S : Type 0} (reports : S → Option (List ℕ) → List ℕ → S → Type 0)
    (begins : S → Option (List ℕ) → List ℕ → Type 0) (n : ℕ) (start : S) (ls : List (List ℕ)) (line : List ℕ)
    (said parts : List ℕ) (p : S) (more all : List (List ℕ)) → Reported reports n start ls said p
    → AreFirstParts begins p (short_line n line) parts → all ≡ (ls ++ line ∷ []) ++ more
    → (count : ℕ) × (count ≤ length ls + 1)
    × ReportedPart reports begins n start (take count all) (said ++ parts) p
begun_report reports begins n start ls line said parts p more all reported (inl none) is =
    let first : take (length ls) all ≡ ls =
    ap (λ l. take (length ls) l) (is ∙ append_assoc ls (line ∷ []) more)
    ∙ take-append_seam ls ((line ∷ []) ++ more) in (
      length ls,
      omega arith,
      inl (rw (first, none, append-nil said) reported),
    )
begun_report reports begins n start ls line said parts p more all reported (inr begun) is =
    let size = length-append ls (line ∷ []) in
    let first : take (length (ls ++ line ∷ [])) all ≡ ls ++ line ∷ [] =
    ap (λ l. take (length (ls ++ line ∷ [])) l) is ∙ take-append_seam (ls ++ line ∷ []) more in (
      length (ls ++ line ∷ []),
      omega (arith, size),
      inr (record {
        before = ls;
        line = line;
        are = first;
        said = said;
        parts = parts;
        reported = reported;
        begun = begun;
        whole = refl;
      }),
    )

-- so of a line that an LF has ended
pub closing-left : {S : Type 0} (reports : S → Option (List ℕ) → List ℕ → S → Type 0)
    (begins : S → Option (List ℕ) → List ℕ → Type 0) (lines : S → ℕ) (n : ℕ) (start : S)
    (said parts read prefix rest : List ℕ) (p : S) (begun : List ℕ) → split prefix ≡ ([], prefix)
    → Stands reports lines n start said read p begun
    → AreFirstParts begins p (short_line n (closing read prefix)) parts
    → (count : ℕ) × (count ≤ length (closed_lines (read ++ (prefix ++ line_feed ∷ rest))))
    × IsPartOfFirst reports begins n start (read ++ (prefix ++ line_feed ∷ rest)) count p (said ++ parts)
closing-left reports begins lines n start said parts read prefix rest p begun none h are =
    let line = closing read prefix in
    let closed = read ++ (prefix ++ line_feed ∷ []) in
    let joined : closed ++ rest ≡ read ++ (prefix ++ line_feed ∷ rest) =
    append_assoc read (prefix ++ line_feed ∷ []) rest
    ∙ ap (λ l. read ++ l) (append_assoc prefix (line_feed ∷ []) rest) in
    let m = closed_prefix closed rest in
    let lines_are : closed_lines closed ≡ closed_lines read ++ line ∷ [] = closed-closing read prefix none in
    let all : lines_of (closed ++ rest)
    ≡ (closed_lines read ++ line ∷ []) ++ (m.0 ++ open_lines (split (closed ++ rest)).1) =
    ap (λ l. l ++ open_lines (split (closed ++ rest)).1) m.1
    ∙ append_assoc (closed_lines closed) m.0 (open_lines (split (closed ++ rest)).1)
    ∙ ap (λ l. l ++ (m.0 ++ open_lines (split (closed ++ rest)).1)) lines_are in
    let part = begun_report reports begins n start (closed_lines read) line said parts p
    (m.0 ++ open_lines (split (closed ++ rest)).1) (lines_of (closed ++ rest)) h.reported are all in
    let few = prefix_count closed rest in
    let size = ap length lines_are ∙ length-append (closed_lines read) (line ∷ []) in
    let most = part.1 in
    subst (λ bytes. (count : ℕ) × (count ≤ length (closed_lines bytes))
    × IsPartOfFirst reports begins n start bytes count p (said ++ parts)) joined
    (part.0, omega (arith, few, size, most), part.2)

-- ---- the end of the list

-- if no line has begun
pub Ends-empty : {S : Type 0} (reports : S → Option (List ℕ) → List ℕ → S → Type 0) (lines : S → ℕ) (n : ℕ)
    (start : S) (said read : List ℕ) (p : S) (begun : List ℕ)
    → Stands reports lines n start said read p begun → begun ≡ []
    → Reported reports n start (lines_of read) said p × (lines p ≡ length (lines_of read))
Ends-empty reports lines n start said read p begun h empty =
    let nothing : (split read).1 ≡ [] = none_begun n (split read).1 (sym h.kept ∙ empty) in
    let all : lines_of read ≡ closed_lines read =
    ap (λ l. closed_lines read ++ open_lines l) nothing ∙ append-nil (closed_lines read) in
    (rw all h.reported, rw all h.count)

open_cons : (l : List ℕ) → 0 < length l → open_lines l ≡ l ∷ []
open_cons [] h = let z : ⊥ = omega arith in absurd z
open_cons (x ∷ xs) h = refl

-- of a line that has begun something has come
begun_some : (n : ℕ) (items l : List ℕ) → items ≡ take n l → 0 < length items → 0 < length l
begun_some n items [] e h = let z : length items ≡ 0 = ap length (e ∙ take-nil n) in omega (arith, z, h)
begun_some n items (x ∷ xs) e h = omega arith

-- the line that has begun is the last one
last_lines : {S : Type 0} (reports : S → Option (List ℕ) → List ℕ → S → Type 0) (lines : S → ℕ) (n : ℕ)
    (start : S) (said read : List ℕ) (p : S) (begun : List ℕ) → Stands reports lines n start said read p begun
    → 0 < length begun → lines_of read ≡ closed_lines read ++ (split read).1 ∷ []
last_lines reports lines n start said read p begun h some =
    ap (λ l. closed_lines read ++ l) (open_cons (split read).1 (begun_some (n + 2) begun (split read).1 h.kept some))

-- what is kept of it decides the report on it
last_line : {S : Type 0} (reports : S → Option (List ℕ) → List ℕ → S → Type 0) (lines : S → ℕ) (n : ℕ)
    (start : S) (said read : List ℕ) (p : S) (begun : List ℕ) → Stands reports lines n start said read p begun
    → short_line n begun ≡ short_line n (split read).1
last_line reports lines n start said read p begun h =
    ap (λ l. short_line n l) h.kept ∙ kept_short_line_open n (split read).1

-- it was reported on
pub Ends-begun : {S : Type 0} (reports : S → Option (List ℕ) → List ℕ → S → Type 0) (lines : S → ℕ) (n : ℕ)
    (start : S) (said more read : List ℕ) (p q : S) (begun : List ℕ)
    → Stands reports lines n start said read p begun → 0 < length begun
    → reports p (short_line n begun) more q → lines q ≡ lines p + 1
    → Reported reports n start (lines_of read) (said ++ more) q × (lines q ≡ length (lines_of read))
Ends-begun reports lines n start said more read p q begun h some reported count =
    let line = (split read).1 in
    let all = last_lines reports lines n start said read p begun h some in
    let whole : reports p (short_line n line) more q =
    subst (λ s. reports p s more q) (last_line reports lines n start said read p begun h) reported in (
      rw all (Reported-snoc reports n start (closed_lines read) line said more p q h.reported whole),
      rw (all, length-append (closed_lines read) (line ∷ [])) (count ∙ ap (λ k. k + 1) h.count),
    )

-- it isn't reported on whole
pub end-left : {S : Type 0} (reports : S → Option (List ℕ) → List ℕ → S → Type 0)
    (begins : S → Option (List ℕ) → List ℕ → Type 0) (lines : S → ℕ) (n : ℕ) (start : S) (said parts read : List ℕ)
    (p : S) (begun : List ℕ) → Stands reports lines n start said read p begun → 0 < length begun
    → AreFirstParts begins p (short_line n begun) parts
    → (count : ℕ) × (count ≤ length (lines_of read))
    × IsPartOfFirst reports begins n start read count p (said ++ parts)
end-left reports begins lines n start said parts read p begun h some are =
    let line = (split read).1 in
    let all = last_lines reports lines n start said read p begun h some in
    let whole : AreFirstParts begins p (short_line n line) parts =
    subst (λ s. AreFirstParts begins p s parts) (last_line reports lines n start said read p begun h) are in
    let part = begun_report reports begins n start (closed_lines read) line said parts p [] (lines_of read) h.reported
    whole (all ∙ sym (append-nil (closed_lines read ++ line ∷ []))) in
    let size = ap length all ∙ length-append (closed_lines read) (line ∷ []) in
    let most = part.1 in
    (part.0, omega (arith, size, most), part.2)
