-- Where a run is when a line has ended or gone on.
use Rattle.std.proofs.Common.{◌≡◌, ℕ, ◌+◌, ◌<◌, ◌≤◌, Bool, true, false, List, [], ◌∷◌, ◌++◌, Option, length, refl, sym}
use Rattle.std.proofs.Common.{ap, ◌∙◌, subst, arith, append_assoc, append-nil, length-append}
use Rattle.std.proofs.KnownBytes.{Appends-trans, Appends-nil}
use Rattle.std.specs.Io.KnownBytes.{Appends}
use Rattle.uv_lines.specs.Lines.{line_feed, split}
use Rattle.uv_lines.specs.Waiting.{Passes}
use Rattle.uv_filter.specs.declared.fate.Fate.TheVariants.{TooLong}
use Rattle.uv_filter.specs.Filtered.{Filtered, Filtering, Filters, with_fate}
use Rattle.uv_filter.specs.Lines.{ended_line, ended_lines, is_over, open_line, ready_lines, whole}
use Rattle.uv_filter.specs.Lines.{all_lines, last_line}
use Rattle.uv_filter.specs.Progress.{Adds, Ends, Stands, kept_of, passed, passing, with_over}
use Rattle.uv_filter.proofs.FilteredLemmas.{Filtered-snoc, over_fate, with_ready}
use Rattle.uv_filter.proofs.LineLemmas.{all_ready, ended-closing, ended-growing, last-closing, last-growing, over_false}
use Rattle.uv_filter.proofs.LineLemmas.{over_long, over_true}

-- nothing has come
pub Stands-start : (start : Filtering) (old : Option (List ℕ)) (begun : List ℕ) (is_long : Bool) (text : List ℕ)
    → begun ≡ [] → is_long ≡ false → text ≡ [] → Stands start old [] start begun is_long text old
Stands-start start old begun is_long text none short empty = record {
  closed = [];
  before = start;
  filtered = (refl, refl);
  written = [];
  wrote = Appends-nil old;
  out = empty;
  kept = none;
  long = short;
  counted = refl;
}

-- where it is, when it is known what has begun and whether that is too long
Stands-make : (start : Filtering) (old : Option (List ℕ)) (read : List ℕ) (now : Filtering) (begun : List ℕ)
    (is_long : Bool) (text : List ℕ) (new : Option (List ℕ)) (last : List ℕ) (b : Bool) (closed : List ℕ)
    (before : Filtering) (written : List ℕ) → (split read).1 ≡ last → is_over last ≡ b
    → Filtered start (ended_lines read) closed before → Appends old new written
    → written ++ text ≡ closed ++ passed b last → begun ≡ kept_of b last → is_long ≡ b → now ≡ with_over b before
    → Stands start old read now begun is_long text new
Stands-make start old read now begun is_long text new last b closed before written is_last is filtered wrote out kept
    long counted =
    let over : is_over (split read).1 ≡ b = ap is_over is_last ∙ is in
    record {
      closed = closed;
      before = before;
      filtered = filtered;
      written = written;
      wrote = wrote;
      out = out ∙ ap (λ l. closed ++ passed b l) (sym is_last)
          ∙ ap (λ c. closed ++ passed c (split read).1) (sym over);
      kept = kept ∙ ap (λ l. kept_of b l) (sym is_last) ∙ ap (λ c. kept_of c (split read).1) (sym over);
      long = long ∙ sym over;
      counted = counted ∙ ap (λ c. with_over c before) (sym over);
    }

-- what waited was written, or a beginning of it
pub Stands-written : (start : Filtering) (old : Option (List ℕ)) (read : List ℕ) (now : Filtering) (begun : List ℕ)
    (is_long : Bool) (text waits : List ℕ) (new newer : Option (List ℕ))
    → Stands start old read now begun is_long text new → Passes text new newer waits
    → Stands start old read now begun is_long waits newer
Stands-written start old read now begun is_long text waits new newer h passes = record {
  closed = h.closed;
  before = h.before;
  filtered = h.filtered;
  written = h.written ++ passes.written;
  wrote = Appends-trans old new newer h.written passes.written h.wrote passes.wrote;
  out = append_assoc h.written passes.written waits ∙ ap (λ t. h.written ++ t) (sym passes.rest) ∙ h.out;
  kept = h.kept;
  long = h.long;
  counted = h.counted;
}

-- ---- a line goes on

-- and is kept
pub Stands-kept : (start : Filtering) (old : Option (List ℕ)) (read rest : List ℕ) (now : Filtering)
    (begun kept : List ℕ) (is_long : Bool) (text : List ℕ) (new : Option (List ℕ)) → split rest ≡ ([], rest)
    → Stands start old read now begun is_long text new → is_long ≡ false → kept ≡ begun ++ rest
    → length kept ≤ 65540 → Stands start old (read ++ rest) now kept is_long text new
Stands-kept start old read rest now begun kept is_long text new none h short is few =
    let l = (split read).1 in
    let over : is_over l ≡ false = sym h.long ∙ short in
    let begun_is : begun ≡ l = h.kept ∙ ap (λ c. kept_of c l) over in
    let kept_is : kept ≡ l ++ rest = is ∙ ap (λ t. t ++ rest) begun_is in
    Stands-make start old (read ++ rest) now kept is_long text new (l ++ rest) false h.closed h.before h.written
    (last-growing read rest none) (over_false (l ++ rest) (subst (λ t. length t ≤ 65540) kept_is few))
    (subst (λ ls. Filtered start ls h.closed h.before) (sym (ended-growing read rest none)) h.filtered) h.wrote
    (h.out ∙ ap (λ c. h.closed ++ passed c l) over) kept_is short
    (h.counted ∙ ap (λ c. with_over c h.before) over)

-- what is written of a line that is too long is all that came of it
pub passed_whole : (b : Bool) (l begun rest out closed : List ℕ) → out ≡ closed ++ passed b l → begun ≡ kept_of b l
    → out ++ (begun ++ rest) ≡ closed ++ (l ++ rest)
passed_whole true l begun rest out closed is kept =
    ap (λ t. out ++ (t ++ rest)) kept ∙ ap (λ t. t ++ rest) is ∙ append_assoc closed l rest
passed_whole false l begun rest out closed is kept =
    ap (λ t. out ++ (t ++ rest)) kept ∙ ap (λ t. t ++ (l ++ rest)) (is ∙ append-nil closed)

-- what was written, with what is kept of the line, has all that was read
pub passed_out : (start : Filtering) (old : Option (List ℕ)) (read : List ℕ) (now : Filtering) (begun : List ℕ)
    (is_long : Bool) (text : List ℕ) (new : Option (List ℕ)) (rest : List ℕ)
    → (h : Stands start old read now begun is_long text new)
    → h.written ++ (text ++ (begun ++ rest)) ≡ h.closed ++ ((split read).1 ++ rest)
passed_out start old read now begun is_long text new rest h =
    let l = (split read).1 in
    sym (append_assoc h.written text (begun ++ rest))
    ∙ passed_whole (is_over l) l begun rest (h.written ++ text) h.closed h.out h.kept

-- it is counted once
over_state : (b : Bool) (now before : Filtering) → now ≡ with_over b before → passing b now ≡ with_fate before TooLong
over_state true now before is = is
over_state false now before is = ap (λ q. with_fate q TooLong) is

pub passed_state : (start : Filtering) (old : Option (List ℕ)) (read : List ℕ) (now after : Filtering)
    (begun : List ℕ) (is_long : Bool) (text : List ℕ) (new : Option (List ℕ))
    → (h : Stands start old read now begun is_long text new) → after ≡ passing is_long now
    → after ≡ with_fate h.before TooLong
passed_state start old read now after begun is_long text new h is =
    is ∙ ap (λ c. passing c now) h.long ∙ over_state (is_over (split read).1) now h.before h.counted

-- a line that is too long goes on, and is written
pub Stands-passed : (start : Filtering) (old : Option (List ℕ)) (read rest : List ℕ) (now after : Filtering)
    (begun left : List ℕ) (is_long long : Bool) (text empty : List ℕ) (new newer : Option (List ℕ))
    → split rest ≡ ([], rest) → Stands start old read now begun is_long text new
    → is_over ((split read).1 ++ rest) ≡ true → Appends new newer (text ++ (begun ++ rest))
    → after ≡ passing is_long now → left ≡ [] → long ≡ true → empty ≡ []
    → Stands start old (read ++ rest) after left long empty newer
Stands-passed start old read rest now after begun left is_long long text empty new newer none h over wrote counted
    no_more goes nothing =
    let l = (split read).1 in
    let all = h.written ++ (text ++ (begun ++ rest)) in
    Stands-make start old (read ++ rest) after left long empty newer (l ++ rest) true h.closed h.before all
    (last-growing read rest none) over
    (subst (λ ls. Filtered start ls h.closed h.before) (sym (ended-growing read rest none)) h.filtered)
    (Appends-trans old new newer h.written (text ++ (begun ++ rest)) h.wrote wrote)
    (ap (λ t. all ++ t) nothing ∙ append-nil all
    ∙ passed_out start old read now begun is_long text new rest h)
    no_more goes (passed_state start old read now after begun is_long text new h counted)

-- it is known to be too long, or comes to be
pub over_known : (start : Filtering) (old : Option (List ℕ)) (read : List ℕ) (now : Filtering) (begun : List ℕ)
    (is_long : Bool) (text : List ℕ) (new : Option (List ℕ)) (rest : List ℕ)
    → Stands start old read now begun is_long text new → is_long ≡ true → is_over ((split read).1 ++ rest) ≡ true
over_known start old read now begun is_long text new rest h is =
    let l = (split read).1 in
    let long = over_long l (sym h.long ∙ is) in
    over_true (l ++ rest) (let size = length-append l rest in omega (arith, long, size))

pub over_begun : (start : Filtering) (old : Option (List ℕ)) (read : List ℕ) (now : Filtering) (begun : List ℕ)
    (is_long : Bool) (text : List ℕ) (new : Option (List ℕ)) (rest : List ℕ)
    → Stands start old read now begun is_long text new → is_long ≡ false → 65540 < length begun + length rest
    → is_over ((split read).1 ++ rest) ≡ true
over_begun start old read now begun is_long text new rest h short long =
    let l = (split read).1 in
    let same : length begun ≡ length l =
    ap length (h.kept ∙ ap (λ c. kept_of c l) (sym h.long ∙ short)) in
    over_true (l ++ rest) (let size = length-append l rest in omega (arith, long, size, same))

-- ---- a line ends

-- the lines that have ended, with this one
pub filtered-closing : (start : Filtering) (read prefix closed said : List ℕ) (before after : Filtering)
    → split prefix ≡ ([], prefix) → Filtered start (ended_lines read) closed before
    → Filters before (ended_line ((split read).1 ++ prefix)) said after
    → Filtered start (ended_lines (read ++ (prefix ++ line_feed ∷ []))) (closed ++ said) after
filtered-closing start read prefix closed said before after none all one =
    subst (λ ls. Filtered start ls (closed ++ said) after) (sym (ended-closing read prefix none))
    (Filtered-snoc start (ended_lines read) (ended_line ((split read).1 ++ prefix)) closed said before after all one)

-- one that isn't too long
pub Stands-closed : (start : Filtering) (old : Option (List ℕ)) (read prefix : List ℕ) (now after : Filtering)
    (begun left : List ℕ) (is_long long : Bool) (text more : List ℕ) (new : Option (List ℕ))
    → split prefix ≡ ([], prefix) → Stands start old read now begun is_long text new → is_long ≡ false
    → Adds now (ended_line (begun ++ prefix)) text after more → left ≡ [] → long ≡ is_long
    → Stands start old (read ++ (prefix ++ line_feed ∷ [])) after left long more new
Stands-closed start old read prefix now after begun left is_long long text more new none h short adds no_more still =
    let l = (split read).1 in
    let over : is_over l ≡ false = sym h.long ∙ short in
    let begun_is : begun ≡ l = h.kept ∙ ap (λ c. kept_of c l) over in
    let before_is : now ≡ h.before = h.counted ∙ ap (λ c. with_over c h.before) over in
    let filters : Filters h.before (ended_line (l ++ prefix)) adds.said after =
    subst (λ q. Filters q (ended_line (l ++ prefix)) adds.said after) before_is
    (subst (λ t. Filters now (ended_line (t ++ prefix)) adds.said after) begun_is adds.filters) in
    let out : h.written ++ text ≡ h.closed =
    h.out ∙ ap (λ c. h.closed ++ passed c l) over ∙ append-nil h.closed in
    Stands-make start old (read ++ (prefix ++ line_feed ∷ [])) after left long more new [] false
    (h.closed ++ adds.said) after h.written (last-closing read prefix none) refl
    (filtered-closing start read prefix h.closed adds.said h.before after none h.filtered filters) h.wrote
    (ap (λ t. h.written ++ t) adds.appended ∙ sym (append_assoc h.written text adds.said)
    ∙ ap (λ t. t ++ adds.said) out ∙ sym (append-nil (h.closed ++ adds.said)))
    no_more (still ∙ short) refl

-- the text of one that is
pub ended_out : (start : Filtering) (old : Option (List ℕ)) (read : List ℕ) (now : Filtering) (begun : List ℕ)
    (is_long : Bool) (text : List ℕ) (new : Option (List ℕ)) (prefix part : List ℕ)
    → (h : Stands start old read now begun is_long text new) → part ≡ prefix ++ line_feed ∷ []
    → h.written ++ (text ++ (begun ++ part)) ≡ h.closed ++ whole (ended_line ((split read).1 ++ prefix))
ended_out start old read now begun is_long text new prefix part h is =
    passed_out start old read now begun is_long text new part h
    ∙ ap (λ t. h.closed ++ t) (ap (λ t. (split read).1 ++ t) is
    ∙ sym (append_assoc (split read).1 prefix (line_feed ∷ [])))

-- the lines that have ended, with it
pub filtered_over : (start : Filtering) (old : Option (List ℕ)) (read : List ℕ) (now after : Filtering)
    (begun : List ℕ) (is_long : Bool) (text : List ℕ) (new : Option (List ℕ)) (prefix : List ℕ)
    → split prefix ≡ ([], prefix) → (h : Stands start old read now begun is_long text new)
    → is_over ((split read).1 ++ prefix) ≡ true → after ≡ passing is_long now
    → Filtered start (ended_lines (read ++ (prefix ++ line_feed ∷ [])))
    (h.closed ++ whole (ended_line ((split read).1 ++ prefix))) after
filtered_over start old read now after begun is_long text new prefix none h over counted =
    let line = (split read).1 ++ prefix in
    let lines = ended_lines (read ++ (prefix ++ line_feed ∷ [])) in
    subst (λ q. Filtered start lines (h.closed ++ whole (ended_line line)) q)
    (sym (passed_state start old read now after begun is_long text new h counted))
    (filtered-closing start read prefix h.closed (whole (ended_line line)) h.before (with_fate h.before TooLong) none
    h.filtered (over_fate h.before true line (over_long line over)))

-- one that is too long
pub Stands-ended : (start : Filtering) (old : Option (List ℕ)) (read prefix part : List ℕ) (now after : Filtering)
    (begun left : List ℕ) (is_long long : Bool) (text empty : List ℕ) (new newer : Option (List ℕ))
    → split prefix ≡ ([], prefix) → Stands start old read now begun is_long text new
    → is_over ((split read).1 ++ prefix) ≡ true → part ≡ prefix ++ line_feed ∷ []
    → Appends new newer (text ++ (begun ++ part)) → after ≡ passing is_long now → left ≡ [] → long ≡ false
    → empty ≡ [] → Stands start old (read ++ (prefix ++ line_feed ∷ [])) after left long empty newer
Stands-ended start old read prefix part now after begun left is_long long text empty new newer none h over is wrote
    counted no_more ends nothing =
    let line = (split read).1 ++ prefix in
    let all = h.written ++ (text ++ (begun ++ part)) in
    Stands-make start old (read ++ (prefix ++ line_feed ∷ [])) after left long empty newer [] false
    (h.closed ++ whole (ended_line line)) after all (last-closing read prefix none) refl
    (filtered_over start old read now after begun is_long text new prefix none h over counted)
    (Appends-trans old new newer h.written (text ++ (begun ++ part)) h.wrote wrote)
    (ap (λ t. all ++ t) nothing ∙ append-nil all
    ∙ ended_out start old read now begun is_long text new prefix part h is
    ∙ sym (append-nil (h.closed ++ whole (ended_line line))))
    no_more ends refl

-- ---- what is known

-- what is written of the lines of which that is known
pub ready_filtered : (start : Filtering) (old : Option (List ℕ)) (read : List ℕ) (now : Filtering) (begun : List ℕ)
    (is_long : Bool) (text : List ℕ) (new : Option (List ℕ))
    → (h : Stands start old read now begun is_long text new)
    → Filtered start (ready_lines read) (h.written ++ text) now
ready_filtered start old read now begun is_long text new h =
    let l = (split read).1 in
    with_ready (is_over l) l start (ended_lines read) h.closed (h.written ++ text) h.before now (over_long l) h.filtered
    h.out h.counted

-- ---- the end of the list

-- if no line has begun, or one that is too long
pub Ends-empty : (start : Filtering) (old : Option (List ℕ)) (read : List ℕ) (now : Filtering) (begun : List ℕ)
    (is_long : Bool) (text : List ℕ) (new : Option (List ℕ))
    → Stands start old read now begun is_long text new → begun ≡ [] → Ends start old read now text new
Ends-empty start old read now begun is_long text new h empty =
    let l = (split read).1 in
    record {
      written = h.written;
      wrote = h.wrote;
      filtered = subst (λ ls. Filtered start ls (h.written ++ text) now)
          (sym (all_ready read (λ over. sym (h.kept ∙ ap (λ c. kept_of c l) over) ∙ empty)))
          (ready_filtered start old read now begun is_long text new h);
    }

-- a line of which something is kept isn't too long
kept_short : (b : Bool) (l begun : List ℕ) → begun ≡ kept_of b l → 0 < length begun → b ≡ false
kept_short true l begun is some =
    let none : length begun ≡ 0 = ap length is in
    let no : ⊥ = omega (arith, none, some) in
    absurd no
kept_short false l begun is some = refl

pub begun_short : (start : Filtering) (old : Option (List ℕ)) (read : List ℕ) (now : Filtering) (begun : List ℕ)
    (is_long : Bool) (text : List ℕ) (new : Option (List ℕ))
    → Stands start old read now begun is_long text new → 0 < length begun → is_long ≡ false
begun_short start old read now begun is_long text new h some =
    h.long ∙ kept_short (is_over (split read).1) (split read).1 begun h.kept some

last_some : (l : List ℕ) → 0 < length l → last_line l ≡ open_line l ∷ []
last_some [] some = let no : ⊥ = omega (arith, some) in absurd no
last_some (x ∷ xs) some = refl

-- where one has begun, and is the last line
pub Ends-begun : (start : Filtering) (old : Option (List ℕ)) (read : List ℕ) (now after : Filtering) (begun : List ℕ)
    (is_long : Bool) (text more : List ℕ) (new : Option (List ℕ))
    → Stands start old read now begun is_long text new → 0 < length begun
    → Adds now (open_line begun) text after more → Ends start old read after more new
Ends-begun start old read now after begun is_long text more new h some adds =
    let l = (split read).1 in
    let over : is_over l ≡ false = kept_short (is_over l) l begun h.kept some in
    let begun_is : begun ≡ l = h.kept ∙ ap (λ c. kept_of c l) over in
    let before_is : now ≡ h.before = h.counted ∙ ap (λ c. with_over c h.before) over in
    let filters : Filters h.before (open_line l) adds.said after =
    subst (λ q. Filters q (open_line l) adds.said after) before_is
    (subst (λ t. Filters now (open_line t) adds.said after) begun_is adds.filters) in
    let out : h.written ++ text ≡ h.closed =
    h.out ∙ ap (λ c. h.closed ++ passed c l) over ∙ append-nil h.closed in
    let all : all_lines read ≡ ended_lines read ++ open_line l ∷ [] =
    ap (λ o. ended_lines read ++ o) (last_some l (subst (λ t. 0 < length t) begun_is some)) in
    record {
      written = h.written;
      wrote = h.wrote;
      filtered = subst (λ ls. Filtered start ls (h.written ++ more) after) (sym all)
          (subst (λ t. Filtered start (ended_lines read ++ open_line l ∷ []) t after)
          (sym (ap (λ t. h.written ++ t) adds.appended ∙ sym (append_assoc h.written text adds.said)
          ∙ ap (λ t. t ++ adds.said) out))
          (Filtered-snoc start (ended_lines read) (open_line l) h.closed adds.said h.before after h.filtered filters));
    }
