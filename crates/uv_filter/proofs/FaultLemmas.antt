-- What the faults of a run leave.
use Rattle.std.proofs.Common.{◌≡◌, ℕ, ◌+◌, Bool, true, false, List, [], ◌∷◌, ◌++◌, Option, length, take, refl}
use Rattle.std.proofs.Common.{sym, ap, ◌∙◌, subst, arith, append-nil, inl, inr}
use Rattle.std.proofs.KnownBytes.{Appends-trans, Appends-nil}
use Rattle.std.proofs.Math.Seq.{take-append-add, take-length}
use Rattle.std.specs.Io.KnownBytes.{Appends}
use Rattle.std.specs.declared.alloc.AllocError.{AllocError}
use Rattle.uv_lines.specs.declared.fault.LineFault.{LineFault}
use Rattle.uv_lines.specs.declared.fault.LineFault.TheVariants.{Own, Stop}
use Rattle.uv_lines.specs.declared.fault.ReportFault.{ReportFault}
use Rattle.uv_lines.specs.declared.fault.ReportFault.TheVariants as within
use Rattle.uv_lines.specs.declared.fault.StopFault.TheVariants.{Memory, Read, Write, TooManyLines, Endless}
use Rattle.uv_lines.specs.Fault.{failed_within, reads_failed, writes_failed}
use Rattle.uv_lines.specs.Lines.{line_feed, split}
use Rattle.uv_lines.specs.Run as run
use Rattle.uv_lines.specs.Taking.{Left, Way, writes_of}
use Rattle.uv_lines.proofs.FramedLemmas.{prefix_of}
use Rattle.uv_filter.specs.Filtered.{Filtered, Filtering}
use Rattle.uv_filter.specs.Lines.{Line, all_lines, ended_line, ended_lines, is_over, ready_lines, whole}
use Rattle.uv_filter.specs.Progress.{Ends, Stands, passed, passing, with_over}
use Rattle.uv_filter.specs.Run.{Cut, Leaves, Stops, TakeFault, Wrote, WrotePrefix, fault_of_list}
use Rattle.uv_filter.proofs.FilteredLemmas.{with_ready}
use Rattle.uv_filter.proofs.LineLemmas.{ended-growing, ended_few, first_few, first_lines, last-growing, over_long}
use Rattle.uv_filter.proofs.LineLemmas.{prefix_count, ready_first}
use Rattle.uv_filter.proofs.StandsLemmas.{ended_out, filtered_over, passed_out, passed_state, ready_filtered}

-- a prefix of what is written of lines was written, a part of it before
pub cut : (start : Filtering) (lines : List Line) (old new newer : Option (List ℕ)) (now : Filtering)
    (written more text : List ℕ) (n : ℕ) → Appends old new written → Appends new newer (take n more)
    → written ++ more ≡ text → Filtered start lines text now → Cut start lines old newer now
cut start lines old new newer now written more text n before part is all = record {
  text = text;
  filtered = all;
  prefix = length written + n;
  wrote = subst (λ t. Appends old newer (take (length written + n) t)) is
      (rw (take-append-add written more n) (Appends-trans old new newer written (take n more) before part));
}

-- the lines that have ended, if no line has begun that is too long
closed_filtered : (start : Filtering) (old : Option (List ℕ)) (read : List ℕ) (now : Filtering) (begun : List ℕ)
    (is_long : Bool) (text : List ℕ) (new : Option (List ℕ))
    → (h : Stands start old read now begun is_long text new) → is_long ≡ false
    → Filtered start (ended_lines read) (h.written ++ text) now
closed_filtered start old read now begun is_long text new h short =
    let l = (split read).1 in
    let over : is_over l ≡ false = sym h.long ∙ short in
    subst (λ q. Filtered start (ended_lines read) (h.written ++ text) q)
    (sym (h.counted ∙ ap (λ c. with_over c h.before) over))
    (subst (λ t. Filtered start (ended_lines read) t h.before)
    (sym (h.out ∙ ap (λ c. h.closed ++ passed c l) over ∙ append-nil h.closed)) h.filtered)

-- a write failed while lines waited
pub write-cut : (start : Filtering) (old : Option (List ℕ)) (read rest : List ℕ) (now after : Filtering)
    (begun : List ℕ) (is_long : Bool) (text : List ℕ) (new newer : Option (List ℕ)) (n : ℕ)
    → Stands start old read now begun is_long text new → is_long ≡ false → Appends new newer (take n text)
    → after ≡ now → WrotePrefix start old (read ++ rest) after newer
write-cut start old read rest now after begun is_long text new newer n h short part same = (
  length (ended_lines read),
  first_few read rest,
  subst (λ q. Cut start (take (length (ended_lines read)) (all_lines (read ++ rest))) old newer q) (sym same)
      (subst (λ ls. Cut start ls old newer now) (sym (first_lines read rest))
      (cut start (ended_lines read) old new newer now h.written text (h.written ++ text) n h.wrote part refl
      (closed_filtered start old read now begun is_long text new h short))),
)

-- memory ran out
memory-left : (fault : AllocError) (start : Filtering) (old : Option (List ℕ)) (read rest : List ℕ)
    (now after : Filtering) (begun : List ℕ) (is_long : Bool) (text : List ℕ) (new newer : Option (List ℕ))
    → Stands start old read now begun is_long text new → is_long ≡ false → Appends new newer text → after ≡ now
    → TakeFault (within.Reporter fault) start old (read ++ rest) after newer
memory-left fault start old read rest now after begun is_long text new newer h short wrote same = (
  length (ended_lines read),
  prefix_count read rest,
  subst (λ q. Wrote start (take (length (ended_lines read)) (all_lines (read ++ rest))) old newer q) (sym same)
      (subst (λ ls. Wrote start ls old newer now) (sym (first_lines read rest)) (record {
        text = h.written ++ text;
        filtered = closed_filtered start old read now begun is_long text new h short;
        wrote = Appends-trans old new newer h.written text h.wrote wrote;
      })),
)

-- memory ran out, and what waited was written or a prefix of it
pub stops-left : (e : ReportFault AllocError) (start : Filtering) (old : Option (List ℕ)) (read rest : List ℕ)
    (now after : Filtering) (begun : List ℕ) (is_long : Bool) (text waits : List ℕ) (new newer : Option (List ℕ))
    → Stands start old read now begun is_long text new → is_long ≡ false → waits ≡ text → Stops e waits new newer
    → after ≡ now → TakeFault e start old (read ++ rest) after newer
stops-left (within.Reporter fault) start old read rest now after begun is_long text waits new newer h short is stops
    same =
    memory-left fault start old read rest now after begun is_long text new newer h short
    (subst (λ t. Appends new newer t) is stops) same
stops-left within.Write start old read rest now after begun is_long text waits new newer h short is stops same =
    write-cut start old read rest now after begun is_long text new newer stops.0 h short
    (subst (λ t. Appends new newer (take stops.0 t)) is stops.1) same

-- a write failed while a line that is too long went on
pub pass-cut : (start : Filtering) (old : Option (List ℕ)) (read rest : List ℕ) (now after : Filtering)
    (begun : List ℕ) (is_long : Bool) (text : List ℕ) (new newer : Option (List ℕ)) (n : ℕ)
    → split rest ≡ ([], rest) → Stands start old read now begun is_long text new
    → is_over ((split read).1 ++ rest) ≡ true → Appends new newer (take n (text ++ (begun ++ rest)))
    → after ≡ passing is_long now → WrotePrefix start old (read ++ rest) after newer
pass-cut start old read rest now after begun is_long text new newer n none h over part counted =
    let l = (split read).1 in
    let all = h.closed ++ (l ++ rest) in
    let over_last : is_over (split (read ++ rest)).1 ≡ true = ap is_over (last-growing read rest none) ∙ over in
    let filtered : Filtered start (ready_lines (read ++ rest)) all after =
    with_ready (is_over (split (read ++ rest)).1) (split (read ++ rest)).1 start (ended_lines (read ++ rest))
    h.closed all h.before after (over_long (split (read ++ rest)).1)
    (subst (λ ls. Filtered start ls h.closed h.before) (sym (ended-growing read rest none)) h.filtered)
    (ap (λ t. h.closed ++ t) (sym (last-growing read rest none))
    ∙ ap (λ c. h.closed ++ passed c (split (read ++ rest)).1) (sym over_last))
    (passed_state start old read now after begun is_long text new h counted
    ∙ ap (λ c. with_over c h.before) (sym over_last)) in
    let first = ready_first (read ++ rest) in (
      first.0,
      first.1,
      subst (λ ls. Cut start ls old newer after) (sym first.2)
          (cut start (ready_lines (read ++ rest)) old new newer after h.written (text ++ (begun ++ rest)) all n h.wrote
          part (passed_out start old read now begun is_long text new rest h) filtered),
    )

-- a write failed while such a line ended
pub end-cut : (start : Filtering) (old : Option (List ℕ)) (read prefix part rest : List ℕ) (now after : Filtering)
    (begun : List ℕ) (is_long : Bool) (text : List ℕ) (new newer : Option (List ℕ)) (n : ℕ)
    → split prefix ≡ ([], prefix) → Stands start old read now begun is_long text new
    → is_over ((split read).1 ++ prefix) ≡ true → part ≡ prefix ++ line_feed ∷ []
    → Appends new newer (take n (text ++ (begun ++ part))) → after ≡ passing is_long now
    → WrotePrefix start old ((read ++ (prefix ++ line_feed ∷ [])) ++ rest) after newer
end-cut start old read prefix part rest now after begun is_long text new newer n none h over is wrote counted =
    let all = h.closed ++ whole (ended_line ((split read).1 ++ prefix)) in
    let ended = read ++ (prefix ++ line_feed ∷ []) in (
      length (ended_lines ended),
      first_few ended rest,
      subst (λ ls. Cut start ls old newer after) (sym (first_lines ended rest))
          (cut start (ended_lines ended) old new newer after h.written (text ++ (begun ++ part)) all n h.wrote wrote
          (ended_out start old read now begun is_long text new prefix part h is)
          (filtered_over start old read now after begun is_long text new prefix none h over counted)),
    )

-- a write failed after the last piece that was read, in the midst of a list
pub piece-cut : (start : Filtering) (old : Option (List ℕ)) (read : List ℕ) (now after : Filtering)
    (begun : List ℕ) (is_long : Bool) (text : List ℕ) (new newer : Option (List ℕ)) (n : ℕ)
    → Stands start old read now begun is_long text new → Appends new newer (take n text) → after ≡ now
    → WrotePrefix start old read after newer
piece-cut start old read now after begun is_long text new newer n h part same =
    let first = ready_first read in (
      first.0,
      first.1,
      subst (λ q. Cut start (take first.0 (all_lines read)) old newer q) (sym same)
          (subst (λ ls. Cut start ls old newer now) (sym first.2)
          (cut start (ready_lines read) old new newer now h.written text (h.written ++ text) n h.wrote part refl
          (ready_filtered start old read now begun is_long text new h))),
    )

-- ---- three pieces, one after the other

-- a write failed in the second
pub second-cut : (old mid new : Option (List ℕ)) (text begun part : List ℕ) (k : ℕ) → Appends old mid text
    → Appends mid new (take k begun) → (n : ℕ) × Appends old new (take n (text ++ (begun ++ part)))
second-cut old mid new text begun part k first second =
    let p = prefix_of k begun part in (
      length text + p.0,
      rw (take-append-add text (begun ++ part) p.0) (Appends-trans old mid new text (take p.0 (begun ++ part)) first
          (subst (λ t. Appends mid new t) (sym p.1) second)),
    )

-- or in the third
pub third-cut : (old mid low new : Option (List ℕ)) (text begun part : List ℕ) (k : ℕ) → Appends old mid text
    → Appends mid low begun → Appends low new (take k part)
    → (n : ℕ) × Appends old new (take n (text ++ (begun ++ part)))
third-cut old mid low new text begun part k first second third = (
  length text + (length begun + k),
  rw (take-append-add text (begun ++ part) (length begun + k)) (Appends-trans old mid new text
      (take (length begun + k) (begun ++ part)) first
      (rw (take-append-add begun part k) (Appends-trans mid low new begun (take k part) second third))),
)

-- ---- the end of the list

-- all was written
pub ends-wrote : (start : Filtering) (old : Option (List ℕ)) (read : List ℕ) (now after : Filtering) (text : List ℕ)
    (new newer : Option (List ℕ)) → Ends start old read now text new → Appends new newer text → after ≡ now
    → Wrote start (all_lines read) old newer after
ends-wrote start old read now after text new newer h wrote same =
    subst (λ q. Wrote start (all_lines read) old newer q) (sym same) (record {
      text = h.written ++ text;
      filtered = h.filtered;
      wrote = Appends-trans old new newer h.written text h.wrote wrote;
    })

-- a write failed
pub ends-cut : (start : Filtering) (old : Option (List ℕ)) (read : List ℕ) (now after : Filtering) (text : List ℕ)
    (new newer : Option (List ℕ)) (n : ℕ) → Ends start old read now text new → Appends new newer (take n text)
    → after ≡ now → WrotePrefix start old read after newer
ends-cut start old read now after text new newer n h part same = (
  length (all_lines read),
  omega arith,
  subst (λ q. Cut start (take (length (all_lines read)) (all_lines read)) old newer q) (sym same)
      (subst (λ ls. Cut start ls old newer now) (sym (take-length (all_lines read)))
      (cut start (all_lines read) old new newer now h.written text (h.written ++ text) n h.wrote part refl h.filtered)),
)

-- ---- a run

-- what is known of the lines was written
pub ready-wrote : (start : Filtering) (old : Option (List ℕ)) (read : List ℕ) (now : Filtering) (begun : List ℕ)
    (is_long : Bool) (text : List ℕ) (new : Option (List ℕ))
    → Stands start old read now begun is_long text new → text ≡ [] → Wrote start (ready_lines read) old new now
ready-wrote start old read now begun is_long text new h empty = record {
  text = h.written;
  filtered = subst (λ t. Filtered start (ready_lines read) t now)
      (ap (λ t. h.written ++ t) empty ∙ append-nil h.written)
      (ready_filtered start old read now begun is_long text new h);
  wrote = h.wrote;
}

-- what a piece's fault leaves is what the run's fault leaves, and it isn't a failed read
take_to_run : (e : ReportFault AllocError) (start : Filtering) (old : Option (List ℕ)) (read : List ℕ)
    (at_end : Type 0) (now : Filtering) (new : Option (List ℕ)) → TakeFault e start old read now new
    → Leaves (fault_of_list (Own e)) start old read at_end now new × (reads_failed (fault_of_list (Own e)) ≡ 0)
    × (writes_failed (fault_of_list (Own e)) ≡ failed_within e)
take_to_run (within.Reporter fault) start old read at_end now new left = (
  (left.0, (let few = ended_few read in let below = left.1 in omega (arith, few, below)), inl left.1, left.2),
  refl,
  refl,
)
take_to_run within.Write start old read at_end now new left = (left, refl, refl)

-- before the first read nothing is written
nothing_written : (start : Filtering) (old : Option (List ℕ)) (at_end : Type 0)
    → Leaves Memory start old [] at_end start old
nothing_written start old at_end = (
  0,
  omega arith,
  inl (omega arith),
  record { text = []; filtered = (refl, refl); wrote = Appends-nil old },
)

-- what is left where a list is taken by the filter is what the run's fault leaves
pub list_to_run : {P : Type 0} (p : P) (of : P → Filtering) (stands : Way P) (rests : P → Type 0)
    (stops : ReportFault AllocError → Way P) (e : LineFault (ReportFault AllocError)) (old : Option (List ℕ))
    (read : List ℕ) (at_end : Type 0) (q : P) (new : Option (List ℕ))
    → ((fault : ReportFault AllocError) → stops fault p old read q new → TakeFault fault (of p) old read (of q) new)
    → (stands p old read q new → rests q → Wrote (of p) (ready_lines read) old new (of q))
    → Left stands rests stops stops e p old read at_end q new
    → Leaves (fault_of_list e) (of p) old read at_end (of q) new
    × (reads_failed (fault_of_list e) ≡ run.reads_failed e)
    × (writes_failed (fault_of_list e) ≡ writes_of failed_within e)
list_to_run p of stands rests stops (Own fault) old read at_end q new stopped ready (inl left) =
    take_to_run fault (of p) old read at_end (of q) new (stopped fault left)
list_to_run p of stands rests stops (Own fault) old read at_end q new stopped ready (inr left) =
    take_to_run fault (of p) old read at_end (of q) new (stopped fault left.1)
list_to_run p of stands rests stops (Stop Memory) old read at_end q new stopped ready left =
    (rw (left.0, left.1, left.2) (nothing_written (of p) old at_end), refl, refl)
list_to_run p of stands rests stops (Stop Read) old read at_end q new stopped ready left =
    (ready left.0 left.1, refl, refl)
list_to_run p of stands rests stops (Stop Endless) old read at_end q new stopped ready left =
    ((ready left.0 left.1, left.2), refl, refl)
list_to_run p of stands rests stops (Stop Write) old read at_end q new stopped ready left = absurd left
list_to_run p of stands rests stops (Stop TooManyLines) old read at_end q new stopped ready left = absurd left
