-- From lines that were reported on one after the other to the report, and to what a run has written and its faults
-- leave.
use Rattle.std.proofs.Common.{◌≡◌, ℕ, ◌+◌, List, [], ◌∷◌, ◌++◌, Option, Some, None, true, false, nat_le, length, take}
use Rattle.std.proofs.Common.{refl, sym, ap, ◌∙◌, subst, arith, sum_by, inl, inr, add-zero, zero-add, append-nil}
use Rattle.std.proofs.lemmas.Grind.{common_steps}
use Rattle.std.proofs.lemmas.Bool.{cases_lt}
use Rattle.std.proofs.lemmas.List.Sums.{sum_by-append}
use Rattle.std.proofs.KnownBytes.{Appends-nil, Keeps-refl}
use Rattle.uv_lines.specs.declared.fault.LineFault.{LineFault}
use Rattle.uv_lines.specs.declared.fault.LineFault.TheVariants as stopped
use Rattle.uv_lines.specs.declared.limits.LineLimits.{LineLimits}
use Rattle.uv_lines.specs.Lines.{short_line, closed_lines, lines_of}
use Rattle.uv_lines.specs.Framed.{FailsReads, Framed, LeavesPart}
use Rattle.uv_lines.specs.Reported.{Reported, ReportedPart}
use Rattle.uv_lines.specs.Run as run
use Rattle.uv_lines.proofs.FramedLemmas.{Wrote-map}
use Rattle.uv_links.specs.declared.counts.Counts.{Counts}
use Rattle.uv_links.specs.declared.fault.LinkFault.{LinkFault}
use Rattle.uv_links.specs.declared.fault.LinkFault.TheVariants.{Stop, Overflow, BaseDiffers}
use Rattle.uv_lines.specs.declared.fault.StopFault.TheVariants.{Memory, Read, Write, TooManyLines, Endless}
use Rattle.uv_compare.specs.declared.fault.RoomFault.{RoomFault}
use Rattle.uv_compare.specs.declared.fault.RoomFault.TheVariants as room
use Rattle.uv_links.specs.Fault.{IsBaseFault}
use Rattle.uv_links.specs.Report.{ListSetting, Said, TooLong, IsSaid, AreSaid, IsReport, IsReportOfFirst, report_line}
use Rattle.uv_links.specs.Report.{report_lines, count_line, counted, tally, ok_of, bad_of, differs_of}
use Rattle.uv_links.specs.Reporting.{Reporting, IsSaidOf, Says, none_counted}
use Rattle.uv_links.specs.Run.{WroteFirst, WroteLines, Reports, Leaves, fault_of_run, reads_failed}
use Rattle.uv_links.specs.Run.{writes_failed}

-- ---- what the report says of each line

-- what the report says of a line within its limit or of a longer one is said of the line
short_line_said : (s : ListSetting) (line : List ℕ) (said : Said) → IsSaidOf s (short_line s.line_bytes line) said
    → IsSaid s line said
short_line_said s line said is =
    elim (cases_lt s.line_bytes (length line)) [
      | inl long ↦ (
          let over : nat_le (length line) s.line_bytes ≡ false = grind (arith, common_steps, long) in
          let none : short_line s.line_bytes line ≡ None = rw over refl in
          let too_long : said ≡ TooLong = subst (λ o. IsSaidOf s o said) none is in
          subst (λ x. IsSaid s line x) (sym too_long) long)
      | inr short ↦ (
          let fits : nat_le (length line) s.line_bytes ≡ true = grind (arith, common_steps, short) in
          let some : short_line s.line_bytes line ≡ Some line = rw fits refl in
          subst (λ o. IsSaidOf s o said) some is)
    ]

-- the counts of two reports
abbrev pub plus : Counts → Counts → Counts
plus c d = record {
  lines = c.lines + d.lines;
  ok = c.ok + d.ok;
  bad = c.bad + d.bad;
  differs = c.differs + d.differs;
}

-- counts are the same where each number is
abbrev counts_of : ℕ → ℕ → ℕ → ℕ → Counts
counts_of a b c d = record { lines = a; ok = b; bad = c; differs = d }

same_counts : (a a' b b' c c' d d' : ℕ) → a ≡ a' → b ≡ b' → c ≡ c' → d ≡ d' → counts_of a b c d ≡ counts_of a' b' c' d'
same_counts a a' b b' c c' d d' p q r s =
    ap (λ n. counts_of n b c d) p ∙ ap (λ n. counts_of a' n c d) q ∙ ap (λ n. counts_of a' b' n d) r
    ∙ ap (λ n. counts_of a' b' c' n) s

plus-counted : (c : Counts) (said : Said) (saids : List Said)
    → plus (counted c said) (tally saids) ≡ plus c (tally (said ∷ saids))
plus-counted c said saids =
    let ok = sum_by-append ok_of (said ∷ []) saids in
    let bad = sum_by-append bad_of (said ∷ []) saids in
    let differs = sum_by-append differs_of (said ∷ []) saids in
    same_counts (c.lines + 1 + length saids) (c.lines + length (said ∷ saids))
    (c.ok + ok_of said + sum_by ok_of saids) (c.ok + sum_by ok_of (said ∷ saids))
    (c.bad + bad_of said + sum_by bad_of saids) (c.bad + sum_by bad_of (said ∷ saids))
    (c.differs + differs_of said + sum_by differs_of saids) (c.differs + sum_by differs_of (said ∷ saids))
    (omega arith) (omega (arith, ok)) (omega (arith, bad)) (omega (arith, differs))

plus-none : (d : Counts) → plus none_counted d ≡ d
plus-none d =
    same_counts (0 + d.lines) d.lines (0 + d.ok) d.ok (0 + d.bad) d.bad (0 + d.differs) d.differs
    (zero-add d.lines) (zero-add d.ok) (zero-add d.bad) (zero-add d.differs)

plus-no_lines : (c : Counts) → c ≡ plus c (tally [])
plus-no_lines c =
    same_counts c.lines (c.lines + 0) c.ok (c.ok + 0) c.bad (c.bad + 0) c.differs (c.differs + 0)
    (omega arith) (omega arith) (omega arith) (omega arith)

-- what was said of lines, one after the other
pub record WasSaid (p : Reporting) (ls : List (List ℕ)) (text : List ℕ) (q : Reporting) : Type 0 where
  pub saids : List Said
  pub said : AreSaid p.setting ls saids
  pub lines : text ≡ report_lines (p.counts.lines + 1) saids
  pub counts : q.counts ≡ plus p.counts (tally saids)

reported_said : (n : ℕ) (p q : Reporting) (ls : List (List ℕ)) (text : List ℕ) → p.setting.line_bytes ≡ n
    → Reported Says n p ls text q → WasSaid p ls text q
reported_said n p q [] text is all = record {
  saids = [];
  said = tt {0};
  lines = all.0;
  counts = ap (λ r. r.counts) all.1 ∙ plus-no_lines p.counts;
}
reported_said n p q (l ∷ ls) text is all =
    let rest = all.1 in
    let next = all.2 in
    let says = all.3 in
    let more = reported_said n next q ls rest (ap (λ s. s.line_bytes) says.setting ∙ is) all.4 in
    let number : next.counts.lines ≡ p.counts.lines + 1 = ap (λ c. c.lines) says.counted in
    record {
      saids = says.said ∷ more.saids;
      said = (
        short_line_said p.setting l says.said
            (subst (λ k. IsSaidOf p.setting (short_line k l) says.said) (sym is) says.is_said),
        subst (λ s. AreSaid s ls more.saids) says.setting more.said,
      );
      lines = all.5 ∙ ap (λ t. t ++ rest) says.written
          ∙ ap (λ t. report_line (p.counts.lines + 1) says.said ++ t)
          (more.lines ∙ ap (λ k. report_lines (k + 1) more.saids) number);
      counts = more.counts ∙ ap (λ c. plus c (tally more.saids)) says.counted
          ∙ plus-counted p.counts says.said more.saids;
    }

-- ---- from a run over lines to the report

-- before the first line
abbrev pub fresh : ListSetting → Reporting
fresh setting = record { setting = setting; counts = none_counted }

-- the report on lines, in a frame that is empty
abbrev pub Lines : ListSetting → List (List ℕ) → List ℕ → Reporting → Type 0
Lines s = Framed (Reported Says s.line_bytes (fresh s)) [] (λ _. [])

-- a line that is begun: none is
abbrev pub begins_none : Reporting → Option (List ℕ) → List ℕ → Type 0
begins_none before line parts = ⊥

-- a part of the report, in that frame
abbrev pub Parts : ListSetting → List (List ℕ) → List ℕ → Reporting → Type 0
Parts s = Framed (ReportedPart Says begins_none s.line_bytes (fresh s)) [] (λ _. [])

-- the report on lines, in a frame that ends with the line of counts
abbrev pub Whole : ListSetting → List (List ℕ) → List ℕ → Reporting → Type 0
Whole s = Framed (Reported Says s.line_bytes (fresh s)) [] (λ r. count_line r.counts ++ [])

-- what a fault leaves of a run by these limits, in this frame, by what reports on the lines from this state on
abbrev pub LeavesBy : LineLimits → List ℕ → List ℕ → Reporting → LineFault RoomFault → Option (List ℕ) → List ℕ
    → Type 0 → Reporting → Option (List ℕ) → Type 0
LeavesBy limits begin end start e old read at_end q new =
    LeavesPart (Framed (Reported Says limits.line_bytes start) begin (λ _. end))
    (Framed (ReportedPart Says begins_none limits.line_bytes start) begin (λ _. end))
    (Framed (Reported Says limits.line_bytes start) begin (λ r. count_line r.counts ++ end)) limits e old read at_end q
    new

-- what a fault leaves of a run, with the limits, the frame and the state put as what they are
pub leaves_by : (given limits : LineLimits) (begin end : List ℕ) (start p : Reporting) (e : LineFault RoomFault)
    (old : Option (List ℕ)) (read : List ℕ) (at_end : Type 0) (q : Reporting) (new : Option (List ℕ))
    → given ≡ limits → begin ≡ [] → end ≡ [] → start ≡ p
    → LeavesBy given begin end start e old read at_end q new → LeavesBy limits [] [] p e old read at_end q new
leaves_by given limits begin end start p e old read at_end q new same none no_end starts left =
    subst (λ s. LeavesBy limits [] [] s e old read at_end q new) starts
    (subst (λ t. LeavesBy limits [] t start e old read at_end q new) no_end
    (subst (λ b. LeavesBy limits b end start e old read at_end q new) none
    (subst (λ l. LeavesBy l begin end start e old read at_end q new) same left)))

-- since no line is begun, a part is the report on whole lines
reported_lines : (n : ℕ) (p q : Reporting) (lines : List (List ℕ)) (text : List ℕ)
    → ReportedPart Says begins_none n p lines text q → Reported Says n p lines text q
reported_lines n p q lines text (inl reported) = reported
reported_lines n p q lines text (inr begun) = absurd begun.begun

part_lines : (s : ListSetting) (q : Reporting) (lines : List (List ℕ)) (text : List ℕ) → Parts s lines text q
    → Lines s lines text q
part_lines s q lines text part = record {
  said = part.said;
  reported = reported_lines s.line_bytes (fresh s) q lines part.said part.reported;
  whole = part.whole;
}

first_report : (s : ListSetting) (q : Reporting) (read text : List ℕ) (count : ℕ)
    → Lines s (take count (lines_of read)) text q → IsReportOfFirst s read count text
first_report s q read text count all =
    let was = reported_said s.line_bytes (fresh s) q (take count (lines_of read)) all.said refl all.reported in
    record { saids = was.saids; said = was.said; lines = all.whole ∙ append-nil all.said ∙ was.lines }

-- the report with its line of counts
whole_report : (s : ListSetting) (q : Reporting) (read text : List ℕ) → Whole s (lines_of read) text q
    → IsReport s read text q.counts
whole_report s q read text all =
    let was = reported_said s.line_bytes (fresh s) q (lines_of read) all.said refl all.reported in
    let counts : q.counts ≡ tally was.saids = was.counts ∙ plus-none (tally was.saids) in
    record {
      saids = was.saids;
      said = was.said;
      whole = all.whole ∙ ap (λ t. all.said ++ t) (append-nil (count_line q.counts))
          ∙ ap (λ t. t ++ count_line q.counts) was.lines
          ∙ ap (λ c. report_lines 1 was.saids ++ count_line c) counts;
      counted = counts;
    }

wrote_first : (s : ListSetting) (old new : Option (List ℕ)) (read : List ℕ) (count : ℕ) (q : Reporting)
    → run.WroteFirst (Lines s) old read count q new → WroteFirst s old read count new
wrote_first s old new read count q all =
    record { text = all.text; report = first_report s q read all.text count all.reported; wrote = all.wrote }

wrote_some : (s : ListSetting) (old new : Option (List ℕ)) (read : List ℕ) (at_end : Type 0) (q : Reporting)
    → run.WroteLines (Lines s) old read at_end q new → WroteLines s old read at_end new
wrote_some s old new read at_end q all = (all.0, all.1, all.2, wrote_first s old new read all.0 q all.3)

wrote_parts : (s : ListSetting) (old new : Option (List ℕ)) (read : List ℕ) (at_end : Type 0) (q : Reporting)
    → run.WroteLines (Parts s) old read at_end q new → WroteLines s old read at_end new
wrote_parts s old new read at_end q all = (
  all.0,
  all.1,
  all.2,
  wrote_first s old new read all.0 q (Wrote-map (Parts s) (Lines s) (take all.0 (lines_of read)) old new q q
      (λ lines text. part_lines s q lines text) all.3),
)

-- the whole report was written
pub run-reports : (s : ListSetting) (most : ℕ) (old new : Option (List ℕ)) (read : List ℕ) (q : Reporting)
    → run.WroteAll (Whole s) (record { line_bytes = s.line_bytes; lines = most }) old read q new
    → Reports s most old read q.counts new
run-reports s most old new read q all = record {
  text = all.wrote.text;
  report = whole_report s q read all.wrote.text all.wrote.reported;
  wrote = all.wrote.wrote;
  few = all.few;
}

-- a fault left a part of its lines
part-left : (e : LineFault RoomFault) (s : ListSetting) (most : ℕ) (old : Option (List ℕ)) (read : List ℕ)
    (at_end : Type 0) (q : Reporting) (new : Option (List ℕ))
    → run.Leaves (Lines s) (Parts s) (record { line_bytes = s.line_bytes; lines = most }) e old read at_end q new
    → Leaves (fault_of_run e) s most old read at_end new
part-left (stopped.Own room.Memory) s most old read at_end q new left = wrote_parts s old new read at_end q left
part-left (stopped.Own room.Overflow) s most old read at_end q new left = wrote_parts s old new read at_end q left
part-left (stopped.Stop Memory) s most old read at_end q new left = wrote_some s old new read at_end q left
part-left (stopped.Stop Read) s most old read at_end q new left =
    wrote_first s old new read (length (closed_lines read)) q left
part-left (stopped.Stop Write) s most old read at_end q new left =
    let cut = left.2 in
    record {
      text = cut.text;
      report = inr (
        left.0,
        left.1,
        first_report s q read cut.text left.0
            (part_lines s q (take left.0 (lines_of read)) cut.text cut.reported),
      );
      prefix = cut.prefix;
      wrote = cut.wrote;
    }
part-left (stopped.Stop TooManyLines) s most old read at_end q new left =
    (wrote_first s old new read most q left.0, left.1)
part-left (stopped.Stop Endless) s most old read at_end q new left =
    (wrote_first s old new read (length (closed_lines read)) q left.0, left.1)

-- or of the whole report
pub run-left : (e : LineFault RoomFault) (s : ListSetting) (most : ℕ) (old : Option (List ℕ)) (read : List ℕ)
    (at_end : Type 0) (q : Reporting) (new : Option (List ℕ))
    → LeavesPart (Lines s) (Parts s) (Whole s) (record { line_bytes = s.line_bytes; lines = most }) e old read at_end q
    new
    → Leaves (fault_of_run e) s most old read at_end new
run-left e s most old read at_end q new (inl left) = part-left e s most old read at_end q new left
run-left e s most old read at_end q new (inr (is, cut)) =
    subst (λ f. Leaves (fault_of_run f) s most old read at_end new) (sym is) (record {
      text = cut.text;
      report = inl (q.counts, whole_report s q read cut.text cut.reported);
      prefix = cut.prefix;
      wrote = cut.wrote;
    })

-- as many reads and writes have failed
pub run-failed : (e : LineFault RoomFault) (reads reads' writes writes' : ℕ)
    → FailsReads [] e reads reads' × (writes' ≡ writes + run.writes_failed e)
    → (reads' ≡ reads + reads_failed (fault_of_run e)) × (writes' ≡ writes + writes_failed (fault_of_run e))
run-failed (stopped.Own room.Memory) reads reads' writes writes' (same, one) = (same ∙ sym (add-zero reads), one)
run-failed (stopped.Own room.Overflow) reads reads' writes writes' (same, one) = (same ∙ sym (add-zero reads), one)
run-failed (stopped.Stop Memory) reads reads' writes writes' (same, one) = (same ∙ sym (add-zero reads), one)
run-failed (stopped.Stop Read) reads reads' writes writes' fails = fails
run-failed (stopped.Stop Write) reads reads' writes writes' (inl same, one) = (same ∙ sym (add-zero reads), one)
run-failed (stopped.Stop Write) reads reads' writes writes' (inr some, one) = absurd (some.0 refl)
run-failed (stopped.Stop TooManyLines) reads reads' writes writes' (same, one) = (same ∙ sym (add-zero reads), one)
run-failed (stopped.Stop Endless) reads reads' writes writes' (same, one) = (same ∙ sym (add-zero reads), one)

-- ---- before the first read

nothing_written : (s : ListSetting) (old : Option (List ℕ)) (at_end : Type 0) → WroteLines s old [] at_end old
nothing_written s old at_end = (
  0,
  omega arith,
  inl (omega arith),
  record {
    text = [];
    report = record { saids = []; said = tt {0}; lines = refl };
    wrote = Appends-nil old;
  },
)

-- where the base's text couldn't be compared, or differs
pub base-left : (fault : LinkFault) (setting : ListSetting) (most : ℕ) (old : Option (List ℕ)) (at_end : Type 0)
    → IsBaseFault setting.base fault → Leaves fault setting most old [] at_end old × (reads_failed fault ≡ 0)
    × (writes_failed fault ≡ 0)
base-left (Stop Memory) setting most old at_end is = (nothing_written setting old at_end, refl, refl)
base-left Overflow setting most old at_end is = (nothing_written setting old at_end, refl, refl)
base-left BaseDiffers setting most old at_end is = ((refl, Keeps-refl old, is), refl, refl)
base-left (Stop Read) setting most old at_end is = absurd is
base-left (Stop Write) setting most old at_end is = absurd is
base-left (Stop TooManyLines) setting most old at_end is = absurd is
base-left (Stop Endless) setting most old at_end is = absurd is
