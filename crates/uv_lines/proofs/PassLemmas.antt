-- What is written between two pieces and at the end of the list.
use Rattle.std.proofs.Common.{◌≡◌, ℕ, ◌+◌, ◌<◌, ◌≤◌, true, false, List, [], ◌∷◌, ◌++◌, Option}
use Rattle.std.proofs.Common.{length, take, refl, subst, arith, append-nil, inl, inr}
use Rattle.std.proofs.lemmas.List.{length-append}
use Rattle.std.proofs.Math.Seq.{take-length}
use Rattle.std.proofs.KnownBytes.{Appends-nil}
use Rattle.std.specs.Io.KnownBytes.{Appends}
use Rattle.uv_lines.specs.declared.fault.LineFault.{LineFault}
use Rattle.uv_lines.specs.declared.fault.LineFault.TheVariants.{Own, Stop}
use Rattle.uv_lines.specs.declared.fault.StopFault.TheVariants.{Memory, Read, Write, TooManyLines, Endless}
use Rattle.uv_lines.specs.declared.fault.ReportFault.{ReportFault}
use Rattle.uv_lines.specs.declared.fault.ReportFault.TheVariants as within
use Rattle.uv_lines.specs.declared.limits.LineLimits.{LineLimits}
use Rattle.uv_lines.specs.Fault.{failed_within, fault_of_list, fault_of_run, is_write}
use Rattle.uv_lines.specs.Lines.{line_feed, short_line, split, closed_lines, open_lines, lines_of}
use Rattle.uv_lines.specs.Progress.{Stands, IsPartOfFirst, IsReportOfFirst, TakeFault}
use Rattle.uv_lines.specs.Reported.{Reported, ReportedPart, Wrote}
use Rattle.uv_lines.specs.Run.{EndFault, WaitFault, Waits, WroteFirst, WrotePrefix, WroteLines, Leaves, PassFault}
use Rattle.uv_lines.specs.Run.{FinishFault, reads_failed, writes_failed}
use Rattle.uv_lines.specs.Taking.{Left, Way, writes_of}
use Rattle.uv_lines.specs.Waiting.{Adds, AreFirstParts, CutsOff, LeavesLine, Passes}
use Rattle.uv_lines.proofs.StandsLemmas.{Ends-begun, Ends-empty, Stands-closed, Stands-growing, Stands-start, closing}
use Rattle.uv_lines.proofs.StandsLemmas.{closing-left, end-left, many-left, prefix_count, prefix_report, room-left}
use Rattle.uv_lines.proofs.WaitingLemmas.{cuts_more, cuts_on, passes_more, passes_none, passes_on, passes_written}

-- before the first piece
pub Waits-start : {S : Type 0} (reports : S → Option (List ℕ) → List ℕ → S → Type 0) (lines : S → ℕ) (n : ℕ) (p : S)
    (old : Option (List ℕ)) (begun text : List ℕ) → lines p ≡ 0 → begun ≡ [] → text ≡ []
    → Waits reports lines n p old [] p begun text old
Waits-start reports lines n p old begun text count none empty = record {
  said = [];
  passes = rw empty (passes_none [] old);
  stands = Stands-start reports lines n p begun count none;
}

-- what waited was written, or a beginning of it
pub Waits-written : {S : Type 0} (reports : S → Option (List ℕ) → List ℕ → S → Type 0) (lines : S → ℕ) (n : ℕ)
    (start : S) (old now new : Option (List ℕ)) (read : List ℕ) (q r : S) (begun text left waits : List ℕ)
    → Waits reports lines n start old read q begun text now → Passes text now new waits
    → r ≡ q → left ≡ begun → Waits reports lines n start old read r left waits new
Waits-written reports lines n start old now new read q r begun text left waits all passes same kept = record {
  said = all.said;
  passes = passes_on all.said old now new text waits all.passes passes;
  stands = rw (same, kept) all.stands;
}

-- no more lines are closed than there are
pub closed_few : (read : List ℕ) → length (closed_lines read) ≤ length (lines_of read)
closed_few read = rw (length-append (closed_lines read) (open_lines (split read).1)) (omega arith)

-- ---- a line that ends in a piece

-- it was reported on
pub Waits-closed : {S : Type 0} (reports : S → Option (List ℕ) → List ℕ → S → Type 0) (lines : S → ℕ) (n : ℕ)
    (start : S) (old now new : Option (List ℕ)) (read prefix : List ℕ) (line : Option (List ℕ)) (p q : S)
    (begun text left waits : List ℕ) → split prefix ≡ ([], prefix)
    → Waits reports lines n start old read p begun text now
    → line ≡ short_line n (closing read prefix) → Adds reports lines p text now line q waits new → left ≡ []
    → Waits reports lines n start old (read ++ (prefix ++ line_feed ∷ [])) q left waits new
Waits-closed reports lines n start old now new read prefix line p q begun text left waits none all is adds empty =
    record {
      said = all.said ++ adds.said;
      passes = passes_more all.said adds.said old now new text waits all.passes adds.passes;
      stands = Stands-closed reports lines n start all.said adds.said read prefix p q begun left none all.stands
          (subst (λ l. reports p l adds.said q) is adds.reported) adds.count empty;
    }

-- it wasn't reported on whole
pub closing-fault : {S F : Type 0} (reports : S → Option (List ℕ) → List ℕ → S → Type 0)
    (begins : S → Option (List ℕ) → List ℕ → Type 0) (lines : S → ℕ) (limits : LineLimits) (start : S)
    (e : ReportFault F) (old now new : Option (List ℕ)) (read prefix rest : List ℕ) (line : Option (List ℕ)) (p q : S)
    (begun text waits : List ℕ) → split prefix ≡ ([], prefix)
    → Waits reports lines limits.line_bytes start old read p begun text now
    → line ≡ short_line limits.line_bytes (closing read prefix) → LeavesLine begins e p text now line waits new
    → q ≡ p
    → WaitFault (is_write (fault_of_run e)) reports begins limits start (fault_of_run e) old
    (read ++ (prefix ++ line_feed ∷ rest)) q waits new
closing-fault reports begins lines limits start (within.Reporter fault) old now new read prefix rest line p q begun text
    waits none all is left same =
    let n = limits.line_bytes in
    let parts = left.0 in
    let part = closing-left reports begins lines n start all.said parts read prefix rest p begun none all.stands
    (subst (λ l. AreFirstParts begins p l parts) is left.1) in (
      all.said ++ parts,
      passes_more all.said parts old now new text waits all.passes left.2,
      (part.0, part.1, rw same part.2),
    )
closing-fault reports begins lines limits start within.Write old now new read prefix rest line p q begun text
    waits none all is left same =
    let n = limits.line_bytes in
    let parts = left.0 in
    let part = closing-left reports begins lines n start all.said parts read prefix rest p begun none all.stands
    (subst (λ l. AreFirstParts begins p l parts) is left.1) in
    let few = closed_few (read ++ (prefix ++ line_feed ∷ rest)) in
    let below = part.1 in
    let cut = cuts_more all.said parts old now new text all.passes left.2 in (
      part.0,
      omega (arith, few, below),
      record { text = all.said ++ parts; reported = rw same part.2; prefix = cut.0; wrote = cut.1 },
    )

-- as many writes have failed
pub run_failed : {F : Type 0} (e : ReportFault F) (before after : ℕ) → after ≡ before + failed_within e
    → after ≡ before + writes_failed (fault_of_run e)
run_failed (within.Reporter fault) before after failed = failed
run_failed within.Write before after failed = failed

-- no memory was left for it
pub memory-fault : {S : Type 0} (reports : S → Option (List ℕ) → List ℕ → S → Type 0) (lines : S → ℕ)
    (limits : LineLimits) (start : S)
    (old now : Option (List ℕ)) (read rest : List ℕ) (p q : S) (begun text waits : List ℕ)
    → Waits reports lines limits.line_bytes start old read p begun text now → q ≡ p → waits ≡ text
    → (said : List ℕ) × Passes said old now waits
    × ((count : ℕ) × (count ≤ length (closed_lines (read ++ rest)))
    × IsReportOfFirst reports limits.line_bytes start (read ++ rest) count q said)
memory-fault reports lines limits start old now read rest p q begun text waits all same kept =
    let left = room-left reports lines limits.line_bytes start all.said read rest p q begun all.stands same in
    (all.said, rw kept all.passes, left)

-- it began after as many as may come
pub many-fault : {S : Type 0} (reports : S → Option (List ℕ) → List ℕ → S → Type 0) (lines : S → ℕ)
    (limits : LineLimits) (start : S)
    (old now : Option (List ℕ)) (read rest : List ℕ) (p : S) (begun text : List ℕ)
    → Waits reports lines limits.line_bytes start old read p begun text now → lines p ≡ limits.lines
    → 0 < length rest
    → (said : List ℕ) × Passes said old now text
    × (IsReportOfFirst reports limits.line_bytes start (read ++ rest) limits.lines p said
    × (limits.lines < length (lines_of (read ++ rest))))
many-fault reports lines limits start old now read rest p begun text all full more = (
  all.said,
  all.passes,
  many-left reports lines limits.line_bytes limits.lines start all.said read rest p begun all.stands full more,
)

-- nothing of it came
pub waits_nothing : {S : Type 0} (reports : S → Option (List ℕ) → List ℕ → S → Type 0) (lines : S → ℕ) (n : ℕ)
    (start : S) (old now : Option (List ℕ)) (read rest : List ℕ) (p : S) (begun text : List ℕ) → rest ≡ []
    → Waits reports lines n start old read p begun text now
    → Waits reports lines n start old (read ++ rest) p begun text now
waits_nothing reports lines n start old now read rest p begun text none all =
    rw (none, append-nil read) all

-- it goes on
pub Waits-growing : {S : Type 0} (reports : S → Option (List ℕ) → List ℕ → S → Type 0) (lines : S → ℕ) (n : ℕ)
    (start : S) (old now : Option (List ℕ)) (read rest : List ℕ) (p q : S) (begun kept text waits : List ℕ)
    → split rest ≡ ([], rest) → Waits reports lines n start old read p begun text now
    → kept ≡ take (n + 2) (begun ++ rest) → q ≡ p → waits ≡ text
    → Waits reports lines n start old (read ++ rest) q kept waits now
Waits-growing reports lines n start old now read rest p q begun kept text waits none all is same left = record {
  said = all.said;
  passes = rw left all.passes;
  stands = rw same (Stands-growing reports lines n start all.said read rest p begun kept none all.stands is);
}

-- ---- the last line, if no LF ends it

-- there is none
pub end-empty : {S : Type 0} (reports : S → Option (List ℕ) → List ℕ → S → Type 0) (lines : S → ℕ) (n : ℕ)
    (start : S) (old now : Option (List ℕ)) (read : List ℕ) (p : S) (begun text : List ℕ)
    → Waits reports lines n start old read p begun text now → begun ≡ []
    → (said : List ℕ) × Passes said old now text × Reported reports n start (lines_of read) said p
    × (lines p ≡ length (lines_of read))
end-empty reports lines n start old now read p begun text all none =
    let ends = Ends-empty reports lines n start all.said read p begun all.stands none in
    (all.said, all.passes, ends.0, ends.1)

-- it was reported on
pub end-begun : {S : Type 0} (reports : S → Option (List ℕ) → List ℕ → S → Type 0) (lines : S → ℕ) (n : ℕ)
    (start : S) (old now new : Option (List ℕ)) (read : List ℕ) (p q : S) (begun text waits : List ℕ)
    → Waits reports lines n start old read p begun text now → 0 < length begun
    → Adds reports lines p text now (short_line n begun) q waits new
    → (said : List ℕ) × Passes said old new waits × Reported reports n start (lines_of read) said q
    × (lines q ≡ length (lines_of read))
end-begun reports lines n start old now new read p q begun text waits all some adds =
    let ends = Ends-begun reports lines n start all.said adds.said read p q begun all.stands some adds.reported
    adds.count in (
      all.said ++ adds.said,
      passes_more all.said adds.said old now new text waits all.passes adds.passes,
      ends.0,
      ends.1,
    )

-- it wasn't reported on whole
pub end-fault : {S F : Type 0} (reports : S → Option (List ℕ) → List ℕ → S → Type 0)
    (begins : S → Option (List ℕ) → List ℕ → Type 0) (lines : S → ℕ) (limits : LineLimits) (start : S)
    (e : ReportFault F) (old now new : Option (List ℕ)) (read : List ℕ) (p q : S) (begun text waits : List ℕ)
    → Waits reports lines limits.line_bytes start old read p begun text now → 0 < length begun
    → LeavesLine begins e p text now (short_line limits.line_bytes begun) waits new → q ≡ p
    → EndFault reports begins limits start e old read q waits new
end-fault reports begins lines limits start (within.Reporter fault) old now new read p q begun text waits all some left
    same =
    let part = end-left reports begins lines limits.line_bytes start all.said left.0 read p begun all.stands some left.1
    in (
      all.said ++ left.0,
      passes_more all.said left.0 old now new text waits all.passes left.2,
      part.0,
      part.1,
      rw same part.2,
    )
end-fault reports begins lines limits start within.Write old now new read p q begun text waits all some left same =
    let part = end-left reports begins lines limits.line_bytes start all.said left.0 read p begun all.stands some left.1
    in
    let cut = cuts_more all.said left.0 old now new text all.passes left.2 in (
      part.0,
      part.1,
      record { text = all.said ++ left.0; reported = rw same part.2; prefix = cut.0; wrote = cut.1 },
    )

-- ---- what was said is a part of the report on some of the first lines

-- on the closed lines
pub stands_first : {S : Type 0} (reports : S → Option (List ℕ) → List ℕ → S → Type 0) (lines : S → ℕ) (n : ℕ)
    (start : S) (said read : List ℕ) (q : S) (begun : List ℕ)
    → Stands reports lines n start said read q begun
    → IsReportOfFirst reports n start read (length (closed_lines read)) q said
stands_first reports lines n start said read q begun stands =
    subst (λ bytes. IsReportOfFirst reports n start bytes (length (closed_lines read)) q said)
    (append-nil read) (prefix_report reports lines n start said read [] q begun stands)

-- on some of the first lines
abbrev pub IsPartOfSome : {S : Type 0} → (S → Option (List ℕ) → List ℕ → S → Type 0)
    → (S → Option (List ℕ) → List ℕ → Type 0) → ℕ → S → List ℕ → S → List ℕ → Type 0
IsPartOfSome reports begins n start read now text =
    (count : ℕ) × (count ≤ length (lines_of read)) × IsPartOfFirst reports begins n start read count now text

-- it is where a run is
pub waits_standing : {S : Type 0} (reports : S → Option (List ℕ) → List ℕ → S → Type 0)
    (begins : S → Option (List ℕ) → List ℕ → Type 0) (lines : S → ℕ) (n : ℕ)
    (start : S) (said read : List ℕ) (q : S) (begun : List ℕ)
    → Stands reports lines n start said read q begun → IsPartOfSome reports begins n start read q said
waits_standing reports begins lines n start said read q begun stands =
    (length (closed_lines read), closed_few read, inl (stands_first reports lines n start said read q begun stands))

-- after a fault too
pub waits_faulty : {S F : Type 0} (reports : S → Option (List ℕ) → List ℕ → S → Type 0)
    (begins : S → Option (List ℕ) → List ℕ → Type 0) (limits : LineLimits) (start : S) (fault : LineFault F)
    (read : List ℕ) (q : S) (text : List ℕ) → TakeFault reports begins limits start fault read q text
    → IsPartOfSome reports begins limits.line_bytes start read q text
waits_faulty reports begins limits start (Own fault) read q text left =
    (left.0, (let few = closed_few read in let below = left.1 in omega (arith, few, below)), left.2)
waits_faulty reports begins limits start (Stop Memory) read q text left =
    (left.0, (let few = closed_few read in let below = left.1 in omega (arith, few, below)), inl left.2)
waits_faulty reports begins limits start (Stop TooManyLines) read q text left =
    (limits.lines, (let below = left.1 in omega (arith, below)), inl left.0)
waits_faulty reports begins limits start (Stop Read) read q text left = absurd left
waits_faulty reports begins limits start (Stop Write) read q text left = absurd left
waits_faulty reports begins limits start (Stop Endless) read q text left = absurd left

-- at the end all lines are the first of them
pub waits_ended : {S : Type 0} (reports : S → Option (List ℕ) → List ℕ → S → Type 0)
    (begins : S → Option (List ℕ) → List ℕ → Type 0) (n : ℕ) (start : S) (read : List ℕ) (q : S) (text : List ℕ)
    → Reported reports n start (lines_of read) text q → IsPartOfSome reports begins n start read q text
waits_ended reports begins n start read q text all =
    (length (lines_of read), omega arith, inl (rw (take-length (lines_of read)) all))

-- ---- what a fault leaves

-- a fault but one of a write fails none
pub quiet_writes : {F : Type 0} (e : LineFault F) → is_write e ≡ false → writes_failed e ≡ 0
quiet_writes (Own fault) is = refl
quiet_writes (Stop Memory) is = refl
quiet_writes (Stop Read) is = refl
quiet_writes (Stop Write) is = cc
quiet_writes (Stop TooManyLines) is = refl
quiet_writes (Stop Endless) is = refl

-- a write failed
pub write-left : {S : Type 0} (reports : S → Option (List ℕ) → List ℕ → S → Type 0)
    (begins : S → Option (List ℕ) → List ℕ → Type 0) (n : ℕ) (start : S) (old now new : Option (List ℕ))
    (said read text : List ℕ) (q r : S) → Passes said old now text
    → IsPartOfSome reports begins n start read q said → r ≡ q
    → CutsOff text now new → WrotePrefix (ReportedPart reports begins n start) old read r new
write-left reports begins n start old now new said read text q r passes report same cut =
    let prefix = cuts_on said old now new text passes cut in (
      report.0,
      report.1,
      record { text = said; reported = rw same report.2; prefix = prefix.0; wrote = prefix.1 },
    )

-- a write failed in the midst of a piece
pub write-cut : {S : Type 0} (reports : S → Option (List ℕ) → List ℕ → S → Type 0)
    (begins : S → Option (List ℕ) → List ℕ → Type 0) (lines : S → ℕ) (n : ℕ) (start : S)
    (old now new : Option (List ℕ)) (read rest : List ℕ) (p q : S) (begun text : List ℕ)
    → Waits reports lines n start old read p begun text now → q ≡ p → CutsOff text now new
    → WrotePrefix (ReportedPart reports begins n start) old (read ++ rest) q new
write-cut reports begins lines n start old now new read rest p q begun text waits same cut =
    let few = closed_few (read ++ rest) in
    let more = prefix_count read rest in
    let prefix = cuts_on waits.said old now new text waits.passes cut in (
      length (closed_lines read),
      omega (arith, few, more),
      record {
        text = waits.said;
        reported = inl (rw same (prefix_report reports lines n start waits.said read rest p begun waits.stands));
        prefix = prefix.0;
        wrote = prefix.1;
      },
    )

-- what waited was written
pub wrote_waiting : {S : Type 0} (P : List (List ℕ) → List ℕ → S → Type 0) (lines : List (List ℕ))
    (old now new : Option (List ℕ)) (said text : List ℕ) (q r : S) → Passes said old now text → P lines said q
    → r ≡ q → Appends now new text → Wrote P lines old new r
wrote_waiting P lines old now new said text q r passes report same wrote =
    record { text = said; reported = rw same report; wrote = passes_written said old now new text passes wrote }

-- a line of the piece couldn't be reported on, and what was said of those before it was written
pub pass-left : {S F : Type 0} (reports : S → Option (List ℕ) → List ℕ → S → Type 0)
    (begins : S → Option (List ℕ) → List ℕ → Type 0) (limits : LineLimits) (start : S) (fault : LineFault F)
    (old now new : Option (List ℕ)) (said read text : List ℕ) (q r : S) → Passes said old now text
    → TakeFault reports begins limits start fault read q said → r ≡ q
    → Appends now new text → PassFault reports begins limits start fault old read r new
pass-left reports begins limits start (Own fault) old now new said read text q r passes left same wrote = (
  left.0,
  left.1,
  wrote_waiting (ReportedPart reports begins limits.line_bytes start) (take left.0 (lines_of read)) old now new said
      text q r passes left.2 same wrote,
)
pass-left reports begins limits start (Stop Memory) old now new said read text q r passes left same wrote = (
  left.0,
  left.1,
  wrote_waiting (Reported reports limits.line_bytes start) (take left.0 (lines_of read)) old now new said
      text q r passes left.2 same wrote,
)
pass-left reports begins limits start (Stop TooManyLines) old now new said read text q r passes left same wrote = (
  wrote_waiting (Reported reports limits.line_bytes start) (take limits.lines (lines_of read)) old now new said
      text q r passes left.0 same wrote,
  left.1,
)
pass-left reports begins limits start (Stop Read) old now new said read text q r passes left same wrote = absurd left
pass-left reports begins limits start (Stop Write) old now new said read text q r passes left same wrote = absurd left
pass-left reports begins limits start (Stop Endless) old now new said read text q r passes left same wrote = absurd left

-- such a fault isn't a failed read
pub passing_reads : {S F : Type 0} (reports : S → Option (List ℕ) → List ℕ → S → Type 0)
    (begins : S → Option (List ℕ) → List ℕ → Type 0) (limits : LineLimits) (start : S) (fault : LineFault F)
    (old : Option (List ℕ)) (read : List ℕ) (q : S) (new : Option (List ℕ))
    → PassFault reports begins limits start fault old read q new → reads_failed fault ≡ 0
passing_reads reports begins limits start (Own fault) old read q new left = refl
passing_reads reports begins limits start (Stop Memory) old read q new left = refl
passing_reads reports begins limits start (Stop TooManyLines) old read q new left = refl
passing_reads reports begins limits start (Stop Read) old read q new left = absurd left
passing_reads reports begins limits start (Stop Write) old read q new left = refl
passing_reads reports begins limits start (Stop Endless) old read q new left = refl

-- nor is one after the last piece
pub finishing_reads : {S F : Type 0} (reports : S → Option (List ℕ) → List ℕ → S → Type 0)
    (begins : S → Option (List ℕ) → List ℕ → Type 0) (limits : LineLimits) (start : S) (fault : LineFault F)
    (old : Option (List ℕ)) (read : List ℕ) (q : S) (new : Option (List ℕ))
    → FinishFault reports begins limits start fault old read q new → reads_failed fault ≡ 0
finishing_reads reports begins limits start (Own fault) old read q new left = refl
finishing_reads reports begins limits start (Stop Memory) old read q new left = refl
finishing_reads reports begins limits start (Stop TooManyLines) old read q new left = refl
finishing_reads reports begins limits start (Stop Read) old read q new left = absurd left
finishing_reads reports begins limits start (Stop Write) old read q new left = refl
finishing_reads reports begins limits start (Stop Endless) old read q new left = refl

-- ---- a run

-- what a piece's fault leaves is what the run's fault leaves
pub pass_to_run : {S F : Type 0} (reports : S → Option (List ℕ) → List ℕ → S → Type 0)
    (begins : S → Option (List ℕ) → List ℕ → Type 0) (limits : LineLimits) (start : S) (fault : LineFault F)
    (old : Option (List ℕ)) (read : List ℕ) (at_end : Type 0) (q : S) (new : Option (List ℕ))
    → PassFault reports begins limits start fault old read q new
    → Leaves (Reported reports limits.line_bytes start) (ReportedPart reports begins limits.line_bytes start) limits
    fault old read at_end q new
pass_to_run reports begins limits start (Own fault) old read at_end q new left =
    (left.0, (let few = closed_few read in let below = left.1 in omega (arith, few, below)), inl left.1, left.2)
pass_to_run reports begins limits start (Stop Memory) old read at_end q new left =
    (left.0, (let few = closed_few read in let below = left.1 in omega (arith, few, below)), inl left.1, left.2)
pass_to_run reports begins limits start (Stop TooManyLines) old read at_end q new left = left
pass_to_run reports begins limits start (Stop Write) old read at_end q new left = left
pass_to_run reports begins limits start (Stop Read) old read at_end q new left = absurd left
pass_to_run reports begins limits start (Stop Endless) old read at_end q new left = absurd left

-- and so at the end, if no byte is left to come
pub finish_to_run : {S F : Type 0} (reports : S → Option (List ℕ) → List ℕ → S → Type 0)
    (begins : S → Option (List ℕ) → List ℕ → Type 0) (limits : LineLimits) (start : S) (fault : LineFault F)
    (old : Option (List ℕ)) (read : List ℕ) (at_end : Type 0) (q : S) (new : Option (List ℕ)) → at_end
    → FinishFault reports begins limits start fault old read q new
    → Leaves (Reported reports limits.line_bytes start) (ReportedPart reports begins limits.line_bytes start) limits
    fault old read at_end q new
finish_to_run reports begins limits start (Own fault) old read at_end q new is left =
    (left.0, left.1, inr is, left.2)
finish_to_run reports begins limits start (Stop Write) old read at_end q new is left = left
finish_to_run reports begins limits start (Stop Memory) old read at_end q new is left = absurd left
finish_to_run reports begins limits start (Stop TooManyLines) old read at_end q new is left = absurd left
finish_to_run reports begins limits start (Stop Read) old read at_end q new is left = absurd left
finish_to_run reports begins limits start (Stop Endless) old read at_end q new is left = absurd left

-- before the first read nothing is reported
pub nothing_written : {S : Type 0} (reports : S → Option (List ℕ) → List ℕ → S → Type 0) (limits : LineLimits)
    (start : S) (old : Option (List ℕ)) (at_end : Type 0)
    → WroteLines (Reported reports limits.line_bytes start) old [] at_end start old
nothing_written reports limits start old at_end = (
  0,
  omega arith,
  inl (omega arith),
  record { text = []; reported = (refl, refl); wrote = Appends-nil old },
)

-- if nothing waits the report on the closed lines was written
pub waits_first : {S : Type 0} (reports : S → Option (List ℕ) → List ℕ → S → Type 0) (lines : S → ℕ)
    (limits : LineLimits) (start : S) (old new : Option (List ℕ)) (read : List ℕ) (p : S) (begun text : List ℕ)
    → Waits reports lines limits.line_bytes start old read p begun text new → text ≡ []
    → WroteFirst (Reported reports limits.line_bytes start) old read (length (closed_lines read)) p new
waits_first reports lines limits start old new read p begun text waits none = record {
  text = waits.said;
  reported = stands_first reports lines limits.line_bytes start waits.said read p begun waits.stands;
  wrote = passes_written waits.said old new new text waits.passes (rw none (Appends-nil new));
}

-- what is left where a list is taken by a run over lines is what the run's fault leaves
pub list_to_run : {P S F : Type 0} (p : P) (of : P → S) (stands : Way P) (rests : P → Type 0)
    (stops fails : LineFault F → Way P) (reports : S → Option (List ℕ) → List ℕ → S → Type 0)
    (begins : S → Option (List ℕ) → List ℕ → Type 0) (limits : LineLimits) (e : LineFault (LineFault F))
    (old : Option (List ℕ)) (read : List ℕ) (at_end : Type 0) (q : P) (new : Option (List ℕ))
    → ((fault : LineFault F) → stops fault p old read q new
    → PassFault reports begins limits (of p) fault old read (of q) new)
    → ((fault : LineFault F) → fails fault p old read q new
    → FinishFault reports begins limits (of p) fault old read (of q) new)
    → (stands p old read q new → rests q
    → WroteFirst (Reported reports limits.line_bytes (of p)) old read (length (closed_lines read)) (of q) new)
    → Left stands rests stops fails e p old read at_end q new
    → Leaves (Reported reports limits.line_bytes (of p)) (ReportedPart reports begins limits.line_bytes (of p)) limits
    (fault_of_list e) old read at_end (of q) new
    × (reads_failed (fault_of_list e) ≡ reads_failed e) × (writes_failed (fault_of_list e) ≡ writes_of writes_failed e)
list_to_run p of stands rests stops fails reports begins limits (Own fault) old read at_end q new stopped failed
    first (inl left) =
    let is = stopped fault left in (
      pass_to_run reports begins limits (of p) fault old read at_end (of q) new is,
      passing_reads reports begins limits (of p) fault old read (of q) new is,
      refl,
    )
list_to_run p of stands rests stops fails reports begins limits (Own fault) old read at_end q new stopped failed
    first (inr left) =
    let is = failed fault left.1 in (
      finish_to_run reports begins limits (of p) fault old read at_end (of q) new left.0 is,
      finishing_reads reports begins limits (of p) fault old read (of q) new is,
      refl,
    )
list_to_run p of stands rests stops fails reports begins limits (Stop Memory) old read at_end q new stopped failed
    first left = (
      rw (left.0, left.1, left.2) (nothing_written reports limits (of p) old at_end),
      refl,
      refl,
    )
list_to_run p of stands rests stops fails reports begins limits (Stop Read) old read at_end q new stopped failed first
    left = (first left.0 left.1, refl, refl)
list_to_run p of stands rests stops fails reports begins limits (Stop Endless) old read at_end q new stopped failed
    first left = ((first left.0 left.1, left.2), refl, refl)
list_to_run p of stands rests stops fails reports begins limits (Stop Write) old read at_end q new stopped failed first
    left = absurd left
list_to_run p of stands rests stops fails reports begins limits (Stop TooManyLines) old read at_end q new stopped failed
    first left = absurd left

-- ---- what is written where a fault came

-- no write failed, and what waited was written
pub stop-wrote : {S F : Type 0} (reports : S → Option (List ℕ) → List ℕ → S → Type 0)
    (begins : S → Option (List ℕ) → List ℕ → Type 0) (limits : LineLimits) (start : S) (fault : LineFault F)
    (old now new : Option (List ℕ)) (read text : List ℕ) (q r : S) → is_write fault ≡ false
    → WaitFault (is_write fault) reports begins limits start fault old read q text now → r ≡ q → Appends now new text
    → PassFault reports begins limits start fault old read r new
stop-wrote reports begins limits start fault old now new read text q r is all same wrote =
    let left = subst (λ b. WaitFault b reports begins limits start fault old read q text now) is all in
    pass-left reports begins limits start fault old now new left.0 read text q r left.1 left.2 same wrote

-- or a prefix of it was
pub stop-cut : {S F : Type 0} (reports : S → Option (List ℕ) → List ℕ → S → Type 0)
    (begins : S → Option (List ℕ) → List ℕ → Type 0) (limits : LineLimits) (start : S) (fault : LineFault F)
    (old now new : Option (List ℕ)) (read text : List ℕ) (q r : S) → is_write fault ≡ false
    → WaitFault (is_write fault) reports begins limits start fault old read q text now → r ≡ q
    → CutsOff text now new → WrotePrefix (ReportedPart reports begins limits.line_bytes start) old read r new
stop-cut reports begins limits start fault old now new read text q r is all same cut =
    let left = subst (λ b. WaitFault b reports begins limits start fault old read q text now) is all in
    write-left reports begins limits.line_bytes start old now new left.0 read text q r left.1
    (waits_faulty reports begins limits start fault read q left.0 left.2) same cut

-- a write had failed
pub stop-write : {S F : Type 0} (reports : S → Option (List ℕ) → List ℕ → S → Type 0)
    (begins : S → Option (List ℕ) → List ℕ → Type 0) (limits : LineLimits) (start : S) (fault : LineFault F)
    (old now : Option (List ℕ)) (read text : List ℕ) (q : S) → is_write fault ≡ true
    → WaitFault (is_write fault) reports begins limits start fault old read q text now
    → PassFault reports begins limits start fault old read q now
stop-write reports begins limits start (Stop Write) old now read text q is left = left
stop-write reports begins limits start (Own fault) old now read text q is left = cc
stop-write reports begins limits start (Stop Memory) old now read text q is left = cc
stop-write reports begins limits start (Stop Read) old now read text q is left = cc
stop-write reports begins limits start (Stop TooManyLines) old now read text q is left = cc
stop-write reports begins limits start (Stop Endless) old now read text q is left = cc
