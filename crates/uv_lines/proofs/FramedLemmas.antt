-- A report in its frame: from a run over lines to one with what is around them.
use Rattle.std.proofs.Common.{◌≡◌, ◌≢◌, ℕ, ◌+◌, ◌<◌, ◌≤◌, Bool, true, false, List, [], ◌++◌, drop, Option, Result, Ok}
use Rattle.std.proofs.Common.{Err, OnOk, IfErr, length, take, refl, sym, ap, ◌∙◌, subst, arith, inl, inr, take_all}
use Rattle.std.proofs.lemmas.Bool.{cases_lt}
use Rattle.std.proofs.lemmas.List.{take-append-le}
use Rattle.std.proofs.Math.Seq.{drop-append_seam, drop-nil, take-append-add, take-append_seam, take-length, take-nil}
use Rattle.std.proofs.KnownBytes.{Appends-trans}
use Rattle.std.specs.Io.KnownBytes.{Appends}
use Rattle.uv_lines.specs.declared.fault.LineFault.{LineFault}
use Rattle.uv_lines.specs.declared.fault.LineFault.TheVariants.{Own, Stop}
use Rattle.uv_lines.specs.declared.fault.StopFault.TheVariants.{Memory, Read, Write, TooManyLines, Endless}
use Rattle.uv_lines.specs.declared.limits.LineLimits.{LineLimits}
use Rattle.uv_lines.specs.Fault.{is_write, may_write}
use Rattle.uv_lines.specs.Lines.{closed_lines, lines_of}
use Rattle.uv_lines.specs.Reported.{Cut, Wrote}
use Rattle.uv_lines.specs.Run.{Leaves, WroteAll, WroteFirst, WrotePrefix, reads_failed, writes_failed}
use Rattle.uv_lines.specs.Framed.{Ends, FailsReads, Follows, FollowsFault, Framed, LeavesPart}
use Rattle.uv_lines.proofs.PassLemmas.{closed_few, quiet_writes}

-- ---- what a fault leaves of another report

-- from what was written of one report to what was written of another, and so of their parts
pub Leaves-map : {S T F : Type 0} (P P' : List (List ℕ) → List ℕ → S → Type 0)
    (Q Q' : List (List ℕ) → List ℕ → T → Type 0) (limits : LineLimits) (e : LineFault F) (a b c d : Option (List ℕ))
    (read : List ℕ) (at_end : Type 0) (s : S) (t : T)
    → (is_write e ≡ false → (lines : List (List ℕ)) → Wrote P lines a b s → Wrote Q lines c d t)
    → (is_write e ≡ false → (lines : List (List ℕ)) → Wrote P' lines a b s → Wrote Q' lines c d t)
    → (is_write e ≡ true → (lines : List (List ℕ)) → Cut P' lines a b s → Cut Q' lines c d t)
    → Leaves P P' limits e a read at_end s b → Leaves Q Q' limits e c read at_end t d
Leaves-map P P' Q Q' limits (Own fault) a b c d read at_end s t whole part cut left =
    (left.0, left.1, left.2, part refl (take left.0 (lines_of read)) left.3)
Leaves-map P P' Q Q' limits (Stop Memory) a b c d read at_end s t whole part cut left =
    (left.0, left.1, left.2, whole refl (take left.0 (lines_of read)) left.3)
Leaves-map P P' Q Q' limits (Stop Read) a b c d read at_end s t whole part cut left =
    whole refl (take (length (closed_lines read)) (lines_of read)) left
Leaves-map P P' Q Q' limits (Stop Write) a b c d read at_end s t whole part cut left =
    (left.0, left.1, cut refl (take left.0 (lines_of read)) left.2)
Leaves-map P P' Q Q' limits (Stop TooManyLines) a b c d read at_end s t whole part cut left =
    (whole refl (take limits.lines (lines_of read)) left.0, left.1)
Leaves-map P P' Q Q' limits (Stop Endless) a b c d read at_end s t whole part cut left =
    (whole refl (take (length (closed_lines read)) (lines_of read)) left.0, left.1)

-- one report was written where another was
pub Wrote-map : {S T : Type 0} (P : List (List ℕ) → List ℕ → S → Type 0) (Q : List (List ℕ) → List ℕ → T → Type 0)
    (lines : List (List ℕ)) (old new : Option (List ℕ)) (s : S) (t : T)
    → ((lines : List (List ℕ)) (text : List ℕ) → P lines text s → Q lines text t)
    → Wrote P lines old new s → Wrote Q lines old new t
Wrote-map P Q lines old new s t is wrote =
    record { text = wrote.text; reported = is lines wrote.text wrote.reported; wrote = wrote.wrote }

-- and a prefix of it
pub Cut-map : {S T : Type 0} (P : List (List ℕ) → List ℕ → S → Type 0) (Q : List (List ℕ) → List ℕ → T → Type 0)
    (lines : List (List ℕ)) (old new : Option (List ℕ)) (s : S) (t : T)
    → ((lines : List (List ℕ)) (text : List ℕ) → P lines text s → Q lines text t)
    → Cut P lines old new s → Cut Q lines old new t
Cut-map P Q lines old new s t is cut =
    record { text = cut.text; reported = is lines cut.text cut.reported; prefix = cut.prefix; wrote = cut.wrote }

-- what a fault leaves of one is what it leaves of the other, where a whole report is one of its own parts
pub LeavesPart-map : {S T F : Type 0} (P P' W : List (List ℕ) → List ℕ → S → Type 0)
    (Q Q' : List (List ℕ) → List ℕ → T → Type 0) (limits : LineLimits) (e : LineFault F) (old new : Option (List ℕ))
    (read : List ℕ) (at_end : Type 0) (s : S) (t : T)
    → ((lines : List (List ℕ)) (text : List ℕ) → P lines text s → Q lines text t)
    → ((lines : List (List ℕ)) (text : List ℕ) → P' lines text s → Q' lines text t)
    → ((lines : List (List ℕ)) (text : List ℕ) → W lines text s → Q' lines text t)
    → LeavesPart P P' W limits e old read at_end s new → Leaves Q Q' limits e old read at_end t new
LeavesPart-map P P' W Q Q' limits e old new read at_end s t report part whole (inl left) =
    Leaves-map P P' Q Q' limits e old new old new read at_end s t
    (λ _ lines. Wrote-map P Q lines old new s t report) (λ _ lines. Wrote-map P' Q' lines old new s t part)
    (λ _ lines. Cut-map P' Q' lines old new s t part) left
LeavesPart-map P P' W Q Q' limits e old new read at_end s t report part whole (inr cut) =
    subst (λ f. Leaves Q Q' limits f old read at_end t new) (sym cut.0) (
      length (lines_of read),
      omega arith,
      rw (take-length (lines_of read)) (Cut-map W Q' (lines_of read) old new s t whole cut.1),
    )

-- after each fault but one of a write the report on some of the first lines was written, or a part of it
some_first : {S F : Type 0} (P P' : List (List ℕ) → List ℕ → S → Type 0) (limits : LineLimits) (e : LineFault F)
    (old new : Option (List ℕ)) (read : List ℕ) (at_end : Type 0) (s : S)
    → ((lines : List (List ℕ)) (text : List ℕ) → P lines text s → P' lines text s) → is_write e ≡ false
    → Leaves P P' limits e old read at_end s new
    → (count : ℕ) × (count ≤ length (lines_of read)) × WroteFirst P' old read count s new
some_first P P' limits (Own fault) old new read at_end s lift is left = (left.0, left.1, left.3)
some_first P P' limits (Stop Memory) old new read at_end s lift is left =
    (left.0, left.1, Wrote-map P P' (take left.0 (lines_of read)) old new s s lift left.3)
some_first P P' limits (Stop Read) old new read at_end s lift is left =
    let count = length (closed_lines read) in
    (count, closed_few read, Wrote-map P P' (take count (lines_of read)) old new s s lift left)
some_first P P' limits (Stop Write) old new read at_end s lift is left = cc
some_first P P' limits (Stop TooManyLines) old new read at_end s lift is left = (
  limits.lines,
  (let more = left.1 in omega (arith, more)),
  Wrote-map P P' (take limits.lines (lines_of read)) old new s s lift left.0,
)
some_first P P' limits (Stop Endless) old new read at_end s lift is left =
    let count = length (closed_lines read) in
    (count, closed_few read, Wrote-map P P' (take count (lines_of read)) old new s s lift left.0)

-- ---- the frame

-- a prefix of a prefix is one of the whole
pub prefix_of : (n : ℕ) (xs ys : List ℕ) → (m : ℕ) × (take m (xs ++ ys) ≡ take n xs)
prefix_of n xs ys =
    elim (cases_lt (length xs) n) [
      | inl above ↦ (length xs, take-append_seam xs ys ∙ sym (take_all n xs (omega (arith, above))))
      | inr within ↦ (n, take-append-le n xs ys within)
    ]

-- three pieces were written, one after the other
wrote_three : (old mid now new : Option (List ℕ)) (begin text end : List ℕ) → Appends old mid begin
    → Appends mid now text → Appends now new end → Appends old new (begin ++ (text ++ end))
wrote_three old mid now new begin text end first second third =
    Appends-trans old mid new begin (text ++ end) first (Appends-trans mid now new text end second third)

-- the report was written, with what is around it
framed_wrote : {S : Type 0} (P : List (List ℕ) → List ℕ → S → Type 0) (begin : List ℕ) (after : S → List ℕ)
    (lines : List (List ℕ)) (old mid now new : Option (List ℕ)) (q : S) → Appends old mid begin
    → Wrote P lines mid now q → Appends now new (after q) → Wrote (Framed P begin after) lines old new q
framed_wrote P begin after lines old mid now new q begun all ended = record {
  text = begin ++ (all.text ++ after q);
  reported = record { said = all.text; reported = all.reported; whole = refl };
  wrote = wrote_three old mid now new begin all.text (after q) begun all.wrote ended;
}

-- what is after it was cut
framed_cut : {S : Type 0} (P : List (List ℕ) → List ℕ → S → Type 0) (begin : List ℕ) (after : S → List ℕ)
    (lines : List (List ℕ)) (old mid now new : Option (List ℕ)) (q : S) (prefix : ℕ) → Appends old mid begin
    → Wrote P lines mid now q → Appends now new (take prefix (after q)) → Cut (Framed P begin after) lines old new q
framed_cut P begin after lines old mid now new q prefix begun all cut = record {
  text = begin ++ (all.text ++ after q);
  reported = record { said = all.text; reported = all.reported; whole = refl };
  prefix = length begin + (length all.text + prefix);
  wrote = rw (
    take-append-add begin (all.text ++ after q) (length all.text + prefix),
    take-append-add all.text (after q) prefix,
  ) (wrote_three old mid now new begin all.text (take prefix (after q)) begun all.wrote cut);
}

-- it was cut itself
framed_prefix : {S : Type 0} (P : List (List ℕ) → List ℕ → S → Type 0) (begin : List ℕ) (after : S → List ℕ)
    (lines : List (List ℕ)) (old mid new : Option (List ℕ)) (q : S) → Appends old mid begin → Cut P lines mid new q
    → Cut (Framed P begin after) lines old new q
framed_prefix P begin after lines old mid new q begun all =
    let prefix = prefix_of all.prefix all.text (after q) in
    record {
      text = begin ++ (all.text ++ after q);
      reported = record { said = all.text; reported = all.reported; whole = refl };
      prefix = length begin + prefix.0;
      wrote = rw (take-append-add begin (all.text ++ after q) prefix.0, prefix.1)
          (Appends-trans old mid new begin (take all.prefix all.text) begun all.wrote);
    }

-- what is before it was cut
pub begin_cut : {S : Type 0} (P : List (List ℕ) → List ℕ → S → Type 0) (begin : List ℕ) (after : S → List ℕ)
    (start : S) (old new : Option (List ℕ)) (k : ℕ) → P [] [] start → Appends old new (take k begin)
    → WrotePrefix (Framed P begin after) old [] start new
begin_cut P begin after start old new k none wrote =
    let prefix = prefix_of k begin ([] ++ after start) in (
      0,
      omega arith,
      record {
        text = begin ++ ([] ++ after start);
        reported = record { said = []; reported = none; whole = refl };
        prefix = prefix.0;
        wrote = rw prefix.1 wrote;
      },
    )

-- ---- pieces after an answer

-- a piece after one that was written
pub follows_more : {F : Type 0} (first piece : List ℕ) (reported result : Result (Unit {0}) (LineFault F))
    (old now new : Option (List ℕ)) (before between after : ℕ) → Appends old now first → between ≡ before
    → Follows piece reported result now new between after
    → Follows (first ++ piece) reported result old new before after
follows_more first piece reported result old now new before between after wrote same (inl writes) = inl (record {
  reported = writes.reported;
  wrote = Appends-trans old now new first piece wrote writes.wrote;
  quiet = writes.quiet ∙ same;
})
follows_more first piece reported result old now new before between after wrote same (inr cuts) = inr (record {
  reported = cuts.reported;
  some = λ none. cuts.some (sym (drop-append_seam first piece) ∙ ap (drop (length first)) none ∙ drop-nil _);
  prefix = length first + cuts.prefix;
  wrote = rw (take-append-add first piece cuts.prefix)
      (Appends-trans old now new first (take cuts.prefix piece) wrote cuts.wrote);
  failed = cuts.failed ∙ ap (λ n. n + 1) same;
})

-- after one that was cut nothing is written
pub follows_cut : {F : Type 0} (first piece : List ℕ) (reported : Result (Unit {0}) (LineFault F))
    (old new : Option (List ℕ)) (before after n : ℕ) → first ≢ [] → Appends old new (take n first)
    → after ≡ before + 1 → Follows (first ++ piece) reported (Err (Stop Write)) old new before after
follows_cut first piece reported old new before after n some cut failed =
    let prefix = prefix_of n first piece in
    inr (record {
      reported = refl;
      some = λ none. some (sym (take-append_seam first piece) ∙ ap (take (length first)) none ∙ take-nil _);
      prefix = prefix.0;
      wrote = rw prefix.1 cut;
      failed = failed;
    })

-- ---- a run

-- what a run over lines leaves, by its answer
abbrev pub Ran : {S F : Type 0} → (List (List ℕ) → List ℕ → S → Type 0) → (List (List ℕ) → List ℕ → S → Type 0)
    → LineLimits → Result (Unit {0}) (LineFault F) → Option (List ℕ) → List ℕ → Type 0 → S → Option (List ℕ) → Type 0
Ran P P' limits (Ok u) old read at_end q new = at_end × WroteAll P limits old read q new
Ran P P' limits (Err e) old read at_end q new = Leaves P P' limits e old read at_end q new

-- and what one in a frame does
abbrev pub Ended : {S F : Type 0} → (List (List ℕ) → List ℕ → S → Type 0) → (List (List ℕ) → List ℕ → S → Type 0)
    → (List (List ℕ) → List ℕ → S → Type 0) → LineLimits → Result (Unit {0}) (LineFault F) → Option (List ℕ)
    → List ℕ → Type 0 → S → Option (List ℕ) → Type 0
Ended P P' W limits (Ok u) old read at_end q new = at_end × WroteAll W limits old read q new
Ended P P' W limits (Err e) old read at_end q new = LeavesPart P P' W limits e old read at_end q new

-- all lines are the first of them
all_first : {S : Type 0} (P P' : List (List ℕ) → List ℕ → S → Type 0) (limits : LineLimits)
    (old new : Option (List ℕ)) (read : List ℕ) (q : S)
    → ((lines : List (List ℕ)) (text : List ℕ) → P lines text q → P' lines text q)
    → WroteAll P limits old read q new → WroteFirst P' old read (length (lines_of read)) q new
all_first P P' limits old new read q lift all =
    rw (take-length (lines_of read)) (Wrote-map P P' (lines_of read) old new q q lift all.wrote)

-- after a fault
ended_fault : {S F : Type 0} (P P' : List (List ℕ) → List ℕ → S → Type 0) (limits : LineLimits)
    (begin end : List ℕ) (W : List (List ℕ) → List ℕ → S → Type 0) (e : LineFault F)
    (result : Result (Unit {0}) (LineFault F)) (old mid now new : Option (List ℕ)) (read : List ℕ) (at_end : Type 0)
    (q : S) (before after : ℕ) (is : Bool)
    → ((lines : List (List ℕ)) (text : List ℕ) → P lines text q → P' lines text q) → is_write e ≡ is
    → Appends old mid begin → Leaves P P' limits e mid read at_end q now
    → FollowsFault is end e result now new before after
    → Ended (Framed P begin (λ _. end)) (Framed P' begin (λ _. end)) W limits result old read at_end q new
ended_fault P P' limits begin end W e result old mid now new read at_end q before after true lift is begun ran
    (reported, same, quiet) =
    let R = Framed P begin (λ _. end) in
    let R' = Framed P' begin (λ _. end) in
    subst (λ r. Ended R R' W limits r old read at_end q new) (sym reported)
    (inl (Leaves-map P P' R R' limits e mid now old new read at_end q q
    (λ no. let never : true ≡ false = sym is ∙ no in cc) (λ no. let never : true ≡ false = sym is ∙ no in cc)
    (λ _ lines cut. subst (λ o. Cut R' lines old o q) (sym same)
    (framed_prefix P' begin (λ _. end) lines old mid now q begun cut)) ran))
ended_fault P P' limits begin end W e result old mid now new read at_end q before after false lift is begun ran
    (inl writes) =
    let R = Framed P begin (λ _. end) in
    let R' = Framed P' begin (λ _. end) in
    subst (λ r. Ended R R' W limits r old read at_end q new) (sym writes.reported)
    (inl (Leaves-map P P' R R' limits e mid now old new read at_end q q
    (λ _ lines all. framed_wrote P begin (λ _. end) lines old mid now new q begun all writes.wrote)
    (λ _ lines all. framed_wrote P' begin (λ _. end) lines old mid now new q begun all writes.wrote)
    (λ yes. let never : false ≡ true = sym is ∙ yes in cc) ran))
ended_fault P P' limits begin end W e result old mid now new read at_end q before after false lift is begun ran
    (inr cuts) =
    let R = Framed P begin (λ _. end) in
    let R' = Framed P' begin (λ _. end) in
    let first = some_first P P' limits e mid now read at_end q lift is ran in
    subst (λ r. Ended R R' W limits r old read at_end q new) (sym cuts.reported) (inl (
      first.0,
      first.1,
      framed_cut P' begin (λ _. end) (take first.0 (lines_of read)) old mid now new q cuts.prefix begun
          first.2 cuts.wrote,
    ))

-- after the last line, of which all was said
ended_whole : {S F : Type 0} (P P' : List (List ℕ) → List ℕ → S → Type 0) (limits : LineLimits)
    (begin end : List ℕ) (last : S → List ℕ) (u : Unit {0}) (result : Result (Unit {0}) (LineFault F))
    (old mid now new : Option (List ℕ)) (read : List ℕ) (at_end : Type 0) (q : S) (before after : ℕ)
    → Appends old mid begin → at_end × WroteAll P limits mid read q now
    → Follows (last q ++ end) (Ok u) result now new before after
    → Ended (Framed P begin (λ _. end)) (Framed P' begin (λ _. end)) (Framed P begin (λ s. last s ++ end)) limits result
    old read at_end q new
ended_whole P P' limits begin end last u result old mid now new read at_end q before after begun ran (inl writes) =
    let R = Framed P begin (λ _. end) in
    let R' = Framed P' begin (λ _. end) in
    let W = Framed P begin (λ s. last s ++ end) in
    subst (λ r. Ended R R' W limits r old read at_end q new) (sym writes.reported) (
      ran.0,
      record {
        wrote = framed_wrote P begin (λ s. last s ++ end) (lines_of read) old mid now new q begun
            ran.1.wrote writes.wrote;
        few = ran.1.few;
      },
    )
ended_whole P P' limits begin end last u result old mid now new read at_end q before after begun ran (inr cuts) =
    let R = Framed P begin (λ _. end) in
    let R' = Framed P' begin (λ _. end) in
    let W = Framed P begin (λ s. last s ++ end) in
    subst (λ r. Ended R R' W limits r old read at_end q new) (sym cuts.reported) (inr (
      refl,
      framed_cut P begin (λ s. last s ++ end) (lines_of read) old mid now new q cuts.prefix begun
          ran.1.wrote cuts.wrote,
    ))

-- after the last line, where the reporter can't say what comes after it
ended_unsaid : {S F : Type 0} (P P' : List (List ℕ) → List ℕ → S → Type 0) (limits : LineLimits)
    (begin end : List ℕ) (W : List (List ℕ) → List ℕ → S → Type 0) (fault : F)
    (result : Result (Unit {0}) (LineFault F)) (old mid now new : Option (List ℕ)) (read : List ℕ) (at_end : Type 0)
    (q : S) (before after : ℕ)
    → ((lines : List (List ℕ)) (text : List ℕ) → P lines text q → P' lines text q)
    → Appends old mid begin → at_end × WroteAll P limits mid read q now
    → Follows end (Err (Own fault)) result now new before after
    → Ended (Framed P begin (λ _. end)) (Framed P' begin (λ _. end)) W limits result old read at_end q new
ended_unsaid P P' limits begin end W fault result old mid now new read at_end q before after lift begun ran
    (inl writes) =
    let R = Framed P begin (λ _. end) in
    let R' = Framed P' begin (λ _. end) in
    subst (λ r. Ended R R' W limits r old read at_end q new) (sym writes.reported) (inl (
      length (lines_of read),
      omega arith,
      inr ran.0,
      framed_wrote P' begin (λ _. end) (take (length (lines_of read)) (lines_of read)) old mid now new q
          begun (all_first P P' limits mid now read q lift ran.1) writes.wrote,
    ))
ended_unsaid P P' limits begin end W fault result old mid now new read at_end q before after lift begun ran
    (inr cuts) =
    let R = Framed P begin (λ _. end) in
    let R' = Framed P' begin (λ _. end) in
    subst (λ r. Ended R R' W limits r old read at_end q new) (sym cuts.reported) (inl (
      length (lines_of read),
      omega arith,
      framed_cut P' begin (λ _. end) (take (length (lines_of read)) (lines_of read)) old mid now new q
          cuts.prefix begun (all_first P P' limits mid now read q lift ran.1) cuts.wrote,
    ))

-- what was written after the lines makes the report on them whole, or leaves a part of it
pub ended : {S F : Type 0} (P P' : List (List ℕ) → List ℕ → S → Type 0) (limits : LineLimits)
    (begin end : List ℕ) (last : S → List ℕ) (answer result : Result (Unit {0}) (LineFault F))
    (old mid now new : Option (List ℕ)) (read : List ℕ) (at_end : Type 0) (q : S) (before after : ℕ)
    → ((lines : List (List ℕ)) (text : List ℕ) → P lines text q → P' lines text q)
    → Appends old mid begin → Ran P P' limits answer mid read at_end q now
    → Ends (last q) end answer result now new before after
    → Ended (Framed P begin (λ _. end)) (Framed P' begin (λ _. end)) (Framed P begin (λ s. last s ++ end)) limits result
    old read at_end q new
ended P P' limits begin end last (Ok u) result old mid now new read at_end q before after lift begun ran (inl follows) =
    ended_whole P P' limits begin end last u result old mid now new read at_end q before after begun ran follows
ended P P' limits begin end last (Ok u) result old mid now new read at_end q before after lift begun ran
    (inr (fault, follows)) =
    ended_unsaid P P' limits begin end (Framed P begin (λ s. last s ++ end)) fault result old mid now new read at_end q
    before after lift begun ran follows
ended P P' limits begin end last (Err e) result old mid now new read at_end q before after lift begun ran follows =
    ended_fault P P' limits begin end (Framed P begin (λ s. last s ++ end)) e
    result old mid now new read at_end q before after (is_write e) lift refl begun ran follows

-- ---- failed reads and writes

-- the failed reads and writes of a run over lines, by its answer, where so many have failed before
abbrev pub Stops : {F : Type 0} → Result (Unit {0}) (LineFault F) → ℕ → ℕ → ℕ → ℕ → Type 0
Stops (Ok u) reads reads' writes writes' = (reads' ≡ reads) × (writes' ≡ writes)
Stops (Err e) reads reads' writes writes' =
    (reads' ≡ reads + reads_failed e) × (writes' ≡ writes + writes_failed e)

-- the failed reads and writes of a run in a frame
abbrev pub Fails : {F : Type 0} → List ℕ → Result (Unit {0}) (LineFault F) → ℕ → ℕ → ℕ → ℕ → Type 0
Fails end (Ok u) reads reads' writes writes' = (reads' ≡ reads) × (writes' ≡ writes)
Fails end (Err e) reads reads' writes writes' = FailsReads end e reads reads' × (writes' ≡ writes + writes_failed e)

-- a further write may come if none has failed
pub may_go_on : {F : Type 0} (answer : Result (Unit {0}) (LineFault F)) (reads reads' writes writes' most : ℕ)
    → Stops answer reads reads' writes writes' → writes < most → may_write answer ≡ true → writes' < most
may_go_on (Ok u) reads reads' writes writes' most stop below may = rw stop.1 below
may_go_on (Err (Stop Write)) reads reads' writes writes' most stop below may = cc
may_go_on (Err (Own fault)) reads reads' writes writes' most stop below may =
    let same = stop.1 in omega (arith, same, below)
may_go_on (Err (Stop Memory)) reads reads' writes writes' most stop below may =
    let same = stop.1 in omega (arith, same, below)
may_go_on (Err (Stop Read)) reads reads' writes writes' most stop below may =
    let same = stop.1 in omega (arith, same, below)
may_go_on (Err (Stop TooManyLines)) reads reads' writes writes' most stop below may =
    let same = stop.1 in omega (arith, same, below)
may_go_on (Err (Stop Endless)) reads reads' writes writes' most stop below may =
    let same = stop.1 in omega (arith, same, below)

-- the failed reads of a run over lines, and those after a further write that failed, where that has a piece
reads_of : {F : Type 0} (end : List ℕ) (e : LineFault F) (reads reads' : ℕ) → reads' ≡ reads + reads_failed e
    → FailsReads end e reads reads' × (end ≢ [] → FailsReads {F = F} end (Stop Write) reads reads')
reads_of end (Own fault) reads reads' r = (omega (arith, r), λ some. inl (omega (arith, r)))
reads_of end (Stop Memory) reads reads' r = (omega (arith, r), λ some. inl (omega (arith, r)))
reads_of end (Stop Read) reads reads' r = (r, λ some. inr (some, r))
reads_of end (Stop Write) reads reads' r = (inl (omega (arith, r)), λ some. inl (omega (arith, r)))
reads_of end (Stop TooManyLines) reads reads' r = (omega (arith, r), λ some. inl (omega (arith, r)))
reads_of end (Stop Endless) reads reads' r = (omega (arith, r), λ some. inl (omega (arith, r)))

-- after a fault
fails_after : {F : Type 0} (end : List ℕ) (e : LineFault F) (result : Result (Unit {0}) (LineFault F))
    (now new : Option (List ℕ)) (reads reads' writes writes' writes'' : ℕ) (is : Bool) → is_write e ≡ is
    → (reads' ≡ reads + reads_failed e) × (writes' ≡ writes + writes_failed e)
    → FollowsFault is end e result now new writes' writes'' → Fails end result reads reads' writes writes''
fails_after end e result now new reads reads' writes writes' writes'' true is stop (reported, same, quiet) =
    subst (λ r. Fails end r reads reads' writes writes'') (sym reported)
    ((reads_of end e reads reads' stop.0).0, quiet ∙ stop.1)
fails_after end e result now new reads reads' writes writes' writes'' false is stop (inl writes_end) =
    subst (λ r. Fails end r reads reads' writes writes'') (sym writes_end.reported)
    ((reads_of end e reads reads' stop.0).0, writes_end.quiet ∙ stop.1)
fails_after end e result now new reads reads' writes writes' writes'' false is stop (inr cuts) =
    subst (λ r. Fails end r reads reads' writes writes'') (sym cuts.reported) (
      (reads_of end e reads reads' stop.0).1 cuts.some,
      (let failed = cuts.failed in
          let before = stop.1 in
          let none = quiet_writes e is in
          omega (arith, failed, before, none)),
    )

-- after each answer
pub fails : {F : Type 0} (last end : List ℕ) (answer result : Result (Unit {0}) (LineFault F))
    (now new : Option (List ℕ)) (reads reads' writes writes' writes'' : ℕ)
    → Stops answer reads reads' writes writes' → Ends last end answer result now new writes' writes''
    → Fails end result reads reads' writes writes''
fails last end (Ok u) result now new reads reads' writes writes' writes'' stop (inl (inl writes_all)) =
    subst (λ r. Fails end r reads reads' writes writes'') (sym writes_all.reported) (stop.0, writes_all.quiet ∙ stop.1)
fails last end (Ok u) result now new reads reads' writes writes' writes'' stop (inl (inr cuts)) =
    subst (λ r. Fails end r reads reads' writes writes'') (sym cuts.reported)
    (inl stop.0, cuts.failed ∙ ap (λ n. n + 1) stop.1)
fails last end (Ok u) result now new reads reads' writes writes' writes'' stop (inr (fault, inl writes_end)) =
    subst (λ r. Fails end r reads reads' writes writes'') (sym writes_end.reported) (
      stop.0,
      (let same = writes_end.quiet in let before = stop.1 in omega (arith, same, before)),
    )
fails last end (Ok u) result now new reads reads' writes writes' writes'' stop (inr (fault, inr cuts)) =
    subst (λ r. Fails end r reads reads' writes writes'') (sym cuts.reported)
    (inl stop.0, cuts.failed ∙ ap (λ n. n + 1) stop.1)
fails last end (Err e) result now new reads reads' writes writes' writes'' stop follows =
    fails_after end e result now new reads reads' writes writes' writes'' (is_write e) refl stop follows

-- ---- from the clauses of the calls to the clauses of a run

-- what a run over lines leaves
pub ran : {S F : Type 0} (P P' : List (List ℕ) → List ℕ → S → Type 0) (limits : LineLimits)
    (answer : Result (Unit {0}) (LineFault F)) (C : List ℕ → Type 0) (old : Option (List ℕ)) (at_end : Type 0) (q : S)
    (new : Option (List ℕ))
    → OnOk answer ((read : List ℕ) × C read × at_end × WroteAll P limits old read q new)
    → IfErr answer (λ e. (read : List ℕ) × C read × Leaves P P' limits e old read at_end q new)
    → (read : List ℕ) × C read × Ran P P' limits answer old read at_end q new
ran P P' limits (Ok u) C old at_end q new ok err = (ok.0, ok.1, (ok.2, ok.3))
ran P P' limits (Err e) C old at_end q new ok err = err

-- a run in a frame that answers no fault
pub ended_ok : {S F : Type 0} (P P' W : List (List ℕ) → List ℕ → S → Type 0) (limits : LineLimits)
    (result : Result (Unit {0}) (LineFault F)) (C : List ℕ → Type 0) (old : Option (List ℕ)) (read : List ℕ)
    (at_end : Type 0) (q : S) (new : Option (List ℕ)) → C read → Ended P P' W limits result old read at_end q new
    → OnOk result ((read : List ℕ) × C read × at_end × WroteAll W limits old read q new)
ended_ok P P' W limits (Ok u) C old read at_end q new consumed end = (read, consumed, end.0, end.1)
ended_ok P P' W limits (Err e) C old read at_end q new consumed end = tt {0}

-- and one that does
pub ended_err : {S F : Type 0} (P P' W : List (List ℕ) → List ℕ → S → Type 0) (limits : LineLimits)
    (result : Result (Unit {0}) (LineFault F)) (C : List ℕ → Type 0) (old : Option (List ℕ)) (read : List ℕ)
    (at_end : Type 0) (q : S) (new : Option (List ℕ)) → C read → Ended P P' W limits result old read at_end q new
    → IfErr result (λ e. (read : List ℕ) × C read × LeavesPart P P' W limits e old read at_end q new)
ended_err P P' W limits (Ok u) C old read at_end q new consumed end = tt {0}
ended_err P P' W limits (Err e) C old read at_end q new consumed end = (read, consumed, end)

-- its failed reads and writes
pub stops : {F : Type 0} (answer : Result (Unit {0}) (LineFault F)) (reads reads' writes writes' : ℕ)
    → OnOk answer ((reads' ≡ reads) × (writes' ≡ writes))
    → IfErr answer (λ e. (reads' ≡ reads + reads_failed e) × (writes' ≡ writes + writes_failed e))
    → Stops answer reads reads' writes writes'
stops (Ok u) reads reads' writes writes' ok err = ok
stops (Err e) reads reads' writes writes' ok err = err

pub fails_ok : {F : Type 0} (end : List ℕ) (result : Result (Unit {0}) (LineFault F)) (reads reads' writes writes' : ℕ)
    → Fails end result reads reads' writes writes' → OnOk result ((reads' ≡ reads) × (writes' ≡ writes))
fails_ok end (Ok u) reads reads' writes writes' fail = fail
fails_ok end (Err e) reads reads' writes writes' fail = tt {0}

pub fails_err : {F : Type 0} (end : List ℕ) (result : Result (Unit {0}) (LineFault F))
    (reads reads' writes writes' : ℕ) → Fails end result reads reads' writes writes'
    → IfErr result (λ e. FailsReads end e reads reads' × (writes' ≡ writes + writes_failed e))
fails_err end (Ok u) reads reads' writes writes' fail = tt {0}
fails_err end (Err e) reads reads' writes writes' fail = fail
