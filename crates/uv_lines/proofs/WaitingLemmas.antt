-- What comes to the writer, one text after the other.
use Rattle.std.proofs.Common.{◌≡◌, ℕ, ◌+◌, List, [], ◌++◌, Option, length, take, refl, sym, ap, ◌∙◌, subst}
use Rattle.std.proofs.Common.{append_assoc, append-nil, inl}
use Rattle.std.proofs.Math.Seq.{take-append-add}
use Rattle.std.proofs.KnownBytes.{Appends-nil, Appends-trans}
use Rattle.std.specs.Io.KnownBytes.{Appends}
use Rattle.uv_lines.specs.declared.fault.ReportFault.{ReportFault}
use Rattle.uv_lines.specs.declared.fault.ReportFault.TheVariants.{Reporter, Write}
use Rattle.uv_lines.specs.Waiting.{Adds, CutsOff, LeavesLine, LeavesParts, Passes}

-- a text that waits
pub passes_none : (text : List ℕ) (a : Option (List ℕ)) → Passes text a a text
passes_none text a = record { written = []; wrote = Appends-nil a; rest = refl }

-- a text that was written
pub passes_all : (text : List ℕ) (old new : Option (List ℕ)) (left : List ℕ) → Appends old new text → left ≡ []
    → Passes text old new left
passes_all text old new left wrote none =
    record { written = text; wrote = wrote; rest = sym (ap (λ t. text ++ t) none ∙ append-nil text) }

-- what waited was written
pub passes_written : (text : List ℕ) (old now new : Option (List ℕ)) (waits : List ℕ) → Passes text old now waits
    → Appends now new waits → Appends old new text
passes_written text old now new waits p wrote =
    subst (λ t. Appends old new t) (sym p.rest) (Appends-trans old now new p.written waits p.wrote wrote)

-- more came to what waited
pub passes_more : (first more : List ℕ) (old now new : Option (List ℕ)) (waits left : List ℕ)
    → Passes first old now waits → Passes (waits ++ more) now new left → Passes (first ++ more) old new left
passes_more first more old now new waits left p q = record {
  written = p.written ++ q.written;
  wrote = Appends-trans old now new p.written q.written p.wrote q.wrote;
  rest = ap (λ t. t ++ more) p.rest ∙ append_assoc p.written waits more ∙ ap (λ t. p.written ++ t) q.rest
      ∙ sym (append_assoc p.written q.written left);
}

-- nothing more came
pub passes_on : (text : List ℕ) (old now new : Option (List ℕ)) (waits left : List ℕ)
    → Passes text old now waits → Passes waits now new left → Passes text old new left
passes_on text old now new waits left p q = record {
  written = p.written ++ q.written;
  wrote = Appends-trans old now new p.written q.written p.wrote q.wrote;
  rest = p.rest ∙ ap (λ t. p.written ++ t) q.rest ∙ sym (append_assoc p.written q.written left);
}

-- a prefix of what waited was written
pub cuts_on : (text : List ℕ) (old now new : Option (List ℕ)) (waits : List ℕ) → Passes text old now waits
    → CutsOff waits now new → CutsOff text old new
cuts_on text old now new waits p cut = (
  length p.written + cut.0,
  subst (λ t. Appends old new (take (length p.written + cut.0) t)) (sym p.rest)
      (rw (take-append-add p.written waits cut.0)
      (Appends-trans old now new p.written (take cut.0 waits) p.wrote cut.1)),
)

-- and of what came to it
pub cuts_more : (first more : List ℕ) (old now new : Option (List ℕ)) (waits : List ℕ)
    → Passes first old now waits → CutsOff (waits ++ more) now new → CutsOff (first ++ more) old new
cuts_more first more old now new waits p cut = (
  length p.written + cut.0,
  subst (λ t. Appends old new (take (length p.written + cut.0) t))
      (sym (ap (λ t. t ++ more) p.rest ∙ append_assoc p.written waits more))
      (rw (take-append-add p.written (waits ++ more) cut.0)
      (Appends-trans old now new p.written (take cut.0 (waits ++ more)) p.wrote cut.1)),
)

-- ---- a line

-- what was said of it waits
pub adds_waiting : {S : Type 0} (reports : S → Option (List ℕ) → List ℕ → S → Type 0) (lines : S → ℕ)
    (before after : S) (waited said waits : List ℕ) (line : Option (List ℕ)) (a b : Option (List ℕ))
    → reports before line said after → lines after ≡ lines before + 1 → waits ≡ waited ++ said → b ≡ a
    → Adds reports lines before waited a line after waits b
adds_waiting reports lines before after waited said waits line a b reported count is same = record {
  said = said;
  reported = reported;
  count = count;
  passes = rw (is, same) (passes_none (waited ++ said) a);
}

-- nothing was said of it
pub leaves_none : {S F : Type 0} (begins : S → Option (List ℕ) → List ℕ → Type 0) (fault : F) (before : S)
    (waited waits : List ℕ) (line : Option (List ℕ)) (a b : Option (List ℕ)) → waits ≡ waited → b ≡ a
    → LeavesLine begins (Reporter fault) before waited a line waits b
leaves_none begins fault before waited waits line a b is same =
    ([], inl refl, rw (is, same, append-nil waited) (passes_none waited a))

-- ---- parts of a line

-- parts came after others
pub parts_after : {F : Type 0} (P Q : List ℕ → Type 0) (e : ReportFault F) (waited said : List ℕ)
    (a m b : Option (List ℕ)) (mid waits : List ℕ) → Passes (waited ++ said) a m mid
    → ((parts : List ℕ) → P parts → Q (said ++ parts)) → LeavesParts P e mid m waits b
    → LeavesParts Q e waited a waits b
parts_after P Q (Reporter fault) waited said a m b mid waits before is left = (
  said ++ left.0,
  is left.0 left.1,
  subst (λ t. Passes t a b waits) (append_assoc waited said left.0)
      (passes_more (waited ++ said) left.0 a m b mid waits before left.2),
)
parts_after P Q Write waited said a m b mid waits before is left = (
  said ++ left.0,
  is left.0 left.1,
  subst (λ t. CutsOff t a b) (append_assoc waited said left.0)
      (cuts_more (waited ++ said) left.0 a m b mid before left.2),
)
