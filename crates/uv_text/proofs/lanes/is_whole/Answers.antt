-- No byte of both loads stops the run.
use Rattle.std.proofs.Common.{◌≡◌, ◌+◌, take, drop, length, bit_or, refl, ap, sym, ◌∙◌, arith}
use Rattle.std.proofs.Common.{inl, inr, ne_eqb}
use Rattle.std.specs.Int.Bits.{or_zero_l}
use Rattle.std.specs.List.{prefix_len}
use Rattle.std.proofs.lemmas.Bool.{cases_eq}
use Rattle.std.proofs.lemmas.List.{drop-drop, length-drop, length-take}
use Rattle.std.proofs.lemmas.List.Sums.{prefix_len-le-length}
use Rattle.std.proofs.lemmas.Nat.{le_or_l, le_or_r}
use Rattle.uv_text.specs.Rows.{is_in_rows}
use Rattle.uv_text.proofs.LookupLemmas.{near_ends, near_past}
use Rattle.uv_text.proofs.StopLemmas.{all_pass, no_stop}
use Rattle.uv_text.proofs.lanes.is_whole.Goals as goal

pub returns : goal.returns
returns c =
    let p = is_in_rows c.args.rows.now in
    let xs = c.args.bytes.now in
    let place = c.args.place in
    let rest = drop place xs in
    let first = c.stop_bits-first.result in
    let second = c.stop_bits-second.result in
    let enough = c.if-bytes-place-lt64.false in
    let long = length-drop place xs in
    let after = length-drop (place + 32) xs in
    let one : length (take 32 rest) ≡ 32 = omega (arith, length-take 32 rest) in
    let two : length (take 32 (drop (place + 32) xs)) ≡ 32 = omega (arith, length-take 32 (drop (place + 32) xs)) in
    let further : prefix_len p (take 32 (drop 32 rest)) ≡ prefix_len p (take 32 (drop (place + 32) xs))
    = ap (λ l. prefix_len p (take 32 l)) (drop-drop 32 place xs) in
    elim (cases_eq (bit_or first second) 0) [
      | inl none ↦
          let before : prefix_len p (take 32 rest) ≡ 32
          = no_stop p (take 32 rest) (sym c.stop_bits-first.ensures ∙ omega (arith, none, le_or_l first second)) ∙ one in
          let behind : prefix_len p (take 32 (drop (place + 32) xs)) ≡ 32
          = no_stop p (take 32 (drop (place + 32) xs))
          (sym c.stop_bits-second.ensures ∙ omega (arith, none, le_or_r first second)) ∙ two in
          let all : prefix_len p (take 64 rest) ≡ 64 = omega (arith, near_past p rest 32 (sym before) refl) in
          rw (none, all) refl
      | inr some ↦
          ne_eqb (bit_or first second) 0 some
          ∙ sym (ne_eqb (prefix_len p (take 64 rest)) 64 (λ all.
          elim (cases_eq (prefix_len p (take 32 rest)) 32) [
            | inl before ↦
                let behind : prefix_len p (take 32 (drop (place + 32) xs)) ≡ 32
                = omega (arith, near_past p rest 32 (sym before) refl) in
                let one_none : first ≡ 0 = c.stop_bits-first.ensures ∙ all_pass p (take 32 rest) (before ∙ sym one) in
                let two_none : second ≡ 0
                = c.stop_bits-second.ensures ∙ all_pass p (take 32 (drop (place + 32) xs)) (behind ∙ sym two) in
                some (ap (λ n. bit_or n second) one_none ∙ (or_zero_l second ∙ two_none))
            | inr fewer ↦
                let ends = near_ends p rest (prefix_len p (take 32 rest)) refl fewer in
                let bound = prefix_len-le-length p (take 32 rest) in
                absurd (omega arith)
          ]))
    ]

pub returns-then-bytes-place-lt64 : goal.returns-then-bytes-place-lt64
returns-then-bytes-place-lt64 c =
    let p = is_in_rows c.args.rows.now in
    let rest = drop c.args.place c.args.bytes.now in
    let long = length-drop c.args.place c.args.bytes.now in
    let few = length-take 64 rest in
    let bound = prefix_len-le-length p (take 64 rest) in
    sym (ne_eqb (prefix_len p (take 64 rest)) 64 (λ all. omega (arith, all, c.if-bytes-place-lt64.true)))
