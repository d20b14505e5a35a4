-- A load that begins before the place has its bits after the bits of the bytes before the place.
use Rattle.std.proofs.Common.{◌≡◌, ◌+◌, ◌-◌, ◌≤◌, ℕ, List, length, map, take, take_all, drop, ap, sym, ◌∙◌, arith}
use Rattle.std.specs.Simd.Lanes.{mask_l}
use Rattle.std.proofs.lemmas.List.{length-drop}
use Rattle.std.proofs.lemmas.Simd.{length-chunk}
use Rattle.uv_text.specs.Rows.{is_in_rows}
use Rattle.uv_text.proofs.MaskLemmas.{taken-after}
use Rattle.uv_text.proofs.lanes.Load.of.Goals as goal

pub returns-then-bytes-lt32 : goal.returns-then-bytes-lt32
returns-then-bytes-lt32 c = λ rows.
    let xs = c.args.bytes.now in
    let rest = drop c.args.place xs in
    let long = length-drop c.args.place xs in
    let few : length rest ≤ 32 = omega (arith, c.if-bytes-lt32.true) in
    let whole : take (length xs - c.args.place) rest ≡ rest = take_all (length xs - c.args.place) rest (omega arith) in
    c.filled.ensures rows
    ∙ ap (λ (l : List ℕ). mask_l (map (is_in_rows rows) l)) (whole ∙ sym (take_all 32 rest few))

pub returns : goal.returns
returns c = λ rows.
    let xs = c.args.bytes.now in
    let start = c.min-start.result in
    let k = c.args.place - start in
    let there : start + k ≡ c.args.place = omega arith in
    ap (λ (l : List ℕ). mask_l (map (is_in_rows rows) l))
    (taken-after start k xs (λ some. omega arith) ∙ ap (λ n. take 32 (drop n xs)) there)

pub invariant_of-result : goal.invariant_of-result
invariant_of-result c =
    (length-chunk c.min-start.result 32 c.args.bytes.now (omega arith), omega arith)
