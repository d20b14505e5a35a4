-- 64 bytes that pass are a step more; what is left has the end.
use Rattle.std.proofs.Common.{◌≡◌, ◌≢◌, ◌≤◌, ◌==◌, ap, drop, take, length, refl, sym, ◌∙◌, arith, eqb-true}
use Rattle.std.specs.List.{prefix_len}
use Rattle.std.proofs.lemmas.Bool.{false≢true}
use Rattle.std.proofs.lemmas.List.{drop-drop, length-drop, length-take}
use Rattle.std.proofs.lemmas.List.Sums.{prefix_len-le-length}
use Rattle.uv_text.specs.Rows.{is_in_rows}
use Rattle.uv_text.proofs.LookupLemmas.{ahead_ends, prefix_past}
use Rattle.uv_text.proofs.lanes.far_end.Goals as goal

pub loop-end-preserved : goal.loop-end-preserved
loop-end-preserved c =
    let p = is_in_rows c.args.rows.now in
    let xs = c.args.bytes.now in
    let end = c.loop-end.end in
    let rest = drop end xs in
    let all : prefix_len p (take 64 rest) ≡ 64
    = eqb-true (prefix_len p (take 64 rest)) 64 (sym c.is_whole.ensures ∙ c.loop-end-test.true) in
    let few = length-take 64 rest in
    let bound = prefix_len-le-length p (take 64 rest) in
    let long = length-drop end xs in
    let within = c.loop-end.invariant.in_bounds in
    let room : 64 ≤ length rest = omega arith in
    let step = prefix_past p 64 rest room all in
    let further = ap (prefix_len p) (drop-drop 64 end xs) in
    let passed = c.loop-end.invariant.passed in
    record { in_bounds = omega arith; passed = omega arith }

pub returns : goal.returns
returns c =
    let p = is_in_rows c.args.rows.now in
    let rest = drop c.loop-end.end c.args.bytes.now in
    let fewer : prefix_len p (take 64 rest) ≢ 64
    = λ all. false≢true (sym c.loop-end-test.false ∙ (c.is_whole.ensures ∙ ap (λ n. n == 64) all)) in
    let stop = ahead_ends p 64 rest (prefix_len p (take 64 rest)) refl fewer in
    let passed = c.loop-end.invariant.passed in
    let near = c.near_end.ensures in
    omega arith
