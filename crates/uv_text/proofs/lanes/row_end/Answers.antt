-- The first 64 bytes have the end where fewer of them are in the run; otherwise the run goes on after them.
use Rattle.std.proofs.Common.{◌≡◌, ◌≢◌, ap, drop, take, refl, arith}
use Rattle.std.specs.List.{prefix_len}
use Rattle.std.proofs.lemmas.List.{drop-drop, length-drop}
use Rattle.uv_text.specs.Rows.{is_in_rows}
use Rattle.uv_text.proofs.LookupLemmas.{ahead_ends, ahead_inside, ahead_past}
use Rattle.uv_text.proofs.lanes.row_end.Goals as goal

pub far_end-requires : goal.far_end-requires
far_end-requires c =
    let rest = drop c.args.place c.args.bytes.now in
    let long = length-drop c.args.place c.args.bytes.now in
    let p = is_in_rows c.args.rows.now in
    let room = (ahead_inside p 64 rest (prefix_len p (take 64 rest)) refl).1 in
    let near = c.near_end-near.ensures in
    let bound = c.requires in
    omega arith

pub returns-then-near-place-lt64 : goal.returns-then-near-place-lt64
returns-then-near-place-lt64 c =
    let p = is_in_rows c.args.rows.now in
    let rest = drop c.args.place c.args.bytes.now in
    let near = c.near_end-near.ensures in
    let fewer : prefix_len p (take 64 rest) ≢ 64 = λ all. omega (arith, all, near, c.if-near-place-lt64.true) in
    let stop = ahead_ends p 64 rest (prefix_len p (take 64 rest)) refl fewer in
    omega arith

pub returns : goal.returns
returns c =
    let p = is_in_rows c.args.rows.now in
    let xs = c.args.bytes.now in
    let rest = drop c.args.place xs in
    let near = c.near_end-near.ensures in
    let inside = (ahead_inside p 64 rest (prefix_len p (take 64 rest)) refl).0 in
    let all : prefix_len p (take 64 rest) ≡ 64 = omega (arith, near, c.if-near-place-lt64.false) in
    let step = ahead_past p 64 rest (prefix_len p (take 64 rest)) refl all in
    let further = ap (prefix_len p) (drop-drop (prefix_len p (take 64 rest)) c.args.place xs) in
    let after = ap (λ n. prefix_len p (drop n xs)) near in
    let end = c.far_end.ensures in
    omega arith
