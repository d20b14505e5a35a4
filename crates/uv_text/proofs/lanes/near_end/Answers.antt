-- The first half has the end where it is shorter than 32 bytes; otherwise the second has it.
use Rattle.std.proofs.Common.{◌≡◌, ◌≢◌, ◌+◌, ap, drop, take, arith}
use Rattle.std.specs.List.{prefix_len}
use Rattle.std.proofs.lemmas.List.{drop-drop, length-drop}
use Rattle.uv_text.specs.Rows.{is_in_rows}
use Rattle.uv_text.proofs.LookupLemmas.{ahead_inside, near_ends, near_past}
use Rattle.uv_text.proofs.lanes.near_end.Goals as goal

pub returns-then-ahead-lt32 : goal.returns-then-ahead-lt32
returns-then-ahead-lt32 c =
    let rest = drop c.args.place c.args.bytes.now in
    let fewer : c.row_prefix-ahead.result ≢ 32 = λ all. omega (arith, all, c.if-ahead-lt32.true) in
    let stop = near_ends (is_in_rows c.args.rows.now) rest c.row_prefix-ahead.result c.row_prefix-ahead.ensures fewer in
    omega arith

pub overflow_add-result-2 : goal.overflow_add-result-2
overflow_add-result-2 c =
    let rest = drop c.args.place c.args.bytes.now in
    let long = length-drop c.args.place c.args.bytes.now in
    let room = (ahead_inside (is_in_rows c.args.rows.now) 32 rest c.row_prefix-ahead.result c.row_prefix-ahead.ensures).1 in
    let bound = c.requires in
    omega arith

pub overflow_add-place : goal.overflow_add-place
overflow_add-place c =
    let rest = drop c.args.place c.args.bytes.now in
    let long = length-drop c.args.place c.args.bytes.now in
    let room = (ahead_inside (is_in_rows c.args.rows.now) 32 rest c.row_prefix-ahead.result c.row_prefix-ahead.ensures).1 in
    let bound = c.requires in
    omega arith

pub row_prefix-requires : goal.row_prefix-requires
row_prefix-requires c =
    let rest = drop c.args.place c.args.bytes.now in
    let long = length-drop c.args.place c.args.bytes.now in
    let room = (ahead_inside (is_in_rows c.args.rows.now) 32 rest c.row_prefix-ahead.result c.row_prefix-ahead.ensures).1 in
    let bound = c.requires in
    omega arith

pub overflow_add-result-3 : goal.overflow_add-result-3
overflow_add-result-3 c =
    let after = c.args.place + c.row_prefix-ahead.result in
    let long = length-drop c.args.place c.args.bytes.now in
    let left = length-drop after c.args.bytes.now in
    let p = is_in_rows c.args.rows.now in
    let room = (ahead_inside p 32 (drop c.args.place c.args.bytes.now) c.row_prefix-ahead.result c.row_prefix-ahead.ensures).1 in
    let more = (ahead_inside p 32 (drop after c.args.bytes.now) c.row_prefix.result c.row_prefix.ensures).1 in
    let bound = c.requires in
    omega arith

pub returns : goal.returns
returns c =
    let p = is_in_rows c.args.rows.now in
    let xs = c.args.bytes.now in
    let rest = drop c.args.place xs in
    let ahead = c.row_prefix-ahead.result in
    let inside = (ahead_inside p 32 rest ahead c.row_prefix-ahead.ensures).0 in
    let all : ahead ≡ 32 = omega (arith, c.if-ahead-lt32.false) in
    let step = near_past p rest ahead c.row_prefix-ahead.ensures all in
    let further = ap (λ l. prefix_len p (take 32 l)) (drop-drop ahead c.args.place xs) in
    let end = c.row_prefix.ensures in
    omega arith
