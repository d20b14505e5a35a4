-- The bits of the bytes that go on.
use Rattle.std.proofs.Common.{◌≡◌, ◌∙◌, ℕ, Bool, true, false, cond, refl, drop, take}
use mir.Val.{bool_byte}
use Rattle.uv_host.specs.declared.plain_names.TheConstants.{JOINT_ROWS, SIGN_ROWS}
use Rattle.uv_host.proofs.NameBitsLemmas.{joined_prefix, last_bit, sign_bits}
use Rattle.uv_host.proofs.plain_names.chain_run.Goals as goal

-- a truth value as a bit
bit_of : (signed : Bool) → bool_byte signed ≡ cond {A = ℕ} signed 1 0
bit_of true = refl
bit_of false = refl

pub returns-clause-goes_on : goal.returns-clause-goes_on
returns-clause-goes_on c =
    let rest = drop c.args.place c.args.text.now in
    let signs = c.row_bits-signs.ensures ∙ c.load-load.ensures.bits SIGN_ROWS ∙ sign_bits (take 32 rest) in
    let joints = c.row_bits-joints.ensures ∙ c.load-load.ensures.bits JOINT_ROWS in
    (joined_prefix c.args.signed rest c.trailing_ones.result
    (rw (signs, joints, c.from.ensures, bit_of c.args.signed) at c.trailing_ones.ensures)).1

pub returns-clause-signed : goal.returns-clause-signed
returns-clause-signed c = λ all.
    let rest = drop c.args.place c.args.text.now in
    let signs = c.row_bits-signs.ensures ∙ c.load-load.ensures.bits SIGN_ROWS ∙ sign_bits (take 32 rest) in
    let joints = c.row_bits-joints.ensures ∙ c.load-load.ensures.bits JOINT_ROWS in
    let run = (joined_prefix c.args.signed rest c.trailing_ones.result
    (rw (signs, joints, c.from.ensures, bit_of c.args.signed) at c.trailing_ones.ensures)).1 in
    rw signs (last_bit rest (rw all at run.inside))
