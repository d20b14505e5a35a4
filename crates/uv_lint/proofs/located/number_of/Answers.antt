-- The digits that are there.
use Rattle.std.specs.Char.{is_ascii_digit}
use Rattle.std.proofs.lemmas.List.Sums.{prefix_len-le-length}
use Rattle.uv_lint.proofs.LocatedLemmas.{leading_digits}
use Rattle.uv_lint.proofs.located.number_of.Goals as goal

pub split_at-requires : goal.split_at-requires
split_at-requires c = rw c.digit_count-count.ensures (prefix_len-le-length is_ascii_digit c.in_ok-after.after.now)

pub value_of-value-requires : goal.value_of-value-requires
value_of-value-requires c =
    rw (c.split_at.ensures.front, c.digit_count-count.ensures) (leading_digits c.in_ok-after.after.now)
