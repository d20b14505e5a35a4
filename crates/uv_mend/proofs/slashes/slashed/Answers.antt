-- The slashes were as they are read, or were written so after the scheme.
use Rattle.std.proofs.Common.{chars, option_copied, ◌∙◌}
use Rattle.uv_mend.proofs.SameLemmas.{slashed_joined, slashed_whole}
use Rattle.uv_mend.proofs.TextLemmas.{begun, followed, written}
use Rattle.uv_mend.proofs.slashes.slashed.Goals as goal

pub returns-then-is_slashed : goal.returns-then-is_slashed
returns-then-is_slashed c =
    slashed_whole (option_copied c.args.base) (chars c.args.text.now) (chars c.split_scheme.result.1.now)
    c.starts_with_scheme-has_scheme.result c.starts_with_scheme-has_scheme.ensures c.split_scheme.ensures.rest
    (c.is_slashed.ensures c.if-is_slashed.true)

pub returns : goal.returns
returns c =
    let scheme = begun _ _ _ c.in_ok-out.ensures.bytes c.in_ok-push_text.ensures in
    written c.push_slashed.new.out _ (followed _ _ _ _ scheme c.in_ok-push_slashed.ensures)
    ∙ slashed_joined (option_copied c.args.base) (chars c.args.text.now) _ _ _ _ c.split_scheme.ensures.prefix
    c.split_scheme.ensures.rest c.starts_with_scheme-has_scheme.ensures c.class_against-class.ensures
