-- What is after the name begins with a slash, and is plain.
use Rattle.std.proofs.Common.{◌≡◌, subst, true}
use Rattle.uv_compare.specs.PlainLinks.{FollowsName, is_plain}
use Rattle.uv_compare.proofs.PlainLinkLemmas.{read_link}
use Rattle.uv_compare.proofs.plain_links.is_own_url.Goals as goal

pub returns-then-begins_with_slash : goal.returns-then-begins_with_slash
returns-then-begins_with_slash c = λ base plain.
    let text = c.args.text.now in
    let begins = c.begins_with_slash.ensures c.if-begins_with_slash.true in
    read_link base text begins.0 (subst (FollowsName text) begins.1 c.in-Some.ensures)
    (subst (λ l. is_plain l ≡ true) begins.1 (c.is_plain.ensures plain))
