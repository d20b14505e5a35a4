-- A name of at most 63 bytes has the lengths of a domain.
use Rattle.std.proofs.Common.{◌≡◌, true, nat_le, length, sym, ◌∙◌, arith}
use Rattle.std.proofs.lemmas.Bool.Decides.{nat_tests}
use Rattle.uv_host.proofs.ChainLemmas.{rooted_lengths}
use Rattle.uv_host.proofs.plain_names.is_fitting.Goals as goal

pub returns-then-name-le63 : goal.returns-then-name-le63
returns-then-name-le63 c =
    let few : nat_le (length c.args.name.now) 63 ≡ true = grind (arith, nat_tests) in
    few ∙ sym (rooted_lengths c.args.name.now c.requires c.if-name-le63.true)
