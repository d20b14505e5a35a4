-- A prefix that goes on as a name does, and doesn't end with a hyphen.
use Rattle.std.proofs.Common.{ℕ, List, ◌-◌, get_or, ap, ◌∙◌, arith}
use Rattle.uv_host.proofs.NamePrefixLemmas.{name_goes_on}
use Rattle.uv_host.proofs.plain_names.name_prefix.Goals as goal

pub returns : goal.returns
returns c =
    let prefix = c.chain_end-end.ensures in (
      prefix.inside,
      name_goes_on c.args.text.now c.chain_end-end.result prefix (omega (arith, c.if-end-eq0.false))
          (λ same. c.if-as_bytes-end-eq45.false
          (ap (λ (s : List ℕ). get_or s (c.chain_end-end.result - 1) 0) (c.as_bytes.ensures.value ∙ c.as_str.ensures)
          ∙ same)),
    )
