-- The check of an opaque host.
use Rattle.std.proofs.Common.{refl}
use Rattle.std.specs.Str.{chars}
use Rattle.uv_grammar.proofs.HostLemmas.{opaque_answer}
use Rattle.uv_grammar.proofs.authority.host.check_opaque_host.Goals as goal

pub returns-in-None : goal.returns-in-None
returns-in-None c = (
  opaque_answer (chars c.args.text.now) c.requires
      (c.in_default.ensures.silent.0 refl) c.in-None.ensures,
  c.in_default.ensures.least,
)
