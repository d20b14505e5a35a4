-- A plain name and a text that no domain holds take no memory.
use Rattle.std.proofs.Common.{inl, inr, chars}
use Rattle.std.proofs.lemmas.Bool.{false≢true}
use Rattle.uv_grammar.proofs.HostLemmas.{written_no_form}
use Rattle.uv_grammar.proofs.authority.host_text.check_written_name.Goals as goal

pub returns-in_err-form-clause-memory : goal.returns-in_err-form-clause-memory
returns-in_err-form-clause-memory c = λ h.
    absurd (elim (written_no_form c.args.profile (chars c.args.text.now) c.requires.written c.requires.text h) [
      | inl refused ↦ let same = c.in_err-form.ensures.refused c.requires.written refused in cc
      | inr plain ↦ false≢true (c.in_default.ensures.plain plain)
    ])
