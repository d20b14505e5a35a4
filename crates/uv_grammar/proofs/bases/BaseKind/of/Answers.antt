-- The kind says what the base's scheme, path and host are.
use Rattle.std.proofs.Common.{◌≡◌, ◌↔◌, ℕ, List, Option, Some, chars, sym, ap, ◌∙◌, subst}
use Rattle.std.specs.Prelude.{IsTrue}
use Rattle.std.proofs.lemmas.Str.{chars-IsAscii}
use Rattle.uv_model.specs.declared.host.Host.{Host}
use Rattle.uv_model.specs.declared.host.Host.TheVariants.{Empty}
use Rattle.uv_grammar.specs.Bases.{IsOfScheme}
use Rattle.uv_grammar.proofs.bases.BaseKind.of.Goals as goal

pub returns : goal.returns
returns c =
    let scheme = c.args.base.now.scheme in
    let same = ap chars c.scheme.ensures.text ∙ chars-IsAscii scheme c.scheme.ensures.ascii in
    record {
      scheme = subst (λ (s : List ℕ). IsOfScheme s c.of.result) same c.of.ensures;
      path = sym c.is_opaque.ensures;
      host =
          subst (λ (h : Option Host). IsTrue c.is_empty_host.result ↔ (h ≡ Some Empty)) c.host.ensures
          c.is_empty_host.ensures;
    }
