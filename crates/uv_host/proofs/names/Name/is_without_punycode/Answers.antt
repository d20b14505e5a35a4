-- Each label passes if no hyphen or no `x` is seen.
use Rattle.std.proofs.Common.{◌==◌, ap, sym, ◌∙◌}
use Rattle.std.specs.List.{list_all}
use Rattle.idna.specs.declared.options.Hyphens.TheVariants.{Allow}
use Rattle.idna.specs.Labels.{labels_of}
use Rattle.idna.specs.Validity.{passes_hyphens}
use Rattle.uv_host.proofs.NameKindsLemmas.{seen_no_hyphen, seen_no_x}
use Rattle.uv_host.proofs.names.Name.is_without_punycode.Goals as goal
use Rattle.uv_host.proofs.names.Name.is_without_punycode.Goals.{then-self-eq0-via-then-self-eq0}
use Rattle.uv_host.proofs.names.Name.is_without_punycode.Goals.{then-self-eq0-via-else-self-eq0+then-self-eq0-2}

pub returns-then-self-eq0 : goal.returns-then-self-eq0
returns-then-self-eq0 c =
    let bytes = c.self.inside.bytes.now in
    let seen = c.self.inside.seen in
    elim c.then-self-eq0.branch [
      | then-self-eq0-via-then-self-eq0 w ↦
          sym (seen_no_hyphen Allow bytes seen c.self.invariant (ap (λ n. n == 0) w.if-self-eq0.true))
          ∙ ap (λ n. list_all (passes_hyphens Allow) (labels_of n)) c.self.view_is
      | then-self-eq0-via-else-self-eq0+then-self-eq0-2 w ↦
          sym (seen_no_x bytes seen c.self.invariant (ap (λ n. n == 0) w.if-self-eq0-2.true))
          ∙ ap (λ n. list_all (passes_hyphens Allow) (labels_of n)) c.self.view_is
    ]
