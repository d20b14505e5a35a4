-- Each label passes if no hyphen is seen.
use Rattle.std.proofs.Common.{◌≡◌, true, ◌==◌, bit_and, ap, sym, ◌∙◌}
use Rattle.std.specs.List.{list_all}
use Rattle.idna.specs.declared.options.Hyphens.TheVariants.{Check}
use Rattle.idna.specs.Labels.{labels_of}
use Rattle.idna.specs.Validity.{passes_hyphens}
use Rattle.uv_host.proofs.NameKindsLemmas.{seen_no_hyphen}
use Rattle.uv_host.proofs.names.Name.has_placed_hyphens.Goals as goal

pub returns-then-self-eq0 : goal.returns-then-self-eq0
returns-then-self-eq0 c =
    let none : (bit_and c.self.inside.seen 1 == 0) ≡ true = ap (λ n. n == 0) c.if-self-eq0.true in
    none
    ∙ (sym (seen_no_hyphen Check c.self.inside.bytes.now c.self.inside.seen c.self.invariant none)
    ∙ ap (λ n. list_all (passes_hyphens Check) (labels_of n)) c.self.view_is)
