-- The fields belong to the denoted URL.
use Rattle.std.proofs.Common.{sym, ◌∙◌, subst}
use Rattle.uv_model.specs.declared.profile.Profile.TheVariants.{Parser}
use Rattle.uv_model.specs.Records.WellFormed.{WellFormed}
use Rattle.uv_resolve.proofs.RecordLemmas.{denote-fields}
use Rattle.uv_resolve.proofs.records.denoted.Goals as goal

pub make_with-requires : goal.make_with-requires
make_with-requires c =
    subst (WellFormed Parser)
    (sym (denote-fields _ c.args.parts.now c.class_in-class.result _ _ _ _ _ _ c.class_in-class.ensures
    c.in_ok-scheme.ensures
    c.in_ok-host.ensures c.port_of-port.ensures c.in_ok-path.ensures c.in_ok-query.ensures
    c.in_ok-fragment.ensures))
    c.requires.well_formed

pub returns : goal.returns
returns c =
    c.make_with.ensures
    ∙ denote-fields _ c.args.parts.now c.class_in-class.result _ _ _ _ _ _ c.class_in-class.ensures
    c.in_ok-scheme.ensures
    c.in_ok-host.ensures c.port_of-port.ensures c.in_ok-path.ensures c.in_ok-query.ensures c.in_ok-fragment.ensures
