-- A byte more has a kind where it or one before it has.
use Rattle.std.proofs.Common.{◌&&◌, ◌==◌, bit_and, get_or, take_all, sym, ap, ◌∙◌}
use Rattle.std.specs.Int.Bits.{and_zero_l}
use Rattle.std.specs.List.{list_all}
use Rattle.std.specs.Prelude.{slice_index}
use Rattle.std.proofs.lemmas.List.Folds.{list_all_more}
use Rattle.uv_host.specs.declared.names.TheConstants.{KINDS}
use Rattle.uv_host.specs.NameKinds.{is_of_none}
use Rattle.uv_host.proofs.NameKindsLemmas.{kind_in_table, none_of_both, small_bytes}
use Rattle.uv_host.proofs.names.kinds_of.Goals as goal

pub loop-byte-init : goal.loop-byte-init
loop-byte-init c = λ kinds. ap (λ n. n == 0) (and_zero_l kinds)

pub loop-byte-preserved : goal.loop-byte-preserved
loop-byte-preserved c = λ kinds.
    let byte = get_or c.args.bytes.now c.loop-byte.byte-index 0 in
    let is = kind_in_table byte (c.type_inv.bytes c.loop-byte.byte-index).fits in
    none_of_both c.loop-byte.seen (slice_index KINDS byte) kinds
    ∙ (ap (λ k. (bit_and c.loop-byte.seen kinds == 0) && (bit_and k kinds == 0)) is
    ∙ (ap (λ all. all && is_of_none kinds byte) (c.loop-byte.invariant kinds)
    ∙ sym (list_all_more (is_of_none kinds) c.args.bytes.now c.loop-byte.byte-index 0 c.loop-byte-test.true)))

pub returns : goal.returns
returns c = record {
  bytes = small_bytes c.args.bytes.now c.type_inv.bytes;
  none = λ kinds.
      c.loop-byte.invariant kinds ∙ ap (list_all (is_of_none kinds)) (take_all _ _ c.loop-byte-test.false);
}
