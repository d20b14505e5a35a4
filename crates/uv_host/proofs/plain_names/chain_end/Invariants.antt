-- The bytes so far go on, and so do those that come next.
use Rattle.std.proofs.Common.{◌≡◌, ◌-◌, false, length, drop}
use Rattle.std.specs.Prelude.{slice_index}
use Rattle.uv_host.specs.PlainNames.{IsJoined, is_sign, signed_before}
use Rattle.uv_host.proofs.plain_names.chain_end.Given as goal

abbrev pub invariant-loop-ahead : goal.invariant-loop-ahead
invariant-loop-ahead l = record {
  prefix : IsJoined false l.text l.end;
  more : IsJoined (signed_before false l.text l.end) (drop l.end l.text) l.ahead;
  after : l.ahead ≡ 32 → l.signed ≡ is_sign (slice_index (drop l.end l.text) 31);
}

abbrev pub decreases-loop-ahead : goal.decreases-loop-ahead
decreases-loop-ahead l = length l.text - l.end
