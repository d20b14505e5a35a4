-- The walk goes on over the segments that are left, which are without `/`.
use Rattle.std.proofs.Common.{◌≡◌, false, true}
use Rattle.std.specs.List.{list_all}
use Rattle.uv_model.specs.Ascii.{slash}
use Rattle.uv_model.specs.Path.{is_without}
use Rattle.uv_resolve.proofs.WalkLemmas.{continued}
use Rattle.uv_resolve.proofs.walker.walk.Given as goal

abbrev pub invariant-loop-segment : goal.invariant-loop-segment
invariant-loop-segment l = record {
  walked :
      continued l.fn.class l.path l.ends_in_dots l.segment-iterator
      ≡ continued l.fn.class l.fn.start false l.fn.segments;
  each : list_all (is_without slash) l.segment-iterator ≡ true;
}
