-- No dot was found after a slash before this place.
use Rattle.std.proofs.Common.{◌≡◌, ◌≤◌, false}
use Rattle.uv_compare.specs.PlainLinks.{HasNoDots}
use Rattle.uv_compare.proofs.plain_links.has_no_dots.Given as goal

abbrev pub invariant-loop-at : goal.invariant-loop-at
invariant-loop-at l = record {
  some : 1 ≤ l.at;
  none : l.found ≡ false → HasNoDots l.bytes l.at;
}
