-- The lines so far, and what is left, are the text on one line.
use Rattle.std.proofs.Common.{◌≡◌, ◌++◌, length, string_bytes}
use denote.Text.{Utf8}
use denote.Shadow.{shadow}
use Rattle.uv_messages.specs.Explanations.{on_one_line}
use Rattle.uv_messages.proofs.wrapping.wrapped.Given as goal

abbrev pub invariant-loop-word : goal.invariant-loop-word
invariant-loop-word l =
    shadow (Utf8 l.rest) × (on_one_line (string_bytes l.lines) ++ on_one_line l.rest ≡ on_one_line l.fn.text)

abbrev pub decreases-loop-word : goal.decreases-loop-word
decreases-loop-word l = length l.rest
