-- No file so far is standard input, so that one is where one of the rest is.
use Rattle.std.proofs.Common.{◌≡◌, drop, map}
use Rattle.std.specs.List.{list_any}
use Rattle.uv_arguments.specs.Requests.{is_input}
use Rattle.uv_arguments.proofs.inputs.has_input.Given as goal

abbrev pub invariant-loop-file : goal.invariant-loop-file
invariant-loop-file l =
    list_any is_input (map (λ f. f.now) (drop l.file-index l.files))
    ≡ list_any is_input (map (λ f. f.now) l.files)
