-- The next word is pushed after those so far.
use Rattle.std.proofs.Common.{[], ◌∷◌, Some, ap, map, string_bytes, ◌∙◌}
use Rattle.std.proofs.lemmas.List.{map-append}
use Rattle.uv_arguments.specs.Arguments.{IsWordAt}
use Rattle.uv_arguments.proofs.ArgumentLemmas.{first_words-pushed}
use Rattle.uv_arguments.proofs.arguments.words_of.Goals as goal

pub loop-number-preserved : goal.loop-number-preserved
loop-number-preserved g c =
    let gives = g.A.Arguments.gives c.args.arguments.now in
    let next : IsWordAt (gives c.loop-number.number) c.loop-number.number (Some (string_bytes c.in-Some.word)) =
    rw c.in-Some.is at c.in_ok-word.ensures in
    first_words-pushed gives _ _ (string_bytes c.in-Some.word) c.loop-number.number
    c.loop-number.invariant.0 c.loop-number.invariant.1 next
    (ap (map string_bytes) c.in_ok-push-in-Some.ensures.items ∙ map-append string_bytes _ (c.in-Some.word ∷ []))
