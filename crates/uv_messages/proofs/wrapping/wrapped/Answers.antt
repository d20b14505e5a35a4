-- One word more.
use Rattle.std.proofs.Common.{◌∙◌, ◌++◌, Some, ap, lit<, string_bytes}
use Rattle.std.proofs.lemmas.Str.Pattern.{split_parts}
use Rattle.uv_messages.proofs.WrappingLemmas.{word_more}
use Rattle.uv_messages.proofs.wrapping.wrapped.Goals as goal

pub loop-word-preserved : goal.loop-word-preserved
loop-word-preserved c =
    let parts =
    split_parts 32 c.loop-word.rest.now (Some (c.in-Some.word, c.in-Some.after)) c.in-Some.ensures.cases (lit< tt) in (
      search,
      word_more (string_bytes c.loop-word.lines) c.in-Some.word.now c.separator.result.now c.in-Some.after.now
          c.loop-word.rest.now _ _ parts.0 c.separator.ensures
          (c.in_ok-push_str-2.ensures.bytes ∙ ap (λ t. t ++ c.separator.result.now) c.in_ok-push_str.ensures.bytes)
          c.loop-word.invariant.1,
    )
