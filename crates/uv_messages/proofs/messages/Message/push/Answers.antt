-- One line more.
use Rattle.std.proofs.Common.{◌∙◌, ◌++◌, ◌∷◌, [], ap, string_bytes}
use Rattle.std.proofs.lemmas.List.{flat_map_more}
use Rattle.uv_messages.specs.Messages.{message_line}
use Rattle.uv_messages.proofs.messages.Message.push.Goals as goal

pub invariant_of-self-2 : goal.invariant_of-self-2
invariant_of-self-2 c =
    let lines = c.self.invariant.0 in
    let line = c.args.line.now in
    let more = c.as_str.ensures.value ∙ c.in_ok-line.ensures in (
      lines ++ line ∷ [],
      c.in_ok-push_str.ensures.bytes ∙ ap (λ t. string_bytes c.self.inside.text ++ t) more
          ∙ ap (λ t. t ++ message_line line) c.self.invariant.1 ∙ flat_map_more message_line [] lines line,
    )
