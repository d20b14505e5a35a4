-- A `/` and a text after it are the pieces of that text more.
use Rattle.std.proofs.Common.{◌≡◌, ◌++◌, ◌∙◌, ap, lit<, subst, sym, List, ℕ, string_bytes}
use Rattle.std.specs.Prelude.{OnOk, is_ok}
use Rattle.uv_model.specs.Path.{pieces, segments_after}
use Rattle.uv_model.specs.Records.Held.{held_text}
use Rattle.uv_model.specs.Records.PathText.{IsPathText}
use Rattle.uv_model.proofs.Paths.PathTexts.{pushed_path, pushed_segments}
use Rattle.uv_model.proofs.path_text.PathText.push_pieces.Goals as goal

pub invariant_of-self-in-Long : goal.invariant_of-self-in-Long
invariant_of-self-in-Long c =
    let held = ap held_text c.in-Long.is in
    pushed_path (is_ok c.push_str.result) (string_bytes c.in-Long.path) (string_bytes c.push.new.self)
    c.args.text.now (string_bytes c.push_str.new.self) (subst IsPathText held c.self.invariant) c.requires
    (c.in_ok-push.ensures.bytes
    ∙ ap (λ mark. string_bytes c.in-Long.path ++ mark) (c.in_ok-push.ensures.ascii (lit< tt)))
    c.push_str.ensures.bytes

pub returns-in-Long : goal.returns-in-Long
returns-in-Long c =
    subst (λ (old : List (List ℕ)). OnOk c.push_str.result
    (segments_after (string_bytes c.push_str.new.self) ≡ old ++ pieces c.args.text.now))
    (sym (ap (λ held. segments_after (held_text held)) c.in-Long.is) ∙ c.self.view_is)
    (pushed_segments c.push_str.result (string_bytes c.in-Long.path) (string_bytes c.push.new.self)
    c.args.text.now (string_bytes c.push_str.new.self)
    (c.in_ok-push.ensures.bytes
    ∙ ap (λ mark. string_bytes c.in-Long.path ++ mark) (c.in_ok-push.ensures.ascii (lit< tt)))
    c.push_str.ensures.bytes)

pub invariant_of-self-2 : goal.invariant_of-self-2
invariant_of-self-2 c =
    pushed_path (is_ok c.push_str-3.result) (held_text c.self.inside.held) (held_text c.push_str-2.new.self)
    c.args.text.now (held_text c.push_str-3.new.self) c.self.invariant c.requires c.in_ok-push_str.ensures
    c.push_str-3.ensures

pub returns : goal.returns
returns c =
    subst (λ (old : List (List ℕ)). OnOk c.push_str-3.result
    (segments_after (held_text c.push_str-3.new.self) ≡ old ++ pieces c.args.text.now)) c.self.view_is
    (pushed_segments c.push_str-3.result (held_text c.self.inside.held) (held_text c.push_str-2.new.self)
    c.args.text.now (held_text c.push_str-3.new.self) c.in_ok-push_str.ensures c.push_str-3.ensures)
