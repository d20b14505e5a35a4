-- A path that doesn't begin with `/` is cut at each of its slashes.
use Rattle.std.proofs.Common.{◌≡◌, ◌++◌, ◌∙◌, List, ℕ, None, lit<, subst, sym}
use Rattle.std.specs.Prelude.{OnOk}
use Rattle.std.proofs.lemmas.Str.Pattern.{strip_prefix_char}
use Rattle.uv_model.specs.Ascii.{slash}
use Rattle.uv_model.proofs.Paths.PathTexts.{unslashed_segments}
use Rattle.uv_model.proofs.path_text.PathText.push_path.Goals as goal

pub returns-in-None : goal.returns-in-None
returns-in-None c =
    subst (λ (more : List (List ℕ)). OnOk c.push_pieces-in-None.result
    (c.push_pieces-in-None.new.self ≡ c.args.self.now ++ more))
    (unslashed_segments c.args.path.now (sym c.is_empty.ensures ∙ c.if-is_empty.false)
    (strip_prefix_char slash c.args.path.now None c.in-None.ensures.cases (lit< tt)))
    c.push_pieces-in-None.ensures
