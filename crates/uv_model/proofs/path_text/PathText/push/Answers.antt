-- A segment without `/` is one piece.
use Rattle.std.proofs.Common.{◌≡◌, ◌++◌, List, ℕ, subst}
use Rattle.std.specs.Prelude.{OnOk}
use Rattle.uv_model.proofs.Paths.PathTexts.{pieces-one}
use Rattle.uv_model.proofs.path_text.PathText.push.Goals as goal

pub returns : goal.returns
returns c =
    subst (λ (more : List (List ℕ)). OnOk c.push_pieces.result (c.push_pieces.new.self ≡ c.args.self.now ++ more))
    (pieces-one c.args.segment.now c.requires.one) c.push_pieces.ensures
