-- A segment that no part encodes has its bytes as code points, and no `/` comes from encoding another.
use Rattle.std.proofs.Common.{◌≡◌, ◌++◌, ◌∷◌, [], true, false, sym, ◌∙◌, subst, List, ℕ}
use Rattle.std.specs.Prelude.{OnOk}
use Rattle.std.specs.Str.{chars}
use Rattle.std.proofs.lemmas.Str.{chars-IsAscii}
use Rattle.uv_model.specs.Ascii.{slash}
use Rattle.uv_model.specs.Path.{is_without}
use Rattle.uv_model.proofs.Records.WellFormedLemmas.{no_slash-encoded}
use Rattle.uv_resolve.proofs.KeptTextLemmas.{never_encoded-encoded}
use Rattle.uv_resolve.proofs.KeptTextLemmas.{never_encoded-IsAscii}
use Rattle.uv_resolve.proofs.walker.push_encoded_segment.Goals as goal

pub push-requires-clause-one : goal.push-requires-clause-one
push-requires-clause-one c =
    subst (λ (text : List ℕ). is_without slash text ≡ true)
    (chars-IsAscii c.args.segment.now
    (never_encoded-IsAscii c.args.segment.now (c.is_never_encoded.ensures c.if-is_never_encoded.true)))
    c.requires

pub returns-then-is_never_encoded : goal.returns-then-is_never_encoded
returns-then-is_never_encoded c =
    subst (λ (text : List ℕ). OnOk c.push.result (c.push.new.self ≡ c.args.path.now ++ (text ∷ [])))
    (never_encoded-encoded false c.args.segment.now (c.is_never_encoded.ensures c.if-is_never_encoded.true))
    c.push.ensures

pub push-requires-2-clause-one : goal.push-requires-2-clause-one
push-requires-2-clause-one c =
    subst (λ (text : List ℕ). is_without slash text ≡ true)
    (sym c.in_ok-encoded_part.ensures.text ∙ sym c.as_str.ensures.value)
    (no_slash-encoded false (chars c.args.segment.now) c.requires)
