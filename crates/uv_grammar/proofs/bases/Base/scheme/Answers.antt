-- The scheme is ASCII, so that its bytes are its code points.
use Rattle.std.proofs.Common.{◌≡◌, refl, ap, ◌∙◌}
use Rattle.std.proofs.lemmas.Str.{chars-IsAscii}
use Rattle.std.specs.Str.{chars}
use Rattle.uv_model.proofs.Texts.AsciiLemmas.{IsAscii-from_test}
use Rattle.uv_grammar.specs.declared.bases.BaseScheme.{BaseScheme}
use Rattle.uv_grammar.specs.declared.bases.BaseScheme.TheVariants.{Ftp, Http, Https, File, Other}
use Rattle.uv_grammar.specs.Bases.{scheme_name}
use Rattle.uv_grammar.proofs.bases.Base.scheme.Goals as goal

name_chars : (scheme : BaseScheme) → chars (scheme_name scheme) ≡ scheme_name scheme
name_chars Ftp = chars-IsAscii (scheme_name Ftp) (IsAscii-from_test (scheme_name Ftp) refl)
name_chars Http = chars-IsAscii (scheme_name Http) (IsAscii-from_test (scheme_name Http) refl)
name_chars Https = chars-IsAscii (scheme_name Https) (IsAscii-from_test (scheme_name Https) refl)
name_chars File = chars-IsAscii (scheme_name File) (IsAscii-from_test (scheme_name File) refl)
name_chars Other = chars-IsAscii (scheme_name Other) (IsAscii-from_test (scheme_name Other) refl)

pub returns-in-Whole : goal.returns-in-Whole
returns-in-Whole c =
    rw c.in-Whole.is (rw c.scheme.ensures.text (chars-IsAscii c.in-Whole.base.now.scheme c.scheme.ensures.ascii))

pub returns-in-Kind : goal.returns-in-Kind
returns-in-Kind c = rw c.in-Kind.is (ap chars c.name.ensures ∙ name_chars c.in-Kind.kind.scheme)
