-- The path by the form that is seen.
use Rattle.std.proofs.Common.{sym, ap, ◌∙◌}
use Rattle.std.proofs.lemmas.Option.{IfSome_then}
use Rattle.uv_grammar.specs.Form.{seen_form}
use Rattle.uv_resolve.proofs.WholePathLemmas.{by_authority, by_scheme_authority, by_scheme_path, by_slash}
use Rattle.uv_resolve.proofs.WholePathLemmas.{no_drive_other, no_drive_special}
use Rattle.uv_resolve.proofs.paths.whole_path.Goals as goal

pub returns-in-SchemeAuthority : goal.returns-in-SchemeAuthority
returns-in-SchemeAuthority c =
    IfSome_then c.rooted.result c.rooted.ensures
    (λ text is. by_scheme_authority c.args.class c.args.parts.now c.path_text-text.result.now text.now
    (sym c.form.ensures ∙ ap seen_form c.in-SchemeAuthority.is) c.segments-segments.ensures.text
    c.path_text-text.ensures is)

pub returns-in-Authority : goal.returns-in-Authority
returns-in-Authority c =
    IfSome_then c.rooted-in-Authority.result c.rooted-in-Authority.ensures
    (λ text is. by_authority c.args.class c.args.parts.now c.path_text-text.result.now text.now
    (sym c.form.ensures ∙ ap seen_form c.in-Authority.is) c.segments-segments.ensures.text
    c.path_text-text.ensures is)

pub returns-in-SchemePath : goal.returns-in-SchemePath
returns-in-SchemePath c =
    IfSome_then c.slashed.result c.slashed.ensures
    (λ text is. by_scheme_path c.args.class c.args.parts.now c.path_text-text.result.now text.now
    (sym c.form.ensures ∙ ap seen_form c.in-SchemePath.is) c.segments-segments.ensures.text
    c.path_text-text.ensures is)

pub returns-in-SpecialNotFile : goal.returns-in-SpecialNotFile
returns-in-SpecialNotFile c =
    IfSome_then c.slashed-in-SpecialNotFile.result c.slashed-in-SpecialNotFile.ensures
    (λ text is. by_slash c.args.class c.args.parts.now c.path_text-text.result.now text.now
    (sym c.form.ensures ∙ ap seen_form c.in-PathAbsolute.is)
    (no_drive_special c.args.class c.in-SpecialNotFile.is) c.segments-segments.ensures.text
    c.path_text-text.ensures is)

pub returns-in-Other : goal.returns-in-Other
returns-in-Other c =
    IfSome_then c.slashed-in-Other.result c.slashed-in-Other.ensures
    (λ text is. by_slash c.args.class c.args.parts.now c.path_text-text.result.now text.now
    (sym c.form.ensures ∙ ap seen_form c.in-PathAbsolute.is)
    (no_drive_other c.args.class c.in-Other.is) c.segments-segments.ensures.text
    c.path_text-text.ensures is)
