-- The forms of valid URL strings as data of the definitions, after the URL Standard, section 4.3.
use Rattle.uv_grammar.specs.declared.form.Form.{Form}
use Rattle.uv_grammar.specs.declared.form.Form.TheVariants as form
use Rattle.uv_model.specs.Parts as parts

-- the form of the definitions that this form stands for
abbrev pub seen_form : Form → parts.Form
seen_form form.SchemeAuthority = parts.SchemeAuthority
seen_form form.SchemePath = parts.SchemePath
seen_form form.SchemeOpaque = parts.SchemeOpaque
seen_form form.Authority = parts.Authority
seen_form form.PathAbsolute = parts.PathAbsolute
seen_form form.PathRelative = parts.PathRelative
seen_form form.NoPath = parts.NoPath
