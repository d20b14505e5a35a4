-- The class by the default port, and without one by the name.
use Rattle.std.proofs.Common.{◌∙◌, sym}
use Rattle.std.specs.Str.{chars}
use Rattle.uv_grammar.proofs.SettingLemmas.{class_of_file, class_with_port, class_without_port, file_in_lowercase}
use Rattle.uv_grammar.proofs.setting.class_beside.Goals as goal

pub returns-in-Some : goal.returns-in-Some
returns-in-Some c = class_with_port (chars c.args.scheme.now) c.in-Some.field-0 (sym c.in-Some.is ∙ c.requires)

pub returns-then-eq : goal.returns-then-eq
returns-then-eq c =
    class_of_file (chars c.args.scheme.now) (file_in_lowercase c.args.scheme.now (sym c.eq.ensures ∙ c.if-eq.true))

pub returns-then-is_name : goal.returns-then-is_name
returns-then-is_name c = class_of_file (chars c.args.scheme.now) (sym c.is_name.ensures ∙ c.if-is_name.true)

pub returns-else-is_name : goal.returns-else-is_name
returns-else-is_name c =
    class_without_port (chars c.args.scheme.now) (sym c.is_name.ensures ∙ c.if-is_name.false)
    (sym c.in-None.is ∙ c.requires)
