-- The default ports of the two names.
use Rattle.std.proofs.Common.{◌∙◌, sym}
use Rattle.uv_grammar.proofs.SettingLemmas.{no_port_of_file, port_of_http, port_of_https}
use Rattle.uv_grammar.proofs.setting.port_of.Goals as goal

pub returns-then-eq : goal.returns-then-eq
returns-then-eq c = port_of_https c.args.scheme.now (sym c.eq.ensures ∙ c.if-eq.true)

pub returns-then-eq-2 : goal.returns-then-eq-2
returns-then-eq-2 c = port_of_http c.args.scheme.now (sym c.eq-2.ensures ∙ c.if-eq-2.true)

pub returns-then-eq-3 : goal.returns-then-eq-3
returns-then-eq-3 c = no_port_of_file c.args.scheme.now (sym c.eq-3.ensures ∙ c.if-eq-3.true)
