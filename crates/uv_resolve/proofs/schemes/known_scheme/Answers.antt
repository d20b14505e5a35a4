-- Each of the names, where the bytes are its.
use Rattle.std.proofs.Common.{◌∙◌, sym}
use Rattle.uv_resolve.proofs.SchemeNameLemmas.{file_known, http_known, https_known}
use Rattle.uv_resolve.proofs.schemes.known_scheme.Goals as goal

pub returns-then-eq : goal.returns-then-eq
returns-then-eq c = https_known c.args.scheme.now (sym c.eq.ensures ∙ c.if-eq.true)

pub returns-then-eq-2 : goal.returns-then-eq-2
returns-then-eq-2 c = http_known c.args.scheme.now (sym c.eq-2.ensures ∙ c.if-eq-2.true)

pub returns-then-eq-3 : goal.returns-then-eq-3
returns-then-eq-3 c = file_known c.args.scheme.now (sym c.eq-3.ensures ∙ c.if-eq-3.true)
