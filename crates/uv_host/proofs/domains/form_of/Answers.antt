-- Under the parser's profile the form is the parser's.
use Rattle.uv_host.proofs.domains.form_of.Goals as goal

pub returns-in-None : goal.returns-in-None
returns-in-None c = rw c.in-Parser.is (rw c.in-None.is at c.in_ok-form-in-Parser.ensures)
