-- One to four numbers are at most three and one more.
use Rattle.uv_host.proofs.NumberTextLemmas.{whole_answer}
use Rattle.uv_host.proofs.numbers.numbers_value.Goals as goal

pub returns : goal.returns
returns c = whole_answer c.args.text.now c.weighed_value.result c.utf8.text c.weighed_value.ensures
