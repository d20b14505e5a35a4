-- With each number fewer may follow.
use Rattle.uv_host.proofs.numbers.+weighed_value.Given as goal

abbrev pub decreases-weighed_value : goal.decreases-weighed_value
decreases-weighed_value l = l.more
