-- The host of an authority of any class but File.
use Rattle.uv_grammar.specs.Slices.{chars_of, chars_of_option}
use Rattle.std.specs.Str.{chars}
use Rattle.uv_grammar.proofs.AuthorityLemmas.{splits_before_port}
use Rattle.uv_grammar.proofs.cut.split_host.Goals as goal

pub returns-in-SpecialNotFile : goal.returns-in-SpecialNotFile
returns-in-SpecialNotFile c =
    splits_before_port c.args.class (chars c.args.authority.now) (chars_of c.split_port.result.0)
    (chars_of_option c.split_port.result.1)
    c.in-SpecialNotFile.is c.split_port.ensures.host c.split_port.ensures.port
