-- The parts of a plain link are the parts of its cut.
use Rattle.std.proofs.Common.{None, refl}
use Rattle.std.specs.Str.{chars}
use Rattle.uv_model.specs.declared.profile.Profile.TheVariants.{Wide}
use Rattle.uv_model.proofs.Hosts.DomainLemmas.{IsAscii-form}
use Rattle.uv_grammar.specs.Slices.{chars_of, chars_of_option}
use Rattle.uv_grammar.proofs.PlainLinkLemmas.{link_accepted, link_is_cut}
use Rattle.uv_grammar.proofs.links.plain.plain_parts.Goals as goal

pub of-requires : goal.of-requires
of-requires c =
    let name = c.args.start.now.name in
    IsAscii-form Wide (chars_of name) name.now (c.requires.begins.named.domain Wide).0

pub build-requires : goal.build-requires
build-requires c =
    let start = c.args.start.now in
    let rest = c.args.rest.now in (
      None,
      link_is_cut None (chars c.args.text.now) (chars_of start.scheme) (chars_of start.name) start.name.now
          (chars_of_option start.port_text) start.port (chars start.rest) (chars_of rest.path_text)
          (chars_of_option rest.query) (chars_of_option rest.fragment) refl c.requires.begins c.requires.goes_on,
    )

pub returns : goal.returns
returns c = λ profile base.
    let start = c.args.start.now in
    let rest = c.args.rest.now in
    rw (c.build.ensures, c.of.ensures)
    (link_accepted profile base (chars c.args.text.now) (chars_of start.scheme) (chars_of start.name) start.name.now
    (chars_of_option start.port_text) start.port (chars start.rest) (chars_of rest.path_text)
    (chars_of_option rest.query) (chars_of_option rest.fragment) refl c.requires.begins c.requires.goes_on)
