-- The special schemes in the bytes.
use Rattle.std.proofs.Common.{drop, refl}
use Rattle.std.specs.Prelude.{codes}
use Rattle.uv_grammar.proofs.PlainPrefixLemmas.{ftp_special, http_special, https_special, special_prefix, ws_special}
use Rattle.uv_grammar.proofs.PlainPrefixLemmas.{wss_special}
use Rattle.uv_grammar.proofs.links.prefixes.special_end.Goals as goal

pub returns-then-has_prefix : goal.returns-then-has_prefix
returns-then-has_prefix c =
    special_prefix c.args.bytes.now (codes "https") (drop 8 c.args.bytes.now)
    (c.has_prefix.ensures c.if-has_prefix.true) refl https_special

pub returns-then-has_prefix-2 : goal.returns-then-has_prefix-2
returns-then-has_prefix-2 c =
    special_prefix c.args.bytes.now (codes "http") (drop 7 c.args.bytes.now)
    (c.has_prefix-else-has_prefix.ensures c.if-has_prefix-2.true) refl http_special

pub returns-then-has_prefix-3 : goal.returns-then-has_prefix-3
returns-then-has_prefix-3 c =
    special_prefix c.args.bytes.now (codes "ftp") (drop 6 c.args.bytes.now)
    (c.has_prefix-else-has_prefix-2.ensures c.if-has_prefix-3.true) refl ftp_special

pub returns-then-has_prefix-4 : goal.returns-then-has_prefix-4
returns-then-has_prefix-4 c =
    special_prefix c.args.bytes.now (codes "wss") (drop 6 c.args.bytes.now)
    (c.has_prefix-else-has_prefix-3.ensures c.if-has_prefix-4.true) refl wss_special

pub returns-then-has_prefix-5 : goal.returns-then-has_prefix-5
returns-then-has_prefix-5 c =
    special_prefix c.args.bytes.now (codes "ws") (drop 5 c.args.bytes.now)
    (c.has_prefix-else-has_prefix-4.ensures c.if-has_prefix-5.true) refl ws_special
