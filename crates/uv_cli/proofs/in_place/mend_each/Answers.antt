-- A file more.
use Rattle.std.proofs.Common.{arith, string_bytes}
use Rattle.uv_filter.specs.Fates.{mender_of}
use Rattle.uv_cli.specs.InPlace.{MendsFile}
use Rattle.uv_cli.proofs.InPlaceLemmas.{mends_more}
use Rattle.uv_cli.proofs.LintLemmas.{files_all, files_more}
use Rattle.uv_cli.proofs.in_place.mend_each.Goals as goal

pub loop-file-preserved : goal.loop-file-preserved
loop-file-preserved g c =
    rw (files_more c.args.files.now c.loop-file.file-index c.file-item.result c.loop-file-test.true c.file-item.is)
    (mends_more (MendsFile (g.S.Store.opens c.args.store.now) (g.S.Store.replaces c.args.store.now)
    (g.S.Store.leaves c.args.store.now) (mender_of c.args.setting)) _ _ _ _ _ c.loop-file.invariant
    (rw (← c.as_str.ensures.value) c.mend_next-filtered.ensures))

pub returns : goal.returns
returns g c =
    let end = c.loop-file-test.false in
    rw (← files_all c.args.files.now c.loop-file.file-index (omega (arith, end))) c.loop-file.invariant
