-- The files so far.
use Rattle.std.proofs.Common.{map, take, string_bytes}
use Rattle.uv_filter.specs.Fates.{mender_of}
use Rattle.uv_cli.specs.InPlace.{MendsAll, MendsFile, no_file}
use Rattle.uv_cli.proofs.in_place.mend_each.Given as goal

abbrev pub invariant-loop-file : goal.invariant-loop-file
invariant-loop-file g l =
    MendsAll (MendsFile (g.S.Store.opens l.store) (g.S.Store.replaces l.store) (g.S.Store.leaves l.store)
    (mender_of l.setting)) (map string_bytes (take l.file-index l.files)) (no_file l.is_quiet) l.filtered
