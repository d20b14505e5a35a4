-- The rows hold the class.
use Rattle.uv_text.proofs.ClassLemmas.{opaque_host_rows, path_rows, url_rows}
use Rattle.uv_text.proofs.units.UnitClass.rows.Goals as goal

pub returns-in-Url : goal.returns-in-Url
returns-in-Url c = rw c.in-Url.is url_rows

pub returns-in-Path : goal.returns-in-Path
returns-in-Path c = rw c.in-Path.is path_rows

pub returns-in-OpaqueHost : goal.returns-in-OpaqueHost
returns-in-OpaqueHost c = rw c.in-OpaqueHost.is opaque_host_rows
