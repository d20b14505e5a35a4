-- Slashes are ASCII.
use Rattle.std.proofs.Common.{refl}
use Rattle.std.specs.Str.{chars}
use Rattle.uv_mend.proofs.slashes.new_slashes.Goals as goal

pub returns-in-SpecialNotFile : goal.returns-in-SpecialNotFile
unfolding chars
returns-in-SpecialNotFile c = rw c.in-SpecialNotFile.is refl

pub returns-in-File : goal.returns-in-File
unfolding chars
returns-in-File c = rw c.in-File.is refl

pub returns-in-Other : goal.returns-in-Other
unfolding chars
returns-in-Other c = rw c.in-Other.is refl
