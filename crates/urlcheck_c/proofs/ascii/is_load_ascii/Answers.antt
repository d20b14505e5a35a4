-- No bit is set where all bytes are ASCII.
use Rattle.std.proofs.Common.{arith, eqb-true, eq-eqb}
use Rattle.urlcheck_c.proofs.AsciiLemmas.{bits_of_load}
use Rattle.urlcheck_c.proofs.ascii.is_load_ascii.Goals as goal

pub returns : goal.returns
returns c =
    let bits = bits_of_load 32 c.args.load c.fits-load.0 (omega arith) in
    (λ none. bits.0 (eqb-true _ _ none), λ ascii. eq-eqb _ _ (bits.1 ascii))
