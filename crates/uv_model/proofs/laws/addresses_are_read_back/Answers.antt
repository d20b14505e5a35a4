-- The texts of addresses are read back.
use Rattle.uv_model.proofs.laws.addresses_are_read_back.Goals as goal
use Rattle.uv_model.proofs.Addresses.AddressesReadBack.{addresses_read_back}

pub returns : goal.returns
returns c = addresses_read_back
