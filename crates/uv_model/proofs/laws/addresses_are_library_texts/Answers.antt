-- The tie of the texts of addresses to the standard library's grammar.
use Rattle.uv_model.proofs.laws.addresses_are_library_texts.Goals as goal
use Rattle.uv_model.proofs.Addresses.AddressLemmas.{library_texts}

pub returns : goal.returns
returns c = library_texts
