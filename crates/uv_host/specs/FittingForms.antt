-- The forms that ToASCII gives, where they have the lengths of a domain (URL Standard, sections 3.3 and 3.5; UTS #46,
-- section 4), and names in Unicode that are too long for one.
use Rattle.std.specs.Prelude.{ℕ, Bool, ◌||◌, nat_lt, List, length, encode_utf8_all, Option, option_and_then}
use Rattle.std.specs.List.{list_any}
use Rattle.idna.specs.declared.deny_list.AsciiDenyList.{AsciiDenyList}
use Rattle.idna.specs.declared.options.DnsLength.TheVariants.{Ignore}
use Rattle.idna.specs.declared.options.Hyphens.{Hyphens}
use Rattle.idna.specs.Labels.{labels_of}
use Rattle.idna.specs.Uts46.{if_passes, to_ascii}
use Rattle.uv_model.specs.Hosts.Domain.{has_lengths}

-- the form that ToASCII gives of a text with these settings, if it has the lengths of a domain
abbrev pub fitting_form : AsciiDenyList → Hyphens → List ℕ → Option (List ℕ)
fitting_form deny hyphens text =
    option_and_then (if_passes has_lengths) (to_ascii deny hyphens Ignore (encode_utf8_all text))

-- the label has more than 63 code points
abbrev pub is_long_label : List ℕ → Bool
is_long_label label = nat_lt 63 (length label)

-- a label of the name has
abbrev pub has_long_label : List ℕ → Bool
has_long_label name = list_any is_long_label (labels_of name)

-- the name is too long for a form in Unicode: it has a label that is, or more than 253 code points and a full stop at
-- its end
abbrev pub is_long_name : List ℕ → Bool
is_long_name name = nat_lt 254 (length name) || has_long_label name
