-- Texts of ASCII digits are the numerals that std reads as decimal numbers.
use Rattle.std.proofs.Common.{◌≡◌, true, rules}
use Rattle.std.specs.Char.{is_ascii_digit}
use Rattle.std.specs.List.{list_all}
use Rattle.std.specs.Str.Parse.{digits_value}
use Rattle.std.proofs.lemmas.Str.Parse.{IsDigitsTest, IsNumeralModel, numerals_by_value}

digits_test : IsDigitsTest (λ ds. list_all is_ascii_digit ds ≡ true)
digits_test = search rules

-- a text of digits is a numeral, and has the value of its digits
pub decimal_numerals : IsNumeralModel (λ ds. list_all is_ascii_digit ds ≡ true) (digits_value 10)
decimal_numerals = numerals_by_value (λ ds. list_all is_ascii_digit ds ≡ true) digits_test
