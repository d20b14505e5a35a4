-- Only ASCII texts are drive letters.
use Rattle.std.proofs.Common.{◌≡◌, ℕ, List, [], ◌∷◌, true, sym, ap, ◌∙◌, arith}
use Rattle.std.specs.Str.{IsAscii}
use Rattle.std.proofs.lemmas.Bool.Decides.{nat_tests}
use Rattle.uv_model.specs.Path.{is_drive_letter}
use Rattle.uv_model.proofs.Texts.AsciiLemmas.{IsAscii-from_test}
use Rattle.uv_grammar.proofs.TestLemmas.{ascii_test}
use Rattle.uv_resolve.proofs.paths.is_drive.Goals as goal

drive_is_ascii : (text : List ℕ) → is_drive_letter text ≡ true → IsAscii text
drive_is_ascii [] passed = absurd cc
drive_is_ascii (c ∷ []) passed = absurd cc
drive_is_ascii (c ∷ mark ∷ []) passed = IsAscii-from_test (c ∷ mark ∷ []) (grind (arith, nat_tests))
drive_is_ascii (c ∷ mark ∷ d ∷ rest) passed = absurd cc

pub returns : goal.returns
returns c =
    c.is_drive_letter.ensures ∙ ap is_drive_letter c.as_bytes.ensures.value
    ∙ sym (ascii_test is_drive_letter drive_is_ascii c.args.segment.now c.utf8.segment)
