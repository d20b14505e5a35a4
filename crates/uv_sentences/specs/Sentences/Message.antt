-- The message on a line: no clause says its words, nor which place they name, which are for people.
use Rattle.std.specs.Prelude.{◌≡◌, ℕ, List, string_bytes}
use Rattle.uv_sentences.specs.declared.sentences.message.PlacedMessage.{PlacedMessage}
use Rattle.uv_shown.specs.Escaping.Escapes.{shown_text}

-- a message: what a terminal may be shown of some text, so it is one line
abbrev pub IsMessage : List ℕ → Type 0
IsMessage message = (text : List ℕ) × (message ≡ shown_text text)

-- a message, and the place of the code point that it names
pub record PlacedText : Type 0 where
  pub text : List ℕ
  pub place : ℕ

-- as the code has it
abbrev pub message_view : PlacedMessage → PlacedText
message_view message = record { text = string_bytes message.text; place = message.place }
