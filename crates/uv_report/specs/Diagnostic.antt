-- A diagnostic as data: where something is wrong in a file, by which rule, the message, and what to write there.
use Rattle.std.specs.Prelude.{ℕ, Bool, List, Option, Some, None, if◌then◌else◌, option_map}
use Rattle.uv_model.specs.declared.mend_kind.MendKind.{MendKind}
use Rattle.uv_report.specs.declared.diagnostic.Diagnostic.{Diagnostic}
use Rattle.uv_report.specs.declared.diagnostic.Fix.{Fix}
use Rattle.uv_report.specs.declared.diagnostic.Region.{Region}
use Rattle.uv_shown.specs.Places.Window.{carried}

-- what to write in place of a text: where that is, if a program may write there, how it is to that, whether it is
-- offered, and whether the message says what to write instead
pub record FixView : Type 0 where
  pub region : Option Region
  pub text : List ℕ
  pub kind : MendKind
  pub is_offered : Bool
  pub is_named : Bool

-- what is wrong somewhere in a file: where, by which rule, which is listed so and told of there, the message, the text,
-- whether that is shown, the place in it and the one that the message names, how many are the same before it, and what to
-- write in place of the text
pub record DiagnosticView : Type 0 where
  pub file : List ℕ
  pub region : Region
  pub rule : List ℕ
  pub index : Option ℕ
  pub uri : List ℕ
  pub message : List ℕ
  pub text : List ℕ
  pub is_shown : Bool
  pub place : ℕ
  pub named : ℕ
  pub repeat : ℕ
  pub fix : Option FixView

-- ---- as the code has them

abbrev pub fix_view : Fix → FixView
fix_view fix = record {
  region = fix.region;
  text = fix.text.now;
  kind = fix.kind;
  is_offered = fix.is_offered;
  is_named = fix.is_named;
}

abbrev pub diagnostic_view : Diagnostic → DiagnosticView
diagnostic_view diagnostic = record {
  file = diagnostic.file.now;
  region = diagnostic.region;
  rule = diagnostic.rule.now;
  index = diagnostic.index;
  uri = diagnostic.uri.now;
  message = diagnostic.message.now;
  text = diagnostic.text.now;
  is_shown = diagnostic.is_shown;
  place = diagnostic.place;
  named = diagnostic.named;
  repeat = diagnostic.repeat;
  fix = option_map fix_view diagnostic.fix;
}

abbrev pub edit_view : Region × Fix → Region × FixView
edit_view edit = (edit.0, fix_view edit.1)

-- ---- what is made of them

-- what a report carries of the text
abbrev pub carried_text : DiagnosticView → List ℕ
carried_text diagnostic = carried diagnostic.text diagnostic.place

-- what to write, and where, if a program may write there
abbrev pub edit_at : FixView → Option (Region × FixView)
edit_at fix = option_map (λ region. (region, fix)) fix.region

-- what to write, and where, if that is offered and a program may write there
abbrev pub edit_of : Option FixView → Option (Region × FixView)
edit_of None = None
edit_of (Some fix) = if fix.is_offered then edit_at fix else None
