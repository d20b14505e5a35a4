-- A path that is the encoding of a text needs no `/.`.
use Rattle.std.proofs.Common.{◌∙◌, ◌++◌, List, ℕ, ap, arith, chars, length, option_copied, string_bytes}
use Rattle.uv_resolve.proofs.WriterLemmas.{whole-unmarked, whole-written}
use Rattle.uv_resolve.proofs.writer.push_path.Goals as goal

pub returns-in_ok-push_encoded_part-in-Some : goal.returns-in_ok-push_encoded_part-in-Some
returns-in_ok-push_encoded_part-in-Some c =
    let base = option_copied c.args.base in
    let text = chars c.in-Some.path.now in
    let unmarked = whole-unmarked c.args.has_host base c.args.class c.args.parts.now text c.in-Some.ensures in
    let written = whole-written c.args.has_host base c.args.class c.args.parts.now text c.in-Some.ensures in
    record {
      starts = omega (arith, ap length c.as_str-start.ensures.value, ap length unmarked);
      written =
          c.in_ok-push_encoded_part-in-Some.ensures ∙ ap (λ (t : List ℕ). string_bytes c.args.out.now ++ t) written;
    }
