-- Each byte up to the end of the run is in the rows, and the last label begins with a letter.
use Rattle.std.proofs.Common.{◌≡◌, ◌∙◌, ◌+◌, ◌++◌, ◌≤◌, All, ap, arith, get_or, length, subst, sym, take, take-append-drop}
use Rattle.std.specs.Prelude.{codes}
use Rattle.std.specs.Char.{is_ascii_lowercase}
use Rattle.std.specs.List.{prefix_len}
use Rattle.std.proofs.lemmas.List.Sums.{prefix_len-le-length}
use Rattle.url.proofs.InputLemmas.{Passes}
use Rattle.uv_text.specs.Rows.{is_in_rows}
use Rattle.uv_compare.specs.declared.plain_links.TheConstants.{NAME_ROWS}
use Rattle.uv_compare.specs.PlainLinks.{is_name_byte}
use Rattle.uv_compare.proofs.NameLemmas.{is_name, run_named}
use Rattle.uv_compare.proofs.plain_links.after_name.Goals as goal

pub split_at-requires : goal.split_at-requires
split_at-requires c =
    let named = c.as_bytes-named.result.now in
    let run = prefix_len (is_in_rows NAME_ROWS) named in
    let plain : 0 + run ≡ run = omega arith in
    subst (λ n. n ≤ length named) (sym (c.row_end.ensures ∙ plain)) (prefix_len-le-length (is_in_rows NAME_ROWS) named)

pub returns-then-begins_with_letter : goal.returns-then-begins_with_letter
returns-then-begins_with_letter c =
    let named = c.as_bytes-named.result.now in
    let name = c.split_at.result.0.now in
    let rest = c.split_at.result.1.now in
    let run = prefix_len (is_in_rows NAME_ROWS) named in
    let plain : 0 + run ≡ run = omega arith in
    let follows = c.in_ok-after_scheme.ensures in
    let split : named ≡ name ++ rest =
    sym (take-append-drop c.row_end.result named)
    ∙ (λ i. sym c.split_at.ensures.front i ++ sym c.split_at.ensures.back i) in
    record {
      scheme = follows.scheme;
      name = name;
      web = follows.web;
      named = is_name name
          (subst (All (Passes is_name_byte)) (sym (c.split_at.ensures.front ∙ ap (λ n. take n named) (c.row_end.ensures ∙ plain)))
          (run_named named))
          (ap (λ label. is_ascii_lowercase (get_or label 0 0)) (sym c.last_label.ensures)
          ∙ sym c.begins_with_letter.ensures ∙ c.if-begins_with_letter.true);
      joined = follows.joined ∙ ap (λ l. follows.scheme ++ (codes "://" ++ l)) (sym c.as_bytes-named.ensures.value ∙ split);
    }
