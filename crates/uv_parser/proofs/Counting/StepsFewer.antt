-- Each row of the parser machine leaves fewer steps to come than the state had before it (specs/Machine has the rows).
use Rattle.std.proofs.Common.{◌≡◌, ℕ, ◌+◌, ◌*◌, ◌-◌, ◌<◌, ◌≤◌, Bool, true, false, ◌&&◌, ◌==◌, List, [], ◌∷◌, length}
use Rattle.std.proofs.Common.{drop, Option, Some, None, if◌then◌else◌, refl, inl, inr, arith}
use Rattle.std.specs.Char.{is_ascii_alphabetic, to_ascii_lowercase}
use Rattle.std.proofs.lemmas.Bool.{cases_Bool}
use Rattle.std.proofs.lemmas.List.{length-drop}
use Rattle.uv_model.specs.declared.scheme.Class.{Class}
use Rattle.uv_model.specs.declared.scheme.Class.TheVariants.{SpecialNotFile, File, Other}
use Rattle.uv_model.specs.Ascii.{space, slash, colon, question_mark, number_sign}
use Rattle.uv_parser.specs.Machine.{State, SchemeStartState, SchemeState, NoSchemeState}
use Rattle.uv_parser.specs.Machine.{SpecialRelativeOrAuthorityState, PathOrAuthorityState, RelativeState}
use Rattle.uv_parser.specs.Machine.{RelativeSlashState, SpecialAuthoritySlashesState}
use Rattle.uv_parser.specs.Machine.{SpecialAuthorityIgnoreSlashesState, AuthorityState, HostState, PortState, FileState}
use Rattle.uv_parser.specs.Machine.{FileSlashState, FileHostState, PathStartState, PathState, OpaquePathState}
use Rattle.uv_parser.specs.Machine.{QueryState, FragmentState, Variables, is_file, is_special, onward, again}
use Rattle.uv_parser.specs.Machine.{from_place, stop, turn, AtPointer, end, file_base, fragment_row, ignore_slashes_row}
use Rattle.uv_parser.specs.Machine.{path_or_authority_row, two_slashes_row, slash_mark, query_mark, fragment_mark}
use Rattle.uv_parser.specs.Machine.{another, at_pointer, begins, begins_two_slashes, after_scheme, authority_at}
use Rattle.uv_parser.specs.Machine.{emptied, file_at, file_host_at, file_slash_row, host_ended, host_at, no_scheme_row}
use Rattle.uv_parser.specs.Machine.{after_first, opaque_space, with_opaque, with_opaque_text}
use Rattle.uv_parser.specs.Machine.{opaque_path_at, path_at, path_start_at, port_at, put, query_at, relative_at}
use Rattle.uv_parser.specs.Machine.{relative_row, relative_slash_row, scheme_row, scheme_start_row, with_scheme}
use Rattle.uv_model.specs.Scheme.{is_scheme_code_point, scheme_class}
use Rattle.uv_model.specs.Units.{is_unit_at}
use Rattle.uv_model.specs.Records.Url.{Url}
use Rattle.uv_parser.proofs.Counting.StepCosts.{Fewer, either, goes, later, later_at_start, later_without_scheme, moves}
use Rattle.uv_parser.proofs.Counting.StepCosts.{parsed, put_length, rest_length, slash_is_some, stays, stops}
use Rattle.uv_parser.proofs.Counting.StepCosts.{two_slashes_are_two, zero_not_suc}

-- ---- the loops over a path, a query and a fragment

module _ (text : List ℕ) where
  -- the path state
  path_fewer : (v : Variables) (rest : List ℕ) (s : AtPointer) → Fewer text rest (length rest) (path_at v rest s)
  path_fewer v rest slash_mark = moves text rest _ _ (λ others e. omega (arith, e))
  path_fewer v rest query_mark = moves text rest _ _ (λ others e. omega (arith, e))
  path_fewer v rest fragment_mark = moves text rest _ _ (λ others e. omega (arith, e))
  path_fewer v rest end = moves text rest _ _ (λ others e. omega (arith, e))
  path_fewer v rest (another c) = either text _ (moves text rest _ _ (λ others e. omega (arith, e))) (stops text)

  -- the opaque path state
  opaque_path_fewer : (v : Variables) (rest : List ℕ) (s : AtPointer)
      → Fewer text rest (length rest) (opaque_path_at v rest s)
  opaque_path_fewer v rest slash_mark = moves text rest _ _ (λ others e. omega (arith, e))
  opaque_path_fewer v rest query_mark = moves text rest _ _ (λ others e. omega (arith, e))
  opaque_path_fewer v rest fragment_mark = moves text rest _ _ (λ others e. omega (arith, e))
  opaque_path_fewer v rest end = moves text rest _ _ (λ others e. omega (arith, e))
  opaque_path_fewer v rest (another c) =
      either text (c == space)
      (moves text rest OpaquePathState (with_opaque_text (opaque_space (after_first rest)) v)
      (λ others e. omega (arith, e)))
      (either text (is_unit_at c (after_first rest))
      (moves text rest OpaquePathState (with_opaque c v) (λ others e. omega (arith, e))) (stops text))

  -- the query state
  query_fewer : (v : Variables) (rest : List ℕ) (s : AtPointer) → Fewer text rest (length rest) (query_at v rest s)
  query_fewer v rest slash_mark = moves text rest _ _ (λ others e. omega (arith, e))
  query_fewer v rest query_mark = moves text rest _ _ (λ others e. omega (arith, e))
  query_fewer v rest fragment_mark = moves text rest _ _ (λ others e. omega (arith, e))
  query_fewer v rest end = moves text rest _ _ (λ others e. omega (arith, e))
  query_fewer v rest (another c) = either text _ (moves text rest _ _ (λ others e. omega (arith, e))) (stops text)

  -- the path start state
  path_start_fewer : (special : Bool) (v : Variables) (rest : List ℕ) (s : AtPointer)
      → Fewer text rest (length rest + 1) (path_start_at special v s)
  path_start_fewer true v rest slash_mark = moves text rest _ _ (λ others e. omega (arith, e))
  path_start_fewer true v rest query_mark = stays text _ _ (omega arith)
  path_start_fewer true v rest fragment_mark = stays text _ _ (omega arith)
  path_start_fewer true v rest end = stays text _ _ (omega arith)
  path_start_fewer true v rest (another c) = stays text _ _ (omega arith)
  path_start_fewer false v rest slash_mark = moves text rest _ _ (λ others e. omega (arith, e))
  path_start_fewer false v rest query_mark = moves text rest _ _ (λ others e. omega (arith, e))
  path_start_fewer false v rest fragment_mark = moves text rest _ _ (λ others e. omega (arith, e))
  path_start_fewer false v rest end = moves text rest _ _ (λ others e. omega (arith, e))
  path_start_fewer false v rest (another c) = stays text _ _ (omega arith)

  -- ---- an authority

  -- at an authority's end the host state begins as far back as the buffer is long
  back : (p : ℕ) (v : Variables) (rest : List ℕ) → drop p text ≡ rest
      → Fewer text rest (2 * length rest + length v.buffer + 3) (from_place (p - length v.buffer) HostState (emptied v))
  back p v rest e =
      goes text _ _ _
      (omega (arith, rest_length text p rest e, length-drop (p - length v.buffer) text))

  -- the authority state
  authority_fewer : (p : ℕ) (v : Variables) (rest : List ℕ) (s : AtPointer) → drop p text ≡ rest
      → Fewer text rest (2 * length rest + length v.buffer + 3) (authority_at p v s)
  authority_fewer p v rest slash_mark e = back p v rest e
  authority_fewer p v rest query_mark e = back p v rest e
  authority_fewer p v rest fragment_mark e = back p v rest e
  authority_fewer p v rest end e = back p v rest e
  authority_fewer p v rest (another c) e =
      either text _ (stops text) (moves text rest _ _ (λ others e. omega (arith, e, put_length c v)))

  -- a host ends at a delimiter
  host_end : (v : Variables) (rest : List ℕ)
      → Fewer text rest (length rest + 2)
      (if (length v.buffer == 0) && is_special v.url.scheme then stop else host_ended v (again PathStartState))
  host_end v rest = either text _ (stops text) (parsed text _ _ (λ host. stays text _ _ (omega arith)))

  -- the host state
  host_fewer : (v : Variables) (rest : List ℕ) (s : AtPointer) → Fewer text rest (length rest + 2) (host_at v s)
  host_fewer v rest slash_mark = host_end v rest
  host_fewer v rest query_mark = host_end v rest
  host_fewer v rest fragment_mark = host_end v rest
  host_fewer v rest end = host_end v rest
  host_fewer v rest (another c) =
      either text _
      (either text _ (stops text) (parsed text _ _ (λ host. moves text rest _ _ (λ others e. omega (arith, e)))))
      (either text _ (stops text) (moves text rest _ _ (λ others e. omega (arith, e))))

  -- a port ends at a delimiter
  port_end : (v next : Variables) (rest : List ℕ) (large : Bool)
      → Fewer text rest (length rest + 2) (if large then stop else again PathStartState next)
  port_end v next rest large = either text large (stops text) (stays text _ _ (omega arith))

  -- the port state
  port_fewer : (v : Variables) (rest : List ℕ) (s : AtPointer) → Fewer text rest (length rest + 2) (port_at v s)
  port_fewer v rest slash_mark = port_end v _ rest _
  port_fewer v rest query_mark = port_end v _ rest _
  port_fewer v rest fragment_mark = port_end v _ rest _
  port_fewer v rest end = port_end v _ rest _
  port_fewer v rest (another c) = either text _ (moves text rest _ _ (λ others e. omega (arith, e))) (stops text)

  -- ---- the scheme file

  -- the file state
  file_fewer : (base : Option Url) (v : Variables) (rest : List ℕ) (s : AtPointer)
      → Fewer text rest (length rest + 2) (file_at base v rest s)
  file_fewer base v rest slash_mark = moves text rest _ _ (λ others e. omega (arith, e))
  file_fewer None v rest query_mark = stays text _ _ (omega arith)
  file_fewer None v rest fragment_mark = stays text _ _ (omega arith)
  file_fewer None v rest end = stays text _ _ (omega arith)
  file_fewer None v rest (another c) = stays text _ _ (omega arith)
  file_fewer (Some base) v rest query_mark = moves text rest _ _ (λ others e. omega (arith, e))
  file_fewer (Some base) v rest fragment_mark = moves text rest _ _ (λ others e. omega (arith, e))
  file_fewer (Some base) v rest end = moves text rest _ _ (λ others e. omega (arith, e))
  file_fewer (Some base) v rest (another c) = either text _ (stops text) (stays text _ _ (omega arith))

  -- the file slash state
  file_slash_fewer : (base : Option Url) (v : Variables) (rest : List ℕ)
      → Fewer text rest (length rest + 2) (file_slash_row base v rest)
  file_slash_fewer None v rest =
      either text _ (moves text rest _ _ (λ others e. omega (arith, e))) (stays text _ _ (omega arith))
  file_slash_fewer (Some base) v rest =
      let path : (variables : Variables) → Fewer text rest (length rest + 2) (again PathState variables)
      = λ variables. stays text PathState variables (omega arith) in
      let to_host : Fewer text rest (length rest + 2) (onward FileHostState v)
      = moves text rest FileHostState v (λ others e. omega (arith, e)) in
      elim (cases_Bool (is_file base.scheme)) [
        | inl file ↦ rw file (either text (begins slash rest) to_host (path _))
        | inr other ↦ rw other (either text (begins slash rest) to_host (path _))
      ]

  -- a file host ends at a delimiter
  file_host_end : (v : Variables) (rest : List ℕ)
      → Fewer text rest (length rest + 2) (file_host_at v end)
  file_host_end v rest =
      either text _ (stops text)
      (either text _ (stays text _ _ (omega arith)) (parsed text _ _ (λ host. stays text _ _ (omega arith))))

  -- the file host state
  file_host_fewer : (v : Variables) (rest : List ℕ) (s : AtPointer)
      → Fewer text rest (length rest + 2) (file_host_at v s)
  file_host_fewer v rest slash_mark = file_host_end v rest
  file_host_fewer v rest query_mark = file_host_end v rest
  file_host_fewer v rest fragment_mark = file_host_end v rest
  file_host_fewer v rest end = file_host_end v rest
  file_host_fewer v rest (another c) = either text _ (stops text) (moves text rest _ _ (λ others e. omega (arith, e)))

  -- ---- no scheme

  -- the relative slash state
  relative_slash_fewer : (base : Option Url) (v : Variables) (rest : List ℕ)
      → Fewer text rest (2 * length rest + length v.buffer + 3) (relative_slash_row base v rest)
  relative_slash_fewer None v rest = stops text
  relative_slash_fewer (Some base) v rest =
      either text _
      (either text _
      (moves text rest _ _ (λ others e. omega (arith, e)))
      (moves text rest _ _ (λ others e. omega (arith, e))))
      (stays text _ _ (omega arith))

  -- the special relative or authority state, and the special authority slashes state
  two_slashes_fewer : (p : ℕ) (v : Variables) (rest : List ℕ) → drop p text ≡ rest
      → Fewer text rest (2 * length rest + length v.buffer + 1) (two_slashes_row p v rest)
  two_slashes_fewer p v rest e = by_start (begins_two_slashes rest) refl
    where
      by_start : (starts : Bool) → begins_two_slashes rest ≡ starts
          → Fewer text rest (2 * length rest + length v.buffer + 1)
          (if starts then from_place (p + 2) SpecialAuthorityIgnoreSlashesState v else stop)
      by_start true is =
          goes text _ _ _
          (omega (arith, rest_length text p rest e, length-drop (p + 2) text, two_slashes_are_two rest is))
      by_start false is = stops text

  -- the path or authority state
  path_or_authority_fewer : (v : Variables) (rest : List ℕ)
      → Fewer text rest (2 * length rest + length v.buffer + 2) (path_or_authority_row v rest)
  path_or_authority_fewer v rest =
      either text _ (moves text rest _ _ (λ others e. omega (arith, e))) (stays text _ _ (omega arith))

  -- the special authority ignore slashes state
  ignore_slashes_fewer : (v : Variables) (rest : List ℕ)
      → Fewer text rest (2 * length rest + length v.buffer + 4) (ignore_slashes_row v rest)
  ignore_slashes_fewer v rest = either text _ (stops text) (stays text _ _ (omega arith))

  -- the fragment state
  fragment_fewer : (v : Variables) (rest : List ℕ) → Fewer text rest (length rest) (fragment_row v rest)
  fragment_fewer v [] = moves text [] _ _ (λ others e. absurd (zero_not_suc (length others) e))
  fragment_fewer v (c ∷ rest) = either text _ (moves text (c ∷ rest) _ _ (λ others e. omega (arith, e))) (stops text)

  -- the relative state with one of two code points at the pointer
  by_test : (base : Url) (v : Variables) (rest : List ℕ) (most : ℕ) (test : Bool) (s t : AtPointer)
      → Fewer text rest most (relative_at base v s) → Fewer text rest most (relative_at base v t)
      → Fewer text rest most (relative_at base v (if test then s else t))
  by_test base v rest most true s t first second = first
  by_test base v rest most false s t first second = second

  -- the relative state
  relative_fewer : (base : Option Url) (v : Variables) (rest : List ℕ)
      → Fewer text rest (later text RelativeState (length v.buffer) rest) (relative_row base v rest)
  relative_fewer None v rest = stops text
  relative_fewer (Some base) v [] = moves text [] _ _ (λ others e. absurd (zero_not_suc (length others) e))
  relative_fewer (Some base) v (c ∷ rest) = elim (cases_Bool (c == slash)) [
    | inl is ↦
        rw is
        (moves text (c ∷ rest) RelativeSlashState (with_scheme base.scheme v) (λ others e. omega (arith, e)))
    | inr other ↦
        let to : (s : State) (variables : Variables)
        → ((others : List ℕ) → later text s (length variables.buffer) others ≡ length others)
        → Fewer text (c ∷ rest) (length (c ∷ rest) + 1) (onward s variables)
        = λ s variables same. moves text (c ∷ rest) s variables (λ others e. omega (arith, e, same others)) in
        rw other
        (by_test base _ _ _ (c == question_mark) query_mark _ (to QueryState _ (λ others. refl))
        (by_test base _ _ _ (c == number_sign) fragment_mark _ (to FragmentState _ (λ others. refl))
        (stays text PathState _ (omega arith))))
  ]

  -- what the two states after the no scheme state leave
  no_scheme_leaves : (buffered : ℕ) (rest : List ℕ)
      → (length rest + 2 < later_without_scheme buffered rest)
      × (later text RelativeState buffered rest < later_without_scheme buffered rest)
  no_scheme_leaves buffered rest = elim (cases_Bool (begins slash rest)) [
    | inl is ↦
        let some = slash_is_some rest is in
        rw is (omega (arith, some), omega arith)
    | inr other ↦ rw other (omega arith, omega arith)
  ]

  -- the no scheme state
  no_scheme_fewer : (base : Option Url) (v : Variables) (rest : List ℕ)
      → Fewer text rest (later_without_scheme (length v.buffer) rest) (no_scheme_row base v rest)
  no_scheme_fewer None v rest = stops text
  no_scheme_fewer (Some base) v rest =
      let leaves = no_scheme_leaves (length v.buffer) rest in
      either text _
      (either text _ (moves text rest _ _ (λ others e. omega (arith, e, leaves.0))) (stops text))
      (either text _ (stays text _ _ leaves.0) (stays text _ _ leaves.1))

  -- ---- the scheme

  -- after a step of the no scheme state so many steps may come at least
  without_scheme_leaves : (rest : List ℕ) → length rest + 3 ≤ later_without_scheme 0 rest
  without_scheme_leaves rest = elim (cases_Bool (begins slash rest)) [
    | inl is ↦ rw is (omega arith)
    | inr other ↦ rw other (omega arith)
  ]

  -- after the `:` of a scheme
  after_scheme_fewer : (base : Option Url) (class : Class) (p : ℕ) (v : Variables) (c : ℕ) (rest : List ℕ)
      → drop p text ≡ c ∷ rest → length v.buffer ≡ 0
      → Fewer text (c ∷ rest) (length (c ∷ rest) + later_without_scheme 0 text + 1) (after_scheme base class p v rest)
  after_scheme_fewer base File p v c rest e none =
      either text _
      (moves text (c ∷ rest) _ _ (λ others same. omega (arith, same, without_scheme_leaves text)))
      (stops text)
  after_scheme_fewer base SpecialNotFile p v c rest e none =
      let short = rest_length text p (c ∷ rest) e in
      either text _
      (moves text (c ∷ rest) _ _ (λ others same. omega (arith, same, none, short, without_scheme_leaves text)))
      (moves text (c ∷ rest) _ _ (λ others same. omega (arith, same, none, short, without_scheme_leaves text)))
  after_scheme_fewer base Other p v c rest e none =
      let short = rest_length text p (c ∷ rest) e in
      either text _
      (goes text _ _ _ (omega (arith, none, short, length-drop (p + 2) text, without_scheme_leaves text)))
      (moves text (c ∷ rest) _ _ (λ others same. omega (arith, same)))

  -- the scheme state
  scheme_fewer : (base : Option Url) (p : ℕ) (v : Variables) (rest : List ℕ) → drop p text ≡ rest
      → Fewer text rest (length rest + later_without_scheme 0 text + 1) (scheme_row base p v rest)
  scheme_fewer base p v [] e = goes text 0 _ _ (omega arith)
  scheme_fewer base p v (c ∷ rest) e =
      either text (is_scheme_code_point c)
      (moves text (c ∷ rest) SchemeState (put (to_ascii_lowercase c) v) (λ others same. omega (arith, same)))
      (either text (c == colon)
      (after_scheme_fewer base (scheme_class v.buffer) p (emptied (with_scheme v.buffer v)) c rest e refl)
      (goes text 0 NoSchemeState (emptied v) (omega arith)))

  -- the scheme start state
  scheme_start_fewer : (v : Variables) (rest : List ℕ)
      → Fewer text rest (later_at_start text (length v.buffer) rest) (scheme_start_row v rest)
  scheme_start_fewer v [] = stays text _ _ (omega arith)
  scheme_start_fewer v (c ∷ rest) = elim (cases_Bool (is_ascii_alphabetic c)) [
    | inl letter ↦
        rw letter
        (moves text (c ∷ rest) SchemeState (put (to_ascii_lowercase c) v) (λ others same. omega (arith, same)))
    | inr other ↦ rw other (stays text NoSchemeState v (omega arith))
  ]

  -- ---- each state

  -- the row of each state leaves fewer steps
  pub turn_fewer : (base : Option Url) (s : State) (p : ℕ) (v : Variables) (rest : List ℕ) → drop p text ≡ rest
      → Fewer text rest (later text s (length v.buffer) rest) (turn base s p v rest)
  turn_fewer base SchemeStartState p v rest e = scheme_start_fewer v rest
  turn_fewer base SchemeState p v rest e = scheme_fewer base p v rest e
  turn_fewer base NoSchemeState p v rest e = no_scheme_fewer base v rest
  turn_fewer base SpecialRelativeOrAuthorityState p v rest e = two_slashes_fewer p v rest e
  turn_fewer base PathOrAuthorityState p v rest e = path_or_authority_fewer v rest
  turn_fewer base RelativeState p v rest e = relative_fewer base v rest
  turn_fewer base RelativeSlashState p v rest e = relative_slash_fewer base v rest
  turn_fewer base SpecialAuthoritySlashesState p v rest e = two_slashes_fewer p v rest e
  turn_fewer base SpecialAuthorityIgnoreSlashesState p v rest e = ignore_slashes_fewer v rest
  turn_fewer base AuthorityState p v rest e = authority_fewer p v rest (at_pointer rest) e
  turn_fewer base HostState p v rest e = host_fewer v rest (at_pointer rest)
  turn_fewer base PortState p v rest e = port_fewer v rest (at_pointer rest)
  turn_fewer base FileState p v rest e = file_fewer (file_base base) _ rest (at_pointer rest)
  turn_fewer base FileSlashState p v rest e = file_slash_fewer base v rest
  turn_fewer base FileHostState p v rest e = file_host_fewer v rest (at_pointer rest)
  turn_fewer base PathStartState p v rest e = path_start_fewer _ v rest (at_pointer rest)
  turn_fewer base PathState p v rest e = path_fewer v rest (at_pointer rest)
  turn_fewer base OpaquePathState p v rest e = opaque_path_fewer v rest (at_pointer rest)
  turn_fewer base QueryState p v rest e = query_fewer v rest (at_pointer rest)
  turn_fewer base FragmentState p v rest e = fragment_fewer v rest
