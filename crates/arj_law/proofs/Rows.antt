-- The definitions of this crate tried on small journals: each value is known beforehand, and another one is refused.
use Rattle.arj_law.proofs.Terms
use Terms.{◌≡◌, refl, List, [], ◌∷◌, map, Some, None, Get, Add, Line, Header, committed_calls, serial_calls, listed, more, nested_calls}
use Terms.body
use Terms.kind
use Rattle.arj_base.specs.declared.state.Format.TheVariants as format
use Rattle.arj_class.specs.declared.value.Value.TheVariants.{Counter}
use Rattle.arj_model.proofs.Journals.{A, B, C, D, uid, began, lines_of, unit_round_a_top}
use Rattle.arj_model.specs.Held.{unit_end}
use Rattle.std.specs.Prelude.{codes}

-- B is nested in A, C in B, and D in A.
three_levels : List Line
three_levels =
    lines_of ((began A kind.Top 1 None ∷ []) ∷ (began B kind.Nested 2 (Some A) ∷ []) ∷ (began C kind.Nested 3 (Some B) ∷ [])
    ∷ (began D kind.Nested 4 (Some A) ∷ [])
    ∷ (body.Ok C 1 (Add 1) (codes "done") ∷ []) ∷ (body.Ok D 2 (Add 2) (codes "done") ∷ []) ∷ (body.Ok B 3 (Add 3) (codes "done") ∷ [])
    ∷ (body.Committed D ∷ [])
    ∷ (body.Ok A 2 Get (codes "2") ∷ []) ∷ (body.Committed C ∷ []) ∷ (body.Committed B ∷ []) ∷ (body.Committing A ∷ body.Committed A ∷ [])
    ∷ [])

-- D's call moves to place 7, before A's at 8; B's own and C's move to place 10, where B's at 6 stands before C's, which
-- moves to place 9
nested_order : map (λ c. c.at) (nested_calls three_levels) ≡ 5 ∷ 8 ∷ 6 ∷ 4 ∷ []
unfolding three_levels
nested_order = refl

-- A's record is found by a restart.
to_record : List Line
to_record = lines_of ((began A kind.Top 1 None ∷ []) ∷ (body.Ok A 1 (Add 5) (codes "done") ∷ []) ∷ (body.Committing A ∷ body.Halted 1 ∷ [])
    ∷ (body.Up 1 2 ∷ []) ∷ [])

not_yet : map (λ c. c.at) (serial_calls to_record) ≡ []
unfolding to_record
not_yet = refl

recovered : map (λ c. c.at) (serial_calls (more to_record (record { event = 4; body = body.Recovered 1 (uid 1) }))) ≡ 1 ∷ []
unfolding to_record
recovered = refl

-- A excludes store 4 of object 1, which stores 3 and 4 hold.
two_stores : Header
two_stores = record { nodes = 4; objects = (record { x = 1; value = Counter 0; servers = 2 ∷ []; stores = 3 ∷ 4 ∷ [] }) ∷ []; format = format.Two }

to_commit : List Line
to_commit = lines_of
    ((began A kind.Top 1 None ∷ []) ∷ (body.Ok A 1 (Add 5) (codes "done") ∷ []) ∷ (body.Committing A ∷ body.Excluded A 1 4 ∷ []) ∷ [])

is_left : listed two_stores (more to_commit (record { event = 3; body = body.Committed A })) 1 ≡ 3 ∷ []
unfolding two_stores to_commit
is_left = refl

-- The unit of two constituents ends at the call of the second's commit, at place 16, and so stands behind the top whose
-- commit was called between theirs.
unit_ends : map (unit_end unit_round_a_top) (committed_calls unit_round_a_top) ≡ 16 ∷ 7 ∷ 16 ∷ []
unit_ends = refl

unit_order : map (λ c. c.at) (nested_calls unit_round_a_top) ≡ 6 ∷ 2 ∷ 15 ∷ []
unit_order = refl
