-- Calls by their keys, and how they are tested.
use Rattle.std.specs.Prelude.{ℕ, ◌+◌, ◌-◌, Bool, true, false, ◌&&◌, ◌||◌, ◌==◌, not, nat_le, nat_lt, max, if◌then◌else◌, List, [], ◌∷◌, ◌++◌}
use Rattle.std.specs.Prelude.{map, filter, take, drop, length, slice_get, Option, Some, None}
use Rattle.std.specs.List.{list_all}
use Rattle.arj_class.specs.Table.{writes}
use Rattle.arj_journal.specs.declared.body.Body.{Body}
use Rattle.arj_journal.specs.declared.body.Body.TheVariants as body
use Rattle.arj_journal.specs.declared.body.Line.{Line}
use Rattle.arj_model.specs.Actions.{Placed}
use Rattle.arj_model.specs.Book.{is_conflict}
use Rattle.arj_model.specs.Calls.{Call}
use Rattle.arj_model.specs.Last.{is_among, same_list}
use Rattle.arj_model.specs.Nested.{commit_place}
use Rattle.arj_replay.specs.Sorting.{last_of}

-- the object of the call that a line answers, and whether it writes
abbrev pub call_in : Body → Option (ℕ × Bool)
call_in (body.Ok l x op answer) = Some (x, writes op)
call_in _ = None

-- the same, where there is a line
abbrev pub call_of : Option Line → Option (ℕ × Bool)
call_of None = None
call_of (Some line) = call_in line.body

-- the call at a place
abbrev pub call_in_lines : List Line → ℕ → Option (ℕ × Bool)
call_in_lines lines place = call_of (slice_get lines place)

-- ---- calls in serial order

-- ends of the calls on objects: one behind the place of the last one
abbrev pub Ends : Type 0
Ends = ℕ → ℕ

-- before the first call
abbrev pub no_ends : Ends
no_ends = λ x. 0

-- the ends with one call more on object x, if it counts
abbrev pub end_with : Bool → Ends → ℕ → ℕ → Ends
end_with counts ends x at = λ y. if counts && (x == y) then max (at + 1) (ends y) else ends y

-- Each call stands behind those before it that it conflicts with, and behind these ends: of all calls and of those that write.
abbrev pub stand_behind : Ends → Ends → List Call → Bool
stand_behind any wrote [] = true
stand_behind any wrote (c ∷ cs) =
    nat_le (if writes c.op then any c.x else wrote c.x) c.at
    && stand_behind (end_with true any c.x c.at) (end_with (writes c.op) wrote c.x c.at) cs

-- ---- calls of one top

-- the commits of the actions of a call are before a place, or are those of another call's too
abbrev pub are_free : List (Placed ℕ) → List ℕ → List ℕ → ℕ → Bool
are_free ends chain other at =
    list_all (λ a. nat_lt (commit_place ends a) at || is_among (map (commit_place ends) other) (commit_place ends a)) chain

-- a call doesn't wait for one before it
abbrev pub is_freed : List (Placed ℕ) → Call → Call → Bool
is_freed ends c d = not ((c.top == d.top) && is_conflict c d) || are_free ends c.chain d.chain d.at

-- no call waits for one before it, nor for these, of which those are kept that are open
abbrev pub are_freed : List (Placed ℕ) → List Call → List Call → Bool
are_freed ends before [] = true
are_freed ends before (d ∷ ds) =
    list_all (λ c. is_freed ends c d) before && are_freed ends (filter (λ c. not (are_free ends c.chain [] d.at)) before ++ d ∷ []) ds

-- ---- the same by keys

-- the commits of the actions of a call
abbrev pub commits_of : List ℕ → List ℕ
commits_of key = take (length key - 1 - 2) (drop 2 key)

-- two calls are of one top
abbrev pub same_top : List ℕ → List ℕ → Bool
same_top c d = same_list (take 2 c) (take 2 d)

-- they are of one object, and one of them writes
abbrev pub calls_conflict : Option (ℕ × Bool) → Option (ℕ × Bool) → Bool
calls_conflict (Some c) (Some d) = (c.0 == d.0) && (c.1 || d.1)
calls_conflict _ _ = false

-- these commits are before a place, or among those
abbrev pub are_past : List ℕ → List ℕ → ℕ → Bool
are_past commits those at = list_all (λ m. nat_lt m at || is_among those m) commits

-- a call doesn't wait for one before it
abbrev pub key_freed : (ℕ → Option (ℕ × Bool)) → List ℕ → List ℕ → Bool
key_freed call c d =
    not (same_top c d && calls_conflict (call (last_of c)) (call (last_of d))) || are_past (commits_of c) (commits_of d) (last_of d)

-- none does
abbrev pub keys_freed : (ℕ → Option (ℕ × Bool)) → List (List ℕ) → List (List ℕ) → Bool
keys_freed call before [] = true
keys_freed call before (d ∷ ds) =
    list_all (λ c. key_freed call c d) before && keys_freed call (filter (λ c. not (are_past (commits_of c) [] (last_of d))) before ++ d ∷ []) ds

-- each was answered before the actions that it was made in were committed
abbrev pub keys_in_time : List (List ℕ) → Bool
keys_in_time keys = list_all (λ k. list_all (λ m. nat_lt (last_of k) m) (commits_of k)) keys
