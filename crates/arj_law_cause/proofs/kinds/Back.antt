-- Locks that naming gives back as it starts anew: each is of an entry of its own, on which nobody has a lock by the table, and goes to the
-- top that has the entry prepared, which changes the object's list by the lines.
use Rattle.arj_law_parts.proofs.Words
use Words.{⊎_elim, inl, inr, if◌then◌else◌, ◌||◌, In, ◌≡◌, ◌∙◌, ◌==◌, ◌&&◌, ◌++◌, ◌+◌, not, ℕ, Bool, true, false, find, List, [], ◌∷◌, map}
use Words.{flat_map, Option, Some, None, refl, sym, ap, subst, and_parts, arith, nat_tests, nat_le, list_any, AllByRecursion, AreEntries}
use Words.{Body, Event, Header, Line, Mode, ObjectState, Row, Start, Uid, entry, uid_eq, mode_code, is_row_of, is_against, first_conflict}
use Words.{last_uid, numbered, rows_by, Disk, Effect, Say, Named, Pair, back_lines, named_back, restart_outs}
use Words.body
use Words.part
use Rattle.arj_law_parts.specs.moves.Seen.{is_quiet_line}
use Rattle.arj_law_runs.proofs.journal.Models.{AreSound, in_later, its_sound}
use Rattle.arj_law_runs.specs.journal.{Book.new_book, Right.AreRight}
use Rattle.arj_law_serial.proofs.Terms.{Act, AreDistinct, acts, acts_from, acts_more, holders_in, path, rows_on, table, up_of}
use Rattle.arj_law_serial.proofs.holding.{Lines.own_line, Sorts.is_free}
use Rattle.arj_law_serial.proofs.joint.Called.{right_front}
use Rattle.arj_law_serial.proofs.order.Paths.{found as found_act}
use Rattle.arj_model.specs.Actions as model
use Rattle.arj_model.specs.Actions.{begun_of}
use Rattle.arj_model.specs.CauseAnswers.{has_lock}
use Rattle.arj_model.specs.CauseLocks.{granted_caused, is_restart}
use Rattle.arj_model.specs.CausePends.{has_some}
use Rattle.arj_model.specs.CauseSpans.{Here, act_by, holds_in, is_top_in}
use Rattle.arj_model.specs.Last.{is_among, joins_of, leaves_of}
use Rattle.arj_model.specs.Past.{Past}
use Rattle.arj_protocol.specs.Confirm.{mode_back, pending_of, rows_back}
use Rattle.arj_protocol.specs.Values.{state_entry}
use Rattle.std.specs.Prelude.{is_none}
use Rattle.arj_law_cause.proofs.kinds.Asking.{joins_later, leaves_later}
use Rattle.arj_law_cause.proofs.kinds.Checks.{some_of}
use Rattle.arj_law_cause.proofs.kinds.Committed.{act_found}
use Rattle.arj_law_cause.proofs.kinds.Entered.{ChangesList, IsFor, OnDisk, pending_for}
use Rattle.arj_law_cause.proofs.kinds.Granted.{any_in_some}
use Rattle.arj_law_cause.proofs.kinds.Regained as regained
use Rattle.arj_law_cause.proofs.kinds.Walks as walks
use Rattle.arj_law_cause.proofs.rows.Meeting.{find_some, on_object}
use Rattle.arj_law_cause.proofs.rows.Paths.{path_stays}
use Rattle.arj_law_cause.proofs.rows.Spans.{or_first, or_last}
use Rattle.arj_law_cause.specs.kinds.Rows.{tested}

-- naming gives the lock back to an action that hasn't it by the table, and meets none there
abbrev pub is_given_back : Here → ℕ → Uid → Uid → Mode → Bool
is_given_back h n u o mode =
    (n == 1) && (not (has_lock n u o mode h.lines) && is_none (first_conflict (u ∷ []) o mode (table n h.lines)))

-- the action has excluded a store of the object, or includes one
abbrev pub is_for : List Line → Act → ℕ → Bool
is_for lines a x = is_top_in a (path (acts lines) a.label) && (has_some (leaves_of lines a.id x) || has_some (joins_of lines a.id x))

-- Outside of a restart a lock that is granted has its cause, and in one it is given back, to a top that has changed the object's list.
abbrev pub is_granted_by : Here → Body → Bool
is_granted_by h (body.Granted n u o mode) =
    if is_restart h.event then is_given_back h n u o mode && holds_in (λ a. is_for h.lines a o.num) (act_by h.lines u)
    else granted_caused h n u o mode
is_granted_by h _ = true

-- ---- who has an entry prepared

-- a top with this Uid, which changes the object's list
pub record IsBack (lines : List Line) (u : Uid) (x : ℕ) : Type 0 where
  pub top : Act
  pub found : act_by lines u ≡ Some top
  pub first : is_top_in top (path (acts lines) top.label) ≡ true
  pub changes : ChangesList lines top.id x

-- so it is behind a line by which nothing begins
back_later : (i : ℕ) (ms : List Line) (b : Body) → begun_of b ≡ None → (u : Uid) (x : ℕ) → IsBack ms u x →
    IsBack (ms ++ numbered i (b ∷ [])) u x
back_later i ms b none u x k = record {
  top = k.top;
  found = ap (find (λ (a : Act). uid_eq a.uid u)) same ∙ k.found;
  first = ap (λ xs. is_top_in k.top (path xs (let a = k.top in a.label))) same ∙ k.first;
  changes = ⊎_elim
      (λ s. inl (s.0, leaves_later ms (numbered i (b ∷ [])) (let a = k.top in a.id) x s.0 s.1))
      (λ s. inr (s.0, joins_later ms (numbered i (b ∷ [])) (let a = k.top in a.id) x s.0 s.1)) k.changes;
}
  where
    same : acts (ms ++ numbered i (b ∷ [])) ≡ acts ms
    same = acts_more [] ms (numbered i (b ∷ [])) ∙ ap (model.numbered (acts ms)) none

-- by all lines
pub back_now : (lines : List Line) → AreRight new_book lines → (u : Uid) (x : ℕ) → IsFor lines u x → IsBack lines u x
back_now lines right u x f = record {
  top = f.top;
  found = act_found (acts lines) sound.distinct f.top
      (subst (In f.top) (sym total) (in_later f.more (acts f.first) f.top f.there)) u f.uid;
  first = ap (is_top_in f.top) stays ∙ f.is_top;
  changes = ⊎_elim
      (λ s. inl (
        s.0,
        ap (λ ls. is_among (leaves_of ls (let a = f.top in a.id) x) s.0) f.are ∙ leaves_later f.first f.more (let a = f.top in a.id)
            x s.0 s.1,
      ))
      (λ s. inr (
        s.0,
        ap (λ ls. is_among (joins_of ls (let a = f.top in a.id) x) s.0) f.are ∙ joins_later f.first f.more (let a = f.top in a.id)
            x s.0 s.1,
      )) f.changes;
}
  where
    total : acts lines ≡ acts_from (acts f.first) f.more
    total = ap acts f.are ∙ acts_more [] f.first f.more

    sound : AreSound (acts lines)
    sound = its_sound lines right

    front : AreSound (acts f.first)
    front = its_sound f.first (right_front new_book f.first f.more (subst (AreRight new_book) f.are right))

    stays : path (acts lines) (let a = f.top in a.label) ≡ path (acts f.first) (let a = f.top in a.label)
    stays = ap (λ xs. path xs (let a = f.top in a.label)) total
        ∙ path_stays (acts f.first) f.more (subst AreDistinct total sound.distinct) (let a = f.top in a.label) f.top
        (found_act (acts f.first) front.distinct f.top f.there)

-- its test
back_for : (lines : List Line) (u : Uid) (x : ℕ) → IsBack lines u x → holds_in (λ a. is_for lines a x) (act_by lines u) ≡ true
back_for lines u x k = ap (holds_in (λ a. is_for lines a x)) k.found ∙ (λ i. k.first i && changed i)
  where
    changed : (has_some (leaves_of lines (let a = k.top in a.id) x) || has_some (joins_of lines (let a = k.top in a.id) x)) ≡ true
    changed = ⊎_elim
        (λ s. or_first (has_some (leaves_of lines (let a = k.top in a.id) x)) (has_some (joins_of lines (let a = k.top in a.id) x))
        (some_of (leaves_of lines (let a = k.top in a.id) x) s.0 s.1))
        (λ s. or_last (has_some (leaves_of lines (let a = k.top in a.id) x)) (has_some (joins_of lines (let a = k.top in a.id) x))
        (some_of (joins_of lines (let a = k.top in a.id) x) s.0 s.1)) k.changes

-- ---- its lock

-- where nobody has a lock on the object, it can be given back
back_free : (h : Here) (u o : Uid) (m : Mode) → rows_on o (table 1 h.lines) ≡ [] → is_given_back h 1 u o m ≡ true
back_free h u o m none = λ i. not (unlocked i) && is_none (free i)
  where
    strong : Row → Bool
    strong r = is_row_of o u r && nat_le (mode_code m) (mode_code r.mode)

    wider : (r : Row) → strong r ≡ true → uid_eq r.object o ≡ true
    wider r is = (and_parts (uid_eq r.object o) (uid_eq (last_uid r.holder) u)
        (and_parts (is_row_of o u r) (nat_le (mode_code m) (mode_code r.mode)) is).0).0

    unlocked : has_lock 1 u o m h.lines ≡ false
    unlocked = any_in_some strong (λ (r : Row). uid_eq r.object o) wider (table 1 h.lines) ∙ ap (list_any strong) none

    free : first_conflict (u ∷ []) o m (table 1 h.lines) ≡ None
    free = find_some (is_against (u ∷ []) o m) (λ (r : Row). uid_eq r.object o) (on_object (u ∷ []) o m) (table 1 h.lines)
        ∙ ap (find (is_against (u ∷ []) o m)) none

-- a lock on another object leaves these rows
other_rows : (i : ℕ) (ms : List Line) (u o : Uid) (m : Mode) (x : ℕ) → uid_eq o (entry x) ≡ false → rows_on (entry x) (table 1 ms) ≡ [] →
    rows_on (entry x) (table 1 (ms ++ numbered i (body.Granted 1 u o m ∷ []))) ≡ []
other_rows i ms u o m x apart none = own_line 1 part.Naming (entry x) refl i (body.Granted 1 u o m) ms
    ∙ same (rows_on (entry x) (table 1 ms)) ∙ none
  where
    same : (rows : List Row) → rows_by (holders_in (i == up_of 1 ms) (acts ms)) 1 part.Naming (entry x) (body.Granted 1 u o m) rows ≡ rows
    same rows = rw apart refl

module _ (test : Here → Body → Bool) (hd : Header) (of : Body → Bool) (quiet : (b : Body) → is_quiet_line b ≡ true → of b ≡ false)
    (halts : (k : ℕ) → of (body.Halted k) ≡ false) (st : Start) (q : Past) (e : Event)
    (pass : (ms : List Line) (u o : Uid) (m : Mode) → is_given_back (walks.here_behind test hd of quiet halts st q e ms) 1 u o m ≡ true →
    holds_in (λ a. is_for ms a o.num) (act_by ms u) ≡ true →
    tested test (λ h. of) (walks.here_behind test hd of quiet halts st q e ms) (body.Granted 1 u o m) ≡ true)
    (others : (ms : List Line) (b : Body) → is_free b ≡ true →
    tested test (λ h. of) (walks.here_behind test hd of quiet halts st q e ms) b ≡ true) where
  abbrev Well : List Effect → List Line → Type 0
  Well es ls = walks.Well test hd of quiet halts st q e es ls

  -- nobody has a lock on these entries
  abbrev AreFree : List (Uid × ObjectState) → List Line → Type 0
  AreFree es ms = AllByRecursion (λ (f : Uid × ObjectState). rows_on (entry f.0.num) (table 1 ms) ≡ []) es

  -- whoever has one of them prepared changes its object's list
  abbrev AreBack : Pair → List (Uid × ObjectState) → List Line → Type 0
  AreBack d es ms = AllByRecursion
      (λ (f : Uid × ObjectState). (p : Uid × ObjectState) → pending_of f.0 d.pend ≡ Some p → IsBack ms p.0 f.0.num) es

  more_back : (d : Pair) (b : Body) → begun_of b ≡ None → (es : List (Uid × ObjectState)) (ms : List Line) → AreBack d es ms →
      AreBack d es (ms ++ numbered (q.count + 1) (b ∷ []))
  more_back d b none [] ms all = tt
  more_back d b none (f ∷ es) ms all =
      ((λ p is. back_later (q.count + 1) ms b none p.0 (let w = f.0 in w.num) (all.0 p is)), more_back d b none es ms all.1)

  -- of an object with another number
  apart_of : (u : Uid) (x : ℕ) → u ≡ entry u.num → (x == u.num) ≡ false → uid_eq u (entry x) ≡ false
  apart_of u x is other = ap (λ w. uid_eq w (entry x)) is ∙ turned u.num other
    where
      turned : (n : ℕ) → (x == n) ≡ false → (n == x) ≡ false
      turned n off = grind (arith, nat_tests, off)

  more_free : (u o : Uid) (m : Mode) (es : List (Uid × ObjectState)) (ms : List Line) → o ≡ entry o.num →
      AllByRecursion (λ (f : Uid × ObjectState). (f.0.num == o.num) ≡ false) es → AreFree es ms →
      AreFree es (ms ++ numbered (q.count + 1) (body.Granted 1 u o m ∷ []))
  more_free u o m [] ms is apart free = tt
  more_free u o m (f ∷ es) ms is apart free = (
    other_rows (q.count + 1) ms u o m (let w = f.0 in w.num) (apart_of o (let w = f.0 in w.num) is apart.0) free.0,
    more_free u o m es ms is apart.1 free.1,
  )

  back_well : (d : Pair) (fs : List Effect) → ((ms : List Line) → Well fs ms) → (es : List (Uid × ObjectState)) → AreEntries es →
      (ms : List Line) → AreFree es ms → AreBack d es ms →
      Well (flat_map (λ (f : ℕ × Named). back_lines f.1) (map (named_back d) es) ++ fs) ms
  back_well d fs rest [] entries ms free back = rest ms
  back_well d fs rest (f ∷ es) entries ms free back =
      one (pending_of f.0 d.pend) refl (λ ns left more. back_well d fs rest es entries.2 ns left more)
    where
      its_free : rows_on f.0 (table 1 ms) ≡ []
      its_free = ap (λ o. rows_on o (table 1 ms)) entries.0 ∙ free.0

      one : (p : Option (Uid × ObjectState)) → pending_of f.0 d.pend ≡ p → ((ns : List Line) → AreFree es ns → AreBack d es ns →
          Well (flat_map (λ (g : ℕ × Named). back_lines g.1) (map (named_back d) es) ++ fs) ns) →
          Well ((map (λ (r : Row). Say (body.Granted 1 (last_uid r.holder) r.object r.mode)) (rows_back f.0 f.1 p) ++ flat_map (λ (g : ℕ ×
          Named). back_lines g.1) (map (named_back d) es)) ++ fs) ms
      one None is later = later ms free.1 back.1
      one (Some p) is later =
          let m = mode_back (let s = state_entry p.1 in s.stores) (let s = state_entry f.1 in s.stores) in (
            pass ms p.0 f.0 m (back_free (walks.here_behind test hd of quiet halts st q e ms) p.0 f.0 m its_free)
                (back_for ms p.0 (let w = f.0 in w.num) (back.0 p is)),
            later (ms ++ numbered (q.count + 1) (body.Granted 1 p.0 f.0 m ∷ []))
                (more_free p.0 f.0 m es ms entries.0 entries.1 free.1)
                (more_back d (body.Granted 1 p.0 f.0 m) refl es ms back.1),
          )

  -- a restart of node 1
  pub restart_well : (inc : ℕ) (d : Disk) → AreEntries (let z = d.names in z.held) → (ls : List Line) → AreRight new_book ls → OnDisk ls d →
      tested test (λ h. of) (walks.here_behind test hd of quiet halts st q e ls) (body.Up 1 inc) ≡ true → Well (restart_outs hd 1 inc d) ls
  restart_well inc d entries ls right its up = (
    up,
    subst (λ es. Well es (ls ++ numbered (q.count + 1) (body.Up 1 inc ∷ []))) (sym (regained.in_two 0 hd inc d))
        (back_well d.names (regained.tail 0 hd inc d) (λ ms. walks.each_well test hd of quiet halts st q e is_free others
        (regained.tail 0 hd inc d) ms (regained.tail_free 0 hd inc d)) (let z = d.names in z.held) entries
        (ls ++ numbered (q.count + 1) (body.Up 1 inc ∷ [])) (new (let z = d.names in z.held))
        (more_back d.names (body.Up 1 inc) refl (let z = d.names in z.held) ls (back (let z = d.names in z.held)))),
  )
    where
      new : (es : List (Uid × ObjectState)) → AreFree es (ls ++ numbered (q.count + 1) (body.Up 1 inc ∷ []))
      new [] = tt
      new (f ∷ es) = (own_line 1 part.Naming (entry (let w = f.0 in w.num)) refl (q.count + 1) (body.Up 1 inc) ls, new es)

      back : (es : List (Uid × ObjectState)) → AreBack d.names es ls
      back [] = tt
      back (f ∷ es) = (
        (λ p is. back_now ls right p.0 (let w = f.0 in w.num)
            (pending_for ls f.0 (let z = d.names in z.pend) its p.0 p.1 is)),
        back es,
      )
