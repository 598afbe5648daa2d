-- The row of locks on entries: a restart gives them back (`Back`); in an event that is none naming grants one to a top, which has no such
-- lock, and whose path meets none; for what was asked of it or below it, or for stores that it excluded.
use Rattle.arj_law_parts.proofs.Words
use Words.{⊤, ◌≡◌, ◌∙◌, ◌==◌, ◌&&◌, ◌||◌, ◌++◌, ◌+◌, not, ℕ, Bool, true, false, cond, filter, find, if◌then◌else◌, List, [], ◌∷◌, length}
use Words.{inl, inr, ⊎_elim, ◌⊎◌, grant_row, in_filter, in_map, put_number, rows_by, Post, Option, Some, None, refl, sym, ap, subst}
use Words.{and_parts, eqb-true, eq-eqb, list_any, nat_le, option_map, In, in_from, uid_eq, uid_same, entry, mode_code, is_row_of}
use Words.{is_against, first_conflict, last_uid, top_of, top_path, tops_of, object, Ask, Binding, Body, BoundReply, Entry, Event, Head}
use Words.{Header, Line, Message, Mode, ObjectState, Path, Reply, Row, Start, Uid, asks, asked_by, response, Disk, Do, Effect, Pair, Prep}
use Words.{Say, Send, Served, void, Counted, Live, Made, Named, bind_call, bind_made, bind_named, conflict_on, include_asked, is_granted}
use Words.{is_over, listed_entry, live_above, live_asked, lock_lines, made_above, make_asked, at_number, at_uid, either, is_on, is_prepared}
use Words.{on_counted, prepare_answer, reply, confirm, Naming, Parts, Took, handle, handle_ask, if_naming, sends_answer, serve, served}
use Words.{with_naming, AreAll, is_coord_effect, is_coord_line, is_server_effect, is_server_line, invoke_own, acts as does, acts_own}
use Words.{again_all, again_own, all_both, begin_action, holders, map, numbered, parent_of, query_about, restart_outs, tick_outs}
use Words.{tolds_again, tolds_again_own, Seen, World, name}
use Words.ask
use Words.body
use Words.input
use Words.list
use Words.mode
use Words.naming
use Words.part
use Words.server
use Rattle.arj_law_lock_view.specs.asking.Asked.{asks_goal}
use Rattle.arj_law_parts.proofs.moves.Happens.{Wide}
use Rattle.arj_law_parts.specs.moves.Moments as moments
use Rattle.arj_law_parts.specs.moves.Moments.{MayTake, Moment, up}
use Rattle.arj_law_parts.specs.moves.Seen.{is_quiet_line}
use Rattle.arj_law_parts.specs.moves.Seen as seen
use Rattle.arj_law_parts.specs.moves.With.{KeepsAll}
use Rattle.arj_law_parts.specs.parts.Messages.{FitsAsked, IsAsker}
use Rattle.arj_law_runs.proofs.journal.{Models.its_sound}
use Rattle.arj_law_runs.proofs.kept.Walked.{same_number}
use Rattle.arj_law_runs.specs.follow.Frames.{run_events}
use Rattle.arj_law_runs.specs.journal.Book.{new_book}
use Rattle.arj_law_runs.specs.journal.Right.{AreRight}
use Rattle.arj_law_serial.proofs.Terms
use Terms.{Act, AreAlike, acts, acts_more, named_locks, path, path_by, rows_on, uids, up_of, holders_in}
use Rattle.arj_law_serial.proofs.holding.{Events.IsShown, Lines.own_line, Sorts.is_free, Running.Showing, Running.alike_of}
use Rattle.arj_law_serial.proofs.holding.{Writes.none_starts}
use Rattle.arj_law_serial.proofs.holding.Says as saying
use Rattle.arj_law_serial.proofs.order.Paths.{found}
use Rattle.arj_law_serial.proofs.tables.Holders.{path_fits}
use Rattle.arj_model.specs.Actions.{top_in, tops_in}
use Rattle.arj_model.specs.CauseAnswers.{has_lock}
use Rattle.arj_model.specs.CauseLocks.{asking_path, entry_asked, granted_caused, is_restart, uses_below}
use Rattle.arj_model.specs.CausePends.{has_some}
use Rattle.arj_model.specs.Last.{is_among, leaves_of}
use Rattle.arj_model.specs.CauseSpans.{Here, act_by, holds_in, is_top_in, same_mode, top_uids}
use Rattle.arj_model.specs.Follows.{Runs}
use Rattle.arj_model.specs.Past.{Past, asked_of, at_start, label_of}
use Rattle.arj_model.specs.Refusals.{holds_of, is_ask_by}
use Rattle.arj_model.specs.Table.{table}
use Rattle.arj_promise.specs.Runs.{journal_by}
use Rattle.arj_protocol.proofs.Maps.{put_other, put_same}
use Rattle.arj_protocol.proofs.RowSteps.{asked_after, asked_elsewhere, one_or_two}
use Rattle.arj_protocol.specs.Confirm.{checked, confirm_entries, confirm_new, conflict_in, entries_after, first_of_each, has_all, is_wanted}
use Rattle.arj_protocol.specs.Confirm.{lock_all, lock_in, marked, prepared_by, refused_exclude, wants_lock, wanted as wanted_locks}
use Rattle.arj_protocol.specs.Copy.{row_for}
use Rattle.arj_protocol.specs.Laws.{IsPathOf, naming_rows, rows_after, rows_in_named}
use Rattle.arj_protocol.specs.Named.{locked}
use Rattle.arj_protocol.specs.Words.{ConfirmedReply}
use Rattle.std.specs.Prelude.{is_none}
use Rattle.arj_law_cause.proofs.bindings.Counted.{IsCounted, KnowsNames, names_keep}
use Rattle.arj_law_cause.proofs.bindings.Every.{keeps_both, knows_with}
use Rattle.arj_law_cause.proofs.bindings.Tabled as tabled
use Rattle.arj_law_cause.proofs.kinds.Anew.{IsAnew}
use Rattle.arj_law_cause.proofs.kinds.Back.{is_for, is_given_back, is_granted_by, restart_well}
use Rattle.arj_law_cause.proofs.kinds.Regained.{disk_entries}
use Rattle.arj_law_cause.proofs.kinds.Asking.{leaves_later}
use Rattle.arj_law_cause.proofs.kinds.Entered as entered
use Rattle.arj_law_cause.proofs.kinds.Entered.{Entered, IsConfirmOf, confirm_of, disk_for, entered_keep}
use Rattle.arj_law_cause.proofs.kinds.Checks.{asked_granted, either_none, none_each, none_mapped, some_of}
use Rattle.arj_law_cause.proofs.kinds.Committed.{act_found}
use Rattle.arj_law_cause.proofs.kinds.Ended.{Known, known_all}
use Rattle.arj_law_cause.proofs.kinds.Granted.{any_in_some}
use Rattle.arj_law_cause.proofs.kinds.Lines.{tested_row}
use Rattle.arj_law_cause.proofs.kinds.Nodes.{wide_all}
use Rattle.arj_law_cause.proofs.kinds.Others as others
use Rattle.arj_law_cause.proofs.kinds.Others.{is_work}
use Rattle.arj_law_cause.proofs.kinds.Running.{row_run}
use Rattle.arj_law_cause.proofs.kinds.Served.{fewer_along, restart_is, shown_knows}
use Rattle.arj_law_cause.proofs.kinds.Tops.{HasTopPath, IsTopBy, is_top_by, top_plain, top_there}
use Rattle.arj_law_cause.proofs.kinds.Walks as walks
use Rattle.arj_law_cause.proofs.kinds.Wanted.{AreWanted, Base, IsWanted, wanted_all}
use Rattle.arj_law_cause.proofs.rows.Holders.{one_passes}
use Rattle.arj_law_cause.proofs.rows.Meeting.{find_some, on_object}
use Rattle.arj_law_cause.proofs.rows.Rows.{used_is}
use Rattle.arj_law_cause.proofs.rows.Taking.{AskedPaths}
use Rattle.arj_law_cause.proofs.waits.waiting.Lists.{any_in}
use Rattle.arj_law_cause.specs.kinds.Kinds.{is_granted_entry}
use Rattle.arj_law_cause.specs.kinds.Rows.{TestHolds, TestedStep, tested}

-- ---- lines

-- such a lock is granted, and a line by which a node starts anew
abbrev of : Body → Bool
of (body.Up n i) = true
of b = is_granted_entry b

abbrev passes : Here → Body → Bool
passes h (body.Up n i) = is_restart h.event
passes h b = is_granted_by h b

quiet : (b : Body) → is_quiet_line b ≡ true → of b ≡ false
quiet (body.Granted n u o m) is = absurd (cc is)
quiet (body.Up n i) is = absurd (cc is)
quiet b is = refl

no_halt : (k : ℕ) → of (body.Halted k) ≡ false
no_halt k = refl

abbrev is_other : Body → Bool
is_other b = not (of b)

coord_other : (b : Body) → is_coord_line b ≡ true → is_other b ≡ true
coord_other (body.Granted n u o m) is = absurd (cc is)
coord_other (body.Up n i) is = absurd (cc is)
coord_other b is = refl

work_other : (b : Body) → is_work b ≡ true → is_other b ≡ true
work_other (body.Granted n u o m) is = absurd (cc is)
work_other (body.Up n i) is = absurd (cc is)
work_other b is = refl

server_other : (k : ℕ) (b : Body) → is_server_line k b ≡ true → is_other b ≡ true
server_other k (body.Granted n u o m) is =
    let object = (and_parts (n == k) ((o.node == 0) && (o.inc == 0)) is).1 in
    let zero_inc : o.inc ≡ 0 = eqb-true o.inc 0 (and_parts (o.node == 0) (o.inc == 0) object).1 in
    λ i. not (off (o.node == 0) (ap (λ z. z == 1) zero_inc) i)
  where
    off : (a : Bool) {b : Bool} → b ≡ false → (a && b) ≡ false
    off true is = is
    off false is = refl
server_other k (body.Up n i) is = absurd (cc is)
server_other k b is = refl

abbrev Others : List Effect → Type 0
Others es = saying.All is_other es

coord_others : (es : List Effect) → AreAll is_coord_effect es → Others es
coord_others = others.coord_others is_other coord_other work_other

-- a node starts anew in a restart
ups : (h : Here) (n i : ℕ) → tested passes (λ g. of) h (body.Up n i) ≡ true → is_restart h.event ≡ true
ups h n i is = is

-- ---- what is known besides

-- of what was asked, where naming is, and of what naming is asked
abbrev Extra : Header → Moment → Type 0
Extra hd M = ((Base M × AreWanted M) × Wide KnowsNames M) × Wide Entered M

extra_keep : (hd : Header) → KeepsAll hd (Extra hd)
extra_keep hd = keeps_both hd (λ M. (Base M × AreWanted M) × Wide KnowsNames M) (Wide Entered)
    (keeps_both hd (λ M. Base M × AreWanted M) (Wide KnowsNames) (wanted_all hd) (wide_all hd KnowsNames (names_keep hd)))
    (wide_all hd Entered (entered_keep hd))

-- ---- an event

module _ (hd : Header) (st : Start) (q : Past) (e : Event) (w : World) (shown : IsShown hd w) (lines_are : q.lines ≡ w.lines)
    (count_is : q.count ≡ w.event) where
  abbrev Number : ℕ
  Number = w.event + 1

  abbrev InIt : Moment → Type 0
  InIt M = (Known hd M × (Wide (Showing hd (length w.lines) Number) M × IsAnew Number M)) × Extra hd M

  abbrev Inside : Moment → Type 0
  Inside = walks.Inside passes hd of quiet no_halt st q e

  abbrev Well : List Effect → List Line → Type 0
  Well es ls = walks.Well passes hd of quiet no_halt st q e es ls

  abbrev at : List Line → Here
  at ls = walks.here_behind passes hd of quiet no_halt st q e ls

  others_well : (es : List Effect) (ls : List Line) → Others es → Well es ls
  others_well es ls all = walks.each_well passes hd of quiet no_halt st q e is_other (λ ms b is. λ i. is i || passes (at ms) b) es ls all

  -- ---- the line of a lock that is granted

  module _ (off : is_restart e ≡ false) (p : Path) (ls : List Line) (right : AreRight new_book ls) (t : IsTopBy ls p) (ms : List Line)
      (same : acts ms ≡ acts ls) (x : ℕ) (rows : List Row) (table_is : rows_on (entry x) (table 1 ms) ≡ rows) where
    line_passes : (m : Mode) → entry_asked (at ms) 1 t.top x m ≡ true → first_conflict (top_path p) (entry x) m rows ≡ None →
        is_granted (entry x) (last_uid (top_path p)) m rows ≡ false →
        tested passes (λ g. of) (at ms) (body.Granted 1 (last_uid (top_path p)) (entry x) m) ≡ true
    line_passes m asked free new = λ i. if off i then is_given_back (at ms) 1 (last_uid (top_path p)) (entry x) m
        && holds_in (λ a. is_for ms a x) (act_by ms (last_uid (top_path p))) else caused i
      where
        u : Uid
        u = last_uid (top_path p)

        strong : Row → Bool
        strong r = is_row_of (entry x) u r && nat_le (mode_code m) (mode_code r.mode)

        wider : (r : Row) → strong r ≡ true → uid_eq r.object (entry x) ≡ true
        wider r is = (and_parts (uid_eq r.object (entry x)) (uid_eq (last_uid r.holder) u)
            (and_parts (is_row_of (entry x) u r) (nat_le (mode_code m) (mode_code r.mode)) is).0).0

        raises : not (has_lock 1 u (entry x) m ms) ≡ true
        raises = ap not (any_in_some strong (λ (r : Row). uid_eq r.object (entry x)) wider (table 1 ms) ∙ ap (list_any strong) table_is ∙
            new)

        asker : asking_path (at ms) t.top (entry x) ≡ top_path p
        asker = (λ i. if off i then t.top.uid ∷ [] else top_uids (path (same i) (let a = t.top in a.label))) ∙ t.its_path

        meets_none : is_none (first_conflict (asking_path (at ms) t.top (entry x)) (entry x) m (table 1 ms)) ≡ true
        meets_none = ap (λ us. is_none (first_conflict us (entry x) m (table 1 ms))) asker
            ∙ ap is_none (find_some (is_against (top_path p) (entry x) m) (λ (r : Row). uid_eq r.object (entry x))
            (on_object (top_path p) (entry x) m) (table 1 ms)
            ∙ ap (find (is_against (top_path p) (entry x) m)) table_is ∙ free)

        caused : granted_caused (at ms) 1 u (entry x) m ≡ true
        caused = ap (holds_in (λ a. not (has_lock 1 u (entry x) m ms) && (is_none (first_conflict (asking_path (at ms) a (entry x)) (entry
            x) m
            (table 1 ms)) && entry_asked (at ms) 1 a x m)))
            (ap (find (λ (a : Act). uid_eq a.uid u)) same
            ∙ act_found (acts ls) (let s = its_sound ls right in s.distinct) t.top t.there u t.uid)
            ∙ (λ i. raises i && (meets_none i && asked i))

  -- ---- a Bind

  module _ (off : is_restart e ≡ false) (p : Path) (x : ℕ) (ls : List Line) (right : AreRight new_book ls) (t : IsTopBy ls p)
      (wanted : list_any (uses_below (top_of p) x) (q.accepted ++ asked_of q e ∷ []) ≡ true) (rows : List Row)
      (table_is : rows_on (entry x) (table 1 ls) ≡ rows) where
    abbrev leaves : Bool
    leaves = has_some (leaves_of ls (let a = t.top in a.id) x)

    asked_use : (m : Mode) → same_mode m mode.Exclude ≡ false → entry_asked (at ls) 1 t.top x m ≡ true
    asked_use m plain = λ i. t.first i && chosen i
      where
        used : list_any (uses_below (let a = t.top in a.uid) x) (q.accepted ++ asked_of q e ∷ []) ≡ true
        used = ap (λ v. list_any (uses_below v x) (q.accepted ++ asked_of q e ∷ [])) t.uid ∙ wanted

        chosen : (if same_mode m mode.Exclude then leaves || is_restart e && list_any (uses_below (let a = t.top in a.uid) x)
            (q.accepted ++ asked_of q e ∷ []) else list_any (uses_below (let a = t.top in a.uid) x) (q.accepted ++ asked_of q e ∷ [])
            || is_restart e && leaves) ≡ true
        chosen = λ i. if plain i then leaves || is_restart e && list_any (uses_below (let a = t.top in a.uid) x)
            (q.accepted ++ asked_of q e ∷ []) else used i || is_restart e && leaves

    -- a lock that nothing stands against
    locks_well : (m : Mode) → same_mode m mode.Exclude ≡ false → (o : Named) → o.rows ≡ rows → conflict_on x p m o ≡ None →
        (fs : List Effect) → Others fs → Well (lock_lines x p m o ++ fs) ls
    locks_well m plain o same free fs all = by (is_granted (entry x) (last_uid (top_path p)) m o.rows) refl
      where
        by : (b : Bool) → is_granted (entry x) (last_uid (top_path p)) m o.rows ≡ b →
            Well (cond b [] (Say (body.Granted 1 (last_uid (top_path p)) (entry x) m) ∷ []) ++ fs) ls
        by true on = others_well fs ls all
        by false new = (
          line_passes off p ls right t ls refl x rows table_is m (asked_use m plain) (ap (first_conflict (top_path p) (entry x) m) (sym
              same) ∙ free)
              (ap (is_granted (entry x) (last_uid (top_path p)) m) (sym same) ∙ new),
          others_well fs (ls ++ numbered (q.count + 1) (body.Granted 1 (last_uid (top_path p)) (entry x) m ∷ [])) all,
        )

    module _ (inc : ℕ) (en : Entry) (c : Counted) (same : (let o = c.named in o.rows) ≡ rows) (fs : List Effect) (rest : Others fs) where
      abbrev Then : Served Counted BoundReply → Type 0
      Then r = Well (r.outs ++ fs) ls

      live_well : (l : Live) (f : Option Row) → conflict_on x p mode.Read c.named ≡ f → Then (live_asked inc x p en c l f)
      live_well l None none = locks_well mode.Read refl c.named same none fs rest
      live_well l (Some r) found = others_well fs ls rest

      made_well : conflict_on x p mode.Write c.named ≡ None → (m : Option Made) → Then (bind_made inc x p en c m)
      made_well none (Some m) = locks_well mode.Write refl c.named same none fs rest
      made_well none None = subst (λ es. Well es ls) (sym (Words.append_assoc (lock_lines x p mode.Write c.named) (Say bound ∷ []) fs))
          (locks_well mode.Write refl c.named same none (Say bound ∷ fs) rest)
        where
          bound : Body
          bound = body.Bound x (record { inc = inc; count = c.count + 1 }) (Words.next_server (let o = c.named in o.turn) en.servers)

      asked_well : (avoid : Binding) (f : Option Row) → conflict_on x p mode.Write c.named ≡ f → Then (make_asked inc x p avoid en c f)
      asked_well avoid None none = made_well none (made_above avoid (at_uid (top_of p) (let o = c.named in o.made)))
      asked_well avoid (Some r) found = others_well fs ls rest

      call_well : (avoid : Binding) (l : Option Live) → Then (bind_call inc x p avoid en c l)
      call_well avoid (Some l) = live_well l (conflict_on x p mode.Read c.named) refl
      call_well avoid None = asked_well avoid (conflict_on x p mode.Write c.named) refl

      include_well : (f : Option Row) → conflict_on x p mode.Write c.named ≡ f → Then (include_asked inc x p en c f)
      include_well None none = locks_well mode.Write refl c.named same none fs rest
      include_well (Some r) found = others_well fs ls rest

      named_well : (include : Bool) (avoid : Binding) → Then (bind_named inc x p include avoid en c)
      named_well true avoid = include_well (conflict_on x p mode.Write c.named) refl
      named_well false avoid = call_well avoid (live_above avoid (let o = c.named in o.live))

  -- ---- a Confirm

  module _ (off : is_restart e ≡ false) (p : Path) (ls : List Line) (right : AreRight new_book ls) (t : IsTopBy ls p)
      (fits : HasTopPath (acts ls) p) (start : (q.count + 1 == up_of 1 ls) ≡ false) where
    abbrev u : Uid
    u = last_uid (top_path p)

    abbrev granted : ℕ → Body
    granted x = body.Granted 1 u (entry x) mode.Exclude

    -- naming after some locks, and the lines by then
    record Behind (n : Naming) (ms : List Line) : Type 0 where
      more : List Line
      are : ms ≡ ls ++ more
      same : acts ms ≡ acts ls
      life : up_of 1 ms ≡ up_of 1 ls
      rows : (y : ℕ) → rows_on (entry y) (table 1 ms) ≡ naming_rows y n

    -- no lock stands against this one, or it's there
    abbrev IsFree : ℕ → Option Named → Type 0
    IsFree y f = (conflict_in y p f ≡ None) ⊎ (is_granted (entry y) u mode.Exclude (rows_in_named f) ≡ true)

    -- the top excluded a store of the object
    abbrev IsLeft : ℕ → Type 0
    IsLeft y = (s : ℕ) × (is_among (leaves_of ls (let a = t.top in a.id) y) s ≡ true)

    asked_leaves : (n : Naming) (ms : List Line) → Behind n ms → (x : ℕ) → IsLeft x → entry_asked (at ms) 1 t.top x mode.Exclude ≡ true
    asked_leaves n ms b x l = λ i. first i && (has i || (is_restart e && list_any (uses_below (let a = t.top in a.uid) x)
        (q.accepted ++ asked_of q e ∷ [])))
      where
        first : is_top_in t.top (path (acts ms) (let a = t.top in a.label)) ≡ true
        first = ap (λ xs. is_top_in t.top (path xs (let a = t.top in a.label))) b.same ∙ t.first

        has : has_some (leaves_of ms (let a = t.top in a.id) x) ≡ true
        has = some_of (leaves_of ms (let a = t.top in a.id) x) l.0
            (ap (λ zs. is_among (leaves_of zs (let a = t.top in a.id) x) l.0) b.are ∙ leaves_later ls b.more (let a = t.top in a.id) x l.0
            l.1)

    module _ (x : ℕ) (n : Naming) (f : Named) (found : at_number x n.objects ≡ Some f) (ms : List Line) (b : Behind n ms) where
      abbrev with_lock : Naming
      with_lock = record n { objects = put_number x (locked x p mode.Exclude f) n.objects }

      moved : (y : ℕ) → IsFree y (at_number y n.objects) → IsFree y (at_number y (put_number x (locked x p mode.Exclude f) n.objects))
      moved y free = ⊎_elim {C = IsFree y (at_number y (put_number x (locked x p mode.Exclude f) n.objects))}
          (λ same. subst (λ z. IsFree z (at_number z (put_number x (locked x p mode.Exclude f) n.objects))) same
          (inr (ap (λ o. is_granted (entry x) u mode.Exclude (rows_in_named o)) (put_same x (locked x p mode.Exclude f) n.objects)
          ∙ asked_granted (entry x) (top_path p) (tops_of p) f.rows)))
          (λ apart. subst (IsFree y) (sym (put_other x y (locked x p mode.Exclude f) n.objects apart.0)) free)
          (one_or_two x y)

      -- it had the lock
      kept : is_granted (entry x) u mode.Exclude f.rows ≡ true → Behind with_lock ms
      kept on = record { more = b.more; are = b.are; same = b.same; life = b.life; rows = rows }
        where
          stays : (c : Bool) → is_granted (entry x) u mode.Exclude f.rows ≡ c → c ≡ true →
              f.rows ≡ cond c f.rows (grant_row (row_for (entry x) (top_path p) (tops_of p) mode.Exclude) f.rows)
          stays true is on = refl
          stays false is on = absurd (cc on)

          rows : (y : ℕ) → rows_on (entry y) (table 1 ms) ≡ naming_rows y with_lock
          rows y = ⊎_elim {C = rows_on (entry y) (table 1 ms) ≡ naming_rows y with_lock}
              (λ same. subst (λ z. rows_on (entry z) (table 1 ms) ≡ naming_rows z with_lock) same
              (b.rows x ∙ ap rows_in_named found ∙ stays (is_granted (entry x) u mode.Exclude f.rows) refl on
              ∙ sym (ap rows_in_named (put_same x (locked x p mode.Exclude f) n.objects))))
              (λ apart. b.rows y ∙ sym (ap rows_in_named (put_other x y (locked x p mode.Exclude f) n.objects apart.0)))
              (one_or_two x y)

      -- it gets it by a line
      next : is_granted (entry x) u mode.Exclude f.rows ≡ false → Behind with_lock (ms ++ numbered (q.count + 1) (granted x ∷ []))
      next new = record {
        more = b.more ++ numbered (q.count + 1) (granted x ∷ []);
        are = ap (λ zs. zs ++ numbered (q.count + 1) (granted x ∷ [])) b.are
            ∙ Words.append_assoc ls b.more (numbered (q.count + 1) (granted x ∷ []));
        same = acts_more [] ms (numbered (q.count + 1) (granted x ∷ [])) ∙ b.same;
        life = none_starts 1 (q.count + 1) (granted x ∷ []) refl ms ∙ b.life;
        rows = rows;
      }
        where
          hs : Words.Holders
          hs = holders_in (q.count + 1 == up_of 1 ms) (acts ms)

          its : IsPathOf (holders_in (q.count + 1 == up_of 1 ms) (acts ms)) u (top_path p) (tops_of p)
          its = subst (λ c. IsPathOf (holders_in c (acts ms)) u (top_path p) (tops_of p))
              (sym (ap (λ z. q.count + 1 == z) b.life ∙ start))
              (subst (λ xs. IsPathOf (holders_in false xs) u (top_path p) (tops_of p)) (sym b.same)
              (record { path_is = fits.0; tops_are = fits.1 }))

          rows : (y : ℕ) → rows_on (entry y) (table 1 (ms ++ numbered (q.count + 1) (granted x ∷ []))) ≡ naming_rows y with_lock
          rows y = own_line 1 part.Naming (entry y) refl (q.count + 1) (granted x) ms
              ∙ ⊎_elim {C = rows_by hs 1 part.Naming (entry y) (granted x) (rows_on (entry y) (table 1 ms)) ≡ naming_rows y with_lock}
              (λ same. subst (λ z. rows_by hs 1 part.Naming (entry z) (granted x) (rows_on (entry z) (table 1 ms)) ≡ naming_rows z
              with_lock) same
              (ap (rows_by hs 1 part.Naming (entry x) (granted x)) (b.rows x ∙ ap rows_in_named found)
              ∙ ap (λ c. rows_after hs 1 part.Naming (entry x) (cond c [] (Say (granted x) ∷ [])) f.rows) (sym new)
              ∙ asked_after hs 1 part.Naming (entry x) (top_path p) (tops_of p) mode.Exclude f.rows its
              ∙ sym (ap rows_in_named (put_same x (locked x p mode.Exclude f) n.objects))))
              (λ apart. ap (λ c. rows_after hs 1 part.Naming (entry y) (cond c [] (Say (granted x) ∷ [])) (rows_on (entry y) (table 1
              ms))) (sym new)
              ∙ asked_elsewhere hs 1 part.Naming (entry x) (entry y) (top_path p) (tops_of p) mode.Exclude f.rows
              (rows_on (entry y) (table 1 ms)) apart.1
              ∙ b.rows y ∙ sym (ap rows_in_named (put_other x y (locked x p mode.Exclude f) n.objects apart.0)))
              (one_or_two x y)

    excludes_well : (fs : List Effect) → Others fs → (xs : List ℕ) (n : Naming) (ms : List Line) → Behind n ms →
        ((x : ℕ) → In x xs → IsFree x (at_number x n.objects) × IsLeft x) → Well ((lock_all xs p n).outs ++ fs) ms
    excludes_well fs rest [] n ms b good = others_well fs ms rest
    excludes_well fs rest (x ∷ xs) n ms b good = subst (λ es. Well es ms) (sym (Words.append_assoc (lock_in x p n (at_number x
        n.objects)).outs
        (lock_all xs p (lock_in x p n (at_number x n.objects)).part).outs fs))
        (by (at_number x n.objects) refl (λ v zs c every. excludes_well fs rest xs v zs c every))
      where
        Later : Type 0
        Later = (v : Naming) (zs : List Line) → Behind v zs → ((y : ℕ) → In y xs → IsFree y (at_number y v.objects) × IsLeft y) →
            Well ((lock_all xs p v).outs ++ fs) zs

        by : (f : Option Named) → at_number x n.objects ≡ f → Later →
            Well ((lock_in x p n f).outs ++ ((lock_all xs p (lock_in x p n f).part).outs ++ fs)) ms
        by None found later = later n ms b (λ y i. good y (inr i))
        by (Some f) found later = one (is_granted (entry x) u mode.Exclude f.rows) refl
          where
            v : Naming
            v = record n { objects = put_number x (locked x p mode.Exclude f) n.objects }

            every : (y : ℕ) → In y xs → IsFree y (at_number y (put_number x (locked x p mode.Exclude f) n.objects)) × IsLeft y
            every y i = let z = good y (inr i) in (moved x n f found ms b y z.0, z.1)

            free : is_granted (entry x) u mode.Exclude f.rows ≡ false → first_conflict (top_path p) (entry x) mode.Exclude f.rows ≡ None
            free new = ⊎_elim {C = first_conflict (top_path p) (entry x) mode.Exclude f.rows ≡ None} (λ none. none)
                (λ on. (let no_way : true ≡ false = sym on ∙ new in absurd (cc no_way)))
                (subst (IsFree x) found (good x (inl refl)).0)

            one : (c : Bool) → is_granted (entry x) u mode.Exclude f.rows ≡ c →
                Well (cond c [] (Say (granted x) ∷ []) ++ ((lock_all xs p v).outs ++ fs)) ms
            one true on = later v ms (kept x n f found ms b on) every
            one false new = (
              line_passes off p ls right t ms b.same x f.rows (b.rows x ∙ ap rows_in_named found) mode.Exclude
                  (asked_leaves n ms b x (good x (inl refl)).1) (free new) new,
              later v (ms ++ numbered (q.count + 1) (granted x ∷ [])) (next x n f found ms b new) every,
            )

    confirm_well : (fs : List Effect) → Others fs → (grants : Words.Grants) (excluded included : Words.Marks) (d : Pair) (n : Naming) →
        ((y : ℕ) → rows_on (entry y) (table 1 ls) ≡ naming_rows y n) →
        ((m : ℕ × ℕ) → In m excluded → is_among (leaves_of ls (let a = t.top in a.id) m.0) m.1 ≡ true) →
        Well ((confirm p grants excluded included d n).outs ++ fs) ls
    confirm_well fs rest grants excluded included d n shows leaves = by (is_over p n || not (has_all grants n))
        (is_on n.confirmed (top_of p) || is_prepared (top_of p) d)
      where
        xs : List ℕ
        xs = wanted_locks (top_of p) grants excluded d

        first : Behind n ls
        first = record { more = []; are = sym (Words.append-nil ls); same = refl; life = refl; rows = shows }

        good : checked p grants excluded included d n ≡ None → (x : ℕ) → In x xs → IsFree x (at_number x n.objects) × IsLeft x
        good none x i =
            let parts = either_none (first_of_each (Rattle.arj_protocol.specs.Confirm.other_grant n) grants) (either (first_of_each
            (refused_exclude p n) xs) (either (first_of_each (Rattle.arj_protocol.specs.Confirm.is_there d) included)
            (first_of_each Rattle.arj_protocol.specs.Confirm.is_bare (entries_after (top_of p) grants excluded included d)))) none in
            let more = either_none (first_of_each (refused_exclude p n) xs) (either (first_of_each
            (Rattle.arj_protocol.specs.Confirm.is_there d) included) (first_of_each Rattle.arj_protocol.specs.Confirm.is_bare
            (entries_after (top_of p) grants excluded included d))) parts.1 in
            let free = none_mapped (λ (r : Row). Words.confirmed.Conflict (last_uid r.holder) r.mode) (conflict_in x p (at_number x
            n.objects))
            (none_each (refused_exclude p n) xs more.0 x i) in
            let wants = (in_filter (wants_lock (top_of p) excluded d) x (map (λ (z : ℕ × ℕ). z.0) grants) i).1 in
            let s = one_passes (is_wanted x (top_of p) d) (marked x excluded) wants in
            let m = in_map {X = ℕ × ℕ} {Y = ℕ} (λ (z : ℕ × ℕ). z.1) s.0 (filter (λ (z : ℕ × ℕ). z.0 == x) excluded) s.1 in
            let z = in_filter (λ (z : ℕ × ℕ). z.0 == x) m.0 excluded m.1 in (
              inl free,
              (
                (let w = m.0 in w.1),
                subst (λ y. is_among (leaves_of ls (let a = t.top in a.id) y) (let w = m.0 in w.1) ≡ true) (eqb-true (let w = m.0 in w.0)
                    x z.1)
                    (leaves m.0 z.0),
              ),
            )

        entries_well : checked p grants excluded included d n ≡ None → (states : List ObjectState) →
            Well ((confirm_entries (top_of p) states d (lock_all xs p n)).outs ++ fs) ls
        entries_well none [] = excludes_well fs rest xs n ls first (good none)
        entries_well none (s ∷ ss) = answer (prepare_answer (top_of p) (s ∷ ss) d)
          where
            with_more : (es : List Effect) → Others es → Well (((lock_all xs p n).outs ++ es) ++ fs) ls
            with_more es all = subst (λ zs. Well zs ls) (sym (Words.append_assoc (lock_all xs p n).outs es fs))
                (excludes_well (es ++ fs) (all_both (saying.says is_other) es fs all rest) xs n ls first (good none))

            answer : (a : Prep) → Well ((prepared_by (top_of p) (s ∷ ss) (lock_all xs p n) a).outs ++ fs) ls
            answer Words.Ready = with_more (Do Words.Look ∷ Do (Words.Prepare Words.role.Names (top_of p) (s ∷ ss))
                ∷ Say (body.Prepared 1 (top_of p) Words.role.Names) ∷ []) refl
            answer (Words.Already w) = with_more (Do Words.Look ∷ []) refl
            answer (Words.Old w z) = with_more (Do Words.Look ∷ []) refl
            answer (Words.InDoubt w holder) = with_more (Do Words.Look ∷ []) refl

        new : (r : Option ConfirmedReply) → checked p grants excluded included d n ≡ r →
            Well ((confirm_new p grants excluded included d n r).outs ++ fs) ls
        new (Some r) is = others_well fs ls rest
        new None is = entries_well is (entries_after (top_of p) grants excluded included d)

        by : (c y : Bool) → Well ((if c then void n else (if y then reply (Rattle.arj_protocol.specs.Confirm.confirms (top_of p) n)
            Words.confirmed.Yes else confirm_new p grants excluded included d n (checked p grants excluded included d n))).outs ++ fs) ls
        by true y = others_well fs ls rest
        by false true = others_well fs ls rest
        by false false = new (checked p grants excluded included d n) refl

  -- ---- a message, in an event that is no restart

  module _ (k : ℕ) (d : Disk) (t : Parts) (M : Moment) (known : InIt (up k d t M)) (inside : Inside M) (off : is_restart e ≡ false) where
    its_place : (let N = up k d t M in N.seen.nodes k) ≡ Some (record { number = k; disk = d; live = Some t })
    its_place = λ i. if same_number k i then Some (record { number = k; disk = d; live = Some t }) else M.seen.nodes k

    start_off : (Number == up_of k M.seen.lines) ≡ false
    start_off = tabled.start_off passes of quiet no_halt ups hd st q e w shown lines_are count_is off k d t M known.0.1.0 inside

    table_now : (k == 1) ≡ true → (x : ℕ) → rows_on (entry x) (table k M.seen.lines) ≡ named_locks x t.naming
    table_now = tabled.table_now passes of quiet no_halt ups hd st q e w shown lines_are count_is off k d t M known.0.1.0 inside

    first_node : (o : Naming) → t.naming ≡ Some o → k ≡ 1
    first_node o has =
        let names = (let z = known.1.0.1.2.1 in z.1 k (record { number = k; disk = d; live = Some t }) t its_place refl) in
        (let c : IsCounted k o M.seen.start M.seen.lines = names o has in c.first)

    message_well : (v : Parts) (from : ℕ) (m : Message) (outs : List Effect) →
        seen.In (record { from = from; to = k; message = m }) M.seen.sent → handle k d t from m ≡ Took v outs → Well outs M.seen.lines
    message_well v from m outs there is = subst (λ z. Well (saying.outs_of z) M.seen.lines) is (by (asks m) refl)
      where
        base : Wide (Showing hd (length w.lines) Number) (up k d t M)
        base = known.0.1.0

        S : Seen
        S = seen.with_sent base.0 (let N = up k d t M in N.seen)

        alike : AreAlike base.2.0 (acts M.seen.lines)
        alike = alike_of hd (length w.lines) Number base.2.0 S base.2.1.0

        fits : FitsAsked base.2.0 m (asks m)
        fits = (let good = base.2.1.0.1.0 in
            good.fits (record { from = from; to = k; message = m }) (base.1 (record { from = from; to = k; message = m }) there))

        right : AreRight new_book M.seen.lines
        right = let P = known.1.0.0.0.0.0 in (let z = P.2.1.1.2 in z.right)

        path_facts : (p : Path) → IsAsker base.2.0 p → (uids (path_by (acts M.seen.lines) (top_of p)) ≡ top_path p)
            × (tops_in (path_by (acts M.seen.lines) (top_of p)) ≡ tops_of p)
        path_facts p a =
            let good = base.2.1.0.1.0 in
            let f = path_fits base.2.0 (acts M.seen.lines) good.begun alike a.0 (in_from a.0 base.2.0 a.1) in
            subst (λ z. (uids (path_by (acts M.seen.lines) (top_of z)) ≡ top_path z) × (tops_in (path_by (acts M.seen.lines) (top_of z)) ≡
            tops_of z))
            a.2 ((let z = f.top_is in z.path_is), (let z = f.top_is in z.tops_are))

        bind_well : (h : Head) (x : ℕ) (include : Bool) (avoid : Binding) → asks m ≡ Some (h, ask.Bind x include avoid) → (o : Naming) →
            t.naming ≡ Some o → (rep : Reply) →
            Well ((naming.bind h.path x include avoid d.names o).outs ++ Send from (response (asked_by h) rep) ∷ []) M.seen.lines
        bind_well h x include avoid asked o has rep = by_over (is_over h.path o)
          where
            its : IsWanted M.past.askings h (ask.Bind x include avoid)
            its = known.1.0.0.1.1 (record { from = from; to = k; message = m }) h (ask.Bind x include avoid) there asked refl

            rest : List Effect
            rest = Send from (response (asked_by h) rep) ∷ []

            asker : IsAsker base.2.0 h.path
            asker = subst (FitsAsked base.2.0 m) asked fits

            top : IsTopBy M.seen.lines h.path
            top =
                let paths : AskedPaths M = known.1.0.0.1.0 in
                let f = paths its.asking its.there in
                let label = label_of (let k = its.asking.asked in k.event) in
                let at_first : top_in (path (acts f.first) label) ≡ Some its.top = ap top_in (sym f.path) ∙ its.top_is in
                is_top_by M.seen.lines right h.path (path_facts h.path asker) its.top
                (top_there M.seen.lines right its.top f.first f.more f.are label at_first)
                (top_plain M.seen.lines right its.top f.first f.more f.are label at_first) its.top_uid

            accepted : list.In its.asking.asked (q.accepted ++ asked_of q e ∷ [])
            accepted = inside.asked its.asking its.there (name its.label) (asks_label (let g = its.goal in g) (let k = its.asking.asked in
                k.event) its.event)
              where
                same_name : Words.bytes_eq (name its.label) (name its.label) ≡ true
                same_name = (Words.bytes_eq-Decides (name its.label) (name its.label)).1 refl

                asks_label : (g : Words.Goal) (ev : Event) → ev ≡ asks_goal its.label its.object g → is_ask_by (name its.label) ev ≡ true
                asks_label (Words.Run o) ev is = ap (is_ask_by (name its.label)) is ∙ same_name
                asks_label (Words.Include n) ev is = ap (is_ask_by (name its.label)) is ∙ same_name

            used : list_any (uses_below (top_of h.path) x) (q.accepted ++ asked_of q e ∷ []) ≡ true
            used = any_in (uses_below (top_of h.path) x) (q.accepted ++ asked_of q e ∷ []) its.asking.asked accepted
                (λ i. (ap (holds_of (λ (z : Act). uid_eq z.uid (top_of h.path))) its.top_is ∙ ap (λ u. uid_eq u (top_of h.path)) its.top_uid
                ∙ uid_same (top_of h.path)) i
                && (ap (holds_in (λ y. y == x)) (used_is (let k = its.asking.asked in k.event) its.label its.object its.goal its.event)
                ∙ ap (λ y. y == x) (sym its.is_for.0) ∙ same_number x) i)

            table_one : rows_on (entry x) (table 1 M.seen.lines) ≡ named_locks x t.naming
            table_one = subst (λ z. rows_on (entry x) (table z M.seen.lines) ≡ named_locks x t.naming) (first_node o has)
                (table_now (eq-eqb k 1 (first_node o has)) x)

            Outs : Served Naming BoundReply → Type 0
            Outs r = Well (r.outs ++ rest) M.seen.lines

            found_well : (f : Option Named) → at_number x o.objects ≡ f →
                Outs (on_counted x (bind_named o.inc x h.path include avoid (listed_entry x d.names)) o f)
            found_well None there = λ more are. tt
            found_well (Some f) there = named_well off h.path x M.seen.lines right top used f.rows
                (table_one ∙ ap (named_locks x) has ∙ ap Words.rows_in_named there) o.inc (listed_entry x d.names)
                (record { named = f; count = o.count }) refl rest refl include avoid

            by_over : (b : Bool) → Outs (cond {A = Served Naming BoundReply} b (void o)
                (on_counted x (bind_named o.inc x h.path include avoid (listed_entry x d.names)) o (at_number x o.objects)))
            by_over true = λ more are. tt
            by_over false = found_well (at_number x o.objects) refl

        serve_well : (h : Head) (a : Ask) → others.Needs is_other coord_other work_other k d t from h a →
            Well (saying.outs_of (serve k d t from h a)) M.seen.lines
        serve_well h a so = others_well (saying.outs_of (serve k d t from h a)) M.seen.lines
            (others.serve_others is_other coord_other work_other k d t from h a so)

        asked_well : (h : Head) (a : Ask) → asks m ≡ Some (h, a) → Well (saying.outs_of (serve k d t from h a)) M.seen.lines
        asked_well h (ask.Bind x include avoid) asked = named t.naming refl
          where
            named : (o : Option Naming) → t.naming ≡ o → Well (saying.outs_of (if_naming (λ n. served from h (with_naming t) Reply.Bound
                (naming.bind h.path x include avoid d.names n)) o)) M.seen.lines
            named None has = tt
            named (Some n) has = by_reply (naming.bind h.path x include avoid d.names n).reply
              where
                by_reply : (r : Option BoundReply) → Well (saying.outs_of (sends_answer from h
                    (with_naming t (naming.bind h.path x include avoid d.names n).part)
                    (naming.bind h.path x include avoid d.names n).outs (option_map Reply.Bound r))) M.seen.lines
                by_reply None = tt
                by_reply (Some r) = bind_well h x include avoid asked n has (Reply.Bound r)
        asked_well h (ask.Load x) asked = serve_well h (ask.Load x) tt
        asked_well h (ask.Activate b s) asked = serve_well h (ask.Activate b s) tt
        asked_well h (ask.Record x b i g) asked = serve_well h (ask.Record x b i g) tt
        asked_well h (ask.Invoke x b i es o) asked = serve_well h (ask.Invoke x b i es o)
            (saying.kind_says is_other (is_server_effect k) (is_server_line k) (λ b. refl) (server_other k)
            (server.invoke k h x b i es o t.server).outs (invoke_own k h x b i es o t.server))
        asked_well h (ask.Vote i ties es) asked = serve_well h (ask.Vote i ties es) tt
        asked_well h (ask.Prepare states) asked = serve_well h (ask.Prepare states) tt
        asked_well h (ask.Confirm g x i) asked = named t.naming refl
          where
            P : Post
            P = record { from = from; to = k; message = m }

            its : IsConfirmOf M.seen.lines h.path x i
            its = confirm_of (seen.with_sent known.1.1.0 (let N = up k d t M in N.seen)) known.1.1.2.0 P h g x i (known.1.1.1 P there) asked

            named : (o : Option Naming) → t.naming ≡ o → Well (saying.outs_of (if_naming (λ n. served from h (with_naming t) Reply.Confirmed
                (confirm h.path g x i d.names n)) o)) M.seen.lines
            named None has = tt
            named (Some n) has = by_reply (confirm h.path g x i d.names n).reply
              where
                first : k ≡ 1
                first = first_node n has

                shows : (y : ℕ) → rows_on (entry y) (table 1 M.seen.lines) ≡ naming_rows y n
                shows y = subst (λ z. rows_on (entry y) (table z M.seen.lines) ≡ named_locks y t.naming) first (table_now (eq-eqb k 1
                    first) y)
                    ∙ ap (named_locks y) has

                start : (q.count + 1 == up_of 1 M.seen.lines) ≡ false
                start = (λ i. count_is i + 1 == up_of (sym first i) M.seen.lines) ∙ start_off

                by_reply : (r : Option ConfirmedReply) → Well (saying.outs_of (sends_answer from h
                    (with_naming t (confirm h.path g x i d.names n).part) (confirm h.path g x i d.names n).outs (option_map
                    Reply.Confirmed r)))
                    M.seen.lines
                by_reply None = tt
                by_reply (Some r) = confirm_well off h.path M.seen.lines right its.top its.fits start
                    (Send from (response (asked_by h) (Reply.Confirmed r)) ∷ []) refl g x i d.names n shows its.left

        by : (o : Option (Head × Ask)) → asks m ≡ o → Well (saying.outs_of (handle_ask k d t from m o)) M.seen.lines
        by None asked = others_well (saying.outs_of (handle_ask k d t from m None)) M.seen.lines
            (others.unasked_others is_other coord_other work_other k d t from m)
        by (Some a) asked = asked_well a.0 a.1 asked

  well : walks.SaysWell passes hd of quiet no_halt st q e InIt
  well = record {
    message = λ k d t v from m outs M known h there meant may is. by (is_restart e) refl k d t v from m outs M known h there may is;
    act = λ k d t i M is brings fresh asks free known h. others_well (does i d.intents t.coord).outs M.seen.lines
        (coord_others (does i d.intents t.coord).outs (acts_own i d.intents t.coord));
    begin = λ k d t l how parent M brings fresh new gives none known h.
        let did = begin_action l how parent (parent_of parent t.coord) t.coord in
        others_well did.outs M.seen.lines (coord_others did.outs (acts_own (input.Begin l how parent) d.intents t.coord));
    tick = λ k d t M known h.
        let r = again_all t.coord.doings t.coord in
        others_well (tick_outs (record { number = k; disk = d; live = Some t }) t) M.seen.lines
        (all_both (saying.says is_other) (r.outs ++ tolds_again t.coord.telling) (map query_about (holders d t))
        (all_both (saying.says is_other) r.outs (tolds_again t.coord.telling) (coord_others r.outs (again_own t.coord.doings t.coord))
        (coord_others (tolds_again t.coord.telling) (tolds_again_own t.coord.telling)))
        (saying.map_says is_other query_about (holders d t) (λ u. refl)));
    restart = λ k d M its fresh known h.
        let restarts : is_restart e ≡ true = ap is_restart (sym h.event ∙ its) in
        restarted restarts k d M known (k == 1) refl;
  }
    where
      -- a lock that is given back
      back_passes : is_restart e ≡ true → (ms : List Line) (u o : Uid) (m : Mode) → is_given_back (at ms) 1 u o m ≡ true →
          holds_in (λ a. is_for ms a o.num) (act_by ms u) ≡ true → tested passes (λ g. of) (at ms) (body.Granted 1 u o m) ≡ true
      back_passes restarts ms u o m given its =
          (λ i. not (of (body.Granted 1 u o m)) || (if restarts i then given i && its i else granted_caused (at ms) 1 u o m))
          ∙ later (not (of (body.Granted 1 u o m)))
        where
          later : (b : Bool) → (b || true) ≡ true
          later true = refl
          later false = refl

      free_other : (b : Body) → is_free b ≡ true → is_other b ≡ true
      free_other (body.Granted n u o m) is = absurd (cc is)
      free_other (body.Up n i) is = absurd (cc is)
      free_other b is = refl

      -- it grants nothing, or it starts anew
      starts : Body → Bool
      starts b = not (is_granted_entry b)

      starts_pass : is_restart e ≡ true → (ms : List Line) (b : Body) → starts b ≡ true → tested passes (λ g. of) (at ms) b ≡ true
      starts_pass restarts ms (body.Up n i) is = restarts
      starts_pass restarts ms (body.Granted n u o m) is = λ i. is i || passes (at ms) (body.Granted n u o m)
      starts_pass restarts ms b is = refl

      coord_starts : (b : Body) → is_coord_line b ≡ true → starts b ≡ true
      coord_starts (body.Granted n u o m) is = absurd (cc is)
      coord_starts b is = refl

      restarted : is_restart e ≡ true → (k : ℕ) (d : Disk) (M : Moment) → InIt (moments.down k d M) → (b : Bool) → (k == 1) ≡ b →
          Well (restart_outs hd k (d.inc + 1) d) M.seen.lines
      restarted restarts k d M known false off =
          walks.each_well passes hd of quiet no_halt st q e starts (starts_pass restarts) (restart_outs hd k (d.inc + 1) d)
          M.seen.lines (saying.restart_says starts hd k (d.inc + 1) d coord_starts
          (λ one u o how. (let no_way : true ≡ false = sym one ∙ off in absurd (cc no_way))) (λ u. refl) refl)
      restarted restarts k d M known true one =
          subst (λ j. Well (restart_outs hd j (d.inc + 1) d) M.seen.lines) (sym (eqb-true k 1 one))
          (restart_well passes hd of quiet no_halt st q e (back_passes restarts)
          (λ ms b is. λ i. free_other b is i || passes (at ms) b) (d.inc + 1) d
          (disk_entries hd (length w.lines) Number k d M known.0.1.0) M.seen.lines
          (entered.right (seen.with_sent known.1.1.0 (let N = moments.down k d M in N.seen)) known.1.1.2.0)
          (disk_for k d None (seen.with_sent known.1.1.0 M.seen) known.1.1.2.1) restarts)

      by : (b : Bool) → is_restart e ≡ b → (k : ℕ) (d : Disk) (t v : Parts) (from : ℕ) (m : Message) (outs : List Effect) (M : Moment) →
          InIt (up k d t M) → Inside M → seen.In (record { from = from; to = k; message = m }) M.seen.sent → MayTake M.past.event m →
          handle k d t from m ≡ Took v outs → Well outs M.seen.lines
      by true on k d t v from m outs M known h there may is =
          let none = may (ap moments.is_restart h.event ∙ restart_is e on) in
          others_well outs M.seen.lines (subst (λ z. Others (saying.outs_of z)) (sym (ap (handle_ask k d t from m) none.0) ∙ is)
          (others.unasked_others is_other coord_other work_other k d t from m))
      by false off k d t v from m outs M known h there may is = message_well k d t M known h off v from m outs there is

-- ---- runs

its_of : (b : Body) → is_granted_entry b ≡ true → of b ≡ true
its_of (body.Up n i) is = absurd (cc is)
its_of b is = is

to_test : (h : Here) (b : Body) → is_granted_entry b ≡ true → ⊤ → passes h b ≡ true → is_granted_by h b ≡ true
to_test h (body.Up n i) its known is = absurd (cc its)
to_test h b its known is = is

pub granted_entry_row : TestHolds is_granted_by is_granted_entry
granted_entry_row hd r form =
    let lines = journal_by hd r in
    let runs : Runs (TestedStep passes (λ h. of) hd) r.start (run_events hd r) lines =
    row_run passes of quiet no_halt hd (λ M. Known hd M × Extra hd M)
    (keeps_both hd (Known hd) (Extra hd) (known_all hd) (extra_keep hd))
    (knows_with hd (Known hd) (Extra hd) (extra_keep hd) (shown_knows hd))
    (λ st q e w between lines count. well hd st q e w between lines count) r form in
    tested_row (λ ls b. ⊤) is_granted_entry passes is_granted_by to_test lines (λ before line behind is. tt) hd r.start (run_events hd r) (
      runs.0,
      runs.1,
      fewer_along passes of is_granted_entry its_of hd (run_events hd r) (at_start r.start) runs.0 runs.2,
      runs.3,
      runs.4,
    )
