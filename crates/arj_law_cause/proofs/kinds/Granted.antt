-- The row of locks that are granted on objects: the action was asked for a call of that mode, has no such lock at the node, and its path
-- meets none; and a restart grants none.
use Rattle.arj_law_parts.proofs.Words
use Words.{is_on, ⊤, ◌≡◌, ◌⊎◌, ◌∙◌, ◌==◌, ◌&&◌, ◌||◌, ◌++◌, ◌+◌, not, ℕ, Bool, true, false, cond, find, filter, if◌then◌else◌, List, []}
use Words.{◌∷◌, length}
use Words.{Option, Some, None, refl, sym, ap, subst, inl, inr, and_parts, append_assoc, list_all, list_any, nat_le, option_map, In}
use Words.{in_from, uid_eq, uid_is, nobody, object, op_mode, mode_code, is_row_of, is_against, first_conflict, last_uid, uids_of}
use Words.{Ask, Asked, Binding, Body, End, Event, Head, Header, Line, Message, Mode, ObjectState, Op, Path, Reply, Row, Start, Uid, What}
use Words.{asks}
use Words.{actor, answers, asked_by, heard, last_end, response, Copy, Did, Disk, Do, Effect, Pair, Prep, Say, Send, Served, acked}
use Words.{acked_own}
use Words.{InDoubt, Ready, Already, Old, did_nothing, either, held_at, holder_of, is_prepared, prepare_answer, reply, void, Naming}
use Words.{AreOfActions}
use Words.{Parts, Took, ack_told, by_reply, end_states, handle, handle_answer, handle_ask, handle_ends, handle_other, handle_told}
use Words.{heard_own, holders, if_naming, is_earlier, is_granted, load_by, load_held, naming_told, prepare_by, prepare_states, query_about}
use Words.{query_own, sends_answer, serve, served, store_told, with_coord, with_naming, with_server, at_number, at_uid, binding_eq}
use Words.{binding_less}
use Words.{AreAll, is_coord_effect, is_coord_line, is_naming_effect, is_naming_line, active_binding, apply_ends, ask_copy, changed_by}
use Words.{end_new}
use Words.{end_one, first_unbound, has_ended, invoke_copy, invoke_kept, invoke_new, invoke_now, is_below, is_told, on_copy, other_inc}
use Words.{took_copy, vote_now, Kept, Server, rows_by, rows_in_copy, server_rows, acts as does, acts_own, again_all, again_own, all_both}
use Words.{begin_action, bind_own, confirm, confirm_own, map, map_own, note_own, numbered, parent_of, restart_outs, tick_outs, told_own}
use Words.{tolds_again, tolds_again_own, Seen}
use Words.{AllByRecursion, Label, Look, Node, Event, PutInc, back_lines, bytes_eq, bytes_eq-Decides, flat_map, hello_to, name}
use Words.{named_back, naming_at, naming_back, numbers_to, pending_of, prepared_actions, recovered_naming, recovered_records, rows_back}
use Words.{uid_same, uid_set, unnamed, without_number}
use Words.ask
use Words.body
use Words.event
use Words.list
use Words.ending
use Words.input
use Words.message
use Words.naming
use Words.part
use Words.prepared
use Words.server
use Rattle.arj_law_parts.proofs.moves.Happens.{Wide}
use Rattle.arj_law_lock_view.specs.asking.Asked.{asks_goal}
use Rattle.arj_law_parts.proofs.parts.Begun.{on_own}
use Rattle.arj_law_parts.specs.moves.Moments.{MayTake, Moment, up}
use Rattle.arj_law_parts.specs.moves.Moments as moments
use Rattle.arj_law_parts.specs.moves.Seen.{is_quiet_line}
use Rattle.arj_law_parts.specs.moves.Seen as seen
use Rattle.arj_law_parts.specs.parts.Ends.{brought}
use Rattle.arj_law_parts.specs.parts.Messages.{FitsAsked, IsAsker}
use Rattle.arj_law_runs.proofs.kept.Walked.{same_number}
use Rattle.arj_law_runs.specs.follow.Frames.{are_so, run_events}
use Rattle.arj_law_serial.proofs.Terms
use Terms.{Act, AreAlike, IsEntry, acts, acts_more, has_act, holders_in, path, path_by, rows_on, uids}
use Terms.{up_of}
use Rattle.arj_law_serial.proofs.holding.{Events.IsShown, Facts.on_path, Facts.someone, Lines.own_line}
use Rattle.arj_law_serial.proofs.holding.{Running.Showing, Running.alike_of}
use Rattle.arj_law_serial.proofs.holding.Says as saying
use Rattle.arj_law_serial.proofs.order.Paths.{found}
use Rattle.arj_law_serial.proofs.tables.Holders.{path_fits}
use Rattle.arj_law_serial.specs.past.Told.{ArePastIn, IsPast, SaysPast, live_in}
use Rattle.arj_model.specs.CauseAnswers.{has_lock, mode_of_call}
use Rattle.arj_model.specs.CauseLocks.{calls_in, entry_asked, is_last, is_restart, object_asked}
use Rattle.arj_model.specs.CauseSpans.{Here, behind, here_at, holds_in, same_mode, top_uids}
use Rattle.arj_model.specs.Caused.{has_cause}
use Rattle.arj_model.specs.Follows.{Runs}
use Rattle.arj_model.specs.Past.{Along, Past, asked_of, at_start, next}
use Rattle.arj_model.specs.Past.{Asked as Asked_of}
use Rattle.arj_model.specs.Refusals.{is_ask_by, object_used}
use Rattle.arj_model.specs.Table.{is_entry, table}
use Rattle.arj_promise.specs.Runs.{journal_by}
use Rattle.arj_protocol.proofs.ServerTable.{one_end}
use Rattle.std.specs.Prelude.{is_none}
use Rattle.arj_law_cause.proofs.rows.Holders.{begun_act, one_passes}
use Rattle.arj_law_cause.proofs.rows.Meeting.{find_some, on_object}
use Rattle.arj_law_cause.proofs.rows.Paths.{label_path}
use Rattle.arj_law_cause.proofs.bindings.Every.{keeps_both, knows_with}
use Rattle.arj_law_cause.proofs.bindings.Tabled as tabled
use Rattle.arj_law_cause.proofs.kinds.Anew.{IsAnew}
use Rattle.arj_law_cause.proofs.kinds.Committed.{IsDecided, act_found, decided_line, right_lines}
use Rattle.arj_law_cause.proofs.kinds.Ended.{Known, known_all}
use Rattle.arj_law_cause.proofs.kinds.Lines.{tested_row}
use Rattle.arj_law_cause.proofs.kinds.Others as others
use Rattle.arj_law_cause.proofs.kinds.Others.{is_work}
use Rattle.arj_law_cause.proofs.kinds.Running.{row_run}
use Rattle.arj_law_cause.proofs.kinds.Served.{all_ends, fewer_along, restart_is, shown_knows}
use Rattle.arj_law_cause.proofs.kinds.Walks as walks
use Rattle.arj_law_cause.proofs.kinds.Wanted.{AreWanted, Base, wanted_all}
use Rattle.arj_law_cause.proofs.waits.waiting.Lists.{any_in}
use Rattle.arj_law_cause.specs.kinds.Kinds.{is_granted_object}
use Rattle.arj_law_cause.specs.kinds.Rows.{RowHolds, RowStep, TestedStep, row, tested}

-- ---- lines

-- a lock on an object is granted, and a line by which a node starts anew
abbrev of : Body → Bool
of (body.Granted n u o m) = not (is_entry o)
of (body.Up n i) = true
of b = false

-- the action has no such lock there, and its path meets none
abbrev is_free_for : List Line → List Uid → ℕ → Uid → Uid → Mode → Bool
is_free_for ls us n u o m = not (has_lock n u o m ls) && is_none (first_conflict us o m (table n ls))

-- so it is of an action that began and was asked, but in no restart; and a node starts anew in one
abbrev passes : Here → Body → Bool
passes h (body.Granted n u o m) = object_asked h u o.num m
    && (has_act (acts h.lines) u && is_free_for h.lines (uids (path_by (acts h.lines) u)) n u o m)
passes h (body.Up n i) = is_restart h.event
passes h b = true

-- what is so of a line of these kinds: nothing is asked of one by which a node starts anew
abbrev granted_or_starts : Here → Body → Bool
granted_or_starts h (body.Up n i) = true
granted_or_starts h b = has_cause h b

quiet : (b : Body) → is_quiet_line b ≡ true → of b ≡ false
quiet (body.Granted n u o m) is = absurd (cc is)
quiet (body.Up n i) is = absurd (cc is)
quiet b is = refl

no_halt : (k : ℕ) → of (body.Halted k) ≡ false
no_halt k = refl

abbrev is_other : Body → Bool
is_other b = not (of b)

coord_other : (b : Body) → is_coord_line b ≡ true → is_other b ≡ true
coord_other (body.Granted n u o m) is = absurd (cc is)
coord_other (body.Up n i) is = absurd (cc is)
coord_other b is = refl

naming_other : (b : Body) → is_naming_line b ≡ true → is_other b ≡ true
naming_other (body.Granted n u o m) is = let on = (and_parts (n == 1) (is_entry o) is).1 in λ i. not (not (on i))
naming_other (body.Up n i) is = absurd (cc is)
naming_other b is = refl

-- no lock on an object is granted
abbrev is_free : Body → Bool
is_free b = not (is_granted_object b)

coord_free : (b : Body) → is_coord_line b ≡ true → is_free b ≡ true
coord_free (body.Granted n u o m) is = absurd (cc is)
coord_free b is = refl

-- a node starts anew in a restart
ups : (h : Here) (n i : ℕ) → tested passes (λ g. of) h (body.Up n i) ≡ true → is_restart h.event ≡ true
ups h n i is = is

-- ---- what a node says at any message but an Invoke

work_other : (b : Body) → is_work b ≡ true → is_other b ≡ true
work_other (body.Granted n u o m) is = absurd (cc is)
work_other (body.Up n i) is = absurd (cc is)
work_other b is = refl

abbrev Others : List Effect → Type 0
Others es = saying.All is_other es

coord_others : (es : List Effect) → AreAll is_coord_effect es → Others es
coord_others = others.coord_others is_other coord_other work_other

naming_others : (es : List Effect) → AreAll is_naming_effect es → Others es
naming_others = saying.kind_says is_other is_naming_effect is_naming_line (λ b. refl) naming_other

abbrev is_invoke : Ask → Bool
is_invoke (ask.Invoke x b i es o) = true
is_invoke a = false

serve_others : (k : ℕ) (d : Disk) (t : Parts) (from : ℕ) (h : Head) (a : Ask) → is_invoke a ≡ false →
    Others (saying.outs_of (serve k d t from h a))
serve_others k d t from h a off = others.serve_others is_other coord_other work_other k d t from h a (needs a off)
  where
    needs : (a : Ask) → is_invoke a ≡ false → others.Needs is_other coord_other work_other k d t from h a
    needs (ask.Bind x include avoid) off = λ n. naming_others (naming.bind h.path x include avoid d.names n).outs
        (bind_own h.path x include avoid d.names n)
    needs (ask.Invoke x b i es o) off = absurd (cc off)
    needs (ask.Confirm grants excluded included) off = λ n. naming_others (confirm h.path grants excluded included d.names n).outs
        (confirm_own h.path grants excluded included d.names n)
    needs a off = tt

-- ---- a restart

all_entries : (es : List (Uid × ObjectState)) → AllByRecursion (λ (x : Uid × ObjectState). IsEntry x.0 × ⊤) es →
    AllByRecursion (λ (x : Uid × ObjectState). is_entry x.0 ≡ true) es
all_entries [] all = tt
all_entries (x ∷ es) all = (ap is_entry all.0.0, all_entries es all.1)

-- it grants no lock on an object
starts_free : (hd : Header) (n inc : ℕ) (d : Disk) →
    AllByRecursion (λ (x : Uid × ObjectState). is_entry x.0 ≡ true) (let p = d.names in p.held) → saying.All is_free (restart_outs hd n inc d)
starts_free hd n inc d entries =
    let back = naming_back (naming_at n inc d.names) in
    let records = Do Look ∷ recovered_records n d.intents in
    let questions = map query_about (uid_set (prepared_actions d.store ++ prepared_actions d.names)) in
    let hellos = map (hello_to n inc) (without_number n (numbers_to hd.nodes)) in
    let first = Do Look ∷ Do (PutInc inc) ∷ Say (body.Up n inc) ∷ Do Look ∷ back in
    all_both (saying.says is_free) (first ++ records ++ tolds_again d.intents ++ questions) hellos
    (all_both (saying.says is_free) (first ++ records ++ tolds_again d.intents) questions
    (all_both (saying.says is_free) (first ++ records) (tolds_again d.intents)
    (all_both (saying.says is_free) first records (named (n == 1)) (saying.map_says is_free _ d.intents (λ e. refl)))
    (saying.kind_says is_free is_coord_effect is_coord_line (λ b. refl) coord_free (tolds_again d.intents) (tolds_again_own d.intents)))
    (saying.map_says is_free query_about (uid_set (prepared_actions d.store ++ prepared_actions d.names)) (λ u. refl)))
    (saying.map_says is_free (hello_to n inc) (without_number n (numbers_to hd.nodes)) (λ m. refl))
  where
    each : (es : List (Uid × ObjectState)) → AllByRecursion (λ (x : Uid × ObjectState). is_entry x.0 ≡ true) es →
        saying.All is_free (flat_map (λ (e : ℕ × Words.Named). back_lines e.1) (map (named_back d.names) es))
    each [] all = refl
    each (x ∷ es) all = all_both (saying.says is_free) (back_lines (unnamed (rows_back x.0 x.1 (pending_of x.0 (let p = d.names in p.pend)))))
        (flat_map (λ (e : ℕ × Words.Named). back_lines e.1) (map (named_back d.names) es)) (one (pending_of x.0 (let p = d.names in p.pend)))
        (each es all.1)
      where
        one : (o : Option (Uid × ObjectState)) → saying.All is_free (back_lines (unnamed (rows_back x.0 x.1 o)))
        one None = refl
        one (Some z) = λ i. not (not (all.0 i)) && true

    named : (b : Bool) → saying.All is_free (naming_back (cond b (Some (recovered_naming inc d.names)) None))
    named false = refl
    named true = each (let p = d.names in p.held) entries

-- ---- lists

pub any_in_some : {A : Type 0} (p q : A → Bool) → ((a : A) → p a ≡ true → q a ≡ true) → (xs : List A) → list_any p xs ≡ list_any p (filter q xs)
any_in_some p q wider [] = refl
any_in_some p q wider (x ∷ xs) = by (p x) refl (q x) refl (any_in_some p q wider xs)
  where
    by : (b : Bool) → p x ≡ b → (c : Bool) → q x ≡ c → list_any p xs ≡ list_any p (filter q xs) →
        (b || list_any p xs) ≡ list_any p (cond c (x ∷ filter q xs) (filter q xs))
    by true is true also ih = λ i. sym is i || list_any p (filter q xs)
    by true is false off ih = let no_way : true ≡ false = sym (wider x is) ∙ off in absurd (cc no_way)
    by false is true also ih = ih ∙ (λ i. sym is i || list_any p (filter q xs))
    by false is false off ih = ih

-- ---- what was asked

-- a call of this action, by an operation of this mode
last_is : (us : List Act) → is_on (uids us) (last_uid (uids us)) ≡ true → is_last (last_uid (uids us)) us ≡ true
last_is [] is = absurd (cc is)
last_is (a ∷ []) is = uid_same a.uid
last_is (a ∷ b ∷ rest) is = last_is (b ∷ rest) (is_there b.uid (uids rest))
  where
    is_there : (v : Uid) (us : List Uid) → is_on (v ∷ us) (last_uid (v ∷ us)) ≡ true
    is_there v [] = λ i. uid_same v i || false
    is_there v (w ∷ us) = λ i. or_right (uid_eq v (last_uid (w ∷ us))) (is_there w us) i
      where
        or_right : (b : Bool) {c : Bool} → c ≡ true → (b || c) ≡ true
        or_right true is = refl
        or_right false is = is

asked_here : (accepted : List Asked_of) (k : Asked_of) → list.In k accepted → (p : Path) (l : Label) (x : ℕ) (o : Op) →
    k.event ≡ event.Call l x o → uids k.path ≡ uids_of p → list_any (calls_in (last_uid (uids_of p)) x (op_mode o)) accepted ≡ true
asked_here accepted k there p l x o is path = any_in (calls_in (last_uid (uids_of p)) x (op_mode o)) accepted k there
    (λ i. its i && ((ap (λ e. holds_in (λ y. y == x) (object_used e)) is ∙ same_number x) i
    && (ap (λ e. holds_in (same_mode (op_mode o)) (mode_of_call e)) is ∙ same_number (mode_code (op_mode o))) i))
  where
    its : is_last (last_uid (uids_of p)) k.path ≡ true
    its = ap (λ us. is_last (last_uid us) k.path) (sym path)
        ∙ last_is k.path (subst (λ us. is_on us (last_uid us) ≡ true) (sym path) (on_own p))

-- ---- an event

module _ (hd : Header) (st : Start) (q : Past) (e : Event) (w : Words.World) (shown : IsShown hd w) (lines_are : q.lines ≡ w.lines)
    (count_is : q.count ≡ w.event) where
  abbrev Number : ℕ
  Number = w.event + 1

  abbrev InIt : Moment → Type 0
  InIt M = (Known hd M × (Wide (Showing hd (length w.lines) Number) M × IsAnew Number M)) × (Base M × AreWanted M)

  abbrev Inside : Moment → Type 0
  Inside = walks.Inside passes hd of quiet no_halt st q e

  abbrev Well : List Effect → List Line → Type 0
  Well es ls = walks.Well passes hd of quiet no_halt st q e es ls

  abbrev at : List Line → Here
  at ls = walks.here_behind passes hd of quiet no_halt st q e ls

  others_well : (es : List Effect) (ls : List Line) → Others es → Well es ls
  others_well es ls all = walks.each_well passes hd of quiet no_halt st q e is_other (λ ms b is. λ i. is i || passes (at ms) b) es ls all

  -- in a restart nothing is asked, and naming gives back locks on entries alone
  free_passes : is_restart e ≡ true → (ms : List Line) (b : Body) → is_free b ≡ true → tested passes (λ g. of) (at ms) b ≡ true
  free_passes is ms (body.Granted n u o m) free = λ i. free i || passes (at ms) (body.Granted n u o m)
  free_passes is ms (body.Up n i) free = is
  free_passes is ms b free = refl

  free_well : is_restart e ≡ true → (es : List Effect) (ls : List Line) → saying.All is_free es → Well es ls
  free_well is es ls all = walks.each_well passes hd of quiet no_halt st q e is_free (λ ms b f. free_passes is ms b f) es ls all

  -- ---- an Invoke

  -- a call in this mode was accepted
  abbrev IsAskedFor : Path → ℕ → Mode → Type 0
  IsAskedFor p x m = list_any (calls_in (last_uid (uids_of p)) x m) (q.accepted ++ asked_of q e ∷ []) ≡ true

  module _ (off : is_restart e ≡ false) (k : ℕ) (p : Path) (ls : List Line) (began : has_act (acts ls) (last_uid (uids_of p)) ≡ true)
      (own : uids (path_by (acts ls) (last_uid (uids_of p))) ≡ uids_of p) where
    -- the table has the server's locks, and no action began since
    abbrev IsTable : Server → List Line → Type 0
    IsTable s ms = ((x : ℕ) → rows_on (object x) (table k ms) ≡ server_rows x s) × (acts ms ≡ acts ls)

    ends_well : (es : List (Uid × End)) (s : Server) (fs : List Effect) → AreOfActions es →
        ((ms : List Line) → IsTable (apply_ends k es s).part ms → Well fs ms) → (ms : List Line) → IsTable s ms →
        Well ((apply_ends k es s).outs ++ fs) ms
    ends_well [] s fs of_acts rest ms t = rest ms t
    ends_well (c ∷ es) s fs of_acts rest ms t = by out (ends_well es (end_one k c.0 c.1 s).part fs of_acts.1 rest)
      where
        d : Did Server
        d = end_one k c.0 c.1 s

        Out : Did Server → Type 0
        Out v = (v.outs ≡ []) ⊎ ((f : End) × (v.outs ≡ Say (body.Told k c.0 f part.Server) ∷ []))

        out : Out d
        out = told (is_told c.0 s)
          where
            f : End
            f = server.taken_end c.0 c.1 s

            lines : (b : Bool) → (cond b (Say (body.Told k c.0 f part.Server) ∷ []) [] ≡ [])
                ⊎ ((g : End) × (cond b (Say (body.Told k c.0 (server.taken_end c.0 c.1 s) part.Server) ∷ []) [] ≡ Say
                (body.Told k c.0 g part.Server) ∷ []))
            lines true = inr (f, refl)
            lines false = inl refl

            told : (b : Bool) → Out (cond b (did_nothing s) (end_new k c.0 (server.taken_end c.0 c.1 s) s))
            told true = inl refl
            told false = lines (server.has_locks c.0 s)

        rows_then : (h : Words.Holders) (x : ℕ) →
            server_rows x d.part ≡ Words.rows_after h k part.Server (object x) d.outs (server_rows x s)
        rows_then h x = one_end h k x c.0 c.1 s of_acts.0

        by : Out d → ((ns : List Line) → IsTable d.part ns → Well ((apply_ends k es d.part).outs ++ fs) ns) →
            Well ((d.outs ++ (apply_ends k es d.part).outs) ++ fs) ms
        by (inl none) ih = subst (λ outs. Well ((outs ++ (apply_ends k es d.part).outs) ++ fs) ms) (sym none)
            (ih ms (
              (λ x. t.0 x ∙ sym (rows_then (holders_in false []) x
                  ∙ ap (λ outs. Words.rows_after (holders_in false []) k part.Server (object x) outs (server_rows x s)) none)),
              t.1,
            ))
        by (inr one) ih =
            let b = body.Told k c.0 one.0 part.Server in
            let h = holders_in (q.count + 1 == up_of k ms) (acts ms) in
            subst (λ outs. Well ((outs ++ (apply_ends k es d.part).outs) ++ fs) ms) (sym one.1) (
              refl,
              ih (ms ++ numbered (q.count + 1) (b ∷ [])) (
                (λ x. own_line k part.Server (object x) refl (q.count + 1) b ms
                    ∙ ap (rows_by h k part.Server (object x) b) (t.0 x)
                    ∙ sym (rows_then h x ∙ ap (λ outs. Words.rows_after h k part.Server (object x) outs (server_rows x s)) one.1)),
                acts_more [] ms (numbered (q.count + 1) (b ∷ [])) ∙ t.1,
              ),
            )

    -- the line of a lock that is granted
    granted_passes : (x : ℕ) (m : Mode) (c : Copy) (v : Server) (ms : List Line) → IsTable v ms → at_number x v.objects ≡ Some c →
        first_conflict (uids_of p) (object x) m c.rows ≡ None → is_granted (object x) (last_uid (uids_of p)) m c.rows ≡ false →
        IsAskedFor p x m → tested passes (λ g. of) (at ms) (body.Granted k (last_uid (uids_of p)) (object x) m) ≡ true
    granted_passes x m c v ms t there free new asked = λ i. (not (off i) && asked i)
        && ((ap (λ xs. has_act xs u) t.1 ∙ began) i && (raises i && meets_none i))
      where
        u : Uid
        u = last_uid (uids_of p)

        rows : rows_on (object x) (table k ms) ≡ c.rows
        rows = t.0 x ∙ ap rows_in_copy there

        strong : Row → Bool
        strong r = is_row_of (object x) u r && nat_le (mode_code m) (mode_code r.mode)

        wider : (r : Row) → strong r ≡ true → uid_eq r.object (object x) ≡ true
        wider r is = (and_parts (uid_eq r.object (object x)) (uid_eq (last_uid r.holder) u)
            (and_parts (is_row_of (object x) u r) (nat_le (mode_code m) (mode_code r.mode)) is).0).0

        raises : not (has_lock k u (object x) m ms) ≡ true
        raises = ap not (any_in_some strong (λ (r : Row). uid_eq r.object (object x)) wider (table k ms) ∙ ap (list_any strong) rows ∙ new)

        its_path : uids (path_by (acts ms) u) ≡ uids_of p
        its_path = ap (λ xs. uids (path_by xs u)) t.1 ∙ own

        meets_none : is_none (first_conflict (uids (path_by (acts ms) u)) (object x) m (table k ms)) ≡ true
        meets_none = ap (λ us. is_none (first_conflict us (object x) m (table k ms))) its_path
            ∙ ap is_none (find_some (is_against (uids_of p) (object x) m) (λ (r : Row). uid_eq r.object (object x))
            (on_object (uids_of p) (object x) m) (table k ms)
            ∙ ap (find (is_against (uids_of p) (object x) m)) rows ∙ free)

    copied : (x : ℕ) (o : Op) (v : Server) (fs : List Effect) → IsAskedFor p x (op_mode o) → Others fs → (ms : List Line) → IsTable v ms →
        (f : Option Copy) → at_number x v.objects ≡ f → Well ((on_copy x (invoke_copy k p x o) v f).outs ++ fs) ms
    copied x o v fs asked rest ms t None there = others_well fs ms rest
    copied x o v fs asked rest ms t (Some c) there = by (first_conflict (uids_of p) (object x) (op_mode o) c.rows) refl
      where
        by : (r : Option Row) → first_conflict (uids_of p) (object x) (op_mode o) c.rows ≡ r → Well ((ask_copy k p x o c r).outs ++ fs) ms
        by (Some r) found = others_well fs ms rest
        by None found = one (is_granted (object x) (last_uid (uids_of p)) (op_mode o) c.rows) refl
          where
            one : (b : Bool) → is_granted (object x) (last_uid (uids_of p)) (op_mode o) c.rows ≡ b →
                Well (cond b [] (Say (body.Granted k (last_uid (uids_of p)) (object x) (op_mode o)) ∷ []) ++ fs) ms
            one true is = others_well fs ms rest
            one false is = (
              granted_passes x (op_mode o) c v ms t there found is asked,
              others_well fs (ms ++ numbered (q.count + 1) (body.Granted k (last_uid (uids_of p)) (object x) (op_mode o) ∷ [])) rest,
            )

  module _ (off : is_restart e ≡ false) (k : ℕ) (d : Disk) (t : Parts) (from : ℕ) (h : Head) (ls : List Line)
      (began : has_act (acts ls) (last_uid (uids_of (let z = h in z.path))) ≡ true)
      (own : uids (path_by (acts ls) (last_uid (uids_of (let z = h in z.path)))) ≡ uids_of (let z = h in z.path))
      (table_is : (x : ℕ) → rows_on (object x) (table k ls) ≡ server_rows x (let z = t in z.server)) where
    abbrev Then : List Effect → Type 0
    Then outs = (fs : List Effect) → Others fs → Well (outs ++ fs) ls

    nothing : Then []
    nothing fs all = others_well fs ls all

    invoke_well : (x : ℕ) (b : Binding) (i : ℕ) (es : List (Uid × End)) (o : Op) → AreOfActions es →
        IsAskedFor (let z = h in z.path) x (op_mode o) → Then (server.invoke k h x b i es o t.server).outs
    invoke_well x b i es o of_acts wanted =
        by (has_ended h.path s || is_below h.req (at_uid (actor h.path) s.kept)) (changed_by i x b s)
      where
        s : Server
        s = t.server

        new : Then (invoke_new k h x es o s).outs
        new fs all =
            let v = (apply_ends k es s).part in
            let asked = (on_copy x (invoke_copy k h.path x o) v (at_number x v.objects)).outs in
            subst (λ outs. Well outs ls) (sym (append_assoc (apply_ends k es s).outs asked fs))
            (ends_well off k h.path ls began own es s (asked ++ fs) of_acts
            (λ ms is. copied off k h.path ls began own x o v fs wanted all ms is (at_number x v.objects) refl) ls (table_is, refl))

        again : (f : Option Kept) → Then (invoke_kept k h x es o s f).outs
        again None = new
        again (Some f) = one (f.req == h.req)
          where
            one : (c : Bool) → Then (cond {A = Served Server Words.InvokedReply} c (reply s f.answer) (invoke_new k h x es o s)).outs
            one true = nothing
            one false = new

        now : (f : Option What) → Then (invoke_now k h x es o s f).outs
        now (Some f) = nothing
        now None = again (at_uid (actor h.path) s.kept)

        by : (c : Bool) (f : Option What) → Then (cond {A = Served Server Words.InvokedReply} c (void s) (invoke_now k h x es o s f)).outs
        by true f = nothing
        by false f = now f

    invoked : (x : ℕ) (b : Binding) (i : ℕ) (es : List (Uid × End)) (o : Op) → AreOfActions es →
        IsAskedFor (let z = h in z.path) x (op_mode o) → Well (saying.outs_of (serve k d t from h (ask.Invoke x b i es o))) ls
    invoked x b i es o of_acts wanted = by (server.invoke k h x b i es o t.server).reply
      where
        by : (r : Option Words.InvokedReply) → Well (saying.outs_of (sends_answer from h
            (with_server t (server.invoke k h x b i es o t.server).part) (server.invoke k h x b i es o t.server).outs
            (option_map Reply.Invoked r))) ls
        by None = tt
        by (Some r) = invoke_well x b i es o of_acts wanted (Send from (response (asked_by h) (Reply.Invoked r)) ∷ []) refl

  -- ---- a message, in an event that is no restart

  module _ (k : ℕ) (d : Disk) (t : Parts) (M : Moment) (known : InIt (up k d t M)) (inside : Inside M) (off : is_restart e ≡ false) where
    same_name : (l : Label) → bytes_eq (name l) (name l) ≡ true
    same_name l = (bytes_eq-Decides (name l) (name l)).1 refl

    table_now : (x : ℕ) → rows_on (object x) (table k M.seen.lines) ≡ server_rows x t.server
    table_now x =
        let r = tabled.shows_now passes of quiet no_halt ups hd st q e w shown lines_are count_is off k d t M known.0.1.0 inside in
        r.server x

    message_well : (v : Parts) (from : ℕ) (m : Message) (outs : List Effect) →
        seen.In (record { from = from; to = k; message = m }) M.seen.sent → handle k d t from m ≡ Took v outs → Well outs M.seen.lines
    message_well v from m outs there is = subst (λ z. Well (saying.outs_of z) M.seen.lines) is (by (asks m) refl)
      where
        base : Wide (Showing hd (length w.lines) Number) (up k d t M)
        base = known.0.1.0

        S : Seen
        S = seen.with_sent base.0 (let N = up k d t M in N.seen)

        alike : AreAlike base.2.0 (acts M.seen.lines)
        alike = alike_of hd (length w.lines) Number base.2.0 S base.2.1.0

        fits : FitsAsked base.2.0 m (asks m)
        fits = (let good = base.2.1.0.1.0 in
            good.fits (record { from = from; to = k; message = m }) (base.1 (record { from = from; to = k; message = m }) there))

        past : ArePastIn base.2.0 S
        past = base.2.1.1.0.0

        says : SaysPast base.2.0 (λ j. live_in (S.nodes j)) (record { from = from; to = k; message = m })
        says = past.posts (record { from = from; to = k; message = m }) (base.1 (record { from = from; to = k; message = m }) there)

        of_past : (u : Uid) → IsPast base.2.0 (λ j. live_in (S.nodes j)) u → uid_eq nobody u ≡ false
        of_past u one =
            let good = base.2.1.0.1.0 in
            someone u (on_path base.2.0 good.begun base.2.1.1.0.1 one.0.0 (in_from one.0.0 base.2.0 one.0.1) u one.0.2)

        brings : AreOfActions (brought m)
        brings = all_ends (λ u. uid_eq nobody u ≡ false) (brought m) (λ u f c. of_past u (says.brings u f c))

        asker : (p : Path) → IsAsker base.2.0 p → (has_act (acts M.seen.lines) (last_uid (uids_of p)) ≡ true)
            × (uids (path_by (acts M.seen.lines) (last_uid (uids_of p))) ≡ uids_of p)
        asker p a = (
          subst (λ z. has_act (acts M.seen.lines) (last_uid (uids_of z)) ≡ true) a.2 (begun_act base.2.0 (acts M.seen.lines) alike a.0 a.1),
          subst (λ z. uids (path_by (acts M.seen.lines) (last_uid (uids_of z))) ≡ uids_of z) a.2
              (let good = base.2.1.0.1.0 in
              let f = path_fits base.2.0 (acts M.seen.lines) good.begun alike a.0 (in_from a.0 base.2.0 a.1) in
              (let z = f.actor_is in z.path_is)),
        )

        served_well : (h : Head) (a : Ask) → asks m ≡ Some (h, a) → Well (saying.outs_of (serve k d t from h a)) M.seen.lines
        served_well h (ask.Invoke x b i es o) asked =
            let f = subst (FitsAsked base.2.0 m) asked fits in
            let z = asker h.path f.0 in
            let v = known.1.1.1 (record { from = from; to = k; message = m }) h (ask.Invoke x b i es o) there asked refl in
            let call : (let n = v.asking.asked in n.event) ≡ event.Call v.label x o =
            v.event ∙ ap (asks_goal v.label v.object) v.is_for.1 ∙ ap (λ y. event.Call v.label y o) (sym v.is_for.0) in
            invoked off k d t from h M.seen.lines z.0 z.1 table_now x b i es o
            (subst (λ (r : Option (Head × Ask)). AreOfActions (Rattle.arj_law_parts.specs.parts.Ends.brought_by r)) asked brings)
            (asked_here (q.accepted ++ asked_of q e ∷ []) v.asking.asked
            (inside.asked v.asking v.there (name v.label) (ap (is_ask_by (name v.label)) call ∙ same_name v.label)) h.path v.label x o call v.path)
        served_well h (ask.Bind x include avoid) asked = others_well (saying.outs_of (serve k d t from h (ask.Bind x include avoid))) M.seen.lines
            (serve_others k d t from h (ask.Bind x include avoid) refl)
        served_well h (ask.Load x) asked = others_well (saying.outs_of (serve k d t from h (ask.Load x))) M.seen.lines
            (serve_others k d t from h (ask.Load x) refl)
        served_well h (ask.Activate b s) asked = others_well (saying.outs_of (serve k d t from h (ask.Activate b s))) M.seen.lines
            (serve_others k d t from h (ask.Activate b s) refl)
        served_well h (ask.Record x b i g) asked = others_well (saying.outs_of (serve k d t from h (ask.Record x b i g))) M.seen.lines
            (serve_others k d t from h (ask.Record x b i g) refl)
        served_well h (ask.Vote i ties es) asked = others_well (saying.outs_of (serve k d t from h (ask.Vote i ties es))) M.seen.lines
            (serve_others k d t from h (ask.Vote i ties es) refl)
        served_well h (ask.Prepare states) asked = others_well (saying.outs_of (serve k d t from h (ask.Prepare states))) M.seen.lines
            (serve_others k d t from h (ask.Prepare states) refl)
        served_well h (ask.Confirm g x i) asked = others_well (saying.outs_of (serve k d t from h (ask.Confirm g x i))) M.seen.lines
            (serve_others k d t from h (ask.Confirm g x i) refl)

        by : (o : Option (Head × Ask)) → asks m ≡ o → Well (saying.outs_of (handle_ask k d t from m o)) M.seen.lines
        by None asked = others_well (saying.outs_of (handle_ask k d t from m None)) M.seen.lines
            (others.unasked_others is_other coord_other work_other k d t from m)
        by (Some a) asked = served_well a.0 a.1 asked

  well : walks.SaysWell passes hd of quiet no_halt st q e InIt
  well = record {
    message = λ k d t v from m outs M known h there meant may is. by (is_restart e) refl k d t v from m outs M known h there may is;
    act = λ k d t i M is brings fresh asks free known h. others_well (does i d.intents t.coord).outs M.seen.lines
        (coord_others (does i d.intents t.coord).outs (acts_own i d.intents t.coord));
    begin = λ k d t l how parent M brings fresh new gives none known h.
        let did = begin_action l how parent (parent_of parent t.coord) t.coord in
        others_well did.outs M.seen.lines (coord_others did.outs (acts_own (input.Begin l how parent) d.intents t.coord));
    tick = λ k d t M known h.
        let r = again_all t.coord.doings t.coord in
        others_well (tick_outs (record { number = k; disk = d; live = Some t }) t) M.seen.lines
        (all_both (saying.says is_other) (r.outs ++ tolds_again t.coord.telling) (map query_about (holders d t))
        (all_both (saying.says is_other) r.outs (tolds_again t.coord.telling) (coord_others r.outs (again_own t.coord.doings t.coord))
        (coord_others (tolds_again t.coord.telling) (tolds_again_own t.coord.telling)))
        (saying.map_says is_other query_about (holders d t) (λ u. refl)));
    restart = λ k d M its fresh known h. free_well (ap is_restart (sym h.event ∙ its)) (restart_outs hd k (d.inc + 1) d) M.seen.lines
        (starts_free hd k (d.inc + 1) d (entries k d M known));
  }
    where
      by : (b : Bool) → is_restart e ≡ b → (k : ℕ) (d : Disk) (t v : Parts) (from : ℕ) (m : Message) (outs : List Effect) (M : Moment) →
          InIt (up k d t M) → Inside M → seen.In (record { from = from; to = k; message = m }) M.seen.sent → MayTake M.past.event m →
          handle k d t from m ≡ Took v outs → Well outs M.seen.lines
      by true on k d t v from m outs M known h there may is =
          let none = may (ap moments.is_restart h.event ∙ restart_is e on) in
          others_well outs M.seen.lines (subst (λ z. Others (saying.outs_of z)) (sym (ap (handle_ask k d t from m) none.0) ∙ is)
          (others.unasked_others is_other coord_other work_other k d t from m))
      by false off k d t v from m outs M known h there may is = message_well k d t M known h off v from m outs there is

      -- what a disk holds of names are entries
      entries : (k : ℕ) (d : Disk) (M : Moment) → InIt (moments.at k d None M) →
          AllByRecursion (λ (x : Uid × ObjectState). is_entry x.0 ≡ true) (let p = d.names in p.held)
      entries k d M known =
          let base = known.0.0.1 in
          let facts = base.2.1.1 in
          let n : Node = record { number = k; disk = d; live = None } in
          let u = facts.1.0 k n (λ i. if same_number k i then Some (record { number = k; disk = d; live = None }) else M.seen.nodes k) in
          all_entries (let p = d.names in p.held) (let p = u.names in p.held)

-- ---- runs

-- by the path of the action's label
to_cause : (h : Here) (b : Body) → of b ≡ true → IsDecided h.lines b → passes h b ≡ true → granted_or_starts h b ≡ true
to_cause h (body.Granted n u o m) its k is =
    let w = and_parts (not (is_restart h.event)) (list_any (calls_in u o.num m) h.accepted)
    (and_parts (object_asked h u o.num m) (has_act (acts h.lines) u && is_free_for h.lines (uids (path_by (acts h.lines) u)) n u o m) is).0 in
    let on = (and_parts (object_asked h u o.num m)
    (has_act (acts h.lines) u && is_free_for h.lines (uids (path_by (acts h.lines) u)) n u o m) is).1 in
    let p = and_parts (has_act (acts h.lines) u) (is_free_for h.lines (uids (path_by (acts h.lines) u)) n u o m) on in
    let a = one_passes (λ (z : Act). uid_eq z.uid u) (acts h.lines) p.0 in
    let same : a.0.uid ≡ u = uid_is a.0.uid u a.2 in
    let named : path (acts h.lines) a.0.label ≡ path_by (acts h.lines) u =
    label_path (acts h.lines) k.distinct a.0.label a.0 (found (acts h.lines) k.distinct a.0 a.1) ∙ ap (path_by (acts h.lines)) same in
    let free = and_parts (not (has_lock n u o m h.lines))
    (is_none (first_conflict (uids (path_by (acts h.lines) u)) o m (table n h.lines))) p.1 in
    let here : a.0.uid ∷ [] ≡ a.0.uid ∷ [] = refl in
    ap (holds_in (λ z. Whole h n u o m (is_restart h.event) (is_entry o) z)) (act_found (acts h.lines) k.distinct a.0 a.1 u same)
    ∙ (λ i. Whole h n u o m (turned (is_restart h.event) w.0 i) (turned (is_entry o) its i) a.0)
    ∙ (λ i. free.0 i && ((ap (λ ps. is_none (first_conflict (uids ps) o m (table n h.lines))) named ∙ free.1) i && (w.0 i && w.1 i)))
  where
    Whole : Here → ℕ → Uid → Uid → Mode → Bool → Bool → Act → Bool
    Whole h n u o m again of_entry z = not (has_lock n u o m h.lines)
        && (is_none (first_conflict (if again then z.uid ∷ [] else (if of_entry then top_uids (path (acts h.lines) z.label)
        else uids (path (acts h.lines) z.label))) o m (table n h.lines))
        && (if of_entry then entry_asked h n z o.num m else object_asked h u o.num m))

    turned : (b : Bool) → not b ≡ true → b ≡ false
    turned false is = refl
    turned true is = absurd (cc is)
to_cause h (body.Up n i) its k is = refl
to_cause h b its k is = absurd (cc its)

its_of : (b : Body) → is_granted_object b ≡ true → of b ≡ true
its_of (body.Granted n u o m) is = is
its_of b is = absurd (cc is)

granted_so : (h : Here) (bs : List Body) → are_so (tested granted_or_starts (λ g. is_granted_object)) h bs ≡ true →
    are_so (row (λ g. is_granted_object)) h bs ≡ true
granted_so h [] all = refl
granted_so h (b ∷ bs) all =
    let p = and_parts (tested granted_or_starts (λ g. is_granted_object) h b)
    (are_so (tested granted_or_starts (λ g. is_granted_object)) (behind h b) bs) all in λ i. one b p.0 i && granted_so (behind h b) bs p.1 i
  where
    one : (b : Body) → tested granted_or_starts (λ g. is_granted_object) h b ≡ true → row (λ g. is_granted_object) h b ≡ true
    one (body.Up n i) is = refl
    one b is = is

granted_along : (hd : Header) (es : List Event) (p end : Past) → Along (TestedStep granted_or_starts (λ h. is_granted_object) hd) p es end →
    Along (RowStep (λ h. is_granted_object) hd) p es end
granted_along hd [] p end a = a
granted_along hd (e ∷ es) p end a = (a.0, granted_so (here_at hd p e a.0) a.0 a.1, granted_along hd es (next p e a.0) end a.2)

pub granted_row : RowHolds is_granted_object
granted_row hd r form =
    let lines = journal_by hd r in
    let keeps = keeps_both hd (Known hd) (λ M. Base M × AreWanted M) (known_all hd) (wanted_all hd) in
    let runs : Runs (TestedStep granted_or_starts (λ h. of) hd) r.start (run_events hd r) lines =
    tested_row IsDecided of passes granted_or_starts to_cause lines (decided_line lines (right_lines hd r))
    hd r.start (run_events hd r)
    (row_run passes of quiet no_halt hd (λ M. Known hd M × (Base M × AreWanted M)) keeps
    (knows_with hd (Known hd) (λ M. Base M × AreWanted M) (wanted_all hd) (shown_knows hd))
    (λ st q e w between lines count. well hd st q e w between lines count) r form) in (
      runs.0,
      runs.1,
      granted_along hd (run_events hd r) (at_start r.start) runs.0
          (fewer_along granted_or_starts of is_granted_object its_of hd (run_events hd r) (at_start r.start) runs.0 runs.2),
      runs.3,
      runs.4,
    )
