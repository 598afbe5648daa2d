-- Servers, naming and stores: what they say of ends is what they are told, and all else that they say is nothing to the book.
use Rattle.arj_law_parts.proofs.Words
use Words.{◌≡◌, ℕ, ◌+◌, ◌==◌, ◌&&◌, ◌||◌, not, List, [], ◌∷◌, ◌++◌, Bool, true, false, cond, filter, map, Option, Some, None, refl, sym}
use Words.{subst, ⊤, if◌then◌else◌, is_some, option_map, list_all, and_parts, all_both as tests_both, all_if, Ask, Asked, Binding, Body}
use Words.{ConfirmedReply, End, Entry, Head, Message, Mode, ObjectState, Op, Path, RecordedReply, Row, Uid, What, asks, entry}
use Words.{first_conflict, is_on, last_uid, object, op_mode, tops_of, uids_of, Reply, actor, answers, asked_by, last_end, response, top_of}
use Words.{top_path, heard, Grants, Marks, checked, confirm, confirm_entries, confirm_new, confirms, entries_after, has_all, lock_all}
use Words.{lock_in, prepared_by, wanted, Coord, Copy, ask_copy, grant_lines, invoke_copy, is_granted, row_for, Already, Did, Disk, Do}
use Words.{Effect, InDoubt, Look, Old, Pair, Prep, Prepare, Ready, Say, Send, Served, Work, did_nothing, either, held_at, holder_of}
use Words.{is_prepared, prepare_answer, reply, void, acked, answer_query, Counted, Live, Made, Named, bind_call, bind_made, bind_named}
use Words.{conflict_on, in_use, include_asked, is_lowered, live_above, live_asked, lock_lines, lower_lines, lowered, made_above}
use Words.{make_asked, next_server, note_made, note_named, note_other, Naming, end_entries, end_orphans, is_over, listed_entry, on_counted}
use Words.{on_named, orphans, own_entries, told_new, Handled, Parts, Took, Void, ack_told, by_reply, coord_heard, end_states, handle}
use Words.{handle_answer, handle_ask, handle_ends, handle_other, holders, if_naming, is_earlier, load_by, load_held, naming_told}
use Words.{prepare_by, query_about, sends_answer, serve, store_told, with_coord, with_naming, with_server, at_number, at_uid, binding_eq}
use Words.{binding_less, AreAll, Kept, Server, active_binding, apply_ends, changed_by, end_new, end_one, first_unbound, has_ended}
use Words.{invoke_kept, invoke_new, invoke_now, is_below, is_told, is_top, on_copy, other_inc, took_copy, vote_now, is_binding}
use Words.ask
use Words.body
use Words.confirmed
use Words.ending
use Words.loaded
use Words.message
use Words.mode
use Words.part
use Words.prepared
use Words.recorded
use Words.role
use Words.what
use Words.naming
use Words.server
use Rattle.arj_law_runs.proofs.Terms.{kept_after, brought_by, Book, AreSaid, Calls, Claims, Knows, IsSaid, ends_in}
use Rattle.arj_law_runs.proofs.journal
use journal.Effects.{ArePartly, Goes, IsPartly, all_both, all_flat, all_map, goes_partly, response_claims, sends_partly}
use Rattle.arj_protocol.specs.Server.{has_locks}

-- ---- locks, bindings and new entries

-- lines of locks, of bindings, of active copies, and that something is prepared
abbrev is_plain_line : Body → Bool
is_plain_line (body.Granted m u o how) = true
is_plain_line (body.Lowered m u o) = true
is_plain_line (body.Bound x b n) = true
is_plain_line (body.Active m x b) = true
is_plain_line (body.Prepared m u r) = true
is_plain_line _ = false

abbrev is_plain_work : Work → Bool
is_plain_work Look = true
is_plain_work (Prepare r u states) = true
is_plain_work _ = false

abbrev is_plain : Effect → Bool
is_plain (Say b) = is_plain_line b
is_plain (Send to m) = false
is_plain (Do w) = is_plain_work w

abbrev Plain : List Effect → Type 0
Plain outs = AreAll is_plain outs

plain_says : (k : ℕ) (B : Book) (b : Body) → is_plain_line b ≡ true → IsPartly k B (Say b)
plain_says k B (body.Granted m u o how) is = record { lined = (tt, tt); same = refl; puts = tt }
plain_says k B (body.Lowered m u o) is = record { lined = (tt, tt); same = refl; puts = tt }
plain_says k B (body.Bound x b n) is = record { lined = (tt, tt); same = refl; puts = tt }
plain_says k B (body.Active m x b) is = record { lined = (tt, tt); same = refl; puts = tt }
plain_says k B (body.Prepared m u r) is = record { lined = (tt, tt); same = refl; puts = tt }
plain_says k B b is = absurd (cc is)

plain_works : (k : ℕ) (B : Book) (w : Work) → is_plain_work w ≡ true → IsPartly k B (Do w)
plain_works k B Look is = record { lined = tt; same = refl; puts = tt }
plain_works k B (Prepare r u states) is = record { lined = tt; same = refl; puts = tt }
plain_works k B w is = absurd (cc is)

plain_partly : (k : ℕ) (B : Book) (es : List Effect) → Plain es → ArePartly k B es
plain_partly k B [] all = tt
plain_partly k B (Say b ∷ es) all = let q = and_parts (is_plain_line b) (list_all is_plain es) all in
    (plain_says k B b q.0, plain_partly k B es q.1)
plain_partly k B (Send to m ∷ es) all = absurd (cc all)
plain_partly k B (Do w ∷ es) all = let q = and_parts (is_plain_work w) (list_all is_plain es) all in
    (plain_works k B w q.0, plain_partly k B es q.1)

grant_plain : (n x : ℕ) (holder : List Uid) (tops : ℕ) (how : Mode) (rows : List Row) →
    Plain (grant_lines n (row_for (object x) holder tops how) rows)
grant_plain n x holder tops how rows = all_if is_plain (is_granted (object x) (last_uid holder) how rows) []
    (Say (body.Granted n (last_uid holder) (object x) how) ∷ []) refl refl

activate_plain : (n : ℕ) (p : Path) (b : Binding) (st : ObjectState) (s : Server) → Plain (server.activate n p b st s).outs
activate_plain n p b st s = by (has_ended p s || binding_less b (active_binding st.uid.num s)) (binding_eq b (active_binding st.uid.num s))
  where
    by : (v e : Bool) → Plain (if v then void s else (if e then reply s s.inc else took_copy n st.uid.num b st s)).outs
    by true e = refl
    by false true = refl
    by false false = refl

lock_plain : (x : ℕ) (p : Path) (m : Mode) (o : Named) → Plain (lock_lines x p m o)
lock_plain x p m o = all_if is_plain (is_granted (entry x) (last_uid (top_path p)) m o.rows) []
    (Say (body.Granted 1 (last_uid (top_path p)) (entry x) m) ∷ []) refl refl

made_plain : (inc x : ℕ) (p : Path) (e : Entry) (c : Counted) (m : Option Made) → Plain (bind_made inc x p e c m).outs
made_plain inc x p e c (Some m) = lock_plain x p mode.Write c.named
made_plain inc x p e c None = tests_both is_plain (lock_lines x p mode.Write c.named) (Say (body.Bound x
    (record { inc = inc; count = c.count + 1 }) (next_server c.named.turn e.servers)) ∷ []) (lock_plain x p mode.Write c.named) refl

bind_plain : (p : Path) (x : ℕ) (include : Bool) (avoid : Binding) (d : Pair) (n : Naming) → Plain (naming.bind p x include avoid d n).outs
bind_plain p x include avoid d n = by (is_over p n) (at_number x n.objects)
  where
    e : Entry
    e = listed_entry x d

    included : (c : Counted) (r : Option Row) → Plain (include_asked n.inc x p (listed_entry x d) c r).outs
    included c (Some r) = refl
    included c None = lock_plain x p mode.Write c.named

    alive : (c : Counted) (l : Live) (r : Option Row) → Plain (live_asked n.inc x p (listed_entry x d) c l r).outs
    alive c l (Some r) = refl
    alive c l None = lock_plain x p mode.Read c.named

    makes : (c : Counted) (r : Option Row) → Plain (make_asked n.inc x p avoid (listed_entry x d) c r).outs
    makes c (Some r) = refl
    makes c None = made_plain n.inc x p (listed_entry x d) c (made_above avoid (at_uid (top_of p) c.named.made))

    called : (c : Counted) (l : Option Live) → Plain (bind_call n.inc x p avoid (listed_entry x d) c l).outs
    called c (Some l) = alive c l (conflict_on x p mode.Read c.named)
    called c None = makes c (conflict_on x p mode.Write c.named)

    one : (i : Bool) (c : Counted) → Plain (bind_named n.inc x p i avoid (listed_entry x d) c).outs
    one true c = included c (conflict_on x p mode.Write c.named)
    one false c = called c (live_above avoid c.named.live)

    by : (b : Bool) (o : Option Named) →
        Plain (if b then void n else on_counted x (bind_named n.inc x p include avoid (listed_entry x d)) n o).outs
    by true o = refl
    by false None = refl
    by false (Some o) = one include (record { named = o; count = n.count })

note_plain : (p : Path) (x : ℕ) (b : Binding) (i g : ℕ) (n : Naming) → Plain (naming.note p x b i g n).outs
note_plain p x b i g n = by (is_over p n || not (is_some (at_number x n.objects))) (g == n.inc) (at_number x n.objects)
  where
    made : (o : Named) (m : Made) → Plain (note_made x (top_of p) i o m).outs
    made o m = one m.recorded
      where
        r : Served Named RecordedReply
        r = record { part = lowered x (top_of p) (in_use (top_of p) m i o); outs = lower_lines x (top_of p) o; reply = Some recorded.Yes }

        one : (v : Bool) → Plain (if v then reply o recorded.Yes else r).outs
        one true = refl
        one false = all_if is_plain (is_lowered x (top_of p) o) (Say (body.Lowered 1 (top_of p) (entry x)) ∷ []) [] refl refl

    other : (o : Named) (m : Made) (e : Bool) → Plain (if e then note_made x (top_of p) i o m else void o).outs
    other o m true = made o m
    other o m false = refl

    named : (o : Named) (v : Bool) (m : Option Made) → Plain (if v then reply o recorded.Yes else note_other x (top_of p) b i o m).outs
    named o true m = refl
    named o false None = refl
    named o false (Some m) = other o m (binding_eq b m.binding)

    by : (v e : Bool) (o : Option Named) → Plain (if v then void n else
        (if e then on_named x (note_named x (top_of p) b i) n o else reply n (recorded.Changed (what.Inc g n.inc)))).outs
    by true e o = refl
    by false false o = refl
    by false true None = refl
    by false true (Some o) = named o (is_binding b o.recorded) (at_uid (top_of p) o.made)

confirm_plain : (p : Path) (grants : Grants) (excluded included : Marks) (d : Pair) (n : Naming) →
    Plain (confirm p grants excluded included d n).outs
confirm_plain p grants excluded included d n = by (is_over p n || not (has_all grants n))
    (is_on n.confirmed (top_of p) || is_prepared (top_of p) d) (checked p grants excluded included d n)
  where
    locks : (xs : List ℕ) (m : Naming) → Plain (lock_all xs p m).outs
    locks [] m = refl
    locks (x ∷ xs) m = let t = lock_in x p m (at_number x m.objects) in
        tests_both is_plain t.outs (lock_all xs p t.part).outs (one (at_number x m.objects)) (locks xs t.part)
      where
        one : (o : Option Named) → Plain (lock_in x p m o).outs
        one None = refl
        one (Some o) = lock_plain x p mode.Exclude o

    prepares : (states : List ObjectState) (t : Did Naming) (a : Prep) → Plain t.outs → Plain (prepared_by (top_of p) states t a).outs
    prepares states t Ready own = tests_both is_plain t.outs
        (Do Look ∷ Do (Prepare role.Names (top_of p) states) ∷ Say (body.Prepared 1 (top_of p) role.Names) ∷ []) own refl
    prepares states t (Already u) own = tests_both is_plain t.outs (Do Look ∷ []) own refl
    prepares states t (Old u v) own = tests_both is_plain t.outs (Do Look ∷ []) own refl
    prepares states t (InDoubt u holder) own = tests_both is_plain t.outs (Do Look ∷ []) own refl

    entries : (states : List ObjectState) (t : Did Naming) → Plain t.outs → Plain (confirm_entries (top_of p) states d t).outs
    entries [] t own = own
    entries (s ∷ ss) t own = prepares (s ∷ ss) t (prepare_answer (top_of p) (s ∷ ss) d) own

    by : (v e : Bool) (r : Option ConfirmedReply) → Plain (if v then void n else
        (if e then reply (confirms (top_of p) n) confirmed.Yes else confirm_new p grants excluded included d n r)).outs
    by true e r = refl
    by false true r = refl
    by false false (Some r) = refl
    by false false None = entries (entries_after (top_of p) grants excluded included d)
        (lock_all (wanted (top_of p) grants excluded d) p n) (locks (wanted (top_of p) grants excluded d) n)

-- ---- ends

module _ (k : ℕ) (B : Book) where
  done_partly : (n : ℕ) (u : Uid) (r : _) (e : End) → IsSaid B u e → IsPartly k B (Say (body.Done n u r e))
  done_partly n u r e said = record { lined = (said, tt); same = refl; puts = tt }

  -- an end that is taken for another one is taken for an abort
  taken_said : (u : Uid) (e : End) (s : Server) → IsSaid B u e → IsSaid B u (server.taken_end u e s)
  taken_said u ending.Abort s said = tt
  taken_said u ending.Commit s said = by (is_top u s && not (is_on s.voted u))
    where
      by : (b : Bool) → IsSaid B u (if b then ending.Abort else ending.Commit)
      by true = tt
      by false = said

  named_said : (u : Uid) (e : End) (n : Naming) → IsSaid B u e → IsSaid B u (naming.taken_end u e n)
  named_said u ending.Abort n said = tt
  named_said u ending.Commit n said = by (is_on n.confirmed u)
    where
      by : (b : Bool) → IsSaid B u (if b then ending.Commit else ending.Abort)
      by true = said
      by false = tt

  end_partly : (n : ℕ) (u : Uid) (e : End) (s : Server) → IsSaid B u e → ArePartly k B (end_one n u e s).outs
  end_partly n u e s said = by (is_told u s)
    where
      lines : (b : Bool) → ArePartly k B (if b then Say (body.Told n u (server.taken_end u e s) part.Server) ∷ [] else [])
      lines true = (record { lined = (taken_said u e s said, tt); same = refl; puts = tt }, tt)
      lines false = tt

      by : (b : Bool) → ArePartly k B (if b then did_nothing s else end_new n u (server.taken_end u e s) s).outs
      by true = tt
      by false = lines (has_locks u s)

  ends_partly : (n : ℕ) (es : List (Uid × End)) (s : Server) → AreSaid B es → ArePartly k B (apply_ends n es s).outs
  ends_partly n [] s said = tt
  ends_partly n (e ∷ es) s said = let d = end_one n e.0 e.1 s in
      all_both (IsPartly k B) d.outs (apply_ends n es d.part).outs (end_partly n e.0 e.1 s said.0) (ends_partly n es d.part said.1)

  invoke_partly : (n : ℕ) (h : Head) (x : ℕ) (b : Binding) (i : ℕ) (ends : List (Uid × End)) (op : Op) (s : Server) → AreSaid B ends →
      ArePartly k B (server.invoke n h x b i ends op s).outs
  invoke_partly n h x b i ends op s said = by (has_ended h.path s || is_below h.req (at_uid (actor h.path) s.kept)) (changed_by i x b s)
    where
      asked : (c : Copy) (r : Option Row) → ArePartly k B (ask_copy n h.path x op c r).outs
      asked c (Some r) = tt
      asked c None = plain_partly k B (grant_lines n (row_for (object x) (uids_of h.path) (tops_of h.path) (op_mode op)) c.rows)
          (grant_plain n x (uids_of h.path) (tops_of h.path) (op_mode op) c.rows)

      on_it : (t : Server) (o : Option Copy) → ArePartly k B (kept_after h (on_copy x (invoke_copy n h.path x op) t o)).outs
      on_it t None = tt
      on_it t (Some c) = asked c (first_conflict (uids_of h.path) (object x) (op_mode op) c.rows)

      new : ArePartly k B (invoke_new n h x ends op s).outs
      new = let d = apply_ends n ends s in let t = d.part in all_both (IsPartly k B) d.outs (kept_after h (on_copy x
          (invoke_copy n h.path x op) t (at_number x t.objects))).outs (ends_partly n ends s said) (on_it t (at_number x t.objects))

      again : (q : Kept) (r : Bool) → ArePartly k B (if r then reply s q.answer else invoke_new n h x ends op s).outs
      again q true = tt
      again q false = new

      kept : (q : Option Kept) → ArePartly k B (invoke_kept n h x ends op s q).outs
      kept None = new
      kept (Some q) = again q (q.req == h.req)

      by : (v : Bool) (w : Option What) → ArePartly k B (if v then void s else invoke_now n h x ends op s w).outs
      by true w = tt
      by false (Some w) = tt
      by false None = kept (at_uid (actor h.path) s.kept)

  vote_partly : (n : ℕ) (p : Path) (i : ℕ) (ties : List (ℕ × Binding)) (ends : List (Uid × End)) (s : Server) → AreSaid B ends →
      ArePartly k B (server.vote n p i ties ends s).outs
  vote_partly n p i ties ends s said = by (has_ended p s) (either (other_inc i s.inc) (first_unbound ties s))
    where
      by : (v : Bool) (w : Option What) → ArePartly k B (if v then void s else vote_now n (actor p) ends s w).outs
      by true w = tt
      by false (Some w) = tt
      by false None = ends_partly n ends s said

  entries_partly : (u : Uid) (e : End) → IsSaid B u e → ArePartly k B (end_entries u e)
  entries_partly u ending.Commit said = (record { lined = tt; same = refl; puts = tt }, (done_partly 1 u role.Names ending.Commit said, tt))
  entries_partly u ending.Abort said = (record { lined = tt; same = refl; puts = tt }, (done_partly 1 u role.Names ending.Abort tt, tt))

  named_partly : (u : Uid) (e : End) (d : Pair) (n : Naming) → IsSaid B u e → ArePartly k B (naming.told u e d n).outs
  named_partly u e d n said =
      let t = if is_on n.told u then did_nothing n else told_new u (naming.taken_end u e n) d n in
      all_both (IsPartly k B) (own_entries u e d) t.outs (own (is_prepared u d)) (by (is_on n.told u))
    where
      own : (b : Bool) → ArePartly k B (if b then end_entries u e else [])
      own true = entries_partly u e said
      own false = tt

      gone : (f : End) → ArePartly k B (end_orphans u f d n)
      gone ending.Commit = tt
      gone ending.Abort =
          all_flat (IsPartly k B) (λ act. end_entries act ending.Abort) (orphans u d n) (λ act i. entries_partly act ending.Abort tt)

      lines : (b : Bool) → ArePartly k B (if b then Say (body.Told 1 u (naming.taken_end u e n) part.Naming) ∷ [] else [])
      lines true = (record { lined = (named_said u e n said, tt); same = refl; puts = tt }, tt)
      lines false = tt

      by : (b : Bool) → ArePartly k B (if b then did_nothing n else told_new u (naming.taken_end u e n) d n).outs
      by true = tt
      by false = all_both (IsPartly k B) (end_orphans u (naming.taken_end u e n) d n) _ (gone (naming.taken_end u e n))
          (lines (naming.has_locks u n))

  -- the last of some ends
  last_said : (es : List (Uid × End)) → AreSaid B es → (e : Uid × End) → last_end es ≡ Some e → IsSaid B e.0 e.1
  last_said [] said e is = absurd (cc is)
  last_said (f ∷ []) said e is = let same : f ≡ e = cc is in subst (λ (x : Uid × End). IsSaid B x.0 x.1) same said.0
  last_said (f ∷ g ∷ es) said e is = last_said (g ∷ es) said.1 e is

  -- ---- messages

  -- what a node makes of a message
  abbrev pub WellBy : Handled → Type 0
  WellBy (Void outs) = ⊤
  WellBy (Took v outs) = Goes k B outs v.coord

  module _ (d : Disk) (t : Parts) (from : ℕ) (knows : Knows B t.coord) (calls : Calls B t.coord) where
    plainly : (v : Parts) (outs : List Effect) → v.coord ≡ t.coord → ArePartly k B outs → Goes k B outs v.coord
    plainly v outs same all = subst (λ c. Goes k B outs c) (sym same) (goes_partly k B outs t.coord all knows calls)

    answered : (h : Head) (v : Parts) (outs : List Effect) (o : Option Reply) → v.coord ≡ t.coord → ArePartly k B outs →
        WellBy (sends_answer from h v outs o)
    answered h v outs None same all = tt
    answered h v outs (Some r) same all = plainly v (outs ++ Send from (response (asked_by h) r) ∷ []) same (all_both (IsPartly k B) outs
        (Send from (response (asked_by h) r) ∷ []) all (sends_partly k B from _ (response_claims B (asked_by h) r), tt))

    with_it : (f : Naming → Handled) (o : Option Naming) → ((m : Naming) → WellBy (f m)) → WellBy (if_naming f o)
    with_it f None each = tt
    with_it f (Some m) each = each m

    looks : IsPartly k B (Do Look)
    looks = record { lined = tt; same = refl; puts = tt }

    asked : (h : Head) (a : Ask) → AreSaid B (ends_in a) → WellBy (serve k d t from h a)
    asked h (ask.Bind x include avoid) said =
        with_it _ t.naming (λ m. let r = naming.bind h.path x include avoid d.names m in answered h (with_naming t r.part) r.outs
        (option_map Reply.Bound r.reply) refl (plain_partly k B r.outs (bind_plain h.path x include avoid d.names m)))
    asked h (ask.Load x) said = load (holder_of (object x) d.store)
      where
        held : (s : Option ObjectState) → WellBy (load_held from h t s)
        held None = tt
        held (Some s) = answered h t (Do Look ∷ []) (Some (Reply.Loaded (loaded.State s))) refl (looks, tt)

        load : (o : Option Uid) → WellBy (load_by x d.store from h t o)
        load (Some u) = answered h t [] (Some (Reply.Loaded (loaded.InDoubt u))) refl tt
        load None = held (held_at (object x) d.store)
    asked h (ask.Activate b st) said = let r = server.activate k h.path b st t.server in answered h (with_server t r.part) r.outs
        (option_map Reply.Activated r.reply) refl (plain_partly k B r.outs (activate_plain k h.path b st t.server))
    asked h (ask.Record x b i g) said = with_it _ t.naming (λ m. let r = naming.note h.path x b i g m in answered h (with_naming t r.part)
        r.outs (option_map Reply.Noted r.reply) refl (plain_partly k B r.outs (note_plain h.path x b i g m)))
    asked h (ask.Invoke x b i ends o) said = let r = server.invoke k h x b i ends o t.server in
        answered h (with_server t r.part) r.outs (option_map Reply.Invoked r.reply) refl (invoke_partly k h x b i ends o t.server said)
    asked h (ask.Vote i ties ends) said = let r = server.vote k h.path i ties ends t.server in
        answered h (with_server t r.part) r.outs (option_map Reply.Voted r.reply) refl (vote_partly k h.path i ties ends t.server said)
    asked h (ask.Prepare states) said = by (is_prepared (actor h.path) d.store)
      where
        new : (a : Prep) → WellBy (prepare_by k states from h t a)
        new Ready = answered h t (Do Look ∷ Do (Prepare role.Store (actor h.path) states) ∷ Say (body.Prepared k (actor h.path) role.Store)
            ∷ []) (Some (Reply.Prepared prepared.Yes)) refl (plain_partly k B
            (Do Look ∷ Do (Prepare role.Store (actor h.path) states) ∷ Say (body.Prepared k (actor h.path) role.Store) ∷ []) refl)
        new (Already u) = tt
        new (Old u v) = answered h t (Do Look ∷ []) (Some (Reply.Prepared (prepared.Old u.num v))) refl (looks, tt)
        new (InDoubt u holder) = answered h t (Do Look ∷ []) (Some (Reply.Prepared (prepared.InDoubt u.num holder))) refl (looks, tt)

        by : (b : Bool) → WellBy (cond b (sends_answer from h t [] (Some (Reply.Prepared prepared.Yes)))
            (prepare_by k states from h t (prepare_answer (actor h.path) states d.store)))
        by true = answered h t [] (Some (Reply.Prepared prepared.Yes)) refl tt
        by false = new (prepare_answer (actor h.path) states d.store)
    asked h (ask.Confirm grants excluded included) said =
        with_it _ t.naming (λ m. let r = confirm h.path grants excluded included d.names m in answered h (with_naming t r.part) r.outs
        (option_map Reply.Confirmed r.reply) refl (plain_partly k B r.outs (confirm_plain h.path grants excluded included d.names m)))

    coord_left : (r : Served Coord (Unit {0})) → Goes k B r.outs r.part → WellBy (coord_heard t r)
    coord_left r so = by r.reply
      where
        by : (o : Option (Unit {0})) → WellBy (by_reply (with_coord t r.part) r.outs o)
        by None = tt
        by (Some u) = so

    ends_left : (ack : Bool) (ends : List (Uid × End)) → AreSaid B ends → (o : Option (Uid × End)) → last_end ends ≡ o →
        WellBy (handle_ends k d t from ack ends o)
    ends_left ack ends said None is = plainly t [] refl tt
    ends_left ack ends said (Some e) is =
        let s = server.told k ends t.server in
        let o = naming_told e.0 e.1 d.names t.naming in
        let last = last_said ends said e is in
        plainly (record { server = s.part; naming = o.part; coord = t.coord })
        (store_told k e.0 e.1 d.store ++ o.outs ++ s.outs ++ ack_told from e.0 ack) refl
        (all_both (IsPartly k B) (store_told k e.0 e.1 d.store ++ o.outs ++ s.outs) (ack_told from e.0 ack)
        (all_both (IsPartly k B) (store_told k e.0 e.1 d.store ++ o.outs) s.outs (all_both (IsPartly k B) (store_told k e.0 e.1 d.store)
        o.outs (stored (is_prepared e.0 d.store) e.1 last) (names t.naming last)) (ends_partly k ends t.server said)) (acked_told ack))
      where
        stored : (b : Bool) (how : End) → IsSaid B e.0 how → ArePartly k B (if b then end_states k e.0 how else [])
        stored false how its = tt
        stored true ending.Commit its =
            (record { lined = tt; same = refl; puts = tt }, (done_partly k e.0 role.Store ending.Commit its, tt))
        stored true ending.Abort its = (record { lined = tt; same = refl; puts = tt }, (done_partly k e.0 role.Store ending.Abort tt, tt))

        names : (o : Option Naming) → IsSaid B e.0 e.1 → ArePartly k B (naming_told e.0 e.1 d.names o).outs
        names None its = tt
        names (Some m) its = named_partly e.0 e.1 d.names m its

        acked_told : (b : Bool) → ArePartly k B (ack_told from e.0 b)
        acked_told true = (sends_partly k B from _ (tt, tt), tt)
        acked_told false = tt

    queries_partly : (us : List Uid) → ArePartly k B (map query_about us)
    queries_partly us = all_map (IsPartly k B) query_about us (λ u i. sends_partly k B (let w = u in w.node) _ (tt, tt))

    module _ (hears : (a : Asked) (r : Reply) → let q = heard from a r d.intents t.coord in
        Goes k B q.outs q.part) (acks : (u : Uid) → let q = acked from u d.intents t.coord in
        Goes k B q.outs q.part) (answers_it : (u : Uid) → ArePartly k B (answer_query from u d.intents t.coord)) where
      other : (m : Message) → Claims B m → WellBy (handle_other k d t from m)
      other (message.Told m) c = ends_left m.ack m.ends c.1 (last_end m.ends) refl
      other (message.Acked m) c = coord_left (acked from m.act d.intents t.coord) (acks m.act)
      other (message.Query m) c = plainly t (answer_query from m.act d.intents t.coord) refl (answers_it m.act)
      other (message.Hello m) c = goes_partly k B (map query_about (filter (is_earlier m.node m.inc) (holders d t))) t.coord
          (queries_partly (filter (is_earlier m.node m.inc) (holders d t))) knows calls
      other (message.Bind m) c = tt
      other (message.Bound m) c = tt
      other (message.Load m) c = tt
      other (message.Loaded m) c = tt
      other (message.Activate m) c = tt
      other (message.Activated m) c = tt
      other (message.RecordMsg m) c = tt
      other (message.Recorded m) c = tt
      other (message.Invoke m) c = tt
      other (message.Invoked m) c = tt
      other (message.Vote m) c = tt
      other (message.Voted m) c = tt
      other (message.Prepare m) c = tt
      other (message.Prepared m) c = tt
      other (message.Confirm m) c = tt
      other (message.Confirmed m) c = tt

      pub message_goes : (m : Message) → Claims B m → WellBy (handle k d t from m)
      message_goes m c = by (asks m) refl
        where
          answer : (o : Option (Asked × Reply)) → WellBy (handle_answer k d t from m o)
          answer None = other m c
          answer (Some a) = coord_left (heard from a.0 a.1 d.intents t.coord) (hears a.0 a.1)

          by : (o : Option (Head × Ask)) → asks m ≡ o → WellBy (handle_ask k d t from m o)
          by None is = answer (answers m)
          by (Some a) is = asked a.0 a.1 (subst (λ o. AreSaid B (brought_by o)) is c.0)
