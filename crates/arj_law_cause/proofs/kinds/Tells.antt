-- Of whose ends a node says lines at a message: of those that the message tells or brings; and naming of whoever has an entry prepared
-- and loses a row with them.
use Rattle.arj_law_parts.proofs.Words
use Words.{⊤, ◌≡◌, ◌⊎◌, ◌∙◌, ◌==◌, ◌||◌, ◌++◌, not, ℕ, Bool, true, false, cond, List, [], ◌∷◌, Option, Some, None, refl, sym, subst}
use Words.{inl, inr, Contains, option_map, flat_map, list_all, and_parts, AllByRecursion, in_from, in_to, Asked, Ask, Binding, Body}
use Words.{ConfirmedReply, End, Head, InvokedReply, Message, ObjectState, Op, Path, Row, Uid, VotedReply, What, asks, first_conflict, is_on}
use Words.{last_uid, object, op_mode, uid_eq, uid_same, uids_of, Reply, actor, answers, asked_by, last_end, response, top_of}
use Words.{acked, heard, Grants, Marks, checked, confirm, confirm_entries, confirm_new, confirms, entries_after, has_all, lock_all}
use Words.{prepared_by, wanted, Copy, ask_copy, invoke_copy, is_granted, Already, Did, Disk, Do, Effect, InDoubt, Look, Old, Pair, Prep}
use Words.{Prepare, Ready, Say, Send, Served, did_nothing, either, held_at, holder_of, is_prepared, prepare_answer, reply, void}
use Words.{Naming, end_entries, end_lines, end_orphans, is_over, orphans, own_entries, told_new, Handled, Parts, Took, Void}
use Words.{ack_told, by_reply, end_states, handle, handle_answer, handle_ask, handle_ends, handle_other, handle_told, holders, if_naming}
use Words.{is_earlier, load_by, load_held, naming_told, prepare_by, prepare_states, query_about, sends_answer, serve, served, store_told}
use Words.{with_coord, with_naming, with_server, at_number, at_uid, binding_eq, binding_less, AreAll, is_coord_effect, is_coord_line}
use Words.{Kept, Server, active_binding, apply_ends, changed_by, end_new, end_one, first_unbound, has_ended, invoke_kept, invoke_new}
use Words.{invoke_now, is_below, is_told, on_copy, other_inc, took_copy, vote_now, acked_own, filter, heard_own, map, map_own}
use Words.{query_own, arith, nat_tests, ap, cons_option, entry, entry_after, same_nodes, state_entry, ◌&&◌}
use Rattle.arj_protocol.specs.Confirm.{entry_state}
use Words.ask
use Words.body
use Words.confirmed
use Words.ending
use Words.message
use Words.naming
use Words.part
use Words.prepared
use Words.role
use Words.server
use Rattle.arj_law_parts.specs.parts.Ends.{brought, brought_by, told_by}
use Rattle.arj_law_parts.specs.steps.Spoken.{SaidIn}
use Rattle.arj_law_promise.proofs.settling.NamesLines.{all_locks, bind_locks, is_lock_line, note_locks}
use Rattle.arj_law_runs.proofs.addresses.Lists.{all_append}

-- a line about an action's end at a part, or about what a store or naming prepares or ends
abbrev pub is_of_ends : Body → Bool
is_of_ends (body.Told n u e p) = true
is_of_ends (body.Done n u r e) = true
is_of_ends (body.Prepared n u r) = true
is_of_ends b = false

coord_none : (b : Body) → is_coord_line b ≡ true → is_of_ends b ≡ false
coord_none (body.Told n u e p) is = absurd (cc is)
coord_none (body.Done n u r e) is = absurd (cc is)
coord_none (body.Prepared n u r) is = absurd (cc is)
coord_none b is = refl

lock_none : (b : Body) → is_lock_line (Say b) ≡ true → is_of_ends b ≡ false
lock_none (body.Told n u e p) is = absurd (cc is)
lock_none (body.Done n u r e) is = absurd (cc is)
lock_none (body.Prepared n u r) is = absurd (cc is)
lock_none b is = refl

-- the last of the ends is among them
last_among : (es : List (Uid × End)) (e : Uid × End) → last_end es ≡ Some e → Contains {X = Uid × End} es (e.0, e.1)
last_among es e is = in_to e es (by es is)
  where
    by : (fs : List (Uid × End)) → last_end fs ≡ Some e → Words.In e fs
    by [] is = let no_way : ◌≡◌ {A = Option (Uid × End)} None (Some e) = is in absurd (cc no_way)
    by (f ∷ []) is = inl (let k : ◌≡◌ {A = Option (Uid × End)} (Some f) (Some e) = is in cc)
    by (f ∷ g ∷ fs) is = inr (by (g ∷ fs) is)

-- What a request has prepared: a store something for who asks, and naming, where stores are excluded or included, something for its top.
abbrev pub AskPrepares : (Body → Type 0) → ℕ → Head → Ask → Type 0
AskPrepares S k h (ask.Prepare states) = S (body.Prepared k (actor h.path) role.Store)
AskPrepares S k h (ask.Confirm grants excluded included) =
    ((excluded ≡ []) × (included ≡ []) → ⊥) → S (body.Prepared 1 (top_of h.path) role.Names)
AskPrepares S k h _ = ⊤

-- What has to be shown of such lines: each end that comes with the message, taken as any end, by the server; and by the store and naming
-- each that it tells, and whoever loses a row with one that is taken as an abort.
pub record FitsEnds (S : Body → Type 0) (k : ℕ) (d : Disk) (t : Parts) (m : Message) : Type 0 where
  pub server : (u : Uid) (e f : End) → Contains {X = Uid × End} (told_by m) (u, e) ⊎ Contains {X = Uid × End} (brought m) (u, e) →
      S (body.Told k u f part.Server)
  pub naming : (u : Uid) (e f : End) → Contains {X = Uid × End} (told_by m) (u, e) → S (body.Told 1 u f part.Naming)
  pub store : (u : Uid) (e : End) → Contains {X = Uid × End} (told_by m) (u, e) → S (body.Done k u role.Store e)
  pub names : (u : Uid) (e : End) → Contains {X = Uid × End} (told_by m) (u, e) → S (body.Done 1 u role.Names e)
  pub orphans : (u : Uid) (e : End) (o : Naming) (act : Uid) → Contains {X = Uid × End} (told_by m) (u, e) → t.naming ≡ Some o →
      is_on (orphans u d.names o) act ≡ true → S (body.Done 1 act role.Names ending.Abort)
  pub prepares : (h : Head) (a : Ask) → asks m ≡ Some (h, a) → AskPrepares S k h a

-- entries stay where nothing is excluded or included
none_after : (top : Uid) (grants : Grants) (d : Pair) → entries_after top grants [] [] d ≡ []
none_after top [] d = refl
none_after top (g ∷ grants) d = by (held_at (entry g.0) d) (none_after top grants d)
  where
    same : (ns : List ℕ) → same_nodes ns ns ≡ true
    same [] = refl
    same (n ∷ ns) = λ i. itself n i && same ns i
      where
        itself : (n : ℕ) → (n == n) ≡ true
        itself n = grind (arith, nat_tests)

    by : (o : Option ObjectState) → entries_after top grants [] [] d ≡ [] →
        cons_option (entry_after top [] [] g.0 o) (entries_after top grants [] [] d) ≡ []
    by None rest = rest
    by (Some s) rest = (λ i. cons_option (cond (same (let e = state_entry s in e.stores) i) None
        (Some (entry_state g.0 top s (let e = state_entry s in e.stores)))) (entries_after top grants [] [] d)) ∙ rest

module _ (S : Body → Type 0) (other : (b : Body) → is_of_ends b ≡ false → S b) where
  abbrev pub AllSay : List Effect → Type 0
  AllSay outs = AllByRecursion (SaidIn S) outs

  -- effects of a kind that says none
  pub kind_all : (kind : Effect → Bool) → ((b : Body) → kind (Say b) ≡ true → is_of_ends b ≡ false) → (es : List Effect) → AreAll kind es →
      AllSay es
  kind_all kind none [] all = tt
  kind_all kind none (Say b ∷ es) all = let p = and_parts (kind (Say b)) (list_all kind es) all in
      (other b (none b p.0), kind_all kind none es p.1)
  kind_all kind none (Send to m ∷ es) all = (tt, kind_all kind none es (and_parts (kind (Send to m)) (list_all kind es) all).1)
  kind_all kind none (Do w ∷ es) all = (tt, kind_all kind none es (and_parts (kind (Do w)) (list_all kind es) all).1)

  pub coord_all : (es : List Effect) → AreAll is_coord_effect es → AllSay es
  coord_all es all = kind_all is_coord_effect coord_none es all

  locks_all : (es : List Effect) → AreAll is_lock_line es → AllSay es
  locks_all es all = kind_all is_lock_line lock_none es all

  -- ---- a server

  module _ (n : ℕ) where
    abbrev EachEnd : List (Uid × End) → Type 0
    EachEnd es = (u : Uid) (e f : End) → Contains {X = Uid × End} es (u, e) → S (body.Told n u f part.Server)

    ends_all : (es : List (Uid × End)) (s : Server) → EachEnd es → AllSay (apply_ends n es s).outs
    ends_all [] s each = tt
    ends_all (e ∷ es) s each =
        let d = end_one n e.0 e.1 s in
        all_append (SaidIn S) d.outs (apply_ends n es d.part).outs (one (is_told e.0 s))
        (ends_all es d.part (λ u q f c. each u q f (in_to (u, q) (e ∷ es) (inr (in_from (u, q) es c)))))
      where
        line : (b : Bool) → AllSay (cond b (Say (body.Told n e.0 (server.taken_end e.0 e.1 s) part.Server) ∷ []) [])
        line true = (each e.0 e.1 (server.taken_end e.0 e.1 s) (in_to e (e ∷ es) (inl refl)), tt)
        line false = tt

        one : (b : Bool) → AllSay (cond {A = Did Server} b (did_nothing s) (end_new n e.0 (server.taken_end e.0 e.1 s) s)).outs
        one true = tt
        one false = line (server.has_locks e.0 s)

    copy_all : (p : Path) (x : ℕ) (o : Op) (c : Copy) (r : Option Row) → AllSay (ask_copy n p x o c r).outs
    copy_all p x o c (Some r) = tt
    copy_all p x o c None = by (is_granted (object x) (last_uid (uids_of p)) (op_mode o) c.rows)
      where
        by : (b : Bool) → AllSay (cond b [] (Say (body.Granted n (last_uid (uids_of p)) (object x) (op_mode o)) ∷ []))
        by true = tt
        by false = (other (body.Granted n (last_uid (uids_of p)) (object x) (op_mode o)) refl, tt)

    pub asked_all : (h : Head) (x : ℕ) (o : Op) (s : Server) (c : Option Copy) → AllSay (on_copy x (invoke_copy n h.path x o) s c).outs
    asked_all h x o s None = tt
    asked_all h x o s (Some c) = copy_all h.path x o c (first_conflict (uids_of h.path) (object x) (op_mode o) c.rows)

    invoke_all : (h : Head) (x : ℕ) (b : Binding) (i : ℕ) (es : List (Uid × End)) (o : Op) (s : Server) → EachEnd es →
        AllSay (server.invoke n h x b i es o s).outs
    invoke_all h x b i es o s each =
        by (has_ended h.path s || is_below h.req (at_uid (actor h.path) s.kept)) (changed_by i x b s) (at_uid (actor h.path) s.kept)
      where
        new : AllSay (invoke_new n h x es o s).outs
        new =
            let d = apply_ends n es s in
            let t = d.part in
            all_append (SaidIn S) d.outs (on_copy x (invoke_copy n h.path x o) t (at_number x t.objects)).outs
            (ends_all es s each) (asked_all h x o t (at_number x t.objects))

        again : (k : Option Kept) → AllSay (invoke_kept n h x es o s k).outs
        again None = new
        again (Some k) = one (k.req == h.req)
          where
            one : (c : Bool) → AllSay (cond {A = Served Server InvokedReply} c (reply s k.answer) (invoke_new n h x es o s)).outs
            one true = tt
            one false = new

        now : (w : Option What) → AllSay (invoke_now n h x es o s w).outs
        now (Some w) = tt
        now None = again (at_uid (actor h.path) s.kept)

        by : (c : Bool) (w : Option What) (k : Option Kept) →
            AllSay (cond {A = Served Server InvokedReply} c (void s) (invoke_now n h x es o s w)).outs
        by true w k = tt
        by false w k = now w

    vote_all : (p : Path) (i : ℕ) (ties : List (ℕ × Binding)) (es : List (Uid × End)) (s : Server) → EachEnd es →
        AllSay (server.vote n p i ties es s).outs
    vote_all p i ties es s each = by (has_ended p s) (either (other_inc i s.inc) (first_unbound ties s))
      where
        by : (c : Bool) (w : Option What) → AllSay (cond {A = Served Server VotedReply} c (void s) (vote_now n (actor p) es s w)).outs
        by true w = tt
        by false (Some w) = tt
        by false None = ends_all es s each

    activate_all : (p : Path) (b : Binding) (st : ObjectState) (s : Server) → AllSay (server.activate n p b st s).outs
    activate_all p b st s = by (has_ended p s || binding_less b (active_binding st.uid.num s)) (binding_eq b (active_binding st.uid.num s))
      where
        by : (c e : Bool) →
            AllSay (cond {A = Served Server ℕ} c (void s) (cond e (reply s s.inc) (took_copy n st.uid.num b st s))).outs
        by true e = tt
        by false true = tt
        by false false = (other (body.Active n st.uid.num b) refl, tt)

  -- ---- naming

  confirm_all : (p : Path) (grants : Grants) (excluded included : Marks) (d : Pair) (n : Naming) →
      (((excluded ≡ []) × (included ≡ []) → ⊥) → S (body.Prepared 1 (top_of p) role.Names)) →
      AllSay (confirm p grants excluded included d n).outs
  confirm_all p grants excluded included d n its =
      by (is_over p n || not (has_all grants n)) (is_on n.confirmed (top_of p) || is_prepared (top_of p) d)
      (checked p grants excluded included d n)
    where
      locks : Did Naming
      locks = lock_all (wanted (top_of p) grants excluded d) p n

      granted : AllSay locks.outs
      granted = locks_all locks.outs (all_locks (wanted (top_of p) grants excluded d) p n)

      prepares : S (body.Prepared 1 (top_of p) role.Names) → (states : List ObjectState) (a : Prep) →
          AllSay (prepared_by (top_of p) states locks a).outs
      prepares so states Ready = all_append (SaidIn S) locks.outs (Do Look ∷ Do (Prepare role.Names (top_of p) states)
          ∷ Say (body.Prepared 1 (top_of p) role.Names) ∷ []) granted (tt, (tt, (so, tt)))
      prepares so states (Already u) = all_append (SaidIn S) locks.outs (Do Look ∷ []) granted (tt, tt)
      prepares so states (Old u v) = all_append (SaidIn S) locks.outs (Do Look ∷ []) granted (tt, tt)
      prepares so states (InDoubt u v) = all_append (SaidIn S) locks.outs (Do Look ∷ []) granted (tt, tt)

      -- entries change by what is excluded or included
      bare : (excluded ≡ []) × (included ≡ []) → entries_after (top_of p) grants excluded included d ≡ []
      bare none = ap (λ e. entries_after (top_of p) grants e included d) none.0 ∙ ap (λ e. entries_after (top_of p) grants [] e d) none.1
          ∙ none_after (top_of p) grants d

      entries : (states : List ObjectState) → entries_after (top_of p) grants excluded included d ≡ states →
          AllSay (confirm_entries (top_of p) states d locks).outs
      entries [] is = granted
      entries (s ∷ ss) is = prepares (its (λ none. let no_way : s ∷ ss ≡ [] = sym is ∙ bare none in cc no_way)) (s ∷ ss)
          (prepare_answer (top_of p) (s ∷ ss) d)

      by : (v e : Bool) (r : Option ConfirmedReply) →
          AllSay (cond {A = Served Naming ConfirmedReply} v (void n) (cond {A = Served Naming ConfirmedReply} e
          (reply (confirms (top_of p) n) confirmed.Yes) (confirm_new p grants excluded included d n r))).outs
      by true e r = tt
      by false true r = tt
      by false false (Some r) = tt
      by false false None = entries (entries_after (top_of p) grants excluded included d) refl

  entries_all : (u : Uid) (e : End) → S (body.Done 1 u role.Names e) → AllSay (end_entries u e)
  entries_all u ending.Commit its = (tt, (its, tt))
  entries_all u ending.Abort its = (tt, (its, tt))

  orphans_all : (us : List Uid) → ((w : Uid) → is_on us w ≡ true → S (body.Done 1 w role.Names ending.Abort)) →
      AllSay (flat_map (λ act. end_entries act ending.Abort) us)
  orphans_all [] each = tt
  orphans_all (u ∷ us) each =
      all_append (SaidIn S) (end_entries u ending.Abort) (flat_map (λ act. end_entries act ending.Abort) us)
      (entries_all u ending.Abort (each u (λ i. uid_same u i || is_on us u)))
      (orphans_all us (λ w on. each w ((λ i. uid_eq u w || on i) ∙ or_true (uid_eq u w))))
    where
      or_true : (b : Bool) → (b || true) ≡ true
      or_true true = refl
      or_true false = refl

  pub named_all : (u : Uid) (e : End) (d : Pair) (o : Naming) → S (body.Done 1 u role.Names e) →
      ((f : End) → S (body.Told 1 u f part.Naming)) →
      ((w : Uid) → is_on (orphans u d o) w ≡ true → S (body.Done 1 w role.Names ending.Abort)) → AllSay (naming.told u e d o).outs
  named_all u e d o ends its others =
      let t = cond {A = Did Naming} (is_on o.told u) (did_nothing o) (told_new u (naming.taken_end u e o) d o) in
      all_append (SaidIn S) (own_entries u e d) t.outs (own (is_prepared u d)) (by (is_on o.told u))
    where
      own : (b : Bool) → AllSay (cond b (end_entries u e) [])
      own true = entries_all u e ends
      own false = tt

      line : (f : End) (b : Bool) → AllSay (cond b (Say (body.Told 1 u f part.Naming) ∷ []) [])
      line f true = (its f, tt)
      line f false = tt

      gone : (f : End) → AllSay (end_orphans u f d o)
      gone ending.Commit = tt
      gone ending.Abort = orphans_all (orphans u d o) others

      new : (f : End) → AllSay (told_new u f d o).outs
      new f = all_append (SaidIn S) (end_orphans u f d o) (end_lines u f o) (gone f) (line f (naming.has_locks u o))

      by : (b : Bool) → AllSay (cond {A = Did Naming} b (did_nothing o) (told_new u (naming.taken_end u e o) d o)).outs
      by true = tt
      by false = new (naming.taken_end u e o)

  -- ---- one message

  abbrev pub SaysBy : Handled → Type 0
  SaysBy (Void outs) = ⊤
  SaysBy (Took v outs) = AllSay outs

  module _ (k : ℕ) (d : Disk) (t : Parts) (from : ℕ) where
    module _ (h : Head) where
      answer_all : (v : Parts) (outs : List Effect) (r : Option Reply) → AllSay outs → SaysBy (sends_answer from h v outs r)
      answer_all v outs None all = tt
      answer_all v outs (Some r) all = all_append (SaidIn S) outs (Send from (response (asked_by h) r) ∷ []) all (tt, tt)

      served_all : {Z R : Type 0} (put : Z → Parts) (say : R → Reply) (r : Served Z R) → AllSay r.outs → SaysBy (served from h put say r)
      served_all put say r all = answer_all (put r.part) r.outs (option_map say r.reply) all

      given_all : {R : Type 0} (say : R → Reply) (f : Naming → Served Naming R) (o : Option Naming) → ((n : Naming) → AllSay (f n).outs) →
          SaysBy (if_naming (λ n. served from h (with_naming t) say (f n)) o)
      given_all say f None all = tt
      given_all say f (Some n) all = served_all (with_naming t) say (f n) (all n)

      load_all : (x : ℕ) (p : Pair) (o : Option Uid) → SaysBy (load_by x p from h t o)
      load_all x p (Some holder) = (tt, tt)
      load_all x p None = by (held_at (object x) p)
        where
          by : (s : Option ObjectState) → SaysBy (load_held from h t s)
          by None = tt
          by (Some s) = (tt, (tt, tt))

      prepare_all : (p : Pair) (states : List ObjectState) → S (body.Prepared k (actor h.path) role.Store) →
          SaysBy (prepare_states k p states from h t)
      prepare_all p states its = by (is_prepared (actor h.path) p)
        where
          answer : (a : Prep) → SaysBy (prepare_by k states from h t a)
          answer Ready = (tt, (tt, (its, (tt, tt))))
          answer (Already u) = tt
          answer (Old u v) = (tt, (tt, tt))
          answer (InDoubt u v) = (tt, (tt, tt))

          by : (b : Bool) → SaysBy (cond b (sends_answer from h t [] (Some (Reply.Prepared prepared.Yes)))
              (prepare_by k states from h t (prepare_answer (actor h.path) states p)))
          by true = (tt, tt)
          by false = answer (prepare_answer (actor h.path) states p)

      pub serve_all : (a : Ask) → EachEnd k (brought_by (Some (h, a))) → AskPrepares S k h a → SaysBy (serve k d t from h a)
      serve_all (ask.Bind x include avoid) each its = given_all Reply.Bound (naming.bind h.path x include avoid d.names) t.naming
          (λ n. locks_all (naming.bind h.path x include avoid d.names n).outs (bind_locks h.path x include avoid d.names n))
      serve_all (ask.Load x) each its = load_all x d.store (holder_of (object x) d.store)
      serve_all (ask.Activate b st) each its = served_all (with_server t) Reply.Activated (server.activate k h.path b st t.server)
          (activate_all k h.path b st t.server)
      serve_all (ask.Record x b i g) each its = given_all Reply.Noted (naming.note h.path x b i g) t.naming
          (λ n. locks_all (naming.note h.path x b i g n).outs (note_locks h.path x b i g n))
      serve_all (ask.Invoke x b i es o) each its = served_all (with_server t) Reply.Invoked (server.invoke k h x b i es o t.server)
          (invoke_all k h x b i es o t.server each)
      serve_all (ask.Vote i ties es) each its = served_all (with_server t) Reply.Voted (server.vote k h.path i ties es t.server)
          (vote_all k h.path i ties es t.server each)
      serve_all (ask.Prepare states) each its = prepare_all d.store states its
      serve_all (ask.Confirm grants excluded included) each its =
          given_all Reply.Confirmed (confirm h.path grants excluded included d.names) t.naming
          (λ n. confirm_all h.path grants excluded included d.names n its)

    pub replied : (v : Parts) (outs : List Effect) (r : Option (Unit {0})) → AreAll is_coord_effect outs → SaysBy (by_reply v outs r)
    replied v outs None all = tt
    replied v outs (Some u) all = coord_all outs all

    told_all : (ack : Bool) (es : List (Uid × End)) (u : Uid) (e : End) → EachEnd k es → S (body.Done k u role.Store e) →
        ((o : Naming) → t.naming ≡ Some o → AllSay (naming.told u e d.names o).outs) → SaysBy (handle_told k d t from ack es u e)
    told_all ack es u e each ends names =
        all_append (SaidIn S) (store_told k u e d.store ++ (naming_told u e d.names t.naming).outs ++ (server.told k es t.server).outs)
        (ack_told from u ack)
        (all_append (SaidIn S) (store_told k u e d.store ++ (naming_told u e d.names t.naming).outs) (server.told k es t.server).outs
        (all_append (SaidIn S) (store_told k u e d.store) (naming_told u e d.names t.naming).outs (store e ends (is_prepared u d.store))
        (named t.naming refl))
        (ends_all k es t.server each))
        (acks ack)
      where
        store : (f : End) → S (body.Done k u role.Store f) → (b : Bool) → AllSay (cond b (end_states k u f) [])
        store f its false = tt
        store ending.Commit its true = (tt, (its, tt))
        store ending.Abort its true = (tt, (its, tt))

        named : (o : Option Naming) → t.naming ≡ o → AllSay (naming_told u e d.names o).outs
        named None is = tt
        named (Some o) is = names o is

        acks : (b : Bool) → AllSay (ack_told from u b)
        acks true = (tt, tt)
        acks false = tt

    pub other_all : (m : Message) → FitsEnds S k d t m → SaysBy (handle_other k d t from m)
    other_all (message.Told m) f = by (last_end m.ends) refl
      where
        by : (o : Option (Uid × End)) → last_end m.ends ≡ o → SaysBy (handle_ends k d t from m.ack m.ends o)
        by None is = tt
        by (Some e) is =
            let among = last_among m.ends e is in
            told_all m.ack m.ends e.0 e.1 (λ u q g c. f.server u q g (inl c)) (f.store e.0 e.1 among)
            (λ o there. named_all e.0 e.1 d.names o (f.names e.0 e.1 among) (λ g. f.naming e.0 e.1 g among)
            (λ w on. f.orphans e.0 e.1 o w among there on))
    other_all (message.Acked m) f = let r = acked from m.act d.intents t.coord in
        replied (with_coord t r.part) r.outs r.reply (acked_own from m.act d.intents t.coord)
    other_all (message.Query m) f = coord_all (Words.answer_query from m.act d.intents t.coord) (query_own from m.act d.intents t.coord)
    other_all (message.Hello m) f = coord_all (map query_about (filter (is_earlier m.node m.inc) (holders d t)))
        (map_own query_about (filter (is_earlier m.node m.inc) (holders d t)) (λ u. refl))
    other_all m f = tt

    pub message_all : (m : Message) → FitsEnds S k d t m → SaysBy (handle k d t from m)
    message_all m f = by (asks m) refl
      where
        answered : (a : Option (Asked × Reply)) → SaysBy (handle_answer k d t from m a)
        answered None = other_all m f
        answered (Some a) = let r = heard from a.0 a.1 d.intents t.coord in
            replied (with_coord t r.part) r.outs r.reply (heard_own from a.0 a.1 d.intents t.coord)

        by : (o : Option (Head × Ask)) → asks m ≡ o → SaysBy (handle_ask k d t from m o)
        by None is = answered (answers m)
        by (Some a) is = serve_all a.0 a.1 (λ u e g c. f.server u e g (inr (subst (λ o. Contains {X = Uid × End} (brought_by o) (u, e))
            (sym is) c))) (f.prepares a.0 a.1 is)
