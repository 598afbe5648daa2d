-- What a node makes of a message: whom it has told then, whose locks it has, and what it sends.
use Rattle.arj_law_parts.proofs.Words
use Words.{◌≡◌, ◌⊎◌, ◌==◌, ℕ, List, [], ◌∷◌, ◌++◌, Bool, true, false, cond, filter, map, Option, Some, None, Contains, refl, sym, ◌∙◌, ap}
use Words.{subst, inl, inr, ⊎_elim, ⊤, ◌||◌, not, is_some, option_map, AllByRecursion, list_all, and_parts, or_cases, uid_is, in_to, Ask}
use Words.{Asked, Binding, BoundReply, ConfirmedReply, End, Head, InvokedReply, Message, ObjectState, Op, Path, RecordedReply, Uid}
use Words.{VotedReply, What, asks, is_on, last_uid, object, tops_of, uid_eq, uids_of, Reply, actor, answers, asked_by, last_end, response}
use Words.{top_of, top_path, heard, Grants, Marks, checked, confirm, confirm_entries, confirm_new, confirms, entries_after, has_all}
use Words.{lock_all, lock_in, prepared_by, wanted, Coord, Copy, invoke_copy, Already, Did, Disk, Do, Effect, InDoubt, Old, Pair, Prep}
use Words.{Ready, Say, Send, Served, did_nothing, either, held_at, holder_of, is_prepared, prepare_answer, reply, void, acked, answer_query}
use Words.{Named, bind_named, note_named, Naming, is_over, listed_entry, on_counted, on_named, taken_end, told_new, Handled, Parts, Took}
use Words.{Void, ack_told, by_reply, coord_heard, end_states, handle, handle_answer, handle_ask, handle_ends, handle_other, holders}
use Words.{if_naming, is_earlier, load_by, load_held, locks_of, naming_hello, naming_told, prepare_by, prepared_actions, query_about}
use Words.{sends_answer, serve, served, store_told, with_coord, with_naming, with_server, at_number, at_uid, binding_eq, binding_less}
use Words.{AreAll, is_naming_effect, is_server_effect, Kept, Server, active_binding, apply_ends, changed_by, first_unbound, has_ended}
use Words.{invoke, invoke_kept, invoke_new, invoke_now, is_below, is_told, keeps, on_copy, other_inc, server_holders, took_copy, vote}
use Words.{vote_now, activate_own, bind_own, confirm_own, ends_own, invoke_own, note_own, told_own, vote_own}
use Words.list
use Words.ask
use Words.confirmed
use Words.ending
use Words.message
use Words.prepared
use Words.recorded
use Words.what
use Words.naming
use Words.server
use Rattle.arj_law_serial.proofs.Terms
use Terms.{Action, AreBegun, brought, brought_by, told_by, FitsAsk, FitsAsked, FitsMessage, IsAsker, none_in, on_with, bind_says, ends_in}
use Terms.{note_says, AreBegunIn, AreEntryRows, AreNamesRows, IsBegun, IsCallRow, IsEntryRow, IsTopPath, rows_bind, rows_confirm}
use Terms.{rows_hello, rows_note, rows_told, top_path_is, all_each, all_filter, all_keys, all_set, all_tops, All, queries_mean, IsNamedBy}
use Rattle.arj_law_disk_view.proofs.running
use running.{Holders.call_top, Holders.entry_top, Lists.all_append}
use running.Means.{IsOwnReply, both, confirm_means, response_means, says_mean, server_means, told_means}
use running.RowWalks.{rows_activate, rows_invoke, rows_told as rows_ended, rows_vote, votes_own}
use Rattle.arj_law_disk_view.specs.running.{Places.AreCallRows, Places.AreKeyed, Sound.AreOwnIn, Sound.voted_of}
use Rattle.arj_law_parts.proofs.parts.GoodServers.{told_ends}
use Rattle.arj_law_parts.specs.parts.Servers.{has_end_of}
use Rattle.arj_law_runs.proofs.addresses.Lists.{some_is}
use Rattle.arj_law_serial.proofs.past.Tellers.{AllTell, TellsOf, tell_both, tell_map}

-- ---- who was told

end_in : (w : Uid) (ends : List (Uid × End)) → has_end_of w ends ≡ true → (e : End) × Contains {X = Uid × End} ends (w, e)
end_in w ends on = let x = by ends on in (x.0, in_to (w, x.0) ends x.1)
  where
    here_is : (f : Uid × End) → uid_eq f.0 w ≡ true → ◌≡◌ {A = Uid × End} f (w, f.1)
    here_is f same = λ i. (uid_is f.0 w same i, f.1)

    by : (es : List (Uid × End)) → has_end_of w es ≡ true → (e : End) × list.In {X = Uid × End} (w, e) es
    by [] is = absurd (cc is)
    by (f ∷ fs) is = ⊎_elim (λ here. (f.1, inl (here_is f here))) (λ rest. let x = by fs rest in
        (x.0, inr x.1)) (or_cases (uid_eq f.0 w) (has_end_of w fs) is)

last_in : (es : List (Uid × End)) (e : Uid × End) → last_end es ≡ Some e → list.In e es
last_in [] e is = absurd (cc is)
last_in (f ∷ []) e is = inl (some_is is)
last_in (f ∷ g ∷ es) e is = inr (last_in (g ∷ es) e is)

module _ (u : Uid) where
  -- one server after another: whoever was told then was told before, or is among these ends
  abbrev IsToldBy : List (Uid × End) → Server → Server → Type 0
  IsToldBy ends s z = is_told u z ≡ true → (is_told u s ≡ true) ⊎ (has_end_of u ends ≡ true)

  told_activate : (n : ℕ) (p : Path) (b : Binding) (st : ObjectState) (s : Server) → IsToldBy [] s (server.activate n p b st s).part
  told_activate n p b st s = by (has_ended p s || binding_less b (active_binding st.uid.num s)) (binding_eq b (active_binding st.uid.num s))
    where
      by : (c e : Bool) →
          IsToldBy [] s (cond {A = Served Server ℕ} c (void s) (cond e (reply s s.inc) (took_copy n st.uid.num b st s))).part
      by true e is = inl is
      by false true is = inl is
      by false false is = inl is

  told_invoke : (n : ℕ) (h : Head) (x : ℕ) (b : Binding) (i : ℕ) (ends : List (Uid × End)) (o : Op) (s : Server) →
      IsToldBy ends s (invoke n h x b i ends o s).part
  told_invoke n h x b i ends o s = by (has_ended h.path s || is_below h.req (at_uid (actor h.path) s.kept))
    where
      kept_on : (q : Option InvokedReply) (z : Server) → IsToldBy ends s z → IsToldBy ends s (keeps (actor h.path) h.req q z)
      kept_on None z t = t
      kept_on (Some a) z t = t

      copied : (z : Server) → IsToldBy ends s z → (c : Option Copy) → IsToldBy ends s (on_copy x (invoke_copy n h.path x o) z c).part
      copied z t None = t
      copied z t (Some c) = t

      new : IsToldBy ends s (invoke_new n h x ends o s).part
      new = let t = (apply_ends n ends s).part in let r = on_copy x (invoke_copy n h.path x o) t (at_number x t.objects) in
          kept_on r.reply r.part (copied t (told_ends n ends s u) (at_number x t.objects))

      again : (k : Option Kept) → IsToldBy ends s (invoke_kept n h x ends o s k).part
      again None = new
      again (Some k) = one (k.req == h.req)
        where
          one : (c : Bool) → IsToldBy ends s (cond {A = Served Server InvokedReply} c (reply s k.answer) (invoke_new n h x ends o s)).part
          one true is = inl is
          one false is = new is

      now : (w : Option What) → IsToldBy ends s (invoke_now n h x ends o s w).part
      now None is = again (at_uid (actor h.path) s.kept) is
      now (Some w) is = inl is

      by : (c : Bool) →
          IsToldBy ends s (cond {A = Served Server InvokedReply} c (void s) (invoke_now n h x ends o s (changed_by i x b s))).part
      by true is = inl is
      by false is = now (changed_by i x b s) is

  told_vote : (n : ℕ) (p : Path) (i : ℕ) (ties : List (ℕ × Binding)) (ends : List (Uid × End)) (s : Server) →
      IsToldBy ends s (vote n p i ties ends s).part
  told_vote n p i ties ends s = by (has_ended p s)
    where
      now : (w : Option What) → IsToldBy ends s (vote_now n (actor p) ends s w).part
      now None is = told_ends n ends s u is
      now (Some w) is = inl is

      by : (c : Bool) → IsToldBy ends s (cond {A = Served Server VotedReply} c (void s)
          (vote_now n (actor p) ends s (either (other_inc i s.inc) (first_unbound ties s)))).part
      by true is = inl is
      by false is = now (either (other_inc i s.inc) (first_unbound ties s)) is

-- a bind, a record and a confirm tell nobody
bind_told : (p : Path) (x : ℕ) (include_it : Bool) (avoid : Binding) (d : Pair) (n : Naming) →
    (naming.bind p x include_it avoid d n).part.told ≡ n.told
bind_told p x include_it avoid d n = by (is_over p n)
  where
    there : (o : Option Named) → (on_counted x (bind_named n.inc x p include_it avoid (listed_entry x d)) n o).part.told ≡ n.told
    there None = refl
    there (Some o) = refl

    by : (b : Bool) → (cond {A = Served Naming BoundReply} b (void n)
        (on_counted x (bind_named n.inc x p include_it avoid (listed_entry x d)) n (at_number x n.objects))).part.told ≡ n.told
    by true = refl
    by false = there (at_number x n.objects)

note_told : (p : Path) (x : ℕ) (b : Binding) (i g : ℕ) (n : Naming) → (naming.note p x b i g n).part.told ≡ n.told
note_told p x b i g n = by (is_over p n || not (is_some (at_number x n.objects))) (g == n.inc)
  where
    there : (o : Option Named) → (on_named x (note_named x (top_of p) b i) n o).part.told ≡ n.told
    there None = refl
    there (Some o) = refl

    by : (over ours : Bool) → (cond {A = Served Naming RecordedReply} over (void n) (cond ours (on_named x (note_named x (top_of p) b i) n
        (at_number x n.objects)) (reply n (recorded.Changed (what.Inc g n.inc))))).part.told ≡ n.told
    by true ours = refl
    by false true = there (at_number x n.objects)
    by false false = refl

locks_told : (xs : List ℕ) (p : Path) (n : Naming) → (lock_all xs p n).part.told ≡ n.told
locks_told [] p n = refl
locks_told (x ∷ xs) p n = locks_told xs p (lock_in x p n (at_number x n.objects)).part ∙ one (at_number x n.objects)
  where
    one : (o : Option Named) → (lock_in x p n o).part.told ≡ n.told
    one None = refl
    one (Some o) = refl

confirm_told : (p : Path) (grants : Grants) (excluded included : Marks) (d : Pair) (n : Naming) →
    (confirm p grants excluded included d n).part.told ≡ n.told
confirm_told p grants excluded included d n =
    by (is_over p n || not (has_all grants n)) (is_on n.confirmed (top_of p) || is_prepared (top_of p) d)
  where
    locks : Did Naming
    locks = lock_all (wanted (top_of p) grants excluded d) p n

    same : locks.part.told ≡ n.told
    same = locks_told (wanted (top_of p) grants excluded d) p n

    answered : (states : List ObjectState) (a : Prep) → (prepared_by (top_of p) states locks a).part.told ≡ n.told
    answered states Ready = same
    answered states (Already u) = same
    answered states (Old u v) = same
    answered states (InDoubt u v) = same

    entries : (states : List ObjectState) → (confirm_entries (top_of p) states d locks).part.told ≡ n.told
    entries [] = same
    entries (x ∷ xs) = answered (x ∷ xs) (prepare_answer (top_of p) (x ∷ xs) d)

    new : (c : Option ConfirmedReply) → (confirm_new p grants excluded included d n c).part.told ≡ n.told
    new (Some r) = refl
    new None = entries (entries_after (top_of p) grants excluded included d)

    by : (over again : Bool) →
        (cond {A = Served Naming ConfirmedReply} over (void n) (cond {A = Served Naming ConfirmedReply} again (reply (confirms (top_of p) n)
        confirmed.Yes) (confirm_new p grants excluded included d n (checked p grants excluded included d n)))).part.told ≡ n.told
    by true again = refl
    by false true = refl
    by false false = new (checked p grants excluded included d n)

-- ---- who holds something

-- what is known of who has locks at a node that is up
pub record HoldsBegun (acts : List Action) (t : Parts) : Type 0 where
  pub calls : AreCallRows acts (let s = t.server in s.objects)
  pub keys : AreKeyed (let s = t.server in s.objects)
  pub entries : AreNamesRows acts t.naming

module _ (acts : List Action) (begun : AreBegun acts) where
  -- each holder was begun
  pub holders_begun : (d : Disk) (t : Parts) → AreBegunIn acts d.store → AreBegunIn acts d.names → HoldsBegun acts t →
      AllByRecursion (IsBegun acts) (holders d t)
  holders_begun d t store names p =
      all_set (IsBegun acts) (server_holders t.server ++ locks_of t.naming ++ prepared_actions d.store ++ prepared_actions d.names)
      (all_append (IsBegun acts) (server_holders t.server ++ locks_of t.naming ++ prepared_actions d.store) (prepared_actions d.names)
      (all_append (IsBegun acts) (server_holders t.server ++ locks_of t.naming) (prepared_actions d.store) (all_append (IsBegun acts)
      (server_holders t.server) (locks_of t.naming) calls (entries t.naming p.entries)) (all_keys (IsBegun acts) d.store.pend store))
      (all_keys (IsBegun acts) d.names.pend names))
    where
      calls : AllByRecursion (IsBegun acts) (server_holders t.server)
      calls = all_tops (IsBegun acts) (λ (c : Copy). c.rows) (let s = t.server in s.objects) (all_each (λ (e : ℕ × Copy). (r : _) →
          Contains (let c = e.1 in c.rows) r → IsCallRow acts r) (λ (e : ℕ × Copy). (r : _) → Contains (let c = e.1 in c.rows) r →
          IsBegun acts (server.row_top r)) (let s = t.server in s.objects) (λ e each r c. call_top acts begun r (each r c)) p.calls)

      entries : (o : Option Naming) → AreNamesRows acts o → AllByRecursion (IsBegun acts) (locks_of o)
      entries None its = tt
      entries (Some n) its = all_tops (IsBegun acts) (λ (o : _). o.rows) n.objects (all_each (λ (e : _). (r : _) →
          Contains (let o = e.1 in o.rows) r → IsEntryRow acts r) (λ (e : _). (r : _) → Contains (let o = e.1 in o.rows) r →
          IsBegun acts (server.row_top r)) n.objects (λ e each r c. entry_top acts begun r (each r c)) its)

-- ---- effects

-- what this node tells: ends of its own actions that were begun
abbrev pub IsOwnNamed : List Action → ℕ → Uid → Type 0
IsOwnNamed acts k u = IsNamedBy acts u × (u.node ≡ k)

module _ (K : Uid → Type 0) where
  -- without messages nothing is told
  pub no_sends : (test : Effect → Bool) → ((to : ℕ) (m : Message) → test (Send to m) ≡ false) → (es : List Effect) → AreAll test es →
      AllTell K es
  no_sends test none [] own = tt
  no_sends test none (Say b ∷ es) own = (tt, no_sends test none es (and_parts (test (Say b)) (list_all test es) own).1)
  no_sends test none (Do w ∷ es) own = (tt, no_sends test none es (and_parts (test (Do w)) (list_all test es) own).1)
  no_sends test none (Send to m ∷ es) own =
      let no_way : true ≡ false = sym (and_parts (test (Send to m)) (list_all test es) own).0 ∙ none to m in absurd (cc no_way)

  tell_response : (to : ℕ) (a : Asked) (r : Reply) → TellsOf K (Send to (response a r))
  tell_response to a (Reply.Bound r) u e i = none_in u e i
  tell_response to a (Reply.Loaded r) u e i = none_in u e i
  tell_response to a (Reply.Activated j) u e i = none_in u e i
  tell_response to a (Reply.Noted r) u e i = none_in u e i
  tell_response to a (Reply.Invoked r) u e i = none_in u e i
  tell_response to a (Reply.Voted r) u e i = none_in u e i
  tell_response to a (Reply.Prepared r) u e i = none_in u e i
  tell_response to a (Reply.Confirmed r) u e i = none_in u e i

  pub tell_queries : (us : List Uid) → AllTell K (map query_about us)
  tell_queries us = tell_map K query_about us (λ w u e i. none_in u e i)

-- ---- messages

-- whose end the message brings or tells
abbrev pub HasEnd : Message → Uid → Type 0
HasEnd m u = (e : End) × (Contains {X = Uid × End} (told_by m) (u, e) ⊎ Contains {X = Uid × End} (brought m) (u, e))

-- What a node with these parts makes of a message: locks are of actions that were begun; whoever was told then was told before, or ends by
-- the message; and so much is prepared, asked about and told.
pub record LeavesPast (acts : List Action) (k : ℕ) (t : Parts) (has : Uid → Type 0) (v : Parts) (outs : List Effect) : Type 0 where
  pub holds : HoldsBegun acts v
  pub server : (u : Uid) → is_told u v.server ≡ true → (is_told u t.server ≡ true) ⊎ has u
  pub naming : (o : Naming) (u : Uid) → v.naming ≡ Some o → is_on o.told u ≡ true →
      ((q : Naming) × (t.naming ≡ Some q) × (is_on q.told u ≡ true)) ⊎ has u
  pub place : is_some v.naming ≡ is_some t.naming
  pub means : All acts outs
  pub tells : AllTell (IsOwnNamed acts k) outs

module _ (acts : List Action) (begun : AreBegun acts) (k : ℕ) (d : Disk) (t : Parts) (from : ℕ) (store : AreBegunIn acts d.store)
    (names : AreBegunIn acts d.names) (held : HoldsBegun acts t) where
  abbrev K : Uid → Type 0
  K = IsOwnNamed acts k

  abbrev pub By : (Uid → Type 0) → Handled → Type 0
  By has (Void outs) = ⊤
  By has (Took v outs) = LeavesPast acts k t has v outs

  abbrev Ok : List Effect → Type 0
  Ok outs = All acts outs × AllTell K outs

  ok_both : (es fs : List Effect) → Ok es → Ok fs → Ok (es ++ fs)
  ok_both es fs a b = (both acts es fs a.0 b.0, tell_both K es fs a.1 b.1)

  ok_server : (es : List Effect) → AreAll (is_server_effect k) es → Ok es
  ok_server es own = (server_means acts k es own, no_sends K (is_server_effect k) (λ to m. refl) es own)

  ok_naming : (es : List Effect) → All acts es → AreAll is_naming_effect es → Ok es
  ok_naming es means own = (means, no_sends K is_naming_effect (λ to m. refl) es own)

  module _ (has : Uid → Type 0) where
    -- the server goes on, and naming is as it was
    abbrev ServerOn : Server → Type 0
    ServerOn s = (AreCallRows acts s.objects × AreKeyed s.objects) × ((u : Uid) → is_told u s ≡ true → (is_told u t.server ≡ true) ⊎ has u)

    abbrev NamingOn : Option Naming → Type 0
    NamingOn n = AreNamesRows acts n × ((o : Naming) (u : Uid) → n ≡ Some o → is_on o.told u ≡ true →
        ((q : Naming) × (t.naming ≡ Some q) × (is_on q.told u ≡ true)) ⊎ has u) × (is_some n ≡ is_some t.naming)

    server_on : ServerOn t.server
    server_on = ((held.calls, held.keys), λ u is. inl is)

    naming_on : NamingOn t.naming
    naming_on = (held.entries, (λ o u is on. inl (o, is, on)), refl)

    leaves : (v : Parts) (outs : List Effect) → ServerOn v.server → NamingOn v.naming → Ok outs → LeavesPast acts k t has v outs
    leaves v outs s n ok = record {
      holds = record { calls = s.0.0; keys = s.0.1; entries = n.0 };
      server = s.1;
      naming = n.1;
      place = n.2;
      means = ok.0;
      tells = ok.1;
    }

    answered : (h : Head) (v : Parts) (outs : List Effect) (o : Option Reply) → IsOwnReply (actor h.path) o → ServerOn v.server →
        NamingOn v.naming → Ok outs → By has (sends_answer from h v outs o)
    answered h v outs None own s n ok = tt
    answered h v outs (Some r) own s n ok = leaves v (outs ++ Send from (response (asked_by h) r) ∷ []) s n (ok_both outs (Send from
        (response (asked_by h) r) ∷ []) ok ((response_means acts from (asked_by h) r own, tt), (tell_response K from (asked_by h) r, tt)))

    -- an answer of another kind votes nothing
    no_vote : {R : Type 0} (top : Uid) (say : R → Reply) → ((r : R) → AreOwnIn top (voted_of (say r))) → (o : Option R) →
        IsOwnReply top (option_map say o)
    no_vote top say each None = tt
    no_vote top say each (Some r) = each r

    with_it : (f : Naming → Handled) (o : Option Naming) → t.naming ≡ o → ((m : Naming) → t.naming ≡ Some m → By has (f m)) →
        By has (if_naming f o)
    with_it f None is each = tt
    with_it f (Some m) is each = each m is

    its_rows : (m : Naming) → t.naming ≡ Some m → AreEntryRows acts m.objects
    its_rows m is = subst (AreNamesRows acts) is held.entries

    -- naming that tells nobody
    named_on : (m n : Naming) → t.naming ≡ Some m → n.told ≡ m.told → AreEntryRows acts n.objects → NamingOn (Some n)
    named_on m n is same rows = (
      rows,
      (λ o u at_o on. inl (m, is, ap (λ us. is_on us u) (sym same) ∙ ap (λ (q : Naming). is_on q.told u) (some_is at_o) ∙ on)),
      sym (ap is_some is),
    )

    served_on : (ends : List (Uid × End)) → ((u : Uid) (e : End) → Contains {X = Uid × End} ends (u, e) → has u) → (s : Server) →
        AreCallRows acts s.objects × AreKeyed s.objects → ((u : Uid) → IsToldBy u ends t.server s) → ServerOn s
    served_on ends each s rows told =
        (rows, λ u is. ⊎_elim (λ old. inl old) (λ new. let e = end_in u ends new in inr (each u e.0 e.1)) (told u is))

    asked : (h : Head) (a : Ask) → IsAsker acts h.path → ((u : Uid) (e : End) → Contains {X = Uid × End} (ends_in a) (u, e) → has u) →
        By has (serve k d t from h a)
    asked h a who = by a
      where
        act : IsBegun acts (actor h.path)
        act = (who.0, who.1, ap actor who.2)

        path : IsTopPath acts (top_path h.path) (tops_of h.path)
        path = subst (λ (p : Path). IsTopPath acts (top_path p) (tops_of p)) who.2 (top_path_is acts begun who.0 who.1)

        top : IsBegun acts (top_of h.path)
        top = ⊎_elim (λ f. subst (IsBegun acts) (sym (ap last_uid f.2)) f.1) (λ f. (f.0, f.1, sym (ap last_uid f.3))) path

        by : (a : Ask) → ((u : Uid) (e : End) → Contains {X = Uid × End} (ends_in a) (u, e) → has u) → By has (serve k d t from h a)
        by (ask.Bind x include_it avoid) ends =
            with_it (λ o. served from h (with_naming t) Reply.Bound (naming.bind h.path x include_it avoid d.names o)) t.naming refl
            (λ m is. let r = naming.bind h.path x include_it avoid d.names m in answered h (with_naming t r.part) r.outs
            (option_map Reply.Bound r.reply) (no_vote (actor h.path) Reply.Bound (λ r. tt) r.reply) server_on
            (named_on m r.part is (bind_told h.path x include_it avoid d.names m)
            (rows_bind acts begun h.path path x include_it avoid d.names m (its_rows m is))) (ok_naming r.outs
            (says_mean acts r.outs (bind_says h.path x include_it avoid d.names m)) (bind_own h.path x include_it avoid d.names m)))
        by (ask.Load x) ends = load (holder_of (object x) d.store)
          where
            state : (s : Option ObjectState) → By has (load_held from h t s)
            state None = tt
            state (Some s) = leaves t _ server_on naming_on ((tt, ((tt, tt), tt)), (tt, ((λ u e i. none_in u e i), tt)))

            load : (o : Option Uid) → By has (load_by x d.store from h t o)
            load (Some u) = leaves t _ server_on naming_on (((tt, tt), tt), ((λ w e i. none_in w e i), tt))
            load None = state (held_at (object x) d.store)
        by (ask.Activate b st) ends = let r = server.activate k h.path b st t.server in answered h (with_server t r.part) r.outs
            (option_map Reply.Activated r.reply) (no_vote (actor h.path) Reply.Activated (λ r. tt) r.reply)
            (served_on [] (λ u e i. none_in u e i) r.part (rows_activate acts begun k h.path b st t.server (held.calls, held.keys))
            (λ u. told_activate u k h.path b st t.server)) naming_on (ok_server r.outs (activate_own k h.path b st t.server))
        by (ask.Record x b i g) ends = with_it (λ o. served from h (with_naming t) Reply.Noted (naming.note h.path x b i g o)) t.naming refl
            (λ m is. let r = naming.note h.path x b i g m in answered h (with_naming t r.part) r.outs (option_map Reply.Noted r.reply)
            (no_vote (actor h.path) Reply.Noted (λ r. tt) r.reply) server_on
            (named_on m r.part is (note_told h.path x b i g m) (rows_note acts begun h.path x b i g m (its_rows m is)))
            (ok_naming r.outs (says_mean acts r.outs (note_says h.path x b i g m)) (note_own h.path x b i g m)))
        by (ask.Invoke x b i ends o) each = let r = server.invoke k h x b i ends o t.server in answered h (with_server t r.part) r.outs
            (option_map Reply.Invoked r.reply) (no_vote (actor h.path) Reply.Invoked (λ r. tt) r.reply)
            (served_on ends each r.part (rows_invoke acts begun k h x b i ends o t.server
            (who.0, who.1, ap uids_of (sym who.2), ap tops_of (sym who.2)) (held.calls, held.keys))
            (λ u. told_invoke u k h x b i ends o t.server)) naming_on (ok_server r.outs (invoke_own k h x b i ends o t.server))
        by (ask.Vote i ties ends) each = let r = server.vote k h.path i ties ends t.server in answered h (with_server t r.part) r.outs
            (option_map Reply.Voted r.reply) (votes_own acts begun k h.path i ties ends t.server (held.calls, held.keys))
            (served_on ends each r.part (rows_vote acts begun k h.path i ties ends t.server (held.calls, held.keys))
            (λ u. told_vote u k h.path i ties ends t.server)) naming_on (ok_server r.outs (vote_own k h.path i ties ends t.server))
        by (ask.Prepare states) ends = one (is_prepared (actor h.path) d.store)
          where
            new : (a : Prep) → By has (prepare_by k states from h t a)
            new Ready = leaves t _ server_on naming_on ((tt, (act, (tt, ((tt, tt), tt)))), (tt, (tt, (tt, ((λ u e i. none_in u e i), tt)))))
            new (Already u) = tt
            new (Old u v) = leaves t _ server_on naming_on ((tt, ((tt, tt), tt)), (tt, ((λ u e i. none_in u e i), tt)))
            new (InDoubt u holder) = leaves t _ server_on naming_on ((tt, ((tt, tt), tt)), (tt, ((λ u e i. none_in u e i), tt)))

            one : (b : Bool) → By has (cond b (sends_answer from h t [] (Some (Reply.Prepared prepared.Yes)))
                (prepare_by k states from h t (prepare_answer (actor h.path) states d.store)))
            one true = leaves t _ server_on naming_on (((tt, tt), tt), ((λ u e i. none_in u e i), tt))
            one false = new (prepare_answer (actor h.path) states d.store)
        by (ask.Confirm grants excluded included) ends =
            with_it (λ o. served from h (with_naming t) Reply.Confirmed (confirm h.path grants excluded included d.names o)) t.naming refl
            (λ m is. let r = confirm h.path grants excluded included d.names m in answered h (with_naming t r.part) r.outs
            (option_map Reply.Confirmed r.reply) (no_vote (actor h.path) Reply.Confirmed (λ r. tt) r.reply) server_on
            (named_on m r.part is (confirm_told h.path grants excluded included d.names m)
            (rows_confirm acts begun h.path path grants excluded included d.names m (its_rows m is))) (ok_naming r.outs
            (confirm_means acts h.path grants excluded included d.names m top) (confirm_own h.path grants excluded included d.names m)))

    coord_left : (r : Served Coord (Unit {0})) → Ok r.outs → By has (coord_heard t r)
    coord_left r ok = by r.reply
      where
        by : (o : Option (Unit {0})) → By has (by_reply (with_coord t r.part) r.outs o)
        by None = tt
        by (Some u) = leaves (with_coord t r.part) r.outs server_on naming_on ok

    ends_left : (ack : Bool) (ends : List (Uid × End)) → ((u : Uid) (e : End) → Contains {X = Uid × End} ends (u, e) → has u) →
        (o : Option (Uid × End)) → last_end ends ≡ o → By has (handle_ends k d t from ack ends o)
    ends_left ack ends each None is = leaves t [] server_on naming_on (tt, tt)
    ends_left ack ends each (Some e) is =
        let s = server.told k ends t.server in
        let o = naming_told e.0 e.1 d.names t.naming in
        leaves (record { server = s.part; naming = o.part; coord = t.coord })
        (store_told k e.0 e.1 d.store ++ o.outs ++ s.outs ++ ack_told from e.0 ack)
        (served_on ends each s.part (rows_ended acts begun k ends t.server (held.calls, held.keys)) (λ u. told_ends k ends t.server u))
        (named t.naming refl)
        (ok_both (store_told k e.0 e.1 d.store ++ o.outs ++ s.outs) (ack_told from e.0 ack)
        (ok_both (store_told k e.0 e.1 d.store ++ o.outs) s.outs (ok_both (store_told k e.0 e.1 d.store) o.outs
        (stored (is_prepared e.0 d.store) e.1) (said t.naming)) (ok_server s.outs (ends_own k ends t.server))) (acked_told ack))
      where
        mine : has e.0
        mine = each e.0 e.1 (in_to e ends (last_in ends e is))

        stored : (b : Bool) (how : End) → Ok (cond b (end_states k e.0 how) [])
        stored false how = (tt, tt)
        stored true ending.Commit = ((tt, (tt, tt)), (tt, (tt, tt)))
        stored true ending.Abort = ((tt, (tt, tt)), (tt, (tt, tt)))

        said : (o : Option Naming) → Ok (naming_told e.0 e.1 d.names o).outs
        said None = (tt, tt)
        said (Some m) = ok_naming (naming.told e.0 e.1 d.names m).outs (told_means acts e.0 e.1 d.names m) (told_own e.0 e.1 d.names m)

        acked_told : (b : Bool) → Ok (ack_told from e.0 b)
        acked_told true = (((tt, tt), tt), ((λ u e i. none_in u e i), tt))
        acked_told false = (tt, tt)

        named : (o : Option Naming) → t.naming ≡ o → NamingOn (naming_told e.0 e.1 d.names o).part
        named None at_none = (tt, (λ o u no on. absurd (cc no)), sym (ap is_some at_none))
        named (Some m) at_m = (
          rows_told acts begun e.0 e.1 d.names m (its_rows m at_m),
          (λ o u at_o on. new u (is_on m.told e.0) refl (ap (λ (q : Naming). is_on q.told u) (some_is at_o) ∙ on)),
          sym (ap is_some at_m),
        )
          where
            new : (u : Uid) (b : Bool) → is_on m.told e.0 ≡ b → is_on (cond b (did_nothing m) (told_new e.0 (taken_end e.0 e.1 m) d.names
                m)).part.told u ≡ true → ((q : Naming) × (t.naming ≡ Some q) × (is_on q.told u ≡ true)) ⊎ has u
            new u true is on = inl (m, at_m, on)
            new u false is on = ⊎_elim (λ same. inr (subst has (sym same) mine)) (λ old. inl (m, at_m, old)) (on_with u e.0 m.told on)

    hello_on : (node inc : ℕ) (o : Option Naming) → t.naming ≡ o → NamingOn (naming_hello node inc o)
    hello_on node inc None is = (tt, (λ o u no on. absurd (cc no)), sym (ap is_some is))
    hello_on node inc (Some m) is = named_on m (naming.hello node inc m) is refl (rows_hello acts begun node inc m (its_rows m is))

    module _ (hears : (a : Asked) (r : Reply) → Ok (heard from a r d.intents t.coord).outs) (acks : (u : Uid) →
        Ok (acked from u d.intents t.coord).outs) where
      other : (m : Message) → ((u : Uid) (e : End) → Contains {X = Uid × End} (told_by m) (u, e) → has u) → ((q : Uid) →
          m ≡ message.Query (record { act = q }) → Ok (answer_query from q d.intents t.coord)) → By has (handle_other k d t from m)
      other (message.Told m) ends queries = ends_left m.ack m.ends ends (last_end m.ends) refl
      other (message.Acked m) ends queries = coord_left (acked from m.act d.intents t.coord) (acks m.act)
      other (message.Query m) ends queries = leaves t (answer_query from m.act d.intents t.coord) server_on naming_on (queries m.act refl)
      other (message.Hello m) ends queries = let us = filter (is_earlier m.node m.inc) (holders d t) in leaves
          (record t { naming = naming_hello m.node m.inc t.naming }) (map query_about us) server_on (hello_on m.node m.inc t.naming refl) (
            queries_mean acts us
                (all_filter (IsBegun acts) (is_earlier m.node m.inc) (holders d t) (holders_begun acts begun d t store names held)),
            tell_queries K us,
          )
      other (message.Bind m) ends queries = tt
      other (message.Bound m) ends queries = tt
      other (message.Load m) ends queries = tt
      other (message.Loaded m) ends queries = tt
      other (message.Activate m) ends queries = tt
      other (message.Activated m) ends queries = tt
      other (message.RecordMsg m) ends queries = tt
      other (message.Recorded m) ends queries = tt
      other (message.Invoke m) ends queries = tt
      other (message.Invoked m) ends queries = tt
      other (message.Vote m) ends queries = tt
      other (message.Voted m) ends queries = tt
      other (message.Prepare m) ends queries = tt
      other (message.Prepared m) ends queries = tt
      other (message.Confirm m) ends queries = tt
      other (message.Confirmed m) ends queries = tt

  -- who asks was begun
  asker : (h : Head) (a : Ask) → FitsAsk acts h a → IsAsker acts h.path
  asker h (ask.Bind x include_it avoid) f = f
  asker h (ask.Load x) f = f
  asker h (ask.Activate b st) f = f
  asker h (ask.Record x b i g) f = f
  asker h (ask.Invoke x b i ends op) f = f.0
  asker h (ask.Vote i ties ends) f = f.0
  asker h (ask.Prepare states) f = f
  asker h (ask.Confirm grants excluded included) f = f

  pub message_left : (m : Message) → FitsMessage acts m → ((a : Asked) (r : Reply) → Ok (heard from a r d.intents t.coord).outs) →
      ((u : Uid) → Ok (acked from u d.intents t.coord).outs) → ((q : Uid) → m ≡ message.Query (record { act = q }) →
      Ok (answer_query from q d.intents t.coord)) → By (HasEnd m) (handle k d t from m)
  message_left m fits hears acks queries = by (asks m) refl (subst (FitsAsked acts m) refl fits)
    where
      answer : (o : Option (Asked × Reply)) → By (HasEnd m) (handle_answer k d t from m o)
      answer None = other (HasEnd m) hears acks m (λ u e i. (e, inl i)) queries
      answer (Some a) = coord_left (HasEnd m) (heard from a.0 a.1 d.intents t.coord) (hears a.0 a.1)

      by : (o : Option (Head × Ask)) → asks m ≡ o → FitsAsked acts m o → By (HasEnd m) (handle_ask k d t from m o)
      by None is f = answer (answers m)
      by (Some a) is f = asked (HasEnd m) a.0 a.1 (asker a.0 a.1 f)
          (λ u e i. (e, inr (subst (λ (x : Option (Head × Ask)). Contains {X = Uid × End} (brought_by x) (u, e)) (sym is) i)))
