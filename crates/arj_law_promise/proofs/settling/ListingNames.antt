-- What nodes do to naming's entries: each store that is listed goes on to be one of which this is claimed.
use Rattle.arj_law_parts.proofs.Words
use Words.{◌≡◌, ◌∙◌, ◌++◌, ◌||◌, ◌==◌, ◌+◌, ℕ, Bool, true, false, cond, filter, map, not, List, [], ◌∷◌, Option, Some, None, refl, sym, ap}
use Words.{subst, inl, inr, ⊎_elim, eqb-true, ⊤, option_map, unwrap_or, AllByRecursion, cons_option, flat_map, list_all, and_parts}
use Words.{In as Among, activate_own, ends_own, invoke_own, vote_own, entry_back, Ask, Asked, Binding, BoundReply, ConfirmedReply, End}
use Words.{Entry, Head, Header, Message, ObjectState, Path, Row, Uid, asks, last_uid, entry, is_listed, object, is_on, with_store}
use Words.{without_store, Reply, actor, answers, asked_by, last_end, response, top_of, heard, Grants, Marks, checked, confirm}
use Words.{confirm_entries, confirm_new, confirms, entries_after, entry_after, entry_state, has_all, lock_all, lock_in, marked, prepared_by}
use Words.{same_nodes, stores_after, wanted, with_stores, without_stores, Abort, After, Already, Before, Commit, Did, Disk, Do, Effect}
use Words.{InDoubt, InPart, Intent, Look, Old, Pair, Prep, Prepare, PutInc, PutIntent, Ready, RemoveIntent, Say, Send, Served, Stop, Work}
use Words.{did_nothing, held_at, holder_of, is_prepared, moved_some, new_states, prepare_answer, reply, stopped, void, worked, acked}
use Words.{answer_query, tell_all, Counted, Live, Made, Named, bind_call, bind_made, bind_named, conflict_on, include_asked, live_above}
use Words.{live_asked, lock_lines, made_above, make_asked, next_server, Naming, end_entries, end_lines, end_orphans, is_over, orphans}
use Words.{own_entries, taken_end, told_new, Handled, Parts, Took, Void, ack_told, end_states, handle, handle_ends, handle_other, holders}
use Words.{if_naming, is_earlier, load_by, load_held, naming_told, prepare_by, query_about, sends_answer, serve, served, store_told}
use Words.{with_naming, with_server, at_number, at_uid, put_uid, AreAll, is_coord_effect, is_server_effect, restart_outs, tolds_again}
use Words.{state_entry}
use Words.ask
use Words.body
use Words.bound
use Words.confirmed
use Words.ending
use Words.message
use Words.mode
use Words.part
use Words.prepared
use Words.role
use Words.naming
use Words.server
use Rattle.arj_law_promise.proofs.Terms
use Terms.{moved, all_both, all_map, told_by, is_say, bind_says, note_says, all_append, all_filter, all_without, some_is, by_coord}
use Terms.{by_message, restart_said}
use Rattle.arj_law_disk_view.proofs.view.ServedWalks.{lock_says}
use Rattle.arj_law_promise.proofs.settling.Listings.{BoundHas, EntryHas, NamesHave, Of, OrBy}
use Rattle.arj_law_promise.proofs.waiting.{Known.keyed_at, WriterNodes.put_at}

module _ (P : Of) (I : Uid → ℕ → ℕ → Type 0) where
  -- ---- the disk

  -- a state of an entry lists such stores
  abbrev Plain : ObjectState → Type 0
  Plain st = EntryHas (P (let u = st.uid in u.num)) st

  abbrev pub OfTop : Uid → ObjectState → Type 0
  OfTop u st = EntryHas (OrBy P I u (let v = st.uid in v.num)) st

  abbrev Held : List (Uid × ObjectState) → Type 0
  Held held = AllByRecursion (λ (e : Uid × ObjectState). EntryHas (P (let u = e.0 in u.num)) e.1) held

  -- what is prepared is so, and whose entries are committed, the stores that it includes are such
  abbrev pub IsFine : Effect → Type 0
  IsFine (Do (Prepare role.Names u states)) = AllByRecursion (OfTop u) states
  IsFine (Do (Commit role.Names u)) = (x n : ℕ) → I u x n → P x n
  IsFine _ = ⊤

  abbrev pub Fine : List Effect → Type 0
  Fine outs = AllByRecursion IsFine outs

  put_so : (s : ObjectState) (held : List (Uid × ObjectState)) → Plain s → Held held → Held (put_uid s.uid s held)
  put_so s held its all = put_at (λ u (z : ObjectState). EntryHas (P u.num) z) s.uid s held its all

  moved_so : (ss : List ObjectState) (held : List (Uid × ObjectState)) → AllByRecursion Plain ss → Held held → Held (moved ss held)
  moved_so [] held its so = so
  moved_so (s ∷ ss) held its so = moved_so ss (put_uid s.uid s held) its.1 (put_so s held its.0 so)

  some_so : (which : Uid → Bool) (ss : List ObjectState) (held : List (Uid × ObjectState)) → AllByRecursion Plain ss → Held held →
      Held (moved_some which ss held)
  some_so which [] held its so = so
  some_so which (s ∷ ss) held its so = some_so which ss (cond (which s.uid) (put_uid s.uid s held) held) its.1 (by (which s.uid))
    where
      by : (b : Bool) → Held (cond b (put_uid s.uid s held) held)
      by true = put_so s held its.0 so
      by false = so

  new_so : (u : Uid) (d : Pair) → ((x n : ℕ) → I u x n → P x n) → NamesHave P I d → AllByRecursion Plain (new_states u d)
  new_so u d to so = by (at_uid u d.pend) refl
    where
      numbers : (x : ℕ) (ns : List ℕ) → AllByRecursion (OrBy P I u x) ns → AllByRecursion (P x) ns
      numbers x [] all = tt
      numbers x (n ∷ ns) all = (⊎_elim (λ old. old) (λ new. to x n new) all.0, numbers x ns all.1)

      each : (ss : List ObjectState) → AllByRecursion (OfTop u) ss → AllByRecursion Plain ss
      each [] all = tt
      each (s ∷ ss) all = (numbers s.uid.num (state_entry s).stores all.0, each ss all.1)

      by : (o : Option (List ObjectState)) → at_uid u d.pend ≡ o → AllByRecursion Plain (unwrap_or o [])
      by None is = tt
      by (Some ss) is = each ss (keyed_at (λ w (z : List ObjectState). AllByRecursion (OfTop w) z) u d.pend ss so.pend is)

  worked_so : (w : Work) (d : Disk) → IsFine (Do w) → NamesHave P I d.names → NamesHave P I (let c = worked w d in c.names)
  worked_so Look d its so = so
  worked_so (PutInc i) d its so = so
  worked_so (Prepare role.Names u states) d its so =
      record { held = so.held; pend = put_at (λ w (z : List ObjectState). AllByRecursion (OfTop w) z) u states d.names.pend its so.pend }
  worked_so (Prepare role.Store u states) d its so = so
  worked_so (Commit role.Names u) d its so = record {
    held = moved_so (new_states u d.names) d.names.held (new_so u d.names its so) so.held;
    pend = all_without (λ (e : Uid × List ObjectState). AllByRecursion (OfTop e.0) e.1) u d.names.pend so.pend;
  }
  worked_so (Commit role.Store u) d its so = so
  worked_so (Abort role.Names u) d its so =
      record { held = so.held; pend = all_without (λ (e : Uid × List ObjectState). AllByRecursion (OfTop e.0) e.1) u d.names.pend so.pend }
  worked_so (Abort role.Store u) d its so = so
  worked_so (PutIntent u i) d its so = so
  worked_so (RemoveIntent u) d its so = so

  pub stopped_so : (how : Stop) (w : Work) (d : Disk) → IsFine (Do w) → NamesHave P I d.names →
      NamesHave P I (let c = stopped how w d in c.names)
  stopped_so Before w d its so = so
  stopped_so After w d its so = worked_so w d its so
  stopped_so (InPart which) (Commit role.Names u) d its so =
      record { held = some_so which (new_states u d.names) d.names.held (new_so u d.names its so) so.held; pend = so.pend }
  stopped_so (InPart which) (Commit role.Store u) d its so = so
  stopped_so (InPart which) Look d its so = so
  stopped_so (InPart which) (PutInc i) d its so = so
  stopped_so (InPart which) (Prepare r u states) d its so = so
  stopped_so (InPart which) (Abort r u) d its so = so
  stopped_so (InPart which) (PutIntent u i) d its so = so
  stopped_so (InPart which) (RemoveIntent u) d its so = so

  -- the stores of the committed entry
  pub listed_so : (x : ℕ) (d : Pair) → NamesHave P I d → AllByRecursion (P x) (let e = naming.listed_entry x d in e.stores)
  listed_so x d so = by (held_at (entry x) d) refl
    where
      by : (o : Option ObjectState) → held_at (entry x) d ≡ o → AllByRecursion (P x) (let e = naming.entry_of o in e.stores)
      by None is = tt
      by (Some s) is = keyed_at (λ u (z : ObjectState). EntryHas (P u.num) z) (entry x) d.held s so.held is

  -- ---- effects

  pub fine_both : (es fs : List Effect) → Fine es → Fine fs → Fine (es ++ fs)
  fine_both es fs a b = all_both IsFine es fs a b

  pub queries : (us : List Uid) → Fine (map query_about us)
  queries us = all_map IsFine query_about us (λ u. tt)

  pub coord_fine : (es : List Effect) → AreAll is_coord_effect es → Fine es
  coord_fine [] own = tt
  coord_fine (Send to m ∷ es) own = (tt, coord_fine es (and_parts (is_coord_effect (Send to m)) (list_all is_coord_effect es) own).1)
  coord_fine (Say b ∷ es) own = (tt, coord_fine es (and_parts (is_coord_effect (Say b)) (list_all is_coord_effect es) own).1)
  coord_fine (Do (PutIntent u i) ∷ es) own = (tt, coord_fine es own)
  coord_fine (Do (RemoveIntent u) ∷ es) own = (tt, coord_fine es own)
  coord_fine (Do Look ∷ es) own = absurd (cc own)
  coord_fine (Do (PutInc i) ∷ es) own = absurd (cc own)
  coord_fine (Do (Prepare r u states) ∷ es) own = absurd (cc own)
  coord_fine (Do (Commit r u) ∷ es) own = absurd (cc own)
  coord_fine (Do (Abort r u) ∷ es) own = absurd (cc own)

  server_fine : (n : ℕ) (es : List Effect) → AreAll (is_server_effect n) es → Fine es
  server_fine n [] own = tt
  server_fine n (Say b ∷ es) own = (tt, server_fine n es (and_parts (is_server_effect n (Say b)) (list_all (is_server_effect n) es) own).1)
  server_fine n (Send to m ∷ es) own = absurd (cc own)
  server_fine n (Do w ∷ es) own = absurd (cc own)

  said_fine : (es : List Effect) → AreAll is_say es → Fine es
  said_fine [] own = tt
  said_fine (Say b ∷ es) own = (tt, said_fine es (and_parts (is_say (Say b)) (list_all is_say es) own).1)
  said_fine (Send to m ∷ es) own = absurd (cc own)
  said_fine (Do w ∷ es) own = absurd (cc own)

  pub tells_fine : (telling : List (Uid × Intent)) → Fine (tolds_again telling)
  tells_fine [] = tt
  tells_fine (e ∷ es) = let i = e.1 in fine_both (tell_all i.root true ((e.0, ending.Commit) ∷ []) i.nodes) (tolds_again es)
      (all_map IsFine _ i.nodes (λ w. tt)) (tells_fine es)

  pub restart_fine : (hd : Header) (k inc : ℕ) (d : Disk) → Fine (restart_outs hd k inc d)
  restart_fine hd k inc d = restart_said IsFine (λ b. tt) hd k inc d tt tt (tells_fine d.intents) (λ u. tt) (λ n. tt)

  -- ---- a Confirm

  with_of : (Q : ℕ → Type 0) (ss stores : List ℕ) → AllByRecursion Q ss → AllByRecursion Q stores → AllByRecursion Q (with_stores ss stores)
  with_of Q [] stores its all = all
  with_of Q (s ∷ ss) stores its all = with_of Q ss (with_store s stores) its.1 (one (is_listed s stores))
    where
      one : (b : Bool) → AllByRecursion Q (cond b stores (stores ++ s ∷ []))
      one true = all
      one false = all_append Q stores (s ∷ []) all (its.0, tt)

  without_of : (Q : ℕ → Type 0) (ss stores : List ℕ) → AllByRecursion Q stores → AllByRecursion Q (without_stores ss stores)
  without_of Q [] stores all = all
  without_of Q (s ∷ ss) stores all = without_of Q ss (without_store s stores) (all_filter Q _ stores all)

  -- the marks of one object
  marks_of : (Q : ℕ → Type 0) (x : ℕ) (marks : Marks) → ((n : ℕ) → Among (x, n) marks → Q n) → AllByRecursion Q (marked x marks)
  marks_of Q x [] each = tt
  marks_of Q x (m ∷ ms) each = by (m.0 == x) refl (marks_of Q x ms (λ n i. each n (inr i)))
    where
      by : (b : Bool) → (m.0 == x) ≡ b → AllByRecursion Q (marked x ms) → AllByRecursion Q
          (map (λ (z : ℕ × ℕ). z.1) (cond b (m ∷ filter (λ (z : ℕ × ℕ). z.0 == x) ms) (filter (λ (z : ℕ × ℕ). z.0 == x) ms)))
      by true same ih = (each m.1 (inl (λ i. (eqb-true m.0 x same i, m.1))), ih)
      by false apart ih = ih

  module _ (top : Uid) (excluded included : Marks) (includes : (x n : ℕ) → Among (x, n) included → I top x n) where
    entries_so : (grants : Grants) (d : Pair) → NamesHave P I d → AllByRecursion (OfTop top) (entries_after top grants excluded included d)
    entries_so [] d so = tt
    entries_so (g ∷ gs) d so = by (held_at (entry g.0) d) refl (entries_so gs d so)
      where
        stores : (s : ObjectState) → held_at (entry g.0) d ≡ Some s →
            AllByRecursion (OrBy P I top g.0) (stores_after g.0 excluded included (state_entry s))
        stores s is = with_of (OrBy P I top g.0) (marked g.0 included) (without_stores (marked g.0 excluded) (state_entry s).stores)
            (marks_of (OrBy P I top g.0) g.0 included (λ n i. inr (includes g.0 n i)))
            (without_of (OrBy P I top g.0) (marked g.0 excluded) (state_entry s).stores
            (old (state_entry s).stores (keyed_at (λ u (z : ObjectState). EntryHas (P u.num) z) (entry g.0) d.held s so.held is)))
          where
            old : (ns : List ℕ) → AllByRecursion (P g.0) ns → AllByRecursion (OrBy P I top g.0) ns
            old [] all = tt
            old (n ∷ ns) all = (inl all.0, old ns all.1)

        entry_so : (s : ObjectState) → held_at (entry g.0) d ≡ Some s →
            OfTop top (entry_state g.0 top s (stores_after g.0 excluded included (state_entry s)))
        entry_so s is = subst (λ (e : Entry). AllByRecursion (OrBy P I top g.0) e.stores) (sym (entry_back
            (record { servers = (state_entry s).servers; stores = stores_after g.0 excluded included (state_entry s) }))) (stores s is)

        made : (s : ObjectState) (b : Bool) → held_at (entry g.0) d ≡ Some s →
            AllByRecursion (OfTop top) (entries_after top gs excluded included d) → AllByRecursion (OfTop top) (cons_option (cond b None
            (Some (entry_state g.0 top s (stores_after g.0 excluded included (state_entry s))))) (entries_after top gs excluded included d))
        made s true is ih = ih
        made s false is ih = (entry_so s is, ih)

        by : (o : Option ObjectState) → held_at (entry g.0) d ≡ o → AllByRecursion (OfTop top) (entries_after top gs excluded included d) →
            AllByRecursion (OfTop top) (cons_option (entry_after top excluded included g.0 o) (entries_after top gs excluded included d))
        by None is ih = ih
        by (Some s) is ih = made s (same_nodes (stores_after g.0 excluded included (state_entry s)) (state_entry s).stores) is ih

  locks_so : (xs : List ℕ) (p : Path) (n : Naming) → Fine (let d = lock_all xs p n in d.outs)
  locks_so [] p n = tt
  locks_so (x ∷ xs) p n = fine_both (let d = lock_in x p n (at_number x n.objects) in
      d.outs) (let t = lock_all xs p (let d = lock_in x p n (at_number x n.objects) in d.part) in
      t.outs) (by (at_number x n.objects)) (locks_so xs p (let d = lock_in x p n (at_number x n.objects) in d.part))
    where
      by : (o : Option Named) → Fine (let d = lock_in x p n o in d.outs)
      by None = tt
      by (Some o) = said_fine (lock_lines x p mode.Exclude o) (lock_says x p mode.Exclude o)

  prepares_so : (top : Uid) (states : List ObjectState) (t : Did Naming) (a : Prep) → AllByRecursion (OfTop top) states → Fine t.outs →
      Fine (let r = prepared_by top states t a in r.outs)
  prepares_so top states t Ready its so =
      fine_both t.outs (Do Look ∷ Do (Prepare role.Names top states) ∷ Say (body.Prepared 1 top role.Names) ∷ []) so (tt, (its, (tt, tt)))
  prepares_so top states t (InDoubt u holder) its so = fine_both t.outs (Do Look ∷ []) so (tt, tt)
  prepares_so top states t (Already u) its so = fine_both t.outs (Do Look ∷ []) so (tt, tt)
  prepares_so top states t (Old u v) its so = fine_both t.outs (Do Look ∷ []) so (tt, tt)

  confirm_so : (p : Path) (grants : Grants) (excluded included : Marks) (d : Pair) (n : Naming) → ((x m : ℕ) → Among (x, m) included →
      I (top_of p) x m) → NamesHave P I d → Fine (let r = confirm p grants excluded included d n in r.outs)
  confirm_so p grants excluded included d n includes so =
      by (is_over p n || not (has_all grants n)) (is_on n.confirmed (top_of p) || is_prepared (top_of p) d)
    where
      locks : Did Naming
      locks = lock_all (wanted (top_of p) grants excluded d) p n

      found : (states : List ObjectState) → AllByRecursion (OfTop (top_of p)) states →
          Fine (let r = confirm_entries (top_of p) states d (lock_all (wanted (top_of p) grants excluded d) p n) in r.outs)
      found [] its = locks_so (wanted (top_of p) grants excluded d) p n
      found (s ∷ ss) its = prepares_so (top_of p) (s ∷ ss) locks (prepare_answer (top_of p) (s ∷ ss) d) its
          (locks_so (wanted (top_of p) grants excluded d) p n)

      new : (o : Option ConfirmedReply) → Fine (let r = confirm_new p grants excluded included d n o in r.outs)
      new None = found (entries_after (top_of p) grants excluded included d) (entries_so (top_of p) excluded included includes grants d so)
      new (Some r) = tt

      by : (a b : Bool) → Fine (let r = cond {A = Served Naming ConfirmedReply} a (void n) (cond b (reply (confirms (top_of p) n)
          confirmed.Yes) (confirm_new p grants excluded included d n (checked p grants excluded included d n))) in r.outs)
      by true b = tt
      by false true = tt
      by false false = new (checked p grants excluded included d n)

  -- ---- an end

  module _ (u : Uid) (e : End) (decided : e ≡ ending.Commit → (x n : ℕ) → I u x n → P x n) where
    orphans_so : (us : List Uid) → Fine (flat_map (λ act. end_entries act ending.Abort) us)
    orphans_so [] = tt
    orphans_so (w ∷ ws) =
        fine_both (end_entries w ending.Abort) (flat_map (λ act. end_entries act ending.Abort) ws) (tt, (tt, tt)) (orphans_so ws)

    told_naming : (d : Pair) (n : Naming) → Fine (let t = naming.told u e d n in t.outs)
    told_naming d n = fine_both (own_entries u e d) (let t = cond {A = Did Naming} (is_on n.told u) (did_nothing n)
        (told_new u (taken_end u e n) d n) in t.outs) (own (is_prepared u d)) (by (is_on n.told u))
      where
        ended_so : (q : End) → e ≡ q → Fine (end_entries u q)
        ended_so ending.Commit is = (decided is, (tt, tt))
        ended_so ending.Abort is = (tt, (tt, tt))

        own : (b : Bool) → Fine (cond b (end_entries u e) [])
        own true = ended_so e refl
        own false = tt

        orphaned : (q : End) → Fine (end_orphans u q d n)
        orphaned ending.Commit = tt
        orphaned ending.Abort = orphans_so (orphans u d n)

        said_so : (q : End) (b : Bool) → Fine (cond b (Say (body.Told 1 u q part.Naming) ∷ []) [])
        said_so q true = (tt, tt)
        said_so q false = tt

        by : (b : Bool) → Fine (let t = cond {A = Did Naming} b (did_nothing n) (told_new u (taken_end u e n) d n) in t.outs)
        by true = tt
        by false = fine_both (end_orphans u (taken_end u e n) d n) (end_lines u (taken_end u e n) n) (orphaned (taken_end u e n))
            (said_so (taken_end u e n) (naming.has_locks u n))

  -- ---- one message

  module _ (k : ℕ) (d : Disk) (t : Parts) (from : ℕ) (m : Message) (names : NamesHave P I d.names)
      (includes : (h : Head) (g : Grants) (x i : Marks) → asks m ≡ Some (h, ask.Confirm g x i) → (y n : ℕ) → Among (y, n) i →
      I (top_of h.path) y n) (decided : (u : Uid) → last_end (told_by m) ≡ Some (u, ending.Commit) → (x n : ℕ) → I u x n → P x n)
      (hears : (a : Asked) (r : Reply) → answers m ≡ Some (a, r) → Fine (heard from a r d.intents t.coord).outs) (acks : (u : Uid) →
      Fine (acked from u d.intents t.coord).outs) (tells : (u : Uid) → Fine (answer_query from u d.intents t.coord)) where
    abbrev By : Handled → Type 0
    By (Void outs) = ⊤
    By (Took v outs) = Fine outs

    answered : (h : Head) (v : Parts) (outs : List Effect) (o : Option Reply) → Fine outs → By (sends_answer from h v outs o)
    answered h v outs None all = tt
    answered h v outs (Some r) all = fine_both outs (Send from (response (asked_by h) r) ∷ []) all (tt, tt)

    with_it : (f : Naming → Handled) (o : Option Naming) → ((n : Naming) → By (f n)) → By (if_naming f o)
    with_it f None each = tt
    with_it f (Some n) each = each n

    asked : (h : Head) (a : Ask) → asks m ≡ Some (h, a) → By (serve k d t from h a)
    asked h (ask.Bind x include avoid) is =
        with_it (λ o. served from h (with_naming t) Reply.Bound (naming.bind h.path x include avoid d.names o)) t.naming
        (λ n. let r = naming.bind h.path x include avoid d.names n in answered h (with_naming t r.part) r.outs
        (option_map Reply.Bound r.reply) (said_fine r.outs (bind_says h.path x include avoid d.names n)))
    asked h (ask.Load x) is = load (holder_of (object x) d.store)
      where
        held_so : (o : Option ObjectState) → By (load_held from h t o)
        held_so None = tt
        held_so (Some s) = (tt, (tt, tt))

        load : (o : Option Uid) → By (load_by x d.store from h t o)
        load (Some u) = (tt, tt)
        load None = held_so (held_at (object x) d.store)
    asked h (ask.Activate b st) is = let r = server.activate k h.path b st t.server in answered h (with_server t r.part) r.outs
        (option_map Reply.Activated r.reply) (server_fine k r.outs (activate_own k h.path b st t.server))
    asked h (ask.Record x b i g) is = with_it (λ o. served from h (with_naming t) Reply.Noted (naming.note h.path x b i g o)) t.naming
        (λ n. let r = naming.note h.path x b i g n in
        answered h (with_naming t r.part) r.outs (option_map Reply.Noted r.reply) (said_fine r.outs (note_says h.path x b i g n)))
    asked h (ask.Invoke x b i ends o) is = let r = server.invoke k h x b i ends o t.server in answered h (with_server t r.part) r.outs
        (option_map Reply.Invoked r.reply) (server_fine k r.outs (invoke_own k h x b i ends o t.server))
    asked h (ask.Vote i ties ends) is = let r = server.vote k h.path i ties ends t.server in answered h (with_server t r.part) r.outs
        (option_map Reply.Voted r.reply) (server_fine k r.outs (vote_own k h.path i ties ends t.server))
    asked h (ask.Prepare states) is = each (is_prepared (actor h.path) d.store)
      where
        new : (a : Prep) → By (prepare_by k states from h t a)
        new Ready = (tt, (tt, (tt, (tt, tt))))
        new (Already u) = tt
        new (Old u v) = (tt, (tt, tt))
        new (InDoubt u holder) = (tt, (tt, tt))

        each : (b : Bool) → By (cond b (sends_answer from h t [] (Some (Reply.Prepared prepared.Yes)))
            (prepare_by k states from h t (prepare_answer (actor h.path) states d.store)))
        each true = (tt, tt)
        each false = new (prepare_answer (actor h.path) states d.store)
    asked h (ask.Confirm grants excluded included) is =
        with_it (λ o. served from h (with_naming t) Reply.Confirmed (confirm h.path grants excluded included d.names o)) t.naming
        (λ n. let r = confirm h.path grants excluded included d.names n in answered h (with_naming t r.part) r.outs (option_map
        Reply.Confirmed r.reply) (confirm_so h.path grants excluded included d.names n (includes h grants excluded included is) names))

    ends_left : (ack : Bool) (ends : List (Uid × End)) (o : Option (Uid × End)) →
        ((u : Uid) → o ≡ Some (u, ending.Commit) → (x n : ℕ) → I u x n → P x n) → By (handle_ends k d t from ack ends o)
    ends_left ack ends None sure = tt
    ends_left ack ends (Some e) sure =
        let s = server.told k ends t.server in
        let o = naming_told e.0 e.1 d.names t.naming in
        fine_both (store_told k e.0 e.1 d.store ++ o.outs ++ s.outs) (ack_told from e.0 ack)
        (fine_both (store_told k e.0 e.1 d.store ++ o.outs) s.outs (fine_both (store_told k e.0 e.1 d.store) o.outs
        (ended (is_prepared e.0 d.store) e.1) (named t.naming)) (server_fine k s.outs (ends_own k ends t.server))) (acked_told ack)
      where
        ended : (b : Bool) (how : End) → Fine (cond b (end_states k e.0 how) [])
        ended false how = tt
        ended true ending.Commit = (tt, (tt, tt))
        ended true ending.Abort = (tt, (tt, tt))

        named : (o : Option Naming) → Fine (let r = naming_told e.0 e.1 d.names o in r.outs)
        named None = tt
        named (Some n) = told_naming e.0 e.1 (λ is. sure e.0 (λ i. Some (e.0, is i))) d.names n

        acked_told : (b : Bool) → Fine (ack_told from e.0 b)
        acked_told true = (tt, tt)
        acked_told false = tt

    other : (p : Message) → m ≡ p → By (handle_other k d t from p)
    other (message.Told p) is =
        ends_left p.ack p.ends (last_end p.ends) (λ u last. decided u (ap (λ (z : Message). last_end (told_by z)) is ∙ last))
    other (message.Acked p) is = by_coord k d t from By tt (acked from p.act d.intents t.coord) (acks p.act)
    other (message.Query p) is = tells p.act
    other (message.Hello p) is = queries (filter (is_earlier p.node p.inc) (holders d t))
    other p is = tt

    handled : By (handle k d t from m)
    handled = by_message k d t from By tt m asked (λ a r is. by_coord k d t from By tt (heard from a r d.intents t.coord) (hears a r is))
        (other m refl)

    pub handled_fine : (v : Parts) (outs : List Effect) → handle k d t from m ≡ Took v outs → Fine outs
    handled_fine v outs is = subst By is handled

-- ---- what naming answers to a Bind

module _ (P : Of) (x : ℕ) (path : Path) (e : Entry) (all : AllByRecursion (P x) e.stores) where
  abbrev Gives : Option BoundReply → Type 0
  Gives o = (q : BoundReply) → o ≡ Some q → BoundHas P x q

  one_gives : (r : BoundReply) → BoundHas P x r → Gives (Some r)
  one_gives r its q is = subst (BoundHas P x) (some_is is) its

  none_gives : Gives None
  none_gives q is = absurd (cc is)

  named_gives : (inc : ℕ) (include : Bool) (avoid : Binding) (c : Counted) →
      Gives (let r = bind_named inc x path include avoid e c in r.reply)
  named_gives inc true avoid c = by (conflict_on x path mode.Write c.named)
    where
      by : (o : Option Row) → Gives (let r = include_asked inc x path e c o in r.reply)
      by (Some r) = one_gives (bound.Conflict (last_uid r.holder) r.mode) tt
      by None = one_gives (bound.Write inc e.stores) all
  named_gives inc false avoid c = by (live_above avoid c.named.live)
    where
      live : (l : Live) (o : Option Row) → Gives (let r = live_asked inc x path e c l o in r.reply)
      live l (Some r) = one_gives (bound.Conflict (last_uid r.holder) r.mode) tt
      live l None = one_gives (bound.Live l.binding l.server l.inc inc e.stores) tt

      made : (m : Option Made) → Gives (let r = bind_made inc x path e c m in r.reply)
      made (Some m) = one_gives (bound.Make m.binding m.server inc e.stores) all
      made None = let s = next_server c.named.turn e.servers in
          one_gives (bound.Make (record { inc = inc; count = c.count + 1 }) s inc e.stores) all

      make : (o : Option Row) → Gives (let r = make_asked inc x path avoid e c o in r.reply)
      make (Some r) = one_gives (bound.Conflict (last_uid r.holder) r.mode) tt
      make None = made (made_above avoid (at_uid (top_of path) c.named.made))

      by : (l : Option Live) → Gives (let r = bind_call inc x path avoid e c l in r.reply)
      by (Some l) = live l (conflict_on x path mode.Read c.named)
      by None = make (conflict_on x path mode.Write c.named)

pub binds : (P : Of) (x : ℕ) (path : Path) (include : Bool) (avoid : Binding) (d : Pair) (n : Naming) →
    AllByRecursion (P x) (let e = naming.listed_entry x d in e.stores) → (q : BoundReply) →
    (let r = naming.bind path x include avoid d n in r.reply) ≡ Some q → BoundHas P x q
binds P x path include avoid d n all = by (is_over path n)
  where
    there : (o : Option Named) → Gives P x path (naming.listed_entry x d) all
        (let r = naming.on_counted x (bind_named n.inc x path include avoid (naming.listed_entry x d)) n o in r.reply)
    there None = none_gives P x path (naming.listed_entry x d) all
    there (Some o) = named_gives P x path (naming.listed_entry x d) all n.inc include avoid (record { named = o; count = n.count })

    by : (b : Bool) → Gives P x path (naming.listed_entry x d) all (let r = cond {A = Served Naming BoundReply} b (void n)
        (naming.on_counted x (bind_named n.inc x path include avoid (naming.listed_entry x d)) n (at_number x n.objects)) in r.reply)
    by true = none_gives P x path (naming.listed_entry x d) all
    by false = there (at_number x n.objects)
