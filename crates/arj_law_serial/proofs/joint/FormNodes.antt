-- What a node makes of a message, and what it does at a tick and as it comes up, with the states that it has.
use Rattle.arj_law_parts.proofs.Words
use Words.{◌≡◌, ◌+◌, ◌||◌, ◌∙◌, ℕ, List, [], ◌∷◌, ◌++◌, Bool, true, false, cond, filter, map, not, Option, Some, None, refl, sym, ap, subst}
use Words.{⊤, IfSome, option_map, AllByRecursion, cons_option, flat_map, list_all, and_parts, entry, object}
use Words.{activate_own, ends_own, invoke_own, vote_own, entry_back, Ask, Asked, ConfirmedReply, End, Entry, Head, Header, Message}
use Words.{ObjectState, Path, Uid, VotedReply, asks, is_on, Reply, actor, answers, asked_by, last_end, response, top_of}
use Words.{again_all, heard, Grants, Marks, checked, confirm, confirm_entries, confirm_new, confirms, entries_after, entry_after}
use Words.{entry_state, has_all, lock_all, lock_in, prepared_by, same_nodes, stores_after, wanted, Coord, Abort, After, Already, Before}
use Words.{Commit, Did, Disk, Do, Effect, InDoubt, InPart, Look, Old, Pair, Prep, Prepare, PutInc, PutIntent, Ready, RemoveIntent, Say}
use Words.{Send, Served, Stop, Work, did_nothing, held_at, holder_of, is_prepared}
use Words.{prepare_answer, reply, stopped, void, worked, acked, answer_query, tick_outs, Named, lock_lines}
use Words.{Naming, end_entries, end_lines, end_orphans, is_over, orphans, own_entries, taken_end, told_new, Handled, Parts, Took, Void}
use Words.{ack_told, coord_heard, end_states, handle, handle_answer, handle_ask, handle_ends, handle_other, holders, if_naming}
use Words.{answer_is_meant, ask_is_meant, asked_is_meant, is_earlier, is_meant, load_by, load_held, naming_told, prepare_by, query_about}
use Words.{sends_answer, serve, served, store_told, with_coord, with_naming, with_server, at_number, AreAll}
use Words.{is_server_effect, Server, Node, parts_in, restart_outs, state_entry}
use Words.ask
use Words.body
use Words.confirmed
use Words.ending
use Words.message
use Words.mode
use Words.part
use Words.prepared
use Words.role
use Words.naming
use Words.server
use Rattle.arj_law_serial.proofs.Terms
use Terms.{bind_says, note_says, all_append, AllSay, AnsweredIsSo, AskIsSo, AskedIsSo, CoordIsSo, MayKeep, MessageIsSo}
use Terms.{Own, ReplyIsSo, hears_so, acks_so, new_so, query_so, AllAreSo, CopyIsSo, DiskIsSo, Kind, PartsAreSo, listed, so_of, stored}
use Rattle.arj_law_disk_view.proofs.view.{HeardWalks.is_say, ServedWalks.lock_says}
use Rattle.arj_law_disk_view.specs.running.States.{PreparesNone}
use Rattle.arj_law_serial.proofs.joint.ByMessage.{by_coord}
use Rattle.arj_law_serial.specs.joint.Forms.{EffectIsSo, PairIsSo, WorkIsSo}
use Rattle.arj_protocol.specs.Words.{entry_payload}
use Rattle.arj_law_disk_view.proofs.running.StateTicks as ticks
use Rattle.arj_base.specs.State.{is_object_class}
use Rattle.arj_law_serial.proofs.joint.FormPairs.{aborted_so, committed_so, in_part_so, prepared_so}
use Rattle.arj_law_serial.proofs.joint.FormServers as servers
use Rattle.arj_law_serial.proofs.order.Contents.{next_format}

module _ (k : Kind) where
  both : (es fs : List Effect) → AllAreSo k es → AllAreSo k fs → AllAreSo k (es ++ fs)
  both es fs a b = all_append _ es fs a b

  -- ---- disks

  pub worked_so : (w : Work) (d : Disk) → WorkIsSo k w → DiskIsSo k d → DiskIsSo k (worked w d)
  worked_so Look d its so = so
  worked_so (PutInc i) d its so = record { store = so.store; names = so.names }
  worked_so (Prepare role.Store u states) d its so =
      record { store = prepared_so (stored k) u states d.store its so.store; names = so.names }
  worked_so (Prepare role.Names u states) d its so =
      record { store = so.store; names = prepared_so (listed k) u states d.names its so.names }
  worked_so (Commit role.Store u) d its so = record { store = committed_so (stored k) u d.store so.store; names = so.names }
  worked_so (Commit role.Names u) d its so = record { store = so.store; names = committed_so (listed k) u d.names so.names }
  worked_so (Abort role.Store u) d its so = record { store = aborted_so (stored k) u d.store so.store; names = so.names }
  worked_so (Abort role.Names u) d its so = record { store = so.store; names = aborted_so (listed k) u d.names so.names }
  worked_so (PutIntent u i) d its so = record { store = so.store; names = so.names }
  worked_so (RemoveIntent u) d its so = record { store = so.store; names = so.names }

  pub stopped_so : (how : Stop) (w : Work) (d : Disk) → WorkIsSo k w → DiskIsSo k d → DiskIsSo k (stopped how w d)
  stopped_so Before w d its so = so
  stopped_so After w d its so = worked_so w d its so
  stopped_so (InPart which) (Commit role.Store u) d its so =
      record { store = in_part_so (stored k) which u d.store so.store; names = so.names }
  stopped_so (InPart which) (Commit role.Names u) d its so =
      record { store = so.store; names = in_part_so (listed k) which u d.names so.names }
  stopped_so (InPart which) Look d its so = so
  stopped_so (InPart which) (PutInc i) d its so = so
  stopped_so (InPart which) (Prepare r u states) d its so = so
  stopped_so (InPart which) (Abort r u) d its so = so
  stopped_so (InPart which) (PutIntent u i) d its so = so
  stopped_so (InPart which) (RemoveIntent u) d its so = so

  -- ---- effects

  -- what a coordinator does
  works_so : (w : Work) → PreparesNone w → WorkIsSo k w
  works_so Look none = tt
  works_so (PutInc i) none = tt
  works_so (Prepare r u states) none = absurd none
  works_so (Commit r u) none = tt
  works_so (Abort r u) none = tt
  works_so (PutIntent u i) none = tt
  works_so (RemoveIntent u) none = tt

  pub says_so : (es : List Effect) → AllSay (so_of k) es → AllAreSo k es
  says_so [] all = tt
  says_so (Send to m ∷ es) all = (all.0, says_so es all.1)
  says_so (Say b ∷ es) all = (tt, says_so es all.1)
  says_so (Do w ∷ es) all = (works_so w all.0, says_so es all.1)

  pub keep : MayKeep (so_of k)
  keep = record { loaded = λ u st its. its; voted = λ u st its. its }

  server_lines : (n : ℕ) (es : List Effect) → AreAll (is_server_effect n) es → AllAreSo k es
  server_lines n es own = says_so es (ticks.server_lines (so_of k) keep n es own)

  said_lines : (es : List Effect) → AreAll is_say es → AllAreSo k es
  said_lines [] own = tt
  said_lines (Say b ∷ es) own = (tt, said_lines es (and_parts (is_say (Say b)) (list_all is_say es) own).1)
  said_lines (Send to m ∷ es) own = absurd (cc own)
  said_lines (Do w ∷ es) own = absurd (cc own)

  response_so : (from : ℕ) (a : Asked) (r : Reply) → ReplyIsSo (so_of k) r → EffectIsSo k (Send from (response a r))
  response_so from a (Reply.Bound r) its = (tt, its)
  response_so from a (Reply.Loaded r) its = (tt, its)
  response_so from a (Reply.Activated i) its = (tt, its)
  response_so from a (Reply.Noted r) its = (tt, its)
  response_so from a (Reply.Invoked r) its = (tt, its)
  response_so from a (Reply.Voted r) its = (tt, its)
  response_so from a (Reply.Prepared r) its = (tt, its)
  response_so from a (Reply.Confirmed r) its = (tt, its)

  -- ---- naming

  locks_so : (xs : List ℕ) (p : Path) (n : Naming) → AllAreSo k (let d = lock_all xs p n in d.outs)
  locks_so [] p n = tt
  locks_so (x ∷ xs) p n = both (let d = lock_in x p n (at_number x n.objects) in
      d.outs) (let t = lock_all xs p (let d = lock_in x p n (at_number x n.objects) in d.part) in
      t.outs) (by (at_number x n.objects)) (locks_so xs p (let d = lock_in x p n (at_number x n.objects) in d.part))
    where
      by : (o : Option Named) → AllAreSo k (let d = lock_in x p n o in d.outs)
      by None = tt
      by (Some o) = said_lines (lock_lines x p mode.Exclude o) (lock_says x p mode.Exclude o)

  -- a new entry has the servers of the one that it follows
  entry_so : (top : Uid) (x : ℕ) (s : ObjectState) (stores : List ℕ) → listed k (entry x) s → Own (listed k) (entry_state x top s stores)
  entry_so top x s stores its same =
      let e : Entry = record { servers = (state_entry s).servers; stores = stores } in
      let back : state_entry (entry_state x top s stores) ≡ e = entry_back e in
      let old : (state_entry s).servers ≡ k.servers = ap (λ bytes. (state_entry (record s { payload = bytes })).servers) (its same).1
      ∙ ap (λ (f : Entry). f.servers) (entry_back (record { servers = k.servers; stores = (state_entry s).stores })) in (
        refl,
        (λ i. entry_payload (record { servers = old i; stores = stores }))
            ∙ (λ i. entry_payload (record { servers = k.servers; stores = (sym (ap (λ (f : Entry). f.stores) back)) i })),
        next_format k.format s.version,
      )

  entries_so : (top : Uid) (grants : Grants) (excluded included : Marks) (d : Pair) → PairIsSo (listed k) d →
      AllByRecursion (Own (listed k)) (entries_after top grants excluded included d)
  entries_so top [] excluded included d so = tt
  entries_so top (g ∷ gs) excluded included d so = by (held_at (entry g.0) d) refl (entries_so top gs excluded included d so)
    where
      made : (s : ObjectState) (b : Bool) → held_at (entry g.0) d ≡ Some s → AllByRecursion (Own (listed k))
          (entries_after top gs excluded included d) → AllByRecursion (Own (listed k)) (cons_option (cond b None
          (Some (entry_state g.0 top s (stores_after g.0 excluded included (state_entry s))))) (entries_after top gs excluded included d))
      made s true is ih = ih
      made s false is ih = (entry_so top g.0 s (stores_after g.0 excluded included (state_entry s)) (so.held (entry g.0) s is).0, ih)

      by : (o : Option ObjectState) → held_at (entry g.0) d ≡ o →
          AllByRecursion (Own (listed k)) (entries_after top gs excluded included d) →
          AllByRecursion (Own (listed k)) (cons_option (entry_after top excluded included g.0 o) (entries_after top gs excluded included d))
      by None is ih = ih
      by (Some s) is ih = made s (same_nodes (stores_after g.0 excluded included (state_entry s)) (state_entry s).stores) is ih

  prepares_so : (top : Uid) (states : List ObjectState) (t : Did Naming) (a : Prep) → AllByRecursion (Own (listed k)) states →
      AllAreSo k t.outs → AllAreSo k (let r = prepared_by top states t a in r.outs)
  prepares_so top states t Ready its so =
      both t.outs (Do Look ∷ Do (Prepare role.Names top states) ∷ Say (body.Prepared 1 top role.Names) ∷ []) so (tt, (its, (tt, tt)))
  prepares_so top states t (InDoubt u holder) its so = both t.outs (Do Look ∷ []) so (tt, tt)
  prepares_so top states t (Already u) its so = both t.outs (Do Look ∷ []) so (tt, tt)
  prepares_so top states t (Old u v) its so = both t.outs (Do Look ∷ []) so (tt, tt)

  confirm_so : (p : Path) (grants : Grants) (excluded included : Marks) (d : Pair) (n : Naming) → PairIsSo (listed k) d →
      AllAreSo k (let r = confirm p grants excluded included d n in r.outs)
  confirm_so p grants excluded included d n so =
      by (is_over p n || not (has_all grants n)) (is_on n.confirmed (top_of p) || is_prepared (top_of p) d)
    where
      locks : Did Naming
      locks = lock_all (wanted (top_of p) grants excluded d) p n

      found : (states : List ObjectState) → AllByRecursion (Own (listed k)) states →
          AllAreSo k (let r = confirm_entries (top_of p) states d (lock_all (wanted (top_of p) grants excluded d) p n) in r.outs)
      found [] its = locks_so (wanted (top_of p) grants excluded d) p n
      found (s ∷ ss) its = prepares_so (top_of p) (s ∷ ss) locks (prepare_answer (top_of p) (s ∷ ss) d) its
          (locks_so (wanted (top_of p) grants excluded d) p n)

      new : (o : Option ConfirmedReply) → AllAreSo k (let r = confirm_new p grants excluded included d n o in r.outs)
      new None = found (entries_after (top_of p) grants excluded included d) (entries_so (top_of p) grants excluded included d so)
      new (Some r) = tt

      by : (a b : Bool) → AllAreSo k (let r = cond {A = Served Naming ConfirmedReply} a (void n) (cond b (reply (confirms (top_of p) n)
          confirmed.Yes) (confirm_new p grants excluded included d n (checked p grants excluded included d n))) in r.outs)
      by true b = tt
      by false true = tt
      by false false = new (checked p grants excluded included d n)

  ended_entries : (u : Uid) (e : End) → AllAreSo k (end_entries u e)
  ended_entries u ending.Commit = (tt, (tt, tt))
  ended_entries u ending.Abort = (tt, (tt, tt))

  orphans_so : (us : List Uid) → AllAreSo k (flat_map (λ act. end_entries act ending.Abort) us)
  orphans_so [] = tt
  orphans_so (u ∷ us) =
      both (end_entries u ending.Abort) (flat_map (λ act. end_entries act ending.Abort) us) (ended_entries u ending.Abort) (orphans_so us)

  told_naming : (u : Uid) (e : End) (d : Pair) (n : Naming) → AllAreSo k (let t = naming.told u e d n in t.outs)
  told_naming u e d n = both (own_entries u e d) (let t = cond {A = Did Naming} (is_on n.told u) (did_nothing n)
      (told_new u (taken_end u e n) d n) in t.outs) (own (is_prepared u d)) (by (is_on n.told u))
    where
      own : (b : Bool) → AllAreSo k (cond b (end_entries u e) [])
      own true = ended_entries u e
      own false = tt

      orphaned : (q : End) → AllAreSo k (end_orphans u q d n)
      orphaned ending.Commit = tt
      orphaned ending.Abort = orphans_so (orphans u d n)

      said_so : (q : End) (b : Bool) → AllAreSo k (cond b (Say (body.Told 1 u q part.Naming) ∷ []) [])
      said_so q true = (tt, tt)
      said_so q false = tt

      by : (b : Bool) → AllAreSo k (let t = cond {A = Did Naming} b (did_nothing n) (told_new u (taken_end u e n) d n) in t.outs)
      by true = tt
      by false = both (end_orphans u (taken_end u e n) d n) (end_lines u (taken_end u e n) n) (orphaned (taken_end u e n))
          (said_so (taken_end u e n) (naming.has_locks u n))

  -- ---- one message

  module _ (real : is_object_class k.class ≡ true) (node : ℕ) (d : Disk) (t : Parts) (from : ℕ)
      (disk : DiskIsSo k d) (its : PartsAreSo k t) where
    abbrev By : Handled → Type 0
    By (Void outs) = ⊤
    By (Took v outs) = PartsAreSo k v × AllAreSo k outs

    answered : (h : Head) (v : Parts) (outs : List Effect) (o : Option Reply) → PartsAreSo k v → AllAreSo k outs →
        IfSome o (ReplyIsSo (so_of k)) → By (sends_answer from h v outs o)
    answered h v outs None part all so = tt
    answered h v outs (Some r) part all so =
        (part, both outs (Send from (response (asked_by h) r) ∷ []) all (response_so from (asked_by h) r so, tt))

    -- an answer of another kind has no state
    plain : {R : Type 0} (say : R → Reply) → ((r : R) → ReplyIsSo (so_of k) (say r)) → (o : Option R) →
        IfSome (option_map say o) (ReplyIsSo (so_of k))
    plain say each None = tt
    plain say each (Some r) = each r

    with_it : (f : Naming → Handled) (o : Option Naming) → ((m : Naming) → By (f m)) → By (if_naming f o)
    with_it f None each = tt
    with_it f (Some m) each = each m

    served_so : (s : Server) → AllByRecursion (λ (e : ℕ × _). CopyIsSo k.x k.class e.0 e.1) s.objects → PartsAreSo k (with_server t s)
    served_so s all = record { server = all; coord = its.coord }

    named_so : (n : Naming) → PartsAreSo k (with_naming t n)
    named_so n = record { server = its.server; coord = its.coord }

    asked : (h : Head) (a : Ask) → ask_is_meant t.server a ≡ true → AskIsSo (so_of k) a → By (serve node d t from h a)
    asked h (ask.Bind x include avoid) meant so =
        with_it (λ o. served from h (with_naming t) Reply.Bound (naming.bind h.path x include avoid d.names o)) t.naming
        (λ m. let r = naming.bind h.path x include avoid d.names m in
        answered h (with_naming t r.part) r.outs (option_map Reply.Bound r.reply) (named_so r.part)
        (said_lines r.outs (bind_says h.path x include avoid d.names m)) (plain Reply.Bound (λ r. tt) r.reply))
    asked h (ask.Load x) meant so = load (holder_of (object x) d.store)
      where
        held_so : (o : Option ObjectState) → held_at (object x) d.store ≡ o → By (load_held from h t o)
        held_so None is = tt
        held_so (Some s) is = (its, (tt, ((tt, own s is), tt)))
          where
            own : (s : ObjectState) → held_at (object x) d.store ≡ Some s → Own (stored k) s
            own s is = let p = disk.store.held (object x) s is in subst (λ u. stored k u s) (sym p.1) p.0

        load : (o : Option Uid) → By (load_by x d.store from h t o)
        load (Some u) = (its, ((tt, tt), tt))
        load None = held_so (held_at (object x) d.store) refl
    asked h (ask.Activate b st) meant so = let r = server.activate node h.path b st t.server in answered h (with_server t r.part) r.outs
        (option_map Reply.Activated r.reply) (served_so r.part (servers.activate_so k node h.path b st t.server so its.server))
        (server_lines node r.outs (activate_own node h.path b st t.server)) (plain Reply.Activated (λ r. tt) r.reply)
    asked h (ask.Record x b i g) meant so = with_it (λ o. served from h (with_naming t) Reply.Noted (naming.note h.path x b i g o)) t.naming
        (λ m. let r = naming.note h.path x b i g m in answered h (with_naming t r.part) r.outs (option_map Reply.Noted r.reply)
        (named_so r.part) (said_lines r.outs (note_says h.path x b i g m)) (plain Reply.Noted (λ r. tt) r.reply))
    asked h (ask.Invoke x b i ends o) meant so = let r = server.invoke node h x b i ends o t.server in answered h (with_server t r.part)
        r.outs (option_map Reply.Invoked r.reply) (served_so r.part (servers.invoke_so k node h x b i ends o t.server its.server))
        (server_lines node r.outs (invoke_own node h x b i ends o t.server)) (plain Reply.Invoked (λ r. tt) r.reply)
    asked h (ask.Vote i ties ends) meant so = let r = server.vote node h.path i ties ends t.server in let v = servers.vote_so k real node
        h.path i ties ends t.server its.server in answered h (with_server t r.part) r.outs (option_map Reply.Voted r.reply)
        (served_so r.part v.0) (server_lines node r.outs (vote_own node h.path i ties ends t.server)) (voted_so r.reply v.1)
      where
        voted_so : (o : Option VotedReply) → IfSome o (λ v. ReplyIsSo (so_of k) (Reply.Voted v)) →
            IfSome (option_map Reply.Voted o) (ReplyIsSo (so_of k))
        voted_so None v = tt
        voted_so (Some r) v = v
    asked h (ask.Prepare states) meant so = each (is_prepared (actor h.path) d.store)
      where
        new : (a : Prep) → By (prepare_by node states from h t a)
        new Ready = (its, (tt, (so, (tt, ((tt, tt), tt)))))
        new (Already u) = tt
        new (Old u v) = (its, (tt, ((tt, tt), tt)))
        new (InDoubt u holder) = (its, (tt, ((tt, tt), tt)))

        each : (b : Bool) → By (cond b (sends_answer from h t [] (Some (Reply.Prepared prepared.Yes)))
            (prepare_by node states from h t (prepare_answer (actor h.path) states d.store)))
        each true = (its, ((tt, tt), tt))
        each false = new (prepare_answer (actor h.path) states d.store)
    asked h (ask.Confirm grants excluded included) meant so =
        with_it (λ o. served from h (with_naming t) Reply.Confirmed (confirm h.path grants excluded included d.names o)) t.naming
        (λ m. let r = confirm h.path grants excluded included d.names m in
        answered h (with_naming t r.part) r.outs (option_map Reply.Confirmed r.reply) (named_so r.part)
        (confirm_so h.path grants excluded included d.names m disk.names) (plain Reply.Confirmed (λ r. tt) r.reply))

    coord_left : (r : Served Coord (Unit {0})) → CoordIsSo (so_of k) r.part × AllSay (so_of k) r.outs → By (coord_heard t r)
    coord_left r so = by_coord node d t from By tt r (record { server = its.server; coord = so.0 }, says_so r.outs so.1)

    ends_left : (ack : Bool) (ends : List (Uid × End)) (o : Option (Uid × End)) → By (handle_ends node d t from ack ends o)
    ends_left ack ends None = (its, tt)
    ends_left ack ends (Some e) =
        let s = server.told node ends t.server in
        let o = naming_told e.0 e.1 d.names t.naming in (
          record { server = servers.told_so k node ends t.server its.server; coord = its.coord },
          both (store_told node e.0 e.1 d.store ++ o.outs ++ s.outs) (ack_told from e.0 ack) (both (store_told node e.0 e.1 d.store
              ++ o.outs) s.outs (both (store_told node e.0 e.1 d.store) o.outs (ended (is_prepared e.0 d.store) e.1) (named t.naming))
              (server_lines node s.outs (ends_own node ends t.server))) (acked_told ack),
        )
      where
        ended : (b : Bool) (how : End) → AllAreSo k (cond b (end_states node e.0 how) [])
        ended false how = tt
        ended true ending.Commit = (tt, (tt, tt))
        ended true ending.Abort = (tt, (tt, tt))

        named : (o : Option Naming) → AllAreSo k (let r = naming_told e.0 e.1 d.names o in r.outs)
        named None = tt
        named (Some m) = told_naming e.0 e.1 d.names m

        acked_told : (b : Bool) → AllAreSo k (ack_told from e.0 b)
        acked_told true = ((tt, tt), tt)
        acked_told false = tt

    other : (m : Message) → By (handle_other node d t from m)
    other (message.Told m) = ends_left m.ack m.ends (last_end m.ends)
    other (message.Acked m) =
        coord_left (acked from m.act d.intents t.coord) (acks_so (so_of k) keep from m.act d.intents t.coord its.coord)
    other (message.Query m) =
        (its, says_so (answer_query from m.act d.intents t.coord) (query_so (so_of k) keep from m.act d.intents t.coord))
    other (message.Hello m) = (
      record { server = its.server; coord = its.coord },
      says_so (map query_about (filter (is_earlier m.node m.inc) (holders d t)))
          (ticks.queries (so_of k) keep (filter (is_earlier m.node m.inc) (holders d t))),
    )
    other m = tt

    handled : (m : Message) → is_meant t m ≡ true → MessageIsSo (so_of k) m → By (handle node d t from m)
    handled m meant so = by (asks m) (and_parts (asked_is_meant t.server (asks m)) (answer_is_meant t.coord (answers m)) meant).0 so.0
      where
        answer : (o : Option (Asked × Reply)) → answer_is_meant t.coord o ≡ true → AnsweredIsSo (so_of k) o →
            By (handle_answer node d t from m o)
        answer None reply_meant its_reply = other m
        answer (Some a) reply_meant its_reply = coord_left (heard from a.0 a.1 d.intents t.coord)
            (hears_so (so_of k) keep from a.0 a.1 d.intents t.coord its.coord reply_meant its_reply)

        by : (o : Option (Head × Ask)) → asked_is_meant t.server o ≡ true → AskedIsSo (so_of k) o → By (handle_ask node d t from m o)
        by None asked_meant its_ask =
            answer (answers m) (and_parts (asked_is_meant t.server (asks m)) (answer_is_meant t.coord (answers m)) meant).1 so.1
        by (Some a) asked_meant its_ask = asked a.0 a.1 asked_meant its_ask

    pub handled_so : (m : Message) (v : Parts) (outs : List Effect) → is_meant t m ≡ true → MessageIsSo (so_of k) m →
        handle node d t from m ≡ Took v outs → PartsAreSo k v × AllAreSo k outs
    handled_so m v outs meant so is = subst By is (handled m meant so)

  -- ---- ticks and restarts

  pub tick_so : (n : Node) (t : Parts) → PartsAreSo k t →
      PartsAreSo k (with_coord t (again_all t.coord.doings t.coord).part) × AllAreSo k (tick_outs n t)
  tick_so n t its = let a = ticks.tick_so (so_of k) keep n t its.coord in
      (record { server = its.server; coord = a.0 }, says_so (tick_outs n t) a.1)

  pub starts_so : (node inc : ℕ) (d : Disk) → PartsAreSo k (parts_in node inc d)
  starts_so node inc d = record { server = tt; coord = new_so (so_of k) keep node inc d.intents }

  pub restart_so : (hd : Header) (node : ℕ) (d : Disk) → AllAreSo k (restart_outs hd node (d.inc + 1) d)
  restart_so hd node d = says_so (restart_outs hd node (d.inc + 1) d) (ticks.restart_so (so_of k) keep hd node d)
