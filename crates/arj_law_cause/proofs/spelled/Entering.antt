-- What a node prepares of entries: only a Confirm has it prepare some, those that change by it; and of these this holds.
use Rattle.arj_law_parts.proofs.Words
use Words.{◌≡◌, ◌+◌, ◌++◌, ◌||◌, ◌∙◌, not, ℕ, Bool, true, false, cond, List, [], ◌∷◌, filter, map, Option, Some, None, refl, sym, ⊤}
use Words.{option_map, AllByRecursion, list_all, and_parts, flat_map, Ask, End, Head, ConfirmedReply, Header, Message, ObjectState, Path}
use Words.{asks, Uid, object, is_on, Reply, actor, asked_by, last_end, response, top_of, again_all, heard, Grants, Marks, checked, confirm}
use Words.{confirm_entries, confirm_new, confirms, entries_after, has_all, lock_all, lock_in, prepared_by, wanted, Coord, Abort, Already}
use Words.{Commit, Did, Disk, Do, Effect, InDoubt, Look, Old, Pair, Prep, Prepare, PutInc, PutIntent, Ready, RemoveIntent, Say, Send}
use Words.{Served, Work, did_nothing, held_at, holder_of, is_prepared, prepare_answer, reply, void, acked, answer_query, tick_outs}
use Words.{tolds_again, Named, lock_lines, Naming, end_entries, end_lines, end_orphans, is_over, orphans, own_entries, taken_end, told_new}
use Words.{Handled, Parts, Took, Void, ack_told, coord_heard, end_states, handle, handle_ends, handle_other, holders, if_naming, is_earlier}
use Words.{load_by, load_held, naming_told, prepare_by, query_about, sends_answer, serve, served, store_told, with_naming, with_server}
use Words.{at_number, AreAll, is_server_effect, restart_outs, activate_own, ends_own, invoke_own, vote_own}
use Words.ask
use Words.body
use Words.confirmed
use Words.ending
use Words.loaded
use Words.message
use Words.mode
use Words.part
use Words.prepared
use Words.role
use Words.naming
use Words.server
use Rattle.arj_law_disk_view.proofs.running.StateTicks as ticks
use Rattle.arj_law_disk_view.proofs.view.{HeardWalks.is_say, ServedWalks.lock_says}
use Rattle.arj_law_disk_view.specs.running.States.{AllSay, PreparesNone}
use Rattle.arj_law_cause.proofs.spelled.Saves.{F, keep}
use Rattle.arj_protocol.proofs.CoordSays.{acked_own, again_own, heard_own, query_own, tolds_again_own}
use Rattle.arj_protocol.specs.Says.{is_coord_effect, is_intent_work}
use Rattle.arj_law_promise.proofs.Terms.{all_append, by_coord, by_message}
use Rattle.arj_law_serial.proofs.Terms.{bind_says, note_says}

module _ (W : Uid → List ObjectState → Type 0) where
  abbrev pub WorkSo : Work → Type 0
  WorkSo (Prepare role.Names u states) = W u states
  WorkSo w = ⊤

  abbrev pub EffectSo : Effect → Type 0
  EffectSo (Do w) = WorkSo w
  EffectSo (Say b) = ⊤
  EffectSo (Send to m) = ⊤

  abbrev pub AllSo : List Effect → Type 0
  AllSo outs = AllByRecursion EffectSo outs

  pub both : (es fs : List Effect) → AllSo es → AllSo fs → AllSo (es ++ fs)
  both es fs a b = all_append EffectSo es fs a b

  none_so : (w : Work) → PreparesNone w → WorkSo w
  none_so Look none = tt
  none_so (PutInc i) none = tt
  none_so (Prepare r u states) none = absurd none
  none_so (Commit r u) none = tt
  none_so (Abort r u) none = tt
  none_so (PutIntent u i) none = tt
  none_so (RemoveIntent u) none = tt

  pub says_so : (es : List Effect) → AllSay (F ⊤) es → AllSo es
  says_so [] all = tt
  says_so (Send to m ∷ es) all = (tt, says_so es all.1)
  says_so (Say b ∷ es) all = (tt, says_so es all.1)
  says_so (Do w ∷ es) all = (none_so w all.0, says_so es all.1)

  pub coord_so : (es : List Effect) → AreAll is_coord_effect es → AllSo es
  coord_so [] own = tt
  coord_so (e ∷ es) own =
      let parts = and_parts (is_coord_effect e) (list_all is_coord_effect es) own in
      (one e parts.0, coord_so es parts.1)
    where
      work : (w : Work) → is_intent_work w ≡ true → WorkSo w
      work (PutIntent u i) is = tt
      work (RemoveIntent u) is = tt
      work Look is = tt
      work (PutInc i) is = tt
      work (Prepare r u states) is = absurd (cc is)
      work (Commit r u) is = tt
      work (Abort r u) is = tt

      one : (f : Effect) → is_coord_effect f ≡ true → EffectSo f
      one (Do w) is = work w is
      one (Say b) is = tt
      one (Send to m) is = tt

  -- what prepares nothing
  plain_so : (test : Effect → Bool) → ((w : Work) → test (Do w) ≡ false) → (es : List Effect) → AreAll test es → AllSo es
  plain_so test none [] own = tt
  plain_so test none (Say b ∷ es) own = (tt, plain_so test none es (and_parts (test (Say b)) (list_all test es) own).1)
  plain_so test none (Send to m ∷ es) own = (tt, plain_so test none es (and_parts (test (Send to m)) (list_all test es) own).1)
  plain_so test none (Do w ∷ es) own =
      let no_way : true ≡ false = sym (and_parts (test (Do w)) (list_all test es) own).0 ∙ none w in absurd (cc no_way)

  server_so : (n : ℕ) (es : List Effect) → AreAll (is_server_effect n) es → AllSo es
  server_so n es own = plain_so (is_server_effect n) (λ w. refl) es own

  lines_so : (es : List Effect) → AreAll is_say es → AllSo es
  lines_so es own = plain_so is_say (λ w. refl) es own

  pub queries_so : (us : List Uid) → AllSo (map query_about us)
  queries_so [] = tt
  queries_so (u ∷ us) = (tt, queries_so us)

  -- ---- a Confirm

  locks_so : (xs : List ℕ) (p : Path) (n : Naming) → AllSo (let d = lock_all xs p n in d.outs)
  locks_so [] p n = tt
  locks_so (x ∷ xs) p n = both (let d = lock_in x p n (at_number x n.objects) in
      d.outs) (let t = lock_all xs p (let d = lock_in x p n (at_number x n.objects) in d.part) in
      t.outs) (by (at_number x n.objects)) (locks_so xs p (let d = lock_in x p n (at_number x n.objects) in d.part))
    where
      by : (o : Option Named) → AllSo (let d = lock_in x p n o in d.outs)
      by None = tt
      by (Some o) = lines_so (lock_lines x p mode.Exclude o) (lock_says x p mode.Exclude o)

  prepares_so : (top : Uid) (states : List ObjectState) (t : Did Naming) (a : Prep) → W top states →
      AllSo t.outs → AllSo (let r = prepared_by top states t a in r.outs)
  prepares_so top states t Ready its so =
      both t.outs (Do Look ∷ Do (Prepare role.Names top states) ∷ Say (body.Prepared 1 top role.Names) ∷ []) so (tt, (its, (tt, tt)))
  prepares_so top states t (InDoubt u holder) its so = both t.outs (Do Look ∷ []) so (tt, tt)
  prepares_so top states t (Already u) its so = both t.outs (Do Look ∷ []) so (tt, tt)
  prepares_so top states t (Old u v) its so = both t.outs (Do Look ∷ []) so (tt, tt)

  confirm_so : (p : Path) (grants : Grants) (excluded included : Marks) (d : Pair) (n : Naming) →
      W (top_of p) (entries_after (top_of p) grants excluded included d) →
      AllSo (let r = confirm p grants excluded included d n in r.outs)
  confirm_so p grants excluded included d n so =
      by (is_over p n || not (has_all grants n)) (is_on n.confirmed (top_of p) || is_prepared (top_of p) d)
    where
      locks : Did Naming
      locks = lock_all (wanted (top_of p) grants excluded d) p n

      found : (states : List ObjectState) → W (top_of p) states →
          AllSo (let r = confirm_entries (top_of p) states d (lock_all (wanted (top_of p) grants excluded d) p n) in r.outs)
      found [] its = locks_so (wanted (top_of p) grants excluded d) p n
      found (s ∷ ss) its = prepares_so (top_of p) (s ∷ ss) locks (prepare_answer (top_of p) (s ∷ ss) d) its
          (locks_so (wanted (top_of p) grants excluded d) p n)

      new : (o : Option ConfirmedReply) → AllSo (let r = confirm_new p grants excluded included d n o in r.outs)
      new None = found (entries_after (top_of p) grants excluded included d) so
      new (Some r) = tt

      by : (a b : Bool) → AllSo (let r = cond {A = Served Naming ConfirmedReply} a (void n) (cond b (reply (confirms (top_of p) n)
          confirmed.Yes) (confirm_new p grants excluded included d n (checked p grants excluded included d n))) in r.outs)
      by true b = tt
      by false true = tt
      by false false = new (checked p grants excluded included d n)

  -- ---- ends

  ended_so : (u : Uid) (e : End) → AllSo (end_entries u e)
  ended_so u ending.Commit = (tt, (tt, tt))
  ended_so u ending.Abort = (tt, (tt, tt))

  orphans_so : (us : List Uid) → AllSo (flat_map (λ act. end_entries act ending.Abort) us)
  orphans_so [] = tt
  orphans_so (u ∷ us) =
      both (end_entries u ending.Abort) (flat_map (λ act. end_entries act ending.Abort) us) (ended_so u ending.Abort) (orphans_so us)

  told_so : (u : Uid) (e : End) (d : Pair) (n : Naming) → AllSo (let t = naming.told u e d n in t.outs)
  told_so u e d n = both (own_entries u e d) (let t = cond {A = Did Naming} (is_on n.told u) (did_nothing n)
      (told_new u (taken_end u e n) d n) in t.outs) (own (is_prepared u d)) (by (is_on n.told u))
    where
      own : (b : Bool) → AllSo (cond b (end_entries u e) [])
      own true = ended_so u e
      own false = tt

      orphaned : (q : End) → AllSo (end_orphans u q d n)
      orphaned ending.Commit = tt
      orphaned ending.Abort = orphans_so (orphans u d n)

      lines : (q : End) (b : Bool) → AllSo (cond b (Say (body.Told 1 u q part.Naming) ∷ []) [])
      lines q true = (tt, tt)
      lines q false = tt

      by : (b : Bool) → AllSo (let t = cond {A = Did Naming} b (did_nothing n) (told_new u (taken_end u e n) d n) in t.outs)
      by true = tt
      by false = both (end_orphans u (taken_end u e n) d n) (end_lines u (taken_end u e n) n) (orphaned (taken_end u e n))
          (lines (taken_end u e n) (naming.has_locks u n))

  -- ---- a tick and a restart

  pub tick_so : (k : ℕ) (d : Disk) (t : Parts) → AllSo (tick_outs (record { number = k; disk = d; live = Some t }) t)
  tick_so k d t =
      let q = again_all t.coord.doings t.coord in
      both (q.outs ++ tolds_again t.coord.telling) (map query_about (holders d t)) (both q.outs (tolds_again t.coord.telling)
      (coord_so q.outs (again_own t.coord.doings t.coord)) (coord_so (tolds_again t.coord.telling) (tolds_again_own t.coord.telling)))
      (queries_so (holders d t))

  pub restart_so : (hd : Header) (k : ℕ) (d : Disk) → AllSo (restart_outs hd k (d.inc + 1) d)
  restart_so hd k d = says_so (restart_outs hd k (d.inc + 1) d) (ticks.restart_so (F ⊤) (keep ⊤) hd k d)

  -- ---- one message

  module _ (k : ℕ) (d : Disk) (t : Parts) (from : ℕ) (m : Message)
      (confirmed_so : (h : Head) (grants : Grants) (excluded included : Marks) → asks m ≡ Some (h, ask.Confirm grants excluded included) →
      W (top_of h.path) (entries_after (top_of h.path) grants excluded included d.names)) where
    abbrev pub By : Handled → Type 0
    By (Void es) = ⊤
    By (Took v es) = AllSo es

    answered_by : (h : Head) (v : Parts) (outs : List Effect) (o : Option Reply) → AllSo outs → By (sends_answer from h v outs o)
    answered_by h v outs None all = tt
    answered_by h v outs (Some r) all = both outs (Send from (response (asked_by h) r) ∷ []) all (tt, tt)

    with_it : (f : Naming → Handled) (o : Option Naming) → ((n : Naming) → By (f n)) → By (if_naming f o)
    with_it f None each = tt
    with_it f (Some n) each = each n

    asked : (h : Head) (a : Ask) → asks m ≡ Some (h, a) → By (serve k d t from h a)
    asked h (ask.Bind x include avoid) is =
        with_it (λ o. served from h (with_naming t) Reply.Bound (naming.bind h.path x include avoid d.names o)) t.naming
        (λ n. let r = naming.bind h.path x include avoid d.names n in answered_by h (with_naming t r.part) r.outs
        (option_map Reply.Bound r.reply) (lines_so r.outs (bind_says h.path x include avoid d.names n)))
    asked h (ask.Load x) is = load (holder_of (object x) d.store)
      where
        state : (o : Option ObjectState) → By (load_held from h t o)
        state None = tt
        state (Some st) = answered_by h t (Do Look ∷ []) (Some (Reply.Loaded (loaded.State st))) (tt, tt)

        load : (o : Option Uid) → By (load_by x d.store from h t o)
        load (Some u) = answered_by h t [] (Some (Reply.Loaded (loaded.InDoubt u))) tt
        load None = state (held_at (object x) d.store)
    asked h (ask.Activate b st) is = let r = server.activate k h.path b st t.server in
        answered_by h (with_server t r.part) r.outs (option_map Reply.Activated r.reply)
        (server_so k r.outs (activate_own k h.path b st t.server))
    asked h (ask.Record x b i g) is = with_it (λ o. served from h (with_naming t) Reply.Noted (naming.note h.path x b i g o)) t.naming
        (λ n. let r = naming.note h.path x b i g n in answered_by h (with_naming t r.part) r.outs (option_map Reply.Noted r.reply)
        (lines_so r.outs (note_says h.path x b i g n)))
    asked h (ask.Invoke x b i ends o) is = let r = server.invoke k h x b i ends o t.server in
        answered_by h (with_server t r.part) r.outs (option_map Reply.Invoked r.reply)
        (server_so k r.outs (invoke_own k h x b i ends o t.server))
    asked h (ask.Vote i ties ends) is = let r = server.vote k h.path i ties ends t.server in
        answered_by h (with_server t r.part) r.outs (option_map Reply.Voted r.reply)
        (server_so k r.outs (vote_own k h.path i ties ends t.server))
    asked h (ask.Prepare states) is = each (is_prepared (actor h.path) d.store)
      where
        new : (a : Prep) → By (prepare_by k states from h t a)
        new Ready = answered_by h t
            (Do Look ∷ Do (Prepare role.Store (actor h.path) states) ∷ Say (body.Prepared k (actor h.path) role.Store) ∷ [])
            (Some (Reply.Prepared prepared.Yes)) (tt, (tt, (tt, tt)))
        new (Already u) = tt
        new (Old u v) = answered_by h t (Do Look ∷ []) (Some (Reply.Prepared (prepared.Old u.num v))) (tt, tt)
        new (InDoubt u holder) = answered_by h t (Do Look ∷ []) (Some (Reply.Prepared (prepared.InDoubt u.num holder))) (tt, tt)

        each : (b : Bool) → By (cond b (sends_answer from h t [] (Some (Reply.Prepared prepared.Yes)))
            (prepare_by k states from h t (prepare_answer (actor h.path) states d.store)))
        each true = answered_by h t [] (Some (Reply.Prepared prepared.Yes)) tt
        each false = new (prepare_answer (actor h.path) states d.store)
    asked h (ask.Confirm grants excluded included) is =
        with_it (λ o. served from h (with_naming t) Reply.Confirmed (confirm h.path grants excluded included d.names o)) t.naming
        (λ n. let r = confirm h.path grants excluded included d.names n in answered_by h (with_naming t r.part) r.outs
        (option_map Reply.Confirmed r.reply)
        (confirm_so h.path grants excluded included d.names n (confirmed_so h grants excluded included is)))

    ends_so : (ack : Bool) (ends : List (Uid × End)) (o : Option (Uid × End)) → By (handle_ends k d t from ack ends o)
    ends_so ack ends None = tt
    ends_so ack ends (Some e) =
        let s = server.told k ends t.server in
        let o = naming_told e.0 e.1 d.names t.naming in
        both (store_told k e.0 e.1 d.store ++ o.outs ++ s.outs) (ack_told from e.0 ack)
        (both (store_told k e.0 e.1 d.store ++ o.outs) s.outs
        (both (store_told k e.0 e.1 d.store) o.outs (stored (is_prepared e.0 d.store) e.1) (named t.naming))
        (server_so k s.outs (ends_own k ends t.server))) (acked_told ack)
      where
        stored : (b : Bool) (how : End) → AllSo (cond b (end_states k e.0 how) [])
        stored false how = tt
        stored true ending.Commit = (tt, (tt, tt))
        stored true ending.Abort = (tt, (tt, tt))

        named : (o : Option Naming) → AllSo (let r = naming_told e.0 e.1 d.names o in r.outs)
        named None = tt
        named (Some n) = told_so e.0 e.1 d.names n

        acked_told : (b : Bool) → AllSo (ack_told from e.0 b)
        acked_told true = (tt, tt)
        acked_told false = tt

    coord_left : (r : Served Coord (Unit {0})) → AllSo r.outs → By (coord_heard t r)
    coord_left r so = by_coord k d t from By tt r so

    other : (m : Message) → By (handle_other k d t from m)
    other (message.Told m) = ends_so m.ack m.ends (last_end m.ends)
    other (message.Acked m) = let r = acked from m.act d.intents t.coord in
        coord_left r (coord_so r.outs (acked_own from m.act d.intents t.coord))
    other (message.Query m) = coord_so (answer_query from m.act d.intents t.coord) (query_own from m.act d.intents t.coord)
    other (message.Hello m) = queries_so (filter (is_earlier m.node m.inc) (holders d t))
    other m = tt

    pub message_so : By (handle k d t from m)
    message_so = by_message k d t from By tt m asked
        (λ a q is. let r = heard from a q d.intents t.coord in
        coord_left r (coord_so r.outs (heard_own from a q d.intents t.coord))) (other m)

-- where more holds of what is prepared
pub all_on : (W V : Uid → List ObjectState → Type 0) → ((u : Uid) (states : List ObjectState) → W u states → V u states) →
    (es : List Effect) → AllSo W es → AllSo V es
all_on W V on [] all = tt
all_on W V on (Say b ∷ es) all = (tt, all_on W V on es all.1)
all_on W V on (Send to m ∷ es) all = (tt, all_on W V on es all.1)
all_on W V on (Do w ∷ es) all = (work w all.0, all_on W V on es all.1)
  where
    work : (x : Work) → WorkSo W x → WorkSo V x
    work (Prepare role.Names u states) its = on u states its
    work (Prepare role.Store u states) its = tt
    work Look its = tt
    work (PutInc i) its = tt
    work (Commit r u) its = tt
    work (Abort r u) its = tt
    work (PutIntent u i) its = tt
    work (RemoveIntent u) its = tt
