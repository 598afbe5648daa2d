-- Who has something prepared or locked was begun, and so was who is asked about, under each handler; and naming is at node 1.
use Rattle.arj_law_parts.proofs.Words
use Words.{◌≤◌, arith, if◌then◌else◌, Start, node_by, ◌≡◌, ℕ, ◌+◌, ◌==◌, List, [], ◌∷◌, ◌++◌, Bool, true, false, cond, Option, Some, None}
use Words.{refl, sym, ◌∙◌, ap, subst, inl, inr, ⊎_elim}
use Words.{Contains, eqb-true, filter, map, ⊤, is_some, option_map, AllByRecursion, list_any-append, uid_same, in_from}
use Words.{in_to, Uid, End, Head, Header, Asked, Ask, Kind, Label, Line, Message, ObjectState, Path, Row, asks, object, tops_of, uids_of}
use Words.{Reply, actor, answers, asked_by, last_end, response, top_of, top_path, again_all, began_line, heard, confirm, recovered_naming}
use Words.{Coord, Copy, Disk, Effect, Say, Send, Do, Work, Look, PutInc, Prepare, Commit, Abort, PutIntent, RemoveIntent, Stop, Before}
use Words.{After, InPart, Served, Prep, Ready, Already, Old, InDoubt, held_at, holder_of, is_prepared, prepare_answer, stopped, worked}
use Words.{acked, answer_query, tick_outs, Named, Naming, Parts, Handled, Void, Took, ack_told, by_reply, coord_heard, end_states, handle}
use Words.{handle_answer, handle_ask, handle_ends, handle_other, holders, if_naming, is_earlier, load_by, load_held, locks_of, naming_hello}
use Words.{naming_told, prepare_by, prepared_actions, query_about, sends_answer, serve, served, store_told, with_coord, with_naming}
use Words.{with_server, uid_set, without_number, Server, row_top, server_holders, Node, hello_to, naming_at}
use Words.{naming_back, numbers_to, parts_in, recovered_records, restart_outs, tolds_again, numbered, activate_own, ends_own}
use Words.{invoke_own, vote_own, Post, Seen}
use Words.ask
use Words.body
use Words.ending
use Words.message
use Words.prepared
use Words.role
use Words.naming
use Words.server
use Rattle.arj_law_disk_view.proofs.Terms
use Terms.{IsAtStarts, disk_by, first_at, live_first, Action, AreBegun, act_of, FitsAsked, IsAsker, or_left, or_right, some_is, at, down}
use Terms.{up, said, posted, Walks, Up, halted, begins}
use Terms.{was_begun, AreBegunIn, AreCallRows, AreKeyed, AreEntryRows, AreNamesRows, ArePlaced, IsAboutBegun, IsBegun, IsCallRow}
use Terms.{IsEntryRow, IsPlacedUp, IsTopPath, MeansBegun, asked_about, AreOwnIn, AreSound, IsOwnVote, voted_of}
use Terms.seen
use Rattle.arj_law_disk_view.proofs.running
use running.{SoundCoords.sound_acked, SoundCoords.sound_new}
use running.EntryRows.{rows_bind, rows_confirm, rows_hello, rows_note, rows_recovered, rows_told}
use running.Holders.{begun_more, call_more, call_top, entry_top, path_more, top_path_is}
use running.Lists.{all_append, all_each, all_filter, all_keys, all_put, all_set, all_tops, all_without}
use running.Means.{All, IsOwnReply, again_means, back_means, both, confirm_means, hellos_mean, queries_mean, recovered_means}
use running.Means.{response_means, says_mean, server_means, told_means}
use running.RowWalks.{rows_activate, rows_invoke, rows_told as rows_ended, rows_vote, votes_own}
use Rattle.arj_law_disk_view.proofs.view.{Frames.node_here, ServedWalks.bind_says, ServedWalks.note_says}
use Rattle.arj_law_disk_view.proofs.names.Pairing.{stopped_inc, worked_inc}
use Rattle.arj_law_disk_view.specs.{names.Both.leaves_inc, running.Places.AsksBegun, running.Places.IsPlaced, running.Places.IsSince}
use Rattle.arj_law_parts.specs.parts.Messages.{FitsAsk, FitsMessage}
use Rattle.arj_promise.specs.Starts.{next_inc}

-- ---- more lines

pub line_stays : (u : Uid) (lines more : List Line) → was_begun u lines ≡ true → was_begun u (lines ++ more) ≡ true
line_stays u lines more on = list_any-append (λ (l : Line). begins u l.body) lines more ∙ or_left (was_begun u lines) (was_begun u more) on

-- a node that is down may be so from then on
since_down : (first i : ℕ) (live : Option Parts) → IsSince first i live → first ≤ i + 1
since_down first i None since = since
since_down first i (Some t) since = omega (arith, since)

module _ (acts : List Action) where
  abbrev Lines : Seen → Type 0
  Lines M = (a : Action) → Contains acts a → was_begun (act_of a) M.lines ≡ true

  lines_more : (M : Seen) (more : List Line) → Lines M → (a : Action) → Contains acts a → was_begun (act_of a) (M.lines ++ more) ≡ true
  lines_more M more all a c = line_stays (act_of a) M.lines more (all a c)

  -- ---- one work

  abbrev Both : Disk → Type 0
  Both d = AreBegunIn acts d.store × AreBegunIn acts d.names

  both_worked : (w : Work) (d : Disk) → MeansBegun acts (Do w) → Both d → Both (worked w d)
  both_worked Look d its b = b
  both_worked (PutInc i) d its b = absurd its
  both_worked (Prepare role.Store u states) d its b = (all_put (IsBegun acts) u states d.store.pend its b.0, b.1)
  both_worked (Prepare role.Names u states) d its b = (b.0, all_put (IsBegun acts) u states d.names.pend its b.1)
  both_worked (Commit role.Store u) d its b = (all_without (IsBegun acts) u d.store.pend b.0, b.1)
  both_worked (Commit role.Names u) d its b = (b.0, all_without (IsBegun acts) u d.names.pend b.1)
  both_worked (Abort role.Store u) d its b = (all_without (IsBegun acts) u d.store.pend b.0, b.1)
  both_worked (Abort role.Names u) d its b = (b.0, all_without (IsBegun acts) u d.names.pend b.1)
  both_worked (PutIntent u i) d its b = b
  both_worked (RemoveIntent u) d its b = b

  both_part : (which : Uid → Bool) (w : Work) (d : Disk) → Both d → Both (stopped (InPart which) w d)
  both_part which Look d b = b
  both_part which (PutInc i) d b = b
  both_part which (Prepare role u states) d b = b
  both_part which (Commit role.Store u) d b = b
  both_part which (Commit role.Names u) d b = b
  both_part which (Abort role u) d b = b
  both_part which (PutIntent u i) d b = b
  both_part which (RemoveIntent u) d b = b

  both_stopped : (how : Stop) (w : Work) (d : Disk) → MeansBegun acts (Do w) → Both d → Both (stopped how w d)
  both_stopped Before w d its b = b
  both_stopped After w d its b = both_worked w d its b
  both_stopped (InPart which) w d its b = both_part which w d b

  -- the incarnation stays
  inc_leaves : (w : Work) → MeansBegun acts (Do w) → leaves_inc w ≡ true
  inc_leaves (PutInc i) its = absurd its
  inc_leaves w its = refl

  -- ---- all nodes

  abbrev Others : ℕ → Seen → Type 0
  Others k M = (j : ℕ) (n : Node) → (j == k) ≡ false → M.nodes j ≡ Some n → IsPlaced M.start acts j n

  all_nodes : (k : ℕ) (d : Disk) (live : Option Parts) (M : Seen) → Others k M →
      IsPlaced M.start acts k (record { number = k; disk = d; live = live }) → (j : ℕ) (n : Node) →
      (let S = at k d live M in S.nodes j) ≡ Some n →
      IsPlaced M.start acts j n
  all_nodes k d live M others mine j n is = by (j == k) refl is
    where
      by : (b : Bool) → (j == k) ≡ b → (if b then Some (record { number = k; disk = d; live = live }) else M.nodes j) ≡ Some n →
          IsPlaced M.start acts j n
      by true e h = let same : record { number = k; disk = d; live = live } ≡ n = cc h in
          subst (λ i. IsPlaced M.start acts i n) (sym (eqb-true j k e)) (subst (λ (x : Node). IsPlaced M.start acts k x) same mine)
      by false e h = others j n e h

  others_of : (k : ℕ) (d : Disk) (live : Option Parts) (M : Seen) → ArePlaced acts (at k d live M) → Others k M
  others_of k d live M all j n off is =
      all.nodes j n (ap (λ b. if b then Some (record { number = k; disk = d; live = live }) else M.nodes j) off ∙ is)

  mine_of : (k : ℕ) (d : Disk) (live : Option Parts) (M : Seen) → ArePlaced acts (at k d live M) →
      IsPlaced M.start acts k (record { number = k; disk = d; live = live })
  mine_of k d live M all =
      all.nodes k (record { number = k; disk = d; live = live }) (node_here M k (record { number = k; disk = d; live = live }))

  down_one : (st : Start) (k : ℕ) (d : Disk) → Both d → next_inc st k ≤ d.inc + 1 →
      IsPlaced st acts k (record { number = k; disk = d; live = None })
  down_one st k d b since = record { store = b.0; names = b.1; since = since; live = λ t is. absurd (cc is) }

  abbrev Asks : Seen → Type 0
  Asks M = (p : Post) → seen.In p M.sent → AsksBegun acts p.to p.message × IsOwnVote p.message

  down_all : (e k : ℕ) (d : Disk) (M : Seen) → Others k M → Asks M → Lines M → Both d → next_inc M.start k ≤ d.inc + 1 →
      ArePlaced acts (halted e k d M)
  down_all e k d M others asks lines b since = record {
    nodes = all_nodes k d None M others (down_one M.start k d b since);
    asks = λ p i. (asks p i).0;
    votes = λ p i. (asks p i).1;
    lines = lines_more M (numbered e (body.Halted k ∷ [])) lines;
  }

  pub stop_placed : (e k : ℕ) (d : Disk) (live : Option Parts) (M : Seen) → ArePlaced acts (at k d live M) → ArePlaced acts (halted e k d M)
  stop_placed e k d live M all = let m = mine_of k d live M all in
      down_all e k d M (others_of k d live M all) (λ p i. (all.asks p i, all.votes p i)) all.lines (m.store, m.names)
      (since_down (next_inc M.start k) d.inc live m.since)

  -- ---- walked through

  pub places_walk : (e k : ℕ) (v : Parts) → IsPlacedUp acts k v → (es : List Effect) (d : Disk) (M : Seen) → Others k M → Asks M → Lines M →
      Both d → next_inc M.start k ≤ d.inc → AllByRecursion (MeansBegun acts) es →
      Walks (ArePlaced acts) e k es (Up (ArePlaced acts) k v) d M
  places_walk e k v placed [] d M others asks lines b since all = record {
    nodes = all_nodes k d (Some v) M others (record {
      store = b.0;
      names = b.1;
      since = since;
      live = λ t is. let same : v ≡ t = some_is refl is in subst (IsPlacedUp acts k) same placed;
    });
    asks = λ p i. (asks p i).0;
    votes = λ p i. (asks p i).1;
    lines = lines;
  }
  places_walk e k v placed (Do w ∷ es) d M others asks lines b since all = (
    λ how. down_all e k (stopped how w d) M others asks lines (both_stopped how w d all.0 b)
        (later (stopped how w d).inc (stopped_inc how w d (inc_leaves w all.0))),
    places_walk e k v placed es (worked w d) M others asks lines (both_worked w d all.0 b)
        (subst (λ i. next_inc M.start k ≤ i) (sym (worked_inc w d (inc_leaves w all.0))) since) all.1,
  )
    where
      later : (i : ℕ) → i ≡ d.inc → next_inc M.start k ≤ i + 1
      later i same = omega (arith, same, since)
  places_walk e k v placed (Say l ∷ es) d M others asks lines b since all =
      places_walk e k v placed es d (said e (l ∷ []) M) others asks (lines_more M (numbered e (l ∷ [])) lines) b since all.1
  places_walk e k v placed (Send to m ∷ es) d M others asks lines b since all = λ more quiet. places_walk e k v placed es d (said e more
      (posted (record { from = k; to = to; message = m }) M)) others (asked all.0) (lines_more M (numbered e more) lines) b since all.1
    where
      asked : MeansBegun acts (Send to m) → (p : Post) → seen.In p (record { from = k; to = to; message = m } ∷ M.sent) →
          AsksBegun acts p.to p.message × IsOwnVote p.message
      asked its p (inl same) = subst (λ (q : Post). AsksBegun acts q.to q.message × IsOwnVote q.message) same its
      asked its p (inr old) = asks p old

  -- what a handler has to show
  abbrev pub PlacedBy : ℕ → Handled → Type 0
  PlacedBy k (Void outs) = ⊤
  PlacedBy k (Took v outs) = AllByRecursion (MeansBegun acts) outs × IsPlacedUp acts k v

  pub placed_walk : (e k : ℕ) (d : Disk) (t v : Parts) (outs : List Effect) (M : Seen) → AllByRecursion (MeansBegun acts) outs →
      IsPlacedUp acts k v → ArePlaced acts (up k d t M) → Walks (ArePlaced acts) e k outs (Up (ArePlaced acts) k v) d M
  placed_walk e k d t v outs M all up placed = let m = mine_of k d (Some t) M placed in places_walk e k v up outs d M
      (others_of k d (Some t) M placed) (λ p i. (placed.asks p i, placed.votes p i)) placed.lines (m.store, m.names) m.since all

  -- with another coordinator
  pub other_coord : (k : ℕ) (t : Parts) (c : Coord) → AreSound c → IsPlacedUp acts k t → IsPlacedUp acts k (with_coord t c)
  other_coord k t c sound p = record { naming = p.naming; calls = p.calls; keys = p.keys; entries = p.entries; coord = sound }

  -- ---- who holds something was begun

  pub holders_in : (k : ℕ) (d : Disk) (t : Parts) → AreBegun acts → Both d → IsPlacedUp acts k t →
      AllByRecursion (IsBegun acts) (holders d t)
  holders_in k d t begun b p =
      all_set (IsBegun acts) (server_holders t.server ++ locks_of t.naming ++ prepared_actions d.store ++ prepared_actions d.names)
      (all_append (IsBegun acts) (server_holders t.server ++ locks_of t.naming ++ prepared_actions d.store) (prepared_actions d.names)
      (all_append (IsBegun acts) (server_holders t.server ++ locks_of t.naming) (prepared_actions d.store) (all_append (IsBegun acts)
      (server_holders t.server) (locks_of t.naming) calls (entries t.naming p.entries)) (all_keys (IsBegun acts) d.store.pend b.0))
      (all_keys (IsBegun acts) d.names.pend b.1))
    where
      calls : AllByRecursion (IsBegun acts) (server_holders t.server)
      calls = all_tops (IsBegun acts) (λ (c : Copy). c.rows) (let s = t.server in s.objects) (all_each (λ (e : ℕ × Copy). (r : Row) →
          Contains (let c = e.1 in c.rows) r → IsCallRow acts r) (λ (e : ℕ × Copy). (r : Row) → Contains (let c = e.1 in c.rows) r →
          IsBegun acts (row_top r)) (let s = t.server in s.objects) (λ e each r c. call_top acts begun r (each r c)) p.calls)

      entries : (o : Option Naming) → AreNamesRows acts o → AllByRecursion (IsBegun acts) (locks_of o)
      entries None its = tt
      entries (Some n) its = all_tops (IsBegun acts) (λ (o : Named). o.rows) n.objects
          (all_each (λ (e : ℕ × Named). (r : Row) → Contains (let o = e.1 in o.rows) r → IsEntryRow acts r) (λ (e : ℕ × Named). (r : Row) →
          Contains (let o = e.1 in o.rows) r → IsBegun acts (row_top r)) n.objects (λ e each r c. entry_top acts begun r (each r c)) its)

  -- ---- messages

  -- who asks was begun
  asker : (h : Head) (a : Ask) → FitsAsk acts h a → IsAsker acts h.path
  asker h (ask.Bind x include avoid) f = f
  asker h (ask.Load x) f = f
  asker h (ask.Activate b st) f = f
  asker h (ask.Record x b i g) f = f
  asker h (ask.Invoke x b i ends op) f = f.0
  asker h (ask.Vote i ties ends) f = f.0
  asker h (ask.Prepare states) f = f
  asker h (ask.Confirm grants excluded included) f = f

  -- a Confirm is asked by a top
  abbrev pub ByTop : Option (Head × Ask) → Type 0
  ByTop (Some (h, ask.Confirm grants excluded included)) = actor h.path ≡ top_of h.path
  ByTop _ = ⊤

  module _ (begun : AreBegun acts) (k : ℕ) (d : Disk) (t : Parts) (from : ℕ) (mine : Both d) (placed : IsPlacedUp acts k t) where
    abbrev By : Handled → Type 0
    By h = PlacedBy k h

    answered : (h : Head) (v : Parts) (outs : List Effect) (o : Option Reply) → IsOwnReply (actor h.path) o → All acts outs →
        IsPlacedUp acts k v → By (sends_answer from h v outs o)
    answered h v outs None own all up = tt
    answered h v outs (Some r) own all up =
        (both acts outs (Send from (response (asked_by h) r) ∷ []) all (response_means acts from (asked_by h) r own, tt), up)

    -- an answer of another kind votes nothing
    no_vote : {R : Type 0} (top : Uid) (say : R → Reply) → ((r : R) → AreOwnIn top (voted_of (say r))) → (o : Option R) →
        IsOwnReply top (option_map say o)
    no_vote top say each None = tt
    no_vote top say each (Some r) = each r

    with_it : (f : Naming → Handled) (o : Option Naming) → t.naming ≡ o → ((m : Naming) → t.naming ≡ Some m → By (f m)) → By (if_naming f o)
    with_it f None is each = tt
    with_it f (Some m) is each = each m is

    -- with another server, and with naming's locks
    served_so : (s : Server) → AreCallRows acts s.objects × AreKeyed s.objects → IsPlacedUp acts k (with_server t s)
    served_so s calls = record { naming = placed.naming; calls = calls.0; keys = calls.1; entries = placed.entries; coord = placed.coord }

    named_so : (m n : Naming) → t.naming ≡ Some m → AreEntryRows acts n.objects → IsPlacedUp acts k (with_naming t n)
    named_so m n is entries = record {
      naming = sym (ap (λ (o : Option Naming). is_some o) is) ∙ placed.naming;
      calls = placed.calls;
      keys = placed.keys;
      entries = entries;
      coord = placed.coord;
    }

    its_rows : (m : Naming) → t.naming ≡ Some m → AreEntryRows acts m.objects
    its_rows m is = subst (AreNamesRows acts) is placed.entries

    asked : (h : Head) (a : Ask) → IsAsker acts h.path → ByTop (Some (h, a)) → By (serve k d t from h a)
    asked h a who = by a
      where
        act : IsBegun acts (actor h.path)
        act = (who.0, who.1, ap actor who.2)

        path : IsTopPath acts (top_path h.path) (tops_of h.path)
        path = subst (λ (p : Path). IsTopPath acts (top_path p) (tops_of p)) who.2 (top_path_is acts begun who.0 who.1)

        by : (a : Ask) → ByTop (Some (h, a)) → By (serve k d t from h a)
        by (ask.Bind x include avoid) top =
            with_it (λ o. served from h (with_naming t) Reply.Bound (naming.bind h.path x include avoid d.names o)) t.naming refl
            (λ m is. let r = naming.bind h.path x include avoid d.names m in
            answered h (with_naming t r.part) r.outs (option_map Reply.Bound r.reply)
            (no_vote (actor h.path) Reply.Bound (λ r. tt) r.reply) (says_mean acts r.outs (bind_says h.path x include avoid d.names m))
            (named_so m r.part is (rows_bind acts begun h.path path x include avoid d.names m (its_rows m is))))
        by (ask.Load x) top = load (holder_of (object x) d.store)
          where
            held : (s : Option ObjectState) → By (load_held from h t s)
            held None = tt
            held (Some s) = ((tt, ((tt, tt), tt)), placed)

            load : (o : Option Uid) → By (load_by x d.store from h t o)
            load (Some u) = (((tt, tt), tt), placed)
            load None = held (held_at (object x) d.store)
        by (ask.Activate b st) top = let r = server.activate k h.path b st t.server in answered h (with_server t r.part) r.outs (option_map
            Reply.Activated r.reply) (no_vote (actor h.path) Reply.Activated (λ r. tt) r.reply) (server_means acts k r.outs (activate_own k
            h.path b st t.server)) (served_so r.part (rows_activate acts begun k h.path b st t.server (placed.calls, placed.keys)))
        by (ask.Record x b i g) top = with_it (λ o. served from h (with_naming t) Reply.Noted (naming.note h.path x b i g o)) t.naming refl
            (λ m is. let r = naming.note h.path x b i g m in answered h (with_naming t r.part) r.outs (option_map Reply.Noted r.reply)
            (no_vote (actor h.path) Reply.Noted (λ r. tt) r.reply) (says_mean acts r.outs (note_says h.path x b i g m))
            (named_so m r.part is (rows_note acts begun h.path x b i g m (its_rows m is))))
        by (ask.Invoke x b i ends o) top = let r = server.invoke k h x b i ends o t.server in
            answered h (with_server t r.part) r.outs (option_map Reply.Invoked r.reply) (no_vote (actor h.path) Reply.Invoked (λ r. tt)
            r.reply) (server_means acts k r.outs (invoke_own k h x b i ends o t.server)) (served_so r.part (rows_invoke acts begun k h x b i
            ends o t.server (who.0, who.1, ap uids_of (sym who.2), ap tops_of (sym who.2)) (placed.calls, placed.keys)))
        by (ask.Vote i ties ends) top = let r = server.vote k h.path i ties ends t.server in
            answered h (with_server t r.part) r.outs (option_map Reply.Voted r.reply) (votes_own acts begun k h.path i ties ends t.server
            (placed.calls, placed.keys)) (server_means acts k r.outs (vote_own k h.path i ties ends t.server))
            (served_so r.part (rows_vote acts begun k h.path i ties ends t.server (placed.calls, placed.keys)))
        by (ask.Prepare states) top = one (is_prepared (actor h.path) d.store)
          where
            new : (a : Prep) → By (prepare_by k states from h t a)
            new Ready = ((tt, (act, (tt, ((tt, tt), tt)))), placed)
            new (Already u) = tt
            new (Old u v) = ((tt, ((tt, tt), tt)), placed)
            new (InDoubt u holder) = ((tt, ((tt, tt), tt)), placed)

            one : (b : Bool) → By (cond b (sends_answer from h t [] (Some (Reply.Prepared prepared.Yes)))
                (prepare_by k states from h t (prepare_answer (actor h.path) states d.store)))
            one true = (((tt, tt), tt), placed)
            one false = new (prepare_answer (actor h.path) states d.store)
        by (ask.Confirm grants excluded included) top =
            with_it (λ o. served from h (with_naming t) Reply.Confirmed (confirm h.path grants excluded included d.names o)) t.naming refl
            (λ m is. let r = confirm h.path grants excluded included d.names m in
            answered h (with_naming t r.part) r.outs (option_map Reply.Confirmed r.reply) (no_vote (actor h.path) Reply.Confirmed
            (λ r. tt) r.reply) (confirm_means acts h.path grants excluded included d.names m (subst (IsBegun acts) top act))
            (named_so m r.part is (rows_confirm acts begun h.path path grants excluded included d.names m (its_rows m is))))

    coord_left : (r : Served Coord (Unit {0})) → All acts r.outs → AreSound r.part → By (coord_heard t r)
    coord_left r all sound = by r.reply
      where
        by : (o : Option (Unit {0})) → By (by_reply (with_coord t r.part) r.outs o)
        by None = tt
        by (Some u) = (all, other_coord k t r.part sound placed)

    ends_left : (ack : Bool) (ends : List (Uid × End)) (o : Option (Uid × End)) → By (handle_ends k d t from ack ends o)
    ends_left ack ends None = (tt, placed)
    ends_left ack ends (Some e) =
        let s = server.told k ends t.server in
        let ended = rows_ended acts begun k ends t.server (placed.calls, placed.keys) in
        let o = naming_told e.0 e.1 d.names t.naming in (
          both acts (store_told k e.0 e.1 d.store ++ o.outs ++ s.outs) (ack_told from e.0 ack) (both acts (store_told k e.0 e.1 d.store
              ++ o.outs) s.outs (both acts (store_told k e.0 e.1 d.store) o.outs (stored (is_prepared e.0 d.store) e.1) (names t.naming))
              (server_means acts k s.outs (ends_own k ends t.server))) (acked_told ack),
          record {
            naming = named t.naming ∙ placed.naming;
            calls = ended.0;
            keys = ended.1;
            entries = rows t.naming placed.entries;
            coord = placed.coord;
          },
        )
      where
        stored : (b : Bool) (how : End) → All acts (if b then end_states k e.0 how else [])
        stored false how = tt
        stored true ending.Commit = (tt, (tt, tt))
        stored true ending.Abort = (tt, (tt, tt))

        names : (o : Option Naming) → All acts (naming_told e.0 e.1 d.names o).outs
        names None = tt
        names (Some m) = told_means acts e.0 e.1 d.names m

        rows : (o : Option Naming) → AreNamesRows acts o → AreNamesRows acts (let r = naming_told e.0 e.1 d.names o in r.part)
        rows None its = tt
        rows (Some m) its = rows_told acts begun e.0 e.1 d.names m its

        acked_told : (b : Bool) → All acts (ack_told from e.0 b)
        acked_told true = ((tt, tt), tt)
        acked_told false = tt

        named : (o : Option Naming) → is_some (let r = naming_told e.0 e.1 d.names o in r.part) ≡ is_some o
        named None = refl
        named (Some m) = refl

    hello_so : (node inc : ℕ) (o : Option Naming) → is_some o ≡ (k == 1) → AreNamesRows acts o →
        (is_some (naming_hello node inc o) ≡ (k == 1)) × AreNamesRows acts (naming_hello node inc o)
    hello_so node inc None is its = (is, tt)
    hello_so node inc (Some m) is its = (is, rows_hello acts begun node inc m its)

    -- what the coordinator hears leaves it sound, and what it says is about actions that were begun
    module _ (m : Message) (hears : (a : Asked) (r : Reply) → answers m ≡ Some (a, r) →
        All acts (let q = heard from a r d.intents t.coord in q.outs) × AreSound (let q = heard from a r d.intents t.coord in q.part))
        (acks : (u : Uid) → All acts (let q = acked from u d.intents t.coord in q.outs)) (answers_it : (u : Uid) →
        All acts (answer_query from u d.intents t.coord)) where
      other : (m : Message) → By (handle_other k d t from m)
      other (message.Told m) = ends_left m.ack m.ends (last_end m.ends)
      other (message.Acked m) =
          coord_left (acked from m.act d.intents t.coord) (acks m.act) (sound_acked from m.act d.intents t.coord placed.coord)
      other (message.Query m) = (answers_it m.act, placed)
      other (message.Hello m) = let h = hello_so m.node m.inc t.naming placed.naming placed.entries in (
        queries_mean acts (filter (is_earlier m.node m.inc) (holders d t))
            (all_filter (IsBegun acts) (is_earlier m.node m.inc) (holders d t) (holders_in k d t begun mine placed)),
        record { naming = h.0; calls = placed.calls; keys = placed.keys; entries = h.1; coord = placed.coord },
      )
      other (message.Bind m) = tt
      other (message.Bound m) = tt
      other (message.Load m) = tt
      other (message.Loaded m) = tt
      other (message.Activate m) = tt
      other (message.Activated m) = tt
      other (message.RecordMsg m) = tt
      other (message.Recorded m) = tt
      other (message.Invoke m) = tt
      other (message.Invoked m) = tt
      other (message.Vote m) = tt
      other (message.Voted m) = tt
      other (message.Prepare m) = tt
      other (message.Prepared m) = tt
      other (message.Confirm m) = tt
      other (message.Confirmed m) = tt

      pub message_placed : FitsMessage acts m → ByTop (asks m) → By (handle k d t from m)
      message_placed fits top = by (asks m) fits top
        where
          answer : (o : Option (Asked × Reply)) → answers m ≡ o → By (handle_answer k d t from m o)
          answer None is = other m
          answer (Some a) is = let h = hears a.0 a.1 is in coord_left (heard from a.0 a.1 d.intents t.coord) h.0 h.1

          by : (o : Option (Head × Ask)) → FitsAsked acts m o → ByTop o → By (handle_ask k d t from m o)
          by None f top = answer (answers m) refl
          by (Some a) f top = asked a.0 a.1 (asker a.0 a.1 f) top

  -- ---- ticks and restarts

  pub tick_means : (k : ℕ) (d : Disk) (t : Parts) → AreBegun acts → Both d → IsPlacedUp acts k t →
      All acts (again_all t.coord.doings t.coord).outs → All acts (tick_outs (record { number = k; disk = d; live = Some t }) t)
  tick_means k d t begun b placed again = let r = again_all t.coord.doings t.coord in
      both acts (r.outs ++ tolds_again t.coord.telling) (map query_about (holders d t)) (both acts r.outs (tolds_again t.coord.telling)
      again (again_means acts t.coord.telling)) (queries_mean acts (holders d t) (holders_in k d t begun b placed))

  starts_placed : (k inc : ℕ) (d : Disk) → AreBegun acts → Both d → IsPlacedUp acts k (parts_in k inc d)
  starts_placed k inc d begun b =
      record { naming = (by (k == 1)).0; calls = tt; keys = tt; entries = (by (k == 1)).1; coord = sound_new k inc d.intents }
    where
      by : (c : Bool) → (is_some (if c then Some (recovered_naming inc d.names) else None) ≡ c)
          × AreNamesRows acts (if c then Some (recovered_naming inc d.names) else None)
      by true = (refl, rows_recovered acts begun inc d.names b.1)
      by false = (refl, tt)

  prepared_in : (d : Disk) → Both d → AllByRecursion (IsBegun acts) (uid_set (prepared_actions d.store ++ prepared_actions d.names))
  prepared_in d b =
      all_set (IsBegun acts) (prepared_actions d.store ++ prepared_actions d.names) (all_append (IsBegun acts) (prepared_actions d.store)
      (prepared_actions d.names) (all_keys (IsBegun acts) d.store.pend b.0) (all_keys (IsBegun acts) d.names.pend b.1))

  pub restart_placed : (hd : Header) (e k : ℕ) (d : Disk) (M : Seen) → AreBegun acts → ArePlaced acts (down k d M) →
      Walks (ArePlaced acts) e k (restart_outs hd k (d.inc + 1) d) (Up (ArePlaced acts) k (parts_in k (d.inc + 1) d)) d M
  restart_placed hd e k d M begun all = (
    looks,
    (
      rises,
      places_walk e k (parts_in k (d.inc + 1) d) (starts_placed k (d.inc + 1) d begun mine) ((((one ++ two) ++ tolds_again d.intents)
          ++ queries) ++ hellos) (record d { inc = d.inc + 1 }) M (others_of k d None M all) (λ p i. (all.asks p i, all.votes p i))
          all.lines mine since means,
    ),
  )
    where
      mine : Both d
      mine = let m = mine_of k d None M all in (m.store, m.names)

      since : next_inc M.start k ≤ d.inc + 1
      since = let m = mine_of k d None M all in m.since

      -- a stop before the incarnation is on the disk, or as it is put there
      stops : (c : Disk) → Both c → d.inc ≤ c.inc → ArePlaced acts (halted e k c M)
      stops c b low = down_all e k c M (others_of k d None M all) (λ p i. (all.asks p i, all.votes p i)) all.lines b (omega
          (arith, since, low))

      looks : (how : Stop) → ArePlaced acts (halted e k (stopped how Look d) M)
      looks Before = stops d mine (omega arith)
      looks After = stops d mine (omega arith)
      looks (InPart which) = stops d mine (omega arith)

      rises : (how : Stop) → ArePlaced acts (halted e k (stopped how (PutInc (d.inc + 1)) d) M)
      rises Before = stops d mine (omega arith)
      rises After = stops (record d { inc = d.inc + 1 }) mine (omega arith)
      rises (InPart which) = stops d mine (omega arith)

      one : List Effect
      one = Say (body.Up k (d.inc + 1)) ∷ Do Look ∷ naming_back (naming_at k (d.inc + 1) d.names)

      two : List Effect
      two = Do Look ∷ recovered_records k d.intents

      queries : List Effect
      queries = map query_about (uid_set (prepared_actions d.store ++ prepared_actions d.names))

      hellos : List Effect
      hellos = map (hello_to k (d.inc + 1)) (without_number k (numbers_to hd.nodes))

      means : All acts ((((one ++ two) ++ tolds_again d.intents) ++ queries) ++ hellos)
      means = both acts (one ++ two ++ tolds_again d.intents ++ queries) hellos
          (both acts (one ++ two ++ tolds_again d.intents) queries (both acts (one ++ two) (tolds_again d.intents) (both acts one two
          (tt, (tt, back_means acts (naming_at k (d.inc + 1) d.names))) (tt, recovered_means acts k d.intents))
          (again_means acts d.intents))
          (queries_mean acts (uid_set (prepared_actions d.store ++ prepared_actions d.names)) (prepared_in d mine)))
          (hellos_mean acts k (d.inc + 1) (without_number k (numbers_to hd.nodes)))

  -- ---- what follows

  have_begun : (M : Seen) → Lines M → (us : List Uid) → AllByRecursion (IsBegun acts) us →
      AllByRecursion (λ u. was_begun u M.lines ≡ true) us
  have_begun M each us =
      all_each (IsBegun acts) (λ u. was_begun u M.lines ≡ true) us (λ u b. ap (λ w. was_begun w M.lines) (sym b.2) ∙ each b.0 b.1)

  -- who has something prepared has begun, by the lines; and so has each holder
  pub prepared_begun : (k : ℕ) (d : Disk) (live : Option Parts) (M : Seen) → ArePlaced acts (at k d live M) →
      AllByRecursion (λ u. was_begun u M.lines ≡ true) (uid_set (prepared_actions d.store ++ prepared_actions d.names))
  prepared_begun k d live M all = let m = mine_of k d live M all in
      have_begun M all.lines (uid_set (prepared_actions d.store ++ prepared_actions d.names)) (prepared_in d (m.store, m.names))

  module _ (begun : AreBegun acts) (k : ℕ) (d : Disk) (t : Parts) (M : Seen) (all : ArePlaced acts (up k d t M)) where
    pub both_here : Both d
    both_here = let m = mine_of k d (Some t) M all in (m.store, m.names)

    pub up_here : IsPlacedUp acts k t
    up_here = let m = mine_of k d (Some t) M all in m.live t refl

    pub since_here : next_inc M.start k ≤ d.inc
    since_here = let m = mine_of k d (Some t) M all in m.since

    pub holders_begun : AllByRecursion (λ u. was_begun u M.lines ≡ true) (holders d t)
    holders_begun = have_begun M all.lines (holders d t) (holders_in k d t begun both_here up_here)

-- ---- an action begins

rows_more : (a : Action) (acts : List Action) (o : Option Naming) → AreNamesRows acts o → AreNamesRows (a ∷ acts) o
rows_more a acts None its = tt
rows_more a acts (Some n) its =
    all_each (λ (e : ℕ × Named). (r : Row) → Contains (let o = e.1 in o.rows) r → IsEntryRow acts r) (λ (e : ℕ × Named). (r : Row) →
    Contains (let o = e.1 in o.rows) r → IsEntryRow (a ∷ acts) r) n.objects (λ e each r c. path_more a acts r.holder r.tops (each r c)) its

up_more : (a : Action) (acts : List Action) (k : ℕ) (t : Parts) → IsPlacedUp acts k t → IsPlacedUp (a ∷ acts) k t
up_more a acts k t p = record {
  naming = p.naming;
  calls = all_each (λ (e : ℕ × Copy). (r : Row) → Contains (let c = e.1 in c.rows) r → IsCallRow acts r) (λ (e : ℕ × Copy). (r : Row) →
      Contains (let c = e.1 in c.rows) r → IsCallRow (a ∷ acts) r) (let s = t.server in
      s.objects) (λ e each r c. call_more a acts r (each r c)) p.calls;
  keys = p.keys;
  entries = rows_more a acts t.naming p.entries;
  coord = p.coord;
}

about_more : (a : Action) (acts : List Action) (to : ℕ) (o : Option Uid) → IsAboutBegun acts to o → IsAboutBegun (a ∷ acts) to o
about_more a acts to None its = tt
about_more a acts to (Some u) its = (its.0, begun_more a acts u its.1)

pub begin_placed : (a : Action) (acts : List Action) (e k : ℕ) (d : Disk) (t : Parts) (c : Coord) (l : Label) (how : Kind)
    (parent : Option Label) (u : Uid) (M : Seen) → act_of a ≡ u → AreSound c → ArePlaced acts (up k d t M)
    → Walks (ArePlaced (a ∷ acts)) e k (Say (began_line l how u parent) ∷ []) (Up (ArePlaced (a ∷ acts)) k (with_coord t c)) d M
begin_placed a acts e k d t c l how parent u M same sound all = record {
  nodes = all_nodes (a ∷ acts) k d (Some (with_coord t c)) M (λ j n off is. more j n (others_of acts k d (Some t) M all j n off is))
      (let m = more k (record { number = k; disk = d; live = Some t }) (mine_of acts k d (Some t) M all) in
      record {
        store = m.store;
        names = m.names;
        since = m.since;
        live = λ v is. let it : with_coord t c ≡ v = some_is refl is in
            subst (IsPlacedUp (a ∷ acts) k) it (other_coord (a ∷ acts) k t c sound (m.live t refl));
      });
  asks = λ p i. about_more a acts p.to (asked_about p.message) (all.asks p i);
  votes = all.votes;
  lines = λ b i. ⊎_elim (λ new. new_line b new)
      (λ old. lines_more acts M (numbered e (began_line l how u parent ∷ [])) all.lines b (in_to b acts old)) (in_from b (a ∷ acts) i);
}
  where
    more : (j : ℕ) (n : Node) → IsPlaced M.start acts j n → IsPlaced M.start (a ∷ acts) j n
    more j n m = record {
      store = all_each (λ (e : Uid × List ObjectState). IsBegun acts e.0) (λ (e : Uid × List ObjectState). IsBegun (a ∷ acts) e.0)
          (let x = n.disk in x.store.pend) (λ e b. begun_more a acts e.0 b) m.store;
      names = all_each (λ (e : Uid × List ObjectState). IsBegun acts e.0) (λ (e : Uid × List ObjectState). IsBegun (a ∷ acts) e.0)
          (let x = n.disk in x.names.pend) (λ e b. begun_more a acts e.0 b) m.names;
      since = m.since;
      live = λ v is. up_more a acts j v (m.live v is);
    }

    begins_it : begins u (began_line l how u parent) ≡ true
    begins_it = uid_same u

    new_line : (b : Action) → a ≡ b → was_begun (act_of b) (M.lines ++ numbered e (began_line l how u parent ∷ [])) ≡ true
    new_line b new = ap (λ (z : Action). was_begun (act_of z) (M.lines ++ numbered e (began_line l how u parent ∷ []))) (sym new)
        ∙ ap (λ w. was_begun w (M.lines ++ numbered e (began_line l how u parent ∷ []))) same
        ∙ list_any-append (λ (q : Line). begins u q.body) M.lines (numbered e (began_line l how u parent ∷ []))
        ∙ or_right (was_begun u M.lines) (was_begun u (numbered e (began_line l how u parent ∷ [])))
        (or_left (begins u (began_line l how u parent)) false begins_it)

-- ---- at first

module _ (hd : Header) (st : Start) where
  first_placed : (k : ℕ) → IsPlaced st [] k (node_by hd st k)
  first_placed k = record {
    store = tt;
    names = tt;
    since = since (st.up k);
    live = λ t is. subst (IsPlacedUp [] k) (live_first hd st k t is) (starts_placed [] k (st.incs k + 1) (disk_by hd st k) tt (tt, tt));
  }
    where
      since : (b : Bool) → IsSince (if b then st.incs k + 1 else st.incs k + 2) (st.incs k + 1)
          (if b then Some (parts_in k (st.incs k + 1) (disk_by hd st k)) else None)
      since true = omega arith
      since false = omega arith

pub starts_are_placed : (hd : Header) → IsAtStarts hd (ArePlaced [])
starts_are_placed hd st formed = record {
  nodes = λ k n is. subst (IsPlaced st [] k) (first_at hd st k n is) (first_placed hd st k);
  asks = λ p none. absurd none;
  votes = λ p none. absurd none;
  lines = λ a c. absurd (in_from a [] c);
}
