-- Records on disks, and what is told again of them, under each handler.
use Rattle.arj_law_parts.proofs.Words
use Words.{if◌then◌else◌, Start, node_by, ◌≡◌, ℕ, ◌+◌, ◌==◌, List, [], ◌∷◌, ◌++◌, Bool, true, false, cond, Option, Some, None, refl, sym}
use Words.{◌∙◌, ap, subst, inr, ⊎_elim}
use Words.{append-nil, filter, map, ⊤, option_map, flat_map, in_from, in_to, Uid, End, Head, Header, Asked, Ask, Message}
use Words.{ObjectState, Row, asks, last_uid, object, Reply, actor, answers, asked_by, last_end, response, again_all, heard, back_lines}
use Words.{confirm, Coord, Disk, Effect, Say, Send, Do, Work, Look, PutInc, Prepare, Commit, Abort, PutIntent, RemoveIntent, Stop, Before}
use Words.{After, InPart, Intent, Served, Prep, Ready, Already, Old, InDoubt, held_at, holder_of, is_prepared, prepare_answer, in_part}
use Words.{stopped, worked, acked, tick_outs, Named, Naming, Parts, Handled, Void, Took, ack_told, by_reply, coord_heard, end_states}
use Words.{handle, handle_answer, handle_ask, handle_ends, handle_other, holders, if_naming, is_earlier, load_by, load_held, naming_told}
use Words.{prepare_by, prepared_actions, query_about, sends_answer, serve, store_told, with_coord, with_naming, with_server, uid_set}
use Words.{without_number, Node, hello_to, naming_at, naming_back, numbers_to, parts_in, recovered_records}
use Words.{restart_outs, tolds_again, activate_own, bind_own, confirm_own, ends_own, invoke_own, note_own, told_own, vote_own, Seen}
use Words.ask
use Words.body
use Words.ending
use Words.loaded
use Words.message
use Words.prepared
use Words.role
use Words.naming
use Words.server
use Rattle.arj_law_disk_view.proofs.Terms
use Terms.{IsAtStarts, first_at, live_first, Action, at, down, up, said, posted, Walks, Up, halted, AreSorted, AreRecorded, HaveRecords}
use Terms.{IsRooted, LeavesRecords}
use Rattle.arj_law_disk_view.proofs.running
use running.Plain.{Plain, leaves_behind, plain_again, plain_both, plain_naming, plain_query, plain_server}
use running.Telling.{Keeps, again_plain, again_telling, same_kept}
use Rattle.arj_law_disk_view.proofs.view.Frames.{node_here}
use Rattle.arj_law_disk_view.specs.running.Records.{AreRooted, IsRecorded, WritesRooted, recorded}
use Rattle.arj_law_disk_view.proofs.view.Keys as keys

-- ---- one work

rooted_more : (a : Action) (acts : List Action) (u : Uid) (i : Intent) → IsRooted acts u i → IsRooted (a ∷ acts) u i
rooted_more a acts u i r = (r.0, in_to r.0 (a ∷ acts) (inr (in_from r.0 acts r.1)), r.2, r.3)

pub recorded_more : (a : Action) (acts : List Action) (M : Seen) → AreRecorded acts M → AreRecorded (a ∷ acts) M
recorded_more a acts M r k n is = let x = r k n is in let d = x.disk in record {
  disk = record { sorted = d.sorted; each = λ u i at. rooted_more a acts u i (d.each u i at); listed = d.listed };
  live = x.live;
}

module _ (acts : List Action) where
  rooted_worked : (w : Work) (d : Disk) → WritesRooted acts (Do w) → AreRooted acts d.intents → AreRooted acts (worked w d).intents
  rooted_worked Look d its r = r
  rooted_worked (PutInc i) d its r = r
  rooted_worked (Prepare role.Store u states) d its r = r
  rooted_worked (Prepare role.Names u states) d its r = r
  rooted_worked (Commit role.Store u) d its r = r
  rooted_worked (Commit role.Names u) d its r = r
  rooted_worked (Abort role.Store u) d its r = r
  rooted_worked (Abort role.Names u) d its r = r
  rooted_worked (PutIntent u i) d its r = record {
    sorted = keys.sorted_put u i d.intents r.sorted;
    each = λ w j is. ⊎_elim (λ same. subst (λ z. IsRooted acts z j) (sym same.0) (subst (IsRooted acts u) same.1 its.0))
        (λ other. r.each w j other.1) (keys.put_cases w u i j d.intents is);
    listed = λ w j is. ⊎_elim (λ same none. its.1 (ap (λ (x : Intent). x.nodes) same.1 ∙ none)) (λ other. r.listed w j other.1)
        (keys.put_cases w u i j d.intents is);
  }
  rooted_worked (RemoveIntent u) d its r = record {
    sorted = keys.sorted_without u d.intents r.sorted;
    each = λ w j is. r.each w j (keys.without_cases w u j d.intents r.sorted is).1;
    listed = λ w j is. r.listed w j (keys.without_cases w u j d.intents r.sorted is).1;
  }

  rooted_part : (which : Uid → Bool) (w : Work) (d : Disk) → AreRooted acts d.intents → AreRooted acts (in_part which w d).intents
  rooted_part which Look d r = r
  rooted_part which (PutInc i) d r = r
  rooted_part which (Prepare role u states) d r = r
  rooted_part which (Commit role.Store u) d r = r
  rooted_part which (Commit role.Names u) d r = r
  rooted_part which (Abort role u) d r = r
  rooted_part which (PutIntent u i) d r = r
  rooted_part which (RemoveIntent u) d r = r

  rooted_stopped : (how : Stop) (w : Work) (d : Disk) → WritesRooted acts (Do w) → AreRooted acts d.intents →
      AreRooted acts (stopped how w d).intents
  rooted_stopped Before w d its r = r
  rooted_stopped After w d its r = rooted_worked w d its r
  rooted_stopped (InPart which) w d its r = rooted_part which w d r

  worked_is : (w : Work) (d : Disk) → recorded (Do w) d.intents ≡ (worked w d).intents
  worked_is Look d = refl
  worked_is (PutInc i) d = refl
  worked_is (Prepare role.Store u states) d = refl
  worked_is (Prepare role.Names u states) d = refl
  worked_is (Commit role.Store u) d = refl
  worked_is (Commit role.Names u) d = refl
  worked_is (Abort role.Store u) d = refl
  worked_is (Abort role.Names u) d = refl
  worked_is (PutIntent u i) d = refl
  worked_is (RemoveIntent u) d = refl

  -- ---- all nodes

  abbrev Others : ℕ → Seen → Type 0
  Others k M = (j : ℕ) (n : Node) → (j == k) ≡ false → M.nodes j ≡ Some n → IsRecorded acts n

  -- all nodes with this one
  all_nodes : (k : ℕ) (d : Disk) (live : Option Parts) (M : Seen) → Others k M →
      IsRecorded acts (record { number = k; disk = d; live = live }) → AreRecorded acts (at k d live M)
  all_nodes k d live M others mine j n is = by (j == k) refl is
    where
      by : (b : Bool) → (j == k) ≡ b → (if b then Some (record { number = k; disk = d; live = live }) else M.nodes j) ≡ Some n →
          IsRecorded acts n
      by true e h = let same : record { number = k; disk = d; live = live } ≡ n = cc h in subst (λ (x : Node). IsRecorded acts x) same mine
      by false e h = others j n e h

  others_of : (k : ℕ) (d : Disk) (live : Option Parts) (M : Seen) → AreRecorded acts (at k d live M) → Others k M
  others_of k d live M all j n off is =
      all j n (ap (λ b. if b then Some (record { number = k; disk = d; live = live }) else M.nodes j) off ∙ is)

  mine_of : (k : ℕ) (d : Disk) (live : Option Parts) (M : Seen) → AreRecorded acts (at k d live M) →
      IsRecorded acts (record { number = k; disk = d; live = live })
  mine_of k d live M all =
      all k (record { number = k; disk = d; live = live }) (node_here M k (record { number = k; disk = d; live = live }))

  down_one : (k : ℕ) (d : Disk) → AreRooted acts d.intents → IsRecorded acts (record { number = k; disk = d; live = None })
  down_one k d r = record { disk = r; live = λ t is. absurd (cc is) }

  pub stop_recorded : (e k : ℕ) (d : Disk) (live : Option Parts) (M : Seen) → AreRecorded acts (at k d live M) →
      AreRecorded acts (halted e k d M)
  stop_recorded e k d live M all = all_nodes k d None M (others_of k d live M all) (down_one k d (let m = mine_of k d live M all in m.disk))

  -- ---- walked through

  records_walk : (e k : ℕ) (v : Parts) → AreSorted v.coord.telling → (es : List Effect) (d : Disk) (M : Seen) → Others k M → AreRooted acts
      d.intents → LeavesRecords acts v.coord.telling es d.intents → Walks (AreRecorded acts) e k es (Up (AreRecorded acts) k v) d M
  records_walk e k v sorted [] d M others rooted leaves = all_nodes k d (Some v) M others (record {
    disk = rooted;
    live = λ t is. let same : v ≡ t = cc is in
        subst (λ (q : Parts). HaveRecords d.intents q.coord.telling × AreSorted q.coord.telling) same (leaves, sorted);
  })
  records_walk e k v sorted (Do w ∷ es) d M others rooted leaves = (
    λ how. all_nodes k (stopped how w d) None M others (down_one k (stopped how w d) (rooted_stopped how w d leaves.0 rooted)),
    records_walk e k v sorted es (worked w d) M others (rooted_worked w d leaves.0 rooted)
        (subst (λ is. LeavesRecords acts v.coord.telling es is) (worked_is w d) leaves.1),
  )
  records_walk e k v sorted (Say b ∷ es) d M others rooted leaves =
      records_walk e k v sorted es d (said e (b ∷ []) M) others rooted leaves.1
  records_walk e k v sorted (Send to m ∷ es) d M others rooted leaves = λ more quiet.
      records_walk e k v sorted es d (said e more (posted (record { from = k; to = to; message = m }) M)) others rooted leaves.1

  -- a handler's effects
  pub kept_walk : (e k : ℕ) (d : Disk) (t v : Parts) (outs : List Effect) (M : Seen) → Keeps acts t.coord v.coord outs →
      AreRecorded acts (up k d t M) → Walks (AreRecorded acts) e k outs (Up (AreRecorded acts) k v) d M
  kept_walk e k d t v outs M keeps all =
      let m = mine_of k d (Some t) M all in
      let l = m.live t refl in
      let r = keeps l.1 d.intents (let q = m.disk in q.sorted) l.0 in
      records_walk e k v r.0 outs d M (others_of k d (Some t) M all) m.disk r.1

  -- ---- messages

  -- what a handler leaves
  abbrev pub KeptBy : Coord → Handled → Type 0
  KeptBy c (Void outs) = ⊤
  KeptBy c (Took v outs) = Keeps acts c v.coord outs

  module _ (k : ℕ) (d : Disk) (t : Parts) (from : ℕ) (hears : (a : Asked) (r : Reply) → let h = heard from a r d.intents t.coord in Keeps
      acts t.coord h.part h.outs) (acks : (u : Uid) → let h = acked from u d.intents t.coord in Keeps acts t.coord h.part h.outs) where
    plainly : (v : Parts) (outs : List Effect) → v.coord ≡ t.coord → Plain outs → Keeps acts t.coord v.coord outs
    plainly v outs same plain = same_kept acts t.coord v.coord outs (ap (λ (c : Coord). c.telling) same) plain

    answered : (h : Head) (v : Parts) (outs : List Effect) (o : Option Reply) → v.coord ≡ t.coord → Plain outs →
        KeptBy t.coord (sends_answer from h v outs o)
    answered h v outs None same plain = tt
    answered h v outs (Some r) same plain = plainly v (outs ++ Send from (response (asked_by h) r) ∷ []) same
        (plain_both outs (Send from (response (asked_by h) r) ∷ []) plain refl)

    named : (f : Naming → Handled) (o : Option Naming) → ((m : Naming) → KeptBy t.coord (f m)) → KeptBy t.coord (if_naming f o)
    named f None each = tt
    named f (Some m) each = each m

    asked : (h : Head) (a : Ask) → KeptBy t.coord (serve k d t from h a)
    asked h (ask.Bind x include avoid) =
        named _ t.naming (λ m. let r = naming.bind h.path x include avoid d.names m in answered h (with_naming t r.part) r.outs
        (option_map Reply.Bound r.reply) refl (plain_naming r.outs (bind_own h.path x include avoid d.names m)))
    asked h (ask.Load x) = load (holder_of (object x) d.store)
      where
        held : (s : Option ObjectState) → KeptBy t.coord (load_held from h t s)
        held None = tt
        held (Some s) = plainly t (Do Look ∷ Send from (response (asked_by h) (Reply.Loaded (loaded.State s))) ∷ []) refl refl

        load : (o : Option Uid) → KeptBy t.coord (load_by x d.store from h t o)
        load (Some u) = plainly t (Send from (response (asked_by h) (Reply.Loaded (loaded.InDoubt u))) ∷ []) refl refl
        load None = held (held_at (object x) d.store)
    asked h (ask.Activate b st) = let r = server.activate k h.path b st t.server in answered h (with_server t r.part) r.outs
        (option_map Reply.Activated r.reply) refl (plain_server k r.outs (activate_own k h.path b st t.server))
    asked h (ask.Record x b i g) = named _ t.naming (λ m. let r = naming.note h.path x b i g m in
        answered h (with_naming t r.part) r.outs (option_map Reply.Noted r.reply) refl (plain_naming r.outs (note_own h.path x b i g m)))
    asked h (ask.Invoke x b i ends o) = let r = server.invoke k h x b i ends o t.server in answered h (with_server t r.part) r.outs
        (option_map Reply.Invoked r.reply) refl (plain_server k r.outs (invoke_own k h x b i ends o t.server))
    asked h (ask.Vote i ties ends) = let r = server.vote k h.path i ties ends t.server in answered h (with_server t r.part) r.outs
        (option_map Reply.Voted r.reply) refl (plain_server k r.outs (vote_own k h.path i ties ends t.server))
    asked h (ask.Prepare states) = by (is_prepared (actor h.path) d.store)
      where
        new : (a : Prep) → KeptBy t.coord (prepare_by k states from h t a)
        new Ready = plainly t (Do Look ∷ Do (Prepare role.Store (actor h.path) states) ∷ Say (body.Prepared k (actor h.path) role.Store)
            ∷ Send from (response (asked_by h) (Reply.Prepared prepared.Yes)) ∷ []) refl refl
        new (Already u) = tt
        new (Old u v) = plainly t (Do Look ∷ Send from (response (asked_by h) (Reply.Prepared (prepared.Old u.num v))) ∷ []) refl refl
        new (InDoubt u holder) =
            plainly t (Do Look ∷ Send from (response (asked_by h) (Reply.Prepared (prepared.InDoubt u.num holder))) ∷ []) refl refl

        by : (b : Bool) → KeptBy t.coord (cond b (sends_answer from h t [] (Some (Reply.Prepared prepared.Yes)))
            (prepare_by k states from h t (prepare_answer (actor h.path) states d.store)))
        by true = plainly t (Send from (response (asked_by h) (Reply.Prepared prepared.Yes)) ∷ []) refl refl
        by false = new (prepare_answer (actor h.path) states d.store)
    asked h (ask.Confirm grants excluded included) =
        named _ t.naming (λ m. let r = confirm h.path grants excluded included d.names m in answered h (with_naming t r.part) r.outs
        (option_map Reply.Confirmed r.reply) refl (plain_naming r.outs (confirm_own h.path grants excluded included d.names m)))

    coord_left : (r : Served Coord (Unit {0})) → Keeps acts t.coord r.part r.outs → KeptBy t.coord (coord_heard t r)
    coord_left r so = by r.reply
      where
        by : (o : Option (Unit {0})) → KeptBy t.coord (by_reply (with_coord t r.part) r.outs o)
        by None = tt
        by (Some u) = so

    ends_left : (ack : Bool) (ends : List (Uid × End)) (o : Option (Uid × End)) → KeptBy t.coord (handle_ends k d t from ack ends o)
    ends_left ack ends None = plainly t [] refl refl
    ends_left ack ends (Some e) =
        let s = server.told k ends t.server in
        let o = naming_told e.0 e.1 d.names t.naming in
        plainly (record { server = s.part; naming = o.part; coord = t.coord })
        (store_told k e.0 e.1 d.store ++ o.outs ++ s.outs ++ ack_told from e.0 ack) refl
        (plain_both (store_told k e.0 e.1 d.store ++ o.outs ++ s.outs) (ack_told from e.0 ack)
        (plain_both (store_told k e.0 e.1 d.store ++ o.outs) s.outs (plain_both (store_told k e.0 e.1 d.store) o.outs
        (stored (is_prepared e.0 d.store) e.1) (names t.naming)) (plain_server k s.outs (ends_own k ends t.server))) (acked_told ack))
      where
        stored : (b : Bool) (how : End) → Plain (if b then end_states k e.0 how else [])
        stored false how = refl
        stored true ending.Commit = refl
        stored true ending.Abort = refl

        names : (o : Option Naming) → Plain (naming_told e.0 e.1 d.names o).outs
        names None = refl
        names (Some m) = plain_naming (naming.told e.0 e.1 d.names m).outs (told_own e.0 e.1 d.names m)

        acked_told : (b : Bool) → Plain (ack_told from e.0 b)
        acked_told true = refl
        acked_told false = refl

    queries_plain : (us : List Uid) → Plain (map query_about us)
    queries_plain [] = refl
    queries_plain (u ∷ us) = queries_plain us

    other : (m : Message) → KeptBy t.coord (handle_other k d t from m)
    other (message.Told m) = ends_left m.ack m.ends (last_end m.ends)
    other (message.Acked m) = coord_left (acked from m.act d.intents t.coord) (acks m.act)
    other (message.Query m) = plainly t _ refl (plain_query from m.act d.intents t.coord)
    other (message.Hello m) = same_kept acts t.coord t.coord (map query_about (filter (is_earlier m.node m.inc) (holders d t))) refl
        (queries_plain (filter (is_earlier m.node m.inc) (holders d t)))
    other (message.Bind m) = tt
    other (message.Bound m) = tt
    other (message.Load m) = tt
    other (message.Loaded m) = tt
    other (message.Activate m) = tt
    other (message.Activated m) = tt
    other (message.RecordMsg m) = tt
    other (message.Recorded m) = tt
    other (message.Invoke m) = tt
    other (message.Invoked m) = tt
    other (message.Vote m) = tt
    other (message.Voted m) = tt
    other (message.Prepare m) = tt
    other (message.Prepared m) = tt
    other (message.Confirm m) = tt
    other (message.Confirmed m) = tt

    pub message_kept : (m : Message) → KeptBy t.coord (handle k d t from m)
    message_kept m = by (asks m)
      where
        answer : (o : Option (Asked × Reply)) → KeptBy t.coord (handle_answer k d t from m o)
        answer None = other m
        answer (Some a) = coord_left (heard from a.0 a.1 d.intents t.coord) (hears a.0 a.1)

        by : (o : Option (Head × Ask)) → KeptBy t.coord (handle_ask k d t from m o)
        by None = answer (answers m)
        by (Some a) = asked a.0 a.1

  -- ---- ticks and restarts

  asks_about : (us : List Uid) → Plain (map query_about us)
  asks_about [] = refl
  asks_about (u ∷ us) = asks_about us

  pub tick_kept : (k : ℕ) (d : Disk) (t : Parts) → let r = again_all t.coord.doings t.coord in
      Keeps acts t.coord r.part (tick_outs (record { number = k; disk = d; live = Some t }) t)
  tick_kept k d t = let r = again_all t.coord.doings t.coord in
      same_kept acts t.coord r.part (r.outs ++ tolds_again t.coord.telling ++ map query_about (holders d t))
      (again_telling acts t.coord.doings t.coord)
      (plain_both (r.outs ++ tolds_again t.coord.telling) (map query_about (holders d t)) (plain_both r.outs (tolds_again t.coord.telling)
      (again_plain acts t.coord.doings t.coord) (plain_again t.coord.telling)) (asks_about (holders d t)))

  recovered_plain : (k : ℕ) (intents : List (Uid × Intent)) → Plain (recovered_records k intents)
  recovered_plain k [] = refl
  recovered_plain k (e ∷ es) = recovered_plain k es

  hellos_plain : (k inc : ℕ) (ns : List ℕ) → Plain (map (hello_to k inc) ns)
  hellos_plain k inc [] = refl
  hellos_plain k inc (n ∷ ns) = hellos_plain k inc ns

  back_plain : (o : Option Naming) → Plain (naming_back o)
  back_plain None = refl
  back_plain (Some o) = all o.objects
    where
      rows : (rs : List Row) → Plain (map (λ (r : Row). Say (body.Granted 1 (last_uid r.holder) r.object r.mode)) rs)
      rows [] = refl
      rows (r ∷ rs) = rows rs

      all : (es : List (ℕ × Named)) → Plain (flat_map (λ (e : ℕ × Named). back_lines e.1) es)
      all [] = refl
      all (e ∷ es) = plain_both (back_lines e.1) (flat_map (λ (z : ℕ × Named). back_lines z.1) es) (rows (let o = e.1 in o.rows)) (all es)

  -- a restart leaves the records as they are
  pub restart_plain : (hd : Header) (k : ℕ) (d : Disk) → Plain (restart_outs hd k (d.inc + 1) d)
  restart_plain hd k d = plain_both (one ++ two ++ tolds_again d.intents ++ queries) hellos
      (plain_both (one ++ two ++ tolds_again d.intents) queries (plain_both (one ++ two) (tolds_again d.intents)
      (plain_both one two (back_plain (naming_at k (d.inc + 1) d.names)) (recovered_plain k d.intents)) (plain_again d.intents))
      (asks_about (uid_set (prepared_actions d.store ++ prepared_actions d.names))))
      (hellos_plain k (d.inc + 1) (without_number k (numbers_to hd.nodes)))
    where
      one : List Effect
      one = Do Look ∷ Do (PutInc (d.inc + 1)) ∷ Say (body.Up k (d.inc + 1)) ∷ Do Look ∷ naming_back (naming_at k (d.inc + 1) d.names)

      two : List Effect
      two = Do Look ∷ recovered_records k d.intents

      queries : List Effect
      queries = map query_about (uid_set (prepared_actions d.store ++ prepared_actions d.names))

      hellos : List Effect
      hellos = map (hello_to k (d.inc + 1)) (without_number k (numbers_to hd.nodes))

  -- after a restart each record is told again
  pub restart_recorded : (hd : Header) (e k : ℕ) (d : Disk) (M : Seen) → AreRecorded acts (down k d M) →
      Walks (AreRecorded acts) e k (restart_outs hd k (d.inc + 1) d) (Up (AreRecorded acts) k (parts_in k (d.inc + 1) d)) d M
  restart_recorded hd e k d M all =
      let m = mine_of k d None M all in
      let r = m.disk in
      records_walk e k (parts_in k (d.inc + 1) d) r.sorted (restart_outs hd k (d.inc + 1) d) d M (others_of k d None M all) r
      (subst (λ es. LeavesRecords acts d.intents es d.intents) (append-nil (restart_outs hd k (d.inc + 1) d))
      (leaves_behind acts d.intents (restart_outs hd k (d.inc + 1) d) [] d.intents (restart_plain hd k d)
      (record { told = λ u j is. (j, is); again = λ u j is. (j, is); awaited = r.listed })))

first_recorded : (hd : Header) (st : Start) (k : ℕ) → IsRecorded [] (node_by hd st k)
first_recorded hd st k = record {
  disk = record { sorted = tt; each = λ u i is. absurd (cc is); listed = λ u i is. absurd (cc is) };
  live = λ t is. subst (λ (q : Parts). HaveRecords [] q.coord.telling × AreSorted q.coord.telling) (live_first hd st k t is)
      (record { told = λ u j at. absurd (cc at); again = λ u j at. absurd (cc at); awaited = λ u j at. absurd (cc at) }, tt);
}

pub starts_are_recorded : (hd : Header) → IsAtStarts hd (AreRecorded [])
starts_are_recorded hd st formed k n is = subst (IsRecorded []) (first_at hd st k n is) (first_recorded hd st k)
