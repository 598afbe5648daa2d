-- Entries at naming in each run: each handler keeps them, and a run's beginning and a restart find them so.
use Rattle.arj_law_parts.proofs.Words
use Words.{if◌then◌else◌, Start, ◌≡◌, ◌≢◌, ℕ, ◌+◌, ◌==◌, List, [], ◌∷◌, ◌++◌, Bool, true, false, cond, filter, map, Option, Some, None}
use Words.{refl, sym, ◌∙◌, ap, subst}
use Words.{inl, inr, eqb-true, ⊤, is_some, option_map, flat_map, In, in_from, Uid, Ask, Asked, End, Head, Header, Message}
use Words.{ObjectLine, ObjectState, Row, asks, entry, is_on, last_uid, object, Reply, actor, answers, asked_by, last_end, response}
use Words.{again_all, begin_action, heard, back_lines, confirm, recovered_naming, Coord, did_nothing, Disk, Effect, Say, Send, Do, Look}
use Words.{Pair, Prep, Ready, Already, Old, InDoubt, Prepare, PutInc, Served, Intent, held_at, holder_of, is_prepared, prepare_answer}
use Words.{acked, answer_query, tick_outs, Named, end_named, hello_named, Naming, taken_end, told_new, Parts, Handled, Void, Took, ack_told}
use Words.{by_reply, coord_heard, end_states, handle, handle_answer, handle_ask, handle_ends, handle_other, holders, if_naming, is_earlier}
use Words.{load_by, load_held, naming_hello, naming_told, prepare_by, prepared_actions, query_about, sends_answer, serve, served}
use Words.{store_told, with_coord, with_naming, with_server, at_number, at_uid, each, put_uid, uid_set, without_number, AreAll}
use Words.{is_coord_effect, Node, hello_to, naming_at, naming_back, numbers_to, parts_in, put_states, recovered_records}
use Words.{restart_outs, tolds_again, acts, parent_of, acked_own, acts_own, again_own, heard_own}
use Words.{query_own, tolds_again_own, activate_own, ends_own, invoke_own, vote_own, Seen, is_serial}
use Words.ask
use Words.body
use Words.ending
use Words.loaded
use Words.message
use Words.prepared
use Words.role
use Words.naming
use Words.server
use Rattle.arj_law_disk_view.proofs.Terms
use Terms.{IsAtStarts, disk_by, entry_by, first_at, live_first, moved, moved_names, never_some, Keeps, down, given, up, Walks, Up}
use Terms.{HasEntries, HaveEntries, IsEntryNode, IsInStep}
use Terms.{KnowsEntries}
use Rattle.arj_law_disk_view.proofs.names.{EndActs.drop_stays, RestartActs.found_there, RestartActs.is_on_pend, RestartActs.prepared_in}
use Rattle.arj_law_disk_view.proofs.names.EntriesLeft.{Whole_outs, left_both, left_was, names_left, outs_gone, outs_none}
use Rattle.arj_law_disk_view.proofs.running
use running.EntryWalks.{LeftBy, Leaves, Stays, all_prepare, bind_stays, confirm_leaves, coord_leaves, each_stays, entries_walk, leaves_both}
use running.EntryWalks.{leaves_prepare, left_alone, left_same, mine_of, none_prepare, note_stays, others_of, queries_leave, quiet_walk}
use running.EntryWalks.{says_leave, server_leaves, stays_known, stop_entries}
use Rattle.arj_law_disk_view.proofs.view.{HeardWalks.is_say, ServedWalks.bind_says, ServedWalks.note_says}

module _ (x : ℕ) where
  -- ---- messages at the naming node

  -- what the handler leaves
  abbrev LeftIn : Pair → Handled → Type 0
  LeftIn p (Void outs) = ⊤
  LeftIn p (Took v outs) = LeftBy x outs v p

  module _ (d : Disk) (t : Parts) (from : ℕ) (has : HasEntries x d.names) (knows : KnowsEntries x t.naming d.names) where
    abbrev By : Handled → Type 0
    By h = LeftIn d.names h

    plain : (v : Parts) (outs : List Effect) → v.naming ≡ t.naming → Leaves outs → By (Took v outs)
    plain v outs same all = left_alone x outs v t d.names all same knows

    -- an answer goes out behind these effects
    answered : (h : Head) (v : Parts) (outs : List Effect) (o : Option Reply) → LeftBy x outs v d.names → By (sends_answer from h v outs o)
    answered h v outs None left = tt
    answered h v outs (Some r) left = (
      all_prepare outs (Send from (response (asked_by h) r) ∷ []) left.0 (tt, tt),
      subst (KnowsEntries x v.naming) (sym (left_both outs (Send from (response (asked_by h) r) ∷ []) d.names)) left.1,
    )

    answers_plainly : (h : Head) (v : Parts) (outs : List Effect) (o : Option Reply) → v.naming ≡ t.naming → Leaves outs →
        By (sends_answer from h v outs o)
    answers_plainly h v outs o same all = answered h v outs o (left_alone x outs v t d.names all same knows)

    with_it : (f : Naming → Handled) (o : Option Naming) → t.naming ≡ o → ((m : Naming) → IsInStep x m d.names → By (f m)) →
        By (if_naming f o)
    with_it f None is each = tt
    with_it f (Some m) is each = each m (subst (λ o. KnowsEntries x o d.names) is knows)

    -- naming says only lines, and stays
    named : (h : Head) (m n : Naming) (outs : List Effect) (o : Option Reply) → AreAll is_say outs → Stays x m n → IsInStep x m d.names →
        By (sends_answer from h (with_naming t n) outs o)
    named h m n outs o says stays its = let all = says_leave outs says in answered h (with_naming t n) outs o
        (leaves_prepare outs all, subst (IsInStep x n) (sym (left_same outs d.names all)) (stays_known x m n d.names stays its))

    asked : (h : Head) (a : Ask) → By (serve 1 d t from h a)
    asked h (ask.Bind y include avoid) =
        with_it (λ o. served from h (with_naming t) Reply.Bound (naming.bind h.path y include avoid d.names o)) t.naming refl
        (λ m its. let r = naming.bind h.path y include avoid d.names m in named h m r.part r.outs (option_map Reply.Bound r.reply)
        (bind_says h.path y include avoid d.names m) (bind_stays x h.path y include avoid d.names m) its)
    asked h (ask.Load y) = load (holder_of (object y) d.store)
      where
        held : (s : Option ObjectState) → By (load_held from h t s)
        held None = tt
        held (Some s) = plain t (Do Look ∷ Send from (response (asked_by h) (Reply.Loaded (loaded.State s))) ∷ []) refl refl

        load : (o : Option Uid) → By (load_by y d.store from h t o)
        load (Some u) = plain t (Send from (response (asked_by h) (Reply.Loaded (loaded.InDoubt u))) ∷ []) refl refl
        load None = held (held_at (object y) d.store)
    asked h (ask.Activate b st) = let r = server.activate 1 h.path b st t.server in answers_plainly h (with_server t r.part) r.outs
        (option_map Reply.Activated r.reply) refl (server_leaves 1 r.outs (activate_own 1 h.path b st t.server))
    asked h (ask.Record y b i g) = with_it (λ o. served from h (with_naming t) Reply.Noted (naming.note h.path y b i g o)) t.naming refl
        (λ m its. let r = naming.note h.path y b i g m in
        named h m r.part r.outs (option_map Reply.Noted r.reply) (note_says h.path y b i g m) (note_stays x h.path y b i g m) its)
    asked h (ask.Invoke y b i ends o) = let r = server.invoke 1 h y b i ends o t.server in answers_plainly h (with_server t r.part) r.outs
        (option_map Reply.Invoked r.reply) refl (server_leaves 1 r.outs (invoke_own 1 h y b i ends o t.server))
    asked h (ask.Vote i ties ends) = let r = server.vote 1 h.path i ties ends t.server in answers_plainly h (with_server t r.part) r.outs
        (option_map Reply.Voted r.reply) refl (server_leaves 1 r.outs (vote_own 1 h.path i ties ends t.server))
    asked h (ask.Prepare states) = by (is_prepared (actor h.path) d.store)
      where
        new : (a : Prep) → By (prepare_by 1 states from h t a)
        new Ready = plain t (Do Look ∷ Do (Prepare role.Store (actor h.path) states) ∷ Say (body.Prepared 1 (actor h.path) role.Store)
            ∷ Send from (response (asked_by h) (Reply.Prepared prepared.Yes)) ∷ []) refl refl
        new (Already u) = tt
        new (Old u v) = plain t (Do Look ∷ Send from (response (asked_by h) (Reply.Prepared (prepared.Old u.num v))) ∷ []) refl refl
        new (InDoubt u holder) =
            plain t (Do Look ∷ Send from (response (asked_by h) (Reply.Prepared (prepared.InDoubt u.num holder))) ∷ []) refl refl

        by : (b : Bool) → By (cond b (sends_answer from h t [] (Some (Reply.Prepared prepared.Yes)))
            (prepare_by 1 states from h t (prepare_answer (actor h.path) states d.store)))
        by true = plain t (Send from (response (asked_by h) (Reply.Prepared prepared.Yes)) ∷ []) refl refl
        by false = new (prepare_answer (actor h.path) states d.store)
    asked h (ask.Confirm grants excluded included) =
        with_it (λ o. served from h (with_naming t) Reply.Confirmed (confirm h.path grants excluded included d.names o)) t.naming refl
        (λ m its. let r = confirm h.path grants excluded included d.names m in answered h (with_naming t r.part) r.outs
        (option_map Reply.Confirmed r.reply) (confirm_leaves x h.path grants excluded included d.names m its))

    coord_left : (r : Served Coord (Unit {0})) → AreAll is_coord_effect r.outs → By (coord_heard t r)
    coord_left r own = by r.reply
      where
        by : (o : Option (Unit {0})) → By (by_reply (with_coord t r.part) r.outs o)
        by None = tt
        by (Some u) = plain (with_coord t r.part) r.outs refl (coord_leaves r.outs own)

    -- ---- an end that is told

    module _ (u : Uid) (how : End) (ack : Bool) (ends : List (Uid × End)) where
      abbrev after_told : Option Naming → Parts
      after_told o = record { server = (server.told 1 ends t.server).part; naming = (naming_told u how d.names o).part; coord = t.coord }

      stored : Leaves (store_told 1 u how d.store)
      stored = by (is_prepared u d.store) how
        where
          by : (b : Bool) (e : End) → Leaves (if b then end_states 1 u e else [])
          by true ending.Commit = refl
          by true ending.Abort = refl
          by false e = refl

      acks : Leaves (ack_told from u ack)
      acks = by ack
        where
          by : (b : Bool) → Leaves (ack_told from u b)
          by true = refl
          by false = refl

      left_told : (o : Option Naming) → KnowsEntries x o d.names → LeftBy x (store_told 1 u how d.store
          ++ (naming_told u how d.names o).outs ++ (server.told 1 ends t.server).outs ++ ack_told from u ack) (after_told o) d.names
      left_told None its = (
        leaves_prepare _ (leaves_both (store_told 1 u how d.store ++ [] ++ (server.told 1 ends t.server).outs) (ack_told from u ack)
            (leaves_both (store_told 1 u how d.store ++ []) (server.told 1 ends t.server).outs (leaves_both (store_told 1 u how d.store) []
            stored refl) (server_leaves 1 (server.told 1 ends t.server).outs (ends_own 1 ends t.server))) acks),
        tt,
      )
      left_told (Some n) its = (
        none_prepare (Whole_outs u how d t n from ack ends has.sorted) (outs_none u how d t n from ack ends has.sorted),
        record { taken = λ a on. who a (at_uid a Left.pend) refl on; there = there_now (is_on n.told u) },
      )
        where
          Left : Pair
          Left = names_left (Whole_outs u how d t n from ack ends has.sorted) d.names

          now : Bool → Naming
          now b = (if b then did_nothing n else told_new u (taken_end u how n) d.names n).part

          there_now : (b : Bool) → is_some (at_number x (let m = now b in m.objects)) ≡ true
          there_now true = its.there
          there_now false = each_stays x (λ y. end_named u (taken_end u how n)) n.objects its.there

          on_now : (a : Uid) (b : Bool) → a ≢ u → is_on n.confirmed a ≡ true → is_on (let m = now b in m.confirmed) a ≡ true
          on_now a true other on = on
          on_now a false other on = drop_stays a u n.confirmed other ∙ on

          who : (a : Uid) (o : Option (List ObjectState)) → at_uid a Left.pend ≡ o → is_some o ≡ true →
              is_on (let m = now (is_on n.told u) in m.confirmed) a ≡ true
          who a None is on = absurd (cc on)
          who a (Some states) is on = on_now a (is_on n.told u)
              (λ same. never_some is (ap (λ w. at_uid w Left.pend) same ∙ outs_gone u how d t n from ack ends has.sorted))
              (its.taken a (ap is_some (left_was u how d t n from ack ends has.sorted a states is)))

    ends_left : (ack : Bool) (ends : List (Uid × End)) (o : Option (Uid × End)) → By (handle_ends 1 d t from ack ends o)
    ends_left ack ends None = plain t [] refl refl
    ends_left ack ends (Some e) = left_told e.0 e.1 ack ends t.naming knows

    hello_left : (node inc : ℕ) (o : Option Naming) → KnowsEntries x o d.names → KnowsEntries x (naming_hello node inc o) d.names
    hello_left node inc None its = tt
    hello_left node inc (Some n) its = record { taken = its.taken; there = each_stays x (λ y. hello_named node inc) n.objects its.there }

    other : (m : Message) → By (handle_other 1 d t from m)
    other (message.Told m) = ends_left m.ack m.ends (last_end m.ends)
    other (message.Acked m) = coord_left (acked from m.act d.intents t.coord) (acked_own from m.act d.intents t.coord)
    other (message.Query m) = plain t (answer_query from m.act d.intents t.coord) refl
        (coord_leaves (answer_query from m.act d.intents t.coord) (query_own from m.act d.intents t.coord))
    other (message.Hello m) = let us = filter (is_earlier m.node m.inc) (holders d t) in (
      leaves_prepare (map query_about us) (queries_leave us),
      subst (KnowsEntries x (naming_hello m.node m.inc t.naming)) (sym (left_same (map query_about us) d.names (queries_leave us)))
          (hello_left m.node m.inc t.naming knows),
    )
    other (message.Bind m) = tt
    other (message.Bound m) = tt
    other (message.Load m) = tt
    other (message.Loaded m) = tt
    other (message.Activate m) = tt
    other (message.Activated m) = tt
    other (message.RecordMsg m) = tt
    other (message.Recorded m) = tt
    other (message.Invoke m) = tt
    other (message.Invoked m) = tt
    other (message.Vote m) = tt
    other (message.Voted m) = tt
    other (message.Prepare m) = tt
    other (message.Prepared m) = tt
    other (message.Confirm m) = tt
    other (message.Confirmed m) = tt

    message_left : (m : Message) → By (handle 1 d t from m)
    message_left m = by (asks m)
      where
        answer : (o : Option (Asked × Reply)) → By (handle_answer 1 d t from m o)
        answer None = other m
        answer (Some a) = coord_left (heard from a.0 a.1 d.intents t.coord) (heard_own from a.0 a.1 d.intents t.coord)

        by : (o : Option (Head × Ask)) → By (handle_ask 1 d t from m o)
        by None = answer (answers m)
        by (Some a) = asked a.0 a.1

  message_entries : (e k : ℕ) (d : Disk) (t v : Parts) (from : ℕ) (m : Message) (outs : List Effect) (M : Seen) →
      HaveEntries x (up k d t M) → handle k d t from m ≡ Took v outs → Walks (HaveEntries x) e k outs (Up (HaveEntries x) k v) d M
  message_entries e k d t v from m outs M have is = entries_walk x e k v outs d M (others_of x k d (Some t) M have) (λ on.
      let n = mine_of x k d (Some t) M have on in (
        n.disk,
        subst (LeftIn d.names) (subst (λ j. handle j d t from m ≡ Took v outs) (sym (eqb-true 1 k on)) is)
            (message_left d t from n.disk (n.live t refl) m),
      ))

  -- ---- a restart

  hellos_leave : (k inc : ℕ) (ns : List ℕ) → Leaves (map (hello_to k inc) ns)
  hellos_leave k inc [] = refl
  hellos_leave k inc (n ∷ ns) = hellos_leave k inc ns

  records_leave : (k : ℕ) (intents : List (Uid × Intent)) → Leaves (recovered_records k intents)
  records_leave k [] = refl
  records_leave k (e ∷ es) = records_leave k es

  back_leaves : (o : Option Naming) → Leaves (naming_back o)
  back_leaves None = refl
  back_leaves (Some o) = all o.objects
    where
      rows : (rs : List Row) → Leaves (map (λ (r : Row). Say (body.Granted 1 (last_uid r.holder) r.object r.mode)) rs)
      rows [] = refl
      rows (r ∷ rs) = rows rs

      all : (es : List (ℕ × Named)) → Leaves (flat_map (λ (e : ℕ × Named). back_lines e.1) es)
      all [] = refl
      all (e ∷ es) = leaves_both (back_lines e.1) (flat_map (λ (z : ℕ × Named). back_lines z.1) es) (rows (let o = e.1 in o.rows)) (all es)

  restart_leaves : (hd : Header) (k : ℕ) (d : Disk) → Leaves (restart_outs hd k (d.inc + 1) d)
  restart_leaves hd k d = leaves_both (one ++ two ++ tolds_again d.intents ++ queries) hellos (leaves_both
      (one ++ two ++ tolds_again d.intents) queries (leaves_both (one ++ two) (tolds_again d.intents) (leaves_both one two (back_leaves
      (naming_at k (d.inc + 1) d.names)) (records_leave k d.intents)) (coord_leaves (tolds_again d.intents) (tolds_again_own d.intents)))
      (queries_leave (uid_set (prepared_actions d.store ++ prepared_actions d.names))))
      (hellos_leave k (d.inc + 1) (without_number k (numbers_to hd.nodes)))
    where
      one : List Effect
      one = Do Look ∷ Do (PutInc (d.inc + 1)) ∷ Say (body.Up k (d.inc + 1)) ∷ Do Look ∷ naming_back (naming_at k (d.inc + 1) d.names)

      two : List Effect
      two = Do Look ∷ recovered_records k d.intents

      queries : List Effect
      queries = map query_about (uid_set (prepared_actions d.store ++ prepared_actions d.names))

      hellos : List Effect
      hellos = map (hello_to k (d.inc + 1)) (without_number k (numbers_to hd.nodes))

  -- naming starts with what the disk has
  starts_so : (k inc : ℕ) (d : Disk) → HasEntries x d.names → KnowsEntries x (parts_in k inc d).naming d.names
  starts_so k inc d has = by (k == 1)
    where
      who : (a : Uid) (o : Option (List ObjectState)) → at_uid a (let p = d.names in p.pend) ≡ o → is_some o ≡ true →
          is_on (map (λ (p : Uid × List ObjectState). p.0) (let p = d.names in p.pend)) a ≡ true
      who a None is on = absurd (cc on)
      who a (Some states) is on = is_on_pend a (let p = d.names in p.pend) ∙ prepared_in a states (let p = d.names in p.pend) is

      by : (b : Bool) → KnowsEntries x (if b then Some (recovered_naming inc d.names) else None) d.names
      by true = record {
        taken = λ a on. who a (at_uid a (let p = d.names in p.pend)) refl on;
        there = found_there d.names x (let p = d.names in p.held) has.there;
      }
      by false = tt

  restart_entries : (hd : Header) (e k : ℕ) (d : Disk) (M : Seen) → HaveEntries x (down k d M) →
      Walks (HaveEntries x) e k (restart_outs hd k (d.inc + 1) d) (Up (HaveEntries x) k (parts_in k (d.inc + 1) d)) d M
  restart_entries hd e k d M have =
      entries_walk x e k (parts_in k (d.inc + 1) d) (restart_outs hd k (d.inc + 1) d) d M (others_of x k d None M have) (λ on.
      let n = mine_of x k d None M have on in
      let all = restart_leaves hd k d in (
        n.disk,
        (
          leaves_prepare (restart_outs hd k (d.inc + 1) d) all,
          subst (KnowsEntries x (parts_in k (d.inc + 1) d).naming) (sym (left_same (restart_outs hd k (d.inc + 1) d) d.names all))
              (starts_so k (d.inc + 1) d n.disk),
        ),
      ))

  tick_leaves : (k : ℕ) (d : Disk) (t : Parts) → Leaves (tick_outs (record { number = k; disk = d; live = Some t }) t)
  tick_leaves k d t = let r = again_all t.coord.doings t.coord in
      leaves_both (r.outs ++ tolds_again t.coord.telling) (map query_about (holders d t))
      (leaves_both r.outs (tolds_again t.coord.telling) (coord_leaves r.outs (again_own t.coord.doings t.coord))
      (coord_leaves (tolds_again t.coord.telling) (tolds_again_own t.coord.telling))) (queries_leave (holders d t))

  -- ---- at first

  module _ (hd : Header) (st : Start) where
    -- the entry of a line, by its mark
    abbrev entry_of : ObjectLine → ObjectState
    entry_of o = entry_by hd.format (st.marks.entries o.x) o

    pub put_entries : (ls : List ObjectLine) (held : List (Uid × ObjectState)) → ((e : Uid × ObjectState) → In e held →
        e.0 ≡ entry e.0.num) → (e : Uid × ObjectState) → In e (put_states (map entry_of ls) held) → e.0 ≡ entry e.0.num
    put_entries ls held old e i = subst (λ m. In e m →
        e.0 ≡ entry e.0.num) (sym (put_is (map entry_of ls) held)) (moved_names (map entry_of ls) held (λ s j. own ls s j) old e) i
      where
        put_is : (ss : List ObjectState) (held : List (Uid × ObjectState)) → put_states ss held ≡ moved ss held
        put_is [] held = refl
        put_is (s ∷ ss) held = put_is ss (put_uid s.uid s held)

        own : (ls : List ObjectLine) (s : ObjectState) → In s (map entry_of ls) → s.uid ≡ entry s.uid.num
        own [] s j = absurd j
        own (l ∷ ls) s (inl same) = let its : (let f = entry_of l in f.uid)
            ≡ entry (let f = entry_of l in let u = f.uid in u.num) = refl in subst (λ (z : ObjectState). z.uid ≡ entry z.uid.num) same its
        own (l ∷ ls) s (inr j) = own ls s j

  -- node 1 holds the object's entry
  abbrev pub HoldsFirst : Seen → Type 0
  HoldsFirst M = (n : Node) → M.nodes 1 ≡ Some n → is_some (held_at (entry x) (let d = n.disk in d.names)) ≡ true

  first_entries : (hd : Header) → IsAtStarts hd HoldsFirst → IsAtStarts hd (HaveEntries x)
  first_entries hd there st formed n is = subst (IsEntryNode x) (first_at hd st 1 n is) (record {
    disk = has;
    live = λ t up. subst (λ (q : Parts). KnowsEntries x q.naming (let d = disk_by hd st 1 in d.names)) (live_first hd st 1 t up)
        (starts_so 1 (st.incs 1 + 1) (disk_by hd st 1) has);
  })
    where
      has : HasEntries x (let d = disk_by hd st 1 in d.names)
      has = record {
        sorted = tt;
        held = λ e c. put_entries hd st hd.objects [] (λ f i. absurd i) e (in_from e (put_states (map (entry_of hd st) hd.objects) []) c);
        there = subst (λ (z : Node). is_some (held_at (entry x) (let d = z.disk in d.names)) ≡ true) (sym (first_at hd st 1 n is))
            (there st formed n is);
        states = λ a ss at. absurd (cc at);
      }

  -- ---- in each run

  pub keeps_entries : (hd : Header) → IsAtStarts hd HoldsFirst → Keeps hd (HaveEntries x)
  keeps_entries hd there = record {
    quiet = λ e bs M quiet have n is. have n is;
    stop = λ e k d live M have. stop_entries x e k d live M have;
    message = λ e k d t v from m outs M have sent meant is. message_entries e k d t v from m outs M have is;
    act = λ e k d t i M is free have. let did = acts i d.intents t.coord in
        quiet_walk x e k d t (with_coord t did.part) did.outs M (coord_leaves did.outs (acts_own i d.intents t.coord)) refl have;
    begin = λ e k d t l how parent M new may free have. let did = begin_action l how parent (parent_of parent t.coord) t.coord in
        quiet_walk x e k d t (with_coord t did.part) did.outs (given l (record { node = k; serial = is_serial how }) M) refl refl have;
    tick = λ e k d t M have. let r = again_all t.coord.doings t.coord in quiet_walk x e k d t (with_coord t r.part)
        (tick_outs (record { number = k; disk = d; live = Some t }) t) M (tick_leaves k d t) refl have;
    restart = λ e k d M have. restart_entries hd e k d M have;
    first = first_entries hd there;
  }
