-- Bindings and incarnations at a node: what it makes of a message, and what it says and sends as it comes up.
use Rattle.arj_law_parts.proofs.Words
use Words.{⊤, ◌≡◌, ◌==◌, ◌++◌, ◌+◌, subst, ℕ, Bool, true, false, cond, filter, map, List, [], ◌∷◌, Option, Some, None, IfSome, refl, flat_map, option_map}
use Words.{Ask, Asked, End, Head, Header, Message, ObjectState, Row, Uid, asks, object}
use Words.{Reply, actor, answers, asked_by, last_end, last_uid, response, heard, confirm, Coord, Disk, Do, Effect, Intent, Look, Prep, Prepare}
use Words.{Ready, Already, Old, InDoubt, Say, Send, Served, held_at, holder_of, is_prepared, prepare_answer, acked, answer_query, back_lines}
use Words.{named_back, recovered_naming, Named, Naming, Handled, Parts, Took, Void, ack_told, coord_heard, end_states, handle, handle_ends}
use Words.{handle_other, holders, if_naming, is_earlier, load_by, load_held, naming_hello, naming_told, prepare_by, prepared_actions, query_about}
use Words.{sends_answer, serve, served, store_told, with_naming, with_server, tolds_again, uid_set, without_number, hello_to, naming_at}
use Words.{naming_back, numbers_to, parts_in, recovered_records, restart_outs, tell_all}
use Words.{answer_decided, answer_recorded, at_uid, branch_of, has, is_deferred, is_kept_commit, is_open, root_or_self, tell, ◌||◌}
use Words.ask
use Words.body
use Words.ending
use Words.loaded
use Words.message
use Words.naming
use Words.prepared
use Words.role
use Words.server
use Rattle.arj_law_parts.proofs.coordinator.Walks.{acked_trace, heard_trace}
use Rattle.arj_law_promise.proofs.Terms.{all_both, all_flat, all_map, by_coord, by_message}
use Rattle.arj_msg.specs.InForm.{IsObject, IsShort}
use Rattle.arj_law_cause.proofs.numbers.Coords.{CoordNums, coord_nums, new_nums}
use Rattle.std.specs.Prelude.{drop}
use Rattle.arj_law_cause.proofs.numbers.Fits.{AllNums, AskNums, AskedNums, AnsweredNums, EffectNums, MessageNums, ReplyNums, VersionFits, answer_nums}
use Rattle.arj_law_cause.proofs.numbers.Fits.{both_nums}
use Rattle.arj_law_cause.proofs.numbers.Namings.{NamingNums, bind_nums, confirm_nums, hello_nums, note_nums, recovered_nums, told_nums}
use Rattle.arj_law_cause.proofs.numbers.Servers.{ServerNums, activate_nums, ends_nums, invoke_nums, new_server_nums, vote_nums}

abbrev NamesNums : Option Naming → Type 0
NamesNums o = IfSome o NamingNums

-- a node's memory
pub record PartsNums (t : Parts) : Type 0 where
  pub server : ServerNums t.server
  pub naming : IfSome t.naming NamingNums
  pub coord : CoordNums t.coord

-- the next binding that naming makes fits
abbrev pub HasNext : Parts → Type 0
HasNext t = (o : Naming) → t.naming ≡ Some o → IsShort (o.count + 1)

-- what is asked of an object is of one
abbrev pub IsOfObject : Ask → Type 0
IsOfObject (ask.Bind x include avoid) = IsObject x
IsOfObject (ask.Activate b st) = IsObject st.uid.num
IsOfObject a = ⊤

-- tolds and queries name neither
abbrev All : List Effect → Type 0
All outs = AllNums outs

pub queries_nums : (us : List Uid) → All (map query_about us)
queries_nums [] = tt
queries_nums (u ∷ us) = ((tt, tt), queries_nums us)

pub tolds_nums : (telling : List (Uid × Intent)) → All (tolds_again telling)
tolds_nums telling = all_flat (EffectNums) (λ (e : Uid × Intent). tell_all e.1.root true ((e.0, ending.Commit) ∷ []) e.1.nodes) telling
    (λ e. all_map (EffectNums) _ e.1.nodes (λ n. (tt, tt)))

query_nums : (from : ℕ) (u : Uid) (intents : List (Uid × Intent)) (c : Coord) → All (answer_query from u intents c)
query_nums from u intents c = by (is_open u c.tree || is_deferred u intents from)
  where
    decided : (b : Bool) → All (cond b (tell (root_or_self u (branch_of u c.tree)) false ((u, ending.Commit) ∷ []) from ∷ [])
        (tell (root_or_self u (branch_of u c.tree)) false ((u, ending.Abort) ∷ []) from ∷ []))
    decided true = ((tt, tt), tt)
    decided false = ((tt, tt), tt)

    told : (i : Intent) (b : Bool) → All (cond b (tell i.root true ((u, ending.Commit) ∷ []) from ∷ []) (answer_decided from u c))
    told i true = ((tt, tt), tt)
    told i false = decided (is_kept_commit from u c)

    recorded : (o : Option Intent) → All (answer_recorded from u c o)
    recorded None = decided (is_kept_commit from u c)
    recorded (Some i) = told i (has i.nodes from)

    by : (b : Bool) → All (cond b [] (answer_recorded from u c (at_uid u intents)))
    by true = tt
    by false = recorded (at_uid u intents)

-- ---- one message

module _ (k : ℕ) (d : Disk) (t : Parts) (from : ℕ) (its : PartsNums t) (next : HasNext t) where
  abbrev pub By : Handled → Type 0
  By (Void es) = ⊤
  By (Took v es) = PartsNums v × All es

  answered_by : (h : Head) (v : Parts) (outs : List Effect) (o : Option Reply) → PartsNums v → All outs → IfSome o ReplyNums →
      By (sends_answer from h v outs o)
  answered_by h v outs None parts all fits = tt
  answered_by h v outs (Some r) parts all fits =
      (parts, both_nums outs (Send from (response (asked_by h) r) ∷ []) all (answer_nums from h r fits))

  said : {Q : Type 0} (say : Q → Reply) (P : Q → Type 0) → ((q : Q) → P q → ReplyNums (say q)) → (o : Option Q) → IfSome o P →
      IfSome (option_map say o) ReplyNums
  said say P to None fits = tt
  said say P to (Some q) fits = to q fits

  served_by : (s : _) → ServerNums s → PartsNums (with_server t s)
  served_by s so = record { server = so; naming = its.naming; coord = its.coord }

  named_by : (n : Naming) → NamingNums n → PartsNums (with_naming t n)
  named_by n so = record { server = its.server; naming = so; coord = its.coord }

  with_it : (f : Naming → Handled) → ((n : Naming) → NamingNums n → IsShort (n.count + 1) → By (f n)) → By (if_naming f t.naming)
  with_it f each = by t.naming refl its.naming
    where
      by : (o : Option Naming) → t.naming ≡ o → NamesNums o → By (if_naming f o)
      by None is so = tt
      by (Some n) is so = each n so (next n is)

  asked : (h : Head) (a : Ask) → AskNums a → IsOfObject a → By (serve k d t from h a)
  asked h (ask.Bind x include avoid) nums object =
      with_it (λ o. served from h (with_naming t) Reply.Bound (naming.bind h.path x include avoid d.names o)) (λ n so one.
      let r = naming.bind h.path x include avoid d.names n in
      let f = bind_nums h.path x object include avoid d.names n one so in
      answered_by h (with_naming t r.part) r.outs (option_map Reply.Bound r.reply) (named_by r.part f.0.0) f.0.1
      (said Reply.Bound (λ q. ReplyNums (Reply.Bound q)) (λ q fits. fits) r.reply f.1))
  asked h (ask.Load x) nums ob = load (holder_of (object x) d.store)
    where
      state : (o : Option ObjectState) → By (load_held from h t o)
      state None = tt
      state (Some st) = answered_by h t (Do Look ∷ []) (Some (Reply.Loaded (loaded.State st))) its (tt, tt) tt

      load : (o : Option Uid) → By (load_by x d.store from h t o)
      load (Some u) = answered_by h t [] (Some (Reply.Loaded (loaded.InDoubt u))) its tt tt
      load None = state (held_at (object x) d.store)
  asked h (ask.Activate b st) nums object =
      let r = server.activate k h.path b st t.server in
      let f = activate_nums k h.path b st t.server nums object its.server in
      answered_by h (with_server t r.part) r.outs (option_map Reply.Activated r.reply) (served_by r.part f.0.0) f.0.1
      (said Reply.Activated IsShort (λ q fits. fits) r.reply f.1)
  asked h (ask.Record x b i g) nums ob =
      with_it (λ o. served from h (with_naming t) Reply.Noted (naming.note h.path x b i g o)) (λ n so one.
      let r = naming.note h.path x b i g n in
      let f = note_nums h.path x b i g n nums.1 nums.2 so in
      answered_by h (with_naming t r.part) r.outs (option_map Reply.Noted r.reply) (named_by r.part f.0.0) f.0.1
      (said Reply.Noted (λ q. ReplyNums (Reply.Noted q)) (λ q fits. fits) r.reply f.1))
  asked h (ask.Invoke x b i ends o) nums ob =
      let r = server.invoke k h x b i ends o t.server in
      let f = invoke_nums k h x o b i ends t.server nums.0 nums.1 its.server in
      answered_by h (with_server t r.part) r.outs (option_map Reply.Invoked r.reply) (served_by r.part f.0.0) f.0.1
      (said Reply.Invoked (λ q. ReplyNums (Reply.Invoked q)) (λ q fits. fits) r.reply f.1)
  asked h (ask.Vote i ties ends) nums ob =
      let r = server.vote k h.path i ties ends t.server in
      let f = vote_nums k h.path i ties ends t.server nums.0 nums.1 its.server in
      answered_by h (with_server t r.part) r.outs (option_map Reply.Voted r.reply) (served_by r.part f.0.0) f.0.1
      (said Reply.Voted (λ q. ReplyNums (Reply.Voted q)) (λ q fits. fits) r.reply f.1)
  asked h (ask.Prepare states) nums ob = each (is_prepared (actor h.path) d.store)
    where
      new : (a : Prep) → By (prepare_by k states from h t a)
      new Ready = answered_by h t
          (Do Look ∷ Do (Prepare role.Store (actor h.path) states) ∷ Say (body.Prepared k (actor h.path) role.Store) ∷ [])
          (Some (Reply.Prepared prepared.Yes)) its (tt, (tt, (tt, tt))) tt
      new (Already u) = tt
      new (Old u v) = answered_by h t (Do Look ∷ []) (Some (Reply.Prepared (prepared.Old u.num v))) its (tt, tt) tt
      new (InDoubt u holder) = answered_by h t (Do Look ∷ []) (Some (Reply.Prepared (prepared.InDoubt u.num holder))) its (tt, tt) tt

      each : (b : Bool) → By (cond b (sends_answer from h t [] (Some (Reply.Prepared prepared.Yes)))
          (prepare_by k states from h t (prepare_answer (actor h.path) states d.store)))
      each true = answered_by h t [] (Some (Reply.Prepared prepared.Yes)) its tt tt
      each false = new (prepare_answer (actor h.path) states d.store)
  asked h (ask.Confirm grants excluded included) nums ob =
      with_it (λ o. served from h (with_naming t) Reply.Confirmed (confirm h.path grants excluded included d.names o)) (λ n so one.
      let r = confirm h.path grants excluded included d.names n in
      let f = confirm_nums h.path grants nums excluded included d.names n so in
      answered_by h (with_naming t r.part) r.outs (option_map Reply.Confirmed r.reply) (named_by r.part f.0.0) f.0.1
      (said Reply.Confirmed (λ q. ReplyNums (Reply.Confirmed q)) (λ q fits. fits) r.reply f.1))

  told_by : (ack : Bool) (ends : List (Uid × End)) (o : Option (Uid × End)) → By (handle_ends k d t from ack ends o)
  told_by ack ends None = (its, tt)
  told_by ack ends (Some e) =
      let s = ends_nums k ends t.server its.server in
      let o = naming_told e.0 e.1 d.names t.naming in
      let z = server.told k ends t.server in
      let n = named t.naming its.naming in (
        record { server = s.0; naming = n.0; coord = its.coord },
        both_nums (store_told k e.0 e.1 d.store ++ o.outs ++ z.outs) (ack_told from e.0 ack)
            (both_nums (store_told k e.0 e.1 d.store ++ o.outs) z.outs
            (both_nums (store_told k e.0 e.1 d.store) o.outs (stored (is_prepared e.0 d.store) e.1) n.1) s.1) (acked_by ack),
      )
    where
      stored : (b : Bool) (how : End) → All (cond b (end_states k e.0 how) [])
      stored false how = tt
      stored true ending.Commit = (tt, (tt, tt))
      stored true ending.Abort = (tt, (tt, tt))

      named : (o : Option Naming) → NamesNums o → (let r = naming_told e.0 e.1 d.names o in NamesNums r.part × All r.outs)
      named None so = (tt, tt)
      named (Some n) so = told_nums e.0 e.1 d.names n so

      acked_by : (b : Bool) → All (ack_told from e.0 b)
      acked_by true = ((tt, tt), tt)
      acked_by false = tt

  coord_left : (r : Served Coord (Unit {0})) → CoordNums r.part × All r.outs → By (coord_heard t r)
  coord_left r so = by_coord k d t from By tt r (record { server = its.server; naming = its.naming; coord = so.0 }, so.1)

  other : (m : Message) → By (handle_other k d t from m)
  other (message.Told m) = told_by m.ack m.ends (last_end m.ends)
  other (message.Acked m) = coord_left (acked from m.act d.intents t.coord) (coord_nums its.coord tt (acked_trace t.coord from m.act d.intents))
  other (message.Query m) = (its, query_nums from m.act d.intents t.coord)
  other (message.Hello m) = (
    record { server = its.server; naming = by t.naming its.naming; coord = its.coord },
    queries_nums (filter (is_earlier m.node m.inc) (holders d t)),
  )
    where
      by : (o : Option Naming) → NamesNums o → NamesNums (naming_hello m.node m.inc o)
      by None so = tt
      by (Some n) so = hello_nums m.node m.inc n so
  other m = tt

  pub message_nums : (m : Message) → MessageNums m → ((h : Head) (a : Ask) → asks m ≡ Some (h, a) → IsOfObject a) →
      ((a : Asked) (r : Reply) → answers m ≡ Some (a, r) → VersionFits r) → By (handle k d t from m)
  message_nums m nums objects says = by_message k d t from By tt m
      (λ h a is. asked h a (subst AskedNums is nums.0) (objects h a is))
      (λ a r is. coord_left (heard from a r d.intents t.coord)
      (coord_nums its.coord (subst AnsweredNums is nums.1, says a r is) (heard_trace t.coord from a r d.intents))) (other m)

-- ---- restarts

-- a node that comes up in an incarnation that fits
pub new_parts : (k inc : ℕ) (d : Disk) → IsShort inc → PartsNums (parts_in k inc d)
new_parts k inc d its = record { server = new_server_nums inc its; naming = by (k == 1); coord = new_nums k inc d.intents }
  where
    by : (b : Bool) → NamesNums (cond b (Some (recovered_naming inc d.names)) None)
    by true = recovered_nums inc d.names its
    by false = tt

-- what it does then, behind the work that puts its incarnation
pub restart_nums : (hd : Header) (n : ℕ) (d : Disk) → All (drop 2 (restart_outs hd n (d.inc + 1) d))
restart_nums hd n d = all_both P four hellos (all_both P three queries
    (all_both P two tolds (all_both P one records (tt, (tt, back (n == 1)))
    (tt, all_map P (λ (e : Uid × Intent). Say (body.Recovered n e.0)) d.intents (λ e. tt))) (tolds_nums d.intents))
    (queries_nums (uid_set (prepared_actions d.store ++ prepared_actions d.names))))
    (all_map P (hello_to n (d.inc + 1)) (without_number n (numbers_to hd.nodes)) (λ k. (tt, tt)))
  where
    P : Effect → Type 0
    P e = EffectNums e

    rows : (rs : List Row) → All (map (λ (r : Row). Say (body.Granted 1 (last_uid r.holder) r.object r.mode)) rs)
    rows [] = tt
    rows (r ∷ rs) = (tt, rows rs)

    each : (es : List (Uid × ObjectState)) → All (flat_map (λ (e : ℕ × Named). back_lines e.1) (map (named_back d.names) es))
    each [] = tt
    each (e ∷ es) = both_nums (back_lines (let z = named_back d.names e in z.1))
        (flat_map (λ (f : ℕ × Named). back_lines f.1) (map (named_back d.names) es))
        (rows (let z = named_back d.names e in let o = z.1 in o.rows)) (each es)

    back : (b : Bool) → All (naming_back (cond b (Some (recovered_naming (d.inc + 1) d.names)) None))
    back false = tt
    back true = each (let p = d.names in p.held)

    one : List Effect
    one = Say (body.Up n (d.inc + 1)) ∷ Do Look ∷ naming_back (naming_at n (d.inc + 1) d.names)

    records : List Effect
    records = Do Look ∷ recovered_records n d.intents

    two : List Effect
    two = one ++ records

    tolds : List Effect
    tolds = tolds_again d.intents

    three : List Effect
    three = two ++ tolds

    queries : List Effect
    queries = map query_about (uid_set (prepared_actions d.store ++ prepared_actions d.names))

    four : List Effect
    four = three ++ queries

    hellos : List Effect
    hellos = map (hello_to n (d.inc + 1)) (without_number n (numbers_to hd.nodes))
