-- What a node does as it takes a message, at a tick and at a restart, by what its coordinator and naming do: its other effects are plain.
use Rattle.arj_law_parts.proofs.Words
use Words.{◌≡◌, ◌++◌, ◌&&◌, ◌||◌, ℕ, Bool, true, false, cond, List, [], ◌∷◌, filter, map, Option, Some, None, refl, ⊤, option_map}
use Words.{AllByRecursion, and_parts, list_all, not}
use Words.{Ask, Asked, End, Head, Message, ObjectState, Uid, asks, object, Reply, actor, answers, asked_by, last_end, response, heard}
use Words.{Binding, Coord, Disk, Do, Effect, Grants, InDoubt, Intent, Marks, Pair, RemoveIntent, Work}
use Words.{Look, Old, Already, Prep, Prepare, Ready, PutInc, Say, Send, held_at, holder_of, is_prepared, prepare_answer, acked, answer_query}
use Words.{tell, tell_all, Named, Naming, Handled, Parts, Took}
use Words.{Void, ack_told, by_reply, confirm, end_states, handle, handle_answer, handle_ask, handle_ends, handle_other, holders}
use Words.{if_naming, is_earlier, load_by, load_held}
use Words.{naming_told, prepare_by, query_about, sends_answer, serve, store_told, with_coord, with_naming, with_server, AreAll}
use Words.{is_naming_effect, is_server_effect}
use Words.{is_naming_line, is_server_line, activate_own, bind_own, confirm_own, ends_own, invoke_own, note_own, told_own, vote_own}
use Words.{at_uid, has, is_open, is_kept_commit, Body, Header}
use Words.{root_or_self, branch_of, acked_by, acked_left, tolds_let_go, let_go, uid_eq, without_uid, without_number}
use Words.{again_all, again_now, asks_all, asks_node, Calling, Committing, Doing, Idle, Now, plan_of, Path, tick_outs, tolds_again}
use Words.{Served, hello_to, naming_at, naming_back, numbers_to, recovered_records, back_lines, restart_outs, prepared_actions, uid_set}
use Words.ask
use Words.body
use Words.commit
use Words.ending
use Words.loaded
use Words.message
use Words.prepared
use Words.role
use Words.naming
use Words.server
use Rattle.arj_law_parts.proofs.parts.SaidIncs.{all_both, all_flat, all_map}
use Rattle.arj_protocol.specs.Ending.{answer_decided, answer_recorded, is_deferred, is_over}

-- the line is of a part of a node beside its coordinator, or of its restart
abbrev pub is_of_part : Body → Bool
is_of_part (body.Granted n u o how) = true
is_of_part (body.Lowered n u o) = true
is_of_part (body.Bound x b n) = true
is_of_part (body.Active n x b) = true
is_of_part (body.Told n u e part) = true
is_of_part (body.Prepared n u role) = true
is_of_part (body.Done n u role e) = true
is_of_part (body.Up n i) = true
is_of_part (body.Recovered n u) = true
is_of_part b = false

-- the work prepares entries
abbrev pub prepares_entries : Work → Bool
prepares_entries (Prepare role.Names u states) = true
prepares_entries w = false

-- so it is of these effects
abbrev pub AreStill : (Effect → Type 0) → List Effect → Type 0
AreStill Good outs = AllByRecursion Good outs

pub still_both : (Good : Effect → Type 0) (es fs : List Effect) → AreStill Good es → AreStill Good fs → AreStill Good (es ++ fs)
still_both Good es fs a b = all_both Good es fs a b

-- It is so of each line of such a part, of each message, and of all work but the preparing of entries.
pub record IsPlain (Good : Effect → Type 0) : Type 0 where
  pub says : (b : Body) → is_of_part b ≡ true → Good (Say b)
  pub sends : (to : ℕ) (m : Message) → Good (Send to m)
  pub works : (w : Work) → prepares_entries w ≡ false → Good (Do w)

-- It is so of all that naming does over these entries.
pub record NamingDoes (Good : Effect → Type 0) (d : Pair) (n : Naming) : Type 0 where
  pub binds : (p : Path) (x : ℕ) (include : Bool) (avoid : Binding) → AreStill Good (naming.bind p x include avoid d n).outs
  pub notes : (p : Path) (x : ℕ) (b : Binding) (i g : ℕ) → AreStill Good (naming.note p x b i g n).outs
  pub confirms : (p : Path) (grants : Grants) (excluded included : Marks) → AreStill Good (confirm p grants excluded included d n).outs
  pub told : (u : Uid) (e : End) → AreStill Good (naming.told u e d n).outs

module _ (Good : Effect → Type 0) (plain : IsPlain Good) where
  -- messages
  pub tells_still : (root : Uid) (ack : Bool) (ends : List (Uid × End)) (ns : List ℕ) → AreStill Good (tell_all root ack ends ns)
  tells_still root ack ends ns = all_map Good (tell root ack ends) ns (λ n. plain.sends _ _)

  pub asks_still : (p : Path) (req : ℕ) (asked : List (ℕ × Ask)) (c : Coord) → AreStill Good (asks_all p req asked c).outs
  asks_still p req [] c = tt
  asks_still p req (a ∷ rest) c = (plain.sends _ _, asks_still p req rest (asks_node p req a c).part)

  again_still : (ds : List Doing) (c : Coord) → AreStill Good (again_all ds c).outs
  again_still [] c = tt
  again_still (d ∷ ds) c = still_both Good (again_now c d.now).outs (again_all ds (again_now c d.now).part).outs (now d.now)
      (again_still ds (again_now c d.now).part)
    where
      now : (n : Now) → AreStill Good (again_now c n).outs
      now Idle = tt
      now (Calling s) = (plain.sends _ _, tt)
      now (Committing m) = asks_still (plan_of m).path (plan_of m).req (commit.waiting m) c

  again_tolds : (telling : List (Uid × Intent)) → AreStill Good (tolds_again telling)
  again_tolds telling = all_flat Good (λ (e : Uid × Intent). tell_all e.1.root true ((e.0, ending.Commit) ∷ []) e.1.nodes) telling
      (λ e. all_map Good _ e.1.nodes (λ n. plain.sends _ _))

  -- a tick
  pub tick_still : (k : ℕ) (d : Disk) (t : Parts) → AreStill Good (tick_outs (record { number = k; disk = d; live = Some t }) t)
  tick_still k d t =
      let r = again_all t.coord.doings t.coord in
      still_both Good (r.outs ++ tolds_again t.coord.telling) (map query_about (holders d t))
      (still_both Good r.outs (tolds_again t.coord.telling) (again_still t.coord.doings t.coord) (again_tolds t.coord.telling))
      (all_map Good query_about (holders d t) (λ u. plain.sends _ _))

  -- a restart
  pub restart_still : (hd : Header) (k inc : ℕ) (d : Disk) → AreStill Good (restart_outs hd k inc d)
  restart_still hd k inc d =
      let back = naming_back (naming_at k inc d.names) in
      let records = Do Look ∷ recovered_records k d.intents in
      let asking = map query_about (uid_set (prepared_actions d.store ++ prepared_actions d.names)) in
      let first = Do Look ∷ Do (PutInc inc) ∷ Say (body.Up k inc) ∷ Do Look ∷ back in
      still_both Good (first ++ records ++ tolds_again d.intents ++ asking) (map (hello_to k inc) (without_number k (numbers_to hd.nodes)))
      (still_both Good (first ++ records ++ tolds_again d.intents) asking
      (still_both Good (first ++ records) (tolds_again d.intents)
      (still_both Good first records (
        plain.works Look refl,
        (
          plain.works (PutInc inc) refl,
          (
            plain.says (body.Up k inc) refl,
            (plain.works Look refl, backs (naming_at k inc d.names)),
          ),
        ),
      )
      (plain.works Look refl, all_map Good _ d.intents (λ e. plain.says (body.Recovered k e.0) refl)))
      (again_tolds d.intents))
      (all_map Good query_about (uid_set (prepared_actions d.store ++ prepared_actions d.names)) (λ u. plain.sends _ _)))
      (all_map Good (hello_to k inc) (without_number k (numbers_to hd.nodes)) (λ n. plain.sends _ _))
    where
      backs : (o : Option Naming) → AreStill Good (naming_back o)
      backs None = tt
      backs (Some o) = all_flat Good (λ (e : ℕ × Named). back_lines e.1) o.objects
          (λ e. all_map Good _ e.1.rows (λ r. plain.says _ refl))

  -- ---- lines of servers

  server_line : (n : ℕ) (b : Body) → is_server_line n b ≡ true → is_of_part b ≡ true
  server_line n (body.Granted m u o how) is = refl
  server_line n (body.Active m x b) is = refl
  server_line n (body.Told m u e p) is = refl
  server_line n b is = absurd (cc is)

  server_still : (n : ℕ) (es : List Effect) → AreAll (is_server_effect n) es → AreStill Good es
  server_still n [] own = tt
  server_still n (Say b ∷ es) own = let q = and_parts (is_server_line n b) (list_all (is_server_effect n) es) own in
      (plain.says b (server_line n b q.0), server_still n es q.1)
  server_still n (Send to m ∷ es) own = absurd (cc own)
  server_still n (Do w ∷ es) own = absurd (cc own)

  -- ---- one message

  -- it does what its coordinator does then, or what is so
  module _ (Turn : List Effect → Type 0) (rests : (outs : List Effect) → AreStill Good outs → Turn outs) (k : ℕ) (d : Disk) (t : Parts)
      (names : (n : Naming) → t.naming ≡ Some n → NamingDoes Good d.names n) (from : ℕ) where
    abbrev pub GoesSo : Handled → Type 0
    GoesSo (Void outs) = ⊤
    GoesSo (Took v outs) = Turn outs

    answered : (h : Head) (v : Parts) (outs : List Effect) (o : Option Reply) → AreStill Good outs → GoesSo (sends_answer from h v outs o)
    answered h v outs None still = tt
    answered h v outs (Some r) still = rests (outs ++ Send from (response (asked_by h) r) ∷ [])
        (still_both Good outs (Send from (response (asked_by h) r) ∷ []) still (plain.sends _ _, tt))

    with_it : (f : Naming → Handled) (o : Option Naming) → t.naming ≡ o → ((n : Naming) → NamingDoes Good d.names n → GoesSo (f n)) →
        GoesSo (if_naming f o)
    with_it f None is each = tt
    with_it f (Some n) is each = each n (names n is)

    asked : (h : Head) (a : Ask) → GoesSo (serve k d t from h a)
    asked h (ask.Bind x include avoid) = with_it _ t.naming refl (λ n does. let r = naming.bind h.path x include avoid d.names n in
        answered h (with_naming t r.part) r.outs (option_map Reply.Bound r.reply) (does.binds h.path x include avoid))
    asked h (ask.Load x) = load (holder_of (object x) d.store)
      where
        held : (s : Option ObjectState) → GoesSo (load_held from h t s)
        held None = tt
        held (Some s) = answered h t (Do Look ∷ []) (Some (Reply.Loaded (loaded.State s))) (plain.works Look refl, tt)

        load : (o : Option Uid) → GoesSo (load_by x d.store from h t o)
        load (Some u) = answered h t [] (Some (Reply.Loaded (loaded.InDoubt u))) tt
        load None = held (held_at (object x) d.store)
    asked h (ask.Activate b st) = let r = server.activate k h.path b st t.server in
        answered h (with_server t r.part) r.outs (option_map Reply.Activated r.reply)
        (server_still k r.outs (activate_own k h.path b st t.server))
    asked h (ask.Record x b i g) = with_it _ t.naming refl (λ n does. let r = naming.note h.path x b i g n in
        answered h (with_naming t r.part) r.outs (option_map Reply.Noted r.reply) (does.notes h.path x b i g))
    asked h (ask.Invoke x b i ends o) = let r = server.invoke k h x b i ends o t.server in
        answered h (with_server t r.part) r.outs (option_map Reply.Invoked r.reply)
        (server_still k r.outs (invoke_own k h x b i ends o t.server))
    asked h (ask.Vote i ties ends) = let r = server.vote k h.path i ties ends t.server in
        answered h (with_server t r.part) r.outs (option_map Reply.Voted r.reply)
        (server_still k r.outs (vote_own k h.path i ties ends t.server))
    asked h (ask.Prepare states) = each (is_prepared (actor h.path) d.store)
      where
        new : (a : Prep) → GoesSo (prepare_by k states from h t a)
        new Ready = answered h t (Do Look ∷ Do (Prepare role.Store (actor h.path) states) ∷ Say
            (body.Prepared k (actor h.path) role.Store) ∷ [])
            (Some (Reply.Prepared prepared.Yes)) (plain.works Look refl, (plain.works _ refl, (plain.says _ refl, tt)))
        new (Already u) = tt
        new (Old u v) = answered h t (Do Look ∷ []) (Some (Reply.Prepared (prepared.Old u.num v))) (plain.works Look refl, tt)
        new (InDoubt u holder) =
            answered h t (Do Look ∷ []) (Some (Reply.Prepared (prepared.InDoubt u.num holder))) (plain.works Look refl, tt)

        each : (b : Bool) → GoesSo (cond b (sends_answer from h t [] (Some (Reply.Prepared prepared.Yes)))
            (prepare_by k states from h t (prepare_answer (actor h.path) states d.store)))
        each true = answered h t [] (Some (Reply.Prepared prepared.Yes)) tt
        each false = new (prepare_answer (actor h.path) states d.store)
    asked h (ask.Confirm grants excluded included) =
        with_it _ t.naming refl (λ n does. let r = confirm h.path grants excluded included d.names n in
        answered h (with_naming t r.part) r.outs (option_map Reply.Confirmed r.reply) (does.confirms h.path grants excluded included))

    coord_goes : (c : Coord) (outs : List Effect) (r : Option (Unit {0})) → Turn outs → GoesSo (by_reply (with_coord t c) outs r)
    coord_goes c outs None turn = tt
    coord_goes c outs (Some u) turn = turn

    ends_go : (ack : Bool) (ends : List (Uid × End)) (o : Option (Uid × End)) → GoesSo (handle_ends k d t from ack ends o)
    ends_go ack ends None = rests [] tt
    ends_go ack ends (Some e) =
        let s = server.told k ends t.server in
        let o = naming_told e.0 e.1 d.names t.naming in
        rests (store_told k e.0 e.1 d.store ++ o.outs ++ s.outs ++ ack_told from e.0 ack)
        (still_both Good (store_told k e.0 e.1 d.store ++ o.outs ++ s.outs) (ack_told from e.0 ack)
        (still_both Good (store_told k e.0 e.1 d.store ++ o.outs) s.outs
        (still_both Good (store_told k e.0 e.1 d.store) o.outs (stored (is_prepared e.0 d.store) e.1) (named t.naming refl))
        (server_still k s.outs (ends_own k ends t.server))) (acks ack))
      where
        stored : (b : Bool) (how : End) → AreStill Good (cond b (end_states k e.0 how) [])
        stored false how = tt
        stored true ending.Commit = (plain.works _ refl, (plain.says _ refl, tt))
        stored true ending.Abort = (plain.works _ refl, (plain.says _ refl, tt))

        named : (o : Option Naming) → t.naming ≡ o → AreStill Good (let r = naming_told e.0 e.1 d.names o in r.outs)
        named None is = tt
        named (Some o) is = let does = names o is in does.told e.0 e.1

        acks : (b : Bool) → AreStill Good (ack_told from e.0 b)
        acks true = (plain.sends _ _, tt)
        acks false = tt

    query_still : (u : Uid) (intents : List (Uid × Intent)) (c : Coord) → AreStill Good (answer_query from u intents c)
    query_still u intents c = by (is_open u c.tree || is_deferred u intents from)
      where
        decided : AreStill Good (answer_decided from u c)
        decided = one (is_kept_commit from u c)
          where
            one : (b : Bool) → AreStill Good (cond b (tell (root_or_self u (branch_of u c.tree)) false ((u, ending.Commit) ∷ []) from ∷ [])
                (tell (root_or_self u (branch_of u c.tree)) false ((u, ending.Abort) ∷ []) from ∷ []))
            one true = (plain.sends _ _, tt)
            one false = (plain.sends _ _, tt)

        recorded : (o : Option Intent) → AreStill Good (answer_recorded from u c o)
        recorded None = decided
        recorded (Some i) = one (has i.nodes from)
          where
            one : (b : Bool) → AreStill Good (cond b (tell i.root true ((u, ending.Commit) ∷ []) from ∷ []) (answer_decided from u c))
            one true = (plain.sends _ _, tt)
            one false = decided

        by : (b : Bool) → AreStill Good (cond b [] (answer_recorded from u c (at_uid u intents)))
        by true = tt
        by false = recorded (at_uid u intents)

    acked_still : (u : Uid) (intents : List (Uid × Intent)) (c : Coord) → AreStill Good (acked from u intents c).outs
    acked_still u intents c = by (at_uid u c.telling)
      where
        gone : (o : Option Intent) → AreStill Good (tolds_let_go u (without_uid u intents) c o)
        gone None = tt
        gone (Some i) = one (not (uid_eq i.root u) && is_over (branch_of i.root c.tree))
          where
            one : (b : Bool) → AreStill Good
                (cond b (tell_all i.root false ((i.root, ending.Abort) ∷ []) (let_go i.root (without_uid u intents) c i.nodes)) [])
            one true = tells_still i.root false ((i.root, ending.Abort) ∷ []) (let_go i.root (without_uid u intents) c i.nodes)
            one false = tt

        left : (i : Intent) (ns : List ℕ) → AreStill Good (acked_left u i intents c ns).outs
        left i [] = (plain.works (RemoveIntent u) refl, gone (at_uid u intents))
        left i (n ∷ ns) = tt

        waited : (i : Intent) (b : Bool) →
            AreStill Good (cond {A = Served Coord (Unit {0})} b (acked_left u i intents c (without_number from i.nodes))
            (record { part = c; outs = []; reply = None })).outs
        waited i true = left i (without_number from i.nodes)
        waited i false = tt

        by : (o : Option Intent) → AreStill Good (acked_by from u intents c o).outs
        by None = tt
        by (Some i) = waited i (has i.nodes from)

    other_goes : (m : Message) → GoesSo (handle_other k d t from m)
    other_goes (message.Told m) = ends_go m.ack m.ends (last_end m.ends)
    other_goes (message.Acked m) = let r = acked from m.act d.intents t.coord in
        coord_goes r.part r.outs r.reply (rests r.outs (acked_still m.act d.intents t.coord))
    other_goes (message.Query m) = rests (answer_query from m.act d.intents t.coord) (query_still m.act d.intents t.coord)
    other_goes (message.Hello m) = rests (map query_about (filter (is_earlier m.node m.inc) (holders d t)))
        (all_map Good query_about (filter (is_earlier m.node m.inc) (holders d t)) (λ u. plain.sends _ _))
    other_goes m = tt

    pub goes_so : (m : Message) → ((a : Asked) (r : Reply) → answers m ≡ Some (a, r) → Turn (heard from a r d.intents t.coord).outs) →
        GoesSo (handle k d t from m)
    goes_so m turns = by (asks m)
      where
        by_answer : (o : Option (Asked × Reply)) → answers m ≡ o → GoesSo (handle_answer k d t from m o)
        by_answer None is = other_goes m
        by_answer (Some a) is = let r = heard from a.0 a.1 d.intents t.coord in
            coord_goes r.part r.outs r.reply (turns a.0 a.1 is)

        by : (o : Option (Head × Ask)) → GoesSo (handle_ask k d t from m o)
        by None = by_answer (answers m) refl
        by (Some a) = asked a.0 a.1

-- ---- by lines alone

-- an effect says a quiet line, or none
abbrev pub IsQuiet : (Body → Bool) → Effect → Type 0
IsQuiet quiet (Say b) = quiet b ≡ true
IsQuiet quiet e = ⊤

module _ (quiet : Body → Bool) (parts : (b : Body) → is_of_part b ≡ true → quiet b ≡ true) where
  pub quiet_plain : IsPlain (IsQuiet quiet)
  quiet_plain = record { says = parts; sends = λ to m. tt; works = λ w is. tt }

  naming_line : (b : Body) → is_naming_line b ≡ true → is_of_part b ≡ true
  naming_line (body.Granted m u o how) is = refl
  naming_line (body.Lowered m u o) is = refl
  naming_line (body.Bound x b n) is = refl
  naming_line (body.Told m u e p) is = refl
  naming_line (body.Prepared m u r) is = refl
  naming_line (body.Done m u r e) is = refl
  naming_line b is = absurd (cc is)

  naming_still : (es : List Effect) → AreAll is_naming_effect es → AreStill (IsQuiet quiet) es
  naming_still [] own = tt
  naming_still (Say b ∷ es) own = let q = and_parts (is_naming_line b) (list_all is_naming_effect es) own in
      (parts b (naming_line b q.0), naming_still es q.1)
  naming_still (Send to m ∷ es) own = absurd (cc own)
  naming_still (Do w ∷ es) own = (tt, naming_still es (and_parts (is_naming_effect (Do w)) (list_all is_naming_effect es) own).1)

  pub naming_quiet : (d : Pair) (n : Naming) → NamingDoes (IsQuiet quiet) d n
  naming_quiet d n = record {
    binds = λ p x include avoid. naming_still (naming.bind p x include avoid d n).outs (bind_own p x include avoid d n);
    notes = λ p x b i g. naming_still (naming.note p x b i g n).outs (note_own p x b i g n);
    confirms = λ p grants excluded included. naming_still (confirm p grants excluded included d n).outs
        (confirm_own p grants excluded included d n);
    told = λ u e. naming_still (naming.told u e d n).outs (told_own u e d n);
  }
