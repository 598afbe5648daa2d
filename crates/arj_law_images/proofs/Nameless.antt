-- A node other than node 1 has no entries, and none prepared.
use Rattle.arj_law_parts.proofs.Words
use Words.{◌≡◌, ◌∙◌, ◌==◌, ◌&&◌, ◌++◌, ◌+◌, ℕ, Bool, true, false, cond, filter, map, list_all, List, [], ◌∷◌, Option, Some, None, refl, sym, ap, subst}
use Words.{is_some, and_parts, all_both, all_flat, option_map, eqb-true, same_number, Header, Head, Asked, End, Message, Node, ObjectState}
use Words.{Uid, Disk, Pair, Effect, Say, Send, Do, Look, Work, PutInc, PutIntent, RemoveIntent, Prepare, Commit, Abort, Stop, Before, After, InPart}
use Words.{worked, stopped, pair_committed, pair_aborted, pair_in_part, Prep, Ready, Already, Old, InDoubt, held_at, holder_of, is_prepared}
use Words.{prepare_answer, Served, Reply, Ask, asks, actor, answers, asked_by, last_end, response, acked, heard, object, Named, Naming, Parts}
use Words.{Handled, Void, Took, handle, handle_answer, handle_ask, handle_ends, handle_other, handle_told, if_naming, load_by, load_held}
use Words.{naming_told, prepare_by, prepare_states, sends_answer, serve, served, store_told, end_states, ack_told, by_reply, with_coord}
use Words.{with_naming, with_server, query_about, holders, is_earlier, AreAll, is_coord_effect, is_server_effect, acked_own, acts_own}
use Words.{again_own, heard_own, query_own, answer_query, tolds_again_own, activate_own, ends_own, invoke_own, vote_own, acts as does, again_all, begin_action}
use Words.{parent_of, parts_in, recovered_naming, back_lines, naming_at, naming_back, hello_to, numbers_to, without_number, prepared_actions}
use Words.{restart_outs, recovered_records, tolds_again, tick_outs, uid_set, Seen, Start, at_place, world_by, confirm}
use Words.body
use Words.naming
use Words.server
use Words.ask
use Words.ending
use Words.message
use Words.prepared
use Words.role
use Rattle.arj_law_runs.proofs.Terms
use Terms.{keeps_asked, moves_asked, at, posted, said, up, Up, Walks, Run, entries_from}
use Rattle.arj_law_runs.proofs.calls.Given.{KeepsGiven, kept_both}
use Rattle.arj_law_runs.proofs.kept.Starts.{first_at}
use Rattle.arj_law_serial.proofs.past.Past.{past_keep}
use Rattle.arj_law_serial.specs.past.Told.{EndsArePast}
use Rattle.arj_protocol.specs.Step.{pair_with}

-- the disk has no entries, and none prepared
abbrev pub NoNames : Disk → Type 0
NoNames d = d.names ≡ record { held = []; pend = [] }

-- ---- works

-- the effect prepares no entries
abbrev leaves : Effect → Bool
leaves (Do (Prepare role.Names u states)) = false
leaves e = true

abbrev All : List Effect → Type 0
All outs = AreAll leaves outs

worked_bare : (w : Work) (d : Disk) → leaves (Do w) ≡ true → NoNames d → NoNames (worked w d)
worked_bare Look d its is = is
worked_bare (PutInc i) d its is = is
worked_bare (Prepare role.Store u states) d its is = is
worked_bare (Prepare role.Names u states) d its is = absurd (cc its)
worked_bare (Commit role.Store u) d its is = is
worked_bare (Commit role.Names u) d its is = ap (pair_committed u) is
worked_bare (Abort role.Store u) d its is = is
worked_bare (Abort role.Names u) d its is = ap (pair_aborted u) is
worked_bare (PutIntent u i) d its is = is
worked_bare (RemoveIntent u) d its is = is

in_part_bare : (which : Uid → Bool) (w : Work) (d : Disk) → NoNames d → NoNames (stopped (InPart which) w d)
in_part_bare which Look d is = is
in_part_bare which (PutInc i) d is = is
in_part_bare which (Prepare r u states) d is = is
in_part_bare which (Commit role.Store u) d is = is
in_part_bare which (Commit role.Names u) d is = ap (pair_in_part which u) is
in_part_bare which (Abort r u) d is = is
in_part_bare which (PutIntent u i) d is = is
in_part_bare which (RemoveIntent u) d is = is

stopped_bare : (how : Stop) (w : Work) (d : Disk) → leaves (Do w) ≡ true → NoNames d → NoNames (stopped how w d)
stopped_bare Before w d its is = is
stopped_bare After w d its is = worked_bare w d its is
stopped_bare (InPart which) w d its is = in_part_bare which w d is

-- ---- effects

kind_leaves : (kind : Effect → Bool) → ((e : Effect) → kind e ≡ true → leaves e ≡ true) → (es : List Effect) → AreAll kind es → All es
kind_leaves kind each [] all = refl
kind_leaves kind each (e ∷ es) all =
    let p = and_parts (kind e) (list_all kind es) all in let good = each e p.0 in λ i. good i && kind_leaves kind each es p.1 i

coord_one : (e : Effect) → is_coord_effect e ≡ true → leaves e ≡ true
coord_one (Say b) is = refl
coord_one (Send to m) is = refl
coord_one (Do (Prepare role.Names u states)) is = absurd (cc is)
coord_one (Do w) is = refl

coord_leaves : (es : List Effect) → AreAll is_coord_effect es → All es
coord_leaves = kind_leaves is_coord_effect coord_one

server_one : (n : ℕ) (e : Effect) → is_server_effect n e ≡ true → leaves e ≡ true
server_one n (Say b) is = refl
server_one n (Send to m) is = refl
server_one n (Do w) is = absurd (cc is)

server_leaves : (n : ℕ) (es : List Effect) → AreAll (is_server_effect n) es → All es
server_leaves n = kind_leaves (is_server_effect n) (server_one n)

map_leaves : {A : Type 0} (f : A → Effect) (items : List A) → ((a : A) → leaves (f a) ≡ true) → All (map f items)
map_leaves f [] each = refl
map_leaves f (a ∷ items) each = λ i. each a i && map_leaves f items each i

-- ---- one message, at a node without naming

abbrev outs_of : Handled → List Effect
outs_of (Void outs) = outs
outs_of (Took t outs) = outs

module _ (n : ℕ) where
  answer_leaves : (from : ℕ) (h : Head) (t : Parts) (outs : List Effect) (r : Option Reply) → All outs → All (outs_of (sends_answer from h t outs r))
  answer_leaves from h t outs None all = refl
  answer_leaves from h t outs (Some r) all = all_both leaves outs (Send from (response (asked_by h) r) ∷ []) all refl

  served_leaves : {S R : Type 0} (from : ℕ) (h : Head) (put : S → Parts) (say : R → Reply) (r : Served S R) → All r.outs →
      All (outs_of (served from h put say r))
  served_leaves from h put say r all = answer_leaves from h (put r.part) r.outs (option_map say r.reply) all

  no_naming : (f : Naming → Handled) (o : Option Naming) → o ≡ None → All (outs_of (if_naming f o))
  no_naming f None is = refl
  no_naming f (Some o) is = let no_way : ◌≡◌ {A = Option Naming} (Some o) None = is in absurd (cc no_way)

  load_leaves : (x : ℕ) (d : Pair) (from : ℕ) (h : Head) (t : Parts) (holder : Option Uid) → All (outs_of (load_by x d from h t holder))
  load_leaves x d from h t (Some holder) = refl
  load_leaves x d from h t None = by (held_at (object x) d)
    where
      by : (s : Option ObjectState) → All (outs_of (load_held from h t s))
      by None = refl
      by (Some s) = refl

  prepare_leaves : (d : Pair) (states : List ObjectState) (from : ℕ) (h : Head) (t : Parts) → All (outs_of (prepare_states n d states from h t))
  prepare_leaves d states from h t = by (is_prepared (actor h.path) d)
    where
      answer : (p : Prep) → All (outs_of (prepare_by n states from h t p))
      answer Ready = refl
      answer (Already u) = refl
      answer (Old u v) = refl
      answer (InDoubt u holder) = refl

      by : (b : Bool) → All (outs_of (cond b (sends_answer from h t [] (Some (Reply.Prepared prepared.Yes)))
          (prepare_by n states from h t (prepare_answer (actor h.path) states d))))
      by true = refl
      by false = answer (prepare_answer (actor h.path) states d)

  serve_leaves : (d : Disk) (t : Parts) (from : ℕ) (h : Head) (a : Ask) → t.naming ≡ None → All (outs_of (serve n d t from h a))
  serve_leaves d t from h (ask.Bind x include avoid) none =
      no_naming (λ o. served from h (with_naming t) Reply.Bound (naming.bind h.path x include avoid d.names o)) t.naming none
  serve_leaves d t from h (ask.Load x) none = load_leaves x d.store from h t (holder_of (object x) d.store)
  serve_leaves d t from h (ask.Activate b st) none =
      let r = server.activate n h.path b st t.server in
      served_leaves from h (with_server t) Reply.Activated r (server_leaves n r.outs (activate_own n h.path b st t.server))
  serve_leaves d t from h (ask.Record x b i g) none =
      no_naming (λ o. served from h (with_naming t) Reply.Noted (naming.note h.path x b i g o)) t.naming none
  serve_leaves d t from h (ask.Invoke x b i es op) none =
      let r = server.invoke n h x b i es op t.server in
      served_leaves from h (with_server t) Reply.Invoked r (server_leaves n r.outs (invoke_own n h x b i es op t.server))
  serve_leaves d t from h (ask.Vote i ties es) none =
      let r = server.vote n h.path i ties es t.server in
      served_leaves from h (with_server t) Reply.Voted r (server_leaves n r.outs (vote_own n h.path i ties es t.server))
  serve_leaves d t from h (ask.Prepare states) none = prepare_leaves d.store states from h t
  serve_leaves d t from h (ask.Confirm grants excluded included) none =
      no_naming (λ o. served from h (with_naming t) Reply.Confirmed (confirm h.path grants excluded included d.names o)) t.naming none

  told_leaves : (d : Disk) (t : Parts) (from : ℕ) (ack : Bool) (es : List (Uid × End)) (u : Uid) (e : End) → t.naming ≡ None →
      All (outs_of (handle_told n d t from ack es u e))
  told_leaves d t from ack es u e none =
      all_both leaves (store_told n u e d.store ++ (naming_told u e d.names t.naming).outs ++ (server.told n es t.server).outs)
      (ack_told from u ack)
      (all_both leaves (store_told n u e d.store ++ (naming_told u e d.names t.naming).outs) (server.told n es t.server).outs
      (all_both leaves (store_told n u e d.store) (naming_told u e d.names t.naming).outs (store (is_prepared u d.store) e)
      (names t.naming none))
      (server_leaves n (server.told n es t.server).outs (ends_own n es t.server)))
      (acks ack)
    where
      store : (b : Bool) (e : End) → All (cond b (end_states n u e) [])
      store false e = refl
      store true ending.Commit = refl
      store true ending.Abort = refl

      names : (o : Option Naming) → o ≡ None → All (naming_told u e d.names o).outs
      names None is = refl
      names (Some o) is = let no_way : ◌≡◌ {A = Option Naming} (Some o) None = is in absurd (cc no_way)

      acks : (b : Bool) → All (ack_told from u b)
      acks true = refl
      acks false = refl

  replied : (t : Parts) (outs : List Effect) (r : Option (Unit {0})) → All outs → All (outs_of (by_reply t outs r))
  replied t outs None all = refl
  replied t outs (Some u) all = all

  other_leaves : (d : Disk) (t : Parts) (from : ℕ) (m : Message) → t.naming ≡ None → All (outs_of (handle_other n d t from m))
  other_leaves d t from (message.Told m) none = by (last_end m.ends)
    where
      by : (o : Option (Uid × End)) → All (outs_of (handle_ends n d t from m.ack m.ends o))
      by None = refl
      by (Some e) = told_leaves d t from m.ack m.ends e.0 e.1 none
  other_leaves d t from (message.Acked m) none = let r = acked from m.act d.intents t.coord in
      replied (with_coord t r.part) r.outs r.reply (coord_leaves r.outs (acked_own from m.act d.intents t.coord))
  other_leaves d t from (message.Query m) none = coord_leaves (answer_query from m.act d.intents t.coord) (query_own from m.act d.intents t.coord)
  other_leaves d t from (message.Hello m) none = map_leaves query_about (filter (is_earlier m.node m.inc) (holders d t)) (λ u. refl)
  other_leaves d t from m none = refl

  handle_leaves : (d : Disk) (t : Parts) (from : ℕ) (m : Message) → t.naming ≡ None → All (outs_of (handle n d t from m))
  handle_leaves d t from m none = asked (asks m)
    where
      answered : (a : Option (Asked × Reply)) → All (outs_of (handle_answer n d t from m a))
      answered None = other_leaves d t from m none
      answered (Some a) = let r = heard from a.0 a.1 d.intents t.coord in
          replied (with_coord t r.part) r.outs r.reply (coord_leaves r.outs (heard_own from a.0 a.1 d.intents t.coord))

      asked : (a : Option (Head × Ask)) → All (outs_of (handle_ask n d t from m a))
      asked None = answered (answers m)
      asked (Some a) = serve_leaves d t from a.0 a.1 none

  -- ---- a restart

  restart_leaves : (hd : Header) (inc : ℕ) (d : Disk) → All (restart_outs hd n inc d)
  restart_leaves hd inc d =
      let back = naming_back (naming_at n inc d.names) in
      let records = Do Look ∷ recovered_records n d.intents in
      let questions = map query_about (uid_set (prepared_actions d.store ++ prepared_actions d.names)) in
      let hellos = map (hello_to n inc) (without_number n (numbers_to hd.nodes)) in
      let first = Do Look ∷ Do (PutInc inc) ∷ Say (body.Up n inc) ∷ Do Look ∷ back in
      all_both leaves (first ++ records ++ tolds_again d.intents ++ questions) hellos
      (all_both leaves (first ++ records ++ tolds_again d.intents) questions
      (all_both leaves (first ++ records) (tolds_again d.intents)
      (all_both leaves first records (named (n == 1)) (map_leaves _ d.intents (λ e. refl)))
      (coord_leaves (tolds_again d.intents) (tolds_again_own d.intents)))
      (map_leaves query_about (uid_set (prepared_actions d.store ++ prepared_actions d.names)) (λ u. refl)))
      (map_leaves (hello_to n inc) (without_number n (numbers_to hd.nodes)) (λ m. refl))
    where
      named : (b : Bool) → All (naming_back (cond b (Some (recovered_naming inc d.names)) None))
      named false = refl
      named true = let o = recovered_naming inc d.names in
          all_flat leaves (λ (e : ℕ × Named). back_lines e.1) o.objects (λ e. map_leaves _ e.1.rows (λ r. refl))

-- ---- one node

-- each node but node 1 has none
abbrev pub AreBare : Seen → Type 0
AreBare M = (n : ℕ) (m : Node) → M.nodes n ≡ Some m → (n == 1) ≡ false → NoNames m.disk

module _ (k : ℕ) where
  abbrev Others : Seen → Type 0
  Others N = (n : ℕ) (m : Node) → (n == k) ≡ false → N.nodes n ≡ Some m → (n == 1) ≡ false → NoNames m.disk

  abbrev Own : Disk → Type 0
  Own d = (k == 1) ≡ false → NoNames d

  others_of : (d : Disk) (live : Option Parts) (M : Seen) → AreBare (at k d live M) → Others M
  others_of d live M all n m off is =
      all n m ((λ i. cond (off i) (Some (record { number = k; disk = d; live = live })) (M.nodes n)) ∙ is)

  own_of : (d : Disk) (live : Option Parts) (M : Seen) → AreBare (at k d live M) → Own d
  own_of d live M all = all k (record { number = k; disk = d; live = live })
      (λ i. cond (same_number k i) (Some (record { number = k; disk = d; live = live })) (M.nodes k))

  back : (d : Disk) (live : Option Parts) (N : Seen) → Others N → Own d → AreBare (at k d live N)
  back d live N others own n m is = by (n == k) refl is
    where
      x : Node
      x = record { number = k; disk = d; live = live }

      by : (b : Bool) → (n == k) ≡ b → cond b (Some x) (N.nodes n) ≡ Some m → (n == 1) ≡ false → NoNames m.disk
      by true same there off =
          let here : x ≡ m = cc in
          subst (λ (y : Node). NoNames y.disk) here (own (ap (λ j. j == 1) (sym (eqb-true n k same)) ∙ off))
      by false other there off = others n m other there off

  walk : (e : ℕ) (es : List Effect) (v : Parts) (d : Disk) (N : Seen) → ((k == 1) ≡ false → All es) → Others N → Own d →
      Walks AreBare e k es (Up AreBare k v) d N
  walk e [] v d N all others own = back d (Some v) N others own
  walk e (Do w ∷ es) v d N all others own = (
    λ how. back (stopped how w d) None N others (λ off. stopped_bare how w d (parts off).0 (own off)),
    walk e es v (worked w d) N (λ off. (parts off).1) others (λ off. worked_bare w d (parts off).0 (own off)),
  )
    where
      parts : (k == 1) ≡ false → (leaves (Do w) ≡ true) × All es
      parts off = and_parts (leaves (Do w)) (list_all leaves es) (all off)
  walk e (Say b ∷ es) v d N all others own = walk e es v d (said e (b ∷ []) N) all others own
  walk e (Send to m ∷ es) v d N all others own = λ more quiet.
      walk e es v d (said e more (posted (record { from = k; to = to; message = m }) N)) all others own

-- ---- handlers

bare_given : (hd : Header) → KeepsGiven hd EndsArePast AreBare
bare_given hd = record {
  quiet = λ e bs M quiet past bare. bare;
  stop = λ e k d live M past bare. back k d None M (others_of k d live M bare) (own_of k d live M bare);
  message = λ e k d t v from m outs M past bare there meant is.
      walk k e outs v d M (λ off. subst (λ (h : Handled). All (outs_of h)) is (handle_leaves k d t from m (nobody k d t M past off)))
      (others_of k d (Some t) M bare) (own_of k d (Some t) M bare);
  act = λ e k d t i M is none past bare. let did = does i d.intents t.coord in
      walk k e did.outs (with_coord t did.part) d M (λ off. coord_leaves did.outs (acts_own i d.intents t.coord))
      (others_of k d (Some t) M bare) (own_of k d (Some t) M bare);
  begin = λ e k d t l how parent M new may none past bare.
      back k d (Some (with_coord t (begin_action l how parent (parent_of parent t.coord) t.coord).part)) M
      (others_of k d (Some t) M bare) (own_of k d (Some t) M bare);
  tick = λ e k d t M past bare.
      let r = again_all t.coord.doings t.coord in
      walk k e (tick_outs (record { number = k; disk = d; live = Some t }) t) (with_coord t r.part) d M (λ off.
      all_both leaves (r.outs ++ tolds_again t.coord.telling) (map query_about (holders d t))
      (all_both leaves r.outs (tolds_again t.coord.telling) (coord_leaves r.outs (again_own t.coord.doings t.coord))
      (coord_leaves (tolds_again t.coord.telling) (tolds_again_own t.coord.telling)))
      (map_leaves query_about (holders d t) (λ u. refl))) (others_of k d (Some t) M bare) (own_of k d (Some t) M bare);
  restart = λ e k d M past bare. walk k e (restart_outs hd k (d.inc + 1) d) (parts_in k (d.inc + 1) d) d M (λ off. restart_leaves k hd (d.inc + 1) d)
      (others_of k d None M bare) (own_of k d None M bare);
  first = λ st formed n m is off. subst (λ (y : Node). NoNames y.disk) (first_at hd st n m is)
      (λ i. pair_with (cond (off i) (entries hd st n) []));
}
  where
    -- naming is at node 1
    nobody : (k : ℕ) (d : Disk) (t : Parts) (M : Seen) → EndsArePast (up k d t M) → (k == 1) ≡ false → t.naming ≡ None
    nobody k d t M past off = by t.naming refl
      where
        there : is_some t.naming ≡ (k == 1)
        there =
            let node = (let p = past.2 in p.nodes k (record { number = k; disk = d; live = Some t })
            (λ i. cond (same_number k i) (Some (record { number = k; disk = d; live = Some t })) (M.nodes k))) in
            (let l = node.live t refl in l.place)

        by : (o : Option Naming) → t.naming ≡ o → o ≡ None
        by None is = refl
        by (Some o) is = let no_way : true ≡ false = sym (ap is_some is) ∙ there ∙ off in absurd (cc no_way)

    entries : (hd : Header) (st : Start) (n : ℕ) → List ObjectState
    entries hd st n = entries_from 1 hd st.marks

-- so it is in every run
pub runs_name_nothing : (hd : Header) (r : Run hd) (n : ℕ) (m : Node) → at_place n (world_by hd r).nodes ≡ Some m → (n == 1) ≡ false →
    NoNames m.disk
runs_name_nothing hd r n m is =
    let h = moves_asked hd (λ M. EndsArePast M × AreBare M) (keeps_asked hd (λ M. EndsArePast M × AreBare M)
    (kept_both hd EndsArePast AreBare (past_keep hd) (bare_given hd))) r in
    h.holds.1 n m is
