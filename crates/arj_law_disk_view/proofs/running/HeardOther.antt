-- What coordinators have of naming's answers, where a message is taken that asks nothing and answers nothing.
use Rattle.arj_law_parts.proofs.Words
use Words.{◌≡◌, ◌≤◌, ℕ, if◌then◌else◌, Bool, true, false, List, [], ◌∷◌, ◌++◌, Option, Some, None, refl, sym, ◌∙◌, ap, subst, inl, map}
use Words.{filter, not, ◌&&◌, ◌||◌, AllByRecursion, list_all, and_parts, End, Message, Uid, asks, uid_eq, answers, last_end, Coord, root_at}
use Words.{Abort, After, Before, Commit, Disk, Do, Effect, InPart, Intent, Look, Pair, Prepare, PutInc, PutIntent, RemoveIntent, Say, Send}
use Words.{Stop, Work, is_prepared, stopped, worked, acked, acked_by, acked_left, answer_decided, answer_query, answer_recorded}
use Words.{is_deferred, is_kept_commit, let_go, root_or_self, tell, tell_all, tolds_let_go, Naming, Handled, Parts, Took, Void, ack_told}
use Words.{by_reply, end_states, handle, handle_answer, handle_ask, handle_ends, handle_other, holders, is_earlier, naming_told}
use Words.{query_about, store_told, with_coord, naming_hello, at_uid, without_number, without_uid, put_uid, uid_number, AreAll}
use Words.{is_names_work, is_naming_effect, is_server_effect, branch_of, is_open, ends_own, told_own, Seen}
use Words.ending
use Words.message
use Words.role
use Words.naming
use Words.order
use Words.server
use Rattle.arj_law_disk_view.proofs.Terms.{is_over, Office, never, some_is, up, Walks, Up, Kinds, SeesBoth, Quietly, SeesHeard, HoldsFrom}
use Rattle.arj_law_disk_view.proofs.running
use running.{HeardCoord.mine, HeardCoord.quiet_step, HeardLike.IsLike, HeardLike.at_like, HeardQuiet.fixed_in}
use running.HeardPosts.{Rises, SaysHeard, all_join, all_mapped, queries_say}
use running.HeardStays.{at_stays, memory_goes, memory_stays}

-- ---- what parts do

-- the disk's incarnation is left
abbrev pub leaves : Work → Bool
leaves (PutInc i) = false
leaves _ = true

pub leaves_rises : (i : ℕ) (w : Work) → leaves w ≡ true → Rises i w
leaves_rises i w is c low = ((λ how. by w how is), same w is)
  where
    same : (w : Work) → leaves w ≡ true → i ≤ (worked w c).inc
    same Look on = low
    same (PutInc j) on = absurd (cc on)
    same (Prepare role.Store a states) on = low
    same (Prepare role.Names a states) on = low
    same (Commit role.Store a) on = low
    same (Commit role.Names a) on = low
    same (Abort role.Store a) on = low
    same (Abort role.Names a) on = low
    same (PutIntent t j) on = low
    same (RemoveIntent t) on = low

    part : (w : Work) (which : Uid → Bool) → leaves w ≡ true → i ≤ (stopped (InPart which) w c).inc
    part Look which on = low
    part (PutInc j) which on = absurd (cc on)
    part (Prepare r a states) which on = low
    part (Commit role.Store a) which on = low
    part (Commit role.Names a) which on = low
    part (Abort r a) which on = low
    part (PutIntent t j) which on = low
    part (RemoveIntent t) which on = low

    by : (w : Work) (how : Stop) → leaves w ≡ true → i ≤ (stopped how w c).inc
    by w Before on = low
    by w After on = same w on
    by w (InPart which) on = part w which on

-- what a node took
abbrev took_in : Handled → Option (Parts × List Effect)
took_in (Void outs) = None
took_in (Took v outs) = Some (v, outs)

pub took_to : (G : Parts → List Effect → Type 0) (p : Parts) (es : List Effect) (v : Parts) (outs : List Effect) → Took p es ≡ Took v outs →
    G p es → G v outs
took_to G p es v outs is g = let e : (p, es) ≡ (v, outs) = some_is refl (ap took_in is) in
    subst (λ (z : Parts × List Effect). G z.0 z.1) e g

module _ (x i : ℕ) (A : Office) where
  abbrev Q : Effect → Type 0
  Q e = SaysHeard x i A e

  pub names_say : (es : List Effect) → AreAll is_naming_effect es → AllByRecursion Q es
  names_say [] all = tt
  names_say (Say b ∷ es) all = (tt, names_say es (and_parts (is_naming_effect (Say b)) (list_all is_naming_effect es) all).1)
  names_say (Send to m ∷ es) all = absurd (never all refl)
  names_say (Do w ∷ es) all = let z = and_parts (is_names_work w) (list_all is_naming_effect es) all in
      (leaves_rises i w (by w z.0), names_say es z.1)
    where
      by : (w : Work) → is_names_work w ≡ true → leaves w ≡ true
      by Look on = refl
      by (PutInc j) on = on
      by (Prepare r a states) on = refl
      by (Commit r a) on = refl
      by (Abort r a) on = refl
      by (PutIntent t j) on = refl
      by (RemoveIntent t) on = refl

  pub server_says : (n : ℕ) (es : List Effect) → AreAll (is_server_effect n) es → AllByRecursion Q es
  server_says n [] all = tt
  server_says n (Say b ∷ es) all = (tt, server_says n es (and_parts (is_server_effect n (Say b)) (list_all (is_server_effect n) es) all).1)
  server_says n (Send to m ∷ es) all = absurd (never all refl)
  server_says n (Do w ∷ es) all = absurd (never all refl)

  tells_say : (root : Uid) (ack : Bool) (ends : List (Uid × End)) (ns : List ℕ) → AllByRecursion Q (tell_all root ack ends ns)
  tells_say root ack ends ns = all_mapped Q (tell root ack ends) ns (λ n. (refl, tt))

  told_says : (k from : ℕ) (d : Pair) (e : Pair) (o : Option Naming) (s : server.Server) (ack : Bool) (ends : List (Uid × End)) (u : Uid)
      (how : End)
      → AllByRecursion Q (store_told k u how d ++ (naming_told u how e o).outs ++ (server.told k ends s).outs ++ ack_told from u ack)
  told_says k from d e o s ack ends u how =
      all_join Q (store_told k u how d ++ (naming_told u how e o).outs ++ (server.told k ends s).outs) (ack_told from u ack)
      (all_join Q (store_told k u how d ++ (naming_told u how e o).outs) (server.told k ends s).outs
      (all_join Q (store_told k u how d) (naming_told u how e o).outs (stored (is_prepared u d) how) (named o))
      (server_says k (server.told k ends s).outs (ends_own k ends s)))
      (acks ack)
    where
      stored : (b : Bool) (how : End) → AllByRecursion Q (if b then end_states k u how else [])
      stored true ending.Commit = (leaves_rises i (Commit role.Store u) refl, (tt, tt))
      stored true ending.Abort = (leaves_rises i (Abort role.Store u) refl, (tt, tt))
      stored false h = tt

      named : (o : Option Naming) → AllByRecursion Q (naming_told u how e o).outs
      named None = tt
      named (Some n) = names_say (naming.told u how e n).outs (told_own u how e n)

      acks : (b : Bool) → AllByRecursion Q (ack_told from u b)
      acks true = ((refl, tt), tt)
      acks false = tt

  -- an acknowledgement
  acked_says : (from : ℕ) (u : Uid) (intents : List (Uid × Intent)) (c : Coord) → AllByRecursion Q (acked from u intents c).outs
  acked_says from u intents c = by (at_uid u c.telling)
    where
      let_go_says : (o : Option Intent) → AllByRecursion Q (tolds_let_go u (without_uid u intents) c o)
      let_go_says None = tt
      let_go_says (Some j) = one (not (uid_eq j.root u) && is_over (branch_of j.root c.tree))
        where
          one : (b : Bool) → AllByRecursion Q
              (if b then tell_all j.root false ((j.root, ending.Abort) ∷ []) (let_go j.root (without_uid u intents) c j.nodes) else [])
          one true = tells_say j.root false ((j.root, ending.Abort) ∷ []) (let_go j.root (without_uid u intents) c j.nodes)
          one false = tt

      left : (j : Intent) (ns : List ℕ) → AllByRecursion Q (acked_left u j intents c ns).outs
      left j [] = (leaves_rises i (RemoveIntent u) refl, let_go_says (at_uid u intents))
      left j (n ∷ ns) = tt

      has_it : (j : Intent) (b : Bool) → AllByRecursion Q
          (if b then acked_left u j intents c (without_number from j.nodes) else record { part = c; outs = []; reply = None }).outs
      has_it j true = left j (without_number from j.nodes)
      has_it j false = tt

      by : (o : Option Intent) → AllByRecursion Q (acked_by from u intents c o).outs
      by None = tt
      by (Some j) = has_it j (order.has j.nodes from)

  -- a question
  query_says : (from : ℕ) (u : Uid) (intents : List (Uid × Intent)) (c : Coord) → AllByRecursion Q (answer_query from u intents c)
  query_says from u intents c = first (is_open u c.tree || is_deferred u intents from)
    where
      decided : (b : Bool) → AllByRecursion Q (if b then tell (root_or_self u (branch_of u c.tree)) false ((u, ending.Commit) ∷ []) from
          ∷ [] else tell (root_or_self u (branch_of u c.tree)) false ((u, ending.Abort) ∷ []) from ∷ [])
      decided true = ((refl, tt), tt)
      decided false = ((refl, tt), tt)

      listed : (j : Intent) (b : Bool) →
          AllByRecursion Q (if b then tell j.root true ((u, ending.Commit) ∷ []) from ∷ [] else answer_decided from u c)
      listed j true = ((refl, tt), tt)
      listed j false = decided (is_kept_commit from u c)

      recorded : (o : Option Intent) → AllByRecursion Q (answer_recorded from u c o)
      recorded None = decided (is_kept_commit from u c)
      recorded (Some j) = listed j (order.has j.nodes from)

      first : (b : Bool) → AllByRecursion Q (if b then [] else answer_recorded from u c (at_uid u intents))
      first true = tt
      first false = recorded (at_uid u intents)

-- what is told again alone is changed by an acknowledgement
telling_like : (c : Coord) (telling : List (Uid × Intent)) → IsLike c (record c { telling = telling })
telling_like c telling =
    record { own = λ u. refl; branches = λ w. inl refl; works = λ u q does. inl does; roots = λ u. ((root_at u c).went, refl) }

acked_like : (from : ℕ) (u : Uid) (intents : List (Uid × Intent)) (c : Coord) → IsLike c (acked from u intents c).part
acked_like from u intents c = by (at_uid u c.telling)
  where
    left : (j : Intent) (ns : List ℕ) → IsLike c (acked_left u j intents c ns).part
    left j [] = telling_like c (without_uid u c.telling)
    left j (n ∷ ns) = telling_like c (put_uid u (record j { nodes = n ∷ ns }) c.telling)

    has_it : (j : Intent) (b : Bool) →
        IsLike c (if b then acked_left u j intents c (without_number from j.nodes) else record { part = c; outs = []; reply = None }).part
    has_it j true = left j (without_number from j.nodes)
    has_it j false = telling_like c c.telling

    by : (o : Option Intent) → IsLike c (acked_by from u intents c o).part
    by None = telling_like c c.telling
    by (Some j) = has_it j (order.has j.nodes from)

-- ---- a message

module _ (x : ℕ) (tops : Kinds) (e k : ℕ) (d : Disk) (t v : Parts) (from : ℕ) (m : Message) (outs : List Effect) (M : Seen) (A : Office)
    (both : SeesBoth x tops A (up k d t M)) (p : SeesHeard x tops A (up k d t M)) where
  abbrev Goal : Parts → List Effect → Type 0
  Goal w es = IsLike t.coord w.coord × AllByRecursion (SaysHeard x d.inc A) es

  taken_goal : (w : Parts) (es : List Effect) → Took w es ≡ Took v outs → Goal w es → Goal v outs
  taken_goal w es is g = took_to Goal w es v outs is g

  same_like : IsLike t.coord t.coord
  same_like = telling_like t.coord (let c = t.coord in c.telling)

  by_other : (z : Message) → handle_other k d t from z ≡ Took v outs → Goal v outs
  by_other (message.Told z) is = by_end (last_end z.ends) is
    where
      by_end : (o : Option (Uid × End)) → handle_ends k d t from z.ack z.ends o ≡ Took v outs → Goal v outs
      by_end None g = taken_goal t [] g (same_like, tt)
      by_end (Some w) g = took_to Goal
          (record { server = (server.told k z.ends t.server).part; naming = (naming_told w.0 w.1 d.names t.naming).part; coord = t.coord })
          (store_told k w.0 w.1 d.store ++ (naming_told w.0 w.1 d.names t.naming).outs ++ (server.told k z.ends t.server).outs
          ++ ack_told from w.0 z.ack) v outs g
          (same_like, told_says x d.inc A k from d.store d.names t.naming t.server z.ack z.ends w.0 w.1)
  by_other (message.Acked z) is = by (acked from z.act d.intents t.coord).reply is
    where
      by : (o : Option (Unit {0})) → by_reply (with_coord t (acked from z.act d.intents t.coord).part)
          (acked from z.act d.intents t.coord).outs o ≡ Took v outs → Goal v outs
      by None g = absurd (cc g)
      by (Some u) g = taken_goal (with_coord t (acked from z.act d.intents t.coord).part) (acked from z.act d.intents t.coord).outs g
          (acked_like from z.act d.intents t.coord, acked_says x d.inc A from z.act d.intents t.coord)
  by_other (message.Query z) is =
      taken_goal t (answer_query from z.act d.intents t.coord) is (same_like, query_says x d.inc A from z.act d.intents t.coord)
  by_other (message.Hello z) is = took_to Goal (record t { naming = naming_hello z.node z.inc t.naming })
      (map query_about (filter (is_earlier z.node z.inc) (holders d t))) v outs is
      (same_like, queries_say x d.inc A (filter (is_earlier z.node z.inc) (holders d t)))
  by_other (message.Bind z) is = absurd (cc is)
  by_other (message.Bound z) is = absurd (cc is)
  by_other (message.Load z) is = absurd (cc is)
  by_other (message.Loaded z) is = absurd (cc is)
  by_other (message.Activate z) is = absurd (cc is)
  by_other (message.Activated z) is = absurd (cc is)
  by_other (message.RecordMsg z) is = absurd (cc is)
  by_other (message.Recorded z) is = absurd (cc is)
  by_other (message.Invoke z) is = absurd (cc is)
  by_other (message.Invoked z) is = absurd (cc is)
  by_other (message.Vote z) is = absurd (cc is)
  by_other (message.Voted z) is = absurd (cc is)
  by_other (message.Prepare z) is = absurd (cc is)
  by_other (message.Prepared z) is = absurd (cc is)
  by_other (message.Confirm z) is = absurd (cc is)
  by_other (message.Confirmed z) is = absurd (cc is)

  -- it is kept along the step, and who waits does so still
  pub other_heard : asks m ≡ None → answers m ≡ None → handle k d t from m ≡ Took v outs → IsLike t.coord v.coord
      × Walks (HoldsFrom (SeesHeard x) x tops Quietly A) e k outs (Up (HoldsFrom (SeesHeard x) x tops Quietly A) k v) d M
  other_heard none also is =
      let g = by_other m (sym (ap (handle_answer k d t from m) also) ∙ (sym (ap (handle_ask k d t from m) none) ∙ is)) in (
        g.0,
        quiet_step x tops k d t M A both p v
            (λ N B only h more. at_like t.coord v.coord g.0 x k tops N.sent B
            (at_stays x tops A B (fixed_in x tops A (up k d t M) both) h (memory_goes A B only) k M.sent N.sent t.coord more
            (λ u own kind. memory_stays tops A B only (tops.root (uid_number u))) (mine x tops k d t M A both p)))
            e outs M refl refl g.1,
      )
