-- What a node sends as it restarts, and what it sends when it takes that, are no requests and no answers.
use Rattle.arj_law_parts.proofs.Words
use Words.{◌≡◌, ⊤, ℕ, ◌||◌, Bool, true, false, cond, List, [], ◌∷◌, ◌++◌, refl, sym, subst, AllByRecursion, Option, Some, None, ◌==◌}
use Words.{filter, map, Asked, Ask, End, Head, Header, Message, Uid, asks, answers, Reply, last_end, Disk, Do, Effect, Intent, Look}
use Words.{PutInc, Say}
use Words.{Send, worked, acked, answer_query, tell, tell_all, Coord, Named, Naming, Handled, Here, Parts, Ran, Took, Void, ack_told}
use Words.{by_reply}
use Words.{first_done, first_queued, handle, handle_all, handle_answer, handle_ask, handle_ends, handle_other, holders, is_earlier}
use Words.{is_meant}
use Words.{naming_told, next_round, prepared_actions, query_about, ran, ran_handled, store_told, taken, with_coord, is_prepared, uid_set}
use Words.{without_number, is_naming_effect, is_server_effect, end_states, hello_to, naming_at, naming_back, numbers_to, recovered_records}
use Words.{restart_outs, tolds_again, ends_own, told_own, AreAll, back_lines, at_uid, has, root_or_self, not, is_kept_commit, ◌&&◌}
use Words.{tolds_let_go, uid_eq, without_uid}
use Words.body
use Words.ending
use Words.message
use Words.naming
use Words.server
use Rattle.arj_law_parts.proofs.parts.SaidIncs.{all_both, all_flat, all_map, all_quiet}
use Rattle.arj_protocol.specs.Ending.{acked_by, acked_left, answer_decided, answer_recorded, is_deferred, is_over, let_go}
use Rattle.arj_protocol.specs.Tree.{branch_of, is_open}

-- it is no request and no answer
abbrev pub IsOther : Message → Type 0
IsOther m = (asks m ≡ None) × (answers m ≡ None)

-- nothing else is sent
abbrev pub SendsOther : Effect → Type 0
SendsOther (Send to m) = IsOther m
SendsOther e = ⊤

abbrev pub SendOthers : List Effect → Type 0
SendOthers outs = AllByRecursion SendsOther outs

both : (es fs : List Effect) → SendOthers es → SendOthers fs → SendOthers (es ++ fs)
both es fs a b = all_both SendsOther es fs a b

server_others : (n : ℕ) (es : List Effect) → AreAll (is_server_effect n) es → SendOthers es
server_others n es own = all_quiet SendsOther (is_server_effect n) (λ to m. refl) one es own
  where
    one : (f : Effect) → is_server_effect n f ≡ true → SendsOther f
    one (Say b) is = tt
    one (Send to m) is = absurd (cc is)
    one (Do w) is = tt

naming_others : (es : List Effect) → AreAll is_naming_effect es → SendOthers es
naming_others es own = all_quiet SendsOther is_naming_effect (λ to m. refl) one es own
  where
    one : (f : Effect) → is_naming_effect f ≡ true → SendsOther f
    one (Say b) is = tt
    one (Send to m) is = absurd (cc is)
    one (Do w) is = tt

tells_others : (root : Uid) (ack : Bool) (ends : List (Uid × End)) (nodes : List ℕ) → SendOthers (tell_all root ack ends nodes)
tells_others root ack ends nodes = all_map SendsOther (tell root ack ends) nodes (λ n. (refl, refl))

again_others : (telling : List (Uid × Intent)) → SendOthers (tolds_again telling)
again_others telling = all_flat SendsOther (λ (e : Uid × Intent). tell_all e.1.root true ((e.0, ending.Commit) ∷ []) e.1.nodes) telling
    (λ e. tells_others e.1.root true ((e.0, ending.Commit) ∷ []) e.1.nodes)

queries_others : (us : List Uid) → SendOthers (map query_about us)
queries_others us = all_map SendsOther query_about us (λ u. (refl, refl))

-- ---- handled

outs_of : Handled → List Effect
outs_of (Void outs) = outs
outs_of (Took t outs) = outs

abbrev Leads : Handled → Type 0
Leads (Void outs) = SendOthers outs
Leads (Took t outs) = SendOthers outs

module _ (n : ℕ) (d : Disk) (t : Parts) (from : ℕ) where
  told_leads : (ack : Bool) (ends : List (Uid × End)) (o : Option (Uid × End)) → Leads (handle_ends n d t from ack ends o)
  told_leads ack ends None = tt
  told_leads ack ends (Some e) =
      let s = server.told n ends t.server in
      let o = naming_told e.0 e.1 d.names t.naming in
      both (store_told n e.0 e.1 d.store ++ o.outs ++ s.outs) (ack_told from e.0 ack)
      (both (store_told n e.0 e.1 d.store ++ o.outs) s.outs
      (both (store_told n e.0 e.1 d.store) o.outs (stored (is_prepared e.0 d.store) e.1) (named t.naming))
      (server_others n s.outs (ends_own n ends t.server))) (acks ack)
    where
      stored : (b : Bool) (how : End) → SendOthers (cond b (end_states n e.0 how) [])
      stored false how = tt
      stored true ending.Commit = (tt, (tt, tt))
      stored true ending.Abort = (tt, (tt, tt))

      named : (o : Option Naming) → SendOthers (let r = naming_told e.0 e.1 d.names o in r.outs)
      named None = tt
      named (Some o) = naming_others (naming.told e.0 e.1 d.names o).outs (told_own e.0 e.1 d.names o)

      acks : (b : Bool) → SendOthers (ack_told from e.0 b)
      acks true = ((refl, refl), tt)
      acks false = tt

  query_leads : (u : Uid) (intents : List (Uid × Intent)) (c : Coord) → SendOthers (answer_query from u intents c)
  query_leads u intents c = by (is_open u c.tree || is_deferred u intents from)
    where
      decided : SendOthers (answer_decided from u c)
      decided = one (is_kept_commit from u c)
        where
          one : (b : Bool) → SendOthers (cond b (tell (root_or_self u (branch_of u c.tree)) false ((u, ending.Commit) ∷ []) from ∷ [])
              (tell (root_or_self u (branch_of u c.tree)) false ((u, ending.Abort) ∷ []) from ∷ []))
          one true = ((refl, refl), tt)
          one false = ((refl, refl), tt)

      recorded : (o : Option Intent) → SendOthers (answer_recorded from u c o)
      recorded None = decided
      recorded (Some i) = one (has i.nodes from)
        where
          one : (b : Bool) → SendOthers (cond b (tell i.root true ((u, ending.Commit) ∷ []) from ∷ []) (answer_decided from u c))
          one true = ((refl, refl), tt)
          one false = decided

      by : (b : Bool) → SendOthers (cond b [] (answer_recorded from u c (at_uid u intents)))
      by true = tt
      by false = recorded (at_uid u intents)

  acked_leads : (u : Uid) (intents : List (Uid × Intent)) (c : Coord) → SendOthers (acked from u intents c).outs
  acked_leads u intents c = by (at_uid u c.telling)
    where
      gone : (o : Option Intent) → SendOthers (tolds_let_go u (without_uid u intents) c o)
      gone None = tt
      gone (Some i) = one (not (uid_eq i.root u) && is_over (branch_of i.root c.tree))
        where
          one : (b : Bool) →
              SendOthers (cond b (tell_all i.root false ((i.root, ending.Abort) ∷ []) (let_go i.root (without_uid u intents) c i.nodes)) [])
          one true = tells_others i.root false ((i.root, ending.Abort) ∷ []) (let_go i.root (without_uid u intents) c i.nodes)
          one false = tt

      left : (i : Intent) (ns : List ℕ) → SendOthers (acked_left u i intents c ns).outs
      left i [] = (tt, gone (at_uid u intents))
      left i (m ∷ ms) = tt

      by : (o : Option Intent) → SendOthers (acked_by from u intents c o).outs
      by None = tt
      by (Some i) = one (has i.nodes from)
        where
          one : (b : Bool) → SendOthers (cond b (acked_left u i intents c (without_number from i.nodes))
              (record { part = c; outs = []; reply = None })).outs
          one true = left i (without_number from i.nodes)
          one false = tt

  reply_leads : (v : Parts) (outs : List Effect) (r : Option (Unit {0})) → SendOthers outs → Leads (by_reply v outs r)
  reply_leads v outs None all = tt
  reply_leads v outs (Some u) all = all

  other_leads : (m : Message) → Leads (handle_other n d t from m)
  other_leads (message.Told m) = told_leads m.ack m.ends (last_end m.ends)
  other_leads (message.Acked m) = let r = acked from m.act d.intents t.coord in
      reply_leads (with_coord t r.part) r.outs r.reply (acked_leads m.act d.intents t.coord)
  other_leads (message.Query m) = query_leads m.act d.intents t.coord
  other_leads (message.Hello m) = queries_others (filter (is_earlier m.node m.inc) (holders d t))
  other_leads m = tt

  pub taken_leads : (m : Message) → IsOther m → Leads (taken n d t from m)
  taken_leads m is = by (is_meant t m)
    where
      handles : Leads (handle n d t from m)
      handles = subst (λ (o : Option (Head × Ask)). Leads (handle_ask n d t from m o)) (sym is.0)
          (subst (λ (o : Option (Asked × Reply)). Leads (handle_answer n d t from m o)) (sym is.1) (other_leads m))

      by : (b : Bool) → Leads (cond b (handle n d t from m) (Void []))
      by true = handles
      by false = tt

-- ---- what waits

abbrev pub WaitOthers : Ran → Type 0
WaitOthers r = AllByRecursion IsOther r.queue

messages_both : (xs ys : List Message) → AllByRecursion IsOther xs → AllByRecursion IsOther ys → AllByRecursion IsOther (xs ++ ys)
messages_both [] ys a b = b
messages_both (x ∷ xs) ys a b = (a.0, messages_both xs ys a.1 b)

pub ran_others : (n : ℕ) (t : Parts) (es : List Effect) (d : Disk) → SendOthers es → WaitOthers (ran n t es d)
ran_others n t [] d all = tt
ran_others n t (Say b ∷ es) d all = ran_others n t es d all.1
ran_others n t (Do w ∷ es) d all = ran_others n t es (worked w d) all.1
ran_others n t (Send to m ∷ es) d all = by (to == n) (ran_others n t es d all.1)
  where
    by : (b : Bool) → WaitOthers (ran n t es d) → WaitOthers
        (cond b (first_queued m (ran n t es d)) (first_done (Send to m) (ran n t es d)))
    by true rest = (all.0, rest)
    by false rest = rest

handled_others : (n : ℕ) (h : Here) (a : Handled) → Leads a → WaitOthers (ran_handled n h a)
handled_others n h (Void outs) all = ran_others n h.parts outs h.disk all
handled_others n h (Took t outs) all = ran_others n t outs h.disk all

all_others : (n : ℕ) (ms : List Message) (h : Here) → AllByRecursion IsOther ms → WaitOthers (handle_all n ms h)
all_others n [] h all = tt
all_others n (m ∷ ms) h all =
    let r = ran_handled n h (taken n h.disk h.parts n m) in
    messages_both r.queue (handle_all n ms r.here).queue
    (handled_others n h (taken n h.disk h.parts n m) (taken_leads n h.disk h.parts n m all.0))
    (all_others n ms r.here all.1)

pub next_others : (n : ℕ) (r : Ran) → WaitOthers r → WaitOthers (next_round n r)
next_others n r all = all_others n r.queue r.here all

-- ---- a restart

pub restart_others : (hd : Header) (k inc : ℕ) (d : Disk) → SendOthers (restart_outs hd k inc d)
restart_others hd k inc d =
    let back = naming_back (naming_at k inc d.names) in
    let records = Do Look ∷ recovered_records k d.intents in
    let asking = map query_about (uid_set (prepared_actions d.store ++ prepared_actions d.names)) in
    let first = Do Look ∷ Do (PutInc inc) ∷ Say (body.Up k inc) ∷ Do Look ∷ back in
    both (first ++ records ++ tolds_again d.intents ++ asking) (map (hello_to k inc) (without_number k (numbers_to hd.nodes)))
    (both (first ++ records ++ tolds_again d.intents) asking
    (both (first ++ records) (tolds_again d.intents)
    (both first records (tt, (tt, (tt, (tt, backs (naming_at k inc d.names))))) (tt, all_map SendsOther _ d.intents (λ e. tt)))
    (again_others d.intents))
    (queries_others (uid_set (prepared_actions d.store ++ prepared_actions d.names))))
    (all_map SendsOther (hello_to k inc) (without_number k (numbers_to hd.nodes)) (λ n. (refl, refl)))
  where
    backs : (o : Option Naming) → SendOthers (naming_back o)
    backs None = tt
    backs (Some o) = all_flat SendsOther (λ (e : ℕ × Named). back_lines e.1) o.objects (λ e. all_map SendsOther _ e.1.rows (λ r. tt))
