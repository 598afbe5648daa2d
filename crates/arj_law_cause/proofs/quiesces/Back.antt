-- What a node sends that handles a request of a commit, an end or a question: one message at most, to who sent it.
use Rattle.arj_law_parts.proofs.Words
use Words.{◌≡◌, ◌≤◌, ◌+◌, ◌==◌, ◌&&◌, ◌||◌, ℕ, zero, suc, Bool, true, false, cond, List, [], ◌∷◌, ◌++◌, refl, sym, ap, subst, arith}
use Words.{nat_tests, ◌∙◌}
use Words.{Option, Some, None, option_map, list_all, and_parts, all_both, AreAll, End, Head, Message}
use Words.{ObjectState, Uid}
use Words.{Reply, actor, asked_by, response, last_end}
use Words.{Disk, Do, Effect, Intent, Pair, Prep, Say, Send, Served, has, Naming, Parts, Ran}
use Words.{Void, Coord, at_uid, is_prepared, prepare_answer, prepare_by, prepare_states, Ready, Already, Old, InDoubt}
use Words.{answer_query, tell, root_or_self, is_kept_commit}
use Words.{ack_told, end_states, handle, handle_ends, handle_told, if_naming, is_meant, most_rounds, naming_told, store_told}
use Words.{next_round, ran, rounds, sends_answer, served, taken, whole, with_naming, with_server, worked}
use Words.{first_done, first_queued}
use Words.{is_naming_effect, confirm, confirm_own, ends_own, told_own, vote_own}
use Words.ending
use Words.message
use Words.naming
use Words.server
use Rattle.arj_law_runs.proofs.bindings.Handled.{outs_of}
use Rattle.arj_law_cause.proofs.quiesces.Sends.{count_both, count_sent, naming_none, server_none}
use Rattle.arj_protocol.specs.Ending.{answer_decided, answer_recorded, is_deferred}
use Rattle.arj_protocol.specs.Tree.{branch_of, is_open}

-- who takes it sends nothing but an answer
abbrev pub is_back : Message → Bool
is_back (message.Vote m) = true
is_back (message.Prepare m) = true
is_back (message.Confirm m) = true
is_back (message.Told m) = true
is_back (message.Query m) = true
is_back _ = false

-- a message goes there alone
abbrev pub goes_to : ℕ → Effect → Bool
goes_to from (Send to m) = to == from
goes_to from e = true

abbrev pub SendsBack : ℕ → List Effect → Type 0
SendsBack from es = (count_sent es ≤ 1) × AreAll (goes_to from) es

same_node : (x : ℕ) → (x == x) ≡ true
same_node x = grind (arith, nat_tests)

module _ (from : ℕ) where
  none_back : (es : List Effect) → count_sent es ≡ 0 → AreAll (goes_to from) es
  none_back [] none = refl
  none_back (Send to m ∷ es) none = never (count_sent es) none
    where
      never : {A : Type 0} (k : ℕ) → 1 + k ≡ 0 → A
      never k is = absurd (omega (arith, is))
  none_back (Say b ∷ es) none = none_back es none
  none_back (Do w ∷ es) none = none_back es none

  silent : SendsBack from []
  silent = (omega arith, refl)

  -- what sends nothing, and then one message
  one_back : (outs : List Effect) (m : Message) → count_sent outs ≡ 0 → SendsBack from (outs ++ Send from m ∷ [])
  one_back outs m none = (
    low (count_sent (outs ++ Send from m ∷ [])) (count_sent outs) (count_both outs (Send from m ∷ [])) none,
    all_both (goes_to from) outs (Send from m ∷ []) (none_back outs none) (λ i. same_node from i && true),
  )
    where
      low : (a b : ℕ) → a ≡ b + (1 + 0) → b ≡ 0 → a ≤ 1
      low a b one nil = omega (arith, one, nil)

  served_back : {S R : Type 0} (h : Head) (put : S → Parts) (say : R → Reply) (r : Served S R) → count_sent r.outs ≡ 0 →
      SendsBack from (outs_of (served from h put say r))
  served_back {S} {R} h put say r none = by r.reply
    where
      by : (o : Option R) → SendsBack from (outs_of (sends_answer from h (put r.part) r.outs (option_map say o)))
      by None = silent
      by (Some y) = one_back r.outs (response (asked_by h) (say y)) none

  prepare_back : (n : ℕ) (d : Pair) (states : List ObjectState) (h : Head) (t : Parts) → SendsBack from
      (outs_of (prepare_states n d states from h t))
  prepare_back n d states h t = by (is_prepared (actor h.path) d)
    where
      answer : (p : Prep) → SendsBack from (outs_of (prepare_by n states from h t p))
      answer Ready = (omega arith, (λ i. same_node from i && true))
      answer (Already u) = (omega arith, refl)
      answer (Old u v) = (omega arith, (λ i. same_node from i && true))
      answer (InDoubt u holder) = (omega arith, (λ i. same_node from i && true))

      by : (b : Bool) → SendsBack from (outs_of (cond b (sends_answer from h t [] (Some (Reply.Prepared Words.prepared.Yes)))
          (prepare_by n states from h t (prepare_answer (actor h.path) states d))))
      by true = (omega arith, (λ i. same_node from i && true))
      by false = answer (prepare_answer (actor h.path) states d)

  naming_back : {R : Type 0} (t : Parts) (h : Head) (say : R → Reply) (f : Naming → Served Naming R) (o : Option Naming) →
      ((m : Naming) → AreAll is_naming_effect (f m).outs) → SendsBack from (outs_of (if_naming (λ m. served from h (with_naming t) say
      (f m)) o))
  naming_back t h say f None own = silent
  naming_back t h say f (Some m) own = served_back h (with_naming t) say (f m) (naming_none (f m).outs (own m)).0

  told_back : (n : ℕ) (d : Disk) (t : Parts) (ack : Bool) (ends : List (Uid × End)) (u : Uid) (e : End) →
      SendsBack from (outs_of (handle_told n d t from ack ends u e))
  told_back n d t ack ends u e = by ack
    where
      front : List Effect
      front = store_told n u e d.store ++ (naming_told u e d.names t.naming).outs ++ (server.told n ends t.server).outs

      store : (b : Bool) (e : End) → count_sent (cond b (end_states n u e) []) ≡ 0
      store false e = refl
      store true ending.Commit = refl
      store true ending.Abort = refl

      names : (o : Option Naming) → count_sent (naming_told u e d.names o).outs ≡ 0
      names None = refl
      names (Some o) = (naming_none (naming.told u e d.names o).outs (told_own u e d.names o)).0

      all : (a b c s k : ℕ) → s ≡ k + c → k ≡ a + b → a ≡ 0 → b ≡ 0 → c ≡ 0 → s ≡ 0
      all a b c s k x y p q r = omega (arith, x, y, p, q, r)

      none : count_sent front ≡ 0
      none = all (count_sent (store_told n u e d.store)) (count_sent (naming_told u e d.names t.naming).outs)
          (count_sent (server.told n ends t.server).outs) (count_sent front)
          (count_sent (store_told n u e d.store ++ (naming_told u e d.names t.naming).outs))
          (count_both (store_told n u e d.store ++ (naming_told u e d.names t.naming).outs) (server.told n ends t.server).outs)
          (count_both (store_told n u e d.store) (naming_told u e d.names t.naming).outs)
          (store (is_prepared u d.store) e) (names t.naming)
          (server_none n (server.told n ends t.server).outs (ends_own n ends t.server)).0

      low : (a b : ℕ) → a ≡ b + 0 → b ≡ 0 → a ≤ 1
      low a b is nil = omega (arith, is, nil)

      by : (b : Bool) → SendsBack from (front ++ ack_told from u b)
      by true = one_back front (message.Acked (record { act = u })) none
      by false = (
        low (count_sent (front ++ [])) (count_sent front) (count_both front []) none,
        all_both (goes_to from) front [] (none_back front none) refl,
      )

  query_back : (u : Uid) (intents : List (Uid × Intent)) (c : Coord) → SendsBack from (answer_query from u intents c)
  query_back u intents c = first (is_open u c.tree || is_deferred u intents from)
    where
      tells : (root : Uid) (ack : Bool) (ends : List (Uid × End)) → SendsBack from (tell root ack ends from ∷ [])
      tells root ack ends = (omega arith, (λ i. same_node from i && true))

      decided_by : (b : Bool) → SendsBack from (cond b (tell (root_or_self u (branch_of u c.tree)) false
          ((u, ending.Commit) ∷ []) from ∷ [])
          (tell (root_or_self u (branch_of u c.tree)) false ((u, ending.Abort) ∷ []) from ∷ []))
      decided_by true = tells (root_or_self u (branch_of u c.tree)) false ((u, ending.Commit) ∷ [])
      decided_by false = tells (root_or_self u (branch_of u c.tree)) false ((u, ending.Abort) ∷ [])

      decided : SendsBack from (answer_decided from u c)
      decided = decided_by (is_kept_commit from u c)

      listed : (i : Intent) (b : Bool) → SendsBack from (cond b (tell i.root true ((u, ending.Commit) ∷ []) from ∷ [])
          (answer_decided from u c))
      listed i true = tells i.root true ((u, ending.Commit) ∷ [])
      listed i false = decided

      recorded : (o : Option Intent) → SendsBack from (answer_recorded from u c o)
      recorded None = decided
      recorded (Some i) = listed i (has i.nodes from)

      first : (b : Bool) → SendsBack from (cond b [] (answer_recorded from u c (at_uid u intents)))
      first true = silent
      first false = recorded (at_uid u intents)

  handled_back : (n : ℕ) (d : Disk) (t : Parts) (m : Message) → is_back m ≡ true → SendsBack from (outs_of (handle n d t from m))
  handled_back n d t (message.Vote m) is =
      let h = m.head in
      let r = server.vote n h.path m.server_inc m.objects m.ends t.server in
      served_back h (with_server t) Reply.Voted r (server_none n r.outs (vote_own n h.path m.server_inc m.objects m.ends t.server)).0
  handled_back n d t (message.Prepare m) is = prepare_back n d.store m.states m.head t
  handled_back n d t (message.Confirm m) is =
      let h = m.head in
      naming_back t h Reply.Confirmed (confirm h.path m.objects m.excluded m.included d.names) t.naming
      (confirm_own h.path m.objects m.excluded m.included d.names)
  handled_back n d t (message.Told m) is = by (last_end m.ends)
    where
      by : (o : Option (Uid × End)) → SendsBack from (outs_of (handle_ends n d t from m.ack m.ends o))
      by None = silent
      by (Some e) = told_back n d t m.ack m.ends e.0 e.1
  handled_back n d t (message.Query m) is = query_back m.act d.intents t.coord
  handled_back n d t (message.Bind m) is = absurd (cc is)
  handled_back n d t (message.Bound m) is = absurd (cc is)
  handled_back n d t (message.Load m) is = absurd (cc is)
  handled_back n d t (message.Loaded m) is = absurd (cc is)
  handled_back n d t (message.Activate m) is = absurd (cc is)
  handled_back n d t (message.Activated m) is = absurd (cc is)
  handled_back n d t (message.RecordMsg m) is = absurd (cc is)
  handled_back n d t (message.Recorded m) is = absurd (cc is)
  handled_back n d t (message.Invoke m) is = absurd (cc is)
  handled_back n d t (message.Invoked m) is = absurd (cc is)
  handled_back n d t (message.Voted m) is = absurd (cc is)
  handled_back n d t (message.Prepared m) is = absurd (cc is)
  handled_back n d t (message.Confirmed m) is = absurd (cc is)
  handled_back n d t (message.Acked m) is = absurd (cc is)
  handled_back n d t (message.Hello m) is = absurd (cc is)

  pub taken_back : (n : ℕ) (d : Disk) (t : Parts) (m : Message) → is_back m ≡ true → SendsBack from (outs_of (taken n d t from m))
  taken_back n d t m is = by (is_meant t m)
    where
      by : (b : Bool) → SendsBack from (outs_of (cond b (handle n d t from m) (Void [])))
      by true = handled_back n d t m is
      by false = silent

-- ---- a whole step

-- what goes to another node doesn't stay
module _ (n from : ℕ) (apart : (from == n) ≡ false) where
  away : (to : ℕ) → (to == from) ≡ true → (to == n) ≡ false
  away to is = grind (arith, nat_tests, is, apart)

  goes_out : (v : Parts) (es : List Effect) (d : Disk) → AreAll (goes_to from) es →
      ((ran n v es d).queue ≡ []) × (count_sent (ran n v es d).outs ≡ count_sent es)
  goes_out v [] d all = (refl, refl)
  goes_out v (Say b ∷ es) d all = goes_out v es d all
  goes_out v (Do w ∷ es) d all = goes_out v es (worked w d) all
  goes_out v (Send to m ∷ es) d all =
      let p = and_parts (to == from) (list_all (goes_to from) es) all in
      let ih = goes_out v es d p.1 in by (to == n) (away to p.0) ih
    where
      by : (b : Bool) → b ≡ false → ((ran n v es d).queue ≡ []) × (count_sent (ran n v es d).outs ≡ count_sent es) →
          ((cond b (first_queued m (ran n v es d)) (first_done (Send to m) (ran n v es d))).queue ≡ [])
          × (count_sent (cond b (first_queued m (ran n v es d)) (first_done (Send to m) (ran n v es d))).outs ≡ 1 + count_sent es)
      by true no_way ih = absurd (cc no_way)
      by false is ih = (ih.0, ap (λ k. 1 + k) ih.1)

  no_rounds : (j : ℕ) (r : Ran) → r.queue ≡ [] → count_sent (rounds n j r).outs ≡ count_sent r.outs
  no_rounds zero r none = refl
  no_rounds (suc j) r none = by r.queue none
    where
      one : List Message → Ran
      one q = elim q [ [] ↦ r | m ∷ ms ↦ rounds n j (next_round n r) ]

      by : (q : List Message) → q ≡ [] → count_sent (one q).outs ≡ count_sent r.outs
      by [] is = refl
      by (m ∷ ms) is = absurd (cc is)

  pub whole_back : (v : Parts) (outs : List Effect) (d : Disk) → SendsBack from outs → count_sent (whole n v outs d).outs ≤ 1
  whole_back v outs d its =
      let g = goes_out v outs d its.1 in
      subst (λ k. k ≤ 1) (sym (no_rounds most_rounds (ran n v outs d) g.0 ∙ g.1)) its.0
