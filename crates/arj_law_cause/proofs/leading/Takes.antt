-- What a node makes of a message leads to no more than the message; and so does a whole step, whatever the node sends to itself.
use Rattle.arj_law_parts.proofs.Words
use Words.{◌≡◌, ◌≤◌, ◌<◌, ◌∙◌, ◌+◌, ◌==◌, ℕ, zero, suc, Bool, true, false, cond, List, [], ◌∷◌, ◌++◌, map, filter, length}
use Words.{refl, sym, ap, subst, arith, nat_tests, Option, Some, None, option_map, AreAll, last_end, asked_by, response}
use Words.{actor}
use Words.{Reply, Head, End, Uid, ObjectState, Message, Asked, Coord, Disk, Do, Effect, Say, Send, Look, Prep, Ready, Already, Old}
use Words.{InDoubt, Pair}
use Words.{Prepare, Served, Naming, Parts, Handled, Took, Void, Here, Ran, taken}
use Words.{taken_took}
use Words.{handle, handle_all, handle_ends, handle_told, coord_heard, by_reply, if_naming, is_meant, sends_answer, served}
use Words.{with_coord}
use Words.{with_naming, with_server, load_by, load_held, held_at, holder_of, object, prepare_by, prepare_states, prepare_answer}
use Words.{is_prepared}
use Words.{store_told, naming_told, ack_told, end_states, holders, is_earlier, query_about, first_done, first_queued, most_rounds}
use Words.{next_round}
use Words.{ran, ran_handled, rounds, whole, worked, heard, acked, answer_query, confirm}
use Words.{activate_own, bind_own, confirm_own, ends_own, invoke_own, note_own, told_own, vote_own, is_naming_effect}
use Words.body
use Words.role
use Words.ending
use Words.loaded
use Words.message
use Words.naming
use Words.prepared
use Words.server
use Rattle.arj_law_parts.proofs.moves.Rounds.{LooksAlone, taken_looks}
use Rattle.arj_law_cause.proofs.leading.Loads as loads
use loads.{lead, left_all, times}
use Rattle.arj_law_cause.proofs.leading.Spends as spends
use Rattle.arj_law_cause.proofs.quiesces.Sends.{naming_none, server_none, count_sent}
use Rattle.arj_law_cause.proofs.sending.Ordered.{AllPut, UpCoord, UpRecords, message_up}
use Rattle.arj_law_cause.proofs.sending.Wholes.{Good, looks_put, ran_good}
use Rattle.arj_law_cause.proofs.spelled.Lists.{filter_shorter}

-- With `n` nodes, of node `k`, where a hello leads to `hello`, and one to itself to `own`.
module _ (n k hello own : ℕ) where
  abbrev load : List Effect → ℕ
  load es = loads.load n k hello own es

  abbrev left : Coord → ℕ
  left c = left_all n c.doings

  -- what is made of a message leads to so much at most, beside what there was to do
  abbrev pub SpendsHandled : ℕ → Parts → Handled → Type 0
  SpendsHandled a t (Void outs) = load outs ≤ a
  SpendsHandled a t (Took v outs) = load outs + left v.coord ≤ a + left t.coord

  least : (a : ℕ) → 0 ≤ a
  least a = omega arith

  module _ (from : ℕ) where
    -- ---- requests

    reply_lead : (z : ℕ) (a : Asked) (r : Reply) → lead n z (response a r) ≤ 0
    reply_lead z a (Reply.Bound r) = omega arith
    reply_lead z a (Reply.Loaded r) = omega arith
    reply_lead z a (Reply.Activated i) = omega arith
    reply_lead z a (Reply.Noted r) = omega arith
    reply_lead z a (Reply.Invoked r) = omega arith
    reply_lead z a (Reply.Voted r) = omega arith
    reply_lead z a (Reply.Prepared r) = omega arith
    reply_lead z a (Reply.Confirmed r) = omega arith

    answer_spends : (h : Head) (t v : Parts) (outs : List Effect) (r : Reply) → load outs ≡ 0 → left v.coord ≡ left t.coord →
        SpendsHandled 1 t (sends_answer from h v outs (Some r))
    answer_spends h t v outs r none same = sum (load (outs ++ Send from (response (asked_by h) r) ∷ [])) (left v.coord) (left t.coord)
        (loads.behind_none n k hello own outs (Send from (response (asked_by h) r) ∷ []) 1 none
        (loads.one_load n k hello own 0 from (response (asked_by h) r) (λ z. reply_lead z (asked_by h) r))) same
      where
        sum : (x y c : ℕ) → x ≤ 1 → y ≡ c → x + y ≤ 1 + c
        sum x y c le is = omega (arith, le, is)

    served_spends : {S R : Type 0} (h : Head) (t : Parts) (put : S → Parts) (say : R → Reply) (r : Served S R) → count_sent r.outs ≡ 0 →
        left (put r.part).coord ≡ left t.coord → SpendsHandled 1 t (served from h put say r)
    served_spends {S} {R} h t put say r none same = by r.reply
      where
        by : (o : Option R) → SpendsHandled 1 t (sends_answer from h (put r.part) r.outs (option_map say o))
        by None = least 1
        by (Some y) = answer_spends h t (put r.part) r.outs (say y) (loads.unsent n k hello own r.outs none) same

    naming_spends : {R : Type 0} (t : Parts) (h : Head) (say : R → Reply) (f : Naming → Served Naming R) (o : Option Naming) →
        ((m : Naming) → AreAll is_naming_effect (f m).outs) → SpendsHandled 1 t (if_naming (λ m. served from h (with_naming t) say (f m)) o)
    naming_spends t h say f None all = least 1
    naming_spends t h say f (Some m) all = served_spends h t (with_naming t) say (f m) (naming_none (f m).outs (all m)).0 refl

    load_spends : (x : ℕ) (d : Pair) (h : Head) (t : Parts) (o : Option Uid) → SpendsHandled 1 t (load_by x d from h t o)
    load_spends x d h t (Some holder) = answer_spends h t t [] (Reply.Loaded (loaded.InDoubt holder)) refl refl
    load_spends x d h t None = by (held_at (object x) d)
      where
        by : (o : Option ObjectState) → SpendsHandled 1 t (load_held from h t o)
        by None = least 1
        by (Some s) = answer_spends h t t (Do Look ∷ []) (Reply.Loaded (loaded.State s)) refl refl

    prepare_spends : (i : ℕ) (d : Pair) (states : List ObjectState) (h : Head) (t : Parts) →
        SpendsHandled 1 t (prepare_states i d states from h t)
    prepare_spends i d states h t = by (is_prepared (actor h.path) d)
      where
        answer : (p : Prep) → SpendsHandled 1 t (prepare_by i states from h t p)
        answer Ready = answer_spends h t t (Do Look ∷ Do (Prepare role.Store (actor h.path) states)
            ∷ Say (body.Prepared i (actor h.path) role.Store) ∷ []) (Reply.Prepared prepared.Yes) refl refl
        answer (Already u) = least 1
        answer (Old u v) = answer_spends h t t (Do Look ∷ []) (Reply.Prepared (prepared.Old u.num v)) refl refl
        answer (InDoubt u holder) = answer_spends h t t (Do Look ∷ []) (Reply.Prepared (prepared.InDoubt u.num holder)) refl refl

        by : (b : Bool) → SpendsHandled 1 t (cond b (sends_answer from h t [] (Some (Reply.Prepared prepared.Yes)))
            (prepare_by i states from h t (prepare_answer (actor h.path) states d)))
        by true = answer_spends h t t [] (Reply.Prepared prepared.Yes) refl refl
        by false = answer (prepare_answer (actor h.path) states d)

    -- ---- tolds

    same_sum : (x a c : ℕ) → x ≤ a → x + c ≤ a + c
    same_sum x a c le = omega (arith, le)

    told_spends : (i : ℕ) (d : Disk) (t : Parts) (ack : Bool) (ends : List (Uid × End)) (u : Uid) (e : End) →
        SpendsHandled (cond ack (suc n) 0) t (handle_told i d t from ack ends u e)
    told_spends i d t ack ends u e = by ack
      where
        front : List Effect
        front = store_told i u e d.store ++ (naming_told u e d.names t.naming).outs ++ (server.told i ends t.server).outs

        store : (b : Bool) (e : End) → load (cond b (end_states i u e) []) ≡ 0
        store false e = refl
        store true ending.Commit = refl
        store true ending.Abort = refl

        names : (o : Option Naming) → load (naming_told u e d.names o).outs ≡ 0
        names None = refl
        names (Some o) = loads.unsent n k hello own (naming.told u e d.names o).outs (naming_none (naming.told u e d.names o).outs
            (told_own u e d.names o)).0

        all : (a b c s q : ℕ) → s ≡ q + c → q ≡ a + b → a ≡ 0 → b ≡ 0 → c ≡ 0 → s ≡ 0
        all a b c s q x y p r z = omega (arith, x, y, p, r, z)

        none : load front ≡ 0
        none = all (load (store_told i u e d.store)) (load (naming_told u e d.names t.naming).outs)
            (load (server.told i ends t.server).outs) (load front)
            (load (store_told i u e d.store ++ (naming_told u e d.names t.naming).outs))
            (loads.load_both n k hello own (store_told i u e d.store ++ (naming_told u e d.names t.naming).outs)
            (server.told i ends t.server).outs)
            (loads.load_both n k hello own (store_told i u e d.store) (naming_told u e d.names t.naming).outs)
            (store (is_prepared u d.store) e) (names t.naming)
            (loads.unsent n k hello own (server.told i ends t.server).outs (server_none i (server.told i ends t.server).outs
            (ends_own i ends t.server)).0)

        itself : (a : ℕ) → a ≤ a
        itself a = omega arith

        by : (b : Bool) → load (front ++ ack_told from u b) + left t.coord ≤ cond b (suc n) 0 + left t.coord
        by true = same_sum (load (front ++ ack_told from u true)) (suc n) (left t.coord)
            (loads.behind_none n k hello own front (ack_told from u true) (suc n) none
            (loads.one_load n k hello own n from (message.Acked (record { act = u })) (λ z. itself n)))
        by false = same_sum (load (front ++ [])) 0 (left t.coord) (loads.behind_none n k hello own front [] 0 none (omega arith))

    -- ---- any message

    coord_spends : (t : Parts) (r : Served Coord (Unit {0})) (a : ℕ) → load r.outs + left r.part ≤ a + left t.coord →
        SpendsHandled a t (coord_heard t r)
    coord_spends t r a le = by r.reply
      where
        by : (o : Option (Unit {0})) → SpendsHandled a t (by_reply (with_coord t r.part) r.outs o)
        by None = least a
        by (Some u) = le

    module _ (i : ℕ) (d : Disk) (t : Parts) (up : UpCoord t.coord) (records : UpRecords d.intents) where
      if_meant : (m : Message) (a : ℕ) → SpendsHandled a t (handle i d t from m) → SpendsHandled a t (taken i d t from m)
      if_meant m a le = by (is_meant t m)
        where
          by : (b : Bool) → SpendsHandled a t (cond b (handle i d t from m) (Void []))
          by true = le
          by false = least a

      -- what a node makes of it leads to no more, where a hello is worth the questions
      pub taken_spends : (m : Message) (z : ℕ) → ((x : _) → m ≡ message.Hello x → times (suc (suc (suc n))) (length (holders d t)) ≤ z) →
          SpendsHandled (lead n z m) t (taken i d t from m)
      taken_spends (message.Bind m) z few = if_meant (message.Bind m) 1 (
          let h = m.head in
          naming_spends t h Reply.Bound (naming.bind h.path m.x m.include m.avoid d.names) t.naming
          (bind_own h.path m.x m.include m.avoid d.names))
      taken_spends (message.Load m) z few = if_meant (message.Load m) 1
          (load_spends m.x d.store m.head t (holder_of (object m.x) d.store))
      taken_spends (message.Activate m) z few = if_meant (message.Activate m) 1 (
          let h = m.head in
          let r = server.activate i h.path m.binding m.state t.server in
          served_spends h t (with_server t) Reply.Activated r (server_none i r.outs (activate_own i h.path m.binding m.state
          t.server)).0 refl)
      taken_spends (message.RecordMsg m) z few = if_meant (message.RecordMsg m) 1 (
          let h = m.head in
          naming_spends t h Reply.Noted (naming.note h.path m.x m.binding m.server_inc m.naming_inc) t.naming
          (note_own h.path m.x m.binding m.server_inc m.naming_inc))
      taken_spends (message.Invoke m) z few = if_meant (message.Invoke m) 1 (
          let r = server.invoke i m.head m.x m.binding m.server_inc m.ends m.op t.server in
          served_spends m.head t (with_server t) Reply.Invoked r (server_none i r.outs
          (invoke_own i m.head m.x m.binding m.server_inc m.ends m.op t.server)).0 refl)
      taken_spends (message.Vote m) z few = if_meant (message.Vote m) 1 (
          let h = m.head in
          let r = server.vote i h.path m.server_inc m.objects m.ends t.server in
          served_spends h t (with_server t) Reply.Voted r (server_none i r.outs (vote_own i h.path m.server_inc m.objects m.ends
          t.server)).0
          refl)
      taken_spends (message.Prepare m) z few = if_meant (message.Prepare m) 1 (prepare_spends i d.store m.states m.head t)
      taken_spends (message.Confirm m) z few = if_meant (message.Confirm m) 1 (
          let h = m.head in
          naming_spends t h Reply.Confirmed (confirm h.path m.objects m.excluded m.included d.names) t.naming
          (confirm_own h.path m.objects m.excluded m.included d.names))
      taken_spends (message.Told m) z few = if_meant (message.Told m) (cond m.ack (suc n) 0) (by (last_end m.ends))
        where
          by : (o : Option (Uid × End)) → SpendsHandled (cond m.ack (suc n) 0) t (handle_ends i d t from m.ack m.ends o)
          by None = same_sum 0 (cond m.ack (suc n) 0) (left t.coord) (least (cond m.ack (suc n) 0))
          by (Some e) = told_spends i d t m.ack m.ends e.0 e.1
      taken_spends (message.Query m) z few = if_meant (message.Query m) (suc (suc n))
          (same_sum (load (answer_query from m.act d.intents t.coord)) (suc (suc n)) (left t.coord)
          (spends.query_load n k hello own from m.act d.intents t.coord))
      taken_spends (message.Acked m) z few = if_meant (message.Acked m) n (coord_spends t (acked from m.act d.intents t.coord) n
          (spends.acked_spends n k hello own from m.act d.intents t.coord records))
      taken_spends (message.Hello m) z few = if_meant (message.Hello m) z (same_sum (load (map query_about asked)) z (left t.coord)
          (less (load (map query_about asked)) (times three (length asked)) (times three (length (holders d t))) z
          (loads.asks_load n k hello own asked)
          (loads.times_longer three (length asked) (length (holders d t)) (filter_shorter (is_earlier m.node m.inc) (holders d t)))
          (few m refl)))
        where
          three : ℕ
          three = suc (suc (suc n))

          asked : List Uid
          asked = filter (is_earlier m.node m.inc) (holders d t)

          less : (a b c e : ℕ) → a ≤ b → b ≤ c → c ≤ e → a ≤ e
          less a b c e x y p = omega (arith, x, y, p)
      taken_spends (message.Bound m) z few = if_meant (message.Bound m) 0 (coord_spends t (heard from m.asked (Reply.Bound m.reply)
          d.intents
          t.coord) 0 (spends.heard_spends n k hello own from m.asked (Reply.Bound m.reply) d.intents t.coord up))
      taken_spends (message.Loaded m) z few = if_meant (message.Loaded m) 0 (coord_spends t (heard from m.asked (Reply.Loaded m.reply)
          d.intents t.coord) 0 (spends.heard_spends n k hello own from m.asked (Reply.Loaded m.reply) d.intents t.coord up))
      taken_spends (message.Activated m) z few = if_meant (message.Activated m) 0 (coord_spends t (heard from m.asked
          (Reply.Activated m.server_inc) d.intents t.coord) 0
          (spends.heard_spends n k hello own from m.asked (Reply.Activated m.server_inc) d.intents t.coord up))
      taken_spends (message.Recorded m) z few = if_meant (message.Recorded m) 0 (coord_spends t (heard from m.asked (Reply.Noted m.reply)
          d.intents t.coord) 0 (spends.heard_spends n k hello own from m.asked (Reply.Noted m.reply) d.intents t.coord up))
      taken_spends (message.Invoked m) z few = if_meant (message.Invoked m) 0 (coord_spends t (heard from m.asked (Reply.Invoked m.reply)
          d.intents t.coord) 0 (spends.heard_spends n k hello own from m.asked (Reply.Invoked m.reply) d.intents t.coord up))
      taken_spends (message.Voted m) z few = if_meant (message.Voted m) 0 (coord_spends t (heard from m.asked (Reply.Voted m.reply)
          d.intents
          t.coord) 0 (spends.heard_spends n k hello own from m.asked (Reply.Voted m.reply) d.intents t.coord up))
      taken_spends (message.Prepared m) z few = if_meant (message.Prepared m) 0 (coord_spends t (heard from m.asked (Reply.Prepared m.reply)
          d.intents t.coord) 0 (spends.heard_spends n k hello own from m.asked (Reply.Prepared m.reply) d.intents t.coord up))
      taken_spends (message.Confirmed m) z few = if_meant (message.Confirmed m) 0 (coord_spends t (heard from m.asked
          (Reply.Confirmed m.reply) d.intents t.coord) 0
          (spends.heard_spends n k hello own from m.asked (Reply.Confirmed m.reply) d.intents t.coord up))

  -- ---- what it leads to within a step

  module _ (here : loads.inside n k ≡ true) where
    abbrev queued : List Message → ℕ
    queued [] = 0
    queued (m ∷ ms) = suc (lead n own m) + queued ms

    queued_both : (xs ys : List Message) → queued (xs ++ ys) ≡ queued xs + queued ys
    queued_both [] ys = none (queued ys)
      where
        none : (a : ℕ) → a ≡ 0 + a
        none a = omega arith
    queued_both (x ∷ xs) ys = ap (λ a. suc (lead n own x) + a) (queued_both xs ys) ∙ three (suc (lead n own x)) (queued xs) (queued ys)
      where
        three : (a b c : ℕ) → a + (b + c) ≡ (a + b) + c
        three a b c = omega arith

    -- of messages to the node itself, of those that went out, and of what is left to do
    abbrev total : Ran → ℕ
    total r = (queued r.queue + load r.outs) + left (let h = r.here in let t = h.parts in t.coord)

    -- one to itself
    its_cost : (to : ℕ) (m : Message) → (to == k) ≡ true → loads.cost n k hello own to m ≡ suc (lead n own m)
    its_cost to m same = subst (λ i. loads.cost n k hello own i m ≡ suc (lead n own m)) (sym (is same))
        ((λ i. cond (here i) (suc (lead n (cond (k == k) own hello) m)) 0) ∙ (λ i. suc (lead n (cond (itself i) own hello) m)))
      where
        is : (to == k) ≡ true → to ≡ k
        is e = grind (arith, nat_tests, e)

        itself : (k == k) ≡ true
        itself = grind (arith, nat_tests)

    ran_total : (v : Parts) (es : List Effect) (d : Disk) → total (ran k v es d) ≡ load es + left v.coord
    ran_total v [] d = refl
    ran_total v (Say b ∷ es) d = ran_total v es d
    ran_total v (Do w ∷ es) d = ran_total v es (worked w d)
    ran_total v (Send to m ∷ es) d = by (to == k) refl (ran_total v es d)
      where
        r : Ran
        r = ran k v es d

        in_queue : (o a b l s c e : ℕ) → e ≡ o → (a + b) + l ≡ s + c → ((o + a) + b) + l ≡ (e + s) + c
        in_queue o a b l s c e same is = omega (arith, same, is)

        out : (w a b l s c : ℕ) → (a + b) + l ≡ s + c → (a + (w + b)) + l ≡ (w + s) + c
        out w a b l s c is = omega (arith, is)

        by : (b : Bool) → (to == k) ≡ b → total r ≡ load es + left v.coord →
            total (cond b (first_queued m r) (first_done (Send to m) r)) ≡ (loads.cost n k hello own to m + load es) + left v.coord
        by true is ih = in_queue (suc (lead n own m)) (queued r.queue) (load r.outs)
            (left (let h = r.here in let t = h.parts in t.coord)) (load es) (left v.coord) (loads.cost n k hello own to m)
            (its_cost to m is) ih
        by false is ih = out (loads.cost n k hello own to m) (queued r.queue) (load r.outs)
            (left (let h = r.here in let t = h.parts in t.coord)) (load es) (left v.coord) ih

    -- one message, which is no hello, as that would be worth too much
    one_total : (m : Message) (h : Here) → Good h → lead n own m < own →
        let r = ran_handled k h (taken k h.disk h.parts k m) in (total r ≤ lead n own m + left (let t = h.parts in t.coord)) × Good r.here
    one_total m h good few = by (taken k h.disk h.parts k m) refl
        (taken_spends k k h.disk h.parts good.1 good.0 m own (λ x is. absurd (never own (subst (λ y. lead n own y < own) is few))))
      where
        never : (a : ℕ) → a < a → ⊥
        never a less = omega (arith, less)

        void : (x y c a : ℕ) → x ≡ y + c → y ≤ a → x ≤ a + c
        void x y c a is le = omega (arith, is, le)

        took : (x y a : ℕ) → x ≡ y → y ≤ a → x ≤ a
        took x y a is le = omega (arith, is, le)

        by : (r : Handled) → taken k h.disk h.parts k m ≡ r → SpendsHandled (lead n own m) h.parts r →
            (total (ran_handled k h r) ≤ lead n own m + left (let t = h.parts in t.coord)) × Good (ran_handled k h r).here
        by (Void outs) is le = (
          void (total (ran k h.parts outs h.disk)) (load outs) (left (let t = h.parts in t.coord)) (lead n own m)
              (ran_total h.parts outs h.disk) le,
          ran_good k h.parts outs h.disk good.1 good.0 (looks_put outs (subst LooksAlone is (taken_looks k h.disk h.parts k m))),
        )
        by (Took v outs) is le =
            let so = message_up k h.disk h.parts v k m outs (taken_took k h.disk h.parts v k m outs is) good.1 in (
              took (total (ran k v outs h.disk)) (load outs + left v.coord) (lead n own m + left (let t = h.parts in t.coord))
                  (ran_total v outs h.disk) le,
              ran_good k v outs h.disk so.0 good.0 so.1,
            )

    all_total : (ms : List Message) (h : Here) → Good h → queued ms < own →
        (total (handle_all k ms h) ≤ queued ms + left (let t = h.parts in t.coord)) × Good (handle_all k ms h).here
    all_total [] h good few = (itself (left (let t = h.parts in t.coord)), good)
      where
        itself : (a : ℕ) → (0 + 0) + a ≤ 0 + a
        itself a = omega arith
    all_total (m ∷ ms) h good few =
        let r = ran_handled k h (taken k h.disk h.parts k m) in
        let t = handle_all k ms r.here in
        let one = one_total m h good (first (lead n own m) (queued ms) few) in
        let rest = all_total ms r.here one.1 (later (lead n own m) (queued ms) few) in (
          more (queued (r.queue ++ t.queue)) (queued r.queue) (queued t.queue) (load (r.outs ++ t.outs)) (load r.outs) (load t.outs)
              (left (let g = r.here in let p = g.parts in p.coord)) (left (let g = t.here in let p = g.parts in p.coord)) (lead n own m)
              (queued ms) (left (let p = h.parts in p.coord)) (queued_both r.queue t.queue) (loads.load_both n k hello own r.outs t.outs)
              one.0 rest.0,
          rest.1,
        )
      where
        first : (a b : ℕ) → suc a + b < own → a < own
        first a b less = omega (arith, less)

        later : (a b : ℕ) → suc a + b < own → b < own
        later a b less = omega (arith, less)

        more : (q a b o c e l m x y z : ℕ) → q ≡ a + b → o ≡ c + e → (a + c) + l ≤ x + z → (b + e) + m ≤ y + l →
            (q + o) + m ≤ (suc x + y) + z
        more q a b o c e l m x y z one two three four = omega (arith, one, two, three, four)

    rounds_total : (i : ℕ) (r : Ran) → Good r.here → total r < own →
        let q = rounds k i r in load q.outs + left (let h = q.here in let t = h.parts in t.coord) ≤ total r
    rounds_total zero r good few = less (queued r.queue) (load r.outs) (left (let h = r.here in let t = h.parts in t.coord))
      where
        less : (a b c : ℕ) → b + c ≤ (a + b) + c
        less a b c = omega arith
    rounds_total (suc i) r good few = by r.queue (within (load (rounds k i (next_round k r)).outs
        + left (let q = rounds k i (next_round k r) in let h = q.here in let p = h.parts in p.coord)) (total (next_round k r)) (total r)
        (rounds_total i (next_round k r) next.1 (still (total (next_round k r)) (total r) lower few)) lower)
      where
        t : Ran
        t = handle_all k r.queue r.here

        first : (a b c : ℕ) → (a + b) + c < own → a < own
        first a b c less = omega (arith, less)

        next : (total (handle_all k r.queue r.here) ≤ queued r.queue + left (let h = r.here in let p = h.parts in p.coord))
            × Good (handle_all k r.queue r.here).here
        next = all_total r.queue r.here good
            (first (queued r.queue) (load r.outs) (left (let h = r.here in let p = h.parts in p.coord)) few)

        lower : total (next_round k r) ≤ total r
        lower = sum (queued t.queue) (load (r.outs ++ t.outs)) (load r.outs) (load t.outs) (left (let h = t.here in let p = h.parts in
            p.coord))
            (queued r.queue) (left (let h = r.here in let p = h.parts in p.coord)) (loads.load_both n k hello own r.outs t.outs) next.0
          where
            sum : (a o c e l q m : ℕ) → o ≡ c + e → (a + e) + l ≤ q + m → (a + o) + l ≤ (q + c) + m
            sum a o c e l q m is le = omega (arith, is, le)

        still : (a b : ℕ) → a ≤ b → b < own → a < own
        still a b le few = omega (arith, le, few)

        within : (x a b : ℕ) → x ≤ a → a ≤ b → x ≤ b
        within x a b one two = omega (arith, one, two)

        one : List Message → Ran
        one q = elim q [ [] ↦ r | m ∷ ms ↦ rounds k i (next_round k r) ]

        less : (a b c : ℕ) → b + c ≤ (a + b) + c
        less a b c = omega arith

        by : (q : List Message) → load (rounds k i (next_round k r)).outs
            + left (let z = rounds k i (next_round k r) in let h = z.here in let p = h.parts in p.coord) ≤ total r →
            load (one q).outs + left (let z = one q in let h = z.here in let p = h.parts in p.coord) ≤ total r
        by [] rest = less (queued r.queue) (load r.outs) (left (let h = r.here in let p = h.parts in p.coord))
        by (m ∷ ms) rest = rest

    pub whole_spends : (t : Parts) (outs : List Effect) (d : Disk) → UpCoord t.coord → UpRecords d.intents → AllPut outs →
        load outs + left t.coord < own →
        let r = whole k t outs d in load r.outs + left (let h = r.here in let p = h.parts in p.coord) ≤ load outs + left t.coord
    whole_spends t outs d up all puts few =
        let same = ran_total t outs d in
        subst (λ a. load (whole k t outs d).outs + left (let r = whole k t outs d in let h = r.here in let p = h.parts in p.coord) ≤ a) same
        (rounds_total most_rounds (ran k t outs d) (ran_good k t outs d up all puts) (subst (λ a. a < own) (sym same) few))
