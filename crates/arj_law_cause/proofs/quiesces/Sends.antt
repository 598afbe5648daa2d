-- What a node sends that handles a request or an answer of a call: one message at most, which is again of a call.
use Rattle.arj_law_parts.proofs.Words
use Words.{◌≡◌, ◌≤◌, ◌+◌, ◌==◌, ◌&&◌, ℕ, zero, suc, Bool, true, false, cond, List, [], ◌∷◌, ◌++◌, length, refl, sym, ap, subst, arith}
use Words.{nat_tests, ◌∙◌}
use Words.{Option, Some, None, option_map, list_all, and_parts, length-append, all_both, AreAll, Ask, Asked, Body, End, Head, Message}
use Words.{ObjectState, Uid}
use Words.{object, request, Reply, actor, ask_kind, asked_by, reply_kind, response, heard, heard_by, heard_call, heard_doing, heard_none}
use Words.{heard_now, kept_at, moved_commit, step_call, waits_for_call, waits_for_commit, CallStep, Ended, Goal, On, Steps, At, ask_at}
use Words.{goes_on}
use Words.{Machine, Voting, Preparing, Confirming, ask_of, left_of, plan_of, Calling, Committing, Coord, Doing, Idle, Now, doing_of}
use Words.{is_free, on_root}
use Words.{Disk, Do, Effect, Intent, Look, Say, Send, Served, held_at, holder_of, has, root_of, Naming, Handled, Here, Parts, Ran, Took}
use Words.{Void}
use Words.{by_reply, coord_heard, first_done, first_queued, handle, handle_all, if_naming, is_meant, load_by, load_held, most_rounds}
use Words.{next_round, ran, ran_handled, rounds, sends_answer, serve, served, taken, whole, with_naming, with_server, worked}
use Words.{is_server_effect}
use Words.{is_naming_effect, activate_own, bind_own, invoke_own, note_own, root_moved, says, say_for, Label}
use Words.ask
use Words.calls
use Words.commit
use Words.loaded
use Words.message
use Words.naming
use Words.server
use Rattle.arj_law_runs.proofs.bindings.Handled.{outs_of}

-- ---- what is sent

-- a request or an answer of a call
abbrev pub of_call : Message → Bool
of_call (message.Bind m) = true
of_call (message.Bound m) = true
of_call (message.Load m) = true
of_call (message.Loaded m) = true
of_call (message.Activate m) = true
of_call (message.Activated m) = true
of_call (message.RecordMsg m) = true
of_call (message.Recorded m) = true
of_call (message.Invoke m) = true
of_call (message.Invoked m) = true
of_call _ = false

abbrev pub count_sent : List Effect → ℕ
count_sent [] = 0
count_sent (Send to m ∷ es) = 1 + count_sent es
count_sent (Say b ∷ es) = count_sent es
count_sent (Do w ∷ es) = count_sent es

abbrev is_call_effect : Effect → Bool
is_call_effect (Send to m) = of_call m
is_call_effect e = true

-- only such messages are sent
abbrev pub AllCalls : List Effect → Type 0
AllCalls es = AreAll is_call_effect es

-- one at most
abbrev pub SendsOne : List Effect → Type 0
SendsOne es = (count_sent es ≤ 1) × AllCalls es

pub count_both : (es fs : List Effect) → count_sent (es ++ fs) ≡ count_sent es + count_sent fs
count_both [] fs = none (count_sent fs)
  where
    none : (k : ℕ) → k ≡ 0 + k
    none k = omega arith
count_both (Send to m ∷ es) fs = ap (λ k. 1 + k) (count_both es fs) ∙ three (count_sent es) (count_sent fs)
  where
    three : (a b : ℕ) → 1 + (a + b) ≡ (1 + a) + b
    three a b = omega arith
count_both (Say b ∷ es) fs = count_both es fs
count_both (Do w ∷ es) fs = count_both es fs

-- effects of a part send nothing
unsent : (own : Effect → Bool) → ((to : ℕ) (m : Message) → own (Send to m) ≡ false) → (es : List Effect) → AreAll own es →
    (count_sent es ≡ 0) × AllCalls es
unsent own never [] all = (refl, refl)
unsent own never (Send to m ∷ es) all =
    let no_way : true ≡ false = sym (and_parts (own (Send to m)) (list_all own es) all).0 ∙ never to m in absurd (cc no_way)
unsent own never (Say b ∷ es) all = unsent own never es (and_parts (own (Say b)) (list_all own es) all).1
unsent own never (Do w ∷ es) all = unsent own never es (and_parts (own (Do w)) (list_all own es) all).1

pub server_none : (n : ℕ) (es : List Effect) → AreAll (is_server_effect n) es → (count_sent es ≡ 0) × AllCalls es
server_none n es all = unsent (is_server_effect n) (λ to m. refl) es all

pub naming_none : (es : List Effect) → AreAll is_naming_effect es → (count_sent es ≡ 0) × AllCalls es
naming_none es all = unsent is_naming_effect (λ to m. refl) es all

nothing_sent : SendsOne []
nothing_sent = (omega arith, refl)

-- ---- requests

module _ (n : ℕ) (d : Disk) (t : Parts) (from : ℕ) where
  answered_one : (h : Head) (v : Parts) (outs : List Effect) (r : Reply) → (count_sent outs ≡ 0) × AllCalls outs →
      of_call (response (asked_by h) r) ≡ true →
      SendsOne (outs_of (sends_answer from h v outs (Some r)))
  answered_one h v outs r quiet is = (
    low (count_sent (outs ++ Send from (response (asked_by h) r) ∷ [])) (count_sent outs) (count_both outs (Send from (response
        (asked_by h) r) ∷ [])) quiet.0,
    all_both is_call_effect outs (Send from (response (asked_by h) r) ∷ []) quiet.1 (λ i. is i && true),
  )
    where
      low : (a b : ℕ) → a ≡ b + (1 + 0) → b ≡ 0 → a ≤ 1
      low a b one nil = omega (arith, one, nil)

  served_one : {S R : Type 0} (h : Head) (put : S → Parts) (say : R → Reply) (r : Served S R) → (count_sent r.outs ≡ 0) × AllCalls r.outs →
      ((y : R) → of_call (response (asked_by h) (say y)) ≡ true) → SendsOne (outs_of (served from h put say r))
  served_one {S} {R} h put say r none each = by r.reply
    where
      by : (o : Option R) → SendsOne (outs_of (sends_answer from h (put r.part) r.outs (option_map say o)))
      by None = nothing_sent
      by (Some y) = answered_one h (put r.part) r.outs (say y) none (each y)

  naming_one : {R : Type 0} (h : Head) (say : R → Reply) (f : Naming → Served Naming R) (o : Option Naming) →
      ((m : Naming) → AreAll is_naming_effect (f m).outs) → ((y : R) → of_call (response (asked_by h) (say y)) ≡ true) →
      SendsOne (outs_of (if_naming (λ m. served from h (with_naming t) say (f m)) o))
  naming_one h say f None own each = nothing_sent
  naming_one h say f (Some m) own each = served_one h (with_naming t) say (f m) (naming_none (f m).outs (own m)) each

  load_one : (h : Head) (x : ℕ) (o : Option Uid) → SendsOne (outs_of (load_by x d.store from h t o))
  load_one h x (Some holder) = answered_one h t [] (Reply.Loaded (loaded.InDoubt holder)) (refl, refl) refl
  load_one h x None = by (held_at (object x) d.store)
    where
      by : (o : Option ObjectState) → SendsOne (outs_of (load_held from h t o))
      by None = nothing_sent
      by (Some s) = answered_one h t (Do Look ∷ []) (Reply.Loaded (loaded.State s)) (refl, refl) refl

  asked_one : (h : Head) (a : Ask) → Words.nat_le (ask_kind a) 5 ≡ true → SendsOne (outs_of (serve n d t from h a))
  asked_one h (ask.Bind x include avoid) is =
      naming_one h Reply.Bound (naming.bind h.path x include avoid d.names) t.naming (bind_own h.path x include avoid d.names) (λ y. refl)
  asked_one h (ask.Load x) is = load_one h x (holder_of (object x) d.store)
  asked_one h (ask.Activate b st) is = let r = server.activate n h.path b st t.server in
      served_one h (with_server t) Reply.Activated r (server_none n r.outs (activate_own n h.path b st t.server)) (λ y. refl)
  asked_one h (ask.Record x b i g) is = naming_one h Reply.Noted (naming.note h.path x b i g) t.naming (note_own h.path x b i g) (λ y. refl)
  asked_one h (ask.Invoke x b i ends o) is = let r = server.invoke n h x b i ends o t.server in
      served_one h (with_server t) Reply.Invoked r (server_none n r.outs (invoke_own n h x b i ends o t.server)) (λ y. refl)
  asked_one h (ask.Vote i ties ends) is = absurd (cc is)
  asked_one h (ask.Prepare states) is = absurd (cc is)
  asked_one h (ask.Confirm grants excluded included) is = absurd (cc is)

-- ---- answers

asks_call : (h : Head) (x : ℕ) (g : Goal) (ends : List (Uid × End)) (at : At) → of_call (request h (ask_at x g ends at)) ≡ true
asks_call h x g ends (calls.AtBind b) = refl
asks_call h x g ends (calls.AtLoad k s rest) = refl
asks_call h x g ends (calls.AtActivate k st) = refl
asks_call h x g ends (calls.AtNote k i) = refl
asks_call h x g ends (calls.AtInvoke k i) = refl

says_none : (u : Uid) (f : Label → Body) (c : Coord) → SendsOne (says u f c)
says_none u f c = by (doing_of u c)
  where
    by : (o : Option Doing) → SendsOne (say_for f o)
    by None = nothing_sent
    by (Some d) = (omega arith, refl)

pub goes_one : (s : Steps) (c : Coord) → SendsOne (goes_on s c).outs
goes_one s c = (
  omega arith,
  (λ i. asks_call (record { path = s.path; req = s.req }) s.x s.goal (Words.ends_of (root_of s.path)
      (let e = on_it in e.tree)) s.at i && true),
)
  where
    on_it : Coord
    on_it = Words.on_doing (actor s.path) (λ (d : Doing). record d { req = s.req; now = Calling s }) c

step_one : (s : Steps) (n : CallStep) (c : Coord) → SendsOne (step_call s n c).outs
step_one s (On at) c = goes_one (record s { req = s.req + 1; at = at }) c
step_one s (Ended e) c = says_none (actor s.path) (Words.end_line s.x s.goal e) c

heard_one : (from : ℕ) (a : Asked) (r : Reply) (intents : List (Uid × Intent)) (c : Coord) → Words.nat_le (reply_kind r) 5 ≡ true →
    SendsOne (heard from a r intents c).outs
heard_one from a r intents c low = by (doing_of a.act c)
  where
    apart : (m n : ℕ) → Words.nat_le m 5 ≡ true → 6 ≤ n → (m == n) ≡ false
    apart m n few more = grind (arith, nat_tests, few, more)

    late : (m : Machine) → 6 ≤ ask_kind (ask_of m from)
    late (Voting p left) = omega arith
    late (Preparing p left) = omega arith
    late (Confirming p) = omega arith

    and_false : (b c : Bool) → (b && (false && c)) ≡ false
    and_false true c = refl
    and_false false c = refl

    now : (n : Now) → SendsOne (heard_now from a r intents c n).outs
    now Idle = nothing_sent
    now (Calling s) = one (waits_for_call from a r s)
      where
        one : (b : Bool) → SendsOne (cond {A = Served Coord (Unit {0})} b (heard_by (heard_call s r c)) (heard_none c)).outs
        one true = step_one s m.step (on_root (root_of s.path) (root_moved s r m) c)
          where
            m : Words.Moved
            m = Words.answered (is_free (root_of s.path) (actor s.path) s.x c) (kept_at s c) s.goal s.at r
        one false = nothing_sent
    now (Committing m) = subst (λ b. SendsOne (cond {A = Served Coord (Unit {0})} b
        (heard_by (moved_commit a.act (commit.answered from m r) intents c)) (heard_none c)).outs) (sym off) nothing_sent
      where
        off : waits_for_commit from a r m ≡ false
        off = (λ i. ((plan_of m).req == a.req) && (apart (reply_kind r) (ask_kind (ask_of m from)) low (late m) i && has (left_of m) from))
            ∙ and_false ((plan_of m).req == a.req) (has (left_of m) from)

    by : (o : Option Doing) → SendsOne (heard_doing from a r intents c o).outs
    by None = nothing_sent
    by (Some d) = now d.now

-- ---- one message

module _ (n : ℕ) (d : Disk) (t : Parts) (from : ℕ) where
  coord_one : (r : Served Coord (Unit {0})) → SendsOne r.outs → SendsOne (outs_of (coord_heard t r))
  coord_one r one = by r.reply
    where
      by : (o : Option (Unit {0})) → SendsOne (outs_of (by_reply (Words.with_coord t r.part) r.outs o))
      by None = nothing_sent
      by (Some u) = one

  handled_one : (m : Message) → of_call m ≡ true → SendsOne (outs_of (handle n d t from m))
  handled_one (message.Bind m) is = asked_one n d t from m.head (ask.Bind m.x m.include m.avoid) refl
  handled_one (message.Load m) is = asked_one n d t from m.head (ask.Load m.x) refl
  handled_one (message.Activate m) is = asked_one n d t from m.head (ask.Activate m.binding m.state) refl
  handled_one (message.RecordMsg m) is = asked_one n d t from m.head (ask.Record m.x m.binding m.server_inc m.naming_inc) refl
  handled_one (message.Invoke m) is = asked_one n d t from m.head (ask.Invoke m.x m.binding m.server_inc m.ends m.op) refl
  handled_one (message.Bound m) is = coord_one (heard from m.asked (Reply.Bound m.reply) d.intents t.coord)
      (heard_one from m.asked (Reply.Bound m.reply) d.intents t.coord refl)
  handled_one (message.Loaded m) is = coord_one (heard from m.asked (Reply.Loaded m.reply) d.intents t.coord)
      (heard_one from m.asked (Reply.Loaded m.reply) d.intents t.coord refl)
  handled_one (message.Activated m) is = coord_one (heard from m.asked (Reply.Activated m.server_inc) d.intents t.coord)
      (heard_one from m.asked (Reply.Activated m.server_inc) d.intents t.coord refl)
  handled_one (message.Recorded m) is = coord_one (heard from m.asked (Reply.Noted m.reply) d.intents t.coord)
      (heard_one from m.asked (Reply.Noted m.reply) d.intents t.coord refl)
  handled_one (message.Invoked m) is = coord_one (heard from m.asked (Reply.Invoked m.reply) d.intents t.coord)
      (heard_one from m.asked (Reply.Invoked m.reply) d.intents t.coord refl)
  handled_one (message.Vote m) is = absurd (cc is)
  handled_one (message.Voted m) is = absurd (cc is)
  handled_one (message.Prepare m) is = absurd (cc is)
  handled_one (message.Prepared m) is = absurd (cc is)
  handled_one (message.Confirm m) is = absurd (cc is)
  handled_one (message.Confirmed m) is = absurd (cc is)
  handled_one (message.Told m) is = absurd (cc is)
  handled_one (message.Acked m) is = absurd (cc is)
  handled_one (message.Query m) is = absurd (cc is)
  handled_one (message.Hello m) is = absurd (cc is)

  pub taken_one : (m : Message) → of_call m ≡ true → SendsOne (outs_of (taken n d t from m))
  taken_one m is = by (is_meant t m)
    where
      by : (b : Bool) → SendsOne (outs_of (cond b (handle n d t from m) (Void [])))
      by true = handled_one m is
      by false = nothing_sent

-- ---- a whole step

abbrev AreCalls : List Message → Type 0
AreCalls ms = list_all of_call ms ≡ true

calls_both : (xs ys : List Message) → AreCalls xs → AreCalls ys → AreCalls (xs ++ ys)
calls_both [] ys a b = b
calls_both (x ∷ xs) ys a b = let p = and_parts (of_call x) (list_all of_call xs) a in λ i. p.0 i && calls_both xs ys p.1 b i

module _ (n : ℕ) where
  -- messages to the node itself, and those that went out
  abbrev total : Ran → ℕ
  total r = length r.queue + count_sent r.outs

  pub ran_total : (v : Parts) (es : List Effect) (d : Disk) → total (ran n v es d) ≡ count_sent es
  ran_total v [] d = refl
  ran_total v (Say b ∷ es) d = ran_total v es d
  ran_total v (Do w ∷ es) d = ran_total v es (worked w d)
  ran_total v (Send to m ∷ es) d = by (to == n) (ran_total v es d)
    where
      queued : (a b c : ℕ) → a + b ≡ c → suc a + b ≡ 1 + c
      queued a b c is = omega (arith, is)

      out : (a b c : ℕ) → a + b ≡ c → a + (1 + b) ≡ 1 + c
      out a b c is = omega (arith, is)

      by : (b : Bool) → total (ran n v es d) ≡ count_sent es →
          total (cond b (first_queued m (ran n v es d)) (first_done (Send to m) (ran n v es d))) ≡ 1 + count_sent es
      by true ih = queued (length (ran n v es d).queue) (count_sent (ran n v es d).outs) (count_sent es) ih
      by false ih = out (length (ran n v es d).queue) (count_sent (ran n v es d).outs) (count_sent es) ih

  pub ran_calls : (v : Parts) (es : List Effect) (d : Disk) → AllCalls es → AreCalls (ran n v es d).queue
  ran_calls v [] d all = refl
  ran_calls v (Say b ∷ es) d all = ran_calls v es d all
  ran_calls v (Do w ∷ es) d all = ran_calls v es (worked w d) all
  ran_calls v (Send to m ∷ es) d all =
      let p = and_parts (of_call m) (list_all is_call_effect es) all in by (to == n) p.0 (ran_calls v es d p.1)
    where
      by : (b : Bool) → of_call m ≡ true → AreCalls (ran n v es d).queue →
          AreCalls (cond b (first_queued m (ran n v es d)) (first_done (Send to m) (ran n v es d))).queue
      by true its ih = λ i. its i && ih i
      by false its ih = ih

  one_total : (m : Message) (h : Here) → of_call m ≡ true → let r = ran_handled n h (taken n h.disk h.parts n m) in (total r ≤ 1)
      × AreCalls r.queue
  one_total m h is = by (taken n h.disk h.parts n m) (taken_one n h.disk h.parts n m is)
    where
      by : (r : Handled) → SendsOne (outs_of r) → (total (ran_handled n h r) ≤ 1) × AreCalls (ran_handled n h r).queue
      by (Void outs) one = (subst (λ k. k ≤ 1) (sym (ran_total h.parts outs h.disk)) one.0, ran_calls h.parts outs h.disk one.1)
      by (Took v outs) one = (subst (λ k. k ≤ 1) (sym (ran_total v outs h.disk)) one.0, ran_calls v outs h.disk one.1)

  all_total : (ms : List Message) (h : Here) → AreCalls ms → (total (handle_all n ms h) ≤ length ms) × AreCalls (handle_all n ms h).queue
  all_total [] h all = (omega arith, refl)
  all_total (m ∷ ms) h all =
      let p = and_parts (of_call m) (list_all of_call ms) all in
      let r = ran_handled n h (taken n h.disk h.parts n m) in
      let t = handle_all n ms r.here in
      let one = one_total m h p.0 in
      let rest = all_total ms r.here p.1 in (
        more (length (r.queue ++ t.queue)) (length r.queue) (length t.queue) (count_sent (r.outs ++ t.outs)) (count_sent r.outs)
            (count_sent t.outs) (length ms)
            (length-append r.queue t.queue) (count_both r.outs t.outs) one.0 rest.0,
        calls_both r.queue t.queue one.1 rest.1,
      )
    where
      more : (q a b o c e k : ℕ) → q ≡ a + b → o ≡ c + e → a + c ≤ 1 → b + e ≤ k → q + o ≤ suc k
      more q a b o c e k x y one rest = omega (arith, x, y, one, rest)

  rounds_total : (j : ℕ) (r : Ran) → AreCalls r.queue → count_sent (rounds n j r).outs ≤ total r
  rounds_total zero r all = less (length r.queue) (count_sent r.outs)
    where
      less : (a b : ℕ) → b ≤ a + b
      less a b = omega arith
  rounds_total (suc j) r all = by r.queue (within (count_sent (rounds n j (next_round n r)).outs) (length t.queue)
      (count_sent (r.outs ++ t.outs)) (count_sent r.outs) (count_sent t.outs) (length r.queue)
      (rounds_total j (next_round n r) next.1) (count_both r.outs t.outs) next.0)
    where
      t : Ran
      t = handle_all n r.queue r.here

      next : (total (handle_all n r.queue r.here) ≤ length r.queue) × AreCalls (handle_all n r.queue r.here).queue
      next = all_total r.queue r.here all

      within : (x a o c e q : ℕ) → x ≤ a + o → o ≡ c + e → a + e ≤ q → x ≤ q + c
      within x a o c e q le is few = omega (arith, le, is, few)

      less : (a b : ℕ) → b ≤ a + b
      less a b = omega arith

      one : List Message → Ran
      one q = elim q [ [] ↦ r | m ∷ ms ↦ rounds n j (next_round n r) ]

      by : (q : List Message) → count_sent (rounds n j (next_round n r)).outs ≤ total r → count_sent (one q).outs ≤ total r
      by [] rest = less (length r.queue) (count_sent r.outs)
      by (m ∷ ms) rest = rest

  -- a whole step sends no more than its handler did
  pub whole_sent : (t : Parts) (outs : List Effect) (d : Disk) → AllCalls outs → count_sent (whole n t outs d).outs ≤ count_sent outs
  whole_sent t outs d all = subst (λ k. count_sent (whole n t outs d).outs ≤ k) (ran_total t outs d)
      (rounds_total most_rounds (ran n t outs d) (ran_calls t outs d all))
