-- A node's step with all messages to itself: what holds when it is up is kept by each message, and so by all rounds.
use Rattle.arj_law_parts.proofs.Words
use Words.{◌≡◌, ℕ, zero, suc, Bool, true, false, List, [], ◌∷◌, ◌++◌, refl, sym, subst, Option, Some, None, ⊤, if◌then◌else◌, option_map}
use Words.{list_all, AllByRecursion, Event, Uid, Header, Head, Asked, Ask, asks, Message, ObjectState, object, Disk, Effect, Say, Send}
use Words.{Do, Look, Prepare, Before}
use Words.{After, InPart, Served, Prep, Ready, Already, Old, InDoubt, prepare_answer, holder_of, held_at, is_prepared, Reply, answers}
use Words.{actor, last_end, Naming, confirm, Coord, heard, acked, Parts, Handled, Void, Took, Here, Ran, ran, ran_handled, handle_all}
use Words.{next_round, rounds, whole, most_rounds, handle, is_meant, taken, handle_ask, handle_answer, handle_other, handle_ends}
use Words.{coord_heard, by_reply, serve, served, sends_answer, if_naming, load_by, load_held, prepare_by, prepare_states, with_naming}
use Words.{with_server, with_coord, taken_took}
use Words.ask
use Words.message
use Words.prepared
use Words.server
use Words.naming
use Rattle.arj_law_parts.proofs.Terms.{In}
use Rattle.arj_law_parts.specs.moves.Moments.{MayTake, Moment, at, is_restart, up}
use Rattle.arj_law_parts.proofs.moves
use moves.Flat.{Flat, With, Left, AreSent, within_same, are_sent, flat_to, flat_on, flat_event, flat_keeps, walks_flat, ran_parts}
use moves.Others.{IsOther, SendOthers, WaitOthers, next_others, ran_others}
use Rattle.arj_law_parts.specs.moves.With.{KeepsSteps, StopsWith, UpWith, WalksWith}
use Rattle.arj_protocol.proofs.Taken.{taken_as}

-- ---- what is void

abbrev pub is_look : Effect → Bool
is_look (Do Look) = true
is_look _ = false

abbrev pub AreLooks : List Effect → Type 0
AreLooks outs = list_all is_look outs ≡ true

-- a void message looks at the disk at most
abbrev pub LooksAlone : Handled → Type 0
LooksAlone (Void outs) = AreLooks outs
LooksAlone (Took t outs) = ⊤

answer_looks : (from : ℕ) (h : Head) (t : Parts) (outs : List Effect) (r : Option Reply) → LooksAlone (sends_answer from h t outs r)
answer_looks from h t outs None = refl
answer_looks from h t outs (Some r) = tt

naming_looks : (f : Naming → Handled) (o : Option Naming) → ((n : Naming) → LooksAlone (f n)) → LooksAlone (if_naming f o)
naming_looks f None each = refl
naming_looks f (Some n) each = each n

load_looks : (x n : ℕ) (d : Disk) (from : ℕ) (h : Head) (t : Parts) (o : Option Uid) → LooksAlone (load_by x d.store from h t o)
load_looks x n d from h t (Some u) = tt
load_looks x n d from h t None = by (held_at (object x) d.store)
  where
    by : (s : Option ObjectState) → LooksAlone (load_held from h t s)
    by None = refl
    by (Some s) = tt

prepare_looks : (n : ℕ) (d : Disk) (states : List ObjectState) (from : ℕ) (h : Head) (t : Parts) →
    LooksAlone (prepare_states n d.store states from h t)
prepare_looks n d states from h t = twice (is_prepared (actor h.path) d.store)
  where
    by : (a : Prep) → LooksAlone (prepare_by n states from h t a)
    by Ready = tt
    by (Already u) = refl
    by (Old u v) = tt
    by (InDoubt u holder) = tt

    twice : (b : Bool) → LooksAlone (if b then sends_answer from h t [] (Some (Reply.Prepared prepared.Yes)) else prepare_by n states from h
        t (prepare_answer (actor h.path) states d.store))
    twice true = tt
    twice false = by (prepare_answer (actor h.path) states d.store)

serve_looks : (n : ℕ) (d : Disk) (t : Parts) (from : ℕ) (h : Head) (a : Ask) → LooksAlone (serve n d t from h a)
serve_looks n d t from h (ask.Bind x include avoid) =
    naming_looks (λ o. served from h (with_naming t) Reply.Bound (naming.bind h.path x include avoid d.names o)) t.naming
    (λ o. let r = naming.bind h.path x include avoid d.names o in
    answer_looks from h (with_naming t r.part) r.outs (option_map Reply.Bound r.reply))
serve_looks n d t from h (ask.Load x) = load_looks x n d from h t (holder_of (object x) d.store)
serve_looks n d t from h (ask.Activate b st) = let r = server.activate n h.path b st t.server in
    answer_looks from h (with_server t r.part) r.outs (option_map Reply.Activated r.reply)
serve_looks n d t from h (ask.Record x b i g) =
    naming_looks (λ o. served from h (with_naming t) Reply.Noted (naming.note h.path x b i g o)) t.naming
    (λ o. let r = naming.note h.path x b i g o in answer_looks from h (with_naming t r.part) r.outs (option_map Reply.Noted r.reply))
serve_looks n d t from h (ask.Invoke x b i ends op) = let r = server.invoke n h x b i ends op t.server in
    answer_looks from h (with_server t r.part) r.outs (option_map Reply.Invoked r.reply)
serve_looks n d t from h (ask.Vote i ties ends) = let r = server.vote n h.path i ties ends t.server in
    answer_looks from h (with_server t r.part) r.outs (option_map Reply.Voted r.reply)
serve_looks n d t from h (ask.Prepare states) = prepare_looks n d states from h t
serve_looks n d t from h (ask.Confirm grants excluded included) =
    naming_looks (λ o. served from h (with_naming t) Reply.Confirmed (confirm h.path grants excluded included d.names o)) t.naming
    (λ o. let r = confirm h.path grants excluded included d.names o in
    answer_looks from h (with_naming t r.part) r.outs (option_map Reply.Confirmed r.reply))

heard_looks : (t : Parts) (r : Served Coord (Unit {0})) → LooksAlone (coord_heard t r)
heard_looks t r = by r.reply
  where
    by : (o : Option (Unit {0})) → LooksAlone (by_reply (with_coord t r.part) r.outs o)
    by None = refl
    by (Some u) = tt

other_looks : (n : ℕ) (d : Disk) (t : Parts) (from : ℕ) (m : Message) → LooksAlone (handle_other n d t from m)
other_looks n d t from (message.Told m) = by (last_end m.ends)
  where
    by : (o : Option _) → LooksAlone (handle_ends n d t from m.ack m.ends o)
    by None = tt
    by (Some e) = tt
other_looks n d t from (message.Acked m) = heard_looks t (acked from m.act d.intents t.coord)
other_looks n d t from (message.Query m) = tt
other_looks n d t from (message.Hello m) = tt
other_looks n d t from (message.Bind m) = refl
other_looks n d t from (message.Bound m) = refl
other_looks n d t from (message.Load m) = refl
other_looks n d t from (message.Loaded m) = refl
other_looks n d t from (message.Activate m) = refl
other_looks n d t from (message.Activated m) = refl
other_looks n d t from (message.RecordMsg m) = refl
other_looks n d t from (message.Recorded m) = refl
other_looks n d t from (message.Invoke m) = refl
other_looks n d t from (message.Invoked m) = refl
other_looks n d t from (message.Vote m) = refl
other_looks n d t from (message.Voted m) = refl
other_looks n d t from (message.Prepare m) = refl
other_looks n d t from (message.Prepared m) = refl
other_looks n d t from (message.Confirm m) = refl
other_looks n d t from (message.Confirmed m) = refl

pub handle_looks : (n : ℕ) (d : Disk) (t : Parts) (from : ℕ) (m : Message) → LooksAlone (handle n d t from m)
handle_looks n d t from m = by (asks m)
  where
    heard_or : (a : Option (Asked × Reply)) → LooksAlone (handle_answer n d t from m a)
    heard_or None = other_looks n d t from m
    heard_or (Some a) = heard_looks t (heard from a.0 a.1 d.intents t.coord)

    by : (o : Option (Head × Ask)) → LooksAlone (handle_ask n d t from m o)
    by None = heard_or (answers m)
    by (Some a) = serve_looks n d t from a.0 a.1

-- what isn't void can be meant
pub taken_meant : (n : ℕ) (d : Disk) (t v : Parts) (from : ℕ) (m : Message) (outs : List Effect) → taken n d t from m ≡ Took v outs →
    is_meant t m ≡ true
taken_meant n d t v from m outs = by (is_meant t m)
  where
    by : (b : Bool) → (if b then handle n d t from m else Void []) ≡ Took v outs → b ≡ true
    by true is = refl
    by false is = absurd (cc is)

pub taken_looks : (n : ℕ) (d : Disk) (t : Parts) (from : ℕ) (m : Message) → LooksAlone (taken n d t from m)
taken_looks n d t from m = taken_as LooksAlone n d t from m refl (handle_looks n d t from m)

module _ (hd : Header) (P : Moment → Type 0) (keeps : KeepsSteps hd P) (k : ℕ) where
  -- looks change nothing, and a stop at one is a stop
  pub looks_walk : (outs : List Effect) (d : Disk) (live : Option Parts) (M : Moment) → AreLooks outs → P (at k d live M) →
      WalksWith P k outs (λ c N. P (at k c live N)) d M
  looks_walk [] d live M looks h = h
  looks_walk (Do Look ∷ es) d live M looks h = (stops, looks_walk es d live M looks h)
    where
      stops : StopsWith P k Look d M
      stops Before = keeps.stop k d live M h
      stops After = keeps.stop k d live M h
      stops (InPart which) = keeps.stop k d live M h
  looks_walk (Do (Prepare r u states) ∷ es) d live M looks h = absurd (cc looks)
  looks_walk (Say b ∷ es) d live M looks h = absurd (cc looks)
  looks_walk (Send to m ∷ es) d live M looks h = absurd (cc looks)
  looks_walk (Do w ∷ es) d live M looks h = absurd (cc looks)

  -- the parts that a handled message leaves, and its effects
  abbrev pub Handles : ℕ → Disk → Parts → Moment → Handled → Type 0
  Handles from d t M (Void outs) = WalksWith P k outs (UpWith P k t) d M
  Handles from d t M (Took v outs) = WalksWith P k outs (UpWith P k v) d M

  pub handled : (from : ℕ) (m : Message) (d : Disk) (t : Parts) (M : Moment) → P (up k d t M) →
      In (record { from = from; to = k; message = m }) M.seen.sent → MayTake M.past.event m → Handles from d t M (taken k d t from m)
  handled from m d t M h sent may = by (taken k d t from m) refl (taken_looks k d t from m)
    where
      by : (a : Handled) → taken k d t from m ≡ a → LooksAlone a → Handles from d t M a
      by (Void outs) is looks = looks_walk outs d (Some t) M looks h
      by (Took v outs) is looks =
          keeps.message k d t v from m outs M h sent (taken_meant k d t v from m outs is) may (taken_took k d t v from m outs is)

  -- the node is up with what was left, and the relation holds
  abbrev pub Ended : Ran → Disk → Moment → Type 0
  Ended r = Left k r (UpWith P k r.here.parts)

  pub walk_ended : (v : Parts) (outs : List Effect) (d : Disk) (M : Moment) → WalksWith P k outs (UpWith P k v) d M →
      Flat P k (ran k v outs d).outs (Ended (ran k v outs d)) d M
  walk_ended v outs d M w = flat_to P k (ran k v outs d).outs (Left k (ran k v outs d) (UpWith P k v)) (Ended (ran k v outs d)) d M
      (λ c N h. (h.0, h.1, subst (λ p. P (up k c p N)) (sym (ran_parts k v outs d)) h.2))
      (walks_flat P k v outs (UpWith P k v) d M w)

  one_ended : (from : ℕ) (h : Here) (M : Moment) (a : Handled) → Handles from h.disk h.parts M a →
      Flat P k (ran_handled k h a).outs (Ended (ran_handled k h a)) h.disk M
  one_ended from h M (Void outs) w = walk_ended h.parts outs h.disk M w
  one_ended from h M (Took v outs) w = walk_ended v outs h.disk M w

  -- a node that restarts has no request and no answer to itself waiting
  abbrev pub MayWait : Event → Ran → Type 0
  MayWait e r = is_restart e ≡ true → WaitOthers r

  may_first : (e : Event) (m : Message) (ms : List Message) → (is_restart e ≡ true → AllByRecursion IsOther (m ∷ ms)) → MayTake e m
  may_first e m ms may is = (may is).0

  pub all_ended : (e : Event) (ms : List Message) (h : Here) (M : Moment) → M.past.event ≡ e →
      (is_restart e ≡ true → AllByRecursion IsOther ms) → AreSent k ms M.seen.sent → P (up k h.disk h.parts M) →
      Flat P k (handle_all k ms h).outs (Ended (handle_all k ms h)) h.disk M
  all_ended e [] h M event may sent holds = (M.seen.sent, within_same M.seen.sent, (refl, tt, holds))
  all_ended e (m ∷ ms) h M event may sent holds =
      flat_on P k r.outs t.outs (λ c N. With M.seen.sent (Ended r) c N × (N.past.event ≡ e)) (Ended (handle_all k (m ∷ ms) h)) h.disk M
      (flat_event P k e r.outs (With M.seen.sent (Ended r)) h.disk M event
      (flat_keeps P k M.seen.sent r.outs (Ended r) h.disk M (within_same M.seen.sent)
      (one_ended k h M (taken k h.disk h.parts k m)
      (handled k m h.disk h.parts M holds sent.0 (subst (λ x. MayTake x m) (sym event) (may_first e m ms may))))))
      (rest (all_ended e ms r.here))
    where
      r : Ran
      r = ran_handled k h (taken k h.disk h.parts k m)

      t : Ran
      t = handle_all k ms r.here

      both : (a b : List Message) (N : Moment) → AreSent k a N.seen.sent → AreSent k b N.seen.sent → AreSent k (a ++ b) N.seen.sent
      both [] b N p q = q
      both (x ∷ xs) b N p q = (p.0, both xs b N p.1 q)

      rest : ((N : Moment) → N.past.event ≡ e → (is_restart e ≡ true → AllByRecursion IsOther ms) → AreSent k ms N.seen.sent →
          P (up k r.here.disk r.here.parts N) → Flat P k t.outs (Ended t) r.here.disk N)
          → (c : Disk) (N : Moment) → With M.seen.sent (Ended r) c N × (N.past.event ≡ e) →
          Flat P k t.outs (Ended (handle_all k (m ∷ ms) h)) c N
      rest ih c N g =
          let f = g.0 in
          let there : P (up k r.here.disk r.here.parts N) = subst (λ x. P (up k x r.here.parts N)) f.0.0 f.0.2 in
          let more = ih N g.1 (λ is. (may is).1) (are_sent k ms M.seen.sent N.seen.sent f.1 sent.1) there in
          let kept = flat_keeps P k N.seen.sent t.outs (Ended t) r.here.disk N (within_same N.seen.sent) more in
          subst (λ x. Flat P k t.outs (Ended (handle_all k (m ∷ ms) h)) x N) (sym f.0.0)
          (flat_to P k t.outs (With N.seen.sent (Ended t)) (Ended (handle_all k (m ∷ ms) h)) r.here.disk N
          (λ b L g. (g.0.0, both r.queue t.queue L (are_sent k r.queue N.seen.sent L.seen.sent g.1 f.0.1) g.0.1, g.0.2)) kept)

  pub rounds_ended : (e : Event) (j : ℕ) (r : Ran) (d : Disk) (M : Moment) → M.past.event ≡ e → MayWait e r →
      Flat P k r.outs (Ended r) d M →
      Flat P k (rounds k j r).outs (Ended (rounds k j r)) d M
  rounds_ended e zero r d M event may f = f
  rounds_ended e (suc j) r d M event may f = by r.queue refl (rounds_ended e j (next_round k r) d M event)
    where
      t : Ran
      t = handle_all k r.queue r.here

      next : Flat P k (next_round k r).outs (Ended (next_round k r)) d M
      next = flat_on P k r.outs t.outs (λ c N. Ended r c N × (N.past.event ≡ e)) (Ended (next_round k r)) d M
          (flat_event P k e r.outs (Ended r) d M event f)
          (λ c N z. let g = z.0 in subst (λ x. Flat P k t.outs (Ended (next_round k r)) x N) (sym g.0)
          (all_ended e r.queue r.here N z.1 may g.1 (subst (λ x. P (up k x r.here.parts N)) g.0 g.2)))

      one : List Message → Ran
      one q = elim q [ [] ↦ r | m ∷ ms ↦ rounds k j (next_round k r) ]

      by : (q : List Message) → r.queue ≡ q → (MayWait e (next_round k r) → Flat P k (next_round k r).outs (Ended (next_round k r)) d M →
          Flat P k (rounds k j (next_round k r)).outs (Ended (rounds k j (next_round k r))) d M)
          → Flat P k (one q).outs (Ended (one q)) d M
      by [] is ih = f
      by (m ∷ ms) is ih = ih (λ restarts. next_others k r (may restarts)) next

  -- what a handler walks through holds at the end of its whole step
  pub whole_ended : (v : Parts) (outs : List Effect) (d : Disk) (M : Moment) → (is_restart M.past.event ≡ true → SendOthers outs) →
      WalksWith P k outs (UpWith P k v) d M → Flat P k (whole k v outs d).outs (Ended (whole k v outs d)) d M
  whole_ended v outs d M may w = rounds_ended M.past.event most_rounds (ran k v outs d) d M refl (λ is. ran_others k v outs d (may is))
      (walk_ended v outs d M w)
