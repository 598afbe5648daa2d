-- What coordinators wait for: it was waited for before, or asked for since, through all that a node does at a step, with its messages to
-- itself.
use Rattle.arj_law_parts.proofs.Words
use Words.{◌≡◌, ◌⊎◌, ◌∙◌, ◌==◌, ℕ, zero, suc, Bool, true, false, List, [], ◌∷◌, ◌++◌, Option, Some, None, refl, sym, ap, subst, inl, inr, ⊎_elim}
use Words.{append-nil, append_assoc, in_left, in_right, uid_cases, taken_took, Ask, Asked, Head, Header, Message, Uid, Reply, asks, answers}
use Words.{Disk, Effect, Send, Handled, Here, Parts, Ran, Took, Void, by_reply, coord_heard, handle, handle_all, handle_answer, handle_ask}
use Words.{heard, most_rounds, next_round, ran, ran_handled, rounds, taken, whole, with_coord, Steps, Machine, left_of, has, Calling}
use Words.{Committing, Coord, Doing, doing_of, Post, Seen, Do, Say, worked, cond, eqb-true, first_done, first_queued, Frame, frames_with, sends}
use Words.list as members
use Rattle.arj_law_runs.proofs.Terms
use Terms.{AreLooks, AsksFor, In, KeepsAsked, LooksAlone, Up, Walks, Want, taken_looks, taken_meant, up, want_of_call, want_of_commit}
use Rattle.arj_law_runs.proofs.resting
use resting.Effects.{after, after_sent, after_within, looks_ran, ran_here, ran_sent, walk_end}
use resting.Flights.{in_either}
use resting.Hearing.{AsksIn, Goes, Heard, IsHeardSo, IsHome, Moves, Unheard, Waited, heard_so}
use resting.Passing.{other_work}
use resting.Serving.{HasAnswered, IsServed, serve_served}
use resting.Ways.{post_of}
use Rattle.arj_protocol.specs.World.{overflows}
use Rattle.arj_law_cause.proofs.waits.doomed.Asking.{AsksAll, GoOn}
use Rattle.arj_law_cause.proofs.waits.doomed.Sending.{HasFrame, all_fit, has_left, has_right, sends_has}

-- ---- what is waited for

-- the coordinator waits for this
pub data Waits (c : Coord) (x : Want) : Type 0 where
  Calls : (u : Uid) (q : Doing) (s : Steps) → doing_of u c ≡ Some q → q.now ≡ Calling s → x ≡ want_of_call u s → Waits c x
  Commits : (u : Uid) (q : Doing) (m : Machine) (j : ℕ) → doing_of u c ≡ Some q → q.now ≡ Committing m → has (left_of m) j ≡ true →
      x ≡ want_of_commit u m j → Waits c x

-- so it did before, or these effects ask for it
abbrev pub WaitsOn : Coord → Coord → List Effect → Type 0
WaitsOn c e outs = (x : Want) → Waits e x → Waits c x ⊎ AsksIn outs x

pub go_waits : (c e : Coord) (outs : List Effect) → GoOn c e outs → WaitsOn c e outs
go_waits c e outs go x (Calls u q s does now is) = ⊎_elim (λ old. inl (Calls u old.0 s old.1 (old.2 ∙ now) is))
    (λ all. inr (subst (AsksIn outs) (sym is) (asked (subst (AsksAll outs u) now all)))) (go u q does)
  where
    asked : AsksAll outs u (Calling s) → AsksIn outs (want_of_call u s)
    asked a = a
go_waits c e outs go x (Commits u q m j does now left is) = ⊎_elim (λ old. inl (Commits u old.0 m j old.1 (old.2 ∙ now) left is))
    (λ all. inr (subst (AsksIn outs) (sym is) (asked (subst (AsksAll outs u) now all)))) (go u q does)
  where
    asked : AsksAll outs u (Committing m) → AsksIn outs (want_of_commit u m j)
    asked a = a j left

-- ---- a message

-- an answer that moves an action on
moves_wait : (from : ℕ) (u : Uid) (c e : Coord) (outs : List Effect) (p : Doing) → doing_of u c ≡ Some p → Moves from p.now u c e outs →
    WaitsOn c e outs
moves_wait from u c e outs p did moves x (Calls v q s does now is) = ⊎_elim
    (λ same. inr (subst (AsksIn outs) (sym (is ∙ ap (λ w. want_of_call w s) same))
    (asked (subst (Goes from p.now outs u) now (moves.own q (ap (λ w. doing_of w e) (sym same) ∙ does))))))
    (λ other. inl (Calls v q s (moves.others v q other does) now is)) (uid_cases v u)
  where
    asked : Goes from p.now outs u (Calling s) → AsksIn outs (want_of_call u s)
    asked a = a
moves_wait from u c e outs p did moves x (Commits v q m j does now left is) = ⊎_elim
    (λ same. goes same (asked (subst (Goes from p.now outs u) now (moves.own q (ap (λ w. doing_of w e) (sym same) ∙ does)))))
    (λ other. inl (Commits v q m j (moves.others v q other does) now left is)) (uid_cases v u)
  where
    asked : Goes from p.now outs u (Committing m) → AsksIn outs (want_of_commit u m j) ⊎ Waited from p.now u m j
    asked a = a j left

    goes : v ≡ u → AsksIn outs (want_of_commit u m j) ⊎ Waited from p.now u m j → Waits c x ⊎ AsksIn outs x
    goes same (inl a) = inr (subst (AsksIn outs) (sym (is ∙ ap (λ w. want_of_commit w m j) same)) a)
    goes same (inr w) = inl (Commits u p w.was j did w.is w.left (is ∙ ap (λ z. want_of_commit z m j) same ∙ sym w.same))

same_wait : (c e : Coord) (outs : List Effect) → ((w : Uid) → doing_of w e ≡ doing_of w c) → WaitsOn c e outs
same_wait c e outs same x (Calls u q s does now is) = inl (Calls u q s (sym (same u) ∙ does) now is)
same_wait c e outs same x (Commits u q m j does now left is) = inl (Commits u q m j (sym (same u) ∙ does) now left is)

pub message_waits : (n : ℕ) (d : Disk) (t v : Parts) (from : ℕ) (m : Message) (outs : List Effect) → IsHome t.coord →
    handle n d t from m ≡ Took v outs → WaitsOn t.coord v.coord outs
message_waits n d t v from m outs home is = by (asks m) refl (answers m) refl
  where
    heard_waits : (a : Asked) (r : Reply) → IsHeardSo from a r t.coord (heard from a r d.intents t.coord) →
        coord_heard t (heard from a r d.intents t.coord) ≡ Took v outs → WaitsOn t.coord v.coord outs
    heard_waits a r (Unheard none unasked) took = absurd (cc (sym (ap (by_reply (with_coord t (heard from a r d.intents t.coord).part)
        (heard from a r d.intents t.coord).outs) none) ∙ took))
    heard_waits a r (Heard q found some waits moves) took =
        let same : Took (with_coord t (heard from a r d.intents t.coord).part) (heard from a r d.intents t.coord).outs ≡ Took v outs =
        sym (ap (by_reply (with_coord t (heard from a r d.intents t.coord).part) (heard from a r d.intents t.coord).outs) some) ∙ took in
        let parts_are : with_coord t (heard from a r d.intents t.coord).part ≡ v = cc same in
        let outs_are : (heard from a r d.intents t.coord).outs ≡ outs = cc same in
        subst (λ es. WaitsOn t.coord v.coord es) outs_are
        (subst (λ (z : Parts). WaitsOn t.coord z.coord (heard from a r d.intents t.coord).outs) parts_are
        (moves_wait from a.act t.coord (heard from a r d.intents t.coord).part (heard from a r d.intents t.coord).outs q found moves))

    by : (o : Option (Head × Ask)) → asks m ≡ o → (b : Option (Asked × Reply)) → answers m ≡ b → WaitsOn t.coord v.coord outs
    by (Some (h, a)) asking b reply =
        let x : HasAnswered from h a t v outs = subst (IsServed from h a t) (ap (handle_ask n d t from m) (sym asking) ∙ is)
        (serve_served n d t from h a) in same_wait t.coord v.coord outs (λ w. ap (doing_of w) x.coord)
    by None asking (Some (a, r)) reply = heard_waits a r (heard_so from a r d.intents t.coord home)
        (sym (ap (handle_ask n d t from m) asking ∙ ap (handle_answer n d t from m) reply) ∙ is)
    by None asking None reply = same_wait t.coord v.coord outs (other_work n d t from m asking reply v outs is)

-- ---- a whole step

module _ (n : ℕ) where
  -- so it is of what other nodes are asked
  abbrev pub Others : Coord → Coord → List Effect → Type 0
  Others c e outs = (x : Want) → (x.node ≡ n → ⊥) → Waits e x → Waits c x ⊎ AsksIn outs x

  more_asked : (es fs : List Effect) (x : Want) → AsksIn es x → AsksIn (es ++ fs) x
  more_asked es fs x a = record { message = a.message; sent = in_left (Send x.node a.message) es fs a.sent; asks = a.asks }

  later_asked : (es fs : List Effect) (x : Want) → AsksIn fs x → AsksIn (es ++ fs) x
  later_asked es fs x a = record { message = a.message; sent = in_right (Send x.node a.message) es fs a.sent; asks = a.asks }

  others_on : (c e g : Coord) (es fs : List Effect) → Others c e es → Others e g fs → Others c g (es ++ fs)
  others_on c e g es fs one two x apart w = ⊎_elim
      (λ old. ⊎_elim (λ older. inl older) (λ a. inr (more_asked es fs x a)) (one x apart old))
      (λ a. inr (later_asked es fs x a)) (two x apart w)

  others_same : (c : Coord) → Others c c []
  others_same c x apart w = inl w

  -- what a handler sends to others its node sends
  pub ran_others : (c e : Coord) (v : Parts) (es : List Effect) (d : Disk) → WaitsOn c e es → Others c e (ran n v es d).outs
  ran_others c e v es d on x apart w = ⊎_elim (λ old. inl old)
      (λ a. ⊎_elim (λ own. absurd (apart own.0)) (λ out. inr (record { message = a.message; sent = out; asks = a.asks }))
      (ran_sent n v es d x.node a.message a.sent)) (on x w)

  module _ (hd : Header) (P : Seen → Type 0) (keeps : KeepsAsked hd P)
      (homes : (k : ℕ) (d : Disk) (t : Parts) (M : Seen) → P (up k d t M) → IsHome t.coord) (e : ℕ) where
    -- a node within a step, with the messages to itself that wait
    record At (h : Here) (queue : List Message) : Type 0 where
      seen : Seen
      holds : P (up n h.disk h.parts seen)
      queued : (m : Message) → members.In m queue → In (post_of n n m) seen.sent

    queue_sent : (v : Parts) (es : List Effect) (c : Disk) (m : Message) → members.In m (ran n v es c).queue → members.In (Send n m) es
    queue_sent v [] c m i = absurd i
    queue_sent v (Do w ∷ es) c m i = inr (queue_sent v es (worked w c) m i)
    queue_sent v (Say b ∷ es) c m i = inr (queue_sent v es c m i)
    queue_sent v (Send to x ∷ es) c m i = by (to == n) refl i (queue_sent v es c m)
      where
        by : (b : Bool) → (to == n) ≡ b → members.In m (cond b (first_queued x (ran n v es c)) (first_done (Send to x)
            (ran n v es c))).queue → (members.In m (ran n v es c).queue → members.In (Send n m) es) → members.In (Send n m) (Send to x ∷ es)
        by true same (inl is) ih = inl (λ i. Send (eqb-true to n same i) (is i))
        by true same (inr there) ih = inr (ih there)
        by false apart there ih = inr (ih there)

    behind_handler : (d : Disk) (v : Parts) (outs : List Effect) (M : Seen) (left : List Message) → Walks P e n outs (Up P n v) d M →
        ((m : Message) → members.In m left → In (post_of n n m) M.sent) → (let r = ran n v outs d in At r.here (left ++ r.queue))
    behind_handler d v outs M left walks queued = record {
      seen = after e n outs M;
      holds = subst (λ (h : Here). P (up n h.disk h.parts (after e n outs M))) (sym (ran_here n v outs d))
          (walk_end P e n outs (Up P n v) d M walks);
      queued = λ m i. ⊎_elim (λ old. after_within e n outs M (post_of n n m) (queued m old))
          (λ new. after_sent e n outs M n m (queue_sent v outs d m new)) (in_either left (ran n v outs d).queue m i);
    }

    one : (m : Message) (ms : List Message) (h : Here) → At h (m ∷ ms) → let r = ran_handled n h (taken n h.disk h.parts n m) in
        At r.here (ms ++ r.queue) × Others h.parts.coord (let z = r.here.parts in z.coord) r.outs
    one m ms h s = by (taken n h.disk h.parts n m) refl
      where
        here : In (post_of n n m) (let M = s.seen in M.sent)
        here = s.queued m (inl refl)

        by : (r : Handled) → taken n h.disk h.parts n m ≡ r → let x = ran_handled n h r in
            At x.here (ms ++ x.queue) × Others h.parts.coord (let z = x.here.parts in z.coord) x.outs
        by (Void outs) so =
            let looks : AreLooks outs = subst LooksAlone so (taken_looks n h.disk h.parts n m) in
            let still = looks_ran n h.parts outs h.disk looks in (
              subst (λ (x : Here). At x (ms ++ (ran n h.parts outs h.disk).queue)) (sym still.0) (record {
                seen = s.seen;
                holds = s.holds;
                queued = λ x i. s.queued x (inr (subst (members.In x) (ap (λ q. ms ++ q) still.1 ∙ append-nil ms) i));
              }),
              λ x apart w. inl (subst (λ (z : Here). Waits (let y = z.parts in y.coord) x) still.0 w),
            )
        by (Took v outs) so =
            let took = taken_took n h.disk h.parts v n m outs so in (
              behind_handler h.disk v outs s.seen ms (keeps.message e n h.disk h.parts v n m outs s.seen s.holds here
                  (taken_meant n h.disk h.parts v n m outs so) took) (λ x i. s.queued x (inr i)),
              λ x apart w. ran_others h.parts.coord v.coord v outs h.disk
                  (message_waits n h.disk h.parts v n m outs (homes n h.disk h.parts s.seen s.holds) took) x apart
                  (subst (λ (z : Here). Waits (let y = z.parts in y.coord) x) (ran_here n v outs h.disk) w),
            )

    all : (ms rest : List Message) (h : Here) → At h (ms ++ rest) → let t = handle_all n ms h in
        At t.here (rest ++ t.queue) × Others h.parts.coord (let z = t.here.parts in z.coord) t.outs
    all [] rest h s = (subst (At h) (sym (append-nil rest)) s, others_same h.parts.coord)
    all (m ∷ ms) rest h s =
        let r = ran_handled n h (taken n h.disk h.parts n m) in
        let t = handle_all n ms r.here in
        let first = one m (ms ++ rest) h s in
        let next = all ms (rest ++ r.queue) r.here (subst (At r.here) (append_assoc ms rest r.queue) first.0) in (
          subst (At t.here) (append_assoc rest r.queue t.queue) next.0,
          others_on h.parts.coord (let z = r.here.parts in z.coord) (let z = t.here.parts in z.coord) r.outs t.outs first.1 next.1,
        )

    rounds_ask : (c : Coord) (j : ℕ) (r : Ran) → At r.here r.queue → Others c (let z = r.here.parts in z.coord) r.outs →
        let q = rounds n j r in Others c (let z = q.here.parts in z.coord) q.outs
    rounds_ask c zero r s on = on
    rounds_ask c (suc j) r s on = by r.queue (rounds_ask c j (next_round n r) next.0
        (others_on c (let z = r.here.parts in z.coord) (let z = (handle_all n r.queue r.here).here.parts in z.coord) r.outs
        (handle_all n r.queue r.here).outs on next.1))
      where
        next : At (handle_all n r.queue r.here).here (handle_all n r.queue r.here).queue
            × Others (let z = r.here.parts in z.coord) (let z = (handle_all n r.queue r.here).here.parts in z.coord)
            (handle_all n r.queue r.here).outs
        next = all r.queue [] r.here (subst (At r.here) (sym (append-nil r.queue)) s)

        ends : List Message → Ran
        ends q = elim q [ [] ↦ r | m ∷ ms ↦ rounds n j (next_round n r) ]

        by : (q : List Message) → (let x = rounds n j (next_round n r) in Others c (let z = x.here.parts in z.coord) x.outs) →
            (let x = ends q in Others c (let z = x.here.parts in z.coord) x.outs)
        by [] later = on
        by (m ∷ ms) later = later

    -- through all rounds
    pub whole_asks : (c : Coord) (d : Disk) (v : Parts) (outs : List Effect) (M : Seen) → Walks P e n outs (Up P n v) d M →
        WaitsOn c v.coord outs → let q = whole n v outs d in Others c (let z = q.here.parts in z.coord) q.outs
    whole_asks c d v outs M walks on = rounds_ask c most_rounds (ran n v outs d)
        (let b = behind_handler d v outs M [] walks (λ m i. absurd i) in b)
        (subst (λ (h : Here). Others c (let z = h.parts in z.coord) (ran n v outs d).outs) (sym (ran_here n v outs d))
        (ran_others c v.coord v outs d on))

-- ---- frames

-- a frame of the node asks for it
pub record IsAskedBy (k : ℕ) (x : Want) (fs : List Frame) : Type 0 where
  pub post : Post
  pub frame : HasFrame fs post
  pub from : post.from ≡ k
  pub to : post.to ≡ x.node
  pub asks : AsksFor x post.message

-- so it is of all that the coordinator waits for of other nodes
abbrev pub AreAsked : ℕ → Coord → List Frame → Type 0
AreAsked k c fs = (x : Want) → (x.node ≡ k → ⊥) → Waits c x → IsAskedBy k x fs

pub asked_more : (k : ℕ) (c : Coord) (fs gs : List Frame) → AreAsked k c fs → AreAsked k c (fs ++ gs)
asked_more k c fs gs its x apart w = let a = its x apart w in
    record { post = a.post; frame = has_left fs gs a.post a.frame; from = a.from; to = a.to; asks = a.asks }

-- behind a step whose frames fit
pub asked_landed : (n : ℕ) (c e : Coord) (fs : List Frame) (es : List Effect) → overflows fs (sends n es) ≡ false → Others n c e es →
    AreAsked n c fs → AreAsked n e (frames_with fs (sends n es))
asked_landed n c e fs es fits on its x apart w = subst (IsAskedBy n x) (sym (all_fit fs (sends n es) fits)) (⊎_elim
    (λ old. asked_more n c fs (sends n es) its x apart old)
    (λ a. record {
      post = record { from = n; to = x.node; message = a.message };
      frame = has_right fs (sends n es) (record { from = n; to = x.node; message = a.message }) (sends_has n es x.node a.message a.sent);
      from = refl;
      to = refl;
      asks = a.asks;
    })
    (on x apart w))
