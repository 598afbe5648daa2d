-- What holds of nodes and of what is under way holds through a whole step of a node, with all messages to itself, where it holds through
-- each message.
use Rattle.arj_law_parts.proofs.Words
use Words.{◌≡◌, ◌⊎◌, ◌∙◌, ℕ, zero, suc, Bool, true, false, List, [], ◌∷◌, ◌++◌, refl, sym, ap, subst, inl, inr, ⊎_elim, Option, Some}
use Words.{eqb-true, append-nil, append_assoc, ◌==◌, if◌then◌else◌, in_left, in_right, taken_took, Body, Header, Message, Disk, Do, Effect}
use Words.{Say, Send, worked, Handled, Here, Parts, Ran, Took, Void, first_done, first_queued, handle_all, most_rounds, next_round, ran}
use Words.{ran_handled, rounds, taken, whole, Node, Post, Seen, IsSaid}
use Words.list as members
use Rattle.arj_law_runs.proofs.Terms.{KeepsAsked, In, said, up, Up, Walks, AreLooks, LooksAlone, taken_looks, taken_meant}
use Rattle.arj_law_runs.proofs.resting
use resting.Effects.{after, after_lines, after_nodes, after_sent, after_within, looks_ran, looks_send, ran_from, ran_here, ran_said}
use resting.Effects.{ran_sent, walk_end, works}
use resting.Ways.{AllBut, SentBy, Then, post_of}
use Rattle.arj_protocol.proofs.Rounds.{whole_empty}

pub in_either : {A : Type 0} (xs ys : List A) (a : A) → members.In a (xs ++ ys) → members.In a xs ⊎ members.In a ys
in_either [] ys a i = inr i
in_either (x ∷ xs) ys a (inl is) = inl (inl is)
in_either (x ∷ xs) ys a (inr i) = ⊎_elim (λ l. inl (inr l)) (λ r. inr r) (in_either xs ys a i)

-- ---- messages to itself

-- a node with this disk and this memory among these
abbrev pub with_here : ℕ → Here → (ℕ → Option Node) → ℕ → Option Node
with_here n h found k = if k == n then Some (record { number = n; disk = h.disk; live = Some h.parts }) else found k

-- what holds when a node has handled a message
abbrev pub Left : ((ℕ → Option Node) → (Post → Type 0) → (Body → Type 0) → Type 0) → ℕ → Here → (ℕ → Option Node) → (Post → Type 0) →
    (Body → Type 0) → Handled → Type 0
Left I n h found G B (Void outs) = I (with_here n h found) G B
Left I n h found G B (Took v outs) = I (with_here n (record { disk = works outs h.disk; parts = v }) found) (Then G n outs) B

-- these say the same of what is under way
abbrev pub SameWay : (Post → Type 0) → (Post → Type 0) → Type 0
SameWay F U = ((q : Post) → F q → U q) × ((q : Post) → U q → F q)

-- the same is under way, and more may be said
abbrev pub MayGrow : ((ℕ → Option Node) → (Post → Type 0) → (Body → Type 0) → Type 0) → Type 1
MayGrow I = (found : ℕ → Option Node) (F U : Post → Type 0) (B D : Body → Type 0) → SameWay F U → ((b : Body) → B b → D b) → I found F B →
    I found U D

-- each message that a node takes keeps it
abbrev pub MessagesKeep : (Seen → Type 0) → ((ℕ → Option Node) → (Post → Type 0) → (Body → Type 0) → Type 0) → Type 1
MessagesKeep P I = (n : ℕ) (d : Disk) (t : Parts) (from : ℕ) (m : Message) (M : Seen) → P (up n d t M) → In (post_of from n m) M.sent →
    (F G : Post → Type 0) (B : Body → Type 0) → F (post_of from n m) → AllBut (post_of from n m) F G → ((q : Post) → G q → F q)
    → ((b : Body) → IsSaid M.lines b → B b) → I (up n d t M).nodes F B →
    Left I n (record { disk = d; parts = t }) M.nodes G B (taken n d t from m)

module _ (hd : Header) (P : Seen → Type 0) (keeps : KeepsAsked hd P) (I : (ℕ → Option Node) → (Post → Type 0) → (Body → Type 0) →
    Type 0) (more : MayGrow I) (message : MessagesKeep P I) (n : ℕ) where
  -- the messages that wait at the node
  abbrev pub Queued : List Message → Post → Type 0
  Queued queue q = (q.from ≡ n) × (q.to ≡ n) × members.In q.message queue

  -- what was said before, and what these effects say
  abbrev pub SaidThen : (Body → Type 0) → List Effect → Body → Type 0
  SaidThen B outs b = B b ⊎ members.In (Say b) outs

  abbrev pub WithQueue : (Post → Type 0) → List Message → Post → Type 0
  WithQueue F queue q = F q ⊎ Queued queue q

  -- A node within a step, with the messages to itself that wait: the relation holds, and what answers whoever waits is under way, with
  -- these.
  pub record Stage (base : ℕ → Option Node) (h : Here) (queue : List Message) (F : Post → Type 0) (B : Body → Type 0) : Type 0 where
    pub seen : Seen
    pub found : seen.nodes ≡ base
    pub holds : P (up n h.disk h.parts seen)
    pub queued : (m : Message) → members.In m queue → In (post_of n n m) seen.sent
    pub lines : (b : Body) → IsSaid seen.lines b → B b
    pub brought : I (with_here n h base) (WithQueue F queue) B

  -- the same, with more under way and other words for what waits
  stage_to : (base : ℕ → Option Node) (h : Here) (queue rest : List Message) (F U : Post → Type 0) (B D : Body → Type 0) → queue ≡ rest →
      SameWay F U → ((b : Body) → B b → D b) → Stage base h queue F B → Stage base h rest U D
  stage_to base h queue rest F U B D same on said s = record {
    seen = s.seen;
    found = s.found;
    holds = s.holds;
    queued = λ m i. s.queued m (subst (members.In m) (sym same) i);
    lines = λ b l. said b (s.lines b l);
    brought = more (with_here n h base) (WithQueue F queue) (WithQueue U rest) B D (
      λ q. ⊎_elim (λ f. inl (on.0 q f)) (λ w. inr (w.0, w.1, subst (members.In q.message) same w.2)),
      λ q. ⊎_elim (λ f. inl (on.1 q f)) (λ w. inr (w.0, w.1, subst (members.In q.message) (sym same) w.2)),
    ) said s.brought;
  }

  then_on : (F : Post → Type 0) (a b : List Effect) (q : Post) → Then (Then F n a) n b q → Then F n (a ++ b) q
  then_on F a b q (inl (inl f)) = inl f
  then_on F a b q (inl (inr s)) = inr (s.0, in_left (Send q.to q.message) a b s.1)
  then_on F a b q (inr s) = inr (s.0, in_right (Send q.to q.message) a b s.1)

  sent_either : (F : Post → Type 0) (a b : List Effect) (q : Post) → Then F n (a ++ b) q → Then (Then F n a) n b q
  sent_either F a b q (inl f) = inl (inl f)
  sent_either F a b q (inr s) = ⊎_elim (λ i. inl (inr (s.0, i))) (λ i. inr (s.0, i)) (in_either a b (Send q.to q.message) s.1)

  then_same : (F : Post → Type 0) (a b : List Effect) → SameWay (Then (Then F n a) n b) (Then F n (a ++ b))
  then_same F a b = (then_on F a b, sent_either F a b)

  said_on : (B : Body → Type 0) (xs ys : List Effect) (b : Body) → SaidThen (SaidThen B xs) ys b → SaidThen B (xs ++ ys) b
  said_on B xs ys b (inl (inl l)) = inl l
  said_on B xs ys b (inl (inr i)) = inr (in_left (Say b) xs ys i)
  said_on B xs ys b (inr i) = inr (in_right (Say b) xs ys i)

  queue_sent : (v : Parts) (es : List Effect) (c : Disk) (m : Message) → members.In m (ran n v es c).queue → members.In (Send n m) es
  queue_sent v [] c m i = absurd i
  queue_sent v (Do w ∷ es) c m i = inr (queue_sent v es (worked w c) m i)
  queue_sent v (Say b ∷ es) c m i = inr (queue_sent v es c m i)
  queue_sent v (Send to x ∷ es) c m i = by (to == n) refl i (queue_sent v es c m)
    where
      by : (b : Bool) → (to == n) ≡ b → members.In m (if b then first_queued x (ran n v es c) else first_done (Send to x)
          (ran n v es c)).queue → (members.In m (ran n v es c).queue → members.In (Send n m) es) → members.In (Send n m) (Send to x ∷ es)
      by true same (inl is) ih = inl (λ i. Send (eqb-true to n same i) (is i))
      by true same (inr there) ih = inr (ih there)
      by false apart there ih = inr (ih there)

  module _ (e : ℕ) (base : ℕ → Option Node) where
    -- one handler's effects, behind which the messages to itself wait last
    behind_handler : (d : Disk) (v : Parts) (outs : List Effect) (M : Seen) (waiting : List Message) (G : Post → Type 0) (B : Body → Type 0)
        → M.nodes ≡ base
        → Walks P e n outs (Up P n v) d M → ((m : Message) → members.In m waiting → In (post_of n n m) M.sent) →
        ((b : Body) → IsSaid M.lines b → B b)
        → I (with_here n (record { disk = works outs d; parts = v }) base) (Then (WithQueue G waiting) n outs) B
        → let r = ran n v outs d in Stage base r.here (waiting ++ r.queue) (Then G n r.outs) (SaidThen B r.outs)
    behind_handler d v outs M waiting G B found walks queued lines brought = record {
      seen = after e n outs M;
      found = after_nodes e n outs M ∙ found;
      holds = subst (λ (h : Here). P (up n h.disk h.parts (after e n outs M))) (sym (ran_here n v outs d))
          (walk_end P e n outs (Up P n v) d M walks);
      queued = λ m i. ⊎_elim (λ old. after_within e n outs M (post_of n n m) (queued m old))
          (λ new. after_sent e n outs M n m (queue_sent v outs d m new)) (in_either waiting (ran n v outs d).queue m i);
      lines = λ b s. ⊎_elim (λ old. inl (lines b old)) (λ new. inr (ran_said n v outs d b new)) (after_lines e n outs M b s);
      brought = subst (λ (h : Here). I (with_here n h base) (WithQueue (Then G n (ran n v outs d).outs) (waiting ++ (ran n v outs d).queue))
          (SaidThen B (ran n v outs d).outs)) (sym (ran_here n v outs d))
          (more (with_here n (record { disk = works outs d; parts = v }) base) (Then (WithQueue G waiting) n outs)
          (WithQueue (Then G n (ran n v outs d).outs) (waiting ++ (ran n v outs d).queue)) B (SaidThen B (ran n v outs d).outs) (
            λ q. ⊎_elim (⊎_elim (λ g. inl (inl g)) (λ w. inr (w.0, w.1, in_left q.message waiting (ran n v outs d).queue w.2)))
                (λ s. sent_on q s),
            λ q. ⊎_elim (⊎_elim (λ g. inl (inl g)) (λ s. inr (s.0, ran_from n v outs d q.to q.message s.1))) (λ w. from_queue q w),
          ) (λ b h. inl h) brought);
    }
      where
        from_queue : (q : Post) → Queued (waiting ++ (ran n v outs d).queue) q → Then (WithQueue G waiting) n outs q
        from_queue q w = ⊎_elim (λ old. inl (inr (w.0, w.1, old)))
            (λ new. inr (w.0, subst (λ k. members.In (Send k q.message) outs) (sym w.1) (queue_sent v outs d q.message new)))
            (in_either waiting (ran n v outs d).queue q.message w.2)

        sent_on : (q : Post) → SentBy n outs q → WithQueue (Then G n (ran n v outs d).outs) (waiting ++ (ran n v outs d).queue) q
        sent_on q s = ⊎_elim (λ own. inr (s.0, own.0, in_right q.message waiting (ran n v outs d).queue own.1))
            (λ out. inl (inr (s.0, out))) (ran_sent n v outs d q.to q.message s.1)

    -- the first message that waits is handled
    one_stage : (m : Message) (ms : List Message) (h : Here) (F : Post → Type 0) (B : Body → Type 0) → Stage base h (m ∷ ms) F B
        → let r = ran_handled n h (taken n h.disk h.parts n m) in Stage base r.here (ms ++ r.queue) (Then F n r.outs) (SaidThen B r.outs)
    one_stage m ms h F B s = by (taken n h.disk h.parts n m) refl (message n h.disk h.parts n m s.seen s.holds here (WithQueue F (m ∷ ms)) G
        B (inr (refl, refl, inl refl)) less (λ q. ⊎_elim (λ f. inl f) (λ w. inr (w.0, w.1, inr w.2))) s.lines
        (subst (λ f. I (with_here n h f) (WithQueue F (m ∷ ms)) B) (sym s.found) s.brought))
      where
        G : Post → Type 0
        G = WithQueue F ms

        here : In (post_of n n m) (let M = s.seen in M.sent)
        here = s.queued m (inl refl)

        less : AllBut (post_of n n m) (WithQueue F (m ∷ ms)) G
        less q (inl f) = inr (inl f)
        less q (inr (from, to, inl is)) = inl (λ i. record { from = from i; to = to i; message = sym is i })
        less q (inr (from, to, inr i)) = inr (inr (from, to, i))

        by : (r : Handled) → taken n h.disk h.parts n m ≡ r → Left I n h (let M = s.seen in M.nodes) G B r → let x = ran_handled n h r in
            Stage base x.here (ms ++ x.queue) (Then F n x.outs) (SaidThen B x.outs)
        by (Void outs) so b =
            let looks : AreLooks outs = subst LooksAlone so (taken_looks n h.disk h.parts n m) in
            let still = looks_ran n h.parts outs h.disk looks in
            subst (λ (x : Here). Stage base x (ms ++ (ran n h.parts outs h.disk).queue) (Then F n (ran n h.parts outs h.disk).outs)
            (SaidThen B (ran n h.parts outs h.disk).outs)) (sym still.0)
            (record {
              seen = s.seen;
              found = s.found;
              holds = s.holds;
              queued = λ x i. s.queued x (inr (subst (members.In x) (ap (λ q. ms ++ q) still.1 ∙ append-nil ms) i));
              lines = λ c l. inl (s.lines c l);
              brought = more (with_here n h base) G (WithQueue (Then F n (ran n h.parts outs h.disk).outs)
                  (ms ++ (ran n h.parts outs h.disk).queue)) B (SaidThen B (ran n h.parts outs h.disk).outs) (
                    λ q. ⊎_elim (λ f. inl (inl f)) (λ w. inr (w.0, w.1, in_left q.message ms (ran n h.parts outs h.disk).queue w.2)),
                    λ q. ⊎_elim (⊎_elim (λ f. inl f)
                        (λ s. absurd (looks_send outs q.to q.message looks (ran_from n h.parts outs h.disk q.to q.message s.1))))
                        (λ w. inr (w.0, w.1, subst (members.In q.message) (ap (λ z. ms ++ z) still.1 ∙ append-nil ms) w.2)),
                  ) (λ c l. inl l)
                  (subst (λ f. I (with_here n h f) G B) s.found b);
            })
        by (Took v outs) so b = behind_handler h.disk v outs s.seen ms F B s.found
            (keeps.message e n h.disk h.parts v n m outs s.seen s.holds here (taken_meant n h.disk h.parts v n m outs so)
            (taken_took n h.disk h.parts v n m outs so))
            (λ x i. s.queued x (inr i)) s.lines
            (subst (λ f. I (with_here n (record { disk = works outs h.disk; parts = v }) f) (Then G n outs) B) s.found b)

    -- the messages that wait, one after another
    all_stage : (ms rest : List Message) (h : Here) (F : Post → Type 0) (B : Body → Type 0) → Stage base h (ms ++ rest) F B
        → let t = handle_all n ms h in Stage base t.here (rest ++ t.queue) (Then F n t.outs) (SaidThen B t.outs)
    all_stage [] rest h F B s = stage_to base h rest (rest ++ []) F (Then F n []) B (SaidThen B []) (sym (append-nil rest))
        (λ q f. inl f, λ q. ⊎_elim (λ f. f) (λ s. absurd s.1)) (λ b l. inl l) s
    all_stage (m ∷ ms) rest h F B s =
        let r = ran_handled n h (taken n h.disk h.parts n m) in
        let t = handle_all n ms r.here in
        let one = one_stage m (ms ++ rest) h F B s in
        let next = all_stage ms (rest ++ r.queue) r.here (Then F n r.outs) (SaidThen B r.outs)
        (stage_to base r.here ((ms ++ rest) ++ r.queue) (ms ++ (rest ++ r.queue)) (Then F n r.outs) (Then F n r.outs)
        (SaidThen B r.outs) (SaidThen B r.outs) (append_assoc ms rest r.queue) (λ q f. f, λ q f. f) (λ b l. l) one) in
        stage_to base t.here ((rest ++ r.queue) ++ t.queue) (rest ++ (r.queue ++ t.queue)) (Then (Then F n r.outs) n t.outs) (Then F n
        (r.outs ++ t.outs)) (SaidThen (SaidThen B r.outs) t.outs) (SaidThen B (r.outs ++ t.outs)) (append_assoc rest r.queue t.queue)
        (then_same F r.outs t.outs) (λ b. said_on B r.outs t.outs b) next

    rounds_stage : (j : ℕ) (r : Ran) (F : Post → Type 0) (B : Body → Type 0) →
        Stage base r.here r.queue (Then F n r.outs) (SaidThen B r.outs)
        → let q = rounds n j r in Stage base q.here q.queue (Then F n q.outs) (SaidThen B q.outs)
    rounds_stage zero r F B s = s
    rounds_stage (suc j) r F B s = by r.queue refl (rounds_stage j (next_round n r) F B)
      where
        t : Ran
        t = handle_all n r.queue r.here

        next : Stage base (next_round n r).here (next_round n r).queue (Then F n (next_round n r).outs) (SaidThen B (next_round n r).outs)
        next = stage_to base t.here ([] ++ t.queue) t.queue (Then (Then F n r.outs) n t.outs) (Then F n (r.outs ++ t.outs)) (SaidThen
            (SaidThen B r.outs) t.outs) (SaidThen B (r.outs ++ t.outs)) refl (then_same F r.outs t.outs) (λ b. said_on B r.outs t.outs b)
            (all_stage r.queue [] r.here (Then F n r.outs) (SaidThen B r.outs)
            (stage_to base r.here r.queue (r.queue ++ []) (Then F n r.outs) (Then F n r.outs) (SaidThen B r.outs) (SaidThen B r.outs)
            (sym (append-nil r.queue)) (λ q f. f, λ q f. f) (λ b l. l) s))

        one : List Message → Ran
        one q = elim q [ [] ↦ r | m ∷ ms ↦ rounds n j (next_round n r) ]

        by : (q : List Message) → r.queue ≡ q →
            (Stage base (next_round n r).here (next_round n r).queue (Then F n (next_round n r).outs) (SaidThen B (next_round n r).outs) →
            let x = rounds n j (next_round n r) in Stage base x.here x.queue (Then F n x.outs) (SaidThen B x.outs))
            → let x = one q in Stage base x.here x.queue (Then F n x.outs) (SaidThen B x.outs)
        by [] is ih = s
        by (m ∷ ms) is ih = ih next

    -- A whole step: what its handler's effects leave, and all messages to itself.
    pub whole_keeps : (d : Disk) (v : Parts) (outs : List Effect) (M : Seen) (F : Post → Type 0) (B : Body → Type 0) → M.nodes ≡ base →
        Walks P e n outs (Up P n v) d M → ((b : Body) → IsSaid M.lines b → B b)
        → I (with_here n (record { disk = works outs d; parts = v }) base) (Then F n outs) B → let q = whole n v outs d in
        I (with_here n q.here base) (Then F n q.outs) (SaidThen B q.outs)
    whole_keeps d v outs M F B found walks lines brought =
        let q = whole n v outs d in
        let first = behind_handler d v outs M [] F B found walks (λ m i. absurd i) lines
        (more (with_here n (record { disk = works outs d; parts = v }) base) (Then F n outs) (Then (WithQueue F []) n outs) B B
        (λ q. ⊎_elim (λ f. inl (inl f)) (λ s. inr s), λ q. ⊎_elim (⊎_elim (λ f. inl f) (λ w. absurd w.2)) (λ s. inr s)) (λ b l. l)
        brought) in
        let last = rounds_stage most_rounds (ran n v outs d) F B first in
        more (with_here n q.here base) (WithQueue (Then F n q.outs) q.queue) (Then F n q.outs) (SaidThen B q.outs) (SaidThen B q.outs)
        (λ p. ⊎_elim (λ f. f) (λ w. absurd (subst (members.In p.message) (whole_empty n v outs d) w.2)), λ p f. inl f) (λ b l. l)
        last.brought
