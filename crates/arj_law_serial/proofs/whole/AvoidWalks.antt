-- Each handler keeps what coordinators avoid.
use Rattle.arj_law_parts.proofs.Words
use Words.{◌≡◌, ◌≢◌, ◌⊎◌, ◌+◌, ◌==◌, ◌∙◌, ℕ, Bool, true, false, cond, List, [], ◌∷◌, Option, Some, None, refl, sym, ap, subst}
use Words.{inl, inr, ⊎_elim, Binding, Header, Kind, Label, Message, asks, again_all, begin_action, Coord, Disk, Do, Effect}
use Words.{Say, Send, stopped, worked, tick_outs, Parts, Took, handle, with_coord, unbound, Input, Node, acts as acts_of}
use Words.{parent_of, parts_in, refusal_up, restart_outs, request_reads_back}
use Words.{Post, Seen, is_serial}
use Words.ask
use Words.input
use Rattle.arj_law_serial.proofs.Terms
use Terms.{IsAtStarts, first_up}
use Terms.{Action, IsGoodOf, good_coord, it, other_number, same_number, is_act, In, at, given, posted, said, up, Up, Walks, halted}
use Terms.{BindsAreKnown, answers_fit, KeepsOf, Place, Avoids, AvoidsAreKnown, WasAvoided}
use Rattle.arj_law_serial.proofs.whole
use whole.Avoids.{GoesOut, avoids_acked, avoids_acts, avoids_again, avoids_begin, avoids_heard, avoids_new}
use whole.CoordCases.{Acks, Asks, CoordCase, Heard, OfParts, coord_case}

some_is : {A : Type 0} {a b : A} → Some a ≡ Some b → a ≡ b
some_is {A} {a} {b} is = let k : ◌≡◌ {A = Option A} (Some a) (Some b) = is in cc

none_at : {A P : Type 0} {o : Option A} {x : A} → o ≡ None → o ≡ Some x → P
none_at {A} {P} {o} {x} none is = let no_way : ◌≡◌ {A = Option A} None (Some x) = sym none ∙ is in absurd (cc no_way)

-- ---- more is sent

was_more : (p : Post) (sent : List Post) (x : ℕ) (a : Binding) → WasAvoided sent x a → WasAvoided (p ∷ sent) x a
was_more p sent x a (inl none) = inl none
was_more p sent x a (inr w) = inr (record { post = w.post; head = w.head; include = w.include; posted = inr w.posted; asking = w.asking })

pub avoids_to : (W V : ℕ → Binding → Type 0) (c : Coord) → ((x : ℕ) (a : Binding) → W x a → V x a) → Avoids W c → Avoids V c
avoids_to W V c to a =
    record { works = λ u d s b found is at. to s.x b (a.works u d s b found is at); roots = λ root x. to x _ (a.roots root x) }

none_was : (sent : List Post) (x : ℕ) → WasAvoided sent x unbound
none_was sent x = inl refl

-- what was sent, or is still to go out
abbrev Still : List Effect → List Post → ℕ → Binding → Type 0
Still outs sent x a = WasAvoided sent x a ⊎ GoesOut outs x a

abbrev Others : ℕ → Seen → Type 0
Others k M = (j : ℕ) (n : Node) (t : Parts) → (j ≡ k → ⊥) → M.nodes j ≡ Some n → n.live ≡ Some t → Avoids (WasAvoided M.sent) t.coord

others_of : (k : ℕ) (d : Disk) (live : Option Parts) (M : Seen) → AvoidsAreKnown (at k d live M) → Others k M
others_of k d live M all j n t apart is up_it =
    all j n t ((λ i. cond (other_number j k apart i) (Some (record { number = k; disk = d; live = live })) (M.nodes j)) ∙ is) up_it

own_of : (k : ℕ) (d : Disk) (t : Parts) (M : Seen) → AvoidsAreKnown (up k d t M) → Avoids (WasAvoided M.sent) t.coord
own_of k d t M all = all k (record { number = k; disk = d; live = Some t }) t
    (λ i. cond (same_number k i) (Some (record { number = k; disk = d; live = Some t })) (M.nodes k)) refl

back : (k : ℕ) (d : Disk) (live : Option Parts) (M : Seen) → ((t : Parts) → live ≡ Some t → Avoids (WasAvoided M.sent) t.coord) →
    Others k M → AvoidsAreKnown (at k d live M)
back k d live M its o j n t is up_it = by (j == k) refl is
  where
    by : (b : Bool) → (j == k) ≡ b → cond b (Some (record { number = k; disk = d; live = live })) (M.nodes j) ≡ Some n →
        Avoids (WasAvoided M.sent) t.coord
    by true same e = let here : record { number = k; disk = d; live = live } ≡ n = some_is e in
        its t (ap (λ (z : Node). z.live) here ∙ up_it)
    by false apart e =
        o j n t (λ same. let no_way : true ≡ false = sym (ap (λ z. z == k) same ∙ same_number k) ∙ apart in cc no_way) e up_it

down_so : (e k : ℕ) (d : Disk) (M : Seen) → Others k M → AvoidsAreKnown (halted e k d M)
down_so e k d M o = back k d None M (λ t is. none_at refl is) o

walk : (e k : ℕ) (v : Parts) (outs : List Effect) (d : Disk) (M : Seen) → Avoids (Still outs M.sent) v.coord → Others k M →
    Walks AvoidsAreKnown e k outs (Up AvoidsAreKnown k v) d M
walk e k v [] d M its o = back k d (Some v) M (λ t is. subst (λ (z : Parts). Avoids (WasAvoided M.sent) z.coord) (some_is is)
    (avoids_to (Still [] M.sent) (WasAvoided M.sent) v.coord (λ x a. sent_all x a) its)) o
  where
    sent_all : (x : ℕ) (a : Binding) → Still [] M.sent x a → WasAvoided M.sent x a
    sent_all x a (inl w) = w
    sent_all x a (inr g) = absurd g.out
walk e k v (Do w ∷ es) d M its o = (
  λ how. down_so e k (stopped how w d) M o,
  walk e k v es (worked w d) M (avoids_to (Still (Do w ∷ es) M.sent) (Still es M.sent) v.coord (λ x a. later x a) its) o,
)
  where
    later : (x : ℕ) (a : Binding) → Still (Do w ∷ es) M.sent x a → Still es M.sent x a
    later x a (inl z) = inl z
    later x a (inr g) =
        ⊎_elim (λ same. absurd (cc same)) (λ i. inr (record { to = g.to; head = g.head; include = g.include; out = i })) g.out
walk e k v (Say b ∷ es) d M its o =
    walk e k v es d (said e (b ∷ []) M) (avoids_to (Still (Say b ∷ es) M.sent) (Still es M.sent) v.coord (λ x a. later x a) its) o
  where
    later : (x : ℕ) (a : Binding) → Still (Say b ∷ es) M.sent x a → Still es M.sent x a
    later x a (inl z) = inl z
    later x a (inr g) =
        ⊎_elim (λ same. absurd (cc same)) (λ i. inr (record { to = g.to; head = g.head; include = g.include; out = i })) g.out
walk e k v (Send to m ∷ es) d M its o = λ more quiet. walk e k v es d (said e more (posted p M))
    (avoids_to (Still (Send to m ∷ es) M.sent) (Still es (p ∷ M.sent)) v.coord (λ x a. later x a) its) (λ j n t apart is up_it.
    avoids_to (WasAvoided M.sent) (WasAvoided (p ∷ M.sent)) t.coord (λ x a. was_more p M.sent x a) (o j n t apart is up_it))
  where
    p : Post
    p = record { from = k; to = to; message = m }

    message_is : {i j : ℕ} {y z : Message} → Send i y ≡ Send j z → y ≡ z
    message_is e = cc

    later : (x : ℕ) (a : Binding) → Still (Send to m ∷ es) M.sent x a → Still es (p ∷ M.sent) x a
    later x a (inl z) = inl (was_more p M.sent x a z)
    later x a (inr g) = ⊎_elim
        (λ same. inl (inr (record {
          post = p;
          head = g.head;
          include = g.include;
          posted = inl refl;
          asking = ap asks (message_is same) ∙ request_reads_back g.head (ask.Bind x g.include a);
        })))
        (λ i. inr (record { to = g.to; head = g.head; include = g.include; out = i })) g.out

-- ---- a node of a good world

module _ (begun : List Action) (e k : ℕ) (d : Disk) (t : Parts) (M : Seen) (bound_all : BindsAreKnown (up k d t M))
    (good : IsGoodOf begun (up k d t M)) (all : AvoidsAreKnown (up k d t M)) where
  place : Place M.sent k t.coord
  place = let u = it e k d t M (begun, good) in record {
    actions = begun;
    begun = good.begun;
    good = good_coord e k d t M (begun, good);
    numbered = u.numbered;
    faithful = u.faithful;
    binds = bound_all.nodes k (record { number = k; disk = d; live = Some t }) t
        (λ i. cond (same_number k i) (Some (record { number = k; disk = d; live = Some t })) (M.nodes k)) refl;
  }

  own : Avoids (WasAvoided M.sent) t.coord
  own = own_of k d t M all

  -- what was sent is enough
  walk_on : (v : Parts) (outs : List Effect) → Avoids (WasAvoided M.sent) v.coord →
      Walks AvoidsAreKnown e k outs (Up AvoidsAreKnown k v) d M
  walk_on v outs its =
      walk e k v outs d M (avoids_to (WasAvoided M.sent) (Still outs M.sent) v.coord (λ x a w. inl w) its) (others_of k d (Some t) M all)

  pub message_walk : (from : ℕ) (m : Message) (v : Parts) (outs : List Effect) → In (record { from = from; to = k; message = m }) M.sent →
      handle k d t from m ≡ Took v outs → Walks AvoidsAreKnown e k outs (Up AvoidsAreKnown k v) d M
  message_walk from m v outs there is = walk_on v outs (by (coord_case k d t v from m outs is))
    where
      by : CoordCase d t from m v outs → Avoids (WasAvoided M.sent) v.coord
      by (OfParts mine same plain sent_to) = subst (Avoids (WasAvoided M.sent)) (sym same) own
      by (Asks u which same outs_are) = subst (Avoids (WasAvoided M.sent)) (sym same) own
      by (Heard a r of same outs_are) = subst (Avoids (WasAvoided M.sent)) same (avoids_heard (WasAvoided M.sent) (none_was M.sent) M.sent
          k t.coord place own from a r d.intents (answers_fit begun e k d t M good bound_all from m there a r of))
      by (Acks u which same outs_are) = subst (Avoids (WasAvoided M.sent)) same
          (avoids_acked (WasAvoided M.sent) (none_was M.sent) M.sent k t.coord place own from u d.intents)

  pub act_walk : (hd : Header) (i : Input) → is_act i ≡ true → refusal_up hd i t.coord ≡ None → Walks AvoidsAreKnown e k
      (let r = acts_of i d.intents t.coord in r.outs) (Up AvoidsAreKnown k (with_coord t (acts_of i d.intents t.coord).part)) d M
  act_walk hd i is free =
      let r = acts_of i d.intents t.coord in
      walk e k (with_coord t r.part) r.outs d M (avoids_acts (WasAvoided M.sent) (none_was M.sent) M.sent k t.coord place own hd i d.intents
      free other) (others_of k d (Some t) M all)
    where
      other : (l : Label) (how : Kind) (parent : Option Label) → i ≢ input.Begin l how parent
      other l how parent same = let no_way : false ≡ true = sym (ap is_act same) ∙ is in cc no_way

  pub tick_walk : Walks AvoidsAreKnown e k (tick_outs (record { number = k; disk = d; live = Some t }) t)
      (Up AvoidsAreKnown k (with_coord t (again_all t.coord.doings t.coord).part)) d M
  tick_walk = walk_on (with_coord t (again_all t.coord.doings t.coord).part) (tick_outs (record { number = k; disk = d; live = Some t }) t)
      (avoids_again (WasAvoided M.sent) (none_was M.sent) M.sent k t.coord place own)

-- ---- at first

first_avoids : (hd : Header) → IsAtStarts hd AvoidsAreKnown
first_avoids hd st formed k n t is live = subst (λ (z : Parts). Avoids (WasAvoided []) z.coord) (first_up hd st k n t is live)
    (avoids_new (WasAvoided []) (none_was []) k (st.incs k + 1) [])

pub avoids_of : (hd : Header) → KeepsOf hd (λ acts M. BindsAreKnown M) (λ acts M. AvoidsAreKnown M)
avoids_of hd = record {
  quiet = λ acts e bs M quiet more g p. p;
  stop = λ acts e k d live M more g p. down_so e k d M (others_of k d live M p);
  message = λ acts e k d t v from m outs M more g p there meant is. message_walk acts e k d t M more g p from m v outs there is;
  act = λ acts e k d t i M is free more g p. act_walk acts e k d t M more g p hd i is free;
  begin = λ acts e k d t l how parent M new may free more g p.
      let did = begin_action l how parent (parent_of parent t.coord) t.coord in
      walk e k (with_coord t did.part) did.outs d (given l (record { node = k; serial = is_serial how }) M)
      (avoids_to (WasAvoided M.sent) (Still did.outs M.sent) did.part (λ x a w. inl w)
      (avoids_begin (WasAvoided M.sent) (none_was M.sent) l how parent t.coord (own_of k d t M p)))
      (others_of k d (Some t) M p);
  tick = λ acts e k d t M more g p. tick_walk acts e k d t M more g p;
  restart = λ acts e k d M more g p.
      walk e k (parts_in k (d.inc + 1) d) (restart_outs hd k (d.inc + 1) d) d M
      (avoids_to (WasAvoided M.sent) (Still (restart_outs hd k (d.inc + 1) d) M.sent) (let t = parts_in k (d.inc + 1) d in
      t.coord) (λ x a w. inl w) (avoids_new (WasAvoided M.sent) (none_was M.sent) k (d.inc + 1) d.intents))
      (others_of k d None M p);
  first = first_avoids hd;
}
