-- Who acknowledges is known as messages are sent, and as records come and go: at one node's effects, walked through.
use Rattle.arj_law_parts.proofs.Words
use Words.{◌≡◌, ◌≢◌, ◌⊎◌, ◌==◌, ◌∙◌, arith, ℕ, List, [], ◌∷◌, Bool, true, false, cond, Option, Some, None, Contains, refl, sym, ap, subst}
use Words.{inl, inr, ⊎_elim, eqb-true, ⊤, Ask, End, Head, Uid, asks, actor, Abort, After, Before, Commit, Disk, Do, Effect, InPart, Intent}
use Words.{Look, Prepare, PutInc, PutIntent, RemoveIntent, Say, Send, Stop, Work, stopped, worked, Parts, at_uid, has, put_uid, without_uid}
use Words.{is_told, Node, Post, Seen, uid_cases}
use Words.ask
use Words.ending
use Words.role
use Rattle.arj_law_serial.proofs.Terms
use Terms.{Action, told_by, In, at, posted, said, Up, Walks, halted, recorded, AreSorted, asks_part, IsPartAsked, AcksAreKnown, AreHomed}
use Terms.{AreListed, HasAcked, IsDemanded, IsPartOf, IsVoter, KnowsAcked, KnowsAcks, WasRecorded, acked_in, demanded, record_in}
use Terms.{records_in}
use Terms.keys

some_is : {A : Type 0} {a b : A} → Some a ≡ Some b → a ≡ b
some_is {A} {a} {b} is = let k : ◌≡◌ {A = Option A} (Some a) (Some b) = is in cc

none_some : {A P : Type 0} {o : Option A} {x : A} → o ≡ None → o ≡ Some x → P
none_some {A} {P} {o} {x} none is = let no_way : ◌≡◌ {A = Option A} None (Some x) = sym none ∙ is in absurd (cc no_way)

-- who is asked to vote is asked for a part
pub voter_part : (sent : List Post) (u : Uid) (k i : ℕ) → IsVoter sent u k i → IsPartAsked sent u k
voter_part sent u k i v = record {
  post = v.post;
  head = v.head;
  ask = ask.Vote i v.ties v.ends;
  there = v.posted;
  to_it = v.to;
  is = v.asking;
  part = refl;
  by = v.top;
}

-- ---- one message more

module _ (sent : List Post) (p : Post) where
  abbrev More : List Post
  More = p ∷ sent

  voter_more : (u : Uid) (k inc : ℕ) → IsVoter sent u k inc → IsVoter More u k inc
  voter_more u k inc v = record {
    post = v.post;
    posted = inr v.posted;
    to = v.to;
    head = v.head;
    ties = v.ties;
    ends = v.ends;
    asking = v.asking;
    top = v.top;
  }

  pub demanded_more : (u : Uid) → IsDemanded sent u → IsDemanded More u
  demanded_more u d = record { post = d.post; posted = inr d.posted; demands = d.demands }

  acked_more : (u : Uid) (k : ℕ) → HasAcked sent u k → HasAcked More u k
  acked_more u k a = record { post = a.post; posted = inr a.posted; from = a.from; acks = a.acks }

  -- the message asks for this part
  record Asks (u : Uid) (k : ℕ) : Type 0 where
    to : p.to ≡ k
    head : Head
    ask : Ask
    asking : asks p.message ≡ Some (head, ask)
    part : asks_part ask ≡ true
    top : actor head.path ≡ u

  parts : (u : Uid) (k : ℕ) → IsPartAsked More u k → IsPartAsked sent u k ⊎ Asks u k
  parts u k v = by v.there
    where
      by : In v.post More → IsPartAsked sent u k ⊎ Asks u k
      by (inl same) = inr (record {
        to = ap (λ (q : Post). q.to) same ∙ v.to_it;
        head = v.head;
        ask = v.ask;
        asking = ap (λ (q : Post). asks q.message) same ∙ v.is;
        part = v.part;
        top = v.by;
      })
      by (inr old) =
          inl (record { post = v.post; head = v.head; ask = v.ask; there = old; to_it = v.to_it; is = v.is; part = v.part; by = v.by })

  voters : (u : Uid) (k inc : ℕ) → IsVoter More u k inc → IsVoter sent u k inc ⊎ Asks u k
  voters u k inc v = by v.posted
    where
      by : In v.post More → IsVoter sent u k inc ⊎ Asks u k
      by (inl same) = inr (record {
        to = ap (λ (q : Post). q.to) same ∙ v.to;
        head = v.head;
        ask = ask.Vote inc v.ties v.ends;
        asking = ap (λ (q : Post). asks q.message) same ∙ v.asking;
        part = refl;
        top = v.top;
      })
      by (inr old) = inl
          (record { post = v.post; posted = old; to = v.to; head = v.head; ties = v.ties; ends = v.ends; asking = v.asking; top = v.top })

  demands : (u : Uid) → IsDemanded More u → IsDemanded sent u ⊎ (demanded p.message ≡ Some u)
  demands u d = by d.posted
    where
      by : In d.post More → IsDemanded sent u ⊎ (demanded p.message ≡ Some u)
      by (inl same) = inr (ap (λ (q : Post). demanded q.message) same ∙ d.demands)
      by (inr old) = inl (record { post = d.post; posted = old; demands = d.demands })

  acks : (u : Uid) (k : ℕ) → HasAcked More u k → HasAcked sent u k ⊎ ((acked_in p.message ≡ Some u) × (p.from ≡ k))
  acks u k a = by a.posted
    where
      by : In a.post More → HasAcked sent u k ⊎ ((acked_in p.message ≡ Some u) × (p.from ≡ k))
      by (inl same) = inr (ap (λ (q : Post). acked_in q.message) same ∙ a.acks, ap (λ (q : Post). q.from) same ∙ a.from)
      by (inr old) = inl (record { post = a.post; posted = old; from = a.from; acks = a.acks })

-- What may be sent: a part is asked for a top that has no record, and of which no end was told; an end that is to be acknowledged has its
-- record; an abort is told to nobody whom a record lists; and who acknowledges was told to.
pub record MayPost (begun : List Action) (records : Uid → Option Intent) (sent : List Post) (p : Post) : Type 0 where
  pub part : (h : Head) (a : Ask) → asks p.message ≡ Some (h, a) → asks_part a ≡ true
      → (records (actor h.path) ≡ None) × (IsDemanded sent (actor h.path) → ⊥) × ((q : Post) (w : Uid) → In q sent →
      Contains {X = Uid × End} (told_by q.message) (w, ending.Abort) → IsPartOf begun (actor h.path) w → ⊥)
  pub demand : (u : Uid) → demanded p.message ≡ Some u → (i : Intent) × (records u ≡ Some i)
  pub abort : (w u : Uid) (i : Intent) → Contains {X = Uid × End} (told_by p.message) (w, ending.Abort) → IsPartOf begun u w →
      IsPartAsked sent u p.to → records u ≡ Some i → has i.nodes p.to ≡ true → ⊥
  pub ack : (u : Uid) → acked_in p.message ≡ Some u → IsDemanded sent u

module _ (begun : List Action) (records : Uid →
    Option Intent) (sent : List Post) (p : Post) (may : MayPost begun records sent p) (l : AreListed begun records sent) where
  -- who is asked for a part now has no record
  new_none : (u : Uid) (k : ℕ) → Asks sent p u k → records u ≡ None
  new_none u k a = subst (λ w. records w ≡ None) a.top (may.part a.head a.ask a.asking a.part).0

  new_undemanded : (u : Uid) (k : ℕ) → Asks sent p u k → IsDemanded sent u → ⊥
  new_undemanded u k a d = (may.part a.head a.ask a.asking a.part).1 (subst (IsDemanded sent) (sym a.top) d)

  new_unaborted : (u : Uid) (k : ℕ) → Asks sent p u k → (q : Post) (w : Uid) → In q sent →
      Contains {X = Uid × End} (told_by q.message) (w, ending.Abort) → IsPartOf begun u w → ⊥
  new_unaborted u k a q w there told part =
      (may.part a.head a.ask a.asking a.part).2 q w there told (subst (λ z. IsPartOf begun z w) (sym a.top) part)

  pub posted_listed : AreListed begun records (p ∷ sent)
  posted_listed = record { listed = listed; ended = ended; aborts = aborts; asked = asked }
    where
      listed : (u : Uid) (i : Intent) (k : ℕ) → records u ≡ Some i → IsPartAsked (p ∷ sent) u k → has i.nodes k ≡ true
      listed u i k is v = ⊎_elim (λ old. l.listed u i k is old) (λ new. none_some (new_none u k new) is) (parts sent p u k v)

      ended : (u : Uid) (k : ℕ) → IsDemanded (p ∷ sent) u → records u ≡ None → IsPartAsked (p ∷ sent) u k → HasAcked (p ∷ sent) u k
      ended u k d none v = acked_more sent p u k (⊎_elim
          (λ old. ⊎_elim (λ had. l.ended u k old none had) (λ new. absurd (new_undemanded u k new old)) (parts sent p u k v))
          (λ new. let r = may.demand u new in none_some none r.1) (demands sent p u d))

      was : (u : Uid) → WasRecorded records (p ∷ sent) u → WasRecorded records sent u
      was u (inl r) = inl r
      was u (inr d) = ⊎_elim (λ old. inr old) (λ new. inl (may.demand u new)) (demands sent p u d)

      -- an abort that is told now
      now : (w u : Uid) → Contains {X = Uid × End} (told_by p.message) (w, ending.Abort) → IsPartOf begun u w → IsPartAsked sent u p.to →
          WasRecorded records sent u → HasAcked sent u p.to
      now w u told part v (inl r) = absurd (may.abort w u r.0 told part v r.1 (l.listed u r.0 p.to r.1 v))
      now w u told part v (inr d) = by (records u) refl
        where
          by : (o : Option Intent) → records u ≡ o → HasAcked sent u p.to
          by None none = l.ended u p.to d none v
          by (Some i) is = absurd (may.abort w u i told part v is (l.listed u i p.to is v))

      never : (u : Uid) (k : ℕ) → Asks sent p u k → WasRecorded records sent u → ⊥
      never u k a (inl r) = none_some (new_none u k a) r.1
      never u k a (inr d) = new_undemanded u k a d

      aborts : (q : Post) (w u : Uid) → In q (p ∷ sent) → Contains {X = Uid × End} (told_by q.message) (w, ending.Abort) →
          IsPartOf begun u w → IsPartAsked (p ∷ sent) u q.to → WasRecorded records (p ∷ sent) u → HasAcked (p ∷ sent) u q.to
      aborts q w u (inr there) told part v r = acked_more sent p u q.to (⊎_elim (λ old. l.aborts q w u there told part old (was u r))
          (λ new. absurd (new_unaborted u q.to new q w there told part)) (parts sent p u q.to v))
      aborts q w u (inl same) told part v r = acked_more sent p u q.to (⊎_elim
          (λ old. subst (λ (z : Post). HasAcked sent u z.to) same (now w u (subst (λ (z : Post). Contains {X = Uid × End} (told_by
          z.message) (w, ending.Abort)) (sym same) told) part (subst (λ (z : Post). IsPartAsked sent u z.to) (sym same) old) (was u r)))
          (λ new. absurd (never u q.to new (was u r))) (parts sent p u q.to v))

      asked : (u : Uid) (k : ℕ) → HasAcked (p ∷ sent) u k → IsDemanded (p ∷ sent) u
      asked u k a = demanded_more sent p u (⊎_elim (λ old. l.asked u k old) (λ new. may.ack u new.0) (acks sent p u k a))

  -- a node
  pub posted_knows : (few : Bool) (k : ℕ) (intents : List (Uid × Intent)) (t : Parts) → ((u : Uid) → acked_in p.message ≡ Some u →
      p.from ≡ k → is_told u t.server ≡ true) → KnowsAcked few sent k intents t → KnowsAcked few (p ∷ sent) k intents t
  posted_knows few k intents t told h = record {
    voted = λ u on. voter_more sent p u k t.server.inc (h.voted u on);
    acked = λ counted u a. ⊎_elim (λ old. ⊎_elim (λ is. inl is) (λ late.
        inr (λ i v. ⊎_elim (λ before. late i before) (λ new. absurd (new_undemanded u k new (l.asked u k old))) (voters sent p u k i v)))
        (h.acked counted u old)) (λ new. inl (told u new.0 new.1)) (acks sent p u k a);
    awaited = λ u j i m telling at on off. acked_more sent p u m (h.awaited u j i m telling at on off);
  }

-- ---- records

module _ (begun : List Action) (before after : Uid → Option Intent) (sent : List Post) (u : Uid) (others : (w : Uid) →
    (w ≡ u) ⊎ (after w ≡ before w)) (l : AreListed begun before sent) where
  -- a record is written
  put_listed : (i : Intent) → after u ≡ Some i → ((k : ℕ) → IsPartAsked sent u k → has i.nodes k ≡ true)
      → ((q : Post) (w : Uid) → In q sent → Contains {X = Uid × End} (told_by q.message) (w, ending.Abort) → IsPartOf begun u w →
      HasAcked sent u q.to) → AreListed begun after sent
  put_listed i is lists none = record {
    listed = λ w j k at v. ⊎_elim (λ same. subst (λ (z : Intent). has z.nodes k ≡ true) (some_is (sym is ∙ ap after (sym same) ∙ at))
        (lists k (subst (λ z. IsPartAsked sent z k) same v))) (λ other. l.listed w j k (sym other ∙ at) v) (others w);
    ended = λ w k d at v. ⊎_elim (λ same. none_some (ap after (sym same) ∙ at) is) (λ other. l.ended w k d (sym other ∙ at) v) (others w);
    aborts = λ q w z there told part v r.
        ⊎_elim (λ same. subst (λ y. HasAcked sent y q.to) (sym same) (none q w there told (subst (λ y. IsPartOf begun y w) same part)))
        (λ other. l.aborts q w z there told part v
        (⊎_elim (λ (x : (j : Intent) × (after z ≡ Some j)). inl (x.0, sym other ∙ x.1)) (λ d. inr d) r)) (others z);
    asked = l.asked;
  }

  -- a record goes
  removed_listed : after u ≡ None → ((k : ℕ) → IsPartAsked sent u k → HasAcked sent u k) → AreListed begun after sent
  removed_listed is each = record {
    listed = λ w j k at v. ⊎_elim (λ same. none_some is (ap after (sym same) ∙ at)) (λ other. l.listed w j k (sym other ∙ at) v) (others w);
    ended = λ w k d at v. ⊎_elim (λ same. subst (λ z. HasAcked sent z k) (sym same) (each k (subst (λ z. IsPartAsked sent z k) same v)))
        (λ other. l.ended w k d (sym other ∙ at) v) (others w);
    aborts = λ q w z there told part v r.
        ⊎_elim (λ same. subst (λ y. HasAcked sent y q.to) (sym same) (each q.to (subst (λ y. IsPartAsked sent y q.to) same v)))
        (λ other. l.aborts q w z there told part v
        (⊎_elim (λ (x : (j : Intent) × (after z ≡ Some j)). inl (x.0, sym other ∙ x.1)) (λ d. inr d) r)) (others z);
    asked = l.asked;
  }

-- ---- records of one node

-- the records of all, with these at the node
abbrev pub records_at : ℕ → List (Uid × Intent) → (ℕ → Option Node) → Uid → Option Intent
records_at k intents found u = cond (u.node == k) (at_uid u intents) (record_in u (found u.node))

same_test : (n m : ℕ) → n ≡ m → (n == m) ≡ true
same_test n m e = grind arith

pub here_at : (k : ℕ) (intents : List (Uid × Intent)) (found : ℕ → Option Node) (u : Uid) → u.node ≡ k →
    records_at k intents found u ≡ at_uid u intents
here_at k intents found u home = λ i. cond (same_test u.node k home i) (at_uid u intents) (record_in u (found u.node))

pub same_records : (k : ℕ) (d : Disk) (live : Option Parts) (M : Seen) → records_in ((at k d live M).nodes) ≡ records_at k d.intents M.nodes
same_records k d live M = λ i u. by u (u.node == k) i
  where
    by : (u : Uid) (b : Bool) → record_in u (cond b (Some (record { number = k; disk = d; live = live })) (M.nodes u.node))
        ≡ cond b (at_uid u d.intents) (record_in u (M.nodes u.node))
    by u true = refl
    by u false = refl

-- other records stand
moved_at : (k : ℕ) (a b : List (Uid × Intent)) (found : ℕ → Option Node) (u : Uid) → ((w : Uid) → w ≢ u → at_uid w b ≡ at_uid w a) →
    (w : Uid) → (w ≡ u) ⊎ (records_at k b found w ≡ records_at k a found w)
moved_at k a b found u others w = ⊎_elim (λ same. inl same) (λ other. inr (by (w.node == k) (others w other))) (uid_cases w u)
  where
    by : (c : Bool) → at_uid w b ≡ at_uid w a →
        cond c (at_uid w b) (record_in w (found w.node)) ≡ cond c (at_uid w a) (record_in w (found w.node))
    by true e = e
    by false e = refl

-- ---- a node's effects, walked through

module _ (few : Bool) (begun : List Action) (k : ℕ) (v : Parts) where
  -- A record that is written lists whoever was asked for a part, and of whom no abort was told, and is told as it stands; one goes that all
  -- of those acknowledged.
  pub record MayPut (u : Uid) (i : Intent) (sent : List Post) : Type 0 where
    pub home : u.node ≡ k
    pub lists : (j : ℕ) → IsPartAsked sent u j → has i.nodes j ≡ true
    pub none : (q : Post) (w : Uid) → In q sent → Contains {X = Uid × End} (told_by q.message) (w, ending.Abort) → IsPartOf begun u w → ⊥
    pub awaits : (j : Intent) → at_uid u v.coord.telling ≡ Some j → j.nodes ≡ i.nodes

  pub record MayRemove (u : Uid) (sent : List Post) (intents : List (Uid × Intent)) : Type 0 where
    pub home : u.node ≡ k
    pub sorted : AreSorted intents
    pub each : (j : ℕ) → IsPartAsked sent u j → HasAcked sent u j

  abbrev pub MayWork : Work → List Post → List (Uid × Intent) → Type 0
  MayWork (PutIntent u i) sent intents = MayPut u i sent
  MayWork (RemoveIntent u) sent intents = MayRemove u sent intents
  MayWork w sent intents = ⊤

  -- each effect may be done, one after another
  abbrev pub AllMay : (ℕ → Option Node) → List Effect → List Post → List (Uid × Intent) → Type 0
  AllMay found [] sent intents = ⊤
  AllMay found (Say b ∷ es) sent intents = AllMay found es sent intents
  AllMay found (Do w ∷ es) sent intents = MayWork w sent intents × AllMay found es sent (recorded (Do w) intents)
  AllMay found (Send to m ∷ es) sent intents = MayPost begun (records_at k intents found) sent (record { from = k; to = to; message = m })
      × ((u : Uid) → acked_in m ≡ Some u → is_told u v.server ≡ true)
      × AllMay found es (record { from = k; to = to; message = m } ∷ sent) intents

  worked_is : (w : Work) (d : Disk) → recorded (Do w) d.intents ≡ (worked w d).intents
  worked_is Look d = refl
  worked_is (PutInc i) d = refl
  worked_is (Prepare role.Store u states) d = refl
  worked_is (Prepare role.Names u states) d = refl
  worked_is (Commit role.Store u) d = refl
  worked_is (Commit role.Names u) d = refl
  worked_is (Abort role.Store u) d = refl
  worked_is (Abort role.Names u) d = refl
  worked_is (PutIntent u i) d = refl
  worked_is (RemoveIntent u) d = refl

  in_part_is : (which : Uid → Bool) (w : Work) (d : Disk) → (stopped (InPart which) w d).intents ≡ d.intents
  in_part_is which Look d = refl
  in_part_is which (PutInc i) d = refl
  in_part_is which (Prepare r u states) d = refl
  in_part_is which (Commit role.Store u) d = refl
  in_part_is which (Commit role.Names u) d = refl
  in_part_is which (Abort r u) d = refl
  in_part_is which (PutIntent u i) d = refl
  in_part_is which (RemoveIntent u) d = refl

  -- what is known of all records, and of this node's memory
  abbrev Has : (ℕ → Option Node) → List Post → List (Uid × Intent) → Type 0
  Has found sent intents = AreListed begun (records_at k intents found) sent × KnowsAcked few sent k intents v

  work_has : (found : ℕ → Option Node) (w : Work) (sent : List Post) (intents : List (Uid × Intent)) → MayWork w sent intents →
      Has found sent intents → Has found sent (recorded (Do w) intents)
  work_has found Look sent intents may h = h
  work_has found (PutInc i) sent intents may h = h
  work_has found (Prepare r u states) sent intents may h = h
  work_has found (Commit r u) sent intents may h = h
  work_has found (Abort r u) sent intents may h = h
  work_has found (PutIntent u i) sent intents may h = (
    put_listed begun (records_at k intents found) (records_at k (put_uid u i intents) found) sent u
        (moved_at k intents (put_uid u i intents) found u (λ w other. keys.put_other w u i intents other)) h.0 i
        (here_at k (put_uid u i intents) found u may.home ∙ keys.put_same u i intents) may.lists
        (λ q w there told part. absurd (may.none q w there told part)),
    (let o = h.1 in record {
      voted = o.voted;
      acked = o.acked;
      awaited = λ w j z m telling at on off. ⊎_elim (λ same. absurd (differ (ap (λ ns. has ns m)
          (may.awaits j (ap (λ y. at_uid y v.coord.telling) (sym same.0) ∙ telling)) ∙ ap (λ (y : Intent). has y.nodes m) same.1 ∙ on) off))
          (λ other. o.awaited w j z m telling other.1 on off) (keys.put_cases w u i z intents at);
    }),
  )
    where
      differ : {b : Bool} → b ≡ true → b ≡ false → ⊥
      differ a b = let no_way : true ≡ false = sym a ∙ b in cc no_way
  work_has found (RemoveIntent u) sent intents may h = (
    removed_listed begun (records_at k intents found) (records_at k (without_uid u intents) found) sent u
        (moved_at k intents (without_uid u intents) found u (λ w other. keys.without_other w u intents other)) h.0
        (here_at k (without_uid u intents) found u may.home ∙ keys.without_same u intents may.sorted) may.each,
    (let o = h.1 in record {
      voted = o.voted;
      acked = o.acked;
      awaited = λ w j z m telling at on off. o.awaited w j z m telling (keys.without_cases w u z intents may.sorted at).1 on off;
    }),
  )

  abbrev pub Others : Seen → Type 0
  Others M = (j : ℕ) (n : Node) → (j == k) ≡ false → M.nodes j ≡ Some n → KnowsAcks few M.sent j n

  pub of_node : (d : Disk) (live : Option Parts) (M : Seen) → AreHomed begun → AreListed begun (records_at k d.intents M.nodes) M.sent →
      Others M → KnowsAcks few M.sent k (record { number = k; disk = d; live = live }) → AcksAreKnown few begun (at k d live M)
  of_node d live M homes l others mine =
      record { homes = homes; world = subst (λ r. AreListed begun r M.sent) (sym (same_records k d live M)) l; nodes = nodes }
    where
      nodes : (j : ℕ) (n : Node) → (at k d live M).nodes j ≡ Some n → KnowsAcks few M.sent j n
      nodes j n is = by (j == k) refl is
        where
          by : (b : Bool) → (j == k) ≡ b → cond b (Some (record { number = k; disk = d; live = live })) (M.nodes j) ≡ Some n →
              KnowsAcks few M.sent j n
          by true same e = subst (λ i. KnowsAcks few M.sent i n) (sym (eqb-true j k same)) (subst (KnowsAcks few M.sent k) (some_is e) mine)
          by false off e = others j n off e

  pub down_known : (e : ℕ) (d : Disk) (M : Seen) → AreHomed begun → AreListed begun (records_at k d.intents M.nodes) M.sent → Others M →
      AcksAreKnown few begun (halted e k d M)
  down_known e d M homes l others = let z = of_node d None M homes l others (λ t is. none_some {A = Parts} refl is) in
      record { homes = z.homes; world = z.world; nodes = z.nodes }

  other_node : (j : ℕ) → (j == k) ≡ false → k ≡ j → ⊥
  other_node j off same = let no_way : true ≡ false = sym (same_test j k (sym same)) ∙ off in cc no_way

  pub acks_walk : (e : ℕ) (outs : List Effect) (d : Disk) (M : Seen) → AreHomed begun → Has M.nodes M.sent d.intents → Others M →
      AllMay M.nodes outs M.sent d.intents → Walks (AcksAreKnown few begun) e k outs (Up (AcksAreKnown few begun) k v) d M
  acks_walk e [] d M homes h others may =
      of_node d (Some v) M homes h.0 others (λ t is. subst (KnowsAcked few M.sent k d.intents) (some_is is) h.1)
  acks_walk e (Say b ∷ es) d M homes h others may = acks_walk e es d (said e (b ∷ []) M) homes h others may
  acks_walk e (Do w ∷ es) d M homes h others may =
      (stop, acks_walk e es (worked w d) M homes next others (subst (AllMay M.nodes es M.sent) (worked_is w d) may.1))
    where
      next : Has M.nodes M.sent (worked w d).intents
      next = subst (Has M.nodes M.sent) (worked_is w d) (work_has M.nodes w M.sent d.intents may.0 h)

      stop : (how : Stop) → AcksAreKnown few begun (halted e k (stopped how w d) M)
      stop Before = down_known e d M homes h.0 others
      stop After = down_known e (worked w d) M homes next.0 others
      stop (InPart which) = down_known e (stopped (InPart which) w d) M homes
          (subst (λ i. AreListed begun (records_at k i M.nodes) M.sent) (sym (in_part_is which w d)) h.0) others
  acks_walk e (Send to m ∷ es) d M homes h others may = λ more quiet.
      let p : Post = record { from = k; to = to; message = m } in
      acks_walk e es d (said e more (posted p M)) homes (
        posted_listed begun (records_at k d.intents M.nodes) M.sent p may.0 h.0,
        posted_knows begun (records_at k d.intents M.nodes) M.sent p may.0 h.0 few k d.intents v (λ u is from. may.1 u is) h.1,
      )
      (λ j n off is t live. posted_knows begun (records_at k d.intents M.nodes) M.sent p may.0 h.0 few j n.disk.intents t
      (λ u acked from. absurd (other_node j off from)) (others j n off is t live)) may.2

  -- a node of such a world
  pub known_at : (d : Disk) (live : Option Parts) (M : Seen) → AcksAreKnown few begun (at k d live M) → AreListed begun
      (records_at k d.intents M.nodes) M.sent × Others M × KnowsAcks few M.sent k (record { number = k; disk = d; live = live })
  known_at d live M all = (
    subst (λ r. AreListed begun r M.sent) (same_records k d live M) all.world,
    (λ j n off is. all.nodes j n (ap (λ b. cond b (Some (record { number = k; disk = d; live = live })) (M.nodes j)) off ∙ is)),
    all.nodes k (record { number = k; disk = d; live = live })
        (λ i. cond (same_test k k refl i) (Some (record { number = k; disk = d; live = live })) (M.nodes k)),
  )
