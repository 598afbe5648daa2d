-- Where a node was asked for a part in a top's commit, an abort of that top is told to it only where the top was aborted or its root
-- has ended: each handler keeps it.
use Rattle.arj_law_parts.proofs.Words
use Words.{◌≡◌, ◌≢◌, ◌⊎◌, ◌∙◌, ◌==◌, ℕ, Bool, true, false, cond, not, List, [], ◌∷◌, ◌++◌, map, refl, sym, ap, subst, inl, inr, ⊎_elim}
use Words.{Option, Some, None, Contains, ⊤, is_some, AllByRecursion, flat_map, and_parts, eqb-true, or_cases, in_from, in_to, Ask, Body}
use Words.{End, Head, Header, Message, Row, Uid, asks, is_on, last_uid, actor, Confirming, Machine, Preparing, Voting, ask_of, left_of}
use Words.{plan_of, back_lines, Coord, Disk, Do, Effect, Intent, Look, PutInc, PutIntent, Say, Send, Stop, Work, stopped, worked, tell_all}
use Words.{Named, Naming, Parts, prepared_actions, query_about, has, uid_set, without_number, without_uid, Node, hello_to, naming_at}
use Words.{naming_back, numbers_to, recovered_records, restart_outs, tolds_again, Branch, at_place, branch_of, is_open, is_open_branch}
use Words.{is_own, root_of, numbered, Post, Seen}
use Words.list
use Words.ask
use Words.body
use Words.ending
use Words.role
use Words.effect
use Rattle.arj_law_serial.proofs.Terms
use Terms.{Action, AreBegun, action_of, act_of, paths_of, IsBusy, IsCommitting, IsGoodCoord, IsOver, IsVoting, IsDecided, one_action}
use Terms.{none_in, at_in, without_in, IsGoodOf, IsMemory, it, other_number, same_number, In, at, down, posted, said, Up, Walks, halted}
use Terms.{Book, book, is_decided, new_book, AreIdle, book_more, decided_later, later_from, root_on, HasPart, asks_part, AllSeek, SeeksSo}
use Terms.{told_in, AbortsAreKnown, IsAbortTold, IsPartAsked, KnowsAborts}
use Rattle.arj_law_lock_view.specs.facts.Parted.{IsAskedNow, is_confirm}
use Rattle.arj_law_parts.proofs.parts.Keys.{put_cases}
use Rattle.arj_law_runs.proofs.journal.Books.{Later}
use Rattle.arj_law_runs.specs.journal.Knows.{EachRecord}
use Rattle.arj_law_serial.proofs.whole.Aborting.{AllTell, IsNoPut, IsPutSo, Runs, TellsSo}
use Rattle.arj_law_serial.specs.whole.Aborts.{KeepsAborts}

some_is : {A : Type 0} {a b : A} → Some a ≡ Some b → a ≡ b
some_is {A} {a} {b} is = let k : ◌≡◌ {A = Option A} (Some a) (Some b) = is in cc

none_at : {A P : Type 0} {o : Option A} {x : A} → o ≡ None → o ≡ Some x → P
none_at {A} {P} {o} {x} none is = let no_way : ◌≡◌ {A = Option A} None (Some x) = sym none ∙ is in absurd (cc no_way)

never : {P : Type 0} {b : Bool} → b ≡ true → b ≡ false → P
never {P} {b} holds fails = let no_way : true ≡ false = sym holds ∙ fails in absurd (cc no_way)

-- ---- what stays

later_said : (e : ℕ) (bs : List Body) (M : Seen) → Later (book M.lines) (book (let N = said e bs M in N.lines))
later_said e bs M =
    subst (Later (book M.lines)) (sym (book_more new_book M.lines (numbered e bs))) (later_from (book M.lines) (numbered e bs))

keeps_later : (begun : List Action) (sent : List Post) (B V : Book) (k : ℕ) (intents : List (Uid × Intent)) → Later B V →
    KeepsAborts begun sent B k intents → KeepsAborts begun sent V k intents
keeps_later begun sent B V k intents l keeps w i at other open_still u to node told part a known of root =
    l.aborted u (keeps w i at other (λ on. open_still (decided_later B V l w on)) u to node told part a known of root)

-- ---- a post more

-- an abort that is told of an action of this node, and a part that is asked of one
record IsOwnPost (k : ℕ) (r : Post) : Type 0 where
  tells : (u : Uid) → Contains {X = Uid × End} (told_in r.message) (u, ending.Abort) → u.node ≡ k
  asks_it : (h : Head) (a : Ask) → asks r.message ≡ Some (h, a) → asks_part a ≡ true → (let u = actor h.path in u.node) ≡ k

-- for an action of another node it's none
module _ (k : ℕ) (r : Post) (sent : List Post) (own : IsOwnPost k r) (u : Uid) (apart : u.node ≡ k → ⊥) where
  told_less : (to : ℕ) → IsAbortTold (r ∷ sent) u to → IsAbortTold sent u to
  told_less to p = ⊎_elim (λ same. absurd (apart (own.tells u (subst
      (λ (z : Post). Contains {X = Uid × End} (told_in z.message) (u, ending.Abort)) (sym same) p.3)))) (λ old. (p.0, old, p.2, p.3)) p.1

  part_less : (to : ℕ) → IsPartAsked (r ∷ sent) u to → IsPartAsked sent u to
  part_less to q = ⊎_elim (λ same. absurd (apart
      (ap (λ (z : Uid). z.node) (sym q.by) ∙ own.asks_it q.head q.ask (ap (λ (z : Post). asks z.message) same ∙ q.is) q.part))) (λ old.
      record { post = q.post; head = q.head; ask = q.ask; there = old; to_it = q.to_it; is = q.is; part = q.part; by = q.by }) q.there

-- ---- one node apart from the others

module _ (begun : List Action) where
  pub record Around (k : ℕ) (M : Seen) : Type 0 where
    pub told : (u : Uid) (to : ℕ) → IsAbortTold M.sent u to →
        ((a : Action) × Contains begun a × (act_of a ≡ u)) × ((u.node ≡ k) ⊎ ((n : Node) × (M.nodes u.node ≡ Some n)))
    pub confirms : (p : Post) (h : Head) (a : Ask) → In p M.sent → asks p.message ≡ Some (h, a) → is_confirm a ≡ true → p.to ≡ 1
    pub up : (j : ℕ) (n : Node) (t : Parts) → (j ≡ k → ⊥) → M.nodes j ≡ Some n → n.live ≡ Some t → KnowsAborts begun M.sent t.coord.tree
    pub down : (j : ℕ) (n : Node) → (j ≡ k → ⊥) → M.nodes j ≡ Some n → n.live ≡ None →
        KeepsAborts begun M.sent (book M.lines) j (let d = n.disk in d.intents)
    pub homes : (j : ℕ) (n : Node) (t : Parts) → (j ≡ k → ⊥) → M.nodes j ≡ Some n → n.live ≡ Some t → t.coord.tree.node ≡ j

  pub around : (k : ℕ) (d : Disk) (live : Option Parts) (M : Seen) → IsGoodOf begun (at k d live M) → AbortsAreKnown begun (at k d live M) →
      Around k M
  around k d live M good all = record {
    told = λ u to p. let b = all.told u to p in (b.0, by u (u.node == k) refl b.1);
    confirms = all.confirms;
    up = λ j n t apart is up_it. all.up j n t (elsewhere j apart ∙ is) up_it;
    down = λ j n apart is down_it. all.down j n (elsewhere j apart ∙ is) down_it;
    homes = λ j n t apart is up_it. let p = good.places j n (elsewhere j apart ∙ is) in
        let u = subst (IsMemory begun M.sent M.labels j n.disk.inc) up_it p.memory in u.node;
  }
    where
      x : Node
      x = record { number = k; disk = d; live = live }

      elsewhere : (j : ℕ) → (j ≡ k → ⊥) → (let S = at k d live M in S.nodes j) ≡ M.nodes j
      elsewhere j apart = λ i. cond (other_number j k apart i) (Some x) (M.nodes j)

      by : (u : Uid) (b : Bool) → (u.node == k) ≡ b → (n : Node) × ((let S = at k d live M in S.nodes u.node) ≡ Some n) →
          (u.node ≡ k) ⊎ ((n : Node) × (M.nodes u.node ≡ Some n))
      by u true same n = inl (eqb-true u.node k same)
      by u false off n = inr (n.0, (λ i. cond (sym off i) (Some x) (M.nodes u.node)) ∙ n.1)

  -- the node again, up or down
  abbrev IsAt : ℕ → Disk → Option Parts → Seen → Type 0
  IsAt k d live M = ((t : Parts) → live ≡ Some t → KnowsAborts begun M.sent t.coord.tree)
      × (live ≡ None → KeepsAborts begun M.sent (book M.lines) k d.intents)

  back : (k : ℕ) (d : Disk) (live : Option Parts) (M : Seen) → IsAt k d live M → Around k M → AbortsAreKnown begun (at k d live M)
  back k d live M its o = record {
    told = λ u to p. let b = o.told u to p in (b.0, found u (u.node == k) refl b.1);
    confirms = o.confirms;
    up = λ j n t is up_it. ups j n t (j == k) refl is up_it;
    down = λ j n is down_it. downs j n (j == k) refl is down_it;
  }
    where
      x : Node
      x = record { number = k; disk = d; live = live }

      off : (j : ℕ) → (j == k) ≡ false → j ≡ k → ⊥
      off j apart same = never (ap (λ z. z == k) same ∙ same_number k) apart

      found : (u : Uid) (b : Bool) → (u.node == k) ≡ b → (u.node ≡ k) ⊎ ((n : Node) × (M.nodes u.node ≡ Some n)) →
          (n : Node) × ((let S = at k d live M in S.nodes u.node) ≡ Some n)
      found u true same n = (x, λ i. cond (same i) (Some x) (M.nodes u.node))
      found u false apart (inl same) = absurd (off u.node apart same)
      found u false apart (inr n) = (n.0, (λ i. cond (apart i) (Some x) (M.nodes u.node)) ∙ n.1)

      ups : (j : ℕ) (n : Node) (t : Parts) (b : Bool) → (j == k) ≡ b → cond b (Some x) (M.nodes j) ≡ Some n → n.live ≡ Some t →
          KnowsAborts begun M.sent t.coord.tree
      ups j n t true same is up_it = its.0 t (ap (λ (z : Node). z.live) (some_is is) ∙ up_it)
      ups j n t false apart is up_it = o.up j n t (off j apart) is up_it

      downs : (j : ℕ) (n : Node) (b : Bool) → (j == k) ≡ b → cond b (Some x) (M.nodes j) ≡ Some n → n.live ≡ None →
          KeepsAborts begun M.sent (book M.lines) j (let y = n.disk in y.intents)
      downs j n true same is down_it = subst (λ (z : Node). KeepsAborts begun M.sent (book M.lines) j (let y = z.disk in y.intents))
          (some_is is) (subst (λ z. KeepsAborts begun M.sent (book M.lines) z d.intents) (sym (eqb-true j k same))
          (its.1 (ap (λ (z : Node). z.live) (some_is is) ∙ down_it)))
      downs j n false apart is down_it = o.down j n (off j apart) is down_it

  around_said : (k e : ℕ) (bs : List Body) (M : Seen) → Around k M → Around k (said e bs M)
  around_said k e bs M o = record {
    told = o.told;
    confirms = o.confirms;
    up = o.up;
    down = λ j n apart is down_it. keeps_later begun M.sent (book M.lines) (book (let N = said e bs M in N.lines)) j (let d = n.disk in
        d.intents) (later_said e bs M) (o.down j n apart is down_it);
    homes = o.homes;
  }

  pub quietly : (e : ℕ) (bs : List Body) (M : Seen) → AbortsAreKnown begun M → AbortsAreKnown begun (said e bs M)
  quietly e bs M all = record {
    told = all.told;
    confirms = all.confirms;
    up = all.up;
    down = λ j n is down_it. keeps_later begun M.sent (book M.lines) (book (let N = said e bs M in N.lines)) j (let d = n.disk in
        d.intents) (later_said e bs M) (all.down j n is down_it);
  }

  -- it has stopped
  pub down_so : (e k : ℕ) (d : Disk) (M : Seen) → KeepsAborts begun M.sent (book M.lines) k d.intents → Around k M →
      AbortsAreKnown begun (halted e k d M)
  down_so e k d M keeps o = quietly e (body.Halted k ∷ []) (down k d M) (back k d None M ((λ t is. none_at refl is), λ is. keeps) o)

  -- a message more from this node
  around_sent : (k to : ℕ) (m : Message) (M : Seen) → let r : Post = record { from = k; to = to; message = m } in IsOwnPost k r →
      ((u : Uid) → Contains {X = Uid × End} (told_in m) (u, ending.Abort) → (a : Action) × Contains begun a × (act_of a ≡ u)) →
      ((h : Head) (a : Ask) → asks m ≡ Some (h, a) → is_confirm a ≡ true → to ≡ 1) → Around k M → Around k (posted r M)
  around_sent k to m M own started confirm o = record {
    told = λ u n p. ⊎_elim (λ same. (
      started u (subst (λ (z : Post). Contains {X = Uid × End} (told_in z.message) (u, ending.Abort)) (sym same) p.3),
      inl (own.tells u (subst (λ (z : Post). Contains {X = Uid × End} (told_in z.message) (u, ending.Abort)) (sym same) p.3)),
    )) (λ old. o.told u n (p.0, old, p.2, p.3)) p.1;
    confirms = λ p h a there is it. ⊎_elim (λ same. ap (λ (z : Post). z.to) (sym same)
        ∙ confirm h a (ap (λ (z : Post). asks z.message) same ∙ is) it) (λ old. o.confirms p h a old is it) there;
    up = λ j n t apart is up_it u n2 p its. ups j n t apart is up_it u n2 p its;
    down = λ j n apart is down_it w i at other open_still u n2 node told part.
        o.down j n apart is down_it w i at other open_still u n2 node (told_less k r M.sent own u (λ same. apart (sym node ∙ same)) n2 told)
        (part_less k r M.sent own u (λ same. apart (sym node ∙ same)) n2 part);
    homes = o.homes;
  }
    where
      r : Post
      r = record { from = k; to = to; message = m }

      ups : (j : ℕ) (n : Node) (t : Parts) → (j ≡ k → ⊥) → M.nodes j ≡ Some n → n.live ≡ Some t →
          KnowsAborts begun (r ∷ M.sent) t.coord.tree
      ups j n t apart is up_it u n2 p its =
          let node : u.node ≡ j = eqb-true u.node t.coord.tree.node
          (and_parts (u.node == t.coord.tree.node) (u.inc == t.coord.tree.inc) its).0 ∙ o.homes j n t apart is up_it in
          let z = o.up j n t apart is up_it u n2 (told_less k r M.sent own u (λ same. apart (sym node ∙ same)) n2 p) its in
          (z.0, λ q. z.1 (part_less k r M.sent own u (λ same. apart (sym node ∙ same)) n2 q))

  -- ---- a node that goes on

  -- each part that it asked for is of an action at its commit, or the node has it
  abbrev pub IsAsker : List Post → Coord → Type 0
  IsAsker sent c = (p : Post) (h : Head) (a : Ask) → In p sent → asks p.message ≡ Some (h, a) → asks_part a ≡ true →
      is_own (actor h.path) c.tree ≡ true → IsCommitting (actor h.path) c ⊎ HasPart c (actor h.path) p.to

  -- each record on its disk is of a top that is decided
  abbrev AllDecided : Book → List (Uid × Intent) → Type 0
  AllDecided B intents = EachRecord (λ w. is_decided B w ≡ true) intents

  pub decided_keeps : (sent : List Post) (B : Book) (k : ℕ) (intents : List (Uid × Intent)) → AllDecided B intents →
      KeepsAborts begun sent B k intents
  decided_keeps sent B k intents all w i at other open_still u to node told part a known of root =
      absurd (open_still (all w i (in_to (w, i) intents (at_in w i intents at))))

  pub record Here (k : ℕ) (v : Parts) (sent : List Post) : Type 0 where
    pub asker : IsAsker sent v.coord
    pub aborts : KnowsAborts begun sent v.coord.tree

  -- a coordinator of this node that is good
  pub record IsHome (k : ℕ) (c : Coord) : Type 0 where
    pub good : IsGoodCoord begun (paths_of begun) c
    pub node : c.tree.node ≡ k

  -- what the coordinator had before it
  pub record Before (c : Coord) (B : Book) (sent : List Post) : Type 0 where
    pub good : IsGoodCoord begun (paths_of begun) c
    pub started : AreBegun begun
    pub aborts : KnowsAborts begun sent c.tree
    pub says : (u : Uid) → IsDecided u ending.Abort c.tree → is_on B.aborted u ≡ true

  module _ (k : ℕ) (v : Parts) (home : IsHome k v.coord) where
    -- who is at its commit hasn't ended
    not_over : (u : Uid) → IsCommitting u v.coord → IsOver u v.coord.tree → ⊥
    not_over u c o =
        let w : IsVoting v.coord.tree u (plan_of c.1) = subst (IsBusy v.coord.tree u) c.3 (home.good.busy u c.0 c.2) in
        never o.2 (ap (λ (z : Branch). is_some z.ended) (some_is (sym o.1 ∙ w.asking.found)) ∙ w.asking.opened)

    asked_commits : (to : ℕ) (h : Head) (a : Ask) → IsAskedNow v.coord to h a → IsCommitting (actor h.path) v.coord
    asked_commits to h a q = (q.doing, q.machine, q.works, q.now)

    own_node : (u : Uid) → is_own u v.coord.tree ≡ true → u.node ≡ k
    own_node u is = eqb-true u.node v.coord.tree.node (and_parts (u.node == v.coord.tree.node) (u.inc == v.coord.tree.inc) is).0 ∙ home.node

    own_of : (u : Uid) (b : Branch) → branch_of u v.coord.tree ≡ Some b → is_own u v.coord.tree ≡ true
    own_of u b = by (is_own u v.coord.tree)
      where
        by : (x : Bool) → cond x (at_place u.num v.coord.tree.branches) None ≡ Some b → x ≡ true
        by true is = refl
        by false is = none_at refl is

    own_post : (to : ℕ) (m : Message) → TellsSo begun v.coord (Send to m) → SeeksSo v.coord (Send to m) →
        IsOwnPost k (record { from = k; to = to; message = m })
    own_post to m tells seeks = record {
      tells = λ u i. ⊎_elim (λ g. let o = g.0 in own_node u (own_of u o.0 o.1)) (λ early. early.1 ∙ home.node) (tells u i);
      asks_it = λ h a is part. let q = seeks h a is part in let w : IsVoting v.coord.tree (actor h.path) (plan_of q.machine) = subst
          (IsBusy v.coord.tree (actor h.path)) q.now (home.good.busy (actor h.path) q.doing q.works) in
          own_node (actor h.path) (own_of (actor h.path) w.asking.branch w.asking.found);
    }

    told_begun : (to : ℕ) (m : Message) → TellsSo begun v.coord (Send to m) → (u : Uid) →
        Contains {X = Uid × End} (told_in m) (u, ending.Abort) → (a : Action) × Contains begun a × (act_of a ≡ u)
    told_begun to m tells u i = ⊎_elim (λ g. let o = g.0 in
        (action_of o.0, home.good.known u o.0 o.1, home.good.tree.lists.places u o.0 o.1)) (λ early. early.2) (tells u i)

    confirm_to : (to : ℕ) (m : Message) → SeeksSo v.coord (Send to m) → (h : Head) (a : Ask) → asks m ≡ Some (h, a) → is_confirm a ≡ true →
        to ≡ 1
    confirm_to to m seeks h a is it = by q.machine (ap is_confirm (sym q.same) ∙ it) q.left
      where
        part_of : (a : Ask) → is_confirm a ≡ true → asks_part a ≡ true
        part_of (ask.Confirm grants excluded included) it = refl
        part_of (ask.Vote i ties ends) it = refl
        part_of (ask.Bind x include avoid) it = absurd (cc it)
        part_of (ask.Load x) it = absurd (cc it)
        part_of (ask.Activate c st) it = absurd (cc it)
        part_of (ask.Record x c i g) it = absurd (cc it)
        part_of (ask.Invoke x c i ends op) it = absurd (cc it)
        part_of (ask.Prepare states) it = absurd (cc it)

        q : IsAskedNow v.coord to h a
        q = seeks h a is (part_of a it)

        by : (m : Machine) → is_confirm (ask_of m to) ≡ true → has (left_of m) to ≡ true → to ≡ 1
        by (Voting p left) asked left_it = absurd (cc asked)
        by (Preparing p left) asked left_it = absurd (cc asked)
        by (Confirming p) asked left_it = sym (eqb-true 1 to (⊎_elim (λ x. x) (λ bad. absurd (cc bad)) (or_cases (1 == to) false left_it)))

    here_more : (to : ℕ) (m : Message) (sent : List Post) → TellsSo begun v.coord (Send to m) → SeeksSo v.coord (Send to m) →
        Here k v sent → Here k v (record { from = k; to = to; message = m } ∷ sent)
    here_more to m sent tells seeks h = record { asker = asker; aborts = aborts }
      where
        r : Post
        r = record { from = k; to = to; message = m }

        new : (q : Post) (j : Head) (a : Ask) → r ≡ q → asks q.message ≡ Some (j, a) → asks_part a ≡ true →
            IsCommitting (actor j.path) v.coord
        new q j a same is part = asked_commits to j a (seeks j a (ap (λ (z : Post). asks z.message) same ∙ is) part)

        asker : IsAsker (r ∷ sent) v.coord
        asker q j a there is part own = ⊎_elim (λ same. inl (new q j a same is part)) (λ old. h.asker q j a old is part own) there

        aborts : KnowsAborts begun (r ∷ sent) v.coord.tree
        aborts u n p own = ⊎_elim
            (λ same.
            let g = ⊎_elim (λ now. now) (λ early. never own early.0)
            (tells u (subst (λ (z : Post). Contains {X = Uid × End} (told_in z.message) (u, ending.Abort)) (sym same) p.3)) in (
              g.0,
              λ q. ⊎_elim (λ spent. spent) (λ apart. absurd (⊎_elim
                  (λ commits. not_over u (subst (λ z. IsCommitting z v.coord) q.by commits) g.0)
                  (λ has_it. apart (subst (HasPart v.coord u) (q.to_it ∙ sym p.2 ∙ ap (λ (z : Post). z.to) (sym same))
                  (subst (λ z. HasPart v.coord z (let y = q.post in y.to)) q.by has_it)))
                  (asker q.post q.head q.ask q.there q.is q.part (ap (λ z. is_own z v.coord.tree) q.by ∙ own)))) g.1,
            ))
            (λ old.
            let z = h.aborts u n (p.0, old, p.2, p.3) own in (
              z.0,
              λ q. ⊎_elim
                  (λ same. absurd (not_over u (subst (λ y. IsCommitting y v.coord) q.by (new q.post q.head q.ask same q.is q.part)) z.0))
                  (λ older. z.1 (record {
                    post = q.post;
                    head = q.head;
                    ask = q.ask;
                    there = older;
                    to_it = q.to_it;
                    is = q.is;
                    part = q.part;
                    by = q.by;
                  })) q.there,
            )) p.1

    -- ---- walked through

    -- nothing more is done, or each record is of a top that is decided
    abbrev MayStop : List Effect → Book → List (Uid × Intent) → Type 0
    MayStop es B intents = AreIdle es ⊎ AllDecided B intents

    decided_worked : (B : Book) (w : Work) (d : Disk) → IsNoPut w → AllDecided B d.intents → (how : Stop) →
        AllDecided B (let c = stopped how w d in c.intents)
    decided_worked B w d none all how = by how w none
      where
        by : (how : Stop) (w : Work) → IsNoPut w → AllDecided B (let c = stopped how w d in c.intents)
        by effect.Before w none = all
        by effect.After Look none = all
        by effect.After (PutInc i) none = all
        by effect.After (effect.Prepare role.Store u states) none = all
        by effect.After (effect.Prepare role.Names u states) none = all
        by effect.After (effect.Commit role.Store u) none = all
        by effect.After (effect.Commit role.Names u) none = all
        by effect.After (effect.Abort role.Store u) none = all
        by effect.After (effect.Abort role.Names u) none = all
        by effect.After (PutIntent u i) none = absurd none
        by effect.After (effect.RemoveIntent u) none =
            λ w i there. all w i (in_to (w, i) d.intents (without_in u (w, i) d.intents (in_from (w, i) (without_uid u d.intents) there)))
        by (effect.InPart which) Look none = all
        by (effect.InPart which) (PutInc i) none = all
        by (effect.InPart which) (effect.Prepare r u states) none = all
        by (effect.InPart which) (effect.Commit role.Store u) none = all
        by (effect.InPart which) (effect.Commit role.Names u) none = all
        by (effect.InPart which) (effect.Abort r u) none = all
        by (effect.InPart which) (PutIntent u i) none = all
        by (effect.InPart which) (effect.RemoveIntent u) none = all

    pub walk : (e : ℕ) (outs : List Effect) (d : Disk) (M : Seen) → AllTell begun v.coord outs → AllSeek v.coord outs → Around k M →
        Here k v M.sent → MayStop outs (book M.lines) d.intents → Walks (AbortsAreKnown begun) e k outs (Up (AbortsAreKnown begun) k v) d M
    walk e [] d M tells seeks o h may = back k d (Some v) M
        ((λ t is. subst (λ (z : Parts). KnowsAborts begun M.sent z.coord.tree) (some_is is) h.aborts), λ is. none_at is refl) o
    walk e (Say b ∷ es) d M tells seeks o h may =
        walk e es d (said e (b ∷ []) M) tells.1 seeks.1 (around_said k e (b ∷ []) M o) h (later may)
      where
        later : MayStop (Say b ∷ es) (book M.lines) d.intents → MayStop es (book (let N = said e (b ∷ []) M in N.lines)) d.intents
        later (inl idle) = inl idle.1
        later (inr all) = inr
            (λ w i at. decided_later (book M.lines) (book (let N = said e (b ∷ []) M in N.lines)) (later_said e (b ∷ []) M) w (all w i at))
    walk e (Do w ∷ es) d M tells seeks o h (inl idle) = absurd idle.0
    walk e (Do w ∷ es) d M tells seeks o h (inr all) = (
      λ how. down_so e k (stopped how w d) M (decided_keeps M.sent (book M.lines) k (let c = stopped how w d in
          c.intents) (decided_worked (book M.lines) w d tells.0 all how)) o,
      walk e es (worked w d) M tells.1 seeks.1 o h (inr (decided_worked (book M.lines) w d tells.0 all effect.After)),
    )
    walk e (Send to m ∷ es) d M tells seeks o h may = λ more quiet.
        let r : Post = record { from = k; to = to; message = m } in
        walk e es d (said e more (posted r M)) tells.1 seeks.1
        (around_said k e more (posted r M)
        (around_sent k to m M (own_post to m tells.0 seeks.0) (told_begun to m tells.0) (confirm_to to m seeks.0) o))
        (here_more to m M.sent tells.0 seeks.0 h) (later more may)
      where
        later : (more : List Body) → MayStop (Send to m ∷ es) (book M.lines) d.intents →
            MayStop es (book (let N = said e more (posted (record { from = k; to = to; message = m }) M) in N.lines)) d.intents
        later more (inl idle) = inl idle.1
        later more (inr all) =
            inr (λ w i at. decided_later (book M.lines) (book (let N = said e more (posted (record { from = k; to = to; message = m }) M) in
            N.lines)) (later_said e more (posted (record { from = k; to = to; message = m }) M)) w (all w i at))

    -- ---- a step that may put a record

    put_keeps : (c : Coord) (B : Book) (sent : List Post) (w : Uid) (i : Intent) (d : Disk) → Before c B sent → AllDecided B d.intents →
        IsPutSo begun c w i → (how : Stop) → KeepsAborts begun sent B k (let x = stopped how (PutIntent w i) d in x.intents)
    put_keeps c B sent w i d b all put how = by how
      where
        new : (x : Uid) (j : Intent) → x ≡ w → j ≡ i → j.root ≢ x → (u : Uid) (to : ℕ) → IsAbortTold sent u to → IsPartAsked sent u to →
            (a : Action) → Contains begun a → act_of a ≡ u → root_of a.path ≡ j.root → is_on B.aborted u ≡ true
        new x j is_w is_i other u to told part a known of root =
            ⊎_elim (λ same. absurd (other (ap (λ (z : Intent). z.root) is_i ∙ same ∙ sym is_w)))
            (λ open_root. so (subst (λ z. is_open z c.tree ≡ true) (sym (root ∙ ap (λ (z : Intent). z.root) is_i)) open_root)) put
          where
            so : is_open (root_of a.path) c.tree ≡ true → is_on B.aborted u ≡ true
            so open_root =
                let r = opened (branch_of (root_of a.path) c.tree) refl open_root in
                let h = b.good.home a (root_of a.path) known (root_on a.path) (own_by (root_of a.path) r.0 r.1) in
                let its_own : is_own u c.tree ≡ true = own_by u h.0 (ap (λ z. branch_of z c.tree) (sym of) ∙ h.1) in
                ⊎_elim (λ gone. b.says u gone)
                (λ over.
                let one : over.0 ≡ a = one_action begun b.started over.0 a (in_from over.0 begun over.1) (in_from a begun known)
                (over.2 ∙ sym of) in
                let o : IsOver (root_of a.path) c.tree = subst (λ (z : Action). IsOver (root_of z.path) c.tree) one over.3 in
                never o.2 (ap (λ (z : Branch). is_some z.ended) (some_is (sym o.1 ∙ r.1)) ∙ r.2)) ((b.aborts u to told its_own).1 part)
              where
                opened : (x : Option Branch) → branch_of (root_of a.path) c.tree ≡ x → is_open (root_of a.path) c.tree ≡ true →
                    (y : Branch) × (branch_of (root_of a.path) c.tree ≡ Some y) × (is_some y.ended ≡ false)
                opened None is open_it = never open_it (ap is_open_branch is)
                opened (Some y) is open_it = (y, is, off_it (is_some y.ended) (sym (ap is_open_branch is) ∙ open_it))
                  where
                    off_it : (z : Bool) → not z ≡ true → z ≡ false
                    off_it false e = refl
                    off_it true e = absurd (cc e)

                own_by : (x : Uid) (y : Branch) → branch_of x c.tree ≡ Some y → is_own x c.tree ≡ true
                own_by x y = one (is_own x c.tree)
                  where
                    one : (z : Bool) → cond z (at_place x.num c.tree.branches) None ≡ Some y → z ≡ true
                    one true is = refl
                    one false is = none_at refl is

        by : (how : Stop) → KeepsAborts begun sent B k (let x = stopped how (PutIntent w i) d in x.intents)
        by effect.Before = decided_keeps sent B k d.intents all
        by (effect.InPart which) = decided_keeps sent B k d.intents all
        by effect.After = λ x j at other open_still u to node told part a known of root. ⊎_elim
            (λ same. new x j same.0 (sym same.1) other u to told part a known of root)
            (λ old. absurd (open_still (all x j (in_to (x, j) d.intents (at_in x j d.intents old.1))))) (put_cases x w i j d.intents at)

    pub runs_walk : (c : Coord) (e : ℕ) (outs : List Effect) (d : Disk) (M : Seen) → Runs begun c v.coord outs → AllSeek v.coord outs →
        Before c (book M.lines) M.sent → Around k M → Here k v M.sent → AllDecided (book M.lines) d.intents →
        Walks (AbortsAreKnown begun) e k outs (Up (AbortsAreKnown begun) k v) d M
    runs_walk c e [] d M runs seeks b o h all = walk e [] d M tt tt o h (inr all)
    runs_walk c e (Send to m ∷ es) d M runs seeks b o h all = walk e (Send to m ∷ es) d M runs seeks o h (inr all)
    runs_walk c e (Say x ∷ es) d M runs seeks b o h all =
        let l = later_said e (x ∷ []) M in
        runs_walk c e es d (said e (x ∷ []) M) runs seeks.1
        (record { good = b.good; started = b.started; aborts = b.aborts; says = λ u gone. l.aborted u (b.says u gone) })
        (around_said k e (x ∷ []) M o) h
        (λ w i at. decided_later (book M.lines) (book (let N = said e (x ∷ []) M in N.lines)) l w (all w i at))
    runs_walk c e (Do (PutIntent w i) ∷ es) d M runs seeks b o h all = (
      λ how. down_so e k (stopped how (PutIntent w i) d) M (put_keeps c (book M.lines) M.sent w i d b all runs.0 how) o,
      walk e es (worked (PutIntent w i) d) M runs.1 seeks.1 o h (inl runs.2),
    )
    runs_walk c e (Do Look ∷ es) d M runs seeks b o h all = walk e (Do Look ∷ es) d M (tt, runs) seeks o h (inr all)
    runs_walk c e (Do (PutInc i) ∷ es) d M runs seeks b o h all = walk e (Do (PutInc i) ∷ es) d M (tt, runs) seeks o h (inr all)
    runs_walk c e (Do (effect.Prepare r u states) ∷ es) d M runs seeks b o h all =
        walk e (Do (effect.Prepare r u states) ∷ es) d M (tt, runs) seeks o h (inr all)
    runs_walk c e (Do (effect.Commit r u) ∷ es) d M runs seeks b o h all =
        walk e (Do (effect.Commit r u) ∷ es) d M (tt, runs) seeks o h (inr all)
    runs_walk c e (Do (effect.Abort r u) ∷ es) d M runs seeks b o h all =
        walk e (Do (effect.Abort r u) ∷ es) d M (tt, runs) seeks o h (inr all)
    runs_walk c e (Do (effect.RemoveIntent u) ∷ es) d M runs seeks b o h all =
        walk e (Do (effect.RemoveIntent u) ∷ es) d M (tt, runs) seeks o h (inr all)

-- ---- effects that say nothing of aborts, and ask for nothing

abbrev pub IsMute : Effect → Type 0
IsMute (Send to m) = (asks m ≡ None) × ((u : Uid) → Contains {X = Uid × End} (told_in m) (u, ending.Abort) → ⊥)
IsMute (Do Look) = ⊤
IsMute (Do (PutInc i)) = ⊤
IsMute (Do w) = ⊥
IsMute (Say b) = ⊤

abbrev pub AllMute : List Effect → Type 0
AllMute outs = AllByRecursion IsMute outs

mute_both : (xs ys : List Effect) → AllMute xs → AllMute ys → AllMute (xs ++ ys)
mute_both [] ys a b = b
mute_both (x ∷ xs) ys a b = (a.0, mute_both xs ys a.1 b)

pub mute_tells : (begun : List Action) (c : Coord) (outs : List Effect) → AllMute outs → AllTell begun c outs
mute_tells begun c [] all = tt
mute_tells begun c (Say b ∷ es) all = (tt, mute_tells begun c es all.1)
mute_tells begun c (Send to m ∷ es) all = ((λ u i. absurd (all.0.1 u i)), mute_tells begun c es all.1)
mute_tells begun c (Do Look ∷ es) all = (tt, mute_tells begun c es all.1)
mute_tells begun c (Do (PutInc i) ∷ es) all = (tt, mute_tells begun c es all.1)
mute_tells begun c (Do (effect.Prepare r u states) ∷ es) all = absurd all.0
mute_tells begun c (Do (effect.Commit r u) ∷ es) all = absurd all.0
mute_tells begun c (Do (effect.Abort r u) ∷ es) all = absurd all.0
mute_tells begun c (Do (PutIntent u i) ∷ es) all = absurd all.0
mute_tells begun c (Do (effect.RemoveIntent u) ∷ es) all = absurd all.0

pub mute_seeks : (c : Coord) (outs : List Effect) → AllMute outs → AllSeek c outs
mute_seeks c [] all = tt
mute_seeks c (Say b ∷ es) all = (tt, mute_seeks c es all.1)
mute_seeks c (Do w ∷ es) all = (tt, mute_seeks c es all.1)
mute_seeks c (Send to m ∷ es) all = ((λ h a is part. none_at all.0.0 is), mute_seeks c es all.1)

pub mute_queries : (us : List Uid) → AllMute (map query_about us)
mute_queries [] = tt
mute_queries (u ∷ us) = ((refl, λ w i. none_in w ending.Abort i), mute_queries us)

pub mute_records : (records : List (Uid × Intent)) → AllMute (tolds_again records)
mute_records [] = tt
mute_records (e ∷ es) =
    mute_both (tell_all e.1.root true ((e.0, ending.Commit) ∷ []) e.1.nodes) (tolds_again es) (each e.1.nodes) (mute_records es)
  where
    one : (w : Uid) → Contains {X = Uid × End} ((e.0, ending.Commit) ∷ []) (w, ending.Abort) → ⊥
    one w i = by (in_from (w, ending.Abort) ((e.0, ending.Commit) ∷ []) i)
      where
        by : list.In {X = Uid × End} (w, ending.Abort) ((e.0, ending.Commit) ∷ []) → ⊥
        by (inl same) = let no_way : ending.Commit ≡ ending.Abort = ap (λ (x : Uid × End). x.1) same in cc no_way
        by (inr none) = none

    each : (ns : List ℕ) → AllMute (tell_all e.1.root true ((e.0, ending.Commit) ∷ []) ns)
    each [] = tt
    each (n ∷ ns) = ((refl, one), each ns)

pub mute_restart : (hd : Header) (k inc : ℕ) (d : Disk) → AllMute (restart_outs hd k inc d)
mute_restart hd k inc d = mute_both four hellos (mute_both three asking (mute_both two tolds
    (mute_both one records (tt, (tt, (tt, (tt, backs (naming_at k inc d.names))))) (tt, recovered d.intents)) (mute_records d.intents))
    (mute_queries (uid_set (prepared_actions d.store ++ prepared_actions d.names)))) (hello (without_number k (numbers_to hd.nodes)))
  where
    backs : (o : Option Naming) → AllMute (naming_back o)
    backs None = tt
    backs (Some o) = each o.objects
      where
        lines : (n : Named) (rs : List Row) → AllMute (map (λ (r : Row). Say (body.Granted 1 (last_uid r.holder) r.object r.mode)) rs)
        lines n [] = tt
        lines n (r ∷ rs) = (tt, lines n rs)

        each : (os : List (ℕ × Named)) → AllMute (flat_map (λ (e : ℕ × Named). back_lines e.1) os)
        each [] = tt
        each (e ∷ os) =
            mute_both (back_lines e.1) (flat_map (λ (e : ℕ × Named). back_lines e.1) os) (lines e.1 (let q = e.1 in q.rows)) (each os)

    recovered : (intents : List (Uid × Intent)) → AllMute (recovered_records k intents)
    recovered [] = tt
    recovered (e ∷ es) = (tt, recovered es)

    hello : (ns : List ℕ) → AllMute (map (hello_to k inc) ns)
    hello [] = tt
    hello (n ∷ ns) = ((refl, λ w i. none_in w ending.Abort i), hello ns)

    one : List Effect
    one = Do Look ∷ Do (PutInc inc) ∷ Say (body.Up k inc) ∷ Do Look ∷ naming_back (naming_at k inc d.names)

    records : List Effect
    records = Do Look ∷ recovered_records k d.intents

    two : List Effect
    two = one ++ records

    tolds : List Effect
    tolds = tolds_again d.intents

    three : List Effect
    three = two ++ tolds

    asking : List Effect
    asking = map query_about (uid_set (prepared_actions d.store ++ prepared_actions d.names))

    four : List Effect
    four = three ++ asking

    hellos : List Effect
    hellos = map (hello_to k inc) (without_number k (numbers_to hd.nodes))

-- a node that starts: until it is up its disk has the same records
module _ (begun : List Action) (k : ℕ) (v : Parts) (bare : (u : Uid) → is_own u v.coord.tree ≡ true →
    ((a : Action) × Contains begun a × (act_of a ≡ u)) → ⊥) where
  pub start_walk : (e : ℕ) (outs : List Effect) (d : Disk) (M : Seen) → AllMute outs → Around begun k M →
      KeepsAborts begun M.sent (book M.lines) k d.intents → Walks (AbortsAreKnown begun) e k outs (Up (AbortsAreKnown begun) k v) d M
  start_walk e [] d M all o keeps = back begun k d (Some v) M (
    (λ t is.
        subst (λ (z : Parts). KnowsAborts begun M.sent z.coord.tree) (some_is is) (λ u to p own. absurd (bare u own (o.told u to p).0))),
    λ is. none_at is refl,
  ) o
  start_walk e (Say b ∷ es) d M all o keeps = start_walk e es d (said e (b ∷ []) M) all.1 (around_said begun k e (b ∷ []) M o)
      (keeps_later begun M.sent (book M.lines) (book (let N = said e (b ∷ []) M in N.lines)) k d.intents (later_said e (b ∷ []) M) keeps)
  start_walk e (Do Look ∷ es) d M all o keeps =
      ((λ how. down_so begun e k (stopped how Look d) M (same how) o), start_walk e es d M all.1 o keeps)
    where
      same : (how : Stop) → KeepsAborts begun M.sent (book M.lines) k (let c = stopped how Look d in c.intents)
      same effect.Before = keeps
      same effect.After = keeps
      same (effect.InPart which) = keeps
  start_walk e (Do (PutInc i) ∷ es) d M all o keeps =
      ((λ how. down_so begun e k (stopped how (PutInc i) d) M (same how) o), start_walk e es (worked (PutInc i) d) M all.1 o keeps)
    where
      same : (how : Stop) → KeepsAborts begun M.sent (book M.lines) k (let c = stopped how (PutInc i) d in c.intents)
      same effect.Before = keeps
      same effect.After = keeps
      same (effect.InPart which) = keeps
  start_walk e (Do (effect.Prepare r u states) ∷ es) d M all o keeps = absurd all.0
  start_walk e (Do (effect.Commit r u) ∷ es) d M all o keeps = absurd all.0
  start_walk e (Do (effect.Abort r u) ∷ es) d M all o keeps = absurd all.0
  start_walk e (Do (PutIntent u i) ∷ es) d M all o keeps = absurd all.0
  start_walk e (Do (effect.RemoveIntent u) ∷ es) d M all o keeps = absurd all.0
  start_walk e (Send to m ∷ es) d M all o keeps = λ more quiet.
      let r : Post = record { from = k; to = to; message = m } in
      start_walk e es d (said e more (posted r M)) all.1 (around_said begun k e more (posted r M)
      (around_sent begun k to m M (record { tells = λ u i. absurd (all.0.1 u i); asks_it = λ h a is part. none_at all.0.0 is })
      (λ u i. absurd (all.0.1 u i)) (λ h a is it. none_at all.0.0 is) o))
      (keeps_later begun (r ∷ M.sent) (book M.lines) (book (let N = said e more (posted r M) in N.lines)) k d.intents
      (later_said e more (posted r M)) (less keeps))
    where
      less : KeepsAborts begun M.sent (book M.lines) k d.intents →
          KeepsAborts begun (record { from = k; to = to; message = m } ∷ M.sent) (book M.lines) k d.intents
      less keeps w i at other open_still u n node told part = keeps w i at other open_still u n node
          (⊎_elim (λ same. absurd (all.0.1 u (subst (λ (z : Post). Contains {X = Uid × End} (told_in z.message) (u, ending.Abort))
          (sym same) told.3))) (λ old. (told.0, old, told.2, told.3)) told.1)
          (⊎_elim (λ same. none_at all.0.0 (ap (λ (z : Post). asks z.message) same ∙ part.is)) (λ old. record {
            post = part.post;
            head = part.head;
            ask = part.ask;
            there = old;
            to_it = part.to_it;
            is = part.is;
            part = part.part;
            by = part.by;
          }) part.there)
