-- What stores gave to calls that wait for it stays so by the lock machine, through each step of a node: who waits behind it waited before,
-- or nothing was given to it yet.
use Rattle.arj_law_parts.proofs.Words
use Words.{◌≡◌, ◌≤◌, ◌<◌, ◌⊎◌, ◌∙◌, ℕ, List, [], ◌∷◌, Option, Some, None, refl, sym, ap, subst, inl, inr, ⊎_elim, arith, Asked, Body}
use Words.{ObjectState, Uid, Reply, actor, answers, Known, Calling, Coord, Doing, doing_of, Disk, Do, Effect, Say, Send, worked, Parts}
use Words.{binding_number, Node, is_own, Post, Seen}
use Words.list
use Words.loaded
use Rattle.arj_law_serial.proofs.Terms
use Terms.{AreNumbered, IsNumbered, doing_by, In, posted, said, up, Up, Walks, IsAskedFor, node_here, IsAskedBy, KnowsRequests, Guard, Run}
use Terms.{State, Load, Holds, start_holds, run_values, start_values, state_code, Fixed, AreLoadsLast, AwaitsLoad}
use Rattle.arj_law_lock.proofs.machine.{Stands.loads_stand, ValueClaims.Values}
use Rattle.arj_law_lock_view.proofs.facts.Onward.{AsksSame, IsFurther, IsLater}
use Rattle.arj_law_lock_view.specs.view.Calling.{IsReached}
use Rattle.arj_law_serial.proofs.joint.Mute.{AllSilent, silent_in}

-- ---- what is sent

-- what was sent newly is among these effects of node k
abbrev pub IsSentBy : Seen → ℕ → List Effect → Seen → Type 0
IsSentBy M k outs Z = (p : Post) → In p Z.sent → In p M.sent ⊎ ((p.from ≡ k) × list.In (Send p.to p.message) outs)

-- so it is along a walk
pub sent_walk : (M : Seen) (k e : ℕ) (outs es : List Effect) (v : Parts) (d : Disk) (N : Seen) →
    ((q : Effect) → list.In q es → list.In q outs) → IsSentBy M k outs N → Walks (IsSentBy M k outs) e k es (Up (IsSentBy M k outs) k v) d N
sent_walk M k e outs [] v d N among so = so
sent_walk M k e outs (Do w ∷ es) v d N among so = (λ how. so, sent_walk M k e outs es v (worked w d) N (λ q i. among q (inr i)) so)
sent_walk M k e outs (Say b ∷ es) v d N among so = sent_walk M k e outs es v d (said e (b ∷ []) N) (λ q i. among q (inr i)) so
sent_walk M k e outs (Send to m ∷ es) v d N among so = λ more quiet.
    sent_walk M k e outs es v d (said e more (posted (record { from = k; to = to; message = m }) N)) (λ q i. among q (inr i)) (next more)
  where
    next : (more : List Body) → IsSentBy M k outs (said e more (posted (record { from = k; to = to; message = m }) N))
    next more p (inl same) =
        inr (ap (λ (z : Post). z.from) (sym same), among (Send p.to p.message) (inl (ap (λ (z : Post). Send z.to z.message) same)))
    next more p (inr old) = so p old

-- ---- who waits

-- A coordinator goes on, and answers nobody.
abbrev pub GoesOnward : Coord → List Effect → Coord → Type 0
GoesOnward c outs e = ((u : Uid) → is_own u e.tree ≡ is_own u c.tree) × IsFurther c e × AllSilent outs

-- it stays as it was, or goes on so
abbrev pub IsOnward : Coord → List Effect → Coord → Type 0
IsOnward c outs e = (e ≡ c) ⊎ GoesOnward c outs e

-- who waits in another world, where its node is the same
pub as_before : (x : ℕ) (Z M : Seen) (a : Asked) (j s : ℕ) (q : Known) (w : AwaitsLoad x Z a j s q) → M.nodes j ≡ Some w.node →
    AwaitsLoad x M a j s q
as_before x Z M a j s q w same = record {
  node = w.node;
  parts = w.parts;
  doing = w.doing;
  steps = w.steps;
  rest = w.rest;
  op = w.op;
  here = same;
  number = w.number;
  live = w.live;
  found = w.found;
  now = w.now;
  about = w.about;
  goal = w.goal;
  waits = w.waits;
  request = w.request;
}

-- who waits behind a step of the node waited before it, or nothing was given to it
module _ (x k : ℕ) (d : Disk) (t : Parts) (M : Seen) (v : Parts) (outs : List Effect) (on : IsOnward t.coord outs v.coord)
    (requests : KnowsRequests M.sent k t.coord) (asked : (p : Post) (a : Asked) (r : Reply) → In p M.sent →
    answers p.message ≡ Some (a, r) → IsAskedFor M.sent p a r)
    (Z : Seen) (sent : IsSentBy M k outs Z) (numbered : AreNumbered v.coord) (a : Asked) (s : ℕ) (q : Known) (w : AwaitsLoad x Z a k s q)
    (parts : w.parts ≡ v) where
  abbrev Never : Type 0
  Never = (p : Post) (r : Reply) → In p Z.sent → p.to ≡ k → answers p.message ≡ Some (a, r) → ⊥

  found_here : doing_of a.act v.coord ≡ Some w.doing
  found_here = ap (λ (z : Parts). doing_of a.act z.coord) (sym parts) ∙ w.found

  -- it waited so
  waited : (o : Doing) → doing_of a.act t.coord ≡ Some o → o.now ≡ Calling w.steps → AwaitsLoad x (up k d t M) a k s q
  waited o found now = record {
    node = record { number = k; disk = d; live = Some t };
    parts = t;
    doing = o;
    steps = w.steps;
    rest = w.rest;
    op = w.op;
    here = node_here M k (record { number = k; disk = d; live = Some t });
    number = refl;
    live = refl;
    found = found;
    now = now;
    about = w.about;
    goal = w.goal;
    waits = w.waits;
    request = w.request;
  }

  -- the same number
  number_is : w.doing.req ≡ a.req
  number_is = sym (subst (IsNumbered w.doing.req) w.now (numbered a.act w.doing found_here)) ∙ w.request

  -- an answer was sent before, to what was asked
  module _ (own : (u : Uid) → is_own u v.coord.tree ≡ is_own u t.coord.tree) (silent : AllSilent outs) (p : Post) (r : Reply)
      (there : In p Z.sent) (to : p.to ≡ k) (is : answers p.message ≡ Some (a, r)) where
    before : In p M.sent
    before = ⊎_elim (λ old. old) (λ new. absurd (let none : ◌≡◌ {A = Option (Asked × Reply)} None (Some (a, r)) = sym
        (silent_in outs silent p.to p.message new.1) ∙ is in cc none)) (sent p there)

    its : IsAskedFor M.sent p a r
    its = asked p a r before is

    who : actor (let h = its.head in h.path) ≡ a.act
    who = ap (λ (z : Asked). z.act) its.asker

    by_it : IsAskedBy t.coord (let z = its.post in z.to) its.head its.request
    by_it = requests its.post its.head its.request its.posted (its.from ∙ to) its.asking
        (ap (λ (u : Uid). is_own u t.coord.tree) who ∙ sym (own a.act) ∙ (doing_by a.act v.coord w.doing found_here).0)

    found_before : doing_of a.act t.coord ≡ Some by_it.doing
    found_before = ap (λ (u : Uid). doing_of u t.coord) (sym who) ∙ by_it.found

    low : a.req ≤ (let o = by_it.doing in o.req)
    low = subst (λ (n : ℕ). n ≤ (let o = by_it.doing in o.req)) (ap (λ (z : Asked). z.req) its.asker) by_it.low

  order : (m n : ℕ) → m ≤ n → (m ≡ n) ⊎ (m < n)
  order m n le = grind (arith, le)

  less_not : (m n l : ℕ) → m < n → n ≡ l → l ≤ m → ⊥
  less_not m n l less same le = omega (arith, less, same, le)

  pub awaited : AwaitsLoad x (up k d t M) a k s q ⊎ Never
  awaited = ⊎_elim stays goes on
    where
      stays : v.coord ≡ t.coord → AwaitsLoad x (up k d t M) a k s q ⊎ Never
      stays same = inl (waited w.doing (ap (λ (z : Coord). doing_of a.act z) (sym same) ∙ found_here) w.now)

      goes : GoesOnward t.coord outs v.coord → AwaitsLoad x (up k d t M) a k s q ⊎ Never
      goes (own, further, silent) = by (doing_of a.act t.coord) refl
        where
          by : (o : Option Doing) → doing_of a.act t.coord ≡ o → AwaitsLoad x (up k d t M) a k s q ⊎ Never
          by None none = inr (λ p r there to is. let no_way : ◌≡◌ {A = Option Doing} None (Some (by_it own silent p r there to is).doing) =
              sym none ∙ found_before own silent p r there to is in absurd (cc no_way))
          by (Some o) found = ⊎_elim
              (λ (same : o.req ≡ g.0.req).
              inl (waited o found (subst (AsksSame o.now) (ap (λ (z : Doing). z.now) one ∙ w.now) (g.2.same same))))
              (λ (less : o.req < g.0.req). inr (λ p r there to is. less_not o.req g.0.req a.req less (ap (λ (z : Doing). z.req) one
              ∙ number_is) (subst (λ (z : Doing). a.req ≤ z.req) (same_one p r there to is) (low own silent p r there to is))))
              (order o.req g.0.req g.2.low)
            where
              g : (z : Doing) × (doing_of a.act v.coord ≡ Some z) × IsLater o z.req z.now
              g = further a.act o found

              one : g.0 ≡ w.doing
              one = let two : ◌≡◌ {A = Option Doing} (Some g.0) (Some w.doing) = sym g.1 ∙ found_here in cc two

              same_one : (p : Post) (r : Reply) (there : In p Z.sent) (to : p.to ≡ k) (is : answers p.message ≡ Some (a, r)) →
                  (by_it own silent p r there to is).doing ≡ o
              same_one p r there to is = let two : ◌≡◌ {A = Option Doing} (Some (by_it own silent p r there to is).doing) (Some o) = sym
                  (found_before own silent p r there to is) ∙ found in cc two

-- ---- what was given

module _ (f : Fixed) (x : ℕ) (S T : State) (M : Seen) (k : ℕ) (outs : List Effect) (reached : IsReached S) (run : Run S T)
    (before : AreLoadsLast f x S M) (Z : Seen) (nodes : (j : ℕ) (n : Node) (t : Parts) → Z.nodes j ≡ Some n → n.live ≡ Some t →
    (M.nodes j ≡ Some n) ⊎ (j ≡ k)) (sent : IsSentBy M k outs Z)
    (here : (a : Asked) (s : ℕ) (q : Known) → AwaitsLoad x Z a k s q →
    AwaitsLoad x M a k s q ⊎ ((p : Post) (r : Reply) → In p Z.sent → p.to ≡ k → answers p.message ≡ Some (a, r) → ⊥))
    (gives : (p : Post) (a : Asked) (st : ObjectState) (q : Known) → p.from ≡ k → list.In (Send p.to p.message) outs →
    answers p.message ≡ Some (a, Reply.Loaded (loaded.State st)) → AwaitsLoad x M a p.to p.from q →
    Guard (Load (binding_number q.binding) (state_code f.act f.code st)) S) where
  pub loads_next : AreLoadsLast f x T Z
  loads_next p a st q there is w = ⊎_elim
      (λ (old : M.nodes p.to ≡ Some w.node). then (as_before x Z M a p.to p.from q w old))
      (λ (same : p.to ≡ k). ⊎_elim (λ (old : AwaitsLoad x M a k p.from q). then (subst (λ (j : ℕ). AwaitsLoad x M a j p.from q) (sym same)
      old)) (λ never. absurd (never p (Reply.Loaded (loaded.State st)) there same is))
      (here a p.from q (subst (λ (j : ℕ). AwaitsLoad x Z a j p.from q) same w)))
      (nodes p.to w.node w.parts w.here w.live)
    where
      known : Holds S × Values S
      known = run_values reached.1 (start_holds reached.0) (start_values reached.0)

      then : AwaitsLoad x M a p.to p.from q → Guard (Load (binding_number q.binding) (state_code f.act f.code st)) T
      then old = loads_stand known.0 known.1 (binding_number q.binding) (state_code f.act f.code st) T
          (⊎_elim (λ sent_before. before p a st q sent_before is old) (λ new. gives p a st q new.0 new.1 is old) (sent p there)) run

-- where nodes that are up were so, and nothing more was sent
pub loads_stay : (f : Fixed) (x : ℕ) (S T : State) (M Z : Seen) → IsReached S → Run S T → AreLoadsLast f x S M → ((j : ℕ) (n : Node) (t :
    Parts) → Z.nodes j ≡ Some n → n.live ≡ Some t → M.nodes j ≡ Some n) → ((p : Post) → In p Z.sent → In p M.sent) → AreLoadsLast f x T Z
loads_stay f x S T M Z reached run before still sent =
    loads_next f x S T M 0 [] reached run before Z (λ j n t is live. inl (still j n t is live)) (λ p i. inl (sent p i))
    (λ a s q w. inl (as_before x Z M a 0 s q w (still 0 w.node w.parts w.here w.live))) (λ p a st q from i. absurd i)
