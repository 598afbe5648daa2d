-- What coordinators have of naming's answers, at all nodes, where one of them makes a step.
use Rattle.arj_law_parts.proofs.Words
use Words.{◌≡◌, ◌⊎◌, ◌<◌, ℕ, true, List, [], ◌∷◌, Option, Some, None, sym, ◌∙◌, subst, ⊎_elim, inl, AllByRecursion, Uid, asks, Asked, Steps}
use Words.{Calling, Doing, doing_of, Disk, Effect, Say, Send, Do, Stop, stopped, worked, Parts, uid_number, Node, is_own, Post, Seen, Reply}
use Words.{answers}
use Rattle.arj_law_disk_view.proofs.Terms
use Terms.{Office, posted, said, Walks, halted, IsFixed, Kinds, ClaimsAsked, HasNoneOf, SeesHeard, SeesHeardAt, IsToStep, IsAskedFor}
use Terms.seen
use Rattle.arj_law_disk_view.proofs.running.HeardStays.{GoesOn, IsNewTo, SaysToStep, SendsMore, StaysOf, at_goes, was_to}

-- ---- from all nodes to all nodes

module _ (x : ℕ) (tops : Kinds) (A B : Office) (M N : Seen) (f : IsFixed tops A.world.disk) (h : IsFixed tops B.world.disk)
    (on : GoesOn A B) (p : SeesHeard x tops A M) where
  -- the node was up with this coordinator, whose roots stay
  pub record WasAt (j : ℕ) (t : Parts) : Type 0 where
    pub node : Node
    pub there : M.nodes j ≡ Some node
    pub parts : Parts
    pub live : node.live ≡ Some parts
    pub same : parts.coord ≡ t.coord
    pub stays : (u : Uid) → is_own u t.coord.tree ≡ true → (tops.root (uid_number u) ≡ uid_number u) ⊎ (tops.is_top (uid_number u) ≡ true) →
        StaysOf tops (tops.root (uid_number u)) A B

  -- where answers that were sent to steps of coordinators which were up were so before, or say what they claim
  pub heard_goes :
      ((j : ℕ) (n : Node) (t : Parts) → M.nodes j ≡ Some n → n.live ≡ Some t → (u : Uid) (q : Doing) (s : Steps) → doing_of u t.coord
      ≡ Some q → q.now ≡ Calling s → s.x ≡ x → (r : Reply) → IsToStep j N.sent s r → IsToStep j M.sent s r ⊎ SaysToStep x s r B.names)
      → ((q : Post) → seen.In q N.sent → ClaimsAsked x B (asks q.message)) →
      ((q : Post) (a : Asked) (r : Reply) → seen.In q N.sent → answers q.message ≡ Some (a, r) → IsAskedFor N.sent q a r) →
      ((j : ℕ) (n : Node) (t : Parts) → N.nodes j ≡ Some n → n.live ≡ Some t → WasAt j t ⊎ SeesHeardAt x j tops N.sent t.coord B)
      → ((j : ℕ) (n : Node) (u : Uid) → N.nodes j ≡ Some n → u.node ≡ j → tops.root (uid_number u) ≡ uid_number u →
      (let d = n.disk in d.inc) < u.inc → HasNoneOf tops (uid_number u) B) → SeesHeard x tops B N
  heard_goes said claims asked coords future = record {
    kinds = p.kinds;
    coords = λ j n t there live. ⊎_elim
        (λ (w : WasAt j t). subst (λ c. SeesHeardAt x j tops N.sent c B) w.same
        (at_goes x tops A B f h on j M.sent N.sent (let q = w.parts in
        q.coord) (λ u q s does now of r to. said j w.node w.parts w.there w.live u q s does now of r to)
        (subst (λ c. (u : Uid) → is_own u (let q = c in q.tree) ≡ true → (tops.root (uid_number u) ≡ uid_number u)
        ⊎ (tops.is_top (uid_number u) ≡ true) → StaysOf tops (tops.root (uid_number u)) A B) (sym w.same) w.stays)
        (p.coords j w.node w.parts w.there w.live)))
        (λ it. it) (coords j n t there live);
    future = future;
    asked = asked;
    posts = claims;
  }

  -- what was asked for stays so
  pub asked_on : ((q : Post) → seen.In q M.sent → seen.In q N.sent) → (q : Post) (a : Asked) (r : Reply) → seen.In q M.sent →
      answers q.message ≡ Some (a, r) → IsAskedFor N.sent q a r
  asked_on within q a r i is = let z = p.asked q a r i is in record {
    post = z.post;
    head = z.head;
    request = z.request;
    posted = within z.post z.posted;
    from = z.from;
    to = z.to;
    asking = z.asking;
    asker = z.asker;
    kind = z.kind;
  }

  pub heard_to : SendsMore x B M.sent N.sent → ((q : Post) → seen.In q M.sent → ClaimsAsked x B (asks q.message)) →
      ((j : ℕ) (n : Node) (t : Parts) → N.nodes j ≡ Some n → n.live ≡ Some t → WasAt j t ⊎ SeesHeardAt x j tops N.sent t.coord B)
      → ((j : ℕ) (n : Node) (u : Uid) → N.nodes j ≡ Some n → u.node ≡ j → tops.root (uid_number u) ≡ uid_number u →
      (let d = n.disk in d.inc) < u.inc → HasNoneOf tops (uid_number u) B) → SeesHeard x tops B N
  heard_to more old coords future = heard_goes (λ j n t there live u q s does now of r to. inl (was_to x B j M.sent N.sent s more r to))
      (λ q i. ⊎_elim (λ o. old q o) (λ (new : IsNewTo x B q). new.claims) (more.new q i))
      (λ q a r i is. ⊎_elim (λ o. asked_on more.within q a r o is)
      (λ (new : IsNewTo x B q). absurd (let n : None ≡ Some (a, r) = sym new.none ∙ is in cc)) (more.new q i)) coords future

-- ---- a walk

-- Along a step something holds of the node's disk and of what was sent.
module _ (H : Seen → Type 0) (E : Disk → Seen → Type 0) (e k : ℕ) (nodes : ℕ → Option Node) (Fits : Disk → List Post → Type 0) (Q : Effect →
    Type 0)
    (works : (w : _) → Q (Do w) → (c : Disk) (s : List Post) → Fits c s →
    ((how : Stop) → Fits (stopped how w c) s) × Fits (worked w c) s) (sends : (to : ℕ) (m : _) → Q (Send to m) →
    (c : Disk) (s : List Post) → Fits c s → Fits c (record { from = k; to = to; message = m } ∷ s))
    (stop : (c : Disk) (N : Seen) → N.nodes ≡ nodes → Fits c N.sent → H (halted e k c N)) (end : (c : Disk) (N : Seen) → N.nodes ≡ nodes →
    Fits c N.sent → E c N) where
  pub walk_fits : (outs : List Effect) → AllByRecursion Q outs → (d : Disk) (L : Seen) → L.nodes ≡ nodes → Fits d L.sent →
      Walks H e k outs E d L
  walk_fits [] all d L same fits = end d L same fits
  walk_fits (Do w ∷ es) all d L same fits = let z = works w all.0 d L.sent fits in
      ((λ how. stop (stopped how w d) L same (z.0 how)), walk_fits es all.1 (worked w d) L same z.1)
  walk_fits (Say b ∷ es) all d L same fits = walk_fits es all.1 d (said e (b ∷ []) L) same fits
  walk_fits (Send to m ∷ es) all d L same fits = λ more quiet.
      walk_fits es all.1 d (said e more (posted (record { from = k; to = to; message = m }) L)) same (sends to m all.0 d L.sent fits)
