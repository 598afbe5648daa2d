-- What is seen at a moment of a run has come about by what nodes do, one step after another; so whatever each handler keeps holds of it,
-- and it is what is seen of a world.
use Rattle.arj_law_parts.proofs.Words
use Words.{◌≡◌, ◌≢◌, ◌⊎◌, ◌==◌, ◌+◌, ◌++◌, ℕ, Bool, true, false, if◌then◌else◌, List, [], ◌∷◌, Option, Some, None, refl, sym, ap, subst}
use Words.{◌∙◌}
use Words.{eqb-true, arith, nat_tests, is_some, AllByRecursion, inl, inr, Body, Header, Kind, Label, Message, Start, IsFormed}
use Words.{insert_entry}
use Words.{label_cmp, Disk, Do, Effect, Say, Send, Stop, stopped, worked, Parts, Took, handle, is_meant, with_coord, Input, Node, acts}
use Words.{again_all, begin_action, begin_refusal, parent_of, parts_in, refusal_up, restart_outs, tick_outs, at_place, set_place}
use Words.{place_other}
use Words.{numbered, Post, Seen, see, World, world_from, is_serial, Line, Frame, new_frame, map}
use Words.body
use Rattle.arj_law_parts.proofs.Terms.{IsSent, KeepsAsked, Up, Walks, halted}
use Rattle.arj_law_parts.proofs.moves.{Firsts.first_stands, Places.all_inserted, Places.all_to, Places.place_same, Places.set_there}
use Rattle.arj_law_parts.specs.moves.Keeps.{AsksNode, HasPlace, MayGive, Stands, is_act, label_at}
use Rattle.arj_law_parts.specs.moves.Seen.{AreQuiet, In, Within, at, down, given, posted, said, up, with_sent}
use Rattle.arj_law_runs.specs.calls.Reached.{Keeping}
use Rattle.arj_protocol.specs.World.{Labelled}

-- ---- on the way

-- what may be seen while node k does these effects one after another: where a stop falls on a work, and at the end
abbrev pub OnWay : ℕ → ℕ → List Effect → Parts → Disk → Seen → Seen → Type 0
OnWay e k [] v d M N = up k d v M ≡ N
OnWay e k (Do w ∷ es) v d M N = ((how : Stop) × (halted e k (stopped how w d) M ≡ N)) ⊎ OnWay e k es v (worked w d) M N
OnWay e k (Say b ∷ es) v d M N = OnWay e k es v d (said e (b ∷ []) M) N
OnWay e k (Send to m ∷ es) v d M N =
    (more : List Body) × AreQuiet more × OnWay e k es v d (said e more (posted (record { from = k; to = to; message = m }) M)) N

module _ (P : Seen → Type 0) (e k : ℕ) (v : Parts) where
  -- what holds of all that may be seen holds along the way
  walk_of : (es : List Effect) (d : Disk) (M : Seen) → ((N : Seen) → OnWay e k es v d M N → P N) → Walks P e k es (Up P k v) d M
  walk_of [] d M each = each (up k d v M) refl
  walk_of (Do w ∷ es) d M each =
      ((λ how. each (halted e k (stopped how w d) M) (inl (how, refl))), walk_of es (worked w d) M (λ N way. each N (inr way)))
  walk_of (Say b ∷ es) d M each = walk_of es d (said e (b ∷ []) M) each
  walk_of (Send to m ∷ es) d M each = λ more quiet. walk_of es d (said e more (posted (record { from = k; to = to; message = m }) M))
      (λ N way. each N (more, quiet, way))

  -- and the other way round
  along : (es : List Effect) (d : Disk) (M : Seen) → Walks P e k es (Up P k v) d M → (N : Seen) → OnWay e k es v d M N → P N
  along [] d M walk N way = subst P way walk
  along (Do w ∷ es) d M walk N (inl stop) = subst P stop.1 (walk.0 stop.0)
  along (Do w ∷ es) d M walk N (inr way) = along es (worked w d) M walk.1 N way
  along (Say b ∷ es) d M walk N way = along es d (said e (b ∷ []) M) walk N way
  along (Send to m ∷ es) d M walk N way =
      along es d (said e way.0 (posted (record { from = k; to = to; message = m }) M)) (walk way.0 way.1) N way.2

-- ---- what is reached

-- what is seen as a run begins, and whatever comes of it by lines at which nobody looks, by a node that stops, and by what each handler
-- does
pub data Reached (hd : Header) : Seen → Type 0 where
  AtFirst : (st : Start) → IsFormed hd st → Reached hd (see [] (world_from hd st))
  ByLines : (e : ℕ) (bs : List Body) (M : Seen) → AreQuiet bs → Reached hd M → Reached hd (said e bs M)
  ByStop : (e k : ℕ) (d : Disk) (live : Option Parts) (M : Seen) → Reached hd (at k d live M) → Reached hd (halted e k d M)
  ByMessage : (e k : ℕ) (d : Disk) (t v : Parts) (from : ℕ) (m : Message) (outs : List Effect) (M N : Seen) → Reached hd (up k d t M) →
      In (record { from = from; to = k; message = m }) M.sent → is_meant t m ≡ true → handle k d t from m ≡ Took v outs →
      OnWay e k outs v d M N → Reached hd N
  ByAct : (e k : ℕ) (d : Disk) (t : Parts) (i : Input) (M N : Seen) → Reached hd (up k d t M) → is_act i ≡ true → AsksNode hd i →
      refusal_up hd i t.coord ≡ None →
      OnWay e k (let did = acts i d.intents t.coord in did.outs) (with_coord t (let did = acts i d.intents t.coord in did.part)) d M N →
      Reached hd N
  ByBegin : (e k : ℕ) (d : Disk) (t : Parts) (l : Label) (how : Kind) (parent : Option Label) (M N : Seen) → Reached hd (up k d t M) →
      label_at l M.labels ≡ None → MayGive M.labels k how parent → begin_refusal how t.coord parent ≡ None →
      OnWay e k (let did = begin_action l how parent (parent_of parent t.coord) t.coord in did.outs)
      (with_coord t (let did = begin_action l how parent (parent_of parent t.coord) t.coord in did.part)) d
      (given l (record { node = k; serial = is_serial how }) M) N → Reached hd N
  ByTick : (e k : ℕ) (d : Disk) (t : Parts) (M N : Seen) → Reached hd (up k d t M) →
      OnWay e k (tick_outs (record { number = k; disk = d; live = Some t }) t)
      (with_coord t (let r = again_all t.coord.doings t.coord in r.part)) d M N → Reached hd N
  ByRestart : (e k : ℕ) (d : Disk) (M N : Seen) → Reached hd (down k d M) →
      OnWay e k (restart_outs hd k (d.inc + 1) d) (parts_in k (d.inc + 1) d) d M N → Reached hd N

-- each handler keeps that
pub reached_kept : (hd : Header) → KeepsAsked hd (Reached hd)
reached_kept hd = record {
  quiet = λ e bs M quiet r. ByLines e bs M quiet r;
  stop = λ e k d live M r. ByStop e k d live M r;
  message = λ e k d t v from m outs M r there meant is.
      walk_of (Reached hd) e k v outs d M (λ N way. ByMessage e k d t v from m outs M N r there meant is way);
  act = λ e k d t i M is asks free r. let did = acts i d.intents t.coord in
      walk_of (Reached hd) e k (with_coord t did.part) did.outs d M (λ N way. ByAct e k d t i M N r is asks free way);
  begin = λ e k d t l how parent M new may none r. let did = begin_action l how parent (parent_of parent t.coord) t.coord in
      walk_of (Reached hd) e k (with_coord t did.part) did.outs d (given l (record { node = k; serial = is_serial how }) M)
      (λ N way. ByBegin e k d t l how parent M N r new may none way);
  tick = λ e k d t M r. walk_of (Reached hd) e k (with_coord t (let r = again_all t.coord.doings t.coord in r.part))
      (tick_outs (record { number = k; disk = d; live = Some t }) t) d M (λ N way. ByTick e k d t M N r way);
  restart = λ e k d M r. walk_of (Reached hd) e k (parts_in k (d.inc + 1) d) (restart_outs hd k (d.inc + 1) d) d M
      (λ N way. ByRestart e k d M N r way);
  first = λ st formed. AtFirst st formed;
}

-- and whatever each handler keeps holds there
module _ (hd : Header) (P : Seen → Type 0) (keeps : KeepsAsked hd P) where
  pub reached_has : (M : Seen) → Reached hd M → P M
  reached_has M (AtFirst st formed) = keeps.first st formed
  reached_has M (ByLines e bs L quiet r) = keeps.quiet e bs L quiet (reached_has L r)
  reached_has M (ByStop e k d live L r) = keeps.stop e k d live L (reached_has (at k d live L) r)
  reached_has M (ByMessage e k d t v from m outs L N r there meant is way) =
      along P e k v outs d L (keeps.message e k d t v from m outs L (reached_has (up k d t L) r) there meant is) M way
  reached_has M (ByAct e k d t i L N r is asks free way) =
      along P e k (with_coord t (let did = acts i d.intents t.coord in did.part)) (let did = acts i d.intents t.coord in did.outs) d L
      (keeps.act e k d t i L is asks free (reached_has (up k d t L) r)) M way
  reached_has M (ByBegin e k d t l how parent L N r new may none way) =
      along P e k (with_coord t (let did = begin_action l how parent (parent_of parent t.coord) t.coord in did.part))
      (let did = begin_action l how parent (parent_of parent t.coord) t.coord in did.outs) d
      (given l (record { node = k; serial = is_serial how }) L)
      (keeps.begin e k d t l how parent L new may none (reached_has (up k d t L) r)) M way
  reached_has M (ByTick e k d t L N r way) =
      along P e k (with_coord t (let z = again_all t.coord.doings t.coord in z.part))
      (tick_outs (record { number = k; disk = d; live = Some t }) t) d L (keeps.tick e k d t L (reached_has (up k d t L) r)) M way
  reached_has M (ByRestart e k d L N r way) =
      along P e k (parts_in k (d.inc + 1) d) (restart_outs hd k (d.inc + 1) d) d L
      (keeps.restart e k d L (reached_has (down k d L) r)) M way

-- ---- worlds

-- it is what is seen of a world of the header, in which no frame is under way
pub record IsOfWorld (hd : Header) (S : Seen) : Type 0 where
  pub world : World
  pub same : see S.sent world ≡ S
  pub stands : Stands hd S.sent world

module _ (hd : Header) (k : ℕ) (d : Disk) (live : Option Parts) (M : Seen) (h : IsOfWorld hd (at k d live M)) where
  -- the node in another state, with lines and messages more
  put_world : (c : Disk) (after : Option Parts) (lines : List Line) (sent : List Post) →
      IsOfWorld hd (record (at k c after M) { lines = lines; sent = sent })
  put_world c after lines sent = record {
    world = record h.world { nodes = set_place k new h.world.nodes; lines = lines; frames = [] };
    same = λ i. record {
      start = (let S = h.same i in S.start);
      sent = sent;
      lines = lines;
      labels = (let S = h.same i in S.labels);
      nodes = λ m. now m i;
    };
    stands = record {
      frames = tt;
      junk = tt;
      header = h.stands.header;
      numbers = λ m n is. numbers m (m == k) refl n is;
      places = λ m in_range. set_there m k new h.world.nodes (h.stands.places m in_range);
      labels = all_to (λ (g : Label × Labelled). is_some (at_place g.1.node h.world.nodes) ≡ true)
          (λ (g : Label × Labelled). is_some (at_place g.1.node (set_place k new h.world.nodes)) ≡ true) h.world.labels
          (λ g there. set_there g.1.node k new h.world.nodes there) h.stands.labels;
    };
  }
    where
      old : Node
      old = record { number = k; disk = d; live = live }

      new : Node
      new = record { number = k; disk = c; live = after }

      same_self : (m : ℕ) → (m == m) ≡ true
      same_self m = grind arith

      before : (m : ℕ) → at_place m h.world.nodes ≡ (if m == k then Some (record { number = k; disk = d; live = live }) else M.nodes m)
      before m = ap (λ (S : Seen). S.nodes m) h.same

      mine : at_place k h.world.nodes ≡ Some (record { number = k; disk = d; live = live })
      mine = before k ∙ (λ i. if same_self k i then Some (record { number = k; disk = d; live = live }) else M.nodes k)

      apart : (m : ℕ) → (m == k) ≡ false → m ≢ k
      apart m e = grind (arith, nat_tests)

      at_m : (m : ℕ) (b : Bool) → (m == k) ≡ b →
          at_place m (set_place k (record { number = k; disk = c; live = after }) h.world.nodes)
          ≡ (if b then Some (record { number = k; disk = c; live = after }) else M.nodes m)
      at_m m true e = ap (λ j. at_place j (set_place k new h.world.nodes)) (eqb-true m k e)
          ∙ place_same k new old h.world.nodes mine
      at_m m false e = place_other k m new h.world.nodes (apart m e) ∙ before m
          ∙ (λ i. if e i then Some (record { number = k; disk = d; live = live }) else M.nodes m)

      now : (m : ℕ) → at_place m (set_place k (record { number = k; disk = c; live = after }) h.world.nodes)
          ≡ (if m == k then Some (record { number = k; disk = c; live = after }) else M.nodes m)
      now m = at_m m (m == k) refl

      numbers : (m : ℕ) (b : Bool) → (m == k) ≡ b → (n : Node) →
          at_place m (set_place k (record { number = k; disk = c; live = after }) h.world.nodes) ≡ Some n → n.number ≡ m
      numbers m true e n is =
          let found : Some (record { number = k; disk = c; live = after }) ≡ Some n = sym (at_m m true e) ∙ is in
          let it : record { number = k; disk = c; live = after } ≡ n = cc found in
          ap (λ (x : Node). x.number) (sym it) ∙ sym (eqb-true m k e)
      numbers m false e n is = h.stands.numbers m n (sym (place_other k m new h.world.nodes (apart m e)) ∙ is)

-- along a way the node is put in other states, with lines and messages more
module _ (hd : Header) (e k : ℕ) (v : Parts) where
  abbrev Puts : Seen → Type 0
  Puts M = (c : Disk) (after : Option Parts) (lines : List Line) (sent : List Post) →
      IsOfWorld hd (record (at k c after M) { lines = lines; sent = sent })

  world_walk : (es : List Effect) (d : Disk) (M : Seen) → Puts M → Walks (IsOfWorld hd) e k es (Up (IsOfWorld hd) k v) d M
  world_walk [] d M puts = puts d (Some v) M.lines M.sent
  world_walk (Do w ∷ es) d M puts = (
    (λ how. puts (stopped how w d) None (M.lines ++ numbered e (body.Halted k ∷ [])) M.sent),
    world_walk es (worked w d) M puts,
  )
  world_walk (Say b ∷ es) d M puts = world_walk es d (said e (b ∷ []) M) puts
  world_walk (Send to m ∷ es) d M puts =
      λ more quiet. world_walk es d (said e more (posted (record { from = k; to = to; message = m }) M)) puts

-- a label is given to an action of a node that is there
given_puts : (hd : Header) (k : ℕ) (d : Disk) (t : Parts) (l : Label) (serial : Bool) (M : Seen) → IsOfWorld hd (up k d t M) →
    (c : Disk) (after : Option Parts) (lines : List Line) (sent : List Post) →
    IsOfWorld hd (record (at k c after (given l (record { node = k; serial = serial }) M)) { lines = lines; sent = sent })
unfolding put_world
given_puts hd k d t l serial M h c after lines sent =
    let g : Labelled = record { node = k; serial = serial } in
    let p = put_world hd k d (Some t) M h c after lines sent in record {
      world = record p.world { labels = insert_entry label_cmp p.world.labels l (record { node = k; serial = serial }) };
      same = λ i. record {
        start = (let S = p.same i in S.start);
        sent = sent;
        lines = lines;
        labels = insert_entry label_cmp (let S = p.same i in S.labels) l (record { node = k; serial = serial });
        nodes = (let S = p.same i in S.nodes);
      };
      stands = record {
        frames = tt;
        junk = tt;
        header = p.stands.header;
        numbers = p.stands.numbers;
        places = p.stands.places;
        labels = labels p;
      };
    }
  where
    same_self : (m : ℕ) → (m == m) ≡ true
    same_self m = grind arith

    labels : (p : IsOfWorld hd (record (at k c after M) { lines = lines; sent = sent })) →
        AllByRecursion (λ (z : Label × Labelled). is_some (at_place z.1.node p.world.nodes) ≡ true)
        (insert_entry label_cmp p.world.labels l (record { node = k; serial = serial }))
    labels p =
        let here : at_place k p.world.nodes ≡ Some (record { number = k; disk = c; live = after }) = ap (λ (S : Seen). S.nodes k) p.same
        ∙ (λ i. if same_self k i then Some (record { number = k; disk = c; live = after }) else M.nodes k) in
        all_inserted (λ (z : Label × Labelled). is_some (at_place z.1.node p.world.nodes) ≡ true) l (record { node = k; serial = serial })
        p.world.labels (λ j. ap is_some here) p.stands.labels

pub worlds_kept : (hd : Header) → KeepsAsked hd (IsOfWorld hd)
worlds_kept hd = record {
  quiet = λ e bs M quiet h. record {
    world = record h.world { lines = M.lines ++ numbered e bs; frames = [] };
    same = λ i. record {
      start = (let S = h.same i in S.start);
      sent = M.sent;
      lines = M.lines ++ numbered e bs;
      labels = (let S = h.same i in S.labels);
      nodes = (let S = h.same i in S.nodes);
    };
    stands = record {
      frames = tt;
      junk = tt;
      header = h.stands.header;
      numbers = h.stands.numbers;
      places = h.stands.places;
      labels = h.stands.labels;
    };
  };
  stop = λ e k d live M h. put_world hd k d live M h d None (M.lines ++ numbered e (body.Halted k ∷ [])) M.sent;
  message = λ e k d t v from m outs M h there meant is. world_walk hd e k v outs d M (put_world hd k d (Some t) M h);
  act = λ e k d t i M is asks free h. let did = acts i d.intents t.coord in
      world_walk hd e k (with_coord t did.part) did.outs d M (put_world hd k d (Some t) M h);
  begin = λ e k d t l how parent M new may none h. let did = begin_action l how parent (parent_of parent t.coord) t.coord in
      world_walk hd e k (with_coord t did.part) did.outs d (given l (record { node = k; serial = is_serial how }) M)
      (given_puts hd k d t l (is_serial how) M h);
  tick = λ e k d t M h. world_walk hd e k (with_coord t (let r = again_all t.coord.doings t.coord in r.part))
      (tick_outs (record { number = k; disk = d; live = Some t }) t) d M (put_world hd k d (Some t) M h);
  restart = λ e k d M h. world_walk hd e k (parts_in k (d.inc + 1) d) (restart_outs hd k (d.inc + 1) d) d M (put_world hd k d None M h);
  first = λ st formed. record { world = world_from hd st; same = refl; stands = first_stands hd st };
}

-- each message that was sent as a frame
abbrev frame_of : Post → Frame
frame_of p = new_frame p.from p.to (Some p.message)

-- the world, with all that was sent as its frames
abbrev pub world_at : (hd : Header) (S : Seen) → IsOfWorld hd S → World
world_at hd S h = record h.world { frames = map frame_of S.sent }

all_sent : (many few : List Post) → ((p : Post) → In p few → In p many) → AllByRecursion (IsSent many) (map frame_of few)
all_sent many [] within = tt
all_sent many (p ∷ ps) within = (within p (inl refl), all_sent many ps (λ q i. within q (inr i)))

all_placed : (hd : Header) (ps : List Post) → AllByRecursion (λ (f : Frame). HasPlace hd f.to f.message) (map frame_of ps)
all_placed hd [] = tt
all_placed hd (p ∷ ps) = (tt, all_placed hd ps)

sent_in : (many few : List Post) → AllByRecursion (IsSent many) (map frame_of few) → (p : Post) → In p few → In p many
sent_in many [] all p i = absurd i
sent_in many (q ∷ qs) all p (inl same) = subst (λ z. In z many) same all.0
sent_in many (q ∷ qs) all p (inr i) = sent_in many qs all.1 p i

-- so whatever holds of it holds of what is seen, where all that was sent is among what is seen to have been sent
pub within_of : (hd : Header) (S : Seen) (h : IsOfWorld hd S) (sent : List Post) → Stands hd sent (world_at hd S h) → Within S.sent sent
within_of hd S h sent stands = sent_in sent S.sent stands.frames

pub sees_at : (hd : Header) (S : Seen) (h : IsOfWorld hd S) (sent : List Post) → see sent (world_at hd S h) ≡ with_sent sent S
sees_at hd S h sent = λ i. record {
  start = (let Z = h.same i in Z.start);
  sent = sent;
  lines = (let Z = h.same i in Z.lines);
  labels = (let Z = h.same i in Z.labels);
  nodes = (let Z = h.same i in Z.nodes);
}

-- whatever each handler keeps holds of that world
pub keeping_of : (hd : Header) (S : Seen) (r : Reached hd S) (h : IsOfWorld hd S) → Keeping hd (world_at hd S h)
keeping_of hd S r h P keeps = record {
  sent = S.sent;
  stands = record {
    frames = all_sent S.sent S.sent (λ p i. i);
    junk = all_placed hd S.sent;
    header = h.stands.header;
    numbers = h.stands.numbers;
    places = h.stands.places;
    labels = h.stands.labels;
  };
  holds = subst P (sym (sees_at hd S h S.sent)) (reached_has hd P keeps S r);
}
