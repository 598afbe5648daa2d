-- Along a node's effects what is known of copies and votes of an object is so, in whatever states both its machines have come to.
use Rattle.arj_law_parts.proofs.Words
use Words.{◌≡◌, ◌==◌, ◌⊎◌, ℕ, List, [], ◌∷◌, false, Option, None, Some, sym, ◌∙◌, ap, subst, inr, ⊎_elim, Contains, ⊤, if◌then◌else◌}
use Words.{AllByRecursion, Asked, Binding, End, Head, Message, ObjectState, Uid, asks, object, Reply, answers, asked_by, Copy, Disk, Do}
use Words.{Effect, Say, Send, worked, Parts, at_number, Server, Node, Post, Seen}
use Words.ask
use Words.voted
use Words.effect
use Words.server
use Rattle.arj_law_serial.proofs.Terms
use Terms.{Action, World, IsLater, node_cases, node_here, CoordIsSo, MessageIsSo, Run, start, State, ShowsAsk, SeesCopy, SeesObject}
use Terms.{ListsEach, Fixed, view_of, IsAskedSeen, SeesLocks, SeesUp, In, Within, at, posted, said, up, Up, Walks, halted, AreBased}
use Terms.{CopiesAreBased, IsVotedOver, IsVotedState, IsYesBased, coord_fits, post_fits}
use Rattle.arj_law_serial.proofs.joint
use joint.{BasedYeses.votes_are_over}
use joint.BasedLater.{coord_on, copies_on, post_on, yes_on}

-- the parts of a node that is up
abbrev pub PartsAreBased : Fixed → ℕ → State → World → Parts → Type 0
PartsAreBased f x S W t = CopiesAreBased x S W t.server × CoordIsSo (coord_fits f x S W) t.coord

-- so they are still later
pub parts_on : (f : Fixed) (x : ℕ) (S T : State) (W V : World) → Run (start f.first) S → Run S T → IsLater W V → (t : Parts) →
    PartsAreBased f x S W t → PartsAreBased f x T V t
parts_on f x S T W V reached run later t its =
    (copies_on f x S T W V reached run later t.server its.0, coord_on f x S T W V reached run later t.coord its.1)

-- of each node but one
pub rest_of : (f : Fixed) (x : ℕ) (S : State) (W : World) (k : ℕ) (d : Disk) (live : Option Parts) (M : Seen) → AreBased f x S W
    (at k d live M) → (j : ℕ) (n : Node) (t : Parts) → (j == k) ≡ false → M.nodes j ≡ Some n → n.live ≡ Some t → PartsAreBased f x S W t
rest_of f x S W k d live M has j n t off there is = (has.copies j n t at_j is, has.coords j n t at_j is)
  where
    at_j : (let N = at k d live M in N.nodes j) ≡ Some n
    at_j = ap (λ b. if b then Some (record { number = k; disk = d; live = live }) else M.nodes j) off ∙ there

module _ (f : Fixed) (x k : ℕ) (begun : List Action) (S : State) (W : World) (M : Seen) (reached : Run (start f.first) S) (IsNew : Post →
    Asked → List ObjectState → Type 0)
    (rest : (j : ℕ) (n : Node) (t : Parts) → (j == k) ≡ false → M.nodes j ≡ Some n → n.live ≡ Some t → PartsAreBased f x S W t) where
  -- it holds, in whatever states the machines have come to
  abbrev pub Next : Seen → Type 0
  Next Z = (T : State) (V : World) → Run S T → IsLater W V → SeesLocks f x begun T Z → AreBased f x T V Z

  -- what was sent
  abbrev OldYes : Post → Asked → List ObjectState → Type 0
  OldYes p a states = IsYesBased x (IsVotedState f x S W) M.sent p a states

  abbrev pub Fits : List Post → Type 0
  Fits sent = Within M.sent sent × ((p : Post) → In p sent → MessageIsSo (post_fits x W) p.message) × ((p : Post) (a : Asked) (states : List
      ObjectState) → In p sent → answers p.message ≡ Some (a, Reply.Voted (voted.Yes states)) → OldYes p a states ⊎ IsNew p a states)

  -- where a node works it voted nothing; what it sends is so
  abbrev pub EffectIsSo : Effect → Type 0
  EffectIsSo (Send to m) = MessageIsSo (post_fits x W) m × ((a : Asked) (states : List ObjectState) →
      answers m ≡ Some (a, Reply.Voted (voted.Yes states)) → IsNew (record { from = k; to = to; message = m }) a states)
  EffectIsSo (Say b) = ⊤
  EffectIsSo (Do w) = (p : Post) (a : Asked) (states : List ObjectState) → IsNew p a states → ⊥

  pub stopped : (e : ℕ) (c : Disk) (N : Seen) → N.nodes ≡ M.nodes →
      ((p : Post) (a : Asked) (states : List ObjectState) → IsNew p a states → ⊥) → Fits N.sent → Next (halted e k c N)
  stopped e c N same none fits T V run later sees = record {
    copies = λ j n t there live. (parts j n t there live).0;
    coords = λ j n t there live. (parts j n t there live).1;
    posts = λ p i. post_on f x S T W V reached run later p.message (fits.1 p i);
    yeses = λ p a states i is. yes_on f x S T W V reached run later M.sent N.sent p a states fits.0
        (⊎_elim (λ (old : OldYes p a states). old) (λ (new : IsNew p a states). absurd (none p a states new)) (fits.2 p a states i is));
  }
    where
      parts : (j : ℕ) (n : Node) (t : Parts) → (let Z = halted e k c N in Z.nodes j) ≡ Some n → n.live ≡ Some t → PartsAreBased f x T V t
      parts j n t there live = parts_on f x S T W V reached run later t (⊎_elim
          (λ (z : (j ≡ k) × (record { number = k; disk = c; live = None } ≡ n)).
          absurd (let none : None ≡ Some t = ap (λ (y : Node). y.live) z.1 ∙ live in cc))
          (λ (z : ((j == k) ≡ false) × (N.nodes j ≡ Some n)). rest j n t z.0 (ap (λ g. g j) (sym same) ∙ z.1) live)
          (node_cases N k (record { number = k; disk = c; live = None }) j n there))

  module _ (v : Parts) (its : PartsAreBased f x S W v)
      (new_based : (c : Disk) (N : Seen) (T : State) (V : World) → Within M.sent N.sent → Run S T → IsLater W V →
      SeesLocks f x begun T (up k c v N) → PartsAreBased f x T V v → (p : Post) (a : Asked) (states : List ObjectState) →
      IsNew p a states → IsYesBased x (IsVotedState f x T V) N.sent p a states) where
    ended : (c : Disk) (N : Seen) → N.nodes ≡ M.nodes → Fits N.sent → Next (up k c v N)
    ended c N same fits T V run later sees = record {
      copies = λ j n t there live. (parts j n t there live).0;
      coords = λ j n t there live. (parts j n t there live).1;
      posts = λ p i. post_on f x S T W V reached run later p.message (fits.1 p i);
      yeses = λ p a states i is. ⊎_elim (λ (old : OldYes p a states).
          yes_on f x S T W V reached run later M.sent N.sent p a states fits.0 old) (λ (new : IsNew p a states).
          new_based c N T V fits.0 run later sees (parts_on f x S T W V reached run later v its) p a states new) (fits.2 p a states i is);
    }
      where
        parts : (j : ℕ) (n : Node) (t : Parts) → (let Z = up k c v N in Z.nodes j) ≡ Some n → n.live ≡ Some t → PartsAreBased f x T V t
        parts j n t there live = parts_on f x S T W V reached run later t (⊎_elim
            (λ (z : (j ≡ k) × (record { number = k; disk = c; live = Some v } ≡ n)). let e : ◌≡◌ {A = Option Parts} (Some v) (Some t) = ap
            (λ (y : Node). y.live) z.1 ∙ live in subst (PartsAreBased f x S W) (let same_one : v ≡ t = cc e in same_one) its)
            (λ (z : ((j == k) ≡ false) × (N.nodes j ≡ Some n)). rest j n t z.0 (ap (λ g. g j) (sym same) ∙ z.1) live)
            (node_cases N k (record { number = k; disk = c; live = Some v }) j n there))

    pub based_walk : (e : ℕ) (outs : List Effect) → AllByRecursion EffectIsSo outs → (d : Disk) (L : Seen) → L.nodes ≡ M.nodes →
        Fits L.sent → Walks Next e k outs (Up Next k v) d L
    based_walk e [] all d L same fits = ended d L same fits
    based_walk e (Do w ∷ es) all d L same fits =
        ((λ how. stopped e (effect.stopped how w d) L same all.0 fits), based_walk e es all.1 (worked w d) L same fits)
    based_walk e (Say b ∷ es) all d L same fits = based_walk e es all.1 d (said e (b ∷ []) L) same fits
    based_walk e (Send to m ∷ es) all d L same fits =
        λ more quiet. based_walk e es all.1 d (said e more (posted (record { from = k; to = to; message = m }) L)) same (
          (λ p i. inr (fits.0 p i)),
          (λ p i. ⊎_elim (λ (new : record { from = k; to = to; message = m } ≡ p).
              subst (λ (z : Post). MessageIsSo (post_fits x W) z.message) new all.0.0) (λ (old : In p L.sent). fits.1 p old) i),
          (λ p a states i is. ⊎_elim
              (λ (new : record { from = k; to = to; message = m } ≡ p).
              inr (subst (λ (z : Post). IsNew z a states) new (all.0.1 a states (ap (λ (z : Post). answers z.message) new ∙ is))))
              (λ (old : In p L.sent). fits.2 p a states old is) i),
        )

-- ---- a server votes

module _ (f : Fixed) (x k : ℕ) (begun : List Action) (from : ℕ) (m : Message) (h : Head) (i : ℕ) (ties : List (ℕ × Binding))
    (ends : List (Uid × End)) (s : Server) (asking : asks m ≡ Some (h, ask.Vote i ties ends)) where
  -- the Yes that it sends
  abbrev pub IsNewYes : Post → Asked → List ObjectState → Type 0
  IsNewYes p a states =
      (p.from ≡ k) × (p.to ≡ from) × (a ≡ asked_by h) × ((let r = server.vote k h.path i ties ends s in r.reply) ≡ Some (voted.Yes states))

  module _ (v : Parts) (lists : ListsEach v.server) (are : v.server ≡ (let r = server.vote k h.path i ties ends s in r.part)) where
    pub new_yes : (c : Disk) (N : Seen) (T : State) (V : World) → In (record { from = from; to = k; message = m }) N.sent →
        SeesLocks f x begun T (up k c v N) → PartsAreBased f x T V v → (p : Post) (a : Asked) (states : List ObjectState) →
        IsNewYes p a states → IsYesBased x (IsVotedState f x T V) N.sent p a states
    new_yes c N T V there sees its p a states new = record {
      request = record { from = from; to = k; message = m };
      asked = there;
      from = sym new.1;
      to = sym new.0;
      head = h;
      ask = ask.Vote i ties ends;
      is = asking;
      of = sym new.2;
      over = over;
    }
      where
        here : (let Z = up k c v N in Z.nodes k) ≡ Some (record { number = k; disk = c; live = Some v })
        here = node_here N k (record { number = k; disk = c; live = Some v })

        memory : SeesUp (view_of f x begun k) T c v
        memory = sees.nodes k (record { number = k; disk = c; live = Some v }) here

        seen : (o : Copy) → at_number x (let w = v.server in w.objects) ≡ Some o → SeesCopy f.act f.code x o (T.server k)
        seen o at_x =
            (subst (λ q. SeesObject f.act f.code x (let w = v.server in w.inc) q (T.server k) T) at_x (let z = memory.server in z.object)).0

        asked : ShowsAsk f.act f.code (record { x = x; path = h.path; number = h.req; node = k }) T (ask.Vote i ties ends)
        asked = let r = subst (IsAskedSeen (view_of f x begun k) N.sent (record { from = from; to = k; message = m }) T) asking
            (sees.posts (record { from = from; to = k; message = m }) there) in r.says tt

        over : (i2 : ℕ) (ties2 : List (ℕ × Binding)) (ends2 : List (Uid × End)) (b : Binding) (st : ObjectState) →
            ask.Vote i ties ends ≡ ask.Vote i2 ties2 ends2 → Contains {X = ℕ × Binding} ties2 (x, b) → Contains states st →
            st.uid ≡ object x → IsVotedOver f x st.writer T V st
        over i2 ties2 ends2 b st same tie st_there of =
            votes_are_over f x T V k h i ties ends s sees.run (subst ListsEach are lists) (subst (λ (w : Server). (o : Copy) → at_number x
            w.objects ≡ Some o → SeesCopy f.act f.code x o (T.server k)) are seen) (subst (CopiesAreBased x T V) are its.0) asked
            states new.3 b st (subst (λ (ts : List (ℕ × Binding)). Contains {X = ℕ × Binding} ts (x, b))
            (let its_ties : ties2 ≡ ties = sym (cc same) in its_ties) tie) st_there of
