-- Of each store that a Confirm includes the coordinator had its Yes, and it was asked to prepare a state of the object: in every run.
use Rattle.arj_law_parts.proofs.Words
use Words.{◌≡◌, ◌⊎◌, ◌∙◌, ◌++◌, ◌||◌, ℕ, zero, suc, List, [], ◌∷◌, Bool, true, false, cond, filter, not, Some, None, refl, sym, ap, subst}
use Words.{inl, inr, ⊎_elim, ⊤, is_some, AllByRecursion, In as Among, in_filter, in_map, Ask, Head, Header, Label, Message, ObjectState}
use Words.{Uid, asks, Reply, actor, last_req, At, AtActivate, AtBind, AtInvoke, AtLoad, AtNote, Goal, ask_at, Confirming, Machine, Plan}
use Words.{Preparing, Used, Voting, ask_of, included_of, is_marked, joins_left, plan_of, states_for, Grants, Marks, Calling, Committing}
use Words.{Coord, Doing, Idle, Now, doing_of, new_coord, root_at, Intent, Send, has, Input, branch_named, commit_reasons, parent_of}
use Words.{refusal_up, refused_by, waits_above, waits_below, Branch, at_place, branch_of, is_own, root_of, Post, Seen}
use Words.ask
use Words.loaded
use Words.voted
use Words.input
use Rattle.arj_law_promise.proofs.Terms
use Terms.{flat_map, IsCommitting, IsGood, BindsAreKnown, paths_of, begun_tree, named_found, off, found_by, Keeps, In, IsSentBy, SendsSo}
use Terms.{Fits, NowIsSo, AreAt, at_again, at_begins, at_heard, has_in, IsKeptBy, PlaceAt, Sender, coords_keep, AskersAreSettled, preparer}
use Terms.{came_acts, waits_not, some_is}
use Rattle.arj_law_disk_view.proofs.running.StateEnds.{acks_so, new_so}
use Rattle.arj_law_disk_view.specs.running.States.{CoordIsSo, MayKeep, ReplyIsSo}
use Rattle.arj_law_lock_view.proofs.facts.{CommitCoords.at_acked, CoordRuns.AreSo}
use Rattle.arj_law_promise.proofs.settling
use settling.{Askers.askers_kept, Knowns.never, Yeses.SaidYes}
use settling.Joins.{AreOwn, IncludedFrom, Joins, PreparedFrom, WasJoined, answer_joins, giveup_joins, names_number, owns_of, plan_own}
use settling.Joins.{sent_names, start_joins}
use Rattle.arj_law_disk_view.proofs.running.StateInputs as states

-- ---- which requests are these

-- a step of a call asks for neither
step_prepares : (x : ℕ) (g : Goal) (at : At) {ss : List ObjectState} → ask.Prepare ss ≡ ask_at x g [] at → ⊥
step_prepares x g (AtBind avoid) is = cc is
step_prepares x g (AtLoad k s rest) is = cc is
step_prepares x g (AtActivate k st) is = cc is
step_prepares x g (AtNote k i) is = cc is
step_prepares x g (AtInvoke k i) is = cc is

step_confirms : (x : ℕ) (g : Goal) (at : At) {r : Grants} {e i : Marks} → ask.Confirm r e i ≡ ask_at x g [] at → ⊥
step_confirms x g (AtBind avoid) is = cc is
step_confirms x g (AtLoad k s rest) is = cc is
step_confirms x g (AtActivate k st) is = cc is
step_confirms x g (AtNote k i) is = cc is
step_confirms x g (AtInvoke k i) is = cc is

-- the commit that asks its stores
pub record PreparesBy (c : Coord) (u : Uid) (to : ℕ) (ss : List ObjectState) : Type 0 where
  pub doing : Doing
  pub plan : Plan
  pub left : List ℕ
  pub found : doing_of u c ≡ Some doing
  pub now : doing.now ≡ Committing (Preparing plan left)
  pub same : ss ≡ states_for to plan

-- and the one that asks naming
pub record ConfirmsBy (c : Coord) (u : Uid) (i : Marks) : Type 0 where
  pub doing : Doing
  pub plan : Plan
  pub found : doing_of u c ≡ Some doing
  pub now : doing.now ≡ Committing (Confirming plan)
  pub same : i ≡ included_of plan

pub prepares_by : (c : Coord) (to : ℕ) (h : Head) (ss : List ObjectState) → IsSentBy c to h (ask.Prepare ss) →
    PreparesBy c (actor h.path) to ss
prepares_by c to h ss s = by s.doing.now refl
  where
    machine : (m : Machine) → s.doing.now ≡ Committing m → ask.Prepare ss ≡ ask_of m to → PreparesBy c (actor h.path) to ss
    machine (Voting p left) now is = absurd (cc is)
    machine (Preparing p left) now is = record { doing = s.doing; plan = p; left = left; found = s.found; now = now; same = cc is }
    machine (Confirming p) now is = absurd (cc is)

    by : (n : Now) → s.doing.now ≡ n → PreparesBy c (actor h.path) to ss
    by Idle now = absurd (s.busy now)
    by (Calling z) now = absurd (step_prepares z.x z.goal z.at (let f = s.step z now in f.same))
    by (Committing m) now = machine m now (let f = s.commit m now in f.same)

pub confirms_by : (c : Coord) (to : ℕ) (h : Head) (g : Grants) (e i : Marks) → IsSentBy c to h (ask.Confirm g e i) →
    ConfirmsBy c (actor h.path) i
confirms_by c to h g e i s = by s.doing.now refl
  where
    machine : (m : Machine) → s.doing.now ≡ Committing m → ask.Confirm g e i ≡ ask_of m to → ConfirmsBy c (actor h.path) i
    machine (Voting p left) now is = absurd (cc is)
    machine (Preparing p left) now is = absurd (cc is)
    machine (Confirming p) now is = record { doing = s.doing; plan = p; found = s.found; now = now; same = cc is }

    by : (n : Now) → s.doing.now ≡ n → ConfirmsBy c (actor h.path) i
    by Idle now = absurd (s.busy now)
    by (Calling z) now = absurd (step_confirms z.x z.goal z.at (let f = s.step z now in f.same))
    by (Committing m) now = machine m now (let f = s.commit m now in f.same)

-- ---- what is included

in_flat_map : {A B : Type 0} (f : A → List B) (b : B) (xs : List A) → Among b (flat_map f xs) → (a : A) × Among a xs × Among b (f a)
in_flat_map f b [] i = absurd i
in_flat_map {A} {B} f b (x ∷ xs) i =
    ⊎_elim (λ here. (x, inl refl, here)) (λ rest. let r = in_flat_map f b xs rest in (r.0, inr r.1, r.2)) (split (f x) i)
  where
    split : (ys : List B) → Among b (ys ++ flat_map f xs) → Among b ys ⊎ Among b (flat_map f xs)
    split [] j = inr j
    split (y ∷ ys) (inl same) = inl (inl same)
    split (y ∷ ys) (inr j) = ⊎_elim (λ here. inl (inr here)) (λ there. inr there) (split ys j)

-- an included store is one of a used object, and isn't marked for it
included_in : (p : Plan) (x n : ℕ) → Among (x, n) (included_of p) →
    (v : Used) × Among v p.used × (v.x ≡ x) × (has v.joins n ≡ true) × (is_marked x n p ≡ false)
included_in p x n i =
    let f = in_flat_map (joins_left p) (x, n) p.used i in
    let v = f.0 in
    let m = in_map {X = ℕ} {Y = ℕ × ℕ} (λ s. (v.x, s)) (x, n) (filter (λ s. not (is_marked v.x s p)) v.joins) f.2 in
    let g = in_filter (λ s. not (is_marked v.x s p)) m.0 v.joins m.1 in
    let x_is : v.x ≡ x = ap (λ (z : ℕ × ℕ). z.0) m.2 in
    let n_is : m.0 ≡ n = ap (λ (z : ℕ × ℕ). z.1) m.2 in (
      v,
      f.1,
      x_is,
      subst (λ z. has v.joins z ≡ true) n_is (has_in v.joins m.0 g.0),
      off_not (is_marked x n p) (subst (λ z. not (is_marked z n p) ≡ true) x_is (subst (λ z. not (is_marked v.x z p) ≡ true) n_is g.1)),
    )
  where
    off_not : (b : Bool) → not b ≡ true → b ≡ false
    off_not true e = absurd (cc e)
    off_not false e = refl

-- ---- what is kept

-- whoever was included said Yes, and whatever it was asked to prepare names the object
pub record SaysJoins (sent : List Post) : Type 0 where
  pub said : (k : ℕ) (u : Uid) (x n : ℕ) → IncludedFrom k sent u x n → SaidYes sent n u
  pub named : (k : ℕ) (u : Uid) (x n : ℕ) (ss : List ObjectState) → IncludedFrom k sent u x n → PreparedFrom k sent u n ss →
      names_number x ss ≡ true

-- nothing is asked of states but of which object they are
abbrev T : Fits
T = record { loaded = λ u st. ⊤; voted = λ u st. ⊤; kept = λ u st. ⊤ }

keep : MayKeep T
keep = record { loaded = λ u st its. tt; voted = λ u st its. tt }

any_reply : (r : Reply) → ReplyIsSo T r
any_reply (Reply.Loaded (loaded.State st)) = tt
any_reply (Reply.Loaded (loaded.InDoubt h)) = tt
any_reply (Reply.Voted (voted.Yes ss)) = each ss
  where
    each : (zs : List ObjectState) → AllByRecursion (λ (z : ObjectState). ⊤) zs
    each [] = tt
    each (z ∷ zs) = (tt, each zs)
any_reply (Reply.Voted (voted.Changed w)) = tt
any_reply (Reply.Bound r) = tt
any_reply (Reply.Activated i) = tt
any_reply (Reply.Noted r) = tt
any_reply (Reply.Invoked r) = tt
any_reply (Reply.Prepared r) = tt
any_reply (Reply.Confirmed r) = tt

abbrev pub KeepsJoins : Sender → Coord → Type 0
KeepsJoins s c = AskersAreSettled s.sent s.node c × (CoordIsSo T c × AreAt (Joins s.node s.sent) c)

-- ---- one message more

said_more : (p : Post) (sent : List Post) (n : ℕ) (u : Uid) → SaidYes sent n u → SaidYes (p ∷ sent) n u
said_more p sent n u (q, i, from, a, is, act) = (q, inr i, from, a, is, act)

joined_more : (p : Post) (sent : List Post) (u : Uid) (q : Plan) (x n : ℕ) → WasJoined sent u q x n → WasJoined (p ∷ sent) u q x n
joined_more p sent u q x n (inl both) = inl (both.0, said_more p sent n u both.1)
joined_more p sent u q x n (inr marked) = inr marked

-- of a commit for which the message is none of these
module _ (k : ℕ) (p : Post) (sent : List Post) (u : Uid) where
  -- the message is a Prepare of it, to this node; it is a Confirm of it
  abbrev NewPrepare : ℕ → List ObjectState → Type 0
  NewPrepare n ss = (p.from ≡ k) × (p.to ≡ n) × ((h : Head) × (asks p.message ≡ Some (h, ask.Prepare ss)) × (actor h.path ≡ u))

  abbrev NewConfirm : Type 0
  NewConfirm = (p.from ≡ k)
      × ((h : Head) × (g : Grants) × (e : Marks) × (i : Marks) × (asks p.message ≡ Some (h, ask.Confirm g e i)) × (actor h.path ≡ u))

  prepare_cases : (n : ℕ) (ss : List ObjectState) → PreparedFrom k (p ∷ sent) u n ss → PreparedFrom k sent u n ss ⊎ NewPrepare n ss
  prepare_cases n ss (q, inr i, from, to, h, is, act) = inl (q, i, from, to, h, is, act)
  prepare_cases n ss (q, inl same, from, to, h, is, act) =
      inr (ap (λ (z : Post). z.from) same ∙ from, ap (λ (z : Post). z.to) same ∙ to, (h, ap (λ (z : Post). asks z.message) same ∙ is, act))

  confirm_cases : (x n : ℕ) → IncludedFrom k (p ∷ sent) u x n → IncludedFrom k sent u x n ⊎ NewConfirm
  confirm_cases x n (q, inr i, from, h, g, e, z, is, act, there) = inl (q, i, from, h, g, e, z, is, act, there)
  confirm_cases x n (q, inl same, from, h, g, e, z, is, act, there) =
      inr (ap (λ (y : Post). y.from) same ∙ from, (h, g, e, z, ap (λ (y : Post). asks y.message) same ∙ is, act))

  joins_more : (m : Machine) → AreOwn (plan_of m) → ((q : Plan) → m ≡ Confirming q → (x n : ℕ) → IncludedFrom k (p ∷ sent) u x n →
      IncludedFrom k sent u x n ⊎ (has q.prepared n ≡ true)) →
      ((n : ℕ) (ss : List ObjectState) → NewPrepare n ss → (q : Plan) × (left : List ℕ) × (m ≡ Preparing q left) × (ss ≡ states_for n q)) →
      (NewConfirm → (q : Plan) × (m ≡ Confirming q)) → Joins k sent u m → Joins k (p ∷ sent) u m
  joins_more (Voting q left) own has_it prepares confirms j = (
    j.0,
    (λ n ss asked. ⊎_elim (λ old. j.1 n ss old) (λ new. let z = prepares n ss new in cc z.2) (prepare_cases n ss asked)),
    (λ x n asked. ⊎_elim (λ old. j.2 x n old) (λ new. cc (confirms new).1) (confirm_cases x n asked)),
  )
  joins_more (Preparing q left) own has_it prepares confirms j = (
    j.0,
    (λ v i n on. ⊎_elim (λ there. inl there) (λ heard. inr (joined_more p sent u q v.x n heard)) (j.1 v i n on)),
    (λ v i n on ss asked. ⊎_elim (λ old. j.2 v i n on ss old) (λ new. let z = prepares n ss new in let same : z.0 ≡ q = cc z.2 in
        subst (λ y. names_number v.x y ≡ true) (sym z.3) (subst (λ y. names_number v.x (states_for n y) ≡ true) (sym same)
        (sent_names n q (owns_of q j.0 own) v i n on refl))) (prepare_cases n ss asked)),
    (λ x n asked. ⊎_elim (λ old. j.3 x n old) (λ new. cc (confirms new).1) (confirm_cases x n asked)),
  )
  joins_more (Confirming q) own has_it prepares confirms j = (
    (λ v i n on. joined_more p sent u q v.x n (j.0 v i n on)),
    (λ v i n on ss asked. ⊎_elim (λ old. j.1 v i n on ss old) (λ new. let z = prepares n ss new in
        absurd (cc z.2)) (prepare_cases n ss asked)),
    (λ x n i. ⊎_elim (λ old. j.2 x n old) (λ new. new) (has_it q refl x n i)),
  )

now_is : {m n : Machine} → Committing m ≡ Committing n → m ≡ n
now_is is = cc is

module _ (s : Sender) (c : Coord) (to : ℕ) (m : Message) (sends : SendsSo c (Send to m)) (all : SaysJoins s.sent) (so : CoordIsSo T c)
    (at : AreAt (Joins s.node s.sent) c) where
  abbrev p : Post
  p = record { from = s.node; to = to; message = m }

  abbrev more : List Post
  more = record { from = s.node; to = to; message = m } ∷ s.sent

  -- the commit's own entry
  its_machine : (u : Uid) (d e : Doing) (x y : Machine) → doing_of u c ≡ Some d → doing_of u c ≡ Some e → d.now ≡ Committing x →
      e.now ≡ Committing y → x ≡ y
  its_machine u d e x y one two is at_it = now_is (sym is ∙ ap (λ (z : Doing). z.now) (some_is (sym one ∙ two)) ∙ at_it)

  -- whoever naming is asked to include said Yes
  includes : (w : Uid) (d : Doing) (q : Plan) → doing_of w c ≡ Some d → d.now ≡ Committing (Confirming q) → (x n : ℕ) → IncludedFrom s.node
      (record { from = s.node; to = to; message = m } ∷ s.sent) w x n → IncludedFrom s.node s.sent w x n ⊎ (has q.prepared n ≡ true)
  includes w d q found now x n (z, inr i, from, h, g, e, l, is, act, there) = inl (z, i, from, h, g, e, l, is, act, there)
  includes w d q found now x n (z, inl same, from, h, g, e, l, is, act, there) =
      let b = confirms_by c to h g e l (sends h (ask.Confirm g e l) (ap (λ (y : Post). asks y.message) same ∙ is)) in
      let one : q ≡ b.plan = plan_is
      (its_machine w d b.doing (Confirming q) (Confirming b.plan) found (ap (λ v. doing_of v c) (sym act) ∙ b.found) now b.now) in
      let v = included_in q x n (subst (Among (x, n)) (b.same ∙ ap included_of (sym one)) there) in
      let j = at w d (Confirming q) found now in
      inr (⊎_elim (λ yes. yes.0) (λ marked. absurd (never marked (ap (λ y. is_marked y n q) v.2 ∙ v.4))) (j.0 v.0 v.1 n v.3))
    where
      plan_is : {a b : Plan} → Confirming a ≡ Confirming b → a ≡ b
      plan_is is = cc is

  at_more : AreAt (Joins s.node (record { from = s.node; to = to; message = m } ∷ s.sent)) c
  at_more w d x found now = joins_more s.node p s.sent w x (plan_own T (plan_of x) (subst (NowIsSo T) now (so.works w d found)))
      (λ q is y n i. includes w d q found (now ∙ ap Committing is) y n i)
      (λ n ss new. let z = new.2 in let b = prepares_by c to z.0 ss (sends z.0 (ask.Prepare ss) z.1) in (
        b.plan,
        b.left,
        its_machine w d b.doing x (Preparing b.plan b.left) found (ap (λ v. doing_of v c) (sym z.2) ∙ b.found) now b.now,
        b.same ∙ ap (λ j. states_for j b.plan) new.1,
      ))
      (λ new. let z = new.1 in let b = confirms_by c to z.0 z.1 z.2 z.3 (sends z.0 (ask.Confirm z.1 z.2 z.3) z.4) in
      (b.plan, its_machine w d b.doing x (Confirming b.plan) found (ap (λ v. doing_of v c) (sym z.5) ∙ b.found) now b.now))
      (at w d x found now)

  -- what is known of the one that asks naming
  abbrev HasJoins : Uid → Marks → Type 0
  HasJoins u i = (q : Plan) × (i ≡ included_of q) × Joins s.node s.sent u (Confirming q)

  has_joins : (h : Head) (g : Grants) (e i : Marks) → asks m ≡ Some (h, ask.Confirm g e i) → HasJoins (actor h.path) i
  has_joins h g e i is = let b = confirms_by c to h g e i (sends h (ask.Confirm g e i) is) in
      (b.plan, b.same, at (actor h.path) b.doing (Confirming b.plan) b.found b.now)

  says_more : SaysJoins (record { from = s.node; to = to; message = m } ∷ s.sent)
  says_more = record { said = said; named = named }
    where
      said : (k : ℕ) (u : Uid) (x n : ℕ) → IncludedFrom k more u x n → SaidYes more n u
      said k u x n (q, inr i, from, h, g, e, z, is, act, there) =
          said_more p s.sent n u (all.said k u x n (q, i, from, h, g, e, z, is, act, there))
      said k u x n (q, inl same, from, h, g, e, z, is, act, there) =
          let j = has_joins h g e z (ap (λ (y : Post). asks y.message) same ∙ is) in
          let v = included_in j.0 x n (subst (Among (x, n)) j.1 there) in
          said_more p s.sent n u (subst (SaidYes s.sent n) act
          (⊎_elim (λ yes. yes.1) (λ marked. absurd (never marked (ap (λ y. is_marked y n j.0) v.2 ∙ v.4))) (j.2.0 v.0 v.1 n v.3)))

      named : (k : ℕ) (u : Uid) (x n : ℕ) (ss : List ObjectState) → IncludedFrom k more u x n → PreparedFrom k more u n ss →
          names_number x ss ≡ true
      named k u x n ss (q, inr i, from, h, g, e, z, is, act, there) (r, inr o, of, at_n, l, asked, who) =
          all.named k u x n ss (q, i, from, h, g, e, z, is, act, there) (r, o, of, at_n, l, asked, who)
      named k u x n ss (q, inl same, from, h, g, e, z, is, act, there) (r, inr o, of, at_n, l, asked, who) =
          let j = has_joins h g e z (ap (λ (y : Post). asks y.message) same ∙ is) in
          let v = included_in j.0 x n (subst (Among (x, n)) j.1 there) in
          subst (λ y. names_number y ss ≡ true) v.2
          (j.2.1 v.0 v.1 n v.3 ss (r, o, of ∙ sym from ∙ ap (λ (y : Post). y.from) (sym same), at_n, l, asked, who ∙ sym act))
      named k u x n ss (q, inr i, from, h, g, e, z, is, act, there) (r, inl one, of, at_n, l, asked, who) =
          let b = prepares_by c to l ss (sends l (ask.Prepare ss) (ap (λ (y : Post). asks y.message) one ∙ asked)) in
          let j = at (actor l.path) b.doing (Preparing b.plan b.left) b.found b.now in
          absurd (j.3 x n (q, i, from ∙ sym of ∙ ap (λ (y : Post). y.from) (sym one), h, g, e, z, is, act ∙ sym who, there))
      named k u x n ss (q, inl same, from, h, g, e, z, is, act, there) (r, inl one, of, at_n, l, asked, who) =
          absurd (let no_way : Some (h, ask.Confirm g e z) ≡ Some (l, ask.Prepare ss) = sym is
          ∙ ap (λ (y : Post). asks y.message) (sym same ∙ one) ∙ asked in cc (ap (λ (y : Head × Ask). y.1) (some_is no_way)))

-- ---- all that a coordinator does

no_doing : (s : Sender) (inc : ℕ) (telling : List (Uid × Intent)) →
    AreAt (Joins s.node s.sent) (record (new_coord s.node inc) { telling = telling })
no_doing s inc telling u d m found now = absurd (by (is_own u (let c = new_coord s.node inc in c.tree)) u.num found)
  where
    by : (b : Bool) (j : ℕ) → cond b (at_place {A = Doing} j []) None ≡ Some d → ⊥
    by true zero is = cc is
    by true (suc j) is = cc is
    by false j is = cc is

module _ (s : Sender) (c : Coord) (place : PlaceAt s c) (hd : Header) (i : Input) (free : refusal_up hd i c ≡ None)
    (settled : AskersAreSettled s.sent s.node c) where
  -- whoever asks to commit now has asked for nothing prepared
  unasked : (l : Label) (b : Branch) → i ≡ input.Commit l → branch_named l c ≡ Some b → (q : Post) (h : Head) (a : Ask) → In q s.sent →
      q.from ≡ s.node → asks q.message ≡ Some (h, a) → is_some (preparer h a) ≡ true → actor h.path ≡ actor b.path → ⊥
  unasked l b same named q h a there from is prepares act =
      let free_it : refused_by commit_reasons c (Some b) ≡ None = ap (refused_by commit_reasons c) (sym named)
      ∙ sym (ap (λ z. refusal_up hd z c) same) ∙ free in
      let r = off (commit_reasons b c) free_it in
      let r7 = off ((7, waits_above b c || waits_below b c || input.sibling_waits b c) ∷ (9, _) ∷ []) r.1 in
      let found = named_found place.actions (paths_of place.actions) (begun_tree place.actions place.begun) [] c place.good l b named in
      ⊎_elim
      (λ over. let one : over.0 ≡ b = some_is (sym over.1 ∙ ap (λ w. branch_of w c.tree) act ∙ found) in
      never (ap (λ (z : Branch). is_some z.ended) (sym one) ∙ over.2) r.0)
      (λ at.
      waits_not c b (first (waits_above b c) (waits_below b c) (input.sibling_waits b c) r7.0) (subst (λ w. IsCommitting w c) act at))
      (settled q h a there from is prepares (ap (λ w. is_own w c.tree) act ∙ (found_by (actor b.path) c.tree b found).0))
    where
      first : (x y z : Bool) → (x || y || z) ≡ false → x ≡ false
      first true y z q = absurd (cc q)
      first false y z q = refl

own_plan : (s : Sender) (c : Coord) → CoordIsSo T c → (u : Uid) (d : Doing) (m : Machine) → doing_of u c ≡ Some d → d.now ≡ Committing m →
    AreOwn (plan_of m)
own_plan s c so u d m found now = plan_own T (plan_of m) (subst (NowIsSo T) now (so.works u d found))

pub joins_kept : IsKeptBy SaysJoins KeepsJoins
joins_kept = record {
  none = record { said = λ k u x n i. absurd i.1; named = λ k u x n ss i asked. absurd i.1 };
  new = λ s inc telling fresh. (askers_kept.new s inc telling fresh, (new_so T keep s.node inc telling, no_doing s inc telling));
  apart = λ s c p other q. (
    askers_kept.apart s c p other q.0,
    (
      q.1.0,
      λ w d x found now. joins_more s.node p s.sent w x (own_plan s c q.1.0 w d x found now)
          (λ z is y n i. inl (⊎_elim (λ old. old) (λ new. absurd (other new.0)) (confirm_cases s.node p s.sent w y n i)))
          (λ n ss new. absurd (other new.0)) (λ new. absurd (other new.0)) (q.1.1 w d x found now),
    ),
  );
  sends = λ s c to m stands so all q. (
    says_more s c to m so all q.1.0 q.1.1,
    ((askers_kept.sends s c to m stands so tt q.0).1, (q.1.0, at_more s c to m so all q.1.0 q.1.1)),
  );
  hears = λ s c place from a r intents posted fits meant q. (
    askers_kept.hears s c place from a r intents posted fits meant q.0,
    (
      (states.hears_so T keep from a r intents c q.1.0 meant (any_reply r)).0,
      at_heard (Joins s.node s.sent) c q.1.1 from a r intents (λ d m found now waits j. answer_joins s.node s.sent a.act from m r (λ yes. (
        record { from = from; to = s.node; message = posted.0 },
        posted.1,
        refl,
        a,
        posted.2 ∙ ap (λ (y : Reply). Some (a, y)) yes,
        refl,
      )) (own_plan s c q.1.0 a.act d m found now) j),
    ),
  );
  acks = λ s c place from u intents q. (
    askers_kept.acks s c place from u intents q.0,
    ((acks_so T keep from u intents c q.1.0).0, at_acked (Joins s.node s.sent) c q.1.1 from u intents),
  );
  does = λ s c place intents hd i free other q. (
    askers_kept.does s c place intents hd i free other q.0,
    (
      (states.acts_so T keep i intents c q.1.0).0,
      λ w d m found now. ⊎_elim (λ old. q.1.1 w old.0 m old.1 old.2) (λ new. new) (came_acts (Joins s.node s.sent) c i intents other
          (λ l b e z same named there at_it. giveup_joins s.node s.sent (actor b.path) z (own_plan s c q.1.0 (actor b.path) e z there at_it)
          (q.1.1 (actor b.path) e z there at_it))
          (λ l b same named.
          start_joins s.node s.sent (actor b.path) b.path (last_req (doing_of (actor b.path) c)) (root_at (root_of b.path) c) c
          (λ n ss asked.
          unasked s c place hd i free q.0 l b same named asked.0 asked.4 (ask.Prepare ss) asked.1 asked.2 asked.5 refl asked.6)
          (λ x n asked. unasked s c place hd i free q.0 l b same named asked.0 asked.3 (ask.Confirm asked.4 asked.5 asked.6) asked.1 asked.2
          asked.7 refl asked.8))
          w m (d, found, now)),
    ),
  );
  begins = λ s c place l how parent q. (
    askers_kept.begins s c place l how parent q.0,
    ((states.begins_so T keep l how parent (parent_of parent c) c q.1.0).0, at_begins (Joins s.node s.sent) c q.1.1 l how parent),
  );
  asks = λ s c place q.
      (askers_kept.asks s c place q.0, ((states.ticks_so T keep c q.1.0).0, at_again (Joins s.node s.sent) c.doings c q.1.1));
}

-- beside good nodes and known Binds
abbrev pub JoinsAreSaid : Seen → Type 0
JoinsAreSaid M = (IsGood M × BindsAreKnown M) × AreSo SaysJoins KeepsJoins joins_kept M

pub joins_keep : (hd : Header) → Keeps hd JoinsAreSaid
joins_keep hd = coords_keep SaysJoins KeepsJoins joins_kept hd
