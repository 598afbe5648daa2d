-- What is known of the actions at work and of the roots of a coordinator, along its small steps.
use Rattle.arj_law_parts.proofs.Words
use Words.{◌≡◌, ℕ, zero, suc, List, [], ◌∷◌, ◌++◌, length, Bool, true, false, cond, nat_le, Option, Some, None, refl, sym, ◌∙◌, ap, subst}
use Words.{⊎_elim, AllByRecursion, uid_cases, Uid, End, Kind, Path, Body, Label, Ask, Asked, uids_of, Reply, actor, begin_action, renewed}
use Words.{root_heard, root_moved, root_lost, waits_for_call, is_invoke_ask, Steps, CallStep, Ended, CallEnd, Lost, given_up, Plan, Machine}
use Words.{plan_of, participants, has_record, Coord, new_coord, Doing, Idle, Calling, Committing, Root, Went, no_root, doing_of, set_doing}
use Words.{change_doing, on_doing, on_root, root_at, keeping_of, is_free, with_keeping, with_went, Intent, ended, root_after, at_uid}
use Words.{put_uid, without_number, without_uid, parent_of, Tree, Branch, begun, branch_of, is_own, at_place, set_place, root_of, family_of}
use Words.{with_family, uses_object, listed_end, doomed_at, doomed_branch, ended_at, ended_branch}
use Words.ending
use Words.input
use Rattle.arj_law_parts.proofs.coordinator
use coordinator.Trace.{Came, Takes, Hears, IsAcked, turned, kept_at_start, used_at, rested, noted, took_part, settled_by, CallTurn, Answers}
use coordinator.Trace.{GivesUp, Calls, CommitOn, CommitEnds, Ends, Move, Begins, Uses, Renews, Waits, Turns, Rests, Notes, Dooms, CommitsIn}
use coordinator.Trace.{EndsAt, TakesPart, KeepsAfter, Awaits, SentTo, LastAck, SomeAck, Requests}
use Rattle.arj_law_parts.proofs.parts.{GoodTrees.get_more, LivesNamed.all_at, LivesNamed.all_put, Settled.doing_other, Settled.doing_put}

-- ---- whose Uids are its own

own_doomed : (u w : Uid) (t : Tree) → is_own w (doomed_at u t) ≡ is_own w t
own_doomed u w t = by (branch_of u t)
  where
    by : (o : Option Branch) → is_own w (doomed_branch u t o) ≡ is_own w t
    by None = refl
    by (Some b) = refl

own_ended : (u w : Uid) (how : End) (t : Tree) → is_own w (ended_at u how t) ≡ is_own w t
own_ended u w how t = by (branch_of u t)
  where
    listed : (p : Path) (v : Tree) → is_own w v ≡ is_own w t → is_own w (listed_end u how p v) ≡ is_own w t
    listed p v same = one (nat_le (length (uids_of p)) 1)
      where
        one : (s : Bool) → is_own w (cond s v
            (with_family (root_of p) (let f = family_of (root_of p) v in record f { ends = f.ends ++ (u, how) ∷ [] }) v)) ≡ is_own w t
        one true = same
        one false = same

    by : (o : Option Branch) → is_own w (ended_branch u how t o) ≡ is_own w t
    by None = refl
    by (Some b) = listed b.path (record t { branches = set_place u.num (record b { ended = Some how }) t.branches }) refl

some_is : {A : Type 0} {a b : A} → Some a ≡ Some b → a ≡ b
some_is {A} {a} {b} is = let k : ◌≡◌ {A = Option A} (Some a) (Some b) = is in cc

-- ---- actions at work

-- what the small steps of actions at work keep
pub record KeepsWorks (N : Uid → Doing → Type 0) (c : Coord) (came : Came) : Type 0 where
  pub fresh : (u : Uid) (l : Label) → N u (record { label = l; req = 0; now = Idle; took = [] })
  pub rests : (u : Uid) (d : Doing) → N u d → N u (record d { now = Idle })
  pub takes : (u : Uid) (d : Doing) (ns : List ℕ) → N u d → N u (record d { took = ns })
  pub calls : (s : Steps) (d : Doing) (e : Coord) → Calls c came e (actor s.path) s → N (actor s.path) d →
      N (actor s.path) (record d { req = s.req; now = Calling s })
  pub commits : (u : Uid) (m : Machine) (d : Doing) → CommitOn c came u m → N u d →
      N u (record d { req = (plan_of m).req; now = Committing m })

module _ (N : Uid → Doing → Type 0) where
  -- so it is of each action at work
  abbrev pub Works : Coord → Type 0
  Works c = (u : Uid) (d : Doing) → doing_of u c ≡ Some d → N u d

  pub works_same : (c e : Coord) → ((u : Uid) → is_own u e.tree ≡ is_own u c.tree) → e.doings ≡ c.doings → Works c → Works e
  works_same c e own doings n u d at = n u d (sym same ∙ at)
    where
      same : doing_of u e ≡ doing_of u c
      same = λ i. cond (own u i) (at_place u.num (doings i)) None

  pub works_do : (u : Uid) (f : Doing → Doing) (c : Coord) → ((d : Doing) → doing_of u c ≡ Some d → N u (f d)) → Works c →
      Works (on_doing u f c)
  works_do u f c so n = by (doing_of u c) refl
    where
      by : (o : Option Doing) → doing_of u c ≡ o → Works (change_doing f u c o)
      by None none w d at = n w d at
      by (Some old) found w d at = ⊎_elim
          (λ same. subst (λ v. N v d) (sym same) (subst (N u) (some_is
          (sym (doing_put u (f old) old c found) ∙ ap (λ v. doing_of v (set_doing u (f old) c)) (sym same) ∙ at)) (so old found)))
          (λ other. n w d (sym (doing_other u w (f old) old c found other) ∙ at)) (uid_cases w u)

  pub works_begun : (l : Label) (k : Kind) (parent : Option Label) (above : Option Branch) (c : Coord) →
      ((u : Uid) → N u (record { label = l; req = 0; now = Idle; took = [] })) → Works c → Works (begin_action l k parent above c).part
  works_begun l k parent above c its n u d at = was (is_own u c.tree) u.num at (λ f. n u d f)
    where
      fresh : Doing
      fresh = record { label = l; req = 0; now = Idle; took = [] }

      was : (b : Bool) (j : ℕ) → cond b (at_place j (c.doings ++ fresh ∷ [])) None ≡ Some d →
          (cond b (at_place j c.doings) None ≡ Some d → N u d) → N u d
      was true zero is f = let no_way : ◌≡◌ {A = Option Doing} None (Some d) = is in absurd (cc no_way)
      was true (suc j) is f = ⊎_elim (λ old. f old) (λ new. subst (N u) new.1 (its u)) (get_more j fresh d c.doings is)
      was false j is f = let no_way : ◌≡◌ {A = Option Doing} None (Some d) = is in absurd (cc no_way)

  pub works_new : (node inc : ℕ) (records : List (Uid × Intent)) → Works (record (new_coord node inc) { telling = records })
  works_new node inc records u d at = none (is_own u (new_coord node inc).tree) u.num at
    where
      none : (b : Bool) (j : ℕ) → cond b (at_place j []) None ≡ Some d → N u d
      none true zero is = let no_way : ◌≡◌ {A = Option Doing} None (Some d) = is in absurd (cc no_way)
      none true (suc j) is = let no_way : ◌≡◌ {A = Option Doing} None (Some d) = is in absurd (cc no_way)
      none false j is = let no_way : ◌≡◌ {A = Option Doing} None (Some d) = is in absurd (cc no_way)

  -- each small step leaves it so
  pub works_move : {c : Coord} {came : Came} → KeepsWorks N c came → (e f : Coord) → Move c came e f → Works e → Works f
  works_move {c} so _ _ (Begins l k parent intents) w = works_begun l k parent (parent_of parent c) c (λ u. so.fresh u l) w
  works_move so _ _ (Waits s e is) w = works_do (actor s.path) (λ (d : Doing). record d { req = s.req; now = Calling s }) e
      (λ d found. so.calls s d e is (w (actor s.path) d found)) w
  works_move so _ _ (Turns s t _ (Answers from a r intents d _ found is waits)) w = w
  works_move so _ _ (Rests s t e g turn is) w =
      works_do (actor s.path) (λ (d : Doing). record d { now = Idle }) e (λ d found. so.rests (actor s.path) d (w (actor s.path) d found)) w
  works_move so _ _ (Dooms s t f n turn is) w = let e = noted s (Lost n true) f in
      works_same e (record e { tree = doomed_at (actor s.path) e.tree }) (λ u. own_doomed (actor s.path) u e.tree) refl w
  works_move {c} so _ _ (CommitsIn u m on) w =
      works_do u (λ (d : Doing). record d { req = (plan_of m).req; now = Committing m }) c (λ d found. so.commits u m d on (w u d found)) w
  works_move so _ _ (EndsAt u how f e ends) w =
      let over : Coord = record e { tree = ended_at u how e.tree } in
      let still = works_same e over (λ v. own_ended u v how e.tree) refl w in
      works_do u (λ (d : Doing). record d { now = Idle }) over (λ d found. so.rests u d (still u d found)) still
  works_move {c} so _ _ (TakesPart u p ends) w = works_do (actor p.path) (λ (d : Doing). record d { took = participants p })
      (ended (actor p.path) ending.Commit c) (λ d found. so.takes (actor p.path) d (participants p) (w (actor p.path) d found)) w
  works_move so _ _ _ w = w

-- ---- roots

-- what the small steps of roots keep
pub record KeepsRoots (R : Root → Type 0) (c : Coord) (came : Came) : Type 0 where
  pub renews : (x : ℕ) (free : Bool) (r : Root) → R r → R (with_keeping x (let k = keeping_of x r in renewed free k k.kept) r)
  pub answers : (from : ℕ) (a : Asked) (r : Reply) (intents : List (Uid × Intent)) (d : Doing) (s : Steps) → doing_of a.act c ≡ Some d →
      d.now ≡ Calling s → waits_for_call from a r s ≡ true → came ≡ Hears from a r intents
      → R (root_at (root_of s.path) c) → R (root_moved s r (turned s r c) (root_at (root_of s.path) c))
  pub loses : (s : Steps) (r : Root) → R r → R (root_lost s (given_up s.at) r)
  pub hears : (s : Steps) (t : CallStep) (f : Coord) (g : CallEnd) → CallTurn c came s t f → t ≡ Ended g → (r : Root) → R r →
      R (root_heard s g r)
  pub decides : (u : Uid) (p : Plan) → CommitEnds c came u p → (r : Root) → R r → R (root_after p r)
  pub sent : (p : Path) (req n : ℕ) (a : Ask) (e : Coord) → Requests c came e p req n a → (r : Root) → R r →
      R (with_went (record { path = uids_of p; node = n; invoke = is_invoke_ask a }) r)

module _ (R : Root → Type 0) (none : R no_root) where
  -- so it is of each root
  abbrev pub Roots : Coord → Type 0
  Roots c = AllByRecursion (λ (e : ℕ × Root). R e.1) c.roots

  pub its_root : (root : Uid) (c : Coord) → Roots c → R (root_at root c)
  its_root root c all = all_at R no_root none root.num c.roots all

  pub roots_put : (root : Uid) (f : Root → Root) (c : Coord) → (R (root_at root c) → R (f (root_at root c))) → Roots c →
      Roots (on_root root f c)
  roots_put root f c step all = all_put R root.num (f (root_at root c)) c.roots (step (its_root root c all)) all

  -- what an action is at doesn't matter to it
  pub roots_do : (u : Uid) (f : Doing → Doing) (c : Coord) → Roots c → Roots (on_doing u f c)
  roots_do u f c all = by (doing_of u c)
    where
      by : (o : Option Doing) → Roots (change_doing f u c o)
      by None = all
      by (Some d) = all

  -- a call that turns
  roots_turn : {c : Coord} {came : Came} → KeepsRoots R c came → (s : Steps) (t : CallStep) (e : Coord) → CallTurn c came s t e → Roots c →
      Roots e
  roots_turn {c} so s _ _ (Answers from a r intents d _ found is waits) all =
      roots_put (root_of s.path) (root_moved s r (turned s r c)) c (so.answers from a r intents d s found is waits refl) all
  roots_turn {c} so s _ _ (GivesUp l b intents d _ named found is) all =
      roots_put (root_of s.path) (root_lost s (given_up s.at)) c (so.loses s (root_at (root_of s.path) c)) all

  -- each small step leaves it so
  pub roots_move : {c : Coord} {came : Came} → KeepsRoots R c came → (e f : Coord) → Move c came e f → Roots e → Roots f
  roots_move {c} so _ _ (Renews p x) all = roots_put (root_of p) (with_keeping x (kept_at_start p x c)) (used_at p x c)
      (so.renews x (is_free (root_of p) (actor p) x c) (root_at (root_of p) c)) all
  roots_move so _ _ (Turns s t e turn) all = roots_turn so s t e turn all
  roots_move so _ _ (Notes s t e g turn is) all =
      roots_put (root_of s.path) (root_heard s g) (rested s e) (so.hears s t e g turn is (root_at (root_of s.path) (rested s e))) all
  roots_move {c} so _ _ (KeepsAfter u p ends) all =
      roots_put (root_of p.path) (root_after p) (took_part p c) (so.decides u p ends (root_at (root_of p.path) (took_part p c))) all
  roots_move so _ _ (SentTo p req n a e q) all =
      let w : Went = record { path = uids_of p; node = n; invoke = is_invoke_ask a } in
      roots_put (root_of p) (with_went w) e (so.sent p req n a e q (root_at (root_of p) e)) all
  roots_move so _ _ (Rests s t e g turn is) all = roots_do (actor s.path) (λ (d : Doing). record d { now = Idle }) e all
  roots_move so _ _ (Waits s e is) all = roots_do (actor s.path) (λ (d : Doing). record d { req = s.req; now = Calling s }) e all
  roots_move {c} so _ _ (CommitsIn u m on) all = roots_do u (λ (d : Doing). record d { req = (plan_of m).req; now = Committing m }) c all
  roots_move so _ _ (EndsAt u how f e ends) all =
      roots_do u (λ (d : Doing). record d { now = Idle }) (record e { tree = ended_at u how e.tree }) all
  roots_move {c} so _ _ (TakesPart u p ends) all =
      roots_do (actor p.path) (λ (d : Doing). record d { took = participants p }) (ended (actor p.path) ending.Commit c) all
  roots_move so _ _ _ all = all

-- ---- the tree

-- what the small steps of the tree keep
pub record KeepsTree (T : Tree → Type 0) (c : Coord) (came : Came) : Type 0 where
  pub begins : (l : Label) (k : Kind) (parent : Option Label) (intents : List (Uid × Intent)) →
      came ≡ Takes (input.Begin l k parent) intents → T c.tree → T (begun k (parent_of parent c) c.tree)
  pub uses : (p : Path) (x : ℕ) → T c.tree → T (uses_object p x c.tree)
  pub dooms : (u : Uid) (t : Tree) → T t → T (doomed_at u t)
  pub ends : (u : Uid) (how : End) (f : Label → Body) (t : Tree) → Ends c came u how f → T t → T (ended_at u how t)

pub tree_same : (u : Uid) (f : Doing → Doing) (c : Coord) → (on_doing u f c).tree ≡ c.tree
tree_same u f c = by (doing_of u c)
  where
    by : (o : Option Doing) → (change_doing f u c o).tree ≡ c.tree
    by None = refl
    by (Some d) = refl

module _ (T : Tree → Type 0) where
  tree_do : (u : Uid) (f : Doing → Doing) (c : Coord) → T c.tree → T (on_doing u f c).tree
  tree_do u f c h = subst T (sym (tree_same u f c)) h

  -- each small step leaves it so
  pub tree_move : {c : Coord} {came : Came} → KeepsTree T c came → (e f : Coord) → Move c came e f → T e.tree → T f.tree
  tree_move {c} so _ _ (Begins l k parent intents) h = so.begins l k parent intents refl h
  tree_move so _ _ (Uses l b x named) h = so.uses b.path x h
  tree_move so _ _ (Waits s e is) h = tree_do (actor s.path) (λ (d : Doing). record d { req = s.req; now = Calling s }) e h
  tree_move so _ _ (Turns s t _ (Answers from a r intents d _ found is waits)) h = h
  tree_move so _ _ (Turns s t _ (GivesUp l b intents d _ named found is)) h = h
  tree_move so _ _ (Rests s t e g turn is) h = tree_do (actor s.path) (λ (d : Doing). record d { now = Idle }) e h
  tree_move so _ _ (Dooms s t e n turn is) h = so.dooms (actor s.path) (noted s (Lost n true) e).tree h
  tree_move {c} so _ _ (CommitsIn u m on) h = tree_do u (λ (d : Doing). record d { req = (plan_of m).req; now = Committing m }) c h
  tree_move so _ _ (EndsAt u how f e ends) h =
      tree_do u (λ (d : Doing). record d { now = Idle }) (record e { tree = ended_at u how e.tree }) (so.ends u how f e.tree ends h)
  tree_move {c} so _ _ (TakesPart u p ends) h =
      tree_do (actor p.path) (λ (d : Doing). record d { took = participants p }) (ended (actor p.path) ending.Commit c) h
  tree_move so _ _ _ h = h

-- ---- records that are told

-- what the small steps of these keep
pub record KeepsTelling (M : List (Uid × Intent) → Type 0) (c : Coord) (came : Came) : Type 0 where
  pub awaits : (u : Uid) (p : Plan) → CommitEnds c came u p → has_record p ≡ true → (m : List (Uid × Intent)) → M m →
      M (put_uid (actor p.path) (record { root = root_of p.path; nodes = participants p }) m)
  pub last : (from : ℕ) (u : Uid) (intents : List (Uid × Intent)) (i : Intent) → came ≡ IsAcked from u intents →
      at_uid u c.telling ≡ Some i → M c.telling → M (without_uid u c.telling)
  pub some : (from : ℕ) (u : Uid) (intents : List (Uid × Intent)) (i : Intent) (n : ℕ) (ns : List ℕ) → came ≡ IsAcked from u intents →
      at_uid u c.telling ≡ Some i → without_number from i.nodes ≡ n ∷ ns
      → M c.telling → M (put_uid u (record i { nodes = n ∷ ns }) c.telling)

module _ (M : List (Uid × Intent) → Type 0) where
  telling_do : (u : Uid) (f : Doing → Doing) (c : Coord) → M c.telling → M (on_doing u f c).telling
  telling_do u f c h = by (doing_of u c)
    where
      by : (o : Option Doing) → M (change_doing f u c o).telling
      by None = h
      by (Some d) = h

  -- each small step leaves it so
  pub telling_move : {c : Coord} {came : Came} → KeepsTelling M c came → (e f : Coord) → Move c came e f → M e.telling → M f.telling
  telling_move so _ _ (Waits s e is) h = telling_do (actor s.path) (λ (d : Doing). record d { req = s.req; now = Calling s }) e h
  telling_move so _ _ (Turns s t _ (Answers from a r intents d _ found is waits)) h = h
  telling_move so _ _ (Rests s t e g turn is) h = telling_do (actor s.path) (λ (d : Doing). record d { now = Idle }) e h
  telling_move {c} so _ _ (CommitsIn u m on) h = telling_do u (λ (d : Doing). record d { req = (plan_of m).req; now = Committing m }) c h
  telling_move so _ _ (EndsAt u how f e ends) h =
      telling_do u (λ (d : Doing). record d { now = Idle }) (record e { tree = ended_at u how e.tree }) h
  telling_move {c} so _ _ (TakesPart u p ends) h =
      telling_do (actor p.path) (λ (d : Doing). record d { took = participants p }) (ended (actor p.path) ending.Commit c) h
  telling_move {c} so _ _ (Awaits u p ends is) h = so.awaits u p ends is (settled_by p c).telling h
  telling_move so _ _ (LastAck from u intents i found there none) h = so.last from u intents i refl found h
  telling_move so _ _ (SomeAck from u intents i n ns found there left) h = so.some from u intents i n ns refl found left h
  telling_move so _ _ _ h = h
