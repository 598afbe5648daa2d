-- Roots and calls of a coordinator, from one state to the next.
use Rattle.arj_law_parts.proofs.Words
use Words.{false, ◌≡◌, ◌≢◌, ◌≤◌, ◌⊎◌, ◌∙◌, ◌||◌, ℕ, List, [], ◌∷◌, true, Option, Some, None, refl, sym, ap, subst, inl, inr, ⊎_elim}
use Words.{Contains, unwrap_or, uid_cases, Binding, End, Op, Uid, last_uid, uids_of, first_uid, top_of, At, AtActivate, AtBind, AtInvoke}
use Words.{AtLoad, AtNote, Known, Run, Steps, Calling, Coord, Doing, Grant, Keeping, Root, Said, doing_of, is_call, keeping_of, kept_of}
use Words.{no_root, on_root, root_at, binding_number, Branch, Tree, branch_of, ended_so, has_end, is_aborted, is_spent, root_of, put_other}
use Words.{put_same, one_or_two}
use Words.ending
use Rattle.arj_law_lock_view.proofs.Terms
use Terms.{Act, In, root, Call, State, KnowsRecorded, Paths, IsAsking, IsBusy, IsSameTree, found_by, own_is, Acts, IsSteady, SeesActions}
use Terms.{OnlyCalled, Codes, state_code, IsServedBy, IsNamedSo, HasHeard, IsSaid, IsTied, SeesCoord, SeesKeeping, SeesKept, SeesRoot}
use Terms.{SeesStep, invoke_of, is_early}
use Terms.machine
use Rattle.arj_law_lock_view.proofs.view.TreeSteps.{OnlyOne, root_there as tree_root}

-- ---- what only rises

pub knows_later : (S T : State) (b : ℕ) → ((m : machine.Message) → In m S.net → In m T.net) → KnowsRecorded S b → KnowsRecorded T b
knows_later S T b sent (inl i) = inl (sent (machine.Recorded b) i)
knows_later S T b sent (inr i) = inr (i.0, sent (machine.Live i.0 b) i.1)

module _ (unit : ℕ) (S T : State) (only : OnlyCalled unit S T) where
  pub served_later : (k : Known) → IsServedBy S k.binding k.server → IsServedBy T k.binding k.server
  served_later k s = (only.bindings (binding_number k.binding)).0 ∙ s

  pub named_later : (k : Known) (i : ℕ) → IsNamedSo S k.binding i → IsNamedSo T k.binding i
  named_later k i n =
      let e = only.named (binding_number k.binding) (inl n.0) in
      (ap (λ (b : machine.Binding). b.named) e ∙ n.0, ap (λ (b : machine.Binding). b.incarnation) e ∙ n.1)

  -- what another root keeps
  pub kept_later : (v : ℕ) (k : Known) → v ≢ unit → SeesKept v k S → SeesKept v k T
  kept_later v k other s = record {
    kept = only.kept v other ∙ s.kept;
    server = served_later k s.server;
    named = λ i is. named_later k i (s.named i is);
    unnamed = λ none. (let u = s.unnamed none in let e = only.named (binding_number k.binding) (inr (λ same. other (sym u.1 ∙ same))) in
        (ap (λ (b : machine.Binding). b.named) e ∙ u.0, ap (λ (b : machine.Binding). root b.maker) e ∙ u.1));
    recorded = λ is. (let r = s.recorded is in (knows_later S T (binding_number k.binding) only.sent r.0, r.1));
  }

  pub keeping_later : (v : ℕ) (o : Option Known) (avoid : Binding) → v ≢ unit → SeesKeeping v o avoid S → SeesKeeping v o avoid T
  keeping_later v None avoid other s = subst (λ (k : ℕ). k ≤ binding_number avoid) (sym (only.kept v other)) s
  keeping_later v (Some k) avoid other s = kept_later v k other s

  pub heard_later : (m : Act) (b : ℕ) → HasHeard m b S → HasHeard m b T
  heard_later m b (inl i) = inl (only.sent (machine.Live m b) i)
  heard_later m b (inr i) = inr (only.sent (machine.Made m b) i)

  -- the step of a call whose root keeps what it kept
  pub step_later : (act : Acts) (code : Codes) (s : Steps) (o : Op) (kp kq : Keeping) → ((k : Known) → IsTied kp.kept k → IsTied kq.kept k)
      → (kq.kept ≡ None → (kp.kept ≡ None) × (kq.avoid ≡ kp.avoid)) → (a : At) → SeesStep act code s o kp S a → SeesStep act code s o kq T a
  step_later act code s o kp kq ties none (AtBind avoid) h = λ is. (let n = none is in h n.0 ∙ sym n.1)
  step_later act code s o kp kq ties none (AtLoad k n rest) h =
      (ties k h.0, (only.sent (machine.Made (act (top_of s.path)) (binding_number k.binding)) h.1.0, served_later k h.1.1))
  step_later act code s o kp kq ties none (AtActivate k st) h = (
    ties k h.0,
    (only.sent (machine.Made (act (top_of s.path)) (binding_number k.binding)) h.1.0, served_later k h.1.1),
    only.sent (machine.Activate (binding_number k.binding) (state_code act code st)) h.2,
  )
  step_later act code s o kp kq ties none (AtNote k i) h = (
    ties k h.0,
    (only.sent (machine.Made (act (top_of s.path)) (binding_number k.binding)) h.1.0, served_later k h.1.1),
    named_later k i h.2,
  )
  step_later act code s o kp kq ties none (AtInvoke k i) h =
      (ties k h.0, served_later k h.1, named_later k i h.2, only.sent (machine.Invoke (invoke_of act s o k)) h.3)

-- ---- trees that differ in nothing that matters

pub same_refl : (t : Tree) → IsSameTree t t
same_refl t = record {
  back = λ u b f. (b, f, refl, refl, refl);
  forth = λ u b f. (b, f, refl, refl, refl);
  ends = λ r. refl;
  every = λ b i. (b, i, refl, refl);
  own = λ u. refl;
}

pub same_spent : (t v : Tree) → IsSameTree t v → (us : List Uid) → is_spent us v ≡ is_spent us t
same_spent t v same [] = refl
same_spent t v same (u ∷ us) = λ i. one i || same_spent t v same us i
  where
    one : is_aborted u v ≡ is_aborted u t
    one = by (branch_of u v) (branch_of u t) refl refl
      where
        by : (p q : Option Branch) → branch_of u v ≡ p → branch_of u t ≡ q → ended_so ending.Abort p ≡ ended_so ending.Abort q
        by None None a b = refl
        by (Some e) q a b = let f = same.back u e a in let is : ◌≡◌ {A = Option Branch} q (Some f.0) = sym b ∙ f.1 in
            ap (λ (o : Option End). has_end ending.Abort o) (sym f.4) ∙ ap (ended_so ending.Abort) (sym is)
        by None (Some e) a b =
            absurd (let f = same.forth u e b in let no_way : ◌≡◌ {A = Option Branch} None (Some f.0) = sym a ∙ f.1 in cc no_way)

-- ---- the roots of a coordinator

module _ (rt : Uid) (f : Root → Root) (c : Coord) where
  pub root_here : root_at rt (on_root rt f c) ≡ f (root_at rt c)
  root_here = ap (λ (o : Option Root). unwrap_or o no_root) (put_same rt.num (f (root_at rt c)) c.roots)

  pub root_else : (w : Uid) → (w.num ≡ rt.num → ⊥) → root_at w (on_root rt f c) ≡ root_at w c
  root_else w other = ⊎_elim (λ same. absurd (other (sym same))) (λ apart.
      ap (λ (o : Option Root). unwrap_or o no_root) (put_other rt.num w.num (f (root_at rt c)) c.roots apart.0)) (one_or_two rt.num w.num)

-- what is looked at of a root stays
pub same_root : (act : Acts) (x : ℕ) (u : Uid) (r q : Root) (t : Tree) (S : State) → keeping_of x q ≡ keeping_of x r → q.said ≡ r.said →
    q.grants ≡ r.grants → SeesRoot act x u r t S → SeesRoot act x u q t S
same_root act x u r q t S keeping said grants s = record {
  keeping = subst (λ (k : Keeping). SeesKeeping (root (act u)) k.kept k.avoid S) (sym keeping) s.keeping;
  spent = λ none z there of.
      s.spent (ap (λ (k : Keeping). k.kept) (sym keeping) ∙ none) z (subst (λ (l : List Said). Contains l z) said there) of;
  said = λ z there of. s.said z (subst (λ (l : List Said). Contains l z) said there) of;
  calls = λ d there home. (let f = s.calls d there home in (f.0, subst (λ (l : List Said). Contains l f.0) (sym said) f.1, f.2, f.3));
  heard = λ g b there of named. s.heard g b (subst (λ (l : List Grant). Contains l g) grants there) of named;
}

-- ---- a coordinator after one of its actions went on

module _ (act : Acts) (code : Codes) (paths : Paths) (x : ℕ) (c e : Coord) (S T : State) (steady : IsSteady act paths c)
    (sees : SeesCoord act code x c S) (u rt : Uid) (b : Branch) (found : branch_of u c.tree ≡ Some b) (of : root_of b.path ≡ rt)
    (r : Branch) (root_there : branch_of rt c.tree ≡ Some r) (own_root : root_of r.path ≡ rt) where
  -- what became of it and of its root
  pub record IsMoved (b' : Branch) (d' : Doing) (q : Root) : Type 0 where
    pub same : IsSameTree c.tree e.tree
    pub one : OnlyOne act paths x c S.action steady sees.actions u b' d' e
    pub root_is : root_at rt e ≡ q
    pub elsewhere : (w : Uid) → (w.num ≡ rt.num → ⊥) → root_at w e ≡ root_at w c

  -- other calls on the object in its root are on what is kept now, or there are none
  abbrev KeepsTies : Keeping → Keeping → Type 0
  KeepsTies kp kq = ((k : Known) → IsTied kp.kept k → IsTied kq.kept k) × (kq.kept ≡ None → (kp.kept ≡ None) × (kq.avoid ≡ kp.avoid))

  abbrev IsAlone : Type 0
  IsAlone = (w : Uid) (d : Doing) (s : Steps) (o : Op) → doing_of w c ≡ Some d → d.now ≡ Calling s → s.x ≡ x → s.goal ≡ Run o →
      root_of s.path ≡ rt → w ≡ u

  -- two roots have two units
  units_apart : (w : Uid) (k : Branch) → branch_of w c.tree ≡ Some k → root_of k.path ≡ w → w ≢ rt → root (act w) ≢ root (act u)
  units_apart w k there own other same =
      other (sym own ∙ ap first_uid (steady.good.tree.lists.paths_are w k there) ∙ steady.alike.units w u same
      ∙ ap first_uid (sym (steady.good.tree.lists.paths_are u b found)) ∙ of)

  nums_apart : (w : Uid) (k : Branch) → branch_of w c.tree ≡ Some k → w ≢ rt → w.num ≡ rt.num → ⊥
  nums_apart w k there other same = other (own_is w rt c.tree (found_by w c.tree k there).0 (found_by rt c.tree r root_there).0 same)

  pub said_later : (w : Uid) (z : Said) → IsSameTree c.tree e.tree → ((d : Call) → In d S.calls → In d T.calls) → IsSaid act w z c.tree S →
      IsSaid act w z e.tree T
  said_later w z same calls s = let f = same.forth (last_uid z.path) s.branch s.there in record {
    branch = f.0;
    there = f.1;
    path = ap uids_of (sym f.2) ∙ s.path;
    of = ap (λ p. root_of p) (sym f.2) ∙ s.of;
    call = s.call;
    called = calls s.call s.called;
    by = s.by;
  }

  root_later : (w : Uid) (k : Branch) (q : Root) → OnlyCalled (root (act u)) S T → IsSameTree c.tree e.tree → branch_of w c.tree ≡ Some k →
      root_of k.path ≡ w → w ≢ rt → SeesRoot act x w q c.tree S → SeesRoot act x w q e.tree T
  root_later w k q only same there own other s = record {
    keeping = keeping_later (root (act u)) S T only (root (act w)) (kept_of x q) (let v = keeping_of x q in
        v.avoid) (units_apart w k there own other) s.keeping;
    spent = λ none z i is. same_spent c.tree e.tree same z.path ∙ s.spent none z i is;
    said = λ z i is. said_later w z same only.calls (s.said z i is);
    calls =
        λ d i home. ⊎_elim (λ old. s.calls d old home) (λ new. absurd (units_apart w k there own other (sym home ∙ new))) (only.fresh d i);
    heard = λ g v i is named. heard_later (root (act u)) S T only (act g.top) (binding_number v) (s.heard g v i is named);
  }

  pub assemble : (b' : Branch) (d' : Doing) (q : Root) → IsMoved b' d' q → OnlyCalled (root (act u)) S T → SeesActions act x e T.action →
      SeesRoot act x rt q e.tree T → KeepsTies (keeping_of x (root_at rt c)) (keeping_of x q) ⊎ IsAlone
      → ((s : Steps) (o : Op) → d'.now ≡ Calling s → s.x ≡ x → s.goal ≡ Run o →
      (root_of s.path ≡ rt) × SeesStep act code s o (keeping_of x q) T s.at)
      → ((s : Steps) → d'.now ≡ Calling s → s.x ≡ x → is_early s.at ≡ false → is_call s.goal ≡ true) → SeesCoord act code x e T
  assemble b' d' q moved only acts root_seen ties its plain = record { actions = acts; roots = roots; calls = calls; plain = others_plain }
    where
      roots : (w : Uid) (k : Branch) → branch_of w e.tree ≡ Some k → root_of k.path ≡ w → SeesRoot act x w (root_at w e) e.tree T
      roots w k there own = ⊎_elim
          (λ (is : w ≡ rt). subst (λ (v : Uid). SeesRoot act x v (root_at v e) e.tree T) (sym is)
          (subst (λ (z : Root). SeesRoot act x rt z e.tree T) (sym moved.root_is) root_seen))
          (λ (other : w ≢ rt). let f = moved.same.back w k there in
          let own_before = ap (λ p. root_of p) f.2 ∙ own in
          subst (λ (z : Root). SeesRoot act x w z e.tree T) (sym (moved.elsewhere w (nums_apart w f.0 f.1 other)))
          (root_later w f.0 (root_at w c) only moved.same f.1 own_before other (sees.roots w f.0 f.1 own_before)))
          (uid_cases w rt)

      mine : (w : Uid) (d : Doing) → w ≡ u → doing_of w e ≡ Some d → d' ≡ d
      mine w d is works = let two : ◌≡◌ {A = Option Doing} (Some d') (Some d) = sym moved.one.doing
          ∙ ap (λ (v : Uid). doing_of v e) (sym is) ∙ works in cc two

      others_plain : (w : Uid) (d : Doing) (s : Steps) → doing_of w e ≡ Some d → d.now ≡ Calling s → s.x ≡ x → is_early s.at ≡ false →
          is_call s.goal ≡ true
      others_plain w d s works calling about invoke = ⊎_elim
          (λ (is : w ≡ u). plain s (ap (λ (v : Doing). v.now) (mine w d is works) ∙ calling) about invoke)
          (λ (other : w ≢ u). sees.plain w d s (sym (moved.one.doings w other) ∙ works) calling about invoke)
          (uid_cases w u)

      other_step : (w : Uid) (d : Doing) (s : Steps) (o : Op) → w ≢ u → doing_of w c ≡ Some d → d.now ≡ Calling s → s.x ≡ x →
          s.goal ≡ Run o → SeesStep act code s o (keeping_of x (root_at (root_of s.path) e)) T s.at
      other_step w d s o other works calling about goal = ⊎_elim home away (uid_cases (root_of s.path) rt)
        where
          old : SeesStep act code s o (keeping_of x (root_at (root_of s.path) c)) S s.at
          old = sees.calls w d s o works calling about goal

          asks : IsAsking c.tree w s.path
          asks = subst (IsBusy c.tree w) calling (steady.good.busy w d works)

          home : root_of s.path ≡ rt → SeesStep act code s o (keeping_of x (root_at (root_of s.path) e)) T s.at
          home is = ⊎_elim
              (λ (keeps : KeepsTies (keeping_of x (root_at rt c)) (keeping_of x q)).
              subst (λ (v : Uid). SeesStep act code s o (keeping_of x (root_at v e)) T s.at) (sym is)
              (subst (λ (z : Root). SeesStep act code s o (keeping_of x z) T s.at) (sym moved.root_is)
              (step_later (root (act u)) S T only act code s o (keeping_of x (root_at rt c)) (keeping_of x q) keeps.0 keeps.1 s.at
              (subst (λ (v : Uid). SeesStep act code s o (keeping_of x (root_at v c)) S s.at) is old))))
              (λ (alone : IsAlone). absurd (other (alone w d s o works calling about goal is)))
              ties

          away : root_of s.path ≢ rt → SeesStep act code s o (keeping_of x (root_at (root_of s.path) e)) T s.at
          away not_home =
              let up = root_branch w asks in
              subst (λ (z : Root). SeesStep act code s o (keeping_of x z) T s.at)
              (sym (moved.elsewhere (root_of s.path) (nums_apart (root_of s.path) up.0 up.1 not_home)))
              (step_later (root (act u)) S T only act code s o (keeping_of x (root_at (root_of s.path) c))
              (keeping_of x (root_at (root_of s.path) c)) (λ k t. t) (λ is. (is, refl)) s.at old)
            where
              root_branch : (w : Uid) → IsAsking c.tree w s.path → (k : Branch) × (branch_of (root_of s.path) c.tree ≡ Some k)
              root_branch w a = let up = tree_root act paths x c S.action steady sees.actions w a.branch a.found in
                  (up.0, ap (λ p. branch_of (root_of p) c.tree) (sym a.path) ∙ up.1)

      calls : (w : Uid) (d : Doing) (s : Steps) (o : Op) → doing_of w e ≡ Some d → d.now ≡ Calling s → s.x ≡ x → s.goal ≡ Run o →
          SeesStep act code s o (keeping_of x (root_at (root_of s.path) e)) T s.at
      calls w d s o works calling about goal = ⊎_elim
          (λ (is : w ≡ u). let k = its s o (ap (λ (v : Doing). v.now) (mine w d is works) ∙ calling) about goal in
          subst (λ (v : Uid). SeesStep act code s o (keeping_of x (root_at v e)) T s.at) (sym k.0)
          (subst (λ (z : Root). SeesStep act code s o (keeping_of x z) T s.at) (sym moved.root_is) k.1))
          (λ (other : w ≢ u). other_step w d s o other (sym (moved.one.doings w other) ∙ works) calling about goal)
          (uid_cases w u)
