-- The world but one node, as it is seen; and what is seen of a node that does nothing while others go on.
use Rattle.arj_law_parts.proofs.Words
use Words.{◌≡◌, ◌≤◌, ◌⊎◌, ◌∙◌, ◌+◌, ℕ, List, ◌∷◌, ◌++◌, [], cond, Option, None, Some, sym, ap, subst, inl, inr, ⊎_elim, arith, length, Body}
use Words.{Line, Uid, Disk, Intent, Parts, Node, Tree, numbered, Post, Seen}
use Words.ending
use Rattle.arj_law_lock_view.proofs.Terms
use Terms.{Act, Root, In, root, Run, start, State, go_on, Action, act_of, other_number, same_number, at, posted, said, IsIdle, IsUntouched}
use Terms.{IsReached, NobodyConfirmed, OnlyNaming, HasEnded, View, Fixed, view_of, IsPostSeen, ArePast, AreRecordsOf, HaveConfirms, IsFresh}
use Terms.{SeesDown, SeesLocks, SeesMemory}
use Terms.machine_run as machine
use Terms.machine as state
use Terms.seen
use Rattle.arj_law_lock_view.proofs.running.{NameSteps.confirms_later, NameSteps.confirms_more, PostSteps.posts_stay}

-- ---- what has ended stays

module _ (S T : State) (ends : (a : Act) → 3 ≤ (S.action a).stage → T.action a ≡ S.action a) where
  pub over_on : (a : Act) → (S.action a).stage ≡ 3 → (T.action a).stage ≡ 3
  over_on a is = ap (λ (k : state.Action). k.stage) (ends a (omega (arith, is))) ∙ is

  gone_on : (a : Act) → (S.action a).stage ≡ 4 → (T.action a).stage ≡ 4
  gone_on a is = ap (λ (k : state.Action). k.stage) (ends a (omega (arith, is))) ∙ is

  pub past_on : (v : View) (t : Tree) → ArePast v t S → ArePast v t T
  past_on v t past a begun home = ⊎_elim (λ here. inl here) (λ p. inr (record {
    ended = λ act. ⊎_elim (λ three. inl (over_on (v.family.act (act_of a)) three)) (λ four. inr (gone_on (v.family.act (act_of a)) four))
        (p.ended act);
    over = over_on (Root (root (v.family.act (act_of a)))) p.over;
  })) (past a begun home)

  pub committed_on : (v : View) (u : Uid) → HasEnded v S u ending.Commit → HasEnded v T u ending.Commit
  committed_on v u so = record {
    action = so.action;
    begun = so.begun;
    of = so.of;
    unserial = so.unserial;
    committed = over_on (v.family.act u) so.committed;
    over = λ plain. over_on (Root (root (v.family.act u))) (so.over plain);
  }

  pub records_on : (v : View) (last : Option Uid) (intents : List (Uid × Intent)) → AreRecordsOf v last intents S →
      AreRecordsOf v last intents T
  records_on v last intents records u i found = ⊎_elim (λ its. inl its) (λ so. inr (committed_on v u so)) (records u i found)

-- what wasn't begun stays so where its parts of the machine do
pub fresh_on : (f : Fixed) (begun : List Action) (S T : State) → T.action ≡ S.action → T.kept ≡ S.kept → T.calls ≡ S.calls →
    T.includes ≡ S.includes → IsFresh f begun S → IsFresh f begun T
fresh_on f begun S T action kept calls includes fresh = record {
  actions = λ u un. subst (λ (g : Act → state.Action). IsUntouched (g (f.act u))) (sym action) (fresh.actions u un);
  units = λ n none. (let u = fresh.units n none in record {
    stage = ap (λ (g : Act → state.Action). (g (Root n)).stage) action ∙ u.stage;
    waits = ap (λ (g : Act → state.Action). (g (Root n)).waits) action ∙ u.waits;
    idle = λ a home its. subst (λ (g : Act → state.Action). IsIdle (g a)) (sym action) (u.idle a home its);
    kept = ap (λ (g : ℕ → ℕ). g n) kept ∙ u.kept;
    calls = λ d there. u.calls d (subst (In d) calls there);
    includes = λ k there. u.includes k (subst (In k) includes there);
  });
}

pub fresh_named : (f : Fixed) (begun : List Action) (S T : State) → OnlyNaming S T → IsFresh f begun S → IsFresh f begun T
fresh_named f begun S T only = fresh_on f begun S T (ap (λ (z : State). z.action) only.rest) (ap (λ (z : State). z.kept) only.rest)
    (ap (λ (z : State). z.calls) only.rest) (ap (λ (z : State). z.includes) only.rest)

pub now_named : (S T : State) (n : ℕ) → OnlyNaming S T → S.now ≤ n + 1 → T.now ≤ n + 1
now_named S T n only below = subst (λ (j : ℕ). j ≤ n + 1) (sym (ap (λ (z : State). z.now) only.rest)) below

-- ---- the world but one node

module _ (f : Fixed) (x : ℕ) (begun : List Action) where
  -- all that is seen, but for this node
  pub record SeesOthers (k : ℕ) (S : State) (M : Seen) : Type 0 where
    pub run : Run (start f.first) S
    pub nodes : (j : ℕ) (n : Node) → (j ≡ k → ⊥) → M.nodes j ≡ Some n → SeesMemory (view_of f x begun j) S n.disk n.live
    pub absent : (j : ℕ) → (j ≡ k → ⊥) → M.nodes j ≡ None → (d : Disk) × SeesDown (view_of f x begun j) S d
    pub confirms : (j : ℕ) (n : Node) → (j ≡ k → ⊥) → M.nodes j ≡ Some n → HaveConfirms f x j S M.sent n.disk n.live
    pub posts : (p : Post) → seen.In p M.sent → IsPostSeen f x begun M.sent S p
    pub fresh : IsFresh f begun S
    pub now : S.now ≤ length M.lines + 1

  pub node_here : (k : ℕ) (d : Disk) (live : Option Parts) (M : Seen) →
      (let N = at k d live M in N.nodes k) ≡ Some (record { number = k; disk = d; live = live })
  node_here k d live M = λ i. cond (same_number k i) (Some (record { number = k; disk = d; live = live })) (M.nodes k)

  pub node_there : (k : ℕ) (d : Disk) (live : Option Parts) (M : Seen) (j : ℕ) → (j ≡ k → ⊥) →
      (let N = at k d live M in N.nodes j) ≡ M.nodes j
  node_there k d live M j other = λ i. cond (other_number j k other i) (Some (record { number = k; disk = d; live = live })) (M.nodes j)

  pub others_of : (k : ℕ) (d : Disk) (live : Option Parts) (S : State) (M : Seen) → SeesLocks f x begun S (at k d live M) → SeesOthers k S M
  others_of k d live S M s = record {
    run = s.run;
    nodes = λ j n other is. s.nodes j n (node_there k d live M j other ∙ is);
    absent = λ j other is. s.absent j (node_there k d live M j other ∙ is);
    confirms = λ j n other is. s.confirms j n (node_there k d live M j other ∙ is);
    posts = s.posts;
    fresh = s.fresh;
    now = s.now;
  }

  pub here_of : (k : ℕ) (d : Disk) (live : Option Parts) (S : State) (M : Seen) → SeesLocks f x begun S (at k d live M) →
      SeesMemory (view_of f x begun k) S d live
  here_of k d live S M s = s.nodes k (record { number = k; disk = d; live = live }) (node_here k d live M)

  pub confirms_of : (k : ℕ) (d : Disk) (live : Option Parts) (S : State) (M : Seen) → SeesLocks f x begun S (at k d live M) →
      HaveConfirms f x k S M.sent d live
  confirms_of k d live S M s = s.confirms k (record { number = k; disk = d; live = live }) (node_here k d live M)

  pub with_here : (k : ℕ) (d : Disk) (live : Option Parts) (S : State) (M : Seen) → SeesOthers k S M →
      SeesMemory (view_of f x begun k) S d live → HaveConfirms f x k S M.sent d live → SeesLocks f x begun S (at k d live M)
  with_here k d live S M s here confirms = record {
    run = s.run;
    nodes = λ j n is. ⊎_elim (λ (same : j ≡ k). its j same n is)
        (λ (other : j ≡ k → ⊥). s.nodes j n other (sym (node_there k d live M j other) ∙ is)) (apart j k);
    absent = λ j is. ⊎_elim (λ (same : j ≡ k). absurd (there (sym (node_here k d live M) ∙ ap (λ (i : ℕ). (let N = at k d live M in
        N.nodes i)) (sym same) ∙ is))) (λ (other : j ≡ k → ⊥). s.absent j other (sym (node_there k d live M j other) ∙ is)) (apart j k);
    confirms = λ j n is. ⊎_elim (λ (same : j ≡ k). subst (λ (i : ℕ). HaveConfirms f x i S M.sent n.disk n.live) (sym same)
        (subst (λ (m : Node). HaveConfirms f x k S M.sent m.disk m.live) (node_is j same n is) confirms))
        (λ (other : j ≡ k → ⊥). s.confirms j n other (sym (node_there k d live M j other) ∙ is)) (apart j k);
    posts = s.posts;
    fresh = s.fresh;
    now = s.now;
  }
    where
      apart : (j m : ℕ) → (j ≡ m) ⊎ (j ≡ m → ⊥)
      apart j m = grind arith

      there : ◌≡◌ {A = Option Node} (Some (record { number = k; disk = d; live = live })) None → ⊥
      there is = cc is

      node_is : (j : ℕ) → j ≡ k → (n : Node) → (let N = at k d live M in N.nodes j) ≡ Some n →
          record { number = k; disk = d; live = live } ≡ n
      node_is j same n is =
          let one : ◌≡◌ {A = Option Node} (Some (record { number = k; disk = d; live = live })) (Some n) = sym (node_here k d live M)
          ∙ ap (λ (i : ℕ). (let N = at k d live M in N.nodes i)) (sym same) ∙ is in
          cc one

      its : (j : ℕ) → j ≡ k → (n : Node) → (let N = at k d live M in N.nodes j) ≡ Some n → SeesMemory (view_of f x begun j) S n.disk n.live
      its j same n is = subst (λ (i : ℕ). SeesMemory (view_of f x begun i) S n.disk n.live) (sym same)
          (subst (λ (m : Node). SeesMemory (view_of f x begun k) S m.disk m.live) (node_is j same n is) here)

  pub reached_of : (k : ℕ) (S : State) (M : Seen) → SeesOthers k S M → IsReached S
  reached_of k S M s = (f.first, s.run)

  pub longer : (a b : List Line) → length a ≤ length (a ++ b)
  longer [] b = omega arith
  longer (l ∷ a) b = let h = longer a b in omega (arith, h)

  pub said_others : (k e : ℕ) (bs : List Body) (S : State) (M : Seen) → SeesOthers k S M → SeesOthers k S (said e bs M)
  said_others k e bs S M s = record {
    run = s.run;
    nodes = s.nodes;
    absent = s.absent;
    confirms = s.confirms;
    posts = s.posts;
    fresh = s.fresh;
    now = (let l = longer M.lines (numbered e bs) in let h = s.now in omega (arith, l, h));
  }

  pub posted_others : (k : ℕ) (p : Post) (S : State) (M : Seen) → SeesOthers k S M → IsPostSeen f x begun (p ∷ M.sent) S p →
      SeesOthers k S (posted p M)
  posted_others k p S M s its = record {
    run = s.run;
    nodes = s.nodes;
    absent = s.absent;
    confirms = λ j n other is. confirms_more f x j S M.sent (p ∷ M.sent) (λ r i. inr i) n.disk n.live (s.confirms j n other is);
    posts =
        λ q there. ⊎_elim (λ (same : p ≡ q). subst (IsPostSeen f x begun (p ∷ M.sent) S) same its) (λ (old : seen.In q M.sent). posts_stay f
        x begun begun M.sent (p ∷ M.sent) q S S (λ a c. c) (λ r i. inr i) (reached_of k S M s) machine.stay (s.posts q old)) there;
    fresh = s.fresh;
    now = s.now;
  }

  -- the machine goes along
  pub others_go : (k : ℕ) (S T : State) (M : Seen) → SeesOthers k S M → Run S T → ((k ≡ 1 → ⊥) → NobodyConfirmed S T) →
      ((j : ℕ) (d : Disk) (live : Option Parts) → (j ≡ k → ⊥) → SeesMemory (view_of f x begun j) S d live →
      SeesMemory (view_of f x begun j) T d live) → IsFresh f begun T → T.now ≤ length M.lines + 1 → SeesOthers k T M
  others_go k S T M s run nobody nodes fresh now = record {
    run = go_on s.run run;
    nodes = λ j n other is. nodes j n.disk n.live other (s.nodes j n other is);
    absent = λ j other is. (let a = s.absent j other is in (a.0, nodes j a.0 None other a.1));
    confirms = λ j n other is. confirms_later f x j S T (reached_of k S M s) run (λ one. nobody (λ its. other (one ∙ sym its))) M.sent
        M.sent (λ r i. i) n.disk n.live (s.confirms j n other is);
    posts = λ p there. posts_stay f x begun begun M.sent M.sent p S T (λ a c. c) (λ r i. i) (reached_of k S M s) run (s.posts p there);
    fresh = fresh;
    now = now;
  }
