-- What a commit sends is neither a Bind nor an answer, and it leaves no call but those that were.
use Rattle.arj_law_parts.proofs.Words
use Words.{◌≡◌, ◌+◌, ◌++◌, ℕ, Bool, true, false, cond, List, [], ◌∷◌, refl, sym, subst, arith, ⊤, AllByRecursion, Option, Some, None, inl}
use Words.{inr, map}
use Words.{Ask, Binding, Body, End, Head, Message, Uid, request, actor, answers, mark_lines, moved_commit, step_commit, asks_machine}
use Words.{commits_in, Goal}
use Words.{Aborts, Asks, Decides, Machine, Marked, Plan, Stays, plan_of, Coord, Doing, doing_of, root_at, Disk, Do, Effect, Intent, Send}
use Words.{decide, ended}
use Words.{Here, Parts, most_rounds, ran, whole, has, root_of}
use Words.list as members
use Words.ask
use Words.body
use Words.commit
use Words.ending
use Rattle.arj_law_runs.proofs.bindings.Weights.{bind_ask, binds, every_both, every_flat, every_map}
use Rattle.arj_law_runs.proofs.resting.Effects.{ran_here}
use Rattle.arj_law_cause.proofs.quiesces.Chain
use Chain.{CoordFine, EndFine, OutsFine, commit_fine, ended_fine, no_bound, other_fine, queue_sent, rounds_fine, said_back}

abbrev IsCalm : Effect → Type 0
IsCalm (Send to m) = (binds m ≡ 0) × (no_bound (answers m) ≡ true)
IsCalm e = ⊤

abbrev pub AreCalm : List Effect → Type 0
AreCalm es = AllByRecursion IsCalm es

calm_both : (es fs : List Effect) → AreCalm es → AreCalm fs → AreCalm (es ++ fs)
calm_both es fs a b = every_both IsCalm es fs a b

calm_says : (u : Uid) (f : Words.Label → Body) (c : Coord) → AreCalm (Words.says u f c)
calm_says u f c = by (doing_of u c)
  where
    by : (o : Option Doing) → AreCalm (Words.say_for f o)
    by None = tt
    by (Some d) = (tt, tt)

calm_tells : (root : Uid) (ack : Bool) (ends : List (Uid × End)) (nodes : List ℕ) → AreCalm (Words.tell_all root ack ends nodes)
calm_tells root ack ends nodes = every_map IsCalm (Words.tell root ack ends) nodes (λ n. (refl, refl))

calm_ends : (u : Uid) (e : End) (f : Words.Label → Body) (intents : List (Uid × Intent)) (c : Coord) →
    AreCalm (Words.ends_with u e f intents c).outs
calm_ends u e f intents c = calm_both (Words.says u f c) (Words.tolds_of intents (ended u e c) u) (calm_says u f c) (by
    (Words.branch_of u (let t = ended u e c in t.tree)))
  where
    kinds : (k : Words.Kind) (p : Words.Path) → AreCalm (Words.tolds_by u k p intents (ended u e c))
    kinds Words.kind.Nested p = calm_tells _ _ _ _
    kinds Words.kind.Serial p = calm_tells _ _ _ _
    kinds Words.kind.Top p = calm_tells _ _ _ _
    kinds Words.kind.Independent p = calm_tells _ _ _ _
    kinds Words.kind.Constituent p = calm_tells _ _ _ _

    by : (o : Option Words.Branch) → AreCalm (Words.tolds_of_branch u intents (ended u e c) o)
    by None = tt
    by (Some b) = kinds b.kind b.path

pub calm_ask : (h : Head) (a : Ask) → bind_ask a ≡ 0 → (binds (request h a) ≡ 0) × (no_bound (answers (request h a)) ≡ true)
calm_ask h (ask.Bind y include avoid) none = let no_way : 1 ≡ 0 = none in absurd (omega (arith, no_way))
calm_ask h (ask.Load y) none = (refl, refl)
calm_ask h (ask.Activate b st) none = (refl, refl)
calm_ask h (ask.Record y b i k) none = (refl, refl)
calm_ask h (ask.Invoke y b i ends o) none = (refl, refl)
calm_ask h (ask.Vote i ties ends) none = (refl, refl)
calm_ask h (ask.Prepare states) none = (refl, refl)
calm_ask h (ask.Confirm grants excluded included) none = (refl, refl)

calm_machine : (m : Machine) (c : Coord) → AreCalm (asks_machine m c).outs
calm_machine m c = each (Words.left_of m) c
  where
    no_bind : (k : Machine) (n : ℕ) → bind_ask (Words.ask_of k n) ≡ 0
    no_bind (Words.Voting p left) n = refl
    no_bind (Words.Preparing p left) n = refl
    no_bind (Words.Confirming p) n = refl

    each : (ns : List ℕ) (e : Coord) →
        AreCalm (Words.asks_all (plan_of m).path (plan_of m).req (map {A = ℕ} {B = ℕ × Ask} (λ j. (j, Words.ask_of m j)) ns) e).outs
    each [] e = tt
    each (n ∷ ns) e = (
      calm_ask (record { path = (plan_of m).path; req = (plan_of m).req }) (Words.ask_of m n) (no_bind m n),
      each ns (Words.asks_node (plan_of m).path (plan_of m).req (n, Words.ask_of m n) e).part,
    )

calm_decide : (p : Plan) (c : Coord) → AreCalm (decide p c).outs
calm_decide p c = calm_both (Words.record_work (actor p.path) p ++ Words.says (actor p.path) body.Committed c)
    (map (Words.decided_told (root_of p.path) (actor p.path) p) p.sent)
    (calm_both (Words.record_work (actor p.path) p) (Words.says (actor p.path) body.Committed c) (work (commit.has_record p)) (calm_says
    (actor p.path) body.Committed c))
    (every_map IsCalm (Words.decided_told (root_of p.path) (actor p.path) p) p.sent (λ n. told (has (commit.participants p) n) n))
  where
    work : (b : Bool) → AreCalm (cond b (Do (Words.PutIntent (actor p.path)
        (record { root = root_of p.path; nodes = commit.participants p })) ∷ []) [])
    work true = (tt, tt)
    work false = tt

    told : (b : Bool) (n : ℕ) → IsCalm (cond b (Words.tell (root_of p.path) (commit.has_record p) ((actor p.path, ending.Commit) ∷ []) n)
        (Words.tell (root_of p.path) false ((actor p.path, ending.Abort) ∷ []) n))
    told true n = (refl, refl)
    told false n = (refl, refl)

calm_moved : (u : Uid) (m : Marked) (intents : List (Uid × Intent)) (c : Coord) → AreCalm (moved_commit u m intents c).outs
calm_moved u m intents c = calm_both (mark_lines u m.marks c) (step_commit u m.step intents c).outs
    (every_flat IsCalm (λ (k : ℕ × ℕ). Words.says u (λ l. body.Excluded l k.0 k.1) c) m.marks (λ k. calm_says u
    (λ l. body.Excluded l k.0 k.1) c)) (by m.step)
  where
    by : (n : Words.CommitStep) → AreCalm (step_commit u n intents c).outs
    by (Stays k) = tt
    by (Asks k) = calm_machine k (commits_in u k c)
    by (Decides p) = calm_decide p c
    by (Aborts why p) = calm_ends u ending.Abort (λ l. body.Aborted l why) intents c

-- a commit by its action's kind
module _ (br : Words.Branch) (intents : List (Uid × Intent)) (c : Coord) where
  abbrev started : Marked
  started = commit.start (Words.plan_for br.path (Words.last_req (doing_of (actor br.path) c)) (root_at (root_of br.path) c) c)

  calm_top : AreCalm (Words.commit_top br.path intents c).outs
  calm_top = calm_both (Words.says (actor br.path) body.Committing c) (moved_commit (actor br.path) started intents c).outs
      (calm_says (actor br.path) body.Committing c) (calm_moved (actor br.path) started intents c)

  pub calm_commit : AreCalm (Words.commit_action br intents c).outs
  calm_commit = by br.doomed br.kind
    where
      open_one : (k : Words.Kind) → AreCalm (Words.commit_open br intents c k).outs
      open_one Words.kind.Nested = calm_ends (actor br.path) ending.Commit body.Committed intents c
      open_one Words.kind.Serial = calm_ends (actor br.path) ending.Commit body.Ended intents c
      open_one Words.kind.Top = calm_top
      open_one Words.kind.Constituent = calm_top
      open_one Words.kind.Independent = calm_top

      by : (b : Bool) (k : Words.Kind) → AreCalm (cond b (Words.aborts_with (actor br.path) Words.cause.Doomed intents c)
          (Words.commit_open br intents c k)).outs
      by true k = calm_ends (actor br.path) ending.Abort (λ l. body.Aborted l Words.cause.Doomed) intents c
      by false k = open_one k

  -- and leaves no call but those that were
  pub commit_leaves : (W : Uid → Type 0) (x : ℕ) (g : Goal) (G : Binding → Type 0) → CoordFine W x g G c →
      CoordFine W x g G (Words.commit_action br intents c).part
  commit_leaves W x g G all = by br.doomed br.kind
    where
      open_one : (k : Words.Kind) → CoordFine W x g G (Words.commit_open br intents c k).part
      open_one Words.kind.Nested = ended_fine W x g G (actor br.path) ending.Commit c all
      open_one Words.kind.Serial = ended_fine W x g G (actor br.path) ending.Commit c all
      open_one Words.kind.Top = commit_fine W x g G (actor br.path) started intents c all
      open_one Words.kind.Constituent = commit_fine W x g G (actor br.path) started intents c all
      open_one Words.kind.Independent = commit_fine W x g G (actor br.path) started intents c all

      by : (b : Bool) (k : Words.Kind) →
          CoordFine W x g G (cond b (Words.aborts_with (actor br.path) Words.cause.Doomed intents c)
          (Words.commit_open br intents c k)).part
      by true k = ended_fine W x g G (actor br.path) ending.Abort c all
      by false k = open_one k

-- a whole step of what sends neither
module _ (W : Uid → Type 0) (x : ℕ) (g : Goal) (G : Binding → Type 0) (n : ℕ) (S : Binding → ℕ → Type 0) where
  pub whole_calm : (t : Parts) (outs : List Effect) (d : Disk) → CoordFine W x g G t.coord → AreCalm outs → OutsFine W x g G n S outs →
      EndFine W x g G n S (whole n t outs d)
  whole_calm t outs d fine calm said = rounds_fine W x g G n S most_rounds (ran n t outs d)
      (subst (λ (h : Here). CoordFine W x g G (let p = h.parts in p.coord)) (sym (ran_here n t outs d)) fine)
      (λ m i. let c = sent outs m calm (queue_sent W x g G n t outs d m i) in (c.0, other_fine W x g G (answers m) c.1))
      (λ b s i. said b s (said_back W x g G n t outs d (body.Bound x b s) i))
    where
      sent : (es : List Effect) (m : Message) → AreCalm es → members.In (Send n m) es → (binds m ≡ 0) × (no_bound (answers m) ≡ true)
      sent [] m all i = absurd i
      sent (e ∷ es) m all (inl is) = subst IsCalm is all.0
      sent (e ∷ es) m all (inr i) = sent es m all.1 i
