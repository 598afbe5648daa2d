-- A prepare step that begins, walked through at the coordinator.
use Rattle.arj_law_parts.proofs.Words
use Words.{◌≡◌, ℕ, List, [], ◌∷◌, true, false, Option, Some, None, refl, sym, ◌∙◌, ap, subst, inl, inr, AllByRecursion, Uid, Kind}
use Words.{first_uid, uids_of, object, step_commit, Used, begin_prepare, begin_confirm, changed_of, further, targets_of, Voting, Preparing}
use Words.{Confirming, Doing, Now, Idle, Calling, Committing, doing_of, Disk, Parts, uid_number, Branch, branch_of, root_of}
use Words.{Seen, is_constituent}
use Words.kind
use Words.commit
use Rattle.arj_law_disk_view.proofs.Terms
use Terms.{World, CanBegin, run, State, Known, is_gone, has, never, up, SeesPreparing, SeesConfirming, TopGoes, IsUnanswered, DidIsWalked}
use Terms.{IsBefore, UsesNothing, KnowsCoord, KnowsPlan, IsOfKind, Uses, loads, plan_at, plan_by, used_at, may_note, Kinds, SeesDisks}
use Terms.{SeesCoord, IsKnownIfThere, KnowsNow, Works, WorksBy, Begins}
use Terms.disk
use Rattle.arj_law_disk_view.proofs.view
use view.{Frames.node_here, Planned.has_same, Planned.used_there, UnusedWalks.unused_are_decided}
use view.AskingSteps.{prepares_begin, prepares_end}
use view.HeardWalks.{top_asks, top_both, prepares_are_asked}
use Rattle.arj_law_disk_view.specs.view.Sees.{MayPrepare}

-- who hasn't begun its prepare step is idle
pub before_idle : (x : ℕ) (tops : Kinds) (S : State) (t : ℕ) (kd : Kind) (now : Now) → IsBefore now → tops.is_top t ≡ true →
    Works x tops S t kd now → S.stage t ≡ disk.Idle
before_idle x tops S t kd now before top w = by_kind kd w
  where
    by_now : (now : Now) → IsBefore now → WorksBy x S t now → S.stage t ≡ disk.Idle
    by_now Idle before w = w
    by_now (Calling s) before w = absurd before
    by_now (Committing (Voting p left)) before w = w
    by_now (Committing (Preparing p left)) before w = absurd before
    by_now (Committing (Confirming p)) before w = absurd before

    by_kind : (kd : Kind) → Works x tops S t kd now → S.stage t ≡ disk.Idle
    by_kind kind.Nested w = absurd (never top w)
    by_kind kind.Serial w = absurd (never top w.0)
    by_kind kind.Top w = by_now now before w.1
    by_kind kind.Independent w = by_now now before w.1
    by_kind kind.Constituent w = by_now now before w.1

used_all : (Q : Used → Type 0) (us : List Used) (u : Used) → AllByRecursion Q us → Uses u us → Q u
used_all Q [] u all uses = absurd uses
used_all Q (v ∷ vs) u all (inl same) = subst Q same all.0
used_all Q (v ∷ vs) u all (inr more) = used_all Q vs u all.1 more

module _ (x : ℕ) (tops : Kinds) (e k : ℕ) (d : Disk) (t : Parts) (act : Uid) (b : Branch) (q : Doing) (p : commit.Plan) (M : Seen)
    (knows : KnowsCoord tops d.intents t.coord) (found : branch_of act t.coord.tree ≡ Some b) (unended : b.ended ≡ None)
    (at_work : doing_of act t.coord ≡ Some q) (before : IsBefore q.now) (top : tops.is_top (uid_number act) ≡ true)
    (note : may_note tops.walk (Begins (uid_number act)) ≡ true) (plan : KnowsPlan act p) (unanswered : IsUnanswered p)
    (unused : p.used ≡ [] → UsesNothing p)
    (W : World) (sees : SeesDisks x tops W (up k d t M)) (known : KnowsNow x W (Committing (Voting p []))) where
  mine : SeesCoord x k d.inc tops t.coord W.disk
  mine =
      sees.coords k (record { number = k; disk = d; live = Some t }) t (node_here M k (record { number = k; disk = d; live = Some t })) refl

  idle : W.disk.stage (uid_number act) ≡ disk.Idle
  idle = before_idle x tops W.disk (uid_number act) b.kind q.now before top (mine.working act b q found unended at_work)

  plain : W.disk.serial (uid_number act) ≡ false
  plain = ap (λ f. f (uid_number act)) sees.fixed.serial ∙ by b.kind (knows.kind act b found)
    where
      by : (kd : Kind) → IsOfKind tops act kd b.path → tops.is_serial (uid_number act) ≡ false
      by kind.Nested of = absurd (never top of.0)
      by kind.Serial of = absurd (never top of.0)
      by kind.Top of = of.1
      by kind.Independent of = of.1
      by kind.Constituent of = of.1

  -- its root is there
  root_there : is_gone (W.disk.stage (W.disk.root (uid_number act))) ≡ false
  root_there = ap (λ n. is_gone (W.disk.stage n)) (ap (λ f. f (uid_number act)) sees.fixed.root ∙ knows.root act b found top)
      ∙ by b.kind refl (knows.kind act b found)
    where
      own : uids_of b.path ≡ act ∷ [] → is_gone (W.disk.stage (uid_number (root_of b.path))) ≡ false
      own is = ap (λ us. is_gone (W.disk.stage (uid_number (first_uid us)))) is ∙ ap is_gone idle

      by : (kd : Kind) → b.kind ≡ kd → IsOfKind tops act kd b.path → is_gone (W.disk.stage (uid_number (root_of b.path))) ≡ false
      by kind.Nested is of = absurd (never top of.0)
      by kind.Serial is of = absurd (never top of.0)
      by kind.Top is of = own of.2
      by kind.Independent is of = own of.2
      by kind.Constituent is of =
          let r = knows.above act b found unended (ap is_constituent is) in
          let w = knows.at_work (root_of b.path) r.branch r.found in
          let z : Works x tops W.disk (uid_number (root_of b.path)) kind.Serial (let a = w.0 in
          a.now) = subst (λ kd. Works x tops W.disk (uid_number (root_of b.path)) kd (let a = w.0 in a.now)) r.serial
          (mine.working (root_of b.path) r.branch w.0 r.found r.unended w.1) in
          ap is_gone z.1

  -- what it loaded was the last state once
  can : CanBegin W.disk (uid_number act) (plan_at x p)
  can = record { idle = idle; root = root_there; loaded = λ s on. by (used_at x p.used) refl s on }
    where
      by : (o : Option Used) → used_at x p.used ≡ o → (s : ℕ) → (let g = plan_by o (changed_of x p) in has s g.joins) ≡ true →
          Known W.disk (let g = plan_by o (changed_of x p) in g.loaded)
      by None is s on = absurd (cc on)
      by (Some u) is s on =
          let there = used_there x p.used u is in
          let one = plan.tidy.loaded u s there.0 (sym (has_same s u.joins) ∙ on) in
          let known_one : IsKnownIfThere x W (Some one.0) = subst (λ o. IsKnownIfThere x W o) one.1
          (used_all (λ (v : Used). IsKnownIfThere x W v.loaded) p.used u known there.0) in
          subst (λ o. Known W.disk (loads o)) (sym one.1) (known_one (plan.tidy.of u one.0 there.0 one.1 ∙ ap object there.1))

  may : MayPrepare x k tops W t act p
  may = record {
    branch = b;
    found = found;
    unended = unended;
    doing = q;
    at_work = at_work;
    path = plan.actor_is;
    top = top;
    plain = plain;
    can = can;
    tidy = plan.tidy;
    unanswered = unanswered;
  }

  by_used : targets_of p ≡ [] → (us : List Used) → p.used ≡ us →
      DidIsWalked x tops e k d t (step_commit act (begin_confirm us p) d.intents t.coord) M
  by_used none [] is = unused_are_decided x tops e k d t act b p M knows found unended top plan.actor_is (unused is) W sees
  by_used none (u ∷ us) is = top_asks x tops e k d t act b q d.intents M found unended at_work top note W plain sees (further (1 ∷ []) p)
      plan.top_is plan.actor_is confirming []
    where
      begun : TopGoes (uid_number act) (λ S. SeesPreparing x S (uid_number act) (further (1 ∷ []) p) []) W
      begun = subst (λ ts. TopGoes (uid_number act) (λ S. SeesPreparing x S (uid_number act) (further (1 ∷ []) p) ts) W) none
          (prepares_begin x W (uid_number act) p (1 ∷ []) sees.whole.core.fresh can plan.tidy unanswered)

      confirming : TopGoes (uid_number act) (λ S. SeesConfirming x S (uid_number act) (further (1 ∷ []) p)) W
      confirming = top_both (uid_number act) (λ S. SeesPreparing x S (uid_number act) (further (1 ∷ []) p) [])
          (λ S. SeesConfirming x S (uid_number act) (further (1 ∷ []) p)) W begun
          (prepares_end x (run W begun.effects) (uid_number act) (further (1 ∷ []) p) begun.there)

  by_targets : (ts : List ℕ) → targets_of p ≡ ts → DidIsWalked x tops e k d t (step_commit act (begin_prepare ts p) d.intents t.coord) M
  by_targets [] is = by_used is p.used refl
  by_targets (s ∷ ss) is = subst (λ ts. DidIsWalked x tops e k d t (step_commit act (begin_prepare ts p) d.intents t.coord) M) is
      (prepares_are_asked x tops e k d t act p s ss d.intents M W is may note sees)

  pub begin_walks : DidIsWalked x tops e k d t (step_commit act (begin_prepare (targets_of p) p) d.intents t.coord) M
  begin_walks = by_targets (targets_of p) refl
