-- Each handler keeps that decided tops which only include a store knew those that wrote the object before them.
use Rattle.arj_law_parts.proofs.Words
use Words.{◌+◌}
use Words.{world_from}
use Words.{◌≡◌, ◌==◌, ◌∙◌, ℕ, Bool, true, false, cond, List, [], ◌∷◌, Option, Some, None, ap, refl, subst, sym, map, ⊎_elim, AllByRecursion}
use Words.{Header, Label, Uid, object, actor, last_req, Confirming, Used, changed_of, doing_of, objects_in, plan_for, root_at, used_of}
use Words.{Disk, Intent, Parts, uid_number, Input, Node, branch_named, refusal_up, Branch, root_of, Seen, see}
use Words.list
use Words.commit
use Words.input
use Rattle.arj_law_serial.proofs.Terms
use Terms.{disk_by, first_up}
use Terms.{World, Office, Known, Plan, decided, has, some_is, in_decided, up, SeesConfirming, packed, IsTidy, plan_by, used_at, Kinds}
use Terms.{first_at, has_same, used_there, AreOnce, KeepsPart, book, is_decided, IsKept, AreNotLate, IsLate, nothing_more, AreAt}
use Rattle.arj_law_disk_view.proofs.view.{CommitWalks.plan_known, Notes.known_at}
use Rattle.arj_law_disk_view.specs.deciding_lines.Said.{AreSaid}
use Rattle.arj_law_disk_view.specs.view.{Knows.KnowsPlan, Plans.loads, Sees.IsKnownIfThere, Sees.KnowsRoot, Sees.SeesNotes}
use Rattle.arj_law_serial.proofs.joint
use joint.{JoinFresh.not_some, JoinUses.UsesSo, Recording.IsConfirming}
use joint.JoinBeside.{EachCommit, IsHere, Keeping, StepsKeep, WhereCalled, WhereFirst, WhereFound, WhereHeard, WhereNone, WhereWaits}
use joint.JoinBeside.{beside_part}
use joint.JoinNodes.{branch_there, here, machine_there, none_at, sees, uncalled}
use joint.KnowStep.{AllKnow, KeepKnown, LoadedKnown, PlanKnown, WasKnown, known_next}

-- what is kept
abbrev pub Knowing : ℕ → Keeping
Knowing x = record {
  kept = λ tops A M. KeepKnown x tops A M;
  uses = λ tops A M Cand. LoadedKnown x tops A M;
  waits = λ tops A M Cand u. PlanKnown A M u;
}

-- beside what is carried with the machine's state
abbrev pub WithKnown : ℕ → (Kinds → Office → Seen → Type 0) → Kinds → Office → Seen → Type 0
WithKnown x P tops A M = P tops A M × KeepKnown x tops A M

-- what is used of an object is one of all
of_all : (Q : Used → Type 0) (x : ℕ) (us : List Used) (v : Used) → AllByRecursion Q us → used_at x us ≡ Some v → Q v
of_all Q x [] v all is = not_some refl is
of_all Q x (u ∷ us) v all is = by (u.x == x) is (of_all Q x us v all.1)
  where
    by : (b : Bool) → cond b (Some u) (used_at x us) ≡ Some v → (used_at x us ≡ Some v → Q v) → Q v
    by true e ih = subst Q (some_is refl e) all.0
    by false e ih = ih e

module _ (hd : Header) (x : ℕ) (R : World → Seen → Type 0) (P : Kinds → Office → Seen → Type 0) (known : (W : World) (M : Seen) → R W M →
    IsKept M) (early : (W : World) (M : Seen) → R W M → AreNotLate W M)
    (once : (tops : Kinds) (A : Office) (M : Seen) → P tops A M → AreOnce (let W = A.world in W.disk.tops))
    (said : (tops : Kinds) (A : Office) (M : Seen) → P tops A M → AreSaid A.world M) (parts : KeepsPart hd x R P) where
  -- ---- a commit is called

  module _ (k : ℕ) (d : Disk) (t : Parts) (M : Seen) (tops : Kinds) (A : Office) (h : IsHere hd x R P (Knowing x) k d t M tops A) where
    kept : IsKept (up k d t M)
    kept = known A.world (up k d t M) h.run

    -- each decided top has its line
    has_line : (w : Uid) (n : Node) → (up k d t M).nodes w.node ≡ Some n → decided A.world.disk (uid_number w) ≡ true →
        is_decided (book M.lines) w ≡ true
    has_line w n there on = ⊎_elim (λ is. is) (λ (late : IsLate w n). early A.world (up k d t M) h.run w n there late.down on)
        (said tops A (up k d t M) h.part w n there on)

    called : (i : Input) → refusal_up hd i t.coord ≡ None → (l : Label) (b : Branch) → i ≡ input.Commit l → branch_named l t.coord ≡ Some b
        → LoadedKnown x tops A (up k d t M) (actor b.path)
        (let p = plan_for b.path (last_req (doing_of (actor b.path) t.coord)) (root_at (root_of b.path) t.coord) t.coord in p.used)
    called i free l b same named top v st is loaded = record {
      since = [];
      before = A.world.disk.tops;
      are = refl;
      known = was_known;
      said = λ e j w n there number. (
        M.lines,
        [],
        nothing_more M.lines,
        has_line w n there (ap (decided A.world.disk) number ∙ in_decided A.world.disk.tops e j),
        uncalled x k d t M tops A h.knows h.both kept hd i free l b same named,
      );
    }
      where
        u : Uid
        u = actor b.path

        p : commit.Plan
        p = plan_for b.path (last_req (doing_of u t.coord)) (root_at (root_of b.path) t.coord) t.coord

        plan : KnowsPlan u p
        plan = let c = h.knows.coord in
            c.starts u b (last_req (doing_of u t.coord)) (branch_there x k d t M tops A h.knows h.both kept l b named) top

        notes : SeesNotes x d.intents t.coord A.world
        notes = let s = h.both.disks in
            s.notes k (record { number = k; disk = d; live = Some t }) t (here x k d t M tops A h.knows h.both kept) refl

        its_root : KnowsRoot x A.world (root_at (root_of b.path) t.coord)
        its_root = known_at x A.world (root_of b.path) t.coord notes.roots

        each : AllByRecursion (λ (w : Used). IsKnownIfThere x A.world w.loaded)
            (map (used_of u (root_at (root_of b.path) t.coord) t.coord) (objects_in u (root_at (root_of b.path) t.coord) t.coord))
        each = plan_known x A.world u (root_at (root_of b.path) t.coord) t.coord (objects_in u (root_at (root_of b.path) t.coord) t.coord)
            its_root

        of_object : st.uid ≡ object x
        of_object =
            let tidy : IsTidy p = plan.tidy in
            let at = used_there x p.used v is in
            tidy.of v st at.0 loaded ∙ ap object at.1

        was_known : Known A.world.disk (packed st)
        was_known =
            subst (IsKnownIfThere x A.world) loaded (of_all (λ (w : Used). IsKnownIfThere x A.world w.loaded) x p.used v each is) of_object

    -- one that waits for naming is in the machine with what it loaded
    waits : EachCommit (LoadedKnown x tops A (up k d t M)) (up k d t M) → (u : Uid) → IsConfirming t.coord u → PlanKnown A (up k d t M) u
    waits each u c = (
      s.begun,
      subst (λ (p : Plan). (n : ℕ) → has n p.joins ≡ true →
          WasKnown A (up k d t M) u p.loaded) (sym s.plan) (by (used_at x (let p = c.plan in p.used)) refl),
    )
      where
        s : SeesConfirming x A.world.disk (uid_number u) c.plan
        s = sees x k d t M tops A h.knows h.both kept u c

        by : (o : Option Used) → used_at x (let p = c.plan in p.used) ≡ o → (n : ℕ) → has n (let p = plan_by o (changed_of x c.plan) in
            p.joins) ≡ true → WasKnown A (up k d t M) u (let p = plan_by o (changed_of x c.plan) in p.loaded)
        by None is n on = absurd (cc on)
        by (Some v) is n on =
            let tidy : IsTidy c.plan = s.tidy in
            let l = tidy.loaded v n (used_there x (let p = c.plan in p.used) v is).0 (sym (has_same n v.joins) ∙ on) in
            let m = machine_there x k d t M tops A h.knows h.both kept u c in
            subst (λ o. WasKnown A (up k d t M) u (loads o)) (sym l.1) (each k (record { number = k; disk = d; live = Some t }) t
            (here x k d t M tops A h.knows h.both kept) refl u c.doing (Confirming c.plan) c.works c.now m.top v l.0 is l.1)

  -- ---- each handler

  where_none : WhereNone hd x R P (Knowing x)
  where_none tops A M both part run before = before.works

  where_heard : WhereHeard hd x R P (Knowing x)
  where_heard k d t M tops A h = let b = h.before in b.works

  where_found : WhereFound hd x R P (Knowing x)
  where_found k d M tops A both part r before = before.works

  where_called : WhereCalled hd x R P (Knowing x)
  where_called k d t M tops A h = called k d t M tops A h

  where_waits : WhereWaits hd x R P (Knowing x)
  where_waits k d t M tops A h Cand each u c = waits k d t M tops A h each u c

  steps_keep : StepsKeep hd x R P (Knowing x)
  steps_keep tops D C Cand A M both part run goes before waiting B into Z seen p step ups recs =
      known_next x tops D C Cand A M both goes before waiting B into Z seen (once tops B Z p) step ups recs

  where_first : WhereFirst hd x R P (Knowing x)
  where_first st formed tops A both empty = record {
    works = λ j n t at_node live.
        subst (λ (z : Parts). AreAt (UsesSo (LoadedKnown x tops A (see [] (world_from hd st)))) z.coord) (first_up hd st j n t at_node live)
        (none_at (UsesSo (LoadedKnown x tops A (see [] (world_from hd st)))) j (st.incs j + 1) (disk_by hd st j));
    records = λ u r. absurd (subst (λ (n : Node). list.In {X = Uid × Intent} (u, r.intent) (let c = n.disk in c.intents))
        (sym (first_at hd st r.place r.node r.here)) r.there);
    know = subst (AllKnow (see [] (world_from hd st))) (sym empty) tt;
  }

  pub known_part : KeepsPart hd x R (WithKnown x P)
  known_part =
      beside_part hd x R P (Knowing x) known parts where_none where_heard where_found where_called where_waits steps_keep where_first
