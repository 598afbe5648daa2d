-- Commits of a node along a step: what they use stays, those that wait for naming are seen so, and one that is called anew wasn't called
-- before.
use Rattle.arj_law_parts.proofs.Words
use Words.{◌≡◌, ◌≢◌, ◌==◌, ◌∙◌, ◌&&◌, ◌||◌, not, ℕ, zero, suc, Bool, true, false, List, [], ◌∷◌, Option, Some, None, is_some, ap, cond}
use Words.{eqb-true, inl, inr, refl, subst, sym, ⊎_elim, is_on, Header, Kind, Label, Message, Uid, actor, last_req, Confirming, Machine}
use Words.{Used, Calling, Committing, Coord, Doing, Idle, Now, doing_of, plan_for, root_at, Disk, Effect, Intent, Parts, Took, handle}
use Words.{uid_number, Input, acts, branch_named, commit_reasons, is_committing_now, parts_in, refusal_up, refused_by, waits_above}
use Words.{waits_below, Branch, at_place, branch_of, is_own, root_of, Seen}
use Words.list
use Words.input
use Rattle.arj_law_serial.proofs.Terms
use Terms.{AreBegun, paths_of, IsGoodCoord, begun_tree, path_found, named_found, off, in_at, Core, World, only_decides, Office, decided}
use Terms.{is_gone, is_open, undecided, falls_to, never, or_cases, or_right, down, up, SeesConfirming, KnowsNode, SeesRecords, nodes_of}
use Terms.{KnowsMachine, Along, Kinds, SeesCoord, confirming_of, node_here, SeesBoth, Answering, Change, Changes, Deciding, Quietly}
use Terms.{are_recorded, IsGood, IsMemory, book, IsKept, KnowsUp, AreAt}
use Rattle.arj_law_disk.specs.machine.State.{State}
use Rattle.arj_law_disk_view.proofs.{names.Onward.none_confirmed, running.Grows.effects_grow}
use Rattle.arj_law_lock_view.proofs.facts.CommitCoords.{at_acked, at_heard}
use Rattle.arj_law_serial.proofs.joint
use joint.{Comes.came_acts, Comes.waits_not, JoinFresh.not_some, JoinStep.IsGrown, Recording.IsConfirming}
use joint.JoinUses.{UsesSo, answered_uses, given_uses, start_uses}
use Rattle.arj_law_serial.proofs.whole.CoordCases.{CoordCase, coord_case}
use Rattle.arj_law_serial.proofs.whole.CoordCases as cases

-- ---- what a coordinator does

-- what holds of each commit by what it uses is kept by a message, where nothing but that counts
module _ (Q : Uid → List Used → Type 0) where
  pub message_uses : (k : ℕ) (d : Disk) (t v : Parts) (from : ℕ) (m : Message) (outs : List Effect) → handle k d t from m ≡ Took v outs →
      AreAt (UsesSo Q) t.coord → AreAt (UsesSo Q) v.coord
  message_uses k d t v from m outs is own = by (coord_case k d t v from m outs is)
    where
      by : CoordCase d t from m v outs → AreAt (UsesSo Q) v.coord
      by (cases.OfParts mine same plain sent_to) = subst (AreAt (UsesSo Q)) (sym same) own
      by (cases.Asks u query same outs_are) = subst (AreAt (UsesSo Q)) (sym same) own
      by (cases.Heard a r some same outs_are) = subst (AreAt (UsesSo Q)) same
          (at_heard (UsesSo Q) t.coord own from a r d.intents (λ q n found is waits its. answered_uses Q a.act from n r its))
      by (cases.Acks u which same outs_are) = subst (AreAt (UsesSo Q)) same (at_acked (UsesSo Q) t.coord own from u d.intents)

  -- and by an input about an action, where it holds of a commit that is called
  pub acts_use : (c : Coord) (i : Input) (intents : List (Uid × Intent)) →
      ((l : Label) (how : Kind) (parent : Option Label) → i ≢ input.Begin l how parent)
      → ((l : Label) (b : Branch) → i ≡ input.Commit l → branch_named l c ≡ Some b →
      Q (actor b.path) (let p = plan_for b.path (last_req (doing_of (actor b.path) c)) (root_at (root_of b.path) c) c in p.used)) →
      AreAt (UsesSo Q) c → AreAt (UsesSo Q) (let did = acts i intents c in did.part)
  acts_use c i intents other starts own u q m found now = ⊎_elim (λ old. own u old.0 m old.1 old.2) (λ new. new)
      (came_acts (UsesSo Q) c i intents other (λ l b d n same named at is. given_uses Q (actor b.path) n (own (actor b.path) d n at is))
      (λ l b same named. let p = plan_for b.path (last_req (doing_of (actor b.path) c)) (root_at (root_of b.path) c) c in
      start_uses Q (actor b.path) p (starts l b same named)) u m (q, found, now))

-- ---- a node

module _ (x k : ℕ) (d : Disk) (t : Parts) (M : Seen) (tops : Kinds) (A : Office) (knows : KnowsNode tops k d t M)
    (both : SeesBoth x tops A (up k d t M)) (kept : IsKept (up k d t M)) where
  abbrev S : State
  S = A.world.disk

  pub here : (up k d t M).nodes k ≡ Some (record { number = k; disk = d; live = Some t })
  here = node_here M k (record { number = k; disk = d; live = Some t })

  core : Core S
  core = (let n = both.named in let w = n.whole in w.core)

  pub coord_seen : SeesCoord x k d.inc tops t.coord S
  coord_seen = let s = both.disks in s.coords k (record { number = k; disk = d; live = Some t }) t here refl

  good : IsGood (up k d t M)
  good = kept.0

  begun_acts : AreBegun good.0
  begun_acts = let g = good.1 in g.begun

  memory : IsMemory good.0 M.sent M.labels k d.inc (Some t)
  memory = let g = good.1 in let p = g.places k (record { number = k; disk = d; live = Some t }) here in p.memory

  coord : IsGoodCoord good.0 (paths_of good.0) t.coord
  coord = let g = memory.good (paths_of good.0) (begun_tree good.0 begun_acts) (path_found good.0 begun_acts) in g.coord

  -- a label names its branch
  pub branch_there : (l : Label) (b : Branch) → branch_named l t.coord ≡ Some b → branch_of (actor b.path) t.coord.tree ≡ Some b
  branch_there l b named = named_found good.0 (paths_of good.0) (begun_tree good.0 begun_acts) d.intents t.coord coord l b named

  -- a commit that is called anew wasn't called
  pub uncalled : (hd : Header) (i : Input) → refusal_up hd i t.coord ≡ None → (l : Label) (b : Branch) → i ≡ input.Commit l →
      branch_named l t.coord ≡ Some b → is_on (book M.lines).called (actor b.path) ≡ false
  uncalled hd i free l b same named = up_there.calls (actor b.path) b work.0 found work.1 unended ∙ by work.0.now refl
    where
      free_it : refused_by commit_reasons t.coord (Some b) ≡ None
      free_it = ap (refused_by commit_reasons t.coord) (sym named) ∙ sym (ap (λ z. refusal_up hd z t.coord) same) ∙ free

      found : branch_of (actor b.path) t.coord.tree ≡ Some b
      found = branch_there l b named

      work : (q : Doing) × (doing_of (actor b.path) t.coord ≡ Some q)
      work = let n = knows.coord in n.at_work (actor b.path) b found

      unended : b.ended ≡ None
      unended = none b.ended (off (commit_reasons b t.coord) free_it).0
        where
          none : {X : Type 0} (o : Option X) → is_some o ≡ false → o ≡ None
          none None is = refl
          none (Some y) is = absurd (cc is)

      up_there : KnowsUp (book M.lines) d.intents t.coord
      up_there = let w = kept.1 in let n = w.nodes k (record { number = k; disk = d; live = Some t }) here in n.live t refl

      first : (y z w : Bool) → (y || z || w) ≡ false → y ≡ false
      first true z w q = absurd (cc q)
      first false z w q = refl

      by : (n : Now) → work.0.now ≡ n → is_committing_now work.0.now ≡ false
      by Idle is = ap is_committing_now is
      by (Calling s) is = ap is_committing_now is
      by (Committing m) is = absurd (waits_not t.coord b (first (waits_above b t.coord) (waits_below b t.coord)
          (input.sibling_waits b t.coord) (off ((7, waits_above b t.coord || waits_below b t.coord || input.sibling_waits b t.coord)
          ∷ (9, _) ∷ []) (off (commit_reasons b t.coord) free_it).1).0) (work.0, m, work.1, is))

  -- a commit that waits for naming
  module _ (w : Uid) (c : IsConfirming t.coord w) where
    pub machine_there : KnowsMachine tops t.coord w (Confirming c.plan)
    machine_there = let z = knows.coord in z.machines w c.doing (Confirming c.plan) c.works c.now

    pub sees : SeesConfirming x S (uid_number w) c.plan
    sees = let n = machine_there in confirming_of x tops S (uid_number w) (let b = n.branch in
        b.kind) c.doing.now c.plan n.top c.now (coord_seen.working w n.branch c.doing n.found n.unended c.works)

    pub opened : undecided S (uid_number w) ≡ true
    opened i = not (undone i) && (ap is_open sees.stage i || is_some (S.intent (uid_number w)))
      where
        undone : decided S (uid_number w) ≡ false
        undone = falls_to (decided S (uid_number w))
            (λ on. never (let k = core.coordinators in k.decided_closed (uid_number w) on) (ap is_gone sees.stage))

-- ---- how the machine has grown

-- a node that has just begun has nothing at work
pub none_at : (Q : Uid → Machine → Type 0) (k inc : ℕ) (d : Disk) → AreAt Q (let p = parts_in k inc d in p.coord)
none_at Q k inc d u q m found now = absurd (by (is_own u (let p = parts_in k inc d in let c = p.coord in c.tree)) u.num found)
  where
    by : (y : Bool) (j : ℕ) → cond y (at_place j []) None ≡ Some q → ⊥
    by true zero e = not_some refl e
    by true (suc j) e = not_some refl e
    by false j e = not_some refl e

-- a record, by its number
pub recorded_in : (intents : List (Uid × Intent)) (z : ℕ) → are_recorded intents z ≡ true →
    (w : Uid) × (i : Intent) × list.In {X = Uid × Intent} (w, i) intents × (uid_number w ≡ z)
recorded_in [] z on = absurd (cc on)
recorded_in (e ∷ es) z on = ⊎_elim (λ same. (e.0, e.1, inl refl, eqb-true (uid_number e.0) z same))
    (λ more. let r = recorded_in es z more in (r.0, r.1, inr r.2, r.3)) (or_cases (uid_number e.0 == z) (are_recorded es z) on)

module _ (Cand : Uid → Type 0) where
  pub none_grown : (W V : World) → V.disk.tops ≡ W.disk.tops → IsGrown Cand W V
  none_grown W V same = record { new = []; are = same; undone = λ d i. absurd i; whose = λ d i. absurd i; conf = λ d i. absurd i }

  pub along_grown : (g : ℕ → Bool) (W V : World) → ((z : ℕ) → g z ≡ true → decided W.disk z ≡ false →
      (w : Uid) × Cand w × (uid_number w ≡ z)) → Along (record { from = W; noted = only_decides g }) V → IsGrown Cand W V
  along_grown g W V who a =
      let n = effects_grow (only_decides g) W a.effects a.only a.allowed in
      record {
        new = n.new;
        are = ap (λ (U : World). U.disk.tops) (sym a.here) ∙ n.are;
        undone = n.undone;
        whose = λ d i. who d.top (n.noted d i) (n.undone d i);
        conf = λ d i z on. none_confirmed (only_decides g) z refl W V a on;
      }

  pub grown_by : (o : Change) (A B : Office) → ((z : ℕ) (keeps : Bool) → o ≡ Deciding z keeps → (w : Uid) × Cand w × (uid_number w ≡ z)) →
      Changes o A B → IsGrown Cand A.world B.world
  grown_by Quietly A B who c = none_grown A.world B.world c.tops
  grown_by (Answering t r) A B who c = none_grown A.world B.world (let o = c.0 in o.tops)
  grown_by (Deciding t keeps) A B who c =
      along_grown (λ z. z == t) A.world B.world (λ z on undone. let w = who t keeps refl in (w.0, w.1, w.2 ∙ sym (eqb-true z t on))) c.along

-- ---- records that a restart finds

-- a top with a record that isn't decided
abbrev pub IsFound : Disk → Office → Uid → Type 0
IsFound d A w = (i : Intent) × list.In {X = Uid × Intent} (w, i) d.intents × (decided A.world.disk (uid_number w) ≡ false)

module _ (x k : ℕ) (d : Disk) (M : Seen) (tops : Kinds) (A : Office) (both : SeesBoth x tops A (down k d M)) where
  pub records_of : SeesRecords k d.intents A.world.disk
  records_of = let s = both.disks in
      s.records k (record { number = k; disk = d; live = None }) (node_here M k (record { number = k; disk = d; live = None }))

  pub found_opened : (w : Uid) → IsFound d A w → undecided A.world.disk (uid_number w) ≡ true
  found_opened w c =
      let s = records_of in
      let there = in_at (w, c.0) d.intents s.sorted c.1 in
      let some : is_some (A.world.disk.intent (uid_number w)) ≡ true = ap is_some (s.is w (s.own w c.0 there) ∙ ap nodes_of there) in
      λ i. not (c.2 i) && or_right (is_open (A.world.disk.stage (uid_number w))) (is_some (A.world.disk.intent (uid_number w))) some i
