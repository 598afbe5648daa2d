-- Each handler keeps what is kept of tops that naming confirmed as ones that change nothing.
use Rattle.arj_law_parts.proofs.Words
use Words.{◌+◌}
use Words.{subst}
use Words.{Option}
use Words.{Start, node_by, world_from}
use Words.{◌≡◌, ◌≢◌, ◌⊎◌, ◌∙◌, ◌&&◌, ◌||◌, not, ℕ, zero, suc, Bool, true, false, List, [], Some, None, is_some, ap, cond, inl, inr, refl}
use Words.{sym, ⊎_elim, Header, Uid, Confirming, Machine, Used, plan_of, Committing, Doing, doing_of, Disk, Parts, at_uid, uid_number, Node}
use Words.{parts_in, at_place, is_open as is_open_in, is_open_branch, is_own, Seen, see}
use Rattle.arj_law_serial.proofs.Terms
use Terms.{disk_by, first_up}
use Terms.{World, Office, Stage, decided, decided_in, is_gone, is_open, undecided, never, down, up, nodes_of, Kinds, first_at, node_here}
use Terms.{SeesBoth, SeesHeard, KeepsPart, IsKept, nothing_more}
use Terms.Effects as machine
use Terms.disk
use Rattle.arj_law_serial.proofs.joint
use joint.{JoinStep.KeepTurns, JoinStep.plan_includes_none, Recording.IsConfirming}
use joint.JoinBeside.{EachCommit, Keeping, StepsKeep, WhereCalled, WhereFirst, WhereFound, WhereHeard, WhereNone, WhereWaits, beside_part}
use joint.JoinBeside.{none}
use joint.JoinKeeps.{alone, of_others, plan_seen}
use joint.JoinNodes.{IsFound, sees, uncalled}
use joint.JoinTurns.{IsFine, Settled, called_first, includes_none}
use joint.LightStates.{AreOfTwo, IsPassed, IsPassing, KeepLights, passing_called, passing_fine}
use joint.LightStep.{IsWatched, keeps, not_decided, two_of}

-- against each of these, of a top by what its commit uses
abbrev UsesBeside : ℕ → (Uid → Type 0) → Office → Seen → Uid → List Used → Type 0
UsesBeside x Cand A M u used = (w : Uid) → IsWatched Cand A M w u → IsFine x A M.lines w u used

-- what is kept
abbrev pub Lighting : ℕ → Keeping
Lighting x = record {
  kept = λ tops A M. KeepLights x A M;
  uses = λ tops A M Cand. UsesBeside x Cand A M;
  waits = λ tops A M Cand u. (w : Uid) → IsWatched Cand A M w u → Settled A M.lines w u;
}

-- beside what is carried with the machine's state
abbrev pub WithLights : ℕ → (Kinds → Office → Seen → Type 0) → Kinds → Office → Seen → Type 0
WithLights x P tops A M = P tops A M × KeepLights x A M

-- no action of a node that has just begun is open
none_open : (k inc : ℕ) (d : Disk) (w : Uid) → is_open_in w (let p = parts_in k inc d in let c = p.coord in c.tree) ≡ false
none_open k inc d w = by (is_own w (let p = parts_in k inc d in let c = p.coord in c.tree)) w.num
  where
    by : (y : Bool) (j : ℕ) → is_open_branch (cond y (at_place j []) None) ≡ false
    by true zero = refl
    by true (suc j) = refl
    by false j = refl

-- ---- each handler

module _ (hd : Header) (x : ℕ) (R : World → Seen → Type 0) (P : Kinds → Office → Seen → Type 0) (known : (W : World) (M : Seen) → R W M →
    IsKept M) (heard_of : (tops : Kinds) (A : Office) (M : Seen) → P tops A M →
    SeesHeard x tops A M) (turns_of : (tops : Kinds) (A : Office) (M : Seen) → P tops A M → KeepTurns x A M)
    (parts : KeepsPart hd x R P) where
  abbrev Uses : (Uid → Type 0) → Office → Seen → Uid → List Used → Type 0
  Uses Cand A M = UsesBeside x Cand A M

  whole : (tops : Kinds) (A : Office) (M : Seen) → SeesBoth x tops A M → machine.Whole A.world
  whole tops A M both = let n = both.named in n.whole

  begun_of : (tops : Kinds) (A : Office) (M : Seen) → SeesBoth x tops A M → (w : Uid) → IsPassed A M w ⊎ IsPassing A M w →
      A.world.disk.begun (uid_number w) ≡ true
  begun_of tops A M both w (inl passed) = let y = whole tops A M both in let k = y.core in let f = k.fresh in
      f.light (uid_number w) passed.light
  begun_of tops A M both w (inr passing) = passing.begun

  -- of the root of one that may be decided now no other commit is under way
  abbrev AloneThere : (Uid → Type 0) → Office → Seen → Type 0
  AloneThere Cand A M = (w : Uid) → Cand w → A.world.disk.begun (uid_number w) ≡ true
      → (j : ℕ) (n : Node) (v : Parts) → M.nodes j ≡ Some n → n.live ≡ Some v → (u : Uid) (q : Doing) (m : Machine) → doing_of u v.coord
      ≡ Some q → q.now ≡ Committing m → u ≢ w → A.world.disk.root (uid_number u) ≡ A.world.disk.root (uid_number w) → ⊥

  each_so : (tops : Kinds) (Cand : Uid → Type 0) (A : Office) (M : Seen) (both : SeesBoth x tops A M) → P tops A M → IsKept M →
      KeepLights x A M → AloneThere Cand A M → EachCommit (Uses Cand A M) M
  each_so tops Cand A M both part kept lights apart_there j n t at_node live u q m works now w (either, apart, how) = by either how
    where
      two_so : IsPassed A M w ⊎ IsPassing A M w → AreOfTwo A u w → IsFine x A M.lines w u (let p = plan_of m in p.used)
      two_so (inl passed) two = let y = lights.works in y j n t at_node live u q m works now w (passed, (apart, inr two))
      two_so (inr passing) two =
          passing_fine x tops A M both w passing M.lines u two (heard_of tops A M part) kept.0 j n t at_node live q m works now

      by : IsPassed A M w ⊎ IsPassing A M w → (decided A.world.disk (uid_number w) ≡ true) ⊎ (Cand w ⊎ AreOfTwo A u w) →
          IsFine x A M.lines w u (let p = plan_of m in p.used)
      by (inl passed) (inl on) = let y = lights.works in y j n t at_node live u q m works now w (passed, (apart, inl on))
      by (inr passing) (inl on) = not_decided A.world.disk (uid_number w) passing.opened on
      by e (inr (inr two)) = two_so e two
      by e (inr (inl c)) = ⊎_elim (λ two. two_so e two)
          (λ same. absurd (apart_there w c (begun_of tops A M both w e) j n t at_node live u q m works now apart same)) (two_of A u w)

  where_none : WhereNone hd x R P (Lighting x)
  where_none tops A M both part run before =
      each_so tops none A M both part (known A.world M run) before (λ w off begun j n v at_node live u q m works now apart same. off)

  where_heard : WhereHeard hd x R P (Lighting x)
  where_heard k d t M tops A h = each_so tops (λ u. IsConfirming t.coord u) A (up k d t M) h.both h.part kept h.before
      (λ w c begun j n v at_node live u q m works now apart same.
      alone x k d t M tops A h.knows h.both (heard_of tops A (up k d t M) h.part) kept w c j n v at_node live u q m works now apart same)
    where
      kept : IsKept (up k d t M)
      kept = known A.world (up k d t M) h.run

  where_found : WhereFound hd x R P (Lighting x)
  where_found k d M tops A both part r before = each_so tops (IsFound d A) A (down k d M) both part (known A.world (down k d M) r) before
      (λ w c begun j n v at_node live u q m works now apart same.
      of_others x k d M tops A both (heard_of tops A (down k d M) part) w c begun j n v at_node live u q m works now same)

  where_called : WhereCalled hd x R P (Lighting x)
  where_called k d t M tops A h i free l b same named w (either, apart, how) =
      inl (called_first (
        M.lines,
        [],
        nothing_more M.lines,
        ⊎_elim (λ passed. let y = h.before in
            y.called w passed) (λ passing. passing_called x tops A (up k d t M) h.both w passing kept) either,
        uncalled x k d t M tops A h.knows h.both kept hd i free l b same named,
      ))
    where
      kept : IsKept (up k d t M)
      kept = known A.world (up k d t M) h.run

  -- of one that waits for naming, by what its commit uses
  where_waits : WhereWaits hd x R P (Lighting x)
  where_waits k d t M tops A h Cand each u c w its = ⊎_elim (λ s. s)
      (λ uses. let s = sees x k d t M tops A h.knows h.both kept u c in
      includes_none s.begun (plan_includes_none x tops A u c.plan (let W = A.world in
      W.disk.plan (uid_number w)) s (plan_seen x k d t M tops A h.knows h.both (heard_of tops A (up k d t M) h.part) kept u c) uses))
      (each k (record { number = k; disk = d; live = Some t }) t (node_here M k (record { number = k; disk = d; live = Some t })) refl u
      c.doing (Confirming c.plan) c.works c.now w its)
    where
      kept : IsKept (up k d t M)
      kept = known A.world (up k d t M) h.run

  steps_keep : StepsKeep hd x R P (Lighting x)
  steps_keep tops D C Cand A M both part r goes before waiting B into Z seen p step ups recs =
      keeps x tops D C Cand A M both (heard_of tops A M part) (known A.world M r) (turns_of tops A M part) goes.further goes.grown
      goes.opened goes.cand before waiting B into Z seen step ups recs

  -- nothing was confirmed yet
  no_one : (st : Start) (tops : Kinds) (A : Office) → SeesBoth x tops A (see [] (world_from hd st)) →
      (let W = A.world in let D = W.disk in D.tops) ≡ [] → (w : Uid) → IsPassed A (see [] (world_from hd st)) w → ⊥
  no_one st tops A both empty w p = ⊎_elim recorded (λ on. never on (ap (λ ds. decided_in ds (uid_number w)) empty)) p.stands
    where
      same : node_by hd st w.node ≡ p.node
      same = first_at hd st w.node p.node p.there

      begun : A.world.disk.begun (uid_number w) ≡ true
      begun = let b = both.disks in let y = b.whole in let k = y.core in let f = k.fresh in f.light (uid_number w) p.light

      gone : is_gone (A.world.disk.stage (uid_number w)) ≡ true
      gone = by (let n = p.node in n.live) refl
        where
          by : (o : Option Parts) → (let n = p.node in n.live) ≡ o → is_gone (A.world.disk.stage (uid_number w)) ≡ true
          by None down_it = let b = both.disks in let c = b.downs w.node p.node p.there down_it in c.closed w refl begun
          by (Some t) up_it = let b = both.disks in let c = b.coords w.node p.node t p.there up_it in
              c.closed w refl (subst (λ (z : Parts). is_open_in w (let c = z.coord in c.tree) ≡ false)
              (first_up hd st w.node p.node t p.there up_it) (none_open w.node (st.incs w.node + 1) (disk_by hd st w.node) w)) begun

      recorded : undecided A.world.disk (uid_number w) ≡ true → ⊥
      recorded o = never (both_of (not (decided A.world.disk (uid_number w))) (is_open (A.world.disk.stage (uid_number w))
          || is_some (A.world.disk.intent (uid_number w))) o) (shut (A.world.disk.stage (uid_number w)) gone)
        where
          both_of : (a b : Bool) → (a && b) ≡ true → b ≡ true
          both_of true b is = is
          both_of false b is = absurd (cc is)

          no_record : is_some (A.world.disk.intent (uid_number w)) ≡ false
          no_record = let b = both.disks in let r = b.records w.node p.node p.there in
              ap is_some (r.is w refl ∙ ap (λ (z : Node). nodes_of (at_uid w (let c = z.disk in c.intents))) (sym same))

          shut : (s : Stage) → is_gone s ≡ true → (is_open s || is_some (A.world.disk.intent (uid_number w))) ≡ false
          shut disk.Idle g = absurd (cc g)
          shut disk.Preparing g = absurd (cc g)
          shut disk.Confirming g = absurd (cc g)
          shut disk.Gone g = no_record

  where_first : WhereFirst hd x R P (Lighting x)
  where_first st formed tops A both empty = record {
    works = λ j n t at_node live u q m works now w how. absurd (no_one st tops A both empty w how.0);
    records = λ u r undone w p apart. absurd (no_one st tops A both empty w p);
    called = λ w p. absurd (no_one st tops A both empty w p);
    splits = λ w p. absurd (no_one st tops A both empty w p);
  }

  pub lights_part : KeepsPart hd x R (WithLights x P)
  lights_part =
      beside_part hd x R P (Lighting x) known parts where_none where_heard where_found where_called where_waits steps_keep where_first
