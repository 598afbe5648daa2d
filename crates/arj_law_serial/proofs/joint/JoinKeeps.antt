-- Each handler keeps what keeps tops from counting beside a decided one that conflicts with them.
use Rattle.arj_law_parts.proofs.Words
use Words.{◌+◌}
use Words.{◌≡◌, ◌≢◌, ◌==◌, ◌∙◌, ℕ, true, [], Some, None, ap, eqb-true, inl, inr, refl, subst, sym, ⊎_elim, and_parts, Header, Uid}
use Words.{Confirming, Machine, plan_of, Committing, Coord, Doing, doing_of, Disk, Parts, uid_number, Node, root_of}
use Words.{number_tells, Seen}
use Rattle.arj_law_serial.proofs.Terms
use Terms.{disk_by, first_up}
use Terms.{in_at, World, Office, some_is, at, down, up, KnowsNode, KnowsMachine, Kinds, SeesCoord, node_here, SeesBoth}
use Terms.{SeesDecided, SeesHeard, SeesPlan, KeepsPart, IsKept, nothing_more, IncludersTakeTurns}
use Rattle.arj_law_disk.specs.machine.{State.State, Words.In}
use Rattle.arj_law_disk_view.specs.view.Knows.{KnowsKinds}
use Rattle.arj_law_serial.proofs.joint
use joint.{JoinFresh.fine, JoinFresh.not_some, JoinUses.UsesSo, MarkRuns.own_doing, Recording.IsConfirming}
use joint.JoinBeside.{Keeping, StepsKeep, WhereCalled, WhereFirst, WhereFound, WhereHeard, WhereNone, WhereWaits, beside_part}
use joint.JoinNodes.{IsFound, coord_seen, found_opened, here, machine_there, none_at, opened, records_of, sees, uncalled}
use joint.JoinStep.{AreAgainst, IsAgainst, IsCounted, IsEither, KeepTurns, keeps, plan_includes_none}
use joint.JoinTurns.{Settled, called_first, includes_none}

-- what is kept
abbrev pub Turning : ℕ → Keeping
Turning x = record {
  kept = λ tops A M. KeepTurns x A M;
  uses = λ tops A M Cand. IsAgainst x A M.lines (IsEither Cand A);
  waits = λ tops A M Cand u. (w : Uid) → IsEither Cand A w → u ≢ w → Settled A M.lines w u;
}

-- beside what is carried with the machine's state
abbrev pub WithTurns : ℕ → (Kinds → Office → Seen → Type 0) → Kinds → Office → Seen → Type 0
WithTurns x P tops A M = P tops A M × KeepTurns x A M

-- ---- a node

module _ (x k : ℕ) (d : Disk) (t : Parts) (M : Seen) (tops : Kinds) (A : Office) (knows : KnowsNode tops k d t M) (both : SeesBoth x tops A
    (up k d t M)) (heard_so : SeesHeard x tops A (up k d t M)) (kept : IsKept (up k d t M)) (w : Uid) (c : IsConfirming t.coord w) where
  abbrev S : State
  S = A.world.disk

  pub plan_seen : SeesPlan x tops w (Confirming c.plan) A
  plan_seen = let h = heard_so.coords k (record { number = k; disk = d; live = Some t }) t (here x k d t M tops A knows both kept) refl in
      h.plans w c.doing (Confirming c.plan) c.works c.now

  its_machine : KnowsMachine tops t.coord w (Confirming c.plan)
  its_machine = machine_there x k d t M tops A knows both kept w c

  at_here : (up k d t M).nodes k ≡ Some (record { number = k; disk = d; live = Some t })
  at_here = here x k d t M tops A knows both kept

  its_coord : SeesCoord x k d.inc tops t.coord S
  its_coord = coord_seen x k d t M tops A knows both kept

  -- of its root no other commit is under way
  pub alone : (j : ℕ) (n : Node) (v : Parts) → (up k d t M).nodes j ≡ Some n → n.live ≡ Some v → (u : Uid) (q : Doing) (m : Machine) →
      doing_of u v.coord ≡ Some q → q.now ≡ Committing m → u ≢ w → S.root (uid_number u) ≡ S.root (uid_number w) → ⊥
  alone j n v at live u q m works now apart same = apart (by here_is)
    where
      kinds : KnowsKinds tops
      kinds = heard_so.kinds

      u_top : tops.is_top (uid_number u) ≡ true
      u_top = let h = heard_so.coords j n v at live in let p = h.plans u q m works now in p.top

      w_top : tops.is_top (uid_number w) ≡ true
      w_top = let n = its_machine in n.top

      roots : tops.root (uid_number u) ≡ tops.root (uid_number w)
      roots = let s = both.disks in let f = s.fixed in ap (λ r. r (uid_number u)) (sym f.root) ∙ same ∙ ap (λ r. r (uid_number w)) f.root

      home : (u : Uid) (c : Coord) (q : Doing) → doing_of u c ≡ Some q → (u.node ≡ c.tree.node)
      home u c q is = eqb-true u.node c.tree.node (and_parts (u.node == c.tree.node) (u.inc == c.tree.inc) (own_doing u c q is)).0

      its_root : (r : Uid) × (tops.root (uid_number u) ≡ uid_number r)
      its_root = kinds.rooted u u_top

      one_node : j ≡ k
      one_node =
          sym (let s = both.disks in let c = s.coords j n v at live in home u v.coord q works ∙ c.node)
          ∙ (kinds.own u its_root.0 u_top its_root.1).0 ∙ sym (kinds.own w its_root.0 w_top (sym roots ∙ its_root.1)).0
          ∙ home w t.coord c.doing c.works ∙ its_coord.node

      here_is : v ≡ t
      here_is = let same_node : record { number = k; disk = d; live = Some t } ≡ n = some_is at_here
          (ap (λ i. (up k d t M).nodes i) (sym one_node) ∙ at) in some_is live (ap (λ (z : Node). z.live) (sym same_node))

      by : v ≡ t → u ≡ w
      by is = let z = knows.coord in z.alone (root_of (let p = plan_of m in p.path)) w
          (c.doing, Confirming c.plan, c.works, c.now, roots_are) u (q, m, works_here, now, refl)
        where
          works_here : doing_of u t.coord ≡ Some q
          works_here = ap (λ (z : Parts). doing_of u z.coord) (sym is) ∙ works

          u_there : KnowsMachine tops t.coord u m
          u_there = let z = knows.coord in z.machines u q m works_here now

          roots_are : root_of (let p = c.plan in p.path) ≡ root_of (let p = plan_of m in p.path)
          roots_are =
              let z = knows.coord in
              let a = its_machine in
              let b = u_there in
              ap root_of (sym a.path)
              ∙ number_tells (root_of (let y = a.branch in y.path)) (root_of (let y = b.branch in y.path))
              (sym (z.root w a.branch a.found a.top) ∙ sym roots ∙ z.root u b.branch b.found b.top)
              ∙ ap root_of b.path

-- ---- a node that restarts

module _ (x k : ℕ) (d : Disk) (M : Seen) (tops : Kinds) (A : Office) (both : SeesBoth x tops A (down k d M)) where
  -- of a top with a record there no commit of its root is under way
  pub of_others : SeesHeard x tops A (down k d M) → (w : Uid) → IsFound d A w → A.world.disk.begun (uid_number w) ≡ true
      → (j : ℕ) (n : Node) (v : Parts) → (down k d M).nodes j ≡ Some n → n.live ≡ Some v → (u : Uid) (q : Doing) (m : Machine) →
      doing_of u v.coord ≡ Some q → q.now ≡ Committing m → A.world.disk.root (uid_number u) ≡ A.world.disk.root (uid_number w) → ⊥
  of_others heard_so w found begun j n v at_node live u q m works now same =
      let kinds = heard_so.kinds in
      let u_top : tops.is_top (uid_number u) ≡ true = (let h = heard_so.coords j n v at_node live in let p = h.plans u q m works now in
      p.top) in
      let s = records_of x k d M tops A both in
      let b = both.disks in
      let w_top : tops.is_top (uid_number w) ≡ true = (b.kinds (uid_number w) begun).0 in
      let f = b.fixed in
      let roots : tops.root (uid_number u) ≡ tops.root (uid_number w) = ap (λ r. r (uid_number u)) (sym f.root) ∙ same
      ∙ ap (λ r. r (uid_number w)) f.root in
      let r = kinds.rooted u u_top in
      let c = b.coords j n v at_node live in
      let home : u.node ≡ v.coord.tree.node = eqb-true u.node v.coord.tree.node
      (and_parts (u.node == v.coord.tree.node) (u.inc == v.coord.tree.inc) (own_doing u v.coord q works)).0 in
      let at_k : j ≡ k = sym (home ∙ c.node) ∙ (kinds.own u r.0 u_top r.1).0 ∙ sym (kinds.own w r.0 w_top (sym roots ∙ r.1)).0
      ∙ s.own w found.0 (in_at (w, found.0) d.intents s.sorted found.1) in
      let one : record { number = k; disk = d; live = None } ≡ n = some_is (node_here M k (record { number = k; disk = d; live = None }))
      (ap (λ i. (down k d M).nodes i) (sym at_k) ∙ at_node) in
      not_some (ap (λ (z : Node). z.live) (sym one)) live

-- ---- each handler

module _ (hd : Header) (x : ℕ) (R : World → Seen → Type 0) (P : Kinds → Office → Seen → Type 0) (known : (W : World) (M : Seen) → R W M →
    IsKept M) (heard_of : (tops : Kinds) (A : Office) (M : Seen) → P tops A M →
    SeesHeard x tops A M) (decides : (tops : Kinds) (A : Office) (M : Seen) → P tops A M → SeesDecided x tops A M)
    (parts : KeepsPart hd x R P) where
  -- where nobody is newly decided
  either_none : WhereNone hd x R P (Turning x)
  either_none tops A M both part r turns j n t at_node live u q m works now w (inl counted) apart = let y = turns.works in
      y j n t at_node live u q m works now w counted apart
  either_none tops A M both part r turns j n t at_node live u q m works now w (inr fresh) apart = absurd fresh.0

  either_message : WhereHeard hd x R P (Turning x)
  either_message k d t M tops A h j a v at_node live u q m works now w (inl counted) apart = let turns = h.before in let y = turns.works in
      y j a v at_node live u q m works now w counted apart
  either_message k d t M tops A h j a v at_node live u q m works now w (inr fresh) apart =
      let heard_so = heard_of tops A (up k d t M) h.part in
      let kept = known A.world (up k d t M) h.run in
      fine x tops A (up k d t M) h.both M.lines w fresh.1 (opened x k d t M tops A h.knows h.both kept w fresh.0) heard_so kept.0 j a v
      at_node live u q m works now apart
      (λ same idle. alone x k d t M tops A h.knows h.both heard_so kept w fresh.0 j a v at_node live u q m works now apart same)

  either_restart : WhereFound hd x R P (Turning x)
  either_restart k d M tops A both part r turns j n v at_node live u q m works now w (inl counted) apart = let y = turns.works in
      y j n v at_node live u q m works now w counted apart
  either_restart k d M tops A both part r turns j n v at_node live u q m works now w (inr fresh) apart =
      fine x tops A (down k d M) both M.lines w fresh.1 (found_opened x k d M tops A both w fresh.0) heard_so (known A.world (down k d M)
      r).0 j n v at_node live u q m works now apart (λ same idle. of_others x k d M tops A both heard_so w fresh.0 (let y = both.disks
      in let z = y.whole in let c = z.core in let f = c.fresh in f.conf (uid_number w) fresh.1) j n v at_node live u q m works now same)
    where
      heard_so : SeesHeard x tops A (down k d M)
      heard_so = heard_of tops A (down k d M) part

  starts : WhereCalled hd x R P (Turning x)
  starts k d t M tops A h i free l b same named w (inl (z, there, counts, top)) apart =
      inl (called_first (
        M.lines,
        [],
        nothing_more M.lines,
        (let d = decides tops A (up k d t M) h.part in d.called z there w (sym top)),
        uncalled x k d t M tops A h.knows h.both (known A.world (up k d t M) h.run) hd i free l b same named,
      ))
  starts k d t M tops A h i free l b same named w (inr fresh) apart = absurd fresh.0

  -- of one that waits for naming, by what its commit uses
  waits_so : WhereWaits hd x R P (Turning x)
  waits_so k d t M tops A h Cand each u c w its apart = ⊎_elim (λ s. s)
      (λ uses. let s = sees x k d t M tops A h.knows h.both kept u c in
      includes_none s.begun (plan_includes_none x tops A u c.plan (let W = A.world in
      W.disk.plan (uid_number w)) s (plan_seen x k d t M tops A h.knows h.both (heard_of tops A (up k d t M) h.part) kept u c) uses))
      (each k (record { number = k; disk = d; live = Some t }) t (here x k d t M tops A h.knows h.both kept) refl u c.doing
      (Confirming c.plan) c.works c.now w its apart)
    where
      kept : IsKept (up k d t M)
      kept = known A.world (up k d t M) h.run

  turn_steps : StepsKeep hd x R P (Turning x)
  turn_steps tops D C Cand A M both part r goes before waiting B into Z seen p step ups recs = keeps x tops D C Cand A M both goes.further
      goes.grown goes.opened goes.cand before waiting B into Z seen (let d = decides tops B Z p in d.once) step ups recs

  nothing_yet : WhereFirst hd x R P (Turning x)
  nothing_yet st formed tops A both empty = record {
    works = λ j n t at_node live. subst (λ (z : Parts). AreAgainst x A [] (IsCounted A) z) (first_up hd st j n t at_node live)
        (none_at (UsesSo (IsAgainst x A [] (IsCounted A))) j (st.incs j + 1) (disk_by hd st j));
    records = λ u r undone w (d, i, counts, top). absurd (subst (In d) empty i);
    turns = subst (IncludersTakeTurns []) (sym empty) tt;
  }

  pub turns_part : KeepsPart hd x R (WithTurns x P)
  turns_part = beside_part hd x R P (Turning x) known parts either_none either_message either_restart starts waits_so turn_steps nothing_yet
