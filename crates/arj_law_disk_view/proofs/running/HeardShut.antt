-- While no commit of a root is past its votes none of its outcomes is open in the machine.
use Rattle.arj_law_parts.proofs.Words
use Words.{◌≡◌, ◌⊎◌, ℕ, ◌==◌, Bool, true, false, not, Option, Some, None, is_some, refl, sym, ◌∙◌, ap, subst, ⊎_elim, and_parts, End, Kind}
use Words.{Uid, Steps, Confirming, Machine, Preparing, Voting, plan_of, Calling, Committing, Doing, Idle, Now, doing_of, Disk, Intent}
use Words.{Parts, at_uid, uid_number, Branch, branch_of, is_open, is_open_branch, root_of, number_tells, Seen}
use Words.kind
use Rattle.arj_law_disk_view.proofs.Terms
use Terms.{found_by, Office, State, undecided, falls_to, gone_closed, never, open_done, open_parts, some_is, test_is, up, IsBefore}
use Terms.{KnowsNode, SeesRecords, nodes_of, IsFirstAt, Kinds, SeesCoord, SeesNotes, Works, SeesBoth}
use Terms.disk
use Rattle.arj_law_disk_view.proofs.{running.HeardQuiet.fixed_in, view.BeginWalks.before_idle, view.Frames.node_here}

-- an open action stands with its branch
open_found : (o : Option Branch) → is_open_branch o ≡ true → (c : Branch) × (o ≡ Some c) × (c.ended ≡ None)
open_found None on = absurd (cc on)
open_found (Some c) on = (c, refl, unended c.ended on)
  where
    unended : (e : Option End) → not (is_some e) ≡ true → e ≡ None
    unended None h = refl
    unended (Some how) h = absurd (cc h)

-- a top that waits in a call is idle
calling_idle : (x : ℕ) (tops : Kinds) (S : State) (t : ℕ) (z : Kind) (s : Steps) → tops.is_top t ≡ true → Works x tops S t z (Calling s) →
    S.stage t ≡ disk.Idle
calling_idle x tops S t kind.Nested s top w = absurd (never top w)
calling_idle x tops S t kind.Serial s top w = absurd (never top w.0)
calling_idle x tops S t kind.Top s top w = w.1
calling_idle x tops S t kind.Independent s top w = w.1
calling_idle x tops S t kind.Constituent s top w = w.1

module _ (x : ℕ) (tops : Kinds) (k : ℕ) (d : Disk) (t : Parts) (M : Seen) (A : Office) (knows : KnowsNode tops k d t M) (both : SeesBoth x
    tops A (up k d t M)) (u : Uid) (b : Branch) (found : branch_of u t.coord.tree ≡ Some b) (top : tops.is_top (uid_number u) ≡ true)
    (idle : A.world.disk.stage (uid_number u) ≡ disk.Idle) (first : IsFirstAt t.coord (root_of b.path) u) where
  abbrev S : State
  S = A.world.disk

  sees : SeesCoord x k d.inc tops t.coord A.world.disk
  sees = let s = both.disks in
      s.coords k (record { number = k; disk = d; live = Some t }) t (node_here M k (record { number = k; disk = d; live = Some t })) refl

  records : SeesRecords k d.intents A.world.disk
  records = let s = both.disks in
      s.records k (record { number = k; disk = d; live = Some t }) (node_here M k (record { number = k; disk = d; live = Some t }))

  notes : SeesNotes x d.intents t.coord A.world
  notes = let s = both.disks in
      s.notes k (record { number = k; disk = d; live = Some t }) t (node_here M k (record { number = k; disk = d; live = Some t })) refl

  its_root : tops.root (uid_number u) ≡ uid_number (root_of b.path)
  its_root = let c = knows.coord in c.root u b found top

  here : u.node ≡ k
  here = test_is u.node t.coord.tree.node
      (and_parts (u.node == t.coord.tree.node) (u.inc == t.coord.tree.inc) (found_by u t.coord.tree b found).0).0 ∙ sees.node

  module _ (w : Uid) (of : A.world.disk.root (uid_number w) ≡ A.world.disk.root (uid_number u)) (on : undecided A.world.disk (uid_number w)
      ≡ true) (w_top : tops.is_top (uid_number w) ≡ true) (begun : A.world.disk.begun (uid_number w) ≡ true) where
    w_root : tops.root (uid_number w) ≡ uid_number (root_of b.path)
    w_root = let f = fixed_in x tops A (up k d t M) both in
        ap (λ g. g (uid_number w)) (sym f.root) ∙ (of ∙ (ap (λ g. g (uid_number u)) f.root ∙ its_root))

    w_node : w.node ≡ k
    w_node = let q = knows.kinds in (q.own w (root_of b.path) w_top w_root).0 ∙ (sym (q.own u (root_of b.path) top its_root).0 ∙ here)

    undone : disk.decided S (uid_number w) ≡ false
    undone = open_done (disk.decided S (uid_number w)) (S.stage (uid_number w)) (S.intent (uid_number w)) on

    parts : (disk.is_open (S.stage (uid_number w)) ≡ true) ⊎ (is_some (S.intent (uid_number w)) ≡ true)
    parts = open_parts (disk.decided S (uid_number w)) (S.stage (uid_number w)) (S.intent (uid_number w)) on

    over : is_open w t.coord.tree ≡ false → ⊥
    over off = ⊎_elim (λ open_yet. never open_yet (gone_closed (S.stage (uid_number w)) (sees.closed w w_node off begun)))
        (λ some. recorded (at_uid w d.intents) refl (sym (ap is_some (records.is w w_node)) ∙ some)) parts
      where
        recorded : (o : Option Intent) → at_uid w d.intents ≡ o → is_some (nodes_of (at_uid w d.intents)) ≡ true → ⊥
        recorded None is some = never some (ap (λ z. is_some (nodes_of z)) is)
        recorded (Some i) is some = ⊎_elim (λ open_yet. never open_yet off) (λ s. never s.done undone) (notes.settled w i is)

    module _ (c : Branch) (there : branch_of w t.coord.tree ≡ Some c) (unended : c.ended ≡ None)
        (open_yet : disk.is_open (A.world.disk.stage (uid_number w)) ≡ true) where
      waits : (q : Doing) → doing_of w t.coord ≡ Some q → IsBefore q.now → ⊥
      waits q does before = never open_yet
          (ap disk.is_open (before_idle x tops S (uid_number w) c.kind q.now before w_top (sees.working w c q there unended does)))

      commits : (q : Doing) (m : Machine) → doing_of w t.coord ≡ Some q → q.now ≡ Committing m → ⊥
      commits q m does now =
          let n = (let y = knows.coord in y.machines w q m does now) in
          let same : n.branch ≡ c = some_is n.found there in
          let root : root_of (plan_of m).path ≡ root_of b.path = ap root_of (sym n.path) ∙ (ap (λ (y : Branch). root_of y.path) same
          ∙ number_tells (root_of c.path) (root_of b.path) (sym (let y = knows.coord in y.root w c there w_top) ∙ w_root)) in
          never open_yet (ap (λ z. disk.is_open (S.stage (uid_number z))) (first w (q, m, does, now, root)) ∙ ap disk.is_open idle)

      working : (q : Doing) → doing_of w t.coord ≡ Some q → (n : Now) → q.now ≡ n → ⊥
      working q does Idle is = waits q does (subst IsBefore (sym is) tt)
      working q does (Calling s) is = never open_yet (ap disk.is_open (calling_idle x tops S (uid_number w) c.kind s w_top
          (subst (λ z. Works x tops S (uid_number w) c.kind z) is (sees.working w c q there unended does))))
      working q does (Committing (Voting p left)) is = waits q does (subst IsBefore (sym is) tt)
      working q does (Committing (Preparing p left)) is = commits q (Preparing p left) does is
      working q does (Committing (Confirming p)) is = commits q (Confirming p) does is

    none : ⊥
    none = by (is_open w t.coord.tree) refl
      where
        by : (z : Bool) → is_open w t.coord.tree ≡ z → ⊥
        by false off = over off
        by true at =
            let o = open_found (branch_of w t.coord.tree) at in
            let q = (let y = knows.coord in y.at_work w o.0 o.1) in
            let free : S.intent (uid_number w) ≡ None = records.is w w_node ∙ ap nodes_of (let y = knows.coord in y.unrecorded w at) in
            working o.0 o.1 o.2 (⊎_elim (λ open_yet. open_yet) (λ some. absurd (never some (ap is_some free))) parts) q.0 q.1
            (let z = q.0 in z.now) refl

  pub shut : (z : ℕ) → A.world.disk.root z ≡ A.world.disk.root (uid_number u) → undecided A.world.disk z ≡ false
  shut z of = falls_to (undecided S z) (λ on.
      let begun = begun_of on in
      let top_z = (let s = both.disks in s.kinds z begun).0 in
      let w = (let q = knows.kinds in q.named z top_z) in
      none w.0 (ap S.root w.1 ∙ of) (ap (undecided S) w.1 ∙ on) (ap tops.is_top w.1 ∙ top_z) (ap S.begun w.1 ∙ begun))
    where
      begun_of : undecided S z ≡ true → S.begun z ≡ true
      begun_of on = let core = (let n = both.named in n.whole.core) in ⊎_elim
          (λ open_yet. core.fresh.open_begun z open_yet)
          (λ some. ⊎_elim (λ conf. core.fresh.conf z conf) (λ light. core.fresh.light z light) (core.coordinators.record_taken z some))
          (open_parts (disk.decided S z) (S.stage z) (S.intent z) on)
