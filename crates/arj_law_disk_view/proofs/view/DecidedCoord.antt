-- A coordinator that has decided a commit: the top has ended, its participants are noted, and its root keeps what it prepared.
use Rattle.arj_law_parts.proofs.Words
use Words.{◌≡◌, ◌≢◌, ℕ, ◌==◌, ◌&&◌, List, [], ◌∷◌, Bool, true, false, Some, None, refl, sym, ◌∙◌, ap, subst, inl, inr, if◌then◌else◌}
use Words.{option_map, AllByRecursion, Uid, ObjectState, object, changed_of, participants, has_record, Coord, Doing, Idle, Root, doing_of}
use Words.{on_doing, on_root, root_at, decided, root_after, states_after, at_uid, put_uid, put_number, Tree, Branch, branch_of, root_of}
use Words.{ended_at, is_own, at_place}
use Words.ending
use Words.commit
use Rattle.arj_law_disk_view.proofs.Terms
use Terms.{World, Packed, Known, has, Among, packed, plan_at, plan_by, IsOneChange, IsKnown, KnowsRoot, IsLater}
use Terms.disk
use Rattle.arj_law_disk_view.proofs.view
use view.{Ended.HasEnded, Ended.tree_ended}
use view.Doings.{doing_here, doing_other, doing_tree}
use view.Notes.{all_to, all_put, known_at, root_later, doing_telling, doing_roots}
use Rattle.arj_protocol.specs.Ending.{awaits}
use Rattle.arj_law_disk_view.proofs.view.Keys as keys

module _ (c : Coord) (act : Uid) (b : Branch) (q : Doing) (p : commit.Plan) (found : branch_of act c.tree ≡ Some b)
    (at_work : doing_of act c ≡ Some q) where
  abbrev C : Coord
  C = decided act p c

  -- the coordinator has ended the top
  abbrev c0 : Coord
  c0 = record c { tree = ended_at act ending.Commit c.tree }

  abbrev c1 : Coord
  c1 = on_doing act (λ (r : Doing). record r { now = Idle }) c0

  abbrev c2 : Coord
  c2 = on_doing act (λ (r : Doing). record r { took = participants p }) c1

  abbrev c3 : Coord
  c3 = on_root (root_of p.path) (root_after p) c2

  awaits_same : {A : Type 0} (f : Tree → List Doing → A) (c : Coord) → (let a = awaits act p c in f a.tree a.doings) ≡ f c.tree c.doings
  awaits_same f c = by (has_record p)
    where
      by : (b : Bool) → (let a =
          (if b then record c { telling = put_uid act (record { root = root_of p.path; nodes = participants p }) c.telling } else c) in
          f a.tree a.doings) ≡ f c.tree c.doings
      by true = refl
      by false = refl

  tree_is : C.tree ≡ ended_at act ending.Commit c.tree
  tree_is = awaits_same (λ r ds. r) c3 ∙ doing_tree act (λ (r : Doing). record r { took = participants p }) c1
      ∙ doing_tree act (λ (r : Doing). record r { now = Idle }) c0

  pub decided_tree : HasEnded act b ending.Commit c.tree C.tree
  decided_tree = subst (λ v. HasEnded act b ending.Commit c.tree v) (sym tree_is) (tree_ended act b ending.Commit c.tree found)

  doing_first : (w : Uid) → doing_of w c0 ≡ doing_of w c
  doing_first w =
      let en : HasEnded act b ending.Commit c.tree (ended_at act ending.Commit c.tree) = tree_ended act b ending.Commit c.tree found in
      λ i. if (w.node == en.node i) && (w.inc == en.inc i) then at_place w.num c.doings else None

  pub decided_doings : (w : Uid) → w ≢ act → doing_of w C ≡ doing_of w c
  decided_doings w other =
      let at_first : doing_of act c0 ≡ Some q = doing_first act ∙ at_work in
      let at_next : doing_of act c1 ≡ Some (record q { now = Idle }) = doing_here act (λ (r : Doing). record r { now = Idle }) c0 q
      at_first in
      awaits_same (λ r ds. if is_own w r then at_place w.num ds else None) c3
      ∙ doing_other act w (λ (r : Doing). record r { took = participants p }) c1 (record q { now = Idle }) at_next other
      ∙ doing_other act w (λ (r : Doing). record r { now = Idle }) c0 q at_first other
      ∙ doing_first w

  -- the coordinator but for what it awaits
  telling_first : c3.telling ≡ c.telling
  telling_first = doing_telling act (λ (r : Doing). record r { took = participants p }) c1
      ∙ doing_telling act (λ (r : Doing). record r { now = Idle }) c0

  roots_first : c2.roots ≡ c.roots
  roots_first =
      doing_roots act (λ (r : Doing). record r { took = participants p }) c1 ∙ doing_roots act (λ (r : Doing). record r { now = Idle }) c0

  pub decided_tellings : (w : Uid) → w ≢ act → at_uid w C.telling ≡ at_uid w c.telling
  decided_tellings w other = by (has_record p)
    where
      by : (b : Bool) → at_uid w (let a =
          (if b then record c3 { telling = put_uid act (record { root = root_of p.path; nodes = participants p }) c3.telling } else c3) in
          a.telling) ≡ at_uid w c.telling
      by true = keys.put_other w act (record { root = root_of p.path; nodes = participants p }) c3.telling other
          ∙ ap (λ ts. at_uid w ts) telling_first
      by false = ap (λ ts. at_uid w ts) telling_first

  pub decided_telling : has_record p ≡ true → at_uid act C.telling ≡ Some (record { root = root_of p.path; nodes = participants p })
  decided_telling has = ap (λ b. at_uid act (let a = (if b then record c3
      { telling = put_uid act (record { root = root_of p.path; nodes = participants p }) c3.telling } else c3) in a.telling)) has
      ∙ keys.put_same act (record { root = root_of p.path; nodes = participants p }) c3.telling

  pub decided_doing : doing_of act C ≡ Some (record q { now = Idle; took = participants p })
  decided_doing = awaits_same (λ r ds. if is_own act r then at_place act.num ds else None) c3
      ∙ doing_here act (λ (r : Doing). record r { took = participants p }) c1 (record q { now = Idle })
      (doing_here act (λ (r : Doing). record r { now = Idle }) c0 q (doing_first act ∙ at_work))

  -- what it prepared is known from now on
  pub decided_roots : (x : ℕ) (W V : World) → AllByRecursion (λ (r : ℕ × Root). KnowsRoot x W r.1) c.roots →
      ((st : ObjectState) → Among st p.changed → st.uid ≡ object x → IsOneChange p x st) → IsLater W V →
      ((w : disk.Packed) → (plan_at x p).writes ≡ Some w → Known V.disk w) → AllByRecursion (λ (r : ℕ × Root). KnowsRoot x V r.1) C.roots
  decided_roots x W V roots changes later writes = by (has_record p)
    where
      all : AllByRecursion (λ (r : ℕ × Root). KnowsRoot x V r.1) c2.roots
      all = subst (λ rs. AllByRecursion (λ (r : ℕ × Root). KnowsRoot x V r.1) rs) (sym roots_first) (all_to
          (λ (r : ℕ × Root). KnowsRoot x W r.1) (λ (r : ℕ × Root). KnowsRoot x V r.1) (λ r h. root_later x W V later r.1 h) c.roots roots)

      old : KnowsRoot x V (root_at (root_of p.path) c2)
      old = known_at x V (root_of p.path) c2 all

      changed_known : (st : ObjectState) → Among st p.changed → IsKnown x V st
      changed_known st among of = let one = changes st among of in
          writes (packed st) (ap (λ o. (plan_by o (changed_of x p)).writes) one.uses ∙ ap (λ o. option_map packed o) one.found)

      put_all : (ss : List ObjectState) (states : List (ℕ × ObjectState)) → ((st : ObjectState) → Among st ss → IsKnown x V st) →
          AllByRecursion (λ (s : ℕ × ObjectState). IsKnown x V s.1) states →
          AllByRecursion (λ (s : ℕ × ObjectState). IsKnown x V s.1) (states_after ss states)
      put_all [] states each h = h
      put_all (s ∷ ss) states each h = put_all ss (put_number s.uid.num s states) (λ st among. each st (inr among))
          (all_put (IsKnown x V) s.uid.num s states (each s (inl refl)) h)

      after_all : AllByRecursion (λ (r : ℕ × Root). KnowsRoot x V r.1) c3.roots
      after_all = all_put (KnowsRoot x V) (root_of p.path).num (root_after p (root_at (root_of p.path) c2)) c2.roots
          (record { joined = old.joined; states = put_all p.changed (root_at (root_of p.path) c2).states changed_known old.states }) all

      by : (b : Bool) → AllByRecursion (λ (r : ℕ × Root). KnowsRoot x V r.1) (let a = (if b then record c3
          { telling = put_uid act (record { root = root_of p.path; nodes = participants p }) c3.telling } else c3) in a.roots)
      by true = after_all
      by false = after_all
