-- What survives in a top at its coordinator survives in it by the journal, where the coordinator is reached: so a call or an include that
-- does is a use of the object.
use Rattle.arj_law_parts.proofs.Words
use Words.{⊤, ◌≡◌, ◌≢◌, ◌∙◌, ◌==◌, ◌&&◌, ℕ, true, false, cond, List, Option, Some, None, refl, sym, ap, subst}
use Words.{⊎_elim, and_parts, eqb-true, list_all, list_any, or_cases, In, in_from, in_to, is_on, uid_eq, name, Branch, End, Header}
use Words.{Joined, Kind, Node, Parts, Said, Seen, Uid, branch_of, ended_so, has_end, is_committed, is_serial, root_at, survives}
use Words.{top_uses}
use Words.ending
use Words.kind
use Rattle.arj_law_runs.proofs.journal.Closed.{Stands, one_act, stands_lines, stands_new}
use Rattle.arj_law_runs.specs.journal.Knows.{IsAccess}
use Rattle.arj_law_runs.specs.journal.Plans.{path_of as uids_at}
use Rattle.arj_law_serial.proofs.Terms
use Terms.{Access, Act, AreRight, AreSound, IsEnd, KnowsUp, acts, book, chain_in, is_top, its_acts, lasts_in, named_in, new_book, on_path}
use Terms.{path, top_in, work_there}
use Rattle.arj_law_serial.proofs.joint.JoinPaths.{lasts_same}
use Rattle.arj_law_serial.proofs.order.{Paths.chain_on, Paths.well, Tying.all_at, Tying.all_in, Tying.in_all}
use Rattle.arj_law_serial.specs.joint.Joins.{acts_of}
use Rattle.arj_model.specs.CausePends.{uses}
use Rattle.arj_law_cause.proofs.confirm.{Reached.Reached, Uses.used_by}
use Rattle.arj_law_cause.proofs.confirm.Placed as placed
use Rattle.arj_law_cause.proofs.waits.waiting.Lists.{some_in}

-- who is neither nested nor serializing is a top
pub upper_kind : (h : Kind) → h ≢ kind.Nested → h ≢ kind.Serial → is_top h ≡ true
upper_kind kind.Nested plain single = absurd (plain refl)
upper_kind kind.Serial plain single = absurd (single refl)
upper_kind kind.Top plain single = refl
upper_kind kind.Constituent plain single = refl
upper_kind kind.Independent plain single = refl

module _ (hd : Header) (Z : Seen) (reached : Reached hd Z) (k : ℕ) (n : Node) (t : Parts) (here : Z.nodes k ≡ Some n)
    (live : n.live ≡ Some t) where
  up : KnowsUp (book Z.lines) (let d = n.disk in d.intents) t.coord
  up = placed.knows hd Z reached k n t here live

  right : AreRight new_book Z.lines
  right = placed.right hd Z reached k n t here live

  stands : Stands (book Z.lines)
  stands = stands_lines new_book Z.lines right stands_new

  sound : AreSound (let X = book Z.lines in X.acts)
  sound = stands.sound

  -- an action of this coordinator, by the book
  in_book : (w : Uid) (z : Branch) → branch_of w t.coord.tree ≡ Some z →
      (a : Act) × In a (let X = book Z.lines in X.acts) × (a.uid ≡ w) × (a.kind ≡ z.kind) × IsEnd (book Z.lines) w z.kind z.ended
  in_book w z at =
      let m = up.tops in
      let q = work_there t.coord (let h = m.names in h.count) w z at in
      let s = (let o = up.knows in o.acts w z q.0 at q.1) in
      (s.act, named_in (let X = book Z.lines in X.acts) (name (let e = q.0 in e.label)) s.act s.named, s.uid, s.kind, s.end)

  pub its_act : (w : Uid) (z : Branch) → branch_of w t.coord.tree ≡ Some z →
      (a : Act) × In a (acts Z.lines) × (a.uid ≡ w) × (a.kind ≡ z.kind)
  its_act w z at = let a = in_book w z at in (a.0, subst (In a.0) (its_acts Z.lines right) a.1, a.2, a.3)

  -- a commit that the coordinator has is the journal's
  pub committed_by : (w : Uid) (z : Branch) → branch_of w t.coord.tree ≡ Some z → is_serial z.kind ≡ false →
      is_committed w t.coord.tree ≡ true → is_on (let X = book Z.lines in X.committed) w ≡ true
  committed_by w z at plain is = by z.ended (sym (ap (ended_so ending.Commit) at) ∙ is) (in_book w z at).4
    where
      by : (o : Option End) → has_end ending.Commit o ≡ true → IsEnd (book Z.lines) w z.kind o →
          is_on (let X = book Z.lines in X.committed) w ≡ true
      by None h e = absurd (cc h)
      by (Some ending.Abort) h e = absurd (cc h)
      by (Some ending.Commit) h e = sym (ap (λ s. let X = book Z.lines in cond s (is_on X.ended w) (is_on X.committed w)) plain) ∙ e

  has_branch : (w : Uid) → is_committed w t.coord.tree ≡ true → (z : Branch) × (branch_of w t.coord.tree ≡ Some z)
  has_branch w is = by (branch_of w t.coord.tree) refl is
    where
      by : (o : Option Branch) → branch_of w t.coord.tree ≡ o → ended_so ending.Commit o ≡ true →
          (z : Branch) × (branch_of w t.coord.tree ≡ Some z)
      by None at h = absurd (cc h)
      by (Some z) at h = (z, at)

  -- an access that survives here in a top survives in it by the book
  lasts : (v : Uid) (e : Branch) → branch_of v t.coord.tree ≡ Some e → is_top e.kind ≡ true → (d : Access) →
      survives v (uids_at (book Z.lines) d) t.coord ≡ true →
      lasts_in (is_on (let X = book Z.lines in X.committed)) v (acts_of (book Z.lines) d) (top_in (acts_of (book Z.lines) d)) ≡ true
  lasts v e at top d on =
      subst (λ w. lasts_in (is_on (let X = book Z.lines in X.committed)) w (acts_of (book Z.lines) d) (top_in (acts_of (book Z.lines) d))
      ≡ true) U.2
      (by (top_in (acts_of (book Z.lines) d)) (sym (lasts_same (let X = book Z.lines in X.acts) sound.distinct sound.formed U.0 U.1
      (ap is_top U.3 ∙ top) (let a = d.act in a.label) (λ w. is_committed w t.coord.tree))
      ∙ ap (λ w. survives w (uids_at (book Z.lines) d) t.coord) U.2 ∙ on))
    where
      U : (a : Act) × In a (let X = book Z.lines in X.acts) × (a.uid ≡ v) × (a.kind ≡ e.kind) × IsEnd (book Z.lines) v e.kind e.ended
      U = in_book v e at

      each : (b : Act) → In b (chain_in (acts_of (book Z.lines) d)) → is_committed b.uid t.coord.tree ≡ true →
          is_on (let X = book Z.lines in X.committed) b.uid ≡ true
      each b i is =
          let z = has_branch b.uid is in
          let s = in_book b.uid z.0 z.1 in
          let one = one_act (let X = book Z.lines in X.acts) sound.distinct s.0 b s.1
          (on_path (let X = book Z.lines in X.acts) (let a = d.act in a.label) b (chain_on (acts_of (book Z.lines) d) b i)) s.2 in
          committed_by b.uid z.0 z.1 (ap is_serial (sym s.3 ∙ ap (λ (y : Act). y.kind) one
          ∙ all_at (λ (y : Act). y.kind ≡ kind.Nested) (chain_in (acts_of (book Z.lines) d))
          (let w = well (let X = book Z.lines in X.acts) sound.formed (let a = d.act in a.label) in let shape = w.0 in shape.below) b i)) is

      by : (o : Option Act) → lasts_in (λ w. is_committed w t.coord.tree) (let a = U.0 in a.uid) (acts_of (book Z.lines) d) o ≡ true →
          lasts_in (is_on (let X = book Z.lines in X.committed)) (let a = U.0 in a.uid) (acts_of (book Z.lines) d) o ≡ true
      by None h = absurd (cc h)
      by (Some o) h =
          let p = and_parts (uid_eq o.uid (let a = U.0 in a.uid))
          (list_all (λ (y : Act). is_committed y.uid t.coord.tree) (chain_in (acts_of (book Z.lines) d))) h in
          λ i. p.0 i && all_in (λ (y : Act). is_on (let X = book Z.lines in X.committed) y.uid) (chain_in (acts_of (book Z.lines) d))
          (λ b j. each b j (in_all (λ (y : Act). is_committed y.uid t.coord.tree) (chain_in (acts_of (book Z.lines) d)) p.1 b j)) i

  -- what the coordinator has as a use of the top is one by the journal
  pub uses_there : (root v : Uid) (e : Branch) → branch_of v t.coord.tree ≡ Some e → is_top e.kind ≡ true → (x : ℕ) →
      top_uses v x (root_at root t.coord) t.coord ≡ true → (a : Act) → In a (acts Z.lines) → a.uid ≡ v → uses Z.lines a.id x ≡ true
  uses_there root v e at top x on a there uid = ⊎_elim {C = uses Z.lines a.id x ≡ true} called included
      (or_cases (list_any (λ (s : Said). (s.x == x) && survives v s.path t.coord) (let r = root_at root t.coord in r.said))
      (list_any (λ (j : Joined). (j.x == x) && survives v j.path t.coord) (let r = root_at root t.coord in r.joined)) on)
    where
      access : (us : List Uid) (y : ℕ) (P : Option ℕ → Type 0) →
          IsAccess (let X = book Z.lines in X.accesses) t.coord.tree us y P → y ≡ x → survives v us t.coord ≡ true →
          uses Z.lines a.id x ≡ true
      access us y P (d, z, in_it, at_z, path_is, object, kept) same stays =
          let o = up.knows in
          let ties = o.ties in
          let sane = stands.sane in
          let path_same : uids_at (book Z.lines) d ≡ us = ties.paths d.act z (sane.acted d in_it) at_z ∙ sym path_is in
          used_by Z.lines right x a there d (in_from d (let X = book Z.lines in X.accesses) in_it) (object ∙ same)
          (subst (λ w. lasts_in (is_on (let X = book Z.lines in X.committed)) w (acts_of (book Z.lines) d)
          (top_in (acts_of (book Z.lines) d)) ≡ true) (sym uid) (lasts v e at top d (ap (λ vs. survives v vs t.coord) path_same ∙ stays)))

      called : list_any (λ (s : Said). (s.x == x) && survives v s.path t.coord) (let r = root_at root t.coord in r.said) ≡ true →
          uses Z.lines a.id x ≡ true
      called h =
          let f = some_in (λ (s : Said). (s.x == x) && survives v s.path t.coord) (let r = root_at root t.coord in r.said) h in
          let s = f.0 in
          let p = and_parts (s.x == x) (survives v s.path t.coord) f.2 in
          access s.path s.x (λ o. ⊤) (let o = up.knows in let ties = o.ties in
          ties.said root s (in_to s (let r = root_at root t.coord in r.said) f.1)) (eqb-true s.x x p.0) p.1

      included : list_any (λ (j : Joined). (j.x == x) && survives v j.path t.coord) (let r = root_at root t.coord in r.joined) ≡ true →
          uses Z.lines a.id x ≡ true
      included h =
          let f = some_in (λ (j : Joined). (j.x == x) && survives v j.path t.coord) (let r = root_at root t.coord in r.joined) h in
          let j = f.0 in
          let p = and_parts (j.x == x) (survives v j.path t.coord) f.2 in
          access j.path j.x (λ o. o ≡ Some j.store) (let o = up.knows in let ties = o.ties in
          ties.joined root j (in_to j (let r = root_at root t.coord in r.joined) f.1)) (eqb-true j.x x p.0) p.1
