-- A call or an include is answered: its line is right, and its coordinator knows the book after it.
use Rattle.arj_law_parts.proofs.Words
use Words.{◌≡◌, ℕ, List, [], ◌∷◌, false, Option, Some, None, refl, sym, ◌∙◌, ap, subst, is_on, Answer, Body, Label, ObjectState, Path, Uid}
use Words.{answer_text, name, uids_of, actor, end_line, root_heard, step_call, store_of, Answered, Ended, Goal, Include, Included, Run}
use Words.{Steps, Coord, Doing, Idle, Root, doing_of, on_doing, on_root, with_join, with_said, Effect, Say, say_for, says, Branch}
use Words.{branch_of, root_of, is_serial}
use Words.body
use Rattle.arj_law_runs.proofs.Terms
use Terms.{Act, act_in, on_tree, Access, Book, turned, with_access, AreIdle, Calls, HasBranch, IsKnown, IsLined, Knows, Ties, decides}
use Terms.{IsOpenSo}
use Rattle.arj_law_parts.proofs.parts.Truths.{IsFree}
use Rattle.arj_law_runs.proofs.journal
use journal.{Books.decided_later, Books.later_turn, Opens.IsAtWork, Ties.ties_joined, Ties.ties_said}
use journal.Effects.{Goes, are_later, goes_partly}
use journal.Endings.{SaysSame, about_it, end_same, plain_act}
use journal.Likes.{alike_calls, alike_idle, alike_knows, not_committing}

pub says_is : (u : Uid) (f : Label → Body) (c : Coord) (q : Doing) → doing_of u c ≡ Some q → says u f c ≡ Say (f q.label) ∷ []
says_is u f c q does = ap (λ o. say_for f o) does

-- a line of its own, and then what goes behind it
pub goes_line : (k : ℕ) (B : Book) (b : Body) (es : List Effect) (v : Coord) → IsLined k B (Say b) → (let V = turned B b in V.acts)
    ≡ B.acts → ((u : Uid) → decides B b ≡ Some u → HasBranch v u × AreIdle es) → Goes k (turned B b) es v → Goes k B (Say b ∷ es) v
goes_line k B b es v lined acts late g =
    record { lined = (lined, g.lined); knows = g.knows; calls = g.calls; puts = (tt, g.puts); acts = g.acts ∙ acts; late = (late, g.late) }

-- the action at work, by the book
pub its_known : (k : ℕ) (B : Book) (u : Uid) (c : Coord) (w : IsAtWork k c u) → Knows B c →
    IsKnown B u (let b = w.branch in b.kind) None (let q = w.doing in q.label)
its_known k B u c w knows = subst (λ o. IsKnown B u (let b = w.branch in b.kind) o (let q = w.doing in q.label)) w.opened
    (knows.acts u w.branch w.doing w.found w.does)

-- the action at work is open, and its commit wasn't called
pub open_at_work : (k : ℕ) (B : Book) (u : Uid) (c : Coord) (w : IsAtWork k c u) → is_serial (let b = w.branch in b.kind) ≡ false →
    IsFree u c → Knows B c → Calls B c → IsOpenSo false B (let q = w.doing in q.label)
open_at_work k B u c w plain free knows calls =
    let s = its_known k B u c w knows in
    let q = w.doing in (
      s.act,
      plain_act k B u (let b = w.branch in b.kind) q.label s w.here plain,
      ap (is_on B.called) s.uid ∙ calls u w.branch w.doing w.found w.does w.opened ∙ not_committing q.now (λ m is. free q m w.does is),
    )

-- The line answers an access.
record IsReply (k : ℕ) (B : Book) (new : Access) (line : Body) : Type 0 where
  lined : IsLined k B (Say line)
  says : (w : Uid) → SaysSame B (turned B line) w
  acts : (let V = turned B line in V.acts) ≡ B.acts
  accesses : (let V = turned B line in V.accesses) ≡ new ∷ B.accesses
  none : (u : Uid) → decides B line ≡ Some u → ⊥

module _ (k : ℕ) (B : Book) (u root : Uid) (c : Coord) (f : Root →
    Root) (free : IsFree u c) (knows : Knows B c) (calls : Calls B c) (new : Access) (line : Body) (reply : IsReply k B new line) where
  abbrev idle : Coord
  idle = on_doing u (λ (d : Doing). record d { now = Idle }) c

  abbrev V : Book
  V = turned B line

  goes_reply : Ties B.acts (new ∷ B.accesses) (let m = idle in m.tree) (let v = on_root root f idle in v.roots) →
      Goes k B (Say line ∷ []) (on_root root f idle)
  goes_reply ties = goes_line k B line [] (on_root root f idle) reply.lined reply.acts (λ x is. absurd (reply.none x is))
      (goes_partly k V [] (on_root root f idle) tt
      (record {
        acts = λ w b q found does. let s = m.acts w b q found does in record {
          act = s.act;
          named = ap (λ xs. act_in xs (name q.label)) reply.acts ∙ s.named;
          uid = s.uid;
          kind = s.kind;
          end = end_same B V w b.kind b.ended (reply.says w) s.end;
        };
        lists = λ r. are_later B V (later_turn B line) _ (m.lists r);
        plans = λ w q h does is. are_later B V (later_turn B line) _ (m.plans w q h does is);
        telling = λ w i there. decided_later B V (later_turn B line) w (m.telling w i there);
        ties = subst (λ xs. Ties xs V.accesses (let z = idle in z.tree) (let v = on_root root f idle in v.roots)) (sym reply.acts)
            (subst (λ rs. Ties B.acts rs (let z = idle in z.tree) (let v = on_root root f idle in v.roots)) (sym reply.accesses) ties);
      })
      (λ w b q found does opened. let s = reply.says w in
      s.called ∙ alike_calls B c idle (alike_idle u c free) calls w b q found does opened))
    where
      m : Knows B idle
      m = alike_knows B c idle (alike_idle u c free) knows

module _ (k : ℕ) (B : Book) (s : Steps) (c : Coord) (free : IsFree (actor s.path) c) (w : IsAtWork k c (actor s.path))
    (asks : (z : Branch) → branch_of (actor s.path) c.tree ≡ Some z → (z.path ≡ s.path) × (is_serial z.kind ≡ false)) (places : (v : Uid)
    (z : Branch) → branch_of v c.tree ≡ Some z → actor z.path ≡ v) (knows : Knows B c) (calls : Calls B c) where
  abbrev m : Coord
  m = on_doing (actor s.path) (λ (d : Doing). record d { now = Idle }) c

  known : IsKnown B (actor s.path) (let b = w.branch in b.kind) None (let q = w.doing in q.label)
  known = its_known k B (actor s.path) c w knows

  now : Knows B m
  now = alike_knows B c m (alike_idle (actor s.path) c free) knows

  same : (let d = m in d.tree) ≡ c.tree
  same = on_tree (actor s.path) (λ (d : Doing). record d { now = Idle }) c

  path : (let b = w.branch in b.path) ≡ s.path
  path = (asks w.branch w.found).0

  abbrev access : Option ℕ → Access
  access o = record { act = (let i = known in i.act); x = s.x; store = o }

  found_now : branch_of (let i = known in let a = i.act in a.uid) (let d = m in d.tree) ≡ Some w.branch
  found_now = let i = known in ap (λ v. branch_of v (let d = m in d.tree)) i.uid ∙ ap (branch_of (actor s.path)) same ∙ w.found

  places_now : (v : Uid) (z : Branch) → branch_of v (let d = m in d.tree) ≡ Some z → actor z.path ≡ v
  places_now v z at = places v z (ap (branch_of v) (sym same) ∙ at)

  opened : IsOpenSo false B (let q = w.doing in q.label)
  opened = open_at_work k B (actor s.path) c w (asks w.branch w.found).1 free knows calls

  about : (x : Act) → act_in B.acts (name (let q = w.doing in q.label)) ≡ Some x → (let y = x.uid in y.node) ≡ k
  about = about_it k B (actor s.path) (let b = w.branch in b.kind) (let q = w.doing in q.label) known w.here

  named_access : (o : Option ℕ) (line : Body) → (let V = turned B line in V.accesses) ≡ with_access
      (act_in B.acts (name (let q = w.doing in q.label))) s.x o B.accesses → (let V = turned B line in V.accesses) ≡ access o ∷ B.accesses
  named_access o line is = let i = known in is ∙ ap (λ z. with_access z s.x o B.accesses) i.named

  ok_reply : (o : _) (r : _) → IsReply k B (access None) (body.Ok (let q = w.doing in q.label) s.x o r)
  ok_reply o r = record {
    lined = (opened, about);
    says = λ v. record { called = refl; committed = refl; aborted = refl; ended = refl; found = refl };
    acts = refl;
    accesses = named_access None (body.Ok (let q = w.doing in q.label) s.x o r) refl;
    none = λ v is. cc is;
  }

  includes_reply : (n : ℕ) → IsReply k B (access (Some n)) (body.Includes (let q = w.doing in q.label) s.x n)
  includes_reply n = record {
    lined = (opened, about);
    says = λ v. record { called = refl; committed = refl; aborted = refl; ended = refl; found = refl };
    acts = refl;
    accesses = named_access (Some n) (body.Includes (let q = w.doing in q.label) s.x n) refl;
    none = λ v is. cc is;
  }

  pub goes_answered : (x : Answer) → Goes k B (step_call s (Ended (Answered x)) c).outs (step_call s (Ended (Answered x)) c).part
  goes_answered x = by s.goal
    where
      q : Doing
      q = w.doing

      ties : (o : Option ℕ) → Ties B.acts (access o ∷ B.accesses) (let d = m in
          d.tree) (let v = on_root (root_of s.path) (root_heard s (Answered x)) m in v.roots)
      ties o = subst (λ (p : Path). Ties B.acts (access o ∷ B.accesses) (let d = m in
          d.tree) (let v = on_root (root_of p) (with_said (record { path = uids_of p; x = s.x })) m in v.roots)) path
          (ties_said B.acts B.accesses m (let n = now in n.ties) places_now (let i = known in i.act) w.branch found_now s.x o)

      by : (g : Goal) → Goes k B (says (actor s.path) (end_line s.x g (Answered x)) c) (step_call s (Ended (Answered x)) c).part
      by (Run o) = subst (λ es. Goes k B es (step_call s (Ended (Answered x)) c).part)
          (sym (says_is (actor s.path) (end_line s.x (Run o) (Answered x)) c q w.does))
          (goes_reply k B (actor s.path) (root_of s.path) c (root_heard s (Answered x)) free knows calls (access None)
          (body.Ok (let d = w.doing in d.label) s.x o (answer_text x)) (ok_reply o (answer_text x)) (ties None))
      by (Include n) = subst (λ es. Goes k B es (step_call s (Ended (Answered x)) c).part)
          (sym (says_is (actor s.path) (end_line s.x (Include n) (Answered x)) c q w.does))
          (goes_reply k B (actor s.path) (root_of s.path) c (root_heard s (Answered x)) free knows calls (access (Some n))
          (body.Includes (let d = w.doing in d.label) s.x n) (includes_reply n) (ties (Some n)))

  pub goes_included : (st : ObjectState) → Goes k B (step_call s (Ended (Included st)) c).outs (step_call s (Ended (Included st)) c).part
  goes_included st =
      let q = w.doing in
      let n = store_of s.goal in
      subst (λ es. Goes k B es (step_call s (Ended (Included st)) c).part)
      (sym (says_is (actor s.path) (end_line s.x s.goal (Included st)) c q w.does))
      (goes_reply k B (actor s.path) (root_of s.path) c (root_heard s (Included st)) free knows calls (access (Some n))
      (body.Includes q.label s.x n) (includes_reply n)
      (subst (λ (p : Path). Ties B.acts (access (Some n) ∷ B.accesses) (let d = m in d.tree)
      (let v = on_root (root_of p) (with_join (record { path = uids_of p; x = s.x; store = n; loaded = st })) m in v.roots)) path
      (ties_joined B.acts B.accesses m (let z = now in z.ties) places_now (let i = known in i.act) w.branch found_now s.x n st)))
