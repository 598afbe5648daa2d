-- Calls of a coordinator, as the book of the journal has them.
use Rattle.arj_law_parts.proofs.Words
use Words.{ℕ, ◌≡◌, ◌+◌, List, [], ◌∷◌, map, Bool, true, false, cond, Option, Some, None, refl, sym}
use Words.{ap, subst, inl, inr}
use Words.{In, Ask, Body, End, Kind, Label, Op, Path, Uid, uid_eq, uids_of}
use Words.{actor, asks_all, asks_node, asks_step, call, call_steps, doomed_by, end_line}
use Words.{gaveup_lines, goes_on}
use Words.{include, is_invoke_ask, mark_lines, next_req, renewed, root_heard}
use Words.{step_call, Answered, At, AtActivate, AtBind, AtInvoke, AtLoad, AtNote, CallEnd}
use Words.{CallStep, Changed, Conflict, Ended, Goal, Include, Included, Lost, On, Steps, ask_at, next_ask, next_node}
use Words.{start, Confirming, Machine, Preparing, Voting, ask_of, left_of}
use Words.{plan_of, Calling, Coord, Doing, Idle, doing_of, is_free}
use Words.{keeping_of, on_doing, on_root, root_at, with_keeping, with_went, Went, Effect, Intent}
use Words.{Say, ended}
use Words.{say_for, says, tolds_by, tolds_of, tolds_of_branch, up_to, unbound}
use Words.{Branch, branch_of, doomed_at, ends_of, root_of}
use Words.{uses_object, is_serial}
use Words.body
use Words.ending
use Words.kind
use Words.commit
use Rattle.arj_law_runs.proofs.Terms
use Terms.{ends_in}
use Terms.{doomed_same, on_tree, uses_same}
use Terms.{Book}
use Terms.{AreSaid, Calls, Knows, IsNamed, IsOpenSo}
use Rattle.arj_law_parts.proofs.parts.Truths.{IsFree}
use Rattle.arj_law_runs.proofs.coordinators.CoordUses.{KeepsUses, went_keeps}
use Rattle.arj_law_runs.proofs.journal
use journal.Answering.{goes_answered, goes_included, its_known}
use journal.Effects.{ArePartly, Goes, IsPartly, all_flat, goes_partly}
use journal.Effects.{request_claims, sends_partly, tells_partly}
use journal.Likes.{Alike, alike_idle, alike_calls, alike_knows, alike_on, alike_root, alike_same, alike_then, alike_tree, both_free}
use journal.Opens.{IsAtWork}

-- ---- lists of ends

said_up_to : (B : Book) (u : Uid) (es : List (Uid × End)) → AreSaid B es → AreSaid B (up_to u es)
said_up_to B u [] all = tt
said_up_to B u (e ∷ es) all = by (uid_eq e.0 u) (said_up_to B u es all.1)
  where
    by : (b : Bool) → AreSaid B (up_to u es) → AreSaid B (cond b (e ∷ []) (e ∷ up_to u es))
    by true ih = (all.0, tt)
    by false ih = (all.0, ih)

-- a call ended without an answer
abbrev IsQuietEnd : CallEnd → Type 0
IsQuietEnd (Answered a) = ⊥
IsQuietEnd (Included st) = ⊥
IsQuietEnd e = Unit {0}

module _ (k : ℕ) (B : Book) where
  -- a step of a call brings the ends of its root at most
  ask_said : (x : ℕ) (g : Goal) (ends : List (Uid × End)) (at : At) → AreSaid B ends → AreSaid B (ends_in (ask_at x g ends at))
  ask_said x g ends (AtBind avoid) s = tt
  ask_said x g ends (AtLoad q n rest) s = tt
  ask_said x g ends (AtActivate q st) s = tt
  ask_said x g ends (AtNote q i) s = tt
  ask_said x g ends (AtInvoke q i) s = s

  pub step_partly : (s : Steps) (c : Coord) → ((r : Uid) → AreSaid B (ends_of r c.tree)) → ArePartly k B (asks_step s c).outs
  step_partly s c lists = (
    sends_partly k B (next_node s) _ (request_claims B (record { path = s.path; req = s.req }) (next_ask (ends_of (root_of s.path) c.tree)
        s) (ask_said s.x s.goal (ends_of (root_of s.path) c.tree) s.at (lists (root_of s.path)))),
    tt,
  )

  -- what a commit's step asks brings the ends of its plan at most
  machine_said : (m : Machine) (n : ℕ) → AreSaid B (let p = plan_of m in p.ends) → AreSaid B (ends_in (ask_of m n))
  machine_said (Voting p left) n s = s
  machine_said (Preparing p left) n s = tt
  machine_said (Confirming p) n s = tt

  asks_partly : (p : Path) (req : ℕ) (asked : List (ℕ × Ask)) (c : Coord) → ((a : ℕ × Ask) → In a asked → AreSaid B (ends_in a.1)) →
      ArePartly k B (asks_all p req asked c).outs
  asks_partly p req [] c each = tt
  asks_partly p req (a ∷ rest) c each =
      let d = asks_node p req a c in (
        sends_partly k B a.0 _ (request_claims B (record { path = p; req = req }) a.1 (each a (inl refl))),
        asks_partly p req rest d.part (λ b i. each b (inr i)),
      )

  pub machine_partly : (m : Machine) (c : Coord) → AreSaid B (let p = plan_of m in p.ends) →
      ArePartly k B (asks_all (plan_of m).path (plan_of m).req (commit.waiting m) c).outs
  machine_partly m c s = asks_partly (plan_of m).path (plan_of m).req (commit.waiting m) c (λ a i. each (left_of m) a i)
    where
      each : (ns : List ℕ) (a : ℕ × Ask) → In a (map {A = ℕ} {B = ℕ × Ask} (λ n. (n, ask_of m n)) ns) → AreSaid B (ends_in a.1)
      each [] a i = absurd i
      each (n ∷ ns) a (inl same) = subst (λ (b : ℕ × Ask). AreSaid B (ends_in b.1)) same (machine_said m n s)
      each (n ∷ ns) a (inr i) = each ns a i

  -- the tolds of an end
  pub tolds_partly : (intents : List (Uid × Intent)) (c : Coord) (u : Uid) → ((r : Uid) → AreSaid B (ends_of r c.tree)) →
      ArePartly k B (tolds_of intents c u)
  tolds_partly intents c u lists = by (branch_of u c.tree)
    where
      kinds : (h : Kind) (p : Path) → ArePartly k B (tolds_by u h p intents c)
      kinds kind.Nested p = tells_partly k B (root_of p) false (up_to u (ends_of (root_of p) c.tree))
          _ (said_up_to B u (ends_of (root_of p) c.tree) (lists (root_of p)))
      kinds kind.Serial p = tells_partly k B u false ((u, ending.Abort) ∷ []) _ (tt, tt)
      kinds kind.Top p = tells_partly k B (root_of p) false ((u, ending.Abort) ∷ []) _ (tt, tt)
      kinds kind.Independent p = tells_partly k B (root_of p) false ((u, ending.Abort) ∷ []) _ (tt, tt)
      kinds kind.Constituent p = tells_partly k B (root_of p) false ((u, ending.Abort) ∷ []) _ (tt, tt)

      by : (b : Option Branch) → ArePartly k B (tolds_of_branch u intents c b)
      by None = tt
      by (Some b) = kinds b.kind b.path

  -- a line by the label of its action
  says_one : (u : Uid) (f : Label → Body) (c : Coord) (q : Doing) → doing_of u c ≡ Some q → IsPartly k B (Say (f q.label)) →
      ArePartly k B (says u f c)
  says_one u f c q does one = let all : ArePartly k B (Say (f q.label) ∷ []) = (one, tt) in
      subst (ArePartly k B) (sym (ap (λ o. say_for f o) does)) all

  pub marks_partly : (u : Uid) (marks : List (ℕ × ℕ)) (c : Coord) (q : Doing) → doing_of u c ≡ Some q → IsOpenSo true B q.label →
      ArePartly k B (mark_lines u marks c)
  marks_partly u marks c q does timely = all_flat (IsPartly k B) (λ (m : ℕ × ℕ). says u (λ l. body.Excluded l m.0 m.1) c) marks
      (λ m i. says_one u (λ l. body.Excluded l m.0 m.1) c q does (record { lined = (timely, tt); same = refl; puts = tt }))

  pub gaveup_partly : (u : Uid) (nodes : List ℕ) (c : Coord) (q : Doing) → doing_of u c ≡ Some q → IsNamed B q.label →
      ArePartly k B (gaveup_lines u nodes c)
  gaveup_partly u nodes c q does named = all_flat (IsPartly k B) (λ n. says u (λ l. body.GaveUp l n) c) nodes
      (λ n i. says_one u (λ l. body.GaveUp l n) c q does (record { lined = (named, tt); same = refl; puts = tt }))

  -- the ends of calls that leave the book as it is
  end_partly : (x : ℕ) (g : Goal) (e : CallEnd) (l : Label) → IsNamed B l → IsQuietEnd e → IsPartly k B (Say (end_line x g e l))
  end_partly x g (Answered a) l named quiet = absurd quiet
  end_partly x g (Included st) l named quiet = absurd quiet
  end_partly x g (Conflict h m n) l named quiet = record { lined = (named, tt); same = refl; puts = tt }
  end_partly x g (Changed n w) l named quiet = record { lined = (named, tt); same = refl; puts = tt }
  end_partly x g (Lost n b) l named quiet = record { lined = (named, tt); same = refl; puts = tt }

-- ---- calls

pub alike_asks : (p : Path) (req : ℕ) (asked : List (ℕ × Ask)) (c : Coord) → Alike c (asks_all p req asked c).part
alike_asks p req [] c = alike_same c
alike_asks p req (a ∷ rest) c =
    let went : Went = record { path = uids_of p; node = a.0; invoke = is_invoke_ask a.1 } in
    let d = asks_node p req a c in
    alike_then c d.part (asks_all p req rest d.part).part (alike_root (root_of p) (with_went went) c (went_keeps went))
    (alike_asks p req rest d.part)

pub alike_step : (s : Steps) (c : Coord) → Alike c (asks_step s c).part
alike_step s c = let went : Went =
    record { path = uids_of s.path; node = next_node s; invoke = is_invoke_ask (next_ask (ends_of (root_of s.path) c.tree) s) } in
    alike_root (root_of s.path) (with_went went) c (went_keeps went)

alike_goes : (s : Steps) (c : Coord) → IsFree (actor s.path) c → Alike c (goes_on s c).part
alike_goes s c free =
    let w : Coord = on_doing (actor s.path) (λ (d : Doing). record d { req = s.req; now = Calling s }) c in
    alike_then c w (goes_on s c).part (alike_on (actor s.path) (λ (d : Doing). record d { req = s.req; now = Calling s }) c
    (λ d found. (refl, both_free d.now (Calling s) (λ m is. free d m found is) (λ m is. absurd (cc is))))) (alike_step s w)

alike_ends : (s : Steps) (e : CallEnd) (c : Coord) → IsQuietEnd e → IsFree (actor s.path) c → Alike c (step_call s (Ended e) c).part
alike_ends s e c quiet free = by e quiet
  where
    w : Coord
    w = on_doing (actor s.path) (λ (d : Doing). record d { now = Idle }) c

    at : CallEnd → Coord
    at f = on_root (root_of s.path) (root_heard s f) (on_doing (actor s.path) (λ (d : Doing). record d { now = Idle }) c)

    its : (f : CallEnd) → KeepsUses (root_heard s f) → Alike c (at f)
    its f keeps = alike_then c w (at f) (alike_idle (actor s.path) c free) (alike_root (root_of s.path) (root_heard s f) w keeps)

    by : (f : CallEnd) → IsQuietEnd f → Alike c (doomed_by (actor s.path) f (at f))
    by (Answered a) q = absurd q
    by (Included st) q = absurd q
    by (Conflict h m n) q = its (Conflict h m n) (record { said = λ r. refl; joined = λ r. refl })
    by (Changed n x) q = its (Changed n x) (record { said = λ r. refl; joined = λ r. refl })
    by (Lost n false) q = its (Lost n false) (record { said = λ r. refl; joined = λ r. refl })
    by (Lost n true) q =
        let v : Coord = at (Lost n true) in
        alike_then c v (record v { tree = doomed_at (actor s.path) v.tree })
        (its (Lost n true) (record { said = λ r. refl; joined = λ r. refl }))
        (alike_tree v (doomed_at (actor s.path) v.tree) (doomed_same (actor s.path) v.tree))

module _ (k : ℕ) (B : Book) where
  pub like_goes : (c v : Coord) (outs : List Effect) → ArePartly k B outs → Alike c v → Knows B c → Calls B c → Goes k B outs v
  like_goes c v outs all a knows calls = goes_partly k B outs v all (alike_knows B c v a knows) (alike_calls B c v a calls)

  goes_step : (s : Steps) (d c : Coord) → Alike d c → IsFree (actor s.path) c → Knows B d → Calls B d →
      Goes k B (goes_on s c).outs (goes_on s c).part
  goes_step s d c a free knows calls =
      let w : Coord = on_doing (actor s.path) (λ (x : Doing). record x { req = s.req; now = Calling s }) c in
      like_goes d (goes_on s c).part (goes_on s c).outs (step_partly k B s w (λ r. subst (λ t. AreSaid B (ends_of r t))
      (sym (on_tree (actor s.path) (λ (x : Doing). record x { req = s.req; now = Calling s }) c)) (let q = alike_knows B d c a knows in
      q.lists r))) (alike_then d c (goes_on s c).part a (alike_goes s c free)) knows calls

  pub goes_call_step : (s : Steps) (t : CallStep) (d c : Coord) → Alike d c → IsFree (actor s.path) c → (w : IsAtWork k c (actor s.path)) →
      ((z : Branch) → branch_of (actor s.path) c.tree ≡ Some z → (z.path ≡ s.path) × (is_serial z.kind ≡ false)) → ((v : Uid)
      (z : Branch) → branch_of v c.tree ≡ Some z → actor z.path ≡ v) → Knows B d → Calls B d →
      Goes k B (step_call s t c).outs (step_call s t c).part
  goes_call_step s (On at) d c a free w asks places knows calls = goes_step (record s { req = s.req + 1; at = at }) d c a free knows calls
  goes_call_step s (Ended e) d c a free w asks places knows calls = by e
    where
      q : Doing
      q = w.doing

      named : IsNamed B (let p = w.doing in p.label)
      named = let n = its_known k B (actor s.path) c w (alike_knows B d c a knows) in (n.act, n.named)

      quiet : (f : CallEnd) → IsQuietEnd f → Goes k B (step_call s (Ended f) c).outs (step_call s (Ended f) c).part
      quiet f so = like_goes d (step_call s (Ended f) c).part (step_call s (Ended f) c).outs
          (says_one k B (actor s.path) (end_line s.x s.goal f) c q w.does (end_partly k B s.x s.goal f q.label named so))
          (alike_then d c (step_call s (Ended f) c).part a (alike_ends s f c so free)) knows calls

      by : (f : CallEnd) → Goes k B (step_call s (Ended f) c).outs (step_call s (Ended f) c).part
      by (Answered x) = goes_answered k B s c free w asks places (alike_knows B d c a knows) (alike_calls B d c a calls) x
      by (Included st) = goes_included k B s c free w asks places (alike_knows B d c a knows) (alike_calls B d c a calls) st
      by (Conflict h m n) = quiet (Conflict h m n) tt
      by (Changed n x) = quiet (Changed n x) tt
      by (Lost n x) = quiet (Lost n x) tt

  pub goes_call : (p : Path) (x : ℕ) (o : Op) (c : Coord) → IsFree (actor p) c → Knows B c → Calls B c →
      Goes k B (call p x o c).outs (call p x o c).part
  goes_call p x o c free knows calls =
      let r = root_at (root_of p) c in
      let old = keeping_of x r in
      let h = renewed (is_free (root_of p) (actor p) x c) old old.kept in
      let u : Coord = record c { tree = uses_object p x c.tree } in
      let t : Coord = on_root (root_of p) (with_keeping x h) u in
      let same = uses_same p x c.tree in
      goes_step (call_steps p x o (next_req (actor p) c) r c h) c t (alike_then c u t (alike_tree c (uses_object p x c.tree) same)
      (alike_root (root_of p) (with_keeping x h) u (record { said = λ q. refl; joined = λ q. refl }))) free knows calls

  pub goes_include : (p : Path) (x s : ℕ) (c : Coord) → IsFree (actor p) c → Knows B c → Calls B c →
      Goes k B (include p x s c).outs (include p x s c).part
  goes_include p x s c free knows calls = let u : Coord = record c { tree = uses_object p x c.tree } in goes_step (start p x (Include s)
      None unbound (next_req (actor p) c)) c u (alike_tree c (uses_object p x c.tree) (uses_same p x c.tree)) free knows calls
