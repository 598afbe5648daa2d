-- A coordinator's step goes in the whole world.
use Rattle.arj_law_parts.proofs.Words
use Words.{◌≡◌, ◌∙◌, ◌+◌, ◌++◌, ℕ, zero, suc, List, [], ◌∷◌, cond, Option, Some, None, refl, sym, ap, subst, inl, inr, ⊎_elim, arith}
use Words.{length, map, Contains, length-append, length-map, Body, Line, Uid, first_uid, Coord, Disk, Do, Effect, Say, Send, Parts}
use Words.{with_coord, Branch, at_place, branch_of, numbered, Post, Seen}
use Rattle.arj_law_lock_view.proofs.Terms
use Terms.{root, Run, State, Action, act_of, action_of, GoesOn, found_by, Within, posted, said, Up, Walks, AreAlike, View, Case, IsSeenIn}
use Terms.{Spot, view_in, world_at, AreSends, AreSendsShown, HasStepped, Fixed, view_of, HaveConfirms, SeesUp, IsSeenSo}
use Rattle.arj_law_lock_view.proofs.journal.Pages.{append_nil, append_one}
use Rattle.arj_law_lock_view.proofs.running
use running.{GoodSteps.good_node, GoodSteps.steady}
use running.NameSteps.{confirms_later, confirms_more, confirms_same}
use running.OtherSteps.{confirms_of, SeesOthers, here_of, others_of, past_on, posted_others, records_on, said_others, with_here}
use running.TieSteps.{IsTiedNow, tied_behind, tied_now, tied_quiet}
use running.UnitSteps.{naming_unit, others_unit, server_unit}
use Rattle.arj_law_lock_view.specs.running.Coordinating.{CoordsGo}

pub length_one : {A : Type 0} (xs : List A) (x : A) → length (xs ++ x ∷ []) ≡ length xs + 1
length_one [] x = refl
length_one (y ∷ xs) x = let ih = length_one xs x in omega (arith, ih)

-- ---- lines

pub length_said : (e : ℕ) (bs : List Body) (lines : List Line) → length (lines ++ numbered e bs) ≡ length lines + length bs
length_said e bs lines =
    length-append lines (numbered e bs) ∙ ap (λ n. length lines + n) (length-map bs (λ (b : Body). record { event = e; body = b }))

-- lines stand behind lines
pub says_then : (pre : List Body) (l : Body) (rest : List Effect) → map Say pre ++ (Say l ∷ rest) ≡ map Say (pre ++ l ∷ []) ++ rest
says_then [] l rest = refl
says_then (p ∷ pre) l rest = ap (λ es. Say p ∷ es) (says_then pre l rest)

pub says_more : (pre more : List Body) (rest : List Effect) → map Say pre ++ (map Say more ++ rest) ≡ map Say (pre ++ more) ++ rest
says_more [] more rest = refl
says_more (p ∷ pre) more rest = ap (λ es. Say p ∷ es) (says_more pre more rest)

pub says_as : (c : Case) (s : Spot) (u : Uid) (n m : ℕ) (C : Coord) (T : State) → n ≡ m → HasStepped c s u n C T → HasStepped c s u m C T
says_as c s u n m C T same has = subst (λ (k : ℕ). HasStepped c s u k C T) same has

-- ---- trees that go on

place_both : {A : Type 0} (xs ys : List A) (k : ℕ) (a : A) → length xs ≡ length ys → at_place k xs ≡ Some a →
    (b : A) × (at_place k ys ≡ Some b)
place_both {A} xs ys zero a long is = let no_way : ◌≡◌ {A = Option A} None (Some a) = is in absurd (cc no_way)
place_both {A} [] ys (suc k) a long is = let no_way : ◌≡◌ {A = Option A} None (Some a) = is in absurd (cc no_way)
place_both (x ∷ xs) [] (suc k) a long is = absurd (omega (arith, long))
place_both (x ∷ xs) (y ∷ ys) (suc zero) a long is = (y, refl)
place_both (x ∷ xs) (y ∷ ys) (suc (suc k)) a long is = place_both xs ys (suc k) a (omega (arith, long)) is

-- an action that is there now was there before
pub branch_back : (c e : Coord) → GoesOn c e → (u : Uid) (b : Branch) → branch_of u e.tree ≡ Some b →
    (a : Branch) × (branch_of u c.tree ≡ Some a)
branch_back c e on u b found =
    let f = found_by u e.tree b found in
    let p = place_both e.tree.branches c.tree.branches u.num b on.branches f.1 in
    (p.0, (λ i. cond ((sym (on.own u) ∙ f.0) i) (at_place u.num c.tree.branches) None) ∙ p.1)

-- ---- a walk

module _ (c : Case) (s : Spot) where
  abbrev f : Fixed
  f = c.fixed

  abbrev k : ℕ
  k = s.node

  -- messages go out, in the state that the machine has come to
  pub walk_sends : (e : ℕ) (v : Parts) (T : State) (outs : List Effect) (d : Disk) (M : Seen) → AreSends outs → AreSendsShown c s T outs →
      Within (let N = s.seen in N.sent) M.sent → SeesOthers f c.x c.begun k T M → SeesUp (view_of f c.x c.begun k) T d v →
      HaveConfirms f c.x k T (let N = s.seen in N.sent) d (Some v) → IsTiedNow f c.x c.begun T M.lines → Run c.state T
      → Walks (IsSeenSo c) e k outs (Up (IsSeenSo c) k v) d M
  walk_sends e v T [] d M sends shown within others up confirms now run = λ agrees. (
    T,
    with_here f c.x c.begun k d (Some v) T M others up
        (confirms_more f c.x k T (let N = s.seen in N.sent) M.sent within d (Some v) confirms),
    now.tied,
    run,
  )
  walk_sends e v T (Send to m ∷ es) d M sends shown within others up confirms now run = λ more quiet.
      let p : Post = record { from = k; to = to; message = m } in
      walk_sends e v T es d (said e more (posted p M)) sends.1 shown.1 (λ q there. inr (within q there))
      (said_others f c.x c.begun k e more T (posted p M) (posted_others f c.x c.begun k p T M others
      (shown.0 (p ∷ M.sent) (λ q there. inr (within q there))))) up confirms (tied_quiet f c.x c.begun e more T M.lines quiet now) run
  walk_sends e v T (Say b ∷ es) d M sends shown within others up confirms now run = absurd sends.0
  walk_sends e v T (Do w ∷ es) d M sends shown within others up confirms now run = absurd sends.0

  -- lines are said in the state before
  pub walk_says : (e : ℕ) (v : Parts) (S : State) (bs : List Body) (rest : List Effect) (d : Disk) (M : Seen) →
      SeesOthers f c.x c.begun k S M → Within (let N = s.seen in N.sent) M.sent
      → ((N : Seen) → N.lines ≡ M.lines ++ numbered e bs → Within (let N = s.seen in N.sent) N.sent → SeesOthers f c.x c.begun k S N →
      Walks (IsSeenSo c) e k rest (Up (IsSeenSo c) k v) d N)
      → Walks (IsSeenSo c) e k (map Say bs ++ rest) (Up (IsSeenSo c) k v) d M
  walk_says e v S [] rest d M others within end = end M (sym (append_nil M.lines)) within others
  walk_says e v S (b ∷ bs) rest d M others within end =
      walk_says e v S bs rest d (said e (b ∷ []) M) (said_others f c.x c.begun k e (b ∷ []) S M others) within
      (λ N lines. end N (lines ∙ append_one M.lines (numbered e bs) (record { event = e; body = b })))

-- ---- all of it

module _ (c : Case) (s : Spot) (is_seen : IsSeenIn c (world_at s)) (u : Uid) (b : Branch)
    (found : branch_of u (let t = s.parts in let q = t.coord in q.tree) ≡ Some b) (C : Coord) (on : GoesOn (let t = s.parts in t.coord) C)
    (says : ℕ) (T : State) (has : HasStepped c s u says C T) where
  abbrev t : Parts
  t = s.parts

  abbrev S : State
  S = c.state

  abbrev V : View
  V = view_in c s.node

  abbrev alike : AreAlike c.fixed.act c.fixed.paths
  alike = let a = is_seen.agrees in let g = a.whole in g.alike

  here : SeesUp V S s.disk t
  here = here_of c.fixed c.x c.begun s.node s.disk (Some t) S s.seen is_seen.sees

  pub home : (w : Uid) → root (c.fixed.act w) ≡ root (c.fixed.act u) → (let r = first_uid (c.fixed.paths w) in r.node) ≡ s.node
  home w same = ap (λ (r : Uid). r.node) (alike.units w u same) ∙ here.home u b found

  pub one : (a : Action) × Contains c.begun a × (root (c.fixed.act (act_of a)) ≡ root (c.fixed.act u))
  one = (
    action_of b,
    (let g = good_node c s is_seen in let h = g.coord in h.known u b found),
    ap (λ (w : Uid). root (c.fixed.act w)) (let g = steady c s is_seen in g.good.tree.lists.places u b found),
  )

  -- the node with its new coordinator
  pub up_then : SeesUp V T s.disk (with_coord t C)
  up_then = record {
    server = server_unit c.fixed c.x (root (c.fixed.act u)) S T has.only V t here.server;
    coord = has.coord;
    naming = naming_unit c.fixed c.x (root (c.fixed.act u)) S T has.only V t.naming here.naming;
    inc = here.inc;
    place = here.place;
    home = λ w q there. (let a = branch_back t.coord C on w q there in here.home w a.0 a.1);
    past = λ a begun at_home. ⊎_elim (λ old. (let r = on.kinds (act_of a) old.0 old.1 in inl (r.0, r.1))) (λ past_it. inr past_it)
        (past_on S T (let o = has.only in o.ended) V (let q = t.coord in q.tree) here.past a begun at_home);
    records = records_on S T (let o = has.only in o.ended) V None (let d = s.disk in d.intents) here.records;
  }

  -- whom the node has confirmed, whatever records are on its disk
  pub confirms_then : (e : Disk) → (let d = s.disk in e.names ≡ d.names) →
      HaveConfirms c.fixed c.x s.node T (let M = s.seen in M.sent) e (Some (with_coord t C))
  confirms_then e names = confirms_same c.fixed c.x s.node T (let M = s.seen in M.sent) s.disk e t (with_coord t C) names refl
      (confirms_later c.fixed c.x s.node S T ((let f = c.fixed in f.first), (let z = is_seen.sees in z.run)) has.run
      (λ one. (let o = has.only in o.confirmed)) (let M = s.seen in M.sent) (let M = s.seen in
      M.sent) (λ r i. i) s.disk (Some t) (confirms_of c.fixed c.x c.begun s.node s.disk (Some t) S s.seen is_seen.sees))

pub coords_go : CoordsGo
coords_go c s e u b bs sends C T is_seen found on are_sends has shown none tied =
    walk_says c s e (with_coord s.parts C) c.state bs sends s.disk s.seen
    (others_of c.fixed c.x c.begun s.node s.disk (Some s.parts) c.state s.seen is_seen.sees) (λ q there. there)
    (λ N lines within others. walk_sends c s e (with_coord s.parts C) T sends s.disk N are_sends shown within
    (others_unit c.fixed c.x (root (c.fixed.act u)) c.begun s.node c.state T N has.run has.only
    (home c s is_seen u b found C on (length bs) T has) (one c s is_seen u b found C on (length bs) T has) has.changed
    (let m = has.now in let long = ap length lines ∙ length_said e bs (let M = s.seen in M.lines) in omega (arith, m, long)) others)
    (up_then c s is_seen u b found C on (length bs) T has) (confirms_then c s is_seen u b found C on (length bs) T has s.disk refl)
    (subst (IsTiedNow c.fixed c.x c.begun T) (sym lines)
    (tied_behind c.fixed c.x c.begun e bs c.state T (let M = s.seen in M.lines) none (tied_now c (world_at s) is_seen) tied)) has.run)
