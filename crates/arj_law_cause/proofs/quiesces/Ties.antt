-- Who is up, who waits and which frames are open at the nodes of a run, as its journal has it.
use Rattle.arj_law_parts.proofs.Words
use Words.{◌≡◌, ◌∙◌, ◌+◌, ◌≤◌, ◌<◌, ◌==◌, ◌&&◌, ◌||◌, not, ℕ, zero, suc, Bool, true, false, cond, List, [], ◌∷◌, refl, sym, ap, subst}
use Words.{arith, nat_tests, nat_le, Option, Some, None, is_some, option_map, AllByRecursion, and_parts, list_all, In, inl, inr, Uid}
use Words.{Header, Coord, Doing, Idle, Calling, Committing, Now, Node, Parts, World, Frame, at_place, coord_in, coord_of, doing_of, is_node, is_open_frame}
use Words.{is_up, is_up_at, is_waiting_now, lowest_from, name, see, slice_get, uid_at, is_own, AreUp, NobodyWaits}
use Rattle.arj_promise.specs.Runs.{HeaderFits}
use Rattle.arj_law_parts.specs.moves.Moments.{History}
use Rattle.arj_law_runs.proofs.Terms.{Act, acts}
use Rattle.arj_law_runs.proofs.follow.Frames as frames
use Rattle.arj_law_runs.proofs.follow.Refusing as refusing
use Rattle.arj_law_runs.proofs.follow.Telling.{opens}
use Rattle.arj_law_runs.proofs.kept.Walked.{same_number}
use Rattle.arj_model.specs.Past.{Past}
use Rattle.arj_model.specs.Refusals as model
use Rattle.arj_model.specs.Refusals.{is_committing, is_down, is_waiting, waits_for}
use Rattle.arj_law_cause.proofs.told.Joined as joined
use Rattle.arj_law_cause.proofs.waits.waiting.Acting as acting
use Rattle.arj_law_cause.proofs.waits.waiting.Running as running
use Rattle.arj_law_cause.specs.rounds.Quiesces.{are_up, nobody_waits}
use Rattle.arj_law_cause.specs.waits.waiting.Waits.{IsAt, IsAtWork}
use Rattle.std.specs.List.{range_with_len}

-- ---- tests on lists

pub all_there : {A : Type 0} (f : A → Bool) (xs : List A) (x : A) → In x xs → list_all f xs ≡ true → f x ≡ true
all_there f [] x there all = absurd there
all_there f (y ∷ ys) x (inl same) all = sym (ap f same) ∙ (and_parts (f y) (list_all f ys) all).0
all_there f (y ∷ ys) x (inr there) all = all_there f ys x there (and_parts (f y) (list_all f ys) all).1

all_range : (f : ℕ → Bool) (a k n : ℕ) → list_all f (range_with_len a k) ≡ true → a ≤ n → n < a + k → f n ≡ true
all_range f a zero n all low high = absurd (none a n low high)
  where
    none : (a n : ℕ) → a ≤ n → n < a + 0 → ⊥
    none a n low high = omega (arith, low, high)
all_range f a (suc k) n all low high = by (a == n) refl (λ above below. all_range f (a + 1) k n parts.1 above below)
  where
    parts : (f a ≡ true) × (list_all f (range_with_len (a + 1) k) ≡ true)
    parts = and_parts (f a) (list_all f (range_with_len (a + 1) k)) all

    here : (a == n) ≡ true → a ≡ n
    here is = grind (arith, nat_tests, is)

    above : (a == n) ≡ false → a + 1 ≤ n
    above apart = grind (arith, nat_tests, apart, low)

    below : n < (a + 1) + k
    below = omega (arith, high)

    by : (b : Bool) → (a == n) ≡ b → (a + 1 ≤ n → n < (a + 1) + k → f n ≡ true) → f n ≡ true
    by true is rest = sym (ap f (here is)) ∙ parts.0
    by false apart rest = rest (above apart) below

-- no number, no open frame
pub none_opens : (k : ℕ) (fs : List Frame) → opens k fs ≡ [] → lowest_from k fs ≡ None
none_opens k [] none = refl
none_opens k (f ∷ fs) none = by (is_open_frame f) none (none_opens (k + 1) fs)
  where
    by : (b : Bool) → cond b (k ∷ opens (k + 1) fs) (opens (k + 1) fs) ≡ [] → (opens (k + 1) fs ≡ [] → lowest_from (k + 1) fs ≡ None) →
        cond b (Some k) (lowest_from (k + 1) fs) ≡ None
    by true no_way rest = absurd (cc no_way)
    by false none rest = rest none

pub opens_none : (k : ℕ) (fs : List Frame) → lowest_from k fs ≡ None → opens k fs ≡ []
opens_none k [] none = refl
opens_none k (f ∷ fs) none = by (is_open_frame f) none (opens_none (k + 1) fs)
  where
    by : (b : Bool) → cond b (Some k) (lowest_from (k + 1) fs) ≡ None → (lowest_from (k + 1) fs ≡ None → opens (k + 1) fs ≡ []) →
        cond b (k ∷ opens (k + 1) fs) (opens (k + 1) fs) ≡ []
    by true no_way rest = let never : ◌≡◌ {A = Option ℕ} (Some k) None = no_way in absurd (cc never)
    by false none rest = rest none

-- who is at nothing doesn't wait
waits_not : (l : List ℕ) (p : Past) → waits_for p.accepted p.lines l ≡ None → is_committing p.lines l ≡ false → is_waiting p l ≡ false
waits_not l p none rests = λ i. is_some (none i) || rests i

module _ (hd : Header) (form : HeaderFits hd) (p : Past) (w : World) (s : joined.Inv hd form p w) where
  abbrev pub past : History
  past = s.0.1.1.0.0

  pub works : running.Stands hd form (s.0.1.1.0.0) p w
  works = let z = s.0.1.1.0.1 in z.base

  pub base : refusing.Stands hd form p w
  base = works.base

  pub told : frames.Stands hd form p w
  told = base.base

  pub same_lines : p.lines ≡ w.lines
  same_lines = told.lines

  -- a node of the header, in the world's words
  pub node_so : (n : ℕ) → is_node n w ≡ model.is_node hd n
  node_so n = λ i. nat_le 1 n && nat_le n (told.is i).nodes

  pub node_there : (n : ℕ) (x : Node) → at_place n w.nodes ≡ Some x → is_node n w ≡ true
  node_there n x there = node_so n ∙ (told.placed.nodes n x there).0

  -- ---- who is up

  pub ups : (n : ℕ) → model.is_node hd n ≡ true → is_up_at n w ≡ not (is_down p.start p.lines n)
  ups n node = by (at_place n w.nodes) refl (told.placed.places n node)
    where
      twice : (b : Bool) → b ≡ not (not b)
      twice true = refl
      twice false = refl

      by : (o : Option Node) → at_place n w.nodes ≡ o → is_some o ≡ true → is_up o ≡ not (is_down p.start p.lines n)
      by None there some = absurd (cc some)
      by (Some x) there some = twice (is_some x.live) ∙ ap not (sym (told.tells.ups n x there))

  pub all_up : are_up hd p.start p.lines ≡ true → AreUp w
  all_up up n node = ups n (sym (node_so n) ∙ node) ∙ all_range (λ n. not (is_down p.start p.lines n)) 1 hd.nodes n up low high
    where
      its : (nat_le 1 n ≡ true) × (nat_le n hd.nodes ≡ true)
      its = and_parts (nat_le 1 n) (nat_le n hd.nodes) (sym (node_so n) ∙ node)

      low : 1 ≤ n
      low = let is = its.0 in grind (arith, nat_tests, is)

      high : n < 1 + hd.nodes
      high = let is = its.1 in grind (arith, nat_tests, is)

  -- ---- which frames are open

  pub none_open : model.open_frames p.lines ≡ [] → lowest_from 1 w.frames ≡ None
  none_open none = none_opens 1 w.frames (sym told.tells.pending ∙ none)

  pub open_none : lowest_from 1 w.frames ≡ None → model.open_frames p.lines ≡ []
  open_none none = told.tells.pending ∙ opens_none 1 w.frames none

  -- ---- who waits

  pub at_node : (k : ℕ) (n : Node) (t : Parts) (u : Uid) (d : Doing) → at_place k w.nodes ≡ Some n → n.live ≡ Some t →
      doing_of u t.coord ≡ Some d → IsAt p.accepted p.lines d.label d.now
  at_node k n t u d there live does = subst (λ ls. IsAt p.accepted ls d.label d.now) (sym same_lines)
      (running.at_node hd form (s.0.1.1.0.0) p w works k n t u d there live does)

  -- who waits by the journal is at work
  pub at_work : (l : List ℕ) → is_waiting p l ≡ true → IsAtWork w l
  at_work l waits = let a = running.agree hd form (s.0.1.1.0.0) p w works in
      a.others l ((λ i. is_some (waits_for (works.same.accepted i) (works.same.lines i) l) || is_committing (works.same.lines i) l) ∙ waits)

  -- the action at work, as the journal has it
  pub its_act : (k : ℕ) (n : Node) (t : Parts) (u : Uid) (d : Doing) (there : at_place k w.nodes ≡ Some n) (live : n.live ≡ Some t) →
      doing_of u t.coord ≡ Some d → (a : Act) × In a (acts p.lines) × (a.label ≡ name d.label) × (a.uid ≡ u)
  its_act k n t u d there live does =
      let h = base.halts in
      let x = acting.stands (see h.sent w) h.holds k n t there live u d does in
      (x.act, subst (λ ls. In x.act (acts ls)) (sym same_lines) x.began, x.label, x.uid)

  -- who waits at its node waits by the journal
  pub waits_so : (k : ℕ) (n : Node) (t : Parts) (u : Uid) (d : Doing) → at_place k w.nodes ≡ Some n → n.live ≡ Some t →
      doing_of u t.coord ≡ Some d → is_waiting_now d.now ≡ true → is_waiting p (name d.label) ≡ true
  waits_so k n t u d there live does waits = by d.now waits (at_node k n t u d there live does)
    where
      or_true : (b : Bool) → b || true ≡ true
      or_true true = refl
      or_true false = refl

      by : (x : Now) → is_waiting_now x ≡ true → IsAt p.accepted p.lines d.label x → is_waiting p (name d.label) ≡ true
      by Idle off at = absurd (cc off)
      by (Calling q) on at = λ i. is_some (at.waits i) || is_committing p.lines (name d.label)
      by (Committing m) on at = (λ i. is_some (waits_for p.accepted p.lines (name d.label)) || at.1 i)
          ∙ or_true (is_some (waits_for p.accepted p.lines (name d.label)))

  -- where nobody waits by the journal nobody does at nodes
  pub nobody : nobody_waits p ≡ true → NobodyWaits w
  nobody none k c node found = all c.doings (λ j d at. one j d at)
    where
      never : (b : Bool) → not b ≡ true → b ≡ true → ⊥
      never true off on = absurd (cc off)
      never false off on = absurd (cc on)

      all : (ds : List Doing) → ((j : ℕ) (d : Doing) → slice_get ds j ≡ Some d → d.now ≡ Idle) → AllByRecursion (λ (d : Doing). d.now ≡ Idle) ds
      all [] each = tt
      all (d ∷ ds) each = (each zero d refl, all ds (λ j e at. each (suc j) e at))

      its : (n : Node) (t : Parts) → at_place k w.nodes ≡ Some n → n.live ≡ Some t → coord_of t ≡ c → (j : ℕ) (d : Doing) →
          slice_get c.doings j ≡ Some d → d.now ≡ Idle
      its n t there live same j d at = idle d.now refl
        where
          own : is_own (uid_at (suc j) t.coord) t.coord.tree ≡ true
          own = λ i. same_number t.coord.tree.node i && same_number t.coord.tree.inc i

          does : doing_of (uid_at (suc j) t.coord) t.coord ≡ Some d
          does = (λ i. cond (own i) (at_place (suc j) t.coord.doings) None) ∙ ap (λ (x : Coord). slice_get x.doings j) same ∙ at

          a : (a : Act) × In a (acts p.lines) × (a.label ≡ name d.label) × (a.uid ≡ uid_at (suc j) t.coord)
          a = its_act k n t (uid_at (suc j) t.coord) d there live does

          waits : is_waiting_now d.now ≡ true → ⊥
          waits is = never (is_waiting p (name d.label))
              (sym (ap (λ l. not (is_waiting p l)) a.2) ∙ all_there (λ (x : Act). not (is_waiting p x.label)) (acts p.lines) a.0 a.1 none)
              (waits_so k n t (uid_at (suc j) t.coord) d there live does is)

          idle : (x : Now) → d.now ≡ x → d.now ≡ Idle
          idle Idle is = is
          idle (Calling q) is = absurd (waits (ap is_waiting_now is))
          idle (Committing m) is = absurd (waits (ap is_waiting_now is))

      live_in : (n : Node) → at_place k w.nodes ≡ Some n → (o : Option Parts) → n.live ≡ o → option_map coord_of o ≡ Some c → (j : ℕ) (d : Doing) →
          slice_get c.doings j ≡ Some d → d.now ≡ Idle
      live_in n there None live is = let no_way : ◌≡◌ {A = Option Coord} None (Some c) = is in absurd (cc no_way)
      live_in n there (Some t) live is = let same : coord_of t ≡ c = cc is in its n t there live same

      node_in : (o : Option Node) → at_place k w.nodes ≡ o → coord_in o ≡ Some c → (j : ℕ) (d : Doing) → slice_get c.doings j ≡ Some d → d.now ≡ Idle
      node_in None there is = let no_way : ◌≡◌ {A = Option Coord} None (Some c) = is in absurd (cc no_way)
      node_in (Some n) there is = live_in n there n.live refl is

      one : (j : ℕ) (d : Doing) → slice_get c.doings j ≡ Some d → d.now ≡ Idle
      one = node_in (at_place k w.nodes) refl found
