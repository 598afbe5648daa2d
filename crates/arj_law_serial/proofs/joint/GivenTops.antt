-- Where both machines of an object stand in one state: tops of its calls, their nodes, and what the lock machine has of them.
use Rattle.arj_law_parts.proofs.Words
use Words.{◌≡◌, ℕ, List, [], ◌∷◌, true, false, Some, Contains, refl, sym, ◌∙◌, ap, subst, inl, inr, ⊎_elim, AllByRecursion, in_to, Header}
use Words.{Uid, uid_number, Node, Seen, is_serial}
use Words.list
use Rattle.arj_law_serial.proofs.Terms
use Terms.{Act, acts, first_values, Action, act_of, Core, book, is_decided, new_book, IsGiven, AreAlike, AreRight, is_book}
use Terms.{its_acts, State, Holds, start_holds, RootsLow, roots_low, start_low, start_values, Votes, run_all_votes, start_votes}
use Terms.{IsTiedToLines, Fixed, HasPlaces}
use Terms.disk
use Rattle.arj_law_lock.proofs.machine.ValueClaims.{Values}
use Rattle.arj_law_serial.proofs.{joint.Starting.stands_for, joint.Given.AreBeside, order.Begun.begun_have_places, order.Ties.IsAsSaid}
use Rattle.arj_law_serial.proofs.{order.Ties.as_said}

all_at : {A : Type 0} (P : A → Type 0) (xs : List A) → AllByRecursion P xs → (a : A) → list.In a xs → P a
all_at P [] all a i = absurd i
all_at P (x ∷ xs) all a (inl same) = subst P same all.0
all_at P (x ∷ xs) all a (inr i) = all_at P xs all.1 a i

-- an action of the journal was begun
alike_in : (begun : List Action) (bs : List Act) → AreAlike begun bs → (b : Act) → list.In b bs →
    (a : Action) × list.In a begun × (act_of a ≡ b.uid)
alike_in [] [] alike b i = absurd i
alike_in [] (c ∷ bs) alike b i = absurd alike
alike_in (a ∷ begun) [] alike b i = absurd i
alike_in (a ∷ begun) (c ∷ bs) alike b (inl same) = (a, inl refl, sym alike.0 ∙ ap (λ (z : Act). z.uid) same)
alike_in (a ∷ begun) (c ∷ bs) alike b (inr i) = let r = alike_in begun bs alike.3 b i in (r.0, inr r.1, r.2)

module _ (hd : Header) (f : Fixed) (x : ℕ) (begun : List Action) (S : State) (M : Seen) (b : AreBeside hd f x begun S M) where
  abbrev pub disk_of : disk.State
  disk_of = let A = b.office in A.world.disk

  pub core : Core disk_of
  core = let d = b.both in let s = d.disks in let w = s.whole in w.core

  pub right : AreRight new_book M.lines
  right = let s = b.seen in let w = s.written in w.right

  runs : Holds S × Values S × Votes S
  runs = let s = b.seen in let l = s.sees in run_all_votes l.run (start_holds f.first) (start_values f.first) (start_votes f.first)

  pub holds : Holds S
  holds = runs.0

  pub values : Values S
  values = runs.1

  pub votes : Votes S
  votes = runs.2

  pub low : RootsLow S
  low = let s = b.seen in let l = s.sees in roots_low l.run (start_low f.first)

  pub places : HasPlaces f.act M.lines
  places = let s = b.seen in let a = s.agrees in
      begun_have_places begun f.paths f.act M.lines right (subst (AreAlike begun) (its_acts M.lines right) s.alike) a.whole

  pub tied : IsTiedToLines f.act f.code (first_values hd) x M.lines S
  tied = let s = b.seen in s.tied (first_values hd) (stands_for (first_values hd) M.start.marks x f b.agrees.1.0)

  -- what the machine has of an action
  pub said_of : (a : Act) → list.In a (acts M.lines) → is_serial a.kind ≡ false → IsAsSaid M.lines a (S.action (f.act a.uid))
  said_of a i plain = as_said M.lines a (S.action (f.act a.uid)) (tied.ends a (in_to a (acts M.lines) i) plain)

  -- who is decided by the journal is committed
  pub committed_there : (a : Act) → list.In a (acts M.lines) → is_serial a.kind ≡ false → is_decided (book M.lines) a.uid ≡ true →
      (let k = S.action (f.act a.uid) in k.stage) ≡ 3
  committed_there a i plain on = (said_of a i plain).done ((let k = is_book M.lines right in k.decided a (in_to a (acts M.lines) i)) ∙ on)

  -- its node is there
  pub node_of : (a : Act) → list.In a (acts M.lines) → (n : Node) × (M.nodes (let u = a.uid in u.node) ≡ Some n)
  node_of a i =
      let s = b.seen in
      let w = s.written in
      let g = all_at (IsGiven M.labels) (book M.lines).acts w.labels a (subst (list.In a) (sym (its_acts M.lines right)) i) in
      let n = b.housed g.0 g.1 g.3 in
      (n.0, ap M.nodes (sym g.4) ∙ n.1)

  -- and it is one of those that were begun
  pub begun_of : (a : Act) → list.In a (acts M.lines) → (z : Action) × Contains begun z × (act_of z ≡ a.uid)
  begun_of a i = let s = b.seen in let r = alike_in begun (book M.lines).acts s.alike a
      (subst (list.In a) (sym (its_acts M.lines right)) i) in (r.0, in_to r.0 begun r.1, r.2)

  -- who is decided by the disk machine is so by the journal
  pub said_there : (u : Uid) (n : Node) → M.nodes u.node ≡ Some n → disk.decided disk_of (uid_number u) ≡ true →
      is_decided (book M.lines) u ≡ true
  said_there u n here on = ⊎_elim (λ is. is) (λ late. b.early u n here late.down on) (b.carried.0.1.0 u n here on)
