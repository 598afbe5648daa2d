-- Each request that was sent has short lists, and its marks are of objects and nodes.
use Rattle.arj_law_parts.proofs.Words
use Words.{◌≡◌, ◌≤◌, arith, ℕ, List, [], ◌∷◌, length, map, filter, refl, sym, subst, ⊎_elim, not, Some, AllByRecursion}
use Words.{length-map, ⊤, Ask, Binding, End, Head, Header, Uid, At, AtActivate, AtBind, AtInvoke, AtLoad}
use Words.{AtNote, Goal, ask_at, Confirming, Machine, Plan, Preparing, Used, Voting, ask_of, is_at_server, is_marked}
use Words.{joins_left, state_for, Calling, Committing, Idle, Now, Disk, Parts, ends_in, root_of}
use Words.{Seen, actor}
use Words.ask
use Rattle.arj_law_promise.proofs.Terms
use Terms.{HeaderFits, IsSentBy, KeepsAsked, all_filter, bare, node_here, up}
use Rattle.arj_law_promise.proofs.meant.Posts.{RequestsAre, posts_keep}
use Rattle.arj_law_runs.proofs.addresses.Lists.{all_flat, all_map}
use Rattle.arj_law_runs.proofs.coordinators.RunCoords.{few_ends}
use Rattle.arj_law_runs.specs.addresses.Addresses.{AreOf, MachineOf, UsedOf, IsNode as IsOfHeader}
use Rattle.arj_law_serial.proofs.joint.JoinStep.{EachUp}
use Rattle.arj_law_cause.proofs.spelled.Commits.{Base, Few, few_keep, few_nodes, node_number, nodes, of_few, room}
use Rattle.arj_law_cause.proofs.spelled.Lists.{filter_map_shorter, filter_shorter, flat_short}
use Rattle.arj_law_cause.proofs.spelled.Plans.{IsFew, IsOfFew, JoinOnce, OfObject}
use Rattle.arj_msg.specs.InForm.{AreMany, IsNode, IsObject}

-- ---- how many there are

-- an object with a node
abbrev pub IsMark : ℕ × ℕ → Type 0
IsMark m = IsObject m.0 × IsNode m.1

-- the lists of a request are short, and its marks are of objects and nodes
abbrev pub AreShort : Ask → Type 0
AreShort (ask.Invoke x b i ends op) = length ends ≤ 255
AreShort (ask.Vote i ties ends) = (length ties ≤ 255) × (length ends ≤ 255)
AreShort (ask.Prepare states) = length states ≤ 255
AreShort (ask.Confirm grants excluded included) = (length grants ≤ 255) × AreMany IsMark excluded × AreMany IsMark included
AreShort a = ⊤

-- ---- a step of a call

-- what a step asks
abbrev IsOfCall : Ask → Type 0
IsOfCall (ask.Vote i ties ends) = ⊥
IsOfCall (ask.Prepare states) = ⊥
IsOfCall (ask.Confirm grants excluded included) = ⊥
IsOfCall a = ⊤

of_call : (x : ℕ) (g : Goal) (at : At) → IsOfCall (ask_at x g [] at)
of_call x g (AtBind avoid) = tt
of_call x g (AtLoad k s rest) = tt
of_call x g (AtActivate k st) = tt
of_call x g (AtNote k i) = tt
of_call x g (AtInvoke k i) = tt

call_short : (a : Ask) → IsOfCall (bare a) → length (ends_in a) ≤ 255 → AreShort a
call_short (ask.Bind x include avoid) of few = tt
call_short (ask.Load x) of few = tt
call_short (ask.Activate b st) of few = tt
call_short (ask.Record x b i g) of few = tt
call_short (ask.Invoke x b i ends op) of few = few
call_short (ask.Vote i ties ends) of few = absurd of
call_short (ask.Prepare states) of few = absurd of
call_short (ask.Confirm grants ex inc) of few = absurd of

-- ---- a step of a commit

module _ (hd : Header) (form : HeaderFits hd) where
  both_marks : (ms : List (ℕ × ℕ)) → AllByRecursion OfObject ms → AllByRecursion (λ (m : ℕ × ℕ). IsOfHeader hd m.1) ms →
      AllByRecursion IsMark ms
  both_marks [] objects nodes_are = tt
  both_marks (m ∷ ms) objects nodes_are =
      ((objects.0, node_number hd form m.1 nodes_are.0), both_marks ms objects.1 nodes_are.1)

  module _ (p : Plan) where
    join_short : (w : Used) → length w.joins ≤ 16 → length (joins_left p w) ≤ 16
    join_short w few =
        let same = length-map {A = ℕ} {B = ℕ × ℕ} (filter (λ s. not (is_marked w.x s p)) w.joins) (λ s. (w.x, s)) in
        let less = filter_shorter (λ s. not (is_marked w.x s p)) w.joins in
        omega (arith, same, less, few)

    joins_short : (us : List Used) → JoinOnce us → AllByRecursion (UsedOf (IsOfHeader hd)) us →
        AllByRecursion (λ (w : Used). length (joins_left p w) ≤ 16) us
    joins_short [] once all = tt
    joins_short (w ∷ us) once all =
        (join_short w (few_nodes hd form w.joins once.0 (let its = all.0 in its.2)), joins_short us once.1 all.1)

    join_marks : (w : Used) → IsObject w.x → (ns : List ℕ) → AreOf (IsOfHeader hd) ns →
        AllByRecursion IsMark (map {A = ℕ} {B = ℕ × ℕ} (λ s. (w.x, s)) (filter (λ s. not (is_marked w.x s p)) ns))
    join_marks w object ns all = all_map (IsOfHeader hd) IsMark (λ s. (w.x, s)) (filter (λ s. not (is_marked w.x s p)) ns)
        (λ n is. (object, node_number hd form n is)) (kept ns all)
      where
        kept : (ms : List ℕ) → AreOf (IsOfHeader hd) ms → AreOf (IsOfHeader hd) (filter (λ s. not (is_marked w.x s p)) ms)
        kept ms its = all_filter (IsOfHeader hd) (λ s. not (is_marked w.x s p)) ms its

    joins_marks : (us : List Used) → AllByRecursion (λ (w : Used). IsObject w.x) us → AllByRecursion (UsedOf (IsOfHeader hd)) us →
        AllByRecursion (λ (w : Used). AllByRecursion IsMark (joins_left p w)) us
    joins_marks [] objects all = tt
    joins_marks (w ∷ us) objects all = (join_marks w objects.0 w.joins (let its = all.0 in its.2), joins_marks us objects.1 all.1)

  commit_short : (u : Uid) (m : Machine) (to : ℕ) → IsFew u m → IsOfFew m → MachineOf (IsOfHeader hd) m → AreShort (ask_of m to)
  commit_short u (Voting p left) to its f of =
      let few = f.few in
      let same = length-map {A = Used} {B = ℕ × Binding} (filter (is_at_server to) p.used) (λ w. (w.x, w.binding)) in
      let less = filter_shorter (is_at_server to) p.used in
      (omega (arith, few, same, less), its.0)
  commit_short u (Preparing p left) to its f of =
      let few = f.few in let less = filter_map_shorter (state_for to p) p.used in omega (arith, few, less)
  commit_short u (Confirming p) to its f of =
      let few = f.few in
      let plan = of.0 in
      let same = length-map {A = Used} {B = ℕ × ℕ} p.used (λ w. (w.x, w.grant)) in
      let marks = its.2 in
      let most = marks.1 in
      let joined = flat_short (joins_left p) p.used (joins_short p p.used its.1 plan.used) in (
        omega (arith, few, same),
        (omega (arith, most), both_marks p.excluded marks.0 plan.excluded),
        (
          omega (arith, few, joined),
          all_flat (λ (w : Used). AllByRecursion IsMark (joins_left p w)) IsMark (joins_left p) p.used (λ w each. each)
              (joins_marks p p.used f.objects plan.used),
        ),
      )

  -- ---- as it is sent

  abbrev pub Known : Seen → Type 0
  Known M = Base hd M × EachUp Few M

  sent_short : (k : ℕ) (c : Disk) (v : Parts) (N : Seen) → Known (up k c v N) → (to : ℕ) (h : Head) (a : Ask) → IsSentBy v.coord to h a →
      AreShort a
  sent_short k c v N known to h a s = by (let q = s.doing in q.now) refl
    where
      by : (n : Now) → (let q = s.doing in q.now) ≡ n → AreShort a
      by Idle is = absurd (s.busy is)
      by (Calling w) is =
          let o = s.step w is in
          call_short a (subst IsOfCall (sym o.same) (of_call w.x w.goal w.at))
          (⊎_elim (λ none. subst (λ (es : List (Uid × End)). length es ≤ 255) (sym none) (omega arith))
          (λ all. subst (λ (es : List (Uid × End)). length es ≤ 255) (sym all)
          (few_ends v.coord.tree (room hd form k c v N known.0) (root_of w.path))) (s.brings w is))
      by (Committing m) is =
          let o = s.commit m is in
          let its = known.1 k (record { number = k; disk = c; live = Some v }) v
          (node_here N k (record { number = k; disk = c; live = Some v })) refl (actor h.path) s.doing m s.found is in
          subst AreShort (sym o.same)
          (commit_short (actor h.path) m to its (of_few hd form k c v N known.0 (actor h.path) s.doing s.found m is)
          (nodes hd form k c v N known.0 (actor h.path) s.doing s.found m is))

  pub requests_keep : KeepsAsked hd (λ M. Known M × RequestsAre (λ h a. AreShort a) M)
  requests_keep = posts_keep hd Known (few_keep hd form) (λ M known. let b = known.0 in let w = b.0 in let e = w.0.0.0.0.0 in (e.0, e.1))
      (λ h a. AreShort a) sent_short
