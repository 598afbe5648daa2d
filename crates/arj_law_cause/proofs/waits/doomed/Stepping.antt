-- A node's step in its world: each call that waits for its operation has a frame that asks for it, as long as every frame fits. And what
-- of coordinators' trees beginnings, ends and uses of objects leave as it is stays.
use Rattle.arj_law_parts.proofs.Words
use Words.{◌≡◌, ◌≢◌, ◌⊎◌, ◌∙◌, ◌+◌, ◌-◌, ◌==◌, ◌||◌, ℕ, zero, suc, Bool, true, false, if◌then◌else◌, List, [], ◌∷◌, ◌++◌, length, take}
use Words.{Option, Some, None, IfSome, refl}
use Words.{sym, ap, subst, inl, inr, ⊎_elim, ⊤, arith, nat_tests, nat_lt, eqb-true, in_right, place_other, taken_took, Ask, Asked, Body}
use Words.{Head, Header, Kind, Label}
use Words.{Message, Uid, asks, Reply, Effect, Say, Send, Disk, Handled, Parts, Ran, Took, Void, taken, handle, most_rounds, next_round, ran}
use Words.{rounds, whole, with_coord}
use Words.{again_all, begin_action, tick_outs, heard, Coord, doing_of, Doing, Steps, Input, Node, Step, acts, handled_step, node_did}
use Words.{Machine, only_says}
use Words.{parent_of, parts_in, refusal_at, refusal_up, restart_outs, step, step_unless, void_step, Tree, at_place, begun, new_tree}
use Words.{set_place, Arm, Frame}
use Words.{World, armed, count_works, cut, disarmed, done_step, frames_with, halted_at, halted_outs, most_frames, put, sends, set_node}
use Words.{step_node, step_with, steps, Post, Seen, see, coord_in, is_invoke}
use Words.body
use Words.input
use Words.list as members
use Rattle.arj_law_runs.proofs.Terms
use Terms.{AreBrought, Asking, HasWay, Want, Holds, In, IsGood, KeepsAsked, Up, Walks, at, is_act, place_same, taken_meant, up}
use Terms.{want_of_call}
use Terms.{want_of_commit}
use Terms.{AnswersWaits}
use Rattle.arj_promise.specs.Runs.{HeaderFits}
use Rattle.arj_law_parts.specs.moves.Keeps.{AsksNode}
use Rattle.arj_law_promise.proofs.settling.Waiting.{AllKnown, all_answer, all_kept}
use Rattle.arj_law_runs.proofs.coordinators.{CoordRooms.acked_tree, CoordRooms.again_tree, CoordUses.some_is}
use Rattle.arj_law_runs.proofs.kept.Parted.{IsLeft, coord_kept}
use Rattle.arj_law_runs.proofs.resting
use resting.{Effects.works, Hearing.IsHome, Quiesces.good_home, Quiesces.keeps_good, Serving.asks_no_answer}
use resting.Flights.{Left, with_here, whole_keeps}
use resting.Passing.{Brought, coords, message_brings}
use resting.Ways.{AllBut, Then, brought_more, brought_of, post_of}
use resting.Ways as ways
use resting.Worlds.{nodes_in}
use Rattle.arj_law_runs.specs.resting.Waits.{Answering, Brings}
use Rattle.arj_protocol.specs.World.{overflows}
use Rattle.arj_law_cause.proofs.waits.doomed.Asking
use Asking.{AreUnderWay, IsOther, acts_go, again_goes, begins_go, from_brought, gone_on, machine_kind, to_brought}
use Rattle.arj_law_cause.proofs.waits.doomed.Wanting
use Wanting.{AreAsked, Calls, Commits, Waits, WaitsOn, asked_landed, asked_more, go_waits, message_waits, whole_asks}
use Rattle.arj_law_cause.proofs.waits.doomed.Sending
use Sending.{HasFrame, NoneTo, all_fit, has_left, has_right, none_both, sends_has, whole_none}

-- ---- what is under way

-- a request between two nodes has its frame
pub record IsFramed (fs : List Frame) (p : Post) : Type 0 where
  pub frame : HasFrame fs p
  pub apart : p.from ≢ p.to
  pub asked : Head × Ask
  pub asking : asks p.message ≡ Some asked

-- so it is, or it isn't for an operation
abbrev pub IsUnderWay : List Frame → Post → Type 0
IsUnderWay fs p = IsFramed fs p ⊎ IsOther p

pub more_frames : (fs gs : List Frame) (p : Post) → IsUnderWay fs p → IsUnderWay (fs ++ gs) p
more_frames fs gs p (inl f) = inl (record { frame = has_left fs gs p f.frame; apart = f.apart; asked = f.asked; asking = f.asking })
more_frames fs gs p (inr o) = inr o

pub ways_to : (k : ℕ) (c : Coord) (F U : Post → Type 0) → ((p : Post) → F p → U p) → AreUnderWay k c F → AreUnderWay k c U
ways_to k c F U to its = record {
  calls = λ u q s does now is. way (want_of_call u s) (its.calls u q s does now is);
  commits = λ u q m j does now left. way (want_of_commit u m j) (its.commits u q m j does now left);
}
  where
    way : (x : Want) → HasWay F k x → HasWay U k x
    way x w = record { post = w.post; under_way = to w.post w.under_way; brings = w.brings }

-- what a whole step sends has its frames
landed : (n : ℕ) (c : Coord) (fs : List Frame) (es : List Effect) → NoneTo n es → overflows fs (sends n es) ≡ false →
    AreUnderWay n c (Then (IsUnderWay fs) n es) → AreUnderWay n c (IsUnderWay (frames_with fs (sends n es)))
landed n c fs es none fits its = record {
  calls = λ u q s does now is. way (want_of_call u s) (its.calls u q s does now is);
  commits = λ u q m j does now left. way (want_of_commit u m j) (its.commits u q m j does now left);
}
  where
    all : frames_with fs (sends n es) ≡ fs ++ sends n es
    all = all_fit fs (sends n es) fits

    there : (x : Want) (p : Post) → Brings n x p → Then (IsUnderWay fs) n es p → HasWay (IsUnderWay (frames_with fs (sends n es))) n x
    there x p b (inl old) = record {
      post = p;
      under_way = subst (λ xs. IsUnderWay xs p) (sym all) (more_frames fs (sends n es) p old);
      brings = b;
    }
    there x p (Asking f t a) (inr sent) = record {
      post = p;
      under_way = inl (record {
        frame = subst (λ xs. HasFrame xs p) (sym all) (has_right fs (sends n es) p
            (subst (λ j. HasFrame (sends n es) (record { from = j; to = p.to; message = p.message })) (sym sent.0)
            (sends_has n es p.to p.message sent.1)));
        apart = λ same. none p.message (subst (λ j. members.In (Send j p.message) es) (sym same ∙ sent.0) sent.1);
        asked = (a.head, a.ask);
        asking = a.is;
      });
      brings = Asking f t a;
    }
    there x p (Answering f t a) (inr sent) = absurd (none p.message (subst (λ j. members.In (Send j p.message) es) t sent.1))

    way : (x : Want) → HasWay (Then (IsUnderWay fs) n es) n x → HasWay (IsUnderWay (frames_with fs (sends n es))) n x
    way x w = there x w.post w.brings w.under_way

same_number : (n : ℕ) → (n == n) ≡ true
same_number n = grind (arith, nat_tests)

-- who waits for its operation has asked another node for it by a frame
pub framed_way : (fs : List Frame) (k : ℕ) (u : Uid) (s : Steps) → is_invoke s.at ≡ true → HasWay (IsUnderWay fs) k (want_of_call u s) →
    (p : Post) × IsFramed fs p × (p.from ≡ k) × (p.to ≡ Words.next_node s) × Terms.AsksFor (want_of_call u s) p.message
framed_way fs k u s is way = by way.post way.brings way.under_way
  where
    Result : Type 0
    Result = (p : Post) × IsFramed fs p × (p.from ≡ k) × (p.to ≡ Words.next_node s) × Terms.AsksFor (want_of_call u s) p.message

    kind_of : (at : Words.At) → is_invoke at ≡ true → Words.ask_kind (Words.ask_at s.x s.goal [] at) ≡ 5
    kind_of (Words.AtBind b) is = absurd (cc is)
    kind_of (Words.AtLoad q n rest) is = absurd (cc is)
    kind_of (Words.AtActivate q st) is = absurd (cc is)
    kind_of (Words.AtNote q i) is = absurd (cc is)
    kind_of (Words.AtInvoke q i) is = refl

    five : (a : Ask) → Words.is_invoke_ask a ≡ false → Words.ask_kind a ≡ 5 → ⊥
    five (Words.ask.Bind x i b) off same = let no_way : ◌≡◌ {A = ℕ} 1 5 = same in omega (arith, no_way)
    five (Words.ask.Load x) off same = let no_way : ◌≡◌ {A = ℕ} 2 5 = same in omega (arith, no_way)
    five (Words.ask.Activate b st) off same = let no_way : ◌≡◌ {A = ℕ} 3 5 = same in omega (arith, no_way)
    five (Words.ask.Record x b i g) off same = let no_way : ◌≡◌ {A = ℕ} 4 5 = same in omega (arith, no_way)
    five (Words.ask.Invoke x b i ends o) off same = cc off
    five (Words.ask.Vote i ties ends) off same = let no_way : ◌≡◌ {A = ℕ} 6 5 = same in omega (arith, no_way)
    five (Words.ask.Prepare states) off same = let no_way : ◌≡◌ {A = ℕ} 7 5 = same in omega (arith, no_way)
    five (Words.ask.Confirm g x y) off same = let no_way : ◌≡◌ {A = ℕ} 8 5 = same in omega (arith, no_way)

    by : (p : Post) → Brings k (want_of_call u s) p → IsUnderWay fs p → Result
    by p (Asking f t a) (inl framed) = (p, framed, f, t, a)
    by p (Asking f t a) (inr other) =
        let one = some_is (a.head, a.ask) other.0 (sym a.is ∙ other.1) in
        absurd (five (let x = other.0 in x.1) other.2 (sym (ap (λ (x : Head × Ask). Words.ask_kind x.1) one) ∙ a.kind ∙ kind_of s.at is))
    by p (Answering f t a) (inl framed) = let x = framed.asked in
        let no_way : ◌≡◌ {A = Option (Asked × Reply)} None (Some _) = sym (asks_no_answer p.message x.0 x.1 framed.asking)
        ∙ a.is in absurd (cc no_way)
    by p (Answering f t a) (inr other) = let x = other.0 in
        let no_way : ◌≡◌ {A = Option (Asked × Reply)} None (Some _) = sym (asks_no_answer p.message x.0 x.1 other.1)
        ∙ a.is in absurd (cc no_way)

-- a commit waits for no answer of its own node
pub never_own : (fs : List Frame) (k : ℕ) (u : Uid) (m : Machine) → HasWay (IsUnderWay fs) k (want_of_commit u m k) → ⊥
never_own fs k u m way = by way.post way.brings way.under_way
  where
    by : (p : Post) → Brings k (want_of_commit u m k) p → IsUnderWay fs p → ⊥
    by p (Asking f t a) (inl framed) = framed.apart (f ∙ sym t)
    by p (Asking f t a) (inr other) =
        let one = some_is (a.head, a.ask) other.0 (sym a.is ∙ other.1) in
        let no_way : true ≡ false = sym (machine_kind m k) ∙ ap (Words.nat_le 6) (sym a.kind)
        ∙ ap (λ (x : Head × Ask). Words.nat_le 6 (Words.ask_kind x.1)) one ∙ other.3 in cc no_way
    by p (Answering f t a) (inl framed) = framed.apart (f ∙ sym t)
    by p (Answering f t a) (inr other) = let x = other.0 in
        let no_way : ◌≡◌ {A = Option (Asked × Reply)} None (Some _) = sym (asks_no_answer p.message x.0 x.1 other.1)
        ∙ a.is in cc no_way

-- what an input to this node rests on, where these messages were sent
abbrev pub Comes : Header → List Post → ℕ → Input → Type 0
Comes hd sent k (input.Frame j from m) = IfSome m (λ x. In (post_of from k x) sent)
Comes hd sent k i = AsksNode hd i

-- ---- worlds

module _ (hd : Header) (form : HeaderFits hd) (P : Tree → Type 0) (hears : (from : ℕ) (a : Asked) (r : Reply) (intents : List (Uid ×
    Words.Intent)) (c : Coord) → P c.tree → P (heard from a r intents c).part.tree)
    (begins : (how : Kind) (parent : Option Words.Branch) (t : Tree) → P t → P (begun how parent t))
    (fresh : (n inc : ℕ) → P (new_tree n inc)) where
  -- what is known of every run
  abbrev pub Known : Seen → Type 0
  Known M = AllKnown hd M × IsGood M

  pub keeps : KeepsAsked hd (λ M. AllKnown hd M × IsGood M)
  keeps = keeps_good hd (AllKnown hd) (all_kept hd form)

  gives : AnswersWaits hd (λ M. AllKnown hd M × IsGood M)
  gives = all_answer hd form (λ M. AllKnown hd M × IsGood M) (λ M p. p.0)

  homes : (k : ℕ) (d : Disk) (t : Parts) (M : Seen) → AllKnown hd (up k d t M) × IsGood (up k d t M) → IsHome t.coord
  homes k d t M p = good_home k d t M p.1

  -- so it is in the world
  pub record IsKnown (w : World) : Type 0 where
    pub sent : List Post
    pub header : w.header ≡ hd
    pub numbers : (k : ℕ) (n : Node) → at_place k w.nodes ≡ Some n → n.number ≡ k
    pub holds : AllKnown hd (see sent w) × IsGood (see sent w)

  pub known_of : (w : World) → Holds hd (λ M. AllKnown hd M × IsGood M) w → IsKnown w
  known_of w h = record { sent = h.sent; header = h.stands.header; numbers = h.stands.numbers; holds = h.holds }

  -- Each call and commit at a node that is up has what answers it under way, each tree there is so, and a frame asks for all that is waited
  -- for of other nodes.
  pub record Stands (w : World) : Type 0 where
    pub calls : (k : ℕ) (a : Node) (t : Parts) → at_place k w.nodes ≡ Some a → a.live ≡ Some t → AreUnderWay k t.coord (IsUnderWay w.frames)
    pub trees : (k : ℕ) (a : Node) (t : Parts) → at_place k w.nodes ≡ Some a → a.live ≡ Some t → P t.coord.tree
    pub asked : (k : ℕ) (a : Node) (t : Parts) → at_place k w.nodes ≡ Some a → a.live ≡ Some t → AreAsked k t.coord w.frames

  put_stands : (n : ℕ) (a b : Node) (outs : List Effect) (w : World) → at_place n w.nodes ≡ Some a → Stands w →
      ((t : Parts) → b.live ≡ Some t → AreUnderWay n t.coord (IsUnderWay (frames_with w.frames (sends n outs))) × P t.coord.tree
      × AreAsked n t.coord (frames_with w.frames (sends n outs))) →
      Stands (put n outs (set_node n b w))
  put_stands n a b outs w there s its = record {
    calls = λ k x t found live. (both k x t found live).0;
    trees = λ k x t found live. (both k x t found live).1;
    asked = λ k x t found live. (both k x t found live).2;
  }
    where
      both : (k : ℕ) (x : Node) (t : Parts) → at_place k (set_place n b w.nodes) ≡ Some x → x.live ≡ Some t →
          AreUnderWay k t.coord (IsUnderWay (frames_with w.frames (sends n outs))) × P t.coord.tree
          × AreAsked k t.coord (frames_with w.frames (sends n outs))
      both k x t found live = by (k == n) refl
        where
          apart : (k == n) ≡ false → k ≢ n
          apart e = grind (arith, nat_tests, e)

          by : (z : Bool) → (k == n) ≡ z → AreUnderWay k t.coord (IsUnderWay (frames_with w.frames (sends n outs))) × P t.coord.tree
              × AreAsked k t.coord (frames_with w.frames (sends n outs))
          by true e =
              let same : k ≡ n = eqb-true k n e in
              let one : b ≡ x = some_is b x (sym (place_same n b a w.nodes there) ∙ ap (λ j. at_place j (set_place n b w.nodes)) (sym same)
              ∙ found) in
              let r = its t (ap (λ (y : Node). y.live) one ∙ live) in (
                subst (λ j. AreUnderWay j t.coord (IsUnderWay (frames_with w.frames (sends n outs)))) (sym same) r.0,
                r.1,
                subst (λ j. AreAsked j t.coord (frames_with w.frames (sends n outs))) (sym same) r.2,
              )
          by false e =
              let old = sym (place_other n k b w.nodes (apart e)) ∙ found in (
                ways_to k t.coord (IsUnderWay w.frames) (IsUnderWay (frames_with w.frames (sends n outs)))
                    (more_frames w.frames (take (most_frames - length w.frames) (sends n outs))) (s.calls k x t old live),
                s.trees k x t old live,
                asked_more k t.coord w.frames (take (most_frames - length w.frames) (sends n outs)) (s.asked k x t old live),
              )

  -- what holds of a step of node k behind it, where its frames fit
  abbrev Leaves : World → ℕ → Step → Type 0
  Leaves w k s = overflows w.frames (sends k s.outs) ≡ false → (t : Parts) → (let n = s.after in n.live) ≡ Some t →
      AreUnderWay k t.coord (IsUnderWay (frames_with w.frames (sends k s.outs))) × P t.coord.tree
      × AreAsked k t.coord (frames_with w.frames (sends k s.outs))

  second : (x y : Bool) → (x || y) ≡ false → y ≡ false
  second true y is = absurd (cc is)
  second false y is = is

  with_stands : (n : ℕ) (a : Node) (s : Step) (w : World) (arm : Option Arm) → at_place n w.nodes ≡ Some a → Stands w → Leaves w n s →
      (step_with n a s w arm).full ≡ false → Stands (step_with n a s w arm)
  with_stands n a s w None there z its free =
      put_stands n a s.after s.outs w there z (its (second w.full (overflows w.frames (sends n s.outs)) free))
  with_stands n a s w (Some r) there z its free = by (nat_lt (count_works s.halting) r.works) free
    where
      by : (b : Bool) → (if b then done_step n s (armed n (record r { works = r.works - count_works s.halting }) w) else
          halted_at n a (cut (r.works - 1) r.how s.halting a.disk) (disarmed n w)).full ≡ false →
          Stands (if b then done_step n s (armed n (record r { works = r.works - count_works s.halting }) w) else
          halted_at n a (cut (r.works - 1) r.how s.halting a.disk) (disarmed n w))
      by true free = put_stands n a s.after s.outs (armed n (record r { works = r.works - count_works s.halting }) w) there
          (record { calls = z.calls; trees = z.trees; asked = z.asked }) (its (second w.full (overflows w.frames (sends n s.outs)) free))
      by false free = let c = cut (r.works - 1) r.how s.halting a.disk in
          put_stands n a (record a { disk = c.disk; live = None }) (halted_outs n c) (disarmed n w) there
          (record { calls = z.calls; trees = z.trees; asked = z.asked }) (λ t live. absurd (cc live))

  -- ---- a node, whatever is known of it

  module _ (k : ℕ) (w : World) (z : Stands w) where
    -- what stays as it was
    same_leaves : (d : Disk) (live : Option Parts) → at_place k w.nodes ≡ Some (record { number = k; disk = d; live = live }) → (s : Step) →
        (let n = s.after in n.live) ≡ live → Leaves w k s
    same_leaves d live there s same fits t is = (
      ways_to k t.coord (IsUnderWay w.frames) (IsUnderWay (frames_with w.frames (sends k s.outs)))
          (more_frames w.frames (take (most_frames - length w.frames) (sends k s.outs)))
          (z.calls k (record { number = k; disk = d; live = live }) t there (sym same ∙ is)),
      z.trees k (record { number = k; disk = d; live = live }) t there (sym same ∙ is),
      asked_more k t.coord w.frames (take (most_frames - length w.frames) (sends k s.outs))
          (z.asked k (record { number = k; disk = d; live = live }) t there (sym same ∙ is)),
    )

    no_sends : NoneTo k []
    no_sends m i = i

    says_none : (b : Body) → NoneTo k (Say b ∷ [])
    says_none b m (inl is) = absurd (cc is)
    says_none b m (inr i) = i

    -- effects that are one line
    nothing_left : (j : ℕ) (r : Ran) → r.queue ≡ [] → rounds k j r ≡ r
    nothing_left zero r none = refl
    nothing_left (suc j) r none = λ i. elim (none i) [ [] ↦ r | m ∷ ms ↦ rounds k j (next_round k r) ]

    -- an action begins
    begin_leaves : (d : Disk) (t : Parts) → at_place k w.nodes ≡ Some (record { number = k; disk = d; live = Some t }) →
        (l : Label) (how : Kind) (parent : Option Label) →
        Leaves w k (Words.coord_did (record { number = k; disk = d; live = Some t }) t (acts (input.Begin l how parent) d.intents t.coord))
    begin_leaves d t there l how parent =
        let did = begin_action l how parent (parent_of parent t.coord) t.coord in
        let v = with_coord t did.part in
        let one : whole k v did.outs d ≡ ran k v did.outs d = nothing_left most_rounds (ran k v did.outs d) refl in
        subst (λ r. Leaves w k (input.steps_to (record { number = k; disk = d; live = Some t }) [] r)) (sym one)
        (λ fits x is. let same = some_is v x is in (
          subst (λ (y : Parts). AreUnderWay k y.coord (IsUnderWay (frames_with w.frames (sends k did.outs)))) same
              (landed k did.part w.frames did.outs (says_none _) fits
              (gone_on k t.coord did.part did.outs (IsUnderWay w.frames) (begins_go l how parent t.coord did.outs)
              (z.calls k (record { number = k; disk = d; live = Some t }) t there refl))),
          subst (λ (y : Parts). P y.coord.tree) same
              (begins how (parent_of parent t.coord) t.coord.tree
              (z.trees k (record { number = k; disk = d; live = Some t }) t there refl)),
          subst (λ (y : Parts). AreAsked k y.coord (frames_with w.frames (sends k did.outs))) same
              (asked_landed k t.coord did.part w.frames did.outs fits
              (λ q apart on. go_waits t.coord did.part did.outs (begins_go l how parent t.coord did.outs) q on)
              (z.asked k (record { number = k; disk = d; live = Some t }) t there refl)),
        ))

    begin_node : (l : Label) (how : Kind) (parent : Option Label) (d : Disk) (live : Option Parts) →
        at_place k w.nodes ≡ Some (record { number = k; disk = d; live = live }) →
        Leaves w k (step hd (record { number = k; disk = d; live = live }) (input.Begin l how parent))
    begin_node l how parent d None there =
        same_leaves d None there (only_says (record { number = k; disk = d; live = None }) (body.Refused 6)) refl
    begin_node l how parent d (Some t) there = by (refusal_up hd (input.Begin l how parent) t.coord)
      where
        by : (r : Option ℕ) → Leaves w k (step_unless hd (input.Begin l how parent) (record { number = k; disk = d; live = Some t }) r)
        by (Some c) = same_leaves d (Some t) there (only_says (record { number = k; disk = d; live = Some t }) (body.Refused c)) refl
        by None = begin_leaves d t there l how parent

    pub begins_stand : w.header ≡ hd → ((j : ℕ) (n : Node) → at_place j w.nodes ≡ Some n → n.number ≡ j) → (l : Label) (how : Kind)
        (parent : Option Label) → (steps k (input.Begin l how parent) w).full ≡ false → Stands (steps k (input.Begin l how parent) w)
    begins_stand header numbers l how parent = by (at_place k w.nodes) refl
      where
        by : (o : Option Node) → at_place k w.nodes ≡ o → (step_node k (input.Begin l how parent) w o).full ≡ false →
            Stands (step_node k (input.Begin l how parent) w o)
        by None there free = z
        by (Some a) there free =
            let mine_is : record { number = k; disk = a.disk; live = a.live } ≡ a =
            λ j. record { number = sym (numbers k a there) j; disk = a.disk; live = a.live } in
            with_stands k a (step w.header a (input.Begin l how parent)) w (Words.at_number k w.arms) there z
            (subst (λ x. Leaves w k (step x a (input.Begin l how parent))) (sym header)
            (subst (λ x. Leaves w k (step hd x (input.Begin l how parent))) mine_is
            (begin_node l how parent a.disk a.live (there ∙ ap Some (sym mine_is))))) free

  -- what the action that this node is asked leaves has such a tree, whoever it is
  abbrev pub MayAct : ℕ → World → Input → Type 0
  MayAct k w i = (a : Node) (t : Parts) → at_place k w.nodes ≡ Some a → a.live ≡ Some t → is_act i ≡ true → refusal_up hd i t.coord ≡ None →
      P t.coord.tree → P (acts i (let d = a.disk in d.intents) t.coord).part.tree

  -- ---- a node

  module _ (k : ℕ) (w : World) (known : IsKnown w) (z : Stands w) where
    abbrev Sees : Seen
    Sees = see known.sent w

    abbrev Ways : Post → Type 0
    Ways = IsUnderWay w.frames

    abbrev mine : Disk → Option Parts → Node
    mine d live = record { number = k; disk = d; live = live }

    -- the node as it stands in the world
    seen_at : (d : Disk) (live : Option Parts) → at_place k w.nodes ≡ Some (record { number = k; disk = d; live = live }) →
        AllKnown hd (at k d live (see known.sent w)) × IsGood (at k d live (see known.sent w))
    seen_at d live there = subst (λ f. let M : Seen = record (see known.sent w) { nodes = f } in AllKnown hd M × IsGood M)
        (λ i m. same m i) known.holds
      where
        x : Node
        x = record { number = k; disk = d; live = live }

        by : (m : ℕ) (b : Bool) → (m == k) ≡ b → at_place m w.nodes ≡ (if b then Some x else at_place m w.nodes)
        by m true e = ap (λ j. at_place j w.nodes) (eqb-true m k e) ∙ there
        by m false e = refl

        same : (m : ℕ) → at_place m w.nodes ≡ (if m == k then Some x else at_place m w.nodes)
        same m = by m (m == k) refl

    -- what is kept through a node's messages to itself
    abbrev Inner : (ℕ → Option Node) → (Post → Type 0) → (Body → Type 0) → Type 0
    Inner found F B = AreBrought (λ j. j ≡ k) (coords found) F B × ((c : Coord) → coords found k ≡ Some c → P c.tree)

    tree_left : (n : ℕ) (d : Disk) (t v : Parts) (from : ℕ) (m : Message) (outs : List Effect) → handle n d t from m ≡ Took v outs →
        P t.coord.tree → P v.coord.tree
    tree_left n d t v from m outs is its = subst (IsLeft (λ (c : Coord). P c.tree)) is (coord_kept (λ (c : Coord). P c.tree) n d t from its
        (λ a r. hears from a r d.intents t.coord its) (λ u. subst P (sym (acked_tree from u d.intents t.coord)) its) m)

    inner_message : (n : ℕ) (d : Disk) (t : Parts) (from : ℕ) (m : Message) (M : Seen) → AllKnown hd (up n d t M) × IsGood (up n d t M) →
        In (post_of from n m) M.sent → (F G : Post → Type 0) (B : Body → Type 0) → F (post_of from n m) → AllBut (post_of from n m) F G →
        ((q : Post) → G q → F q) → ((b : Body) → Words.IsSaid M.lines b → B b) → Inner (up n d t M).nodes F B →
        Left Inner n (record { disk = d; parts = t }) M.nodes G B (taken n d t from m)
    inner_message n d t from m M holds sent F G B under less back lines its =
        by (taken n d t from m) refl
        (message_brings hd (λ N. AllKnown hd N × IsGood N) gives homes (λ j. j ≡ k) n d t from m M holds sent F G B less lines its.0)
      where
        same : (v : Parts) (outs : List Effect) (j : ℕ) →
            coords (with_here n (record { disk = works outs d; parts = v }) M.nodes) j ≡ ways.put n v.coord (coords (up n d t M).nodes) j
        same v outs j = one (j == n)
          where
            one : (b : Bool) → coord_in (if b then Some (record { number = n; disk = works outs d; live = Some v }) else M.nodes j)
                ≡ (if b then Some v.coord else coord_in (if b then Some (record { number = n; disk = d; live = Some t }) else M.nodes j))
            one true = refl
            one false = refl

        tree : (v : Parts) (outs : List Effect) → taken n d t from m ≡ Took v outs → (c : Coord) →
            coords (with_here n (record { disk = works outs d; parts = v }) M.nodes) k ≡ Some c → P c.tree
        tree v outs so c found = here (k == n) refl found
          where
            here : (b : Bool) → (k == n) ≡ b →
                coord_in (if b then Some (record { number = n; disk = works outs d; live = Some v }) else M.nodes k) ≡ Some c → P c.tree
            here true e is = subst (λ (x : Coord). P x.tree) (some_is v.coord c is)
                (tree_left n d t v from m outs (taken_took n d t v from m outs so)
                (its.1 t.coord (λ i. coord_in (if e i then Some (record { number = n; disk = d; live = Some t }) else M.nodes k))))
            here false e is = its.1 c ((λ i. coord_in (if e i then Some (record { number = n; disk = d; live = Some t }) else M.nodes k))
                ∙ is)

        by : (r : Handled) → taken n d t from m ≡ r →
            Brought hd (λ N. AllKnown hd N × IsGood N) gives homes (λ j. j ≡ k) n (coords (up n d t M).nodes) G B r →
            Left Inner n (record { disk = d; parts = t }) M.nodes G B r
        by (Void outs) so b = (b, its.1)
        by (Took v outs) so b = (
          brought_of (λ j. j ≡ k) (ways.put n v.coord (coords (up n d t M).nodes))
              (coords (with_here n (record { disk = works outs d; parts = v }) M.nodes)) (Then G n outs) B (same v outs) b,
          tree v outs so,
        )

    inner_grows : (found : ℕ → Option Node) (F U : Post → Type 0) (B D : Body → Type 0) → resting.Flights.SameWay F U →
        ((b : Body) → B b → D b) → Inner found F B → Inner found U D
    inner_grows found F U B D on said i = (brought_more (λ j. j ≡ k) (coords found) F U B D on.0 said i.0, i.1)

    -- what a handler leaves, with all that the node sends itself
    whole_leaves : (d : Disk) (live : Option Parts) → at_place k w.nodes ≡ Some (record { number = k; disk = d; live = live }) →
        (v : Parts) (before outs : List Effect) → NoneTo k before → Walks Known w.event k outs (Up Known k v) d (see known.sent w) →
        AreUnderWay k v.coord (Then (IsUnderWay w.frames) k outs) → P v.coord.tree → (c : Coord) → WaitsOn c v.coord outs →
        AreAsked k c w.frames → Leaves w k (node_did (record { number = k; disk = d; live = live }) before v outs)
    whole_leaves d live there v before outs silent walks its tree c on asked fits t is =
        let q = whole k v outs d in
        let base = nodes_in w in
        let F : Post → Type 0 = IsUnderWay w.frames in
        let first = to_brought k v.coord (coords (with_here k (record { disk = works outs d; parts = v }) base)) (Then F k outs)
        (λ p o. inl (inr o))
        (here (works outs d) v) its in
        let all = whole_keeps hd Known keeps Inner inner_grows inner_message k w.event base d v outs (see known.sent w) F
        (λ b. ⊤) refl walks
        (λ b l. tt) (first, λ c at. subst (λ (x : Coord). P x.tree) (some_is v.coord c (sym (here (works outs d) v) ∙ at)) tree) in
        let same = some_is q.here.parts t is in
        let at_end : coords (with_here k q.here base) k ≡ Some t.coord = here q.here.disk q.here.parts
        ∙ ap (λ (x : Parts). Some x.coord) same in
        let ways = from_brought k t.coord (coords (with_here k q.here base)) (Then F k q.outs) _ at_end all.0 in (
          landed k t.coord w.frames (before ++ q.outs) (none_both k before q.outs silent (whole_none k v outs d)) fits
              (ways_to k t.coord (Then F k q.outs) (Then F k (before ++ q.outs))
              (λ p. ⊎_elim (λ f. inl f) (λ s. inr (s.0, in_right (Send p.to p.message) before q.outs s.1))) ways),
          all.1 t.coord at_end,
          asked_landed k c t.coord w.frames (before ++ q.outs) fits (λ x apart on_it. ⊎_elim (λ old. inl old)
              (λ a. inr (record { message = a.message; sent = in_right (Send x.node a.message) before q.outs a.sent; asks = a.asks }))
              (whole_asks k hd Known keeps homes w.event c d v outs (see known.sent w) walks on x apart
              (subst (λ (y : Parts). Waits y.coord x) (sym same) on_it))) asked,
        )
      where
        here : (c : Disk) (x : Parts) → coords (with_here k (record { disk = c; parts = x }) (nodes_in w)) k ≡ Some x.coord
        here c x = λ i. coord_in (if same_number k i then Some (record { number = k; disk = c; live = Some x }) else nodes_in w k)

    -- ---- what each input leaves

    -- what an action is asked leaves the tree so
    abbrev Acts : Disk → Parts → Input → Type 0
    Acts d t i = is_act i ≡ true → refusal_up hd i t.coord ≡ None → P t.coord.tree → P (acts i d.intents t.coord).part.tree

    module _ (d : Disk) (t : Parts) (there : at_place k w.nodes ≡ Some (record { number = k; disk = d; live = Some t })) where
      abbrev X : Node
      X = record { number = k; disk = d; live = Some t }

      its_calls : AreUnderWay k t.coord (IsUnderWay w.frames)
      its_calls = z.calls k (record { number = k; disk = d; live = Some t }) t there refl

      its_tree : P t.coord.tree
      its_tree = z.trees k (record { number = k; disk = d; live = Some t }) t there refl

      its_asked : AreAsked k t.coord w.frames
      its_asked = z.asked k (record { number = k; disk = d; live = Some t }) t there refl

      its_known : AllKnown hd (up k d t (see known.sent w)) × IsGood (up k d t (see known.sent w))
      its_known = seen_at d (Some t) there

      stays_so : (s : Step) → (let n = s.after in n.live) ≡ Some t → Leaves w k s
      stays_so s same = same_leaves k w z d (Some t) there s same

      message_leaves : (j from : ℕ) (m : Message) → In (post_of from k m) known.sent →
          Leaves w k (handled_step j (record { number = k; disk = d; live = Some t }) (taken k d t from m))
      message_leaves j from m sent = by (taken k d t from m) refl
          (message_brings hd (λ N. AllKnown hd N × IsGood N) gives homes (λ i. i ≡ k) k d t from m
          (see known.sent w) its_known sent (IsUnderWay w.frames) (IsUnderWay w.frames) (λ b. ⊤) (λ q f. inr f) (λ b l. tt)
          (to_brought k t.coord (coords (up k d t (see known.sent w)).nodes) (IsUnderWay w.frames) (λ p o. inr o) here its_calls))
        where
          here : coords (up k d t (see known.sent w)).nodes k ≡ Some t.coord
          here = λ i. coord_in (if same_number k i then Some (record { number = k; disk = d; live = Some t }) else nodes_in w k)

          by : (r : Handled) → taken k d t from m ≡ r →
              Brought hd (λ N. AllKnown hd N
              × IsGood N) gives homes (λ i. i ≡ k) k (coords (up k d t (see known.sent w)).nodes) (IsUnderWay w.frames) (λ b. ⊤) r →
              Leaves w k (handled_step j (record { number = k; disk = d; live = Some t }) r)
          by (Void outs) so b = stays_so (void_step j (record { number = k; disk = d; live = Some t }) outs) refl
          by (Took v outs) so b = whole_leaves d (Some t) there v (Say (body.Got j) ∷ []) outs (says_none k w z (body.Got j))
              (keeps.message w.event k d t v from m outs (see known.sent w) its_known sent (taken_meant k d t v from m outs so)
              (taken_took k d t v from m outs so))
              (from_brought k v.coord (ways.put k v.coord (coords (up k d t (see known.sent w)).nodes)) (Then (IsUnderWay w.frames) k outs)
              (λ b. ⊤)
              (λ i. if same_number k i then Some v.coord else coords (up k d t (see known.sent w)).nodes k) b)
              (tree_left k d t v from m outs (taken_took k d t v from m outs so) its_tree) t.coord
              (message_waits k d t v from m outs (homes k d t (see known.sent w) its_known) (taken_took k d t v from m outs so)) its_asked

      act_leaves : (i : Input) → is_act i ≡ true → AsksNode hd i → refusal_up hd i t.coord ≡ None → Acts d t i →
          Leaves w k (Words.coord_did (record { number = k; disk = d; live = Some t }) t (acts i d.intents t.coord))
      act_leaves i is asks_node free may = let did = acts i d.intents t.coord in
          whole_leaves d (Some t) there (with_coord t did.part) [] did.outs (no_sends k w z)
          (keeps.act w.event k d t i (see known.sent w) is asks_node free its_known)
          (gone_on k t.coord did.part did.outs (IsUnderWay w.frames)
          (acts_go i d.intents t.coord (homes k d t (see known.sent w) its_known) is)
          its_calls) (may is free its_tree) t.coord
          (go_waits t.coord did.part did.outs (acts_go i d.intents t.coord (homes k d t (see known.sent w) its_known) is)) its_asked

      tick_leaves : Leaves w k (Words.tick_step (record { number = k; disk = d; live = Some t }) t)
      tick_leaves =
          let r = again_all t.coord.doings t.coord in
          let outs = tick_outs (record { number = k; disk = d; live = Some t }) t in
          whole_leaves d (Some t) there (with_coord t r.part) [] outs (no_sends k w z)
          (keeps.tick w.event k d t (see known.sent w) its_known)
          (gone_on k t.coord r.part outs (IsUnderWay w.frames) (again_goes t.coord outs) its_calls)
          (subst P (sym (again_tree t.coord.doings t.coord)) its_tree) t.coord
          (go_waits t.coord r.part outs (again_goes t.coord outs)) its_asked

      up_leaves : (i : Input) → Comes hd known.sent k i → Acts d t i → refusal_up hd i t.coord ≡ None →
          Leaves w k (Words.step_up i (record { number = k; disk = d; live = Some t }) t)
      up_leaves (input.Frame j from None) comes may free = stays_so (void_step j (record { number = k; disk = d; live = Some t }) []) refl
      up_leaves (input.Frame j from (Some m)) comes may free = message_leaves j from m comes
      up_leaves input.Tick comes may free = tick_leaves
      up_leaves input.Restart comes may free = stays_so (input.does_nothing (record { number = k; disk = d; live = Some t })) refl
      up_leaves input.Crash comes may free = λ fits x is. absurd (cc is)
      up_leaves (input.Show x) comes may free = stays_so (input.show_step x (record { number = k; disk = d; live = Some t })) refl
      up_leaves (input.Begin l how parent) comes may free = begin_leaves k w z d t there l how parent
      up_leaves (input.Call l x o) comes may free = act_leaves (input.Call l x o) refl comes free may
      up_leaves (input.Include l x n) comes may free = act_leaves (input.Include l x n) refl comes free may
      up_leaves (input.Commit l) comes may free = act_leaves (input.Commit l) refl comes free may
      up_leaves (input.Abort l) comes may free = act_leaves (input.Abort l) refl comes free may
      up_leaves (input.GiveUp l) comes may free = act_leaves (input.GiveUp l) refl comes free may

    -- a node that is down
    down_leaves : (d : Disk) → at_place k w.nodes ≡ Some (record { number = k; disk = d; live = None }) → (i : Input) →
        Leaves w k (Words.step_down hd i (record { number = k; disk = d; live = None }))
    down_leaves d there (input.Frame j from m) = λ fits x is. absurd (cc is)
    down_leaves d there input.Restart =
        let v = parts_in k (d.inc + 1) d in
        whole_leaves d None there v [] (restart_outs hd k (d.inc + 1) d) (no_sends k w z)
        (keeps.restart w.event k d (see known.sent w) (seen_at d None there))
        (record {
          calls = λ u q s does now is. absurd (none_there u q does);
          commits = λ u q m j does now left. absurd (none_there u q does);
        })
        (fresh k (d.inc + 1)) (let v = parts_in k (d.inc + 1) d in v.coord)
        (λ x on. inl on) (λ x apart on. none_waits x on)
      where
        none_there : (u : Uid) (q : Doing) → doing_of u (let v = parts_in k (d.inc + 1) d in v.coord) ≡ Some q → ⊥
        none_there u q does = by (Words.is_own u (let v = parts_in k (d.inc + 1) d in let c = v.coord in c.tree)) u.num does
          where
            by : (b : Bool) (j : ℕ) → Words.cond b (at_place j []) None ≡ Some q → ⊥
            by false j is = cc is
            by true zero is = cc is
            by true (suc j) is = cc is

        none_waits : {A : Type 0} (x : Want) → Waits (let v = parts_in k (d.inc + 1) d in v.coord) x → A
        none_waits x (Calls u q s does now is) = absurd (none_there u q does)
        none_waits x (Commits u q m j does now left is) = absurd (none_there u q does)
    down_leaves d there input.Tick = λ fits x is. absurd (cc is)
    down_leaves d there input.Crash = λ fits x is. absurd (cc is)
    down_leaves d there (input.Show x) = λ fits y is. absurd (cc is)
    down_leaves d there (input.Begin l how parent) = λ fits x is. absurd (cc is)
    down_leaves d there (input.Call l x o) = λ fits y is. absurd (cc is)
    down_leaves d there (input.Include l x n) = λ fits y is. absurd (cc is)
    down_leaves d there (input.Commit l) = λ fits x is. absurd (cc is)
    down_leaves d there (input.Abort l) = λ fits x is. absurd (cc is)
    down_leaves d there (input.GiveUp l) = λ fits x is. absurd (cc is)

    node_leaves : (i : Input) → Comes hd known.sent k i → MayAct k w i → (d : Disk) (live : Option Parts) →
        at_place k w.nodes ≡ Some (record { number = k; disk = d; live = live }) →
        Leaves w k (step hd (record { number = k; disk = d; live = live }) i)
    node_leaves i comes may d None there = by (refusal_at hd i None)
      where
        by : (r : Option ℕ) → Leaves w k (step_unless hd i (record { number = k; disk = d; live = None }) r)
        by (Some c) = same_leaves k w z d None there (only_says (record { number = k; disk = d; live = None }) (body.Refused c)) refl
        by None = down_leaves d there i
    node_leaves i comes may d (Some t) there = by (refusal_up hd i t.coord) refl
      where
        by : (r : Option ℕ) → refusal_up hd i t.coord ≡ r → Leaves w k (step_unless hd i (record { number = k; disk = d; live = Some t }) r)
        by (Some c) is = same_leaves k w z d (Some t) there
            (only_says (record { number = k; disk = d; live = Some t }) (body.Refused c)) refl
        by None is = up_leaves d t there i comes (λ act free. may (record { number = k; disk = d; live = Some t }) t there refl act free) is

    pub steps_stand : (i : Input) → Comes hd known.sent k i → MayAct k w i → (steps k i w).full ≡ false → Stands (steps k i w)
    steps_stand i comes may = by (at_place k w.nodes) refl
      where
        there_is : (a : Node) → at_place k w.nodes ≡ Some a → record { number = k; disk = a.disk; live = a.live } ≡ a
        there_is a there = λ j. record { number = sym (known.numbers k a there) j; disk = a.disk; live = a.live }

        by : (o : Option Node) → at_place k w.nodes ≡ o → (step_node k i w o).full ≡ false → Stands (step_node k i w o)
        by None there free = z
        by (Some a) there free =
            let mine_is = there_is a there in
            with_stands k a (step w.header a i) w (Words.at_number k w.arms) there z
            (subst (λ x. Leaves w k (step x a i)) (sym known.header)
            (subst (λ x. Leaves w k (step hd x i)) mine_is (node_leaves i comes may a.disk a.live (there ∙ ap Some (sym mine_is))))) free
