-- A tick of a node, events that lose nothing, and a settle leave at the node only calls waiting that are overtaken: from the tick on what
-- answers whoever waits there is under way.
use Rattle.arj_law_parts.proofs.Words
use Words.{◌≡◌, ◌⊎◌, ◌∙◌, ◌+◌, ◌==◌, ◌||◌, ℕ, Bool, true, false, cond, List, [], ◌∷◌, ◌++◌, length, length-append, most_events, refl, sym}
use Words.{ap, subst, inr, ⊎_elim, Option, Some, None, is_some, option_map, and_parts, eqb-true, ◌≤◌, Header, Label, Move, Now, Uid}
use Words.{World, Calling, Committing, Idle, Coord, Doing, Branch, Intent, Input, actor, at_place, branch_named, call_reasons}
use Words.{commit_reasons, coord_in, coord_of, include_reasons, is_own, is_waiting_now, left_of, lowest_from, moved, on_branch}
use Words.{refusal_up, see, world_by, world_from, Machine, Steps, IsOvertaken, IsSaid, Did}
use Words.{acts as does}
use Words.input
use Rattle.arj_law_promise.proofs.Terms.{Holds, move_asked, moves_asked}
use Rattle.arj_law_promise.proofs.waiting.Untold.{its_up}
use Rattle.arj_law_runs.proofs.resting
use resting.{Acting.AsksOnly, Acting.moved_asks, Acting.ways_acted, Hearing.Moves, Quiesces.Ways, Quiesces.waits_only, Quiesces.ways_fewer}
use resting.{Quiesces.ways_message, Quiesces.ways_more, Quiesces.ways_ticked, Settles.Also, Settles.Nobody, Worlds.Flown}
use Rattle.arj_law_runs.specs.calls.Bindings.{HasFewBindings}
use Rattle.arj_model.specs.Actions.{Act, act_in, acts}
use Rattle.arj_model.specs.Past.{Past, at_start}
use Rattle.arj_model.specs.Refusals.{holds_of, is_waiting, waits_for}
use Rattle.arj_promise.specs.Runs.{HeaderFits, Run}
use Rattle.arj_protocol.specs.Asking as asking_of
use Rattle.arj_law_cause.proofs.quiesces.Alone.{named_branch, some_left}
use Rattle.arj_law_cause.proofs.quiesces.Answered as answered
use Rattle.arj_law_cause.proofs.quiesces.Answered.{Kept}
use Rattle.arj_law_cause.proofs.quiesces.Asking.{P, called, committed, gives, homes, included, keeps}
use Rattle.arj_law_cause.proofs.quiesces.Spans as spans
use Rattle.arj_law_cause.proofs.quiesces.Spans.{ActsKeep}
use Rattle.arj_law_cause.proofs.quiesces.Ties as ties
use Rattle.arj_law_cause.proofs.quiesces.Walked as walked
use Rattle.arj_law_cause.proofs.waits.waiting.Acting as working
use Rattle.arj_law_cause.specs.rounds.Quiesces.{is_overtaken}
use Rattle.arj_law_cause.specs.rounds.Rounds.{Did as Wrote, behind}
use Rattle.arj_law_cause.specs.rounds.Settles.{RunsSettle, SettlesSo}
use Rattle.arj_law_cause.specs.waits.waiting.Waits.{IsAt, IsAtWork}

-- ---- what is asked of an action

-- a doing that is at nothing
abbrev rests : Label → Doing
rests l = record { label = l; req = 0; now = Idle; took = [] }

-- what an input does with the action of its label, which is there, asks for all that waits by it
asked_only : (i : Input) (l : Label) (c : Coord) (intents : List (Uid × Intent)) (f : Branch → Did Coord) →
    (o : (br : Branch) × (branch_named l c ≡ Some br)) → does i intents c ≡ on_branch f c (branch_named l c) →
    Moves 0 Idle (actor o.0.path) c (f o.0).part (f o.0).outs → AsksOnly c (does i intents c)
asked_only i l c intents f o is moves = subst (AsksOnly c) (sym (is ∙ ap (on_branch f c) o.1)) (moved_asks (actor o.0.path) c (f o.0) moves)

module _ (hd : Header) (form : HeaderFits hd) where
  -- what answers whoever waits at these nodes is under way
  abbrev WaysAt : (ℕ → Type 0) → World → Type 0
  WaysAt nodes w = Flown (Ways nodes) (ways_more hd (P hd form) (gives hd form) (homes hd form) nodes) w

  only_call : (l : Label) (x : ℕ) (op : Words.Op) (c : Coord) (intents : List (Uid × Intent)) →
      refusal_up hd (input.Call l x op) c ≡ None → AsksOnly c (does (input.Call l x op) intents c)
  only_call l x op c intents free =
      let o = named_branch (call_reasons hd x op) c (branch_named l c) free in
      asked_only (input.Call l x op) l c intents (λ b. asking_of.call b.path x op c) o refl (called o.0 x op (rests l) c)

  only_include : (l : Label) (x s : ℕ) (c : Coord) (intents : List (Uid × Intent)) →
      refusal_up hd (input.Include l x s) c ≡ None → AsksOnly c (does (input.Include l x s) intents c)
  only_include l x s c intents free =
      let o = named_branch (include_reasons hd x) c (branch_named l c) free in
      asked_only (input.Include l x s) l c intents (λ b. asking_of.include b.path x s c) o refl (included o.0 x s (rests l) c)

  only_commit : (l : Label) (c : Coord) (intents : List (Uid × Intent)) → refusal_up hd (input.Commit l) c ≡ None →
      AsksOnly c (does (input.Commit l) intents c)
  only_commit l c intents free =
      let o = named_branch commit_reasons c (branch_named l c) free in
      asked_only (input.Commit l) l c intents (λ b. asking_of.commit_action b intents c) o refl (committed o.0 intents (rests l) c)

  -- what a coordinator does that is asked something keeps it
  asks_keep : (nodes : ℕ → Type 0) → ActsKeep hd (P hd form) (Ways nodes)
  asks_keep nodes n (input.Call l x op) one d t M h free F B own = ways_acted nodes n d t M F B (does (input.Call l x op) d.intents t.coord)
      (only_call l x op t.coord d.intents free) own
  asks_keep nodes n (input.Include l x s) one d t M h free F B own = ways_acted nodes n d t M F B
      (does (input.Include l x s) d.intents t.coord) (only_include l x s t.coord d.intents free) own
  asks_keep nodes n (input.Commit l) one d t M h free F B own = ways_acted nodes n d t M F B (does (input.Commit l) d.intents t.coord)
      (only_commit l t.coord d.intents free) own
  asks_keep nodes n i one d t M h free F B own = absurd (cc one)

  -- ---- behind a settle

  module _ (n : ℕ) (front : Run hd) (m : Move) (q : Past) (few : HasFewBindings (moved m (world_by hd front)).lines)
      (after : Kept hd form q (moved m (world_by hd front))) (flown : WaysAt (Also Nobody n) (moved m (world_by hd front)))
      (none : lowest_from 1 (moved m (world_by hd front)).frames ≡ None) where
    abbrev v : World
    v = moved m (world_by hd front)

    held_on : Holds hd (P hd form) (moved m (world_by hd front))
    held_on = move_asked hd (P hd form) (keeps hd form) m (world_by hd front) (moves_asked hd (P hd form) (keeps hd form) front)

    module _ (l : List ℕ) (begun : holds_of (λ (a : Act). a.uid.node == n) (act_in (acts q.lines) l) ≡ true)
        (waits : is_waiting q l ≡ true) where
      work : IsAtWork (moved m (world_by hd front)) l
      work = ties.at_work hd form q (moved m (world_by hd front)) after.all l waits

      abbrev d : Doing
      d = work.doing

      -- its node is this one
      its_node : work.number ≡ n
      its_node = sym home ∙ ap (λ (z : Uid). z.node) (sym x.uid)
          ∙ eqb-true (let a = x.act in a.uid.node) n (sym (ap (holds_of (λ (a : Act). a.uid.node == n)) named) ∙ begun)
        where
          x : working.Stands (see (let b = ties.base hd form q (moved m (world_by hd front)) after.all in let h = b.halts in h.sent)
              (moved m (world_by hd front)))
              (let b = ties.base hd form q (moved m (world_by hd front)) after.all in let h = b.halts in h.holds) work.number work.node
              work.parts work.there work.live work.act work.doing
          x = working.stands (see (let b = ties.base hd form q (moved m (world_by hd front)) after.all in let h = b.halts in h.sent)
              (moved m (world_by hd front)))
              (let b = ties.base hd form q (moved m (world_by hd front)) after.all in let h = b.halts in h.holds) work.number work.node
              work.parts work.there work.live work.act work.doing work.does

          named : act_in (acts q.lines) l ≡ Some x.act
          named = (λ i. act_in (acts (ties.same_lines hd form q (moved m (world_by hd front)) after.all i)) (sym work.label i)) ∙ x.named

          own : is_own work.act (let t = work.parts in t.coord.tree) ≡ true
          own = by (is_own work.act (let t = work.parts in t.coord.tree)) work.does
            where
              by : (b : Bool) → (cond b (at_place work.act.num (let t = work.parts in t.coord.doings)) None) ≡ Some work.doing → b ≡ true
              by true e = refl
              by false e = let no_way : ◌≡◌ {A = Option Doing} None (Some work.doing) = e in absurd (cc no_way)

          home : work.act.node ≡ work.number
          home = eqb-true work.act.node (let t = work.parts in t.coord.tree.node)
              (and_parts (work.act.node == (let t = work.parts in t.coord.tree.node))
              (work.act.inc == (let t = work.parts in t.coord.tree.inc)) own).0
              ∙ (let g = held_on.holds.1 in its_up g.0 (see held_on.sent (moved m (world_by hd front))) g.1 work.number work.node work.parts
              work.there work.live).node

      found : coord_in (at_place work.number (moved m (world_by hd front)).nodes) ≡ Some (let t = work.parts in t.coord)
      found = ap coord_in work.there ∙ ap (option_map coord_of) work.live

      so : is_waiting_now (let d = work.doing in d.now) ≡ true → is_overtaken q.lines (waits_for q.accepted q.lines l) ≡ true
      so waits_now = ⊎_elim by_call by_commit (waits_only (Also Nobody n) (moved m (world_by hd front)) none flown work.number
          (let t = work.parts in t.coord) work.act work.doing (inr its_node) found work.does waits_now)
        where
          by_call : (x : Steps) × ((let d = work.doing in d.now) ≡ Calling x)
              × IsOvertaken (IsSaid (moved m (world_by hd front)).lines) x → is_overtaken q.lines (waits_for q.accepted q.lines l) ≡ true
          by_call o =
              let e = answered.overtaken_so_far hd form front m q after few work.number work.node work.parts work.act work.doing o.0
              work.there work.live work.does o.1 o.2 in
              ap (λ k. is_overtaken q.lines (waits_for q.accepted q.lines k)) (sym work.label) ∙ ap (is_overtaken q.lines) e.1 ∙ e.2

          by_commit : (x : Machine) × ((let d = work.doing in d.now) ≡ Committing x) × (left_of x ≡ []) →
              is_overtaken q.lines (waits_for q.accepted q.lines l) ≡ true
          by_commit o = absurd (some_left (see held_on.sent (moved m (world_by hd front))) held_on.holds.1 work.number work.node work.parts
              work.there work.live work.act work.doing o.0 work.does o.1 o.2)

      only_overtaken : is_overtaken q.lines (waits_for q.accepted q.lines l) ≡ true
      only_overtaken = by (let d = work.doing in d.now) refl
          (ties.at_node hd form q (moved m (world_by hd front)) after.all work.number work.node work.parts work.act work.doing work.there
          work.live work.does)
        where
          by : (x : Now) → (let d = work.doing in d.now) ≡ x → IsAt q.accepted q.lines (let d = work.doing in d.label) x →
              is_overtaken q.lines (waits_for q.accepted q.lines l) ≡ true
          by (Calling x) now at = so (ap is_waiting_now now)
          by (Committing x) now at = so (ap is_waiting_now now)
          by Idle now at =
              let off : is_waiting q l ≡ false = ap (is_waiting q) (sym work.label) ∙ (λ i. is_some (at.0 i) || at.1 i) in
              let no_way : true ≡ false = sym waits ∙ off in absurd (cc no_way)

  -- ---- in a run

  settled_so : (n : ℕ) (first : Wrote) (between : List Wrote) (last : Wrote) (rest : List Wrote) (front : Run hd) (ms : List Move)
      (p : Past) → length front.moves + length ms ≤ most_events →
      walked.IsWalked hd form ms p (world_by hd front) (first ∷ (between ++ (last ∷ rest))) → SettlesSo hd p n first between last
  settled_so n first between last rest front ms p short k its =
      let e = spans.ends_so hd form (P hd form) (keeps hd form) (let g = gives hd form in g.within) Ways
      (λ nodes. ways_more hd (P hd form) (gives hd form) (homes hd form) nodes)
      (λ nodes. ways_message hd (P hd form) (gives hd form) (homes hd form) nodes)
      (ways_fewer hd (P hd form) (gives hd form) (homes hd form))
      (λ nodes n. ways_ticked hd (P hd form) (gives hd form) (homes hd form) nodes n) asks_keep
      (λ found F B. record { calls = λ k c u q s there. absurd there; commits = λ k c u q m n there. absurd there }) n first between last
      rest (Words.all_moved ms (world_by hd front)) front ms p short k refl its in
      λ l begun waits. only_overtaken n e.front e.move (behind p (first ∷ (between ++ (last ∷ [])))) e.few e.after e.flown e.none l begun
      waits

-- so it is in every run
pub runs_settle : RunsSettle
runs_settle hd r its = record {
  did = k.did;
  written = walked.run_written hd its.header r its;
  leaves = λ before n first between last rest are.
      let g = walked.goes_behind hd its.header before (first ∷ (between ++ (last ∷ rest))) r.moves (at_start r.start)
      (world_from hd r.start) (subst (walked.IsWalked hd its.header r.moves (at_start r.start) (world_from hd r.start)) are k.walked) in
      settled_so hd its.header n first between last rest (record r { moves = g.done }) g.left (behind (at_start r.start) before)
      (subst (λ j. j ≤ most_events) (ap (λ (ms : List Move). length ms) g.are ∙ length-append g.done g.left) its.few) g.walked;
}
  where
    k : walked.Walk hd its.header r.moves (at_start r.start) (world_from hd r.start)
    k = walked.run_walk hd its.header r its
